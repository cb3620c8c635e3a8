-- What an outcome tells where it is known whether it is an error.
use Rattle.std.proofs.Common.{◌≡◌, true, false, Option, None, Result, Ok, Err, ap}
use Rattle.std.specs.Prelude.{is_some, IsSome, is_err, IfOk, IfErr, OnOk, OnErr}

pub from_ok : {A E : Type 0} (r : Result A E) (P : Type 0) → OnOk r P → is_err r ≡ false → P
from_ok (Ok x) P p e = p
from_ok (Err x) P p e = absurd cc

pub from_err : {A E : Type 0} (r : Result A E) (P : Type 0) → OnErr r P → is_err r ≡ true → P
from_err (Ok x) P p e = absurd cc
from_err (Err x) P p e = p

pub from_if_ok : {A E : Type 0} (r : Result A E) (P : A → Type 0) → IfOk r P → is_err r ≡ false → (x : A) × P x
from_if_ok (Ok x) P p e = (x, p)
from_if_ok (Err x) P p e = absurd cc

pub not_some : {A : Type 0} (o : Option A) → o ≡ None → IsSome o → ⊥
not_some o none some = let yes : is_some o ≡ true = some in let no : is_some o ≡ false = ap is_some none in cc

pub if_err_weaker : {A E : Type 0} {P Q : E → Type 0} (r : Result A E) → ((e : E) → P e → Q e) → IfErr r P → IfErr r Q
if_err_weaker (Ok x) weaker p = tt
if_err_weaker (Err e) weaker p = weaker e p

pub on_ok_both : {A E : Type 0} (r : Result A E) (P Q : Type 0) → OnOk r P → OnOk r Q → OnOk r (P × Q)
on_ok_both (Ok x) P Q p q = (p, q)
on_ok_both (Err e) P Q p q = tt
