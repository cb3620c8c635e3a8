-- The authorizations that were read so far, and those that are left.
use Rattle.std.proofs.Common.{◌≡◌, ◌+◌, ◌-◌, ◌<◌, ◌≤◌, ℕ, zero, suc, false, List, [], ◌∷◌, ◌++◌, length, take, replicate, refl, ap, ◌∙◌, append_assoc, append-nil, length-append, subst, arith}
use Rattle.std.specs.Prelude.{Option, Some, None, Ok, Err, ◌==◌}
use Rattle.std.proofs.Math.ListN.{set}
use Rattle.std.proofs.lemmas.Bool.{eq-eqb, ne_eqb}
use Rattle.tab_spec.specs.declared.Auth.{Auth}
use Rattle.tab_spec.specs.declared.TheConstants.{RC_AUTHSIZE}
use Rattle.tab_spec.specs.Auths.{no_auth, onto, auth_at, auths_from, area_with}

-- the authorizations that were read, before those that are read yet
abbrev pub before : List Auth → Option (List Auth) → Option (List Auth)
before done None = None
before done (Some more) = Some (done ++ more)

-- so many were read up to a place, and stand in the array before empty ones
pub record Filling (bytes : List ℕ) (end start at count : ℕ) (auths : List Auth) : Type 0 where
  pub done : List Auth
  pub counted : length done ≡ count
  pub few : count ≤ 3
  pub kept : auths ≡ take 3 (done ++ replicate 3 no_auth)
  pub left : auths_from 3 bytes end start ≡ before done (auths_from (3 - count) bytes end at)
  pub within : at ≤ end

before_none : (more : Option (List Auth)) → more ≡ before [] more
before_none None = refl
before_none (Some more) = refl

pub filling_starts : (bytes : List ℕ) (end start : ℕ) → start ≤ end → Filling bytes end start start 0 (no_auth ∷ no_auth ∷ no_auth ∷ [])
filling_starts bytes end start within = record { done = []; counted = refl; few = omega arith; kept = refl; left = before_none (auths_from 3 bytes end start); within = within }

-- one more in the array
kept_more : (done : List Auth) (count : ℕ) (auth : Auth) → length done ≡ count → count < 3
    → set (take 3 (done ++ replicate 3 no_auth)) count auth ≡ take 3 ((done ++ auth ∷ []) ++ replicate 3 no_auth)
kept_more [] count auth is lt = subst (λ (k : ℕ). set (no_auth ∷ no_auth ∷ no_auth ∷ []) k auth ≡ auth ∷ no_auth ∷ no_auth ∷ []) is refl
kept_more (a ∷ []) count auth is lt = subst (λ (k : ℕ). set (a ∷ no_auth ∷ no_auth ∷ []) k auth ≡ a ∷ auth ∷ no_auth ∷ []) is refl
kept_more (a ∷ b ∷ []) count auth is lt = subst (λ (k : ℕ). set (a ∷ b ∷ no_auth ∷ []) k auth ≡ a ∷ b ∷ auth ∷ []) is refl
kept_more (a ∷ b ∷ c ∷ rest) count auth is lt = absurd (omega arith)

before_more : (done : List Auth) (auth : Auth) (more : Option (List Auth)) → before done (onto auth more) ≡ before (done ++ auth ∷ []) more
before_more done auth None = refl
before_more done auth (Some more) = simp append_assoc

-- reading one more
from_more : (most : ℕ) (bytes : List ℕ) (end at : ℕ) (auth : Auth) → (at == end) ≡ false → auth_at bytes end at ≡ Some auth
    → auths_from (suc most) bytes end at ≡ onto auth (auths_from most bytes end auth.hmac.1)
unfolding auths_from
from_more most bytes end at auth before is = rw (before, is)

from_zero : (bytes : List ℕ) (end at : ℕ) → (at == end) ≡ false → auths_from 0 bytes end at ≡ None
unfolding auths_from
from_zero bytes end at before = rw before

-- nothing more, at the end
from_end : (most : ℕ) (bytes : List ℕ) (end at : ℕ) → at ≡ end → auths_from most bytes end at ≡ Some []
unfolding auths_from
from_end zero bytes end at is = rw (eq-eqb at end is)
from_end (suc most) bytes end at is = rw (eq-eqb at end is)

-- nothing, where one isn't whole
from_none : (most : ℕ) (bytes : List ℕ) (end at : ℕ) → (at == end) ≡ false → auth_at bytes end at ≡ None → auths_from most bytes end at ≡ None
unfolding auths_from
from_none zero bytes end at before is = rw before
from_none (suc most) bytes end at before is = rw (before, is)

-- one more was read
pub filling_more : (bytes : List ℕ) (end start at count : ℕ) (auths : List Auth) (auth : Auth) → Filling bytes end start at count auths
    → (at ≡ end → ⊥) → (count ≡ 3 → ⊥) → auth_at bytes end at ≡ Some auth → auth.hmac.1 ≤ end
    → Filling bytes end start auth.hmac.1 (count + 1) (set auths count auth)
filling_more bytes end start at count auths auth f apart room is within =
    let fewer : count < 3 = let few : count ≤ 3 = f.few in omega arith in
    let most : 3 - count ≡ suc (3 - (count + 1)) = omega arith in
    record {
      done = f.done ++ auth ∷ [];
      counted = let counted : length f.done ≡ count = f.counted in omega (arith, length-append f.done (auth ∷ []));
      few = omega arith;
      kept = ap (λ (all : List Auth). set all count auth) f.kept ∙ kept_more f.done count auth f.counted fewer;
      left = f.left ∙ ap (λ (n : ℕ). before f.done (auths_from n bytes end at)) most
          ∙ ap (before f.done) (from_more (3 - (count + 1)) bytes end at auth (ne_eqb at end apart) is)
          ∙ before_more f.done auth (auths_from (3 - (count + 1)) bytes end auth.hmac.1);
      within = within;
    }

-- the place isn't the end, and there is no room
pub filling_full : (bytes : List ℕ) (end start at count : ℕ) (auths : List Auth) → Filling bytes end start at count auths → (at ≡ end → ⊥) → count ≡ 3
    → area_with end (auths_from 3 bytes end start) ≡ Err RC_AUTHSIZE
filling_full bytes end start at count auths f apart full =
    let none : 3 - count ≡ 0 = omega arith in
    ap (area_with end) (f.left ∙ ap (λ (n : ℕ). before f.done (auths_from n bytes end at)) none ∙ ap (before f.done) (from_zero bytes end at (ne_eqb at end apart)))

-- an authorization isn't whole
pub filling_breaks : (bytes : List ℕ) (end start at count : ℕ) (auths : List Auth) → Filling bytes end start at count auths → (at ≡ end → ⊥) → auth_at bytes end at ≡ None
    → area_with end (auths_from 3 bytes end start) ≡ Err RC_AUTHSIZE
filling_breaks bytes end start at count auths f apart none =
    ap (area_with end) (f.left ∙ ap (before f.done) (from_none (3 - count) bytes end at (ne_eqb at end apart) none))

-- the place is the end
pub filling_ends : (bytes : List ℕ) (end start at count : ℕ) (auths : List Auth) → Filling bytes end start at count auths → at ≡ end
    → area_with end (auths_from 3 bytes end start) ≡ Ok (record { count = count; auths = auths; params = end })
filling_ends bytes end start at count auths f is =
    let all : auths_from 3 bytes end start ≡ Some f.done =
    f.left ∙ ap (before f.done) (from_end (3 - count) bytes end at is) ∙ ap (λ (done : List Auth). Some done) (append-nil f.done) in
    let counted : length f.done ≡ count = f.counted in
    let kept : auths ≡ take 3 (f.done ++ replicate 3 no_auth) = f.kept in
    rw (all, counted, kept) refl
