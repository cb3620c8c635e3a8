-- A list of digests that is read one after the other.
use Rattle.std.proofs.Common.{◌≡◌, ℕ, suc, Bool, true, false, List, [], ◌∷◌, ◌++◌, Ok, Err, refl, ap, sym, ◌∙◌, append_assoc, append-nil}
use Rattle.std.specs.Prelude.{length, ◌==◌, ◌||◌, bytes_eq}
use Rattle.std.specs.List.{list_any}
use Rattle.std.proofs.lemmas.List.Folds.{list_any-append}
use Rattle.effect_spec.specs.Policies.{digests_of, joined}
use Rattle.tab_spec.specs.Values.{Reading, then_read, require, sized}
use Rattle.tab_spec.specs.declared.TheConstants.{RC_INSUFFICIENT, RC_SIZE}

-- what comes of the rest of a list, after the digests that were read
abbrev pub after : List (List ℕ) → Reading (List (List ℕ)) → Reading (List (List ℕ))
after branches reading = then_read reading (λ more rest. Ok (branches ++ more, rest))

-- one digest
abbrev pub digest_at : List ℕ → Reading (List ℕ)
digest_at bytes = require (λ digest. length digest == 32) RC_SIZE (sized RC_INSUFFICIENT bytes)

-- these digests of the list were read; so many are left, of these bytes
pub record ReadSoFar (digest : List ℕ) (whole : Reading (List (List ℕ))) (left : ℕ) (bytes all : List ℕ) (found : Bool) : Type 0 where
  pub branches : List (List ℕ)
  pub goes_on : whole ≡ after branches (digests_of left bytes)
  pub joined_is : all ≡ joined branches
  pub found_is : found ≡ list_any (λ branch. bytes_eq branch digest) branches

after_more : (branches : List (List ℕ)) (branch : List ℕ) (reading : Reading (List (List ℕ)))
    → after branches (then_read reading (λ digests rest. Ok (branch ∷ digests, rest))) ≡ after (branches ++ branch ∷ []) reading
after_more branches branch (Err code) = refl
after_more branches branch (Ok read) =
    ap (λ (all : List (List ℕ)). let answer : Reading (List (List ℕ)) = Ok (all, read.1) in answer) (sym (append_assoc branches (branch ∷ []) read.0))

joined_more : (branches : List (List ℕ)) (branch : List ℕ) → joined (branches ++ branch ∷ []) ≡ joined branches ++ branch
joined_more [] branch = append-nil branch
joined_more (first ∷ branches) branch = ap (λ (xs : List ℕ). first ++ xs) (joined_more branches branch) ∙ sym (append_assoc first (joined branches) branch)

or_none : (b : Bool) → (b || false) ≡ b
or_none true = refl
or_none false = refl

found_more : (digest : List ℕ) (branches : List (List ℕ)) (branch : List ℕ)
    → list_any (λ branch. bytes_eq branch digest) (branches ++ branch ∷ []) ≡ (list_any (λ branch. bytes_eq branch digest) branches || bytes_eq branch digest)
found_more digest branches branch =
    let same : List ℕ → Bool = λ branch. bytes_eq branch digest in
    list_any-append same branches (branch ∷ []) ∙ ap (λ (b : Bool). list_any same branches || b) (or_none (bytes_eq branch digest))

-- one digest more
pub one_read : (digest : List ℕ) (whole : Reading (List (List ℕ))) (left less : ℕ) (bytes rest all branch : List ℕ) (found : Bool)
    → ReadSoFar digest whole left bytes all found → left ≡ suc less → digest_at bytes ≡ Ok (branch, rest)
    → ReadSoFar digest whole less rest (all ++ branch) (found || bytes_eq branch digest)
one_read digest whole left less bytes rest all branch found so_far is e = record {
  branches = so_far.branches ++ branch ∷ [];
  goes_on =
      let next : digests_of left bytes ≡ then_read (digests_of less rest) (λ digests rest. Ok (branch ∷ digests, rest)) = rw (is, e) refl in
      so_far.goes_on ∙ ap (after so_far.branches) next ∙ after_more so_far.branches branch (digests_of less rest);
  joined_is = ap (λ (xs : List ℕ). xs ++ branch) so_far.joined_is ∙ sym (joined_more so_far.branches branch);
  found_is = ap (λ (b : Bool). b || bytes_eq branch digest) so_far.found_is ∙ sym (found_more digest so_far.branches branch);
}

-- a digest that is none ends the list
pub none_more : (digest : List ℕ) (whole : Reading (List (List ℕ))) (left less : ℕ) (bytes all : List ℕ) (found : Bool) (code : ℕ)
    → ReadSoFar digest whole left bytes all found → left ≡ suc less → digest_at bytes ≡ Err code → whole ≡ Err code
none_more digest whole left less bytes all found code so_far is e =
    let next : digests_of left bytes ≡ Err code = rw (is, e) refl in
    so_far.goes_on ∙ ap (after so_far.branches) next
