-- A canceled command's entry names a cancel of the connection's own stream.
use Rattle.std.proofs.Common.{◌≡◌, ◌<◌, ◌≤◌, ◌+◌, ◌-◌, ℕ, zero, suc, Bool, true, false, List, [], ◌∷◌, length, Contains, Some, None, refl, sym, ap, subst, ◌∙◌, inl, inr, arith}
use Rattle.std.specs.Prelude.{◌==◌, ◌||◌, nat_le, if◌then◌else◌}
use Rattle.std.specs.List.{list_any}
use Rattle.std.proofs.lemmas.Bool.{eq-eqb, leb-true}
use Rattle.std.proofs.lemmas.List.Elements.{All-contains}
use Rattle.history_spec.specs.Cancels.{IsCovered, cancels, cover}
use Rattle.history_spec.specs.Entry.{Entry}
use Rattle.history_spec.specs.Told.{entry_of}
use Rattle.cancel_words.specs.View.{IsZeroOrRaised, WordView}
use Rattle.connection_core.specs.Links.{AreCanceledBy, DecideFrom, Decides, IsSeatOf, upto_of}

-- ---- the word of a command

pub record HasWord (history : List Entry) (client number : ℕ) (loaded : List ℕ) : Type 0 where
  pub word : ℕ
  pub there : Contains loaded word
  pub decides : Decides history client number word

-- counted from 0 on
word_at : (history : List Entry) (client from k : ℕ) (loaded : List ℕ) → DecideFrom history client from loaded → k < length loaded → HasWord history client (from + k) loaded
word_at history client from k [] decide below = absurd (omega (arith, below))
word_at history client from zero (word ∷ loaded) decide below = record {
  word = word;
  there = (0, omega arith, refl);
  decides = subst (λ (n : ℕ). Decides history client n word) (let e : from ≡ from + 0 = omega arith in e) decide.0;
}
word_at history client from (suc k) (word ∷ loaded) decide below = let rest = word_at history client (from + 1) k loaded decide.1 (omega (arith, below)) in record {
  word = rest.word;
  there = (suc rest.there.0, omega (arith, rest.there.1), rest.there.2);
  decides = subst (λ (n : ℕ). Decides history client n rest.word) (let e : from + 1 + k ≡ from + suc k = omega arith in e) rest.decides;
}

-- ---- the cancel that raised it

finds : (numbers : List ℕ) (upto : ℕ) → Contains numbers upto → list_any (λ n. n == upto) numbers ≡ true
finds [] upto there = absurd (omega (arith, there.1))
finds (n ∷ numbers) upto (zero, below, is) = ap (λ (b : Bool). b || list_any (λ m. m == upto) numbers) (eq-eqb n upto is)
finds (n ∷ numbers) upto (suc i, below, is) = or_later (n == upto) (list_any (λ m. m == upto) numbers) (finds numbers upto (i, omega (arith, below), is))
  where
    or_later : (a b : Bool) → b ≡ true → (a || b) ≡ true
    or_later true b is = refl
    or_later false b is = is

-- what the word says of a canceled entry: it is the entry's number, and not below the command's
covers_as : (number word upto : ℕ) → Some upto ≡ cover (Some word) number → (upto ≡ word) × (number ≤ word)
covers_as number word upto is = by_test (nat_le number word) refl is
  where
    same : (a b : ℕ) → Some a ≡ Some b → a ≡ b
    same a b e = cc

    none : (a : ℕ) → Some a ≡ None → ⊥
    none a e = cc e

    by_test : (b : Bool) → nat_le number word ≡ b → Some upto ≡ (if b then Some word else None) → (upto ≡ word) × (number ≤ word)
    by_test true at e = (same upto word e, leb-true number word at)
    by_test false at e = absurd (none upto e)

pub covered_as : (history : List Entry) (client done number upto : ℕ) (taken : List ℕ) (seat : WordView) (e : Entry) → IsSeatOf history client done taken seat → 1 ≤ number → number ≤ done
    → entry_of history client number ≡ Some e → upto_of e.kind ≡ Some upto → IsCovered taken upto
covered_as history client done number upto taken seat e of some within found canceled =
    let at = word_at history client 1 (number - 1) seat.loaded of.decide (omega (arith, of.count, some, within)) in
    let decides = subst (λ (n : ℕ). Decides history client n at.word) (let e : 1 + (number - 1) ≡ number = omega (arith, some) in e) at.decides in
    let is = covers_as number at.word upto (sym canceled ∙ decides e found) in
    raised_by at.word is.0 (omega (arith, some, is.1)) (All-contains (IsZeroOrRaised seat.raised) seat.loaded at.word of.each at.there)
  where
    raised_by : (word : ℕ) → upto ≡ word → 1 ≤ word → IsZeroOrRaised seat.raised word → IsCovered taken upto
    raised_by word same positive (inl zero_is) = absurd (omega (arith, positive, zero_is))
    raised_by word same positive (inr there) =
        finds (cancels taken) upto (subst (λ (l : List ℕ). Contains l upto) of.raised_is (subst (Contains seat.raised) (sym same) there))

-- each entry of a canceled command names a cancel of what was taken
pub canceled_by : (history : List Entry) (client done : ℕ) (taken : List ℕ) (seat : WordView) → IsSeatOf history client done taken seat → AreCanceledBy taken history client done
canceled_by history client done taken seat of number upto e some within found canceled = covered_as history client done number upto taken seat e of some within found canceled
