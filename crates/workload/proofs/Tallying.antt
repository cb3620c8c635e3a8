-- What one more byte of reply lines makes of a tally.
use Rattle.std.proofs.Common.{◌≡◌, ◌++◌, ℕ, Bool, true, false, cond, eqb, List, [], ◌∷◌, take, drop, refl, sym, ap, ◌∙◌, arith}
use Rattle.std.proofs.lemmas.Grind.{fold-append}
use Rattle.std.proofs.lemmas.List.{drop-take, length-take, take_all}
use Rattle.std.proofs.lemmas.Bool.{eq-eqb, ne_eqb}
use Rattle.tab_spec.specs.Count.{one_more}
use Rattle.tab_hash.specs.declared.sum.Sum.{Sum}
use Rattle.tab_hash.specs.Adding.{HasAdded}
use Rattle.script_spec.specs.Summary.{has_code_0}
use Rattle.workload.specs.declared.part.Part.{Part}
use Rattle.workload.specs.declared.part.Part.TheVariants.{Label, High, Low}
use Rattle.workload.specs.Reading.{IsTallied, at_first, byte_of, counted_if, ended, part_by, read_at, read_by, read_of, with_byte}

-- ---- one byte more is read

read_of-push : (bytes : List ℕ) (byte : ℕ) → read_of (bytes ++ byte ∷ []) ≡ read_by (read_of bytes) byte
unfolding read_of
read_of-push bytes byte = fold-append read_by at_first bytes (byte ∷ [])

-- by what was to come
read_next : (before after : List ℕ) (byte : ℕ) (part : Part) → after ≡ before ++ byte ∷ [] → (read_of before).part ≡ part
    → read_of after ≡ read_at part (read_of before) byte
read_next before after byte part is comes =
    ap read_of is ∙ read_of-push before byte ∙ ap (λ (p : Part). read_at p (read_of before) byte) comes

-- the first ten bytes tell whether the code is 0
code_in_front : (reply : List ℕ) → has_code_0 (take 10 reply) ≡ has_code_0 reply
code_in_front reply =
    let code = take 4 (drop 6 reply) in
    rw (drop-take 6 4 reply, take_all 4 code (omega (arith, length-take 4 (drop 6 reply)))) refl

-- ---- a tally of one byte more

module _ (sum : Sum) (front : List ℕ) (part next : Part) (count count_0 byte : ℕ) (before after : List ℕ) where
  -- in a label
  pub of_label : IsTallied sum front part count count_0 (read_of before) → after ≡ before ++ byte ∷ [] → next ≡ part_by part byte → part ≡ Label
      → IsTallied sum front next count count_0 (read_of after)
  of_label tallied is goes label = rw (read_next before after byte Label is (sym tallied.part_is ∙ label)) (record {
    added = tallied.added;
    front_is = tallied.front_is;
    part_is = goes ∙ ap (λ (p : Part). part_by p byte) label;
    count_is = tallied.count_is;
    count_0_is = tallied.count_0_is;
  })

  -- a first digit
  pub of_digit : IsTallied sum front part count count_0 (read_of before) → after ≡ before ++ byte ∷ [] → next ≡ part_by part byte → part ≡ High
      → (byte ≡ 10 → ⊥) → IsTallied sum front next count count_0 (read_of after)
  of_digit tallied is goes high other =
      let test : eqb byte 10 ≡ false = ne_eqb byte 10 other in
      let r = read_of before in
      let read : read_of after ≡ record r { part = Low byte } =
      read_next before after byte High is (sym tallied.part_is ∙ high) ∙ ap (λ (b : Bool). cond b (ended r) (record r { part = Low byte })) test in
      rw read (record {
        added = tallied.added;
        front_is = tallied.front_is;
        part_is = goes ∙ ap (λ (p : Part). part_by p byte) high ∙ ap (λ (b : Bool). cond b Label (Low byte)) test;
        count_is = tallied.count_is;
        count_0_is = tallied.count_0_is;
      })

  -- the newline
  pub of_newline : (front' : List ℕ) (count' count_0' : ℕ) → IsTallied sum front part count count_0 (read_of before) → after ≡ before ++ byte ∷ []
      → next ≡ part_by part byte → part ≡ High → byte ≡ 10 → front' ≡ [] → count' ≡ one_more count → count_0' ≡ counted_if (has_code_0 front) count_0
      → IsTallied sum front' next count' count_0' (read_of after)
  of_newline front' count' count_0' tallied is goes high newline cleared more more_0 =
      let test : eqb byte 10 ≡ true = eq-eqb byte 10 newline in
      let r = read_of before in
      let read : read_of after ≡ ended r =
      read_next before after byte High is (sym tallied.part_is ∙ high) ∙ ap (λ (b : Bool). cond b (ended r) (record r { part = Low byte })) test in
      let code : has_code_0 front ≡ has_code_0 r.reply = ap has_code_0 tallied.front_is ∙ code_in_front r.reply in
      rw read (record {
        added = tallied.added;
        front_is = cleared;
        part_is = goes ∙ ap (λ (p : Part). part_by p byte) high ∙ ap (λ (b : Bool). cond b Label (Low byte)) test;
        count_is = more ∙ ap one_more tallied.count_is;
        count_0_is = more_0 ∙ ap (λ (b : Bool). counted_if b count_0) code ∙ ap (counted_if (has_code_0 r.reply)) tallied.count_0_is;
      })

  -- a second digit
  pub of_byte : (sum' : Sum) (front' : List ℕ) (high spelled : ℕ) → IsTallied sum front part count count_0 (read_of before) → after ≡ before ++ byte ∷ []
      → next ≡ part_by part byte → part ≡ Low high → spelled ≡ byte_of high byte
      → ((all : List ℕ) → HasAdded sum all → HasAdded sum' (all ++ spelled ∷ []))
      → ((reply : List ℕ) → front ≡ take 10 reply → front' ≡ take 10 (reply ++ spelled ∷ []))
      → IsTallied sum' front' next count count_0 (read_of after)
  of_byte sum' front' high spelled tallied is goes low spells adds grows =
      let r = read_of before in
      let read : read_of after ≡ with_byte spelled r =
      read_next before after byte (Low high) is (sym tallied.part_is ∙ low) ∙ ap (λ (b : ℕ). with_byte b r) (sym spells) in
      rw read (record {
        added = adds r.all tallied.added;
        front_is = grows r.reply tallied.front_is;
        part_is = goes ∙ ap (λ (p : Part). part_by p byte) low;
        count_is = tallied.count_is;
        count_0_is = tallied.count_0_is;
      })
