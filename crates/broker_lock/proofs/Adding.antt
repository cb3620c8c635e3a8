-- What a seat adds to the history in its turn.
use Rattle.std.proofs.Common.{◌≡◌, ℕ, Bool, true, false, cond, true≢false, List, [], ◌∷◌, ◌++◌, refl, sym, ap, ◌∙◌, subst, ⊎_elim, arith}
use Rattle.std.proofs.lemmas.List.{append-nil}
use mathlib.Core.List.{IsPrefix}
use Rattle.history_spec.specs.declared.EntryKind.{EntryKind}
use Rattle.history_spec.specs.declared.EntryKind.TheVariants.{Open, Command, Canceled, Fault, Close}
use Rattle.history_spec.specs.Entry.{Entry, own}
use Rattle.broker_lock.specs.Known.{HasJustKnown, knows, of_known}
use Rattle.broker_lock.specs.Turn.{IsOrderly, MayAdd, MayEnterAs, no_entry, one_entry}
use Rattle.broker_lock.proofs.Knowing.{decided, knows_either, knows_its_own, knows_one, knows_right, of_known-append, of_known_more, of_known_stays, own-append, own_in_order, own_none}

-- whose entry is added, and was in the history, is known
old_by : (k : EntryKind) (known log : List Entry) (e : Entry) → IsOrderly log → MayEnterAs k known log e → knows log e.client ≡ true → knows known e.client ≡ true
old_by Open known log e orderly may there = let below = orderly.below e.client there in absurd (omega (arith, may))
old_by Command known log e orderly may there = may
old_by (Canceled upto) known log e orderly may there = may
old_by Fault known log e orderly may there = may
old_by Close known log e orderly may there = may

pub old_is_known : (known log added : List Entry) (client : ℕ) → IsOrderly log → MayAdd known log added → knows added client ≡ true → knows log client ≡ true → knows known client ≡ true
old_is_known known log _ client orderly no_entry k there = absurd (true≢false (sym k))
old_is_known known log _ client orderly (one_entry e may) k there =
    let is = knows_one client e k in
    subst (λ (n : ℕ). knows known n ≡ true) is (old_by e.kind known log e orderly may (subst (λ (n : ℕ). knows log n ≡ true) (sym is) there))

-- whose entry is added and who isn't known is new to the history
pub new_to_log : (known log added : List Entry) (client : ℕ) → IsOrderly log → MayAdd known log added → knows added client ≡ true → knows known client ≡ false → knows log client ≡ false
new_to_log known log added client orderly may k unknown =
    ⊎_elim
    (λ (there : knows log client ≡ true). absurd (true≢false (sym (old_is_known known log added client orderly may k there) ∙ unknown)))
    (λ (new : knows log client ≡ false). new)
    (decided (knows log client))

-- others' entries stay
pub others_stay : (known log added : List Entry) (client : ℕ) → IsOrderly log → MayAdd known log added → knows known client ≡ false → knows log client ≡ true
    → own (log ++ added) client ≡ own log client
others_stay known log added client orderly may unknown there =
    own-append client log added ∙ ap (λ (l : List Entry). own log client ++ l) none ∙ append-nil (own log client)
  where
    none : own added client ≡ []
    none = ⊎_elim
        (λ (k : knows added client ≡ true). absurd (true≢false (sym (old_is_known known log added client orderly may k there) ∙ unknown)))
        (λ (k : knows added client ≡ false). own_none client added k)
        (decided (knows added client))

-- of each client that is known afterwards, the history has the known entries
pub own_more : (known log added : List Entry) → IsOrderly log → HasJustKnown known log → MayAdd known log added → HasJustKnown (known ++ added) (log ++ added)
own_more known log added orderly own_is may client k =
    own-append client log added ∙ ap (λ (l : List Entry). l ++ own added client) before ∙ sym (own-append client known added)
  where
    before : own log client ≡ own known client
    before = ⊎_elim
        (λ (old : knows known client ≡ true). own_is client old)
        (λ (unknown : knows known client ≡ false). ⊎_elim
        (λ (old : knows known client ≡ true). own_is client old)
        (λ (now : knows added client ≡ true). own_none client log (new_to_log known log added client orderly may now unknown) ∙ sym (own_none client known unknown))
        (knows_either client known added k))
        (decided (knows known client))

-- and in the order of the history
of_added : (known log added : List Entry) → MayAdd known log added → of_known (known ++ added) added ≡ added
of_added known log _ no_entry = refl
of_added known log _ (one_entry e may) =
    ap (λ (b : Bool). cond b (e ∷ []) []) (knows_right e.client known (e ∷ []) (knows_its_own e []))

pub order_more : (known front log added : List Entry) → known ≡ of_known known front → IsPrefix front log → IsOrderly log → HasJustKnown known log → MayAdd known log added
    → known ++ added ≡ of_known (known ++ added) (log ++ added)
order_more known front log added order pre orderly own_is may =
    (ap (λ (l : List Entry). l ++ added) before ∙ ap (λ (l : List Entry). of_known (known ++ added) log ++ l) (sym (of_added known log added may))) ∙ sym (of_known-append (known ++ added) log added)
  where
    before : known ≡ of_known (known ++ added) log
    before = order ∙ sym (of_known_stays known front log pre (own_in_order known front order) own_is)
        ∙ sym (of_known_more known added log (λ client there now. old_is_known known log added client orderly may now there))
