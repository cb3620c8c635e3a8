use Rattle.std.proofs.Common.{◌≡◌, ◌+◌, ◌-◌, [], ◌∷◌, ◌++◌, Some, length, length-append, refl, sym, ap, ◌∙◌, arith}
use Rattle.script_lines.specs.Labels.{LabelsView}
use Rattle.script_lines.specs.Places.{somes}
use Rattle.script_lines.proofs.LabelLemmas.{seen, push_same, somes-push, last_is, kept_taken_back}
use Rattle.script_lines.proofs.labels.Labels.take_back.Goals as goal

pub unwrap-last-requires : goal.unwrap-last-requires
unwrap-last-requires c =
    let items : c.self.inside.items.items ≡ c.pop.new.self.items ++ c.unwrap.result ∷ [] = rw c.unwrap.ensures at c.pop.ensures.items in
    let x = c.requires.1 in
    let open_is : somes (c.pop.new.self.items ++ c.unwrap.result ∷ []) ≡ c.requires.0 ++ x ∷ [] =
    ap somes (sym items) ∙ ap (λ (v : LabelsView). v.present) c.self.view_is ∙ c.requires.2 in
    let last : x.client + 1 ≡ length (c.pop.new.self.items ++ c.unwrap.result ∷ []) =
    c.requires.3 ∙ sym (ap (λ (v : LabelsView). v.opened) c.self.view_is) ∙ ap length items in
    rw (last_is c.pop.new.self.items c.unwrap.result _ _ c.requires.0 x (rw items at c.self.invariant) open_is last) refl

pub invariant_of-self : goal.invariant_of-self
invariant_of-self c =
    let items : c.self.inside.items.items ≡ c.pop.new.self.items ++ c.unwrap.result ∷ [] = rw c.unwrap.ensures at c.pop.ensures.items in
    let whole : c.self.inside.items.items ≡ c.pop.new.self.items ++ Some c.unwrap-last.result ∷ [] = rw c.unwrap-last.ensures at items in
    kept_taken_back c.pop.new.self.items c.unwrap-last.result _ _ _ (rw whole at c.self.invariant) c.remove.ensures.updates.0

pub returns : goal.returns
returns c = λ xs x is.
    let items : c.self.inside.items.items ≡ c.pop.new.self.items ++ c.unwrap.result ∷ [] = rw c.unwrap.ensures at c.pop.ensures.items in
    let whole : c.self.inside.items.items ≡ c.pop.new.self.items ++ Some c.unwrap-last.result ∷ [] = rw c.unwrap-last.ensures at items in
    let both : somes c.pop.new.self.items ++ c.unwrap-last.result ∷ [] ≡ xs ++ x ∷ [] =
    sym (somes-push c.pop.new.self.items c.unwrap-last.result) ∙ sym (ap somes whole) ∙ ap (λ (v : LabelsView). v.present) c.self.view_is ∙ is in
    let front = push_same (somes c.pop.new.self.items) xs c.unwrap-last.result x both in
    let len : length c.pop.new.self.items ≡ c.args.self.now.opened - 1 =
    omega (arith, ap (λ (v : LabelsView). v.opened) c.self.view_is, ap length whole, length-append c.pop.new.self.items (Some c.unwrap-last.result ∷ [])) in
    let done : seen c.pop.new.self.items ≡ record { present = xs; opened = c.args.self.now.opened - 1 } = rw (front, len) refl in
    done
