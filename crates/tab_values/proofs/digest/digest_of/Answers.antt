use Rattle.std.proofs.Common.{◌≡◌, ◌+◌, ◌++◌, ◌∙◌, List, ℕ, sym, ap, subst, true, false}
use Rattle.tab_spec.specs.Values.{is_selected}
use Rattle.tab_hash.specs.Adding.{HasAdded}
use Rattle.tab_hash.specs.declared.sum.Sum.{Sum}
use Rattle.tab_values.proofs.Selecting.{values_below, values_also, values_not}
use Rattle.tab_values.proofs.digest.digest_of.Goals as goal
use Rattle.tab_values.proofs.digest.digest_of.Goals.{then-is_selected, else-is_selected}

pub loop-pcr-preserved : goal.loop-pcr-preserved
loop-pcr-preserved c =
    let pcrs = c.args.p.now.pcrs in
    let bits = c.args.bits in
    let pcr = c.loop-pcr.pcr in
    let before = values_below pcrs bits pcr in
    let sum = c.if-is_selected.sum in
    elim c.if-is_selected.branch [
      | then-is_selected w ↦
          let is : is_selected bits pcr ≡ true = sym c.is_selected.ensures ∙ w.if-is_selected.true in
          let all : before ++ w.pcr.result.now ≡ values_below pcrs bits (pcr + 1) = ap (λ (xs : List ℕ). before ++ xs) w.pcr.ensures ∙ sym (values_also pcrs bits pcr is) in
          subst (HasAdded sum) all (subst (λ (s : Sum). HasAdded s (before ++ w.pcr.result.now)) (sym w.sum-is) (w.add.ensures before c.loop-pcr.invariant))
      | else-is_selected w ↦
          let is : is_selected bits pcr ≡ false = sym c.is_selected.ensures ∙ w.if-is_selected.false in
          subst (HasAdded sum) (sym (values_not pcrs bits pcr is)) (subst (λ (s : Sum). HasAdded s before) (sym w.sum-is) c.loop-pcr.invariant)
    ]
