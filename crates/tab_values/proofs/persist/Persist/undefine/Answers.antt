use Rattle.std.proofs.Common.{◌≡◌, ◌∙◌, List, ap, sym, subst, map, arith}
use Rattle.std.specs.List.{AllByRecursion, position_or_len}
use Rattle.tab_spec.specs.Persist.{Persist}
use Rattle.tab_spec.specs.NvIndex.{NvIndex, IsNvIndex, is_index, without_index}
use Rattle.tab_laws.proofs.Indexes.{all_without, without_absent}
use Rattle.tab_values.specs.Views.{nv_index_of}
use Rattle.tab_values.proofs.Places.{without_shown}
use Rattle.tab_values.proofs.persist.Persist.undefine.Goals as goal

-- what is left of the indexes
left : (c : goal.After-remove) → map nv_index_of c.remove.new.self.items ≡ without_index c.args.index (map nv_index_of c.self.inside.nv.items)
left c =
    let is = subst (λ (p : Persist). c.in-Some.place ≡ position_or_len (is_index c.args.index) p.nv) (sym c.self.view_is) c.in-Some.ensures.1 in
    ap (map nv_index_of) c.remove.ensures.items ∙ without_shown c.args.index c.self.inside.nv.items c.in-Some.place is

pub invariant_of-self : goal.invariant_of-self
invariant_of-self c = (
  c.self.invariant.0,
  omega (arith, c.remove.ensures.len, c.self.invariant.1),
  omega (arith, c.remove.ensures.capacity, c.self.invariant.2),
  subst (AllByRecursion IsNvIndex) (sym (left c)) (all_without c.args.index (map nv_index_of c.self.inside.nv.items) c.self.invariant.3),
  c.self.invariant.4,
)

pub returns-in-Some : goal.returns-in-Some
returns-in-Some c =
    let kept = c.self.inside in
    ap (λ (nv : List NvIndex). record { seed = kept.seed; place = kept.place; owner_auth = kept.owner_auth; nv = nv; pcrs = kept.pcrs; updates = kept.updates }) (left c)
    ∙ ap (λ (p : Persist). record p { nv = without_index c.args.index p.nv }) c.self.view_is

pub returns-in_default : goal.returns-in_default
returns-in_default c = ap (λ (nv : List NvIndex). record c.args.self.now { nv = nv }) (sym (without_absent c.args.index c.args.self.now.nv c.in_default.ensures))
