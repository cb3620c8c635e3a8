use Rattle.std.proofs.Common.{◌≡◌, ◌≤◌, ◌+◌, ◌++◌, ◌∙◌, List, ap, sym, subst, map, length, take, drop}
use Rattle.std.specs.Prelude.{Option, Some, IsSomeAnd, IfSome}
use Rattle.std.specs.List.{AllByRecursion, position_or_len}
use Rattle.tab_spec.specs.Persist.{Persist}
use Rattle.tab_spec.specs.NvIndex.{NvIndex, IsNvIndex, is_index, index_in, with_index, with_bytes}
use Rattle.tab_laws.proofs.Indexes.{all_with, found_sound, written_is}
use Rattle.tab_values.specs.Views.{nv_index_of}
use Rattle.tab_values.proofs.Places.{item_seen, with_shown}
use Rattle.tab_values.proofs.Writing.{length_written}
use Rattle.tab_values.proofs.persist.Persist.write_index.Goals as goal

pub write-requires : goal.write-requires
write-requires c =
    let items = c.self.inside.nv.items in
    let item = c.index_mut.result.now in
    let found = item_seen c.args.index items c.args.self.now.nv c.in-Some.place item (ap (λ (p : Persist). p.nv) c.self.view_is) c.in-Some.ensures.0 c.in-Some.ensures.1 c.index_mut.ensures.value in
    subst (λ (o : Option NvIndex). IsSomeAnd o (λ i. c.args.at + length c.args.bytes.now ≤ length i.bytes)) found c.requires

-- the index at its place, before it was written
found : (c : goal.After-self-1) → index_in c.args.index c.args.self.now.nv ≡ Some (nv_index_of c.index_mut.result.now)
found c = item_seen c.args.index c.self.inside.nv.items c.args.self.now.nv c.in-Some.place c.index_mut.result.now (ap (λ (p : Persist). p.nv) c.self.view_is) c.in-Some.ensures.0 c.in-Some.ensures.1 c.index_mut.ensures.value

pub invariant_of-self : goal.invariant_of-self
invariant_of-self c =
    let items = c.self.inside.nv.items in
    let old = nv_index_of c.index_mut.result.now in
    let bytes = take c.args.at old.bytes ++ c.args.bytes.now ++ drop (c.args.at + length c.args.bytes.now) old.bytes in
    let seen = ap (λ (p : Persist). p.nv) c.self.view_is in
    let place = c.in-Some.ensures.1 ∙ ap (position_or_len (is_index c.args.index)) (sym seen) in
    let room = subst (λ (o : Option NvIndex). IsSomeAnd o (λ i. c.args.at + length c.args.bytes.now ≤ length i.bytes)) (found c) c.requires in
    let kept = subst (AllByRecursion IsNvIndex) seen c.self.invariant.3 in
    let was = subst (λ (o : Option NvIndex). IfSome o IsNvIndex) (found c) (found_sound c.args.index c.args.self.now.nv kept) in
    let is = subst IsNvIndex (sym c.write.ensures) (written_is old bytes was (length_written c.args.at old.bytes c.args.bytes.now room)) in (
      c.self.invariant.0,
      c.self.invariant.1,
      c.self.invariant.2,
      subst (AllByRecursion IsNvIndex) (sym (with_shown c.args.index items c.in-Some.place c.write.new.self place))
          (all_with c.args.index (nv_index_of c.write.new.self) (map nv_index_of items) is c.self.invariant.3),
      c.self.invariant.4,
    )

pub returns-in-Some : goal.returns-in-Some
returns-in-Some c =
    let kept = c.self.inside in
    let items = kept.nv.items in
    let old = nv_index_of c.index_mut.result.now in
    let bytes = take c.args.at old.bytes ++ c.args.bytes.now ++ drop (c.args.at + length c.args.bytes.now) old.bytes in
    let place = c.in-Some.ensures.1 ∙ ap (λ (p : Persist). position_or_len (is_index c.args.index) p.nv) (sym c.self.view_is) in
    rw (found c) (
    ap (λ (nv : List NvIndex). record { seed = kept.seed; place = kept.place; owner_auth = kept.owner_auth; nv = nv; pcrs = kept.pcrs; updates = kept.updates })
    (with_shown c.args.index items c.in-Some.place c.write.new.self place ∙ ap (λ (x : NvIndex). with_index c.args.index x (map nv_index_of items)) c.write.ensures)
    ∙ ap (λ (p : Persist). record p { nv = with_index c.args.index (with_bytes old bytes) p.nv }) c.self.view_is
    )
