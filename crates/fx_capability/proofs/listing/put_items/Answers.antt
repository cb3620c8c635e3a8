use Rattle.std.proofs.Common.{◌≡◌, ◌+◌, ◌-◌, ℕ, List, ◌∷◌, ◌++◌, length, take, ap, sym, ◌∙◌, arith, length-append}
use Rattle.effect_spec.specs.Capabilities.{joined_items}
use Rattle.fx_capability.proofs.Putting.{put_more}
use Rattle.fx_capability.proofs.listing.put_items.Goals as goal

pub loop-number-preserved : goal.loop-number-preserved
loop-number-preserved g c =
    let items = g.L.Listing.items c.args.list.now in
    let reply = c.loop-number.reply in
    let bytes = c.as_slice.result.now in
    let key = c.from-next-in-loop-number.result in
    let whole = c.args.reply.now ++ joined_items (take c.args.count (items c.args.least)) in
    let ok = rw c.unwrap.ensures at c.put_bytes.ensures.ok in
    let is : items c.loop-number.next ≡ bytes ∷ items (key + 1) =
    c.in-Some.ensures
    ∙ ap (λ (n : ℕ). c.in-Some.item.bytes ∷ items (n + 1)) (sym c.from-next-in-loop-number.ensures)
    ∙ ap (λ (b : List ℕ). b ∷ items (key + 1)) (sym c.as_slice.ensures.same) in
    record {
      put = ap (λ (xs : List ℕ). xs ++ joined_items (take (c.args.count - (c.loop-number._number + 1)) (items (key + 1)))) ok
          ∙ put_more reply bytes whole c.args.count c.loop-number._number (items c.loop-number.next) (items (key + 1))
          c.loop-number-test.true is c.loop-number.invariant.put;
      size = omega (arith, ap length ok, length-append reply bytes, c.as_slice.ensures.most, c.loop-number.invariant.size);
    }
