use Rattle.std.proofs.Common.{refl, ◌∙◌, ap}
use Rattle.std.specs.List.{find}
use Rattle.std.specs.Prelude.{nat_le, ℕ, List}
use Rattle.effect_spec.specs.Capabilities.{property_pairs}
use Rattle.fx_capability.specs.Views.{limits_of}
use Rattle.fx_capability.proofs.Pairs.{property_found, property_none}
use Rattle.fx_capability.proofs.properties.PropertiesListing.item_from.Goals as goal

pub returns-in-Some : goal.returns-in-Some
returns-in-Some g c =
    let held = c.args.self.now.held.now in
    let pairs = property_pairs (limits_of c.args.self.now.limits.now) (g.H.Holdings.objects held) (g.H.Holdings.sessions held) c.args.self.now.active in
    rw (c.pair_item.ensures.bytes, c.pair_item.ensures.key)
    (property_found c.args.least pairs c.in-Some.pair.now refl
    (c.in-Some.ensures ∙ ap (λ (xs : List (ℕ × ℕ)). find (λ (p : ℕ × ℕ). nat_le c.args.least p.0) xs) c.pairs_of-pairs.ensures))

pub returns-in-None : goal.returns-in-None
returns-in-None g c =
    let held = c.args.self.now.held.now in
    let pairs = property_pairs (limits_of c.args.self.now.limits.now) (g.H.Holdings.objects held) (g.H.Holdings.sessions held) c.args.self.now.active in
    property_none c.args.least pairs refl
    (c.in-None.ensures ∙ ap (λ (xs : List (ℕ × ℕ)). find (λ (p : ℕ × ℕ). nat_le c.args.least p.0) xs) c.pairs_of-pairs.ensures)
