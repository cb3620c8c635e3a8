use Rattle.std.proofs.Common.{◌≡◌, ◌∙◌, List, length, get_or, ap, sym, arith}
use Rattle.std.proofs.lemmas.List.{length-map, get_or-map, take_all}
use Rattle.tab_spec.specs.declared.TheConstants.{SESSION_NUMBERS}
use Rattle.fx_capability.specs.Lists.{session_in}
use Rattle.device_spec.specs.Slots.{SessionPlace, inactive, listed_from, listed_place}
use Rattle.device_slots.specs.Listed.{sessions_of}
use Rattle.device_slots.specs.Views.{place_of, places_of}
use Rattle.device_slots.proofs.Listed.{head_of, session_found, session_listed}
use Rattle.device_slots.proofs.capability.SlotMachineHoldings.session.Goals as goal

pub returns : goal.returns
returns c =
    let items = c.self.inside.sessions.items in
    let n = c.args.number in
    let many : length items ≡ SESSION_NUMBERS = c.self.invariant.1 in
    let many_seen : length (places_of items) ≡ SESSION_NUMBERS = length-map items place_of ∙ many in
    let seen : sessions_of c.args.self.now ≡ places_of items =
    ap sessions_of (sym c.self.view_is) ∙ take_all SESSION_NUMBERS (places_of items) (omega (arith, many_seen)) in
    let here : get_or (places_of items) n inactive ≡ place_of c.index.result.now =
    get_or-map place_of items n c.index.result.now inactive (omega (arith, many, c.requires)) ∙ ap place_of (sym c.index.ensures) in
    session_listed c.held_session.result (listed_place n (place_of c.index.result.now)) (session_in n (listed_from 0 (sessions_of c.args.self.now)))
    (ap (λ (ps : List SessionPlace). session_in n (listed_from 0 ps)) seen
    ∙ session_found n (places_of items) (omega (arith, many_seen))
    ∙ ap (λ (p : SessionPlace). head_of (listed_place n p)) here)
    c.held_session.ensures
