use Rattle.std.proofs.Common.{◌≡◌, ◌-◌, ◌∙◌, ◌++◌, ℕ, true, List, Option, drop, length, map, take, ap, sym, subst, arith}
use Rattle.std.specs.List.{remove}
use Rattle.std.specs.Vec.{with_items}
use Rattle.std.proofs.lemmas.List.{with_items_is}
use Rattle.tab_spec.specs.Numbers.{leave_limit}
use Rattle.world_spec.specs.World.{Client, Owned, World, closed_world, left_place, saved_numbers, without_client, without_places}
use Rattle.plain_machine.specs.Clients.{is_open_in, place_in}
use Rattle.plain_machine.specs.Owners.{owners_of}
use Rattle.plain_machine.proofs.OpenClients.{open_within, without_at}
use Rattle.plain_machine.proofs.world.World.close_client.Goals as goal

pub remove-requires : goal.remove-requires
remove-requires c =
    let clients = c.self.inside.clients.items in
    let there : is_open_in clients c.args.client ≡ true =
    subst (λ (w : World). is_open_in w.clients c.args.client ≡ true) (sym c.self.view_is) c.requires.open in
    let place : c.place_of-place.result ≡ place_in clients c.args.client =
    c.place_of-place.ensures ∙ ap (λ cs. place_in cs c.args.client) c.deref.ensures.value in
    omega (arith, place, open_within clients c.args.client there, c.self.inside.clients.ok)

pub returns : goal.returns
returns c =
    let inside = c.self.inside in
    let client = c.args.client in
    let clients = inside.clients.items in
    let shared = inside.shared in
    let before = owners_of shared.sessions.items in
    let all : List (Option Owned) → List ℕ = λ sessions. shared.left ++ saved_numbers client 0 sessions in
    let gone : List (Option Owned) → ℕ = λ sessions. length (all sessions) - leave_limit shared.most in
    let place : c.place_of-place.result ≡ place_in clients client =
    c.place_of-place.ensures ∙ ap (λ cs. place_in cs client) c.deref.ensures.value in
    let others : c.remove.new.self.items ≡ without_client client clients =
    c.remove.ensures.items ∙ ap (remove clients) place ∙ sym (without_at clients client) in
    let whole : length c.close.new.places ≡ shared.sessions.len = omega arith in
    let kept : owners_of (with_items shared.sessions c.close.new.places).items ≡ without_places (take (gone before) (all before)) (map (left_place client) before) =
    ap owners_of (with_items_is shared.sessions c.close.new.places whole) ∙ c.close.ensures.places
    ∙ ap (λ places. without_places (take (gone (owners_of places)) (all (owners_of places))) (map (left_place client) (owners_of places)))
    c.deref_mut.ensures.value in
    let left : c.close.new.self ≡ drop (gone before) (all before) =
    c.close.ensures.left ∙ ap (λ places. drop (gone (owners_of places)) (all (owners_of places))) c.deref_mut.ensures.value in
    let after : List Client → List (Option Owned) → List ℕ → World =
    λ clients sessions left. record {
      persist = shared.persist;
      most = shared.most;
      opened = inside.opened;
      clients = clients;
      sessions = sessions;
      left = left;
      object_sequence = shared.object_sequence;
      session_sequence = shared.session_sequence;
    } in
    (λ i. after (others i) (kept i) (left i)) ∙ ap (λ (w : World). closed_world w client) c.self.view_is
