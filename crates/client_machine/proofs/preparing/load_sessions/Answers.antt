use Rattle.std.proofs.Common.{◌≡◌, ◌≤◌, ◌+◌, length, take, arith, inl, inr, subst, sym, ◌∙◌, ℕ, List, rules}
use Rattle.std.proofs.lemmas.Bool.{eq-eqb, eqb-true, ne_eqb}
use Rattle.session_swap.specs.declared.TheConstants.{NEEDED_MOST}
use Rattle.client_laws.specs.Ready.{named_sessions, starts_session}
use Rattle.session_swap.specs.Items.{AreLoaded}
use Rattle.std.proofs.lemmas.Result.{on_ok_weaker}
use Rattle.client_machine.proofs.preparing.load_sessions.Goals.{then-starts, else-starts}
use Rattle.client_machine.proofs.Loading.{gap_room, loads_few, loads_none, no_place, no_place_needed, no_places, places_are, room_made, room_told, sessions_moved}
use Rattle.client_machine.proofs.preparing.load_sessions.Goals as goal

pub returns-clause-prepared : goal.returns-clause-prepared
returns-clause-prepared g c =
    let seen = g.D.Device.seen in
    let left = c.make_sessions.ensures.moved in
    sessions_moved seen 3 c.args.device.now c.make_sessions.new.device c.args.held.now c.make_sessions.new.self left.0
    (gap_room (seen c.make_sessions.new.device).state
    (room_told (seen c.make_sessions.new.device).state c.args.held.now.sessions.numbers c.make_sessions.new.self left.0.stand left.0.numbers left.1)) (omega (arith, left.2)) c.requires.may.settled

pub returns-clause-ok : goal.returns-clause-ok
returns-clause-ok g c =
    on_ok_weaker c.make_sessions.result
    (λ made. (
      record {
        loaded = search rules;
        room = λ starts.
            elim c.if-starts.branch [
              | then-starts w ↦
                  room_made (g.D.Device.seen c.make_sessions.new.device).state c.args.held.now.sessions c.make_sessions.new.self
                  c.if-starts.from c.from-new_places.result w.active.result c.most-most.result w.active.ensures.numbers c.from-new_places.ensures w.from-is
                  c.most-most.ensures w.active.ensures.count (omega (arith, c.requires.clear.nobodys)) c.make_sessions.ensures.moved.0.numbers
                  c.make_sessions.ensures.moved.0.sessions.holders made.free made.few
              | else-starts w ↦ absurd (w.if-starts.false (eqb-true _ _ starts))
            ];
      },
      room_told (g.D.Device.seen c.make_sessions.new.device).state c.args.held.now.sessions.numbers c.make_sessions.new.self
          c.make_sessions.ensures.moved.0.stand c.make_sessions.ensures.moved.0.numbers c.make_sessions.ensures.moved.1,
    )) c.make_sessions.ensures.ok

pub returns-clause-still : goal.returns-clause-still
returns-clause-still g c needs =
    let a = c.args.admitted.now in
    let items = c.args.held.now.sessions.items in
    let named = c.sessions_of-count.ensures.named in
    let idle : AreLoaded (named_sessions a) items → c.from-new_places.result ≡ 0 → c.make_sessions.new.device ≡ c.args.device.now =
    λ loaded none.
    loads_none g.D.Device.seen _ _ _ c.from-new_places.result c.args.held.now.sessions c.make_sessions.new.self c.make_sessions.result c.make_sessions.ensures.room
    (subst (λ (l : List ℕ). AreLoaded l items) (sym named) loaded) none in
    elim needs [
      | inl (starts_none, loaded) ↦
          idle loaded (no_places (starts_session a) c.if-starts.from c.from-new_places.result c.from-new_places.ensures starts_none
          (λ some.
          elim c.if-starts.branch [
            | then-starts w ↦ eq-eqb _ _ w.if-starts.true
            | else-starts w ↦ sym w.from-is ∙ some
          ]))
      | inr (starts, full) ↦
          idle (subst (λ (l : List ℕ). AreLoaded l items) (sym (c.requires.starts starts)) tt)
          (elim c.if-starts.branch [
            | then-starts w ↦
                no_place c.if-starts.from c.from-new_places.result w.active.result c.most-most.result _ c.from-new_places.ensures w.from-is w.active.ensures.count
                (omega (arith, full, c.most-most.ensures))
            | else-starts w ↦ absurd (w.if-starts.false (eqb-true _ _ starts))
          ])
    ]

pub returns-clause-costs : goal.returns-clause-costs
returns-clause-costs g c =
    let a = c.args.admitted.now in
    let view = c.args.held.now.sessions in
    let fits : length (take c.sessions_of-count.result.0 c.sessions_of-count.result.1) + c.from-new_places.result ≤ NEEDED_MOST = search rules in
    loads_few g.D.Device.seen c.args.device.now c.make_sessions.new.device c.args.held.now c.make_sessions.new.self a _ c.from-new_places.result
    c.make_sessions.result c.make_sessions.ensures.moved.0.numbers c.make_sessions.ensures.room fits c.sessions_of-count.ensures.named
    (elim c.if-starts.branch [
      | then-starts w ↦
          places_are (starts_session a) c.if-starts.from c.from-new_places.result w.active.result c.most-most.result view c.from-new_places.ensures w.from-is
          c.most-most.ensures w.active.ensures.count (eq-eqb _ _ w.if-starts.true)
      | else-starts w ↦
          no_place_needed (starts_session a) c.if-starts.from c.from-new_places.result view c.from-new_places.ensures w.from-is
          (ne_eqb _ _ w.if-starts.false)
    ])
