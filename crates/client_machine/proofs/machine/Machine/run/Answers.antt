use Rattle.std.proofs.Common.{rules, subst, ◌≡◌, ◌∙◌, ap, sym, refl, true, false, [], arith, is_some}
use Rattle.std.specs.Prelude.{Err, ℕ, List, Option}
use Rattle.std.proofs.lemmas.Result.{err_from_is_err_and}
use Rattle.client_laws.specs.Ready.{tells_object, tells_session}
use Rattle.object_swap.specs.Items.{owner_at}
use Rattle.client_machine.specs.Moves.{MayStart, first_handle, moves_for}
use Rattle.client_machine.proofs.Before.{fails_asking, fails_sending}
use Rattle.client_machine.proofs.Ran.{ends_own, may_adopt, may_start, outcome_else, outcome_then, prepared, prepared_frame, prepared_taken, serves_failed}
use Rattle.client_machine.proofs.Handing.{slice_bytes}
use Rattle.client_machine.proofs.Orphans.{prepares_failed, prepares_then}
use Rattle.client_machine.proofs.Costs.{sent_alone, sent_none}
use Rattle.client_machine.proofs.Moving.{sent_more, sent_then}
use Rattle.client_machine.proofs.Saving.{SavedOne, outcome_saved, saved_now, saved_owned}
use Rattle.client_machine.proofs.Settling.{keeps_over_sessions, sessions_settled}
use Rattle.device_port.proofs.Sending.{asks_some, asks_then, cause_then}
use Rattle.session_swap.specs.Items.{SessionsView}
use Rattle.client_machine.proofs.machine.Machine.run.Goals as goal

pub returns-in_err-prepare : goal.returns-in_err-prepare
returns-in_err-prepare g c = record {
  serves =
      let returned = c.from_residual in
      serves_failed c.args.client c.args.table.now.items returned.result (err_from_is_err_and returned.result returned.ensures.1) (omega arith)
      c.prepare.ensures.prepared c.requires.may.own_table c.in_err-prepare.ensures.sends.asks.cause (omega (arith, c.prepare.ensures.costs))
      (fails_asking g.D.Device.seen _ _ _ c.in_err-prepare.ensures.sends.asks);
  carries = search rules;
  at_hand = λ hand. sent_none g.D.Device.seen 1 _ _ (c.prepare.ensures.still hand);
  few = λ calm.
      sent_more g.D.Device.seen (moves_for g.D.Device.CONTEXTS c.args.self.now.held c.args.table.now.items c.args.admitted.now c.args.bytes.now) 1 _ _
      (c.prepare.ensures.few calm);
}

pub send-requires-clause-frame : goal.send-requires-clause-frame
send-requires-clause-frame g c =
    prepared_frame
    (prepared c.args.client c.args.table.now.items c.args.admitted.now c.args.bytes.now c.prepare.ensures.prepared c.requires.may.own_table c.requires.may.admitted c.requires.sort
    c.requires.may.moves (g.met.D.Device.profile c.prepare.new.device) c.type_inv.bytes c.in_ok-prepare.ensures.ready c.prepare.ensures.costs c.in_ok-prepare.ensures.stays c.in_ok-prepare.ensures.used c.as_slice.ensures.value)

pub send-requires-clause-told : goal.send-requires-clause-told
send-requires-clause-told g c =
    prepared_taken
    (prepared c.args.client c.args.table.now.items c.args.admitted.now c.args.bytes.now c.prepare.ensures.prepared c.requires.may.own_table c.requires.may.admitted c.requires.sort
    c.requires.may.moves (g.met.D.Device.profile c.prepare.new.device) c.type_inv.bytes c.in_ok-prepare.ensures.ready c.prepare.ensures.costs c.in_ok-prepare.ensures.stays c.in_ok-prepare.ensures.used c.as_slice.ensures.value)
    (sym c.saves_one.ensures ∙ c.if-saves_one.false)

pub returns-in_err-send : goal.returns-in_err-send
returns-in_err-send g c = record {
  serves =
      let seen = g.D.Device.seen in
      let between = c.prepare.new.device in
      let failed = c.in_err-send.ensures.err in
      let returned = c.from_residual-in_err-send in
      serves_failed {most = 100} c.args.client c.args.table.now.items returned.result (err_from_is_err_and returned.result returned.ensures.1) (omega arith)
      (prepares_then seen _ between _ _ c.prepare.new.held _ (omega arith) c.prepare.ensures.prepared
      (prepares_failed seen between c.send.new.device c.prepare.new.held c.prepare.new.held
      (record { base_is = failed.base_is; tells = ap (λ s. is_some s) failed.state_is; count = failed.count }) failed.state_is refl
      c.prepare.ensures.prepared.settled))
      c.requires.may.own_table
      (cause_then g.D.Device.CONTEXTS seen _ between _ _ c.in_ok-prepare.ensures.sends.asks.count failed.cause)
      (omega (arith, c.prepare.ensures.costs, failed.sent.once))
      (fails_sending seen _ between _ _ tt c.in_ok-prepare.ensures.sends.asks failed.sent);
  carries = search rules;
  at_hand = λ hand.
      sent_alone g.D.Device.seen _ c.prepare.new.device _ (c.prepare.ensures.still hand) c.in_err-send.ensures.err.sent.once;
  few = λ calm.
      sent_then g.D.Device.seen (moves_for g.D.Device.CONTEXTS c.args.self.now.held c.args.table.now.items c.args.admitted.now c.args.bytes.now) _ c.prepare.new.device _
      (c.prepare.ensures.few calm) (omega (arith, c.in_err-send.ensures.err.sent.once));
}

pub keep_sessions-requires-clause-started : goal.keep_sessions-requires-clause-started
keep_sessions-requires-clause-started g c =
    let p = prepared c.args.client c.args.table.now.items c.args.admitted.now c.args.bytes.now c.prepare.ensures.prepared c.requires.may.own_table c.requires.may.admitted
    c.requires.sort c.requires.may.moves (g.met.D.Device.profile c.prepare.new.device) c.type_inv.bytes c.in_ok-prepare.ensures.ready c.prepare.ensures.costs c.in_ok-prepare.ensures.stays c.in_ok-prepare.ensures.used c.as_slice.ensures.value in
    λ tells.
    subst (λ (reply : List ℕ). MayStart reply c.prepare.new.held.sessions) (sym c.as_slice-2.ensures.value)
    (may_start p c.in_ok-send.ensures.ok (ap (λ (reply : List ℕ). tells_session c.args.admitted.now reply) (sym c.as_slice-2.ensures.value) ∙ tells))

pub keep_sessions-requires-clause-own : goal.keep_sessions-requires-clause-own
keep_sessions-requires-clause-own g c =
    let p = prepared c.args.client c.args.table.now.items c.args.admitted.now c.args.bytes.now c.prepare.ensures.prepared c.requires.may.own_table c.requires.may.admitted
    c.requires.sort c.requires.may.moves (g.met.D.Device.profile c.prepare.new.device) c.type_inv.bytes c.in_ok-prepare.ensures.ready c.prepare.ensures.costs c.in_ok-prepare.ensures.stays c.in_ok-prepare.ensures.used c.as_slice.ensures.value in
    λ ends. ends_own c.as_slice-2.result.now p ends

pub adopt-requires-clause-may : goal.adopt-requires-clause-may
adopt-requires-clause-may g c =
    let p = prepared c.args.client c.args.table.now.items c.args.admitted.now c.args.bytes.now c.prepare.ensures.prepared c.requires.may.own_table c.requires.may.admitted
    c.requires.sort c.requires.may.moves (g.met.D.Device.profile c.prepare.new.device) c.type_inv.bytes c.in_ok-prepare.ensures.ready c.prepare.ensures.costs c.in_ok-prepare.ensures.stays c.in_ok-prepare.ensures.used c.as_slice.ensures.value in
    may_adopt c.args.table.now.spare p c.in_ok-send.ensures.ok c.requires.may.room
    (ap (λ (reply : List ℕ). tells_object c.args.admitted.now reply) (sym c.as_slice-3.ensures.value) ∙ sym c.tells_object.ensures ∙ c.if-tells_object.true)

pub adopt-requires-clause-list : goal.adopt-requires-clause-list
adopt-requires-clause-list g c =
    ap (λ (owners : List (Option ℕ)). owner_at owners c.args.list) c.prepare.ensures.prepared.lists ∙ c.requires.may.own_list

pub returns-then-tells_object : goal.returns-then-tells_object
returns-then-tells_object g c = record {
  serves =
      let p = prepared c.args.client c.args.table.now.items c.args.admitted.now c.args.bytes.now c.prepare.ensures.prepared c.requires.may.own_table c.requires.may.admitted
      c.requires.sort c.requires.may.moves (g.met.D.Device.profile c.prepare.new.device) c.type_inv.bytes c.in_ok-prepare.ensures.ready c.prepare.ensures.costs c.in_ok-prepare.ensures.stays c.in_ok-prepare.ensures.used c.as_slice.ensures.value in
      let sent = c.in_ok-send.ensures.ok in
      let tells : tells_object c.args.admitted.now c.send.new.reply ≡ true =
      ap (λ (reply : List ℕ). tells_object c.args.admitted.now reply) (sym c.as_slice-3.ensures.value) ∙ sym c.tells_object.ensures ∙ c.if-tells_object.true in
      (outcome_then c.adopt.new.objects c.keep_sessions.new.sessions p sent c.in_ok-prepare.ensures.sends.before c.prepare.ensures.still
      (sym c.saves_one.ensures ∙ c.if-saves_one.false) (may_adopt c.args.table.now.spare p sent c.requires.may.room tells) tells c.adopt.ensures.adopted.0 c.adopt.ensures.adopted.1
      c.adopt.ensures.rest c.adopt.ensures.reply c.keep_sessions.ensures c.as_slice-2.ensures.value).serves;
  carries =
      let p = prepared c.args.client c.args.table.now.items c.args.admitted.now c.args.bytes.now c.prepare.ensures.prepared c.requires.may.own_table c.requires.may.admitted
      c.requires.sort c.requires.may.moves (g.met.D.Device.profile c.prepare.new.device) c.type_inv.bytes c.in_ok-prepare.ensures.ready c.prepare.ensures.costs c.in_ok-prepare.ensures.stays c.in_ok-prepare.ensures.used c.as_slice.ensures.value in
      let sent = c.in_ok-send.ensures.ok in
      let tells : tells_object c.args.admitted.now c.send.new.reply ≡ true =
      ap (λ (reply : List ℕ). tells_object c.args.admitted.now reply) (sym c.as_slice-3.ensures.value) ∙ sym c.tells_object.ensures ∙ c.if-tells_object.true in
      (outcome_then c.adopt.new.objects c.keep_sessions.new.sessions p sent c.in_ok-prepare.ensures.sends.before c.prepare.ensures.still
      (sym c.saves_one.ensures ∙ c.if-saves_one.false) (may_adopt c.args.table.now.spare p sent c.requires.may.room tells) tells c.adopt.ensures.adopted.0 c.adopt.ensures.adopted.1
      c.adopt.ensures.rest c.adopt.ensures.reply c.keep_sessions.ensures c.as_slice-2.ensures.value).carries;
  at_hand = λ hand.
      sent_alone g.D.Device.seen _ c.prepare.new.device _ (c.prepare.ensures.still hand) c.in_ok-send.ensures.ok.sent.once;
  few = λ calm.
      sent_then g.D.Device.seen (moves_for g.D.Device.CONTEXTS c.args.self.now.held c.args.table.now.items c.args.admitted.now c.args.bytes.now) _ c.prepare.new.device _
      (c.prepare.ensures.few calm) (omega (arith, c.in_ok-send.ensures.ok.sent.once));
}

pub returns-else-tells_object : goal.returns-else-tells_object
returns-else-tells_object g c = record {
  serves =
      let p = prepared c.args.client c.args.table.now.items c.args.admitted.now c.args.bytes.now c.prepare.ensures.prepared c.requires.may.own_table c.requires.may.admitted
      c.requires.sort c.requires.may.moves (g.met.D.Device.profile c.prepare.new.device) c.type_inv.bytes c.in_ok-prepare.ensures.ready c.prepare.ensures.costs c.in_ok-prepare.ensures.stays c.in_ok-prepare.ensures.used c.as_slice.ensures.value in
      let tells : tells_object c.args.admitted.now c.send.new.reply ≡ false =
      ap (λ (reply : List ℕ). tells_object c.args.admitted.now reply) (sym c.as_slice-3.ensures.value) ∙ sym c.tells_object.ensures ∙ c.if-tells_object.false in
      (outcome_else c.keep_sessions.new.sessions p c.in_ok-send.ensures.ok c.in_ok-prepare.ensures.sends.before c.prepare.ensures.still
      (sym c.saves_one.ensures ∙ c.if-saves_one.false) tells c.keep_sessions.ensures c.as_slice-2.ensures.value).serves;
  carries =
      let p = prepared c.args.client c.args.table.now.items c.args.admitted.now c.args.bytes.now c.prepare.ensures.prepared c.requires.may.own_table c.requires.may.admitted
      c.requires.sort c.requires.may.moves (g.met.D.Device.profile c.prepare.new.device) c.type_inv.bytes c.in_ok-prepare.ensures.ready c.prepare.ensures.costs c.in_ok-prepare.ensures.stays c.in_ok-prepare.ensures.used c.as_slice.ensures.value in
      let tells : tells_object c.args.admitted.now c.send.new.reply ≡ false =
      ap (λ (reply : List ℕ). tells_object c.args.admitted.now reply) (sym c.as_slice-3.ensures.value) ∙ sym c.tells_object.ensures ∙ c.if-tells_object.false in
      (outcome_else c.keep_sessions.new.sessions p c.in_ok-send.ensures.ok c.in_ok-prepare.ensures.sends.before c.prepare.ensures.still
      (sym c.saves_one.ensures ∙ c.if-saves_one.false) tells c.keep_sessions.ensures c.as_slice-2.ensures.value).carries;
  at_hand = λ hand.
      sent_alone g.D.Device.seen _ c.prepare.new.device _ (c.prepare.ensures.still hand) c.in_ok-send.ensures.ok.sent.once;
  few = λ calm.
      sent_then g.D.Device.seen (moves_for g.D.Device.CONTEXTS c.args.self.now.held c.args.table.now.items c.args.admitted.now c.args.bytes.now) _ c.prepare.new.device _
      (c.prepare.ensures.few calm) (omega (arith, c.in_ok-send.ensures.ok.sent.once));
}

pub returns-in_err-client_save : goal.returns-in_err-client_save
returns-in_err-client_save g c = record {
  serves =
      let seen = g.D.Device.seen in
      let between = c.prepare.new.device in
      let failed = c.in_err-client_save.ensures in
      let returned = c.from_residual-in_err-client_save in
      serves_failed {most = 100} c.args.client c.args.table.now.items returned.result (err_from_is_err_and returned.result returned.ensures.1) (omega arith)
      (prepares_then seen _ between _ _ c.prepare.new.held _ (omega arith) c.prepare.ensures.prepared
      (prepares_failed seen between c.client_save.new.device c.prepare.new.held _ (keeps_over_sessions _ _ _ failed.stands.rest) failed.asks.err
      (ap (λ (v : SessionsView). record { objects = c.prepare.new.held.objects; sessions = v }) failed.err) c.prepare.ensures.prepared.settled))
      c.requires.may.own_table
      (cause_then g.D.Device.CONTEXTS seen _ between _ _ c.in_ok-prepare.ensures.sends.asks.count failed.asks.cause)
      (omega (arith, c.prepare.ensures.costs, failed.asks.once))
      (fails_asking seen _ _ _ (asks_then g.D.Device.CONTEXTS seen _ between _ tt (Err _) c.in_ok-prepare.ensures.sends.asks (asks_some g.D.Device.CONTEXTS seen _ _ _ (Err _) failed.asks)));
  carries = search rules;
  at_hand = λ hand.
      sent_alone g.D.Device.seen _ c.prepare.new.device _ (c.prepare.ensures.still hand) c.in_err-client_save.ensures.asks.once;
  few = λ calm.
      sent_then g.D.Device.seen (moves_for g.D.Device.CONTEXTS c.args.self.now.held c.args.table.now.items c.args.admitted.now c.args.bytes.now) _ c.prepare.new.device _
      (c.prepare.ensures.few calm) (omega (arith, c.in_err-client_save.ensures.asks.once));
}

pub client_save-requires-clause-stand : goal.client_save-requires-clause-stand
client_save-requires-clause-stand g c =
    ([], sessions_settled (g.D.Device.seen c.prepare.new.device).state c.prepare.new.held c.prepare.ensures.prepared.settled)

pub client_save-requires-clause-may : goal.client_save-requires-clause-may
client_save-requires-clause-may g c =
    let p = prepared c.args.client c.args.table.now.items c.args.admitted.now c.args.bytes.now c.prepare.ensures.prepared c.requires.may.own_table c.requires.may.admitted
    c.requires.sort c.requires.may.moves (g.met.D.Device.profile c.prepare.new.device) c.type_inv.bytes c.in_ok-prepare.ensures.ready c.prepare.ensures.costs c.in_ok-prepare.ensures.stays c.in_ok-prepare.ensures.used refl in
    record {
      owned = saved_owned p (sym c.saves_one.ensures ∙ c.if-saves_one.true);
      loaded = search rules;
      gap = search rules;
      counter = search rules;
    }

pub returns-then-saves_one : goal.returns-then-saves_one
returns-then-saves_one g c = record {
  serves =
      let D = g.D.Device in
      let p = prepared c.args.client c.args.table.now.items c.args.admitted.now c.args.bytes.now c.prepare.ensures.prepared c.requires.may.own_table c.requires.may.admitted
      c.requires.sort c.requires.may.moves (g.met.D.Device.profile c.prepare.new.device) c.type_inv.bytes c.in_ok-prepare.ensures.ready c.prepare.ensures.costs c.in_ok-prepare.ensures.stays c.in_ok-prepare.ensures.used refl in
      let saved : SavedOne D.CONTEXTS D.seen c.prepare.new.device c.client_save.new.device c.prepare.new.held c.client_save.new.self
      (first_handle c.args.admitted.now) c.client_save.new.reply =
      saved_now c.client_save.ensures.stands.rest c.client_save.ensures.sessions
      (sessions_settled (D.seen c.prepare.new.device).state c.prepare.new.held c.prepare.ensures.prepared.settled)
      c.client_save.ensures.stands.stand c.client_save.ensures.room c.in_ok-client_save.ensures.ok.0 c.in_ok-client_save.ensures.ok.1 in
      (outcome_saved c.client_save.new.self p (sym c.saves_one.ensures ∙ c.if-saves_one.true) (slice_bytes c.args.bytes.now c.type_inv.bytes) saved
      c.in_ok-prepare.ensures.sends.before c.prepare.ensures.still c.in_ok-client_save.ensures.asks c.in_ok-client_save.ensures.ok.0.last_is).serves;
  carries =
      let D = g.D.Device in
      let p = prepared c.args.client c.args.table.now.items c.args.admitted.now c.args.bytes.now c.prepare.ensures.prepared c.requires.may.own_table c.requires.may.admitted
      c.requires.sort c.requires.may.moves (g.met.D.Device.profile c.prepare.new.device) c.type_inv.bytes c.in_ok-prepare.ensures.ready c.prepare.ensures.costs c.in_ok-prepare.ensures.stays c.in_ok-prepare.ensures.used refl in
      let saved : SavedOne D.CONTEXTS D.seen c.prepare.new.device c.client_save.new.device c.prepare.new.held c.client_save.new.self
      (first_handle c.args.admitted.now) c.client_save.new.reply =
      saved_now c.client_save.ensures.stands.rest c.client_save.ensures.sessions
      (sessions_settled (D.seen c.prepare.new.device).state c.prepare.new.held c.prepare.ensures.prepared.settled)
      c.client_save.ensures.stands.stand c.client_save.ensures.room c.in_ok-client_save.ensures.ok.0 c.in_ok-client_save.ensures.ok.1 in
      (outcome_saved c.client_save.new.self p (sym c.saves_one.ensures ∙ c.if-saves_one.true) (slice_bytes c.args.bytes.now c.type_inv.bytes) saved
      c.in_ok-prepare.ensures.sends.before c.prepare.ensures.still c.in_ok-client_save.ensures.asks c.in_ok-client_save.ensures.ok.0.last_is).carries;
  at_hand = λ hand.
      sent_alone g.D.Device.seen _ c.prepare.new.device _ (c.prepare.ensures.still hand) c.in_ok-client_save.ensures.asks.once;
  few = λ calm.
      sent_then g.D.Device.seen (moves_for g.D.Device.CONTEXTS c.args.self.now.held c.args.table.now.items c.args.admitted.now c.args.bytes.now) _ c.prepare.new.device _
      (c.prepare.ensures.few calm) (omega (arith, c.in_ok-client_save.ensures.asks.once));
}
