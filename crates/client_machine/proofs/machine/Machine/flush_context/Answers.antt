use Rattle.std.proofs.Common.{◌≡◌, ◌∙◌, ap, inl, refl, sym, subst, arith, ℕ, List, rules}
use Rattle.std.specs.Prelude.{Ok}
use Rattle.std.proofs.lemmas.Bool.{eq-eqb}
use Rattle.std.proofs.lemmas.List.{take_rest}
use Rattle.std.proofs.lemmas.Result.{err_from_is_err_and}
use Rattle.tab_spec.specs.declared.TheConstants.{CC_FLUSH_CONTEXT}
use Rattle.world_spec.specs.World.{flush_handle}
use Rattle.client_machine.specs.Moves.{IsUnflushed, MayFlush, flush_of, moves_for, saved_number}
use Rattle.client_machine.specs.Tables.{tables_had}
use Rattle.client_machine.proofs.FlushingSessions.{flush_steps, flushed_frame, flushed_so, flushes, refused_so, unflushed}
use Rattle.client_machine.proofs.Orphans.{prepares_same}
use Rattle.client_machine.proofs.Staying.{loses_none, loses_stays}
use Rattle.client_machine.proofs.Ran.{prepares_moves, serves_again}
use Rattle.client_machine.proofs.Moving.{sent_one_more}
use Rattle.client_machine.proofs.machine.Machine.flush_context.Goals as goal

pub returns-in_err-flush-in-Ok : goal.returns-in_err-flush-in-Ok
returns-in_err-flush-in-Ok g c = record {
  serves =
      let returned = c.from_residual in
      serves_again returned.result (err_from_is_err_and returned.result returned.ensures.1)
      (c.in_err-flush-in-Ok.ensures.serves c.args.client (record { own_table = c.requires.table; there = c.in-Ok.ensures.ok.1 }));
  carries = search rules;
  at_hand = λ hand. omega (arith, c.in_err-flush-in-Ok.ensures.costs, hand.nobodys);
  few = λ calm.
      sent_one_more g.D.Device.seen (moves_for g.D.Device.CONTEXTS c.args.self.now.held c.args.table.now.items c.args.admitted.now c.args.bytes.now) _ _
      (omega (arith, c.in_err-flush-in-Ok.ensures.costs, calm.nobodys));
}

pub returns-in_ok-flush-in-Ok : goal.returns-in_ok-flush-in-Ok
returns-in_ok-flush-in-Ok g c = record {
  serves =
      c.in_ok-flush-in-Ok.ensures.serves c.args.client (record { own_table = c.requires.table; there = c.in-Ok.ensures.ok.1 });
  carries =
      let seen = g.D.Device.seen in
      let a = c.args.admitted.now in
      let bytes = c.args.bytes.now in
      let held = c.args.self.now.held in
      let table = c.args.table.now.items in
      let reply = c.start_response.new.reply in
      let done = c.in_ok-flush-in-Ok.ensures in
      let named : flush_of a bytes ≡ Ok c.in-Ok.handle = ap (λ (l : List ℕ). flush_handle l) (sym (take_rest bytes a.auths.params)) ∙ c.in-Ok.ensures.ok.0 in
      let may : MayFlush c.args.client c.in-Ok.handle held table = record { own_table = c.requires.table; there = c.in-Ok.ensures.ok.1 } in
      let flushed = flushed_so seen c.args.client c.in-Ok.handle c.args.self.now.device c.flush.new.self.device held c.flush.new.self.held table c.flush.new.table.items
      (flush_of a bytes) reply named may done.flushes c.start_response.ensures in
      record {
        did = inl (eq-eqb a.shape.row.code CC_FLUSH_CONTEXT c.requires.code, flushed);
        steps = flush_steps _ (seen c.args.self.now.device).state (seen c.flush.new.self.device).state held c.flush.new.self.held c.args.client table
            c.flush.new.table.items a bytes reply c.requires.may.settled c.requires.table c.requires.admitted c.requires.code (g.met.D.Device.profile c.args.self.now.device)
            (flushes (seen c.args.self.now.device).state (seen c.flush.new.self.device).state held c.flush.new.self.held c.args.client table
            c.flush.new.table.items c.in-Ok.handle (flush_of a bytes) reply named may (done.left c.args.client may) (done.serves c.args.client may).moves.counts
            c.requires.may.settled c.start_response.ensures);
        whole = flushed_frame (tables_had c.args.client table held.sessions.items) (flush_of a bytes) reply flushed.reply_is;
        stays = λ narrow. loses_stays held c.flush.new.self.held (saved_number a) done.flushes.loses;
      };
  at_hand = λ hand. omega (arith, c.in_ok-flush-in-Ok.ensures.costs, hand.nobodys);
  few = λ calm.
      sent_one_more g.D.Device.seen (moves_for g.D.Device.CONTEXTS c.args.self.now.held c.args.table.now.items c.args.admitted.now c.args.bytes.now) _ _
      (omega (arith, c.in_ok-flush-in-Ok.ensures.costs, calm.nobodys));
}

pub returns-in-Err : goal.returns-in-Err
returns-in-Err g c = record {
  serves = record {
    moves = prepares_moves c.args.client c.args.table.now.items (omega arith)
        (prepares_same g.D.Device.seen c.args.self.now.device c.args.self.now.held c.requires.may.settled) c.requires.table;
    right = inl refl;
    stays = tt;
    costs = omega arith;
    cause = tt;
    fails = tt;
  };
  carries =
      let seen = g.D.Device.seen in
      let a = c.args.admitted.now in
      let bytes = c.args.bytes.now in
      let device = c.args.self.now.device in
      let held = c.args.self.now.held in
      let table = c.args.table.now.items in
      let tables = tables_had c.args.client table held.sessions.items in
      let reply = c.error_reply.new.reply in
      let refused : IsUnflushed tables (flush_of a bytes) c.in-Err.code =
      subst (λ (l : List ℕ). IsUnflushed tables (flush_handle l) c.in-Err.code) (take_rest bytes a.auths.params) c.in-Err.ensures.err in
      let flushed = refused_so seen tables device held table (flush_of a bytes) c.in-Err.code reply refused c.error_reply.ensures in
      record {
        did = inl (eq-eqb a.shape.row.code CC_FLUSH_CONTEXT c.requires.code, flushed);
        steps = flush_steps _ (seen device).state (seen device).state held held c.args.client table table a bytes reply c.requires.may.settled c.requires.table
            c.requires.admitted c.requires.code (g.met.D.Device.profile c.args.self.now.device)
            (unflushed (seen device).state held c.args.client table (flush_of a bytes) c.in-Err.code reply refused c.requires.may.settled c.requires.table
            c.error_reply.ensures);
        whole = flushed_frame tables (flush_of a bytes) reply flushed.reply_is;
        stays = λ narrow. loses_stays held held (saved_number a) (loses_none held);
      };
  at_hand = search rules;
  few = search rules;
}
