use Rattle.std.proofs.Common.{Some, [], ap, arith, map, subst}
use Rattle.std.specs.Prelude.{◌≡◌, ◌≢◌, ◌≤◌, ◌<◌, IfNone, IfSome}
use Rattle.std.specs.Option.{option_map}
use Rattle.std.specs.String.{string_bytes}
use Rattle.tab_spec.specs.Numbers.{profile_numbers}
use Rattle.tab_spec.specs.declared.contexts.TheConstants.{PROFILE_CONTEXTS}
use Rattle.audit_journal.specs.Journal.{JournalView}
use Rattle.device_memory.specs.Memory.{DeviceInMemory, told_by}
use Rattle.link_pool.specs.Services.{IsServed, client_of, given_of}
use Rattle.command_line.specs.Words.{IsServe, accepted}
use Rattle.tab_server.specs.Done.{LeavesPlan}
use Rattle.tab_server.specs.Run.{after_of, before_of}
use Rattle.tab_server.specs.Status.{EndsStart}
use Rattle.tab_server.specs.Serving.{IsLinkDone, LeavesPool, LeavesServe}
use Rattle.tab_server.specs.declared.serving.TheConstants.{LINKS_MOST}
use Rattle.tab_server.proofs.Doing.{cause_by, sound_by}
use Rattle.tabrmd.proofs.Ends.{never, never_lacks, none_out}
use Rattle.tabrmd.proofs.over_memory.Goals as goal

-- the device that was made is the one that the words name
pub returns-clause-leaves : goal.returns-clause-leaves
returns-clause-leaves g c =
    let ran = c.tabrmd.result in
    subst
    (λ (device : DeviceInMemory). IfSome (accepted (map string_bytes c.args.words.now)) (λ plan. (IsServe plan.job → ⊥) → LeavesPlan plan (record {
      contexts = PROFILE_CONTEXTS;
      base = Some (record { persist = device.base; numbers = device.state.numbers });
      left = g.I.Source.left c.args.input.now;
      written = g.O.Sink.written c.args.output.now;
      faults = record { device = device.faults; input = g.I.Source.faults c.args.input.now; output = g.O.Sink.faults c.args.output.now };
    }) (record {
      seen = told_by ran.device;
      left = g.I.Source.left c.tabrmd.new.input;
      written = g.O.Sink.written c.tabrmd.new.output;
      faults = record { device = ran.device.faults; input = g.I.Source.faults c.tabrmd.new.input; output = g.O.Sink.faults c.tabrmd.new.output };
    }) ran.status ran.detail (option_map (λ (journal : JournalView). journal.entries) ran.journal)
    × (c.tabrmd.new.acceptor ≡ c.args.acceptor.now) × (ran.links.items ≡ [])))
    c.in_ok-device.ensures c.tabrmd.ensures.leaves

pub returns-clause-serves : goal.returns-clause-serves
returns-clause-serves g c =
    let ran = c.tabrmd.result in
    subst
    (λ (device : DeviceInMemory). IfSome (accepted (map string_bytes c.args.words.now))
    (λ plan. IsServe plan.job → plan.connections ≤ LINKS_MOST
    → LeavesServe (IsLinkDone g.A.In.Source.left g.A.Out.Sink.written g.A.In.Source.faults g.A.Out.Sink.faults (record { base = Some (record { persist = device.base; numbers = device.state.numbers }); limit = plan.limit; began = device.faults; contexts = PROFILE_CONTEXTS }))
    (λ link. link.client) (λ link. link.ending) plan.audit plan.connections
    (before_of PROFILE_CONTEXTS (Some (record { persist = device.base; numbers = device.state.numbers })) device.faults (g.I.Source.left c.args.input.now) (g.I.Source.faults c.args.input.now) (g.O.Sink.written c.args.output.now) (g.O.Sink.faults c.args.output.now))
    (after_of (told_by ran.device) (g.I.Source.left c.tabrmd.new.input) (g.I.Source.faults c.tabrmd.new.input) (g.O.Sink.written c.tabrmd.new.output) (g.O.Sink.faults c.tabrmd.new.output))
    (g.A.Acceptor.coming c.args.acceptor.now) (g.A.Acceptor.coming c.tabrmd.new.acceptor)
    (g.A.Acceptor.faults c.args.acceptor.now) (g.A.Acceptor.faults c.tabrmd.new.acceptor)
    ran.status ran.detail (option_map (λ (journal : JournalView). journal.entries) ran.journal) ran.links.items))
    c.in_ok-device.ensures c.tabrmd.ensures.serves

pub returns-clause-pool : goal.returns-clause-pool
returns-clause-pool g c =
    let ran = c.tabrmd.result in
    subst
    (λ (device : DeviceInMemory). IfSome (accepted (map string_bytes c.args.words.now))
    (λ plan. IsServe plan.job → LINKS_MOST < plan.connections → (ran.links.items ≡ [])
    × LeavesPool (IsServed g.A.In.Source.left g.A.Out.Sink.written g.A.In.Source.faults g.A.Out.Sink.faults (record { base = Some (record { persist = device.base; numbers = device.state.numbers }); limit = plan.limit; began = device.faults; contexts = PROFILE_CONTEXTS }))
    given_of client_of (λ s. s.link.ending) plan.audit plan.connections
    (before_of PROFILE_CONTEXTS (Some (record { persist = device.base; numbers = device.state.numbers })) device.faults (g.I.Source.left c.args.input.now) (g.I.Source.faults c.args.input.now) (g.O.Sink.written c.args.output.now) (g.O.Sink.faults c.args.output.now))
    (after_of (told_by ran.device) (g.I.Source.left c.tabrmd.new.input) (g.I.Source.faults c.tabrmd.new.input) (g.O.Sink.written c.tabrmd.new.output) (g.O.Sink.faults c.tabrmd.new.output))
    (g.A.Acceptor.coming c.args.acceptor.now) (g.A.Acceptor.coming c.tabrmd.new.acceptor)
    (g.A.Acceptor.faults c.args.acceptor.now) (g.A.Acceptor.faults c.tabrmd.new.acceptor)
    ran.status ran.detail (option_map (λ (journal : JournalView). journal.entries) ran.journal) ran.served.value))
    c.in_ok-device.ensures c.tabrmd.ensures.pool

pub returns-clause-none : goal.returns-clause-none
returns-clause-none g c =
    let ran = c.tabrmd.result in
    subst
    (λ (device : DeviceInMemory). IfNone ran.journal (EndsStart PROFILE_CONTEXTS told_by ran.status ran.detail device ran.device
    × (c.tabrmd.new.acceptor ≡ c.args.acceptor.now) × (c.tabrmd.new.input ≡ c.args.input.now) × (c.tabrmd.new.output ≡ c.args.output.now)
    × (ran.links.items ≡ [])))
    c.in_ok-device.ensures c.tabrmd.ensures.none

-- a device in memory shows its state, and its numbers stay in range
pub returns-clause-right : goal.returns-clause-right
returns-clause-right g c =
    let ran = c.tabrmd.result in
    let plans = accepted (map string_bytes c.args.words.now) in
    let profile : c.in_ok-device.device.state.numbers ≡ profile_numbers = ap (λ (device : DeviceInMemory). device.state.numbers) c.in_ok-device.ensures in
    let answered : ran.status ≢ 7 =
    never LINKS_MOST plans ran.status 7 (λ is. omega (arith, is)) c.tabrmd.ensures.refused
    (λ plan left seven. never_lacks ran.device.state ((cause_by plan.job plan _ _ _ _ _ left.0).answer seven).1)
    (λ plan left seven. never_lacks ran.device.state (left.cause.answer seven).1)
    (λ plan left seven. never_lacks ran.device.state (left.1.cause.answer seven).1)
    c.tabrmd.ensures.leaves c.tabrmd.ensures.serves c.tabrmd.ensures.pool in
    let out : ran.status ≢ 11 =
    never LINKS_MOST plans ran.status 11 (λ is. omega (arith, is)) c.tabrmd.ensures.refused
    (λ plan left eleven. none_out _ _ _ ran.device.state _ _ _ ((cause_by plan.job plan _ _ _ _ _ left.0).numbers eleven) (sound_by plan.job plan _ _ _ _ _ left.0).base profile)
    (λ plan left eleven. none_out _ _ _ ran.device.state _ _ _ (left.cause.numbers eleven) left.sound.base profile)
    (λ plan left eleven. none_out _ _ _ ran.device.state _ _ _ (left.1.cause.numbers eleven) left.1.sound.base profile)
    c.tabrmd.ensures.leaves c.tabrmd.ensures.serves c.tabrmd.ensures.pool in
    (answered, out)
