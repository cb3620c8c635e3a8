use Rattle.std.proofs.Common.{◌≡◌, None, [], ap, map, refl}
use Rattle.std.specs.Option.{option_map}
use Rattle.std.specs.String.{string_bytes}
use Rattle.tab_spec.specs.Numbers.{profile_numbers}
use Rattle.tab_spec.specs.declared.contexts.TheConstants.{PROFILE_CONTEXTS}
use Rattle.audit_journal.specs.Journal.{JournalView}
use Rattle.device_link.specs.Link.{ends_of as link_ends, told_by as told_at_link}
use Rattle.device_memory.specs.Memory.{fresh_device, told_by}
use Rattle.accept_loop.specs.Connections.{ends_of}
use Rattle.command_line.specs.Words.{accepted}
use Rattle.daemon_ends.specs.declared.target.Target.TheVariants as targets
use Rattle.tabrmd.proofs.Over.{handed, none_told}
use Rattle.tabrmd.proofs.run.Goals as goal

pub returns-in_ok-ran-in-Memory-clause-over : goal.returns-in_ok-ran-in-Memory-clause-over
returns-in_ok-ran-in-Memory-clause-over g c =
    let ran = c.in_ok-ran-in-Memory.ran in
    let ends = ends_of g.I.Source.left g.O.Sink.written g.I.Source.faults g.O.Sink.faults in
    handed (ran.links.items ≡ []) (ran.links.items ≡ [])
    (accepted (map string_bytes c.args.words.now)) (targets.Memory c.in-Memory.seed) c.args.target
    g.A.In.Source.left g.A.Out.Sink.written g.A.In.Source.faults g.A.Out.Sink.faults
    g.A.Acceptor.coming g.A.Acceptor.faults c.args.acceptor.now c.over_memory.new.acceptor
    (ends c.args.input.now c.args.output.now)
    (ends c.over_memory.new.input c.over_memory.new.output)
    (link_ends g.S.Source.left g.S.Source.faults g.K.Sink.written g.K.Sink.faults)
    ran.status ran.detail None c.finished_of.result (told_by
    (fresh_device profile_numbers c.in-Memory.seed [])) (told_by ran.device)
    (option_map (λ (journal : JournalView). journal.entries) ran.journal) ran.links.items
    ran.served.value
    refl refl c.in-Memory.is c.finished_of.ensures
    c.in_ok-ran-in-Memory.ensures.leaves c.in_ok-ran-in-Memory.ensures.serves
    c.in_ok-ran-in-Memory.ensures.pool
    (none_told (ran.links.items ≡ []) (λ
    (journal : JournalView). journal.entries) ran.journal PROFILE_CONTEXTS told_by ran.status
    ran.detail (fresh_device profile_numbers c.in-Memory.seed []) ran.device
    ends g.A.Acceptor.coming g.A.Acceptor.faults c.args.acceptor.now c.over_memory.new.acceptor
    c.args.input.now c.over_memory.new.input c.args.output.now c.over_memory.new.output
    c.in_ok-ran-in-Memory.ensures.none)

pub returns-in_ok-device-in-Unreachable-clause-over :
    goal.returns-in_ok-device-in-Unreachable-clause-over
returns-in_ok-device-in-Unreachable-clause-over g c =
    let ran = c.tabrmd-ran.result in
    let ends = ends_of g.I.Source.left g.O.Sink.written g.I.Source.faults g.O.Sink.faults in
    handed (ran.links.items ≡ []) (ran.links.items ≡ [])
    (accepted (map string_bytes c.args.words.now)) (targets.Unreachable) c.args.target
    g.A.In.Source.left g.A.Out.Sink.written g.A.In.Source.faults g.A.Out.Sink.faults
    g.A.Acceptor.coming g.A.Acceptor.faults c.args.acceptor.now
    c.tabrmd-ran.new.acceptor
    (ends c.args.input.now c.args.output.now)
    (ends c.tabrmd-ran.new.input c.tabrmd-ran.new.output)
    (link_ends g.S.Source.left g.S.Source.faults g.K.Sink.written g.K.Sink.faults)
    ran.status ran.detail None c.finished_of-in-Unreachable.result
    (told_at_link c.in_ok-device-in-Unreachable.device) (told_at_link ran.device)
    (option_map (λ (journal : JournalView). journal.entries) ran.journal) ran.links.items
    ran.served.value
    (ap told_at_link c.in_ok-device-in-Unreachable.ensures) refl c.in-Unreachable.is
    c.finished_of-in-Unreachable.ensures
    c.tabrmd-ran.ensures.leaves c.tabrmd-ran.ensures.serves
    c.tabrmd-ran.ensures.pool
    (none_told (ran.links.items ≡ []) (λ
    (journal : JournalView). journal.entries) ran.journal PROFILE_CONTEXTS told_at_link
    ran.status ran.detail c.in_ok-device-in-Unreachable.device ran.device
    ends g.A.Acceptor.coming g.A.Acceptor.faults c.args.acceptor.now
    c.tabrmd-ran.new.acceptor c.args.input.now
    c.tabrmd-ran.new.input c.args.output.now c.tabrmd-ran.new.output
    c.tabrmd-ran.ensures.none)
