use Rattle.std.proofs.Common.{◌≡◌, Some, [], map, refl, rules}
use Rattle.std.specs.Option.{option_map}
use Rattle.std.specs.String.{string_bytes}
use Rattle.tab_spec.specs.declared.contexts.TheConstants.{PROFILE_CONTEXTS}
use Rattle.audit_journal.specs.Journal.{JournalView}
use Rattle.device_link.specs.Link.{ends_of as link_ends, told_by as told_at_link}
use Rattle.device_link.specs.Watched.{WatchedAtLink}
use Rattle.accept_loop.specs.Connections.{ends_of}
use Rattle.command_line.specs.Words.{accepted}
use Rattle.daemon_ends.specs.declared.target.Target.TheVariants as targets
use Rattle.tabrmd.specs.Found.{unseen}
use Rattle.tabrmd.proofs.Over.{carried_since, handed, none_told}
use Rattle.tabrmd.proofs.run_link.Goals as goal

pub returns-clause-over : goal.returns-clause-over
returns-clause-over g c =
    let ran = c.tabrmd-ran.result in
    let at_first : told_at_link c.new-device.result.device ≡ unseen = search rules in
    let ends = ends_of g.I.Source.left g.O.Sink.written g.I.Source.faults g.O.Sink.faults in
    let link = link_ends g.S.Source.left g.S.Source.faults g.K.Sink.written g.K.Sink.faults in
    handed (ran.links.items ≡ []) (ran.links.items ≡ [])
    (accepted (map string_bytes c.args.words.now))
    (targets.Link c.args.source c.args.sink) (targets.Link c.args.source c.args.sink)
    g.A.In.Source.left g.A.Out.Sink.written g.A.In.Source.faults g.A.Out.Sink.faults
    g.A.Acceptor.coming g.A.Acceptor.faults c.args.acceptor.now c.tabrmd-ran.new.acceptor
    (ends c.args.input.now c.args.output.now) (ends c.tabrmd-ran.new.input c.tabrmd-ran.new.output)
    link ran.status ran.detail (Some c.into_ends.result) _
    (told_at_link c.new-device.result.device) (told_at_link ran.device.device)
    (option_map (λ (journal : JournalView). journal.entries) ran.journal) ran.links.items
    ran.served.value
    at_first (carried_since link g.J.Began.began (link c.args.source c.args.sink)
    ran.device.device.fault (told_at_link ran.device.device) c.into_ends.result c.requires
    c.into_ends.ensures.carried) refl refl
    c.tabrmd-ran.ensures.leaves c.tabrmd-ran.ensures.serves c.tabrmd-ran.ensures.pool
    (none_told (ran.links.items ≡ []) (λ
    (journal : JournalView). journal.entries) ran.journal PROFILE_CONTEXTS (λ
    (w : WatchedAtLink _ _). told_at_link w.device) ran.status ran.detail c.new-device.result
    ran.device
    ends g.A.Acceptor.coming g.A.Acceptor.faults c.args.acceptor.now c.tabrmd-ran.new.acceptor
    c.args.input.now c.tabrmd-ran.new.input c.args.output.now c.tabrmd-ran.new.output
    c.tabrmd-ran.ensures.none)
