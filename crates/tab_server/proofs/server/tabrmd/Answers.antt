use Rattle.std.proofs.Common.{◌≡◌, ◌∙◌, Some, map, refl, sym, true≢false}
use Rattle.std.specs.String.{string_bytes}
use Rattle.command_line.specs.declared.words.WordsError.TheVariants.{Refused}
use Rattle.command_line.specs.Words.{accepted}
use Rattle.tab_server.proofs.Doing.{if_taken, never_refused, not_none, taken}
use Rattle.tab_server.proofs.server.tabrmd.Goals as goal

pub returns-then-is_serve-clause-refused : goal.returns-then-is_serve-clause-refused
returns-then-is_serve-clause-refused g c =
    let plans = accepted (map string_bytes c.args.words.now) in
    let is : plans ≡ Some c.in-Ok.plan = taken plans c.in-Ok.plan Refused c.in-Ok.ensures.exact in (
      λ two. absurd (c.serve_plan.ensures.taken two),
      λ none. absurd (not_none plans c.in-Ok.plan is none),
    )

pub returns-then-is_serve-clause-untouched : goal.returns-then-is_serve-clause-untouched
returns-then-is_serve-clause-untouched g c two = absurd (c.serve_plan.ensures.taken two)

pub returns-then-is_serve-clause-serves : goal.returns-then-is_serve-clause-serves
returns-then-is_serve-clause-serves g c =
    let plans = accepted (map string_bytes c.args.words.now) in
    let is : plans ≡ Some c.in-Ok.plan = taken plans c.in-Ok.plan Refused c.in-Ok.ensures.exact in
    if_taken _ plans c.in-Ok.plan is
    (λ serves few. c.serve_plan.ensures.leaves few (g.I.Source.left c.args.input.now) (g.I.Source.faults c.args.input.now))

pub returns-then-is_serve-clause-pool : goal.returns-then-is_serve-clause-pool
returns-then-is_serve-clause-pool g c =
    let plans = accepted (map string_bytes c.args.words.now) in
    let is : plans ≡ Some c.in-Ok.plan = taken plans c.in-Ok.plan Refused c.in-Ok.ensures.exact in
    if_taken _ plans c.in-Ok.plan is
    (λ serves many. (c.serve_plan.ensures.links many, c.serve_plan.ensures.pool many (g.I.Source.left c.args.input.now) (g.I.Source.faults c.args.input.now)))

pub returns-then-is_serve-clause-unread : goal.returns-then-is_serve-clause-unread
returns-then-is_serve-clause-unread g c =
    let plans = accepted (map string_bytes c.args.words.now) in
    let is : plans ≡ Some c.in-Ok.plan = taken plans c.in-Ok.plan Refused c.in-Ok.ensures.exact in
    if_taken _ plans c.in-Ok.plan is (λ serves. refl)

pub returns-clause-untouched : goal.returns-clause-untouched
returns-clause-untouched g c two = absurd (never_refused c.in-Ok.plan _ _ _ _ _ c.play-status.ensures.leaves two)

pub returns-clause-refused : goal.returns-clause-refused
returns-clause-refused g c =
    let plans = accepted (map string_bytes c.args.words.now) in
    let is : plans ≡ Some c.in-Ok.plan = taken plans c.in-Ok.plan Refused c.in-Ok.ensures.exact in (
      λ two. absurd (never_refused c.in-Ok.plan _ _ _ _ _ c.play-status.ensures.leaves two),
      λ none. absurd (not_none plans c.in-Ok.plan is none),
    )

pub returns-clause-leaves : goal.returns-clause-leaves
returns-clause-leaves g c =
    let plans = accepted (map string_bytes c.args.words.now) in
    let is : plans ≡ Some c.in-Ok.plan = taken plans c.in-Ok.plan Refused c.in-Ok.ensures.exact in
    if_taken _ plans c.in-Ok.plan is (λ plays. (c.play-status.ensures.leaves, refl, c.new-2.ensures.items))

pub returns-clause-serves : goal.returns-clause-serves
returns-clause-serves g c =
    let plans = accepted (map string_bytes c.args.words.now) in
    let is : plans ≡ Some c.in-Ok.plan = taken plans c.in-Ok.plan Refused c.in-Ok.ensures.exact in
    if_taken _ plans c.in-Ok.plan is (λ serves few. absurd (true≢false (sym serves ∙ sym c.is_serve.ensures ∙ c.if-is_serve.false)))

pub returns-clause-pool : goal.returns-clause-pool
returns-clause-pool g c =
    let plans = accepted (map string_bytes c.args.words.now) in
    let is : plans ≡ Some c.in-Ok.plan = taken plans c.in-Ok.plan Refused c.in-Ok.ensures.exact in
    if_taken _ plans c.in-Ok.plan is (λ serves many. absurd (true≢false (sym serves ∙ sym c.is_serve.ensures ∙ c.if-is_serve.false)))

pub returns-clause-unread : goal.returns-clause-unread
returns-clause-unread g c =
    let plans = accepted (map string_bytes c.args.words.now) in
    let is : plans ≡ Some c.in-Ok.plan = taken plans c.in-Ok.plan Refused c.in-Ok.ensures.exact in
    if_taken _ plans c.in-Ok.plan is (λ serves. absurd (true≢false (sym serves ∙ sym c.is_serve.ensures ∙ c.if-is_serve.false)))
