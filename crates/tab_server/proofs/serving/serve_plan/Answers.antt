use Rattle.std.proofs.Common.{None, arith, refl, true}
use Rattle.accept_loop.specs.declared.serving.LinkDone.{LinkDone}
use Rattle.link_pool.specs.Services.{IsServed, client_of, given_of}
use Rattle.tab_server.specs.Serving.{IsLinkDone}
use Rattle.tab_server.proofs.Connecting.{journal_there, leaves_unbegun, links_over, never_2, never_refused_serve, pool_over}
use Rattle.tab_server.proofs.serving.serve_plan.Goals as goal

-- ---- each by a thread of its own

pub returns-then-are_kept-clause-leaves : goal.returns-then-are_kept-clause-leaves
returns-then-are_kept-clause-leaves g c few left input =
    let begun = c.in-Ok.ensures.broker in
    links_over (IsLinkDone g.A.In.Source.left g.A.Out.Sink.written g.A.In.Source.faults g.A.Out.Sink.faults) (λ (link : LinkDone _ _). link.client)
    _ _ _ _ _ left _ input _ _ _ _ _ _ _ _ _ _
    (λ i. record { base = begun.base_is i; limit = begun.limit_is i; began = begun.began_is i; contexts = g.D.Device.CONTEXTS }) (c.serve_begun.ensures.leaves left input)

pub returns-then-are_kept-clause-pool : goal.returns-then-are_kept-clause-pool
returns-then-are_kept-clause-pool g c many left input = absurd (omega (arith, many, c.are_kept.ensures.few c.if-are_kept.true))

pub returns-then-are_kept-clause-links : goal.returns-then-are_kept-clause-links
returns-then-are_kept-clause-links g c many = absurd (omega (arith, many, c.are_kept.ensures.few c.if-are_kept.true))

pub returns-then-are_kept-clause-none : goal.returns-then-are_kept-clause-none
returns-then-are_kept-clause-none g c = journal_there _ c.serve_begun.result.journal c.serve_begun.ensures.some

pub returns-then-are_kept-clause-taken : goal.returns-then-are_kept-clause-taken
returns-then-are_kept-clause-taken g c two = never_refused_serve _ _ _ _ _ _ _ _ _ _ _ _ _ _ (c.serve_begun.ensures.leaves None 0) two

-- ---- by servers that take connection after connection

pub returns-else-are_kept-clause-leaves : goal.returns-else-are_kept-clause-leaves
returns-else-are_kept-clause-leaves g c few left input = absurd (omega (arith, few, c.are_kept.ensures.many c.if-are_kept.false))

pub returns-else-are_kept-clause-pool : goal.returns-else-are_kept-clause-pool
returns-else-are_kept-clause-pool g c many left input =
    let begun = c.in-Ok.ensures.broker in
    pool_over (IsServed g.A.In.Source.left g.A.Out.Sink.written g.A.In.Source.faults g.A.Out.Sink.faults) given_of client_of
    _ _ _ _ _ left _ input _ _ _ _ _ _ _ _ _ _
    (λ i. record { base = begun.base_is i; limit = begun.limit_is i; began = begun.began_is i; contexts = g.D.Device.CONTEXTS }) (c.pool_begun.ensures.leaves left input)

pub returns-else-are_kept-clause-none : goal.returns-else-are_kept-clause-none
returns-else-are_kept-clause-none g c = journal_there _ c.pool_begun.result.journal c.pool_begun.ensures.some

pub returns-else-are_kept-clause-taken : goal.returns-else-are_kept-clause-taken
returns-else-are_kept-clause-taken g c two = never_refused_serve _ _ _ _ _ _ _ _ _ _ _ _ _ _ (c.pool_begun.ensures.leaves None 0) two

-- ---- where the broker didn't begin

pub returns-in-Err-clause-leaves : goal.returns-in-Err-clause-leaves
returns-in-Err-clause-leaves g c few left input =
    leaves_unbegun _ _ c.args.plan.now.limit _ _ _ _ _ _ _ _ _ c.new.ensures.items
    (c.in-Err.ensures.leaves c.args.plan.now.audit left _ input _) c.in-Err.ensures.none.1.of_start refl refl (refl, refl)

pub returns-in-Err-clause-pool : goal.returns-in-Err-clause-pool
returns-in-Err-clause-pool g c many left input =
    leaves_unbegun _ _ c.args.plan.now.limit _ _ _ _ _ _ _ _ _ c.none.ensures
    (c.in-Err.ensures.leaves c.args.plan.now.audit left _ input _) c.in-Err.ensures.none.1.of_start refl refl (refl, refl)

pub returns-in-Err-clause-links : goal.returns-in-Err-clause-links
returns-in-Err-clause-links g c many = c.new.ensures.items

pub returns-in-Err-clause-taken : goal.returns-in-Err-clause-taken
returns-in-Err-clause-taken g c two = never_2 c.args.plan.now.limit true _ _ _ _ (c.in-Err.ensures.leaves true None None 0 0) two
