use Rattle.std.proofs.Common.{◌∙◌, ◌+◌, ap, arith, sym}
use Rattle.std.specs.Prelude.{slice_get}
use Rattle.session_swap.specs.Records.{OrderView}
use Rattle.session_swap.proofs.Threads.{loaded_below, next_listed}
use Rattle.session_swap.proofs.order.Order.next_loaded.Goals as goal

pub overflow_cast-number : goal.overflow_cast-number
overflow_cast-number c =
    let lists = c.self.inside.lists.lists in
    let is = ap (λ (o : OrderView). slice_get o.loaded c.requires.0) c.self.view_is ∙ c.requires.1 in
    omega (arith, loaded_below lists c.args.number c.requires.0 c.self.invariant.all is)

pub next-requires : goal.next-requires
next-requires c =
    let lists = c.self.inside.lists.lists in
    let is = ap (λ (o : OrderView). slice_get o.loaded c.requires.0) c.self.view_is ∙ c.requires.1 in
    (next_listed lists c.args.number c.requires.0 c.self.invariant.all.three is).0

pub returns-in_err-next : goal.returns-in_err-next
returns-in_err-next c at there =
    let is = ap (λ (o : OrderView). slice_get o.loaded at) c.self.view_is ∙ there in
    let next = next_listed c.self.inside.lists.lists c.args.number at c.self.invariant.all.three is in
    c.from_residual.ensures ∙ sym c.in_err-next.was ∙ c.next.ensures next.0 ∙ next.1 ∙ ap (λ (o : OrderView). slice_get o.loaded (at + 1)) c.self.view_is

pub returns : goal.returns
returns c at there =
    let is = ap (λ (o : OrderView). slice_get o.loaded at) c.self.view_is ∙ there in
    let next = next_listed c.self.inside.lists.lists c.args.number at c.self.invariant.all.three is in
    sym c.in_ok-next.was ∙ c.next.ensures next.0 ∙ next.1 ∙ ap (λ (o : OrderView). slice_get o.loaded (at + 1)) c.self.view_is
