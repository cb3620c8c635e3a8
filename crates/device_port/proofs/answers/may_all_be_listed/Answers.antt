use Rattle.std.proofs.Common.{Bool, ap, sym, ◌∙◌, ◌+◌}
use Rattle.std.specs.Prelude.{◌&&◌}
use Rattle.device_spec.specs.Answers.{may_be_listed}
use Rattle.device_port.proofs.Listing.{all_from, next_listed}
use Rattle.device_port.proofs.answers.may_all_be_listed.Goals as goal

pub returns-then-not-may_be_listed : goal.returns-then-not-may_be_listed
returns-then-not-may_be_listed c =
    let fits = may_be_listed c.args.property in
    let place = c.loop-place.place in
    sym (c.loop-place.invariant
    ∙ next_listed fits c.args.count place c.args.last.now c.in-Some.handle c.loop-place-test.true c.requires.whole (sym c.word_at.ensures ∙ c.in-Some.is)
    ∙ ap (λ (b : Bool). b && all_from fits c.args.count (place + 1) c.args.last.now) (sym c.may_be_listed.ensures ∙ c.if-not-may_be_listed.true))

pub loop-place-preserved : goal.loop-place-preserved
loop-place-preserved c =
    let fits = may_be_listed c.args.property in
    let place = c.loop-place.place in
    c.loop-place.invariant
    ∙ next_listed fits c.args.count place c.args.last.now c.in-Some.handle c.loop-place-test.true c.requires.whole (sym c.word_at.ensures ∙ c.in-Some.is)
    ∙ ap (λ (b : Bool). b && all_from fits c.args.count (place + 1) c.args.last.now) (sym c.may_be_listed.ensures ∙ c.if-not-may_be_listed.false)
