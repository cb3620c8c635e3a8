use Rattle.std.proofs.Common.{◌≡◌, ◌≤◌, List, ℕ, length, take, Option, subst, sym, arith}
use Rattle.std.specs.Prelude.{IfSome}
use Rattle.std.proofs.lemmas.List.{length-take}
use Rattle.link_port.specs.Port.{Pulled}
use Rattle.connection_core.proofs.Cutting.{fed_all, pulled_front, pulled_taken}
use Rattle.connection_core.proofs.intake.Intake.pull_ready.Goals as goal

pub returns-in-Ok-Some-clause-round : goal.returns-in-Ok-Some-clause-round
returns-in-Ok-Some-clause-round g c frame =
    let bound : c.in-Ok-Some.came ≤ length c.deref_mut.result.now = subst (λ (o : Option ℕ). IfSome o (λ k. k ≤ length c.deref_mut.result.now)) c.in-Ok-Some.field-0-is c.in-Ok-Some.ensures.bound in
    let told = subst (λ (o : Option ℕ). IfSome o (λ k. Pulled (g.S.Source.left c.args.source.now) (g.S.Source.left c.pull_ready.new.self) (length c.deref_mut.result.now) (take k c.pull_ready.new.into))) c.in-Ok-Some.field-0-is c.in-Ok-Some.ensures.pulled in
    let piece = take c.in-Ok-Some.came c.deref.result.now in
    let whole : length c.pull_ready.new.into ≡ c.args.self.now.block.len = omega arith in
    let front = pulled_front c.in-Ok-Some.came c.args.self.now.block.len c.pull_ready.new.into c.args.self.now.block.items c.deref.result.now c.deref.ensures.value whole in
    let small : length piece ≤ 4096 = omega (arith, length-take c.in-Ok-Some.came c.deref.result.now, bound) in
    let pulled = subst (λ (l : List ℕ). Pulled (g.S.Source.left c.args.source.now) (g.S.Source.left c.pull_ready.new.self) (length c.deref_mut.result.now) l) (sym front) told in (
      c.requires,
      record {
        piece = piece;
        took = pulled_taken (g.S.Source.left c.args.source.now) (g.S.Source.left c.pull_ready.new.self) (length c.deref_mut.result.now) piece pulled;
        kept_is = fed_all c.args.self.now.framer c.feed.new.self piece c.feed.result c.requires.none c.requires.sound small c.feed.ensures.count c.feed.ensures.fed;
      },
    )
