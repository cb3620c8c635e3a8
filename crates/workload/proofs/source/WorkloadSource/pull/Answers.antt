use Rattle.std.proofs.Common.{◌≡◌, ◌≤◌, ◌<◌, ◌+◌, ℕ, List, [], length, drop, take, arith, ap, refl, sym}
use Rattle.std.proofs.lemmas.Grind.{common_steps}
use Rattle.std.proofs.lemmas.List.{length-drop}
use Rattle.script_spec.specs.Workload.{lines_from}
use Rattle.workload.proofs.Giving.{gave, next_comes, no_line}
use Rattle.workload.proofs.source.WorkloadSource.pull.Goals as goal

pub returns-then-self-as_slice-clause-pulled : goal.returns-then-self-as_slice-clause-pulled
returns-then-self-as_slice-clause-pulled c =
    let w = c.self.inside in
    let rest : List ℕ = drop w.given w.line in
    let more : List ℕ = lines_from w.words.key w.words.word_pos w.lines in
    let copied : c.copy_from_slice.new.self ≡ take c.min-count.result rest = grind (arith, common_steps) in
    let fits : c.min-count.result ≤ length rest = grind (arith, common_steps) in
    let none : 0 < length c.args.into.now → c.min-count.result ≡ 0 → length rest ≡ 0 = grind (arith, common_steps) in
    let last : length rest ≡ 0 → more ≡ [] = λ used. no_line _ _ _ (c.self.invariant.more (omega (arith, used, length-drop w.given w.line))) in
    gave w.line more _ c.args.into.now c.copy_from_slice.new.self _ w.given c.min-count.result (sym c.self.view_is) refl fits none copied last

pub returns-clause-pulled : goal.returns-clause-pulled
returns-clause-pulled c =
    let w = c.self.inside in
    let rest : List ℕ = drop w.given w.line in
    let more : List ℕ = lines_from w.words.key w.words.word_pos w.lines in
    let copied : c.copy_from_slice.new.self ≡ take c.min-count.result rest = grind (arith, common_steps) in
    let fits : c.min-count.result ≤ length rest = grind (arith, common_steps) in
    let none : 0 < length c.args.into.now → c.min-count.result ≡ 0 → length rest ≡ 0 = grind (arith, common_steps) in
    let last : length rest ≡ 0 → more ≡ [] = λ used. no_line _ _ _ (c.self.invariant.more (omega (arith, used, length-drop w.given w.line))) in
    let all : length w.line ≤ w.given + c.min-count.result = omega (arith, ap length c.as_slice-2.ensures.same, c.if-self-as_slice.false) in
    let some : 0 < w.lines = omega (arith, c.if-self-eq0.false) in
    let next = next_comes w.line _ w.words _ w.lines _ all some c.next_line-self-inside.ensures.line c.next_line-self-inside.ensures.words in
    gave w.line more _ c.args.into.now c.copy_from_slice.new.self _ w.given c.min-count.result (sym c.self.view_is) next fits none copied last
