-- The rest of the first block, and then the blocks up to the one that is found, are empty, and it isn't.
use Rattle.std.proofs.Common.{◌≡◌, ◌+◌, ◌*◌, ◌/◌, ℕ, List, Option, Some, None, drop, sym, ◌∙◌}
use Rattle.std.specs.Prelude.{MatchOption}
use Rattle.history_spec.specs.Table.{first_taken}
use Rattle.virtual_handles.proofs.Counts.{empty_until, none_in_block}
use Rattle.virtual_handles.proofs.blocks.first_taken.Goals as goal

-- what a walk gives, where none is there if it finds none
walked : (places : List (Option ℕ)) (result : Option ℕ) (start end : ℕ)
    → (first_taken start (drop start places) ≡ first_taken end (drop end places) → first_taken start (drop start places) ≡ None)
    → MatchOption result (first_taken start (drop start places) ≡ first_taken end (drop end places)) (λ number. first_taken start (drop start places) ≡ Some number)
    → result ≡ first_taken start (drop start places)
walked places None start end none gives = sym (none gives)
walked places (Some number) start end none gives = sym gives

pub returns-clause-least : goal.returns-clause-least
returns-clause-least c =
    walked c.args.places.now c.first_taken_between-2.result (64 * c.first_held_block-start.result) (64 * c.first_held_block-start.result + 64)
    (none_in_block c.args.places.now c.args.taken.now c.first_held_block-start.result c.requires.counts c.told-taken c.requires.most
    c.first_held_block-start.ensures.found c.first_held_block-start.ensures.within)
    c.first_taken_between-2.ensures.least
    ∙ sym (empty_until c.args.places.now c.args.taken.now (c.args.start / 64 + 1) c.first_held_block-start.result c.requires.counts c.first_held_block-start.ensures.from c.first_held_block-start.ensures.within c.first_held_block-start.ensures.empty)
    ∙ sym c.in_default.ensures.least
