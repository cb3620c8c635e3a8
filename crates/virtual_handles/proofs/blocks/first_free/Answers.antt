-- The blocks before the one that is found are full, and it isn't.
use Rattle.std.proofs.Common.{◌+◌, ◌*◌, ◌≤◌, ap, ◌∙◌, arith}
use Rattle.virtual_handles.proofs.Counts.{full_until, least_found}
use Rattle.virtual_handles.proofs.Walks.{least_le_count, count_le_length}
use Rattle.virtual_handles.proofs.blocks.first_free.Goals as goal

pub slice_bounds-first_free_of-count : goal.slice_bounds-first_free_of-count
slice_bounds-first_free_of-count c =
    let front = full_until c.args.places.now c.args.taken.now c.first_open_block-start.result c.requires.counts c.first_open_block-start.ensures.within c.first_open_block-start.ensures.full in
    omega (arith, front.fits)

pub slice_bounds-first_free_of-start : goal.slice_bounds-first_free_of-start
slice_bounds-first_free_of-start c =
    let front = full_until c.args.places.now c.args.taken.now c.first_open_block-start.result c.requires.counts c.first_open_block-start.ensures.within c.first_open_block-start.ensures.full in
    let fits : 64 * c.first_open_block-start.result ≤ c.min-end.result = omega (arith, front.fits) in
    fits

pub returns-clause-least : goal.returns-clause-least
returns-clause-least c =
    ap (λ n. 64 * c.first_open_block-start.result + n) c.first_free_of.ensures.least
    ∙ least_found c.args.places.now c.args.taken.now c.first_open_block-start.result c.min-end.result c.requires.counts c.told-taken c.requires.most
    c.first_open_block-start.ensures.within c.first_open_block-start.ensures.full c.first_open_block-start.ensures.found c.min-end.ensures

pub returns-clause-within : goal.returns-clause-within
returns-clause-within c =
    let least = ap (λ n. 64 * c.first_open_block-start.result + n) c.first_free_of.ensures.least
    ∙ least_found c.args.places.now c.args.taken.now c.first_open_block-start.result c.min-end.result c.requires.counts c.told-taken c.requires.most
    c.first_open_block-start.ensures.within c.first_open_block-start.ensures.full c.first_open_block-start.ensures.found c.min-end.ensures in
    omega (arith, least, least_le_count c.args.places.now, count_le_length c.args.places.now)
