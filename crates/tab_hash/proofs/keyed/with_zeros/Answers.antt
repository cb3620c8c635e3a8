use Rattle.std.proofs.Common.{◌++◌, ℕ, List, length, drop, replicate, ap, ◌∙◌}
use Rattle.std.proofs.lemmas.List.{drop-replicate}
use Rattle.tab_hash.proofs.keyed.with_zeros.Goals as goal

pub returns : goal.returns
returns c =
    let bytes = c.args.bytes.now in
    ap (λ (front : List ℕ). front ++ drop (length bytes) (replicate 64 0)) c.copy_from_slice.ensures.after
    ∙ ap (λ (zeros : List ℕ). bytes ++ zeros) (drop-replicate (length bytes) 64 0)
