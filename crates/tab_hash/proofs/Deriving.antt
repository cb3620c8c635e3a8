-- What one more block makes of the bytes that are derived.
use Rattle.std.proofs.Common.{◌≡◌, ◌<◌, ◌≤◌, ◌+◌, ◌-◌, ◌*◌, ◌/◌, ◌++◌, ℕ, zero, suc, List, length, take, drop, min, refl, sym, ap, ◌∙◌, arith}
use Rattle.std.proofs.Math.Seq.{take-add, drop-append-add}
use Rattle.std.proofs.lemmas.List.{take-append-le, length-append, length-take, length-drop}
use Rattle.std.proofs.lemmas.Slice.{take-put_mid}
use borrow.Rule.Slice.PartMut.{put_mid}
use Rattle.sha2.proofs.Facts256.{length-sha256}
use Rattle.tab_spec.specs.Hash.{kdfa_block, kdfa_blocks}

-- a block has 32 bytes
block_len : (key label u v : List ℕ) (bits number : ℕ) → length (kdfa_block key label u v bits number) ≡ 32
block_len key label u v bits number = length-sha256 _

-- what is left of the blocks without the first ones
drop_blocks : (key label u v : List ℕ) (bits number made more count : ℕ) → count ≡ made + suc more
    → drop (32 * made) (kdfa_blocks key label u v bits number count) ≡ kdfa_block key label u v bits (number + made) ++ kdfa_blocks key label u v bits (number + made + 1) more
unfolding kdfa_blocks
drop_blocks key label u v bits number zero more zero is = absurd (omega arith)
drop_blocks key label u v bits number zero more (suc count) is =
    let same : count ≡ more = omega arith in
    let first : number + 0 ≡ number = omega arith in
    rw (same, first) refl
drop_blocks key label u v bits number (suc made) more zero is = absurd (omega arith)
drop_blocks key label u v bits number (suc made) more (suc count) is =
    let block = kdfa_block key label u v bits number in
    let rest = kdfa_blocks key label u v bits (number + 1) count in
    let len = block_len key label u v bits number in
    let far : 32 * suc made ≡ length block + 32 * made = omega arith in
    let next : number + 1 + made ≡ number + suc made = omega arith in
    ap (λ (n : ℕ). drop n (block ++ rest)) far ∙ drop-append-add block rest (32 * made)
    ∙ drop_blocks key label u v bits (number + 1) made more count (omega arith)
    ∙ ap (λ (n : ℕ). kdfa_block key label u v bits n ++ kdfa_blocks key label u v bits (n + 1) more) next

-- a block or the front of one that is written leaves as many bytes
pub length_on : (out copied block : List ℕ) (n at len k : ℕ) → length out ≡ n → at + len ≤ n → k ≡ at + len - at → copied ≡ take len block → len ≤ length block
    → length (put_mid at k out copied) ≡ n
length_on out copied block n at len k long within k_is copied_is enough =
    let copied_long : length copied ≡ len = omega (arith, ap length copied_is, length-take len block) in
    omega (arith, length-append (take at out) (copied ++ drop k (drop at out)), length-append copied (drop k (drop at out)), length-take at out, length-drop k (drop at out), length-drop at out)

-- the bytes up to a place, and one more block or the front of one
pub made_on : (key label u v out copied block : List ℕ) (n at number len k : ℕ)
    → length out ≡ n → at ≡ min (32 * number) n → at < n → len ≡ min (n - at) 32 → k ≡ at + len - at → copied ≡ take len block
    → block ≡ kdfa_block key label u v (8 * n) (number + 1) → take at out ≡ take at (kdfa_blocks key label u v (8 * n) 1 ((n + 31) / 32))
    → take (at + len) (put_mid at k out copied) ≡ take (at + len) (kdfa_blocks key label u v (8 * n) 1 ((n + 31) / 32))
made_on key label u v out copied block n at number len k long place below len_is k_is copied_is block_is made =
    let count = (n + 31) / 32 in
    let all = kdfa_blocks key label u v (8 * n) 1 count in
    let at_is : at ≡ 32 * number = omega arith in
    let more = count - suc number in
    let sum : count ≡ number + suc more = omega arith in
    let block_long : length block ≡ 32 = ap length block_is ∙ block_len key label u v (8 * n) (number + 1) in
    let copied_long : length copied ≡ len = omega (arith, ap length copied_is, length-take len block) in
    let number_is : 1 + number ≡ number + 1 = omega arith in
    let left : drop at all ≡ block ++ kdfa_blocks key label u v (8 * n) (1 + number + 1) more = ap (λ (m : ℕ). drop m all) at_is ∙ drop_blocks key label u v (8 * n) 1 number more count sum
    ∙ ap (λ (m : ℕ). kdfa_block key label u v (8 * n) m ++ kdfa_blocks key label u v (8 * n) (1 + number + 1) more) number_is
    ∙ ap (λ (b : List ℕ). b ++ kdfa_blocks key label u v (8 * n) (1 + number + 1) more) (sym block_is) in
    let next : take len (drop at all) ≡ copied = ap (take len) left ∙ take-append-le len block _ (omega arith) ∙ sym copied_is in
    take-put_mid at k out copied (at + len) (omega arith) (omega arith) ∙ ap (λ (b : List ℕ). b ++ copied) made
    ∙ ap (λ (b : List ℕ). take at all ++ b) (sym next) ∙ sym (take-add at len all)
