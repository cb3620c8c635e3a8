-- How many bytes are derived, and hidden.
use Rattle.std.proofs.Common.{◌≡◌, ℕ, zero, suc, ◌+◌, ◌*◌, ◌/◌, List, [], ◌∷◌, length, refl, ap, sym, arith}
use Rattle.std.proofs.lemmas.List.{length-append, length-take}
use Rattle.sha2.proofs.Facts256.{length-sha256}
use Rattle.tab_spec.specs.Hash.{hmac, kdfa, kdfa_block, kdfa_blocks, masked, xor_bytes}

pub length_hmac : (key message : List ℕ) → length (hmac key message) ≡ 32
length_hmac key message = length-sha256 _

length_blocks : (key label u v : List ℕ) (bits number count : ℕ) → length (kdfa_blocks key label u v bits number count) ≡ 32 * count
unfolding kdfa_blocks
length_blocks key label u v bits number zero = refl
length_blocks key label u v bits number (suc more) =
    let block = kdfa_block key label u v bits number in
    let rest = kdfa_blocks key label u v bits (number + 1) more in
    let one : length block ≡ 32 = length-sha256 _ in
    let others : length rest ≡ 32 * more = length_blocks key label u v bits (number + 1) more in
    omega (arith, length-append block rest)

pub length_kdfa : (key label u v : List ℕ) (count : ℕ) → length (kdfa key label u v count) ≡ count
length_kdfa key label u v count =
    let all = kdfa_blocks key label u v (8 * count) 1 ((count + 31) / 32) in
    let long : length all ≡ 32 * ((count + 31) / 32) = length_blocks key label u v (8 * count) 1 ((count + 31) / 32) in
    omega (arith, length-take count all)

length_xor : (a b : List ℕ) → length a ≡ length b → length (xor_bytes a b) ≡ length a
length_xor [] b same = refl
length_xor (x ∷ a) [] same = absurd (omega arith)
length_xor (x ∷ a) (y ∷ b) same = ap suc (length_xor a b (omega arith))

pub length_masked : (key label u v bytes : List ℕ) → length (masked key label u v bytes) ≡ length bytes
length_masked key label u v bytes = length_xor bytes (kdfa key label u v (length bytes)) (sym (length_kdfa key label u v (length bytes)))
