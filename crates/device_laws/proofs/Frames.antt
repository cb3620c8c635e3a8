-- What a response is: one frame, whose header says what it was made of.
use Rattle.std.proofs.Common.{◌≡◌, ◌+◌, ◌^◌, ◌<◌, ◌≤◌, ℕ, true, List, [], ◌∷◌, ◌++◌, length, ◌∙◌, sym, arith, length-append}
use Rattle.std.specs.Prelude.{nat_le, ◌==◌, if◌then◌else◌}
use Rattle.std.specs.Int.{w32, to_be_bytes}
use Rattle.std.proofs.lemmas.Bool.{eq-eqb, le-leb, and_from}
use Rattle.std.proofs.lemmas.Nat.{from_be_bytes-to_be_bytes_4}
use Rattle.tab_spec.specs.declared.TheConstants.{HEADER_BYTES, MOST_BYTES, ST_RSP_COMMAND, ST_NO_SESSIONS, RC_SUCCESS, RC_BAD_TAG}
use Rattle.tab_spec.specs.Frame.{size_of, code_of, is_size, is_frame}
use Rattle.tab_spec.specs.Reply.{response, error_reply, with_response_handle}

pub length-response : (tag code : ℕ) (body : List ℕ) → length (response tag code body) ≡ 10 + length body
length-response tag code body = omega arith

-- two of the header's fields
pub size_of_response : (tag code : ℕ) (body : List ℕ) → 10 + length body < 2 ^ 32 → size_of (response tag code body) ≡ 10 + length body
size_of_response tag code body fits = from_be_bytes-to_be_bytes_4 (10 + length body) fits

pub code_of_response : (tag code : ℕ) (body : List ℕ) → code < 2 ^ 32 → code_of (response tag code body) ≡ code
code_of_response tag code body fits = from_be_bytes-to_be_bytes_4 code fits

pub response_is_frame : (tag code : ℕ) (body : List ℕ) → length body ≤ 4086 → is_frame (response tag code body) ≡ true
response_is_frame tag code body small =
    let all = response tag code body in
    let is : length all ≡ 10 + length body = length-response tag code body in
    let least : nat_le HEADER_BYTES (length all) ≡ true = le-leb 10 (length all) (omega arith) in
    let most : nat_le (length all) MOST_BYTES ≡ true = le-leb (length all) 4096 (omega arith) in
    let says : size_of all ≡ 10 + length body = size_of_response tag code body (omega arith) in
    and_from (is_size (length all)) (size_of all == length all)
    (and_from (nat_le HEADER_BYTES (length all)) (nat_le (length all) MOST_BYTES) least most)
    (eq-eqb (size_of all) (length all) (says ∙ sym is))

pub error_is_frame : (code : ℕ) → is_frame (error_reply code) ≡ true
error_is_frame code = response_is_frame (if code == RC_BAD_TAG then ST_RSP_COMMAND else ST_NO_SESSIONS) code [] (omega arith)

-- the response to what made something, with its handle
pub handled_is_frame : (tag handle : ℕ) (body : List ℕ) → length body ≤ 4080
    → is_frame (with_response_handle (response tag RC_SUCCESS (0 ∷ 0 ∷ 0 ∷ 0 ∷ body)) handle) ≡ true
handled_is_frame tag handle body small =
    let area = to_be_bytes w32 handle in
    response_is_frame tag RC_SUCCESS (area ++ body) (omega (arith, length-append area body))
