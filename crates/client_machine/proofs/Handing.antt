-- A response with another handle: its header stays, and what stands behind the handle.
use Rattle.std.proofs.Common.{Fits, w8, ◌≡◌, ◌+◌, ◌<◌, ◌≤◌, ◌^◌, ℕ, zero, suc, Bool, true, List, [], ◌∷◌, ◌++◌, length, get_or, take, drop, subst, refl, ap, sym, ◌∙◌, append_assoc, length-append, length-drop, length-take-le, take-append-drop, arith}
use Rattle.std.specs.Prelude.{◌==◌, ◌&&◌, not}
use Rattle.std.specs.Int.{w32, to_be_bytes, from_be_bytes}
use Rattle.std.proofs.lemmas.Bool.{and_parts}
use Rattle.std.proofs.lemmas.List.{drop-take}
use Rattle.std.proofs.lemmas.Nat.{from_be_bytes-to_be_bytes_4}
use Rattle.std.proofs.Math.Seq.{take-append_seam, drop-append_seam}
use Rattle.tab_spec.specs.declared.TheConstants.{RC_SUCCESS, ST_SESSIONS}
use Rattle.tab_spec.specs.declared.Admitted.{Admitted}
use Rattle.tab_spec.specs.Admission.{is_session_handle}
use Rattle.effect_spec.specs.Operands.{command_auth}
use Rattle.effect_spec.specs.SessionAuths.{continues}
use Rattle.tab_spec.specs.Frame.{code_of, is_frame, is_size, size_of}
use Rattle.tab_spec.specs.Reply.{with_response_handle}
use Rattle.tab_spec.specs.Shape.{handle_bytes}
use Rattle.tab_spec.specs.Values.{AreBytes}
use Rattle.tab_spec.specs.declared.contexts.ContextLimits.{ContextLimits}
use Rattle.tab_laws.proofs.OneSpelling.{bytes_back, bytes_front}
use Rattle.device_spec.specs.Answers.{takes}
use Rattle.client_laws.specs.Ready.{ends_session, sent_for, starts_session, tells_object, tells_session}
use Rattle.client_machine.specs.Moves.{told_handle}

-- ---- three pieces

first_piece : (a b c : List ℕ) (n : ℕ) → length a ≡ n → take n ((a ++ b) ++ c) ≡ a
first_piece a b c n long =
    ap (λ (n : ℕ). take n ((a ++ b) ++ c)) (sym long) ∙ ap (λ (all : List ℕ). take (length a) all) (append_assoc a b c) ∙ take-append_seam a (b ++ c)

after_first : (a b c : List ℕ) (n : ℕ) → length a ≡ n → drop n ((a ++ b) ++ c) ≡ b ++ c
after_first a b c n long =
    ap (λ (n : ℕ). drop n ((a ++ b) ++ c)) (sym long) ∙ ap (λ (all : List ℕ). drop (length a) all) (append_assoc a b c) ∙ drop-append_seam a (b ++ c)

second_piece : (a b c : List ℕ) (n m : ℕ) → length a ≡ n → length b ≡ m → take m (drop n ((a ++ b) ++ c)) ≡ b
second_piece a b c n m long wide =
    ap (λ (all : List ℕ). take m all) (after_first a b c n long) ∙ ap (λ (m : ℕ). take m (b ++ c)) (sym wide) ∙ take-append_seam b c

third_piece : (a b c : List ℕ) (n : ℕ) → length a + length b ≡ n → drop n ((a ++ b) ++ c) ≡ c
third_piece a b c n long =
    ap (λ (n : ℕ). drop n ((a ++ b) ++ c)) (sym long ∙ sym (length-append a b)) ∙ drop-append_seam (a ++ b) c

-- ---- the response

-- what a response keeps under another handle
pub record Handed (reply : List ℕ) (handle : ℕ) : Type 0 where
  pub long : length (with_response_handle reply handle) ≡ length reply
  pub front : take 10 (with_response_handle reply handle) ≡ take 10 reply
  pub told : take 4 (drop 10 (with_response_handle reply handle)) ≡ to_be_bytes w32 handle
  pub back : drop 14 (with_response_handle reply handle) ≡ drop 14 reply

pub handed : (reply : List ℕ) (handle : ℕ) → 14 ≤ length reply → Handed reply handle
handed reply handle long =
    let head = take 10 reply in
    let area = to_be_bytes w32 handle in
    let rest = drop 14 reply in
    let ten : length head ≡ 10 = length-take-le 10 reply (omega (arith, long)) in
    let four : length area ≡ 4 = refl in
    record {
      long = omega (arith, ten, four, length-append (head ++ area) rest, length-append head area, length-drop 14 reply, long);
      front = first_piece head area rest 10 ten;
      told = second_piece head area rest 10 4 ten four;
      back = third_piece head area rest 14 (omega (arith, ten, four));
    }

same_code : (one other : List ℕ) → take 10 one ≡ take 10 other → code_of one ≡ code_of other
same_code one other front =
    ap (λ (bytes : List ℕ). from_be_bytes w32 bytes)
    (sym (drop-take 6 4 one) ∙ ap (λ (head : List ℕ). drop 6 head) front ∙ drop-take 6 4 other)

four_in : (bytes : List ℕ) → take 4 (drop 2 (take 10 bytes)) ≡ take 4 (drop 2 bytes)
four_in [] = refl
four_in (a ∷ []) = refl
four_in (a ∷ b ∷ []) = refl
four_in (a ∷ b ∷ c ∷ []) = refl
four_in (a ∷ b ∷ c ∷ d ∷ []) = refl
four_in (a ∷ b ∷ c ∷ d ∷ e ∷ []) = refl
four_in (a ∷ b ∷ c ∷ d ∷ e ∷ f ∷ bytes) = refl

same_size : (one other : List ℕ) → take 10 one ≡ take 10 other → size_of one ≡ size_of other
same_size one other front =
    ap (λ (bytes : List ℕ). from_be_bytes w32 bytes)
    (sym (four_in one) ∙ ap (λ (head : List ℕ). take 4 (drop 2 head)) front ∙ four_in other)

pub handed_code : (reply : List ℕ) (handle : ℕ) → 14 ≤ length reply → code_of (with_response_handle reply handle) ≡ code_of reply
handed_code reply handle long = same_code (with_response_handle reply handle) reply (handed reply handle long).front

pub handed_frame : (reply : List ℕ) (handle : ℕ) → 14 ≤ length reply → is_frame (with_response_handle reply handle) ≡ is_frame reply
handed_frame reply handle long =
    let new = with_response_handle reply handle in
    let kept = handed reply handle long in
    let size : size_of new ≡ size_of reply = same_size new reply kept.front in
    ap (λ (n : ℕ). is_size n && size_of new == n) kept.long ∙ ap (λ (n : ℕ). is_size (length reply) && n == length reply) size

-- it tells an object where it did
pub handed_tells : (a : Admitted) (reply : List ℕ) (handle : ℕ) → 14 ≤ length reply
    → tells_object a (with_response_handle reply handle) ≡ tells_object a reply
handed_tells a reply handle long =
    ap (λ (code : ℕ). not (starts_session a) && a.shape.row.response_handle && code == RC_SUCCESS) (handed_code reply handle long)

pub handed_tells_session : (a : Admitted) (reply : List ℕ) (handle : ℕ) → 14 ≤ length reply
    → tells_session a (with_response_handle reply handle) ≡ tells_session a reply
handed_tells_session a reply handle long = ap (λ (code : ℕ). starts_session a && code == RC_SUCCESS) (handed_code reply handle long)

pub handed_ends : (a : Admitted) (reply : List ℕ) (handle : ℕ) → 14 ≤ length reply
    → ends_session a (with_response_handle reply handle) ≡ ends_session a reply
handed_ends a reply handle long =
    ap (λ (code : ℕ). code == RC_SUCCESS && a.shape.tag == ST_SESSIONS && is_session_handle (command_auth a.auths).session && not (continues (command_auth a.auths)))
    (handed_code reply handle long)

-- the handle that it tells is that one
pub handed_told : (reply : List ℕ) (handle : ℕ) → 14 ≤ length reply → handle < 2 ^ 32 → told_handle (with_response_handle reply handle) ≡ handle
handed_told reply handle long fits =
    ap (λ (bytes : List ℕ). from_be_bytes w32 bytes) (handed reply handle long).told ∙ from_be_bytes-to_be_bytes_4 handle fits

-- of two handles the last one counts
pub handed_twice : (reply : List ℕ) (one other : ℕ) → 14 ≤ length reply
    → with_response_handle (with_response_handle reply one) other ≡ with_response_handle reply other
handed_twice reply one other long =
    let kept = handed reply one long in
    ap (λ (head : List ℕ). head ++ to_be_bytes w32 other ++ drop 14 (with_response_handle reply one)) kept.front
    ∙ ap (λ (rest : List ℕ). take 10 reply ++ to_be_bytes w32 other ++ rest) kept.back

-- ---- a response that is taken

pub taken_frame : (contexts : ContextLimits) (is_kept is_taken : Bool) (asked last : List ℕ) → takes contexts is_kept is_taken asked last ≡ true → is_frame last ≡ true
taken_frame contexts is_kept is_taken asked last taken = (and_parts (is_frame last) _ taken).0

-- ---- what is sent are bytes

bytes_fit : (bytes : List ℕ) → ((i : ℕ) → get_or bytes i 0 < 256) → AreBytes bytes
bytes_fit [] all = tt
bytes_fit (byte ∷ bytes) all = (all 0, bytes_fit bytes (λ i. all (suc i)))

-- the bytes of a slice
pub slice_bytes : (bytes : List ℕ) → ((i : ℕ) → Fits w8 (get_or bytes i 0)) → AreBytes bytes
slice_bytes bytes each = bytes_fit bytes (λ i. omega (arith, each i))

bytes_joined : (a b : List ℕ) → AreBytes a → AreBytes b → AreBytes (a ++ b)
bytes_joined [] b all other = other
bytes_joined (byte ∷ a) b all other = (all.0, bytes_joined a b all.1 other)

number_bytes : (n : ℕ) → AreBytes (to_be_bytes w32 n)
number_bytes n = (omega arith, (omega arith, (omega arith, (omega arith, tt))))

handles_bytes : (count : ℕ) (handles : List ℕ) → AreBytes (handle_bytes count handles)
handles_bytes zero handles = tt
handles_bytes (suc count) [] = tt
handles_bytes (suc count) (handle ∷ handles) =
    bytes_joined (to_be_bytes w32 handle) (handle_bytes count handles) (number_bytes handle) (handles_bytes count handles)

pub sent_bytes : (bytes : List ℕ) (a : Admitted) (first : ℕ) → AreBytes bytes → AreBytes (sent_for bytes a first)
sent_bytes bytes a first all =
    let head : AreBytes (take 10 bytes) =
    bytes_front (take 10 bytes) (drop 10 bytes) (subst AreBytes (sym (take-append-drop 10 bytes)) all) in
    let rest : AreBytes (drop a.shape.rest bytes) =
    bytes_back (take a.shape.rest bytes) (drop a.shape.rest bytes) (subst AreBytes (sym (take-append-drop a.shape.rest bytes)) all) in
    let handles = handle_bytes a.shape.count (first ∷ get_or a.shape.handles 1 0 ∷ []) in
    bytes_joined (take 10 bytes ++ handles) (drop a.shape.rest bytes)
    (bytes_joined (take 10 bytes) handles head (handles_bytes a.shape.count (first ∷ get_or a.shape.handles 1 0 ∷ []))) rest
