-- A workload has few replies.
use Rattle.std.proofs.Common.{◌≡◌, ◌≤◌, ◌+◌, ◌*◌, ◌++◌, ℕ, zero, suc, Bool, true, false, cond, eqb, ltb, List, [], ◌∷◌, length, drop, take, map, refl, arith, length-append, Some, None}
use Rattle.std.specs.Prelude.{Option, not}
use Rattle.std.specs.List.{AllByRecursion}
use Rattle.std.proofs.lemmas.List.{length-drop}
use Rattle.std.proofs.lemmas.List.Sums.{sum_by-append, sum_by-cons}
use Rattle.tab_spec.specs.Frame.{command, cancel, commands_of, frames, frames_within, is_size, meets_bad_size, size_of}
use Rattle.tab_spec.specs.Frame as frame
use Rattle.history_spec.specs.Cancels.{canceled_up_to, cover}
use Rattle.script_spec.specs.Script.{ScriptItem, close, piece}
use Rattle.script_spec.specs.Calls.{Call, Stream, after_item, after_piece, bytes_of, calls, calls_from, close_calls, closing, ending_calls, fed, item_calls, item_commands, labels_from, new_items, numbered, opening, piece_calls, so_far, stream_calls, with_closes, without_stream}
use Rattle.script_spec.specs.Calls as call
use Rattle.script_spec.specs.Summary.{is_answered, replies_to}

abbrev one : Call → ℕ
one c = cond (is_answered c) 1 0

-- ---- calls

replies-cons : (c : Call) (calls : List Call) → replies_to (c ∷ calls) ≡ one c + replies_to calls
replies-cons c calls = sum_by-cons one c calls

replies-append : (a b : List Call) → replies_to (a ++ b) ≡ replies_to a + replies_to b
replies-append a b = sum_by-append one a b

closings_few : (labels : List ℕ) → replies_to (map closing labels) ≡ 0
closings_few [] = refl
closings_few (label ∷ labels) = omega (arith, replies-cons (closing label) (map closing labels), closings_few labels)

numbered_few : (label number : ℕ) (upto : Option ℕ) (bytes : List (List ℕ)) → replies_to (numbered label number upto bytes) ≡ length bytes
numbered_few label number upto [] = refl
numbered_few label number upto (b ∷ bytes) =
    let more = numbered label (number + 1) upto bytes in
    omega (arith, replies-cons (call.command label number b (cover upto number)) more, numbered_few label (number + 1) upto bytes)

ending_few : (label : ℕ) (b : Bool) → replies_to (ending_calls label b) ≤ 1
ending_few label true = omega arith
ending_few label false = omega arith

-- ---- frames

one_few : (most : ℕ) (b : Bool) (x y : frame.Frames) → length x.items ≤ most → length y.items ≤ most → length (cond b x y).items ≤ most
one_few most true x y first second = first
one_few most false x y first second = second

frames_few : (most : ℕ) (bytes : List ℕ) → length (frames_within most bytes).items ≤ most
unfolding frames_within
frames_few zero bytes = omega arith
frames_few (suc most) bytes =
    let size : ℕ = size_of bytes in
    let next : frame.Frames = frames_within most (drop size bytes) in
    let few : length next.items ≤ most = frames_few most (drop size bytes) in
    let ended : frame.Frames = record { items = []; ending = frame.end_of bytes } in
    let bad : frame.Frames = record { items = []; ending = frame.bad size } in
    let within : frame.Frames = record { items = []; ending = frame.rest } in
    let more : frame.Frames = frame.with_item (frame.item_of (take size bytes)) next in
    one_few (suc most) (ltb (length bytes) 6) ended _ (omega arith)
    (one_few (suc most) (not (is_size size)) bad _ (omega arith)
    (one_few (suc most) (ltb (length bytes) size) within more (omega arith) (omega (arith, few))))

commands_few : (items : List frame.StreamItem) → length (commands_of items) ≤ length items
commands_few [] = omega arith
commands_few (command b ∷ items) = omega (arith, commands_few items)
commands_few (cancel ∷ items) = omega (arith, commands_few items)

stream_few : (label : ℕ) (before bytes : List ℕ) → replies_to (stream_calls label before bytes) ≤ length before + length bytes + 1
stream_few label before bytes =
    let all : List ℕ = before ++ bytes in
    let old : ℕ = length (frames before).items in
    let items = (frames all).items in
    let count : ℕ = length (frame.commands before) in
    let new : List frame.StreamItem = new_items before bytes in
    let last : List Call = ending_calls label (meets_bad_size all) in
    omega (
      arith,
      replies-append (item_commands label count new) last,
      numbered_few label (count + 1) (canceled_up_to count new) (commands_of new),
      ending_few label (meets_bad_size all),
      commands_few (drop old items),
      length-drop old items,
      frames_few (length all) all,
      length-append before bytes,
    )

-- ---- streams

-- no stream has more bytes than this
abbrev AreSmall : ℕ → List Stream → Type 0
AreSmall most streams = AllByRecursion (λ s. length s.bytes ≤ most) streams

bytes_small : (most : ℕ) (streams : List Stream) (label : ℕ) → AreSmall most streams → length (so_far (bytes_of streams label)) ≤ most
bytes_small most [] label small = omega arith
bytes_small most (s ∷ streams) label small =
    elim (eqb s.label label) as (λ b. length (so_far (cond b (Some s.bytes) (bytes_of streams label))) ≤ most) [
      | true ↦ small.0
      | false ↦ bytes_small most streams label small.1
    ]

still_small : (less more : ℕ) (streams : List Stream) → less ≤ more → AreSmall less streams → AreSmall more streams
still_small less more [] below small = tt
still_small less more (s ∷ streams) below small = (omega (arith, small.0, below), still_small less more streams below small.1)

without_small : (most label : ℕ) (streams : List Stream) → AreSmall most streams → AreSmall most (without_stream label streams)
without_small most label [] small = tt
without_small most label (s ∷ streams) small =
    elim (eqb s.label label) as (λ b. AreSmall most (cond b streams (s ∷ without_stream label streams))) [
      | true ↦ small.1
      | false ↦ (small.0, without_small most label streams small.1)
    ]

fed_small : (most label : ℕ) (bytes : List ℕ) (streams : List Stream) → AreSmall most streams → AreSmall (most + length bytes) (fed streams label bytes)
fed_small most label bytes [] small = (omega arith, tt)
fed_small most label bytes (s ∷ streams) small =
    let more : ℕ = most + length bytes in
    let longer : Stream = record { label = label; bytes = s.bytes ++ bytes } in
    let below : most ≤ more = omega arith in
    elim (eqb s.label label) as (λ b. AreSmall more (cond b (longer ∷ streams) (s ∷ fed streams label bytes))) [
      | true ↦ (omega (arith, small.0, length-append s.bytes bytes), still_small most more streams below small.1)
      | false ↦ (omega (arith, small.0), fed_small most label bytes streams small.1)
    ]

-- ---- items

abbrev pub size_of_item : ScriptItem → ℕ
size_of_item (piece label bytes) = length bytes
size_of_item (close label) = 0

after_small : (most : ℕ) (item : ScriptItem) (streams : List Stream) → AreSmall most streams → AreSmall (most + size_of_item item) (after_item streams item)
after_small most (piece label bytes) streams small =
    let more : ℕ = most + length bytes in
    let below : most ≤ more = omega arith in
    elim (meets_bad_size (so_far (bytes_of streams label) ++ bytes)) as (λ b. AreSmall more (cond b (without_stream label streams) (fed streams label bytes))) [
      | true ↦ without_small more label streams (still_small most more streams below small)
      | false ↦ fed_small most label bytes streams small
    ]
after_small most (close label) streams small = still_small most (most + 0) (without_stream label streams) (omega arith) (without_small most label streams small)

piece_few : (known : Option (List ℕ)) (label : ℕ) (bytes : List ℕ) → replies_to (piece_calls known label bytes) ≤ length (so_far known) + length bytes + 1
piece_few None label bytes = omega (arith, replies-cons (opening label) (stream_calls label [] bytes), stream_few label [] bytes)
piece_few (Some before) label bytes = stream_few label before bytes

close_few : (known : Option (List ℕ)) (label : ℕ) → replies_to (close_calls known label) ≡ 0
close_few None label = refl
close_few (Some before) label = refl

item_few : (most : ℕ) (item : ScriptItem) (streams : List Stream) → AreSmall most streams → replies_to (item_calls streams item) ≤ most + size_of_item item + 1
item_few most (piece label bytes) streams small = omega (arith, piece_few (bytes_of streams label) label bytes, bytes_small most streams label small)
item_few most (close label) streams small = omega (arith, close_few (bytes_of streams label) label)

-- the bytes of all pieces
abbrev pub bytes_in : List ScriptItem → ℕ
bytes_in [] = 0
bytes_in (item ∷ items) = size_of_item item + bytes_in items

items_few : (items : List ScriptItem) (streams : List Stream) (most : ℕ) → AreSmall most streams → most + bytes_in items ≤ 6500000
    → replies_to (calls_from streams items) ≤ 6500001 * length items
items_few [] streams most small few = omega arith
items_few (item ∷ items) streams most small few =
    let next : List Stream = after_item streams item in
    let more : ℕ = most + size_of_item item in
    let rest = items_few items next more (after_small most item streams small) (omega (arith, few)) in
    omega (arith, replies-append (item_calls streams item) (calls_from next items), item_few most item streams small, rest, few)

pub calls_few : (items : List ScriptItem) → bytes_in items ≤ 6500000 → replies_to (calls items) ≤ 6500001 * length items
calls_few items few =
    let made : List Call = calls_from [] items in
    let labels : List ℕ = labels_from [] made in
    omega (arith, replies-append made (map closing labels), closings_few labels, items_few items [] 0 tt (omega (arith, few)))
