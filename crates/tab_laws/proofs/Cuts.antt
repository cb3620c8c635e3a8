-- How streams are cut: a stream that goes on is cut as if what its frames left began it.
use Rattle.std.proofs.Common.{◌≡◌, ◌++◌, ◌<◌, ◌≤◌, ◌+◌, ℕ, zero, suc, Bool, true, false, List, [], ◌∷◌, length, take, drop, refl, ◌∙◌, ap, sym, arith, length-drop, length-append, le_refl, le_trans}
use Rattle.std.specs.Prelude.{nat_lt, ◌==◌}
use Rattle.std.proofs.lemmas.Bool.{ltb-true, ltb-false, lt-ltb, le-ltb, eqb-true, and_parts}
use Rattle.std.proofs.lemmas.Bool.Decides.{nat_tests}
use Rattle.std.proofs.lemmas.List.{append-nil, take-append-le, drop-append-le, take_all, drop_all}
use Rattle.std.specs.Int.{w32, from_be_bytes}
use Rattle.tab_spec.specs.Frame.{size_of, is_size, is_frame, StreamItem, command, cancel, item_of, commands_of, commands, StreamEnding, whole, rest, bad, end_of, Frames, with_item, frames_within, frames, left_within, left_of, is_bad, meets_bad_size}

-- ---- what a stream begins with

-- a size that a frame may have is neither too small nor too large
size_enough : (size : ℕ) → is_size size ≡ true → 10 ≤ size
size_enough size is = grind (arith, nat_tests)

size_most : (size : ℕ) → is_size size ≡ true → size ≤ 4096
size_most size is = grind (arith, nat_tests)

pub frame_long : (f : List ℕ) → is_frame f ≡ true → 10 ≤ length f
frame_long f is = size_enough (length f) (and_parts (is_size (length f)) (size_of f == length f) is).0

-- no frame comes first, in however many steps
pub record Stops (a : List ℕ) (end : StreamEnding) : Type 0 where
  pub cut : (n : ℕ) → length a ≤ n → frames_within n a ≡ record { items = []; ending = end }
  pub left : (n : ℕ) → left_within n a ≡ a
  pub few : is_bad end ≡ false → length a < 4096
  pub none : end ≡ whole → a ≡ []

-- a frame comes first
record Starts (a : List ℕ) : Type 0 where
  long : 6 ≤ length a
  fits : is_size (size_of a) ≡ true
  enough : size_of a ≤ length a

data Head (a : List ℕ) : Type 0 where
  stops : (end : StreamEnding) → Stops a end → Head a
  starts : Starts a → Head a

end_none : (a : List ℕ) → end_of a ≡ whole → a ≡ []
end_none [] is = refl
end_none (x ∷ a) is = absurd (cc is)

pub end_not_bad : (a : List ℕ) → is_bad (end_of a) ≡ false
end_not_bad [] = refl
end_not_bad (x ∷ a) = refl

end_some : (a : List ℕ) → 6 ≤ length a → end_of a ≡ rest
end_some [] long = absurd (omega arith)
end_some (x ∷ a) long = refl

cut_short : (n : ℕ) (a : List ℕ) → nat_lt (length a) 6 ≡ true → frames_within n a ≡ record { items = []; ending = end_of a }
unfolding frames_within
cut_short zero a short = refl
cut_short (suc n) a short = rw short refl

left_short : (n : ℕ) (a : List ℕ) → nat_lt (length a) 6 ≡ true → left_within n a ≡ a
unfolding left_within
left_short zero a short = refl
left_short (suc n) a short = rw short refl

cut_wrong : (n : ℕ) (a : List ℕ) → length a ≤ n → nat_lt (length a) 6 ≡ false → is_size (size_of a) ≡ false → frames_within n a ≡ record { items = []; ending = bad (size_of a) }
unfolding frames_within
cut_wrong zero a within long wrong = let there = ltb-false (length a) 6 long in absurd (omega arith)
cut_wrong (suc n) a within long wrong = rw (long, wrong) refl

left_wrong : (n : ℕ) (a : List ℕ) → nat_lt (length a) 6 ≡ false → is_size (size_of a) ≡ false → left_within n a ≡ a
unfolding left_within
left_wrong zero a long wrong = refl
left_wrong (suc n) a long wrong = rw (long, wrong) refl

cut_begun : (n : ℕ) (a : List ℕ) → nat_lt (length a) 6 ≡ false → is_size (size_of a) ≡ true → nat_lt (length a) (size_of a) ≡ true → frames_within n a ≡ record { items = []; ending = rest }
unfolding frames_within
cut_begun zero a long fits begun = let there = ltb-false (length a) 6 long in rw (end_some a there) refl
cut_begun (suc n) a long fits begun = rw (long, fits, begun) refl

left_begun : (n : ℕ) (a : List ℕ) → nat_lt (length a) 6 ≡ false → is_size (size_of a) ≡ true → nat_lt (length a) (size_of a) ≡ true → left_within n a ≡ a
unfolding left_within
left_begun zero a long fits begun = refl
left_begun (suc n) a long fits begun = rw (long, fits, begun) refl

-- too few bytes to tell a size, a size that no frame has, and a frame that is not all there
pub stops_short : (a : List ℕ) → length a < 6 → Stops a (end_of a)
stops_short a short =
    let test : nat_lt (length a) 6 ≡ true = lt-ltb (length a) 6 short in
    record {
      cut = λ n within. cut_short n a test;
      left = λ n. left_short n a test;
      few = λ good. omega arith;
      none = end_none a;
    }

pub stops_wrong : (a : List ℕ) → 6 ≤ length a → is_size (size_of a) ≡ false → Stops a (bad (size_of a))
stops_wrong a long wrong =
    let test : nat_lt (length a) 6 ≡ false = le-ltb (length a) 6 long in
    record {
      cut = λ n within. cut_wrong n a within test wrong;
      left = λ n. left_wrong n a test wrong;
      few = λ good. absurd (cc good);
      none = λ is. absurd (cc is);
    }

pub stops_begun : (a : List ℕ) → 6 ≤ length a → is_size (size_of a) ≡ true → length a < size_of a → Stops a rest
stops_begun a long fits begun =
    let test : nat_lt (length a) 6 ≡ false = le-ltb (length a) 6 long in
    let fewer : nat_lt (length a) (size_of a) ≡ true = lt-ltb (length a) (size_of a) begun in
    record {
      cut = λ n within. cut_begun n a test fits fewer;
      left = λ n. left_begun n a test fits fewer;
      few = λ good. let most = size_most (size_of a) fits in omega arith;
      none = λ is. absurd (cc is);
    }

head_by : (a : List ℕ) (short fits begun : Bool) → nat_lt (length a) 6 ≡ short → is_size (size_of a) ≡ fits → nat_lt (length a) (size_of a) ≡ begun → Head a
head_by a true fits begun is_short is_fits is_begun = stops (end_of a) (stops_short a (ltb-true (length a) 6 is_short))
head_by a false false begun is_short is_fits is_begun = stops (bad (size_of a)) (stops_wrong a (ltb-false (length a) 6 is_short) is_fits)
head_by a false true true is_short is_fits is_begun = stops rest (stops_begun a (ltb-false (length a) 6 is_short) is_fits (ltb-true (length a) (size_of a) is_begun))
head_by a false true false is_short is_fits is_begun = starts (record {
  long = ltb-false (length a) 6 is_short;
  fits = is_fits;
  enough = ltb-false (length a) (size_of a) is_begun;
})

head : (a : List ℕ) → Head a
head a = head_by a (nat_lt (length a) 6) (is_size (size_of a)) (nat_lt (length a) (size_of a)) refl refl refl

-- ---- a frame at the head of a stream

cut_head : (n : ℕ) (a : List ℕ) → Starts a → frames_within (suc n) a ≡ with_item (item_of (take (size_of a) a)) (frames_within n (drop (size_of a) a))
unfolding frames_within
cut_head n a start =
    let there : nat_lt (length a) 6 ≡ false = le-ltb (length a) 6 start.long in
    let all_there : nat_lt (length a) (size_of a) ≡ false = le-ltb (length a) (size_of a) start.enough in
    rw (start.fits, there, all_there) refl

left_head : (n : ℕ) (a : List ℕ) → Starts a → left_within (suc n) a ≡ left_within n (drop (size_of a) a)
unfolding left_within
left_head n a start =
    let there : nat_lt (length a) 6 ≡ false = le-ltb (length a) 6 start.long in
    let all_there : nat_lt (length a) (size_of a) ≡ false = le-ltb (length a) (size_of a) start.enough in
    rw (start.fits, there, all_there) refl

-- it has bytes, and behind it there are fewer
not_none : (a : List ℕ) → Starts a → length a ≤ 0 → ⊥
not_none a start none = let long = start.long in omega arith

shorter : (n : ℕ) (a : List ℕ) → Starts a → length a ≤ suc n → length (drop (size_of a) a) ≤ n
shorter n a start room =
    let least = size_enough (size_of a) start.fits in
    let enough = start.enough in
    omega (arith, length-drop (size_of a) a)

-- the size is told by the first six bytes
pub size_before : (a b : List ℕ) → 6 ≤ length a → size_of (a ++ b) ≡ size_of a
size_before a b long =
    let field : take 4 (drop 2 (a ++ b)) ≡ take 4 (drop 2 a) =
    ap (λ (l : List ℕ). take 4 l) (drop-append-le 2 a b (omega arith)) ∙ take-append-le 4 (drop 2 a) b (omega (arith, length-drop 2 a)) in
    ap (λ (l : List ℕ). from_be_bytes w32 l) field

-- it stays at the head when the stream goes on
starts_before : (a b : List ℕ) → Starts a → Starts (a ++ b)
starts_before a b start =
    let size = size_before a b start.long in
    let longer : length a ≤ length (a ++ b) = omega (arith, length-append a b) in
    record {
      long = le_trans start.long longer;
      fits = rw size start.fits;
      enough = rw size (le_trans start.enough longer);
    }

item_before : (a b : List ℕ) → Starts a → take (size_of (a ++ b)) (a ++ b) ≡ take (size_of a) a
item_before a b start = rw (size_before a b start.long) (take-append-le (size_of a) a b start.enough)

behind_before : (a b : List ℕ) → Starts a → drop (size_of (a ++ b)) (a ++ b) ≡ drop (size_of a) a ++ b
behind_before a b start = rw (size_before a b start.long) (drop-append-le (size_of a) a b start.enough)

-- ---- how many frames may be cut makes no difference where there are no more bytes than that

cut_within_by : (n m : ℕ) (a : List ℕ) → Head a → length a ≤ n → length a ≤ m → frames_within n a ≡ frames_within m a
cut_within_by n m a (stops end stop) within_n within_m = stop.cut n within_n ∙ sym (stop.cut m within_m)
cut_within_by zero m a (starts start) within_n within_m = absurd (not_none a start within_n)
cut_within_by (suc n) zero a (starts start) within_n within_m = absurd (not_none a start within_m)
cut_within_by (suc n) (suc m) a (starts start) within_n within_m =
    let tail = drop (size_of a) a in
    cut_head n a start
    ∙ ap (λ (cut : Frames). with_item (item_of (take (size_of a) a)) cut) (cut_within_by n m tail (head tail) (shorter n a start within_n) (shorter m a start within_m))
    ∙ sym (cut_head m a start)

pub cut_within : (n m : ℕ) (a : List ℕ) → length a ≤ n → length a ≤ m → frames_within n a ≡ frames_within m a
cut_within n m a within_n within_m = cut_within_by n m a (head a) within_n within_m

left_cut_by : (n m : ℕ) (a : List ℕ) → Head a → length a ≤ n → length a ≤ m → left_within n a ≡ left_within m a
left_cut_by n m a (stops end stop) within_n within_m = stop.left n ∙ sym (stop.left m)
left_cut_by zero m a (starts start) within_n within_m = absurd (not_none a start within_n)
left_cut_by (suc n) zero a (starts start) within_n within_m = absurd (not_none a start within_m)
left_cut_by (suc n) (suc m) a (starts start) within_n within_m =
    let tail = drop (size_of a) a in
    left_head n a start ∙ left_cut_by n m tail (head tail) (shorter n a start within_n) (shorter m a start within_m) ∙ sym (left_head m a start)

left_cut : (n m : ℕ) (a : List ℕ) → length a ≤ n → length a ≤ m → left_within n a ≡ left_within m a
left_cut n m a within_n within_m = left_cut_by n m a (head a) within_n within_m

-- ---- what is left of a stream

left_stops_by : (n : ℕ) (a : List ℕ) → Head a → length a ≤ n → Stops (left_within n a) (frames_within n a).ending
left_stops_by n a (stops end stop) within = rw (stop.left n, stop.cut n within) stop
left_stops_by zero a (starts start) within = absurd (not_none a start within)
left_stops_by (suc n) a (starts start) within =
    let tail = drop (size_of a) a in
    rw (left_head n a start, cut_head n a start) (left_stops_by n tail (head tail) (shorter n a start within))

-- no frame comes first in what is left
pub left_stops : (a : List ℕ) → Stops (left_of a) (frames a).ending
left_stops a = left_stops_by (length a) a (head a) (le_refl (length a))

-- what is left has no items, and ends as the stream does
pub left_frames : (a : List ℕ) → frames (left_of a) ≡ record { items = []; ending = (frames a).ending }
left_frames a = (left_stops a).cut (length (left_of a)) (le_refl (length (left_of a)))

pub left_items : (a : List ℕ) → (frames (left_of a)).items ≡ []
left_items a = ap (λ (cut : Frames). cut.items) (left_frames a)

pub left_ending : (a : List ℕ) → (frames (left_of a)).ending ≡ (frames a).ending
left_ending a = ap (λ (cut : Frames). cut.ending) (left_frames a)

pub left_few : (a : List ℕ) → meets_bad_size a ≡ false → length (left_of a) < 4096
left_few a good = (left_stops a).few good

-- ---- a stream that goes on

-- the frames of a stream behind items that were cut before it
abbrev pub behind : List StreamItem → Frames → Frames
behind items tail = record { items = items ++ tail.items; ending = tail.ending }

go_on_by : (n m : ℕ) (a b : List ℕ) → Head a → length a ≤ n → length (a ++ b) ≤ m → frames_within m (a ++ b) ≡ behind (frames_within n a).items (frames (left_within n a ++ b))
go_on_by n m a b (stops end stop) within_n within_m =
    rw (stop.left n, stop.cut n within_n) (cut_within m (length (a ++ b)) (a ++ b) within_m (le_refl (length (a ++ b))))
go_on_by zero m a b (starts start) within_n within_m = absurd (not_none a start within_n)
go_on_by (suc n) zero a b (starts start) within_n within_m = absurd (not_none (a ++ b) (starts_before a b start) within_m)
go_on_by (suc n) (suc m) a b (starts start) within_n within_m =
    let tail = drop (size_of a) a in
    let later = starts_before a b start in
    let fewer : length (tail ++ b) ≤ m = rw (behind_before a b start) at (shorter m (a ++ b) later within_m) in
    let on = go_on_by n m tail b (head tail) (shorter n a start within_n) fewer in
    rw (cut_head m (a ++ b) later, item_before a b start, behind_before a b start, cut_head n a start, left_head n a start)
    (ap (λ (cut : Frames). with_item (item_of (take (size_of a) a)) cut) on)

left_on_by : (n m : ℕ) (a b : List ℕ) → Head a → length a ≤ n → length (a ++ b) ≤ m → left_within m (a ++ b) ≡ left_of (left_within n a ++ b)
left_on_by n m a b (stops end stop) within_n within_m =
    rw (stop.left n) (left_cut m (length (a ++ b)) (a ++ b) within_m (le_refl (length (a ++ b))))
left_on_by zero m a b (starts start) within_n within_m = absurd (not_none a start within_n)
left_on_by (suc n) zero a b (starts start) within_n within_m = absurd (not_none (a ++ b) (starts_before a b start) within_m)
left_on_by (suc n) (suc m) a b (starts start) within_n within_m =
    let tail = drop (size_of a) a in
    let later = starts_before a b start in
    let fewer : length (tail ++ b) ≤ m = rw (behind_before a b start) at (shorter m (a ++ b) later within_m) in
    let on = left_on_by n m tail b (head tail) (shorter n a start within_n) fewer in
    rw (left_head m (a ++ b) later, behind_before a b start, left_head n a start) on

-- a stream goes on behind its frames as if what they leave began there, where it met a bad size too
pub stream_goes_on : (a b : List ℕ) → frames (a ++ b) ≡ behind (frames a).items (frames (left_of a ++ b))
stream_goes_on a b = go_on_by (length a) (length (a ++ b)) a b (head a) (le_refl (length a)) (le_refl (length (a ++ b)))

pub left_goes_on : (a b : List ℕ) → left_of (a ++ b) ≡ left_of (left_of a ++ b)
left_goes_on a b = left_on_by (length a) (length (a ++ b)) a b (head a) (le_refl (length a)) (le_refl (length (a ++ b)))

-- ---- exactly one frame

frame_size : (f : List ℕ) → is_frame f ≡ true → size_of f ≡ length f
frame_size f is = eqb-true (size_of f) (length f) (and_parts (is_size (length f)) (size_of f == length f) is).1

frame_starts : (f : List ℕ) → is_frame f ≡ true → Starts f
frame_starts f is =
    let fits = (and_parts (is_size (length f)) (size_of f == length f) is).0 in
    let least = size_enough (length f) fits in
    let size = frame_size f is in
    record { long = omega arith; fits = rw size fits; enough = omega arith }

-- one frame, and whatever is behind it
frame_within : (n : ℕ) (f b : List ℕ) → length (f ++ b) ≡ n → is_frame f ≡ true → (frames_within n (f ++ b) ≡ with_item (item_of f) (frames b)) × (left_within n (f ++ b) ≡ left_of b)
frame_within zero f b len is = absurd (not_none (f ++ b) (starts_before f b (frame_starts f is)) (omega arith))
frame_within (suc n) f b len is =
    let start = frame_starts f is in
    let later = starts_before f b start in
    let size = frame_size f is in
    let item : take (size_of (f ++ b)) (f ++ b) ≡ f = item_before f b start ∙ rw size (take_all (length f) f (le_refl (length f))) in
    let tail : drop (size_of (f ++ b)) (f ++ b) ≡ b = behind_before f b start ∙ rw size (ap (λ (l : List ℕ). l ++ b) (drop_all (length f) f (le_refl (length f)))) in
    let fewer : length b ≤ n = rw tail at (shorter n (f ++ b) later (omega arith)) in (
      rw (cut_head n (f ++ b) later, item, tail) (ap (λ (cut : Frames). with_item (item_of f) cut) (cut_within n (length b) b fewer (le_refl (length b)))),
      rw (left_head n (f ++ b) later, tail) (left_cut n (length b) b fewer (le_refl (length b))),
    )

pub frame_before : (f b : List ℕ) → is_frame f ≡ true → frames (f ++ b) ≡ with_item (item_of f) (frames b)
frame_before f b is = (frame_within (length (f ++ b)) f b refl is).0

pub left_before : (f b : List ℕ) → is_frame f ≡ true → left_of (f ++ b) ≡ left_of b
left_before f b is = (frame_within (length (f ++ b)) f b refl is).1

-- exactly one frame is cut whole
pub one_frame : (f : List ℕ) → is_frame f ≡ true → frames f ≡ record { items = item_of f ∷ []; ending = whole }
one_frame f is =
    rw (append-nil f) at (frame_before f [] is)
    ∙ ap (λ (cut : Frames). with_item (item_of f) cut) ((stops_short [] (omega arith)).cut 0 (le_refl 0))

-- ---- a size that no frame has

no_item : (item : StreamItem) (tail : Frames) → (with_item item tail).items ≡ [] → ⊥
no_item item tail e = cc e

left_nothing_by : (a : List ℕ) → Head a → (frames a).items ≡ [] → left_of a ≡ a
left_nothing_by a (stops end stop) none = stop.left (length a)
left_nothing_by [] (starts start) none = absurd (not_none [] start (omega arith))
left_nothing_by (x ∷ a) (starts start) none =
    absurd (no_item (item_of (take (size_of (x ∷ a)) (x ∷ a))) (frames_within (length a) (drop (size_of (x ∷ a)) (x ∷ a))) (ap (λ (cut : Frames). cut.items) (sym (cut_head (length a) (x ∷ a) start)) ∙ none))

-- where no frame comes first, all is left
pub left_nothing : (a : List ℕ) → (frames a).items ≡ [] → left_of a ≡ a
left_nothing a none = left_nothing_by a (head a) none

-- the size at the head is one that no frame has
record IsWrong (a : List ℕ) : Type 0 where
  long : 6 ≤ length a
  wrong : is_size (size_of a) ≡ false

wrong_by : (a : List ℕ) (short fits begun : Bool) → nat_lt (length a) 6 ≡ short → is_size (size_of a) ≡ fits → nat_lt (length a) (size_of a) ≡ begun
    → (frames a).items ≡ [] → meets_bad_size a ≡ true → IsWrong a
wrong_by a true fits begun is_short is_fits is_begun none meets =
    let stop = stops_short a (ltb-true (length a) 6 is_short) in
    let good : meets_bad_size a ≡ false = ap (λ (cut : Frames). is_bad cut.ending) (stop.cut (length a) (le_refl (length a))) ∙ end_not_bad a in
    absurd (cc (meets, good))
wrong_by a false false begun is_short is_fits is_begun none meets = record { long = ltb-false (length a) 6 is_short; wrong = is_fits }
wrong_by a false true true is_short is_fits is_begun none meets =
    let stop = stops_begun a (ltb-false (length a) 6 is_short) is_fits (ltb-true (length a) (size_of a) is_begun) in
    let good : meets_bad_size a ≡ false = ap (λ (cut : Frames). is_bad cut.ending) (stop.cut (length a) (le_refl (length a))) in
    absurd (cc (meets, good))
wrong_by [] false true false is_short is_fits is_begun none meets = absurd (cc is_short)
wrong_by (x ∷ a) false true false is_short is_fits is_begun none meets =
    let start : Starts (x ∷ a) = record { long = ltb-false (length (x ∷ a)) 6 is_short; fits = is_fits; enough = ltb-false (length (x ∷ a)) (size_of (x ∷ a)) is_begun } in
    absurd (no_item (item_of (take (size_of (x ∷ a)) (x ∷ a))) (frames_within (length a) (drop (size_of (x ∷ a)) (x ∷ a))) (ap (λ (cut : Frames). cut.items) (sym (cut_head (length a) (x ∷ a) start)) ∙ none))

bad_at_head : (a b : List ℕ) → (frames a).items ≡ [] → meets_bad_size a ≡ true → frames (a ++ b) ≡ frames a
bad_at_head a b none meets =
    let is = wrong_by a (nat_lt (length a) 6) (is_size (size_of a)) (nat_lt (length a) (size_of a)) refl refl refl none meets in
    let size = size_before a b is.long in
    let longer : 6 ≤ length (a ++ b) = omega (arith, length-append a b, is.long) in
    let here = (stops_wrong a is.long is.wrong).cut (length a) (le_refl (length a)) in
    let there = (stops_wrong (a ++ b) longer (ap is_size size ∙ is.wrong)).cut (length (a ++ b)) (le_refl (length (a ++ b))) in
    there ∙ ap (λ (n : ℕ). record { items = []; ending = bad n }) size ∙ sym here

whole_again : (cut : Frames) → behind cut.items (record { items = []; ending = cut.ending }) ≡ cut
whole_again cut = ap (λ (items : List StreamItem). record { items = items; ending = cut.ending }) (append-nil cut.items)

-- behind it nothing more comes
pub bad_stays : (a b : List ℕ) → meets_bad_size a ≡ true → frames (a ++ b) ≡ frames a
bad_stays a b meets =
    let tail = bad_at_head (left_of a) b (left_items a) (ap is_bad (left_ending a) ∙ meets) ∙ left_frames a in
    stream_goes_on a b ∙ ap (behind (frames a).items) tail ∙ whole_again (frames a)

-- ---- how many commands there are

one_command : (item : StreamItem) (items : List StreamItem) → length (commands_of (item ∷ items)) ≤ 1 + length (commands_of items)
one_command (command bytes) items = omega arith
one_command cancel items = omega arith

commands_left_by : (n : ℕ) (a : List ℕ) → Head a → length a ≤ n → length (commands_of (frames_within n a).items) + length (left_within n a) ≤ length a
commands_left_by n a (stops end stop) within = rw (stop.left n, stop.cut n within) (omega arith)
commands_left_by zero a (starts start) within = absurd (not_none a start within)
commands_left_by (suc n) a (starts start) within =
    let tail = drop (size_of a) a in
    let item = item_of (take (size_of a) a) in
    let fewer = commands_left_by n tail (head tail) (shorter n a start within) in
    rw (left_head n a start, cut_head n a start)
    (omega (arith, fewer, one_command item (frames_within n tail).items, size_enough (size_of a) start.fits, start.enough, length-drop (size_of a) a))

-- the commands of a stream and the bytes that they leave are together no more than its bytes
pub commands_left : (a : List ℕ) → length (commands a) + length (left_of a) ≤ length a
commands_left a = commands_left_by (length a) a (head a) (le_refl (length a))
