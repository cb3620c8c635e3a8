-- What is looked ahead at of a stream: its cancels that come before the next frame is given out.
use Rattle.std.proofs.Common.{◌≡◌, ◌<◌, ◌≤◌, ◌+◌, ◌-◌, ◌*◌, ℕ, min, Bool, true, false, List, [], ◌∷◌, ◌++◌, length, take, drop, Option, Some, refl, sym, ap, ◌∙◌, append_assoc, arith, length-append, length-drop}
use Rattle.std.specs.Prelude.{◌==◌, ◌&&◌, if◌then◌else◌}
use Rattle.std.specs.List.{last_or}
use Rattle.std.proofs.lemmas.Bool.{eq-eqb, eqb-true, ne_eqb}
use Rattle.std.proofs.lemmas.Bool.Decides.{nat_tests}
use Rattle.tab_spec.specs.declared.TheConstants.{CC_CANCEL, ST_NO_SESSIONS}
use Rattle.std.proofs.lemmas.List.{append-nil, take-append-drop, length-take-le, nil_from_length}
use Rattle.tab_spec.specs.Frame.{StreamItem, command, cancel, bad, code_of, is_bad, is_frame, is_size, item_of, size_of, tag_of, with_item, Frames, frames, meets_bad_size}
use Rattle.tab_laws.proofs.Cuts.{frame_long, frame_before, left_few, left_nothing, bad_stays, one_frame}
use Rattle.tab_frame.specs.Framing.{GaveItem}
use Rattle.history_spec.specs.Cancels.{cancels_after}

-- ---- a frame that comes next

-- how the bytes behind a frame are cut
pub cut_behind : (item : StreamItem) (old new out rest : List ℕ) → GaveItem item old new out → frames (old ++ rest) ≡ with_item item (frames (new ++ rest))
cut_behind item old new out rest gave =
    ap frames (ap (λ (bytes : List ℕ). bytes ++ rest) gave.parts ∙ append_assoc out new rest)
    ∙ frame_before out (new ++ rest) gave.frame
    ∙ ap (λ (i : StreamItem). with_item i (frames (new ++ rest))) gave.is_item

pub shorter_by : (item : StreamItem) (old new out : List ℕ) → GaveItem item old new out → 10 + length new ≤ length old
shorter_by item old new out gave = omega (arith, frame_long out gave.frame, ap length gave.parts, length-append out new)

-- ---- bytes that are fed

-- a byte is fed at least, where no frame comes next
pub feeds_some : (kept rest : List ℕ) (k : ℕ) → (frames kept).items ≡ [] → meets_bad_size kept ≡ false → 0 < length rest → k ≡ min (length rest) (8192 - length kept) → (0 < k) × (k ≤ length rest)
feeds_some kept rest k none good some is =
    let few : length kept < 4096 = omega (arith, left_few kept good, ap length (left_nothing kept none)) in (omega (arith, few), omega arith)

-- the same of what a framer keeps still, and with fewer bytes to come then
pub fed_smaller : (kept same rest left fed : List ℕ) (k : ℕ) → ((frames kept).items ≡ []) × (meets_bad_size kept ≡ false) × (same ≡ kept) → 0 < length rest
    → k ≡ min (length rest) (8192 - length same) → fed ≡ same ++ take k rest → left ≡ drop k rest → length fed + 2 * length left < length kept + 2 * length rest
fed_smaller kept same rest left fed k none some is fed_is left_is =
    let more = feeds_some kept rest k none.0 none.1 some (is ∙ ap (λ (bytes : List ℕ). min (length rest) (8192 - length bytes)) none.2) in
    omega (arith, more.0, more.1, ap length none.2, ap length fed_is, ap length left_is, length-append same (take k rest), length-take-le k rest more.1, length-drop k rest)

-- whether no byte is left
pub none_left : (empty : Bool) (bytes : List ℕ) → empty ≡ (length bytes == 0) → empty ≡ true → bytes ≡ []
none_left empty bytes is test = nil_from_length bytes (eqb-true (length bytes) 0 (sym is ∙ test))

pub some_left : (empty : Bool) (bytes : List ℕ) → empty ≡ (length bytes == 0) → empty ≡ false → 0 < length bytes
some_left true [] is test = absurd cc
some_left false [] is test = absurd cc
some_left empty (x ∷ bytes) is test = omega arith

-- the same bytes, of which a part was fed
pub same_bytes : (kept rest : List ℕ) (k : ℕ) → kept ++ rest ≡ (kept ++ take k rest) ++ drop k rest
same_bytes kept rest k = ap (λ (bytes : List ℕ). kept ++ bytes) (sym (take-append-drop k rest)) ∙ sym (append_assoc kept (take k rest) (drop k rest))

-- ---- the last cancel

-- what the last cancel of these bytes is about, so many commands and this cancel before them
abbrev pub last_of : Option ℕ → ℕ → List ℕ → Option ℕ
last_of upto count bytes = last_or upto (cancels_after count (frames bytes).items)

pub last_command : (upto : Option ℕ) (count : ℕ) (old new out rest : List ℕ) → GaveItem (command out) old new out
    → last_of upto count (old ++ rest) ≡ last_of upto (count + 1) (new ++ rest)
last_command upto count old new out rest gave = ap (λ (cut : Frames). last_or upto (cancels_after count cut.items)) (cut_behind (command out) old new out rest gave)

pub last_cancel : (upto : Option ℕ) (count : ℕ) (old new out rest : List ℕ) → GaveItem cancel old new out
    → last_of upto count (old ++ rest) ≡ last_of (Some count) count (new ++ rest)
last_cancel upto count old new out rest gave = ap (λ (cut : Frames). last_or upto (cancels_after count cut.items)) (cut_behind cancel old new out rest gave)

-- no frame comes next, and no byte is to be fed
pub last_none : (upto : Option ℕ) (count : ℕ) (kept rest : List ℕ) → (frames kept).items ≡ [] → rest ≡ [] → last_of upto count (kept ++ rest) ≡ upto
last_none upto count kept rest none no_rest =
    ap (λ (bytes : List ℕ). last_of upto count (kept ++ bytes)) no_rest
    ∙ ap (last_of upto count) (append-nil kept)
    ∙ ap (λ (items : List StreamItem). last_or upto (cancels_after count items)) none

-- a bad size comes next
pub last_bad : (upto : Option ℕ) (count size : ℕ) (kept rest : List ℕ) → frames kept ≡ record { items = []; ending = bad size } → last_of upto count (kept ++ rest) ≡ upto
last_bad upto count size kept rest cut =
    ap (λ (f : Frames). last_or upto (cancels_after count f.items)) (bad_stays kept rest (ap (λ (f : Frames). is_bad f.ending) cut) ∙ cut)

pub last_fed : (upto : Option ℕ) (count : ℕ) (kept rest : List ℕ) (k : ℕ) → last_of upto count (kept ++ rest) ≡ last_of upto count ((kept ++ take k rest) ++ drop k rest)
last_fed upto count kept rest k = ap (last_of upto count) (same_bytes kept rest k)

-- ---- one command

not_cancel : (tagged sized coded : Bool) (piece : List ℕ) → sized ≡ false → (if tagged && sized && coded then cancel else command piece) ≡ command piece
not_cancel false sized coded piece is = refl
not_cancel true sized coded piece is = rw is refl

-- a frame that is longer than a cancel is a command
pub one_command : (kept piece : List ℕ) → length kept ≡ 0 → 10 < length piece → length piece ≤ 4096 → size_of piece ≡ length piece
    → (frames (kept ++ piece)).items ≡ command piece ∷ []
one_command kept piece none long short sized =
    let fits : is_size (length piece) ≡ true = grind (arith, nat_tests) in
    let frame : is_frame piece ≡ true = rw (eq-eqb (size_of piece) (length piece) sized, fits) refl in
    let other : size_of piece ≡ 10 → ⊥ = λ same. omega (arith, sized) in
    let item : item_of piece ≡ command piece = not_cancel (tag_of piece == ST_NO_SESSIONS) (size_of piece == 10) (code_of piece == CC_CANCEL) piece (ne_eqb (size_of piece) 10 other) in
    ap (λ (bytes : List ℕ). (frames (bytes ++ piece)).items) (nil_from_length kept none)
    ∙ ap (λ (cut : Frames). cut.items) (one_frame piece frame)
    ∙ ap (λ (i : StreamItem). i ∷ []) item
