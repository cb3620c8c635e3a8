-- How the lines of an input follow from the pieces that a reader takes.
use Rattle.std.proofs.Common.{◌≡◌, ◌⊎◌, inl, inr, ℕ, suc, ◌+◌, ◌<◌, ◌==◌, List, [], ◌∷◌, ◌++◌, length, false, not, Option, Some, None, if◌then◌else◌, refl, sym, ap, ◌∙◌, arith}
use Rattle.std.proofs.lemmas.Bool.{or_parts, or_from}
use Rattle.std.proofs.lemmas.List.{append-nil, append_assoc, length-append, nil_from_length}
use Rattle.std.proofs.lemmas.List.Folds.{list_any-append}
use Rattle.script_spec.specs.Script.{is_newline, onto_first, lines_of, text_of}
use Rattle.script_lines.specs.declared.reader.Line.{Line}
use Rattle.script_lines.specs.declared.reader.Line.TheVariants.{Text, End, TooLong}
use Rattle.script_lines.specs.Lines.{LinesView, GaveLine, IsTooLong, CameNext, ReadNext, HasPulled}
use Rattle.script_lines.specs.Pieces.{has_newline, IsFilled, Filled, LineGoesOn, EndsLine, IsTooMuch, TookPiece}
use Rattle.script_lines.proofs.Places.{before_first-append, before_first-none}

-- ---- lines of a list of bytes

lines_of-other : (byte : ℕ) (bytes : List ℕ) → is_newline byte ≡ false → lines_of (byte ∷ bytes) ≡ onto_first byte (lines_of bytes)
lines_of-other byte bytes other = rw other refl

-- a line that begins with a text goes on to its end
pub record BeginsLine (text more : List ℕ) : Type 0 where
  pub rest : List ℕ
  pub others : List (List ℕ)
  pub lines : lines_of (text ++ more) ≡ (text ++ rest) ∷ others

begins_first : (byte : ℕ) (more : List ℕ) (lines : List (List ℕ)) → is_newline byte ≡ false → lines_of more ≡ lines → BeginsLine (byte ∷ []) more
begins_first byte more [] other is = record { rest = []; others = []; lines = lines_of-other byte more other ∙ ap (onto_first byte) is }
begins_first byte more (line ∷ lines) other is =
    record { rest = line; others = lines; lines = lines_of-other byte more other ∙ ap (onto_first byte) is }

pub begins_line : (text more : List ℕ) → has_newline text ≡ false → 0 < length text → BeginsLine text more
begins_line [] more none some = absurd (omega arith)
begins_line (byte ∷ []) more none some =
    begins_first byte more (lines_of more) (or_parts (is_newline byte) false none).0 refl
begins_line (byte ∷ next ∷ text) more none some =
    let parts = or_parts (is_newline byte) (has_newline (next ∷ text)) none in
    let begun = begins_line (next ∷ text) more parts.1 (omega arith) in
    record {
      rest = begun.rest;
      others = begun.others;
      lines = lines_of-other byte (next ∷ (text ++ more)) parts.0 ∙ ap (onto_first byte) begun.lines;
    }

-- a text that a newline ends is the first line
pub lines_of-line : (text rest : List ℕ) → has_newline text ≡ false → lines_of (text ++ 10 ∷ rest) ≡ (text ++ 10 ∷ []) ∷ lines_of rest
lines_of-line [] rest none = refl
lines_of-line (byte ∷ text) rest none =
    let parts = or_parts (is_newline byte) (has_newline text) none in
    lines_of-other byte (text ++ 10 ∷ rest) parts.0 ∙ ap (onto_first byte) (lines_of-line text rest parts.1)

-- a text without a newline is the last line
pub lines_of-last : (text : List ℕ) → has_newline text ≡ false → 0 < length text → lines_of text ≡ text ∷ []
lines_of-last [] none some = absurd (omega arith)
lines_of-last (byte ∷ []) none some = lines_of-other byte [] (or_parts (is_newline byte) false none).0
lines_of-last (byte ∷ next ∷ text) none some =
    let parts = or_parts (is_newline byte) (has_newline (next ∷ text)) none in
    lines_of-other byte (next ∷ text) parts.0 ∙ ap (onto_first byte) (lines_of-last (next ∷ text) parts.1 (omega arith))

-- what stands before a line's newline is its text
text_of-line : (text : List ℕ) → has_newline text ≡ false → text_of (text ++ 10 ∷ []) ≡ text
text_of-line text none = before_first-append is_newline text (10 ∷ []) none ∙ append-nil text

-- ---- a line that is being cut

-- so far the text was cut off what was there first
pub record HasCut (before : List ℕ) (room : ℕ) (text after : List ℕ) (room_after : ℕ) : Type 0 where
  pub bytes : before ≡ text ++ after
  pub no_newline : has_newline text ≡ false
  pub room_is : room_after + length text ≡ room

-- the same where the source tells what it has left
abbrev pub Cutting : Option (List ℕ) → LinesView → Option (List ℕ) → List ℕ → LinesView → Type 0
Cutting None first left text now = left ≡ None
Cutting (Some more) first left text now =
    (rest : List ℕ) × (left ≡ Some rest) × HasCut (first.pending ++ more) first.room text (now.pending ++ rest) now.room

pub Cutting-start : (left : Option (List ℕ)) (first : LinesView) (text : List ℕ) → text ≡ [] → Cutting left first left text first
Cutting-start None first text none = refl
Cutting-start (Some more) first text none =
    rw none (more, refl, record { bytes = refl; no_newline = refl; room_is = omega arith })

HasCut-filled : (before : List ℕ) (first_room : ℕ) (text rest : List ℕ) (after : Option (List ℕ)) (old new : LinesView)
    → HasCut before first_room text (old.pending ++ rest) old.room → (filled : IsFilled rest after old.pending new.pending)
    → new.room ≡ old.room → HasCut before first_room text (new.pending ++ filled.rest) new.room
HasCut-filled before first_room text rest after old new cut filled same =
    let room = cut.room_is in
    record {
      bytes = cut.bytes ∙ ap (λ (bytes : List ℕ). text ++ bytes) filled.same;
      no_newline = cut.no_newline;
      room_is = omega arith;
    }

pub Cutting-filled : (begun left after : Option (List ℕ)) (first old new : LinesView) (text : List ℕ)
    → Cutting begun first left text old → Filled left after old new → Cutting begun first after text new
Cutting-filled None left after first old new text cutting filled = (rw cutting at filled).0
Cutting-filled (Some more) left after first old new text cutting filled =
    let was = rw cutting.1 at filled in
    (was.0.rest, was.0.left, HasCut-filled (first.pending ++ more) first.room text cutting.0 after old new cutting.2 was.0 was.1)

-- two texts without a newline
no_newline-append : (text piece : List ℕ) → has_newline text ≡ false → has_newline piece ≡ false → has_newline (text ++ piece) ≡ false
no_newline-append text piece first second =
    list_any-append is_newline text piece ∙ or_from (has_newline text) (has_newline piece) first second

pub Cutting-goes_on : (begun left : Option (List ℕ)) (first old new : LinesView) (text longer : List ℕ)
    → Cutting begun first left text old → LineGoesOn old text new longer → Cutting begun first left longer new
Cutting-goes_on None left first old new text longer cutting on = cutting
Cutting-goes_on (Some more) left first old new text longer cutting on =
    let room = on.room_is in
    let before = cutting.2.room_is in (
      cutting.0,
      cutting.1,
      rw (on.text_is, on.pending_is) (record {
        bytes = cutting.2.bytes ∙ sym (append_assoc text old.pending cutting.0);
        no_newline = no_newline-append text old.pending cutting.2.no_newline on.no_newline;
        room_is = omega (arith, length-append text old.pending);
      }),
    )

-- ---- how it ends

-- where the input is known, a newline gives the line
GaveLine-ended : (before : List ℕ) (room : ℕ) (text rest : List ℕ) (room_after : ℕ) → before ≡ text ++ 10 ∷ rest
    → has_newline text ≡ false → room_after + (length text + 1) ≡ room → GaveLine before room text rest room_after
GaveLine-ended before room text rest room_after is none room_is =
    let len = length-append text (10 ∷ []) in
    record {
      line = text ++ 10 ∷ [];
      lines = ap lines_of is ∙ lines_of-line text rest none;
      text_is = sym (text_of-line text none);
      fits = omega arith;
      room_is = omega arith;
    }

pub ReadNext-ended : (begun left : Option (List ℕ)) (first old new : LinesView) (text longer : List ℕ)
    → Cutting begun first left text old → EndsLine old text new longer → ReadNext Text first begun longer new left
ReadNext-ended None left first old new text longer cutting ended = cutting
ReadNext-ended (Some more) left first old new text longer cutting ended =
    let room = ended.room_is in
    let before = cutting.2.room_is in
    let split : text ++ (old.pending ++ cutting.0) ≡ (text ++ ended.piece) ++ 10 ∷ (new.pending ++ cutting.0) =
    rw (ended.pending_is, append_assoc, append_assoc) refl in (
      cutting.0,
      cutting.1,
      rw ended.text_is (GaveLine-ended (first.pending ++ more) first.room (text ++ ended.piece) (new.pending ++ cutting.0) new.room
          (cutting.2.bytes ∙ split)
          (no_newline-append text ended.piece cutting.2.no_newline ended.no_newline)
          (omega (arith, length-append text ended.piece))),
    )

-- the last line lacks its newline
GaveLine-last : (before : List ℕ) (room : ℕ) (text : List ℕ) (room_after : ℕ) → before ≡ text → has_newline text ≡ false
    → 0 < length text → room_after + length text ≡ room → GaveLine before room text [] room_after
GaveLine-last before room text room_after is none some room_is = record {
  line = text;
  lines = ap lines_of is ∙ lines_of-last text none some;
  text_is = sym (before_first-none is_newline text none);
  fits = omega arith;
  room_is = omega arith;
}

-- a list that a test finds empty
pub none_pending : (bytes : List ℕ) → not (length bytes == 0) ≡ false → bytes ≡ []
none_pending bytes is = nil_from_length bytes (grind arith)

no_bytes : (first second : List ℕ) → first ≡ [] → second ≡ [] → first ++ second ≡ []
no_bytes first second none end = rw (none, end) refl

-- what came next where nothing is left
CameNext-last : (before : List ℕ) (room : ℕ) (text after : List ℕ) (room_after : ℕ) (line : Line) → after ≡ []
    → line ≡ (if length text == 0 then End else Text) → HasCut before room text after room_after → CameNext line before room text after room_after
CameNext-last before room [] after room_after line none is cut = rw is (cut.bytes ∙ none, none)
CameNext-last before room (byte ∷ text) after room_after line none is cut =
    let some : (suc (length text) == 0) ≡ false = grind arith in
    let whole = cut.bytes ∙ ap (λ (bytes : List ℕ). (byte ∷ text) ++ bytes) none ∙ append-nil (byte ∷ text) in
    rw (is, some, none) (GaveLine-last before room (byte ∷ text) room_after whole cut.no_newline (omega arith) cut.room_is)

pub ReadNext-last : (begun left after : Option (List ℕ)) (first old new : LinesView) (text : List ℕ) (line : Line)
    → Cutting begun first left text old → Filled left after old new → new.pending ≡ []
    → line ≡ (if length text == 0 then End else Text) → ReadNext line first begun text new after
ReadNext-last None left after first old new text line cutting filled none is = (rw cutting at filled).0
ReadNext-last (Some more) left after first old new text line cutting filled none is =
    let was = rw cutting.1 at filled in
    let end = was.0.end none in
    let cut = HasCut-filled (first.pending ++ more) first.room text cutting.0 after old new cutting.2 was.0 was.1 in
    let here : new.pending ++ was.0.rest ≡ [] = no_bytes new.pending was.0.rest none end in
    (was.0.rest, was.0.left, CameNext-last (first.pending ++ more) first.room text (new.pending ++ was.0.rest) new.room line here is cut)

-- a first line that begins with a text is at least as long
IsTooLong-begun : (before : List ℕ) (room : ℕ) (text more : List ℕ) → before ≡ text ++ more → has_newline text ≡ false → 0 < length text
    → (room < length text) ⊎ (16384 < length text) → IsTooLong before room
IsTooLong-begun before room text more is none some long =
    let begun = begins_line text more none some in
    let len = length-append text begun.rest in
    let shown = before_first-append is_newline text begun.rest none in
    let shown_len = ap length shown in
    let text_len = length-append text (text_of begun.rest) in
    record {
      line = text ++ begun.rest;
      more = begun.others;
      lines = ap lines_of is ∙ begun.lines;
      too_long = elim long [
        | inl past ↦ inl (omega arith)
        | inr over ↦ inr (omega arith)
      ];
    }

-- a first line whose newline passes the room
IsTooLong-ended : (before : List ℕ) (room : ℕ) (text rest : List ℕ) → before ≡ text ++ 10 ∷ rest → has_newline text ≡ false
    → room < length text + 1 → IsTooLong before room
IsTooLong-ended before room text rest is none past =
    let len = length-append text (10 ∷ []) in
    record {
      line = text ++ 10 ∷ [];
      more = lines_of rest;
      lines = ap lines_of is ∙ lines_of-line text rest none;
      too_long = inl (omega arith);
    }

pub ReadNext-too_long : (begun left : Option (List ℕ)) (first old new : LinesView) (text longer : List ℕ)
    → Cutting begun first left text old → IsTooMuch old text → ReadNext TooLong first begun longer new left
ReadNext-too_long None left first old new text longer cutting much = cutting
ReadNext-too_long (Some more) left first old new text longer cutting much =
    let before = first.pending ++ more in
    let room = cutting.2.room_is in
    let none = no_newline-append text much.piece cutting.2.no_newline much.no_newline in
    let len = length-append text much.piece in
    let split : text ++ (old.pending ++ cutting.0) ≡ (text ++ much.piece) ++ (much.rest ++ cutting.0) =
    rw (much.pending_is, append_assoc, append_assoc) refl in
    let is = cutting.2.bytes ∙ split in (
      cutting.0,
      cutting.1,
      elim much.too_much [
        | inl over ↦ IsTooLong-begun before first.room (text ++ much.piece) (much.rest ++ cutting.0) is none (omega arith) (inr (omega arith))
        | inr (inl past) ↦ IsTooLong-begun before first.room (text ++ much.piece) (much.rest ++ cutting.0) is none (omega arith) (inl (omega arith))
        | inr (inr end) ↦ IsTooLong-ended before first.room (text ++ much.piece) (end.0 ++ cutting.0) (rw end.1 at is) none (omega arith)
      ],
    )

pub ReadNext-took : (line : Line) (begun left : Option (List ℕ)) (first old new : LinesView) (text longer : List ℕ)
    → Cutting begun first left text old → TookPiece (Some line) old text new longer → ReadNext line first begun longer new left
ReadNext-took Text begun left first old new text longer cutting took = ReadNext-ended begun left first old new text longer cutting took
ReadNext-took End begun left first old new text longer cutting took = absurd took
ReadNext-took TooLong begun left first old new text longer cutting took = ReadNext-too_long begun left first old new text longer cutting took

-- ---- how much was pulled

pub HasPulled-cutting : (begun left : Option (List ℕ)) (first now : LinesView) (text : List ℕ) → Cutting begun first left text now
    → HasPulled first begun now left
HasPulled-cutting None left first now text cutting = cutting
HasPulled-cutting (Some more) left first now text cutting =
    let cut = cutting.2 in
    let room = cut.room_is in
    let bytes = ap length cut.bytes in
    (cutting.0, cutting.1, omega (arith, length-append first.pending more, length-append text (now.pending ++ cutting.0), length-append now.pending cutting.0))

HasPulled-less : (begun left : Option (List ℕ)) (first old new : LinesView) → HasPulled first begun old left
    → length new.pending + old.room ≡ length old.pending + new.room → HasPulled first begun new left
HasPulled-less None left first old new pulled less = pulled
HasPulled-less (Some more) left first old new pulled less = let sum = pulled.2 in (pulled.0, pulled.1, omega arith)

pub HasPulled-took : (line : Line) (begun left : Option (List ℕ)) (first old new : LinesView) (text longer : List ℕ)
    → Cutting begun first left text old → TookPiece (Some line) old text new longer → (line ≡ TooLong → new ≡ old) → HasPulled first begun new left
HasPulled-took Text begun left first old new text longer cutting took kept =
    let room = took.room_is in
    let pending = ap length took.pending_is in
    let sum = length-append took.piece (10 ∷ new.pending) in
    HasPulled-less begun left first old new (HasPulled-cutting begun left first old text cutting) (omega arith)
HasPulled-took End begun left first old new text longer cutting took kept = absurd took
HasPulled-took TooLong begun left first old new text longer cutting took kept =
    rw (kept refl) (HasPulled-cutting begun left first old text cutting)
