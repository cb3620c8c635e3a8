-- What a pull adds to the bytes that are pending, and what a piece takes off them.
use Rattle.std.proofs.Common.{◌≡◌, ◌⊎◌, inl, inr, ℕ, ◌+◌, ◌-◌, ◌<◌, ◌≤◌, List, [], ◌∷◌, ◌++◌, length, take, drop, Option, Some, None, is_some, unwrap_or, refl, sym, ap, ◌∙◌, arith}
use Rattle.std.specs.Int.{from_bool}
use Rattle.std.specs.Bool.{then_some}
use Rattle.std.specs.List.{position, slice_range}
use Rattle.std.proofs.lemmas.Bool.{cases_lt, eqb-true}
use Rattle.std.proofs.lemmas.List.{append-nil, length-take, length-drop, drop-take, drop-drop, drop_all, drop_at, take_at, take_all}
use Rattle.link_port.specs.Port.{Pulled}
use Rattle.script_spec.specs.Script.{is_newline}
use Rattle.script_lines.specs.declared.reader.Line.{Line}
use Rattle.script_lines.specs.declared.reader.Line.TheVariants.{Text}
use Rattle.script_lines.specs.Lines.{LinesView}
use Rattle.script_lines.specs.Pieces.{Filled, IsTooMuch, TookPiece}
use Rattle.script_lines.proofs.Places.{found, not_found}

-- a pull where nothing was pending
pub Filled-pulled : (left after : Option (List ℕ)) (most : ℕ) (taken : List ℕ) (old new : LinesView) → Pulled left after most taken
    → 0 < most → old.pending ≡ [] → new.pending ≡ taken → new.room ≡ old.room → Filled left after old new
Filled-pulled None after most taken old new pulled some was is room = (pulled, room)
Filled-pulled (Some bytes) after most taken old new pulled some was is room = (
  record {
    rest = pulled.rest;
    left = pulled.left;
    same = rw (was, is) pulled.next;
    end = λ none. let taken_none = sym is ∙ none in let bytes_none = pulled.end some taken_none in rw (taken_none, bytes_none) at (sym pulled.next);
  },
  room,
)

-- no pull where something was
pub Filled-same : (left : Option (List ℕ)) (old new : LinesView) → new ≡ old → 0 < length new.pending → Filled left left old new
Filled-same None old new same some = (refl, ap (λ (v : LinesView). v.room) same)
Filled-same (Some bytes) old new same some = (
  record {
    rest = bytes;
    left = refl;
    same = rw same refl;
    end = λ none. let e = ap length none in absurd (omega arith);
  },
  ap (λ (v : LinesView). v.room) same,
)

-- no bytes, and some bytes, of a block
pub slice_range-none : (block : List ℕ) (at end : ℕ) → at ≡ end → slice_range block at end ≡ []
slice_range-none block at end same =
    let none : end - at ≡ 0 = omega arith in
    rw none refl

pub slice_range-front : (block : List ℕ) (end : ℕ) → slice_range block 0 end ≡ take end block
slice_range-front block end =
    let all : end - 0 ≡ end = omega arith in
    rw all refl

pub slice_range-some : (block : List ℕ) (at end : ℕ) → at < end → end ≤ length block → 0 < length (slice_range block at end)
slice_range-some block at end some within =
    omega (arith, length-take (end - at) (drop at block), length-drop at block)

-- what is left of the first `more` elements without the first `fewer` of them
take-minus : (left more fewer : ℕ) (xs : List ℕ) → left ≡ more - fewer → take left (drop fewer xs) ≡ drop fewer (take more xs)
take-minus left more fewer xs is =
    elim (cases_lt fewer more) [
      | inl below ↦
          let sum : fewer + left ≡ more = omega arith in
          rw (← sum) (sym (drop-take fewer left xs))
      | inr above ↦
          let none : left ≡ 0 = omega arith in
          rw none (sym (drop_all fewer (take more xs) (omega (arith, length-take more xs))))
    ]

-- the bytes that are pending once some of them were taken
pub slice_range-later : (block : List ℕ) (at end taken : ℕ) → slice_range block (at + taken) end ≡ drop taken (slice_range block at end)
slice_range-later block at end taken =
    rw (← drop-drop taken at block) (take-minus (end - (at + taken)) (end - at) taken (drop at block) (omega arith))

drop_behind : (xs : List ℕ) (y : ℕ) (ys : List ℕ) (i : ℕ) → length xs ≡ i → drop (i + 1) (xs ++ y ∷ ys) ≡ ys
drop_behind xs y ys i len = sym (drop-drop 1 i (xs ++ y ∷ ys)) ∙ ap (drop 1) (drop_at xs (y ∷ ys) i len)

-- how far a piece reaches, and how many bytes it takes
abbrev pub piece_len : Option ℕ → List ℕ → ℕ
piece_len newline pending = unwrap_or newline (length pending)

abbrev pub taken_len : Option ℕ → List ℕ → ℕ
taken_len newline pending = piece_len newline pending + from_bool (is_some newline)

pub IsTooMuch-piece : (newline : Option ℕ) (old : LinesView) (text : List ℕ) → newline ≡ position is_newline old.pending
    → (old.room < taken_len newline old.pending) ⊎ (16384 < length text + piece_len newline old.pending)
    → IsTooMuch old text
IsTooMuch-piece None old text is much =
    record {
      piece = old.pending;
      rest = [];
      pending_is = sym (append-nil old.pending);
      no_newline = not_found is_newline old.pending (sym is);
      too_much = elim much [ inl room ↦ inr (inl (omega arith)) | inr long ↦ inl long ];
    }
IsTooMuch-piece (Some i) old text is much =
    let at = found is_newline old.pending i (sym is) in
    let newline = eqb-true at.y 10 at.passes in
    record {
      piece = at.front;
      rest = at.y ∷ at.back;
      pending_is = at.is;
      no_newline = at.none;
      too_much = elim much [
        | inl room ↦ inr (inr (at.back, rw newline refl, omega (arith, at.len)))
        | inr long ↦ inl (omega (arith, at.len))
      ];
    }

-- what was answered where a newline was found, and where not
pub TookPiece-piece : (newline : Option ℕ) (line : Option Line) (old new : LinesView) (text longer : List ℕ)
    → newline ≡ position is_newline old.pending
    → line ≡ then_some (is_some newline) Text
    → new.pending ≡ drop (taken_len newline old.pending) old.pending
    → new.room + taken_len newline old.pending ≡ old.room
    → longer ≡ text ++ take (piece_len newline old.pending) old.pending
    → TookPiece line old text new longer
TookPiece-piece None line old new text longer is answer pending room text_is =
    rw answer (record {
      no_newline = not_found is_newline old.pending (sym is);
      text_is = rw (take_all (length old.pending) old.pending (omega arith)) at text_is;
      pending_is = pending ∙ drop_all (length old.pending + 0) old.pending (omega arith);
      room_is = omega arith;
    })
TookPiece-piece (Some i) line old new text longer is answer pending room text_is =
    let at = found is_newline old.pending i (sym is) in
    let newline = eqb-true at.y 10 at.passes in
    let whole : old.pending ≡ at.front ++ 10 ∷ at.back = rw newline at at.is in
    let back : new.pending ≡ at.back = pending ∙ ap (drop (i + 1)) whole ∙ drop_behind at.front 10 at.back i at.len in
    let front : take i old.pending ≡ at.front = ap (take i) whole ∙ take_at at.front (10 ∷ at.back) i at.len in
    rw answer (record {
      piece = at.front;
      pending_is = rw back whole;
      no_newline = at.none;
      text_is = rw front at text_is;
      room_is = omega (arith, at.len);
    })
