-- A command that is admitted stays so with other handles.
use Rattle.std.proofs.Common.{◌≡◌, ◌+◌, ◌*◌, ◌≤◌, ◌<◌, ◌^◌, ℕ, Bool, true, false, List, [], ◌∷◌, ◌++◌, length, take, drop, refl, ap, sym, ◌∙◌, subst, drop-drop, take-take, length-append, length-drop, length-take-le, append_assoc, arith}
use Rattle.std.specs.Prelude.{Option, Some, None, Result, Ok, Err, not, ◌==◌, ◌||◌, ◌&&◌, nat_lt, nat_le, if◌then◌else◌}
use Rattle.std.specs.List.{find}
use Rattle.std.specs.Int.{w16, w32, from_be_bytes}
use Rattle.std.proofs.Math.Seq.{drop-append_seam, take-append_seam}
use Rattle.std.proofs.lemmas.List.{drop-take}
use Rattle.std.proofs.lemmas.Bool.{eqb-true, leb-true, ltb-false}
use Rattle.std.proofs.lemmas.Nat.{from_be_bytes-to_be_bytes_4}
use Rattle.tab_spec.specs.declared.Kind.{Kind}
use Rattle.tab_spec.specs.declared.TheConstants.{CC_CREATE_PRIMARY, CC_LOAD, CC_CONTEXT_LOAD, CC_STARTUP, HEADER_BYTES, RC_1, RC_BAD_TAG, RC_COMMAND_SIZE, RC_INSUFFICIENT, RC_OBJECT_MEMORY, RC_INITIALIZE}
use Rattle.tab_spec.specs.declared.CommandRow.{CommandRow}
use Rattle.tab_spec.specs.declared.Shape.{Shape}
use Rattle.tab_spec.specs.declared.Auths.{Auths}
use Rattle.tab_spec.specs.declared.Admitted.{Admitted}
use Rattle.tab_spec.specs.Commands.{all_commands, row_of}
use Rattle.tab_spec.specs.Frame.{code_of, is_frame, is_size, size_of, tag_of}
use Rattle.tab_spec.specs.Contexts.{is_saved_object}
use Rattle.tab_spec.specs.Shape.{are_of_kinds, count_in, cut_handle, handle_at, handle_bytes, handles_in, is_command_tag, is_of_kind, is_present, kind_code, known_row, loads_object, rest_of, row_in, shape_by, shape_from, shape_with, with_handles, wrong_handle}
use Rattle.tab_spec.specs.Auths.{auths_of}
use Rattle.tab_spec.specs.Admission.{Tables, admitted, admitted_auths, admitted_by, admitted_shape, client_admitted, missing_handle, missing_session, object_too_many, repeated_session, spare_auth, unless_fault, unless_startup}
use Rattle.tab_laws.specs.OtherHandles.{absent_are_zero, admitted_handled, handled, AreHandlesOf, HandlesAreThere}
use Rattle.tab_laws.proofs.Admissions.{absent_takes_any, admitted_from, admitted_row, found_code, unless_ok}
use Rattle.tab_laws.proofs.Behind.{Agree, auths_of_same, drop_behind}

-- ---- what is known of an admitted command

found_row : (tables : Tables) (found : Result CommandRow ℕ) (bytes : List ℕ) (a : Admitted) → admitted_by tables found bytes ≡ Ok a → found ≡ Ok a.shape.row
found_row tables (Err code) bytes a e = absurd cc
found_row tables (Ok row) bytes a e = ap (λ (r : CommandRow). let found : Result CommandRow ℕ = Ok r in found) (sym (admitted_row tables row bytes a e))

record IsRow (frame tag : Bool) (found : Option CommandRow) (row : CommandRow) : Type 0 where
  frame_is : frame ≡ true
  tag_is : tag ≡ true
  found_is : found ≡ Some row

known_is : (found : Option CommandRow) (row : CommandRow) → known_row found ≡ Ok row → found ≡ Some row
known_is None row e = absurd cc
known_is (Some other) row e = let same : other ≡ row = cc in ap (λ (r : CommandRow). let found : Option CommandRow = Some r in found) same

is_row : (frame tag : Bool) (found : Option CommandRow) (row : CommandRow)
    → (if not frame then Err RC_COMMAND_SIZE else if not tag then Err RC_BAD_TAG else known_row found) ≡ Ok row → IsRow frame tag found row
is_row false tag found row e = absurd cc
is_row true false found row e = absurd cc
is_row true true found row e = record { frame_is = refl; tag_is = refl; found_is = known_is found row e }

row_is : (frame tag : Bool) (found : Option CommandRow) (row : CommandRow) → frame ≡ true → tag ≡ true → found ≡ Some row
    → (if not frame then Err RC_COMMAND_SIZE else if not tag then Err RC_BAD_TAG else known_row found) ≡ Ok row
row_is frame tag found row frame_is tag_is found_is = rw (frame_is, tag_is, found_is) refl

-- the shape that a command with this row has, with these handles
abbrev pub shape_over : CommandRow → List ℕ → List ℕ → Shape
shape_over row bytes handles = record { row = row; tag = tag_of bytes; handles = handles; count = count_in row.handles; rest = rest_of row }

record IsShaped (row : CommandRow) (bytes : List ℕ) (cut wrong : Option ℕ) (shape : Shape) : Type 0 where
  cut_is : cut ≡ None
  wrong_is : wrong ≡ None
  shape_is : shape ≡ shape_over row bytes (handles_in row.handles 1 bytes)

is_shaped : (row : CommandRow) (bytes : List ℕ) (cut wrong : Option ℕ) (shape : Shape) → shape_from row bytes cut wrong ≡ Ok shape
    → IsShaped row bytes cut wrong shape
is_shaped row bytes (Some code) wrong shape e = absurd cc
is_shaped row bytes None (Some code) shape e = absurd cc
is_shaped row bytes None None shape e = record { cut_is = refl; wrong_is = refl; shape_is = cc }

auths_ok : (shape : Shape) (auths : Auths) (a : Admitted) → ◌≡◌ {A = Result Admitted ℕ} (Ok (record { shape = shape; auths = auths })) (Ok a) → auths ≡ a.auths
auths_ok shape auths a e = cc

no_fault : (fault : Option ℕ) (rest : Result Admitted ℕ) (a : Admitted) → unless_fault fault rest ≡ Ok a → fault ≡ None
no_fault (Some code) rest a e = absurd cc
no_fault None rest a e = refl

pub record Given (tables : Tables) (bytes : List ℕ) (shape : Shape) (auths : Result Auths ℕ) (a : Admitted) : Type 0 where
  pub auths_are : auths ≡ Ok a.auths
  pub sessions : missing_session tables 0 (take a.auths.count a.auths.auths) ≡ None
  pub once : repeated_session shape.handles 1 (take a.auths.count a.auths.auths) ≡ None
  pub no_spare : spare_auth shape a.auths ≡ None
  pub room : object_too_many tables shape bytes ≡ None

given_auths : (tables : Tables) (bytes : List ℕ) (shape : Shape) (auths : Result Auths ℕ) (a : Admitted) → admitted_auths tables bytes shape auths ≡ Ok a
    → Given tables bytes shape auths a
given_auths tables bytes shape (Err code) a e = absurd cc
given_auths tables bytes shape (Ok auths) a e =
    let given = take auths.count auths.auths in
    let passed : Result Admitted ℕ = Ok (record { shape = shape; auths = auths }) in
    let room = unless_fault (object_too_many tables shape bytes) passed in
    let spare = unless_fault (spare_auth shape auths) room in
    let once = unless_fault (repeated_session shape.handles 1 given) spare in
    let behind_missing : once ≡ Ok a = unless_ok (missing_session tables 0 given) once a e in
    let behind_repeated : spare ≡ Ok a = unless_ok (repeated_session shape.handles 1 given) spare a behind_missing in
    let behind_spare : room ≡ Ok a = unless_ok (spare_auth shape auths) room a behind_repeated in
    let same : auths ≡ a.auths = auths_ok shape auths a (unless_ok (object_too_many tables shape bytes) passed a behind_spare) in
    record {
      auths_are = ap (λ (x : Auths). let found : Result Auths ℕ = Ok x in found) same;
      sessions = subst (λ (x : Auths). missing_session tables 0 (take x.count x.auths) ≡ None) same (no_fault (missing_session tables 0 given) once a e);
      once = subst (λ (x : Auths). repeated_session shape.handles 1 (take x.count x.auths) ≡ None) same
          (no_fault (repeated_session shape.handles 1 given) spare a behind_missing);
      no_spare = subst (λ (x : Auths). spare_auth shape x ≡ None) same (no_fault (spare_auth shape auths) room a behind_repeated);
      room = no_fault (object_too_many tables shape bytes) passed a behind_spare;
    }

-- all of it
pub record Passed (tables : Tables) (bytes : List ℕ) (a : Admitted) : Type 0 where
  pub frame : is_frame bytes ≡ true
  pub tag : is_command_tag (tag_of bytes) ≡ true
  pub found : row_of (code_of bytes) ≡ Some a.shape.row
  pub cut : cut_handle a.shape.row.handles 1 bytes ≡ None
  pub wrong : wrong_handle a.shape.row.handles 1 bytes ≡ None
  pub shape : a.shape ≡ shape_over a.shape.row bytes (handles_in a.shape.row.handles 1 bytes)
  pub handles : missing_handle tables 0 a.shape.handles ≡ None
  pub given : Given tables bytes a.shape (auths_of bytes a.shape) a

pub passed : (tables : Tables) (bytes : List ℕ) (a : Admitted) → admitted row_of tables bytes ≡ Ok a → Passed tables bytes a
unfolding admitted
passed tables bytes a e =
    let row_known : row_in row_of bytes ≡ Ok a.shape.row = found_row tables (row_in row_of bytes) bytes a e in
    let row = is_row (is_frame bytes) (is_command_tag (tag_of bytes)) (row_of (code_of bytes)) a.shape.row row_known in
    let first : shape_by (row_in row_of bytes) bytes ≡ Ok a.shape = admitted_from tables bytes (shape_by (row_in row_of bytes) bytes) a e in
    let shape_known : shape_with a.shape.row bytes ≡ Ok a.shape = sym (ap (λ (found : Result CommandRow ℕ). shape_by found bytes) row_known) ∙ first in
    let shaped = is_shaped a.shape.row bytes (cut_handle a.shape.row.handles 1 bytes) (wrong_handle a.shape.row.handles 1 bytes) a.shape shape_known in
    let over : admitted_shape tables bytes (Ok a.shape) ≡ Ok a = sym (ap (admitted_shape tables bytes) first) ∙ e in
    let auths = admitted_auths tables bytes a.shape (auths_of bytes a.shape) in
    record {
      frame = row.frame_is;
      tag = row.tag_is;
      found = row.found_is;
      cut = shaped.cut_is;
      wrong = shaped.wrong_is;
      shape = shaped.shape_is;
      handles = no_fault (missing_handle tables 0 a.shape.handles) auths a over;
      given = given_auths tables bytes a.shape (auths_of bytes a.shape) a (unless_ok (missing_handle tables 0 a.shape.handles) auths a over);
    }

-- ---- the kinds of its handles

-- there are two kinds, and no first handle is absent where there is a second
abbrev pub two_kinds : List Kind → Bool
two_kinds [] = false
two_kinds (kind ∷ []) = false
two_kinds (first ∷ second ∷ []) = not (is_present second) || is_present first
two_kinds (first ∷ second ∷ third ∷ kinds) = false

abbrev each_two : List CommandRow → Bool
each_two [] = true
each_two (row ∷ rows) = two_kinds row.handles && each_two rows

pub and_both : (a b : Bool) → (a && b) ≡ true → (a ≡ true) × (b ≡ true)
and_both true b e = (refl, e)
and_both false b e = absurd cc

two_by : (is : Bool) (first row : CommandRow) (more : Option CommandRow) → two_kinds first.handles ≡ true → (more ≡ Some row → two_kinds row.handles ≡ true)
    → (if is then Some first else more) ≡ Some row → two_kinds row.handles ≡ true
two_by true first row more two later e =
    let same : first ≡ row = cc in
    subst (λ (r : CommandRow). two_kinds r.handles ≡ true) same two
two_by false first row more two later e = later e

two_found : (code : ℕ) (rows : List CommandRow) (row : CommandRow) → each_two rows ≡ true → find (λ r. r.code == code) rows ≡ Some row → two_kinds row.handles ≡ true
two_found code [] row all e = absurd cc
two_found code (first ∷ rows) row all e =
    let parts = and_both (two_kinds first.handles) (each_two rows) all in
    two_by (first.code == code) first row (find (λ r. r.code == code) rows) parts.0 (two_found code rows row parts.1) e

pub two_in_row : (code : ℕ) (row : CommandRow) → row_of code ≡ Some row → two_kinds row.handles ≡ true
two_in_row code row e = two_found code all_commands row refl e

-- ---- the bytes with other handles

abbrev over : List ℕ → ℕ → ℕ → ℕ → ℕ → List ℕ
over bytes count rest first second = take 10 bytes ++ handle_bytes count (first ∷ second ∷ []) ++ drop rest bytes

abbrev pub count_of : Bool → Bool → ℕ
count_of one two = (if one then 1 else 0) + ((if two then 1 else 0) + 0)

four_each : (one two : Bool) (first second : ℕ) → length (handle_bytes (count_of one two) (first ∷ second ∷ [])) ≡ 4 * count_of one two
four_each true true first second = refl
four_each true false first second = refl
four_each false true first second = refl
four_each false false first second = refl

not_cut : (cut : Bool) (code : ℕ) (more : Option ℕ) → (if cut then Some code else more) ≡ None → (cut ≡ false) × (more ≡ None)
not_cut true code more e = absurd cc
not_cut false code more e = (refl, e)

pub long_enough : (one two : Bool) (size first second : ℕ) → 10 ≤ size → (not two || one) ≡ true
    → (if one && nat_lt size 14 then Some first else if two && nat_lt size 18 then Some second else None) ≡ None → 10 + 4 * count_of one two ≤ size
long_enough true true size first second least order e =
    let behind = not_cut (nat_lt size 14) first (if nat_lt size 18 then Some second else None) e in
    let whole = not_cut (nat_lt size 18) second None behind.1 in
    ltb-false size 18 whole.0
long_enough true false size first second least order e = ltb-false size 14 (not_cut (nat_lt size 14) first None e).0
long_enough false true size first second least order e = absurd cc
long_enough false false size first second least order e = least

pub frame_least : (bytes : List ℕ) → is_frame bytes ≡ true → 10 ≤ length bytes
frame_least bytes is =
    let sized = and_both (is_size (length bytes)) (size_of bytes == length bytes) is in
    leb-true 10 (length bytes) (and_both (nat_le 10 (length bytes)) (nat_le (length bytes) 4096) sized.0).0

-- what stands where
record Laid (rest : ℕ) (bytes new others : List ℕ) : Type 0 where
  size : length new ≡ length bytes
  head : take 10 new ≡ take 10 bytes
  behind : drop rest new ≡ drop rest bytes
  middle : drop 10 new ≡ others ++ drop rest bytes

laid : (bytes others : List ℕ) (count : ℕ) → 10 ≤ length bytes → length others ≡ 4 * count → 10 + 4 * count ≤ length bytes
    → Laid (10 + 4 * count) bytes (take 10 bytes ++ others ++ drop (10 + 4 * count) bytes) others
laid bytes others count least four long =
    let front = take 10 bytes in
    let rest = 10 + 4 * count in
    let more = drop rest bytes in
    let ten : length front ≡ 10 = length-take-le 10 bytes least in
    let joined : (front ++ others) ++ more ≡ front ++ (others ++ more) = append_assoc front others more in
    let before : length (front ++ others) ≡ rest = omega (arith, length-append front others, ten, four) in
    record {
      size = omega (arith, length-append (front ++ others) more, before, length-drop rest bytes, long);
      head = ap (take 10) joined ∙ ap (λ n. take n (front ++ (others ++ more))) (sym ten) ∙ take-append_seam front (others ++ more);
      behind = ap (λ n. drop n ((front ++ others) ++ more)) (sym before) ∙ drop-append_seam (front ++ others) more;
      middle = ap (drop 10) joined ∙ ap (λ n. drop n (front ++ (others ++ more))) (sym ten) ∙ drop-append_seam front (others ++ more);
    }

-- a field of the header
field_same : (at size : ℕ) (old new : List ℕ) → at + size ≤ 10 → take 10 new ≡ take 10 old → take size (drop at new) ≡ take size (drop at old)
field_same at size old new within same =
    let moved : (bytes : List ℕ) → drop at (take (at + size) (take 10 bytes)) ≡ take size (drop at bytes) =
    λ bytes. ap (drop at) (take-take (at + size) 10 bytes within) ∙ drop-take at size bytes in
    sym (moved new) ∙ ap (λ (bytes : List ℕ). drop at (take (at + size) bytes)) same ∙ moved old

-- the handles are read again
record Read (one two : Bool) (new : List ℕ) (first second : ℕ) : Type 0 where
  first_read : (if one then handle_at 1 new else 0) ≡ first
  second_read : (if two then handle_at 2 new else 0) ≡ second

zero_is : (handle : ℕ) → (handle == 0) ≡ true → 0 ≡ handle
zero_is handle e = sym (eqb-true handle 0 e)

read_again : (one two : Bool) (first second : ℕ) (new more : List ℕ) → first < 2 ^ 32 → second < 2 ^ 32 → (not two || one) ≡ true
    → (one || first == 0) ≡ true → (two || second == 0) ≡ true
    → drop 10 new ≡ handle_bytes (count_of one two) (first ∷ second ∷ []) ++ more → Read one two new first second
read_again true true first second new more first_fits second_fits order absent_first absent_second is = record {
  first_read = ap (λ (bytes : List ℕ). from_be_bytes w32 (take 4 bytes)) is ∙ from_be_bytes-to_be_bytes_4 first first_fits;
  second_read = ap (λ (bytes : List ℕ). from_be_bytes w32 (take 4 bytes)) (sym (drop-drop 4 10 new) ∙ ap (drop 4) is)
      ∙ from_be_bytes-to_be_bytes_4 second second_fits;
}
read_again true false first second new more first_fits second_fits order absent_first absent_second is = record {
  first_read = ap (λ (bytes : List ℕ). from_be_bytes w32 (take 4 bytes)) is ∙ from_be_bytes-to_be_bytes_4 first first_fits;
  second_read = zero_is second absent_second;
}
read_again false true first second new more first_fits second_fits order absent_first absent_second is = absurd cc
read_again false false first second new more first_fits second_fits order absent_first absent_second is =
    record { first_read = zero_is first absent_first; second_read = zero_is second absent_second }

kind_read : (kind : Kind) (present : Bool) (read given : ℕ) → is_present kind ≡ present → (if present then read else 0) ≡ given → is_of_kind kind given ≡ true
    → is_of_kind kind read ≡ true
kind_read kind true read given is same fits = ap (is_of_kind kind) same ∙ fits
kind_read kind false read given is same fits = absent_takes_any kind read is

kinds_by : (one two : Bool) (first second : ℕ) → one ≡ true → two ≡ true → (if one then if two then None else Some second else Some first) ≡ None
kinds_by one two first second one_is two_is = rw (one_is, two_is) refl

-- the shape of a command whose handles were read again
record Reads (kinds : List Kind) (new : List ℕ) (first second : ℕ) : Type 0 where
  handles_are : handles_in kinds 1 new ≡ first ∷ second ∷ []
  none_wrong : wrong_handle kinds 1 new ≡ None

reads_by : (one two : Kind) (new : List ℕ) (first second : ℕ) → is_of_kind one first ≡ true → is_of_kind two second ≡ true
    → Read (is_present one) (is_present two) new first second → Reads (one ∷ two ∷ []) new first second
reads_by one two new first second one_fits two_fits read = record {
  handles_are = λ i. read.first_read i ∷ read.second_read i ∷ [];
  none_wrong = kinds_by (is_of_kind one (handle_at 1 new)) (is_of_kind two (handle_at 2 new))
      (kind_code one (handle_at 1 new) + RC_1 * 1) (kind_code two (handle_at 2 new) + RC_1 * 2)
      (kind_read one (is_present one) (handle_at 1 new) first refl read.first_read one_fits)
      (kind_read two (is_present two) (handle_at 2 new) second refl read.second_read two_fits);
}

record Over (kinds : List Kind) (bytes new : List ℕ) (first second : ℕ) : Type 0 where
  size : length new ≡ length bytes
  head : take 10 new ≡ take 10 bytes
  behind : drop (10 + 4 * count_in kinds) new ≡ drop (10 + 4 * count_in kinds) bytes
  within : 10 + 4 * count_in kinds ≤ 18
  reads : first < 2 ^ 32 → second < 2 ^ 32 → are_of_kinds kinds (first ∷ second ∷ []) ≡ true → absent_are_zero kinds (first ∷ second ∷ []) ≡ true
      → Reads kinds new first second

abbrev IsOver : List Kind → List ℕ → ℕ → ℕ → Type 0
IsOver kinds bytes first second = Over kinds bytes (over bytes (count_in kinds) (10 + 4 * count_in kinds) first second) first second

few : (one two : Bool) → 10 + 4 * count_of one two ≤ 18
few true true = omega arith
few true false = omega arith
few false true = omega arith
few false false = omega arith

over_by : (kinds : List Kind) (bytes : List ℕ) (first second : ℕ) → 10 ≤ length bytes → two_kinds kinds ≡ true → cut_handle kinds 1 bytes ≡ None
    → IsOver kinds bytes first second
over_by [] bytes first second least two whole = absurd cc
over_by (one ∷ []) bytes first second least two whole = absurd cc
over_by (one ∷ two ∷ third ∷ kinds) bytes first second least order whole = absurd cc
over_by (one ∷ two ∷ []) bytes first second least order whole =
    let others = handle_bytes (count_of (is_present one) (is_present two)) (first ∷ second ∷ []) in
    let long = long_enough (is_present one) (is_present two) (length bytes) (RC_INSUFFICIENT + RC_1 * 1) (RC_INSUFFICIENT + RC_1 * 2) least order whole in
    let is = laid bytes others (count_of (is_present one) (is_present two)) least (four_each (is_present one) (is_present two) first second) long in
    let new = over bytes (count_of (is_present one) (is_present two)) (10 + 4 * count_of (is_present one) (is_present two)) first second in
    let more = drop (10 + 4 * count_of (is_present one) (is_present two)) bytes in
    record {
      size = is.size;
      head = is.head;
      behind = is.behind;
      within = few (is_present one) (is_present two);
      reads = λ first_fits second_fits fit absent.
          let fits = and_both (is_of_kind one first) (is_of_kind two second && true) fit in
          let zeros = and_both (is_present one || first == 0) ((is_present two || second == 0) && true) absent in
          reads_by one two new first second fits.0 (and_both (is_of_kind two second) true fits.1).0
          (read_again (is_present one) (is_present two) first second new more first_fits second_fits order zeros.0
          (and_both (is_present two || second == 0) true zeros.1).0 is.middle);
    }

-- ---- the command is admitted

cut_same : (kinds : List Kind) (n : ℕ) (old new : List ℕ) → length new ≡ length old → cut_handle kinds n new ≡ cut_handle kinds n old
cut_same [] n old new same = refl
cut_same (kind ∷ kinds) n old new same =
    ap (λ (size : ℕ). if is_present kind && nat_lt size (HEADER_BYTES + 4 * n) then Some (RC_INSUFFICIENT + RC_1 * n) else cut_handle kinds (n + 1) new) same
    ∙ ap (λ (more : Option ℕ). if is_present kind && nat_lt (length old) (HEADER_BYTES + 4 * n) then Some (RC_INSUFFICIENT + RC_1 * n) else more)
    (cut_same kinds (n + 1) old new same)

shaped_by : (row : CommandRow) (bytes : List ℕ) (cut wrong : Option ℕ) → cut ≡ None → wrong ≡ None
    → shape_from row bytes cut wrong ≡ Ok (shape_over row bytes (handles_in row.handles 1 bytes))
shaped_by row bytes cut wrong cut_is wrong_is = λ i. shape_from row bytes (cut_is i) (wrong_is i)

-- what is known of the command with other handles
pub record Handled (bytes : List ℕ) (a : Admitted) (first second : ℕ) (new : List ℕ) : Type 0 where
  pub agree : Agree a.shape.rest bytes new
  pub frame : is_frame new ≡ true
  pub tag : tag_of new ≡ tag_of bytes
  pub code : code_of new ≡ code_of bytes
  pub row : row_in row_of new ≡ Ok a.shape.row
  pub shape : AreHandlesOf a.shape first second → shape_by (row_in row_of new) new ≡ Ok (handled a.shape first second)
  pub within : a.shape.rest ≤ 18

shaped_again : (tables : Tables) (bytes : List ℕ) (a : Admitted) (first second : ℕ) (new : List ℕ) → Passed tables bytes a → a.shape.rest ≡ 10 + 4 * count_in a.shape.row.handles
    → a.shape.count ≡ count_in a.shape.row.handles → length new ≡ length bytes → tag_of new ≡ tag_of bytes → Reads a.shape.row.handles new first second
    → shape_with a.shape.row new ≡ Ok (handled a.shape first second)
shaped_again tables bytes a first second new p rest_is count_is size tag reads =
    let row = a.shape.row in
    let shaped : shape_with row new ≡ Ok (shape_over row new (handles_in row.handles 1 new)) =
    shaped_by row new (cut_handle row.handles 1 new) (wrong_handle row.handles 1 new) (cut_same row.handles 1 bytes new size ∙ p.cut) reads.none_wrong in
    let tag_is : tag_of new ≡ a.shape.tag = tag ∙ sym (ap (λ (shape : Shape). shape.tag) p.shape) in
    let handles_are : handles_in row.handles 1 new ≡ first ∷ second ∷ [] = reads.handles_are in
    let whole : shape_over row new (handles_in row.handles 1 new) ≡ handled a.shape first second =
    λ i. record { row = row; tag = tag_is i; handles = handles_are i; count = sym count_is i; rest = sym rest_is i } in
    shaped ∙ ap (λ (shape : Shape). let found : Result Shape ℕ = Ok shape in found) whole

handled_by : (tables : Tables) (bytes : List ℕ) (a : Admitted) (first second : ℕ) (new : List ℕ) → Passed tables bytes a → a.shape.rest ≡ 10 + 4 * count_in a.shape.row.handles
    → a.shape.count ≡ count_in a.shape.row.handles → Over a.shape.row.handles bytes new first second → Handled bytes a first second new
handled_by tables bytes a first second new p rest_is count_is o =
    let row = a.shape.row in
    let field : (at size : ℕ) → at + size ≤ 10 → take size (drop at new) ≡ take size (drop at bytes) = λ at size within. field_same at size bytes new within o.head in
    let tag : tag_of new ≡ tag_of bytes = ap (from_be_bytes w16) (field 0 2 (omega arith)) in
    let size : size_of new ≡ size_of bytes = ap (from_be_bytes w32) (field 2 4 (omega arith)) in
    let code : code_of new ≡ code_of bytes = ap (from_be_bytes w32) (field 6 4 (omega arith)) in
    let length_is : length new ≡ length bytes = o.size in
    let frame_same : is_frame new ≡ is_frame bytes = λ i. is_size (length_is i) && size i == length_is i in
    let known : row_in row_of new ≡ Ok row =
    row_is (is_frame new) (is_command_tag (tag_of new)) (row_of (code_of new)) row (frame_same ∙ p.frame) (ap is_command_tag tag ∙ p.tag) (ap row_of code ∙ p.found) in
    record {
      agree = record { size = o.size; behind = subst (λ (n : ℕ). drop n new ≡ drop n bytes) (sym rest_is) o.behind };
      frame = frame_same ∙ p.frame;
      tag = tag;
      code = code;
      row = known;
      shape = λ are. ap (λ (found : Result CommandRow ℕ). shape_by found new) known
          ∙ shaped_again tables bytes a first second new p rest_is count_is o.size tag (o.reads are.first_fits are.second_fits are.kinds are.absent);
      within = omega (arith, rest_is, o.within);
    }

pub handled_is : (tables : Tables) (bytes : List ℕ) (a : Admitted) (first second : ℕ) → admitted row_of tables bytes ≡ Ok a
    → Handled bytes a first second (with_handles bytes a.shape (first ∷ second ∷ []))
handled_is tables bytes a first second e =
    let p = passed tables bytes a e in
    let kinds = a.shape.row.handles in
    let count_is : a.shape.count ≡ count_in kinds = ap (λ (shape : Shape). shape.count) p.shape in
    let rest_is : a.shape.rest ≡ 10 + 4 * count_in kinds = ap (λ (shape : Shape). shape.rest) p.shape in
    let o : IsOver kinds bytes first second =
    over_by kinds bytes first second (frame_least bytes p.frame) (two_in_row (code_of bytes) a.shape.row p.found) p.cut in
    let same : over bytes (count_in kinds) (10 + 4 * count_in kinds) first second ≡ over bytes a.shape.count a.shape.rest first second =
    λ i. over bytes (sym count_is i) (sym rest_is i) first second in
    handled_by tables bytes a first second (with_handles bytes a.shape (first ∷ second ∷ [])) p rest_is count_is
    (subst (λ (new : List ℕ). Over kinds bytes new first second) same o)

room_same : (tables : Tables) (bytes new : List ℕ) (shape : Shape) (first second : ℕ) → length new ≡ length bytes → drop 18 new ≡ drop 18 bytes
    → object_too_many tables (handled shape first second) new ≡ object_too_many tables shape bytes
room_same tables bytes new shape first second size behind =
    let loads : loads_object tables.contexts new ≡ loads_object tables.contexts bytes =
    λ i. not (nat_lt (size i) 22) && is_saved_object tables.contexts (from_be_bytes w32 (take 4 (behind i))) in
    ap (λ (loads : Bool). if ((shape.row.code == CC_CREATE_PRIMARY || shape.row.code == CC_LOAD) || (shape.row.code == CC_CONTEXT_LOAD && loads)) && tables.is_full
    then Some RC_OBJECT_MEMORY else None) loads

all_pass : (a : Admitted) (one two three four five : Option ℕ) → one ≡ None → two ≡ None → three ≡ None → four ≡ None → five ≡ None
    → unless_fault one (unless_fault two (unless_fault three (unless_fault four (unless_fault five (Ok a))))) ≡ Ok a
all_pass a one two three four five first second third fourth fifth =
    λ i. unless_fault (first i) (unless_fault (second i) (unless_fault (third i) (unless_fault (fourth i) (unless_fault (fifth i) (Ok a)))))

pub handled_admitted : (tables other : Tables) (bytes : List ℕ) (a : Admitted) (first second : ℕ) → admitted row_of tables bytes ≡ Ok a
    → AreHandlesOf a.shape first second → HandlesAreThere other bytes a first second
    → admitted row_of other (with_handles bytes a.shape (first ∷ second ∷ [])) ≡ Ok (admitted_handled a first second)
unfolding admitted
handled_admitted tables other bytes a first second e are there =
    let p = passed tables bytes a e in
    let h = handled_is tables bytes a first second e in
    let new = with_handles bytes a.shape (first ∷ second ∷ []) in
    let shape = handled a.shape first second in
    let auths : auths_of new shape ≡ Ok a.auths = auths_of_same a.shape (first ∷ second ∷ []) bytes new h.agree ∙ p.given.auths_are in
    let given = take a.auths.count a.auths.auths in
    ap (admitted_shape other new) (h.shape are)
    ∙ ap (λ (found : Result Auths ℕ). unless_fault (missing_handle other 0 (first ∷ second ∷ [])) (admitted_auths other new shape found)) auths
    ∙ all_pass (admitted_handled a first second) (missing_handle other 0 (first ∷ second ∷ [])) (missing_session other 0 given)
    (repeated_session (first ∷ second ∷ []) 1 given) (spare_auth shape a.auths) (object_too_many other shape new)
    there.handles there.sessions there.once p.given.no_spare
    (room_same other bytes new a.shape first second h.agree.size (drop_behind a.shape.rest 18 bytes new h.agree h.within) ∙ there.room)

-- ---- a client's command

record Startless (found : Result Admitted ℕ) (a : Admitted) : Type 0 where
  found_is : found ≡ Ok a
  other : (a.shape.row.code == CC_STARTUP) ≡ false

startless_by : (startup : Bool) (found a : Admitted) → (found.shape.row.code == CC_STARTUP) ≡ startup → (if startup then Err RC_INITIALIZE else Ok found) ≡ Ok a
    → Startless (Ok found) a
startless_by true found a test e = absurd cc
startless_by false found a test e =
    let same : found ≡ a = cc in
    record { found_is = e; other = subst (λ (x : Admitted). (x.shape.row.code == CC_STARTUP) ≡ false) same test }

startless : (found : Result Admitted ℕ) (a : Admitted) → unless_startup found ≡ Ok a → Startless found a
startless (Err code) a e = absurd cc
startless (Ok found) a e = startless_by (found.shape.row.code == CC_STARTUP) found a refl e

-- it is admitted, and no Startup
pub record IsClients (tables : Tables) (bytes : List ℕ) (a : Admitted) : Type 0 where
  pub whole : admitted row_of tables bytes ≡ Ok a
  pub other : (a.shape.row.code == CC_STARTUP) ≡ false

pub code_found : (bytes : List ℕ) (row : CommandRow) → row_of (code_of bytes) ≡ Some row → row.code ≡ code_of bytes
code_found bytes row e = found_code (code_of bytes) all_commands row e

pub client_is : (tables : Tables) (bytes : List ℕ) (a : Admitted) → client_admitted tables bytes ≡ Ok a → IsClients tables bytes a
client_is tables bytes a e =
    let start = startless (admitted row_of tables bytes) a e in
    record { whole = start.found_is; other = start.other }
