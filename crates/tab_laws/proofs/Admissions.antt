-- What is known of a command that was admitted.
use Rattle.std.proofs.Common.{◌≡◌, ◌+◌, ◌*◌, ℕ, Bool, true, false, List, [], ◌∷◌, take, Option, Some, None, Result, Ok, Err, refl, ap, sym, subst, ◌∙◌}
use Rattle.std.specs.Prelude.{◌==◌, if◌then◌else◌}
use Rattle.std.specs.List.{find}
use Rattle.std.proofs.lemmas.Bool.{and_from, eqb-true}
use Rattle.tab_spec.specs.declared.Kind.{Kind}
use Rattle.tab_spec.specs.declared.Kind.TheVariants.{Absent, Owner, Pcr, Nv, NvAuth, Object, Policy, Entity, Saved, Null}
use Rattle.tab_spec.specs.declared.TheConstants.{RC_1}
use Rattle.tab_spec.specs.declared.CommandRow.{CommandRow}
use Rattle.tab_spec.specs.declared.Shape.{Shape}
use Rattle.tab_spec.specs.declared.Auths.{Auths}
use Rattle.tab_spec.specs.declared.Admitted.{Admitted}
use Rattle.tab_spec.specs.Commands.{row_of}
use Rattle.tab_spec.specs.Frame.{tag_of}
use Rattle.tab_spec.specs.Shape.{IsShape, shape_from, shape_with, cut_handle, wrong_handle, is_present, is_of_kind, kind_code, handle_at, handles_in, are_of_kinds}
use Rattle.tab_spec.specs.Auths.{auths_of}
use Rattle.tab_spec.specs.Admission.{Tables, missing_handle, missing_session, repeated_session, spare_auth, object_too_many, unless_fault, admitted_auths, admitted_shape, admitted_by}

-- no fault came before
pub unless_ok : (fault : Option ℕ) (rest : Result Admitted ℕ) (a : Admitted) → unless_fault fault rest ≡ Ok a → rest ≡ Ok a
unless_ok (Some code) rest a e = absurd cc
unless_ok None rest a e = e

shape_row : (row : CommandRow) (bytes : List ℕ) (cut wrong : Option ℕ) (shape : Shape) → shape_from row bytes cut wrong ≡ Ok shape → shape.row ≡ row
shape_row row bytes (Some code) wrong shape e = absurd cc
shape_row row bytes None (Some code) shape e = absurd cc
shape_row row bytes None None shape e = cc

shape_of_ok : (shape : Shape) (auths : Auths) (a : Admitted) → ◌≡◌ {A = Result Admitted ℕ} (Ok (record { shape = shape; auths = auths })) (Ok a) → a.shape ≡ shape
shape_of_ok shape auths a e = cc

auths_shape : (tables : Tables) (bytes : List ℕ) (shape : Shape) (auths : Result Auths ℕ) (a : Admitted) → admitted_auths tables bytes shape auths ≡ Ok a → a.shape ≡ shape
auths_shape tables bytes shape (Err code) a e = absurd cc
auths_shape tables bytes shape (Ok auths) a e =
    let given = take auths.count auths.auths in
    let passed : Result Admitted ℕ = Ok (record { shape = shape; auths = auths }) in
    let room = unless_fault (object_too_many tables shape bytes) passed in
    let spare = unless_fault (spare_auth shape auths) room in
    let once = unless_fault (repeated_session shape.handles 1 given) spare in
    let behind_missing : once ≡ Ok a = unless_ok (missing_session tables 0 given) once a e in
    let behind_repeated : spare ≡ Ok a = unless_ok (repeated_session shape.handles 1 given) spare a behind_missing in
    let behind_spare : room ≡ Ok a = unless_ok (spare_auth shape auths) room a behind_repeated in
    shape_of_ok shape auths a (unless_ok (object_too_many tables shape bytes) passed a behind_spare)

-- it has the shape that was found first
pub admitted_from : (tables : Tables) (bytes : List ℕ) (shape : Result Shape ℕ) (a : Admitted) → admitted_shape tables bytes shape ≡ Ok a → shape ≡ Ok a.shape
admitted_from tables bytes (Err code) a e = absurd cc
admitted_from tables bytes (Ok shape) a e =
    ap (λ (s : Shape). let found : Result Shape ℕ = Ok s in found)
    (sym (auths_shape tables bytes shape (auths_of bytes shape) a (unless_ok (missing_handle tables 0 shape.handles) (admitted_auths tables bytes shape (auths_of bytes shape)) a e)))

-- it has the row that was found for it
pub admitted_row : (tables : Tables) (row : CommandRow) (bytes : List ℕ) (a : Admitted) → admitted_by tables (Ok row) bytes ≡ Ok a → a.shape.row ≡ row
admitted_row tables row bytes a e =
    shape_row row bytes (cut_handle row.handles 1 bytes) (wrong_handle row.handles 1 bytes) a.shape (admitted_from tables bytes (shape_with row bytes) a e)

-- ---- its tag

shape_tag : (row : CommandRow) (bytes : List ℕ) (cut wrong : Option ℕ) (shape : Shape) → shape_from row bytes cut wrong ≡ Ok shape → shape.tag ≡ tag_of bytes
shape_tag row bytes (Some code) wrong shape e = absurd cc
shape_tag row bytes None (Some code) shape e = absurd cc
shape_tag row bytes None None shape e = cc

pub admitted_tag : (tables : Tables) (row : CommandRow) (bytes : List ℕ) (a : Admitted) → admitted_by tables (Ok row) bytes ≡ Ok a → a.shape.tag ≡ tag_of bytes
admitted_tag tables row bytes a e =
    shape_tag row bytes (cut_handle row.handles 1 bytes) (wrong_handle row.handles 1 bytes) a.shape (admitted_from tables bytes (shape_with row bytes) a e)

-- ---- its handles

shape_handles : (row : CommandRow) (bytes : List ℕ) (cut wrong : Option ℕ) (shape : Shape) → shape_from row bytes cut wrong ≡ Ok shape
    → (wrong ≡ None) × (handles_in row.handles 1 bytes ≡ shape.handles)
shape_handles row bytes (Some code) wrong shape e = absurd cc
shape_handles row bytes None (Some code) shape e = absurd cc
shape_handles row bytes None None shape e = (refl, cc)

pub absent_takes_any : (kind : Kind) (handle : ℕ) → is_present kind ≡ false → is_of_kind kind handle ≡ true
absent_takes_any Absent handle e = refl
absent_takes_any Owner handle e = absurd cc
absent_takes_any Pcr handle e = absurd cc
absent_takes_any Nv handle e = absurd cc
absent_takes_any NvAuth handle e = absurd cc
absent_takes_any Object handle e = absurd cc
absent_takes_any Policy handle e = absurd cc
absent_takes_any Entity handle e = absurd cc
absent_takes_any Saved handle e = absurd cc
absent_takes_any Null handle e = absurd cc

handle_fits : (kind : Kind) (present : Bool) (handle : ℕ) → is_present kind ≡ present → is_of_kind kind handle ≡ true → is_of_kind kind (if present then handle else 0) ≡ true
handle_fits kind true handle is fits = fits
handle_fits kind false handle is fits = absent_takes_any kind 0 is

kind_by : (fits : Bool) (code : ℕ) (more : Option ℕ) → (if fits then more else Some code) ≡ None → (fits ≡ true) × (more ≡ None)
kind_by true code more e = (refl, e)
kind_by false code more e = absurd cc

pub kinds_hold : (kinds : List Kind) (n : ℕ) (bytes : List ℕ) → wrong_handle kinds n bytes ≡ None → are_of_kinds kinds (handles_in kinds n bytes) ≡ true
kinds_hold [] n bytes e = refl
kinds_hold (kind ∷ kinds) n bytes e =
    let parts = kind_by (is_of_kind kind (handle_at n bytes)) (kind_code kind (handle_at n bytes) + RC_1 * n) (wrong_handle kinds (n + 1) bytes) e in
    and_from (is_of_kind kind (if is_present kind then handle_at n bytes else 0)) (are_of_kinds kinds (handles_in kinds (n + 1) bytes))
    (handle_fits kind (is_present kind) (handle_at n bytes) refl parts.0) (kinds_hold kinds (n + 1) bytes parts.1)

pub admitted_is_shape : (tables : Tables) (row : CommandRow) (bytes : List ℕ) (a : Admitted) → row_of row.code ≡ Some row → admitted_by tables (Ok row) bytes ≡ Ok a
    → IsShape a.shape
admitted_is_shape tables row bytes a known e =
    let row_is : row ≡ a.shape.row = sym (admitted_row tables row bytes a e) in
    let handles = shape_handles row bytes (cut_handle row.handles 1 bytes) (wrong_handle row.handles 1 bytes) a.shape (admitted_from tables bytes (shape_with row bytes) a e) in
    record {
      row = subst (λ (r : CommandRow). row_of r.code ≡ Some r) row_is known;
      kinds = ap (λ (r : CommandRow). are_of_kinds r.handles a.shape.handles) (sym row_is) ∙ ap (are_of_kinds row.handles) (sym handles.1)
          ∙ kinds_hold row.handles 1 bytes handles.0;
    }

-- ---- its row

found_by : (is : Bool) (code : ℕ) (first row : CommandRow) (more : Option CommandRow) → (first.code == code) ≡ is → (more ≡ Some row → row.code ≡ code)
    → (if is then Some first else more) ≡ Some row → row.code ≡ code
found_by true code first row more test later e =
    let first_is : first ≡ row = cc in
    ap (λ (r : CommandRow). r.code) (sym first_is) ∙ eqb-true first.code code test
found_by false code first row more test later e = later e

pub found_code : (code : ℕ) (rows : List CommandRow) (row : CommandRow) → find (λ r. r.code == code) rows ≡ Some row → row.code ≡ code
found_code code [] row e = absurd cc
found_code code (first ∷ rows) row e = found_by (first.code == code) code first row (find (λ r. r.code == code) rows) refl (found_code code rows row) e
