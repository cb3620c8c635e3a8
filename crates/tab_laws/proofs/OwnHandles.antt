-- The handles that a command has are some that it may have.
use Rattle.std.proofs.Common.{◌≡◌, ◌+◌, ◌*◌, ◌^◌, ◌<◌, ◌≤◌, ℕ, Bool, true, false, List, [], ◌∷◌, ◌++◌, length, take, drop, get_or, refl, ap, sym, ◌∙◌, subst, drop-drop, take-append-drop, length-drop, length-take-le, append_assoc, arith}
use Rattle.std.specs.Prelude.{None, Ok, not, ◌==◌, ◌||◌, ◌&&◌, if◌then◌else◌}
use Rattle.std.specs.Int.{w32, to_be_bytes}
use Rattle.std.proofs.lemmas.Bool.{and_from, or_left}
use Rattle.std.proofs.lemmas.Nat.{be_bytes_4}
use Rattle.tab_spec.specs.declared.TheConstants.{RC_1, RC_INSUFFICIENT}
use Rattle.tab_spec.specs.declared.Kind.{Kind}
use Rattle.tab_spec.specs.declared.Kind.TheVariants.{Absent}
use Rattle.tab_spec.specs.declared.Shape.{Shape}
use Rattle.tab_spec.specs.declared.Admitted.{Admitted}
use Rattle.tab_spec.specs.Commands.{row_of}
use Rattle.tab_spec.specs.Frame.{code_of}
use Rattle.tab_spec.specs.Shape.{are_of_kinds, count_in, cut_handle, handle_at, handle_bytes, handles_in, is_of_kind, is_present, with_handles}
use Rattle.tab_spec.specs.Values.{AreBytes}
use Rattle.tab_spec.specs.Admission.{Tables, admitted, missing_handle, repeated_session}
use Rattle.tab_laws.specs.OtherHandles.{absent_are_zero, AreHandlesOf, HandlesAreThere}
use Rattle.tab_laws.proofs.Admissions.{kinds_hold}
use Rattle.tab_laws.proofs.OneSpelling.{byte_at, bytes_back, bytes_front}
use Rattle.tab_laws.proofs.Sessions.{number_small}
use Rattle.tab_laws.proofs.Handled.{and_both, count_of, frame_least, long_enough, passed, two_in_row, two_kinds}

any_bytes : (at : ℕ) (bytes : List ℕ) → AreBytes bytes → (i : ℕ) → get_or (take 4 (drop at bytes)) i 0 < 256
any_bytes at bytes all =
    let behind : AreBytes (drop at bytes) = bytes_back (take at bytes) (drop at bytes) (subst AreBytes (sym (take-append-drop at bytes)) all) in
    byte_at (take 4 (drop at bytes)) (bytes_front (take 4 (drop at bytes)) (drop 4 (drop at bytes)) (subst AreBytes (sym (take-append-drop 4 (drop at bytes))) behind))

handle_small : (n : ℕ) (bytes : List ℕ) → AreBytes bytes → handle_at n bytes < 2 ^ 32
handle_small n bytes all = number_small (take 4 (drop (6 + 4 * n) bytes)) (handle_at n bytes) (any_bytes (6 + 4 * n) bytes all) refl

small_by : (present : Bool) (handle : ℕ) → handle < 2 ^ 32 → (if present then handle else 0) < 2 ^ 32
small_by true handle small = small
small_by false handle small = omega arith

zero_by : (present : Bool) (handle : ℕ) → (present || (if present then handle else 0) == 0) ≡ true
zero_by true handle = refl
zero_by false handle = refl

-- ---- two handles

-- a handle that was read is written as it stood
written_again : (n : ℕ) (bytes : List ℕ) → AreBytes bytes → 10 + 4 * n ≤ length bytes → to_be_bytes w32 (handle_at n bytes) ≡ take 4 (drop (6 + 4 * n) bytes)
written_again n bytes all whole =
    let behind = drop (6 + 4 * n) bytes in
    let long : 4 ≤ length behind = omega (arith, length-drop (6 + 4 * n) bytes, whole) in
    be_bytes_4 (take 4 behind) (handle_at n bytes) (length-take-le 4 behind long) (any_bytes (6 + 4 * n) bytes all) refl

-- four bytes, and those after them
four_on : (at : ℕ) (bytes : List ℕ) → take 4 (drop at bytes) ++ drop (at + 4) bytes ≡ drop at bytes
four_on at bytes = ap (λ (more : List ℕ). take 4 (drop at bytes) ++ more) (sym (drop-drop 4 at bytes)) ∙ take-append-drop 4 (drop at bytes)

abbrev own : Bool → Bool → List ℕ → List ℕ
own one two bytes = (if one then handle_at 1 bytes else 0) ∷ (if two then handle_at 2 bytes else 0) ∷ []

abbrev again : Bool → Bool → List ℕ → List ℕ
again one two bytes = take 10 bytes ++ handle_bytes (count_of one two) (own one two bytes) ++ drop (10 + 4 * count_of one two) bytes

again_is : (one two : Bool) (bytes : List ℕ) → AreBytes bytes → 10 + 4 * count_of one two ≤ length bytes → (not two || one) ≡ true → again one two bytes ≡ bytes
again_is true true bytes all long order =
    let first = to_be_bytes w32 (handle_at 1 bytes) in
    let second = to_be_bytes w32 (handle_at 2 bytes) in
    let last = drop 18 bytes in
    let second_on : second ++ last ≡ drop 14 bytes = ap (λ (read : List ℕ). read ++ last) (written_again 2 bytes all (omega (arith, long))) ∙ four_on 14 bytes in
    let first_on : first ++ drop 14 bytes ≡ drop 10 bytes =
    ap (λ (read : List ℕ). read ++ drop 14 bytes) (written_again 1 bytes all (omega (arith, long))) ∙ four_on 10 bytes in
    append_assoc (take 10 bytes) (first ++ (second ++ [])) last
    ∙ ap (λ (more : List ℕ). take 10 bytes ++ more) (ap (λ (more : List ℕ). first ++ more) second_on ∙ first_on)
    ∙ take-append-drop 10 bytes
again_is true false bytes all long order =
    let first = to_be_bytes w32 (handle_at 1 bytes) in
    let last = drop 14 bytes in
    let first_on : first ++ last ≡ drop 10 bytes =
    ap (λ (read : List ℕ). read ++ last) (written_again 1 bytes all (omega (arith, long))) ∙ four_on 10 bytes in
    append_assoc (take 10 bytes) (first ++ []) last ∙ ap (λ (more : List ℕ). take 10 bytes ++ more) first_on ∙ take-append-drop 10 bytes
again_is false true bytes all long order = absurd cc
again_is false false bytes all long order =
    append_assoc (take 10 bytes) [] (drop 10 bytes) ∙ take-append-drop 10 bytes

-- ---- the handles of an admitted command

record Own (kinds : List Kind) (bytes : List ℕ) : Type 0 where
  two : handles_in kinds 1 bytes ≡ get_or (handles_in kinds 1 bytes) 0 0 ∷ get_or (handles_in kinds 1 bytes) 1 0 ∷ []
  first_fits : AreBytes bytes → get_or (handles_in kinds 1 bytes) 0 0 < 2 ^ 32
  second_fits : AreBytes bytes → get_or (handles_in kinds 1 bytes) 1 0 < 2 ^ 32
  absent : absent_are_zero kinds (handles_in kinds 1 bytes) ≡ true
  same : AreBytes bytes → take 10 bytes ++ handle_bytes (count_in kinds) (handles_in kinds 1 bytes) ++ drop (10 + 4 * count_in kinds) bytes ≡ bytes

own_by : (kinds : List Kind) (bytes : List ℕ) → 10 ≤ length bytes → two_kinds kinds ≡ true → cut_handle kinds 1 bytes ≡ None → Own kinds bytes
own_by [] bytes least two whole = absurd cc
own_by (one ∷ []) bytes least two whole = absurd cc
own_by (one ∷ two ∷ third ∷ kinds) bytes least order whole = absurd cc
own_by (one ∷ two ∷ []) bytes least order whole =
    let first = is_present one in
    let second = is_present two in
    let long = long_enough first second (length bytes) (RC_INSUFFICIENT + RC_1 * 1) (RC_INSUFFICIENT + RC_1 * 2) least order whole in
    record {
      two = refl;
      first_fits = λ all. small_by first (handle_at 1 bytes) (handle_small 1 bytes all);
      second_fits = λ all. small_by second (handle_at 2 bytes) (handle_small 2 bytes all);
      absent = and_from (first || (if first then handle_at 1 bytes else 0) == 0) ((second || (if second then handle_at 2 bytes else 0) == 0) && true)
          (zero_by first (handle_at 1 bytes))
          (and_from (second || (if second then handle_at 2 bytes else 0) == 0) true (zero_by second (handle_at 2 bytes)) refl);
      same = λ all. again_is first second bytes all long order;
    }

pub record OwnHandles (tables : Tables) (bytes : List ℕ) (a : Admitted) : Type 0 where
  pub two : a.shape.handles ≡ get_or a.shape.handles 0 0 ∷ get_or a.shape.handles 1 0 ∷ []
  pub are : AreBytes bytes → AreHandlesOf a.shape (get_or a.shape.handles 0 0) (get_or a.shape.handles 1 0)
  pub there : HandlesAreThere tables bytes a (get_or a.shape.handles 0 0)
      (get_or a.shape.handles 1 0)
  pub same : AreBytes bytes → with_handles bytes a.shape a.shape.handles ≡ bytes

pub own_handles : (tables : Tables) (bytes : List ℕ) (a : Admitted) → admitted row_of tables bytes ≡ Ok a → OwnHandles tables bytes a
own_handles tables bytes a e =
    let p = passed tables bytes a e in
    let kinds = a.shape.row.handles in
    let found = handles_in kinds 1 bytes in
    let is : found ≡ a.shape.handles = sym (ap (λ (shape : Shape). shape.handles) p.shape) in
    let count_is : count_in kinds ≡ a.shape.count = sym (ap (λ (shape : Shape). shape.count) p.shape) in
    let rest_is : 10 + 4 * count_in kinds ≡ a.shape.rest = sym (ap (λ (shape : Shape). shape.rest) p.shape) in
    let o = own_by kinds bytes (frame_least bytes p.frame) (two_in_row (code_of bytes) a.shape.row p.found) p.cut in
    let two : a.shape.handles ≡ get_or a.shape.handles 0 0 ∷ get_or a.shape.handles 1 0 ∷ [] =
    subst (λ (handles : List ℕ). handles ≡ get_or handles 0 0 ∷ get_or handles 1 0 ∷ []) is o.two in
    record {
      two = two;
      are = λ all. record {
        first_fits = subst (λ (handles : List ℕ). get_or handles 0 0 < 2 ^ 32) is (o.first_fits all);
        second_fits = subst (λ (handles : List ℕ). get_or handles 1 0 < 2 ^ 32) is (o.second_fits all);
        kinds = ap (are_of_kinds kinds) (sym two) ∙ ap (are_of_kinds kinds) (sym is) ∙ kinds_hold kinds 1 bytes p.wrong;
        absent = ap (absent_are_zero kinds) (sym two) ∙ ap (absent_are_zero kinds) (sym is) ∙ o.absent;
      };
      there = record {
        handles = ap (missing_handle tables 0) (sym two) ∙ p.handles;
        sessions = p.given.sessions;
        once = ap (λ (handles : List ℕ). repeated_session handles 1 (take a.auths.count a.auths.auths)) (sym two) ∙ p.given.once;
        room = p.given.room;
      };
      same = λ all.
          let new : take 10 bytes ++ handle_bytes a.shape.count a.shape.handles ++ drop a.shape.rest bytes
          ≡ take 10 bytes ++ handle_bytes (count_in kinds) found ++ drop (10 + 4 * count_in kinds) bytes =
          λ i. take 10 bytes ++ handle_bytes (sym count_is i) (sym is i) ++ drop (sym rest_is i) bytes in
          new ∙ o.same all;
    }

-- ---- another first handle

first_by : (kinds : List Kind) (old first second : ℕ) → is_present (get_or kinds 0 Absent) ≡ true → is_of_kind (get_or kinds 0 Absent) first ≡ true
    → are_of_kinds kinds (old ∷ second ∷ []) ≡ true → absent_are_zero kinds (old ∷ second ∷ []) ≡ true
    → (are_of_kinds kinds (first ∷ second ∷ []) ≡ true) × (absent_are_zero kinds (first ∷ second ∷ []) ≡ true)
first_by [] old first second present fits are absent = absurd cc
first_by (kind ∷ kinds) old first second present fits are absent = (
  and_from (is_of_kind kind first) (are_of_kinds kinds (second ∷ [])) fits (and_both (is_of_kind kind old) (are_of_kinds kinds (second ∷ [])) are).1,
  and_from (is_present kind || first == 0) (absent_are_zero kinds (second ∷ [])) (or_left (is_present kind) (first == 0) present)
      (and_both (is_present kind || old == 0) (absent_are_zero kinds (second ∷ [])) absent).1,
)

pub other_first : (shape : Shape) (old first second : ℕ) → AreHandlesOf shape old second → first < 2 ^ 32
    → is_present (get_or shape.row.handles 0 Absent) ≡ true → is_of_kind (get_or shape.row.handles 0 Absent) first ≡ true → AreHandlesOf shape first second
other_first shape old first second are small present fits =
    let both = first_by shape.row.handles old first second present fits are.kinds are.absent in
    record { first_fits = small; second_fits = are.second_fits; kinds = both.0; absent = both.1 }
