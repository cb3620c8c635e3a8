-- Other handles for a command, in place of its own.
use Rattle.std.specs.Prelude.{◌≡◌, ◌<◌, ◌^◌, ◌==◌, ◌||◌, ◌&&◌, ℕ, Bool, true, false, List, [], ◌∷◌, take, None}
use Rattle.std.specs.List.{AllByRecursion}
use Rattle.tab_spec.specs.declared.Auth.{Auth}
use Rattle.tab_spec.specs.declared.TheConstants.{RS_PW}
use Rattle.tab_spec.specs.declared.Kind.{Kind}
use Rattle.tab_spec.specs.declared.Shape.{Shape}
use Rattle.tab_spec.specs.declared.Admitted.{Admitted}
use Rattle.tab_spec.specs.Shape.{are_of_kinds, is_present}
use Rattle.tab_spec.specs.Admission.{Tables, missing_handle, missing_session, object_too_many, repeated_session}

-- each of these authorizations is a password
abbrev pub ArePasswords : List Auth → Type 0
ArePasswords auths = AllByRecursion (λ auth. (auth.session == RS_PW) ≡ true) auths

-- whether the handles are 0 that a command doesn't have
abbrev pub absent_are_zero : List Kind → List ℕ → Bool
absent_are_zero [] handles = true
absent_are_zero (kind ∷ kinds) [] = false
absent_are_zero (kind ∷ kinds) (handle ∷ handles) = (is_present kind || handle == 0) && absent_are_zero kinds handles

-- the shape with these handles
abbrev pub handled : Shape → ℕ → ℕ → Shape
handled shape first second = record shape { handles = first ∷ second ∷ [] }

-- the same of what was admitted
abbrev pub admitted_handled : Admitted → ℕ → ℕ → Admitted
admitted_handled a first second = record a { shape = handled a.shape first second }

-- two handles that a command of this shape may have
pub record AreHandlesOf (shape : Shape) (first second : ℕ) : Type 0 where
  pub first_fits : first < 2 ^ 32
  pub second_fits : second < 2 ^ 32
  pub kinds : are_of_kinds shape.row.handles (first ∷ second ∷ []) ≡ true
  pub absent : absent_are_zero shape.row.handles (first ∷ second ∷ []) ≡ true

-- these handles and the sessions of the command are there, each session is named once, and there is room for its object
pub record HandlesAreThere (tables : Tables) (bytes : List ℕ) (a : Admitted) (first second : ℕ) : Type 0 where
  pub handles : missing_handle tables 0 (first ∷ second ∷ []) ≡ None
  pub sessions : missing_session tables 0 (take a.auths.count a.auths.auths) ≡ None
  pub once : repeated_session (first ∷ second ∷ []) 1 (take a.auths.count a.auths.auths) ≡ None
  pub room : object_too_many tables a.shape bytes ≡ None
