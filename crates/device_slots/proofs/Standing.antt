-- What stands in the place of a command's handles.
use Rattle.std.proofs.Common.{◌≡◌, ℕ, Bool, true, false, refl}
use Rattle.std.specs.Prelude.{not, Option, Some, None, ◌==◌, ◌&&◌, if◌then◌else◌}
use Rattle.std.proofs.lemmas.Bool.{cond_both, and_from, eq-eqb}
use Rattle.tab_spec.specs.declared.Kind.{Kind}
use Rattle.tab_spec.specs.declared.TheConstants.{HT_TRANSIENT}
use Rattle.tab_spec.specs.Admission.{is_session_handle}
use Rattle.tab_spec.specs.Shape.{octet_of, is_present, is_session_octet}
use Rattle.tab_spec.specs.Object.{Object}
use Rattle.tab_spec.specs.Session.{Session}
use Rattle.effect_spec.specs.Operands.{object_operand, Operand, absent, plain, is_operand, session_operand, operand_by}

there_by : (test : Bool) → not test ≡ false → test ≡ true
there_by true is = refl
there_by false is = cc

plain_stands : (kind : Kind) (handle : ℕ) → is_present kind ≡ true → is_operand kind handle (plain handle) ≡ true
plain_stands kind handle there = and_from (is_present kind) (handle == handle) there (eq-eqb handle handle refl)

held_stands : (kind : Kind) (handle : ℕ) (held : Option Object) → is_present kind ≡ true → octet_of handle == HT_TRANSIENT ≡ true
    → is_operand kind handle (object_operand handle held) ≡ true
held_stands kind handle None there transient = plain_stands kind handle there
held_stands kind handle (Some o) there transient = and_from (is_present kind) (octet_of handle == HT_TRANSIENT) there transient

session_stands : (kind : Kind) (handle : ℕ) (found : Option Session) → is_present kind ≡ true → is_session_octet (octet_of handle) ≡ true
    → is_operand kind handle (session_operand handle found) ≡ true
session_stands kind handle None there session = plain_stands kind handle there
session_stands kind handle (Some s) there session =
    and_from (is_present kind && handle == handle) (is_session_octet (octet_of handle))
    (and_from (is_present kind) (handle == handle) there (eq-eqb handle handle refl)) session

pub stands_for : (objects : ℕ → Option Object) (sessions : ℕ → Option Session) (kind : Kind) (handle : ℕ)
    → is_operand kind handle (operand_by objects sessions kind handle) ≡ true
stands_for objects sessions kind handle =
    let held = object_operand handle (objects handle) in
    let session = session_operand handle (sessions handle) in
    let Stands : Operand → Type 0 = λ o. is_operand kind handle o ≡ true in
    cond_both (not (is_present kind)) absent
    (if octet_of handle == HT_TRANSIENT then held else if is_session_handle handle then session else plain handle) Stands (λ gone. gone)
    (λ here.
    let there : is_present kind ≡ true = there_by (is_present kind) here in
    cond_both (octet_of handle == HT_TRANSIENT) held (if is_session_handle handle then session else plain handle) Stands
    (held_stands kind handle (objects handle) there)
    (λ other. cond_both (is_session_handle handle) session (plain handle) Stands
    (session_stands kind handle (sessions handle) there)
    (λ neither. plain_stands kind handle there)))
