-- The effect of a command whose handles stand for themselves.
use Rattle.std.proofs.Common.{◌≡◌, ℕ, Bool, true, false, List, drop, refl}
use Rattle.std.specs.Prelude.{None, ◌==◌, ◌||◌, get_or}
use Rattle.std.proofs.lemmas.Bool.{cond_both}
use Rattle.tab_spec.specs.declared.Auths.{Auths}
use Rattle.tab_spec.specs.declared.Kind.{Kind}
use Rattle.tab_spec.specs.declared.Kind.TheVariants.{Absent}
use Rattle.tab_spec.specs.declared.Shape.{Shape}
use Rattle.tab_spec.specs.declared.TheConstants.{CC_CREATE_PRIMARY, CC_START_AUTH_SESSION}
use Rattle.tab_spec.specs.Persist.{Persist}
use Rattle.tab_spec.specs.Shape.{is_present}
use Rattle.effect_spec.specs.Operands.{Operand, absent, object_in, plain, plain_operand, plain_operands, session_in}
use Rattle.effect_spec.specs.Effect.{effect_in, effect_row}
use Rattle.fx_table.specs.Views.{creates, plain_handle, shared_row}

-- ---- what stands for itself

no_session : (kind : Kind) (handle : ℕ) → session_in (plain_operand kind handle) ≡ None
no_session kind handle =
    cond_both (is_present kind) (plain handle) absent (λ (o : Operand). session_in o ≡ None) (λ there. refl) (λ gone. refl)

no_object : (kind : Kind) (handle : ℕ) → object_in (plain_operand kind handle) ≡ None
no_object kind handle =
    cond_both (is_present kind) (plain handle) absent (λ (o : Operand). object_in o ≡ None) (λ there. refl) (λ gone. refl)

-- ---- its row

neither : (a b : Bool) → (a || b) ≡ false → (a ≡ false) × (b ≡ false)
neither false b is = (refl, is)
neither true b is = absurd cc

pub row_of_shared : (persist : Persist) (shape : Shape) (auths : Auths) (bytes : List ℕ) (first second : ℕ) → creates shape.row.code ≡ false
    → first ≡ plain_handle (get_or shape.row.handles 0 Absent) (get_or shape.handles 0 0)
    → second ≡ plain_handle (get_or shape.row.handles 1 Absent) (get_or shape.handles 1 0)
    → effect_in persist (plain_operands shape) shape auths bytes
    (effect_row shape.row.code persist (plain_operands shape).handles (drop auths.params bytes))
    ≡ shared_row persist shape auths bytes first second
row_of_shared persist shape auths bytes first second none first_is second_is =
    let (primary, session) = neither (shape.row.code == CC_CREATE_PRIMARY) (shape.row.code == CC_START_AUTH_SESSION) none in
    rw (
      no_session (get_or shape.row.handles 0 Absent) (get_or shape.handles 0 0),
      no_session (get_or shape.row.handles 1 Absent) (get_or shape.handles 1 0),
      no_object (get_or shape.row.handles 0 Absent) (get_or shape.handles 0 0),
      primary,
      session,
      first_is,
      second_is,
    ) refl
