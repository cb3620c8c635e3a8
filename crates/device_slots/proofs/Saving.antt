-- A context that is saved.
use Rattle.std.proofs.Common.{◌≡◌, ◌+◌, ◌<◌, ◌≤◌, ℕ, List, [], ◌++◌, length, take, drop, Ok, Err, refl, ap, arith}
use Rattle.std.specs.Prelude.{Option, Result, IsOk, OnErr, Some}
use Rattle.std.proofs.lemmas.Bool.{lt-leb}
use Rattle.std.specs.Int.{w32, to_be_bytes}
use Rattle.tab_laws.proofs.Responses.{response_ended}
use Rattle.tab_spec.specs.declared.TheConstants.{ST_NO_SESSIONS, CONTEXT_LIMIT, RC_SUCCESS}
use Rattle.tab_spec.specs.Reply.{response}
use Rattle.effect_spec.specs.Contexts.{object_context, session_context}
use Rattle.tab_spec.specs.Object.{Object}
use Rattle.tab_spec.specs.Session.{Session}
use Rattle.tab_spec.specs.Shape.{octet_of, number_of_session}
use Rattle.device_spec.specs.Slots.{SlotState, saved, with_place, gap_of, object_saved, session_saved}

pub object_saves : (slots : SlotState) (found : Option Object) (reply : List ℕ) (o : Object) → found ≡ Some o
    → slots.object_counter < CONTEXT_LIMIT
    → reply ≡ response ST_NO_SESSIONS RC_SUCCESS (object_context slots.persist.seed slots.object_counter o)
    → object_saved slots found ≡ Ok (record slots { object_counter = slots.object_counter + 1 }, reply)
object_saves slots found reply o held few whole = rw (held, lt-leb CONTEXT_LIMIT slots.object_counter few, whole) refl

pub session_saves : (slots : SlotState) (handle : ℕ) (found : Option Session) (reply : List ℕ) (s : Session) → found ≡ Some s
    → slots.counter < CONTEXT_LIMIT → gap_of slots < slots.numbers.gap
    → reply ≡ response ST_NO_SESSIONS RC_SUCCESS (session_context slots.persist.seed handle slots.counter s)
    → session_saved slots handle found
    ≡ Ok (record (with_place slots (number_of_session handle) (saved (octet_of handle) slots.counter)) { counter = slots.counter + 1 }, reply)
session_saves slots handle found reply s held few near whole =
    rw (held, lt-leb CONTEXT_LIMIT slots.counter few, lt-leb slots.numbers.gap (gap_of slots) near, whole) refl

pub must_be_ok : {A E : Type 0} (r : Result A E) (P : Type 0) → OnErr r P → (P → ⊥) → IsOk r
must_be_ok (Ok x) P p not = refl
must_be_ok (Err e) P p not = absurd (not p)

-- there is room for a context after a header
pub has_room : (context begun : List ℕ) → begun ≡ response ST_NO_SESSIONS RC_SUCCESS [] → length context ≤ 370 → 4096 < length begun + length context → ⊥
has_room context begun header short long = absurd (omega (arith, ap length header))

-- the whole response
pub saved_reply : (begun context out reply : List ℕ) → begun ≡ response ST_NO_SESSIONS RC_SUCCESS [] → out ≡ begun ++ context
    → reply ≡ take 2 out ++ to_be_bytes w32 (length out) ++ drop 6 out → reply ≡ response ST_NO_SESSIONS RC_SUCCESS context
saved_reply begun context out reply header sealed ended = response_ended ST_NO_SESSIONS RC_SUCCESS begun context out reply header sealed ended
