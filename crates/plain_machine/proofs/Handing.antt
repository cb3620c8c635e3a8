-- Contexts that are handed out, and taken back.
use Rattle.std.proofs.Common.{◌≡◌, ◌+◌, ℕ, true, List, [], ◌++◌, ◌-◌, Bool, false, length, take, drop, set, refl, ap, subst, ◌∙◌, arith}
use Rattle.std.specs.Prelude.{Option, Some, None, MatchOption, if◌then◌else◌}
use Rattle.std.specs.Int.{w32, to_be_bytes}
use Rattle.std.proofs.lemmas.Grind.{common_steps}
use Rattle.tab_spec.specs.declared.TheConstants.{RC_1, RC_HANDLE, RC_P, RC_SUCCESS, ST_NO_SESSIONS}
use Rattle.tab_spec.specs.Admission.{is_session_handle}
use Rattle.tab_spec.specs.Object.{Object}
use Rattle.tab_spec.specs.Reply.{response}
use Rattle.tab_spec.specs.Session.{Session}
use Rattle.tab_spec.specs.Shape.{number_of_session}
use Rattle.effect_spec.specs.Contexts.{object_context, session_context}
use Rattle.history_spec.specs.Entry.{without}
use Rattle.world_spec.specs.World.{ClientState, ClientStep, Owned, is_handed, may_hand_out, object_handed, own_place, refused_step, saved_place, session_handed, session_taken}
use Rattle.plain_machine.specs.Owners.{saved_as}

-- ---- handed out

pub object_hands : (state : ClientState) (found : Option Object) (sequence : ℕ) (o : Object) (reply : List ℕ) → found ≡ Some o
    → may_hand_out state.object_sequence sequence ≡ true
    → reply ≡ response ST_NO_SESSIONS RC_SUCCESS (object_context state.persist.seed sequence o)
    → object_handed state found sequence ≡ Some (record state { object_sequence = sequence + 1 }, reply)
object_hands state found sequence o reply held may whole = rw (held, may, whole) refl

pub session_hands : (client : ℕ) (state : ClientState) (handle : ℕ) (found : Option Session) (sequence : ℕ) (s : Session) (context reply : List ℕ)
    (sessions : List (Option Owned)) → found ≡ Some s → may_hand_out state.session_sequence sequence ≡ true
    → context ≡ session_context state.persist.seed handle sequence s → reply ≡ response ST_NO_SESSIONS RC_SUCCESS context
    → sessions ≡ set state.sessions (number_of_session handle) (saved_place client handle s context)
    → session_handed client state handle found sequence
    ≡ Some (record state { sessions = sessions; session_sequence = sequence + 1 }, reply)
session_hands client state handle found sequence s context reply sessions held may is whole placed =
    rw (held, may, placed, whole, is) refl

-- the bytes behind the header of a response are the context
pub context_cut : (begun context out cut kept : List ℕ) → begun ≡ response ST_NO_SESSIONS RC_SUCCESS [] → out ≡ begun ++ context
    → cut ≡ take (length out - 10) (drop 10 out) → kept ≡ cut → kept ≡ context
context_cut begun context out cut kept header sealed behind is = is ∙ behind ∙ rw (sealed, header) (grind (arith, common_steps))

-- what is kept of bytes that fit
pub kept_by : (found : Option (List ℕ)) (kept bytes : List ℕ) (P Q : Type 0) → found ≡ Some kept → MatchOption found P (λ o. Q × (o ≡ bytes))
    → kept ≡ bytes
kept_by found kept bytes P Q is told = (subst (λ (o : Option (List ℕ)). MatchOption o P (λ k. Q × (k ≡ bytes))) is told).1

-- ---- taken back

pub session_back : (client : ℕ) (state : ClientState) (handle : ℕ) (bytes : List ℕ) (found : Option Owned) (s : Session) (sessions : List (Option Owned))
    (left reply : List ℕ) → saved_as bytes found ≡ Some s → sessions ≡ set state.sessions (number_of_session handle) (own_place client handle s)
    → left ≡ without (number_of_session handle) state.left → reply ≡ response ST_NO_SESSIONS RC_SUCCESS (to_be_bytes w32 handle)
    → session_taken client state handle bytes found ≡ (record state { sessions = sessions; left = left }, reply)
session_back client state handle bytes None s sessions left reply is placed out told = absurd cc
session_back client state handle bytes (Some place) s sessions left reply is placed out told =
    back_by (is_handed bytes place.handed) place.session is
  where
    back_by : (handed : Bool) (own : Session) → (if handed then Some own else None) ≡ Some s
        → (if handed then (
          record state {
            sessions = set state.sessions (number_of_session handle) (own_place client handle own);
            left = without (number_of_session handle) state.left;
          },
          response ST_NO_SESSIONS RC_SUCCESS (to_be_bytes w32 handle),
        ) else refused_step state (RC_HANDLE + RC_P + RC_1))
        ≡ (record state { sessions = sessions; left = left }, reply)
    back_by true own is = let same : own ≡ s = cc in rw (placed, out, told, same) refl
    back_by false own is = absurd cc

-- the handle is a session's
pub session_handle : (handle : ℕ) (taken other : ClientStep) → is_session_handle handle ≡ true → (if is_session_handle handle then taken else other) ≡ taken
session_handle handle taken other is = ap (λ (b : Bool). if b then taken else other) is
