-- The context of a session is opened as the session. What is opened is a session, and no other bytes are opened as it than those with the
-- right integrity value.
use Rattle.std.proofs.Common.{◌≡◌, ℕ, ◌^◌, ◌<◌, ◌≤◌, List, [], length, Some, None, Ok, Err, refl, ap, subst, sym, ◌∙◌, arith}
use Rattle.std.specs.Prelude.{◌==◌, Option, IfSome}
use Rattle.std.proofs.lemmas.Bool.{cond_both, eqb-true}
use Rattle.std.proofs.lemmas.List.{append-nil}
use Rattle.tab_spec.specs.declared.TheConstants.{RH_NULL}
use Rattle.tab_spec.specs.Values.{AreBytes, Reading}
use Rattle.tab_spec.specs.Session.{Session, session_bytes, session_of, IsSession}
use Rattle.effect_spec.specs.Contexts.{Context, context_bytes, context_of, opened_context, session_context, whole_session, session_within, opened_session}
use Rattle.tab_laws.proofs.Objects.{nothing_behind}
use Rattle.tab_laws.proofs.Sessions.{session_again, session_small, session_read, session_spelling}
use Rattle.device_laws.proofs.Contexts.{Holds, context_fronts, context_length, context_opened, opened_holds}

pub session_context_small : (seed : List ℕ) (handle sequence : ℕ) (s : Session) → IsSession s → length (session_context seed handle sequence s) ≤ 128
session_context_small seed handle sequence s is =
    omega (arith, context_length seed sequence handle RH_NULL (session_bytes s), session_small s is)

-- the whole of a session's bytes
session_whole : (s : Session) (plain : List ℕ) → IsSession s → plain ≡ session_bytes s → whole_session (session_of plain) ≡ Some s
session_whole s plain is bytes =
    ap whole_session (ap session_of (bytes ∙ sym (append-nil (session_bytes s))) ∙ session_again s [] is)

pub session_opened : (seed : List ℕ) (handle sequence : ℕ) (s : Session) → IsSession s → handle < 2 ^ 32 → sequence < 2 ^ 64
    → opened_session seed (session_context seed handle sequence s) ≡ Some s
unfolding opened_session
session_opened seed handle sequence s is handle_fits fits =
    let small : length (session_bytes s) < 2 ^ 15 = omega (arith, session_small s is) in
    ap session_within (context_opened seed sequence handle RH_NULL (session_bytes s) fits handle_fits (omega arith) small)
    ∙ session_whole s (session_bytes s) is refl

-- the bytes are a context of the session
abbrev pub HoldsSession : List ℕ → List ℕ → Session → Type 0
HoldsSession seed bytes s = (c : Context) × (bytes ≡ context_bytes seed c.sequence c.saved_handle c.hierarchy (session_bytes s))

-- the session is one of this profile, and the bytes are its context
abbrev Opens : List ℕ → List ℕ → Session → Type 0
Opens seed bytes s = IsSession s × HoldsSession seed bytes s

session_held : (seed bytes plain : List ℕ) (s : Session) → Holds seed bytes plain → plain ≡ session_bytes s → HoldsSession seed bytes s
session_held seed bytes plain s holds is =
    let c = holds.0 in
    (c, holds.1.0 ∙ ap (context_bytes seed c.sequence c.saved_handle c.hierarchy) is)

whole_held : (seed bytes plain : List ℕ) (r : Reading Session) → Holds seed bytes plain → r ≡ session_of plain
    → IfSome (whole_session r) (Opens seed bytes)
whole_held seed bytes plain (Err code) holds is = tt
whole_held seed bytes plain (Ok read) holds is =
    cond_both (length read.1 == 0) (Some read.0) None (λ found. IfSome found (Opens seed bytes))
    (λ whole. (
      session_read plain read.0 read.1 holds.1.1 (sym is),
      session_held seed bytes plain read.0 holds
          (session_spelling plain read.0 read.1 holds.1.1 (sym is)
          ∙ nothing_behind (session_bytes read.0) read.1 (eqb-true (length read.1) 0 whole)),
    ))
    (λ more. tt)

within_held : (seed bytes : List ℕ) (plain : Option (List ℕ)) → IfSome plain (Holds seed bytes)
    → IfSome (session_within plain) (Opens seed bytes)
within_held seed bytes None holds = tt
within_held seed bytes (Some plain) holds = whole_held seed bytes plain (session_of plain) holds refl

if_found : (P : Session → Type 0) (found : Option Session) (s : Session) → IfSome found P → found ≡ Some s → P s
if_found P found s all is = subst (λ found. IfSome found P) is all

opens : (seed bytes : List ℕ) (s : Session) → AreBytes bytes → opened_session seed bytes ≡ Some s → Opens seed bytes s
unfolding opened_session
opens seed bytes s all is =
    if_found (Opens seed bytes) (session_within (opened_context seed bytes)) s
    (within_held seed bytes (opened_context seed bytes) (opened_holds seed bytes (context_of bytes) all (context_fronts bytes all))) is

pub session_opened_is : (seed bytes : List ℕ) (s : Session) → AreBytes bytes → opened_session seed bytes ≡ Some s → IsSession s
session_opened_is seed bytes s all is = (opens seed bytes s all is).0

pub session_opened_spelling : (seed bytes : List ℕ) (s : Session) → AreBytes bytes → opened_session seed bytes ≡ Some s
    → HoldsSession seed bytes s
session_opened_spelling seed bytes s all is = (opens seed bytes s all is).1
