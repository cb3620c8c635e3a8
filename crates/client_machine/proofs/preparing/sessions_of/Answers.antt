use Rattle.std.proofs.Common.{◌+◌, ◌++◌, ◌∷◌, [], List, ℕ, length, length-set, get_or, take, drop, ap, sym, ◌∙◌, arith}
use Rattle.std.specs.List.{filter}
use Rattle.tab_spec.specs.Admission.{is_session_handle}
use Rattle.client_machine.proofs.PreparedSessions.{handle_kept, handle_passed}
use Rattle.client_machine.proofs.preparing.sessions_of.Goals as goal
use Rattle.client_machine.proofs.preparing.sessions_of.Goals.{then-is_session_handle, else-is_session_handle}

pub loop-handle-preserved : goal.loop-handle-preserved
loop-handle-preserved c =
    let a = c.args.admitted.now in
    let handles : List ℕ = get_or a.shape.handles 0 0 ∷ get_or a.shape.handles 1 0 ∷ (get_or a.auths.auths 0 (record { session = 0; nonce = (0, 0); attributes = 0; hmac = (0, 0) })).session ∷ [] in
    let named = c.loop-handle.named in
    let count = c.loop-handle.count in
    let index = c.loop-handle.handle-index in
    let old = c.loop-handle.invariant in
    elim c.if-is_session_handle.branch [
      | then-is_session_handle w ↦ (
        omega (arith, w.count-is, old.0),
        ap length w.named-is ∙ length-set named count (get_or handles index 0) ∙ old.1,
        (λ i. take (w.count-is i) (w.named-is i) ++ filter is_session_handle (drop (index + 1) handles))
            ∙ handle_kept is_session_handle handles named index count (omega (arith, c.loop-handle-test.true)) (omega (arith, old.0, old.1, c.loop-handle-test.true))
            (sym c.is_session_handle.ensures ∙ w.if-is_session_handle.true) old.2,
      )
      | else-is_session_handle w ↦ (
        omega (arith, w.count-is, old.0),
        ap length w.named-is ∙ old.1,
        (λ i. take (w.count-is i) (w.named-is i) ++ filter is_session_handle (drop (index + 1) handles))
            ∙ handle_passed is_session_handle handles named index count (omega (arith, c.loop-handle-test.true)) (sym c.is_session_handle.ensures ∙ w.if-is_session_handle.false) old.2,
      )
    ]
