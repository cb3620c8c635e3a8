use Rattle.std.proofs.Common.{◌≡◌, ◌≤◌, arith, sym, ◌∙◌}
use Rattle.std.specs.Prelude.{Some, None, ⊤}
use Rattle.std.proofs.lemmas.Option.{MatchOption-at_some}
use Rattle.tab_spec.specs.declared.Auth.{Auth}
use Rattle.tab_spec.specs.Auths.{auth_at}
use Rattle.tab_wire.proofs.Filling.{filling_more, filling_full, filling_breaks, filling_ends}
use Rattle.tab_wire.proofs.area.filled.Goals as goal

pub returns-then-count-eq-MOST_AUTHS-clause-value : goal.returns-then-count-eq-MOST_AUTHS-clause-value
returns-then-count-eq-MOST_AUTHS-clause-value c = sym (filling_full _ _ _ _ _ _ c.loop-at.invariant c.loop-at-test.true c.if-count-eq-MOST_AUTHS.true)

pub returns-in_err-auth-clause-value : goal.returns-in_err-auth-clause-value
returns-in_err-auth-clause-value c =
    let none : auth_at c.args.bytes.now c.args.end c.loop-at.at ≡ None = grind arith in
    let fails = filling_breaks _ _ _ _ _ _ c.loop-at.invariant c.loop-at-test.true none in
    rw fails (grind arith)

pub loop-at-preserved : goal.loop-at-preserved
loop-at-preserved c =
    let told : c.authorization.result ≡ Some c.in_ok-auth.auth = grind arith in
    let is : auth_at c.args.bytes.now c.args.end c.loop-at.at ≡ Some c.in_ok-auth.auth = sym c.authorization.ensures.value ∙ told in
    let within : c.in_ok-auth.auth.hmac.1 ≤ c.args.end = MatchOption-at_some ⊤ (λ (auth : Auth). auth.hmac.1 ≤ c.args.end) c.in_ok-auth.auth told c.authorization.ensures.within in
    rw c.from.ensures (filling_more _ _ _ _ _ _ _ c.loop-at.invariant c.loop-at-test.true c.if-count-eq-MOST_AUTHS.false is within)

pub returns-clause-value : goal.returns-clause-value
returns-clause-value c = sym (filling_ends _ _ _ _ _ _ c.loop-at.invariant c.loop-at-test.false)
