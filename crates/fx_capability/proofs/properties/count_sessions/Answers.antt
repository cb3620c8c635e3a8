use Rattle.std.proofs.Common.{◌≡◌, true, refl, arith}
use Rattle.effect_spec.specs.Capabilities.{Listed}
use Rattle.fx_capability.specs.Lists.{rises_from, session_numbers}
use Rattle.fx_capability.specs.Views.{listed_of}
use Rattle.fx_capability.proofs.Sessions.{count_yes, count_no, count_skip, count_end, count_start, count_start_all}
use Rattle.fx_capability.proofs.properties.count_sessions.Goals as goal
use Rattle.fx_capability.proofs.properties.count_sessions.Goals.{in-Some+then-session, in-Some+else-session, in-None}

pub loop-number-init : goal.loop-number-init
loop-number-init g c =
    let sessions = g.H.Holdings.sessions c.args.held.now in
    record {
      in_use = omega (arith, count_start (λ (s : Listed). s.in_use) sessions);
      all = omega (arith, count_start_all sessions);
      few = omega arith;
      less = omega arith;
    }

pub loop-number-preserved : goal.loop-number-preserved
loop-number-preserved g c =
    let sessions = g.H.Holdings.sessions c.args.held.now in
    let n = c.loop-number.number in
    let before = c.loop-number.invariant in
    let rise : rises_from 0 (session_numbers sessions) ≡ true = g.met.H.Holdings.sessions_rise c.args.held.now in
    elim c.match-session.branch [
      | in-Some+then-session w ↦ record {
        in_use = omega (arith, w.in_use-is, before.in_use, count_yes (λ (s : Listed). s.in_use) n sessions (listed_of w.in-Some.session) rise w.in-Some.ensures w.if-session.true);
        all = omega (arith, w.all-is, before.all, count_yes (λ (s : Listed). true) n sessions (listed_of w.in-Some.session) rise w.in-Some.ensures refl);
        few = omega (arith, w.in_use-is, before.few);
        less = omega (arith, w.all-is, before.less);
      }
      | in-Some+else-session w ↦ record {
        in_use = omega (arith, w.in_use-is, before.in_use, count_no (λ (s : Listed). s.in_use) n sessions (listed_of w.in-Some.session) rise w.in-Some.ensures w.if-session.false);
        all = omega (arith, w.all-is, before.all, count_yes (λ (s : Listed). true) n sessions (listed_of w.in-Some.session) rise w.in-Some.ensures refl);
        few = omega (arith, w.in_use-is, before.few);
        less = omega (arith, w.all-is, before.less);
      }
      | in-None w ↦ record {
        in_use = omega (arith, w.in_use-is, before.in_use, count_skip (λ (s : Listed). s.in_use) n sessions rise w.in-None.ensures);
        all = omega (arith, w.all-is, before.all, count_skip (λ (s : Listed). true) n sessions rise w.in-None.ensures);
        few = omega (arith, w.in_use-is, before.few);
        less = omega (arith, w.all-is, before.less);
      }
    ]

pub returns-clause-in_use : goal.returns-clause-in_use
returns-clause-in_use g c =
    let held = c.args.held.now in
    omega (
      arith,
      c.loop-number.invariant.in_use,
      count_end (λ (s : Listed). s.in_use) 64 c.loop-number.number (g.H.Holdings.sessions held) (g.met.H.Holdings.sessions_fit held) c.loop-number-test.false,
    )

pub returns-clause-all : goal.returns-clause-all
returns-clause-all g c =
    let held = c.args.held.now in
    omega (
      arith,
      c.loop-number.invariant.all,
      count_end (λ (s : Listed). true) 64 c.loop-number.number (g.H.Holdings.sessions held) (g.met.H.Holdings.sessions_fit held) c.loop-number-test.false,
    )
