use Rattle.std.proofs.Common.{◌≡◌, ◌+◌, ◌*◌, ◌<◌, ◌≤◌, drop, length}
use Rattle.std.specs.Prelude.{IfSome, Ok, min}
use Rattle.device_port.specs.Device.{sent_of}
use Rattle.device_port.specs.Own.{AsksSome}
use Rattle.session_swap.specs.Items.{AreFree, HasGapRoom, KeepsRecent, Moved, counter_of, full_flag, full_kept, gap_kept, renewal_gap, saved_items}
use Rattle.session_swap.proofs.Refreshed.{AreFew, Progress}
use Rattle.session_swap.proofs.gap.refresh_by.Given as goal

abbrev pub invariant-loop-renewed : goal.invariant-loop-renewed
invariant-loop-renewed g l =
    let D = g.D.Device in
    let C = g.C.Visits in
    let start = counter_of (D.seen l.fn.device).state in
    record {
      moved : Moved D.seen l.fn.device l.device l.fn.sessions l.sessions;
      room : HasGapRoom (D.seen l.device).state;
      progress : IfSome (D.seen l.device).state (λ slots. Progress slots l.sessions.items start l.most l.renewed);
      recent : IfSome (D.seen l.device).state (λ slots. KeepsRecent slots l.fn.sessions.items l.sessions.items);
      counter : counter_of (D.seen l.device).state ≤ start + l.renewed + 1;
      exact : IfSome (D.seen l.device).state (λ slots. slots.counter ≡ start + l.renewed + min l.renewed (full_flag (D.seen l.fn.device).state));
      free : 1 ≤ l.renewed → AreFree (D.seen l.device).state 1;
      first : l.renewed ≡ 0 → (l.device ≡ l.fn.device) × (l.sessions ≡ l.fn.sessions);
      still : gap_kept l.fn.sessions < renewal_gap l.fn.sessions.numbers → l.renewed ≡ 0;
      places : 1 ≤ l.renewed → length l.sessions.order < l.sessions.numbers.loaded;
      sent : sent_of (D.seen l.device) ≤ sent_of (D.seen l.fn.device) + 2 * l.renewed + min l.renewed 1;
      steps : C.count l.steps ≤ C.count l.fn.steps + 11 * l.renewed + 6 * min l.renewed 1;
      counted : C.count l.fn.steps + l.renewed * (5 * C.weight) ≤ C.count l.steps;
      order : l.sessions.order ≡ drop (min l.renewed (full_kept l.fn.sessions)) l.fn.sessions.order;
      few : 1 ≤ l.renewed → AreFew (saved_items l.fn.sessions.items) l.fn.sessions.numbers;
      asks : AsksSome {A = Unit {0}} D.CONTEXTS D.seen l.fn.device l.device (Ok tt);
    }
