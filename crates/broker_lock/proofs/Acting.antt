-- What a pass knows after its turn.
use Rattle.std.proofs.Common.{◌≡◌, ◌⊎◌, ℕ, ◌<◌, Bool, true, false, List, [], ◌∷◌, ◌++◌, length, drop, Option, Ok, Err, refl, sym, ap, ◌∙◌, subst, ⊎_elim, arith}
use Rattle.std.proofs.lemmas.List.{append-nil, append_cancel_left}
use Rattle.atomic_table.specs.Seated.{TableId}
use Rattle.atomic_table.specs.Table.{Me}
use Rattle.history_spec.specs.Entry.{Entry, canceled_entry, clients_of, close_entry, open_entry}
use Rattle.broker_lock.specs.declared.calls.Done.{Done}
use Rattle.broker_lock.specs.declared.calls.Done.TheVariants as dones
use Rattle.broker_lock.specs.declared.calls.Job.{Job}
use Rattle.broker_lock.specs.declared.calls.Job.TheVariants as jobs
use Rattle.broker_lock.specs.declared.calls.OpenClientError.TheVariants as open_errors
use Rattle.broker_lock.specs.declared.calls.Told.TheVariants as tolds
use Rattle.broker_lock.specs.Known.{Fixed, HasJustKnown, IsLegalOver, Origin, knows, of_known}
use Rattle.broker_lock.specs.Pass.{Acts, Does, MayAsk, MayCall, PassView, done_wrong, pass_view}
use Rattle.broker_lock.specs.Serves.{IsAnswered, IsFailed, IsOpened, TellsWrong}
use Rattle.broker_lock.specs.Turn.{HasTurn, IsIdle, IsOrderly, MayAdd, MayEnterAs, MayGiveBack, no_entry, one_entry, raised, rested}
use Rattle.broker_lock.specs.View.{SeatView}
use Rattle.broker_lock.proofs.Adding.{order_more, own_more}
use Rattle.broker_lock.proofs.Beginnings.{drop_front}
use Rattle.broker_lock.proofs.Knowing.{decided, knows_its_own, knows_right}
use Rattle.broker_lock.proofs.Orderly.{may_call}

-- ---- what a call adds

-- a history that is followed by entries that its seat may add
pub record Adds (known before after : List Entry) : Type 0 where
  pub added : List Entry
  pub entered : after ≡ before ++ added
  pub may : MayAdd known before added

adds_nothing : (known before after : List Entry) → after ≡ before → Adds known before after
adds_nothing known before after same = record { added = []; entered = same ∙ sym (append-nil before); may = no_entry }

-- the entry of a command is one of its client
enters : (known before : List Entry) (began client number : ℕ) (bytes : List ℕ) (e : Entry) → IsAnswered client number bytes e ⊎ IsFailed began client number bytes e → knows known client ≡ true
    → MayEnterAs e.kind known before e
enters known before began client number bytes e cause k =
    ⊎_elim
    (λ (answered : IsAnswered client number bytes e). subst (λ (x : Entry). MayEnterAs x.kind known before x) (sym answered) k)
    (λ (failed : IsFailed began client number bytes e). subst (λ (x : Entry). MayEnterAs x.kind known before x) (sym failed.form) k)
    cause

pub adds : (known before after : List Entry) (fixed : Fixed) (job : Job) (bytes : List ℕ) (done : Done) (reply : List ℕ) → Does fixed before job bytes after done reply → MayAsk known job
    → Adds known before after
adds known before after fixed jobs.Open bytes (dones.Opened (Ok client)) reply does may =
    record { added = open_entry client ∷ []; entered = does.entered; may = one_entry (open_entry client) does.client_is }
adds known before after fixed jobs.Open bytes (dones.Opened (Err open_errors.Memory)) reply does may = adds_nothing known before after does.0
adds known before after fixed jobs.Open bytes (dones.Opened (Err (open_errors.JournalFull count most))) reply does may = adds_nothing known before after does.same
adds known before after fixed jobs.Open bytes (dones.Opened (Err open_errors.Answer)) reply does may = adds_nothing known before after does.0
adds known before after fixed (jobs.Command client number) bytes (dones.Told tolds.Entered) reply does may = record {
  added = does.e ∷ [];
  entered = does.entered;
  may = one_entry does.e (enters known before fixed.began client number bytes does.e does.cause may.0.client_known);
}
adds known before after fixed (jobs.Command client number) bytes (dones.Told tolds.Memory) reply does may = adds_nothing known before after does.0
adds known before after fixed (jobs.Command client number) bytes (dones.Told (tolds.JournalFull count most)) reply does may = adds_nothing known before after does.same
adds known before after fixed (jobs.Command client number) bytes (dones.Told tolds.Answer) reply does may = adds_nothing known before after does.0
adds known before after fixed (jobs.Cancel client number upto) bytes (dones.Told tolds.Entered) reply does may = record {
  added = canceled_entry client number upto bytes reply ∷ [];
  entered = does.entered;
  may = one_entry (canceled_entry client number upto bytes reply) may.0.client_known;
}
adds known before after fixed (jobs.Cancel client number upto) bytes (dones.Told tolds.Memory) reply does may = absurd does
adds known before after fixed (jobs.Cancel client number upto) bytes (dones.Told (tolds.JournalFull count most)) reply does may = adds_nothing known before after does.same
adds known before after fixed (jobs.Cancel client number upto) bytes (dones.Told tolds.Answer) reply does may = adds_nothing known before after does.0
adds known before after fixed (jobs.Close client) bytes (dones.Closed closed) reply does may =
    record { added = close_entry client ∷ []; entered = does.entered; may = one_entry (close_entry client) may.client_known }
adds known before after fixed jobs.Open bytes (dones.Told told) reply does may = absurd does
adds known before after fixed jobs.Open bytes (dones.Closed closed) reply does may = absurd does
adds known before after fixed (jobs.Command client number) bytes (dones.Opened opened) reply does may = absurd does
adds known before after fixed (jobs.Command client number) bytes (dones.Closed closed) reply does may = absurd does
adds known before after fixed (jobs.Cancel client number upto) bytes (dones.Opened opened) reply does may = absurd does
adds known before after fixed (jobs.Cancel client number upto) bytes (dones.Closed closed) reply does may = absurd does
adds known before after fixed (jobs.Close client) bytes (dones.Opened opened) reply does may = absurd does
adds known before after fixed (jobs.Close client) bytes (dones.Told told) reply does may = absurd does

-- the next client has no entry
next_is_new : (log : List Entry) (client : ℕ) → IsOrderly log → client ≡ (clients_of log).opened → knows log client ≡ false
next_is_new log client orderly next = ⊎_elim
    (λ (there : knows log client ≡ true). let below = orderly.below client there in absurd (omega (arith, next)))
    (λ (new : knows log client ≡ false). new)
    (decided (knows log client))

-- who was opened had none, and has the entry that was added
opens_one : (known before added after : List Entry) (fixed : Fixed) (job : Job) (bytes : List ℕ) (done : Done) (reply : List ℕ) (client : ℕ) → IsOrderly before → Does fixed before job bytes after done reply → after ≡ before ++ added
    → done ≡ dones.Opened (Ok client) → (knows before client ≡ false) × (knows (known ++ added) client ≡ true)
opens_one known before added after fixed jobs.Open bytes done reply client orderly does entered is =
    let opened : IsOpened fixed.limit before after client = subst (λ (d : Done). Does fixed before jobs.Open bytes after d reply) is does in
    let one : added ≡ open_entry client ∷ [] = append_cancel_left before added (open_entry client ∷ []) (sym entered ∙ opened.entered) in
    (next_is_new before client orderly opened.client_is, knows_right client known added (ap (λ (l : List Entry). knows l client) one ∙ knows_its_own (open_entry client) []))
opens_one known before added after fixed (jobs.Command n number) bytes done reply client orderly does entered is = absurd (subst (λ (d : Done). Does fixed before (jobs.Command n number) bytes after d reply) is does)
opens_one known before added after fixed (jobs.Cancel n number upto) bytes done reply client orderly does entered is = absurd (subst (λ (d : Done). Does fixed before (jobs.Cancel n number upto) bytes after d reply) is does)
opens_one known before added after fixed (jobs.Close n) bytes done reply client orderly does entered is = absurd (subst (λ (d : Done). Does fixed before (jobs.Close n) bytes after d reply) is does)

-- ---- the turn

module _ {B : Type 0} (history : B → List Entry) (fixed : B → Fixed) (wrong : B → Bool) where
  pub may_call_now : (value : B) (v now : SeatView) (job : Job) → HasTurn history fixed wrong value v now → MayAsk v.known job → MayCall (history value) job
  may_call_now value v now job turn may = may_call v.known (history value) job turn.orderly turn.own may

  pub may_give_back : (value after : B) (v now : SeatView) (job : Job) (bytes : List ℕ) (done : Done) (reply : List ℕ) → IsIdle v → HasTurn history fixed wrong value v now
      → Does (fixed value) (history value) job bytes (history after) done reply → fixed after ≡ fixed value → TellsWrong (wrong value) (wrong after) (done_wrong done) → MayAsk v.known job → MayGiveBack history fixed wrong now after
  may_give_back value after v now job bytes done reply idle turn does same tells may =
      let a = adds v.known (history value) (history after) (fixed value) job bytes done reply does may in
      subst (λ (u : SeatView). MayGiveBack history fixed wrong u after) (sym turn.now) record {
        some_part = idle.some_part;
        acting = refl;
        added = a.added;
        entered = a.entered;
        may = a.may;
        fixed_is = same ∙ turn.fixed_is;
        told = tells.1;
      }

  pub acted : (legal : Origin → List Entry → Type 0) (lock at : TableId) (value after : B) (v now : SeatView) (me : Me (Option B) SeatView) (old : PassView) (job : Job) (bytes : List ℕ) (done : Done) (reply : List ℕ) → IsIdle v → HasTurn history fixed wrong value v now
      → Does (fixed value) (history value) job bytes (history after) done reply → fixed after ≡ fixed value → TellsWrong (wrong value) (wrong after) (done_wrong done) → IsLegalOver legal (fixed after).base (history after) → MayAsk v.known job
      → me ≡ (rested (raised now (history after) (wrong after)), []) → pass_view lock v ≡ old → at ≡ lock → Acts legal old job bytes done reply (pass_view at me.0)
  acted legal lock at value after v now me old job bytes done reply idle turn does same tells shown may back old_is same_lock =
      subst (λ (p : PassView). Acts legal p job bytes done reply (pass_view at me.0)) old_is record {
        before = history value;
        added = a.added;
        seen = turn.seen;
        does = subst (λ (l : List Entry). Does v.fixed (history value) job bytes l done reply) (sym front) (subst (λ (f : Fixed). Does f (history value) job bytes (history after) done reply) turn.fixed_is does);
        front = front ∙ a.entered;
        known = known;
        opened = λ client is.
            let one = opens_one v.known (history value) a.added (history after) (fixed value) job bytes done reply client turn.orderly does a.entered is in
            (one.0, ap (λ (l : List Entry). knows l client) known ∙ one.1);
        order = known ∙ order_more v.known v.front (history value) a.added idle.order turn.seen turn.orderly turn.own a.may
            ∙ sym (ap (λ (t : List Entry × List Entry). of_known t.0 t.1) (both known (front ∙ a.entered)));
        own = subst (λ (l : List Entry). HasJustKnown l me.0.front) (sym known) (subst (HasJustKnown (v.known ++ a.added)) (sym (front ∙ a.entered)) (own_more v.known (history value) a.added turn.orderly turn.own a.may));
        is_legal = subst (λ (l : List Entry). IsLegalOver legal me.0.fixed.base l) (sym front) (subst (λ (f : Fixed). IsLegalOver legal f.base (history after)) (same ∙ turn.fixed_is ∙ sym fixed_now) shown);
        lock = same_lock;
        fixed = fixed_now;
        parts = parts_now;
        wrong = wrong_now ∙ tells.0;
        still = λ knew. wrong_now ∙ tells.1 (turn.told knew);
      }
    where
      a : Adds v.known (history value) (history after)
      a = adds v.known (history value) (history after) (fixed value) job bytes done reply does may

      now_is : me.0 ≡ rested (raised (record v { front = history value; acting = true; wrong = wrong value }) (history after) (wrong after))
      now_is = ap (λ (m : Me (Option B) SeatView). m.0) back ∙ ap (λ (u : SeatView). rested (raised u (history after) (wrong after))) turn.now

      front : me.0.front ≡ history after
      front = ap (λ (u : SeatView). u.front) now_is

      known : me.0.known ≡ v.known ++ a.added
      known = ap (λ (u : SeatView). u.known) now_is ∙ ap (λ (l : List Entry). v.known ++ l) (ap (drop (length (history value))) a.entered ∙ drop_front (history value) a.added)

      both : {one other first second : List Entry} → one ≡ other → first ≡ second → ◌≡◌ {A = List Entry × List Entry} (one, first) (other, second)
      both left right = λ i. (left i, right i)

      fixed_now : me.0.fixed ≡ v.fixed
      fixed_now = ap (λ (u : SeatView). u.fixed) now_is

      wrong_now : me.0.wrong ≡ wrong after
      wrong_now = ap (λ (u : SeatView). u.wrong) now_is

      parts_now : me.0.parts ≡ v.parts
      parts_now = ap (λ (u : SeatView). u.parts) now_is

  pub idle_again : (value after : B) (v now : SeatView) (me : Me (Option B) SeatView) → IsIdle v → HasTurn history fixed wrong value v now → me ≡ (rested (raised now (history after) (wrong after)), [])
      → me.0.known ≡ of_known me.0.known me.0.front → IsIdle me.0 × (me.1 ≡ [])
  idle_again value after v now me idle turn back order = (
    record {
      some_part = subst (λ (u : SeatView). 0 < u.parts) (sym now_is) idle.some_part;
      resting = ap (λ (u : SeatView). u.acting) now_is;
      order = order;
    },
    ap (λ (m : Me (Option B) SeatView). m.1) back,
  )
    where
      now_is : me.0 ≡ rested (raised (record v { front = history value; acting = true; wrong = wrong value }) (history after) (wrong after))
      now_is = ap (λ (m : Me (Option B) SeatView). m.0) back ∙ ap (λ (u : SeatView). rested (raised u (history after) (wrong after))) turn.now
