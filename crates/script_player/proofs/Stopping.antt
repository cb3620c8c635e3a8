-- What a run leaves where a stop came at a command.
use Rattle.std.proofs.Common.{◌≡◌, ◌<◌, ◌+◌, ℕ, List, [], ◌∷◌, ◌++◌, take, drop, Option, Some, None, inl, inr, refl, sym, ap, subst, ◌∙◌, append_assoc, arith, length-drop}
use Rattle.std.specs.Prelude.{◌↔◌, Bool, length, IsTrue}
use Rattle.std.proofs.lemmas.List.{append-nil, take-append-drop}
use Rattle.tab_spec.specs.declared.TheConstants.{RC_COMMAND_SIZE}
use Rattle.tab_spec.specs.Reply.{error_reply}
use Rattle.link_port.specs.Port.{with_more}
use Rattle.script_player.proofs.Writing.{with_more-append}
use Rattle.history_spec.specs.Entry.{Entry}
use Rattle.history_spec.specs.Told.{Limits}
use Rattle.script_spec.specs.Calls.{Call, command as run_command, bad_size, closing}
use Rattle.script_spec.specs.Plays.{reply_line}
use Rattle.script_lines.specs.declared.label.Label.{Label}
use Rattle.script_player.specs.declared.stop.Stop.{Stop}
use Rattle.script_player.specs.declared.stop.Stop.TheVariants as stops
use Rattle.broker_lock.specs.declared.calls.Told.{Told as ToldOf}
use Rattle.broker_lock.specs.declared.calls.Told.TheVariants as tolds
use Rattle.script_lines.specs.Labels.{LabelsView, label_in, counted, replaced}
use Rattle.script_player.specs.Play.{Fits, Leads}
use Rattle.script_player.specs.Stops.{Unanswered, CutsLastLine, WritesByStop, HasLast, StoppedIn}
use Rattle.script_player.proofs.Entries.{ToldAs}
use Rattle.script_player.proofs.Playing.{leads_none, leads_bad, leads-told}

-- a front of a line, as a failed write leaves it
pub wrote_front : (label : ℕ) (reply bytes : List ℕ) (written written_new : Option (List ℕ)) (k : ℕ) → bytes ≡ reply_line label reply → k < length bytes → written_new ≡ with_more written (take k bytes)
    → CutsLastLine (reply_line label reply) written written_new
wrote_front label reply bytes written written_new k same short wrote = record {
  before = [];
  label = label;
  reply = reply;
  front = take k bytes;
  rest = drop k bytes;
  all_is = refl;
  line_is = sym (take-append-drop k bytes ∙ same);
  short = rw length-drop (omega (arith, short));
  written_is = wrote;
}

-- what a stop leaves of bytes, behind others that were written
pub writes_behind : (stop : Stop) (first second : List ℕ) (start written written_new : Option (List ℕ)) → written ≡ with_more start first → WritesByStop stop second written written_new → WritesByStop stop (first ++ second) start written_new
writes_behind stops.End first second start written written_new is writes = absurd writes
writes_behind (stops.BadLine n) first second start written written_new is writes = absurd writes
writes_behind stops.Memory first second start written written_new is writes = absurd writes
writes_behind (stops.Full n) first second start written written_new is writes = absurd writes
writes_behind (stops.Input n) first second start written written_new is writes = absurd writes
writes_behind (stops.Output n) first second start written written_new is writes = record {
  before = first ++ writes.before;
  label = writes.label;
  reply = writes.reply;
  front = writes.front;
  rest = writes.rest;
  all_is = ap (λ (bytes : List ℕ). first ++ bytes) writes.all_is ∙ sym (append_assoc first writes.before (reply_line writes.label writes.reply));
  line_is = writes.line_is;
  short = writes.short;
  written_is = writes.written_is ∙ ap (λ (w : Option (List ℕ)). with_more w (writes.before ++ writes.front)) is ∙ with_more-append start first (writes.before ++ writes.front)
      ∙ ap (with_more start) (sym (append_assoc first writes.before writes.front));
}
writes_behind stops.Answer first second start written written_new is writes = writes ∙ ap (λ (w : Option (List ℕ)). with_more w second) is ∙ with_more-append start first second

-- a close is the last of the calls behind others too
pub has_last_behind : (stop : Stop) (done made : List Call) (last : Option Unanswered) (wrong : Bool) → HasLast stop made last wrong → HasLast stop (done ++ made) last wrong
has_last_behind stops.End done made last wrong has = has
has_last_behind (stops.BadLine n) done made last wrong has = has
has_last_behind stops.Memory done made last wrong has = has
has_last_behind (stops.Full n) done made last wrong has = has
has_last_behind (stops.Output n) done made last wrong has = has
has_last_behind (stops.Input n) done made last wrong has = has
has_last_behind stops.Answer done made last wrong (inl some) = inl some
has_last_behind stops.Answer done made last wrong (inr closes) =
    inr (done ++ closes.0, closes.1, ap (λ (cs : List Call). done ++ cs) closes.2 ∙ sym (append_assoc done closes.0 (closing closes.1 ∷ [])))

-- the command was made, and its reply line is what a stop leaves a front of, or all
stopped_behind_it : (limit : Limits) (told : ToldOf) (stop : Stop) (labels : LabelsView) (old new : List Entry) (x : Label) (command : List ℕ) (covered : Option ℕ) (reply : List ℕ) (written written_new : Option (List ℕ)) (wrong : Bool)
    → ToldAs limit told old new x.client (x.commands + 1) command covered reply → (told ≡ tolds.Answer → ⊥) → Fits labels old → label_in labels.present x.label ≡ Some x
    → HasLast stop (run_command x.label (x.commands + 1) command covered ∷ []) None wrong → WritesByStop stop (reply_line x.label reply) written written_new
    → StoppedIn limit stop (run_command x.label (x.commands + 1) command covered ∷ []) labels.present old (replaced (counted x) labels.present) new written written_new wrong
stopped_behind_it limit told stop labels old new x command covered reply written written_new wrong tells not_answer fits found has_last writes = record {
  made = run_command x.label (x.commands + 1) command covered ∷ [];
  last = None;
  left = [];
  calls_are = refl;
  more = reply_line x.label reply;
  leads = leads-told limit told labels old new x command covered reply tells not_answer fits found;
  writes = subst (λ (bytes : List ℕ). WritesByStop stop bytes written written_new) (sym (append-nil (reply_line x.label reply))) writes;
  has_last = has_last;
}

-- the command whose reply line is what a stop leaves a front of, or all
pub stopped_told : (limit : Limits) (told : ToldOf) (stop : Stop) (labels : LabelsView) (old new : List Entry) (x : Label) (command : List ℕ) (covered : Option ℕ) (reply : List ℕ) (written written_new : Option (List ℕ)) (wrong : Bool)
    → ToldAs limit told old new x.client (x.commands + 1) command covered reply → ((told ≡ tolds.Answer) ↔ IsTrue wrong) → Fits labels old → label_in labels.present x.label ≡ Some x
    → ((last : Unanswered) → IsTrue wrong → HasLast stop [] (Some last) wrong)
    → ((IsTrue wrong → ⊥) → HasLast stop (run_command x.label (x.commands + 1) command covered ∷ []) None wrong)
    → WritesByStop stop (reply_line x.label reply) written written_new
    → StoppedIn limit stop (run_command x.label (x.commands + 1) command covered ∷ []) labels.present old (replaced (counted x) labels.present) new written written_new wrong
stopped_told limit tolds.Answer stop labels old new x command covered reply written written_new wrong tells answer fits found with_last without_last writes =
    let last : Unanswered = record { label = x.label; number = x.commands + 1; bytes = command } in
    record {
      made = [];
      last = Some last;
      left = [];
      calls_are = ap (λ (c : Option ℕ). run_command x.label (x.commands + 1) command c ∷ []) tells.2;
      more = [];
      leads = rw tells.0 (leads_none limit labels.present old (counted x) x found refl);
      writes = subst (λ (bytes : List ℕ). WritesByStop stop (reply_line x.label bytes) written written_new) tells.1 writes;
      has_last = with_last last (answer.0 refl);
    }
stopped_told limit tolds.Entered stop labels old new x command covered reply written written_new wrong tells answer fits found with_last without_last writes =
    let not_answer : tolds.Entered ≡ tolds.Answer → ⊥ = λ is. absurd cc in
    stopped_behind_it limit tolds.Entered stop labels old new x command covered reply written written_new wrong tells not_answer fits found (without_last (λ some. not_answer (answer.1 some))) writes
stopped_told limit tolds.Memory stop labels old new x command covered reply written written_new wrong tells answer fits found with_last without_last writes =
    let not_answer : tolds.Memory ≡ tolds.Answer → ⊥ = λ is. absurd cc in
    stopped_behind_it limit tolds.Memory stop labels old new x command covered reply written written_new wrong tells not_answer fits found (without_last (λ some. not_answer (answer.1 some))) writes
stopped_told limit (tolds.JournalFull count most) stop labels old new x command covered reply written written_new wrong tells answer fits found with_last without_last writes =
    let not_answer : (tolds.JournalFull count most) ≡ tolds.Answer → ⊥ = λ is. absurd cc in
    stopped_behind_it limit (tolds.JournalFull count most) stop labels old new x command covered reply written written_new wrong tells not_answer fits found (without_last (λ some. not_answer (answer.1 some))) writes

-- the line that tells of a bad size was written in part
pub stopped_bad : (limit : Limits) (count : ℕ) (labels : List Label) (history : List Entry) (label : ℕ) (x : Label) (written written_new : Option (List ℕ)) (wrong : Bool) → label_in labels label ≡ Some x
    → CutsLastLine (reply_line label (error_reply RC_COMMAND_SIZE)) written written_new → StoppedIn limit (stops.Output count) (bad_size label ∷ closing label ∷ []) labels history labels history written written_new wrong
stopped_bad limit count labels history label x written written_new wrong found wrote = record {
  made = bad_size label ∷ [];
  last = None;
  left = closing label ∷ [];
  calls_are = refl;
  more = reply_line label (error_reply RC_COMMAND_SIZE);
  leads = leads_bad limit labels history label x found;
  writes = subst (λ (bytes : List ℕ). CutsLastLine bytes written written_new) (sym (append-nil (reply_line label (error_reply RC_COMMAND_SIZE)))) wrote;
  has_last = λ some. absurd cc;
}

-- the device gave a wrong answer in a close
pub stopped_close : (limit : Limits) (done : List Call) (label : ℕ) (calls : List Call) (labels : List Label) (history : List Entry) (labels_new : List Label) (history_new : List Entry) (more : List ℕ) (written written_new : Option (List ℕ)) (wrong : Bool)
    → calls ≡ done ++ closing label ∷ [] → Leads limit labels history calls labels_new history_new more → written_new ≡ with_more written more
    → StoppedIn limit stops.Answer calls labels history labels_new history_new written written_new wrong
stopped_close limit done label calls labels history labels_new history_new more written written_new wrong is leads wrote = record {
  made = calls;
  last = None;
  left = [];
  calls_are = sym (append-nil (calls ++ []) ∙ append-nil calls);
  more = more;
  leads = leads;
  writes = wrote ∙ ap (with_more written) (sym (append-nil more));
  has_last = inr (done, label, is);
}
