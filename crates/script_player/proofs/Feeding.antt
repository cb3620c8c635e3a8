-- What bytes on an open label make of it and of the calls that are still to come.
use Rattle.std.proofs.Common.{◌≡◌, ◌<◌, ◌≤◌, ◌+◌, ◌*◌, ℕ, Bool, true, false, List, [], ◌∷◌, ◌++◌, length, take, drop, Option, Some, None, refl, sym, ap, subst, ◌∙◌, append_assoc, arith, length-append, length-drop}
use Rattle.std.specs.Prelude.{map, if◌then◌else◌}
use Rattle.std.proofs.lemmas.List.{append-nil, length-take-le}
use Rattle.tab_spec.specs.Frame.{StreamItem, command, cancel, bad, is_bad, Frames, frames, commands_of, commands, left_of, meets_bad_size}
use Rattle.tab_laws.proofs.Cuts.{left_before, left_nothing, bad_stays}
use Rattle.tab_frame.specs.Framing.{GaveItem}
use Rattle.link_port.specs.Port.{with_more}
use Rattle.script_player.proofs.Writing.{with_more-append}
use Rattle.history_spec.specs.Cancels.{canceled_up_to, cover}
use Rattle.history_spec.specs.Entry.{Entry}
use Rattle.history_spec.specs.Told.{Limits}
use Rattle.script_spec.specs.Calls.{Call, command as run_command, bad_size, closing, numbered, ending_calls}
use Rattle.script_spec.specs.Plays.{LabelHolder, PlaysTo}
use Rattle.script_lines.specs.declared.label.Label.{Label}
use Rattle.script_lines.proofs.Ahead.{cut_behind, same_bytes, shorter_by}
use Rattle.script_lines.specs.Labels.{LabelsView, label_in, counted, replaced, without_label}
use Rattle.script_player.specs.declared.stop.Stop.{Stop}
use Rattle.script_player.specs.Play.{holder_of, stage, Fits, Leads, size_of_label, fed_calls, fed_label, fed_labels}
use Rattle.script_player.specs.Stops.{StoppedIn, WritesByStop, last_calls, last_line}
use Rattle.script_player.proofs.Relabeling.{is_found, found_by_name, map-replaced, found-replaced, replaced-twice, replaced-itself, without-replaced}
use Rattle.script_player.proofs.Playing.{fits-replaced, leads_on, leads_none, with_nothing}
use Rattle.script_player.proofs.Stopping.{has_last_behind, writes_behind}

-- ---- an item that comes next

-- the label once these bytes are kept on it
abbrev pub keeping : Label → List ℕ → Label
keeping x kept = record x { kept = kept }

-- the calls that bytes make on an open label where its commands are canceled up to a number
abbrev pub fed_with : Option ℕ → Label → List ℕ → List Call
fed_with upto x bytes = numbered x.label (x.commands + 1) upto (commands (x.kept ++ bytes)) ++ ending_calls x.label (meets_bad_size (x.kept ++ bytes))

-- what is told alike of a label and bytes to be fed to it, before a step and after
pub record Alike (x : Label) (rest : List ℕ) (y : Label) (left : List ℕ) : Type 0 where
  pub label : fed_label x rest ≡ fed_label y left
  pub bad_is : meets_bad_size (x.kept ++ rest) ≡ meets_bad_size (y.kept ++ left)

-- the bytes are cut alike where they are the same together
pub alike_fed : (x : Label) (rest : List ℕ) (k : ℕ) → Alike x rest (keeping x (x.kept ++ take k rest)) (drop k rest)
alike_fed x rest k =
    let same = same_bytes x.kept rest k in
    record {
      label = ap (λ (bytes : List ℕ). record x { commands = x.commands + length (commands bytes); kept = left_of bytes }) same;
      bad_is = ap meets_bad_size same;
    }

pub calls_fed : (upto : Option ℕ) (x : Label) (rest : List ℕ) (k : ℕ) → fed_with upto x rest ≡ fed_with upto (keeping x (x.kept ++ take k rest)) (drop k rest)
calls_fed upto x rest k =
    let same = same_bytes x.kept rest k in
    ap (λ (bytes : List ℕ). numbered x.label (x.commands + 1) upto (commands bytes) ++ ending_calls x.label (meets_bad_size bytes)) same

left_behind : (item : StreamItem) (x : Label) (kept out rest : List ℕ) → GaveItem item x.kept kept out → left_of (x.kept ++ rest) ≡ left_of (kept ++ rest)
left_behind item x kept out rest gave =
    ap left_of (ap (λ (bytes : List ℕ). bytes ++ rest) gave.parts ∙ append_assoc out kept rest) ∙ left_before out (kept ++ rest) gave.frame

bad_behind : (item : StreamItem) (x : Label) (kept out rest : List ℕ) → GaveItem item x.kept kept out → meets_bad_size (x.kept ++ rest) ≡ meets_bad_size (kept ++ rest)
bad_behind item x kept out rest gave = ap (λ (cut : Frames). is_bad cut.ending) (cut_behind item x.kept kept out rest gave)

commands_behind : (item : StreamItem) (x : Label) (kept out rest : List ℕ) → GaveItem item x.kept kept out → commands (x.kept ++ rest) ≡ commands_of (item ∷ (frames (kept ++ rest)).items)
commands_behind item x kept out rest gave = ap (λ (cut : Frames). commands_of cut.items) (cut_behind item x.kept kept out rest gave)

-- a cancel makes no call
pub alike_cancel : (x : Label) (kept out rest : List ℕ) → GaveItem cancel x.kept kept out → Alike x rest (keeping x kept) rest
alike_cancel x kept out rest gave = record {
  label = ap (λ (cs : List (List ℕ)). record x { commands = x.commands + length cs; kept = left_of (x.kept ++ rest) }) (commands_behind cancel x kept out rest gave)
      ∙ ap (λ (bytes : List ℕ). record x { commands = x.commands + length (commands (kept ++ rest)); kept = bytes }) (left_behind cancel x kept out rest gave);
  bad_is = bad_behind cancel x kept out rest gave;
}

pub calls_cancel : (upto : Option ℕ) (x : Label) (kept out rest : List ℕ) → GaveItem cancel x.kept kept out → fed_with upto x rest ≡ fed_with upto (keeping x kept) rest
calls_cancel upto x kept out rest gave =
    ap (λ (cs : List (List ℕ)). numbered x.label (x.commands + 1) upto cs ++ ending_calls x.label (meets_bad_size (x.kept ++ rest))) (commands_behind cancel x kept out rest gave)
    ∙ ap (λ (b : Bool). numbered x.label (x.commands + 1) upto (commands (kept ++ rest)) ++ ending_calls x.label b) (bad_behind cancel x kept out rest gave)

-- a command makes one
pub alike_command : (x : Label) (kept out rest : List ℕ) → GaveItem (command out) x.kept kept out → Alike x rest (counted (keeping x kept)) rest
alike_command x kept out rest gave =
    let more : x.commands + length (out ∷ commands (kept ++ rest)) ≡ x.commands + 1 + length (commands (kept ++ rest)) = omega arith in
    record {
      label = ap (λ (cs : List (List ℕ)). record x { commands = x.commands + length cs; kept = left_of (x.kept ++ rest) }) (commands_behind (command out) x kept out rest gave)
          ∙ ap (λ (bytes : List ℕ). record x { commands = x.commands + length (out ∷ commands (kept ++ rest)); kept = bytes }) (left_behind (command out) x kept out rest gave)
          ∙ ap (λ (n : ℕ). record x { commands = n; kept = left_of (kept ++ rest) }) more;
      bad_is = bad_behind (command out) x kept out rest gave;
    }

pub calls_command : (upto : Option ℕ) (x : Label) (kept out rest : List ℕ) → GaveItem (command out) x.kept kept out
    → fed_with upto x rest ≡ run_command x.label (x.commands + 1) out (cover upto (x.commands + 1)) ∷ fed_with upto (counted (keeping x kept)) rest
calls_command upto x kept out rest gave =
    ap (λ (cs : List (List ℕ)). numbered x.label (x.commands + 1) upto cs ++ ending_calls x.label (meets_bad_size (x.kept ++ rest))) (commands_behind (command out) x kept out rest gave)
    ∙ ap (λ (b : Bool). numbered x.label (x.commands + 1) upto (out ∷ commands (kept ++ rest)) ++ ending_calls x.label b) (bad_behind (command out) x kept out rest gave)

-- where no item comes and no byte is to be fed, nothing is made
pub calls_none : (upto : Option ℕ) (x : Label) (rest : List ℕ) → rest ≡ [] → (frames x.kept).items ≡ [] → meets_bad_size x.kept ≡ false → fed_with upto x rest ≡ []
calls_none upto x rest none no_item good =
    let all : x.kept ++ rest ≡ x.kept = ap (λ (bytes : List ℕ). x.kept ++ bytes) none ∙ append-nil x.kept in
    ap (λ (bytes : List ℕ). numbered x.label (x.commands + 1) upto (commands bytes) ++ ending_calls x.label (meets_bad_size bytes)) all
    ∙ ap (λ (items : List StreamItem). numbered x.label (x.commands + 1) upto (commands_of items) ++ ending_calls x.label (meets_bad_size x.kept)) no_item
    ∙ ap (ending_calls x.label) good

pub label_none : (x : Label) (rest : List ℕ) → rest ≡ [] → (frames x.kept).items ≡ [] → fed_label x rest ≡ x
label_none x rest none no_item =
    let all : x.kept ++ rest ≡ x.kept = ap (λ (bytes : List ℕ). x.kept ++ bytes) none ∙ append-nil x.kept in
    let zero_more : x.commands + 0 ≡ x.commands = omega arith in
    ap (λ (bytes : List ℕ). record x { commands = x.commands + length (commands bytes); kept = left_of bytes }) all
    ∙ ap (λ (items : List StreamItem). record x { commands = x.commands + length (commands_of items); kept = left_of x.kept }) no_item
    ∙ ap (λ (bytes : List ℕ). record x { commands = x.commands + 0; kept = bytes }) (left_nothing x.kept no_item)
    ∙ ap (λ (n : ℕ). record x { commands = n }) zero_more

pub good_none : (x : Label) (rest : List ℕ) → rest ≡ [] → meets_bad_size x.kept ≡ false → meets_bad_size (x.kept ++ rest) ≡ false
good_none x rest none good = ap (λ (bytes : List ℕ). meets_bad_size (x.kept ++ bytes)) none ∙ ap meets_bad_size (append-nil x.kept) ∙ good

-- a bad size ends the label, whatever comes behind it
pub calls_bad : (upto : Option ℕ) (x : Label) (rest : List ℕ) (size : ℕ) → frames x.kept ≡ record { items = []; ending = bad size } → fed_with upto x rest ≡ bad_size x.label ∷ closing x.label ∷ []
calls_bad upto x rest size cut =
    let stays : frames (x.kept ++ rest) ≡ record { items = []; ending = bad size } = bad_stays x.kept rest (ap (λ (f : Frames). is_bad f.ending) cut) ∙ cut in
    ap (λ (f : Frames). numbered x.label (x.commands + 1) upto (commands_of f.items) ++ ending_calls x.label (is_bad f.ending)) stays

pub bad_is_met : (x : Label) (rest : List ℕ) (size : ℕ) → frames x.kept ≡ record { items = []; ending = bad size } → meets_bad_size (x.kept ++ rest) ≡ true
bad_is_met x rest size cut =
    ap (λ (f : Frames). is_bad f.ending) (bad_stays x.kept rest (ap (λ (f : Frames). is_bad f.ending) cut) ∙ cut)

-- ---- so far

-- what was played of a piece on a label, and what is still to be
pub record FedSoFar (limit : Limits) (label : ℕ) (upto : Option ℕ) (first : Label) (piece : List ℕ) (labels_old : LabelsView) (history_old : List Entry) (written_old : Option (List ℕ))
    (labels : LabelsView) (history : List Entry) (written : Option (List ℕ)) (rest : List ℕ) : Type 0 where
  pub x : Label
  pub found : label_in labels.present label ≡ Some x
  pub name : x.label ≡ label
  pub name_first : first.label ≡ label
  pub upto_is : upto ≡ canceled_up_to first.commands (frames (first.kept ++ piece)).items
  pub labels_are : labels ≡ record labels_old { present = replaced x labels_old.present }
  pub alike : Alike first piece x rest
  pub done : List Call
  pub more : List ℕ
  pub calls_are : fed_with upto first piece ≡ done ++ fed_with upto x rest
  pub leads : Leads limit labels_old.present history_old done labels.present history more
  pub written_is : written ≡ with_more written_old more
  pub small : size_of_label x + length rest ≤ size_of_label first + length piece

pub fed_none : (limit : Limits) (label : ℕ) (upto : Option ℕ) (first : Label) (piece : List ℕ) (labels : LabelsView) (history : List Entry) (written : Option (List ℕ))
    → label_in labels.present label ≡ Some first → first.label ≡ label
    → upto ≡ canceled_up_to first.commands (frames (first.kept ++ piece)).items → FedSoFar limit label upto first piece labels history written labels history written piece
fed_none limit label upto first piece labels history written found name upto_is = record {
  x = first;
  found = found;
  name = name;
  name_first = name;
  upto_is = upto_is;
  labels_are = ap (λ (ls : List Label). record labels { present = ls }) (sym (replaced-itself labels.present first (ap (label_in labels.present) name ∙ found)));
  alike = record { label = refl; bad_is = refl };
  done = [];
  more = [];
  calls_are = refl;
  leads = λ output. ap (λ (out : List ℕ). stage labels.present history out) (append-nil output);
  written_is = sym (with_nothing written);
  small = omega arith;
}

-- one step more: the label is known otherwise now, and these calls were made
pub fed_on : (limit : Limits) (label : ℕ) (upto : Option ℕ) (first : Label) (piece : List ℕ) (labels_old : LabelsView) (history_old : List Entry) (written_old : Option (List ℕ)) (labels : LabelsView) (history : List Entry) (written : Option (List ℕ)) (rest : List ℕ)
    (labels_new : LabelsView) (history_new : List Entry) (written_new : Option (List ℕ)) (left : List ℕ) (y : Label) (made : List Call) (more : List ℕ)
    → (so_far : FedSoFar limit label upto first piece labels_old history_old written_old labels history written rest)
    → y.label ≡ so_far.x.label → labels_new ≡ record labels { present = replaced y labels.present }
    → Alike so_far.x rest y left → fed_with upto so_far.x rest ≡ made ++ fed_with upto y left
    → Leads limit labels.present history made labels_new.present history_new more → written_new ≡ with_more written more
    → size_of_label y + length left ≤ size_of_label so_far.x + length rest
    → FedSoFar limit label upto first piece labels_old history_old written_old labels_new history_new written_new left
fed_on limit label upto first piece labels_old history_old written_old labels history written rest labels_new history_new written_new left y made more so_far name labels_are alike calls leads is_written small =
    let of_name : y.label ≡ label = name ∙ so_far.name in
    let found : label_in (replaced y labels.present) label ≡ Some y = subst (λ (n : ℕ). label_in (replaced y labels.present) n ≡ Some y) of_name (found-replaced labels.present y so_far.x (ap (label_in labels.present) of_name ∙ so_far.found)) in
    record {
      x = y;
      found = ap (λ (v : LabelsView). label_in v.present label) labels_are ∙ found;
      name = of_name;
      name_first = so_far.name_first;
      upto_is = so_far.upto_is;
      labels_are = labels_are ∙ ap (λ (v : LabelsView). record v { present = replaced y v.present }) so_far.labels_are ∙ ap (λ (ls : List Label). record labels_old { present = ls }) (replaced-twice labels_old.present so_far.x y name);
      alike = record { label = so_far.alike.label ∙ alike.label; bad_is = so_far.alike.bad_is ∙ alike.bad_is };
      done = so_far.done ++ made;
      more = so_far.more ++ more;
      calls_are = so_far.calls_are ∙ ap (λ (cs : List Call). so_far.done ++ cs) calls ∙ sym (append_assoc so_far.done made (fed_with upto y left));
      leads = leads_on limit labels_old.present labels.present labels_new.present history_old history history_new so_far.done made so_far.more more so_far.leads leads;
      written_is = is_written ∙ ap (λ (w : Option (List ℕ)). with_more w more) so_far.written_is ∙ with_more-append written_old so_far.more more;
      small = omega (arith, small, so_far.small);
    }

-- ---- the end of a piece

-- the calls of the piece, by the number up to which its commands are canceled
first_calls : (upto : Option ℕ) (first : Label) (piece : List ℕ) → upto ≡ canceled_up_to first.commands (frames (first.kept ++ piece)).items
    → fed_calls first piece ≡ fed_with upto first piece
first_calls upto first piece is = ap (λ (u : Option ℕ). fed_with u first piece) (sym is)

-- what is left of a piece that was played
pub record FedWhole (limit : Limits) (first : Label) (piece : List ℕ) (labels_old : LabelsView) (history_old : List Entry) (written_old : Option (List ℕ))
    (labels : LabelsView) (history : List Entry) (written : Option (List ℕ)) : Type 0 where
  pub labels_are : labels ≡ fed_labels first piece labels_old
  pub more : List ℕ
  pub leads : Leads limit labels_old.present history_old (fed_calls first piece) labels.present history more
  pub written_is : written ≡ with_more written_old more

-- no byte of it is left, and no frame comes
pub fed_whole : (limit : Limits) (label : ℕ) (upto : Option ℕ) (first : Label) (piece : List ℕ) (labels_old : LabelsView) (history_old : List Entry) (written_old : Option (List ℕ)) (labels : LabelsView) (history : List Entry) (written : Option (List ℕ)) (rest : List ℕ)
    → (so_far : FedSoFar limit label upto first piece labels_old history_old written_old labels history written rest) → rest ≡ [] → (frames so_far.x.kept).items ≡ [] → meets_bad_size so_far.x.kept ≡ false
    → FedWhole limit first piece labels_old history_old written_old labels history written
fed_whole limit label upto first piece labels_old history_old written_old labels history written rest so_far none no_item good =
    let good_first : meets_bad_size (first.kept ++ piece) ≡ false = so_far.alike.bad_is ∙ good_none so_far.x rest none good in
    let label_is : so_far.x ≡ fed_label first piece = sym (label_none so_far.x rest none no_item) ∙ sym so_far.alike.label in
    let calls : fed_calls first piece ≡ so_far.done = first_calls upto first piece so_far.upto_is ∙ so_far.calls_are ∙ ap (λ (cs : List Call). so_far.done ++ cs) (calls_none upto so_far.x rest none no_item good) ∙ append-nil so_far.done in
    record {
      labels_are = so_far.labels_are ∙ ap (λ (x : Label). record labels_old { present = replaced x labels_old.present }) label_is
          ∙ ap (λ (b : Bool). record labels_old { present = if b then without_label first.label labels_old.present else replaced (fed_label first piece) labels_old.present }) (sym good_first);
      more = so_far.more;
      leads = rw calls so_far.leads;
      written_is = so_far.written_is;
    }

-- a bad size was told, and the label was closed
pub fed_bad : (limit : Limits) (label : ℕ) (upto : Option ℕ) (first : Label) (piece : List ℕ) (labels_old : LabelsView) (history_old : List Entry) (written_old : Option (List ℕ)) (labels : LabelsView) (history : List Entry) (written : Option (List ℕ)) (rest : List ℕ) (size : ℕ)
    (labels_new : LabelsView) (history_new : List Entry) (written_new : Option (List ℕ)) (more : List ℕ)
    → (so_far : FedSoFar limit label upto first piece labels_old history_old written_old labels history written rest) → frames so_far.x.kept ≡ record { items = []; ending = bad size }
    → labels_new ≡ record labels { present = without_label label labels.present } → Leads limit labels.present history (bad_size label ∷ closing label ∷ []) labels_new.present history_new more → written_new ≡ with_more written more
    → FedWhole limit first piece labels_old history_old written_old labels_new history_new written_new
fed_bad limit label upto first piece labels_old history_old written_old labels history written rest size labels_new history_new written_new more so_far cut labels_are leads is_written =
    let bad_first : meets_bad_size (first.kept ++ piece) ≡ true = so_far.alike.bad_is ∙ bad_is_met so_far.x rest size cut in
    let last : fed_with upto so_far.x rest ≡ bad_size label ∷ closing label ∷ [] = calls_bad upto so_far.x rest size cut ∙ ap (λ (n : ℕ). bad_size n ∷ closing n ∷ []) so_far.name in
    let calls : fed_calls first piece ≡ so_far.done ++ bad_size label ∷ closing label ∷ [] = first_calls upto first piece so_far.upto_is ∙ so_far.calls_are ∙ ap (λ (cs : List Call). so_far.done ++ cs) last in
    let without : without_label label (replaced so_far.x labels_old.present) ≡ without_label first.label labels_old.present =
    ap (λ (n : ℕ). without_label n (replaced so_far.x labels_old.present)) (sym so_far.name) ∙ without-replaced labels_old.present so_far.x ∙ ap (λ (n : ℕ). without_label n labels_old.present) (so_far.name ∙ sym so_far.name_first) in
    record {
      labels_are = labels_are ∙ ap (λ (v : LabelsView). record v { present = without_label label v.present }) so_far.labels_are ∙ ap (λ (ls : List Label). record labels_old { present = ls }) without
          ∙ ap (λ (b : Bool). record labels_old { present = if b then without_label first.label labels_old.present else replaced (fed_label first piece) labels_old.present }) (sym bad_first);
      more = so_far.more ++ more;
      leads = rw calls (leads_on limit labels_old.present labels.present labels_new.present history_old history history_new so_far.done (bad_size label ∷ closing label ∷ []) so_far.more more so_far.leads leads);
      written_is = is_written ∙ ap (λ (w : Option (List ℕ)). with_more w more) so_far.written_is ∙ with_more-append written_old so_far.more more;
    }

-- ---- a stop within a piece

-- calls were made before those that a stop came at, and others were to come behind them
pub stopped_behind : (limit : Limits) (stop : Stop) (calls done next after : List Call) (labels_old : List Label) (history_old : List Entry) (written_old : Option (List ℕ)) (labels : List Label) (history : List Entry) (written : Option (List ℕ)) (more : List ℕ)
    (labels_new : List Label) (history_new : List Entry) (written_new : Option (List ℕ)) (wrong : Bool)
    → calls ≡ done ++ (next ++ after) → Leads limit labels_old history_old done labels history more → written ≡ with_more written_old more
    → StoppedIn limit stop next labels history labels_new history_new written written_new wrong
    → StoppedIn limit stop calls labels_old history_old labels_new history_new written_old written_new wrong
stopped_behind limit stop calls done next after labels_old history_old written_old labels history written more labels_new history_new written_new wrong is_calls leads is_written stopped = record {
  made = done ++ stopped.made;
  last = stopped.last;
  left = stopped.left ++ after;
  calls_are = is_calls ∙ ap (λ (cs : List Call). done ++ (cs ++ after)) stopped.calls_are ∙ ap (λ (cs : List Call). done ++ cs) (append_assoc (stopped.made ++ last_calls stopped.last) stopped.left after)
      ∙ sym (append_assoc done (stopped.made ++ last_calls stopped.last) (stopped.left ++ after)) ∙ ap (λ (cs : List Call). cs ++ (stopped.left ++ after)) (sym (append_assoc done stopped.made (last_calls stopped.last)));
  more = more ++ stopped.more;
  leads = leads_on limit labels_old labels labels_new history_old history history_new done stopped.made more stopped.more leads stopped.leads;
  writes = subst (λ (bytes : List ℕ). WritesByStop stop bytes written_old written_new) (sym (append_assoc more stopped.more (last_line stopped.last)))
      (writes_behind stop more (stopped.more ++ last_line stopped.last) written_old written written_new is_written stopped.writes);
  has_last = has_last_behind stop done stopped.made stopped.last wrong stopped.has_last;
}

-- how many bytes a label keeps
abbrev pub kept_on : Option Label → ℕ
kept_on None = 0
kept_on (Some x) = length x.kept

-- ---- what a framer gave

-- a label that keeps other bytes is open still
pub record Keeps (limit : Limits) (label : ℕ) (labels labels_new : LabelsView) (history : List Entry) (y : Label) : Type 0 where
  pub found : label_in labels_new.present label ≡ Some y
  pub fits : Fits labels_new history
  pub leads : (start : List Label) (begun : List Entry) (calls : List Call) (more : List ℕ) → Leads limit start begun calls labels.present history more → Leads limit start begun calls labels_new.present history more

same_holders : (limit : Limits) (a b c : List Label) (h k : List Entry) (calls : List Call) (more : List ℕ) → map holder_of c ≡ map holder_of b → Leads limit a h calls b k more → Leads limit a h calls c k more
same_holders limit a b c h k calls more same leads output =
    subst (λ (hs : List LabelHolder). PlaysTo limit (stage a h output) calls (record { history = k; holders = hs; output = output ++ more })) (sym same) (leads output)

pub keeps : (limit : Limits) (label : ℕ) (labels labels_new : LabelsView) (history : List Entry) (x : Label) (kept : List ℕ) → Fits labels history → label_in labels.present label ≡ Some x
    → labels_new ≡ record labels { present = replaced (keeping x kept) labels.present } → Keeps limit label labels labels_new history (keeping x kept)
keeps limit label labels labels_new history x kept fits e labels_are =
    let found = found_by_name labels.present label x e in
    let name = (is_found labels.present label x e).label_is in
    rw labels_are (record {
      found = subst (λ (n : ℕ). label_in (replaced (keeping x kept) labels.present) n ≡ Some (keeping x kept)) name (found-replaced labels.present (keeping x kept) x found);
      fits = fits-replaced labels history (keeping x kept) x fits found refl (omega arith);
      leads = λ start begun calls more. same_holders limit start labels.present (replaced (keeping x kept) labels.present) begun history calls more (map-replaced holder_of labels.present (keeping x kept) x found refl);
    })

-- nothing was given out
pub keeps_all : (label : ℕ) (labels labels_new : LabelsView) (x : Label) (kept : List ℕ) → label_in labels.present label ≡ Some x → kept ≡ x.kept
    → labels_new ≡ record labels { present = replaced (keeping x kept) labels.present } → labels_new ≡ labels
keeps_all label labels labels_new x kept e same labels_are =
    labels_are ∙ ap (λ (bytes : List ℕ). record labels { present = replaced (keeping x bytes) labels.present }) same
    ∙ ap (λ (ls : List Label). record labels { present = ls }) (replaced-itself labels.present x (found_by_name labels.present label x e))

-- a cancel came
pub fed_cancel : (limit : Limits) (label : ℕ) (upto : Option ℕ) (first : Label) (piece : List ℕ) (labels_old : LabelsView) (history_old : List Entry) (written_old : Option (List ℕ)) (labels labels_new : LabelsView) (history : List Entry) (written : Option (List ℕ)) (rest kept out : List ℕ)
    → (so_far : FedSoFar limit label upto first piece labels_old history_old written_old labels history written rest) → GaveItem cancel so_far.x.kept kept out
    → labels_new ≡ record labels { present = replaced (keeping so_far.x kept) labels.present } → FedSoFar limit label upto first piece labels_old history_old written_old labels_new history written rest
fed_cancel limit label upto first piece labels_old history_old written_old labels labels_new history written rest kept out so_far gave labels_are =
    let x = so_far.x in
    let found = found_by_name labels.present label x so_far.found in
    fed_on limit label upto first piece labels_old history_old written_old labels history written rest labels_new history written rest (keeping x kept) [] [] so_far refl labels_are
    (alike_cancel x kept out rest gave) (calls_cancel upto x kept out rest gave)
    (rw labels_are (leads_none limit labels.present history (keeping x kept) x found refl)) (sym (with_nothing written)) (omega (arith, shorter_by cancel x.kept kept out gave))

-- a command came and was run
pub fed_command : (limit : Limits) (label : ℕ) (upto : Option ℕ) (first : Label) (piece : List ℕ) (labels_old : LabelsView) (history_old : List Entry) (written_old : Option (List ℕ)) (labels between labels_new : LabelsView) (history history_new : List Entry) (written written_new : Option (List ℕ)) (rest kept out more : List ℕ)
    → (so_far : FedSoFar limit label upto first piece labels_old history_old written_old labels history written rest) → GaveItem (command out) so_far.x.kept kept out
    → between ≡ record labels { present = replaced (keeping so_far.x kept) labels.present } → labels_new ≡ record between { present = replaced (counted (keeping so_far.x kept)) between.present }
    → Leads limit between.present history (run_command label (so_far.x.commands + 1) out (cover upto (so_far.x.commands + 1)) ∷ []) labels_new.present history_new more → written_new ≡ with_more written more
    → FedSoFar limit label upto first piece labels_old history_old written_old labels_new history_new written_new rest
fed_command limit label upto first piece labels_old history_old written_old labels between labels_new history history_new written written_new rest kept out more so_far gave between_is labels_are runs is_written =
    let x = so_far.x in
    let y : Label = counted (keeping x kept) in
    let found = found_by_name labels.present label x so_far.found in
    let runs_named = subst (λ (l : ℕ). Leads limit between.present history (run_command l (x.commands + 1) out (cover upto (x.commands + 1)) ∷ []) labels_new.present history_new more) (sym so_far.name) runs in
    let none = subst (λ (v : LabelsView). Leads limit labels.present history [] v.present history []) (sym between_is) (leads_none limit labels.present history (keeping x kept) x found refl) in
    fed_on limit label upto first piece labels_old history_old written_old labels history written rest labels_new history_new written_new rest y (run_command x.label (x.commands + 1) out (cover upto (x.commands + 1)) ∷ []) more so_far refl
    (labels_are ∙ ap (λ (v : LabelsView). record v { present = replaced y v.present }) between_is ∙ ap (λ (ls : List Label). record labels { present = ls }) (replaced-twice labels.present (keeping x kept) y refl))
    (alike_command x kept out rest gave) (calls_command upto x kept out rest gave)
    (leads_on limit labels.present between.present labels_new.present history history history_new [] (run_command x.label (x.commands + 1) out (cover upto (x.commands + 1)) ∷ []) [] more none runs_named) is_written (omega (arith, shorter_by (command out) x.kept kept out gave))

-- a part of the rest was fed
pub fed_more : (limit : Limits) (label : ℕ) (upto : Option ℕ) (first : Label) (piece : List ℕ) (labels_old : LabelsView) (history_old : List Entry) (written_old : Option (List ℕ)) (labels labels_new : LabelsView) (history : List Entry) (written : Option (List ℕ)) (rest left : List ℕ) (k : ℕ)
    → (so_far : FedSoFar limit label upto first piece labels_old history_old written_old labels history written rest) → k ≤ length rest → left ≡ drop k rest
    → labels_new ≡ record labels { present = replaced (keeping so_far.x (so_far.x.kept ++ take k rest)) labels.present } → FedSoFar limit label upto first piece labels_old history_old written_old labels_new history written left
fed_more limit label upto first piece labels_old history_old written_old labels labels_new history written rest left k so_far within left_is labels_are =
    let x = so_far.x in
    let y : Label = keeping x (x.kept ++ take k rest) in
    let found = found_by_name labels.present label x so_far.found in
    rw left_is (fed_on limit label upto first piece labels_old history_old written_old labels history written rest labels_new history written (drop k rest) y [] [] so_far refl labels_are
    (alike_fed x rest k) (calls_fed upto x rest k)
    (rw labels_are (leads_none limit labels.present history y x found refl)) (sym (with_nothing written)) (omega (arith, length-append x.kept (take k rest), length-take-le k rest within, length-drop k rest)))

-- a stop came at the command
pub fed_stopped : (limit : Limits) (stop : Stop) (label : ℕ) (upto : Option ℕ) (first : Label) (piece : List ℕ) (labels_old : LabelsView) (history_old : List Entry) (written_old : Option (List ℕ)) (labels between : LabelsView) (history : List Entry) (written : Option (List ℕ)) (rest kept out : List ℕ)
    (labels_new : List Label) (history_new : List Entry) (written_new : Option (List ℕ)) (wrong : Bool)
    → (so_far : FedSoFar limit label upto first piece labels_old history_old written_old labels history written rest) → GaveItem (command out) so_far.x.kept kept out
    → Keeps limit label labels between history (keeping so_far.x kept)
    → StoppedIn limit stop (run_command label (so_far.x.commands + 1) out (cover upto (so_far.x.commands + 1)) ∷ []) between.present history labels_new history_new written written_new wrong
    → StoppedIn limit stop (fed_calls first piece) labels_old.present history_old labels_new history_new written_old written_new wrong
fed_stopped limit stop label upto first piece labels_old history_old written_old labels between history written rest kept out labels_new history_new written_new wrong so_far gave at stopped =
    let x = so_far.x in
    let next = run_command label (x.commands + 1) out (cover upto (x.commands + 1)) ∷ [] in
    let after = fed_with upto (counted (keeping x kept)) rest in
    let named : fed_with upto x rest ≡ next ++ after = calls_command upto x kept out rest gave ∙ ap (λ (l : ℕ). run_command l (x.commands + 1) out (cover upto (x.commands + 1)) ∷ after) so_far.name in
    stopped_behind limit stop (fed_calls first piece) so_far.done next after labels_old.present history_old written_old between.present history written so_far.more labels_new history_new written_new wrong
    (first_calls upto first piece so_far.upto_is ∙ so_far.calls_are ∙ ap (λ (cs : List Call). so_far.done ++ cs) named) (at.leads labels_old.present history_old so_far.done so_far.more so_far.leads) so_far.written_is stopped

-- a stop came at the line that tells of a bad size
pub fed_bad_stopped : (limit : Limits) (stop : Stop) (label : ℕ) (upto : Option ℕ) (first : Label) (piece : List ℕ) (labels_old : LabelsView) (history_old : List Entry) (written_old : Option (List ℕ)) (labels : LabelsView) (history : List Entry) (written : Option (List ℕ)) (rest : List ℕ) (size : ℕ)
    (labels_new : List Label) (history_new : List Entry) (written_new : Option (List ℕ)) (wrong : Bool)
    → (so_far : FedSoFar limit label upto first piece labels_old history_old written_old labels history written rest) → frames so_far.x.kept ≡ record { items = []; ending = bad size }
    → StoppedIn limit stop (bad_size label ∷ closing label ∷ []) labels.present history labels_new history_new written written_new wrong
    → StoppedIn limit stop (fed_calls first piece) labels_old.present history_old labels_new history_new written_old written_new wrong
fed_bad_stopped limit stop label upto first piece labels_old history_old written_old labels history written rest size labels_new history_new written_new wrong so_far cut stopped =
    let next = bad_size label ∷ closing label ∷ [] in
    let last : fed_with upto so_far.x rest ≡ next ++ [] = calls_bad upto so_far.x rest size cut ∙ ap (λ (n : ℕ). bad_size n ∷ closing n ∷ []) so_far.name in
    stopped_behind limit stop (fed_calls first piece) so_far.done next [] labels_old.present history_old written_old labels.present history written so_far.more labels_new history_new written_new wrong
    (first_calls upto first piece so_far.upto_is ∙ so_far.calls_are ∙ ap (λ (cs : List Call). so_far.done ++ cs) last) so_far.leads so_far.written_is stopped

-- ---- how much is left

pub kept_found : (labels : List Label) (label : ℕ) (x : Label) → label_in labels label ≡ Some x → kept_on (label_in labels label) ≡ length x.kept
kept_found labels label x found = ap kept_on found

-- a frame was given out
pub smaller_item : (item : StreamItem) (x y : Label) (kept out rest : List ℕ) (before after : ℕ) → GaveItem item x.kept kept out → y.kept ≡ kept → before ≡ length x.kept → after ≡ length y.kept → after + 2 * length rest < before + 2 * length rest
smaller_item item x y kept out rest before after gave is_kept is_before is_after = omega (arith, shorter_by item x.kept kept out gave, is_before, is_after, ap length is_kept)

-- bytes were fed
pub smaller_fed : (x : Label) (rest left : List ℕ) (k before after : ℕ) → (0 < k) × (k ≤ length rest) → left ≡ drop k rest → before ≡ length x.kept → after ≡ length (x.kept ++ take k rest)
    → after + 2 * length left < before + 2 * length rest
smaller_fed x rest left k before after some left_is is_before is_after =
    omega (arith, some.0, some.1, is_before, is_after, length-append x.kept (take k rest), length-take-le k rest some.1, ap length left_is, length-drop k rest)

-- the label is found once its command was counted
pub command_kept : (label : ℕ) (labels labels_new : LabelsView) (x : Label) → label_in labels.present label ≡ Some x → labels_new ≡ record labels { present = replaced (counted x) labels.present }
    → label_in labels_new.present label ≡ Some (counted x)
command_kept label labels labels_new x e labels_are =
    let found = found_by_name labels.present label x e in
    let name = (is_found labels.present label x e).label_is in
    rw labels_are (subst (λ (n : ℕ). label_in (replaced (counted x) labels.present) n ≡ Some (counted x)) name (found-replaced labels.present (counted x) x found))
