-- What a good line leaves.
use Rattle.std.proofs.Common.{◌≡◌, ◌≤◌, ◌+◌, ◌*◌, ℕ, Bool, true, false, cond, List, [], ◌∷◌, ◌++◌, length, Option, Some, None, refl, sym, ap, ◌∙◌, arith, length-append}
use Rattle.std.proofs.lemmas.List.{append-nil}
use Rattle.tab_spec.specs.Frame.{meets_bad_size}
use Rattle.tab_laws.proofs.Cuts.{commands_left}
use Rattle.link_port.specs.Port.{with_more}
use Rattle.history_spec.specs.Entry.{Entry}
use Rattle.history_spec.specs.Told.{Limits}
use Rattle.script_spec.specs.Script.{piece, close, item_of}
use Rattle.script_spec.specs.Calls.{Call, closing}
use Rattle.script_lines.specs.declared.label.Label.{Label}
use Rattle.script_lines.specs.Labels.{LabelsView, label_in, new_label, replaced, without_label}
use Rattle.script_player.specs.declared.stop.Stop.{Stop}
use Rattle.script_player.specs.declared.stop.Stop.TheVariants as stops
use Rattle.script_player.specs.Play.{stage, AreSmall, size_of_label, opened_label, opened_labels, opening_calls, fed_calls, fed_label, fed_labels, calls_on, Leads, IsPlayed}
use Rattle.script_player.specs.Stops.{StoppedIn, LineStopped}
use Rattle.script_player.proofs.Relabeling.{each-push, each-weaker, of_found, all-replaced, all-without, without-none}
use Rattle.script_player.proofs.Playing.{leads_on, with_nothing}
use Rattle.script_player.proofs.Feeding.{stopped_behind}
use Rattle.script_player.proofs.Scripting.{opened_found}
use Rattle.script_player.proofs.Stopping.{stopped_close}

-- ---- a piece

pub opened_at : (labels opened : LabelsView) (label : ℕ) → opened ≡ opened_labels (label_in labels.present label) labels label
    → label_in opened.present label ≡ Some (opened_label (label_in labels.present label) label labels.opened)
opened_at labels opened label is = ap (λ (v : LabelsView). label_in v.present label) is ∙ opened_found (label_in labels.present label) labels label refl

-- the label was opened where that was due, and the piece was played on it
pub played_piece : (limit : Limits) (text : List ℕ) (labels opened labels_new : LabelsView) (history between history_new : List Entry) (written written_new : Option (List ℕ)) (label : ℕ) (bytes : List ℕ)
    → item_of text ≡ Some (piece label bytes) → opened ≡ opened_labels (label_in labels.present label) labels label
    → Leads limit labels.present history (opening_calls (label_in labels.present label) label) opened.present between []
    → ((x : Label) → label_in opened.present label ≡ Some x → labels_new ≡ fed_labels x bytes opened)
    → ((x : Label) → label_in opened.present label ≡ Some x → (more : List ℕ) × (written_new ≡ with_more written more) × Leads limit opened.present between (fed_calls x bytes) labels_new.present history_new more)
    → IsPlayed limit text labels history labels_new history_new written written_new
played_piece limit text labels opened labels_new history between history_new written written_new label bytes item opened_is opens fed plays =
    let known = label_in labels.present label in
    let x = opened_label known label labels.opened in
    let found = opened_at labels opened label opened_is in
    let played = plays x found in
    record {
      item = piece label bytes;
      more = played.0;
      item_is = item;
      labels_are = fed x found ∙ ap (fed_labels x bytes) opened_is;
      leads = leads_on limit labels.present opened.present labels_new.present history between history_new (opening_calls known label) (fed_calls x bytes) [] played.0 opens played.2;
      written_is = played.1;
    }

-- the same where a stop came within the piece
pub stopped_piece : (limit : Limits) (stop : Stop) (text : List ℕ) (labels opened : LabelsView) (labels_new : List Label) (history between history_new : List Entry) (written written_new : Option (List ℕ)) (wrong : Bool) (label : ℕ) (bytes : List ℕ)
    → item_of text ≡ Some (piece label bytes) → opened ≡ opened_labels (label_in labels.present label) labels label
    → Leads limit labels.present history (opening_calls (label_in labels.present label) label) opened.present between []
    → ((x : Label) → label_in opened.present label ≡ Some x → StoppedIn limit stop (fed_calls x bytes) opened.present between labels_new history_new written written_new wrong)
    → LineStopped limit stop text labels history labels_new history_new written written_new wrong
stopped_piece limit stop text labels opened labels_new history between history_new written written_new wrong label bytes item opened_is opens stopped =
    let known = label_in labels.present label in
    let x = opened_label known label labels.opened in
    let calls : calls_on labels (piece label bytes) ≡ opening_calls known label ++ (fed_calls x bytes ++ []) = ap (λ (cs : List Call). opening_calls known label ++ cs) (sym (append-nil (fed_calls x bytes))) in
    record {
      item = piece label bytes;
      item_is = item;
      stopped = stopped_behind limit stop (calls_on labels (piece label bytes)) (opening_calls known label) (fed_calls x bytes) [] labels.present history written opened.present between written [] labels_new history_new written_new wrong
          calls opens (sym (with_nothing written)) (stopped x (opened_at labels opened label opened_is));
    }

-- ---- a close

pub played_close : (limit : Limits) (text : List ℕ) (labels labels_new : LabelsView) (history history_new : List Entry) (written : Option (List ℕ)) (label : ℕ) (x : Label)
    → item_of text ≡ Some (close label) → label_in labels.present label ≡ Some x → labels_new ≡ record labels { present = without_label label labels.present }
    → Leads limit labels.present history (closing label ∷ []) labels_new.present history_new [] → IsPlayed limit text labels history labels_new history_new written written
played_close limit text labels labels_new history history_new written label x item found labels_are leads = record {
  item = close label;
  more = [];
  item_is = item;
  labels_are = labels_are;
  leads = rw found leads;
  written_is = sym (with_nothing written);
}

-- the same where the device gave a wrong answer in the close
pub stopped_line_close : (limit : Limits) (text : List ℕ) (labels : LabelsView) (labels_new : List Label) (history history_new : List Entry) (written : Option (List ℕ)) (wrong : Bool) (label : ℕ) (x : Label)
    → item_of text ≡ Some (close label) → label_in labels.present label ≡ Some x → Leads limit labels.present history (closing label ∷ []) labels_new history_new []
    → LineStopped limit stops.Answer text labels history labels_new history_new written written wrong
stopped_line_close limit text labels labels_new history history_new written wrong label x item found leads = record {
  item = close label;
  item_is = item;
  stopped = rw found (stopped_close limit [] label (closing label ∷ []) labels.present history labels_new history_new [] written written wrong refl leads (sym (with_nothing written)));
}

pub played_no_close : (limit : Limits) (text : List ℕ) (labels : LabelsView) (history : List Entry) (written : Option (List ℕ)) (label : ℕ)
    → item_of text ≡ Some (close label) → label_in labels.present label ≡ None → IsPlayed limit text labels history labels history written written
played_no_close limit text labels history written label item none = record {
  item = close label;
  more = [];
  item_is = item;
  labels_are = ap (λ (ls : List Label). record labels { present = ls }) (sym (without-none labels.present label none));
  leads = rw none (λ output. ap (λ (out : List ℕ). stage labels.present history out) (append-nil output));
  written_is = sym (with_nothing written);
}

-- ---- how large the labels are

small-weaker : (labels : List Label) (most more : ℕ) → most ≤ more → AreSmall labels most → AreSmall labels more
small-weaker labels most more le small = each-weaker (λ x. size_of_label x ≤ most) (λ x. size_of_label x ≤ more) labels (λ x is. omega (arith, le, is)) small

pub small-line : (labels : List Label) (lines : ℕ) → AreSmall labels (8191 * lines) → AreSmall labels (8191 * (lines + 1))
small-line labels lines small = small-weaker labels (8191 * lines) (8191 * (lines + 1)) (omega arith) small

pub small-closed : (labels : List Label) (label lines : ℕ) → AreSmall labels (8191 * lines) → AreSmall (without_label label labels) (8191 * (lines + 1))
small-closed labels label lines small = all-without (λ x. size_of_label x ≤ 8191 * (lines + 1)) label labels (small-line labels lines small)

small-opened : (known : Option Label) (labels : LabelsView) (label most : ℕ) → AreSmall labels.present most → AreSmall (opened_labels known labels label).present most
small-opened (Some x) labels label most small = small
small-opened None labels label most small = each-push (λ x. size_of_label x ≤ most) labels.present (new_label label labels.opened) small (omega arith)

fed_small : (x : Label) (bytes : List ℕ) → size_of_label (fed_label x bytes) ≤ size_of_label x + length bytes
fed_small x bytes = omega (arith, commands_left (x.kept ++ bytes), length-append x.kept bytes)

small-fed_by : (bad_met : Bool) (labels : List Label) (x : Label) (bytes : List ℕ) (most : ℕ) → AreSmall labels most → size_of_label (fed_label x bytes) ≤ most
    → AreSmall (cond bad_met (without_label x.label labels) (replaced (fed_label x bytes) labels)) most
small-fed_by true labels x bytes most small le = all-without (λ y. size_of_label y ≤ most) x.label labels small
small-fed_by false labels x bytes most small le = all-replaced (λ y. size_of_label y ≤ most) labels (fed_label x bytes) small le

-- before a piece is played, and after it
pub small_before : (labels opened : LabelsView) (label lines : ℕ) (bytes : List ℕ) → AreSmall labels.present (8191 * lines) → opened ≡ opened_labels (label_in labels.present label) labels label → length bytes ≤ 8191
    → size_of_label (opened_label (label_in labels.present label) label labels.opened) + length bytes ≤ 8191 * (lines + 1)
small_before labels opened label lines bytes small opened_is most =
    let known = label_in labels.present label in
    let opens : AreSmall opened.present (8191 * lines) = rw opened_is (small-opened known labels label (8191 * lines) small) in
    let le = of_found (λ x. size_of_label x ≤ 8191 * lines) opened.present label (opened_label known label labels.opened) opens (opened_at labels opened label opened_is) in
    omega (arith, le, most)

pub small_piece : (labels opened labels_new : LabelsView) (label lines : ℕ) (bytes : List ℕ) → AreSmall labels.present (8191 * lines) → opened ≡ opened_labels (label_in labels.present label) labels label → length bytes ≤ 8191
    → ((x : Label) → label_in opened.present label ≡ Some x → labels_new ≡ fed_labels x bytes opened) → AreSmall labels_new.present (8191 * (lines + 1))
small_piece labels opened labels_new label lines bytes small opened_is most fed =
    let known = label_in labels.present label in
    let x = opened_label known label labels.opened in
    let opens : AreSmall opened.present (8191 * lines) = rw opened_is (small-opened known labels label (8191 * lines) small) in
    let le : size_of_label (fed_label x bytes) ≤ 8191 * (lines + 1) = omega (arith, fed_small x bytes, small_before labels opened label lines bytes small opened_is most) in
    rw (fed x (opened_at labels opened label opened_is)) (small-fed_by (meets_bad_size (x.kept ++ bytes)) opened.present x bytes (8191 * (lines + 1)) (small-line opened.present lines opens) le)

opened_few : (known : Option Label) (labels : LabelsView) (label : ℕ) → (opened_labels known labels label).opened ≤ labels.opened + 1
opened_few (Some x) labels label = omega arith
opened_few None labels label = omega arith

pub few_piece : (labels opened labels_new : LabelsView) (label lines : ℕ) (bytes : List ℕ) → labels.opened ≤ lines → opened ≡ opened_labels (label_in labels.present label) labels label
    → ((x : Label) → label_in opened.present label ≡ Some x → labels_new ≡ fed_labels x bytes opened) → labels_new.opened ≤ lines + 1
few_piece labels opened labels_new label lines bytes few opened_is fed =
    let known = label_in labels.present label in
    rw (fed (opened_label known label labels.opened) (opened_at labels opened label opened_is), opened_is) (omega (arith, few, opened_few known labels label))
