-- Lemmas on the lines of a script and the calls that they make.
use Rattle.std.proofs.Common.{◌≡◌, ◌<◌, ◌≤◌, ◌+◌, ◌-◌, ℕ, Bool, true, false, cond, eqb, List, [], ◌∷◌, ◌++◌, length, drop, Option, Some, None, refl, sym, ap, subst, ◌∙◌, append_assoc, eq-eqb, arith, inl, inr, length-append}
use Rattle.std.specs.Prelude.{map, nat_lt}
use Rattle.std.proofs.lemmas.Bool.{eqb-true, cases_lt, le-ltb}
use Rattle.std.proofs.lemmas.List.{append-nil}
use Rattle.link_port.specs.Port.{with_more}
use Rattle.tab_spec.specs.Frame as cutting
use Rattle.tab_spec.specs.Frame.{frames, frames_within, left_within, left_of, is_bad, commands_of, commands, meets_bad_size}
use Rattle.tab_laws.proofs.Cuts.{behind, stream_goes_on, left_goes_on}
use Rattle.history_spec.specs.Cancels.{canceled_up_to}
use Rattle.script_spec.specs.declared.TheConstants.{LINE_BYTES, SCRIPT_BYTES}
use Rattle.history_spec.specs.Entry.{Entry}
use Rattle.history_spec.specs.Told.{Limits}
use Rattle.script_spec.specs.Script.{ScriptItem, piece, close, item_of, lines_of, text_of, Script, script, script_from, with_item, end, bad_line}
use Rattle.script_spec.specs.Calls.{Call, opening, Stream, bytes_of, fed, without_stream, so_far, after_piece, new_items, item_commands, numbered, ending_calls, stream_calls, piece_calls, close_calls, item_calls, after_item, calls_from, labels_from, labels_by}
use Rattle.script_spec.specs.Plays.{at_start}
use Rattle.script_lines.specs.declared.label.Label.{Label}
use Rattle.script_lines.specs.declared.reader.Line.{Line}
use Rattle.script_lines.specs.declared.reader.Line.TheVariants.{Text, End, TooLong}
use Rattle.script_player.specs.declared.stop.Stop.{Stop}
use Rattle.script_player.specs.declared.stop.Stop.TheVariants as stops
use Rattle.script_lines.specs.Labels.{LabelsView, no_labels, label_in, new_label, replaced, without_label}
use Rattle.script_lines.specs.Lines.{LinesView, GaveLine, IsTooLong, ReadNext, CutShort, HasPulled}
use Rattle.script_player.specs.Play.{TellsFull, stage, opened_label, opened_labels, opening_calls, fed_calls, fed_label, fed_labels, closed_calls, calls_on, labels_after, IsCarried, Carries, ScriptGoesOn, IsRead, StillToCome, HasPlayed, IsPlayed, Stopped, PlayedUpTo, OpensLabel, IsPulledUpTo, most_pulled}
use Rattle.script_player.proofs.Writing.{with_more-append}
use Rattle.script_player.proofs.Relabeling.{same_some, is_found, found_by_name, label_in-push, map-push, map-replaced, names-without, without-none}
use Rattle.script_player.proofs.Playing.{plays_on, with_nothing}

-- ---- a line

-- a good line that was given out, and the script of the lines after it
pub script_line_on : (number room : ℕ) (line text : List ℕ) (more : List (List ℕ)) (room_after : ℕ) (item : ScriptItem) → text ≡ text_of line → length line ≤ room → room_after ≡ room - length line → item_of text ≡ Some item
    → script_from number room (line ∷ more) ≡ with_item item (script_from (number + 1) room_after more)
unfolding script_from
script_line_on number room line text more room_after item text_is le room_is good =
    let fits : nat_lt room (length line) ≡ false = le-ltb room (length line) le in
    let is_item : item_of (text_of line) ≡ Some item = ap item_of (sym text_is) ∙ good in
    rw (room_is, fits, is_item) refl

pub script_bad : (number room : ℕ) (before text after : List ℕ) (room_after : ℕ) → GaveLine before room text after room_after → item_of text ≡ None
    → script_from number room (lines_of before) ≡ record { items = []; ending = bad_line number }
unfolding script_from
script_bad number room before text after room_after gave bad =
    let fits : nat_lt room (length gave.line) ≡ false = le-ltb room (length gave.line) gave.fits in
    let is_item : item_of (text_of gave.line) ≡ None = ap item_of (sym gave.text_is) ∙ bad in
    rw (gave.lines, fits, is_item) refl

pub script_too_long : (number room : ℕ) (before : List ℕ) → IsTooLong before room → script_from number room (lines_of before) ≡ record { items = []; ending = bad_line number }
unfolding script_from
script_too_long number room before long =
    elim (cases_lt room (length long.line)) [
      | inl past ↦ let over : nat_lt room (length long.line) ≡ true = grind arith in rw (long.lines, over) refl
      | inr within ↦
          let fits : nat_lt room (length long.line) ≡ false = le-ltb room (length long.line) within in
          let more : LINE_BYTES < length (text_of long.line) = elim long.too_long [ inl past ↦ absurd (omega arith) | inr more ↦ more ] in
          let over : nat_lt LINE_BYTES (length (text_of long.line)) ≡ true = grind arith in
          rw (long.lines, fits, over) refl
    ]

pub script_end : (number room : ℕ) → script_from number room (lines_of []) ≡ record { items = []; ending = end }
unfolding script_from
script_end number room = refl

-- ---- bytes on a label's stream

drop_front : (xs ys : List cutting.StreamItem) → drop (length xs) (xs ++ ys) ≡ ys
drop_front [] ys = refl
drop_front (x ∷ xs) ys = drop_front xs ys

commands_of-append : (xs ys : List cutting.StreamItem) → commands_of (xs ++ ys) ≡ commands_of xs ++ commands_of ys
commands_of-append [] ys = refl
commands_of-append (cutting.command c ∷ xs) ys = ap (λ (cs : List (List ℕ)). c ∷ cs) (commands_of-append xs ys)
commands_of-append (cutting.cancel ∷ xs) ys = commands_of-append xs ys

-- a stream is cut further as what the label keeps is
cut_on : (x : Label) (s : Stream) (bytes : List ℕ) → IsCarried x s → frames (s.bytes ++ bytes) ≡ behind (frames s.bytes).items (frames (x.kept ++ bytes))
cut_on x s bytes carried = stream_goes_on s.bytes bytes ∙ ap (λ (kept : List ℕ). behind (frames s.bytes).items (frames (kept ++ bytes))) (sym carried.kept_is)

bad_on : (x : Label) (s : Stream) (bytes : List ℕ) → IsCarried x s → meets_bad_size (s.bytes ++ bytes) ≡ meets_bad_size (x.kept ++ bytes)
bad_on x s bytes carried = ap (λ (f : cutting.Frames). is_bad f.ending) (cut_on x s bytes carried)

new_items_are : (x : Label) (s : Stream) (bytes : List ℕ) → IsCarried x s → new_items s.bytes bytes ≡ (frames (x.kept ++ bytes)).items
new_items_are x s bytes carried =
    ap (λ (f : cutting.Frames). drop (length (frames s.bytes).items) f.items) (cut_on x s bytes carried)
    ∙ drop_front (frames s.bytes).items (frames (x.kept ++ bytes)).items

-- the calls are those of the label
calls_on_stream : (x : Label) (s : Stream) (label : ℕ) (bytes : List ℕ) → IsCarried x s → x.label ≡ label → fed_calls x bytes ≡ stream_calls label s.bytes bytes
calls_on_stream x s label bytes carried name =
    let items : List cutting.StreamItem = (frames (x.kept ++ bytes)).items in
    ap (λ (l : ℕ). item_commands l x.commands items ++ ending_calls l (meets_bad_size (x.kept ++ bytes))) name
    ∙ ap (λ (n : ℕ). item_commands label n items ++ ending_calls label (meets_bad_size (x.kept ++ bytes))) (sym carried.count)
    ∙ ap (λ (is : List cutting.StreamItem). item_commands label (length (commands s.bytes)) is ++ ending_calls label (meets_bad_size (x.kept ++ bytes))) (sym (new_items_are x s bytes carried))
    ∙ ap (λ (b : Bool). item_commands label (length (commands s.bytes)) (new_items s.bytes bytes) ++ ending_calls label b) (sym (bad_on x s bytes carried))

-- the label carries the stream further, where no bad size is met
carried_on : (x : Label) (s : Stream) (bytes : List ℕ) → meets_bad_size (x.kept ++ bytes) ≡ false → IsCarried x s → IsCarried (fed_label x bytes) (record { label = s.label; bytes = s.bytes ++ bytes })
carried_on x s bytes good carried = record {
  label_is = carried.label_is;
  sound = bad_on x s bytes carried ∙ good;
  kept_is = sym (left_goes_on s.bytes bytes ∙ ap (λ (kept : List ℕ). left_of (kept ++ bytes)) (sym carried.kept_is));
  count = ap (λ (f : cutting.Frames). length (commands_of f.items)) (cut_on x s bytes carried)
      ∙ ap length (commands_of-append (frames s.bytes).items (frames (x.kept ++ bytes)).items)
      ∙ length-append (commands s.bytes) (commands (x.kept ++ bytes))
      ∙ ap (λ (n : ℕ). n + length (commands (x.kept ++ bytes))) carried.count;
}

nothing_is_good : meets_bad_size [] ≡ false
unfolding frames_within
nothing_is_good = refl

nothing_is_left : left_of [] ≡ []
unfolding left_within
nothing_is_left = refl

no_commands : length (commands []) ≡ 0
unfolding frames_within
no_commands = refl

carried_none : (label client : ℕ) → IsCarried (new_label label client) (record { label = label; bytes = [] })
carried_none label client = record { label_is = refl; sound = nothing_is_good; kept_is = sym nothing_is_left; count = no_commands }

-- ---- the streams of the labels

pub record HasStream (streams : List Stream) (label : ℕ) (x : Label) : Type 0 where
  pub stream : Stream
  pub found : bytes_of streams label ≡ Some stream.bytes
  pub carried : IsCarried x stream

has_stream : (labels : List Label) (streams : List Stream) (label : ℕ) (x : Label) → Carries labels streams → label_in labels label ≡ Some x → HasStream streams label x
has_stream [] streams label x carries e = absurd cc
has_stream (y ∷ ys) [] label x carries e = absurd carries
has_stream (y ∷ ys) (s ∷ ss) label x carries e =
    elim (eqb y.label label) as (λ b. eqb y.label label ≡ b → cond b (Some y) (label_in ys label) ≡ Some x → HasStream (s ∷ ss) label x) [
      | true ↦ λ same h.
          let here : eqb s.label label ≡ true = ap (λ (n : ℕ). eqb n label) carries.0.label_is ∙ same in
          record {
            stream = s;
            found = rw here refl;
            carried = subst (λ (z : Label). IsCarried z s) (same_some h) carries.0;
          }
      | false ↦ λ other h.
          let rest = has_stream ys ss label x carries.1 h in
          let not_here : eqb s.label label ≡ false = ap (λ (n : ℕ). eqb n label) carries.0.label_is ∙ other in
          record {
            stream = rest.stream;
            found = rw not_here rest.found;
            carried = rest.carried;
          }
    ] refl e

no_stream : (labels : List Label) (streams : List Stream) (label : ℕ) → Carries labels streams → label_in labels label ≡ None → bytes_of streams label ≡ None
no_stream [] [] label carries e = refl
no_stream [] (s ∷ ss) label carries e = absurd carries
no_stream (y ∷ ys) [] label carries e = absurd carries
no_stream (y ∷ ys) (s ∷ ss) label carries e =
    elim (eqb y.label label) as (λ b. eqb y.label label ≡ b → cond b (Some y) (label_in ys label) ≡ None → bytes_of (s ∷ ss) label ≡ None) [
      | true ↦ λ same h. absurd cc
      | false ↦ λ other h.
          let not_here : eqb s.label label ≡ false = ap (λ (n : ℕ). eqb n label) carries.0.label_is ∙ other in
          rw not_here (no_stream ys ss label carries.1 h)
    ] refl e

-- the streams with one more, on which nothing came
abbrev with_stream : List Stream → ℕ → List Stream
with_stream streams label = streams ++ record { label = label; bytes = [] } ∷ []

carries_open : (labels : List Label) (streams : List Stream) (label client : ℕ) → Carries labels streams → Carries (labels ++ new_label label client ∷ []) (with_stream streams label)
carries_open [] [] label client carries = (carried_none label client, tt)
carries_open [] (s ∷ ss) label client carries = absurd carries
carries_open (x ∷ xs) [] label client carries = absurd carries
carries_open (x ∷ xs) (s ∷ ss) label client carries = (carries.0, carries_open xs ss label client carries.1)

bytes_of-with : (streams : List Stream) (label : ℕ) → bytes_of streams label ≡ None → bytes_of (with_stream streams label) label ≡ Some []
bytes_of-with [] label none = rw (eq-eqb label label refl) refl
bytes_of-with (s ∷ ss) label none =
    elim (eqb s.label label) as (λ b. cond b (Some s.bytes) (bytes_of ss label) ≡ None → cond b (Some s.bytes) (bytes_of (with_stream ss label) label) ≡ Some []) [
      | true ↦ λ h. absurd cc
      | false ↦ λ h. bytes_of-with ss label h
    ] none

fed-with : (streams : List Stream) (label : ℕ) (bytes : List ℕ) → bytes_of streams label ≡ None → fed (with_stream streams label) label bytes ≡ fed streams label bytes
fed-with [] label bytes none = rw (eq-eqb label label refl) refl
fed-with (s ∷ ss) label bytes none =
    elim (eqb s.label label) as (λ b. cond b (Some s.bytes) (bytes_of ss label) ≡ None
    → cond b (record { label = label; bytes = s.bytes ++ bytes } ∷ with_stream ss label) (s ∷ fed (with_stream ss label) label bytes) ≡ cond b (record { label = label; bytes = s.bytes ++ bytes } ∷ ss) (s ∷ fed ss label bytes)) [
      | true ↦ λ h. absurd cc
      | false ↦ λ h. ap (λ (streams : List Stream). s ∷ streams) (fed-with ss label bytes h)
    ] none

without-with : (streams : List Stream) (label : ℕ) → bytes_of streams label ≡ None → without_stream label (with_stream streams label) ≡ without_stream label streams
without-with [] label none = rw (eq-eqb label label refl) refl
without-with (s ∷ ss) label none =
    elim (eqb s.label label) as (λ b. cond b (Some s.bytes) (bytes_of ss label) ≡ None
    → cond b (with_stream ss label) (s ∷ without_stream label (with_stream ss label)) ≡ cond b ss (s ∷ without_stream label ss)) [
      | true ↦ λ h. absurd cc
      | false ↦ λ h. ap (λ (streams : List Stream). s ∷ streams) (without-with ss label h)
    ] none

-- a piece comes on a stream that is opened for it as on one that was open
both : {A : Type 0} {x y u v : A} (b : Bool) → x ≡ u → y ≡ v → cond b x y ≡ cond b u v
both true same other = same
both false same other = other

after-with : (streams : List Stream) (label : ℕ) (bytes : List ℕ) → bytes_of streams label ≡ None → after_piece (with_stream streams label) label bytes ≡ after_piece streams label bytes
after-with streams label bytes none =
    rw (bytes_of-with streams label none, none) (both (meets_bad_size bytes) (without-with streams label none) (fed-with streams label bytes none))

-- ---- the streams after a piece

carries_fed : (labels : List Label) (streams : List Stream) (label : ℕ) (bytes : List ℕ) (x : Label) → Carries labels streams → meets_bad_size (x.kept ++ bytes) ≡ false → label_in labels label ≡ Some x
    → Carries (replaced (fed_label x bytes) labels) (fed streams label bytes)
carries_fed [] streams label bytes x carries good e = absurd cc
carries_fed (y ∷ ys) [] label bytes x carries good e = absurd carries
carries_fed (y ∷ ys) (s ∷ ss) label bytes x carries good e =
    let name = (is_found (y ∷ ys) label x e).label_is in
    elim (eqb y.label label) as (λ b. eqb y.label label ≡ b → cond b (Some y) (label_in ys label) ≡ Some x → Carries (replaced (fed_label x bytes) (y ∷ ys)) (fed (s ∷ ss) label bytes)) [
      | true ↦ λ same h.
          let here : eqb s.label label ≡ true = ap (λ (n : ℕ). eqb n label) carries.0.label_is ∙ same in
          let there : eqb y.label x.label ≡ true = ap (eqb y.label) name ∙ same in
          let named : label ≡ s.label = sym (eqb-true s.label label here) in
          let on = carried_on x s bytes good (subst (λ (z : Label). IsCarried z s) (same_some h) carries.0) in
          let at_label = subst (λ (n : ℕ). IsCarried (fed_label x bytes) (record { label = n; bytes = s.bytes ++ bytes })) (sym named) on in
          rw (there, here) (at_label, carries.1)
      | false ↦ λ other h.
          let not_here : eqb s.label label ≡ false = ap (λ (n : ℕ). eqb n label) carries.0.label_is ∙ other in
          let not_there : eqb y.label x.label ≡ false = ap (eqb y.label) name ∙ other in
          rw (not_there, not_here) (carries.0, carries_fed ys ss label bytes x carries.1 good h)
    ] refl e

carries_without : (labels : List Label) (streams : List Stream) (label : ℕ) → Carries labels streams → Carries (without_label label labels) (without_stream label streams)
carries_without [] [] label carries = tt
carries_without [] (s ∷ ss) label carries = absurd carries
carries_without (y ∷ ys) [] label carries = absurd carries
carries_without (y ∷ ys) (s ∷ ss) label carries =
    elim (eqb y.label label) as (λ b. eqb y.label label ≡ b → Carries (cond b ys (y ∷ without_label label ys)) (without_stream label (s ∷ ss))) [
      | true ↦ λ same. let here : eqb s.label label ≡ true = ap (λ (n : ℕ). eqb n label) carries.0.label_is ∙ same in rw here carries.1
      | false ↦ λ other. let not_here : eqb s.label label ≡ false = ap (λ (n : ℕ). eqb n label) carries.0.label_is ∙ other in rw not_here (carries.0, carries_without ys ss label carries.1)
    ] refl

carries_piece_by : (bad_met : Bool) (labels : LabelsView) (streams : List Stream) (label : ℕ) (bytes : List ℕ) (x : Label) → Carries labels.present streams → meets_bad_size (x.kept ++ bytes) ≡ bad_met → label_in labels.present label ≡ Some x
    → Carries (cond bad_met (without_label x.label labels.present) (replaced (fed_label x bytes) labels.present)) (cond bad_met (without_stream label streams) (fed streams label bytes))
carries_piece_by true labels streams label bytes x carries met e =
    subst (λ (l : ℕ). Carries (without_label l labels.present) (without_stream label streams)) (sym (is_found labels.present label x e).label_is) (carries_without labels.present streams label carries)
carries_piece_by false labels streams label bytes x carries met e = carries_fed labels.present streams label bytes x carries met e

carries_piece : (labels : LabelsView) (streams : List Stream) (label : ℕ) (bytes : List ℕ) (x : Label) → Carries labels.present streams → label_in labels.present label ≡ Some x
    → Carries (fed_labels x bytes labels).present (after_piece streams label bytes)
carries_piece labels streams label bytes x carries e =
    let s = has_stream labels.present streams label x carries e in
    let met : meets_bad_size (s.stream.bytes ++ bytes) ≡ meets_bad_size (x.kept ++ bytes) = bad_on x s.stream bytes s.carried in
    rw (s.found, met) (carries_piece_by (meets_bad_size (x.kept ++ bytes)) labels streams label bytes x carries refl e)

-- ---- the calls of an item, and the labels after it

calls_known : (labels : LabelsView) (streams : List Stream) (label : ℕ) (bytes : List ℕ) (known : Option Label) → Carries labels.present streams → label_in labels.present label ≡ known
    → opening_calls known label ++ fed_calls (opened_label known label labels.opened) bytes ≡ piece_calls (bytes_of streams label) label bytes
calls_known labels streams label bytes None carries e =
    rw (no_stream labels.present streams label carries e)
    (ap (λ (cs : List Call). opening label ∷ cs) (calls_on_stream (new_label label labels.opened) (record { label = label; bytes = [] }) label bytes (carried_none label labels.opened) refl))
calls_known labels streams label bytes (Some x) carries e =
    let s = has_stream labels.present streams label x carries e in
    rw s.found (calls_on_stream x s.stream label bytes s.carried (is_found labels.present label x e).label_is)

closes_known : (labels : LabelsView) (streams : List Stream) (label : ℕ) (known : Option Label) → Carries labels.present streams → label_in labels.present label ≡ known → closed_calls known label ≡ close_calls (bytes_of streams label) label
closes_known labels streams label None carries e = rw (no_stream labels.present streams label carries e) refl
closes_known labels streams label (Some x) carries e = rw (has_stream labels.present streams label x carries e).found refl

pub calls_are : (labels : LabelsView) (streams : List Stream) (item : ScriptItem) → Carries labels.present streams → calls_on labels item ≡ item_calls streams item
calls_are labels streams (piece label bytes) carries = calls_known labels streams label bytes (label_in labels.present label) carries refl
calls_are labels streams (close label) carries = closes_known labels streams label (label_in labels.present label) carries refl

carries_known : (labels : LabelsView) (streams : List Stream) (label : ℕ) (bytes : List ℕ) (known : Option Label) → Carries labels.present streams → label_in labels.present label ≡ known
    → Carries (fed_labels (opened_label known label labels.opened) bytes (opened_labels known labels label)).present (after_piece streams label bytes)
carries_known labels streams label bytes (Some x) carries e = carries_piece labels streams label bytes x carries e
carries_known labels streams label bytes None carries e =
    let x : Label = new_label label labels.opened in
    let opened : LabelsView = record { present = labels.present ++ x ∷ []; opened = labels.opened + 1 } in
    let found : label_in opened.present label ≡ Some x = label_in-push labels.present x e in
    subst (λ (ss : List Stream). Carries (fed_labels x bytes opened).present ss) (after-with streams label bytes (no_stream labels.present streams label carries e))
    (carries_piece opened (with_stream streams label) label bytes x (carries_open labels.present streams label labels.opened carries) found)

pub carries_on : (labels : LabelsView) (streams : List Stream) (item : ScriptItem) → Carries labels.present streams → Carries (labels_after labels item).present (after_item streams item)
carries_on labels streams (piece label bytes) carries = carries_known labels streams label bytes (label_in labels.present label) carries refl
carries_on labels streams (close label) carries = carries_without labels.present streams label carries

-- ---- the labels that calls leave open

pub labels_from-append : (labels : List ℕ) (xs ys : List Call) → labels_from labels (xs ++ ys) ≡ labels_from (labels_from labels xs) ys
labels_from-append labels [] ys = refl
labels_from-append labels (x ∷ xs) ys = labels_from-append (labels_by x labels) xs ys

labels_from-numbered : (labels : List ℕ) (label number : ℕ) (upto : Option ℕ) (commands : List (List ℕ)) → labels_from labels (numbered label number upto commands) ≡ labels
labels_from-numbered labels label number upto [] = refl
labels_from-numbered labels label number upto (command ∷ commands) = labels_from-numbered labels label (number + 1) upto commands

abbrev names_of : List Label → List ℕ
names_of labels = map (λ x. x.label) labels

names-opened : (known : Option Label) (labels : LabelsView) (label : ℕ) → labels_from (names_of labels.present) (opening_calls known label) ≡ names_of (opened_labels known labels label).present
names-opened (Some x) labels label = refl
names-opened None labels label = sym (map-push (λ (y : Label). y.label) labels.present (new_label label labels.opened))

names-ended : (bad_met : Bool) (labels : List Label) (x y : Label) → label_in labels x.label ≡ Some y → x.label ≡ y.label
    → labels_from (names_of labels) (ending_calls x.label bad_met) ≡ names_of (cond bad_met (without_label x.label labels) (replaced x labels))
names-ended true labels x y found same = sym (names-without x.label labels)
names-ended false labels x y found same = sym (map-replaced (λ (z : Label). z.label) labels x y found same)

names-fed : (labels : LabelsView) (label : ℕ) (x : Label) (bytes : List ℕ) → label_in labels.present label ≡ Some x → labels_from (names_of labels.present) (fed_calls x bytes) ≡ names_of (fed_labels x bytes labels).present
names-fed labels label x bytes e =
    let found : label_in labels.present x.label ≡ Some x = found_by_name labels.present label x e in
    let items : List cutting.StreamItem = (frames (x.kept ++ bytes)).items in
    labels_from-append (names_of labels.present) (item_commands x.label x.commands items) (ending_calls x.label (meets_bad_size (x.kept ++ bytes)))
    ∙ ap (λ (ns : List ℕ). labels_from ns (ending_calls x.label (meets_bad_size (x.kept ++ bytes))))
    (labels_from-numbered (names_of labels.present) x.label (x.commands + 1) (canceled_up_to x.commands items) (commands_of items))
    ∙ names-ended (meets_bad_size (x.kept ++ bytes)) labels.present (fed_label x bytes) x found refl

pub opened_found : (known : Option Label) (labels : LabelsView) (label : ℕ) → label_in labels.present label ≡ known → label_in (opened_labels known labels label).present label ≡ Some (opened_label known label labels.opened)
opened_found (Some x) labels label e = e
opened_found None labels label e = label_in-push labels.present (new_label label labels.opened) e

names-closed : (known : Option Label) (labels : List Label) (label : ℕ) → label_in labels label ≡ known → labels_from (names_of labels) (closed_calls known label) ≡ names_of (without_label label labels)
names-closed (Some x) labels label e = sym (names-without label labels)
names-closed None labels label e = ap names_of (sym (without-none labels label e))

pub names_after : (labels : LabelsView) (item : ScriptItem) → labels_from (names_of labels.present) (calls_on labels item) ≡ names_of (labels_after labels item).present
names_after labels (piece label bytes) =
    let known = label_in labels.present label in
    labels_from-append (names_of labels.present) (opening_calls known label) (fed_calls (opened_label known label labels.opened) bytes)
    ∙ ap (λ (ns : List ℕ). labels_from ns (fed_calls (opened_label known label labels.opened) bytes)) (names-opened known labels label)
    ∙ names-fed (opened_labels known labels label) label (opened_label known label labels.opened) bytes (opened_found known labels label refl)
names_after labels (close label) = names-closed (label_in labels.present label) labels.present label refl

-- ---- one more line

-- what an input makes, by what was made of it and what is still to come
pub come_to : (done : List Call) (streams : List Stream) (number room : ℕ) (pending all rest : List ℕ) → IsRead done streams number room pending all rest
    → ScriptGoesOn done streams (script all) (script_from number room (lines_of (pending ++ rest)))
come_to done streams number room pending all rest read =
    subst (λ (ls : List (List ℕ)). ScriptGoesOn done streams (script_from 1 SCRIPT_BYTES ls) (script_from number room (lines_of (pending ++ rest)))) (sym read.all_is) (read.goes_on (lines_of (pending ++ rest)))

-- one more good line, whatever lines follow
goes_on_line : (done : List Call) (streams : List Stream) (number room : ℕ) (lines : List (List ℕ)) (line text : List ℕ) (room_after : ℕ) (item : ScriptItem) (calls : List Call) (more : List (List ℕ))
    → ((after : List (List ℕ)) → ScriptGoesOn done streams (script_from 1 SCRIPT_BYTES (lines ++ after)) (script_from number room after))
    → text ≡ text_of line → length line ≤ room → room_after ≡ room - length line → item_of text ≡ Some item → calls ≡ item_calls streams item
    → ScriptGoesOn (done ++ calls) (after_item streams item) (script_from 1 SCRIPT_BYTES ((lines ++ line ∷ []) ++ more)) (script_from (number + 1) room_after more)
goes_on_line done streams number room lines line text room_after item calls more goes_on text_is le room_is good is_calls =
    let rest = script_from (number + 1) room_after more in
    let before = goes_on (line ∷ more) in
    let first : script_from number room (line ∷ more) ≡ with_item item rest = script_line_on number room line text more room_after item text_is le room_is good in
    let same : (lines ++ line ∷ []) ++ more ≡ lines ++ line ∷ more = append_assoc lines (line ∷ []) more in
    record {
      items = ap (λ (ls : List (List ℕ)). calls_from [] (script_from 1 SCRIPT_BYTES ls).items) same ∙ before.items ∙ ap (λ (t : Script). done ++ calls_from streams t.items) first
          ∙ sym (append_assoc done (item_calls streams item) (calls_from (after_item streams item) rest.items))
          ∙ ap (λ (cs : List Call). (done ++ cs) ++ calls_from (after_item streams item) rest.items) (sym is_calls);
      ending = ap (λ (ls : List (List ℕ)). (script_from 1 SCRIPT_BYTES ls).ending) same ∙ before.ending ∙ ap (λ (t : Script). t.ending) first;
    }

-- what is to come of the script once a good line was read
pub to_come_on : (done : List Call) (streams : List Stream) (number : ℕ) (lines_old lines_new : LinesView) (given left left_new : Option (List ℕ)) (text : List ℕ) (item : ScriptItem) (calls : List Call)
    → StillToCome done streams number lines_old.room lines_old.pending given left → ReadNext Text lines_old left text lines_new left_new → item_of text ≡ Some item
    → calls ≡ item_calls streams item
    → StillToCome (done ++ calls) (after_item streams item) (number + 1) lines_new.room lines_new.pending given left_new
to_come_on done streams number lines_old lines_new given None left_new text item calls so_far next good is_calls all is_given = absurd (let was = so_far all is_given in let none : None ≡ Some was.0 = was.1 in cc)
to_come_on done streams number lines_old lines_new given (Some more) left_new text item calls so_far next good is_calls all is_given =
    let was = so_far all is_given in
    let read = was.2 in
    let gave = next.2 in
    let same : was.0 ≡ more = sym (same_some was.1) in
    let left_is : lines_of (lines_old.pending ++ was.0) ≡ gave.line ∷ lines_of (lines_new.pending ++ next.0) = ap (λ (m : List ℕ). lines_of (lines_old.pending ++ m)) same ∙ gave.lines in (
      next.0,
      next.1,
      record {
        lines = read.lines ++ gave.line ∷ [];
        all_is = read.all_is ∙ ap (λ (ls : List (List ℕ)). read.lines ++ ls) left_is ∙ sym (append_assoc read.lines (gave.line ∷ []) (lines_of (lines_new.pending ++ next.0)));
        goes_on = λ after. goes_on_line done streams number lines_old.room read.lines gave.line text lines_new.room item calls after read.goes_on gave.text_is gave.fits gave.room_is good is_calls;
      },
    )

pub has_played_on : (limit : Limits) (labels : LabelsView) (history : List Entry) (labels_new : LabelsView) (history_new : List Entry) (number : ℕ) (lines_old lines_new : LinesView) (given left left_new start written written_new : Option (List ℕ)) (text : List ℕ)
    → HasPlayed limit labels history number lines_old.room lines_old.pending given left start written → ReadNext Text lines_old left text lines_new left_new
    → IsPlayed limit text labels history labels_new history_new written written_new
    → HasPlayed limit labels_new history_new (number + 1) lines_new.room lines_new.pending given left_new start written_new
has_played_on limit labels history labels_new history_new number lines_old lines_new given left left_new start written written_new text so_far next played =
    let calls = calls_on labels played.item in
    record {
      done = so_far.done ++ calls;
      streams = after_item so_far.streams played.item;
      output = so_far.output ++ played.more;
      plays = plays_on limit at_start (stage labels.present history so_far.output) (stage labels_new.present history_new (so_far.output ++ played.more)) so_far.done calls so_far.plays (played.leads so_far.output);
      carries = rw played.labels_are (carries_on labels so_far.streams played.item so_far.carries);
      left_open = labels_from-append [] so_far.done calls ∙ ap (λ (ns : List ℕ). labels_from ns calls) so_far.left_open ∙ names_after labels played.item ∙ ap (λ (v : LabelsView). map (λ x. x.label) v.present) (sym played.labels_are);
      written_is = played.written_is ∙ ap (λ (w : Option (List ℕ)). with_more w played.more) so_far.written_is ∙ with_more-append start so_far.output played.more;
      to_come = to_come_on so_far.done so_far.streams number lines_old lines_new given left left_new text played.item calls so_far.to_come next played.item_is (calls_are labels so_far.streams played.item so_far.carries);
    }

pub has_played_none : (limit : Limits) (given written : Option (List ℕ)) (labels : LabelsView) (history : List Entry) (number room : ℕ) (pending : List ℕ) → labels ≡ no_labels → history ≡ [] → number ≡ 1 → room ≡ SCRIPT_BYTES → pending ≡ []
    → HasPlayed limit labels history number room pending given given written written
has_played_none limit given written labels history number room pending none no_history first whole_room nothing = rw (none, no_history, first, whole_room, nothing) (record {
  done = [];
  streams = [];
  output = [];
  plays = refl;
  carries = tt;
  left_open = refl;
  written_is = sym (with_nothing written);
  to_come = λ all is_given. (all, is_given, record { lines = []; all_is = refl; goes_on = λ more. record { items = refl; ending = refl } });
})

-- ---- why no more is played

-- what is left of the script
what_is_left : (done : List Call) (streams : List Stream) (number room : ℕ) (pending : List ℕ) (given : Option (List ℕ)) (more all : List ℕ) (rest : Script) → StillToCome done streams number room pending given (Some more)
    → script_from number room (lines_of (pending ++ more)) ≡ rest → given ≡ Some all
    → (calls_from [] (script all).items ≡ done ++ calls_from streams rest.items) × ((script all).ending ≡ rest.ending)
what_is_left done streams number room pending given more all rest so_far is_rest is_given =
    let was = so_far all is_given in
    let same : more ≡ was.0 = same_some was.1 in
    let before : script_from number room (lines_of (pending ++ was.0)) ≡ rest = ap (λ (m : List ℕ). script_from number room (lines_of (pending ++ m))) (sym same) ∙ is_rest in
    let come = come_to done streams number room pending all was.0 was.2 in
    (come.items ∙ ap (λ (t : Script). done ++ calls_from streams t.items) before, come.ending ∙ ap (λ (t : Script). t.ending) before)

-- the stop comes of this line
abbrev pub StopsAfter : Stop → Line → List ℕ → ℕ → LabelsView → Type 0
StopsAfter stops.End End text number labels = Unit {0}
StopsAfter stops.End Text text number labels = ⊥
StopsAfter stops.End TooLong text number labels = ⊥
StopsAfter (stops.BadLine n) End text number labels = ⊥
StopsAfter (stops.BadLine n) Text text number labels = (item_of text ≡ None) × (n ≡ number)
StopsAfter (stops.BadLine n) TooLong text number labels = n ≡ number
StopsAfter stops.Memory Text text number labels = OpensLabel text labels
StopsAfter stops.Memory End text number labels = ⊥
StopsAfter stops.Memory TooLong text number labels = ⊥
StopsAfter (stops.Full n) Text text number labels = OpensLabel text labels
StopsAfter (stops.Full n) End text number labels = ⊥
StopsAfter (stops.Full n) TooLong text number labels = ⊥
StopsAfter (stops.Output n) line text number labels = Unit {0}
StopsAfter (stops.Input n) line text number labels = ⊥
StopsAfter stops.Answer line text number labels = Unit {0}

-- where a label isn't open its line begins with an opening
memory_told : (done : List Call) (streams : List Stream) (number : ℕ) (old new : LinesView) (given : Option (List ℕ)) (more rest all text : List ℕ) (labels : LabelsView)
    → StillToCome done streams number old.room old.pending given (Some more) → GaveLine (old.pending ++ more) old.room text (new.pending ++ rest) new.room
    → OpensLabel text labels → Carries labels.present streams → given ≡ Some all → Stopped stops.Memory done all (Some rest)
memory_told done streams number old new given more rest all text labels so_far gave opens carries is_given =
    let label = opens.0 in
    let bytes = opens.1 in
    let item = piece label bytes in
    let others = script_from (number + 1) new.room (lines_of (new.pending ++ rest)) in
    let first : script_from number old.room (lines_of (old.pending ++ more)) ≡ with_item item others = ap (λ (ls : List (List ℕ)). script_from number old.room ls) gave.lines
    ∙ script_line_on number old.room gave.line text (lines_of (new.pending ++ rest)) new.room item gave.text_is gave.fits gave.room_is opens.2 in
    let come = what_is_left done streams number old.room old.pending given more all (with_item item others) so_far first is_given in
    let none : bytes_of streams label ≡ None = no_stream labels.present streams label carries opens.3 in (
      label,
      stream_calls label [] bytes ++ calls_from (after_item streams item) others.items,
      come.0 ∙ ap (λ (known : Option (List ℕ)). done ++ (piece_calls known label bytes ++ calls_from (after_item streams item) others.items)) none,
    )

stopped_told : (limit : Limits) (stop : Stop) (done : List Call) (streams : List Stream) (number : ℕ) (old new : LinesView) (given left left_new : Option (List ℕ)) (text : List ℕ) (line : Line) (labels : LabelsView)
    → StillToCome done streams number old.room old.pending given left → ReadNext line old left text new left_new → StopsAfter stop line text number labels → Carries labels.present streams
    → (all : List ℕ) → given ≡ Some all → Stopped stop done all left_new
stopped_told limit stop done streams number old new given None left_new text line labels so_far next stops carries all is_given = absurd (let was = so_far all is_given in let none : None ≡ Some was.0 = was.1 in cc)
stopped_told limit stops.End done streams number old new given (Some more) left_new text End labels so_far next after carries all is_given =
    let rest = what_is_left done streams number old.room old.pending given more all (record { items = []; ending = end }) so_far (ap (λ (b : List ℕ). script_from number old.room (lines_of b)) next.2.0 ∙ script_end number old.room) is_given in
    (rest.0 ∙ append-nil done, rest.1)
stopped_told limit (stops.BadLine n) done streams number old new given (Some more) left_new text TooLong labels so_far next after carries all is_given =
    let rest = what_is_left done streams number old.room old.pending given more all (record { items = []; ending = bad_line number }) so_far (script_too_long number old.room (old.pending ++ more) next.2) is_given in
    (rest.0 ∙ append-nil done, rest.1 ∙ ap bad_line (sym after))
stopped_told limit (stops.BadLine n) done streams number old new given (Some more) left_new text Text labels so_far next after carries all is_given =
    let rest = what_is_left done streams number old.room old.pending given more all (record { items = []; ending = bad_line number }) so_far (script_bad number old.room (old.pending ++ more) text (new.pending ++ next.0) new.room next.2 after.0) is_given in
    (rest.0 ∙ append-nil done, rest.1 ∙ ap bad_line (sym after.1))
stopped_told limit stops.Memory done streams number old new given (Some more) left_new text Text labels so_far next after carries all is_given =
    memory_told done streams number old new given more next.0 all text labels so_far next.2 after carries is_given
stopped_told limit (stops.Full n) done streams number old new given (Some more) left_new text Text labels so_far next after carries all is_given =
    memory_told done streams number old new given more next.0 all text labels so_far next.2 after carries is_given
stopped_told limit (stops.Full n) done streams number old new given (Some more) left_new text End labels so_far next after carries all is_given = absurd after
stopped_told limit (stops.Full n) done streams number old new given (Some more) left_new text TooLong labels so_far next after carries all is_given = absurd after
stopped_told limit stops.Memory done streams number old new given (Some more) left_new text End labels so_far next after carries all is_given = absurd after
stopped_told limit stops.Memory done streams number old new given (Some more) left_new text TooLong labels so_far next after carries all is_given = absurd after
stopped_told limit stops.End done streams number old new given (Some more) left_new text Text labels so_far next after carries all is_given = absurd after
stopped_told limit stops.End done streams number old new given (Some more) left_new text TooLong labels so_far next after carries all is_given = absurd after
stopped_told limit (stops.BadLine n) done streams number old new given (Some more) left_new text End labels so_far next after carries all is_given = absurd after
stopped_told limit (stops.Output n) done streams number old new given (Some more) left_new text line labels so_far next after carries all is_given = tt
stopped_told limit (stops.Input n) done streams number old new given (Some more) left_new text line labels so_far next after carries all is_given = absurd after
stopped_told limit stops.Answer done streams number old new given (Some more) left_new text line labels so_far next after carries all is_given = tt

-- no more is played after what came next
pub played_stops : (limit : Limits) (stop : Stop) (labels : LabelsView) (history : List Entry) (number : ℕ) (old new : LinesView) (given left left_new start written : Option (List ℕ)) (text : List ℕ) (line : Line)
    → HasPlayed limit labels history number old.room old.pending given left start written → ReadNext line old left text new left_new → StopsAfter stop line text number labels → TellsFull limit.bytes stop history
    → PlayedUpTo limit stop labels.present history given left_new start written
played_stops limit stop labels history number old new given left left_new start written text line so_far next stops full = record {
  done = so_far.done;
  output = so_far.output;
  plays = so_far.plays;
  left_open = so_far.left_open;
  written_is = so_far.written_is;
  full = full;
  stopped = stopped_told limit stop so_far.done so_far.streams number old new given left left_new text line labels so_far.to_come next stops so_far.carries;
}

-- no more is played where the input failed within a line
failed_told : (count : ℕ) (done : List Call) (streams : List Stream) (number : ℕ) (old : LinesView) (given left left_new : Option (List ℕ))
    → StillToCome done streams number old.room old.pending given left → CutShort old left left_new → (all : List ℕ) → given ≡ Some all → Stopped (stops.Input count) done all left_new
failed_told count done streams number old given None left_new so_far short all is_given = absurd (let was = so_far all is_given in let none : None ≡ Some was.0 = was.1 in cc)
failed_told count done streams number old given (Some more) left_new so_far short all is_given =
    let was = so_far all is_given in
    let read = was.2 in
    let cut = short.0 in
    let rest = short.1 in
    let same : was.0 ≡ more = sym (same_some was.1) in
    let left_is : lines_of (old.pending ++ was.0) ≡ lines_of (cut ++ rest) = ap (λ (m : List ℕ). lines_of (old.pending ++ m)) same ∙ ap lines_of short.3 in
    let ends = read.goes_on [] in (
      rest,
      short.2,
      record {
        lines = read.lines;
        cut = cut;
        all_is = read.all_is ∙ ap (λ (ls : List (List ℕ)). read.lines ++ ls) left_is;
        is_cut = short.4;
        short = short.5;
        calls_are = ap (λ (ls : List (List ℕ)). calls_from [] (script_from 1 SCRIPT_BYTES ls).items) (sym (append-nil read.lines)) ∙ ends.items ∙ ap (λ (t : Script). done ++ calls_from streams t.items) (script_end number old.room) ∙ append-nil done;
        good = ap (λ (ls : List (List ℕ)). (script_from 1 SCRIPT_BYTES ls).ending) (sym (append-nil read.lines)) ∙ ends.ending ∙ ap (λ (t : Script). t.ending) (script_end number old.room);
      },
    )

pub played_fails : (limit : Limits) (count : ℕ) (labels : LabelsView) (history : List Entry) (number : ℕ) (old : LinesView) (given left left_new start written : Option (List ℕ))
    → HasPlayed limit labels history number old.room old.pending given left start written → CutShort old left left_new → PlayedUpTo limit (stops.Input count) labels.present history given left_new start written
played_fails limit count labels history number old given left left_new start written so_far short = record {
  done = so_far.done;
  output = so_far.output;
  plays = so_far.plays;
  left_open = so_far.left_open;
  written_is = so_far.written_is;
  full = λ number is. absurd cc;
  stopped = failed_told count so_far.done so_far.streams number old given left left_new so_far.to_come short;
}

-- ---- how much is pulled

pub pulled_none : (given : Option (List ℕ)) (lines : LinesView) → HasPulled lines given lines given
pulled_none None lines = refl
pulled_none (Some all) lines = (all, refl, refl)

pub pulled_on : (given left left_new : Option (List ℕ)) (first old new : LinesView) → HasPulled first given old left → HasPulled old left new left_new
    → HasPulled first given new left_new
pulled_on None left left_new first old new was next = rw was at next
pulled_on (Some all) left left_new first old new was next =
    let on = rw was.1 at next in
    let sum = was.2 in
    let more = on.2 in
    (on.0, on.1, omega arith)

-- a stop that comes of the input's failure
abbrev pub IsOfInput : Stop → Type 0
IsOfInput stops.End = ⊥
IsOfInput (stops.BadLine number) = ⊥
IsOfInput stops.Memory = ⊥
IsOfInput (stops.Full count) = ⊥
IsOfInput (stops.Output count) = ⊥
IsOfInput (stops.Input count) = Unit {0}
IsOfInput stops.Answer = ⊥

pulled_most : (stop : Stop) (pending room : ℕ) → pending ≤ room + 1 → (IsOfInput stop → pending ≡ 0) → pending + SCRIPT_BYTES ≤ room + most_pulled stop
pulled_most stops.End pending room ahead ended = omega (arith, ahead)
pulled_most (stops.BadLine n) pending room ahead ended = omega (arith, ahead)
pulled_most stops.Memory pending room ahead ended = omega (arith, ahead)
pulled_most (stops.Full n) pending room ahead ended = omega (arith, ahead)
pulled_most (stops.Output n) pending room ahead ended = omega (arith, ahead)
pulled_most (stops.Input n) pending room ahead ended = omega (arith, ended tt)
pulled_most stops.Answer pending room ahead ended = omega (arith, ahead)

pub pulled_all : (stop : Stop) (given left : Option (List ℕ)) (first now : LinesView) → HasPulled first given now left → first ≡ record { pending = []; room = SCRIPT_BYTES }
    → length now.pending ≤ now.room + 1 → (IsOfInput stop → now.pending ≡ []) → IsPulledUpTo (most_pulled stop) given left
pulled_all stop None left first now pulled fresh ahead ended all rest is_given is_left = absurd cc
pulled_all stop (Some xs) left first now pulled fresh ahead ended all rest is_given is_left =
    let same = ap length (same_some is_given) in
    let same_rest = ap length (same_some (sym pulled.1 ∙ is_left)) in
    let sum = rw fresh at pulled.2 in
    omega (arith, same, same_rest, sum, pulled_most stop (length now.pending) now.room ahead (λ of_input. ap length (ended of_input)))
