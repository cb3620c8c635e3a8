-- Lemmas on the labels, the history and the calls of a script.
use Rattle.std.proofs.Common.{◌≡◌, ◌<◌, ◌≤◌, ◌+◌, ℕ, Bool, true, false, cond, eqb, List, [], ◌∷◌, ◌++◌, Option, Some, None, refl, sym, ap, subst, ◌∙◌, append_assoc, eq-eqb, ltb, arith, inl, inr}
use Rattle.std.specs.Prelude.{map, ◌&&◌, ◌||◌}
use Rattle.std.specs.List.{AllByRecursion, find}
use Rattle.std.proofs.lemmas.Bool.{le-ltb}
use Rattle.std.proofs.lemmas.List.{append-nil}
use Rattle.history_spec.specs.declared.EntryKind.TheVariants.{Open, Command, Canceled, Fault, Close}
use Rattle.history_spec.specs.declared.EntryKind.{EntryKind}
use Rattle.history_spec.specs.Entry.{Entry, Clients, open_entry, close_entry, clients_of, clients_by, is_close_kind, opened_by, part_before, present_by, own, IsOpen, IsNextNumber}
use Rattle.broker_lock.proofs.Orderly.{clients_of-push}
use Rattle.history_spec.specs.Told.{IsToldFull, IsToldMemory, MayBeTold, entry_of, Limits}
use Rattle.script_spec.specs.Plays.{Stage, PlaysTo, Plays1, client_of, IsKindOf, IsEntryFor, MayAddEntry, IsLabelAnswered, reply_line}
use Rattle.tab_spec.specs.declared.TheConstants.{RC_COMMAND_SIZE}
use Rattle.tab_spec.specs.Reply.{error_reply}
use Rattle.link_port.specs.Port.{with_more}
use Rattle.script_spec.specs.Calls.{Call, command as run_command, bad_size, closing}
use Rattle.script_lines.specs.declared.label.Label.{Label}
use Rattle.script_lines.specs.Labels.{LabelsView, no_labels, label_in, new_label, counted, replaced, without_label}
use Rattle.script_player.specs.Play.{holder_of, stage, ClientsRise, NumbersUpTo, Fits, Leads}
use Rattle.broker_lock.specs.declared.calls.Told.{Told as ToldOf}
use Rattle.broker_lock.specs.declared.calls.Told.TheVariants as tolds
use Rattle.script_player.proofs.Entries.{ToldAs}
use Rattle.script_player.proofs.Relabeling.{each-push, each-weaker, same_some, eqb_refl, not_eqb, map-push, is_found, of_found, rise-found, rise-push, rise-replaced, rise-without, map-replaced, all-replaced, all-without, holders-without, clients-without}

-- ---- one step after another

pub plays_on : (limit : Limits) (a b c : Stage) (calls more : List Call) → PlaysTo limit a calls b → PlaysTo limit b more c → PlaysTo limit a (calls ++ more) c
plays_on limit a b c [] more first second = subst (λ (s : Stage). PlaysTo limit s more c) first second
plays_on limit a b c (call ∷ calls) more first second = (first.0, first.1, plays_on limit first.0 b c calls more first.2 second)

pub plays_once : (limit : Limits) (a b : Stage) (call : Call) → Plays1 limit a call b → PlaysTo limit a (call ∷ []) b
plays_once limit a b call step = (b, step, refl)

clients_stay_at : (clients : Clients) (client : ℕ) (covered : Option ℕ) (kind : EntryKind) → IsKindOf covered kind
    → record { opened = opened_by kind clients.opened; present = present_by kind client clients.present } ≡ clients
clients_stay_at clients client None Open is = absurd is
clients_stay_at clients client None Command is = refl
clients_stay_at clients client None (Canceled upto) is = absurd is
clients_stay_at clients client None Fault is = refl
clients_stay_at clients client None Close is = absurd is
clients_stay_at clients client (Some most) kind is = rw is refl

-- a command's entry opens and closes nobody
clients_stay : (clients : Clients) (covered : Option ℕ) (e : Entry) → IsKindOf covered e.kind → clients_by clients e ≡ clients
clients_stay clients covered e kind = clients_stay_at clients e.client covered e.kind kind

-- ---- the entries of a client

pub own-push : (history : List Entry) (e : Entry) (client : ℕ) → own (history ++ e ∷ []) client ≡ own history client ++ own (e ∷ []) client
own-push [] e client = refl
own-push (x ∷ history) e client =
    elim (eqb x.client client) as (λ b. cond b (x ∷ own (history ++ e ∷ []) client) (own (history ++ e ∷ []) client) ≡ cond b (x ∷ own history client) (own history client) ++ own (e ∷ []) client) [
      | true ↦ ap (λ (es : List Entry). x ∷ es) (own-push history e client)
      | false ↦ own-push history e client
    ]

pub own-push_same : (history : List Entry) (e : Entry) (client : ℕ) → e.client ≡ client → own (history ++ e ∷ []) client ≡ own history client ++ e ∷ []
own-push_same history e client same = own-push history e client ∙ ap (λ (b : Bool). own history client ++ cond b (e ∷ []) []) (eq-eqb e.client client same)

pub own-push_other : (history : List Entry) (e : Entry) (client : ℕ) → (e.client ≡ client → ⊥) → own (history ++ e ∷ []) client ≡ own history client
own-push_other history e client other =
    own-push history e client ∙ ap (λ (b : Bool). own history client ++ cond b (e ∷ []) []) (not_eqb e.client client other) ∙ append-nil (own history client)

-- a client above all those that have entries has none
pub own_above : (history : List Entry) (bound client : ℕ) → AllByRecursion (λ e. e.client < bound) history → bound ≤ client → own history client ≡ []
own_above [] bound client all le = refl
own_above (e ∷ history) bound client all le =
    let other : e.client ≡ client → ⊥ = λ same. omega (arith, all.0) in
    rw (not_eqb e.client client other) (own_above history bound client all.1 le)

-- ---- what is told

pub find-push_none : (entries : List Entry) (number : ℕ) → AllByRecursion (λ e. e.number < number) entries → find (λ e. eqb e.number number) entries ≡ None
find-push_none [] number all = refl
find-push_none (e ∷ entries) number all =
    let other : e.number ≡ number → ⊥ = λ same. omega (arith, all.0) in
    rw (not_eqb e.number number other) (find-push_none entries number all.1)

pub find-push_some : (entries : List Entry) (e : Entry) → AllByRecursion (λ x. x.number < e.number) entries → find (λ x. eqb x.number e.number) (entries ++ e ∷ []) ≡ Some e
find-push_some [] e all = rw eqb_refl refl
find-push_some (x ∷ entries) e all =
    let other : x.number ≡ e.number → ⊥ = λ same. omega (arith, all.0) in
    rw (not_eqb x.number e.number other) (find-push_some entries e all.1)

-- ---- the numbers of the entries

-- what holds of an entry of an open client that so many commands came from
abbrev IsNumbered : ℕ → Entry → Type 0
IsNumbered most e = (e.number ≤ most) × (is_close_kind e.kind ≡ false)

-- an entry that is no command's and no close's raises none
numbers-push_zero : (history : List Entry) (e : Entry) (client most : ℕ) → e.number ≡ 0 → is_close_kind e.kind ≡ false → NumbersUpTo history client most → NumbersUpTo (history ++ e ∷ []) client most
numbers-push_zero history e client most zero_number opens all =
    elim (eqb e.client client) as (λ b. own (history ++ e ∷ []) client ≡ own history client ++ cond b (e ∷ []) [] → NumbersUpTo (history ++ e ∷ []) client most) [
      | true ↦ λ is. subst (λ (es : List Entry). AllByRecursion (λ x. IsNumbered most x) es) (sym is) (each-push (λ x. IsNumbered most x) (own history client) e all (omega (arith, zero_number), opens))
      | false ↦ λ is. subst (λ (es : List Entry). AllByRecursion (λ x. IsNumbered most x) es) (sym (is ∙ append-nil (own history client))) all
    ] (own-push history e client)

numbers-weaker : (history : List Entry) (client most more : ℕ) → most ≤ more → NumbersUpTo history client most → NumbersUpTo history client more
numbers-weaker history client most more le all = each-weaker (λ x. IsNumbered most x) (λ x. IsNumbered more x) (own history client) (λ x small. (omega (arith, le, small.0), small.1)) all

counts-push_zero : (history : List Entry) (e : Entry) (labels : List Label) → e.number ≡ 0 → is_close_kind e.kind ≡ false → AllByRecursion (λ x. NumbersUpTo history x.client x.commands) labels
    → AllByRecursion (λ x. NumbersUpTo (history ++ e ∷ []) x.client x.commands) labels
counts-push_zero history e labels zero_number opens all =
    each-weaker (λ x. NumbersUpTo history x.client x.commands) (λ x. NumbersUpTo (history ++ e ∷ []) x.client x.commands) labels (λ x numbers. numbers-push_zero history e x.client x.commands zero_number opens numbers) all

-- the entries of the other clients stay
counts_other : (history : List Entry) (e : Entry) (n below : ℕ) (labels : List Label) → ClientsRise n labels below → e.client < n → AllByRecursion (λ x. NumbersUpTo history x.client x.commands) labels
    → AllByRecursion (λ x. NumbersUpTo (history ++ e ∷ []) x.client x.commands) labels
counts_other history e n below [] rise lt all = tt
counts_other history e n below (x ∷ xs) rise lt all =
    let other : e.client ≡ x.client → ⊥ = λ same. omega (arith, rise.0, same, lt) in (
      subst (λ (es : List Entry). AllByRecursion (λ y. IsNumbered x.commands y) es) (sym (own-push_other history e x.client other)) all.0,
      counts_other history e (x.client + 1) below xs rise.2 (omega (arith, rise.0, lt)) all.1,
    )

-- an entry of the label's client, whose number the label counts now
counts-entered : (history : List Entry) (e : Entry) (n below : ℕ) (labels : List Label) (x y : Label) → ClientsRise n labels below → label_in labels x.label ≡ Some y → x.client ≡ y.client
    → e.client ≡ x.client → IsNumbered x.commands e → y.commands ≤ x.commands → AllByRecursion (λ z. NumbersUpTo history z.client z.commands) labels
    → AllByRecursion (λ z. NumbersUpTo (history ++ e ∷ []) z.client z.commands) (replaced x labels)
counts-entered history e n below [] x y rise found same client number more all = absurd cc
counts-entered history e n below (z ∷ zs) x y rise found same client number more all =
    elim (eqb z.label x.label) as (λ b. cond b (Some z) (label_in zs x.label) ≡ Some y → AllByRecursion (λ w. NumbersUpTo (history ++ e ∷ []) w.client w.commands) (cond b (x ∷ zs) (z ∷ replaced x zs))) [
      | true ↦ λ h.
          let is_z : y ≡ z = sym (same_some h) in
          let of_client : x.client ≡ z.client = same ∙ ap (λ (l : Label). l.client) is_z in
          let numbers = subst (λ (c : ℕ). NumbersUpTo history c x.commands) (sym of_client) (numbers-weaker history z.client z.commands x.commands (omega (arith, more, ap (λ (l : Label). l.commands) is_z)) all.0) in (
            subst (λ (es : List Entry). AllByRecursion (λ w. IsNumbered x.commands w) es) (sym (own-push_same history e x.client client)) (each-push (λ w. IsNumbered x.commands w) (own history x.client) e numbers number),
            counts_other history e (z.client + 1) below zs rise.2 (omega (arith, client, of_client)) all.1,
          )
      | false ↦ λ h.
          let above = rise-found (z.client + 1) below zs x.label y rise.2 h in
          let other : e.client ≡ z.client → ⊥ = λ is. omega (arith, above.0, same, client, is) in (
            subst (λ (es : List Entry). AllByRecursion (λ w. IsNumbered z.commands w) es) (sym (own-push_other history e z.client other)) all.0,
            counts-entered history e (z.client + 1) below zs x y rise.2 h same client number more all.1,
          )
    ] found

-- an entry of a client that no label of these has changes nothing of theirs
counts_elsewhere : (history : List Entry) (e : Entry) (labels : List Label) → AllByRecursion (λ x. e.client ≡ x.client → ⊥) labels → AllByRecursion (λ x. NumbersUpTo history x.client x.commands) labels
    → AllByRecursion (λ x. NumbersUpTo (history ++ e ∷ []) x.client x.commands) labels
counts_elsewhere history e [] others all = tt
counts_elsewhere history e (x ∷ xs) others all = (
  subst (λ (es : List Entry). AllByRecursion (λ y. IsNumbered x.commands y) es) (sym (own-push_other history e x.client others.0)) all.0,
  counts_elsewhere history e xs others.1 all.1,
)

-- the other labels have other clients
above_others : (client n below : ℕ) (labels : List Label) → ClientsRise n labels below → client < n → AllByRecursion (λ x. client ≡ x.client → ⊥) labels
above_others client n below [] rise lt = tt
above_others client n below (x ∷ xs) rise lt = ((λ same. omega (arith, rise.0, lt, same)), above_others client (x.client + 1) below xs rise.2 (omega (arith, rise.0, lt)))

others_left : (n below label : ℕ) (labels : List Label) (x : Label) → ClientsRise n labels below → label_in labels label ≡ Some x → AllByRecursion (λ y. x.client ≡ y.client → ⊥) (without_label label labels)
others_left n below label [] x rise found = absurd cc
others_left n below label (y ∷ ys) x rise found =
    elim (eqb y.label label) as (λ b. cond b (Some y) (label_in ys label) ≡ Some x → AllByRecursion (λ z. x.client ≡ z.client → ⊥) (cond b ys (y ∷ without_label label ys))) [
      | true ↦ λ h. above_others x.client (y.client + 1) below ys rise.2 (omega (arith, ap (λ (l : Label). l.client) (same_some h)))
      | false ↦ λ h.
          let above = rise-found (y.client + 1) below ys label x rise.2 h in
          ((λ same. omega (arith, above.0, same)), others_left (y.client + 1) below label ys x rise.2 h)
    ] found

-- ---- what comes before a client's next command

not_close : (covered : Option ℕ) (kind : EntryKind) → IsKindOf covered kind → is_close_kind kind ≡ false
not_close None Open is = absurd is
not_close None Command is = refl
not_close None (Canceled upto) is = absurd is
not_close None Fault is = refl
not_close None Close is = absurd is
not_close (Some most) kind is = ap is_close_kind is

-- no entry comes after it
before_by : (history : List Entry) (client number : ℕ) → AllByRecursion (λ e. (e.number < number) × (is_close_kind e.kind ≡ false)) (own history client) → part_before client number history ≡ history
before_by [] client number all = refl
before_by (e ∷ history) client number all =
    elim (eqb e.client client) as (λ b. AllByRecursion (λ x. (x.number < number) × (is_close_kind x.kind ≡ false)) (cond b (e ∷ own history client) (own history client))
    → cond (b && (ltb number e.number || is_close_kind e.kind)) [] (e ∷ part_before client number history) ≡ e ∷ history) [
      | true ↦ λ own_all.
          let none : (ltb number e.number || is_close_kind e.kind) ≡ false = rw (le-ltb number e.number (omega (arith, own_all.0.0)), own_all.0.1) refl in
          rw none (ap (λ (es : List Entry). e ∷ es) (before_by history client number own_all.1))
      | false ↦ λ own_all. ap (λ (es : List Entry). e ∷ es) (before_by history client number own_all)
    ] all

-- ---- the labels and the history fit

pub fits_none : (labels : LabelsView) → labels ≡ no_labels → Fits labels []
fits_none labels none = rw none (record {
  present = refl;
  opened = refl;
  rise = tt;
  known = tt;
  counts = tt;
})

pub fits-open : (labels : LabelsView) (history : List Entry) (label : ℕ) → Fits labels history
    → Fits (record { present = labels.present ++ new_label label labels.opened ∷ []; opened = labels.opened + 1 }) (history ++ open_entry labels.opened ∷ [])
fits-open labels history label fits =
    let x : Label = new_label label labels.opened in
    let e : Entry = open_entry labels.opened in
    let above : own history labels.opened ≡ [] = own_above history labels.opened labels.opened fits.known (omega arith) in
    record {
      present = rw clients_of-push (rw (map-push (λ (y : Label). y.client) labels.present x, fits.present) refl);
      opened = rw clients_of-push (omega (arith, fits.opened));
      rise = rise-push 0 labels.opened labels.present x fits.rise (omega arith) refl;
      known = each-push (λ y. y.client < labels.opened + 1) history e (each-weaker (λ y. y.client < labels.opened) (λ y. y.client < labels.opened + 1) history (λ y lt. omega arith) fits.known) (omega arith);
      counts = each-push (λ y. NumbersUpTo (history ++ e ∷ []) y.client y.commands) labels.present x
          (counts-push_zero history e labels.present refl refl fits.counts)
          (numbers-push_zero history e labels.opened 0 refl refl (subst (λ (es : List Entry). AllByRecursion (λ y. IsNumbered 0 y) es) (sym above) tt));
    }

pub record IsReady (labels : LabelsView) (history : List Entry) (x : Label) : Type 0 where
  pub is_open : IsOpen history x.client
  pub is_next : IsNextNumber history x.client (x.commands + 1)
  pub before : part_before x.client (x.commands + 1) history ≡ history
  pub holder : client_of (map holder_of labels.present) x.label ≡ Some x.client
  pub known : x.client < labels.opened

-- what a value wants of a label's next command
pub is_ready : (labels : LabelsView) (history : List Entry) (x : Label) → Fits labels history → label_in labels.present x.label ≡ Some x → IsReady labels history x
is_ready labels history x fits found =
    let place = is_found labels.present x.label x found in
    let numbers = of_found (λ y. NumbersUpTo history y.client y.commands) labels.present x.label x fits.counts found in
    record {
      is_open = rw fits.present place.present;
      is_next = record {
        positive = omega arith;
        above = each-weaker (λ e. IsNumbered x.commands e) (λ e. e.number < x.commands + 1) (own history x.client) (λ e is. omega (arith, is.0)) numbers;
      };
      before = before_by history x.client (x.commands + 1)
          (each-weaker (λ e. IsNumbered x.commands e) (λ e. (e.number < x.commands + 1) × (is_close_kind e.kind ≡ false)) (own history x.client) (λ e is. (omega (arith, is.0), is.1)) numbers);
      holder = place.holder;
      known = (rise-found 0 labels.opened labels.present x.label x fits.rise found).1;
    }

-- the label is known otherwise now, and was counted or not
pub fits-replaced : (labels : LabelsView) (history : List Entry) (x y : Label) → Fits labels history → label_in labels.present x.label ≡ Some y → x.client ≡ y.client → y.commands ≤ x.commands
    → Fits (record labels { present = replaced x labels.present }) history
fits-replaced labels history x y fits found same more =
    let numbers = of_found (λ z. NumbersUpTo history z.client z.commands) labels.present x.label y fits.counts found in
    record {
      present = fits.present ∙ sym (map-replaced (λ (z : Label). z.client) labels.present x y found same);
      opened = fits.opened;
      rise = rise-replaced 0 labels.opened labels.present x y found same fits.rise;
      known = fits.known;
      counts = all-replaced (λ z. NumbersUpTo history z.client z.commands) labels.present x fits.counts
          (subst (λ (c : ℕ). NumbersUpTo history c x.commands) (sym same) (numbers-weaker history y.client y.commands x.commands more numbers));
    }

-- an entry of a command leaves the clients as they are
fits-entered : (labels : LabelsView) (history : List Entry) (x : Label) (covered : Option ℕ) (e : Entry) → Fits labels history → label_in labels.present x.label ≡ Some x → IsKindOf covered e.kind → e.client ≡ x.client → e.number ≡ x.commands + 1
    → Fits (record labels { present = replaced (counted x) labels.present }) (history ++ e ∷ [])
fits-entered labels history x covered e fits found kind client number =
    let ready = is_ready labels history x fits found in
    let same : clients_of (history ++ e ∷ []) ≡ clients_of history = clients_of-push history e ∙ clients_stay (clients_of history) covered e kind in
    record {
      present = rw same (fits.present ∙ sym (map-replaced (λ (z : Label). z.client) labels.present (counted x) x found refl));
      opened = rw same fits.opened;
      rise = rise-replaced 0 labels.opened labels.present (counted x) x found refl fits.rise;
      known = each-push (λ y. y.client < labels.opened) history e fits.known (omega (arith, ready.known, client));
      counts = counts-entered history e 0 labels.opened labels.present (counted x) x fits.rise found refl client (omega (arith, number), not_close covered e.kind kind) (omega arith) fits.counts;
    }

pub fits-closed : (labels : LabelsView) (history : List Entry) (label : ℕ) (x : Label) → Fits labels history → label_in labels.present label ≡ Some x
    → Fits (record labels { present = without_label label labels.present }) (history ++ close_entry x.client ∷ [])
fits-closed labels history label x fits found =
    let e : Entry = close_entry x.client in
    record {
      present = rw clients_of-push (rw fits.present (sym (clients-without 0 labels.opened labels.present label x fits.rise found)));
      opened = rw clients_of-push fits.opened;
      rise = rise-without 0 labels.opened label labels.present fits.rise;
      known = each-push (λ y. y.client < labels.opened) history e fits.known (rise-found 0 labels.opened labels.present label x fits.rise found).1;
      counts = counts_elsewhere history e (without_label label labels.present) (others_left 0 labels.opened label labels.present x fits.rise found)
          (all-without (λ z. NumbersUpTo history z.client z.commands) label labels.present fits.counts);
    }

-- ---- a command that was told something

pub fits-told : (limit : Limits) (told : ToldOf) (labels : LabelsView) (old new : List Entry) (x : Label) (command : List ℕ) (covered : Option ℕ) (reply : List ℕ)
    → ToldAs limit told old new x.client (x.commands + 1) command covered reply → Fits labels old → label_in labels.present x.label ≡ Some x → Fits (record labels { present = replaced (counted x) labels.present }) new
fits-told limit tolds.Entered labels old new x command covered reply told fits found = rw told.entered (fits-entered labels old x covered told.e fits found told.entry.kind_is told.entry.client_is told.entry.number_is)
fits-told limit tolds.Memory labels old new x command covered reply told fits found = rw told.0 (fits-replaced labels old (counted x) x fits found refl (omega arith))
fits-told limit (tolds.JournalFull count most) labels old new x command covered reply told fits found = rw told.0 (fits-replaced labels old (counted x) x fits found refl (omega arith))
fits-told limit tolds.Answer labels old new x command covered reply told fits found = rw told.0 (fits-replaced labels old (counted x) x fits found refl (omega arith))

-- the entry of the client's next command is the one of its number
told_by_entry : (old : List Entry) (client number : ℕ) (e : Entry) → IsNextNumber old client number → e.client ≡ client → e.number ≡ number → entry_of (old ++ e ∷ []) client number ≡ Some e
told_by_entry old client number e next same is_number =
    let below = subst (λ (n : ℕ). AllByRecursion (λ x. x.number < n) (own old client)) (sym is_number) next.above in
    ap (λ (es : List Entry). find (λ x. eqb x.number number) es) (own-push_same old e client same)
    ∙ subst (λ (n : ℕ). find (λ x. eqb x.number n) (own old client ++ e ∷ []) ≡ Some e) is_number (find-push_some (own old client) e below)

told_entry : (limit : Limits) (old : List Entry) (client number : ℕ) (e : Entry) (command : List ℕ) (covered : Option ℕ) (reply : List ℕ) → IsNextNumber old client number → IsEntryFor client number command covered e → reply ≡ e.reply → MayBeTold (old ++ e ∷ []) limit client number command reply
told_entry limit old client number e command covered reply next entry is_reply =
    rw (told_by_entry old client number e next entry.client_is entry.number_is) (record { command_is = entry.command_is; reply_is = sym is_reply })

told_none : (limit : Limits) (old : List Entry) (client number : ℕ) (command reply : List ℕ) → IsNextNumber old client number → IsToldMemory limit.contexts command reply → MayBeTold old limit client number command reply
told_none limit old client number command reply next is_memory = rw (find-push_none (own old client) number next.above) (inl is_memory)

told_full : (limit : Limits) (old : List Entry) (client number : ℕ) (command reply : List ℕ) → IsNextNumber old client number → part_before client number old ≡ old → IsToldFull limit.bytes old command reply → MayBeTold old limit client number command reply
told_full limit old client number command reply next before full = rw (find-push_none (own old client) number next.above, before) (inr full)

-- the labels stand for the same holders
holders-counted : (labels : List Label) (x : Label) → label_in labels x.label ≡ Some x → map holder_of (replaced (counted x) labels) ≡ map holder_of labels
holders-counted labels x found = map-replaced holder_of labels (counted x) x found refl

is_answered : (limit : Limits) (labels : LabelsView) (old new : List Entry) (x : Label) (command : List ℕ) (covered : Option ℕ) (reply output : List ℕ) → Fits labels old → label_in labels.present x.label ≡ Some x
    → MayAddEntry limit.bytes old x.client (x.commands + 1) command covered new → MayBeTold new limit x.client (x.commands + 1) command reply
    → IsLabelAnswered limit (stage labels.present old output) x.label (x.commands + 1) command covered (stage (replaced (counted x) labels.present) new (output ++ reply_line x.label reply))
is_answered limit labels old new x command covered reply output fits found adds told = record {
  client = x.client;
  reply = reply;
  known = (is_ready labels old x fits found).holder;
  entry = adds;
  told = told;
  output = refl;
  holders = holders-counted labels.present x found;
}

pub leads-told : (limit : Limits) (told : ToldOf) (labels : LabelsView) (old new : List Entry) (x : Label) (command : List ℕ) (covered : Option ℕ) (reply : List ℕ)
    → ToldAs limit told old new x.client (x.commands + 1) command covered reply → (told ≡ tolds.Answer → ⊥) → Fits labels old → label_in labels.present x.label ≡ Some x
    → Leads limit labels.present old (run_command x.label (x.commands + 1) command covered ∷ []) (replaced (counted x) labels.present) new (reply_line x.label reply)
leads-told limit tolds.Entered labels old new x command covered reply told not_answer fits found output =
    let next = (is_ready labels old x fits found).is_next in
    let entered = told_entry limit old x.client (x.commands + 1) told.e command covered reply next told.entry told.reply_is in
    rw told.entered (plays_once limit (stage labels.present old output) (stage (replaced (counted x) labels.present) (old ++ told.e ∷ []) (output ++ reply_line x.label reply)) (run_command x.label (x.commands + 1) command covered)
    (is_answered limit labels old (old ++ told.e ∷ []) x command covered reply output fits found (inr (told.e, refl, told.entry, told.room)) entered))
leads-told limit tolds.Memory labels old new x command covered reply told not_answer fits found output =
    let next = (is_ready labels old x fits found).is_next in
    rw told.0 (plays_once limit (stage labels.present old output) (stage (replaced (counted x) labels.present) old (output ++ reply_line x.label reply)) (run_command x.label (x.commands + 1) command covered) (is_answered limit labels old old x command covered reply output fits found (inl refl) (told_none limit old x.client (x.commands + 1) command reply next told.1)))
leads-told limit (tolds.JournalFull count most) labels old new x command covered reply told not_answer fits found output =
    let ready = is_ready labels old x fits found in
    rw told.0 (plays_once limit (stage labels.present old output) (stage (replaced (counted x) labels.present) old (output ++ reply_line x.label reply)) (run_command x.label (x.commands + 1) command covered) (is_answered limit labels old old x command covered reply output fits found (inl refl) (told_full limit old x.client (x.commands + 1) command reply ready.is_next ready.before told.1)))
leads-told limit tolds.Answer labels old new x command covered reply told not_answer fits found output = absurd (not_answer refl)

-- ---- calls one after another

pub leads_on : (limit : Limits) (a b c : List Label) (h k l : List Entry) (calls more : List Call) (first second : List ℕ) → Leads limit a h calls b k first → Leads limit b k more c l second → Leads limit a h (calls ++ more) c l (first ++ second)
leads_on limit a b c h k l calls more first second one two output =
    subst (λ (out : List ℕ). PlaysTo limit (stage a h output) (calls ++ more) (stage c l out)) (append_assoc output first second)
    (plays_on limit (stage a h output) (stage b k (output ++ first)) (stage c l ((output ++ first) ++ second)) calls more (one output) (two (output ++ first)))

pub with_nothing : (written : Option (List ℕ)) → with_more written [] ≡ written
with_nothing None = refl
with_nothing (Some bytes) = ap Some (append-nil bytes)

-- no call was made, and a label is known otherwise
pub leads_none : (limit : Limits) (labels : List Label) (history : List Entry) (x y : Label) → label_in labels x.label ≡ Some y → holder_of x ≡ holder_of y → Leads limit labels history [] (replaced x labels) history []
leads_none limit labels history x y found same output = rw (map-replaced holder_of labels x y found same, append-nil output) refl

-- an open label is told of a bad size
pub leads_bad : (limit : Limits) (labels : List Label) (history : List Entry) (label : ℕ) (x : Label) → label_in labels label ≡ Some x → Leads limit labels history (bad_size label ∷ []) labels history (reply_line label (error_reply RC_COMMAND_SIZE))
leads_bad limit labels history label x found output =
    plays_once limit (stage labels history output) (stage labels history (output ++ reply_line label (error_reply RC_COMMAND_SIZE))) (bad_size label) (x.client, (is_found labels label x found).holder, refl)

-- an open label is closed
pub leads_closed : (limit : Limits) (labels : List Label) (history : List Entry) (label : ℕ) (x : Label) → label_in labels label ≡ Some x → Leads limit labels history (closing label ∷ []) (without_label label labels) (history ++ close_entry x.client ∷ []) []
leads_closed limit labels history label x found output =
    rw (append-nil output) (plays_once limit (stage labels history output) (stage (without_label label labels) (history ++ close_entry x.client ∷ []) output) (closing label)
    (x.client, (is_found labels label x found).holder, rw holders-without refl))

-- ---- the closes at the end

pub found-first : (x : Label) (xs : List Label) → label_in (x ∷ xs) x.label ≡ Some x
found-first x xs = rw eqb_refl refl

without-first : (x : Label) (xs : List Label) → without_label x.label (x ∷ xs) ≡ xs
without-first x xs = rw eqb_refl refl

-- the first label is closed
pub fits-closed_first : (labels : LabelsView) (history : List Entry) (x : Label) (xs : List Label) → labels.present ≡ x ∷ xs → Fits labels history → Fits (record labels { present = xs }) (history ++ close_entry x.client ∷ [])
fits-closed_first labels history x xs is fits =
    let found : label_in labels.present x.label ≡ Some x = rw is (found-first x xs) in
    let left : without_label x.label labels.present ≡ xs = rw is (without-first x xs) in
    subst (λ (ls : List Label). Fits (record labels { present = ls }) (history ++ close_entry x.client ∷ [])) left (fits-closed labels history x.label x fits found)

-- the closes of the labels that are left come behind those that were made
pub leads_closing : (limit : Limits) (start labels : List Label) (begun history : List Entry) (done : List ℕ) (x : Label) (xs : List Label) → labels ≡ x ∷ xs
    → Leads limit start begun (map closing done) labels history [] → Leads limit start begun (map closing (done ++ x.label ∷ [])) xs (history ++ close_entry x.client ∷ []) []
leads_closing limit start labels begun history done x xs is leads =
    let one = leads_closed limit (x ∷ xs) history x.label x (found-first x xs) in
    let closes = subst (λ (ls : List Label). Leads limit (x ∷ xs) history (closing x.label ∷ []) ls (history ++ close_entry x.client ∷ []) []) (without-first x xs) one in
    let so_far = subst (λ (ls : List Label). Leads limit start begun (map closing done) ls history []) is leads in
    rw map-push (leads_on limit start (x ∷ xs) xs begun history (history ++ close_entry x.client ∷ []) (map closing done) (closing x.label ∷ []) [] [] so_far closes)
