-- What a client is told stays told where its history goes on.
use Rattle.std.proofs.Common.{◌≡◌, ◌<◌, ◌≤◌, ◌+◌, ℕ, Bool, true, false, cond, eqb, ltb, List, [], ◌∷◌, ◌++◌, length, Option, Some, None, refl, sym, ap, subst, ◌∙◌, append_assoc, arith, length-append, inl, inr}
use Rattle.std.specs.Prelude.{◌&&◌, ◌||◌}
use Rattle.std.specs.List.{AllByRecursion, find}
use Rattle.std.specs.Option.{option_or}
use Rattle.std.proofs.lemmas.Bool.{le-ltb}
use Rattle.std.proofs.lemmas.List.{append-nil}
use Rattle.std.proofs.lemmas.List.Folds.{find-append}
use Rattle.std.proofs.lemmas.List.Sums.{sum_by_push}
use Rattle.history_spec.specs.declared.EntryKind.{EntryKind}
use Rattle.history_spec.specs.declared.EntryKind.TheVariants.{Open, Command, Canceled, Fault, Close}
use Rattle.history_spec.specs.Entry.{Clients, Entry, clients_of, is_after, is_close_kind, kept_by, own, part_before, present_by, reserved, without}
use Rattle.history_spec.specs.Told.{AnswersFrom, IsToldFull, MayBeTold, ToldBy, entry_of, Limits}
use Rattle.broker_lock.specs.Known.{Fixed, Origin, limits_of}
use Rattle.broker_lock.proofs.Knowing.{own-append}
use Rattle.broker_lock.proofs.Orderly.{clients_of-push}
use Rattle.connection_core.specs.Links.{AreRepliesFrom, DecideFrom, Decides, IsTold}

-- ---- what a journal keeps never falls

fewer_by_one : (n : ℕ) (ms : List ℕ) → length ms ≤ length (without n ms) + 1
fewer_by_one n [] = omega arith
fewer_by_one n (m ∷ ms) =
    elim (eqb m n) as (λ b. length (m ∷ ms) ≤ length (cond b ms (m ∷ without n ms)) + 1) [ true ↦ omega arith | false ↦ omega (arith, fewer_by_one n ms) ]

present_falls : (kind : EntryKind) (client : ℕ) (present : List ℕ) → length present ≤ length (present_by kind client present) + 1
present_falls Open client present = omega (arith, length-append present (client ∷ []))
present_falls Command client present = omega arith
present_falls (Canceled upto) client present = omega arith
present_falls Fault client present = omega arith
present_falls Close client present = fewer_by_one client present

reserved_push : (history : List Entry) (e : Entry) → reserved history ≤ reserved (history ++ e ∷ [])
reserved_push history e =
    omega (arith, sum_by_push kept_by history e, ap (λ (c : Clients). length c.present) (clients_of-push history e), present_falls e.kind e.client (clients_of history).present)

pub reserved_grows : (history more : List Entry) → reserved history ≤ reserved (history ++ more)
reserved_grows history [] = rw (append-nil history) (omega arith)
reserved_grows history (e ∷ more) =
    omega (arith, reserved_push history e, reserved_grows (history ++ e ∷ []) more, ap reserved (append_assoc history (e ∷ []) more))

-- ---- the part before a command

pub part_grows : (client number : ℕ) (history more : List Entry) → (rest : List Entry) × (part_before client number (history ++ more) ≡ part_before client number history ++ rest)
part_grows client number [] more = (part_before client number more, refl)
part_grows client number (e ∷ history) more =
    let tail = part_grows client number history more in
    elim (is_after client number e) as (λ b. (rest : List Entry) × (cond b [] (e ∷ part_before client number (history ++ more)) ≡ cond b [] (e ∷ part_before client number history) ++ rest)) [
      | true ↦ ([], refl)
      | false ↦ (tail.0, ap (λ (l : List Entry). e ∷ l) tail.1)
    ]

full_stays : (limit client number : ℕ) (history more : List Entry) (command reply : List ℕ) → IsToldFull limit (part_before client number history) command reply
    → IsToldFull limit (part_before client number (history ++ more)) command reply
full_stays limit client number history more command reply told =
    let grown = part_grows client number history more in
    record {
      reply_is = told.reply_is;
      lacks = omega (arith, told.lacks, reserved_grows (part_before client number history) grown.0, ap reserved grown.1);
    }

-- an entry whose number is below stands before the command
abbrev pub IsBefore : ℕ → Entry → Type 0
IsBefore number e = (e.number < number) × (is_close_kind e.kind ≡ false)

pub before_all : (client number : ℕ) (history : List Entry) → AllByRecursion (IsBefore number) (own history client) → part_before client number history ≡ history
before_all client number [] all = refl
before_all client number (e ∷ history) all =
    elim (eqb e.client client) as (λ b. AllByRecursion (IsBefore number) (cond b (e ∷ own history client) (own history client))
    → cond (b && (ltb number e.number || is_close_kind e.kind)) [] (e ∷ part_before client number history) ≡ e ∷ history) [
      | true ↦ λ own_all.
          let none : (ltb number e.number || is_close_kind e.kind) ≡ false = rw (le-ltb number e.number (omega (arith, own_all.0.0)), own_all.0.1) refl in
          rw none (ap (λ (es : List Entry). e ∷ es) (before_all client number history own_all.1))
      | false ↦ λ own_all. ap (λ (es : List Entry). e ∷ es) (before_all client number history own_all)
    ] all

-- ---- the entry of a command

entry_on : (history more : List Entry) (client number : ℕ) → entry_of (history ++ more) client number ≡ option_or (entry_of history client number) (entry_of more client number)
entry_on history more client number =
    ap (find (λ (e : Entry). eqb e.number number)) (own-append client history more) ∙ find-append (λ (e : Entry). eqb e.number number) (own history client) (own more client)

-- no entry of these has one of the numbers from 1 up to this one
abbrev pub AddsNone : (more : List Entry) (client done : ℕ) → Type 0
AddsNone more client done = (number : ℕ) → 1 ≤ number → number ≤ done → entry_of more client number ≡ None

entry_stays : (history more : List Entry) (client number : ℕ) (found : Option Entry) → entry_of more client number ≡ None → entry_of history client number ≡ found
    → entry_of (history ++ more) client number ≡ found
entry_stays history more client number found none is =
    entry_on history more client number ∙ ap (λ (o : Option Entry). option_or o (entry_of more client number)) is ∙ ap (option_or found) none ∙ or_none found
  where
    or_none : (o : Option Entry) → option_or o None ≡ o
    or_none None = refl
    or_none (Some e) = refl

told_by_stays : (limit : Limits) (client number : ℕ) (history more : List Entry) (command reply : List ℕ) (found : Option Entry)
    → ToldBy found limit (part_before client number history) command reply → ToldBy found limit (part_before client number (history ++ more)) command reply
told_by_stays limit client number history more command reply (Some e) told = told
told_by_stays limit client number history more command reply None (inl lacked) = inl lacked
told_by_stays limit client number history more command reply None (inr full) = inr (full_stays limit.bytes client number history more command reply full)

told_stays : (fixed : Fixed) (wrong new_wrong : Bool) (history more : List Entry) (client number : ℕ) (command reply : List ℕ) → entry_of more client number ≡ None → (wrong ≡ true → new_wrong ≡ true)
    → IsTold fixed wrong history client number command reply → IsTold fixed new_wrong (history ++ more) client number command reply
told_stays fixed wrong new_wrong history more client number command reply none rises (inl told) =
    let stays = entry_stays history more client number (entry_of history client number) none refl in
    inl (subst (λ (found : Option Entry). ToldBy found (limits_of fixed) (part_before client number (history ++ more)) command reply) (sym stays)
    (told_by_stays (limits_of fixed) client number history more command reply (entry_of history client number) told))
told_stays fixed wrong new_wrong history more client number command reply none rises (inr answer) =
    inr (entry_stays history more client number None none answer.0, answer.1, answer.2, rises answer.3)

replies_on : (fixed : Fixed) (wrong new_wrong : Bool) (history more : List Entry) (client number : ℕ) (list : List (List ℕ)) (bytes : List ℕ) → (wrong ≡ true → new_wrong ≡ true)
    → ((n : ℕ) → number ≤ n → n < number + length list → entry_of more client n ≡ None)
    → AreRepliesFrom fixed wrong history client number list bytes → AreRepliesFrom fixed new_wrong (history ++ more) client number list bytes
replies_on fixed wrong new_wrong history more client number [] bytes rises none replies = replies
replies_on fixed wrong new_wrong history more client number (command ∷ list) bytes rises none replies = (
  replies.0,
  replies.1,
  replies.2,
  told_stays fixed wrong new_wrong history more client number command replies.0 (none number (omega arith) (omega arith)) rises replies.3,
  replies_on fixed wrong new_wrong history more client (number + 1) list replies.1 rises (λ n above below. none n (omega arith) (omega arith)) replies.4,
)

-- the replies so far stay
pub replies_stay : (fixed : Fixed) (wrong new_wrong : Bool) (history more : List Entry) (client : ℕ) (list : List (List ℕ)) (bytes : List ℕ) → (wrong ≡ true → new_wrong ≡ true) → AddsNone more client (length list)
    → AreRepliesFrom fixed wrong history client 1 list bytes → AreRepliesFrom fixed new_wrong (history ++ more) client 1 list bytes
replies_stay fixed wrong new_wrong history more client list bytes rises none replies = replies_on fixed wrong new_wrong history more client 1 list bytes rises (λ n above below. none n above (omega arith)) replies

pub told_on : (fixed : Fixed) (wrong new_wrong : Bool) (history more : List Entry) (client number : ℕ) (command reply : List ℕ) → (wrong ≡ true → new_wrong ≡ true) → AddsNone more client number → 1 ≤ number
    → IsTold fixed wrong history client number command reply → IsTold fixed new_wrong (history ++ more) client number command reply
told_on fixed wrong new_wrong history more client number command reply rises none some told =
    told_stays fixed wrong new_wrong history more client number command reply (none number some (omega arith)) rises told

-- one reply more
pub replies_push : (fixed : Fixed) (wrong : Bool) (history : List Entry) (client number : ℕ) (list : List (List ℕ)) (bytes command reply : List ℕ)
    → AreRepliesFrom fixed wrong history client number list bytes → IsTold fixed wrong history client (number + length list) command reply
    → AreRepliesFrom fixed wrong history client number (list ++ command ∷ []) (bytes ++ reply)
replies_push fixed wrong history client number [] bytes command reply replies told = (
  reply,
  [],
  ap (λ (l : List ℕ). l ++ reply) replies ∙ sym (append-nil reply),
  subst (λ (n : ℕ). IsTold fixed wrong history client n command reply) (let e : number + 0 ≡ number = omega arith in e) told,
  refl,
)
replies_push fixed wrong history client number (first ∷ list) bytes command reply replies told = (
  replies.0,
  replies.1 ++ reply,
  ap (λ (l : List ℕ). l ++ reply) replies.2 ∙ append_assoc replies.0 replies.1 reply,
  replies.3,
  replies_push fixed wrong history client (number + 1) list replies.1 command reply replies.4
      (subst (λ (n : ℕ). IsTold fixed wrong history client n command reply) (let e : number + length (first ∷ list) ≡ number + 1 + length list = omega arith in e) told),
)

-- ---- what the loaded words say

decides_stays : (history more : List Entry) (client number word : ℕ) → entry_of more client number ≡ None → Decides history client number word → Decides (history ++ more) client number word
decides_stays history more client number word none decides e found =
    decides e (sym (entry_stays history more client number (entry_of history client number) none refl) ∙ found)

decide_on : (history more : List Entry) (client number : ℕ) (loaded : List ℕ) → ((n : ℕ) → number ≤ n → n < number + length loaded → entry_of more client n ≡ None)
    → DecideFrom history client number loaded → DecideFrom (history ++ more) client number loaded
decide_on history more client number [] none decide = tt
decide_on history more client number (word ∷ loaded) none decide = (
  decides_stays history more client number word (none number (omega arith) (omega arith)) decide.0,
  decide_on history more client (number + 1) loaded (λ n above below. none n (omega arith) (omega arith)) decide.1,
)

-- stays said where no entry of their commands is added
pub decide_stay : (history more : List Entry) (client : ℕ) (loaded : List ℕ) → AddsNone more client (length loaded) → DecideFrom history client 1 loaded → DecideFrom (history ++ more) client 1 loaded
decide_stay history more client loaded none decide = decide_on history more client 1 loaded (λ n above below. none n above (omega arith)) decide

-- one word more
pub decide_push : (history : List Entry) (client number : ℕ) (loaded : List ℕ) (word : ℕ) → DecideFrom history client number loaded → Decides history client (number + length loaded) word
    → DecideFrom history client number (loaded ++ word ∷ [])
decide_push history client number [] word decide decides = (subst (λ (n : ℕ). Decides history client n word) (let e : number + 0 ≡ number = omega arith in e) decides, tt)
decide_push history client number (first ∷ loaded) word decide decides = (
  decide.0,
  decide_push history client (number + 1) loaded word decide.1
      (subst (λ (n : ℕ). Decides history client n word) (let e : number + length (first ∷ loaded) ≡ number + 1 + length loaded = omega arith in e) decides),
)

-- ---- a device that tells its state

-- no wrong answer is told then
told_of : (fixed : Fixed) (wrong : Bool) (base : Origin) (history : List Entry) (client number : ℕ) (command reply : List ℕ) → fixed.base ≡ Some base → IsTold fixed wrong history client number command reply
    → MayBeTold history (limits_of fixed) client number command reply
told_of fixed wrong base history client number command reply is (inl told) = told
told_of fixed wrong base history client number command reply is (inr answer) = absurd (some_none base (sym is ∙ answer.2))
  where
    some_none : (b : Origin) → Some b ≡ None → ⊥
    some_none b e = cc e

pub answers_of : (fixed : Fixed) (wrong : Bool) (base : Origin) (history : List Entry) (client number : ℕ) (list : List (List ℕ)) (bytes : List ℕ) → fixed.base ≡ Some base
    → AreRepliesFrom fixed wrong history client number list bytes → AnswersFrom history (limits_of fixed) client number list bytes
answers_of fixed wrong base history client number [] bytes is replies = replies
answers_of fixed wrong base history client number (command ∷ list) bytes is replies = (
  replies.0,
  replies.1,
  replies.2,
  told_of fixed wrong base history client number command replies.0 is replies.3,
  answers_of fixed wrong base history client (number + 1) list replies.1 is replies.4,
)
