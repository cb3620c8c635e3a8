-- Connections that were served with two passes were served with the pass that these are made.
use Rattle.std.proofs.Common.{◌≡◌, ◌<◌, ◌≤◌, ◌+◌, ◌-◌, ℕ, Bool, true, false, cond, true≢false, List, [], ◌∷◌, ◌++◌, length, take, Option, Some, None, Result, Ok, Err, refl, sym, ap, subst, ap₂, ◌∙◌, inl, inr, append_assoc, append-nil, arith, suc}
use Rattle.std.specs.Prelude.{◌==◌, ◌||◌, OnOk, OnErr}
use Rattle.std.specs.List.{AllZip, find}
use Rattle.std.proofs.lemmas.Bool.{eqb-true, eq-eqb}
use Rattle.std.proofs.lemmas.List.Sums.{sum_by-append, sum_by-cons}
use mathlib.Core.List.{IsPrefix}
use Rattle.tab_spec.specs.Count.{Rose}
use Rattle.tab_spec.specs.Frame.{commands}
use Rattle.link_port.specs.Port.{Accepted}
use Rattle.history_spec.specs.declared.EntryKind.{EntryKind}
use Rattle.history_spec.specs.declared.EntryKind.TheVariants.{Open, Command, Canceled, Fault, Close}
use Rattle.history_spec.specs.Entry.{Clients, Entry, HasRoomForClient, clients_by, clients_from, clients_of, close_entry, kept_by, open_entry, opened_by, own}
use Rattle.broker_lock.specs.Known.{Fixed, HasJustKnown, IsLegalOver, Origin, knows}
use Rattle.broker_lock.specs.Pass.{IsLonger, Joins, PassView}
use Rattle.broker_lock.proofs.Knowing.{filter-weaker, knows-append, knows_its_own, knows_none, knows_same, none_of_known, own-append, own_rest}
use Rattle.cancel_words.specs.View.{WordView}
use Rattle.connection_core.specs.declared.ends.Ending.{Ending}
use Rattle.connection_core.specs.declared.ends.Ending.TheVariants as endings
use Rattle.connection_core.specs.Links.{IsSeatOf, Refuses}
use Rattle.connection_core.specs.Turns.{GoesOn}
use Rattle.connection_core.proofs.Covering.{canceled_by}
use Rattle.connection_core.proofs.Entering.{entries_on, goes_on_none, opened_on}
use Rattle.connection_core.proofs.Serving.{ends_stay}
use Rattle.connection_core.proofs.Telling.{decide_stay, reserved_grows}
use Rattle.accept_loop.specs.Connections.{AreEnough, AreFirst, ConnectionEnds, HasClient, HasPerhapsClient, IsLink, Lacks, is_of, links_of}
use Rattle.accept_loop.specs.Passes.{Comes, EndsWith, ServesAll}

-- ---- a front of the history

prefix_more : (xs ys zs : List Entry) → IsPrefix xs ys → IsPrefix ys zs → IsPrefix xs zs
prefix_more xs ys zs one two = (one.0 ++ two.0, sym (append_assoc xs one.0 two.0) ∙ ap (λ (l : List Entry). l ++ two.0) one.1 ∙ two.1)

pub prefix_one : (one other longer : List Entry) → IsLonger one other longer → IsPrefix one longer
prefix_one one other longer (inl is) = ([], append-nil one ∙ sym is.0)
prefix_one one other longer (inr is) = subst (λ (l : List Entry). IsPrefix one l) (sym is.0) is.1

pub prefix_other : (one other longer : List Entry) → IsLonger one other longer → IsPrefix other longer
prefix_other one other longer (inl is) = subst (λ (l : List Entry). IsPrefix other l) (sym is.0) is.1
prefix_other one other longer (inr is) = ([], append-nil other ∙ sym is.0)

pub longer_legal : (legal : Origin → List Entry → Type 0) (base : Option Origin) (one other longer : List Entry) → IsLonger one other longer → IsLegalOver legal base one → IsLegalOver legal base other → IsLegalOver legal base longer
longer_legal legal base one other longer (inl is) first second = subst (IsLegalOver legal base) (sym is.0) first
longer_legal legal base one other longer (inr is) first second = subst (IsLegalOver legal base) (sym is.0) second

-- ---- a connection by a front of the history is one by all of it

client_stays : (fixed : Fixed) (wrong new_wrong : Bool) (front more : List Entry) (given left : ConnectionEnds) (client done : ℕ) (ending : Ending) (word : Option WordView) → (wrong ≡ true → new_wrong ≡ true) → own more client ≡ []
    → HasClient fixed wrong front given left client done ending word → HasClient fixed new_wrong (front ++ more) given left client done ending word
client_stays fixed wrong new_wrong front more given left client done ending word rises none is =
    let seat_stays : IsSeatOf (front ++ more) client done is.ran.taken is.seat = record {
      both = is.ran.word.both;
      raised_is = is.ran.word.raised_is;
      count = is.ran.word.count;
      each = is.ran.word.each;
      decide = decide_stay front more client is.seat.loaded (λ number low high. ap (λ (l : List Entry). find (λ (e : Entry). e.number == number) l) none) is.ran.word.decide;
    } in record {
      entries = is.entries;
      seat = is.seat;
      own_is = own-append client front more ∙ ap (λ (l : List Entry). own front client ++ l) none ∙ append-nil (own front client) ∙ is.own_is;
      opened = opened_on fixed.limit front more client is.opened;
      word_is = is.word_is;
      ran = record {
        taken = is.ran.taken;
        output = is.ran.output;
        took = is.ran.took;
        within = is.ran.within;
        entries_are = entries_on fixed front more client 1 (take done (commands is.ran.taken)) is.entries is.ran.entries_are;
        written_is = is.ran.written_is;
        ends = ends_stay ending fixed wrong new_wrong front more client done given.left is.ran.taken is.ran.output rises
            (λ upto number low high. ap (λ (l : List Entry). find (λ (e : Entry). e.number == number) l) none) is.ran.ends;
        word = seat_stays;
        canceled = canceled_by (front ++ more) client done is.ran.taken is.seat seat_stays;
      };
    }

opened_more : (kind : EntryKind) (opened : ℕ) → opened ≤ opened_by kind opened
opened_more Open opened = omega arith
opened_more Command opened = omega arith
opened_more (Canceled upto) opened = omega arith
opened_more Fault opened = omega arith
opened_more Close opened = omega arith

opened_least : (clients : Clients) (more : List Entry) → clients.opened ≤ (clients_from clients more).opened
opened_least clients [] = omega arith
opened_least clients (e ∷ more) = omega (arith, opened_least (clients_by clients e) more, opened_more e.kind clients.opened)

clients_then : (clients : Clients) (front more : List Entry) → clients_from clients (front ++ more) ≡ clients_from (clients_from clients front) more
clients_then clients [] more = refl
clients_then clients (e ∷ front) more = clients_then (clients_by clients e) front more

-- where there is room for a client, there was before
room_before : (limit : ℕ) (front more : List Entry) → HasRoomForClient limit (front ++ more) → HasRoomForClient limit front
room_before limit front more room =
    let then = ap (λ (k : Clients). k.opened) (clients_then (record { opened = 0; present = [] }) front more) in record {
      bytes = omega (arith, room.bytes, reserved_grows front more);
      number = omega (arith, room.number, opened_least (clients_of front) more, then);
    }

lacks_stays : (ending : Ending) (fixed : Fixed) (wrong new_wrong : Bool) (front more : List Entry) → (wrong ≡ true → new_wrong ≡ true) → Lacks ending fixed wrong front → Lacks ending fixed new_wrong (front ++ more)
lacks_stays endings.EndOfInput fixed wrong new_wrong front more rises is = absurd is
lacks_stays (endings.BadFrame size) fixed wrong new_wrong front more rises is = absurd is
lacks_stays endings.ReadFault fixed wrong new_wrong front more rises is = absurd is
lacks_stays endings.WriteFault fixed wrong new_wrong front more rises is = absurd is
lacks_stays endings.Memory fixed wrong new_wrong front more rises is = is
lacks_stays (endings.JournalFull count limit) fixed wrong new_wrong front more rises is =
    (λ room. is.0 (room_before fixed.limit front more room), omega (arith, is.1, sum_by-append kept_by front more), is.2)
lacks_stays endings.Answer fixed wrong new_wrong front more rises is = (is.0, rises is.1)

pub link_stays : (fixed : Fixed) (wrong new_wrong : Bool) (front more : List Entry) (given left : ConnectionEnds) (client : Option ℕ) (done : ℕ) (ending : Ending) (word : Option WordView) → (wrong ≡ true → new_wrong ≡ true) → ((c : ℕ) → client ≡ Some c → own more c ≡ [])
    → IsLink fixed wrong front given left client done ending word → IsLink fixed new_wrong (front ++ more) given left client done ending word
link_stays fixed wrong new_wrong front more given left None done ending word rises none is = record {
  ended = record { done_is = is.ended.done_is; same = is.ended.same; no_word = is.ended.no_word; cause = lacks_stays ending fixed wrong new_wrong front more rises is.ended.cause };
  cause = is.cause;
}
link_stays fixed wrong new_wrong front more given left (Some client) done ending word rises none is = record {
  ended = client_stays fixed wrong new_wrong front more given left client done ending word rises (none client refl) is.ended;
  cause = is.cause;
}

-- ---- which clients the connections have

abbrev pub as_count : Bool → ℕ
as_count b = cond b 1 0

pub links-cons : {M : Type 0} (client_of : M → Option ℕ) (client : ℕ) (link : M) (links : List M)
    → links_of client_of client (link ∷ links) ≡ as_count (is_of client (client_of link)) + links_of client_of client links
links-cons client_of client link links = sum_by-cons (λ l. as_count (is_of client (client_of l))) link links

pub of_itself : (client : ℕ) (found : Option ℕ) → found ≡ Some client → is_of client found ≡ true
of_itself client found is = ap (is_of client) is ∙ eq-eqb client client refl

module _ {L M : Type 0} (g : L → ConnectionEnds) (k : M → ConnectionEnds) (client_of : M → Option ℕ) (done_of : M → ℕ) (ending_of : M → Ending) (word_of : M → Option WordView) where
  abbrev pub is_linked : PassView → L → M → Type 0
  is_linked pass given link = IsLink pass.fixed pass.wrong pass.front (g given) (k link) (client_of link) (done_of link) (ending_of link) (word_of link)

  pub each_stays : (fixed : Fixed) (wrong new_wrong : Bool) (front more : List Entry) (accepted : List L) (links : List M) → (wrong ≡ true → new_wrong ≡ true) → ((c : ℕ) → 1 ≤ links_of client_of c links → own more c ≡ [])
      → AllZip (λ given link. IsLink fixed wrong front (g given) (k link) (client_of link) (done_of link) (ending_of link) (word_of link)) accepted links
      → AllZip (λ given link. IsLink fixed new_wrong (front ++ more) (g given) (k link) (client_of link) (done_of link) (ending_of link) (word_of link)) accepted links
  each_stays fixed wrong new_wrong front more [] [] rises none each = each
  each_stays fixed wrong new_wrong front more [] (link ∷ links) rises none each = absurd each
  each_stays fixed wrong new_wrong front more (given ∷ accepted) [] rises none each = absurd each
  each_stays fixed wrong new_wrong front more (given ∷ accepted) (link ∷ links) rises none each = (
    link_stays fixed wrong new_wrong front more (g given) (k link) (client_of link) (done_of link) (ending_of link) (word_of link) rises
        (λ c is. none c (let one : as_count (is_of c (client_of link)) ≡ 1 = ap as_count (of_itself c (client_of link) is) in omega (arith, links-cons client_of c link links, one))) each.0,
    each_stays fixed wrong new_wrong front more accepted links rises (λ c some. none c (omega (arith, links-cons client_of c link links, some))) each.1,
  )

-- ---- what the pass of one connection knows

others_of : (client other : ℕ) (history : List Entry) → (client ≡ other → ⊥) → own (own history client) other ≡ []
others_of client other [] apart = refl
others_of client other (e ∷ history) apart = by_is (e.client == client) refl (others_of client other history apart)
  where
    not_other : (e.client == client) ≡ true → (b : Bool) → (e.client == other) ≡ b → b ≡ false
    not_other is false other_is = refl
    not_other is true other_is = absurd (apart (sym (eqb-true e.client client is) ∙ eqb-true e.client other other_is))

    by_is : (b : Bool) → (e.client == client) ≡ b → own (own history client) other ≡ [] → own (cond b (e ∷ own history client) (own history client)) other ≡ []
    by_is true is rest = ap (λ (b : Bool). cond b (e ∷ own (own history client) other) (own (own history client) other)) (not_other is (e.client == other) refl) ∙ rest
    by_is false is rest = rest

own_twice : (client : ℕ) (history : List Entry) → own (own history client) client ≡ own history client
own_twice client history = filter-weaker (λ (e : Entry). e.client == client) (λ (e : Entry). e.client == client) (λ e is. is) history

knows_this : (client other : ℕ) (pass : PassView) (entries : List Entry) → pass.known ≡ (open_entry client ∷ entries) ++ close_entry client ∷ [] → own pass.front client ≡ pass.known
    → (b : Bool) → (client == other) ≡ b → knows pass.known other ≡ b
knows_this client other pass entries known own_is true is =
    ap (λ (l : List Entry). knows l other) known ∙ subst (λ (n : ℕ). knows ((open_entry client ∷ entries) ++ close_entry client ∷ []) n ≡ true) (eqb-true client other is) (knows_its_own (open_entry client) (entries ++ close_entry client ∷ []))
knows_this client other pass entries known own_is false is =
    knows_none other pass.known (ap (λ (l : List Entry). own l other) (sym own_is)
    ∙ others_of client other pass.front (λ same. true≢false (sym (eq-eqb client other same) ∙ is)))

pub knows_link : (legal : Origin → List Entry → Type 0) (other : ℕ) (client : Option ℕ) (pass : PassView) (given left : ConnectionEnds) (done : ℕ) (ending : Ending) (word : Option WordView) → EndsWith legal client pass given left done ending word → knows pass.known other ≡ is_of other client
knows_link legal other None pass given left done ending word is = ap (λ (l : List Entry). knows l other) is.0.nobody
knows_link legal other (Some client) pass given left done ending word is = knows_this client other pass is.entries is.known is.own_is (client == other) refl

-- ---- two passes are made one

known_count : (a b n : Bool) → (a ≡ true → b ≡ false) → (a ≡ true → n ≡ true) → (b ≡ true → n ≡ true) → (a ≡ false → b ≡ false → n ≡ false) → as_count b + as_count a ≡ as_count n
known_count true true n apart of_old of_ended none = absurd (true≢false (apart refl))
known_count true false n apart of_old of_ended none = ap as_count (sym (of_old refl))
known_count false true n apart of_old of_ended none = ap as_count (sym (of_ended refl))
known_count false false n apart of_old of_ended none = ap as_count (sym (none refl refl))

or_none : (a b : Bool) → a ≡ false → b ≡ false → (a || b) ≡ false
or_none true b is other = absurd (true≢false is)
or_none false b is other = other

pub joined_known : (rest ended new : PassView) (client : ℕ) → Joins rest ended new → as_count (knows ended.known client) + as_count (knows rest.known client) ≡ as_count (knows new.known client)
joined_known rest ended new client joins = known_count (knows rest.known client) (knows ended.known client) (knows new.known client)
    (joins.apart client)
    (λ known. knows_same client new.known rest.known (joins.of_old client known) ∙ known)
    (λ known. knows_same client new.known ended.known (joins.of_ended client known) ∙ known)
    (λ not_rest not_ended. knows_none client new.known (ap (λ (l : List Entry). own l client) joins.known
    ∙ none_of_known (rest.known ++ ended.known) new.front client (knows-append client rest.known ended.known ∙ or_none (knows rest.known client) (knows ended.known client) not_rest not_ended)))

-- ---- a connection by its own pass

lacks_by : (ending : Ending) (pass : PassView) → Refuses ending pass → Lacks ending pass.fixed pass.wrong pass.front
lacks_by endings.EndOfInput pass is = absurd is
lacks_by (endings.BadFrame size) pass is = absurd is
lacks_by endings.ReadFault pass is = absurd is
lacks_by endings.WriteFault pass is = absurd is
lacks_by endings.Memory pass is = is
lacks_by (endings.JournalFull count limit) pass is = (is.0, omega (arith, is.1), is.2)
lacks_by endings.Answer pass is = is

pub ended_by : (legal : Origin → List Entry → Type 0) (client : Option ℕ) (pass : PassView) (given left : ConnectionEnds) (done : ℕ) (ending : Ending) (word : Option WordView) → EndsWith legal client pass given left done ending word
    → HasPerhapsClient client pass.fixed pass.wrong pass.front given left done ending word
ended_by legal None pass given left done ending word is = record { done_is = is.0.done_is; same = is.1; no_word = is.2; cause = lacks_by ending pass is.0.refuses }
ended_by legal (Some client) pass given left done ending word is = record { entries = is.entries; seat = is.seat; own_is = is.own_is ∙ is.known; opened = is.opened; word_is = is.word_is; ran = is.ran }

pub own_link : (legal : Origin → List Entry → Type 0) (client : Option ℕ) (pass : PassView) (given left : ConnectionEnds) (done : ℕ) (ending : Ending) (word : Option WordView) → EndsWith legal client pass given left done ending word → HasJustKnown pass.known pass.front
own_link legal None pass given left done ending word is = λ other known. absurd (true≢false (sym known ∙ knows_link legal other None pass given left done ending word is))
own_link legal (Some client) pass given left done ending word is = λ other known.
    let same : client ≡ other = eqb-true client other (sym (knows_link legal other (Some client) pass given left done ending word is) ∙ known) in
    let own_is : own pass.known client ≡ own pass.front client = ap (λ (l : List Entry). own l client) (sym is.own_is) ∙ own_twice client pass.front in
    subst (λ (n : ℕ). own pass.front n ≡ own pass.known n) same (sym own_is)

-- ---- one connection more

pub some_count : (b : Bool) → 1 ≤ as_count b → b ≡ true
some_count true some = refl
some_count false some = absurd (omega (arith, some))

first_more : {L : Type 0} (coming between coming_new : Option (List L)) (given : L) (accepted : List L) → Accepted coming between (Some given) → AreFirst between coming_new accepted
    → AreFirst coming coming_new (given ∷ accepted)
first_more {L} None between coming_new given accepted is first = subst (λ (b : Option (List L)). AreFirst b coming_new accepted) is first
first_more {L} (Some []) between coming_new given accepted is first = absurd (let no : Some given ≡ None = is.0 in cc)
first_more {L} (Some (next ∷ links)) between coming_new given accepted is first =
    let some : Some given ≡ Some next = is.0 in
    let same : given ≡ next = cc in
    let later : AreFirst (Some links) coming_new accepted = subst (λ (b : Option (List L)). AreFirst b coming_new accepted) is.1 first in
    (later.0, (λ i. sym same i ∷ later.1 i), later.2)

enough_more : {L M X E : Type 0} (most : ℕ) (coming_new : Option (List L)) (accepted : Result X E) (link : M) (links : List M) → 0 < most → OnOk accepted (AreEnough (most - 1) coming_new links)
    → OnOk accepted (AreEnough most coming_new (link ∷ links))
enough_more most coming_new (Ok x) link links some (inl all) = inl (omega (arith, some, all))
enough_more most coming_new (Ok x) link links some (inr none) = inr none
enough_more most coming_new (Err e) link links some enough = enough

-- the pass that a connection's is split from, and the connection's
abbrev pub part_left : PassView → PassView
part_left pass = record pass { parts = pass.parts - 1 }

abbrev pub one_part : PassView → PassView
one_part pass = record pass { known = []; parts = 1 }

pub or_left : (a b : Bool) → a ≡ true → (a || b) ≡ true
or_left true b is = refl
or_left false b is = absurd (true≢false (sym is))

pub or_right : (a b : Bool) → b ≡ true → (a || b) ≡ true
or_right true b is = refl
or_right false b is = is

joined_goes_on : {legal : Origin → List Entry → Type 0} (old rest ended new : PassView) → 0 < old.parts → GoesOn legal (part_left old) rest → GoesOn legal (one_part old) ended → Joins rest ended new → GoesOn legal old new
joined_goes_on {legal = legal} old rest ended new some one other joins = record {
  lock = joins.lock ∙ one.lock;
  fixed = joins.fixed ∙ one.fixed;
  parts = omega (arith, joins.parts, one.parts, other.parts, some);
  seen = prefix_more old.front rest.front new.front one.seen (prefix_one rest.front ended.front new.front joins.front);
  still = λ knew. joins.wrong ∙ or_left rest.wrong ended.wrong (one.still knew);
  stays_legal = λ was. longer_legal legal old.fixed.base rest.front ended.front new.front joins.front (one.stays_legal was) (other.stays_legal was);
}

module _ {L M : Type 0} (g : L → ConnectionEnds) (k : M → ConnectionEnds) (client_of : M → Option ℕ) (done_of : M → ℕ) (ending_of : M → Ending) (word_of : M → Option WordView) where
  -- connections by a pass that is joined with another
  moved : (old new : PassView) (accepted : List L) (links : List M) → IsPrefix old.front new.front → new.fixed ≡ old.fixed → (old.wrong ≡ true → new.wrong ≡ true) → ((c : ℕ) → 1 ≤ links_of client_of c links → own new.front c ≡ own old.front c)
      → AllZip (is_linked g k client_of done_of ending_of word_of old) accepted links → AllZip (is_linked g k client_of done_of ending_of word_of new) accepted links
  moved old new accepted links there same rises own_is each =
      let stays = each_stays g k client_of done_of ending_of word_of old.fixed old.wrong new.wrong old.front there.0 accepted links rises
      (λ c some. own_rest c old.front there.0 (ap (λ (l : List Entry). own l c) there.1 ∙ own_is c some)) each in
      subst (λ (f : Fixed). AllZip (λ given link. IsLink f new.wrong new.front (g given) (k link) (client_of link) (done_of link) (ending_of link) (word_of link)) accepted links) (sym same)
      (subst (λ (h : List Entry). AllZip (λ given link. IsLink old.fixed new.wrong h (g given) (k link) (client_of link) (done_of link) (ending_of link) (word_of link)) accepted links) there.1 stays)

  pub served_more : {X E : Type 0} {legal : Origin → List Entry → Type 0} (old rest ended new : PassView) (coming between coming_new : Option (List L)) (faults faults_new most : ℕ) (accepted : Result X E) (given : L) (link : M) (links : List M)
      → 0 < most → 0 < old.parts → Accepted coming between (Some given)
      → ServesAll legal (is_linked g k client_of done_of ending_of word_of) client_of (part_left old) rest between coming_new faults faults_new (most - 1) accepted links
      → Comes legal (one_part old) ended (g given) (k link) (client_of link) (done_of link) (ending_of link) (word_of link) → Joins rest ended new
      → ServesAll legal (is_linked g k client_of done_of ending_of word_of) client_of old new coming coming_new faults faults_new most accepted (link ∷ links)
  served_more {legal = legal} old rest ended new coming between coming_new faults faults_new most accepted given link links some parts handed all comes joins =
      let served = all.served in
      let knows_ended = λ (c : ℕ). knows_link legal c (client_of link) ended (g given) (k link) (done_of link) (ending_of link) (word_of link) comes.ended in
      let of_rest = λ (c : ℕ) (known : knows rest.known c ≡ true).
      joins.own c (knows_same c new.known rest.known (joins.of_old c known) ∙ known) ∙ joins.of_old c known ∙ sym (all.own c known) in
      let of_ended = λ (c : ℕ) (known : knows ended.known c ≡ true).
      joins.own c (knows_same c new.known ended.known (joins.of_ended c known) ∙ known) ∙ joins.of_ended c known
      ∙ sym (own_link legal (client_of link) ended (g given) (k link) (done_of link) (ending_of link) (word_of link) comes.ended c known) in
      record {
        goes_on = joined_goes_on old rest ended new parts all.goes_on comes.goes_on joins;
        own = joins.own;
        served = record {
          accepted = given ∷ served.accepted;
          first = first_more coming between coming_new given served.accepted handed served.first;
          within = omega (arith, served.within, some);
          each = (
            (moved ended new (given ∷ []) (link ∷ []) (prefix_other rest.front ended.front new.front joins.front) (joins.fixed ∙ all.goes_on.fixed ∙ sym comes.goes_on.fixed)
                (λ knew. joins.wrong ∙ or_right rest.wrong ended.wrong knew)
                (λ c one. of_ended c (knows_ended c ∙ some_count (is_of c (client_of link)) (omega (arith, one, links-cons client_of c link []))))
                (record { ended = ended_by legal (client_of link) ended (g given) (k link) (done_of link) (ending_of link) (word_of link) comes.ended; cause = comes.cause }, tt)).0,
            moved rest new served.accepted links (prefix_one rest.front ended.front new.front joins.front) joins.fixed (λ knew. joins.wrong ∙ or_left rest.wrong ended.wrong knew)
                (λ c one. of_rest c (some_count (knows rest.known c) (omega (arith, one, served.clients c)))) served.each,
          );
          clients = λ c. links-cons client_of c link links ∙ ap₂ ◌+◌ (ap as_count (sym (knows_ended c))) (served.clients c) ∙ joined_known rest ended new c joins;
        };
        enough = enough_more most coming_new accepted link links some all.enough;
        quiet = all.quiet;
        fault = all.fault;
      }

  -- the same where the passes, the connection's counts and the acceptor's are those that calls tell
  pub served_on : {X E : Type 0} {legal : Origin → List Entry → Type 0} (old left rest given_pass ended new : PassView) (coming between coming_new : Option (List L)) (faults faults_between faults_new most : ℕ) (accepted : Result X E)
      (found : Option L) (given : L) (link : M) (links pushed : List M) → pushed ≡ link ∷ links
      → (most ≡ 0 → ⊥) → most < old.parts → left ≡ part_left old → given_pass ≡ one_part old → found ≡ Some given → Accepted coming between found → faults_between ≡ faults
      → ServesAll legal (is_linked g k client_of done_of ending_of word_of) client_of left rest between coming_new faults_between faults_new (most - 1) accepted links
      → Comes legal given_pass ended (g given) (k link) (client_of link) (done_of link) (ending_of link) (word_of link) → Joins rest ended new
      → ServesAll legal (is_linked g k client_of done_of ending_of word_of) client_of old new coming coming_new faults faults_new most accepted pushed
  served_on {legal = legal} old left rest given_pass ended new coming between coming_new faults faults_between faults_new most accepted found given link links pushed pushed_is some parts left_is given_is is handed same all comes joins =
      subst (λ (l : List M). ServesAll legal (is_linked g k client_of done_of ending_of word_of) client_of old new coming coming_new faults faults_new most accepted l) (sym pushed_is)
      (subst (λ (n : ℕ). ServesAll legal (is_linked g k client_of done_of ending_of word_of) client_of old new coming coming_new n faults_new most accepted (link ∷ links)) same
      (served_more old rest ended new coming between coming_new faults_between faults_new most accepted given link links
      (omega (arith, some)) (omega (arith, parts))
      (subst (λ (o : Option L). Accepted coming between o) is handed)
      (subst (λ (v : PassView). ServesAll legal (is_linked g k client_of done_of ending_of word_of) client_of v rest between coming_new faults_between faults_new (most - 1) accepted links) left_is all)
      (subst (λ (v : PassView). Comes legal v ended (g given) (k link) (client_of link) (done_of link) (ending_of link) (word_of link)) given_is comes)
      joins))

-- ---- how many connections there are

same_length : {A B : Type 0} (R : A → B → Type 0) (xs : List A) (ys : List B) → AllZip R xs ys → length xs ≡ length ys
same_length R [] [] all = refl
same_length R [] (y ∷ ys) all = absurd all
same_length R (x ∷ xs) [] all = absurd all
same_length R (x ∷ xs) (y ∷ ys) all = ap suc (same_length R xs ys all.1)

pub served_within : {L M X E : Type 0} {legal : Origin → List Entry → Type 0} (is_link : PassView → L → M → Type 0) (client_of : M → Option ℕ) (old new : PassView) (coming coming_new : Option (List L)) (faults faults_new most : ℕ) (accepted : Result X E) (links : List M)
    → ServesAll legal is_link client_of old new coming coming_new faults faults_new most accepted links → length links ≤ most
served_within is_link client_of old new coming coming_new faults faults_new most accepted links all =
    omega (arith, all.served.within, same_length (is_link new) all.served.accepted links all.served.each)

-- ---- no connection

first_none : {L : Type 0} (coming coming_new : Option (List L)) → Accepted {L = L} coming coming_new None → AreFirst coming coming_new []
first_none None coming_new is = is
first_none (Some []) coming_new is = ([], refl, is.1)
first_none (Some (next ∷ links)) coming_new is = absurd (let some : None ≡ Some next = is.0 in cc)

pub none_left : {L : Type 0} (coming coming_new : Option (List L)) → Accepted {L = L} coming coming_new None → (rest : List L) → coming_new ≡ Some rest → rest ≡ []
none_left None coming_new is rest some = absurd (let none : Some rest ≡ None = sym some ∙ is in cc)
none_left (Some []) coming_new is rest some = let same : Some rest ≡ Some [] = sym some ∙ is.1 in cc
none_left (Some (next ∷ links)) coming_new is rest some = absurd (let no : None ≡ Some next = is.0 in cc)

pub first_same : {L : Type 0} (coming coming_new : Option (List L)) → coming_new ≡ coming → AreFirst coming coming_new []
first_same None coming_new same = same
first_same (Some links) coming_new same = (links, refl, same)

served_none : {L M X E : Type 0} {legal : Origin → List Entry → Type 0} (is_link : PassView → L → M → Type 0) (client_of : M → Option ℕ) (pass : PassView) (coming coming_new : Option (List L)) (faults faults_new most : ℕ) (accepted : Result X E) (links : List M)
    → links ≡ [] → pass.known ≡ [] → AreFirst coming coming_new [] → OnOk accepted (AreEnough {L = L} {M = M} most coming_new []) → OnOk accepted (faults_new ≡ faults) → OnErr accepted (Rose faults faults_new)
    → ServesAll legal is_link client_of pass pass coming coming_new faults faults_new most accepted links
served_none {L} {M} {legal = legal} is_link client_of pass coming coming_new faults faults_new most accepted links none nobody first enough quiet fault =
    subst (λ (l : List M). ServesAll legal is_link client_of pass pass coming coming_new faults faults_new most accepted l) (sym none) (record {
      goes_on = goes_on_none pass;
      own = λ c known. absurd (true≢false (sym known ∙ ap (λ (l : List Entry). knows l c) nobody));
      served = record {
        accepted = [];
        first = first;
        within = omega arith;
        each = tt;
        clients = λ c. ap (λ (l : List Entry). as_count (knows l c)) (sym nobody);
      };
      enough = enough;
      quiet = quiet;
      fault = fault;
    })

-- nobody was asked for
pub served_nobody : {L M X E : Type 0} {legal : Origin → List Entry → Type 0} (is_link : PassView → L → M → Type 0) (client_of : M → Option ℕ) (pass : PassView) (coming : Option (List L)) (faults most : ℕ) (x : X) (links : List M)
    → links ≡ [] → pass.known ≡ [] → most ≡ 0 → ServesAll {E = E} legal is_link client_of pass pass coming coming faults faults most (Ok x) links
served_nobody {L} {M} is_link client_of pass coming faults most x links none nobody zero =
    served_none is_link client_of pass coming coming faults faults most (Ok x) links none nobody (first_same coming coming refl) (inl (sym zero)) refl tt

-- no connection is left
pub served_all : {L M X E : Type 0} {legal : Origin → List Entry → Type 0} (is_link : PassView → L → M → Type 0) (client_of : M → Option ℕ) (pass : PassView) (coming coming_new : Option (List L)) (found : Option L) (faults faults_new most : ℕ) (x : X) (links : List M)
    → links ≡ [] → pass.known ≡ [] → found ≡ None → Accepted coming coming_new found → faults_new ≡ faults → ServesAll {E = E} legal is_link client_of pass pass coming coming_new faults faults_new most (Ok x) links
served_all {L} {M} is_link client_of pass coming coming_new found faults faults_new most x links none nobody nothing handed same =
    let is = subst (λ (o : Option L). Accepted coming coming_new o) nothing handed in
    served_none is_link client_of pass coming coming_new faults faults_new most (Ok x) links none nobody (first_none coming coming_new is) (inr (none_left coming coming_new is)) same tt

-- the acceptor failed
pub served_failed : {L M X E : Type 0} {legal : Origin → List Entry → Type 0} (is_link : PassView → L → M → Type 0) (client_of : M → Option ℕ) (pass : PassView) (coming coming_new : Option (List L)) (faults faults_new most : ℕ) (e : E) (links : List M)
    → links ≡ [] → pass.known ≡ [] → coming_new ≡ coming → Rose faults faults_new → ServesAll {X = X} legal is_link client_of pass pass coming coming_new faults faults_new most (Err e) links
served_failed {L} {M} is_link client_of pass coming coming_new faults faults_new most e links none nobody same rose =
    served_none is_link client_of pass coming coming_new faults faults_new most (Err e) links none nobody (first_same coming coming_new same) tt tt rose
