-- A client saves a session of its own, and gives back the context that was handed out for it.
use Rattle.std.proofs.Common.{◌≡◌, ◌<◌, ◌≤◌, ℕ, true, false, List, [], length, get_or, set, map, refl, ap, subst, sym, ◌∙◌, arith}
use Rattle.std.specs.Prelude.{drop, vec_capacity, Option, Some, None, is_some, IfSome, IsSomeAnd, Result}
use Rattle.std.proofs.lemmas.List.{get_or-set_same, length-map, set-set}
use Rattle.std.proofs.lemmas.Option.{same_Some}
use Rattle.tab_spec.specs.declared.numbers.Numbers.{Numbers}
use Rattle.tab_spec.specs.declared.TheConstants.{HEADER_BYTES}
use Rattle.tab_spec.specs.Session.{Session}
use Rattle.tab_spec.specs.Shape.{number_of_session}
use Rattle.tab_spec.specs.declared.contexts.ContextLimits.{ContextLimits}
use Rattle.tab_spec.specs.declared.contexts.TheConstants.{PROFILE_CONTEXTS}
use Rattle.device_spec.specs.ContextCommands.{context_save_command}
use Rattle.device_spec.specs.Slots.{SlotState}
use Rattle.device_port.specs.Device.{Seen}
use Rattle.device_port.specs.Use.{without_one}
use Rattle.device_port.specs.Own.{Asks, Succeeds}
use Rattle.device_port.specs.declared.own.SwapError.{SwapError}
use Rattle.session_swap.specs.declared.record.Place.{Place}
use Rattle.session_swap.specs.declared.record.Place.TheVariants as places
use Rattle.session_swap.specs.declared.record.Record.{Record}
use Rattle.session_swap.specs.Items.{HandsOut, Item, ListsThose, Saved, SessionsStand, SessionsView, Stand, context_number, is_handed_to, is_held, is_left, is_loaded_item, is_saved_item, item_at, item_of, item_session, number_of_item, saved_by_client, sessions_of, taken_back}
use Rattle.session_swap.specs.Moves.{KeepsReply, Ready, RepliesOf, with_context, with_handed}
use Rattle.session_swap.specs.Records.{AreListed, AreRecords, IsHandleOf, IsRecord, OrderView, handed_by, handed_of, item_in, item_of_record, items_of, view_of, whole_view}
use Rattle.session_swap.proofs.Among.{loaded_inside, loaded_whole, named_is}
use Rattle.session_swap.proofs.Commands.{is_saved}
use Rattle.session_swap.proofs.Holders.{altered, altered_view, kept_altered, taken_there, with_holder}
use Rattle.session_swap.proofs.Listing.{lists_without}
use Rattle.session_swap.proofs.Moved.{IsSavedAt, has_item, items_set, named_inside, record_item, records_set, saved_at, saved_item}
use Rattle.session_swap.proofs.Owners.{count_unchanged, given_held, owner_held, taken_owner, taken_unleft}
use Rattle.session_swap.proofs.Standing.{handed_held, sessions_held, stands_held, taken_held}

-- ---- one record

-- a record whose context was handed out
pub record IsHandedOut (r new : Record) : Type 0 where
  pub same : new ≡ record r { in_use = false; handed = new.handed }
  pub handed : new.handed.items ≡ r.context.items
  pub room : vec_capacity r.handed ≤ vec_capacity new.handed

in_both : (place : Place) (client : Option ℕ) (handle : ℕ) (context : List ℕ) (handed : Option (List ℕ))
    → item_in place client handle context (Some context) ≡ with_handed context (item_in place client handle context handed)
in_both places.Unused client handle context handed = refl
in_both places.Loaded client handle context handed = refl
in_both (places.Saved number) client handle context handed = refl

handed_item : (r new : Record) → IsHandedOut r new → item_of_record new ≡ with_handed r.context.items (item_of_record r)
handed_item r new is =
    (λ i. item_in ((is.same i).place) ((is.same i).client) ((is.same i).handle) ((is.same i).context.items)
    (handed_by ((is.same i).in_use) new.handed.items))
    ∙ ap (λ (bytes : List ℕ). item_in r.place r.client r.handle r.context.items (Some bytes)) is.handed
    ∙ in_both r.place r.client r.handle r.context.items (handed_of r)

handed_sound : {contexts : ContextLimits} (r new : Record) → IsRecord contexts r → IsHandedOut r new → IsRecord contexts new
handed_sound {contexts = contexts} r new sound is =
    subst (λ (r : Record). IsRecord contexts r) (sym is.same)
    (record { room = sound.room; handed_room = omega (arith, sound.handed_room, is.room); context = sound.context })

-- ---- its item

bytes_of : Option Saved → List ℕ
bytes_of None = []
bytes_of (Some last) = last.context

bytes_in : Option Item → List ℕ
bytes_in None = []
bytes_in (Some item) = bytes_of item.saved

context_same : (item : Option Item) (bytes context : List ℕ) (client : Option ℕ) (handed : Option (List ℕ)) (handle number : ℕ)
    → Some (saved_item client handed handle number context) ≡ with_context bytes item → context ≡ bytes
unfolding bytes_in bytes_of
context_same None bytes context client handed handle number same = absurd cc
context_same (Some item) bytes context client handed handle number same = ap bytes_in same

both_parts : (bytes : List ℕ) (item : Option Item) → with_handed bytes (with_context bytes item) ≡ saved_by_client bytes item
both_parts bytes None = refl
both_parts bytes (Some item) = refl

-- ---- after a save

-- the session of this number was saved in this context, and that was handed out then
pub record Hands (contexts : ContextLimits) (items : List (Option Item)) (mid : List Record) (n : ℕ) (bytes : List ℕ) (r new : Record) : Type 0 where
  pub fits : n < length items
  pub sound : AreRecords contexts mid
  pub saved : is_saved_item (item_at (items_of mid) n) ≡ true
  pub items_are : items_of mid ≡ set items n (with_context bytes (item_at items n))
  pub there : r ≡ get_or mid n r
  pub is : IsHandedOut r new

at_mid : {contexts : ContextLimits} (items : List (Option Item)) (mid : List Record) (n : ℕ) (bytes : List ℕ) (r new : Record) → Hands contexts items mid n bytes r new
    → IsSavedAt contexts mid n r
at_mid {contexts = contexts} items mid n bytes r new hands =
    subst (λ (r : Record). IsSavedAt contexts mid n r) (sym hands.there) (saved_at mid n r hands.sound hands.saved)

bytes_kept : {contexts : ContextLimits} (items : List (Option Item)) (mid : List Record) (n : ℕ) (bytes : List ℕ) (r new : Record) → Hands contexts items mid n bytes r new
    → r.context.items ≡ bytes
bytes_kept items mid n bytes r new hands =
    let at = at_mid items mid n bytes r new hands in
    let here : item_at (items_of mid) n ≡ with_context bytes (item_at items n) =
    ap (λ (l : List (Option Item)). item_at l n) hands.items_are
    ∙ get_or-set_same items n (with_context bytes (item_at items n)) None hands.fits in
    context_same (item_at items n) bytes r.context.items r.client (handed_of r) r.handle at.number (sym at.was ∙ here)

-- of the items alone, this one got another one handed out
item_handed : {contexts : ContextLimits} (items : List (Option Item)) (mid : List Record) (n : ℕ) (bytes : List ℕ) (r new : Record) → Hands contexts items mid n bytes r new
    → items_of (set mid n new) ≡ set (items_of mid) n (with_handed bytes (item_at (items_of mid) n))
item_handed items mid n bytes r new hands =
    let at = at_mid items mid n bytes r new hands in
    let here : item_at (items_of mid) n ≡ item_of_record r = record_item mid n r at.inside ∙ ap item_of_record (sym hands.there) in
    items_set mid n new (with_handed bytes (item_at (items_of mid) n))
    (handed_item r new hands.is ∙ (λ i. with_handed (bytes_kept items mid n bytes r new hands i) (sym here i)))

pub items_handed : {contexts : ContextLimits} (items : List (Option Item)) (mid : List Record) (n : ℕ) (bytes : List ℕ) (r new : Record)
    → Hands contexts items mid n bytes r new
    → items_of (set mid n new) ≡ set items n (saved_by_client bytes (item_at items n))
items_handed items mid n bytes r new hands =
    let kept = with_context bytes (item_at items n) in
    let here : item_at (set items n kept) n ≡ kept = get_or-set_same items n kept None hands.fits in
    item_handed items mid n bytes r new hands
    ∙ ap (λ (l : List (Option Item)). set l n (with_handed bytes (item_at l n))) hands.items_are
    ∙ ap (λ (item : Option Item). set (set items n kept) n (with_handed bytes item)) here
    ∙ set-set items n kept (with_handed bytes kept)
    ∙ ap (set items n) (both_parts bytes (item_at items n))

handed_records : {contexts : ContextLimits} (items : List (Option Item)) (mid : List Record) (n : ℕ) (bytes : List ℕ) (r new : Record)
    → Hands contexts items mid n bytes r new → AreRecords contexts (set mid n new)
handed_records items mid n bytes r new hands =
    let at = at_mid items mid n bytes r new hands in
    let handle : IfSome (with_handed r.context.items (item_of_record r)) (λ item. IsHandleOf n item) =
    subst (λ (item : Option Item). IfSome (with_handed r.context.items item) (λ item. IsHandleOf n item))
    (sym at.was ∙ record_item mid n r at.inside ∙ ap item_of_record (sym hands.there))
    (record { session = at.handle.session; number_is = at.handle.number_is }) in
    records_set mid n new at.inside hands.sound (handed_sound r new at.sound hands.is)
    (subst (λ (item : Option Item). IfSome item (λ item. IsHandleOf n item)) (sym (handed_item r new hands.is)) handle)

stand_handed : (state : Option SlotState) (view : SessionsView) (others : List ℕ) (n : ℕ) (bytes : List ℕ) → Stand state view others
    → n < length view.items
    → Stand state (record view { items = set view.items n (with_handed bytes (item_at view.items n)) }) others
stand_handed None view others n bytes stand inside = tt
stand_handed (Some slots) view others n bytes stand inside =
    stands_held slots view view.left others n (with_handed bytes (item_at view.items n)) stand inside (handed_held bytes (item_at view.items n))

pub ready_handed : {contexts : ContextLimits} (numbers : Numbers) (state : Option SlotState) (items : List (Option Item)) (mid : List Record) (next n : ℕ) (bytes : List ℕ) (r new : Record)
    (others : List ℕ) → Hands contexts items mid n bytes r new → Stand state (view_of numbers mid next) others
    → Ready contexts state numbers (set mid n new) next others
ready_handed numbers state items mid next n bytes r new others hands stand =
    let at = at_mid items mid n bytes r new hands in
    record {
      sound = handed_records items mid n bytes r new hands;
      stand = subst (λ (l : List (Option Item)). Stand state (record {
        numbers = numbers;
        items = l;
        next = next;
        order = [];
        saved = [];
        left = [];
        contexts = PROFILE_CONTEXTS;
      }) others)
          (sym (item_handed items mid n bytes r new hands))
          (stand_handed state (view_of numbers mid next) others n bytes stand (omega (arith, at.inside, length-map mid item_of_record)));
    }

some_sessions : (state : Option SlotState) (items : List (Option Item)) (n : ℕ) (bytes : List ℕ)
    → sessions_of state (set items n (with_handed bytes (item_at items n))) ≡ sessions_of state items
some_sessions None items n bytes = refl
some_sessions (Some slots) items n bytes =
    ap (λ (sessions : List (Option Session)). Some sessions)
    (sessions_held slots items n (with_handed bytes (item_at items n)) (handed_held bytes (item_at items n)))

pub sessions_handed : {contexts : ContextLimits} (state : Option SlotState) (items : List (Option Item)) (mid : List Record) (n : ℕ) (bytes : List ℕ) (r new : Record)
    → Hands contexts items mid n bytes r new → sessions_of state (items_of (set mid n new)) ≡ sessions_of state (items_of mid)
sessions_handed state items mid n bytes r new hands =
    ap (sessions_of state) (item_handed items mid n bytes r new hands) ∙ some_sessions state (items_of mid) n bytes

-- ---- a save of one's own session

-- there is room for the context
pub room_to_hand : {contexts : ContextLimits} (mid : List Record) (n : ℕ) (d : Record) → AreRecords contexts mid → is_saved_item (item_at (items_of mid) n) ≡ true
    → length (get_or mid n d).context.items ≤ vec_capacity (get_or mid n d).handed
room_to_hand {contexts = contexts} mid n d sound saved =
    let r = get_or mid n d in
    let at = saved_at mid n d sound saved in
    omega (arith, (is_saved contexts r.handle at.number r.context.items at.handle.session at.context).most, at.sound.handed_room)

-- what a handle names is loaded
pub record IsLoadedUnder (items : List (Option Item)) (handle n : ℕ) : Type 0 where
  pub number_is : n ≡ number_of_session handle
  pub loaded : is_loaded_item (item_of items handle) ≡ true

loaded_some : (item : Option Item) → is_loaded_item item ≡ true → is_some item ≡ true
loaded_some None is = absurd cc
loaded_some (Some item) is = refl

pub loaded_there : (items : List (Option Item)) (handle n : ℕ) → IsLoadedUnder items handle n → is_loaded_item (item_at items n) ≡ true
loaded_there items handle n under =
    ap (λ (n : ℕ). is_loaded_item (item_at items n)) under.number_is
    ∙ loaded_whole handle (item_at items (number_of_session handle)) under.loaded

-- it was saved, and its context was handed out
pub hands_of : {contexts : ContextLimits} (items : List (Option Item)) (mid : List Record) (handle n : ℕ) (last : Option (List ℕ)) (reply : List ℕ) (next : ℕ)
    (d new : Record) → IsLoadedUnder items handle n → AreRecords contexts mid → is_saved_item (item_at (items_of mid) n) ≡ true
    → KeepsReply last reply items (items_of mid) n next → d ≡ get_or mid n d → IsHandedOut (get_or mid n d) new
    → Hands contexts items mid n (drop HEADER_BYTES reply) (get_or mid n d) new
hands_of items mid handle n last reply next d new under sound saved kept there is = record {
  fits = loaded_inside items n (loaded_there items handle n under);
  sound = sound;
  saved = saved;
  items_are = kept.items_are;
  there = ap (get_or mid n) there;
  is = is;
}

-- its item
record Under (items : List (Option Item)) (handle n : ℕ) : Type 0 where
  item : Item
  at : item_at items n ≡ Some item
  of : item_of items handle ≡ Some item
  handle_is : item.handle ≡ handle

under_of : (items : List (Option Item)) (handle n : ℕ) → IsLoadedUnder items handle n → Under items handle n
under_of items handle n under =
    let named = loaded_some (item_of items handle) under.loaded in
    let has = has_item items handle named in
    record {
      item = has.item;
      at = ap (item_at items) under.number_is ∙ has.was;
      of = named_is items handle named ∙ has.was;
      handle_is = has.handle_is;
    }

pub asks_told : {contexts : ContextLimits} {D A : Type 0} (seen : D → Seen) (old new : D) (result : Result A SwapError) (items : List (Option Item)) (handle n : ℕ)
    → IsLoadedUnder items handle n → IsSomeAnd (item_at items n) (λ item. Asks contexts seen old new (context_save_command item.handle) result)
    → Asks contexts seen old new (context_save_command handle) result
asks_told {contexts = contexts} seen old new result items handle n under asks =
    let its = under_of items handle n under in
    let own = subst (λ (item : Option Item). IsSomeAnd item (λ item. Asks contexts seen old new (context_save_command item.handle) result)) its.at asks in
    subst (λ (h : ℕ). Asks contexts seen old new (context_save_command h) result) its.handle_is own

-- the response has its context
abbrev pub HasContext : Option SlotState → List ℕ → ℕ → Option Item → Type 0
HasContext state reply handle item =
    IfSome state (λ slots. HandsOut slots handle (item_session slots item) reply)

pub replies_told : {contexts : ContextLimits} (state : Option SlotState) (items : List (Option Item)) (handle n : ℕ) (reply : List ℕ) → IsLoadedUnder items handle n
    → IsSomeAnd (item_at items n) (λ item. RepliesOf contexts state reply item)
    → Succeeds contexts (context_save_command handle) reply × HasContext state reply handle (item_of items handle)
replies_told {contexts = contexts} state items handle n reply under told =
    let its = under_of items handle n under in
    let is : RepliesOf contexts state reply its.item =
    subst (λ (item : Option Item). IsSomeAnd item (λ item. RepliesOf contexts state reply item)) its.at told in (
      subst (λ (handle : ℕ). Succeeds contexts (context_save_command handle) reply) its.handle_is is.success,
      subst (λ (item : Option Item). HasContext state reply handle item) (sym its.of)
          (subst (λ (handle : ℕ). HasContext state reply handle (Some its.item)) its.handle_is is.context),
    )

-- it has the number that came next
context_numbered : (bytes : List ℕ) (item : Option Item) → is_loaded_item item ≡ true
    → number_of_item (with_context bytes item) ≡ Some (context_number bytes)
context_numbered bytes None is = absurd cc
context_numbered bytes (Some item) is = refl

pub number_told : (state : Option SlotState) (items : List (Option Item)) (mid : List Record) (n : ℕ) (bytes : List ℕ)
    → is_loaded_item (item_at items n) ≡ true → items_of mid ≡ set items n (with_context bytes (item_at items n))
    → IfSome state (λ slots. number_of_item (item_at (items_of mid) n) ≡ Some slots.counter)
    → IfSome state (λ slots. context_number bytes ≡ slots.counter)
number_told None items mid n bytes is items_are told = tt
number_told (Some slots) items mid n bytes is items_are told =
    let here : item_at (items_of mid) n ≡ with_context bytes (item_at items n) =
    ap (λ (l : List (Option Item)). item_at l n) items_are
    ∙ get_or-set_same items n (with_context bytes (item_at items n)) None (loaded_inside items n is) in
    same_Some (context_number bytes) slots.counter
    (sym (context_numbered bytes (item_at items n) is) ∙ sym (ap number_of_item here) ∙ told)

-- ---- a context is given back

-- a handle under which these bytes were handed out names a session
handed_some : (client : ℕ) (bytes : List ℕ) (item : Option Item) → is_handed_to client bytes item ≡ true → is_some item ≡ true
handed_some client bytes None is = absurd cc
handed_some client bytes (Some item) is = refl

-- what a context that is given back leaves
pub record GivenBack (contexts : ContextLimits) (numbers : Numbers) (new_records : List Record) (next : ℕ) (order : OrderView) (new_left : List ℕ)
    (held : ℕ) (view : SessionsView) (client number : ℕ) : Type 0 where
  pub kept : AreListed contexts numbers new_records order new_left held
  pub view_is : whole_view numbers new_records next order new_left contexts ≡ altered (taken_back client) without_one number view
  pub stand : (slots : SlotState) → SessionsStand slots view [] → SessionsStand slots (whole_view numbers new_records next order new_left contexts) []
  pub sessions : (slots : SlotState) → map (item_session slots) (items_of new_records) ≡ map (item_session slots) view.items

pub given_back : {contexts : ContextLimits} {numbers : Numbers} {next : ℕ} {view : SessionsView} (records found : List Record) (order : OrderView)
    (left new_left : List ℕ) (held client handle n : ℕ) (bytes : List ℕ) (r : Record)
    → AreListed contexts numbers records order left held → whole_view numbers records next order left contexts ≡ view → found ≡ records
    → is_handed_to client bytes (item_of (items_of found) handle) ≡ true → n ≡ number_of_session handle → r ≡ get_or records n r
    → new_left ≡ without_one (number_of_session handle) left
    → GivenBack contexts numbers (set records n (with_holder (Some client) true r)) next order new_left held view client (number_of_session handle)
given_back {numbers = numbers} {next = next} {view = view} records found order left new_left held client handle n bytes r kept view_is found_is handed number_is there left_is =
    let items = items_of records in
    let number = number_of_session handle in
    let given = subst (λ (l : List Record). is_handed_to client bytes (item_of (items_of l) handle) ≡ true) found_is handed in
    let named = handed_some client bytes (item_of items handle) given in
    let inside = named_inside records items n handle refl number_is named in
    let whole : item_of items handle ≡ item_at items n = named_is items handle named ∙ ap (item_at items) (sym number_is) in
    let was : is_held (item_at items n) ≡ true = ap is_held (sym whole) ∙ given_held client bytes (item_of items handle) given in
    let some : is_some (item_at items n) ≡ true = ap (λ (o : Option Item). is_some o) (sym whole) ∙ named in
    let item = taken_back client (item_at items n) in
    let is_now : is_held item ≡ true = owner_held item (taken_owner client (item_at items n) some) in
    let gone = left_is ∙ ap (λ (k : ℕ). without_one k left) (sym number_is) in
    let alters = taken_there client records n r inside there in
    let after = altered_view (taken_back client) without_one numbers records next order left new_left view n number r (Some client) true view_is
    number_is alters gone in
    let long = ap (λ (v : SessionsView). length v.items) view_is in
    let fits : number < length view.items = omega (arith, inside, number_is, length-map records item_of_record, long) in
    record {
      kept = kept_altered records order left new_left held held n r (Some client) true item kept alters
          (subst (λ (l : List ℕ). ListsThose is_left l (set items n item)) (sym gone)
          (lists_without is_left refl items left n item kept.left_are (taken_unleft client (item_at items n))))
          (kept.held_is ∙ sym (count_unchanged is_held items n item (is_now ∙ sym was)));
      view_is = after;
      stand = λ slots stand.
          subst (λ (v : SessionsView). SessionsStand slots v []) (sym after)
          (stands_held slots view (without_one number view.left) [] number (taken_back client (item_at view.items number)) stand fits
          (taken_held client (item_at view.items number)));
      sessions = λ slots.
          ap (λ (v : SessionsView). map (item_session slots) v.items) after
          ∙ sessions_held slots view.items number (taken_back client (item_at view.items number)) (taken_held client (item_at view.items number));
    }
