-- What a client's table and the sessions in the broker list for GetCapability, and what it tells of them.
use Rattle.std.proofs.Common.{◌≡◌, ◌+◌, ◌-◌, ◌*◌, ◌^◌, ◌<◌, ◌≤◌, ℕ, zero, suc, Bool, true, false, List, [], ◌∷◌, ◌++◌, length, take, drop, refl, ap, sym, ◌∙◌, arith}
use Rattle.std.specs.Prelude.{◌==◌, ◌↔◌, Option, Some, None, is_some, MatchOption, MatchBool, Result, Err, replicate, if◌then◌else◌}
use Rattle.std.specs.Int.{w32, to_be_bytes}
use Rattle.std.specs.List.{count_by}
use Rattle.std.specs.Option.{option_or}
use Rattle.std.proofs.lemmas.Bool.{le-leb, lt-leb}
use Rattle.std.proofs.lemmas.List.{get_or-replicate, take_all}
use Rattle.tab_spec.specs.declared.TheConstants.{CC_CONTEXT_LOAD, CC_CONTEXT_SAVE, CC_GET_CAPABILITY, HT_HMAC_SESSION, HT_POLICY_SESSION, RC_SUCCESS, SESSION_NUMBERS, ST_NO_SESSIONS, TRANSIENT_FIRST}
use Rattle.tab_spec.specs.declared.Admitted.{Admitted}
use Rattle.tab_spec.specs.Commands.{all_commands}
use Rattle.tab_spec.specs.Persist.{Persist}
use Rattle.tab_spec.specs.Reply.{error_reply, response}
use Rattle.tab_laws.proofs.Responses.{response_ended}
use Rattle.effect_spec.specs.Capabilities.{Listed, capability_of, client_limits, transient_from}
use Rattle.fx_capability.specs.declared.holdings.HeldSession.{HeldSession}
use Rattle.fx_capability.specs.Lists.{number_from, session_in}
use Rattle.fx_capability.specs.Viewed.{AppendsAlways}
use Rattle.fx_capability.specs.declared.viewed.Viewed.{Viewed}
use Rattle.fx_capability.specs.declared.viewed.Viewed.TheVariants.{Answered, Device, Refused}
use Rattle.fx_capability.specs.Views.{listed_of}
use Rattle.fx_capability.proofs.Numbered.{first_of_items, session_found}
use Rattle.fx_capability.proofs.Objects.{objects_counted}
use Rattle.session_swap.specs.Items.{Item, SessionsView, is_held}
use Rattle.history_spec.specs.declared.TheConstants.{CLIENT_OBJECTS}
use Rattle.world_spec.specs.World.{load_parameters, save_parameters}
use Rattle.history_spec.specs.Table.{count_held, first_taken, handle_from, handle_of_number, number_of_object}
use Rattle.client_machine.specs.Listing.{AreNumbered, are_at, are_numbered, at_number, by_place, listed_from, listed_number, listed_only, listed_under, objects_had, places_are, sessions_had}
use Rattle.client_machine.specs.Replies.{given_back, handle_told, nothing_told, own_answer, own_capability, reply_of}

-- ---- objects

pub objects_all : (table : List (Option ℕ)) → length table ≤ CLIENT_OBJECTS → objects_had table ≡ transient_from TRANSIENT_FIRST table
objects_all table short = ap (λ (places : List (Option ℕ)). transient_from TRANSIENT_FIRST places) (take_all CLIENT_OBJECTS table short)

pub objects_counted_had : (table : List (Option ℕ)) → length table ≤ CLIENT_OBJECTS → count_held table ≡ length (objects_had table)
objects_counted_had table short =
    objects_counted TRANSIENT_FIRST table ∙ ap (λ (handles : List ℕ). length handles) (sym (objects_all table short))

passed_one : (least first : ℕ) (more : List ℕ) → first < least → number_from least (first ∷ more) ≡ number_from least more
passed_one least first more below = ap (λ (found : Bool). if found then Some first else number_from least more) (lt-leb least first below)

-- the handles below this one are passed
passed_from : (least first passed : ℕ) (places : List (Option ℕ)) → (0 < passed → first + passed ≤ least)
    → number_from least (transient_from first places) ≡ number_from least (transient_from (first + passed) (drop passed places))
passed_from least first zero places below = ap (λ (n : ℕ). number_from least (transient_from n places)) (omega arith)
passed_from least first (suc passed) [] below = refl
passed_from least first (suc passed) (None ∷ places) below =
    let most : first + suc passed ≤ least = below (omega arith) in
    passed_from least (first + 1) passed places (λ some. omega (arith, most))
    ∙ ap (λ (n : ℕ). number_from least (transient_from n (drop passed places))) (omega arith)
passed_from least first (suc passed) (Some item ∷ places) below =
    let most : first + suc passed ≤ least = below (omega arith) in
    passed_one least first (transient_from (first + 1) places) (omega (arith, most))
    ∙ passed_from least (first + 1) passed places (λ some. omega (arith, most))
    ∙ ap (λ (n : ℕ). number_from least (transient_from n (drop passed places))) (omega arith)

handle_at : ℕ → Option ℕ → Option ℕ
handle_at first None = None
handle_at first (Some number) = Some (first + number)

-- and the first that is left is the first that is taken
taken_from : (least first number : ℕ) (places : List (Option ℕ)) → least ≤ first + number
    → handle_at first (first_taken number places) ≡ number_from least (transient_from (first + number) places)
unfolding handle_at
taken_from least first number [] above = refl
taken_from least first number (None ∷ places) above =
    taken_from least first (number + 1) places (omega (arith, above))
    ∙ ap (λ (n : ℕ). number_from least (transient_from n places)) (omega arith)
taken_from least first number (Some item ∷ places) above =
    sym (ap (λ (found : Bool). if found then Some (first + number) else number_from least (transient_from (first + number + 1) places))
    (le-leb least (first + number) above))

handle_from_by : (least first number : ℕ) (places : List (Option ℕ)) → number ≡ least - first
    → handle_at first (first_taken number (drop number places)) ≡ number_from least (transient_from first places)
handle_from_by least first number places is =
    taken_from least first number (drop number places) (omega (arith, is)) ∙ sym (passed_from least first number places (λ some. omega (arith, is, some)))

handle_of : (number : Option ℕ) → handle_of_number number ≡ handle_at TRANSIENT_FIRST number
unfolding handle_at
handle_of None = refl
handle_of (Some number) = refl

pub objects_from : (least : ℕ) (table : List (Option ℕ)) → length table ≤ CLIENT_OBJECTS
    → handle_from table least ≡ number_from least (objects_had table)
objects_from least table short =
    let number = number_of_object least in
    handle_of (first_taken number (drop number table))
    ∙ handle_from_by least TRANSIENT_FIRST number table refl
    ∙ ap (λ (handles : List ℕ). number_from least handles) (sym (objects_all table short))

-- ---- sessions

first_of_only : (s : Option Listed) → first_of_items (listed_only s) ≡ s
first_of_only None = refl
first_of_only (Some s) = refl

found_listed : (listed : ℕ → Option Listed) (count n : ℕ) → AreNumbered listed → n < count → count ≤ 2 ^ 24
    → session_in n (listed_from listed count 0) ≡ listed n
found_listed listed count n all inside within =
    let places = replicate count true in
    let long : length places ≤ 2 ^ 24 = omega (arith, places_are count, within) in
    ap (session_in n) (by_place listed count 0)
    ∙ session_found (at_number listed) false (2 ^ 24) n places (are_at listed all) (λ m. refl) long
    ∙ ap (λ (taken : Bool). first_of_items (at_number listed n taken)) (get_or-replicate count n true false inside)
    ∙ first_of_only (listed n)

session_had : (client n : ℕ) (items : List (Option Item)) → n < SESSION_NUMBERS → session_in n (sessions_had client items) ≡ listed_number client items n
unfolding sessions_had
session_had client n items few = found_listed (listed_number client items) SESSION_NUMBERS n (are_numbered client items) few (omega arith)

-- whether a session of a client was found
abbrev pub IsListed : Option HeldSession → Option Listed → Type 0
IsListed result found = MatchOption result (found ≡ None) (λ s. found ≡ Some (listed_of s))

first_had : (result : Option HeldSession) (one other found : Option Listed) → found ≡ option_or one other → is_some result ≡ true → IsListed result one
    → IsListed result found
first_had None one other found is there told = absurd cc
first_had (Some s) one other found is there told = is ∙ ap (λ (o : Option Listed). option_or o other) told

other_by : (first result : Option HeldSession) (one other found : Option Listed) → found ≡ option_or one other → is_some first ≡ false → IsListed first one
    → IsListed result other → IsListed result found
other_by None None one other found is none told also = is ∙ (λ i. option_or (told i) other) ∙ also
other_by None (Some s) one other found is none told also = is ∙ (λ i. option_or (told i) other) ∙ also
other_by (Some first) result one other found is none told also = absurd cc

-- an HMAC session with this number, or else a policy session
pub hmac_had : (client n : ℕ) (items : List (Option Item)) (result : Option HeldSession) → n < SESSION_NUMBERS → is_some result ≡ true
    → IsListed result (listed_under client items (HT_HMAC_SESSION * 2 ^ 24 + n)) → IsListed result (session_in n (sessions_had client items))
hmac_had client n items result few there told =
    first_had result (listed_under client items (HT_HMAC_SESSION * 2 ^ 24 + n)) (listed_under client items (HT_POLICY_SESSION * 2 ^ 24 + n))
    (session_in n (sessions_had client items)) (session_had client n items few) there told

pub policy_had : (client n : ℕ) (items : List (Option Item)) (first result : Option HeldSession) → n < SESSION_NUMBERS → is_some first ≡ false
    → IsListed first (listed_under client items (HT_HMAC_SESSION * 2 ^ 24 + n))
    → IsListed result (listed_under client items (HT_POLICY_SESSION * 2 ^ 24 + n)) → IsListed result (session_in n (sessions_had client items))
policy_had client n items first result few none told also =
    other_by first result (listed_under client items (HT_HMAC_SESSION * 2 ^ 24 + n)) (listed_under client items (HT_POLICY_SESSION * 2 ^ 24 + n))
    (session_in n (sessions_had client items)) (session_had client n items few) none told also

-- ---- what is told

-- what is told over the objects and the sessions that are listed
abbrev pub told_of : ℕ → List (Option ℕ) → List (Option Item) → (active most : ℕ) → List ℕ → Persist → Result (List ℕ) ℕ
told_of client table items active most params persist =
    capability_of (client_limits most) all_commands persist (objects_had table) (sessions_had client items) active params

own_told : (client : ℕ) (table : List (Option ℕ)) (view : SessionsView) (active most : ℕ) (params : List ℕ) (persist : Persist)
    → length table ≤ CLIENT_OBJECTS → active ≡ count_by is_held view.items → most ≡ view.numbers.active
    → told_of client table view.items active most params persist ≡ own_capability persist client table view params
own_told client table view active most params persist short count limit =
    λ i. capability_of (client_limits (limit i)) all_commands persist (objects_all table short i) (sessions_had client view.items) (count i) params

pub answered_had : (client : ℕ) (table : List (Option ℕ)) (view : SessionsView) (active most : ℕ) (params begun whole reply : List ℕ)
    → length table ≤ CLIENT_OBJECTS → active ≡ count_by is_held view.items → most ≡ view.numbers.active → begun ≡ response ST_NO_SESSIONS RC_SUCCESS []
    → AppendsAlways (told_of client table view.items active most params) begun whole
    → reply ≡ take 2 whole ++ to_be_bytes w32 (length whole) ++ drop 6 whole
    → (persist : Persist) → reply ≡ reply_of (own_capability persist client table view params)
answered_had client table view active most params begun whole reply short count limit begun_is told ended = λ persist.
    response_ended ST_NO_SESSIONS RC_SUCCESS begun told.0 whole reply begun_is told.2 ended
    ∙ sym (ap reply_of (sym (own_told client table view active most params persist short count limit) ∙ told.1 persist))

pub refused_had : (client : ℕ) (table : List (Option ℕ)) (view : SessionsView) (active most code : ℕ) (params reply : List ℕ)
    → length table ≤ CLIENT_OBJECTS → active ≡ count_by is_held view.items → most ≡ view.numbers.active
    → ((persist : Persist) → told_of client table view.items active most params persist ≡ Err code) → reply ≡ error_reply code
    → (persist : Persist) → reply ≡ reply_of (own_capability persist client table view params)
refused_had client table view active most code params reply short count limit told reply_is = λ persist.
    reply_is ∙ sym (ap reply_of (sym (own_told client table view active most params persist short count limit) ∙ told persist))

-- and is its own
pub answered_own : (viewed : Viewed) (own : Bool) → ((viewed ≡ Device) ↔ (own ≡ true)) → viewed ≡ Answered → own ≡ false
answered_own viewed true device is = absurd (let other : viewed ≡ Device = device.1 refl in cc)
answered_own viewed false device is = refl

pub refused_own : (viewed : Viewed) (own : Bool) (code : ℕ) → ((viewed ≡ Device) ↔ (own ≡ true)) → viewed ≡ Refused code → own ≡ false
refused_own viewed true code device is = absurd (let other : viewed ≡ Device = device.1 refl in cc)
refused_own viewed false code device is = refl

own_lists : (persist : Persist) (client : ℕ) (table : List (Option ℕ)) (view : SessionsView) (a : Admitted) (bytes params : List ℕ)
    → a.shape.row.code ≡ CC_GET_CAPABILITY → params ≡ drop a.auths.params bytes
    → own_capability persist client table view params ≡ own_answer persist client table view a bytes
own_lists persist client table view a bytes params is same =
    let read = drop a.auths.params bytes in
    ap (λ (params : List ℕ). own_capability persist client table view params) same
    ∙ sym (ap (λ (code : ℕ).
    if code == CC_CONTEXT_SAVE then nothing_told (save_parameters read)
    else if code == CC_CONTEXT_LOAD then handle_told (given_back client view.items read (load_parameters read))
    else own_capability persist client table view read) is)

-- as what the broker answers by itself
pub own_reply : (alone own : Bool) (client : ℕ) (table : List (Option ℕ)) (view : SessionsView) (a : Admitted) (bytes params reply : List ℕ)
    → MatchBool alone ((own ≡ false) × ((persist : Persist) → reply ≡ reply_of (own_capability persist client table view params))) (own ≡ true)
    → alone ≡ true → a.shape.row.code ≡ CC_GET_CAPABILITY → params ≡ drop a.auths.params bytes
    → (persist : Persist) → reply ≡ reply_of (own_answer persist client table view a bytes)
own_reply true own client table view a bytes params reply told alone is same = λ persist.
    told.1 persist ∙ ap reply_of (own_lists persist client table view a bytes params is same)
own_reply false own client table view a bytes params reply told alone is same = absurd cc
