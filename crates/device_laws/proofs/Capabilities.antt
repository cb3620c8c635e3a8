-- How long the response to GetCapability is.
use Rattle.std.proofs.Common.{◌+◌, ◌*◌, ◌≤◌, ℕ, zero, suc, min, Bool, true, false, List, [], ◌∷◌, ◌++◌, length, take, arith, length-append, length-take}
use Rattle.std.specs.Prelude.{◌==◌, ◌&&◌, not, nat_lt, nat_le, map, Result, Ok, Err, if◌then◌else◌}
use Rattle.std.specs.List.{AllByRecursion, filter, range_with_len}
use Rattle.std.specs.Int.{w32, to_be_bytes}
use Rattle.std.proofs.lemmas.Bool.{cond_both}
use Rattle.tab_spec.specs.declared.CommandRow.{CommandRow}
use Rattle.tab_spec.specs.declared.TheConstants.{PCRS, RH_OWNER, RH_NULL, RS_PW, HT_NV_INDEX, HT_HMAC_SESSION, HT_POLICY_SESSION, HT_TRANSIENT, HT_PERSISTENT, RC_P, RC_1, RC_VALUE, RC_HANDLE}
use Rattle.tab_spec.specs.NvIndex.{NvIndex}
use Rattle.tab_spec.specs.Persist.{Persist}
use Rattle.tab_spec.specs.Shape.{octet_of, number_of_session}
use Rattle.effect_spec.specs.Capabilities.{Asked, CapabilityLimits, Listed, asked_of, capability_of, command_attributes, command_items, from_number, handle_items, handles_listed, joined_items, listed, listed_sessions, most_items, pcr_list, property_items, property_pairs, upwards}
use Rattle.device_laws.proofs.NvRows.{Short, Any, gives_any, read_gives}

-- no item has more than eight bytes
abbrev AreItems : List (List ℕ) → Type 0
AreItems items = AllByRecursion (λ (item : List ℕ). length item ≤ 8) items

mapped_items : {X : Type 0} (f : X → List ℕ) (xs : List X) → ((x : X) → length (f x) ≤ 8) → AreItems (map f xs)
mapped_items f [] small = tt
mapped_items f (x ∷ xs) small = (small x, mapped_items f xs small)

joined_few : (items : List (List ℕ)) → AreItems items → length (joined_items items) ≤ 8 * length items
joined_few [] all = omega arith
joined_few (item ∷ items) all = omega (arith, length-append item (joined_items items), all.0, joined_few items all.1)

first_items : (most : ℕ) (items : List (List ℕ)) → AreItems items → AreItems (take most items)
first_items zero items all = tt
first_items (suc most) [] all = tt
first_items (suc most) (item ∷ items) all = (all.0, first_items most items all.1)

list_parts : (more capability count : ℕ) (items : List ℕ) → length items ≤ 2032
    → length (more ∷ to_be_bytes w32 capability ++ to_be_bytes w32 count ++ items) ≤ 4000
list_parts more capability count items few = omega (arith, length-append (to_be_bytes w32 capability ++ to_be_bytes w32 count) items, few)

listed_few : (asked : Asked) (items : List (List ℕ)) → AreItems items → length (listed asked items) ≤ 4000
listed_few asked items all =
    let most = min asked.count most_items in
    let these = take most items in
    list_parts (if nat_lt most (length items) then 1 else 0) asked.capability (min most (length items)) (joined_items these)
    (omega (arith, joined_few these (first_items most items all), length-take most items))

-- ---- handles

abbrev ItemsWell : Result (List (List ℕ)) ℕ → Type 0
ItemsWell (Err code) = Unit
ItemsWell (Ok items) = AreItems items

four : (n : ℕ) → length (to_be_bytes w32 n) ≤ 8
four n = omega arith

numbers_well : (least : ℕ) (numbers : List ℕ) → AreItems (from_number least numbers)
unfolding from_number
numbers_well least numbers = mapped_items (λ n. to_be_bytes w32 n) (filter (λ n. nat_le least n) numbers) four

sessions_well : (in_use : Bool) (least : ℕ) (sessions : List Listed) → AreItems (listed_sessions in_use least sessions)
sessions_well in_use least sessions =
    mapped_items (λ (s : Listed). to_be_bytes w32 s.handle)
    (filter (λ (s : Listed). (if in_use then s.in_use else not s.in_use) && nat_le least (number_of_session s.handle)) sessions)
    (λ (s : Listed). four s.handle)

handles_well : (persist : Persist) (objects : List ℕ) (sessions : List Listed) (property : ℕ) → ItemsWell (handle_items persist objects sessions property)
handles_well persist objects sessions property =
    let octet = octet_of property in
    cond_both (octet == 0) _ _ ItemsWell (λ so. numbers_well property (range_with_len 0 PCRS)) (λ not.
    cond_both (octet == HT_NV_INDEX) _ _ ItemsWell
    (λ so. numbers_well property (upwards (map (λ (item : NvIndex). item.public.index) persist.nv))) (λ not.
    cond_both (octet == HT_HMAC_SESSION) _ _ ItemsWell (λ so. sessions_well true (number_of_session property) sessions) (λ not.
    cond_both (octet == HT_POLICY_SESSION) _ _ ItemsWell (λ so. sessions_well false (number_of_session property) sessions) (λ not.
    cond_both (octet == 0x40) _ _ ItemsWell (λ so. numbers_well property (RH_OWNER ∷ RH_NULL ∷ RS_PW ∷ [])) (λ not.
    cond_both (octet == HT_TRANSIENT) _ _ ItemsWell (λ so. numbers_well property objects) (λ not.
    cond_both (octet == HT_PERSISTENT) (Ok []) (Err (RC_HANDLE + RC_P + RC_1 * 2)) ItemsWell (λ so. tt) (λ not. tt)))))))

handles_short : (asked : Asked) (items : Result (List (List ℕ)) ℕ) → ItemsWell items → Short (handles_listed asked items)
handles_short asked (Err code) all = tt
handles_short asked (Ok items) all = listed_few asked items all

-- ---- commands, PCRs, properties

commands_well : (rows : List CommandRow) (least : ℕ) → AreItems (command_items rows least)
unfolding command_items
commands_well rows least =
    mapped_items (λ (row : CommandRow). to_be_bytes w32 (command_attributes row)) (filter (λ (row : CommandRow). nat_le least row.code) rows)
    (λ (row : CommandRow). four (command_attributes row))

properties_well : (pairs : List (ℕ × ℕ)) (least : ℕ) → AreItems (property_items pairs least)
unfolding property_items
properties_well pairs least =
    mapped_items (λ (pair : ℕ × ℕ). to_be_bytes w32 pair.0 ++ to_be_bytes w32 pair.1) (filter (λ (pair : ℕ × ℕ). nat_le least pair.0) pairs)
    (λ (pair : ℕ × ℕ). omega arith)

pcrs_short : length (pcr_list 5) ≤ 4000
pcrs_short = omega arith

-- ---- the whole

pub short_capability : (limits : CapabilityLimits) (rows : List CommandRow) (persist : Persist) (objects : List ℕ) (sessions : List Listed) (active : ℕ) (params : List ℕ)
    → Short (capability_of limits rows persist objects sessions active params)
short_capability limits rows persist objects sessions active params =
    read_gives Short Any (asked_of params) _ (gives_any (asked_of params)) (λ code. tt) (λ asked any.
    cond_both (asked.capability == 1) _ _ Short
    (λ so. handles_short asked (handle_items persist objects sessions asked.property) (handles_well persist objects sessions asked.property)) (λ not.
    cond_both (asked.capability == 2) _ _ Short (λ so. listed_few asked (command_items rows asked.property) (commands_well rows asked.property)) (λ not.
    cond_both (asked.capability == 5) _ _ Short (λ so. pcrs_short) (λ not.
    cond_both (asked.capability == 6) (Ok (listed asked (property_items (property_pairs limits objects sessions active) asked.property)))
    (Err (RC_VALUE + RC_P + RC_1)) Short
    (λ so. listed_few asked (property_items (property_pairs limits objects sessions active) asked.property)
    (properties_well (property_pairs limits objects sessions active) asked.property)) (λ not. tt)))))
