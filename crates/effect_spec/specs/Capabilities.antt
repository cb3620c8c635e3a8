-- What a device says of itself (Part 3, "TPM2_GetCapability"; Part 2, "TPM_CAP", "TPM_PT"), to a client of the broker and as it is. Which lists there are, and their
-- limits, are this project's own profile.
use Rattle.std.specs.Prelude.{ℕ, ◌+◌, ◌*◌, ◌-◌, ◌^◌, ◌==◌, ◌&&◌, ◌||◌, not, nat_lt, nat_le, min, Bool, true, false, List, [], ◌∷◌, ◌++◌, length, map, take, Option, Some, None, Result, Ok, Err, if◌then◌else◌}
use Rattle.std.specs.List.{filter, fold, count_by, range_with_len}
use Rattle.std.specs.Int.{w16, w32, to_be_bytes}
use Rattle.tab_spec.specs.declared.CommandRow.{CommandRow}
use Rattle.tab_spec.specs.declared.numbers.Numbers.{Numbers}
use Rattle.tab_spec.specs.declared.TheConstants.{PCRS, MOST_BYTES, ALG_SHA256, RH_OWNER, RH_NULL, RS_PW, HT_NV_INDEX, HT_HMAC_SESSION, HT_POLICY_SESSION, HT_TRANSIENT, HT_PERSISTENT, RC_P, RC_1, RC_VALUE, RC_HANDLE, RC_INSUFFICIENT}
use Rattle.tab_spec.specs.Values.{Reading, number32, ◌>>=◌}
use Rattle.tab_spec.specs.Parameters.{in_parameter, when_read}
use Rattle.tab_spec.specs.NvIndex.{NvIndex}
use Rattle.tab_spec.specs.Persist.{Persist}
use Rattle.tab_spec.specs.Shape.{count_in, is_session_octet, number_of_session, octet_of}

-- ---- what is asked, and of what

-- a session by its handle, and whether it is in use or saved
pub record Listed : Type 0 where
  pub handle : ℕ
  pub in_use : Bool

-- of whom it is asked: how many objects and sessions there may be, and how far context numbers may be apart
pub record CapabilityLimits : Type 0 where
  pub objects : ℕ
  pub loaded : ℕ
  pub active : ℕ
  pub gap : ℕ
  -- whether a place for a session in use is taken by every active session, also of others
  pub counts_active : Bool

-- what a client sees, where so many sessions may be active over all clients
abbrev pub client_limits : ℕ → CapabilityLimits
client_limits most = record { objects = 4096; loaded = most; active = most; gap = 0xffffffff; counts_active = true }

-- what a device of these numbers has
abbrev pub device_limits : Numbers → CapabilityLimits
device_limits numbers = record {
  objects = numbers.slots;
  loaded = numbers.loaded;
  active = numbers.active;
  gap = numbers.gap;
  counts_active = false;
}

pub record Asked : Type 0 where
  pub capability : ℕ
  pub property : ℕ
  pub count : ℕ

abbrev pub asked_of : List ℕ → Reading Asked
asked_of params = do
  (capability, rest) ← in_parameter 1 (number32 RC_INSUFFICIENT params)
  (property, rest) ← in_parameter 2 (number32 RC_INSUFFICIENT rest)
  (count, rest) ← in_parameter 3 (number32 RC_INSUFFICIENT rest)
  Ok (record { capability = capability; property = property; count = count }, rest)

-- ---- lists

-- a list of numbers upwards, with one more in its place; a number that stands there already isn't added
abbrev pub inserted : List ℕ → ℕ → List ℕ
inserted [] n = n ∷ []
inserted (next ∷ more) n =
    if nat_lt n next then n ∷ next ∷ more
    else if n == next then next ∷ more
    else next ∷ inserted more n

-- the numbers of a list upwards, each once
abbrev pub upwards : List ℕ → List ℕ
upwards numbers = fold inserted [] numbers

-- no list has more items
abbrev pub most_items : ℕ
most_items = 254

abbrev pub joined_items : List (List ℕ) → List ℕ
joined_items [] = []
joined_items (item ∷ items) = item ++ joined_items items

-- the response parameters: whether items are left over, the capability, and at most so many items
abbrev pub listed_with : ℕ → ℕ → List (List ℕ) → List ℕ
listed_with capability most items =
    (if nat_lt most (length items) then 1 else 0) ∷ to_be_bytes w32 capability ++ to_be_bytes w32 (min most (length items)) ++ joined_items (take most items)

abbrev pub listed : Asked → List (List ℕ) → List ℕ
listed asked items = listed_with asked.capability (min asked.count most_items) items

-- the numbers from this one on, as items
unfoldable pub from_number : ℕ → List ℕ → List (List ℕ)
from_number least numbers = map (λ n. to_be_bytes w32 n) (filter (λ n. nat_le least n) numbers)

-- ---- handles (Part 2, "TPM_CAP_HANDLES")

-- the handles of the objects that stand in places; the first place has this handle
abbrev pub transient_from : {A : Type 0} → ℕ → List (Option A) → List ℕ
transient_from handle [] = []
transient_from handle (None ∷ places) = transient_from (handle + 1) places
transient_from handle (Some o ∷ places) = handle ∷ transient_from (handle + 1) places

-- the sessions from this number on, in use or saved
abbrev pub listed_sessions : Bool → ℕ → List Listed → List (List ℕ)
listed_sessions in_use least sessions =
    map (λ (s : Listed). to_be_bytes w32 s.handle)
    (filter (λ (s : Listed). (if in_use then s.in_use else not s.in_use) && nat_le least (number_of_session s.handle)) sessions)

abbrev pub handle_items : Persist → List ℕ → List Listed → ℕ → Result (List (List ℕ)) ℕ
handle_items persist objects sessions property =
    let octet = octet_of property in
    if octet == 0 then Ok (from_number property (range_with_len 0 PCRS))
    else if octet == HT_NV_INDEX then Ok (from_number property (upwards (map (λ (item : NvIndex). item.public.index) persist.nv)))
    else if octet == HT_HMAC_SESSION then Ok (listed_sessions true (number_of_session property) sessions)
    else if octet == HT_POLICY_SESSION then Ok (listed_sessions false (number_of_session property) sessions)
    else if octet == 0x40 then Ok (from_number property (RH_OWNER ∷ RH_NULL ∷ RS_PW ∷ []))
    else if octet == HT_TRANSIENT then Ok (from_number property objects)
    else if octet == HT_PERSISTENT then Ok []
    else Err (RC_HANDLE + RC_P + RC_1 * 2)

abbrev pub handles_listed : Asked → Result (List (List ℕ)) ℕ → Result (List ℕ) ℕ
handles_listed asked found = do
  items ← found
  Ok (listed asked items)

-- ---- commands (Part 2, "TPMA_CC")

abbrev pub command_attributes : CommandRow → ℕ
command_attributes row = row.code + 2 ^ 25 * count_in row.handles + (if row.response_handle then 2 ^ 28 else 0)

unfoldable pub command_items : List CommandRow → ℕ → List (List ℕ)
command_items rows least = map (λ (row : CommandRow). to_be_bytes w32 (command_attributes row)) (filter (λ (row : CommandRow). nat_le least row.code) rows)

-- ---- PCRs, and properties (Part 2, "TPM_PT")

-- the one bank, with all PCRs
abbrev pub pcr_list : ℕ → List ℕ
pcr_list capability = 0 ∷ to_be_bytes w32 capability ++ to_be_bytes w32 1 ++ to_be_bytes w16 ALG_SHA256 ++ 3 ∷ 0xff ∷ 0xff ∷ 0xff ∷ []

abbrev pub loaded_by : CapabilityLimits → ℕ → ℕ → ℕ
loaded_by limits active in_use = if limits.counts_active then active else in_use

abbrev pub property_pairs : CapabilityLimits → List ℕ → List Listed → ℕ → List (ℕ × ℕ)
property_pairs limits objects sessions active =
    let in_use = count_by (λ (s : Listed). s.in_use) sessions in
    (0x10e, limits.objects) ∷ (0x110, limits.loaded) ∷ (0x111, limits.active) ∷ (0x112, PCRS) ∷ (0x114, limits.gap) ∷ (0x11e, MOST_BYTES) ∷ (0x11f, MOST_BYTES)
    ∷ (0x203, in_use) ∷ (0x204, limits.loaded - loaded_by limits active in_use) ∷ (0x205, length sessions) ∷ (0x206, limits.active - active)
    ∷ (0x207, limits.objects - length objects) ∷ []

unfoldable pub property_items : List (ℕ × ℕ) → ℕ → List (List ℕ)
property_items pairs least =
    map (λ (pair : ℕ × ℕ). to_be_bytes w32 pair.0 ++ to_be_bytes w32 pair.1) (filter (λ (pair : ℕ × ℕ). nat_le least pair.0) pairs)

-- ---- the whole

-- the list of a capability
abbrev pub list_of : CapabilityLimits → List CommandRow → Persist → List ℕ → List Listed → ℕ → Asked → Result (List ℕ) ℕ
list_of limits rows persist objects sessions active asked =
    if asked.capability == 1 then handles_listed asked (handle_items persist objects sessions asked.property)
    else if asked.capability == 2 then Ok (listed asked (command_items rows asked.property))
    else if asked.capability == 5 then Ok (pcr_list 5)
    else if asked.capability == 6 then Ok (listed asked (property_items (property_pairs limits objects sessions active) asked.property))
    else Err (RC_VALUE + RC_P + RC_1)

-- whether a list is of the caller's own: its objects, its sessions, and the properties
abbrev pub is_own_list : Asked → Bool
is_own_list asked =
    if asked.capability == 1 then octet_of asked.property == HT_TRANSIENT || is_session_octet (octet_of asked.property)
    else asked.capability == 6

abbrev pub asks_another : Result Asked ℕ → Bool
asks_another (Err code) = false
asks_another (Ok asked) = not (is_own_list asked)

-- whether a resource manager has the device answer a client that asks this: the parameters are read whole, and the list is
-- none of those
abbrev pub is_of_device : List ℕ → Bool
is_of_device params = asks_another (when_read (asked_of params) (λ asked. Ok asked))

-- the response parameters, by what there is: the commands, the transient handles upwards, the sessions by their numbers, and how many sessions are
-- active over all clients
abbrev pub capability_of : CapabilityLimits → List CommandRow → Persist → List ℕ → List Listed → ℕ → List ℕ → Result (List ℕ) ℕ
capability_of limits rows persist objects sessions active params =
    when_read (asked_of params) (list_of limits rows persist objects sessions active)
