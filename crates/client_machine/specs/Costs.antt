-- What calls send at the most, and what stays in the device, by what is kept beside it: so over every device.
use Rattle.std.specs.Prelude.{◌≡◌, ◌≤◌, ◌⊎◌, ℕ, ◌+◌, ◌*◌, ◌&&◌, nat_lt, true, List, Option, Some, None, if◌then◌else◌}
use Rattle.std.specs.List.{count_by}
use Rattle.tab_spec.specs.declared.numbers.Numbers.{Numbers}
use Rattle.tab_spec.specs.declared.Admitted.{Admitted}
use Rattle.client_laws.specs.Ready.{starts_session}
use Rattle.device_port.specs.Device.{Seen, sent_of}
use Rattle.object_swap.specs.Items as objects
use Rattle.object_swap.specs.Items.{Item, is_client, is_resident, is_vacant, residents}
use Rattle.session_swap.specs.Items as sessions
use Rattle.session_swap.specs.Items.{is_loaded_item, is_owned, loaded_items, renewal_gap}
use Rattle.client_machine.specs.declared.held.Held.{Held}

-- no more than so many commands were sent
abbrev pub SendsUpTo : {D : Type 0} (seen : D → Seen) → ℕ → (old new : D) → Type 0
SendsUpTo seen most old new = sent_of (seen new) ≤ sent_of (seen old) + most

-- what closes a gap that is due: two commands for each session that may be active, and one to free a place
abbrev pub renewal_bound : (gap : ℕ) → Numbers → ℕ
renewal_bound gap numbers = if nat_lt gap (renewal_gap numbers) then 0 else 2 * numbers.active + 1

-- what one command of a client costs, where there are so many orphans and the gap is so large
abbrev pub new_bound : (orphans gap : ℕ) → Numbers → ℕ
new_bound orphans gap numbers = 13 + orphans + renewal_bound gap numbers

-- What is in a slot stays there, unless it is gone, or no more than so many slots are free. A loaded session stays loaded, unless it is
-- gone, or the command saves the session of this number for its client, or no more than so many places are free
pub record StaysIn (slots places : ℕ) (saves : Option ℕ) (held new_held : Held) : Type 0 where
  pub objects : (index : ℕ) → is_resident (objects.item_at held.objects.items index) ≡ true
      → (is_resident (objects.item_at new_held.objects.items index) ≡ true)
      ⊎ ((is_vacant (objects.item_at new_held.objects.items index) ≡ true)
      ⊎ (new_held.objects.slots ≤ residents new_held.objects.items + slots))
  pub sessions : (number : ℕ) → is_loaded_item (sessions.item_at held.sessions.items number) ≡ true
      → (is_loaded_item (sessions.item_at new_held.sessions.items number) ≡ true)
      ⊎ ((sessions.item_at new_held.sessions.items number ≡ None) ⊎ ((saves ≡ Some number)
      ⊎ (new_held.sessions.numbers.loaded ≤ loaded_items new_held.sessions.items + places)))

-- how many places a command may leave free beside that: one where it starts a session
abbrev pub places_of : Admitted → ℕ
places_of a = if starts_session a then 1 else 0

-- ---- a close

-- how many objects a client has, and how many of them are in slots
abbrev pub own_objects : ℕ → List Item → ℕ
own_objects client items = count_by (is_client client) items

abbrev pub own_residents : ℕ → List Item → ℕ
own_residents client items = count_by (λ item. is_resident item && is_client client item) items

-- what the close of a client costs: a flush for each of its objects that is in a slot, and one for each of its sessions, which is that
-- of the session, or that of one that was left, where this one is left in its place
abbrev pub close_bound : ℕ → Held → ℕ
close_bound client held = own_residents client held.objects.items + count_by (is_owned client) held.sessions.items
