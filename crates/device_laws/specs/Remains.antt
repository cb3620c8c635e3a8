-- What a device tells of what it holds and of its numbers, and what a flush leaves.
use Rattle.std.specs.Prelude.{◌≡◌, ℕ, true, List}
use Rattle.tab_spec.specs.declared.contexts.TheConstants.{PROFILE_CONTEXTS}
use Rattle.device_spec.specs.Answers.{listed_handles, takes, value_told}
use Rattle.device_spec.specs.ContextCommands.{flush_context_command}
use Rattle.device_spec.specs.Numbers.{number_command}
use Rattle.device_spec.specs.Remains.{emptied, handles_command, remains}
use Rattle.device_spec.specs.Slots.{IsSlots, SlotState, slot_step}

-- the list of the handles from this one on has these, a broker takes it, and nothing changes
pub record IsListed (slots : SlotState) (property : ℕ) (handles : List ℕ) : Type 0 where
  pub same : (slot_step slots (handles_command property)).0 ≡ slots
  pub taken : takes PROFILE_CONTEXTS true true (handles_command property) (slot_step slots (handles_command property)).1 ≡ true
  pub handles_are : listed_handles (slot_step slots (handles_command property)).1 ≡ handles

-- the device tells this value of the property, a broker takes the response, and nothing changes
pub record IsPropertyTold (slots : SlotState) (property value : ℕ) : Type 0 where
  pub same : (slot_step slots (number_command property)).0 ≡ slots
  pub taken : takes PROFILE_CONTEXTS true true (number_command property) (slot_step slots (number_command property)).1 ≡ true
  pub value_is : value_told (slot_step slots (number_command property)).1 ≡ value

-- what has this handle is flushed, and the others are left: a broker takes the response, and nothing else changes
pub record IsFlushed (slots : SlotState) (handle : ℕ) (rest : List ℕ) : Type 0 where
  pub taken : takes PROFILE_CONTEXTS true true (flush_context_command handle) (slot_step slots (flush_context_command handle)).1 ≡ true
  pub sound : IsSlots (slot_step slots (flush_context_command handle)).0
  pub rest_is : remains (slot_step slots (flush_context_command handle)).0 ≡ rest
  pub same : emptied (slot_step slots (flush_context_command handle)).0 ≡ emptied slots
