-- What is seen of a device in memory.
use Rattle.std.specs.Prelude.{ℕ, List, [], Some}
use Rattle.tab_spec.specs.declared.numbers.Numbers.{Numbers}
use Rattle.tab_spec.specs.Persist.{Persist, fresh_persist}
use Rattle.device_spec.specs.Slots.{SlotState, new_slots}
use Rattle.device_port.specs.Device.{Seen, Transmission}

pub record DeviceInMemory : Type 0 where
  pub state : SlotState
  pub base : Persist
  -- the numbers of the transmissions that fail, from 0
  pub failing : List ℕ
  pub faults : ℕ
  pub trace : List Transmission

-- a device of these numbers with this seed that was never used
abbrev pub fresh_device : Numbers → List ℕ → List ℕ → DeviceInMemory
fresh_device numbers seed failing = record {
  state = new_slots numbers (fresh_persist seed);
  base = fresh_persist seed;
  failing = failing;
  faults = 0;
  trace = [];
}

-- what it tells as a device
abbrev pub told_by : DeviceInMemory → Seen
told_by device = record {
  base = Some device.base;
  state = Some device.state;
  faults = device.faults;
  trace = device.trace;
}
