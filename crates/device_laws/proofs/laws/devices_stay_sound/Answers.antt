use Rattle.device_laws.proofs.Replies.{new_is_slots, step_keeps}
use Rattle.device_laws.proofs.laws.devices_stay_sound.Goals as goal

pub returns-clause-fresh : goal.returns-clause-fresh
returns-clause-fresh c = new_is_slots

pub returns-clause-stepped : goal.returns-clause-stepped
returns-clause-stepped c = step_keeps
