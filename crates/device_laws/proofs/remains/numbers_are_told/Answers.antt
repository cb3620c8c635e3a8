use Rattle.device_laws.proofs.Telling.{active_told, gap_told, loaded_told, slots_told}
use Rattle.device_laws.proofs.remains.numbers_are_told.Goals as goal

pub returns-clause-slots : goal.returns-clause-slots
returns-clause-slots c slots started fits = slots_told slots started fits.slots

pub returns-clause-loaded : goal.returns-clause-loaded
returns-clause-loaded c slots started fits = loaded_told slots started fits.loaded

pub returns-clause-active : goal.returns-clause-active
returns-clause-active c slots started fits = active_told slots started fits.active

pub returns-clause-gap : goal.returns-clause-gap
returns-clause-gap c slots started fits = gap_told slots started fits.gap
