-- Which connections ended for want of memory.
use Rattle.std.specs.Prelude.{Bool, true, false}
use Rattle.connection_core.specs.declared.ends.Ending.{Ending}
use Rattle.connection_core.specs.declared.ends.Ending.TheVariants as endings

abbrev pub lacks_memory : Ending → Bool
lacks_memory endings.EndOfInput = false
lacks_memory (endings.BadFrame size) = false
lacks_memory endings.ReadFault = false
lacks_memory endings.WriteFault = false
lacks_memory endings.Memory = true
lacks_memory (endings.JournalFull count limit) = false
lacks_memory endings.Answer = false
