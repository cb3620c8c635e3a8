-- The device that the words name, as it was found.
use Rattle.std.specs.Prelude.{◌≡◌}
use Rattle.command_line.specs.declared.words.DeviceWord.{DeviceWord}
use Rattle.command_line.specs.declared.words.DeviceWord.TheVariants as words
use Rattle.daemon_ends.specs.declared.target.Target.{Target}
use Rattle.daemon_ends.specs.declared.target.Target.TheVariants as targets

-- one in memory is the one of the seed that is named, and none in memory stands for one behind a
-- socket; one of the profile's stands for no other TPM, and the other way round
abbrev pub IsFound : {S K : Type 0} → DeviceWord → Target S K → Type 0
IsFound (words.Memory seed) target = target ≡ targets.Memory seed
IsFound (words.Unix path) (targets.Memory seed) = ⊥
IsFound (words.Unix path) (targets.Link source sink) = Unit {0}
IsFound (words.Unix path) (targets.Tpm source sink) = ⊥
IsFound (words.Unix path) targets.Unreachable = Unit {0}
IsFound (words.Tpm path) (targets.Memory seed) = ⊥
IsFound (words.Tpm path) (targets.Link source sink) = ⊥
IsFound (words.Tpm path) (targets.Tpm source sink) = Unit {0}
IsFound (words.Tpm path) targets.Unreachable = Unit {0}
