-- The options of words, by those that were read and those of the rest.
use Rattle.std.proofs.Common.{◌≡◌, List, Option, Some, None, refl, sym, ap}
use Rattle.std.specs.Option.{option_and_then}
use Rattle.command_line.specs.declared.words.Setting.{Setting}
use Rattle.command_line.specs.declared.words.Settings.{Settings}
use Rattle.command_line.specs.Words.{gathered, joined, with_first}

-- one option more was read
pub one_more : (settings now : Settings) (setting : Setting) (rest : Option (List Setting)) → Some now ≡ joined settings setting
    → option_and_then (gathered settings) (with_first (Some setting) rest) ≡ option_and_then (gathered now) rest
one_more settings now setting None is = refl
one_more settings now setting (Some more) is = ap (λ o. option_and_then (λ so_far. gathered so_far more) o) (sym is)

-- and it was read before
pub once_more : (settings : Settings) (setting : Setting) (rest : Option (List Setting)) → None ≡ joined settings setting
    → option_and_then (gathered settings) (with_first (Some setting) rest) ≡ None
once_more settings setting None is = refl
once_more settings setting (Some more) is = ap (λ o. option_and_then (λ so_far. gathered so_far more) o) (sym is)
