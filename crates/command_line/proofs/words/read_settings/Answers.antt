use Rattle.std.proofs.Common.{◌∙◌, ℕ, List, drop, map, sym, ap}
use Rattle.std.specs.String.{string_bytes}
use Rattle.std.proofs.lemmas.List.{drop-map, take_rest}
use Rattle.std.specs.Option.{option_and_then}
use Rattle.command_line.specs.Words.{gathered, settings_of}
use Rattle.command_line.proofs.Gathering.{once_more, one_more}
use Rattle.command_line.proofs.words.read_settings.Goals as goal

pub returns-in_err-settings : goal.returns-in_err-settings
returns-in_err-settings c =
    let rest = settings_of (drop c.in_ok-setting.taken (map string_bytes c.loop-rest.rest.now)) in
    c.from_residual-in_err-settings.ensures
    ∙ sym (c.loop-rest.invariant ∙ ap (λ settings. option_and_then (gathered c.loop-rest.settings) settings) c.in_ok-setting.ensures.value
    ∙ once_more c.loop-rest.settings c.in_ok-setting.setting rest c.in_err-settings.ensures)

pub loop-rest-preserved : goal.loop-rest-preserved
loop-rest-preserved c =
    let words = c.loop-rest.rest.now in
    let rest = settings_of (drop c.in_ok-setting.taken (map string_bytes words)) in
    let left = drop-map string_bytes c.in_ok-setting.taken words ∙ ap (map string_bytes) (sym (take_rest words c.in_ok-setting.taken)) in
    c.loop-rest.invariant ∙ ap (λ settings. option_and_then (gathered c.loop-rest.settings) settings) c.in_ok-setting.ensures.value
    ∙ one_more c.loop-rest.settings c.in_ok-settings.settings c.in_ok-setting.setting rest c.in_ok-settings.ensures
    ∙ ap (λ (ws : List (List ℕ)). option_and_then (gathered c.in_ok-settings.settings) (settings_of ws)) left
