-- What a device tells that was asked for one property.
use Rattle.std.proofs.Common.{◌≡◌, ◌<◌, ◌+◌, ◌^◌, ℕ, Bool, true, false, List, length, refl}
use Rattle.std.specs.Prelude.{◌==◌, ◌&&◌}
use Rattle.std.specs.Int.{w32, from_be_bytes, to_be_bytes}
use Rattle.std.proofs.lemmas.Bool.{eqb-true}
use Rattle.tab_spec.specs.declared.TheConstants.{HEADER_BYTES}
use Rattle.tab_spec.specs.declared.contexts.ContextLimits.{ContextLimits}
use Rattle.device_spec.specs.Answers.{count_place, is_word, list_place, tells_property, word_at}
use Rattle.device_spec.specs.Numbers.{number_command}
use Rattle.device_port.specs.Own.{IsOwn, Succeeds}

-- the command is one of the broker's own
pub own_number : (contexts : ContextLimits) (property : ℕ) → property < 2 ^ 32 → IsOwn contexts (number_command property)
own_number contexts property word = record { frame = refl; own = refl; later = refl; starts_none = refl }

first_by : (tells tag handle area context : Bool) → (tells && tag && handle && area && context) ≡ true → tells ≡ true
first_by true tag handle area context is = refl
first_by false tag handle area context is = absurd cc

last_by : (capability count first whole : Bool) → (capability && count && first && whole) ≡ true → whole ≡ true
last_by true true true whole is = is
last_by false count first whole is = absurd cc
last_by true false first whole is = absurd cc
last_by true true false whole is = absurd cc

-- a response that tells one property, and nothing behind it
whole_of : (property : ℕ) (last : List ℕ) → tells_property last property ≡ true → length last ≡ 27
whole_of property last told =
    eqb-true (length last) 27 (last_by (is_word (λ capability. capability == 6) (word_at (HEADER_BYTES + 1) last))
    (is_word (λ count. count == 1) (word_at count_place last)) (is_word (λ first. first == property) (word_at list_place last)) (length last == 27) told)

-- so is each with which it succeeded
pub tells : (contexts : ContextLimits) (property : ℕ) (last : List ℕ) → property < 2 ^ 32 → Succeeds contexts (number_command property) last → length last ≡ 27
tells contexts property last word succeeds =
    let told : tells_property last (from_be_bytes w32 (to_be_bytes w32 property)) ≡ true = first_by _ _ _ _ _ succeeds.form in
    whole_of (from_be_bytes w32 (to_be_bytes w32 property)) last told
