-- What the options of words are, by their first word.
use Rattle.std.proofs.Common.{◌≡◌, ◌∙◌, ◌<◌, ◌≤◌, ℕ, suc, Bool, true, false, List, [], ◌∷◌, map, length, get_or, drop, None, Some, inl, inr, refl, sym, ap, arith}
use Rattle.std.specs.Prelude.{if◌then◌else◌}
use Rattle.std.specs.List.{list_any, position_or_len}
use Rattle.std.proofs.lemmas.Bool.{cases_Bool}
use Rattle.command_line.specs.declared.words.Setting.{Setting}
use Rattle.command_line.specs.Words.{setting_in, settings_of, takes_value, with_first}

-- the first word gives no option by itself
pub none_first : {X : Type 0} (bytes : X → List ℕ) (words : List X) (word : X) → 0 < length words → word ≡ get_or words 0 word
    → takes_value (bytes word) ≡ false → setting_in (bytes word) ≡ None → settings_of (map bytes words) ≡ None
none_first bytes [] word some is takes none = absurd (omega arith)
none_first bytes (x ∷ []) word some is takes none = rw (ap (λ w. setting_in (bytes w)) (sym is) ∙ none) refl
none_first bytes (x ∷ y ∷ words) word some is takes none =
    rw (ap (λ w. takes_value (bytes w)) (sym is) ∙ takes, ap (λ w. setting_in (bytes w)) (sym is) ∙ none) refl

-- the first word gives this option by itself
pub some_first : {X : Type 0} (bytes : X → List ℕ) (words : List X) (word : X) (setting : Setting) → 0 < length words → word ≡ get_or words 0 word
    → takes_value (bytes word) ≡ false → setting_in (bytes word) ≡ Some setting → settings_of (map bytes words) ≡ with_first (Some setting) (settings_of (drop 1 (map bytes words)))
some_first bytes [] word setting some is takes gives = absurd (omega arith)
some_first bytes (x ∷ []) word setting some is takes gives = rw (ap (λ w. setting_in (bytes w)) (sym is) ∙ gives) refl
some_first bytes (x ∷ y ∷ words) word setting some is takes gives =
    rw (ap (λ w. takes_value (bytes w)) (sym is) ∙ takes, ap (λ w. setting_in (bytes w)) (sym is) ∙ gives) refl

-- where the first place is the end, nothing passes
pub none_passes : (p : ℕ → Bool) (xs : List ℕ) → length xs ≤ position_or_len p xs → list_any p xs ≡ false
none_passes p [] end = refl
none_passes p (x ∷ xs) end =
    elim (cases_Bool (p x)) [
      | inl passes ↦
          let here : position_or_len p (x ∷ xs) ≡ 0 = rw passes refl in
          absurd (omega arith)
      | inr fails ↦
          let further : position_or_len p (x ∷ xs) ≡ suc (position_or_len p xs) = rw fails (omega arith) in
          rw fails (none_passes p xs (omega arith))
    ]

-- a word without a value gives what its name alone gives
pub flagged : {A : Type 0} (b : Bool) (valued flag : A) → b ≡ false → flag ≡ (if b then valued else flag)
flagged true valued flag is = absurd cc
flagged false valued flag is = refl
