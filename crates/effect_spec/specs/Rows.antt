-- What a call leaves that runs the row of a command, old before new: words for the contracts of effects.
use Rattle.std.specs.Prelude.{◌≡◌, ◌≤◌, ℕ, ◌+◌, List, ◌++◌, length, true, Option, Some, None, Result, Ok, Err, is_ok, MatchResult}
use Rattle.effect_spec.specs.declared.TheConstants.{MOST_BYTES_BEFORE_AUTH}

-- after what is there, there is room for the parameters of any response
abbrev pub HasResponseRoom : List ℕ → Type 0
HasResponseRoom reply = length reply + MOST_BYTES_BEFORE_AUTH ≤ 4096

-- appends the parameters that the row gives; where the row is an error, that is the error, and nothing is appended
abbrev pub Appends : {A : Type 0} → Result A ℕ → Result (List ℕ) ℕ → List ℕ → List ℕ → Type 0
Appends result row reply reply_new = MatchResult result
    (λ done. (params : List ℕ) × (row ≡ Ok params) × (reply_new ≡ reply ++ params))
    (λ code. (row ≡ Err code) × (reply_new ≡ reply))

-- the same of a row that makes a value, which is seen as the call's
abbrev pub MakesValue : {A B : Type 0} → Result A ℕ → (A → B) → Result (B × List ℕ) ℕ → List ℕ → List ℕ → Type 0
MakesValue result seen row reply reply_new = MatchResult result
    (λ made. (params : List ℕ) × (row ≡ Ok (seen made, params)) × (reply_new ≡ reply ++ params))
    (λ code. (row ≡ Err code) × (reply_new ≡ reply))

-- leaves what the row leaves, or changes nothing where the row is an error, which is the error
abbrev pub Changes : {A S : Type 0} → Result A ℕ → Result S ℕ → S → S → Type 0
Changes result row state state_new = MatchResult result
    (λ done. row ≡ Ok state_new)
    (λ code. (row ≡ Err code) × (state_new ≡ state))

-- both: leaves what the row leaves and appends its parameters, or changes nothing and appends nothing
abbrev pub ChangesAndAppends : {A S : Type 0} → Result A ℕ → Result (S × List ℕ) ℕ → S → S → List ℕ → List ℕ → Type 0
ChangesAndAppends result row state state_new reply reply_new = MatchResult result
    (λ done. (params : List ℕ) × (row ≡ Ok (state_new, params)) × (reply_new ≡ reply ++ params))
    (λ code. (row ≡ Err code) × (state_new ≡ state) × (reply_new ≡ reply))

-- a test that comes before a row: passes where there is no fault, and else the fault is its error
abbrev pub PassesUnless : {A : Type 0} → Result A ℕ → Option ℕ → Type 0
PassesUnless result fault = MatchResult result (λ passed. fault ≡ None) (λ code. fault ≡ Some code)

-- a test alone: it is refused exactly where the row is, with its code
abbrev pub IsRefusedAs : {A S : Type 0} → Result A ℕ → Result S ℕ → Type 0
IsRefusedAs result row = MatchResult result (λ passed. is_ok row ≡ true) (λ code. row ≡ Err code)
