-- What a read that doesn't wait does to the bytes that a stream has left, where those are known.
use Rattle.std.specs.Prelude.{◌≡◌, ℕ, List, take, MatchOption, MatchResult}
use Rattle.std.specs.Io.KnownBytes.{Consumes, IsAtEnd, Keeps}
use Rattle.std.specs.declared.result.Result.{Result}
use Rattle.std.specs.declared.option.Option.{Option}

-- it consumed the n bytes that it gave at `Ok(Some(n))`, none only at the end, and nothing at `Ok(None)` and at `Err`
abbrev pub ReadsReady : {E : Type 0} → Option (List ℕ) → Option (List ℕ) → Result (Option ℕ) E → List ℕ → Type 0
ReadsReady old new r buf = MatchResult r (λ given. MatchOption given (Keeps old new) (λ n. Consumes old new (take n buf) × (n ≡ 0 → IsAtEnd new))) (λ _. Keeps old new)
