-- What an effect leaves, and its whole response.
use Rattle.std.proofs.Common.{◌≡◌, ℕ, List, [], ◌++◌, length, take, drop, Result, Ok, Err, refl, ap, sym, ◌∙◌, append-nil}
use Rattle.std.specs.Int.{w32, to_be_bytes}
use Rattle.tab_spec.specs.declared.TheConstants.{RC_SUCCESS}
use Rattle.effect_spec.specs.Effect.{silent}
use Rattle.tab_spec.specs.Persist.{Persist}
use Rattle.tab_spec.specs.Reply.{response}
use Rattle.effect_spec.specs.Rows.{Changes, ChangesAndAppends}
use Rattle.tab_laws.proofs.Responses.{response_ended}

-- the whole response, by the one whose size isn't set yet
pub ended_reply : (tag : ℕ) (body whole reply : List ℕ) → whole ≡ response tag RC_SUCCESS [] ++ body
    → reply ≡ take 2 whole ++ to_be_bytes w32 (length whole) ++ drop 6 whole → response tag RC_SUCCESS body ≡ reply
ended_reply tag body whole reply begun ended = sym (response_ended tag RC_SUCCESS (response tag RC_SUCCESS []) body whole reply refl begun ended)

-- a row whose response has no parameters
pub silent_row : (result : Result (Unit {0}) ℕ) (row : Result Persist ℕ) (kept old : Persist) (reply begun : List ℕ)
    → Changes result row old kept → reply ≡ begun → ChangesAndAppends result (silent row) old kept begun reply
silent_row (Ok u) row kept old reply begun is same = ([], ap silent is, same ∙ sym (append-nil begun))
silent_row (Err code) row kept old reply begun is same = (ap silent is.0, is.1, same)
