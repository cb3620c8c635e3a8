-- The commands that a reader holds.
use Rattle.std.proofs.Common.{◌≡◌, ◌<◌, ◌≤◌, ◌+◌, ◌==◌, ℕ, suc, true, false, List, [], ◌∷◌, ◌++◌, length, take, drop, refl, sym, ap, subst, ◌∙◌, append_assoc, arith, length-append}
use Rattle.std.proofs.lemmas.Bool.{eqb-true}
use Rattle.std.proofs.lemmas.List.{append-nil, drop-append-le, length-map, map_push, take-append-le}
use Rattle.std.proofs.Math.Seq.{drop-length, take-length}
use Rattle.connection_core.specs.Held.{IsSpelled, spelled}
use Rattle.connection_core.specs.Line.{LineView, messages_of, sending, with_held, with_sent}
use Rattle.connection_core.specs.declared.message.Message.{Message}
use Rattle.connection_core.specs.declared.message.Message.TheVariants as messages

-- ---- what the bytes spell

-- one command more
pub spelled_more : (bytes lengths command : List ℕ) → IsSpelled bytes lengths → spelled (bytes ++ command) (lengths ++ length command ∷ []) ≡ spelled bytes lengths ++ command ∷ []
spelled_more bytes [] command is =
    subst (λ (b : List ℕ). spelled (b ++ command) (length command ∷ []) ≡ command ∷ []) (sym is) (ap (λ (c : List ℕ). c ∷ []) (take-length command))
spelled_more bytes (n ∷ rest) command is =
    ap (λ (c : List ℕ). c ∷ spelled (drop n (bytes ++ command)) (rest ++ length command ∷ [])) (take-append-le n bytes command is.0)
    ∙ ap (λ (b : List ℕ). take n bytes ∷ spelled b (rest ++ length command ∷ [])) (drop-append-le n bytes command is.0)
    ∙ ap (λ (l : List (List ℕ)). take n bytes ∷ l) (spelled_more (drop n bytes) rest command is.2)

pub is_spelled_more : (bytes lengths command : List ℕ) → length command ≤ 4096 → IsSpelled bytes lengths → IsSpelled (bytes ++ command) (lengths ++ length command ∷ [])
is_spelled_more bytes [] command small is =
    subst (λ (b : List ℕ). IsSpelled (b ++ command) (length command ∷ [])) (sym is) (omega arith, small, drop-length command)
is_spelled_more bytes (n ∷ rest) command small is = (
  omega (arith, length-append bytes command, is.0),
  is.1,
  subst (λ (b : List ℕ). IsSpelled b (rest ++ length command ∷ [])) (sym (drop-append-le n bytes command is.0)) (is_spelled_more (drop n bytes) rest command small is.2),
)

-- as many commands as lengths
pub spelled_count : (bytes lengths : List ℕ) → length (spelled bytes lengths) ≡ length lengths
spelled_count bytes [] = refl
spelled_count bytes (n ∷ rest) = ap suc (spelled_count (drop n bytes) rest)

-- behind the bytes that were given out
pub held_grows : (start : ℕ) (bytes bytes_new lengths lengths_new command : List ℕ) → start ≤ length bytes → length command ≤ 4096 → IsSpelled (drop start bytes) lengths
    → bytes_new ≡ bytes ++ command → lengths_new ≡ lengths ++ length command ∷ [] → IsSpelled (drop start bytes_new) lengths_new
held_grows start bytes bytes_new lengths lengths_new command within small is more longer =
    subst (λ (b : List ℕ). IsSpelled (drop start b) lengths_new) (sym more)
    (subst (λ (l : List ℕ). IsSpelled (drop start (bytes ++ command)) l) (sym longer)
    (subst (λ (b : List ℕ). IsSpelled b (lengths ++ length command ∷ [])) (sym (drop-append-le start bytes command within)) (is_spelled_more (drop start bytes) lengths command small is)))

pub held_grown : (start : ℕ) (bytes bytes_new lengths lengths_new command : List ℕ) → start ≤ length bytes → IsSpelled (drop start bytes) lengths
    → bytes_new ≡ bytes ++ command → lengths_new ≡ lengths ++ length command ∷ [] → spelled (drop start bytes_new) lengths_new ≡ spelled (drop start bytes) lengths ++ command ∷ []
held_grown start bytes bytes_new lengths lengths_new command within is more longer =
    ap (λ (b : List ℕ). spelled (drop start b) lengths_new) more
    ∙ ap (λ (l : List ℕ). spelled (drop start (bytes ++ command)) l) longer
    ∙ ap (λ (b : List ℕ). spelled b (lengths ++ length command ∷ [])) (drop-append-le start bytes command within)
    ∙ spelled_more (drop start bytes) lengths command is

-- ---- behind what was sent

pub held_none : (v : LineView) (held : List (List ℕ)) → held ≡ [] → with_held v held ≡ v
held_none v held none =
    ap (λ (l : List (List ℕ)). with_held v l) none ∙ ap (λ (sent : List Message). record v { sent = sent }) (append-nil v.sent)

-- the first one is sent
pub held_sent : (v v_new : LineView) (held rest : List (List ℕ)) (command : List ℕ) → held ≡ command ∷ rest → v_new ≡ with_sent v (messages.Command command) → with_held v_new rest ≡ with_held v held
held_sent v v_new held rest command first sent =
    ap (λ (w : LineView). with_held w rest) sent
    ∙ ap (λ (l : List Message). record v { sent = l }) (append_assoc v.sent (messages.Command command ∷ []) (messages_of rest))
    ∙ ap (λ (l : List (List ℕ)). with_held v l) (sym first)

-- one is held more
pub held_more : (v : LineView) (held held_new : List (List ℕ)) (command : List ℕ) → held_new ≡ held ++ command ∷ [] → with_held v held_new ≡ with_sent (with_held v held) (messages.Command command)
held_more v held held_new command is =
    ap (λ (l : List (List ℕ)). with_held v l) is
    ∙ ap (λ (l : List Message). record v { sent = v.sent ++ l }) (map_push messages.Command held command)
    ∙ ap (λ (l : List Message). record v { sent = l }) (sym (append_assoc v.sent (messages_of held) (messages.Command command ∷ [])))

-- where some are held, fewer were sent than will be
pub held_count : (v : LineView) (held : List (List ℕ)) → length (with_held v held).sent ≡ length v.sent + length held
held_count v held = length-append v.sent (messages_of held) ∙ ap (λ (k : ℕ). length v.sent + k) (length-map held messages.Command)

-- at first
pub held_first : (v : LineView) (held : List (List ℕ)) → v ≡ sending [] → held ≡ [] → with_held v held ≡ sending []
held_first v held unsent none = held_none v held none ∙ unsent

-- what is held is what was held
pub held_same : (v w : LineView) (held held_new : List (List ℕ)) → held_new ≡ held → with_held v held ≡ w → with_held v held_new ≡ w
held_same v w held held_new same is = ap (λ (l : List (List ℕ)). with_held v l) same ∙ is

pub nothing_held : (held : List (List ℕ)) → (length held == 0) ≡ true → held ≡ []
nothing_held [] none = refl
nothing_held (command ∷ rest) none = let zero : length (command ∷ rest) ≡ 0 = eqb-true (length (command ∷ rest)) 0 none in absurd (omega (arith, zero))

pub something_held : (held : List (List ℕ)) → (length held == 0) ≡ false → 0 < length held
something_held [] some = absurd cc
something_held (command ∷ rest) some = omega arith
