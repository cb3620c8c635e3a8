-- What taking the turn, accepting and giving it back makes of a hand.
use Rattle.std.proofs.Common.{◌≡◌, ◌<◌, List, [], ◌∷◌, ◌++◌, length, drop, Option, Some, None, refl, sym, ap, ◌∙◌, append-nil, arith}
use Rattle.std.specs.Prelude.{IfSome, IfNone}
use mathlib.Core.List.{IsPrefix}
use Rattle.broker_lock.proofs.Beginnings.{drop_front}
use Rattle.broker_lock.specs.Pass.{PassView}
use Rattle.link_pool.specs.Hands.{HandView, HasNoTurn, first_view, hand, with_more, with_turn, without_turn}
use Rattle.link_pool.specs.Servers.{HasParts}

module _ {L : Type 0} where
  pub has_parts : (v taken : HandView L) (accepted : List L) → taken ≡ with_turn v accepted → HasNoTurn v → 0 < taken.parts
  has_parts v taken accepted is rests = omega (arith, rests.some_part, ap (λ (u : HandView L). u.parts) is)

  -- what had been accepted is still
  pub still_accepted : (P : Type 0) (v taken : HandView L) (accepted accepted_new : List L) (found : Option L) → taken ≡ with_turn v accepted → IfSome found (λ l. accepted_new ≡ accepted ++ l ∷ [])
      → IfNone found ((accepted_new ≡ accepted) × P) → IsPrefix taken.held accepted_new
  still_accepted P v taken accepted accepted_new (Some l) is more none = (l ∷ [], ap (λ (u : HandView L). u.held ++ l ∷ []) is ∙ sym more)
  still_accepted P v taken accepted accepted_new None is more none = ([], append-nil taken.held ∙ ap (λ (u : HandView L). u.held) is ∙ sym none.0)

  -- the hand accepted one more
  pub accepted_one : (v taken given : HandView L) (accepted accepted_new : List L) (found : Option L) → HasNoTurn v → taken ≡ with_turn v accepted → given ≡ without_turn taken accepted_new
      → IfSome found (λ l. accepted_new ≡ accepted ++ l ∷ []) → IfSome found (λ l. given ≡ with_more v l)
  accepted_one v taken given accepted accepted_new None rests is back more = tt
  accepted_one v taken given accepted accepted_new (Some l) rests is back more =
      let new : drop (length accepted) accepted_new ≡ l ∷ [] = ap (drop (length accepted)) more ∙ drop_front accepted (l ∷ []) in
      back ∙ ap (λ (u : HandView L). without_turn u accepted_new) is ∙ (λ i. hand v.parts (sym rests.no_turn i) (v.mine ++ new i) (sym rests.none i))

  -- or none
  pub accepted_none : (P : Type 0) (v taken given : HandView L) (accepted accepted_new : List L) (found : Option L) → HasNoTurn v → taken ≡ with_turn v accepted → given ≡ without_turn taken accepted_new
      → IfNone found ((accepted_new ≡ accepted) × P) → IfNone found (given ≡ v)
  accepted_none P v taken given accepted accepted_new (Some l) rests is back none = tt
  accepted_none P v taken given accepted accepted_new None rests is back none =
      let new : drop (length accepted) accepted_new ≡ [] = ap (drop (length accepted)) (none.0 ∙ sym (append-nil accepted)) ∙ drop_front accepted [] in
      back ∙ ap (λ (u : HandView L). without_turn u accepted_new) is ∙ (λ i. hand v.parts (sym rests.no_turn i) ((ap (λ (l : List L). v.mine ++ l) new ∙ append-nil v.mine) i) (sym rests.none i))

  -- the turn is given back at once
  pub held_whole : (v taken : HandView L) (accepted : List L) → taken ≡ with_turn v accepted → IsPrefix taken.held accepted
  held_whole v taken accepted is = ([], append-nil taken.held ∙ ap (λ (u : HandView L). u.held) is)

  pub leaves_back : (v taken given : HandView L) (accepted : List L) (pass : PassView) → taken ≡ with_turn v accepted → given ≡ without_turn taken accepted → HasParts v given pass pass 0
  leaves_back v taken given accepted pass is back = record {
    hand_parts = ap (λ (u : HandView L). u.parts) back ∙ ap (λ (u : HandView L). u.parts) is;
    parts = omega arith;
    lock_is = refl;
    fixed_is = refl;
  }

  -- the first hand held nothing
  pub held_nothing : (v : HandView L) (accepted : List L) → v ≡ first_view → IsPrefix v.held accepted
  held_nothing v accepted is = (accepted, ap (λ (u : HandView L). u.held ++ accepted) is)
