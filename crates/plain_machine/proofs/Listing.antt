-- What GetCapability tells a client of its sessions.
use Rattle.std.proofs.Common.{◌≡◌, ◌^◌, ◌≤◌, ℕ, List, [], ◌∷◌, get_or, length, refl, ap, ◌∙◌}
use Rattle.std.specs.Prelude.{Option, Some, None, MatchOption}
use Rattle.effect_spec.specs.Capabilities.{Listed}
use Rattle.fx_capability.specs.declared.holdings.HeldSession.{HeldSession}
use Rattle.fx_capability.specs.Lists.{session_in}
use Rattle.fx_capability.specs.Views.{listed_of}
use Rattle.fx_capability.proofs.Numbered.{first_of_items, session_found}
use Rattle.world_spec.specs.World.{Owned, listed_owned, listed_sessions}
use Rattle.plain_machine.specs.Listed.{by_place, owned_at}

first_listed : (result : Option HeldSession) (items : List Listed) (found : Option Listed) → found ≡ first_of_items items
    → MatchOption result (items ≡ []) (λ s. items ≡ listed_of s ∷ []) → MatchOption result (found ≡ None) (λ s. found ≡ Some (listed_of s))
first_listed None items found is empty = is ∙ ap first_of_items empty
first_listed (Some s) items found is one = is ∙ ap first_of_items one

-- the session under a number is the one that its place has
pub place_listed : (client n : ℕ) (places : List (Option Owned)) (result : Option HeldSession) → length places ≤ 2 ^ 24
    → (let items = listed_owned client n (get_or places n None) in MatchOption result (items ≡ []) (λ s. items ≡ listed_of s ∷ []))
    → (let found = session_in n (listed_sessions client 0 places) in MatchOption result (found ≡ None) (λ s. found ≡ Some (listed_of s)))
place_listed client n places result within told =
    first_listed result (listed_owned client n (get_or places n None)) (session_in n (listed_sessions client 0 places))
    (ap (session_in n) (by_place client 0 places)
    ∙ session_found (listed_owned client) None (2 ^ 24) n places (owned_at client) (λ m. refl) within) told
