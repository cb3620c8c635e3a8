-- The lists that are nobody's, and what the calls make of the list of their numbers.
use Rattle.std.proofs.Common.{◌≡◌, ◌+◌, ◌<◌, ◌≤◌, ℕ, Bool, true, false, List, [], ◌∷◌, ◌++◌, length, get_or, set, map, refl, ap, subst, sym, ◌∙◌, arith, length-append, length-set}
use Rattle.std.specs.Prelude.{Option, Some, None}
use Rattle.std.proofs.lemmas.List.{get_or-map, get_or_push, length-map, map-set, map_push}
use Rattle.object_swap.specs.Items.{has_free_list, is_nobodys, owner_at}
use Rattle.object_swap.specs.Records.{ListsFlags, ListsFree}
use Rattle.object_swap.proofs.Counts.{count_map, list_none}
use Rattle.object_swap.proofs.Flags.{Listed, listed, lists_added, lists_false, lists_popped, one_unlisted}
use Rattle.object_swap.proofs.Threaded.{owner_inside}

nobody_is : (owner : Option ℕ) → is_nobodys owner ≡ true → owner ≡ None
nobody_is None is = refl
nobody_is (Some client) is = absurd cc

module _ (owners : List (Option ℕ)) (free : List ℕ) (room : ℕ) (has : ListsFree owners free room) where
  flag_at : (list : ℕ) → list < length owners → get_or (map is_nobodys owners) list false ≡ is_nobodys (owner_at owners list)
  flag_at list inside = get_or-map is_nobodys owners list None false inside

  pub none_free : length free ≡ 0 → has_free_list owners ≡ false
  none_free none = list_none is_nobodys owners (omega (arith, none, has.lists.count, count_map is_nobodys owners))

  -- the last of them is nobody's
  pub last_free : (rest : List ℕ) (list : ℕ) → free ≡ rest ++ list ∷ [] → (list < length owners) × (owner_at owners list ≡ None)
  last_free rest list is =
      let at = get_or_push rest list 0 (length rest) refl in
      let all = ap (λ (l : List ℕ). length l) is in
      let there = listed (map is_nobodys owners) free (length rest) 0 has.lists (omega (arith, all, length-append rest (list ∷ []))) in
      let last = subst (λ (n : ℕ). Listed (map is_nobodys owners) n) (ap (λ (l : List ℕ). get_or l (length rest) 0) is ∙ at) there in
      let inside : list < length owners = omega (arith, last.inside, length-map owners is_nobodys) in
      (inside, nobody_is (owner_at owners list) (sym (flag_at list inside) ∙ last.flag))

  -- and goes to a client
  pub free_taken : (rest : List ℕ) (list client new_room : ℕ) → free ≡ rest ++ list ∷ [] → room ≤ new_room
      → ListsFree (set owners list (Some client)) rest new_room
  free_taken rest list client new_room is more = record {
    lists = subst (λ (flags : List Bool). ListsFlags flags rest) (sym (map-set is_nobodys owners list (Some client)))
        (lists_popped (map is_nobodys owners) rest list (subst (λ (l : List ℕ). ListsFlags (map is_nobodys owners) l) is has.lists));
    most = omega (arith, has.most, more, length-set {A = Option ℕ} owners list (Some client));
  }

  -- one more list, which is a client's
  pub free_more : (client : ℕ) → length owners + 1 ≤ room → ListsFree (owners ++ Some client ∷ []) free room
  free_more client some = record {
    lists = subst (λ (flags : List Bool). ListsFlags flags free) (sym (map_push is_nobodys owners (Some client)))
        (lists_false (map is_nobodys owners) free has.lists);
    most = omega (arith, some, length-append owners (Some client ∷ []));
  }

  module _ (list client : ℕ) (owner : owner_at owners list ≡ Some client) where
    unlisted : get_or (map is_nobodys owners) list false ≡ false
    unlisted = flag_at list (owner_inside owners list client owner) ∙ ap is_nobodys owner

    -- there is room for the number of a list that is a client's
    pub room_free : length free < room
    room_free =
        let count = length-map owners is_nobodys in
        let inside = owner_inside owners list client owner in
        omega (arith, has.most, count, one_unlisted (map is_nobodys owners) free list has.lists (omega (arith, count, inside)) unlisted)

    -- it is nobody's
    pub free_ended : (new_room : ℕ) → room ≤ new_room → ListsFree (set owners list None) (free ++ list ∷ []) new_room
    free_ended new_room more =
        let count = length-map owners is_nobodys in
        let inside = owner_inside owners list client owner in
        record {
          lists = subst (λ (flags : List Bool). ListsFlags flags (free ++ list ∷ [])) (sym (map-set is_nobodys owners list None))
              (lists_added (map is_nobodys owners) free list has.lists (omega (arith, count, inside)) unlisted);
          most = omega (arith, has.most, more, length-set {A = Option ℕ} owners list None);
        }
