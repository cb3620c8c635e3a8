use Rattle.std.proofs.Common.{◌≡◌, ◌<◌, ◌∙◌, sym, subst, cond, ltb, map, length, rules}
use Rattle.std.specs.Prelude.{Some, None, MatchOption}
use Rattle.std.specs.List.{position_or_len}
use Rattle.std.proofs.lemmas.List.{length-map}
use Rattle.std.proofs.lemmas.Iterator.{YieldsList-from_slice}
use Rattle.std.proofs.lemmas.Iterator.Search.{position_from_yields_List}
use Rattle.tab_spec.specs.Persist.{Persist}
use Rattle.tab_spec.specs.NvIndex.{is_index, index_in}
use Rattle.tab_values.specs.Views.{nv_index_of}
use Rattle.tab_values.proofs.Places.{has_handle, place_shown, place_told}
use borrow.Author.Tests.{tests}
use Rattle.tab_values.proofs.persist.Persist.position.Goals as goal

pub returns : goal.returns
returns c =
    let items = c.self.inside.nv.items in
    let index = c.args.index in
    let place = position_or_len (has_handle index) items in
    let is : c.position.result ≡ cond (ltb place (length items)) (Some place) None =
    position_from_yields_List (has_handle index) _ _ c.position.result c.position.ensures.ran (YieldsList-from_slice items (c.iter.ensures.rest ∙ c.deref.ensures.value)) (λ x b q k. search (rules, tests)) in
    subst (λ (p : Persist). MatchOption c.position.result (index_in index p.nv ≡ None) (λ n. (n < length p.nv) × (n ≡ position_or_len (is_index index) p.nv))) c.self.view_is
    (rw is (place_told index (map nv_index_of items) place (length items) (sym (place_shown index items)) (sym (length-map items nv_index_of))))
