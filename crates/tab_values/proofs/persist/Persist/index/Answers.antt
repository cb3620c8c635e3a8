use Rattle.std.proofs.Common.{◌≡◌, ◌∙◌, ap, sym, subst, rules}
use Rattle.std.specs.Option.{option_map}
use Rattle.std.specs.List.{find, AllByRecursion}
use Rattle.std.proofs.lemmas.Iterator.{YieldsList-from_slice}
use Rattle.std.proofs.lemmas.Iterator.Search.{find_from_yields_List}
use Rattle.tab_spec.specs.Persist.{Persist}
use Rattle.tab_spec.specs.NvIndex.{IsNvIndex, index_in}
use Rattle.tab_laws.proofs.Indexes.{found_sound}
use Rattle.tab_values.specs.Views.{nv_index_of}
use Rattle.tab_values.proofs.Places.{has_handle, found_shown, told_found, sound_found}
use borrow.Author.Tests.{tests}
use Rattle.tab_values.proofs.persist.Persist.index.Goals as goal

-- what is found among the indexes as they are seen
found : (c : goal.After-find) → index_in c.args.index c.args.self.now.nv ≡ option_map nv_index_of (option_map (λ b. b.now) c.find.result)
found c =
    let items = c.self.inside.nv.items in
    let is : option_map (λ b. b.now) c.find.result ≡ find (has_handle c.args.index) items =
    find_from_yields_List (has_handle c.args.index) _ _ c.find.result c.find.ensures.ran (YieldsList-from_slice items (c.iter.ensures.rest ∙ c.deref.ensures.value)) (λ x b q k. search (rules, tests)) in
    ap (λ (p : Persist). index_in c.args.index p.nv) (sym c.self.view_is) ∙ found_shown c.args.index items ∙ ap (option_map nv_index_of) (sym is)

pub returns-clause-item : goal.returns-clause-item
returns-clause-item c = told_found c.find.result _ (found c)

pub returns-clause-sound : goal.returns-clause-sound
returns-clause-sound c =
    let kept = subst (λ (p : Persist). AllByRecursion IsNvIndex p.nv) c.self.view_is c.self.invariant.3 in
    sound_found c.find.result _ (found c) (found_sound c.args.index c.args.self.now.nv kept)
