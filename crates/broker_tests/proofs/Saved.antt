-- A session that is saved for its client is still named by its handle.
use Rattle.std.proofs.Common.{◌≡◌, ℕ, Bool, true, false, List, drop, refl, ap, sym, ◌∙◌, subst}
use Rattle.std.specs.Prelude.{◌==◌, Option, Some, None, is_some, Result, Ok, Err, OnOk, OnErr, if◌then◌else◌}
use Rattle.std.proofs.lemmas.List.{get_or-set_same}
use Rattle.tab_spec.specs.Shape.{number_of_session}
use Rattle.tab_spec.specs.declared.TheConstants.{HEADER_BYTES}
use Rattle.tab_spec.specs.declared.contexts.ContextLimits.{ContextLimits}
use Rattle.session_swap.specs.Items.{Item, Names, SavesForClient, SessionsView, is_loaded_item, item_at, item_of, saved_by_client, with_handle}
use Rattle.session_swap.proofs.Among.{loaded_inside, loaded_some, loaded_whole}

named_if : (test : Bool) (item other : Item) → is_loaded_item (if test then Some item else None) ≡ true
    → is_some (if test then Some other else None) ≡ true
named_if true item other is = refl
named_if false item other is = absurd cc

named_by : (context : List ℕ) (handle : ℕ) (item : Option Item) → is_loaded_item (with_handle handle item) ≡ true
    → is_some (with_handle handle (saved_by_client context item)) ≡ true
named_by context handle None is = absurd cc
named_by context handle (Some item) is = named_if (item.handle == handle) item _ is

pub still_named : (contexts : ContextLimits) {A E : Type 0} (P : Type 0) (r : Result A E) (last : Option (List ℕ)) (reply : List ℕ) (handle : ℕ) (old new : SessionsView)
    → is_loaded_item (item_of old.items handle) ≡ true → OnOk r (SavesForClient contexts last reply handle old new × P) → OnErr r (new ≡ old)
    → Names new.items handle
still_named contexts P (Ok x) last reply handle old new loaded saves same =
    let n = number_of_session handle in
    let context = drop HEADER_BYTES reply in
    let inside = loaded_inside old.items n (loaded_whole handle (item_at old.items n) loaded) in
    let at : item_at new.items n ≡ saved_by_client context (item_at old.items n) =
    ap (λ (v : SessionsView). item_at v.items n) saves.0.view_is
    ∙ get_or-set_same old.items n (saved_by_client context (item_at old.items n)) None inside in
    ap (λ (item : Option Item). is_some (with_handle handle item)) at ∙ named_by context handle (item_at old.items n) loaded
still_named contexts P (Err e) last reply handle old new loaded saves same =
    subst (λ (v : SessionsView). Names v.items handle) (sym same) (loaded_some (item_of old.items handle) loaded)
