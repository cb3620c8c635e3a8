-- Which value a struct is, and words for what its makers give.
use Rattle.std.specs.Prelude.{◌≡◌, ℕ, List, Result, Ok, Err, MatchResult}
use Rattle.effect_spec.specs.Objects as objects
use Rattle.tab_spec.specs.Object as object
use Rattle.tab_spec.specs.Values as values
use Rattle.tab_spec.specs.Values.{sized_bytes}
use Rattle.tab_values.specs.Views.{object_of, public_of, sensitive_of, selection_of}
use Rattle.tab_values.specs.declared.object.Object.{Object}
use Rattle.fx_objects.specs.declared.template.Template.{Template}
use Rattle.fx_objects.specs.declared.creation_data.Parentage.{Parentage}
use Rattle.fx_objects.specs.declared.load_object.PrivatePart.{PrivatePart}

abbrev pub template_of : Template → objects.Template
template_of t = record {
  sensitive = sensitive_of t.sensitive;
  public = public_of t.public;
  outside = t.outside;
  selection = selection_of t.selection;
}

abbrev pub parentage_of : Parentage → objects.Parentage
parentage_of p = record { algorithm = p.algorithm; name = p.name; qualified_name = p.qualified_name }

abbrev pub private_part_of : PrivatePart → List ℕ × List ℕ × List ℕ
private_part_of p = (p.auth, p.seed, p.secret)

-- the object of this public and private part under a parent
abbrev pub loaded_object : object.Object → values.Public → List ℕ × List ℕ × List ℕ → object.Object
loaded_object parent public private = record {
  public = public;
  auth = private.0;
  seed = private.1;
  secret = private.2;
  qualified_name = objects.qualified parent.qualified_name public;
}

-- gives the object that the row makes, whose parameter is the object's Name
abbrev pub LoadsObject : Result Object ℕ → Result (object.Object × List ℕ) ℕ → Type 0
LoadsObject result row = MatchResult result
    (λ o. row ≡ Ok (object_of o, sized_bytes (objects.object_name (object_of o).public)))
    (λ code. row ≡ Err code)

-- gives the value that a draw gives, which is seen as the call's, and leaves what the draw leaves; or changes nothing where it is an error
abbrev pub Draws : {A B S : Type 0} → Result A ℕ → (A → B) → Result (B × S) ℕ → S → S → Type 0
Draws result seen draw state state_new = MatchResult result
    (λ drawn. draw ≡ Ok (seen drawn, state_new))
    (λ code. (draw ≡ Err code) × (state_new ≡ state))
