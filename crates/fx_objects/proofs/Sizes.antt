-- How long creation data are.
use Rattle.std.proofs.Common.{◌≡◌, ◌+◌, ℕ, List, length, arith, length-append}
use Rattle.std.specs.Prelude.{Option, Some, None}
use Rattle.sha2.proofs.Facts256.{length-sha256}
use Rattle.effect_spec.specs.Objects.{Parentage, Template, creation_data}
use Rattle.tab_spec.specs.Persist.{selected_digest, Persist}
use Rattle.tab_spec.specs.Values.{selection_bytes}

length_selected : (pcrs : List (List ℕ)) (bits : Option (List ℕ)) → length (selected_digest pcrs bits) ≡ 32
length_selected pcrs None = length-sha256 _
length_selected pcrs (Some bits) = length-sha256 _

pub length_creation : (persist : Persist) (parent : Parentage) (t : Template)
    → length (creation_data persist parent t) ≡ length (selection_bytes t.selection) + 43 + length parent.name + length parent.qualified_name + length t.outside
length_creation persist parent t = simp length-append (omega (arith, length_selected persist.pcrs t.selection.bits))
