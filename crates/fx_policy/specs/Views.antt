-- Which value a struct is.
use Rattle.std.specs.Prelude.{◌≡◌, ℕ, List, Result, Ok, Err, bytes_eq}
use Rattle.std.specs.List.{list_any}
use Rattle.effect_spec.specs.Policies as policies
use Rattle.effect_spec.specs.Policies.{joined}
use Rattle.tab_spec.specs.Values.{Reading}
use Rattle.fx_policy.specs.declared.branches.Branches.{Branches}
use Rattle.fx_policy.specs.declared.secret.SecretParameters.{SecretParameters}

-- these digests were read, among which one was looked for, and what is left; of a fault the code alone
abbrev pub TookBranches : List ℕ → Result Branches ℕ → List ℕ → Reading (List (List ℕ)) → Type 0
TookBranches digest (Ok b) left reading =
    (branches : List (List ℕ)) × (reading ≡ Ok (branches, left)) × (b.joined ≡ joined branches) × (b.found ≡ list_any (λ branch. bytes_eq branch digest) branches)
TookBranches digest (Err code) left reading = reading ≡ Err code

abbrev pub parameters_of : SecretParameters → policies.SecretPolicy
parameters_of p = record { nonce = p.nonce.now; cp_hash = p.cp_hash.now; policy_ref = p.policy_ref.now; expiration = p.expiration }
