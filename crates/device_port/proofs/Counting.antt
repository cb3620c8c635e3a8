-- How many transmissions a trace has.
use Rattle.std.proofs.Common.{◌≡◌, ◌+◌, ℕ, List, [], ◌∷◌, length, refl, ap, ◌∙◌, arith}
use Rattle.std.specs.Prelude.{min}
use Rattle.tab_spec.specs.Count.{largest_count, one_more}
use Rattle.device_port.specs.Device.{Transmission, count_of}

more : (count most : ℕ) → min (min count most + 1) most ≡ min (count + 1) most
more count most = omega arith

-- the count is that of the list, up to the largest one
pub count_is : (trace : List Transmission) → count_of trace ≡ min (length trace) largest_count
count_is [] = refl
count_is (newest ∷ trace) = ap one_more (count_is trace) ∙ more (length trace) largest_count ∙ ap (λ (n : ℕ). min n largest_count) (omega arith)
