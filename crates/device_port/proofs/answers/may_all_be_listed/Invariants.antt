use Rattle.std.proofs.Common.{◌≡◌, drop}
use Rattle.std.specs.List.{list_all}
use Rattle.device_spec.specs.Answers.{handles_from, may_be_listed}
use Rattle.device_port.proofs.Listing.{all_from}
use Rattle.device_port.proofs.answers.may_all_be_listed.Given as goal

abbrev pub invariant-loop-place : goal.invariant-loop-place
invariant-loop-place l =
    list_all (may_be_listed l.property) (handles_from l.count (drop 19 l.last)) ≡ all_from (may_be_listed l.property) l.count l.place l.last
