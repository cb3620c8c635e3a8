use Rattle.std.proofs.Common.{◌≡◌, [], Some, false, length}
use Rattle.std.specs.List.{list_any}
use Rattle.tab_spec.specs.declared.contexts.TheConstants.{PROFILE_CONTEXTS}
use Rattle.object_swap.specs.Items.{is_vacant, owner_at}
use Rattle.broker_tests.proofs.objects.add_five.Given as goal

abbrev pub invariant-loop : goal.invariant-loop
invariant-loop l = record {
  full : list_any is_vacant l.objects.items ≡ false;
  count : length l.objects.items ≡ l.counter;
  slots : l.objects.slots ≡ 3;
  contexts : l.objects.contexts ≡ PROFILE_CONTEXTS;
  left : l.objects.left ≡ [];
  owner : owner_at l.objects.owners l.list ≡ Some 7;
}
