use Rattle.std.proofs.Common.{ap, refl, rules}
use Rattle.object_swap.specs.Items.{ObjectsView}
use Rattle.broker_tests.proofs.Full.{put_there, still_there}
use Rattle.broker_tests.proofs.larger.run.Goals as goal

pub make_objects-requires-2-clause-needed : goal.make_objects-requires-2-clause-needed
make_objects-requires-2-clause-needed c = record {
  named = still_there _ _ c.adopt-item.result c.make_objects.ensures.moved.objects.owners
      (put_there _ _ c.adopt-item.result _ (ap (λ (v : ObjectsView). v.items) c.adopt-item.ensures.held) c.adopt-item.ensures.inside refl);
  fits = search rules;
}
