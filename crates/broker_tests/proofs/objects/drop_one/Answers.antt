use Rattle.broker_tests.proofs.Full.{full_at}
use Rattle.broker_tests.proofs.objects.drop_one.Goals as goal

pub drop_object-requires-clause-named : goal.drop_object-requires-clause-named
drop_object-requires-clause-named c = record {
  inside = c.requires.inside;
  there = full_at c.args.objects.now.items c.args.item c.requires.full c.requires.inside;
}
