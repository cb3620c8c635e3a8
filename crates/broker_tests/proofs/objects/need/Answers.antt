use Rattle.std.proofs.Common.{arith}
use Rattle.broker_tests.proofs.Full.{all_there, full_again}
use Rattle.broker_tests.proofs.objects.need.Goals as goal

pub make_objects-requires-clause-needed : goal.make_objects-requires-clause-needed
make_objects-requires-clause-needed c = record {
  named = all_there c.args.needed.now c.args.objects.now.items c.requires.full c.requires.inside;
  fits = omega (arith, c.requires.few, c.requires.slots);
}

pub returns-clause-full : goal.returns-clause-full
returns-clause-full c = full_again c.args.objects.now.items c.make_objects.new.self.items c.make_objects.ensures.moved.objects.owners c.requires.full
