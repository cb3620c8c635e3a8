use Rattle.wire_tests.proofs.lists.counted_calls_do_the_same.Given as goal

abbrev pub ghosts-do_the_same : goal.ghosts-do_the_same
ghosts-do_the_same g a = record { name = a.blank.name; parts = a.blank.parts }
