use Rattle.traverse_tests.proofs.tests.visited.Given as goal

abbrev pub ghosts-visit_by : goal.ghosts-visit_by
ghosts-visit_by a = record { name = a.blank.name; parts = a.blank.parts }
