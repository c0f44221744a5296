use Rattle.lower_driver.proofs.visiting.visit.Given as goal

abbrev pub ghosts-visit_by : goal.ghosts-visit_by
ghosts-visit_by a = record { name = a.blank.name; parts = a.blank.parts }
