use Rattle.case_runner.proofs.graphs.show_leaving.Given as goal

abbrev pub ghosts-show_tests : goal.ghosts-show_tests
ghosts-show_tests a = record { name = a.blank.name; parts = a.blank.parts }
