use Rattle.case_runner.proofs.flips.show_state.Given as goal

abbrev pub ghosts-show_walk : goal.ghosts-show_walk
ghosts-show_walk g a = record { name = a.blank.name; parts = a.blank.parts }
