use Rattle.walker.proofs.walker.Walker.go_on.Given as goal

abbrev pub ghosts-go_on_by : goal.ghosts-go_on_by
ghosts-go_on_by g a = record { name = a.blank.name; parts = a.blank.parts }
