use Rattle.walker.proofs.walker.Walker.walk.Given as goal

abbrev pub ghosts-walk_by : goal.ghosts-walk_by
ghosts-walk_by g a = record { name = a.blank.name; parts = a.blank.parts }
