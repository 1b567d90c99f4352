use Rattle.walker.proofs.walker.Walker.hub_into.Given as goal

abbrev pub ghosts-walk_to_hub : goal.ghosts-walk_to_hub
ghosts-walk_to_hub g a = record { name = a.blank.name; parts = a.blank.parts }
