use Rattle.flip_kernel.proofs.flip.mirror.Given as goal

abbrev pub ghosts-find_mirror : goal.ghosts-find_mirror
ghosts-find_mirror g a = record { name = a.blank.name; parts = a.blank.parts }
