use Rattle.tally_desk.proofs.desk.Desk.try_post.Given as goal

abbrev pub ghosts-try_ticket : goal.ghosts-try_ticket
ghosts-try_ticket g a = record { id = a.id }
