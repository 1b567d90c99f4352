use Rattle.region_guard.proofs.judges.region_guard_of.Goals as goal

pub new-requires-clause-answers : goal.new-requires-clause-answers
new-requires-clause-answers g c = rw c.cut_rules-cuts.ensures.max_cut c.requires.cut_answers

pub new-requires-2-clause-cut_answers : goal.new-requires-2-clause-cut_answers
new-requires-2-clause-cut_answers g c = rw (c.new.ensures.test, c.new.ensures.rules, c.cut_rules-cuts.ensures.max_cut) c.requires.cut_answers
