use Rattle.report.proofs.origin.push_source_line.Goals as goal

pub returns : goal.returns
returns c = c.push_line.ensures
