use Rattle.report.proofs.check.push_population_line.Goals as goal

pub returns : goal.returns
returns c = rw (c.from.ensures, c.limits-low.ensures, c.population.ensures, c.setting.ensures.value) at c.push_line.ensures
