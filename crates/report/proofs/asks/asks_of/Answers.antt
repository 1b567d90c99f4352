use Rattle.report.proofs.asks.asks_of.Goals as goal

pub returns-clause-value : goal.returns-clause-value
returns-clause-value c = rw (c.as_slice.ensures, c.setting.ensures.value)
