use Rattle.report.proofs.audit.push_setting_line.Goals as goal

pub returns : goal.returns
returns c = rw (c.from.ensures, c.from-2.ensures, c.from-3.ensures, c.from-4.ensures, c.setting-setting.ensures.value) at c.push_line.ensures
