use Rattle.std.proofs.Common.{sym, ◌∙◌}
use Rattle.flip_guard.proofs.CutAlone.{by_cut_alone}
use Rattle.flip_guard.proofs.guard.GuardJudge.permits.Goals as goal

pub returns : goal.returns
returns g c =
    c.allows.ensures ∙ sym (by_cut_alone c.args.self.now.rules c.args.sums.now.cut c.args._after.now c.requires.kept.2 c.requires.kept.3 c.requires.kept.4)
