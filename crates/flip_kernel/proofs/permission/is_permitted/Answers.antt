use Rattle.std.proofs.Common.{ℕ, List, get_or, ap, ◌∙◌}
use Rattle.flip_kernel.proofs.Holding.{put_back}
use Rattle.flip_kernel.proofs.Judging.{judged_after}
use Rattle.flip_kernel.proofs.permission.is_permitted.Goals as goal

pub permits-permitted-requires-clause-after : goal.permits-permitted-requires-clause-after
permits-permitted-requires-clause-after g c =
    judged_after c.args.flip.job.now (g.J.Judge.judging c.args.judge.now) c.args.plan.now c.requires.judge c.requires.summed.legal c.as_slice-3.result.now c.args.flip.unit c.args.flip.district
    (get_or c.as_slice.result.now c.args.flip.unit 0) c.args.flip.unit_below c.args.flip.district_below
    (c.as_slice-3.ensures ∙ c.put_unit.ensures) (ap (λ (p : List ℕ). get_or p c.args.flip.unit 0) c.as_slice.ensures)

pub returns-clause-plan : goal.returns-clause-plan
returns-clause-plan g c =
    c.put_unit-2.ensures
    ∙ put_back c.args.plan.now c.put_unit.new.plan c.args.flip.unit c.args.flip.district (get_or c.as_slice.result.now c.args.flip.unit 0)
    c.put_unit.ensures (ap (λ (p : List ℕ). get_or p c.args.flip.unit 0) c.as_slice.ensures)
