use Rattle.std.proofs.Common.{arith}
use Rattle.audit_model.proofs.ListFacts.{popped_last, popped_rest}
use Rattle.flip_kernel.specs.Judged.{IsJudgeFor}
use Rattle.plan_runs.proofs.resources.make_resources.Goals as goal

pub make_tester-requires : goal.make_tester-requires
make_tester-requires g c = popped_last (λ judge. IsJudgeFor c.args.job.now (g.J.Judge.judging judge)) _ _ c.in-Some.judge c.requires.judges.judges_are c.in-Some.ensures.items

pub make_with-requires-clause-judges : goal.make_with-requires-clause-judges
make_with-requires-clause-judges g c = popped_rest (λ judge. IsJudgeFor c.args.job.now (g.J.Judge.judging judge)) _ _ c.in-Some.judge c.requires.judges.judges_are c.in-Some.ensures.items

pub make_with-requires-clause-workers : goal.make_with-requires-clause-workers
make_with-requires-clause-workers g c = omega (arith, c.in-Some.ensures.len, c.requires.judges.count_is)
