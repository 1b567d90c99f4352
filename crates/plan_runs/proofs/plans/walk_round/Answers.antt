use denote.Exit.{no}
use denote.Param.Send.{arg_send, param_send, sendable}
use Rattle.std.proofs.Common.{◌≡◌, ◌∙◌, length, ap, rules, subst, sym, arith}
use Rattle.plan_runs.specs.contracts.plans.walk_round.{J-row}
use Rattle.plan_runs.specs.Plans.{HasReport, IsWalkOf, walk_pair}
use Rattle.plan_runs.proofs.Crossing.{plan_send}
use Rattle.plan_runs.proofs.Turning.{same_images}
use Rattle.plan_runs.proofs.plans.walk_round.Goals as goal

pub run_workers-requires-send-W : goal.run_workers-requires-send-W
run_workers-requires-send-W g c κs within = param_send 1 _ (arg_send _ no _ (plan_send (J-row g.row.R g.row.J g.row.G) g.J.Judge c.type_bounds.send-J))

pub run_workers-requires-clause-accepts : goal.run_workers-requires-clause-accepts
run_workers-requires-clause-accepts g c κs within = λ i p inside same.
    let send = c.type_bounds.send-J in
    let threads = c.type_bounds.sync-R in
    let gate = c.type_bounds.sync-G in
    (subst (IsWalkOf) (sym same) (c.requires i p.now inside), (search sendable depth 10, search sendable depth 10, search sendable depth 10))

pub returns-clause-reports : goal.returns-clause-reports
returns-clause-reports g c = λ k d inside.
    let long : length c.run_workers.new.workers ≡ length c.args.walks.now = search rules in
    let at = (c.run_workers.ensures k d (omega (arith, inside, long))).1 in
    subst (HasReport) at.left at.call.0

pub returns-clause-pairs : goal.returns-clause-pairs
returns-clause-pairs g c =
    let long : length c.run_workers.new.workers ≡ length c.args.walks.now = search rules in
    same_images walk_pair c.run_workers.new.workers c.args.walks.now long (λ k d inside.
    let at = (c.run_workers.ensures k d inside).1 in
    ap walk_pair (sym at.left) ∙ at.call.1 ∙ ap walk_pair at.argument_is)
