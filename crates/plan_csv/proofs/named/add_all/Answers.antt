use Rattle.std.proofs.Common.{List, sym, subst, inl, inr, arith}
use Rattle.plan_csv.specs.declared.named.Named.{Named}
use Rattle.plan_csv.proofs.Naming.{AreNamed, named_none, named_more, refused_here, named_all_of}
use Rattle.plan_csv.proofs.named.add_all.Goals as goal

pub loop-plan-init : goal.loop-plan-init
loop-plan-init c = subst (λ (ns : List Named). AreNamed c.args.job.now c.args.plans.now 0 ns) (sym c.requires.none) (named_none c.args.job.now c.args.plans.now)

pub returns-in-Err-clause-read : goal.returns-in-Err-clause-read
returns-in-Err-clause-read c =
    elim c.in-Err.ensures [
      | inl m ↦ inl m
      | inr by ↦ inr (refused_here c.args.job.now c.args.plans.now c.loop-plan.plan-index c.loop-plan.named.items c.loop-plan.invariant c.plan-item.result c.loop-plan-test.true c.plan-item.is c.in-Err.fault by)
    ]

pub loop-plan-preserved : goal.loop-plan-preserved
loop-plan-preserved c =
    named_more c.args.job.now c.args.plans.now c.loop-plan.plan-index c.loop-plan.named.items c.loop-plan.invariant c.plan-item.result c.loop-plan-test.true c.plan-item.is
    c.push.new.self.items c.in-Ok.one c.in-Ok-push.ensures.items c.in-Ok.ensures

pub returns-clause-read : goal.returns-clause-read
returns-clause-read c =
    let low = c.loop-plan.auto.plan-index-end in
    let high = c.loop-plan-test.false in
    named_all_of c.args.job.now c.args.plans.now c.loop-plan.plan-index c.loop-plan.named.items (omega (arith, low, high)) c.loop-plan.invariant

pub returns-clause-each : goal.returns-clause-each
returns-clause-each c = c.loop-plan.invariant.each
