use Rattle.std.proofs.Common.{◌<◌, ◌-◌, List, length, map, Some, refl, sym, ap, subst, ◌∙◌, inl, inr, arith}
use Rattle.std.specs.List.{All}
use Rattle.csv.specs.Records.{fields_of}
use Rattle.audit_model.specs.declared.plans.Assigned.{Assigned}
use Rattle.plan_csv.specs.Fit.{IsPlanOf}
use Rattle.plan_csv.proofs.Assembled.{listed_more, refused_here, listed_all}
use Rattle.plan_csv.proofs.read.read_columns.Goals as goal

pub loop-plan-init : goal.loop-plan-init
loop-plan-init c = record {
  none = refl;
  made = c.new-list.ensures;
  fit = subst (λ (xs : List Assigned). All (IsPlanOf (length c.args.records.now)) xs) (sym c.new-list.ensures) (λ k d l. absurd (omega (arith, l)));
}

pub returns-in-Err-clause-read : goal.returns-in-Err-clause-read
returns-in-Err-clause-read c =
    let header = fields_of c.args.header.now in
    let under : c.loop-plan.plan < length header - 1 = omega (arith, c.loop-plan-test.true, c.requires.all) in
    elim c.in-Err.ensures.read [
      | inl m ↦ inl m
      | inr e ↦ inr (refused_here header (map fields_of c.args.entries.now) c.args.records.now c.loop-plan.plan c.loop-plan.list c.loop-plan.invariant under e.1 ∙ ap Some (sym e.0))
    ]

pub loop-plan-preserved : goal.loop-plan-preserved
loop-plan-preserved c =
    listed_more (fields_of c.args.header.now) (map fields_of c.args.entries.now) c.args.records.now c.loop-plan.plan c.loop-plan.list c.loop-plan.invariant
    c.push.new.self c.in-Ok.assigned c.in_ok-push-in-Ok.ensures.ok c.in-Ok.ensures.read.0 c.in-Ok.ensures.read.1 c.in-Ok.ensures.fit

pub returns-clause-read : goal.returns-clause-read
returns-clause-read c =
    let low = c.loop-plan.auto.plan-end in
    let high = c.loop-plan-test.false in
    listed_all (fields_of c.args.header.now) (map fields_of c.args.entries.now) c.args.records.now c.loop-plan.plan c.loop-plan.list c.loop-plan.invariant
    c.args.plans (omega (arith, low, high)) c.requires.all

pub returns-clause-fit : goal.returns-clause-fit
returns-clause-fit c = c.loop-plan.invariant.fit
