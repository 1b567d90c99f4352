use Rattle.std.proofs.Common.{◌≡◌, ◌+◌, ◌∙◌, sym, ap, suc, arith, []}
use Rattle.csv.specs.Records.{fields_of}
use Rattle.std.specs.List.{slice_index_or}
use Rattle.audit_statement.specs.Table.{is_plan_name}
use Rattle.plan_csv.proofs.Heads.{bad_here}
use Rattle.plan_csv.proofs.header.plans_of.Goals as goal

pub returns-then-not-is_plan_name : goal.returns-then-not-is_plan_name
returns-then-not-is_plan_name c =
    let next : suc c.loop-plan.plan ≡ c.loop-plan.plan + 1 = omega arith in
    bad_here (fields_of c.args.header.now) c.loop-plan.plan (omega arith) (omega arith) (omega arith) c.loop-plan.invariant
    (ap (λ k. is_plan_name (slice_index_or (fields_of c.args.header.now) k [])) next ∙ ap is_plan_name (sym c.field.ensures) ∙ sym c.is_plan_name.ensures ∙ c.if-not-is_plan_name.true)
