use Rattle.std.proofs.Common.{◌≡◌, None, [], not}
use Rattle.csv.specs.Records.{fields_of}
use Rattle.audit_model.specs.First.{first_below}
use Rattle.audit_statement.specs.Table.{is_plan_name, plan_name}
use Rattle.plan_csv.proofs.header.plans_of.Given as goal

abbrev pub invariant-loop-plan : goal.invariant-loop-plan
invariant-loop-plan l = first_below l.plan (λ p. not (is_plan_name (plan_name [] (fields_of l.header) [] p))) ≡ None
