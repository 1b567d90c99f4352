use Rattle.std.proofs.Common.{◌≡◌, ◌⊎◌, Ok, Err, length, IfOk, MatchResult, sym, ◌∙◌, ap, subst, ℕ, List, Result}
use Rattle.std.specs.List.{All}
use Rattle.audit_model.specs.declared.plans.Assigned.{Assigned}
use Rattle.audit_model.specs.declared.setting.Setting.{Setting}
use Rattle.dual_graph.specs.Read.{parsed_of}
use Rattle.plan_csv.specs.Fit.{IsPlanOf}
use Rattle.audit_model.specs.declared.fault.PlansFault.{PlansFault}
use Rattle.audit_model.specs.declared.fault.PlansFault.TheVariants as fault
use Rattle.plan_csv.specs.Named.{jobs_of}
use Rattle.audit_statement.specs.Jobs.{Jobs}
use Rattle.plan_csv.specs.Shared.{AreShared}
use Rattle.plan_csv.proofs.Reading.{own_fails, own_joins, own_setting, own_units}
use Rattle.plan_csv.proofs.jobs.jobs_from.Goals as goal

pub returns-in-Err-own_of-clause-read : goal.returns-in-Err-own_of-clause-read
returns-in-Err-own_of-clause-read c =
    own_fails (parsed_of c.args.parsed) c.args.setting.now c.args.origin c.args.regions c.args.parts.now.table.now c.args.parts.now.graph.now c.in-Ok.ids c.in-Ok-read_plans.plans
    c.in-Ok.ensures.read c.in-Ok-read_plans.ensures.read c.in-Err-own_of.fault c.in-Err-own_of.ensures

pub join-requires-clause-fit : goal.join-requires-clause-fit
join-requires-clause-fit c =
    let wide = c.in-Ok.ensures.width c.args.setting.now.columns (parsed_of c.args.parsed) c.requires.read in
    let units = own_units (parsed_of c.args.parsed) c.args.setting.now c.args.origin c.args.regions c.in-Ok-own_of.own c.in-Ok-own_of.ensures in
    subst (λ (n : ℕ). All (IsPlanOf n) c.as_slice.result.now) (wide ∙ sym units)
    (subst (λ (ps : List Assigned). All (IsPlanOf (length c.in-Ok.ids)) ps) (sym c.as_slice.ensures) c.in-Ok-read_plans.ensures.fit)

pub returns-clause-read : goal.returns-clause-read
returns-clause-read c =
    subst
    (λ (X : Result Jobs PlansFault). MatchResult c.join.result (λ named. X ≡ Ok (jobs_of named.items)) (λ f. (f ≡ fault.Memory) ⊎ (X ≡ Err f)))
    (sym (own_joins (parsed_of c.args.parsed) c.args.setting.now c.args.origin c.args.regions c.args.parts.now.table.now c.args.parts.now.graph.now c.in-Ok.ids c.as_slice.result.now
    c.in-Ok.ensures.read (c.in-Ok-read_plans.ensures.read ∙ sym (ap Ok c.as_slice.ensures)) c.in-Ok-own_of.own c.in-Ok-own_of.ensures))
    c.join.ensures.read

pub returns-clause-shared : goal.returns-clause-shared
returns-clause-shared c =
    subst (λ (s : Setting). IfOk c.join.result (λ named. AreShared s named.items))
    (own_setting (parsed_of c.args.parsed) c.args.setting.now c.args.origin c.args.regions c.in-Ok-own_of.own c.in-Ok-own_of.ensures) c.join.ensures.shared
