use Rattle.std.proofs.Common.{◌≡◌, None, sym, ◌∙◌}
use Rattle.audit_model.specs.JobOf.{plan_fault}
use Rattle.plan_core.proofs.Judged.{accepted_is_job}
use Rattle.plan_core.proofs.job.values_of.Goals as goal

pub start_values-requires : goal.start_values-requires
start_values-requires c =
    let none : plan_fault c.args.input.now ≡ None = sym (c.in_ok-fault.ensures {u = tt}) ∙ c.in-None.is in
    accepted_is_job c.args.input.now c.requires none

pub returns-in_ok-start_values-in-None : goal.returns-in_ok-start_values-in-None
returns-in_ok-start_values-in-None c =
    let none : plan_fault c.args.input.now ≡ None = sym (c.in_ok-fault.ensures {u = tt}) ∙ c.in-None.is in
    (record { sound = accepted_is_job c.args.input.now c.requires none; valued = c.in_ok-start_values-in-None.ensures }, none)
