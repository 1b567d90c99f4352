use Rattle.std.proofs.Common.{◌<◌, true, subst, sym, ◌∙◌, map}
use Rattle.audit_model.specs.Trajectory.{outcome}
use Rattle.audit_model.specs.Run.{total}
use Rattle.run_core.proofs.Complete.{outcomes_are, has_id-outcomes, mapped_is_sequence}
use Rattle.run_core.proofs.laws.complete_runs_add_up.Goals as goal

pub returns : goal.returns
returns c job draws m run same every =
    c.outcomes_by_id_are_mapped.ensures (total job) (map (outcome job draws) m.done) (λ _. true) (outcome job draws) (outcomes_are job draws m.done)
    (λ id l. has_id-outcomes job draws m.done id ∙ every id (subst (λ t. id < t) (sym same) l))
    ∙ mapped_is_sequence job draws
