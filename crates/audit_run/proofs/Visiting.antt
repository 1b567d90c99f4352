-- Every plan visited by a trajectory of an accepted plan is legal.
use Rattle.std.proofs.Common.{ℕ, List}
use Rattle.std.specs.List.{All}
use Rattle.std.proofs.lemmas.List.Elements.{All-map}
use Rattle.audit_model.specs.Job.{Job}
use Rattle.audit_model.specs.Plan.{IsLegal}
use Rattle.audit_model.specs.Trajectory.{hub}
use Rattle.audit_statement.specs.Draw.{draw}
use Rattle.audit_model.proofs.Mirror.{visit_stays_legal}
use Rattle.plan_csv.specs.declared.named.Named.{Named}
use Rattle.plan_csv.specs.Named.{IsOneOf, jobs_of, pair_of}
use Rattle.audit_model.specs.declared.rules.Group.{Group}
use Rattle.audit_model.specs.declared.setting.Setting.{Setting}
use Rattle.audit_statement.specs.Several.{VisitLegally, VisitsLegally}

-- from a legal start only legal plans are visited
visits_legally : (job : Job) → IsLegal job job.start → VisitsLegally job
visits_legally job start = record {
  from_start = λ stream step. visit_stays_legal job (draw job.setting.key stream) job.start step start;
  from_hub = λ stream step. visit_stays_legal job (draw job.setting.key stream) (hub job (draw job.setting.key)) step
      (visit_stays_legal job (draw job.setting.key 1) job.start job.setting.hub_steps start);
}

-- the plans visited from each of several plans are legal
pub visit_legally : (setting : Setting) (regions : List ℕ) (group : Group) (frozen : List ℕ) (named : List Named) → All (IsOneOf setting regions group frozen) named → VisitLegally (jobs_of named)
visit_legally setting regions group frozen named each =
    All-map (λ (plan : List ℕ × Job). VisitsLegally plan.1) pair_of named
    (λ k d inside. visits_legally _ (each k d inside).sound.legal)
