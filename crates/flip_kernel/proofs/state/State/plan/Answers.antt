use Rattle.std.proofs.Common.{ap, ◌∙◌, subst}
use Rattle.audit_model.specs.JobOf.{IsJob}
use Rattle.audit_model.specs.Plan.{IsLegal}
use Rattle.flip_kernel.specs.ChainState.{ChainState}
use Rattle.flip_kernel.proofs.state.State.plan.Goals as goal

pub returns-clause-value : goal.returns-clause-value
returns-clause-value g c = c.plan.ensures.value ∙ ap (λ (h : ChainState). h.plan) c.self.view_is

pub returns-clause-legal : goal.returns-clause-legal
returns-clause-legal g c = subst (λ (h : ChainState). IsLegal h.job h.plan) c.self.view_is c.plan.ensures.legal

pub returns-clause-sound : goal.returns-clause-sound
returns-clause-sound g c = subst (λ (h : ChainState). IsJob h.job) c.self.view_is c.plan.ensures.sound
