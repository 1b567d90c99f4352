use Rattle.std.proofs.Common.{◌≡◌, ◌∙◌, List, true, refl, ap, arith}
use Rattle.audit_model.specs.declared.outcome.Outcome.{Outcome}
use Rattle.audit_model.specs.Run.{taken_up}
use Rattle.audit_laws.proofs.Leaving.{no_memory_ends}
use Rattle.audit_start.proofs.Refused.{refused_ends}
use Rattle.audit_start.proofs.Started.{opens_taken, saw_observed, taken_none}
use Rattle.audit_start.proofs.resume_state.open_found.Goals as goal

pub returns-in-Ok : goal.returns-in-Ok
returns-in-Ok c = λ k saw out. no_memory_ends c.args.job.now out k k refl refl refl refl

pub returns-in-Ok-take_up : goal.returns-in-Ok-take_up
returns-in-Ok-take_up c = λ k saw.
    let resumes : c.args.job.now.setting.resume ≡ true = grind (arith, c.setting.ensures.value, c.if-not-setting.false) in
    opens_taken c.args.job.now c.requires.run c.args.digest k c.args.slots _ _ _ c.requires.digest resumes saw c.in-Ok.ensures.saved_outcomes
    (c.in-Ok.ensures.fit c.args.job.now c.requires.fit.0 c.requires.fit.1) (c.in-Ok-take_up.ensures ∙ ap (λ (os : List Outcome). taken_up c.args.job.now.setting.shift c.args.job.now.setting.walks os) c.as_slice.ensures)
    _ refl refl (c.target_of-target.ensures k.slots (saw_observed c.args.job.now c.args.digest k.slots c.args.slots saw))

pub returns : goal.returns
returns c = λ k saw out.
    let resumes : c.args.job.now.setting.resume ≡ true = grind (arith, c.setting.ensures.value, c.if-not-setting.false) in
    refused_ends c.args.job.now c.args.digest c.args.slots c.requires.digest resumes out k _ c.requires.run.walking saw
    (taken_none c.args.job.now c.args.slots c.in-Err.ensures.saved_outcomes) c.in-Err.ensures.refused
