use Rattle.std.proofs.Common.{◌∙◌, sym, subst}
use Rattle.audit_start.specs.ResumeState.{RefusesSlots}
use Rattle.audit_start.proofs.Started.{refused_seen}
use Rattle.audit_start.proofs.resume_state.resume.Goals as goal

pub returns-in-Err-clause-refused : goal.returns-in-Err-clause-refused
returns-in-Err-clause-refused c =
    subst (RefusesSlots c.args.slots c.args.digest.now) (sym c.refusal.ensures)
    (refused_seen c.args.slots c.args.digest.now c.in-Err.fault (sym c.newest.ensures.answer ∙ c.in-Err.is))
