use Rattle.std.proofs.Common.{refl}
use Rattle.audit_model.specs.Below.{count_below}
use Rattle.audit_model.specs.Plan.{is_legal}
use Rattle.audit_model.specs.Step.{next, mirrored}
use Rattle.audit_model.specs.Weight.{is_taken}
use Rattle.audit_laws.proofs.examples.model.small_mirrors.Goals as goal

pub returns-clause-back : goal.returns-clause-back
unfolding is_legal next is_taken mirrored count_below
returns-clause-back c = refl

pub returns-clause-leads : goal.returns-clause-leads
unfolding is_legal next is_taken mirrored count_below
returns-clause-leads c = refl

pub returns-clause-rejected : goal.returns-clause-rejected
unfolding is_legal next is_taken mirrored count_below
returns-clause-rejected c = refl
