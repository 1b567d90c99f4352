use Rattle.contig.proofs.Around.{linked_may_leave}
use Rattle.contig.proofs.RingLinks.{leaving_is_linked}
use Rattle.contig.proofs.laws.linked_units_may_leave.Goals as goal

pub returns-clause-linked : goal.returns-clause-linked
returns-clause-linked c = λ g faces plan u simple are connected linked. linked_may_leave g faces plan u simple are linked connected

pub returns-clause-unlinked : goal.returns-clause-unlinked
returns-clause-unlinked c = λ g faces plan u simple are l connected holes leaves. leaving_is_linked g faces plan u simple are l connected holes leaves
