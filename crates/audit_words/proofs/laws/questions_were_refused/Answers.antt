use Rattle.audit_words.proofs.Questioning.{asking_refused}
use Rattle.audit_words.proofs.laws.questions_were_refused.Goals as goal

pub returns : goal.returns
returns c = asking_refused
