use Rattle.audit_run.proofs.Asked.{accepted_ask_nothing, run_asks_nothing}
use Rattle.audit_run.proofs.plain.audit_plainly.Goals as goal

pub returns-clause-plain : goal.returns-clause-plain
returns-clause-plain g c = λ other rest bytes old is.
    c.promised_calls_audit_plainly.ensures _ _ _ _ _ _ (c.audit.ensures.kept.audits (run_asks_nothing _ rest is other)) rest bytes old is

pub returns-clause-ends : goal.returns-clause-ends
returns-clause-ends g c = λ rest bytes is plain unsaved observed fit.
    c.promised_calls_end_plainly.ensures _ _ _ _ _ _ (c.audit.ensures.kept.audits (accepted_ask_nothing c.questions_were_refused.ensures _ _ fit.words_are)) rest bytes is plain
    unsaved observed fit
