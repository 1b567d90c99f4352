use Rattle.std.proofs.Common.{◌∙◌, sym}
use Rattle.std.proofs.lemmas.Bool.{false≢true}
use Rattle.audit_run.proofs.audit.audit_asked.Goals as goal

pub audit_plans-status-requires-clause-plans : goal.audit_plans-status-requires-clause-plans
audit_plans-status-requires-clause-plans g c κs within = sym c.names_plans.ensures ∙ c.if-names_plans.true

pub returns-then-names_plans-clause-kept : goal.returns-then-names_plans-clause-kept
returns-then-names_plans-clause-kept g c = record {
  one = λ single. absurd (false≢true (sym single ∙ sym c.names_plans.ensures ∙ c.if-names_plans.true));
  several = λ many. c.audit_plans-status.ensures.kept (g.C.Keeper.state c.args.keeper);
}

pub returns-clause-kept : goal.returns-clause-kept
returns-clause-kept g c = record {
  one = λ single. c.audit_single.ensures.kept;
  several = λ many. absurd (false≢true (sym c.if-names_plans.false ∙ c.names_plans.ensures ∙ many));
}

pub audit_plans-status-requires-clause-text : goal.audit_plans-status-requires-clause-text
audit_plans-status-requires-clause-text g c κs within = c.requires.text.several (sym c.names_plans.ensures ∙ c.if-names_plans.true)

pub audit_plans-status-requires-clause-note : goal.audit_plans-status-requires-clause-note
audit_plans-status-requires-clause-note g c κs within = c.requires.note.several (sym c.names_plans.ensures ∙ c.if-names_plans.true)

pub audit_single-requires-clause-text : goal.audit_single-requires-clause-text
audit_single-requires-clause-text g c κs within = c.requires.text.one (sym c.names_plans.ensures ∙ c.if-names_plans.false)

pub audit_single-requires-clause-note : goal.audit_single-requires-clause-note
audit_single-requires-clause-note g c κs within = c.requires.note.one (sym c.names_plans.ensures ∙ c.if-names_plans.false)
