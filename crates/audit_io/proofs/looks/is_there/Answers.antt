use Rattle.std.proofs.Common.{sym, ◌∙◌}
use Rattle.audit_io.proofs.Looking.{looked_failed, looked_found, looked_none}
use Rattle.audit_io.proofs.looks.is_there.Goals as goal

pub returns-in-Ok : goal.returns-in-Ok
returns-in-Ok g c = looked_found _ _ _ _ _ c.name_of.ensures c.in-Ok.ensures

pub returns-in-NotFound : goal.returns-in-NotFound
returns-in-NotFound g c = looked_none _ _ _ _ _ c.name_of.ensures (sym c.kind.ensures ∙ c.in-NotFound.is) c.in-Err.ensures

pub returns-in_default : goal.returns-in_default
returns-in_default g c = looked_failed _ _ _ _ _ c.name_of.ensures (λ e. c.in_default.not-NotFound (c.kind.ensures ∙ e)) c.in-Err.ensures
