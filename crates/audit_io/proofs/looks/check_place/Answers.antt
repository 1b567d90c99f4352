use Rattle.std.proofs.Common.{sym, ◌∙◌}
use Rattle.audit_io.proofs.Looking.{checked_free, checked_refused, checked_there}
use Rattle.audit_io.proofs.looks.check_place.Goals as goal

pub returns-in-Ok : goal.returns-in-Ok
returns-in-Ok g c = checked_there _ _ _ _ _ _ _ c.name_of.ensures c.in-Ok.ensures c.check_apart.ensures

pub returns-in-NotFound : goal.returns-in-NotFound
returns-in-NotFound g c = checked_free _ _ _ _ _ _ _ c.name_of.ensures (sym c.kind.ensures ∙ c.in-NotFound.is) c.in-Err.ensures c.check_apart-in-NotFound.ensures

pub returns-in_default : goal.returns-in_default
returns-in_default g c = checked_refused _ _ _ _ _ c.name_of.ensures (λ e. c.in_default.not-NotFound (c.kind.ensures ∙ e)) c.in-Err.ensures
