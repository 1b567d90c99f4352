use Rattle.std.proofs.Common.{Err, refl, sym, ap, ◌∙◌}
use Rattle.std_io.specs.declared.io.kind.ErrorKind.{ErrorKind}
use Rattle.audit_io.specs.Looks.{seen_failed, seen_odd, seen_plain}
use Rattle.audit_io.proofs.Looking.{seen_link}
use Rattle.audit_io.proofs.looks.plain_file.Goals as goal

pub returns-then-found : goal.returns-then-found
returns-then-found g c = seen_plain c.in-Ok.found c.if-found.true c.in-Ok.ensures refl

pub returns-else-found : goal.returns-else-found
returns-else-found g c = seen_odd c.in-Ok.found c.if-found.false c.in-Ok.ensures (ap (λ (k : ErrorKind). Err k) c.from.ensures)

pub returns-in-NotFound : goal.returns-in-NotFound
returns-in-NotFound g c = seen_link _ _ _ _ _ _ (sym c.kind.ensures ∙ c.in-NotFound.is) c.in-Err.ensures c.refuse_link.ensures

pub returns-in_default : goal.returns-in_default
returns-in_default g c = seen_failed _ (λ e. c.in_default.not-NotFound (c.kind.ensures ∙ e)) c.in-Err.ensures refl
