use Rattle.std.proofs.Common.{Result, sym, ap, ◌∙◌}
use Rattle.std.specs.IoError.{error_kind}
use Rattle.std_io.specs.declared.io.error.Error.{Error}
use Rattle.audit_io.specs.FileCalls.{error_of, no_folder_error}
use Rattle.audit_io.proofs.Calls.{folder_error}
use Rattle.audit_io.proofs.slot_files.accept_unsupported.Goals as goal

pub returns-in_default : goal.returns-in_default
returns-in_default c =
    sym (ap (λ (r : Result (Unit {0}) Error). no_folder_error (error_of r)) c.in-Err.is
    ∙ folder_error (error_kind c.in-Err.error) (λ e. c.in_default.not-Unsupported (c.kind.ensures ∙ e)) (λ e. c.in_default.not-InvalidInput (c.kind.ensures ∙ e)))
