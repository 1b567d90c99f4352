-- Out of memory and the first walk.
use Rattle.std.specs.Prelude.{◌≡◌, Bool}
use Rattle.audit_statement.specs.Status.{status_of}
use Rattle.report.specs.declared.ended.Ended.{Ended}
use Rattle.report.specs.Ended.{ending_of}

-- a call that ended out of memory, with status 3, did not lend its threads and its gate: no worker walked, and no id
-- was announced
abbrev pub EndsBeforeWalks : Ended → Bool → Bool → Type 0
EndsBeforeWalks why before after = status_of (ending_of why) ≡ 3 → after ≡ before
