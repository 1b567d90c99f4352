-- The results that the steps of a call on several plans pass on.
use Rattle.std.specs.Prelude.{◌≡◌, ℕ, List, Ok, Err}
use Rattle.std.specs.Io.KnownBytes.{IsAtEnd}
use Rattle.audit_model.specs.Faults.{Rose}
use Rattle.audit_model.specs.declared.setting.Setting.{Setting}
use Rattle.audit_statement.specs.Note.{Ending, bad_graph, bad_regions, bad_table, bad_plan, bad_plan_named}
use Rattle.audit_model.specs.declared.fault.PlansFault.{PlansFault}
use Rattle.audit_model.specs.declared.fault.PlansFault.TheVariants as fault
use Rattle.plan_csv.specs.declared.named.Named.{Named}
use Rattle.plan_csv.specs.Named.{jobs_of}
use Rattle.plan_csv.specs.Shared.{AreShared}
use Rattle.report.specs.declared.ended.Ended.{Ended}
use Rattle.report.specs.declared.ended.Ended.TheVariants as ended
use Rattle.report.specs.Ended.{columns_kept, ending_of}
use Rattle.audit_start.specs.declared.reading.ReadEnd.{ReadEnd}
use Rattle.audit_start.specs.declared.reading.ReadEnd.TheVariants as read
use Rattle.audit_start.specs.Steps.{ReadsTooMany}
use Rattle.audit_statement.specs.Accepted.{columns_of}
use Rattle.audit_statement.specs.Several.{ArePrepared, PlansCause, PlansLeave, plans_judged, plans_marks}
use Rattle.audit_statement.specs.Status.{line_of}
use Rattle.audit_model.specs.State.{Stream}
use Rattle.audit_model.specs.Observed.{IfObserved}
use Rattle.audit_statement.specs.World.{World}

-- the ending of a call with this setting after a refusal
abbrev pub plans_ended : Setting → PlansFault → Ended
plans_ended setting (fault.Graph f) = ended.BadGraph f setting.columns
plans_ended setting (fault.Regions f) = ended.BadRegions f setting.region
plans_ended setting (fault.Table f) = ended.BadTable f
plans_ended setting (fault.Own f) = ended.BadPlan f
plans_ended setting (fault.Other name f) = ended.BadPlanNamed name f
plans_ended setting fault.Memory = ended.NoMemory

-- the ending of a call whose source was not read to its end
abbrev pub read_ended : ReadEnd → Ended
read_ended read.Failed = ended.ReadFault
read_ended read.TooMany = ended.TooManyBytes
read_ended read.Memory = ended.NoMemory

-- all bytes were read and accepted as the jobs of these plans
pub record ArePreparedFor (setting : Setting) (before after : Stream) (named : List Named) : Type 0 where
  pub bytes : List ℕ
  pub given : IfObserved before.bytes (λ left. left ≡ bytes)
  pub judged_so : plans_judged setting bytes ≡ Ok (jobs_of named)
  pub shared : AreShared setting named
  pub at_end : IsAtEnd after.bytes
  pub faults : after.faults ≡ before.faults

-- all bytes were read and are refused for this reason
pub record IsRefusedSo (setting : Setting) (before after : Stream) (ending : Ending) : Type 0 where
  pub bytes : List ℕ
  pub given : IfObserved before.bytes (λ left. left ≡ bytes)
  pub judged_so : plans_judged setting bytes ≡ Err ending
  pub faults : after.faults ≡ before.faults

-- the reason why there are no jobs
abbrev pub PlansRefused : Setting → Stream → Stream → Ended → Type 0
PlansRefused setting before after ended.NoMemory = after.faults ≡ before.faults
PlansRefused setting before after ended.ReadFault = Rose before.faults after.faults
PlansRefused setting before after ended.TooManyBytes = ReadsTooMany before after
PlansRefused setting before after (ended.BadGraph f columns) = IsRefusedSo setting before after (bad_graph f) × (columns ≡ setting.columns)
PlansRefused setting before after (ended.BadRegions f column) = IsRefusedSo setting before after (bad_regions column f)
PlansRefused setting before after (ended.BadTable f) = IsRefusedSo setting before after (bad_table f)
PlansRefused setting before after (ended.BadPlan f) = IsRefusedSo setting before after (bad_plan f)
PlansRefused setting before after (ended.BadPlanNamed name f) = IsRefusedSo setting before after (bad_plan_named name f)
PlansRefused setting before after _ = ⊥

-- a call on several plans that ended for this reason, before its diagnostic
pub record PlansRunTo (words : List (List ℕ)) (before after : World) (why : Ended) : Type 0 where
  pub cause : PlansCause words before after (ending_of why)
  pub untouched : PlansLeave before after (plans_marks (ending_of why))
  pub line_is : line_of (columns_of words) (ending_of why) ≡ line_of (columns_kept why) (ending_of why)

-- the jobs were made from the arguments and the source
pub record ArePlansPrepared (words : List (List ℕ)) (before after : Stream) (named : List Named) : Type 0 where
  pub setting : Setting
  pub prepared : ArePrepared words before after setting (jobs_of named)
  pub shared : AreShared setting named
