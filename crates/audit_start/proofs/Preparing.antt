-- From the arguments and the source to the next step of the call.
use Rattle.std.proofs.Common.{◌≡◌, ℕ, Bool, true, List, Option, Result, Ok, refl, sym, subst}
use Rattle.audit_model.specs.declared.fault.WordFault.{WordFault}
use Rattle.audit_model.specs.declared.setting.Command.{Command}
use Rattle.audit_model.specs.declared.setting.Command.TheVariants.{Check, Run, Make, Plans, Trace}
use Rattle.audit_model.specs.declared.setting.Setting.{Setting}
use Rattle.audit_statement.specs.Words.{setting_of}
use Rattle.report.specs.declared.ended.Ended.TheVariants as ended
use Rattle.audit_statement.specs.Accepted.{input_by}
use Rattle.audit_statement.specs.Endings.{LeavesUntouched, SameUnless, TakesTooMany, no_marks, passes, is_reading}
use Rattle.audit_start.specs.Steps.{ReadsTooMany}
use Rattle.audit_laws.specs.Calls.{RunsTo}
use Rattle.audit_model.specs.State.{KeeperState, Stream}
use Rattle.audit_model.specs.Observed.{IfObserved}
use Rattle.audit_statement.specs.World.{world}
use Rattle.audit_start.proofs.Judging.{judged_many}

-- the source is read only if the arguments ask for it
pub source_by : (words : List (List ℕ)) (setting : Setting) (before after : Stream) → setting_of words ≡ Ok setting → SameUnless (is_reading setting.command) before after
    → SameUnless (passes (λ s. is_reading s.command) (setting_of words)) before after
source_by words setting before after e same =
    subst (λ (r : Result Setting WordFault). SameUnless (passes (λ s. is_reading s.command) r) before after) (sym e) same

-- a command that reads may read the source
pub may_read : (command : Command) (before after : Stream) → is_reading command ≡ true → SameUnless (is_reading command) before after
may_read command before after reads = subst (λ (b : Bool). SameUnless b before after) (sym reads) tt

-- a command that reads has the bytes of the source
pub reads_source : (command : Command) (setting : Setting) (left : Option (List ℕ)) (bytes : List ℕ) → is_reading command ≡ true
    → IfObserved left (λ input. input ≡ bytes) → IfObserved (input_by command setting left) (λ input. input ≡ bytes)
reads_source Check setting left bytes reads given = given
reads_source Run setting left bytes reads given = given
reads_source Make setting left bytes reads given = cc
reads_source Plans setting left bytes reads given = given
reads_source Trace setting left bytes reads given = given

module _ (words : List (List ℕ)) (setting : Setting) (before after : Stream) (accepted : setting_of words ≡ Ok setting) (out : Stream) (keeper : KeeperState) where
  -- only the source was changed
  pub only_source : SameUnless (is_reading setting.command) before after → after.faults ≡ before.faults
      → LeavesUntouched words (world before out keeper) (world after out keeper) no_marks
  only_source same count = record {
    source = source_by words setting before after accepted same;
    out = refl;
    slots = refl;
    attempted = refl;
    read_faults = count;
    write_faults = refl;
    load_faults = refl;
    save_faults = refl;
  }

  pub too_many_runs : is_reading setting.command ≡ true → ReadsTooMany before after → RunsTo words (world before out keeper) (world after out keeper) ended.TooManyBytes
  too_many_runs reads r = record {
    cause = record {
      refused = record {
        setting = setting;
        words_are = accepted;
        bytes = r.bytes;
        given = reads_source setting.command setting before.bytes r.bytes reads r.given;
        judged_so = judged_many setting r.bytes r.many;
      };
      taken = subst (λ (b : Bool). TakesTooMany b before.bytes after.bytes) (sym reads) r.taken;
    };
    untouched = only_source (may_read setting.command before after reads) r.faults;
    line_is = refl;
  }
