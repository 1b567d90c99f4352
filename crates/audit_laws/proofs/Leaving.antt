-- The parts of the state that a run leaves unchanged, and the endings of a run that does not start.
use Rattle.std.proofs.Common.{◌≡◌, ℕ, ◌&&◌, Bool, true, false, List, Result, refl, sym, subst, ap}
use Rattle.audit_model.specs.declared.fault.WordFault.{WordFault}
use Rattle.audit_model.specs.declared.setting.Setting.{Setting}
use Rattle.audit_model.specs.Job.{Job}
use Rattle.audit_statement.specs.Words.{setting_of}
use Rattle.report.specs.declared.ended.Ended.TheVariants as ended
use Rattle.audit_statement.specs.Endings.{IsPrepared, IsReadBy, LeavesUntouched, EndingMarks, SameUnless, is_reading, passes, saves}
use Rattle.audit_laws.specs.Calls.{Finishes}
use Rattle.audit_model.specs.State.{KeeperState, Stream}
use Rattle.audit_statement.specs.World.{world}

-- ---- the effect of reading

-- an unchanged value is unchanged whether a test passes or not
same_always : {A : Type 0} (b : Bool) (x : A) → SameUnless b x x
same_always true x = tt
same_always false x = refl

-- a stream read only if a test passes is unchanged unless it passes
read_same : (b : Bool) (before after : Stream) → IsReadBy b before after → SameUnless b before after
read_same true before after r = tt
read_same false before after r = r

-- a reading, made or not, leaves the count of faults unchanged
read_count : (b : Bool) (before after : Stream) → IsReadBy b before after → after.faults ≡ before.faults
read_count true before after r = r.1
read_count false before after r = ap (λ (s : Stream). s.faults) r

module _ (words : List (List ℕ)) (before after : Stream) (job : Job) (p : IsPrepared words before after job) where
  source_left : SameUnless (passes (λ s. is_reading s.command) (setting_of words)) before after
  source_left =
      subst (λ (r : Result Setting WordFault). SameUnless (passes (λ s. is_reading s.command) r) before after) (sym p.accepted.words_are)
      (read_same (is_reading job.setting.command) before after p.read)

  -- a value that only a run that saves may change
  pub saved_left : {A : Type 0} (x y : A) → SameUnless (saves job.setting) x y → SameUnless (passes saves (setting_of words)) x y
  saved_left x y same = subst (λ (r : Result Setting WordFault). SameUnless (passes saves r) x y) (sym p.accepted.words_are) same

  -- the rest of the call changed only the marked parts
  pub left : (out out' : Stream) (k l : KeeperState) (marks : EndingMarks) → SameUnless marks.wrote out.bytes out'.bytes
      → SameUnless (marks.saved && passes saves (setting_of words)) k.slots l.slots
      → SameUnless (marks.saved && passes saves (setting_of words)) k.attempted l.attempted → marks.read_failed ≡ false → SameUnless marks.write_failed out.faults out'.faults
      → SameUnless marks.load_failed k.load_faults l.load_faults → SameUnless (marks.save_failed && passes saves (setting_of words)) k.save_faults l.save_faults
      → LeavesUntouched words (world before out k) (world after out' l) marks
  left out out' k l marks wrote slots attempted reads writes loaded saved = record {
    source = source_left;
    out = wrote;
    slots = slots;
    attempted = attempted;
    read_faults = subst (λ b. SameUnless b before.faults after.faults) (sym reads) (read_count _ before after p.read);
    write_faults = writes;
    load_faults = loaded;
    save_faults = saved;
  }

-- ---- runs that do not start

-- out of memory without any change is an ending of the call
pub no_memory_ends : (job : Job) (out : Stream) (k l : KeeperState) → l.slots ≡ k.slots → l.attempted ≡ k.attempted → l.save_faults ≡ k.save_faults → l.load_faults ≡ k.load_faults
    → Finishes job out out k l ended.NoMemory
no_memory_ends job out k l slots attempted saved loaded = λ words before after p. record {
  cause = tt;
  untouched = left words before after job p out out k l _ refl slots attempted refl refl loaded saved;
  line_is = refl;
}
