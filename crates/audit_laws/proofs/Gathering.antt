-- Slots reached by runs and gatherings, in any folders, are consistent.
use Rattle.std.proofs.Common.{List}
use Rattle.audit_model.specs.Pair.{Pair, stored}
use Rattle.audit_model.specs.declared.outcome.Outcome.{Outcome}
use Rattle.audit_model.specs.Job.{Job}
use Rattle.audit_model.specs.Run.{IsConsistent}
use Rattle.audit_statement.specs.Checkpoint.{job_digest}
use Rattle.audit_statement.specs.Slots.{slot_of}
use Rattle.ckpt_store.specs.Laws.{ConsistentSlotsOpenRight, RightIsConsistent, SavesLeaveConsistentSlots, StopsLeaveConsistentSlots}
use Rattle.audit_statement.specs.Draw.{draw}
use Rattle.ckpt_store.specs.GatheredLaws.{ConsistentSlotsGiveConsistentOutcomes}
use Rattle.outcome_book.specs.Laws.{UnionsAreConsistent}
use Rattle.audit_statement.specs.Chain.{AreConsistentOf}
use Rattle.audit_laws.specs.Gathered.{AreGathered, AreReached, GatheredRunsWriteOneReport, IsSavedOver, after_gathering, after_run, begun, kept_outcomes, united}
use Rattle.audit_laws.proofs.Halted.{ended_leave}
use Rattle.audit_laws.proofs.Reruns.{chains_write_one_report, event_stays}

-- a gathering of consistent outcomes leaves consistent slots
gathering_stays : StopsLeaveConsistentSlots → (job : Job) (outcomes : List Outcome) (p q : Pair) → IsConsistent job (draw job.setting.key) outcomes → IsSavedOver job outcomes p q
    → AreConsistentOf job p → AreConsistentOf job q
gathering_stays law job outcomes p q consistent s slots =
    law job (draw job.setting.key) (job_digest job) p q s.save.slot s.carried.beside
    (ended_leave job (draw job.setting.key) (job_digest job) s.generation outcomes consistent s.save.succeeded s.save.bytes (stored p s.save.slot) (stored q s.save.slot) s.sound s.carried.ended)
    slots

-- ---- folders

module _ (opens : ConsistentSlotsOpenRight) (rights : RightIsConsistent) (gives : ConsistentSlotsGiveConsistentOutcomes) (unite : UnionsAreConsistent) (saves : SavesLeaveConsistentSlots) (stops : StopsLeaveConsistentSlots)
    (job : Job) where
  mutual
    reached_is_consistent : (p : Pair) → AreReached job p → AreConsistentOf job p
    reached_is_consistent p (begun _ consistent) = consistent
    reached_is_consistent q (after_run p e reached is) = event_stays opens rights stops saves job p e (reached_is_consistent p reached) is
    reached_is_consistent q (after_gathering p _ outcomes reached gathered saved) =
        gathering_stays stops job outcomes p q (gathered_is_consistent outcomes gathered) saved (reached_is_consistent p reached)

    gathered_is_consistent : (outcomes : List Outcome) → AreGathered job outcomes → IsConsistent job (draw job.setting.key) outcomes
    gathered_is_consistent outcomes (kept_outcomes p _ reached holds) =
        let consistent = reached_is_consistent p reached in
        gives job (draw job.setting.key) (slot_of job (job_digest job) p.zero_slot) (slot_of job (job_digest job) p.one_slot) outcomes consistent.zero_slot consistent.one_slot holds
    gathered_is_consistent outcomes (united some others _ one other is) =
        unite job (draw job.setting.key) some others outcomes (gathered_is_consistent some one) (gathered_is_consistent others other) is

-- over any number of folders and gatherings, each run that ends well has written one thread's report
pub gathered_runs_write_one_report : ConsistentSlotsOpenRight → RightIsConsistent → ConsistentSlotsGiveConsistentOutcomes → UnionsAreConsistent → SavesLeaveConsistentSlots → StopsLeaveConsistentSlots → GatheredRunsWriteOneReport
gathered_runs_write_one_report opens rights gives unite saves stops job p reached =
    let consistent = reached_is_consistent opens rights gives unite saves stops job p reached in
    (consistent, λ events chain. chains_write_one_report opens rights stops saves job p events consistent chain)
