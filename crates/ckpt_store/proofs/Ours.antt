-- A checkpoint with plausible outcomes belongs to the job.
use Rattle.std.proofs.Common.{◌≡◌, List, [], length, get_or, None, refl, sym, ap, ◌∙◌}
use Rattle.std.specs.Prelude.{IsTrue}
use Rattle.std.specs.List.{list_all}
use Rattle.std.proofs.lemmas.Bool.{not_from_true}
use Rattle.std.proofs.lemmas.List.Sums.{AllPass-from_list_all}
use Rattle.std.proofs.lemmas.Slice.Eq.{bytes_eq-Decides}
use Rattle.audit_model.specs.declared.outcome.Outcome.{Outcome}
use Rattle.audit_model.specs.First.{first_below}
use Rattle.audit_model.specs.Job.{Job}
use Rattle.audit_model.specs.Run.{fits}
use Rattle.audit_model.proofs.First.{none_first_below}
use Rattle.audit_statement.specs.Slots.{outcome_at, ours}
use Rattle.ckpt_format.specs.declared.decode.Checkpoint.{Checkpoint}
use Rattle.ckpt_format.proofs.Made.{none-from_checkpoint}
use Rattle.ckpt_format.proofs.Stated.{checkpoints_are_read, checkpoints_have_length}
use Rattle.ckpt_store.specs.Fitting.{is_unfit, slot_judged, slot_judged_digest, slot_judged_ours}
use Rattle.ckpt_store.specs.Laws.{CheckpointsAreOurs}
use Rattle.ckpt_store.proofs.Fits.{is_unfit_at}
use Rattle.ckpt_store.proofs.Judged.{slot_of_read}

-- if all outcomes are plausible, no place is marked
none_unfit : (job : Job) (outcomes : List Outcome) → IsTrue (list_all (fits job) outcomes) → first_below (length outcomes) (is_unfit job outcomes) ≡ None
none_unfit job outcomes fit =
    let d = outcome_at [] 0 in
    none_first_below (length outcomes) (is_unfit job outcomes)
    (λ k l. is_unfit_at job outcomes k d l ∙ not_from_true (fits job (get_or outcomes k d)) (AllPass-from_list_all (fits job) outcomes fit k d l))

-- the slot of a checkpoint with the job's digest
judged_as_ours : (job : Job) (c : Checkpoint) → IsTrue (list_all (fits job) c.outcomes.items) → slot_judged job c.digest c ≡ ours c.generation c.outcomes.items
judged_as_ours job c fit =
    ap (slot_judged_digest job c) ((bytes_eq-Decides c.digest c.digest).1 refl) ∙ ap (slot_judged_ours c) (none_unfit job c.outcomes.items fit)

-- the law: the bytes have no fault, the digest is the job's, and no outcome is marked
pub checkpoints_are_ours : CheckpointsAreOurs
checkpoints_are_ours job bytes version digest generation outcomes is fit =
    let c : Checkpoint = record { version = version; digest = digest; generation = generation; outcomes = record { items = outcomes; spare = 0 } } in
    let size = (checkpoints_have_length bytes version digest generation outcomes is).1 in
    sym (slot_of_read job digest bytes c size (none-from_checkpoint bytes version digest generation outcomes is) (checkpoints_are_read bytes version digest generation outcomes is))
    ∙ judged_as_ours job c fit
