-- A gathering for which there is no memory.
use Rattle.std.proofs.Common.{◌≡◌, ℕ, Bool, List, Err, subst, sym, refl}
use Rattle.audit_folders.specs.Gatherings.{EndsGathering, IsNoted, Outputs}
use Rattle.audit_model.specs.Job.{Job}
use Rattle.audit_model.specs.State.{KeeperState}
use Rattle.audit_statement.specs.Accepted.{no_columns}
use Rattle.audit_statement.specs.Note.{no_memory, note}
use Rattle.ckpt_store.specs.Whole.{IsUntouched}
use Rattle.ckpt_store.specs.declared.gather_result.GatherError.TheVariants as ungathered

-- memory ran out, and nothing was gathered
pub no_room : {job : Job} {saves : Bool} {names : List (List ℕ)} {before after : KeeperState} {folders now : List KeeperState} {outputs outputs_now : Outputs} {status : ℕ}
    → after ≡ before → status ≡ 3 → IsNoted outputs outputs_now (note no_columns no_memory) → EndsGathering job saves names before after folders now outputs outputs_now status
no_room {before = before} {after = after} same is noted = record {
  answer = Err ungathered.Memory;
  gathered = tt;
  cause = subst (λ (k : KeeperState). IsUntouched before k) (sym same) (record { slots = refl; attempted = refl; saves = refl });
  written = (is, noted);
}
