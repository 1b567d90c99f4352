-- The parts of the state that a call leaves unchanged, by the reason of its ending.
use Rattle.std.proofs.Common.{◌≡◌, ◌≢◌, ℕ, Bool, true, false, List, Option, Some, None, Result, Ok, Err, IsErr, IsFalse, refl, sym, subst}
use Rattle.std.proofs.lemmas.Bool.{and_right}
use Rattle.audit_model.specs.declared.fault.WordFault.{WordFault}
use Rattle.audit_model.specs.declared.setting.Setting.{Setting}
use Rattle.audit_statement.specs.Note.{Ending, write_fault, load_fault, folder_taken, stopped, save_fault}
use Rattle.audit_statement.specs.Words.{setting_of}
use Rattle.audit_statement.specs.Status.{status_of}
use Rattle.audit_statement.specs.Endings.{Cause, EndsFor, IsLoadFault, LeavesUntouched, SameUnless, marks_of, passes, is_reading, saves, loads}
use Rattle.audit_statement.specs.Left.{LeavesAlone}
use Rattle.audit_model.specs.State.{Stream}
use Rattle.audit_statement.specs.World.{World}
use Rattle.audit_laws.proofs.Reporting.{same_setting}

-- a value that changes only if a test passes is unchanged if it fails
same_at : {A : Type 0} (b : Bool) (x y : A) → b ≡ false → SameUnless b x y → y ≡ x
same_at true x y e s = cc
same_at false x y e s = s

-- refused arguments pass no test
passes_none : (test : Setting → Bool) (r : Result Setting WordFault) → IsErr r → passes test r ≡ false
passes_none test (Ok s) h = cc
passes_none test (Err f) h = refl

-- if a test of the setting fails, the arguments of the setting do not pass it
passes_not : (test : Setting → Bool) (words : List (List ℕ)) (s : Setting) → setting_of words ≡ Ok s → IsFalse (test s) → passes test (setting_of words) ≡ false
passes_not test words s e off = subst (λ (r : Result Setting WordFault). passes test r ≡ false) (sym e) off

module _ (words : List (List ℕ)) (before after : World) where
  unwritten : (r : Option Ending) → LeavesUntouched words before after (marks_of r) → status_of r ≢ 0 → status_of r ≢ 5 → status_of r ≢ 9 → after.out.bytes ≡ before.out.bytes
  unwritten None u h0 h5 h9 = absurd (h0 refl)
  unwritten (Some write_fault) u h0 h5 h9 = absurd (h5 refl)
  unwritten (Some save_fault) u h0 h5 h9 = absurd (h9 refl)
  unwritten r u h0 h5 h9 = u.out

  unsaved : (r : Option Ending) → LeavesUntouched words before after (marks_of r) → status_of r ≢ 0 → status_of r ≢ 5 → status_of r ≢ 7 → status_of r ≢ 9
      → after.keeper.slots ≡ before.keeper.slots
  unsaved None u h0 h5 h7 h9 = absurd (h0 refl)
  unsaved (Some write_fault) u h0 h5 h7 h9 = absurd (h5 refl)
  unsaved (Some (stopped done all)) u h0 h5 h7 h9 = absurd (h7 refl)
  unsaved (Some save_fault) u h0 h5 h7 h9 = absurd (h9 refl)
  unsaved r u h0 h5 h7 h9 = u.slots

  no_attempt : (r : Option Ending) → LeavesUntouched words before after (marks_of r) → status_of r ≢ 0 → status_of r ≢ 5 → status_of r ≢ 7 → status_of r ≢ 9
      → after.keeper.attempted ≡ before.keeper.attempted
  no_attempt None u h0 h5 h7 h9 = absurd (h0 refl)
  no_attempt (Some write_fault) u h0 h5 h7 h9 = absurd (h5 refl)
  no_attempt (Some (stopped done all)) u h0 h5 h7 h9 = absurd (h7 refl)
  no_attempt (Some save_fault) u h0 h5 h7 h9 = absurd (h9 refl)
  no_attempt r u h0 h5 h7 h9 = u.attempted

  no_load_fault : (s : Setting) → setting_of words ≡ Ok s → IsFalse (loads s) → IsLoadFault words before after → ⊥
  no_load_fault s e off c =
      let same : c.job.setting ≡ s = same_setting words _ _ c.prepared.accepted.words_are e in
      let on : loads c.job.setting ≡ true = c.loading in
      let on' : loads s ≡ true = subst (λ (t : Setting). loads t ≡ true) same on in
      let off' : loads s ≡ false = off in
      cc

  unloaded : (r : Option Ending) → Cause words before after r → LeavesUntouched words before after (marks_of r) → (s : Setting) → setting_of words ≡ Ok s → IsFalse (loads s)
      → after.keeper.load_faults ≡ before.keeper.load_faults
  unloaded (Some load_fault) c u s e off = absurd (no_load_fault s e off c.fault)
  unloaded (Some folder_taken) c u s e off = absurd (no_load_fault s e off c.fault)
  unloaded r c u s e off = u.load_faults

  alone_at : (r : Option Ending) → Cause words before after r → LeavesUntouched words before after (marks_of r) → LeavesAlone words before after (status_of r)
  alone_at r c u = record {
    unwritten = unwritten r u;
    unsaved = unsaved r u;
    no_attempt = no_attempt r u;
    refused_words = λ h. same_at _ before.source after.source (passes_none _ (setting_of words) h) u.source;
    not_reading = λ s e off. same_at _ before.source after.source (passes_not (λ s. is_reading s.command) words s e off) u.source;
    not_saving = λ s e off. (
      same_at _ before.keeper.slots after.keeper.slots (and_right _ _ (passes_not saves words s e off)) u.slots,
      same_at _ before.keeper.save_faults after.keeper.save_faults (and_right _ _ (passes_not saves words s e off)) u.save_faults,
      same_at _ before.keeper.attempted after.keeper.attempted (and_right _ _ (passes_not saves words s e off)) u.attempted,
    );
    not_loading = unloaded r c u;
  }

-- a call with a correct ending leaves unchanged what its arguments do not ask for
pub leaves_alone : (words : List (List ℕ)) (before after : World) (n m : Stream) (status : ℕ) → EndsFor words before after n m status → LeavesAlone words before after status
leaves_alone words before after n m status e =
    subst (λ (s : ℕ). LeavesAlone words before after s) (sym e.status_is) (alone_at words before after e.reason e.cause e.untouched)
