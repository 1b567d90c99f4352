-- The number of a run's failed saves.
use Rattle.std.proofs.Common.{◌≡◌, ℕ, ◌+◌, ◌&&◌, not, Bool, true, false, cond, List, [], ◌∷◌, ◌++◌, map, refl, sym, ap, ◌∙◌, arith}
use Rattle.std.proofs.lemmas.List.Sums.{sum_by-append, sum_by-cons}
use Rattle.audit_model.specs.Attempts.{Try}
use Rattle.tally_desk.specs.declared.entry.Entry.{Entry}
use Rattle.tally_desk.specs.Entries.{is_due, missed}
use Rattle.tally_desk.specs.Homes.{Made, made_after, made_with, attempts, try_made}
use Rattle.tally_desk.specs.Parts.{Parts}
use Rattle.audit_statement.specs.InOrder.{failed_of}
use Rattle.tally_desk.proofs.Attempted.{rest_attempts, run_attempts}

module _ (parts : Parts) where
  abbrev one_failed : Bool → ℕ
  one_failed b = cond b 1 0

  failed_with : (earlier : List Entry) (e : Entry) (ms : List Made) (b : Bool)
      → failed_of (map (try_made parts.job) (cond b (made_with parts earlier e ∷ []) [] ++ ms)) ≡ one_failed (b && not e.saved) + failed_of (map (try_made parts.job) ms)
  failed_with earlier e ms true = sum_by-cons (λ (t : Try). cond {A = ℕ} (not t.succeeded) 1 0) (try_made parts.job (made_with parts earlier e)) (map (try_made parts.job) ms)
  failed_with earlier e ms false =
      let none : failed_of (map (try_made parts.job) ms) ≡ 0 + failed_of (map (try_made parts.job) ms) = omega arith in
      none

  pub failed_attempts : (posted earlier : List Entry) → failed_of (map (try_made parts.job) (made_after parts earlier posted)) ≡ missed parts.save_every posted
  failed_attempts [] earlier = refl
  failed_attempts (e ∷ posted) earlier =
      let first = failed_with earlier e (made_after parts (earlier ++ e ∷ []) posted) (is_due parts.save_every e) in
      let rest = failed_attempts posted (earlier ++ e ∷ []) in
      let all : missed parts.save_every (e ∷ posted) ≡ one_failed (is_due parts.save_every e && not e.saved) + missed parts.save_every posted =
      sum_by-cons (λ (x : Entry). cond {A = ℕ} (is_due parts.save_every x && not x.saved) 1 0) e posted in
      first ∙ ap (λ (n : ℕ). one_failed (is_due parts.save_every e && not e.saved) + n) rest ∙ sym all

  pub failed_run : (last_saved succeeded : Bool) (posted : List Entry) → failed_of (run_attempts last_saved succeeded parts posted) ≡ missed parts.save_every posted + one_failed (not last_saved && not succeeded)
  failed_run last_saved succeeded posted =
      sum_by-append (λ (t : Try). cond {A = ℕ} (not t.succeeded) 1 0) (attempts parts posted) (rest_attempts last_saved succeeded parts posted)
      ∙ (λ i. failed_attempts posted [] i + last last_saved succeeded i)
    where
      last : (b s : Bool) → failed_of (rest_attempts b s parts posted) ≡ one_failed (not b && not s)
      last true s = refl
      last false true = refl
      last false false = refl
