-- The number of different ids is at most the number of the job's trajectories.
use Rattle.std.proofs.Common.{◌≡◌, ◌∙◌, sym, ap, subst, ℕ, suc, ◌<◌, ◌≤◌, inl, inr, true, ◌||◌, List, [], ◌∷◌, length, All, arith}
use Rattle.std.specs.List.{list_any}
use Rattle.std.proofs.lemmas.Bool.{false≢true}
use Rattle.std.proofs.lemmas.Bool.Decides.{Decides-eqb, eqb_tells}
use Rattle.std.proofs.lemmas.Map.Made.{IsDistinct-from_AllPairs}
use Rattle.std.proofs.lemmas.Map.Steps.{length-le_from_distinct_below}
use Rattle.std.proofs.Math.Dec.{eqb}
use Rattle.audit_model.specs.declared.outcome.Outcome.{Outcome}
use Rattle.audit_model.specs.Job.{Job}
use Rattle.audit_model.specs.Run.{total}
use Rattle.claim_counter.specs.Walks.{IsTodo}

-- a member of a list of numbers below a bound is below the bound
member_below : (xs : List ℕ) (n : ℕ) → All (λ id. id < n) xs → (q : ℕ) → list_any (eqb q) xs ≡ true → q < n
member_below [] n within q e = absurd (false≢true e)
member_below (x ∷ xs) n within q e = elim (eqb_tells q x) [
  | inl same ↦ subst (λ k. k < n) (sym same.1) (within 0 x (omega arith))
  | inr other ↦ member_below xs n (λ k d inside. within (suc k) d (omega arith)) q (sym (ap (λ b. b || list_any (eqb q) xs) other.0) ∙ e)
]

-- a list of different ids of trajectories is at most as long as the total
pub todo_fits : (job : Job) (kept : List Outcome) (todo : List ℕ) → IsTodo job kept todo → length todo ≤ total job
todo_fits job kept todo is =
    length-le_from_distinct_below todo (total job) (IsDistinct-from_AllPairs Decides-eqb todo is.apart) (member_below todo (total job) is.within)
