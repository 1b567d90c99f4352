-- Writing a checkpoint part by part.
use Rattle.std.proofs.Common.{◌≡◌, ℕ, true, List, [], ◌∷◌, ◌++◌, length, refl, ap, ap₂, ◌∙◌}
use Rattle.std.specs.Prelude.{◌==◌, IsTrue, replicate}
use Rattle.std.specs.List.{flat_map, list_all, AllByRecursion}
use Rattle.std.proofs.lemmas.Bool.{and_parts, eqb-true}
use Rattle.sha2.specs.Sha256.{sha256}
use Rattle.audit_model.specs.Room.{RoomyBytes}
use Rattle.audit_model.specs.declared.outcome.Outcome.{Outcome}
use Rattle.audit_model.specs.Run.{has_no_histogram}
use Rattle.audit_model.specs.Trajectory.{empty_histogram}
use Rattle.audit_statement.specs.Checkpoint.{IsOutcome, checkpoint, checkpoint_body, outcome_bytes}
use Rattle.ckpt_format.specs.Written.{AppendsBytes, head_bytes}

-- head, outcomes and digest, appended in turn, make the checkpoint
pub written : (start a b c : RoomyBytes) (version : ℕ) (digest : List ℕ) (generation : ℕ) (outcomes : List Outcome) → start.items ≡ []
    → AppendsBytes start a (head_bytes version digest generation (length outcomes)) → AppendsBytes a b (flat_map (outcome_bytes version) outcomes)
    → AppendsBytes b c (sha256 b.items) → c.items ≡ checkpoint version digest generation outcomes
unfolding checkpoint
written start a b c version digest generation outcomes empty head rest last =
    let front : a.items ≡ head_bytes version digest generation (length outcomes) =
    head.items ∙ ap (λ (xs : List ℕ). xs ++ head_bytes version digest generation (length outcomes)) empty in
    let body : b.items ≡ checkpoint_body version digest generation outcomes =
    rest.items ∙ ap (λ (xs : List ℕ). xs ++ flat_map (outcome_bytes version) outcomes) front in
    last.items ∙ ap (λ (xs : List ℕ). xs ++ sha256 xs) body

-- a list in which each number is 0
zeros : (ns : List ℕ) → list_all (λ n. n == 0) ns ≡ true → ns ≡ replicate (length ns) 0
zeros [] all = refl
zeros (n ∷ ns) all =
    let parts = and_parts (n == 0) (list_all (λ n. n == 0) ns) all in
    ap₂ (λ m ms. m ∷ ms) (eqb-true n 0 parts.0) (zeros ns parts.1)

-- outcomes whose histograms are all 0
pub all_without_histogram : (outcomes : List Outcome) → AllByRecursion IsOutcome outcomes → IsTrue (list_all has_no_histogram outcomes) → AllByRecursion (λ o. o.bins ≡ empty_histogram) outcomes
all_without_histogram [] each without_histogram = tt
all_without_histogram (o ∷ os) each without_histogram =
    let parts = and_parts (has_no_histogram o) (list_all has_no_histogram os) without_histogram in
    (zeros o.bins parts.0 ∙ ap (λ n. replicate n 0) each.0.nine, all_without_histogram os each.1 parts.1)
