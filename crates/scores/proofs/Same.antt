-- Scores depend on the votes alone, except those of the cut edges.
use Rattle.std.proofs.Common.{◌≡◌, ◌∙◌, ℕ, List, ap}
use Rattle.audit_model.specs.declared.outcome.SumsView.{SumsView}
use Rattle.audit_model.specs.Score.{efficiency_gap, mean_median, shares}
use Rattle.scores.specs.Known.{KnownVotes, of_known, sums_with}

module _ (votes : KnownVotes) (sums : SumsView) (first : votes.first ≡ sums.first) (second : votes.second ≡ sums.second) where
  pub same_gap : efficiency_gap (of_known votes) ≡ efficiency_gap sums
  same_gap =
      ap (λ (xs : List ℕ). efficiency_gap (sums_with xs votes.second)) first ∙ ap (λ (ys : List ℕ). efficiency_gap (sums_with sums.first ys)) second

  pub same_shares : mean_median (shares (of_known votes)) ≡ mean_median (shares sums)
  same_shares =
      ap (λ (xs : List ℕ). mean_median (shares (sums_with xs votes.second))) first ∙ ap (λ (ys : List ℕ). mean_median (shares (sums_with sums.first ys))) second
