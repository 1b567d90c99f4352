use Rattle.std.proofs.Common.{◌≡◌, ◌∙◌, ℕ, ◌++◌, List, [], length, take, sum, ℤ, to_z, of_z, w64, refl, sym, ap, subst, arith}
use Rattle.std.proofs.lemmas.Int.{ints, to_z-of_z}
use Rattle.std.proofs.lemmas.List.{take_at}
use Rattle.std.specs.Prelude.{slice_index}
use Rattle.audit_model.specs.declared.outcome.SumsView.{SumsView}
use Rattle.audit_model.specs.Score.{efficiency_gap, seats, share, shares}
use Rattle.audit_model.proofs.Below.{length-map_below}
use Rattle.scores.specs.LastPlan.{AreScores}
use Rattle.scores.specs.Votes.{AreShares, AreVotes}
use Rattle.scores.proofs.Shares.{are_shares}
use Rattle.scores.proofs.last_plan.LastPlan.fill.Goals as goal

module _ (sums : SumsView) (first second all more_first more_second more_shares : List ℕ) (n : ℕ) (votes : AreVotes sums.first sums.second)
    (is_first : first ≡ sums.first) (is_second : second ≡ sums.second) (is_shares : all ≡ shares sums) (count : n ≡ length sums.first) where
  the_first : take n (first ++ more_first) ≡ sums.first
  the_first = take_at first more_first n (ap (λ (xs : List ℕ). length xs) is_first ∙ sym count) ∙ is_first

  the_second : take n (second ++ more_second) ≡ sums.second
  the_second = take_at second more_second n (ap (λ (xs : List ℕ). length xs) is_second ∙ votes.as_many ∙ sym count) ∙ is_second

  the_shares : take n (all ++ more_shares) ≡ shares sums
  the_shares =
      take_at all more_shares n
      (ap (λ (xs : List ℕ). length xs) is_shares ∙ length-map_below (length sums.first) (λ d. share (slice_index sums.first d) (slice_index sums.second d)) ∙ sym count)
      ∙ is_shares

  filled : (total won : ℕ) (gap : ℤ) → total ≡ sum (take n (all ++ more_shares)) → won ≡ seats sums → gap ≡ efficiency_gap sums
      → AreScores (take n (first ++ more_first)) (take n (second ++ more_second)) (take n (all ++ more_shares)) total won gap
  filled total won gap is_total is_won is_gap =
      rw (the_first, the_second) (record {
        as_many = votes.as_many;
        small_first = votes.small_first;
        small_second = votes.small_second;
        shares_are = the_shares;
        total_is = is_total;
        won_is = is_won;
        gap_is = is_gap;
      })

pub total-self-inside-requires : goal.total-self-inside-requires
total-self-inside-requires c =
    subst (λ (xs : List ℕ). AreShares xs)
    (sym (the_shares c.args.sums.now c.args.sums.now.first c.args.sums.now.second c.write_shares.new.shares [] [] _ c.len-count.result c.requires.votes refl refl c.write_shares.ensures c.len-count.ensures))
    (are_shares c.args.sums.now c.requires.votes)

pub invariant_of-self : goal.invariant_of-self
invariant_of-self c = record {
  few = omega (arith, c.len-count.ensures, c.requires.votes.few);
  scores =
      filled c.args.sums.now c.copy_from_slice.new.self c.copy_from_slice-2.new.self c.write_shares.new.shares _ _ _ c.len-count.result c.requires.votes
      (c.copy_from_slice.ensures.after ∙ c.as_slice.ensures) (c.copy_from_slice-2.ensures.after ∙ c.as_slice-2.ensures) c.write_shares.ensures c.len-count.ensures
      c.total-self-inside.result c.seats-self-inside.result (to_z w64 (of_z w64 c.efficiency_gap-self-inside.result)) c.total-self-inside.ensures.value c.seats-self-inside.ensures
      (to_z-of_z w64 c.efficiency_gap-self-inside.result (omega (arith, ints)) ∙ c.efficiency_gap-self-inside.ensures);
  low = λ some. omega (arith, some);
  high = λ some. omega (arith, some);
}
