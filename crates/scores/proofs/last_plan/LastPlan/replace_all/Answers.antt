use Rattle.std.proofs.Common.{◌∙◌, ℕ, ◌≤◌, ◌⊎◌, List, sym, arith, inl, inr}
use Rattle.std.proofs.lemmas.List.{ext_get_or}
use Rattle.audit_model.specs.declared.outcome.SumsView.{SumsView}
use Rattle.scores.specs.Known.{AgreesAt, IsListed, KnownVotes}
use Rattle.scores.proofs.last_plan.LastPlan.replace_all.Goals as goal

-- once no listed district is left, all districts agree
agrees : (votes : KnownVotes) (sums : SumsView) (list : List ℕ) (from to d : ℕ) → to ≤ from
    → AgreesAt votes.first votes.second sums d ⊎ IsListed list from to d → AgreesAt votes.first votes.second sums d
agrees votes sums list from to d over either = elim either [
  | inl here ↦ here
  | inr there ↦ absurd (omega (arith, over, there.1, there.2))
]

pub returns-clause-first : goal.returns-clause-first
returns-clause-first c =
    let votes = c.loop-place.self in
    let sums = c.args.sums.now in
    ext_get_or 0 votes.first sums.first c.loop-place.invariant.first
    (λ d l. (agrees votes sums c.args.changed.now c.loop-place.place c.args.count d c.loop-place-test.false (c.loop-place.invariant.listed d (omega (arith, l, c.loop-place.invariant.first)))).0)

pub returns-clause-second : goal.returns-clause-second
returns-clause-second c =
    let votes = c.loop-place.self in
    let sums = c.args.sums.now in
    ext_get_or 0 votes.second sums.second (c.loop-place.invariant.second ∙ sym c.requires.votes.as_many)
    (λ d l. (agrees votes sums c.args.changed.now c.loop-place.place c.args.count d c.loop-place-test.false (c.loop-place.invariant.listed d (omega (arith, l, c.loop-place.invariant.second)))).1)
