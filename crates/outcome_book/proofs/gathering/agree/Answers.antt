use Rattle.std.proofs.Common.{refl, inl, inr}
use Rattle.std.proofs.lemmas.Bool.Decides.{not_from_Decides}
use Rattle.outcome_book.proofs.gathering.agree.Goals as goal

pub returns-then-is_same : goal.returns-then-is_same
returns-then-is_same c = (λ e. inl (c.is_same.ensures.0 c.if-is_same.true), λ h. refl)

pub returns-then-is_without_histogram_of : goal.returns-then-is_without_histogram_of
returns-then-is_without_histogram_of c = (λ e. inr (inl (c.is_without_histogram_of.ensures.0 c.if-is_without_histogram_of.true)), λ h. refl)

pub returns : goal.returns
returns c = (
  λ e. inr (inr (c.is_without_histogram_of-2.ensures.0 e)),
  λ h. elim h [
    | inl e ↦ absurd (not_from_Decides c.is_same.result c.is_same.ensures c.if-is_same.false e)
    | inr r ↦ elim r [
      | inl e ↦ absurd (not_from_Decides c.is_without_histogram_of.result c.is_without_histogram_of.ensures c.if-is_without_histogram_of.false e)
      | inr e ↦ c.is_without_histogram_of-2.ensures.1 e
    ]
  ],
)
