use Rattle.std.proofs.Common.{◌∙◌, ap, arith, length, length-append, [], ◌∷◌, None, Option, ℕ, List}
use Rattle.std.specs.List.{slice_index_or}
use Rattle.plan_csv.proofs.Placed.{blank_more}
use Rattle.plan_csv.proofs.units.blanks.Goals as goal

pub loop-init : goal.loop-init
loop-init c = (ap length c.in_ok-places.ensures.items, λ u. ap (λ (ps : List (Option ℕ)). slice_index_or ps u None) c.in_ok-places.ensures.items)

pub loop-preserved : goal.loop-preserved
loop-preserved c =
    let made = c.in_ok-push.ensures.items in (
      omega (arith, ap length made, length-append c.loop.places.items (None ∷ []), c.loop.invariant.0),
      λ u. ap (λ (ps : List (Option ℕ)). slice_index_or ps u None) made ∙ blank_more c.loop.places.items c.loop.invariant.1 u,
    )
