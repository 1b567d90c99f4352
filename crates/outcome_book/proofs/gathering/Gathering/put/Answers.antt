use Rattle.std.proofs.Common.{◌≡◌, ◌<◌, ◌∷◌, [], None, Some, length, get_or, set, ap, subst, sym, ◌∙◌, arith}
use Rattle.std.proofs.lemmas.List.{length-set}
use Rattle.std.proofs.lemmas.List.{get_or_read}
use Rattle.outcome_book.specs.Gathered.{Gathered}
use Rattle.outcome_book.specs.Placed.{those_there}
use Rattle.outcome_book.specs.Union.{HoldsBoth, fuller_if}
use Rattle.outcome_book.proofs.Adding.{both_more, placed_more}
use Rattle.outcome_book.proofs.gathering.Gathering.put.Goals as goal

pub invariant_of-self : goal.invariant_of-self
invariant_of-self c =
    let i = c.self.inside in
    let l : c.args.outcome.now.id < length i.places.items = subst (λ (b : Gathered). c.args.outcome.now.id < b.total) (sym c.self.view_is) c.requires in
    let at : c.index.result.now ≡ get_or i.places.items c.args.outcome.now.id None = get_or_read i.places.items c.args.outcome.now.id c.index.result.now l c.index.ensures None in (
      placed_more i.places.items c.self.invariant.0 c.args.outcome.now c.combine-kept.result l
          (c.combine-kept.ensures ∙ ap (λ h. fuller_if h (Some c.args.outcome.now)) at),
      omega (arith, length-set i.places.items c.args.outcome.now.id (Some c.combine-kept.result), c.self.invariant.1),
    )

pub returns-clause-both : goal.returns-clause-both
returns-clause-both c =
    let i = c.self.inside in
    let l : c.args.outcome.now.id < length i.places.items = subst (λ (b : Gathered). c.args.outcome.now.id < b.total) (sym c.self.view_is) c.requires in
    let at : c.index.result.now ≡ get_or i.places.items c.args.outcome.now.id None = get_or_read i.places.items c.args.outcome.now.id c.index.result.now l c.index.ensures None in
    subst (λ (b : Gathered). HoldsBoth b.outcomes (c.args.outcome.now ∷ []) (those_there (set i.places.items c.args.outcome.now.id (Some c.combine-kept.result)))) c.self.view_is
    (both_more i.places.items c.self.invariant.0 c.args.outcome.now c.combine-kept.result l
    (c.combine-kept.ensures ∙ ap (λ h. fuller_if h (Some c.args.outcome.now)) at))
