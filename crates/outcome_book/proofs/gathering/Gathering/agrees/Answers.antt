use Rattle.std.proofs.Common.{◌≡◌, ◌<◌, None, Some, length, refl, ap, subst, sym, ◌∙◌}
use Rattle.std.proofs.lemmas.List.{get_or_read}
use Rattle.audit_model.specs.Run.{with_id}
use Rattle.outcome_book.specs.Gathered.{Gathered}
use Rattle.outcome_book.specs.Union.{AgreeIf}
use Rattle.outcome_book.proofs.Tables.{found_there}
use Rattle.outcome_book.proofs.gathering.Gathering.agrees.Goals as goal

pub returns-in-Some : goal.returns-in-Some
returns-in-Some c =
    let i = c.self.inside in
    let o = c.args.outcome.now in
    let l : o.id < length i.places.items = subst (λ (b : Gathered). o.id < b.total) (sym c.self.view_is) c.requires in
    let at : with_id c.args.self.now.outcomes o.id ≡ Some c.in-Some.existing =
    ap (λ (b : Gathered). with_id b.outcomes o.id) (sym c.self.view_is) ∙ found_there i.places.items o.id c.self.invariant.0
    ∙ sym (get_or_read i.places.items o.id c.index.result.now l c.index.ensures None) ∙ c.in-Some.is in
    (λ e. subst (λ h. AgreeIf h (Some o)) (sym at) (c.agree.ensures.0 e), λ h. c.agree.ensures.1 (subst (λ h. AgreeIf h (Some o)) at h))

pub returns-in-None : goal.returns-in-None
returns-in-None c =
    let i = c.self.inside in
    let o = c.args.outcome.now in
    let l : o.id < length i.places.items = subst (λ (b : Gathered). o.id < b.total) (sym c.self.view_is) c.requires in
    let at : with_id c.args.self.now.outcomes o.id ≡ None =
    ap (λ (b : Gathered). with_id b.outcomes o.id) (sym c.self.view_is) ∙ found_there i.places.items o.id c.self.invariant.0
    ∙ sym (get_or_read i.places.items o.id c.index.result.now l c.index.ensures None) ∙ c.in-None.is in
    (λ e. subst (λ h. AgreeIf h (Some o)) (sym at) tt, λ h. refl)
