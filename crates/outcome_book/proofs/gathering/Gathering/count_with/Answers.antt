use Rattle.std.proofs.Common.{◌≡◌, ◌<◌, ℕ, None, true, false, cond, length, not, ap, subst, sym, ◌∙◌, arith}
use Rattle.std.specs.Option.{is_some}
use Rattle.std.proofs.lemmas.List.{get_or_read}
use Rattle.audit_model.specs.Run.{has_id, with_id}
use Rattle.outcome_book.proofs.ById.{has_is_found}
use Rattle.outcome_book.specs.Gathered.{Gathered}
use Rattle.outcome_book.proofs.Tables.{found_there}
use Rattle.outcome_book.proofs.gathering.Gathering.count_with.Goals as goal

pub returns-in-Some : goal.returns-in-Some
returns-in-Some c =
    let i = c.self.inside in
    let id = c.args.outcome.now.id in
    let l : id < length i.places.items = subst (λ (b : Gathered). id < b.total) (sym c.self.view_is) c.requires.below in
    let has : has_id c.args.self.now.outcomes id ≡ true =
    has_is_found c.args.self.now.outcomes id ∙ ap (λ (b : Gathered). is_some (with_id b.outcomes id)) (sym c.self.view_is)
    ∙ ap is_some (found_there i.places.items id c.self.invariant.0 ∙ sym (get_or_read i.places.items id c.index.result.now l c.index.ensures None) ∙ c.in-Some.is) in
    let one : ◌≡◌ {A = ℕ} (cond (not (has_id c.args.self.now.outcomes id)) 1 0) 0 = ap (λ b. cond (not b) 1 0) has in
    omega (arith, one)

pub returns-in-None : goal.returns-in-None
returns-in-None c =
    let i = c.self.inside in
    let id = c.args.outcome.now.id in
    let l : id < length i.places.items = subst (λ (b : Gathered). id < b.total) (sym c.self.view_is) c.requires.below in
    let has : has_id c.args.self.now.outcomes id ≡ false =
    has_is_found c.args.self.now.outcomes id ∙ ap (λ (b : Gathered). is_some (with_id b.outcomes id)) (sym c.self.view_is)
    ∙ ap is_some (found_there i.places.items id c.self.invariant.0 ∙ sym (get_or_read i.places.items id c.index.result.now l c.index.ensures None) ∙ c.in-None.is) in
    let one : ◌≡◌ {A = ℕ} (cond (not (has_id c.args.self.now.outcomes id)) 1 0) 1 = ap (λ b. cond (not b) 1 0) has in
    omega (arith, one)
