use Rattle.std.proofs.Common.{◌≡◌, ◌++◌, arith, length, ap, sym, subst, ◌∙◌}
use Rattle.outcome_book.specs.Gathered.{Gathered}
use Rattle.outcome_book.specs.Placed.{those_there}
use Rattle.outcome_book.specs.Union.{AreById}
use Rattle.outcome_book.proofs.Tables.{few_there, rising_there}
use Rattle.outcome_book.proofs.gathering.Gathering.copy_into.Goals as goal

pub returns-clause-few : goal.returns-clause-few
returns-clause-few c =
    let is : c.append_all.new.out.items ≡ those_there c.self.inside.places.items =
    c.append_all.ensures.items ∙ ap (λ xs. xs ++ those_there c.deref.result.now) c.clear.ensures.items ∙ ap those_there c.deref.ensures.value in
    omega (arith, ap length is, few_there c.self.inside.places.items, ap (λ (g : Gathered). g.total) c.self.view_is)

pub returns-clause-rising : goal.returns-clause-rising
returns-clause-rising c =
    let is : c.append_all.new.out.items ≡ those_there c.self.inside.places.items =
    c.append_all.ensures.items ∙ ap (λ xs. xs ++ those_there c.deref.result.now) c.clear.ensures.items ∙ ap those_there c.deref.ensures.value in
    subst AreById (sym is) (rising_there 0 c.self.inside.places.items c.self.invariant.0)
