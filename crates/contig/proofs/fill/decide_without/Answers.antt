use Rattle.std.proofs.Common.{◌<◌, ℕ, Bool, Option, List, set, sym, subst}
use Rattle.std.specs.Prelude.{◌↔◌, ⊤, IsTrue, MatchOption}
use Rattle.std.proofs.lemmas.Bool.{both_ways, false≢true}
use Rattle.audit_model.specs.Local.{MayLeave}
use Rattle.contig.proofs.Filling.{IsFilled, bare_by, filled_may}
use Rattle.contig.proofs.fill.decide_without.Goals as goal

pub returns-in-Some-false-clause-observed : goal.returns-in-Some-false-clause-observed
returns-in-Some-false-clause-observed c =
    let g = c.args.graph.now in
    let full : List ℕ = c.args.plan.now in
    let u : ℕ = c.args.unit in
    let f : ℕ = c.args.filler.0 in
    let d : ℕ = c.args.filler.1 in
    let bare : List ℕ = set full f d in
    let lf = subst (λ t. f < t) (sym c.requires.width) c.requires.filler.0 in
    let s : IsFilled full bare u f = bare_by full u f d lf c.requires.filler.1 c.requires.inside c.requires.outside in
    let told : IsTrue c.in-Some-false.field-0 ↔ MayLeave g full u =
    subst (λ (o : Option Bool). MatchOption o ⊤ (λ may. IsTrue may ↔ MayLeave g full u)) c.in-Some-false.is c.requires.filled in
    let beside = c.requires.beside in (
      λ e. absurd (false≢true e),
      λ may. absurd (both_ways c.in-Some-false.field-0 c.in-Some-false.field-0-test
          (told.1 (filled_may g full bare u f s c.requires.sound beside.0 c.requires.filler.0 beside.1 beside.2 may))),
    )
