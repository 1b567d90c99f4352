use Rattle.std.proofs.Common.{ℕ, List, set, sym, ◌∙◌, subst}
use Rattle.std.proofs.lemmas.Bool.{both_ways, false≢true}
use Rattle.audit_model.specs.Job.{Job}
use Rattle.audit_model.specs.JobOf.{IsJob}
use Rattle.audit_model.specs.Plan.{IsLegal}
use Rattle.flip_kernel.proofs.Beside.{open_elsewhere}
use Rattle.flip_kernel.proofs.Moves.{is_move, legal_allows, move_leaves}
use Rattle.flip_kernel.proofs.board.Board.decide_without_search.Goals as goal

pub returns-in-Some-true-clause-decided : goal.returns-in-Some-true-clause-decided
returns-in-Some-true-clause-decided g c =
    let flip = c.args.flip in
    let job = flip.job.now in
    let plan : List ℕ = c.args.self.now.plan in
    let after : List ℕ = set plan flip.unit flip.district in
    let legal : IsLegal job plan = subst (λ (j : Job). IsLegal j plan) c.requires.made c.in-Some-true.ensures.legal in
    let sound : IsJob job = subst IsJob c.requires.made c.in-Some-true.ensures.sound in
    let off = open_elsewhere job.graph plan flip.unit flip.district c.requires.beside in
    let keeps = c.requires.kept in (
      λ yes. is_move job plan flip.unit flip.district sound legal flip.unit_below flip.district_below off c.requires.beside keeps
          (sym c.allows.ensures.allows ∙ yes) (c.in-Some-true.ensures.observed.0 c.in-Some-true.field-0-test),
      λ move. c.allows.ensures.allows ∙ legal_allows job after move.legal,
    )

pub returns-in-Some-false-clause-decided : goal.returns-in-Some-false-clause-decided
returns-in-Some-false-clause-decided g c =
    let flip = c.args.flip in
    let job = flip.job.now in
    let plan : List ℕ = c.args.self.now.plan in
    let legal : IsLegal job plan = subst (λ (j : Job). IsLegal j plan) c.requires.made c.in-Some-false.ensures.legal in
    let sound : IsJob job = subst IsJob c.requires.made c.in-Some-false.ensures.sound in
    let off = open_elsewhere job.graph plan flip.unit flip.district c.requires.beside in (
      λ yes. absurd (false≢true yes),
      λ move. absurd (both_ways c.in-Some-false.field-0 c.in-Some-false.field-0-test
          (c.in-Some-false.ensures.observed.1 (move_leaves job plan flip.unit flip.district sound legal flip.unit_below flip.district_below off move))),
    )

pub returns-then-allows-clause-decided : goal.returns-then-allows-clause-decided
returns-then-allows-clause-decided g c =
    let flip = c.args.flip in
    let job = flip.job.now in
    let plan : List ℕ = c.args.self.now.plan in
    let after : List ℕ = set plan flip.unit flip.district in
    let legal : IsLegal job plan = subst (λ (j : Job). IsLegal j plan) c.requires.made c.in-None.ensures.legal in
    let sound : IsJob job = subst IsJob c.requires.made c.in-None.ensures.sound in
    let off = open_elsewhere job.graph plan flip.unit flip.district c.requires.beside in
    let keeps = c.requires.kept in
    let meets = sym c.allows-in-None.ensures.allows ∙ c.if-allows.true in (
      λ may. is_move job plan flip.unit flip.district sound legal flip.unit_below flip.district_below off c.requires.beside keeps meets may,
      λ move. move_leaves job plan flip.unit flip.district sound legal flip.unit_below flip.district_below off move,
    )

pub returns-else-allows-clause-decided : goal.returns-else-allows-clause-decided
returns-else-allows-clause-decided g c =
    let flip = c.args.flip in
    let job = flip.job.now in
    let after : List ℕ = set c.args.self.now.plan flip.unit flip.district in (
      λ yes. absurd (false≢true yes),
      λ move. absurd (both_ways c.allows-in-None.result c.if-allows.false
          (c.allows-in-None.ensures.allows ∙ legal_allows job after move.legal)),
    )
