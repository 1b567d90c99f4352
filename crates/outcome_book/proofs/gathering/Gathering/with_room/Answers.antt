use Rattle.std.proofs.Common.{◌≡◌, Option, None, replicate, rules, arith}
use Rattle.std.proofs.lemmas.List.{length-replicate}
use Rattle.audit_model.specs.declared.outcome.Outcome.{Outcome}
use Rattle.outcome_book.proofs.Tables.{none_there, placed_none}
use Rattle.outcome_book.proofs.gathering.Gathering.with_room.Goals as goal

pub invariant_of-result : goal.invariant_of-result
invariant_of-result c =
    let places : c.in_ok-vec.field-0.items ≡ replicate c.args.total None = c.in_ok-vec.ensures.items_if_clones_equal (λ y h. search rules) in
    rw places (placed_none c.args.total, omega (arith, length-replicate {A = Option Outcome} c.args.total None, c.requires))

pub returns-clause-empty : goal.returns-clause-empty
returns-clause-empty c =
    let places : c.in_ok-vec.field-0.items ≡ replicate c.args.total None = c.in_ok-vec.ensures.items_if_clones_equal (λ y h. search rules) in
    rw places (none_there c.args.total)
