use Rattle.std.proofs.Common.{get_or, sym, arith}
use Rattle.std.specs.Prelude.{◌==◌}
use Rattle.std.proofs.lemmas.Bool.{eq-eqb, ne_eqb}
use Rattle.std.proofs.lemmas.List.Sums.{position_or_len_is}
use Rattle.audit_model.proofs.ListFacts.{has_at}
use Rattle.contig.proofs.rows.place_of.Goals as goal

pub returns-clause-there : goal.returns-clause-there
returns-clause-there c =
    let place = has_at c.args.row.now c.args.other c.requires in
    absurd (c.loop-place.invariant place.0 (omega (arith, place.1, c.loop-place-test.false, c.loop-place.auto.place-end)) place.2)

pub returns-then-row-place-clause-first : goal.returns-then-row-place-clause-first
returns-then-row-place-clause-first c =
    sym (position_or_len_is (λ m. m == c.args.other) c.args.row.now c.loop-place.place 0 (omega (arith, c.loop-place-test.true, c.loop-place.auto.place-end))
    (λ k l. ne_eqb (get_or c.args.row.now k 0) c.args.other (c.loop-place.invariant k l))
    (λ l. eq-eqb (get_or c.args.row.now c.loop-place.place 0) c.args.other c.if-row-place.true))

pub returns-clause-first : goal.returns-clause-first
returns-clause-first c =
    let place = has_at c.args.row.now c.args.other c.requires in
    absurd (c.loop-place.invariant place.0 (omega (arith, place.1, c.loop-place-test.false, c.loop-place.auto.place-end)) place.2)
