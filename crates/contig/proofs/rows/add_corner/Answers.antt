use Rattle.std.proofs.Common.{◌≡◌, ℕ, ◌<◌, [], List, get_or, length, ap, subst, arith}
use Rattle.contig.specs.declared.corner.Corner.{Corner}
use Rattle.contig.proofs.Adding.{one_more}
use Rattle.contig.proofs.Counting.{row_short}
use Rattle.contig.proofs.rows.add_corner.Goals as goal

pub returns-clause-added : goal.returns-clause-added
returns-clause-added c corners h =
    let row : c.neighbours-row.result.now ≡ get_or c.args.graph.now.neighbours c.args.unit [] = c.neighbours-row.ensures.list in
    let corner : Corner = record { one = c.place_of.result; other = c.place_of-2.result; far = c.args.opposite.0; further = c.args.opposite.1 } in
    one_more c.args.graph.now corners c.args.rows.now _ c.args.unit corner c.args.one c.args.other
    c.requires.units.0 (record { one = subst (λ (xs : List ℕ). c.place_of.result < length xs) row c.place_of.ensures.within; other = subst (λ (xs : List ℕ). c.place_of-2.result < length xs) row c.place_of-2.ensures.within; far = c.requires.units.1; further = c.requires.units.2 })
    (subst (λ (xs : List ℕ). get_or xs c.place_of.result 0 ≡ c.args.one) row c.place_of.ensures.there)
    (subst (λ (xs : List ℕ). get_or xs c.place_of-2.result 0 ≡ c.args.other) row c.place_of-2.ensures.there)
    c.in_ok-push.ensures.ok h

pub overflow_cast-corner : goal.overflow_cast-corner
overflow_cast-corner c =
    let short = row_short c.args.graph.now c.args.unit c.neighbours-row.ensures.sound in
    let same = ap (length {A = ℕ}) c.neighbours-row.ensures.list in
    omega (arith, short, same, c.neighbours-row.ensures.few, c.place_of.ensures.within)

pub overflow_cast-corner-2 : goal.overflow_cast-corner-2
overflow_cast-corner-2 c =
    let short = row_short c.args.graph.now c.args.unit c.neighbours-row.ensures.sound in
    let same = ap (length {A = ℕ}) c.neighbours-row.ensures.list in
    omega (arith, short, same, c.neighbours-row.ensures.few, c.place_of-2.ensures.within)
