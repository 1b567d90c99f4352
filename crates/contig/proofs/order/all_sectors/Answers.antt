use Rattle.std.proofs.Common.{◌≡◌, ℕ, ◌+◌, ◌<◌, List, [], ◌∷◌, ◌++◌, length, get_or, sym, ap, ◌∙◌, subst, inl, inr, arith}
use Rattle.std.specs.Prelude.{All}
use Rattle.std.proofs.lemmas.Bool.{cases_eq}
use Rattle.std.proofs.lemmas.List.{get_or_append_left, get_or_push, length_push}
use Rattle.contig.specs.declared.corner.Corner.{Corner}
use Rattle.contig.specs.declared.sector.Sector.{Sector}
use Rattle.contig.specs.Corners.{IsOnRow}
use Rattle.contig.specs.Order.{HasOrder}
use Rattle.contig.proofs.Merging.{row}
use Rattle.contig.proofs.order.all_sectors.Goals as goal

pub set_sectors-requires-clause-placed : goal.set_sectors-requires-clause-placed
set_sectors-requires-clause-placed c =
    let u : ℕ = c.loop-unit.unit in
    let lu : u < c.args.graph.now.units = omega (arith, c.loop-unit-test.true, c.units-unit-end.ensures.units) in
    subst (λ (t : List Corner). All (IsOnRow c.args.graph.now (row c.args.graph.now u)) t)
    (sym c.at.ensures)
    (c.requires.placed u lu)

pub loop-unit-preserved : goal.loop-unit-preserved
loop-unit-preserved c =
    let g = c.args.graph.now in
    let rows : List (List Corner) = c.args.rows.now in
    let u : ℕ = c.loop-unit.unit in
    let lu : u < g.units = omega (arith, c.loop-unit-test.true, c.units-unit-end.ensures.units) in
    let old : List (List Sector) = c.loop-unit.all in
    let new : List (List Sector) = c.push.new.self in
    let own : List Sector = c.deref.result.now in
    let corners_are = c.at.ensures in
    let items : new ≡ old ++ own ∷ [] = c.in_ok-push.ensures in
    let long : length old ≡ u = c.loop-unit.invariant.width in
    record {
      width = ap (length {A = List Sector}) items ∙ length_push old own ∙ ap (λ t. t + 1) long;
      each = λ v l. elim (cases_eq v u) [
        | inl e ↦ subst (λ t. HasOrder g t (get_or rows t []) (get_or new t [])) (sym e)
            (subst (λ (xs : List Sector). HasOrder g u (get_or rows u []) xs) (sym (ap (λ (t : List (List Sector)). get_or t u []) items ∙ get_or_push old own [] u long))
            (subst (λ (xs : List Corner). HasOrder g u xs own) corners_are
            (subst (λ (xs : List Sector). HasOrder g u c.at.result.now xs) (sym c.deref.ensures.value) c.in_ok-set_sectors.ensures)))
        | inr off ↦
            let lv : v < u = omega (arith, l, off) in
            subst (λ (xs : List Sector). HasOrder g v (get_or rows v []) xs)
            (sym (ap (λ (t : List (List Sector)). get_or t v []) items ∙ get_or_append_left old (own ∷ []) [] v (omega (arith, lv, long)))) (c.loop-unit.invariant.each v lv)
      ];
    }
