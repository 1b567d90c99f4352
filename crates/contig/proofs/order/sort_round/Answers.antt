use Rattle.std.proofs.Common.{ℕ, ◌<◌, List, length, set, sym, ap, ◌∙◌, subst, arith, length-set}
use Rattle.contig.specs.declared.sector.Sector.{Sector}
use Rattle.contig.specs.Order.{AreUnfaced, sector_at}
use Rattle.contig.proofs.Seating.{exchanged}
use Rattle.contig.proofs.order.sort_round.Goals as goal

pub loop-place-preserved : goal.loop-place-preserved
loop-place-preserved c =
    let old : List Sector = c.loop-place.sectors.items in
    let one : ℕ = c.loop-place.place in
    let other : ℕ = c.next_place-from.result in
    let l1 : one < length old = omega (arith, c.loop-place-test.true, c.len-count.ensures, c.args.sectors.now.ok.0, c.loop-place.invariant.width) in
    let l2 : other < length old = subst (λ (t : List Sector). other < length t) c.deref.ensures.value c.next_place-from.ensures in
    record {
      unfaced = subst (λ (t : List Sector). AreUnfaced c.args.graph.now c.args.row.now t) (sym c.exchange.ensures)
          (exchanged old one other l1 l2 c.args.graph.now c.args.row.now c.loop-place.invariant.unfaced);
      width = ap (length {A = Sector}) c.exchange.ensures ∙ length-set (set old one (sector_at old other)) other (sector_at old one)
          ∙ length-set old one (sector_at old other) ∙ c.loop-place.invariant.width;
    }
