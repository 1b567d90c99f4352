use Rattle.std.proofs.Common.{◌≡◌, ℕ, ◌+◌, ◌<◌, ◌≤◌, length, get_or, List, refl, arith, sym, ap, subst, ◌∙◌}
use Rattle.std.proofs.lemmas.Bool.{false≢true}
use Rattle.audit_model.specs.Local.{stays_behind}
use Rattle.audit_model.proofs.ListFacts.{at_has}
use Rattle.dual_graph.specs.Marked.{Marked}
use Rattle.dual_graph.proofs.Marking.{items_le}
use Rattle.contig.proofs.Growing.{grow_more, grow_parted, part_done}
use Rattle.contig.proofs.Ending.{all_leave}
use Rattle.contig.proofs.Places.{own_at}
use Rattle.contig.proofs.parts.meet.Goals as goal

pub loop-at-init : goal.loop-at-init
loop-at-init g c =
    let s = c.requires.seeded in
    let labels : List ℕ = c.args.marks.now.labels in
    let items : List ℕ = c.args.marks.now.items in
    record {
      growing = record {
        units = s.units;
        marked = s.marked;
        joined = c.requires.joined;
        small = s.small;
        seeds = s.seeds;
        closed = λ k l. absurd (omega (arith, l));
        ended = λ k l.
            let label : ℕ = get_or labels (get_or items k 0) 0 in
            omega (arith, s.order k l, own_at label (omega (arith, s.small (get_or items k 0), s.few)));
        parted = c.requires.parted;
        widths = (c.told-roots, refl);
        bound = omega arith;
      };
      complete = s.complete;
    }

pub joins_all-requires-clause-unit : goal.joins_all-requires-clause-unit
joins_all-requires-clause-unit g c =
    let m : Marked = c.loop-at.marks in
    let s = c.loop-at.invariant.growing in
    let lt : c.loop-at.at < length m.items = omega (arith, c.loop-at-test.true, c.count.ensures) in
    subst (λ t. t < c.args.leaving.graph.now.units) (sym c.at-unit.ensures)
    (subst (λ t. get_or m.items c.loop-at.at 0 < t) s.units (s.marked.below (get_or m.items c.loop-at.at 0) (at_has m.items c.loop-at.at lt)))

pub joins_all-requires-clause-found : goal.joins_all-requires-clause-found
joins_all-requires-clause-found g c =
    let s = c.loop-at.invariant.growing in
    record { units = s.units; marked = s.marked; small = λ v. omega (arith, s.small v, c.requires.seeded.few); joined = s.joined }

pub joins_all-requires-clause-label : goal.joins_all-requires-clause-label
joins_all-requires-clause-label g c =
    let m : Marked = c.loop-at.marks in
    let s = c.loop-at.invariant.growing in
    let lt : c.loop-at.at < length m.items = omega (arith, c.loop-at-test.true, c.count.ensures) in
    let is : c.label-label.result ≡ get_or m.labels (get_or m.items c.loop-at.at 0) 0 = c.label-label.ensures ∙ ap (λ (t : ℕ). get_or m.labels t 0) c.at-unit.ensures in
    let pos : 0 < get_or m.labels (get_or m.items c.loop-at.at 0) 0 = s.marked.labelled (get_or m.items c.loop-at.at 0) (at_has m.items c.loop-at.at lt) in
    (omega (arith, is, pos), sym c.label-label.ensures)

pub joins_all-requires-clause-parted : goal.joins_all-requires-clause-parted
joins_all-requires-clause-parted g c = c.loop-at.invariant.growing.parted

pub returns-then-joins_all-clause-leaves : goal.returns-then-joins_all-clause-leaves
returns-then-joins_all-clause-leaves g c connected =
    let s = c.loop-at.invariant.growing in
    let le : c.label-label.result ≤ c.args.last = omega (arith, c.label-label.ensures, s.small c.at-unit.result) in (
      λ _. all_leave c.args.leaving.graph.now c.args.leaving.plan.now c.args.leaving.unit c.args.leaving.sound c.args.leaving.within connected c.args.last c.label-label.result
          c.loop-at.marks c.joins_all.new.marks _ c.loop-at.roots c.joins_all.new.roots c.loop-at.ends c.loop-at.at s le c.requires.some
          c.loop-at.invariant.complete c.joins_all.ensures.spread (c.joins_all.ensures.yes c.if-joins_all.true),
      λ _. refl,
    )

pub loop-at-smaller : goal.loop-at-smaller
loop-at-smaller g c =
    let s = c.loop-at.invariant.growing in
    omega (arith, c.loop-at-test.true, c.count.ensures, items_le c.loop-at.marks s.marked, s.units)

-- the numbers of marks, as the calls gave them
raised : (before count m n end : ℕ) → before ≡ m → count ≡ n → (before < count → count ≤ end) → m < n → n ≤ end
raised before count m n end eb ec h lt = let more = h (omega (arith, eb, ec, lt)) in omega (arith, more, ec)

pub loop-at-preserved : goal.loop-at-preserved
loop-at-preserved g c =
    let s = c.loop-at.invariant.growing in
    let lt : c.loop-at.at < length c.loop-at.marks.items = omega (arith, c.loop-at-test.true, c.count.ensures) in
    let le : c.label-label.result ≤ c.args.last = omega (arith, c.label-label.ensures, s.small c.at-unit.result) in
    record {
      growing = grow_more c.args.leaving.graph.now (stays_behind c.args.leaving.plan.now c.args.leaving.unit) c.args.last c.loop-at.marks c.loop-at.roots c.loop-at.ends c.loop-at.at s c.requires.seeded.few
          c.label-label.result c.at-unit.result c.joins_all.new.marks c.joins_all.new.roots c.raise_end.new.ends le lt (sym c.label-label.ensures) c.at-unit.ensures c.joins_all.ensures.spread
          (c.joins_all.ensures.no c.if-joins_all.false)
          c.raise_end.ensures.others c.raise_end.ensures.rising (raised _ _ _ _ _ c.count-before.ensures c.count-in-loop-at.ensures c.raise_end.ensures.raised);
      complete = λ v i. let p = c.loop-at.invariant.complete v i in omega (arith, p, c.joins_all.ensures.spread.kept v p);
    }

pub returns-then-not-goes_on-clause-leaves : goal.returns-then-not-goes_on-clause-leaves
returns-then-not-goes_on-clause-leaves g c connected =
    let s = c.loop-at.invariant.growing in
    let m : Marked = c.loop-at.marks in
    let lt : c.loop-at.at < length m.items = omega (arith, c.loop-at-test.true, c.count.ensures) in
    let le : c.label-label.result ≤ c.args.last = omega (arith, c.label-label.ensures, s.small c.at-unit.result) in
    let is : c.label-label.result ≡ get_or m.labels (get_or m.items c.loop-at.at 0) 0 = c.label-label.ensures ∙ ap (λ (t : ℕ). get_or m.labels t 0) c.at-unit.ensures in
    let pos : 0 < c.label-label.result = omega (arith, is, s.marked.labelled (get_or m.items c.loop-at.at 0) (at_has m.items c.loop-at.at lt)) in
    let after = grow_more c.args.leaving.graph.now (stays_behind c.args.leaving.plan.now c.args.leaving.unit) c.args.last c.loop-at.marks c.loop-at.roots c.loop-at.ends c.loop-at.at s c.requires.seeded.few
    c.label-label.result c.at-unit.result c.joins_all.new.marks c.joins_all.new.roots c.raise_end.new.ends le lt (sym c.label-label.ensures) c.at-unit.ensures c.joins_all.ensures.spread
    (c.joins_all.ensures.no c.if-joins_all.false)
    c.raise_end.ensures.others c.raise_end.ensures.rising (raised _ _ _ _ _ c.count-before.ensures c.count-in-loop-at.ensures c.raise_end.ensures.raised) in
    let done = part_done c.args.leaving.graph.now (stays_behind c.args.leaving.plan.now c.args.leaving.unit) c.args.last c.joins_all.new.marks c.joins_all.new.roots c.raise_end.new.ends (c.loop-at.at + 1) after c.requires.seeded.few
    c.label-label.result (c.goes_on.ensures c.if-not-goes_on.true) in (
      λ h. absurd (false≢true h),
      λ may. absurd (grow_parted c.args.leaving.graph.now (stays_behind c.args.leaving.plan.now c.args.leaving.unit) c.args.last c.joins_all.new.marks c.joins_all.new.roots c.raise_end.new.ends (c.loop-at.at + 1) after c.requires.seeded.few
          c.label-label.result pos le done may),
    )

pub returns-clause-leaves : goal.returns-clause-leaves
returns-clause-leaves g c connected =
    let s = c.loop-at.invariant.growing in (
      λ h. absurd (false≢true h),
      λ may. absurd (grow_parted c.args.leaving.graph.now (stays_behind c.args.leaving.plan.now c.args.leaving.unit) c.args.last c.loop-at.marks c.loop-at.roots c.loop-at.ends c.loop-at.at s c.requires.seeded.few
          1 (omega arith) c.requires.some (λ k l _. omega (arith, l, c.loop-at-test.false, c.count.ensures)) may),
    )
