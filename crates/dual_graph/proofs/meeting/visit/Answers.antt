use Rattle.std.proofs.Common.{ℕ, ◌<◌, List, length, get_or, sym, subst, ◌∙◌}
use Rattle.audit_model.proofs.ListFacts.{at_has}
use Rattle.dual_graph.proofs.TwoSearches.{added_more, met_more, apart_more}
use Rattle.dual_graph.proofs.meeting.visit.Goals as goal

pub neighbours-other-items-requires : goal.neighbours-other-items-requires
neighbours-other-items-requires g c =
    subst (λ t. t < c.args.within.now.graph.now.units) (sym c.at.ensures)
    (subst (λ t. get_or c.args.side.now.items c.args.place 0 < t) c.requires.side
    (c.requires.marked.below (get_or c.args.side.now.items c.args.place 0) (at_has c.args.side.now.items c.args.place c.requires.place)))

pub loop-other-preserved : goal.loop-other-preserved
loop-other-preserved g c =
    let row : List ℕ = c.neighbours-other-items.result.now in
    let i : ℕ = c.loop-other.other-index in
    let lt : i < length row = c.loop-other-test.true in
    let others : List ℕ = c.args.other_side.now.items in
    record {
      units = c.mark_if.ensures.units ∙ c.loop-other.invariant.units;
      marked = c.mark_if.ensures.sound;
      added = added_more row i lt c.args.within.now.graph.now (g.I.Inside.inside c.args.within.now.set.now) c.args.side.now.items c.loop-other.side c.mark_if.new.self
          c.holds.result c.has.result c.loop-other.invariant.added (c.neighbours-other-items.ensures.below i 0 lt) c.holds.ensures c.has.ensures
          c.mark_if.ensures.items c.mark_if.ensures.unchanged;
      met = met_more row i lt others c.loop-other.met c.has-met.result c.has-met.ensures c.loop-other.invariant.met;
      none = apart_more row i lt others c.loop-other.met c.has-met.result c.has-met.ensures c.loop-other.invariant.none;
    }
