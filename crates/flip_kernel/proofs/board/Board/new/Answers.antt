use Rattle.std.proofs.Common.{ℕ, ◌*◌, sym, ap, ◌∙◌, arith}
use Rattle.flip_kernel.proofs.Holding.{some_units, up_to_date_for}
use Rattle.flip_kernel.proofs.board.Board.new.Goals as goal

pub of-requires-in-Ok-clause-units : goal.of-requires-in-Ok-clause-units
of-requires-in-Ok-clause-units c =
    let sound = c.units.ensures.sound in
    (omega (arith, some_units c.args.job.now sound, c.units.ensures.units), omega (arith, sound.within.input.units, c.units.ensures.units))

pub invariant_of-result : goal.invariant_of-result
invariant_of-result c =
    let job = c.args.job.now in
    up_to_date_for job c.of.result.value job.start c.in_ok-plan.plan c.in_ok-plan.sums c.in-Ok.marks.units c.in-Ok.open_pairs c.of-in-Ok.result
    c.limits-low.result.0 c.limits-low.result.1 c.in-Ok.faces c.in-Ok.counts c.in-Ok.near (sym c.of.ensures) (sym c.in_ok-plan.ensures.plan)
    (record {
      summed = c.in_ok-plan.ensures.summed;
      marked = c.in-Ok.ensures.marked;
      opened = c.in-Ok.ensures.opened;
      numbers = record {
        sound = c.units.ensures.sound;
        districts = c.of-in-Ok.ensures.districts ∙ c.districts.ensures.value;
        count = c.of-in-Ok.ensures.count ∙ ap (λ (n : ℕ). n * c.districts.result) c.units.ensures.units ∙ ap (λ (n : ℕ). job.graph.units * n) c.districts.ensures.value;
        blocks = c.of-in-Ok.ensures.blocks;
        least = ap (λ (p : ℕ × ℕ). p.0) c.limits-low.ensures;
        greatest = ap (λ (p : ℕ × ℕ). p.1) c.limits-low.ensures;
      };
      made = c.in-Ok.ensures.made;
      counts = c.in-Ok.ensures.counts;
      near = c.in-Ok.ensures.near;
    })
