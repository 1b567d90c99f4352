use Rattle.std.proofs.Common.{◌<◌, ap, inl, inr, arith}
use Rattle.std.proofs.lemmas.Bool.{cases_eq}
use Rattle.audit_model.specs.Trajectory.{in_tail, value_at}
use Rattle.sequential_test.specs.Ranks.{tails_below}
use Rattle.sequential_test.proofs.Ranks.{ranked_none}
use Rattle.sequential_test.proofs.settle.tail_place.Goals as goal

pub loop-place-init : goal.loop-place-init
loop-place-init c =
    let none = ranked_none c.args.test.walks (λ o. in_tail c.args.test.tail (value_at o c.args.test.place) c.args.test.start) c.args.posted.now in
    let some : 0 < c.args.known = elim (cases_eq c.args.known 0) [
      | inl e ↦
          let same = ap (tails_below c.args.test.walks c.args.test.place c.args.test.tail c.args.test.start c.args.posted.now) e in
          absurd (omega (arith, none, same, c.requires.reached, c.requires.some))
      | inr off ↦ omega arith
    ] in
    record {
      below = some;
      within = omega arith;
      few = omega (arith, none, c.requires.some);
      reached = c.requires.reached;
    }
