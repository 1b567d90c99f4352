use Rattle.std.proofs.Common.{ℕ, ◌+◌, ap, ◌∙◌, subst, arith}
use Rattle.chacha_draws.specs.DrawPlace.{DrawPlace}
use Rattle.flip_kernel.specs.ChainState.{ChainState}
use Rattle.walker.specs.Walked.{IsWalked}
use Rattle.walker.proofs.Stepping.{goes_nowhere, goes_farther, drawn_none, drawn_more, byte_cond, byte_le}
use Rattle.walker.proofs.steps.walk_on.Goals as goal

pub loop-place-init : goal.loop-place-init
loop-place-init g c = record {
  made = c.requires.made;
  few = omega arith;
  drawn = drawn_none c.args.draws.now;
  walked = goes_nowhere c.args.job.now c.args.state.now c.args.draws.now;
}

pub step-requires-clause-place : goal.step-requires-clause-place
step-requires-clause-place g c = omega (arith, ap (λ (p : DrawPlace). p.place) c.loop-place.invariant.drawn, c.loop-place-test.true, c.requires.few)

pub overflow_add-moved : goal.overflow_add-moved
overflow_add-moved g c = omega (arith, c.loop-place.invariant.few, c.from-moved.ensures, byte_le c.step.result, c.loop-place-test.true)

pub loop-place-preserved : goal.loop-place-preserved
loop-place-preserved g c = record {
  made = ap (λ (h : ChainState). h.job) c.step.ensures.plan ∙ c.loop-place.invariant.made;
  few = omega (arith, c.loop-place.invariant.few, c.from-moved.ensures, byte_le c.step.result);
  drawn = drawn_more c.args.draws.now c.loop-place.draws c.step.new.draws c.loop-place.place c.loop-place.invariant.drawn c.step.ensures.draws;
  walked = goes_farther c.args.job.now c.args.state.now c.args.draws.now c.loop-place.place c.loop-place.state c.step.new.state c.loop-place.draws c.step.new.draws
      c.loop-place.moved (c.loop-place.moved + c.from-moved.result) c.step.result c.loop-place.invariant.walked c.step.ensures.plan c.step.ensures.draws c.step.ensures.moved
      (ap (λ (n : ℕ). c.loop-place.moved + n) (c.from-moved.ensures ∙ byte_cond c.step.result));
}

pub returns-clause-draws : goal.returns-clause-draws
returns-clause-draws g c =
    c.loop-place.invariant.drawn
    ∙ ap (λ (n : ℕ). (let p : DrawPlace = record { key = c.args.draws.now.key; stream = c.args.draws.now.stream; place = c.args.draws.now.place + n } in p))
    (omega (arith, c.loop-place-test.false, c.loop-place.auto.place-end))

pub returns-clause-walked : goal.returns-clause-walked
returns-clause-walked g c = λ key stream plan place moved walked.
    subst (λ (n : ℕ). IsWalked c.args.job.now key stream plan (place + n) c.loop-place.state c.loop-place.draws (moved + c.loop-place.moved))
    (omega (arith, c.loop-place-test.false, c.loop-place.auto.place-end))
    (c.loop-place.invariant.walked key stream plan place moved walked)
