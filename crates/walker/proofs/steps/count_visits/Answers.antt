use Rattle.std.proofs.Common.{ℕ, ◌+◌, Bool, refl, sym, ap, subst, ◌∙◌, arith}
use Rattle.audit_model.specs.declared.setting.Setting.{Setting}
use Rattle.chacha_draws.specs.DrawPlace.{DrawPlace}
use Rattle.audit_statement.specs.Draw.{draw}
use Rattle.walker.specs.Binned.{histogram_of_visits}
use Rattle.walker.specs.Track.{IsOnTrack}
use Rattle.walker.proofs.Flushing.{arrived, tails_fit, histogram_fits}
use Rattle.walker.proofs.Stepping.{visit_none}
use Rattle.walker.proofs.steps.count_visits.Goals as goal

pub turns-init : goal.turns-init
turns-init g c =
    let job = c.args.job.now in
    let draws = c.new.result in
    record {
      made = c.requires.made;
      few = omega arith;
      on = record {
        at = c.new.ensures.place;
        visited = c.requires.start ∙ sym (visit_none job (draw draws.key draws.stream) job.start);
        trail = c.new-2.ensures.trail (draw draws.key draws.stream);
      };
      same_key = c.new.ensures.key ∙ ap (λ (s : Setting). s.key) c.setting.ensures.value;
      same_stream = c.new.ensures.stream;
      asked = c.new-2.ensures.asked;
    }

pub turns-preserved : goal.turns-preserved
turns-preserved g c =
    let drawn = c.visit_block-place.ensures.draws in
    let so_far = c.turns.invariant in
    record {
      made = c.visit_block-place.ensures.made;
      few = omega (arith, c.visit_block-place.ensures.most, so_far.few);
      on = subst (λ (n : ℕ). IsOnTrack c.args.job.now c.visit_block-place.new.state.plan (n + c.visit_block-place.result) c.visit_block-place.new.track) so_far.on.at c.visit_block-place.ensures.on;
      same_key = ap (λ (d : DrawPlace). d.key) drawn ∙ so_far.same_key;
      same_stream = ap (λ (d : DrawPlace). d.stream) drawn ∙ so_far.same_stream;
      asked = c.visit_block-place.ensures.asked ∙ so_far.asked;
    }

pub visit_block-place-requires-clause-few : goal.visit_block-place-requires-clause-few
visit_block-place-requires-clause-few g c = omega (arith, c.turns.invariant.on.at, c.turns-test.true, c.requires.few)

pub visit_block-place-requires-clause-on : goal.visit_block-place-requires-clause-on
visit_block-place-requires-clause-on g c =
    subst (λ (n : ℕ). IsOnTrack c.args.job.now c.turns.state.plan n c.turns.track) (sym c.turns.invariant.on.at) c.turns.invariant.on

pub flush-requires-clause-tails : goal.flush-requires-clause-tails
flush-requires-clause-tails g c =
    let job = c.args.job.now in
    let so_far = c.turns.invariant in
    tails_fit job (draw job.setting.key c.args.course.stream) c.args.course.steps c.turns.track.trail
    (arrived job job.setting.key c.args.course.stream c.turns.place c.args.course.steps c.turns.track.draws c.turns.track.trail so_far.same_key so_far.same_stream
    (omega (arith, c.turns-test.false, c.turns.invariant.few)) so_far.on.trail) c.requires.few

pub flush-requires-clause-bins : goal.flush-requires-clause-bins
flush-requires-clause-bins g c =
    let job = c.args.job.now in
    let so_far = c.turns.invariant in
    histogram_fits job (draw job.setting.key c.args.course.stream) c.args.course.steps c.turns.track.trail
    (arrived job job.setting.key c.args.course.stream c.turns.place c.args.course.steps c.turns.track.draws c.turns.track.trail so_far.same_key so_far.same_stream
    (omega (arith, c.turns-test.false, c.turns.invariant.few)) so_far.on.trail) c.requires.few

pub returns-clause-moved : goal.returns-clause-moved
returns-clause-moved g c =
    let job = c.args.job.now in
    let so_far = c.turns.invariant in
    c.flush.ensures.moved
    ∙ (arrived job job.setting.key c.args.course.stream c.turns.place c.args.course.steps c.turns.track.draws c.turns.track.trail so_far.same_key so_far.same_stream
    (omega (arith, c.turns-test.false, c.turns.invariant.few)) so_far.on.trail).moved

pub returns-clause-counts : goal.returns-clause-counts
returns-clause-counts g c =
    let job = c.args.job.now in
    let so_far = c.turns.invariant in
    (c.flush.ensures.counted job (draw job.setting.key c.args.course.stream) c.args.course.steps
    (arrived job job.setting.key c.args.course.stream c.turns.place c.args.course.steps c.turns.track.draws c.turns.track.trail so_far.same_key so_far.same_stream
    (omega (arith, c.turns-test.false, c.turns.invariant.few)) so_far.on.trail) refl).counts

pub returns-clause-bins : goal.returns-clause-bins
returns-clause-bins g c =
    let job = c.args.job.now in
    let so_far = c.turns.invariant in
    (c.flush.ensures.counted job (draw job.setting.key c.args.course.stream) c.args.course.steps
    (arrived job job.setting.key c.args.course.stream c.turns.place c.args.course.steps c.turns.track.draws c.turns.track.trail so_far.same_key so_far.same_stream
    (omega (arith, c.turns-test.false, c.turns.invariant.few)) so_far.on.trail) refl).bins
    ∙ ap (λ (b : Bool). histogram_of_visits b job (draw job.setting.key c.args.course.stream) (c.args.course.steps + 1)) (c.flush.ensures.asked ∙ so_far.asked)
