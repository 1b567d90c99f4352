use Rattle.std.proofs.Common.{◌≡◌, ℕ, ◌+◌, ◌-◌, ◌*◌, ◌<◌, ◌≤◌, ◌^◌, slice_index, sym, ap, subst, ◌∙◌, arith}
use Rattle.audit_statement.specs.Draw.{draw}
use Rattle.flip_kernel.specs.ChainState.{ChainState}
use Rattle.walker.specs.Trail.{IsCounted, IsTrail}
use Rattle.walker.proofs.Flushing.{tails_fit, histogram_fits, moved_le, changed_is, before_last, visited_new, stayed_last, went_last}
use Rattle.walker.proofs.steps.visit_next.Goals as goal

pub returns-then-not-changed-clause-visited : goal.returns-then-not-changed-clause-visited
returns-then-not-changed-clause-visited g c =
    let job = c.args.job.now in
    let d = c.args.draws.now in
    visited_new job (draw d.key d.stream) c.args.ready.now c.args.state.now.plan c.try_flips-after.new.state.plan d.place c.args.place c.try_flips-after.result.0 c.args.trail.now
    c.try_flips-after.ensures.some c.try_flips-after.ensures.few c.requires.ready c.requires.visited c.requires.trail c.try_flips-after.ensures.closed
    (ap (λ (h : ChainState). h.plan) c.try_flips-after.ensures.next)

pub returns-then-not-changed-clause-trail : goal.returns-then-not-changed-clause-trail
returns-then-not-changed-clause-trail g c =
    let job = c.args.job.now in
    let d = c.args.draws.now in
    stayed_last job (draw d.key d.stream) c.args.ready.now c.args.state.now.plan c.try_flips-after.new.state.plan d.place c.args.place c.try_flips-after.result.0 c.args.trail.now
    c.try_flips-after.ensures.some c.try_flips-after.ensures.few c.requires.ready c.requires.visited c.requires.trail c.try_flips-after.ensures.closed
    (ap (λ (h : ChainState). h.plan) c.try_flips-after.ensures.next) c.try_flips-after.result.1
    (changed_is c.try_flips-after.result.1 c.args.state.now.plan c.try_flips-after.new.state.plan c.try_flips-after.ensures.unchanged) c.if-not-changed.true

pub flush-requires-clause-tails : goal.flush-requires-clause-tails
flush-requires-clause-tails g c k l =
    let job = c.args.job.now in
    let d = c.args.draws.now in
    let t = c.args.trail.now in
    let after = c.try_flips-after.result.0 in
    let last = d.place + (after - 1) in
    let trail : IsTrail job (draw d.key d.stream) last t = (before_last job (draw d.key d.stream) c.args.ready.now c.args.state.now.plan c.try_flips-after.new.state.plan d.place c.args.place c.try_flips-after.result.0 c.args.trail.now
    c.try_flips-after.ensures.some c.try_flips-after.ensures.few c.requires.ready c.requires.visited c.requires.trail c.try_flips-after.ensures.closed
    (ap (λ (h : ChainState). h.plan) c.try_flips-after.ensures.next)).1 in
    let visits_is : c.place.result + after ≡ last + 1 = omega (arith, c.place.ensures, c.try_flips-after.ensures.some) in
    let small : last ≤ 10 ^ 9 = omega (arith, c.requires.few, c.try_flips-after.ensures.few, c.try_flips-after.ensures.some) in
    subst (λ (n : ℕ). slice_index t.tally.counts k + (n - t.visits) * slice_index t.tally.inside k < 2 ^ 32) (sym visits_is)
    (tails_fit job (draw d.key d.stream) last t trail small k l)

pub flush-requires-clause-bins : goal.flush-requires-clause-bins
flush-requires-clause-bins g c asked =
    let job = c.args.job.now in
    let d = c.args.draws.now in
    let t = c.args.trail.now in
    let after = c.try_flips-after.result.0 in
    let last = d.place + (after - 1) in
    let trail : IsTrail job (draw d.key d.stream) last t = (before_last job (draw d.key d.stream) c.args.ready.now c.args.state.now.plan c.try_flips-after.new.state.plan d.place c.args.place c.try_flips-after.result.0 c.args.trail.now
    c.try_flips-after.ensures.some c.try_flips-after.ensures.few c.requires.ready c.requires.visited c.requires.trail c.try_flips-after.ensures.closed
    (ap (λ (h : ChainState). h.plan) c.try_flips-after.ensures.next)).1 in
    let visits_is : c.place.result + after ≡ last + 1 = omega (arith, c.place.ensures, c.try_flips-after.ensures.some) in
    let small : last ≤ 10 ^ 9 = omega (arith, c.requires.few, c.try_flips-after.ensures.few, c.try_flips-after.ensures.some) in
    subst (λ (n : ℕ). slice_index t.bins.counts t.bins.bin + (n - t.visits) < 2 ^ 32) (sym visits_is)
    (histogram_fits job (draw d.key d.stream) last t trail small asked)

pub update-requires-clause-few : goal.update-requires-clause-few
update-requires-clause-few g c =
    let job = c.args.job.now in
    let d = c.args.draws.now in
    let t = c.args.trail.now in
    let after = c.try_flips-after.result.0 in
    let last = d.place + (after - 1) in
    let trail : IsTrail job (draw d.key d.stream) last t = (before_last job (draw d.key d.stream) c.args.ready.now c.args.state.now.plan c.try_flips-after.new.state.plan d.place c.args.place c.try_flips-after.result.0 c.args.trail.now
    c.try_flips-after.ensures.some c.try_flips-after.ensures.few c.requires.ready c.requires.visited c.requires.trail c.try_flips-after.ensures.closed
    (ap (λ (h : ChainState). h.plan) c.try_flips-after.ensures.next)).1 in
    let small : last < 10 ^ 9 = omega (arith, c.requires.few, c.try_flips-after.ensures.few, c.try_flips-after.ensures.some) in
    omega (arith, c.flush.ensures.moved, moved_le job (draw d.key d.stream) last t trail, small)

pub returns-clause-visited : goal.returns-clause-visited
returns-clause-visited g c =
    let job = c.args.job.now in
    let d = c.args.draws.now in
    visited_new job (draw d.key d.stream) c.args.ready.now c.args.state.now.plan c.try_flips-after.new.state.plan d.place c.args.place c.try_flips-after.result.0 c.args.trail.now
    c.try_flips-after.ensures.some c.try_flips-after.ensures.few c.requires.ready c.requires.visited c.requires.trail c.try_flips-after.ensures.closed
    (ap (λ (h : ChainState). h.plan) c.try_flips-after.ensures.next)

pub returns-clause-trail : goal.returns-clause-trail
returns-clause-trail g c =
    let job = c.args.job.now in
    let d = c.args.draws.now in
    let t = c.args.trail.now in
    let after = c.try_flips-after.result.0 in
    let last = d.place + (after - 1) in
    let trail : IsTrail job (draw d.key d.stream) last t = (before_last job (draw d.key d.stream) c.args.ready.now c.args.state.now.plan c.try_flips-after.new.state.plan d.place c.args.place c.try_flips-after.result.0 c.args.trail.now
    c.try_flips-after.ensures.some c.try_flips-after.ensures.few c.requires.ready c.requires.visited c.requires.trail c.try_flips-after.ensures.closed
    (ap (λ (h : ChainState). h.plan) c.try_flips-after.ensures.next)).1 in
    let visits_is : c.place.result + after ≡ last + 1 = omega (arith, c.place.ensures, c.try_flips-after.ensures.some) in
    let count_is : c.place.result + after ≡ d.place + after = omega (arith, c.place.ensures) in
    let later = c.update.new.self in
    went_last job (draw d.key d.stream) c.args.ready.now c.args.state.now.plan c.try_flips-after.new.state.plan d.place c.args.place c.try_flips-after.result.0 c.args.trail.now
    c.try_flips-after.ensures.some c.try_flips-after.ensures.few c.requires.ready c.requires.visited c.requires.trail c.try_flips-after.ensures.closed
    (ap (λ (h : ChainState). h.plan) c.try_flips-after.ensures.next)
    later c.try_flips-after.result.1 (changed_is c.try_flips-after.result.1 c.args.state.now.plan c.try_flips-after.new.state.plan c.try_flips-after.ensures.unchanged)
    c.if-not-changed.false (c.update.ensures.moved ∙ ap (λ (n : ℕ). n + 1) c.flush.ensures.moved)
    (c.update.ensures.visits ∙ c.flush.ensures.visits ∙ count_is) c.update.ensures.tested
    (subst (λ (n : ℕ). IsCounted job (draw d.key d.stream) n later) count_is
    (c.update.ensures.counted (draw d.key d.stream) (c.place.result + after)
    (c.flush.ensures.counted job (draw d.key d.stream) last trail visits_is)))
