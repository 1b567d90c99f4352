use Rattle.std.proofs.Common.{◌≡◌, ℕ, ◌+◌, ◌-◌, List, Option, Some, sym, ap, ◌∙◌, arith}
use Rattle.std.specs.Prelude.{ℤ}
use Rattle.std.proofs.Common.{w64}
use Rattle.std.proofs.Math.Facts.{to_z-of_z}
use Rattle.audit_model.specs.declared.outcome.Outcome.{Outcome}
use Rattle.audit_model.specs.declared.outcome.Stop.{Stop}
use Rattle.audit_model.specs.Stopping.{value_with_id}
use Rattle.sequential_test.proofs.Deciding.{IsGap, stop_from, stopped, ended, undecided, tails_are, values_are, values_from, of_job}
use Rattle.audit_model.specs.Trajectory.{in_tail}
use Rattle.audit_model.proofs.Below.{count_below_le}
use Rattle.sequential_test.proofs.settle.find_stop.Goals as goal

pub returns-then-inside-hits-clause-stop_of_known : goal.returns-then-inside-hits-clause-stop_of_known
returns-then-inside-hits-clause-stop_of_known c = λ job ask w e t s.
    let walks : ℕ = c.args.span.walks in
    let ends : ℕ = c.args.span.ends in
    let posted : List Outcome = c.args.posted.now in
    let g : ℕ = c.known_ends-known.result in
    let place : ℕ = c.tail_place-place.result in
    let start : ℤ = c.args.start in
    let gap : IsGap walks ends g posted =
    record { within = c.known_ends-known.ensures.within; counted = c.known_ends-known.ensures.known; gap = c.known_ends-known.ensures.gap } in
    let reached = rw (to_z-of_z {w = w64} {z = c.args.start} c.ranges.start) at c.tail_place-place.ensures.reached in
    let short = rw (to_z-of_z {w = w64} {z = c.args.start} c.ranges.start) at c.tail_place-place.ensures.before in
    let within = c.tail_place-place.ensures.within in
    let here = tails_are walks ends g posted c.requires.apart gap c.args.place c.args.tail start place within.1 in
    let before = tails_are walks ends g posted c.requires.apart gap c.args.place c.args.tail start (place - 1) (omega (arith, within.1)) in
    stopped c.args.tail start g (λ j. value_with_id c.args.place posted (walks + j)) c.args.hits ends place within.0 within.1
    (omega (arith, here, reached)) (omega (arith, before, short))
    ∙ ap (λ values. stop_from ends c.args.tail start values c.args.hits) (sym (values_are walks ends g posted c.requires.apart gap c.args.place))
    ∙ of_job walks ends c.args.place c.args.hits c.args.tail start posted job ask w e t s

pub returns-then-known-span-clause-stop_of_known : goal.returns-then-known-span-clause-stop_of_known
returns-then-known-span-clause-stop_of_known c = λ job ask w e t s.
    let walks : ℕ = c.args.span.walks in
    let ends : ℕ = c.args.span.ends in
    let posted : List Outcome = c.args.posted.now in
    let g : ℕ = c.known_ends-known.result in
    let start : ℤ = c.args.start in
    let inside = rw (to_z-of_z {w = w64} {z = c.args.start} c.ranges.start) at c.count_tail-inside.ensures in
    let gap : IsGap walks ends g posted =
    record { within = c.known_ends-known.ensures.within; counted = c.known_ends-known.ensures.known; gap = c.known_ends-known.ensures.gap } in
    let all = tails_are walks ends g posted c.requires.apart gap c.args.place c.args.tail start g (omega arith) in
    undecided c.args.tail start g (λ j. value_with_id c.args.place posted (walks + j)) c.args.hits ends
    (omega (arith, all, inside, c.if-inside-hits.false)) c.if-known-span.true
    ∙ ap (λ values. stop_from ends c.args.tail start values c.args.hits) (sym (values_are walks ends g posted c.requires.apart gap c.args.place))
    ∙ of_job walks ends c.args.place c.args.hits c.args.tail start posted job ask w e t s

pub returns-clause-stop_of_known : goal.returns-clause-stop_of_known
returns-clause-stop_of_known c = λ job ask w e t s.
    let walks : ℕ = c.args.span.walks in
    let ends : ℕ = c.args.span.ends in
    let posted : List Outcome = c.args.posted.now in
    let g : ℕ = c.known_ends-known.result in
    let start : ℤ = c.args.start in
    let inside = rw (to_z-of_z {w = w64} {z = c.args.start} c.ranges.start) at c.count_tail-inside.ensures in
    let gap : IsGap walks ends g posted =
    record { within = c.known_ends-known.ensures.within; counted = c.known_ends-known.ensures.known; gap = c.known_ends-known.ensures.gap } in
    let all = tails_are walks ends g posted c.requires.apart gap c.args.place c.args.tail start g (omega arith) in
    let whole : g ≡ ends = omega (arith, c.if-known-span.false, c.known_ends-known.ensures.within) in
    let answer : ℕ → Option Stop = λ n. Some (record { place = g; top = n + 1; of = g + 1 }) in
    ap answer (inside ∙ all)
    ∙ ended c.args.tail start g (λ j. value_with_id c.args.place posted (walks + j)) c.args.hits (omega (arith, all, inside, c.if-inside-hits.false))
    ∙ ap (λ values. stop_from g c.args.tail start values c.args.hits) (sym (values_are walks ends g posted c.requires.apart gap c.args.place))
    ∙ ap (λ n. stop_from n c.args.tail start (values_from walks ends c.args.place posted) c.args.hits) whole
    ∙ of_job walks ends c.args.place c.args.hits c.args.tail start posted job ask w e t s

pub returns-then-inside-hits-clause-part : goal.returns-then-inside-hits-clause-part
returns-then-inside-hits-clause-part c =
    let walks : ℕ = c.args.span.walks in
    let posted : List Outcome = c.args.posted.now in
    let place : ℕ = c.tail_place-place.result in
    let start : ℤ = c.args.start in
    let gap : IsGap walks c.args.span.ends c.known_ends-known.result posted =
    record { within = c.known_ends-known.ensures.within; counted = c.known_ends-known.ensures.known; gap = c.known_ends-known.ensures.gap } in
    let reached = rw (to_z-of_z {w = w64} {z = c.args.start} c.ranges.start) at c.tail_place-place.ensures.reached in
    let within = c.tail_place-place.ensures.within in
    let here = tails_are walks c.args.span.ends c.known_ends-known.result posted c.requires.apart gap c.args.place c.args.tail start place within.1 in
    let few = count_below_le place (λ j. in_tail c.args.tail (value_with_id c.args.place posted (walks + j)) start) in
    let known = c.known_ends-known.ensures.within in
    (omega (arith, within.1, known), c.requires.some, omega (arith, here, few, reached), omega (arith, within.1, known))

pub returns-clause-part : goal.returns-clause-part
returns-clause-part c =
    let walks : ℕ = c.args.span.walks in
    let posted : List Outcome = c.args.posted.now in
    let g : ℕ = c.known_ends-known.result in
    let start : ℤ = c.args.start in
    let inside = rw (to_z-of_z {w = w64} {z = c.args.start} c.ranges.start) at c.count_tail-inside.ensures in
    let gap : IsGap walks c.args.span.ends g posted =
    record { within = c.known_ends-known.ensures.within; counted = c.known_ends-known.ensures.known; gap = c.known_ends-known.ensures.gap } in
    let all = tails_are walks c.args.span.ends g posted c.requires.apart gap c.args.place c.args.tail start g (omega arith) in
    let few = count_below_le g (λ j. in_tail c.args.tail (value_with_id c.args.place posted (walks + j)) start) in
    let known = c.known_ends-known.ensures.within in
    (known, omega arith, omega (arith, inside, all, few), omega (arith, known))
