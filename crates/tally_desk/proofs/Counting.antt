-- The laws of the counter that a desk's rule rests on.
use Rattle.std.proofs.Common.{◌∙◌}
use Rattle.atomic_table.proofs.Lists.{set_else}
use Rattle.claim_counter.specs.Records.{joined_passes}
use Rattle.claim_counter.proofs.Keeping.{claim_is_new, claim_keeps, count_bounded, end_keeps, join_keeps, sole_pass, split_keeps, start_counted}
use Rattle.tally_desk.specs.Counter.{CounterLaws}

-- each kind of draw keeps the counter's rule
pub counter_laws : CounterLaws
counter_laws = record {
  start = start_counted;
  number = λ limit count word ps i p h below. (claim_keeps limit count word ps i p h.counted h.at h.weighs below, λ j q at. claim_is_new limit count word ps j q h.counted at below);
  past_end = λ limit count word ps i p h going past. end_keeps limit count word ps i p h.counted h.at h.weighs going past;
  split = λ limit count word ps i p h spare. split_keeps limit count word ps i p h.counted h.at h.weighs spare;
  join = λ limit count word ps i p j q h other at live. join_keeps limit count word ps i p j q h.counted h.at other (set_else ps i j (joined_passes p q) other ∙ at) h.weighs live;
  sole = λ limit count word ps i p h all. sole_pass limit count word ps i p h.counted h.at h.weighs all;
  bounded = count_bounded;
}
