use Rattle.std.proofs.Common.{take, subst, arith}
use Rattle.std.proofs.lemmas.List.{take_all}
use Rattle.std.proofs.lemmas.List.Elements.{All-more, recursion_from_All}
use Rattle.std.specs.List.{All}
use Rattle.audit_statement.specs.Checkpoint.{IsOutcome, outcome_bytes, outcome_size}
use Rattle.ckpt_format.proofs.Appending.{appends_more}
use Rattle.ckpt_format.proofs.Sizes.{length-outcomes, room_for_next}
use Rattle.ckpt_format.proofs.encode.append_outcomes.Goals as goal

pub append_outcome-requires : goal.append_outcome-requires
append_outcome-requires c =
    let outcomes = c.args.outcomes.now in
    let i = c.loop-outcome.outcome-index in
    let version = c.args.version in
    let even = length-outcomes version (take i outcomes) (recursion_from_All IsOutcome (take i outcomes) c.loop-outcome.invariant.sound) in
    room_for_next (outcome_bytes version) (outcome_size version) outcomes i c.args.out.now c.loop-outcome.out c.loop-outcome-test.true even c.requires c.loop-outcome.invariant.bytes

pub loop-outcome-preserved : goal.loop-outcome-preserved
loop-outcome-preserved c =
    let outcomes = c.args.outcomes.now in
    let i = c.loop-outcome.outcome-index in record {
      bytes = appends_more (outcome_bytes c.args.version) outcomes i _ c.args.out.now c.loop-outcome.out c.append_outcome.new.out c.loop-outcome-test.true c.loop-outcome.invariant.bytes c.append_outcome.ensures.bytes;
      sound = All-more IsOutcome outcomes i _ c.loop-outcome-test.true c.loop-outcome.invariant.sound c.append_outcome.ensures.sound;
    }

pub returns-clause-sound : goal.returns-clause-sound
returns-clause-sound c =
    let outcomes = c.args.outcomes.now in
    recursion_from_All IsOutcome outcomes (subst (All IsOutcome) (take_all c.loop-outcome.outcome-index outcomes (omega arith)) c.loop-outcome.invariant.sound)
