-- Votes of the start plan.
use Rattle.std.proofs.Common.{◌^◌, ◌<◌, sym, ◌∙◌, arith}
use Rattle.audit_model.specs.Job.{Job}
use Rattle.audit_model.specs.JobOf.{IsJob}
use Rattle.audit_model.specs.District.{district_sum}
use Rattle.audit_model.specs.Score.{sums_of}
use Rattle.audit_model.proofs.Below.{length-map_below}
use Rattle.audit_model.proofs.ColumnFacts.{column_small}
use Rattle.audit_model.proofs.Lengths.{cut_length_few}
use Rattle.scores.specs.Votes.{AreVotes}

-- the sums of the start plan are within the bounds for scores
pub start_votes : (job : Job) → IsJob job → let sums = sums_of job.graph job.counts job.districts job.start in AreVotes sums.first sums.second
start_votes job sound =
    let input = sound.within.input in
    let first = length-map_below job.districts (district_sum job.counts.first job.start) in
    let second = length-map_below job.districts (district_sum job.counts.second job.start) in
    record {
      some = omega (arith, first, input.two);
      few = omega (arith, first, input.few);
      as_many = second ∙ sym first;
      small_first = column_small job.districts job.graph.units job.counts.first job.start input.complete input.first input.units;
      small_second = column_small job.districts job.graph.units job.counts.second job.start input.complete input.second input.units;
    }

-- the length of the start plan's cut edges is within the bound for scores
pub start_short : (job : Job) → IsJob job → (sums_of job.graph job.counts job.districts job.start).length < 2 ^ 63
start_short job sound =
    let input = sound.within.input in
    let few = cut_length_few job.graph job.counts.lengths job.start input.lengths.small input.edges in
    omega (arith, few)
