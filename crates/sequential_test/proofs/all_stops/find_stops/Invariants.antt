use Rattle.std.proofs.Common.{◌≡◌, length}
use Rattle.sequential_test.specs.Rounds.{AreParts, AreDecidedBelow}
use Rattle.sequential_test.proofs.all_stops.find_stops.Given as goal

abbrev pub invariant-loop-place : goal.invariant-loop-place
invariant-loop-place l = record {
  decided : AreDecidedBelow l.job l.outcomes l.place l.stops;
  parts : AreParts l.job.setting.ends l.place l.stops;
  four : length l.stops ≡ 4;
}
