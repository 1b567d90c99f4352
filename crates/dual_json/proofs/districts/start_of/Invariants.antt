use Rattle.dual_json.proofs.Started.{AreStarted}
use Rattle.dual_json.proofs.districts.start_of.Given as goal

abbrev pub invariant-loop-i : goal.invariant-loop-i
invariant-loop-i l = AreStarted l.names l.found l.i l.start
