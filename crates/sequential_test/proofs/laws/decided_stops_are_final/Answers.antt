use Rattle.sequential_test.proofs.Finals.{decided_is_final}
use Rattle.sequential_test.proofs.laws.decided_stops_are_final.Goals as goal

pub returns : goal.returns
returns c = λ job draws place ask enough outcomes s right h. decided_is_final job draws place outcomes right ask enough s h
