use Rattle.sequential_test.proofs.Finals.{all_are_decided}
use Rattle.sequential_test.proofs.laws.all_ends_decide.Goals as goal

pub returns : goal.returns
returns c = λ job place ask enough outcomes there. all_are_decided job place ask enough outcomes there
