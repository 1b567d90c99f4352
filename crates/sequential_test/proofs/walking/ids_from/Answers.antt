use Rattle.std.proofs.Common.{length, refl}
use Rattle.sequential_test.proofs.Slicing.{ids_between}
use Rattle.sequential_test.proofs.walking.ids_from.Goals as goal

pub returns : goal.returns
returns c = λ whole. ids_between (length c.args.todo.now) c.args.from c.args.to c.args.todo.now _ whole c.requires.order.0 c.requires.order.1 refl
