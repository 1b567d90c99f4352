use Rattle.serial_test.proofs.Powers.{divides_draws}
use Rattle.serial_test.proofs.start_place.place.Goals as goal

pub returns-clause-even : goal.returns-clause-even
returns-clause-even c = divides_draws c.args.of c.requires
