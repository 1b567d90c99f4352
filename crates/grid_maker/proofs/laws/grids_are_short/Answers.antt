use Rattle.grid_maker.proofs.Short.{short_grid}
use Rattle.grid_maker.proofs.laws.grids_are_short.Goals as goal

pub returns : goal.returns
returns c = λ size key some few. short_grid size some few key
