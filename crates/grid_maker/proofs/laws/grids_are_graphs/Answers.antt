use Rattle.grid_maker.proofs.Graphs.{grid_is_read}
use Rattle.grid_maker.proofs.laws.grids_are_graphs.Goals as goal

pub returns : goal.returns
returns c = λ size key some few. grid_is_read size key some few
