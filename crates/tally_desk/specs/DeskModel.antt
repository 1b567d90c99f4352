-- A desk in clauses.
use Rattle.atomic_table.specs.Seated.{TableId}
use Rattle.tally_desk.specs.Parts.{Parts}

-- the table of the desk, by which its passes are known, and the constants of the desk
pub record DeskModel : Type 0 where
  pub table : TableId
  pub parts : Parts
