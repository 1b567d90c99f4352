-- The columns of the grid. It has no group column and no column of frozen units.
use Rattle.std.specs.Prelude.{codes, []}
use Rattle.audit_model.specs.declared.setting.Columns.{Columns}

abbrev pub grid_columns : Columns
grid_columns = record { population = codes "pop"; first = codes "a"; second = codes "b"; district = codes "district"; group = []; whole = []; frozen = []; length = [] }
