use Rattle.std.proofs.Common.{Ok, sym, subst, ◌≡◌}
use Rattle.audit_model.specs.declared.setting.Columns.{Columns}
use Rattle.audit_statement.specs.Grid.{grid}
use Rattle.dual_graph.specs.Read.{parsed_of}
use Rattle.audit_statement.specs.Reading.{reading}
use Rattle.audit_start.proofs.prepare.prepare_grid.Goals as goal

pub judge_made-requires-clause-read : goal.judge_made-requires-clause-read
judge_made-requires-clause-read c =
    subst (λ (columns : Columns). reading (grid c.args.setting.size c.args.setting.key) columns ≡ Ok (parsed_of c.in-Ok.parsed)) (sym c.requires.made.columns) c.in-Ok.ensures.read
