use Rattle.std.proofs.Common.{◌≡◌, ℕ, ◌∙◌, length, arith}
use Rattle.region_guard.proofs.Tallying.{none_tallied, own_columns}
use Rattle.region_guard.proofs.majority.GroupTally.record_move.Goals as goal

pub returns-else-len-gt0-clause-stands : goal.returns-else-len-gt0-clause-stands
returns-else-len-gt0-clause-stands c =
    let none : length {A = ℕ} c.args.group.now.members ≡ 0 = omega (arith, c.len.ensures, c.if-len-gt0.false) in
    let columns = own_columns c.args.group.now c.requires.table.columns in
    none_tallied c.args.group.now (length {A = ℕ} c.args.self.now.members) c.args.self.now _ c.args.after.now none (columns.1.width ∙ none) c.requires.stood
