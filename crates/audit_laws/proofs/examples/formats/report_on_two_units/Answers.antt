use Rattle.std.proofs.Common.{refl, arith}
use Rattle.std.specs.Fmt.{digits}
use Rattle.hex.specs.Hex.{encode_with}
use Rattle.rand_core.specs.Steps.{u32_at}
use Rattle.rand_chacha.specs.Block.{block_word, double_rounds, column_round, diagonal_round, quarter_round}
use Rattle.audit_model.specs.Below.{count_below}
use Rattle.audit_model.specs.Plan.{is_legal}
use Rattle.audit_model.specs.Step.{next}
use Rattle.audit_model.specs.Weight.{is_taken}
use Rattle.audit_model.specs.Trajectory.{sequence, visit}
use Rattle.audit_model.proofs.Least.{bound_from}
use Rattle.audit_statement.specs.Draw.{draw}
use Rattle.audit_statement.specs.Report.{report}
use Rattle.audit_laws.proofs.examples.formats.report_on_two_units.Goals as goal

pub returns : goal.returns
unfolding report sequence digits encode_with is_legal next is_taken visit count_below draw u32_at block_word double_rounds column_round diagonal_round quarter_round
returns c = rw (bound_from 4 4 1414213562 (omega arith) refl refl) refl
