use Rattle.std.proofs.Common.{refl}
use Rattle.rand_core.specs.Steps.{u32_at}
use Rattle.rand_chacha.specs.Block.{block_word, double_rounds, column_round, diagonal_round, quarter_round}
use Rattle.audit_model.specs.Below.{count_below}
use Rattle.audit_model.specs.Plan.{is_legal}
use Rattle.audit_model.specs.Step.{next}
use Rattle.audit_model.specs.Weight.{is_taken}
use Rattle.audit_model.specs.Trajectory.{visit}
use Rattle.audit_statement.specs.Draw.{draw}
use Rattle.audit_laws.proofs.examples.formats.drawn_outcome.Goals as goal

pub returns : goal.returns
unfolding is_legal next is_taken visit count_below draw u32_at block_word double_rounds column_round diagonal_round quarter_round
returns c = refl
