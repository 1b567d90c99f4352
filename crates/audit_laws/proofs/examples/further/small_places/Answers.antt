use Rattle.std.proofs.Common.{refl}
use Rattle.audit_statement.specs.Draw.{draw}
use Rattle.rand_chacha.specs.Block.{block_word, column_round, diagonal_round, double_rounds, quarter_round}
use Rattle.rand_core.specs.Steps.{u32_at}
use Rattle.audit_laws.proofs.examples.further.small_places.Goals as goal

pub returns-clause-four : goal.returns-clause-four
unfolding draw u32_at block_word double_rounds column_round diagonal_round quarter_round
returns-clause-four c = refl

pub returns-clause-many : goal.returns-clause-many
unfolding draw u32_at block_word double_rounds column_round diagonal_round quarter_round
returns-clause-many c = refl

pub returns-clause-first : goal.returns-clause-first
unfolding draw u32_at block_word double_rounds column_round diagonal_round quarter_round
returns-clause-first c = refl
