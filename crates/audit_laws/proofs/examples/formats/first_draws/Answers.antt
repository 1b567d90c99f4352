use Rattle.std.proofs.Common.{refl}
use Rattle.rand_core.specs.Steps.{u32_at}
use Rattle.rand_chacha.specs.Block.{block_word, double_rounds, column_round, diagonal_round, quarter_round}
use Rattle.audit_statement.specs.Draw.{draw}
use Rattle.audit_laws.proofs.examples.formats.first_draws.Goals as goal

pub returns-clause-zeroth : goal.returns-clause-zeroth
unfolding draw u32_at block_word double_rounds column_round diagonal_round quarter_round
returns-clause-zeroth c = refl

pub returns-clause-first : goal.returns-clause-first
unfolding draw u32_at block_word double_rounds column_round diagonal_round quarter_round
returns-clause-first c = refl

pub returns-clause-seventh : goal.returns-clause-seventh
unfolding draw u32_at block_word double_rounds column_round diagonal_round quarter_round
returns-clause-seventh c = refl

pub returns-clause-second : goal.returns-clause-second
unfolding draw u32_at block_word double_rounds column_round diagonal_round quarter_round
returns-clause-second c = refl

pub returns-clause-third : goal.returns-clause-third
unfolding draw u32_at block_word double_rounds column_round diagonal_round quarter_round
returns-clause-third c = refl

pub returns-clause-fourth : goal.returns-clause-fourth
unfolding draw u32_at block_word double_rounds column_round diagonal_round quarter_round
returns-clause-fourth c = refl

pub returns-clause-fifth : goal.returns-clause-fifth
unfolding draw u32_at block_word double_rounds column_round diagonal_round quarter_round
returns-clause-fifth c = refl

pub returns-clause-sixth : goal.returns-clause-sixth
unfolding draw u32_at block_word double_rounds column_round diagonal_round quarter_round
returns-clause-sixth c = refl
