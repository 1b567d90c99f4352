use Rattle.std.proofs.Common.{◌∙◌, List, get_or, ap, arith}
use Rattle.audit_model.specs.declared.setting.Ask.{Ask}
use Rattle.audit_statement.specs.Names.{score_name, tail_name}
use Rattle.report.proofs.Limits.{small}
use Rattle.report.proofs.Pieces.{no_ask}
use Rattle.report.proofs.asks.ask_words.Goals as goal

pub returns-clause-score : goal.returns-clause-score
returns-clause-score c = c.score_text.ensures ∙ ap (λ (asks : List Ask). score_name (get_or asks c.args.place no_ask).score) c.asks_of.ensures.value

pub returns-clause-tail : goal.returns-clause-tail
returns-clause-tail c = c.tail_text.ensures ∙ ap (λ (asks : List Ask). tail_name (get_or asks c.args.place no_ask).tail) c.asks_of.ensures.value

pub overflow_cast-place : goal.overflow_cast-place
overflow_cast-place c = omega (arith, c.requires, (small c.args.job.now c.asks_of.ensures.sound).few_asks)
