use Rattle.std.proofs.Common.{map, take}
use Rattle.audit_words.specs.Arguments as definition
use Rattle.audit_words.specs.Usage.{on_lines}
use Rattle.report.specs.AddedText.{AddsText}
use Rattle.audit_words.proofs.answering.add_arguments.Given as goal

abbrev pub invariant-loop-name : goal.invariant-loop-name
invariant-loop-name g l =
    AddsText (g.O.Sink.state l.fn.out) (g.O.Sink.state l.out) l.fn.going (on_lines (map definition.argument_text (take l.name-index l.names))) l.going
