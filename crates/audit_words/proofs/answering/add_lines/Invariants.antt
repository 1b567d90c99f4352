use Rattle.std.proofs.Common.{map, take}
use Rattle.audit_words.specs.Usage.{on_lines}
use Rattle.report.specs.AddedText.{AddsText}
use Rattle.audit_words.proofs.answering.add_lines.Given as goal

abbrev pub invariant-loop-line : goal.invariant-loop-line
invariant-loop-line g l =
    AddsText (g.O.Sink.state l.fn.out) (g.O.Sink.state l.out) l.fn.going (on_lines (map (λ t. t.now) (take l.line-index l.lines))) l.going
