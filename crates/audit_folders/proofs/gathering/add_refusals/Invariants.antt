use Rattle.std.proofs.Common.{map, take}
use Rattle.std.specs.Prelude.{string_bytes}
use Rattle.audit_folders.specs.FolderLines.{folder_refusal, of_each}
use Rattle.report.specs.AddedText.{AddsText}
use Rattle.audit_folders.proofs.gathering.add_refusals.Given as goal

abbrev pub invariant-loop-place : goal.invariant-loop-place
invariant-loop-place g l = record {
  added : AddsText (g.N.Sink.state l.fn.note) (g.N.Sink.state l.note) l.fn.going
      (of_each (folder_refusal (map string_bytes l.names)) (take l.place (map string_bytes l.names)) (take l.place l.findings)) l.going;
}
