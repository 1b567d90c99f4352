use Rattle.std.proofs.Common.{map, take}
use Rattle.std.specs.Prelude.{string_bytes}
use Rattle.audit_folders.specs.FolderLines.{folder_line, of_each}
use Rattle.report.specs.AddedText.{AddsText}
use Rattle.audit_folders.proofs.gathering.add_folders.Given as goal

abbrev pub invariant-loop-place : goal.invariant-loop-place
invariant-loop-place g l = record {
  added : AddsText (g.O.Sink.state l.fn.out) (g.O.Sink.state l.out) l.fn.going
      (of_each (folder_line (map string_bytes l.names)) (take l.place (map string_bytes l.names)) (take l.place l.findings)) l.going;
}
