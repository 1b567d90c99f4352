use Rattle.std.proofs.Common.{◌≡◌, ◌+◌, drop}
use Rattle.audit_folders.specs.GatherProgram.{count_folders as folders_counted}
use Rattle.audit_words.specs.ArgumentBytes.{argument_bytes}
use Rattle.audit_folders.proofs.gather_command.count_folders.Given as goal

abbrev pub invariant-loop-word : goal.invariant-loop-word
invariant-loop-word l = record {
  count : l.count ≡ l.word-index;
  counted : l.word-index + folders_counted (drop l.word-index (argument_bytes l.words)) ≡ folders_counted (argument_bytes l.words);
}
