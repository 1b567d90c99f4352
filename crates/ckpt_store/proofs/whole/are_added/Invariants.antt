use Rattle.std.proofs.Common.{◌≡◌, true, take}
use Rattle.std.specs.List.{list_all}
use Rattle.ckpt_store.specs.Findings.{is_added}
use Rattle.ckpt_store.proofs.whole.are_added.Given as goal

abbrev pub invariant-loop-found : goal.invariant-loop-found
invariant-loop-found l = list_all is_added (take l.found-index l.folders) ≡ true
