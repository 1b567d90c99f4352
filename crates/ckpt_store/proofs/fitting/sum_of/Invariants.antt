use Rattle.std.proofs.Common.{◌≡◌, ◌*◌, ◌≤◌, take}
use Rattle.std.specs.Prelude.{sum}
use Rattle.ckpt_store.proofs.fitting.sum_of.Given as goal

abbrev pub invariant-loop-bin : goal.invariant-loop-bin
invariant-loop-bin l = record {
  value : l.all ≡ sum (take l.bin-index l.bins);
  small : l.all ≤ 4294967295 * l.bin-index;
}
