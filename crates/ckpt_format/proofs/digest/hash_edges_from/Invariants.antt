use Rattle.std.proofs.Common.{take}
use Rattle.std.specs.Prelude.{nat_lt}
use Rattle.std.specs.List.{filter, flat_map}
use Rattle.ckpt_format.specs.Hashed.{Hashes, pair_bytes}
use Rattle.ckpt_format.proofs.digest.hash_edges_from.Given as goal

abbrev pub invariant-loop-near : goal.invariant-loop-near
invariant-loop-near l = Hashes l.fn.hasher l.hasher (flat_map (pair_bytes l.unit) (filter (nat_lt l.unit) (take l.near-index l.near-items)))
