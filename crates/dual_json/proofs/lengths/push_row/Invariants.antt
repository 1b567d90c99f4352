use Rattle.std.proofs.Common.{◌≡◌, ◌++◌, map, take}
use Rattle.dual_json.specs.Lengths.{length_between}
use Rattle.dual_json.specs.Shape.{lists_in}
use Rattle.dual_json.proofs.lengths.push_row.Given as goal

abbrev pub invariant-loop-other : goal.invariant-loop-other
invariant-loop-other l =
    l.lengths ≡ l.initial.lengths ++ map (length_between l.fn.listed.key.now l.fn.listed.index.now (lists_in l.fn.listed.adjacency.now) l.fn.node) (take l.other-index l.other-items)
