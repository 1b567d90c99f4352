use Rattle.std.proofs.Common.{◌+◌, take, ap, sym, subst, ◌∙◌, arith}
use Rattle.std.proofs.lemmas.List.{take_all}
use Rattle.sha2.specs.declared.Sha256.{Sha256}
use Rattle.ckpt_format.specs.Hashed.{Hashes}
use Rattle.ckpt_format.proofs.Edges.{edges_are_greater, greater, hashes_edge, hashes_no_edge}
use Rattle.ckpt_format.proofs.Hashing.{hashes_none, hashes_same, hashes_then}
use Rattle.ckpt_format.proofs.digest.hash_edges_from.Goals.{then-unit-near, else-unit-near}
use Rattle.ckpt_format.proofs.digest.hash_edges_from.Goals as goal

pub loop-near-init : goal.loop-near-init
loop-near-init c = hashes_none _

pub loop-near-preserved : goal.loop-near-preserved
loop-near-preserved c =
    let row = c.neighbours-near-items.result.now in
    let i = c.loop-near.near-index in
    elim c.if-unit-near.branch [
      | then-unit-near w ↦
          subst (λ (h : Sha256). Hashes c.args.hasher.now h (greater c.args.unit (take (i + 1) row))) (sym w.hasher-is)
          (hashes_edge c.args.unit row i _ _ _ c.loop-near-test.true w.if-unit-near.true c.loop-near.invariant
          (hashes_then _ _ _ _ _ w.hash_u32.ensures w.hash_u32-then-unit-near.ensures))
      | else-unit-near w ↦
          subst (λ (h : Sha256). Hashes c.args.hasher.now h (greater c.args.unit (take (i + 1) row))) (sym w.hasher-is)
          (hashes_no_edge c.args.unit row i _ _ c.loop-near-test.true w.if-unit-near.false c.loop-near.invariant)
    ]

pub returns : goal.returns
returns c =
    let row = c.neighbours-near-items.result.now in
    hashes_same _ _ _ _
    (ap (greater c.args.unit) (take_all c.loop-near.near-index row (omega arith) ∙ c.neighbours-near-items.ensures.list) ∙ edges_are_greater c.args.graph.now c.args.unit c.requires.sound)
    c.loop-near.invariant
