use Rattle.std.proofs.Common.{◌∙◌, ap, true}
use Rattle.std.specs.Int.{w32, to_be_bytes}
use Rattle.audit_model.specs.Graph.{count_edges}
use Rattle.ckpt_format.proofs.Hashing.{hashes_same, hashes_then}
use Rattle.ckpt_format.proofs.digest.hash_counts.Goals as goal

pub returns-clause-bytes : goal.returns-clause-bytes
returns-clause-bytes c =
    let units = hashes_same _ _ _ _ (ap (to_be_bytes w32) c.units.ensures.units) c.hash_u32.ensures in
    let edges = hashes_same _ _ _ _ (ap (to_be_bytes w32) (c.edges.ensures.edges ∙ ap (λ g. count_edges g (λ u v. true)) c.graph.ensures.value)) c.hash_u32-2.ensures in
    let districts = hashes_same _ _ _ _ (ap (to_be_bytes w32) c.districts.ensures.value) c.hash_u32-3.ensures in
    hashes_then _ _ _ _ _ (hashes_then _ _ _ _ _ units edges) districts
