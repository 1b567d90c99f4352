use Rattle.std.proofs.Common.{◌++◌, ℕ, List, [], codes, sym, ◌∙◌}
use Rattle.std.specs.List.{flat_map}
use Rattle.std.proofs.lemmas.Bool.{cond-true}
use Rattle.std.specs.Int.{w32, w64, to_be_bytes}
use Rattle.audit_statement.specs.Checkpoint.{has_lengths}
use Rattle.ckpt_format.proofs.Hashing.{hashes_same, hashes_then}
use Rattle.ckpt_format.proofs.digest.hash_lengths.Goals as goal

pub returns-then-has_lengths : goal.returns-then-has_lengths
returns-then-has_lengths c =
    let lengths = c.args.lengths.now in
    hashes_same _ _ _ _
    (sym (cond-true {A = List ℕ} (has_lengths lengths) (codes "length" ++ to_be_bytes w64 c.args.max_length ++ flat_map (to_be_bytes w32) lengths) []
    (sym c.has_lengths.ensures ∙ c.if-has_lengths.true)))
    (hashes_then _ _ _ _ _ (hashes_then _ _ _ _ _ c.hash_tag.ensures c.hash_u64.ensures) c.hash_numbers.ensures)
