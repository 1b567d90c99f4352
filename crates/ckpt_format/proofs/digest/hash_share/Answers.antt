use Rattle.std.proofs.Common.{◌++◌, ℕ, List, [], codes, sym, ◌∙◌}
use Rattle.std.proofs.lemmas.Bool.{cond-true}
use Rattle.std.specs.Int.{w32, to_be_bytes}
use Rattle.audit_statement.specs.Checkpoint.{has_share}
use Rattle.ckpt_format.proofs.Hashing.{hashes_same, hashes_then}
use Rattle.ckpt_format.proofs.digest.hash_share.Goals as goal

pub returns-then-has_share : goal.returns-then-has_share
returns-then-has_share c =
    let rules = c.args.rules.now in
    hashes_same _ _ _ _
    (sym (cond-true {A = List ℕ} (has_share rules) (codes "group-share" ++ to_be_bytes w32 rules.group_share) [] (sym c.has_share.ensures ∙ c.if-has_share.true)))
    (hashes_then _ _ _ _ _ c.hash_tag.ensures c.hash_u32.ensures)
