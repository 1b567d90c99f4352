use Rattle.std.proofs.Common.{ℕ, List, sym, ap}
use Rattle.audit_statement.specs.Checkpoint.{region_bytes, rule_bytes}
use Rattle.ckpt_format.proofs.Hashing.{hashes_same, hashes_then}
use Rattle.ckpt_format.proofs.digest.hash_rules.Goals as goal

pub returns-then-limited : goal.returns-then-limited
returns-then-limited c =
    let rules = c.args.rules.now in
    let regions = hashes_same _ _ _ _ (ap (λ (xs : List ℕ). region_bytes rules.max_split xs) c.as_slice.ensures) c.hash_regions.ensures in
    hashes_same _ _ _ _ (ap (λ b. rule_bytes b c.args.units rules) (sym c.if-limited.true))
    (hashes_then _ _ _ _ _ (hashes_then _ _ _ _ _ (hashes_then _ _ _ _ _ (hashes_then _ _ _ _ _ (hashes_then _ _ _ _ _ c.hash_u32.ensures regions) c.hash_splits.ensures)
    c.hash_group.ensures) c.hash_share.ensures) c.hash_frozen.ensures)
