use Rattle.std.proofs.Common.{◌≡◌, ℕ, List, ap, ◌∙◌}
use Rattle.audit_model.specs.declared.outcome.Counts.{Counts}
use Rattle.audit_model.specs.declared.rules.Rules.{Rules}
use Rattle.audit_model.specs.declared.setting.Setting.{Setting}
use Rattle.audit_model.specs.Job.{rules}
use Rattle.audit_statement.specs.Checkpoint.{edge_bytes, first_bytes, has_lengths, has_rules, has_weight, job_bytes, job_digest, length_bytes, rule_bytes, weight_bytes}
use Rattle.ckpt_format.specs.Hashed.{setting_bytes}
use Rattle.ckpt_format.proofs.Hashing.{digest_of_parts, hashes_same}
use Rattle.ckpt_format.proofs.digest.job_digest.Goals as goal

pub returns : goal.returns
unfolding job_digest
returns c =
    let job = c.args.job.now in
    let lengths : c.as_slice-lengths.result.now ≡ job.counts.lengths = c.as_slice-lengths.ensures ∙ ap (λ (n : Counts). n.lengths) c.counts.ensures.value in
    let limited : c.has_rules.result ≡ has_rules (rules job) = c.has_rules.ensures ∙ ap (λ (r : Rules). has_rules r) c.rules-rules.ensures.value in
    let name = hashes_same _ _ _ _
    (ap (λ (s : Setting). first_bytes (has_weight s.cut_weight) (has_lengths c.as_slice-lengths.result.now) c.rules-rules.result.now) c.setting.ensures.value
    ∙ ap (λ (l : List ℕ). first_bytes (has_weight job.setting.cut_weight) (has_lengths l) c.rules-rules.result.now) lengths
    ∙ ap (λ (r : Rules). first_bytes (has_weight job.setting.cut_weight) (has_lengths job.counts.lengths) r) c.rules-rules.ensures.value) c.hash_first.ensures in
    let edges = hashes_same _ _ _ _ (ap edge_bytes c.graph.ensures.value) c.hash_edges.ensures in
    let setting = hashes_same _ _ _ _ (ap (λ (s : Setting). setting_bytes s) c.setting-2.ensures.value) c.hash_setting.ensures in
    let limits = hashes_same _ _ _ _
    (ap (λ b. rule_bytes b c.units.result c.rules-rules.result.now) limited
    ∙ ap (λ (n : ℕ). rule_bytes (has_rules (rules job)) n c.rules-rules.result.now) c.units.ensures.units
    ∙ ap (λ (r : Rules). rule_bytes (has_rules (rules job)) job.graph.units r) c.rules-rules.ensures.value) c.hash_rules.ensures in
    let long = hashes_same _ _ _ _
    (ap (λ (s : Setting). length_bytes s.max_length c.as_slice-lengths.result.now) c.setting-3.ensures.value
    ∙ ap (λ (l : List ℕ). length_bytes job.setting.max_length l) lengths) c.hash_lengths.ensures in
    let weighed = hashes_same _ _ _ _ (ap (λ (s : Setting). weight_bytes s.cut_weight) c.setting-4.ensures.value) c.hash_weight.ensures in
    c.finalize.ensures (job_bytes job) (digest_of_parts job _ _ _ _ _ _ _ _ _ c.new-hasher.ensures name c.hash_counts.ensures.bytes edges c.hash_units.ensures setting limits long weighed)
