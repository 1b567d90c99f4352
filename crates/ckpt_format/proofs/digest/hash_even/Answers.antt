use Rattle.std.proofs.Common.{ℕ, List, codes, sym, ap, ◌∙◌}
use Rattle.std.proofs.lemmas.Bool.{cond-false, cond-true}
use Rattle.audit_statement.specs.Checkpoint.{digest_name, has_further_rules, has_lengths, has_newer_rules, has_rules}
use Rattle.ckpt_format.proofs.Hashing.{hashes_same}
use Rattle.ckpt_format.proofs.digest.hash_even.Goals as goal

pub returns-then-has_lengths : goal.returns-then-has_lengths
returns-then-has_lengths c =
    let rules = c.args.rules.now in
    hashes_same _ _ _ _
    (sym (cond-true {A = List ℕ} (has_lengths c.args.lengths.now) (codes "district-job 5") (digest_name (has_rules rules) (has_further_rules rules) (has_newer_rules rules))
    (sym c.has_lengths.ensures ∙ c.if-has_lengths.true))) c.hash_tag.ensures

pub returns : goal.returns
returns c =
    let rules = c.args.rules.now in
    hashes_same _ _ _ _
    (c.name_of_form-name.ensures
    ∙ ap (λ b. digest_name b c.has_further_rules.result c.has_newer_rules-newer.result) c.has_rules.ensures
    ∙ ap (λ b. digest_name (has_rules rules) b c.has_newer_rules-newer.result) c.has_further_rules.ensures
    ∙ ap (digest_name (has_rules rules) (has_further_rules rules)) c.has_newer_rules-newer.ensures
    ∙ sym (cond-false {A = List ℕ} (has_lengths c.args.lengths.now) (codes "district-job 5") (digest_name (has_rules rules) (has_further_rules rules) (has_newer_rules rules))
    (sym c.has_lengths.ensures ∙ c.if-has_lengths.false))) c.hash_tag-2.ensures
