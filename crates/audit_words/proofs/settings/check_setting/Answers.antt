use Rattle.std.proofs.Common.{◌≡◌, ◌∙◌, ℕ, List, ap, arith, refl}
use Rattle.std.specs.Prelude.{codes, bytes_eq}
use Rattle.audit_model.specs.declared.fault.Name.{Name}
use Rattle.audit_model.specs.declared.fault.Name.TheVariants as name
use Rattle.audit_model.specs.declared.setting.Command.TheVariants as command
use Rattle.audit_statement.specs.Words as definition
use Rattle.audit_words.specs.ArgumentBytes.{pairs_in}
use Rattle.audit_words.proofs.ValidValues.{number-bounds}
use Rattle.audit_words.proofs.settings.check_setting.Goals as goal

pub returns-in-Ok : goal.returns-in-Ok
returns-in-Ok c =
    let text : Name → List ℕ = definition.text_of command.Check (pairs_in c.args.words.now) in
    let number : Name → ℕ = definition.number_named command.Check (pairs_in c.args.words.now) in
    let slack : c.number_at.result ≡ number name.Slack = c.number_at.ensures (omega (arith, (number-bounds 0 10000 (text name.Slack) c.requires.slack).1)) in
    let max_cut : c.number_at-in-Ok.result ≡ number name.MaxCut = c.number_at-in-Ok.ensures (omega (arith, (number-bounds 0 400000 (text name.MaxCut) c.requires.max_cut).1)) in
    let region : c.in_ok-region.region ≡ text name.Region = c.in_ok-region.ensures ∙ c.text_of.ensures in
    let source : c.eq.result ≡ bytes_eq (text name.Source) (codes "yes") = c.eq.ensures ∙ ap (λ t. bytes_eq t (codes "yes")) c.text_of-in-Ok.ensures in
    rw (
      c.in-Ok.ensures,
      slack,
      c.new.ensures,
      max_cut,
      region,
      c.limits_of-limits.ensures.max_split,
      c.limits_of-limits.ensures.max_splits,
      c.limits_of-limits.ensures.max_split_regions,
      c.limits_of-limits.ensures.group_districts,
      c.limits_of-limits.ensures.group_share,
      c.limits_of-limits.ensures.max_length,
      c.weight_at.ensures,
      source,
    ) refl
