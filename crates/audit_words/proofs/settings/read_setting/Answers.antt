use Rattle.std.proofs.Common.{◌≡◌, ◌∙◌, ap}
use Rattle.std.specs.List.{filter_map}
use Rattle.std.specs.Prelude.{codes, bytes_eq}
use Rattle.audit_model.specs.declared.fault.Name.TheVariants as name
use Rattle.audit_model.specs.declared.setting.Command.TheVariants as command
use Rattle.audit_statement.specs.Words as definition
use Rattle.audit_words.specs.ArgumentBytes.{pairs_in}
use Rattle.audit_words.proofs.settings.read_setting.Goals as goal

pub run_setting-requires-clause-asks : goal.run_setting-requires-clause-asks
run_setting-requires-clause-asks c = c.in_ok-asks.ensures ∙ ap (λ t. filter_map definition.ask_of (definition.parts_between 44 t)) c.text_of.ensures

pub returns-in-Ok : goal.returns-in-Ok
returns-in-Ok c =
    let region : c.in_ok-region.region ≡ definition.text_of command.Check (pairs_in c.args.words.now) name.Region = c.in_ok-region.ensures ∙ c.text_of-2.ensures in
    let source : c.eq.result ≡ bytes_eq (definition.text_of command.Check (pairs_in c.args.words.now) name.Source) (codes "yes") =
    c.eq.ensures ∙ ap (λ t. bytes_eq t (codes "yes")) c.text_of-in-Ok.ensures in
    rw (
      c.in-Ok.ensures,
      region,
      c.limits_of.ensures.max_split,
      c.limits_of.ensures.max_splits,
      c.limits_of.ensures.max_split_regions,
      c.limits_of.ensures.group_districts,
      c.limits_of.ensures.group_share,
      c.limits_of.ensures.max_length,
      source,
    ) at c.run_setting.ensures
