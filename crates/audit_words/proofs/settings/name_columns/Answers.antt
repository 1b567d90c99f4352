use Rattle.std.proofs.Common.{◌∙◌, refl}
use Rattle.audit_words.proofs.settings.name_columns.Goals as goal

pub returns : goal.returns
returns c =
    c.in_ok-name_rules.ensures
    ∙ rw (
      c.in_ok-name_counts.ensures,
      c.requires,
      c.text_of.ensures,
      c.text_of-2.ensures,
      c.text_of-3.ensures,
      c.text_of-4.ensures,
      c.text_of-5.ensures,
      c.whole_column.ensures,
      c.text_of-6.ensures,
      c.text_of-7.ensures,
    ) refl
