use Rattle.std.proofs.Common.{◌≡◌, ◌∙◌, ℕ, List, ap, arith}
use Rattle.std.specs.Prelude.{unwrap_or}
use Rattle.audit_model.specs.declared.fault.Name.{Name}
use Rattle.audit_model.specs.declared.fault.Name.TheVariants as name
use Rattle.audit_model.specs.declared.setting.Command.TheVariants as command
use Rattle.audit_model.specs.declared.setting.Setting.{Setting}
use Rattle.audit_statement.specs.Words as definition
use Rattle.audit_words.specs.ArgumentBytes.{pairs_in}
use Rattle.audit_words.proofs.ValidValues.{number-bounds}
use Rattle.audit_words.proofs.Ranges.{good_range}
use Rattle.audit_words.proofs.settings.trace_setting.Goals as goal

-- a setting with this range and this number of steps between plans
showing : Setting → ℕ → ℕ → ℕ → Setting
showing s first last thin = record s { first_id = first; last_id = last; thin = thin }

-- the number that a text spells
number : List ℕ → ℕ
number text = unwrap_or (definition.number_of text) 0

pub returns : goal.returns
unfolding showing number
returns c =
    let words = pairs_in c.args.words.now in
    let text : Name → List ℕ = definition.text_of command.Check words in
    let range = good_range words c.requires.ids in
    let run = definition.as_run command.Trace words in
    let first_text : c.range_of.result.0.now ≡ definition.first_of_range (text name.Ids) = c.range_of.ensures.first ∙ ap definition.first_of_range c.text_of.ensures in
    let last_text : c.range_of.result.1.now ≡ definition.last_of_range (text name.Ids) = c.range_of.ensures.last ∙ ap definition.last_of_range c.text_of.ensures in
    let first_is : number c.range_of.result.0.now ≡ definition.first_id command.Check words = ap number first_text in
    let last_is : number c.range_of.result.1.now ≡ definition.last_id command.Check words = ap number last_text in
    let first : c.number_in-first_id.result ≡ definition.first_id command.Check words = c.number_in-first_id.ensures (omega (arith, first_is, range.few_first)) ∙ first_is in
    let last : c.number_in-last_id.result ≡ definition.last_id command.Check words = c.number_in-last_id.ensures (omega (arith, last_is, range.few_last)) ∙ last_is in
    let thin : c.number_at-thin.result ≡ definition.number_named command.Check words name.Thin =
    c.number_at-thin.ensures (omega (arith, (number-bounds 1 1000000000 (text name.Thin) c.requires.thin).1)) in
    ap (λ (s : Setting). showing s c.number_in-first_id.result c.number_in-last_id.result c.number_at-thin.result) c.in_ok-setting.ensures
    ∙ ap (λ (n : ℕ). showing run n c.number_in-last_id.result c.number_at-thin.result) first
    ∙ ap (λ (n : ℕ). showing run (definition.first_id command.Check words) n c.number_at-thin.result) last
    ∙ ap (λ (n : ℕ). showing run (definition.first_id command.Check words) (definition.last_id command.Check words) n) thin
