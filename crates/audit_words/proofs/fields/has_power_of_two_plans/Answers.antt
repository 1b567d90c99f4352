use Rattle.std.proofs.Common.{◌+◌, ◌∙◌, ap, arith}
use Rattle.audit_model.specs.Power.{is_power_of_two}
use Rattle.audit_words.proofs.Powers.{powers_agree}
use Rattle.audit_words.proofs.fields.has_power_of_two_plans.Goals as goal

pub returns : goal.returns
returns c =
    c.is_power_of_two.ensures ∙ powers_agree (c.from.result + 1) (omega (arith, c.from.ensures)) ∙ ap (λ n. is_power_of_two (n + 1)) c.from.ensures
