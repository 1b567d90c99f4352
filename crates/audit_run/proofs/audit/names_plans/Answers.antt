use Rattle.std.proofs.Common.{ap, arith, rules, sym}
use Rattle.std.proofs.lemmas.Grind.{common_steps}
use Rattle.audit_statement.specs.Several.{names_plans}
use Rattle.audit_words.specs.ArgumentBytes.{argument_bytes}
use Rattle.audit_words.proofs.Reading.{argument_bytes-empty}
use Rattle.audit_run.proofs.audit.names_plans.Goals as goal

pub returns-in_default : goal.returns-in_default
returns-in_default c = ap names_plans (sym (argument_bytes-empty c.args.words.now c.in_default.ensures.cases))

pub returns : goal.returns
returns c =
    rw (ap argument_bytes c.in-Some.ensures.cases.0, ← c.as_str.ensures.value) (first_of (search rules, grind (arith, common_steps)))
