use Rattle.std.proofs.Common.{◌≡◌, ◌∙◌, Option, IfSome, SFits, w64, subst, rules}
use Rattle.std.proofs.lemmas.Int.{to_z-of_z}
use Rattle.std.proofs.lemmas.Option.{slice_get-get_or}
use Rattle.audit_model.specs.declared.setting.Ask.{Ask}
use Rattle.audit_model.specs.Trajectory.{plan_value}
use Rattle.report.proofs.Pieces.{no_ask}
use Rattle.report.proofs.asks.start_value.Goals as goal

pub returns : goal.returns
returns c =
    let job = c.args.job.now in
    let fits : SFits w64 c.start_value.result = search rules in
    to_z-of_z w64 c.start_value.result fits
    ∙ subst (λ (found : Option Ask). IfSome found (λ asked. c.start_value.result ≡ plan_value job job.start asked.score))
    (slice_get-get_or job.setting.asks c.args.place no_ask c.requires) c.start_value.ensures
