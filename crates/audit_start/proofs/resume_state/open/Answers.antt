use Rattle.std.proofs.Common.{◌≡◌, ◌∙◌, List, false, refl, sym, ap, subst}
use Rattle.audit_model.specs.declared.outcome.Outcome.{Outcome}
use Rattle.audit_model.specs.declared.setting.Setting.{Setting}
use Rattle.ckpt_store.specs.Fitting.{AreFit}
use Rattle.audit_statement.specs.Endings.{AreInitialOutcomes}
use Rattle.audit_laws.proofs.Starting.{fresh_initial_outcomes, none_fit}
use Rattle.audit_start.proofs.Started.{no_target}
use Rattle.audit_start.proofs.resume_state.open.Goals as goal

pub returns : goal.returns
returns g c =
    let fresh : c.args.job.now.setting.resume ≡ false = ap (λ (s : Setting). s.resume) (sym c.setting-setting.ensures.value) ∙ c.if-setting.false in
    let unsaved : c.args.job.now.setting.save_every ≡ 0 = ap (λ (s : Setting). s.save_every) (sym c.setting-setting.ensures.value) ∙ c.if-setting-ne0.false in
    record {
      same = refl;
      opened = record {
        run = c.requires;
        opened = subst (λ (os : List Outcome). AreInitialOutcomes c.args.job.now (g.C.Keeper.state c.args.keeper.now).slots os) (sym c.new.ensures) (fresh_initial_outcomes c.args.job.now _ fresh);
        fit = subst (λ (os : List Outcome). AreFit c.args.job.now os) (sym c.new.ensures) (none_fit c.args.job.now);
        target = no_target c.args.job.now _ unsaved;
      };
    }
