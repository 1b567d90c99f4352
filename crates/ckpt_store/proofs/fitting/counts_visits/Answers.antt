use Rattle.std.proofs.Common.{◌<◌, ◌≤◌, length, take, refl, ap, arith}
use Rattle.std.specs.Prelude.{nat_lt}
use Rattle.std.proofs.lemmas.Bool.{lt-ltb}
use Rattle.audit_model.specs.declared.setting.Setting.{Setting}
use Rattle.ckpt_store.proofs.Fits.{visits_of_walk}
use Rattle.ckpt_store.proofs.fitting.counts_visits.Goals as goal

pub returns-else-outcome-setting : goal.returns-else-outcome-setting
returns-else-outcome-setting c =
    let job = c.args.job.now in
    let outcome = c.args.outcome.now in
    let same = c.setting-setting.ensures.value in
    let walks = ap (λ (s : Setting). s.walks) same in
    let below : outcome.id < job.setting.walks = omega (arith, c.if-outcome-setting.false, walks) in
    let few : c.asks_of-asks.result ≤ length outcome.values = grind (arith, c.asks_of-asks.ensures.few) in
    visits_of_walk job outcome (nat_lt outcome.id job.setting.walks) c.are_visits.result c.asks_of-asks.result c.setting-setting.result.now.steps (take c.asks_of-asks.result outcome.values)
    (lt-ltb outcome.id job.setting.walks below) c.asks_of-asks.ensures.asks few (ap (λ (s : Setting). s.steps) same) c.are_visits.ensures refl
