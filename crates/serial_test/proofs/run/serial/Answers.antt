use Rattle.std.proofs.Common.{◌≡◌, ◌∙◌, ℕ, ◌+◌, ◌-◌, ◌≤◌, List, ap, sym, subst, arith}
use Rattle.audit_model.specs.declared.setting.Setting.{Setting}
use Rattle.audit_model.specs.Serially.{run_outcome}
use Rattle.audit_statement.specs.Draw.{draw}
use Rattle.serial_test.specs.Places.{ArePlaces}
use Rattle.serial_test.specs.Ranks.{HasRanks}
use Rattle.serial_test.proofs.Powers.{run_has_places}
use Rattle.serial_test.proofs.Ranking.{moves_few, ranks_found, ranks_within, serial_found}
use Rattle.serial_test.proofs.Settings.{run_setting}
use Rattle.audit_model.proofs.Mirror.{visit_stays_legal}
use Rattle.serial_test.proofs.run.serial.Goals as goal

pub place-start-requires : goal.place-start-requires
place-start-requires g c =
    let job = c.args.job.now in
    let steps : c.from.result ≡ job.setting.steps = c.from.ensures ∙ ap (λ (s : Setting). s.steps) c.setting-setting.ensures.value in
    subst (λ (n : ℕ). ArePlaces (n + 1)) (sym steps)
    (run_has_places job.setting.steps c.requires.some (run_setting job c.setting-setting.ensures.sound c.requires.some).few_steps c.requires.even)

pub overflow_add-result : goal.overflow_add-result
overflow_add-result g c =
    let job = c.args.job.now in
    let draws = draw job.setting.key in
    let steps = ap (λ (s : Setting). s.steps) c.setting-setting.ensures.value in
    let few = (run_setting job c.setting-setting.ensures.sound c.requires.some).few_steps in
    let ahead = moves_few job draws _ _ c.run-forward.result c.run-forward.ensures.outcome in
    let back = moves_few job draws _ _ c.run-backward.result c.run-backward.ensures.outcome in
    omega (arith, ahead, back, steps, few, c.place-start.ensures.within, c.from.ensures)

pub returns-clause-serial : goal.returns-clause-serial
returns-clause-serial g c =
    let job = c.args.job.now in
    let draws = draw job.setting.key in
    let steps : c.setting-setting.result.now.steps ≡ job.setting.steps = ap (λ (s : Setting). s.steps) c.setting-setting.ensures.value in
    serial_found job draws c.next-drawn.result (c.from.result + 1) c.place-start.result c.run-forward.result c.run-backward.result c.ranks.result
    (c.next-drawn.ensures.value
    ∙ ap (λ (key : List ℕ). draw key c.new-draws.result.stream c.new-draws.result.place) (c.new-draws.ensures.key ∙ ap (λ (s : Setting). s.key) c.setting-setting.ensures.value)
    ∙ ap (λ (stream : ℕ). draw job.setting.key stream c.new-draws.result.place) c.new-draws.ensures.stream
    ∙ ap (λ (place : ℕ). draw job.setting.key 8589934592 place) c.new-draws.ensures.place)
    (ap (λ (n : ℕ). n + 1) (c.from.ensures ∙ steps)) c.place-start.ensures.place
    c.run-forward.ensures.outcome
    (c.run-backward.ensures.outcome ∙ ap (λ (n : ℕ). run_outcome job draws 8589934594 (n - c.place-start.result)) steps)
    c.ranks.ensures

pub returns-clause-ranks : goal.returns-clause-ranks
returns-clause-ranks g c =
    let job = c.args.job.now in
    let draws = draw job.setting.key in
    let steps : c.setting-setting.result.now.steps ≡ job.setting.steps = ap (λ (s : Setting). s.steps) c.setting-setting.ensures.value in
    let inside : c.place-start.result ≤ job.setting.steps = omega (arith, steps, c.place-start.ensures.within, c.from.ensures) in
    subst (HasRanks job)
    (sym (c.ranks.ensures
    ∙ ranks_found job draws c.place-start.result c.run-forward.result c.run-backward.result c.run-forward.ensures.outcome
    (c.run-backward.ensures.outcome ∙ ap (λ (n : ℕ). run_outcome job draws 8589934594 (n - c.place-start.result)) steps)))
    (ranks_within job draws c.place-start.result inside (run_setting job c.setting-setting.ensures.sound c.requires.some).few_asks)

pub returns-clause-legal : goal.returns-clause-legal
returns-clause-legal g c =
    let job = c.args.job.now in
    let start = c.setting-setting.ensures.sound.legal in
    record {
      forward = λ step. visit_stays_legal job (draw job.setting.key 8589934593) job.start step start;
      backward = λ step. visit_stays_legal job (draw job.setting.key 8589934594) job.start step start;
    }
