-- The outcome of each trajectory fits the job and has its id.
use Rattle.std.proofs.Common.{◌≡◌, ◌∙◌, ℕ, ◌<◌, ◌≤◌, true, length, sym, ap}
use Rattle.audit_model.specs.declared.outcome.Outcome.{Outcome}
use Rattle.audit_model.specs.Job.{Job}
use Rattle.audit_model.specs.Run.{total, fits}
use Rattle.audit_model.specs.Trajectory.{outcome}
use Rattle.audit_statement.specs.Draw.{draw}
use Rattle.audit_model.proofs.Fitting.{outcome_id}
use Rattle.audit_model.proofs.Fitting as fitting
use Rattle.claim_counter.specs.Walks.{found}

-- the outcome found for an id of the job fits the job
pub found_fits : (job : Job) → length job.setting.asks ≤ 4 → (id : ℕ) → id < total job → fits job (found job id) ≡ true
unfolding found
found_fits job few id below = fitting.found_fits job (draw job.setting.key) job.setting.shift few id below

-- the outcome found for an id is that of the trajectory with its own id
pub found_right : (job : Job) (id : ℕ) → found job id ≡ outcome job (draw job.setting.key) (found job id).id
unfolding found
found_right job id = ap (outcome job (draw job.setting.key)) (sym (fitting.found_id job (draw job.setting.key) job.setting.shift id))

-- the outcome of a walk has the id of its start token
pub walked_id : (job : Job) (id observed : ℕ) (o : Outcome) → observed ≡ id → o ≡ outcome job (draw job.setting.key) observed → o.id ≡ id
walked_id job id observed o observed_is is = ap (λ (x : Outcome). x.id) is ∙ outcome_id job (draw job.setting.key) observed ∙ observed_is

-- the outcome of a walk is the one found for its own id
pub walked_found : (job key : Job) (id observed : ℕ) (o : Outcome) → job ≡ key → observed ≡ id → o ≡ outcome job (draw job.setting.key) observed → o ≡ found key o.id
unfolding found
walked_found job key id observed o same observed_is is =
    is ∙ ap (λ (j : Job). outcome j (draw j.setting.key) observed) same
    ∙ ap (outcome key (draw key.setting.key)) (sym (ap (λ (x : Outcome). x.id) is ∙ outcome_id job (draw job.setting.key) observed))
