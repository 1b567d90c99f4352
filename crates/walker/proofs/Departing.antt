-- A trajectory before its first step.
use Rattle.std.proofs.Common.{◌≡◌, ℕ, ◌+◌, ◌-◌, ◌*◌, ◌<◌, ◌≤◌, Bool, true, false, List, sym, ap, ◌∙◌, subst}
use Rattle.std.proofs.lemmas.Bool.{lt-ltb, le-ltb}
use Rattle.audit_model.specs.Job.{Job}
use Rattle.audit_model.specs.Trajectory.{hub}
use Rattle.audit_statement.specs.Along.{first_by, first_plan, is_walk, stream_by, stream_of}
use Rattle.audit_statement.specs.Draw.{draw}
use Rattle.flip_kernel.specs.ChainState.{ChainState}
use Rattle.walker.specs.Walked.{IsUnderWay, IsWalked, Under}
use Rattle.walker.proofs.Stepping.{walked_none}

-- the next draw is the first of a stream
pub record IsFresh (key : List ℕ) (stream : ℕ) (way : Under) : Type 0 where
  pub key_is : way.draws.key ≡ key
  pub stream_is : way.draws.stream ≡ stream
  pub first : way.draws.place ≡ 0
  pub unmoved : way.moved ≡ 0

module _ (job : Job) (id : ℕ) (current : ChainState) (way : Under) (made : current.job ≡ job) where
  departed : (b : Bool) → is_walk job id ≡ b → current.plan ≡ first_by b job (draw job.setting.key) → IsFresh job.setting.key (stream_by b job id) way → IsUnderWay job id 0 current way
  departed b is at fresh = record {
    walked = subst (λ (n : ℕ). IsWalked job job.setting.key (stream_of job id) (first_plan job (draw job.setting.key) id) 0 current way.draws n) (sym fresh.unmoved)
        (walked_none job job.setting.key (stream_of job id) (first_plan job (draw job.setting.key) id) current way.draws made
        (at ∙ ap (λ (c : Bool). first_by c job (draw job.setting.key)) (sym is)) fresh.key_is (fresh.stream_is ∙ ap (λ (c : Bool). stream_by c job id) (sym is)) fresh.first);
  }

  -- a walk starts from the start plan
  pub departed_walk : id < job.setting.walks → current.plan ≡ job.start → IsFresh job.setting.key (2 * id) way → IsUnderWay job id 0 current way
  departed_walk below at fresh = departed true (lt-ltb id job.setting.walks below) at fresh

  -- an endpoint trajectory starts from the hub
  pub departed_end : job.setting.walks ≤ id → current.plan ≡ hub job (draw job.setting.key) → IsFresh job.setting.key (2 * (id - job.setting.walks) + 3) way → IsUnderWay job id 0 current way
  departed_end above at fresh = departed false (le-ltb id job.setting.walks above) at fresh
