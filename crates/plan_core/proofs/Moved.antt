-- A job with another origin.
use Rattle.std.proofs.Common.{◌≡◌, ◌∷◌, [], List, Option, Some, None, ℤ, refl, sym, ap, ◌∙◌}
use Rattle.std.proofs.Math.Path.{fun_ext}
use Rattle.std.specs.List.{slice_get}
use Rattle.audit_model.specs.declared.origin.Origin.{Origin}
use Rattle.audit_model.specs.declared.setting.Ask.{Ask}
use Rattle.audit_model.specs.Job.{Job}
use Rattle.audit_model.specs.JobOf.{IsJob}
use Rattle.plan_core.specs.Valued.{value_of, IsValued}

-- the job with that origin
abbrev moved : Job → Option Origin → Job
moved job origin = record job { origin = origin }

-- a job with another origin is a job
pub moved_is_job : (job : Job) (origin : Option Origin) → IsJob job → IsJob (record job { origin = origin })
moved_is_job job origin sound = record {
  within = record {
    input = sound.within.input;
    setting = sound.within.setting;
    regions = sound.within.regions;
    group = sound.within.group;
    frozen = sound.within.frozen;
  };
  votes = sound.votes;
  legal = record {
    complete = sound.legal.complete;
    in_range = sound.legal.in_range;
    connected = sound.legal.connected;
    balanced = sound.legal.balanced;
    meeting = sound.legal.meeting;
    short = sound.legal.short;
  };
}

-- the value of an ask does not depend on the origin
value_stays : (job : Job) (origin : Option Origin) (o : Option Ask) → value_of (moved job origin) o ≡ value_of job o
unfolding value_of
value_stays job origin None = refl
value_stays job origin (Some ask) = refl

-- the cached values stay valid
pub moved_is_valued : (job : Job) (origin : Option Origin) (values : List ℤ) → IsValued job values → IsValued (record job { origin = origin }) values
moved_is_valued job origin values valued =
    let asks = job.setting.asks in
    record {
      sound = moved_is_job job origin valued.sound;
      valued = valued.valued
          ∙ ap (λ (f : Option Ask → ℤ). f (slice_get asks 0) ∷ f (slice_get asks 1) ∷ f (slice_get asks 2) ∷ f (slice_get asks 3) ∷ [])
          (fun_ext (λ o. sym (value_stays job origin o)));
    }
