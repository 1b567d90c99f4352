-- Plans of one graph and one setting agree in everything that their constraints are made of.
use Rattle.std.proofs.Common.{◌≡◌, ◌∙◌, ◌<◌, List, length, sym, subst}
use Rattle.std.specs.List.{All, slice_index_or}
use Rattle.audit_model.specs.JobOf.{IsJob}
use Rattle.plan_csv.specs.declared.named.Named.{Named}
use Rattle.plan_csv.specs.Named.{IsOneOf}
use Rattle.audit_run.specs.Alike.{MayRunTogether}

-- a job with the setting, the regions and the frozen units of another
pub record IsLike (first n : Named) : Type 0 where
  pub sound : IsJob n.job
  pub set : n.job.setting ≡ first.job.setting
  pub regioned : n.job.regions ≡ first.job.regions
  pub freezing : n.job.frozen ≡ first.job.frozen

-- a property of each plan holds for the first
pub of_first : (P : Named → Type 0) (named : List Named) (first : Named) → first ≡ slice_index_or named 0 first → 0 < length named → All P named → P first
of_first P named first is some all = subst P (sym is) (all 0 first some)

-- each plan agrees with the first
pub all_like : (named : List Named) (first : Named) → first ≡ slice_index_or named 0 first → MayRunTogether named → All (IsLike first) named
all_like named first is alike = λ k d inside.
    let here = alike.shared.each k d inside in
    let there = of_first (IsOneOf alike.setting alike.shared.regions alike.shared.group alike.shared.frozen) named first is alike.shared.some alike.shared.each in
    record { sound = here.sound; set = here.set ∙ sym there.set; regioned = here.regioned ∙ sym there.regioned; freezing = here.freezing ∙ sym there.freezing }
