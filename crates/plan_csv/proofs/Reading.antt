-- The faults of the input in their order, and its jobs.
use Rattle.std.proofs.Common.{◌≡◌, ℕ, zero, suc, arith, List, ◌∷◌, Option, Some, None, Result, Ok, Err, refl, sym, ap, ◌∙◌, subst, inl, inr}
use Rattle.std.specs.Prelude.{◌⊎◌}
use Rattle.std.specs.List.{All}
use Rattle.audit_model.specs.declared.fault.GraphFault.{GraphFault}
use Rattle.audit_model.specs.declared.fault.GraphFault.TheVariants as graph
use Rattle.audit_model.specs.declared.fault.PlanFault.{PlanFault}
use Rattle.audit_model.specs.declared.origin.Origin.{Origin}
use Rattle.audit_model.specs.declared.plans.Assigned.{Assigned}
use Rattle.audit_model.specs.declared.setting.Label.{Label}
use Rattle.audit_model.specs.declared.setting.Setting.{Setting}
use Rattle.audit_model.specs.Job.{Job}
use Rattle.audit_model.specs.JobOf.{IsJob, job_from, job_of, job_or, plan_fault}
use Rattle.audit_model.specs.Parsed.{Parsed}
use Rattle.audit_model.specs.Several.{named_jobs}
use Rattle.audit_model.proofs.Jobs.{setting_of_job}
use Rattle.audit_statement.specs.Reading.{reading}
use Rattle.audit_statement.specs.Regions.{id_reading}
use Rattle.audit_statement.specs.Table.{graph_part, table_part, table_reading}
use Rattle.audit_model.specs.declared.fault.PlansFault.{PlansFault}
use Rattle.audit_model.specs.declared.fault.PlansFault.TheVariants as fault
use Rattle.plan_csv.specs.Refusals.{graph_end}
use Rattle.plan_csv.specs.Named.{IsOneOf}
use Rattle.plan_csv.specs.Shared.{AreShared}
use Rattle.audit_statement.specs.Jobs.{Jobs, from_graph, from_others, from_own, from_table, jobs_reading}
use Rattle.audit_statement.specs.Origin.{origin_of, with_origin}
use Rattle.plan_csv.specs.declared.named.Named.{Named}
use Rattle.plan_csv.specs.JobStages.{IsOwn, IsOwnFault}

-- ---- each fault

-- a fault of the graph is the first of all
pub graph_refused : (setting : Setting) (origin : Option Origin) (g t : List ℕ) (r : Result Parsed GraphFault) (f : GraphFault) → (f ≡ graph.Memory) ⊎ (r ≡ Err f)
    → (graph_end f ≡ fault.Memory) ⊎ (from_graph setting origin g t r ≡ Err (graph_end f))
graph_refused setting origin g t r graph.Memory e = inl refl
graph_refused setting origin g t r f (inl e) = cc e
graph_refused setting origin g t r f (inr e) = inr (ap (from_graph setting origin g t) e)

-- ---- facts about the graph's own job

module _ (p : Parsed) (setting : Setting) (regions : List ℕ) (job : Job) where
  pub own_keeps : job_of p setting regions ≡ Ok job → job_from p setting regions ≡ job
  unfolding job_of
  own_keeps e = by (plan_fault (job_from p setting regions)) e
    where
      by : (o : Option PlanFault) → job_or (job_from p setting regions) o ≡ Ok job → job_from p setting regions ≡ job
      by None h = cc h
      by (Some f) h = cc h

-- the graph's own job with an origin has the graph's units and the setting
module _ (p : Parsed) (setting : Setting) (origin : Option Origin) (regions : List ℕ) (n : Named) (is : IsOwn setting origin p regions n) where
  pub own_units : n.job.graph.units ≡ p.graph.units
  own_units = ap (λ (j : Job). j.graph.units) (is.observed ∙ sym (ap (with_origin origin) (own_keeps p setting regions is.job is.made)))

  pub own_setting : n.job.setting ≡ setting
  own_setting = ap (λ (j : Job). j.setting) is.observed ∙ setting_of_job p setting regions is.job is.made

-- ---- after the table

module _ (p : Parsed) (setting : Setting) (origin : Option Origin) (regions t g : List ℕ) (ids : List Label) (plans : List Assigned) (are : ids ≡ id_reading g) (read : table_reading t ids ≡ Ok plans) where
  tables : from_table setting origin p regions (table_reading t (id_reading g)) ≡ from_own setting.columns.district origin plans (job_of p setting regions)
  tables = sym (ap (λ (is : List Label). from_table setting origin p regions (table_reading t is)) are) ∙ ap (from_table setting origin p regions) read

  pub own_fails : (f : PlansFault) → (f ≡ fault.Memory) ⊎ IsOwnFault (job_of p setting regions) f
      → (f ≡ fault.Memory) ⊎ (from_table setting origin p regions (table_reading t (id_reading g)) ≡ Err f)
  own_fails f (inl e) = inl e
  own_fails f (inr by) = inr (tables ∙ ap (from_own setting.columns.district origin plans) by.1 ∙ ap Err (sym by.2))

  pub own_joins : (n : Named) → IsOwn setting origin p regions n → from_table setting origin p regions (table_reading t (id_reading g)) ≡ from_others n.name n.job (named_jobs n.job plans)
  own_joins n is =
      tables ∙ ap (from_own setting.columns.district origin plans) is.made
      ∙ ap (λ (job : Job). from_others setting.columns.district job (named_jobs job plans)) (sym is.observed)
      ∙ ap (λ (name : List ℕ). from_others name n.job (named_jobs n.job plans)) (sym is.named)

-- the jobs of the bytes come from the graph before the line feed and the table after it, with all bytes as origin
pub jobs_are : (setting : Setting) (bytes : List ℕ) (origin : Option Origin) (g t : List ℕ) (r : Result Parsed GraphFault) → origin ≡ origin_of setting bytes
    → g ≡ graph_part bytes → t ≡ table_part bytes → reading g setting.columns ≡ r → jobs_reading setting bytes ≡ from_graph setting origin g t r
unfolding jobs_reading
jobs_are setting bytes origin g t r origin_is graph_is table_is is =
    sym (ap (λ (o : Option Origin). from_graph setting o (graph_part bytes) (table_part bytes) (reading (graph_part bytes) setting.columns)) origin_is)
    ∙ sym (ap (λ (x : List ℕ). from_graph setting origin x (table_part bytes) (reading x setting.columns)) graph_is)
    ∙ sym (ap (λ (x : List ℕ). from_graph setting origin g x (reading g setting.columns)) table_is)
    ∙ ap (from_graph setting origin g t) is

-- a property of the first item and of the others holds of all
pub all_first : {A : Type 0} (P : A → Type 0) → (x : A) (xs : List A) → P x → All P xs → All P (x ∷ xs)
all_first P x xs here rest zero d l = here
all_first P x xs here rest (suc k) d l = rest k d (omega (arith, l))

-- jobs of one setting, one list of regions, one group and one list of frozen units share them
pub shared_with : (n : Named) (ns : List Named) → IsJob n.job → All (IsOneOf n.job.setting n.job.regions n.job.group n.job.frozen) ns → AreShared n.job.setting (n ∷ ns)
shared_with n ns sound each = record {
  some = omega arith;
  regions = n.job.regions;
  group = n.job.group;
  frozen = n.job.frozen;
  each = all_first (IsOneOf n.job.setting n.job.regions n.job.group n.job.frozen) n ns (record { sound = sound; set = refl; regioned = refl; grouped = refl; freezing = refl }) each;
}

-- the graph is refused
module _ (setting : Setting) (bytes g t : List ℕ) (g_is : g ≡ graph_part bytes) (t_is : t ≡ table_part bytes) where
  pub graph_fails : (f : GraphFault) → (f ≡ graph.Memory) ⊎ (reading g setting.columns ≡ Err f) → (e : PlansFault) → e ≡ graph_end f
      → (e ≡ fault.Memory) ⊎ (jobs_reading setting bytes ≡ Err e)
  graph_fails f fails e is = subst (λ (x : PlansFault). (x ≡ fault.Memory) ⊎ (jobs_reading setting bytes ≡ Err x)) (sym is)
      (subst (λ (X : Result Jobs PlansFault). (graph_end f ≡ fault.Memory) ⊎ (X ≡ Err (graph_end f)))
      (sym (jobs_are setting bytes (origin_of setting bytes) g t (reading g setting.columns) refl g_is t_is refl))
      (graph_refused setting (origin_of setting bytes) g t (reading g setting.columns) f fails))
