-- A constraint with all rules takes the plans of a job.
use Rattle.std.proofs.Common.{◌≡◌, ◌∙◌, ℕ, ◌≤◌, true, List, [], length, refl, sym, inl, inr, arith}
use Rattle.std.specs.Prelude.{◌==◌, ◌⊎◌}
use Rattle.std.proofs.lemmas.Bool.{eq-eqb, le-leb, or_right}
use Rattle.audit_model.specs.declared.rules.Group.{Group}
use Rattle.audit_model.specs.declared.rules.Rules.{Rules}
use Rattle.audit_model.specs.Job.{Job, rules}
use Rattle.audit_model.specs.Limits.{IsGroup, IsWithinLimits}
use Rattle.flip_kernel.specs.Judged.{TakesPlansOf}
use Rattle.region_guard.specs.Standing.{is_fitting, is_for}

-- a list fits the units if it is empty or has an entry for each unit
for_units : (units : ℕ) (entries : List ℕ) → ((entries ≡ []) ⊎ (length entries ≡ units)) → is_for units entries ≡ true
for_units units entries (inl none) = rw none refl
for_units units entries (inr long) = or_right (length entries == 0) (length entries == units) (eq-eqb (length entries) units long)

-- a group is empty, or has an entry for each unit
group_for : (units : ℕ) (group : Group) → IsGroup units group → (group.members ≡ []) ⊎ (length group.members ≡ units)
group_for units group (inl none) = inl none.0
group_for units group (inr columns) = inr columns.0.width

-- a group of some units fits its own number of entries, which is at most the number of units
pub own_group : (units : ℕ) (group : Group) → IsGroup units group → IsGroup (length group.members) group × (length group.members ≤ units)
own_group units group (inl none) = (inl none, rw none.0 (omega arith))
own_group units group (inr columns) = (
  inr (record { width = refl; small = columns.0.small }, record { width = columns.1.width ∙ sym columns.0.width; small = columns.1.small }),
  omega (arith, columns.0.width),
)

-- the plans of the job fit the constraint
pub takes_plans : (job : Job) (by : Rules) (districts : ℕ) → IsWithinLimits job → by ≡ rules job → districts ≡ job.districts
    → TakesPlansOf job (is_fitting by districts)
takes_plans job by districts within same count above few =
    let regioned : is_for job.graph.units by.regions ≡ true = rw same (for_units job.graph.units job.regions within.regions.width) in
    let grouped : is_for job.graph.units by.group.members ≡ true =
    rw same (for_units job.graph.units job.group.members (group_for job.graph.units job.group within.group)) in
    let freezing : is_for job.graph.units by.frozen ≡ true = rw same (for_units job.graph.units job.frozen within.frozen) in
    let below : above ≤ districts = rw count few in
    rw (regioned, grouped, freezing, le-leb above districts below) refl
