use Rattle.std.proofs.Common.{ℕ, List, length, sym, ◌∙◌, subst, inl, inr, arith}
use Rattle.std.specs.Prelude.{nat_lt}
use Rattle.audit_model.specs.Below.{above_all}
use Rattle.audit_model.specs.declared.rules.Rules.{Rules}
use Rattle.audit_model.proofs.Below.{count_below_le}
use Rattle.audit_model.proofs.Meeting.{below_above_all}
use Rattle.region_guard.specs.Standing.{IsTable, IsTallied, cell}
use Rattle.region_guard.proofs.Moves.{none_above, stands_anew}
use Rattle.region_guard.proofs.Steps.{fit_parts, for_cases, no_more}
use Rattle.region_guard.proofs.guard.RegionGuardJudge.reset.Goals as goal

pub count_units-requires-clause-lengths : goal.count_units-requires-clause-lengths
count_units-requires-clause-lengths g c =
    let rules : Rules = c.args.self.now.rules in
    let plan : List ℕ = c.args.plan.now in
    let fit = fit_parts rules c.args.self.now.districts (length plan) (above_all plan) c.requires.plan in
    no_more (length plan) rules.regions fit.regions

pub count_units-requires-clause-regions : goal.count_units-requires-clause-regions
count_units-requires-clause-regions g c = λ u l.
    let regions : List ℕ = c.args.self.now.rules.regions in
    let table : IsTable regions c.args.self.now.districts c.args.self.now.splits = c.requires.kept.5 in
    omega (arith, below_above_all regions u l, c.len-rows.ensures, table.rows)

pub count_units-requires-clause-districts : goal.count_units-requires-clause-districts
count_units-requires-clause-districts g c = λ u l.
    let rules : Rules = c.args.self.now.rules in
    let plan : List ℕ = c.args.plan.now in
    let fit = fit_parts rules c.args.self.now.districts (length plan) (above_all plan) c.requires.plan in
    omega (arith, below_above_all plan u (omega (arith, l, no_more (length plan) rules.regions fit.regions)), fit.below)

pub count_totals-self-requires-clause-few_each : goal.count_totals-self-requires-clause-few_each
count_totals-self-requires-clause-few_each g c = λ q l.
    let districts : ℕ = c.args.self.now.districts in
    let cells : List ℕ = c.count_units.new.cells in
    let table : IsTable c.args.self.now.rules.regions districts c.args.self.now.splits = c.requires.kept.5 in
    let few = count_below_le districts (λ d. nat_lt 0 (cell districts cells q d)) in
    let is = c.count_widths.ensures.counted q (omega (arith, l, c.count_widths.ensures.places)) in
    omega (arith, is, few, table.few)

pub reset-requires-clause-entries : goal.reset-requires-clause-entries
reset-requires-clause-entries g c =
    let rules : Rules = c.args.self.now.rules in
    let plan : List ℕ = c.args.plan.now in
    let fit = fit_parts rules c.args.self.now.districts (length plan) (above_all plan) c.requires.plan in
    no_more (length plan) rules.group.members fit.group

pub reset-requires-clause-below : goal.reset-requires-clause-below
reset-requires-clause-below g c =
    let rules : Rules = c.args.self.now.rules in
    let plan : List ℕ = c.args.plan.now in
    let fit = fit_parts rules c.args.self.now.districts (length plan) (above_all plan) c.requires.plan in
    omega (arith, fit.below, c.requires.kept.6.members)

pub keeps_frozen-self-requires-clause-entries : goal.keeps_frozen-self-requires-clause-entries
keeps_frozen-self-requires-clause-entries g c =
    let rules : Rules = c.args.self.now.rules in
    let plan : List ℕ = c.args.plan.now in
    let fit = fit_parts rules c.args.self.now.districts (length plan) (above_all plan) c.requires.plan in
    no_more (length plan) rules.frozen fit.frozen

pub returns-clause-stands : goal.returns-clause-stands
returns-clause-stands g c =
    let rules : Rules = c.args.self.now.rules in
    let districts : ℕ = c.args.self.now.districts in
    let plan : List ℕ = c.args.plan.now in
    let cells : List ℕ = c.count_units.new.cells in
    let widths : List ℕ = c.count_widths.new.widths in
    let table : IsTable rules.regions districts c.args.self.now.splits = c.requires.kept.5 in
    let fit = fit_parts rules districts (length plan) (above_all plan) c.requires.plan in
    record {
      regions = stands_anew rules.regions rules.max_split districts (record { cells = cells; widths = widths; totals = c.count_totals-self.result }) plan
          (λ some. elim (for_cases (length plan) rules.regions fit.regions) [
            | inl none ↦ absurd (omega (arith, some, none_above rules.regions none))
            | inr all ↦ sym all
          ])
          fit.below (c.count_widths.ensures.places ∙ table.rows)
          (λ q d lq ld. c.count_units.ensures.counted q d (omega (arith, lq, c.count_widths.ensures.places, c.len-rows.ensures)) ld)
          (λ q lq. c.count_widths.ensures.counted q (omega (arith, lq, c.count_widths.ensures.places)))
          c.count_totals-self.ensures;
      group = subst (λ (n : ℕ). IsTallied rules.group n c.reset.new.self plan) c.requires.kept.6.members c.reset.ensures.stands;
      frozen = c.keeps_frozen-self.ensures;
    }
