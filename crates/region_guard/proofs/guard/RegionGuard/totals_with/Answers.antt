use Rattle.std.proofs.Common.{◌≡◌, ℕ, ◌+◌, ◌-◌, not, List, sym, ap, ◌∙◌, subst, arith}
use Rattle.region_guard.specs.declared.splits.SplitCounts.{SplitCounts}
use Rattle.std.specs.Prelude.{nat_le, nat_lt}
use Rattle.region_guard.specs.declared.splits.Totals.{Totals}
use Rattle.region_guard.specs.Standing.{broken_in}
use Rattle.region_guard.proofs.Cells.{one_if}
use Rattle.region_guard.proofs.Moves.{stayed, row_below, some_broken, few_broken, broken_found, few_in_all, few_split_regions, few_wide, some_in_all, some_split_regions, totals_found}
use Rattle.region_guard.proofs.guard.RegionGuard.totals_with.Goals as goal

pub returns-then-after-unit : goal.returns-then-after-unit
returns-then-after-unit g c =
    let regions : List ℕ = c.args.self.now.rules.regions in
    let after : List ℕ = c.args.after.now in
    let most : ℕ = c.args.self.now.rules.max_split in
    let districts : ℕ = c.args.self.now.districts in
    let splits : SplitCounts = c.args.self.now.splits in
    stayed regions after most districts c.args.unit c.args.from c.requires.step splits c.requires.stood c.if-after-unit.true

pub width_of-width-requires : goal.width_of-width-requires
width_of-width-requires g c =
    let regions : List ℕ = c.args.self.now.rules.regions in
    let after : List ℕ = c.args.after.now in
    let most : ℕ = c.args.self.now.rules.max_split in
    let districts : ℕ = c.args.self.now.districts in
    let splits : SplitCounts = c.args.self.now.splits in
    record { region = row_below regions after most districts c.args.unit c.args.from c.requires.step splits c.region_of.result c.requires.table c.requires.stood c.region_of.ensures }

pub count_broken_after-broken-requires-clause-some : goal.count_broken_after-broken-requires-clause-some
count_broken_after-broken-requires-clause-some g c =
    let regions : List ℕ = c.args.self.now.rules.regions in
    let after : List ℕ = c.args.after.now in
    let most : ℕ = c.args.self.now.rules.max_split in
    let districts : ℕ = c.args.self.now.districts in
    let splits : SplitCounts = c.args.self.now.splits in
    λ h. some_broken regions after most districts c.args.unit c.args.from c.requires.step splits c.region_of.result c.requires.table c.requires.stood c.region_of.ensures (ap (λ x. nat_le x most) (sym c.width_of-width.ensures) ∙ h)

pub count_broken_after-broken-requires-clause-few : goal.count_broken_after-broken-requires-clause-few
count_broken_after-broken-requires-clause-few g c =
    let regions : List ℕ = c.args.self.now.rules.regions in
    let after : List ℕ = c.args.after.now in
    let most : ℕ = c.args.self.now.rules.max_split in
    let districts : ℕ = c.args.self.now.districts in
    let splits : SplitCounts = c.args.self.now.splits in
    few_broken regions after most districts c.args.unit c.args.from c.requires.step splits c.region_of.result c.requires.table c.requires.stood c.region_of.ensures

pub after_change-requires-clause-few_in_all : goal.after_change-requires-clause-few_in_all
after_change-requires-clause-few_in_all g c =
    let regions : List ℕ = c.args.self.now.rules.regions in
    let after : List ℕ = c.args.after.now in
    let most : ℕ = c.args.self.now.rules.max_split in
    let districts : ℕ = c.args.self.now.districts in
    let splits : SplitCounts = c.args.self.now.splits in
    few_in_all regions after most districts c.args.unit c.args.from c.requires.step splits c.region_of.result c.requires.table c.requires.stood c.region_of.ensures

pub after_change-requires-clause-few_split : goal.after_change-requires-clause-few_split
after_change-requires-clause-few_split g c =
    let regions : List ℕ = c.args.self.now.rules.regions in
    let after : List ℕ = c.args.after.now in
    let most : ℕ = c.args.self.now.rules.max_split in
    let districts : ℕ = c.args.self.now.districts in
    let splits : SplitCounts = c.args.self.now.splits in
    few_split_regions regions after most districts c.args.unit c.args.from c.requires.step splits c.region_of.result c.requires.table c.requires.stood c.region_of.ensures

pub after_change-requires-clause-few : goal.after_change-requires-clause-few
after_change-requires-clause-few g c =
    let regions : List ℕ = c.args.self.now.rules.regions in
    let after : List ℕ = c.args.after.now in
    let most : ℕ = c.args.self.now.rules.max_split in
    let districts : ℕ = c.args.self.now.districts in
    let splits : SplitCounts = c.args.self.now.splits in
    few_wide regions after most districts c.args.unit c.args.from c.requires.step splits c.region_of.result c.requires.table c.requires.stood c.region_of.ensures c.if-after-unit.false c.split_with-wide.result c.split_with-wide.ensures

pub after_change-requires-clause-some_in_all : goal.after_change-requires-clause-some_in_all
after_change-requires-clause-some_in_all g c =
    let regions : List ℕ = c.args.self.now.rules.regions in
    let after : List ℕ = c.args.after.now in
    let most : ℕ = c.args.self.now.rules.max_split in
    let districts : ℕ = c.args.self.now.districts in
    let splits : SplitCounts = c.args.self.now.splits in
    let some = some_in_all regions after most districts c.args.unit c.args.from c.requires.step splits c.region_of.result c.requires.table c.requires.stood c.region_of.ensures c.if-after-unit.false c.split_with-wide.result c.split_with-wide.ensures in
    omega (arith, some, c.width_of-width.ensures)

pub after_change-requires-clause-some_split : goal.after_change-requires-clause-some_split
after_change-requires-clause-some_split g c =
    let regions : List ℕ = c.args.self.now.rules.regions in
    let after : List ℕ = c.args.after.now in
    let most : ℕ = c.args.self.now.rules.max_split in
    let districts : ℕ = c.args.self.now.districts in
    let splits : SplitCounts = c.args.self.now.splits in
    let some = some_split_regions regions after most districts c.args.unit c.args.from c.requires.step splits c.region_of.result c.requires.table c.requires.stood c.region_of.ensures c.if-after-unit.false c.split_with-wide.result c.split_with-wide.ensures in
    omega (arith, some, ap (λ x. one_if (nat_lt 1 x)) c.width_of-width.ensures)

pub returns : goal.returns
returns g c =
    let regions : List ℕ = c.args.self.now.rules.regions in
    let after : List ℕ = c.args.after.now in
    let most : ℕ = c.args.self.now.rules.max_split in
    let districts : ℕ = c.args.self.now.districts in
    let splits : SplitCounts = c.args.self.now.splits in
    let wide : ℕ = c.split_with-wide.result in
    let b : ℕ = c.count_broken_after-broken.result in
    let is_broken : b ≡ broken_in regions most after = broken_found regions after most districts c.args.unit c.args.from c.requires.step splits c.region_of.result c.requires.table c.requires.stood c.region_of.ensures wide b c.split_with-wide.ensures
    (subst (λ w. b + one_if (not (nat_le w most)) ≡ splits.totals.broken + one_if (not (nat_le wide most))) c.width_of-width.ensures c.count_broken_after-broken.ensures) in
    totals_found regions after most districts c.args.unit c.args.from c.requires.step splits c.region_of.result c.requires.table c.requires.stood c.region_of.ensures c.if-after-unit.false c.split_with-wide.result c.split_with-wide.ensures b is_broken c.after_change.result
    (c.after_change.ensures ∙ ap (λ (w : ℕ). (let t : Totals = record { broken = b; in_all = splits.totals.in_all + wide - w; split = splits.totals.split + one_if (nat_lt 1 wide) - one_if (nat_lt 1 w) } in t)) c.width_of-width.ensures)
