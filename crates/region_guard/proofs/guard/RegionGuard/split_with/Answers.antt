use Rattle.std.proofs.Common.{ℕ, List}
use Rattle.region_guard.specs.declared.splits.SplitCounts.{SplitCounts}
use Rattle.region_guard.proofs.Moves.{row_below, from_below, to_below, some_width, few_width, split_found}
use Rattle.region_guard.proofs.guard.RegionGuard.split_with.Goals as goal

pub wide_after-requires-clause-region : goal.wide_after-requires-clause-region
wide_after-requires-clause-region g c =
    let regions : List ℕ = c.args.self.now.rules.regions in
    let after : List ℕ = c.args.after.now in
    let most : ℕ = c.args.self.now.rules.max_split in
    let districts : ℕ = c.args.self.now.districts in
    let splits : SplitCounts = c.args.self.now.splits in
    row_below regions after most districts c.args.unit c.args.from c.requires.step splits c.region_of-region.result c.requires.table c.requires.stood c.region_of-region.ensures

pub wide_after-requires-clause-from : goal.wide_after-requires-clause-from
wide_after-requires-clause-from g c =
    let regions : List ℕ = c.args.self.now.rules.regions in
    let after : List ℕ = c.args.after.now in
    let most : ℕ = c.args.self.now.rules.max_split in
    let districts : ℕ = c.args.self.now.districts in
    let splits : SplitCounts = c.args.self.now.splits in
    from_below regions after most districts c.args.unit c.args.from c.requires.step

pub wide_after-requires-clause-to : goal.wide_after-requires-clause-to
wide_after-requires-clause-to g c =
    let regions : List ℕ = c.args.self.now.rules.regions in
    let after : List ℕ = c.args.after.now in
    let most : ℕ = c.args.self.now.rules.max_split in
    let districts : ℕ = c.args.self.now.districts in
    let splits : SplitCounts = c.args.self.now.splits in
    to_below regions after most districts c.args.unit c.args.from c.requires.step

pub wide_after-requires-clause-some : goal.wide_after-requires-clause-some
wide_after-requires-clause-some g c =
    let regions : List ℕ = c.args.self.now.rules.regions in
    let after : List ℕ = c.args.after.now in
    let most : ℕ = c.args.self.now.rules.max_split in
    let districts : ℕ = c.args.self.now.districts in
    let splits : SplitCounts = c.args.self.now.splits in
    λ one. some_width regions after most districts c.args.unit c.args.from c.requires.step splits c.region_of-region.result c.requires.table c.requires.stood c.region_of-region.ensures c.requires.apart

pub wide_after-requires-clause-narrow : goal.wide_after-requires-clause-narrow
wide_after-requires-clause-narrow g c =
    let regions : List ℕ = c.args.self.now.rules.regions in
    let after : List ℕ = c.args.after.now in
    let most : ℕ = c.args.self.now.rules.max_split in
    let districts : ℕ = c.args.self.now.districts in
    let splits : SplitCounts = c.args.self.now.splits in
    few_width regions after most districts c.args.unit c.args.from c.requires.step splits c.region_of-region.result c.requires.table c.requires.stood c.region_of-region.ensures c.requires.apart

pub returns : goal.returns
returns g c =
    let regions : List ℕ = c.args.self.now.rules.regions in
    let after : List ℕ = c.args.after.now in
    let most : ℕ = c.args.self.now.rules.max_split in
    let districts : ℕ = c.args.self.now.districts in
    let splits : SplitCounts = c.args.self.now.splits in
    split_found regions after most districts c.args.unit c.args.from c.requires.step splits c.region_of-region.result c.requires.table c.requires.stood c.region_of-region.ensures c.requires.apart c.wide_after.result c.wide_after.ensures
