use Rattle.std.proofs.Common.{ℕ, List, get_or, sym, ◌∙◌, arith}
use Rattle.region_guard.specs.declared.splits.SplitCounts.{SplitCounts}
use Rattle.std.proofs.Math.ListN.{set}
use Rattle.region_guard.proofs.Moves.{from_below, to_below, row_below, from_inside, to_inside, some_there, room_there, moved, stands_after, small_place, stands_as, none_stand}
use Rattle.region_guard.proofs.Steps.{sure_step}
use Rattle.region_guard.proofs.guard.RegionGuard.move_region.Goals as goal

pub returns-then-len-eq0-clause-stands : goal.returns-then-len-eq0-clause-stands
returns-then-len-eq0-clause-stands g c =
    let regions : List ℕ = c.args.self.now.rules.regions in
    let after : List ℕ = c.args.after.now in
    let most : ℕ = c.args.self.now.rules.max_split in
    let districts : ℕ = c.args.self.now.districts in
    let splits : SplitCounts = c.args.self.now.splits in
    none_stand regions most districts splits _ after (sym c.len.ensures ∙ c.if-len-eq0.true) c.requires.stood

pub split_with-wide-requires-clause-step : goal.split_with-wide-requires-clause-step
split_with-wide-requires-clause-step g c =
    let regions : List ℕ = c.args.self.now.rules.regions in
    let after : List ℕ = c.args.after.now in
    let most : ℕ = c.args.self.now.rules.max_split in
    let districts : ℕ = c.args.self.now.districts in
    let splits : SplitCounts = c.args.self.now.splits in
    (sure_step regions districts after c.args.unit c.args.from c.requires.step (λ none. c.if-len-eq0.false (c.len.ensures ∙ none)))

pub totals_with-totals-requires-clause-step : goal.totals_with-totals-requires-clause-step
totals_with-totals-requires-clause-step g c =
    let regions : List ℕ = c.args.self.now.rules.regions in
    let after : List ℕ = c.args.after.now in
    let most : ℕ = c.args.self.now.rules.max_split in
    let districts : ℕ = c.args.self.now.districts in
    let splits : SplitCounts = c.args.self.now.splits in
    (sure_step regions districts after c.args.unit c.args.from c.requires.step (λ none. c.if-len-eq0.false (c.len.ensures ∙ none)))

pub overflow_mul-row : goal.overflow_mul-row
overflow_mul-row g c =
    let regions : List ℕ = c.args.self.now.rules.regions in
    let after : List ℕ = c.args.after.now in
    let most : ℕ = c.args.self.now.rules.max_split in
    let districts : ℕ = c.args.self.now.districts in
    let splits : SplitCounts = c.args.self.now.splits in
    let place = small_place regions districts splits c.region_of-region.result c.args.from c.requires.table (row_below regions after most districts c.args.unit c.args.from (sure_step regions districts after c.args.unit c.args.from c.requires.step (λ none. c.if-len-eq0.false (c.len.ensures ∙ none))) splits c.region_of-region.result c.requires.table c.requires.stood c.region_of-region.ensures)
    (from_below regions after most districts c.args.unit c.args.from (sure_step regions districts after c.args.unit c.args.from c.requires.step (λ none. c.if-len-eq0.false (c.len.ensures ∙ none)))) in
    omega (arith, place)

pub overflow_add-row : goal.overflow_add-row
overflow_add-row g c =
    let regions : List ℕ = c.args.self.now.rules.regions in
    let after : List ℕ = c.args.after.now in
    let most : ℕ = c.args.self.now.rules.max_split in
    let districts : ℕ = c.args.self.now.districts in
    let splits : SplitCounts = c.args.self.now.splits in
    let place = small_place regions districts splits c.region_of-region.result c.args.from c.requires.table (row_below regions after most districts c.args.unit c.args.from (sure_step regions districts after c.args.unit c.args.from c.requires.step (λ none. c.if-len-eq0.false (c.len.ensures ∙ none))) splits c.region_of-region.result c.requires.table c.requires.stood c.region_of-region.ensures)
    (from_below regions after most districts c.args.unit c.args.from (sure_step regions districts after c.args.unit c.args.from c.requires.step (λ none. c.if-len-eq0.false (c.len.ensures ∙ none)))) in
    omega (arith, place)

pub overflow_add-row-2 : goal.overflow_add-row-2
overflow_add-row-2 g c =
    let regions : List ℕ = c.args.self.now.rules.regions in
    let after : List ℕ = c.args.after.now in
    let most : ℕ = c.args.self.now.rules.max_split in
    let districts : ℕ = c.args.self.now.districts in
    let splits : SplitCounts = c.args.self.now.splits in
    let place = small_place regions districts splits c.region_of-region.result (get_or after c.args.unit 0) c.requires.table (row_below regions after most districts c.args.unit c.args.from (sure_step regions districts after c.args.unit c.args.from c.requires.step (λ none. c.if-len-eq0.false (c.len.ensures ∙ none))) splits c.region_of-region.result c.requires.table c.requires.stood c.region_of-region.ensures)
    (to_below regions after most districts c.args.unit c.args.from (sure_step regions districts after c.args.unit c.args.from c.requires.step (λ none. c.if-len-eq0.false (c.len.ensures ∙ none)))) in
    omega (arith, place)

pub move_unit-requires-clause-from : goal.move_unit-requires-clause-from
move_unit-requires-clause-from g c =
    let regions : List ℕ = c.args.self.now.rules.regions in
    let after : List ℕ = c.args.after.now in
    let most : ℕ = c.args.self.now.rules.max_split in
    let districts : ℕ = c.args.self.now.districts in
    let splits : SplitCounts = c.args.self.now.splits in
    from_inside regions after most districts c.args.unit c.args.from (sure_step regions districts after c.args.unit c.args.from c.requires.step (λ none. c.if-len-eq0.false (c.len.ensures ∙ none))) splits c.region_of-region.result c.requires.table c.requires.stood c.region_of-region.ensures

pub move_unit-requires-clause-to : goal.move_unit-requires-clause-to
move_unit-requires-clause-to g c =
    let regions : List ℕ = c.args.self.now.rules.regions in
    let after : List ℕ = c.args.after.now in
    let most : ℕ = c.args.self.now.rules.max_split in
    let districts : ℕ = c.args.self.now.districts in
    let splits : SplitCounts = c.args.self.now.splits in
    to_inside regions after most districts c.args.unit c.args.from (sure_step regions districts after c.args.unit c.args.from c.requires.step (λ none. c.if-len-eq0.false (c.len.ensures ∙ none))) splits c.region_of-region.result c.requires.table c.requires.stood c.region_of-region.ensures

pub move_unit-requires-clause-some : goal.move_unit-requires-clause-some
move_unit-requires-clause-some g c =
    let regions : List ℕ = c.args.self.now.rules.regions in
    let after : List ℕ = c.args.after.now in
    let most : ℕ = c.args.self.now.rules.max_split in
    let districts : ℕ = c.args.self.now.districts in
    let splits : SplitCounts = c.args.self.now.splits in
    some_there regions after most districts c.args.unit c.args.from (sure_step regions districts after c.args.unit c.args.from c.requires.step (λ none. c.if-len-eq0.false (c.len.ensures ∙ none))) splits c.region_of-region.result c.requires.table c.requires.stood c.region_of-region.ensures c.requires.apart

pub move_unit-requires-clause-room : goal.move_unit-requires-clause-room
move_unit-requires-clause-room g c =
    let regions : List ℕ = c.args.self.now.rules.regions in
    let after : List ℕ = c.args.after.now in
    let most : ℕ = c.args.self.now.rules.max_split in
    let districts : ℕ = c.args.self.now.districts in
    let splits : SplitCounts = c.args.self.now.splits in
    room_there regions after most districts c.args.unit c.args.from (sure_step regions districts after c.args.unit c.args.from c.requires.step (λ none. c.if-len-eq0.false (c.len.ensures ∙ none))) splits c.region_of-region.result c.requires.table c.requires.stood c.region_of-region.ensures c.requires.apart

pub set_width-requires : goal.set_width-requires
set_width-requires g c =
    let regions : List ℕ = c.args.self.now.rules.regions in
    let after : List ℕ = c.args.after.now in
    let most : ℕ = c.args.self.now.rules.max_split in
    let districts : ℕ = c.args.self.now.districts in
    let splits : SplitCounts = c.args.self.now.splits in
    record { region = row_below regions after most districts c.args.unit c.args.from (sure_step regions districts after c.args.unit c.args.from c.requires.step (λ none. c.if-len-eq0.false (c.len.ensures ∙ none))) splits c.region_of-region.result c.requires.table c.requires.stood c.region_of-region.ensures }

pub returns-clause-stands : goal.returns-clause-stands
returns-clause-stands g c =
    let regions : List ℕ = c.args.self.now.rules.regions in
    let after : List ℕ = c.args.after.now in
    let most : ℕ = c.args.self.now.rules.max_split in
    let districts : ℕ = c.args.self.now.districts in
    let splits : SplitCounts = c.args.self.now.splits in
    stands_as regions most districts (moved regions after most districts c.args.unit c.args.from (sure_step regions districts after c.args.unit c.args.from c.requires.step (λ none. c.if-len-eq0.false (c.len.ensures ∙ none))) splits c.region_of-region.result c.requires.table c.requires.stood c.region_of-region.ensures) _ (set splits.widths c.region_of-region.result c.split_with-wide.result) _ c.totals_with-totals.result after c.move_unit.ensures c.set_width.ensures
    (stands_after regions after most districts c.args.unit c.args.from (sure_step regions districts after c.args.unit c.args.from c.requires.step (λ none. c.if-len-eq0.false (c.len.ensures ∙ none))) splits c.region_of-region.result c.requires.table c.requires.stood c.region_of-region.ensures c.requires.apart c.split_with-wide.result c.totals_with-totals.result c.split_with-wide.ensures c.totals_with-totals.ensures)
