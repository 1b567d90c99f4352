use Rattle.std.proofs.Common.{ℕ, ◌+◌, ◌-◌, ◌*◌, List, length, get_or, refl, arith}
use Rattle.audit_model.specs.declared.rules.Group.{Group}
use Rattle.region_guard.specs.declared.majority.GroupTally.{GroupTally}
use Rattle.std.specs.Prelude.{nat_lt}
use Rattle.region_guard.proofs.Cells.{one_if, one_small}
use Rattle.region_guard.proofs.Tallying.{home_below, target_below, few_members, few_share, few_share_less, few_share_more, few_whole, unit_members, unit_whole, some_members, some_whole, stayed, few_majorities, enough_for_home, enough_for_both, majorities_found}
use Rattle.region_guard.proofs.majority.GroupTally.majorities_after.Goals as goal

pub majority_without-left-requires-clause-members : goal.majority_without-left-requires-clause-members
majority_without-left-requires-clause-members c =
    let group : Group = c.args.group.now in
    let tally : GroupTally = c.args.self.now in
    let after : List ℕ = c.args.after.now in
    home_below group (length {A = ℕ} tally.members) tally after c.args.unit c.args.from c.requires.table c.requires.step c.requires.stood

pub majority_without-left-requires-clause-whole : goal.majority_without-left-requires-clause-whole
majority_without-left-requires-clause-whole c =
    let group : Group = c.args.group.now in
    let tally : GroupTally = c.args.self.now in
    let after : List ℕ = c.args.after.now in
    omega (arith, home_below group (length {A = ℕ} tally.members) tally after c.args.unit c.args.from c.requires.table c.requires.step c.requires.stood, c.requires.table.whole)

pub majority_without-left-requires-clause-some_members : goal.majority_without-left-requires-clause-some_members
majority_without-left-requires-clause-some_members c =
    let group : Group = c.args.group.now in
    let tally : GroupTally = c.args.self.now in
    let after : List ℕ = c.args.after.now in
    some_members group (length {A = ℕ} tally.members) tally after c.args.unit c.args.from c.requires.table c.requires.step c.requires.stood c.if-to-from.false

pub majority_without-left-requires-clause-some_whole : goal.majority_without-left-requires-clause-some_whole
majority_without-left-requires-clause-some_whole c =
    let group : Group = c.args.group.now in
    let tally : GroupTally = c.args.self.now in
    let after : List ℕ = c.args.after.now in
    some_whole group (length {A = ℕ} tally.members) tally after c.args.unit c.args.from c.requires.table c.requires.step c.requires.stood c.if-to-from.false

pub majority_without-left-requires-clause-few : goal.majority_without-left-requires-clause-few
majority_without-left-requires-clause-few c =
    let group : Group = c.args.group.now in
    let tally : GroupTally = c.args.self.now in
    let after : List ℕ = c.args.after.now in
    omega (arith, few_members group (length {A = ℕ} tally.members) tally after c.args.unit c.args.from c.requires.table c.requires.step c.requires.stood c.args.from (home_below group (length {A = ℕ} tally.members) tally after c.args.unit c.args.from c.requires.table c.requires.step c.requires.stood))

pub majority_beside-entered-requires-clause-members : goal.majority_beside-entered-requires-clause-members
majority_beside-entered-requires-clause-members c =
    let group : Group = c.args.group.now in
    let tally : GroupTally = c.args.self.now in
    let after : List ℕ = c.args.after.now in
    target_below group (length {A = ℕ} tally.members) tally after c.args.unit c.args.from c.requires.table c.requires.step c.requires.stood

pub majority_beside-entered-requires-clause-whole : goal.majority_beside-entered-requires-clause-whole
majority_beside-entered-requires-clause-whole c =
    let group : Group = c.args.group.now in
    let tally : GroupTally = c.args.self.now in
    let after : List ℕ = c.args.after.now in
    omega (arith, target_below group (length {A = ℕ} tally.members) tally after c.args.unit c.args.from c.requires.table c.requires.step c.requires.stood, c.requires.table.whole)

pub majority_beside-entered-requires-clause-few : goal.majority_beside-entered-requires-clause-few
majority_beside-entered-requires-clause-few c =
    let group : Group = c.args.group.now in
    let tally : GroupTally = c.args.self.now in
    let after : List ℕ = c.args.after.now in
    omega (arith, few_members group (length {A = ℕ} tally.members) tally after c.args.unit c.args.from c.requires.table c.requires.step c.requires.stood (get_or c.args.after.now c.args.unit 0) (target_below group (length {A = ℕ} tally.members) tally after c.args.unit c.args.from c.requires.table c.requires.step c.requires.stood), unit_members group (length {A = ℕ} tally.members) tally after c.args.unit c.args.from c.requires.table c.requires.step c.requires.stood)

pub majority_beside-entered-requires-clause-few_sum : goal.majority_beside-entered-requires-clause-few_sum
majority_beside-entered-requires-clause-few_sum c =
    let group : Group = c.args.group.now in
    let tally : GroupTally = c.args.self.now in
    let after : List ℕ = c.args.after.now in
    omega (arith, few_whole group (length {A = ℕ} tally.members) tally after c.args.unit c.args.from c.requires.table c.requires.step c.requires.stood (get_or c.args.after.now c.args.unit 0) (target_below group (length {A = ℕ} tally.members) tally after c.args.unit c.args.from c.requires.table c.requires.step c.requires.stood), unit_whole group (length {A = ℕ} tally.members) tally after c.args.unit c.args.from c.requires.table c.requires.step c.requires.stood)

pub overflow_add-result : goal.overflow_add-result
overflow_add-result c =
    let group : Group = c.args.group.now in
    let tally : GroupTally = c.args.self.now in
    let after : List ℕ = c.args.after.now in
    omega (arith, few_majorities group (length {A = ℕ} tally.members) tally after c.args.unit c.args.from c.requires.table c.requires.step c.requires.stood c.if-to-from.false, c.majority_without-left.ensures, one_small (nat_lt (tally.share * (get_or tally.whole c.args.from 0 - get_or group.whole c.args.unit 0)) (10000 * (get_or tally.members c.args.from 0 - get_or group.members c.args.unit 0))))

pub overflow_add-result-2 : goal.overflow_add-result-2
overflow_add-result-2 c =
    let group : Group = c.args.group.now in
    let tally : GroupTally = c.args.self.now in
    let after : List ℕ = c.args.after.now in
    omega (arith, few_majorities group (length {A = ℕ} tally.members) tally after c.args.unit c.args.from c.requires.table c.requires.step c.requires.stood c.if-to-from.false, c.majority_without-left.ensures, one_small (nat_lt (tally.share * (get_or tally.whole c.args.from 0 - get_or group.whole c.args.unit 0)) (10000 * (get_or tally.members c.args.from 0 - get_or group.members c.args.unit 0))), c.majority_beside-entered.ensures, one_small (nat_lt (tally.share * (get_or tally.whole (get_or c.args.after.now c.args.unit 0) 0 + get_or group.whole c.args.unit 0)) (10000 * (get_or tally.members (get_or c.args.after.now c.args.unit 0) 0 + get_or group.members c.args.unit 0))))

pub majority_in-requires-clause-members : goal.majority_in-requires-clause-members
majority_in-requires-clause-members c =
    let group : Group = c.args.group.now in
    let tally : GroupTally = c.args.self.now in
    let after : List ℕ = c.args.after.now in
    home_below group (length {A = ℕ} tally.members) tally after c.args.unit c.args.from c.requires.table c.requires.step c.requires.stood

pub majority_in-requires-clause-whole : goal.majority_in-requires-clause-whole
majority_in-requires-clause-whole c =
    let group : Group = c.args.group.now in
    let tally : GroupTally = c.args.self.now in
    let after : List ℕ = c.args.after.now in
    omega (arith, home_below group (length {A = ℕ} tally.members) tally after c.args.unit c.args.from c.requires.table c.requires.step c.requires.stood, c.requires.table.whole)

pub majority_in-requires-clause-few : goal.majority_in-requires-clause-few
majority_in-requires-clause-few c =
    let group : Group = c.args.group.now in
    let tally : GroupTally = c.args.self.now in
    let after : List ℕ = c.args.after.now in
    omega (arith, few_members group (length {A = ℕ} tally.members) tally after c.args.unit c.args.from c.requires.table c.requires.step c.requires.stood c.args.from (home_below group (length {A = ℕ} tally.members) tally after c.args.unit c.args.from c.requires.table c.requires.step c.requires.stood))

pub overflow_sub-result : goal.overflow_sub-result
overflow_sub-result c =
    let group : Group = c.args.group.now in
    let tally : GroupTally = c.args.self.now in
    let after : List ℕ = c.args.after.now in
    let home : ℕ = c.majority_in.result in
    let there : ℕ = one_if (nat_lt (tally.share * get_or tally.whole (get_or c.args.after.now c.args.unit 0) 0) (10000 * get_or tally.members (get_or c.args.after.now c.args.unit 0) 0)) in
    enough_for_home group (length {A = ℕ} tally.members) tally after c.args.unit c.args.from c.requires.table c.requires.step c.requires.stood c.if-to-from.false c.majority_without-left.result c.majority_beside-entered.result home there
    c.majority_without-left.ensures c.majority_beside-entered.ensures c.majority_in.ensures refl

pub majority_in-requires-2-clause-members : goal.majority_in-requires-2-clause-members
majority_in-requires-2-clause-members c =
    let group : Group = c.args.group.now in
    let tally : GroupTally = c.args.self.now in
    let after : List ℕ = c.args.after.now in
    target_below group (length {A = ℕ} tally.members) tally after c.args.unit c.args.from c.requires.table c.requires.step c.requires.stood

pub majority_in-requires-2-clause-whole : goal.majority_in-requires-2-clause-whole
majority_in-requires-2-clause-whole c =
    let group : Group = c.args.group.now in
    let tally : GroupTally = c.args.self.now in
    let after : List ℕ = c.args.after.now in
    omega (arith, target_below group (length {A = ℕ} tally.members) tally after c.args.unit c.args.from c.requires.table c.requires.step c.requires.stood, c.requires.table.whole)

pub majority_in-requires-2-clause-few : goal.majority_in-requires-2-clause-few
majority_in-requires-2-clause-few c =
    let group : Group = c.args.group.now in
    let tally : GroupTally = c.args.self.now in
    let after : List ℕ = c.args.after.now in
    omega (arith, few_members group (length {A = ℕ} tally.members) tally after c.args.unit c.args.from c.requires.table c.requires.step c.requires.stood (get_or c.args.after.now c.args.unit 0) (target_below group (length {A = ℕ} tally.members) tally after c.args.unit c.args.from c.requires.table c.requires.step c.requires.stood))

pub overflow_sub-result-2 : goal.overflow_sub-result-2
overflow_sub-result-2 c =
    let group : Group = c.args.group.now in
    let tally : GroupTally = c.args.self.now in
    let after : List ℕ = c.args.after.now in
    let both = enough_for_both group (length {A = ℕ} tally.members) tally after c.args.unit c.args.from c.requires.table c.requires.step c.requires.stood c.if-to-from.false c.majority_without-left.result c.majority_beside-entered.result c.majority_in.result c.majority_in-2.result
    c.majority_without-left.ensures c.majority_beside-entered.ensures c.majority_in.ensures c.majority_in-2.ensures in
    omega (arith, both)

pub returns-then-to-from : goal.returns-then-to-from
returns-then-to-from c =
    let group : Group = c.args.group.now in
    let tally : GroupTally = c.args.self.now in
    let after : List ℕ = c.args.after.now in
    stayed group (length {A = ℕ} tally.members) tally after c.args.unit c.args.from c.requires.table c.requires.step c.requires.stood c.if-to-from.true

pub returns : goal.returns
returns c =
    let group : Group = c.args.group.now in
    let tally : GroupTally = c.args.self.now in
    let after : List ℕ = c.args.after.now in
    majorities_found group (length {A = ℕ} tally.members) tally after c.args.unit c.args.from c.requires.table c.requires.step c.requires.stood c.if-to-from.false c.majority_without-left.result c.majority_beside-entered.result c.majority_in.result c.majority_in-2.result
    c.majority_without-left.ensures c.majority_beside-entered.ensures c.majority_in.ensures c.majority_in-2.ensures

pub majority_without-left-requires-clause-few_whole : goal.majority_without-left-requires-clause-few_whole
majority_without-left-requires-clause-few_whole c =
    let group : Group = c.args.group.now in
    let tally : GroupTally = c.args.self.now in
    let after : List ℕ = c.args.after.now in
    few_share_less group (length {A = ℕ} tally.members) tally after c.args.unit c.args.from c.requires.table c.requires.step c.requires.stood c.args.from (get_or group.whole c.args.unit 0) (home_below group (length {A = ℕ} tally.members) tally after c.args.unit c.args.from c.requires.table c.requires.step c.requires.stood)

pub majority_beside-entered-requires-clause-few_whole : goal.majority_beside-entered-requires-clause-few_whole
majority_beside-entered-requires-clause-few_whole c =
    let group : Group = c.args.group.now in
    let tally : GroupTally = c.args.self.now in
    let after : List ℕ = c.args.after.now in
    few_share_more group (length {A = ℕ} tally.members) tally after c.args.unit c.args.from c.requires.table c.requires.step c.requires.stood (get_or c.args.after.now c.args.unit 0) (get_or group.whole c.args.unit 0) (target_below group (length {A = ℕ} tally.members) tally after c.args.unit c.args.from c.requires.table c.requires.step c.requires.stood) (unit_whole group (length {A = ℕ} tally.members) tally after c.args.unit c.args.from c.requires.table c.requires.step c.requires.stood)

pub majority_in-requires-clause-few_whole : goal.majority_in-requires-clause-few_whole
majority_in-requires-clause-few_whole c =
    let group : Group = c.args.group.now in
    let tally : GroupTally = c.args.self.now in
    let after : List ℕ = c.args.after.now in
    few_share group (length {A = ℕ} tally.members) tally after c.args.unit c.args.from c.requires.table c.requires.step c.requires.stood c.args.from (home_below group (length {A = ℕ} tally.members) tally after c.args.unit c.args.from c.requires.table c.requires.step c.requires.stood)

pub majority_in-requires-2-clause-few_whole : goal.majority_in-requires-2-clause-few_whole
majority_in-requires-2-clause-few_whole c =
    let group : Group = c.args.group.now in
    let tally : GroupTally = c.args.self.now in
    let after : List ℕ = c.args.after.now in
    few_share group (length {A = ℕ} tally.members) tally after c.args.unit c.args.from c.requires.table c.requires.step c.requires.stood (get_or c.args.after.now c.args.unit 0) (target_below group (length {A = ℕ} tally.members) tally after c.args.unit c.args.from c.requires.table c.requires.step c.requires.stood)
