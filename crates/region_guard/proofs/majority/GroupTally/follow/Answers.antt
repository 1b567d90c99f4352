use Rattle.std.proofs.Common.{ℕ, ◌-◌, List, length, get_or, arith}
use Rattle.audit_model.specs.declared.rules.Group.{Group}
use Rattle.region_guard.specs.declared.majority.GroupTally.{GroupTally}
use Rattle.std.proofs.lemmas.List.{get_or-set_other}
use Rattle.region_guard.proofs.Tallying.{home_below, target_below, few_members, few_whole, unit_members, unit_whole, some_members, some_whole, tallied_after}
use Rattle.region_guard.proofs.majority.GroupTally.follow.Goals as goal

pub shift-requires-clause-from : goal.shift-requires-clause-from
shift-requires-clause-from c =
    let group : Group = c.args.group.now in
    let tally : GroupTally = c.args.self.now in
    let after : List ℕ = c.args.after.now in
    home_below group (length {A = ℕ} tally.members) tally after c.args.unit c.args.from c.requires.table c.requires.step c.requires.stood

pub shift-requires-clause-to : goal.shift-requires-clause-to
shift-requires-clause-to c =
    let group : Group = c.args.group.now in
    let tally : GroupTally = c.args.self.now in
    let after : List ℕ = c.args.after.now in
    target_below group (length {A = ℕ} tally.members) tally after c.args.unit c.args.from c.requires.table c.requires.step c.requires.stood

pub shift-requires-clause-some : goal.shift-requires-clause-some
shift-requires-clause-some c =
    let group : Group = c.args.group.now in
    let tally : GroupTally = c.args.self.now in
    let after : List ℕ = c.args.after.now in
    some_members group (length {A = ℕ} tally.members) tally after c.args.unit c.args.from c.requires.table c.requires.step c.requires.stood c.requires.apart

pub shift-requires-clause-room : goal.shift-requires-clause-room
shift-requires-clause-room c =
    let group : Group = c.args.group.now in
    let tally : GroupTally = c.args.self.now in
    let after : List ℕ = c.args.after.now in
    let still = get_or-set_other tally.members c.args.from (get_or c.args.after.now c.args.unit 0) (get_or tally.members c.args.from 0 - get_or group.members c.args.unit 0) 0 c.requires.apart in
    omega (arith, still, few_members group (length {A = ℕ} tally.members) tally after c.args.unit c.args.from c.requires.table c.requires.step c.requires.stood (get_or c.args.after.now c.args.unit 0) (target_below group (length {A = ℕ} tally.members) tally after c.args.unit c.args.from c.requires.table c.requires.step c.requires.stood), unit_members group (length {A = ℕ} tally.members) tally after c.args.unit c.args.from c.requires.table c.requires.step c.requires.stood)

pub shift-requires-2-clause-from : goal.shift-requires-2-clause-from
shift-requires-2-clause-from c =
    let group : Group = c.args.group.now in
    let tally : GroupTally = c.args.self.now in
    let after : List ℕ = c.args.after.now in
    omega (arith, home_below group (length {A = ℕ} tally.members) tally after c.args.unit c.args.from c.requires.table c.requires.step c.requires.stood, c.requires.table.whole)

pub shift-requires-2-clause-to : goal.shift-requires-2-clause-to
shift-requires-2-clause-to c =
    let group : Group = c.args.group.now in
    let tally : GroupTally = c.args.self.now in
    let after : List ℕ = c.args.after.now in
    omega (arith, target_below group (length {A = ℕ} tally.members) tally after c.args.unit c.args.from c.requires.table c.requires.step c.requires.stood, c.requires.table.whole)

pub shift-requires-2-clause-some : goal.shift-requires-2-clause-some
shift-requires-2-clause-some c =
    let group : Group = c.args.group.now in
    let tally : GroupTally = c.args.self.now in
    let after : List ℕ = c.args.after.now in
    some_whole group (length {A = ℕ} tally.members) tally after c.args.unit c.args.from c.requires.table c.requires.step c.requires.stood c.requires.apart

pub shift-requires-2-clause-room : goal.shift-requires-2-clause-room
shift-requires-2-clause-room c =
    let group : Group = c.args.group.now in
    let tally : GroupTally = c.args.self.now in
    let after : List ℕ = c.args.after.now in
    let still = get_or-set_other tally.whole c.args.from (get_or c.args.after.now c.args.unit 0) (get_or tally.whole c.args.from 0 - get_or group.whole c.args.unit 0) 0 c.requires.apart in
    omega (arith, still, few_whole group (length {A = ℕ} tally.members) tally after c.args.unit c.args.from c.requires.table c.requires.step c.requires.stood (get_or c.args.after.now c.args.unit 0) (target_below group (length {A = ℕ} tally.members) tally after c.args.unit c.args.from c.requires.table c.requires.step c.requires.stood), unit_whole group (length {A = ℕ} tally.members) tally after c.args.unit c.args.from c.requires.table c.requires.step c.requires.stood)

pub returns-clause-stands : goal.returns-clause-stands
returns-clause-stands c =
    let group : Group = c.args.group.now in
    let tally : GroupTally = c.args.self.now in
    let after : List ℕ = c.args.after.now in
    tallied_after group (length {A = ℕ} tally.members) tally after c.args.unit c.args.from c.requires.table c.requires.step c.requires.stood c.requires.apart _ _ c.majorities_after-majorities.result
    c.shift.ensures c.shift-2.ensures c.majorities_after-majorities.ensures
