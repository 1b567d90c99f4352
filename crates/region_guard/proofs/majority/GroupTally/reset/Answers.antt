use Rattle.std.proofs.Common.{ℕ, ◌^◌, get_or, length, arith}
use Rattle.std.proofs.lemmas.Nat.{mul-le}
use Rattle.audit_model.proofs.Meeting.{below_above_all}
use Rattle.region_guard.proofs.Tallying.{own_columns, small_sum, tallied_anew}
use Rattle.region_guard.proofs.majority.GroupTally.reset.Goals as goal

pub refill-requires-clause-districts : goal.refill-requires-clause-districts
refill-requires-clause-districts c = λ u l. let below = below_above_all c.args.plan.now u l in omega (arith, below, c.requires.below)

pub refill-requires-2-clause-districts : goal.refill-requires-2-clause-districts
refill-requires-2-clause-districts c = λ u l.
    let below = below_above_all c.args.plan.now u l in omega (arith, below, c.requires.below, c.requires.table.whole)

pub count_majorities-self-requires-clause-small : goal.count_majorities-self-requires-clause-small
count_majorities-self-requires-clause-small c = λ d l.
    let columns = own_columns c.args.group.now c.requires.table.columns in
    let sum = small_sum c.args.group.now.members c.args.plan.now d (λ u l. columns.0.small u 0 l) c.requires.entries c.requires.table.few_units in
    let is = c.refill.ensures.added d (omega (arith, l, c.refill.ensures.places)) in
    omega (arith, is, sum)

pub count_majorities-self-requires-clause-small_whole : goal.count_majorities-self-requires-clause-small_whole
count_majorities-self-requires-clause-small_whole c = λ d l.
    let columns = own_columns c.args.group.now c.requires.table.columns in
    let sum = small_sum c.args.group.now.whole c.args.plan.now d (λ u l. columns.1.small u 0 l) (omega (arith, columns.1.width, c.requires.entries)) (omega (arith, columns.1.width, c.requires.table.few_units)) in
    let is = c.refill-2.ensures.added d (omega (arith, l, c.refill.ensures.places, c.requires.table.whole)) in
    omega (arith, mul-le c.args.self.now.share (get_or c.refill-2.new.sums d 0) 10000 (10 ^ 14) c.requires.table.few_share (omega (arith, is, sum)))

pub returns-clause-stands : goal.returns-clause-stands
returns-clause-stands c =
    tallied_anew c.args.self.now.share c.args.group.now (length {A = ℕ} c.args.self.now.members) c.refill.new.sums c.refill-2.new.sums c.count_majorities-self.result c.args.plan.now
    c.requires.below c.refill.ensures.places c.refill.ensures.added
    (λ d l. c.refill-2.ensures.added d (omega (arith, l, c.requires.table.whole))) c.count_majorities-self.ensures
