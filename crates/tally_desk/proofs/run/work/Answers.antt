use Rattle.std.proofs.Common.{◌≡◌, All, length, rules, subst, sym}
use Rattle.std.proofs.lemmas.List.{with_items_is}
use Rattle.tally_desk.specs.Passes.{view_of}
use Rattle.tally_desk.specs.Pools.{IsDeskWorkerDone}
use Rattle.tally_desk.proofs.run.work.Goals as goal

pub gather-pass-requires-clause-workers : goal.gather-pass-requires-clause-workers
gather-pass-requires-clause-workers g c =
    let long : length c.walk_each.new.workers ≡ c.seat-workers.result.len = search rules in
    subst (All (IsDeskWorkerDone c.args.desk))
    (sym (with_items_is c.seat-workers.result c.walk_each.new.workers long)) c.walk_each.ensures

pub close-requires-clause-pass : goal.close-requires-clause-pass
close-requires-clause-pass g c = c.gather-pass.ensures.pass

pub close-requires-clause-ended : goal.close-requires-clause-ended
close-requires-clause-ended g c = c.gather-pass.ensures.ended

pub close-requires-clause-posted : goal.close-requires-clause-posted
close-requires-clause-posted g c = c.gather-pass.ensures.whole

pub returns : goal.returns
returns g c = (view_of c.gather-pass.result, c.close.ensures)
