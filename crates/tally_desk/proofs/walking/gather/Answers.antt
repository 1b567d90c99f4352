use Rattle.std.proofs.Common.{◌∙◌, ◌≡◌, ap, subst, sym, arith, true}
use Rattle.tally_desk.specs.declared.pass.DeskPass.{DeskPass}
use Rattle.tally_desk.specs.Passes.{Belongs, HasPostedAll, view_of}
use Rattle.tally_desk.specs.Views.{PassView}
use Rattle.tally_desk.specs.Pools.{IsDeskWorkerDone}
use Rattle.tally_desk.proofs.Wholes.{posts_stay_whole}
use Rattle.tally_desk.proofs.walking.gather.Goals as goal
use Rattle.std.proofs.lemmas.Bool.{and_from}
use Rattle.audit_model.proofs.ListFacts.{popped_last, popped_rest}

pub loop-worker-init : goal.loop-worker-init
loop-worker-init g c =
    let parts = c.args.desk.now.parts in
    let done = popped_last (IsDeskWorkerDone c.args.desk.now) _ _ c.in-Some.first c.requires.workers c.in-Some.ensures.items in
    let back = sym c.into_pass-pass.ensures in
    record {
      workers = popped_rest (IsDeskWorkerDone c.args.desk.now) _ _ c.in-Some.first c.requires.workers c.in-Some.ensures.items;
      pass = subst (Belongs c.args.desk.now) back done.belongs;
      ended = subst (λ (p : DeskPass). (view_of p).own.ended ≡ true) back done.ended;
      seats =
          let one : (view_of c.into_pass-pass.result).own.weight ≡ 1 = subst (λ (p : DeskPass). (view_of p).own.weight ≡ 1) back done.weight in
          let none : (view_of c.into_pass-pass.result).own.spare ≡ 0 = subst (λ (p : DeskPass). (view_of p).own.spare ≡ 0) back done.spare in
          let left = c.in-Some.ensures.len in
          omega arith;
      whole = subst (λ (p : DeskPass). HasPostedAll parts (view_of p)) back done.whole;
    }

pub join-pass-requires-clause-second : goal.join-pass-requires-clause-second
join-pass-requires-clause-second g c =
    let done = popped_last (IsDeskWorkerDone c.args.desk.now) _ _ c.in-Some-pop.worker c.loop-worker.invariant.workers c.in-Some-pop.ensures.items in
    subst (Belongs c.args.desk.now) (sym c.into_pass.ensures) done.belongs

pub loop-worker-preserved : goal.loop-worker-preserved
loop-worker-preserved g c =
    let parts = c.args.desk.now.parts in
    let was = c.loop-worker.invariant in
    let done = popped_last (IsDeskWorkerDone c.args.desk.now) _ _ c.in-Some-pop.worker was.workers c.in-Some-pop.ensures.items in
    let back = sym c.into_pass.ensures in
    let both = c.join-pass.ensures.both in
    let ended = subst (λ (p : DeskPass). (view_of p).own.ended ≡ true) back done.ended in
    let whole = subst (λ (p : DeskPass). HasPostedAll parts (view_of p)) back done.whole in
    record {
      workers = popped_rest (IsDeskWorkerDone c.args.desk.now) _ _ c.in-Some-pop.worker was.workers c.in-Some-pop.ensures.items;
      pass = c.join-pass.ensures.pass;
      ended = ap (λ (v : PassView). v.own.ended) both ∙ and_from _ _ was.ended ended;
      seats =
          let one : (view_of c.into_pass.result).own.weight ≡ 1 = subst (λ (p : DeskPass). (view_of p).own.weight ≡ 1) back done.weight in
          let none : (view_of c.into_pass.result).own.spare ≡ 0 = subst (λ (p : DeskPass). (view_of p).own.spare ≡ 0) back done.spare in
          let left = c.in-Some-pop.ensures.len in
          omega (arith, was.seats, ap (λ (v : PassView). v.own.weight) both, ap (λ (v : PassView). v.own.spare) both, one, none, left);
      whole = subst (HasPostedAll parts) (sym both) (posts_stay_whole.join parts (view_of c.loop-worker.pass) (view_of c.into_pass.result) was.whole whole);
    }
