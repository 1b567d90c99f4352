use Rattle.std.proofs.Common.{◌∙◌, ap, [], ◌∷◌, length, length-append, arith}
use Rattle.audit_model.specs.Trajectory.{outcome}
use Rattle.audit_statement.specs.Draw.{draw}
use Rattle.claim_counter.specs.declared.record.PassRecord.{PassRecord}
use Rattle.claim_counter.specs.Passes.{own}
use Rattle.claim_counter.proofs.Sharing.{shared_more}
use Rattle.claim_counter.proofs.worker.Worker.run.Goals as goal

pub loop-place-preserved : goal.loop-place-preserved
loop-place-preserved g c =
    let was = c.loop-place.invariant.at_work in
    let kept = c.loop-place.invariant.kept_room in
    let drawn = c.in-Some.ensures.number in
    let items = c.append.ensures.items in
    let more = ap (λ (p : PassRecord). length p.claims) drawn ∙ length-append (own c.loop-place.pass).claims (c.in-Some.place ∷ []) in
    record {
      at_work = record {
        made = c.walk.ensures.made;
        pass = c.claim.ensures.pass;
        going = ap (λ (p : PassRecord). p.ended) drawn ∙ was.going;
        weight = ap (λ (p : PassRecord). p.weight) drawn ∙ was.weight;
        spare = ap (λ (p : PassRecord). p.spare) drawn ∙ was.spare;
        shared = shared_more c.args.job.now c.args.todo.now (own c.loop-place.pass).claims _ c.in-Some.place c.loop-place.share.items _ c.walk.result
            was.shared (ap (λ (p : PassRecord). p.claims) drawn) items (c.walk.ensures.outcome ∙ ap (outcome c.args.job.now (draw c.args.job.now.setting.key)) c.announce-token.ensures);
        walked = λ few.
            let before = was.walked (omega (arith, few, more)) in
            omega (arith, more, before, c.walk.ensures.counted (omega (arith, few, more, before)));
        room = omega (arith, was.room, c.append.ensures.spare, ap length items, length-append c.loop-place.share.items (c.walk.result ∷ []));
      };
      kept_room = omega (arith, kept, c.append.ensures.spare, ap length items, length-append c.loop-place.share.items (c.walk.result ∷ []));
    }
