use Rattle.std.proofs.Common.{◌∙◌, List, [], ◌∷◌, ap, arith, length, length-append, refl, subst, sym}
use Rattle.audit_model.specs.declared.outcome.Outcome.{Outcome}
use Rattle.claim_counter.specs.declared.record.PassRecord.{PassRecord}
use Rattle.tally_desk.specs.Pools.{IsAtDesk}
use Rattle.tally_desk.specs.Passes.{view_of}
use Rattle.tally_desk.specs.Unposted.{HoldsRest}
use Rattle.tally_desk.specs.Views.{PassView}
use Rattle.tally_desk.proofs.Found.{walked_found, walked_id}
use Rattle.tally_desk.proofs.Unposted.{all_posted, claimed_buffered, ended_buffered}
use Rattle.tally_desk.proofs.worker.DeskWorker.run.Goals as goal

pub loop-id-init : goal.loop-id-init
loop-id-init g c = record {
  at_desk = subst (λ (buffered : List Outcome). IsAtDesk c.args.desk.now c.args.self.now.walker c.args.self.now.pass buffered)
      (sym c.requires.unstarted.buffered.blank) c.requires.unstarted.at_desk;
  room = refl;
}

pub hand_in-requires : goal.hand_in-requires
hand_in-requires g c =
    let parts = c.args.desk.now.parts in
    let right = walked_found c.args.job.now c.args.desk.now.parts.job c.in-Some.id c.announce-token.result c.walk-outcome.result c.requires.shared.same c.announce-token.ensures c.walk-outcome.ensures.outcome in
    let named = walked_id c.args.job.now c.in-Some.id c.announce-token.result c.walk-outcome.result c.announce-token.ensures c.walk-outcome.ensures.outcome in
    record {
      belongs = c.in-Some.ensures.pass;
      rest = claimed_buffered parts c.in-Some.id (view_of c.loop-id.pass) (view_of c.claim.new.pass) c.loop-id.buffered.items c.walk-outcome.result c.loop-id.invariant.at_desk.holds.rest
          c.in-Some.ensures.claimed right named;
    }

pub loop-id-preserved : goal.loop-id-preserved
loop-id-preserved g c =
    let was = c.loop-id.invariant.at_desk in
    let claimed = c.in-Some.ensures.claimed in
    let own = c.hand_in.ensures.own in
    let more =
    ap (λ (r : PassRecord). length r.claims) own
    ∙ ap (λ (v : PassView). length v.own.claims) claimed.view
    ∙ length-append (view_of c.loop-id.pass).own.claims (claimed.place ∷ []) in
    record {
      at_desk = record {
        walks = c.walk-outcome.ensures.made ∙ c.requires.shared.same;
        walked = λ few.
            let before = was.walked (omega (arith, few, more)) in
            omega (arith, more, before, c.walk-outcome.ensures.counted (omega (arith, few, more, before)));
        holds = c.hand_in.ensures.holds;
        going = ap (λ (r : PassRecord). r.ended) own ∙ ap (λ (v : PassView). v.own.ended) claimed.view ∙ was.going;
        weight = ap (λ (r : PassRecord). r.weight) own ∙ ap (λ (v : PassView). v.own.weight) claimed.view ∙ was.weight;
        spare = ap (λ (r : PassRecord). r.spare) own ∙ ap (λ (v : PassView). v.own.spare) claimed.view ∙ was.spare;
      };
      room = c.hand_in.ensures.room ∙ c.loop-id.invariant.room;
    }

pub post_all-requires : goal.post_all-requires
post_all-requires g c =
    let parts = c.args.desk.now.parts in
    record {
      belongs = c.claim.ensures.pass;
      rest = subst (λ (v : PassView). HoldsRest parts v c.loop-id.buffered.items) (sym c.in_default.ensures.end)
          (ended_buffered parts (view_of c.loop-id.pass) c.loop-id.buffered.items c.loop-id.invariant.at_desk.holds.rest);
    }

pub returns-clause-done : goal.returns-clause-done
returns-clause-done g c =
    let was = c.loop-id.invariant.at_desk in
    let end = c.in_default.ensures.end in
    let own = c.post_all.ensures.own in
    record {
      belongs = c.post_all.ensures.holds.belongs;
      ended = ap (λ (r : PassRecord). r.ended) own ∙ ap (λ (v : PassView). v.own.ended) end;
      weight = ap (λ (r : PassRecord). r.weight) own ∙ ap (λ (v : PassView). v.own.weight) end ∙ was.weight;
      spare = ap (λ (r : PassRecord). r.spare) own ∙ ap (λ (v : PassView). v.own.spare) end ∙ was.spare;
      whole = all_posted c.args.desk.now.parts (view_of c.post_all.new.pass) c.post_all.ensures.holds.rest;
      walked = λ few.
          let same = ap (λ (r : PassRecord). length r.claims) own ∙ ap (λ (v : PassView). length v.own.claims) end in
          was.walked (omega (arith, few, same)) ∙ sym same;
    }
