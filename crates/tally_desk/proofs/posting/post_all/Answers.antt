use Rattle.std.proofs.Common.{◌∙◌, ap}
use Rattle.tally_desk.specs.Passes.{view_of}
use Rattle.tally_desk.specs.Views.{PassView}
use Rattle.tally_desk.proofs.Unposted.{holds_fewer, may_post_buffered, same_buffered}
use Rattle.tally_desk.proofs.posting.post_all.Goals as goal

pub post-requires-clause-claimed : goal.post-requires-clause-claimed
post-requires-clause-claimed g c =
    let parts = c.args.desk.now.parts in
    let buffered = same_buffered c.args.desk.now c.loop-outcome.pass _ _ c.in-Some.ensures.items c.loop-outcome.invariant.holds in
    (may_post_buffered parts (view_of c.loop-outcome.pass) c.pop.new.self.items c.in-Some.outcome buffered.rest).claimed

pub post-requires-clause-unposted : goal.post-requires-clause-unposted
post-requires-clause-unposted g c =
    let parts = c.args.desk.now.parts in
    let buffered = same_buffered c.args.desk.now c.loop-outcome.pass _ _ c.in-Some.ensures.items c.loop-outcome.invariant.holds in
    (may_post_buffered parts (view_of c.loop-outcome.pass) c.pop.new.self.items c.in-Some.outcome buffered.rest).unposted

pub loop-outcome-preserved : goal.loop-outcome-preserved
loop-outcome-preserved g c =
    let was = c.loop-outcome.invariant in
    let buffered = same_buffered c.args.desk.now c.loop-outcome.pass _ _ c.in-Some.ensures.items was.holds in
    record {
      holds = holds_fewer c.args.desk.now c.loop-outcome.pass c.post.new.pass c.pop.new.self.items c.in-Some.outcome buffered c.post.ensures.pass c.post.ensures.posted;
      own = ap (λ (v : PassView). v.own) c.post.ensures.posted.view ∙ was.own;
      room = c.in-Some.ensures.capacity ∙ was.room;
    }
