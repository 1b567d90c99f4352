use Rattle.std.proofs.Common.{◌∙◌, ap}
use Rattle.tally_desk.specs.Passes.{view_of}
use Rattle.tally_desk.specs.Views.{PassView}
use Rattle.tally_desk.proofs.Unposted.{holds_fewer, may_post_buffered, same_buffered}
use Rattle.tally_desk.proofs.posting.post_while_free.Goals as goal

pub try_post-requires-clause-claimed : goal.try_post-requires-clause-claimed
try_post-requires-clause-claimed g c =
    let parts = c.args.desk.now.parts in
    let buffered = same_buffered c.args.desk.now c.loop-outcome.pass _ _ c.in-Some.ensures.items c.loop-outcome.invariant.holds in
    (may_post_buffered parts (view_of c.loop-outcome.pass) c.pop.new.self.items c.in-Some.outcome buffered.rest).claimed

pub try_post-requires-clause-unposted : goal.try_post-requires-clause-unposted
try_post-requires-clause-unposted g c =
    let parts = c.args.desk.now.parts in
    let buffered = same_buffered c.args.desk.now c.loop-outcome.pass _ _ c.in-Some.ensures.items c.loop-outcome.invariant.holds in
    (may_post_buffered parts (view_of c.loop-outcome.pass) c.pop.new.self.items c.in-Some.outcome buffered.rest).unposted

pub loop-outcome-preserved : goal.loop-outcome-preserved
loop-outcome-preserved g c =
    let was = c.loop-outcome.invariant in
    let buffered = same_buffered c.args.desk.now c.loop-outcome.pass _ _ c.in-Some.ensures.items was.holds in
    let posted = c.try_post.ensures.posted c.if-not-try_post.false in
    record {
      holds = holds_fewer c.args.desk.now c.loop-outcome.pass c.try_post.new.pass c.pop.new.self.items c.in-Some.outcome buffered c.try_post.ensures.pass posted;
      own = ap (λ (v : PassView). v.own) posted.view ∙ was.own;
      room = c.in-Some.ensures.capacity ∙ was.room;
    }
