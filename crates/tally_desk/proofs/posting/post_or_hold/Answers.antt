use Rattle.tally_desk.specs.Passes.{view_of}
use Rattle.tally_desk.proofs.Unposted.{holds_fewer, may_post_buffered}
use Rattle.tally_desk.proofs.posting.post_or_hold.Goals as goal

pub post-requires-clause-claimed : goal.post-requires-clause-claimed
post-requires-clause-claimed g c = (may_post_buffered c.args.desk.now.parts (view_of c.args.pass.now) c.args.buffered.now.items c.args.outcome c.requires.rest).claimed

pub post-requires-clause-unposted : goal.post-requires-clause-unposted
post-requires-clause-unposted g c = (may_post_buffered c.args.desk.now.parts (view_of c.args.pass.now) c.args.buffered.now.items c.args.outcome c.requires.rest).unposted

pub returns-then-len-capacity-clause-holds : goal.returns-then-len-capacity-clause-holds
returns-then-len-capacity-clause-holds g c =
    holds_fewer c.args.desk.now c.args.pass.now c.post.new.pass
    c.args.buffered.now.items c.args.outcome c.requires c.post.ensures.pass c.post.ensures.posted

pub try_post-requires-clause-claimed : goal.try_post-requires-clause-claimed
try_post-requires-clause-claimed g c = (may_post_buffered c.args.desk.now.parts (view_of c.args.pass.now) c.args.buffered.now.items c.args.outcome c.requires.rest).claimed

pub try_post-requires-clause-unposted : goal.try_post-requires-clause-unposted
try_post-requires-clause-unposted g c = (may_post_buffered c.args.desk.now.parts (view_of c.args.pass.now) c.args.buffered.now.items c.args.outcome c.requires.rest).unposted

pub returns-then-try_post-clause-holds : goal.returns-then-try_post-clause-holds
returns-then-try_post-clause-holds g c =
    holds_fewer c.args.desk.now c.args.pass.now c.try_post.new.pass
    c.args.buffered.now.items c.args.outcome c.requires c.try_post.ensures.pass (c.try_post.ensures.posted c.if-try_post.true)
