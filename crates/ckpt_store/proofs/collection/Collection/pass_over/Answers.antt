use Rattle.std.proofs.Common.{subst, sym}
use Rattle.ckpt_store.specs.Collected.{IsCovered}
use Rattle.ckpt_store.proofs.Covering.{on_ok, pushed_none}
use Rattle.ckpt_store.proofs.collection.Collection.pass_over.Goals as goal

pub returns-clause-covered : goal.returns-clause-covered
returns-clause-covered c =
    on_ok _ _ (λ is. pushed_none _ c.self.inside.gathering.total _ c.self.inside.lists c.push.new.self c.new.result c.new.ensures is (subst IsCovered (sym c.self.view_is) c.requires.covered)) c.push.result c.push.ensures.ok
