use Rattle.std.proofs.Common.{◌∙◌, map}
use Rattle.ckpt_store.proofs.Untouched.{may_from, unsaved_from}
use Rattle.ckpt_store.proofs.whole.gather.Goals as goal

pub gather_from-requires-clause-lets : goal.gather_from-requires-clause-lets
gather_from-requires-clause-lets g c = λ k folders_now place all attempted asked may.
    let untouched = c.in-Ok.ensures.untouched in
    c.requires.lets k folders_now place all (attempted ∙ untouched.attempted) asked (may_from _ _ _ _ _ _ _ _ untouched.slots may)

pub returns-in-Ok-clause-cause : goal.returns-in-Ok-clause-cause
returns-in-Ok-clause-cause g c =
    unsaved_from _ _ _ (map (λ k. g.F.Keeper.state k) c.args.folders.now) (map (λ k. g.F.Keeper.state k) c.gather_from.new.folders)
    (g.C.Keeper.state c.args.keeper.now) (g.C.Keeper.state c.begin.new.keeper) (g.C.Keeper.state c.gather_from.new.keeper)
    c.gather_from.result c.in-Ok.ensures.untouched c.in-Ok.ensures.loads c.gather_from.ensures.cause
