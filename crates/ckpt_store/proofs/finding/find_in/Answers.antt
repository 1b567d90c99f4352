use Rattle.ckpt_store.specs.declared.finding.Finding.{Finding}
use Rattle.ckpt_store.specs.declared.finding.Finding.TheVariants as finding
use Rattle.ckpt_store.specs.Findings.{IsFound}
use Rattle.ckpt_store.proofs.Covering.{left_as}
use Rattle.ckpt_store.proofs.finding.find_in.Goals as goal

pub returns-in-Err-Failed-clause-found : goal.returns-in-Err-Failed-clause-found
returns-in-Err-Failed-clause-found g c =
    let looked = rw c.in-Err-Failed.field-0-is at c.in-Err-Failed.ensures.cause in
    left_as (λ (f : Finding). IsFound c.args.job.now c.args.digest.now (g.F.Keeper.state c.args.folder.now) (g.F.Keeper.state c.look.new.keeper) c.args.collection.now f c.leave_out.new.self)
    _ finding.Unread c.leave_out.result c.leave_out.ensures.left (λ same. (same, looked.cause.0, looked.cause.1))

pub returns-in-Err-Taken-clause-found : goal.returns-in-Err-Taken-clause-found
returns-in-Err-Taken-clause-found g c =
    let looked = rw c.in-Err-Taken.field-0-is at c.in-Err-Taken.ensures.cause in
    left_as (λ (f : Finding). IsFound c.args.job.now c.args.digest.now (g.F.Keeper.state c.args.folder.now) (g.F.Keeper.state c.look.new.keeper) c.args.collection.now f c.leave_out-in-Err-Taken.new.self)
    _ finding.Taken c.leave_out-in-Err-Taken.result c.leave_out-in-Err-Taken.ensures.left (λ same. (same, looked.cause.0, looked.cause.1))
