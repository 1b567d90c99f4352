use Rattle.ckpt_store.proofs.Loading.{loaded_long}
use Rattle.ckpt_store.proofs.slot_content.load_slot.Goals as goal

pub returns-in-Err-Long-clause-loaded : goal.returns-in-Err-Long-clause-loaded
returns-in-Err-Long-clause-loaded g c =
    let found = rw c.in-Err-Long.field-0-is at c.in-Err-Long.ensures.found in
    loaded_long (g.C.Keeper.state c.args.keeper.now).slots c.args.slot c.load.new.room.items c.in-Err-Long.field-0-0 found
