-- Workers can cross threads.
use denote.Param.Send.{IsSend, recorded_send, struct_send, sendable}
use denote.RattleType.{RattleType}
use denote.Struct.Declared.{shape}
use Rattle.std.proofs.Crossing.{crosses}
use Rattle.atomic_table.proofs.shared.Seat.TheSendSync.{the_send as seat_send}
use Rattle.audit_model.specs.contracts.buffers.RoomyList as RoomyList
use Rattle.audit_model.specs.contracts.outcome.Outcome as Outcome
use Rattle.claim_counter.specs.contracts.pass.Pass as Pass
use Rattle.flip_guard.specs.declared.judge.Judge.{Ghosts}
use Rattle.walker.proofs.Crossing.{walker_send}
use Rattle.claim_counter.specs.contracts.workers.counted.CountedWalker as CountedWalker
use Rattle.claim_counter.specs.contracts.workers.gated.GatedWalker as GatedWalker
use Rattle.claim_counter.specs.contracts.worker.Worker as Worker

-- an outcome may cross threads
outcome_send : IsSend Outcome.the_row
outcome_send = search (crosses, sendable) depth 20

-- a list of outcomes may cross threads
share_send : IsSend (RoomyList.the_row Outcome.the_row)
share_send = search (outcome_send, crosses, sendable) depth 20

-- a pass may cross threads
pass_send : IsSend Pass.the_field.row
pass_send = search (seat_send, crosses, sendable) depth 20

-- a list of outcomes may cross threads as a field
share_field_send : IsSend (RoomyList.the_field Outcome.the_row).row
share_field_send = search (share_send, crosses, sendable) depth 20

-- a walker that counts its walks may cross threads if its constraint may
pub counted_send : (J : RattleType) (g : Ghosts J.Denot) → IsSend J → IsSend (CountedWalker.the_field J g).row
counted_send J g judge = let a = walker_send J g judge in search (crosses, sendable) depth 20

-- a gated walker may cross threads if its constraint may
pub gated_send : (J : RattleType) (g : Ghosts J.Denot) → IsSend J → IsSend (GatedWalker.the_field J g).row
gated_send J g judge = let a = counted_send J g judge in search (crosses, sendable) depth 20

-- a worker may cross threads if its constraint may
pub worker_send : (J : RattleType) (g : Ghosts J.Denot) → IsSend J → IsSend (Worker.the_row J g)
worker_send J g judge =
    recorded_send (Worker.the_field J g).row _ _ (Worker.the_type J g).to_one (struct_send (shape (Worker.the_type J g)) (gated_send J g judge, (pass_send, (share_field_send, tt))))
