-- A worker may cross threads if its constraint may.
use denote.RattleType.{RattleType}
use denote.Param.Send.{IsSend, recorded_send, struct_send, sendable}
use denote.Struct.Declared.{shape}
use Rattle.std.proofs.Crossing.{crosses}
use Rattle.atomic_table.proofs.badge.Badge.TheSendSync.{the_send as badge_send}
use Rattle.audit_model.specs.contracts.outcome.Outcome as Outcome
use Rattle.tally_desk.specs.contracts.pass.DeskPass as DeskPass
use Rattle.flip_guard.specs.declared.judge.Judge.{Ghosts}
use Rattle.claim_counter.proofs.Crossing.{gated_send}
use Rattle.tally_desk.specs.contracts.worker.DeskWorker as DeskWorker

-- a pass may cross threads
pass_send : IsSend DeskPass.the_field.row
pass_send = search (badge_send, crosses, sendable) depth 20

-- an outcome may cross threads
outcome_send : IsSend Outcome.the_row
outcome_send = search (crosses, sendable) depth 20

-- a worker may cross threads if its constraint may
pub worker_send : (J : RattleType) (g : Ghosts J.Denot) → IsSend J → IsSend (DeskWorker.the_row J g)
worker_send J g judge =
    recorded_send (DeskWorker.the_field J g).row _ _ (DeskWorker.the_type J g).to_one
    (struct_send (shape (DeskWorker.the_type J g)) (gated_send J g judge, (pass_send, (search (outcome_send, crosses, sendable) depth 20, tt))))
