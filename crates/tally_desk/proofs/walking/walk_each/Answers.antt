use denote.Param.Send.{sendable}
use Rattle.tally_desk.proofs.Crossing.{worker_send}
use Rattle.tally_desk.proofs.walking.walk_each.Goals as goal

pub run_workers-requires-send-W : goal.run_workers-requires-send-W
run_workers-requires-send-W g c κs within = let judge = c.type_bounds.send-J in search (worker_send, sendable) depth 20
