use denote.Exit.{no}
use denote.Param.Send.{arg_send, param_send}
use Rattle.claim_counter.specs.contracts.batches.run_all.{J-row}
use Rattle.claim_counter.proofs.Crossing.{worker_send}
use Rattle.claim_counter.proofs.batches.run_all.Goals as goal

pub run_workers-requires-send-W : goal.run_workers-requires-send-W
run_workers-requires-send-W g c κs within = param_send 1 _ (arg_send _ no _ (worker_send (J-row g.row.R g.row.J g.row.G) g.J.Judge c.type_bounds.send-J))
