-- A plan and the resources to walk it may cross threads.
use denote.Param.Send.{IsSend, sendable}
use denote.RattleType.{RattleType}
use Rattle.std.proofs.Crossing.{crosses, frees, send as heap_send}
use Rattle.std.specs.contracts.alloc.Global as Heap
use Rattle.std.specs.contracts.impls.GlobalAllocator.TheImpl.{ghosts as heap_ghosts}
use Rattle.atomic_table.proofs.send_lease.SendLease.TheSendSync.{the_send as lease_send}
use Rattle.atomic_table.proofs.shared.Seat.TheSendSync.{the_send as seat_send}
use Rattle.atomic_table.proofs.shared.Shared.TheSendSync.{the_send as shared_send}
use Rattle.atomic_table.specs.contracts.send_lease.SendLease as SendLease
use Rattle.audit_model.specs.contracts.buffers.RoomyList as RoomyList
use Rattle.audit_model.specs.contracts.outcome.Counts as Counts
use Rattle.audit_model.specs.contracts.outcome.Outcome as Outcome
use Rattle.audit_model.specs.contracts.rules.Rules as Rules
use Rattle.audit_model.specs.contracts.setting.Columns as Columns
use Rattle.audit_model.specs.contracts.setting.Setting as Setting
use Rattle.audit_model.specs.contracts.text.Text as Text
use Rattle.claim_counter.proofs.Crossing.{worker_send}
use Rattle.claim_counter.specs.contracts.batches.BatchCounter as BatchCounter
use Rattle.claim_counter.specs.contracts.batches.BatchWorkers as BatchWorkers
use Rattle.claim_counter.specs.contracts.batches.IdleWorker as IdleWorker
use Rattle.claim_counter.specs.contracts.claims.Claims as Claims
use Rattle.claim_counter.specs.contracts.pass.Pass as Pass
use Rattle.claim_counter.specs.contracts.pool.WorkerPool as WorkerPool
use Rattle.dual_graph.specs.contracts.graph.Graph as Graph
use Rattle.flip_guard.specs.declared.judge.Judge.{Ghosts}
use Rattle.outcome_book.specs.contracts.book.Book as Book
use Rattle.plan_core.specs.contracts.input.Input as Input
use Rattle.plan_core.specs.contracts.job.Job as Job
use Rattle.plan_csv.specs.contracts.named.Named as Named
use Rattle.sequential_test.specs.contracts.pool.StoppingPool as StoppingPool
use Rattle.walker.proofs.Crossing.{walker_send}
use Rattle.plan_runs.specs.contracts.buffers.RunBuffers as RunBuffers
use Rattle.plan_runs.specs.contracts.plans.PlanWalk as PlanWalk
use Rattle.plan_runs.specs.contracts.resources.Resources as Resources
use Rattle.plan_runs.specs.contracts.resources.Workers as Workers

-- ---- the plan

-- texts may cross threads
text_send : IsSend Text.the_field.row
text_send = search (crosses, sendable) depth 40

-- names of columns may cross threads
columns_send : IsSend Columns.the_field.row
columns_send = search (text_send, crosses, sendable) depth 40 fits 20000

-- settings may cross threads
setting_send : IsSend Setting.the_field.row
setting_send = search (text_send, columns_send, crosses, sendable) depth 60 fits 100000

-- graphs may cross threads
graph_send : IsSend Graph.the_field.row
graph_send = search (crosses, sendable) depth 40 fits 20000

-- rules may cross threads
rules_send : IsSend Rules.the_field.row
rules_send = search (crosses, sendable) depth 40 fits 20000

-- counts may cross threads
counts_send : IsSend Counts.the_field.row
counts_send = search (crosses, sendable) depth 40 fits 20000

-- the input of a job may cross threads
input_send : IsSend Input.the_field.row
input_send = search (graph_send, counts_send, rules_send, setting_send, crosses, sendable) depth 40 fits 20000

-- jobs may cross threads
job_send : IsSend Job.the_field.row
job_send = search (input_send, crosses, sendable) depth 40 fits 20000

-- a plan with its name may cross threads
named_send : IsSend Named.the_field.row
named_send = search (text_send, job_send, crosses, sendable) depth 40 fits 20000

-- ---- the buffers

-- an outcome may cross threads
outcome_send : IsSend Outcome.the_row
outcome_send = search (crosses, sendable) depth 20

-- lists of outcomes may cross threads
outcomes_send : IsSend (RoomyList.the_field Outcome.the_row).row
outcomes_send = search (outcome_send, crosses, sendable) depth 20

-- an outcome table may cross threads
book_send : IsSend Book.the_field.row
book_send = search (crosses, sendable) depth 40 fits 20000

-- the buffers of a run may cross threads
buffers_send : IsSend RunBuffers.the_field.row
buffers_send = search (book_send, outcomes_send, crosses, sendable) depth 40 fits 20000

-- ---- the workers

-- the memory of a counter's table may cross threads
memory_send : (T : RattleType) → IsSend (SendLease.the_row T Heap.the_row heap_ghosts)
memory_send T = lease_send T Heap.the_row heap_ghosts heap_send frees

-- a counter may cross threads
claims_send : IsSend Claims.the_field.row
claims_send = search (shared_send, memory_send, heap_send, crosses, sendable) depth 20

-- a pass may cross threads
pass_send : IsSend Pass.the_field.row
pass_send = search (seat_send, crosses, sendable) depth 20

-- the counter of a batch may cross threads, alone
batch_send : IsSend BatchCounter.the_field.row
batch_send = search (claims_send, pass_send, crosses, sendable) depth 20

-- and in a list
counter_send : IsSend BatchCounter.the_row
counter_send = search (claims_send, pass_send, crosses, sendable) depth 20

module _ (J : RattleType) (g : Ghosts J.Denot) where
  -- an idle worker may cross threads if its constraint may
  idle_send : IsSend J → IsSend (IdleWorker.the_row J g)
  idle_send judge = let a = walker_send J g judge in search (outcomes_send, crosses, sendable) depth 20

  -- the workers of a run may cross threads if their constraint may
  batch_workers_send : IsSend J → IsSend (BatchWorkers.the_field J g).row
  batch_workers_send judge = let a = worker_send J g judge in let b = idle_send judge in search (crosses, sendable) depth 20

  -- the workers of all trajectories may cross threads
  pool_send : IsSend J → IsSend (WorkerPool.the_field J g).row
  pool_send judge = let a = batch_workers_send judge in search (batch_send, crosses, sendable) depth 20

  -- the workers of a run whose tests stop early may cross threads
  stopping_send : IsSend J → IsSend (StoppingPool.the_field J g).row
  stopping_send judge = let a = batch_workers_send judge in search (batch_send, counter_send, crosses, sendable) depth 20

  -- workers of either kind may cross threads
  workers_send : IsSend J → IsSend (Workers.the_field J g).row
  workers_send judge = let a = pool_send judge in let b = stopping_send judge in search (crosses, sendable) depth 20 fits 20000

  -- resources may cross threads
  resources_send : IsSend J → IsSend (Resources.the_row J g)
  resources_send judge = let a = workers_send judge in let b = walker_send J g judge in search (buffers_send, crosses, sendable) depth 20 fits 20000

  -- a plan with its resources may cross threads
  pub plan_send : IsSend J → IsSend (PlanWalk.the_row J g)
  plan_send judge = let a = resources_send judge in search (named_send, crosses, sendable) depth 20 fits 20000
