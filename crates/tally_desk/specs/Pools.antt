-- Predicates on the workers at a desk.
use Rattle.std.specs.Prelude.{◌≡◌, ℕ, ◌-◌, ◌*◌, ◌<◌, ◌≤◌, true, false, List, [], length, vec_capacity, vec_len, Vec}
use Rattle.std.specs.List.{All}
use Rattle.audit_model.specs.Job.{Job}
use Rattle.audit_model.specs.declared.outcome.Outcome.{Outcome}
use Rattle.tally_desk.specs.declared.pass.DeskPass.{DeskPass}
use Rattle.tally_desk.specs.DeskModel.{DeskModel}
use Rattle.tally_desk.specs.Parts.{Parts}
use Rattle.tally_desk.specs.Passes.{Belongs, HasPostedAll, view_of}
use Rattle.claim_counter.specs.Walkers.{AreWalkers}
use Rattle.claim_counter.specs.Walks.{IsWithin, ServesEnds}
use Rattle.claim_counter.specs.Counts.{WalkCount, HasWalkedEachOnce}
use Rattle.flip_kernel.specs.ChainState.{ChainState}
use Rattle.tally_desk.specs.declared.pool.DeskPool.{DeskPool}
use Rattle.tally_desk.specs.declared.worker.DeskWorker.{DeskWorker}
use Rattle.tally_desk.specs.Unposted.{AreRooms, IsHolding, IsRoomWithin, buffer_room, holders}

-- `count` walkers of the job, with capacity for as many workers, for the hub, and for the outcome buffers. All buffers
-- together hold fewer outcomes than are posted between two saves.
pub record IsDeskPool {J : Type 0} (job : Job) (count : ℕ) (c : DeskPool J) : Type 0 where
  pub walkers_are : AreWalkers job c.walkers.items
  pub count_is : vec_len c.walkers ≡ count
  pub blank : c.workers.items ≡ []
  pub room : count ≤ vec_capacity c.workers
  pub buffer_count : vec_len c.buffered ≡ count
  pub buffer_rooms : AreRooms job.setting count c.buffered.items
  pub few_buffered : holders count * buffer_room job.setting count ≤ job.setting.save_every - 1
  pub hub_units : length c.hub ≡ job.graph.units

-- a walker of the desk's job and an empty buffer for each seat, and capacity for as many workers
pub record MaySeat {J A B D E : Type 0} (parts : Parts) (walkers : Vec ChainState A) (workers : Vec (DeskWorker J) B) (buffered : Vec (Vec Outcome D) E) : Type 0 where
  pub seats_are : parts.seats ≡ vec_len walkers
  pub some : 0 < vec_len walkers
  pub walkers_are : AreWalkers parts.job walkers.items
  pub blank : workers.items ≡ []
  pub room : vec_len walkers ≤ vec_capacity workers
  pub buffer_count : vec_len buffered ≡ vec_len walkers
  pub buffer_rooms : All (IsRoomWithin (buffer_room parts.job.setting parts.seats)) buffered.items

-- the trajectories walked at a desk are those of its job, and the hub is there if one starts from it
pub record WalksAtDesk (job : Job) (parts : Parts) (units : List ℕ) : Type 0 where
  pub same : job ≡ parts.job
  pub within : IsWithin job parts.todo
  pub hub : ServesEnds job parts.todo units

-- a worker between two claims: it walked once for each claim, each claim is posted or buffered, and the pass has not
-- ended
pub record IsAtDesk (desk : DeskModel) (w : WalkCount) (p : DeskPass) (buffered : List Outcome) : Type 0 where
  pub walks : w.job ≡ desk.parts.job
  pub walked : HasWalkedEachOnce w (view_of p).own.claims
  pub holds : IsHolding desk p buffered
  pub going : (view_of p).own.ended ≡ false
  pub weight : (view_of p).own.weight ≡ 1
  pub spare : (view_of p).own.spare ≡ 0

-- a worker before the first claim: its buffer is empty and no larger than allowed
pub record IsUnstartedAtDesk {J : Type 0} (desk : DeskModel) (w : DeskWorker J) : Type 0 where
  pub at_desk : IsAtDesk desk w.walker w.pass []
  pub buffered : IsRoomWithin (buffer_room desk.parts.job.setting desk.parts.seats) w.buffered

-- a worker that found no id left, walked once for each of its claims, and has posted them all
pub record IsDeskWorkerDone {J : Type 0} (desk : DeskModel) (w : DeskWorker J) : Type 0 where
  pub belongs : Belongs desk w.pass
  pub ended : (view_of w.pass).own.ended ≡ true
  pub weight : (view_of w.pass).own.weight ≡ 1
  pub spare : (view_of w.pass).own.spare ≡ 0
  pub whole : HasPostedAll desk.parts (view_of w.pass)
  pub walked : HasWalkedEachOnce w.walker (view_of w.pass).own.claims
