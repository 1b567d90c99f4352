-- The constants of a desk, from its initial state.
use Rattle.audit_model.specs.State.{KeeperState}
use Rattle.tally_desk.specs.declared.view.DeskArguments.{DeskArguments}
use Rattle.tally_desk.specs.Parts.{Parts}

abbrev pub parts_of : {C : Type 0} → (C → KeeperState) → DeskArguments C → Parts
parts_of state f = record {
  job = f.job.value;
  initial_outcomes = f.book.value.outcomes;
  todo = f.todo.value;
  save_every = f.save_every;
  seats = f.seats;
  place = f.place;
  keeper = state f.keeper.value;
}
