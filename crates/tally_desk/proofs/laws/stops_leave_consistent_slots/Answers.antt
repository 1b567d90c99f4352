use Rattle.tally_desk.proofs.Outlasting.{stops_leave_consistent_slots}
use Rattle.tally_desk.proofs.laws.stops_leave_consistent_slots.Goals as goal

pub returns : goal.returns
returns c = stops_leave_consistent_slots c.saves_leave_consistent_slots.ensures
