use Rattle.tally_desk.specs.Homes.{HomeAs}
use Rattle.tally_desk.proofs.Events.{steps_are_events}
use Rattle.tally_desk.proofs.Counting.{counter_laws}
use Rattle.tally_desk.proofs.laws.steps_are_events.Goals as goal

pub returns : goal.returns
returns g c = λ parts. steps_are_events (HomeAs g.C.Keeper.state g.C.Keeper.lets) parts counter_laws
