use Rattle.dual_json.proofs.read.read_numbers.Goals as goal

pub returns-in-Ok : goal.returns-in-Ok
returns-in-Ok c = record {
  population = c.in-Ok.ensures.population;
  first = c.in-Ok.ensures.first;
  second = c.in-Ok.ensures.second;
  grouped = c.in_ok-group.ensures;
  freezing = c.in_ok-frozen.ensures;
}
