use Rattle.std.proofs.Common.{◌≡◌, ◌-◌}
use Rattle.audit_model.specs.Below.{map_below}
use Rattle.audit_statement.specs.Grid.{first_votes_of}
use Rattle.grid_maker.proofs.made.counts_of.Given as goal

abbrev pub invariant-loop-unit : goal.invariant-loop-unit
invariant-loop-unit l = record {
  key : l.draws.key ≡ l.fn.key;
  stream : l.draws.stream ≡ 4294967296;
  place : l.draws.place ≡ l._unit;
  population : l.population ≡ map_below l._unit (λ u. 100);
  first : l.first ≡ map_below l._unit (first_votes_of l.fn.key);
  second : l.second ≡ map_below l._unit (λ u. 100 - first_votes_of l.fn.key u);
}
