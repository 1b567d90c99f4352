use Rattle.std.proofs.Common.{◌≡◌, ℕ, List, length, true, sym, ap, ◌∙◌, subst, arith}
use Rattle.std.specs.Prelude.{◌↔◌}
use Rattle.audit_model.specs.Graph.{adjacent}
use Rattle.audit_statement.specs.Grid.{grid_side}
use Rattle.dual_graph.specs.Pairs.{ArePairs, Joins}
use Rattle.grid_maker.proofs.Assembled.{made_graph, made_rows, made_is_read, made_within}
use Rattle.grid_maker.proofs.Districts.{units_of, few_units}
use Rattle.grid_maker.proofs.Paired.{pairs_rise, length-until}
use Rattle.grid_maker.proofs.made.read_made.Goals as goal

pub from_pairs-requires-clause-few : goal.from_pairs-requires-clause-few
from_pairs-requires-clause-few c =
    let size = c.args.size in
    let few = few_units size c.requires.1 in
    let long = length-until (grid_side size) (units_of size) in (
      omega (arith, few),
      omega (arith, few, long, ap (λ (ps : List (ℕ × ℕ)). length ps) (c.deref.ensures.value ∙ c.in_ok-pairs.ensures {u = tt})),
    )

pub from_pairs-requires-clause-pairs : goal.from_pairs-requires-clause-pairs
from_pairs-requires-clause-pairs c =
    subst (λ (ps : List (ℕ × ℕ)). ArePairs (units_of c.args.size) ps) (sym (c.deref.ensures.value ∙ c.in_ok-pairs.ensures {u = tt}))
    (let some = c.requires.0 in pairs_rise (grid_side c.args.size) (omega (arith, some)))

pub returns-clause-read : goal.returns-clause-read
returns-clause-read c =
    let size = c.args.size in
    let key = c.args.key in
    let g = c.in_ok-graph.graph in
    let counts = c.in_ok-counts.counts in
    let rows = made_rows size key c.requires.0 c.requires.1 counts c.no_group.result c.none_frozen.result c.in_ok-start.start c.in_ok-labels.labels
    c.in_ok-counts.ensures.population c.in_ok-counts.ensures.first c.in_ok-counts.ensures.second c.no_group.ensures c.none_frozen.ensures c.in_ok-start.ensures c.in_ok-labels.ensures in
    let joins = subst (λ (ps : List (ℕ × ℕ)). (u v : ℕ) → (adjacent g u v ≡ true) ↔ Joins ps u v) (c.deref.ensures.value ∙ c.in_ok-pairs.ensures {u = tt}) c.in_ok-graph.ensures.edges in
    made_is_read size key c.requires.0 c.requires.1 g counts c.no_group.result c.none_frozen.result c.in_ok-start.start c.in_ok-labels.labels
    (made_graph size key c.requires.0 c.requires.1 g c.in_ok-graph.ensures.sound c.in_ok-graph.ensures.units joins) rows c.in_ok-counts.ensures.lengths

pub returns-clause-within : goal.returns-clause-within
returns-clause-within c =
    let size = c.args.size in
    let key = c.args.key in
    let g = c.in_ok-graph.graph in
    let counts = c.in_ok-counts.counts in
    let few = few_units size c.requires.1 in
    let long = length-until (grid_side size) (units_of size) in
    let rows = made_rows size key c.requires.0 c.requires.1 counts c.no_group.result c.none_frozen.result c.in_ok-start.start c.in_ok-labels.labels
    c.in_ok-counts.ensures.population c.in_ok-counts.ensures.first c.in_ok-counts.ensures.second c.no_group.ensures c.none_frozen.ensures c.in_ok-start.ensures c.in_ok-labels.ensures in
    made_within size key c.requires.0 c.requires.1 g counts c.no_group.result c.none_frozen.result c.in_ok-start.start c.in_ok-labels.labels c.in_ok-graph.ensures.sound c.in_ok-graph.ensures.units
    (omega (arith, c.in_ok-graph.ensures.amount, few, long, ap (λ (ps : List (ℕ × ℕ)). length ps) (c.deref.ensures.value ∙ c.in_ok-pairs.ensures {u = tt}))) rows c.in_ok-counts.ensures.lengths
