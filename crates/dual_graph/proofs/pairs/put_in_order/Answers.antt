use Rattle.std.proofs.Common.{◌≡◌, ◌&&◌, sym, ◌∙◌}
use Rattle.std.specs.Prelude.{◌==◌}
use Rattle.std.proofs.lemmas.List.Filters.{dedup_is}
use Rattle.std.proofs.lemmas.List.Sorted.{list_any-IsPermutation}
use Rattle.dual_graph.specs.Pairs.{has_pair}
use Rattle.dual_graph.proofs.Ordered.{pair_eq, dedup_rises, dedup_same}
use Rattle.dual_graph.proofs.pairs.put_in_order.Goals as goal

pub returns-clause-rising : goal.returns-clause-rising
returns-clause-rising c = dedup_rises c.sort_unstable.new.self.items c.dedup.new.self.items c.sort_unstable.ensures.sorted
    (dedup_is pair_eq c.sort_unstable.new.self.items c.dedup.new.self.items c.dedup.ensures.filtered)

pub returns-clause-same : goal.returns-clause-same
returns-clause-same c u v =
    let both = dedup_same c.sort_unstable.new.self.items c.dedup.new.self.items (dedup_is pair_eq c.sort_unstable.new.self.items c.dedup.new.self.items c.dedup.ensures.filtered) u v in
    let moved : has_pair c.args.pairs.now.items u v ≡ has_pair c.sort_unstable.new.self.items u v =
    list_any-IsPermutation (λ p. (p.0 == u) && (p.1 == v)) c.args.pairs.now.items c.sort_unstable.new.self.items c.sort_unstable.ensures.permutation in
    (λ h. moved ∙ both.0 h, λ h. both.1 (sym moved ∙ h))
