use Rattle.std.proofs.Common.{◌≡◌, ◌∙◌, ◌++◌, [], All, List, Vec, map, length, ap, subst, sym, arith}
use Rattle.std.specs.Vec.Iter.{into_iter_items}
use Rattle.std.proofs.lemmas.List.{append-nil, nil_from_length}
use Rattle.std.proofs.lemmas.List.Elements.{All-nil, All-push}
use Rattle.plan_runs.specs.declared.plans.PlanWalk.{PlanWalk}
use Rattle.plan_runs.specs.Plans.{IsRound, IsWalkOf, round_pairs, walk_pair}
use Rattle.plan_runs.proofs.Rounds.{grouped, pairs_push}
use Rattle.plan_runs.proofs.Turning.{next_of}
use Rattle.plan_runs.proofs.plans.make_rounds.Goals as goal

pub loop-walk-init : goal.loop-walk-init
loop-walk-init g c =
    let gives = c.into_iter-walk-iterator.ensures.into_iter_gives in
    record {
      rounds = subst (All (IsRound)) (sym c.new-rounds.ensures.items) (All-nil (IsRound));
      round = subst (All (IsWalkOf)) (sym c.new-round.ensures.items) (All-nil (IsWalkOf));
      each = subst (All (IsWalkOf)) (sym gives.0) c.requires.walks;
      pairs =
          ap (map walk_pair) (sym gives.0)
          ∙ ap (λ (rs : List (Vec (PlanWalk _) _)). (round_pairs rs ++ []) ++ map walk_pair (into_iter_items c.into_iter-walk-iterator.result)) (sym c.new-rounds.ensures.items)
          ∙ ap (λ (ws : List (PlanWalk _)). (round_pairs c.new-rounds.result.items ++ map walk_pair ws) ++ map walk_pair (into_iter_items c.into_iter-walk-iterator.result)) (sym c.new-round.ensures.items);
      counted = omega (arith, gives.1, ap length gives.0, c.args.walks.ok.0);
    }

pub end_round-requires-clause-round : goal.end_round-requires-clause-round
end_round-requires-clause-round g c =
    subst (All (IsWalkOf)) (sym c.in_ok-push.ensures.items)
    (All-push (IsWalkOf) c.loop-walk.round.items _ c.loop-walk.invariant.round (next_of (IsWalkOf) _ _ c.in-Some.walk c.loop-walk.invariant.each c.in-Some.ensures.steps.0).0)

pub loop-walk-preserved : goal.loop-walk-preserved
loop-walk-preserved g c = record {
  rounds = c.in_ok-round.ensures.rounds;
  round = c.in_ok-round.ensures.next;
  each = (next_of (IsWalkOf) _ _ c.in-Some.walk c.loop-walk.invariant.each c.in-Some.ensures.steps.0).1;
  pairs = grouped (map walk_pair c.args.walks.items) (round_pairs c.loop-walk.rounds.items) (round_pairs c.end_round.new.rounds.items ++ map walk_pair c.in_ok-round.round.items) c.loop-walk.round.items c.push.new.self.items _ _ c.in-Some.walk
      c.loop-walk.invariant.pairs c.in-Some.ensures.steps.0 c.in_ok-push.ensures.items c.in_ok-round.ensures.pairs;
  counted = omega (arith, c.in-Some.ensures.steps.1, c.loop-walk.invariant.counted, ap length c.in-Some.ensures.steps.0);
}

pub returns-clause-rounds : goal.returns-clause-rounds
returns-clause-rounds g c =
    subst (All (IsRound)) (sym c.in_ok-push-2.ensures.items) (All-push (IsRound) c.loop-walk.rounds.items c.loop-walk.round c.loop-walk.invariant.rounds c.loop-walk.invariant.round)

pub returns-clause-pairs : goal.returns-clause-pairs
returns-clause-pairs g c =
    let none : into_iter_items c.loop-walk.walk-iterator ≡ [] = nil_from_length _ (omega (arith, c.loop-walk.invariant.counted, c.in-None.ensures.steps.0)) in
    ap (round_pairs) c.in_ok-push-2.ensures.items
    ∙ pairs_push c.loop-walk.rounds.items c.loop-walk.round
    ∙ sym (c.loop-walk.invariant.pairs
    ∙ ap (λ (ws : List (PlanWalk _)). (round_pairs c.loop-walk.rounds.items ++ map walk_pair c.loop-walk.round.items) ++ map walk_pair ws) none
    ∙ append-nil (round_pairs c.loop-walk.rounds.items ++ map walk_pair c.loop-walk.round.items))
