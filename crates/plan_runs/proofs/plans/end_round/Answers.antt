use Rattle.std.proofs.Common.{◌∙◌, ◌++◌, ◌∷◌, [], All, List, Vec, map, ap, subst, sym}
use Rattle.std.proofs.lemmas.List.{append-nil}
use Rattle.std.proofs.lemmas.List.Elements.{All-push}
use Rattle.plan_runs.specs.declared.plans.PlanWalk.{PlanWalk}
use Rattle.plan_runs.specs.Plans.{IsRound, round_pairs, walk_pair}
use Rattle.plan_runs.proofs.Rounds.{pairs_push}
use Rattle.plan_runs.proofs.plans.end_round.Goals as goal

pub returns-clause-rounds : goal.returns-clause-rounds
returns-clause-rounds g c = subst (All (IsRound)) (sym c.in_ok-push.ensures.items) (All-push (IsRound) c.args.rounds.now.items c.args.round c.requires.rounds c.requires.round)

pub returns-clause-pairs : goal.returns-clause-pairs
returns-clause-pairs g c =
    ap (λ (rs : List (Vec (PlanWalk _) _)). round_pairs rs ++ map walk_pair c.new.result.items) c.in_ok-push.ensures.items
    ∙ ap (λ (ws : List (PlanWalk _)). round_pairs (c.args.rounds.now.items ++ c.args.round ∷ []) ++ map walk_pair ws) c.new.ensures.items
    ∙ append-nil (round_pairs (c.args.rounds.now.items ++ c.args.round ∷ []))
    ∙ pairs_push c.args.rounds.now.items c.args.round
