use Rattle.std.proofs.Common.{◌≡◌, ℕ, List, length, arith}
use Rattle.std.proofs.Math.ListN.{set}
use Rattle.audit_model.specs.District.{district_sum}
use Rattle.district_sums.specs.Following.{MovesWithin}
use Rattle.district_sums.proofs.Shifted.{places, of_its_length, of_same_length}
use Rattle.district_sums.proofs.shifting.shift_counts.Goals as goal

-- a move within n districts is one within a list of n sums
as_wide : (m n : ℕ) (plan : List ℕ) (unit into : ℕ) → m ≡ n → MovesWithin n plan unit into → MovesWithin m plan unit into
as_wide m n plan unit into e moves = record { home = omega (arith, e, moves.home); target = omega (arith, e, moves.target); elsewhere = moves.elsewhere }

pub shift_list-requires-2-clause-moves : goal.shift_list-requires-2-clause-moves
shift_list-requires-2-clause-moves c =
    as_wide _ _ c.args.member.plan.now c.args.member.unit c.args.district
    (places (length c.args.view.now.population) (district_sum c.args.counts.now.first c.args.member.plan.now) c.args.view.now.first c.requires.added.first) c.requires.moves

pub shift_list-requires-2-clause-added : goal.shift_list-requires-2-clause-added
shift_list-requires-2-clause-added c =
    of_its_length (length c.args.view.now.population) (district_sum c.args.counts.now.first c.args.member.plan.now) c.args.view.now.first c.requires.added.first

pub shift_list-requires-3-clause-moves : goal.shift_list-requires-3-clause-moves
shift_list-requires-3-clause-moves c =
    as_wide _ _ c.args.member.plan.now c.args.member.unit c.args.district
    (places (length c.args.view.now.population) (district_sum c.args.counts.now.second c.args.member.plan.now) c.args.view.now.second c.requires.added.second) c.requires.moves

pub shift_list-requires-3-clause-added : goal.shift_list-requires-3-clause-added
shift_list-requires-3-clause-added c =
    of_its_length (length c.args.view.now.population) (district_sum c.args.counts.now.second c.args.member.plan.now) c.args.view.now.second c.requires.added.second

pub returns-clause-added : goal.returns-clause-added
returns-clause-added c =
    let after : List ℕ = set c.args.member.plan.now c.args.member.unit c.args.district in
    let counts = c.args.counts.now in
    let view = c.args.view.now in
    record {
      population = c.shift_list.ensures;
      first = of_same_length (length view.population) (district_sum counts.first c.args.member.plan.now) (district_sum counts.first after) view.first _ c.requires.added.first c.shift_list-2.ensures;
      second = of_same_length (length view.population) (district_sum counts.second c.args.member.plan.now) (district_sum counts.second after) view.second _ c.requires.added.second c.shift_list-3.ensures;
    }
