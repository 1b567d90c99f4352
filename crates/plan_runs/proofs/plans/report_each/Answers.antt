use Rattle.std.proofs.Common.{◌≡◌, ℕ, List, [], All, Ok, Err, map, length, ap, subst, sym, arith}
use Rattle.std.specs.Vec.Iter.{into_iter_items}
use Rattle.std.proofs.lemmas.List.{nil_from_length}
use Rattle.audit_model.specs.Job.{Job}
use Rattle.report.specs.AddedText.{WritesAllOf}
use Rattle.audit_statement.specs.Draw.{draw}
use Rattle.audit_statement.specs.DueText.{LetsText}
use Rattle.audit_statement.specs.Jobs.{Jobs}
use Rattle.audit_statement.specs.Report.{plans_text}
use Rattle.plan_runs.specs.Plans.{HaveKey, IsRound, round_pairs, walk_pair}
use Rattle.plan_runs.proofs.Reported.{plans_end, round_permitted, rounds_break, rounds_go_on, rounds_permitted}
use Rattle.plan_runs.proofs.Turning.{all_both, next_of}
use Rattle.plan_runs.proofs.plans.report_each.Goals as goal

pub report_round-requires-clause-round : goal.report_round-requires-clause-round
report_round-requires-clause-round g c κs within = (next_of (IsRound) _ _ c.in-Some.round c.loop-round.invariant.each c.in-Some.ensures.steps.0).0

pub report_round-requires-clause-text : goal.report_round-requires-clause-text
report_round-requires-clause-text g c κs within =
    let due = c.requires.text in
    let pairs = ap (round_pairs) c.in-Some.ensures.steps.0 in
    record {
      key = due.key;
      have_key = (all_both (λ (plan : List ℕ × Job). plan.1.setting.key ≡ due.key) (map walk_pair c.in-Some.round.items) _ (subst (HaveKey due.key) pairs (c.loop-round.invariant.keys due.key due.have_key))).0;
      permitted = round_permitted (draw due.key) _ (map walk_pair c.in-Some.round.items) _ pairs (g.K.Sink.state c.loop-round.out)
          (c.loop-round.invariant.permitted due.key due.have_key due.permitted);
    }

pub loop-round-preserved : goal.loop-round-preserved
loop-round-preserved g c =
    let pairs = ap (round_pairs) c.in-Some.ensures.steps.0 in
    let keys = λ (key : List ℕ) (all : HaveKey key (round_pairs c.args.rounds.items)). all_both (λ (plan : List ℕ × Job). plan.1.setting.key ≡ key) (map walk_pair c.in-Some.round.items) _ (subst (HaveKey key) pairs (c.loop-round.invariant.keys key all)) in
    record {
      each = (next_of (IsRound) _ _ c.in-Some.round c.loop-round.invariant.each c.in-Some.ensures.steps.0).1;
      keys = λ key all. (keys key all).1;
      rest = λ key all later r wrote. c.loop-round.invariant.rest key all later r
          (rounds_go_on (draw key) _ (map walk_pair c.in-Some.round.items) _ pairs (g.K.Sink.state c.loop-round.out) (g.K.Sink.state c.report_round.new.out) later r (c.in-Ok.ensures key (keys key all).0) wrote);
      permitted = λ key all due.
          rounds_permitted (draw key) _ (map walk_pair c.in-Some.round.items) _ pairs (g.K.Sink.state c.loop-round.out) (c.loop-round.invariant.permitted key all due) (g.K.Sink.state c.report_round.new.out)
          (c.in-Ok.ensures key (keys key all).0);
      counted = omega (arith, c.in-Some.ensures.steps.1, c.loop-round.invariant.counted, ap length c.in-Some.ensures.steps.0);
    }

pub returns-in-Err : goal.returns-in-Err
returns-in-Err g c = λ key all.
    let pairs = ap (round_pairs) c.in-Some.ensures.steps.0 in
    let keys = all_both (λ (plan : List ℕ × Job). plan.1.setting.key ≡ key) (map walk_pair c.in-Some.round.items) _ (subst (HaveKey key) pairs (c.loop-round.invariant.keys key all)) in
    c.loop-round.invariant.rest key all (g.K.Sink.state c.report_round.new.out) (Err c.in-Err.field-0)
    (rounds_break (draw key) _ (map walk_pair c.in-Some.round.items) _ pairs (g.K.Sink.state c.loop-round.out) (g.K.Sink.state c.report_round.new.out) c.in-Err.field-0 c.in-Err.field-0 (c.in-Err.ensures key keys.0))

pub returns : goal.returns
returns g c = λ key all.
    let none : into_iter_items c.loop-round.round-iterator ≡ [] = nil_from_length _ (omega (arith, c.loop-round.invariant.counted, c.in-None.ensures.steps.0)) in
    c.loop-round.invariant.rest key all (g.K.Sink.state c.loop-round.out) (Ok tt) (plans_end (draw key) (g.K.Sink.state c.loop-round.out) _ (ap (round_pairs) none))

pub loop-round-init : goal.loop-round-init
loop-round-init g c =
    let gives = c.into_iter-round-iterator.ensures.into_iter_gives in
    let same = ap (round_pairs) gives.0 in
    record {
      each = subst (All (IsRound)) (sym gives.0) c.requires.rounds;
      keys = λ key all. subst (HaveKey key) (sym same) all;
      rest = λ key all later r wrote. subst (λ (jobs : Jobs). WritesAllOf (g.K.Sink.state c.args.out.now) later (plans_text (draw key) jobs) r) same wrote;
      permitted = λ key all due. subst (λ (jobs : Jobs). LetsText g.K.Sink.lets (g.K.Sink.state c.args.out.now) (plans_text (draw key) jobs)) (sym same) due;
      counted = omega (arith, gives.1, ap length gives.0, c.args.rounds.ok.0);
    }
