use Rattle.std.proofs.Common.{◌≤◌, ◌-◌, length, drop, arith, ◌∙◌}
use Rattle.std.proofs.lemmas.List.{length-take}
use Rattle.report.proofs.Appended.{appends_rest}
use Rattle.report.proofs.Letting.{lets_left}
use Rattle.report.proofs.writing.write_all.Goals as goal

pub turns-preserved : goal.turns-preserved
turns-preserved g c =
    let few : c.in-Ok.count ≤ length c.args.text.now - c.turns.at = omega (arith, length-take (length c.args.text.now - c.turns.at) (drop c.turns.at c.args.text.now), c.in-Ok.ensures.amount.1) in (
      omega (arith, few),
      appends_rest _ _ _ c.args.text.now c.turns.at c.in-Ok.count c.turns.invariant.1 few c.in-Ok.ensures.bytes,
      c.in-Ok.ensures.cause.passed ∙ c.turns.invariant.2,
    )

pub write-requires-clause-lets : goal.write-requires-clause-lets
write-requires-clause-lets g c = lets_left (g.K.Sink.state c.turns.out) c.args.text.now c.turns.at c.requires c.turns.invariant.1 c.turns.invariant.2
