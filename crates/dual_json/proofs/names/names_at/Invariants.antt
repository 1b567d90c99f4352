use Rattle.dual_json.specs.Shape.{views}
use Rattle.dual_json.proofs.Named.{AreNamed}
use Rattle.dual_json.proofs.names.names_at.Given as goal

abbrev pub invariant-loop-i : goal.invariant-loop-i
invariant-loop-i l = AreNamed l.key (views l.objects) l.i l.names.items
