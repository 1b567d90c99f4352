use Rattle.std.proofs.Common.{◌≡◌, ℕ, true, ◌&&◌, List, get_or, subst}
use Rattle.std.specs.Prelude.{◌↔◌}
use Rattle.audit_model.specs.Graph.{has}
use Rattle.audit_model.specs.Path.{IsConnected}
use Rattle.audit_model.specs.District.{in_district}
use Rattle.contig.proofs.flood.mates_are_whole.Goals as goal

pub returns-clause-whole : goal.returns-clause-whole
returns-clause-whole c =
    subst (λ (near : List ℕ). (c.is_whole.result ≡ true) ↔ IsConnected c.args.leaving.graph.now (λ v. has near v && in_district c.args.leaving.plan.now (get_or c.args.leaving.plan.now c.args.leaving.unit 0) v))
    c.neighbours.ensures.list c.is_whole.ensures.whole
