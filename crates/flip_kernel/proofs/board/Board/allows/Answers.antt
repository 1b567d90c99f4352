use Rattle.std.proofs.Common.{ℕ, ◌&&◌, List, set, sym, ap, ◌∙◌}
use Rattle.std.specs.Prelude.{nat_le}
use Rattle.std.proofs.lemmas.Bool.{and_left}
use Rattle.audit_model.specs.Job.{rules}
use Rattle.audit_model.specs.Length.{cut_length}
use Rattle.audit_model.specs.Meets.{meets_rules}
use Rattle.audit_model.specs.Plan.{cut_edges}
use Rattle.flip_kernel.proofs.board.Board.allows.Goals as goal

pub returns-then-not-keeps_length-clause-allows : goal.returns-then-not-keeps_length-clause-allows
returns-then-not-keeps_length-clause-allows g c =
    let job = c.args.flip.job.now in
    let after : List ℕ = set c.args.self.now.plan c.args.flip.unit c.args.flip.district in
    sym (and_left (nat_le (cut_length job.graph job.counts.lengths after) job.setting.max_length) (meets_rules (rules job) (cut_edges job.graph after) after)
    (sym c.keeps_length.ensures ∙ c.if-not-keeps_length.true))

pub returns-clause-allows : goal.returns-clause-allows
returns-clause-allows g c =
    let job = c.args.flip.job.now in
    let after : List ℕ = set c.args.self.now.plan c.args.flip.unit c.args.flip.district in
    c.permits.ensures.meets
    ∙ sym (ap (λ b. b && meets_rules (rules job) (cut_edges job.graph after) after) (sym c.keeps_length.ensures ∙ c.if-not-keeps_length.false))
