use Rattle.std.proofs.Common.{◌≡◌, ℕ, ◌≤◌, List, length, set, sym, ap, arith}
use Rattle.std.proofs.lemmas.Bool.{le-leb}
use Rattle.audit_model.specs.declared.outcome.Counts.{Counts}
use Rattle.audit_model.specs.Length.{cut_length}
use Rattle.district_sums.proofs.Measured.{nothing_cut}
use Rattle.flip_kernel.proofs.board.Board.keeps_length.Goals as goal

pub returns-then-len-eq0 : goal.returns-then-len-eq0
returns-then-len-eq0 c =
    let flip = c.args.flip in
    let job = flip.job.now in
    let after : List ℕ = set c.args.self.now.plan flip.unit flip.district in
    let none : length job.counts.lengths ≡ 0 = omega (arith, c.len.ensures, c.if-len-eq0.true, ap (λ (k : Counts). length k.lengths) c.counts.ensures.value) in
    let short : cut_length job.graph job.counts.lengths after ≤ job.setting.max_length = omega (arith, nothing_cut job.graph job.counts.lengths after none) in
    sym (le-leb (cut_length job.graph job.counts.lengths after) job.setting.max_length short)
