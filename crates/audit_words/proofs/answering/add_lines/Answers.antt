use Rattle.std.proofs.Common.{Bor, List, ℕ, [], arith, refl}
use Rattle.audit_words.proofs.Lines.{adds_as, adds_both, adds_none, lines_all, lines_next, next_line}
use Rattle.audit_words.proofs.answering.add_lines.Goals as goal

pub loop-line-init : goal.loop-line-init
loop-line-init g c = adds_none

pub loop-line-preserved : goal.loop-line-preserved
loop-line-preserved g c =
    let blank : Bor (List ℕ) = record { ref_ptr = (0, 0); now = [] } in
    adds_as (adds_both c.loop-line.invariant c.add_line-going.ensures)
    (lines_next (λ (t : Bor (List ℕ)). t.now) c.args.lines.now c.loop-line.line-index blank _ (omega arith) refl)

pub returns : goal.returns
returns g c = adds_as c.loop-line.invariant (lines_all (λ (t : Bor (List ℕ)). t.now) c.args.lines.now c.loop-line.line-index (omega arith))

pub add_line-going-requires : goal.add_line-going-requires
add_line-going-requires g c =
    let blank : Bor (List ℕ) = record { ref_ptr = (0, 0); now = [] } in
    next_line (λ (t : Bor (List ℕ)). t.now) c.args.lines.now c.loop-line.line-index blank _ (omega arith) refl c.requires c.loop-line.invariant
