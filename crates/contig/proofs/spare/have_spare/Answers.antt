use Rattle.std.proofs.Common.{◌≡◌, ℕ, List, [], get_or, take, sym, ap, ◌∙◌, subst, arith}
use Rattle.std.specs.Prelude.{None}
use Rattle.std.proofs.lemmas.List.{take_all}
use Rattle.contig.specs.Corners.{spares_at}
use Rattle.contig.specs.Listed.{listed}
use Rattle.contig.specs.declared.face.Candidate.{Candidate}
use Rattle.contig.specs.declared.face.Face.TheVariants.{Triangle}
use Rattle.contig.proofs.Adding.{bare_spares, listed_step}
use Rattle.contig.proofs.spare.have_spare.Goals as goal

-- no candidate
abbrev none : Candidate
none = record { ring = Triangle 0 0 0; spare = None }

pub loop-face-preserved : goal.loop-face-preserved
loop-face-preserved c u =
    let k : ℕ = c.loop-face.face-index in
    let face : Candidate = get_or c.args.faces.now k none in
    ap (spares_at u) (listed_step c.args.faces.now k none c.loop-face-test.true)
    ∙ bare_spares u face.ring face.spare (listed (take k c.args.faces.now)) (sym c.is_some.ensures ∙ c.if-is_some.false) ∙ c.loop-face.invariant u

pub returns : goal.returns
returns c h u =
    subst (λ (l : List Candidate). spares_at u (listed l) ≡ [])
    (take_all c.loop-face.face-index c.args.faces.now (omega (arith, c.loop-face-test.false))) (c.loop-face.invariant u)
