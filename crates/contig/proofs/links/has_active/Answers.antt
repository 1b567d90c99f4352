use Rattle.std.proofs.Common.{◌≡◌, ℕ, false, List, get_or, sym, ap, ◌∙◌, subst, inl, inr, arith}
use Rattle.std.proofs.lemmas.Bool.{cases_eq}
use Rattle.std.proofs.lemmas.List.{get_or_default}
use Rattle.contig.specs.Links.{is_active_at}
use Rattle.contig.specs.declared.corner.Corner.{Corner}
use Rattle.contig.proofs.links.has_active.Goals as goal

pub loop-spare-preserved : goal.loop-spare-preserved
loop-spare-preserved c k d l =
    let g = c.args.leaving.graph.now in
    let plan : List ℕ = c.args.leaving.plan.now in
    let u : ℕ = c.args.leaving.unit in
    let spares : List Corner = c.args.spares.now in
    let i : ℕ = c.loop-spare.spare-index in
    elim (cases_eq k i) [
      | inl e ↦ subst (λ t. is_active_at g plan u (get_or spares t d) ≡ false) (sym e)
          (ap (is_active_at g plan u) (get_or_default spares i d (record { one = 0; other = 0; far = 0; further = 0 }) c.loop-spare-test.true)
          ∙ sym c.is_active_at.ensures ∙ c.if-is_active_at.false)
      | inr off ↦ c.loop-spare.invariant k d (omega (arith, l, off))
    ]

pub returns-then-is_active_at-clause-some : goal.returns-then-is_active_at-clause-some
returns-then-is_active_at-clause-some c h =
    let spares : List Corner = c.args.spares.now in
    let i : ℕ = c.loop-spare.spare-index in (
      i,
      c.loop-spare-test.true,
      λ d. ap (is_active_at c.args.leaving.graph.now c.args.leaving.plan.now c.args.leaving.unit)
          (get_or_default spares i d (record { one = 0; other = 0; far = 0; further = 0 }) c.loop-spare-test.true)
          ∙ sym c.is_active_at.ensures ∙ c.if-is_active_at.true,
    )
