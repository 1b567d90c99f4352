use Rattle.std.proofs.Common.{◌≡◌, ◌<◌, ℕ, List, set, get_or, sym, ◌∙◌, subst, get_or-set_same, get_or-set_other}
use Rattle.std.specs.Prelude.{slice_index}
use Rattle.std.proofs.lemmas.List.{set-set, set-get_or}
use Rattle.audit_model.specs.District.{in_district}
use Rattle.audit_model.specs.Graph.{Graph}
use Rattle.audit_model.specs.Local.{MayLeave}
use Rattle.audit_model.specs.Path.{IsConnected}
use Rattle.contig.proofs.Filling.{IsFilled, bare_by, rest_connected, bare_may}
use Rattle.contig.proofs.fill.links_without.Goals as goal

pub returns-clause-plan : goal.returns-clause-plan
returns-clause-plan c =
    let plan : List ℕ = c.args.plan.now in
    let u : ℕ = c.args.unit in
    set-set plan u c.args.filler.1 (get_or plan u 0) ∙ set-get_or plan u 0

pub returns-clause-may : goal.returns-clause-may
returns-clause-may c h may =
    let g = c.args.graph.now in
    let full : List ℕ = c.args.plan.now in
    let u : ℕ = c.args.unit in
    let f : ℕ = c.args.filler.0 in
    let d : ℕ = c.args.filler.1 in
    let rest : List ℕ = set full u d in
    let lf = subst (λ t. f < t) (sym c.requires.width) c.requires.filler.0 in
    let lu = subst (λ t. u < t) (sym c.requires.width) c.requires.unit in
    let s : IsFilled full (set full f d) u f = bare_by full u f d lf c.requires.filler.1 c.requires.inside c.requires.outside in
    let alike = λ (v : ℕ) (off : v ≡ u → ⊥). get_or-set_other full u v d 0 off in
    let gone = λ (e : get_or rest u 0 ≡ get_or full u 0). c.requires.outside (sym (get_or-set_same full u d 0 lu) ∙ e) in
    let told : Graph → List ℕ → ℕ → Type 0 = λ k p v. IsConnected k (in_district p (slice_index p v)) → MayLeave k p v in
    let m = c.member.result in
    let linked : told g rest f = subst (λ (k : Graph). told k rest f) c.member.ensures.graph
    (subst (λ (p : List ℕ). told m.graph.now p f) c.member.ensures.plan
    (subst (λ (v : ℕ). told m.graph.now m.plan.now v) c.member.ensures.unit (c.links_mates-linked.ensures.may h))) in
    bare_may g full (set full f d) u f s rest alike gone (linked (rest_connected g full (set full f d) u f s rest alike gone may))
