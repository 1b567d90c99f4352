use Rattle.std.proofs.Common.{rules, ◌≡◌, ◌<◌, ℕ, List, get_or, set, sym, ap, ◌∙◌, subst, length-set, get_or-set_other}
use Rattle.std.specs.Prelude.{◌↔◌, ⊤, slice_index, IsTrue, MatchOption}
use Rattle.audit_model.specs.District.{in_district}
use Rattle.audit_model.specs.Graph.{Graph}
use Rattle.audit_model.specs.Local.{MayLeave}
use Rattle.audit_model.specs.Path.{IsConnected}
use Rattle.contig.specs.Counts.{missing_faces}
use Rattle.contig.proofs.Filling.{IsFilled, filled_by, filled_connected, put_back}
use Rattle.contig.proofs.fill.+fill.Goals as goal

pub fill-filled-requires : goal.fill-filled-requires
fill-filled-requires t c =
    let g = c.args.graph.now in
    let faces = c.args.table.now.faces in
    let plan : List ℕ = c.args.plan.now in
    let u : ℕ = c.args.unit in
    let f : ℕ = get_or c.args.fillers.now 0 0 in
    let home : ℕ = get_or plan u 0 in
    let full : List ℕ = set plan f home in
    let left : ℕ = c.missing_with-left.result in
    let m = c.member-2.result in
    let h = c.if-not-can_fill.false in
    let below = c.can_fill.ensures.within h in
    let outside = c.can_fill.ensures.outside h in
    let beside = c.can_fill.ensures.beside h in
    let lf = subst (λ t. f < t) (sym c.requires.width) below in
    let s : IsFilled full plan u f = filled_by plan u f lf outside in
    let connected : IsConnected g (in_district full (slice_index full u)) =
    filled_connected g full plan u f s c.can_fill.ensures.sound beside.0 below beside.1 beside.2 c.requires.connected in
    let counted : Graph → List ℕ → ℕ → Type 0 = λ k p v. left ≡ missing_faces k faces (in_district (set p v home) home) in
    let missing : counted g plan f = subst (λ (k : Graph). counted k plan f) c.member-2.ensures.graph
    (subst (λ (p : List ℕ). counted m.graph.now p f) c.member-2.ensures.plan
    (subst (λ (v : ℕ). counted m.graph.now m.plan.now v) c.member-2.ensures.unit c.missing_with-left.ensures)) in
    let stays : get_or full u 0 ≡ home = get_or-set_other plan f u home 0 (λ e. outside (ap (λ t. get_or plan t 0) (sym e))) in (
      search rules,
      (
        c.requires.made,
        (
          length-set plan f home ∙ c.requires.width,
          (
            c.requires.unit,
            (subst (λ d. left ≡ missing_faces g faces (in_district full d)) (sym stays) missing, connected),
          ),
        ),
      ),
    )

pub returns-clause-plan : goal.returns-clause-plan
returns-clause-plan t c =
    let plan : List ℕ = c.args.plan.now in
    let f : ℕ = get_or c.args.fillers.now 0 0 in
    ap (λ (p : List ℕ). set p f (get_or plan f 0)) (c.decide_without-decided.ensures.plan ∙ c.fill-filled.ensures.plan) ∙ put_back plan f (get_or plan c.args.unit 0)

pub returns-clause-observed : goal.returns-clause-observed
returns-clause-observed t c =
    let g = c.args.graph.now in
    let plan : List ℕ = c.args.plan.now in
    let u : ℕ = c.args.unit in
    let f : ℕ = get_or c.args.fillers.now 0 0 in
    let back : set c.fill-filled.new.plan f (get_or plan f 0) ≡ plan =
    ap (λ (p : List ℕ). set p f (get_or plan f 0)) c.fill-filled.ensures.plan ∙ put_back plan f (get_or plan u 0) in
    subst (λ (p : List ℕ). MatchOption c.decide_without-decided.result ⊤ (λ may. IsTrue may ↔ MayLeave g p u)) back c.decide_without-decided.ensures.observed
