use Rattle.std.proofs.Common.{◌≡◌, ℕ, ◌+◌, ◌<◌, ◌++◌, ◌∷◌, true, length, take, get_or, List, [], arith, refl, sym, ap, subst, ◌∙◌, inl}
use Rattle.std.proofs.lemmas.List.{take_all, take_more}
use Rattle.std.proofs.lemmas.Bool.{false≢true}
use Rattle.audit_model.specs.Graph.{Graph, has, adjacent}
use Rattle.audit_model.specs.Replaced.{Replaced}
use Rattle.audit_model.proofs.ListFacts.{at_has}
use Rattle.audit_model.proofs.Paths.{path_end}
use Rattle.dual_graph.specs.Marked.{Marked}
use Rattle.contig.specs.Parts.{IsSpread}
use Rattle.contig.proofs.Spreading.{spread_passed, spread_joined, labels_stay_small, above_zero}
use Rattle.contig.proofs.parts.link.Goals as goal
use Rattle.contig.proofs.parts.link.Goals.{then-there-ne0+then-roots-there, else-there-ne0, else-there-ne0-via-then-there-ne0+else-roots-there, else-there-ne0-via-else-there-ne0}

pub loop-other-preserved : goal.loop-other-preserved
loop-other-preserved c inside joined complete =
    let g : Graph = c.args.graph.now in
    let row : List ℕ = c.neighbours-other-items.result.now in
    let i : ℕ = c.loop-other.other-index in
    let lt : i < length row = c.loop-other-test.true in
    let v : ℕ = get_or row i 0 in
    let m : Marked = c.args.marks.now in
    let before : List ℕ = c.args.roots.now in
    let after : List ℕ = c.loop-other.roots in
    let label : ℕ = c.label-label.result in
    let unit : ℕ = c.args.unit in
    let s : IsSpread g inside (take i row) label m m before after = c.loop-other.invariant inside joined complete in
    let more : take i row ++ v ∷ [] ≡ take (i + 1) row = sym (take_more row i 0 lt) in
    let far : (r : List ℕ) → c.if-there-ne0.roots ≡ r → IsSpread g inside (take i row ++ v ∷ []) label m m before r
    → IsSpread g inside (take (i + 1) row) label m m before c.if-there-ne0.roots =
    λ r er h. subst (λ (x : List ℕ). IsSpread g inside (take (i + 1) row) label m m before x) (sym er)
    (subst (λ (x : List ℕ). IsSpread g inside x label m m before r) more h) in
    let found : get_or m.labels unit 0 ≡ label = sym c.label-label.ensures in
    let pos : 0 < label = subst (λ t. 0 < t) found c.requires.label in
    let uv : adjacent g unit v ≡ true = subst (λ (xs : List ℕ). has xs v ≡ true) c.neighbours-other-items.ensures.list (at_has row i lt) in
    let vu : adjacent g v unit ≡ true = c.neighbours-other-items.ensures.sound.symmetric v unit ∙ uv in
    let wide : length before ≡ 17 = c.told-roots in
    let few : (w : ℕ) → get_or m.labels w 0 < length before = λ w. omega (arith, c.requires.marked.small w, wide) in
    let small : (w : ℕ) → get_or m.labels w 0 < length after = λ w. labels_stay_small g inside (take i row) label m m before after s few unit found w in
    elim c.if-there-ne0.branch [
      | then-there-ne0+then-roots-there w ↦
          let there : 0 < get_or m.labels v 0 = above_zero c.label-there.result (get_or m.labels v 0) c.label-there.ensures w.if-there-ne0.true in
          far w.join.new.classes w.roots-is
          (spread_joined g inside (take i row) label m m before after v s unit found pos (path_end g inside v v (joined.path v v there there refl)) uv vu w.join.new.classes there small
          (subst (λ t. Replaced after w.join.new.classes t label) c.label-there.ensures w.join.ensures) w.join.auto.classes)
      | else-there-ne0 w ↦ far after w.roots-is (spread_passed g inside (take i row) label m m before after v s (λ is_in.
          let there : 0 < get_or m.labels v 0 = complete v is_in uv in (
            there,
            elim w.else-there-ne0.branch [
              | else-there-ne0-via-then-there-ne0+else-roots-there w' ↦ ap (λ t. get_or after t 0) (sym c.label-there.ensures) ∙ w'.if-roots-there.false
              | else-there-ne0-via-else-there-ne0 w' ↦ absurd (omega (arith, there, c.label-there.ensures, w'.if-there-ne0.false))
            ],
          )))
    ]

pub loop-other-init : goal.loop-other-init
loop-other-init c inside joined complete = record {
  units = refl;
  marked = c.requires.marked.marked;
  longer = omega arith;
  front = λ k l. refl;
  kept = λ v p. refl;
  fresh = λ v. inl refl;
  added = λ k a b. absurd (omega (arith, a, b));
  each = λ v i h. absurd (false≢true h);
  coarser = λ a b la lb e. e;
  joined = joined;
  width = refl;
}

pub returns : goal.returns
returns c inside joined complete =
    let g : Graph = c.args.graph.now in
    let m : Marked = c.args.marks.now in
    subst (λ (xs : List ℕ). IsSpread g inside xs (get_or m.labels c.args.unit 0) m m c.args.roots.now c.loop-other.roots)
    (take_all c.loop-other.other-index c.neighbours-other-items.result.now (omega (arith, c.loop-other-test.false)) ∙ c.neighbours-other-items.ensures.list)
    (subst (λ (t : ℕ). IsSpread g inside (take c.loop-other.other-index c.neighbours-other-items.result.now) t m m c.args.roots.now c.loop-other.roots)
    c.label-label.ensures (c.loop-other.invariant inside joined complete))
