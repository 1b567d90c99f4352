-- A search that grows from several units in turn.
use Rattle.std.proofs.Common.{◌≡◌, ◌≢◌, ℕ, ◌+◌, ◌<◌, ◌≤◌, Bool, true, not, List, [], length, get_or, set, refl, sym, ap, ◌∙◌, subst, inl, inr, arith, length-set, get_or-set_other}
use Rattle.std.specs.Prelude.{◌==◌, slice_index}
use Rattle.std.proofs.lemmas.Bool.{cases_eq, cases_lt, ne_eqb, and_parts, and_from, both_ways, not_from_false}
use Rattle.audit_model.specs.Graph.{Graph, adjacent, IsIn, IsGraph}
use Rattle.audit_model.specs.Path.{HasPath, IsConnected}
use Rattle.audit_model.specs.District.{in_district}
use Rattle.audit_model.specs.Local.{is_mate, stays_behind}
use Rattle.audit_model.proofs.ListFacts.{has_at, at_has}
use Rattle.audit_model.proofs.Paths.{path_one, path_stays, path_end}
use Rattle.dual_graph.specs.Marked.{Marked}
use Rattle.contig.specs.Parts.{part, IsJoined, AllOne, NotOne, IsSpread, IsSeeded}
use Rattle.contig.proofs.Between.{IsGrowing}

-- ---- the start

-- a mate stays behind
pub mate_stays : (g : Graph) (plan : List ℕ) (u v : ℕ) → IsGraph g → IsIn g (is_mate g plan u) v → IsIn g (stays_behind plan u) v
mate_stays g plan u v graph i =
    let parts = and_parts (adjacent g u v) (in_district plan (slice_index plan u) v) i.1 in (
      i.0,
      and_from (in_district plan (slice_index plan u) v) (not (v == u)) parts.1
          (not_from_false (v == u) (ne_eqb v u (λ e. both_ways (adjacent g u u) (graph.loopless u) (subst (λ t. adjacent g u t ≡ true) e parts.0)))),
    )

-- each mate is joined with itself
pub seeds_joined : (g : Graph) (plan : List ℕ) (u last : ℕ) (m : Marked) (roots : List ℕ) → IsSeeded g plan u last m → last ≤ 16
    → ((k : ℕ) → k < 17 → get_or roots k 0 ≡ k) → IsJoined g (is_mate g plan u) m.labels roots
seeds_joined g plan u last m roots s few same = record {
  path = λ v w pv pw e.
      let label_v : part m.labels roots v ≡ get_or m.labels v 0 = same (get_or m.labels v 0) (omega (arith, s.small v)) in
      let label_w : part m.labels roots w ≡ get_or m.labels w 0 = same (get_or m.labels w 0) (omega (arith, s.small w)) in
      let is : v ≡ w = s.single v w pv (sym label_v ∙ e ∙ label_w) in
      subst (λ t. HasPath g (is_mate g plan u) v t) is (path_one g (is_mate g plan u) v (s.mates v pv));
}

-- ---- a turn

module _ (g : Graph) (inside : ℕ → Bool) (last : ℕ) (m : Marked) (roots ends : List ℕ) (at : ℕ) (s : IsGrowing g inside last m roots ends at) (few : last ≤ 16) where
  label_inside : (v : ℕ) → get_or m.labels v 0 < length roots
  label_inside v = omega (arith, s.small v, s.widths.0)

  -- the neighbors of one more unit are found
  pub grow_more : (label unit : ℕ) (after : Marked) (now later : List ℕ) → label ≤ last → at < length m.items
      → get_or m.labels unit 0 ≡ label → unit ≡ get_or m.items at 0
      → IsSpread g inside (get_or g.neighbours unit []) label m after roots now → NotOne now last
      → later ≡ set ends label (get_or later label 0) → get_or ends label 0 ≤ get_or later label 0
      → (length m.items < length after.items → length after.items ≤ get_or later label 0)
      → IsGrowing g inside last after now later (at + 1)
  grow_more label unit after now later le lt is_label is spread parted others rising raised = record {
    units = spread.units ∙ s.units;
    marked = spread.marked;
    joined = spread.joined;
    small = λ v. elim (spread.fresh v) [ inl e ↦ omega (arith, e, s.small v) | inr e ↦ omega (arith, e, le) ];
    seeds = λ l p b. let seed = s.seeds l p b in (seed.0, spread.kept seed.0 (subst (λ t. 0 < t) (sym seed.1) p) ∙ seed.1);
    closed = closes;
    ended = ends_before;
    parted = parted;
    widths = (spread.width ∙ s.widths.0, ap length others ∙ length-set ends label (get_or later label 0) ∙ s.widths.1);
    bound = omega (arith, lt, spread.longer);
  }
    where
      old_label : (k : ℕ) → k < length m.items → 0 < get_or m.labels (get_or m.items k 0) 0
      old_label k l = s.marked.labelled (get_or m.items k 0) (at_has m.items k l)

      -- a unit whose turn is over keeps its neighbors in its part
      stays : (x v : ℕ) → 0 < get_or m.labels x 0 → (0 < get_or m.labels v 0) × (part m.labels roots v ≡ part m.labels roots x)
          → (0 < get_or after.labels v 0) × (part after.labels now v ≡ part after.labels now x)
      stays x v px was =
          let kv = spread.kept v was.0 in
          let kx = spread.kept x px in (
            subst (λ t. 0 < t) (sym kv) was.0,
            ap (λ t. get_or now t 0) kv ∙ spread.coarser (get_or m.labels v 0) (get_or m.labels x 0) (label_inside v) (label_inside x) was.1 ∙ sym (ap (λ t. get_or now t 0) kx),
          )

      closes : (k : ℕ) → k < at + 1 → (v : ℕ) → IsIn g inside v → adjacent g (get_or after.items k 0) v ≡ true
          → (0 < get_or after.labels v 0) × (part after.labels now v ≡ part after.labels now (get_or after.items k 0))
      closes k below v i a =
          let old : k < length m.items = omega (arith, below, lt) in
          let ex : get_or after.items k 0 ≡ get_or m.items k 0 = spread.front k old in
          let px : 0 < get_or m.labels (get_or after.items k 0) 0 = subst (λ t. 0 < get_or m.labels t 0) (sym ex) (old_label k old) in
          elim (cases_eq k at) [
            | inl here ↦
                let ux : unit ≡ get_or after.items k 0 = is ∙ ap (λ t. get_or m.items t 0) (sym here) ∙ sym ex in
                let each = spread.each v i (subst (λ t. adjacent g t v ≡ true) (sym ux) a) in
                let label_x : get_or m.labels (get_or after.items k 0) 0 ≡ label = ap (λ t. get_or m.labels t 0) (sym ux) ∙ is_label in
                (each.0, each.1 ∙ sym (ap (λ t. get_or now t 0) (spread.kept (get_or after.items k 0) px ∙ label_x)))
            | inr other ↦ stays (get_or after.items k 0) v px
                (subst (λ t. (0 < get_or m.labels v 0) × (part m.labels roots v ≡ part m.labels roots t)) (sym ex)
                (s.closed k (omega (arith, below, other)) v i (subst (λ t. adjacent g t v ≡ true) ex a)))
          ]

      ends_old : (k : ℕ) → k < length m.items → k < get_or ends (get_or after.labels (get_or after.items k 0) 0) 0
      ends_old k old =
          let ex : get_or after.items k 0 ≡ get_or m.items k 0 = spread.front k old in
          let px : 0 < get_or m.labels (get_or after.items k 0) 0 = subst (λ t. 0 < get_or m.labels t 0) (sym ex) (old_label k old) in
          subst (λ t. k < get_or ends t 0) (sym (spread.kept (get_or after.items k 0) px))
          (subst (λ t. k < get_or ends (get_or m.labels t 0) 0) (sym ex) (s.ended k old))

      ends_before : (k : ℕ) → k < length after.items → k < get_or later (get_or after.labels (get_or after.items k 0) 0) 0
      ends_before k l = elim (cases_lt k (length m.items)) [
        | inl old ↦
            let was = ends_old k old in
            elim (cases_eq (get_or after.labels (get_or after.items k 0) 0) label) [
              | inl same ↦
                  let here : k < get_or ends label 0 = subst (λ t. k < get_or ends t 0) same was in
                  subst (λ t. k < get_or later t 0) (sym same) (omega (arith, here, rising))
              | inr off ↦ subst (λ t. k < t) (sym (ap (λ (t : List ℕ). get_or t (get_or after.labels (get_or after.items k 0) 0) 0) others
                  ∙ get_or-set_other ends label (get_or after.labels (get_or after.items k 0) 0) (get_or later label 0) 0 off)) was
            ]
        | inr new ↦ subst (λ t. k < get_or later t 0) (sym (spread.added k new l)) (let more = raised (omega (arith, new, l)) in omega (arith, more, l))
      ]

  -- ---- the end

  -- some label has another root
  other_part : (l : ℕ) → 0 < last → (k : ℕ) × (0 < k) × (k ≤ last) × (get_or roots k 0 ≢ get_or roots l 0)
  other_part l some = elim (cases_eq (get_or roots 1 0) (get_or roots l 0)) [
    | inl e ↦ (s.parted.0, s.parted.1, s.parted.2, λ f. s.parted.3 (f ∙ sym e))
    | inr e ↦ (1, omega arith, some, e)
  ]

  -- a unit in the part of a label
  abbrev IsHere : ℕ → ℕ → Type 0
  IsHere label v = (0 < get_or m.labels v 0) × (part m.labels roots v ≡ get_or roots label 0)

  -- if all units of one part have had their turn, the set is not connected
  pub grow_parted : (label : ℕ) → 0 < label → label ≤ last → ((k : ℕ) → k < length m.items → part m.labels roots (get_or m.items k 0) ≡ get_or roots label 0 → k < at)
      → IsConnected g inside → ⊥
  grow_parted label pos le done connected =
      let seed = s.seeds label pos le in
      let other = other_part label (omega (arith, pos, le)) in
      let goal_seed = s.seeds other.0 other.1 other.2 in
      let pa : 0 < get_or m.labels seed.0 0 = subst (λ t. 0 < t) (sym seed.1) pos in
      let pb : 0 < get_or m.labels goal_seed.0 0 = subst (λ t. 0 < t) (sym goal_seed.1) other.1 in
      let ia = path_end g inside seed.0 seed.0 (s.joined.path seed.0 seed.0 pa pa refl) in
      let ib = path_end g inside goal_seed.0 goal_seed.0 (s.joined.path goal_seed.0 goal_seed.0 pb pb refl) in
      let here = path_stays g inside (IsHere label) (step label done) seed.0 goal_seed.0 (connected.joined seed.0 goal_seed.0 ia ib) (pa, ap (λ t. get_or roots t 0) seed.1) in
      other.3 (ap (λ t. get_or roots t 0) (sym goal_seed.1) ∙ here.1)
    where
      step : (label : ℕ) → ((k : ℕ) → k < length m.items → part m.labels roots (get_or m.items k 0) ≡ get_or roots label 0 → k < at)
          → (v w : ℕ) → IsHere label v → IsIn g inside w → adjacent g v w ≡ true → IsHere label w
      step label done v w here i a =
          let place = has_at m.items v (s.marked.listed v here.0) in
          let below : place.0 < at = done place.0 place.1 (ap (λ t. part m.labels roots t) place.2 ∙ here.1) in
          let closed = s.closed place.0 below w i (subst (λ t. adjacent g t w ≡ true) (sym place.2) a) in
          (closed.0, closed.1 ∙ ap (λ t. part m.labels roots t) place.2 ∙ here.1)

  -- if all labels of one part end before the position, its units have had their turn
  pub part_done : (label : ℕ) → ((l : ℕ) → 0 < l → l ≤ last → get_or roots l 0 ≡ get_or roots label 0 → get_or ends l 0 ≤ at)
      → (k : ℕ) → k < length m.items → part m.labels roots (get_or m.items k 0) ≡ get_or roots label 0 → k < at
  part_done label done k l same =
      let v = get_or m.items k 0 in
      let far = done (get_or m.labels v 0) (s.marked.labelled v (at_has m.items k l)) (s.small v) same in
      omega (arith, s.ended k l, far)

-- if all labels have one root, any two units found have a path
pub joined_all : (g : Graph) (inside : ℕ → Bool) (labels roots : List ℕ) (last : ℕ) → IsJoined g inside labels roots → AllOne roots last → ((v : ℕ) → get_or labels v 0 ≤ last)
    → (v w : ℕ) → 0 < get_or labels v 0 → 0 < get_or labels w 0 → HasPath g inside v w
joined_all g inside labels roots last joined one small v w pv pw =
    joined.path v w pv pw (one (get_or labels v 0) pv (small v) ∙ sym (one (get_or labels w 0) pw (small w)))
