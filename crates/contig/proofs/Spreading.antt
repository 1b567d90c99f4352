-- Finding the neighbors of one unit.
use Rattle.std.proofs.Common.{◌≡◌, ℕ, zero, suc, ◌<◌, Bool, true, false, cond, List, [], ◌∷◌, ◌++◌, length, get_or, set, refl, sym, ap, ◌∙◌, subst, inl, inr, arith, length-append, get_or-set_same, get_or-set_other}
use Rattle.std.specs.Prelude.{◌==◌, ◌||◌, ◌&&◌, not}
use Rattle.std.proofs.lemmas.Bool.{cases_eq, eq-eqb, eqb-true, ne_eqb, cond-true, cond-false, false≢true, not-false, or_parts, and_cases}
use Rattle.std.proofs.lemmas.List.{get_or_append_left, get_or_push}
use Rattle.audit_model.specs.Graph.{Graph, has, adjacent, IsIn}
use Rattle.audit_model.specs.Path.{HasPath}
use Rattle.audit_model.proofs.Connected.{has-append_parts}
use Rattle.audit_model.proofs.ListFacts.{has_one}
use Rattle.audit_model.proofs.Paths.{path_one, path_before, path_after, path_joined, path_end}
use Rattle.dual_graph.specs.Marked.{Marked, IsMarked}
use Rattle.contig.specs.Parts.{part, IsSpread, IsRowMarked, IsOnePart}
use Rattle.audit_model.specs.Replaced.{Replaced}

-- the roots, with that of one label replaced by that of another
abbrev moved : List ℕ → ℕ → ℕ → ℕ → ℕ
moved roots from into x = cond (x == get_or roots from 0) (get_or roots into 0) x

-- a replaced root is the other one
moved_at : (roots : List ℕ) (from into x : ℕ) → x ≡ get_or roots from 0 → moved roots from into x ≡ get_or roots into 0
moved_at roots from into x e = cond-true {A = ℕ} (x == get_or roots from 0) (get_or roots into 0) x (eq-eqb x (get_or roots from 0) e)

-- each other root stays
moved_off : (roots : List ℕ) (from into x : ℕ) → (x ≡ get_or roots from 0 → ⊥) → moved roots from into x ≡ x
moved_off roots from into x e = cond-false {A = ℕ} (x == get_or roots from 0) (get_or roots into 0) x (ne_eqb x (get_or roots from 0) e)

module _ (g : Graph) (inside : ℕ → Bool) (row : List ℕ) (label : ℕ) (old new : Marked) (before after : List ℕ) (v : ℕ) (s : IsSpread g inside row label old new before after) where
  -- the next neighbor is not in the set, or already in the part
  pub spread_passed : (IsIn g inside v → (0 < get_or new.labels v 0) × (part new.labels after v ≡ get_or after label 0))
      → IsSpread g inside (row ++ v ∷ []) label old new before after
  spread_passed there = record {
    units = s.units;
    marked = s.marked;
    longer = s.longer;
    front = s.front;
    kept = s.kept;
    fresh = s.fresh;
    added = s.added;
    each = λ w i h. elim (has-append_parts row (v ∷ []) w h) [
      | inl e ↦ s.each w i e
      | inr e ↦ subst (λ t. (0 < get_or new.labels t 0) × (part new.labels after t ≡ get_or after label 0)) (has_one v w e)
          (there (subst (λ t. IsIn g inside t) (sym (has_one v w e)) i))
    ];
    coarser = s.coarser;
    joined = s.joined;
    width = s.width;
  }

  module _ (unit : ℕ) (found : get_or new.labels unit 0 ≡ label) (pos : 0 < label) (i : IsIn g inside v) (uv : adjacent g unit v ≡ true) (vu : adjacent g v unit ≡ true) where
    unit_found : 0 < get_or new.labels unit 0
    unit_found = subst (λ t. 0 < t) (sym found) pos

    unit_in : IsIn g inside unit
    unit_in = path_end g inside unit unit (s.joined.path unit unit unit_found unit_found refl)

    -- the next neighbor gets the label
    pub spread_marked : (grown : Marked) → get_or new.labels v 0 ≡ 0 → v < new.units
        → grown.units ≡ new.units → grown.items ≡ new.items ++ v ∷ [] → grown.labels ≡ set new.labels v label → IsMarked grown
        → IsSpread g inside (row ++ v ∷ []) label old grown before after
    spread_marked grown none lt eu ei el marked = record {
      units = eu ∙ s.units;
      marked = marked;
      longer = omega (arith, s.longer, ap length ei, length-append new.items (v ∷ []));
      front = λ k l. ap (λ (t : List ℕ). get_or t k 0) ei ∙ get_or_append_left new.items (v ∷ []) 0 k (omega (arith, s.longer)) ∙ s.front k l;
      kept = λ w h. off w (differs w (subst (λ t. 0 < t) (sym (s.kept w h)) h)) ∙ s.kept w h;
      fresh = λ w. elim (cases_eq w v) [
        | inl e ↦ inr (subst (λ t. get_or grown.labels t 0 ≡ label) (sym e) at_v)
        | inr e ↦ elim (s.fresh w) [ inl f ↦ inl (off w e ∙ f) | inr f ↦ inr (off w e ∙ f) ]
      ];
      added = λ k l h. elim (cases_eq k (length new.items)) [
        | inl e ↦
            let item : get_or grown.items k 0 ≡ v = ap (λ (t : List ℕ). get_or t k 0) ei ∙ get_or_push new.items v 0 k (sym e) in
            ap (λ t. get_or grown.labels t 0) item ∙ at_v
        | inr e ↦
            let before_it : k < length new.items = omega (arith, ap length ei, length-append new.items (v ∷ [])) in
            let item : get_or grown.items k 0 ≡ get_or new.items k 0 = ap (λ (t : List ℕ). get_or t k 0) ei ∙ get_or_append_left new.items (v ∷ []) 0 k before_it in
            let was : get_or new.labels (get_or new.items k 0) 0 ≡ label = s.added k l before_it in
            ap (λ t. get_or grown.labels t 0) item ∙ off (get_or new.items k 0) (differs (get_or new.items k 0) (subst (λ t. 0 < t) (sym was) pos)) ∙ was
      ];
      each = λ w j h. elim (has-append_parts row (v ∷ []) w h) [
        | inl e ↦
            let was = s.each w j e in
            let same : get_or grown.labels w 0 ≡ get_or new.labels w 0 = off w (differs w was.0) in
            (subst (λ t. 0 < t) (sym same) was.0, ap (λ t. get_or after t 0) same ∙ was.1)
        | inr e ↦
            let is : get_or grown.labels w 0 ≡ label = subst (λ t. get_or grown.labels t 0 ≡ label) (has_one v w e) at_v in
            (subst (λ t. 0 < t) (sym is) pos, ap (λ t. get_or after t 0) is)
      ];
      coarser = s.coarser;
      joined = record {
        path = λ a b pa pb same. elim (cases_eq a v) [
          | inl ea ↦ elim (cases_eq b v) [
            | inl eb ↦ subst (λ t. HasPath g inside a t) (sym eb) (subst (λ t. HasPath g inside t v) (sym ea) (path_one g inside v i))
            | inr eb ↦ subst (λ t. HasPath g inside t b) (sym ea) (path_before g inside v unit b i vu
                (s.joined.path unit b unit_found (subst (λ t. 0 < t) (off b eb) pb) (root_v ∙ sym (part_at a ea) ∙ same ∙ part_off b eb)))
          ]
          | inr ea ↦ elim (cases_eq b v) [
            | inl eb ↦ subst (λ t. HasPath g inside a t) (sym eb) (path_after g inside a unit v
                (s.joined.path a unit (subst (λ t. 0 < t) (off a ea) pa) unit_found (sym (part_off a ea) ∙ same ∙ part_at b eb ∙ sym root_v)) i uv)
            | inr eb ↦ s.joined.path a b (subst (λ t. 0 < t) (off a ea) pa) (subst (λ t. 0 < t) (off b eb) pb) (sym (part_off a ea) ∙ same ∙ part_off b eb)
          ]
        ];
      };
      width = s.width;
    }
      where
        inside_labels : v < length new.labels
        inside_labels = subst (λ t. v < t) (sym s.marked.width) lt

        at_v : get_or grown.labels v 0 ≡ label
        at_v = ap (λ (t : List ℕ). get_or t v 0) el ∙ get_or-set_same new.labels v label 0 inside_labels

        off : (w : ℕ) → (w ≡ v → ⊥) → get_or grown.labels w 0 ≡ get_or new.labels w 0
        off w e = ap (λ (t : List ℕ). get_or t w 0) el ∙ get_or-set_other new.labels v w label 0 e

        differs : (w : ℕ) → 0 < get_or new.labels w 0 → w ≡ v → ⊥
        differs w h e = let q : 0 < get_or new.labels v 0 = subst (λ t. 0 < get_or new.labels t 0) e h in omega (arith, q, none)

        root_v : part new.labels after unit ≡ get_or after label 0
        root_v = ap (λ t. get_or after t 0) found

        part_at : (w : ℕ) → w ≡ v → part grown.labels after w ≡ get_or after label 0
        part_at w e = ap (λ t. get_or after t 0) (subst (λ t. get_or grown.labels t 0 ≡ label) (sym e) at_v)

        part_off : (w : ℕ) → (w ≡ v → ⊥) → part grown.labels after w ≡ part new.labels after w
        part_off w e = ap (λ t. get_or after t 0) (off w e)

    -- the next neighbor is in another part, which is joined
    pub spread_joined : (roots : List ℕ) → 0 < get_or new.labels v 0 → ((w : ℕ) → get_or new.labels w 0 < length after)
        → Replaced after roots (get_or new.labels v 0) label → length roots ≡ length after
        → IsSpread g inside (row ++ v ∷ []) label old new before roots
    spread_joined roots there small replaced long = record {
      units = s.units;
      marked = s.marked;
      longer = s.longer;
      front = s.front;
      kept = s.kept;
      fresh = s.fresh;
      added = s.added;
      each = λ w j h. elim (has-append_parts row (v ∷ []) w h) [
        | inl e ↦ let was = s.each w j e in (was.0, follows (get_or new.labels w 0) label (small w) label_small was.1)
        | inr e ↦ subst (λ t. (0 < get_or new.labels t 0) × (part new.labels roots t ≡ get_or roots label 0)) (has_one v w e)
            (there, replaced (get_or new.labels v 0) (small v) ∙ at_v ∙ sym at_label ∙ sym (replaced label label_small))
      ];
      coarser = λ a b la lb e. follows a b (subst (λ t. a < t) (sym s.width) la) (subst (λ t. b < t) (sym s.width) lb) (s.coarser a b la lb e);
      joined = record {
        path = λ a b pa pb same.
            let equal : moved after (get_or new.labels v 0) label (part new.labels after a) ≡ moved after (get_or new.labels v 0) label (part new.labels after b) = sym (replaced (get_or new.labels a 0) (small a)) ∙ same ∙ replaced (get_or new.labels b 0) (small b) in
            elim (cases_eq (part new.labels after a) (get_or after (get_or new.labels v 0) 0)) [
              | inl ea ↦ elim (cases_eq (part new.labels after b) (get_or after (get_or new.labels v 0) 0)) [
                | inl eb ↦ s.joined.path a b pa pb (ea ∙ sym eb)
                | inr eb ↦
                    let rest : part new.labels after unit ≡ part new.labels after b = ap (λ t. get_or after t 0) found ∙ sym (F_at (part new.labels after a) ea) ∙ equal ∙ F_off (part new.labels after b) eb in
                    path_joined g inside a v b (s.joined.path a v pa there ea) (path_before g inside v unit b i vu (s.joined.path unit b unit_found pb rest))
              ]
              | inr ea ↦ elim (cases_eq (part new.labels after b) (get_or after (get_or new.labels v 0) 0)) [
                | inl eb ↦
                    let first : part new.labels after a ≡ part new.labels after unit = sym (F_off (part new.labels after a) ea) ∙ equal ∙ F_at (part new.labels after b) eb ∙ sym (ap (λ t. get_or after t 0) found) in
                    path_joined g inside a unit b (s.joined.path a unit pa unit_found first) (path_before g inside unit v b unit_in uv (s.joined.path v b there pb (sym eb)))
                | inr eb ↦ s.joined.path a b pa pb (sym (F_off (part new.labels after a) ea) ∙ equal ∙ F_off (part new.labels after b) eb)
              ]
            ];
      };
      width = long ∙ s.width;
    }
      where
        label_small : label < length after
        label_small = subst (λ t. t < length after) found (small unit)

        follows : (a b : ℕ) → a < length after → b < length after → get_or after a 0 ≡ get_or after b 0 → get_or roots a 0 ≡ get_or roots b 0
        follows a b la lb e = replaced a la ∙ ap (λ x. moved after (get_or new.labels v 0) label x) e ∙ sym (replaced b lb)

        F_at : (x : ℕ) → x ≡ get_or after (get_or new.labels v 0) 0 → moved after (get_or new.labels v 0) label x ≡ get_or after label 0
        F_at x e = moved_at after (get_or new.labels v 0) label x e

        F_off : (x : ℕ) → (x ≡ get_or after (get_or new.labels v 0) 0 → ⊥) → moved after (get_or new.labels v 0) label x ≡ x
        F_off x e = moved_off after (get_or new.labels v 0) label x e

        at_v : moved after (get_or new.labels v 0) label (get_or after (get_or new.labels v 0) 0) ≡ get_or after label 0
        at_v = F_at (get_or after (get_or new.labels v 0) 0) refl

        at_label : moved after (get_or new.labels v 0) label (get_or after label 0) ≡ get_or after label 0
        at_label = elim (cases_eq (get_or after label 0) (get_or after (get_or new.labels v 0) 0)) [ inl e ↦ F_at (get_or after label 0) e | inr e ↦ F_off (get_or after label 0) e ]

-- labels stay within the list of roots
pub labels_stay_small : (g : Graph) (inside : ℕ → Bool) (row : List ℕ) (label : ℕ) (old new : Marked) (before after : List ℕ)
    → IsSpread g inside row label old new before after → ((v : ℕ) → get_or old.labels v 0 < length before)
    → (unit : ℕ) → get_or old.labels unit 0 ≡ label → (w : ℕ) → get_or new.labels w 0 < length after
labels_stay_small g inside row label old new before after s small unit is w = elim (s.fresh w) [
  | inl e ↦ subst (λ t. get_or new.labels w 0 < t) (sym s.width) (subst (λ t. t < length before) (sym e) (small w))
  | inr e ↦ subst (λ t. get_or new.labels w 0 < t) (sym s.width) (subst (λ t. t < length before) (is ∙ sym e) (small unit))
]

-- a number that is not zero is positive
pub above_zero : (n m : ℕ) → n ≡ m → (n ≡ 0 → ⊥) → 0 < m
above_zero zero m e h = absurd (h refl)
above_zero (suc n) m e h = omega (arith, e)

-- ---- marking a row, and joining the parts after that

-- the same marks, of another row
spread_of : (g : Graph) (inside : ℕ → Bool) (row other : List ℕ) (label : ℕ) (old new : Marked) (before after : List ℕ) → IsSpread g inside row label old new before after
    → ((v : ℕ) → IsIn g inside v → has other v ≡ true → (0 < get_or new.labels v 0) × (part new.labels after v ≡ get_or after label 0))
    → IsSpread g inside other label old new before after
spread_of g inside row other label old new before after s each = record {
  units = s.units;
  marked = s.marked;
  longer = s.longer;
  front = s.front;
  kept = s.kept;
  fresh = s.fresh;
  added = s.added;
  each = each;
  coarser = s.coarser;
  joined = s.joined;
  width = s.width;
}

module _ (g : Graph) (inside : ℕ → Bool) (row : List ℕ) (label : ℕ) (old new : Marked) (roots : List ℕ) (s : IsRowMarked g inside row label old new roots) where
  module _ (v : ℕ) where
    -- the next neighbor is not in the set, or already found
    pub row_passed : (IsIn g inside v → 0 < get_or new.labels v 0) → IsRowMarked g inside (row ++ v ∷ []) label old new roots
    row_passed there = record {
      spread = s.spread;
      found = λ w i h. elim (has-append_parts row (v ∷ []) w h) [
        | inl e ↦ s.found w i e
        | inr e ↦ subst (λ t. 0 < get_or new.labels t 0) (has_one v w e) (there (subst (λ t. IsIn g inside t) (sym (has_one v w e)) i))
      ];
    }

    -- and it is in the part
    pub one_passed : IsOnePart g inside row label new.labels roots → (IsIn g inside v → part new.labels roots v ≡ get_or roots label 0)
        → IsOnePart g inside (row ++ v ∷ []) label new.labels roots
    one_passed one there w i h = elim (has-append_parts row (v ∷ []) w h) [
      | inl e ↦ one w i e
      | inr e ↦ subst (λ t. part new.labels roots t ≡ get_or roots label 0) (has_one v w e) (there (subst (λ t. IsIn g inside t) (sym (has_one v w e)) i))
    ]

    module _ (grown : Marked) (lt : v < new.units) (el : grown.labels ≡ set new.labels v label) where
      at_v : (w : ℕ) → w ≡ v → get_or grown.labels w 0 ≡ label
      at_v w e = subst (λ t. get_or grown.labels t 0 ≡ label) (sym e)
          (ap (λ (t : List ℕ). get_or t v 0) el ∙ get_or-set_same new.labels v label 0 (subst (λ t. v < t) (sym s.spread.marked.width) lt))

      off_v : (w : ℕ) → (w ≡ v → ⊥) → get_or grown.labels w 0 ≡ get_or new.labels w 0
      off_v w e = ap (λ (t : List ℕ). get_or t w 0) el ∙ get_or-set_other new.labels v w label 0 e

      in_row : (w : ℕ) → (w ≡ v → ⊥) → has (row ++ v ∷ []) w ≡ true → has row w ≡ true
      in_row w off h = elim (has-append_parts row (v ∷ []) w h) [ inl e ↦ e | inr e ↦ absurd (off (sym (has_one v w e))) ]

      -- the next neighbor gets the label
      pub row_marked : (unit : ℕ) → get_or new.labels unit 0 ≡ label → 0 < label → IsIn g inside v → adjacent g unit v ≡ true → adjacent g v unit ≡ true
          → get_or new.labels v 0 ≡ 0 → grown.units ≡ new.units → grown.items ≡ new.items ++ v ∷ [] → IsMarked grown
          → IsRowMarked g inside (row ++ v ∷ []) label old grown roots
      row_marked unit found pos i uv vu none eu ei marked =
          let more = spread_marked g inside [] label old new roots roots v s.spread unit found pos i uv vu grown none lt eu ei el marked in
          record {
            spread = spread_of g inside (v ∷ []) [] label old grown roots roots more (λ w j h. absurd (false≢true h));
            found = λ w j h. elim (cases_eq w v) [
              | inl e ↦ subst (λ t. 0 < t) (sym (at_v w e)) pos
              | inr off ↦ subst (λ t. 0 < t) (sym (off_v w off)) (s.found w j (in_row w off h))
            ];
          }

      pub one_marked : IsOnePart g inside row label new.labels roots → IsOnePart g inside (row ++ v ∷ []) label grown.labels roots
      one_marked one w j h = elim (cases_eq w v) [
        | inl e ↦ ap (λ t. get_or roots t 0) (at_v w e)
        | inr off ↦ ap (λ t. get_or roots t 0) (off_v w off) ∙ one w j (in_row w off h)
      ]

-- the test of a neighbor fails only if the neighbor has no label or is in the part
pub not_met : (met : Bool) (there root mine : ℕ) → (met || (not (there == 0) && not (root == mine))) ≡ false → (met ≡ false) × (0 < there → root ≡ mine)
not_met met there root mine h =
    let parts = or_parts met (not (there == 0) && not (root == mine)) h in (
      parts.0,
      λ pos. elim (and_cases (not (there == 0)) (not (root == mine)) parts.1) [
        | inl e ↦ absurd (let none : there ≡ 0 = eqb-true there 0 (not-false (there == 0) e) in omega (arith, pos, none))
        | inr e ↦ eqb-true root mine (not-false (root == mine) e)
      ],
    )
