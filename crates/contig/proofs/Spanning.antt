-- Lists that are stored in one list.
use Rattle.std.proofs.Common.{◌≡◌, ℕ, zero, suc, ◌+◌, ◌-◌, ◌<◌, ◌≤◌, List, [], ◌∷◌, ◌++◌, length, take, drop, map, get_or, set, replicate, refl, sym, ap, ◌∙◌, subst, inl, inr, length-append, length-set, get_or-set_same, get_or-set_other, arith}
use Rattle.std.specs.Prelude.{◌⊎◌, All, slice_range}
use Rattle.std.proofs.lemmas.Bool.{cases_eq, cases_lt}
use Rattle.std.proofs.lemmas.List.{append_assoc, drop-append-le, drop-set-add, drop-set-lt, ext_get_or, get_or-drop, get_or-map, get_or_past, length-drop, length-map, map_push, take_all, take-append-le, take-set-le, take_more, take_more_set}
use Rattle.audit_model.specs.Below.{sum_below}
use Rattle.audit_model.proofs.Below.{sum_below_longer}
use Rattle.contig.specs.declared.span.Span.{Span}
use Rattle.contig.specs.Spans.{HaveRoom, IsWithin, part, span_at}

-- a part stays the same where the list is longer
part_kept : {A : Type 0} (xs ys : List A) (span : Span) → IsWithin xs span → part (xs ++ ys) span ≡ part xs span
part_kept xs ys span is =
    let rises = is.rises in
    let within = is.within in
    ap (take (span.end - span.begin)) (drop-append-le span.begin xs ys (omega (arith, rises, within)))
    ∙ take-append-le (span.end - span.begin) (drop span.begin xs) ys (let long = length-drop span.begin xs in omega (arith, rises, within, long))

-- so do all parts
pub parts_kept : {A : Type 0} (xs ys : List A) (spans : List Span) → All (IsWithin xs) spans → map (part (xs ++ ys)) spans ≡ map (part xs) spans
parts_kept xs ys [] all = refl
parts_kept xs ys (span ∷ spans) all =
    ap (λ p. p ∷ map (part (xs ++ ys)) spans) (part_kept xs ys span (all 0 span (omega arith)))
    ∙ ap (λ rest. part xs span ∷ rest) (parts_kept xs ys spans (λ k d l. all (suc k) d (omega (arith, l))))

-- what is appended to a list is its last part
part_last : {A : Type 0} (xs ys : List A) (b e : ℕ) → b ≡ length xs → e ≡ length (xs ++ ys) → take (e - b) (drop b (xs ++ ys)) ≡ ys
part_last xs ys b e eb ee =
    ap (λ t. take (e - t) (drop t (xs ++ ys))) eb
    ∙ ap (take (e - length xs)) (drop-append-le (length xs) xs ys (omega arith) ∙ ap (λ t. t ++ ys) (none xs))
    ∙ take_all (e - length xs) ys (let long = length-append xs ys in omega (arith, ee, long))
  where
    none : {A : Type 0} (zs : List A) → drop (length zs) zs ≡ []
    none [] = refl
    none (z ∷ zs) = none zs

-- one more part is appended
pub parts_more : {A : Type 0} (xs ys zs : List A) (spans new : List Span) (span : Span) → zs ≡ xs ++ ys → new ≡ spans ++ span ∷ [] → span.begin ≡ length xs → span.end ≡ length zs
    → All (IsWithin xs) spans → map (part zs) new ≡ map (part xs) spans ++ ys ∷ []
parts_more xs ys zs spans new span ez en eb ee all =
    ap (λ t. map (part t) new) ez ∙ ap (map (part (xs ++ ys))) en ∙ map_push (part (xs ++ ys)) spans span
    ∙ ap (λ t. t ++ part (xs ++ ys) span ∷ []) (parts_kept xs ys spans all)
    ∙ ap (λ t. map (part xs) spans ++ t ∷ []) (part_last xs ys span.begin span.end eb (ee ∙ ap length ez))

-- ---- lists with room to grow

-- one more item of a part
pub range_next : {A : Type 0} (xs : List A) (b p : ℕ) (d : A) → b ≤ p → p < length xs → slice_range xs b (p + 1) ≡ slice_range xs b p ++ get_or xs p d ∷ []
range_next xs b p d from inside =
    let next : p + 1 - b ≡ p - b + 1 = omega (arith, from) in
    let place : b + (p - b) ≡ p = omega (arith, from) in
    let long = length-drop b xs in
    ap (λ n. take n (drop b xs)) next ∙ take_more (drop b xs) (p - b) d (omega (arith, long, from, inside))
    ∙ ap (λ y. take (p - b) (drop b xs) ++ y ∷ []) (get_or-drop b xs (p - b) d ∙ ap (λ n. get_or xs n d) place)

-- an item that is written right after a part extends it
set_last : {A : Type 0} (xs : List A) (b e : ℕ) (y : A) → b ≤ e → e < length xs → slice_range (set xs e y) b (e + 1) ≡ slice_range xs b e ++ y ∷ []
set_last xs b e y from inside =
    let next : e + 1 - b ≡ e - b + 1 = omega (arith, from) in
    let place : e ≡ b + (e - b) = omega (arith, from) in
    let long = length-drop b xs in
    ap (λ n. take n (drop b (set xs e y))) next
    ∙ ap (λ n. take (e - b + 1) (drop b (set xs n y))) place
    ∙ ap (take (e - b + 1)) (drop-set-add b xs (e - b) y)
    ∙ take_more_set (drop b xs) (e - b) y (omega (arith, long, from, inside))

-- an item that is written elsewhere leaves a part as it is
set_off : {A : Type 0} (xs : List A) (b e i : ℕ) (y : A) → (i < b) ⊎ (e ≤ i) → slice_range (set xs i y) b e ≡ slice_range xs b e
set_off xs b e i y off = elim (cases_lt i b) [
  | inl low ↦ ap (take (e - b)) (drop-set-lt b xs i y low)
  | inr over ↦
      let place : i ≡ b + (i - b) = omega (arith, over) in
      let upto : e ≤ i = elim off [ inl low ↦ absurd (omega (arith, low, over)) | inr high ↦ high ] in
      ap (λ n. take (e - b) (drop b (set xs n y))) place ∙ ap (take (e - b)) (drop-set-add b xs (i - b) y)
      ∙ take-set-le (e - b) (drop b xs) (i - b) y (omega (arith, upto))
]

abbrev no_span : Span
no_span = record { begin = 0; end = 0 }

module _ {A : Type 0} (spans : List Span) (limits : List ℕ) (xs : List A) (have : HaveRoom spans limits xs) (u : ℕ) (lu : u < length spans) where
  -- the list of a unit
  list_at : get_or (map (part xs) spans) u [] ≡ part xs (span_at spans u)
  list_at = get_or-map (part xs) spans u no_span [] lu

  pub within_at : IsWithin xs (span_at spans u)
  within_at =
      let upto = have.upto u lu in
      let within = have.within u lu in
      record { rises = have.rises u lu; within = omega (arith, upto, within) }

  -- the lists are the same but for one, if they are so place by place
  lists_but : (zs : List A) (span : Span) (new : List A) → part zs span ≡ new
      → ((v : ℕ) → v < length spans → (v ≡ u → ⊥) → part zs (span_at spans v) ≡ part xs (span_at spans v))
      → map (part zs) (set spans u span) ≡ set (map (part xs) spans) u new
  lists_but zs span new here off = ext_get_or [] (map (part zs) (set spans u span)) (set (map (part xs) spans) u new)
      (length-map (set spans u span) (part zs) ∙ length-set spans u span ∙ sym (length-set (map (part xs) spans) u new ∙ length-map spans (part xs)))
      (λ v l.
      let long = length-map (set spans u span) (part zs) in
      let same = length-set spans u span in
      let lv : v < length spans = omega (arith, l, long, same) in
      let lu' : u < length (map (part xs) spans) = let all = length-map spans (part xs) in omega (arith, lu, all) in
      get_or-map (part zs) (set spans u span) v no_span [] (omega (arith, lv, same))
      ∙ elim (cases_eq v u) [
        | inl e ↦
            ap (λ n. part zs (get_or (set spans u span) n no_span)) e ∙ ap (part zs) (get_or-set_same spans u span no_span lu) ∙ here
            ∙ sym (ap (λ n. get_or (set (map (part xs) spans) u new) n []) e ∙ get_or-set_same (map (part xs) spans) u new [] lu')
        | inr other ↦
            ap (part zs) (get_or-set_other spans u v span no_span other) ∙ off v lv other
            ∙ sym (get_or-set_other (map (part xs) spans) u v new [] other ∙ get_or-map (part xs) spans v no_span [] lv)
      ])

  -- a list with room grows in place
  pub grown : (y : A) → (span_at spans u).end < get_or limits u 0
      → map (part (set xs (span_at spans u).end y)) (set spans u (record { begin = (span_at spans u).begin; end = (span_at spans u).end + 1 }))
      ≡ set (map (part xs) spans) u (get_or (map (part xs) spans) u [] ++ y ∷ [])
  grown y room =
      let e = (span_at spans u).end in
      let within = have.within u lu in
      lists_but (set xs e y) (record { begin = (span_at spans u).begin; end = e + 1 }) (get_or (map (part xs) spans) u [] ++ y ∷ [])
      (set_last xs (span_at spans u).begin e y (have.rises u lu) (omega (arith, room, within)) ∙ ap (λ t. t ++ y ∷ []) (sym list_at))
      (λ v lv off.
      let rises = have.rises u lu in
      let upto = have.upto v lv in
      set_off xs (span_at spans v).begin (span_at spans v).end e y (elim (have.apart u v lu lv (λ same. off (sym same))) [
        | inl before ↦ inl (omega (arith, before, room))
        | inr after ↦ inr (omega (arith, after, rises, upto))
      ]))

  module _ (y : A) (ys zs rest : List A) (b e : ℕ) (copied : ys ≡ xs ++ (part xs (span_at spans u) ++ y ∷ [])) (longer : zs ≡ ys ++ rest) (begin : b ≡ length xs) (end : e ≡ length ys) where
    -- a list without room moves to the end
    pub moved : map (part zs) (set spans u (record { begin = b; end = e })) ≡ set (map (part xs) spans) u (get_or (map (part xs) spans) u [] ++ y ∷ [])
    moved =
        let own = part xs (span_at spans u) ++ y ∷ [] in
        let long : length ys ≡ length xs + length own = ap length copied ∙ length-append xs own in
        lists_but zs (record { begin = b; end = e }) (get_or (map (part xs) spans) u [] ++ y ∷ [])
        (ap (λ t. part t (record { begin = b; end = e })) longer
        ∙ part_kept ys rest (record { begin = b; end = e }) (record { rises = omega (arith, begin, end, long); within = omega (arith, end) })
        ∙ ap (λ t. take (e - b) (drop b t)) copied ∙ part_last xs own b e begin (end ∙ ap length copied) ∙ ap (λ t. t ++ y ∷ []) (sym list_at))
        (λ v lv off.
        let upto = have.upto v lv in
        let within = have.within v lv in
        ap (λ t. part t (span_at spans v)) (longer ∙ ap (λ t. t ++ rest) copied ∙ append_assoc xs own rest)
        ∙ part_kept xs (own ++ rest) (span_at spans v) (record { rises = have.rises v lv; within = omega (arith, upto, within) }))

    -- and has room there
    pub moved_room : (l : ℕ) → l ≡ length zs → HaveRoom (set spans u (record { begin = b; end = e })) (set limits u l) zs
    moved_room l limit =
        let span : Span = record { begin = b; end = e } in
        let own = part xs (span_at spans u) ++ y ∷ [] in
        let long : length ys ≡ length xs + length own = ap length copied ∙ length-append xs own in
        let all : length zs ≡ length ys + length rest = ap length longer ∙ length-append ys rest in
        let same = length-set spans u span in
        let wide = have.width in
        let here : span_at (set spans u span) u ≡ span = get_or-set_same spans u span no_span lu in
        let top : get_or (set limits u l) u 0 ≡ l = get_or-set_same limits u l 0 (omega (arith, lu, wide)) in
        let off_span : (v : ℕ) → (v ≡ u → ⊥) → span_at (set spans u span) v ≡ span_at spans v = λ v off. get_or-set_other spans u v span no_span off in
        let off_top : (v : ℕ) → (v ≡ u → ⊥) → get_or (set limits u l) v 0 ≡ get_or limits v 0 = λ v off. get_or-set_other limits u v l 0 off in
        record {
          width = length-set limits u l ∙ have.width ∙ sym same;
          rises = λ v lv. elim (cases_eq v u) [
            | inl e' ↦ subst (λ n. (span_at (set spans u span) n).begin ≤ (span_at (set spans u span) n).end) (sym e')
                (subst (λ (s : Span). s.begin ≤ s.end) (sym here) (omega (arith, begin, end, long)))
            | inr off ↦ subst (λ (s : Span). s.begin ≤ s.end) (sym (off_span v off)) (have.rises v (omega (arith, lv, same)))
          ];
          upto = λ v lv. elim (cases_eq v u) [
            | inl e' ↦ subst (λ n. (span_at (set spans u span) n).end ≤ get_or (set limits u l) n 0) (sym e')
                (subst (λ (s : Span). s.end ≤ get_or (set limits u l) u 0) (sym here) (omega (arith, end, top, limit, all)))
            | inr off ↦
                let old = have.upto v (omega (arith, lv, same)) in
                let at = off_top v off in
                subst (λ (s : Span). s.end ≤ get_or (set limits u l) v 0) (sym (off_span v off)) (omega (arith, old, at))
          ];
          within = λ v lv. elim (cases_eq v u) [
            | inl e' ↦ let at : get_or (set limits u l) v 0 ≡ get_or (set limits u l) u 0 = ap (λ n. get_or (set limits u l) n 0) e' in omega (arith, at, top, limit)
            | inr off ↦
                let old = have.within v (omega (arith, lv, same)) in
                let at = off_top v off in
                omega (arith, old, at, all, long)
          ];
          apart = λ v w lv lw differ. elim (cases_eq v u) [
            | inl e' ↦
                let off : w ≡ u → ⊥ = λ e''. differ (e' ∙ sym e'') in
                let old = have.within w (omega (arith, lw, same)) in
                let at = off_top w off in
                let from : (span_at (set spans u span) v).begin ≡ b = ap (λ n. (span_at (set spans u span) n).begin) e' ∙ ap (λ (s : Span). s.begin) here in
                inr (omega (arith, old, at, from, begin))
            | inr off ↦ elim (cases_eq w u) [
              | inl e' ↦
                  let old = have.within v (omega (arith, lv, same)) in
                  let at = off_top v off in
                  let from : (span_at (set spans u span) w).begin ≡ b = ap (λ n. (span_at (set spans u span) n).begin) e' ∙ ap (λ (s : Span). s.begin) here in
                  inl (omega (arith, old, at, from, begin))
              | inr off' ↦
                  let at = off_top v off in
                  let at' = off_top w off' in
                  let from : (span_at (set spans u span) v).begin ≡ (span_at spans v).begin = ap (λ (s : Span). s.begin) (off_span v off) in
                  let from' : (span_at (set spans u span) w).begin ≡ (span_at spans w).begin = ap (λ (s : Span). s.begin) (off_span w off') in
                  elim (have.apart v w (omega (arith, lv, same)) (omega (arith, lw, same)) differ) [
                    | inl h ↦ inl (omega (arith, h, at, from'))
                    | inr h ↦ inr (omega (arith, h, at', from))
                  ]
            ]
          ];
        }

-- at first, each list is empty, with room for as many items as a function says
module _ {A : Type 0} (n : ℕ) (f : ℕ → ℕ) (spans : List Span) (limits : List ℕ) (xs : List A) (width : length spans ≡ n)
    (each : (u : ℕ) → u < n → ((span_at spans u).begin ≡ sum_below u f) × ((span_at spans u).end ≡ sum_below u f))
    (wide : length limits ≡ n) (limit : (u : ℕ) → u < n → get_or limits u 0 ≡ sum_below (u + 1) f) (long : length xs ≡ sum_below n f) where
  pub rooms : HaveRoom spans limits xs
  rooms = record {
    width = wide ∙ sym width;
    rises = λ u l. let at = each u (omega (arith, l, width)) in let b = at.0 in let e = at.1 in omega (arith, b, e);
    upto = λ u l.
        let e = (each u (omega (arith, l, width))).1 in
        let top = limit u (omega (arith, l, width)) in
        let up = sum_below_longer u (u + 1) f (omega arith) in
        omega (arith, e, top, up);
    within = λ u l.
        let top = limit u (omega (arith, l, width)) in
        let up = sum_below_longer (u + 1) n f (omega (arith, l, width)) in
        omega (arith, top, up, long);
    apart = λ u v lu lv differ.
        let bu = (each u (omega (arith, lu, width))).0 in
        let bv = (each v (omega (arith, lv, width))).0 in
        let tu = limit u (omega (arith, lu, width)) in
        let tv = limit v (omega (arith, lv, width)) in
        elim (cases_lt u v) [
          | inl less ↦ let up = sum_below_longer (u + 1) v f (omega (arith, less)) in inl (omega (arith, tu, bv, up))
          | inr over ↦
              let more : v < u = elim (cases_lt v u) [ inl h ↦ h | inr h ↦ absurd (differ (omega (arith, over, h))) ] in
              let up = sum_below_longer (v + 1) u f (omega (arith, more)) in
              inr (omega (arith, tv, bu, up))
        ];
  }

  pub none_listed : (u : ℕ) → get_or (map (part xs) spans) u [] ≡ []
  none_listed u = elim (cases_lt u n) [
    | inl l ↦
        let at = each u l in
        let b = at.0 in
        let e = at.1 in
        let empty : (span_at spans u).end - (span_at spans u).begin ≡ 0 = omega (arith, b, e) in
        get_or-map (part xs) spans u no_span [] (omega (arith, l, width)) ∙ ap (λ k. take k (drop (span_at spans u).begin xs)) empty
    | inr past ↦ let all = length-map spans (part xs) in get_or_past (map (part xs) spans) u [] (omega (arith, past, all, width))
  ]

-- ---- lists without room

no_span_at : (n u : ℕ) → span_at (replicate {A = Span} n no_span) u ≡ no_span
no_span_at zero u = refl
no_span_at (suc n) zero = refl
no_span_at (suc n) (suc u) = no_span_at n u

-- lists that are empty and have no room
module _ {A : Type 0} (n : ℕ) (spans : List Span) (limits : List ℕ) (xs : List A) (empty : spans ≡ replicate n no_span) (full : limits ≡ replicate n 0) where
  empty_at : (u : ℕ) → span_at spans u ≡ no_span
  empty_at u = ap (λ (s : List Span). span_at s u) empty ∙ no_span_at n u

  pub no_items : (u : ℕ) → get_or (map (part xs) spans) u [] ≡ []
  no_items u = elim (cases_lt u (length spans)) [
    | inl l ↦ get_or-map (part xs) spans u no_span [] l ∙ ap (part xs) (empty_at u)
    | inr past ↦ let all = length-map spans (part xs) in get_or_past (map (part xs) spans) u [] (omega (arith, past, all))
  ]
