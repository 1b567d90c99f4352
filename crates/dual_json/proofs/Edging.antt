-- Edges, entry by entry and node by node.
use Rattle.std.proofs.Common.{◌≡◌, ℕ, ◌+◌, true, List, [], length, Some, sym, ap, ◌∙◌, subst, inl, inr, arith}
use Rattle.std.proofs.lemmas.Bool.{cases_eq, false≢true}
use Rattle.serde_json.specs.Data.{Data}
use Rattle.audit_model.specs.declared.setting.Label.{Label}
use Rattle.dual_json.specs.Edges.{entries_at, edge, has_edge, LeadsTo, PushesEdge, AddsEdges, AreListed}
use Rattle.dual_json.specs.Places.{object_at, place_of_entry}

-- before the first entry, there are no edges of the node
pub adds_none : (ids : List Label) (entries : List Data) (node : ℕ) (pairs : List (ℕ × ℕ)) → AddsEdges ids entries 0 node pairs pairs
adds_none ids entries node pairs = record {
  kept = λ x h. h;
  from = λ x h. inl h;
  to = λ v leads off. let under = leads.1 in absurd (omega (arith, under));
}

-- a node named by the first entries is named with one more
leads_more : (ids : List Label) (entries : List Data) (count v : ℕ) → LeadsTo ids entries count v → LeadsTo ids entries (count + 1) v
leads_more ids entries count v leads = let under = leads.1 in (leads.0, omega (arith, under), leads.2)

-- adding one more entry
pub adds_more : (ids : List Label) (entries : List Data) (count node other : ℕ) (old pairs new : List (ℕ × ℕ)) (d : Data) → AddsEdges ids entries count node old pairs
    → object_at entries count ≡ d → Some other ≡ place_of_entry ids d → PushesEdge node other pairs new → AddsEdges ids entries (count + 1) node old new
adds_more ids entries count node other old pairs new d before at leads push = record {
  kept = λ x h. push.kept x (before.kept x h);
  from = λ x h. elim (push.from x h) [
    | inl was ↦ elim (before.from x was) [
      | inl first ↦ inl first
      | inr one ↦ inr (one.0, leads_more ids entries count one.0 one.1, one.2, one.3)
    ]
    | inr is ↦ inr (other, (count, omega arith, ap (place_of_entry ids) at ∙ sym leads), is.0, is.1)
  ];
  to = λ v there off. elim (cases_eq there.0 count) [
    | inl e ↦
        let same : Some v ≡ Some other = sym there.2 ∙ ap (λ k. place_of_entry ids (object_at entries k)) e ∙ ap (place_of_entry ids) at ∙ sym leads in
        let is : other ≡ v = cc same in
        subst (λ w. has_edge new (edge node w) ≡ true) is (push.to (λ bad. off (sym is ∙ bad)))
    | inr apart ↦ let under = there.1 in push.kept (edge node v) (before.to v (there.0, omega (arith, under, apart), there.2) off)
  ];
}

-- before the first node, there are no edges
pub listed_none : (ids : List Label) (lists : List (List Data)) (pairs : List (ℕ × ℕ)) → pairs ≡ [] → AreListed ids lists 0 pairs
listed_none ids lists pairs none = record {
  from = λ x h. absurd (false≢true (subst (λ (t : List (ℕ × ℕ)). has_edge t x ≡ true) none h));
  to = λ u v l. absurd (omega (arith, l));
}

-- adding one more node
pub listed_more : (ids : List Label) (lists : List (List Data)) (count : ℕ) (pairs new : List (ℕ × ℕ)) (entries : List Data) (m : ℕ) → AreListed ids lists count pairs
    → entries ≡ entries_at lists count → m ≡ length entries → AddsEdges ids entries m count pairs new → AreListed ids lists (count + 1) new
listed_more ids lists count pairs new entries m before at long adds = record {
  from = λ x h. elim (adds.from x h) [
    | inl was ↦ let is = before.from x was in let under = is.2 in (is.0, is.1, omega (arith, under), is.3, is.4, is.5)
    | inr one ↦ (count, one.0, omega arith, here one.0 one.1, one.2, one.3)
  ];
  to = λ u v l leads off. elim (cases_eq u count) [
    | inl e ↦
        let there : LeadsTo ids entries m v = back v (subst (λ k. LeadsTo ids (entries_at lists k) (length (entries_at lists k)) v) e leads) in
        subst (λ k. has_edge new (edge k v) ≡ true) (sym e) (adds.to v there (λ bad. off (bad ∙ sym e)))
    | inr apart ↦ adds.kept (edge u v) (before.to u v (omega (arith, l, apart)) leads off)
  ];
}
  where
    here : (v : ℕ) → LeadsTo ids entries m v → LeadsTo ids (entries_at lists count) (length (entries_at lists count)) v
    here v leads =
        let under = leads.1 in
        subst (λ (es : List Data). LeadsTo ids es (length es) v) at (leads.0, omega (arith, under, long), leads.2)

    back : (v : ℕ) → LeadsTo ids (entries_at lists count) (length (entries_at lists count)) v → LeadsTo ids entries m v
    back v leads =
        let there : LeadsTo ids entries (length entries) v = subst (λ (es : List Data). LeadsTo ids es (length es) v) (sym at) leads in
        let under = there.1 in
        (there.0, omega (arith, under, long), there.2)
