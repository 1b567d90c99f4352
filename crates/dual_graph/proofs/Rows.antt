-- A unit's neighbors are a slice of the flat list.
use Rattle.std.proofs.Common.{◌≡◌, ℕ, ◌+◌, ◌-◌, ◌<◌, List, [], length, get_or, take, drop, sym, ap, ◌∙◌, subst, arith}
use Rattle.std.proofs.lemmas.List.{length-take, length-drop, get_or-take, get_or-drop, get_or_default}
use Rattle.dual_graph.specs.Flat.{row}
use Rattle.audit_model.specs.Below.{map_below}
use Rattle.audit_model.proofs.Below.{get_or-map_below}

-- the slice between two consecutive positions is the unit's row
pub row_is : (n : ℕ) (begins near : List ℕ) (u a b : ℕ) (xs : List ℕ) → u < n → a ≡ get_or begins u 0 → b ≡ get_or begins (u + 1) 0 → xs ≡ near
    → take (b - a) (drop a xs) ≡ get_or (map_below n (row begins near)) u []
row_is n begins near u a b xs l ea eb ex =
    ap (λ t. take (b - t) (drop t xs)) ea ∙ ap (λ t. take (t - get_or begins u 0) (drop (get_or begins u 0) xs)) eb
    ∙ ap (λ t. take (get_or begins (u + 1) 0 - get_or begins u 0) (drop (get_or begins u 0) t)) ex
    ∙ sym (get_or-map_below n (row begins near) u [] l)

-- a bound on all items holds in each slice
pub part_below : (n a b : ℕ) (xs : List ℕ) → ((k : ℕ) → k < length xs → get_or xs k 0 < n)
    → (k d : ℕ) → k < length (take b (drop a xs)) → get_or (take b (drop a xs)) k d < n
part_below n a b xs below k d l =
    let in_drop : k < length (drop a xs) = omega (arith, l, length-take b (drop a xs)) in
    let in_all : a + k < length xs = omega (arith, in_drop, length-drop a xs) in
    let in_take : k < b = omega (arith, l, length-take b (drop a xs)) in
    subst (λ t. t < n) (sym (get_or-take b (drop a xs) k d in_take ∙ get_or-drop a xs k d ∙ get_or_default xs (a + k) d 0 in_all)) (below (a + k) in_all)
