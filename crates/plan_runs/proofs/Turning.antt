-- Lists consumed one element after the other.
use Rattle.std.proofs.Common.{◌≡◌, ◌∙◌, ℕ, zero, suc, ◌<◌, ◌++◌, List, [], ◌∷◌, length, map, refl, sym, ap, subst, append_assoc, arith}
use Rattle.std.specs.List.{All, remove, slice_index_or}
use Rattle.std.proofs.lemmas.List.{map-append}
use Rattle.plan_runs.specs.Paired.{ArePaired}

-- a property of each member holds for the first and for each of the others
pub next_of : {A : Type 0} (P : A → Type 0) (all rest : List A) (x : A) → All P all → all ≡ x ∷ rest → P x × All P rest
next_of P all rest x each is =
    let e = subst (All P) is each in
    (e 0 x (omega arith), λ k d inside. e (suc k) d (omega (arith, inside)))

-- the first members of two corresponding lists correspond, and so do the rests
pub paired_next : {A B : Type 0} (P : A → B → Type 0) (all rest : List A) (x : A) (ys : List B) → ArePaired P all ys → all ≡ x ∷ rest
    → (y : B) × (more : List B) × (ys ≡ y ∷ more) × P x y × ArePaired P rest more
paired_next P all rest x ys are is = by ys (subst (λ zs. ArePaired P zs ys) is are)
  where
    by : (ys : List _) → ArePaired P (x ∷ rest) ys → (y : _) × (more : List _) × (ys ≡ y ∷ more) × P x y × ArePaired P rest more
    by [] h = absurd h
    by (y ∷ more) h = (y, more, refl, h.0, h.1)

-- one more element is done, and one fewer is left
pub moved_on : {A B C : Type 0} (f : A → C) (g : B → C) (all : List C) (done new : List B) (left rest : List A) (x : A) (y : B)
    → all ≡ map g done ++ map f left → left ≡ x ∷ rest → new ≡ done ++ y ∷ [] → g y ≡ f x → all ≡ map g new ++ map f rest
moved_on f g all done new left rest x y is next made same =
    is
    ∙ ap (λ xs. map g done ++ map f xs) next
    ∙ ap (λ c. map g done ++ c ∷ map f rest) (sym same)
    ∙ sym (append_assoc (map g done) (g y ∷ []) (map f rest))
    ∙ ap (λ xs. xs ++ map f rest) (sym (map-append g done (y ∷ [])) ∙ ap (map g) (sym made))

-- the first member of the second list corresponds to the first of the first list
pub seat_taken : {A B : Type 0} (P : A → B → Type 0) (all rest : List A) (x : A) (ys new : List B) (y : B) → ArePaired P all ys → all ≡ x ∷ rest
    → new ≡ remove ys 0 → y ≡ slice_index_or ys 0 y → P x y × ArePaired P rest new
seat_taken P all rest x ys new y are is made taken =
    let next = paired_next P all rest x ys are is in
    let first : y ≡ next.0 = taken ∙ ap (λ zs. slice_index_or zs 0 y) next.2 in
    let others : new ≡ next.1 = made ∙ ap (λ zs. remove zs 0) next.2 in
    (subst (P x) (sym first) next.3, subst (ArePaired P rest) (sym others) next.4)

-- if a member is left in the first list, one is left in the second
pub seat_there : {A B : Type 0} (P : A → B → Type 0) (all rest : List A) (x : A) (ys : List B) → ArePaired P all ys → all ≡ x ∷ rest → 0 < length ys
seat_there P all rest x ys are is = let next = paired_next P all rest x ys are is in omega (arith, ap length next.2)

-- a property of all members of two lists holds for those of each
pub all_both : {A : Type 0} (P : A → Type 0) (xs ys : List A) → All P (xs ++ ys) → All P xs × All P ys
all_both P [] ys h = ((λ k d inside. absurd (omega (arith, inside))), h)
all_both P (x ∷ xs) ys h = by (all_both P xs ys (λ k d inside. h (suc k) d (omega (arith, inside))))
  where
    front : All P xs → (k : ℕ) (d : _) → k < length (x ∷ xs) → P (slice_index_or (x ∷ xs) k d)
    front rest zero d inside = h 0 d (omega arith)
    front rest (suc k) d inside = rest k d (omega (arith, inside))

    by : All P xs × All P ys → All P (x ∷ xs) × All P ys
    by rest = (front rest.0, rest.1)

-- lists whose members have the same images
pub same_images : {A B : Type 0} (f : A → B) (xs ys : List A) → length xs ≡ length ys
    → ((k : ℕ) (d : A) → k < length ys → f (slice_index_or xs k d) ≡ f (slice_index_or ys k d)) → map f xs ≡ map f ys
same_images f [] [] long each = refl
same_images f [] (y ∷ ys) long each = absurd (omega (arith, long))
same_images f (x ∷ xs) [] long each = absurd (omega (arith, long))
same_images f (x ∷ xs) (y ∷ ys) long each =
    ap (λ z. z ∷ map f xs) (each 0 x (omega arith))
    ∙ ap (λ zs. f y ∷ zs) (same_images f xs ys (omega (arith, long)) (λ k d inside. each (suc k) d (omega (arith, inside))))
