-- Two lists whose elements correspond in order.
use Rattle.std.proofs.Common.{suc, ◌++◌, List, [], ◌∷◌, arith}
use Rattle.std.specs.List.{All}
use Rattle.plan_runs.specs.Paired.{ArePaired}

-- one more element in each list
pub paired_push : {A B : Type 0} → (P : A → B → Type 0) (xs : List A) (ys : List B) (x : A) (y : B) → ArePaired P xs ys → P x y → ArePaired P (xs ++ x ∷ []) (ys ++ y ∷ [])
paired_push P [] [] x y are is = (is, tt)
paired_push P [] (z ∷ ys) x y are is = absurd are
paired_push P (z ∷ xs) [] x y are is = absurd are
paired_push P (z ∷ xs) (w ∷ ys) x y are is = (are.0, paired_push P xs ys x y are.1 is)

-- one relation follows from another by a property of the first elements
pub paired_with : {A B : Type 0} → (R : A → Type 0) (P Q : A → B → Type 0) → ((x : A) (y : B) → R x → P x y → Q x y) → (xs : List A) (ys : List B) → All R xs → ArePaired P xs ys
    → ArePaired Q xs ys
paired_with R P Q f [] [] all are = tt
paired_with R P Q f [] (y ∷ ys) all are = absurd are
paired_with R P Q f (x ∷ xs) [] all are = absurd are
paired_with R P Q f (x ∷ xs) (y ∷ ys) all are =
    (f x y (all 0 x (omega arith)) are.0, paired_with R P Q f xs ys (λ k d inside. all (suc k) d (omega (arith, inside))) are.1)
