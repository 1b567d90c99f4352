-- Two lists whose elements correspond in order.
use Rattle.std.specs.Prelude.{List, [], ◌∷◌, ⊤}

abbrev pub ArePaired : {A B : Type 0} → (A → B → Type 0) → List A → List B → Type 0
ArePaired P [] [] = ⊤
ArePaired P [] (y ∷ ys) = ⊥
ArePaired P (x ∷ xs) [] = ⊥
ArePaired P (x ∷ xs) (y ∷ ys) = P x y × ArePaired P xs ys
