-- Pieces of equal length, one after another in a list.
use Rattle.std.proofs.Common.{◌≡◌, ℕ, zero, suc, ◌+◌, ◌-◌, ◌*◌, ◌<◌, ◌≤◌, List, [], ◌∷◌, ◌++◌, length, get_or, take, drop, ap, ◌∙◌, arith, append_assoc, append-nil, length-append}
use Rattle.std.specs.Prelude.{slice_range}
use Rattle.std.specs.List.{flat_map, AllByRecursion}
use Rattle.std.proofs.lemmas.List.Concat.{flat_map-append}
use Rattle.audit_model.specs.Below.{map_below}
use Rattle.ckpt_format.proofs.Cutting.{join-parts}

-- cutting a slice into pieces and joining them gives the slice
pub pieces_joined : {X : Type 0} (f : X → List ℕ) (x : ℕ → X) (n a count : ℕ) (bytes : List ℕ)
    → ((k : ℕ) → k < count → f (x k) ≡ slice_range bytes (a + n * k) (a + n * suc k)) → a + n * count ≤ length bytes
    → flat_map f (map_below count x) ≡ slice_range bytes a (a + n * count)
pieces_joined f x n a zero bytes each l = let none : 0 ≡ a + n * zero - a = omega arith in ap (λ m. take m (drop a bytes)) none
pieces_joined f x n a (suc c) bytes each l =
    let before = pieces_joined f x n a c bytes (λ k m. each k (omega arith)) (omega arith) in
    let last = each c (omega arith) in
    flat_map-append f (map_below c x) (x c ∷ [])
    ∙ ap (λ (ys : List ℕ). flat_map f (map_below c x) ++ ys) (append-nil (f (x c)) ∙ last)
    ∙ ap (λ (ys : List ℕ). ys ++ slice_range bytes (a + n * c) (a + n * suc c)) before
    ∙ join-parts bytes a (a + n * c) (a + n * suc c) (omega arith) (omega arith) l

-- a piece at an offset, between the bytes before it and after it
pub record IsApart (bytes : List ℕ) (at : ℕ) (piece : List ℕ) : Type 0 where
  pub front : List ℕ
  pub back : List ℕ
  pub spelled : bytes ≡ front ++ (piece ++ back)
  pub size : length front ≡ at

-- one of several pieces of equal length, between the bytes before it and after it
pub piece_apart : {X : Type 0} (f : X → List ℕ) (n : ℕ) (p q : List ℕ) (xs : List X) (a k : ℕ) (d : X)
    → AllByRecursion (λ x. length (f x) ≡ n) xs → length p ≡ a → k < length xs
    → IsApart (p ++ (flat_map f xs ++ q)) (a + n * k) (f (get_or xs k d))
piece_apart f n p q [] a k d each e l = absurd (omega arith)
piece_apart f n p q (x ∷ rest) a zero d each e l = record {
  front = p;
  back = flat_map f rest ++ q;
  spelled = ap (λ (ys : List ℕ). p ++ ys) (append_assoc (f x) (flat_map f rest) q);
  size = e ∙ omega arith;
}
piece_apart f n p q (x ∷ rest) a (suc k) d each e l =
    let one : length (f x) ≡ n = each.0 in
    let longer : length (p ++ f x) ≡ a + n = omega (arith, length-append p (f x), one, e) in
    let later = piece_apart f n (p ++ f x) q rest (a + n) k d each.1 longer (omega arith) in
    record {
      front = later.front;
      back = later.back;
      spelled = shifted p (f x) (flat_map f rest) q ∙ later.spelled;
      size = later.size ∙ omega arith;
    }
  where
    shifted : (p x y q : List ℕ) → p ++ ((x ++ y) ++ q) ≡ (p ++ x) ++ (y ++ q)
    shifted p x y q = simp append_assoc
