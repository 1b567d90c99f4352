-- Appending bytes piece by piece.
use Rattle.std.proofs.Common.{◌≡◌, ℕ, ◌+◌, ◌<◌, List, [], ◌++◌, length, get_or, take, ap, sym, subst, ◌∙◌, arith, append_assoc, length-append}
use Rattle.std.proofs.lemmas.List.{flat_map_more, take_more}
use Rattle.std.specs.List.{flat_map}
use Rattle.audit_model.specs.Room.{RoomyBytes}
use Rattle.ckpt_format.specs.Written.{AppendsBytes}

-- one part is appended after the other
pub appends_then : (a b c : RoomyBytes) (xs ys : List ℕ) → AppendsBytes a b xs → AppendsBytes b c ys → AppendsBytes a c (xs ++ ys)
appends_then a b c xs ys first second = record {
  items = second.items ∙ ap (λ (zs : List ℕ). zs ++ ys) first.items ∙ append_assoc a.items xs ys;
  spare = omega (arith, first.spare, second.spare, length-append xs ys);
}

-- one more piece is appended for each item of a list
pub appends_more : {X : Type 0} (f : X → List ℕ) (xs : List X) (i : ℕ) (d : X) (a b c : RoomyBytes) → i < length xs
    → AppendsBytes a b (flat_map f (take i xs)) → AppendsBytes b c (f (get_or xs i d)) → AppendsBytes a c (flat_map f (take (i + 1) xs))
appends_more f xs i d a b c l first second =
    let next : flat_map f (take i xs) ++ f (get_or xs i d) ≡ flat_map f (take (i + 1) xs) =
    flat_map_more f [] (take i xs) (get_or xs i d) ∙ ap (flat_map f) (sym (take_more xs i d l)) in
    subst (AppendsBytes a c) next (appends_then a b c (flat_map f (take i xs)) (f (get_or xs i d)) first second)

-- the bytes of a small buffer are appended at once
pub appends_piece : (a b p q : RoomyBytes) (xs ys : List ℕ) → p ≡ record { items = []; spare = 80 } → AppendsBytes p q ys → xs ≡ q.items
    → AppendsBytes a b xs → AppendsBytes a b ys
appends_piece a b p q xs ys new put seen done =
    let all : xs ≡ ys = seen ∙ put.items ∙ ap (λ (r : RoomyBytes). r.items ++ ys) new in
    subst (AppendsBytes a b) all done

-- the number of bytes of a small buffer
pub piece_length : (p q : RoomyBytes) (xs ys : List ℕ) → p ≡ record { items = []; spare = 80 } → AppendsBytes p q ys → xs ≡ q.items → length xs ≡ length ys
piece_length p q xs ys new put seen = ap length (seen ∙ put.items ∙ ap (λ (r : RoomyBytes). r.items ++ ys) new)
