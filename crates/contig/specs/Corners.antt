-- Corners: a face as seen from one of its units, with the unit's two neighbors on it and the two units opposite.
use Rattle.std.specs.Prelude.{◌≡◌, ℕ, ◌<◌, ◌==◌, ◌&&◌, Bool, not, cond, List, [], ◌∷◌, ◌++◌, length, slice_index, map, All}
use Rattle.std.specs.List.{slice_index_or}
use Rattle.audit_model.specs.Graph.{Graph}
use Rattle.contig.specs.Faces.{SparedFace, WithoutSpare, WithSpare}
use Rattle.contig.specs.declared.corner.Corner.{Corner}

-- the corners at u, with one more if it is at u
abbrev pub with_corner : ℕ → List (ℕ × ℕ × ℕ × ℕ) → ℕ → ℕ × ℕ × ℕ × ℕ → List (ℕ × ℕ × ℕ × ℕ)
with_corner u corners v corner = corners ++ cond (v == u) (corner ∷ []) []

-- the corners at u with those of one more face; the units opposite are equal in a square, and one of the neighbors in a
-- triangle
abbrev pub with_face : ℕ → List (ℕ × ℕ × ℕ × ℕ) → List ℕ → List (ℕ × ℕ × ℕ × ℕ)
with_face u corners (a ∷ b ∷ c ∷ []) = with_corner u (with_corner u (with_corner u corners a (b, c, c, c)) b (c, a, a, a)) c (a, b, b, b)
with_face u corners (a ∷ b ∷ c ∷ d ∷ []) =
    with_corner u (with_corner u (with_corner u (with_corner u corners a (b, d, c, c)) b (c, a, d, d)) c (d, b, a, a)) d (a, c, b, b)
with_face u corners (a ∷ b ∷ c ∷ d ∷ e ∷ []) =
    with_corner u (with_corner u (with_corner u (with_corner u (with_corner u corners a (b, e, c, d)) b (c, a, d, e)) c (d, b, e, a)) d (e, c, a, b)) e (a, d, b, c)
with_face u corners _ = corners

-- the corners of the faces at u
abbrev pub corners_at : ℕ → List (List ℕ) → List (ℕ × ℕ × ℕ × ℕ)
corners_at u [] = []
corners_at u (face ∷ later) = with_face u (corners_at u later) face

-- all four units are in the set
abbrev pub is_filled : (ℕ → Bool) → ℕ × ℕ × ℕ × ℕ → Bool
is_filled inside corner = inside corner.0 && (inside corner.1 && (inside corner.2 && inside corner.3))

-- ---- spares

-- the corners at u with those of a face's spare, one at each of its units a, b, d and one at c; the unit further is c, which
-- the spare has not
abbrev pub add_spare : ℕ → List (ℕ × ℕ × ℕ × ℕ) → SparedFace → List (ℕ × ℕ × ℕ × ℕ)
add_spare u corners (WithoutSpare ring) = corners
add_spare u corners (WithSpare a b c d) =
    with_corner u (with_corner u (with_corner u (with_corner u corners a (b, d, d, c)) b (d, a, a, c)) d (a, b, b, c)) c (a, b, d, c)

-- the corners of the spares at u
abbrev pub spares_at : ℕ → List SparedFace → List (ℕ × ℕ × ℕ × ℕ)
spares_at u [] = []
spares_at u (face ∷ later) = add_spare u (spares_at u later) face

-- the first three units are in the set, and the last is not
abbrev pub is_spared : (ℕ → Bool) → ℕ × ℕ × ℕ × ℕ → Bool
is_spared inside corner = inside corner.0 && (inside corner.1 && (inside corner.2 && not (inside corner.3)))

-- a spare ends if u leaves the set
abbrev pub is_ending : (ℕ → Bool) → ℕ → ℕ × ℕ × ℕ × ℕ → Bool
is_ending inside u corner = inside corner.0 && (inside corner.1 && (inside corner.2 && (not (corner.3 == u) && not (inside corner.3))))

-- a spare begins if u leaves the set
abbrev pub is_starting : (ℕ → Bool) → ℕ → ℕ × ℕ × ℕ × ℕ → Bool
is_starting inside u corner = inside corner.0 && (inside corner.1 && (inside corner.2 && corner.3 == u))

-- ---- as the program stores them

-- the units of a corner, given the neighbors of its unit
abbrev pub units_of : List ℕ → Corner → ℕ × ℕ × ℕ × ℕ
units_of row corner = (slice_index row corner.one, slice_index row corner.other, corner.far, corner.further)

-- the positions are those of neighbors, and the units opposite are units of the graph
pub record IsOnRow (g : Graph) (row : List ℕ) (corner : Corner) : Type 0 where
  pub one : corner.one < length row
  pub other : corner.other < length row
  pub far : corner.far < g.units
  pub further : corner.further < g.units

-- the rows represent these corners at each unit
pub record HasCorners (g : Graph) (corners : ℕ → List (ℕ × ℕ × ℕ × ℕ)) (rows : List (List Corner)) : Type 0 where
  pub width : length rows ≡ g.units
  pub placed : (u : ℕ) → u < g.units → All (IsOnRow g (slice_index_or g.neighbours u [])) (slice_index_or rows u [])
  pub seen : (u : ℕ) → u < g.units → map (units_of (slice_index_or g.neighbours u [])) (slice_index_or rows u []) ≡ corners u

-- so do these rows, but rows without corners may be missing
pub record ShowsCorners (g : Graph) (corners : ℕ → List (ℕ × ℕ × ℕ × ℕ)) (rows : List (List Corner)) : Type 0 where
  pub placed : (u : ℕ) → u < g.units → All (IsOnRow g (slice_index_or g.neighbours u [])) (slice_index_or rows u [])
  pub seen : (u : ℕ) → u < g.units → map (units_of (slice_index_or g.neighbours u [])) (slice_index_or rows u []) ≡ corners u
