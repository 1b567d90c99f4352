-- Faces: rings of three to five units, listed so that each has a side that no later one has. A face may have a spare ring.
-- Cycles: rings of any length, listed likewise.
use Rattle.std.specs.Prelude.{◌≡◌, ◌≢◌, ℕ, ◌+◌, ◌<◌, ◌≤◌, ◌==◌, ◌&&◌, ◌||◌, Bool, false, not, cond, IsTrue, IsFalse, List, [], ◌∷◌, length, slice_index}
use Rattle.std.specs.List.{list_any, list_all}
use Rattle.audit_model.specs.Apart.{AllApart}
use Rattle.audit_model.specs.Below.{count_below, filter_below, map_below}
use Rattle.audit_model.specs.Graph.{Graph, has, adjacent, count_edges}
use Rattle.audit_model.specs.Local.{is_mate}
use Rattle.audit_model.specs.Path.{IsConnected}
use Rattle.audit_model.specs.District.{in_district}

-- x and y are a and b, in either order
abbrev pub is_pair : ℕ → ℕ → ℕ → ℕ → Bool
is_pair a b x y = ((a == x) && (b == y)) || ((a == y) && (b == x))

-- x and y are next to each other on the rest of a ring, from the unit `last` on and back to the unit `first`, or were found to
-- be before
abbrev pub has_side_from : ℕ → ℕ → Bool → List ℕ → ℕ → ℕ → Bool
has_side_from first last found [] x y = found || is_pair last first x y
has_side_from first last found (next ∷ rest) x y = has_side_from first next (found || is_pair last next x y) rest x y

-- x and y are next to each other on a ring of three or more units
abbrev pub has_side : List ℕ → ℕ → ℕ → Bool
has_side (a ∷ b ∷ c ∷ rest) x y = has_side_from a c (is_pair a b x y || is_pair b c x y) rest x y
has_side _ x y = false

-- three to five distinct units of the graph, each adjacent to the next and the last to the first
pub record IsRing (g : Graph) (ring : List ℕ) : Type 0 where
  pub size : (3 ≤ length ring) × (length ring ≤ 5)
  pub apart : AllApart ring
  pub below : (v : ℕ) → IsTrue (has ring v) → v < g.units
  pub sides : (x y : ℕ) → IsTrue (has_side ring x y) → IsTrue (adjacent g x y)

-- three or more distinct units of the graph, each adjacent to the next and the last to the first
pub record IsCycle (g : Graph) (cycle : List ℕ) : Type 0 where
  pub size : 3 ≤ length cycle
  pub apart : AllApart cycle
  pub below : (v : ℕ) → IsTrue (has cycle v) → v < g.units
  pub sides : (x y : ℕ) → IsTrue (has_side cycle x y) → IsTrue (adjacent g x y)

-- the own side of a ring, between its first two units, belongs to none of these faces
abbrev pub OwnsSide : List ℕ → List (List ℕ) → Type 0
OwnsSide (a ∷ b ∷ rest) later = IsFalse (list_any (λ face. has_side face a b) later)
OwnsSide _ later = ⊥

-- each is a ring whose own side belongs to no later one
abbrev pub AreRings : Graph → List (List ℕ) → Type 0
AreRings g [] = Unit {0}
AreRings g (face ∷ later) = IsRing g face × OwnsSide face later × AreRings g later

-- each is a cycle whose own side belongs to no later one
abbrev pub AreCycles : Graph → List (List ℕ) → Type 0
AreCycles g [] = Unit {0}
AreCycles g (cycle ∷ later) = IsCycle g cycle × OwnsSide cycle later × AreCycles g later

-- ---- the counts of a set

-- the number of units of the set
abbrev pub count_units : Graph → (ℕ → Bool) → ℕ
count_units g inside = count_below g.units inside

-- the number of edges with both ends in the set
abbrev pub count_inner_edges : Graph → (ℕ → Bool) → ℕ
count_inner_edges g inside = count_edges g (λ v w. inside v && inside w)

-- the number of faces with all units in the set
abbrev pub count_inner_faces : (ℕ → Bool) → List (List ℕ) → ℕ
count_inner_faces inside [] = 0
count_inner_faces inside (face ∷ later) = count_inner_faces inside later + cond (list_all inside face) 1 0

-- ---- one unit more or fewer

-- the set without u
abbrev pub without_unit : (ℕ → Bool) → ℕ → ℕ → Bool
without_unit inside u v = inside v && not (v == u)

-- the number of neighbors of u in the set
abbrev pub count_mates : Graph → (ℕ → Bool) → ℕ → ℕ
count_mates g inside u = count_below g.units (λ v. adjacent g u v && inside v)

-- the number of faces that have the unit u, with all units in the set
abbrev pub count_inner_faces_at : ℕ → (ℕ → Bool) → List (List ℕ) → ℕ
count_inner_faces_at u inside [] = 0
count_inner_faces_at u inside (face ∷ later) = count_inner_faces_at u inside later + cond (has face u && list_all inside face) 1 0

-- ---- mates

-- x and y are the two neighbors of u on a face with all units in the set
abbrev pub share_face : List (List ℕ) → (ℕ → Bool) → ℕ → ℕ → ℕ → Bool
share_face faces inside u x y = list_any (λ face. list_all inside face && (has_side face u x && has_side face u y)) faces

-- neighbors of u that share a face are in one class
abbrev pub IsClassing : List (List ℕ) → (ℕ → Bool) → ℕ → (ℕ → ℕ) → Type 0
IsClassing faces inside u class = (x y : ℕ) → IsTrue (share_face faces inside u x y) → class x ≡ class y

-- the graph of links: v and w are joined if they are the two neighbors of u on a face with all units in the set
abbrev pub link_graph : Graph → List (List ℕ) → (ℕ → Bool) → ℕ → Graph
link_graph g faces inside u = record { units = g.units; neighbours = map_below g.units (λ v. filter_below g.units (λ w. share_face faces inside u v w)) }

-- the mates of u are connected by links through these rings
abbrev pub AreLinkedBy : Graph → List (List ℕ) → List ℕ → ℕ → Type 0
AreLinkedBy g faces plan u = IsConnected (link_graph g faces (in_district plan (slice_index plan u)) u) (is_mate g plan u)

-- ---- spares

-- a face: a ring, or a triangle a, b, c with the spare triangle a, b, d, which has the same own side
pub data SparedFace : Type 0 where
  WithoutSpare : List ℕ → SparedFace
  WithSpare : ℕ → ℕ → ℕ → ℕ → SparedFace

-- the ring of a face
abbrev pub own_ring : SparedFace → List ℕ
own_ring (WithoutSpare ring) = ring
own_ring (WithSpare a b c d) = a ∷ b ∷ c ∷ []

-- the spare ring of a face, or its ring if it has no spare
abbrev pub spare_ring : SparedFace → List ℕ
spare_ring (WithoutSpare ring) = ring
spare_ring (WithSpare a b c d) = a ∷ b ∷ d ∷ []

-- the rings of the faces
abbrev pub own_rings : List SparedFace → List (List ℕ)
own_rings [] = []
own_rings (face ∷ later) = own_ring face ∷ own_rings later

-- the rings and the spare rings of the faces
abbrev pub both_rings : List SparedFace → List (List ℕ)
both_rings [] = []
both_rings (face ∷ later) = own_ring face ∷ spare_ring face ∷ both_rings later

-- the spare ring has another third unit than the ring
abbrev pub HasOtherUnit : SparedFace → Type 0
HasOtherUnit (WithoutSpare ring) = Unit {0}
HasOtherUnit (WithSpare a b c d) = c ≢ d

-- each face is a ring, maybe with a spare ring, and its own side belongs to no later ring and to no later spare ring
abbrev pub AreFaces : Graph → List SparedFace → Type 0
AreFaces g [] = Unit {0}
AreFaces g (face ∷ later) = IsRing g (own_ring face) × IsRing g (spare_ring face) × HasOtherUnit face × OwnsSide (own_ring face) (both_rings later) × AreFaces g later

-- the own side of each face belongs to none of these cycles
abbrev pub AreClear : List SparedFace → List (List ℕ) → Type 0
AreClear [] cycles = Unit {0}
AreClear (face ∷ later) cycles = OwnsSide (own_ring face) cycles × AreClear later cycles

-- the spare is active: all units of the spare ring are in the set, and not all of the ring
abbrev pub is_active : (ℕ → Bool) → SparedFace → Bool
is_active inside face = list_all inside (spare_ring face) && not (list_all inside (own_ring face))

-- the rings that count for a set: each active spare ring in place of the face's ring
abbrev pub chosen : (ℕ → Bool) → List SparedFace → List (List ℕ)
chosen inside [] = []
chosen inside (face ∷ later) = cond (is_active inside face) (spare_ring face) (own_ring face) ∷ chosen inside later

-- the number of active spares
abbrev pub count_active : (ℕ → Bool) → List SparedFace → ℕ
count_active inside [] = 0
count_active inside (face ∷ later) = count_active inside later + cond (is_active inside face) 1 0

-- the mates of u are connected by links through the rings that count for its district
abbrev pub AreLinked : Graph → List SparedFace → List ℕ → ℕ → Type 0
AreLinked g faces plan u = AreLinkedBy g (chosen (in_district plan (slice_index plan u)) faces) plan u
