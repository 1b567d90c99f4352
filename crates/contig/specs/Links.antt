-- Classes of a unit's neighbors, merged by faces.
use Rattle.std.specs.Prelude.{◌≡◌, ℕ, ◌<◌, Bool, cond, IsTrue, List, [], length, slice_index}
use Rattle.std.specs.List.{slice_index_or}
use Rattle.audit_model.specs.Graph.{Graph, IsIn}
use Rattle.audit_model.specs.Local.{is_mate}
use Rattle.audit_model.specs.Path.{HasPath}
use Rattle.audit_model.specs.District.{in_district}
use Rattle.contig.specs.Faces.{link_graph, share_face}
use Rattle.contig.specs.declared.corner.Corner.{Corner}
use Rattle.contig.specs.Corners.{is_filled, is_spared, units_of}

-- all units of a corner at u are in u's district
abbrev pub is_inner : Graph → List ℕ → ℕ → Corner → Bool
is_inner g plan u corner = is_filled (in_district plan (slice_index plan u)) (units_of (slice_index_or g.neighbours u []) corner)

-- mates of u in one class are connected by links
pub record AreClasses (g : Graph) (faces : List (List ℕ)) (plan : List ℕ) (u : ℕ) (classes : List ℕ) : Type 0 where
  pub width : length classes ≡ 32
  pub linked : (i j : ℕ) → i < length (slice_index_or g.neighbours u []) → j < length (slice_index_or g.neighbours u [])
      → IsIn g (is_mate g plan u) (slice_index (slice_index_or g.neighbours u []) i) → IsIn g (is_mate g plan u) (slice_index (slice_index_or g.neighbours u []) j)
      → slice_index classes i ≡ slice_index classes j
      → HasPath (link_graph g faces (in_district plan (slice_index plan u)) u) (is_mate g plan u)
      (slice_index (slice_index_or g.neighbours u []) i) (slice_index (slice_index_or g.neighbours u []) j)

-- a corner of a spare at u is active in u's district
abbrev pub is_active_at : Graph → List ℕ → ℕ → Corner → Bool
is_active_at g plan u corner = is_spared (in_district plan (slice_index plan u)) (units_of (slice_index_or g.neighbours u []) corner)

-- a corner links its two neighbors, as one of a spare or as one of a ring
abbrev pub is_link : Graph → List ℕ → ℕ → Bool → Corner → Bool
is_link g plan u spare corner = cond spare (is_active_at g plan u corner) (is_inner g plan u corner)

-- these corners, of spares or of rings, link only neighbors that share one of these faces
abbrev pub AreLinks : Graph → List (List ℕ) → List ℕ → ℕ → Bool → List Corner → Type 0
AreLinks g faces plan u spare corners = (k : ℕ) (d : Corner) → k < length corners → IsTrue (is_link g plan u spare (slice_index_or corners k d))
    → IsTrue (share_face faces (in_district plan (slice_index plan u)) u
    (slice_index (slice_index_or g.neighbours u []) (slice_index_or corners k d).one) (slice_index (slice_index_or g.neighbours u []) (slice_index_or corners k d).other))

-- the two neighbors on each of these corners that links them have one class
abbrev pub AreMerged : Graph → List ℕ → ℕ → Bool → List Corner → List ℕ → Type 0
AreMerged g plan u spare corners classes = (k : ℕ) (d : Corner) → k < length corners → IsTrue (is_link g plan u spare (slice_index_or corners k d))
    → slice_index classes (slice_index_or corners k d).one ≡ slice_index classes (slice_index_or corners k d).other
