-- The faces of a graph, as a walk uses them.
use Rattle.std.specs.Prelude.{◌≤◌, ℕ, List, length}
use Rattle.audit_model.specs.Graph.{Graph}
use Rattle.contig.specs.Faces.{SparedFace, AreFaces, AreCycles, AreClear, own_rings}
use Rattle.contig.specs.declared.corner.Corner.{Corner}
use Rattle.contig.specs.declared.sector.Sector.{Sector}
use Rattle.contig.specs.Corners.{HasCorners, ShowsCorners, corners_at, spares_at}
use Rattle.contig.specs.Order.{HasSectors}

-- a graph, a list of its faces, and a list of its long faces: rings of more than five units
pub record Faced : Type 0 where
  pub graph : Graph
  pub faces : List SparedFace
  pub long : List (List ℕ)

-- the faces are those of the graph, and there are not too many. The long faces are cycles of the graph, and no face has its own
-- side on one of them. The rows have the corners of the faces, the sectors their order, and the spares the corners of their spares
pub record IsFaceTable (faced : Faced) (rows : List (List Corner)) (sectors : List (List Sector)) (spares : List (List Corner)) : Type 0 where
  pub faces : AreFaces faced.graph faced.faces
  pub few : length faced.faces ≤ 4000000
  pub cycles : AreCycles faced.graph faced.long
  pub clear : AreClear faced.faces faced.long
  pub corners : HasCorners faced.graph (λ u. corners_at u (own_rings faced.faces)) rows
  pub order : HasSectors faced.graph rows sectors
  pub spared : ShowsCorners faced.graph (λ u. spares_at u faced.faces) spares
