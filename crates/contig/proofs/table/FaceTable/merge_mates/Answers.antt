use Rattle.std.proofs.Common.{◌≡◌, ℕ, ◌<◌, List, [], map, sym, subst}
use Rattle.std.specs.Prelude.{All}
use Rattle.std.specs.List.{slice_index_or}
use Rattle.audit_model.specs.Graph.{Graph}
use Rattle.contig.specs.Corners.{IsOnRow, units_of}
use Rattle.contig.specs.declared.corner.Corner.{Corner}
use Rattle.contig.proofs.table.FaceTable.merge_mates.Goals as goal

-- the facts of a table's graph are those of the unit's
on_row : (g h : Graph) (u : ℕ) (corners : List Corner) → g ≡ h → All (IsOnRow g (slice_index_or g.neighbours u [])) corners → All (IsOnRow h (slice_index_or h.neighbours u [])) corners
on_row g h u corners is on = subst (λ (t : Graph). All (IsOnRow t (slice_index_or t.neighbours u [])) corners) is on

seen_as : (g h : Graph) (u : ℕ) (corners : List Corner) (cs : List (ℕ × ℕ × ℕ × ℕ)) → g ≡ h
    → map (units_of (slice_index_or g.neighbours u [])) corners ≡ cs → map (units_of (slice_index_or h.neighbours u [])) corners ≡ cs
seen_as g h u corners cs is seen = subst (λ (t : Graph). map (units_of (slice_index_or t.neighbours u [])) corners ≡ cs) is seen

pub spares_at-spares-requires : goal.spares_at-spares-requires
spares_at-spares-requires c = subst (λ (t : Graph). c.args.leaving.unit < t.units) (sym c.requires.made) c.args.leaving.within

pub at-requires : goal.at-requires
at-requires c = subst (λ (t : Graph). c.args.leaving.unit < t.units) (sym c.requires.made) c.args.leaving.within
