-- The result of a search.
use Rattle.std.proofs.Common.{◌≡◌, ℕ, ◌<◌, ◌≤◌, List, get_or, refl, sym, subst, inl, inr, arith}
use Rattle.audit_model.specs.Graph.{Graph, IsIn, IsGraph}
use Rattle.audit_model.specs.Path.{HasPath, IsConnected}
use Rattle.audit_model.specs.District.{in_district}
use Rattle.std.specs.Prelude.{slice_index}
use Rattle.audit_model.specs.Local.{is_mate, stays_behind, MayLeave}
use Rattle.audit_model.proofs.Paths.{path_one, path_end}
use Rattle.dual_graph.specs.Marked.{Marked}
use Rattle.contig.specs.Parts.{AllOne, IsSpread, IsSeeded}
use Rattle.contig.proofs.Between.{IsGrowing}
use Rattle.contig.proofs.Growing.{joined_all, mate_stays}
use Rattle.contig.proofs.Leaving.{leaves}

module _ (g : Graph) (plan : List ℕ) (u : ℕ) (graph : IsGraph g) (lt : u < g.units) (connected : IsConnected g (in_district plan (slice_index plan u))) where
  -- a unit with one mate may leave
  pub one_leaves : (last : ℕ) (m : Marked) → IsSeeded g plan u last m → last ≡ 1 → MayLeave g plan u
  one_leaves last m s one =
      let seed = s.seeds 1 (omega arith) (omega (arith, one)) in
      let is_seed : (v : ℕ) → IsIn g (is_mate g plan u) v → v ≡ seed.0 =
      λ v i. s.single v seed.0 (s.complete v i) (let l = s.small v in let p = s.complete v i in omega (arith, l, p, one, seed.1)) in
      let i = mate_stays g plan u seed.0 graph (s.mates seed.0 (omega (arith, seed.1))) in
      leaves g plan u graph lt connected seed.0 i
      (λ a b ia ib. subst (λ t. HasPath g (stays_behind plan u) t b) (sym (is_seed a ia))
      (subst (λ t. HasPath g (stays_behind plan u) seed.0 t) (sym (is_seed b ib)) (path_one g (stays_behind plan u) seed.0 i)))

  -- if all labels have one root, the unit may leave
  pub all_leave : (last label : ℕ) (m after : Marked) (row roots now ends : List ℕ) (at : ℕ) → IsGrowing g (stays_behind plan u) last m roots ends at → label ≤ last → 0 < last
      → ((v : ℕ) → IsIn g (is_mate g plan u) v → 0 < get_or m.labels v 0)
      → IsSpread g (stays_behind plan u) row label m after roots now → AllOne now last → MayLeave g plan u
  all_leave last label m after row roots now ends at s le some complete spread one =
      let seed = s.seeds 1 (omega arith) (omega (arith, some)) in
      let ps : 0 < get_or m.labels seed.0 0 = omega (arith, seed.1) in
      let small : (v : ℕ) → get_or after.labels v 0 ≤ last = λ v. elim (spread.fresh v) [ inl e ↦ omega (arith, e, s.small v) | inr e ↦ omega (arith, e, le) ] in
      let still : (v : ℕ) → IsIn g (is_mate g plan u) v → 0 < get_or after.labels v 0 =
      λ v i. subst (λ t. 0 < t) (sym (spread.kept v (complete v i))) (complete v i) in
      leaves g plan u graph lt connected seed.0 (path_end g (stays_behind plan u) seed.0 seed.0 (s.joined.path seed.0 seed.0 ps ps refl))
      (λ a b ia ib. joined_all g (stays_behind plan u) after.labels now last spread.joined one small a b (still a ia) (still b ib))
