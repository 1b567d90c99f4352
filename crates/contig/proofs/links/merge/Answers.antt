use Rattle.std.proofs.Common.{◌≡◌, ℕ, ◌+◌, ◌<◌, true, length, take, get_or, List, arith, sym, ap, subst, ◌∙◌}
use Rattle.std.proofs.lemmas.Bool.{both_ways}
use Rattle.std.proofs.lemmas.List.{take_all}
use Rattle.std.proofs.lemmas.List.Elements.{All-get_or}
use Rattle.contig.specs.declared.corner.Corner.{Corner}
use Rattle.contig.specs.Corners.{IsOnRow}
use Rattle.contig.specs.Links.{AreMerged, is_link}
use Rattle.contig.proofs.Merging.{Kept, row, merged_step, joined_coarser, joined_one, classes_joined}
use Rattle.contig.proofs.links.merge.Goals as goal
use Rattle.contig.proofs.links.merge.Goals.{then-is_link+then-classes-corner, else-is_link, else-is_link-via-then-is_link+else-classes-corner, else-is_link-via-else-is_link}
use Rattle.audit_model.specs.Replaced.{Replaced}

pub loop-corner-preserved : goal.loop-corner-preserved
loop-corner-preserved c =
    let g = c.args.leaving.graph.now in
    let plan : List ℕ = c.args.leaving.plan.now in
    let u : ℕ = c.args.leaving.unit in
    let corners : List Corner = c.args.corners.now in
    let k : ℕ = c.loop-corner.corner-index in
    let d : Corner = record { one = 0; other = 0; far = 0; further = 0 } in
    let lt : k < length corners = c.loop-corner-test.true in
    let placed : IsOnRow g (row g u) (get_or corners k d) = All-get_or (IsOnRow g (row g u)) corners k d lt c.requires.placed in
    let lf : (get_or corners k d).one < 32 = omega (arith, placed.one, c.requires.few) in
    let li : (get_or corners k d).other < 32 = omega (arith, placed.other, c.requires.few) in
    let old : List ℕ = c.loop-corner.classes in
    let s = c.loop-corner.invariant in
    elim c.if-is_link.branch [
      | then-is_link+then-classes-corner w ↦
          let new : List ℕ = w.join.new.classes in
          let inner : is_link g plan u c.args.spare (get_or corners k d) ≡ true = sym c.is_link.ensures ∙ w.if-is_link.true in
          let replaced : Replaced old new (get_or corners k d).one (get_or corners k d).other = w.join.ensures in
          let wide : length new ≡ 32 = w.join.auto.classes ∙ s.width in
          record {
            width = ap (length {A = ℕ}) w.classes-is ∙ wide;
            merged = subst (λ (t : List ℕ). AreMerged g plan u c.args.spare (take (k + 1) corners) t) (sym w.classes-is)
                (merged_step g plan u c.args.spare corners k d old new lt c.requires.few c.requires.placed
                (joined_coarser old new (get_or corners k d).one (get_or corners k d).other s.width lf li replaced)
                (λ _. joined_one old new (get_or corners k d).one (get_or corners k d).other s.width lf li replaced) s.merged);
            linked = subst (λ (t : List ℕ). Kept g plan u c.args.spare corners c.args.classes.now t) (sym w.classes-is)
                (λ rings are is had. classes_joined g plan u c.args.leaving.sound c.args.leaving.within rings are c.args.spare corners is c.requires.placed c.requires.few
                old new k d lt inner replaced wide (s.linked rings are is had));
            coarser = λ a b la lb e. subst (λ (t : List ℕ). get_or t a 0 ≡ get_or t b 0) (sym w.classes-is)
                (joined_coarser old new (get_or corners k d).one (get_or corners k d).other s.width lf li replaced a b la lb (s.coarser a b la lb e));
          }
      | else-is_link w ↦ record {
        width = ap (length {A = ℕ}) w.classes-is ∙ s.width;
        merged = subst (λ (t : List ℕ). AreMerged g plan u c.args.spare (take (k + 1) corners) t) (sym w.classes-is)
            (merged_step g plan u c.args.spare corners k d old old lt c.requires.few c.requires.placed (λ a b _ _ e. e)
            (λ inner. elim w.else-is_link.branch [
              | else-is_link-via-then-is_link+else-classes-corner w' ↦ w'.if-classes-corner.false
              | else-is_link-via-else-is_link w' ↦ absurd (both_ways (is_link g plan u c.args.spare (get_or corners k d)) (sym c.is_link.ensures ∙ w'.if-is_link.false) inner)
            ]) s.merged);
        linked = subst (λ (t : List ℕ). Kept g plan u c.args.spare corners c.args.classes.now t) (sym w.classes-is) s.linked;
        coarser = λ a b la lb e. subst (λ (t : List ℕ). get_or t a 0 ≡ get_or t b 0) (sym w.classes-is) (s.coarser a b la lb e);
      }
    ]

pub returns-clause-merged : goal.returns-clause-merged
returns-clause-merged c =
    subst (λ (t : List Corner). AreMerged c.args.leaving.graph.now c.args.leaving.plan.now c.args.leaving.unit c.args.spare t c.loop-corner.classes)
    (take_all c.loop-corner.corner-index c.args.corners.now (omega (arith, c.loop-corner-test.false))) c.loop-corner.invariant.merged
