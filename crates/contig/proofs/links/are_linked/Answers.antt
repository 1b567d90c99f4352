use Rattle.std.proofs.Common.{false, refl, inl, inr}
use Rattle.std.proofs.lemmas.Bool.{cases_Bool}
use Rattle.contig.specs.Faces.{chosen}
use Rattle.contig.proofs.Choosing.{chosen_are_rings}
use Rattle.contig.proofs.Merging.{home, own_classes, all_linked, parted}
use Rattle.contig.proofs.SpareLinks.{rings_link, spares_link, all_covered, still_merged}
use Rattle.contig.proofs.links.are_linked.Goals as goal

pub returns-in-Some : goal.returns-in-Some
returns-in-Some c faces are is of_spares =
    let g = c.args.leaving.graph.now in
    let plan = c.args.leaving.plan.now in
    let u = c.args.leaving.unit in
    let sound = c.args.leaving.sound in
    let lu = c.args.leaving.within in
    let rings = chosen (home plan u) faces in
    let are_rings = chosen_are_rings g (home plan u) faces are in
    let corners = c.args.corners.now in
    let spares = c.args.spares.now in
    let first = c.merge.ensures.linked rings are_rings (rings_link g plan u faces are spares of_spares corners is) (own_classes g plan u sound lu rings are_rings _ c.requires.few refl) in
    let kept = c.merge-in-Some.ensures.linked rings are_rings (spares_link g plan u faces are spares of_spares) first in
    let merged = still_merged g plan u false corners c.merge.new.classes c.merge-in-Some.new.classes c.requires.few c.requires.placed c.merge-in-Some.ensures.coarser c.merge.ensures.merged in
    let covered = all_covered g plan u faces are spares of_spares corners is c.merge-in-Some.new.classes c.requires.placed c.requires.spares merged c.merge-in-Some.ensures.merged in (
      λ h. all_linked g plan u sound lu rings are_rings c.merge-in-Some.new.classes c.in-Some.first kept c.in-Some.ensures.0 c.in-Some.ensures.1 (c.all_of.ensures.yes h),
      λ linked. elim (cases_Bool c.all_of.result) [
        | inl e ↦ e
        | inr e ↦
            let other = c.all_of.ensures.no e in
            absurd (parted g plan u sound lu rings are_rings c.merge-in-Some.new.classes covered c.in-Some.first other.0 c.in-Some.ensures.0 other.1 c.in-Some.ensures.1 other.2 other.3 linked)
      ],
    )
