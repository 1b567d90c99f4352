use Rattle.std.proofs.Common.{◌≡◌, List, ap, length, map, subst, sym, arith}
use Rattle.std.proofs.lemmas.List.Sorted.{length_permutation}
use Rattle.audit_model.specs.declared.outcome.Outcome.{Outcome}
use Rattle.audit_statement.specs.Checkpoint.{AreRising}
use Rattle.ckpt_format.proofs.Stated.{rising_pairs_rise}
use Rattle.tally_desk.proofs.saving.save_rest.Goals as goal

pub save-requires-clause-few : goal.save-requires-clause-few
save-requires-clause-few g c =
    let same : length c.as_slice.result.now ≡ length c.sorted_into.new.out.items = ap length c.as_slice.ensures in
    omega (arith, same, length_permutation _ _ c.sorted_into.ensures.all, c.len-count.ensures.sound.few, c.len-count.ensures.sound.small)

pub save-requires-clause-room : goal.save-requires-clause-room
save-requires-clause-room g c =
    let same : length c.as_slice.result.now ≡ length c.sorted_into.new.out.items = ap length c.as_slice.ensures in
    omega (arith, same, length_permutation _ _ c.sorted_into.ensures.all, c.len-count.ensures.sound.few, c.requires.room.save_room)

pub save-requires-clause-rising : goal.save-requires-clause-rising
save-requires-clause-rising g c =
    subst (λ (os : List Outcome). AreRising (map (λ o. o.id) os)) (sym c.as_slice.ensures) (rising_pairs_rise c.sorted_into.new.out.items c.sorted_into.ensures.rising)
