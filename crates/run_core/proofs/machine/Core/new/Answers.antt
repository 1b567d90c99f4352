use Rattle.std.proofs.Common.{◌≡◌, Bool, false, not, List, None, length, replicate, get_or, ap, ◌∙◌, refl, arith}
use Rattle.std.proofs.lemmas.List.{length-replicate}
use Rattle.audit_model.specs.Below.{filter_below}
use Rattle.run_core.proofs.Stepping.{kept_new}
use Rattle.run_core.proofs.machine.Core.new.Goals as goal

pub invariant_of-result : goal.invariant_of-result
invariant_of-result c =
    let unmarked : c.in_ok-marks.marks.items ≡ replicate c.args.total false = c.in_ok-marks.ensures.items_if_clones_equal (λ y h. h) in
    let listed : c.list_unmarked.new.ids.items ≡ filter_below (length c.in_ok-marks.marks.items) (λ id. not (get_or c.in_ok-marks.marks.items id false)) =
    c.list_unmarked.ensures.ids ∙ ap (λ (ms : List Bool). filter_below (length ms) (λ id. not (get_or ms id false))) c.deref.ensures.value in
    let width : length c.in_ok-marks.marks.items ≡ length (replicate c.args.total false) = ap length unmarked in
    let kept = kept_new c.args.total c.in_ok-done.done.items (replicate 32 None) c.list_unmarked.new.ids.items c.in_ok-marks.marks.items
    c.requires c.in_ok-done.ensures.items refl unmarked listed in (
      kept.0,
      record {
        done = omega (arith, width, length-replicate c.args.total false, c.in_ok-done.ensures.capacity);
        ids = omega (arith, width, length-replicate c.args.total false, c.list_unmarked.ensures.room, c.in_ok-ids.ensures.capacity);
      },
    )

pub returns-clause-sound : goal.returns-clause-sound
returns-clause-sound c =
    let unmarked : c.in_ok-marks.marks.items ≡ replicate c.args.total false = c.in_ok-marks.ensures.items_if_clones_equal (λ y h. h) in
    let listed : c.list_unmarked.new.ids.items ≡ filter_below (length c.in_ok-marks.marks.items) (λ id. not (get_or c.in_ok-marks.marks.items id false)) =
    c.list_unmarked.ensures.ids ∙ ap (λ (ms : List Bool). filter_below (length ms) (λ id. not (get_or ms id false))) c.deref.ensures.value in
    let kept = kept_new c.args.total c.in_ok-done.done.items (replicate 32 None) c.list_unmarked.new.ids.items c.in_ok-marks.marks.items
    c.requires c.in_ok-done.ensures.items refl unmarked listed in
    kept.0.run
