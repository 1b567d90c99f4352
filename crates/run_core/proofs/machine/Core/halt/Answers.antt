use Rattle.std.proofs.Common.{◌≡◌, ℕ, ◌-◌, ◌<◌, Bool, false, not, List, All, None, length, take, drop, get_or, replicate, sym, ap, subst, ◌∙◌, refl, arith}
use Rattle.std.specs.Prelude.{◌++◌, ◌||◌}
use Rattle.audit_model.specs.Below.{filter_below}
use Rattle.audit_model.specs.Graph.{has}
use Rattle.run_core.proofs.Marking.{AreMarked, written}
use Rattle.run_core.proofs.Stepping.{newly_below, kept_halted}
use Rattle.run_core.proofs.machine.Core.halt.Goals as goal

pub mark-requires : goal.mark-requires
mark-requires c =
    let i = c.self.inside in
    let same : length c.deref_mut.result.now ≡ length i.marks.items = ap length c.deref_mut.ensures.value in
    subst (λ (ds : List ℕ). All (λ id. id < length c.deref_mut.result.now) (take (i.saved - i.started) (drop i.started ds))) (sym c.deref.ensures.value)
    (newly_below _ _ _ _ _ _ _ _ c.self.invariant.0 (length c.deref_mut.result.now) same)

pub invariant_of-self : goal.invariant_of-self
invariant_of-self c =
    let i = c.self.inside in
    let marks : List Bool = take i.marks.len (c.mark.new.marks ++ drop (length c.mark.new.marks) i.marks.items) in
    let long : length c.mark.new.marks ≡ length i.marks.items = c.mark.ensures.width ∙ ap length c.deref_mut.ensures.value in
    let whole : marks ≡ c.mark.new.marks = written c.mark.new.marks i.marks.items i.marks.len long i.marks.ok.0 in
    let width : length marks ≡ length i.marks.items = ap length whole ∙ long in
    let marked : AreMarked i.marks.items marks (take (i.saved - i.started) (drop i.started i.done.items)) =
    λ id l. ap (λ (ms : List Bool). get_or ms id false) whole
    ∙ c.mark.ensures.marked id (omega (arith, l, ap length c.deref_mut.ensures.value))
    ∙ ap (λ (ms : List Bool). get_or ms id false || has (take (i.saved - i.started) (drop i.started c.deref.result.now)) id) c.deref_mut.ensures.value
    ∙ ap (λ (ds : List ℕ). get_or i.marks.items id false || has (take (i.saved - i.started) (drop i.started ds)) id) c.deref.ensures.value in
    let listed : c.list_unmarked.new.ids.items ≡ filter_below (length marks) (λ id. not (get_or marks id false)) =
    c.list_unmarked.ensures.ids ∙ ap (λ (ms : List Bool). filter_below (length ms) (λ id. not (get_or ms id false))) c.deref-2.ensures.value in
    let kept = kept_halted _ _ _ _ _ _ _ _ c.self.invariant.0 (replicate 32 None) refl (length marks) c.truncate.new.self.items width c.truncate.ensures.items
    c.list_unmarked.new.ids.items marks width marked listed in (
      kept,
      record {
        done = omega (arith, width, c.self.invariant.1.done, c.truncate.ensures.capacity);
        ids = omega (arith, width, c.self.invariant.1.ids, c.list_unmarked.ensures.room);
      },
    )

pub returns-clause-sound : goal.returns-clause-sound
returns-clause-sound c =
    let i = c.self.inside in
    let marks : List Bool = take i.marks.len (c.mark.new.marks ++ drop (length c.mark.new.marks) i.marks.items) in
    let long : length c.mark.new.marks ≡ length i.marks.items = c.mark.ensures.width ∙ ap length c.deref_mut.ensures.value in
    let whole : marks ≡ c.mark.new.marks = written c.mark.new.marks i.marks.items i.marks.len long i.marks.ok.0 in
    let width : length marks ≡ length i.marks.items = ap length whole ∙ long in
    let marked : AreMarked i.marks.items marks (take (i.saved - i.started) (drop i.started i.done.items)) =
    λ id l. ap (λ (ms : List Bool). get_or ms id false) whole
    ∙ c.mark.ensures.marked id (omega (arith, l, ap length c.deref_mut.ensures.value))
    ∙ ap (λ (ms : List Bool). get_or ms id false || has (take (i.saved - i.started) (drop i.started c.deref.result.now)) id) c.deref_mut.ensures.value
    ∙ ap (λ (ds : List ℕ). get_or i.marks.items id false || has (take (i.saved - i.started) (drop i.started ds)) id) c.deref.ensures.value in
    let listed : c.list_unmarked.new.ids.items ≡ filter_below (length marks) (λ id. not (get_or marks id false)) =
    c.list_unmarked.ensures.ids ∙ ap (λ (ms : List Bool). filter_below (length ms) (λ id. not (get_or ms id false))) c.deref-2.ensures.value in
    let kept = kept_halted _ _ _ _ _ _ _ _ c.self.invariant.0 (replicate 32 None) refl (length marks) c.truncate.new.self.items width c.truncate.ensures.items
    c.list_unmarked.new.ids.items marks width marked listed in
    kept.run
