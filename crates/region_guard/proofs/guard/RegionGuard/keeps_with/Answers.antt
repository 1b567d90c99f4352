use Rattle.std.proofs.Common.{ℕ, List, length, sym, ap, ◌∙◌, arith}
use Rattle.std.specs.Prelude.{slice_index}
use Rattle.region_guard.proofs.Freezing.{keeps_decided, keeps_moved}
use Rattle.region_guard.proofs.guard.RegionGuard.keeps_with.Goals as goal

pub returns-then-place-frozen : goal.returns-then-place-frozen
returns-then-place-frozen g c =
    let rules = c.args.self.now.rules in
    sym (keeps_moved rules.frozen rules.home c.args.after.now c.args.unit c.args._from (sym c.requires.stood ∙ c.if-not-self.false)
    (λ l some. absurd (omega (arith, l, c.if-place-frozen.true, ap (λ (xs : List ℕ). length xs) c.as_slice-frozen.ensures))))

pub returns-then-frozen-place-eq0 : goal.returns-then-frozen-place-eq0
returns-then-frozen-place-eq0 g c =
    let rules = c.args.self.now.rules in
    sym (keeps_moved rules.frozen rules.home c.args.after.now c.args.unit c.args._from (sym c.requires.stood ∙ c.if-not-self.false)
    (λ l some. absurd (omega (arith, some, c.if-frozen-place-eq0.true, ap (λ (xs : List ℕ). slice_index xs c.args.unit) c.as_slice-frozen.ensures))))

pub returns : goal.returns
returns g c =
    let rules = c.args.self.now.rules in
    rw c.as_slice.ensures (keeps_decided rules.frozen rules.home c.args.after.now c.args.unit c.args._from (sym c.requires.stood ∙ c.if-not-self.false)
    (omega (arith, c.if-place-frozen.false, ap (λ (xs : List ℕ). length xs) c.as_slice-frozen.ensures))
    (λ none. c.if-frozen-place-eq0.false (ap (λ (xs : List ℕ). slice_index xs c.args.unit) c.as_slice-frozen.ensures ∙ none)))
