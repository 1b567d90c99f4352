use Rattle.std.proofs.Common.{◌≡◌, List, ℕ, true, ◌++◌, length, length-append, ap, sym, subst, arith, ◌∙◌}
use Rattle.std.proofs.Math.Logic.{∥∥₁_map}
use Rattle.std.specs.Prelude.{slice_range}
use Rattle.sha2.specs.Hashers.{Holds256}
use Rattle.ckpt_format.specs.Written.{bytes_by}
use Rattle.ckpt_format.proofs.Cutting.{part-back}
use Rattle.ckpt_format.proofs.ahead.Ahead.go_on.Goals as goal

pub invariant_of-self : goal.invariant_of-self
invariant_of-self c =
    let before = c.args.self.now.bytes.items in
    let more = bytes_by true c.args.outcome.now in
    let all = c.append_outcome.new.out.items in
    let added : all ≡ before ++ more = c.append_outcome.ensures.bytes.items in
    let seen : c.as_slice.result.now ≡ before ++ more = c.as_slice.ensures ∙ added in
    let tail : slice_range c.as_slice.result.now c.len-before.result (length c.as_slice.result.now) ≡ more =
    ap (λ (l : List ℕ). slice_range l c.len-before.result (length l)) seen
    ∙ part-back before more c.len-before.result (length (before ++ more)) (sym c.len-before.ensures) (omega (arith, length-append before more, c.len-before.ensures)) in
    let whole : before ++ slice_range c.as_slice.result.now c.len-before.result (length c.as_slice.result.now) ≡ all =
    ap (λ (l : List ℕ). before ++ l) tail ∙ sym added in
    record { taken = ∥∥₁_map c.args.self.now.taken (λ holds. subst (Holds256 c.update.new.self) whole (c.update.ensures before holds)) }
