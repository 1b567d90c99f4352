use Rattle.std.proofs.Common.{◌∷◌, List, ℕ, pos, flat_map, refl, sym, arith}
use Rattle.std.specs.Fmt.{signed_decimal}
use Rattle.std.proofs.lemmas.List.Folds.{flat_map-map}
use Rattle.std.proofs.lemmas.Result.{err_from_is_err_and}
use Rattle.report.proofs.Pieces.{pieces-all, pieces-err, pieces-more}
use Rattle.report.proofs.Written.{appends-by}
use Rattle.report.proofs.trace.push_values.Goals as goal

pub loop-place-preserved : goal.loop-place-preserved
loop-place-preserved c =
    pieces-more (λ z. 32 ∷ signed_decimal z) c.args.values.now c.loop-place.place _ (pos 0) c.args.out.now c.loop-place.out c.push_value.new.out
    (omega arith) refl c.loop-place.invariant c.in_ok-push_value.ensures

pub returns-in_err-push_value : goal.returns-in_err-push_value
returns-in_err-push_value c =
    let p = err_from_is_err_and c.from_residual.result c.from_residual.ensures.1 in
    let same = flat_map-map (λ (word : List ℕ). 32 ∷ word) signed_decimal c.args.values.now in
    rw (p.1, p.2)
    (appends-by c.args.out.now c.push_value.new.out (flat_map (λ z. 32 ∷ signed_decimal z) c.args.values.now) _ _ (sym same)
    (pieces-err (λ z. 32 ∷ signed_decimal z) c.args.values.now c.loop-place.place _ (pos 0) c.args.out.now c.loop-place.out c.push_value.new.out
    c.in_err-push_value.field-0.0 (omega arith) refl c.loop-place.invariant c.in_err-push_value.ensures))

pub returns : goal.returns
returns c =
    appends-by c.args.out.now c.loop-place.out (flat_map (λ z. 32 ∷ signed_decimal z) c.args.values.now) _ _
    (sym (flat_map-map (λ (word : List ℕ). 32 ∷ word) signed_decimal c.args.values.now))
    (pieces-all (λ z. 32 ∷ signed_decimal z) c.args.values.now c.loop-place.place c.args.out.now c.loop-place.out (omega arith) c.loop-place.invariant)
