-- A text that begins with some digits, and what stands behind them.
use Rattle.std.proofs.Common.{◌≡◌, ◌∙◌, ℕ, true, false, List, ◌++◌, length, take, drop, ap, sym}
use Rattle.std.specs.Prelude.{bytes_eq}
use Rattle.std.proofs.Math.Seq.{take-append_seam}
use Rattle.std.proofs.lemmas.Bool.{both_ways, false_from_ne_true}
use Rattle.std.proofs.lemmas.List.{append_cancel_left, take-append-drop}
use Rattle.std.proofs.lemmas.Slice.Eq.{bytes_eq-Decides}
use Rattle.audit_model.proofs.Bools.{same_bool}

-- a text that begins with these bytes is the bytes and others behind them exactly if the others stand behind them
pub behind_decides : (text whole rest more : List ℕ) → bytes_eq (take (length whole) text) whole ≡ true → rest ≡ drop (length whole) text
    → bytes_eq rest more ≡ bytes_eq (whole ++ more) text
behind_decides text whole rest more begins is =
    let front : take (length whole) text ≡ whole = (bytes_eq-Decides (take (length whole) text) whole).0 begins in
    let split : text ≡ whole ++ rest = sym (take-append-drop (length whole) text) ∙ ap (λ t. t ++ drop (length whole) text) front ∙ ap (λ t. whole ++ t) (sym is) in
    same_bool (bytes_eq rest more) (bytes_eq (whole ++ more) text)
    (λ h. (bytes_eq-Decides (whole ++ more) text).1 (ap (λ t. whole ++ t) (sym ((bytes_eq-Decides rest more).0 h)) ∙ sym split))
    (λ h. (bytes_eq-Decides rest more).1 (append_cancel_left whole rest more (sym split ∙ sym ((bytes_eq-Decides (whole ++ more) text).0 h))))

-- a text that does not begin with these bytes is not the bytes and others behind them
pub begins_otherwise : (text whole more : List ℕ) → bytes_eq (take (length whole) text) whole ≡ false → bytes_eq (whole ++ more) text ≡ false
begins_otherwise text whole more other = false_from_ne_true (bytes_eq (whole ++ more) text) (λ h.
    let same : whole ++ more ≡ text = (bytes_eq-Decides (whole ++ more) text).0 h in
    let front : take (length whole) text ≡ whole = ap (take (length whole)) (sym same) ∙ take-append_seam whole more in
    both_ways (bytes_eq (take (length whole) text) whole) other ((bytes_eq-Decides (take (length whole) text) whole).1 front))
