use Rattle.std.proofs.Common.{◌≡◌, ◌∙◌, true, sym, arith}
use Rattle.std.specs.Prelude.{bytes_eq}
use Rattle.std.proofs.lemmas.Bool.{false≢true}
use Rattle.std.proofs.lemmas.Slice.Eq.{bytes_eq-Decides}
use Rattle.audit_words.proofs.Numbers.{number-taken, number-other, number-unread}
use Rattle.audit_words.proofs.values.number_within.Goals as goal
use Rattle.audit_words.proofs.values.number_within.Goals.{else-eq-via-then-eq+then-low-number+else-number-high, else-eq-via-then-eq+else-low-number, else-eq-via-else-eq}

pub returns-in_err-number : goal.returns-in_err-number
returns-in_err-number c = c.from_residual.ensures
    ∙ sym (number-unread 32 c.args.low c.args.high c.args.text.now c.parse.result (omega arith) (omega arith) c.parse.ensures.value.0 c.in_err-number.ensures.value)

pub returns-then-number-high : goal.returns-then-number-high
returns-then-number-high c =
    let printed : c.format.result.now ≡ c.args.text.now = (bytes_eq-Decides c.format.result.now c.args.text.now).0 (sym c.if-eq.ensures) in
    sym (number-taken c.args.low c.args.high c.in_ok-number.number c.args.text.now (omega arith) (sym printed ∙ c.format.ensures.text) (omega arith) (omega arith))

pub returns-else-eq : goal.returns-else-eq
returns-else-eq c =
    sym (number-other 32 c.args.low c.args.high c.in_ok-number.number c.args.text.now c.parse.result (omega arith) (omega arith) c.parse.ensures.value.0 c.in_ok-number.ensures.value (λ same low high.
    elim c.else-eq.branch [
      | else-eq-via-then-eq+then-low-number+else-number-high w ↦ omega arith
      | else-eq-via-then-eq+else-low-number w ↦ omega arith
      | else-eq-via-else-eq w ↦
          let test : bytes_eq c.format.result.now c.args.text.now ≡ true = (bytes_eq-Decides c.format.result.now c.args.text.now).1 (c.format.ensures.text ∙ same) in
          false≢true (sym w.if-eq.false ∙ c.eq.ensures ∙ test)
    ]))
