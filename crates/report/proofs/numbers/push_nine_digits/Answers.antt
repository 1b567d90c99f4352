use Rattle.std.proofs.Common.{◌≡◌, ◌≤◌, ◌-◌, ◌∙◌, ap, length, arith, decimal, replicate}
use Rattle.std.proofs.lemmas.Fmt.{length-decimal-le}
use Rattle.std.proofs.lemmas.Result.{err_from_is_err_and}
use Rattle.report.proofs.Written.{appends-two, appends-err, appends-by}
use Rattle.report.proofs.numbers.push_nine_digits.Goals as goal

pub overflow_sub-digits : goal.overflow_sub-digits
overflow_sub-digits c =
    let short : length (decimal c.args.number) ≤ 9 = length-decimal-le 9 c.args.number (omega arith) c.requires (omega arith) in
    omega (arith, short, ap length c.format-digits.ensures.text)

pub returns-in_err-append : goal.returns-in_err-append
returns-in_err-append c =
    let p = err_from_is_err_and c.from_residual.result c.from_residual.ensures.1 in
    let text : c.zeros.result.now ≡ replicate (9 - length (decimal c.args.number)) 48 = c.zeros.ensures ∙ ap (λ t. replicate (9 - length t) 48) c.format-digits.ensures.text in
    rw (p.1, p.2) (appends-err c.args.out.now c.append.new.self (replicate (9 - length (decimal c.args.number)) 48) (decimal c.args.number) c.in_err-append.field-0.0
    (appends-by c.args.out.now c.append.new.self _ _ _ text (record { ok = tt; room = c.in_err-append.ensures.room })))

pub returns : goal.returns
returns c =
    let text : c.zeros.result.now ≡ replicate (9 - length (decimal c.args.number)) 48 = c.zeros.ensures ∙ ap (λ t. replicate (9 - length t) 48) c.format-digits.ensures.text in
    appends-two c.args.out.now c.append.new.self c.append-2.new.self (replicate (9 - length (decimal c.args.number)) 48) (decimal c.args.number) c.append-2.result
    (appends-by c.args.out.now c.append.new.self _ _ _ text (record { ok = c.in_ok-append.ensures.ok; room = c.in_ok-append.ensures.room }))
    (appends-by c.append.new.self c.append-2.new.self _ _ _ (c.as_bytes.ensures.value ∙ c.format-digits.ensures.text) (record { ok = c.append-2.ensures.ok; room = c.append-2.ensures.room }))
