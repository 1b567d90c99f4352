use Rattle.std.proofs.Common.{◌∷◌, []}
use Rattle.report.proofs.Escapes.{as_it_is, escaped_by_number, escaped_shortly}
use Rattle.report.proofs.Written.{appends-by}
use Rattle.report.proofs.quoted.push_byte.Goals as goal

pub returns-then-letter-gt0 : goal.returns-then-letter-gt0
returns-then-letter-gt0 c =
    appends-by c.args.out.now c.append.new.self (92 ∷ c.escape_letter-letter.result ∷ []) _ c.append.result
    (escaped_shortly c.args.byte c.escape_letter-letter.result c.escape_letter-letter.ensures c.if-letter-gt0.true)
    (record { ok = c.append.ensures.ok; room = c.append.ensures.room })

pub returns-then-byte-lt32 : goal.returns-then-byte-lt32
returns-then-byte-lt32 c =
    appends-by c.args.out.now c.append-then-byte-lt32.new.self (92 ∷ 117 ∷ 48 ∷ 48 ∷ c.digit.result ∷ c.digit-then-byte-lt32.result ∷ []) _ c.append-then-byte-lt32.result
    (escaped_by_number c.args.byte c.escape_letter-letter.result c.digit.result c.digit-then-byte-lt32.result c.escape_letter-letter.ensures c.if-letter-gt0.false c.if-byte-lt32.true
    c.digit.ensures c.digit-then-byte-lt32.ensures)
    (record { ok = c.append-then-byte-lt32.ensures.ok; room = c.append-then-byte-lt32.ensures.room })

pub returns : goal.returns
returns c =
    appends-by c.args.out.now c.push.new.self (c.args.byte ∷ []) _ c.push.result
    (as_it_is c.args.byte c.escape_letter-letter.result c.escape_letter-letter.ensures c.if-letter-gt0.false c.if-byte-lt32.false)
    (record { ok = c.push.ensures.ok; room = c.push.ensures.room })
