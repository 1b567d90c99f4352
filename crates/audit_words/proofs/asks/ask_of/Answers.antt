use Rattle.std.proofs.Common.{sym}
use Rattle.audit_words.proofs.Spelling.{ask_of-other}
use Rattle.audit_words.proofs.asks.ask_of.Goals as goal

pub returns-in_default : goal.returns-in_default
returns-in_default c =
    let other = c.in_default in
    sym (ask_of-other c.args.word.now other.not-text other.not-text-2 other.not-text-3 other.not-text-4 other.not-text-5 other.not-text-6 other.not-text-7 other.not-text-8 other.not-text-9 other.not-text-10)
