use Rattle.std.proofs.Common.{sym, ◌∙◌}
use Rattle.outcome_book.proofs.Same.{same_decides}
use Rattle.outcome_book.proofs.gathering.is_same.Goals as goal

pub returns : goal.returns
returns c =
    let same = same_decides c.args.one.now c.args.other.now in
    (λ e. same.0 (sym c.eq.ensures ∙ e), λ e. c.eq.ensures ∙ same.1 e)
