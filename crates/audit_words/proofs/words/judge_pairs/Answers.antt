use Rattle.std.proofs.Common.{◌≡◌, ◌+◌, subst, arith, None, inl, inr, length}
use Rattle.std.proofs.lemmas.Result.{err_from_is_err_and}
use Rattle.audit_model.specs.First.{first_some_below}
use Rattle.audit_model.proofs.First.{first_some_below_found}
use Rattle.audit_words.specs.ArgumentBytes.{pairs_in}
use Rattle.audit_words.proofs.Finding.{first_some_below-none}
use Rattle.audit_statement.specs.Words as definition
use Rattle.audit_words.proofs.words.judge_pairs.Goals as goal

pub returns-in_err-judge_pair : goal.returns-in_err-judge_pair
returns-in_err-judge_pair c =
    let p = err_from_is_err_and c.from_residual.result c.from_residual.ensures.1 in
    rw (p.1, p.2) (elim c.in_err-judge_pair.ensures [
      | inl memory ↦ inl memory
      | inr found ↦ inr (first_some_below_found (length (pairs_in c.args.words.now)) c.loop-k.k (definition.pair_fault c.args.command (pairs_in c.args.words.now)) _ (omega arith) c.loop-k.invariant found)
    ])

pub loop-k-preserved : goal.loop-k-preserved
loop-k-preserved c = first_some_below-none c.loop-k.k (c.loop-k.k + 1) (definition.pair_fault c.args.command (pairs_in c.args.words.now)) (omega arith) c.loop-k.invariant c.in_ok-judge_pair.ensures

pub returns : goal.returns
returns c =
    let end : c.loop-k.k ≡ length (pairs_in c.args.words.now) = omega arith in
    subst (λ n. first_some_below n (definition.pair_fault c.args.command (pairs_in c.args.words.now)) ≡ None) end c.loop-k.invariant
