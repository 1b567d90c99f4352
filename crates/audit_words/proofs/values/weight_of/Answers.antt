use Rattle.std.proofs.Common.{ℕ, List, Bool, ◌&&◌, sym, ◌∙◌, arith}
use Rattle.std.specs.Prelude.{bytes_eq, nat_le}
use Rattle.std.proofs.lemmas.Bool.{and_from, and_right, le-leb}
use Rattle.audit_model.proofs.First.{first_below_here, first_below_more, first_below_none, none_first_below}
use Rattle.audit_statement.specs.Words.{quarters}
use Rattle.audit_words.proofs.values.weight_of.Goals as goal

-- the number of quarters is a weight, and the text is its spelling
abbrev test : List ℕ → ℕ → Bool
test text q = nat_le 4 q && bytes_eq (quarters q) text

pub returns-then-is_spelled : goal.returns-then-is_spelled
returns-then-is_spelled c =
    let q = c.loop-quarters.quarters in
    let text = c.args.text.now in
    sym (first_below_here 257 q (test text) c.loop-quarters.invariant.0 c.loop-quarters-test.true
    (and_from (nat_le 4 q) (bytes_eq (quarters q) text) (le-leb 4 q c.loop-quarters.invariant.1) (sym c.is_spelled.ensures ∙ c.if-is_spelled.true)))

pub loop-quarters-preserved : goal.loop-quarters-preserved
loop-quarters-preserved c =
    let q = c.loop-quarters.quarters in
    let text = c.args.text.now in (
      first_below_more q (test text) c.loop-quarters.invariant.0 (and_right (nat_le 4 q) (bytes_eq (quarters q) text) (sym c.is_spelled.ensures ∙ c.if-is_spelled.false)),
      omega (arith, c.loop-quarters.invariant.1),
    )

pub returns : goal.returns
returns c =
    let text = c.args.text.now in
    sym (none_first_below 257 (test text) (λ k l. first_below_none c.loop-quarters.quarters (test text) k c.loop-quarters.invariant.0 (omega arith)))
