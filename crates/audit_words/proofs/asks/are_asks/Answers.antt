use Rattle.std.proofs.Common.{◌≡◌, ◌∙◌, ◌+◌, ◌-◌, ap, arith, ◌∷◌, false, lit<, None, rules, Some, subst, sym, true}
use Rattle.std.proofs.lemmas.Str.Pattern.{split_once_first, split_parts}
use Rattle.std.specs.Prelude.{bytes_eq, is_some}
use Rattle.std.specs.List.{list_any}
use Rattle.audit_model.proofs.Options.{none_from}
use Rattle.audit_statement.specs.Words.{ask_of, parts_between}
use Rattle.audit_words.proofs.Parting.{are_within, are_within-bad, are_within-full, are_within-last, are_within-more, are_within-twice, parts_between-first, parts_between-whole}
use Rattle.audit_words.proofs.asks.are_asks.Goals as goal
use Rattle.audit_words.proofs.asks.are_asks.Goals.{then-is_none-via-then-is_none, then-is_none-via-else-is_none+then-has_part}

pub returns-in-None : goal.returns-in-None
returns-in-None c =
    let whole = parts_between-whole c.loop.rest.now (split_parts 44 c.loop.rest.now None c.in-None.ensures.cases (lit< tt)) in
    c.is_some.ensures ∙ ap is_some c.ask_of.ensures ∙ sym (are_within-last (4 - c.loop.counter) c.loop.rest.now (omega arith))
    ∙ sym (ap (are_within (4 - c.loop.counter)) whole) ∙ sym c.loop.invariant.1

pub returns-then-is_none : goal.returns-then-is_none
returns-then-is_none c =
    let first = parts_between-first c.loop.rest.now c.in-Some.word.now c.in-Some.more.now (split_once_first 44 c.loop.rest.now (Some (c.in-Some.word, c.in-Some.more)) c.in-Some.ensures.cases (lit< tt)) in
    let refused : are_within (4 - c.loop.counter) (c.in-Some.word.now ∷ parts_between 44 c.in-Some.more.now) ≡ false = elim c.then-is_none.branch [
      | then-is_none-via-then-is_none w ↦
          are_within-bad c.in-Some.word.now (parts_between 44 c.in-Some.more.now) (4 - c.loop.counter) (sym c.ask_of-in-Some.ensures ∙ none_from c.ask_of-in-Some.result w.if-is_none.ensures)
      | then-is_none-via-else-is_none+then-has_part w ↦
          are_within-twice c.in-Some.word.now (parts_between 44 c.in-Some.more.now) (4 - c.loop.counter) (sym w.if-has_part.ensures)
    ] in
    sym (c.loop.invariant.1 ∙ ap (are_within (4 - c.loop.counter)) first ∙ refused)

pub loop-preserved : goal.loop-preserved
loop-preserved c =
    let first = parts_between-first c.loop.rest.now c.in-Some.word.now c.in-Some.more.now (split_once_first 44 c.loop.rest.now (Some (c.in-Some.word, c.in-Some.more)) c.in-Some.ensures.cases (lit< tt)) in
    let good : is_some (ask_of c.in-Some.word.now) ≡ true = ap is_some (sym c.ask_of-in-Some.ensures) ∙ c.if-is_none.ensures in
    let alone : list_any (λ part. bytes_eq part c.in-Some.word.now) (parts_between 44 c.in-Some.more.now) ≡ false = sym c.if-has_part.ensures in (
      search rules,
      c.loop.invariant.1 ∙ ap (are_within (4 - c.loop.counter)) first
          ∙ are_within-more c.in-Some.word.now (parts_between 44 c.in-Some.more.now) (4 - (c.loop.counter + 1)) (4 - c.loop.counter) (omega arith) good alone,
    )

pub returns : goal.returns
returns c =
    let end : 4 - c.loop.counter ≡ 0 = omega arith in
    sym (c.loop.invariant.1 ∙ subst (λ room. are_within room (parts_between 44 c.loop.rest.now) ≡ false) (sym end) (are_within-full c.loop.rest.now))
