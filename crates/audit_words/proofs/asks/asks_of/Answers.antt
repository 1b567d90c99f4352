use Rattle.std.proofs.Common.{◌∙◌, ap, lit<, rules, sym, tests}
use Rattle.std.proofs.lemmas.List.{map-id}
use Rattle.std.specs.List.{filter_map}
use Rattle.std.proofs.lemmas.Iterator.Consumers.{YieldsList-at, YieldsList-from_filter_map, YieldsList-end}
use Rattle.std.proofs.lemmas.Iterator.Splits.{YieldsList-from_str_split}
use Rattle.audit_statement.specs.Words.{ask_of}
use Rattle.audit_words.proofs.Parting.{parts_between-split}
use Rattle.audit_words.proofs.asks.asks_of.Goals as goal

pub returns : goal.returns
returns c =
    let seen = YieldsList-end
    (YieldsList-at c.into_iter-ask-iterator.ensures.into_iter_gives
    (YieldsList-from_filter_map _ ask_of
    (YieldsList-at c.filter_map-ask-items.ensures.source
    (YieldsList-from_str_split 44 c.args.text.now (lit< tt) c.split.ensures.text c.split.ensures.has_more c.split.ensures.pattern))
    c.filter_map-ask-items.ensures.closure (λ x r q k. search (rules, tests))))
    c.loop-ask.yielded _ c.loop-ask.yielded_by _ _ c.in-None.is c.next.ensures.steps in
    c.loop-ask.invariant ∙ sym (map-id c.loop-ask.yielded) ∙ seen.0 ∙ ap (filter_map ask_of) (sym (parts_between-split 44 c.args.text.now))
