use Rattle.std.proofs.Common.{◌∙◌, ap}
use Rattle.std.proofs.lemmas.List.Sorted.{IsPermutation-sym, IsPermutation-trans}
use Rattle.audit_model.specs.Run.{by_id}
use Rattle.outcome_book.proofs.ById.{by_id-mapped}
use Rattle.claim_counter.proofs.Completing.{by_id-full}
use Rattle.claim_counter.proofs.walking.walk_run.Goals as goal

pub returns-clause-full : goal.returns-clause-full
returns-clause-full g c budget ids =
    c.sorted_into.ensures.outcomes
    ∙ ap (λ n. by_id n c.walk_all.new.book.outcomes) (c.walk_all.ensures.total ∙ c.requires.todo.whole)
    ∙ by_id-full by_id-mapped c.args.job.now c.args.book.now.outcomes c.walk_all.new.book.outcomes c.args.todo.now budget
    c.len-kept.ensures.sound.apart c.requires.todo.ids.absent ids c.walk_all.ensures.outcomes

pub returns-clause-all : goal.returns-clause-all
returns-clause-all g c = IsPermutation-trans _ _ _ (IsPermutation-sym _ _ c.sorted_into.ensures.all) c.walk_all.ensures.outcomes
