use Rattle.std.proofs.Common.{◌∙◌, List, get_or, SFits, w64, ap, subst, sym, rules}
use Rattle.std.proofs.lemmas.Int.{to_z-of_z}
use Rattle.audit_model.specs.declared.setting.Ask.{Ask}
use Rattle.audit_model.specs.Trajectory.{plan_value, rank_among}
use Rattle.report.specs.Lines.{AppendsText}
use Rattle.report.specs.Parts.{ask_at, rank_line}
use Rattle.report.proofs.Pieces.{no_ask}
use Rattle.report.proofs.Ranked.{rank_within, same_rank}
use Rattle.report.proofs.Sorted.{ends_all}
use Rattle.report.proofs.ends.push_ends_line.Goals as goal

pub push_rank_line-requires-clause-rank : goal.push_rank_line-requires-clause-rank
push_rank_line-requires-clause-rank c = rank_within _ _ c.args.place _ _ c.args.ends.now c.rank-start_rank.ensures c.requires.ends.count

pub returns : goal.returns
returns c =
    let job = c.args.job.now in
    let place = c.args.place in
    let ends = c.args.ends.now in
    let ask = ask_at job place in
    let start = c.start_value-start.result in
    let fits : SFits w64 start = search rules in
    let tails = ap (λ (asks : List Ask). (get_or asks place no_ask).tail) c.asks_of.ensures.value in
    let among = same_rank _ ask.tail _ (plan_value job job.start ask.score) place _ ends c.rank-start_rank.ensures tails (to_z-of_z w64 start fits ∙ c.start_value-start.ensures) in
    let ranks = among ∙ ap (λ os. rank_among ask.tail (plan_value job job.start ask.score) place os) (sym (ends_all job.setting.walks ends c.requires.ends.ids)) in
    subst (λ r. AppendsText c.args.out.now c.push_rank_line.new.out (rank_line job ask r) c.push_rank_line.result) ranks c.push_rank_line.ensures
