use Rattle.std.proofs.Common.{◌≡◌, ℕ, ◌^◌, List, [], length, get_or, sym, ap, ◌∙◌, arith}
use Rattle.std.proofs.lemmas.Nat.{mul-le}
use Rattle.std.proofs.lemmas.Bool.{eqb-true}
use Rattle.std.proofs.lemmas.List.{nil_from_length}
use Rattle.audit_model.specs.District.{district_sum}
use Rattle.plan_core.proofs.Majorities.{none_has_majority, majorities_are}
use Rattle.plan_core.proofs.group.count_majorities.Goals as goal

pub returns-then-is_empty : goal.returns-then-is_empty
returns-then-is_empty c =
    let empty : c.as_slice.result.now ≡ [] =
    nil_from_length c.as_slice.result.now (eqb-true (length c.as_slice.result.now) 0 (sym c.is_empty.ensures ∙ c.if-is_empty.true)) in
    sym (none_has_majority c.args.share c.args.group.now c.args.plan.now (sym c.as_slice.ensures ∙ empty))

pub count_over_share-requires-clause-whole : goal.count_over_share-requires-clause-whole
count_over_share-requires-clause-whole c = λ d l.
    let small = c.district_sums-whole.ensures.small d l in
    omega (arith, mul-le c.args.share (get_or c.district_sums-whole.result d 0) 10000 (10 ^ 14) c.requires.share (omega (arith, small)))

pub returns : goal.returns
returns c =
    let plan = c.args.plan.now in
    let group = c.args.group.now in
    c.count_over_share.ensures
    ∙ majorities_are c.args.share group plan c.district_sums-members.result c.district_sums-whole.result c.requires.districts
    (λ d l. c.district_sums-members.ensures.sums d l ∙ ap (λ (column : List ℕ). district_sum column plan d) c.as_slice-2.ensures)
    (λ d l. c.district_sums-whole.ensures.sums d l ∙ ap (λ (column : List ℕ). district_sum column plan d) c.as_slice-3.ensures)
