use Rattle.std.proofs.Common.{◌≡◌, ◌<◌, ℕ, List, length, map, get_or, None, sym, ap, subst, ◌∙◌, inl, inr, arith}
use Rattle.std.specs.List.{All}
use Rattle.std.proofs.lemmas.List.{length-map}
use Rattle.csv.specs.Records.{fields_of}
use Rattle.audit_model.specs.declared.setting.Label.{Label}
use Rattle.audit_model.proofs.Results.{match_map, ok_map}
use Rattle.plan_csv.specs.Fit.{IsPlanOf}
use Rattle.plan_csv.specs.Stages.{AreRecords, refused_units}
use Rattle.plan_csv.proofs.Assembled.{plans_are}
use Rattle.plan_csv.proofs.Early.{count_first, none_later}
use Rattle.plan_csv.proofs.read.plans_from.Goals as goal

pub read_columns-requires-clause-under : goal.read_columns-requires-clause-under
read_columns-requires-clause-under c = λ u l.
    let r = c.in_ok-records.ensures in
    let have = c.as_slice-2.ensures.value in
    let inside : u < length c.as_slice.result.now = omega (arith, l, ap length have, r.1.size) in
    let under : get_or c.in_ok-records.records.items u 0 < length (map fields_of c.args.entries.now) = r.1.under u inside in
    let at : get_or c.as_slice-2.result.now u 0 ≡ get_or c.in_ok-records.records.items u 0 = ap (λ (xs : List ℕ). get_or xs u 0) have in
    omega (arith, under, at, length-map c.args.entries.now fields_of)

pub returns-clause-read : goal.returns-clause-read
returns-clause-read c =
    let ids = c.args.ids.now in
    let header = fields_of c.args.header.now in
    let rows = map fields_of c.args.entries.now in
    let p = c.in_ok-plans.ensures in
    let have = c.as_slice-2.ensures.value in
    let units : refused_units ids rows ≡ None = subst (λ (ls : List Label). refused_units ls rows ≡ None) c.as_slice.ensures c.in_ok-records.ensures.0 in
    let are : AreRecords ids rows c.as_slice-2.result.now =
    subst (λ (ls : List Label). AreRecords ls rows c.as_slice-2.result.now) c.as_slice.ensures
    (subst (λ (rs : List ℕ). AreRecords c.as_slice.result.now rows rs) (sym have) c.in_ok-records.ensures.1) in
    match_map c.read_columns.result _ _ _ _ c.read_columns.ensures.read
    (λ list h. (
      none_later ids header rows p.1 p.2 p.3 units h.0,
      h.1 ∙ plans_are ids header rows c.as_slice-2.result.now c.in_ok-plans.plans are p.0,
    ))
    (λ f why. elim why [
      | inl memory ↦ inl memory
      | inr found ↦ inr (count_first ids header rows p.1 p.2 p.3 units f found)
    ])

pub returns-clause-fit : goal.returns-clause-fit
returns-clause-fit c =
    let size : length c.as_slice-2.result.now ≡ length c.args.ids.now =
    omega (arith, ap length c.as_slice-2.ensures.value, c.in_ok-records.ensures.1.size, ap (λ (ls : List Label). length ls) c.as_slice.ensures) in
    ok_map c.read_columns.result _ _ c.read_columns.ensures.fit (λ list h. subst (λ n. All (IsPlanOf n) list) size h)
