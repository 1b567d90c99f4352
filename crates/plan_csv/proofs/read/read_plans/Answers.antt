use Rattle.std.proofs.Common.{◌≡◌, ◌∙◌, ap, length, map, sym, inl, inr, [], None, drop, take, ◌-◌}
use Rattle.std.specs.List.{slice_index_or}
use Rattle.std.proofs.lemmas.Result.{err_from_is_err_and}
use Rattle.audit_model.proofs.Results.{match_map}
use Rattle.csv.specs.Reading.{default_config, records, strip_bom}
use Rattle.csv.specs.Records.{fields_of}
use Rattle.plan_csv.specs.Stages.{unread}
use Rattle.plan_csv.proofs.Pushed.{split_first}
use Rattle.plan_csv.proofs.Assembled.{nothing_read, read_accepted, read_refused}
use Rattle.plan_csv.proofs.Early.{unread_first, past_unread}
use Rattle.plan_csv.proofs.read.read_plans.Goals as goal

pub returns-in_err-texts-clause-read : goal.returns-in_err-texts-clause-read
returns-in_err-texts-clause-read c =
    let rows = records default_config (strip_bom c.args.bytes.now) in
    let col : c.columns_of-columns.result ≡ length (slice_index_or rows 0 []) =
    c.columns_of-columns.ensures ∙ ap (λ rs. length (slice_index_or (map fields_of rs) 0 [])) c.as_slice.ensures.value ∙ ap (λ rs. length (slice_index_or rs 0 [])) c.in_ok-rows.ensures in
    let p = err_from_is_err_and c.from_residual-in_err-texts.result c.from_residual-in_err-texts.ensures.1 in
    rw (p.1, p.2) (elim c.in_err-texts.ensures [
      | inl memory ↦ inl memory
      | inr found ↦ inr (read_refused c.args.bytes.now c.args.ids.now _ (unread_first c.args.ids.now rows _ ((λ i. unread (sym col i) (sym c.in_ok-rows.ensures i)) ∙ found)))
    ])

pub returns-in-len1-up-clause-read : goal.returns-in-len1-up-clause-read
returns-in-len1-up-clause-read c =
    let rows = records default_config (strip_bom c.args.bytes.now) in
    let col : c.columns_of-columns.result ≡ length (slice_index_or rows 0 []) =
    c.columns_of-columns.ensures ∙ ap (λ rs. length (slice_index_or (map fields_of rs) 0 [])) c.as_slice.ensures.value ∙ ap (λ rs. length (slice_index_or rs 0 [])) c.in_ok-rows.ensures in
    let t = c.in_ok-texts.ensures in
    let texts = c.as_slice-2.result.now in
    let split = split_first texts c.header-item.result c.in-len1-up.len_at_least c.header-item.is ∙ ap (λ rs. map fields_of rs) c.as_slice-2.ensures.value ∙ t.0 ∙ c.in_ok-rows.ensures in
    let none : unread (length (slice_index_or rows 0 [])) rows ≡ None = (λ i. unread (sym col i) (sym c.in_ok-rows.ensures i)) ∙ t.1 in
    let whole = past_unread c.args.ids.now (fields_of c.header-item.result) (map fields_of (take (length texts - 1) (drop 1 texts))) rows split none in
    match_map c.plans_from.result _ _ _ _ c.plans_from.ensures.read
    (λ plans h. read_accepted c.args.bytes.now c.args.ids.now (fields_of c.header-item.result) (map fields_of (take (length texts - 1) (drop 1 texts))) plans split (whole ∙ h.0) h.1)
    (λ f why. elim why [
      | inl memory ↦ inl memory
      | inr found ↦ inr (read_refused c.args.bytes.now c.args.ids.now f (whole ∙ found))
    ])

pub returns-clause-read : goal.returns-clause-read
returns-clause-read c =
    let is = ap (λ rs. map fields_of rs) c.as_slice-2.ensures.value ∙ c.in_ok-texts.ensures.0 ∙ c.in_ok-rows.ensures in
    inr (nothing_read c.args.bytes.now c.args.ids.now c.as_slice-2.result.now is c.in-empty.len_below)
