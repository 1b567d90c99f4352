use Rattle.std.proofs.Common.{◌≡◌, Ok, Err, sym, ap, ◌∙◌, inl, inr}
use Rattle.std.specs.Prelude.{◌⊎◌}
use Rattle.std.proofs.lemmas.Result.{err_from_is_err_and}
use Rattle.audit_model.specs.declared.fault.GraphFault.TheVariants.{Memory}
use Rattle.audit_model.proofs.Results.{match_map, err_at}
use Rattle.dual_json.specs.Values.{value_data}
use Rattle.audit_statement.specs.Reading.{Document, reading, of_root, accepted_or, parsed, refusal}
use Rattle.dual_json.specs.Shape.{document_of_parts}
use Rattle.dual_json.proofs.Bridge.{reading_none}
use Rattle.dual_json.proofs.Wanting.{reading_kept}
use Rattle.dual_json.proofs.read.read_beside.Goals as goal

pub returns-in_err-root-clause-read : goal.returns-in_err-root-clause-read
returns-in_err-root-clause-read c =
    let f = c.in_err-root.field-0.0 in
    let p = err_from_is_err_and c.from_residual.result c.from_residual.ensures.1 in
    let e : c.from_residual.result ≡ Err f = p.1 ∙ ap Err p.2 in
    let why : (f ≡ Memory) ⊎ (reading c.args.bytes.now c.args.cols.now ≡ Err f) = elim c.in_err-root.ensures [
      | inl m ↦ inl m
      | inr h ↦ inr (reading_none c.args.bytes.now c.args.cols.now h.1 ∙ ap Err (sym h.0))
    ] in
    err_at c.from_residual.result f _ _ e why

pub returns-in-Ok-clause-read : goal.returns-in-Ok-clause-read
returns-in-Ok-clause-read c =
    let columns = c.args.cols.now in
    let root = value_data c.in_ok-root.root in
    let d : Document = document_of_parts c.in-Ok.parts in
    let read = reading_kept columns c.args.bytes.now root c.in_ok-root.ensures ∙ ap (of_root columns root) c.in-Ok.ensures.0
    ∙ ap (λ (x : Document). accepted_or (parsed x columns) (refusal x columns)) c.in-Ok.ensures.1 in
    match_map c.read_parts-parsed.result _ _ _ _ c.read_parts-parsed.ensures.read
    (λ p h. read ∙ ap (accepted_or (parsed d columns)) h.0 ∙ ap Ok h.1)
    (λ f h. elim h [
      | inl m ↦ inl m
      | inr e ↦ inr (read ∙ ap (accepted_or (parsed d columns)) e)
    ])

pub returns-in-Err-clause-read : goal.returns-in-Err-clause-read
returns-in-Err-clause-read c =
    let columns = c.args.cols.now in
    let root = value_data c.in_ok-root.root in
    inr (reading_kept columns c.args.bytes.now root c.in_ok-root.ensures ∙ ap (of_root columns root) c.in-Err.ensures)
