use Rattle.std.proofs.Common.{None, cond}
use Rattle.std.specs.Str.{is_utf8}
use Rattle.serde_json.specs.Read.{read}
use Rattle.audit_model.proofs.Results.{match_map}
use Rattle.dual_json.specs.Values.{value_data}
use Rattle.dual_json.proofs.Keeping.{all_kept}
use Rattle.dual_json.proofs.read.value_of.Goals as goal

pub returns : goal.returns
returns c =
    match_map c.parse_wanted.result _ _ _ _ c.parse_wanted.ensures
    (λ root h. all_kept (cond (is_utf8 c.args.bytes.now) (read c.args.bytes.now) None) (value_data root) h)
    (λ f h. h)
