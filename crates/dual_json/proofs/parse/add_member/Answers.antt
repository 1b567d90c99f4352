use Rattle.std.proofs.Common.{◌≡◌, Bool, true, cond, sym, ap, ◌∙◌}
use Rattle.audit_model.proofs.Results.{ok_map}
use Rattle.serde_json.specs.Data.{put}
use Rattle.dual_json.specs.Kept.{is_wanted}
use Rattle.dual_json.specs.Values.{value_data, members_data}
use Rattle.dual_json.proofs.Parsing.{one_more_member}
use Rattle.dual_json.proofs.parse.add_member.Goals as goal

pub returns-then-has-clause-ok : goal.returns-then-has-clause-ok
returns-then-has-clause-ok c =
    let old = c.args.found.now.items in
    let k = c.args.key in
    let v = c.args.member in
    let wanted : is_wanted c.args.wanted k.now ≡ true = sym c.has.ensures ∙ c.if-has.true in
    ok_map c.push.result _ _ c.push.ensures.ok
    (λ x pushed. ap members_data pushed ∙ one_more_member old (k, v) ∙ ap (λ (b : Bool). cond b (put k.now (value_data v) (members_data old)) (members_data old)) (sym wanted))
