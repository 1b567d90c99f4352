use Rattle.std.proofs.Common.{◌≡◌, Bool, true, false, None, refl, sym, ap, ◌∙◌, inr, cond, option_map}
use Rattle.std.specs.Str.{is_utf8}
use Rattle.std.proofs.lemmas.Bool.{cond-true, cond-false}
use Rattle.std.proofs.lemmas.Str.{IsUtf8-from_is_utf8, is_utf8-from_IsUtf8}
use Rattle.serde_json.specs.Read.{read}
use Rattle.dual_json.specs.Kept.{is_wanted, keep}
use Rattle.dual_json.proofs.read.parse_wanted.Goals as goal

pub returns-in_default : goal.returns-in_default
returns-in_default c =
    inr (refl, by (is_utf8 c.args.bytes.now) refl)
  where
    by : (b : Bool) → is_utf8 c.args.bytes.now ≡ b → cond (is_utf8 c.args.bytes.now) (read c.args.bytes.now) None ≡ None
    by true e = absurd (c.in_default.ensures.cases.0 (IsUtf8-from_is_utf8 c.args.bytes.now e))
    by false e = cond-false (is_utf8 c.args.bytes.now) (read c.args.bytes.now) None e

pub returns-in-Ok-parse : goal.returns-in-Ok-parse
returns-in-Ok-parse c =
    ap (option_map (keep (is_wanted c.args.wanted))) (cond-true (is_utf8 c.args.bytes.now) (read c.args.bytes.now) None (is_utf8-from_IsUtf8 c.args.bytes.now c.in-Ok.ensures.cases.1)
    ∙ ap read (sym c.in-Ok.ensures.cases.0)) ∙ c.in-Ok-parse.ensures.ok
