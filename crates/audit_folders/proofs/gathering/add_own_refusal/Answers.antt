use Rattle.std.proofs.Common.{[], ap, cond, sym, ◌∙◌, Bool, List, ℕ}
use Rattle.audit_folders.specs.FolderLines.{own_texts, refusal}
use Rattle.audit_folders.proofs.Texts.{adds_as, adds_none}
use Rattle.report.proofs.Letting.{next_as}
use Rattle.audit_folders.proofs.gathering.add_own_refusal.Goals as goal

pub returns-then-is_start : goal.returns-then-is_start
returns-then-is_start g c =
    adds_as adds_none (ap (λ (b : Bool). cond {A = List ℕ} b [] (refusal (own_texts c.args.own.now))) (sym (sym c.is_start.ensures ∙ c.if-is_start.true)))

pub returns : goal.returns
returns g c =
    adds_as c.add_own_line.ensures (ap (λ (b : Bool). cond {A = List ℕ} b [] (refusal (own_texts c.args.own.now))) (sym (sym c.is_start.ensures ∙ c.if-is_start.false)))

pub add_own_line-requires : goal.add_own_line-requires
add_own_line-requires g c =
    next_as c.requires (ap (λ (b : Bool). cond {A = List ℕ} b [] (refusal (own_texts c.args.own.now))) (sym c.is_start.ensures ∙ c.if-is_start.false))
