use Rattle.std.proofs.Common.{[], ap, cond, map, sym, ◌∙◌, Bool, List, ℕ}
use Rattle.std.specs.Prelude.{string_bytes}
use Rattle.audit_folders.specs.FolderLines.{folder_texts, refusal}
use Rattle.audit_folders.proofs.Texts.{adds_as, adds_none}
use Rattle.report.proofs.Letting.{next_as}
use Rattle.audit_folders.proofs.gathering.add_refusal.Goals as goal

pub returns-then-is_added : goal.returns-then-is_added
returns-then-is_added g c =
    adds_as adds_none
    (ap (λ (b : Bool). cond {A = List ℕ} b [] (refusal (folder_texts (map string_bytes c.args.names.now) c.args.name.now c.args.finding.now))) (sym (sym c.is_added.ensures ∙ c.if-is_added.true)))

pub returns : goal.returns
returns g c =
    adds_as c.add_folder_line.ensures
    (ap (λ (b : Bool). cond {A = List ℕ} b [] (refusal (folder_texts (map string_bytes c.args.names.now) c.args.name.now c.args.finding.now))) (sym (sym c.is_added.ensures ∙ c.if-is_added.false)))

pub add_folder_line-requires : goal.add_folder_line-requires
add_folder_line-requires g c =
    next_as c.requires
    (ap (λ (b : Bool). cond {A = List ℕ} b [] (refusal (folder_texts (map string_bytes c.args.names.now) c.args.name.now c.args.finding.now))) (sym c.is_added.ensures ∙ c.if-is_added.false))
