use Rattle.std.proofs.Common.{sym, subst}
use Rattle.ckpt_store.specs.declared.finding.Finding.{Finding}
use Rattle.ckpt_store.specs.declared.finding.Finding.TheVariants as finding
use Rattle.ckpt_store.specs.declared.folder_content.FolderContent.{FolderContent}
use Rattle.ckpt_store.specs.Findings.{Finds}
use Rattle.ckpt_store.specs.Gives.{given_view}
use Rattle.ckpt_store.proofs.Covering.{left_as}
use Rattle.ckpt_store.proofs.collection.Collection.add.Goals as goal

pub returns-in-Nothing-clause-finds : goal.returns-in-Nothing-clause-finds
returns-in-Nothing-clause-finds c =
    left_as (λ (f : Finding). Finds c.args.self.now (given_view c.args.given) c.args.beside f c.leave_out.new.self) _ finding.Nothing c.leave_out.result c.leave_out.ensures.left
    (λ same. subst (λ (g : FolderContent). Finds c.args.self.now (given_view g) c.args.beside finding.Nothing c.leave_out.new.self) (sym c.in-Nothing.is) same)

pub returns-in-OtherJob-clause-finds : goal.returns-in-OtherJob-clause-finds
returns-in-OtherJob-clause-finds c =
    left_as (λ (f : Finding). Finds c.args.self.now (given_view c.args.given) c.args.beside f c.leave_out-in-OtherJob.new.self) _ finding.OtherJob c.leave_out-in-OtherJob.result c.leave_out-in-OtherJob.ensures.left
    (λ same. subst (λ (g : FolderContent). Finds c.args.self.now (given_view g) c.args.beside finding.OtherJob c.leave_out-in-OtherJob.new.self) (sym c.in-OtherJob.is) same)

pub returns-in-Damaged-clause-finds : goal.returns-in-Damaged-clause-finds
returns-in-Damaged-clause-finds c =
    left_as (λ (f : Finding). Finds c.args.self.now (given_view c.args.given) c.args.beside f c.leave_out-in-Damaged.new.self) _ finding.Damaged c.leave_out-in-Damaged.result c.leave_out-in-Damaged.ensures.left
    (λ same. subst (λ (g : FolderContent). Finds c.args.self.now (given_view g) c.args.beside finding.Damaged c.leave_out-in-Damaged.new.self) (sym c.in-Damaged.is) same)
