-- The plausibility of the outcomes in a folder.
use Rattle.std.specs.Prelude.{⊤}
use Rattle.audit_model.specs.Job.{Job}
use Rattle.ckpt_store.specs.Fitting.{AreFit}
use Rattle.ckpt_store.specs.declared.folder_content.FolderContent.{FolderContent}
use Rattle.ckpt_store.specs.declared.folder_content.FolderContent.TheVariants as given

-- the outcomes in a folder are plausible for the job and have rising ids
abbrev pub IsFitGiven : Job → FolderContent → Type 0
IsFitGiven job (given.Outcomes l) = AreFit job l.items
IsFitGiven job given.Nothing = ⊤
IsFitGiven job given.OtherJob = ⊤
IsFitGiven job given.Damaged = ⊤
