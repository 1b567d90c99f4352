use Rattle.std.proofs.Common.{◌∙◌, ℕ, List, ap}
use Rattle.audit_io.specs.Keepers.{within}
use Rattle.audit_io.proofs.Keeping.{read_path}
use Rattle.audit_io.proofs.folder_keeper.read_slot.Goals as goal

pub returns-in-Ok-clause-done : goal.returns-in-Ok-clause-done
returns-in-Ok-clause-done g c =
    read_path _ _ _ _ _ _ _ _ _ _ c.open_plain.ensures c.load_opened.ensures.done
    (c.as_str.ensures ∙ c.in-Ok.ensures ∙ ap (λ (n : List ℕ). within c.args.place.folder.now n) c.name_of.ensures)
