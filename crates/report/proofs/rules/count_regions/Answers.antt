use Rattle.std.proofs.Common.{false, ◌∙◌}
use Rattle.std.specs.List.{slice_index_or}
use Rattle.audit_model.specs.Graph.{has}
use Rattle.audit_model.proofs.Below.{count_below_same}
use Rattle.report.proofs.Regions.{regions_counted}
use Rattle.report.proofs.rules.count_regions.Goals as goal

pub returns : goal.returns
returns c =
    c.count_marked.ensures
    ∙ count_below_same 5000 (λ r. slice_index_or c.used_regions.result r false) (has c.args.regions.now) c.used_regions.ensures
    ∙ regions_counted c.args.regions.now c.requires
