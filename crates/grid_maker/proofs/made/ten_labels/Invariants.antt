use Rattle.std.proofs.Common.{◌≡◌, pos}
use Rattle.audit_model.specs.declared.setting.Label.TheVariants.{Whole}
use Rattle.audit_model.specs.Below.{map_below}
use Rattle.grid_maker.proofs.made.ten_labels.Given as goal

abbrev pub invariant-loop-district : goal.invariant-loop-district
invariant-loop-district l = l.labels ≡ map_below l.district (λ d. Whole (pos d))
