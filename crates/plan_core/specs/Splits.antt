-- Regions that a plan splits among too many districts.
use Rattle.std.specs.Prelude.{ℕ, Bool, nat_lt, List, Option, option_map}
use Rattle.audit_model.specs.declared.fault.PlanFault.{PlanFault}
use Rattle.audit_model.specs.declared.fault.PlanFault.TheVariants.{TooManySplit}
use Rattle.audit_model.specs.Below.{above_all}
use Rattle.audit_model.specs.First.{first_below}
use Rattle.audit_model.specs.Meets.{split_of}

-- a region lies in more than `most` districts
abbrev pub is_split : List ℕ → List ℕ → ℕ → ℕ → Bool
is_split regions plan most region = nat_lt most (split_of regions plan region)

-- the fault of a region
abbrev pub split : List ℕ → List ℕ → ℕ → ℕ → PlanFault
split regions plan most region = TooManySplit region (split_of regions plan region) most

-- the fault of the least region that lies in too many districts
abbrev pub first_split : List ℕ → List ℕ → ℕ → Option PlanFault
first_split regions plan most = option_map (split regions plan most) (first_below (above_all regions) (is_split regions plan most))
