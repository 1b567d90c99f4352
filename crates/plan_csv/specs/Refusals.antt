-- Faults of lower layers. Every kind of out-of-memory becomes one variant.
use Rattle.std.specs.Prelude.{ℕ, List}
use Rattle.audit_model.specs.declared.fault.GraphFault.{GraphFault}
use Rattle.audit_model.specs.declared.fault.GraphFault.TheVariants as graph
use Rattle.audit_model.specs.declared.fault.PlanFault.{PlanFault}
use Rattle.audit_model.specs.declared.fault.PlanFault.TheVariants as plan
use Rattle.audit_model.specs.declared.fault.RegionFault.{RegionFault}
use Rattle.audit_model.specs.declared.fault.RegionFault.TheVariants as region
use Rattle.audit_model.specs.declared.fault.TableFault.{TableFault}
use Rattle.audit_model.specs.declared.fault.TableFault.TheVariants as table
use Rattle.audit_model.specs.declared.fault.PlansFault.{PlansFault}
use Rattle.audit_model.specs.declared.fault.PlansFault.TheVariants as fault

abbrev pub graph_end : GraphFault → PlansFault
graph_end graph.Memory = fault.Memory
graph_end f = fault.Graph f

abbrev pub region_end : RegionFault → PlansFault
region_end region.Memory = fault.Memory
region_end f = fault.Regions f

abbrev pub table_end : TableFault → PlansFault
table_end table.Memory = fault.Memory
table_end f = fault.Table f

abbrev pub plan_end : PlanFault → PlansFault
plan_end plan.Memory = fault.Memory
plan_end f = fault.Own f

abbrev pub named_end : List ℕ → PlanFault → PlansFault
named_end name plan.Memory = fault.Memory
named_end name f = fault.Other name f
