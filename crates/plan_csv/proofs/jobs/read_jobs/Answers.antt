use Rattle.std.proofs.Common.{◌≡◌, ◌⊎◌, Ok, Err, MatchResult, sym, subst, Result}
use Rattle.dual_graph.specs.Read.{parsed_of}
use Rattle.audit_model.specs.declared.fault.PlansFault.{PlansFault}
use Rattle.audit_model.specs.declared.fault.PlansFault.TheVariants as fault
use Rattle.plan_csv.specs.Named.{jobs_of}
use Rattle.audit_statement.specs.Jobs.{Jobs}
use Rattle.plan_csv.proofs.Reading.{graph_fails, jobs_are}
use Rattle.plan_csv.proofs.jobs.read_jobs.Goals as goal

pub returns-in-Err-clause-read : goal.returns-in-Err-clause-read
returns-in-Err-clause-read c =
    graph_fails c.args.setting.now c.args.bytes.now c.parts_of-parts.result.graph.now c.parts_of-parts.result.table.now c.parts_of-parts.ensures.graph c.parts_of-parts.ensures.table
    c.in-Err.fault c.in-Err.ensures.read c.of_graph.result c.of_graph.ensures

pub returns-in-Ok-clause-read : goal.returns-in-Ok-clause-read
returns-in-Ok-clause-read c =
    subst
    (λ (X : Result Jobs PlansFault). MatchResult c.jobs_read.result (λ named. X ≡ Ok (jobs_of named.items)) (λ f. (f ≡ fault.Memory) ⊎ (X ≡ Err f)))
    (sym (jobs_are c.args.setting.now c.args.bytes.now c.origin_of.result c.parts_of-parts.result.graph.now c.parts_of-parts.result.table.now (Ok (parsed_of c.in-Ok.parsed))
    c.origin_of.ensures c.parts_of-parts.ensures.graph c.parts_of-parts.ensures.table c.in-Ok.ensures.read))
    c.jobs_read.ensures.read
