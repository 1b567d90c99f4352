use Rattle.dual_graph.specs.Read.{parsed_of}
use Rattle.plan_csv.proofs.jobs.jobs_read.Goals as goal

pub jobs_from-requires-clause-regions : goal.jobs_from-requires-clause-regions
jobs_from-requires-clause-regions c = c.in-Ok.ensures.within c.args.setting.now.columns (parsed_of c.args.parsed) c.requires.read
