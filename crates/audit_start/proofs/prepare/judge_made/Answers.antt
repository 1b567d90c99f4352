use Rattle.std.proofs.Common.{List, [], ℕ, ap}
use Rattle.audit_statement.specs.Grid.{grid}
use Rattle.dual_graph.specs.Read.{parsed_of}
use Rattle.audit_statement.specs.Regions.{regions_by}
use Rattle.grid_maker.proofs.Short.{short_grid}
use Rattle.audit_start.proofs.Judging.{is_judged, is_sourced, judged_plan_end, no_regions, within_limits}
use Rattle.audit_start.proofs.prepare.judge_made.Goals as goal

pub new-requires : goal.new-requires
new-requires c = record { within = within_limits (parsed_of c.args.parsed) c.args.setting [] c.requires.within c.requires.setting (no_regions c.args.parsed.graph.units) c.requires.group c.requires.frozen }

pub returns-in-Ok : goal.returns-in-Ok
returns-in-Ok c =
    let text = grid c.args.setting.size c.args.setting.key in
    is_judged c.args.setting text _ [] _ _ (short_grid c.args.setting.size c.requires.made.size.0 c.requires.made.size.1 c.args.setting.key) c.requires.read
    (ap (λ (column : List ℕ). regions_by column text) c.requires.made.region) c.in-Ok.ensures.job
    (is_sourced _ c.args.setting [] _ text c.requires.made.no_source c.in-Ok.ensures.job) c.in-Ok.ensures.sound

pub returns-in-Err : goal.returns-in-Err
returns-in-Err c =
    let text = grid c.args.setting.size c.args.setting.key in
    rw c.plan_end.ensures (judged_plan_end c.args.setting text _ [] c.in-Err.fault (short_grid c.args.setting.size c.requires.made.size.0 c.requires.made.size.1 c.args.setting.key) c.requires.read
    (ap (λ (column : List ℕ). regions_by column text) c.requires.made.region) c.in-Err.ensures.job)
