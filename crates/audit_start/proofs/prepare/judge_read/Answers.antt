use Rattle.dual_graph.specs.Read.{parsed_of}
use Rattle.audit_start.proofs.Judging.{is_judged, judged_plan_end, judged_regions_end, within_limits}
use Rattle.audit_start.proofs.prepare.judge_read.Goals as goal

pub regions_of-requires : goal.regions_of-requires
regions_of-requires c = record { graph = record { columns = c.args.setting.columns; parsed = parsed_of c.args.parsed; accepted = c.requires.read } }

pub with_regions-requires : goal.with_regions-requires
with_regions-requires c =
    record {
      within = within_limits (parsed_of c.args.parsed) c.args.setting c.in-Ok.regions c.requires.within c.requires.setting
          (c.in-Ok.ensures.within c.args.setting.columns (parsed_of c.args.parsed) c.requires.read) c.requires.group c.requires.frozen;
    }

pub returns-in-Ok-with_regions : goal.returns-in-Ok-with_regions
returns-in-Ok-with_regions c =
    is_judged c.args.setting c.args.bytes.now _ c.in-Ok.regions _ _ c.requires.few c.requires.read c.in-Ok.ensures.read c.in-Ok-with_regions.ensures.job c.with_source.ensures.job c.with_source.ensures.sound

pub returns-in-Err-with_regions : goal.returns-in-Err-with_regions
returns-in-Err-with_regions c =
    rw c.plan_end.ensures (judged_plan_end c.args.setting c.args.bytes.now _ c.in-Ok.regions c.in-Err-with_regions.fault c.requires.few c.requires.read c.in-Ok.ensures.read c.in-Err-with_regions.ensures.job)

pub returns-in-Err : goal.returns-in-Err
returns-in-Err c = rw c.region_end.ensures (judged_regions_end c.args.setting c.args.bytes.now _ c.in-Err.fault c.requires.few c.requires.read c.in-Err.ensures.read)
