use Rattle.dual_json.proofs.Started.{never_missing, place_is}
use Rattle.dual_json.proofs.districts.place_of.Goals as goal

pub unreachable-requires : goal.unreachable-requires
unreachable-requires c = never_missing c.args.names.now c.args.found.now c.args.node c.in-Err.field-0 _ c.requires.different c.requires.node c.in-Err.ensures.position

pub returns-clause-place : goal.returns-clause-place
returns-clause-place c = place_is c.args.names.now c.args.found.now c.args.node c.in-Ok.place _ c.requires.node c.in-Ok.ensures.bound (c.in-Ok.ensures.ok _)
