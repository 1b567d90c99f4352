use Rattle.std.proofs.Common.{refl}
use Rattle.audit_folders.proofs.gather_command.gather_named.Goals as goal

pub gather_job-gathered-requires : goal.gather_job-gathered-requires
gather_job-gathered-requires g c κs =
    let now = g.S.Source.state c.read_job.new.source in
    let job = c.in-Ok.job in
    let made = c.in-Ok.ensures in
    ((refl, tt), (c.bound_trajectories.ensures, ((λ saving. c.requires.lets saving now job made), (c.requires.text now job made, c.requires.note.gathered now job made))))
