use Rattle.std.proofs.Common.{Bool, map, refl, subst}
use Rattle.std.specs.Prelude.{string_bytes}
use Rattle.audit_folders.specs.DueFolders.{LetsFindings, LetsGatherLine}
use Rattle.audit_folders.specs.GatherProgram.{opened, start}
use Rattle.audit_folders.proofs.gather_command.gather_job.Goals as goal

pub gather_here-requires : goal.gather_here-requires
gather_here-requires g c κs =
    let names = map string_bytes c.args.names.now in
    let opens = g.F.Folders.opens c.args.folders.now in
    let kept = g.C.Keeper.state c.args.keeper.now in (
      (refl, tt),
      (
        c.requires.few,
        (
          c.requires.lets c.if-saves.true,
          (
            subst (λ (b : Bool). LetsFindings g.O.Sink.lets c.args.job.now b names (start b opens kept) (opened opens names b) (g.O.Sink.state c.args.out.now)) c.if-saves.true c.requires.text,
            subst (λ (b : Bool). LetsGatherLine g.N.Sink.lets c.args.job.now b names (start b opens kept) (opened opens names b) (g.N.Sink.state c.args.note.now)) c.if-saves.true c.requires.note,
          ),
        ),
      ),
    )

pub returns-then-saves : goal.returns-then-saves
returns-then-saves g c = λ source source_now. rw c.if-saves.true (c.gather_here.ensures source source_now)

pub returns : goal.returns
returns g c = λ source source_now. rw c.if-saves.false (c.look.ensures source source_now (g.C.Keeper.state c.args.keeper.now))
