use Rattle.std.proofs.Common.{◌∙◌, sym}
use Rattle.audit_laws.proofs.Running.{accepted_jobs_are_runs}
use Rattle.audit_run.proofs.Ending.{ends_for}
use Rattle.report.proofs.Letting.{lets_as}
use Rattle.audit_run.proofs.single.audit_single.Goals as goal

pub run_command-why-requires-clause-run : goal.run_command-why-requires-clause-run
run_command-why-requires-clause-run g c κs within = accepted_jobs_are_runs _ _ c.in-Ok.ensures.accepted.words_are c.in-Ok.ensures.sound

pub run_command-why-requires-clause-lets : goal.run_command-why-requires-clause-lets
run_command-why-requires-clause-lets g c κs within = c.requires.lets _ c.in-Ok.ensures.accepted

pub returns-in-Ok-clause-kept : goal.returns-in-Ok-clause-kept
returns-in-Ok-clause-kept g c =
    c.ended_calls_keep_their_promise.ensures _ _ _ _ _ _
    (ends_for _ _ _ _ _ _ _ (c.run_command-why.ensures.finishes _ _ _ c.in-Ok.ensures) c.write_diagnostic-status.ensures.status c.write_diagnostic-status.ensures.observed)

pub returns-in-Err-clause-kept : goal.returns-in-Err-clause-kept
returns-in-Err-clause-kept g c =
    c.ended_calls_keep_their_promise.ensures _ _ _ _ _ _
    (ends_for _ _ _ _ _ _ _ (c.in-Err.ensures _ _) c.write_diagnostic-status-in-Err.ensures.status c.write_diagnostic-status-in-Err.ensures.observed)

pub run_command-why-requires-clause-text : goal.run_command-why-requires-clause-text
run_command-why-requires-clause-text g c κs within = c.requires.text _ c.in-Ok.ensures.accepted

pub write_diagnostic-status-requires : goal.write_diagnostic-status-requires
write_diagnostic-status-requires g c =
    let ran = c.run_command-why.ensures.finishes _ _ _ c.in-Ok.ensures in
    lets_as (c.requires.note _ _ ran.cause ran.untouched) ran.line_is

pub write_diagnostic-status-requires-in-Err : goal.write_diagnostic-status-requires-in-Err
write_diagnostic-status-requires-in-Err g c =
    let ran = c.in-Err.ensures (g.K.Sink.state c.args.out.now) (g.C.Keeper.state c.args.keeper) in
    lets_as (c.requires.note _ _ ran.cause ran.untouched) ran.line_is

pub returns-in-Ok-clause-memory : goal.returns-in-Ok-clause-memory
returns-in-Ok-clause-memory g c = λ is. c.run_command-why.ensures.memory (sym c.write_diagnostic-status.ensures.status ∙ is)
