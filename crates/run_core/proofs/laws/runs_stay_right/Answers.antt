use Rattle.audit_model.specs.Machine.{new_machine}
use Rattle.audit_model.proofs.Running.{events_keep, step_keeps}
use Rattle.run_core.proofs.Stepping.{start_is_run, fresh_is_run}
use Rattle.run_core.proofs.laws.runs_stay_right.Goals as goal

pub returns-clause-fresh : goal.returns-clause-fresh
returns-clause-fresh c total workers events = events_keep (new_machine total workers) events (fresh_is_run total workers)

pub returns-clause-resumed : goal.returns-clause-resumed
returns-clause-resumed c m events start_state = events_keep m events (start_is_run m start_state)

pub returns-clause-step : goal.returns-clause-step
returns-clause-step c = step_keeps

pub returns-clause-events : goal.returns-clause-events
returns-clause-events c = events_keep
