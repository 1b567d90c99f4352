use Rattle.audit_laws.proofs.Gathering.{gathered_runs_write_one_report}
use Rattle.audit_laws.proofs.laws.gathered_runs_write_one_report.Goals as goal

pub returns : goal.returns
returns c =
    gathered_runs_write_one_report c.consistent_slots_open_right.ensures c.right_outcomes_are_consistent.ensures c.consistent_slots_give_consistent_outcomes.ensures c.unions_are_right.ensures.consistent c.saves_leave_consistent_slots.ensures
    c.a_stop_in_a_save_leaves_consistent_slots.ensures
