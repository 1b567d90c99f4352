use Rattle.audit_laws.proofs.Reruns.{chains_write_one_report}
use Rattle.audit_laws.proofs.laws.chains_write_one_report.Goals as goal

pub returns : goal.returns
returns c = chains_write_one_report c.consistent_slots_open_right.ensures c.right_outcomes_are_consistent.ensures c.a_stop_in_a_save_leaves_consistent_slots.ensures c.saves_leave_consistent_slots.ensures
