-- The heads of a report, of a trace and of a check, joined from the lines that they share.
use Rattle.std.proofs.Common.{◌≡◌, ℕ, List, [], ◌∷◌, ◌++◌, codes, flat_map, append_assoc}
use Rattle.audit_model.specs.Job.{Job}
use Rattle.audit_model.specs.Stopping.{placed_asks}
use Rattle.audit_statement.specs.Report.{check_text, graph_line, line, origin_lines, population_line, rule_lines, setting_line, stop_line, title_by, weight_line}
use Rattle.audit_statement.specs.Trace.{ask_line, trace_head}
use Rattle.report.specs.Parts.{head, job_lines, key_line, plan_lines}

joined : (t o k g p r w s e : List ℕ) → (t ++ (((o ++ k) ++ (((g ++ p) ++ r) ++ w)) ++ s)) ++ e ≡ (((((((t ++ o) ++ k) ++ g) ++ p) ++ r) ++ w) ++ s) ++ e
joined t o k g p r w s e = simp append_assoc

-- the lines before the results
pub report_head : (job : Job) → (title_by job.setting.blind job.setting.shift ++ job_lines job) ++ stop_line job.setting.stop ≡ head job
report_head job =
    joined (title_by job.setting.blind job.setting.shift) (origin_lines job job.origin) (key_line job) (graph_line job) (population_line job) (rule_lines job) (weight_line job) (setting_line job)
    (stop_line job.setting.stop)

-- the lines before the first trajectory
pub trace_head_is : (job : Job) → (line (codes "district-trace 1" ∷ []) ++ job_lines job) ++ flat_map (ask_line job) (placed_asks job) ≡ trace_head job
trace_head_is job =
    joined (line (codes "district-trace 1" ∷ [])) (origin_lines job job.origin) (key_line job) (graph_line job) (population_line job) (rule_lines job) (weight_line job) (setting_line job)
    (flat_map (ask_line job) (placed_asks job))

checked : (t o g p r w e : List ℕ) → ((t ++ o) ++ (((g ++ p) ++ r) ++ w)) ++ e ≡ (((((t ++ o) ++ g) ++ p) ++ r) ++ w) ++ e
checked t o g p r w e = simp append_assoc

-- the text of a check
pub check_text_is : (job : Job) → ((line (codes "plan-check 1" ∷ []) ++ origin_lines job job.origin) ++ plan_lines job) ++ line (codes "end" ∷ []) ≡ check_text job
unfolding check_text
check_text_is job = checked (line (codes "plan-check 1" ∷ [])) (origin_lines job job.origin) (graph_line job) (population_line job) (rule_lines job) (weight_line job) (line (codes "end" ∷ []))
