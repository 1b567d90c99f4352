use Rattle.audit_start.proofs.Judging.{judged_graph_end}
use Rattle.audit_start.proofs.prepare.judge.Goals as goal

pub returns-in-Err : goal.returns-in-Err
returns-in-Err c = rw c.graph_end.ensures (judged_graph_end c.args.setting c.args.bytes.now c.in-Err.fault c.requires.few c.in-Err.ensures.read)
