use Rattle.audit_laws.proofs.Chained.{stays_consistent, attempted_rightly}
use Rattle.audit_laws.proofs.Following.{follows}
use Rattle.audit_laws.proofs.Visited.{visits_legal}
use Rattle.audit_laws.proofs.laws.ended_calls_keep_their_promise.Goals as goal

pub returns : goal.returns
returns c = λ words before after n m status ends.
    let all = follows words before after n m status ends in
    record {
      written = all.written;
      early = all.early;
      legal = visits_legal _ _;
      chain = stays_consistent c.consistent_slots_open_right.ensures c.right_outcomes_are_consistent.ensures words before after n m status ends all.written;
      attempted = attempted_rightly c.consistent_slots_open_right.ensures words before after n m status ends;
      ends = ends;
      causes = all.causes;
      complete = all.complete;
      left_alone = all.left_alone;
    }
