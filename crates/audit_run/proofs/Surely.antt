-- If no count of faults rises, a call that can end well does.
use Rattle.std.proofs.Common.{ℕ, List, arith}
use Rattle.audit_model.specs.Faults.{Rose}
use Rattle.audit_model.specs.State.{SureSlots, Stream}
use Rattle.audit_statement.specs.Sure.{EachEndsSurely, sure_world}
use Rattle.audit_words.specs.declared.build.Build.{Build}
use Rattle.audit_words.specs.Answers.{AnswersOrAudits}
use Rattle.audit_words.specs.Laws.{QuestionsWereRefused}
use Rattle.audit_run.proofs.Asked.{accepted_ask_nothing}

-- a count of 0 did not rise
never : Rose 0 0 → ⊥
never h = absurd (omega arith)

-- a call with I/O that never fails ends well if it can
pub surely : QuestionsWereRefused → (build : Build) (words : List (List ℕ)) (graph graph' : List ℕ) (keeper keeper' : SureSlots) (n m : Stream) (status : ℕ)
    → AnswersOrAudits build words (sure_world graph keeper) (sure_world graph' keeper') n m status → EachEndsSurely words (sure_world graph keeper) status
surely refused build words graph graph' keeper keeper' n m status kept = record {
  one = λ single may. ((kept.audits (accepted_ask_nothing refused words may.job.setting may.observed.words_are)).one single).complete (record {
    job = may.job;
    bytes = may.bytes;
    observed = may.observed;
    accepted = may.accepted;
    budget = may.budget;
    reads = never;
    writes = never;
    loads = never;
    saves = never;
  });
  several = λ many may. ((kept.audits (accepted_ask_nothing refused words may.setting may.the_jobs.observed.words_are)).several many).causes.complete may.setting may.jobs may.the_jobs never never;
}
