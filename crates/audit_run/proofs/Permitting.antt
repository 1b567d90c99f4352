-- Relations that permit everything permit what is due.
use Rattle.std.specs.Prelude.{ℕ, List}
use Rattle.audit_model.specs.State.{KeeperState, Stream}
use Rattle.audit_statement.specs.Due.{Lets, LetsDueSaves}
use Rattle.audit_statement.specs.DueText.{LetsBytes, LetsText}
use Rattle.audit_statement.specs.World.{World}
use Rattle.audit_words.specs.declared.build.Build.{Build}
use Rattle.audit_words.specs.DueAnswers.{LetsAnswerOrText, LetsAnyLine}

pub all_saves : (lets : Lets) → ((k : KeeperState) (slot : ℕ) (bytes : List ℕ) → lets k slot bytes) → (words : List (List ℕ)) (before : World) → LetsDueSaves lets words before
all_saves lets free words before = λ job accepted initial_outcomes place saving initial first k attempts t attempted due. free k t.slot t.bytes

pub any_text : (lets : LetsBytes) → ((s : Stream) (bytes : List ℕ) → lets s bytes) → (start : Stream) (text : List ℕ) → LetsText lets start text
any_text lets free start text = record { permits = λ now done next rest whole taken unfailed. free now next }

pub all_text : (lets : LetsBytes) → ((s : Stream) (bytes : List ℕ) → lets s bytes) → (build : Build) (words : List (List ℕ)) (before : World) → LetsAnswerOrText lets build words before
all_text lets free build words before = record {
  answers = λ question asked. any_text lets free _ _;
  audits = λ unasked. record {
    one = λ is job accepted. record {
      check = λ is. any_text lets free _ _;
      report = λ is outcomes initial whole. any_text lets free _ _;
      trace = λ is. any_text lets free _ _;
    };
    several = λ is setting bytes jobs input judged. any_text lets free _ _;
  };
}

pub all_lines : (lets : LetsBytes) → ((s : Stream) (bytes : List ℕ) → lets s bytes) → (words : List (List ℕ)) (before : World) (start : Stream) → LetsAnyLine lets words before start
all_lines lets free words before start = record {
  answers = λ question asked. any_text lets free _ _;
  audits = λ unasked. record {
    one = λ is after reason cause untouched. any_text lets free _ _;
    several = λ is keeper after reason cause left. any_text lets free _ _;
  };
}
