-- Relations that permit everything permit what is due.
use Rattle.std.proofs.Common.{◌∷◌, [], ℕ, List, Option, Some, None}
use Rattle.audit_folders.specs.DueFolders.{LetsShowing, LetsShowingLine}
use Rattle.audit_folders.specs.GatherProgram.{LetsFound, LetsNoted, LetsSave, Moment}
use Rattle.audit_folders.specs.Helps.{LetsAnswer}
use Rattle.audit_folders.specs.Programs.{PermitsSaves, PermitsText}
use Rattle.audit_folders.specs.SlotsProgram.{LetsShown, LetsShownLine, Opens}
use Rattle.audit_folders.specs.declared.help.FolderProgram.{FolderProgram}
use Rattle.audit_model.specs.Job.{Job}
use Rattle.audit_model.specs.Pair.{Pair}
use Rattle.audit_model.specs.State.{Stream}
use Rattle.audit_statement.specs.Due.{Lets}
use Rattle.audit_statement.specs.DueText.{LetsBytes, LetsText}
use Rattle.audit_words.specs.declared.build.Build.{Build}
use Rattle.audit_words.specs.declared.question.Question.{Question}

pub any_text : (lets : LetsBytes) → PermitsText lets → (start : Stream) (text : List ℕ) → LetsText lets start text
any_text lets free start text = record { permits = λ now done next rest whole taken unfailed. free now next }

showing : (lets : LetsBytes) → PermitsText lets → (job : Option Job) (slots : Option Pair) (out : Stream) → LetsShowing lets job slots out
showing lets free job slots out = λ pair first second same zero one. any_text lets free _ _

showing_line : (lets : LetsBytes) → PermitsText lets → (note_before : Stream) → LetsShowingLine lets note_before
showing_line lets free note_before = record {
  memory = any_text lets free _ _;
  load = any_text lets free _ _;
  taken = any_text lets free _ _;
  write = any_text lets free _ _;
}

pub all_shown : (lets : LetsBytes) → PermitsText lets → (words : List (List ℕ)) (source : Stream) (slots : Option Pair) (out : Stream) → LetsShown lets words source slots out
all_shown lets free [] source slots out = showing lets free None slots out
all_shown lets free (word ∷ words) source slots out = λ after job made. showing lets free (Some job) slots out

pub all_shown_lines : (lets : LetsBytes) → PermitsText lets → (words : List (List ℕ)) (source note_before : Stream) → LetsShownLine lets words source note_before
all_shown_lines lets free [] source note_before = showing_line lets free note_before
all_shown_lines lets free (word ∷ words) source note_before = (showing_line lets free note_before, λ after why made. any_text lets free _ _)

pub all_answers : (lets : LetsBytes) → PermitsText lets → (program : FolderProgram) (build : Build) (question : Option Question) (out : Stream) → LetsAnswer lets program build question out
all_answers lets free program build None out = tt
all_answers lets free program build (Some question) out = any_text lets free _ _

pub all_saves : (lets : Lets) → PermitsSaves lets → (opens : Opens) (words : List (List ℕ)) (before : Moment) → LetsSave lets opens words before
all_saves lets free opens words before = λ looks asked saves after job made k folders_now place all attempted saving may sound. free k _ _

pub all_found : (lets : LetsBytes) → PermitsText lets → (opens : Opens) (words : List (List ℕ)) (before : Moment) → LetsFound lets opens words before
all_found lets free opens words before = λ looks asked after job made observed may shows. any_text lets free _ _

pub all_noted : (lets : LetsBytes) → PermitsText lets → (opens : Opens) (words : List (List ℕ)) (before : Moment) → LetsNoted lets opens words before
all_noted lets free opens words before = record {
  bad_look = λ bad. any_text lets free _ _;
  asked = λ looks asked. record {
    no_folder = λ lacks. any_text lets free _ _;
    named = λ has. record {
      no_job = λ after why made. any_text lets free _ _;
      gathered = λ after job made. record {
        unsaved = λ observed may refused. any_text lets free _ _;
        failed = λ why. any_text lets free _ _;
        write = any_text lets free _ _;
      };
    };
  };
}
