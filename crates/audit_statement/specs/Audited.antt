-- A plain run that ended with status 0. This project's claim, in the terms of its sources: the arguments, the JSON, the
-- visited plans and the written bytes.
use Rattle.std.specs.Prelude.{◌≡◌, ℕ, ◌++◌, Bool, IsTrue, List, ◌∷◌, Option, Some, codes}
use Rattle.std.specs.Str.{is_utf8}
use Rattle.serde_json.specs.Data.{Data}
use Rattle.serde_json.specs.Read.{read}
use Rattle.audit_model.specs.Job.{Job}
use Rattle.audit_statement.specs.Draw.{draw}
use Rattle.audit_statement.specs.Given.{IsGiven}
use Rattle.audit_statement.specs.Valid.{IsValid}
use Rattle.audit_statement.specs.Plain.{Decides, hub, plan_after, plain_report}
use Rattle.audit_statement.specs.PlainArguments.{ArePlain, SettingMatches}

-- The arguments give the job's setting, and the bytes are JSON that gives the job. The start plan is valid, and so is
-- each plan visited on any stream after any number of steps. `valid` is a test that passes exactly the valid plans. The
-- output is what it was before, followed by the plain report for this test and the bytes.
pub record IsAudited (words : List (List ℕ)) (bytes old : List ℕ) (out_after : Option (List ℕ)) : Type 0 where
  pub job : Job
  pub set : SettingMatches words job.setting
  pub root : Data
  pub is_text : IsTrue (is_utf8 bytes)
  pub is_json : read bytes ≡ Some root
  pub given : IsGiven root job
  pub start : IsValid job job.start
  pub valid : List ℕ → Bool
  pub decides : Decides job valid
  pub from_start : (stream i : ℕ) → IsValid job (plan_after job valid (draw job.setting.key stream) job.start i)
  pub from_hub : (stream i : ℕ) → IsValid job (plan_after job valid (draw job.setting.key stream) (hub job valid (draw job.setting.key)) i)
  pub written : out_after ≡ Some (old ++ plain_report job valid (draw job.setting.key) bytes)

-- a call with the word `run` and plain arguments, over an observable source and output, has done this if it ended with
-- status 0
abbrev pub AuditsPlainly : List (List ℕ) → Option (List ℕ) → Option (List ℕ) → Option (List ℕ) → ℕ → Type 0
AuditsPlainly words source out_before out_after status = (rest : List (List ℕ)) (bytes old : List ℕ) → words ≡ codes "run" ∷ rest → ArePlain rest
    → source ≡ Some bytes → out_before ≡ Some old → status ≡ 0 → IsAudited rest bytes old out_after
