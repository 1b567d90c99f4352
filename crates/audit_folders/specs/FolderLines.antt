-- The lines about a gathering.
-- Source: this project's formats. A line is a list of texts, put together. Names are those of the folders, in the order
-- of the arguments. The number of a folder is 0 for the working folder, and counts from 1 for the others.
use Rattle.std.specs.Prelude.{ℕ, zero, suc, Bool, true, false, List, [], ◌∷◌, ◌++◌, cond, codes, decimal, get_or}
use Rattle.audit_statement.specs.Note.{as_line}
use Rattle.ckpt_store.specs.Findings.{is_added, is_start}
use Rattle.ckpt_store.specs.declared.finding.Finding.{Finding}
use Rattle.ckpt_store.specs.declared.finding.Finding.TheVariants as finding
use Rattle.ckpt_store.specs.declared.gather_result.GatherResult.{GatherResult}

-- the text after the number of outcomes
abbrev pub beside_text : Bool → List ℕ
beside_text true = codes ", one slot is damaged"
beside_text false = []

-- the name of the folder with a number
abbrev pub name_of : List (List ℕ) → ℕ → List ℕ
name_of names zero = codes "."
name_of names (suc place) = get_or names place []

-- the line of the working folder. It comes first, so no earlier folder can differ from it. If it cannot be read, the
-- gathering has no findings.
abbrev pub own_texts : Finding → List (List ℕ)
own_texts (finding.Added count new beside) = codes "working folder: " ∷ decimal count ∷ codes " outcomes" ∷ beside_text beside ∷ []
own_texts finding.Nothing = codes "working folder: no checkpoint" ∷ []
own_texts finding.OtherJob = codes "working folder: another job's checkpoint" ∷ []
own_texts finding.Damaged = codes "working folder: no slot is intact" ∷ []
own_texts (finding.Differs id other) = codes "working folder: an outcome differs" ∷ []
own_texts finding.Unread = codes "working folder: a slot cannot be read" ∷ []
own_texts finding.Taken = codes "working folder: a run holds it" ∷ []

-- the line of a folder with this name
abbrev pub folder_texts : List (List ℕ) → List ℕ → Finding → List (List ℕ)
folder_texts names name (finding.Added count new beside) =
    codes "folder " ∷ name ∷ codes ": " ∷ decimal count ∷ codes " outcomes, " ∷ decimal new ∷ codes " new" ∷ beside_text beside ∷ []
folder_texts names name finding.Nothing = codes "folder " ∷ name ∷ codes ": no checkpoint" ∷ []
folder_texts names name finding.OtherJob = codes "folder " ∷ name ∷ codes ": another job's checkpoint" ∷ []
folder_texts names name finding.Damaged = codes "folder " ∷ name ∷ codes ": no slot is intact" ∷ []
folder_texts names name (finding.Differs id other) = codes "outcome " ∷ decimal id ∷ codes " differs in " ∷ name_of names other ∷ codes " and " ∷ name ∷ []
folder_texts names name finding.Unread = codes "folder " ∷ name ∷ codes ": a slot cannot be read" ∷ []
folder_texts names name finding.Taken = codes "folder " ∷ name ∷ codes ": a run holds it" ∷ []

-- the text for each folder, by its name and its finding
abbrev pub of_each : (List ℕ → Finding → List ℕ) → List (List ℕ) → List Finding → List ℕ
of_each say (name ∷ names) (what ∷ findings) = say name what ++ of_each say names findings
of_each say names findings = []

-- a line for each folder
abbrev pub folder_line : List (List ℕ) → List ℕ → Finding → List ℕ
folder_line names name what = as_line (folder_texts names name what)

-- the number of outcomes out of all
abbrev pub done_line : ℕ → ℕ → List ℕ
done_line done total = as_line (codes "done: " ∷ decimal done ∷ codes " of " ∷ decimal total ∷ [])

-- the whole report of a gathering on folders with these names
abbrev pub observed_text : List (List ℕ) → GatherResult → ℕ → List ℕ
observed_text names observed total = (as_line (own_texts observed.own) ++ of_each (folder_line names) names observed.folders) ++ done_line observed.done total

-- a line with a reason why nothing was saved
abbrev pub refusal : List (List ℕ) → List ℕ
refusal texts = as_line (codes "gather: " ∷ texts)

-- the line of the working folder, if it cannot be gathered into
abbrev pub own_refusal : Finding → List ℕ
own_refusal own = cond (is_start own) [] (refusal (own_texts own))

-- the line of a folder, if it cannot be gathered
abbrev pub folder_refusal : List (List ℕ) → List ℕ → Finding → List ℕ
folder_refusal names name what = cond (is_added what) [] (refusal (folder_texts names name what))

-- the reasons why nothing was saved
abbrev pub refusals : List (List ℕ) → GatherResult → List ℕ
refusals names observed = own_refusal observed.own ++ of_each (folder_refusal names) names observed.folders
