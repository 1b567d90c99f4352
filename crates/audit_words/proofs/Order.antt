-- The order of names in the table.
use Rattle.std.proofs.Common.{◌≡◌, ℕ, zero, suc, ◌<◌, Bool, true, false, not, List, [], ◌∷◌, length, get_or, ap, arith, refl, subst, inl, inr, None}
use Rattle.std.proofs.lemmas.Bool.{and_parts, both_ways, false≢true, not-true, or_cases}
use Rattle.std.specs.Prelude.{◌&&◌, ◌||◌}
use Rattle.audit_model.specs.declared.fault.Name.{Name}
use Rattle.audit_model.specs.declared.fault.Name.TheVariants.{Pop, Walks, Steps, Ends, Budget, Save, Stop, Serial, Parts, Part, Ids}
use Rattle.audit_model.specs.declared.setting.Command.{Command}
use Rattle.audit_model.specs.declared.setting.Command.TheVariants.{Check, Run, Make, Plans, Trace}
use Rattle.audit_statement.specs.Words.{NameAndValue, is_good, names_of}
use Rattle.audit_words.specs.Judged.{DependenciesAreValid, fault_of_pairs}
use Rattle.audit_words.proofs.Unnamed.{good_save, plans_miss, trace_misses}

-- no name of the second kind stands before one of the first
abbrev leads : (Name → Bool) → (Name → Bool) → List Name → Bool
leads first second [] = true
leads first second (name ∷ names) = not (second name) && (first name || leads first second names)

-- the first of two names stands before the second
leader : (first second : Name → Bool) (names : List Name) (k : ℕ) → leads first second names ≡ true → k < length names → second (get_or names k Pop) ≡ true
    → (j : ℕ) × (j < k) × (first (get_or names j Pop) ≡ true)
leader first second [] k h inside is = absurd (omega arith)
leader first second (name ∷ names) zero h inside is =
    let both = and_parts (not (second name)) (first name || leads first second names) h in
    absurd (both_ways (second name) (not-true (second name) both.0) is)
leader first second (name ∷ names) (suc k) h inside is =
    let both = and_parts (not (second name)) (first name || leads first second names) h in
    elim (or_cases (first name) (leads first second names) both.1) [
      | inl here ↦ (0, omega arith, here)
      | inr later ↦ let found = leader first second names k later (omega arith) is in (suc found.0, omega (arith, found.1), found.2)
    ]

-- the names that others depend on, and those others
abbrev is_walks : Name → Bool
is_walks Walks = true
is_walks _ = false

abbrev is_steps : Name → Bool
is_steps Steps = true
is_steps _ = false

abbrev is_ends : Name → Bool
is_ends Ends = true
is_ends _ = false

abbrev is_save : Name → Bool
is_save Save = true
is_save _ = false

abbrev on_walks : Name → Bool
on_walks Ends = true
on_walks Budget = true
on_walks Ids = true
on_walks _ = false

abbrev on_steps : Name → Bool
on_steps Serial = true
on_steps _ = false

abbrev on_ends : Name → Bool
on_ends Budget = true
on_ends Stop = true
on_ends Ids = true
on_ends _ = false

abbrev on_save : Name → Bool
on_save Stop = true
on_save Parts = true
on_save _ = false

abbrev is_parts : Name → Bool
is_parts Parts = true
is_parts _ = false

abbrev on_parts : Name → Bool
on_parts Part = true
on_parts _ = false

-- the name that tests as that of the parts is that of the parts
is_parts-Parts : (name : Name) → is_parts name ≡ true → name ≡ Parts
is_parts-Parts Parts h = refl
is_parts-Parts _ h = absurd (false≢true h)

-- the name that tests as that of the walks is that of the walks
is_walks-Walks : (name : Name) → is_walks name ≡ true → name ≡ Walks
is_walks-Walks Walks h = refl
is_walks-Walks _ h = absurd (false≢true h)

-- the name that tests as that of the steps is that of the steps
is_steps-Steps : (name : Name) → is_steps name ≡ true → name ≡ Steps
is_steps-Steps Steps h = refl
is_steps-Steps _ h = absurd (false≢true h)

-- the name that tests as that of the endpoints is that of the endpoints
is_ends-Ends : (name : Name) → is_ends name ≡ true → name ≡ Ends
is_ends-Ends Ends h = refl
is_ends-Ends _ h = absurd (false≢true h)

-- the name that tests as that of the saves is that of the saves
is_save-Save : (name : Name) → is_save name ≡ true → name ≡ Save
is_save-Save Save h = refl
is_save-Save _ h = absurd (false≢true h)

-- each name stands after those that it depends on
record IsOrdered (names : List Name) : Type 0 where
  walks : leads is_walks on_walks names ≡ true
  steps : leads is_steps on_steps names ≡ true
  ends : leads is_ends on_ends names ≡ true
  parts : leads is_parts on_parts names ≡ true

module _ (command : Command) (words : List NameAndValue) (names : List Name) (k : ℕ) (inside : k < length names) (below : (j : ℕ) → j < k → is_good command words (get_or names j Pop) ≡ true) (ordered : IsOrdered names) where
  good_leader : (first second : Name → Bool) (name : Name) → leads first second names ≡ true → ((n : Name) → first n ≡ true → n ≡ name) → second (get_or names k Pop) ≡ true → is_good command words name ≡ true
  good_leader first second name led one rests =
      let found = leader first second names k led inside rests in
      subst (λ n. is_good command words n ≡ true) (one (get_or names found.0 Pop) found.2) (below found.0 found.1)

  good_walks : on_walks (get_or names k Pop) ≡ true → is_good Check words Walks ≡ true
  good_walks rests = good_leader is_walks on_walks Walks ordered.walks is_walks-Walks rests

  good_steps : on_steps (get_or names k Pop) ≡ true → is_good Check words Steps ≡ true
  good_steps rests = good_leader is_steps on_steps Steps ordered.steps is_steps-Steps rests

  good_ends : on_ends (get_or names k Pop) ≡ true → is_good Check words Ends ≡ true
  good_ends rests = good_leader is_ends on_ends Ends ordered.ends is_ends-Ends rests

  good_parts : on_parts (get_or names k Pop) ≡ true → is_good Check words Parts ≡ true
  good_parts rests = good_leader is_parts on_parts Parts ordered.parts is_parts-Parts rests

  saved_before : leads is_save on_save names ≡ true → on_save (get_or names k Pop) ≡ true → is_good Check words Save ≡ true
  saved_before led rests = good_leader is_save on_save Save led is_save-Save rests

  rests : (on_save (get_or names k Pop) ≡ true → is_good Check words Save ≡ true) → (name : Name) → get_or names k Pop ≡ name → DependenciesAreValid words name
  rests saved Ends is = good_walks (ap on_walks is)
  rests saved Budget is = (good_walks (ap on_walks is), good_ends (ap on_ends is))
  rests saved Stop is = (good_ends (ap on_ends is), saved (ap on_save is))
  rests saved Serial is = good_steps (ap on_steps is)
  rests saved Parts is = saved (ap on_save is)
  rests saved Part is = good_parts (ap on_parts is)
  rests saved Ids is = (good_walks (ap on_walks is), good_ends (ap on_ends is))
  rests saved _ is = tt

-- in the names of each command, each stands after those that its value depends on
is_ordered : (command : Command) → IsOrdered (names_of command)
is_ordered Check = record { walks = refl; steps = refl; ends = refl; parts = refl }
is_ordered Run = record { walks = refl; steps = refl; ends = refl; parts = refl }
is_ordered Make = record { walks = refl; steps = refl; ends = refl; parts = refl }
is_ordered Plans = record { walks = refl; steps = refl; ends = refl; parts = refl }
is_ordered Trace = record { walks = refl; steps = refl; ends = refl; parts = refl }

-- a name that depends on the save interval stands after it, or the command has no save interval
saved_by : (command : Command) (words : List NameAndValue) (k : ℕ) → k < length (names_of command) → fault_of_pairs command words ≡ None
    → ((j : ℕ) → j < k → is_good command words (get_or (names_of command) j Pop) ≡ true) → on_save (get_or (names_of command) k Pop) ≡ true → is_good Check words Save ≡ true
saved_by Check words k inside faultless below on = saved_before Check words (names_of Check) k inside below (is_ordered Check) refl on
saved_by Run words k inside faultless below on = saved_before Run words (names_of Run) k inside below (is_ordered Run) refl on
saved_by Make words k inside faultless below on = saved_before Make words (names_of Make) k inside below (is_ordered Make) refl on
saved_by Plans words k inside faultless below on = good_save Plans words faultless (plans_miss words)
saved_by Trace words k inside faultless below on = good_save Trace words faultless (trace_misses words)

-- after valid values, a name depends on valid ones
pub DependenciesAreValid-behind : (command : Command) (words : List NameAndValue) (k : ℕ) → k < length (names_of command) → fault_of_pairs command words ≡ None
    → ((j : ℕ) → j < k → is_good command words (get_or (names_of command) j Pop) ≡ true) → DependenciesAreValid words (get_or (names_of command) k Pop)
DependenciesAreValid-behind command words k inside faultless below =
    rests command words (names_of command) k inside below (is_ordered command) (saved_by command words k inside faultless below) (get_or (names_of command) k Pop) refl
