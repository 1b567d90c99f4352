-- The settings of accepted arguments.
use Rattle.std.proofs.Common.{◌≡◌, ℕ, zero, suc, ◌+◌, ◌≤◌, ◌&&◌, ◌||◌, not, Bool, true, false, cond, List, [], ◌∷◌, Option, Some, None, Ok, refl, sym, subst, ap, ◌∙◌, arith}
use Rattle.std.specs.Prelude.{◌==◌, bytes_eq, codes, ⊤, find, nat_le, slice_get, unwrap_or, option_map}
use Rattle.std.specs.List.{list_any}
use Rattle.std.proofs.lemmas.Bool.{and_parts, eqb-true, leb-true, ne_eqb, not-false, not-true}
use Rattle.audit_model.specs.declared.fault.Name.{Name}
use Rattle.audit_model.specs.declared.fault.Name.TheVariants.{Walks, Steps, Ends, Budget, Save, Resume, Stop, Serial}
use Rattle.audit_model.specs.declared.fault.WordFault.{WordFault}
use Rattle.audit_model.specs.declared.fault.WordFault.TheVariants.{BadValue}
use Rattle.audit_model.specs.declared.setting.Command.{Command}
use Rattle.audit_model.specs.declared.setting.Command.TheVariants.{Check, Run, Make, Plans, Trace}
use Rattle.audit_model.specs.declared.setting.Setting.{Setting}
use Rattle.audit_model.specs.Power.{is_power_of_two}
use Rattle.audit_model.proofs.Options.{option_or_none, option_map_none}
use Rattle.audit_statement.specs.Words.{NameAndValue, pairs, text_of, number_of, number_named, is_number, as_run, covers_walks, divides_draws, stops_alone, is_good, is_yes, is_yes_or_no, names_of, command_of, of_command, fault_of, setting_for, setting_or, setting_of}
use Rattle.std.specs.Fmt.{digits}
use Rattle.audit_words.specs.Judged.{fault_of_pairs}
use Rattle.audit_words.proofs.Unnamed.{good_budget, good_save, plans_miss, serial_is, stop_is, trace_misses_tests}
use Rattle.audit_statement.specs.Endings.{is_walking}
use Rattle.audit_laws.specs.Runs.{StopsAlone}

-- ---- the command

-- the arguments of the command are defined
abbrev pub IsBuilt : Command → Type 0
IsBuilt Check = ⊤
IsBuilt Run = ⊤
IsBuilt Make = ⊤
IsBuilt Plans = ⊤
IsBuilt Trace = ⊤

-- accepted arguments are a command and pairs without a fault, and the setting is made of them
pub record IsSpoken (setting : Setting) : Type 0 where
  pub command : Command
  pub built : IsBuilt command
  pub words : List NameAndValue
  pub faultless : fault_of command words ≡ None
  pub same : setting_for command words ≡ setting

-- arguments that give a setting give one of an accepted form
spoken_or : (command : Command) (words : List NameAndValue) (fault : Option WordFault) (setting : Setting) → IsBuilt command
    → fault_of command words ≡ fault → setting_or command words fault ≡ Ok setting → IsSpoken setting
spoken_or command words None setting built faultless e = record { command = command; built = built; words = words; faultless = faultless; same = cc }
spoken_or command words (Some f) setting built faultless e = cc

abbrev pub IsBuiltCommand : Option Command → Type 0
IsBuiltCommand None = ⊤
IsBuiltCommand (Some command) = IsBuilt command

-- each command that a word spells is defined
spelled_is_built : (word : List ℕ) → IsBuiltCommand (command_of word)
spelled_is_built word =
    by (bytes_eq word (codes "check")) (bytes_eq word (codes "run")) (bytes_eq word (codes "make")) (bytes_eq word (codes "plans")) (bytes_eq word (codes "trace"))
  where
    by : (check run make plans trace : Bool)
        → IsBuiltCommand (cond check (Some Check) (cond run (Some Run) (cond make (Some Make) (cond plans (Some Plans) (cond trace (Some Trace) None)))))
    by true run make plans trace = tt
    by false true make plans trace = tt
    by false false true plans trace = tt
    by false false false true trace = tt
    by false false false false true = tt
    by false false false false false = tt

-- arguments of a command that give a setting give one of an accepted form
spoken_by : (word : List ℕ) (words : List NameAndValue) (command : Option Command) (setting : Setting) → IsBuiltCommand command → of_command word words command ≡ Ok setting → IsSpoken setting
spoken_by word words (Some command) setting built e = spoken_or command words (fault_of command words) setting built refl e
spoken_by word words None setting built e = cc

-- accepted arguments give a setting of an accepted form
pub accepted_words : (words : List (List ℕ)) (setting : Setting) → setting_of words ≡ Ok setting → IsSpoken setting
unfolding setting_of
accepted_words [] setting e = cc
accepted_words (word ∷ rest) setting e = spoken_by word (pairs rest) (command_of word) setting (spelled_is_built word) e

-- ---- the values

-- if a search finds nothing, no element passes the test
find_none : {A : Type 0} (test : A → Bool) (xs : List A) (k : ℕ) (x : A) → find test xs ≡ None → slice_get xs k ≡ Some x → test x ≡ false
find_none test [] k x none at = cc
find_none test (y ∷ ys) zero x none at = subst (λ (z : _). test z ≡ false) (same at) (first (test y) none)
  where
    same : Some y ≡ Some x → y ≡ x
    same e = cc

    first : (b : Bool) → cond b (Some y) (find test ys) ≡ None → b ≡ false
    first true e = cc
    first false e = refl
find_none test (y ∷ ys) (suc k) x none at = find_none test ys k x (rest (test y) none) at
  where
    rest : (b : Bool) → cond b (Some y) (find test ys) ≡ None → find test ys ≡ None
    rest true e = cc
    rest false e = e

module _ (command : Command) (words : List NameAndValue) where
  -- the value of each name of the command is valid
  pub good : (k : ℕ) (name : Name) → fault_of command words ≡ None → slice_get (names_of command) k ≡ Some name → is_good command words name ≡ true
  good k name faultless at =
      let first = option_or_none _ _ faultless in
      let second = option_or_none _ _ first.1 in
      let third = option_or_none _ _ second.1 in
      let none = option_map_none BadValue (find (λ name. not (is_good command words name)) (names_of command)) third.0 in
      not-false (is_good command words name) (find_none (λ name. not (is_good command words name)) (names_of command) k name none at)

  zero_number : (o : Option ℕ) → unwrap_or (option_map (λ n. nat_le 0 n && nat_le n 100000) o) false ≡ true → unwrap_or o 0 ≡ 0
      → unwrap_or (option_map (λ n. nat_le 0 n && nat_le n 0) o) false ≡ true
  zero_number None good none = cc
  zero_number (Some n) good none = ap (λ m. nat_le 0 m && nat_le m 0) none

  covered : (saves covers : Bool) → (not saves || covers) ≡ true → saves ≡ true → covers ≡ true
  covered true covers h e = h
  covered false covers h e = cc

  -- if nothing is saved, a valid budget covers all trajectories
  covers_all : is_good command words Budget ≡ true → is_good command words Save ≡ true → number_named command words Save ≡ 0
      → number_named command words Walks + number_named command words Ends ≤ number_named command words Budget
  covers_all budget save none =
      let covers = (and_parts (is_number 0 100000 (text_of command words Budget)) (covers_walks command words) budget).1 in
      leb-true _ _ (covered (is_number 0 0 (text_of command words Save)) _ covers (zero_number (number_of (text_of command words Save)) save none))

-- if nothing is saved, the budget of the setting covers all trajectories
covers_by : (command : Command) (words : List NameAndValue) (setting : Setting) → IsBuilt command → fault_of command words ≡ None → setting_for command words ≡ setting
    → is_walking setting.command ≡ true → setting.save_every ≡ 0 → setting.walks + setting.ends ≤ setting.budget
covers_by Check words setting built faultless same walking none =
    let check : false ≡ is_walking setting.command = ap (λ (s : Setting). is_walking s.command) same in cc
covers_by Trace words setting built faultless same walking none =
    let trace : false ≡ is_walking setting.command = ap (λ (s : Setting). is_walking s.command) same in cc
covers_by Run words setting built faultless same walking none =
    subst (λ (s : Setting). s.walks + s.ends ≤ s.budget) same
    (covers_all Run words (good Run words 12 Budget faultless refl) (good Run words 13 Save faultless refl) (ap (λ (s : Setting). s.save_every) same ∙ none))
covers_by Plans words setting built faultless same walking none =
    let pairs = (option_or_none _ _ faultless).0 in
    subst (λ (s : Setting). s.walks + s.ends ≤ s.budget) same
    (covers_all Plans words (good_budget Plans words pairs (plans_miss words) (good Plans words 8 Ends faultless refl)) (good_save Plans words pairs (plans_miss words)) (ap (λ (s : Setting). s.save_every) same ∙ none))
covers_by Make words setting built faultless same walking none =
    subst (λ (s : Setting). s.walks + s.ends ≤ s.budget) same
    (covers_all Make words (good Make words 9 Budget faultless refl) (good Make words 10 Save faultless refl) (ap (λ (s : Setting). s.save_every) same ∙ none))

-- a run that saves nothing has a budget for every trajectory
pub accepted_words_cover : (words : List (List ℕ)) (setting : Setting) → setting_of words ≡ Ok setting → is_walking setting.command ≡ true
    → setting.save_every ≡ 0 → setting.walks + setting.ends ≤ setting.budget
accepted_words_cover words setting e walking none =
    let s = accepted_words words setting e in covers_by s.command s.words setting s.built s.faultless s.same walking none

-- ---- the run of the serial test

abbrev is_serial : Name → Bool
is_serial Serial = true
is_serial _ = false

-- a name that tests as that of the serial test is that name
is_serial-Serial : (name : Name) → is_serial name ≡ true → name ≡ Serial
is_serial-Serial Serial e = refl
is_serial-Serial _ e = cc

abbrev is_stop : Name → Bool
is_stop Stop = true
is_stop _ = false

-- a name that tests as that of early stopping is that name
is_stop-Stop : (name : Name) → is_stop name ≡ true → name ≡ Stop
is_stop-Stop Stop e = refl
is_stop-Stop _ e = cc

-- if no name fails, the first does not
first_passes : (fails : Bool) (name : Name) (rest : Option Name) → cond fails (Some name) rest ≡ None → fails ≡ false
first_passes true name rest e = cc
first_passes false name rest e = refl

-- if no name fails, none of the later ones does
none_after : (fails : Bool) (name : Name) (rest : Option Name) → cond fails (Some name) rest ≡ None → rest ≡ None
none_after true name rest e = cc
none_after false name rest e = e

-- a name among those without a failure passes
passes_among : (is : Name → Bool) (wanted : Name) → ((name : Name) → is name ≡ true → name ≡ wanted) → (good : Name → Bool) (names : List Name)
    → find (λ name. not (good name)) names ≡ None → list_any is names ≡ true → good wanted ≡ true
passes_among is wanted one good [] none some = cc
passes_among is wanted one good (name ∷ names) none some =
    by (is name) refl (passes_among is wanted one good names (none_after (not (good name)) name (find (λ name. not (good name)) names) none))
  where
    by : (b : Bool) → is name ≡ b → (list_any is names ≡ true → good wanted ≡ true) → good wanted ≡ true
    by true same rest =
        subst (λ (n : Name). good n ≡ true) (one name same)
        (not-false (good name) (first_passes (not (good name)) name (find (λ name. not (good name)) names) none))
    by false other rest = rest (subst (λ (b : Bool). (b || list_any is names) ≡ true) other some)

-- a required power of two is one
asked_power : (asked power : Bool) → (not asked || power) ≡ true → asked ≡ true → power ≡ true
asked_power true power h e = h
asked_power false power h e = cc

module _ (command : Command) (words : List NameAndValue) (faultless : fault_of command words ≡ None) where
  good_name : (is : Name → Bool) (wanted : Name) → ((name : Name) → is name ≡ true → name ≡ wanted) → list_any is (names_of command) ≡ true → is_good command words wanted ≡ true
  good_name is wanted one has =
      let first = option_or_none _ _ faultless in
      let second = option_or_none _ _ first.1 in
      let third = option_or_none _ _ second.1 in
      passes_among is wanted one (is_good command words) (names_of command) (option_map_none BadValue (find (λ name. not (is_good command words name)) (names_of command)) third.0) has

  good_serial : list_any is_serial (names_of command) ≡ true → is_good command words Serial ≡ true
  good_serial has = good_name is_serial Serial is_serial-Serial has

  good_stop : list_any is_stop (names_of command) ≡ true → is_good command words Stop ≡ true
  good_stop has = good_name is_stop Stop is_stop-Stop has

  even_words : list_any is_serial (names_of command) ≡ true → is_yes command words Serial ≡ true → is_power_of_two (number_named command words Steps + 1) ≡ true
  even_words has asked =
      let divides = (and_parts (is_yes_or_no command words Serial) (divides_draws command words) (good_serial has)).1 in
      asked_power (is_yes command words Serial) (is_power_of_two (number_named command words Steps + 1)) divides asked

-- a setting with the serial test has a power of two of plans
even_by : (command : Command) (words : List NameAndValue) (setting : Setting) → IsBuilt command → fault_of command words ≡ None → setting_for command words ≡ setting
    → setting.serial ≡ true → is_power_of_two (setting.steps + 1) ≡ true
even_by Check words setting built faultless same asked =
    let check : false ≡ setting.serial = ap (λ (s : Setting). s.serial) same in cc
even_by Trace words setting built faultless same asked =
    let none : bytes_eq (text_of Check words Serial) (codes "yes") ≡ false =
    ap (λ (t : List ℕ). bytes_eq t (codes "yes")) (serial_is Trace words (option_or_none _ _ faultless).0 (trace_misses_tests words)) in
    let asks : bytes_eq (text_of Check words Serial) (codes "yes") ≡ setting.serial = ap (λ (s : Setting). s.serial) same in cc
even_by Plans words setting built faultless same asked =
    subst (λ (s : Setting). is_power_of_two (s.steps + 1) ≡ true) same (even_words Plans words faultless refl (ap (λ (s : Setting). s.serial) same ∙ asked))
even_by Run words setting built faultless same asked =
    subst (λ (s : Setting). is_power_of_two (s.steps + 1) ≡ true) same (even_words Run words faultless refl (ap (λ (s : Setting). s.serial) same ∙ asked))
even_by Make words setting built faultless same asked =
    subst (λ (s : Setting). is_power_of_two (s.steps + 1) ≡ true) same (even_words Make words faultless refl (ap (λ (s : Setting). s.serial) same ∙ asked))

-- a run with the serial test visits a power of two of plans in it
pub accepted_words_are_even : (words : List (List ℕ)) (setting : Setting) → setting_of words ≡ Ok setting → setting.serial ≡ true → is_power_of_two (setting.steps + 1) ≡ true
accepted_words_are_even words setting e asked = let s = accepted_words words setting e in even_by s.command s.words setting s.built s.faultless s.same asked

-- ---- tests that stop early

-- if a number is requested, the rest of the condition holds
asked_alone : (n : ℕ) (alone : Bool) → ((n == 0) || alone) ≡ true → 1 ≤ n → alone ≡ true
asked_alone zero alone h some = absurd (omega (arith, some))
asked_alone (suc n) alone h some = subst (λ (b : Bool). (b || alone) ≡ true) (ne_eqb (suc n) 0 (λ e. absurd (omega (arith, e)))) h

-- valid arguments with early stopping give a setting that runs alone
alone_words : (command : Command) (words : List NameAndValue) → is_walking command ≡ true → is_good command words Stop ≡ true → 1 ≤ number_named command words Stop → StopsAlone (as_run command words)
alone_words command words walking good some =
    let ends = nat_le 1 (number_named command words Ends) in
    let saves = number_named command words Save == 0 in
    let alone = asked_alone (number_named command words Stop) (ends && saves && not (is_yes command words Resume))
    (and_parts (is_number 0 100000 (text_of command words Stop)) (stops_alone command words) good).1 some in
    let both = and_parts (ends && saves) (not (is_yes command words Resume)) alone in
    let first = and_parts ends saves both.0 in
    record {
      walking = walking;
      some_ends = leb-true 1 (number_named command words Ends) first.0;
      no_saves = eqb-true (number_named command words Save) 0 first.1;
      fresh = not-true (is_yes command words Resume) both.1;
    }

-- no test of a trace stops early
no_stop : (words : List NameAndValue) → fault_of_pairs Trace words ≡ None → unwrap_or (number_of (text_of Check words Stop)) 0 ≡ 0
unfolding digits
no_stop words faultless = ap (λ (t : List ℕ). unwrap_or (number_of t) 0) (stop_is Trace words faultless (trace_misses_tests words))

-- accepted arguments with early stopping give a setting that runs alone
alone_by : (command : Command) (words : List NameAndValue) (setting : Setting) → IsBuilt command → fault_of command words ≡ None → setting_for command words ≡ setting
    → 1 ≤ setting.stop → StopsAlone setting
alone_by Check words setting built faultless same some =
    let none : 0 ≡ setting.stop = ap (λ (s : Setting). s.stop) same in absurd (omega (arith, none, some))
alone_by Trace words setting built faultless same some =
    let none = no_stop words (option_or_none _ _ faultless).0 in
    let stops : unwrap_or (number_of (text_of Check words Stop)) 0 ≡ setting.stop = ap (λ (s : Setting). s.stop) same in absurd (omega (arith, some, none, stops))
alone_by Plans words setting built faultless same some =
    subst StopsAlone same (alone_words Plans words refl (good_stop Plans words faultless refl) (subst (λ (n : ℕ). 1 ≤ n) (sym (ap (λ (s : Setting). s.stop) same)) some))
alone_by Run words setting built faultless same some =
    subst StopsAlone same (alone_words Run words refl (good_stop Run words faultless refl) (subst (λ (n : ℕ). 1 ≤ n) (sym (ap (λ (s : Setting). s.stop) same)) some))
alone_by Make words setting built faultless same some =
    let alone = alone_words Make words refl (good_stop Make words faultless refl) (subst (λ (n : ℕ). 1 ≤ n) (sym (ap (λ (s : Setting). s.stop) same)) some) in
    subst StopsAlone same (record { walking = refl; some_ends = alone.some_ends; no_saves = alone.no_saves; fresh = alone.fresh })

-- a run whose tests stop early has endpoints to test, and neither saves nor resumes
pub accepted_words_stop_alone : (words : List (List ℕ)) (setting : Setting) → setting_of words ≡ Ok setting → 1 ≤ setting.stop → StopsAlone setting
accepted_words_stop_alone words setting e some = let s = accepted_words words setting e in alone_by s.command s.words setting s.built s.faultless s.same some
