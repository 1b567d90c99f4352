-- Names that a command does not take have their defaults. The command on several plans and a trace do not take the
-- names of saving, and a trace does not take those of workers and of other tests.
use Rattle.std.proofs.Common.{◌≡◌, ◌∙◌, ℕ, suc, ◌+◌, ◌<◌, arith, Bool, true, false, not, cond, List, [], ◌∷◌, length, find, ap, refl, subst, sym, Option, Some, None}
use Rattle.std.proofs.lemmas.Bool.{and_parts, false≢true}
use Rattle.std.proofs.lemmas.Slice.Eq.{bytes_eq-Decides}
use Rattle.std.specs.Prelude.{◌&&◌, ◌||◌, ◌==◌, nat_le, nat_lt, unwrap_or, bytes_eq, codes, option_and_then}
use Rattle.std.specs.Fmt.{digits}
use Rattle.std.specs.List.{slice_index_or}
use Rattle.std.specs.Option.{option_or}
use Rattle.audit_model.specs.declared.fault.Name.{Name}
use Rattle.audit_model.specs.declared.fault.Name.TheVariants.{Budget, Ends, Steps, Save, Resume, Walks, Parts, Part, Workers, Shift, Stop, Serial}
use Rattle.audit_model.specs.declared.setting.Command.{Command}
use Rattle.audit_model.specs.declared.setting.Command.TheVariants.{Check, Plans, Trace}
use Rattle.audit_model.specs.Names.{name_text}
use Rattle.audit_model.specs.Power.{is_power_of_two}
use Rattle.audit_model.proofs.First.{first_some_below_none}
use Rattle.audit_statement.specs.Words.{NameAndValue, default_of, has_walks, is_good, is_number, is_yes, known_fault, name_of, number_named, number_of, word_pair, pair_fault, text_of}
use Rattle.audit_words.specs.Judged.{fault_of_pairs}

-- if no pair has the name, none is found
no_such : (text : List ℕ) (words : List NameAndValue) → ((k : ℕ) → k < length words → bytes_eq (slice_index_or words k ([], None)).0 text ≡ false)
    → find (λ (pair : NameAndValue). bytes_eq pair.0 text) words ≡ None
no_such text [] h = refl
no_such text (p ∷ ps) h =
    ap (λ b. cond b (Some p) (find (λ (pair : NameAndValue). bytes_eq pair.0 text) ps)) (h 0 (omega arith)) ∙ no_such text ps (λ k l. h (suc k) (omega (arith, l)))

-- the names of saving
abbrev pub of_saving : Name → Bool
of_saving Save = true
of_saving Resume = true
of_saving Budget = true
of_saving Parts = true
of_saving Part = true
of_saving _ = false

-- the names of workers and of other tests
abbrev pub of_tests : Name → Bool
of_tests Workers = true
of_tests Shift = true
of_tests Stop = true
of_tests Serial = true
of_tests _ = false

-- a command takes none of the names of a kind
abbrev pub Misses : Command → List NameAndValue → (Name → Bool) → Type 0
Misses command words kind = (name : Name) → kind name ≡ true → name_of command words (name_text name) ≡ None

pub plans_miss : (words : List NameAndValue) → Misses Plans words of_saving
plans_miss words Save h = refl
plans_miss words Resume h = refl
plans_miss words Budget h = refl
plans_miss words Parts h = refl
plans_miss words Part h = refl
plans_miss words _ h = absurd (false≢true h)

pub trace_misses : (words : List NameAndValue) → Misses Trace words of_saving
trace_misses words Save h = refl
trace_misses words Resume h = refl
trace_misses words Budget h = refl
trace_misses words Parts h = refl
trace_misses words Part h = refl
trace_misses words _ h = absurd (false≢true h)

pub trace_misses_tests : (words : List NameAndValue) → Misses Trace words of_tests
trace_misses_tests words Workers h = refl
trace_misses_tests words Shift h = refl
trace_misses_tests words Stop h = refl
trace_misses_tests words Serial h = refl
trace_misses_tests words _ h = absurd (false≢true h)

module _ (command : Command) (words : List NameAndValue) (faultless : fault_of_pairs command words ≡ None) where
  -- a word that spells no name stands in no pair
  not_there : (text : List ℕ) → name_of command words text ≡ None → (k : ℕ) → k < length words → bytes_eq (word_pair command words k).0 text ≡ false
  not_there text unnamed k l = by (bytes_eq (word_pair command words k).0 text) refl
    where
      by : (b : Bool) → bytes_eq (word_pair command words k).0 text ≡ b → bytes_eq (word_pair command words k).0 text ≡ false
      by false e = e
      by true e =
          let same : (word_pair command words k).0 ≡ text = (bytes_eq-Decides (word_pair command words k).0 text).0 e in
          let fault : pair_fault command words k ≡ known_fault command words k None =
          ap (λ t. known_fault command words k (name_of command words t)) same ∙ ap (known_fault command words k) unnamed in
          let none = first_some_below_none (length words) (pair_fault command words) k faultless l in
          let impossible : None ≡ known_fault command words k None = sym none ∙ fault in cc

  defaulted : (name : Name) → name_of command words (name_text name) ≡ None → text_of Check words name ≡ unwrap_or (default_of name) []
  defaulted name unnamed =
      ap (λ (found : Option NameAndValue). unwrap_or (option_or (option_and_then (λ pair. pair.1) found) (default_of name)) [])
      (no_such (name_text name) words (not_there (name_text name) unnamed))

module _ (command : Command) (words : List NameAndValue) (faultless : fault_of_pairs command words ≡ None) (missing : Misses command words of_saving) where
  pub save_is : text_of Check words Save ≡ codes "0"
  save_is = defaulted command words faultless Save (missing Save refl)

  pub resume_is : text_of Check words Resume ≡ codes "no"
  resume_is = defaulted command words faultless Resume (missing Resume refl)

  pub budget_is : text_of Check words Budget ≡ codes "100000"
  budget_is = defaulted command words faultless Budget (missing Budget refl)

  pub parts_is : text_of Check words Parts ≡ codes "1"
  parts_is = defaulted command words faultless Parts (missing Parts refl)

  pub part_is : text_of Check words Part ≡ codes "0"
  part_is = defaulted command words faultless Part (missing Part refl)

  pub good_parts : is_good Check words Parts ≡ true
  unfolding digits
  good_parts =
      subst (λ (parts : List ℕ). (is_number 1 100000 parts && ((unwrap_or (number_of parts) 0 == 1) || nat_le 1 (number_named Check words Save))) ≡ true) (sym parts_is) refl

  pub good_part : is_good Check words Part ≡ true
  unfolding digits
  good_part =
      subst (λ (part : List ℕ). (is_number 0 100000 part && nat_lt (unwrap_or (number_of part) 0) (unwrap_or (number_of (text_of Check words Parts)) 0)) ≡ true) (sym part_is)
      (subst (λ (parts : List ℕ). (is_number 0 100000 (codes "0") && nat_lt (unwrap_or (number_of (codes "0")) 0) (unwrap_or (number_of parts) 0)) ≡ true) (sym parts_is) refl)

  pub good_save : is_good Check words Save ≡ true
  unfolding digits
  good_save = ap (is_number 0 100000) save_is

  pub good_resume : is_good Check words Resume ≡ true
  good_resume = ap (λ t. bytes_eq t (codes "yes") || bytes_eq t (codes "no")) resume_is

  pub good_budget : is_good Check words Ends ≡ true → is_good Check words Budget ≡ true
  unfolding digits
  good_budget ends =
      let walks = and_parts (is_number 0 100000 (text_of Check words Ends)) (has_walks Check words) ends in
      let few = and_parts (nat_le 1 (number_named Check words Walks + number_named Check words Ends)) (nat_le (number_named Check words Walks + number_named Check words Ends) 100000) walks.1 in
      enough (number_named Check words Walks + number_named Check words Ends) few.1
    where
      enough : (n : ℕ) → nat_le n 100000 ≡ true
          → (is_number 0 100000 (text_of Check words Budget) && (not (is_number 0 0 (text_of Check words Save)) || nat_le n (unwrap_or (number_of (text_of Check words Budget)) 0))) ≡ true
      enough n few =
          subst (λ (budget : List ℕ). (is_number 0 100000 budget && (not (is_number 0 0 (text_of Check words Save)) || nat_le n (unwrap_or (number_of budget) 0))) ≡ true) (sym budget_is)
          (subst (λ (save : List ℕ). (is_number 0 100000 (codes "100000") && (not (is_number 0 0 save) || nat_le n (unwrap_or (number_of (codes "100000")) 0))) ≡ true) (sym save_is) few)

-- the workers and other tests of a trace have their defaults
module _ (command : Command) (words : List NameAndValue) (faultless : fault_of_pairs command words ≡ None) (missing : Misses command words of_tests) where
  pub good_workers : is_good Check words Workers ≡ true
  unfolding digits
  good_workers = ap (is_number 1 32) (defaulted command words faultless Workers (missing Workers refl))

  pub stop_is : text_of Check words Stop ≡ codes "0"
  stop_is = defaulted command words faultless Stop (missing Stop refl)

  pub serial_is : text_of Check words Serial ≡ codes "no"
  serial_is = defaulted command words faultless Serial (missing Serial refl)

  pub good_shift : is_good Check words Shift ≡ true
  good_shift = ap (λ t. bytes_eq t (codes "yes") || bytes_eq t (codes "no")) (defaulted command words faultless Shift (missing Shift refl))

  pub good_stop : is_good Check words Stop ≡ true
  unfolding digits
  good_stop =
      subst (λ (stop : List ℕ). (is_number 0 100000 stop && ((unwrap_or (number_of stop) 0 == 0) || (nat_le 1 (number_named Check words Ends) && (number_named Check words Save == 0) && not (is_yes Check words Resume)))) ≡ true)
      (sym stop_is) refl

  pub good_serial : is_good Check words Serial ≡ true
  good_serial =
      subst (λ (t : List ℕ). ((bytes_eq t (codes "yes") || bytes_eq t (codes "no")) && (not (bytes_eq t (codes "yes")) || is_power_of_two (number_named Check words Steps + 1))) ≡ true)
      (sym serial_is) refl
