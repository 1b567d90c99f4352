-- Accepted arguments of a run determine its setting.
use Rattle.std.proofs.Common.{◌≡◌, ℕ, Bool, true, false, ◌&&◌, not, List, [], ◌∷◌, length, map, Option, Some, None, Result, Ok, Err, ◌<◌, refl, sym, ap, ◌∙◌, subst, cond, inl, inr, arith}
use Rattle.std.specs.Prelude.{◌^◌, ◌==◌, nat_lt, bytes_eq, codes, decimal, find, is_some, nat_le, option_and_then, option_map, unwrap_or}
use Rattle.std.specs.Fmt.{digits}
use Rattle.std.specs.Option.{option_or}
use Rattle.std.specs.Result.{result_ok}
use Rattle.std.proofs.lemmas.Bool.{and_parts, eqb-true, leb-true, ltb-true, or_cases}
use Rattle.std.proofs.lemmas.Slice.Eq.{bytes_eq-Decides}
use Rattle.hex.specs.Hex.{decode_sized}
use Rattle.audit_model.specs.declared.fault.Name.{Name}
use Rattle.audit_model.specs.declared.fault.Name.TheVariants.{Pop, First, Second, District, Slack, Key, Walks, Steps, Ends, HubSteps, Ask, Save, Resume, MaxCut, Shift, Stop, Serial, Region, Parts, Part, Group, GroupDistricts, Source, Freeze, Length, MaxLength, Pairs, CutWeight, Blind}
use Rattle.audit_model.specs.declared.fault.WordFault.{WordFault}
use Rattle.audit_model.specs.declared.setting.Ask.{Ask as AskOf}
use Rattle.audit_model.specs.declared.setting.Command.TheVariants.{Run}
use Rattle.audit_model.specs.declared.setting.Setting.{Setting}
use Rattle.audit_model.specs.Limits.{most_edges, most_length}
use Rattle.audit_model.specs.Names.{name_text}
use Rattle.audit_statement.specs.Words.{NameAndValue, all_asks, as_run, ask_of, ask_text, asks_of, default_of, digits_value, fault_of, has_length, has_majority_group, is_empty, is_number, number_named, number_of, pairs, parts_between, saves_parts, setting_of, setting_or, text_of, with_ask, weight_of}
use Rattle.audit_laws.proofs.Words.{good}
use Rattle.audit_statement.specs.PlainArguments.{ArePlain, SettingMatches, IsNotGiven, IsSpelled, given_or}

-- ---- the arguments

-- arguments of a run that give a setting have no fault, and the setting is made of them
run_or : (words : List NameAndValue) (f : Option WordFault) (setting : Setting) → setting_or Run words f ≡ Ok setting → (f ≡ None) × (as_run Run words ≡ setting)
run_or words None setting e = (refl, cc)
run_or words (Some f) setting e = cc

-- accepted arguments of a run have no fault, and the setting is made of them
pub run_words : (rest : List (List ℕ)) (setting : Setting) → setting_of (codes "run" ∷ rest) ≡ Ok setting
    → (fault_of Run (pairs rest) ≡ None) × (as_run Run (pairs rest) ≡ setting)
unfolding setting_of
run_words rest setting e = run_or (pairs rest) (fault_of Run (pairs rest)) setting e

-- the value of a named argument, or a default
value_or : (name : List ℕ) (other : Option (List ℕ)) (words : List (List ℕ))
    → unwrap_or (option_or (option_and_then (λ (pair : NameAndValue). pair.1) (find (λ (pair : NameAndValue). bytes_eq pair.0 name) (pairs words))) other) []
    ≡ given_or words name (unwrap_or other [])
value_or name other [] = refl
value_or name other (word ∷ []) = by (bytes_eq word name)
  where
    by : (b : Bool) → unwrap_or (option_or (option_and_then (λ (pair : NameAndValue). pair.1) (cond b (Some (word, None)) None)) other) [] ≡ unwrap_or other []
    by true = refl
    by false = refl
value_or name other (word ∷ value ∷ rest) = by (bytes_eq word name) (value_or name other rest)
  where
    by : (b : Bool) → unwrap_or (option_or (option_and_then (λ (pair : NameAndValue). pair.1)
        (find (λ (pair : NameAndValue). bytes_eq pair.0 name) (pairs rest))) other) [] ≡ given_or rest name (unwrap_or other [])
        → unwrap_or (option_or (option_and_then (λ (pair : NameAndValue). pair.1)
        (cond b (Some (word, Some value)) (find (λ (pair : NameAndValue). bytes_eq pair.0 name) (pairs rest)))) other) []
        ≡ cond b value (given_or rest name (unwrap_or other []))
    by true later = refl
    by false later = later

-- ---- numbers

-- a text that is a number within bounds consists of the number's digits
printed : (text : List ℕ) (low high : ℕ) → high < 2 ^ 64 → is_number low high text ≡ true → IsSpelled text (unwrap_or (number_of text) 0)
printed text low high small h = by (bytes_eq (decimal (digits_value text)) text) refl h
  where
    by : (b : Bool) → bytes_eq (decimal (digits_value text)) text ≡ b
        → unwrap_or (option_map (λ n. nat_le low n && nat_le n high) (cond b (Some (digits_value text)) None)) false ≡ true
        → IsSpelled text (unwrap_or (cond b (Some (digits_value text)) None) 0)
    by true is e =
        let bounds = and_parts (nat_le low (digits_value text)) (nat_le (digits_value text) high) e in
        ((bytes_eq-Decides (decimal (digits_value text)) text).0 is, omega (arith, small, leb-true (digits_value text) high bounds.1))
    by false is e = cc

-- ---- asks

-- the ask found by a text has this text
ask_spelled : (text : List ℕ) (asks : List AskOf) (ask : AskOf) → find (λ a. bytes_eq (ask_text a) text) asks ≡ Some ask → ask_text ask ≡ text
ask_spelled text [] ask e = cc
ask_spelled text (a ∷ asks) ask e = by (bytes_eq (ask_text a) text) refl e (λ f. ask_spelled text asks ask f)
  where
    by : (b : Bool) → bytes_eq (ask_text a) text ≡ b → cond b (Some a) (find (λ x. bytes_eq (ask_text x) text) asks) ≡ Some ask
        → (find (λ x. bytes_eq (ask_text x) text) asks ≡ Some ask → ask_text ask ≡ text) → ask_text ask ≡ text
    by true is f later = let same : a ≡ ask = cc in subst (λ (x : AskOf). ask_text x ≡ text) same ((bytes_eq-Decides (ask_text a) text).0 is)
    by false is f later = later f

-- asks that are read have the texts that they were read from
asks_spelled : (parts : List (List ℕ)) → is_some (asks_of parts) ≡ true → map ask_text (unwrap_or (asks_of parts) []) ≡ parts
asks_spelled [] e = refl
asks_spelled (part ∷ parts) e = by (ask_of part) (asks_of parts) refl refl e (λ f. asks_spelled parts f)
  where
    by : (a : Option AskOf) (more : Option (List AskOf)) → ask_of part ≡ a → asks_of parts ≡ more → is_some (with_ask a more) ≡ true
        → (is_some (asks_of parts) ≡ true → map ask_text (unwrap_or (asks_of parts) []) ≡ parts)
        → map ask_text (unwrap_or (with_ask a more) []) ≡ part ∷ parts
    by None more is are f later = cc
    by (Some a) None is are f later = cc
    by (Some a) (Some more) is are f later =
        let one = ask_spelled part all_asks a is in
        let all : map ask_text more ≡ parts = sym (ap (λ (o : Option (List AskOf)). map ask_text (unwrap_or o [])) are)
        ∙ later (ap (λ (o : Option (List AskOf)). is_some o) are) in
        ap (λ (x : List ℕ). x ∷ map ask_text more) one ∙ ap (λ (xs : List (List ℕ)). part ∷ xs) all

-- ---- the key

-- a result that tests as a success is one
ok_back : {E : Type 0} (r : Result (List ℕ) E) → is_some (result_ok r) ≡ true → r ≡ Ok (unwrap_or (result_ok r) [])
ok_back (Ok x) e = refl
ok_back (Err f) e = cc

-- the setting of a plain run
pub record IsPlain (setting : Setting) : Type 0 where
  pub run : setting.command ≡ Run
  pub fresh : setting.resume ≡ false
  pub no_stop : setting.stop ≡ 0
  pub no_serial : setting.serial ≡ false
  pub no_shift : setting.shift ≡ false
  pub no_regions : setting.region ≡ []
  pub any_cut : setting.max_cut ≡ most_edges
  pub no_group : setting.columns.group ≡ []
  pub none_due : setting.group_districts ≡ 0
  pub no_frozen : setting.columns.frozen ≡ []
  pub no_lengths : setting.columns.length ≡ []
  pub any_length : setting.max_length ≡ most_length
  pub no_pairs : setting.pairs ≡ false
  pub no_weight : setting.cut_weight ≡ 256
  pub not_blind : setting.blind ≡ false

-- ---- the whole setting

module _ (rest : List (List ℕ)) (faultless : fault_of Run (pairs rest) ≡ None) where
  abbrev words : List NameAndValue
  words = pairs rest

  text : (name : Name) → text_of Run words name ≡ given_or rest (name_text name) (unwrap_or (default_of name) [])
  text name = value_or (name_text name) (default_of name) rest

  number : (name : Name) (low high : ℕ) → high < 2 ^ 64 → is_number low high (text_of Run words name) ≡ true
      → IsSpelled (given_or rest (name_text name) (unwrap_or (default_of name) [])) (number_named Run words name)
  number name low high small h =
      subst (λ (t : List ℕ). IsSpelled t (number_named Run words name)) (text name) (printed (text_of Run words name) low high small h)

  pub words_say : SettingMatches rest (as_run Run words)
  words_say = record {
    population = text Pop;
    first = text First;
    second = text Second;
    district = text District;
    length = text Length;
    slack = number Slack 0 10000 (omega arith) (good Run words 4 Slack faultless refl);
    key = ap (λ (t : List ℕ). decode_sized t 32) (sym (text Key)) ∙ ok_back (decode_sized (text_of Run words Key) 32) (good Run words 5 Key faultless refl);
    walks = number Walks 0 100000 (omega arith) (good Run words 6 Walks faultless refl);
    steps = number Steps 1 (10 ^ 9) (omega arith) (good Run words 7 Steps faultless refl);
    ends = number Ends 0 100000 (omega arith) (and_parts (is_number 0 100000 (text_of Run words Ends)) _ (good Run words 8 Ends faultless refl)).0;
    hub_steps = number HubSteps 1 (10 ^ 9) (omega arith) (good Run words 9 HubSteps faultless refl);
    asks = asks_spelled (parts_between 44 (text_of Run words Ask))
        (and_parts (is_some (asks_of (parts_between 44 (text_of Run words Ask)))) _
        (and_parts _ _ (and_parts _ _ (good Run words 10 Ask faultless refl)).0).0).0
        ∙ ap (parts_between 44) (text Ask);
    source = ap (λ (t : List ℕ). bytes_eq t (codes "yes")) (text Source);
  }

-- an argument that is not given has its default
silent_text : (rest : List (List ℕ)) (name : Name) → IsNotGiven rest (name_text name) → text_of Run (pairs rest) name ≡ unwrap_or (default_of name) []
silent_text rest name silent = value_or (name_text name) (default_of name) rest ∙ silent (unwrap_or (default_of name) [])

-- arguments without saves give a run that saves nothing
pub saves_nothing : (rest : List (List ℕ)) → IsNotGiven rest (codes "--save") → number_named Run (pairs rest) Save ≡ 0
unfolding digits
saves_nothing rest silent = ap (λ (t : List ℕ). unwrap_or (number_of t) 0) (silent_text rest Save silent)

-- a run that saves nothing has one part
pub one_part : (rest : List (List ℕ)) → fault_of Run (pairs rest) ≡ None → number_named Run (pairs rest) Save ≡ 0
    → (number_named Run (pairs rest) Parts ≡ 1) × (number_named Run (pairs rest) Part ≡ 0)
one_part rest faultless none =
    let words = pairs rest in
    let saved = (and_parts (is_number 1 100000 (text_of Run words Parts)) (saves_parts Run words) (good Run words 21 Parts faultless refl)).1 in
    let below = (and_parts (is_number 0 100000 (text_of Run words Part)) (nat_lt (number_named Run words Part) (number_named Run words Parts))
    (good Run words 22 Part faultless refl)).1 in
    let one : number_named Run words Parts ≡ 1 = elim (or_cases (number_named Run words Parts == 1) (nat_le 1 (number_named Run words Save)) saved) [
      | inl e ↦ eqb-true (number_named Run words Parts) 1 e
      | inr e ↦ absurd (omega (arith, none, leb-true 1 (number_named Run words Save) e))
    ] in
    (one, omega (arith, one, ltb-true (number_named Run words Part) (number_named Run words Parts) below))

-- if no group is named, no majorities are required
none_due : (rest : List (List ℕ)) → fault_of Run (pairs rest) ≡ None → text_of Run (pairs rest) Group ≡ [] → number_named Run (pairs rest) GroupDistricts ≡ 0
none_due rest faultless none =
    let words = pairs rest in
    let due = number_named Run words GroupDistricts in
    let named = (and_parts (is_number 0 200 (text_of Run words GroupDistricts)) (has_majority_group Run words) (good Run words 27 GroupDistricts faultless refl)).1 in
    elim (or_cases (due == 0) (not (is_empty Run words Group)) named) [
      | inl e ↦ eqb-true due 0 e
      | inr e ↦ let there : false ≡ true = sym (ap (λ (t : List ℕ). not (length t == 0)) none) ∙ e in cc
    ]

-- if no column of lengths is named, the length of the cut edges is not limited
any_length : (rest : List (List ℕ)) → fault_of Run (pairs rest) ≡ None → text_of Run (pairs rest) Length ≡ [] → number_named Run (pairs rest) MaxLength ≡ most_length
any_length rest faultless none =
    let words = pairs rest in
    let most = number_named Run words MaxLength in
    let named = (and_parts (is_number 0 most_length (text_of Run words MaxLength)) (has_length Run words) (good Run words 32 MaxLength faultless refl)).1 in
    elim (or_cases (most == most_length) (not (is_empty Run words Length)) named) [
      | inl e ↦ eqb-true most most_length e
      | inr e ↦ let there : false ≡ true = sym (ap (λ (t : List ℕ). not (length t == 0)) none) ∙ e in cc
    ]

-- accepted arguments without optional features give a plain setting
pub silent_is_plain : (rest : List (List ℕ)) → fault_of Run (pairs rest) ≡ None → ArePlain rest → IsPlain (as_run Run (pairs rest))
unfolding digits
silent_is_plain rest faultless h = record {
  run = refl;
  fresh = ap (λ (t : List ℕ). bytes_eq t (codes "yes")) (silent_text rest Resume (h 0 [] (omega arith)));
  no_stop = ap (λ (t : List ℕ). unwrap_or (number_of t) 0) (silent_text rest Stop (h 1 [] (omega arith)));
  no_serial = ap (λ (t : List ℕ). bytes_eq t (codes "yes")) (silent_text rest Serial (h 2 [] (omega arith)));
  no_shift = ap (λ (t : List ℕ). bytes_eq t (codes "yes")) (silent_text rest Shift (h 3 [] (omega arith)));
  no_regions = silent_text rest Region (h 4 [] (omega arith));
  any_cut = ap (λ (t : List ℕ). unwrap_or (number_of t) 0) (silent_text rest MaxCut (h 5 [] (omega arith)));
  no_group = silent_text rest Group (h 6 [] (omega arith));
  none_due = none_due rest faultless (silent_text rest Group (h 6 [] (omega arith)));
  no_frozen = silent_text rest Freeze (h 7 [] (omega arith));
  no_lengths = silent_text rest Length (h 8 [] (omega arith));
  any_length = any_length rest faultless (silent_text rest Length (h 8 [] (omega arith)));
  no_pairs = ap (λ (t : List ℕ). bytes_eq t (codes "yes")) (silent_text rest Pairs (h 9 [] (omega arith)));
  no_weight = ap (λ (t : List ℕ). unwrap_or (weight_of t) 256) (silent_text rest CutWeight (h 10 [] (omega arith)));
  not_blind = ap (λ (t : List ℕ). bytes_eq t (codes "yes")) (silent_text rest Blind (h 11 [] (omega arith)));
}
