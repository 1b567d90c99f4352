-- Valid values and the setting that they give.
use Rattle.std.proofs.Common.{◌≡◌, ◌∙◌, ℕ, zero, suc, ◌<◌, ◌≤◌, get_or, drop, arith, Bool, true, false, not, cond, List, [], ◌∷◌, length, find, ap, refl, sym, Option, Some, None, option_map}
use Rattle.std.proofs.lemmas.Bool.{and_parts, false≢true, leb-true}
use Rattle.std.specs.Prelude.{◌&&◌, nat_le, is_some, unwrap_or}
use Rattle.std.specs.List.{filter_map}
use Rattle.audit_model.specs.declared.fault.Name.{Name}
use Rattle.audit_model.specs.declared.fault.Name.TheVariants.{Pop, Size, Slack, Key, Walks, Steps, Ends, HubSteps, Ask, Workers, Budget, Save, Resume, MaxCut, Shift, Stop, Serial, Region, MaxSplit, Parts, Part, MaxSplits, MaxSplitRegions, Group, GroupOf, GroupDistricts, Source, GroupShare, Freeze, Length, MaxLength, Pairs, CutWeight, Blind}
use Rattle.audit_model.specs.declared.fault.WordFault.TheVariants.{BadValue}
use Rattle.audit_model.specs.declared.setting.Ask.{Ask as AskOf}
use Rattle.audit_model.specs.declared.setting.Command.TheVariants.{Check, Run, Make, Plans, Trace}
use Rattle.audit_model.specs.declared.setting.Command.{Command}
use Rattle.audit_model.proofs.Options.{some_from}
use Rattle.audit_statement.specs.Words.{NameAndValue, all_different, are_asks, ask_of, asks_of, command_of, has_length, has_majority_group, has_share_group, has_split, has_split_regions, has_splits, is_good, is_number, names_of, number_named, number_of, parts_between, text_of}
use Rattle.audit_words.specs.Judged.{AreGood, AreGoodLimits, AreReadable, fault_of_pairs, fault_of_values}
use Rattle.audit_words.proofs.Unnamed.{good_budget, good_part, good_parts, good_resume, good_save, good_serial, good_shift, good_stop, good_workers, plans_miss, trace_misses, trace_misses_tests}
use Rattle.audit_words.proofs.Asking.{filter_map-ask_of}

-- a number within bounds
bounded : (o : Option ℕ) (low high : ℕ) → unwrap_or (option_map (λ n. nat_le low n && nat_le n high) o) false ≡ true → (low ≤ unwrap_or o 0) × (unwrap_or o 0 ≤ high)
bounded None low high h = absurd (false≢true h)
bounded (Some n) low high h = let both = and_parts (nat_le low n) (nat_le n high) h in (leb-true low n both.0, leb-true n high both.1)

-- a text that is a number within bounds stands for one within them
pub number-bounds : (low high : ℕ) (text : List ℕ) → is_number low high text ≡ true → (low ≤ unwrap_or (number_of text) 0) × (unwrap_or (number_of text) 0 ≤ high)
number-bounds low high text h = bounded (number_of text) low high h

-- a limit tested for its number first lies within the bounds
limit-bounds : (low high : ℕ) (words : List NameAndValue) (name : Name) (named : Bool) → (is_number low high (text_of Check words name) && named) ≡ true
    → (low ≤ number_named Check words name) × (number_named Check words name ≤ high)
limit-bounds low high words name named good =
    number-bounds low high (text_of Check words name) (and_parts (is_number low high (text_of Check words name)) named good).0

-- the limits on regions, on a group and on lengths as numbers within their bounds
pub record AreBounded (words : List NameAndValue) : Type 0 where
  pub max_split : (1 ≤ number_named Check words MaxSplit) × (number_named Check words MaxSplit ≤ 200)
  pub max_splits : number_named Check words MaxSplits ≤ 995000
  pub max_split_regions : number_named Check words MaxSplitRegions ≤ 5000
  pub group_districts : number_named Check words GroupDistricts ≤ 200
  pub group_share : number_named Check words GroupShare ≤ 10000
  pub max_length : number_named Check words MaxLength ≤ 1717986918000000

-- valid limits are numbers within their bounds
pub AreBounded-good : (words : List NameAndValue) → AreGoodLimits words → AreBounded words
AreBounded-good words good = record {
  max_split = limit-bounds 1 200 words MaxSplit (has_split Check words) good.max_split;
  max_splits = (limit-bounds 0 995000 words MaxSplits (has_splits Check words) good.max_splits).1;
  max_split_regions = (limit-bounds 0 5000 words MaxSplitRegions (has_split_regions Check words) good.max_split_regions).1;
  group_districts = (limit-bounds 0 200 words GroupDistricts (has_majority_group Check words) good.group_districts).1;
  group_share = (limit-bounds 0 10000 words GroupShare (has_share_group Check words) good.group_share).1;
  max_length = (limit-bounds 0 1717986918000000 words MaxLength (has_length Check words) good.max_length).1;
}

-- a valid text of asks has asks
pub asks_of-some : (text : List ℕ) → are_asks text ≡ true
    → (asks : List AskOf) × (asks_of (parts_between 44 text) ≡ Some asks) × (length (parts_between 44 text) ≤ 4) × (all_different (parts_between 44 text) ≡ true)
asks_of-some text h =
    let parts = parts_between 44 text in
    let both = and_parts (is_some (asks_of parts) && nat_le (length parts) 4) (all_different parts) h in
    let some = and_parts (is_some (asks_of parts)) (nat_le (length parts) 4) both.0 in
    let asks = some_from (asks_of parts) some.0 in
    (asks.0, asks.1, leb-true (length parts) 4 some.1, both.1)

-- the asks read from a valid text are all of them
pub asks_of-good : (text : List ℕ) → are_asks text ≡ true → filter_map ask_of (parts_between 44 text) ≡ unwrap_or (asks_of (parts_between 44 text)) []
asks_of-good text h =
    let some = asks_of-some text h in
    filter_map-ask_of (parts_between 44 text) some.0 some.1 ∙ sym (ap (λ asks. unwrap_or asks []) some.1)

-- if no value is invalid, the first is valid
passed : (good : Bool) (name : Name) (o : Option Name) → option_map BadValue (cond (not good) (Some name) o) ≡ None → (good ≡ true) × (option_map BadValue o ≡ None)
passed true name o h = (refl, h)
passed false name o h = absurd (cc)

-- if no name has an invalid value, the first is valid and none of the others is invalid
find-last : (good : Name → Bool) (name : Name) (names : List Name) → option_map BadValue (find (λ n. not (good n)) (name ∷ names)) ≡ None
    → (good name ≡ true) × (option_map BadValue (find (λ n. not (good n)) names) ≡ None)
find-last good name names h = passed (good name) name (find (λ n. not (good n)) names) h

-- each of the names has a valid value
find-all : (good : Name → Bool) (names : List Name) → option_map BadValue (find (λ n. not (good n)) names) ≡ None → (k : ℕ) → k < length names → good (get_or names k Pop) ≡ true
find-all good [] h k l = absurd (omega arith)
find-all good (name ∷ names) h zero l = (find-last good name names h).0
find-all good (name ∷ names) h (suc k) l = find-all good names (find-last good name names h).1 k (omega arith)

-- the names of a run on any graph, without the columns, followed by others
abbrev names_before : List Name → List Name
names_before more = Slack ∷ Key ∷ Walks ∷ Steps ∷ Ends ∷ HubSteps ∷ Ask ∷ Workers ∷ Budget ∷ Save ∷ Resume ∷ MaxCut ∷ Shift ∷ Stop ∷ Serial ∷ more

-- if no name of a run has an invalid value, and the part is valid, all values are valid
AreGood-values : (words : List NameAndValue) (more : List Name) → option_map BadValue (find (λ name. not (is_good Check words name)) (names_before more)) ≡ None
    → is_good Check words Parts ≡ true → is_good Check words Part ≡ true → AreGood words
AreGood-values words more h parts part =
    let good = find-all (is_good Check words) (names_before more) h in
    record {
      slack = good 0 (omega arith);
      key = good 1 (omega arith);
      walks = good 2 (omega arith);
      steps = good 3 (omega arith);
      ends = good 4 (omega arith);
      hub_steps = good 5 (omega arith);
      ask = good 6 (omega arith);
      workers = good 7 (omega arith);
      budget = good 8 (omega arith);
      save = good 9 (omega arith);
      resume = good 10 (omega arith);
      max_cut = good 11 (omega arith);
      shift = good 12 (omega arith);
      stop = good 13 (omega arith);
      serial = good 14 (omega arith);
      parts = parts;
      part = part;
    }

-- the further names of a run on a graph that is read
abbrev names_behind : List Name
names_behind = Region ∷ MaxSplit ∷ Parts ∷ Part ∷ MaxSplits ∷ MaxSplitRegions ∷ Group ∷ GroupOf ∷ GroupDistricts ∷ Source ∷ GroupShare ∷ Freeze ∷ Length ∷ MaxLength ∷ Pairs ∷ CutWeight ∷ Blind ∷ []

-- the further names of a run on a grid
abbrev names_behind_made : List Name
names_behind_made = Parts ∷ Part ∷ Pairs ∷ CutWeight ∷ Blind ∷ []

-- if no value of a spelled command is invalid, those of its setting are valid
pub AreReadable-good : (word : List ℕ) (command : Command) (words : List NameAndValue) → Some command ≡ command_of word → fault_of_pairs command words ≡ None → fault_of_values command words ≡ None
    → AreReadable command words
AreReadable-good word Check words spells faultless h =
    let good = find-all (is_good Check words) (names_of Check) h in (
      good 4 (omega arith),
      good 5 (omega arith),
      record {
        max_split = good 7 (omega arith);
        max_splits = good 8 (omega arith);
        max_split_regions = good 9 (omega arith);
        group_districts = good 12 (omega arith);
        group_share = good 14 (omega arith);
        max_length = good 17 (omega arith);
      },
    )
AreReadable-good word Run words spells faultless h =
    let good = find-all (is_good Check words) (names_before names_behind) h in (
      AreGood-values words names_behind h (good 17 (omega arith)) (good 18 (omega arith)),
      record {
        max_split = good 16 (omega arith);
        max_splits = good 19 (omega arith);
        max_split_regions = good 20 (omega arith);
        group_districts = good 23 (omega arith);
        group_share = good 25 (omega arith);
        max_length = good 28 (omega arith);
      },
    )
AreReadable-good word Make words spells faultless h =
    let size = find-last (is_good Make words) Size (drop 1 (names_of Make)) h in
    let good = find-all (is_good Check words) (names_before names_behind_made) size.1 in
    (AreGood-values words names_behind_made size.1 (good 15 (omega arith)) (good 16 (omega arith)), size.0)
AreReadable-good word Plans words spells faultless h =
    let good = find-all (is_good Plans words) (names_of Plans) h in (
      record {
        slack = good 4 (omega arith);
        key = good 5 (omega arith);
        walks = good 6 (omega arith);
        steps = good 7 (omega arith);
        ends = good 8 (omega arith);
        hub_steps = good 9 (omega arith);
        ask = good 10 (omega arith);
        workers = good 11 (omega arith);
        budget = good_budget Plans words faultless (plans_miss words) (good 8 (omega arith));
        save = good_save Plans words faultless (plans_miss words);
        resume = good_resume Plans words faultless (plans_miss words);
        max_cut = good 12 (omega arith);
        shift = good 13 (omega arith);
        stop = good 14 (omega arith);
        serial = good 15 (omega arith);
        parts = good_parts Plans words faultless (plans_miss words);
        part = good_part Plans words faultless (plans_miss words);
      },
      record {
        max_split = good 17 (omega arith);
        max_splits = good 18 (omega arith);
        max_split_regions = good 19 (omega arith);
        group_districts = good 22 (omega arith);
        group_share = good 24 (omega arith);
        max_length = good 27 (omega arith);
      },
    )
AreReadable-good word Trace words spells faultless h =
    let good = find-all (is_good Trace words) (names_of Trace) h in
    let missing = trace_misses words in
    let misses_tests = trace_misses_tests words in (
      record {
        slack = good 4 (omega arith);
        key = good 5 (omega arith);
        walks = good 6 (omega arith);
        steps = good 7 (omega arith);
        ends = good 8 (omega arith);
        hub_steps = good 9 (omega arith);
        ask = good 10 (omega arith);
        workers = good_workers Trace words faultless misses_tests;
        budget = good_budget Trace words faultless missing (good 8 (omega arith));
        save = good_save Trace words faultless missing;
        resume = good_resume Trace words faultless missing;
        max_cut = good 11 (omega arith);
        shift = good_shift Trace words faultless misses_tests;
        stop = good_stop Trace words faultless misses_tests;
        serial = good_serial Trace words faultless misses_tests;
        parts = good_parts Trace words faultless missing;
        part = good_part Trace words faultless missing;
      },
      record {
        max_split = good 13 (omega arith);
        max_splits = good 14 (omega arith);
        max_split_regions = good 15 (omega arith);
        group_districts = good 18 (omega arith);
        group_share = good 22 (omega arith);
        max_length = good 25 (omega arith);
      },
      good 20 (omega arith),
      good 21 (omega arith),
    )
