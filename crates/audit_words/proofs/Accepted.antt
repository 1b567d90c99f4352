-- The setting of valid values is within the limits.
use Rattle.std.proofs.Common.{◌≡◌, ◌≢◌, ◌∙◌, ℕ, ◌+◌, ◌≤◌, true, List, [], length, ap, arith, Option, Some, None, refl, subst, sym, Result, Ok, Err, inl, inr}
use Rattle.std.proofs.lemmas.Bool.{and_parts, false≢true, leb-true, ltb-true, eqb-true, or_cases}
use Rattle.std.specs.Prelude.{◌==◌, ◌&&◌, bytes_eq, nat_le, nat_lt, is_some, unwrap_or}
use Rattle.std.specs.List.{AllPairs}
use Rattle.std.specs.Result.{result_ok}
use Rattle.hex.specs.Hex.{decode_sized}
use Rattle.hex.proofs.HexLemmas.{decode_sized-ok, decode_sized-twice, decode_of-ok}
use Rattle.audit_model.specs.Limits.{HasPart, IsSetting, IsSettingOf, IsRunSetting}
use Rattle.audit_model.specs.declared.fault.Name.TheVariants.{Slack, Key, Walks, Steps, Ends, HubSteps, Ask, Workers, MaxCut, Parts, Part, Save, Thin, CutWeight}
use Rattle.audit_model.specs.declared.setting.Ask.{Ask as AskOf}
use Rattle.audit_model.specs.declared.setting.Command.{Command}
use Rattle.audit_model.specs.declared.setting.Command.TheVariants.{Check, Run, Make, Plans, Trace}
use Rattle.audit_statement.specs.Words.{NameAndValue, are_asks, as_run, asks_of, has_asked_length, has_walks, is_number, number_named, parts_between, quarters, saves_parts, setting_for, text_of, weight_of}
use Rattle.audit_model.proofs.First.{first_below_some}
use Rattle.audit_words.specs.Judged.{AreGood, AreReadable}
use Rattle.audit_words.proofs.Asking.{length-asks_of, AllPairs-asks_of}
use Rattle.audit_words.proofs.ValidValues.{AreBounded, AreBounded-good, asks_of-some, number-bounds}
use Rattle.audit_words.proofs.Parting.{parts_between-some}
use Rattle.audit_words.proofs.Ranges.{good_range}

-- a result that tests as a success is one
value_of_ok : {A E : Type 0} (r : Result A E) → is_some (result_ok r) ≡ true → (x : A) × (r ≡ Ok x)
value_of_ok (Ok x) h = (x, refl)
value_of_ok (Err e) h = absurd (false≢true h)

-- a key has 32 bytes
length-key : (text : List ℕ) → is_some (result_ok (decode_sized text 32)) ≡ true → length (unwrap_or (result_ok (decode_sized text 32)) []) ≡ 32
length-key text h =
    let ok = value_of_ok (decode_sized text 32) h in
    let twice = decode_sized-ok text 32 ok.0 ok.1 in
    let bytes = decode_of-ok text ok.0 (sym (decode_sized-twice text 32 twice) ∙ ok.1) in
    let width : length ok.0 ≡ 32 = omega (arith, twice, bytes.2) in
    subst (λ r. length (unwrap_or (result_ok r) []) ≡ 32) (sym ok.1) width

-- one to four different asks
record AreAsked (asks : List AskOf) : Type 0 where
  some : 1 ≤ length asks
  few : length asks ≤ 4
  apart : AllPairs (λ a b. a ≢ b) asks

-- asks in a valid text are at most four and differ
AreAsked-good : (text : List ℕ) → are_asks text ≡ true → AreAsked (unwrap_or (asks_of (parts_between 44 text)) [])
AreAsked-good text h =
    let asked = asks_of-some text h in
    let same = length-asks_of (parts_between 44 text) asked.0 asked.1 in
    subst AreAsked (sym (ap (λ asks. unwrap_or asks []) asked.1)) (record {
      some = omega (arith, parts_between-some text);
      few = omega arith;
      apart = AllPairs-asks_of (parts_between 44 text) asked.0 asked.1 asked.3;
    })

-- valid arguments give a run a setting within its limits
pub IsRunSetting-good : (command : Command) (words : List NameAndValue) → AreGood words → IsRunSetting (as_run command words)
IsRunSetting-good command words good =
    let ends = and_parts (is_number 0 100000 (text_of Check words Ends)) (has_walks Check words) good.ends in
    let walks = and_parts (nat_le 1 (number_named Check words Walks + number_named Check words Ends)) (nat_le (number_named Check words Walks + number_named Check words Ends) 100000) ends.1 in
    let steps = number-bounds 1 1000000000 (text_of Check words Steps) good.steps in
    let hub_steps = number-bounds 1 1000000000 (text_of Check words HubSteps) good.hub_steps in
    let asked = AreAsked-good (text_of Check words Ask) (and_parts (are_asks (text_of Check words Ask)) (has_asked_length Check words) good.ask).0 in
    let workers = number-bounds 1 32 (text_of Check words Workers) good.workers in
    record {
      some = leb-true 1 (number_named Check words Walks + number_named Check words Ends) walks.0;
      few = leb-true (number_named Check words Walks + number_named Check words Ends) 100000 walks.1;
      some_steps = steps.0;
      few_steps = steps.1;
      some_hub_steps = hub_steps.0;
      few_hub_steps = hub_steps.1;
      some_asks = asked.some;
      few_asks = asked.few;
      apart = asked.apart;
      some_workers = workers.0;
      few_workers = workers.1;
    }

-- the setting of a generated grid is within the limits if that of a run is
IsRunSetting-made : (words : List NameAndValue) → IsRunSetting (as_run Make words) → IsRunSetting (setting_for Make words)
IsRunSetting-made words run = record {
  some = run.some;
  few = run.few;
  some_steps = run.some_steps;
  few_steps = run.few_steps;
  some_hub_steps = run.some_hub_steps;
  few_hub_steps = run.few_hub_steps;
  some_asks = run.some_asks;
  few_asks = run.few_asks;
  apart = run.apart;
  some_workers = run.some_workers;
  few_workers = run.few_workers;
}

-- the part is one of the parts for a generated grid as for a run
HasPart-made : (words : List NameAndValue) → HasPart (as_run Make words) → HasPart (setting_for Make words)
HasPart-made words p = record { some = p.some; few = p.few; one_of = p.one_of; saves = p.saves }

-- with valid arguments, the part is one of the parts
HasPart-good : (command : Command) (words : List NameAndValue) → AreGood words → HasPart (as_run command words)
HasPart-good command words good =
    let parts = and_parts (is_number 1 100000 (text_of Check words Parts)) (saves_parts Check words) good.parts in
    let bounds = number-bounds 1 100000 (text_of Check words Parts) parts.0 in
    let part = and_parts (is_number 0 100000 (text_of Check words Part)) (nat_lt (number_named Check words Part) (number_named Check words Parts)) good.part in
    record {
      some = bounds.0;
      few = bounds.1;
      one_of = ltb-true (number_named Check words Part) (number_named Check words Parts) part.1;
      saves = λ several. elim (or_cases (number_named Check words Parts == 1) (nat_le 1 (number_named Check words Save)) parts.1) [
        | inl one ↦ absurd (omega (arith, several, eqb-true (number_named Check words Parts) 1 one))
        | inr saved ↦ leb-true 1 (number_named Check words Save) saved
      ];
    }

-- the weight of a text is from 4 to 256 quarters
weight-bounds : (text : List ℕ) → (4 ≤ unwrap_or (weight_of text) 256) × (unwrap_or (weight_of text) 256 ≤ 256)
weight-bounds text = by (weight_of text) refl
  where
    by : (found : Option ℕ) → weight_of text ≡ found → (4 ≤ unwrap_or found 256) × (unwrap_or found 256 ≤ 256)
    by None is = (omega arith, omega arith)
    by (Some q) is =
        let passes = first_below_some 257 (λ n. nat_le 4 n && bytes_eq (quarters n) text) q is in
        let both = and_parts (nat_le 4 q) (bytes_eq (quarters q) text) passes.1 in
        (leb-true 4 q both.0, omega (arith, passes.0))

-- valid arguments give a command a setting within all limits
IsSetting-run : (command : Command) (words : List NameAndValue) → AreGood words → AreBounded words → IsSettingOf command (as_run command words) → IsSetting (as_run command words)
IsSetting-run command words good limits is = record {
  slack = (number-bounds 0 10000 (text_of Check words Slack) good.slack).1;
  key = length-key (text_of Check words Key) good.key;
  max_cut = (number-bounds 0 400000 (text_of Check words MaxCut) good.max_cut).1;
  some_splits = limits.max_split.0;
  few_splits = limits.max_split.1;
  few_in_all = limits.max_splits;
  few_split_regions = limits.max_split_regions;
  few_group_districts = limits.group_districts;
  few_shares = limits.group_share;
  short = limits.max_length;
  some_weight = (weight-bounds (text_of Check words CutWeight)).0;
  most_weight = (weight-bounds (text_of Check words CutWeight)).1;
  part = HasPart-good command words good;
  command = is;
}

-- arguments with valid values give a setting within all limits
pub IsSetting-good : (command : Command) (words : List NameAndValue) → AreReadable command words → IsSetting (setting_for command words)
IsSetting-good Check words good = record {
  slack = (number-bounds 0 10000 (text_of Check words Slack) good.0).1;
  key = refl;
  max_cut = (number-bounds 0 400000 (text_of Check words MaxCut) good.1).1;
  some_splits = (AreBounded-good words good.2).max_split.0;
  few_splits = (AreBounded-good words good.2).max_split.1;
  few_in_all = (AreBounded-good words good.2).max_splits;
  few_split_regions = (AreBounded-good words good.2).max_split_regions;
  few_group_districts = (AreBounded-good words good.2).group_districts;
  few_shares = (AreBounded-good words good.2).group_share;
  short = (AreBounded-good words good.2).max_length;
  some_weight = (weight-bounds (text_of Check words CutWeight)).0;
  most_weight = (weight-bounds (text_of Check words CutWeight)).1;
  part = record { some = omega arith; few = omega arith; one_of = omega arith; saves = λ several. absurd (omega (arith, several)) };
  command = record {
    no_walks = refl;
    no_steps = refl;
    no_ends = refl;
    no_hub_steps = refl;
    no_asks = refl;
    no_budget = refl;
    no_saves = refl;
  };
}
IsSetting-good Run words good = IsSetting-run Run words good.0 (AreBounded-good words good.1) (IsRunSetting-good Run words good.0)
IsSetting-good Make words good = record {
  slack = (number-bounds 0 10000 (text_of Check words Slack) good.0.slack).1;
  key = length-key (text_of Check words Key) good.0.key;
  max_cut = (number-bounds 0 400000 (text_of Check words MaxCut) good.0.max_cut).1;
  some_splits = omega arith;
  few_splits = omega arith;
  few_in_all = omega arith;
  few_split_regions = omega arith;
  few_group_districts = omega arith;
  few_shares = omega arith;
  short = omega arith;
  some_weight = (weight-bounds (text_of Check words CutWeight)).0;
  most_weight = (weight-bounds (text_of Check words CutWeight)).1;
  part = HasPart-made words (HasPart-good Make words good.0);
  command = IsRunSetting-made words (IsRunSetting-good Make words good.0);
}
IsSetting-good Plans words good = IsSetting-run Plans words good.0 (AreBounded-good words good.1) (IsRunSetting-good Plans words good.0)
IsSetting-good Trace words good =
    let bounds = AreBounded-good words good.1 in
    let run = IsRunSetting-good Trace words good.0 in
    let part = HasPart-good Trace words good.0 in
    let range = good_range words good.2 in
    let thin = number-bounds 1 1000000000 (text_of Check words Thin) good.3 in
    record {
      slack = (number-bounds 0 10000 (text_of Check words Slack) good.0.slack).1;
      key = length-key (text_of Check words Key) good.0.key;
      max_cut = (number-bounds 0 400000 (text_of Check words MaxCut) good.0.max_cut).1;
      some_splits = bounds.max_split.0;
      few_splits = bounds.max_split.1;
      few_in_all = bounds.max_splits;
      few_split_regions = bounds.max_split_regions;
      few_group_districts = bounds.group_districts;
      few_shares = bounds.group_share;
      short = bounds.max_length;
      some_weight = (weight-bounds (text_of Check words CutWeight)).0;
      most_weight = (weight-bounds (text_of Check words CutWeight)).1;
      part = record { some = part.some; few = part.few; one_of = part.one_of; saves = part.saves };
      command = record {
        run = record {
          some = run.some;
          few = run.few;
          some_steps = run.some_steps;
          few_steps = run.few_steps;
          some_hub_steps = run.some_hub_steps;
          few_hub_steps = run.few_hub_steps;
          some_asks = run.some_asks;
          few_asks = run.few_asks;
          apart = run.apart;
          some_workers = run.some_workers;
          few_workers = run.few_workers;
        };
        in_order = range.in_order;
        within = range.within;
        some_thin = thin.0;
        few_thin = thin.1;
      };
    }
