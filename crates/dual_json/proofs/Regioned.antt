-- The regions that are read against their definition.
use Rattle.std.proofs.Common.{◌≡◌, ℕ, ◌<◌, ◌≤◌, Bool, true, false, not, List, length, get_or, Option, Some, None, Ok, refl, sym, ap, ◌∙◌, inr, arith}
use Rattle.std.specs.Prelude.{nat_lt, cond, unwrap_or}
use Rattle.std.specs.Option.{option_or, option_map, is_some, is_none}
use Rattle.std.specs.Str.{is_utf8}
use Rattle.std.proofs.lemmas.Bool.{ltb-false}
use Rattle.std.proofs.lemmas.List.Elements.{All-from_get_or}
use Rattle.serde_json.specs.Data.{Data, null}
use Rattle.serde_json.specs.Read.{read}
use Rattle.audit_model.specs.declared.fault.GraphFault.{GraphFault}
use Rattle.audit_model.specs.declared.fault.GraphFault.TheVariants as fault
use Rattle.audit_model.specs.declared.fault.Part.{Part}
use Rattle.audit_model.specs.declared.fault.RegionFault.TheVariants.{Missing, BadLabel, TooMany}
use Rattle.audit_model.specs.declared.setting.Columns.{Columns}
use Rattle.audit_model.specs.declared.setting.Label.{Label}
use Rattle.audit_model.specs.Limits.{AreRegions}
use Rattle.audit_model.specs.Parsed.{Parsed}
use Rattle.audit_model.proofs.Options.{none_or, option_or_none}
use Rattle.audit_model.proofs.First.{or_some}
use Rattle.audit_statement.specs.Reading.{Document, document, reading, of_root, accepted_or, bad_part, refusal, parsed, refused_if}
use Rattle.audit_statement.specs.Regions.{as_districts, document_of, region_fault, region_reading, regions, regions_or}
use Rattle.dual_json.specs.Districts.{different_count}
use Rattle.dual_json.specs.Numbered.{first_without, AreNumbered}
use Rattle.dual_json.specs.Places.{first_unnamed, AreLabels}
use Rattle.dual_json.proofs.Bridge.{different_same, start_same, reading_of}
use Rattle.dual_json.proofs.Shapes.{is_refused, not_refused}

-- ---- faults

-- an option is empty exactly if its image is
pub absent_is : {A B : Type 0} → (f : A → B) (o : Option A) (found : Option B) (b : Bool) → option_map f o ≡ found → is_some o ≡ not b → is_none found ≡ b
absent_is f None found true is e = ap is_none (sym is)
absent_is f None found false is e = cc e
absent_is f (Some x) found true is e = cc e
absent_is f (Some x) found false is e = ap is_none (sym is)

-- if each node has the column, the fault is the first one without a label
pub fault_unlabelled : (d : Document) (column : List ℕ) (node : ℕ) → first_without column d.nodes ≡ None → first_unnamed column d.nodes ≡ Some node → region_fault d column ≡ Some (BadLabel node)
fault_unlabelled d column node all bad =
    none_or (option_map Missing (first_without column d.nodes)) _ (ap (option_map Missing) all)
    ∙ or_some (option_map BadLabel (first_unnamed column d.nodes)) _ (BadLabel node) (ap (option_map BadLabel) bad)

-- if each node has a label, only their number can be a fault
fault_counted : (d : Document) (column : List ℕ) (labels : List Label) → first_without column d.nodes ≡ None → first_unnamed column d.nodes ≡ None → AreLabels column d.nodes labels
    → region_fault d column ≡ option_or (refused_if (nat_lt 5000 (different_count labels)) (TooMany (different_count labels))) None
fault_counted d column labels all named are =
    none_or (option_map Missing (first_without column d.nodes)) _ (ap (option_map Missing) all)
    ∙ none_or (option_map BadLabel (first_unnamed column d.nodes)) _ (ap (option_map BadLabel) named)
    ∙ ap (λ n. option_or (refused_if (nat_lt 5000 n) (TooMany n)) None) (different_same d (as_districts column) labels are)

-- more than 5,000 distinct labels are refused
pub fault_many : (d : Document) (column : List ℕ) (labels : List Label) → first_without column d.nodes ≡ None → first_unnamed column d.nodes ≡ None → AreLabels column d.nodes labels
    → nat_lt 5000 (different_count labels) ≡ true → region_fault d column ≡ Some (TooMany (different_count labels))
fault_many d column labels all named are many =
    fault_counted d column labels all named are
    ∙ or_some (refused_if (nat_lt 5000 (different_count labels)) (TooMany (different_count labels))) None (TooMany (different_count labels)) (is_refused (nat_lt 5000 (different_count labels)) (TooMany (different_count labels)) many)

-- at most 5,000 distinct labels are accepted
pub fault_none : (d : Document) (column : List ℕ) (labels : List Label) → first_without column d.nodes ≡ None → first_unnamed column d.nodes ≡ None → AreLabels column d.nodes labels
    → nat_lt 5000 (different_count labels) ≡ false → region_fault d column ≡ None
fault_none d column labels all named are few =
    fault_counted d column labels all named are
    ∙ none_or (refused_if (nat_lt 5000 (different_count labels)) (TooMany (different_count labels))) None (not_refused (nat_lt 5000 (different_count labels)) (TooMany (different_count labels)) few)

-- ---- the numbers

-- the numbers of the labels are the document's regions
pub regions_are : (d : Document) (column : List ℕ) (labels : List Label) (numbers : List ℕ) → AreLabels column d.nodes labels → AreNumbered labels numbers → regions d column ≡ numbers
regions_are d column labels numbers are numbered = start_same d (as_districts column) labels numbered.found numbers are numbered.districts

-- the numbers of the labels are within the limits
pub regions_within : (nodes : List Data) (column : List ℕ) (labels : List Label) (numbers : List ℕ) (units : ℕ) → units ≡ length nodes → AreLabels column nodes labels → AreNumbered labels numbers → AreRegions units numbers
regions_within nodes column labels numbers units long are numbered = record {
  width = inr (numbered.districts.count ∙ are.count ∙ sym long);
  few = All-from_get_or (λ r. r < 5000) numbers 0 (λ k l.
      let inside : get_or numbers k 0 < length numbered.found = numbered.districts.inside k (omega (arith, l, numbered.districts.count)) in
      let few = numbered.few in
      omega (arith, inside, few));
}

-- ---- a text accepted as a graph

-- an accepted document has no fault, and is the result
first_refused : (o : Option GraphFault) (p : Parsed) (r : Parsed) → accepted_or p o ≡ Ok r → (o ≡ None) × (p ≡ r)
first_refused None p r is = (refl, cc is)
first_refused (Some f) p r is = cc is

-- an accepted root has no part of wrong shape
pub no_bad_part : (o : Option Part) (columns : Columns) (root : Data) (r : Parsed) → of_root columns root o ≡ Ok r → o ≡ None
no_bad_part None columns root r is = refl
no_bad_part (Some p) columns root r is = cc is

-- without a fault, there are not too many nodes
few_by : (b : Bool) (n : ℕ) (rest : Option GraphFault) → nat_lt 100000 n ≡ b → option_or (refused_if b (fault.TooManyUnits n)) rest ≡ None → n ≤ 100000
few_by true n rest is none = cc none
few_by false n rest is none = ltb-false 100000 n is

module _ (bytes : List ℕ) (columns : Columns) (root : Data) (r : Parsed) (is : cond (is_utf8 bytes) (read bytes) None ≡ Some root) (accepted : reading bytes columns ≡ Ok r) where
  pub root_accepted : of_root columns root (bad_part root) ≡ Ok r
  root_accepted = sym (reading_of bytes columns root is) ∙ accepted

  pub part_none : bad_part root ≡ None
  part_none = no_bad_part (bad_part root) columns root r root_accepted

  pub document_read : (d : Document) → document root ≡ d → (refusal d columns ≡ None) × (parsed d columns ≡ r)
  document_read d same =
      first_refused (refusal d columns) (parsed d columns) r
      (sym (ap (λ (x : Document). accepted_or (parsed x columns) (refusal x columns)) same) ∙ sym (ap (of_root columns root) part_none) ∙ root_accepted)

  pub few_nodes : (d : Document) → document root ≡ d → length d.nodes ≤ 100000
  few_nodes d same = few_by (nat_lt 100000 (length d.nodes)) (length d.nodes) _ refl (option_or_none _ _ (option_or_none _ _ (document_read d same).0).1).1

  pub units_are : (d : Document) → document root ≡ d → r.graph.units ≡ length d.nodes
  units_are d same = ap (λ (p : Parsed). p.graph.units) (sym (document_read d same).1)

-- the document of the bytes is that of their root
pub document_is_of : (bytes : List ℕ) (root : Data) → cond (is_utf8 bytes) (read bytes) None ≡ Some root → document_of bytes ≡ document root
document_is_of bytes root is = ap (λ (o : Option Data). document (unwrap_or o null)) is

-- the regions of the bytes are those of their document, or its fault
pub region_reading_of : (bytes column : List ℕ) (root : Data) (d : Document) → cond (is_utf8 bytes) (read bytes) None ≡ Some root → document root ≡ d
    → region_reading bytes column ≡ regions_or (regions d column) (region_fault d column)
unfolding region_reading
region_reading_of bytes column root d is same = ap (λ (x : Document). regions_or (regions x column) (region_fault x column)) (document_is_of bytes root is ∙ same)
