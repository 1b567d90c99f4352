-- Records read as texts, one after another.
use Rattle.std.proofs.Common.{◌≡◌, ◌≢◌, ◌<◌, ◌+◌, ◌==◌, ◌||◌, ◌++◌, ℕ, zero, suc, List, [], ◌∷◌, length, map, not, Some, None, Bool, true, false, refl, sym, ap, ◌∙◌, subst, arith, length-append, append_assoc, eq-eqb}
use Rattle.std.specs.List.{list_all, slice_index_or}
use Rattle.std.specs.Option.{option_map}
use Rattle.std.specs.Str.{is_utf8}
use Rattle.std.proofs.lemmas.Bool.{eqb-true, and_from, and_parts}
use Rattle.std.proofs.lemmas.List.{length-map, map-append}
use Rattle.std.proofs.lemmas.Str.{IsUtf8-from_is_utf8, is_utf8-from_IsUtf8}
use Rattle.csv.specs.Records.{AllText, Row, fields_of, field_at}
use Rattle.audit_model.specs.First.{first_below}
use Rattle.audit_model.specs.declared.fault.TableFault.TheVariants as fault
use Rattle.audit_model.proofs.First.{first_below_more, first_below_here}
use Rattle.plan_csv.specs.Stages.{is_unread, unread}

-- a missing field reads as empty
pub none_there : (fields : List (List ℕ)) (i : ℕ) → field_at fields i ≡ None → slice_index_or fields i [] ≡ []
unfolding field_at
none_there [] i e = refl
none_there (f ∷ fs) zero e = cc e
none_there (f ∷ fs) (suc i) e = none_there fs i e

-- if all fields are UTF-8, all pass the test
all_text : (row : List (List ℕ)) → AllText row → list_all is_utf8 row ≡ true
unfolding AllText
all_text [] h = refl
all_text (f ∷ fs) h = and_from (is_utf8 f) (list_all is_utf8 fs) (is_utf8-from_IsUtf8 f h.0) (all_text fs h.1)

-- if all fields pass the test, all are UTF-8
text_all : (row : List (List ℕ)) → list_all is_utf8 row ≡ true → AllText row
unfolding AllText
text_all [] h = tt
text_all (f ∷ fs) h = let parts = and_parts (is_utf8 f) (list_all is_utf8 fs) h in (IsUtf8-from_is_utf8 f parts.0, text_all fs parts.1)

-- a record with the right width and UTF-8 fields is readable
pub readable : (columns : ℕ) (row : List (List ℕ)) → length row ≡ columns → AllText row → is_unread columns row ≡ false
readable columns row l t = tests (length row == columns) (list_all is_utf8 row) (eq-eqb (length row) columns l) (all_text row t)
  where
    tests : (a b : Bool) → a ≡ true → b ≡ true → (not a || not b) ≡ false
    tests true true e f = refl
    tests true false e f = sym f
    tests false b e f = cc e

-- a record with another width is unreadable
pub uneven : (columns : ℕ) (row : List (List ℕ)) → length row ≢ columns → is_unread columns row ≡ true
uneven columns row n = tests (length row == columns) (list_all is_utf8 row) (λ e. n (eqb-true (length row) columns e))
  where
    tests : (a b : Bool) → (a ≡ true → ⊥) → (not a || not b) ≡ true
    tests true b f = absurd (f refl)
    tests false b f = refl

-- a record with a field that is not UTF-8 is unreadable
pub broken : (columns : ℕ) (row : List (List ℕ)) → (AllText row → ⊥) → is_unread columns row ≡ true
broken columns row n = tests (length row == columns) (list_all is_utf8 row) (λ e. n (text_all row e))
  where
    tests : (a b : Bool) → (b ≡ true → ⊥) → (not a || not b) ≡ true
    tests a true f = absurd (f refl)
    tests true false f = refl
    tests false false f = refl

-- the records read so far, and those left
pub record IsRead (columns : ℕ) (rows : List (List (List ℕ))) (texts left : List Row) : Type 0 where
  pub split : map fields_of texts ++ map fields_of left ≡ rows
  pub none : first_below (length texts) (λ r. is_unread columns (slice_index_or rows r [])) ≡ None

-- the record after those read is the next one
at_split : (done rest : List (List (List ℕ))) (row : List (List ℕ)) → slice_index_or (done ++ row ∷ rest) (length done) [] ≡ row
at_split [] rest row = refl
at_split (d ∷ done) rest row = at_split done rest row

module _ (columns : ℕ) (rows : List (List (List ℕ))) (texts left after : List Row) (row : Row) (before : IsRead columns rows texts left) (taken : left ≡ row ∷ after) where
  whole : map fields_of texts ++ (fields_of row ∷ map fields_of after) ≡ rows
  whole = ap (λ (l : List Row). map fields_of texts ++ map fields_of l) (sym taken) ∙ before.split

  here : slice_index_or rows (length texts) [] ≡ fields_of row
  here =
      ap (λ (rs : List (List (List ℕ))). slice_index_or rs (length texts) []) (sym whole)
      ∙ ap (λ k. slice_index_or (map fields_of texts ++ (fields_of row ∷ map fields_of after)) k []) (sym (length-map texts fields_of))
      ∙ at_split (map fields_of texts) (map fields_of after) (fields_of row)

  inside : length texts < length rows
  inside = omega (arith, ap length whole, length-append (map fields_of texts) (fields_of row ∷ map fields_of after), length-map texts fields_of)

  pub unread_here : is_unread columns (fields_of row) ≡ true → unread columns rows ≡ Some (fault.Unreadable (length texts))
  unread_here bad =
      ap (option_map fault.Unreadable)
      (first_below_here (length rows) (length texts) (λ r. is_unread columns (slice_index_or rows r [])) before.none inside (ap (is_unread columns) here ∙ bad))

  pub read_more : (new : List Row) (text : Row) → new ≡ texts ++ text ∷ [] → fields_of text ≡ fields_of row → is_unread columns (fields_of row) ≡ false → IsRead columns rows new after
  read_more new text is same good = record {
    split =
        ap (λ (l : List Row). map fields_of l ++ map fields_of after) is
        ∙ ap (λ l. l ++ map fields_of after) (map-append fields_of texts (text ∷ []))
        ∙ append_assoc (map fields_of texts) (fields_of text ∷ []) (map fields_of after)
        ∙ ap (λ f. map fields_of texts ++ (f ∷ map fields_of after)) same
        ∙ whole;
    none =
        let size : length texts + 1 ≡ length new = omega (arith, ap length is, length-append texts (text ∷ [])) in
        subst (λ k. first_below k (λ r. is_unread columns (slice_index_or rows r [])) ≡ None) size
        (first_below_more (length texts) (λ r. is_unread columns (slice_index_or rows r [])) before.none (ap (is_unread columns) here ∙ good));
  }
