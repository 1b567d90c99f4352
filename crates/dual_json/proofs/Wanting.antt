-- Of a read text only the wanted members are kept.
use Rattle.std.proofs.Common.{◌≡◌, ℕ, List, Bool, true, false, Option, Some, None, option_map, refl, sym, ap, ◌∙◌}
use Rattle.std.specs.Prelude.{◌||◌, cond}
use Rattle.std.specs.Str.{bytes_eq, is_utf8}
use Rattle.std.proofs.lemmas.Slice.Eq.{bytes_eq-Decides}
use Rattle.json.specs.Json as json
use Rattle.json.specs.Json.{parse_map}
use Rattle.json.specs.Token.{Token}
use Rattle.serde_json.specs.Data.{Data, array, object, Items, item, Members}
use Rattle.serde_json.specs.Read.{read}
use Rattle.audit_model.specs.declared.fault.Column.{Column}
use Rattle.audit_model.specs.declared.fault.Column.TheVariants as column
use Rattle.audit_model.specs.declared.fault.Part.{Part}
use Rattle.audit_model.specs.declared.setting.Columns.{Columns}
use Rattle.audit_statement.specs.Reading.{Document, document, reading, of_root, bad_part, accepted_or, parsed, refusal}
use Rattle.dual_json.specs.Kept.{is_part, is_column, keep, keep_items, keep_members}
use Rattle.dual_json.proofs.Bridge.{reading_of}
use Rattle.dual_json.proofs.Facts.{key_at, accepted-kept, bad_part-kept, document-kept}

-- ---- parsers' results

abbrev pick : {A : Type 0} → A → Option A → A
pick d None = d
pick d (Some a) = a

-- a mapped result comes from one
pub mapped_some : {A B : Type 0} (f : A → B) (o : Option (A × List Token)) (b : B) (r : List Token) → parse_map f o ≡ Some (b, r) → (a : A) × (o ≡ Some (a, r)) × (f a ≡ b)
mapped_some f None b r e = absurd (cc)
mapped_some f (Some p) b r e = let same = ap (pick (f p.0, p.1)) e in (p.0, ap (λ s. Some (p.0, s)) (ap (λ q. q.1) same), ap (λ q. q.0) same)

-- nothing is mapped if the image is nothing
pub mapped_none : {A B : Type 0} (f : A → B) (o : Option (A × List Token)) → parse_map f o ≡ None → o ≡ None
mapped_none f None e = refl
mapped_none f (Some p) e = absurd (cc)

module _ (wants : List ℕ → Bool) where
  -- an array and an object are kept by their parts
  pub keep-array : (o : Option (Items × List Token)) → parse_map (keep wants) (parse_map array o) ≡ parse_map array (parse_map (keep_items wants) o)
  keep-array None = refl
  keep-array (Some p) = refl

  pub keep-object : (o : Option (Members × List Token)) → parse_map (keep wants) (parse_map object o) ≡ parse_map object (parse_map (keep_members wants) o)
  keep-object None = refl
  keep-object (Some p) = refl

  -- one more item is kept
  pub keep-item : (d e : Data) → keep wants d ≡ e → (o : Option (Items × List Token)) → parse_map (keep_items wants) (parse_map (item d) o) ≡ parse_map (item e) (parse_map (keep_items wants) o)
  keep-item d e is None = refl
  keep-item d e is (Some p) = ap (λ x. Some (item x (keep_items wants p.0), p.1)) is

-- ---- the wanted keys

left : (a b : Bool) → a ≡ true → a || b ≡ true
left a b e = ap (λ x. x || b) e

right : (a b : Bool) → b ≡ true → a || b ≡ true
right true b e = refl
right false b e = e

itself : (k : List ℕ) → bytes_eq k k ≡ true
itself k = (bytes_eq-Decides k k).1 refl

-- one of eight tests is passed
module _ (a b c d e f g h : Bool) where
  at_first : a ≡ true → a || (b || (c || (d || (e || (f || (g || h)))))) ≡ true
  at_first is = left a (b || (c || (d || (e || (f || (g || h)))))) is

  at_second : b ≡ true → a || (b || (c || (d || (e || (f || (g || h)))))) ≡ true
  at_second is = right a (b || (c || (d || (e || (f || (g || h)))))) (left b (c || (d || (e || (f || (g || h))))) is)

  at_third : c ≡ true → a || (b || (c || (d || (e || (f || (g || h)))))) ≡ true
  at_third is = right a (b || (c || (d || (e || (f || (g || h)))))) (right b (c || (d || (e || (f || (g || h))))) (left c (d || (e || (f || (g || h)))) is))

  at_rest : d || (e || (f || (g || h))) ≡ true → a || (b || (c || (d || (e || (f || (g || h)))))) ≡ true
  at_rest is = right a (b || (c || (d || (e || (f || (g || h)))))) (right b (c || (d || (e || (f || (g || h))))) (right c (d || (e || (f || (g || h)))) is))

  at_fourth : d ≡ true → a || (b || (c || (d || (e || (f || (g || h)))))) ≡ true
  at_fourth is = at_rest (left d (e || (f || (g || h))) is)

  at_fifth : e ≡ true → a || (b || (c || (d || (e || (f || (g || h)))))) ≡ true
  at_fifth is = at_rest (right d (e || (f || (g || h))) (left e (f || (g || h)) is))

  at_sixth : f ≡ true → a || (b || (c || (d || (e || (f || (g || h)))))) ≡ true
  at_sixth is = at_rest (right d (e || (f || (g || h))) (right e (f || (g || h)) (left f (g || h) is)))

  at_seventh : g ≡ true → a || (b || (c || (d || (e || (f || (g || h)))))) ≡ true
  at_seventh is = at_rest (right d (e || (f || (g || h))) (right e (f || (g || h)) (right f (g || h) (left g h is))))

  at_last : h ≡ true → a || (b || (c || (d || (e || (f || (g || h)))))) ≡ true
  at_last is = at_rest (right d (e || (f || (g || h))) (right e (f || (g || h)) (right f (g || h) (right g h is))))

module _ (columns : Columns) where
  -- the keys of columns are among the wanted ones
  pub column_key : (c : Column) → is_column columns (key_at columns c) ≡ true
  column_key column.Population = at_first (bytes_eq columns.population columns.population) (bytes_eq columns.population columns.first) (bytes_eq columns.population columns.second) (bytes_eq columns.population columns.district) (bytes_eq columns.population columns.group) (bytes_eq columns.population columns.whole) (bytes_eq columns.population columns.frozen) (bytes_eq columns.population columns.length) (itself columns.population)
  column_key column.First = at_second (bytes_eq columns.first columns.population) (bytes_eq columns.first columns.first) (bytes_eq columns.first columns.second) (bytes_eq columns.first columns.district) (bytes_eq columns.first columns.group) (bytes_eq columns.first columns.whole) (bytes_eq columns.first columns.frozen) (bytes_eq columns.first columns.length) (itself columns.first)
  column_key column.Second = at_third (bytes_eq columns.second columns.population) (bytes_eq columns.second columns.first) (bytes_eq columns.second columns.second) (bytes_eq columns.second columns.district) (bytes_eq columns.second columns.group) (bytes_eq columns.second columns.whole) (bytes_eq columns.second columns.frozen) (bytes_eq columns.second columns.length) (itself columns.second)
  column_key column.District = at_fourth (bytes_eq columns.district columns.population) (bytes_eq columns.district columns.first) (bytes_eq columns.district columns.second) (bytes_eq columns.district columns.district) (bytes_eq columns.district columns.group) (bytes_eq columns.district columns.whole) (bytes_eq columns.district columns.frozen) (bytes_eq columns.district columns.length) (itself columns.district)
  column_key column.Group = at_fifth (bytes_eq columns.group columns.population) (bytes_eq columns.group columns.first) (bytes_eq columns.group columns.second) (bytes_eq columns.group columns.district) (bytes_eq columns.group columns.group) (bytes_eq columns.group columns.whole) (bytes_eq columns.group columns.frozen) (bytes_eq columns.group columns.length) (itself columns.group)
  column_key column.Whole = at_sixth (bytes_eq columns.whole columns.population) (bytes_eq columns.whole columns.first) (bytes_eq columns.whole columns.second) (bytes_eq columns.whole columns.district) (bytes_eq columns.whole columns.group) (bytes_eq columns.whole columns.whole) (bytes_eq columns.whole columns.frozen) (bytes_eq columns.whole columns.length) (itself columns.whole)
  column_key column.Frozen = at_seventh (bytes_eq columns.frozen columns.population) (bytes_eq columns.frozen columns.first) (bytes_eq columns.frozen columns.second) (bytes_eq columns.frozen columns.district) (bytes_eq columns.frozen columns.group) (bytes_eq columns.frozen columns.whole) (bytes_eq columns.frozen columns.frozen) (bytes_eq columns.frozen columns.length) (itself columns.frozen)

  length_key : is_column columns columns.length ≡ true
  length_key = at_last (bytes_eq columns.length columns.population) (bytes_eq columns.length columns.first) (bytes_eq columns.length columns.second) (bytes_eq columns.length columns.district) (bytes_eq columns.length columns.group) (bytes_eq columns.length columns.whole) (bytes_eq columns.length columns.frozen) (bytes_eq columns.length columns.length) (itself columns.length)

  abbrev wants : List ℕ → Bool
  wants key = is_part key || is_column columns key

  of_root_by : (root : Data) (o : Option Part) → of_root columns (keep wants root) o ≡ of_root columns root o
  of_root_by root (Some p) = refl
  of_root_by root None =
      ap (λ (d : Document). accepted_or (parsed d columns) (refusal d columns)) (document-kept wants root refl refl refl refl)
      ∙ accepted-kept wants (document root) columns refl (λ c. right (is_part (key_at columns c)) (is_column columns (key_at columns c)) (column_key c)) (right (is_part columns.length) (is_column columns columns.length) length_key)

  of_root_kept : (root : Data) → of_root columns (keep wants root) (bad_part (keep wants root)) ≡ of_root columns root (bad_part root)
  of_root_kept root = ap (of_root columns (keep wants root)) (bad_part-kept wants root refl refl refl refl) ∙ of_root_by root (bad_part root)

  reading_by : (bytes : List ℕ) (kept : Data) (o : Option Data) → cond (is_utf8 bytes) (read bytes) None ≡ o → option_map (keep wants) o ≡ Some kept → reading bytes columns ≡ of_root columns kept (bad_part kept)
  reading_by bytes kept None is e = absurd (cc)
  reading_by bytes kept (Some root) is e =
      let same : keep wants root ≡ kept = ap (pick (keep wants root)) e in
      reading_of bytes columns root is ∙ sym (of_root_kept root) ∙ ap (λ d. of_root columns d (bad_part d)) same

  -- the graph of a text is read from what is kept
  pub reading_kept : (bytes : List ℕ) (kept : Data) → option_map (keep wants) (cond (is_utf8 bytes) (read bytes) None) ≡ Some kept → reading bytes columns ≡ of_root columns kept (bad_part kept)
  reading_kept bytes kept e = reading_by bytes kept (cond (is_utf8 bytes) (read bytes) None) refl e
