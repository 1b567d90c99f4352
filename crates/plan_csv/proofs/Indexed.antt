-- An index of units by id text, unit by unit.
use Rattle.std.proofs.Common.{◌≡◌, ℕ, suc, ◌+◌, ◌<◌, List, [], ◌∷◌, length, Bool, true, false, cond, Option, Some, None, refl, sym, ap, ◌∙◌, subst, inl, inr, arith, bytes_eq}
use Rattle.std.specs.BTreeMap.{insert_entry}
use Rattle.std.specs.Cmp.Lexicographic.{slice_cmp, texts_ties, nat_list_eq_equiv, bytes_decides}
use Rattle.std.specs.Map.{lookup}
use Rattle.std.specs.Option.{option_or, option_map, unwrap_or}
use Rattle.std.specs.Ordering.{is_eq, nat_cmp, match_ordering}
use Rattle.std.specs.declared.cmp.Ordering.{Ordering}
use Rattle.std.specs.declared.cmp.Ordering.TheVariants.{Less, Equal, Greater}
use Rattle.std.proofs.lemmas.Bool.{cases_Bool, cond-true, cond-false, both_ways, false≢true}
use Rattle.audit_model.specs.Below.{any_below}
use Rattle.audit_model.specs.First.{first_below}
use Rattle.audit_model.specs.declared.fault.TableFault.TheVariants as fault
use Rattle.audit_model.specs.declared.setting.Label.{Label}
use Rattle.audit_model.proofs.First.{first_below_same, first_below_more, first_below_here, any_from_none, any_from_some}
use Rattle.audit_statement.specs.Table.{unit_text, is_shared, shared_id}
use Rattle.plan_csv.specs.Stages.{IsUnitIndex}

module _ {K : Type 0} (text : K → List ℕ) where
  -- a key's text is q
  abbrev is_text : List ℕ → K → Bool
  is_text q k = is_eq (slice_cmp nat_cmp q (text k))

  text_decided : (q : List ℕ) (k : K) → is_text q k ≡ bytes_eq q (text k)
  text_decided q k = sym (texts_ties q (text k))

  text_is : (q : List ℕ) (k : K) → is_text q k ≡ true → q ≡ text k
  text_is q k e = (bytes_decides q (text k)).0 (sym (text_decided q k) ∙ e)

  is_its : (q : List ℕ) (k : K) → q ≡ text k → is_text q k ≡ true
  is_its q k e = text_decided q k ∙ (bytes_decides q (text k)).1 e

  none_head : (b : Bool) (v : ℕ) (x : Option ℕ) → cond b (Some v) x ≡ None → (b ≡ false) × (x ≡ None)
  none_head true v x e = cc e
  none_head false v x e = (refl, e)

  swapped : (a b : Bool) (v w : ℕ) (x : Option ℕ) → (a ≡ true → b ≡ true → ⊥) → cond a (Some v) (cond b (Some w) x) ≡ cond b (Some w) (cond a (Some v) x)
  swapped true true v w x n = absurd (n refl refl)
  swapped true false v w x n = refl
  swapped false true v w x n = refl
  swapped false false v w x n = refl

  placed : (o : Ordering) (k : K) (v : ℕ) (e : K × ℕ) (es : List (K × ℕ)) (q : List ℕ) → is_eq o ≡ false → (is_text q e.0 ≡ true → is_text q k ≡ true → ⊥)
      → lookup (is_text q) (insert_entry (λ (a b : K). slice_cmp nat_cmp (text a) (text b)) es k v) ≡ cond (is_text q k) (Some v) (lookup (is_text q) es)
      → lookup (is_text q) (match_ordering o ((k, v) ∷ e ∷ es) ((e.0, v) ∷ es) (e ∷ insert_entry (λ (a b : K). slice_cmp nat_cmp (text a) (text b)) es k v)) ≡ cond (is_text q k) (Some v) (lookup (is_text q) (e ∷ es))
  placed Less k v e es q n apart below = refl
  placed Equal k v e es q n apart below = absurd (false≢true (sym n))
  placed Greater k v e es q n apart below =
      ap (λ o. cond (is_text q e.0) (Some e.1) o) below ∙ swapped (is_text q e.0) (is_text q k) e.1 v (lookup (is_text q) es) apart

  -- a lookup after a new key was inserted
  found_after : (es : List (K × ℕ)) (k : K) (v : ℕ) (q : List ℕ) → lookup (is_text (text k)) es ≡ None
      → lookup (is_text q) (insert_entry (λ (a b : K). slice_cmp nat_cmp (text a) (text b)) es k v) ≡ cond (is_text q k) (Some v) (lookup (is_text q) es)
  found_after [] k v q none = refl
  found_after (e ∷ es) k v q none =
      let parts = none_head (is_text (text k) e.0) e.1 (lookup (is_text (text k)) es) none in
      placed (slice_cmp nat_cmp (text k) (text e.0)) k v e es q parts.0
      (λ a b. both_ways (is_text (text k) e.0) parts.0 (is_its (text k) e.0 (sym (text_is q k b) ∙ text_is q e.0 a)))
      (found_after es k v q parts.1)

  -- the units below j are indexed, and no two of them share an id
  pub record IsIndexed (ids : List Label) (j : ℕ) (entries : List (K × ℕ)) : Type 0 where
    pub leads : (q : List ℕ) → lookup (λ k. is_eq (slice_cmp nat_cmp q (text k))) entries ≡ first_below j (λ u. bytes_eq q (unit_text ids [] [] u))
    pub none : first_below j (λ other. any_below other (is_shared ids [] [] other)) ≡ None

  module _ (ids : List Label) (j : ℕ) (entries : List (K × ℕ)) (q : List ℕ) (before : IsIndexed ids j entries) (at : q ≡ unit_text ids [] [] j) where
    shared_by : first_below j (is_shared ids [] [] j) ≡ lookup (is_text q) entries
    shared_by =
        first_below_same j (is_shared ids [] [] j) (λ u. bytes_eq q (unit_text ids [] [] u))
        (λ u l. nat_list_eq_equiv.symm (unit_text ids [] [] u) (unit_text ids [] [] j) ∙ ap (λ t. bytes_eq t (unit_text ids [] [] u)) (sym at))
        ∙ sym (before.leads q)

    pub shared_here : (one : ℕ) → j < length ids → lookup (is_text q) entries ≡ Some one → shared_id ids [] [] ≡ Some (fault.SharedId one j)
    shared_here one l found =
        let here : first_below j (is_shared ids [] [] j) ≡ Some one = shared_by ∙ found in
        ap (option_map (λ other. fault.SharedId (unwrap_or (first_below other (is_shared ids [] [] other)) 0) other))
        (first_below_here (length ids) j (λ other. any_below other (is_shared ids [] [] other)) before.none l (any_from_some j (is_shared ids [] [] j) one here))
        ∙ ap (λ o. Some (fault.SharedId (unwrap_or o 0) j)) here

    module _ (key : K) (key_is : text key ≡ q) (absent : lookup (is_text q) entries ≡ None) where
      one_more : (p : List ℕ) → cond (is_text p key) (Some j) (lookup (is_text p) entries) ≡ option_or (first_below j (λ u. bytes_eq p (unit_text ids [] [] u))) (cond (bytes_eq p (unit_text ids [] [] j)) (Some j) None)
      one_more p = elim (cases_Bool (is_text p key)) [
        | inl same ↦
            let is_q : p ≡ q = text_is p key same ∙ key_is in
            let none : first_below j (λ u. bytes_eq p (unit_text ids [] [] u)) ≡ None = sym (before.leads p) ∙ ap (λ t. lookup (is_text t) entries) is_q ∙ absent in
            cond-true (is_text p key) (Some j) (lookup (is_text p) entries) same
            ∙ sym (ap (λ o. option_or o (cond (bytes_eq p (unit_text ids [] [] j)) (Some j) None)) none
            ∙ cond-true (bytes_eq p (unit_text ids [] [] j)) (Some j) None ((bytes_decides p (unit_text ids [] [] j)).1 (is_q ∙ at)))
        | inr off ↦
            let other : bytes_eq p (unit_text ids [] [] j) ≡ false =
            ap (bytes_eq p) (sym at ∙ sym key_is) ∙ sym (text_decided p key) ∙ off in
            cond-false (is_text p key) (Some j) (lookup (is_text p) entries) off ∙ before.leads p
            ∙ sym (ap (λ o. option_or (first_below j (λ u. bytes_eq p (unit_text ids [] [] u))) o) (cond-false (bytes_eq p (unit_text ids [] [] j)) (Some j) None other)
            ∙ or_nothing (first_below j (λ u. bytes_eq p (unit_text ids [] [] u))))
      ]
        where
          or_nothing : (x : Option ℕ) → option_or x None ≡ x
          or_nothing None = refl
          or_nothing (Some a) = refl

      pub indexed_more : (new : List (K × ℕ)) → new ≡ insert_entry (λ (a b : K). slice_cmp nat_cmp (text a) (text b)) entries key j → IsIndexed ids (j + 1) new
      indexed_more new is =
          let next : suc j ≡ j + 1 = omega arith in
          let none : lookup (is_text (text key)) entries ≡ None = ap (λ t. lookup (is_text t) entries) key_is ∙ absent in
          record {
            leads = λ p. ap (lookup (is_text p)) is ∙ found_after entries key j p none ∙ one_more p ∙ ap (λ m. first_below m (λ u. bytes_eq p (unit_text ids [] [] u))) next;
            none = first_below_more j (λ other. any_below other (is_shared ids [] [] other)) before.none (any_from_none j (is_shared ids [] [] j) (shared_by ∙ absent));
          }

  pub indexed_all : (ids : List Label) (j : ℕ) (entries : List (K × ℕ)) → j ≡ length ids → IsIndexed ids j entries → (shared_id ids [] [] ≡ None) × IsUnitIndex text ids entries
  indexed_all ids j entries all is = (
    ap (option_map (λ other. fault.SharedId (unwrap_or (first_below other (is_shared ids [] [] other)) 0) other))
        (subst (λ (m : ℕ). first_below m (λ other. any_below other (is_shared ids [] [] other)) ≡ None) all is.none),
    λ q. is.leads q ∙ ap (λ m. first_below m (λ u. bytes_eq q (unit_text ids [] [] u))) all,
  )
