-- The faults before those of the labels, in their order.
use Rattle.std.proofs.Common.{◌≡◌, ℕ, List, [], ◌∷◌, length, Option, Some, None, refl, sym, ap, ◌∙◌}
use Rattle.std.specs.List.{slice_index_or}
use Rattle.std.specs.Option.{option_or}
use Rattle.audit_model.specs.declared.fault.TableFault.{TableFault}
use Rattle.audit_model.specs.declared.setting.Label.{Label}
use Rattle.audit_statement.specs.Table.{misses_header, too_many, bad_name, shared_id, unknown_id, repeated_unit, missing_unit, refused_count}
use Rattle.plan_csv.specs.Stages.{refused, later, unread, refused_units}

-- the first of three faults is the first of a longer list
among : (a b c rest : Option TableFault) (f : TableFault) → option_or a (option_or b (option_or c None)) ≡ Some f → option_or a (option_or b (option_or c rest)) ≡ Some f
among (Some x) b c rest f e = e
among None (Some x) c rest f e = e
among None None (Some x) rest f e = e
among None None None rest f e = cc e

-- if three options are none, the first fault is among the rest
past : (a b c rest : Option TableFault) → a ≡ None → b ≡ None → c ≡ None → option_or a (option_or b (option_or c rest)) ≡ rest
past (Some x) b c rest e f g = cc e
past None (Some x) c rest e f g = cc f
past None None (Some x) rest e f g = cc g
past None None None rest e f g = refl

-- the first of four faults is the first of a longer list
among_four : (a b c d rest : Option TableFault) (f : TableFault) → option_or a (option_or b (option_or c (option_or d None))) ≡ Some f → option_or a (option_or b (option_or c (option_or d rest))) ≡ Some f
among_four (Some x) b c d rest f e = e
among_four None b c d rest f e = among b c d rest f e

-- if four options are none, the first fault is among the rest
past_four : (a b c d rest : Option TableFault) → option_or a (option_or b (option_or c (option_or d None))) ≡ None → option_or a (option_or b (option_or c (option_or d rest))) ≡ rest
past_four (Some x) b c d rest e = cc e
past_four None (Some x) c d rest e = cc e
past_four None None (Some x) d rest e = cc e
past_four None None None (Some x) rest e = cc e
past_four None None None None rest e = refl

module _ (ids : List Label) (header : List (List ℕ)) (entries : List (List (List ℕ))) where
  abbrev count : Option TableFault
  count = refused_count [] header entries

  abbrev after_heads : Option TableFault
  after_heads = option_or (shared_id ids [] entries) (option_or (unknown_id ids [] entries) (option_or (repeated_unit ids [] entries) (option_or (missing_unit ids [] entries) (option_or count None))))

  module _ (two : misses_header [] header [] ≡ None) (few : too_many [] header [] ≡ None) (named : bad_name [] header [] ≡ None) where
    past_heads : later ids header entries ≡ after_heads
    past_heads = past (misses_header [] header []) (too_many [] header []) (bad_name [] header []) after_heads two few named

    pub units_first : (f : TableFault) → refused_units ids entries ≡ Some f → later ids header entries ≡ Some f
    units_first f e = past_heads ∙ among_four (shared_id ids [] entries) (unknown_id ids [] entries) (repeated_unit ids [] entries) (missing_unit ids [] entries) (option_or count None) f e

    module _ (units : refused_units ids entries ≡ None) where
      past_units : later ids header entries ≡ option_or count None
      past_units = past_heads ∙ past_four (shared_id ids [] entries) (unknown_id ids [] entries) (repeated_unit ids [] entries) (missing_unit ids [] entries) (option_or count None) units

      pub count_first : (f : TableFault) → refused_count [] header entries ≡ Some f → later ids header entries ≡ Some f
      count_first f e = past_units ∙ ap (λ o. option_or o None) e

      pub none_later : refused_count [] header entries ≡ None → later ids header entries ≡ None
      none_later e = past_units ∙ ap (λ o. option_or o None) e

-- an unreadable record is the first fault
pub unread_first : (ids : List Label) (rows : List (List (List ℕ))) (f : TableFault) → unread (length (slice_index_or rows 0 [])) rows ≡ Some f → refused ids rows ≡ Some f
unread_first ids [] f e = cc e
unread_first ids (header ∷ entries) f e = ap (λ o. option_or o (later ids header entries)) e

abbrev head : List (List (List ℕ)) → List (List ℕ)
head [] = []
head (x ∷ xs) = x

abbrev rest_of : List (List (List ℕ)) → List (List (List ℕ))
rest_of [] = []
rest_of (x ∷ xs) = xs

-- if all records are readable, the first fault is one of the later ones
pub past_unread : (ids : List Label) (header : List (List ℕ)) (entries rows : List (List (List ℕ))) → header ∷ entries ≡ rows → unread (length (slice_index_or rows 0 [])) rows ≡ None → refused ids rows ≡ later ids header entries
past_unread ids header entries [] is e = cc is
past_unread ids header entries (h ∷ es) is e = ap (λ o. option_or o (later ids h es)) e ∙ ap (λ (rs : List (List (List ℕ))). later ids (head rs) (rest_of rs)) (sym is)
