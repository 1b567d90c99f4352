-- Equal short lists without units.
use Rattle.std.proofs.Common.{◌≡◌, ℕ, zero, suc, [], List, map, replicate, get_or, refl, ap, ◌∙◌}
use Rattle.contig.specs.declared.short_list.ShortList.{ShortList}
use Rattle.contig.specs.Fillers.{units_in}

none_of : (n : ℕ) (x : ShortList) → units_in x ≡ [] → (d : ℕ) → get_or (map units_in (replicate n x)) d [] ≡ []
none_of zero x empty d = refl
none_of (suc n) x empty zero = empty
none_of (suc n) x empty (suc d) = none_of n x empty d

-- if each list is one without units, no list has a unit
pub none_listed : (xs : List ShortList) (n : ℕ) (x : ShortList) → xs ≡ replicate n x → units_in x ≡ [] → (d : ℕ) → get_or (map units_in xs) d [] ≡ []
none_listed xs n x all empty d = ap (λ (ys : List ShortList). get_or (map units_in ys) d []) all ∙ none_of n x empty d
