use Rattle.std.proofs.Common.{◌≡◌, List, true, refl, sym, subst, arith}
use Rattle.std.specs.List.{Any, Contains, dedup}
use Rattle.std.specs.List.Sorted.{IsStrictlySortedBy}
use Rattle.std.proofs.lemmas.List.Filters.{dedup_is}
use Rattle.std.proofs.lemmas.List.Kept.{Any-dedup, Contains-from_dedup, IsStrictlySortedBy-dedup}
use Rattle.std.proofs.lemmas.List.Sorted.{Contains-permutation, IsPermutation-sym}
use Rattle.dual_json.specs.Names.{name_cmp, same_name, name_equiv, name_total}
use Rattle.dual_json.specs.declared.names.NodeName.{NodeName}
use Rattle.dual_json.proofs.districts.different.Goals as goal

pub returns : goal.returns
returns c =
    let sorted : List NodeName = c.sort_unstable.new.self.items in
    let is : c.dedup.new.self.items ≡ dedup same_name sorted = dedup_is same_name sorted c.dedup.new.self.items c.dedup.ensures.filtered in
    record {
      rising = subst (λ (xs : List NodeName). IsStrictlySortedBy name_cmp xs) (sym is) (IsStrictlySortedBy-dedup name_total (λ a b. refl) sorted c.sort_unstable.ensures.sorted);
      short =
          let bound = c.dedup.ensures.bound in
          let same = c.sort_unstable.ensures.len in
          let one = c.in_ok-found.ensures.len in
          omega (arith, bound, same, one, c.dedup.new.self.ok.0, c.sort_unstable.new.self.ok.0, c.in_ok-found.found.ok.0);
      from = λ x h.
          let in_sorted = Contains-from_dedup same_name sorted x (subst (λ (xs : List NodeName). Contains xs x) is h) in
          subst (λ (xs : List NodeName). Contains xs x) c.in_ok-found.ensures.items
          (Contains-permutation sorted c.in_ok-found.found.items x (IsPermutation-sym c.in_ok-found.found.items sorted c.sort_unstable.ensures.permutation) in_sorted);
      to = λ x h.
          let in_copy = subst (λ (xs : List NodeName). Contains xs x) (sym c.in_ok-found.ensures.items) h in
          subst (λ (xs : List NodeName). Any (λ y. same_name x y ≡ true) xs) (sym is)
          (Any-dedup name_equiv sorted x (Contains-permutation c.in_ok-found.found.items sorted x c.sort_unstable.ensures.permutation in_copy));
    }
