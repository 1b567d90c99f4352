-- Rules that only limit the cut edges.
use Rattle.std.proofs.Common.{◌≡◌, ℕ, ◌≤◌, Bool, true, false, ◌&&◌, List, [], refl, ap, ◌∙◌, arith}
use Rattle.std.specs.Prelude.{nat_le}
use Rattle.std.proofs.lemmas.Bool.{le-leb, and_from}
use Rattle.audit_model.specs.declared.rules.Rules.{Rules}
use Rattle.audit_model.specs.Limits.{most_edges}
use Rattle.audit_model.specs.Meets.{are_whole, keeps_frozen, majorities, meets_rules, split_regions, splits_in_all}
use Rattle.audit_model.proofs.Below.{count_below_zero}
use Rattle.flip_guard.specs.Limiting.{LimitNothing}

-- a conjunction of a test with tests that pass is that test
beside_passed : (a b c d e : Bool) → b ≡ true → c ≡ true → d ≡ true → e ≡ true → (a && b && c && d && e) ≡ a
beside_passed true b c d e hb hc hd he = and_from (b && c && d) e (and_from (b && c) d (and_from b c hb hc) hd) he
beside_passed false b c d e hb hc hd he = refl

-- without regions, required group majorities or frozen units, the cut edges decide
pub by_cut_alone : (rules : Rules) (cut : ℕ) (plan : List ℕ) → rules.regions ≡ [] → rules.group_districts ≡ 0 → rules.frozen ≡ []
    → meets_rules rules cut plan ≡ nat_le cut rules.max_cut
by_cut_alone rules cut plan none no_group unfrozen =
    let no_splits : splits_in_all rules.regions plan ≡ 0 = ap (λ regions. splits_in_all regions plan) none in
    let none_split : split_regions rules.regions plan ≡ 0 = ap (λ regions. split_regions regions plan) none ∙ count_below_zero _ in
    ap (λ kept. kept && nat_le cut rules.max_cut && are_whole rules.regions rules.max_split plan
    && nat_le (splits_in_all rules.regions plan) rules.max_splits && nat_le (split_regions rules.regions plan) rules.max_split_regions
    && nat_le rules.group_districts (majorities rules.group_share rules.group plan))
    (ap (λ frozen. keeps_frozen frozen rules.home plan) unfrozen)
    ∙ beside_passed (nat_le cut rules.max_cut) (are_whole rules.regions rules.max_split plan)
    (nat_le (splits_in_all rules.regions plan) rules.max_splits) (nat_le (split_regions rules.regions plan) rules.max_split_regions)
    (nat_le rules.group_districts (majorities rules.group_share rules.group plan))
    (ap (λ regions. are_whole regions rules.max_split plan) none) (le-leb _ _ (omega arith)) (le-leb _ _ (omega arith)) (le-leb _ _ (omega arith))

-- each plan meets rules that limit nothing
pub all_meet : (rules : Rules) → LimitNothing rules → (cut : ℕ) (plan : List ℕ) → cut ≤ most_edges → meets_rules rules cut plan ≡ true
all_meet rules free cut plan few = by_cut_alone rules cut plan free.no_regions free.no_group free.no_frozen ∙ le-leb cut rules.max_cut (omega (arith, few, free.all_cuts))
