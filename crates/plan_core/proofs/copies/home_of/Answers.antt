use Rattle.std.proofs.Common.{◌≡◌, ℕ, List, IfOk, sym, ◌∙◌, subst}
use Rattle.std.proofs.lemmas.List.{nil_from_length}
use Rattle.plan_core.proofs.Freezing.{home_of_none, home_of_some}
use Rattle.plan_core.proofs.copies.home_of.Goals as goal

pub returns-then-len-eq0 : goal.returns-then-len-eq0
returns-then-len-eq0 c =
    subst (λ (kept : List ℕ). IfOk c.copy.result (λ home. home ≡ kept))
    (sym (home_of_none c.args.frozen.now c.args.start.now (nil_from_length c.args.frozen.now (sym c.len.ensures ∙ c.if-len-eq0.true)))) c.copy.ensures

pub returns-else-len-eq0 : goal.returns-else-len-eq0
returns-else-len-eq0 c =
    subst (λ (kept : List ℕ). IfOk c.copy-else-len-eq0.result (λ home. home ≡ kept))
    (sym (home_of_some c.args.frozen.now c.args.start.now (λ none. c.if-len-eq0.false (c.len.ensures ∙ none)))) c.copy-else-len-eq0.ensures
