use Rattle.std.proofs.Common.{◌≡◌, ℕ, zero, suc, ◌-◌, Bool, List, [], ◌∷◌, length, Some, ap, arith}
use Rattle.std.specs.Prelude.{slice_get}
use Rattle.tally_desk.specs.declared.entry.Entry.{Entry}
use Rattle.tally_desk.specs.Entries.{ends_saved_from}
use Rattle.tally_desk.proofs.state.ends_saved.Goals as goal

some_is : (x y : Entry) → Some x ≡ Some y → x.saved ≡ y.saved
some_is x y e = let same : x ≡ y = cc in ap (λ (z : Entry). z.saved) same

ends_at : (b : Bool) (xs : List Entry) (k : ℕ) (e : Entry) → k ≡ length xs - 1 → Some e ≡ slice_get xs k → e.saved ≡ ends_saved_from b xs
ends_at b [] k e is at = cc
ends_at b (x ∷ []) zero e is at = some_is e x at
ends_at b (x ∷ []) (suc k) e is at = absurd (omega arith)
ends_at b (x ∷ y ∷ ys) zero e is at = absurd (omega arith)
ends_at b (x ∷ y ∷ ys) (suc k) e is at = ends_at x.saved (y ∷ ys) k e (omega arith) at

pub returns-in-Some : goal.returns-in-Some
returns-in-Some c = ends_at _ c.args.posted.now _ c.in-Some.entry.now (omega arith) c.in-Some.ensures.value
