-- The newest slot, and the place beside it.
use Rattle.std.proofs.Common.{◌≡◌, ◌⊎◌, inl, inr, ℕ, ◌+◌, ◌-◌, Bool, true, false, cond, Option, Some, None, sym, ap}
use Rattle.std.specs.Prelude.{◌==◌, ◌%◌}
use Rattle.audit_statement.specs.Slots.{Slot, generation_of, newest, newest_of, save_place, place_beside}

-- the newest slot is slot 0 or slot 1
pub newest_below : (first second : Slot) (n : ℕ) → newest first second ≡ Some n → (n ≡ 0) ⊎ (n ≡ 1)
newest_below first second n e = by (generation_of first) (generation_of second) e
  where
    number : (m : ℕ) → Some m ≡ Some n → m ≡ n
    number m h = cc

    by_flag : (b : Bool) → cond b (Some 1) (Some 0) ≡ Some n → (n ≡ 0) ⊎ (n ≡ 1)
    by_flag true h = inr (sym (number 1 h))
    by_flag false h = inl (sym (number 0 h))

    by : (g h : Option ℕ) → newest_of g h ≡ Some n → (n ≡ 0) ⊎ (n ≡ 1)
    by None None h = cc
    by None (Some b) h = inr (sym (number 1 h))
    by (Some a) None h = inl (sym (number 0 h))
    by (Some a) (Some b) h = by_flag (b == (a + 1) % 3) h

-- the place of the next save is beside the newest slot
pub place_is_beside : (first second : Slot) (n : ℕ) → newest first second ≡ Some n → (save_place first second).0 ≡ 1 - n
place_is_beside first second n e = ap (λ o. (place_beside first second o).0) e
