use Rattle.std.proofs.Common.{◌≡◌, ◌≢◌, ℕ, ◌<◌, true, false, get_or}
use Rattle.contig.proofs.links.all_of.Given as goal

abbrev pub invariant-loop-place : goal.invariant-loop-place
invariant-loop-place l =
    (l.all ≡ true → (k : ℕ) → k < l.place → get_or l.plan (get_or l.row k 0) 0 ≡ l.district → get_or l.classes k 0 ≡ l.class)
    × (l.all ≡ false → (i : ℕ) × (i < l.place) × (get_or l.plan (get_or l.row i 0) 0 ≡ l.district) × (get_or l.classes i 0 ≢ l.class))
