use Rattle.std.proofs.Common.{ℕ, ◌<◌, get_or, [], map}
use Rattle.outcome_book.specs.Union.{AgreesWith}
use Rattle.ckpt_store.proofs.collection.first_other.Given as goal

abbrev pub invariant-loop-number : goal.invariant-loop-number
invariant-loop-number l = record { agreed : (k : ℕ) → k < l.number → AgreesWith (get_or (map (λ (l : _). l.items) l.lists) k []) l.outcome }
