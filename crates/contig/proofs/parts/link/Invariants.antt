use Rattle.std.proofs.Common.{◌≡◌, ℕ, ◌<◌, Bool, true, get_or, take}
use Rattle.audit_model.specs.Graph.{adjacent, IsIn}
use Rattle.contig.specs.Parts.{IsJoined, IsSpread}
use Rattle.contig.proofs.parts.link.Given as goal

abbrev pub invariant-loop-other : goal.invariant-loop-other
invariant-loop-other l = (inside : ℕ → Bool) → IsJoined l.graph inside l.marks.labels l.initial.roots
    → ((v : ℕ) → IsIn l.graph inside v → adjacent l.graph l.unit v ≡ true → 0 < get_or l.marks.labels v 0)
    → IsSpread l.graph inside (take l.other-index l.other-items) l.label l.marks l.marks l.initial.roots l.roots
