use Rattle.std.proofs.Common.{◌≡◌, drop, find, bytes_eq}
use Rattle.audit_words.specs.ArgumentBytes.{pairs_in}
use Rattle.audit_model.specs.Names.{name_text}
use Rattle.audit_words.proofs.pairs.find_value.Given as goal

abbrev pub invariant-loop-k : goal.invariant-loop-k
invariant-loop-k l = find (λ pair. bytes_eq pair.0 (name_text l.name)) (pairs_in l.words)
    ≡ find (λ pair. bytes_eq pair.0 (name_text l.name)) (drop l.k (pairs_in l.words))
