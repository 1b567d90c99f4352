-- Hashing bytes piece by piece.
use Rattle.std.proofs.Common.{◌≡◌, ℕ, ◌+◌, ◌<◌, true, List, [], ◌∷◌, ◌++◌, length, get_or, take, sym, ap, subst, ◌∙◌, add-one, append_assoc, append-nil}
use Rattle.std.specs.List.{flat_map}
use Rattle.std.specs.Int.{w32, to_be_bytes}
use Rattle.std.proofs.lemmas.List.{flat_map_more, take_more}
use Rattle.sha2.specs.Hashers.{Holds256}
use Rattle.sha2.specs.declared.Sha256.{Sha256}
use Rattle.audit_model.specs.Below.{map_below}
use Rattle.audit_model.specs.Job.{Job, rules}
use Rattle.audit_model.specs.Graph.{count_edges}
use Rattle.audit_statement.specs.Checkpoint.{first_bytes, has_lengths, has_rules, has_weight, job_bytes, edge_bytes, length_bytes, rule_bytes, unit_bytes, weight_bytes}
use Rattle.ckpt_format.specs.Hashed.{Hashes, ask_bytes, counts_bytes, setting_bytes}

-- nothing was hashed
pub hashes_none : (a : Sha256) → Hashes a a []
hashes_none a = record { taken = λ before hashed. subst (Holds256 a) (sym (append-nil before)) hashed }

-- the hashed bytes may be replaced by an equal list
pub hashes_same : (a b : Sha256) (xs ys : List ℕ) → xs ≡ ys → Hashes a b xs → Hashes a b ys
hashes_same a b xs ys same one = subst (Hashes a b) same one

-- one part is hashed after the other
pub hashes_then : (a b c : Sha256) (xs ys : List ℕ) → Hashes a b xs → Hashes b c ys → Hashes a c (xs ++ ys)
hashes_then a b c xs ys first second = record {
  taken = λ before hashed. subst (Holds256 c) (append_assoc before xs ys) (second.taken (before ++ xs) (first.taken before hashed));
}

-- one more piece is hashed for each item of a list
pub hashes_more : {X : Type 0} (f : X → List ℕ) (xs : List X) (i : ℕ) (d : X) (a b c : Sha256) → i < length xs
    → Hashes a b (flat_map f (take i xs)) → Hashes b c (f (get_or xs i d)) → Hashes a c (flat_map f (take (i + 1) xs))
hashes_more f xs i d a b c l first second =
    let next : flat_map f (take i xs) ++ f (get_or xs i d) ≡ flat_map f (take (i + 1) xs) =
    flat_map_more f [] (take i xs) (get_or xs i d) ∙ ap (flat_map f) (sym (take_more xs i d l)) in
    hashes_same a c _ _ next (hashes_then a b c (flat_map f (take i xs)) (f (get_or xs i d)) first second)

-- one more piece is hashed for each number
pub hashes_next : (f : ℕ → List ℕ) (n : ℕ) (a b c : Sha256) → Hashes a b (flat_map f (map_below n (λ u. u))) → Hashes b c (f n)
    → Hashes a c (flat_map f (map_below (n + 1) (λ u. u)))
hashes_next f n a b c first second =
    let numbers : map_below (n + 1) (λ u. u) ≡ map_below n (λ u. u) ++ n ∷ [] = ap (λ m. map_below m (λ u. u)) (add-one n) in
    let next : flat_map f (map_below n (λ u. u)) ++ f n ≡ flat_map f (map_below (n + 1) (λ u. u)) =
    flat_map_more f [] (map_below n (λ u. u)) n ∙ ap (flat_map f) (sym numbers) in
    hashes_same a c _ _ next (hashes_then a b c (flat_map f (map_below n (λ u. u))) (f n) first second)

-- the parts of a job's digest, with those of the counts and of the setting grouped or one by one
grouped : (f x y z e u s k w t n h q a r l v : List ℕ)
    → f ++ (x ++ y ++ z) ++ e ++ u ++ (s ++ k ++ w ++ t ++ n ++ h ++ q ++ a) ++ r ++ l ++ v ≡ f ++ x ++ y ++ z ++ e ++ u ++ s ++ k ++ w ++ t ++ n ++ h ++ q ++ a ++ r ++ l ++ v
grouped f x y z e u s k w t n h q a r l v = simp append_assoc

-- a hasher that took in all parts gives the job's digest
pub digest_of_parts : (job : Job) (start named counts edges units asked ruled long end : Sha256) → Holds256 start []
    → Hashes start named (first_bytes (has_weight job.setting.cut_weight) (has_lengths job.counts.lengths) (rules job))
    → Hashes named counts (counts_bytes job.graph.units (count_edges job.graph (λ u v. true)) job.districts)
    → Hashes counts edges (edge_bytes job.graph) → Hashes edges units (flat_map (unit_bytes job) (map_below job.graph.units (λ u. u)))
    → Hashes units asked (setting_bytes job.setting) → Hashes asked ruled (rule_bytes (has_rules (rules job)) job.graph.units (rules job))
    → Hashes ruled long (length_bytes job.setting.max_length job.counts.lengths) → Hashes long end (weight_bytes job.setting.cut_weight) → Holds256 end (job_bytes job)
digest_of_parts job start named counts edges units asked ruled long end empty name a b c d e f g =
    let whole = hashes_then _ _ _ _ _ (hashes_then _ _ _ _ _ (hashes_then _ _ _ _ _ (hashes_then _ _ _ _ _ (hashes_then _ _ _ _ _ (hashes_then _ _ _ _ _ (hashes_then _ _ _ _ _ name a) b) c) d) e) f) g in
    let s = job.setting in
    let n = to_be_bytes w32 in
    subst (Holds256 end)
    (grouped (first_bytes (has_weight s.cut_weight) (has_lengths job.counts.lengths) (rules job)) (n job.graph.units) (n (count_edges job.graph (λ u v. true))) (n job.districts) (edge_bytes job.graph)
    (flat_map (unit_bytes job) (map_below job.graph.units (λ u. u))) (n s.slack) s.key (n s.walks) (n s.steps) (n s.ends) (n s.hub_steps) (n (length s.asks)) (flat_map ask_bytes s.asks) (rule_bytes (has_rules (rules job)) job.graph.units (rules job))
    (length_bytes s.max_length job.counts.lengths) (weight_bytes s.cut_weight)) (whole.taken [] empty)
