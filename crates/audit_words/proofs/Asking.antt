-- The asks that parts of a text spell.
use Rattle.std.proofs.Common.{◌≡◌, ◌≢◌, ◌∙◌, ℕ, true, false, not, List, [], ◌∷◌, length, ap, arith, refl, sym, subst, Option, Some, None}
use Rattle.std.proofs.lemmas.Bool.{and_parts, false≢true, not-true, or_parts}
use Rattle.std.proofs.lemmas.List.Elements.{All-cons, All-nil}
use Rattle.std.proofs.lemmas.List.Kept.{AllPairs-cons}
use Rattle.std.proofs.lemmas.Slice.Eq.{bytes_eq-Decides}
use Rattle.std.specs.Prelude.{bytes_eq}
use Rattle.std.specs.List.{All, AllPairs, cons_option, filter_map, list_any}
use Rattle.audit_model.specs.declared.setting.Ask.{Ask}
use Rattle.audit_model.proofs.ListFacts.{find_passes}
use Rattle.audit_statement.specs.Words.{ask_of, ask_text, all_asks, asks_of, with_ask, all_different}

-- the word of an ask spells it
spelled : (word : List ℕ) (ask : Ask) → ask_of word ≡ Some ask → ask_text ask ≡ word
spelled word ask h = (bytes_eq-Decides (ask_text ask) word).0 (find_passes (λ a. bytes_eq (ask_text a) word) all_asks ask h)

-- the asks of parts are those of the first and of the others
with_ask-parts : (first : Option Ask) (others : Option (List Ask)) (asks : List Ask) → with_ask first others ≡ Some asks
    → (ask : Ask) × (rest : List Ask) × (first ≡ Some ask) × (others ≡ Some rest) × (asks ≡ ask ∷ rest)
with_ask-parts None others asks h = absurd (cc)
with_ask-parts (Some ask) None asks h = absurd (cc)
with_ask-parts (Some ask) (Some rest) asks h = (ask, rest, refl, refl, cc)

-- there is one ask for each part
pub length-asks_of : (parts : List (List ℕ)) (asks : List Ask) → asks_of parts ≡ Some asks → length asks ≡ length parts
length-asks_of [] asks h = let none : asks ≡ [] = cc in ap length none
length-asks_of (part ∷ parts) asks h =
    let split = with_ask-parts (ask_of part) (asks_of parts) asks h in
    let same = length-asks_of parts split.1 split.3 in
    rw split.4 (omega arith)

-- the asks are those that the parts spell
pub filter_map-ask_of : (parts : List (List ℕ)) (asks : List Ask) → asks_of parts ≡ Some asks → filter_map ask_of parts ≡ asks
filter_map-ask_of [] asks h = cc
filter_map-ask_of (part ∷ parts) asks h =
    let split = with_ask-parts (ask_of part) (asks_of parts) asks h in
    ap (λ first. cons_option first (filter_map ask_of parts)) split.2 ∙ ap (λ rest. split.0 ∷ rest) (filter_map-ask_of parts split.1 split.3) ∙ sym split.4

-- an ask whose word is none of the parts is none of their asks
apart_from : (word : List ℕ) (ask : Ask) → ask_of word ≡ Some ask → (parts : List (List ℕ)) (asks : List Ask) → asks_of parts ≡ Some asks
    → list_any (λ part. bytes_eq part word) parts ≡ false → All (λ other. ask ≢ other) asks
apart_from word ask is [] asks h alone = let none : [] ≡ asks = cc in subst (All (λ other. ask ≢ other)) none (All-nil (λ other. ask ≢ other))
apart_from word ask is (part ∷ parts) asks h alone =
    let split = with_ask-parts (ask_of part) (asks_of parts) asks h in
    let others = or_parts (bytes_eq part word) (list_any (λ other. bytes_eq other word) parts) alone in
    rw split.4 (All-cons (λ other. ask ≢ other) split.0 split.1
    (λ same. false≢true (sym others.0 ∙ (bytes_eq-Decides part word).1 (sym (spelled part split.0 split.2) ∙ ap ask_text (sym same) ∙ spelled word ask is)))
    (apart_from word ask is parts split.1 split.3 others.1))

-- different parts spell different asks
pub AllPairs-asks_of : (parts : List (List ℕ)) (asks : List Ask) → asks_of parts ≡ Some asks → all_different parts ≡ true → AllPairs (λ a b. a ≢ b) asks
AllPairs-asks_of [] asks h different = let none : [] ≡ asks = cc in subst (AllPairs (λ a b. a ≢ b)) none (λ i j d before inside. absurd (omega arith))
AllPairs-asks_of (part ∷ parts) asks h different =
    let split = with_ask-parts (ask_of part) (asks_of parts) asks h in
    let both = and_parts (not (list_any (λ other. bytes_eq other part) parts)) (all_different parts) different in
    rw split.4 (AllPairs-cons (λ a b. a ≢ b) split.0 split.1
    (apart_from part split.0 split.2 parts split.1 split.3 (not-true (list_any (λ other. bytes_eq other part) parts) both.0))
    (AllPairs-asks_of parts split.1 split.3 both.1))
