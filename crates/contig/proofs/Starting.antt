-- Lists that begin at places of one list, each where the one before ends.
use Rattle.std.proofs.Common.{◌≡◌, ℕ, zero, suc, ◌+◌, ◌-◌, ◌<◌, ◌≤◌, List, [], ◌∷◌, ◌++◌, length, take, drop, map, get_or, refl, sym, ap, ◌∙◌, subst, arith}
use Rattle.std.specs.Prelude.{All, slice_range}
use Rattle.std.proofs.lemmas.List.{get_or-map, length-map, length-take-le, take-append-drop}
use Rattle.contig.specs.declared.span.Span.{Span}
use Rattle.contig.specs.Spans.{HaveStarts, IsWithin, part, spans_between, spans_from}
use Rattle.contig.proofs.Spanning.{parts_kept, parts_more}

less : (n : ℕ) → n ≡ suc n - 1
less n = omega arith

from_length : (begin : ℕ) (later : List ℕ) → length (spans_from begin later) ≡ length later
from_length begin [] = refl
from_length begin (end ∷ later) = ap suc (from_length end later)

-- there is one span less than places
pub between_length : (starts : List ℕ) → length (spans_between starts) ≡ length starts - 1
between_length [] = refl
between_length (first ∷ later) = from_length first later ∙ less (length later)

from_at : (begin : ℕ) (later : List ℕ) (i : ℕ) (d : Span) → i < length later
    → get_or (spans_from begin later) i d ≡ record { begin = get_or (begin ∷ later) i 0; end = get_or later i 0 }
from_at begin [] i d l = absurd (omega (arith, l))
from_at begin (end ∷ later) zero d l = refl
from_at begin (end ∷ later) (suc i) d l = from_at end later i d (omega (arith, l))

-- each span goes from its place to the next one
pub between_at : (starts : List ℕ) (i : ℕ) (d : Span) → i + 1 < length starts
    → get_or (spans_between starts) i d ≡ record { begin = get_or starts i 0; end = get_or starts (i + 1) 0 }
between_at [] i d l = absurd (omega (arith, l))
between_at (first ∷ later) i d l =
    from_at first later i d (omega (arith, l)) ∙ ap (λ n. record { begin = get_or (first ∷ later) i 0; end = get_or (first ∷ later) n 0 }) (next i)
  where
    next : (k : ℕ) → suc k ≡ k + 1
    next k = omega arith

from_push : (begin : ℕ) (later : List ℕ) (end : ℕ)
    → spans_from begin (later ++ end ∷ []) ≡ spans_from begin later ++ record { begin = get_or (begin ∷ later) (length later) 0; end = end } ∷ []
from_push begin [] end = refl
from_push begin (next ∷ later) end = ap (λ t. record { begin = begin; end = next } ∷ t) (from_push next later end)

-- one place more ends one span more
pub between_push : (starts : List ℕ) (end : ℕ) → 0 < length starts
    → spans_between (starts ++ end ∷ []) ≡ spans_between starts ++ record { begin = get_or starts (length starts - 1) 0; end = end } ∷ []
between_push [] end some = absurd (omega (arith, some))
between_push (first ∷ later) end some =
    from_push first later end ∙ ap (λ n. spans_from first later ++ record { begin = get_or (first ∷ later) n 0; end = end } ∷ []) (less (length later))

-- all spans are in a list that goes to the last place
pub all_within : {A : Type 0} (starts : List ℕ) (xs ys : List A) → HaveStarts starts xs → get_or starts (length starts - 1) 0 ≤ length ys → All (IsWithin ys) (spans_between starts)
all_within starts xs ys have long k d l =
    let wide = between_length starts in
    let next : k + 1 < length starts = omega (arith, l, wide) in
    subst (IsWithin ys) (sym (between_at starts k d next))
    (record { rises = have.rises k next; within = (let upto = have.upto (k + 1) next in omega (arith, upto, long)) })

-- no span
abbrev no_span : Span
no_span = record { begin = 0; end = 0 }

-- the last place
abbrev pub last_of : List ℕ → ℕ
last_of starts = get_or starts (length starts - 1) 0

-- a list has a place where it begins, and one where it ends
pub ends_too : {A : Type 0} (starts : List ℕ) (xs : List A) (lists : List (List A)) (u : ℕ) → 0 < length starts → map (part xs) (spans_between starts) ≡ lists
    → u < length lists → u + 1 < length starts
ends_too {A} starts xs lists u some is l =
    let seen = ap (length {A = List A}) is in
    let mapped = length-map (spans_between starts) (part xs) in
    let wide = between_length starts in
    omega (arith, seen, mapped, wide, l, some)

-- the list that begins at a place
pub list_at : {A : Type 0} (starts : List ℕ) (xs : List A) (i : ℕ) → i + 1 < length starts
    → get_or (map (part xs) (spans_between starts)) i [] ≡ slice_range xs (get_or starts i 0) (get_or starts (i + 1) 0)
list_at starts xs i l =
    let wide = between_length starts in
    get_or-map (part xs) (spans_between starts) i no_span [] (omega (arith, l, wide)) ∙ ap (part xs) (between_at starts i no_span l)

-- what is written at the last place is one list more
pub lists_more : {A : Type 0} (starts new : List ℕ) (xs ys zs : List A) → HaveStarts starts xs → zs ≡ take (last_of starts) xs ++ ys → new ≡ starts ++ length zs ∷ []
    → map (part zs) (spans_between new) ≡ map (part xs) (spans_between starts) ++ ys ∷ []
lists_more starts new xs ys zs have ez en =
    let cut = take (last_of starts) xs in
    let spans = spans_between starts in
    let long : length cut ≡ last_of starts = length-take-le (last_of starts) xs have.within in
    let all = all_within starts xs cut have (omega (arith, long)) in
    let kept : map (part xs) spans ≡ map (part cut) spans =
    ap (λ t. map (part t) spans) (sym (take-append-drop (last_of starts) xs)) ∙ parts_kept cut (drop (last_of starts) xs) spans all in
    parts_more cut ys zs spans (spans_between new) (record { begin = last_of starts; end = length zs }) ez (ap spans_between en ∙ between_push starts (length zs) have.some) (sym long) refl all
    ∙ ap (λ t. t ++ ys ∷ []) (sym kept)
