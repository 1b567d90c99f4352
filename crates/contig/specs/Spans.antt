-- Lists that are parts of one list.
use Rattle.std.specs.Prelude.{◌≡◌, ◌≢◌, ◌⊎◌, ℕ, ◌+◌, ◌-◌, ◌<◌, ◌≤◌, List, [], ◌∷◌, length, slice_index, slice_range}
use Rattle.std.specs.List.{slice_index_or}
use Rattle.contig.specs.declared.span.Span.{Span}

-- the span is one of the list
pub record IsWithin {A : Type 0} (xs : List A) (span : Span) : Type 0 where
  pub rises : span.begin ≤ span.end
  pub within : span.end ≤ length xs

-- the part of the list in a span
abbrev pub part : {A : Type 0} → List A → Span → List A
part xs span = slice_range xs span.begin span.end

-- the span of a unit
abbrev pub span_at : List Span → ℕ → Span
span_at spans u = slice_index_or spans u (record { begin = 0; end = 0 })

-- the spans are those of lists that can grow up to a limit, in parts of one list that have no place in common
pub record HaveRoom {A : Type 0} (spans : List Span) (limits : List ℕ) (xs : List A) : Type 0 where
  pub width : length limits ≡ length spans
  pub rises : (u : ℕ) → u < length spans → (span_at spans u).begin ≤ (span_at spans u).end
  pub upto : (u : ℕ) → u < length spans → (span_at spans u).end ≤ slice_index limits u
  pub within : (u : ℕ) → u < length spans → slice_index limits u ≤ length xs
  pub apart : (u v : ℕ) → u < length spans → v < length spans → u ≢ v
      → (slice_index limits u ≤ (span_at spans v).begin) ⊎ (slice_index limits v ≤ (span_at spans u).begin)

-- the spans from this place to the first of these, and from each of these to the next
abbrev pub spans_from : ℕ → List ℕ → List Span
spans_from begin [] = []
spans_from begin (end ∷ later) = record { begin = begin; end = end } ∷ spans_from end later

-- the spans from each place to the next
abbrev pub spans_between : List ℕ → List Span
spans_between [] = []
spans_between (first ∷ later) = spans_from first later

-- the places rise up to the last one, which is in the list or at its end
pub record HaveStarts {A : Type 0} (starts : List ℕ) (xs : List A) : Type 0 where
  pub some : 0 < length starts
  pub rises : (i : ℕ) → i + 1 < length starts → slice_index starts i ≤ slice_index starts (i + 1)
  pub upto : (i : ℕ) → i < length starts → slice_index starts i ≤ slice_index starts (length starts - 1)
  pub within : slice_index starts (length starts - 1) ≤ length xs
