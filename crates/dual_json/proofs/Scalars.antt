-- A scalar in the grammar.
use Rattle.std.proofs.Common.{◌≡◌, ℕ, Bool as Boolean, ◌∷◌, List, Option, Some, None, Err, option_map, ok_or, refl, sym, ap, ◌∙◌}
use Rattle.std.specs.Result.{IfOk}
use Rattle.json.specs.Token as spec
use Rattle.json.specs.Json.{value, parse_map}
use Rattle.json.specs.Reads.{token_of}
use Rattle.json.specs.declared.error.Error.{Error}
use Rattle.json.specs.declared.token.Token.{Token}
use Rattle.json.specs.declared.token.Token.TheVariants.{BeginObject, EndObject, BeginArray, EndArray, Key, String, Number, Bool, Null, Bad}
use Rattle.json.proofs.Grammar.{value_is}
use Rattle.serde_json.specs.Data.{Data, Num, number}
use Rattle.serde_json.specs.Read.{of_json, converted, number_of}
use Rattle.dual_json.specs.Kept.{keep}
use Rattle.dual_json.specs.Scalars.{scalar}
use Rattle.dual_json.specs.Values.{value_data}
use Rattle.dual_json.specs.declared.value.Value.{Value}

-- a token that begins neither an array nor an object is read as the scalar that it is
value_scalar : (depth : ℕ) (t : Token) (ts : List spec.Token) → (t ≡ BeginArray → ⊥) → (t ≡ BeginObject → ⊥)
    → converted of_json (value depth (token_of t ∷ ts)) ≡ option_map {U = Data × List spec.Token} (λ d. (d, ts)) (scalar (token_of t))
value_scalar depth BeginObject ts a o = absurd (o refl)
value_scalar depth EndObject ts a o = ap (converted of_json) (value_is depth (token_of EndObject ∷ ts))
value_scalar depth BeginArray ts a o = absurd (a refl)
value_scalar depth EndArray ts a o = ap (converted of_json) (value_is depth (token_of EndArray ∷ ts))
value_scalar depth (Key s) ts a o = ap (converted of_json) (value_is depth (token_of (Key s) ∷ ts))
value_scalar depth (String s) ts a o = ap (converted of_json) (value_is depth (token_of (String s) ∷ ts))
value_scalar depth (Number s) ts a o = ap (converted of_json) (value_is depth (token_of (Number s) ∷ ts))
value_scalar depth (Bool b) ts a o = ap (converted of_json) (value_is depth (token_of (Bool b) ∷ ts))
value_scalar depth Null ts a o = ap (converted of_json) (value_is depth (token_of Null ∷ ts))
value_scalar depth Bad ts a o = ap (converted of_json) (value_is depth (token_of Bad ∷ ts))

pub scalar_err : (o : Option Value) (e : Error) (s : List spec.Token) (depth : ℕ) (ts : List spec.Token) → converted of_json (value depth s) ≡ option_map {U = Data × List spec.Token} (λ v. (value_data v, ts)) o
    → ok_or o e ≡ Err e → converted of_json (value depth s) ≡ None
scalar_err None e s depth ts read refused = read
scalar_err (Some v) e s depth ts read refused = absurd (cc refused)

-- the data of a value beside what follows
beside : (o : Option Value) (ts : List spec.Token) → option_map {U = Data × List spec.Token} (λ d. (d, ts)) (option_map value_data o) ≡ option_map {U = Data × List spec.Token} (λ v. (value_data v, ts)) o
beside None ts = refl
beside (Some v) ts = refl

-- the value of a token is read from it
pub scalar_read : (depth : ℕ) (t : Token) (ts : List spec.Token) (o : Option Value) → (t ≡ BeginArray → ⊥) → (t ≡ BeginObject → ⊥) → option_map value_data o ≡ scalar (token_of t)
    → converted of_json (value depth (token_of t ∷ ts)) ≡ option_map {U = Data × List spec.Token} (λ v. (value_data v, ts)) o
scalar_read depth t ts o array object is =
    value_scalar depth t ts array object ∙ ap (option_map {U = Data × List spec.Token} (λ d. (d, ts))) (sym is) ∙ beside o ts

-- ---- kept scalars

-- a scalar has no members to lose
scalar_kept : (wants : List ℕ → Boolean) (t : Token) → option_map (keep wants) (scalar (token_of t)) ≡ scalar (token_of t)
scalar_kept wants BeginObject = refl
scalar_kept wants EndObject = refl
scalar_kept wants BeginArray = refl
scalar_kept wants EndArray = refl
scalar_kept wants (Key s) = refl
scalar_kept wants (String s) = refl
scalar_kept wants (Number s) = numeral (number_of s.now)
  where
    numeral : (o : Option Num) → option_map (keep wants) (option_map number o) ≡ option_map number o
    numeral None = refl
    numeral (Some n) = refl
scalar_kept wants (Bool b) = refl
scalar_kept wants Null = refl
scalar_kept wants Bad = refl

beside_kept : (wants : List ℕ → Boolean) (o : Option Data) (ts : List spec.Token) → parse_map (keep wants) (option_map {U = Data × List spec.Token} (λ d. (d, ts)) o) ≡ option_map {U = Data × List spec.Token} (λ d. (d, ts)) (option_map (keep wants) o)
beside_kept wants None ts = refl
beside_kept wants (Some d) ts = refl

-- the kept value of a token is read from it
pub scalar_read_kept : (wants : List ℕ → Boolean) (depth : ℕ) (t : Token) (ts : List spec.Token) (o : Option Value) → (t ≡ BeginArray → ⊥) → (t ≡ BeginObject → ⊥) → option_map value_data o ≡ scalar (token_of t)
    → parse_map (keep wants) (converted of_json (value depth (token_of t ∷ ts))) ≡ option_map {U = Data × List spec.Token} (λ v. (value_data v, ts)) o
scalar_read_kept wants depth t ts o array object is =
    ap (parse_map (keep wants)) (value_scalar depth t ts array object) ∙ beside_kept wants (scalar (token_of t)) ts
    ∙ ap (option_map {U = Data × List spec.Token} (λ d. (d, ts))) (scalar_kept wants t ∙ sym is) ∙ beside o ts

-- a kept scalar that was read
pub scalar_ok_kept : (wants : List ℕ → Boolean) (o : Option Value) (e : Error) (s : List spec.Token) (depth : ℕ) (ts : List spec.Token)
    → parse_map (keep wants) (converted of_json (value depth s)) ≡ option_map {U = Data × List spec.Token} (λ v. (value_data v, ts)) o
    → IfOk (ok_or o e) (λ v. parse_map (keep wants) (converted of_json (value depth s)) ≡ Some (value_data v, ts))
scalar_ok_kept wants None e s depth ts read = tt
scalar_ok_kept wants (Some v) e s depth ts read = read
