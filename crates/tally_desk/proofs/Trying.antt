-- The effect of one more post on the save attempts.
use Rattle.std.proofs.Common.{◌≡◌, Bool, true, false, cond, List, [], ◌∷◌, ◌++◌, map, Option, refl, sym, ap, ◌∙◌, subst, append_assoc}
use Rattle.std.specs.List.{All}
use Rattle.std.proofs.lemmas.List.{append-nil, map-append}
use Rattle.std.proofs.lemmas.List.Elements.{All-push}
use Rattle.audit_model.specs.Attempts.{Try, attempted_all, attempted_too}
use Rattle.tally_desk.specs.declared.entry.Entry.{Entry}
use Rattle.tally_desk.specs.Entries.{is_due}
use Rattle.tally_desk.specs.Homes.{IsSound, Made, made, made_after, made_with, attempts, try_made}
use Rattle.tally_desk.specs.Parts.{Parts}

-- attempts made one list after the other
pub attempted_then : (observed : Option (List Try)) (xs ys : List Try) → attempted_all observed (xs ++ ys) ≡ attempted_all (attempted_all observed xs) ys
attempted_then observed [] ys = refl
attempted_then observed (x ∷ xs) ys = attempted_then (attempted_too observed x.slot x.bytes x.succeeded) xs ys

abbrev one : Parts → List Entry → Entry → List Made
one parts earlier e = cond (is_due parts.save_every e) (made_with parts earlier e ∷ []) []

-- one more post makes its own attempts after the earlier ones
made_push : (parts : Parts) (earlier l : List Entry) (e : Entry) → made_after parts earlier (l ++ e ∷ []) ≡ made_after parts earlier l ++ one parts (earlier ++ l) e
made_push parts earlier [] e = append-nil (one parts earlier e) ∙ ap (λ (xs : List Entry). one parts xs e) (sym (append-nil earlier))
made_push parts earlier (x ∷ l) e =
    ap (λ (ts : List Made). one parts earlier x ++ ts) (made_push parts (earlier ++ x ∷ []) l e ∙ ap (λ (xs : List Entry). made_after parts (earlier ++ x ∷ []) l ++ one parts xs e) (append_assoc earlier (x ∷ []) l))
    ∙ sym (append_assoc (one parts earlier x) (made_after parts (earlier ++ x ∷ []) l) (one parts (earlier ++ x ∷ l) e))

-- ---- a post with which no save was due

-- a post with which no save is due makes no attempt
undue_made : (parts : Parts) (l : List Entry) (e : Entry) → is_due parts.save_every e ≡ false → made parts (l ++ e ∷ []) ≡ made parts l
undue_made parts l e is = made_push parts [] l e ∙ ap (λ (b : Bool). made parts l ++ cond b (made_with parts l e ∷ []) []) is ∙ append-nil (made parts l)

-- the attempts are unchanged if no save was due
pub undue_attempts : (parts : Parts) (observed : Option (List Try)) (l : List Entry) (e : Entry) → is_due parts.save_every e ≡ false
    → attempted_all observed (attempts parts l) ≡ attempted_all observed (attempts parts (l ++ e ∷ []))
undue_attempts parts observed l e is = ap (λ (ms : List Made). attempted_all observed (map (try_made parts.job) ms)) (sym (undue_made parts l e is))

-- the attempts stay sound if no save was due
pub undue_sound : (parts : Parts) (l : List Entry) (e : Entry) → is_due parts.save_every e ≡ false
    → All (IsSound parts.job) (made parts l) → All (IsSound parts.job) (made parts (l ++ e ∷ []))
undue_sound parts l e is sound = subst (All (IsSound parts.job)) (sym (undue_made parts l e is)) sound

-- ---- a post with which a save was due

-- a post with which a save is due makes one attempt
pub due_made : (parts : Parts) (l : List Entry) (e : Entry) → is_due parts.save_every e ≡ true → made parts (l ++ e ∷ []) ≡ made parts l ++ made_with parts l e ∷ []
due_made parts l e is = made_push parts [] l e ∙ ap (λ (b : Bool). made parts l ++ cond b (made_with parts l e ∷ []) []) is

-- a due save adds one attempt
pub due_attempts : (parts : Parts) (observed : Option (List Try)) (l : List Entry) (e : Entry) → is_due parts.save_every e ≡ true
    → (let t = try_made parts.job (made_with parts l e) in attempted_too (attempted_all observed (attempts parts l)) t.slot t.bytes t.succeeded ≡ attempted_all observed (attempts parts (l ++ e ∷ [])))
due_attempts parts observed l e is =
    sym (ap (λ (ms : List Made). attempted_all observed (map (try_made parts.job) ms)) (due_made parts l e is)
    ∙ ap (attempted_all observed) (map-append (try_made parts.job) (made parts l) (made_with parts l e ∷ []))
    ∙ attempted_then observed (attempts parts l) (try_made parts.job (made_with parts l e) ∷ []))

-- all attempts are sound if the new one is
pub due_sound : (parts : Parts) (l : List Entry) (e : Entry) → is_due parts.save_every e ≡ true → IsSound parts.job (made_with parts l e)
    → All (IsSound parts.job) (made parts l) → All (IsSound parts.job) (made parts (l ++ e ∷ []))
due_sound parts l e is one_sound sound =
    subst (All (IsSound parts.job)) (sym (due_made parts l e is)) (All-push (IsSound parts.job) (made parts l) (made_with parts l e) sound one_sound)
