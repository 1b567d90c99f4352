-- The findings with one more folder.
use Rattle.std.proofs.Common.{◌≡◌, ℕ, suc, ◌+◌, ◌<◌, List, [], ◌∷◌, ◌++◌, length, map, take, drop, get_or, set, refl, sym, ap, ◌∙◌, subst, arith, take-suc}
use Rattle.std.proofs.Math.Seq.{drop-cons}
use Rattle.std.proofs.lemmas.List.{drop-set-lt, map-append, take_more_set}
use Rattle.audit_model.specs.State.{KeeperState}
use Rattle.ckpt_store.specs.Collected.{Collected}
use Rattle.audit_model.specs.Job.{Job}
use Rattle.ckpt_store.specs.declared.finding.Finding.{Finding}
use Rattle.ckpt_store.specs.Findings.{AreFound, IsFound}

-- the findings with one more folder
pub found_more : (job : Job) (digest : List ℕ) (folders folders_now : List KeeperState) (folder folder_now : KeeperState) (before between after : Collected) (findings : List Finding) (what : Finding)
    → AreFound job digest folders folders_now before findings between → IsFound job digest folder folder_now between what after
    → AreFound job digest (folders ++ folder ∷ []) (folders_now ++ folder_now ∷ []) before (findings ++ what ∷ []) after
found_more job digest [] [] folder folder_now before between after [] what e found = (after, subst (λ (os : Collected). IsFound job digest folder folder_now os what after) e found, refl)
found_more job digest [] [] folder folder_now before between after (f ∷ findings) what e found = absurd e
found_more job digest [] (l ∷ folders_now) folder folder_now before between after findings what e found = absurd e
found_more job digest (k ∷ folders) [] folder folder_now before between after findings what e found = absurd e
found_more job digest (k ∷ folders) (l ∷ folders_now) folder folder_now before between after [] what e found = absurd e
found_more job digest (k ∷ folders) (l ∷ folders_now) folder folder_now before between after (f ∷ findings) what e found =
    (e.0, e.1, found_more job digest folders folders_now folder folder_now e.0 between after findings what e.2 found)

-- ---- folders not looked at yet are unchanged

module _ {F : Type 0} (observed : F → KeeperState) (now first : List F) (place : ℕ) (long : length now ≡ length first) (l : place < length now) (rest : drop place now ≡ drop place first) (d : F) where
  both : get_or now place d ∷ drop (suc place) now ≡ get_or first place d ∷ drop (suc place) first
  both = sym (drop-cons now place d l) ∙ rest ∙ drop-cons first place d (omega (arith, long, l))

  here : get_or now place d ≡ get_or first place d
  here = ap (λ xs. get_or xs 0 d) both

  behind : drop (suc place) now ≡ drop (suc place) first
  behind = ap (λ xs. drop 1 xs) both

  one_more : place + 1 ≡ suc place
  one_more = omega arith

  pub rest_next : (new : F) → drop (place + 1) (set now place new) ≡ drop (place + 1) first
  rest_next new = drop-set-lt (place + 1) now place new (omega arith) ∙ ap (λ n. drop n now) one_more ∙ behind ∙ ap (λ n. drop n first) (sym one_more)

  pub taken_next : map observed (take (place + 1) first) ≡ map observed (take place first) ++ observed (get_or now place d) ∷ []
  taken_next =
      ap (λ n. map observed (take n first)) one_more
      ∙ ap (map observed) (take-suc first place d (omega (arith, long, l)))
      ∙ map-append observed (take place first) (get_or first place d ∷ [])
      ∙ ap (λ x. map observed (take place first) ++ observed x ∷ []) (sym here)

  -- the folder just looked at has its new state
  pub left_next : (new : F) → map observed (take (place + 1) (set now place new)) ≡ map observed (take place now) ++ observed new ∷ []
  left_next new = ap (map observed) (take_more_set now place new l) ∙ map-append observed (take place now) (new ∷ [])
