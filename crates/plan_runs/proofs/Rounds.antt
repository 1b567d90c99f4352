-- Plans grouped into rounds.
use Rattle.std.proofs.Common.{◌≡◌, ◌∙◌, ◌++◌, List, [], ◌∷◌, Vec, map, ap, sym, append_assoc}
use Rattle.std.proofs.lemmas.List.{append-nil, map-append}
use Rattle.audit_statement.specs.Jobs.{Jobs}
use Rattle.plan_runs.specs.declared.plans.PlanWalk.{PlanWalk}
use Rattle.plan_runs.specs.Plans.{round_pairs, walk_pair}

module _ {J : Type 0} where
  -- the plans of one more round come last
  pub pairs_push : {A : Type 0} (rounds : List (Vec (PlanWalk J) A)) (round : Vec (PlanWalk J) A) → round_pairs (rounds ++ round ∷ []) ≡ round_pairs rounds ++ map walk_pair round.items
  pairs_push [] round = append-nil (map walk_pair round.items)
  pairs_push (r ∷ rs) round =
      ap (λ (ps : Jobs). map walk_pair r.items ++ ps) (pairs_push rs round)
      ∙ sym (append_assoc (map walk_pair r.items) (round_pairs rs) (map walk_pair round.items))

  -- one more plan is in a round, and one fewer is left
  pub grouped : (all done made : Jobs) (held pushed left rest : List (PlanWalk J)) (walk : PlanWalk J)
      → all ≡ (done ++ map walk_pair held) ++ map walk_pair left → left ≡ walk ∷ rest → pushed ≡ held ++ walk ∷ [] → made ≡ done ++ map walk_pair pushed
      → all ≡ made ++ map walk_pair rest
  grouped all done made held pushed left rest walk is next push same =
      is
      ∙ ap (λ (ws : List (PlanWalk J)). (done ++ map walk_pair held) ++ map walk_pair ws) next
      ∙ sym (append_assoc (done ++ map walk_pair held) (walk_pair walk ∷ []) (map walk_pair rest))
      ∙ ap (λ (ps : Jobs). ps ++ map walk_pair rest)
      (append_assoc done (map walk_pair held) (walk_pair walk ∷ [])
      ∙ ap (λ (ps : Jobs). done ++ ps) (sym (map-append walk_pair held (walk ∷ [])) ∙ ap (map walk_pair) (sym push))
      ∙ sym same)
