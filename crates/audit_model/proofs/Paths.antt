-- Composition of paths.
use Rattle.std.proofs.Common.{◌≡◌, ℕ, Bool, true, List, [], ◌∷◌, ◌++◌, refl, sym, ◌∙◌, subst}
use Rattle.audit_model.specs.Graph.{Graph, adjacent, IsIn}
use Rattle.audit_model.specs.Path.{IsPath, HasPath}
use Rattle.audit_model.proofs.Connected.{path_more}

module _ (g : Graph) (inside : ℕ → Bool) where
  pub path_one : (x : ℕ) → IsIn g inside x → HasPath g inside x x
  path_one x i = (x ∷ [], (refl, refl, i))

  -- extending a path at its beginning
  pub path_before : (x v z : ℕ) → IsIn g inside x → adjacent g x v ≡ true → HasPath g inside v z → HasPath g inside x z
  path_before x v z i a path = front path.0 path.1
    where
      front : (units : List ℕ) → IsPath g inside units v z → HasPath g inside x z
      front [] p = absurd p
      front (w ∷ []) p = (x ∷ w ∷ [], (refl, i, subst (λ t. adjacent g x t ≡ true) (sym p.0) a, (refl, p.1, p.2)))
      front (w ∷ t ∷ rest) p = (x ∷ w ∷ t ∷ rest, (refl, i, subst (λ t. adjacent g x t ≡ true) (sym p.0) a, (refl, p.1, p.2, p.3)))

  -- extending a path at its end
  pub path_after : (x u v : ℕ) → HasPath g inside x u → IsIn g inside v → adjacent g u v ≡ true → HasPath g inside x v
  path_after x u v path i a = (path.0 ++ v ∷ [], path_more g inside path.0 x u v path.1 i a)

  -- one path after another
  pub joined_from : (units : List ℕ) (x y z : ℕ) → IsPath g inside units x y → HasPath g inside y z → HasPath g inside x z
  joined_from [] x y z p path = absurd p
  joined_from (w ∷ []) x y z p path = subst (λ t. HasPath g inside t z) (sym p.1 ∙ p.0) path
  joined_from (w ∷ t ∷ rest) x y z p path =
      subst (λ s. HasPath g inside s z) p.0 (path_before w t z p.1 p.2 (joined_from (t ∷ rest) t y z p.3 path))

  pub path_joined : (x y z : ℕ) → HasPath g inside x y → HasPath g inside y z → HasPath g inside x z
  path_joined x y z one other = joined_from one.0 x y z one.1 other

  -- the end of a path is in the set
  end_in : (units : List ℕ) (x y : ℕ) → IsPath g inside units x y → IsIn g inside y
  end_in [] x y p = absurd p
  end_in (u ∷ []) x y p = subst (λ v. IsIn g inside v) p.1 p.2
  end_in (u ∷ v ∷ rest) x y p = end_in (v ∷ rest) v y p.3

  pub path_end : (x y : ℕ) → HasPath g inside x y → IsIn g inside y
  path_end x y path = end_in path.0 x y path.1

  pub first_in : (v : ℕ) (rest : List ℕ) (x y : ℕ) → IsPath g inside (v ∷ rest) x y → IsIn g inside v
  first_in v [] x y q = q.2
  first_in v (w ∷ rest) x y q = q.1

  -- a property that adjacency within the set preserves holds along a path
  closed_along : (P : ℕ → Type 0) → ((v w : ℕ) → P v → IsIn g inside w → adjacent g v w ≡ true → P w)
      → (units : List ℕ) (x y : ℕ) → IsPath g inside units x y → P x → P y
  closed_along P closed [] x y p h = absurd p
  closed_along P closed (u ∷ []) x y p h = subst P (sym p.0 ∙ p.1) h
  closed_along P closed (u ∷ v ∷ rest) x y p h =
      closed_along P closed (v ∷ rest) v y p.3 (closed u v (subst P (sym p.0) h) (first_in v rest v y p.3) p.2)

  pub path_stays : (P : ℕ → Type 0) → ((v w : ℕ) → P v → IsIn g inside w → adjacent g v w ≡ true → P w)
      → (x y : ℕ) → HasPath g inside x y → P x → P y
  path_stays P closed x y path h = closed_along P closed path.0 x y path.1 h

-- a path within a set is one within a greater set
within : (g : Graph) (small large : ℕ → Bool) → ((v : ℕ) → IsIn g small v → IsIn g large v)
    → (units : List ℕ) (x y : ℕ) → IsPath g small units x y → IsPath g large units x y
within g small large more [] x y p = absurd p
within g small large more (w ∷ []) x y p = (p.0, p.1, more w p.2)
within g small large more (w ∷ t ∷ rest) x y p = (p.0, more w p.1, p.2, within g small large more (t ∷ rest) t y p.3)

-- a path within a set is one within a greater set
pub path_within : (g : Graph) (small large : ℕ → Bool) → ((v : ℕ) → IsIn g small v → IsIn g large v) → (x y : ℕ) → HasPath g small x y → HasPath g large x y
path_within g small large more x y path = (path.0, within g small large more path.0 x y path.1)
