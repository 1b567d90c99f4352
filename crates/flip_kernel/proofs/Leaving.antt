-- The district of a unit in the current plan.
use Rattle.std.proofs.Common.{◌≡◌, ◌<◌, ℕ, Bool, List, get_or, sym, subst}
use Rattle.std.specs.Prelude.{◌↔◌, IsTrue}
use Rattle.audit_model.specs.Graph.{Graph}
use Rattle.audit_model.specs.Job.{Job}
use Rattle.audit_model.specs.Local.{MayLeave}
use Rattle.audit_model.specs.Path.{IsConnected}
use Rattle.audit_model.specs.District.{in_district}
use Rattle.audit_model.specs.Plan.{IsLegal}

-- the unit's district is connected, for equal graphs and plans
pub connected_of : (g h : Graph) (p q : List ℕ) (u : ℕ) → g ≡ h → p ≡ q → IsConnected h (in_district q (get_or q u 0)) → IsConnected g (in_district p (get_or p u 0))
connected_of g h p q u eg ep connected =
    subst (λ (x : Graph). IsConnected x (in_district p (get_or p u 0))) (sym eg) (subst (λ (x : List ℕ). IsConnected h (in_district x (get_or x u 0))) (sym ep) connected)

-- the district of a unit in a legal plan is connected
pub home_connected : (job : Job) (g : Graph) (plan p : List ℕ) (u : ℕ) → g ≡ job.graph → p ≡ plan → IsLegal job plan → u < job.graph.units
    → IsConnected g (in_district p (get_or p u 0))
home_connected job g plan p u eg ep legal unit = connected_of g job.graph p plan u eg ep (legal.connected (get_or plan u 0) (legal.in_range u unit))

-- the decision that the unit may leave, for equal graphs and plans
pub leaves_of : (result : Bool) (g h : Graph) (p q : List ℕ) (u : ℕ) → g ≡ h → p ≡ q → IsTrue result ↔ MayLeave g p u → IsTrue result ↔ MayLeave h q u
leaves_of result g h p q u eg ep leaves =
    subst (λ (x : Graph). IsTrue result ↔ MayLeave x q u) eg (subst (λ (x : List ℕ). IsTrue result ↔ MayLeave g x u) ep leaves)
