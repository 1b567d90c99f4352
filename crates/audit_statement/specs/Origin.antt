-- The bytes that a job comes from, if the arguments ask for it. FIPS 180-4 for SHA-256.
use Rattle.std.specs.Prelude.{ℕ, List, length, Bool, true, false, Option, Some, None}
use Rattle.sha2.specs.Sha256.{sha256}
use Rattle.audit_model.specs.declared.origin.Origin.{Origin}
use Rattle.audit_model.specs.declared.setting.Setting.{Setting}
use Rattle.audit_model.specs.Job.{Job}

-- the digest and the number of the bytes
abbrev pub origin_if : Bool → List ℕ → Option Origin
origin_if true bytes = Some (record { sha256 = sha256 bytes; bytes = length bytes })
origin_if false bytes = None

-- the origin, if the setting asks for it
abbrev pub origin_of : Setting → List ℕ → Option Origin
origin_of setting bytes = origin_if setting.source bytes

-- the job with this origin
abbrev pub with_origin : Option Origin → Job → Job
with_origin origin job = record job { origin = origin }
