-- If bytes are read, no test has refused them, and they give the job.
use Rattle.std.proofs.Common.{◌≡◌, ℕ, Bool, true, false, not, List, [], length, Option, Some, None, Ok, refl, sym, ap, ◌∙◌, subst, cond}
use Rattle.std.specs.Prelude.{◌==◌}
use Rattle.std.specs.Str.{is_utf8}
use Rattle.serde_json.specs.Data.{Data}
use Rattle.serde_json.specs.Read.{read}
use Rattle.audit_model.specs.declared.fault.Column.TheVariants as column
use Rattle.audit_model.specs.declared.fault.GraphFault.{GraphFault}
use Rattle.audit_model.specs.declared.fault.Part.{Part}
use Rattle.audit_model.specs.declared.setting.Columns.{Columns}
use Rattle.audit_model.specs.Below.{join_below, map_below}
use Rattle.audit_model.specs.JobOf.{job_from}
use Rattle.audit_model.specs.Parsed.{Parsed}
use Rattle.audit_statement.specs.Reading.{count_at, node_count, parsed, document, refusal, bad_part, accepted_or, of_root, of_json, reading, flag_at, lengths_at}
use Rattle.audit_statement.specs.Given.{IsGiven}
use Rattle.audit_laws.specs.Taken.{ReadJobsAreGiven}
use Rattle.audit_laws.proofs.Reading.{given_is}

-- the result of reading bytes that are a graph
pub record IsReadFrom (bytes : List ℕ) (columns : Columns) (p : Parsed) : Type 0 where
  pub root : Data
  pub is_text : is_utf8 bytes ≡ true
  pub is_json : read bytes ≡ Some root
  pub shape : bad_part root ≡ None
  pub sound : refusal (document root) columns ≡ None
  pub same : parsed (document root) columns ≡ p

-- an accepted graph has no fault and is the parsed one
accepted_is : (p q : Parsed) (fault : Option GraphFault) → accepted_or p fault ≡ Ok q → (fault ≡ None) × (p ≡ q)
accepted_is p q None e = (refl, cc)
accepted_is p q (Some f) e = cc

-- a graph read from a root has no part of a wrong shape and no refusal
of_root_is : (columns : Columns) (root : Data) (part : Option Part) (p : Parsed) → of_root columns root part ≡ Ok p
    → (part ≡ None) × (refusal (document root) columns ≡ None) × (parsed (document root) columns ≡ p)
of_root_is columns root None p e = let is = accepted_is _ p (refusal (document root) columns) e in (refl, is.0, is.1)
of_root_is columns root (Some f) p e = cc

-- a root that was read came from valid UTF-8 that is JSON
text_is : (b : Bool) (r : Option Data) (root : Data) → cond b r None ≡ Some root → (b ≡ true) × (r ≡ Some root)
text_is true r root e = (refl, e)
text_is false r root e = cc

-- a graph accepted from JSON is read from its bytes
of_json_is : (bytes : List ℕ) (columns : Columns) (o : Option Data) (p : Parsed) → cond (is_utf8 bytes) (read bytes) None ≡ o → of_json columns o ≡ Ok p
    → IsReadFrom bytes columns p
of_json_is bytes columns None p is e = cc
of_json_is bytes columns (Some root) p is e =
    let text = text_is (is_utf8 bytes) (read bytes) root is in
    let parts = of_root_is columns root (bad_part root) p e in
    record { root = root; is_text = text.0; is_json = text.1; shape = parts.0; sound = parts.1; same = parts.2 }

-- an accepted graph is read from its bytes
pub read_is : (bytes : List ℕ) (columns : Columns) (p : Parsed) → reading bytes columns ≡ Ok p → IsReadFrom bytes columns p
unfolding reading
read_is bytes columns p e = of_json_is bytes columns (cond (is_utf8 bytes) (read bytes) None) p refl e

-- if no group is named, none is read
pub no_group_read : (bytes : List ℕ) (columns : Columns) (p : Parsed) → columns.group ≡ [] → reading bytes columns ≡ Ok p → p.group.members ≡ []
no_group_read bytes columns p none e =
    let is = read_is bytes columns p e in
    let d = document is.root in
    ap (λ (q : Parsed). q.group.members) (sym is.same)
    ∙ ap (λ (key : List ℕ). cond (not (length key == 0)) (map_below (node_count d) (count_at d columns column.Group)) []) none

-- if no column of frozen units is named, no flags are read
pub no_frozen_read : (bytes : List ℕ) (columns : Columns) (p : Parsed) → columns.frozen ≡ [] → reading bytes columns ≡ Ok p → p.frozen ≡ []
no_frozen_read bytes columns p none e =
    let is = read_is bytes columns p e in
    let d = document is.root in
    ap (λ (q : Parsed). q.frozen) (sym is.same)
    ∙ ap (λ (key : List ℕ). cond (not (length key == 0)) (map_below (node_count d) (flag_at d columns)) []) none

-- if no column of lengths is named, no lengths are read
pub no_lengths_read : (bytes : List ℕ) (columns : Columns) (p : Parsed) → columns.length ≡ [] → reading bytes columns ≡ Ok p → p.counts.lengths ≡ []
no_lengths_read bytes columns p none e =
    let is = read_is bytes columns p e in
    let d = document is.root in
    ap (λ (q : Parsed). q.counts.lengths) (sym is.same)
    ∙ ap (λ (key : List ℕ). cond (not (length key == 0)) (join_below (node_count d) (lengths_at d columns)) []) none

-- the JSON of the bytes gives whatever is read from them
pub read_jobs_are_given : ReadJobsAreGiven
read_jobs_are_given bytes setting p e =
    let is = read_is bytes setting.columns p e in
    record {
      root = is.root;
      is_text = is.is_text;
      is_json = is.is_json;
      given = subst (λ (q : Parsed). IsGiven is.root (job_from q setting [])) is.same (given_is setting is.root is.shape is.sound);
    }
