-- Data without the members that are not read.
use Rattle.std.specs.Prelude.{ℕ, ◌||◌, Bool, true, List, codes, cond}
use Rattle.std.specs.Str.{bytes_eq}
use Rattle.serde_json.specs.Data.{Data, null, boolean, number, string, array, object, Items, no_items, item, Members, no_members, member}
use Rattle.audit_model.specs.declared.setting.Columns.{Columns}
use Rattle.dual_json.specs.declared.wanted.Wanted.{Wanted}
use Rattle.dual_json.specs.declared.wanted.Wanted.TheVariants.{All, Of}

-- the key of an id or of a part of the root
abbrev pub is_part : List ℕ → Bool
is_part key = bytes_eq key (codes "id") || (bytes_eq key (codes "nodes") || (bytes_eq key (codes "adjacency") || (bytes_eq key (codes "directed") || bytes_eq key (codes "multigraph"))))

-- the key of a column
abbrev pub is_column : Columns → List ℕ → Bool
is_column columns key =
    bytes_eq key columns.population || (bytes_eq key columns.first || (bytes_eq key columns.second || (bytes_eq key columns.district
    || (bytes_eq key columns.group || (bytes_eq key columns.whole || (bytes_eq key columns.frozen || bytes_eq key columns.length))))))

-- the key of a member that is read
abbrev pub is_wanted : Wanted → List ℕ → Bool
is_wanted All key = true
is_wanted (Of columns) key = is_part key || is_column columns.now key

-- a value whose objects, at each level, have only the members with wanted keys
abbrev mutual
  pub keep : (List ℕ → Bool) → Data → Data
  keep wants null = null
  keep wants (boolean b) = boolean b
  keep wants (number n) = number n
  keep wants (string s) = string s
  keep wants (array ds) = array (keep_items wants ds)
  keep wants (object ms) = object (keep_members wants ms)

  pub keep_items : (List ℕ → Bool) → Items → Items
  keep_items wants no_items = no_items
  keep_items wants (item d ds) = item (keep wants d) (keep_items wants ds)

  pub keep_members : (List ℕ → Bool) → Members → Members
  keep_members wants no_members = no_members
  keep_members wants (member k d ms) = cond (wants k) (member k (keep wants d) (keep_members wants ms)) (keep_members wants ms)
