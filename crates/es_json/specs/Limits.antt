-- How large a JSON value is.
use Rattle.std.specs.Prelude.{ℕ, suc, ◌+◌}
use Rattle.serde_json.specs.Data.{Data, null, boolean, number, string, array, object, Items, no_items, item, Members, no_members, member}

abbrev mutual
  -- the number of objects in a value
  pub objects : Data → ℕ
  objects null = 0
  objects (boolean b) = 0
  objects (number n) = 0
  objects (string s) = 0
  objects (array ds) = items_objects ds
  objects (object ms) = suc (members_objects ms)

  pub items_objects : Items → ℕ
  items_objects no_items = 0
  items_objects (item d ds) = objects d + items_objects ds

  pub members_objects : Members → ℕ
  members_objects no_members = 0
  members_objects (member k d ms) = objects d + members_objects ms
