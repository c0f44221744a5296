-- An object rest is taken where it is declared (ECMA-262, 14.3.3): `const { a, ...b } = f();` becomes
-- `const _f = f(), { a } = _f, b = babelHelpers.objectWithoutProperties(_f, ["a"]);`. A source that gives the same each time is read again
-- where it stands, and takes no name: `const { a, ...b } = c;` becomes `const { a } = c, b = babelHelpers.objectWithoutProperties(c, ["a"]);`.
-- A rest that stands alone takes no pattern: `const { ...b } = c;` becomes
-- `const b = babelHelpers.extends({}, (babelHelpers.objectDestructuringEmpty(c), c));`. A key that is read is read once, where it stood:
-- `const { a, [k()]: b, ...d } = c;` becomes
-- `const { a } = c, _k = k(), { [_k]: b } = c, d = babelHelpers.objectWithoutProperties(c, ["a", _k].map(babelHelpers.toPropertyKey));`. A pattern in
-- a property is declared with what that property gives, before the properties behind it: `const { a: { ...b }, d } = c;` becomes
-- `const { a: _ref } = c, { ...b } = _ref, { d } = c;`. Each row is steps of the rules of object rests.
use Rattle.std.specs.Prelude.{◌≡◌, ◌&&◌, ◌||◌, not, Bool, true, false, List, ◌∷◌, Option, None, codes, bytes_eq, []}
use Rattle.std.specs.List.{list_any}
use Rattle.es_resolution.specs.Declarations.{Bound, symbol_of}
use Rattle.es_resolution.specs.Resolved.{bound_by}
use Rattle.es_semantic.specs.RolesOf.{reads}
use Rattle.es_steps.specs.Duplication.{is_among_symbols}
use Rattle.es_steps.specs.Nodes.{declarator_with, identifier, joined_trees, made, string_node}
use Rattle.es_steps.specs.ObjectRest.{Declares, declares_as, declares_some, kind_of_declaration, left_of, pattern_node, whole_value}
use Rattle.es_steps.specs.Open.{Additions, Pending}
use Rattle.es_steps.specs.Patterns.{IsSilent}
use Rattle.es_steps.specs.Rules.{next_name, with_made}
use Rattle.es_steps.specs.Steps.{Ledger, ledger, Site, Spot, Whole, at_node}
use Rattle.es_tree.specs.Ancestors.{stands_in}
use Rattle.es_tree.specs.BoundNames.{bound_identifiers}
use Rattle.es_tree.specs.Fresh.{IsFreshName, node_base}
use Rattle.es_tree.specs.Names.{first_text}
use Rattle.es_tree.specs.Tree.{Tree, node, Label, done, ◌then◌, one, many, Trees, empty, ◌before◌, label_of}
use Rattle.es_tree.specs.Words.{Text}
use Rattle.es_tree.specs.declared.ast_type.AstType.TheVariants.{AssignmentPattern, ExportNamedDeclaration, Identifier, PatternProperty, RestElement, VariableDeclaration}
use Rattle.es_valid_rests.specs.RestRules.{all_declare}
use Rattle.es_tree.specs.PropertyKeys.{key_text}
use Rattle.es_rest_shapes.specs.RestShapes.{any_tree, are_plain, bears_among, is_name, is_plain_pattern, reads_key}

-- whether a pattern binds this name
abbrev pub binds_name : Text → Tree → Bool
binds_name x p = list_any (λ t. bytes_eq (first_text (label_of t).texts) x) (bound_identifiers p)

-- Whether the source of a pattern gives the same each time, also once the pattern's names have their values: a made name, or a name that
-- nothing writes and that the pattern doesn't bind.
abbrev pub is_kept : Whole → Tree → Tree → Bool
is_kept w p (node Identifier l done) = bound_by w.made (first_text l.texts) || (is_among_symbols w.steady (symbol_of l) && not (binds_name (first_text l.texts) p))
is_kept w p e = false

abbrev pub declaring : Label → Trees → Tree
declaring m ds = node VariableDeclaration m (many ds then done)

-- the pattern of these properties and this rest
abbrev pub with_rest : Label → Trees → Label → Tree → Tree
with_rest lp ps lr t = pattern_node lp (joined_trees ps (node RestElement lr (one t then done) before empty))

-- GROUPS of properties: a property whose key is read begins one

-- `{ A.. } = s`
abbrev pub group : Label → Tree → Trees → Tree
group lp s ps = declarator_with (pattern_node lp ps) s

-- `[k]: v` with this name in the place of `k`
abbrev pub keyed_by : Bound → Tree → Tree
keyed_by x (node k l (one e then fs)) = node k l (one (identifier x) then fs)
keyed_by x t = t

-- the name `x` of a property's key: `x = k`
abbrev pub names_key : Bound → Tree → Tree
names_key x (node k l (one e then fs)) = declarator_with (identifier x) e
names_key x t = declarator_with (identifier x) t

-- a property whose key is read begins a group, with the first of these names; another goes on with the one before
abbrev pub groups_by : Bool → Label → Tree → List Bound → Trees → Tree → (List Bound → Trees → Trees) → Trees
groups_by true lp s (x ∷ xs) before_these p behind = group (made [] []) s before_these before names_key x p before behind xs (keyed_by x p before empty)
groups_by _ lp s xs before_these p behind = behind xs (joined_trees before_these (p before empty))

-- The groups of these properties, where those before stand in the first one and the keys that are read have these names. Of
-- `a, [k]: b, c` they are `{ a } = s, x = k, { [x]: b, c } = s`. The last keeps the label of the pattern.
abbrev pub groups : Label → Tree → List Bound → Trees → Trees → Trees
groups lp s xs before_these empty = group lp s before_these before empty
groups lp s xs before_these (p before ps) = groups_by (reads_key p) lp s xs before_these p (λ ys these. groups lp s ys these ps)

-- THE KEYS that the rest leaves out: texts, and these names in the place of keys that are read
abbrev pub text_of_key : Tree → Tree
text_of_key (node k l (one e then fs)) = string_node (key_text e)
text_of_key t = string_node []

abbrev pub keys_by : Bool → List Bound → Tree → (List Bound → List Tree) → List Tree
keys_by true (x ∷ xs) p behind = identifier x ∷ behind xs
keys_by _ xs p behind = text_of_key p ∷ behind xs

abbrev pub keys_of : List Bound → Trees → List Tree
keys_of xs empty = []
keys_of xs (p before ps) = keys_by (reads_key p) xs p (λ ys. keys_of ys ps)

-- The groups, and behind them `r = babelHelpers.objectWithoutProperties(s, [keys])`, or the rest alone where it has no properties beside it:
-- `r = babelHelpers.extends({}, (babelHelpers.objectDestructuringEmpty(s), s))`
abbrev pub taken : Label → Tree → List Bound → Trees → Tree → Trees
taken lp s xs empty t = declarator_with t (whole_value s) before empty
taken lp s xs ps t = joined_trees (groups lp s xs empty ps) (declarator_with t (left_of (any_tree reads_key ps) s (keys_of xs ps)) before empty)

-- the names of keys that are read: of each the next one of its base, from what is known of the whole to what then is
pub data NamesKeys : Whole → Trees → List Bound → Whole → Type 0 where
  no_properties : {w : Whole} → NamesKeys w empty [] w
  knows : {w w' : Whole} {p : Tree} {ps : Trees} {xs : List Bound} → reads_key p ≡ false → NamesKeys w ps xs w' → NamesKeys w (p before ps) xs w'
  reads_one : {w w' : Whole} {l : Label} {k v : Tree} {ps : Trees} {xs : List Bound} (x : Text) → reads_key (node PatternProperty l (one k then one v then done)) ≡ true → IsSilent reads k → IsFreshName w.in_use (node_base k) x →
      NamesKeys (with_made (next_name w x ∷ []) w) ps xs w' → NamesKeys w (node PatternProperty l (one k then one v then done) before ps) (next_name w x ∷ xs) w'

-- PATTERNS IN PROPERTIES

abbrev pub property_of : Label → Tree → Tree → Tree
property_of l k v = node PatternProperty l (one k then one v then done)

-- A pattern in the value of a property, and that value with a name in its place: of `{ ...b }` it is `x`, and of `{ ...b } = d` it is `x = d`.
pub data PutsName (x p : Tree) : Tree → Tree → Type 0 where
  for_pattern : PutsName x p p x
  with_default : (l : Label) (e : Tree) → IsSilent reads e → PutsName x p (node AssignmentPattern l (one p then one e then done)) (node AssignmentPattern l (one x then one e then done))

-- `{ A.., u } = s, P = x, { B.. } = s`, and where B is empty, without the last
abbrev pub parted : Label → Tree → Trees → Tree → Tree → Bound → Trees → Trees
parted lp s ps u p x rs = group (made [] []) s (joined_trees ps (u before empty)) before declarator_with p (identifier x) before declares_some lp s rs

abbrev pub is_exported : Site → Bool
is_exported n = stands_in ExportNamedDeclaration 0 n.above

-- the rows, where so much is known of the place at which a helper is called
pub data RowsWhere (asked : Site → Type 0) : Site → Ledger → Spot → Ledger → Spot → Type 0 where
  -- `P = e` becomes `x = e, P = x`
  stores : {n : Site} {w : Whole} {q : Pending} {s : Option Bound} {y : Additions} (m l : Label) (a c : Trees) (p e : Tree) (x : Text) → is_exported n ≡ false → Declares (kind_of_declaration m) → is_plain_pattern p ≡ true →
      all_declare (joined_trees a (declares_as l p e before c)) ≡ true → is_kept w p e ≡ false → IsSilent reads e → IsFreshName w.in_use (node_base e) x →
      RowsWhere asked n (ledger w q s y) (at_node (declaring m (joined_trees a (declares_as l p e before c)))) (ledger (with_made (next_name w x ∷ []) w) q s y)
      (at_node (declaring m (joined_trees a (declarator_with (identifier (next_name w x)) e before declares_as l p (identifier (next_name w x)) before c))))
  -- `{ A.., ...r } = s` becomes the groups of A, `x = k` for each key that is read, and `r = babelHelpers.objectWithoutProperties(s, [keys of A])`,
  -- and `{ ...r } = s` the rest's alone
  takes : {n : Site} {w w' : Whole} {q : Pending} {z : Option Bound} {y : Additions} (m l lp lr ls : Label) (a ps c : Trees) (t : Tree) (xs : List Bound) → is_exported n ≡ false → Declares (kind_of_declaration m) → are_plain ps ≡ true → is_name t ≡ true →
      all_declare (joined_trees a (declares_as l (with_rest lp ps lr t) (node Identifier ls done) before c)) ≡ true → is_kept w (with_rest lp ps lr t) (node Identifier ls done) ≡ true → NamesKeys w ps xs w' →
      asked n → w.in_use (codes "babelHelpers") ≡ true →
      RowsWhere asked n (ledger w q z y) (at_node (declaring m (joined_trees a (declares_as l (with_rest lp ps lr t) (node Identifier ls done) before c)))) (ledger w' q z y)
      (at_node (declaring m (joined_trees a (joined_trees (taken lp (node Identifier ls done) xs ps t) c))))
  -- `{ A.., k: P, B.. } = s` becomes `{ A.., k: x } = s, P = x, { B.. } = s`, where P is a plain pattern, and A bears no rest
  nested : {n : Site} {w : Whole} {q : Pending} {z : Option Bound} {y : Additions} (m l lp lq ls : Label) (a ps rs c : Trees) (k p v u : Tree) (x : Text) → is_exported n ≡ false → Declares (kind_of_declaration m) →
      are_plain (joined_trees ps (property_of lq k v before rs)) ≡ true → bears_among ps ≡ false → is_plain_pattern p ≡ true → PutsName (identifier (next_name w x)) p v u →
      all_declare (joined_trees a (declares_as l (pattern_node lp (joined_trees ps (property_of lq k v before rs))) (node Identifier ls done) before c)) ≡ true →
      is_kept w (pattern_node lp (joined_trees ps (property_of lq k v before rs))) (node Identifier ls done) ≡ true → IsFreshName w.in_use (codes "ref") x →
      RowsWhere asked n (ledger w q z y) (at_node (declaring m (joined_trees a (declares_as l (pattern_node lp (joined_trees ps (property_of lq k v before rs))) (node Identifier ls done) before c))))
      (ledger (with_made (next_name w x ∷ []) w) q z y) (at_node (declaring m (joined_trees a (joined_trees (parted lp (node Identifier ls done) ps (property_of lq k u) p (next_name w x) rs) c))))

-- The rows: `babelHelpers`, of which the helper is a property, is bound nowhere around.
abbrev pub RestRow : Site → Ledger → Spot → Ledger → Spot → Type 0
RestRow = RowsWhere (λ n. n.names.scope (codes "babelHelpers") ≡ None)

-- The same for a walk, which goes from node to node at sites as they were before names were made: whatever `babelHelpers` finds there. That it
-- finds nothing is a law over whole programs (`LawRestWalks`).
abbrev pub RestWalkRow : Site → Ledger → Spot → Ledger → Spot → Type 0
RestWalkRow = RowsWhere (λ n. Unit {0})
