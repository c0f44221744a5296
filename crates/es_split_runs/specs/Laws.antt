-- Laws of the statement machine: object patterns that are declared in parts, with fresh names in the declaration itself.
use Rattle.std.specs.Prelude.{◌≡◌, ◌||◌, ℕ, Bool, true, false, List, [], ◌∷◌, Option, Some, None, codes}
use Rattle.es_tree.specs.Names.{first_text, flag_at}
use Rattle.es_tree.specs.Scopes.{Declared}
use Rattle.es_tree.specs.Tree.{Tree, node, Label, Fields, done, ◌then◌, one, many, Trees, empty, ◌before◌}
use Rattle.es_tree.specs.declared.ast_type.AstType.TheVariants.{ArrayExpression, AssignmentPattern, CallExpression, Identifier, PatternProperty, RestElement, StringLiteral}
use Rattle.es_tree.specs.Words.{Text}
use Rattle.es_runs.specs.Core.{World}
use Rattle.es_runs.specs.Alike.{Level, bad_names}
use Rattle.es_runs.specs.Alike.Level.{a_target}
use Rattle.es_runs.specs.Runs.{identifier, is_declared, made, none_hidden, only, program}
use Rattle.es_runs.specs.Rules.{member_node}
use Rattle.es_statement_runs.specs.Helpers.{Supply, silent_names}
use Rattle.es_statement_runs.specs.Helpers.Supply.{by_global}
use Rattle.es_statement_runs.specs.Kinds.{sense}
use Rattle.es_statement_runs.specs.Laws.{among_names, any_cells, body_needs, declaration_of, declares_from, followed, global_helper, helper_call_of, is_silent, object_pattern_at}
use Rattle.es_statement_runs.specs.Names.{is_word, top_in, using_in}
use Rattle.es_statement_runs.specs.Places.{SupplySeen, Take, avoids, avoids_trees, placed_at, take, target_taken, value_taken}
use Rattle.es_statement_runs.specs.Runs.{RunAlike}
use Rattle.es_statement_runs.specs.Senses.{excluded_text}
use Rattle.es_statement_runs.specs.Scopes.{are_program_names, is_own_cell}
use Rattle.es_split_runs.specs.Growing.{GrownTrees, NamesMore}

-- `k: e` in an object pattern
abbrev pub property_at : Label → Tree → Tree → Tree
property_at l k e = node PatternProperty l (one k then one e then done)

-- a name, whatever symbol it has: none of its marks says anything to the machine
abbrev pub marked : List (Option ℕ) → Text → Tree
marked ms x = node Identifier (record (made (Some x ∷ []) []) { marks = ms }) done

-- what a declaration takes of its declarators
abbrev pub declarators_taken : Take
declarators_taken = take (record { level = a_target; form = false }) true

abbrev pub bad_fresh : List Text → Level → Text → Bool
bad_fresh xs = bad_names (among_names xs) none_hidden

-- A PATTERN'S VALUE IS STORED (ECMA-262, 14.3.3 and 8.6.2): `K P = e` becomes `K x = e, P = x`, at one of the declarators of a declaration, where a stand
-- before it and c after it, and x, one of these names, is declared around. A binding pattern takes the value alone, and x holds it until then.
pub data StoreRow (xs : List Text) (ds : List Declared) : Take → Tree → Tree → Type 0 where
  store_row : {t : Take} {m o : Label} (d n k l : Label) (i j : List (Option ℕ)) (x : Text) (a ps : Trees) (e : Tree) (c : Trees) → o.texts ≡ m.texts → among_names xs x ≡ true → is_declared ds x ≡ true → is_word (codes "using") (first_text m.texts) ≡ false →
      avoids_trees (bad_fresh xs) declarators_taken a ≡ true → avoids (bad_fresh xs) target_taken (object_pattern_at l ps) ≡ true → avoids (bad_fresh xs) value_taken e ≡ true → avoids_trees (bad_fresh xs) declarators_taken c ≡ true →
      StoreRow xs ds t (declaration_of m (followed a (declares_from d (object_pattern_at l ps) e before c)))
      (declaration_of o (followed a (declares_from n (marked i x) e before declares_from k (object_pattern_at l ps) (marked j x) before c)))

-- WHAT IS ASKED OF TWO PROGRAMS besides: the fresh names aren't declared by the first one and stand for no helper
pub record FreshNames (u : Supply) (xs : List Text) (l : Label) (ds body after : Trees) : Type 0 where
  pub tops : NamesMore (among_names xs) (top_in body) (top_in after)
  pub uses : using_in after ≡ using_in body
  pub silents : silent_names u (program l ds after) ≡ silent_names u (program l ds body)
  pub unsilent : (y : Text) → among_names xs y ≡ true → is_silent (silent_names u (program l ds body)) y ≡ false
  pub undeclared : (y : Text) → is_declared (top_in body) y ≡ true → among_names xs y ≡ false
  pub math : among_names xs (codes "Math") ≡ false
  pub program_names : are_program_names xs ≡ true
  pub supply : SupplySeen (any_cells (among_names xs)) u

-- At whatever places of whatever statements, each with one of these names, in scopes of any depth, with whatever helpers.
abbrev pub LawStored : Type 0
LawStored = (u : Supply) (xs : List Text) (l : Label) (ds body after : Trees) → GrownTrees (bad_fresh xs) (among_names xs) (StoreRow xs) (top_in after) body_needs body after →
    FreshNames u xs l ds body after → RunAlike u false (program l ds body) (program l ds after)

-- A PATTERN IN A PROPERTY (8.6.2): `K { A.., k: P, B.. } = s` becomes `K { A.., k: x } = s, P = x, { B.. } = s`, where nothing in the pattern writes s. P is
-- bound before the keys of B are read, as it was.

-- properties alone, without a rest
pub data Properties : Trees → Type 0 where
  no_property : Properties empty
  one_property : {l : Label} {k e : Tree} {ps : Trees} → Properties ps → Properties (property_at l k e before ps)

-- a property's value with x in the place of a pattern: of P it is x, and of `P = d` it is `x = d`
pub data WithName (x : Text) (p : Tree) : Tree → Tree → Type 0 where
  pattern_alone : (i : List (Option ℕ)) → WithName x p p (marked i x)
  with_default : (i : List (Option ℕ)) (l m : Label) (e : Tree) → WithName x p (node AssignmentPattern l (one p then one e then done)) (node AssignmentPattern m (one (marked i x) then one e then done))

-- what takes the properties behind: a declarator, or none where there are none
pub data Behind (s : Text) : Trees → Trees → Type 0 where
  none_behind : Behind s empty empty
  some_behind : (i : List (Option ℕ)) (d l : Label) (ps : Trees) → Behind s ps (declares_from d (object_pattern_at l ps) (marked i s) before empty)

-- these names are hidden, and nothing writes s
abbrev pub bad_held : List Text → Text → Level → Text → Bool
bad_held xs s = bad_names (among_names xs) (only s)

-- the sources' names are told, and the fresh ones too
abbrev pub either_name : List Text → List Text → Text → Bool
either_name xs ss y = among_names xs y || among_names ss y

pub data NestedRow (xs ss : List Text) (ds : List Declared) : Take → Tree → Tree → Type 0 where
  nested_row : {t : Take} {m o : Label} (d n j lp lf lq l : Label) (ms ns is : List (Option ℕ)) (s x : Text) (a ps qs : Trees) (k e f : Tree) (rs bs c : Trees) → o.texts ≡ m.texts → is_word (codes "using") (first_text m.texts) ≡ false →
      among_names xs x ≡ true → is_declared ds x ≡ true → among_names ss s ≡ true → is_declared ds s ≡ true → Properties ps → Properties rs → WithName x (object_pattern_at lq qs) e f → Behind s rs bs →
      avoids_trees (bad_fresh xs) declarators_taken a ≡ true → avoids (bad_held xs s) target_taken (object_pattern_at lp (followed ps (property_at l k e before rs))) ≡ true → avoids_trees (bad_fresh xs) declarators_taken c ≡ true →
      NestedRow xs ss ds t (declaration_of m (followed a (declares_from d (object_pattern_at lp (followed ps (property_at l k e before rs))) (marked ms s) before c)))
      (declaration_of o (followed a (declares_from n (object_pattern_at lf (followed ps (property_at l k f before empty))) (marked ns s) before declares_from j (object_pattern_at lq qs) (marked is x) before followed bs c)))

-- the names of sources, which may be read again: none is fresh, an own cell of the machine or a helper's name
abbrev pub ReadAgain : Supply → List Text → List Text → Label → Trees → Trees → Type 0
ReadAgain u xs ss l ds body = (y : Text) → among_names ss y ≡ true → (among_names xs y ≡ false) × (is_own_cell y ≡ false) × (is_silent (silent_names u (program l ds body)) y ≡ false)

-- At whatever places of whatever statements, with whatever helpers, where both names are declared around.
abbrev pub LawNested : Type 0
LawNested = (u : Supply) (xs ss : List Text) (l : Label) (ds body after : Trees) → GrownTrees (bad_fresh xs) (among_names xs) (NestedRow xs ss) (top_in after) body_needs body after →
    FreshNames u xs l ds body after → ReadAgain u xs ss l ds body → RunAlike u false (program l ds body) (program l ds after)

-- KEYS THAT ARE READ: `K { A.., [k]: v, B.. } = s` becomes `K { A.. } = s, x = k, { [x]: v, B.. } = s`, where nothing in the pattern writes s. Each key that
-- is read begins a group and has a fresh name. With a rest, `K { A.., [k]: v, B.., ...r } = s` becomes
-- `K { A.. } = s, x = k, { [x]: v, B.. } = s, r = babelHelpers.objectWithoutProperties(s, ["a", x, "b"].map(babelHelpers.toPropertyKey))`, and without
-- `.map(babelHelpers.toPropertyKey)` where none is read: the name holds what the key gave until the rest leaves it out. The machine leaves out a key's value as
-- it is, in both programs: it asks nothing for the conversion of a value to a key.

-- what a property with this key leaves out: a text, or else the value of its key
abbrev pub LeavesOut : Supply → Option Text → Label → Tree → Type 0
LeavesOut u t l k = (w : World) → excluded_text (flag_at 1 l.flags) (sense (placed_at u w [] []) k) ≡ t

pub data Key : Type 0 where
  text_key : Text → Key
  name_key : Text → Key

abbrev pub key_tree : Key → Tree
key_tree (text_key t) = node StringLiteral (made (Some t ∷ []) []) done
key_tree (name_key x) = identifier x

abbrev pub key_trees : List Key → Fields
key_trees [] = done
key_trees (k ∷ ks) = one (key_tree k) then key_trees ks

-- The groups of properties, where these have begun a group: the declarators, the keys that are left out, and the names of those that are read, which are
-- different and declared around.
pub data Groups (u : Supply) (xs : List Text) (ds : List Declared) (s : Text) : Trees → Trees → Trees → List Key → List Text → Type 0 where
  last_group : (d l : Label) (begun : Trees) → Groups u xs ds s begun empty (declares_from d (object_pattern_at l begun) (identifier s) before empty) [] []
  known_key : {begun ps es : Trees} {ks : List Key} {ys : List Text} (l : Label) (k e : Tree) (t : Text) → LeavesOut u (Some t) l k → Groups u xs ds s (followed begun (property_at l k e before empty)) ps es ks ys →
      Groups u xs ds s begun (property_at l k e before ps) es (text_key t ∷ ks) ys
  read_key : {ps es : Trees} {ks : List Key} {ys : List Text} (d lb n l : Label) (begun : Trees) (k e : Tree) (x : Text) → flag_at 1 l.flags ≡ true → LeavesOut u None l k → among_names xs x ≡ true → among_names ys x ≡ false → is_declared ds x ≡ true →
      Groups u xs ds s (property_at l (identifier x) e before empty) ps es ks ys →
      Groups u xs ds s begun (property_at l k e before ps) (declares_from d (object_pattern_at lb begun) (identifier s) before declares_from n (identifier x) k before es) (name_key x ∷ ks) (x ∷ ys)

pub data KeyedRow (u : Supply) (xs ss : List Text) (ds : List Declared) : Take → Tree → Tree → Type 0 where
  keyed_row : {t : Take} {m o : Label} (d lp : Label) (s : Text) (a ps es c : Trees) (ks : List Key) (ys : List Text) → o.texts ≡ m.texts → is_word (codes "using") (first_text m.texts) ≡ false →
      among_names ss s ≡ true → is_declared ds s ≡ true → Groups u xs ds s empty ps es ks ys →
      avoids_trees (bad_fresh xs) declarators_taken a ≡ true → avoids (bad_held xs s) target_taken (object_pattern_at lp ps) ≡ true → avoids_trees (bad_fresh xs) declarators_taken c ≡ true →
      KeyedRow u xs ss ds t (declaration_of m (followed a (declares_from d (object_pattern_at lp ps) (identifier s) before c))) (declaration_of o (followed a (followed es c)))

-- At whatever places of whatever statements, with whatever helpers.
abbrev pub LawKeyed : Type 0
LawKeyed = (u : Supply) (xs ss : List Text) (l : Label) (ds body after : Trees) → GrownTrees (bad_fresh xs) (among_names xs) (KeyedRow u xs ss) (top_in after) body_needs body after →
    FreshNames u xs l ds body after → ReadAgain u xs ss l ds body → RunAlike u false (program l ds body) (program l ds after)

-- THE REST behind such groups

abbrev pub listed_keys : List Key → Tree
listed_keys ks = node ArrayExpression (made [] []) (key_trees ks)

-- `[keys].map(babelHelpers.toPropertyKey)`
abbrev pub mapped_keys : List Key → Tree
mapped_keys ks = node CallExpression (made [] (false ∷ [])) (one (member_node false (listed_keys ks) (identifier (codes "map"))) then many (global_helper (codes "toPropertyKey") before empty) then done)

-- the keys are converted where one of them is read
abbrev pub excluded_keys : Bool → List Key → Tree
excluded_keys true ks = mapped_keys ks
excluded_keys false ks = listed_keys ks

abbrev pub left_call : Bool → Text → List Key → Tree
left_call converts s ks = helper_call_of (codes "objectWithoutProperties") (made [] (false ∷ [])) (identifier s before excluded_keys converts ks before empty)

abbrev pub some_name : List Text → Bool
some_name [] = false
some_name (x ∷ xs) = true

-- and no scope declares `babelHelpers`
abbrev pub bad_helped : List Text → Level → Text → Bool
bad_helped xs = bad_names (among_names xs) (only (codes "babelHelpers"))

pub data TakenRow (xs ss : List Text) (ds : List Declared) : Take → Tree → Tree → Type 0 where
  taken_row : {t : Take} {m o : Label} (d n lp q : Label) (s r : Text) (a ps es c : Trees) (ks : List Key) (ys : List Text) → o.texts ≡ m.texts → is_word (codes "using") (first_text m.texts) ≡ false →
      among_names ss s ≡ true → is_declared ds s ≡ true → among_names ss r ≡ true → is_declared ds r ≡ true → Groups by_global xs ds s empty ps es ks ys →
      avoids_trees (bad_fresh xs) declarators_taken a ≡ true → avoids (bad_held xs s) target_taken (object_pattern_at lp ps) ≡ true → avoids_trees (bad_fresh xs) declarators_taken c ≡ true →
      TakenRow xs ss ds t (declaration_of m (followed a (declares_from d (object_pattern_at lp (followed ps (node RestElement q (one (identifier r) then done) before empty))) (identifier s) before c)))
      (declaration_of o (followed a (followed es (declares_from n (identifier r) (left_call (some_name ys) s ks) before c))))

-- At whatever places of whatever statements, under External helpers.
abbrev pub LawTaken : Type 0
LawTaken = (xs ss : List Text) (l : Label) (ds body after : Trees) → GrownTrees (bad_helped xs) (among_names xs) (TakenRow xs ss) (top_in after) body_needs body after →
    FreshNames by_global xs l ds body after → ReadAgain by_global xs ss l ds body → is_declared (top_in body) (codes "babelHelpers") ≡ false → is_silent (silent_names by_global (program l ds body)) (codes "babelHelpers") ≡ false →
    RunAlike by_global false (program l ds body) (program l ds after)
