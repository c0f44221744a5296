-- The groups of a row that takes a rest are those of the machine's: the made names have symbols, which mean nothing to it.
use Rattle.std.proofs.Common.{◌≡◌, ℕ, zero, suc, refl, sym, ap, subst, ◌∙◌, List, [], ◌∷◌, ◌++◌}
use Rattle.std.proofs.lemmas.Bool.{and_from, and_parts}
use Rattle.std.proofs.lemmas.Slice.Eq.{bytes_eq-Decides}
use Rattle.std.specs.Prelude.{Bool, true, false, not, ◌||◌, Some, None, bytes_eq, codes, map}
use Rattle.es_tree.specs.Names.{flag_at}
use Rattle.es_tree.specs.Scopes.{Declared}
use Rattle.es_tree.specs.Tree.{Tree, node, Label, done, ◌then◌, missing, one, many, statements, Trees, empty, ◌before◌, fields}
use Rattle.es_tree.specs.Words.{Text}
use Rattle.es_tree.specs.declared.ast_type.AstType.TheVariants.{ArrayExpression, ObjectPattern, PatternProperty, VariableDeclaration, VariableDeclarator}
use Rattle.es_runs.specs.Runs.{identifier, is_declared}
use Rattle.es_runs.specs.Rules.{member_node}
use Rattle.es_resolution.specs.Declarations.{Bound}
use Rattle.es_steps.specs.Nodes.{array_node, call_node, identifier as bound_name, joined_trees, made, member_node as path_node, string_node, word}
use Rattle.es_steps.specs.ObjectRest.{helper_node, left_of, pattern_node}
use Rattle.es_steps.specs.Rules.{next_name, with_made}
use Rattle.es_steps.specs.Steps.{Whole}
use Rattle.es_tree.specs.PropertyKeys.{is_literal_key, is_read_key, key_text}
use Rattle.es_rest_shapes.specs.RestShapes.{any_tree, are_plain, is_plain_property, reads_key}
use Rattle.es_rest_rows.specs.RestRows.{NamesKeys, declaring, group, groups, groups_by, keyed_by, keys_by, keys_of, names_key}
use Rattle.es_rest_rows.specs.RestRows.NamesKeys.{knows, no_properties, reads_one}
use Rattle.es_statement_runs.specs.Helpers.Supply.{by_global}
use Rattle.es_statement_runs.specs.Kinds.{portions, sense, senses}
use Rattle.es_statement_runs.specs.Laws.{among_names, any_cells, declaration_of, declares_from, followed, global_helper, object_pattern_at}
use Rattle.es_statement_runs.specs.Alike.{SenseLike}
use Rattle.es_statement_runs.specs.Helpers.{Supply}
use Rattle.es_statement_runs.specs.Places.{Take, placed_at}
use Rattle.es_runs.specs.Core.{World}
use Rattle.es_statement_runs.specs.Senses.{Place}
use Rattle.es_statement_runs.specs.Senses.Portion.{alone, rows}
use Rattle.es_statement_steps.proofs.Below.{BelowTrees}
use Rattle.es_statement_steps.proofs.MadeNames.{all_made, fresh_made, is_made_text}
use Rattle.es_statement_steps.proofs.SameSenses.{AllSame, SameSense, before-same, call-same, member-same, node-same, two-same}
use Rattle.es_split_runs.specs.Laws.{Groups, Key, LeavesOut, key_trees, left_call, listed_keys, mapped_keys, property_at, some_name}
use Rattle.es_split_runs.specs.Laws.Groups.{known_key, last_group, read_key}
use Rattle.es_split_runs.specs.Laws.Key.{name_key, text_key}

-- WHAT A PROPERTY LEAVES OUT, where its key is plain
pub record KeyLeaves (l : Label) (k : Tree) : Type 0 where
  pub known : is_read_key (flag_at 1 l.flags) k ≡ false → LeavesOut by_global (Some (key_text k)) l k
  pub read : is_read_key (flag_at 1 l.flags) k ≡ true → LeavesOut by_global None l k

abbrev pub PropertyLeaves : Tree → Type 0
PropertyLeaves (node PatternProperty l (one k then (one v then done))) = KeyLeaves l k
PropertyLeaves t = Unit {0}

-- a plain property
pub record PropertyShape (p : Tree) : Type 0 where
  pub label : Label
  pub key : Tree
  pub value : Tree
  pub same : p ≡ property_at label key value

pub property_shape : (p : Tree) → is_plain_property p ≡ true → PropertyShape p
property_shape (node PatternProperty l (one k then (one v then done))) e = record { label = l; key = k; value = v; same = refl }
property_shape (node PatternProperty l (one k then (one v then (f then fs)))) e = absurd (cc e)
property_shape (node PatternProperty l (one k then (missing then fs))) e = absurd (cc e)
property_shape (node PatternProperty l (one k then (many ts then fs))) e = absurd (cc e)
property_shape (node PatternProperty l (one k then (statements ts then fs))) e = absurd (cc e)
property_shape (node PatternProperty l (one k then done)) e = absurd (cc e)
property_shape (node PatternProperty l (missing then fs)) e = absurd (cc e)
property_shape (node PatternProperty l (many ts then fs)) e = absurd (cc e)
property_shape (node PatternProperty l (statements ts then fs)) e = absurd (cc e)
property_shape (node PatternProperty l done) e = absurd (cc e)
property_shape (node k l fs) e = absurd (cc e)

-- SAME SENSES

pub name_same : (b : Bound) → SameSense (bound_name b) (identifier b.name)
name_same b p = refl

senses_joined : (p : Place) (ts us : Trees) → senses p (joined_trees ts us) ≡ senses p ts ++ senses p us
senses_joined p empty us = refl
senses_joined p (t before ts) us = ap (λ es. sense p t ∷ es) (senses_joined p ts us)

senses_followed : (p : Place) (ts us : Trees) → senses p (followed ts us) ≡ senses p ts ++ senses p us
senses_followed p empty us = refl
senses_followed p (t before ts) us = ap (λ es. sense p t ∷ es) (senses_followed p ts us)

pub joined_followed : (ts us vs ws : Trees) → AllSame ts us → AllSame vs ws → AllSame (joined_trees ts vs) (followed us ws)
joined_followed ts us vs ws h g p = senses_joined p ts vs ∙ ((λ i. h p i ++ g p i) ∙ sym (senses_followed p us ws))

pub all_self : (ts : Trees) → AllSame ts ts
all_self ts p = refl

pub pattern_same : (l : Label) (ts us : Trees) → AllSame ts us → SameSense (node ObjectPattern l (many ts then done)) (node ObjectPattern l (many us then done))
pattern_same l ts us h = node-same ObjectPattern l (many ts then done) (many us then done) refl refl refl (λ at i. rows (h (at zero) i) ∷ [])

pub declarator_same : (l : Label) (a b c d : Tree) → SameSense a b → SameSense c d → SameSense (node VariableDeclarator l (one a then (one c then done))) (node VariableDeclarator l (one b then (one d then done)))
declarator_same l a b c d h g = node-same VariableDeclarator l (one a then (one c then done)) (one b then (one d then done)) refl refl refl (two-same a b c d h g)

pub declaration_same : (l : Label) (ts us : Trees) → AllSame ts us → SameSense (declaring l ts) (declaration_of l us)
declaration_same l ts us h = node-same VariableDeclaration l (many ts then done) (many us then done) refl refl refl (λ at i. rows (h (at zero) i) ∷ [])

-- they are alike where trees of their senses are
pub as_same : (u : Supply) (hidden : Text → Bool) (t : Take) (ls : List Text) (y : Text) (w v : World) (a b c d : Tree) → SameSense a c → SameSense b d → SenseLike (any_cells hidden) w v t (sense (placed_at u w ls y) c) (sense (placed_at u v ls y) d) →
    SenseLike (any_cells hidden) w v t (sense (placed_at u w ls y) a) (sense (placed_at u v ls y) b)
as_same u hidden t ls y w v a b c d h g like =
    subst (λ e. SenseLike (any_cells hidden) w v t e (sense (placed_at u v ls y) b)) (sym (h (placed_at u w ls y))) (subst (λ e. SenseLike (any_cells hidden) w v t (sense (placed_at u w ls y) c) e) (sym (g (placed_at u v ls y))) like)

property_same : (l : Label) (a b v : Tree) → SameSense a b → SameSense (node PatternProperty l (one a then (one v then done))) (node PatternProperty l (one b then (one v then done)))
property_same l a b v h = node-same PatternProperty l (one a then (one v then done)) (one b then (one v then done)) refl refl refl (two-same a b v v h (λ p. refl))

pub one_and : (a b : Tree) (ts us : Trees) → SameSense a b → AllSame ts us → AllSame (a before ts) (b before us)
one_and a b ts us h g = before-same a b ts us h g

-- THE NAMES OF KEYS

abbrev pub texts_of : List Bound → List Text
texts_of [] = []
texts_of (b ∷ bs) = b.name ∷ texts_of bs

or_new : (a b : Bool) → (a || b) ≡ false → (a ≡ false) × (b ≡ false)
or_new true b h = absurd (cc h)
or_new false b h = (refl, h)

same_text : (x y : Text) → bytes_eq y x ≡ true → y ≡ x
same_text x y e = (bytes_eq-Decides y x).0 e

-- none is in use before
pub keys_new : {w w' : Whole} {ps : Trees} {ns : List Bound} → NamesKeys w ps ns w' → (y : Text) → among_names (texts_of ns) y ≡ true → w.in_use y ≡ false
keys_new no_properties y e = absurd (cc e)
keys_new (knows r h) y e = keys_new h y e
keys_new {w = w} (reads_one {xs = ns} x r silent fresh h) y e = at (bytes_eq y x) refl (λ d. (or_new (w.in_use y) (bytes_eq x y) (keys_new h y d)).0) e
  where
    at : (b : Bool) → bytes_eq y x ≡ b → (among_names (texts_of ns) y ≡ true → w.in_use y ≡ false) → (b || among_names (texts_of ns) y) ≡ true → w.in_use y ≡ false
    at true g later d = ap w.in_use (same_text x y g) ∙ fresh.free
    at false g later d = later d

-- nor among those behind it
next_apart : (w : Whole) {w' : Whole} {ps : Trees} {ns : List Bound} (x : Text) → NamesKeys (with_made (next_name w x ∷ []) w) ps ns w' → among_names (texts_of ns) x ≡ false
next_apart w {ns = ns} x h = at (among_names (texts_of ns) x) refl
  where
    at : (b : Bool) → among_names (texts_of ns) x ≡ b → b ≡ false
    at false g = refl
    at true g =
        let no : bytes_eq x x ≡ false = (or_new (w.in_use x) (bytes_eq x x) (keys_new h x g)).1 in
        absurd (let yes : bytes_eq x x ≡ true = (bytes_eq-Decides x x).1 refl in cc (no, yes))

-- and all are made
pub keys_made : {w w' : Whole} {ps : Trees} {ns : List Bound} → NamesKeys w ps ns w' → all_made (texts_of ns) ≡ true
keys_made no_properties = refl
keys_made (knows r h) = keys_made h
keys_made {w = w} (reads_one {xs = ns} x r silent fresh h) = and_from (is_made_text x) (all_made (texts_of ns)) (fresh_made w.in_use _ x fresh) (keys_made h)

-- one of them is read
pub some_read : {w w' : Whole} {ps : Trees} {ns : List Bound} → NamesKeys w ps ns w' → any_tree reads_key ps ≡ some_name (texts_of ns)
some_read no_properties = refl
some_read (knows {ps = ps} r h) = ap (λ b. b || any_tree reads_key ps) r ∙ some_read h
some_read (reads_one {l = l} {k = k} {v = v} {ps = ps} x r silent fresh h) = ap (λ b. b || any_tree reads_key ps) r

-- THE GROUPS, built beside those of the row

module _ (XS : List Text) (D : List Declared) (lp : Label) (S : Tree) (s : Text) (source : SameSense S (identifier s)) where
  pub record Made (row : Trees) (keys : List Tree) (begun ps : Trees) (ys : List Text) : Type 0 where
    pub declarators : Trees
    pub left : List Key
    pub built : Groups by_global XS D s begun ps declarators left ys
    pub same : AllSame row declarators
    pub listed : (at : ℕ → Place) → portions at (fields (map one keys)) ≡ portions at (key_trees left)

  abbrev pub Bound_around : List Bound → Type 0
  Bound_around ns = (y : Text) → among_names (texts_of ns) y ≡ true → (among_names XS y ≡ true) × (is_declared D y ≡ true)

  group_same : (l : Label) (ts us : Trees) → AllSame ts us → SameSense (group l S ts) (declares_from (made [] []) (object_pattern_at l us) (identifier s))
  group_same l ts us h = declarator_same (made [] []) (pattern_node l ts) (object_pattern_at l us) S (identifier s) (pattern_same l ts us h) source

  here_name : (x : Text) (ys : List Text) → among_names (x ∷ ys) x ≡ true
  here_name x ys = ap (λ b. b || among_names ys x) ((bytes_eq-Decides x x).1 refl)

  later_name : (x y : Text) (ys : List Text) → among_names ys y ≡ true → among_names (x ∷ ys) y ≡ true
  later_name x y ys h = ap (λ b. bytes_eq y x || b) h ∙ or_so (bytes_eq y x)
    where
      or_so : (b : Bool) → (b || true) ≡ true
      or_so true = refl
      or_so false = refl

  known_step : (ns : List Bound) (l : Label) (k v : Tree) (ps ts us : Trees) → reads_key (property_at l k v) ≡ false → KeyLeaves l k →
      Made (groups lp S ns (joined_trees ts (property_at l k v before empty)) ps) (keys_of ns ps) (followed us (property_at l k v before empty)) ps (texts_of ns) →
      Made (groups lp S ns ts (property_at l k v before ps)) (keys_of ns (property_at l k v before ps)) us (property_at l k v before ps) (texts_of ns)
  known_step ns l k v ps ts us reads leaves b =
      let p = property_at l k v in
      subst (λ (c : Bool). Made (groups_by c lp S ns ts p (λ ys these. groups lp S ys these ps)) (keys_by c ns p (λ ys. keys_of ys ps)) us (p before ps) (texts_of ns)) (sym reads)
      (record {
        declarators = b.declarators;
        left = text_key (key_text k) ∷ b.left;
        built = known_key l k v (key_text k) (leaves.known reads) b.built;
        same = b.same;
        listed = λ at i. alone (sense (at zero) (string_node (key_text k))) ∷ b.listed (λ j. at (suc j)) i;
      })

  pub build : {w w' : Whole} {ps : Trees} {ns : List Bound} → NamesKeys w ps ns w' → are_plain ps ≡ true → BelowTrees PropertyLeaves ps → Bound_around ns → (ts us : Trees) → AllSame ts us → Made (groups lp S ns ts ps) (keys_of ns ps) us ps (texts_of ns)
  build no_properties plain leaves around ts us begun = record {
    declarators = declares_from (made [] []) (object_pattern_at lp us) (identifier s) before empty;
    left = [];
    built = last_group (made [] []) lp us;
    same = one_and (group lp S ts) (declares_from (made [] []) (object_pattern_at lp us) (identifier s)) empty empty (group_same lp ts us begun) (all_self empty);
    listed = λ at. refl;
  }
  build (knows {p = p} {ps = ps} {xs = ns} reads h) plain leaves around ts us begun =
      let d = and_parts (is_plain_property p) (are_plain ps) plain in
      let shape = property_shape p d.0 in
      let t : Tree = property_at shape.label shape.key shape.value in
      subst (λ (q : Tree). reads_key q ≡ false → PropertyLeaves q → Made (groups lp S ns ts (q before ps)) (keys_of ns (q before ps)) us (q before ps) (texts_of ns)) {x = t} (sym shape.same)
      (λ r k. known_step ns shape.label shape.key shape.value ps ts us r k
      (build h d.1 leaves.1 around (joined_trees ts (t before empty)) (followed us (t before empty)) (joined_followed ts us (t before empty) (t before empty) begun (all_self (t before empty)))))
      reads leaves.0
  build (reads_one {w = w} {l = l} {k = k} {v = v} {ps = ps} {xs = ns} x reads silent fresh h) plain leaves around ts us begun =
      let p : Tree = property_at l k v in
      let X : Bound = next_name w x in
      let rest = (and_parts (is_plain_property p) (are_plain ps) plain).1 in
      let computed = (and_parts (flag_at 1 l.flags) (not (is_literal_key k)) reads).0 in
      let mine = around x (here_name x (texts_of ns)) in
      let q : Tree = keyed_by X p in
      let q' : Tree = property_at l (identifier x) v in
      let b : Made (groups lp S ns (q before empty) ps) (keys_of ns ps) (q' before empty) ps (texts_of ns) =
      build h rest leaves.1 (λ y e. around y (later_name x y (texts_of ns) e)) (q before empty) (q' before empty) (one_and q q' empty empty (property_same l (bound_name X) (identifier x) v (name_same X)) (all_self empty)) in
      let first : Tree = declares_from (made [] []) (object_pattern_at (made [] []) us) (identifier s) in
      let second : Tree = declares_from (made [] []) (identifier x) k in
      subst (λ (c : Bool). Made (groups_by c lp S (X ∷ ns) ts p (λ ys these. groups lp S ys these ps)) (keys_by c (X ∷ ns) p (λ ys. keys_of ys ps)) us (p before ps) (x ∷ texts_of ns)) (sym reads)
      (record {
        declarators = first before (second before b.declarators);
        left = name_key x ∷ b.left;
        built = read_key (made [] []) (made [] []) (made [] []) l us k v x computed (leaves.0.read reads) mine.0 (next_apart w x h) mine.1 b.built;
        same = one_and (group (made [] []) S ts) first (names_key X p before groups lp S ns (q before empty) ps) (second before b.declarators) (group_same (made [] []) ts us begun)
            (one_and (names_key X p) second (groups lp S ns (q before empty) ps) b.declarators (declarator_same (made [] []) (bound_name X) (identifier x) k k (name_same X) (λ z. refl)) b.same);
        listed = λ at i. alone (name_same X (at zero) i) ∷ b.listed (λ j. at (suc j)) i;
      })

  -- THE CALL

  helper_same : (h : Text) → SameSense (helper_node h) (global_helper h)
  helper_same h p = refl

  keys_same : (keys : List Tree) (left : List Key) → ((at : ℕ → Place) → portions at (fields (map one keys)) ≡ portions at (key_trees left)) → SameSense (array_node keys) (listed_keys left)
  keys_same keys left h = node-same ArrayExpression (made [] []) (fields (map one keys)) (key_trees left) refl refl refl h

  pub call_same : (b c : Bool) (keys : List Tree) (left : List Key) → b ≡ c → ((at : ℕ → Place) → portions at (fields (map one keys)) ≡ portions at (key_trees left)) → SameSense (left_of b S keys) (left_call c s left)
  call_same b c keys left e h = subst (λ (d : Bool). SameSense (left_of b S keys) (left_call d s left)) e (at b)
    where
      helper : Tree
      helper = helper_node (codes "objectWithoutProperties")

      at : (d : Bool) → SameSense (left_of d S keys) (left_call d s left)
      at false = call-same (made [] (false ∷ [])) helper (global_helper (codes "objectWithoutProperties")) (S before (array_node keys before empty)) (identifier s before (listed_keys left before empty)) (helper_same (codes "objectWithoutProperties"))
          (one_and S (identifier s) (array_node keys before empty) (listed_keys left before empty) source (one_and (array_node keys) (listed_keys left) empty empty (keys_same keys left h) (all_self empty)))
      at true =
          let mapped : Tree = call_node (path_node (array_node keys) (codes "map")) (helper_node (codes "toPropertyKey") ∷ []) in
          let inner : SameSense mapped (mapped_keys left) = call-same (made [] (false ∷ [])) (path_node (array_node keys) (codes "map")) (member_node false (listed_keys left) (identifier (codes "map"))) (helper_node (codes "toPropertyKey") before empty) (global_helper (codes "toPropertyKey") before empty)
          (member-same false (array_node keys) (listed_keys left) (word (codes "map")) (identifier (codes "map")) (keys_same keys left h) (λ p. refl))
          (one_and (helper_node (codes "toPropertyKey")) (global_helper (codes "toPropertyKey")) empty empty (helper_same (codes "toPropertyKey")) (all_self empty)) in
          call-same (made [] (false ∷ [])) helper (global_helper (codes "objectWithoutProperties")) (S before (mapped before empty)) (identifier s before (mapped_keys left before empty)) (helper_same (codes "objectWithoutProperties"))
          (one_and S (identifier s) (mapped before empty) (mapped_keys left before empty) source (one_and mapped (mapped_keys left) empty empty inner (all_self empty)))
