-- The names of constants for lists of excluded keys: where a program declares them at its top, in front of what calls the helper with them, each stands for the texts of its
-- list, and no other name stands for anything.
use Rattle.std.proofs.Common.{◌+◌, ◌≡◌, ◌∙◌, ℕ, refl, sym, ap, List, [], ◌∷◌, ◌++◌, arith}
use Rattle.std.proofs.lemmas.Bool.{or_parts, or_right}
use Rattle.std.proofs.lemmas.List.{append-nil}
use Rattle.std.specs.Prelude.{◌||◌, Bool, true, false, Option, Some, None, bytes_eq, codes, if◌then◌else◌, map}
use Rattle.es_tree.specs.Fresh.{also, is_among}
use Rattle.es_tree.specs.Names.{first_text, names_if, names_in_trees, names_of}
use Rattle.es_tree.specs.Scopes.{Declared, declares}
use Rattle.es_tree.specs.Tree.{Tree, node, Label, Fields, done, ◌then◌, one, many, Trees, empty, ◌before◌, trees}
use Rattle.es_tree.specs.Words.{Text}
use Rattle.es_tree.specs.declared.ast_type.AstType.TheVariants.{ArrayExpression, Identifier, VariableDeclaration, VariableDeclarator}
use Rattle.es_resolution.specs.Declarations.{Bound}
use Rattle.es_resolution.proofs.Basics.{bytes_eq-equal}
use Rattle.es_runs.specs.Core.{Silent}
use Rattle.es_runs.specs.Core.Silent.{keys_name}
use Rattle.es_runs.specs.Runs.{program}
use Rattle.es_runs.proofs.Temporary.{bytes_eq-flip, bytes_eq-self}
use Rattle.es_steps.specs.CoreBridge.{names_among}
use Rattle.es_steps.specs.Nodes.{declarator_with, identifier, joined_trees}
use Rattle.es_steps.specs.Open.{after_imports, is_import}
use Rattle.es_statement_runs.specs.Helpers.{binds_constant, constant_by, constant_where, constants_by, constants_in, entry, key_places, key_places_all, key_places_in, occurrences, one_where, only_excludes, texts_of}
use Rattle.es_statement_runs.specs.Helpers.Supply.{by_global}
use Rattle.es_statement_runs.specs.Kinds.{kind_in}
use Rattle.es_statement_runs.specs.Laws.{among_names}
use Rattle.es_statement_runs.specs.Names.{binding_word, declarator_bound, declarators_names, declared_as, top_in, top_names}
use Rattle.es_helper_calls.proofs.TextLists.{TextList, Texts}
use Rattle.es_helper_calls.proofs.TextLists.TextList.{text_list}
use Rattle.es_helper_calls.proofs.TextLists.Texts.{no_text, one_text}
use Rattle.es_helper_imports.specs.Imported.{unmarked}
use Rattle.es_statement_steps.proofs.DeclaredNames.{declares_append}
use Rattle.es_rest_runs.proofs.NoSilence.{none_where}
use Rattle.es_top_constants.specs.TopConstants.{constants_of, declarator_of}
use Rattle.es_top_constants.proofs.Constants.{the_constants}
use Rattle.es_excluded_keys.specs.ExcludedKeys.{AreFresh}
use Rattle.es_constant_runs.proofs.CountedNames.{list_unnamed, occurs_both}
use Rattle.es_constant_runs.proofs.SharedTrees.{AllPaired, AsMany, StandsFor, listed_in, map_paired, texts_are}
use Rattle.es_constant_runs.proofs.SharedTrees.AsMany.{none_each, one_each}

-- FRESH NAMES: none was in use, and each is there once

used_by : (u : Text → Bool) (y z : Text) → bytes_eq z y ≡ true → u y ≡ true → u z ≡ true
used_by u y z e h = ap u (bytes_eq-equal z y e) ∙ h

pub not_again : (u : Text → Bool) (names : List Text) → AreFresh u names → (y : Text) → u y ≡ true → occurrences y names ≡ 0
not_again u [] h y e = refl
not_again u (z ∷ zs) h y e = at (bytes_eq z y) refl (not_again (also z u) zs h.1 y (ap (λ (b : Bool). b || bytes_eq z y) e))
  where
    at : (b : Bool) → bytes_eq z y ≡ b → occurrences y zs ≡ 0 → one_where (bytes_eq z y) + occurrences y zs ≡ 0
    at true d rest = absurd (let no : true ≡ false = sym (used_by u y z d e) ∙ h.0.free in cc no)
    at false d rest = let own : one_where (bytes_eq z y) ≡ 0 = ap one_where d in omega arith

pub among_free : (u : Text → Bool) (names : List Text) → AreFresh u names → (y : Text) → is_among names y ≡ true → u y ≡ false
among_free u [] h y e = absurd (cc e)
among_free u (z ∷ zs) h y e = at (bytes_eq z y) refl e (among_free (also z u) zs h.1 y)
  where
    at : (b : Bool) → bytes_eq z y ≡ b → (b || is_among zs y) ≡ true → (is_among zs y ≡ true → (u y || bytes_eq z y) ≡ false) → u y ≡ false
    at true d g rest = ap u (sym (bytes_eq-equal z y d)) ∙ h.0.free
    at false d g rest = (or_parts (u y) (bytes_eq z y) (rest g)).0

pub there_once : (u : Text → Bool) (names : List Text) → AreFresh u names → (y : Text) → is_among names y ≡ true → occurrences y names ≡ 1
there_once u [] h y e = absurd (cc e)
there_once u (z ∷ zs) h y e = at (bytes_eq z y) refl e (there_once (also z u) zs h.1 y)
  where
    at : (b : Bool) → bytes_eq z y ≡ b → (b || is_among zs y) ≡ true → (is_among zs y ≡ true → occurrences y zs ≡ 1) → one_where (bytes_eq z y) + occurrences y zs ≡ 1
    at true d g rest =
        let own : one_where (bytes_eq z y) ≡ 1 = ap one_where d in
        let others : occurrences y zs ≡ 0 = not_again (also z u) zs h.1 y (or_right (u y) (bytes_eq z y) d) in
        omega arith
    at false d g rest = let own : one_where (bytes_eq z y) ≡ 0 = ap one_where d in let others : occurrences y zs ≡ 1 = rest g in omega arith

-- a name that isn't in use is none of those that are
pub unused_nowhere : (u : Text → Bool) (ns : List Text) → ((x : Text) → is_among ns x ≡ true → u x ≡ true) → (y : Text) → u y ≡ false → occurrences y ns ≡ 0
unused_nowhere u [] used y e = refl
unused_nowhere u (n ∷ ns) used y e = at (bytes_eq n y) refl (unused_nowhere u ns (λ x d. used x (or_right (bytes_eq n x) (is_among ns x) d)) y e)
  where
    at : (b : Bool) → bytes_eq n y ≡ b → occurrences y ns ≡ 0 → one_where (bytes_eq n y) + occurrences y ns ≡ 0
    at true d rest = absurd (let no : true ≡ false = sym (used y (ap (λ (b : Bool). b || is_among ns y) d)) ∙ e in cc no)
    at false d rest = let own : one_where (bytes_eq n y) ≡ 0 = ap one_where d in omega arith

pub among_unmarked : (names : List Text) → names_among (unmarked names) ≡ names
among_unmarked [] = refl
among_unmarked (x ∷ xs) = ap (λ (ys : List Text). x ∷ ys) (among_unmarked xs)

-- the tests of names are the same, but for the order in which they compare
pub among_flipped : (names : List Text) (y : Text) → among_names names y ≡ is_among names y
among_flipped [] y = refl
among_flipped (x ∷ xs) y = λ i. bytes_eq-flip y x i || among_flipped xs y i

-- WHAT EACH STANDS FOR

abbrev pub listed : List Bound → List Tree → List (Text × Silent)
listed (b ∷ bs) (t ∷ ts) = (b.name, keys_name (listed_in t)) ∷ listed bs ts
listed bs ts = []

abbrev Found : (Text → Bool) → List (Text × Silent) → Bound → Tree → Type 0
Found u es b t = (u b.name ≡ false) × StandsFor es b t

found_keys : (u : Text → Bool) (names : List Text) (ls : List Tree) → AreFresh u names → AsMany (unmarked names) ls → AllPaired (Found u (listed (unmarked names) ls)) (unmarked names) ls
found_keys u [] [] h none_each = tt
found_keys u [] (t ∷ ts) h each = elim each [ ]
found_keys u (x ∷ xs) [] h each = elim each [ ]
found_keys u (x ∷ xs) (t ∷ ts) h (one_each d each) = (
  (h.0.free, ap (λ (b : Bool). if b then Some (keys_name (listed_in t)) else entry (listed (unmarked xs) ts) x) (bytes_eq-self x)),
  map_paired (Found (also x u) (listed (unmarked xs) ts)) (Found u (listed (unmarked (x ∷ xs)) (t ∷ ts))) (λ b l g. (let n = or_parts (u b.name) (bytes_eq x b.name) g.0 in (n.0, ap (λ (c : Bool). if c then Some (keys_name (listed_in t)) else entry (listed (unmarked xs) ts) b.name) n.1 ∙ g.1))) (unmarked xs) ts (found_keys (also x u) xs ts h.1 each),
)

pub each_found : (u : Text → Bool) (names : List Text) (ls : List Tree) → AreFresh u names → AsMany (unmarked names) ls → AllPaired (StandsFor (listed (unmarked names) ls)) (unmarked names) ls
each_found u names ls h each = map_paired (Found u (listed (unmarked names) ls)) (StandsFor (listed (unmarked names) ls)) (λ b t g. g.1) (unmarked names) ls (found_keys u names ls h each)

pub found_among : (names : List Text) (ls : List Tree) (y : Text) (s : Silent) → entry (listed (unmarked names) ls) y ≡ Some s → among_names names y ≡ true
found_among [] ls y s e = absurd (cc e)
found_among (x ∷ xs) [] y s e = absurd (cc e)
found_among (x ∷ xs) (t ∷ ts) y s e = at (bytes_eq x y) refl e (found_among xs ts y s)
  where
    at : (b : Bool) → bytes_eq x y ≡ b → (if b then Some (keys_name (listed_in t)) else entry (listed (unmarked xs) ts) y) ≡ Some s → (entry (listed (unmarked xs) ts) y ≡ Some s → among_names xs y ≡ true) → (bytes_eq y x || among_names xs y) ≡ true
    at true d g rest = ap (λ (b : Bool). b || among_names xs y) (bytes_eq-flip y x ∙ d)
    at false d g rest = or_right (bytes_eq y x) (among_names xs y) (rest g)

pub others_unfound : (names : List Text) (ls : List Tree) (y : Text) → among_names names y ≡ false → entry (listed (unmarked names) ls) y ≡ None
others_unfound names ls y e = at (entry (listed (unmarked names) ls) y) refl
  where
    at : (o : Option Silent) → entry (listed (unmarked names) ls) y ≡ o → o ≡ None
    at None d = refl
    at (Some s) d = absurd (let no : true ≡ false = sym (found_among names ls y s d) ∙ e in cc no)

-- WHAT THE STATEMENT DECLARES

abbrev pub statement_of : List Text → List Tree → Tree
statement_of names ls = the_constants (constants_of (unmarked names) ls)

pub others_declared : (names : List Text) (ls : List Tree) (y : Text) → among_names names y ≡ false → (ds : List Declared) → kind_in (top_names (statement_of names ls) ++ ds) y ≡ kind_in ds y
others_declared [] ls y e ds = refl
others_declared (x ∷ xs) [] y e ds = refl
others_declared (x ∷ xs) (t ∷ ts) y e ds = let d = or_parts (bytes_eq y x) (among_names xs y) e in
    ap (λ (b : Bool). if b then Some (codes "const") else kind_in (top_names (statement_of xs ts) ++ ds) y) d.0 ∙ others_declared xs ts y d.1 ds

-- HOW OFTEN NAMES STAND IN IT: each once, and none as keys

texts_placed : (y : Text) (fs : Fields) → Texts fs → key_places_in by_global [] y fs ≡ 0
texts_placed y ts no_text = refl
texts_placed y ts (one_text {fs = fs} k h) = let rest = texts_placed y fs h in omega arith

list_placed : (y : Text) (t : Tree) → TextList t → key_places by_global [] y t ≡ 0
list_placed y t (text_list l fs h) = let rest = texts_placed y fs h in omega arith

declarators_placed : (y : Text) (bs : List Bound) (ls : List Tree) → AsMany bs ls → key_places_all by_global [] y (trees (map declarator_of (constants_of bs ls))) ≡ 0
declarators_placed y [] [] none_each = refl
declarators_placed y [] (t ∷ ts) each = elim each [ ]
declarators_placed y (b ∷ bs) [] each = elim each [ ]
declarators_placed y (b ∷ bs) (t ∷ ts) (one_each d each) =
    let own : key_places by_global [] y t ≡ 0 = list_placed y t d in
    let rest : key_places_all by_global [] y (trees (map declarator_of (constants_of bs ts))) ≡ 0 = declarators_placed y bs ts each in
    omega arith

pub statement_placed : (y : Text) (names : List Text) (ls : List Tree) → AsMany (unmarked names) ls → key_places by_global [] y (statement_of names ls) ≡ 0
statement_placed y names ls each = let rest = declarators_placed y (unmarked names) ls each in omega arith

declarators_named : (bs : List Bound) (ls : List Tree) → AsMany bs ls → names_in_trees (trees (map declarator_of (constants_of bs ls))) ≡ names_among bs
declarators_named [] [] none_each = refl
declarators_named [] (t ∷ ts) each = elim each [ ]
declarators_named (b ∷ bs) [] each = elim each [ ]
declarators_named (b ∷ bs) (t ∷ ts) (one_each d each) = λ i. b.name ∷ ((list_unnamed t d i ++ []) ++ declarators_named bs ts each i)

pub statement_named : (names : List Text) (ls : List Tree) → AsMany (unmarked names) ls → names_if true (statement_of names ls) ≡ names
statement_named names ls each = append-nil (names_in_trees (trees (map declarator_of (constants_of (unmarked names) ls)))) ∙ declarators_named (unmarked names) ls each ∙ among_unmarked names

-- IN A LIST, behind the imports

module _ (n : Tree) (y : Text) where
  pub places_after : (us : Trees) → key_places_all by_global [] y (after_imports (n before empty) us) ≡ key_places by_global [] y n + key_places_all by_global [] y us
  places_after empty = refl
  places_after (b before us) = at (is_import b) (places_after us)
    where
      at : (c : Bool) → key_places_all by_global [] y (after_imports (n before empty) us) ≡ key_places by_global [] y n + key_places_all by_global [] y us →
          key_places_all by_global [] y (if c then b before after_imports (n before empty) us else joined_trees (n before empty) (b before us)) ≡ key_places by_global [] y n + (key_places by_global [] y b + key_places_all by_global [] y us)
      at true e = omega arith
      at false e = refl

  pub names_after : (us : Trees) → occurrences y (names_in_trees (after_imports (n before empty) us)) ≡ occurrences y (names_if true n) + occurrences y (names_in_trees us)
  names_after empty = let e = occurs_both y (names_if true n) [] in omega arith
  names_after (b before us) = at (is_import b) (names_after us)
    where
      at : (c : Bool) → occurrences y (names_in_trees (after_imports (n before empty) us)) ≡ occurrences y (names_if true n) + occurrences y (names_in_trees us) →
          occurrences y (names_in_trees (if c then b before after_imports (n before empty) us else joined_trees (n before empty) (b before us))) ≡ occurrences y (names_if true n) + occurrences y (names_in_trees (b before us))
      at true e =
          let d = occurs_both y (names_if true b) (names_in_trees (after_imports (n before empty) us)) in
          let g = occurs_both y (names_if true b) (names_in_trees us) in
          omega arith
      at false e = occurs_both y (names_if true n) (names_in_trees (b before us))

  -- in a program
  pub program_places : (l : Label) (ds us : Trees) → key_places by_global [] y (program l ds (after_imports (n before empty) us)) ≡ key_places by_global [] y n + key_places by_global [] y (program l ds us)
  program_places l ds us = let e = places_after us in omega arith

  pub program_named : (l : Label) (ds us : Trees) → occurrences y (names_of (program l ds (after_imports (n before empty) us))) ≡ occurrences y (names_if true n) + occurrences y (names_of (program l ds us))
  program_named l ds us =
      let e = names_after us in
      let a = occurs_both y (names_in_trees ds) (names_in_trees (after_imports (n before empty) us) ++ []) in
      let b = occurs_both y (names_in_trees (after_imports (n before empty) us)) [] in
      let c = occurs_both y (names_in_trees ds) (names_in_trees us ++ []) in
      let d = occurs_both y (names_in_trees us) [] in
      omega arith

-- CONSTANTS OF A PROGRAM

module _ (q : Tree) where
  -- a name stands once as keys, and twice in all
  abbrev pub IsKeyName : Text → Type 0
  IsKeyName y = (key_places by_global [] y q ≡ 1) × (occurrences y (names_of q) ≡ 2)

  -- and of other names none is one
  abbrev pub NoKeys : List Declared → Type 0
  NoKeys ds = (y : Text) → declares ds y ≡ true → key_places by_global [] y q ≡ 0

  constant_listed : (b : Bound) (t : Tree) → TextList t → IsKeyName b.name → constant_by by_global [] q (declarator_with (identifier b) t) ≡ (b.name, keys_name (listed_in t)) ∷ []
  constant_listed b t (text_list l fs h) k = λ i. constant_where b.name (only_excludes (k.0 i) (k.1 i)) (texts_are fs h i)

  constants_listed : (names : List Text) (ls : List Tree) → AsMany (unmarked names) ls → ((y : Text) → is_among names y ≡ true → IsKeyName y) → constants_by by_global [] q (trees (map declarator_of (constants_of (unmarked names) ls))) ≡ listed (unmarked names) ls
  constants_listed [] [] none_each k = refl
  constants_listed [] (t ∷ ts) each k = elim each [ ]
  constants_listed (x ∷ xs) [] each k = elim each [ ]
  constants_listed (x ∷ xs) (t ∷ ts) (one_each d each) k =
      λ i. constant_listed (record { name = x; symbol = None }) t d (k x (ap (λ (b : Bool). b || is_among xs x) (bytes_eq-self x))) i ++ constants_listed xs ts each (λ y e. k y (or_right (bytes_eq x y) (is_among xs y) e)) i

  none_by_name : (word : Text) (d : Tree) → NoKeys (declared_as word (declarator_bound d)) → constant_by by_global [] q d ≡ []
  none_by_name word (node VariableDeclarator l (one (node Identifier k gs) then (one (node ArrayExpression m es) then done))) none =
      let x = first_text k.texts in
      ap (λ (c : ℕ). constant_where x (only_excludes c (occurrences x (names_of q))) (texts_of es)) (none x (ap (λ (b : Bool). b || false) (bytes_eq-self x))) ∙ none_where x (texts_of es)
  none_by_name word _ none = refl

  first_none : (ds es : List Declared) → NoKeys (ds ++ es) → NoKeys ds
  first_none ds es none y e = none y (declares_append y ds es ∙ ap (λ (b : Bool). b || declares es y) e)

  later_none : (ds es : List Declared) → NoKeys (ds ++ es) → NoKeys es
  later_none ds es none y e = none y (declares_append y ds es ∙ or_right (declares ds y) (declares es y) e)

  none_by_names : (word : Text) (ds : Trees) → NoKeys (declarators_names word ds) → constants_by by_global [] q ds ≡ []
  none_by_names word empty none = refl
  none_by_names word (d before ds) none =
      let own = declared_as word (declarator_bound d) in
      λ i. none_by_name word d (first_none own (declarators_names word ds) none) i ++ none_by_names word ds (later_none own (declarators_names word ds) none) i

  none_if : (b : Bool) (es : List (Text × Silent)) → es ≡ [] → (if b then es else []) ≡ []
  none_if true es e = e
  none_if false es e = refl

  none_first : (t : Tree) → NoKeys (top_names t) → (ts : Trees) → constants_in by_global [] q (t before ts) ≡ constants_in by_global [] q ts
  none_first (node VariableDeclaration l (many ds then fs)) none ts = λ i. none_if (binds_constant (first_text l.texts)) (constants_by by_global [] q ds) (none_by_names (binding_word (first_text l.texts)) ds none) i ++ constants_in by_global [] q ts
  none_first _ none ts = refl

  none_in : (ts : Trees) → NoKeys (top_in ts) → constants_in by_global [] q ts ≡ []
  none_in empty none = refl
  none_in (t before ts) none = none_first t (first_none (top_names t) (top_in ts) none) ts ∙ none_in ts (later_none (top_names t) (top_in ts) none)

  module _ (names : List Text) (ls : List Tree) (each : AsMany (unmarked names) ls) (keys : (y : Text) → is_among names y ≡ true → IsKeyName y) where
    front : (us : Trees) → NoKeys (top_in us) → constants_in by_global [] q (statement_of names ls before us) ≡ listed (unmarked names) ls
    front us none = (λ i. constants_listed names ls each keys i ++ none_in us none i) ∙ append-nil (listed (unmarked names) ls)

    pub listed_after : (us : Trees) → NoKeys (top_in us) → constants_in by_global [] q (after_imports (statement_of names ls before empty) us) ≡ listed (unmarked names) ls
    listed_after empty none = front empty none
    listed_after (b before us) none = at (is_import b) (listed_after us (later_none (top_names b) (top_in us) none))
      where
        at : (c : Bool) → constants_in by_global [] q (after_imports (statement_of names ls before empty) us) ≡ listed (unmarked names) ls →
            constants_in by_global [] q (if c then b before after_imports (statement_of names ls before empty) us else joined_trees (statement_of names ls before empty) (b before us)) ≡ listed (unmarked names) ls
        at true rest = none_first b (first_none (top_names b) (top_in us) none) (after_imports (statement_of names ls before empty) us) ∙ rest
        at false rest = front (b before us) none
