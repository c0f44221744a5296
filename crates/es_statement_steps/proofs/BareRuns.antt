-- Ids and marks mean nothing: a program and what it is without them run as one, where helpers are supplied as members of `babelHelpers` or
-- not at all.
use Rattle.std.proofs.Common.{◌≡◌, refl, sym, ap, ◌∙◌, ℕ, zero, suc, Bool, true, false, List, [], ◌∷◌, ◌++◌}
use Rattle.std.specs.Prelude.{◌+◌, ◌&&◌, codes, if◌then◌else◌}
use Rattle.es_tree.specs.Bare.{bare, bare_field, bare_fields, bare_trees}
use Rattle.es_tree.specs.Names.{first_text, names_of}
use Rattle.es_tree.specs.Scopes.{own_text}
use Rattle.es_tree.specs.Tree.{Tree, node, Fields, done, ◌then◌, Field, missing, one, many, statements, Trees, empty, ◌before◌}
use Rattle.es_tree.specs.Words.{Text}
use Rattle.es_tree.specs.declared.ast_type.AstType.{AstType}
use Rattle.es_tree.specs.declared.ast_type.AstType.TheVariants.{ArrayExpression, CallExpression, Identifier, MemberExpression, StringLiteral, VariableDeclaration, VariableDeclarator}
use Rattle.es_tree.specs.Scopes.{Declared}
use Rattle.es_runs.specs.Core.{Silent, value}
use Rattle.es_runs.specs.Machine.{Move, Value, stop}
use Rattle.es_runs.specs.Machine.Stop.{unknown}
use Rattle.es_runs.specs.Machine.State.{state}
use Rattle.es_runs.specs.Runs.{scope_of}
use Rattle.es_runs.proofs.BareTrees.{names-bare}
use Rattle.es_statement_runs.specs.Helpers.{Supply, entry, binds_constant, constant_by, constant_where, constants_by, constants_in, excludes_by, is_helper, is_this_name, key_places, key_places_all, key_places_at, key_places_in, occurrences, one_where, only_excludes, program_list, silent_names, texts_of, with_text}
use Rattle.es_statement_runs.specs.Helpers.Supply.{no_helpers, by_global, spread_by_global}
use Rattle.es_statement_runs.specs.Kinds.{from_portions, inside, portion, portions, sense, senses}
use Rattle.es_statement_runs.specs.Names.{declared_at_top, is_word}
use Rattle.es_statement_runs.specs.Runs.{RunAlike, outcome, run, run_in, place_of, silent_or, start_cells}
use Rattle.es_statement_runs.specs.Senses.{Place, Sense}
use Rattle.es_statement_runs.specs.Senses.Portion.{alone, rows}
use Rattle.es_statement_steps.proofs.BareScopes.{declared-bare, label-bare, own-names-bare, own-use-bare}

-- SENSES

mutual
  sense-bare : (p : Place) (t : Tree) → sense p (bare t) ≡ sense p t
  sense-bare p (node k l fs) = λ i. from_portions p k l.texts l.flags (own-names-bare k fs i) (own-use-bare k fs i) (label-bare k fs i) (portions-bare (inside p k l.texts (own-names-bare k fs i) (label-bare k fs i)) fs i)

  portions-bare : (at : ℕ → Place) (fs : Fields) → portions at (bare_fields fs) ≡ portions at fs
  portions-bare at done = refl
  portions-bare at (f then fs) = λ i. portion-bare (at zero) f i ∷ portions-bare (λ n. at (suc n)) fs i

  portion-bare : (p : Place) (f : Field) → portion p (bare_field f) ≡ portion p f
  portion-bare p missing = refl
  portion-bare p (one t) = ap alone (sense-bare p t)
  portion-bare p (many ts) = ap rows (senses-bare p ts)
  portion-bare p (statements ts) = ap rows (senses-bare p ts)

  senses-bare : (p : Place) (ts : Trees) → senses p (bare_trees ts) ≡ senses p ts
  senses-bare p empty = refl
  senses-bare p (t before ts) = λ i. sense-bare p t i ∷ senses-bare p ts i

-- NAMES OF CONSTANT KEYS

own-text-bare : (t : Tree) → own_text (bare t) ≡ own_text t
own-text-bare (node k l fs) = refl

this-name-bare : (x : Text) (t : Tree) → is_this_name x (bare t) ≡ is_this_name x t
this-name-bare x (node Identifier l fs) = refl
this-name-bare x (node _ l fs) = refl

module _ (hs : List (Text × Silent)) where
  helper-bare : (h : Text) (t : Tree) → is_helper by_global hs h (bare t) ≡ is_helper by_global hs h t
  helper-bare h (node MemberExpression l done) = refl
  helper-bare h (node MemberExpression l (missing then fs)) = refl
  helper-bare h (node MemberExpression l (one o then done)) = refl
  helper-bare h (node MemberExpression l (one o then (missing then fs))) = refl
  helper-bare h (node MemberExpression l (one o then (one x then fs))) = λ i. this-name-bare (codes "babelHelpers") o i && is_word h (own-text-bare x i)
  helper-bare h (node MemberExpression l (one o then (many ts then fs))) = refl
  helper-bare h (node MemberExpression l (one o then (statements ts then fs))) = refl
  helper-bare h (node MemberExpression l (many ts then fs)) = refl
  helper-bare h (node MemberExpression l (statements ts then fs)) = refl
  helper-bare h (node Identifier l fs) = refl
  helper-bare h (node _ l fs) = refl

  excludes-bare : (x : Text) (k : AstType) (fs : Fields) → excludes_by by_global hs x k (bare_fields fs) ≡ excludes_by by_global hs x k fs
  excludes-bare x CallExpression (one f then (many (e before (k before empty)) then fs)) = λ i. helper-bare (codes "objectWithoutProperties") f i && this-name-bare x k i
  excludes-bare x CallExpression (one f then (many (e before (k before (a before ts))) then fs)) = refl
  excludes-bare x CallExpression (one f then (many (e before empty) then fs)) = refl
  excludes-bare x CallExpression (one f then (many empty then fs)) = refl
  excludes-bare x CallExpression (one f then (missing then fs)) = refl
  excludes-bare x CallExpression (one f then (one t then fs)) = refl
  excludes-bare x CallExpression (one f then (statements ts then fs)) = refl
  excludes-bare x CallExpression (one f then done) = refl
  excludes-bare x CallExpression (missing then fs) = refl
  excludes-bare x CallExpression (many ts then fs) = refl
  excludes-bare x CallExpression (statements ts then fs) = refl
  excludes-bare x CallExpression done = refl
  excludes-bare x _ fs = refl

  mutual
    places-bare : (x : Text) (t : Tree) → key_places by_global hs x (bare t) ≡ key_places by_global hs x t
    places-bare x (node k l fs) = λ i. one_where (excludes-bare x k fs i) + places-in-bare x fs i

    places-in-bare : (x : Text) (fs : Fields) → key_places_in by_global hs x (bare_fields fs) ≡ key_places_in by_global hs x fs
    places-in-bare x done = refl
    places-in-bare x (f then fs) = λ i. places-at-bare x f i + places-in-bare x fs i

    places-at-bare : (x : Text) (f : Field) → key_places_at by_global hs x (bare_field f) ≡ key_places_at by_global hs x f
    places-at-bare x missing = refl
    places-at-bare x (one t) = places-bare x t
    places-at-bare x (many ts) = places-all-bare x ts
    places-at-bare x (statements ts) = places-all-bare x ts

    places-all-bare : (x : Text) (ts : Trees) → key_places_all by_global hs x (bare_trees ts) ≡ key_places_all by_global hs x ts
    places-all-bare x empty = refl
    places-all-bare x (t before ts) = λ i. places-bare x t i + places-all-bare x ts i

  texts-bare : (fs : Fields) → texts_of (bare_fields fs) ≡ texts_of fs
  texts-bare done = refl
  texts-bare (missing then fs) = refl
  texts-bare (one (node StringLiteral l gs) then fs) = ap (with_text (first_text l.texts)) (texts-bare fs)
  texts-bare (one (node _ l gs) then fs) = refl
  texts-bare (many ts then fs) = refl
  texts-bare (statements ts then fs) = refl

  module _ (p : Tree) where
    excluded-bare : (x : Text) → only_excludes (key_places by_global hs x (bare p)) (occurrences x (names_of (bare p))) ≡ only_excludes (key_places by_global hs x p) (occurrences x (names_of p))
    excluded-bare x = λ i. only_excludes (places-bare x p i) (occurrences x (names-bare true p i))

    constant-bare : (d : Tree) → constant_by by_global hs (bare p) (bare d) ≡ constant_by by_global hs p d
    constant-bare (node VariableDeclarator l (one (node Identifier k gs) then (one (node ArrayExpression m es) then done))) = λ i. constant_where (first_text k.texts) (excluded-bare (first_text k.texts) i) (texts-bare es i)
    constant-bare (node VariableDeclarator l (one (node Identifier k gs) then (one (node ArrayExpression m es) then (f then fs)))) = refl
    constant-bare (node VariableDeclarator l (one (node Identifier k gs) then (one (node _ m es) then fs))) = refl
    constant-bare (node VariableDeclarator l (one (node Identifier k gs) then (missing then fs))) = refl
    constant-bare (node VariableDeclarator l (one (node Identifier k gs) then (many ts then fs))) = refl
    constant-bare (node VariableDeclarator l (one (node Identifier k gs) then (statements ts then fs))) = refl
    constant-bare (node VariableDeclarator l (one (node Identifier k gs) then done)) = refl
    constant-bare (node VariableDeclarator l (one (node _ k gs) then fs)) = refl
    constant-bare (node VariableDeclarator l (missing then fs)) = refl
    constant-bare (node VariableDeclarator l (many ts then fs)) = refl
    constant-bare (node VariableDeclarator l (statements ts then fs)) = refl
    constant-bare (node VariableDeclarator l done) = refl
    constant-bare (node _ l fs) = refl

    constants-bare : (ds : Trees) → constants_by by_global hs (bare p) (bare_trees ds) ≡ constants_by by_global hs p ds
    constants-bare empty = refl
    constants-bare (d before ds) = λ i. constant-bare d i ++ constants-bare ds i

    constants-in-bare : (ts : Trees) → constants_in by_global hs (bare p) (bare_trees ts) ≡ constants_in by_global hs p ts
    constants-in-bare empty = refl
    constants-in-bare (node VariableDeclaration l (many ds then fs) before ts) = λ i. (if binds_constant (first_text l.texts) then constants-bare ds i else []) ++ constants-in-bare ts i
    constants-in-bare (node VariableDeclaration l (missing then fs) before ts) = constants-in-bare ts
    constants-in-bare (node VariableDeclaration l (one t then fs) before ts) = constants-in-bare ts
    constants-in-bare (node VariableDeclaration l (statements us then fs) before ts) = constants-in-bare ts
    constants-in-bare (node VariableDeclaration l done before ts) = constants-in-bare ts
    constants-in-bare (node _ l fs before ts) = constants-in-bare ts

pub list-bare : (p : Tree) → program_list (bare p) ≡ bare_trees (program_list p)
list-bare (node k l done) = refl
list-bare (node k l (f then done)) = refl
list-bare (node k l (f then (missing then fs))) = refl
list-bare (node k l (f then (one t then fs))) = refl
list-bare (node k l (f then (many ts then fs))) = refl
list-bare (node k l (f then (statements ts then fs))) = refl

-- whether helpers are supplied by no module
abbrev pub is_plain_supply : Supply → Bool
is_plain_supply no_helpers = true
is_plain_supply spread_by_global = true
is_plain_supply by_global = true
is_plain_supply _ = false

silent-bare : (u : Supply) → is_plain_supply u ≡ true → (p : Tree) → silent_names u (bare p) ≡ silent_names u p
silent-bare no_helpers e p = refl
silent-bare spread_by_global e p = refl
silent-bare by_global e p = ap (constants_in by_global [] (bare p)) (list-bare p) ∙ constants-in-bare [] p (program_list p)
silent-bare _ e p = absurd (cc e)

-- RUNS

-- where a program's nodes stand, by the names that are silent and those that its top declares
abbrev placed_by : Supply → Value → List (Text × Silent) → List Declared → Place
placed_by u this es ds = record { world = record { scope = λ x. silent_or (entry es x) (scope_of ds x); this = this; counts_all = true; other = λ e. stop unknown; spreads = false }; labels = []; word = []; supply = u }

-- where as many names stand for helpers and keys
pub run-told : (u : Supply) (n : ℕ) (p : Tree) (this : Value) (moves : List Move) → silent_names u (bare p) ≡ silent_names u p → run u n (bare p) this moves ≡ run u n p this moves
run-told u n p this moves silent =
    ap (λ (e : Sense). value (place_of u this (bare p)).world e.core (state (start_cells n (declared_at_top (bare p))) moves [])) (sense-bare (place_of u this (bare p)) p)
    ∙ (λ i. run_in (placed_by u this (silent i) (declared-bare p i)) n (declared-bare p i) p moves)

module _ (u : Supply) (plain : is_plain_supply u ≡ true) where
  run-bare : (n : ℕ) (p : Tree) (this : Value) (moves : List Move) → run u n (bare p) this moves ≡ run u n p this moves
  run-bare n p this moves = run-told u n p this moves (silent-bare u plain p)

  -- programs that are the same but for ids and marks
  pub run-seen : (n : ℕ) (p q : Tree) → bare p ≡ bare q → (this : Value) (moves : List Move) → run u n p this moves ≡ run u n q this moves
  run-seen n p q e this moves = sym (run-bare n p this moves) ∙ ap (λ t. run u n t this moves) e ∙ run-bare n q this moves

  pub alike-seen : (no_all : Bool) (p q r s : Tree) → bare p ≡ bare r → bare q ≡ bare s → RunAlike u no_all p q → RunAlike u no_all r s
  alike-seen no_all p q r s e d h n this moves assumed proper moved inside =
      let first = run-seen n p r e this moves in
      let second = run-seen n q s d this moves in
      let names : declared_at_top p ≡ declared_at_top r = sym (declared-bare p) ∙ ap declared_at_top e ∙ declared-bare r in
      rw (sym first, sym second, sym names) (h n this moves assumed proper moved (λ out. inside (ap outcome (sym first) ∙ out)))
