-- What each kind takes of its fields, and trees that are the same but for some places.
use Rattle.std.specs.Prelude.{◌≡◌, ℕ, zero, suc, Option, Bool, true, false, not, ◌&&◌, List, [], ◌∷◌, ◌++◌, codes}
use Rattle.es_tree.specs.Words.{Text}
use Rattle.es_tree.specs.Names.{flag_at}
use Rattle.es_tree.specs.Scopes.{Declared}
use Rattle.es_tree.specs.Tree.{Tree, node, Label, Fields, done, ◌then◌, Field, missing, one, many, statements, Trees, empty, ◌before◌}
use Rattle.es_tree.specs.declared.ast_type.AstType.{AstType}
use Rattle.es_tree.specs.declared.ast_type.AstType.TheVariants.{Program, VariableDeclaration, VariableDeclarator, ForInStatement, ForOfStatement, BreakStatement, ContinueStatement, LabeledStatement, SwitchStatement, TryStatement, CatchClause, ImportDeclaration, ImportSpecifier, ImportDefaultSpecifier, ImportNamespaceSpecifier, ExportNamedDeclaration, ExportSpecifier, ExportAllDeclaration, TemplateLiteral, TaggedTemplateExpression, ArrayExpression, ObjectExpression, ObjectProperty, AssignmentExpression, MemberExpression, CallExpression, ObjectPattern, PatternProperty, ArrayPattern, AssignmentPattern, RestElement, ObjectTarget, TargetProperty, ArrayTarget, TargetWithDefault, TargetRest, BlockStatement, ForStatement}
use Rattle.es_runs.specs.Core.{World, flag, flag_after}
use Rattle.es_runs.specs.Alike.{Frame, Level, Need, needs, is_bad, bad_names, the_value, the_target, the_label, the_callee, value_and_form, object_need, key_need}
use Rattle.es_runs.specs.Alike.Level.{no_evaluation, whole_reference, a_target}
use Rattle.es_statement_runs.specs.Names.{own_names, own_use, names_of_all}
use Rattle.es_statement_runs.specs.Helpers.{Supply}
use Rattle.es_statement_runs.specs.Helpers.Supply.{no_helpers}
use Rattle.es_statement_runs.specs.Senses.{Place}
use Rattle.es_statement_runs.specs.Kinds.{label_in}

-- What a place takes of the node that stands there: of its meaning, and of what it says beside it or not.
pub record Take : Type 0 where
  pub need : Need
  pub more : Bool

-- WHAT EACH KIND TAKES OF ITS FIELDS

abbrev pub take : Need → Bool → Take
take n b = record { need = n; more = b }

abbrev pub value_taken : Take
value_taken = take the_value false

abbrev pub label_taken : Take
label_taken = take the_label true

abbrev pub target_taken : Take
target_taken = take the_target true

abbrev pub nothing_needed : Need
nothing_needed = record { level = no_evaluation; form = false }

abbrev pub more_taken : Take
more_taken = take nothing_needed true

abbrev pub first_then : Take → Take → ℕ → Take
first_then a b zero = a
first_then a b (suc i) = b

-- a key is a value where it is computed
abbrev pub key_taken : Bool → Take
key_taken true = take the_value true
key_taken false = label_taken

abbrev pub takes_of : Take → AstType → List (Option Text) → List Bool → ℕ → Take
takes_of t AssignmentExpression ts fs i = first_then target_taken value_taken i
takes_of t MemberExpression ts fs i = first_then (take (object_need true (flag_after fs)) true) (take (key_need (flag fs)) false) i
takes_of t CallExpression ts fs i = first_then (take (the_callee (flag fs)) true) (take the_value true) i
takes_of t VariableDeclarator ts fs i = first_then target_taken value_taken i
takes_of t VariableDeclaration ts fs i = take (record { level = a_target; form = false }) true
takes_of t Program ts fs i = take the_value true
takes_of t ForInStatement ts fs i = first_then target_taken value_taken i
takes_of t ForOfStatement ts fs i = first_then target_taken value_taken i
takes_of t BreakStatement ts fs i = label_taken
takes_of t ContinueStatement ts fs i = label_taken
takes_of t LabeledStatement ts fs i = first_then label_taken value_taken i
takes_of t SwitchStatement ts fs i = first_then value_taken more_taken i
takes_of t TryStatement ts fs (suc zero) = more_taken
takes_of t TryStatement ts fs i = value_taken
takes_of t CatchClause ts fs i = first_then target_taken value_taken i
takes_of t ImportDeclaration ts fs i = first_then more_taken label_taken i
takes_of t ImportSpecifier ts fs i = label_taken
takes_of t ImportDefaultSpecifier ts fs i = label_taken
takes_of t ImportNamespaceSpecifier ts fs i = label_taken
takes_of t ExportNamedDeclaration ts fs i = first_then value_taken (take nothing_needed false) i
takes_of t ExportSpecifier ts fs i = take nothing_needed false
takes_of t ExportAllDeclaration ts fs i = label_taken
takes_of t TemplateLiteral ts fs i = first_then more_taken value_taken i
takes_of t TaggedTemplateExpression ts fs i = first_then (take (record { level = whole_reference; form = false }) false) more_taken i
takes_of t ArrayExpression ts fs i = take (value_and_form true) true
takes_of t ObjectExpression ts fs i = more_taken
takes_of t ObjectProperty ts fs i = first_then (key_taken (flag_at 2 fs)) value_taken i
takes_of t ObjectPattern ts fs i = more_taken
takes_of t ObjectTarget ts fs i = more_taken
takes_of t PatternProperty ts fs i = first_then (key_taken (flag_at 1 fs)) target_taken i
takes_of t TargetProperty ts fs i = first_then (key_taken (flag_at 1 fs)) target_taken i
takes_of t ArrayPattern ts fs i = target_taken
takes_of t ArrayTarget ts fs i = target_taken
takes_of t AssignmentPattern ts fs i = first_then target_taken value_taken i
takes_of t TargetWithDefault ts fs i = first_then target_taken value_taken i
takes_of t RestElement ts fs i = target_taken
takes_of t TargetRest ts fs i = target_taken
takes_of t k ts fs i = take (needs t.need k ts fs i) false

-- a place of a program with this supply of helpers
abbrev pub placed_at : Supply → World → List Text → Text → Place
placed_at u w ls x = record { world = w; labels = ls; word = x; supply = u }

-- a place of a program without helpers
abbrev pub quiet_at : World → List Text → Text → Place
quiet_at w ls x = placed_at no_helpers w ls x

-- the unbound names by which a program gets its helpers are seen
pub record HelpersSeen (F : Frame) : Type 0 where
  pub global : F.hidden (codes "babelHelpers") ≡ false
  pub require : F.hidden (codes "require") ≡ false

abbrev pub SupplySeen : Frame → Supply → Type 0
SupplySeen F no_helpers = Unit {0}
SupplySeen F _ = HelpersSeen F

-- a hidden name is bad where it is evaluated or told, as a key or a label too, and a frozen one as a target
abbrev pub bad_anywhere : Frame → Level → Text → Bool
bad_anywhere F Level.no_evaluation x = F.hidden x
bad_anywhere F n x = bad_names F.hidden F.frozen n x

-- none of these names is bad as a target
abbrev pub all_good : (Level → Text → Bool) → List Text → Bool
all_good bad [] = true
all_good bad (x ∷ xs) = not (bad a_target x) && all_good bad xs

-- THE SAME TREES BUT FOR SOME PLACES: with the same declarations in each scope and import, of names that aren't bad as targets, and but for places
-- where R holds, at what the place takes
mutual
  pub data Close (bad : Level → Text → Bool) (R : Take → Tree → Tree → Type 0) : Take → Tree → Tree → Type 0 where
    placed : {t : Take} {a b : Tree} → R t a b → Close bad R t a b
    within : {t : Take} {k : AstType} {l m : Label} {fs gs : Fields} → is_bad bad t.need.level k l.texts ≡ false → m.texts ≡ l.texts → m.flags ≡ l.flags →
        own_names k gs ≡ own_names k fs → own_use k gs ≡ own_use k fs → label_in k gs ≡ label_in k fs → all_good bad (names_of_all (own_names k fs)) ≡ true →
        CloseFields bad R (takes_of t k l.texts l.flags) fs gs → Close bad R t (node k l fs) (node k m gs)

  pub data CloseFields (bad : Level → Text → Bool) (R : Take → Tree → Tree → Type 0) : (ℕ → Take) → Fields → Fields → Type 0 where
    close_done : {c : ℕ → Take} → CloseFields bad R c done done
    close_then : {c : ℕ → Take} {f g : Field} {fs gs : Fields} → CloseField bad R (c zero) f g → CloseFields bad R (λ i. c (suc i)) fs gs → CloseFields bad R c (f then fs) (g then gs)

  pub data CloseField (bad : Level → Text → Bool) (R : Take → Tree → Tree → Type 0) : Take → Field → Field → Type 0 where
    close_missing : {t : Take} → CloseField bad R t missing missing
    close_one : {t : Take} {a b : Tree} → Close bad R t a b → CloseField bad R t (one a) (one b)
    close_many : {t : Take} {xs ys : Trees} → CloseTrees bad R t xs ys → CloseField bad R t (many xs) (many ys)
    close_statements : {t : Take} {xs ys : Trees} → CloseTrees bad R t xs ys → CloseField bad R t (statements xs) (statements ys)

  pub data CloseTrees (bad : Level → Text → Bool) (R : Take → Tree → Tree → Type 0) : Take → Trees → Trees → Type 0 where
    close_empty : {t : Take} → CloseTrees bad R t empty empty
    close_before : {t : Take} {a b : Tree} {xs ys : Trees} → Close bad R t a b → CloseTrees bad R t xs ys → CloseTrees bad R t (a before xs) (b before ys)

-- ROWS THAT ASK WHICH NAMES ARE BOUND: R says of each list of declared names which rows act where these are bound. Below a node with a scope of its own
-- act those of its names and of the names around.
abbrev pub owns_scope : AstType → Bool
owns_scope BlockStatement = true
owns_scope ForStatement = true
owns_scope ForInStatement = true
owns_scope ForOfStatement = true
owns_scope CatchClause = true
owns_scope _ = false

pub data InScope (bad : Level → Text → Bool) (R : List Declared → Take → Tree → Tree → Type 0) (ds : List Declared) : Take → Tree → Tree → Type 0 where
  at_once : {t : Take} {a b : Tree} → R ds t a b → InScope bad R ds t a b
  below_scope : {t : Take} {k : AstType} {l m : Label} {fs gs : Fields} → owns_scope k ≡ true → is_bad bad t.need.level k l.texts ≡ false → m.texts ≡ l.texts → m.flags ≡ l.flags →
      own_names k gs ≡ own_names k fs → own_use k gs ≡ own_use k fs → label_in k gs ≡ label_in k fs → all_good bad (names_of_all (own_names k fs)) ≡ true →
      CloseFields bad (R (own_names k fs ++ ds)) (takes_of t k l.texts l.flags) fs gs → InScope bad R ds t (node k l fs) (node k m gs)
  -- the discriminant of a `switch` stands outside its scope
  below_switch : {t : Take} {l m : Label} {f g : Field} {fs gs : Fields} → m.texts ≡ l.texts → m.flags ≡ l.flags →
      own_names SwitchStatement (g then gs) ≡ own_names SwitchStatement (f then fs) → own_use SwitchStatement (g then gs) ≡ own_use SwitchStatement (f then fs) → all_good bad (names_of_all (own_names SwitchStatement (f then fs))) ≡ true →
      CloseField bad (R ds) value_taken f g → CloseFields bad (R (own_names SwitchStatement (f then fs) ++ ds)) (λ i. more_taken) fs gs → InScope bad R ds t (node SwitchStatement l (f then fs)) (node SwitchStatement m (g then gs))

-- whether in a tree no name is bad where it stands, and no scope or import declares a name that is bad as a target
abbrev mutual
  pub avoids : (Level → Text → Bool) → Take → Tree → Bool
  avoids bad t (node k l fs) = not (is_bad bad t.need.level k l.texts) && (all_good bad (names_of_all (own_names k fs)) && avoids_fields bad (takes_of t k l.texts l.flags) fs)

  pub avoids_fields : (Level → Text → Bool) → (ℕ → Take) → Fields → Bool
  avoids_fields bad c done = true
  avoids_fields bad c (f then fs) = avoids_field bad (c zero) f && avoids_fields bad (λ i. c (suc i)) fs

  pub avoids_field : (Level → Text → Bool) → Take → Field → Bool
  avoids_field bad t missing = true
  avoids_field bad t (one a) = avoids bad t a
  avoids_field bad t (many ts) = avoids_trees bad t ts
  avoids_field bad t (statements ts) = avoids_trees bad t ts

  pub avoids_trees : (Level → Text → Bool) → Take → Trees → Bool
  avoids_trees bad t empty = true
  avoids_trees bad t (a before ts) = avoids bad t a && avoids_trees bad t ts
