-- The static rules that a core program can break, and where its nodes stand for them: early errors of ECMA-262. The
-- nodes are visited in node order, each with its place; a rule is a test of one visit, and of the names declared before
-- it. StaticRules.antt has all rules, over every program, and takes the tests of a place from here.
use Rattle.std.specs.Prelude.{◌≡◌, ℕ, zero, suc, List, [], ◌∷◌, ◌++◌, map, filter, Bool, true, false, not, ◌&&◌, ◌||◌, Option, Some, None, is_some, bytes_eq, codes, if◌then◌else◌}
use Rattle.std.specs.List.{list_any}
use Rattle.es_tree.specs.Children.{child_at}
use Rattle.es_tree.specs.HasForm.{same_type}
use Rattle.es_tree.specs.Names.{first_text, flag_at}
use Rattle.es_tree.specs.Parens.{without_parens}
use Rattle.es_tree.specs.Table.{own_kinds}
use Rattle.es_tree.specs.Tree.{Tree, node, Label, Fields, done, ◌then◌, Field, missing, one, many, statements, Trees, empty, ◌before◌, kind_of, label_of}
use Rattle.es_tree.specs.Words.{Text}
use Rattle.es_tree.specs.declared.ast_type.AstType.{AstType}
use Rattle.es_tree.specs.declared.ast_type.AstType.TheVariants.{
  Program,
  VariableDeclaration,
  VariableDeclarator,
  ForInStatement,
  ForOfStatement,
  Identifier,
  PrivateIdentifier,
  UnaryExpression,
  UpdateExpression,
  AssignmentExpression,
  MemberExpression,
  CallExpression,
  ChainExpression,
  TargetProperty,
  ArrayTarget,
  TargetWithDefault,
  TargetRest,
}
use Rattle.es_tree.specs.declared.table.Sort.TheVariants.{Expression as s-Expression, AssignmentTarget as s-AssignmentTarget, ForLeft as s-ForLeft, TargetElement as s-TargetElement, TargetElementRest as s-TargetElementRest}
use Rattle.es_tree.specs.declared.place.Place.{Place}
use Rattle.es_tree.specs.declared.place.Place.TheVariants.{Other, ProgramBody, Spine, Target, Declarator, Declared}
use Rattle.es_tree.specs.declared.error.Rule.{Rule}
use Rattle.es_tree.specs.declared.error.Rule.TheVariants.{DuplicateName, BadTarget, EmptyChain, StrayOptional, DeleteName, MissingInit}

-- PLACES

abbrev pub is_lexical : Text → Bool
is_lexical word = not (bytes_eq word (codes "var"))

abbrev pub is_constant : Text → Bool
is_constant word = bytes_eq word (codes "const") || bytes_eq word (codes "using")

-- a declarator of a declaration with this word that stands here: as a target it is the head of a for-in or for-of
abbrev pub declarator_place : Place → Text → Place
declarator_place ProgramBody word = Declarator true (is_lexical word) (is_constant word)
declarator_place (Target s) word = Other
declarator_place _ word = Declarator false (is_lexical word) (is_constant word)

-- what a declarator here declares
abbrev pub binding_place : Place → Place
binding_place (Declarator true lexical constant) = Declared lexical
binding_place _ = Other

-- the object of a member and the callee of a call here
abbrev pub link_place : Place → Place
link_place Spine = Spine
link_place _ = Other

-- the target of an assignment: `=` alone takes patterns (13.15.1)
abbrev pub target_place : Text → Place
target_place operator = Target (if bytes_eq operator (codes "=") then s-AssignmentTarget else s-Expression)

-- the place of the first field of a node that stands here
abbrev pub first_place : Place → AstType → Label → Place
first_place p VariableDeclaration l = declarator_place p (first_text l.texts)
first_place p VariableDeclarator l = binding_place p
first_place p ChainExpression l = Spine
first_place p MemberExpression l = link_place p
first_place p CallExpression l = link_place p
first_place p AssignmentExpression l = target_place (first_text l.texts)
first_place p UpdateExpression l = Target s-Expression
first_place p ForInStatement l = Target s-ForLeft
first_place p ForOfStatement l = Target s-ForLeft
first_place p ArrayTarget l = Target s-TargetElementRest
first_place p TargetWithDefault l = Target s-TargetElement
first_place p TargetRest l = Target s-TargetElement
first_place p _ l = Other

abbrev pub second_place : AstType → Place
second_place Program = ProgramBody
second_place TargetProperty = Target s-TargetElement
second_place ArrayTarget = Target s-TargetElementRest
second_place _ = Other

-- of the further fields: each element of an array pattern is one
abbrev pub later_place : AstType → Place
later_place ArrayTarget = Target s-TargetElementRest
later_place _ = Other

-- the place of what stands in this field of a node that stands here; the fields of a node count from 0
abbrev pub place_in : Place → AstType → Label → ℕ → Place
place_in p k l zero = first_place p k l
place_in p k l (suc zero) = second_place k
place_in p k l (suc (suc n)) = later_place k

-- A node and the place where it stands.
pub record Visit : Type 0 where
  pub place : Place
  pub tree : Tree

abbrev pub visit : Place → Tree → Visit
visit p t = record { place = p; tree = t }

abbrev mutual
  -- the visits of a tree that stands here, in node order
  pub visits : Place → Tree → List Visit
  visits p (node k l fs) = visit p (node k l fs) ∷ visits_in_fields p k l 0 fs

  -- those of the fields of a node, from the n-th on
  pub visits_in_fields : Place → AstType → Label → ℕ → Fields → List Visit
  visits_in_fields p k l n done = []
  visits_in_fields p k l n (f then fs) = visits_in_field (place_in p k l n) f ++ visits_in_fields p k l (suc n) fs

  pub visits_in_field : Place → Field → List Visit
  visits_in_field p missing = []
  visits_in_field p (one t) = visits p t
  visits_in_field p (many ts) = visits_in_trees p ts
  visits_in_field p (statements ts) = visits_in_trees p ts

  pub visits_in_trees : Place → Trees → List Visit
  visits_in_trees p empty = []
  visits_in_trees p (t before ts) = visits p t ++ visits_in_trees p ts

-- DUPLICATE NAMES (14.3.1.1, 16.1.1) of a core program: the plain names that the declarations in its body declare

-- A declared name, and whether its declaration is lexical.
pub record Name : Type 0 where
  pub text : Text
  pub lexical : Bool

-- what a visit declares
abbrev pub declared : Place → Tree → List Name
declared (Declared lexical) (node Identifier l fs) = record { text = first_text l.texts; lexical = lexical } ∷ []
declared _ _ = []

-- whether an earlier name is the same, and one of the two lexical
abbrev pub clashes : List Name → Name → Bool
clashes earlier n = list_any (λ e. bytes_eq e.text n.text && (e.lexical || n.lexical)) earlier

-- TARGETS (13.4.1, 13.15.1): a name or a member, maybe in parentheses, or a pattern where the place takes one

abbrev pub is_simple_target : AstType → Bool
is_simple_target Identifier = true
is_simple_target MemberExpression = true
is_simple_target _ = false

abbrev pub is_bad_target : Place → Tree → Bool
is_bad_target (Target s) t = not (list_any (same_type (kind_of t)) (own_kinds s) || is_simple_target (kind_of (without_parens t)))
is_bad_target _ t = false

-- CHAINS (13.3.9): a chain's spine goes from its content through objects of members and callees of calls

-- whether a member or a call has an optional mark
abbrev pub is_optional : AstType → Label → Bool
is_optional MemberExpression l = flag_at 1 l.flags
is_optional CallExpression l = flag_at 0 l.flags
is_optional _ l = false

abbrev mutual
  -- whether the spine from here on has an optional mark
  pub has_optional : Tree → Bool
  has_optional (node MemberExpression l fs) = is_optional MemberExpression l || has_optional_in fs
  has_optional (node CallExpression l fs) = is_optional CallExpression l || has_optional_in fs
  has_optional _ = false

  pub has_optional_in : Fields → Bool
  has_optional_in (one t then fs) = has_optional t
  has_optional_in _ = false

abbrev pub is_empty_chain : Tree → Bool
is_empty_chain (node ChainExpression l fs) = not (has_optional_in fs)
is_empty_chain _ = false

abbrev pub is_stray_optional : Place → Tree → Bool
is_stray_optional Spine t = false
is_stray_optional _ t = is_optional (kind_of t) (label_of t)

-- DELETE (13.5.1.1): of a plain name or of a private member, maybe in parentheses, the member maybe as a chain

abbrev pub is_private_name : Option Tree → Bool
is_private_name (Some (node PrivateIdentifier l fs)) = true
is_private_name _ = false

abbrev pub is_private_member : Option Tree → Bool
is_private_member (Some (node MemberExpression l fs)) = is_private_name (child_at 1 fs)
is_private_member _ = false

-- whether this can't be deleted
abbrev pub is_kept : Tree → Bool
is_kept (node Identifier l fs) = true
is_kept (node MemberExpression l fs) = is_private_name (child_at 1 fs)
is_kept (node ChainExpression l fs) = is_private_member (child_at 0 fs)
is_kept _ = false

abbrev pub is_kept_within : Option Tree → Bool
is_kept_within None = false
is_kept_within (Some t) = is_kept (without_parens t)

abbrev pub is_bad_delete : Tree → Bool
is_bad_delete (node UnaryExpression l fs) = bytes_eq (first_text l.texts) (codes "delete") && is_kept_within (child_at 0 fs)
is_bad_delete _ = false

-- DECLARATORS WITHOUT A VALUE (14.3.1.1, 14.3.2): those of `const`, of `using` and of patterns need one

abbrev pub is_name : Option Tree → Bool
is_name (Some (node Identifier l fs)) = true
is_name _ = false

abbrev pub needs_value : Place → Option Tree → Bool
needs_value (Declarator top lexical constant) binding = constant || not (is_name binding)
needs_value _ binding = false

abbrev pub is_missing_init : Place → Tree → Bool
is_missing_init p (node VariableDeclarator l fs) = needs_value p (child_at 0 fs) && not (is_some (child_at 1 fs))
is_missing_init p _ = false

-- BROKEN RULES

-- the rules that a core program can break, in the order of the answer at one node
abbrev pub core_rules : List Rule
core_rules = DuplicateName ∷ BadTarget ∷ EmptyChain ∷ StrayOptional ∷ DeleteName ∷ MissingInit ∷ []

-- whether a visit breaks this rule, after these declared names
abbrev pub is_broken : List Name → Place → Tree → Rule → Bool
is_broken earlier p t DuplicateName = list_any (clashes earlier) (declared p t)
is_broken earlier p t BadTarget = is_bad_target p t
is_broken earlier p t EmptyChain = is_empty_chain t
is_broken earlier p t StrayOptional = is_stray_optional p t
is_broken earlier p t DeleteName = is_bad_delete t
is_broken earlier p t MissingInit = is_missing_init p t
is_broken earlier p t _ = false

-- A broken rule, and the id of the node that breaks it.
abbrev pub Break : Type 0
Break = Rule × ℕ

-- the rules that a visit breaks
abbrev pub breaks_at : List Name → Visit → List Break
breaks_at earlier v = map (λ r. (r, (label_of v.tree).id)) (filter (is_broken earlier v.place v.tree) core_rules)

-- the rules that these visits break one after the other, after these declared names, the latest first
abbrev pub breaks_after : List Name → List Visit → List Break
breaks_after earlier [] = []
breaks_after earlier (v ∷ vs) = breaks_at earlier v ++ breaks_after (declared v.place v.tree ++ earlier) vs

-- None of these visits breaks a rule.
abbrev pub KeepRules : List Name → List Visit → Type 0
KeepRules earlier [] = Unit {0}
KeepRules earlier (v ∷ vs) = ((r : Rule) → is_broken earlier v.place v.tree r ≡ false) × KeepRules (declared v.place v.tree ++ earlier) vs

-- the broken rules of a core program in node order
abbrev pub core_breaks : Tree → List Break
core_breaks t = breaks_after [] (visits Other t)
