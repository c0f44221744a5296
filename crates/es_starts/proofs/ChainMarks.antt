-- In a program that breaks no static rule optional marks stand on spines of chains alone, and each chain has one (ECMA-262, 13.3.9).
use Rattle.std.proofs.Common.{◌≡◌, ◌&&◌, ◌||◌, ℕ, zero, suc, Bool, true, false, List, ◌∷◌, refl, sym, ap, subst, ◌∙◌}
use Rattle.std.specs.Prelude.{not}
use Rattle.std.proofs.lemmas.Bool.{and_left, and_right, or_from}
use Rattle.es_tree.specs.Ancestors.{Ancestor, ancestor, place_of}
use Rattle.es_tree.specs.Bare.{bare, bare_field, bare_fields, bare_label, bare_trees}
use Rattle.es_tree.specs.CoreStaticRules.{binding_place, declarator_place, has_optional, has_optional_in, is_empty_chain, is_optional, is_stray_optional, link_place, place_in}
use Rattle.es_tree.specs.Names.{first_text}
use Rattle.es_tree.specs.Tree.{Tree, node, Label, Fields, done, ◌then◌, Field, missing, one, many, statements, Trees, empty, ◌before◌}
use Rattle.es_tree.specs.Walks.{any_in_field, any_in_fields, any_in_trees, any_node}
use Rattle.es_tree.specs.Words.{Text}
use Rattle.es_tree.specs.declared.ast_type.AstType.{AstType}
use Rattle.es_tree.specs.declared.ast_type.AstType.TheVariants.{ArrayTarget, CallExpression, ChainExpression, MemberExpression, Program, TargetProperty, VariableDeclaration, VariableDeclarator}
use Rattle.es_tree.specs.declared.place.Place.{Place}
use Rattle.es_tree.specs.declared.place.Place.TheVariants.{Declarator, ProgramBody, Spine, Target}
use Rattle.es_runs.specs.Rules.{is_marked, on_spine, strays, strays_field, strays_fields, strays_nodes}
use Rattle.es_conditions.specs.CoreConditions.{is_unmarked_chain}
use Rattle.es_conditions.proofs.Marks.{first-flag, second-flag}
use Rattle.es_valid_steps.specs.PlaceRules.{Keeps, KeepsAll, KeepsBy, KeepsIn}

-- SPINES

abbrev is_spine : Place → Bool
is_spine Spine = true
is_spine _ = false

declarator-off : (p : Place) (word : Text) → is_spine (declarator_place p word) ≡ false
declarator-off ProgramBody word = refl
declarator-off (Target s) word = refl
declarator-off p word = refl

binding-off : (p : Place) → is_spine (binding_place p) ≡ false
binding-off (Declarator true lexical constant) = refl
binding-off p = refl

link-on : (p : Place) → is_spine (link_place p) ≡ is_spine p
link-on Spine = refl
link-on p = refl

first-spine : (p : Place) (k : AstType) (l : Label) → is_spine (place_in p k l 0) ≡ on_spine k (is_spine p)
first-spine p VariableDeclaration l = declarator-off p (first_text l.texts)
first-spine p VariableDeclarator l = binding-off p
first-spine p MemberExpression l = link-on p
first-spine p CallExpression l = link-on p
first-spine p k l = refl

later-spine : (p : Place) (k : AstType) (l : Label) (i : ℕ) → is_spine (place_in p k l (suc i)) ≡ false
later-spine p Program l zero = refl
later-spine p TargetProperty l zero = refl
later-spine p ArrayTarget l zero = refl
later-spine p k l zero = refl
later-spine p ArrayTarget l (suc i) = refl
later-spine p k l (suc i) = refl

marks-same : (k : AstType) (l : Label) → is_marked k l.flags ≡ is_optional k l
marks-same MemberExpression l = sym (second-flag l.flags)
marks-same CallExpression l = sym (first-flag l.flags)
marks-same k l = refl

own-tidy : (p : Place) (k : AstType) (l : Label) (fs : Fields) → is_stray_optional p (node k l fs) ≡ false → (is_marked k l.flags && not (is_spine p)) ≡ false
own-tidy Spine k l fs e = and_right (is_marked k l.flags) false refl
own-tidy p k l fs e = and_left (is_marked k l.flags) true (marks-same k l ∙ e)

mutual
  pub tidy-tree : (up : List Ancestor) (t : Tree) → Keeps up t → strays (is_spine (place_of up)) t ≡ false
  tidy-tree up (node k l fs) h =
      or_from (is_marked k l.flags && not (is_spine (place_of up))) (strays_fields (on_spine k (is_spine (place_of up))) fs) (own-tidy (place_of up) k l fs h.0.mark) (tidy-fields up k l fs fs h.1)

  tidy-fields : (up : List Ancestor) (k : AstType) (l : Label) (all fs : Fields) → KeepsIn up k l all 0 fs → strays_fields (on_spine k (is_spine (place_of up))) fs ≡ false
  tidy-fields up k l all done h = refl
  tidy-fields up k l all (f then fs) h =
      or_from (strays_field (on_spine k (is_spine (place_of up))) f) (strays_fields false fs)
      (subst (λ (on : Bool). strays_field on f ≡ false) (first-spine (place_of up) k l) (tidy-field (ancestor k l all 0 0 ∷ up) f h.0))
      (tidy-later up k l all 0 fs h.1)

  tidy-later : (up : List Ancestor) (k : AstType) (l : Label) (all : Fields) (i : ℕ) (fs : Fields) → KeepsIn up k l all (suc i) fs → strays_fields false fs ≡ false
  tidy-later up k l all i done h = refl
  tidy-later up k l all i (f then fs) h =
      or_from (strays_field false f) (strays_fields false fs)
      (subst (λ (on : Bool). strays_field on f ≡ false) (later-spine (place_of up) k l i) (tidy-field (ancestor k l all (suc i) 0 ∷ up) f h.0))
      (tidy-later up k l all (suc i) fs h.1)

  tidy-field : (up : List Ancestor) (f : Field) → KeepsBy up f → strays_field (is_spine (place_of up)) f ≡ false
  tidy-field up missing h = refl
  tidy-field up (one t) h = tidy-tree up t h
  tidy-field up (many ts) h = tidy-trees up ts h
  tidy-field up (statements ts) h = tidy-trees up ts h

  tidy-trees : (up : List Ancestor) (ts : Trees) → KeepsAll up ts → strays_nodes (is_spine (place_of up)) ts ≡ false
  tidy-trees up empty h = refl
  tidy-trees up (t before ts) h = or_from (strays (is_spine (place_of up)) t) (strays_nodes (is_spine (place_of up)) ts) (tidy-tree up t h.0) (tidy-trees up ts h.1)

-- CHAINS

own-full : (k : AstType) (l : Label) (fs : Fields) → is_empty_chain (node k l fs) ≡ false → is_unmarked_chain k l fs ≡ false
own-full ChainExpression l fs e = e
own-full k l fs e = refl

mutual
  pub full-tree : (up : List Ancestor) (t : Tree) → Keeps up t → any_node is_unmarked_chain t ≡ false
  full-tree up (node k l fs) h = or_from (is_unmarked_chain k l fs) (any_in_fields is_unmarked_chain fs) (own-full k l fs h.0.chain) (full-fields up k l fs 0 fs h.1)

  full-fields : (up : List Ancestor) (k : AstType) (l : Label) (all : Fields) (i : ℕ) (fs : Fields) → KeepsIn up k l all i fs → any_in_fields is_unmarked_chain fs ≡ false
  full-fields up k l all i done h = refl
  full-fields up k l all i (f then fs) h = or_from (any_in_field is_unmarked_chain f) (any_in_fields is_unmarked_chain fs) (full-field (ancestor k l all i 0 ∷ up) f h.0) (full-fields up k l all (suc i) fs h.1)

  full-field : (up : List Ancestor) (f : Field) → KeepsBy up f → any_in_field is_unmarked_chain f ≡ false
  full-field up missing h = refl
  full-field up (one t) h = full-tree up t h
  full-field up (many ts) h = full-trees up ts h
  full-field up (statements ts) h = full-trees up ts h

  full-trees : (up : List Ancestor) (ts : Trees) → KeepsAll up ts → any_in_trees is_unmarked_chain ts ≡ false
  full-trees up empty h = refl
  full-trees up (t before ts) h = or_from (any_node is_unmarked_chain t) (any_in_trees is_unmarked_chain ts) (full-tree up t h.0) (full-trees up ts h.1)

-- without ids and marks of tables

mutual
  optional-bare : (t : Tree) → has_optional (bare t) ≡ has_optional t
  optional-bare (node MemberExpression l fs) = ap (λ (b : Bool). is_optional MemberExpression l || b) (optional-in-bare fs)
  optional-bare (node CallExpression l fs) = ap (λ (b : Bool). is_optional CallExpression l || b) (optional-in-bare fs)
  optional-bare (node k l fs) = refl

  optional-in-bare : (fs : Fields) → has_optional_in (bare_fields fs) ≡ has_optional_in fs
  optional-in-bare done = refl
  optional-in-bare (missing then fs) = refl
  optional-in-bare (one t then fs) = optional-bare t
  optional-in-bare (many ts then fs) = refl
  optional-in-bare (statements ts then fs) = refl

unmarked-bare : (k : AstType) (l : Label) (fs : Fields) → is_unmarked_chain k (bare_label l) (bare_fields fs) ≡ is_unmarked_chain k l fs
unmarked-bare ChainExpression l fs = ap not (optional-in-bare fs)
unmarked-bare k l fs = refl

mutual
  pub full-bare : (t : Tree) → any_node is_unmarked_chain (bare t) ≡ any_node is_unmarked_chain t
  full-bare (node k l fs) = λ i. unmarked-bare k l fs i || full-fields-bare fs i

  full-fields-bare : (fs : Fields) → any_in_fields is_unmarked_chain (bare_fields fs) ≡ any_in_fields is_unmarked_chain fs
  full-fields-bare done = refl
  full-fields-bare (f then fs) = λ i. full-field-bare f i || full-fields-bare fs i

  full-field-bare : (f : Field) → any_in_field is_unmarked_chain (bare_field f) ≡ any_in_field is_unmarked_chain f
  full-field-bare missing = refl
  full-field-bare (one t) = full-bare t
  full-field-bare (many ts) = full-trees-bare ts
  full-field-bare (statements ts) = full-trees-bare ts

  full-trees-bare : (ts : Trees) → any_in_trees is_unmarked_chain (bare_trees ts) ≡ any_in_trees is_unmarked_chain ts
  full-trees-bare empty = refl
  full-trees-bare (t before ts) = λ i. full-bare t i || full-trees-bare ts i
