-- A program whose declarations stand where they belong breaks the same static rules by both definitions.
use Rattle.std.proofs.Common.{◌≡◌, ℕ, suc, ◌+◌, refl, sym, subst, [], ◌∷◌}
use Rattle.std.proofs.lemmas.List.Elements.{All-nil, All-cons, All-append}
use Rattle.std.specs.List.{All}
use Rattle.std.specs.Prelude.{List, true, false, ◌&&◌}
use Rattle.es_tree.specs.Ancestors.{Ancestor, ancestor, visit, visits, visits_in_fields, visits_in_field, visits_in_trees}
use Rattle.es_tree.specs.Core.{is_core_node}
use Rattle.es_tree.specs.CoreStaticRules.{core_breaks}
use Rattle.es_tree.specs.StaticRules.{breaks}
use Rattle.es_tree.specs.Tree.{Tree, node, Label, Fields, done, ◌then◌, Field, missing, one, many, statements, Trees, empty, ◌before◌, kind_of, tree_size, field_size}
use Rattle.es_tree.specs.Walks.{all_nodes, all_in_fields, all_in_field, all_in_trees}
use Rattle.es_tree.specs.declared.ast_type.AstType.{AstType}
use Rattle.es_tree.specs.declared.ast_type.AstType.TheVariants.{Program, VariableDeclaration, VariableDeclarator}
use Rattle.es_tree.proofs.CoreBreaks as tree
use Rattle.es_tree.proofs.CoreBreaks.{CoreVisit, Known, breaks-visits, core_kind, stands_below}
use Rattle.es_runs.specs.Standing.{field_stands, fields_stand, is_formed, may_stand, trees_stand, undeclaring}
use Rattle.es_runs.proofs.Declarations.{ProgramParts}
use Rattle.es_runs.proofs.Named.{and_left, and_right}
use Rattle.es_runs.proofs.OpenForm.{childless, unlisted, has_one_list}
use Rattle.es_runs.proofs.Undeclaring.{is_expression, is_part, stands_part}

-- what may stand in this field, and declares nothing inside
record Fits (k : AstType) (i : ℕ) (j : AstType) : Type 0 where
  place : tree.may_stand k i j ≡ true
  inner : is_expression j ≡ true

part_fits : (k : AstType) (i : ℕ) (j : AstType) → is_part j ≡ true → Fits k i j
part_fits k i Program h = absurd (cc h)
part_fits k i VariableDeclaration h = absurd (cc h)
part_fits k i VariableDeclarator h = absurd (cc h)
part_fits k i _ h = record { place = refl; inner = refl }

-- in this field of a node of this kind all that may stand in the kind does
abbrev FitsBelow : AstType → ℕ → Type 0
FitsBelow k i = (j : AstType) → may_stand k j ≡ true → Fits k i j

declarators_fit : FitsBelow VariableDeclaration 0
declarators_fit Program h = absurd (cc h)
declarators_fit VariableDeclaration h = absurd (cc h)
declarators_fit VariableDeclarator h = record { place = refl; inner = refl }
declarators_fit _ h = record { place = refl; inner = refl }

mutual
  tree_visits : (a : Ancestor) (up : List Ancestor) (m : ℕ) (t : Tree) → Known (a ∷ up) → Fits a.kind a.index (kind_of t) → all_nodes is_core_node t ≡ true → all_nodes undeclaring t ≡ true → All CoreVisit (visits (a ∷ up) m t)
  tree_visits a up m (node k l fs) w fit c u =
      let own = and_left (is_core_node k l fs) (all_in_fields is_core_node fs) c in
      All-cons CoreVisit (visit (a ∷ up) m (node k l fs)) (visits_in_fields (a ∷ up) k l fs m 0 (suc m) fs) (record { above = w; own = own })
      (fields_visits (a ∷ up) k l fs m 0 (suc m) fs (core_kind k l fs own, stands_below a up k m w.1 fit.place, w) (λ i j h. part_fits k i j (stands_part k j fit.inner h))
      (and_left (fields_stand k fs) (is_formed k fs) (and_left (undeclaring k l fs) (all_in_fields undeclaring fs) u)) (and_right (is_core_node k l fs) (all_in_fields is_core_node fs) c) (and_right (undeclaring k l fs) (all_in_fields undeclaring fs) u))

  fields_visits : (up : List Ancestor) (k : AstType) (l : Label) (all : Fields) (n i m : ℕ) (fs : Fields) → Known (ancestor k l all i n ∷ up) → ((i : ℕ) → FitsBelow k i) → fields_stand k fs ≡ true → all_in_fields is_core_node fs ≡ true → all_in_fields undeclaring fs ≡ true → All CoreVisit (visits_in_fields up k l all n i m fs)
  fields_visits up k l all n i m done w fit s c u = All-nil CoreVisit
  fields_visits up k l all n i m (f then fs) w fit s c u =
      All-append CoreVisit (visits_in_field (ancestor k l all i n ∷ up) m f) (visits_in_fields up k l all n (suc i) (m + field_size f) fs)
      (field_visits (ancestor k l all i n) up m f w (fit i) (and_left (field_stands k f) (fields_stand k fs) s) (and_left (all_in_field is_core_node f) (all_in_fields is_core_node fs) c) (and_left (all_in_field undeclaring f) (all_in_fields undeclaring fs) u))
      (fields_visits up k l all n (suc i) (m + field_size f) fs w fit (and_right (field_stands k f) (fields_stand k fs) s) (and_right (all_in_field is_core_node f) (all_in_fields is_core_node fs) c) (and_right (all_in_field undeclaring f) (all_in_fields undeclaring fs) u))

  field_visits : (a : Ancestor) (up : List Ancestor) (m : ℕ) (f : Field) → Known (a ∷ up) → FitsBelow a.kind a.index → field_stands a.kind f ≡ true → all_in_field is_core_node f ≡ true → all_in_field undeclaring f ≡ true → All CoreVisit (visits_in_field (a ∷ up) m f)
  field_visits a up m missing w fit s c u = All-nil CoreVisit
  field_visits a up m (one t) w fit s c u = tree_visits a up m t w (fit (kind_of t) s) c u
  field_visits a up m (many ts) w fit s c u = trees_visits a up m ts w fit s c u
  field_visits a up m (statements ts) w fit s c u = trees_visits a up m ts w fit s c u

  trees_visits : (a : Ancestor) (up : List Ancestor) (m : ℕ) (ts : Trees) → Known (a ∷ up) → FitsBelow a.kind a.index → trees_stand a.kind ts ≡ true → all_in_trees is_core_node ts ≡ true → all_in_trees undeclaring ts ≡ true → All CoreVisit (visits_in_trees (a ∷ up) m ts)
  trees_visits a up m empty w fit s c u = All-nil CoreVisit
  trees_visits a up m (t before ts) w fit s c u =
      All-append CoreVisit (visits (a ∷ up) m t) (visits_in_trees (a ∷ up) (m + tree_size t) ts)
      (tree_visits a up m t w (fit (kind_of t) (and_left (may_stand a.kind (kind_of t)) (trees_stand a.kind ts) s)) (and_left (all_nodes is_core_node t) (all_in_trees is_core_node ts) c) (and_left (all_nodes undeclaring t) (all_in_trees undeclaring ts) u))
      (trees_visits a up (m + tree_size t) ts w fit (and_right (may_stand a.kind (kind_of t)) (trees_stand a.kind ts) s) (and_right (all_nodes is_core_node t) (all_in_trees is_core_node ts) c) (and_right (all_nodes undeclaring t) (all_in_trees undeclaring ts) u))

-- THE PROGRAM

module _ (l : Label) (all : Fields) where
  -- the program as an ancestor
  abbrev root : ℕ → Ancestor
  root i = ancestor Program l all i 0

  below_root : (i : ℕ) → Known (root i ∷ [])
  below_root i = (refl, (refl, refl), tt)

  declaration_visits : (m : ℕ) (k : Label) (fs : Fields) → all_nodes is_core_node (node VariableDeclaration k fs) ≡ true → all_nodes undeclaring (node VariableDeclaration k fs) ≡ true → All CoreVisit (visits (root 1 ∷ []) m (node VariableDeclaration k fs))
  declaration_visits m k done c u = absurd (cc u)
  declaration_visits m k (f then (g then fs)) c u = absurd (cc (and_right (fields_stand VariableDeclaration (f then (g then fs))) false (and_left (fields_stand VariableDeclaration (f then (g then fs)) && false) _ u)))
  declaration_visits m k (f then done) c u =
      let fs : Fields = f then done in
      let own = and_left (is_core_node VariableDeclaration k fs) (all_in_field is_core_node f && true) c in
      let stand = and_left (field_stands VariableDeclaration f && true) true (and_left ((field_stands VariableDeclaration f && true) && true) (all_in_field undeclaring f && true) u) in
      let declaration : Ancestor = ancestor VariableDeclaration k fs 0 m in
      All-cons CoreVisit (visit (root 1 ∷ []) m (node VariableDeclaration k fs)) (visits_in_fields (root 1 ∷ []) VariableDeclaration k fs m 0 (suc m) fs) (record { above = below_root 1; own = own })
      (All-append CoreVisit (visits_in_field (declaration ∷ (root 1 ∷ [])) (suc m) f) []
      (field_visits declaration (root 1 ∷ []) (suc m) f (refl, stands_below (root 1) [] VariableDeclaration m (refl, refl) refl, below_root 1) declarators_fit (and_left (field_stands VariableDeclaration f) true stand)
      (and_left (all_in_field is_core_node f) true (and_right (is_core_node VariableDeclaration k fs) (all_in_field is_core_node f && true) c))
      (and_left (all_in_field undeclaring f) true (and_right ((field_stands VariableDeclaration f && true) && true) (all_in_field undeclaring f && true) u)))
      (All-nil CoreVisit))

  statement_visits : (m : ℕ) (t : Tree) → may_stand Program (kind_of t) ≡ true → all_nodes is_core_node t ≡ true → all_nodes undeclaring t ≡ true → All CoreVisit (visits (root 1 ∷ []) m t)
  statement_visits m (node Program k fs) s c u = absurd (cc s)
  statement_visits m (node VariableDeclaration k fs) s c u = declaration_visits m k fs c u
  statement_visits m (node VariableDeclarator k fs) s c u = absurd (cc s)
  statement_visits m (node j k fs) s c u = tree_visits (root 1) [] m (node j k fs) (below_root 1) (record { place = refl; inner = refl }) c u

  body_visits : (m : ℕ) (ts : Trees) → trees_stand Program ts ≡ true → all_in_trees is_core_node ts ≡ true → all_in_trees undeclaring ts ≡ true → All CoreVisit (visits_in_trees (root 1 ∷ []) m ts)
  body_visits m empty s c u = All-nil CoreVisit
  body_visits m (t before ts) s c u =
      All-append CoreVisit (visits (root 1 ∷ []) m t) (visits_in_trees (root 1 ∷ []) (m + tree_size t) ts)
      (statement_visits m t (and_left (may_stand Program (kind_of t)) (trees_stand Program ts) s) (and_left (all_nodes is_core_node t) (all_in_trees is_core_node ts) c) (and_left (all_nodes undeclaring t) (all_in_trees undeclaring ts) u))
      (body_visits (m + tree_size t) ts (and_right (may_stand Program (kind_of t)) (trees_stand Program ts) s) (and_right (all_nodes is_core_node t) (all_in_trees is_core_node ts) c) (and_right (all_nodes undeclaring t) (all_in_trees undeclaring ts) u))

  directives_visits : (m : ℕ) (ts : Trees) → childless ts ≡ true → all_in_trees is_core_node ts ≡ true → All CoreVisit (visits_in_trees (root 0 ∷ []) m ts)
  directives_visits m empty h c = All-nil CoreVisit
  directives_visits m (node k d done before ts) h c =
      All-cons CoreVisit (visit (root 0 ∷ []) m (node k d done)) (visits_in_trees (root 0 ∷ []) (m + 1) ts)
      (record { above = below_root 0; own = and_left (is_core_node k d done) true (and_left (all_nodes is_core_node (node k d done)) (all_in_trees is_core_node ts) c) })
      (directives_visits (m + 1) ts h (and_right (all_nodes is_core_node (node k d done)) (all_in_trees is_core_node ts) c))
  directives_visits m (node k d (f then fs) before ts) h c = absurd (cc h)

-- What has one statement list, after directives without parts, and declarations where they may stand.
pub record IsPlaced (t : Tree) : Type 0 where
  pub core : all_nodes is_core_node t ≡ true
  pub placed : all_nodes undeclaring t ≡ true
  pub one_list : has_one_list t ≡ true

program_visits : (l : Label) (ds body : Trees) → IsPlaced (node Program l (many ds then (statements body then done))) → All CoreVisit (visits [] 0 (node Program l (many ds then (statements body then done))))
program_visits l ds body h =
    let all : Fields = many ds then (statements body then done) in
    let lists : (childless ds && (all_in_trees unlisted body && true)) ≡ true = h.one_list in
    let core : (all_in_trees is_core_node ds && (all_in_trees is_core_node body && true)) ≡ true = h.core in
    let stand : (trees_stand Program ds && (trees_stand Program body && true)) ≡ true = and_left (trees_stand Program ds && (trees_stand Program body && true)) true (and_left (undeclaring Program l all) (all_in_fields undeclaring all) h.placed) in
    let below : (all_in_trees undeclaring ds && (all_in_trees undeclaring body && true)) ≡ true = and_right (undeclaring Program l all) (all_in_fields undeclaring all) h.placed in
    All-cons CoreVisit (visit [] 0 (node Program l all)) (visits_in_fields [] Program l all 0 0 1 all) (record { above = tt; own = refl })
    (All-append CoreVisit (visits_in_trees (root l all 0 ∷ []) 1 ds) (visits_in_fields [] Program l all 0 1 (1 + field_size (many ds)) (statements body then done))
    (directives_visits l all 1 ds (and_left (childless ds) (all_in_trees unlisted body && true) lists) (and_left (all_in_trees is_core_node ds) (all_in_trees is_core_node body && true) core))
    (All-append CoreVisit (visits_in_trees (root l all 1 ∷ []) (1 + field_size (many ds)) body) []
    (body_visits l all (1 + field_size (many ds)) body (and_left (trees_stand Program body) true (and_right (trees_stand Program ds) (trees_stand Program body && true) stand))
    (and_left (all_in_trees is_core_node body) true (and_right (all_in_trees is_core_node ds) (all_in_trees is_core_node body && true) core))
    (and_left (all_in_trees undeclaring body) true (and_right (all_in_trees undeclaring ds) (all_in_trees undeclaring body && true) below))) (All-nil CoreVisit)))

-- the program by its parts
list_parts : (t : Tree) → has_one_list t ≡ true → ProgramParts t
list_parts (node Program l (many ds then (statements body then done))) h = record { label = l; directives = ds; body = body; whole = refl }
list_parts (node Program l (many ds then (statements body then (g then fs)))) h = absurd (cc (and_right (all_in_trees unlisted body) false (and_right (childless ds) (all_in_trees unlisted body && false) h)))
list_parts (node Program l (many ds then done)) h = absurd (cc (and_right (childless ds) false h))
list_parts (node Program l (many ds then (missing then fs))) h = absurd (cc (and_right (childless ds) false h))
list_parts (node Program l (many ds then (one t then fs))) h = absurd (cc (and_right (childless ds) false h))
list_parts (node Program l (many ds then (many ts then fs))) h = absurd (cc (and_right (childless ds) false h))
list_parts (node Program l done) h = absurd (cc h)
list_parts (node Program l (missing then fs)) h = absurd (cc h)
list_parts (node Program l (one t then fs)) h = absurd (cc h)
list_parts (node Program l (statements ts then fs)) h = absurd (cc h)
list_parts (node _ l fs) h = absurd (cc h)

pub placed_breaks : (t : Tree) → IsPlaced t → breaks t ≡ core_breaks t
placed_breaks t h =
    let parts = list_parts t h.one_list in
    let P : Tree → Type 0 = λ u. IsPlaced u → All CoreVisit (visits [] 0 u) in
    breaks-visits t (subst P (sym parts.whole) (program_visits parts.label parts.directives parts.body) h)
