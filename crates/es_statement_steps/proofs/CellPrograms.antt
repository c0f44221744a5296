-- In a program of the class whose names in use are no cells of the machine's own, no name is one and no scope declares one. So each operand of a further
-- kind in it means something by itself, whatever its keys and labels are.
use Rattle.std.proofs.Common.{◌≡◌, ℕ, zero, suc, refl, List, [], ◌∷◌}
use Rattle.std.proofs.lemmas.Bool.{and_from, or_left, or_right}
use Rattle.std.specs.Prelude.{Bool, true, false, ◌&&◌, bytes_eq, if◌then◌else◌}
use Rattle.es_tree.specs.HasForm.{has_form}
use Rattle.es_tree.specs.Names.{is_name_place, is_reexport}
use Rattle.es_tree.specs.Scopes.{Declared, declares}
use Rattle.es_tree.specs.StaticRules.{breaks}
use Rattle.es_tree.specs.Tree.{Tree, node, Label, Fields, done, ◌then◌, Field, missing, one, many, statements, Trees, empty, ◌before◌}
use Rattle.es_tree.specs.Walks.{all_nodes}
use Rattle.es_tree.specs.Words.{Text}
use Rattle.es_tree.specs.declared.ast_type.AstType.{AstType}
use Rattle.es_tree.specs.declared.ast_type.AstType.TheVariants.{ArrayPattern, ArrayTarget, ArrowFunctionExpression, AssignmentExpression, AssignmentPattern, CatchClause, ClassDeclaration, ClassExpression, ExportDefaultDeclaration, ExportNamedDeclaration, ExportSpecifier, ForInStatement, ForOfStatement, FunctionBody, FunctionDeclaration, FunctionExpression, Identifier, ImportDefaultSpecifier, ImportNamespaceSpecifier, ImportSpecifier, MethodDefinition, ObjectPattern, ObjectTarget, ParenthesizedExpression, PatternProperty, Program, RestElement, StaticBlock, TargetProperty, TargetRest, TargetWithDefault, UpdateExpression, VariableDeclaration, VariableDeclarator}
use Rattle.es_tree.specs.declared.table.Sort.TheVariants.{Program as s-Program}
use Rattle.es_semantic.specs.RolesOf.{reads, role_at}
use Rattle.es_semantic.specs.declared.place.Role.{Role}
use Rattle.es_semantic.specs.declared.place.Role.TheVariants.{Nothing}
use Rattle.es_resolution.specs.Named.{Named, OwnUsed}
use Rattle.es_runs.proofs.Temporary.{bytes_eq-self}
use Rattle.es_valid_steps.proofs.Visits.{law_among_proof, law_places_proof}
use Rattle.es_statement_runs.specs.Helpers.Supply.{no_helpers}
use Rattle.es_statement_runs.specs.Names.{names_of_all, own_names}
use Rattle.es_statement_runs.specs.Programs.{is_statement_kind, is_without_functions, names_no_cell}
use Rattle.es_statement_runs.specs.Scopes.{are_program_names}
use Rattle.es_statement_runs.proofs.ValidNames.{cells_free, free_among, free_at, free_in, own_free}
use Rattle.es_statement_runs.proofs.ValidProof.{valid_meant}
use Rattle.es_statement_steps.proofs.Below.{Below, BelowField, BelowTrees, both_below, by_parts, map_field}
use Rattle.es_statement_steps.proofs.DeclaredNames.{from_children}
use Rattle.es_statement_steps.proofs.FreshNames.{named_below, own_names_used}
use Rattle.es_statement_steps.proofs.MeantOperands.{meant_node}
use Rattle.es_statement_steps.proofs.MeantPrograms.{nodes-meant}
use Rattle.es_statement_steps.proofs.PlacePremises.{is_no_cell}
use Rattle.es_statement_steps.proofs.StandingPrograms.{program_stands}
use Rattle.es_statement_steps.proofs.Stands.{standing}
use Rattle.es_statement_steps.proofs.StepMoves.{Fine}

-- ROLES: what is a name has one

abbrev has_role : Role → Bool
has_role Nothing = false
has_role r = true

if-named : (b : Bool) → b ≡ true → has_role (if b then reads else Nothing) ≡ true
if-named true e = refl
if-named false e = absurd (cc e)

if-exported : (b : Bool) → b ≡ false → has_role (if b then Nothing else reads) ≡ true
if-exported true e = absurd (cc e)
if-exported false e = refl

role-named : (r : Role) (k : AstType) (l : Label) (fs : Fields) (i : ℕ) → is_statement_kind k ≡ true → is_reexport k fs ≡ false → has_role r ≡ true → is_name_place k l i ≡ true → has_role (role_at r k l fs i) ≡ true
role-named r Program l fs (suc zero) c e n p = refl
role-named r ExportNamedDeclaration l fs zero c e n p = n
role-named r ExportDefaultDeclaration l fs zero c e n p = n
role-named r VariableDeclaration l fs zero c e n p = refl
role-named r VariableDeclarator l fs zero c e n p = n
role-named r CatchClause l fs zero c e n p = refl
role-named r ImportSpecifier l fs (suc zero) c e n p = refl
role-named r ImportDefaultSpecifier l fs zero c e n p = refl
role-named r ImportNamespaceSpecifier l fs zero c e n p = refl
role-named r ExportNamedDeclaration l fs (suc zero) c e n p = if-exported (is_reexport ExportNamedDeclaration fs) e
role-named r ExportSpecifier l fs zero c e n p = n
role-named r ForInStatement l fs zero c e n p = refl
role-named r ForOfStatement l fs zero c e n p = refl
role-named r AssignmentExpression l fs zero c e n p = refl
role-named r UpdateExpression l fs zero c e n p = refl
role-named r ParenthesizedExpression l fs zero c e n p = n
role-named r ObjectPattern l fs zero c e n p = n
role-named r PatternProperty l fs (suc zero) c e n p = n
role-named r ArrayPattern l fs i c e n p = n
role-named r AssignmentPattern l fs zero c e n p = n
role-named r RestElement l fs zero c e n p = n
role-named r ObjectTarget l fs zero c e n p = n
role-named r TargetProperty l fs (suc zero) c e n p = n
role-named r ArrayTarget l fs i c e n p = n
role-named r TargetWithDefault l fs zero c e n p = n
role-named r TargetRest l fs zero c e n p = n
role-named r FunctionBody l fs i c e n p = absurd (cc c)
role-named r StaticBlock l fs i c e n p = absurd (cc c)
role-named r FunctionDeclaration l fs i c e n p = absurd (cc c)
role-named r FunctionExpression l fs i c e n p = absurd (cc c)
role-named r ArrowFunctionExpression l fs i c e n p = absurd (cc c)
role-named r ClassDeclaration l fs i c e n p = absurd (cc c)
role-named r ClassExpression l fs i c e n p = absurd (cc c)
role-named r MethodDefinition l fs i c e n p = absurd (cc c)
role-named r k l fs i c e n p = if-named (is_name_place k l i) p

-- WHAT A NODE SAYS ITSELF

own-name-free : (r : Role) (k : AstType) (l : Label) (fs : Fields) → has_role r ≡ true → OwnUsed is_no_cell r k l → names_no_cell k l fs ≡ true
own-name-free Nothing Identifier l fs n u = absurd (cc n)
own-name-free _ Identifier l fs n u = u
own-name-free r _ l fs n u = refl

declared-free : (ds : List Declared) → ((x : Text) → declares ds x ≡ true → is_no_cell x ≡ true) → are_program_names (names_of_all ds) ≡ true
declared-free [] h = refl
declared-free (d ∷ ds) h =
    and_from (is_no_cell d.name) (are_program_names (names_of_all ds)) (h d.name (or_left (bytes_eq d.name d.name) (declares ds d.name) (bytes_eq-self d.name)))
    (declared-free ds (λ x e. h x (or_right (bytes_eq d.name x) (declares ds x) e)))

own-so : (k : AstType) (fs : Fields) → are_program_names (names_of_all (own_names k fs)) ≡ true → own_free k fs ≡ true
own-so ImportSpecifier fs h = refl
own-so ImportDefaultSpecifier fs h = refl
own-so ImportNamespaceSpecifier fs h = refl
own-so _ fs h = h

-- TREES

free-trees : (ts : Trees) → BelowTrees (λ t. cells_free t ≡ true) ts → free_among ts ≡ true
free-trees empty h = refl
free-trees (t before ts) h = and_from (cells_free t) (free_among ts) h.0 (free-trees ts h.1)

free-field : (f : Field) → BelowField (λ t. cells_free t ≡ true) f → free_at f ≡ true
free-field missing h = refl
free-field (one t) h = h
free-field (many ts) h = free-trees ts h
free-field (statements ts) h = free-trees ts h

free-fields : (counts : ℕ → Bool) (fs : Fields) → Below (λ i t. counts i ≡ true → cells_free t ≡ true) fs → free_in counts fs ≡ true
free-fields counts done h = refl
free-fields counts (f then fs) h = and_from (if counts zero then free_at f else true) (free_in (λ n. counts (suc n)) fs) (at (counts zero) refl) (free-fields (λ n. counts (suc n)) fs h.1)
  where
    at : (b : Bool) → counts zero ≡ b → (if b then free_at f else true) ≡ true
    at true e = free-field f (map_field (λ t. counts zero ≡ true → cells_free t ≡ true) (λ t. cells_free t ≡ true) (λ t g. g e) f h.0)
    at false e = refl

module _ (free : ℕ) where
  abbrev Frees : Tree → Type 0
  Frees t = (r : Role) → has_role r ≡ true → Fine t → Named is_no_cell free r t → cells_free t ≡ true

  frees-at : (k : AstType) (l : Label) (fs : Fields) → Below (λ i. Frees) fs → Frees (node k l fs)
  frees-at k l fs below r n fine named =
      let s = standing k l fs fine in
      let roles = role_at r k l fs in
      and_from (names_no_cell k l fs && own_free k fs) (if is_reexport k fs then true else free_in (is_name_place k l) fs)
      (and_from (names_no_cell k l fs) (own_free k fs) (own-name-free r k l fs n named.0.0) (own-so k fs (declared-free (own_names k fs) (own_names_used is_no_cell free r k l fs fine named.1))))
      (at (is_reexport k fs) (λ e. free-fields (is_name_place k l) fs
      (from_children k l fs (λ i t. Frees t × Named is_no_cell free (roles i) t) (λ i t. is_name_place k l i ≡ true → cells_free t ≡ true) s
      (both_below (λ i. Frees) (λ i t. Named is_no_cell free (roles i) t) fs below (named_below is_no_cell free roles fs named.1))
      (λ i t p c o. p.0 (roles i) (role-named r k l fs i s.class e n o) c.nodes p.1))))
    where
      at : (b : Bool) → (b ≡ false → free_in (is_name_place k l) fs ≡ true) → (if b then true else free_in (is_name_place k l) fs) ≡ true
      at true f = refl
      at false f = f refl

  pub named-cells : (r : Role) (t : Tree) → has_role r ≡ true → Fine t → Named is_no_cell free r t → cells_free t ≡ true
  named-cells r t = by_parts Frees frees-at t r

-- PROGRAMS

-- whose names are none of these cells, and so each that steps reach: its operands mean something
pub named-meant : (free : ℕ) (p : Tree) → has_form s-Program p ≡ true → breaks p ≡ [] → is_without_functions p ≡ true → Named is_no_cell free reads p → all_nodes meant_node p ≡ true
named-meant free p form rules class named =
    let fine = program_stands p form class ((law_places_proof p).to_places (law_among_proof p rules)) in
    nodes-meant p form fine (valid_meant no_helpers p form rules class (named-cells free reads p refl fine named) refl)
