-- The names that a tree declares around it by `var` are among those that the test of trees finds, where its role asks for none itself and it
-- isn't at the top of a body.
use Rattle.std.proofs.Common.{◌≡◌, ◌∙◌, ℕ, zero, suc, refl, ap, [], ◌++◌}
use Rattle.std.specs.Prelude.{Bool, true, false, ◌||◌, ◌&&◌, not, bytes_eq, codes, if◌then◌else◌}
use Rattle.std.proofs.lemmas.Bool.{not-true, or_parts}
use Rattle.es_tree.specs.HasForm.{field_form, same_type}
use Rattle.es_tree.specs.Names.{first_text, is_name_place, third_stands}
use Rattle.es_tree.specs.Tree.{Tree, node, Label, Fields, done, ◌then◌, Field, missing, one, many, statements, Trees, empty, ◌before◌}
use Rattle.es_tree.specs.Words.{Text}
use Rattle.es_tree.specs.declared.ast_type.AstType.{AstType}
use Rattle.es_tree.specs.declared.ast_type.AstType.TheVariants.{
  ArrayPattern,
  ArrayTarget,
  ArrowFunctionExpression,
  AssignmentExpression,
  AssignmentPattern,
  CatchClause,
  ClassDeclaration,
  ClassExpression,
  ExportDefaultDeclaration,
  ExportNamedDeclaration,
  ExportSpecifier,
  ForInStatement,
  ForOfStatement,
  FunctionBody,
  FunctionDeclaration,
  FunctionExpression,
  Identifier,
  ImportDefaultSpecifier,
  ImportNamespaceSpecifier,
  ImportSpecifier,
  MethodDefinition,
  ObjectPattern,
  ObjectTarget,
  ParenthesizedExpression,
  PatternProperty,
  Program,
  RestElement,
  StaticBlock,
  TargetProperty,
  TargetRest,
  TargetWithDefault,
  UpdateExpression,
  VariableDeclaration,
  VariableDeclarator,
}
use Rattle.es_tree.specs.declared.table.Content.TheVariants.{Child as c-Child}
use Rattle.es_tree.specs.declared.table.Often.TheVariants.{NonEmptyList}
use Rattle.es_tree.specs.declared.table.Sort.TheVariants.{VariableDeclarator as s-VariableDeclarator}
use Rattle.es_tree.proofs.NodeForm.{node_form}
use Rattle.es_semantic.specs.RolesOf.{binding_of, function_binding, member_role, reads, role_at}
use Rattle.es_semantic.specs.SymbolsOf.{hoists}
use Rattle.es_semantic.specs.declared.place.Binding.TheVariants.{Constant, Let, Variable}
use Rattle.es_semantic.specs.declared.place.Role.{Role}
use Rattle.es_semantic.specs.declared.place.Role.TheVariants.{Binds, Constructor, Member, Nothing, Top}
use Rattle.es_resolution.specs.Declarations.{declared, declared_among, declared_by, declared_in, is_asked, is_var_scope, own_declared, reaches_out}
use Rattle.es_resolution.specs.Resolved.{bound_by}
use Rattle.es_resolution.proofs.AllForms.{All, AllAmong, AllBy, AllIn}
use Rattle.es_pattern_moves.specs.PatternMoves.{declarator_declares, var_among, var_declares, var_here, var_in_field, var_in_fields}
use Rattle.es_pattern_moves.proofs.FieldShapes.{AreOne, IsList, one-field, some-list}
use Rattle.es_pattern_moves.proofs.FieldShapes.AreOne.{are_one}
use Rattle.es_pattern_moves.proofs.FieldShapes.IsList.{is_list}
use Rattle.es_pattern_moves.proofs.PatternNames.{both-out, declarators-out, if-out, none-out}
use Rattle.es_pattern_moves.proofs.Settled.{Sound}
use Rattle.es_rest_shapes.specs.RestShapes.{any_tree}

-- ROLES that ask for no `var`, here or at the top of a body

abbrev pub is_plain_role : Role → Bool
is_plain_role Top = false
is_plain_role (Binds b) = not (hoists b)
is_plain_role _ = true

plain-unasked : (r : Role) → is_plain_role r ≡ true → is_asked true r ≡ false
plain-unasked Top e = absurd (cc e)
plain-unasked (Binds b) e = not-true (hoists b) e
plain-unasked _ e = refl

plain-place : (b : Bool) → is_plain_role (if b then reads else Nothing) ≡ true
plain-place true = refl
plain-place false = refl

plain-export : (b : Bool) → is_plain_role (if b then Nothing else reads) ≡ true
plain-export true = refl
plain-export false = refl

plain-function : (r : Role) → is_plain_role r ≡ true → is_plain_role (Binds (function_binding r)) ≡ true
plain-function Top e = absurd (cc e)
plain-function _ e = refl

plain-constructor : (b derived : Bool) → is_plain_role (if b then Constructor derived else Nothing) ≡ true
plain-constructor true derived = refl
plain-constructor false derived = refl

plain-member : (word : Text) (r : Role) → is_plain_role (member_role word r) ≡ true
plain-member word (Member derived) = plain-constructor (bytes_eq word (codes "constructor")) derived
plain-member word _ = refl

role-plain : (r : Role) (k : AstType) (l : Label) (fs : Fields) (i : ℕ) → same_type k VariableDeclaration ≡ false → is_var_scope k ≡ false → is_plain_role r ≡ true → is_plain_role (role_at r k l fs i) ≡ true
role-plain r Program l fs i c v o = absurd (cc v)
role-plain r FunctionBody l fs i c v o = absurd (cc v)
role-plain r StaticBlock l fs i c v o = absurd (cc v)
role-plain r VariableDeclaration l fs i c v o = absurd (cc c)
role-plain r ExportNamedDeclaration l fs zero c v o = o
role-plain r ExportNamedDeclaration l fs (suc zero) c v o = plain-export (third_stands fs)
role-plain r ExportDefaultDeclaration l fs zero c v o = o
role-plain r VariableDeclarator l fs zero c v o = o
role-plain r FunctionDeclaration l fs zero c v o = plain-function r o
role-plain r FunctionDeclaration l fs (suc zero) c v o = refl
role-plain r FunctionExpression l fs zero c v o = refl
role-plain r FunctionExpression l fs (suc zero) c v o = refl
role-plain r ArrowFunctionExpression l fs zero c v o = refl
role-plain r ClassDeclaration l fs zero c v o = refl
role-plain r ClassDeclaration l fs (suc (suc zero)) c v o = refl
role-plain r ClassExpression l fs zero c v o = refl
role-plain r ClassExpression l fs (suc (suc zero)) c v o = refl
role-plain r MethodDefinition l fs (suc zero) c v o = plain-member (first_text l.texts) r
role-plain r CatchClause l fs zero c v o = refl
role-plain r ImportSpecifier l fs (suc zero) c v o = refl
role-plain r ImportDefaultSpecifier l fs zero c v o = refl
role-plain r ImportNamespaceSpecifier l fs zero c v o = refl
role-plain r ExportSpecifier l fs zero c v o = o
role-plain r ForInStatement l fs zero c v o = refl
role-plain r ForOfStatement l fs zero c v o = refl
role-plain r AssignmentExpression l fs zero c v o = refl
role-plain r UpdateExpression l fs zero c v o = refl
role-plain r ParenthesizedExpression l fs zero c v o = o
role-plain r ObjectPattern l fs zero c v o = o
role-plain r PatternProperty l fs (suc zero) c v o = o
role-plain r ArrayPattern l fs i c v o = o
role-plain r AssignmentPattern l fs zero c v o = o
role-plain r RestElement l fs zero c v o = o
role-plain r ObjectTarget l fs zero c v o = o
role-plain r TargetProperty l fs (suc zero) c v o = o
role-plain r ArrayTarget l fs i c v o = o
role-plain r TargetWithDefault l fs zero c v o = o
role-plain r TargetRest l fs zero c v o = o
role-plain r k l fs i c v o = plain-place (is_name_place k l i)

-- DECLARATIONS

own-none : (r : Role) (k : AstType) (l : Label) → is_asked true r ≡ false → own_declared true r k l ≡ []
own-none r Identifier l o = rw o refl
own-none r _ l o = refl

asked-word : (word : Text) → is_asked true (Binds (binding_of word)) ≡ bytes_eq word (codes "var")
asked-word word = at (bytes_eq word (codes "var")) (bytes_eq word (codes "let"))
  where
    at : (a b : Bool) → is_asked true (Binds (if a then Variable else if b then Let else Constant)) ≡ a
    at true b = refl
    at false true = refl
    at false false = refl

module _ (y : Text) where
  -- by `var`, whatever its role
  pub declaration-out : (r : Role) (l : Label) (fs : Fields) → Sound VariableDeclaration l fs → var_here y VariableDeclaration l fs ≡ false → bound_by (declared true r (node VariableDeclaration l fs)) y ≡ false
  declaration-out r l fs h e = outer fs (one-field VariableDeclaration l _ fs (node_form h.sort VariableDeclaration l fs h.form).children) e
    where
      inner : (f : Field) → IsList s-VariableDeclarator s-VariableDeclarator f → var_here y VariableDeclaration l (f then done) ≡ false → bound_by (declared true r (node VariableDeclaration l (f then done))) y ≡ false
      inner f (is_list ds h) e =
          let word : Text = first_text l.texts in
          both-out y (declared_among true (Binds (binding_of word)) ds) [] (declarators-out true (binding_of word) y ds h (ap (λ b. b && any_tree (declarator_declares y) ds) (asked-word word) ∙ e)) refl

      outer : (fs : Fields) → AreOne (field_form VariableDeclaration l (c-Child s-VariableDeclarator NonEmptyList)) fs → var_here y VariableDeclaration l fs ≡ false → bound_by (declared true r (node VariableDeclaration l fs)) y ≡ false
      outer fs (are_one f h) e = inner f (some-list VariableDeclaration l s-VariableDeclarator f h) e

  nothing-counts : (counts : ℕ → Bool) (roles : ℕ → Role) (fs : Fields) → ((i : ℕ) → counts i ≡ false) → declared_in true counts roles fs ≡ []
  nothing-counts counts roles done none = refl
  nothing-counts counts roles (f then fs) none = rw (none zero) (nothing-counts (λ i. counts (suc i)) (λ i. roles (suc i)) fs (λ i. none (suc i)))

  -- a node that is no such declaration, by its fields
  node-out : (c : Bool) (r : Role) (k : AstType) (l : Label) (fs : Fields) → is_var_scope k ≡ c → is_plain_role r ≡ true → (not c && (var_here y k l fs || var_in_fields y fs)) ≡ false → (is_var_scope k ≡ false → var_in_fields y fs ≡ false → bound_by (declared_in true (reaches_out true k) (role_at r k l fs) fs) y ≡ false) → bound_by (declared true r (node k l fs)) y ≡ false
  node-out true r k l fs v o e below = none-out y (declared true r (node k l fs)) (λ i. own-none r k l (plain-unasked r o) i ++ nothing-counts (reaches_out true k) (role_at r k l fs) fs (λ n. ap not v) i)
  node-out false r k l fs v o e below = both-out y (own_declared true r k l) (declared_in true (reaches_out true k) (role_at r k l fs) fs) (none-out y (own_declared true r k l) (own-none r k l (plain-unasked r o))) (below v (or_parts (var_here y k l fs) (var_in_fields y fs) e).1)

  mutual
    pub vars-out : (r : Role) (t : Tree) → is_plain_role r ≡ true → All Sound t → var_declares y t ≡ false → bound_by (declared true r t) y ≡ false
    vars-out r (node VariableDeclaration l fs) o h e = declaration-out r l fs h.0 (or_parts (var_here y VariableDeclaration l fs) (var_in_fields y fs) e).0
    vars-out r (node k l fs) o h e = node-out (is_var_scope k) r k l fs refl o e (λ v d. fields-out (reaches_out true k) (role_at r k l fs) fs (λ i. role-plain r k l fs i refl v o) h.1 d)

    pub fields-out : (counts : ℕ → Bool) (roles : ℕ → Role) (fs : Fields) → ((i : ℕ) → is_plain_role (roles i) ≡ true) → AllIn Sound fs → var_in_fields y fs ≡ false → bound_by (declared_in true counts roles fs) y ≡ false
    fields-out counts roles done o h e = refl
    fields-out counts roles (f then fs) o h e =
        let d = or_parts (var_in_field y f) (var_in_fields y fs) e in
        both-out y (if counts zero then declared_by true (roles zero) f else []) (declared_in true (λ i. counts (suc i)) (λ i. roles (suc i)) fs)
        (if-out y (counts zero) (declared_by true (roles zero) f) (λ c. field-out (roles zero) f (o zero) h.0 d.0))
        (fields-out (λ i. counts (suc i)) (λ i. roles (suc i)) fs (λ i. o (suc i)) h.1 d.1)

    field-out : (r : Role) (f : Field) → is_plain_role r ≡ true → AllBy Sound f → var_in_field y f ≡ false → bound_by (declared_by true r f) y ≡ false
    field-out r missing o h e = refl
    field-out r (one t) o h e = vars-out r t o h e
    field-out r (many ts) o h e = among-out r ts o h e
    field-out r (statements ts) o h e = among-out r ts o h e

    among-out : (r : Role) (ts : Trees) → is_plain_role r ≡ true → AllAmong Sound ts → var_among y ts ≡ false → bound_by (declared_among true r ts) y ≡ false
    among-out r empty o h e = refl
    among-out r (t before ts) o h e =
        let d = or_parts (var_declares y t) (var_among y ts) e in
        both-out y (declared true r t) (declared_among true r ts) (vars-out r t o h.0 d.0) (among-out r ts o h.1 d.1)
