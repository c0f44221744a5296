-- Names that are bad stand nowhere in a tree of the class, where each name passes a test by its role (ECMA-262, 8.2, 13.15): what is only told has no role, and
-- only what is bound or written is a target.
use Rattle.std.proofs.Common.{◌≡◌, ℕ, zero, suc, refl, sym, ap, ◌∙◌, List, [], ◌∷◌}
use Rattle.std.proofs.lemmas.Bool.{and_parts, and_from}
use Rattle.std.specs.List.{list_all}
use Rattle.std.specs.Prelude.{Bool, true, false, not, ◌&&◌, ◌||◌, is_some, Some, bytes_eq, if◌then◌else◌}
use Rattle.es_tree.specs.Names.{first_text, flag_at}
use Rattle.es_tree.specs.Scopes.{Declared, declares}
use Rattle.es_tree.specs.Tree.{Tree, node, Label, Fields, done, ◌then◌, Field, missing, one, many, statements, Trees, empty, ◌before◌, kind_of}
use Rattle.es_tree.specs.Walks.{all_nodes}
use Rattle.es_tree.specs.Words.{Text}
use Rattle.es_tree.specs.declared.ast_type.AstType.{AstType}
use Rattle.es_tree.specs.declared.ast_type.AstType.TheVariants.{Program, VariableDeclaration, VariableDeclarator, AssignmentExpression, UpdateExpression, UnaryExpression, BinaryExpression, CallExpression, ChainExpression, BlockStatement, ForStatement, ForInStatement, ForOfStatement, SwitchStatement, TryStatement, CatchClause, ImportDeclaration, ImportSpecifier, ImportDefaultSpecifier, ImportNamespaceSpecifier, ExportNamedDeclaration, ExportSpecifier, ExportDefaultDeclaration, ExportAllDeclaration, BreakStatement, ContinueStatement, LabeledStatement, Identifier, MemberExpression, TemplateLiteral, TaggedTemplateExpression, ObjectProperty, ParenthesizedExpression, ObjectPattern, PatternProperty, ArrayPattern, AssignmentPattern, RestElement, ObjectTarget, TargetProperty, ArrayTarget, TargetWithDefault, TargetRest}
use Rattle.es_runs.specs.Alike.{Level, is_bad, key_need, object_level, the_callee, unary_need}
use Rattle.es_runs.specs.Alike.Level.{no_evaluation, a_target}
use Rattle.es_runs.specs.Core.{UnaryClass, flag, flag_after, unary_class}
use Rattle.es_runs.specs.Core.UnaryClass.{typeof_class, delete_class, void_class}
use Rattle.es_semantic.specs.Places.{is_inside, makes_scope}
use Rattle.es_semantic.specs.RolesOf.{reads, refers, role_at}
use Rattle.es_semantic.specs.declared.place.Binding.{Binding}
use Rattle.es_semantic.specs.declared.place.Binding.TheVariants.{Import}
use Rattle.es_semantic.specs.declared.place.Role.{Role}
use Rattle.es_semantic.specs.declared.place.Role.TheVariants.{Binds, Nothing, Refers}
use Rattle.es_resolution.specs.Declarations.{Bound, declared, declared_in, is_asked, own_declared, reaches_out, sought, symbol_of}
use Rattle.es_resolution.specs.Resolved.{bound_by}
use Rattle.es_resolution.proofs.Basics.{bytes_eq-equal, bytes_eq-self}
use Rattle.es_statement_runs.specs.Names.{last_name, names_of_all, own_names, tops}
use Rattle.es_statement_runs.specs.Places.{Take, all_good, avoids, avoids_field, avoids_fields, avoids_trees, key_taken, takes_of}
use Rattle.es_statement_runs.specs.Programs.{is_statement_kind}
use Rattle.es_statement_steps.proofs.Below.{Below, BelowField, BelowTrees, both_below, by_parts, map_below, parts_of}
use Rattle.es_statement_steps.proofs.DeclaredNames.{Child, children_of, from_children}
use Rattle.es_statement_steps.proofs.FoundNames.{all_declared, all_if, all_of_node}
use Rattle.es_statement_steps.proofs.ScopeNames.{scope_names}
use Rattle.es_statement_steps.proofs.TopNames.{program_names}
use Rattle.es_statement_steps.proofs.Stands.{aims, hands_on, is_link_kind, is_name, is_name_alone, parts_fit, standing, stands, takes_target, tells}

-- A TEST OF NAMES BY THEIR ROLES: each identifier of a tree passes it

abbrev pub OwnAt : (Role → Label → Type 0) → Role → AstType → Label → Type 0
OwnAt Q r Identifier l = Q r l
OwnAt Q r _ l = Unit {0}

abbrev mutual
  pub AtNames : (Role → Label → Type 0) → Role → Tree → Type 0
  AtNames Q r (node k l fs) = OwnAt Q r k l × AtNamesIn Q (role_at r k l fs) fs

  pub AtNamesIn : (Role → Label → Type 0) → (ℕ → Role) → Fields → Type 0
  AtNamesIn Q roles done = Unit {0}
  AtNamesIn Q roles (f then fs) = AtNamesBy Q (roles zero) f × AtNamesIn Q (λ i. roles (suc i)) fs

  pub AtNamesBy : (Role → Label → Type 0) → Role → Field → Type 0
  AtNamesBy Q r missing = Unit {0}
  AtNamesBy Q r (one t) = AtNames Q r t
  AtNamesBy Q r (many ts) = AtNamesAll Q r ts
  AtNamesBy Q r (statements ts) = AtNamesAll Q r ts

  pub AtNamesAll : (Role → Label → Type 0) → Role → Trees → Type 0
  AtNamesAll Q r empty = Unit {0}
  AtNamesAll Q r (t before ts) = AtNames Q r t × AtNamesAll Q r ts

module _ (Q : Role → Label → Type 0) where
  names_trees : (r : Role) (ts : Trees) → AtNamesAll Q r ts → BelowTrees (λ t. AtNames Q r t) ts
  names_trees r empty h = tt
  names_trees r (t before ts) h = (h.0, names_trees r ts h.1)

  names_field : (r : Role) (f : Field) → AtNamesBy Q r f → BelowField (λ t. AtNames Q r t) f
  names_field r missing h = tt
  names_field r (one t) h = h
  names_field r (many ts) h = names_trees r ts h
  names_field r (statements ts) h = names_trees r ts h

  pub names_below : (roles : ℕ → Role) (fs : Fields) → AtNamesIn Q roles fs → Below (λ i t. AtNames Q (roles i) t) fs
  names_below roles done h = tt
  names_below roles (f then fs) h = (names_field (roles zero) f h.0, names_below (λ i. roles (suc i)) fs h.1)

  below_trees : (r : Role) (ts : Trees) → BelowTrees (λ t. AtNames Q r t) ts → AtNamesAll Q r ts
  below_trees r empty h = tt
  below_trees r (t before ts) h = (h.0, below_trees r ts h.1)

  below_field : (r : Role) (f : Field) → BelowField (λ t. AtNames Q r t) f → AtNamesBy Q r f
  below_field r missing h = tt
  below_field r (one t) h = h
  below_field r (many ts) h = below_trees r ts h
  below_field r (statements ts) h = below_trees r ts h

  pub below_names : (roles : ℕ → Role) (fs : Fields) → Below (λ i t. AtNames Q (roles i) t) fs → AtNamesIn Q roles fs
  below_names roles done h = tt
  below_names roles (f then fs) h = (below_field (roles zero) f h.0, below_names (λ i. roles (suc i)) fs h.1)

-- two tests together
module _ (Q R : Role → Label → Type 0) where
  own_both : (r : Role) (k : AstType) (l : Label) → OwnAt Q r k l → OwnAt R r k l → OwnAt (λ q m. Q q m × R q m) r k l
  own_both r Identifier l h g = (h, g)
  own_both r _ l h g = tt

  abbrev Both : Tree → Type 0
  Both t = (r : Role) → AtNames Q r t → AtNames R r t → AtNames (λ q m. Q q m × R q m) r t

  both_at : (k : AstType) (l : Label) (fs : Fields) → Below (λ i. Both) fs → Both (node k l fs)
  both_at k l fs below r h g =
      let roles = role_at r k l fs in (
        own_both r k l h.0 g.0,
        below_names (λ q m. Q q m × R q m) roles fs (map_below (λ i t. Both t × (AtNames Q (roles i) t × AtNames R (roles i) t)) (λ i t. AtNames (λ q m. Q q m × R q m) (roles i) t) (λ i t p. p.0 (roles i) p.1.0 p.1.1) fs
            (both_below (λ i. Both) (λ i t. AtNames Q (roles i) t × AtNames R (roles i) t) fs below (both_below (λ i t. AtNames Q (roles i) t) (λ i t. AtNames R (roles i) t) fs (names_below Q roles fs h.1) (names_below R roles fs g.1)))),
      )

  pub both_names : (r : Role) (t : Tree) → AtNames Q r t → AtNames R r t → AtNames (λ q m. Q q m × R q m) r t
  both_names r t = by_parts Both both_at t r

-- ROLES AND LEVELS

-- what a name of this role does: it is bound or written
abbrev pub is_aimed : Role → Bool
is_aimed (Binds b) = true
is_aimed (Refers f) = f.write
is_aimed _ = false

-- a test of roles that those pass that bind or write
pub record PassesAims (aimed : Role → Bool) : Type 0 where
  pub binds : (b : Binding) → aimed (Binds b) ≡ true
  pub writes : (read : Bool) → aimed (refers read true) ≡ true

pub aims_pass : PassesAims is_aimed
aims_pass = record { binds = λ b. refl; writes = λ read. refl }

-- how what stands somewhere is taken fits its role
pub record Suits (aimed : Role → Bool) (r : Role) (n : Take) (k : AstType) : Type 0 where
  -- what is no name is only told
  pub told : r ≡ Nothing → (hands_on k ≡ false) × (n.need.level ≡ no_evaluation)
  -- a target is bound or written
  pub target : n.need.level ≡ a_target → is_name_alone k ≡ true → aimed r ≡ true
  pub pattern : takes_target k ≡ true → aimed r ≡ true

key_told : (b : Bool) → (if b then reads else Nothing) ≡ Nothing → (key_taken b).need.level ≡ no_evaluation
key_told true e = absurd (cc e)
key_told false e = refl

member_told : (bs : List Bool) → (if flag_at 0 bs then reads else Nothing) ≡ Nothing → (key_need (flag bs)).level ≡ no_evaluation
member_told [] e = refl
member_told (true ∷ bs) e = absurd (cc e)
member_told (false ∷ bs) e = refl

-- what is no name in a node that is one or none is only told
told_inside : (aimed : Role → Bool) (r : Role) (n : Take) (k : AstType) (l : Label) (fs : Fields) (i : ℕ) → is_statement_kind k ≡ true → Suits aimed r n k → role_at r k l fs i ≡ Nothing → (tells k i ≡ true) × ((takes_of n k l.texts l.flags i).need.level ≡ no_evaluation)
told_inside aimed r n MemberExpression l fs (suc zero) c f e = (refl, member_told l.flags e)
told_inside aimed r n ObjectProperty l fs zero c f e = (refl, key_told (flag_at 2 l.flags) e)
told_inside aimed r n PatternProperty l fs zero c f e = (refl, key_told (flag_at 1 l.flags) e)
told_inside aimed r n TargetProperty l fs zero c f e = (refl, key_told (flag_at 1 l.flags) e)
told_inside aimed r n BreakStatement l fs zero c f e = (refl, refl)
told_inside aimed r n ContinueStatement l fs zero c f e = (refl, refl)
told_inside aimed r n LabeledStatement l fs zero c f e = (refl, refl)
told_inside aimed r n ImportSpecifier l fs zero c f e = (refl, refl)
told_inside aimed r n ExportSpecifier l fs i c f e = (refl, refl)
told_inside aimed r n ExportAllDeclaration l fs zero c f e = (refl, refl)
told_inside aimed r n ExportNamedDeclaration l fs (suc zero) c f e = (refl, refl)
told_inside aimed r n ParenthesizedExpression l fs zero c f e = (refl, (f.told e).1)
told_inside aimed r n VariableDeclarator l fs zero c f e = absurd (let g = f.told e in cc g.0)
told_inside aimed r n ExportNamedDeclaration l fs zero c f e = absurd (let g = f.told e in cc g.0)
told_inside aimed r n ExportDefaultDeclaration l fs zero c f e = absurd (let g = f.told e in cc g.0)
told_inside aimed r n ObjectPattern l fs zero c f e = absurd (let g = f.told e in cc g.0)
told_inside aimed r n PatternProperty l fs (suc zero) c f e = absurd (let g = f.told e in cc g.0)
told_inside aimed r n ArrayPattern l fs i c f e = absurd (let g = f.told e in cc g.0)
told_inside aimed r n AssignmentPattern l fs zero c f e = absurd (let g = f.told e in cc g.0)
told_inside aimed r n RestElement l fs zero c f e = absurd (let g = f.told e in cc g.0)
told_inside aimed r n ObjectTarget l fs zero c f e = absurd (let g = f.told e in cc g.0)
told_inside aimed r n TargetProperty l fs (suc zero) c f e = absurd (let g = f.told e in cc g.0)
told_inside aimed r n ArrayTarget l fs i c f e = absurd (let g = f.told e in cc g.0)
told_inside aimed r n TargetWithDefault l fs zero c f e = absurd (let g = f.told e in cc g.0)
told_inside aimed r n TargetRest l fs zero c f e = absurd (let g = f.told e in cc g.0)
told_inside aimed r n Program l fs zero c f e = absurd (cc e)
told_inside aimed r n Program l fs (suc zero) c f e = absurd (cc e)
told_inside aimed r n VariableDeclaration l fs zero c f e = absurd (cc e)
told_inside aimed r n CatchClause l fs zero c f e = absurd (cc e)
told_inside aimed r n ImportSpecifier l fs (suc zero) c f e = absurd (cc e)
told_inside aimed r n ImportDefaultSpecifier l fs zero c f e = absurd (cc e)
told_inside aimed r n ImportNamespaceSpecifier l fs zero c f e = absurd (cc e)
told_inside aimed r n ForInStatement l fs zero c f e = absurd (cc e)
told_inside aimed r n ForOfStatement l fs zero c f e = absurd (cc e)
told_inside aimed r n AssignmentExpression l fs zero c f e = absurd (cc e)
told_inside aimed r n UpdateExpression l fs zero c f e = absurd (cc e)
told_inside aimed r n _ l fs i c f e = absurd (cc)

value_aims : (b c : Bool) → (key_taken b).need.level ≡ a_target → c ≡ true
value_aims true c e = absurd (cc e)
value_aims false c e = absurd (cc e)

key_aims : (b c : Bool) → (key_need b).level ≡ a_target → c ≡ true
key_aims true c e = absurd (cc e)
key_aims false c e = absurd (cc e)

object_aims : (b c : Bool) → object_level b ≡ a_target → c ≡ true
object_aims true c e = absurd (cc e)
object_aims false c e = absurd (cc e)

callee_aims : (b c : Bool) → (the_callee b).level ≡ a_target → c ≡ true
callee_aims true c e = absurd (cc e)
callee_aims false c e = absurd (cc e)

unary_aims : (form : Bool) (u : UnaryClass) (c : Bool) → (unary_need form u).level ≡ a_target → c ≡ true
unary_aims form typeof_class c e = absurd (cc e)
unary_aims form delete_class c e = absurd (cc e)
unary_aims form void_class c e = absurd (cc e)
unary_aims form _ c e = absurd (cc e)

not_alone : (b : Bool) → not b ≡ true → b ≡ true → ⊥
not_alone true h g = cc h
not_alone false h g = cc g

module _ (aimed : Role → Bool) (pass : PassesAims aimed) where
  -- a name that is a target in a node is bound or written there
  link_alone : (j : AstType) → is_link_kind j ≡ true → not (is_name_alone j) ≡ true
  link_alone MemberExpression p = refl
  link_alone CallExpression p = refl
  link_alone _ p = absurd (cc p)

  target_inside : (r : Role) (n : Take) (k : AstType) (l : Label) (fs : Fields) (i : ℕ) (j : AstType) → is_statement_kind k ≡ true → Suits aimed r n k → parts_fit k i j ≡ true → is_name_alone j ≡ true → (takes_of n k l.texts l.flags i).need.level ≡ a_target → aimed (role_at r k l fs i) ≡ true
  target_inside r n AssignmentExpression l fs zero j c f p a e = pass.writes _
  target_inside r n VariableDeclarator l fs zero j c f p a e = f.pattern refl
  target_inside r n VariableDeclaration l fs zero j c f p a e = pass.binds _
  target_inside r n VariableDeclaration l fs (suc i) j c f p a e = absurd (cc p)
  target_inside r n CatchClause l fs zero j c f p a e = pass.binds _
  target_inside r n ForInStatement l fs zero j c f p a e = pass.writes _
  target_inside r n ForOfStatement l fs zero j c f p a e = pass.writes _
  target_inside r n UpdateExpression l fs zero j c f p a e = pass.writes _
  target_inside r n UpdateExpression l fs (suc i) j c f p a e = absurd (cc p)
  target_inside r n PatternProperty l fs zero j c f p a e = value_aims (flag_at 1 l.flags) _ e
  target_inside r n PatternProperty l fs (suc zero) j c f p a e = f.pattern refl
  target_inside r n PatternProperty l fs (suc (suc i)) j c f p a e = absurd (cc p)
  target_inside r n TargetProperty l fs zero j c f p a e = value_aims (flag_at 1 l.flags) _ e
  target_inside r n TargetProperty l fs (suc zero) j c f p a e = f.pattern refl
  target_inside r n TargetProperty l fs (suc (suc i)) j c f p a e = absurd (cc p)
  target_inside r n ObjectProperty l fs zero j c f p a e = value_aims (flag_at 2 l.flags) _ e
  target_inside r n ArrayPattern l fs i j c f p a e = f.pattern refl
  target_inside r n ArrayTarget l fs i j c f p a e = f.pattern refl
  target_inside r n AssignmentPattern l fs zero j c f p a e = f.pattern refl
  target_inside r n TargetWithDefault l fs zero j c f p a e = f.pattern refl
  target_inside r n RestElement l fs zero j c f p a e = f.pattern refl
  target_inside r n RestElement l fs (suc i) j c f p a e = absurd (cc p)
  target_inside r n TargetRest l fs zero j c f p a e = f.pattern refl
  target_inside r n TargetRest l fs (suc i) j c f p a e = absurd (cc p)
  target_inside r n ParenthesizedExpression l fs zero j c f p a e = f.target e refl
  target_inside r n ParenthesizedExpression l fs (suc i) j c f p a e = absurd (cc p)
  target_inside r n ChainExpression l fs i j c f p a e = absurd (not_alone (is_name_alone j) (link_alone j p) a)
  target_inside r n MemberExpression l fs zero j c f p a e = object_aims (flag_after l.flags) _ e
  target_inside r n MemberExpression l fs (suc i) j c f p a e = key_aims (flag l.flags) _ e
  target_inside r n CallExpression l fs zero j c f p a e = callee_aims (flag l.flags) _ e
  target_inside r n UnaryExpression l fs i j c f p a e = unary_aims n.need.form (unary_class (first_text l.texts)) _ e
  target_inside r n AssignmentExpression l fs (suc i) j c f p a e = absurd (cc e)
  target_inside r n VariableDeclarator l fs (suc i) j c f p a e = absurd (cc e)
  target_inside r n CatchClause l fs (suc i) j c f p a e = absurd (cc e)
  target_inside r n ForInStatement l fs (suc i) j c f p a e = absurd (cc e)
  target_inside r n ForOfStatement l fs (suc i) j c f p a e = absurd (cc e)
  target_inside r n ObjectProperty l fs (suc i) j c f p a e = absurd (cc e)
  target_inside r n AssignmentPattern l fs (suc i) j c f p a e = absurd (cc e)
  target_inside r n TargetWithDefault l fs (suc i) j c f p a e = absurd (cc e)
  target_inside r n CallExpression l fs (suc i) j c f p a e = absurd (cc e)
  target_inside r n BinaryExpression l fs zero j c f p a e = absurd (cc e)
  target_inside r n BinaryExpression l fs (suc i) j c f p a e = absurd (cc e)
  target_inside r n LabeledStatement l fs zero j c f p a e = absurd (cc e)
  target_inside r n LabeledStatement l fs (suc i) j c f p a e = absurd (cc e)
  target_inside r n SwitchStatement l fs zero j c f p a e = absurd (cc e)
  target_inside r n SwitchStatement l fs (suc i) j c f p a e = absurd (cc e)
  target_inside r n TryStatement l fs zero j c f p a e = absurd (cc e)
  target_inside r n TryStatement l fs (suc zero) j c f p a e = absurd (cc e)
  target_inside r n TryStatement l fs (suc (suc i)) j c f p a e = absurd (cc e)
  target_inside r n ImportDeclaration l fs zero j c f p a e = absurd (cc e)
  target_inside r n ImportDeclaration l fs (suc i) j c f p a e = absurd (cc e)
  target_inside r n ExportNamedDeclaration l fs zero j c f p a e = absurd (cc e)
  target_inside r n ExportNamedDeclaration l fs (suc i) j c f p a e = absurd (cc e)
  target_inside r n TemplateLiteral l fs zero j c f p a e = absurd (cc e)
  target_inside r n TemplateLiteral l fs (suc i) j c f p a e = absurd (cc e)
  target_inside r n TaggedTemplateExpression l fs zero j c f p a e = absurd (cc e)
  target_inside r n TaggedTemplateExpression l fs (suc i) j c f p a e = absurd (cc e)
  target_inside r n _ l fs i j c f p a e = absurd (cc e)

  -- where a pattern stands names are bound or written
  aimed_inside : (r : Role) (n : Take) (k : AstType) (l : Label) (fs : Fields) (i : ℕ) → Suits aimed r n k → aims k i ≡ true → aimed (role_at r k l fs i) ≡ true
  aimed_inside r n VariableDeclaration l fs zero f e = pass.binds _
  aimed_inside r n VariableDeclarator l fs zero f e = f.pattern refl
  aimed_inside r n CatchClause l fs zero f e = pass.binds _
  aimed_inside r n ForInStatement l fs zero f e = pass.writes _
  aimed_inside r n ForOfStatement l fs zero f e = pass.writes _
  aimed_inside r n AssignmentExpression l fs zero f e = pass.writes _
  aimed_inside r n UpdateExpression l fs zero f e = pass.writes _
  aimed_inside r n ObjectPattern l fs zero f e = f.pattern refl
  aimed_inside r n PatternProperty l fs (suc zero) f e = f.pattern refl
  aimed_inside r n ArrayPattern l fs i f e = f.pattern refl
  aimed_inside r n AssignmentPattern l fs zero f e = f.pattern refl
  aimed_inside r n RestElement l fs zero f e = f.pattern refl
  aimed_inside r n ObjectTarget l fs zero f e = f.pattern refl
  aimed_inside r n TargetProperty l fs (suc zero) f e = f.pattern refl
  aimed_inside r n ArrayTarget l fs i f e = f.pattern refl
  aimed_inside r n TargetWithDefault l fs zero f e = f.pattern refl
  aimed_inside r n TargetRest l fs zero f e = f.pattern refl
  aimed_inside r n _ l fs i f e = absurd (cc e)

  pub suits_inside : (r : Role) (n : Take) (k : AstType) (l : Label) (fs : Fields) (i : ℕ) (t : Tree) → is_statement_kind k ≡ true → Suits aimed r n k → Child k i t → Suits aimed (role_at r k l fs i) (takes_of n k l.texts l.flags i) (kind_of t)
  suits_inside r n k l fs i t c f d = record {
    told = λ e. (let g = told_inside aimed r n k l fs i c f e in (d.stands_there.role g.0, g.1));
    target = λ e a. target_inside r n k l fs i (kind_of t) c f d.stands_there.part a e;
    pattern = λ e. aimed_inside r n k l fs i f (d.stands_there.aim e);
  }

-- BAD NAMES, where each name passes a test by which it isn't bad at the levels that suit its role

module _ (aimed : Role → Bool) (pass : PassesAims aimed) (bad : Level → Text → Bool) (Q : Role → Label → Type 0)
    (good : (r : Role) (n : Level) (l : Label) → (r ≡ Nothing → n ≡ no_evaluation) → (n ≡ a_target → aimed r ≡ true) → Q r l → bad n (first_text l.texts) ≡ false) where
  -- what is declared

  abbrev fine : Bound → Bool
  fine b = not (bad a_target b.name)

  own_fine : (v : Bool) (r : Role) (k : AstType) (l : Label) → OwnAt Q r k l → list_all fine (own_declared v r k l) ≡ true
  own_fine v (Binds b) Identifier l h =
      all_if fine (is_asked v (Binds b)) (record { name = first_text l.texts; symbol = symbol_of l } ∷ []) (and_from (not (bad a_target (first_text l.texts))) true (ap not (good (Binds b) a_target l (λ e. absurd (cc e)) (λ e. pass.binds b) h)) refl)
  own_fine v _ Identifier l h = refl
  own_fine v r _ l h = refl

  abbrev Fine : Tree → Type 0
  Fine t = (v : Bool) (r : Role) → AtNames Q r t → list_all fine (declared v r t) ≡ true

  fields_fine : (v : Bool) (counts : ℕ → Bool) (roles : ℕ → Role) (fs : Fields) → Below (λ i. Fine) fs → AtNamesIn Q roles fs → list_all fine (declared_in v counts roles fs) ≡ true
  fields_fine v counts roles fs below h = all_declared fine v counts roles fs
      (map_below (λ i t. Fine t × AtNames Q (roles i) t) (λ i t. list_all fine (declared v (roles i) t) ≡ true) (λ i t d. d.0 v (roles i) d.1) fs (both_below (λ i. Fine) (λ i t. AtNames Q (roles i) t) fs below (names_below Q roles fs h)))

  fine_at : (k : AstType) (l : Label) (fs : Fields) → Below (λ i. Fine) fs → Fine (node k l fs)
  fine_at k l fs below v r h = all_of_node fine v r k l fs (own_fine v r k l h.0) (fields_fine v (reaches_out v k) (role_at r k l fs) fs below h.1)

  not_bad : (b : Bool) → not b ≡ true → b ≡ false
  not_bad true h = absurd (cc h)
  not_bad false h = refl

  bound_fine : (bs : List Bound) (x : Text) → list_all fine bs ≡ true → bound_by bs x ≡ true → bad a_target x ≡ false
  bound_fine [] x h e = absurd (cc e)
  bound_fine (b ∷ bs) x h e =
      let d = and_parts (fine b) (list_all fine bs) h in
      at (bytes_eq b.name x) refl e d.0 (bound_fine bs x d.1)
    where
      at : (c : Bool) → bytes_eq b.name x ≡ c → is_some (if c then Some b.symbol else sought bs x) ≡ true → not (bad a_target b.name) ≡ true → (bound_by bs x ≡ true → bad a_target x ≡ false) → bad a_target x ≡ false
      at true g e u rest = ap (bad a_target) (sym (bytes_eq-equal b.name x g)) ∙ not_bad (bad a_target b.name) u
      at false g e u rest = rest e

  name_fine : (t : Tree) → is_name (kind_of t) ≡ true → AtNames Q (Binds Import) t → (x : Text) → declares (last_name (one t then done)) x ≡ true → bad a_target x ≡ false
  name_fine (node Identifier l fs) e h x d = at (bytes_eq (first_text l.texts) x) refl d
    where
      at : (c : Bool) → bytes_eq (first_text l.texts) x ≡ c → (c || false) ≡ true → bad a_target x ≡ false
      at true g q = ap (bad a_target) (sym (bytes_eq-equal (first_text l.texts) x g)) ∙ good (Binds Import) a_target l (λ e. absurd (cc e)) (λ e. pass.binds Import) h.0
      at false g q = absurd (cc q)
  name_fine (node k l fs) e h x d = absurd (cc e)

  -- of a scope or an import
  scope_fine : (r : Role) (k : AstType) (l : Label) (fs : Fields) → makes_scope k ≡ true → all_nodes stands (node k l fs) ≡ true → AtNamesIn Q (role_at r k l fs) fs → (x : Text) → declares (own_names k fs) x ≡ true → bad a_target x ≡ false
  scope_fine r k l fs e h names x d = bound_fine (declared_in false (is_inside k) (role_at r k l fs) fs) x (fields_fine false (is_inside k) (role_at r k l fs) fs (parts_of Fine fine_at fs) names) (scope_names x r k l fs e h ∙ d)

  pub own_names_fine : (r : Role) (k : AstType) (l : Label) (fs : Fields) → all_nodes stands (node k l fs) ≡ true → AtNamesIn Q (role_at r k l fs) fs → (x : Text) → declares (own_names k fs) x ≡ true → bad a_target x ≡ false
  own_names_fine r BlockStatement l fs h names x d = scope_fine r BlockStatement l fs refl h names x d
  own_names_fine r ForStatement l fs h names x d = scope_fine r ForStatement l fs refl h names x d
  own_names_fine r ForInStatement l fs h names x d = scope_fine r ForInStatement l fs refl h names x d
  own_names_fine r ForOfStatement l fs h names x d = scope_fine r ForOfStatement l fs refl h names x d
  own_names_fine r SwitchStatement l fs h names x d = scope_fine r SwitchStatement l fs refl h names x d
  own_names_fine r CatchClause l fs h names x d = scope_fine r CatchClause l fs refl h names x d
  own_names_fine r ImportSpecifier l (one (node j m hs) then (one y then done)) h names x d =
      let fs = one (node j m hs) then (one y then done) in
      let c = children_of ImportSpecifier l fs (standing ImportSpecifier l fs h) in
      name_fine y c.1.0.stands_there.part names.1.0 x d
  own_names_fine r ImportDefaultSpecifier l (one y then done) h names x d =
      let c = children_of ImportDefaultSpecifier l (one y then done) (standing ImportDefaultSpecifier l (one y then done) h) in
      name_fine y c.0.stands_there.part names.0 x d
  own_names_fine r ImportNamespaceSpecifier l (one y then done) h names x d =
      let c = children_of ImportNamespaceSpecifier l (one y then done) (standing ImportNamespaceSpecifier l (one y then done) h) in
      name_fine y c.0.stands_there.part names.0 x d
  own_names_fine r ImportSpecifier l fs h names x d = absurd (let s = standing ImportSpecifier l fs h in cc s.shape)
  own_names_fine r ImportDefaultSpecifier l fs h names x d = absurd (let s = standing ImportDefaultSpecifier l fs h in cc s.shape)
  own_names_fine r ImportNamespaceSpecifier l fs h names x d = absurd (let s = standing ImportNamespaceSpecifier l fs h in cc s.shape)
  own_names_fine r _ l fs h names x d = absurd (cc d)

  -- of the top of a program
  pub top_fine : (l : Label) (fs : Fields) → all_nodes stands (node Program l fs) ≡ true → AtNames Q reads (node Program l fs) → (x : Text) → declares (tops fs) x ≡ true → bad a_target x ≡ false
  top_fine l fs h names x d =
      let roles = role_at reads Program l fs in
      let fine_by = λ (v : Bool) (counts : ℕ → Bool). bound_fine (declared_in v counts roles fs) x (fields_fine v counts roles fs (parts_of Fine fine_at fs) names.1) in
      at (bound_by (declared_in false (is_inside Program) roles fs) x) (bound_by (declared_in true (λ i. true) roles fs) x) (fine_by false (is_inside Program)) (fine_by true (λ i. true)) (program_names x l fs h ∙ d)
    where
      at : (a b : Bool) → (a ≡ true → bad a_target x ≡ false) → (b ≡ true → bad a_target x ≡ false) → (a || b) ≡ true → bad a_target x ≡ false
      at true b f g e = f refl
      at false b f g e = g e

  good_names : (ds : List Declared) → ((x : Text) → declares ds x ≡ true → bad a_target x ≡ false) → all_good bad (names_of_all ds) ≡ true
  good_names [] h = refl
  good_names (d ∷ ds) h =
      and_from (not (bad a_target d.name)) (all_good bad (names_of_all ds)) (ap not (h d.name (ap (λ b. b || declares ds d.name) (bytes_eq-self d.name))))
      (good_names ds (λ x e. h x (or_more (bytes_eq d.name x) (declares ds x) e)))
    where
      or_more : (a b : Bool) → b ≡ true → (a || b) ≡ true
      or_more true b e = refl
      or_more false b e = e

  -- trees

  avoids_all : (n : Take) (ts : Trees) → BelowTrees (λ t. avoids bad n t ≡ true) ts → avoids_trees bad n ts ≡ true
  avoids_all n empty h = refl
  avoids_all n (t before ts) h = and_from (avoids bad n t) (avoids_trees bad n ts) h.0 (avoids_all n ts h.1)

  avoids_at : (n : Take) (f : Field) → BelowField (λ t. avoids bad n t ≡ true) f → avoids_field bad n f ≡ true
  avoids_at n missing h = refl
  avoids_at n (one t) h = h
  avoids_at n (many ts) h = avoids_all n ts h
  avoids_at n (statements ts) h = avoids_all n ts h

  avoids_in : (c : ℕ → Take) (fs : Fields) → Below (λ i t. avoids bad (c i) t ≡ true) fs → avoids_fields bad c fs ≡ true
  avoids_in c done h = refl
  avoids_in c (f then fs) h = and_from (avoids_field bad (c zero) f) (avoids_fields bad (λ i. c (suc i)) fs) (avoids_at (c zero) f h.0) (avoids_in (λ i. c (suc i)) fs h.1)

  own_good : (r : Role) (n : Take) (k : AstType) (l : Label) → OwnAt Q r k l → Suits aimed r n k → not (is_bad bad n.need.level k l.texts) ≡ true
  own_good r n Identifier l q f = ap not (good r n.need.level l (λ e. (f.told e).1) (λ e. f.target e refl) q)
  own_good r n _ l q f = refl

  abbrev Avoids : Tree → Type 0
  Avoids t = (r : Role) (n : Take) → AtNames Q r t → Suits aimed r n (kind_of t) → all_nodes stands t ≡ true → avoids bad n t ≡ true

  node_avoids : (k : AstType) (l : Label) (fs : Fields) → Below (λ i. Avoids) fs → Avoids (node k l fs)
  node_avoids k l fs below r n names suits h =
      let s = standing k l fs h in
      and_from (not (is_bad bad n.need.level k l.texts)) (all_good bad (names_of_all (own_names k fs)) && avoids_fields bad (takes_of n k l.texts l.flags) fs)
      (own_good r n k l names.0 suits)
      (and_from (all_good bad (names_of_all (own_names k fs))) (avoids_fields bad (takes_of n k l.texts l.flags) fs)
      (good_names (own_names k fs) (own_names_fine r k l fs h names.1))
      (avoids_in (takes_of n k l.texts l.flags) fs
      (from_children k l fs (λ i t. Avoids t × AtNames Q (role_at r k l fs i) t) (λ i t. avoids bad (takes_of n k l.texts l.flags i) t ≡ true) s
      (both_below (λ i. Avoids) (λ i t. AtNames Q (role_at r k l fs i) t) fs below (names_below Q (role_at r k l fs) fs names.1))
      (λ i t p c. p.0 (role_at r k l fs i) (takes_of n k l.texts l.flags i) p.1 (suits_inside aimed pass r n k l fs i t s.class suits c) c.nodes))))

  pub names_avoid : (r : Role) (n : Take) (t : Tree) → AtNames Q r t → Suits aimed r n (kind_of t) → all_nodes stands t ≡ true → avoids bad n t ≡ true
  names_avoid r n t = by_parts Avoids node_avoids t r n
