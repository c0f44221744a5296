-- The scopes and the references of the parts of a core program, by the definition over every program and by the one
-- over core programs.
use Rattle.std.proofs.Common.{◌≡◌, ℕ, zero, suc, ◌+◌, refl, sym, ap, ◌∙◌, List, [], ◌∷◌, ◌++◌}
use Rattle.std.proofs.lemmas.Bool.{and_parts}
use Rattle.std.proofs.lemmas.List.{append_assoc}
use Rattle.std.specs.Prelude.{Bool, true, false, ◌||◌, option_map, Option, Some, None, if◌then◌else◌}
use Rattle.es_tree.specs.Core.{is_core_kind, is_core_node}
use Rattle.es_tree.specs.Names.{first_text}
use Rattle.es_tree.specs.References as core
use Rattle.es_tree.specs.References.{Reference}
use Rattle.es_tree.specs.Tree.{Tree, node, Label, Fields, done, ◌then◌, Field, missing, one, many, statements, Trees, empty, ◌before◌}
use Rattle.es_tree.specs.Walks.{all_nodes, all_in_fields, all_in_field, all_in_trees}
use Rattle.es_tree.specs.Words.{Text}
use Rattle.es_tree.specs.declared.ast_type.AstType.{AstType}
use Rattle.es_tree.specs.declared.ast_type.AstType.TheVariants.{BlockStatement, StaticBlock, FunctionDeclaration, FunctionExpression, FunctionBody, ArrowFunctionExpression, ClassDeclaration, ClassExpression, ForStatement, ForInStatement, ForOfStatement, SwitchStatement, CatchClause, Identifier}
use Rattle.es_tree.proofs.CoreBreaks.{core_kind}
use Rattle.es_semantic.specs.Places.{Place, Visit, first, visit, has_name_scope, is_hoisted_to, makes_scope, own_scope_count, parameters_in, place_in, scope_count_in, scope_count_in_field, visits, visits_in_fields, visits_in_field, visits_in_trees}
use Rattle.es_semantic.specs.ReferencesOf.{referring, referred, own_reference, references_among}
use Rattle.es_semantic.specs.ScopesOf.{scopes_among, scopes_made}
use Rattle.es_semantic.specs.SymbolsOf.{Declared, find, hoists, hoist_scope, is_bound, is_symbol, scope_for, symbol_in}
use Rattle.es_semantic.specs.declared.place.Binding.{Binding}
use Rattle.es_semantic.specs.declared.place.Role.{Role}
use Rattle.es_semantic.specs.declared.place.Role.TheVariants.{Nothing, Binds, Refers, Top, Member, Constructor}
use Rattle.es_semantic.proofs.CoreRoles.{core_role, Own, InTree, InFields, InField, InTrees}

-- NO SCOPES

-- a core kind makes no scope
pub record Plain (k : AstType) (fs : Fields) : Type 0 where
  pub makes : makes_scope k ≡ false
  pub names : has_name_scope k fs ≡ false
  pub hoisted : is_hoisted_to k ≡ false
  pub parameters : (p : Place) → parameters_in p k ≡ p.parameters

pub plain_kind : (k : AstType) (fs : Fields) → is_core_kind k ≡ true → Plain k fs
plain_kind BlockStatement fs c = absurd (cc c)
plain_kind StaticBlock fs c = absurd (cc c)
plain_kind FunctionDeclaration fs c = absurd (cc c)
plain_kind FunctionExpression fs c = absurd (cc c)
plain_kind FunctionBody fs c = absurd (cc c)
plain_kind ArrowFunctionExpression fs c = absurd (cc c)
plain_kind ClassDeclaration fs c = absurd (cc c)
plain_kind ClassExpression fs c = absurd (cc c)
plain_kind ForStatement fs c = absurd (cc c)
plain_kind ForInStatement fs c = absurd (cc c)
plain_kind ForOfStatement fs c = absurd (cc c)
plain_kind SwitchStatement fs c = absurd (cc c)
plain_kind CatchClause fs c = absurd (cc c)
plain_kind _ fs c = record { makes = refl; names = refl; hoisted = refl; parameters = λ p. refl }

scopes-append : (us vs : List Visit) → scopes_among (us ++ vs) ≡ scopes_among us ++ scopes_among vs
scopes-append [] vs = refl
scopes-append (u ∷ us) vs = ap (λ rs. scopes_made u ++ rs) (scopes-append us vs) ∙ sym (append_assoc (scopes_made u) (scopes_among us) (scopes_among vs))

none_made : (p : Place) (n : ℕ) (k : AstType) (l : Label) (fs : Fields) → Plain k fs → scopes_made (visit p n k l fs) ≡ []
none_made p n k l fs h = rw (h.names, h.makes) refl

mutual
  pub no-scopes : (p : Place) (n : ℕ) (t : Tree) → all_nodes is_core_node t ≡ true → scopes_among (visits p n t) ≡ []
  no-scopes p n (node k l fs) c =
      let own = and_parts (is_core_node k l fs) (all_in_fields is_core_node fs) c in
      λ i. none_made p n k l fs (plain_kind k fs (core_kind k l fs own.0)) i ++ no-scopes-fields (place_in p n k l fs) (n + own_scope_count k fs) fs own.1 i

  no-scopes-fields : (ps : ℕ → Place) (n : ℕ) (fs : Fields) → all_in_fields is_core_node fs ≡ true → scopes_among (visits_in_fields ps n fs) ≡ []
  no-scopes-fields ps n done c = refl
  no-scopes-fields ps n (f then fs) c =
      let parts = and_parts (all_in_field is_core_node f) (all_in_fields is_core_node fs) c in
      scopes-append (visits_in_field (ps zero) n f) (visits_in_fields (λ i. ps (suc i)) (n + scope_count_in_field f) fs)
      ∙ (λ i. no-scopes-field (ps zero) n f parts.0 i ++ no-scopes-fields (λ j. ps (suc j)) (n + scope_count_in_field f) fs parts.1 i)

  no-scopes-field : (p : Place) (n : ℕ) (f : Field) → all_in_field is_core_node f ≡ true → scopes_among (visits_in_field p n f) ≡ []
  no-scopes-field p n missing c = refl
  no-scopes-field p n (one t) c = no-scopes p n t c
  no-scopes-field p n (many ts) c = no-scopes-trees p n ts c
  no-scopes-field p n (statements ts) c = no-scopes-trees p n ts c

  no-scopes-trees : (p : Place) (n : ℕ) (ts : Trees) → all_in_trees is_core_node ts ≡ true → scopes_among (visits_in_trees p n ts) ≡ []
  no-scopes-trees p n empty c = refl
  no-scopes-trees p n (t before ts) c =
      let parts = and_parts (all_nodes is_core_node t) (all_in_trees is_core_node ts) c in
      scopes-append (visits p n t) (visits_in_trees p (n + scope_count_in t) ts)
      ∙ (λ i. no-scopes p n t parts.0 i ++ no-scopes-trees p (n + scope_count_in t) ts parts.1 i)

-- PLACES

-- a place of a core program: the program's scope alone is around it
pub record InProgram (p : Place) : Type 0 where
  pub around : p.around ≡ 0 ∷ []
  pub hoist : p.hoist ≡ 0
  pub parameters : p.parameters ≡ None

pub in_program_below : (p : Place) (n : ℕ) (k : AstType) (l : Label) (fs : Fields) → is_core_kind k ≡ true → InProgram p → (i : ℕ) → InProgram (place_in p n k l fs i)
in_program_below p n k l fs c h i =
    let plain = plain_kind k fs c in
    record {
      around = rw (plain.makes, plain.names) h.around;
      hoist = rw plain.hoisted h.hoist;
      parameters = plain.parameters p ∙ h.parameters;
    }

hoist_zero : (ds : List Declared) (p : Place) (x : Text) → InProgram p → hoist_scope ds p x ≡ 0
hoist_zero ds p x h = rw h.parameters h.hoist

-- whatever is declared there is declared in the program's scope
pub scope_zero : (ds : List Declared) (p : Place) (b : Binding) (x : Text) → InProgram p → scope_for ds p b x ≡ 0
scope_zero ds p b x h = at (hoists b)
  where
    at : (c : Bool) → (if c then hoist_scope ds p x else first p.around) ≡ 0
    at true = hoist_zero ds p x h
    at false = ap first h.around

unbound_none : (ds : List Declared) (s : ℕ) (x : Text) → is_bound ds s x ≡ false → symbol_in ds s x ≡ None
unbound_none [] s x e = refl
unbound_none (d ∷ ds) s x e = at (is_symbol s x d) e (unbound_none ds s x)
  where
    at : (b : Bool) → (b || is_bound ds s x) ≡ false → (is_bound ds s x ≡ false → symbol_in ds s x ≡ None) → (if b then Some 0 else option_map suc (symbol_in ds s x)) ≡ None
    at true e later = absurd (cc e)
    at false e later = ap (option_map suc) (later e)

pub find_zero : (ds : List Declared) (up : List ℕ) (x : Text) → up ≡ 0 ∷ [] → find ds up x ≡ symbol_in ds 0 x
find_zero ds up x e = ap (λ ns. find ds ns x) e ∙ at (is_bound ds 0 x) refl
  where
    at : (b : Bool) → is_bound ds 0 x ≡ b → (if b then symbol_in ds 0 x else None) ≡ symbol_in ds 0 x
    at true e = refl
    at false e = sym (unbound_none ds 0 x e)

-- REFERENCES AND MARKS

references-append : (ds : List Declared) (us vs : List Visit) → references_among ds (us ++ vs) ≡ references_among ds us ++ references_among ds vs
references-append ds [] vs = refl
references-append ds (u ∷ us) vs =
    let own = own_reference ds u.place u.kind u.label in
    ap (λ rs. own ++ rs) (references-append ds us vs) ∙ sym (append_assoc own (references_among ds us) (references_among ds vs))

referred_same : (r : Role) (id : ℕ) (s : Option ℕ) → referred (referring r) id s ≡ core.referred (core_role r) id s
referred_same Nothing id s = refl
referred_same (Binds b) id s = refl
referred_same (Refers f) id s = refl
referred_same Top id s = refl
referred_same (Member d) id s = refl
referred_same (Constructor d) id s = refl

module _ (ds : List Declared) (look : Text → Option ℕ) (same : (x : Text) → symbol_in ds 0 x ≡ look x) where
  own_same : (p : Place) (k : AstType) (l : Label) (o : core.Role) → InProgram p → Own k p.role o → own_reference ds p k l ≡ core.own_references look o k l
  own_same p Identifier l o h e =
      let x = first_text l.texts in
      referred_same p.role l.id (find ds p.around x) ∙ (λ i. core.referred (e i) l.id ((find_zero ds p.around x h.around ∙ same x) i))
  own_same p _ l o h e = refl

  mutual
    pub same-references : (p : Place) (n : ℕ) (o : core.Role) (t : Tree) → InProgram p → InTree p.role o t → references_among ds (visits p n t) ≡ core.references_at look o t
    same-references p n o (node k l fs) h (c, own, below) =
        λ i. own_same p k l o h own i ++ same-references-fields (place_in p n k l fs) (n + own_scope_count k fs) (core.role_at o k l) fs (in_program_below p n k l fs c h) below i

    pub same-references-fields : (ps : ℕ → Place) (n : ℕ) (os : ℕ → core.Role) (fs : Fields) → ((i : ℕ) → InProgram (ps i)) → InFields (λ i. (ps i).role) os fs → references_among ds (visits_in_fields ps n fs) ≡ core.references_in_fields look os fs
    same-references-fields ps n os done h b = refl
    same-references-fields ps n os (f then fs) h b =
        references-append ds (visits_in_field (ps zero) n f) (visits_in_fields (λ i. ps (suc i)) (n + scope_count_in_field f) fs)
        ∙ (λ i. same-references-field (ps zero) n (os zero) f (h zero) b.0 i ++ same-references-fields (λ j. ps (suc j)) (n + scope_count_in_field f) (λ j. os (suc j)) fs (λ j. h (suc j)) b.1 i)

    same-references-field : (p : Place) (n : ℕ) (o : core.Role) (f : Field) → InProgram p → InField p.role o f → references_among ds (visits_in_field p n f) ≡ core.references_in_field look o f
    same-references-field p n o missing h b = refl
    same-references-field p n o (one t) h b = same-references p n o t h b
    same-references-field p n o (many ts) h b = same-references-trees p n ts h b
    same-references-field p n o (statements ts) h b = same-references-trees p n ts h b

    same-references-trees : (p : Place) (n : ℕ) (ts : Trees) → InProgram p → InTrees p.role ts → references_among ds (visits_in_trees p n ts) ≡ core.references_in_trees look ts
    same-references-trees p n empty h b = refl
    same-references-trees p n (t before ts) h b =
        references-append ds (visits p n t) (visits_in_trees p (n + scope_count_in t) ts)
        ∙ (λ i. same-references p n core.reads t h b.0 i ++ same-references-trees p (n + scope_count_in t) ts h b.1 i)
