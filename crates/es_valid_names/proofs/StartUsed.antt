-- In a resolved program whose names are in use, those that scopes bind are: what an identifier declares by its ancestors it declares by
-- its role.
use Rattle.std.proofs.Common.{◌≡◌, ◌+◌, ℕ, zero, suc, refl, sym, subst, ◌∙◌, List, [], ◌∷◌, ◌++◌, map}
use Rattle.std.specs.Prelude.{Bool, true, false, not, ◌||◌, if◌then◌else◌, bytes_eq, codes}
use Rattle.es_tree.specs.Ancestors.{Ancestor, Visit as SeenVisit, leads_by, scopes, stands_in, visits as seen_visits}
use Rattle.es_tree.specs.CoreStaticRules.{is_lexical}
use Rattle.es_tree.specs.DeclaredNames.{Name, accessor_slots, bound_names, catch_names, constructor_names, declaration_names, declared, export_name, exported_names, exports_of, function_names, is_at_top, is_class_key, lexical_names, name, names_in_scope, parameter_names, private_names, slots, var_names}
use Rattle.es_tree.specs.HasForm.{has_form, same_type}
use Rattle.es_tree.specs.Names.{first_text, flag_at}
use Rattle.es_tree.specs.Tree.{Tree, node, Label, Fields, done, ◌then◌, Field, missing, one, many, statements, Trees, empty, ◌before◌}
use Rattle.es_tree.specs.Words.{Text}
use Rattle.es_tree.specs.declared.ast_type.AstType.{AstType}
use Rattle.es_tree.specs.declared.ast_type.AstType.TheVariants.{CatchClause, ClassDeclaration, ExportAllDeclaration, ExportDefaultDeclaration, ExportNamedDeclaration, ExportSpecifier, FunctionDeclaration, Identifier, MethodDefinition, PrivateIdentifier, StringLiteral, VariableDeclaration, VariableDeclarator}
use Rattle.es_tree.specs.declared.place.Namespace.TheVariants.{Constructors, FirstSlot, FourthSlot, PrivateNames, Scope, SecondSlot, ThirdSlot}
use Rattle.es_tree.specs.declared.table.Sort.TheVariants.{Program as s-Program}
use Rattle.es_semantic.specs.DeclaredAlike.{AreAlike, declares, is_any, is_own_name}
use Rattle.es_semantic.specs.Places.{Place, Visit, outermost, own_scope_count, place_in, scope_count_in, scope_count_in_field, visits, visits_in_field, visits_in_fields, visits_in_trees, visits_of}
use Rattle.es_semantic.specs.RolesOf.{reads, role_at}
use Rattle.es_semantic.specs.declared.place.Role.{Role}
use Rattle.es_semantic.specs.declared.place.Role.TheVariants.{Binds}
use Rattle.es_semantic.proofs.DeclaredPrograms.{law_declared_proof}
use Rattle.es_resolution.specs.Named.{IsUsed, Named, NamedAll, NamedBy, NamedIn, OwnUsed}
use Rattle.es_valid_names.proofs.Claims.{AllUsed}
use Rattle.es_valid_names.proofs.Mute.{beyond_catch, beyond_class, beyond_declarator, beyond_function, beyond_parameter, beyond_part, is_imported, is_parameter, is_part}
use Rattle.es_valid_names.proofs.Owners.{EachUsed}

module _ (used : Text → Bool) where
  -- NAMES under one text

  used-append : (xs ys : List Name) → AllUsed used xs → AllUsed used ys → AllUsed used (xs ++ ys)
  used-append [] ys h k = k
  used-append (x ∷ xs) ys h k = (h.0, used-append xs ys h.1 k)

  used-if : (b : Bool) (xs ys : List Name) → AllUsed used xs → AllUsed used ys → AllUsed used (if b then xs else ys)
  used-if true xs ys h k = h
  used-if false xs ys h k = k

  used-exports : (up : List Ancestor) (x : Text) → AllUsed used (exports_of up x)
  used-exports up x = used-if (stands_in ExportNamedDeclaration 0 up) (export_name x) [] (refl, tt) tt

  used-exported : (up : List Ancestor) (x : Text) → AllUsed used (exported_names up x)
  used-exported up x = used-if (stands_in ExportSpecifier 1 up || stands_in ExportAllDeclaration 0 up) (export_name x) [] (refl, tt) tt

  module _ (x : Text) (e : used x ≡ true) where
    used-first : (ns : List ℕ) (b : Bool) → AllUsed used (names_in_scope ns x b)
    used-first [] b = tt
    used-first (n ∷ ns) b = (e, tt)

    used-vars : (ns : List ℕ) → AllUsed used (map (λ n. name Scope n x false) ns)
    used-vars [] = tt
    used-vars (n ∷ ns) = (e, used-vars ns)

    used-declaration : (up : List Ancestor) → AllUsed used (declaration_names up x)
    used-declaration [] = tt
    used-declaration (d ∷ up) = used-if (same_type d.kind VariableDeclaration) ((if is_lexical (first_text d.label.texts) then lexical_names up x else var_names up x) ++ exports_of up x) [] (used-append (if is_lexical (first_text d.label.texts) then lexical_names up x else var_names up x) (exports_of up x) (used-if (is_lexical (first_text d.label.texts)) (lexical_names up x) (var_names up x) (used-first (scopes up) true) (used-vars (scopes up))) (used-exports up x)) tt

    used-bound : (up : List Ancestor) → AllUsed used (bound_names up x)
    used-bound [] = tt
    used-bound (a ∷ up) =
        used-if (is_part a) (bound_names up x) (beyond_part a up x) (used-bound up)
        (used-if (leads_by VariableDeclarator 0 a) (declaration_names up x) (beyond_declarator a up x) (used-declaration up)
        (used-if (leads_by FunctionDeclaration 0 a) (function_names up x ++ exports_of up x) (beyond_function a up x) (used-append (function_names up x) (exports_of up x) (used-first (scopes up) (not (is_at_top up))) (used-exports up x))
        (used-if (is_parameter a) (parameter_names a.number x) (beyond_parameter a up x) (refl, (e, tt))
        (used-if (leads_by ClassDeclaration 0 a) (lexical_names up x ++ exports_of up x) (beyond_class a up x) (used-append (lexical_names up x) (exports_of up x) (used-first (scopes up) true) (used-exports up x))
        (used-if (leads_by CatchClause 0 a) (catch_names a x) (beyond_catch a up x) (e, tt)
        (used-if (is_imported a) (lexical_names up x) [] (used-first (scopes up) true) tt))))))

  none-used : (ns : List Name) → is_any ns ≡ false → AllUsed used ns
  none-used [] e = tt
  none-used (n ∷ ns) e = absurd (cc e)

  used-accessors : (n : ℕ) (x word : Text) (b : Bool) → AllUsed used (map (λ s. name s n x true) (accessor_slots word b))
  used-accessors n x word b = at (bytes_eq word (codes "get")) (bytes_eq word (codes "set")) b
    where
      at : (g s b : Bool) → AllUsed used (map (λ s. name s n x true) (if g then FirstSlot ∷ (if b then SecondSlot else ThirdSlot) ∷ [] else if s then (if b then ThirdSlot else SecondSlot) ∷ FourthSlot ∷ [] else FirstSlot ∷ SecondSlot ∷ ThirdSlot ∷ FourthSlot ∷ []))
      at true s true = (refl, (refl, tt))
      at true s false = (refl, (refl, tt))
      at false true true = (refl, (refl, tt))
      at false true false = (refl, (refl, tt))
      at false false b = (refl, (refl, (refl, (refl, tt))))

  pub used-private : (up : List Ancestor) (x : Text) → AllUsed used (private_names up x)
  used-private [] x = tt
  used-private (a ∷ []) x = tt
  used-private (a ∷ (c ∷ up)) x = used-if (is_class_key (a ∷ up)) (name PrivateNames c.number x false ∷ map (λ s. name s c.number x true) (slots a)) [] (refl, used-accessors c.number x (if same_type a.kind MethodDefinition then first_text a.label.texts else []) (flag_at 0 a.label.flags)) tt

  pub used-constructor : (up : List Ancestor) (x : Text) → AllUsed used (constructor_names up x)
  used-constructor [] x = tt
  used-constructor (c ∷ up) x = used-if (bytes_eq x (codes "constructor")) (name Constructors c.number [] true ∷ []) [] (refl, tt) tt

  used-declared : (up : List Ancestor) (k : AstType) (l : Label) (fs : Fields) → (k ≡ Identifier → is_any (bound_names up (first_text l.texts)) ≡ true → used (first_text l.texts) ≡ true) → AllUsed used (declared up (node k l fs))
  used-declared up Identifier l fs h = used-append (bound_names up (first_text l.texts)) (exported_names up (first_text l.texts)) (at (is_any (bound_names up (first_text l.texts))) refl) (used-exported up (first_text l.texts))
    where
      at : (b : Bool) → is_any (bound_names up (first_text l.texts)) ≡ b → AllUsed used (bound_names up (first_text l.texts))
      at true e = used-bound (first_text l.texts) (h refl e) up
      at false e = none-used (bound_names up (first_text l.texts)) e
  used-declared up StringLiteral l fs h = used-exported up (first_text l.texts)
  used-declared up PrivateIdentifier l fs h = used-private up (first_text l.texts)
  used-declared up MethodDefinition l fs h = used-constructor up (first_text l.texts)
  used-declared up ExportDefaultDeclaration l fs h = (refl, tt)
  used-declared up _ l fs h = tt

  -- BY ROLES

  abbrev Says : Visit → Type 0
  Says v = v.kind ≡ Identifier → declares v.place.role ≡ true → used (first_text v.label.texts) ≡ true

  abbrev EachSays : List Visit → Type 0
  EachSays [] = Unit {0}
  EachSays (v ∷ vs) = Says v × EachSays vs

  says-both : (vs us : List Visit) → EachSays vs → EachSays us → EachSays (vs ++ us)
  says-both [] us h k = k
  says-both (v ∷ vs) us h k = (h.0, says-both vs us h.1 k)

  seen-used : (ss : List SeenVisit) (vs : List Visit) → AreAlike ss vs → EachSays vs → EachUsed 0 used ss
  seen-used [] [] h k = tt
  seen-used (s ∷ ss) (v ∷ vs) h k = (
    subst (λ (t : Tree). AllUsed used (declared s.ancestors t)) (sym h.0.same) (used-declared s.ancestors v.kind v.label v.fields (λ e d. k.0 e (h.0.declared e ∙ (λ i. d i || is_own_name s.ancestors)))),
    seen-used ss vs h.1 k.1,
  )
  seen-used [] (v ∷ vs) h k = absurd h
  seen-used (s ∷ ss) [] h k = absurd h

  role-says : (r : Role) (x : Text) → IsUsed used r x → declares r ≡ true → used x ≡ true
  role-says (Binds b) x h e = h
  role-says _ x h e = absurd (cc e)

  module _ (free : ℕ) where
    own-says : (r : Role) (k : AstType) (l : Label) → OwnUsed used r k l → k ≡ Identifier → declares r ≡ true → used (first_text l.texts) ≡ true
    own-says r Identifier l h e d = role-says r (first_text l.texts) h d
    own-says r _ l h e d = absurd (cc e)

    mutual
      tree-says : (p : Place) (n : ℕ) (t : Tree) → Named used free p.role t → EachSays (visits p n t)
      tree-says p n (node k l fs) h = (own-says p.role k l h.0.0, fields-say (role_at p.role k l fs) (place_in p n k l fs) (n + own_scope_count k fs) fs (λ i. refl) h.1)

      fields-say : (roles : ℕ → Role) (ps : ℕ → Place) (n : ℕ) (fs : Fields) → ((i : ℕ) → roles i ≡ (ps i).role) → NamedIn used free roles fs → EachSays (visits_in_fields ps n fs)
      fields-say roles ps n done e h = tt
      fields-say roles ps n (f then fs) e h = says-both (visits_in_field (ps zero) n f) (visits_in_fields (λ i. ps (suc i)) (n + scope_count_in_field f) fs) (field-says (roles zero) (ps zero) n f (e zero) h.0) (fields-say (λ i. roles (suc i)) (λ i. ps (suc i)) (n + scope_count_in_field f) fs (λ i. e (suc i)) h.1)

      field-says : (r : Role) (p : Place) (n : ℕ) (f : Field) → r ≡ p.role → NamedBy used free r f → EachSays (visits_in_field p n f)
      field-says r p n missing e h = tt
      field-says r p n (one t) e h = tree-says p n t (subst (λ (q : Role). Named used free q t) e h)
      field-says r p n (many ts) e h = trees-say r p n ts e h
      field-says r p n (statements ts) e h = trees-say r p n ts e h

      trees-say : (r : Role) (p : Place) (n : ℕ) (ts : Trees) → r ≡ p.role → NamedAll used free r ts → EachSays (visits_in_trees p n ts)
      trees-say r p n empty e h = tt
      trees-say r p n (t before ts) e h = says-both (visits p n t) (visits_in_trees p (n + scope_count_in t) ts) (tree-says p n t (subst (λ (q : Role). Named used free q t) e h.0)) (trees-say r p (n + scope_count_in t) ts e h.1)

    pub start-used : (t : Tree) → has_form s-Program t ≡ true → Named used free reads t → EachUsed 0 used (seen_visits [] 0 t)
    start-used t f h = seen-used (seen_visits [] 0 t) (visits_of t) (law_declared_proof t f) (tree-says (outermost t) 1 t h)
