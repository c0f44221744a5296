-- The table of a program binds names of the program alone: what its nodes declare, are names that stand in it.
use Rattle.std.proofs.Common.{◌≡◌, ℕ, zero, suc, ◌+◌, refl, sym, ap, subst, ◌∙◌, List, [], ◌∷◌, ◌++◌}
use Rattle.std.specs.Prelude.{Bool, true, false, ◌&&◌, ◌==◌, Option, Some, None, bytes_eq, length, option_map, if◌then◌else◌}
use Rattle.std.specs.List.{list_all}
use Rattle.std.proofs.lemmas.Bool.{and_from, and_parts}
use Rattle.std.proofs.lemmas.List.Folds.{list_all-append}
use Rattle.es_tree.specs.Fresh.{is_among}
use Rattle.es_tree.specs.Names.{first_text, names_of}
use Rattle.es_tree.specs.Tree.{Tree, node, Label, Fields, done, ◌then◌, Field, missing, one, many, statements, Trees, empty, ◌before◌}
use Rattle.es_tree.specs.Words.{Text}
use Rattle.es_tree.specs.declared.ast_type.AstType.{AstType}
use Rattle.es_tree.specs.declared.ast_type.AstType.TheVariants.{ClassDeclaration, ClassExpression, Identifier, Program}
use Rattle.es_semantic.specs.Places.{Place, outermost, own_scope, own_scope_count, place_in, scope_count_in, scope_count_in_field, visits, visits_in_field, visits_in_fields, visits_in_trees}
use Rattle.es_semantic.specs.RolesOf.{role_at}
use Rattle.es_semantic.specs.SymbolsOf.{Declared, declared, is_bound, is_symbol, scope_for, symbol_in, symbols_of, with_class, with_identifier, with_node, with_symbol, with_visits}
use Rattle.es_semantic.specs.declared.place.Binding.{Binding}
use Rattle.es_semantic.specs.declared.place.Binding.TheVariants.{Class}
use Rattle.es_semantic.specs.declared.place.Role.{Role}
use Rattle.es_semantic.specs.declared.place.Role.TheVariants.{Binds}
use Rattle.es_resolution.specs.Named.{IsUsed, Named, NamedAll, NamedBy, NamedIn}
use Rattle.es_resolution.proofs.Basics.{bytes_eq-equal}
use Rattle.es_resolution.proofs.Exports.{form-named}
use Rattle.es_resolution.proofs.Forms.{form-placed}
use Rattle.es_resolution.proofs.Marks.{role-kept}
use Rattle.es_resolution.proofs.Outside.{visits-append}
use Rattle.es_resolution.proofs.Placed.{IsWellPlaced, Placed, PlacedAll, PlacedBy, PlacedIn, is_last, is_name_first, name_fits}
use Rattle.es_resolution.proofs.SymbolTrees.{own_symbols, resolved_among, resolved_by, resolved_in, resolved_tree}
use Rattle.es_starts.specs.Contexts.{LawBindsNames}
use Rattle.es_starts.proofs.FirstContext.{names-kept}

module _ (u : Text → Bool) where
  -- each of these symbols has a name that passes
  abbrev are_named : List Declared → Bool
  are_named ds = list_all (λ d. u d.name) ds

  named-here : (d : Declared) (s : ℕ) (x : Text) (c : Bool) (o : Option ℕ) (m : ℕ) → (c ≡ true → u x ≡ true) → ((m : ℕ) → o ≡ Some m → u x ≡ true) → (if c then Some 0 else option_map suc o) ≡ Some m → u x ≡ true
  named-here d s x true o m f g e = f refl
  named-here d s x false None m f g e = absurd (cc e)
  named-here d s x false (Some k) m f g e = g k refl

  -- a name that has a symbol passes
  symbol-named : (ds : List Declared) (s : ℕ) (x : Text) (m : ℕ) → are_named ds ≡ true → symbol_in ds s x ≡ Some m → u x ≡ true
  symbol-named [] s x m h e = absurd (cc e)
  symbol-named (d ∷ ds) s x m h e =
      let parts = and_parts (u d.name) (are_named ds) h in
      named-here d s x (is_symbol s x d) (symbol_in ds s x) m
      (λ c. subst (λ (y : Text). u y ≡ true) (bytes_eq-equal d.name x (and_parts (d.scope == s) (bytes_eq d.name x) c).1) parts.0)
      (λ k r. symbol-named ds s x k parts.1 r) e

  more-named : (ds : List Declared) (d : Declared) → are_named ds ≡ true → u d.name ≡ true → are_named (ds ++ d ∷ []) ≡ true
  more-named ds d h e = list_all-append (λ (c : Declared). u c.name) ds (d ∷ []) ∙ and_from (are_named ds) (u d.name && true) h (and_from (u d.name) true e refl)

  one-more : (ds : List Declared) (s : ℕ) (x : Text) (b : Binding) → are_named ds ≡ true → u x ≡ true → are_named (with_symbol ds s x b) ≡ true
  one-more ds s x b h e = at (is_bound ds s x)
    where
      at : (c : Bool) → are_named (if c then ds else ds ++ declared s x b ∷ []) ≡ true
      at true = h
      at false = more-named ds (declared s x b) h e

  -- NODES

  identifier-named : (ds : List Declared) (p : Place) (r : Role) (x : Text) → IsUsed u r x → are_named ds ≡ true → are_named (with_identifier ds p r x) ≡ true
  identifier-named ds p (Binds b) x used h = one-more ds (scope_for ds p b x) x b h used
  identifier-named ds p _ x used h = h

  module _ (F : List Declared) (free : ℕ) where
    class-named : (ds : List Declared) (s : ℕ) (roles : ℕ → Role) (ps : ℕ → Place) (n : ℕ) (fs : Fields) → roles zero ≡ Binds Class → is_name_first fs ≡ true → NamedIn u free roles (resolved_in F ps n fs) → are_named ds ≡ true → are_named (with_class ds s fs) ≡ true
    class-named ds s roles ps n (one (node Identifier l done) then fs) r e used h = one-more ds s (first_text l.texts) Class h (subst (λ (r : Role). IsUsed u r (first_text l.texts)) r used.0.0.0)
    class-named ds s roles ps n (missing then fs) r e used h = h
    class-named ds s roles ps n fs r e used h = absurd (cc e)

    node-named : (ds : List Declared) (p : Place) (n : ℕ) (k : AstType) (l : Label) (fs : Fields) → name_fits k fs ≡ true → Named u free p.role (resolved_tree F p n (node k l fs)) → NamedIn u free (role_at p.role k l fs) (resolved_in F (place_in p n k l fs) (n + own_scope_count k fs) fs) → are_named ds ≡ true →
        are_named (with_node ds p n k l fs) ≡ true
    node-named ds p n Identifier l fs e used inside h = identifier-named ds p p.role (first_text l.texts) used.0.0 h
    node-named ds p n ClassDeclaration l fs e used inside h = class-named ds (own_scope n ClassDeclaration fs) (role_at p.role ClassDeclaration l fs) (place_in p n ClassDeclaration l fs) (n + own_scope_count ClassDeclaration fs) fs refl e inside h
    node-named ds p n ClassExpression l fs e used inside h = class-named ds (own_scope n ClassExpression fs) (role_at p.role ClassExpression l fs) (place_in p n ClassExpression l fs) (n + own_scope_count ClassExpression fs) fs refl e inside h
    node-named ds p n _ l fs e used inside h = h

    inside-of : (p : Place) (n : ℕ) (k : AstType) (l : Label) (fs : Fields) → Named u free p.role (resolved_tree F p n (node k l fs)) → NamedIn u free (role_at p.role k l fs) (resolved_in F (place_in p n k l fs) (n + own_scope_count k fs) fs)
    inside-of p n k l fs used =
        let gs = resolved_in F (place_in p n k l fs) (n + own_scope_count k fs) fs in
        subst (λ (roles : ℕ → Role). NamedIn u free roles gs) (role-kept F (place_in p n k l fs) (n + own_scope_count k fs) p.role k l (own_symbols F p n k l fs) fs) used.1

    mutual
      tree-named : (above : AstType) (last : Bool) (ds : List Declared) (p : Place) (n : ℕ) (t : Tree) → Placed above last t → Named u free p.role (resolved_tree F p n t) → are_named ds ≡ true → are_named (with_visits ds (visits p n t)) ≡ true
      tree-named above last ds p n (node k l fs) placed used h =
          let inside = inside-of p n k l fs used in
          fields-named k (with_node ds p n k l fs) (place_in p n k l fs) (n + own_scope_count k fs) fs placed.2 inside (node-named ds p n k l fs placed.1 used inside h)

      fields-named : (k : AstType) (ds : List Declared) (ps : ℕ → Place) (n : ℕ) (fs : Fields) → PlacedIn k fs → NamedIn u free (λ i. (ps i).role) (resolved_in F ps n fs) → are_named ds ≡ true → are_named (with_visits ds (visits_in_fields ps n fs)) ≡ true
      fields-named k ds ps n done placed used h = h
      fields-named k ds ps n (f then fs) placed used h =
          ap are_named (visits-append ds (visits_in_field (ps zero) n f) (visits_in_fields (λ i. ps (suc i)) (n + scope_count_in_field f) fs))
          ∙ fields-named k (with_visits ds (visits_in_field (ps zero) n f)) (λ i. ps (suc i)) (n + scope_count_in_field f) fs placed.1 used.1 (field-named k (is_last fs) ds (ps zero) n f placed.0 used.0 h)

      field-named : (k : AstType) (last : Bool) (ds : List Declared) (p : Place) (n : ℕ) (f : Field) → PlacedBy k last f → NamedBy u free p.role (resolved_by F p n f) → are_named ds ≡ true → are_named (with_visits ds (visits_in_field p n f)) ≡ true
      field-named k last ds p n missing placed used h = h
      field-named k last ds p n (one t) placed used h = tree-named k last ds p n t placed used h
      field-named k last ds p n (many ts) placed used h = trees-named k ds p n ts placed used h
      field-named k last ds p n (statements ts) placed used h = trees-named k ds p n ts placed used h

      trees-named : (k : AstType) (ds : List Declared) (p : Place) (n : ℕ) (ts : Trees) → PlacedAll k ts → NamedAll u free p.role (resolved_among F p n ts) → are_named ds ≡ true → are_named (with_visits ds (visits_in_trees p n ts)) ≡ true
      trees-named k ds p n empty placed used h = h
      trees-named k ds p n (t before ts) placed used h =
          ap are_named (visits-append ds (visits p n t) (visits_in_trees p (n + scope_count_in t) ts))
          ∙ trees-named k (with_visits ds (visits p n t)) p (n + scope_count_in t) ts placed.1 used.1 (tree-named k false ds p n t placed.0 used.0 h)

    program-named : (p : Tree) → IsWellPlaced p → Named u free (outermost p).role (resolved_tree F (outermost p) 1 p) → are_named (symbols_of p) ≡ true
    program-named (node Program l fs) placed used =
        let p = node Program l fs in
        fields-named Program [] (place_in (outermost p) 1 Program l fs) 1 fs placed.1 (inside-of (outermost p) 1 Program l fs used) refl
    program-named (node k l fs) placed used = absurd (cc (placed.0))

pub law_binds_names_proof : LawBindsNames
law_binds_names_proof p s form right h n x m e =
    let u = is_among (names_of p) in
    let named = program-named u (symbols_of p) (length (symbols_of p)) p (form-placed p form) (form-named p form right) in
    ap (λ names. is_among names x) (names-kept p) ∙ symbol-named u (symbols_of p) n x m named (sym (h.bindings n x) ∙ e)
