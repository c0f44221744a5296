-- The names of a program's symbols stand in it, so they are in use where steps begin.
use Rattle.std.proofs.Common.{arith, ◌+◌, ◌<◌, ◌≡◌, ℕ, zero, suc, refl, sym, subst, List, [], ◌∷◌, ◌++◌, length}
use Rattle.std.specs.Prelude.{Bool, true, false, if◌then◌else◌}
use Rattle.es_tree.specs.Names.{first_text}
use Rattle.es_tree.specs.Tree.{Tree, node, Label, Fields, done, ◌then◌, Field, missing, one, many, statements, Trees, empty, ◌before◌}
use Rattle.es_tree.specs.Words.{Text}
use Rattle.es_tree.specs.declared.ast_type.AstType.{AstType}
use Rattle.es_tree.specs.declared.ast_type.AstType.TheVariants.{ClassDeclaration, ClassExpression, Identifier}
use Rattle.es_semantic.specs.Places.{Place, Visit, outermost, own_scope, own_scope_count, place_in, scope_count_in, scope_count_in_field, visits, visits_in_field, visits_in_fields, visits_in_trees}
use Rattle.es_semantic.specs.SymbolsOf.{Declared, declared, is_bound, symbols_of, with_class, with_identifier, with_node, with_symbol, with_visits}
use Rattle.es_semantic.specs.declared.place.Binding.{Binding}
use Rattle.es_semantic.specs.declared.place.Binding.TheVariants.{Class}
use Rattle.es_semantic.specs.declared.place.Role.{Role}
use Rattle.es_semantic.specs.declared.place.Role.TheVariants.{Binds, Nothing}
use Rattle.es_resolution.specs.Called.{name_at}
use Rattle.es_resolution.specs.Named.{IsUsed, Named, NamedAll, NamedBy, NamedIn, OwnUsed}
use Rattle.es_resolution.proofs.Marks.{marked, role-kept}
use Rattle.es_resolution.proofs.Sources.{source-resolved}
use Rattle.es_resolution.proofs.SymbolTrees.{own_symbols, resolved_among, resolved_by, resolved_in, resolved_tree}
use Rattle.es_steps.specs.CoreBridge.{first_whole}
use Rattle.es_steps.specs.Identifiers.{HasIdentifier, IsIdentifier, OwnPasses, Passes, PassesAll, PassesBy, PassesIn, any_name}
use Rattle.es_steps.proofs.Start.{law_start_proof}
use Rattle.es_steps.proofs.Taken.{at-least}
use Rattle.es_arrow_steps.specs.ArrowWalks.{LawFirstUses}

visits-join : (ds : List Declared) (us vs : List Visit) → with_visits ds (us ++ vs) ≡ with_visits (with_visits ds us) vs
visits-join ds [] vs = refl
visits-join ds (u ∷ us) vs = visits-join (with_node ds u.place u.next u.kind u.label u.fields) us vs

module _ (u : Text → Bool) where
  abbrev AllUsed : List Declared → Type 0
  AllUsed [] = Unit {0}
  AllUsed (d ∷ ds) = (u d.name ≡ true) × AllUsed ds

  one-more : (ds : List Declared) (d : Declared) → AllUsed ds → u d.name ≡ true → AllUsed (ds ++ d ∷ [])
  one-more [] d h e = (e, tt)
  one-more (c ∷ ds) d h e = (h.0, one-more ds d h.1 e)

  name-used : (ds : List Declared) → AllUsed ds → (s : ℕ) → s < length ds → u (name_at ds s) ≡ true
  name-used [] h s e = absurd (none s e)
    where
      none : (m : ℕ) → m < 0 → ⊥
      none m d = omega arith
  name-used (d ∷ ds) h zero e = h.0
  name-used (d ∷ ds) h (suc s) e = name-used ds h.1 s (omega arith)

  -- WHAT A NODE DECLARES

  symbol-used : (ds : List Declared) (s : ℕ) (x : Text) (b : Binding) → AllUsed ds → u x ≡ true → AllUsed (with_symbol ds s x b)
  symbol-used ds s x b h e = at (is_bound ds s x)
    where
      at : (v : Bool) → AllUsed (if v then ds else ds ++ declared s x b ∷ [])
      at true = h
      at false = one-more ds (declared s x b) h e

  identifier-used : (ds : List Declared) (p : Place) (r : Role) (x : Text) → AllUsed ds → IsUsed u r x → AllUsed (with_identifier ds p r x)
  identifier-used ds p (Binds b) x h e = symbol-used ds _ x b h e
  identifier-used ds p Nothing x h e = h
  identifier-used ds p _ x h e = h

  module _ (free : ℕ) (F : List Declared) where
    class-name-used : (r : Role) (k : AstType) (l : Label) (gs : Fields) → r ≡ Binds Class → IsIdentifier (node k l gs) → OwnUsed u r k l → u (first_text l.texts) ≡ true
    class-name-used r Identifier l gs e i used = subst (λ (z : Role). IsUsed u z (first_text l.texts)) e used
    class-name-used r _ l gs e i used = absurd i

    class-used : (ds : List Declared) (s : ℕ) (roles : ℕ → Role) (ps : ℕ → Place) (n : ℕ) (fs : Fields) → roles zero ≡ Binds Class → AllUsed ds → NamedIn u free roles (resolved_in F ps n fs) → HasIdentifier (resolved_in F ps n fs) → AllUsed (with_class ds s fs)
    class-used ds s roles ps n done e h used named = h
    class-used ds s roles ps n (missing then fs) e h used named = h
    class-used ds s roles ps n (one (node k l gs) then fs) e h used named = symbol-used ds s (first_text l.texts) Class h (class-name-used (roles zero) k (marked l (own_symbols F (ps zero) n k l gs)) (resolved_in F (place_in (ps zero) n k l gs) (n + own_scope_count k gs) gs) e named used.0.0.0)
    class-used ds s roles ps n (many ts then fs) e h used named = h
    class-used ds s roles ps n (statements ts then fs) e h used named = h

    node-used : (ds : List Declared) (p : Place) (n : ℕ) (k : AstType) (l : Label) (fs : Fields) (m : ℕ) → AllUsed ds → OwnUsed u p.role k (marked l (own_symbols F p n k l fs)) → NamedIn u free (λ i. (place_in p n k l fs i).role) (resolved_in F (place_in p n k l fs) m fs) → OwnPasses any_name k (marked l (own_symbols F p n k l fs)) (resolved_in F (place_in p n k l fs) m fs) → AllUsed (with_node ds p n k l fs)
    node-used ds p n Identifier l fs m h own used named = identifier-used ds p p.role (first_text l.texts) h own
    node-used ds p n ClassDeclaration l fs m h own used named = class-used ds (own_scope n ClassDeclaration fs) (λ i. (place_in p n ClassDeclaration l fs i).role) (place_in p n ClassDeclaration l fs) m fs refl h used named.0
    node-used ds p n ClassExpression l fs m h own used named = class-used ds (own_scope n ClassExpression fs) (λ i. (place_in p n ClassExpression l fs i).role) (place_in p n ClassExpression l fs) m fs refl h used named.0
    node-used ds p n _ l fs m h own used named = h

    -- TREES

    mutual
      tree-used : (ds : List Declared) (p : Place) (n : ℕ) (t : Tree) → AllUsed ds → Named u free p.role (resolved_tree F p n t) → Passes any_name (resolved_tree F p n t) → AllUsed (with_visits ds (visits p n t))
      tree-used ds p n (node k l fs) h used named =
          let ps = place_in p n k l fs in
          let m = n + own_scope_count k fs in
          let inside : NamedIn u free (λ i. (ps i).role) (resolved_in F ps m fs) = subst (λ (rs : ℕ → Role). NamedIn u free rs (resolved_in F ps m fs)) (role-kept F ps m p.role k l (own_symbols F p n k l fs) fs) used.1 in
          fields-used (with_node ds p n k l fs) ps m fs (node-used ds p n k l fs m h used.0.0 inside named.0) inside named.1

      fields-used : (ds : List Declared) (ps : ℕ → Place) (n : ℕ) (fs : Fields) → AllUsed ds → NamedIn u free (λ i. (ps i).role) (resolved_in F ps n fs) → PassesIn any_name (resolved_in F ps n fs) → AllUsed (with_visits ds (visits_in_fields ps n fs))
      fields-used ds ps n done h used named = h
      fields-used ds ps n (f then fs) h used named =
          let m = n + scope_count_in_field f in
          subst AllUsed (sym (visits-join ds (visits_in_field (ps zero) n f) (visits_in_fields (λ i. ps (suc i)) m fs)))
          (fields-used (with_visits ds (visits_in_field (ps zero) n f)) (λ i. ps (suc i)) m fs (field-used ds (ps zero) n f h used.0 named.0) used.1 named.1)

      field-used : (ds : List Declared) (p : Place) (n : ℕ) (f : Field) → AllUsed ds → NamedBy u free p.role (resolved_by F p n f) → PassesBy any_name (resolved_by F p n f) → AllUsed (with_visits ds (visits_in_field p n f))
      field-used ds p n missing h used named = h
      field-used ds p n (one t) h used named = tree-used ds p n t h used named
      field-used ds p n (many ts) h used named = trees-used ds p n ts h used named
      field-used ds p n (statements ts) h used named = trees-used ds p n ts h used named

      trees-used : (ds : List Declared) (p : Place) (n : ℕ) (ts : Trees) → AllUsed ds → NamedAll u free p.role (resolved_among F p n ts) → PassesAll any_name (resolved_among F p n ts) → AllUsed (with_visits ds (visits_in_trees p n ts))
      trees-used ds p n empty h used named = h
      trees-used ds p n (t before ts) h used named =
          let m = n + scope_count_in t in
          subst AllUsed (sym (visits-join ds (visits p n t) (visits_in_trees p m ts)))
          (trees-used (with_visits ds (visits p n t)) p m ts (tree-used ds p n t h used.0 named.0) used.1 named.1)

-- THE LAW

pub law_first_uses_proof : LawFirstUses
law_first_uses_proof p form right =
    let w = first_whole p in
    let start = law_start_proof p w form right (λ x e. rw e) (at-least w.free_symbol) (λ s. refl) in
    name-used w.in_use (symbols_of p)
    (tree-used w.in_use w.free_symbol (symbols_of p) [] (outermost p) 1 p tt
    (subst (λ (z : Tree). Named w.in_use w.free_symbol (outermost p).role z) (source-resolved p) start.named)
    (subst (λ (z : Tree). Passes any_name z) (source-resolved p) start.class_names))
