-- What stands in the declarators of one declaration declares the same names in the pattern of another declarator.
use Rattle.std.proofs.Common.{◌≡◌, refl, sym, ap, subst, ◌∙◌, List, [], ◌∷◌, ◌++◌}
use Rattle.std.specs.Prelude.{false}
use Rattle.std.proofs.lemmas.List.{append-nil, append_assoc}
use Rattle.es_tree.specs.Ancestors.{Ancestor, is_module, scopes, stands_in}
use Rattle.es_tree.specs.DeclaredNames.{Name, bound_names, declaration_names, is_at_top}
use Rattle.es_tree.specs.Tree.{Tree, Label, Fields, Field, Trees}
use Rattle.es_tree.specs.Words.{Text}
use Rattle.es_tree.specs.declared.ast_type.AstType.TheVariants.{AssignmentPattern, CatchClause, ObjectPattern, PatternProperty, RestElement}
use Rattle.es_valid_names.proofs.Claims.{above, claims, claims_all, claims_by, is_owned}
use Rattle.es_valid_rests.proofs.RestNamesParts.{Part, part-self, same-parts}
use Rattle.es_valid_rests.proofs.RestNamesAround.{Fit, NoKey, Parent, claims-all-fit, claims-by-fit, claims-fit, innermost, looked_at, owned-self, parent_number, plain-private, OwnedPart}
use Rattle.es_valid_rests.proofs.RestNamesAround.Parent.{same_parent}

abbrev pub no_names : Text → List Name
no_names x = []

-- below a declaration, where identifiers declare these names
pub record Chain (up : List Ancestor) (names : Text → List Name) (us : List Ancestor) : Type 0 where
  pub module_around : is_module us ≡ is_module up
  pub top : is_at_top us ≡ false
  pub clause : stands_in CatchClause 1 us ≡ false
  pub scoped : scopes us ≡ scopes up
  pub key : NoKey us
  pub parent : parent_number us ≡ []
  pub declares : (x : Text) → declaration_names us x ≡ []
  pub bound : (x : Text) → bound_names us x ≡ names x

module _ (up : List Ancestor) where
  equal-part : {X : Type 0} (xs ys : List X) → ys ≡ xs → Part false xs ys
  equal-part xs ys e = subst (λ (zs : List _). Part false xs zs) (sym e) (part-self xs)

  chain-fit : {names : Text → List Name} (us vs : List Ancestor) → Chain up names us → Chain up names vs → Fit false us vs
  chain-fit us vs h k = record {
    module_around = k.module_around ∙ sym h.module_around;
    top = k.top ∙ sym h.top;
    clause = k.clause ∙ sym h.clause;
    hoisted = equal-part (looked_at (scopes us)) (looked_at (scopes vs)) (ap (λ ns. looked_at ns) (k.scoped ∙ sym h.scoped));
    first = equal-part (innermost (scopes us)) (innermost (scopes vs)) (ap (λ ns. innermost ns) (k.scoped ∙ sym h.scoped));
    bound = λ x. subst (λ (ns : List Name). OwnedPart false (bound_names us x) ns) (sym (k.bound x ∙ sym (h.bound x))) (owned-self (bound_names us x));
    declares = λ x. subst (λ (ns : List Name). OwnedPart false (declaration_names us x) ns) (sym (k.declares x ∙ sym (h.declares x))) (owned-self (declaration_names us x));
    private = λ x. plain-private us vs h.key k.key x;
  }

  chain-parent : {names : Text → List Name} (us vs : List Ancestor) → Chain up names us → Chain up names vs → Parent false us vs
  chain-parent us vs h k = same_parent (k.parent ∙ sym h.parent)

  pub same-tree : {names : Text → List Name} (us vs : List Ancestor) → Chain up names us → Chain up names vs → (t : Tree) → claims is_owned vs t ≡ claims is_owned us t
  same-tree us vs h k t = same-parts (claims-fit us vs (chain-fit us vs h k) (chain-parent us vs h k) t)

  pub same-field : {names : Text → List Name} (us vs : List Ancestor) → Chain up names us → Chain up names vs → (f : Field) → claims_by is_owned vs f ≡ claims_by is_owned us f
  same-field us vs h k f = same-parts (claims-by-fit us vs (chain-fit us vs h k) (chain-parent us vs h k) f)

  pub same-trees : {names : Text → List Name} (us vs : List Ancestor) → Chain up names us → Chain up names vs → (ts : Trees) → claims_all is_owned vs ts ≡ claims_all is_owned us ts
  same-trees us vs h k ts = same-parts (claims-all-fit us vs (chain-fit us vs h k) (chain-parent us vs h k) ts)

  -- THE CHAINS

  pub in-pattern : (names : Text → List Name) (us : List Ancestor) (l : Label) (fs : Fields) → Chain up names us → Chain up names (above ObjectPattern l fs 0 0 ∷ us)
  in-pattern names us l fs h = record { module_around = h.module_around; top = refl; clause = refl; scoped = h.scoped; key = refl; parent = refl; declares = λ x. refl; bound = h.bound }

  pub in-value : (names : Text → List Name) (us : List Ancestor) (l : Label) (fs : Fields) → Chain up names us → Chain up names (above PatternProperty l fs 1 0 ∷ us)
  in-value names us l fs h = record { module_around = h.module_around; top = refl; clause = refl; scoped = h.scoped; key = refl; parent = refl; declares = λ x. refl; bound = h.bound }

  pub in-key : (names : Text → List Name) (us : List Ancestor) (l : Label) (fs : Fields) → Chain up names us → Chain up no_names (above PatternProperty l fs 0 0 ∷ us)
  in-key names us l fs h = record { module_around = h.module_around; top = refl; clause = refl; scoped = h.scoped; key = refl; parent = refl; declares = λ x. refl; bound = λ x. refl }

  pub in-target : (names : Text → List Name) (us : List Ancestor) (l : Label) (fs : Fields) → Chain up names us → Chain up names (above AssignmentPattern l fs 0 0 ∷ us)
  in-target names us l fs h = record { module_around = h.module_around; top = refl; clause = refl; scoped = h.scoped; key = refl; parent = refl; declares = λ x. refl; bound = h.bound }

  pub in-rest : (names : Text → List Name) (us : List Ancestor) (l : Label) (fs : Fields) → Chain up names us → Chain up names (above RestElement l fs 0 0 ∷ us)
  in-rest names us l fs h = record { module_around = h.module_around; top = refl; clause = refl; scoped = h.scoped; key = refl; parent = refl; declares = λ x. refl; bound = h.bound }

-- LISTS of names, with those of a temporary more

module _ {X : Type 0} where
  pub source-old : (gs es : List X) → es ≡ [] → gs ++ (es ++ []) ≡ gs
  source-old gs es e = (λ i. gs ++ (e i ++ [])) ∙ append-nil gs

  pub source-new : (ns gs es : List X) → es ≡ [] → (ns ++ (es ++ [])) ++ ((gs ++ []) ++ []) ≡ ns ++ gs
  source-new ns gs es e = λ i. source-old ns es e i ++ append-nil (append-nil gs i) i

  pub nested-old : (bs ks qs cs : List X) → ((bs ++ ((ks ++ (qs ++ [])) ++ cs)) ++ []) ++ [] ≡ (bs ++ ks) ++ (qs ++ cs)
  nested-old bs ks qs cs = simp (append-nil, append_assoc) refl

  pub nested-new : (bs ks ns qs cs : List X) → (((bs ++ ((ks ++ (ns ++ [])) ++ [])) ++ []) ++ []) ++ ((qs ++ []) ++ cs) ≡ (bs ++ ks) ++ (ns ++ (qs ++ cs))
  nested-new bs ks ns qs cs = simp (append-nil, append_assoc) refl

  pub key-old : (bs ks ws cs : List X) → ((bs ++ ((ks ++ (ws ++ [])) ++ cs)) ++ []) ++ [] ≡ bs ++ (ks ++ (ws ++ cs))
  key-old bs ks ws cs = simp (append-nil, append_assoc) refl

  pub key-new : (bs ns ks ws cs : List X) → ((bs ++ []) ++ []) ++ ((ns ++ (ks ++ [])) ++ (((((ws ++ []) ++ cs) ++ []) ++ []) ++ [])) ≡ bs ++ (ns ++ (ks ++ (ws ++ cs)))
  key-new bs ns ks ws cs = simp (append-nil, append_assoc) refl

  pub taken-old : (ps ts : List X) → ((ps ++ ((ts ++ []) ++ [])) ++ []) ++ [] ≡ ps ++ ts
  taken-old ps ts = simp append-nil refl

  pub front-new : (ps : List X) → ((ps ++ []) ++ []) ++ [] ≡ ps
  front-new ps = simp append-nil refl

  pub last-new : (ts hs : List X) → hs ≡ [] → (ts ++ (hs ++ [])) ++ [] ≡ ts
  last-new ts hs e = λ i. append-nil (source-old ts hs e i) i
