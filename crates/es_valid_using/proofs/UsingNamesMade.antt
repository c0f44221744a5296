-- What is declared by what `using` becomes: the same names as constants, and the name of the context by `var`.
use Rattle.std.proofs.Common.{◌≡◌, ℕ, refl, sym, ap, subst, ◌∙◌, List, [], ◌∷◌, ◌++◌, append-nil, filter, map}
use Rattle.std.specs.Prelude.{Bool, true, false, ◌&&◌, Some, None, codes, if◌then◌else◌}
use Rattle.std.proofs.lemmas.Bool.{and_parts}
use Rattle.es_tree.specs.Ancestors.{Ancestor, ancestor, is_module, scopes}
use Rattle.es_tree.specs.CoreStaticRules.{is_lexical}
use Rattle.es_tree.specs.DeclaredNames.{Name, declaration_names, exports_of, is_class_key, lexical_names, name, names_in_scope, private_names, slots, var_names}
use Rattle.es_tree.specs.HasForm.{has_form, trees_form}
use Rattle.es_tree.specs.Names.{first_text}
use Rattle.es_tree.specs.Tree.{Tree, node, Label, Fields, done, ◌then◌, one, many, Trees, empty, ◌before◌, kind_of}
use Rattle.es_tree.specs.Words.{Text}
use Rattle.es_tree.specs.declared.ast_type.AstType.TheVariants.{BlockStatement, CallExpression, MethodDefinition, PropertyDefinition, TryStatement, VariableDeclaration, VariableDeclarator}
use Rattle.es_tree.specs.declared.place.Namespace.TheVariants.{PrivateNames}
use Rattle.es_tree.specs.declared.table.Sort.{Sort}
use Rattle.es_tree.specs.declared.table.Sort.TheVariants.{Expression as s-Expression, Statement as s-Statement, VariableDeclarator as s-VariableDeclarator}
use Rattle.es_tree.proofs.NodeForm.{node_form}
use Rattle.es_resolution.specs.Declarations.{Bound}
use Rattle.es_steps.specs.Nodes.{call_node, declaration_node, declarator_with, identifier, made, member_node, word}
use Rattle.es_steps.specs.Open.{no_additions, nothing_pending, with_vars}
use Rattle.es_steps.specs.UsingBlocks.{Constants, UsedAll, method_call, protected}
use Rattle.es_steps.specs.UsingBlocks.Constants.{ended, stays, using}
use Rattle.es_steps.specs.UsingBlocks.UsedAll.{no_more, uses}
use Rattle.es_steps.proofs.FormLists.{first-formed, plain-none}
use Rattle.es_valid_names.proofs.Claims.{above, claims, claims_all, is_owned}
use Rattle.es_valid_names.proofs.ClearPending.{IsFresh, around-same, expression-mute, list-grown, same-this, same-top}
use Rattle.es_valid_names.proofs.Grown.{Grown}
use Rattle.es_valid_names.proofs.Mute.{free-exports, is_member}
use Rattle.es_valid_using.proofs.UsingNamesLists.{Moved, moved-both, moved-grown, no_list}
use Rattle.es_valid_using.proofs.UsingNamesPlaces.{Less, Near, claims-near, less-free, less-self, near-in}

-- FORM of what is declared by `using`

pub statement-member : (t : Tree) → has_form s-Statement t ≡ true → is_member (kind_of t) ≡ true → ⊥
statement-member (node MethodDefinition l fs) f e = absurd (let no : false ≡ true = (node_form s-Statement MethodDefinition l fs f).sort in cc no)
statement-member (node PropertyDefinition l fs) f e = absurd (let no : false ≡ true = (node_form s-Statement PropertyDefinition l fs f).sort in cc no)
statement-member (node _ l fs) f e = absurd (cc e)

abbrev pub AreDeclarators : Trees → Type 0
AreDeclarators ds = trees_form s-VariableDeclarator s-VariableDeclarator ds ≡ true

pub declarators-form : (c : Bound) (a : Sort) (l : Label) (ds es : Trees) → UsedAll c ds es → has_form a (node VariableDeclaration l (many ds then done)) ≡ true → AreDeclarators ds
declarators-form c a l ds es no_more f = refl
declarators-form c a l ds es (uses {l = k} {x = x} {e = e} {ds = rest} u) f = (and_parts (trees_form s-VariableDeclarator s-VariableDeclarator ds) true (node_form a VariableDeclaration l (many ds then done) f).children).0

pub value-form : (l : Label) (x e : Tree) → has_form s-VariableDeclarator (node VariableDeclarator l (one x then one e then done)) ≡ true → has_form s-Expression e ≡ true
value-form l x e f = (and_parts (has_form s-Expression e) true (and_parts _ (has_form s-Expression e && true) (node_form s-VariableDeclarator VariableDeclarator l (one x then one e then done) f).children).1).0

-- DECLARATIONS by words that are no `var`

pub unkeyed : (a : Ancestor) (up : List Ancestor) (x : Text) → is_class_key (a ∷ []) ≡ false → private_names (a ∷ up) x ≡ []
unkeyed a [] x e = refl
unkeyed a (c ∷ up) x e = none (is_class_key (a ∷ [])) (name PrivateNames c.number x false ∷ map (λ s. name s c.number x true) (slots a)) e
  where
    none : (v : Bool) (xs : List Name) → v ≡ false → (if v then xs else []) ≡ []
    none true xs e = absurd (cc e)
    none false xs e = refl

module _ {go : Bool} (up vp : List Ancestor) (h : Near go up vp) where
  pub near-declaration : (l m : Label) → is_lexical (first_text l.texts) ≡ true → is_lexical (first_text m.texts) ≡ true → Near go (ancestor VariableDeclaration l done 0 0 ∷ up) (ancestor VariableDeclaration m done 0 0 ∷ vp)
  near-declaration l m e d = record {
    functions = λ x. h.others.heads x true;
    others = record {
      vars = h.others.vars;
      heads = h.others.heads;
      in_module = h.others.in_module;
      catch = refl;
      bound = λ x. less-self [];
      declaration = λ x. subst (λ (v : Bool). Less go ((if v then lexical_names up x else var_names up x) ++ exports_of up x) (declaration_names (ancestor VariableDeclaration m done 0 0 ∷ vp) x)) (sym e) (subst (λ (v : Bool). Less go (lexical_names up x ++ exports_of up x) ((if v then lexical_names vp x else var_names vp x) ++ exports_of vp x)) (sym d) (less-free (lexical_names up x) (lexical_names vp x) (exports_of up x) (exports_of vp x) (free-exports up x) (free-exports vp x) (h.others.heads x true)));
      private = λ x. ap (λ ns. filter is_owned ns) (unkeyed (ancestor VariableDeclaration m done 0 0) vp x refl ∙ sym (unkeyed (ancestor VariableDeclaration l done 0 0) up x refl));
    };
  }

-- in blocks, where their scopes are alike
pub near-blocks : (go : Bool) (m n : Label) (i j : ℕ) (us vs : List Ancestor) → ((x : Text) → filter is_owned (var_names (ancestor BlockStatement n done 0 j ∷ vs) x) ≡ filter is_owned (var_names (ancestor BlockStatement m done 0 i ∷ us) x)) → ((x : Text) (b : Bool) → Less go (names_in_scope (scopes (ancestor BlockStatement m done 0 i ∷ us)) x b) (names_in_scope (scopes (ancestor BlockStatement n done 0 j ∷ vs)) x b)) → is_module vs ≡ is_module us → Near go (ancestor BlockStatement m done 0 i ∷ us) (ancestor BlockStatement n done 0 j ∷ vs)
near-blocks go m n i j us vs vars heads same = record {
  functions = λ x. heads x true;
  others = record {
    vars = vars;
    heads = heads;
    in_module = same;
    catch = refl;
    bound = λ x. less-self [];
    declaration = λ x. less-self [];
    private = λ x. ap (λ ns. filter is_owned ns) (unkeyed (ancestor BlockStatement n done 0 j) vs x refl ∙ sym (unkeyed (ancestor BlockStatement m done 0 i) us x refl));
  };
}

module _ {used used' : Text → Bool} {go : Bool} (c : Bound) where
  -- a declarator: the value declares nothing
  declarator-moved : (up vp : List Ancestor) → Near go up vp → (l : Label) (x e : Tree) → has_form s-Expression e ≡ true → Moved used used' go (claims is_owned up (node VariableDeclarator l (one x then one e then done))) (claims is_owned vp (node VariableDeclarator l (one x then one (method_call c (codes "u") (e ∷ [])) then done)))
  declarator-moved up vp h l x e f =
      let fs : Fields = one x then one e then done in
      let gs : Fields = one x then one (method_call c (codes "u") (e ∷ [])) then done in
      let old = expression-mute (above VariableDeclarator l fs 1 0 ∷ up) e f (λ y. tt) in
      let new = expression-mute (above CallExpression (made [] (false ∷ [])) (one (member_node (identifier c) (codes "u")) then many (e before empty) then done) 1 0 ∷ (above VariableDeclarator l gs 1 0 ∷ vp)) e f (λ y. tt) in
      let names = claims-near {used = used} {used' = used'} (above VariableDeclarator l fs 0 0 ∷ up) (above VariableDeclarator l fs 0 0 ∷ vp) (near-in up vp h (above VariableDeclarator l fs 0 0) (λ d. absurd (cc d))) x (λ d. refl) in
      moved-both names (moved-both (subst (λ (hs : List (List Name)). Moved used used' go hs (claims is_owned (above VariableDeclarator l gs 1 0 ∷ vp) (method_call c (codes "u") (e ∷ [])))) (sym old) (subst (λ (hs : List (List Name)). Moved used used' go [] ((hs ++ []) ++ [])) (sym new) no_list)) no_list)

  declarators-moved : (up vp : List Ancestor) → Near go up vp → (ds es : Trees) → UsedAll c ds es → AreDeclarators ds → Moved used used' go (claims_all is_owned up ds) (claims_all is_owned vp es)
  declarators-moved up vp h ds es no_more f = no_list
  declarators-moved up vp h ds es (uses {l = l} {x = x} {e = e} {ds = ds'} {es = es'} u) f =
      let parts = first-formed s-VariableDeclarator (node VariableDeclarator l (one x then one e then done)) ds' f in
      moved-both (declarator-moved up vp h l x e (value-form l x e parts.0)) (declarators-moved up vp h ds' es' u parts.1)

  -- a declaration
  pub using-moved : (up vp : List Ancestor) → Near go up vp → (l : Label) (ds es : Trees) → l.texts ≡ Some (codes "using") ∷ [] → UsedAll c ds es → AreDeclarators ds → Moved used used' go (claims is_owned up (node VariableDeclaration l (many ds then done))) (claims is_owned vp (node VariableDeclaration (record l { texts = Some (codes "const") ∷ [] }) (many es then done)))
  using-moved up vp h l ds es e u f = moved-both (declarators-moved (ancestor VariableDeclaration l done 0 0 ∷ up) (ancestor VariableDeclaration (record l { texts = Some (codes "const") ∷ [] }) done 0 0 ∷ vp) (near-declaration up vp h l (record l { texts = Some (codes "const") ∷ [] }) (λ i. is_lexical (first_text (e i))) refl) ds es u f) no_list

  -- a list of statements
  pub constants-moved : (up vp : List Ancestor) → Near go up vp → (ts us : Trees) → Constants c ts us → trees_form s-Statement s-Statement ts ≡ true → Moved used used' go (claims_all is_owned up ts) (claims_all is_owned vp us)
  constants-moved up vp h ts us ended f = no_list
  constants-moved up vp h ts us (stays {t = t} {ts = ts'} {us = us'} e r) f =
      let parts = first-formed s-Statement t ts' f in
      moved-both (claims-near up vp h t (λ d. absurd (statement-member t parts.0 d))) (constants-moved up vp h ts' us' r parts.1)
  constants-moved up vp h ts us (using {l = l} {ds = ds} {es = es} {ts = ts'} {us = us'} e u r) f =
      let parts = first-formed s-Statement (node VariableDeclaration l (many ds then done)) ts' f in
      moved-both (using-moved up vp h l ds es e u (declarators-form c s-Statement l ds es u parts.0)) (constants-moved up vp h ts' us' r parts.1)

-- THE MADE STATEMENT

-- `var c = babelHelpers.usingCtx();`
abbrev pub context_node : Bound → Tree
context_node c = declaration_node (codes "var") (declarator_with (identifier c) (call_node (member_node (word (codes "babelHelpers")) (codes "usingCtx")) []) ∷ [])

-- above the statements in the made block
abbrev pub in_made : List Ancestor → List Ancestor
in_made up = ancestor BlockStatement (made [] []) done 0 0 ∷ (ancestor TryStatement (made [] []) done 0 0 ∷ up)

pub context-grown : (used used' : Text → Bool) (up : List Ancestor) (c : Bound) → IsFresh used used' c → Grown used used' [] (claims is_owned up (context_node c) ++ [])
context-grown used used' up c h = list-grown used used' nothing_pending (with_vars (c ∷ []) nothing_pending) None None no_additions no_additions (c ∷ []) empty empty plain-none refl (same-this used used' None None refl) (same-top used used' no_additions no_additions refl) (h, tt) (around-same used used' empty) up

pub protected-claims : (up : List Ancestor) (c u : Bound) (ts : Trees) → claims is_owned up (protected c u ts) ≡ claims is_owned (in_made up) (context_node c) ++ claims_all is_owned (in_made up) ts
protected-claims up c u ts = append-nil ((claims is_owned (in_made up) (context_node c) ++ claims_all is_owned (in_made up) ts) ++ []) ∙ append-nil (claims is_owned (in_made up) (context_node c) ++ claims_all is_owned (in_made up) ts)

-- what is declared in place of this
pub protected-moved : (used used' : Text → Bool) (go : Bool) (up : List Ancestor) (c u : Bound) (ts : Trees) (gs : List (List Name)) → IsFresh used used' c → Moved used used' go gs (claims_all is_owned (in_made up) ts) → Moved used used' go gs (claims is_owned up (protected c u ts))
protected-moved used used' go up c u ts gs h r =
    subst (λ (hs : List (List Name)). Moved used used' go gs hs) (sym (protected-claims up c u ts))
    (subst (λ (hs : List (List Name)). Moved used used' go gs (hs ++ claims_all is_owned (in_made up) ts)) (append-nil (claims is_owned (in_made up) (context_node c))) (moved-both (moved-grown (context-grown used used' (in_made up) c h)) r))
