-- What is written of temporaries: `var` declarations before a list's statements and in the body of an arrow. Fresh names more are
-- declared, and the rules of declared names are kept.
use Rattle.std.proofs.Common.{◌≡◌, ℕ, refl, sym, ap, subst, ◌∙◌, List, [], ◌∷◌, ◌++◌, filter, map, cond}
use Rattle.std.specs.Prelude.{Bool, true, false, Option, Some, None, codes, if◌then◌else◌}
use Rattle.std.proofs.lemmas.List.{append-nil, append_assoc, map-append}
use Rattle.es_tree.specs.Ancestors.{Ancestor, scopes, stands_in}
use Rattle.es_tree.specs.DeclaredNames.{Name, bound_names, declared, export_name, exports_of, name, var_names}
use Rattle.es_tree.specs.HasForm.{has_form}
use Rattle.es_tree.specs.Names.{first_text}
use Rattle.es_tree.specs.Tree.{Tree, node, Label, Fields, done, ◌then◌, one, many, Trees, empty, ◌before◌, kind_of, trees}
use Rattle.es_tree.specs.Words.{Text}
use Rattle.es_tree.specs.declared.ast_type.AstType.TheVariants.{ArrowFunctionExpression, ExportDefaultDeclaration, ExportNamedDeclaration, FunctionBody, Identifier, MethodDefinition, PrivateIdentifier, PropertyDefinition, ReturnStatement, StringLiteral, VariableDeclaration}
use Rattle.es_tree.specs.declared.place.Namespace.TheVariants.{Scope}
use Rattle.es_tree.specs.declared.table.Sort.TheVariants.{Expression as s-Expression}
use Rattle.es_tree.proofs.NodeForm.{node_form}
use Rattle.es_resolution.specs.Declarations.{Bound}
use Rattle.es_steps.specs.Nodes.{declarator, joined_trees, made, return_node, this_statement}
use Rattle.es_steps.specs.Open.{Additions, Pending, after_imports, declaration, import_statement, is_import, no_additions, nothing_pending, pending_statements, whole_list, with_this, with_vars, written, written_body}
use Rattle.es_steps.proofs.FormLists.{IsPlain, plain-none}
use Rattle.es_steps.proofs.Kept.{Each}
use Rattle.es_valid_names.proofs.Claims.{Around, Clear, ClearAll, Stand, above, claims, claims_all, elsewhere, is_owned, push}
use Rattle.es_valid_names.proofs.Grown.{AllNew, AllWeak, Grown, IsNew, no_list, new_list, grown-both, grown-self}
use Rattle.es_valid_names.proofs.Mute.{Free, expression-kind, free-append, free-exported, is_member, mute-expression}

-- EXPRESSIONS at places that bind nothing

record Plain (up : List Ancestor) (t : Tree) : Type 0 where
  member : is_member (kind_of t) ≡ false
  declares : Free (declared up t)

plain-expression : (up : List Ancestor) (t : Tree) → has_form s-Expression t ≡ true → ((x : Text) → Free (bound_names up x)) → Plain up t
plain-expression up (node Identifier l fs) f b = record { member = refl; declares = free-append (bound_names up (first_text l.texts)) _ (b (first_text l.texts)) (free-exported up (first_text l.texts)) }
plain-expression up (node StringLiteral l fs) f b = record { member = refl; declares = free-exported up (first_text l.texts) }
plain-expression up (node PrivateIdentifier l fs) f b = absurd (let no : false ≡ true = (node_form s-Expression PrivateIdentifier l fs f).sort in cc no)
plain-expression up (node MethodDefinition l fs) f b = absurd (let no : false ≡ true = (node_form s-Expression MethodDefinition l fs f).sort in cc no)
plain-expression up (node PropertyDefinition l fs) f b = absurd (let no : false ≡ true = (node_form s-Expression PropertyDefinition l fs f).sort in cc no)
plain-expression up (node ExportDefaultDeclaration l fs) f b = absurd (let no : false ≡ true = (node_form s-Expression ExportDefaultDeclaration l fs f).sort in cc no)
plain-expression up (node _ l fs) f b = record { member = refl; declares = tt }

pub expression-mute : (up : List Ancestor) (t : Tree) → has_form s-Expression t ≡ true → ((x : Text) → Free (bound_names up x)) → claims is_owned up t ≡ []
expression-mute up t f b = let p = plain-expression up t f b in mute-expression s-Expression up t (expression-kind t f) p.member f p.declares

-- FRESH NAMES

abbrev var_label : Label
var_label = made (Some (codes "var") ∷ []) []

module _ (used used' : Text → Bool) where
  abbrev pub IsFresh : Bound → Type 0
  IsFresh b = (used b.name ≡ false) × (used' b.name ≡ true)

  -- each that is owned is new
  record IsFreshName (n : Name) : Type 0 where
    new : is_owned n ≡ true → IsNew used used' n
    weak : is_owned n ≡ true → n.lexical ≡ false

  abbrev AllFresh : List Name → Type 0
  AllFresh [] = Unit {0}
  AllFresh (n ∷ ns) = IsFreshName n × AllFresh ns

  fresh-append : (xs ys : List Name) → AllFresh xs → AllFresh ys → AllFresh (xs ++ ys)
  fresh-append [] ys h k = k
  fresh-append (x ∷ xs) ys h k = (h.0, fresh-append xs ys h.1 k)

  record NewLists (xs : List Name) : Type 0 where
    new : AllNew used used' xs
    weak : AllWeak xs

  new-filter : (xs : List Name) → AllFresh xs → NewLists (filter is_owned xs)
  new-filter [] h = record { new = tt; weak = tt }
  new-filter (x ∷ xs) h = at (is_owned x) h.0.new h.0.weak (new-filter xs h.1)
    where
      at : (b : Bool) → (b ≡ true → IsNew used used' x) → (b ≡ true → x.lexical ≡ false) → NewLists (filter is_owned xs) → NewLists (cond b (x ∷ filter is_owned xs) (filter is_owned xs))
      at true f g r = record { new = (f refl, r.new); weak = (g refl, r.weak) }
      at false f g r = r

  grown-push : (g : List Name) → NewLists g → Grown used used' [] (push g [])
  grown-push [] h = no_list
  grown-push (n ∷ ns) h = new_list (n ∷ ns) h.new h.weak no_list

  fresh-vars : (ns : List ℕ) (b : Bound) → IsFresh b → AllFresh (map (λ n. name Scope n b.name false) ns)
  fresh-vars [] b h = tt
  fresh-vars (n ∷ ns) b h = (record { new = λ e. record { space = refl; fresh = h.0; known = h.1 }; weak = λ e. refl }, fresh-vars ns b h)

  fresh-exports : (up : List Ancestor) (x : Text) → AllFresh (exports_of up x)
  fresh-exports up x = at (stands_in ExportNamedDeclaration 0 up)
    where
      at : (b : Bool) → AllFresh (if b then export_name x else [])
      at true = (record { new = λ e. absurd (cc e); weak = λ e. absurd (cc e) }, tt)
      at false = tt

  -- DECLARATORS below a declaration

  abbrev pub below_var : Fields → List Ancestor → List Ancestor
  below_var fs up = above VariableDeclaration var_label fs 0 0 ∷ up

  declarator-new : (ds : Trees) (up : List Ancestor) (b : Bound) → IsFresh b → Grown used used' [] (claims is_owned (below_var (many ds then done) up) (declarator b))
  declarator-new ds up b h = grown-both (grown-push _ (new-filter ((var_names up b.name ++ exports_of up b.name) ++ []) (fresh-append (var_names up b.name ++ exports_of up b.name) [] (fresh-append (var_names up b.name) (exports_of up b.name) (fresh-vars (scopes up) b h) (fresh-exports up b.name)) tt))) no_list

  abbrev DeclaratorClaims : List Ancestor → List Bound → List (List Name)
  DeclaratorClaims up bs = claims_all is_owned (below_var (many empty then done) up) (trees (map declarator bs))

  all-new : (up : List Ancestor) (bs : List Bound) → Each IsFresh bs → Grown used used' [] (DeclaratorClaims up bs)
  all-new up [] h = no_list
  all-new up (b ∷ bs) h = grown-both (declarator-new empty up b h.0) (all-new up bs h.1)

  more-declarators : (up : List Ancestor) (ns bs : List Bound) → Each IsFresh bs → Grown used used' (DeclaratorClaims up ns) (DeclaratorClaims up (ns ++ bs))
  more-declarators up [] bs h = all-new up bs h
  more-declarators up (n ∷ ns) bs h = grown-both (grown-self (claims is_owned (below_var (many empty then done) up) (declarator n))) (more-declarators up ns bs h)

  -- THE STATEMENT before a list

  more-statement : (up : List Ancestor) (ns bs : List Bound) → Each IsFresh bs → Grown used used' (claims_all is_owned up (declaration (codes "var") (map declarator ns) empty)) (claims_all is_owned up (declaration (codes "var") (map declarator (ns ++ bs)) empty))
  more-statement up [] [] h = no_list
  more-statement up [] (b ∷ bs) h = grown-both (grown-both (all-new up (b ∷ bs) h) no_list) no_list
  more-statement up (n ∷ ns) bs h = grown-both (grown-both (more-declarators up (n ∷ ns) bs h) no_list) no_list

  pub joined-claims : (up : List Ancestor) (bs ts : Trees) → claims_all is_owned up (joined_trees bs ts) ≡ claims_all is_owned up bs ++ claims_all is_owned up ts
  joined-claims up empty ts = refl
  joined-claims up (b before bs) ts = ap (λ gs. claims is_owned up b ++ gs) (joined-claims up bs ts) ∙ sym (append_assoc (claims is_owned up b) (claims_all is_owned up bs) (claims_all is_owned up ts))

  grown-joined : (up : List Ancestor) (bs cs ts us : Trees) → Grown used used' (claims_all is_owned up bs) (claims_all is_owned up cs) → Grown used used' (claims_all is_owned up ts) (claims_all is_owned up us) → Grown used used' (claims_all is_owned up (joined_trees bs ts)) (claims_all is_owned up (joined_trees cs us))
  grown-joined up bs cs ts us h k =
      subst (λ (gs : List (List Name)). Grown used used' gs (claims_all is_owned up (joined_trees cs us))) (sym (joined-claims up bs ts))
      (subst (λ (gs : List (List Name)). Grown used used' (claims_all is_owned up bs ++ claims_all is_owned up ts) gs) (sym (joined-claims up cs us)) (grown-both h k))

  abbrev pub AllGrown : List Ancestor → Trees → Trees → Type 0
  AllGrown up ts us = Grown used used' (claims_all is_owned up ts) (claims_all is_owned up us)

  -- with what stands before their first statements that are no imports
  abbrev pub AroundGrown : Trees → Trees → Type 0
  AroundGrown ts us = (up : List Ancestor) (bs cs : Trees) → AllGrown up bs cs → AllGrown up (after_imports bs ts) (after_imports cs us)

  pub around-more : (t u : Tree) (ts us : Trees) → is_import u ≡ is_import t → ((up : List Ancestor) → Grown used used' (claims is_owned up t) (claims is_owned up u)) → ((up : List Ancestor) → Grown used used' (claims_all is_owned up ts) (claims_all is_owned up us)) → AroundGrown ts us → AroundGrown (t before ts) (u before us)
  around-more t u ts us e one_more all_more h up bs cs g = at (is_import t) (is_import u) e
    where
      at : (v w : Bool) → w ≡ v → Grown used used' (claims_all is_owned up (if v then t before after_imports bs ts else joined_trees bs (t before ts))) (claims_all is_owned up (if w then u before after_imports cs us else joined_trees cs (u before us)))
      at true true e = grown-both (one_more up) (h up bs cs g)
      at false false e = grown-joined up bs cs (t before ts) (u before us) g (grown-both (one_more up) (all_more up))
      at true false e = absurd (cc e)
      at false true e = absurd (cc e)

  pub around-same : (ts : Trees) → AroundGrown ts ts
  around-same empty up bs cs g = g
  around-same (t before ts) up bs cs g = around-more t t ts ts refl (λ vp. grown-self (claims is_owned vp t)) (λ vp. grown-self (claims_all is_owned vp ts)) (around-same ts) up bs cs g

  -- LISTS

  pub with-more : (p q : Pending) (ns bs : List Bound) → p ≡ with_vars ns nothing_pending → q ≡ with_vars bs p → q ≡ with_vars (ns ++ bs) nothing_pending
  with-more p q ns bs e d = d ∙ ap (λ r. with_vars bs r) e ∙ ap (λ ds. record { vars = ds; lets = [] }) (sym (map-append declarator ns bs))

  vars-grown : (p q : Pending) (bs : List Bound) → IsPlain p → q ≡ with_vars bs p → Each IsFresh bs → (up : List Ancestor) → AllGrown up (written p empty) (written q empty)
  vars-grown p q bs h e fresh up =
      subst (λ (r : Pending). AllGrown up (written r empty) (written q empty)) (sym h.are)
      (subst (λ (r : Pending). AllGrown up (written (with_vars h.names nothing_pending) empty) (written r empty)) (sym (with-more p q h.names bs h.are e)) (more-statement up h.names bs fresh))

  -- the name of `this`, which may be a new one: `var x = this;` declares what `var x;` does
  abbrev pub ThisGrown : Option Bound → Option Bound → Type 0
  ThisGrown x y = (up : List Ancestor) (ts us : Trees) → AllGrown up ts us → AllGrown up (with_this x ts) (with_this y us)

  pub same-this : (x y : Option Bound) → y ≡ x → ThisGrown x y
  same-this x y e up ts us g = subst (λ (z : Option Bound). AllGrown up (with_this x ts) (with_this z us)) (sym e) (at x)
    where
      at : (x : Option Bound) → AllGrown up (with_this x ts) (with_this x us)
      at None = g
      at (Some b) = grown-both (grown-self (claims is_owned up (this_statement b))) g

  pub new-this : (b : Bound) → IsFresh b → ThisGrown None (Some b)
  new-this b h up ts us g = grown-both (subst (λ (hs : List (List Name)). Grown used used' [] hs) (append-nil (claims is_owned up (this_statement b))) (vars-grown nothing_pending (with_vars (b ∷ []) nothing_pending) (b ∷ []) plain-none refl (h, tt) up)) g

  -- what is to be written at the program's top
  pub record TopGrown (a b : Additions) : Type 0 where
    pub imports : (up : List Ancestor) (ts us : Trees) → AllGrown up ts us → AllGrown up (joined_trees (trees (map import_statement a.imports)) ts) (joined_trees (trees (map import_statement b.imports)) us)
    pub excluded : (up : List Ancestor) (ts us : Trees) → AllGrown up ts us → AllGrown up (declaration (codes "const") a.excluded ts) (declaration (codes "const") b.excluded us)

  pub same-top : (a b : Additions) → b ≡ a → TopGrown a b
  same-top a b e = subst (λ (c : Additions). TopGrown a c) (sym e) (record { imports = λ up ts us g. let is = trees (map import_statement a.imports) in grown-joined up is is ts us (grown-self (claims_all is_owned up is)) g; excluded = λ up ts us. at up ts us a.excluded })
    where
      at : (up : List Ancestor) (ts us : Trees) (ds : List Tree) → AllGrown up ts us → AllGrown up (declaration (codes "const") ds ts) (declaration (codes "const") ds us)
      at up ts us [] g = g
      at up ts us (d ∷ ds) g = grown-both (grown-self (claims is_owned up (node VariableDeclaration (made (Some (codes "const") ∷ []) []) (many (trees (d ∷ ds)) then done)))) g

  pub list-grown : (p q : Pending) (x y : Option Bound) (a b : Additions) (bs : List Bound) (ts us : Trees) → IsPlain p → q ≡ with_vars bs p → ThisGrown x y → TopGrown a b → Each IsFresh bs → AroundGrown ts us → (up : List Ancestor) → AllGrown up (whole_list p x a ts) (whole_list q y b us)
  list-grown p q x y a b bs ts us h e this top fresh g up = g up (pending_statements p x a) (pending_statements q y b) (top.excluded up _ _ (this up _ _ (top.imports up _ _ (vars-grown p q bs h e fresh up))))

  -- BODIES OF ARROWS

  module _ (l : Label) (all : Fields) (m : ℕ) (up : List Ancestor) where
    abbrev arrow : List Ancestor
    arrow = above ArrowFunctionExpression l all 1 m ∷ up

    abbrev in_body : List Ancestor
    in_body = above FunctionBody (made [] []) done 1 0 ∷ arrow

    abbrev BodyClaims : List Bound → List (List Name)
    BodyClaims [] = []
    BodyClaims (n ∷ ns) = ((DeclaratorClaims in_body (n ∷ ns) ++ []) ++ ([] ++ [])) ++ []

    body-claims : (ns : List Bound) (e : Tree) → has_form s-Expression e ≡ true → claims is_owned arrow (written_body (with_vars ns nothing_pending) e) ≡ BodyClaims ns
    body-claims [] e f = expression-mute arrow e f (λ x. tt)
    body-claims (n ∷ ns) e f = λ i. ((DeclaratorClaims in_body (n ∷ ns) ++ []) ++ ((expression-mute (above ReturnStatement (made [] []) (one e then done) 0 0 ∷ in_body) e f (λ x. tt) i ++ []) ++ [])) ++ []

    more-body : (ns bs : List Bound) → Each IsFresh bs → Grown used used' (BodyClaims ns) (BodyClaims (ns ++ bs))
    more-body [] [] h = no_list
    more-body [] (b ∷ bs) h = grown-both (grown-both (grown-both (all-new in_body (b ∷ bs) h) no_list) no_list) no_list
    more-body (n ∷ ns) bs h = grown-both (grown-both (grown-both (more-declarators in_body (n ∷ ns) bs h) no_list) no_list) no_list

    pub body-grown : (p q : Pending) (bs : List Bound) (e u : Tree) → IsPlain p → q ≡ with_vars bs p → Each IsFresh bs → has_form s-Expression e ≡ true → has_form s-Expression u ≡ true → Grown used used' (claims is_owned arrow (written_body p e)) (claims is_owned arrow (written_body q u))
    body-grown p q bs e u h d fresh f g =
        let ns = h.names in
        let earlier : claims is_owned arrow (written_body p e) ≡ BodyClaims ns = (λ i. claims is_owned arrow (written_body (h.are i) e)) ∙ body-claims ns e f in
        let after : claims is_owned arrow (written_body q u) ≡ BodyClaims (ns ++ bs) = (λ i. claims is_owned arrow (written_body (with-more p q ns bs h.are d i) u)) ∙ body-claims (ns ++ bs) u g in
        subst (λ (gs : List (List Name)). Grown used used' gs (claims is_owned arrow (written_body q u))) (sym earlier) (subst (λ (gs : List (List Name)). Grown used used' (BodyClaims ns) gs) (sym after) (more-body ns bs fresh))

-- WHAT IS WRITTEN keeps the rules

module _ (c : Around) (st : Stand) where
  clear-declarators : (bs : List Bound) → ClearAll c elsewhere (trees (map declarator bs))
  clear-declarators [] = tt
  clear-declarators (b ∷ bs) = ((tt, refl, ((tt, refl, tt), (tt, tt))), clear-declarators bs)

  clear-declaration : (bs : List Bound) (ts : Trees) → ClearAll c st ts → ClearAll c st (declaration (codes "var") (map declarator bs) ts)
  clear-declaration [] ts h = h
  clear-declaration (b ∷ bs) ts h = ((tt, refl, (clear-declarators (b ∷ bs), tt)), h)

  clear-this : (x : Option Bound) (ts : Trees) → ClearAll c st ts → ClearAll c st (with_this x ts)
  clear-this None ts h = h
  clear-this (Some b) ts h = ((tt, refl, (((tt, refl, ((tt, refl, tt), ((tt, refl, tt), tt))), tt), tt)), h)

  clear-joined : (bs ts : Trees) → ClearAll c st bs → ClearAll c st ts → ClearAll c st (joined_trees bs ts)
  clear-joined empty ts h k = k
  clear-joined (b before bs) ts h k = (h.0, clear-joined bs ts h.1 k)

  joined-clear : (bs ts : Trees) → ClearAll c st (joined_trees bs ts) → ClearAll c st ts
  joined-clear empty ts h = h
  joined-clear (b before bs) ts h = joined-clear bs ts h.1

  clear-after : (bs ts : Trees) → ClearAll c st bs → ClearAll c st ts → ClearAll c st (after_imports bs ts)
  clear-after bs empty h k = h
  clear-after bs (t before ts) h k = at (is_import t) (clear-after bs ts h k.1)
    where
      at : (v : Bool) → ClearAll c st (after_imports bs ts) → ClearAll c st (if v then t before after_imports bs ts else joined_trees bs (t before ts))
      at true r = (k.0, r)
      at false r = clear-joined bs (t before ts) h k

  pub after-clear : (bs ts : Trees) → ClearAll c st (after_imports bs ts) → ClearAll c st ts
  after-clear bs empty h = tt
  after-clear bs (t before ts) h = at (is_import t) (λ k. after-clear bs ts k) h
    where
      at : (v : Bool) → (ClearAll c st (after_imports bs ts) → ClearAll c st ts) → ClearAll c st (if v then t before after_imports bs ts else joined_trees bs (t before ts)) → ClearAll c st (t before ts)
      at true r k = (k.0, r k.1)
      at false r k = joined-clear bs (t before ts) k

  -- what is to be written at the program's top
  pub record TopClear (a : Additions) : Type 0 where
    pub imports : ClearAll c st (trees (map import_statement a.imports))
    pub excluded : (ts : Trees) → ClearAll c st ts → ClearAll c st (declaration (codes "const") a.excluded ts)

  -- a list with what is pending for it
  pub list-clear : (p : Pending) (x : Option Bound) (a : Additions) (ts : Trees) (bs : List Bound) → p ≡ with_vars bs nothing_pending → TopClear a → ClearAll c st ts → ClearAll c st (whole_list p x a ts)
  list-clear p x a ts bs e top k =
      let vars = subst (λ (q : Pending). ClearAll c st (written q empty)) (sym e) (clear-declaration bs empty tt) in
      clear-after (pending_statements p x a) ts (top.excluded _ (clear-this x _ (clear-joined (trees (map import_statement a.imports)) (written p empty) top.imports vars))) k

  -- where nothing is for the program's top
  pub whole-clear : (p : Pending) (x : Option Bound) (a : Additions) (ts : Trees) (bs : List Bound) → p ≡ with_vars bs nothing_pending → a ≡ no_additions → ClearAll c st ts → ClearAll c st (whole_list p x a ts)
  whole-clear p x a ts bs e g k = list-clear p x a ts bs e (subst (λ (b : Additions). TopClear b) (sym g) (record { imports = tt; excluded = λ ts h. h })) k

module _ (c : Around) where
  clear-with : (bs : List Bound) (e : Tree) → Clear c elsewhere e → Clear c elsewhere (written_body (with_vars bs nothing_pending) e)
  clear-with [] e h = h
  clear-with (b ∷ bs) e h = (tt, refl, (tt, (clear-declaration c elsewhere (b ∷ bs) (return_node e before empty) ((tt, refl, (h, tt)), tt), tt)))

  clear-without : (bs : List Bound) (e : Tree) → Clear c elsewhere (written_body (with_vars bs nothing_pending) e) → Clear c elsewhere e
  clear-without [] e h = h
  clear-without (b ∷ bs) e h = h.2.1.0.1.0.2.0

  pub body-clear : (p : Pending) (e : Tree) (bs : List Bound) → p ≡ with_vars bs nothing_pending → Clear c elsewhere e → Clear c elsewhere (written_body p e)
  body-clear p e bs d k = subst (λ (q : Pending). Clear c elsewhere (written_body q e)) (sym d) (clear-with bs e k)

  pub clear-body : (p : Pending) (e : Tree) → IsPlain p → Clear c elsewhere (written_body p e) → Clear c elsewhere e
  clear-body p e h k = clear-without h.names e (subst (λ (q : Pending). Clear c elsewhere (written_body q e)) h.are k)
