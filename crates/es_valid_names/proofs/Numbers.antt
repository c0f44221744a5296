-- With the numbers of nodes and without: what a node with this number owns of the names that the visits of a tree declare.
use Rattle.std.proofs.Common.{◌≡◌, ◌==◌, ℕ, refl, sym, ap, ◌∙◌, List, [], ◌∷◌, ◌++◌, filter, map, cond}
use Rattle.std.specs.Prelude.{Bool, true, false, not, ◌&&◌, ◌||◌, if◌then◌else◌, bytes_eq, codes}
use Rattle.std.proofs.lemmas.Bool.{and_parts, eqb-true}
use Rattle.std.proofs.lemmas.List.{map-append}
use Rattle.es_tree.specs.Children.{child_at}
use Rattle.es_tree.specs.Ancestors.{Ancestor, is_boundary, is_module, leads_by, makes_scope, scopes, stands_in, is_scope}
use Rattle.es_tree.specs.CoreStaticRules.{is_lexical, is_name}
use Rattle.es_tree.specs.DeclaredNames.{Name, accessor_slots, bound_names, catch_names, constructor_names, declaration_names, declared, exported_names, exports_of, export_name, function_names, is_at_top, is_class_key, lexical_names, name, names_in_scope, parameter_names, private_names, slots, var_names}
use Rattle.es_tree.specs.HasForm.{same_type}
use Rattle.es_tree.specs.Names.{first_text, flag_at}
use Rattle.es_tree.specs.StaticRules.{is_export_space}
use Rattle.es_tree.specs.Tree.{Tree, node, Fields, done, ◌then◌}
use Rattle.es_tree.specs.Words.{Text}
use Rattle.es_tree.specs.declared.ast_type.AstType.{AstType}
use Rattle.es_tree.specs.declared.ast_type.AstType.TheVariants.{BlockStatement, CatchClause, ClassDeclaration, ExportAllDeclaration, ExportNamedDeclaration, ExportSpecifier, FunctionBody, FunctionDeclaration, Identifier, MethodDefinition, PrivateIdentifier, Program, StaticBlock, StringLiteral, VariableDeclaration, VariableDeclarator}
use Rattle.es_tree.specs.declared.place.Namespace.{Namespace}
use Rattle.es_tree.specs.declared.place.Namespace.TheVariants.{Constructors, FirstSlot, FourthSlot, PrivateNames, Scope, SecondSlot, ThirdSlot}
use Rattle.es_valid_names.proofs.Claims.{Stand, in_catch, above, catch_above, face, is_owned, name_or_none, outside}
use Rattle.es_valid_names.proofs.Mute.{Sealed, free-constructor, free-filter, free-first, free-private, free-vars, sealed-in, beyond_catch, beyond_class, beyond_declarator, beyond_function, beyond_parameter, beyond_part, is_imported, is_parameter, is_part}

abbrev pub own : List Name → List Name
own ns = filter is_owned ns

pub own-both : (xs ys : List Name) → own (xs ++ ys) ≡ own xs ++ own ys
own-both [] ys = refl
own-both (x ∷ xs) ys = at (is_owned x) (own-both xs ys)
  where
    at : (b : Bool) → own (xs ++ ys) ≡ own xs ++ own ys → cond b (x ∷ own (xs ++ ys)) (own (xs ++ ys)) ≡ cond b (x ∷ own xs) (own xs) ++ own ys
    at true e = ap (λ ns. x ∷ ns) e
    at false e = e

and-same : (b c d : Bool) → (b ≡ true → c ≡ d) → (b && c) ≡ (b && d)
and-same true c d h = h refl
and-same false c d h = refl

plain-is : (b : Bool) → b ≡ is_name (child_at 0 (name_or_none b))
plain-is true = refl
plain-is false = refl

abbrev pub AllSlots : List Namespace → Type 0
AllSlots [] = Unit {0}
AllSlots (s ∷ ss) = (is_export_space s ≡ false) × AllSlots ss

pub accessors-fine : (word : Text) (b : Bool) → AllSlots (accessor_slots word b)
accessors-fine word b = at (bytes_eq word (codes "get")) (bytes_eq word (codes "set")) b
  where
    at : (g s b : Bool) → AllSlots (if g then FirstSlot ∷ (if b then SecondSlot else ThirdSlot) ∷ [] else if s then (if b then ThirdSlot else SecondSlot) ∷ FourthSlot ∷ [] else FirstSlot ∷ SecondSlot ∷ ThirdSlot ∷ FourthSlot ∷ [])
    at true s true = (refl, (refl, tt))
    at true s false = (refl, (refl, tt))
    at false true true = (refl, (refl, tt))
    at false true false = (refl, (refl, tt))
    at false false b = (refl, (refl, (refl, (refl, tt))))

module _ (f : ℕ → ℕ) where
  -- a name with its owner's number changed; what is exported has none
  abbrev pub renamed : Name → Name
  renamed n = if is_export_space n.namespace then n else record n { owner = f n.owner }

  abbrev pub pick : List Name → List Name
  pick ns = own (map renamed ns)

  abbrev pub flag : Ancestor → Ancestor
  flag a = above a.kind a.label a.fields a.index (f a.number)

  pub pick-both : (xs ys : List Name) → pick (xs ++ ys) ≡ pick xs ++ pick ys
  pick-both xs ys = ap own (map-append renamed xs ys) ∙ own-both (map renamed xs) (map renamed ys)

  if-pick : (b : Bool) (xs xs' ys ys' : List Name) → (b ≡ true → pick xs ≡ own xs') → pick ys ≡ own ys' → pick (if b then xs else ys) ≡ own (if b then xs' else ys')
  if-pick true xs xs' ys ys' h k = h refl
  if-pick false xs xs' ys ys' h k = k

  both-pick : (xs xs' ys ys' : List Name) → pick xs ≡ own xs' → pick ys ≡ own ys' → pick (xs ++ ys) ≡ own (xs' ++ ys')
  both-pick xs xs' ys ys' h k = pick-both xs ys ∙ (λ i. h i ++ k i) ∙ sym (own-both xs' ys')

  exports-pick : (up vp : List Ancestor) (x : Text) → pick (exports_of up x) ≡ own (exports_of vp x)
  exports-pick up vp x = at (stands_in ExportNamedDeclaration 0 up) (stands_in ExportNamedDeclaration 0 vp)
    where
      at : (b c : Bool) → pick (if b then export_name x else []) ≡ own (if c then export_name x else [])
      at true true = refl
      at true false = refl
      at false true = refl
      at false false = refl

  exported-pick : (up vp : List Ancestor) (x : Text) → pick (exported_names up x) ≡ own (exported_names vp x)
  exported-pick up vp x = at (stands_in ExportSpecifier 1 up || stands_in ExportAllDeclaration 0 up) (stands_in ExportSpecifier 1 vp || stands_in ExportAllDeclaration 0 vp)
    where
      at : (b c : Bool) → pick (if b then export_name x else []) ≡ own (if c then export_name x else [])
      at true true = refl
      at true false = refl
      at false true = refl
      at false false = refl

  slots-pick : (n : ℕ) (x : Text) (ss : List Namespace) → AllSlots ss → pick (map (λ s. name s n x true) ss) ≡ own (map (λ s. name s (f n) x true) ss)
  slots-pick n x [] h = refl
  slots-pick n x (s ∷ ss) h = (λ i. own (cond (h.0 i) (name s n x true) (name s (f n) x true) ∷ map renamed (map (λ s. name s n x true) ss))) ∙ at (is_owned (name s (f n) x true)) (slots-pick n x ss h.1)
    where
      at : (b : Bool) → pick (map (λ s. name s n x true) ss) ≡ own (map (λ s. name s (f n) x true) ss) → cond b (name s (f n) x true ∷ pick (map (λ s. name s n x true) ss)) (pick (map (λ s. name s n x true) ss)) ≡ cond b (name s (f n) x true ∷ own (map (λ s. name s (f n) x true) ss)) (own (map (λ s. name s (f n) x true) ss))
      at true e = ap (λ ns. name s (f n) x true ∷ ns) e
      at false e = e

  private-pick : (b : Ancestor) (n : ℕ) (x : Text) → pick (name PrivateNames n x false ∷ map (λ s. name s n x true) (slots b)) ≡ own (name PrivateNames (f n) x false ∷ map (λ s. name s (f n) x true) (slots b))
  private-pick b n x = at (f n == 1) (slots-pick n x (slots b) (accessors-fine (if same_type b.kind MethodDefinition then first_text b.label.texts else []) (flag_at 0 b.label.flags)))
    where
      at : (c : Bool) → pick (map (λ s. name s n x true) (slots b)) ≡ own (map (λ s. name s (f n) x true) (slots b)) → cond c (name PrivateNames (f n) x false ∷ pick (map (λ s. name s n x true) (slots b))) (pick (map (λ s. name s n x true) (slots b))) ≡ cond c (name PrivateNames (f n) x false ∷ own (map (λ s. name s (f n) x true) (slots b))) (own (map (λ s. name s (f n) x true) (slots b)))
      at true e = ap (λ ns. name PrivateNames (f n) x false ∷ ns) e
      at false e = e

  -- ANCESTORS with numbers, and without
  pub record Same (up vp : List Ancestor) : Type 0 where
    pub bound : (x : Text) → pick (bound_names up x) ≡ own (bound_names vp x)
    pub declaration : (x : Text) → pick (declaration_names up x) ≡ own (declaration_names vp x)
    pub function : (x : Text) → pick (function_names up x) ≡ own (function_names vp x)
    pub first : (x : Text) (b : Bool) → pick (names_in_scope (scopes up) x b) ≡ own (names_in_scope (scopes vp) x b)
    pub vars : (x : Text) → pick (var_names up x) ≡ own (var_names vp x)
    pub private : (x : Text) → pick (private_names up x) ≡ own (private_names vp x)
    pub constructor_name : (x : Text) → pick (constructor_names up x) ≡ own (constructor_names vp x)
    pub next_private : (a : Ancestor) (x : Text) → pick (private_names (a ∷ up) x) ≡ own (private_names (flag a ∷ vp) x)

  module _ (a : Ancestor) (up vp : List Ancestor) (h : Same up vp) (block : same_type a.kind BlockStatement ≡ true → stands_in CatchClause 1 up ≡ stands_in CatchClause 1 vp) (program : same_type a.kind Program ≡ true → is_module up ≡ is_module vp) where
    makes-same : makes_scope a.kind up ≡ makes_scope a.kind vp
    makes-same = λ i. is_scope a.kind && not (and-same (same_type a.kind BlockStatement) (stands_in CatchClause 1 up) (stands_in CatchClause 1 vp) block i)

    first-in : (x : Text) (v : Bool) → pick (names_in_scope (scopes (a ∷ up)) x v) ≡ own (names_in_scope (scopes (flag a ∷ vp)) x v)
    first-in x v = at (makes_scope a.kind up) (is_boundary a.kind) ∙ (λ i. own (names_in_scope (if makes-same i then (if is_boundary a.kind then f a.number ∷ [] else f a.number ∷ scopes vp) else scopes vp) x v))
      where
        at : (b c : Bool) → pick (names_in_scope (if b then (if c then a.number ∷ [] else a.number ∷ scopes up) else scopes up) x v) ≡ own (names_in_scope (if b then (if c then f a.number ∷ [] else f a.number ∷ scopes vp) else scopes vp) x v)
        at true true = refl
        at true false = refl
        at false c = h.first x v

    vars-in : (x : Text) → pick (var_names (a ∷ up) x) ≡ own (var_names (flag a ∷ vp) x)
    vars-in x = at (makes_scope a.kind up) (is_boundary a.kind) ∙ (λ i. own (map (λ n. name Scope n x false) (if makes-same i then (if is_boundary a.kind then f a.number ∷ [] else f a.number ∷ scopes vp) else scopes vp)))
      where
        at : (b c : Bool) → pick (map (λ n. name Scope n x false) (if b then (if c then a.number ∷ [] else a.number ∷ scopes up) else scopes up)) ≡ own (map (λ n. name Scope n x false) (if b then (if c then f a.number ∷ [] else f a.number ∷ scopes vp) else scopes vp))
        at true true = refl
        at true false = λ i. cond (f a.number == 1) (name Scope (f a.number) x false ∷ h.vars x i) (h.vars x i)
        at false c = h.vars x

    same-kind-program : (b c : Bool) → (b && c) ≡ true → b ≡ true
    same-kind-program true c e = refl
    same-kind-program false c e = e

    top-same : is_at_top (a ∷ up) ≡ is_at_top (flag a ∷ vp)
    top-same = λ i. leads_by FunctionBody 1 a || leads_by StaticBlock 0 a || (and-same (leads_by Program 1 a) (not (is_module (a ∷ up))) (not (is_module (flag a ∷ vp))) (λ e. (λ j. not ((same_type a.kind Program && bytes_eq (first_text a.label.texts) (codes "module")) || program (same-kind-program (same_type a.kind Program) (a.index == 1) e) j))) i)

    catch-same : (x : Text) → leads_by CatchClause 0 a ≡ true → pick (catch_names a x) ≡ own (catch_names (flag a) x)
    catch-same x e = let zero_index : a.index ≡ 0 = eqb-true a.index 0 (and_parts (same_type a.kind CatchClause) (a.index == 0) e).1 in
        λ i. own (name Scope (f a.number) x (not (catch-plain a.fields a.index zero_index i)) ∷ [])
      where
        catch-plain : (fs : Fields) (j : ℕ) → j ≡ 0 → is_name (child_at 0 fs) ≡ is_name (child_at 0 (face j fs))
        catch-plain fs j d = plain-is (is_name (child_at 0 fs)) ∙ (λ i. is_name (child_at 0 (face (sym d i) fs)))

    bound-in : (x : Text) → pick (bound_names (a ∷ up) x) ≡ own (bound_names (flag a ∷ vp) x)
    bound-in x =
        if-pick (is_part a) (bound_names up x) (bound_names vp x) (beyond_part a up x) (beyond_part (flag a) vp x) (λ e. h.bound x)
        (if-pick (leads_by VariableDeclarator 0 a) (declaration_names up x) (declaration_names vp x) (beyond_declarator a up x) (beyond_declarator (flag a) vp x) (λ e. h.declaration x)
        (if-pick (leads_by FunctionDeclaration 0 a) (function_names up x ++ exports_of up x) (function_names vp x ++ exports_of vp x) (beyond_function a up x) (beyond_function (flag a) vp x) (λ e. both-pick (function_names up x) (function_names vp x) (exports_of up x) (exports_of vp x) (h.function x) (exports-pick up vp x))
        (if-pick (is_parameter a) (parameter_names a.number x) (parameter_names (f a.number) x) (beyond_parameter a up x) (beyond_parameter (flag a) vp x) (λ e. refl)
        (if-pick (leads_by ClassDeclaration 0 a) (lexical_names up x ++ exports_of up x) (lexical_names vp x ++ exports_of vp x) (beyond_class a up x) (beyond_class (flag a) vp x) (λ e. both-pick (lexical_names up x) (lexical_names vp x) (exports_of up x) (exports_of vp x) (h.first x true) (exports-pick up vp x))
        (if-pick (leads_by CatchClause 0 a) (catch_names a x) (catch_names (flag a) x) (beyond_catch a up x) (beyond_catch (flag a) vp x) (λ e. catch-same x e)
        (if-pick (is_imported a) (lexical_names up x) (lexical_names vp x) [] [] (λ e. h.first x true) refl))))))

    pub same-in : Same (a ∷ up) (flag a ∷ vp)
    same-in = record {
      bound = bound-in;
      declaration = λ x. if-pick (same_type a.kind VariableDeclaration) ((if is_lexical (first_text a.label.texts) then lexical_names up x else var_names up x) ++ exports_of up x) ((if is_lexical (first_text a.label.texts) then lexical_names vp x else var_names vp x) ++ exports_of vp x) [] []
          (λ e. both-pick (if is_lexical (first_text a.label.texts) then lexical_names up x else var_names up x) (if is_lexical (first_text a.label.texts) then lexical_names vp x else var_names vp x) (exports_of up x) (exports_of vp x) (if-pick (is_lexical (first_text a.label.texts)) (lexical_names up x) (lexical_names vp x) (var_names up x) (var_names vp x) (λ d. h.first x true) (h.vars x)) (exports-pick up vp x)) refl;
      function = λ x. first-in x (not (is_at_top (a ∷ up))) ∙ (λ i. own (names_in_scope (scopes (flag a ∷ vp)) x (not (top-same i))));
      first = first-in;
      vars = vars-in;
      private = λ x. h.next_private a x;
      constructor_name = λ x. if-pick (bytes_eq x (codes "constructor")) (name Constructors a.number [] true ∷ []) (name Constructors (f a.number) [] true ∷ []) [] [] (λ e. refl) refl;
      next_private = λ b x. if-pick (is_class_key (b ∷ up)) (name PrivateNames a.number x false ∷ map (λ s. name s a.number x true) (slots b)) (name PrivateNames (f a.number) x false ∷ map (λ s. name s (f a.number) x true) (slots b)) [] [] (λ e. private-pick b a.number x) refl;
    }

  pub declared-same : (up vp : List Ancestor) → Same up vp → (t : Tree) → pick (declared up t) ≡ own (declared vp t)
  declared-same up vp h (node Identifier l fs) = both-pick (bound_names up (first_text l.texts)) (bound_names vp (first_text l.texts)) (exported_names up (first_text l.texts)) (exported_names vp (first_text l.texts)) (h.bound (first_text l.texts)) (exported-pick up vp (first_text l.texts))
  declared-same up vp h (node StringLiteral l fs) = exported-pick up vp (first_text l.texts)
  declared-same up vp h (node PrivateIdentifier l fs) = h.private (first_text l.texts)
  declared-same up vp h (node MethodDefinition l fs) = h.constructor_name (first_text l.texts)
  declared-same up vp h (node _ l fs) = refl

  -- ALL ANCESTORS with their numbers changed

  abbrev pub flags : List Ancestor → List Ancestor
  flags [] = []
  flags (a ∷ up) = flag a ∷ flags up

  pub module-flags : (up : List Ancestor) → is_module up ≡ is_module (flags up)
  module-flags [] = refl
  module-flags (a ∷ up) = λ i. (same_type a.kind Program && bytes_eq (first_text a.label.texts) (codes "module")) || module-flags up i

  pub catch-flags : (up : List Ancestor) → stands_in CatchClause 1 up ≡ stands_in CatchClause 1 (flags up)
  catch-flags [] = refl
  catch-flags (a ∷ up) = refl

  pub same-flags : (up : List Ancestor) → Same up (flags up)
  same-flags [] = record { bound = λ x. refl; declaration = λ x. refl; function = λ x. refl; first = λ x b. refl; vars = λ x. refl; private = λ x. refl; constructor_name = λ x. refl; next_private = λ a x. refl }
  same-flags (a ∷ up) = same-in a up (flags up) (same-flags up) (λ e. catch-flags up) (λ e. module-flags up)

  -- which aren't looked at
  abbrev pub OtherNumbers : List Ancestor → Type 0
  OtherNumbers [] = Unit {0}
  OtherNumbers (a ∷ up) = ((f a.number == 1) ≡ false) × OtherNumbers up

  pub sealed-flags : (up : List Ancestor) → OtherNumbers up → Sealed (flags up)
  sealed-flags [] h = record { bound = λ x. tt; declaration = λ x. tt; private = λ x. tt; scoped = tt; first = tt }
  sealed-flags (a ∷ up) h = sealed-in a.kind a.label a.fields a.index (f a.number) h.0 (flags up) (sealed-flags up h.1)

  pub cut : (up vp : List Ancestor) → OtherNumbers up → Sealed vp → Same up vp
  cut up vp o v =
      let h = same-flags up in
      let s = sealed-flags up o in
      record {
        bound = λ x. h.bound x ∙ free-filter (bound_names (flags up) x) (s.bound x) ∙ sym (free-filter (bound_names vp x) (v.bound x));
        declaration = λ x. h.declaration x ∙ free-filter (declaration_names (flags up) x) (s.declaration x) ∙ sym (free-filter (declaration_names vp x) (v.declaration x));
        function = λ x. h.function x ∙ free-filter (function_names (flags up) x) (free-first (scopes (flags up)) x (not (is_at_top (flags up))) s.scoped) ∙ sym (free-filter (function_names vp x) (free-first (scopes vp) x (not (is_at_top vp)) v.scoped));
        first = λ x b. h.first x b ∙ free-filter (names_in_scope (scopes (flags up)) x b) (free-first (scopes (flags up)) x b s.scoped) ∙ sym (free-filter (names_in_scope (scopes vp) x b) (free-first (scopes vp) x b v.scoped));
        vars = λ x. h.vars x ∙ free-filter (var_names (flags up) x) (free-vars (scopes (flags up)) x s.scoped) ∙ sym (free-filter (var_names vp x) (free-vars (scopes vp) x v.scoped));
        private = λ x. h.private x ∙ free-filter (private_names (flags up) x) (s.private x) ∙ sym (free-filter (private_names vp x) (v.private x));
        constructor_name = λ x. h.constructor_name x ∙ free-filter (constructor_names (flags up) x) (free-constructor (flags up) x s.first) ∙ sym (free-filter (constructor_names vp x) (free-constructor vp x v.first));
        next_private = λ a x. h.next_private a x ∙ free-filter (private_names (flag a ∷ flags up) x) (free-private (flag a) (flags up) x (λ e. s.first)) ∙ sym (free-filter (private_names (flag a ∷ vp) x) (free-private (flag a) vp x (λ e. v.first)));
      }

pub sealed-outside : (st : Stand) (k : AstType) → Sealed (outside st k)
sealed-outside st BlockStatement = at st
  where
    nothing : Sealed []
    nothing = record { bound = λ x. tt; declaration = λ x. tt; private = λ x. tt; scoped = tt; first = tt }

    at : (st : Stand) → Sealed (catch_above st)
    at in_catch = sealed-in CatchClause (record { id = 0; start = 0; stop = 0; texts = []; flags = []; marks = [] }) done 1 0 refl [] nothing
    at _ = nothing
sealed-outside st _ = record { bound = λ x. tt; declaration = λ x. tt; private = λ x. tt; scoped = tt; first = tt }
