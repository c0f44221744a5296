-- A module whose `using` at the top is lowered: the rules of declared names are kept. What the block declares is declared by `var`, and so in the module as
-- before, where it clashes with no more names than it did.
use Rattle.std.proofs.Common.{◌≡◌, ℕ, zero, suc, refl, sym, ap, subst, ◌∙◌, List, [], ◌∷◌, ◌++◌, append-nil, filter}
use Rattle.std.specs.Prelude.{Bool, true, false, not, ◌||◌, codes, if◌then◌else◌, Some}
use Rattle.std.proofs.lemmas.List.{append_assoc}
use Rattle.es_tree.specs.Ancestors.{Ancestor, ancestor}
use Rattle.es_tree.specs.CoreStaticRules.{is_lexical}
use Rattle.es_tree.specs.DeclaredNames.{Name, bound_names, declaration_names, export_name, is_same_name, lexical_names, name, var_names}
use Rattle.es_tree.specs.HasForm.{has_form, trees_form}
use Rattle.es_tree.specs.Names.{first_text}
use Rattle.es_tree.specs.Tree.{Tree, node, Label, Fields, done, ◌then◌, Field, missing, one, many, statements, Trees, empty, ◌before◌, kind_of, label_of}
use Rattle.es_tree.specs.Words.{Text}
use Rattle.es_tree.specs.declared.ast_type.AstType.{AstType}
use Rattle.es_tree.specs.declared.ast_type.AstType.TheVariants.{BlockStatement, ClassDeclaration, ClassExpression, ExportDefaultDeclaration, ExportNamedDeclaration, ExportSpecifier, FunctionDeclaration, Identifier, Program, VariableDeclaration, VariableDeclarator}
use Rattle.es_tree.specs.declared.place.Namespace.TheVariants.{Scope}
use Rattle.es_tree.specs.declared.table.Sort.{Sort}
use Rattle.es_tree.specs.declared.table.Sort.TheVariants.{Declaration as s-Declaration, ExportDefault as s-ExportDefault, Expression as s-Expression, Identifier as s-Identifier, Program as s-Program, Statement as s-Statement}
use Rattle.es_tree.proofs.NodeForm.{node_form}
use Rattle.es_resolution.specs.Declarations.{Bound, symbol_of}
use Rattle.es_resolution.proofs.Basics.{bytes_eq-self}
use Rattle.es_steps.specs.Nodes.{declaration_node, declarator_with, identifier, joined_trees, made}
use Rattle.es_steps.specs.UsingBlocks.{protected}
use Rattle.es_steps.specs.UsingBodies.{bound_as}
use Rattle.es_steps.proofs.FormLists.{first-formed}
use Rattle.es_steps.proofs.FormParts.{IsFormed, IsText}
use Rattle.es_valid_steps.specs.PlaceRules.{Keeps, KeepsAll}
use Rattle.es_valid_names.proofs.Claims.{Around, Clear, ClearAll, ClearBy, ClearIn, Distinct, OwnClear, Stand, above, around_in, claims, claims_all, claims_by, claims_in, default_export as in_default_export, elsewhere, has_private, in_body, is_owned, is_owner, is_wrong, outside, owned, stand_in}
use Rattle.es_valid_names.proofs.ClearPending.{expression-mute, joined-claims}
use Rattle.es_valid_names.proofs.Grown.{still-distinct}
use Rattle.es_valid_names.proofs.MoreAround.{Allows, allows-in, clear-more, clear-more-by, or-last, or-self}
use Rattle.es_valid_names.proofs.NameSteps.{around, top-says}
use Rattle.es_valid_names.proofs.ProgramNames.{program_list}
use Rattle.es_valid_using.proofs.UsingNamesBlocks.{made_here, protected-clear}
use Rattle.es_valid_using.proofs.UsingNamesLists.{last-apart}
use Rattle.es_valid_using.proofs.UsingNamesMade.{context_node, in_made, protected-claims}
use Rattle.es_top_imports.proofs.TopForms.{program_with}
use Rattle.es_export_splits.specs.SplitRule.{EachTree}
use Rattle.es_export_splits.specs.Splits.{export_of, text_of}
use Rattle.es_export_splits.proofs.ExportClaims.{export-claims, export-clear}
use Rattle.es_export_splits.proofs.ExportNames.{export_with}
use Rattle.es_using_modules.specs.ModuleTops.{Makes, by_bounds, by_var, default_export}
use Rattle.es_using_modules.proofs.TopForms.{bare-class-formed, class-name, default-part, exported-part, name-text, marked-class-formed, named-class-formed, program-list, variable-formed}
use Rattle.es_using_modules.proofs.TopMoves.{AllBecome, Becomes, Declares, Defaults, Moves, all-same, default_with, is_plain, lowered}
use Rattle.es_using_modules.proofs.TopMoves.Becomes.{as_is, passed}
use Rattle.es_using_modules.proofs.TopMoves.AllBecome.{ended, more}
use Rattle.es_using_modules.proofs.TopMoves.Declares.{by_class, by_variables}
use Rattle.es_using_modules.proofs.TopMoves.Defaults.{a_value, bare_class, named_class}
use Rattle.es_using_modules.proofs.TopMoves.Moves.{declares, default_export_of, exports, no_more, plain, stays}
use Rattle.es_using_modules.proofs.TopNamesDeclared.{Binds, class-none, class-same, lists, pattern-names, variables-names}
use Rattle.es_using_modules.proofs.TopNamesLists.{Sorts, any_list, anything, joined-any, lists-append, second-apart, sorts-apart, sorts-found, sorts-move, sorts-stay}
use Rattle.es_using_modules.proofs.TopNamesLists.Soft.{softer}
use Rattle.es_using_modules.proofs.TopNamesLists.Sorts.{comes, moves, no_list}
use Rattle.es_using_modules.proofs.TopNamesPlain.{in-block-itself, plain-in-block}

-- what the module binds, lexically or not
abbrev pub named : Bool → Text → Name
named b x = name Scope 1 x b

-- WHERE DECLARATIONS STAND

-- at the top, in an export or not
record Stands (up : List Ancestor) : Type 0 where
  vars : (k : Label) (fs : Fields) (x : Text) → filter is_owned (declaration_names (above VariableDeclaration k fs 0 0 ∷ up) x) ≡ named (is_lexical (first_text k.texts)) x ∷ []
  class : (k : Label) (fs : Fields) (x : Text) → filter is_owned (bound_names (above ClassDeclaration k fs 0 0 ∷ up) x) ≡ named true x ∷ []
  bound : (x : Text) → bound_names up x ≡ []

by-word : (l : Label) (es : List Name) → filter is_owned es ≡ [] → (b : Bool) (x : Text) → filter is_owned ((if b then lexical_names (program_list l) x else var_names (program_list l) x) ++ es) ≡ named b x ∷ []
by-word l es e true x = ap (λ ns. named true x ∷ ns) e
by-word l es e false x = ap (λ ns. named false x ∷ ns) e

at-top : (l : Label) → Stands (program_list l)
at-top l = record { vars = λ k fs x. by-word l [] refl (is_lexical (first_text k.texts)) x; class = λ k fs x. refl; bound = λ x. refl }

in-export : (l k : Label) (fs : Fields) → Stands (above ExportNamedDeclaration k fs 0 0 ∷ program_list l)
in-export l k fs = record { vars = λ j gs x. by-word l (export_name x) refl (is_lexical (first_text j.texts)) x; class = λ j gs x. refl; bound = λ x. refl }

in-default : (l k : Label) (fs : Fields) → Stands (above ExportDefaultDeclaration k fs 0 0 ∷ program_list l)
in-default l k fs = record { vars = λ j gs x. by-word l [] refl (is_lexical (first_text j.texts)) x; class = λ j gs x. refl; bound = λ x. refl }

-- in the block, which is looked at, or the module around it
record InBlock (l : Label) (vp : List Ancestor) : Type 0 where
  plain : (us : List Ancestor) (t : Tree) → has_form s-Statement t ≡ true → is_plain (kind_of t) ≡ true → Keeps us t → claims is_owned vp t ≡ claims is_owned (program_list l) t
  vars : (k : Label) (fs : Fields) (x : Text) → filter is_owned (declaration_names (above VariableDeclaration (by_var k) fs 0 0 ∷ vp) x) ≡ named false x ∷ []

from-outside : (l : Label) → InBlock l (in_made (program_list l))
from-outside l = record { plain = λ us t f e k. plain-in-block l us t f e k; vars = λ k fs x. refl }

from-inside : (l : Label) → first_text l.texts ≡ codes "module" → InBlock l made_here
from-inside l m = record { plain = λ us t f e k. in-block-itself l m t f; vars = λ k fs x. refl }

-- WHAT IS FOUND among such lists
abbrev Found : Text → List (List Name) → Type 0
Found x gs = any_list (is_same_name Scope 1 x) gs ≡ true

found-first : (x : Text) (gs hs : List (List Name)) → Found x gs → Found x (gs ++ hs)
found-first x gs hs e = lists-append (is_same_name Scope 1 x) gs hs ∙ or-self (any_list (is_same_name Scope 1 x) gs) (any_list (is_same_name Scope 1 x) hs) e

found-last : (x : Text) (gs hs : List (List Name)) → Found x hs → Found x (gs ++ hs)
found-last x gs hs e = lists-append (is_same_name Scope 1 x) gs hs ∙ or-last (any_list (is_same_name Scope 1 x) gs) (any_list (is_same_name Scope 1 x) hs) e

found-one : (x : Text) → Found x ((named false x ∷ []) ∷ [])
found-one x = rw (bytes_eq-self x) refl

found-listed : (top : Text → Bool) (xs : List Tree) → ((x : Text) → Found x (lists (named false) xs) → top x ≡ true) → EachTree (λ x. top (text_of x) ≡ true) xs
found-listed top [] h = tt
found-listed top (x ∷ xs) h = (h (text_of x) (found-first (text_of x) ((named false (text_of x) ∷ []) ∷ []) (lists (named false) xs) (found-one (text_of x))), found-listed top xs (λ y e. h y (found-last y ((named false (text_of x) ∷ []) ∷ []) (lists (named false) xs) e)))

-- THE OTHER RULES of what moves

-- an expression keeps them wherever it stands
outside-same : (k : AstType) → outside in_default_export k ≡ outside elsewhere k
outside-same BlockStatement = refl
outside-same _ = refl

stand-same : (k : AstType) (fs : Fields) (i : ℕ) → stand_in in_default_export k fs i ≡ stand_in elsewhere k fs i
stand-same k fs (suc (suc i)) = refl
stand-same k fs (suc zero) = refl
stand-same ExportSpecifier fs zero = refl
stand-same _ fs zero = refl

wrong-same : (c : Around) (k : AstType) (l : Label) (fs : Fields) → IsFormed (node k l fs) → is_wrong c in_default_export k l fs ≡ is_wrong c elsewhere k l fs
wrong-same c FunctionDeclaration l fs f = absurd (let no : false ≡ true = (node_form s-Expression FunctionDeclaration l fs f).sort in cc no)
wrong-same c ClassDeclaration l fs f = absurd (let no : false ≡ true = (node_form s-Expression ClassDeclaration l fs f).sort in cc no)
wrong-same c _ l fs f = refl

fields-clear : (c : Around) (gs : List (List Name)) (k : AstType) (all : Fields) (i : ℕ) (fs : Fields) → ClearIn c gs in_default_export k all i fs → ClearIn c gs elsewhere k all i fs
fields-clear c gs k all i done h = tt
fields-clear c gs k all i (f then fs) h = (subst (λ (s : Stand). ClearBy (around_in c (in_body k i) gs) s f) (stand-same k all i) h.0, fields-clear c gs k all (suc i) fs h.1)

value-clear : (c : Around) (e : Tree) → IsFormed e → Clear c in_default_export e → Clear c elsewhere e
value-clear c (node k l fs) f h =
    let same : owned in_default_export k l fs ≡ owned elsewhere k l fs = λ j. claims_in is_owned (outside-same k j) k l fs 1 0 fs in
    (subst (λ (gs : List (List Name)). OwnClear c.used (is_owner k) gs) same h.0, sym (wrong-same c k l fs f) ∙ h.1, fields-clear c (owned elsewhere k l fs) k fs 0 fs (subst (λ (gs : List (List Name)). ClearIn c gs in_default_export k fs 0 fs) same h.2))

variable-clear : (d : Around) (b : Bound) (e : Tree) → Clear d elsewhere e → Clear d elsewhere (declaration_node (codes "var") (declarator_with (identifier b) e ∷ []))
variable-clear d b e h = (tt, refl, (((tt, refl, ((tt, refl, tt), (h, tt))), tt), tt))

-- a class as an expression
class-body : (i : ℕ) → in_body ClassDeclaration i ≡ in_body ClassExpression i
class-body zero = refl
class-body (suc zero) = refl
class-body (suc (suc zero)) = refl
class-body (suc (suc (suc i))) = refl

module _ (c d : Around) (allows : Allows c d) (s : Stand) (l : Label) (g h : Field) (fs : Fields) where
  abbrev old_lists : List (List Name)
  old_lists = owned s ClassDeclaration l (g then fs)

  abbrev new_lists : List (List Name)
  new_lists = owned elsewhere ClassExpression l (h then fs)

  class-clear-in : old_lists ≡ new_lists → (i : ℕ) (gs : Fields) → ClearIn c old_lists s ClassDeclaration (g then fs) (suc i) gs → ClearIn d new_lists elsewhere ClassExpression (h then fs) (suc i) gs
  class-clear-in e i done k = tt
  class-clear-in e i (f then gs) k = (
    subst (λ (b : Bool). ClearBy (around_in d b new_lists) elsewhere f) (class-body (suc i))
        (clear-more-by (around_in c (in_body ClassDeclaration (suc i)) old_lists) (around_in d (in_body ClassDeclaration (suc i)) new_lists) (allows-in c d (in_body ClassDeclaration (suc i)) old_lists new_lists allows (λ x q. (λ j. has_private (sym e j) x) ∙ q)) elsewhere f k.0),
    class-clear-in e (suc i) gs k.1,
  )

  class-clear : claims_by is_owned (above ClassDeclaration l (g then fs) 0 1 ∷ []) g ≡ [] → claims_by is_owned (above ClassExpression l (h then fs) 0 1 ∷ []) h ≡ [] → ClearBy d elsewhere h → Clear c s (node ClassDeclaration l (g then fs)) → Clear d elsewhere (node ClassExpression l (h then fs))
  class-clear a b k q =
      let same : old_lists ≡ new_lists = (λ j. a j ++ class-same l g h fs 1 [] 0 fs j) ∙ (λ j. sym b j ++ claims_in is_owned [] ClassExpression l (h then fs) 1 1 fs) in
      (still-distinct c.used d.used allows.used [] new_lists (subst (λ (gs : List (List Name)). Distinct c.used [] gs) same q.0), refl, (k, class-clear-in same 0 fs q.2.1))

identifier-none : (l : Label) (all : Fields) (c : Tree) → has_form s-Identifier c ≡ true → claims is_owned (above ClassDeclaration l all 0 1 ∷ []) c ≡ []
identifier-none l all (node Identifier m done) f = refl
identifier-none l all (node Identifier m (g then gs)) f = absurd (let no : false ≡ true = (node_form s-Identifier Identifier m (g then gs) f).children in cc no)
identifier-none l all (node k m gs) f = absurd (let no : false ≡ true = (node_form s-Identifier k m gs f).sort in cc no)

module _ (c d : Around) (allows : Allows c d) (context : Bound) where
  declarator-clear : (e f : Tree) → Becomes context e f → Clear c elsewhere e → Clear d elsewhere f
  declarator-clear e f (as_is t) h = clear-more c d allows elsewhere t h
  declarator-clear e f (passed l p v) h = (tt, refl, (clear-more c d allows elsewhere p h.2.0, ((tt, refl, ((tt, refl, ((tt, refl, tt), ((tt, refl, tt), tt))), ((clear-more c d allows elsewhere v h.2.1.0, tt), tt))), tt)))

  declarators-clear : (ds es : Trees) → AllBecome context ds es → ClearAll c elsewhere ds → ClearAll d elsewhere es
  declarators-clear ds es ended h = tt
  declarators-clear ds es (more {d = e} {e = f} {ds = ds'} {es = es'} b r) h = (declarator-clear e f b h.0, declarators-clear ds' es' r h.1)

-- WHAT STATEMENTS DECLARE, in the module and in the block

identifier-names : (n : Text → Name) (up : List Ancestor) → Binds n up → (c : Tree) → has_form s-Identifier c ≡ true → claims is_owned up c ≡ (n (text_of c) ∷ []) ∷ []
identifier-names n up b (node Identifier l fs) f = pattern-names n up b (node Identifier l fs) f
identifier-names n up b (node k l fs) f = absurd (let no : false ≡ true = (node_form s-Identifier k l fs f).sort in cc no)

module _ (default context error : Bound) (default_named : IsText default) where
  abbrev m : Makes
  m = by_bounds default context error

  -- a variable that is made
  made-names : (l : Label) (vp : List Ancestor) → InBlock l vp → (b : Bound) (e : Tree) → IsText b → IsFormed e → claims is_owned vp (declaration_node (codes "var") (declarator_with (identifier b) e ∷ [])) ≡ (named false b.name ∷ []) ∷ []
  made-names l vp p b e h f =
      let word : Label = made (Some (codes "var") ∷ []) [] in
      let ds : Trees = node VariableDeclarator (made [] []) (one (identifier b) then one e then done) before empty in
      variables-names context (named false) vp word word ds ds s-Statement (λ x. p.vars (made [] []) (many ds then done) x) (all-same default context error ds) (variable-formed b e h f)

  module _ (l : Label) (vp : List Ancestor) (p : InBlock l vp) where
    record DeclaresNames (up : List Ancestor) (d u : Tree) (xs : List Tree) : Type 0 where
      lexical : Bool
      old : claims is_owned up d ≡ lists (named lexical) xs
      new : claims is_owned vp u ≡ lists (named false) xs

    class-names : (up : List Ancestor) → Stands up → (s : Sort) (k : Label) (c : Tree) (fs : Fields) → has_form s (node ClassDeclaration k (one c then fs)) ≡ true → claims is_owned up (node ClassDeclaration k (one c then fs)) ≡ (named true (text_of c) ∷ []) ∷ []
    class-names up q s k c fs f =
        let all : Fields = one c then fs in
        let x : Bound = bound_as (label_of c) in
        (λ i. identifier-names (named true) (above ClassDeclaration k all 0 0 ∷ up) (record { bound = q.class k all }) c (class-name s k c fs f) i ++ class-none k (one c) (one (identifier x)) fs up q.bound (named-class-formed s k c fs x (name-text c (class-name s k c fs f)) f) i)

    declares-names : (up : List Ancestor) → Stands up → (s : Sort) (d u : Tree) (xs : List Tree) → Declares default context error d xs u → has_form s d ≡ true → DeclaresNames up d u xs
    declares-names up q s d u xs (by_variables k ds es r) f = record {
      lexical = is_lexical (first_text k.texts);
      old = variables-names context (named (is_lexical (first_text k.texts))) up k k ds ds s (λ x. q.vars k (many ds then done) x) (all-same default context error ds) f;
      new = variables-names context (named false) vp k (by_var k) ds es s (λ x. p.vars k (many es then done) x) r f;
    }
    declares-names up q s d u xs (by_class k c fs) f =
        let text = name-text c (class-name s k c fs f) in
        record {
          lexical = true;
          old = class-names up q s k c fs f;
          new = made-names l vp p (bound_as (label_of c)) (node ClassExpression k (one (m.inside k c) then fs)) text (marked-class-formed s k c fs (symbol_of k ∷ []) f);
        }

    -- THE NAMES FALL INTO TWO

    module _ (used : Text → Bool) (free : used default.name ≡ false) where
      soften : (b : Bool) (xs : List Tree) {gs ls rs : List (List Name)} → Sorts used gs ls rs → Sorts used (lists (named b) xs ++ gs) ls (lists (named false) xs ++ rs)
      soften b [] s = s
      soften b (x ∷ xs) s = moves (softer (text_of x) b) (soften b xs s)

      abbrev Old : Trees → List (List Name)
      Old ts = claims_all is_owned (program_list l) ts

      abbrev New : Trees → List (List Name)
      New us = claims_all is_owned vp us

      declared-sorts : (d u : Tree) (xs : List Tree) (up : List Ancestor) → DeclaresNames up d u xs → {ks ls rs : List (List Name)} → Sorts used ks ls rs → Sorts used (claims is_owned up d ++ ks) ls (claims is_owned vp u ++ rs)
      declared-sorts d u xs up n {ks} {ls} {rs} s =
          subst (λ (fs : List (List Name)). Sorts used (fs ++ ks) ls (claims is_owned vp u ++ rs)) (sym n.old)
          (subst (λ (fs : List (List Name)). Sorts used (lists (named n.lexical) xs ++ ks) ls (fs ++ rs)) (sym n.new) (soften n.lexical xs s))

      default-sorts : (k : Label) (gs : Fields) (t d x u : Tree) → Defaults default context error t d x u → has_form s-ExportDefault d ≡ true → {ks ls rs : List (List Name)} → Sorts used ks ls rs → Sorts used (claims is_owned (above ExportDefaultDeclaration k gs 0 0 ∷ program_list l) d ++ ks) ls (claims is_owned vp u ++ rs)
      default-sorts k gs t d x u (named_class j c fs) f s = declared-sorts d u (c ∷ []) (above ExportDefaultDeclaration k gs 0 0 ∷ program_list l) (declares-names (above ExportDefaultDeclaration k gs 0 0 ∷ program_list l) (in-default l k gs) s-ExportDefault d u (c ∷ []) (by_class j c fs) f) s
      default-sorts k gs t d x u (bare_class j fs) f {ks} {ls} {rs} s =
          let up = above ExportDefaultDeclaration k gs 0 0 ∷ program_list l in
          let e : Tree = node ClassExpression j (missing then fs) in
          let g = bare-class-formed s-ExportDefault j fs f in
          subst (λ (hs : List (List Name)). Sorts used (hs ++ ks) ls (claims is_owned vp u ++ rs)) (sym (class-none j missing missing fs up (λ y. refl) g))
          (subst (λ (hs : List (List Name)). Sorts used ks ls (hs ++ rs)) (sym (made-names l vp p default e default_named g)) (comes default.name free s))
      default-sorts k gs t d x u (a_value e g) f {ks} {ls} {rs} s =
          let up = above ExportDefaultDeclaration k gs 0 0 ∷ program_list l in
          subst (λ (hs : List (List Name)). Sorts used (hs ++ ks) ls (claims is_owned vp u ++ rs)) (sym (expression-mute up e g (λ y. tt)))
          (subst (λ (hs : List (List Name)). Sorts used ks ls (hs ++ rs)) (sym (made-names l vp p default e default_named g)) (comes default.name free s))

      default-silent : (k : Label) (t d x u : Tree) → Defaults default context error t d x u → claims is_owned (program_list l) (default_export m t x) ≡ []
      default-silent k t d x u (named_class j c fs) = refl
      default-silent k t d x u (bare_class j fs) = refl
      default-silent k t d x u (a_value e g) = refl

      sorted : (up : List Ancestor) (ts os us : Trees) → Moves default context error ts os us → trees_form s-Statement s-Statement ts ≡ true → KeepsAll up ts → Sorts used (Old ts) (Old os) (New us)
      sorted up ts os us no_more f h = no_list
      sorted up ts os us (stays {t = t} {ts = ts'} {os = os'} {us = us'} e r) f h = sorts-stay used (claims is_owned (program_list l) t) (sorted up ts' os' us' r (first-formed s-Statement t ts' f).1 h.1)
      sorted up ts os us (plain {t = t} {ts = ts'} {os = os'} {us = us'} e r) f h =
          let parts = first-formed s-Statement t ts' f in
          subst (λ (gs : List (List Name)). Sorts used (Old ts) (Old os') (gs ++ New us')) (sym (p.plain up t parts.0 e h.0)) (sorts-move used (claims is_owned (program_list l) t) (sorted up ts' os' us' r parts.1 h.1))
      sorted up ts os us (declares {d = d} {u = u} {xs = xs} {ts = ts'} {os = os'} {us = us'} g r) f h =
          let parts = first-formed s-Statement d ts' f in
          declared-sorts d u xs (program_list l) (declares-names (program_list l) (at-top l) s-Statement d u xs g parts.0) (sorted up ts' os' us' r parts.1 h.1)
      sorted up ts os us (exports {l = k} {d = d} {u = u} {xs = xs} {ts = ts'} {os = os'} {us = us'} g r) f h =
          let parts = first-formed s-Statement (export_with k d) ts' f in
          let there = above ExportNamedDeclaration k (one d then many empty then missing then many empty then done) 0 0 ∷ program_list l in
          subst (λ (gs : List (List Name)). Sorts used (gs ++ Old ts') (Old (export_of m.split (export_with k d) xs before os')) (New us)) (sym (append-nil (claims is_owned there d)))
          (subst (λ (gs : List (List Name)). Sorts used (claims is_owned there d ++ Old ts') (gs ++ Old os') (New us)) (sym (export-claims (program_list l) (export_with k d) xs))
          (declared-sorts d u xs there (declares-names there (in-export l k (one d then many empty then missing then many empty then done)) s-Declaration d u xs g (exported-part k d parts.0)) (sorted up ts' os' us' r parts.1 h.1)))
      sorted up ts os us (default_export_of {l = k} {d = d} {x = x} {u = u} {ts = ts'} {os = os'} {us = us'} g r) f h =
          let parts = first-formed s-Statement (default_with k d) ts' f in
          let there = above ExportDefaultDeclaration k (one d then done) 0 0 ∷ program_list l in
          subst (λ (gs : List (List Name)). Sorts used (gs ++ Old ts') (Old (default_export m (default_with k d) x before os')) (New us)) (sym (append-nil (claims is_owned there d)))
          (subst (λ (gs : List (List Name)). Sorts used (claims is_owned there d ++ Old ts') (gs ++ Old os') (New us)) (sym (default-silent k (default_with k d) d x u g))
          (default-sorts k (one d then done) (default_with k d) d x u g (default-part k d parts.0) (sorted up ts' os' us' r parts.1 h.1)))

    -- THE OTHER RULES, inside

    module _ (c d : Around) (allows : Allows c d) where
      class-inside : (s : Stand) (o : Sort) (k : Label) (x : Tree) (fs : Fields) (n : Label) → has_form o (node ClassDeclaration k (one x then fs)) ≡ true → Clear c s (node ClassDeclaration k (one x then fs)) → Clear d elsewhere (node ClassExpression k (one (node Identifier n done) then fs))
      class-inside s o k x fs n f h = class-clear c d allows s k (one x) (one (node Identifier n done)) fs (identifier-none k (one x then fs) x (class-name o k x fs f)) refl (tt, refl, tt) h

      declares-clear : (o : Sort) (e u : Tree) (xs : List Tree) → Declares default context error e xs u → has_form o e ≡ true → Clear c elsewhere e → Clear d elsewhere u
      declares-clear o e u xs (by_variables k ds es r) f h = (tt, refl, (declarators-clear c d allows context ds es r h.2.0, tt))
      declares-clear o e u xs (by_class k x fs) f h = variable-clear d (bound_as (label_of x)) (node ClassExpression k (one (m.inside k x) then fs)) (class-inside elsewhere o k x fs (record (label_of x) { marks = symbol_of k ∷ [] }) f h)

      defaults-clear : (t e x u : Tree) → Defaults default context error t e x u → has_form s-ExportDefault e ≡ true → Clear c in_default_export e → Clear d elsewhere u
      defaults-clear t e x u (named_class k y fs) f h = variable-clear d (bound_as (label_of y)) (node ClassExpression k (one (m.inside k y) then fs)) (class-inside in_default_export s-ExportDefault k y fs (record (label_of y) { marks = symbol_of k ∷ [] }) f h)
      defaults-clear t e x u (bare_class k fs) f h = variable-clear d default (node ClassExpression k (missing then fs)) (class-clear c d allows in_default_export k missing missing fs refl refl tt h)
      defaults-clear t e x u (a_value v g) f h = variable-clear d default v (clear-more c d allows elsewhere v (value-clear c v g h))

      inside-clear : (ts os us : Trees) → Moves default context error ts os us → trees_form s-Statement s-Statement ts ≡ true → ClearAll c elsewhere ts → ClearAll d elsewhere us
      inside-clear ts os us no_more f h = tt
      inside-clear ts os us (stays {t = t} {ts = ts'} {os = os'} {us = us'} e r) f h = inside-clear ts' os' us' r (first-formed s-Statement t ts' f).1 h.1
      inside-clear ts os us (plain {t = t} {ts = ts'} {os = os'} {us = us'} e r) f h = (clear-more c d allows elsewhere t h.0, inside-clear ts' os' us' r (first-formed s-Statement t ts' f).1 h.1)
      inside-clear ts os us (declares {d = e} {u = u} {xs = xs} {ts = ts'} {os = os'} {us = us'} g r) f h = let parts = first-formed s-Statement e ts' f in (declares-clear s-Statement e u xs g parts.0 h.0, inside-clear ts' os' us' r parts.1 h.1)
      inside-clear ts os us (exports {l = k} {d = e} {u = u} {xs = xs} {ts = ts'} {os = os'} {us = us'} g r) f h = let parts = first-formed s-Statement (export_with k e) ts' f in (declares-clear s-Declaration e u xs g (exported-part k e parts.0) h.0.2.0, inside-clear ts' os' us' r parts.1 h.1)
      inside-clear ts os us (default_export_of {l = k} {d = e} {x = x} {u = u} {ts = ts'} {os = os'} {us = us'} g r) f h = let parts = first-formed s-Statement (default_with k e) ts' f in (defaults-clear (default_with k e) e x u g (default-part k e parts.0) h.0.2.0, inside-clear ts' os' us' r parts.1 h.1)

      -- AND OUTSIDE, where what is declared inside is declared at the top

      abbrev Tops : List (List Name) → Type 0
      Tops gs = (x : Text) → Found x gs → d.top x ≡ true

      export-left : (up : List Ancestor) → Stands up → (o : Sort) (t e u : Tree) (xs : List Tree) → Declares default context error e xs u → has_form o e ≡ true → Tops (claims is_owned vp u) → Clear d elsewhere (export_of m.split t xs)
      export-left up q o t e u xs g f tops =
          let n = declares-names up q o e u xs g f in
          export-clear d t xs (found-listed d.top xs (λ x h. tops x (subst (λ (gs : List (List Name)). Found x gs) (sym n.new) h)))

      left-clear : (t : Tree) (b : Bound) → d.top b.name ≡ true → Clear d elsewhere (default_export m t (identifier b))
      left-clear t b h = (tt, refl, (tt, (((tt, refl, ((tt, (λ j. not (h j)), tt), ((tt, refl, tt), tt))), tt), (tt, (tt, tt)))))

      by-made : (b : Bound) (e : Tree) → IsText b → IsFormed e → Tops (claims is_owned vp (declaration_node (codes "var") (declarator_with (identifier b) e ∷ []))) → d.top b.name ≡ true
      by-made b e h f tops = tops b.name (subst (λ (gs : List (List Name)). Found b.name gs) (sym (made-names l vp p b e h f)) (found-one b.name))

      default-left : (t e x u : Tree) → Defaults default context error t e x u → has_form s-ExportDefault e ≡ true → Tops (claims is_owned vp u) → Clear d elsewhere (default_export m t x)
      default-left t e x u (named_class k y fs) f tops =
          let text = name-text y (class-name s-ExportDefault k y fs f) in
          left-clear t (bound_as (label_of y)) (by-made (bound_as (label_of y)) (node ClassExpression k (one (m.inside k y) then fs)) text (marked-class-formed s-ExportDefault k y fs (symbol_of k ∷ []) f) tops)
      default-left t e x u (bare_class k fs) f tops = left-clear t default (by-made default (node ClassExpression k (missing then fs)) default_named (bare-class-formed s-ExportDefault k fs f) tops)
      default-left t e x u (a_value v g) f tops = left-clear t default (by-made default v default_named g tops)

      outside-clear : (ts os us : Trees) → Moves default context error ts os us → trees_form s-Statement s-Statement ts ≡ true → Tops (claims_all is_owned vp us) → ClearAll c elsewhere ts → ClearAll d elsewhere os
      outside-clear ts os us no_more f tops h = tt
      outside-clear ts os us (stays {t = t} {ts = ts'} {os = os'} {us = us'} e r) f tops h = (clear-more c d allows elsewhere t h.0, outside-clear ts' os' us' r (first-formed s-Statement t ts' f).1 tops h.1)
      outside-clear ts os us (plain {t = t} {ts = ts'} {os = os'} {us = us'} e r) f tops h = outside-clear ts' os' us' r (first-formed s-Statement t ts' f).1 (λ x q. tops x (found-last x (claims is_owned vp t) (claims_all is_owned vp us') q)) h.1
      outside-clear ts os us (declares {d = e} {u = u} {xs = xs} {ts = ts'} {os = os'} {us = us'} g r) f tops h = outside-clear ts' os' us' r (first-formed s-Statement e ts' f).1 (λ x q. tops x (found-last x (claims is_owned vp u) (claims_all is_owned vp us') q)) h.1
      outside-clear ts os us (exports {l = k} {d = e} {u = u} {xs = xs} {ts = ts'} {os = os'} {us = us'} g r) f tops h =
          let parts = first-formed s-Statement (export_with k e) ts' f in (
            export-left (program_list l) (at-top l) s-Declaration (export_with k e) e u xs g (exported-part k e parts.0) (λ x q. tops x (found-first x (claims is_owned vp u) (claims_all is_owned vp us') q)),
            outside-clear ts' os' us' r parts.1 (λ x q. tops x (found-last x (claims is_owned vp u) (claims_all is_owned vp us') q)) h.1,
          )
      outside-clear ts os us (default_export_of {l = k} {d = e} {x = y} {u = u} {ts = ts'} {os = os'} {us = us'} g r) f tops h =
          let parts = first-formed s-Statement (default_with k e) ts' f in (
            default-left (default_with k e) e y u g (default-part k e parts.0) (λ x q. tops x (found-first x (claims is_owned vp u) (claims_all is_owned vp us') q)),
            outside-clear ts' os' us' r parts.1 (λ x q. tops x (found-last x (claims is_owned vp u) (claims_all is_owned vp us') q)) h.1,
          )

joined-clear : (d : Around) (os ts : Trees) → ClearAll d elsewhere os → ClearAll d elsewhere ts → ClearAll d elsewhere (joined_trees os ts)
joined-clear d empty ts h k = k
joined-clear d (o before os) ts h k = (h.0, joined-clear d os ts h.1 k)

-- THE PROGRAM

module _ (default context error : Bound) (default_named : IsText default) (used : Text → Bool) (default_free : used default.name ≡ false) (context_free : used context.name ≡ false) (l : Label) (in_module : first_text l.texts ≡ codes "module") (d : Field) (ts os us : Trees) (r : Moves default context error ts os us) where
  abbrev old : Tree
  old = program_with l d ts

  abbrev new : Tree
  new = program_with l d (lowered context error os us)

  abbrev old_fields : Fields
  old_fields = d then (statements ts then done)

  abbrev new_fields : Fields
  new_fields = d then (statements (lowered context error os us) then done)

  -- the lists of the directives, of what stays, and of what is in the block
  abbrev directives : List (List Name)
  directives = claims_by is_owned (above Program l old_fields 0 1 ∷ []) d

  abbrev left : List (List Name)
  left = claims_all is_owned (program_list l) os

  abbrev moved : List Ancestor → List (List Name)
  moved vp = claims is_owned vp (context_node context) ++ claims_all is_owned vp us

  new-lists : owned elsewhere Program l new_fields ≡ (directives ++ left) ++ moved (in_made (program_list l))
  new-lists =
      (λ i. directives ++ append-nil (claims_all is_owned (program_list l) (lowered context error os us)) i)
      ∙ (λ i. directives ++ joined-claims used used (program_list l) os (protected context error us before empty) i)
      ∙ (λ i. directives ++ (left ++ append-nil (claims is_owned (program_list l) (protected context error us)) i))
      ∙ (λ i. directives ++ (left ++ protected-claims (program_list l) context error us i))
      ∙ sym (append_assoc directives left (moved (in_made (program_list l))))

  module _ (f : has_form s-Program old ≡ true) (k : Keeps [] old) where
    list-form : trees_form s-Statement s-Statement ts ≡ true
    list-form = program-list l d ts f

    all-sorted : (vp : List Ancestor) → InBlock l vp → Sorts used (claims_all is_owned (program_list l) ts) left (claims_all is_owned vp us)
    all-sorted vp p = sorted default context error default_named l vp p used default_free (ancestor Program l old_fields 1 0 ∷ []) ts os us r list-form k.1.1.0

    sorted-program : Sorts used (directives ++ claims_all is_owned (program_list l) ts) (directives ++ left) (moved (in_made (program_list l)))
    sorted-program = comes context.name context_free (sorts-stay used directives (all-sorted (in_made (program_list l)) (from-outside l)))

    pub program-clear : has_form s-Program new ≡ true → Clear (around used old) elsewhere old → Clear (around anything new) elsewhere new
    program-clear g c =
        let old_distinct = subst (λ (gs : List (List Name)). Distinct used [] (directives ++ gs)) (append-nil (claims_all is_owned (program_list l) ts)) c.0 in
        let new_distinct = subst (λ (gs : List (List Name)). Distinct anything [] gs) (sym new-lists) (sorts-apart used sorted-program old_distinct) in
        let inside_distinct = second-apart used (comes context.name context_free (all-sorted made_here (from-inside l in_module))) (last-apart used directives (claims_all is_owned (program_list l) ts) old_distinct) in (
          new_distinct,
          refl,
          (
            clear-more-by (around used old) (around anything new) allows elsewhere d c.2.0,
            (
              joined-clear (around anything new) os (protected context error us before empty)
                  (outside-clear default context error default_named l (in_made (program_list l)) (from-outside l) (around used old) (around anything new) allows ts os us r list-form tops c.2.1.0)
                  (protected-clear (around anything new) elsewhere context error us inside_distinct refl (inside-clear default context error default_named l (in_made (program_list l)) (from-outside l) (around used old) (around anything new) allows ts os us r list-form c.2.1.0), tt),
              tt,
            ),
          ),
        )
      where
        -- what is found in the lists is declared at the top
        top-new : (x : Text) → Found x ((directives ++ left) ++ moved (in_made (program_list l))) → (around anything new).top x ≡ true
        top-new x e = top-says Program l new_fields g x ∙ joined-any (is_same_name Scope 1 x) (owned elsewhere Program l new_fields) [] ∙ (λ i. any_list (is_same_name Scope 1 x) (new-lists i) || false) ∙ (λ i. e i || false)

        tops : (x : Text) → Found x (claims_all is_owned (in_made (program_list l)) us) → (around anything new).top x ≡ true
        tops x e = top-new x (found-last x (directives ++ left) (moved (in_made (program_list l))) (found-last x (claims is_owned (in_made (program_list l)) (context_node context)) (claims_all is_owned (in_made (program_list l)) us) e))

        or-left : (a : Bool) → (a || false) ≡ true → a ≡ true
        or-left true q = refl
        or-left false q = q

        stays-on-top : (x : Text) → (around used old).top x ≡ true → (around anything new).top x ≡ true
        stays-on-top x e =
            let was = sym (joined-any (is_same_name Scope 1 x) (owned elsewhere Program l old_fields) []) ∙ sym (top-says Program l old_fields f x) ∙ e in
            let found = or-left (any_list (is_same_name Scope 1 x) (owned elsewhere Program l old_fields)) was in
            let listed : Found x (directives ++ claims_all is_owned (program_list l) ts) = (λ i. any_list (is_same_name Scope 1 x) (directives ++ sym (append-nil (claims_all is_owned (program_list l) ts)) i)) ∙ found in
            top-new x (lists-append (is_same_name Scope 1 x) (directives ++ left) (moved (in_made (program_list l))) ∙ sorts-found used x sorted-program listed)

        allows : Allows (around used old) (around anything new)
        allows = record { used = λ x e. refl; privates = λ x e. e; top = stays-on-top }
