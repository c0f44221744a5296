-- What becomes of each statement of a module's list: it stays outside, it moves as it is, or it is a declaration, which is another one inside, and of an
-- exported one an export stays outside.
use Rattle.std.proofs.Common.{◌≡◌, refl, subst, sym, List, [], ◌∷◌}
use Rattle.std.specs.Prelude.{Bool, true, false, if◌then◌else◌, codes}
use Rattle.std.proofs.lemmas.Bool.{and_parts}
use Rattle.es_tree.specs.Attributes.{child_entries}
use Rattle.es_tree.specs.HasForm.{fields_form, has_form, trees_form}
use Rattle.es_tree.specs.StaticRules.{any_has_node}
use Rattle.es_tree.specs.Tree.{Tree, node, Label, Fields, done, ◌then◌, Field, missing, one, many, Trees, empty, ◌before◌, kind_of}
use Rattle.es_tree.specs.declared.ast_type.AstType.{AstType}
use Rattle.es_tree.specs.declared.ast_type.AstType.TheVariants.{ClassDeclaration, ClassExpression, ExportAllDeclaration, ExportDefaultDeclaration, ExportNamedDeclaration, FunctionDeclaration, ImportDeclaration, VariableDeclaration, VariableDeclarator}
use Rattle.es_tree.specs.declared.table.Sort.TheVariants.{Declaration as s-Declaration, ExportDefault as s-ExportDefault, Expression as s-Expression, Statement as s-Statement, VariableDeclarator as s-VariableDeclarator}
use Rattle.es_tree.proofs.NodeForm.{node_form}
use Rattle.es_resolution.specs.Declarations.{Bound}
use Rattle.es_steps.specs.Nodes.{joined_trees}
use Rattle.es_steps.specs.UsingBlocks.{method_call, protected}
use Rattle.es_steps.proofs.FormLists.{first-formed}
use Rattle.es_valid_names.proofs.Claims.{Around, Clear, ClearAll, elsewhere}
use Rattle.es_using_rows.specs.Used.{used_declarator, used_declarators}
use Rattle.es_using_rows.specs.UsingPlaces.{is_using_word}
use Rattle.es_export_splits.specs.Splits as splits
use Rattle.es_export_splits.proofs.ExportNames.{export_with}
use Rattle.es_using_modules.specs.ModuleTops.{Makes, by_bounds, by_var, as_value, as_variables, default_export, inside, left_outside, moved_inside, outside, stays_outside, variable}

-- a statement that moves as it is
abbrev pub is_plain : AstType → Bool
is_plain VariableDeclaration = false
is_plain FunctionDeclaration = false
is_plain ClassDeclaration = false
is_plain ImportDeclaration = false
is_plain ExportAllDeclaration = false
is_plain ExportNamedDeclaration = false
is_plain ExportDefaultDeclaration = false
is_plain _ = true

abbrev pub default_with : Label → Tree → Tree
default_with l d = node ExportDefaultDeclaration l (one d then done)

-- the list that is made of what is outside and of what is inside
abbrev pub lowered : Bound → Bound → Trees → Trees → Trees
lowered context error os us = joined_trees os (protected context error us before empty)

-- a declarator as it is, or with its value passed to the context
pub data Becomes (c : Bound) : Tree → Tree → Type 0 where
  as_is : (d : Tree) → Becomes c d d
  passed : (l : Label) (x e : Tree) → Becomes c (node VariableDeclarator l (one x then one e then done)) (node VariableDeclarator l (one x then one (method_call c (codes "u") (e ∷ [])) then done))

pub data AllBecome (c : Bound) : Trees → Trees → Type 0 where
  ended : AllBecome c empty empty
  more : {d e : Tree} {ds es : Trees} → Becomes c d e → AllBecome c ds es → AllBecome c (d before ds) (e before es)

module _ (default context error : Bound) where
  abbrev m : Makes
  m = by_bounds default context error

  -- a declaration, the names that it declares, and what it is inside
  pub data Declares : Tree → List Tree → Tree → Type 0 where
    by_variables : (l : Label) (ds es : Trees) → AllBecome context ds es → Declares (node VariableDeclaration l (many ds then done)) (splits.names_of_declarators ds) (node VariableDeclaration (by_var l) (many es then done))
    by_class : (l : Label) (c : Tree) (fs : Fields) → Declares (node ClassDeclaration l (one c then fs)) (c ∷ []) (as_value m l c fs)

  -- what a default export exports, the name that it has inside, and what it is there
  pub data Defaults (t : Tree) : Tree → Tree → Tree → Type 0 where
    named_class : (l : Label) (c : Tree) (fs : Fields) → Defaults t (node ClassDeclaration l (one c then fs)) (m.split.again c) (as_value m l c fs)
    bare_class : (l : Label) (fs : Fields) → Defaults t (node ClassDeclaration l (missing then fs)) (m.default t) (variable m t (m.default t) (node ClassExpression l (missing then fs)))
    a_value : (e : Tree) → has_form s-Expression e ≡ true → Defaults t e (m.default t) (variable m t (m.default t) e)

  -- a list, what is outside of it, and what is inside
  pub data Moves : Trees → Trees → Trees → Type 0 where
    no_more : Moves empty empty empty
    stays : {t : Tree} {ts os us : Trees} → stays_outside t ≡ true → Moves ts os us → Moves (t before ts) (t before os) us
    plain : {t : Tree} {ts os us : Trees} → is_plain (kind_of t) ≡ true → Moves ts os us → Moves (t before ts) os (t before us)
    declares : {d u : Tree} {xs : List Tree} {ts os us : Trees} → Declares d xs u → Moves ts os us → Moves (d before ts) os (u before us)
    exports : {l : Label} {d u : Tree} {xs : List Tree} {ts os us : Trees} → Declares d xs u → Moves ts os us → Moves (export_with l d before ts) (splits.export_of m.split (export_with l d) xs before os) (u before us)
    default_export_of : {l : Label} {d x u : Tree} {ts os us : Trees} → Defaults (default_with l d) d x u → Moves ts os us → Moves (default_with l d before ts) (default_export m (default_with l d) x before os) (u before us)

  -- THE STATEMENTS of a list that has form and keeps the rules of exports

  abbrev Outside : Tree → Trees → Trees
  Outside t os = if stays_outside t then t before os else left_outside m t os

  abbrev Inside : Tree → Trees → Trees
  Inside t us = if stays_outside t then us else moved_inside m t before us

  abbrev Moved : Tree → Type 0
  Moved t = (ts os us : Trees) → Moves ts os us → Moves (t before ts) (Outside t os) (Inside t us)

  pub all-same : (ds : Trees) → AllBecome context ds ds
  all-same empty = ended
  all-same (d before ds) = more (as_is d) (all-same ds)

  used-one : (d : Tree) → Becomes context d (used_declarator m.used 0 d)
  used-one (node VariableDeclarator l (one x then (one e then done))) = passed l x e
  used-one (node k l fs) = as_is _

  all-used : (ds : Trees) → AllBecome context ds (used_declarators m.used 0 ds)
  all-used empty = ended
  all-used (d before ds) = more (used-one d) (all-used ds)

  variables : (b : Bool) (ds : Trees) → AllBecome context ds (if b then used_declarators m.used 0 ds else ds)
  variables true ds = all-used ds
  variables false ds = all-same ds

  declares-variables : (l : Label) (ds : Trees) → Declares (node VariableDeclaration l (many ds then done)) (splits.names_of_declarators ds) (as_variables m l ds)
  declares-variables l ds = by_variables l ds _ (variables (is_using_word l.texts) ds)

  -- an export with nothing beside what it declares
  abbrev AloneFields : Fields → Type 0
  AloneFields fs = fs ≡ (many empty then missing then many empty then done)

  alone : (l : Label) (fs : Fields) → fields_form ExportNamedDeclaration l (child_entries ExportNamedDeclaration) (missing then fs) ≡ true → any_has_node fs ≡ false → AloneFields fs
  alone l (many empty then missing then many empty then done) f e = refl
  alone l (many empty then missing then many (t before ts) then fs) f e = absurd (let no : true ≡ false = e in cc no)
  alone l (many empty then one t then fs) f e = absurd (let no : true ≡ false = e in cc no)
  alone l (many (t before ts) then fs) f e = absurd (let no : true ≡ false = e in cc no)
  alone l fs f e = absurd (let no : false ≡ true = f in cc no)

  no-second : (l : Label) (ds : Trees) (g : Field) (fs : Fields) → fields_form VariableDeclaration l (child_entries VariableDeclaration) (many ds then (g then fs)) ≡ true → ⊥
  no-second l empty g fs f = cc (let no : false ≡ true = f in no)
  no-second l (d before ds) g fs f = cc (let no : false ≡ true = (and_parts (trees_form s-VariableDeclarator s-VariableDeclarator (d before ds)) false f).1 in no)

  exported : (c : Around) (l : Label) (d : Tree) → has_form s-Declaration d ≡ true → Clear c elsewhere d → Moved (export_with l d)
  exported c l (node FunctionDeclaration k gs) f h ts os us r = stays refl r
  exported c l (node VariableDeclaration k (many ds then done)) f h ts os us r = exports (declares-variables k ds) r
  exported c l (node ClassDeclaration k (one x then gs)) f h ts os us r = exports (by_class k x gs) r
  exported c l (node VariableDeclaration k (many ds then (g then gs))) f h ts os us r = absurd (no-second k ds g gs (node_form s-Declaration VariableDeclaration k (many ds then (g then gs)) f).children)
  exported c l (node ClassDeclaration k (missing then gs)) f h ts os us r = absurd (let no : true ≡ false = h.1 in cc no)
  exported c l (node VariableDeclaration k gs) f h ts os us r = absurd (let no : false ≡ true = (node_form s-Declaration VariableDeclaration k gs f).children in cc no)
  exported c l (node ClassDeclaration k gs) f h ts os us r = absurd (let no : false ≡ true = (node_form s-Declaration ClassDeclaration k gs f).children in cc no)
  exported c l (node j k gs) f h ts os us r = absurd (let no : false ≡ true = (node_form s-Declaration j k gs f).sort in cc no)

  by_default : (l : Label) (d : Tree) → has_form s-ExportDefault d ≡ true → Moved (default_with l d)
  by_default l (node FunctionDeclaration k gs) f ts os us r = stays refl r
  by_default l (node ClassDeclaration k (one x then gs)) f ts os us r = default_export_of (named_class k x gs) r
  by_default l (node ClassDeclaration k (missing then gs)) f ts os us r = default_export_of (bare_class k gs) r
  by_default l (node ClassDeclaration k gs) f ts os us r = absurd (let no : false ≡ true = (node_form s-ExportDefault ClassDeclaration k gs f).children in cc no)
  by_default l (node j k gs) f ts os us r = default_export_of (a_value (node j k gs) f) r

  moves-one : (c : Around) (t : Tree) → has_form s-Statement t ≡ true → Clear c elsewhere t → Moved t
  moves-one c (node FunctionDeclaration l fs) f h ts os us r = stays refl r
  moves-one c (node ImportDeclaration l fs) f h ts os us r = stays refl r
  moves-one c (node ExportAllDeclaration l fs) f h ts os us r = stays refl r
  moves-one c (node ExportNamedDeclaration l (missing then fs)) f h ts os us r = stays refl r
  moves-one c (node ExportNamedDeclaration l (one d then fs)) f h ts os us r =
      let parts = and_parts (has_form s-Declaration d) _ (node_form s-Statement ExportNamedDeclaration l (one d then fs) f).children in
      subst (λ (gs : Fields). Moved (node ExportNamedDeclaration l (one d then gs))) (sym (alone l fs parts.1 h.1)) (exported c l d parts.0 h.2.0) ts os us r
  moves-one c (node ExportDefaultDeclaration l (one d then done)) f h ts os us r = by_default l d (and_parts (has_form s-ExportDefault d) true (node_form s-Statement ExportDefaultDeclaration l (one d then done) f).children).0 ts os us r
  moves-one c (node ExportDefaultDeclaration l (one d then (g then fs))) f h ts os us r = absurd (let no : false ≡ true = (and_parts (has_form s-ExportDefault d) false (node_form s-Statement ExportDefaultDeclaration l (one d then (g then fs)) f).children).1 in cc no)
  moves-one c (node VariableDeclaration l (many ds then done)) f h ts os us r = declares (declares-variables l ds) r
  moves-one c (node VariableDeclaration l (many ds then (g then fs))) f h ts os us r = absurd (no-second l ds g fs (node_form s-Statement VariableDeclaration l (many ds then (g then fs)) f).children)
  moves-one c (node ClassDeclaration l (one x then fs)) f h ts os us r = declares (by_class l x fs) r
  moves-one c (node ClassDeclaration l (missing then fs)) f h ts os us r = absurd (let no : true ≡ false = h.1 in cc no)
  moves-one c (node ExportNamedDeclaration l fs) f h ts os us r = absurd (let no : false ≡ true = (node_form s-Statement ExportNamedDeclaration l fs f).children in cc no)
  moves-one c (node ExportDefaultDeclaration l fs) f h ts os us r = absurd (let no : false ≡ true = (node_form s-Statement ExportDefaultDeclaration l fs f).children in cc no)
  moves-one c (node VariableDeclaration l fs) f h ts os us r = absurd (let no : false ≡ true = (node_form s-Statement VariableDeclaration l fs f).children in cc no)
  moves-one c (node ClassDeclaration l fs) f h ts os us r = absurd (let no : false ≡ true = (node_form s-Statement ClassDeclaration l fs f).children in cc no)
  moves-one c (node k l fs) f h ts os us r = plain refl r

  pub moves-are : (c : Around) (ts : Trees) → trees_form s-Statement s-Statement ts ≡ true → ClearAll c elsewhere ts → Moves ts (outside m ts) (inside m ts)
  moves-are c empty f h = no_more
  moves-are c (t before ts) f h = let parts = first-formed s-Statement t ts f in moves-one c t parts.0 h.0 ts (outside m ts) (inside m ts) (moves-are c ts parts.1 h.1)
