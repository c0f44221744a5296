-- What scopes declare where helpers are called, or handed on, by other expressions: the same as before, since no call is a name or a pattern.
use Rattle.std.proofs.Common.{◌≡◌, refl, sym, ap, ◌∙◌, List, [], ◌∷◌, ◌++◌}
use Rattle.std.proofs.lemmas.Bool.{and_parts}
use Rattle.std.specs.Prelude.{◌||◌, Option, Some, None, Bool, true, false, not, codes, if◌then◌else◌}
use Rattle.es_tree.specs.BoundNames.{bound_identifiers, bound_in_field, bound_in_fields, bound_in_first, bound_in_second, bound_in_trees}
use Rattle.es_tree.specs.HasForm.{has_form, is_of_sort, same_type, trees_form}
use Rattle.es_tree.specs.Names.{first_text}
use Rattle.es_tree.specs.Scopes.{Declared, own_text}
use Rattle.es_tree.specs.Tree.{Tree, node, Label, Fields, done, ◌then◌, Field, missing, one, many, statements, Trees, empty, ◌before◌, kind_of}
use Rattle.es_tree.specs.Words.{Text}
use Rattle.es_tree.specs.declared.ast_type.AstType.{AstType}
use Rattle.es_tree.specs.declared.ast_type.AstType.TheVariants.{ArrayPattern, AssignmentPattern, BlockStatement, CallExpression, CatchClause, ExportNamedDeclaration, ForInStatement, ForOfStatement, ForStatement, Identifier, ImportDeclaration, ImportDefaultSpecifier, ImportNamespaceSpecifier, ImportSpecifier, LabeledStatement, ObjectPattern, PatternProperty, Program, RestElement, SwitchStatement, VariableDeclaration}
use Rattle.es_tree.specs.declared.helper.Helper.{Helper}
use Rattle.es_tree.specs.declared.table.Sort.{Sort}
use Rattle.es_tree.specs.declared.table.Sort.TheVariants.{ImportItem as s-ImportItem, Program as s-Program, VariableDeclarator as s-VariableDeclarator}
use Rattle.es_tree.proofs.NodeForm.{NodeForm, node_form}
use Rattle.es_resolution.proofs.AllForms.{All, AllAmong, AllBy, AllIn, all-tree}
use Rattle.es_statement_runs.specs.Kinds.{label_in}
use Rattle.es_statement_runs.specs.Names.{binding_word, cases_names, cases_use, declarations_names, declarator_bound, declarators_names, declared_as, first_bound, import_names, is_word, last_name, lexical_in, lexical_names, names_where, own_names, own_use, top_in, top_names, using_here, using_in, var_names, var_names_all, var_names_at, var_names_in}
use Rattle.es_helper_calls.proofs.Callees.{IsCallee, IsUse, callee-shape, handed-some, here-called, here-passed, use-shape}
use Rattle.es_helper_calls.proofs.Callees.IsUse.{a_call, a_pass}
use Rattle.es_helper_calls.proofs.Callees.IsCallee.{a_member}
use Rattle.es_helper_calls.specs.HelperCalls.{calling, calling_among, calling_by, calling_here, calling_in, calls_one, helper_of, used_helper, with_argument, with_callee}

as_append : (word : Text) (a b : List Tree) → declared_as word (a ++ b) ≡ declared_as word a ++ declared_as word b
as_append word [] b = refl
as_append word (x ∷ a) b = ap (λ (ds : List Declared). record { name = own_text x; kind = word } ∷ ds) (as_append word a b)

-- DECLARATORS AND SPECIFIERS are no calls, as form has it

abbrev IsNoCall : Tree → Type 0
IsNoCall t = same_type (kind_of t) CallExpression ≡ false

abbrev NoCalls : Trees → Type 0
NoCalls empty = Unit {0}
NoCalls (t before ts) = IsNoCall t × NoCalls ts

abbrev pub Plainly : AstType → Label → Fields → Type 0
Plainly VariableDeclaration l (many ds then fs) = NoCalls ds
Plainly ImportDeclaration l (many ts then fs) = NoCalls ts
Plainly Identifier l fs = fs ≡ done
Plainly k l fs = Unit {0}

-- nothing of this sort is a call
abbrev HasNoCall : Sort → Type 0
HasNoCall s = (k : AstType) → is_of_sort s k ≡ true → same_type k CallExpression ≡ false

declarator_sort : HasNoCall s-VariableDeclarator
declarator_sort CallExpression h = absurd (cc h)
declarator_sort _ h = refl

item_sort : HasNoCall s-ImportItem
item_sort CallExpression h = absurd (cc h)
item_sort _ h = refl

none_calls : (s : Sort) → HasNoCall s → (ts : Trees) → trees_form s s ts ≡ true → NoCalls ts
none_calls s none empty h = tt
none_calls s none (node k l fs before empty) h = (none k (node_form s k l fs (and_parts (has_form s (node k l fs)) true h).0).sort, tt)
none_calls s none (node k l fs before (u before ts)) h =
    let d = and_parts (has_form s (node k l fs)) (trees_form s s (u before ts)) h in
    (none k (node_form s k l fs d.0).sort, none_calls s none (u before ts) d.1)

pub plain_form : (s : Sort) (k : AstType) (l : Label) (fs : Fields) → NodeForm s k l fs → Plainly k l fs
plain_form s VariableDeclaration l (many empty then fs) h = tt
plain_form s VariableDeclaration l (many (d before ds) then fs) h = none_calls s-VariableDeclarator declarator_sort (d before ds) (and_parts (trees_form s-VariableDeclarator s-VariableDeclarator (d before ds)) _ h.children).0
plain_form s ImportDeclaration l (many ts then fs) h = none_calls s-ImportItem item_sort ts (and_parts (trees_form s-ImportItem s-ImportItem ts) _ h.children).0
plain_form s Identifier l done h = refl
plain_form s Identifier l (f then fs) h = absurd (cc h.children)
plain_form s _ l fs h = tt

pub formed_plainly : (t : Tree) → has_form s-Program t ≡ true → All Plainly t
formed_plainly t h = all-tree Plainly plain_form s-Program t h

-- a callee by which a helper is called declares nothing
callee_bare : (f : Tree) → IsCallee f → All Plainly f → var_names f ≡ []
callee_bare f (a_member e) h = rw (h.1.0.0, h.1.1.0.0) refl

module _ (c : Helper → Tree) (bare : (h : Helper) → var_names (c h) ≡ []) where
  -- WHAT PATTERNS BIND

  mutual
    bound_now : (word : Text) (t : Tree) → declared_as word (bound_identifiers (calling c t)) ≡ declared_as word (bound_identifiers t)
    bound_now word (node Identifier l fs) = refl
    bound_now word (node ObjectPattern l fs) = first_now word fs
    bound_now word (node PatternProperty l fs) = second_now word fs
    bound_now word (node ArrayPattern l fs) = fields_now word fs
    bound_now word (node AssignmentPattern l fs) = first_now word fs
    bound_now word (node RestElement l fs) = first_now word fs
    bound_now word (node _ l fs) = refl

    first_now : (word : Text) (fs : Fields) → declared_as word (bound_in_first (calling_in c fs)) ≡ declared_as word (bound_in_first fs)
    first_now word done = refl
    first_now word (f then fs) = field_now word f

    second_now : (word : Text) (fs : Fields) → declared_as word (bound_in_second (calling_in c fs)) ≡ declared_as word (bound_in_second fs)
    second_now word done = refl
    second_now word (f then fs) = first_now word fs

    fields_now : (word : Text) (fs : Fields) → declared_as word (bound_in_fields (calling_in c fs)) ≡ declared_as word (bound_in_fields fs)
    fields_now word done = refl
    fields_now word (f then fs) = rw (as_append word (bound_in_field (calling_by c f)) (bound_in_fields (calling_in c fs)), as_append word (bound_in_field f) (bound_in_fields fs), field_now word f, fields_now word fs) refl

    field_now : (word : Text) (f : Field) → declared_as word (bound_in_field (calling_by c f)) ≡ declared_as word (bound_in_field f)
    field_now word missing = refl
    field_now word (one t) = bound_now word t
    field_now word (many ts) = trees_now word ts
    field_now word (statements ts) = trees_now word ts

    trees_now : (word : Text) (ts : Trees) → declared_as word (bound_in_trees (calling_among c ts)) ≡ declared_as word (bound_in_trees ts)
    trees_now word empty = refl
    trees_now word (t before ts) = rw (as_append word (bound_identifiers (calling c t)) (bound_in_trees (calling_among c ts)), as_append word (bound_identifiers t) (bound_in_trees ts), bound_now word t, trees_now word ts) refl

  first_bound_now : (word : Text) (fs : Fields) → declared_as word (first_bound (calling_in c fs)) ≡ declared_as word (first_bound fs)
  first_bound_now word (one t then fs) = bound_now word t
  first_bound_now word _ = refl

  -- DECLARATIONS

  declarator_now : (word : Text) (d : Tree) → IsNoCall d → declared_as word (declarator_bound (calling c d)) ≡ declared_as word (declarator_bound d)
  declarator_now word (node CallExpression l fs) h = absurd (cc h)
  declarator_now word (node _ l fs) h = first_bound_now word fs

  declarators_now : (word : Text) (ds : Trees) → NoCalls ds → declarators_names word (calling_among c ds) ≡ declarators_names word ds
  declarators_now word empty h = refl
  declarators_now word (d before ds) h = λ i. declarator_now word d h.0 i ++ declarators_now word ds h.1 i

  declarations_now : (word : Text) (l : Label) (fs : Fields) → Plainly VariableDeclaration l fs → declarations_names word (calling_in c fs) ≡ declarations_names word fs
  declarations_now word l (many ds then fs) h = declarators_now word ds h
  declarations_now word l _ h = refl

  where_now : (b : Bool) (word : Text) (l : Label) (fs : Fields) → Plainly VariableDeclaration l fs → names_where b word (calling_in c fs) ≡ names_where b word fs
  where_now true word l fs h = declarations_now (binding_word word) l fs h
  where_now false word l fs h = refl

  lexical_now : (t : Tree) → All Plainly t → lexical_names (calling c t) ≡ lexical_names t
  lexical_now (node VariableDeclaration l fs) h = where_now (not (is_word (codes "var") (first_text l.texts))) (first_text l.texts) l fs h.0
  lexical_now (node _ l fs) h = refl

  using_now : (t : Tree) → using_here (calling c t) ≡ using_here t
  using_now (node VariableDeclaration l fs) = refl
  using_now (node _ l fs) = refl

  lexical_all_now : (ts : Trees) → AllAmong Plainly ts → lexical_in (calling_among c ts) ≡ lexical_in ts
  lexical_all_now empty h = refl
  lexical_all_now (t before ts) h = λ i. lexical_now t h.0 i ++ lexical_all_now ts h.1 i

  pub using_all_now : (ts : Trees) → using_in (calling_among c ts) ≡ using_in ts
  using_all_now empty = refl
  using_all_now (t before ts) = rw (using_now t, using_all_now ts) refl

  -- CASES, of which the list is the second field

  case_here : (o : Option Helper) (k : AstType) (l : Label) (f : Field) (fs : Fields) (cs : Trees) → cases_names (node k l (calling_here c o (f then fs)) before cs) ≡ cases_names (node k l (f then fs) before cs)
  case_here None k l f fs cs = refl
  case_here (Some h) k l f fs cs = at (calls_one (f then fs)) f fs
    where
      at : (b : Bool) (f : Field) (fs : Fields) → cases_names (node k l (if b then with_callee (c h) (f then fs) else with_argument (c h) (f then fs)) before cs) ≡ cases_names (node k l (f then fs) before cs)
      at true (one t) (statements ts then fs) = refl
      at true (one t) _ = refl
      at true _ fs = refl
      at false f (many ts then fs) = refl
      at false f _ = refl

  use_here : (o : Option Helper) (k : AstType) (l : Label) (f : Field) (fs : Fields) (cs : Trees) → cases_use (node k l (calling_here c o (f then fs)) before cs) ≡ cases_use (node k l (f then fs) before cs)
  use_here None k l f fs cs = refl
  use_here (Some h) k l f fs cs = at (calls_one (f then fs)) f fs
    where
      at : (b : Bool) (f : Field) (fs : Fields) → cases_use (node k l (if b then with_callee (c h) (f then fs) else with_argument (c h) (f then fs)) before cs) ≡ cases_use (node k l (f then fs) before cs)
      at true (one t) (statements ts then fs) = refl
      at true (one t) _ = refl
      at true _ fs = refl
      at false f (many ts then fs) = refl
      at false f _ = refl

  case_names_now : (cs : Trees) → AllAmong Plainly cs → cases_names (calling_among c cs) ≡ cases_names cs
  case_names_now empty h = refl
  case_names_now (node k l (f then (statements ts then fs)) before cs) h =
      case_here (used_helper k l (f then (statements ts then fs))) k l (calling_by c f) (statements (calling_among c ts) then calling_in c fs) (calling_among c cs) ∙ (λ i. lexical_all_now ts h.0.1.1.0 i ++ case_names_now cs h.1 i)
  case_names_now (node k l (f then (missing then fs)) before cs) h = case_here (used_helper k l (f then (missing then fs))) k l (calling_by c f) (missing then calling_in c fs) (calling_among c cs) ∙ case_names_now cs h.1
  case_names_now (node k l (f then (one t then fs)) before cs) h = case_here (used_helper k l (f then (one t then fs))) k l (calling_by c f) (one (calling c t) then calling_in c fs) (calling_among c cs) ∙ case_names_now cs h.1
  case_names_now (node k l (f then (many ts then fs)) before cs) h = case_here (used_helper k l (f then (many ts then fs))) k l (calling_by c f) (many (calling_among c ts) then calling_in c fs) (calling_among c cs) ∙ case_names_now cs h.1
  case_names_now (node k l (f then done) before cs) h = case_here (used_helper k l (f then done)) k l (calling_by c f) done (calling_among c cs) ∙ case_names_now cs h.1
  case_names_now (node k l done before cs) h = none_here (used_helper k l done) ∙ case_names_now cs h.1
    where
      none_here : (o : Option Helper) → cases_names (node k l (calling_here c o done) before calling_among c cs) ≡ cases_names (calling_among c cs)
      none_here None = refl
      none_here (Some g) = refl

  case_use_now : (cs : Trees) → cases_use (calling_among c cs) ≡ cases_use cs
  case_use_now empty = refl
  case_use_now (node k l (f then (statements ts then fs)) before cs) =
      use_here (used_helper k l (f then (statements ts then fs))) k l (calling_by c f) (statements (calling_among c ts) then calling_in c fs) (calling_among c cs) ∙ (λ i. using_all_now ts i || case_use_now cs i)
  case_use_now (node k l (f then (missing then fs)) before cs) = use_here (used_helper k l (f then (missing then fs))) k l (calling_by c f) (missing then calling_in c fs) (calling_among c cs) ∙ case_use_now cs
  case_use_now (node k l (f then (one t then fs)) before cs) = use_here (used_helper k l (f then (one t then fs))) k l (calling_by c f) (one (calling c t) then calling_in c fs) (calling_among c cs) ∙ case_use_now cs
  case_use_now (node k l (f then (many ts then fs)) before cs) = use_here (used_helper k l (f then (many ts then fs))) k l (calling_by c f) (many (calling_among c ts) then calling_in c fs) (calling_among c cs) ∙ case_use_now cs
  case_use_now (node k l (f then done) before cs) = use_here (used_helper k l (f then done)) k l (calling_by c f) done (calling_among c cs) ∙ case_use_now cs
  case_use_now (node k l done before cs) = none_here (used_helper k l done) ∙ case_use_now cs
    where
      none_here : (o : Option Helper) → cases_use (node k l (calling_here c o done) before calling_among c cs) ≡ cases_use (calling_among c cs)
      none_here None = refl
      none_here (Some g) = refl

  -- WHAT THE NODE'S OWN SCOPE DECLARES

  last_now : (fs : Fields) → last_name (calling_in c fs) ≡ last_name fs
  last_now done = refl
  last_now (one (node k l gs) then done) = refl
  last_now (one (node k l gs) then (f then fs)) = last_now (f then fs)
  last_now (missing then fs) = last_now fs
  last_now (many ts then fs) = last_now fs
  last_now (statements ts then fs) = last_now fs

  pub own_now : (k : AstType) (l : Label) (fs : Fields) → All Plainly (node k l fs) → own_names k (calling_in c fs) ≡ own_names k fs
  own_now BlockStatement l (statements ts then fs) h = lexical_all_now ts h.1.0
  own_now BlockStatement l _ h = refl
  own_now ForStatement l (one t then fs) h = lexical_now t h.1.0
  own_now ForStatement l _ h = refl
  own_now ForInStatement l (one t then fs) h = lexical_now t h.1.0
  own_now ForInStatement l _ h = refl
  own_now ForOfStatement l (one t then fs) h = lexical_now t h.1.0
  own_now ForOfStatement l _ h = refl
  own_now SwitchStatement l (f then (many cs then fs)) h = case_names_now cs h.1.1.0
  own_now SwitchStatement l _ h = refl
  own_now CatchClause l fs h = first_bound_now (codes "let") fs
  own_now ImportSpecifier l fs h = last_now fs
  own_now ImportDefaultSpecifier l fs h = last_now fs
  own_now ImportNamespaceSpecifier l fs h = last_now fs
  own_now _ l fs h = refl

  pub use_now : (k : AstType) (fs : Fields) → own_use k (calling_in c fs) ≡ own_use k fs
  use_now Program (f then (statements ts then fs)) = using_all_now ts
  use_now Program _ = refl
  use_now BlockStatement (statements ts then fs) = using_all_now ts
  use_now BlockStatement _ = refl
  use_now ForStatement (one t then fs) = using_now t
  use_now ForStatement _ = refl
  use_now ForOfStatement (one t then fs) = using_now t
  use_now ForOfStatement _ = refl
  use_now SwitchStatement (f then (many cs then fs)) = case_use_now cs
  use_now SwitchStatement _ = refl
  use_now _ fs = refl

  pub label_now : (k : AstType) (fs : Fields) → label_in k (calling_in c fs) ≡ label_in k fs
  label_now LabeledStatement (one (node k l gs) then fs) = refl
  label_now LabeledStatement _ = refl
  label_now _ fs = refl

  -- WHAT THE TOP DECLARES

  now_bare : (f : Tree) → IsCallee f → All Plainly f → var_names (calling c f) ≡ []
  now_bare f (a_member e) h = rw (h.1.0.0, h.1.1.0.0) refl

  vars_called : (g : Helper) (l : Label) (fs : Fields) → IsUse g CallExpression l fs → var_names_in (calling_in c fs) ≡ var_names_in fs → AllIn Plainly fs → var_names_in (calling_here c (Some g) (calling_in c fs)) ≡ var_names_in fs
  vars_called g l _ (a_call {f = f} {fs = fs} mark e) same h =
      let it = callee-shape f g e in
      let before_it : var_names (calling c f) ++ var_names_in (calling_in c fs) ≡ var_names f ++ var_names_in fs = same in
      let rest : var_names_in (calling_in c fs) ≡ var_names_in fs = (λ i. sym (now_bare f it h.0) i ++ var_names_in (calling_in c fs)) ∙ before_it ∙ (λ i. callee_bare f it h.0 i ++ var_names_in fs) in
      ap var_names_in (here-called c f fs g e) ∙ (λ i. bare g i ++ var_names_in (calling_in c fs)) ∙ rest ∙ (λ i. sym (callee_bare f it h.0) i ++ var_names_in fs)
  vars_called g l _ (a_pass {f = f} {t = t} {fs = fs} mark other e) same h =
      let none = now_bare t (callee-shape t g (handed-some (helper_of t) g e)) h.1.0.0 in
      ap var_names_in (here-passed c f t fs g other) ∙ (λ i. var_names (calling c f) ++ ((bare g i ++ []) ++ var_names_in (calling_in c fs))) ∙ (λ i. var_names (calling c f) ++ ((sym none i ++ []) ++ var_names_in (calling_in c fs))) ∙ same

  vars_here : (o : Option Helper) (l : Label) (fs : Fields) → used_helper CallExpression l fs ≡ o → var_names_in (calling_in c fs) ≡ var_names_in fs → AllIn Plainly fs → var_names_in (calling_here c o (calling_in c fs)) ≡ var_names_in fs
  vars_here None l fs e same h = same
  vars_here (Some g) l fs e same h = vars_called g l fs (use-shape CallExpression l fs g e) same h

  mutual
    vars_now : (t : Tree) → All Plainly t → var_names (calling c t) ≡ var_names t
    vars_now (node VariableDeclaration l fs) h = where_now (is_word (codes "var") (first_text l.texts)) (first_text l.texts) l fs h.0
    vars_now (node CallExpression l fs) h = vars_here (used_helper CallExpression l fs) l fs refl (vars_in_now fs h.1) h.1
    vars_now (node _ l fs) h = vars_in_now fs h.1

    vars_in_now : (fs : Fields) → AllIn Plainly fs → var_names_in (calling_in c fs) ≡ var_names_in fs
    vars_in_now done h = refl
    vars_in_now (f then fs) h = λ i. vars_at_now f h.0 i ++ vars_in_now fs h.1 i

    vars_at_now : (f : Field) → AllBy Plainly f → var_names_at (calling_by c f) ≡ var_names_at f
    vars_at_now missing h = refl
    vars_at_now (one t) h = vars_now t h
    vars_at_now (many ts) h = vars_all_now ts h
    vars_at_now (statements ts) h = vars_all_now ts h

    vars_all_now : (ts : Trees) → AllAmong Plainly ts → var_names_all (calling_among c ts) ≡ var_names_all ts
    vars_all_now empty h = refl
    vars_all_now (t before ts) h = λ i. vars_now t h.0 i ++ vars_all_now ts h.1 i

  item_now : (k : AstType) (l : Label) (fs : Fields) → same_type k CallExpression ≡ false → last_name (calling_here c (used_helper k l fs) (calling_in c fs)) ≡ last_name fs
  item_now CallExpression l fs h = absurd (cc h)
  item_now _ l fs h = last_now fs

  items_now : (ts : Trees) → NoCalls ts → import_names (calling_among c ts) ≡ import_names ts
  items_now empty h = refl
  items_now (node k l fs before ts) h = λ i. item_now k l fs h.0 i ++ items_now ts h.1 i

  top_now : (t : Tree) → All Plainly t → top_names (calling c t) ≡ top_names t
  top_now (node VariableDeclaration l fs) h = declarations_now (binding_word (first_text l.texts)) l fs h.0
  top_now (node ImportDeclaration l (many ts then fs)) h = items_now ts h.0
  top_now (node ImportDeclaration l fs) h = vars_now (node ImportDeclaration l fs) h
  top_now (node ExportNamedDeclaration l (one (node VariableDeclaration m fs) then gs)) h = declarations_now (binding_word (first_text m.texts)) m fs h.1.0.0
  top_now (node ExportNamedDeclaration l (one (node k m fs) then gs)) h = λ i. vars_now (node k m fs) h.1.0 i ++ vars_in_now gs h.1.1 i
  top_now (node ExportNamedDeclaration l fs) h = vars_now (node ExportNamedDeclaration l fs) h
  top_now (node k l fs) h = vars_now (node k l fs) h

  pub tops_now : (ts : Trees) → AllAmong Plainly ts → top_in (calling_among c ts) ≡ top_in ts
  tops_now empty h = refl
  tops_now (t before ts) h = λ i. top_now t h.0 i ++ tops_now ts h.1 i
