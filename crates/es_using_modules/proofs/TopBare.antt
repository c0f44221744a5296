-- `using` at the top of a module is lowered the same whatever ids and marks a program has: what is made is equal, but for these.
use Rattle.std.proofs.Common.{◌≡◌, refl, sym, ap, ◌∙◌, List, [], ◌∷◌, map}
use Rattle.std.specs.Prelude.{Bool, true, false, not, ◌&&◌, ◌||◌, Option, Some, codes, if◌then◌else◌}
use Rattle.es_tree.specs.Bare.{bare, bare_fields, bare_label, bare_trees}
use Rattle.es_tree.specs.Tree.{Tree, node, Label, Fields, done, ◌then◌, missing, many, one, statements, Trees, empty, ◌before◌}
use Rattle.es_tree.specs.Words.{Text}
use Rattle.es_tree.specs.declared.ast_type.AstType.{AstType}
use Rattle.es_tree.specs.declared.ast_type.AstType.TheVariants.{AssignmentExpression, BlockStatement, CallExpression, CatchClause, ClassDeclaration, ClassExpression, ExportDefaultDeclaration, ExportNamedDeclaration, ExportSpecifier, ExpressionStatement, FunctionDeclaration, Identifier, MemberExpression, TryStatement, VariableDeclaration, VariableDeclarator}
use Rattle.es_resolution.specs.Declarations.{Bound}
use Rattle.es_resolution.proofs.Placed.{Placed, PlacedAll}
use Rattle.es_steps.specs.Nodes.{joined_trees, made}
use Rattle.es_steps.specs.UsingBlocks.{error_name, is_using_node}
use Rattle.es_using_rows.proofs.UsedAlike.{has-bare}
use Rattle.es_using_rows.specs.Used as uses
use Rattle.es_using_rows.specs.UsingPlaces.{are_used, has_value, have_values, is_used, is_using_word, uses_in_list}
use Rattle.es_export_splits.specs.Splits as splits
use Rattle.es_export_splits.proofs.ExportBare.{declarators-bare}
use Rattle.es_using_modules.specs.ModuleTops.{Makes, as_value, as_variables, by_bounds, by_var, declared_inside, default_export, default_inside, default_local, inside, is_function, is_named_default, left_outside, moved_inside, names_declared, outside, some_default, stays_outside, takes_name, topped_list, variable}

-- TESTS

using-bare : (t : Tree) → is_using_node (bare t) ≡ is_using_node t
using-bare (node VariableDeclaration l fs) = refl
using-bare (node _ l fs) = refl

value-bare : (d : Tree) → has_value (bare d) ≡ has_value d
value-bare (node VariableDeclarator l (one x then one e then done)) = refl
value-bare _ = refl

values-bare : (ds : Trees) → have_values (bare_trees ds) ≡ have_values ds
values-bare empty = refl
values-bare (d before ds) = λ i. value-bare d i && values-bare ds i

used-bare : (t : Tree) → is_used (bare t) ≡ is_used t
used-bare (node VariableDeclaration l (many (d before ds) then done)) = λ i. is_using_word l.texts && values-bare (d before ds) i
used-bare _ = refl

all-used-bare : (ts : Trees) → are_used (bare_trees ts) ≡ are_used ts
all-used-bare empty = refl
all-used-bare (t before ts) = λ i. (not (using-bare t i) || used-bare t i) && all-used-bare ts i

pub uses-bare : (ts : Trees) → uses_in_list (bare_trees ts) ≡ uses_in_list ts
uses-bare ts = λ i. has-bare ts i && all-used-bare ts i

takes-bare : (d : Tree) → takes_name (bare d) ≡ takes_name d
takes-bare (node ClassDeclaration l (one c then fs)) = refl
takes-bare d = refl

named-bare : (t : Tree) → is_named_default (bare t) ≡ is_named_default t
named-bare (node ExportDefaultDeclaration l (one d then fs)) = takes-bare d
named-bare t = refl

pub some-bare : (ts : Trees) → some_default (bare_trees ts) ≡ some_default ts
some-bare empty = refl
some-bare (t before ts) = λ i. named-bare t i || some-bare ts i

function-bare : (d : Tree) → is_function (bare d) ≡ is_function d
function-bare (node FunctionDeclaration l fs) = refl
function-bare (node k l fs) = refl

stays-bare : (t : Tree) → stays_outside (bare t) ≡ stays_outside t
stays-bare (node ExportNamedDeclaration l (one d then fs)) = function-bare d
stays-bare (node ExportDefaultDeclaration l (one d then fs)) = function-bare d
stays-bare t = refl

-- NAMES of a declaration

declared-bare : (d : Tree) → names_declared (bare d) ≡ map bare (names_declared d)
declared-bare (node VariableDeclaration l (many ds then done)) = declarators-bare ds
declared-bare (node ClassDeclaration l (one c then fs)) = refl
declared-bare d = refl

-- WHAT IS MADE, without ids and marks, with these names of a default export and of the context

abbrev blank_name : Text → Tree
blank_name x = node Identifier (made (Some x ∷ []) []) done

abbrev blankly : Text → Text → Makes
blankly x c = record {
  used = record { context = λ n h. blank_name c; error = λ n h. blank_name error_name; word = λ y h. blank_name y; label = λ h texts flags. made texts flags; scope = λ h. made [] [] };
  split = record { again = λ t. blank_name (splits.text_of t); text = λ t. blank_name (splits.text_of t); label = λ t. made [] [] };
  default = λ t. blank_name x;
  inside = λ l t. t;
}

pub record IsBlank (x c : Text) (m : Makes) : Type 0 where
  pub context : (h : Tree) → bare (m.used.context 0 h) ≡ blank_name c
  pub error : (h : Tree) → bare (m.used.error 0 h) ≡ blank_name error_name
  pub word : (y : Text) (h : Tree) → bare (m.used.word y h) ≡ blank_name y
  pub label : (h : Tree) (texts : List (Option Text)) (flags : List Bool) → bare_label (m.used.label h texts flags) ≡ made texts flags
  pub scope : (h : Tree) → bare_label (m.used.scope h) ≡ made [] []
  pub again : (t : Tree) → bare (m.split.again t) ≡ blank_name (splits.text_of t)
  pub text : (t : Tree) → bare (m.split.text t) ≡ blank_name (splits.text_of t)
  pub export_label : (t : Tree) → bare_label (m.split.label t) ≡ made [] []
  pub default : (t : Tree) → bare (m.default t) ≡ blank_name x
  pub inside : (l cl : Label) → bare (m.inside l (node Identifier cl done)) ≡ bare (node Identifier cl done)

pub bounds-blank : (d c e : Bound) → e.name ≡ error_name → IsBlank d.name c.name (by_bounds d c e)
bounds-blank d c e same = record { context = λ h. refl; error = λ h i. blank_name (same i); word = λ y h. refl; label = λ h texts flags. refl; scope = λ h. refl; again = λ t. refl; text = λ t. refl; export_label = λ t. refl; default = λ t. refl; inside = λ l cl. refl }

text-bare : (x : Tree) → splits.text_of (bare x) ≡ splits.text_of x
text-bare (node k l fs) = refl

module _ (x c : Text) (m : Makes) (b : IsBlank x c m) where
  abbrev k : Makes
  k = blankly x c

  -- THE CALLS of the context

  member-bare : (h h' o : Tree) (o' : Tree) (p : Text) → bare o ≡ o' → bare (uses.member m.used h o p) ≡ uses.member k.used h' o' p
  member-bare h h' o o' p e = λ i. node MemberExpression (b.label h [] (false ∷ false ∷ []) i) (one (e i) then one (b.word p h i) then done)

  call-bare : (h h' f f' : Tree) (args args' : Trees) → bare f ≡ f' → bare_trees args ≡ args' → bare (uses.call m.used h f args) ≡ uses.call k.used h' f' args'
  call-bare h h' f f' args args' e d = λ i. node CallExpression (b.label h [] (false ∷ []) i) (one (e i) then many (d i) then done)

  method-bare : (h h' : Tree) (p : Text) (args args' : Trees) → bare_trees args ≡ args' → bare (uses.method m.used 0 h p args) ≡ uses.method k.used 0 h' p args'
  method-bare h h' p args args' d = call-bare h h' (uses.member m.used h (m.used.context 0 h) p) (uses.member k.used h' (k.used.context 0 h') p) args args' (member-bare h h' (m.used.context 0 h) (k.used.context 0 h') p (b.context h)) d

  statement-bare : (h h' e e' : Tree) → bare e ≡ e' → bare (uses.statement m.used h e) ≡ uses.statement k.used h' e'
  statement-bare h h' e e' d = λ i. node ExpressionStatement (b.label h [] [] i) (one (d i) then done)

  block-bare : (h h' : Tree) (ts ts' : Trees) → bare_trees ts ≡ ts' → bare (uses.block m.used h ts) ≡ uses.block k.used h' ts'
  block-bare h h' ts ts' d = λ i. node BlockStatement (b.scope h i) (statements (d i) then done)

  variable-bare : (h h' n n' e e' : Tree) → bare n ≡ n' → bare e ≡ e' → bare (variable m h n e) ≡ variable k h' n' e'
  variable-bare h h' n n' e e' d g = λ i. node VariableDeclaration (b.label h (Some (codes "var") ∷ []) [] i) (many (node VariableDeclarator (b.label h [] [] i) (one (d i) then one (g i) then done) before empty) then done)

  abbrev made_call : Makes → Tree → Tree
  made_call n h = uses.call n.used h (uses.member n.used h (n.used.word (codes "babelHelpers") h) (codes "usingCtx")) empty

  context-bare : (h h' : Tree) → bare (uses.new_context m.used 0 h) ≡ uses.new_context k.used 0 h'
  context-bare h h' =
      variable-bare h h' (m.used.context 0 h) (k.used.context 0 h') (made_call m h) (made_call k h') (b.context h)
      (call-bare h h' (uses.member m.used h (m.used.word (codes "babelHelpers") h) (codes "usingCtx")) (uses.member k.used h' (k.used.word (codes "babelHelpers") h') (codes "usingCtx")) empty empty (member-bare h h' (m.used.word (codes "babelHelpers") h) (k.used.word (codes "babelHelpers") h') (codes "usingCtx") (b.word (codes "babelHelpers") h)) refl)

  abbrev note : Makes → Tree → Tree
  note n h = node AssignmentExpression (n.used.label h (Some (codes "=") ∷ []) []) (one (uses.member n.used h (n.used.context 0 h) (codes "e")) then one (n.used.error 0 h) then done)

  error-bare : (h h' : Tree) → bare (uses.notes_error m.used 0 h) ≡ uses.notes_error k.used 0 h'
  error-bare h h' = statement-bare h h' (note m h) (note k h') (λ i. node AssignmentExpression (b.label h (Some (codes "=") ∷ []) [] i) (one (member-bare h h' (m.used.context 0 h) (k.used.context 0 h') (codes "e") (b.context h) i) then one (b.error h i) then done))

  handler-bare : (h h' : Tree) → bare (uses.handler m.used 0 h) ≡ uses.handler k.used 0 h'
  handler-bare h h' = λ i. node CatchClause (b.scope h i) (one (b.error h i) then one (block-bare h h' (uses.notes_error m.used 0 h before empty) (uses.notes_error k.used 0 h' before empty) (λ j. error-bare h h' j before empty) i) then done)

  finalizer-bare : (h h' : Tree) → bare (uses.finalizer m.used 0 h) ≡ uses.finalizer k.used 0 h'
  finalizer-bare h h' =
      block-bare h h' (uses.statement m.used h (uses.method m.used 0 h (codes "d") empty) before empty) (uses.statement k.used h' (uses.method k.used 0 h' (codes "d") empty) before empty)
      (λ i. statement-bare h h' (uses.method m.used 0 h (codes "d") empty) (uses.method k.used 0 h' (codes "d") empty) (method-bare h h' (codes "d") empty empty refl) i before empty)

  tried-bare : (h h' : Tree) (ts ts' : Trees) → bare_trees ts ≡ ts' → bare (uses.tried m.used 0 h ts) ≡ uses.tried k.used 0 h' ts'
  tried-bare h h' ts ts' d = λ i. node TryStatement (b.label h [] [] i) (one (block-bare h h' (uses.new_context m.used 0 h before ts) (uses.new_context k.used 0 h' before ts') (λ j. context-bare h h' j before d j) i) then one (handler-bare h h' i) then one (finalizer-bare h h' i) then done)

  -- DECLARATIONS

  used-one-bare : (d : Tree) → bare (uses.used_declarator m.used 0 d) ≡ uses.used_declarator k.used 0 (bare d)
  used-one-bare (node VariableDeclarator l (one p then one e then done)) = λ i. node VariableDeclarator (bare_label l) (one (bare p) then one (method-bare e (bare e) (codes "u") (e before empty) (bare e before empty) refl i) then done)
  used-one-bare d = refl

  used-all-bare : (ds : Trees) → bare_trees (uses.used_declarators m.used 0 ds) ≡ uses.used_declarators k.used 0 (bare_trees ds)
  used-all-bare empty = refl
  used-all-bare (d before ds) = λ i. used-one-bare d i before used-all-bare ds i

  variables-bare : (l : Label) (ds : Trees) → bare (as_variables m l ds) ≡ as_variables k (bare_label l) (bare_trees ds)
  variables-bare l ds = at (is_using_word l.texts)
    where
      at : (v : Bool) → bare (node VariableDeclaration (by_var l) (many (if v then uses.used_declarators m.used 0 ds else ds) then done)) ≡ node VariableDeclaration (by_var (bare_label l)) (many (if v then uses.used_declarators k.used 0 (bare_trees ds) else bare_trees ds) then done)
      at true = λ i. node VariableDeclaration (by_var (bare_label l)) (many (used-all-bare ds i) then done)
      at false = refl

  class-bare : (l cl : Label) (fs : Fields) → bare (as_value m l (node Identifier cl done) fs) ≡ as_value k (bare_label l) (bare (node Identifier cl done)) (bare_fields fs)
  class-bare l cl fs = variable-bare (node Identifier cl done) (bare (node Identifier cl done)) (m.split.again (node Identifier cl done)) (k.split.again (bare (node Identifier cl done))) (node ClassExpression l (one (m.inside l (node Identifier cl done)) then fs)) (node ClassExpression (bare_label l) (one (bare (node Identifier cl done)) then bare_fields fs)) (b.again (node Identifier cl done)) (λ i. node ClassExpression (bare_label l) (one (b.inside l cl i) then bare_fields fs))

  -- INSIDE: what a statement becomes, where the name of a class is an identifier

  declared-inside-bare : (above : AstType) (last : Bool) (d : Tree) → Placed above last d → bare (declared_inside m d) ≡ declared_inside k (bare d)
  declared-inside-bare above last (node VariableDeclaration l (many ds then done)) p = variables-bare l ds
  declared-inside-bare above last (node ClassDeclaration l (one (node Identifier cl done) then fs)) p = class-bare l cl fs
  declared-inside-bare above last (node ClassDeclaration l (one (node Identifier cl (f then gs)) then fs)) p = absurd (let no : false ≡ true = p.1 in cc no)
  declared-inside-bare above last (node ClassDeclaration l (one (node j cl gs) then fs)) p = absurd (let no : false ≡ true = p.1 in cc no)
  declared-inside-bare above last d p = refl

  default-inside-bare : (above : AstType) (last : Bool) (t t' d : Tree) → Placed above last d → bare (default_inside m t d) ≡ default_inside k t' (bare d)
  default-inside-bare above last t t' (node ClassDeclaration l (one (node Identifier cl done) then fs)) p = class-bare l cl fs
  default-inside-bare above last t t' (node ClassDeclaration l (one (node Identifier cl (f then gs)) then fs)) p = absurd (let no : false ≡ true = p.1 in cc no)
  default-inside-bare above last t t' (node ClassDeclaration l (one (node j cl gs) then fs)) p = absurd (let no : false ≡ true = p.1 in cc no)
  default-inside-bare above last t t' (node ClassDeclaration l (missing then fs)) p = variable-bare t t' (m.default t) (k.default t') (node ClassExpression l (missing then fs)) (node ClassExpression (bare_label l) (missing then bare_fields fs)) (b.default t) refl
  default-inside-bare above last t t' d p = variable-bare t t' (m.default t) (k.default t') d (bare d) (b.default t) refl

  moved-bare : (above : AstType) (last : Bool) (t : Tree) → Placed above last t → bare (moved_inside m t) ≡ moved_inside k (bare t)
  moved-bare above last (node ExportNamedDeclaration l (one d then fs)) p = declared-inside-bare ExportNamedDeclaration _ d p.2.0
  moved-bare above last (node ExportDefaultDeclaration l (one d then fs)) p = default-inside-bare ExportDefaultDeclaration _ (node ExportDefaultDeclaration l (one d then fs)) (bare (node ExportDefaultDeclaration l (one d then fs))) d p.2.0
  moved-bare above last t p = declared-inside-bare above last t p

  -- OUTSIDE

  specifiers-bare : (ts : List Tree) → bare_trees (splits.specifiers m.split ts) ≡ splits.specifiers k.split (map bare ts)
  specifiers-bare [] = refl
  specifiers-bare (t ∷ ts) =
      (λ i. node ExportSpecifier (b.export_label t i) (one (b.again t i) then one (b.text t i) then done) before specifiers-bare ts i)
      ∙ (λ i. node ExportSpecifier (made [] []) (one (blank_name (sym (text-bare t) i)) then one (blank_name (sym (text-bare t) i)) then done) before splits.specifiers k.split (map bare ts))

  export-bare : (t t' : Tree) (ts ts' : List Tree) → ts' ≡ map bare ts → bare (splits.export_of m.split t ts) ≡ splits.export_of k.split t' ts'
  export-bare t t' ts ts' e = λ i. node ExportNamedDeclaration (b.export_label t i) (missing then many ((specifiers-bare ts ∙ ap (splits.specifiers k.split) (sym e)) i) then missing then many empty then done)

  local-bare : (t t' d : Tree) → bare (default_local m t d) ≡ default_local k t' (bare d)
  local-bare t t' (node ClassDeclaration l (one c then fs)) = b.again c ∙ ap blank_name (sym (text-bare c))
  local-bare t t' d = b.default t

  default-bare : (t t' n n' : Tree) → bare n ≡ n' → bare (default_export m t n) ≡ default_export k t' n'
  default-bare t t' n n' e = λ i. node ExportNamedDeclaration (b.export_label t i) (missing then many (node ExportSpecifier (b.export_label t i) (one (e i) then one (b.word (codes "default") t i) then done) before empty) then missing then many empty then done)

  left-bare : (t : Tree) (ts ts' : Trees) → bare_trees ts ≡ ts' → bare_trees (left_outside m t ts) ≡ left_outside k (bare t) ts'
  left-bare (node ExportNamedDeclaration l (one d then fs)) ts ts' e = λ i. export-bare (node ExportNamedDeclaration l (one d then fs)) (bare (node ExportNamedDeclaration l (one d then fs))) (names_declared d) (names_declared (bare d)) (declared-bare d) i before e i
  left-bare (node ExportDefaultDeclaration l (one d then fs)) ts ts' e =
      let t = node ExportDefaultDeclaration l (one d then fs) in
      λ i. default-bare t (bare t) (default_local m t d) (default_local k (bare t) (bare d)) (local-bare t (bare t) d) i before e i
  left-bare t ts ts' e = e

  -- LISTS

  outside-bare : (ts : Trees) → bare_trees (outside m ts) ≡ outside k (bare_trees ts)
  outside-bare empty = refl
  outside-bare (t before ts) = at (stays_outside t) (outside-bare ts) ∙ (λ i. if sym (stays-bare t) i then bare t before outside k (bare_trees ts) else left_outside k (bare t) (outside k (bare_trees ts)))
    where
      at : (v : Bool) → bare_trees (outside m ts) ≡ outside k (bare_trees ts) → bare_trees (if v then t before outside m ts else left_outside m t (outside m ts)) ≡ (if v then bare t before outside k (bare_trees ts) else left_outside k (bare t) (outside k (bare_trees ts)))
      at true e = λ i. bare t before e i
      at false e = left-bare t (outside m ts) (outside k (bare_trees ts)) e

  inside-bare : (above : AstType) (ts : Trees) → PlacedAll above ts → bare_trees (inside m ts) ≡ inside k (bare_trees ts)
  inside-bare above empty p = refl
  inside-bare above (t before ts) p = at (stays_outside t) (inside-bare above ts p.1) ∙ (λ i. if sym (stays-bare t) i then inside k (bare_trees ts) else moved_inside k (bare t) before inside k (bare_trees ts))
    where
      at : (v : Bool) → bare_trees (inside m ts) ≡ inside k (bare_trees ts) → bare_trees (if v then inside m ts else moved_inside m t before inside m ts) ≡ (if v then inside k (bare_trees ts) else moved_inside k (bare t) before inside k (bare_trees ts))
      at true e = e
      at false e = λ i. moved-bare above false t p.0 i before e i

  joined-bare : (ts us : Trees) → bare_trees (joined_trees ts us) ≡ joined_trees (bare_trees ts) (bare_trees us)
  joined-bare empty us = refl
  joined-bare (t before ts) us = ap (λ zs. bare t before zs) (joined-bare ts us)

  pub list-bare : (above : AstType) (h h' : Tree) (ts : Trees) → PlacedAll above ts → bare_trees (topped_list m h ts) ≡ topped_list k h' (bare_trees ts)
  list-bare above h h' ts p = joined-bare (outside m ts) (uses.tried m.used 0 h (inside m ts) before empty) ∙ (λ i. joined_trees (outside-bare ts i) (tried-bare h h' (inside m ts) (inside k (bare_trees ts)) (inside-bare above ts p) i before empty))

-- TWO LISTS that are equal but for ids and marks become two such lists
pub lists-alike : (x c : Text) (m n : Makes) → IsBlank x c m → IsBlank x c n → (above : AstType) (h h' : Tree) (ts us : Trees) → PlacedAll above ts → PlacedAll above us → bare_trees ts ≡ bare_trees us → bare_trees (topped_list m h ts) ≡ bare_trees (topped_list n h' us)
lists-alike x c m n b d above h h' ts us p q e = list-bare x c m b above h h ts p ∙ ap (topped_list (blankly x c) h) e ∙ sym (list-bare x c n d above h' h us q)
