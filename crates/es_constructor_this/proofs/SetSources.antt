-- In a program that breaks no static rule the body of no function expression declares a name by `var`, or as a function, that it declares otherwise:
-- so the row may be taken at each constructor's body that it is for.
use Rattle.std.proofs.Common.{◌≡◌, refl, ◌∙◌, [], ◌++◌}
use Rattle.std.specs.Prelude.{Bool, true, false, ◌&&◌}
use Rattle.std.specs.List.{list_all}
use Rattle.std.proofs.lemmas.Bool.{and_parts}
use Rattle.es_tree.specs.HasForm.{field_form, has_form, sort_before_trees, trees_form}
use Rattle.es_tree.specs.StaticRules.{breaks}
use Rattle.es_tree.specs.Tree.{Tree, node, Label, Fields, done, ◌then◌, Field, missing, one, many, statements, Trees, empty, ◌before◌}
use Rattle.es_tree.specs.Words.{Text}
use Rattle.es_tree.specs.declared.ast_type.AstType.{AstType}
use Rattle.es_tree.specs.declared.ast_type.AstType.TheVariants.{Directive, FunctionBody, FunctionExpression}
use Rattle.es_tree.specs.declared.table.Content.TheVariants.{Child as c-Child}
use Rattle.es_tree.specs.declared.table.Often.TheVariants.{ListWithRest, Optional}
use Rattle.es_tree.specs.declared.table.Sort.{Sort}
use Rattle.es_tree.specs.declared.table.Sort.TheVariants.{Directive as s-Directive, FunctionBody as s-FunctionBody, Identifier as s-Identifier, Pattern as s-Pattern, Program as s-Program}
use Rattle.es_tree.proofs.NodeForm.{NodeForm, node_form}
use Rattle.es_semantic.specs.RolesOf.{reads}
use Rattle.es_semantic.specs.declared.place.Role.TheVariants.{Top}
use Rattle.es_resolution.specs.Declarations.{declared_among}
use Rattle.es_resolution.proofs.AllForms.{All, AllAmong, AllBy, AllIn, all-tree}
use Rattle.es_steps.specs.Patterns.{no_name_of}
use Rattle.es_steps.proofs.FormMembers.{one-sort}
use Rattle.es_valid_names.proofs.Claims.{Clear, elsewhere}
use Rattle.es_valid_names.proofs.NameSteps.{around}
use Rattle.es_using_rows.proofs.BodiesApart.{BodyApart, NamesApart, bodies-apart, clear-apart}
use Rattle.es_constructor_this.specs.SetRows.{names_apart}

-- of the body of each function expression
abbrev pub FunctionApart : AstType → Label → Fields → Type 0
FunctionApart FunctionExpression m (f then (ps then (one (node FunctionBody l gs) then done))) = names_apart gs ≡ true
FunctionApart k m fs = Unit {0}

-- DIRECTIVES declare nothing

directives-silent : (ds : Trees) → trees_form s-Directive s-Directive ds ≡ true → declared_among false reads ds ≡ []
directives-silent empty h = refl
directives-silent (t before ds) h =
    let parts = and_parts (has_form (sort_before_trees s-Directive s-Directive ds) t) (trees_form s-Directive s-Directive ds) h in
    at t ds (rw (one-sort s-Directive ds) at parts.0) (directives-silent ds parts.1)
  where
    at : (t : Tree) (ds : Trees) → has_form s-Directive t ≡ true → declared_among false reads ds ≡ [] → declared_among false reads (t before ds) ≡ []
    at (node Directive l done) ds f e = e
    at (node Directive l (g then gs)) ds f e = absurd (let no : false ≡ true = (node_form s-Directive Directive l (g then gs) f).children in cc no)
    at (node k l gs) ds f e = absurd (let no : false ≡ true = (node_form s-Directive k l gs f).sort in cc no)

-- SHAPES: the parameters are a list, and the body is directives and statements

data BodyShape : Field → Fields → Type 0 where
  listed : {ps ds ts : Trees} → declared_among false reads ds ≡ [] → BodyShape (many ps) (many ds then (statements ts then done))
  neither : {p : Field} {gs : Fields} → names_apart gs ≡ true → BodyShape p gs

abbrev HasShape : AstType → Label → Fields → Type 0
HasShape FunctionExpression m (f then (ps then (one (node FunctionBody l gs) then done))) = BodyShape ps gs
HasShape k m fs = Unit {0}

abbrev IsListed : Field → Type 0
IsListed (many ts) = Unit {0}
IsListed f = ⊥

are-listed : (m : Label) (p : Field) → field_form FunctionExpression m (c-Child s-Pattern ListWithRest) p ≡ true → IsListed p
are-listed m missing e = absurd (cc e)
are-listed m (one t) e = absurd (cc e)
are-listed m (many ts) e = tt
are-listed m (statements ts) e = absurd (cc e)

body-shape : (l : Label) (p : Field) (gs : Fields) → IsListed p → has_form s-FunctionBody (node FunctionBody l gs) ≡ true → BodyShape p gs
body-shape l (many ps) (many ds then (statements ts then done)) e h = listed (directives-silent ds (and_parts (trees_form s-Directive s-Directive ds) _ (node_form s-FunctionBody FunctionBody l (many ds then (statements ts then done)) h).children).0)
body-shape l p (missing then gs) e h = absurd (let no : false ≡ true = (node_form s-FunctionBody FunctionBody l (missing then gs) h).children in cc no)
body-shape l p (one t then gs) e h = absurd (let no : false ≡ true = (node_form s-FunctionBody FunctionBody l (one t then gs) h).children in cc no)
body-shape l p (statements ts then gs) e h = absurd (let no : false ≡ true = (node_form s-FunctionBody FunctionBody l (statements ts then gs) h).children in cc no)
body-shape l p (many ds then (statements ts then (g then gs))) e h = neither refl
body-shape l p (many ds then (missing then gs)) e h = neither refl
body-shape l p (many ds then (one t then gs)) e h = neither refl
body-shape l p (many ds then (many ts then gs)) e h = neither refl
body-shape l p (many ds then done) e h = neither refl
body-shape l p done e h = neither refl
body-shape l p gs e h = absurd e

node-shape : (s : Sort) (k : AstType) (m : Label) (fs : Fields) → NodeForm s k m fs → HasShape k m fs
node-shape s FunctionExpression m (f then (p then (one (node FunctionBody l gs) then done))) h =
    let parts = and_parts (field_form FunctionExpression m (c-Child s-Identifier Optional) f) (field_form FunctionExpression m (c-Child s-Pattern ListWithRest) p && (has_form s-FunctionBody (node FunctionBody l gs) && true)) h.children in
    let lists = and_parts (field_form FunctionExpression m (c-Child s-Pattern ListWithRest) p) (has_form s-FunctionBody (node FunctionBody l gs) && true) parts.1 in
    body-shape l p gs (are-listed m p lists.0) (and_parts (has_form s-FunctionBody (node FunctionBody l gs)) true lists.1).0
node-shape s k m fs h = tt

-- BOTH, at each node

shape-apart : (m l : Label) (f p : Field) (gs : Fields) → BodyShape p gs → ((ps : Trees) (ds ts : Trees) → p ≡ many ps → gs ≡ (many ds then (statements ts then done)) → NamesApart ts) → names_apart gs ≡ true
shape-apart m l f p gs (listed {ps = ps} {ds = ds} {ts = ts} e) h = (λ j. list_all (no_name_of (e j ++ declared_among false Top ts)) (declared_among true Top ts)) ∙ h ps ds ts refl refl
shape-apart m l f p gs (neither e) h = e

node-apart : (k : AstType) (m : Label) (fs : Fields) → HasShape k m fs → BodyApart k m fs → FunctionApart k m fs
node-apart FunctionExpression m (f then (p then (one (node FunctionBody l gs) then done))) s h =
    shape-apart m l f p gs s (λ ps ds ts e d. h f ps l ds ts (λ j. f then (e j then (one (node FunctionBody l (d j)) then done))))
node-apart k m fs s h = tt

mutual
  both-tree : (t : Tree) → All HasShape t → All BodyApart t → All FunctionApart t
  both-tree (node k l fs) s h = (node-apart k l fs s.0 h.0, both-fields fs s.1 h.1)

  both-fields : (fs : Fields) → AllIn HasShape fs → AllIn BodyApart fs → AllIn FunctionApart fs
  both-fields done s h = tt
  both-fields (f then fs) s h = (both-field f s.0 h.0, both-fields fs s.1 h.1)

  both-field : (f : Field) → AllBy HasShape f → AllBy BodyApart f → AllBy FunctionApart f
  both-field missing s h = tt
  both-field (one t) s h = both-tree t s h
  both-field (many ts) s h = both-trees ts s h
  both-field (statements ts) s h = both-trees ts s h

  both-trees : (ts : Trees) → AllAmong HasShape ts → AllAmong BodyApart ts → AllAmong FunctionApart ts
  both-trees empty s h = tt
  both-trees (t before ts) s h = (both-tree t s.0 h.0, both-trees ts s.1 h.1)

-- PROGRAMS

-- where no scope and no class declares a name twice where it may not
pub clear-functions : (used : Text → Bool) (t : Tree) → has_form s-Program t ≡ true → Clear (around used t) elsewhere t → All FunctionApart t
clear-functions used t f h = both-tree t (all-tree HasShape node-shape s-Program t f) (clear-apart used t f h)

pub functions-apart : (t : Tree) → has_form s-Program t ≡ true → breaks t ≡ [] → All FunctionApart t
functions-apart t f e = both-tree t (all-tree HasShape node-shape s-Program t f) (bodies-apart t f e)
