-- Where a node of a valid program stands well, so does what stands in its fields: one line a field of a kind.
use Rattle.std.proofs.Common.{◌≡◌, ◌∙◌, inl, inr, ℕ, zero, suc, refl, ap, sym, subst, List, [], ◌∷◌, ◌++◌}
use Rattle.std.proofs.lemmas.Bool.{and_parts, and_from, false≢true, true≢false, or_left, or_right}
use Rattle.std.specs.Prelude.{Bool, true, false, not, ◌&&◌, ◌||◌, Option, is_some, bytes_eq, codes, if◌then◌else◌}
use Rattle.es_tree.specs.Ancestors.{Ancestor, ancestor, LabelName, is_breakable, is_in_loop, is_labeled_loop, is_script_top, labels, own_labels, place_of, stands_in}
use Rattle.es_tree.specs.Attributes.{child_entries}
use Rattle.es_tree.specs.Children.{child_at}
use Rattle.es_tree.specs.CoreStaticRules.{declarator_place, is_bad_target, is_missing_init, is_name, is_simple_target, link_place, needs_value, place_in}
use Rattle.es_tree.specs.HasForm.{elements_form, elements_of, field_form, fields_form, match_option}
use Rattle.es_tree.specs.Names.{first_text}
use Rattle.es_tree.specs.Parens.{without_parens}
use Rattle.es_tree.specs.StaticRules.{has_pattern, is_bad_for, is_bad_using, is_lone_body, is_lone_declarator}
use Rattle.es_tree.specs.Table.{own_kinds}
use Rattle.es_tree.specs.Tree.{Tree, node, Label, Fields, done, ◌then◌, Field, missing, one, many, statements, Trees, empty, ◌before◌, kind_of, fields_of}
use Rattle.es_tree.specs.Words.{Text}
use Rattle.es_tree.specs.declared.ast_type.AstType.{AstType}
use Rattle.es_tree.specs.declared.ast_type.AstType.TheVariants.{Program, BlockStatement, ExpressionStatement, VariableDeclaration, VariableDeclarator, ThrowStatement, IfStatement, ForStatement, ForInStatement, ForOfStatement, WhileStatement, DoWhileStatement, BreakStatement, ContinueStatement, LabeledStatement, SwitchStatement, SwitchCase, TryStatement, CatchClause, ImportDeclaration, ImportSpecifier, ExportNamedDeclaration, ExportDefaultDeclaration, ExportAllDeclaration, Identifier, TemplateLiteral, TaggedTemplateExpression, ArrayExpression, SpreadElement, ObjectExpression, ObjectProperty, UnaryExpression, UpdateExpression, BinaryExpression, LogicalExpression, ConditionalExpression, AssignmentExpression, SequenceExpression, MemberExpression, CallExpression, NewExpression, ChainExpression, ParenthesizedExpression, ObjectPattern, PatternProperty, ArrayPattern, AssignmentPattern, RestElement, ObjectTarget, TargetProperty, ArrayTarget, TargetWithDefault, TargetRest}
use Rattle.es_tree.specs.declared.place.Place.{Place}
use Rattle.es_tree.specs.declared.place.Place.TheVariants.{Other, ProgramBody, Spine, Target, Declarator, Declared}
use Rattle.es_tree.specs.declared.table.Sort.{Sort}
use Rattle.es_tree.specs.declared.table.Sort.TheVariants.{Expression as s-Expression, AssignmentTarget as s-AssignmentTarget, ForLeft as s-ForLeft, TargetElement as s-TargetElement, TargetElementRest as s-TargetElementRest}
use Rattle.es_tree.specs.declared.table.Often.TheVariants.{Required, Optional, List as a-List, NonEmptyList, Statements}
use Rattle.es_tree.specs.declared.table.Content.TheVariants.{Child as c-Child}
use Rattle.es_tree.proofs.CoreBreaks.{among_kinds}
use Rattle.es_statement_runs.specs.Kinds.{label_in}
use Rattle.es_statement_runs.specs.Meant.{Exits, no_exits, Role, Spot, serves, Slot, Slots, slots, spots, as_role, as_statement, labelled_exits, bound_role, declarator_role, parens_role, labels_in, word_in, named_label, has_value}
use Rattle.es_statement_runs.specs.Meant.Nature.{parens_like, declaration_like, declarator_like}
use Rattle.es_statement_runs.specs.Meant.Role.{a_value, a_place, a_target, an_element, a_member, a_definition, a_head, a_declarator, a_head_declarator, a_handler, a_template, an_import, a_clause, a_part}
use Rattle.es_statement_runs.specs.Meant.Slot.{required, optional, listed, nonempty, a_key, passed}
use Rattle.es_statement_runs.specs.Meant.Slots.{no_slot, slot, repeated}
use Rattle.es_statement_runs.specs.Names.{cases_use, is_word, own_use, using_here, using_in}
use Rattle.es_statement_runs.specs.Programs.{is_statement_kind}
use Rattle.es_statement_runs.proofs.ValidForm.{Child, every}
use Rattle.es_statement_runs.proofs.ValidRules.{Keeps}
use Rattle.es_statement_runs.proofs.ValidStands.{Listed, Stands, Ways, Within, declared_here, field_at, fits, fits_declaration, fits_declarator, holds_statements, implies, in_class, is_declarator, is_link, is_plain, is_spine, is_stated, is_target, is_value, lists_using, lone_var, no_spine, not_false, not_true, or_lost, pattern_stands, plain_stands, simple_stands, stated_stands, target_stands, uses_in, using_declared, ways_labelled, ways_looped, ways_switched, ways_through}

-- the fields of which the trees are looked at
abbrev pub looks : Slot → Bool
looks required = true
looks optional = true
looks listed = true
looks nonempty = true
looks _ = false

abbrev pub looks_at : Slots → ℕ → Bool
looks_at no_slot i = false
looks_at (slot s ss) zero = looks s
looks_at (slot s ss) (suc i) = looks_at ss i
looks_at (repeated s) i = looks s

abbrev sees_none : Slots → Bool
sees_none no_slot = true
sees_none (slot s ss) = not (looks s) && sees_none ss
sees_none (repeated s) = not (looks s)

unseen : (ss : Slots) (i : ℕ) → sees_none ss ≡ true → looks_at ss i ≡ false
unseen no_slot i h = refl
unseen (slot s ss) zero h = not_true (looks s) (and_parts (not (looks s)) (sees_none ss) h).0
unseen (slot s ss) (suc i) h = unseen ss i (and_parts (not (looks s)) (sees_none ss) h).1
unseen (repeated s) i h = not_true (looks s) h

-- `using` AND THE SCOPES THAT HAVE STACKS

using_listed : (k : AstType) (l : Label) (s : Sort) (f : Field) (t : Tree) → field_form k l (c-Child s Statements) f ≡ true → Within t f → using_declared t ≡ true → uses_in f ≡ true
using_listed k l s (statements ts) t h m g = lists_using t ts m (declared_here t g)
using_listed k l s missing t h m g = absurd m
using_listed k l s (one u) t h m g = absurd (false≢true h)
using_listed k l s (many ts) t h m g = absurd (false≢true h)

program_uses : (fs : Fields) → uses_in (field_at 1 fs) ≡ true → own_use Program fs ≡ true
program_uses (f then (statements ts then fs)) h = h
program_uses done h = absurd (false≢true h)
program_uses (f then done) h = absurd (false≢true h)
program_uses (f then (missing then fs)) h = absurd (false≢true h)
program_uses (f then (one t then fs)) h = absurd (false≢true h)
program_uses (f then (many ts then fs)) h = absurd (false≢true h)

block_uses : (fs : Fields) → uses_in (field_at 0 fs) ≡ true → own_use BlockStatement fs ≡ true
block_uses (statements ts then fs) h = h
block_uses done h = absurd (false≢true h)
block_uses (missing then fs) h = absurd (false≢true h)
block_uses (one t then fs) h = absurd (false≢true h)
block_uses (many ts then fs) h = absurd (false≢true h)

abbrev use_at : Field → Bool
use_at (one t) = using_here t
use_at _ = false

for_uses : (fs : Fields) → use_at (field_at 0 fs) ≡ true → own_use ForStatement fs ≡ true
for_uses (one t then fs) h = h
for_uses done h = absurd (false≢true h)
for_uses (missing then fs) h = absurd (false≢true h)
for_uses (many ts then fs) h = absurd (false≢true h)
for_uses (statements ts then fs) h = absurd (false≢true h)

for_of_uses : (fs : Fields) → use_at (field_at 0 fs) ≡ true → own_use ForOfStatement fs ≡ true
for_of_uses (one t then fs) h = h
for_of_uses done h = absurd (false≢true h)
for_of_uses (missing then fs) h = absurd (false≢true h)
for_of_uses (many ts then fs) h = absurd (false≢true h)
for_of_uses (statements ts then fs) h = absurd (false≢true h)

required_one : (k : AstType) (l : Label) (s : Sort) (f : Field) (t : Tree) → field_form k l (c-Child s Required) f ≡ true → Within t f → f ≡ one t
required_one k l s (one u) t h m = ap one (sym m)
required_one k l s missing t h m = absurd m
required_one k l s (many ts) t h m = absurd (false≢true h)
required_one k l s (statements ts) t h m = absurd (false≢true h)

optional_one : (k : AstType) (l : Label) (s : Sort) (f : Field) (t : Tree) → field_form k l (c-Child s Optional) f ≡ true → Within t f → f ≡ one t
optional_one k l s (one u) t h m = ap one (sym m)
optional_one k l s missing t h m = absurd m
optional_one k l s (many ts) t h m = absurd (false≢true h)
optional_one k l s (statements ts) t h m = absurd (false≢true h)

case_first : (k : AstType) (l : Label) (fs : Fields) (cs : Trees) → uses_in (field_at 1 fs) ≡ true → cases_use (node k l fs before cs) ≡ true
case_first k l (f then (statements ts then fs)) cs h = or_left (using_in ts) (cases_use cs) h
case_first k l done cs h = absurd (false≢true h)
case_first k l (f then done) cs h = absurd (false≢true h)
case_first k l (f then (missing then fs)) cs h = absurd (false≢true h)
case_first k l (f then (one t then fs)) cs h = absurd (false≢true h)
case_first k l (f then (many ts then fs)) cs h = absurd (false≢true h)

case_later : (t : Tree) (cs : Trees) → cases_use cs ≡ true → cases_use (t before cs) ≡ true
case_later (node k l (f then (statements ts then fs))) cs h = or_right (using_in ts) (cases_use cs) h
case_later _ cs h = h

case_uses : (t : Tree) (cs : Trees) → Listed t cs → uses_in (field_at 1 (fields_of t)) ≡ true → cases_use cs ≡ true
case_uses t empty m h = absurd m
case_uses t (node k l fs before cs) (inl e) h = case_first k l fs cs (subst (λ u. uses_in (field_at 1 (fields_of u)) ≡ true) e h)
case_uses t (u before cs) (inr m) h = case_later u cs (case_uses t cs m h)

switch_uses : (l : Label) (s : Sort) (fs : Fields) (t : Tree) → field_form SwitchStatement l (c-Child s a-List) (field_at 1 fs) ≡ true → Within t (field_at 1 fs) → uses_in (field_at 1 (fields_of t)) ≡ true → own_use SwitchStatement fs ≡ true
switch_uses l s (f then (many cs then fs)) t h m g = case_uses t cs m g
switch_uses l s done t h m g = absurd m
switch_uses l s (f then done) t h m g = absurd m
switch_uses l s (f then (missing then fs)) t h m g = absurd m
switch_uses l s (f then (one u then fs)) t h m g = absurd (false≢true h)
switch_uses l s (f then (statements ts then fs)) t h m g = absurd (false≢true h)

or_after : (a b c : Bool) → (b || c) ≡ true → (a || b || c) ≡ true
or_after true b c h = refl
or_after false b c h = h

-- a declaration by `using` is no head of a for-in, and isn't exported
misused : (up : List Ancestor) (t : Tree) → is_bad_using up t ≡ false → (stands_in ForInStatement 0 up || stands_in ExportNamedDeclaration 0 up) ≡ true → using_declared t ≡ true → false ≡ true
misused up (node VariableDeclaration l (many ds then fs)) h g e = at (bytes_eq (first_text l.texts) (codes "using")) (has_pattern ds) (is_script_top up) (stands_in ForInStatement 0 up) (stands_in ExportNamedDeclaration 0 up) h g e
  where
    at : (a b c d e : Bool) → (a && (b || c || d || e)) ≡ false → (d || e) ≡ true → a ≡ true → false ≡ true
    at true b c d e h g f = sym h ∙ or_after (b || c) d e g
    at false b c d e h g f = f
misused up _ h g e = e

-- CLAUSES, HANDLERS, BLOCKS AND DECLARATIONS

abbrev is_case : AstType → Bool
is_case SwitchCase = true
is_case _ = false

case_stands : {up : List Ancestor} {E : Exits} {u : Bool} {ls : List Text} {x : Text} (t : Tree) → is_case (kind_of t) ≡ true → is_spine (place_of up) ≡ false →
    ((here : Bool) → Ways (is_breakable up) (is_in_loop up) (labels up) here E ls) → (uses_in (field_at 1 (fields_of t)) ≡ true → u ≡ true) → Stands up (record { role = a_clause; exits = E; uses = u }) ls x t
case_stands {u} (node SwitchCase l fs) h no_link w g = record { role = refl; spine = λ e. absurd (true≢false (sym e ∙ no_link)); ways = λ e. w false; fit = implies (uses_in (field_at 1 fs)) u g }
case_stands (node _ l fs) h no_link w g = absurd (false≢true h)

abbrev is_handler : AstType → Bool
is_handler CatchClause = true
is_handler _ = false

handler_stands : {up : List Ancestor} {E : Exits} {u : Bool} {ls : List Text} {x : Text} (t : Tree) → is_handler (kind_of t) ≡ true → is_spine (place_of up) ≡ false →
    ((here : Bool) → Ways (is_breakable up) (is_in_loop up) (labels up) here E ls) → Stands up (record { role = a_handler; exits = E; uses = u }) ls x t
handler_stands (node CatchClause l fs) h no_link w = record { role = refl; spine = λ e. absurd (true≢false (sym e ∙ no_link)); ways = λ e. w false; fit = refl }
handler_stands (node _ l fs) h no_link w = absurd (false≢true h)

abbrev is_block : AstType → Bool
is_block BlockStatement = true
is_block _ = false

block_stands : {up : List Ancestor} {E : Exits} {u : Bool} {ls : List Text} {x : Text} (t : Tree) → is_block (kind_of t) ≡ true → is_spine (place_of up) ≡ false →
    ((here : Bool) → Ways (is_breakable up) (is_in_loop up) (labels up) here E ls) → Stands up (as_statement E u) ls x t
block_stands (node BlockStatement l fs) h no_link w = record { role = refl; spine = λ e. absurd (true≢false (sym e ∙ no_link)); ways = λ e. w false; fit = refl }
block_stands (node _ l fs) h no_link w = absurd (false≢true h)

-- what stands before a loop, and what is exported: an expression or a declaration
abbrev is_initial : AstType → Bool
is_initial k = is_stated k && (not (is_statement_kind k) || not (holds_statements k))

initial_stands : {up : List Ancestor} {u : Bool} {ls : List Text} {x : Text} (t : Tree) → is_initial (kind_of t) ≡ true → is_statement_kind (kind_of t) ≡ true → is_spine (place_of up) ≡ false → is_target (place_of up) ≡ false → (using_declared t ≡ true → u ≡ true) → Stands up (as_role a_value u) ls x t
initial_stands t h g no_link no_target using =
    let d = and_parts (is_stated (kind_of t)) (not (is_statement_kind (kind_of t)) || not (holds_statements (kind_of t))) h in
    let none = not_true (holds_statements (kind_of t)) (in_class (is_statement_kind (kind_of t)) _ d.1 g) in
    stated_stands t d.0 g no_link no_target (λ e. absurd (true≢false (sym e ∙ none))) using

abbrev is_head : AstType → Bool
is_head VariableDeclaration = true
is_head k = is_plain a_head k

own_head_stands : {up : List Ancestor} {u : Bool} {ls : List Text} {x : Text} (t : Tree) → is_head (kind_of t) ≡ true → is_statement_kind (kind_of t) ≡ true → is_spine (place_of up) ≡ false → fits_declaration up a_head ≡ true → (using_declared t ≡ true → u ≡ true) → Stands up (as_role a_head u) ls x t
own_head_stands {up} {u} {x} (node VariableDeclaration l fs) h g no_link stands using = record { role = refl; spine = λ e. absurd (true≢false (sym e ∙ no_link)); ways = λ e. absurd (false≢true e); fit = at fs using }
  where
    at : (gs : Fields) → (using_declared (node VariableDeclaration l gs) ≡ true → u ≡ true) → fits up (as_role a_head u) x (node VariableDeclaration l gs) ≡ true
    at (many ds then gs) using = and_from (not (is_word (codes "using") (first_text l.texts)) || u) (fits_declaration up a_head) (implies (is_word (codes "using") (first_text l.texts)) u using) stands
    at done using = refl
    at (missing then gs) using = refl
    at (one v then gs) using = refl
    at (statements vs then gs) using = refl
own_head_stands (node _ l fs) h g no_link stands using = plain_stands (node _ l fs) h g (λ e. absurd (true≢false (sym e ∙ no_link)))

head_stands : {up : List Ancestor} {u : Bool} {ls : List Text} {x : Text} (t : Tree) → is_bad_target (Target s-ForLeft) t ≡ false → is_statement_kind (kind_of t) ≡ true → is_spine (place_of up) ≡ false → fits_declaration up a_head ≡ true → (using_declared t ≡ true → u ≡ true) → Stands up (as_role a_head u) ls x t
head_stands t bad g no_link stands using =
    target_stands s-ForLeft a_head t bad (λ e. own_head_stands t (among_kinds is_head (kind_of t) (own_kinds s-ForLeft) e refl) g no_link stands using) refl refl refl no_link

-- DECLARATIONS AND THEIR DECLARATORS

abbrev is_declarator_kind : AstType → Bool
is_declarator_kind VariableDeclarator = true
is_declarator_kind _ = false

declared_place : (p : Place) (word : Text) → is_target p ≡ false → is_declarator (declarator_place p word) ≡ true
declared_place ProgramBody word h = refl
declared_place (Target s) word h = absurd (true≢false h)
declared_place _ word h = refl

lone_declarator : (t : Tree) (ds : Trees) → Listed t ds → is_lone_declarator ds ≡ true → not (is_some (child_at 1 (fields_of t))) ≡ true
lone_declarator t empty m h = absurd m
lone_declarator t (node k l fs before empty) (inl e) h = subst (λ u. not (is_some (child_at 1 (fields_of u))) ≡ true) (sym e) h
lone_declarator t (node k l fs before empty) (inr m) h = absurd m
lone_declarator t (node k l fs before (u before us)) m h = absurd (false≢true h)

-- what a declaration says to its declarators
declarator_stands : {up : List Ancestor} {u : Bool} {ls : List Text} (above : List Ancestor) (r : Role) (l : Label) (ds : Trees) (fs : Fields) (t : Tree) → serves declaration_like r ≡ true → Listed t ds → is_declarator_kind (kind_of t) ≡ true →
    (not (is_word (codes "using") (first_text l.texts)) || u) ≡ true → fits_declaration above r ≡ true → is_bad_for above (node VariableDeclaration l (many ds then fs)) ≡ false →
    place_of up ≡ declarator_place (place_of above) (first_text l.texts) → Stands up (as_role (declarator_role r) u) ls (first_text l.texts) t
declarator_stands {up} {u} above a_value l ds fs (node VariableDeclarator m gs) k i d using fit bad place = record {
  role = refl;
  spine = λ e. absurd (true≢false (sym e ∙ ap is_spine place ∙ no_spine (place_of above) VariableDeclaration l 0 refl));
  ways = λ e. absurd (false≢true e);
  fit = and_from (not (is_word (codes "using") (first_text l.texts)) || u) (is_declarator (place_of up)) using (ap is_declarator place ∙ declared_place (place_of above) (first_text l.texts) (not_true (is_target (place_of above)) fit));
}
declarator_stands {up} {u} above a_head l ds fs (node VariableDeclarator m gs) k i d using fit bad place = record {
  role = refl;
  spine = λ e. absurd (true≢false (sym e ∙ ap is_spine place ∙ no_spine (place_of above) VariableDeclaration l 0 refl));
  ways = λ e. absurd (false≢true e);
  fit = and_from (not (is_word (codes "using") (first_text l.texts)) || u) (not (is_some (child_at 1 gs))) using
      (lone_declarator (node VariableDeclarator m gs) ds i (lone (stands_in ForInStatement 0 above || stands_in ForOfStatement 0 above) (is_lone_declarator ds) fit bad));
}
  where
    lone : (a b : Bool) → a ≡ true → (a && not b) ≡ false → b ≡ true
    lone true b h g = not_false b g
    lone false b h g = absurd (false≢true h)
declarator_stands above a_value l ds fs (node _ m gs) k i d using fit bad place = absurd (false≢true d)
declarator_stands above a_head l ds fs (node _ m gs) k i d using fit bad place = absurd (false≢true d)
declarator_stands above _ l ds fs t k i d using fit bad place = absurd (false≢true k)

-- a declarator without a value, but that of a head, declares a name
name_kind : (k : AstType) (l : Label) (s : Sort) (fs : Fields) (t : Tree) → field_form k l (c-Child s Required) (field_at 0 fs) ≡ true → Within t (field_at 0 fs) → is_name (child_at 0 fs) ≡ true → kind_of t ≡ Identifier
name_kind k l s (one (node Identifier m gs) then fs) t h i e = ap kind_of i
name_kind k l s (one (node _ m gs) then fs) t h i e = absurd (false≢true e)
name_kind k l s done t h i e = absurd i
name_kind k l s (missing then fs) t h i e = absurd i
name_kind k l s (many ts then fs) t h i e = absurd (false≢true h)
name_kind k l s (statements ts then fs) t h i e = absurd (false≢true h)

no_value : (fs : Fields) → has_value VariableDeclarator fs ≡ false → is_some (child_at 1 fs) ≡ false
no_value (f then (missing then fs)) h = refl
no_value done h = absurd (true≢false h)
no_value (f then done) h = absurd (true≢false h)
no_value (f then (one t then fs)) h = absurd (true≢false h)
no_value (f then (many ts then fs)) h = absurd (true≢false h)
no_value (f then (statements ts then fs)) h = absurd (true≢false h)

names_alone : (p : Place) (o : Option Tree) (b : Bool) → (needs_value p o && not b) ≡ false → b ≡ false → is_declarator p ≡ true → is_name o ≡ true
names_alone (Declarator top lexical constant) o b h e d = at constant (is_name o) b h e
  where
    at : (c n b : Bool) → ((c || not n) && not b) ≡ false → b ≡ false → n ≡ true
    at c n true h e = absurd (true≢false e)
    at true n false h e = absurd (true≢false h)
    at false true false h e = refl
    at false false false h e = absurd (true≢false h)
names_alone Other o b h e d = absurd (false≢true d)
names_alone ProgramBody o b h e d = absurd (false≢true d)
names_alone Spine o b h e d = absurd (false≢true d)
names_alone (Target s) o b h e d = absurd (false≢true d)
names_alone (Declared lexical) o b h e d = absurd (false≢true d)

bound_stands : {up : List Ancestor} {u : Bool} {ls : List Text} {x : Text} (above : List Ancestor) (r : Role) (l : Label) (fs : Fields) (t : Tree) (b : Bool) → has_value VariableDeclarator fs ≡ b → serves declarator_like r ≡ true →
    is_missing_init (place_of above) (node VariableDeclarator l fs) ≡ false → fits_declarator above r fs ≡ true → (is_name (child_at 0 fs) ≡ true → kind_of t ≡ Identifier) → is_plain (a_target true) (kind_of t) ≡ true → is_statement_kind (kind_of t) ≡ true →
    is_spine (place_of up) ≡ false → Stands up (as_role (bound_role r b) u) ls x t
bound_stands above a_declarator l fs t false e k init fit name p g no_link =
    let only = name (names_alone (place_of above) (child_at 0 fs) (is_some (child_at 1 fs)) init (no_value fs e) fit) in
    plain_stands t (ap (is_plain a_place) only) g (λ d. absurd (true≢false (sym d ∙ no_link)))
bound_stands above a_declarator l fs t true e k init fit name p g no_link = plain_stands t p g (λ d. absurd (true≢false (sym d ∙ no_link)))
bound_stands above a_head_declarator l fs t b e k init fit name p g no_link = plain_stands t p g (λ d. absurd (true≢false (sym d ∙ no_link)))
bound_stands above _ l fs t b e k init fit name p g no_link = absurd (false≢true k)

implied : (a b : Bool) → (not a || b) ≡ true → a ≡ true → b ≡ true
implied true b h e = h
implied false b h e = absurd (false≢true e)

-- PARENTHESES, ASSIGNMENTS AND LABELS

inner_simple : (l : Label) (fs : Fields) (t : Tree) → field_at 0 fs ≡ one t → is_simple_target (kind_of (without_parens (node ParenthesizedExpression l fs))) ≡ true → is_simple_target (kind_of (without_parens t)) ≡ true
inner_simple l (one u then fs) t e h = subst (λ f. is_simple_in f ≡ true) e h
  where
    is_simple_in : Field → Bool
    is_simple_in (one v) = is_simple_target (kind_of (without_parens v))
    is_simple_in f = false
inner_simple l done t e h = absurd (false≢true h)
inner_simple l (missing then fs) t e h = absurd (false≢true h)
inner_simple l (many ts then fs) t e h = absurd (false≢true h)
inner_simple l (statements ts then fs) t e h = absurd (false≢true h)

parens_stand : {up : List Ancestor} {u : Bool} {ls : List Text} {x : Text} (r : Role) (t : Tree) → serves parens_like r ≡ true → (is_value r ≡ false → is_simple_target (kind_of (without_parens t)) ≡ true) → is_plain a_value (kind_of t) ≡ true → is_statement_kind (kind_of t) ≡ true →
    is_spine (place_of up) ≡ false → Stands up (as_role (parens_role r) u) ls x t
parens_stand a_value t k simple p g no_link = plain_stands t p g (λ d. absurd (true≢false (sym d ∙ no_link)))
parens_stand a_place t k simple p g no_link = simple_stands a_place t (simple refl) refl refl refl no_link
parens_stand (a_target b) t k simple p g no_link = simple_stands a_place t (simple refl) refl refl refl no_link
parens_stand (an_element b) t k simple p g no_link = simple_stands a_place t (simple refl) refl refl refl no_link
parens_stand a_head t k simple p g no_link = simple_stands a_place t (simple refl) refl refl refl no_link
parens_stand _ t k simple p g no_link = absurd (false≢true k)

assigned_stands : {up : List Ancestor} {u : Bool} {ls : List Text} {x : Text} (b : Bool) (t : Tree) → is_bad_target (Target (if b then s-AssignmentTarget else s-Expression)) t ≡ false → is_statement_kind (kind_of t) ≡ true → is_spine (place_of up) ≡ false →
    Stands up (as_role (if b then a_target false else a_place) u) ls x t
assigned_stands true t bad g no_link = pattern_stands s-AssignmentTarget (a_target false) t bad g refl refl refl refl no_link
assigned_stands false t bad g no_link = pattern_stands s-Expression a_place t bad g refl refl refl refl no_link

labelled_ways : {b c : Bool} {ns : List LabelName} {E : Exits} {ls : List Text} (l : Label) (n : ℕ) (fs : Fields) (t : Tree) → fields_form LabeledStatement l (child_entries LabeledStatement) fs ≡ true → field_at 1 fs ≡ one t →
    Ways b c ns (is_labeled_loop (node LabeledStatement l fs)) E ls → Ways b c (own_labels (ancestor LabeledStatement l fs 1 n) ++ ns) (is_labeled_loop t) (labelled_exits (label_in LabeledStatement fs) E) (label_in LabeledStatement fs ++ ls)
labelled_ways {b} {c} {ns} {E} {ls} l n (one (node k m gs) then (one u then fs)) t h e w =
    subst (λ (here : Bool). Ways b c (record { name = first_text m.texts; loop = is_labeled_loop u } ∷ ns) here (labelled_exits (first_text m.texts ∷ []) E) (first_text m.texts ∷ ls)) (ap looped e) (ways_labelled (is_labeled_loop u) (first_text m.texts) w)
  where
    looped : Field → Bool
    looped (one v) = is_labeled_loop v
    looped f = false
labelled_ways l n (one (node k m gs) then done) t h e w = absurd (cc e)
labelled_ways l n (one (node k m gs) then (missing then fs)) t h e w = absurd (cc e)
labelled_ways l n (one (node k m gs) then (many ts then fs)) t h e w = absurd (cc e)
labelled_ways l n (one (node k m gs) then (statements ts then fs)) t h e w = absurd (cc e)
labelled_ways l n done t h e w = absurd (false≢true h)
labelled_ways l n (missing then fs) t h e w = absurd (false≢true h)
labelled_ways l n (many ts then fs) t h e w = absurd (false≢true h)
labelled_ways l n (statements ts then fs) t h e w = absurd (false≢true h)

link_spine : (p : Place) → is_spine (link_place p) ≡ true → is_spine p ≡ true
link_spine Spine h = refl
link_spine Other h = h
link_spine ProgramBody h = h
link_spine (Target s) h = h
link_spine (Declarator top lexical constant) h = h
link_spine (Declared lexical) h = h

array_place : (p : Place) (l : Label) (i : ℕ) → place_in p ArrayTarget l i ≡ Target s-TargetElementRest
array_place p l zero = refl
array_place p l (suc zero) = refl
array_place p l (suc (suc i)) = refl

first_listed : (l : Label) (fs : Fields) (t : Tree) (s : Sort) → field_form VariableDeclaration l (c-Child s NonEmptyList) (field_at 0 fs) ≡ true → Within t (field_at 0 fs) → (P : Fields → Type 0) → ((ds : Trees) (gs : Fields) → Listed t ds → P (many ds then gs)) → P fs
first_listed l (many ds then gs) t s h i P f = f ds gs i
first_listed l done t s h i P f = absurd i
first_listed l (missing then gs) t s h i P f = absurd i
first_listed l (one u then gs) t s h i P f = absurd (false≢true h)
first_listed l (statements us then gs) t s h i P f = absurd (false≢true h)

-- THE FIELDS OF EACH KIND

module _ (l : Label) (fs : Fields) (up : List Ancestor) (n : ℕ) (c : Spot) (ls : List Text) (x : Text) where
  abbrev Up : AstType → ℕ → List Ancestor
  Up k i = ancestor k l fs i n ∷ up

  abbrev In : AstType → ℕ → Tree → Type 0
  In k i t = Child (elements_of (child_entries k)) (child_entries k) (Up k i) k l fs i t

  abbrev Stood : AstType → ℕ → Tree → Type 0
  Stood k i t = Stands (Up k i) (spots c k l.texts (own_use k fs) (has_value k fs) (named_label k fs) ls i) (labels_in k (named_label k fs) ls) (word_in k l.texts) t

  abbrev FormOf : AstType → Type 0
  FormOf k = match_option (elements_of (child_entries k)) (fields_form k l (child_entries k) fs) (λ p. elements_form p.sort p.last fs) ≡ true

  apart : (k : AstType) (i : ℕ) → is_link k ≡ false → is_spine (place_of (Up k i)) ≡ false
  apart k i h = no_spine (place_of up) k l i h

  -- a field whose kinds are asked for no more than their role
  plain : {d : Spot} {ms : List Text} {y : Text} (k : AstType) (i : ℕ) {t : Tree} → In k i t → is_link k ≡ false → is_plain d.role (kind_of t) ≡ true → Stands (Up k i) d ms y t
  plain k i {t} h link p = plain_stands t p h.class (λ e. absurd (true≢false (sym e ∙ apart k i link)))

  -- the object of a member and the callee of a call
  linked : {ms : List Text} {y : Text} (k : AstType) {t : Tree} → In k 0 t → place_of (Up k 0) ≡ link_place (place_of up) → (is_spine (place_of up) ≡ true → c.exits.cuts ≡ true) → is_plain a_value (kind_of t) ≡ true → Stands (Up k 0) (as_statement (no_exits c.exits.cuts) c.uses) ms y t
  linked k {t} h place spine p = plain_stands t p h.class (λ e. spine (link_spine (place_of up) (sym (ap is_spine place) ∙ e)))

  -- a statement as the one body of another
  lone : {E : Exits} {u : Bool} {ms : List Text} {y : Text} (k : AstType) (i : ℕ) {t : Tree} → In k i t → is_link k ≡ false → is_target (place_of (Up k i)) ≡ false → is_lone_body (Up k i) ≡ true → is_stated (kind_of t) ≡ true →
      Ways (is_breakable (Up k i)) (is_in_loop (Up k i)) (labels (Up k i)) (is_labeled_loop t) E ms → Stands (Up k i) (as_statement E u) ms y t
  lone k i {t} h link no_target body stated w =
      stated_stands t stated h.class (apart k i link) no_target (λ e. w) (λ e. absurd (false≢true (lone_var (Up k i) t h.kept.declaration body (declared_here t e))))

  -- a statement of a list
  item : {E : Exits} {u : Bool} {ms : List Text} {y : Text} (k : AstType) (i : ℕ) {t : Tree} → In k i t → is_link k ≡ false → is_target (place_of (Up k i)) ≡ false → is_stated (kind_of t) ≡ true →
      Ways (is_breakable (Up k i)) (is_in_loop (Up k i)) (labels (Up k i)) (is_labeled_loop t) E ms → (using_declared t ≡ true → u ≡ true) → Stands (Up k i) (as_statement E u) ms y t
  item k i {t} h link no_target stated w using = stated_stands t stated h.class (apart k i link) no_target (λ e. w) using

  pub inner : (k : AstType) (i : ℕ) (t : Tree) → FormOf k → Stands up c ls x (node k l fs) → Keeps up (node k l fs) → looks_at (slots k l.flags (has_value k fs) (named_label k fs)) i ≡ true → In k i t → Stood k i t
  inner Program zero t f d w q h = plain Program 0 h refl (h.kinds (is_plain a_part) refl)
  inner Program (suc zero) t f d w q h = item Program 1 h refl refl (h.kinds is_stated refl) (ways_through (d.ways refl)) (λ e. or_left (own_use Program fs) c.uses (program_uses fs (using_listed Program l _ (field_at 1 fs) t h.form h.within e)))
  inner BlockStatement zero t f d w q h = item BlockStatement 0 h refl refl (h.kinds is_stated refl) (ways_through (d.ways refl)) (λ e. or_left (own_use BlockStatement fs) c.uses (block_uses fs (using_listed BlockStatement l _ (field_at 0 fs) t h.form h.within e)))
  inner ExpressionStatement i t f d w q h = plain ExpressionStatement i h refl (every h (is_plain a_value) refl)
  inner VariableDeclaration zero t f d w q h =
      first_listed l fs t _ h.form h.within (λ gs. fits up c x (node VariableDeclaration l gs) ≡ true → is_bad_for up (node VariableDeclaration l gs) ≡ false → Stood VariableDeclaration 0 t)
      (λ ds gs m fit bad. let parts = and_parts (not (is_word (codes "using") (first_text l.texts)) || c.uses) (fits_declaration up c.role) fit in
      declarator_stands up c.role l ds gs t d.role m (h.kinds is_declarator_kind refl) parts.0 parts.1 bad refl)
      d.fit w.head
  inner VariableDeclarator zero t f d w q h =
      bound_stands up c.role l fs t (has_value VariableDeclarator fs) refl d.role w.init (and_parts (not (is_word (codes "using") x) || c.uses) (fits_declarator up c.role fs) d.fit).1
      (name_kind VariableDeclarator l _ fs t h.form h.within) (h.kinds (is_plain (a_target true)) refl) h.class (apart VariableDeclarator 0 refl)
  inner VariableDeclarator (suc zero) t f d w q h = plain VariableDeclarator 1 h refl (h.kinds (is_plain a_value) refl)
  inner ThrowStatement i t f d w q h = plain ThrowStatement i h refl (every h (is_plain a_value) refl)
  inner IfStatement zero t f d w q h = plain IfStatement 0 h refl (h.kinds (is_plain a_value) refl)
  inner IfStatement (suc zero) t f d w q h = lone IfStatement 1 h refl refl refl (h.kinds is_stated refl) (ways_through (d.ways refl))
  inner IfStatement (suc (suc zero)) t f d w q h = lone IfStatement 2 h refl refl refl (h.kinds is_stated refl) (ways_through (d.ways refl))
  inner ForStatement zero t f d w q h =
      initial_stands t (h.kinds is_initial refl) h.class (apart ForStatement 0 refl) refl
      (λ e. or_left (own_use ForStatement fs) c.uses (for_uses fs (ap use_at (optional_one ForStatement l _ (field_at 0 fs) t h.form h.within) ∙ declared_here t e)))
  inner ForStatement (suc zero) t f d w q h = plain ForStatement 1 h refl (h.kinds (is_plain a_value) refl)
  inner ForStatement (suc (suc zero)) t f d w q h = plain ForStatement 2 h refl (h.kinds (is_plain a_value) refl)
  inner ForStatement (suc (suc (suc zero))) t f d w q h = lone ForStatement 3 h refl refl refl (h.kinds is_stated refl) (ways_looped (d.ways refl))
  inner ForInStatement zero t f d w q h = head_stands t h.kept.target h.class (apart ForInStatement 0 refl) refl (λ e. absurd (false≢true (misused (Up ForInStatement 0) t h.kept.using refl e)))
  inner ForInStatement (suc zero) t f d w q h = plain ForInStatement 1 h refl (h.kinds (is_plain a_value) refl)
  inner ForInStatement (suc (suc zero)) t f d w q h = lone ForInStatement 2 h refl refl refl (h.kinds is_stated refl) (ways_looped (d.ways refl))
  inner ForOfStatement zero t f d w q h =
      head_stands t h.kept.target h.class (apart ForOfStatement 0 refl) refl
      (λ e. or_left (own_use ForOfStatement fs) c.uses (for_of_uses fs (ap use_at (required_one ForOfStatement l _ (field_at 0 fs) t h.form h.within) ∙ declared_here t e)))
  inner ForOfStatement (suc zero) t f d w q h = plain ForOfStatement 1 h refl (h.kinds (is_plain a_value) refl)
  inner ForOfStatement (suc (suc zero)) t f d w q h = lone ForOfStatement 2 h refl refl refl (h.kinds is_stated refl) (ways_looped (d.ways refl))
  inner WhileStatement zero t f d w q h = plain WhileStatement 0 h refl (h.kinds (is_plain a_value) refl)
  inner WhileStatement (suc zero) t f d w q h = lone WhileStatement 1 h refl refl refl (h.kinds is_stated refl) (ways_looped (d.ways refl))
  inner DoWhileStatement zero t f d w q h = lone DoWhileStatement 0 h refl refl refl (h.kinds is_stated refl) (ways_looped (d.ways refl))
  inner DoWhileStatement (suc zero) t f d w q h = plain DoWhileStatement 1 h refl (h.kinds (is_plain a_value) refl)
  inner LabeledStatement (suc zero) t f d w q h =
      lone LabeledStatement 1 h refl refl refl (h.kinds is_stated refl) (labelled_ways l n fs t f (required_one LabeledStatement l _ (field_at 1 fs) t h.form h.within) (d.ways refl))
  inner SwitchStatement zero t f d w q h = plain SwitchStatement 0 h refl (h.kinds (is_plain a_value) refl)
  inner SwitchStatement (suc zero) t f d w q h =
      case_stands t (h.kinds is_case refl) (apart SwitchStatement 1 refl) (λ here. ways_switched (d.ways refl)) (λ e. or_left (own_use SwitchStatement fs) c.uses (switch_uses l _ fs t h.form h.within e))
  inner SwitchCase zero t f d w q h = plain SwitchCase 0 h refl (h.kinds (is_plain a_value) refl)
  inner SwitchCase (suc zero) t f d w q h = item SwitchCase 1 h refl refl (h.kinds is_stated refl) (ways_through (d.ways refl)) (λ e. implied (uses_in (field_at 1 fs)) c.uses d.fit (using_listed SwitchCase l _ (field_at 1 fs) t h.form h.within e))
  inner TryStatement zero t f d w q h = block_stands t (h.kinds is_block refl) (apart TryStatement 0 refl) (λ here. ways_through (d.ways refl))
  inner TryStatement (suc zero) t f d w q h = handler_stands t (h.kinds is_handler refl) (apart TryStatement 1 refl) (λ here. ways_through (d.ways refl))
  inner TryStatement (suc (suc zero)) t f d w q h = block_stands t (h.kinds is_block refl) (apart TryStatement 2 refl) (λ here. ways_through (d.ways refl))
  inner CatchClause zero t f d w q h = plain CatchClause 0 h refl (h.kinds (is_plain (a_target true)) refl)
  inner CatchClause (suc zero) t f d w q h = block_stands t (h.kinds is_block refl) (apart CatchClause 1 refl) (λ here. ways_through (d.ways refl))
  inner ImportDeclaration zero t f d w q h = plain ImportDeclaration 0 h refl (h.kinds (is_plain an_import) refl)
  inner ImportDeclaration (suc i) t f d w q h = absurd (true≢false (sym q ∙ unseen (slot a_key (repeated passed)) i refl))
  inner ExportNamedDeclaration zero t f d w q h = initial_stands t (h.kinds is_initial refl) h.class (apart ExportNamedDeclaration 0 refl) refl (λ e. absurd (false≢true (misused (Up ExportNamedDeclaration 0) t h.kept.using refl e)))
  inner ExportDefaultDeclaration i t f d w q h = plain ExportDefaultDeclaration i h refl (every h (is_plain a_value) refl)
  inner TemplateLiteral zero t f d w q h = plain TemplateLiteral 0 h refl (h.kinds (is_plain a_part) refl)
  inner TemplateLiteral (suc zero) t f d w q h = plain TemplateLiteral 1 h refl (h.kinds (is_plain a_value) refl)
  inner TaggedTemplateExpression zero t f d w q h = plain TaggedTemplateExpression 0 h refl (h.kinds (is_plain a_value) refl)
  inner TaggedTemplateExpression (suc zero) t f d w q h = plain TaggedTemplateExpression 1 h refl (h.kinds (is_plain a_template) refl)
  inner ArrayExpression i t f d w q h = plain ArrayExpression i h refl (every h (is_plain a_value) refl)
  inner SpreadElement i t f d w q h = plain SpreadElement i h refl (every h (is_plain a_value) refl)
  inner ObjectExpression i t f d w q h = plain ObjectExpression i h refl (every h (is_plain a_definition) refl)
  inner ObjectProperty i t f d w q h = plain ObjectProperty i h refl (every h (is_plain a_value) refl)
  inner UnaryExpression i t f d w q h = plain UnaryExpression i h refl (every h (is_plain a_value) refl)
  inner UpdateExpression zero t f d w q h = pattern_stands s-Expression a_place t h.kept.target h.class refl refl refl refl (apart UpdateExpression 0 refl)
  inner BinaryExpression i t f d w q h = plain BinaryExpression i h refl (every h (is_plain a_value) refl)
  inner LogicalExpression i t f d w q h = plain LogicalExpression i h refl (every h (is_plain a_value) refl)
  inner ConditionalExpression i t f d w q h = plain ConditionalExpression i h refl (every h (is_plain a_value) refl)
  inner AssignmentExpression zero t f d w q h = assigned_stands (bytes_eq (first_text l.texts) (codes "=")) t h.kept.target h.class (apart AssignmentExpression 0 refl)
  inner AssignmentExpression (suc zero) t f d w q h = plain AssignmentExpression 1 h refl (h.kinds (is_plain a_value) refl)
  inner SequenceExpression i t f d w q h = plain SequenceExpression i h refl (every h (is_plain a_value) refl)
  inner MemberExpression zero t f d w q h = linked MemberExpression h refl d.spine (h.kinds (is_plain a_value) refl)
  inner MemberExpression (suc zero) t f d w q h = plain_stands t (h.kinds (is_plain a_value) refl) h.class (λ e. absurd (false≢true e))
  inner CallExpression zero t f d w q h = linked CallExpression h refl d.spine (h.kinds (is_plain a_value) refl)
  inner CallExpression (suc zero) t f d w q h = plain_stands t (h.kinds (is_plain a_value) refl) h.class (λ e. absurd (false≢true e))
  inner NewExpression i t f d w q h = plain NewExpression i h refl (every h (is_plain a_value) refl)
  inner ChainExpression zero t f d w q h = plain_stands t (h.kinds (is_plain a_value) refl) h.class (λ e. refl)
  inner ParenthesizedExpression zero t f d w q h =
      parens_stand c.role t d.role (λ e. inner_simple l fs t (required_one ParenthesizedExpression l _ (field_at 0 fs) t h.form h.within) (or_lost (is_value c.role) (is_simple_target (kind_of (without_parens (node ParenthesizedExpression l fs)))) d.fit e))
      (h.kinds (is_plain a_value) refl) h.class (apart ParenthesizedExpression 0 refl)
  inner ObjectPattern i t f d w q h = plain ObjectPattern i h refl (every h (is_plain a_member) refl)
  inner PatternProperty zero t f d w q h = plain PatternProperty 0 h refl (h.kinds (is_plain a_value) refl)
  inner PatternProperty (suc zero) t f d w q h = plain PatternProperty 1 h refl (h.kinds (is_plain (a_target true)) refl)
  inner ArrayPattern i t f d w q h = plain ArrayPattern i h refl (every h (is_plain (an_element true)) refl)
  inner AssignmentPattern zero t f d w q h = plain AssignmentPattern 0 h refl (h.kinds (is_plain (a_target true)) refl)
  inner AssignmentPattern (suc zero) t f d w q h = plain AssignmentPattern 1 h refl (h.kinds (is_plain a_value) refl)
  inner RestElement i t f d w q h = plain RestElement i h refl (every h (is_plain (a_target true)) refl)
  inner ObjectTarget i t f d w q h = plain ObjectTarget i h refl (every h (is_plain a_member) refl)
  inner TargetProperty zero t f d w q h = plain TargetProperty 0 h refl (h.kinds (is_plain a_value) refl)
  inner TargetProperty (suc zero) t f d w q h = pattern_stands s-TargetElement (a_target false) t h.kept.target h.class refl refl refl refl (apart TargetProperty 1 refl)
  inner ArrayTarget i t f d w q h = pattern_stands s-TargetElementRest (an_element false) t (subst (λ p. is_bad_target p t ≡ false) (array_place (place_of up) l i) h.kept.target) h.class refl refl refl refl (apart ArrayTarget i refl)
  inner TargetWithDefault zero t f d w q h = pattern_stands s-TargetElement (a_target false) t h.kept.target h.class refl refl refl refl (apart TargetWithDefault 0 refl)
  inner TargetWithDefault (suc zero) t f d w q h = plain TargetWithDefault 1 h refl (h.kinds (is_plain a_value) refl)
  inner TargetRest zero t f d w q h = pattern_stands s-TargetElement (a_target false) t h.kept.target h.class refl refl refl refl (apart TargetRest 0 refl)
  inner BreakStatement i t f d w q h = absurd (true≢false (sym q ∙ unseen (slots BreakStatement l.flags (has_value BreakStatement fs) (named_label BreakStatement fs)) i refl))
  inner ContinueStatement i t f d w q h = absurd (true≢false (sym q ∙ unseen (slots ContinueStatement l.flags (has_value ContinueStatement fs) (named_label ContinueStatement fs)) i refl))
  inner ImportSpecifier i t f d w q h = absurd (true≢false (sym q ∙ unseen (slots ImportSpecifier l.flags (has_value ImportSpecifier fs) (named_label ImportSpecifier fs)) i refl))
  inner ExportAllDeclaration i t f d w q h = absurd (true≢false (sym q ∙ unseen (slots ExportAllDeclaration l.flags (has_value ExportAllDeclaration fs) (named_label ExportAllDeclaration fs)) i refl))
  inner _ _ t f d w q h = absurd (false≢true q)
