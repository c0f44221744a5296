-- Where a node of a valid program stands: what its ancestors say of the role that is taken of it, and of how it may stop.
use Rattle.std.proofs.Common.{◌≡◌, ◌∙◌, ◌⊎◌, inl, inr, ℕ, zero, suc, refl, ap, sym, List, [], ◌∷◌, ◌++◌}
use Rattle.std.proofs.lemmas.Bool.{and_parts, and_from, false≢true, or_left, or_parts, or_right, true≢false}
use Rattle.std.proofs.lemmas.List.Folds.{list_any-append}
use Rattle.std.proofs.lemmas.Slice.Eq.{bytes_eq-Decides}
use Rattle.std.specs.List.{list_any, list_all}
use Rattle.std.specs.Prelude.{Bool, true, false, not, ◌&&◌, ◌||◌, is_some, bytes_eq, codes}
use Rattle.es_tree.specs.Ancestors.{Ancestor, LabelName, is_breakable, is_in_loop, is_labeled_loop, labels, place_of, stands_in}
use Rattle.es_tree.specs.Children.{child_at}
use Rattle.es_tree.specs.CoreStaticRules.{binding_place, declarator_place, is_bad_target, is_lexical, is_simple_target, later_place, place_in, second_place}
use Rattle.es_tree.specs.Fresh.{is_among}
use Rattle.es_tree.specs.HasForm.{same_type}
use Rattle.es_tree.specs.Names.{first_text}
use Rattle.es_tree.specs.Parens.{without_parens}
use Rattle.es_tree.specs.StaticRules.{is_label, is_loop_label, is_lone_body, is_misplaced_declaration}
use Rattle.es_tree.specs.Table.{own_kinds}
use Rattle.es_tree.specs.Tree.{Tree, node, Label, Fields, done, ◌then◌, Field, missing, one, many, statements, Trees, empty, ◌before◌, kind_of}
use Rattle.es_tree.specs.Words.{Text}
use Rattle.es_tree.specs.declared.ast_type.AstType.{AstType}
use Rattle.es_tree.specs.declared.ast_type.AstType.TheVariants.{Program, BlockStatement, VariableDeclaration, VariableDeclarator, IfStatement, ForStatement, ForInStatement, ForOfStatement, WhileStatement, DoWhileStatement, BreakStatement, ContinueStatement, LabeledStatement, SwitchStatement, SwitchCase, TryStatement, CatchClause, Identifier, MemberExpression, CallExpression, ChainExpression, ParenthesizedExpression, TargetProperty, ArrayTarget}
use Rattle.es_tree.specs.declared.place.Place.{Place}
use Rattle.es_tree.specs.declared.place.Place.TheVariants.{ProgramBody, Spine, Target, Declarator}
use Rattle.es_tree.specs.declared.table.Sort.{Sort}
use Rattle.es_tree.proofs.CoreBreaks.{among_kinds}
use Rattle.es_statement_runs.specs.Meant.{Exits, Role, Spot, nature, serves, as_role, as_statement, loop_exits, switch_exits, labelled_exits}
use Rattle.es_statement_runs.specs.Meant.Nature.{name_like, member_like, parens_like}
use Rattle.es_statement_runs.specs.Meant.Role.{a_value, a_head, a_head_declarator}
use Rattle.es_statement_runs.specs.Names.{is_word, using_here, using_in}
use Rattle.es_statement_runs.specs.Programs.{is_statement_kind}

-- FIELDS BY THEIR PLACE

abbrev pub first_field : Fields → Field
first_field done = missing
first_field (f then fs) = f

abbrev pub later_fields : Fields → Fields
later_fields done = done
later_fields (f then fs) = fs

abbrev pub field_at : ℕ → Fields → Field
field_at zero fs = first_field fs
field_at (suc i) fs = field_at i (later_fields fs)

-- a tree of a list, and of a field
abbrev pub Listed : Tree → Trees → Type 0
Listed t empty = ⊥
Listed t (u before us) = (t ≡ u) ⊎ Listed t us

abbrev pub Within : Tree → Field → Type 0
Within t missing = ⊥
Within t (one u) = t ≡ u
Within t (many us) = Listed t us
Within t (statements us) = Listed t us

-- whether a list of statements declares by `using`
abbrev pub uses_in : Field → Bool
uses_in (statements ts) = using_in ts
uses_in _ = false

-- a declaration by `using`
abbrev pub using_declared : Tree → Bool
using_declared (node VariableDeclaration l (many ds then fs)) = is_word (codes "using") (first_text l.texts)
using_declared t = false

pub declared_here : (t : Tree) → using_declared t ≡ true → using_here t ≡ true
declared_here (node VariableDeclaration l (many ds then fs)) h = h
declared_here _ h = absurd (false≢true h)

-- HOW A STATEMENT MAY STOP

abbrev pub holds_statements : AstType → Bool
holds_statements Program = true
holds_statements BlockStatement = true
holds_statements IfStatement = true
holds_statements ForStatement = true
holds_statements ForInStatement = true
holds_statements ForOfStatement = true
holds_statements WhileStatement = true
holds_statements DoWhileStatement = true
holds_statements BreakStatement = true
holds_statements ContinueStatement = true
holds_statements LabeledStatement = true
holds_statements SwitchStatement = true
holds_statements SwitchCase = true
holds_statements TryStatement = true
holds_statements CatchClause = true
holds_statements _ = false

-- b, c: whether a loop or a switch is around, and whether a loop is; ns: the labels around; here: whether the statement is a loop, maybe with
-- labels; ls: the labels directly before it
pub record Ways (b c : Bool) (ns : List LabelName) (here : Bool) (E : Exits) (ls : List Text) : Type 0 where
  pub break_ : b ≡ true → E.breaks_here ≡ true
  pub continue_ : c ≡ true → E.continues_here ≡ true
  pub label : (y : Text) → list_any (is_label y) ns ≡ true → is_among E.labels y ≡ true
  pub loop : (y : Text) → list_any (is_loop_label y) ns ≡ true → (is_among E.loops y || (here && is_among ls y)) ≡ true

pub or_false : (a : Bool) → (a || false) ≡ true → a ≡ true
or_false true h = refl
or_false false h = absurd (false≢true h)

pub implies : (a b : Bool) → (a ≡ true → b ≡ true) → (not a || b) ≡ true
implies true b g = g refl
implies false b g = refl

pub or_lost : (a b : Bool) → (a || b) ≡ true → a ≡ false → b ≡ true
or_lost true b h e = absurd (true≢false e)
or_lost false b h e = h

pub ways_through : {b c here : Bool} {ns : List LabelName} {E : Exits} {ls ms : List Text} → Ways b c ns false E ls → Ways b c ns here E ms
ways_through {here} {E} {ms} w = record {
  break_ = w.break_;
  continue_ = w.continue_;
  label = w.label;
  loop = λ y e. or_left (is_among E.loops y) (here && is_among ms y) (or_false (is_among E.loops y) (w.loop y e));
}

among_both : (xs ys : List Text) (y : Text) → (is_among ys y || is_among xs y) ≡ true → is_among (xs ++ ys) y ≡ true
among_both xs ys y h = rw (list_any-append (λ x. bytes_eq x y) xs ys) (turned (is_among ys y) (is_among xs y) h)
  where
    turned : (a b : Bool) → (a || b) ≡ true → (b || a) ≡ true
    turned true true e = refl
    turned true false e = refl
    turned false true e = refl
    turned false false e = e

pub ways_looped : {b c here : Bool} {ns : List LabelName} {E : Exits} {ls ms : List Text} → Ways b c ns true E ls → Ways true true ns here (loop_exits ls E) ms
ways_looped {here} {E} {ls} {ms} w = record {
  break_ = λ e. refl;
  continue_ = λ e. refl;
  label = w.label;
  loop = λ y e. or_left (is_among (ls ++ E.loops) y) (here && is_among ms y) (among_both ls E.loops y (w.loop y e));
}

pub ways_switched : {b c here : Bool} {ns : List LabelName} {E : Exits} {ls ms : List Text} → Ways b c ns false E ls → Ways true c ns here (switch_exits E) ms
ways_switched {here} {E} {ms} w = record {
  break_ = λ e. refl;
  continue_ = w.continue_;
  label = w.label;
  loop = λ y e. or_left (is_among E.loops y) (here && is_among ms y) (or_false (is_among E.loops y) (w.loop y e));
}

-- below the label x
pub ways_labelled : {b c : Bool} (here : Bool) {ns : List LabelName} {E : Exits} {ls : List Text} (x : Text) → Ways b c ns here E ls →
    Ways b c (record { name = x; loop = here } ∷ ns) here (labelled_exits (x ∷ []) E) (x ∷ ls)
ways_labelled here {ns} {E} {ls} x w = record {
  break_ = w.break_;
  continue_ = w.continue_;
  label = λ y e. found (bytes_eq x y) (list_any (is_label y) ns) (is_among E.labels y) e (w.label y);
  loop = λ y e. looped here (bytes_eq x y) (list_any (is_loop_label y) ns) (is_among E.loops y) (is_among ls y) e (w.loop y);
}
  where
    found : (a b c : Bool) → (a || b) ≡ true → (b ≡ true → c ≡ true) → (a || c) ≡ true
    found true b c e g = refl
    found false b c e g = g e

    looped : (h a b c d : Bool) → ((a && h) || b) ≡ true → (b ≡ true → (c || (h && d)) ≡ true) → (c || (h && (a || d))) ≡ true
    looped h a b true d e g = refl
    looped true true b false d e g = refl
    looped true false b false d e g = g e
    looped false true b false d e g = g e
    looped false false b false d e g = g e

-- PLACES

abbrev pub is_spine : Place → Bool
is_spine Spine = true
is_spine _ = false

abbrev pub is_target : Place → Bool
is_target (Target s) = true
is_target _ = false

abbrev pub is_declarator : Place → Bool
is_declarator (Declarator top lexical constant) = true
is_declarator _ = false

abbrev pub is_link : AstType → Bool
is_link ChainExpression = true
is_link MemberExpression = true
is_link CallExpression = true
is_link _ = false

in_declaration : (p : Place) (word : Text) → is_spine (declarator_place p word) ≡ false
in_declaration ProgramBody word = refl
in_declaration (Target s) word = refl
in_declaration _ word = refl

in_declarator : (p : Place) → is_spine (binding_place p) ≡ false
in_declarator (Declarator true lexical constant) = refl
in_declarator (Declarator false lexical constant) = refl
in_declarator _ = refl

second_spine : (k : AstType) → is_spine (second_place k) ≡ false
second_spine Program = refl
second_spine TargetProperty = refl
second_spine ArrayTarget = refl
second_spine _ = refl

later_spine : (k : AstType) → is_spine (later_place k) ≡ false
later_spine ArrayTarget = refl
later_spine _ = refl

later_field : (p : Place) (k : AstType) (l : Label) (i : ℕ) → is_spine (place_in p k l (suc i)) ≡ false
later_field p k l zero = second_spine k
later_field p k l (suc i) = later_spine k

-- only chains, members and calls lead to a spine
pub no_spine : (p : Place) (k : AstType) (l : Label) (i : ℕ) → is_link k ≡ false → is_spine (place_in p k l i) ≡ false
no_spine p ChainExpression l zero h = absurd (true≢false h)
no_spine p MemberExpression l zero h = absurd (true≢false h)
no_spine p CallExpression l zero h = absurd (true≢false h)
no_spine p VariableDeclaration l zero h = in_declaration p (first_text l.texts)
no_spine p VariableDeclarator l zero h = in_declarator p
no_spine p _ l zero h = refl
no_spine p k l (suc i) h = later_field p k l i

-- WHAT IS ASKED OF DECLARATIONS, CLAUSES AND PARENTHESES

abbrev pub is_value : Role → Bool
is_value a_value = true
is_value r = false

-- a declaration as a head stands at the left of a for-in or for-of, and no other does
abbrev pub fits_declaration : List Ancestor → Role → Bool
fits_declaration up a_head = stands_in ForInStatement 0 up || stands_in ForOfStatement 0 up
fits_declaration up r = not (is_target (place_of up))

-- so a declarator of a head has no value
abbrev pub fits_declarator : List Ancestor → Role → Fields → Bool
fits_declarator up a_head_declarator fs = not (is_some (child_at 1 fs))
fits_declarator up r fs = is_declarator (place_of up)

-- x: the word of the declaration around
abbrev pub fits : List Ancestor → Spot → Text → Tree → Bool
fits up c x (node VariableDeclaration l (many ds then fs)) = (not (is_word (codes "using") (first_text l.texts)) || c.uses) && fits_declaration up c.role
fits up c x (node VariableDeclarator l fs) = (not (is_word (codes "using") x) || c.uses) && fits_declarator up c.role fs
fits up c x (node SwitchCase l fs) = not (uses_in (field_at 1 fs)) || c.uses
fits up c x (node ParenthesizedExpression l fs) = is_value c.role || is_simple_target (kind_of (without_parens (node ParenthesizedExpression l fs)))
fits up c x _ = true

pub record Stands (up : List Ancestor) (c : Spot) (ls : List Text) (x : Text) (t : Tree) : Type 0 where
  pub role : serves (nature (kind_of t)) c.role ≡ true
  pub spine : is_spine (place_of up) ≡ true → c.exits.cuts ≡ true
  pub ways : holds_statements (kind_of t) ≡ true → Ways (is_breakable up) (is_in_loop up) (labels up) (is_labeled_loop t) c.exits ls
  pub fit : fits up c x t ≡ true

-- KINDS OF WHICH NO MORE IS ASKED THAN THEIR ROLE

abbrev pub is_declaring : AstType → Bool
is_declaring VariableDeclaration = true
is_declaring VariableDeclarator = true
is_declaring _ = false

abbrev pub asks_more : Role → AstType → Bool
asks_more r ParenthesizedExpression = not (is_value r)
asks_more r k = holds_statements k || is_declaring k

abbrev pub is_plain : Role → AstType → Bool
is_plain r k = not (is_statement_kind k) || (serves (nature k) r && not (asks_more r k))

-- of a kind of the class the rest of a test
pub in_class : (a b : Bool) → (not a || b) ≡ true → a ≡ true → b ≡ true
in_class true b h e = h
in_class false b h e = absurd (false≢true e)

pub not_true : (a : Bool) → not a ≡ true → a ≡ false
not_true true h = absurd (false≢true h)
not_true false h = refl

pub not_false : (a : Bool) → not a ≡ false → a ≡ true
not_false true h = refl
not_false false h = absurd (true≢false h)

no_statements : (r : Role) (k : AstType) → asks_more r k ≡ false → holds_statements k ≡ false
no_statements r ParenthesizedExpression h = refl
no_statements r k h = (or_parts (holds_statements k) (is_declaring k) (same r k h)).0
  where
    same : (r : Role) (k : AstType) → asks_more r k ≡ false → (holds_statements k || is_declaring k) ≡ false
    same r ParenthesizedExpression h = refl
    same r _ h = h

plain_fits : (up : List Ancestor) (c : Spot) (x : Text) (t : Tree) → asks_more c.role (kind_of t) ≡ false → fits up c x t ≡ true
plain_fits up c x (node VariableDeclaration l fs) h = absurd (true≢false h)
plain_fits up c x (node VariableDeclarator l fs) h = absurd (true≢false h)
plain_fits up c x (node SwitchCase l fs) h = absurd (true≢false h)
plain_fits up c x (node ParenthesizedExpression l fs) h = or_left (is_value c.role) (is_simple_target (kind_of (without_parens (node ParenthesizedExpression l fs)))) (not_false (is_value c.role) h)
plain_fits up c x (node _ l fs) h = refl

pub plain_stands : {up : List Ancestor} {c : Spot} {ls : List Text} {x : Text} (t : Tree) → is_plain c.role (kind_of t) ≡ true → is_statement_kind (kind_of t) ≡ true → (is_spine (place_of up) ≡ true → c.exits.cuts ≡ true) → Stands up c ls x t
plain_stands {up} {c} {x} t h g spine =
    let d = and_parts (serves (nature (kind_of t)) c.role) (not (asks_more c.role (kind_of t))) (in_class (is_statement_kind (kind_of t)) _ h g) in
    let less = not_true (asks_more c.role (kind_of t)) d.1 in
    let none = no_statements c.role (kind_of t) less in
    record {
      role = d.0;
      spine = spine;
      ways = λ e. absurd (true≢false (sym e ∙ none));
      fit = plain_fits up c x t less;
    }

-- STATEMENTS, and what else stands where a value is taken

abbrev pub is_stated : AstType → Bool
is_stated k = not (is_statement_kind k) || (serves (nature k) a_value && not (is_clause k)) where
  is_clause : AstType → Bool
  is_clause VariableDeclarator = true
  is_clause SwitchCase = true
  is_clause _ = false

stated_fits : (up : List Ancestor) (E : Exits) (u : Bool) (x : Text) (t : Tree) → is_stated (kind_of t) ≡ true → is_target (place_of up) ≡ false → (using_declared t ≡ true → u ≡ true) → fits up (as_statement E u) x t ≡ true
stated_fits up E u x (node VariableDeclaration l (many ds then fs)) h p g =
    and_from (not (is_word (codes "using") (first_text l.texts)) || u) (not (is_target (place_of up))) (implies (is_word (codes "using") (first_text l.texts)) u g) (ap not p)
stated_fits up E u x (node VariableDeclarator l fs) h p g = absurd (false≢true h)
stated_fits up E u x (node SwitchCase l fs) h p g = absurd (false≢true h)
stated_fits up E u x _ h p g = refl

pub stated_stands : {up : List Ancestor} {E : Exits} {u : Bool} {ls : List Text} {x : Text} (t : Tree) → is_stated (kind_of t) ≡ true → is_statement_kind (kind_of t) ≡ true → is_spine (place_of up) ≡ false → is_target (place_of up) ≡ false →
    (holds_statements (kind_of t) ≡ true → Ways (is_breakable up) (is_in_loop up) (labels up) (is_labeled_loop t) E ls) → (using_declared t ≡ true → u ≡ true) → Stands up (as_statement E u) ls x t
stated_stands {up} {E} {u} {x} t h g no_link no_target ways using = record {
  role = (and_parts (serves (nature (kind_of t)) a_value) _ (in_class (is_statement_kind (kind_of t)) _ h g)).0;
  spine = λ e. absurd (true≢false (sym e ∙ no_link));
  ways = ways;
  fit = stated_fits up E u x t h no_target using;
}

-- TARGETS

pub simple_stands : {up : List Ancestor} {u : Bool} {ls : List Text} {x : Text} (r : Role) (t : Tree) → is_simple_target (kind_of (without_parens t)) ≡ true →
    serves name_like r ≡ true → serves member_like r ≡ true → serves parens_like r ≡ true → is_spine (place_of up) ≡ false → Stands up (as_role r u) ls x t
simple_stands r (node Identifier l fs) h a b c no_link = record { role = a; spine = λ e. absurd (true≢false (sym e ∙ no_link)); ways = λ e. absurd (false≢true e); fit = refl }
simple_stands r (node MemberExpression l fs) h a b c no_link = record { role = b; spine = λ e. absurd (true≢false (sym e ∙ no_link)); ways = λ e. absurd (false≢true e); fit = refl }
simple_stands r (node ParenthesizedExpression l fs) h a b c no_link = record { role = c; spine = λ e. absurd (true≢false (sym e ∙ no_link)); ways = λ e. absurd (false≢true e); fit = or_right (is_value r) (is_simple_target (kind_of (without_parens (node ParenthesizedExpression l fs)))) h }
simple_stands r (node _ l fs) h a b c no_link = absurd (false≢true h)

-- a target of a sort: of its own kinds, or simple
pub target_stands : {up : List Ancestor} {u : Bool} {ls : List Text} {x : Text} (s : Sort) (r : Role) (t : Tree) → is_bad_target (Target s) t ≡ false →
    (list_any (same_type (kind_of t)) (own_kinds s) ≡ true → Stands up (as_role r u) ls x t) →
    serves name_like r ≡ true → serves member_like r ≡ true → serves parens_like r ≡ true → is_spine (place_of up) ≡ false → Stands up (as_role r u) ls x t
target_stands {up} {u} {ls} {x} s r t bad own a b c no_link = at (list_any (same_type (kind_of t)) (own_kinds s)) own (not_false (list_any (same_type (kind_of t)) (own_kinds s) || is_simple_target (kind_of (without_parens t))) bad)
  where
    at : (z : Bool) → (z ≡ true → Stands up (as_role r u) ls x t) → (z || is_simple_target (kind_of (without_parens t))) ≡ true → Stands up (as_role r u) ls x t
    at true g h = g refl
    at false g h = simple_stands r t h a b c no_link

-- where no declaration is of the sort's own kinds
pub pattern_stands : {up : List Ancestor} {u : Bool} {ls : List Text} {x : Text} (s : Sort) (r : Role) (t : Tree) → is_bad_target (Target s) t ≡ false → is_statement_kind (kind_of t) ≡ true → list_all (is_plain r) (own_kinds s) ≡ true →
    serves name_like r ≡ true → serves member_like r ≡ true → serves parens_like r ≡ true → is_spine (place_of up) ≡ false → Stands up (as_role r u) ls x t
pattern_stands s r t bad g own a b c no_link = target_stands s r t bad (λ e. plain_stands t (among_kinds (is_plain r) (kind_of t) (own_kinds s) e own) g (λ d. absurd (true≢false (sym d ∙ no_link)))) a b c no_link

-- `using` IN A LIST, and no `using` as a body of its own

pub lists_using : (t : Tree) (ts : Trees) → Listed t ts → using_here t ≡ true → using_in ts ≡ true
lists_using t empty h g = absurd h
lists_using t (u before us) (inl e) g = or_left (using_here u) (using_in us) (ap using_here (sym e) ∙ g)
lists_using t (u before us) (inr e) g = or_right (using_here u) (using_in us) (lists_using t us e g)

pub word_lexical : (x : Text) → is_word (codes "using") x ≡ true → is_lexical x ≡ true
word_lexical x h = ap is_lexical ((bytes_eq-Decides x (codes "using")).0 h)

pub lone_var : (up : List Ancestor) (t : Tree) → is_misplaced_declaration up t ≡ false → is_lone_body up ≡ true → using_here t ≡ true → false ≡ true
lone_var up (node VariableDeclaration l fs) h g e = sym h ∙ and_from (is_lexical (first_text l.texts)) (is_lone_body up) (word_lexical (first_text l.texts) e) g
lone_var up (node _ l fs) h g e = e
