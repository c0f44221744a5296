-- What each rule keeps of the rules of declared names, in one statement for a set of rules.
use Rattle.std.proofs.Common.{◌≡◌, inl, inr, refl, sym, ap, subst, ◌∙◌, List, [], ◌∷◌, ◌++◌}
use Rattle.std.specs.Prelude.{◌⊎◌, Bool, true, false, ◌&&◌, Option, Some, is_some}
use Rattle.es_tree.specs.Ancestors.{Ancestor}
use Rattle.es_tree.specs.Constructs.{field_at}
use Rattle.es_tree.specs.DeclaredNames.{Name, declared, name}
use Rattle.es_tree.specs.HasForm.{has_form, same_type}
use Rattle.es_tree.specs.Names.{first_text}
use Rattle.es_tree.specs.StaticRules.{is_constructor_key}
use Rattle.es_tree.specs.Tree.{Tree, node, Label, done, ◌then◌, missing, one, many, empty, kind_of}
use Rattle.es_tree.specs.Words.{Text}
use Rattle.es_tree.specs.declared.ast_type.AstType.{AstType}
use Rattle.es_tree.specs.declared.ast_type.AstType.TheVariants.{ArrowFunctionExpression, AssignmentExpression, BinaryExpression, BlockStatement, CallExpression, CatchClause, ChainExpression, ClassDeclaration, ConditionalExpression, ExportDefaultDeclaration, ExportSpecifier, FunctionDeclaration, Identifier, LogicalExpression, MethodDefinition, ObjectExpression, PrivateIdentifier, Program, PropertyDefinition, SequenceExpression, StringLiteral, UnaryExpression}
use Rattle.es_tree.specs.declared.place.Namespace.TheVariants.{Scope}
use Rattle.es_tree.specs.declared.options.EnvOptions.{EnvOptions}
use Rattle.es_tree.specs.declared.table.Sort.{Sort}
use Rattle.es_tree.specs.declared.table.Sort.TheVariants.{Expression as s-Expression}
use Rattle.es_tree.proofs.NodeForm.{node_form}
use Rattle.es_runs.specs.OptionalChaining.{has_tests, delete_node, true_node, where_short}
use Rattle.es_runs.specs.Rules.{void_zero_node}
use Rattle.es_resolution.specs.Declarations.{Bound}
use Rattle.es_steps.specs.CoreRules.{RowRule, rule_under, where_on}
use Rattle.es_steps.specs.Exponentiation.{ExponentiationRule, assigned_power}
use Rattle.es_steps.specs.Exponentiation.ExponentiationRule.{power, power_assignment}
use Rattle.es_steps.specs.LogicalAssignment.{LogicalAssignmentRule}
use Rattle.es_steps.specs.LogicalAssignment.LogicalAssignmentRule.{to_name, to_static_member, to_computed_member}
use Rattle.es_steps.specs.NullishCoalescing.{NullishCoalescingRule}
use Rattle.es_steps.specs.NullishCoalescing.NullishCoalescingRule.{with_temporary, reading_again}
use Rattle.es_steps.specs.ObjectSpread.{SpreadRule}
use Rattle.es_steps.specs.ObjectSpread.SpreadRule.{spreads}
use Rattle.es_steps.specs.Open.{is_import, with_vars}
use Rattle.es_steps.specs.OptionalCatch.{CatchRule}
use Rattle.es_steps.specs.OptionalCatch.CatchRule.{catches}
use Rattle.es_steps.specs.OptionalChaining.{OptionalChainingRule}
use Rattle.es_steps.specs.OptionalChaining.OptionalChainingRule.{by_tests, as_callee, in_delete}
use Rattle.es_steps.specs.RestAssignments.{RestAssignmentRule}
use Rattle.es_steps.specs.RestAssignments.RestAssignmentRule.{assigns}
use Rattle.es_steps.specs.Rules.{Replacing, Writing, also_all, either_rule}
use Rattle.es_steps.specs.Rules.Replacing.{replaces}
use Rattle.es_steps.specs.Slots.{holds, is_slot}
use Rattle.es_steps.specs.Steps.{Whole, Ledger, Site, Spot}
use Rattle.es_steps.specs.Steps.Spot.{at_node}
use Rattle.es_tree.specs.RestTargets.{is_rest_target}
use Rattle.es_steps.specs.WrapRule.{OutsideSlots, WrapRule, called_arrow, is_wrapped_for, takes_for_target}
use Rattle.es_steps.specs.WrapRule.WrapRule.{wraps}
use Rattle.es_steps.proofs.Assigns.{assigning-makes}
use Rattle.es_steps.proofs.Chains.{chaining-makes}
use Rattle.es_steps.proofs.Coalesces.{coalescing-makes}
use Rattle.es_steps.proofs.FormRules.{no-names}
use Rattle.es_steps.proofs.Kept.{Each}
use Rattle.es_steps.proofs.Made.{Makes}
use Rattle.es_steps.proofs.Raises.{raising-makes}
use Rattle.es_steps.proofs.RestAssignments.{assigning_rest-makes}
use Rattle.es_steps.proofs.RuleLaws.{used-after, writes-lists}
use Rattle.es_steps.proofs.Spreads.{spread-makes}
use Rattle.es_steps.proofs.Taken.{pending_in, this_in, top_in, whole_in}
use Rattle.es_steps.proofs.Temporaries.{AreTaken, each-map, taken-found, taken-fresh}
use Rattle.es_valid_steps.proofs.FurtherSteps.{alone}
use Rattle.es_valid_names.proofs.Claims.{Around, Clear, Distinct, Stand, above, claims, claims_in, elsewhere, is_owned}
use Rattle.es_valid_names.proofs.ClearRows.{assigning-clear, chaining-clear, coalescing-clear, raising-clear, spread-kind, spreading-clear}
use Rattle.es_valid_names.proofs.Grown.{Grown, new_list, grown-self, never, or-none, still-apart}
use Rattle.es_valid_names.proofs.MoreAround.{Allows, clear-more, moved-in}
use Rattle.es_valid_names.proofs.RestAssignmentNames.{assigning-rest-clear}
use Rattle.es_valid_names.proofs.Mute.{Free, expression-kind, free-exported, is_member, is_outer, mute-expression}

-- WHAT A RULE LEAVES

abbrev pub use_in : Ledger → Text → Bool
use_in s = (whole_in s).in_use

-- fresh temporaries more are pending, and of a name of `this` what may be; all are in use afterwards
pub record MoreNames (This : Option Bound → Option Bound → Type 0) (s s' : Ledger) : Type 0 where
  pub names : List Bound
  pub pending : pending_in s' ≡ with_vars names (pending_in s)
  pub this : This (this_in s) (this_in s')
  pub top : top_in s' ≡ top_in s
  pub fresh : Each (λ b. (use_in s b.name ≡ false) × (use_in s' b.name ≡ true)) names
  pub more : (x : Text) → use_in s x ≡ true → use_in s' x ≡ true

-- temporaries alone
abbrev pub NewNames : Ledger → Ledger → Type 0
NewNames = MoreNames (λ x y. y ≡ x)

pub nothing-new : (s s' : Ledger) → s ≡ s' → NewNames s s'
nothing-new s s' e = record { names = []; pending = sym (ap (λ r. pending_in r) e) ∙ no-names (pending_in s); this = sym (ap (λ r. this_in r) e); top = sym (ap (λ r. top_in r) e); fresh = tt; more = λ x h. sym (ap (λ r. use_in r x) e) ∙ h }

-- the same rules are kept, where the names in use are those of the ledgers
abbrev pub StaysClear : Ledger → Ledger → Tree → Tree → Type 0
StaysClear s s' t u = (c d : Around) → c.used ≡ use_in s → d.used ≡ use_in s' → Allows c d → (st : Stand) → Clear c st t → Clear d st u

pub record NodeKept (s s' : Ledger) (t u : Tree) : Type 0 where
  pub grown : (up : List Ancestor) → Grown (use_in s) (use_in s') (claims is_owned up t) (claims is_owned up u)
  pub clear : StaysClear s s' t u
  pub name : same_type (kind_of u) Identifier ≡ same_type (kind_of t) Identifier
  pub key : is_constructor_key (Some u) ≡ true → is_constructor_key (Some t) ≡ true
  pub imports : is_import u ≡ is_import t
  pub inside : same_type (kind_of t) Program ≡ false
  pub names : NewNames s s'

pub record NameLawful (R : Site → Ledger → Spot → Ledger → Spot → Type 0) : Type 0 where
  pub at_nodes : (n : Site) (s s' : Ledger) (t u : Tree) (a : Sort) → (is_slot n.above ≡ true → a ≡ s-Expression) → R n s (at_node t) s' (at_node u) → has_form a t ≡ true → has_form a u ≡ true → NodeKept s s' t u

-- ROWS

-- the kinds that rows act on and leave
abbrev pub is_row : AstType → Bool
is_row AssignmentExpression = true
is_row BinaryExpression = true
is_row CallExpression = true
is_row ChainExpression = true
is_row ConditionalExpression = true
is_row LogicalExpression = true
is_row ObjectExpression = true
is_row SequenceExpression = true
is_row UnaryExpression = true
is_row _ = false

record RowKind (t : Tree) : Type 0 where
  outer : is_outer (kind_of t) ≡ false
  member : is_member (kind_of t) ≡ false
  declares : (up : List Ancestor) → Free (declared up t)
  name : same_type (kind_of t) Identifier ≡ false
  key : is_constructor_key (Some t) ≡ false
  imports : is_import t ≡ false

row-kind : (t : Tree) → is_row (kind_of t) ≡ true → RowKind t
row-kind (node AssignmentExpression l fs) e = record { outer = refl; member = refl; declares = λ up. tt; name = refl; key = refl; imports = refl }
row-kind (node BinaryExpression l fs) e = record { outer = refl; member = refl; declares = λ up. tt; name = refl; key = refl; imports = refl }
row-kind (node CallExpression l fs) e = record { outer = refl; member = refl; declares = λ up. tt; name = refl; key = refl; imports = refl }
row-kind (node ChainExpression l fs) e = record { outer = refl; member = refl; declares = λ up. tt; name = refl; key = refl; imports = refl }
row-kind (node ConditionalExpression l fs) e = record { outer = refl; member = refl; declares = λ up. tt; name = refl; key = refl; imports = refl }
row-kind (node LogicalExpression l fs) e = record { outer = refl; member = refl; declares = λ up. tt; name = refl; key = refl; imports = refl }
row-kind (node ObjectExpression l fs) e = record { outer = refl; member = refl; declares = λ up. tt; name = refl; key = refl; imports = refl }
row-kind (node SequenceExpression l fs) e = record { outer = refl; member = refl; declares = λ up. tt; name = refl; key = refl; imports = refl }
row-kind (node UnaryExpression l fs) e = record { outer = refl; member = refl; declares = λ up. tt; name = refl; key = refl; imports = refl }
row-kind (node _ l fs) e = absurd (cc e)

row-mute : (a : Sort) (up : List Ancestor) (t : Tree) → is_row (kind_of t) ≡ true → has_form a t ≡ true → claims is_owned up t ≡ []
row-mute a up t e h = let k = row-kind t e in mute-expression a up t k.outer k.member h (k.declares up)

both-mute : {used used' : Text → Bool} (gs hs : List (List Name)) → gs ≡ [] → hs ≡ [] → Grown used used' gs hs
both-mute {used} {used'} gs hs e d = subst (λ (xs : List (List Name)). Grown used used' xs hs) (sym e) (subst (λ (ys : List (List Name)). Grown used used' [] ys) (sym d) (grown-self []))

pub taken-new : (w : Whole) (bs : List Bound) → AreTaken w.in_use w.free_symbol bs → Each (λ b. (w.in_use b.name ≡ false) × (also_all bs w.in_use b.name ≡ true)) bs
taken-new w bs h = each-map bs (λ b g. (taken-fresh w.in_use w.free_symbol bs h b.name b.symbol g.0, g.2)) (taken-found w.in_use w.free_symbol bs h)

record RowKinds (t u : Tree) : Type 0 where
  old : is_row (kind_of t) ≡ true
  left : is_row (kind_of u) ≡ true

not-program : (k : AstType) → is_outer k ≡ false → same_type k Program ≡ false
not-program Program e = absurd (cc e)
not-program _ e = refl

no-key : (t u : Tree) → is_constructor_key (Some u) ≡ false → is_constructor_key (Some u) ≡ true → is_constructor_key (Some t) ≡ true
no-key t u e d = absurd (cc (e, d))

-- a row whose rule is this, maybe outside open slots
row-names : (R Q : Site → Whole → List Bound → Tree → Tree → Type 0) → ((n : Site) (w : Whole) (bs : List Bound) (t u : Tree) → Q n w bs t u → R n w bs t u) → ((n : Site) (w : Whole) (bs : List Bound) (t u : Tree) → R n w bs t u → Makes n w bs t u) → ((n : Site) (w : Whole) (bs : List Bound) (t u : Tree) → R n w bs t u → RowKinds t u) →
    ((c : Around) (st : Stand) (n : Site) (w : Whole) (bs : List Bound) (t u : Tree) → R n w bs t u → Clear c st t → Clear c st u) → NameLawful (Replacing Q)
row-names R Q rule makes kinds clear = record { at_nodes = nodes }
  where
    nodes : (n : Site) (s s' : Ledger) (t u : Tree) (a : Sort) → (is_slot n.above ≡ true → a ≡ s-Expression) → Replacing Q n s (at_node t) s' (at_node u) → has_form a t ≡ true → has_form a u ≡ true → NodeKept s s' t u
    nodes n s s' t u a slot (replaces {w = w} bs h) f formed =
        let r = rule n w bs t u h in
        let k = kinds n w bs t u r in
        let old = row-kind t k.old in
        let new = row-kind u k.left in
        record {
          grown = λ up. both-mute (claims is_owned up t) (claims is_owned up u) (row-mute a up t k.old f) (row-mute a up u k.left formed);
          clear = λ c d e g m st q. clear-more c d m st u (clear c st n w bs t u r q);
          name = new.name ∙ sym old.name;
          key = no-key t u new.key;
          imports = new.imports ∙ sym old.imports;
          inside = not-program (kind_of t) old.outer;
          names = record { names = bs; pending = refl; this = refl; top = refl; fresh = taken-new w bs (makes n w bs t u r).taken; more = λ y e. used-after bs w.in_use y e };
        }

coalescing-kinds : (n : Site) (w : Whole) (bs : List Bound) (t u : Tree) → NullishCoalescingRule n w bs t u → RowKinds t u
coalescing-kinds n w bs t u (with_temporary texts again next) = record { old = refl; left = refl }
coalescing-kinds n w bs t u (reading_again texts again) = record { old = refl; left = refl }

assigning-kinds : (n : Site) (w : Whole) (bs : List Bound) (t u : Tree) → LogicalAssignmentRule n w bs t u → RowKinds t u
assigning-kinds n w bs t u (to_name texts op alone target) = record { old = refl; left = refl }
assigning-kinds n w bs t u (to_static_member texts op alone target flags object) = record { old = refl; left = refl }
assigning-kinds n w bs t u (to_computed_member texts op alone target flags object key) = record { old = refl; left = refl }

raising-kinds : (n : Site) (w : Whole) (bs : List Bound) (t u : Tree) → ExponentiationRule n w bs t u → RowKinds t u
raising-kinds n w bs t u (power math texts left right) = record { old = refl; left = refl }
raising-kinds n w bs t u (power_assignment {m = m} {r = r} {target = target} {read = read} {fs = fs} math texts right alone twice) = record { old = refl; left = at fs }
  where
    at : (fs : List Tree) → is_row (kind_of (assigned_power m fs target read r)) ≡ true
    at [] = refl
    at (f ∷ fs) = refl

short-kind : (m : Label) (ts : List Tree) (short long : Tree) → has_tests ts ≡ true → is_row (kind_of (where_short m ts short long)) ≡ true
short-kind m [] short long h = absurd (cc h)
short-kind m (t ∷ ts) short long h = refl

chaining-kinds : (no_all : Bool) (n : Site) (w : Whole) (bs : List Bound) (t u : Tree) → OptionalChainingRule no_all n w bs t u → RowKinds t u
chaining-kinds no_all n w bs t u (by_tests {m = m} {w = v} level walked tests) = record { old = refl; left = short-kind m v.tests void_zero_node v.current tests }
chaining-kinds no_all n w bs t u (as_callee {m = m} {d = d} {w = v} level walked tests bound) = record { old = refl; left = short-kind m v.tests void_zero_node d tests }
chaining-kinds no_all n w bs t u (in_delete {m = m} {w = v} texts alone chain walked tests) = record { old = refl; left = short-kind m v.tests true_node (delete_node v.current) tests }

spreading-kinds : (n : Site) (w : Whole) (bs : List Bound) (t u : Tree) → SpreadRule n w bs t u → RowKinds t u
spreading-kinds n w bs t u (spreads unbound used some silent r) = record { old = refl; left = spread-kind n w bs t u (spreads unbound used some silent r) (λ k. is_row k) refl }

-- THE WRAP RULE

and-none : (a b : Bool) → a ≡ false → (a && b) ≡ false
and-none true b e = absurd (cc e)
and-none false b e = refl

no-construct : (o : EnvOptions) (l : Label) → is_wrapped_for o Identifier l done ≡ false
no-construct o l =
    or-none _ _
    (or-none _ _ (or-none _ _ (or-none _ _ (never o.es2020.nullish_coalescing_operator false refl) (never o.es2020.optional_chaining false refl)) (and-none (o.es2016.exponentiation_operator && false) false (never o.es2016.exponentiation_operator false refl)))
    (and-none (o.es2021.logical_assignment_operators && false) (takes_for_target o l done) (never o.es2021.logical_assignment_operators false refl)))
    (and-none (is_some o.es2018.object_rest_spread && false) (is_rest_target (field_at 0 done)) (never (is_some o.es2018.object_rest_spread) false refl))

-- an expression that holds a construct
record Wrapped (t : Tree) : Type 0 where
  member : is_member (kind_of t) ≡ false
  name : same_type (kind_of t) Identifier ≡ false
  declares : (up : List Ancestor) → Free (declared up t)
  moves : (c : Around) (st : Stand) → Clear c st t → Clear c elsewhere t

wrapped : (o : EnvOptions) (t : Tree) → has_form s-Expression t ≡ true → holds (is_wrapped_for o) t ≡ true → Wrapped t
wrapped o (node Identifier l done) f h = absurd (let e = no-construct o l in cc (or-none (is_wrapped_for o Identifier l done) false e refl, h))
wrapped o (node Identifier l (g then gs)) f h = absurd (let no : false ≡ true = (node_form s-Expression Identifier l (g then gs) f).children in cc no)
wrapped o (node PrivateIdentifier l fs) f h = absurd (let no : false ≡ true = (node_form s-Expression PrivateIdentifier l fs f).sort in cc no)
wrapped o (node MethodDefinition l fs) f h = absurd (let no : false ≡ true = (node_form s-Expression MethodDefinition l fs f).sort in cc no)
wrapped o (node PropertyDefinition l fs) f h = absurd (let no : false ≡ true = (node_form s-Expression PropertyDefinition l fs f).sort in cc no)
wrapped o (node BlockStatement l fs) f h = absurd (let no : false ≡ true = (node_form s-Expression BlockStatement l fs f).sort in cc no)
wrapped o (node FunctionDeclaration l fs) f h = absurd (let no : false ≡ true = (node_form s-Expression FunctionDeclaration l fs f).sort in cc no)
wrapped o (node ClassDeclaration l fs) f h = absurd (let no : false ≡ true = (node_form s-Expression ClassDeclaration l fs f).sort in cc no)
wrapped o (node ExportSpecifier l fs) f h = absurd (let no : false ≡ true = (node_form s-Expression ExportSpecifier l fs f).sort in cc no)
wrapped o (node ExportDefaultDeclaration l fs) f h = absurd (let no : false ≡ true = (node_form s-Expression ExportDefaultDeclaration l fs f).sort in cc no)
wrapped o (node StringLiteral l fs) f h = record { member = refl; name = refl; declares = λ up. free-exported up (first_text l.texts); moves = λ c st q. (tt, refl, moved-in c _ st elsewhere StringLiteral fs 0 fs refl q.2) }
wrapped o (node _ l fs) f h = record { member = refl; name = refl; declares = λ up. tt; moves = λ c st q. (q.0, q.1, moved-in c _ st elsewhere _ fs 0 fs refl q.2) }

empty-append : (gs hs : List (List Name)) → gs ≡ [] → hs ≡ [] → gs ++ hs ≡ []
empty-append gs hs e d = λ i. e i ++ d i

wrap-names : (o : EnvOptions) → NameLawful (WrapRule o)
wrap-names o = record { at_nodes = nodes }
  where
    nodes : (n : Site) (s s' : Ledger) (t u : Tree) (a : Sort) → (is_slot n.above ≡ true → a ≡ s-Expression) → WrapRule o n s (at_node t) s' (at_node u) → has_form a t ≡ true → has_form a u ≡ true → NodeKept s s' t u
    nodes n s s' t u a slot (wraps {e = e} role expression here construct) f after =
        let formed = subst (λ (b : Sort). has_form b e ≡ true) (slot here) f in
        let left = subst (λ (b : Sort). has_form b (called_arrow e) ≡ true) (slot here) after in
        let w = wrapped o e formed construct in
        let mute = λ (up : List Ancestor). mute-expression s-Expression up e (expression-kind e formed) w.member formed (w.declares up) in
        record {
          grown = λ up. both-mute (claims is_owned up e) (claims is_owned up (called_arrow e)) (mute up) (row-mute s-Expression up (called_arrow e) refl left);
          clear = λ c d g q m st k. let moved = clear-more c d m elsewhere e (w.moves c st k) in
              let inside = empty-append (claims is_owned (above ArrowFunctionExpression (record { id = 0; start = 0; stop = 0; texts = []; flags = []; marks = [] }) (many empty then one e then done) 1 1 ∷ []) e) [] (mute _) refl in
              (tt, refl, ((subst (λ (gs : List (List Name)). Distinct d.used [] gs) (sym inside) tt, refl, (tt, (moved, tt))), (tt, tt)));
          name = sym w.name;
          key = λ x. absurd (cc x);
          imports = sym expression.no_import;
          inside = not-program (kind_of e) (expression-kind e formed);
          names = record { names = []; pending = no-names (pending_in s); this = refl; top = refl; fresh = tt; more = λ x y. y };
        }

-- OPTIONAL CATCH

pub catch-names : NameLawful CatchRule
catch-names = record { at_nodes = nodes }
  where
    nodes : (n : Site) (s s' : Ledger) (t u : Tree) (a : Sort) → (is_slot n.above ≡ true → a ≡ s-Expression) → CatchRule n s (at_node t) s' (at_node u) → has_form a t ≡ true → has_form a u ≡ true → NodeKept s s' t u
    nodes n s s' t u a slot (catches {w = w} {p = p} {m = m} {body = body} {x = x} fresh) f formed =
        let b : Bound = record { name = x; symbol = Some w.free_symbol } in
        let taken : AreTaken w.in_use w.free_symbol (b ∷ []) = ((fresh.free, refl), tt) in
        let new = taken-new w (b ∷ []) taken in
        record {
          grown = λ up. grown-self (claims is_owned up (node CatchClause m (missing then one body then done)));
          clear = λ c d e later q st k.
              let old = subst (λ (v : Text → Bool). Distinct v [] (claims_in is_owned [] CatchClause m (missing then one body then done) 1 0 (missing then one body then done))) e k.0 in
              let g : List Name = name Scope 1 x false ∷ [] in
              let grows = new_list g (record { space = refl; fresh = new.0.0; known = new.0.1 }, tt) (refl, tt) (grown-self (claims_in is_owned [] CatchClause m (missing then one body then done) 1 0 (missing then one body then done))) in
              (subst (λ (v : Text → Bool). Distinct v [] (g ∷ claims_in is_owned [] CatchClause m (missing then one body then done) 1 0 (missing then one body then done))) (sym later) (still-apart w.in_use (use_in s') (λ y z. used-after (b ∷ []) w.in_use y z) grows old), refl, ((tt, refl, tt), (clear-more c d q _ body k.2.1.0, tt)));
          name = refl;
          key = λ z. z;
          imports = refl;
          inside = refl;
          names = record { names = []; pending = no-names p; this = refl; top = refl; fresh = tt; more = λ y z. used-after (b ∷ []) w.in_use y z };
        }

-- TOGETHER

pick : {A B C : Type 0} → (A → C) → (B → C) → A ⊎ B → C
pick f g (inl h) = f h
pick f g (inr h) = g h

pub both-names : {Q R : Site → Ledger → Spot → Ledger → Spot → Type 0} → NameLawful Q → NameLawful R → NameLawful (either_rule Q R)
both-names {Q} {R} q r = record { at_nodes = λ n s s' t u a slot h f g. pick {A = Q n s (at_node t) s' (at_node u)} {B = R n s (at_node t) s' (at_node u)} (λ d. q.at_nodes n s s' t u a slot d f g) (λ d. r.at_nodes n s s' t u a slot d f g) h }

pub on-names : (b : Bool) (R : Site → Ledger → Spot → Ledger → Spot → Type 0) → NameLawful R → NameLawful (where_on b R)
on-names true R h = h
on-names false R h = record { at_nodes = λ n s s' t u a slot d f g. absurd d }

-- THE RULES that put no statement beside another

writing-names : NameLawful Writing
writing-names = record { at_nodes = λ n s s' t u a slot h f g. absurd (writes-lists h) }

core-row : (R : Site → Whole → List Bound → Tree → Tree → Type 0) → ((n : Site) (w : Whole) (bs : List Bound) (t u : Tree) → R n w bs t u → Makes n w bs t u) → ((n : Site) (w : Whole) (bs : List Bound) (t u : Tree) → R n w bs t u → RowKinds t u) →
    ((c : Around) (st : Stand) (n : Site) (w : Whole) (bs : List Bound) (t u : Tree) → R n w bs t u → Clear c st t → Clear c st u) → NameLawful (RowRule R)
core-row R makes kinds clear = row-names R (OutsideSlots R) (λ n w bs t u h. h.rule) makes kinds clear

assigns-names : NameLawful (RowRule LogicalAssignmentRule)
assigns-names = core-row LogicalAssignmentRule assigning-makes assigning-kinds (λ c st. assigning-clear c st)

coalesces-names : NameLawful (RowRule NullishCoalescingRule)
coalesces-names = core-row NullishCoalescingRule coalescing-makes coalescing-kinds (λ c st. coalescing-clear c st)

raises-names : NameLawful (RowRule ExponentiationRule)
raises-names = core-row ExponentiationRule raising-makes raising-kinds (λ c st. raising-clear c st)

chains-names : (no_all : Bool) → NameLawful (RowRule (OptionalChainingRule no_all))
chains-names no_all = core-row (OptionalChainingRule no_all) (chaining-makes no_all) (chaining-kinds no_all) (λ c st n w bs t u h k. chaining-clear c no_all w st n bs t u h k)

spread-names : NameLawful (Replacing SpreadRule)
spread-names = row-names SpreadRule SpreadRule (λ n w bs t u h. h) spread-makes spreading-kinds (λ c st. spreading-clear c st)

assigning-rest-kinds : (n : Site) (w : Whole) (bs : List Bound) (t u : Tree) → RestAssignmentRule n w bs t u → RowKinds t u
assigning-rest-kinds n w bs t u (assigns unbound used texts silent next takes) = record { old = refl; left = refl }

assigns-rest-names : NameLawful (RowRule RestAssignmentRule)
assigns-rest-names = core-row RestAssignmentRule assigning_rest-makes assigning-rest-kinds (λ c st. assigning-rest-clear c st)

under-names : (o : EnvOptions) → NameLawful (rule_under o)
under-names o = both-names writing-names (both-names (wrap-names o) (both-names (on-names o.es2021.logical_assignment_operators _ assigns-names) (both-names (both-names (on-names o.es2020.nullish_coalescing_operator _ coalesces-names) (on-names o.es2020.optional_chaining _ (chains-names o.assumptions.no_document_all))) (on-names o.es2016.exponentiation_operator _ raises-names))))

pub alone-names : (o : EnvOptions) → NameLawful (alone o)
alone-names o = both-names (under-names o) (both-names (on-names o.es2019.optional_catch_binding _ catch-names) (on-names (is_some o.es2018.object_rest_spread) _ (both-names spread-names assigns-rest-names)))
