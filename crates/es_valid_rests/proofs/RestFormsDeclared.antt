-- Object rests that are taken in a declaration keep form, where each declarator that is left declares a name or a pattern.
use Rattle.std.proofs.Common.{◌≡◌, refl, sym, ap, subst, List, [], ◌∷◌, map}
use Rattle.std.specs.Prelude.{Bool, true, false, ◌&&◌, if◌then◌else◌}
use Rattle.std.proofs.lemmas.Bool.{and_from, and_parts}
use Rattle.es_tree.specs.Attributes.{flag_entries}
use Rattle.es_tree.specs.Children.{child_at}
use Rattle.es_tree.specs.HasForm.{flag_of, has_form, is_computed, is_of_sort, sort_at, sort_before_trees, trees_form}
use Rattle.es_tree.specs.Names.{flag_at}
use Rattle.es_tree.specs.Tree.{Tree, node, Label, done, ◌then◌, Field, one, many, Trees, empty, ◌before◌, fields_of, kind_of}
use Rattle.es_tree.specs.Words.{Text}
use Rattle.es_tree.specs.declared.ast_type.AstType.{AstType}
use Rattle.es_tree.specs.declared.ast_type.AstType.TheVariants.{ArrayPattern, AssignmentPattern, Identifier, ObjectPattern, PatternProperty, RestElement, VariableDeclaration, VariableDeclarator}
use Rattle.es_tree.specs.declared.table.FieldName.TheVariants.{Computed as f-Computed}
use Rattle.es_tree.specs.declared.table.Sort.{Sort}
use Rattle.es_tree.specs.declared.table.Sort.TheVariants.{Binding as s-Binding, Expression as s-Expression, Pattern as s-Pattern, PatternMember as s-PatternMember, PatternMemberRest as s-PatternMemberRest, PropertyKey as s-PropertyKey, VariableDeclarator as s-VariableDeclarator}
use Rattle.es_tree.proofs.NodeForm.{node_form, has_form-node}
use Rattle.es_semantic.specs.RolesOf.{reads, role_at}
use Rattle.es_semantic.specs.declared.place.Role.{Role}
use Rattle.es_semantic.specs.declared.place.Role.TheVariants.{Nothing}
use Rattle.es_resolution.specs.Declarations.{Bound}
use Rattle.es_steps.specs.Nodes.{declarator_with, identifier, joined_trees, made, string_node}
use Rattle.es_steps.specs.ObjectRest.{AreKeys, IsKey, RestOf, SplitRule, SplitsOff, TakesRest, and_declarator, declares_as, declares_some, pattern_node}
use Rattle.es_steps.specs.ObjectRest.IsKey.{name_key, text_key}
use Rattle.es_steps.specs.ObjectRest.RestOf.{alone, beside, mapped}
use Rattle.es_steps.specs.ObjectRest.SplitRule.{splits}
use Rattle.es_steps.specs.ObjectRest.SplitsOff.{source, nested, nested_default, key}
use Rattle.es_steps.specs.ObjectRest.TakesRest.{takes_rest}
use Rattle.es_steps.specs.Rules.{next_name}
use Rattle.es_steps.specs.Slots.{is_slot}
use Rattle.es_steps.specs.Steps.{Ledger, Site, Spot, Whole}
use Rattle.es_steps.specs.Steps.Spot.{at_node}
use Rattle.es_steps.proofs.FormLists.{first-formed}
use Rattle.es_steps.proofs.FormMembers.{formed-first}
use Rattle.es_steps.proofs.FormParts.{IsFormed, IsText, formed-name, no-span}
use Rattle.es_steps.proofs.FormPowers.{AreFormed}
use Rattle.es_steps.proofs.FormRows.{next-text}
use Rattle.es_steps.proofs.FormRules.{AtNodes, FormLawful, NodeFormed, no-names, nodes-only, nothing-new}
use Rattle.es_steps.proofs.Fronts.{Front, front-of, front-some}
use Rattle.es_steps.proofs.Fronts.Front.{of_none, of_some}
use Rattle.es_steps.proofs.TakesRest.{texts-are-keys}
use Rattle.es_valid_steps.proofs.RestAssignmentForms.{formed-left, formed-whole}
use Rattle.es_valid_rests.specs.RestRules.{Binding, all_declare, is_binding, is_binding_kind}
use Rattle.es_valid_rests.proofs.RestForms.{at-sort, bound-name, formed-declarator}

-- LISTS

module _ (s : Sort) where
  pub list-parts : (xs ts : Trees) → trees_form s s (joined_trees xs ts) ≡ true → (trees_form s s xs ≡ true) × (trees_form s s ts ≡ true)
  list-parts empty ts h = (refl, h)
  list-parts (x before xs) ts h =
      let parts = first-formed s x (joined_trees xs ts) h in
      let rest = list-parts xs ts parts.1 in
      (formed-first s x xs parts.0 rest.0, rest.1)

  pub list-joined : (xs ts : Trees) → trees_form s s xs ≡ true → trees_form s s ts ≡ true → trees_form s s (joined_trees xs ts) ≡ true
  list-joined empty ts h k = k
  list-joined (x before xs) ts h k =
      let parts = first-formed s x xs h in
      formed-first s x (joined_trees xs ts) parts.0 (list-joined xs ts parts.1 k)

-- lists whose last is of another sort
module _ (s r : Sort) where
  before-more : (xs : Trees) (t : Tree) (c : Trees) → sort_before_trees s r (joined_trees xs (t before c)) ≡ s
  before-more empty t c = refl
  before-more (x before xs) t c = refl

  pub record RestParts (a : Trees) (t : Tree) (c : Trees) : Type 0 where
    pub earlier : trees_form s s a ≡ true
    pub it : has_form (sort_before_trees s r c) t ≡ true
    pub later : trees_form s r c ≡ true

  pub rest-parts : (a : Trees) (t : Tree) (c : Trees) → trees_form s r (joined_trees a (t before c)) ≡ true → RestParts a t c
  rest-parts empty t c h = let parts = and_parts (has_form (sort_before_trees s r c) t) (trees_form s r c) h in record { earlier = refl; it = parts.0; later = parts.1 }
  rest-parts (x before a) t c h =
      let parts = and_parts (has_form (sort_before_trees s r (joined_trees a (t before c))) x) (trees_form s r (joined_trees a (t before c))) h in
      let here = subst (λ (b : Sort). has_form b x ≡ true) (before-more a t c) parts.0 in
      let more = rest-parts a t c parts.1 in
      record { earlier = formed-first s x a here more.earlier; it = more.it; later = more.later }

  pub rest-joined : (a : Trees) (t : Tree) (c : Trees) → trees_form s s a ≡ true → has_form (sort_before_trees s r c) t ≡ true → trees_form s r c ≡ true → trees_form s r (joined_trees a (t before c)) ≡ true
  rest-joined empty t c h k j = and_from (has_form (sort_before_trees s r c) t) (trees_form s r c) k j
  rest-joined (x before a) t c h k j =
      let parts = first-formed s x a h in
      and_from (has_form (sort_before_trees s r (joined_trees a (t before c))) x) (trees_form s r (joined_trees a (t before c))) (subst (λ (b : Sort). has_form b x ≡ true) (sym (before-more a t c)) parts.0) (rest-joined a t c parts.1 k j)

  -- where the last may be of the other sort, too
  pub rest-wider : ((t : Tree) → has_form s t ≡ true → has_form r t ≡ true) → (a : Trees) → trees_form s s a ≡ true → trees_form s r a ≡ true
  rest-wider wide empty h = refl
  rest-wider wide (t before ts) h =
      let parts = first-formed s t ts h in
      and_from (has_form (sort_before_trees s r ts) t) (trees_form s r ts) (at ts parts.0) (rest-wider wide ts parts.1)
    where
      at : (ts : Trees) → has_form s t ≡ true → has_form (sort_before_trees s r ts) t ≡ true
      at empty k = wide t k
      at (u before us) k = k

-- SORTS OF PATTERNS

member-kind : (k : AstType) → is_of_sort s-PatternMember k ≡ true → is_of_sort s-PatternMemberRest k ≡ true
member-kind PatternProperty e = refl
member-kind _ e = absurd (cc e)

pub member-wider : (t : Tree) → has_form s-PatternMember t ≡ true → has_form s-PatternMemberRest t ≡ true
member-wider (node k l fs) h = at-sort s-PatternMember s-PatternMemberRest k l fs (member-kind k (node_form s-PatternMember k l fs h).sort) h

binding-kind : (k : AstType) → is_binding_kind k ≡ true → is_of_sort s-Binding k ≡ true
binding-kind Identifier e = refl
binding-kind ObjectPattern e = refl
binding-kind ArrayPattern e = refl
binding-kind _ e = absurd (cc e)

pub as-binding : (s : Sort) (t : Tree) → is_binding_kind (kind_of t) ≡ true → has_form s t ≡ true → has_form s-Binding t ≡ true
as-binding s (node k l fs) e h = at-sort s s-Binding k l fs (binding-kind k e) h

-- where a property stands in a pattern
abbrev IsMember : Sort → Type 0
IsMember s = is_of_sort s PatternProperty ≡ true

member-sort : (c : Trees) → IsMember (sort_before_trees s-PatternMember s-PatternMemberRest c)
member-sort empty = refl
member-sort (t before ts) = refl

pub property-value : (s : Sort) (l : Label) (k : Field) (v : Tree) → has_form s (node PatternProperty l (k then one v then done)) ≡ true → has_form s-Pattern v ≡ true
property-value s l k v h = (and_parts (has_form s-Pattern v) true (and_parts _ (has_form s-Pattern v && true) (node_form s PatternProperty l (k then one v then done) h).children).1).0

property-with : (s r : Sort) (l : Label) (k : Field) (v u : Tree) → IsMember r → has_form s-Pattern u ≡ true → has_form s (node PatternProperty l (k then one v then done)) ≡ true → has_form r (node PatternProperty l (k then one u then done)) ≡ true
property-with s r l k v u e g h =
    let f = node_form s PatternProperty l (k then one v then done) h in
    let parts = and_parts _ (has_form s-Pattern v && true) f.children in
    has_form-node r PatternProperty l (k then one u then done) (record { sort = e; texts = f.texts; flags = f.flags; start = f.start; stop = f.stop; agree = refl; children = and_from _ (has_form s-Pattern u && true) parts.0 (and_from (has_form s-Pattern u) true g refl) })

pattern-name : (b : Bound) → IsText b → has_form s-Pattern (identifier b) ≡ true
pattern-name b e = rw e refl

-- A PATTERN, by its members

abbrev AreMembers : Trees → Type 0
AreMembers ps = trees_form s-PatternMember s-PatternMemberRest ps ≡ true

pub pattern-members : (l : Label) (ps : Trees) → has_form s-Binding (pattern_node l ps) ≡ true → AreMembers ps
pattern-members l ps h = (and_parts (trees_form s-PatternMember s-PatternMemberRest ps) true (node_form s-Binding ObjectPattern l (many ps then done) h).children).0

pattern-with : (l : Label) (ps qs : Trees) → AreMembers qs → has_form s-Binding (pattern_node l ps) ≡ true → has_form s-Binding (pattern_node l qs) ≡ true
pattern-with l ps qs g h =
    let f = node_form s-Binding ObjectPattern l (many ps then done) h in
    has_form-node s-Binding ObjectPattern l (many qs then done) (record { sort = refl; texts = f.texts; flags = f.flags; start = f.start; stop = f.stop; agree = refl; children = and_from (trees_form s-PatternMember s-PatternMemberRest qs) true g refl })

made-pattern : (ps : Trees) → AreMembers ps → has_form s-Binding (pattern_node (made [] []) ps) ≡ true
made-pattern ps g = let span = no-span [] [] in has_form-node s-Binding ObjectPattern (made [] []) (many ps then done) (record { sort = refl; texts = refl; flags = refl; start = span.start; stop = span.stop; agree = refl; children = and_from (trees_form s-PatternMember s-PatternMemberRest ps) true g refl })

-- A DECLARATOR, by its parts

pub record DeclaratorForm (p e : Tree) : Type 0 where
  pub target : has_form s-Binding p ≡ true
  pub value : IsFormed e

pub declarator-parts : (l : Label) (p e : Tree) → has_form s-VariableDeclarator (declares_as l p e) ≡ true → DeclaratorForm p e
declarator-parts l p e h =
    let parts = and_parts (has_form s-Binding p) (has_form s-Expression e && true) (node_form s-VariableDeclarator VariableDeclarator l (one p then one e then done) h).children in
    record { target = parts.0; value = (and_parts (has_form s-Expression e) true parts.1).0 }

declarator-of : (l : Label) (p e q d : Tree) → has_form s-Binding q ≡ true → IsFormed d → has_form s-VariableDeclarator (declares_as l p e) ≡ true → has_form s-VariableDeclarator (declares_as l q d) ≡ true
declarator-of l p e q d g k h =
    let f = node_form s-VariableDeclarator VariableDeclarator l (one p then one e then done) h in
    has_form-node s-VariableDeclarator VariableDeclarator l (one q then one d then done) (record { sort = f.sort; texts = f.texts; flags = f.flags; start = f.start; stop = f.stop; agree = refl; children = and_from (has_form s-Binding q) (has_form s-Expression d && true) g (and_from (has_form s-Expression d) true k refl) })

abbrev AreDeclarators : Trees → Type 0
AreDeclarators ds = trees_form s-VariableDeclarator s-VariableDeclarator ds ≡ true

two-before : (d e : Tree) (fs : Trees) → has_form s-VariableDeclarator d ≡ true → has_form s-VariableDeclarator e ≡ true → AreDeclarators fs → AreDeclarators (d before e before fs)
two-before d e fs h k j = formed-first s-VariableDeclarator d (e before fs) h (formed-first s-VariableDeclarator e fs k j)

three : (d e f : Tree) → has_form s-VariableDeclarator d ≡ true → has_form s-VariableDeclarator e ≡ true → has_form s-VariableDeclarator f ≡ true → AreDeclarators (d before e before f before empty)
three d e f h k j = two-before d e (f before empty) h k (formed-first s-VariableDeclarator f empty j refl)

front-form : (lp : Label) (s : Tree) (ps fs : Trees) → Front lp s ps fs → has_form s-VariableDeclarator (declarator_with (pattern_node lp ps) s) ≡ true → AreDeclarators fs
front-form lp s ps fs of_some h = formed-first s-VariableDeclarator (declarator_with (pattern_node lp ps) s) empty h refl
front-form lp s ps fs of_none h = refl

-- the second of several that declare
pub second-kind : (d e : Tree) (i j : Tree) (ds : Trees) → all_declare (declarator_with d i before declarator_with e j before ds) ≡ true → is_binding_kind (kind_of e) ≡ true
second-kind d e i j ds h = (and_parts (is_binding_kind (kind_of e)) (all_declare ds) (and_parts (is_binding_kind (kind_of d)) (is_binding_kind (kind_of e) && all_declare ds) h).1).0

abbrev is_none : Trees → Bool
is_none empty = true
is_none (t before ts) = false

-- WHAT COMES FOR A DECLARATOR

-- a key that is read is computed
flag-computed : (bs : List Bool) → (if flag_at 1 bs then reads else Nothing) ≡ reads → flag_of f-Computed (flag_entries PatternProperty) bs ≡ true
flag-computed [] e = absurd (cc e)
flag-computed (a ∷ []) e = absurd (cc e)
flag-computed (a ∷ (true ∷ bs)) e = refl
flag-computed (a ∷ (false ∷ bs)) e = absurd (cc e)

read-key : (s : Sort) (r : Role) (l : Label) (k v : Tree) → role_at r PatternProperty l (one k then one v then done) 0 ≡ reads → has_form s (node PatternProperty l (one k then one v then done)) ≡ true → IsFormed k
read-key s r l k v e h =
    let computed : is_computed PatternProperty l ≡ true = flag-computed l.flags e in
    subst (λ (b : Bool). has_form (if b then s-Expression else s-PropertyKey) k ≡ true) computed (and_parts (has_form (sort_at PatternProperty l s-PropertyKey) k) (has_form s-Pattern v && true) (node_form s PatternProperty l (one k then one v then done) h).children).0

-- a name is a key
name-key : (b : Bound) (l : Label) → IsText b → has_form (sort_at PatternProperty l s-PropertyKey) (identifier b) ≡ true
name-key b l e = at (is_computed PatternProperty l)
  where
    at : (c : Bool) → has_form (if c then s-Expression else s-PropertyKey) (identifier b) ≡ true
    at true = rw e refl
    at false = rw e refl

keyed : (s r : Sort) (l : Label) (b : Bound) (k v : Tree) → IsText b → IsMember r → has_form s (node PatternProperty l (one k then one v then done)) ≡ true → has_form r (node PatternProperty l (one (identifier b) then one v then done)) ≡ true
keyed s r l b k v e g h =
    let f = node_form s PatternProperty l (one k then one v then done) h in
    let parts = and_parts (has_form (sort_at PatternProperty l s-PropertyKey) k) (has_form s-Pattern v && true) f.children in
    has_form-node r PatternProperty l (one (identifier b) then one v then done) (record { sort = g; texts = f.texts; flags = f.flags; start = f.start; stop = f.stop; agree = refl; children = and_from _ (has_form s-Pattern v && true) (name-key b l e) parts.1 })

-- a pattern with a default
pub record DefaultForm (q e : Tree) : Type 0 where
  pub target : has_form s-Pattern q ≡ true
  pub value : IsFormed e

pub default-parts : (l : Label) (q e : Tree) → has_form s-Pattern (node AssignmentPattern l (one q then one e then done)) ≡ true → DefaultForm q e
default-parts l q e h =
    let parts = and_parts (has_form s-Pattern q) (has_form s-Expression e && true) (node_form s-Pattern AssignmentPattern l (one q then one e then done) h).children in
    record { target = parts.0; value = (and_parts (has_form s-Expression e) true parts.1).0 }

default-with : (l : Label) (q u e : Tree) → has_form s-Pattern u ≡ true → has_form s-Pattern (node AssignmentPattern l (one q then one e then done)) ≡ true → has_form s-Pattern (node AssignmentPattern l (one u then one e then done)) ≡ true
default-with l q u e g h =
    let f = node_form s-Pattern AssignmentPattern l (one q then one e then done) h in
    let parts = and_parts (has_form s-Pattern q) (has_form s-Expression e && true) f.children in
    has_form-node s-Pattern AssignmentPattern l (one u then one e then done) (record { sort = refl; texts = f.texts; flags = f.flags; start = f.start; stop = f.stop; agree = refl; children = and_from (has_form s-Pattern u) (has_form s-Expression e && true) g parts.1 })

declared-apart : (d : Tree) (es : Trees) → all_declare (d before es) ≡ true → all_declare es ≡ true
declared-apart d es h = (and_parts _ (all_declare es) h).1

pub declared-joined : (xs ys : Trees) → all_declare (joined_trees xs ys) ≡ true → all_declare ys ≡ true
declared-joined empty ys h = h
declared-joined (x before xs) ys h = declared-joined xs ys (declared-apart x (joined_trees xs ys) h)

pub declared-before : (xs ys : Trees) → all_declare (joined_trees xs ys) ≡ true → all_declare xs ≡ true
declared-before empty ys h = refl
declared-before (x before xs) ys h =
    let parts = and_parts (is_binding (child_at 0 (fields_of x))) (all_declare (joined_trees xs ys)) h in
    and_from (is_binding (child_at 0 (fields_of x))) (all_declare xs) parts.0 (declared-before xs ys parts.1)

-- what splits off
splits-form : (w : Whole) (r : Role) (x : Text) (d : Tree) (es : Trees) → IsText (next_name w x) → SplitsOff w r x d es → all_declare es ≡ true → has_form s-VariableDeclarator d ≡ true → AreDeclarators es
splits-form w r x d es named (source l p e holds fresh silent) declares h =
    let it = identifier (next_name w x) in
    let f = declarator-parts l p e h in
    formed-first s-VariableDeclarator (declarator_with it e) (declares_as l p it before empty) (formed-declarator it e (bound-name (next_name w x) named) f.value) (formed-first s-VariableDeclarator (declares_as l p it) empty (declarator-of l p e p it f.target (formed-name (next_name w x) named) h) refl)
splits-form w r x d es named (nested l lp lq ls a c k q holds fresh) declares h =
    let b = next_name w x in
    let it = identifier b in
    let s : Tree = node Identifier ls done in
    let property : Tree = node PatternProperty lq (k then one q then done) in
    let f = declarator-parts l (pattern_node lp (joined_trees a (property before c))) s h in
    let parts = rest-parts s-PatternMember s-PatternMemberRest a property c (pattern-members lp (joined_trees a (property before c)) f.target) in
    let value = property-value (sort_before_trees s-PatternMember s-PatternMemberRest c) lq k q parts.it in
    let kept = property-with (sort_before_trees s-PatternMember s-PatternMemberRest c) s-PatternMemberRest lq k q it refl (pattern-name b named) parts.it in
    let head : Tree = pattern_node (made [] []) (joined_trees a (node PatternProperty lq (k then one it then done) before empty)) in
    let first : has_form s-Binding head ≡ true = made-pattern (joined_trees a (node PatternProperty lq (k then one it then done) before empty)) (rest-joined s-PatternMember s-PatternMemberRest a (node PatternProperty lq (k then one it then done)) empty parts.earlier kept refl) in
    let target = second-kind head q s it (declares_some lp s c) declares in
    two-before (declarator_with head s) (declarator_with q it) (declares_some lp s c) (formed-declarator head s first f.value) (formed-declarator q it (as-binding s-Pattern q target value) (formed-name b named)) (front-form lp s c (declares_some lp s c) (front-some lp s c) (formed-declarator (pattern_node lp c) s (pattern-with lp (joined_trees a (property before c)) c parts.later f.target) f.value))
splits-form w r x d es named (nested_default l lp lq la ls a c k q e holds fresh silent) declares h =
    let b = next_name w x in
    let it = identifier b in
    let s : Tree = node Identifier ls done in
    let value : Tree = node AssignmentPattern la (one q then one e then done) in
    let left : Tree = node AssignmentPattern la (one it then one e then done) in
    let property : Tree = node PatternProperty lq (k then one value then done) in
    let f = declarator-parts l (pattern_node lp (joined_trees a (property before c))) s h in
    let parts = rest-parts s-PatternMember s-PatternMemberRest a property c (pattern-members lp (joined_trees a (property before c)) f.target) in
    let formed = property-value (sort_before_trees s-PatternMember s-PatternMemberRest c) lq k value parts.it in
    let default = default-parts la q e formed in
    let kept = property-with (sort_before_trees s-PatternMember s-PatternMemberRest c) s-PatternMemberRest lq k value left refl (default-with la q it e (pattern-name b named) formed) parts.it in
    let head : Tree = pattern_node (made [] []) (joined_trees a (node PatternProperty lq (k then one left then done) before empty)) in
    let first : has_form s-Binding head ≡ true = made-pattern (joined_trees a (node PatternProperty lq (k then one left then done) before empty)) (rest-joined s-PatternMember s-PatternMemberRest a (node PatternProperty lq (k then one left then done)) empty parts.earlier kept refl) in
    let target = second-kind head q s it (declares_some lp s c) declares in
    two-before (declarator_with head s) (declarator_with q it) (declares_some lp s c) (formed-declarator head s first f.value) (formed-declarator q it (as-binding s-Pattern q target default.target) (formed-name b named)) (front-form lp s c (declares_some lp s c) (front-some lp s c) (formed-declarator (pattern_node lp c) s (pattern-with lp (joined_trees a (property before c)) c parts.later f.target) f.value))
splits-form w r x d es named (key l lp lq ls a c k v fresh computed silent) declares h =
    let b = next_name w x in
    let it = identifier b in
    let s : Tree = node Identifier ls done in
    let property : Tree = node PatternProperty lq (one k then one v then done) in
    let f = declarator-parts l (pattern_node lp (joined_trees a (property before c))) s h in
    let parts = rest-parts s-PatternMember s-PatternMemberRest a property c (pattern-members lp (joined_trees a (property before c)) f.target) in
    let first = made-pattern a (rest-wider s-PatternMember s-PatternMemberRest member-wider a parts.earlier) in
    let here = keyed (sort_before_trees s-PatternMember s-PatternMemberRest c) (sort_before_trees s-PatternMember s-PatternMemberRest c) lq b k v named (member-sort c) parts.it in
    let later : Trees = node PatternProperty lq (one it then one v then done) before c in
    let last = pattern-with lp (joined_trees a (property before c)) later (rest-joined s-PatternMember s-PatternMemberRest empty (node PatternProperty lq (one it then one v then done)) c refl here parts.later) f.target in
    three (declarator_with (pattern_node (made [] []) a) s) (declarator_with it k) (declarator_with (pattern_node lp later) s) (formed-declarator (pattern_node (made [] []) a) s first f.value) (formed-declarator it k (bound-name b named) (read-key (sort_before_trees s-PatternMember s-PatternMemberRest c) r lq k v computed parts.it)) (formed-declarator (pattern_node lp later) s last f.value)

-- DECLARATIONS

-- other declarators, where one stood
declaration-with : (a : Sort) (m : Label) (ds es : Trees) → AreDeclarators es → is_none es ≡ false → has_form a (node VariableDeclaration m (many ds then done)) ≡ true → has_form a (node VariableDeclaration m (many es then done)) ≡ true
declaration-with a m ds empty g some h = absurd (cc some)
declaration-with a m ds (e before es) g some h =
    let f = node_form a VariableDeclaration m (many ds then done) h in
    has_form-node a VariableDeclaration m (many (e before es) then done) (record { sort = f.sort; texts = f.texts; flags = f.flags; start = f.start; stop = f.stop; agree = refl; children = and_from (trees_form s-VariableDeclarator s-VariableDeclarator (e before es)) true g refl })

pub declaration-parts : (a : Sort) (m : Label) (ds : Trees) → has_form a (node VariableDeclaration m (many ds then done)) ≡ true → AreDeclarators ds
declaration-parts a m empty h = absurd (cc (node_form a VariableDeclaration m (many empty then done) h).children)
declaration-parts a m (d before ds) h = (and_parts (trees_form s-VariableDeclarator s-VariableDeclarator (d before ds)) true (node_form a VariableDeclaration m (many (d before ds) then done) h).children).0

some-after : (xs : Trees) (t : Tree) (ts : Trees) → is_none (joined_trees xs (t before ts)) ≡ false
some-after empty t ts = refl
some-after (x before xs) t ts = refl

some-split : (w : Whole) (r : Role) (x : Text) (d : Tree) (es a c : Trees) → SplitsOff w r x d es → is_none (joined_trees a (joined_trees es c)) ≡ false
some-split w r x d es a c (source l p e holds fresh silent) = some-after a _ _
some-split w r x d es a c (nested l lp lq ls b f k q holds fresh) = some-after a _ _
some-split w r x d es a c (nested_default l lp lq la ls b f k q e holds fresh silent) = some-after a _ _
some-split w r x d es a c (key l lp lq ls b f k v fresh computed silent) = some-after a _ _

split-text : (w : Whole) (r : Role) (x : Text) (d : Tree) (es : Trees) → SplitsOff w r x d es → IsText (next_name w x)
split-text w r x d es (source l p e holds fresh silent) = next-text w _ (next_name w x) (record { fresh = fresh; symbol = refl })
split-text w r x d es (nested l lp lq ls b f k q holds fresh) = next-text w _ (next_name w x) (record { fresh = fresh; symbol = refl })
split-text w r x d es (nested_default l lp lq la ls b f k q e holds fresh silent) = next-text w _ (next_name w x) (record { fresh = fresh; symbol = refl })
split-text w r x d es (key l lp lq ls b f k v fresh computed silent) = next-text w _ (next_name w x) (record { fresh = fresh; symbol = refl })

pub split-nodes : (n : Site) (s s' : Ledger) (x y : Spot) → Binding SplitRule n s x s' y → AtNodes x y
split-nodes n s s' x y (splits m a c d es z free declares off, binds) = tt

pub split-form : FormLawful (Binding SplitRule)
split-form = nodes-only (Binding SplitRule) split-nodes nodes
  where
    nodes : (n : Site) (s s' : Ledger) (t u : Tree) (a : Sort) → (is_slot n.above ≡ true → a ≡ s-Expression) → Binding SplitRule n s (at_node t) s' (at_node u) → has_form a t ≡ true → NodeFormed a s s' u
    nodes n s s' t u g slot (splits {w = w} {q = q} m a c d es x free declares off, binds) h =
        let parts = list-parts s-VariableDeclarator a (d before c) (declaration-parts g m (joined_trees a (d before c)) h) in
        let here = first-formed s-VariableDeclarator d c parts.1 in
        let left = splits-form w _ x d es (split-text w _ x d es off) off (declared-before es c (declared-joined a (joined_trees es c) binds)) here.0 in
        let all = list-joined s-VariableDeclarator a (joined_trees es c) parts.0 (list-joined s-VariableDeclarator es c left here.1) in
        record { formed = declaration-with g m (joined_trees a (d before c)) (joined_trees a (joined_trees es c)) all (some-split w _ x d es a c off) h; names = record { names = []; texts = tt; pending = no-names q; this = refl; top = refl } }

-- A REST

module _ (ds : Trees) (all : AreDeclarators ds) where
  key-form : (k : Tree) → IsKey ds k → IsFormed k
  key-form k (text_key x) = refl
  key-form k (name_key l lp lq lk xs ys a c v e d computed) =
      let key : Tree = node Identifier lk done in
      let property : Tree = node PatternProperty lq (one key then one v then done) in
      let pattern = joined_trees a (property before c) in
      let declared = list-parts s-VariableDeclarator xs (declares_as l (pattern_node lp pattern) e before ys) (subst (λ (z : Trees). AreDeclarators z) d all) in
      let f = declarator-parts l (pattern_node lp pattern) e (first-formed s-VariableDeclarator (declares_as l (pattern_node lp pattern) e) ys declared.1).0 in
      let here = (rest-parts s-PatternMember s-PatternMemberRest a property c (pattern-members lp pattern f.target)).it in
      read-key (sort_before_trees s-PatternMember s-PatternMemberRest c) reads lq key v (ap (λ b. if b then reads else Nothing) computed) here

  keys-form : (ks : List Tree) → AreKeys ds ks → AreFormed ks
  keys-form [] h = tt
  keys-form (k ∷ ks) h = (key-form k h.0, keys-form ks h.1)

  value-form : (lp ls : Label) (ps fs : Trees) (e : Tree) → RestOf ds lp (node Identifier ls done) ps fs e → IsFormed (node Identifier ls done) → IsFormed e
  value-form lp ls ps fs e (beside ks) h = formed-left false (node Identifier ls done) (map string_node ks) h (keys-form (map string_node ks) (texts-are-keys ds ks))
  value-form lp ls ps fs e (mapped ks k) h = formed-left true (node Identifier ls done) ks h (keys-form ks k)
  value-form lp ls ps fs e alone h = formed-whole (node Identifier ls done) h

-- what a rest declares, where each declarator declares a name or a pattern
pub last-kind : (a fs c : Trees) (v e : Tree) → all_declare (joined_trees a (joined_trees (and_declarator fs v e) c)) ≡ true → is_binding_kind (kind_of v) ≡ true
last-kind a fs c v e h =
    let own = declared-before (and_declarator fs v e) c (declared-joined a (joined_trees (and_declarator fs v e) c) h) in
    (and_parts (is_binding_kind (kind_of v)) true (declared-joined fs (declarator_with v e before empty) own)).0

some-last : (a fs c : Trees) (v e : Tree) → is_none (joined_trees a (joined_trees (and_declarator fs v e) c)) ≡ false
some-last empty empty c v e = refl
some-last empty (x before fs) c v e = refl
some-last (x before a) fs c v e = refl

pub takes-nodes : (n : Site) (s s' : Ledger) (x y : Spot) → Binding TakesRest n s x s' y → AtNodes x y
takes-nodes n s s' x y (takes_rest m l lp lr ls a ps c t d unbound used, binds) = tt

pub takes-form : FormLawful (Binding TakesRest)
takes-form = nodes-only (Binding TakesRest) takes-nodes nodes
  where
    nodes : (n : Site) (s s' : Ledger) (t u : Tree) (a : Sort) → (is_slot n.above ≡ true → a ≡ s-Expression) → Binding TakesRest n s (at_node t) s' (at_node u) → has_form a t ≡ true → NodeFormed a s s' u
    nodes n s s' t u g slot (takes_rest {fs = fs} {e = e} m l lp lr ls a ps c v r unbound used, binds) h =
        let it : Tree = node Identifier ls done in
        let rest : Tree = node RestElement lr (one v then done) in
        let all : Trees = joined_trees ps (rest before empty) in
        let d = declares_as l (pattern_node lp all) it in
        let es = and_declarator fs v e in
        let parts = list-parts s-VariableDeclarator a (d before c) (declaration-parts g m (joined_trees a (d before c)) h) in
        let here = first-formed s-VariableDeclarator d c parts.1 in
        let f = declarator-parts l (pattern_node lp all) it here.0 in
        let members = rest-parts s-PatternMember s-PatternMemberRest ps rest empty (pattern-members lp all f.target) in
        let value = (and_parts (has_form s-Pattern v) true (node_form s-PatternMemberRest RestElement lr (one v then done) members.it).children).0 in
        let front = formed-declarator (pattern_node lp ps) it (pattern-with lp all ps (rest-wider s-PatternMember s-PatternMemberRest member-wider ps members.earlier) f.target) f.value in
        let last = formed-declarator v e (as-binding s-Pattern v (last-kind a fs c v e binds) value) (value-form (joined_trees a (d before empty)) (list-joined s-VariableDeclarator a (d before empty) parts.0 (formed-first s-VariableDeclarator d empty here.0 refl)) lp ls ps fs e r f.value) in
        let own = list-joined s-VariableDeclarator fs (declarator_with v e before empty) (front-form lp it ps fs (front-of (joined_trees a (d before empty)) lp it ps fs e r) front) (formed-first s-VariableDeclarator (declarator_with v e) empty last refl) in
        let formed = list-joined s-VariableDeclarator a (joined_trees es c) parts.0 (list-joined s-VariableDeclarator es c own here.1) in
        record { formed = declaration-with g m (joined_trees a (d before c)) (joined_trees a (joined_trees es c)) formed (some-last a fs c v e) h; names = nothing-new s s refl }
