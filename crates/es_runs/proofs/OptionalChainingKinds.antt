-- What a node gives by its kind: a member or not, a name or not.
use Rattle.std.proofs.Common.{◌≡◌, refl, List, [], ◌∷◌, Option}
use Rattle.std.specs.Prelude.{Bool, true, false, ◌&&◌, if◌then◌else◌}
use Rattle.es_tree.specs.Words.{Text}
use Rattle.es_tree.specs.Names.{first_text as first}
use Rattle.es_tree.specs.Parens.{without_parens}
use Rattle.es_tree.specs.Tree.{Tree, node, Label, Fields, done, ◌then◌, missing, one, many, statements, Trees, kind_of}
use Rattle.es_tree.specs.Walks.{all_nodes, all_in_fields}
use Rattle.es_tree.specs.declared.ast_type.AstType.{AstType}
use Rattle.es_tree.specs.declared.ast_type.AstType.TheVariants.{Program, ExpressionStatement, VariableDeclaration, VariableDeclarator, UnaryExpression, UpdateExpression, BinaryExpression, LogicalExpression, ConditionalExpression, AssignmentExpression, SequenceExpression, MemberExpression, CallExpression, NewExpression, ChainExpression, ParenthesizedExpression}
use Rattle.es_runs.specs.Core.{World, Meaning, Reference, Part, UnaryClass, unary_by, unary_class, gives_value, as_plain, cut_where, is_other, meaning, meaning_of, member, own_parts, parts, of_one, of_two, of_three, of_many, of_one_many, of_program, value, key, flag, flag_after}
use Rattle.es_runs.specs.Core.Part.{single, several}
use Rattle.es_runs.specs.Core.Reference.{named}
use Rattle.es_runs.specs.Core.UnaryClass.{typeof_class, delete_class, void_class, not_class, asked_class}
use Rattle.es_runs.specs.Machine.{Value, M, onward, State, Result, is_nullish}
use Rattle.es_runs.specs.Machine.Result.{gives, stops}
use Rattle.es_runs.specs.OptionalChaining.{call_at, is_chain_kind, is_link, is_member}
use Rattle.es_runs.specs.Standing.{fields_stand, is_declaration, is_formed, is_linked, is_placed, may_stand, undeclaring}
use Rattle.es_runs.proofs.Named.{and_left, and_right}
use Rattle.es_runs.proofs.OptionalChainingCalls.{NoProperty}

-- a result that isn't a name
abbrev pub Unnamed : Result Reference → Type 0
Unnamed (gives (named x) s) = ⊥
Unnamed _ = Unit {0}

no_property_onward : {A : Type 0} (q : Result A) (k : A → M Reference) → ((a : A) (s : State) → NoProperty (k a s)) → NoProperty (onward q k)
no_property_onward (gives a s) k h = h a s
no_property_onward (stops n s) k h = tt

unnamed_onward : {A : Type 0} (q : Result A) (k : A → M Reference) → ((a : A) (s : State) → Unnamed (k a s)) → Unnamed (onward q k)
unnamed_onward (gives a s) k h = h a s
unnamed_onward (stops n s) k h = tt

-- A STEP OF A SPINE

unnamed_cut : (b : Bool) (m : M Reference) → ((s : State) → Unnamed (m s)) → (s : State) → Unnamed (cut_where b m s)
unnamed_cut true m h s = tt
unnamed_cut false m h s = h s

module _ (w : World) where
  member_unnamed : (computed optional : Bool) (ps : List Part) (s : State) → Unnamed ((of_two (member w computed optional) ps).reference s)
  member_unnamed computed optional (single a ∷ single b ∷ []) s =
      unnamed_onward (value w a s) _ (λ o z. unnamed_cut (optional && is_nullish o) _ (λ u. unnamed_onward (key w computed b u) _ (λ k y. tt)) z)
  member_unnamed computed optional _ s = tt

  plain_unnamed : (m : M Value) (s : State) → Unnamed ((gives_value m).reference s)
  plain_unnamed m s = unnamed_onward (m s) as_plain (λ a z. tt)

  call_unnamed : (f : Meaning → List Meaning → M Value) (ps : List Part) (s : State) → Unnamed ((of_one_many (λ a es. gives_value (f a es)) ps).reference s)
  call_unnamed f (single a ∷ several es ∷ []) s = plain_unnamed (f a es) s
  call_unnamed f _ s = tt

  pub link_unnamed : (t : Tree) → is_link t ≡ true → (s : State) → Unnamed ((meaning w t).reference s)
  link_unnamed (node MemberExpression l fs) e s = member_unnamed (flag l.flags) (flag_after l.flags) (parts w fs) s
  link_unnamed (node CallExpression l fs) e s = call_unnamed _ (own_parts w CallExpression fs (parts w fs)) s
  link_unnamed (node k l fs) e s = absurd (cc e)

  -- NO MEMBER

  abbrev Plainly : Meaning → Type 0
  Plainly e = (s : State) → NoProperty (e.reference s)

  plainly : (m : M Value) → Plainly (gives_value m)
  plainly m s = no_property_onward (m s) as_plain (λ a z. tt)

  one_plain : (f : Meaning → Meaning) → ((a : Meaning) → Plainly (f a)) → (ps : List Part) → Plainly (of_one f ps)
  one_plain f h (single a ∷ []) s = h a s
  one_plain f h _ s = tt

  two_plain : (f : Meaning → Meaning → Meaning) → ((a b : Meaning) → Plainly (f a b)) → (ps : List Part) → Plainly (of_two f ps)
  two_plain f h (single a ∷ single b ∷ []) s = h a b s
  two_plain f h _ s = tt

  three_plain : (f : Meaning → Meaning → Meaning → Meaning) → ((a b c : Meaning) → Plainly (f a b c)) → (ps : List Part) → Plainly (of_three f ps)
  three_plain f h (single a ∷ single b ∷ single c ∷ []) s = h a b c s
  three_plain f h _ s = tt

  many_plain : (f : List Meaning → Meaning) → ((es : List Meaning) → Plainly (f es)) → (ps : List Part) → Plainly (of_many f ps)
  many_plain f h (several es ∷ []) s = h es s
  many_plain f h _ s = tt

  one_many_plain : (f : Meaning → List Meaning → Meaning) → ((a : Meaning) (es : List Meaning) → Plainly (f a es)) → (ps : List Part) → Plainly (of_one_many f ps)
  one_many_plain f h (single a ∷ several es ∷ []) s = h a es s
  one_many_plain f h _ s = tt

  program_plain : (ps : List Part) → Plainly (of_program w ps)
  program_plain (several ds ∷ several body ∷ []) = plainly _
  program_plain _ = λ s. tt

  unary_plain : (c : UnaryClass) (op : Text) (a : Meaning) → Plainly (unary_by w c op a)
  unary_plain typeof_class op a = plainly _
  unary_plain delete_class op a = plainly _
  unary_plain void_class op a = λ s. no_property_onward (value w a s) _ (λ u z. tt)
  unary_plain not_class op a = plainly _
  unary_plain asked_class op a = plainly _

  -- kinds that give a member, or what another node gives
  abbrev gives_member : AstType → Bool
  gives_member MemberExpression = true
  gives_member ChainExpression = true
  gives_member ParenthesizedExpression = true
  gives_member VariableDeclarator = true
  gives_member _ = false

  kind_plain : (k : AstType) (ts : List (Option Text)) (fs : List Bool) (ps : List Part) → gives_member k ≡ false → Plainly (meaning_of w k ts fs ps)
  kind_plain UnaryExpression ts fs ps h s = one_plain _ (λ a. unary_plain (unary_class (first ts)) (first ts) a) ps s
  kind_plain UpdateExpression ts fs ps h s = one_plain _ (λ a. plainly _) ps s
  kind_plain BinaryExpression ts fs ps h s = two_plain _ (λ a b. plainly _) ps s
  kind_plain LogicalExpression ts fs ps h s = two_plain _ (λ a b. plainly _) ps s
  kind_plain ConditionalExpression ts fs ps h s = three_plain _ (λ a b c. plainly _) ps s
  kind_plain AssignmentExpression ts fs ps h s = two_plain _ (λ a b. plainly _) ps s
  kind_plain SequenceExpression ts fs ps h s = many_plain _ (λ es. plainly _) ps s
  kind_plain CallExpression ts fs ps h s = one_many_plain _ (λ a es. plainly _) ps s
  kind_plain NewExpression ts fs ps h s = one_many_plain _ (λ a es. plainly _) ps s
  kind_plain ExpressionStatement ts fs ps h s = one_plain _ (λ a. plainly _) ps s
  kind_plain VariableDeclaration ts fs ps h s = many_plain _ (λ es. plainly _) ps s
  kind_plain Program ts fs ps h s = program_plain ps s
  kind_plain MemberExpression ts fs ps h s = absurd (cc h)
  kind_plain ChainExpression ts fs ps h s = absurd (cc h)
  kind_plain ParenthesizedExpression ts fs ps h s = absurd (cc h)
  kind_plain VariableDeclarator ts fs ps h s = absurd (cc h)
  kind_plain _ ts fs ps h s = tt

-- a node, by its kind; what isn't core gives a value
node_plain : (w : World) (k : AstType) (l : Label) (fs : Fields) → gives_member w k ≡ false → (s : State) → NoProperty ((meaning w (node k l fs)).reference s)
node_plain w k l fs h s = at (is_other k fs)
  where
    at : (b : Bool) → NoProperty ((if b then gives_value (w.other (node k l fs)) else meaning_of w k l.texts l.flags (own_parts w k fs (parts w fs))).reference s)
    at true = no_property_onward (w.other (node k l fs) s) as_plain (λ a z. tt)
    at false = kind_plain w k l.texts l.flags (own_parts w k fs (parts w fs)) h s

-- a call
pub call_plain : (w : World) (l : Label) (f : Tree) (ts : Trees) (s : State) → NoProperty ((meaning w (call_at l f ts)).reference s)
call_plain w l f ts s = kind_plain w CallExpression l.texts (false ∷ []) (own_parts w CallExpression (one f then many ts then done) (parts w (one f then many ts then done))) refl s

pub link_gives : (w : World) (t : Tree) → is_link t ≡ true → is_member t ≡ false → (s : State) → NoProperty ((meaning w t).reference s)
link_gives w (node MemberExpression l fs) e m s = absurd (cc m)
link_gives w (node CallExpression l fs) e m s = kind_plain w CallExpression l.texts l.flags (own_parts w CallExpression fs (parts w fs)) refl s
link_gives w (node k l fs) e m s = absurd (cc e)

-- BELOW PARENTHESES

abbrev pub is_declarator : AstType → Bool
is_declarator VariableDeclarator = true
is_declarator _ = false

-- no declarator stands in a node that is no declaration
placed_part : (k j : AstType) → is_declaration k ≡ false → is_placed k j ≡ true → is_declarator j ≡ false
placed_part k VariableDeclarator e h = absurd (cc (e, h))
placed_part k _ e h = refl

-- of the first part of a node that is no declaration
pub first_part : (k : AstType) (l : Label) (t : Tree) (fs : Fields) → is_declaration k ≡ false → all_nodes undeclaring (node k l (one t then fs)) ≡ true → (is_declarator (kind_of t) ≡ false) × (all_nodes undeclaring t ≡ true)
first_part k l t fs e h =
    let own : undeclaring k l (one t then fs) ≡ true = and_left (undeclaring k l (one t then fs)) (all_in_fields undeclaring (one t then fs)) h in
    let stands : fields_stand k (one t then fs) ≡ true = and_left (fields_stand k (one t then fs)) (is_formed k (one t then fs)) own in
    let first : may_stand k (kind_of t) ≡ true = and_left (may_stand k (kind_of t)) (fields_stand k fs) stands in
    (placed_part k (kind_of t) e (and_left (is_placed k (kind_of t)) (is_linked k (kind_of t)) first), and_left (all_nodes undeclaring t) (all_in_fields undeclaring fs) (and_right (undeclaring k l (one t then fs)) (all_in_fields undeclaring (one t then fs)) h))

-- what is no step and no chain, whatever parentheses stand around it, gives no member
pub unreceived : (w : World) (t : Tree) → is_member (without_parens t) ≡ false → is_chain_kind (kind_of (without_parens t)) ≡ false → is_declarator (kind_of t) ≡ false → all_nodes undeclaring t ≡ true → (s : State) → NoProperty ((meaning w t).reference s)
unreceived w (node ParenthesizedExpression l (one t then done)) m c d u s = let below = first_part ParenthesizedExpression l t done refl u in unreceived w t m c below.0 below.1 s
unreceived w (node ParenthesizedExpression l (one t then (f then fs))) m c d u s = tt
unreceived w (node ParenthesizedExpression l (missing then fs)) m c d u s = tt
unreceived w (node ParenthesizedExpression l (many ts then fs)) m c d u s = tt
unreceived w (node ParenthesizedExpression l (statements ts then fs)) m c d u s = tt
unreceived w (node ParenthesizedExpression l done) m c d u s = tt
unreceived w (node MemberExpression l fs) m c d u s = absurd (cc m)
unreceived w (node ChainExpression l fs) m c d u s = absurd (cc c)
unreceived w (node VariableDeclarator l fs) m c d u s = absurd (cc d)
unreceived w (node k l fs) m c d u s = node_plain w k l fs refl s

-- what a chain holds is a step of a spine
pub chain_content : (l : Label) (c : Tree) → all_nodes undeclaring (node ChainExpression l (one c then done)) ≡ true → (is_link c ≡ true) × (all_nodes undeclaring c ≡ true)
chain_content l c h =
    let own : undeclaring ChainExpression l (one c then done) ≡ true = and_left (undeclaring ChainExpression l (one c then done)) (all_in_fields undeclaring (one c then done)) h in
    let stands : fields_stand ChainExpression (one c then done) ≡ true = and_left (fields_stand ChainExpression (one c then done)) (is_formed ChainExpression (one c then done)) own in
    let first : may_stand ChainExpression (kind_of c) ≡ true = and_left (may_stand ChainExpression (kind_of c)) true stands in
    (linked c (and_right (is_placed ChainExpression (kind_of c)) (is_linked ChainExpression (kind_of c)) first), (first_part ChainExpression l c done refl h).1)
  where
    linked : (c : Tree) → is_linked ChainExpression (kind_of c) ≡ true → is_link c ≡ true
    linked (node MemberExpression l fs) e = refl
    linked (node CallExpression l fs) e = refl
    linked (node k l fs) e = absurd (cc e)
