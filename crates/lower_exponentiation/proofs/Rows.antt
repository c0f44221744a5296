-- An exponentiation that was opened, and what is made of it, as a row.
use Rattle.std.proofs.Common.{◌≡◌, ℕ, ◌+◌, ◌≤◌, List, [], ◌∷◌, ◌++◌, ◌==◌, map, length, refl, sym, ap, subst, ◌∙◌, arith, Option, Some, None, codes}
use Rattle.std.proofs.lemmas.Bool.{eqb-true}
use Rattle.std.proofs.lemmas.List.{map-append}
use Rattle.std.specs.Prelude.{Bool, true, false, ◌&&◌, ◌||◌, not, bytes_eq, is_some}
use Rattle.es_tree.specs.Constructs.{is_big_int, is_exponentiation}
use Rattle.es_tree.specs.Heads.{head_of, label}
use Rattle.es_tree.specs.Names.{first_text}
use Rattle.es_tree.specs.Parens.{without_parens}
use Rattle.es_tree.specs.RestTargets.{is_rest_target}
use Rattle.es_tree.specs.Tree.{Tree, Trees, node, Label, done, ◌then◌, one, many, trees, ◌before◌, tree_size, trees_size, kind_of, label_of, fields_of}
use Rattle.es_tree.specs.Words.{Text, assignment_operator_text, binary_operator_text}
use Rattle.es_tree.specs.declared.ast_type.AstType.TheVariants.{AssignmentExpression, BinaryExpression, SequenceExpression}
use Rattle.es_tree.specs.declared.ids.Span.{Span}
use Rattle.es_tree.specs.declared.kind.Kind.TheVariants.{AssignmentExpression as k-AssignmentExpression, BinaryExpression as k-BinaryExpression}
use Rattle.es_tree.specs.declared.options.EnvOptions.{EnvOptions}
use Rattle.es_expressions.specs.OperationsPlain.{plain_assignment_expression, plain_binary_expression}
use Rattle.es_expressions.specs.declared.operations.AssignmentExpression.{AssignmentExpression as AnyAssignment}
use Rattle.es_expressions.specs.declared.operations.BinaryExpression.{BinaryExpression as AnyOperation}
use Rattle.es_scope.specs.declared.context.TraverseCtx.{TraverseCtx}
use Rattle.es_runs.proofs.Named.{and_left, and_right}
use Rattle.es_runs.proofs.OptionalChainingWeights.{stripped_size, tests_size-append}
use Rattle.es_runs.proofs.Temporary.{bytes_eq-equal}
use Rattle.es_runs.specs.Exponentiation.{assign_at}
use Rattle.es_runs.specs.Rules.{assign_node, in_place_of}
use Rattle.es_resolution.specs.Declarations.{Bound}
use Rattle.es_resolution.specs.Seen.{seen, seen_among}
use Rattle.es_steps.specs.Exponentiation.{IsMathFree, TargetTwice, assigned_power, power_at, power_node}
use Rattle.es_steps.specs.Exponentiation.ExponentiationRule.{power, power_assignment}
use Rattle.es_steps.specs.Exponentiation.TargetTwice.{bound_name, literal_key, other_key, other_name, private_member, static_member}
use Rattle.es_steps.specs.Steps.{Site, Whole}
use Rattle.es_changes.specs.Fits.{Fits}
use Rattle.es_changes.specs.Moments.{Moment, whole_at}
use Rattle.es_conditions.specs.CoreConditions.{is_free}
use Rattle.es_traverse.proofs.Kept.{kind-seen}
use Rattle.es_traverse.specs.Laws.{Seen}
use Rattle.es_traverse.specs.Loads.{load, trees_load}
use Rattle.lower_temporaries.specs.Takings.{ReadsMore, moment_of}
use Rattle.lower_temporaries.specs.declared.state.TransformState.{TransformState}
use Rattle.lower_temporaries.proofs.Loads.{stripped_load, trees_load-append}
use Rattle.lower_temporaries.proofs.SeenLaws.{parens-seen}
use Rattle.lower_temporaries.proofs.Takings.{takes-none, takes-reads}
use Rattle.lower_temporaries.specs.Shapes.{at_span}
use Rattle.lower_exponentiation.specs.Exponentiations.{IsCallOrAssignment, has_sides, is_exponentiation_target, is_lowerable_exponentiation}
use Rattle.lower_exponentiation.specs.Targets.{Lowers, SeenTwice, UsedTwice, UsesTarget, nodes_around}
use Rattle.lower_exponentiation.specs.declared.targets.Twice.{Twice}
use Rattle.lower_temporaries.proofs.ParensForm.{sides-alone}
use Rattle.lower_exponentiation.proofs.Form.{passed}
use Rattle.lower_exponentiation.proofs.TargetParts.{TargetRule, not_false}

abbrev raised : Label → Tree → Tree → Tree
raised m l r = node BinaryExpression m (one l then (one r then done))

abbrev raising : Label → Tree → Tree → Tree
raising m t r = node AssignmentExpression m (one t then (one r then done))

-- LOADS AND SIZES

raised_load : (m : Label) (l r : Tree) → m.texts ≡ Some (codes "**") ∷ [] → load (raised m l r) ≡ 9 + load l + load r
raised_load m l r texts = rw texts (omega arith)

raising_load : (m : Label) (t r : Tree) → m.texts ≡ Some (codes "**=") ∷ [] → load (raising m t r) ≡ 45 + load t + load r
raising_load m t r texts = rw texts (omega arith)

written_load : (m : Label) (fs : List Tree) (target read r : Tree) → load (assigned_power m fs target read r) ≡ nodes_around fs + trees_load (trees fs) + load target + load read + load r
written_load m [] target read r = omega arith
written_load m (f ∷ fs) target read r = let h = trees_load-append (f ∷ fs) (assign_node target (power_node read r) ∷ []) in omega (arith, h)

written_size : (m : Label) (fs : List Tree) (target read r : Tree) → tree_size (assigned_power m fs target read r) ≡ nodes_around fs + trees_size (trees fs) + tree_size target + tree_size read + tree_size r
written_size m [] target read r = omega arith
written_size m (f ∷ fs) target read r = let h = tests_size-append (f ∷ fs) (assign_node target (power_node read r) ∷ []) in omega (arith, h)

few_around : (fs : List Tree) → nodes_around fs ≤ 6
few_around [] = omega arith
few_around (f ∷ fs) = omega arith

-- `Math`

unbound-by : (on e : Bool) (s : Option ℕ) → on ≡ true → e ≡ true → (not (on && e) || not (is_some s)) ≡ true → s ≡ None
unbound-by true true None h g f = refl
unbound-by true true (Some s) h g f = absurd (cc f)
unbound-by true false s h g f = absurd (cc g)
unbound-by false e s h g f = absurd (cc h)

-- it is unbound at an exponentiation, and in use
math_free : (o : EnvOptions) (a : Moment) (n : Site) (t : Tree) → o.es2016.exponentiation_operator ≡ true → is_exponentiation (kind_of t) (label_of t) (fields_of t) ≡ true → Fits a n t → is_free o n t ≡ true → IsMathFree n (whole_at a)
math_free o a n t on raises fits free =
    let power_free = (passed o n t free).power in
    record { unbound = unbound-by o.es2016.exponentiation_operator (is_exponentiation (kind_of t) (label_of t) (fields_of t)) (n.names.scope (codes "Math")) on raises power_free; in_use = fits.stands.asked (codes "Math") refl }

-- THE ROWS

operation_raises : (m : Label) (l r : Tree) → m.texts ≡ Some (codes "**") ∷ [] → is_big_int (kind_of l) ≡ false → is_big_int (kind_of r) ≡ false → is_exponentiation BinaryExpression m (one l then (one r then done)) ≡ true
operation_raises m l r texts left right = rw (texts, left, right) refl

assignment_raises : (m : Label) (t r : Tree) → m.texts ≡ Some (codes "**=") ∷ [] → is_big_int (kind_of r) ≡ false → is_exponentiation AssignmentExpression m (one t then (one r then done)) ≡ true
assignment_raises m t r texts right = rw (texts, right) refl

operation_lowers : (old new : TraverseCtx TransformState) (m : Label) (l r : Tree) → m.texts ≡ Some (codes "**") ∷ [] → is_big_int (kind_of l) ≡ false → is_big_int (kind_of r) ≡ false → old.options.es2016.exponentiation_operator ≡ true → ReadsMore 4 old new → Lowers old new (raised m l r) (power_at m l r)
operation_lowers old new m l r texts left right on reads =
    let heavy = raised_load m l r texts in
    record {
      replaces = record {
        made = [];
        ids = 4;
        takes = takes-none reads;
        row = λ n fits free. power (math_free old.options (moment_of old) n (raised m l r) on (operation_raises m l r texts left right) fits free) texts left right;
        nodes = omega arith;
        lighter = omega (arith, heavy);
      };
      made = tt;
    }

assigned-made : (m : Label) (fs : List Tree) (target read r : Tree) → is_rest_target (one target) ≡ false → IsCallOrAssignment (assigned_power m fs target read r)
assigned-made m [] target read r plain = (refl, plain)
assigned-made m (f ∷ fs) target read r plain = tt

-- what is written is a name or a member
no-pattern : (w : Whole) (xs : List Bound) (fs : List Tree) (t target read : Tree) → TargetTwice w xs fs t target read → is_rest_target (one target) ≡ false
no-pattern w xs fs t target read (bound_name h) = refl
no-pattern w xs fs t target read (other_name h next) = refl
no-pattern w xs fs t target read (static_member flags o) = refl
no-pattern w xs fs t target read (private_member flags o) = refl
no-pattern w xs fs t target read (literal_key flags k o) = refl
no-pattern w xs fs t target read (other_key flags k o next) = refl

assignment_lowers : (old mid new : TraverseCtx TransformState) (m : Label) (t r : Tree) (first : List Tree) (written read : Tree) → m.texts ≡ Some (codes "**=") ∷ [] → is_big_int (kind_of r) ≡ false → old.options.es2016.exponentiation_operator ≡ true →
    UsedTwice (TargetRule old (without_parens t)) 14 33 old mid (without_parens t) first written read → ReadsMore (nodes_around first) mid new → Lowers old new (raising m t r) (assigned_power m first written read r)
assignment_lowers old mid new m t r first written read texts right on used reads =
    let heavy = raising_load m t r texts in
    let whole = written_load m first written read r in
    let many = written_size m first written read r in
    let around = few_around first in
    let lighter = stripped_load t in
    let smaller = stripped_size t in
    record {
      replaces = record {
        made = used.made;
        ids = used.ids + nodes_around first;
        takes = takes-reads {m = used.ids} {n = nodes_around first} mid new used.takes reads;
        row = λ n fits free. power_assignment (math_free old.options (moment_of old) n (raising m t r) on (assignment_raises m t r texts right) fits free) texts right (sides-alone fits.sort m t r fits.formed) used.rule;
        nodes = omega (arith, many, smaller, used.nodes);
        lighter = omega (arith, heavy, whole, around, lighter, used.lighter, used.few);
      };
      made = assigned-made m first written read r (no-pattern (whole_at (moment_of old)) used.made first (without_parens t) written read used.rule);
    }

-- THE NODES THAT WERE OPENED

abbrev IsLowerable : Tree → Type 0
IsLowerable t = is_lowerable_exponentiation (kind_of t) (label_of t) (fields_of t) ≡ true

-- the labels of opened nodes, as they are seen

abbrev operation_label : AnyOperation → Label
operation_label e = record (label e.id e.span (head_of (k-BinaryExpression e.operator))) { id = 0; marks = [] }

abbrev assignment_label : AnyAssignment → Label
assignment_label e = record (label e.id e.span (head_of (k-AssignmentExpression e.operator))) { id = 0; marks = [] }

pub lowered_operation : (old new : TraverseCtx TransformState) (t made : Tree) (e : AnyOperation) → plain_binary_expression e ≡ t → IsLowerable t → old.options.es2016.exponentiation_operator ≡ true →
    ((names : ℕ → Text → Option ℕ) → seen names made ≡ power_at (at_span e.span) (seen names e.left) (seen names e.right)) → ReadsMore 4 old new → Seen (Lowers old new) t made
lowered_operation old new t made e opened lowerable on wrote reads names =
    let h : IsLowerable (plain_binary_expression e) = subst IsLowerable (sym opened) lowerable in
    let op = bytes_eq (binary_operator_text e.operator) (codes "**") in
    let left = is_big_int (kind_of e.left) in
    let right = is_big_int (kind_of e.right) in
    let operands = and_right op (not left && not right) h in
    let texts = ap (λ (y : Text). Some y ∷ []) (bytes_eq-equal (binary_operator_text e.operator) (codes "**") (and_left op (not left && not right) h)) in
    let lowers = operation_lowers old new (operation_label e) (seen names e.left) (seen names e.right) texts (ap is_big_int (kind-seen names e.left) ∙ not_false left (and_left (not left) (not right) operands)) (ap is_big_int (kind-seen names e.right) ∙ not_false right (and_right (not left) (not right) operands)) on reads in
    subst (λ (v : Tree). Lowers old new (seen names v) (seen names made)) opened (subst (λ (v : Tree). Lowers old new (seen names (plain_binary_expression e)) v) (sym (wrote names)) lowers)

same_place : (m : Label) (span : Span) (fs : List Tree) (a b r : Tree) → in_place_of m ≡ at_span span → assigned_power m fs a b r ≡ assigned_power (at_span span) fs a b r
same_place m span [] a b r h = ap (λ (l : Label). assign_at l a (power_node b r)) h
same_place m span (f ∷ fs) a b r h = ap (λ (l : Label). assigned_power l (f ∷ fs) a b r) h

-- the target of an opened assignment
pub opened_target : (t : Tree) (e : AnyAssignment) → plain_assignment_expression e ≡ t → IsLowerable t → is_exponentiation_target (without_parens e.left) ≡ true
opened_target t e opened lowerable =
    let h : IsLowerable (plain_assignment_expression e) = subst IsLowerable (sym opened) lowerable in
    let right = not (is_big_int (kind_of e.right)) in
    let target = is_exponentiation_target (without_parens e.left) in
    and_right right target (and_right (bytes_eq (assignment_operator_text e.operator) (codes "**=")) (right && target) h)

-- as many nodes are made however those in front are seen
around-map : (f : Tree → Tree) (ts : List Tree) → nodes_around (map f ts) ≡ nodes_around ts
around-map f [] = refl
around-map f (t ∷ ts) = refl

pub lowered_assignment : (old mid new : TraverseCtx TransformState) (t target made : Tree) (e : AnyAssignment) (r : Twice) → plain_assignment_expression e ≡ t → IsLowerable t → old.options.es2016.exponentiation_operator ≡ true → target ≡ without_parens e.left → SeenTwice (UsesTarget old mid) target r →
    ((names : ℕ → Text → Option ℕ) → seen names made ≡ assigned_power (at_span e.span) (map (seen names) r.first.items) (seen names r.written) (seen names r.read) (seen names e.right)) → ReadsMore (nodes_around r.first.items) mid new → Seen (Lowers old new) t made
lowered_assignment old mid new t target made e r opened lowerable on inner used wrote reads names =
    let h : IsLowerable (plain_assignment_expression e) = subst IsLowerable (sym opened) lowerable in
    let first = map (seen names) r.first.items in
    let written = seen names r.written in
    let read = seen names r.read in
    let op = bytes_eq (assignment_operator_text e.operator) (codes "**=") in
    let right = is_big_int (kind_of e.right) in
    let fits = is_exponentiation_target (without_parens e.left) in
    let texts = ap (λ (y : Text). Some y ∷ []) (bytes_eq-equal (assignment_operator_text e.operator) (codes "**=") (and_left op (not right && fits) h)) in
    let below : seen names target ≡ without_parens (seen names e.left) = ap (seen names) inner ∙ sym (parens-seen names e.left) in
    let again = subst (λ (v : Tree). UsedTwice (TargetRule old v) 14 33 old mid v first written read) below (used names) in
    let more = subst (λ n. ReadsMore n mid new) (sym (around-map (seen names) r.first.items)) reads in
    let lowers = assignment_lowers old mid new (assignment_label e) (seen names e.left) (seen names e.right) first written read texts (ap is_big_int (kind-seen names e.right) ∙ not_false right (and_left (not right) fits (and_right op (not right && fits) h))) on again more in
    let whole : seen names made ≡ assigned_power (assignment_label e) first written read (seen names e.right) = wrote names ∙ sym (same_place (assignment_label e) e.span first written read (seen names e.right) refl) in
    subst (λ (v : Tree). Lowers old new (seen names v) (seen names made)) opened (subst (λ (v : Tree). Lowers old new (seen names (plain_assignment_expression e)) v) (sym whole) lowers)

-- WHAT THE CODE WRITES

pub seen_among-trees : (names : ℕ → Text → Option ℕ) (ts : List Tree) → seen_among names (trees ts) ≡ trees (map (seen names) ts)
seen_among-trees names [] = refl
seen_among-trees names (t ∷ ts) = ap (λ us. seen names t before us) (seen_among-trees names ts)

-- behind what goes in front
pub sequence_made : (names : ℕ → Text → Option ℕ) (span : Span) (items expressions : List Tree) (n : ℕ) (last made target read r : Tree) → (n == 0) ≡ false → n ≡ length items → expressions ≡ items ++ last ∷ [] → seen names last ≡ assign_node target (power_node read r) →
    seen names made ≡ node SequenceExpression (at_span span) (many (seen_among names (trees expressions)) then done) → seen names made ≡ assigned_power (at_span span) (map (seen names) items) target read r
sequence_made names span [] expressions n last made target read r some count all end wrote = absurd (let no : true ≡ false = ap (λ (m : ℕ). m == 0) (sym count) ∙ some in cc no)
sequence_made names span (f ∷ fs) expressions n last made target read r some count all end wrote =
    wrote
    ∙ ap (λ (ts : Trees). node SequenceExpression (at_span span) (many ts then done)) (ap (λ es. seen_among names (trees es)) all ∙ seen_among-trees names ((f ∷ fs) ++ last ∷ []) ∙ ap trees (map-append (seen names) (f ∷ fs) (last ∷ []) ∙ ap (λ (t : Tree). map (seen names) (f ∷ fs) ++ t ∷ []) end))

-- how many nodes stand around

pub reads-as : {m n : ℕ} {old new : TraverseCtx TransformState} → m ≡ n → ReadsMore m old new → ReadsMore n old new
reads-as {old = old} {new = new} e r = subst (λ (k : ℕ). ReadsMore k old new) e r

pub around-none : (n : ℕ) (items : List Tree) → (n == 0) ≡ true → n ≡ length items → 5 ≡ nodes_around items
around-none n [] e count = refl
around-none n (t ∷ ts) e count = absurd (omega (arith, eqb-true n 0 e, count))

pub around-some : (n : ℕ) (items : List Tree) → (n == 0) ≡ false → n ≡ length items → 6 ≡ nodes_around items
around-some n [] e count = absurd (let no : true ≡ false = ap (λ (m : ℕ). m == 0) (sym count) ∙ e in cc no)
around-some n (t ∷ ts) e count = refl

-- an assignment that is lowered may become that many nodes
pub assignment-heavy : (t : Tree) → kind_of t ≡ AssignmentExpression → IsLowerable t → 45 ≤ load t
assignment-heavy (node AssignmentExpression l fs) k h = let op = and_left (bytes_eq (first_text l.texts) (codes "**=")) (has_sides fs) h in rw op (omega arith)
assignment-heavy (node _ l fs) k h = absurd (cc k)
