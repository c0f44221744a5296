-- What the kinds of the core mean matches, where what their parts mean does, and leaves no stack where there is none.
use Rattle.std.proofs.Common.{Option, ◌≡◌, refl, List, [], ◌∷◌, ap}
use Rattle.std.specs.Prelude.{Bool, true, false, bytes_eq, codes, if◌then◌else◌, ◌&&◌, not}
use Rattle.es_tree.specs.Words.{Text}
use Rattle.es_tree.specs.declared.ast_type.AstType.{AstType}
use Rattle.es_tree.specs.declared.ast_type.AstType.TheVariants.{Program, ExpressionStatement, VariableDeclaration, VariableDeclarator, Identifier, ThisExpression, NullLiteral, BooleanLiteral, NumericLiteral, BigIntLiteral, StringLiteral, UnaryExpression, UpdateExpression, BinaryExpression, LogicalExpression, ConditionalExpression, AssignmentExpression, SequenceExpression, MemberExpression, CallExpression, NewExpression, ChainExpression, ParenthesizedExpression}
use Rattle.es_tree.specs.Tree.{◌then◌}
use Rattle.es_runs.specs.Machine.{Value, Values, M, return, stop, is_callable, is_nullish, is_true, is_null, is_undefined}
use Rattle.es_runs.specs.Machine.Value.{undefined, null, boolean, number, bigint, text}
use Rattle.es_runs.specs.Machine.Values.{none, ◌and◌}
use Rattle.es_runs.specs.Machine.Question.{get, delete, put, construct, operator}
use Rattle.es_runs.specs.Machine.Stop.{cut, uncallable, unknown}
use Rattle.es_tree.specs.Names.{first_text as first}
use Rattle.es_runs.specs.Core.{World, Binding, Reference, Meaning, Form, value, values, get_value, put_value, gives_value, nothing, literal, name, cut_where, word_of, key, pow_form, static_form, member_form, member, receiver, run_call, plain_call, apply_call, apply_bind, method_call, unmarked_call, call_value, chain, typeof_value, delete_value, void_form, UnaryClass, unary_by, unary_class, is_equality, compared, asked_binary, equality, binary, goes_right, logical, conditional, last_value, AssignClass, assigned, assign_class, assignment, without_last, update_at, in_order, declared, Part, of_one, of_two, of_three, of_many, of_one_many, of_declarator, of_program, number_form, meaning_of, second, flag, flag_after}
use Rattle.es_runs.specs.Core.UnaryClass.{typeof_class, delete_class, void_class, not_class, asked_class}
use Rattle.es_runs.specs.Core.AssignClass.{plainly, logically, compound}
use Rattle.es_runs.specs.Core.Reference.{named, property, plain}
use Rattle.es_runs.specs.Core.Form.{word, null_form, void_zero, math_pow, member_call, member_bind, other}
use Rattle.es_runs.specs.Core.Part.{absent, single, several}
use Rattle.es_stackless_runs.proofs.Machine.{Lacks, AllLack, Anything, ReferenceLacks, IsName, MatchesBy, Matches, both_lack, bind, loosen, returns, stopped, choice, asks, reads_name, writes, calls, applies_call, applies_bind, types_name, closed_matched, initialises, settles}

-- the two meanings of a node: the same form, and evaluations that match
pub record Matching (a b : Meaning) : Type 0 where
  pub evaluation : Matches ReferenceLacks a.reference b.reference
  pub form : b.form ≡ a.form

-- two lists alike at each place
pub data AllBy {A : Type 0} (R : A → A → Type 0) : List A → List A → Type 0 where
  no_more : AllBy R [] []
  one_more : {a b : A} {xs ys : List A} → R a b → AllBy R xs ys → AllBy R (a ∷ xs) (b ∷ ys)

pub data PartMatching : Part → Part → Type 0 where
  absent_matching : PartMatching absent absent
  single_matching : {a b : Meaning} → Matching a b → PartMatching (single a) (single b)
  several_matching : {xs ys : List Meaning} → AllBy Matching xs ys → PartMatching (several xs) (several ys)

pub plain_matching : {m k : M Value} → Matches Lacks m k → Matching (gives_value m) (gives_value k)
plain_matching h = record { evaluation = bind h (λ u n. returns (plain u) n); form = refl }

pub literal_matching : (u : Value) (f : Form) → Lacks u → Matching (literal u f) (literal u f)
literal_matching u f h = record { evaluation = returns (plain u) h; form = refl }

pub nothing_matching : Matching nothing nothing
nothing_matching = record { evaluation = stopped unknown tt; form = refl }

name_matching : (x : Text) → IsName x → Matching (name x) (name x)
name_matching x e = record { evaluation = returns (named x) e; form = refl }

one_lacks : (b : Bool) (x y : Value) → Lacks x → Lacks y → Lacks (if b then x else y)
one_lacks true x y h g = h
one_lacks false x y h g = g

-- PARTS

one_matching : (f g : Meaning → Meaning) → ((a b : Meaning) → Matching a b → Matching (f a) (g b)) → {ps qs : List Part} → AllBy PartMatching ps qs → Matching (of_one f ps) (of_one g qs)
one_matching f g k (one_more (single_matching {a = a} {b = b} h) no_more) = k a b h
one_matching f g k _ = nothing_matching

two_matching : (f g : Meaning → Meaning → Meaning) → ((a a' b b' : Meaning) → Matching a a' → Matching b b' → Matching (f a b) (g a' b')) → {ps qs : List Part} → AllBy PartMatching ps qs → Matching (of_two f ps) (of_two g qs)
two_matching f g k (one_more (single_matching {a = a} {b = a'} h) (one_more (single_matching {a = b} {b = b'} i) no_more)) = k a a' b b' h i
two_matching f g k _ = nothing_matching

three_matching : (f g : Meaning → Meaning → Meaning → Meaning) → ((a a' b b' c c' : Meaning) → Matching a a' → Matching b b' → Matching c c' → Matching (f a b c) (g a' b' c')) → {ps qs : List Part} → AllBy PartMatching ps qs → Matching (of_three f ps) (of_three g qs)
three_matching f g k (one_more (single_matching {a = a} {b = a'} h) (one_more (single_matching {a = b} {b = b'} i) (one_more (single_matching {a = c} {b = c'} j) no_more))) = k a a' b b' c c' h i j
three_matching f g k _ = nothing_matching

many_matching : (f g : List Meaning → Meaning) → ((xs ys : List Meaning) → AllBy Matching xs ys → Matching (f xs) (g ys)) → {ps qs : List Part} → AllBy PartMatching ps qs → Matching (of_many f ps) (of_many g qs)
many_matching f g k (one_more (several_matching {xs = xs} {ys = ys} h) no_more) = k xs ys h
many_matching f g k _ = nothing_matching

one_many_matching : (f g : Meaning → List Meaning → Meaning) → ((a b : Meaning) (xs ys : List Meaning) → Matching a b → AllBy Matching xs ys → Matching (f a xs) (g b ys)) → {ps qs : List Part} → AllBy PartMatching ps qs → Matching (of_one_many f ps) (of_one_many g qs)
one_many_matching f g k (one_more (single_matching {a = a} {b = b} h) (one_more (several_matching {xs = xs} {ys = ys} i) no_more)) = k a b xs ys h i
one_many_matching f g k _ = nothing_matching

-- THE KINDS

-- names are no cell of the machine
abbrev pub NamedSo : AstType → List (Option Text) → Type 0
NamedSo Identifier ts = IsName (first ts)
NamedSo k ts = Unit {0}

-- a world of statements
abbrev pub world_in : (Text → Binding) → Value → World
world_in scope this = record { scope = scope; this = this; counts_all = true; other = λ t. stop unknown; spreads = false }

module _ (scope : Text → Binding) (this : Value) (lacks : Lacks this) where
  abbrev w : World
  w = world_in scope this

  abbrev v : World
  v = world_in scope this

  pub gets : (r : Reference) → ReferenceLacks r → Matches Lacks (get_value w r) (get_value v r)
  gets (named x) h = reads_name x (w.scope x) h
  gets (property o k) h = asks (get o k)
  gets (plain u) h = returns u h

  pub puts : (r : Reference) → ReferenceLacks r → (u : Value) → Lacks u → Matches Lacks (put_value w r u) (put_value v r u)
  puts (named x) i u h = writes x i u h (w.scope x)
  puts (property o k) i u h = bind (asks (put o k u)) (λ z n. returns u h)
  puts (plain p) i u h = stopped unknown tt

  pub has_value : {a b : Meaning} → Matching a b → Matches Lacks (value w a) (value v b)
  has_value h = bind h.evaluation gets

  pub all_values : {xs ys : List Meaning} → AllBy Matching xs ys → Matches AllLack (values w xs) (values v ys)
  all_values no_more = returns none refl
  all_values (one_more h hs) = bind (has_value h) (λ u n. bind (all_values hs) (λ us t. returns (u and us) (both_lack n t)))

  last_matches : (u : Value) → Lacks u → {xs ys : List Meaning} → AllBy Matching xs ys → Matches Lacks (last_value w u xs) (last_value v u ys)
  last_matches u n no_more = returns u n
  last_matches u n (one_more h hs) = bind (has_value h) (λ x i. last_matches x i hs)

  pub order_matches : {xs ys : List Meaning} → AllBy Matching xs ys → Matches Lacks (in_order w xs) (in_order v ys)
  order_matches no_more = returns undefined refl
  order_matches (one_more h hs) = bind (has_value h) (λ x i. order_matches hs)

  pub declared_matches : (lets : Bool) {xs ys : List Meaning} → AllBy Matching xs ys → Matches Lacks (declared lets xs) (declared lets ys)
  declared_matches lets no_more = returns undefined refl
  declared_matches lets (one_more h hs) = bind h.evaluation (λ r i. bind (settles lets r) (λ x n. declared_matches lets hs))

  -- members

  cuts : {A : Type 0} {R : A → A → Type 0} (b : Bool) {m k : M A} → MatchesBy R m k → MatchesBy R (cut_where b m) (cut_where b k)
  cuts true h = stopped cut tt
  cuts false h = h

  key_matches : (computed : Bool) (a b : Meaning) → Matching a b → Matches Anything (key w computed a) (key v computed b)
  key_matches true a b h = loosen (has_value h)
  key_matches false a b h = rw h.form (returns (word_of a.form) tt)

  pow_same : (optional : Bool) (f : Form) → pow_form v optional f ≡ pow_form w optional f
  pow_same true f = refl
  pow_same false (word x) = refl
  pow_same false _ = refl

  static_same : (optional : Bool) (f : Form) (p : Text) → static_form v optional f p ≡ static_form w optional f p
  static_same optional f p = rw (pow_same optional f)

  member_same : (computed optional : Bool) (f g : Form) → member_form v computed optional f g ≡ member_form w computed optional f g
  member_same true optional f g = refl
  member_same false optional f (word p) = static_same optional f p
  member_same false optional f _ = refl

  member_matching : (computed optional : Bool) (a a' b b' : Meaning) → Matching a a' → Matching b b' → Matching (member w computed optional a b) (member v computed optional a' b')
  member_matching computed optional a a' b b' h g = record {
    evaluation = bind (has_value h) (λ o n. cuts (optional && is_nullish o) (bind (key_matches computed b b' g) (λ k t. returns (property o k) n)));
    form = rw (h.form, g.form) (member_same computed optional a.form b.form);
  }

  -- calls

  runs : (b : Bool) (f r : Value) {xs ys : List Meaning} → AllBy Matching xs ys → Matches Lacks (run_call w b xs f r) (run_call v b ys f r)
  runs true f r h = bind (all_values h) (λ us t. calls f r us)
  runs false f r h = stopped uncallable tt

  pub plain_call_matches : (optional : Bool) {xs ys : List Meaning} → AllBy Matching xs ys → (r : Reference) → ReferenceLacks r → Matches Lacks (plain_call w optional xs r) (plain_call v optional ys r)
  plain_call_matches optional h r i = bind (gets r i) (λ f n. cuts (optional && is_nullish f) (runs (is_callable f) f (receiver r) h))

  method_matches : (apply : Value → Values → M Value) → ((f : Value) (us : Values) → Lacks f → AllLack us → Matches Lacks (apply f us) (apply f us)) → {xs ys : List Meaning} → AllBy Matching xs ys → (r : Reference) → ReferenceLacks r → Matches Lacks (method_call w apply xs r) (method_call v apply ys r)
  method_matches apply ok h (named x) i = plain_call_matches false h (named x) i
  method_matches apply ok h (property o k) i = choice (is_callable o) (bind (all_values h) (λ us t. ok o us i t)) (plain_call_matches false h (property o k) i)
  method_matches apply ok h (plain u) i = plain_call_matches false h (plain u) i

  unmarked_matches : (f : Form) {m k : M Reference} → Matches ReferenceLacks m k → {xs ys : List Meaning} → AllBy Matching xs ys → Matches Lacks (unmarked_call w f m xs) (unmarked_call v f k ys)
  unmarked_matches math_pow h (one_more g (one_more f no_more)) = bind (has_value g) (λ x n. bind (has_value f) (λ y i. asks (operator (codes "**") (x and y and none))))
  unmarked_matches math_pow h no_more = bind h (plain_call_matches false no_more)
  unmarked_matches math_pow h (one_more g no_more) = bind h (plain_call_matches false (one_more g no_more))
  unmarked_matches math_pow h (one_more g (one_more f (one_more e d))) = bind h (plain_call_matches false (one_more g (one_more f (one_more e d))))
  unmarked_matches member_call h g = bind h (method_matches apply_call (λ f us n t. applies_call f us) g)
  unmarked_matches member_bind h g = bind h (method_matches apply_bind applies_bind g)
  unmarked_matches _ h g = bind h (plain_call_matches false g)

  pub call_matches : (optional : Bool) (a b : Meaning) → Matching a b → {xs ys : List Meaning} → AllBy Matching xs ys → Matches Lacks (call_value w optional a xs) (call_value v optional b ys)
  call_matches true a b h g = bind h.evaluation (plain_call_matches true g)
  call_matches false a b h g = rw h.form (unmarked_matches a.form h.evaluation g)

  chain_matching : (a b : Meaning) → Matching a b → Matching (chain a) (chain b)
  chain_matching a b h = record { evaluation = λ s n. closed_matched (h.evaluation s n); form = refl }

  -- operators

  types : (r : Reference) → ReferenceLacks r → Matches Lacks (typeof_value w r) (typeof_value v r)
  types (named x) h = types_name x (w.scope x) h
  types (property o k) h = bind (asks (get o k)) (λ u n. asks (operator (codes "typeof") (u and none)))
  types (plain p) h = bind (gets (plain p) h) (λ u n. asks (operator (codes "typeof") (u and none)))

  deletes : (r : Reference) → ReferenceLacks r → Matches Lacks (delete_value w r) (delete_value v r)
  deletes (named x) h = bind (gets (named x) h) (λ u n. returns (boolean true) refl)
  deletes (property o k) h = asks (delete o k)
  deletes (plain p) h = bind (gets (plain p) h) (λ u n. returns (boolean true) refl)

  unary_matching : (c : UnaryClass) (op : Text) (a b : Meaning) → Matching a b → Matching (unary_by w c op a) (unary_by v c op b)
  unary_matching typeof_class op a b h = plain_matching (bind h.evaluation types)
  unary_matching delete_class op a b h = plain_matching (bind h.evaluation deletes)
  unary_matching void_class op a b h = record { evaluation = bind (has_value h) (λ u n. returns (plain undefined) refl); form = ap void_form h.form }
  unary_matching not_class op a b h = plain_matching (bind (has_value h) (λ u n. returns (boolean (not (is_true u))) refl))
  unary_matching asked_class op a b h = plain_matching (bind (has_value h) (λ u n. asks (operator op (u and none))))

  asked_matches : (op : Text) (a a' b b' : Meaning) → Matching a a' → Matching b b' → Matches Lacks (asked_binary w op a b) (asked_binary v op a' b')
  asked_matches op a a' b b' h g = bind (has_value h) (λ x n. bind (has_value g) (λ y i. asks (operator op (x and y and none))))

  silent_matches : (op : Text) (strictly : Value → Bool) (u : Value) → Lacks u → Matches Lacks (return (boolean (compared true op strictly u))) (return (boolean (compared true op strictly u)))
  silent_matches op strictly u n = returns (boolean (compared true op strictly u)) refl

  equality_matches : (op : Text) (a a' b b' : Meaning) (f : Form) → Matching a a' → Matching b b' → Matches Lacks (equality w op a b f) (equality v op a' b' f)
  equality_matches op a a' b b' null_form h g = bind (has_value h) (silent_matches op is_null)
  equality_matches op a a' b b' void_zero h g = bind (has_value h) (silent_matches op is_undefined)
  equality_matches op a a' b b' _ h g = asked_matches op a a' b b' h g

  binary_matching : (op : Text) (a a' b b' : Meaning) → Matching a a' → Matching b b' → Matching (binary w op a b) (binary v op a' b')
  binary_matching op a a' b b' h g = plain_matching (choice (is_equality op) (rw g.form (equality_matches op a a' b b' b.form h g)) (asked_matches op a a' b b' h g))

  logical_matching : (op : Text) (a a' b b' : Meaning) → Matching a a' → Matching b b' → Matching (logical w op a b) (logical v op a' b')
  logical_matching op a a' b b' h g = plain_matching (bind (has_value h) (λ u n. choice (goes_right op u) (has_value g) (returns u n)))

  conditional_matching : (a a' b b' c c' : Meaning) → Matching a a' → Matching b b' → Matching c c' → Matching (conditional w a b c) (conditional v a' b' c')
  conditional_matching a a' b b' c c' h g f = plain_matching (bind (has_value h) (λ u n. choice (is_true u) (has_value g) (has_value f)))

  assigned_matches : (c : AssignClass) (op : Text) (a b : Meaning) → Matching a b → (r : Reference) → ReferenceLacks r → Matches Lacks (assigned w c op a r) (assigned v c op b r)
  assigned_matches plainly op a b h r i = bind (has_value h) (puts r i)
  assigned_matches logically op a b h r i = bind (gets r i) (λ x n. choice (goes_right (without_last op) x) (bind (has_value h) (puts r i)) (returns x n))
  assigned_matches compound op a b h r i = bind (gets r i) (λ x n. bind (has_value h) (λ y j. bind (asks (operator (without_last op) (x and y and none))) (puts r i)))

  assignment_matching : (op : Text) (a a' b b' : Meaning) → Matching a a' → Matching b b' → Matching (assignment w op a b) (assignment v op a' b')
  assignment_matching op a a' b b' h g = plain_matching (bind h.evaluation (assigned_matches (assign_class op) op b b' g))

  update_matches : (op : Text) (prefix : Bool) (r : Reference) → ReferenceLacks r → Matches Lacks (update_at w op prefix r) (update_at v op prefix r)
  update_matches op prefix r i =
      bind (gets r i) (λ x n.
      bind (asks (operator (codes "numeric") (x and none))) (λ old j.
      bind (asks (operator op (old and none))) (λ new k.
      bind (puts r i new k) (λ z m. returns (if prefix then new else old) (one_lacks prefix new old k j)))))

  declarator_parts : {ps qs : List Part} → AllBy PartMatching ps qs → Matching (of_declarator w ps) (of_declarator v qs)
  declarator_parts (one_more (single_matching h) (one_more absent_matching no_more)) = h
  declarator_parts (one_more (single_matching h) (one_more (single_matching g) no_more)) = plain_matching (bind h.evaluation (λ r i. bind (has_value g) (λ u n. initialises u n r)))
  declarator_parts _ = nothing_matching

  program_parts : {ps qs : List Part} → AllBy PartMatching ps qs → Matching (of_program w ps) (of_program v qs)
  program_parts (one_more (several_matching h) (one_more (several_matching g) no_more)) = plain_matching (order_matches g)
  program_parts _ = nothing_matching

  pub kind_matching : (k : AstType) (ts : List (Option Text)) (fs : List Bool) → NamedSo k ts → {ps qs : List Part} → AllBy PartMatching ps qs → Matching (meaning_of w k ts fs ps) (meaning_of v k ts fs qs)
  kind_matching Identifier ts fs s h = name_matching (first ts) s
  kind_matching ThisExpression ts fs s h = literal_matching this other lacks
  kind_matching NullLiteral ts fs s h = literal_matching null null_form refl
  kind_matching BooleanLiteral ts fs s h = literal_matching (boolean (flag fs)) other refl
  kind_matching NumericLiteral ts fs s h = literal_matching (number (second ts)) (number_form (second ts)) refl
  kind_matching BigIntLiteral ts fs s h = literal_matching (bigint (second ts)) other refl
  kind_matching StringLiteral ts fs s h = literal_matching (text (first ts)) other refl
  kind_matching UnaryExpression ts fs s h = one_matching _ _ (unary_matching (unary_class (first ts)) (first ts)) h
  kind_matching UpdateExpression ts fs s h = one_matching _ _ (λ a b i. plain_matching (bind i.evaluation (update_matches (first ts) (flag fs)))) h
  kind_matching BinaryExpression ts fs s h = two_matching _ _ (binary_matching (first ts)) h
  kind_matching LogicalExpression ts fs s h = two_matching _ _ (logical_matching (first ts)) h
  kind_matching ConditionalExpression ts fs s h = three_matching _ _ conditional_matching h
  kind_matching AssignmentExpression ts fs s h = two_matching _ _ (assignment_matching (first ts)) h
  kind_matching SequenceExpression ts fs s h = many_matching _ _ (λ xs ys i. plain_matching (last_matches undefined refl i)) h
  kind_matching MemberExpression ts fs s h = two_matching _ _ (member_matching (flag fs) (flag_after fs)) h
  kind_matching CallExpression ts fs s h = one_many_matching _ _ (λ a b xs ys i j. plain_matching (call_matches (flag fs) a b i j)) h
  kind_matching NewExpression ts fs s h = one_many_matching _ _ (λ a b xs ys i j. plain_matching (bind (has_value i) (λ f n. bind (all_values j) (λ us t. asks (construct f us))))) h
  kind_matching ChainExpression ts fs s h = one_matching _ _ chain_matching h
  kind_matching ParenthesizedExpression ts fs s h = one_matching _ _ (λ a b i. record { evaluation = i.evaluation; form = refl }) h
  kind_matching ExpressionStatement ts fs s h = one_matching _ _ (λ a b i. plain_matching (has_value i)) h
  kind_matching VariableDeclarator ts fs s h = declarator_parts h
  kind_matching VariableDeclaration ts fs s h = many_matching _ _ (λ xs ys i. plain_matching (declared_matches (bytes_eq (first ts) (codes "let")) i)) h
  kind_matching Program ts fs s h = program_parts h
  kind_matching _ ts fs s h = nothing_matching
