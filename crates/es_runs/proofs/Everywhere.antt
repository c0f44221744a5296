-- Trees that are near are alike: the one induction over all kinds.
use Rattle.std.proofs.Common.{Option, ◌≡◌, ℕ, zero, suc, refl, List, [], ◌∷◌}
use Rattle.std.specs.Prelude.{Bool, true, false, bytes_eq, codes}
use Rattle.es_tree.specs.Words.{Text}
use Rattle.es_tree.specs.declared.ast_type.AstType.{AstType}
use Rattle.es_tree.specs.Tree.{Tree, Fields, Field, Trees, Label}
use Rattle.es_tree.specs.declared.ast_type.AstType.TheVariants.{Program, ExpressionStatement, VariableDeclaration, VariableDeclarator, Identifier, ThisExpression, NullLiteral, BooleanLiteral, NumericLiteral, BigIntLiteral, StringLiteral, UnaryExpression, UpdateExpression, BinaryExpression, LogicalExpression, ConditionalExpression, AssignmentExpression, SequenceExpression, MemberExpression, CallExpression, NewExpression, ChainExpression, ParenthesizedExpression}
use Rattle.es_tree.specs.Tree.{node}
use Rattle.es_runs.specs.Machine.{Value}
use Rattle.es_runs.specs.Machine.Value.{null, boolean, number, bigint, text}
use Rattle.es_tree.specs.Names.{first_text as first}
use Rattle.es_runs.specs.Core.{World, Meaning, value, literal, name, Part, second, flag, flag_after, of_one, of_two, of_three, of_many, of_one_many, of_declarator, of_program, member, number_form, meaning_of, meaning, parts, part, meanings}
use Rattle.es_runs.specs.Core.Part.{absent, single, several}
use Rattle.es_runs.specs.Core.Form.{other, null_form}
use Rattle.es_runs.specs.Alike.{Frame, SameWorld, Level, Need, Like, LikeAt, needs, bad_names, is_bad, Near, NearFields, NearField, NearNodes}
use Rattle.es_runs.specs.Alike.Level.{no_evaluation, value_alone, an_operand_of_typeof, whole_reference, a_callee, a_target}
use Rattle.es_runs.specs.Alike.LikeCallee.{by_reference}
use Rattle.es_runs.specs.Alike.SameTarget.{target_name}
use Rattle.es_runs.specs.Alike.Same.{both_give}
use Rattle.es_runs.specs.Alike.SameReference.{same_name}
use Rattle.es_runs.specs.Alike.Near.{here, within}
use Rattle.es_runs.specs.Alike.NearFields.{near_done, near_then}
use Rattle.es_runs.specs.Alike.NearField.{near_missing, near_one, near_many, near_statements}
use Rattle.es_runs.specs.Alike.NearNodes.{near_empty, near_before}
use Rattle.es_runs.specs.Core.Reference.{named}
use Rattle.es_runs.proofs.CoreWorlds.{IsCoreWorld, core_means}
use Rattle.es_runs.proofs.MathWords.{DeclaredWordless, KindWordless, NoMathIn, NoMathWord, evaluated_word, node_wordless, object_evaluates, takes_it}
use Rattle.es_runs.proofs.Congruence.{typeof_alike, like, plain_like, nothing_like, literal_like, unary_like, update_like, binary_like, logical_like, conditional_like, assignment_like}
use Rattle.es_runs.proofs.Lists.{AllLike, sequence_like, new_like, call_like, member_like, chain_like, parenthesized_like, declarator_like, declared_alike, in_order_alike}
use Rattle.es_runs.proofs.Lists.AllLike.{no_more, one_more}
use Rattle.es_runs.proofs.Basic.{value_alike}
use Rattle.es_runs.proofs.Fresh.{or_left, or_right}

pub data PartLike (F : Frame) (w v : World) (n : Need) : Part → Part → Type 0 where
  absent_like : PartLike F w v n absent absent
  single_like : {a b : Meaning} → NoMathIn F.hidden n a → Like F w v n a b → PartLike F w v n (single a) (single b)
  several_like : {xs ys : List Meaning} → AllLike F w v n xs ys → PartLike F w v n (several xs) (several ys)

pub data PartsLike (F : Frame) (w v : World) : (ℕ → Need) → List Part → List Part → Type 0 where
  no_part : {c : ℕ → Need} → PartsLike F w v c [] []
  one_part : {c : ℕ → Need} {p q : Part} {ps qs : List Part} → PartLike F w v (c zero) p q → PartsLike F w v (λ i. c (suc i)) ps qs → PartsLike F w v c (p ∷ ps) (q ∷ qs)

module _ (F : Frame) (w v : World) (same : SameWorld F.hidden w v) where
  one_like : (n : Need) (c : ℕ → Need) (f g : Meaning → Meaning) → ((a b : Meaning) → Like F w v (c 0) a b → Like F w v n (f a) (g b)) → {ps qs : List Part} → PartsLike F w v c ps qs → Like F w v n (of_one f ps) (of_one g qs)
  one_like n c f g h (one_part (single_like {a = a} {b = b} words e) no_part) = h a b e
  one_like n c f g h _ = nothing_like F w v same n

  two_like : (n : Need) (c : ℕ → Need) (f g : Meaning → Meaning → Meaning) → ((a a' b b' : Meaning) → Like F w v (c 0) a a' → Like F w v (c 1) b b' → Like F w v n (f a b) (g a' b')) → {ps qs : List Part} → PartsLike F w v c ps qs → Like F w v n (of_two f ps) (of_two g qs)
  two_like n c f g h (one_part (single_like {a = a} {b = a'} words e) (one_part (single_like {a = b} {b = b'} own d) no_part)) = h a a' b b' e d
  two_like n c f g h _ = nothing_like F w v same n

  three_like : (n : Need) (c : ℕ → Need) (f g : Meaning → Meaning → Meaning → Meaning) → ((a a' b b' d d' : Meaning) → Like F w v (c 0) a a' → Like F w v (c 1) b b' → Like F w v (c 2) d d' → Like F w v n (f a b d) (g a' b' d')) → {ps qs : List Part} → PartsLike F w v c ps qs → Like F w v n (of_three f ps) (of_three g qs)
  three_like n c f g h (one_part (single_like {a = a} {b = a'} words e) (one_part (single_like {a = b} {b = b'} own e1) (one_part (single_like {a = d} {b = d'} last e2) no_part))) = h a a' b b' d d' e e1 e2
  three_like n c f g h _ = nothing_like F w v same n

  many_like : (n : Need) (c : ℕ → Need) (f g : List Meaning → Meaning) → ((xs ys : List Meaning) → AllLike F w v (c 0) xs ys → Like F w v n (f xs) (g ys)) → {ps qs : List Part} → PartsLike F w v c ps qs → Like F w v n (of_many f ps) (of_many g qs)
  many_like n c f g h (one_part (several_like {xs = xs} {ys = ys} e) no_part) = h xs ys e
  many_like n c f g h _ = nothing_like F w v same n

  one_many_like : (n : Need) (c : ℕ → Need) (f g : Meaning → List Meaning → Meaning) → ((a b : Meaning) (xs ys : List Meaning) → Like F w v (c 0) a b → AllLike F w v (c 1) xs ys → Like F w v n (f a xs) (g b ys)) → {ps qs : List Part} → PartsLike F w v c ps qs → Like F w v n (of_one_many f ps) (of_one_many g qs)
  one_many_like n c f g h (one_part (single_like {a = a} {b = b} words e) (one_part (several_like {xs = xs} {ys = ys} d) no_part)) = h a b xs ys e d
  one_many_like n c f g h _ = nothing_like F w v same n

  abbrev bad : Level → Text → Bool
  bad = bad_names F.hidden F.frozen

  name_alike : (level : Level) (x : Text) → bad level x ≡ false → LikeAt F w v level (name x) (name x)
  name_alike no_evaluation x e = tt
  name_alike value_alone x e = value_alike F w v same (name x) (name x) (λ s t g. both_give (same_name e) g)
  name_alike an_operand_of_typeof x e = typeof_alike F w v same (named x) (named x) (same_name e)
  name_alike whole_reference x e = λ s t g. both_give (same_name e) g
  name_alike a_callee x e = by_reference (λ s t g. both_give (same_name e) g)
  name_alike a_target x e = λ s t g. both_give (target_name (or_left (F.hidden x) (F.frozen x) e) (or_right (F.hidden x) (F.frozen x) e)) g

  name_like : (n : Need) (x : Text) → bad n.level x ≡ false → Like F w v n (name x) (name x)
  name_like n x e = record { evaluation = name_alike n.level x e; form = λ _. refl }

  declarator_parts : (n : Need) {ps qs : List Part} → PartsLike F w v (needs n AstType.VariableDeclarator [] []) ps qs → Like F w v n (of_declarator w ps) (of_declarator v qs)
  declarator_parts n (one_part (single_like {a = a} {b = b} words e) (one_part absent_like no_part)) = like F w v same n a b e.evaluation (e.form refl)
  declarator_parts n (one_part (single_like {a = a} {b = a'} words e) (one_part (single_like {a = b} {b = b'} own d) no_part)) = declarator_like F w v same n a a' b b' (record { evaluation = e.evaluation; form = λ h. e.form refl }) d
  declarator_parts n _ = nothing_like F w v same n

  program_parts : (n : Need) {ps qs : List Part} → PartsLike F w v (needs n AstType.Program [] []) ps qs → Like F w v n (of_program w ps) (of_program v qs)
  program_parts n (one_part (several_like e) (one_part (several_like d) no_part)) = plain_like F w v same n _ _ (in_order_alike F w v same d)
  program_parts n _ = nothing_like F w v same n

  -- a member, whose object is evaluated
  member_parts : (n : Need) (ts : List (Option Text)) (fs : List Bool) {ps qs : List Part} → PartsLike F w v (needs n AstType.MemberExpression ts fs) ps qs → Like F w v n (of_two (member w (flag fs) (flag_after fs)) ps) (of_two (member v (flag fs) (flag_after fs)) qs)
  member_parts n ts fs (one_part (single_like {a = a} {b = a'} words e) (one_part (single_like {a = b} {b = b'} own d) no_part)) = member_like F w v same n (flag fs) (flag_after fs) a a' b b' (words (object_evaluates (flag_after fs))) e d
  member_parts n ts fs _ = nothing_like F w v same n

  this_like : (n : Need) → (t u : Value) → u ≡ t → Like F w v n (literal t other) (literal u other)
  this_like n t u e = rw e (literal_like F w v same n t other)

  pub kind_like : (n : Need) (k : AstType) (ts : List (Option Text)) (fs : List Bool) {ps qs : List Part} → is_bad bad n.level k ts ≡ false → PartsLike F w v (needs n k ts fs) ps qs → Like F w v n (meaning_of w k ts fs ps) (meaning_of v k ts fs qs)
  kind_like n Identifier ts fs st h = name_like n (first ts) st
  kind_like n ThisExpression ts fs st h = this_like n w.this v.this same.this
  kind_like n NullLiteral ts fs st h = literal_like F w v same n null null_form
  kind_like n BooleanLiteral ts fs st h = literal_like F w v same n (boolean (flag fs)) other
  kind_like n NumericLiteral ts fs st h = literal_like F w v same n (number (second ts)) (number_form (second ts))
  kind_like n BigIntLiteral ts fs st h = literal_like F w v same n (bigint (second ts)) other
  kind_like n StringLiteral ts fs st h = literal_like F w v same n (text (first ts)) other
  kind_like n UnaryExpression ts fs st h = one_like n _ _ _ (unary_like F w v same n (first ts)) h
  kind_like n UpdateExpression ts fs st h = one_like n _ _ _ (update_like F w v same n (first ts) (flag fs)) h
  kind_like n BinaryExpression ts fs st h = two_like n _ _ _ (binary_like F w v same n (first ts)) h
  kind_like n LogicalExpression ts fs st h = two_like n _ _ _ (logical_like F w v same n (first ts)) h
  kind_like n ConditionalExpression ts fs st h = three_like n _ _ _ (conditional_like F w v same n) h
  kind_like n AssignmentExpression ts fs st h = two_like n _ _ _ (assignment_like F w v same n (first ts)) h
  kind_like n SequenceExpression ts fs st h = many_like n _ _ _ (sequence_like F w v same n) h
  kind_like n MemberExpression ts fs st h = member_parts n ts fs h
  kind_like n CallExpression ts fs st h = one_many_like n _ _ _ (call_like F w v same n (flag fs)) h
  kind_like n NewExpression ts fs st h = one_many_like n _ _ _ (new_like F w v same n) h
  kind_like n ChainExpression ts fs st h = one_like n _ _ _ (chain_like F w v same n) h
  kind_like n ParenthesizedExpression ts fs st h = one_like n _ _ _ (parenthesized_like F w v same n) h
  kind_like n ExpressionStatement ts fs st h = one_like n _ _ _ (λ a b e. plain_like F w v same n (value w a) (value v b) e.evaluation) h
  kind_like n VariableDeclarator ts fs st h = declarator_parts n h
  kind_like n VariableDeclaration ts fs st h = many_like n _ _ _ (λ xs ys e. plain_like F w v same n _ _ (declared_alike F w v same (bytes_eq (first ts) (codes "let")) e)) h
  kind_like n Program ts fs st h = program_parts n h
  kind_like n _ ts fs st h = nothing_like F w v same n

  pub kind_words : (n : Need) (k : AstType) (l : Label) (fs : Fields) → is_bad bad n.level k l.texts ≡ false → (takes_it (needs n k l.texts l.flags zero).level ≡ true → DeclaredWordless w F.hidden fs) → takes_it n.level ≡ true → KindWordless w F.hidden k l fs
  kind_words n Identifier l fs st h e = evaluated_word F.hidden F.frozen n.level (first l.texts) e st
  kind_words n VariableDeclarator l fs st h e = h refl
  kind_words n _ l fs st h e = tt

  module _ (core_w : IsCoreWorld w) (core_v : IsCoreWorld v) (R : Need → Tree → Tree → Type 0) (base : (n : Need) (a b : Tree) → R n a b → Like F w v n (meaning w a) (meaning v b)) (words : (n : Need) (a b : Tree) → R n a b → NoMathWord F.hidden (meaning w a).form) where
    -- no hidden name `Math` is evaluated
    mutual
      pub near_words : {n : Need} {a b : Tree} → Near bad R n a b → NoMathIn F.hidden n (meaning w a)
      near_words (here {n = n} {a = a} {b = b} r) e = words n a b r
      near_words (within {n = n} {k = k} {l = l} {fs = fs} st t f h) e = node_wordless w F.hidden k l fs (kind_words n k l fs st (declared_words h) e)

      declared_words : {c : ℕ → Need} {fs gs : Fields} → NearFields bad R c fs gs → takes_it (c zero).level ≡ true → DeclaredWordless w F.hidden fs
      declared_words near_done e = tt
      declared_words (near_then (near_one h) (near_then near_missing near_done)) e = near_words h e
      declared_words (near_then (near_one h) (near_then near_missing (near_then f g))) e = tt
      declared_words (near_then (near_one h) (near_then (near_one f) g)) e = tt
      declared_words (near_then (near_one h) (near_then (near_many f) g)) e = tt
      declared_words (near_then (near_one h) (near_then (near_statements f) g)) e = tt
      declared_words (near_then (near_one h) near_done) e = tt
      declared_words (near_then near_missing g) e = tt
      declared_words (near_then (near_many f) g) e = tt
      declared_words (near_then (near_statements f) g) e = tt

    node_like : (n : Need) (k : AstType) (l m : Label) (fs gs : Fields) → is_bad bad n.level k l.texts ≡ false → m.texts ≡ l.texts → m.flags ≡ l.flags → PartsLike F w v (needs n k l.texts l.flags) (parts w fs) (parts v gs) → Like F w v n (meaning w (node k l fs)) (meaning v (node k m gs))
    node_like n k l m fs gs st e d h = rw (core_means w core_w k l fs, core_means v core_v k m gs, e, d) (kind_like n k l.texts l.flags st h)

    mutual
      pub near_like : {n : Need} {a b : Tree} → Near bad R n a b → Like F w v n (meaning w a) (meaning v b)
      near_like (here {n = n} {a = a} {b = b} r) = base n a b r
      near_like (within {n = n} {k = k} {l = l} {m = m} {fs = fs} {gs = gs} st e d h) = node_like n k l m fs gs st e d (near_parts h)

      pub near_parts : {c : ℕ → Need} {fs gs : Fields} → NearFields bad R c fs gs → PartsLike F w v c (parts w fs) (parts v gs)
      near_parts near_done = no_part
      near_parts (near_then h hs) = one_part (near_part h) (near_parts hs)

      pub near_part : {n : Need} {f g : Field} → NearField bad R n f g → PartLike F w v n (part w f) (part v g)
      near_part near_missing = absent_like
      near_part (near_one h) = single_like (near_words h) (near_like h)
      near_part (near_many h) = several_like (near_meanings h)
      near_part (near_statements h) = several_like (near_meanings h)

      pub near_meanings : {n : Need} {xs ys : Trees} → NearNodes bad R n xs ys → AllLike F w v n (meanings w xs) (meanings v ys)
      near_meanings near_empty = no_more
      near_meanings (near_before h hs) = one_more (near_like h) (near_meanings hs)
