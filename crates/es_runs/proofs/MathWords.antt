-- The form of a node is the word `Math` only where that name stands: where it is hidden and stands nowhere, it is none.
use Rattle.std.proofs.Common.{◌≡◌, refl, List, [], ◌∷◌}
use Rattle.std.specs.Prelude.{Bool, true, false, bytes_eq, codes, if◌then◌else◌}
use Rattle.es_tree.specs.Words.{Text}
use Rattle.es_tree.specs.Names.{first_text as first}
use Rattle.es_tree.specs.Tree.{node, Label, Fields, done, ◌then◌, missing, one}
use Rattle.es_tree.specs.declared.ast_type.AstType.{AstType}
use Rattle.es_tree.specs.declared.ast_type.AstType.TheVariants.{Program, ExpressionStatement, VariableDeclaration, VariableDeclarator, Identifier, NumericLiteral, UnaryExpression, UpdateExpression, BinaryExpression, LogicalExpression, ConditionalExpression, AssignmentExpression, SequenceExpression, MemberExpression, CallExpression, NewExpression, ChainExpression, ParenthesizedExpression}
use Rattle.es_runs.specs.Alike.{Level, Need, bad_names, object_level}
use Rattle.es_runs.specs.Alike.Level.{no_evaluation, value_alone, an_operand_of_typeof, whole_reference, a_callee, a_target}
use Rattle.es_runs.specs.Core.{World, Form, Meaning, Part, UnaryClass, unary_by, unary_class, void_form, gives_value, is_other, meaning, meaning_of, own_parts, parts, second, is_math, pow_form, static_form, member_form, of_one, of_two, of_three, of_many, of_one_many, of_declarator, of_program}
use Rattle.es_runs.specs.Core.Form.{word, zero_form, math_pow, member_call, member_bind, other}
use Rattle.es_runs.specs.Core.Part.{single, several}
use Rattle.es_runs.specs.Core.UnaryClass.{typeof_class, delete_class, void_class, not_class, asked_class}
use Rattle.es_runs.proofs.Fresh.{or_left}
use Rattle.es_runs.proofs.Temporary.{bytes_eq-equal}

-- a form that isn't the word `Math`, where that name is hidden
abbrev pub NoMathWord : (Text → Bool) → Form → Type 0
NoMathWord hidden (word x) = hidden (codes "Math") ≡ true → bytes_eq x (codes "Math") ≡ false
NoMathWord hidden _ = Unit {0}

pub unhidden_word : (hidden : Text → Bool) (f : Form) → hidden (codes "Math") ≡ false → NoMathWord hidden f
unhidden_word hidden (word x) h = λ e. absurd (cc (h, e))
unhidden_word hidden _ h = tt

-- whether a place takes anything of a node but its form
abbrev pub takes_it : Level → Bool
takes_it no_evaluation = false
takes_it _ = true

abbrev pub NoMathIn : (Text → Bool) → Need → Meaning → Type 0
NoMathIn hidden n a = takes_it n.level ≡ true → NoMathWord hidden a.form

pub object_evaluates : (marked : Bool) → takes_it (object_level marked) ≡ true
object_evaluates true = refl
object_evaluates false = refl

-- a name that isn't bad where it is evaluated isn't hidden
unhidden : (hidden frozen : Text → Bool) (n : Level) (x : Text) → takes_it n ≡ true → bad_names hidden frozen n x ≡ false → hidden x ≡ false
unhidden hidden frozen value_alone x e h = h
unhidden hidden frozen an_operand_of_typeof x e h = h
unhidden hidden frozen whole_reference x e h = h
unhidden hidden frozen a_callee x e h = h
unhidden hidden frozen a_target x e h = or_left (hidden x) (frozen x) h
unhidden hidden frozen no_evaluation x e h = absurd (cc e)

pub evaluated_word : (hidden frozen : Text → Bool) (n : Level) (x : Text) → takes_it n ≡ true → bad_names hidden frozen n x ≡ false → NoMathWord hidden (word x)
evaluated_word hidden frozen n x e h math = at (bytes_eq x (codes "Math")) refl
  where
    at : (b : Bool) → bytes_eq x (codes "Math") ≡ b → b ≡ false
    at false i = refl
    at true i = let same : x ≡ codes "Math" = bytes_eq-equal x (codes "Math") i in let no : hidden x ≡ false = unhidden hidden frozen n x e h in absurd (let wrong : hidden (codes "Math") ≡ false = rw same at no in cc (wrong, math))

-- FORMS

module _ (w : World) (hidden : Text → Bool) where
  abbrev Wordless : Form → Type 0
  Wordless f = NoMathWord hidden f

  either_wordless : (b : Bool) (f g : Form) → Wordless f → Wordless g → Wordless (if b then f else g)
  either_wordless true f g h i = h
  either_wordless false f g h i = i

  pow_wordless : (optional : Bool) (f : Form) → Wordless (pow_form w optional f)
  pow_wordless false (word x) = either_wordless (is_math w x) math_pow other tt tt
  pow_wordless true f = tt
  pow_wordless false _ = tt

  static_wordless : (optional : Bool) (f : Form) (p : Text) → Wordless (static_form w optional f p)
  static_wordless optional f p =
      either_wordless (bytes_eq p (codes "call")) member_call _ tt (either_wordless (bytes_eq p (codes "bind")) member_bind _ tt (either_wordless (bytes_eq p (codes "pow")) (pow_form w optional f) other (pow_wordless optional f) tt))

  member_wordless : (computed optional : Bool) (f g : Form) → Wordless (member_form w computed optional f g)
  member_wordless true optional f g = tt
  member_wordless false optional f (word p) = static_wordless optional f p
  member_wordless false optional f _ = tt

  unary_wordless : (c : UnaryClass) (op : Text) (a : Meaning) → Wordless (unary_by w c op a).form
  unary_wordless typeof_class op a = tt
  unary_wordless delete_class op a = tt
  unary_wordless void_class op a = at a.form
    where
      at : (f : Form) → Wordless (void_form f)
      at zero_form = tt
      at _ = tt
  unary_wordless not_class op a = tt
  unary_wordless asked_class op a = tt

  one_wordless : (f : Meaning → Meaning) → ((a : Meaning) → Wordless (f a).form) → (ps : List Part) → Wordless (of_one f ps).form
  one_wordless f h (single a ∷ []) = h a
  one_wordless f h _ = tt

  two_wordless : (f : Meaning → Meaning → Meaning) → ((a b : Meaning) → Wordless (f a b).form) → (ps : List Part) → Wordless (of_two f ps).form
  two_wordless f h (single a ∷ single b ∷ []) = h a b
  two_wordless f h _ = tt

  three_wordless : (f : Meaning → Meaning → Meaning → Meaning) → ((a b c : Meaning) → Wordless (f a b c).form) → (ps : List Part) → Wordless (of_three f ps).form
  three_wordless f h (single a ∷ single b ∷ single c ∷ []) = h a b c
  three_wordless f h _ = tt

  many_wordless : (f : List Meaning → Meaning) → ((es : List Meaning) → Wordless (f es).form) → (ps : List Part) → Wordless (of_many f ps).form
  many_wordless f h (several es ∷ []) = h es
  many_wordless f h _ = tt

  one_many_wordless : (f : Meaning → List Meaning → Meaning) → ((a : Meaning) (es : List Meaning) → Wordless (f a es).form) → (ps : List Part) → Wordless (of_one_many f ps).form
  one_many_wordless f h (single a ∷ several es ∷ []) = h a es
  one_many_wordless f h _ = tt

  program_wordless : (ps : List Part) → Wordless (of_program w ps).form
  program_wordless (several ds ∷ several body ∷ []) = tt
  program_wordless _ = tt

  -- a declarator without an initialiser has the form of its name
  abbrev pub DeclaredWordless : Fields → Type 0
  DeclaredWordless (one a then (missing then done)) = Wordless (meaning w a).form
  DeclaredWordless _ = Unit {0}

  declared_wordless : (fs : Fields) → DeclaredWordless fs → Wordless (of_declarator w (parts w fs)).form
  declared_wordless (one a then (missing then done)) h = h
  declared_wordless (one a then (one b then done)) h = tt
  declared_wordless _ h = tt

  -- what decides it of a node
  abbrev pub KindWordless : AstType → Label → Fields → Type 0
  KindWordless Identifier l fs = Wordless (word (first l.texts))
  KindWordless VariableDeclarator l fs = DeclaredWordless fs
  KindWordless _ l fs = Unit {0}

  kind_wordless : (k : AstType) (l : Label) (fs : Fields) → KindWordless k l fs → Wordless (meaning_of w k l.texts l.flags (own_parts w k fs (parts w fs))).form
  kind_wordless Identifier l fs h = h
  kind_wordless VariableDeclarator l fs h = declared_wordless fs h
  kind_wordless NumericLiteral l fs h = either_wordless (bytes_eq (second l.texts) (codes "0")) zero_form other tt tt
  kind_wordless UnaryExpression l fs h = one_wordless _ (λ a. unary_wordless (unary_class (first l.texts)) (first l.texts) a) (parts w fs)
  kind_wordless UpdateExpression l fs h = one_wordless _ (λ a. tt) (parts w fs)
  kind_wordless BinaryExpression l fs h = two_wordless _ (λ a b. tt) (parts w fs)
  kind_wordless LogicalExpression l fs h = two_wordless _ (λ a b. tt) (parts w fs)
  kind_wordless ConditionalExpression l fs h = three_wordless _ (λ a b c. tt) (parts w fs)
  kind_wordless AssignmentExpression l fs h = two_wordless _ (λ a b. tt) (parts w fs)
  kind_wordless SequenceExpression l fs h = many_wordless _ (λ es. tt) (parts w fs)
  kind_wordless MemberExpression l fs h = two_wordless _ (λ a b. member_wordless _ _ a.form b.form) (parts w fs)
  kind_wordless CallExpression l fs h = one_many_wordless _ (λ a es. tt) (own_parts w CallExpression fs (parts w fs))
  kind_wordless NewExpression l fs h = one_many_wordless _ (λ a es. tt) (parts w fs)
  kind_wordless ChainExpression l fs h = one_wordless _ (λ a. tt) (parts w fs)
  kind_wordless ParenthesizedExpression l fs h = one_wordless _ (λ a. tt) (parts w fs)
  kind_wordless ExpressionStatement l fs h = one_wordless _ (λ a. tt) (parts w fs)
  kind_wordless VariableDeclaration l fs h = many_wordless _ (λ ds. tt) (parts w fs)
  kind_wordless Program l fs h = program_wordless (parts w fs)
  kind_wordless _ l fs h = tt

  -- what isn't core has no form
  pub node_wordless : (k : AstType) (l : Label) (fs : Fields) → KindWordless k l fs → Wordless (meaning w (node k l fs)).form
  node_wordless k l fs h = at (is_other k fs)
    where
      at : (b : Bool) → Wordless (if b then gives_value (w.other (node k l fs)) else meaning_of w k l.texts l.flags (own_parts w k fs (parts w fs))).form
      at true = tt
      at false = kind_wordless k l fs h
