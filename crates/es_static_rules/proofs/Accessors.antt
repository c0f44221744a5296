-- Parameters, and what getters and lone declarators have.
use Rattle.std.proofs.Common.{◌≡◌, ◌≤◌, ◌==◌, ℕ, zero, suc, Bool, true, false, not, ◌||◌, List, [], ◌∷◌, length, codes, refl, arith, rules, tests}
use Rattle.es_tree.specs.Constructs.{field_at}
use Rattle.es_tree.specs.Names.{first_text}
use Rattle.es_tree.specs.StaticRules.{has_node, is_bad_accessor, is_empty, is_lone_declarator, is_lone_parameter, parameters_in}
use Rattle.es_tree.specs.Tree.{Tree, node, Label, Fields, done, ◌then◌, missing, one, many, statements, trees, kind_of, label_of, fields_of}
use Rattle.es_tree.specs.declared.ast_type.AstType.TheVariants.{FunctionExpression, MethodDefinition, ObjectProperty}
use Rattle.es_nodes.specs.MaybeFields.{nodes_in}
use Rattle.es_static_rules.specs.Parts.{parameters_of}

pub parameters_of-field : (l : Label) (fs : Fields) → parameters_of (node FunctionExpression l fs) ≡ nodes_in (field_at 1 fs)
parameters_of-field l done = refl
parameters_of-field l (f then done) = refl
parameters_of-field l (f then (missing then fs)) = refl
parameters_of-field l (f then (one t then fs)) = refl
parameters_of-field l (f then (many ts then fs)) = refl
parameters_of-field l (f then (statements ts then fs)) = refl

not_zero : (n : ℕ) → (suc n == 0) ≡ false
not_zero n = search (rules, tests)

pub no_node : (n : ℕ) (ts : List Tree) → n ≡ length ts → not (n == 0) ≡ has_node (many (trees ts))
no_node zero [] e = refl
no_node (suc n) (t ∷ ts) e = rw not_zero refl
no_node (suc n) [] e = cc
no_node zero (t ∷ ts) e = cc

pub lone_parameter-more : (ts : List Tree) → 2 ≤ length ts → false ≡ is_lone_parameter (trees ts)
lone_parameter-more [] h = refl
lone_parameter-more (t ∷ []) h = absurd (omega (arith, h))
lone_parameter-more (t ∷ (u ∷ ts)) h = refl

pub lone_name-more : (ts : List Tree) → 2 ≤ length ts → false ≡ is_lone_declarator (trees ts)
lone_name-more [] h = refl
lone_name-more (t ∷ []) h = absurd (omega (arith, h))
lone_name-more (t ∷ (u ∷ ts)) h = refl

is_empty-length : (ts : List Tree) → (length ts == 0) ≡ is_empty (trees ts)
is_empty-length [] = refl
is_empty-length (t ∷ ts) = not_zero (length ts)

or_none : (b : Bool) → b ≡ (b || false)
or_none true = refl
or_none false = refl

pub getter_method : (t : Tree) (ts : List Tree) (r : Bool) → kind_of t ≡ MethodDefinition → first_text (label_of t).texts ≡ codes "get" → trees ts ≡ parameters_in (fields_of t) → r ≡ (length ts == 0) → not r ≡ is_bad_accessor t
getter_method (node k l fs) ts r is_kind word e d = rw (is_kind, word, ← e, d, is_empty-length ts) (or_none (not (is_empty (trees ts))))

pub getter_property : (t : Tree) (ts : List Tree) (r : Bool) → kind_of t ≡ ObjectProperty → first_text (label_of t).texts ≡ codes "get" → trees ts ≡ parameters_in (fields_of t) → r ≡ (length ts == 0) → not r ≡ is_bad_accessor t
getter_property (node k l fs) ts r is_kind word e d = rw (is_kind, word, ← e, d, is_empty-length ts) (or_none (not (is_empty (trees ts))))
