-- Optional chaining (ECMA-262, 13.3.9). A chain's spine goes from its content through objects of members and callees of
-- calls to its base. Where a step is marked, what stands before it is stored and tested, and the chain becomes
-- `tests ? void 0 : current`, `current` being the rest of the spine over what is stored.
use Rattle.std.specs.Prelude.{◌≡◌, List, [], ◌∷◌, ◌++◌, ◌&&◌, ◌||◌, not, Bool, true, false, Option, Some, None, bytes_eq, codes}
use Rattle.es_tree.specs.Words.{Text}
use Rattle.es_tree.specs.Fresh.{IsFreshName, also, node_base}
use Rattle.es_tree.specs.Names.{first_text}
use Rattle.es_tree.specs.Parens.{without_parens}
use Rattle.es_tree.specs.Tree.{Tree, node, Label, done, ◌then◌, one, many, Trees, empty, ◌before◌, kind_of}
use Rattle.es_tree.specs.declared.ast_type.AstType.{AstType}
use Rattle.es_tree.specs.declared.ast_type.AstType.TheVariants.{BooleanLiteral, CallExpression, ChainExpression, Identifier, MemberExpression, Super, ThisExpression, UnaryExpression}
use Rattle.es_runs.specs.Alike.{Level, Need}
use Rattle.es_runs.specs.Alike.Level.{no_evaluation, value_alone, an_operand_of_typeof, a_callee}
use Rattle.es_runs.specs.Duplication.{has_no_fields}
use Rattle.es_runs.specs.Rules.{assign_node, binary_node, conditional_at, in_place_of, logical_node, member_node, null_node, void_zero_node}
use Rattle.es_runs.specs.Runs.{made, identifier}
use Rattle.es_runs.specs.NullishCoalescing.{also_all}

-- NAMES

abbrev pub is_eval : Text → Bool
is_eval x = bytes_eq x (codes "eval")

-- a name that stands alone, other than `eval`, of these names; a call by the name `eval` is another call than one by a
-- temporary (ECMA-262, 13.3.6.1)
abbrev pub is_name_among : (Text → Bool) → Tree → Bool
is_name_among names (node Identifier l fs) = has_no_fields fs && names (first_text l.texts) && not (is_eval (first_text l.texts))
is_name_among names _ = false

-- these names, or the one that was stored last, which nothing writes again before it is read
abbrev pub or_held : Option Text → (Text → Bool) → Text → Bool
or_held None names x = names x
or_held (Some y) names x = bytes_eq x y || names x

-- TESTS

-- whether `e`, read again as `again`, is null or undefined; where no value is `document.all`, one loose test tells
abbrev pub null_checks : Bool → Tree → Tree → List Tree
null_checks true e again = binary_node (codes "==") e null_node ∷ []
null_checks false e again = binary_node (codes "===") e null_node ∷ binary_node (codes "===") again void_zero_node ∷ []

-- `t || u || ..`
abbrev pub joined_by_or : Tree → List Tree → Tree
joined_by_or t [] = t
joined_by_or t (u ∷ us) = joined_by_or (logical_node (codes "||") t u) us

-- RECEIVERS

abbrev pub this_node : Tree
this_node = node ThisExpression (made [] []) done

-- `this` and `super`, whose receiver is `this`
abbrev pub is_this_or_super : Tree → Bool
is_this_or_super (node ThisExpression l fs) = has_no_fields fs
is_this_or_super (node Super l fs) = has_no_fields fs
is_this_or_super _ = false

abbrev pub is_super : Tree → Bool
is_super (node Super l fs) = has_no_fields fs
is_super _ = false

-- The names that an object takes where a call has it as its receiver, the object, what is written for it, and what is read
-- as the receiver: `this` for the objects of this test, a name that nothing writes again, or a temporary.
pub data Receives (to_this : Tree → Bool) (steady in_use : Text → Bool) (holder : Option Text) : List Text → Tree → Tree → Tree → Type 0 where
  by_this : {o : Tree} → to_this o ≡ true → Receives to_this steady in_use holder [] o o this_node
  by_name : {o : Tree} → to_this o ≡ false → is_name_among (or_held holder steady) o ≡ true → Receives to_this steady in_use holder [] o o o
  by_temporary : {o : Tree} {r : Text} → to_this o ≡ false → is_name_among (or_held holder steady) o ≡ false → IsFreshName in_use (node_base o) r →
      Receives to_this steady in_use holder (r ∷ []) o (assign_node (identifier r) o) (identifier r)

-- SPINES

-- How far a spine is lowered: the tests so far, the rest of the spine, the name that was stored last, and all names taken.
pub record Way : Type 0 where
  pub tests : List Tree
  pub current : Tree
  pub holder : Option Text
  pub taken : List Text

abbrev pub start : Tree → Way
start e = record { tests = []; current = e; holder = None; taken = [] }

-- a step of a spine
abbrev pub is_link : Tree → Bool
is_link (node MemberExpression l fs) = true
is_link (node CallExpression l fs) = true
is_link _ = false

abbrev pub is_chain_kind : AstType → Bool
is_chain_kind ChainExpression = true
is_chain_kind _ = false

abbrev pub is_member : Tree → Bool
is_member (node MemberExpression l fs) = true
is_member _ = false

-- `o.p` and `o[p]` without a mark, in the place of a step
abbrev pub member_at : Label → Bool → Tree → Tree → Tree
member_at l computed o p = node MemberExpression (record l { flags = computed ∷ false ∷ [] }) (one o then one p then done)

abbrev pub call_at : Label → Tree → Trees → Tree
call_at l f arguments = node CallExpression (record l { flags = false ∷ [] }) (one f then many arguments then done)

-- `c.call`
abbrev pub call_method : Tree → Tree
call_method c = member_node false c (identifier (codes "call"))

-- after a callee is stored as c with its receiver r
abbrev pub stored_call : Bool → Label → Trees → Way → List Text → Text → Tree → Tree → Way
stored_call no_all l arguments w names c callee r = record {
  tests = w.tests ++ null_checks no_all (assign_node (identifier c) callee) (identifier c);
  current = call_at l (call_method (identifier c)) (r before arguments);
  holder = Some c;
  taken = w.taken ++ names;
}

-- before a marked member: a name that may be read again is tested as it is, and everything else is stored
pub data Tested (no_all : Bool) (bound in_use : Text → Bool) : Way → Way → Type 0 where
  as_name : {w : Way} → w.tests ≡ [] → is_name_among bound (without_parens w.current) ≡ true →
      Tested no_all bound in_use w (record w { tests = null_checks no_all (without_parens w.current) (without_parens w.current); current = without_parens w.current })
  in_holder : {w : Way} {x : Text} → w.holder ≡ Some x →
      Tested no_all bound in_use w (record w { tests = w.tests ++ null_checks no_all (assign_node (identifier x) (without_parens w.current)) (identifier x); current = identifier x })
  in_temporary : {w : Way} {x : Text} → (w.tests ≡ [] → is_name_among bound (without_parens w.current) ≡ false) → w.holder ≡ None → IsFreshName (also_all w.taken in_use) (node_base w.current) x →
      Tested no_all bound in_use w (record { tests = w.tests ++ null_checks no_all (assign_node (identifier x) (without_parens w.current)) (identifier x); current = identifier x; holder = Some x; taken = w.taken ++ x ∷ [] })

-- at a marked call: a name that may be read again is tested as it is; a callee is stored, and with it its receiver
pub data Called (no_all : Bool) (bound steady in_use : Text → Bool) (l : Label) (arguments : Trees) : Way → Way → Type 0 where
  by_name : {w : Way} → w.tests ≡ [] → is_name_among bound (without_parens w.current) ≡ true →
      Called no_all bound steady in_use l arguments w (record w { tests = null_checks no_all (without_parens w.current) (without_parens w.current); current = call_at l (without_parens w.current) arguments })
  by_value : {w : Way} {c : Text} → (w.tests ≡ [] → is_name_among bound (without_parens w.current) ≡ false) → is_member (without_parens w.current) ≡ false →
      IsFreshName (also_all w.taken in_use) (node_base (without_parens w.current)) c →
      Called no_all bound steady in_use l arguments w (record { tests = w.tests ++ null_checks no_all (assign_node (identifier c) (without_parens w.current)) (identifier c); current = call_at l (identifier c) arguments; holder = Some c; taken = w.taken ++ c ∷ [] })
  -- with no test so far the callee's name is made before the receiver's
  by_first_member : {w : Way} {k : Label} {computed : Bool} {o o1 p r : Tree} {c : Text} {xs : List Text} → w.tests ≡ [] → without_parens w.current ≡ node MemberExpression k (one o then one p then done) → k.flags ≡ computed ∷ false ∷ [] →
      IsFreshName (also_all w.taken in_use) (node_base (without_parens w.current)) c → Receives is_this_or_super steady (also c (also_all w.taken in_use)) w.holder xs o o1 r →
      Called no_all bound steady in_use l arguments w (stored_call no_all l arguments w (c ∷ xs) c (member_at k computed o1 p) r)
  -- and else after it, of the member with the receiver in it
  by_later_member : {w : Way} {k : Label} {computed : Bool} {o o1 p r t : Tree} {ts : List Tree} {c : Text} {xs : List Text} → w.tests ≡ t ∷ ts → without_parens w.current ≡ node MemberExpression k (one o then one p then done) → k.flags ≡ computed ∷ false ∷ [] →
      Receives is_this_or_super steady (also_all w.taken in_use) w.holder xs o o1 r → IsFreshName (also_all xs (also_all w.taken in_use)) (node_base (member_at k computed o1 p)) c →
      Called no_all bound steady in_use l arguments w (stored_call no_all l arguments w (xs ++ c ∷ []) c (member_at k computed o1 p) r)

mutual
  -- what a spine becomes, step by step from its base
  pub data Walked (no_all : Bool) (bound steady in_use : Text → Bool) : Tree → Way → Type 0 where
    base : {e : Tree} → is_link e ≡ false → Walked no_all bound steady in_use e (start e)
    plain_member : {l : Label} {computed : Bool} {o p : Tree} {w : Way} → l.flags ≡ computed ∷ false ∷ [] → Walked no_all bound steady in_use o w →
        Walked no_all bound steady in_use (node MemberExpression l (one o then one p then done)) (record w { current = member_at l computed w.current p })
    plain_call : {l : Label} {f : Tree} {arguments : Trees} {w : Way} → l.flags ≡ false ∷ [] → Walked no_all bound steady in_use f w →
        Walked no_all bound steady in_use (node CallExpression l (one f then many arguments then done)) (record w { current = call_at l w.current arguments })
    marked_member : {l : Label} {computed : Bool} {o p : Tree} {w u : Way} → l.flags ≡ computed ∷ true ∷ [] → Continued no_all bound steady in_use o w → Tested no_all bound in_use w u →
        Walked no_all bound steady in_use (node MemberExpression l (one o then one p then done)) (record u { current = member_at l computed u.current p })
    marked_call : {l : Label} {f : Tree} {arguments : Trees} {w u : Way} → l.flags ≡ true ∷ [] → Continued no_all bound steady in_use f w → Called no_all bound steady in_use l arguments w u →
        Walked no_all bound steady in_use (node CallExpression l (one f then many arguments then done)) u

  -- before a marked step a chain in parentheses is gone on with
  pub data Continued (no_all : Bool) (bound steady in_use : Text → Bool) : Tree → Way → Type 0 where
    same_spine : {e : Tree} {w : Way} → (is_link e || not (is_chain_kind (kind_of (without_parens e)))) ≡ true → Walked no_all bound steady in_use e w → Continued no_all bound steady in_use e w
    inner_spine : {e c : Tree} {l : Label} {w : Way} → is_link e ≡ false → without_parens e ≡ node ChainExpression l (one c then done) → Walked no_all bound steady in_use c w → Continued no_all bound steady in_use e w

-- ROWS

-- what stands in the place of a chain, or of what is done to it: `tests ? short : long`
abbrev pub where_short : Label → List Tree → Tree → Tree → Tree
where_short m [] short long = long
where_short m (t ∷ ts) short long = conditional_at (in_place_of m) (joined_by_or t ts) short long

abbrev pub has_tests : List Tree → Bool
has_tests [] = false
has_tests (t ∷ ts) = true

-- whether a place takes the value alone, or what `typeof` takes, or evaluates nothing, as that of a key without brackets
abbrev pub takes_value : Level → Bool
takes_value no_evaluation = true
takes_value value_alone = true
takes_value an_operand_of_typeof = true
takes_value _ = false

abbrev pub true_node : Tree
true_node = node BooleanLiteral (made [] (true ∷ [])) done

abbrev pub delete_node : Tree → Tree
delete_node e = node UnaryExpression (made (Some (codes "delete") ∷ []) []) (one e then done)

-- `current.bind(receiver)`
abbrev pub bind_node : Tree → Tree → Tree
bind_node current r = node CallExpression (made [] (false ∷ [])) (one (member_node false current (identifier (codes "bind"))) then many (r before empty) then done)

-- what becomes of a chain that is a callee, through parentheses: a member is bound to its object
pub data BoundCallee (steady in_use : Text → Bool) (holder : Option Text) : List Text → Tree → Tree → Type 0 where
  no_member : {e : Tree} → is_member e ≡ false → BoundCallee steady in_use holder [] e e
  to_object : {k : Label} {computed : Bool} {o o1 p r : Tree} {xs : List Text} → k.flags ≡ computed ∷ false ∷ [] → Receives is_super steady in_use holder xs o o1 r →
      BoundCallee steady in_use holder xs (node MemberExpression k (one o then one p then done)) (bind_node (member_at k computed o1 p) r)

-- `bound` are the names that are bound, by the source or as fresh ones: each is read again where it is tested first
pub data OptionalChainingRule (no_all : Bool) (bound steady in_use : Text → Bool) : List Text → Need → Tree → Tree → Type 0 where
  -- a chain at a place that takes its value
  by_tests : {n : Need} {m : Label} {e : Tree} {w : Way} → takes_value n.level ≡ true → Walked no_all bound steady in_use e w → has_tests w.tests ≡ true →
      OptionalChainingRule no_all bound steady in_use w.taken n (node ChainExpression m (one e then done)) (where_short m w.tests void_zero_node w.current)
  -- a chain that is the callee of a call without a mark
  as_callee : {n : Need} {m : Label} {e d : Tree} {w : Way} {xs : List Text} → n.level ≡ a_callee → Walked no_all bound steady in_use e w → has_tests w.tests ≡ true → BoundCallee steady (also_all w.taken in_use) w.holder xs w.current d →
      OptionalChainingRule no_all bound steady in_use (w.taken ++ xs) n (node ChainExpression m (one e then done)) (where_short m w.tests void_zero_node d)
  -- `delete` of a chain
  in_delete : {n : Need} {m l : Label} {t e : Tree} {w : Way} → m.texts ≡ Some (codes "delete") ∷ [] → without_parens t ≡ node ChainExpression l (one e then done) → Walked no_all bound steady in_use e w → has_tests w.tests ≡ true →
      OptionalChainingRule no_all bound steady in_use w.taken n (node UnaryExpression m (one t then done)) (where_short m w.tests true_node (delete_node w.current))
