-- Optional chaining (ECMA-262, 13.3.9): `f()?.p.q` becomes `(_f = f()) === null || _f === void 0 ? void 0 : _f.p.q`. A chain's
-- spine goes from its content through objects of members and callees of calls to its base. Where a step is marked, what stands
-- before it is stored and tested, and the chain becomes `tests ? void 0 : current`, `current` being the rest of the spine over
-- what is stored.
use Rattle.std.specs.Prelude.{◌≡◌, ℕ, List, [], ◌∷◌, ◌++◌, ◌&&◌, ◌||◌, not, Bool, true, false, Option, Some, None, codes, is_some}
use Rattle.es_tree.specs.Fresh.{node_base}
use Rattle.es_tree.specs.Names.{first_text}
use Rattle.es_tree.specs.Parens.{without_parens}
use Rattle.es_tree.specs.References.{is_symbol}
use Rattle.es_tree.specs.Tree.{Tree, node, Label, done, ◌then◌, one, many, Trees, empty, ◌before◌, kind_of}
use Rattle.es_tree.specs.declared.ast_type.AstType.TheVariants.{CallExpression, ChainExpression, Identifier, MemberExpression, UnaryExpression}
use Rattle.es_runs.specs.Alike.Level.{a_callee}
use Rattle.es_runs.specs.Duplication.{has_no_fields}
use Rattle.es_runs.specs.OptionalChaining.{call_at, delete_node, has_tests, is_chain_kind, is_eval, is_link, is_member, is_super, is_this_or_super, member_at, null_checks, takes_value, this_node, true_node, where_short}
use Rattle.es_runs.specs.Rules.{assign_node, member_node, void_zero_node}
use Rattle.es_resolution.specs.Declarations.{Bound, symbol_of}
use Rattle.es_steps.specs.Duplication.{IsNext, is_alone, is_among_symbols}
use Rattle.es_steps.specs.Nodes.{made, identifier, word}
use Rattle.es_steps.specs.Rules.{with_made}
use Rattle.es_steps.specs.Steps.{Whole, Site}

-- NAMES

-- a name of these symbols that stands alone, other than `eval`; a call by the name `eval` is another call than one by a
-- temporary (13.3.6.1)
abbrev pub is_name_among : (Option ℕ → Bool) → Tree → Bool
is_name_among names (node Identifier l fs) = has_no_fields fs && names (symbol_of l) && not (is_eval (first_text l.texts))
is_name_among names _ = false

-- a symbol of these, or that of the name that was stored last, which nothing writes again before it is read
abbrev pub is_held : Option ℕ → Option ℕ → Bool
is_held None s = false
is_held (Some y) s = is_symbol y s

abbrev pub or_held : Option Bound → (Option ℕ → Bool) → Option ℕ → Bool
or_held None names s = names s
or_held (Some y) names s = is_held y.symbol s || names s

-- RECEIVERS

-- The temporaries that an object takes where a call has it as its receiver, the object, what is written for it, and what is
-- read as the receiver: `this` for the objects of this test, a name that nothing writes again, or a temporary.
pub data Receives (to_this : Tree → Bool) (w : Whole) (holder : Option Bound) : List Bound → Tree → Tree → Tree → Type 0 where
  by_this : {o : Tree} → to_this o ≡ true → Receives to_this w holder [] o o this_node
  by_name : {o : Tree} → to_this o ≡ false → is_name_among (or_held holder (is_among_symbols w.steady)) o ≡ true → Receives to_this w holder [] o o o
  by_temporary : {o : Tree} {r : Bound} → to_this o ≡ false → is_name_among (or_held holder (is_among_symbols w.steady)) o ≡ false → IsNext w (node_base o) r →
      Receives to_this w holder (r ∷ []) o (assign_node (identifier r) o) (identifier r)

-- SPINES

-- How far a spine is lowered: the tests so far, the rest of the spine, the temporary that was stored last, and all that were
-- taken.
pub record Way : Type 0 where
  pub tests : List Tree
  pub current : Tree
  pub holder : Option Bound
  pub taken : List Bound

abbrev pub start : Tree → Way
start e = record { tests = []; current = e; holder = None; taken = [] }

-- `c.call`
abbrev pub call_method : Tree → Tree
call_method c = member_node false c (word (codes "call"))

-- after a callee is stored as c with its receiver r
abbrev pub stored_call : Bool → Label → Trees → Way → List Bound → Bound → Tree → Tree → Way
stored_call no_all l arguments w names c callee r = record {
  tests = w.tests ++ null_checks no_all (assign_node (identifier c) callee) (identifier c);
  current = call_at l (call_method (identifier c)) (r before arguments);
  holder = Some c;
  taken = w.taken ++ names;
}

-- before a marked member: a bound name that is tested first is tested as it is, and everything else is stored
pub data Tested (no_all : Bool) (known : Whole) : Way → Way → Type 0 where
  as_name : {w : Way} → w.tests ≡ [] → is_name_among is_some (without_parens w.current) ≡ true →
      Tested no_all known w (record w { tests = null_checks no_all (without_parens w.current) (without_parens w.current); current = without_parens w.current })
  in_holder : {w : Way} {x : Bound} → w.holder ≡ Some x →
      Tested no_all known w (record w { tests = w.tests ++ null_checks no_all (assign_node (identifier x) (without_parens w.current)) (identifier x); current = identifier x })
  in_temporary : {w : Way} {x : Bound} → (w.tests ≡ [] → is_name_among is_some (without_parens w.current) ≡ false) → w.holder ≡ None → IsNext (with_made w.taken known) (node_base w.current) x →
      Tested no_all known w (record { tests = w.tests ++ null_checks no_all (assign_node (identifier x) (without_parens w.current)) (identifier x); current = identifier x; holder = Some x; taken = w.taken ++ x ∷ [] })

-- at a marked call: a bound name that is tested first is tested as it is; a callee is stored, and with it its receiver
pub data Called (no_all : Bool) (known : Whole) (l : Label) (arguments : Trees) : Way → Way → Type 0 where
  by_name : {w : Way} → w.tests ≡ [] → is_name_among is_some (without_parens w.current) ≡ true →
      Called no_all known l arguments w (record w { tests = null_checks no_all (without_parens w.current) (without_parens w.current); current = call_at l (without_parens w.current) arguments })
  by_value : {w : Way} {c : Bound} → (w.tests ≡ [] → is_name_among is_some (without_parens w.current) ≡ false) → is_member (without_parens w.current) ≡ false →
      IsNext (with_made w.taken known) (node_base (without_parens w.current)) c →
      Called no_all known l arguments w (record { tests = w.tests ++ null_checks no_all (assign_node (identifier c) (without_parens w.current)) (identifier c); current = call_at l (identifier c) arguments; holder = Some c; taken = w.taken ++ c ∷ [] })
  -- with no test so far the callee's name is made before the receiver's
  by_first_member : {w : Way} {k : Label} {computed : Bool} {o o1 p r : Tree} {c : Bound} {xs : List Bound} → w.tests ≡ [] → without_parens w.current ≡ node MemberExpression k (one o then one p then done) → k.flags ≡ computed ∷ false ∷ [] →
      IsNext (with_made w.taken known) (node_base (without_parens w.current)) c → Receives is_this_or_super (with_made (c ∷ []) (with_made w.taken known)) w.holder xs o o1 r →
      Called no_all known l arguments w (stored_call no_all l arguments w (c ∷ xs) c (member_at k computed o1 p) r)
  -- and else after it, of the member with the receiver in it
  by_later_member : {w : Way} {k : Label} {computed : Bool} {o o1 p r t : Tree} {ts : List Tree} {c : Bound} {xs : List Bound} → w.tests ≡ t ∷ ts → without_parens w.current ≡ node MemberExpression k (one o then one p then done) → k.flags ≡ computed ∷ false ∷ [] →
      Receives is_this_or_super (with_made w.taken known) w.holder xs o o1 r → IsNext (with_made xs (with_made w.taken known)) (node_base (member_at k computed o1 p)) c →
      Called no_all known l arguments w (stored_call no_all l arguments w (xs ++ c ∷ []) c (member_at k computed o1 p) r)

mutual
  -- what a spine becomes, step by step from its base
  pub data Walked (no_all : Bool) (known : Whole) : Tree → Way → Type 0 where
    base : {e : Tree} → is_link e ≡ false → is_alone e ≡ true → Walked no_all known e (start e)
    plain_member : {l : Label} {computed : Bool} {o p : Tree} {w : Way} → l.flags ≡ computed ∷ false ∷ [] → Walked no_all known o w →
        Walked no_all known (node MemberExpression l (one o then one p then done)) (record w { current = member_at l computed w.current p })
    plain_call : {l : Label} {f : Tree} {arguments : Trees} {w : Way} → l.flags ≡ false ∷ [] → Walked no_all known f w →
        Walked no_all known (node CallExpression l (one f then many arguments then done)) (record w { current = call_at l w.current arguments })
    marked_member : {l : Label} {computed : Bool} {o p : Tree} {w u : Way} → l.flags ≡ computed ∷ true ∷ [] → Continued no_all known o w → Tested no_all known w u →
        Walked no_all known (node MemberExpression l (one o then one p then done)) (record u { current = member_at l computed u.current p })
    marked_call : {l : Label} {f : Tree} {arguments : Trees} {w u : Way} → l.flags ≡ true ∷ [] → Continued no_all known f w → Called no_all known l arguments w u →
        Walked no_all known (node CallExpression l (one f then many arguments then done)) u

  -- before a marked step a chain in parentheses is gone on with
  pub data Continued (no_all : Bool) (known : Whole) : Tree → Way → Type 0 where
    same_spine : {e : Tree} {w : Way} → (is_link e || not (is_chain_kind (kind_of (without_parens e)))) ≡ true → Walked no_all known e w → Continued no_all known e w
    inner_spine : {e c : Tree} {l : Label} {w : Way} → is_link e ≡ false → is_alone e ≡ true → without_parens e ≡ node ChainExpression l (one c then done) → Walked no_all known c w → Continued no_all known e w

-- ROWS

-- `current.bind(receiver)`
abbrev pub bind_node : Tree → Tree → Tree
bind_node current r = node CallExpression (made [] (false ∷ [])) (one (member_node false current (word (codes "bind"))) then many (r before empty) then done)

-- what becomes of a chain that is a callee, through parentheses: a member is bound to its object
pub data BoundCallee (w : Whole) (holder : Option Bound) : List Bound → Tree → Tree → Type 0 where
  no_member : {e : Tree} → is_member e ≡ false → BoundCallee w holder [] e e
  to_object : {k : Label} {computed : Bool} {o o1 p r : Tree} {xs : List Bound} → k.flags ≡ computed ∷ false ∷ [] → Receives is_super w holder xs o o1 r →
      BoundCallee w holder xs (node MemberExpression k (one o then one p then done)) (bind_node (member_at k computed o1 p) r)

-- The rows of chains, where it is assumed or not that no value is `document.all`. A name is bound where it has a symbol, and so
-- is each temporary.
pub data OptionalChainingRule (no_all : Bool) (n : Site) (known : Whole) : List Bound → Tree → Tree → Type 0 where
  -- a chain at a place that takes its value
  by_tests : {m : Label} {e : Tree} {w : Way} → takes_value n.need.level ≡ true → Walked no_all known e w → has_tests w.tests ≡ true →
      OptionalChainingRule no_all n known w.taken (node ChainExpression m (one e then done)) (where_short m w.tests void_zero_node w.current)
  -- a chain that is the callee of a call without a mark
  as_callee : {m : Label} {e d : Tree} {w : Way} {xs : List Bound} → n.need.level ≡ a_callee → Walked no_all known e w → has_tests w.tests ≡ true → BoundCallee (with_made w.taken known) w.holder xs w.current d →
      OptionalChainingRule no_all n known (w.taken ++ xs) (node ChainExpression m (one e then done)) (where_short m w.tests void_zero_node d)
  -- `delete` of a chain
  in_delete : {m l : Label} {t e : Tree} {w : Way} → m.texts ≡ Some (codes "delete") ∷ [] → is_alone t ≡ true → without_parens t ≡ node ChainExpression l (one e then done) → Walked no_all known e w → has_tests w.tests ≡ true →
      OptionalChainingRule no_all n known w.taken (node UnaryExpression m (one t then done)) (where_short m w.tests true_node (delete_node w.current))
