-- A chain that was taken apart, and the choice that was made of its way, as a row that replaced it.
use Rattle.std.proofs.Common.{◌≡◌, ◌+◌, ◌*◌, ◌≤◌, ◌<◌, List, [], ◌∷◌, ◌++◌, length, refl, sym, ap, subst, ◌∙◌, arith, Option, Some, codes}
use Rattle.std.proofs.lemmas.List.{length-map}
use Rattle.std.specs.Prelude.{Bool, true, false, bytes_eq, ◌||◌}
use Rattle.es_expressions.specs.MembersPlain.{plain_chain_expression}
use Rattle.es_expressions.specs.OperationsPlain.{plain_unary_expression}
use Rattle.es_expressions.specs.declared.members.ChainExpression.{ChainExpression as AnyChain}
use Rattle.es_expressions.specs.declared.operations.UnaryExpression.{UnaryExpression as AnyUnary}
use Rattle.es_resolution.specs.Declarations.{Bound}
use Rattle.es_resolution.specs.Seen.{seen}
use Rattle.es_runs.proofs.Temporary.{bytes_eq-equal}
use Rattle.es_runs.specs.OptionalChaining.{delete_node, has_tests, joined_by_or, true_node, where_short}
use Rattle.es_runs.specs.Rules.{conditional_at, in_place_of, strays, void_zero_node}
use Rattle.es_steps.proofs.FormParts.{IsFormed, and-left, formed-bare}
use Rattle.es_steps.specs.OptionalChaining.{BoundCallee, Way}
use Rattle.es_steps.specs.OptionalChaining.OptionalChainingRule.{as_callee, by_tests, in_delete}
use Rattle.es_steps.specs.Rules.{with_made}
use Rattle.es_steps.specs.Steps.{Whole}
use Rattle.es_traverse.specs.Loads.{load}
use Rattle.es_tree.proofs.NodeForm.{node_form}
use Rattle.es_tree.specs.HasForm.{has_form}
use Rattle.es_tree.specs.Parens.{without_parens}
use Rattle.es_tree.specs.Tree.{Tree, node, Label, done, ◌then◌, one, kind_of, label_of, tree_size}
use Rattle.es_tree.specs.Words.{Text, unary_operator_text}
use Rattle.es_tree.specs.declared.ast_type.AstType.TheVariants.{ChainExpression, ConditionalExpression, UnaryExpression}
use Rattle.es_tree.specs.declared.ids.Span.{Span}
use Rattle.es_tree.specs.declared.table.Sort.TheVariants.{Expression as s-Expression}
use Rattle.lower_temporaries.proofs.Loads.{stripped_load}
use Rattle.lower_temporaries.proofs.SeenLaws.{load-seen, parens-seen}
use Rattle.lower_temporaries.proofs.Takings.{takes-reads, takes-then}
use Rattle.lower_temporaries.specs.Takings.{moment_of}
use Rattle.lower_temporaries.specs.Shapes.{at_span}
use Rattle.lower_chains.proofs.Shapes.{left}
use Rattle.lower_temporaries.proofs.ParensForm.{alone-form}
use Rattle.lower_chains.proofs.Sound.{bare-tidy, content-sound}
use Rattle.lower_chains.proofs.Weights.{callee_affords, delete_affords, tests_afford}
use Rattle.lower_chains.specs.Chains.{IsSoundNode, LowersAt, anywhere_at, takes_by}
use Rattle.lower_chains.specs.Parts.{Chooses, ChoosesCallee, ChoosesDeleted, ChoosesValue}
use Rattle.lower_chains.specs.Spines.{IsPlain, IsSound, is_delete}
use Rattle.lower_chains.specs.Ways.{BindsTo, Ctx, IsWay, Names, WalksTo, held, whole_of}
use Rattle.lower_chains.specs.Weights.{FewBound}
use Rattle.lower_chains.specs.declared.way.Way.{Way as CodeWay}

-- CHOICES

-- of the label of what is replaced only the span goes on
same-place : (m k : Label) (ts : List Tree) (short long : Tree) → in_place_of m ≡ in_place_of k → where_short m ts short long ≡ where_short k ts short long
same-place m k [] short long h = refl
same-place m k (t ∷ ts) short long h = ap (λ (l : Label). conditional_at l (joined_by_or t ts) short long) h

-- the choice by the tests of the way that the code's is
chosen : {names : Names} {begin now : Ctx} {way : CodeWay} {w : Way} {span : Span} {short long u : Tree} (m : Label) (other : Tree) → IsWay names begin now way w → Chooses names span way short long u → in_place_of m ≡ in_place_of (at_span span) → long ≡ other → u ≡ where_short m w.tests short other
chosen {way = way} {w = w} {span = span} {short = short} {long = long} m other is c place same =
    c.choice
    ∙ ap (λ (ts : List Tree). where_short (at_span span) ts short long) is.tests
    ∙ ap (λ (t : Tree). where_short (at_span span) w.tests short t) same
    ∙ sym (same-place m (at_span span) w.tests short other place)

pub count-tests : {names : Names} {begin now : Ctx} {way : CodeWay} {w : Way} → IsWay names begin now way w → length way.tests.items ≡ length w.tests
count-tests {names} {way = way} is = sym (length-map way.tests.items (seen names)) ∙ ap (λ (ts : List Tree). length ts) is.tests

some-there : (ts : List Tree) → 0 < length ts → has_tests ts ≡ true
some-there [] h = absurd (omega (arith, h))
some-there (t ∷ ts) h = refl

some-tests : {names : Names} {begin now : Ctx} {way : CodeWay} {w : Way} {span : Span} {short long u : Tree} → IsWay names begin now way w → Chooses names span way short long u → has_tests w.tests ≡ true
some-tests {w = w} is c = some-there w.tests (let n = count-tests is in omega (arith, n, c.some))

short-kind : (m : Label) (ts : List Tree) (short long : Tree) → has_tests ts ≡ true → kind_of (where_short m ts short long) ≡ ConditionalExpression
short-kind m [] short long h = absurd (cc h)
short-kind m (t ∷ ts) short long h = refl

-- CHAINS

abbrev chain_label : Names → AnyChain → Label
chain_label names e = label_of (seen names (plain_chain_expression e))

module _ (names : Names) (no_all : Bool) (old mid new : Ctx) (t made : Tree) where
  pub value-lowered : (e : AnyChain) (way : CodeWay) → plain_chain_expression e ≡ t → WalksTo names no_all old mid (seen names e.expression) way → ChoosesValue names e.span way mid new (seen names made) → LowersAt (takes_by false) no_all (moment_of old) (seen names t) (moment_of new) (seen names made)
  value-lowered e way opened k c =
      let w = k.to in
      let m = chain_label names e in
      let x = seen names e.expression in
      let some = some-tests k.is c.chooses in
      let count = count-tests k.is in
      let a = tests_afford m x w (length way.tests.items + 2) some k.affords (omega (arith, count)) (omega (arith, count)) in
      let whole : seen names made ≡ where_short m w.tests void_zero_node w.current = chosen m w.current k.is c.chooses refl k.is.current in
      let step : LowersAt (takes_by false) no_all (moment_of old) (seen names (plain_chain_expression e)) (moment_of new) (where_short m w.tests void_zero_node w.current) = record {
        made = w.taken;
        ids = k.is.ids + (length way.tests.items + 2);
        takes = takes-reads mid new k.is.takes c.reads;
        row = λ n place s. by_tests place (k.walked (content-sound m x s)) some;
        kind = short-kind m w.tests void_zero_node w.current some;
        nodes = a.nodes;
        lighter = a.lighter;
      } in
      subst (λ (v : Tree). LowersAt (takes_by false) no_all (moment_of old) (seen names v) (moment_of new) (seen names made)) opened (subst (λ (v : Tree). LowersAt (takes_by false) no_all (moment_of old) (seen names (plain_chain_expression e)) (moment_of new) v) (sym whole) step)

-- what was bound where the way ended
few-there : {names : Names} {begin now new : Ctx} {way : CodeWay} {w : Way} {d : Tree} → (is : IsWay names begin now way w) → (b : BindsTo now new (held way.holder) (seen names way.current) d) → FewBound b.names w.current d
few-there {d = d} is b = subst (λ (e : Tree). FewBound b.names e d) is.current b.bound

bound-there : {names : Names} {begin now new : Ctx} {way : CodeWay} {w : Way} {d : Tree} → (is : IsWay names begin now way w) → (b : BindsTo now new (held way.holder) (seen names way.current) d) → IsPlain w.current → BoundCallee (with_made w.taken (whole_of begin)) w.holder b.names w.current d
bound-there {names} {begin} {now} {way = way} {w = w} {d = d} is b plain =
    subst (λ (e : Tree). BoundCallee (with_made w.taken (whole_of begin)) w.holder b.names e d) is.current
    (subst (λ (h : Option Bound). BoundCallee (with_made w.taken (whole_of begin)) h b.names (seen names way.current) d) is.holder
    (subst (λ (v : Whole). BoundCallee v (held way.holder) b.names (seen names way.current) d) is.takes.whole_is (b.binds (subst IsPlain (sym is.current) plain))))

module _ (names : Names) (no_all : Bool) (old mid new : Ctx) (t made : Tree) where
  pub callee-lowered : (e : AnyChain) (way : CodeWay) → plain_chain_expression e ≡ t → WalksTo names no_all old mid (seen names e.expression) way → ChoosesCallee names e.span way mid new (seen names made) → LowersAt (takes_by true) no_all (moment_of old) (seen names t) (moment_of new) (seen names made)
  callee-lowered e way opened k c =
      let w = k.to in
      let m = chain_label names e in
      let x = seen names e.expression in
      let some = some-tests k.is c.chooses in
      let count = count-tests k.is in
      let f = few-there k.is c.binds in
      let size = ap tree_size k.is.current in
      let a = callee_affords m x c.callee w c.binds.names (c.binds.ids + (length way.tests.items + 2)) some k.affords f (omega (arith, count, f.size, c.binds.sized, size)) (omega (arith, count, f.size, c.binds.sized, size)) in
      let whole : seen names made ≡ where_short m w.tests void_zero_node c.callee = chosen m c.callee k.is c.chooses refl refl in
      let step : LowersAt (takes_by true) no_all (moment_of old) (seen names (plain_chain_expression e)) (moment_of new) (where_short m w.tests void_zero_node c.callee) = record {
        made = w.taken ++ c.binds.names;
        ids = (k.is.ids + c.binds.ids) + (length way.tests.items + 2);
        takes = takes-reads c.between new (takes-then k.is.takes c.binds.takes) c.reads;
        row = λ n place s. let sound = content-sound m x s in as_callee place (k.walked sound) some (bound-there k.is c.binds (k.plain sound));
        kind = short-kind m w.tests void_zero_node c.callee some;
        nodes = omega (arith, a.nodes);
        lighter = omega (arith, a.lighter);
      } in
      subst (λ (v : Tree). LowersAt (takes_by true) no_all (moment_of old) (seen names v) (moment_of new) (seen names made)) opened (subst (λ (v : Tree). LowersAt (takes_by true) no_all (moment_of old) (seen names (plain_chain_expression e)) (moment_of new) v) (sym whole) step)

-- DELETE

abbrev unary_label : Names → AnyUnary → Label
unary_label names e = label_of (seen names (plain_unary_expression e))

delete-word : (t : Tree) (e : AnyUnary) → plain_unary_expression e ≡ t → is_delete t ≡ true → bytes_eq (unary_operator_text e.operator) (codes "delete") ≡ true
delete-word t e opened h = left (bytes_eq (unary_operator_text e.operator) (codes "delete")) true (ap is_delete opened ∙ h)

delete-texts : (names : Names) (t : Tree) (e : AnyUnary) → plain_unary_expression e ≡ t → is_delete t ≡ true → (unary_label names e).texts ≡ Some (codes "delete") ∷ []
delete-texts names t e opened h = ap (λ (y : Text). Some y ∷ []) (bytes_eq-equal (unary_operator_text e.operator) (codes "delete") (delete-word t e opened h))

-- the operand of a sound node
operand-formed : (m : Label) (t : Tree) → IsSoundNode (node UnaryExpression m (one t then done)) → IsFormed t
operand-formed m t s = and-left (has_form s-Expression t) true (node_form s.sort UnaryExpression m (one t then done) s.formed).children

operand-content : (m l : Label) (t e : Tree) → without_parens t ≡ node ChainExpression l (one e then done) → IsSoundNode (node UnaryExpression m (one t then done)) → IsSound e
operand-content m l t e below s = content-sound l e (record {
  sort = s-Expression;
  formed = subst IsFormed below (formed-bare s-Expression t refl (operand-formed m t s));
  tidy = subst (λ (v : Tree). strays false v ≡ false) below (bare-tidy t (first-tidy (strays false t) s.tidy));
})
  where
    first-tidy : (a : Bool) → (a || false) ≡ false → a ≡ false
    first-tidy true h = absurd (cc h)
    first-tidy false h = refl

module _ (names : Names) (no_all : Bool) (old mid new : Ctx) (t chain made : Tree) where
  pub delete-lowered : (e : AnyUnary) (i : AnyChain) (way : CodeWay) → plain_unary_expression e ≡ t → is_delete t ≡ true → chain ≡ without_parens e.argument → plain_chain_expression i ≡ chain → WalksTo names no_all old mid (seen names i.expression) way → ChoosesDeleted names e.span way mid new (seen names made) →
      LowersAt anywhere_at no_all (moment_of old) (seen names t) (moment_of new) (seen names made)
  delete-lowered e i way opened deletes inner chained k c =
      let w = k.to in
      let m = unary_label names e in
      let l = chain_label names i in
      let o = seen names e.argument in
      let x = seen names i.expression in
      let some = some-tests k.is c.chooses in
      let count = count-tests k.is in
      let below : without_parens o ≡ node ChainExpression l (one x then done) = parens-seen names e.argument ∙ ap (seen names) (sym inner ∙ sym chained) in
      let a = delete_affords m l o x w (length way.tests.items + 2) some below k.affords (omega (arith, count)) (omega (arith, count)) in
      let whole : seen names made ≡ where_short m w.tests true_node (delete_node w.current) = chosen m (delete_node w.current) k.is c.chooses refl (ap delete_node k.is.current) in
      let step : LowersAt anywhere_at no_all (moment_of old) (seen names (plain_unary_expression e)) (moment_of new) (where_short m w.tests true_node (delete_node w.current)) = record {
        made = w.taken;
        ids = k.is.ids + (length way.tests.items + 2);
        takes = takes-reads mid new k.is.takes c.reads;
        row = λ n place s. in_delete (delete-texts names t e opened deletes) (alone-form s-Expression o (operand-formed m o s)) below (k.walked (operand-content m l o x below s)) some;
        kind = short-kind m w.tests true_node (delete_node w.current) some;
        nodes = a.nodes;
        lighter = a.lighter;
      } in
      subst (λ (v : Tree). LowersAt anywhere_at no_all (moment_of old) (seen names v) (moment_of new) (seen names made)) opened (subst (λ (v : Tree). LowersAt anywhere_at no_all (moment_of old) (seen names (plain_unary_expression e)) (moment_of new) v) (sym whole) step)

-- ROOM

-- what a way leaves of the load of its spine
pub tests-few : {names : Names} {no_all : Bool} {old mid : Ctx} {way : CodeWay} (e : Tree) (k : WalksTo names no_all old mid (seen names e) way) → k.is.ids + 2 * length way.tests.items ≤ load e
tests-few {names} e k = let count = count-tests k.is in let l = load-seen names e in omega (arith, count, k.affords.lighter, l)

-- a chain below `delete` weighs less than it
pub deleted-load : (t chain : Tree) (e : AnyUnary) (i : AnyChain) → plain_unary_expression e ≡ t → chain ≡ without_parens e.argument → plain_chain_expression i ≡ chain → 26 + load i.expression ≤ load t
deleted-load t chain e i opened inner chained =
    let light = stripped_load e.argument in
    let same = ap load (chained ∙ inner) in
    let whole = ap load opened in
    omega (arith, light, same, whole)
