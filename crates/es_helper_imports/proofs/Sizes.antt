-- The law that a program which imports its helpers has at most thirty-six nodes more: at most six helpers are used, and a statement that imports
-- one has at most six nodes.
use Rattle.std.proofs.Common.{◌≡◌, ℕ, ◌+◌, ◌*◌, ◌≤◌, refl, sym, ap, ◌∙◌, List, [], ◌∷◌, ◌++◌, length, length-append, arith}
use Rattle.std.specs.Prelude.{Bool, true, false, ◌&&◌, ◌||◌, Option, Some, None, bytes_eq, codes, find, map, if◌then◌else◌}
use Rattle.std.specs.List.{list_any}
use Rattle.std.specs.Option.{option_or}
use Rattle.std.proofs.lemmas.List.Folds.{list_any-append}
use Rattle.es_tree.specs.Helpers.{helper_text}
use Rattle.es_tree.specs.Names.{first_text, flag_at}
use Rattle.es_tree.specs.Tree.{Tree, node, Label, Fields, done, ◌then◌, Field, missing, one, many, statements, Trees, empty, ◌before◌, trees, tree_size, fields_size, field_size, trees_size}
use Rattle.es_tree.specs.Words.{Text}
use Rattle.es_tree.specs.declared.ast_type.AstType.{AstType}
use Rattle.es_tree.specs.declared.ast_type.AstType.TheVariants.{CallExpression, Identifier, MemberExpression}
use Rattle.es_tree.specs.declared.helper.Helper.{Helper}
use Rattle.es_tree.specs.declared.helper.Helper.TheVariants.{ToPropertyKey}
use Rattle.es_resolution.specs.Declarations.{Bound}
use Rattle.es_resolution.proofs.Basics.{bytes_eq-self}
use Rattle.es_runs.proofs.Weights.{tree_size-bare}
use Rattle.es_steps.specs.Nodes.{joined_trees}
use Rattle.es_steps.specs.Open.{after_imports, is_import}
use Rattle.es_helper_calls.specs.HelperCalls.{bound_of, calling, handed_on, helper_of, helpers_among, helpers_called, helpers_in, helpers_in_field, helpers_in_fields, is_called, is_dotted, is_helper, made_helpers, named_helper, noted, own_helper, passed_helper, used_helper}
use Rattle.es_helper_calls.specs.Importing.{is_module}
use Rattle.es_helper_calls.proofs.CalledTrees.{Calls, CallsAll, CallsBy, CallsHere, CallsIn}
use Rattle.es_helper_calls.proofs.CalledTrees.Calls.{becomes}
use Rattle.es_helper_calls.proofs.CalledTrees.CallsAll.{next, none}
use Rattle.es_helper_calls.proofs.CalledTrees.CallsBy.{at_many, at_none, at_one, at_statements}
use Rattle.es_helper_calls.proofs.CalledTrees.CallsHere.{calls, lists, passes, stays}
use Rattle.es_helper_calls.proofs.CalledTrees.CallsIn.{ends, goes}
use Rattle.es_helper_calls.proofs.CallingTrees.{AnyWay, calls-anyhow, named_by}
use Rattle.es_top_imports.specs.TopImports.{Import, top_of, with_top}
use Rattle.es_helper_imports.specs.Imported.{imported_as, imports_of, unmarked}
use Rattle.es_helper_imports.specs.Laws.{LawImportedSize}

-- WHERE PARTS OF CALLS GIVE WAY TO NAMES a tree has no more nodes

module _ (P : Tree → Bound → Type 0) where
  mutual
    size-now : {t u : Tree} → Calls P t u → tree_size u ≤ tree_size t
    size-now (becomes h) = let inner = size-here h in omega arith

    size-here : {k : AstType} {l : Label} {fs gs : Fields} → CallsHere P k l fs gs → fields_size gs ≤ fields_size fs
    size-here (stays h) = size-in h
    size-here (calls {f = node j m hs} b p mark it h) = let rest = size-in h in omega arith
    size-here (passes {t = node j m hs} b p mark other it k h) = let first = size-now k in let rest = size-in h in omega arith
    size-here (lists {ks = node j m hs} b p texts k h) = let first = size-now k in let second = size-now h in omega arith

    size-in : {fs gs : Fields} → CallsIn P fs gs → fields_size gs ≤ fields_size fs
    size-in ends = omega arith
    size-in (goes k h) = let first = size-by k in let rest = size-in h in omega arith

    size-by : {f g : Field} → CallsBy P f g → field_size g ≤ field_size f
    size-by at_none = omega arith
    size-by (at_one h) = size-now h
    size-by (at_many h) = size-all h
    size-by (at_statements h) = size-all h

    size-all : {ts us : Trees} → CallsAll P ts us → trees_size us ≤ trees_size ts
    size-all none = omega arith
    size-all (next k h) = let first = size-now k in let rest = size-all h in omega arith

-- WHAT IS IMPORTED

size-made : (b : Bool) (m : Import) → tree_size (top_of b m) ≤ 6
size-made true m = omega arith
size-made false m = omega arith

size-imported : (b : Bool) (ms : List Import) → trees_size (trees (map (top_of b) ms)) ≤ 6 * length ms
size-imported b [] = omega arith
size-imported b (m ∷ ms) = let first = size-made b m in let rest = size-imported b ms in omega arith

-- behind the imports of a list

size-joined : (xs ts : Trees) → trees_size (joined_trees xs ts) ≡ trees_size xs + trees_size ts
size-joined empty ts = omega arith
size-joined (x before xs) ts = let rest = size-joined xs ts in omega arith

size-after : (xs ts : Trees) → trees_size (after_imports xs ts) ≡ trees_size xs + trees_size ts
size-after xs empty = omega arith
size-after xs (t before ts) = at (is_import t) (size-after xs ts)
  where
    at : (v : Bool) → trees_size (after_imports xs ts) ≡ trees_size xs + trees_size ts → trees_size (if v then t before after_imports xs ts else joined_trees xs (t before ts)) ≡ trees_size xs + (tree_size t + trees_size ts)
    at true rest = omega arith
    at false rest = size-joined xs (t before ts)

pub size-top : (xs : Trees) (t : Tree) → tree_size (with_top xs t) ≤ tree_size t + trees_size xs
size-top xs (node k l (f then (statements ts then fs))) = let more = size-after xs ts in omega arith
size-top xs _ = omega arith

size-of-imports : (m : Text) (hs : List Helper) (bs : List Bound) → length (imports_of m hs bs) ≤ length hs
size-of-imports m [] bs = omega arith
size-of-imports m (h ∷ hs) [] = omega arith
size-of-imports m (h ∷ hs) (b ∷ bs) = let rest = size-of-imports m hs bs in omega arith

-- HOW MANY HELPERS a program uses

-- one of these
data IsAmong (h : Helper) : List Helper → Type 0 where
  first : {gs : List Helper} → IsAmong h (h ∷ gs)
  later : {g : Helper} {gs : List Helper} → IsAmong h gs → IsAmong h (g ∷ gs)

abbrev MayBeAmong : List Helper → Option Helper → Type 0
MayBeAmong gs None = Unit {0}
MayBeAmong gs (Some h) = IsAmong h gs

abbrev MayBeMade : Option Helper → Type 0
MayBeMade o = MayBeAmong made_helpers o

abbrev AreMade : List Helper → Type 0
AreMade [] = Unit {0}
AreMade (h ∷ hs) = IsAmong h made_helpers × AreMade hs

found-later : (g : Helper) (gs : List Helper) (o : Option Helper) → MayBeAmong gs o → MayBeAmong (g ∷ gs) o
found-later g gs None a = tt
found-later g gs (Some h) a = later a

found-among : (test : Helper → Bool) (gs : List Helper) → MayBeAmong gs (find test gs)
found-among test [] = tt
found-among test (g ∷ gs) = at (test g) (found-among test gs)
  where
    at : (b : Bool) → MayBeAmong gs (find test gs) → MayBeAmong (g ∷ gs) (if b then Some g else find test gs)
    at true rest = first
    at false rest = found-later g gs (find test gs) rest

either-made : (b : Bool) (g h : Option Helper) → MayBeMade g → MayBeMade h → MayBeMade (if b then g else h)
either-made true g h a b = a
either-made false g h a b = b

named-made : (x : Text) → MayBeMade (named_helper x)
named-made x = found-among (λ h. bytes_eq (helper_text h) x) made_helpers

callee-made : (f : Tree) → MayBeMade (helper_of f)
callee-made (node MemberExpression l (one o then (one (node Identifier m fs) then done))) = either-made (is_dotted l && is_called (codes "babelHelpers") o) (named_helper (first_text m.texts)) None (named-made (first_text m.texts)) tt
callee-made _ = tt

handed-made : (o : Option Helper) → MayBeMade o → MayBeMade (handed_on o)
handed-made (Some ToPropertyKey) a = a
handed-made _ a = tt

passed-made : (fs : Fields) → MayBeMade (passed_helper fs)
passed-made (many (t before empty) then fs) = handed-made (helper_of t) (callee-made t)
passed-made _ = tt

first-made : (g h : Option Helper) → MayBeMade g → MayBeMade h → MayBeMade (option_or g h)
first-made None h a b = b
first-made (Some g) h a b = a

used-made : (k : AstType) (l : Label) (fs : Fields) → MayBeMade (used_helper k l fs)
used-made CallExpression l (one f then fs) = either-made (flag_at 0 l.flags) None (option_or (helper_of f) (passed_helper fs)) tt (first-made (helper_of f) (passed_helper fs) (callee-made f) (passed-made fs))
used-made _ l fs = tt

own-made : (h : Option Helper) → MayBeMade h → AreMade (own_helper h)
own-made None a = tt
own-made (Some h) a = (a, tt)

both-made : (gs hs : List Helper) → AreMade gs → AreMade hs → AreMade (gs ++ hs)
both-made [] hs a b = b
both-made (g ∷ gs) hs a b = (a.0, both-made gs hs a.1 b)

mutual
  all-made : (t : Tree) → AreMade (helpers_in t)
  all-made (node k l fs) = both-made (helpers_in_fields fs) (own_helper (used_helper k l fs)) (all-made-in fs) (own-made (used_helper k l fs) (used-made k l fs))

  all-made-in : (fs : Fields) → AreMade (helpers_in_fields fs)
  all-made-in done = tt
  all-made-in (f then fs) = both-made (helpers_in_field f) (helpers_in_fields fs) (all-made-by f) (all-made-in fs)

  all-made-by : (f : Field) → AreMade (helpers_in_field f)
  all-made-by missing = tt
  all-made-by (one t) = all-made t
  all-made-by (many ts) = all-made-among ts
  all-made-by (statements ts) = all-made-among ts

  all-made-among : (ts : Trees) → AreMade (helpers_among ts)
  all-made-among empty = tt
  all-made-among (t before ts) = both-made (helpers_in t) (helpers_among ts) (all-made t) (all-made-among ts)

-- whether a helper is known, and as how many it counts if it isn't
abbrev knows : List Helper → Helper → Bool
knows known h = list_any (λ g. is_helper g h) known

abbrev counted : Bool → ℕ
counted b = if b then 0 else 1

-- how many of these aren't known
abbrev unknown : List Helper → List Helper → ℕ
unknown known [] = 0
unknown known (g ∷ gs) = counted (knows known g) + unknown known gs

-- with one helper more, each is known that was
fewer-counted : (b c : Bool) → counted (b || c) ≤ counted b
fewer-counted true c = omega arith
fewer-counted false true = omega arith
fewer-counted false false = omega arith

knows-append : (known : List Helper) (g h : Helper) → knows (known ++ g ∷ []) h ≡ (knows known h || (is_helper g h || false))
knows-append known g h = list_any-append (λ g. is_helper g h) known (g ∷ [])

no-more : (known : List Helper) (g h : Helper) → counted (knows (known ++ g ∷ []) h) ≤ counted (knows known h)
no-more known g h = rw (knows-append known g h) (fewer-counted (knows known h) (is_helper g h || false))

no-more-of : (known : List Helper) (g : Helper) (hs : List Helper) → unknown (known ++ g ∷ []) hs ≤ unknown known hs
no-more-of known g [] = omega arith
no-more-of known g (h ∷ hs) = let one = no-more known g h in let rest = no-more-of known g hs in omega arith

-- and that one is, too
now-known : (known : List Helper) (h : Helper) → knows known h ≡ false → counted (knows (known ++ h ∷ []) h) + 1 ≡ counted (knows known h)
now-known known h d = rw (knows-append known h h) (rw d (rw (bytes_eq-self (helper_text h)) (omega arith)))

one-fewer : (known : List Helper) (h : Helper) (gs : List Helper) → IsAmong h gs → knows known h ≡ false → unknown (known ++ h ∷ []) gs + 1 ≤ unknown known gs
one-fewer known h [] a d = elim a [ ]
one-fewer known h (_ ∷ gs) first d = let one = now-known known h d in let rest = no-more-of known h gs in omega arith
one-fewer known h (g ∷ gs) (later a) d = let one = no-more known h g in let rest = one-fewer known h gs a d in omega arith

at-most-all : (known hs : List Helper) → AreMade hs → length known + unknown known made_helpers ≤ length made_helpers → length (noted known hs) ≤ length made_helpers
at-most-all known [] m e = omega arith
at-most-all known (h ∷ hs) m e = at (knows known h) refl (λ more. at-most-all more hs m.1)
  where
    at : (b : Bool) → knows known h ≡ b → ((more : List Helper) → length more + unknown more made_helpers ≤ length made_helpers → length (noted more hs) ≤ length made_helpers) → length (noted (if b then known else known ++ h ∷ []) hs) ≤ length made_helpers
    at true d rest = rest known e
    at false d rest =
        let fewer = one-fewer known h made_helpers m.0 d in
        let longer = length-append known (h ∷ []) in
        rest (known ++ h ∷ []) (omega arith)

few-called : (p : Tree) → length (helpers_called p) ≤ length made_helpers
few-called p = at-most-all [] (helpers_in p) (all-made p) (omega arith)

-- THE LAW

pub law_imported_size_proof : LawImportedSize
law_imported_size_proof in_use m p q names to =
    let hs = helpers_called p in
    let bs = unmarked names in
    let ms = imports_of m hs bs in
    let same = sym (tree_size-bare q) ∙ ap tree_size to.written ∙ tree_size-bare (imported_as m hs bs p) in
    let calls = size-now AnyWay (calls-anyhow (bound_of hs bs) p) in
    let top = size-top (trees (map (top_of (is_module p)) ms)) (calling (named_by (bound_of hs bs)) p) in
    let more = size-imported (is_module p) ms in
    let shorter = size-of-imports m hs bs in
    let few = few-called p in
    omega arith
