-- A tree in which helpers are called, or handed on, by names is that tree but for these helpers, which gave way to names.
use Rattle.std.proofs.Common.{◌≡◌, refl, sym, subst, List, [], ◌∷◌, ◌++◌}
use Rattle.std.specs.Prelude.{Option, Some, None}
use Rattle.es_tree.specs.Tree.{Tree, node, Label, Fields, done, ◌then◌, Field, missing, one, many, statements, Trees, empty, ◌before◌}
use Rattle.es_tree.specs.declared.ast_type.AstType.{AstType}
use Rattle.es_tree.specs.declared.ast_type.AstType.TheVariants.{CallExpression}
use Rattle.es_tree.specs.declared.helper.Helper.{Helper}
use Rattle.es_resolution.specs.Declarations.{Bound}
use Rattle.es_resolution.proofs.AllForms.{All, AllAmong, AllBy, AllIn}
use Rattle.es_steps.specs.Nodes.{identifier}
use Rattle.es_helper_calls.specs.HelperCalls.{calling, calling_among, calling_by, calling_here, calling_in, helper_of, helpers_among, helpers_in, helpers_in_field, helpers_in_fields, own_helper, used_helper}
use Rattle.es_helper_calls.specs.Laws.{HaveNames}
use Rattle.es_helper_calls.proofs.CalledTrees.{Calls, CallsAll, CallsBy, CallsHere, CallsIn}
use Rattle.es_helper_calls.proofs.CalledTrees.Calls.{becomes}
use Rattle.es_helper_calls.proofs.CalledTrees.CallsAll.{next, none}
use Rattle.es_helper_calls.proofs.CalledTrees.CallsBy.{at_many, at_none, at_one, at_statements}
use Rattle.es_helper_calls.proofs.CalledTrees.CallsHere.{calls, passes, stays}
use Rattle.es_helper_calls.proofs.CalledTrees.CallsIn.{ends, goes}
use Rattle.es_helper_calls.proofs.Callees.{IsUse, handed-some, here-called, here-passed, use-shape}
use Rattle.es_helper_calls.proofs.Callees.IsUse.{a_call, a_pass}

abbrev pub named_by : (Helper → Bound) → Helper → Tree
named_by c h = identifier (c h)

-- NAMES of some helpers, of those before others, and of those

module _ (T : Bound → Type 0) (c : Helper → Bound) where
  pub names-first : (gs hs : List Helper) → HaveNames T c (gs ++ hs) → HaveNames T c gs
  names-first [] hs a = tt
  names-first (g ∷ gs) hs a = (a.0, names-first gs hs a.1)

  names-second : (gs hs : List Helper) → HaveNames T c (gs ++ hs) → HaveNames T c hs
  names-second [] hs a = a
  names-second (g ∷ gs) hs a = names-second gs hs a.1

-- Where Q is known of each node, T of each name, and so P of a helper and its name.
module _ (Q : AstType → Label → Fields → Type 0) (T : Bound → Type 0) (P : Tree → Bound → Type 0) (way : (f : Tree) (b : Bound) (h : Helper) → helper_of f ≡ Some h → All Q f → T b → P f b) (c : Helper → Bound) where
  by-use : (h : Helper) (k : AstType) (l : Label) (fs : Fields) → IsUse h k l fs → AllIn Q fs → CallsIn P fs (calling_in (named_by c) fs) → T (c h) → CallsHere P k l fs (calling_here (named_by c) (Some h) (calling_in (named_by c) fs))
  by-use h _ l _ (a_call {f = f} {fs = fs} mark it) q (goes first rest) a = subst (λ (gs : Fields). CallsHere P CallExpression l (one f then fs) gs) (sym (here-called (named_by c) f fs h it)) (calls (c h) (way f (c h) h it q.0 a) mark it rest)
  by-use h _ l _ (a_pass {f = f} {t = t} {fs = fs} mark other it) q (goes (at_one k) (goes argument rest)) a =
      subst (λ (gs : Fields). CallsHere P CallExpression l (one f then (many (t before empty) then fs)) gs) (sym (here-passed (named_by c) f t fs h other)) (passes (c h) (way t (c h) h (handed-some (helper_of t) h it) q.1.0.0 a) mark other it k rest)

  by-helper : (o : Option Helper) (k : AstType) (l : Label) (fs : Fields) → used_helper k l fs ≡ o → AllIn Q fs → CallsIn P fs (calling_in (named_by c) fs) → HaveNames T c (own_helper o) → CallsHere P k l fs (calling_here (named_by c) o (calling_in (named_by c) fs))
  by-helper None k l fs e q h a = stays h
  by-helper (Some x) k l fs e q h a = by-use x k l fs (use-shape k l fs x e) q h a.0

  mutual
    pub calls-tree : (t : Tree) → All Q t → HaveNames T c (helpers_in t) → Calls P t (calling (named_by c) t)
    calls-tree (node k l fs) q a =
        let own = used_helper k l fs in
        becomes (by-helper own k l fs refl q.1 (calls-in fs q.1 (names-first T c (helpers_in_fields fs) (own_helper own) a)) (names-second T c (helpers_in_fields fs) (own_helper own) a))

    calls-in : (fs : Fields) → AllIn Q fs → HaveNames T c (helpers_in_fields fs) → CallsIn P fs (calling_in (named_by c) fs)
    calls-in done q a = ends
    calls-in (f then fs) q a = goes (calls-by f q.0 (names-first T c (helpers_in_field f) (helpers_in_fields fs) a)) (calls-in fs q.1 (names-second T c (helpers_in_field f) (helpers_in_fields fs) a))

    calls-by : (f : Field) → AllBy Q f → HaveNames T c (helpers_in_field f) → CallsBy P f (calling_by (named_by c) f)
    calls-by missing q a = at_none
    calls-by (one t) q a = at_one (calls-tree t q a)
    calls-by (many ts) q a = at_many (calls-all ts q a)
    calls-by (statements ts) q a = at_statements (calls-all ts q a)

    pub calls-all : (ts : Trees) → AllAmong Q ts → HaveNames T c (helpers_among ts) → CallsAll P ts (calling_among (named_by c) ts)
    calls-all empty q a = none
    calls-all (t before ts) q a = next (calls-tree t q.0 (names-first T c (helpers_in t) (helpers_among ts) a)) (calls-all ts q.1 (names-second T c (helpers_in t) (helpers_among ts) a))

-- WHATEVER IS KNOWN

abbrev pub Anything : AstType → Label → Fields → Type 0
Anything k l fs = Unit {0}

mutual
  pub any-tree : (t : Tree) → All Anything t
  any-tree (node k l fs) = (tt, any-in fs)

  any-in : (fs : Fields) → AllIn Anything fs
  any-in done = tt
  any-in (f then fs) = (any-by f, any-in fs)

  any-by : (f : Field) → AllBy Anything f
  any-by missing = tt
  any-by (one t) = any-tree t
  any-by (many ts) = any-all ts
  any-by (statements ts) = any-all ts

  any-all : (ts : Trees) → AllAmong Anything ts
  any-all empty = tt
  any-all (t before ts) = (any-tree t, any-all ts)

abbrev pub AnyWay : Tree → Bound → Type 0
AnyWay f b = Unit {0}

any-names : (c : Helper → Bound) (hs : List Helper) → HaveNames (λ b. Unit {0}) c hs
any-names c [] = tt
any-names c (h ∷ hs) = (tt, any-names c hs)

-- as far as names count
pub calls-named : (T : Bound → Type 0) (c : Helper → Bound) (t : Tree) → HaveNames T c (helpers_in t) → Calls (λ f b. T b) t (calling (named_by c) t)
calls-named T c t a = calls-tree Anything T (λ f b. T b) (λ f b h it q a. a) c t (any-tree t) a

pub calls-anyhow : (c : Helper → Bound) (t : Tree) → Calls AnyWay t (calling (named_by c) t)
calls-anyhow c t = calls-named (λ b. Unit {0}) c t (any-names c (helpers_in t))
