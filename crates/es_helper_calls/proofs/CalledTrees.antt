-- Trees in which parts of calls give way to names: helpers that are called, or handed on, and lists of texts.
use Rattle.std.proofs.Common.{◌≡◌}
use Rattle.std.specs.Prelude.{true, false, Some, None}
use Rattle.es_tree.specs.Names.{flag_at}
use Rattle.es_tree.specs.Tree.{Tree, node, Label, Fields, done, ◌then◌, Field, missing, one, many, statements, Trees, empty, ◌before◌}
use Rattle.es_tree.specs.declared.ast_type.AstType.{AstType}
use Rattle.es_tree.specs.declared.ast_type.AstType.TheVariants.{CallExpression}
use Rattle.es_tree.specs.declared.helper.Helper.{Helper}
use Rattle.es_resolution.specs.Declarations.{Bound}
use Rattle.es_steps.specs.Nodes.{identifier}
use Rattle.es_helper_calls.specs.HelperCalls.{handed_on, helper_of}
use Rattle.es_helper_calls.specs.TextLists.{is_text_list}

-- a tree, and the same where some parts gave way to names, as P says of each
mutual
  pub data Calls (P : Tree → Bound → Type 0) : Tree → Tree → Type 0 where
    becomes : {k : AstType} {l : Label} {fs gs : Fields} → CallsHere P k l fs gs → Calls P (node k l fs) (node k l gs)

  pub data CallsHere (P : Tree → Bound → Type 0) : AstType → Label → Fields → Fields → Type 0 where
    stays : {k : AstType} {l : Label} {fs gs : Fields} → CallsIn P fs gs → CallsHere P k l fs gs
    calls : {l : Label} {f : Tree} {fs gs : Fields} {h : Helper} (b : Bound) → P f b → flag_at 0 l.flags ≡ false → helper_of f ≡ Some h → CallsIn P fs gs → CallsHere P CallExpression l (one f then fs) (one (identifier b) then gs)
    passes : {l : Label} {f g t : Tree} {fs gs : Fields} {h : Helper} (b : Bound) → P t b → flag_at 0 l.flags ≡ false → helper_of f ≡ None → handed_on (helper_of t) ≡ Some h → Calls P f g → CallsIn P fs gs →
        CallsHere P CallExpression l (one f then (many (t before empty) then fs)) (one g then (many (identifier b before empty) then gs))
    lists : {l : Label} {f g s t ks : Tree} (b : Bound) → P ks b → is_text_list ks ≡ true → Calls P f g → Calls P s t → CallsHere P CallExpression l (one f then (many (s before (ks before empty)) then done)) (one g then (many (t before (identifier b before empty)) then done))

  pub data CallsIn (P : Tree → Bound → Type 0) : Fields → Fields → Type 0 where
    ends : CallsIn P done done
    goes : {f g : Field} {fs gs : Fields} → CallsBy P f g → CallsIn P fs gs → CallsIn P (f then fs) (g then gs)

  pub data CallsBy (P : Tree → Bound → Type 0) : Field → Field → Type 0 where
    at_none : CallsBy P missing missing
    at_one : {t u : Tree} → Calls P t u → CallsBy P (one t) (one u)
    at_many : {ts us : Trees} → CallsAll P ts us → CallsBy P (many ts) (many us)
    at_statements : {ts us : Trees} → CallsAll P ts us → CallsBy P (statements ts) (statements us)

  pub data CallsAll (P : Tree → Bound → Type 0) : Trees → Trees → Type 0 where
    none : CallsAll P empty empty
    next : {t u : Tree} {ts us : Trees} → Calls P t u → CallsAll P ts us → CallsAll P (t before ts) (u before us)

-- where nothing does
module _ (P : Tree → Bound → Type 0) where
  mutual
    pub same-tree : (t : Tree) → Calls P t t
    same-tree (node k l fs) = becomes (stays (same-in fs))

    same-in : (fs : Fields) → CallsIn P fs fs
    same-in done = ends
    same-in (f then fs) = goes (same-by f) (same-in fs)

    same-by : (f : Field) → CallsBy P f f
    same-by missing = at_none
    same-by (one t) = at_one (same-tree t)
    same-by (many ts) = at_many (same-all ts)
    same-by (statements ts) = at_statements (same-all ts)

    pub same-all : (ts : Trees) → CallsAll P ts ts
    same-all empty = none
    same-all (t before ts) = next (same-tree t) (same-all ts)
