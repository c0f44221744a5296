-- What a visit counts on: a program that was read opens as one, and has room for ids.
use Rattle.std.proofs.Common.{◌≡◌, ◌<◌, ◌^◌, ◌∷◌, [], List, refl, sym, subst, ap, arith, length, true≢false}
use Rattle.std.proofs.lemmas.Bool.{and_parts}
use Rattle.std.specs.Prelude.{true, false, ◌&&◌}
use Rattle.es_tree.specs.Arity.{Fits, list, statement_list}
use Rattle.es_tree.specs.Attributes.{child_entries}
use Rattle.es_tree.specs.HasForm.{elements_form, elements_of, fields_form, has_form, is_of_sort, match_option, trees_form}
use Rattle.es_tree.specs.Tree.{Tree, node, Label, Fields, done, ◌then◌, missing, one, many, statements, tree_size}
use Rattle.es_tree.specs.declared.ast_type.AstType.{AstType}
use Rattle.es_tree.specs.declared.ast_type.AstType.TheVariants.{Program}
use Rattle.es_tree.specs.declared.table.Sort.TheVariants.{Directive as s-Directive, Program as s-Program, Statement as s-Statement}
use Rattle.es_tree.proofs.NodeForm.{node_form}
use Rattle.es_statements.specs.ProgramArity.{IsProgram}
use Rattle.es_steps.specs.Open.{Pending, nothing_pending}
use Rattle.es_changes.specs.Changes.{HasRoom, lists_weight}
use Rattle.es_changes.specs.Moments.{Moment}
use Rattle.es_traverse.specs.Laws.{CanVisit}
use Rattle.es_traverse.specs.Loads.{load}
use Rattle.es_traverse.proofs.LoadParts.{load-size}
use Rattle.es_traverse.proofs.NothingAsked.{nothing-asked-sound}
use Rattle.traverse_tests.specs.Quiet.{quiet}

abbrev ChildrenForm : AstType → Label → Fields → Type 0
ChildrenForm k l fs = match_option (elements_of (child_entries k)) (fields_form k l (child_entries k) fs) (λ p. elements_form p.sort p.last fs) ≡ true

-- the directives, and the statements
shape : (l : Label) (fs : Fields) → fields_form Program l (child_entries Program) fs ≡ true → Fits (list ∷ statement_list ∷ []) fs
shape l (many ds then (statements body then done)) h = (tt, (tt, tt))
shape l (many ds then (statements body then (g then fs))) h = absurd (cc (and_parts (trees_form s-Statement s-Statement body) false (and_parts (trees_form s-Directive s-Directive ds) (trees_form s-Statement s-Statement body && false) h).1).1)
shape l (many ds then done) h = absurd (cc (and_parts (trees_form s-Directive s-Directive ds) false h).1)
shape l (many ds then (missing then fs)) h = absurd (cc (and_parts (trees_form s-Directive s-Directive ds) false h).1)
shape l (many ds then (one t then fs)) h = absurd (cc (and_parts (trees_form s-Directive s-Directive ds) false h).1)
shape l (many ds then (many ts then fs)) h = absurd (cc (and_parts (trees_form s-Directive s-Directive ds) false h).1)
shape l done h = absurd (cc h)
shape l (missing then fs) h = absurd (cc h)
shape l (one t then fs) h = absurd (cc h)
shape l (statements ts then fs) h = absurd (cc h)

pub opens : (p : Tree) → has_form s-Program p ≡ true → IsProgram p
opens (node k l fs) h = at k (node_form s-Program k l fs h).sort (node_form s-Program k l fs h).children
  where
    at : (k : AstType) → is_of_sort s-Program k ≡ true → ChildrenForm k l fs → IsProgram (node k l fs)
    at Program sort children = record { kind = refl; arity = shape l fs children }
    at _ sort children = absurd (cc sort)

-- ROOM, where the pair of the program is open

pub some_pair : (a : Moment) → a.lists ≡ nothing_pending ∷ [] → 0 < length a.lists
some_pair a lists = subst (λ ps. 0 < length ps) (sym lists) (omega arith)

pub room : (p q : Tree) (a : Moment) → q ≡ p → a.lists ≡ nothing_pending ∷ [] → a.next ≡ tree_size p → tree_size p < 2 ^ 20 → HasRoom a (load q)
room p q a same lists next small = let light : lists_weight a.lists ≡ 0 = ap lists_weight lists in let w = load-size p in let e = ap load same in omega (arith, light, w, e, next, small)

-- THE TYPE, which keeps the pairs and asks nothing of nodes

pub can : {S : Type 0} (pending : S → List Pending) → CanVisit pending true quiet
can pending = record { pairs = λ s e. absurd (true≢false e); sound = nothing-asked-sound; counts = λ n t. refl; leaves = λ n t. refl }
