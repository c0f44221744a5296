-- Before a statement: one step for a `debugger;`, and none for another.
use Rattle.std.proofs.Common.{◌≡◌, ◌∙◌, ℕ, Option, [], true, true≢false, refl, sym, ap, subst, inl, inr}
use Rattle.es_tree.specs.HasForm.{fields_form, has_form}
use Rattle.es_tree.specs.Tree.{Tree, node, Label, Fields, done, ◌then◌}
use Rattle.es_tree.specs.Words.{Text}
use Rattle.es_tree.specs.declared.ast_type.AstType.TheVariants.{DebuggerStatement}
use Rattle.es_tree.specs.declared.table.Sort.{Sort}
use Rattle.es_tree.proofs.NodeForm.{node_form}
use Rattle.es_resolution.specs.Seen.{seen}
use Rattle.es_steps.specs.Open.{opened}
use Rattle.es_steps.specs.Steps.{Site, Step, Steps}
use Rattle.es_steps.specs.Steps.Step.{acts}
use Rattle.es_steps.specs.Steps.Steps.{goes, stays}
use Rattle.es_visit.specs.declared.hook.Hook.{Hook}
use Rattle.es_visit.specs.declared.hook.Hook.TheVariants.{Expression, Statement}
use Rattle.es_changes.specs.Fits.{Fits}
use Rattle.es_changes.specs.Moments.{Moment, ledger_at}
use Rattle.es_traverse.specs.Laws.{EnteredAs}
use Rattle.es_traverse.specs.declared.site.Site.{Site as CodeSite}
use Rattle.visit_example.specs.Removals.{Removing, removal, without_debugger}
use Rattle.visit_example.specs.Removals.Removing.{removes}

-- a `debugger;` of a program has no fields
no-fields : (a : Sort) (l : Label) (fs : Fields) → has_form a (node DebuggerStatement l fs) ≡ true → fs ≡ done
no-fields a l fs h = at fs (node_form a DebuggerStatement l fs h).children
  where
    at : (fs : Fields) → fields_form DebuggerStatement l [] fs ≡ true → fs ≡ done
    at done e = refl
    at (f then fs) e = absurd (true≢false (sym e))

removed : (a : Moment) (n : Site) (t : Tree) → Fits a n t → Steps (Step Removing n) (ledger_at a) (opened t) (ledger_at a) (opened (without_debugger t))
removed a n (node DebuggerStatement l fs) fit =
    let none = no-fields fit.sort l fs fit.formed in
    subst (λ gs. Steps (Step Removing n) (ledger_at a) (opened (node DebuggerStatement l gs)) (ledger_at a) (opened (without_debugger (node DebuggerStatement l gs)))) (sym none)
    (goes (acts (node DebuggerStatement l done) (without_debugger (node DebuggerStatement l done)) removes) stays)
removed a n (node _ l fs) fit = stays

entered-removed : (c : CodeSite) (a : Moment) (t : Tree) → EnteredAs removal Statement c a t a (without_debugger t)
entered-removed c a (node DebuggerStatement l fs) = record {
  stepped = λ n tells fit known. removed a n (node DebuggerStatement l fs) fit;
  left = λ n tells fit known. refl;
  cleared = λ n tells fit known. refl;
  sort = λ h e. inl e;
  body = refl;
  order = inr refl;
}
entered-removed c a (node _ l fs) = record {
  stepped = λ n tells fit known. stays;
  left = λ n tells fit known. refl;
  cleared = λ n tells fit known. refl;
  sort = λ h e. inl e;
  body = refl;
  order = inl refl;
}

-- WHAT IS SEEN

seen-without : (names : ℕ → Text → Option ℕ) (t : Tree) → seen names (without_debugger t) ≡ without_debugger (seen names t)
seen-without names (node DebuggerStatement l fs) = refl
seen-without names (node _ l fs) = refl

pub entered-statement : (h : Hook) → h ≡ Statement → (c : CodeSite) (a : Moment) (t u : Tree) (names : ℕ → Text → Option ℕ) → u ≡ without_debugger t → EnteredAs removal h c a (seen names t) a (seen names u)
entered-statement h is c a t u names e =
    subst (λ i. EnteredAs removal i c a (seen names t) a (seen names u)) (sym is)
    (subst (λ v. EnteredAs removal Statement c a (seen names t) a v) (sym (ap (seen names) e ∙ seen-without names t)) (entered-removed c a (seen names t)))

pub entered-other : (h : Hook) → (h ≡ Statement → ⊥) → (c : CodeSite) (a : Moment) (t : Tree) → EnteredAs removal h c a t a t
entered-other Statement other c a t = absurd (other refl)
entered-other Expression other c a t = record { stepped = λ n l f k. stays; left = λ n l f k. k; cleared = λ n l f k. refl; sort = λ h e. inl e; body = refl; order = inl refl }
entered-other _ other c a t = record { stepped = λ n l f k. stays; left = λ n l f k. k; cleared = λ n l f k. refl; body = refl; order = inl refl }
