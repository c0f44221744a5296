-- The hook after the program: what it leaves where the lowering is on, and where it is off.
use Rattle.std.proofs.Common.{◌≡◌, ◌&&◌, refl, sym, ap, subst, inl, inr, true≢false}
use Rattle.std.specs.Prelude.{Bool, true, false}
use Rattle.std.proofs.lemmas.Bool.{and_parts, or_from, or_parts}
use Rattle.es_tree.specs.Constructs.{is_namespace_export}
use Rattle.es_tree.specs.HasForm.{has_form, trees_form}
use Rattle.es_tree.specs.Tree.{Tree, node, Label, Fields, done, ◌then◌, many, statements, Trees}
use Rattle.es_tree.specs.Walks.{any_in_trees}
use Rattle.es_tree.specs.declared.ast_type.AstType.TheVariants.{Program}
use Rattle.es_tree.specs.declared.options.EnvOptions.{EnvOptions}
use Rattle.es_tree.specs.declared.table.Sort.TheVariants.{Program as s-Program, Statement as s-Statement}
use Rattle.es_tree.proofs.NodeForm.{node_form}
use Rattle.es_steps.specs.NamespaceExports.{NamespaceRule}
use Rattle.es_steps.specs.Open.{Pending, children, nothing_pending, opened, opened_trees}
use Rattle.es_steps.specs.Rules.{Writing}
use Rattle.es_steps.specs.Steps.{Ledger, Site, Spot, Step, Steps, the_program}
use Rattle.es_steps.specs.Steps.Steps.{stays}
use Rattle.es_steps.proofs.FormLists.{IsPlain}
use Rattle.es_steps.proofs.Opened.{finished-opened}
use Rattle.es_valid_steps.specs.Laws.{with_further_rules}
use Rattle.es_valid_steps.proofs.FurtherSteps.{law_further_form_proof}
use Rattle.es_changes.specs.Changes.{open_program}
use Rattle.es_changes.specs.Moments.{Moment, ledger_with, top, whole_at}
use Rattle.es_visit.specs.declared.hook.Hook.{Hook}
use Rattle.es_visit.specs.declared.hook.Hook.TheVariants.{Expression, Statement}
use Rattle.es_traverse.specs.declared.site.Site.{Site as CodeSite}
use Rattle.es_traverse.specs.Laws.{EnteredAs, ExitedProgram, body_field, whole_rule}
use Rattle.es_traverse.specs.Listed.{any_among, any_listed}
use Rattle.es_traverse.proofs.NoHooks.{none-listed}
use Rattle.lower_temporaries.proofs.Entered.{on-rule}
use Rattle.lower_namespace_exports.specs.Profile.{namespace_ending, namespace_profile}
use Rattle.lower_namespace_exports.proofs.Formed.{cleared-shown}
use Rattle.lower_namespace_exports.proofs.Rows.{rows}
use Rattle.lower_namespace_exports.proofs.Shown.{Shown, among-shown, none-shown}

abbrev pub ExitedBy : EnvOptions → Moment → Tree → Moment → Tree → Type 0
ExitedBy o a t b u = ExitedProgram (namespace_profile o) (namespace_ending o) false a t b u

-- the form of the statements
list-form : (l : Label) (ds ts : Trees) → has_form s-Program (node Program l (many ds then statements ts then done)) ≡ true → trees_form s-Statement s-Statement ts ≡ true
list-form l ds ts h = (and_parts (trees_form s-Statement s-Statement ts) true (and_parts _ _ (node_form s-Program Program l (many ds then statements ts then done) h).children).1).0

-- WHERE IT IS ON

module _ (o : EnvOptions) (on : o.es2020.export_namespace_from ≡ true) where
  by-ending : (n : Site) (s : Ledger) (x : Spot) (s' : Ledger) (y : Spot) → NamespaceRule n s x s' y → whole_rule (namespace_profile o) (namespace_ending o) n s x s' y
  by-ending n s x s' y h = inr (inl (on-rule NamespaceRule o.es2020.export_namespace_from on n s x s' y h))

  by-writing : (n : Site) (s : Ledger) (x : Spot) (s' : Ledger) (y : Spot) → Writing n s x s' y → whole_rule (namespace_profile o) (namespace_ending o) n s x s' y
  by-writing n s x s' y h = inr (inr h)

  -- by the rules that keep form
  further-ending : (n : Site) (s : Ledger) (x : Spot) (s' : Ledger) (y : Spot) → NamespaceRule n s x s' y → with_further_rules o n s x s' y
  further-ending n s x s' y h = inr (inr (inl (on-rule NamespaceRule o.es2020.export_namespace_from on n s x s' y h)))

  further-writing : (n : Site) (s : Ledger) (x : Spot) (s' : Ledger) (y : Spot) → Writing n s x s' y → with_further_rules o n s x s' y
  further-writing n s x s' y h = inl (inl h)

  module _ (a b : Moment) (l : Label) (ds ts us : Trees) (lists : b.lists ≡ a.lists) (shown : Shown (whole_at a) ts (whole_at b) us) where
    abbrev program : Trees → Tree
    program vs = node Program l (many ds then statements vs then done)

    formed : has_form s-Program (program ts) ≡ true → has_form s-Program (program us) ≡ true
    formed h =
        let row = rows (with_further_rules o) further-ending further-writing l (children (opened_trees ds)) nothing_pending (λ vs. vs) (λ n s s' vs ws d. d) shown (list-form l ds ts h) in
        subst (λ t. has_form s-Program t ≡ true) (finished-opened (program us)) (law_further_form_proof o (program ts) (whole_at a) (whole_at b) (opened (program us)) h row)

    cleared : (b : Bool) → trees_form s-Statement s-Statement ts ≡ true → any_among (λ k m fs. b && is_namespace_export k m fs) us ≡ false
    cleared true h = cleared-shown shown h
    cleared false h = (or_parts _ _ (none-listed (statements us then done))).0

    pub exited-on : ExitedBy o a (program ts) b (program us)
    exited-on = record {
      stepped = λ v. subst (λ (p : Pending). Steps (Step (whole_rule (namespace_profile o) (namespace_ending o)) the_program) (ledger_with nothing_pending a) (open_program (top a.lists) (program ts)) (ledger_with nothing_pending b) (open_program p (program us))) (ap top (sym lists)) (rows (whole_rule (namespace_profile o) (namespace_ending o)) by-ending by-writing l (children (opened_trees ds)) (top a.lists) (λ vs. vs) (λ n s s' vs ws d. d) shown (list-form l ds ts v.formed));
      stays = λ v. record { formed = formed v.formed; plain = subst (λ p. IsPlain p) (ap top (sym lists)) v.plain };
      cleared = λ v. or_from _ _ (cleared o.es2020.export_namespace_from (list-form l ds ts v.formed)) refl;
      finished = λ k. absurd (true≢false (sym k));
      directives = refl;
      none = λ test own h. or_from _ _ (none-shown test own shown (or_parts (any_in_trees test ts) false h).0) refl;
      none_listed = λ test own h. or_from _ _ (among-shown test own shown (or_parts (any_among test ts) false h).0) refl;
    }

-- WHERE IT IS OFF

off-listed : (on : Bool) → on ≡ false → (fs : Fields) → any_listed (λ k l gs. on && is_namespace_export k l gs) fs ≡ false
off-listed true e fs = absurd (true≢false e)
off-listed false e fs = none-listed fs

pub exited-off : (o : EnvOptions) → o.es2020.export_namespace_from ≡ false → (a : Moment) (t : Tree) → ExitedBy o a t a t
exited-off o off a t = record {
  stepped = λ v. stays;
  stays = λ v. v;
  cleared = λ v. off-listed o.es2020.export_namespace_from off (body_field t);
  finished = λ k. absurd (true≢false (sym k));
  directives = refl;
  none = λ test own h. h;
  none_listed = λ test own h. h;
}

-- THE OTHER HOOKS leave all as it is

pub entered-none : (o : EnvOptions) (h : Hook) (c : CodeSite) (a : Moment) (t : Tree) → EnteredAs (namespace_profile o) h c a t a t
entered-none o Expression c a t = record {
  stepped = λ n l f k. stays;
  left = λ n l f k. k;
  cleared = λ n l f k. refl;
  sort = λ g e. inl e;
  body = refl;
  order = inl refl;
}
entered-none o Statement c a t = record {
  stepped = λ n l f k. stays;
  left = λ n l f k. k;
  cleared = λ n l f k. refl;
  sort = λ g e. inl e;
  body = refl;
  order = inl refl;
}
entered-none o _ c a t = record {
  stepped = λ n l f k. stays;
  left = λ n l f k. k;
  cleared = λ n l f k. refl;
  body = refl;
  order = inl refl;
}
