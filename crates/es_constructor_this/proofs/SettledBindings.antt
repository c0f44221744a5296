-- The statements of the body of a constructor, settled: names keep their bindings, step by step.
use Rattle.std.proofs.Common.{arith, ◌<◌, ◌≡◌, ℕ, suc, refl, sym, ap, subst, ◌∙◌, List, [], ◌∷◌, ◌++◌}
use Rattle.std.specs.Prelude.{Bool, true, false, Option, Some, None, if◌then◌else◌}
use Rattle.es_tree.specs.Tree.{Tree, Label, done, ◌then◌, Field, statements, Trees, ◌before◌}
use Rattle.es_tree.specs.Words.{Text}
use Rattle.es_tree.specs.declared.ast_type.AstType.TheVariants.{FunctionBody}
use Rattle.es_semantic.specs.RolesOf.{reads, role_at}
use Rattle.es_semantic.specs.declared.place.Role.{Role}
use Rattle.es_semantic.specs.declared.place.Role.TheVariants.{Top}
use Rattle.es_resolution.specs.Called.{Called}
use Rattle.es_resolution.specs.Declarations.{Bound, declared, declared_among, declared_by, sought}
use Rattle.es_resolution.specs.Named.{Named}
use Rattle.es_resolution.specs.Resolved.{Place, no_name, place_in, within, within_vars}
use Rattle.es_steps.specs.Open.{Additions, OpenTrees, Pending, finished_trees, is_body}
use Rattle.es_steps.specs.Steps.{Ledger, Site, Steps, TreesStep, Whole, ledger}
use Rattle.es_steps.specs.Steps.Steps.{goes, stays}
use Rattle.es_steps.proofs.FormOpen.{AreProperTrees, opened-trees-proper}
use Rattle.es_steps.proofs.Kept.{Change, Each, IsNew, Kept, KeptAll, Known, Looks, SeesIf, plain}
use Rattle.es_steps.proofs.Kept.Change.{above, below, lexed, sealed}
use Rattle.es_steps.proofs.Nodes.{kept-node}
use Rattle.es_steps.proofs.Opened.{finished-fields, finished-trees}
use Rattle.es_steps.proofs.Same.{as-statements, at-most-once, at-most-sealed, left-fields, right-fields, right-trees, same, same-by, same-in}
use Rattle.es_steps.proofs.Taken.{ListsKept, Outcome, known, none-some, nothing_new, taken-all}
use Rattle.es_constructor_this.specs.SetRows.{Settles, SuperRow, body_with, inside_body}
use Rattle.es_constructor_this.proofs.Moved.{in-body-moved, settling, trees-left}
use Rattle.es_constructor_this.proofs.MovedTexts.{IsSymbol, all-declared, moved-called}
use Rattle.es_constructor_this.proofs.SetForms.{one-known}
use Rattle.es_constructor_this.proofs.SetShapes.{body_list}
use Rattle.es_constructor_this.proofs.SuperBindings.{super-lawful, super-writes}

-- WHAT A STEP KEEPS where it leaves what is known beside, and declares nothing

none-given : (f : ℕ) (bs : List Bound) → Each (λ b. IsNew f f b.symbol) bs → bs ≡ []
none-given f [] h = refl
none-given f (b ∷ bs) h = absurd (at b.symbol h.0)
  where
    at : (o : Option ℕ) → IsNew f f o → ⊥
    at None h = h
    at (Some m) h = let low = h.0 in let high = h.1 in absurd (let no : f < f = omega arith in omega (arith, no))

none-sought : (bs : List Bound) → bs ≡ [] → (y : Text) (o : Option ℕ) → sought bs y ≡ Some o → ⊥
none-sought bs e y o h = none-some o (sym (ap (λ cs. sought cs y) e) ∙ h)

none-seen : (k : Known) (c : Change) (p : Place) → k.given ≡ [] → SeesIf c k p
none-seen k above p e = record { scope = λ y o h. absurd (none-sought k.given e y o h); hoist = λ y o h. absurd (none-sought k.given e y o h) }
none-seen k below p e = record { scope = λ y o h. absurd (none-sought k.given e y o h); hoist = λ y o h. absurd (none-sought k.given e y o h) }
none-seen k lexed p e = λ y o h. absurd (none-sought k.given e y o h)
none-seen k sealed p e = tt

sealed-all : (n : Site) (w : Whole) (p : Pending) (x : Option Bound) (a : Additions) (ts us : Trees) → Outcome (ListsKept n ts us) (ledger w p x a) (ledger w p x a) → ((v : Bool) → declared_among v n.role us ≡ declared_among v n.role ts) → KeptAll (nothing_new w) n.names sealed n.role ts us
sealed-all n w p x a ts us o same =
    let none = none-given w.free_symbol o.given o.range in
    let k = o.kept.bare in
    record {
      lexical = same false;
      hoisted = same true;
      named = k.named;
      scopes = k.scopes;
      new_scopes = λ s ps e. at-most-sealed (nothing_new w) s _ (at-most-once o.change (known o) s _ (k.new_scopes s ps e));
      resolved = λ i q g z v looks d. k.resolved i q (record { scope = g.scope; hoist = g.hoist }) (record { used = z.used; new = λ f y m e. absurd (none-sought o.given none y m e) }) (none-seen (known o) o.change q none) looks d;
    }

-- one change after another
kept-both : (w : Whole) (b : Place) (r : Role) (t u v : Tree) → Kept (nothing_new w) b sealed r t u → Kept (nothing_new w) b sealed r u v → Kept (nothing_new w) b sealed r t v
kept-both w b r t u v h k = record {
  kind = k.kind ∙ h.kind;
  top = λ e. (λ f. absurd (cc f), λ f. absurd (cc f));
  own = k.own ∙ h.own;
  lexical = k.lexical ∙ h.lexical;
  hoisted = k.hoisted ∙ h.hoisted;
  named = k.named;
  scopes = λ s ps e. k.scopes s ps e ∙ h.scopes s ps e;
  new_scopes = k.new_scopes;
  resolved = λ p q g z sees looks d.
      let first = h.resolved p p (record { scope = λ y e. refl; hoist = λ y e. refl }) (λ e. record { used = λ y e. refl; new = λ f y o e. absurd (none-some o e) }) tt looks d in
      k.resolved p q g (λ e. let at = z (sym h.kind ∙ e) in record { used = at.used; new = at.new }) tt (subst (λ (c : Bool). Looks c b p) (sym h.kind) looks) first;
}

-- THE BODY, with its statements as far as they are settled

module _ (n : Site) (w : Whole) (q : Pending) (a : Additions) (b : Bound) (l : Label) (ds : Field) (d : Tree) (ts : Trees) where
  abbrev beside : Ledger
  beside = ledger w q (Some b) a

  abbrev there : Site
  there = inside_body n l ds (d before ts)

  abbrev body : Trees → Tree
  body xs = body_with l ds (d before xs)

  abbrev place_with : Trees → ℕ → Place
  place_with xs = place_in n.names FunctionBody l (role_at n.role FunctionBody l (body_list ds d xs)) (body_list ds d xs)

  record Now (xs : Trees) : Type 0 where
    named : Named w.in_use w.free_symbol n.role (body xs)
    called : Called w.called (body xs)
    declares : (v : Bool) → declared_among v Top xs ≡ declared_among v Top ts
    kept : Kept (nothing_new w) n.names sealed n.role (body ts) (body xs)

  place-there : place_with ts 1 ≡ there.names
  place-there = sym (λ i. place_in n.names FunctionBody l (role_at n.role FunctionBody l (finished-fields (is_body FunctionBody) (body_list ds d ts) i)) (finished-fields (is_body FunctionBody) (body_list ds d ts) i) 1)

  place-same : (xs : Trees) → ((v : Bool) → declared_among v Top xs ≡ declared_among v Top ts) → place_with xs 1 ≡ place_with ts 1
  place-same xs e = λ i. record {
    scope = within (declared_by false reads ds ++ ((declared false Top d ++ e false i) ++ [])) (within_vars n.names.parameters (declared_by true reads ds ++ ((declared true Top d ++ e true i) ++ [])) n.names.scope);
    hoist = λ y. if n.names.parameters y then n.names.scope y else within (declared_by false reads ds ++ ((declared false Top d ++ e false i) ++ [])) (within_vars n.names.parameters (declared_by true reads ds ++ ((declared true Top d ++ e true i) ++ [])) n.names.scope) y;
    parameters = no_name;
  }

  step-kept : IsSymbol w.called b → (xs ys : OpenTrees) → AreProperTrees xs → TreesStep SuperRow there beside xs beside ys → Now (finished_trees xs) → Now (finished_trees ys)
  step-kept symbol xs ys proper h now =
      let old = finished_trees xs in
      let new = finished_trees ys in
      let nothing = nothing_new w in
      let moved = (trees-left (IsSymbol w.called) h (one-known (IsSymbol w.called) b symbol) proper false (λ e f. refl)).moved in
      let roles = role_at n.role FunctionBody l (body_list ds d old) in
      let places = place_with old in
      let same_names : (v : Bool) → declared_among v Top new ≡ declared_among v Top old = (λ v. all-declared old new moved v Top) in
      let outcome = taken-all SuperRow super-lawful super-writes h (now.named.1.1.0.1, now.called.1.1.0.1) in
      let list = subst (λ (p : Place). KeptAll nothing p sealed Top old new) (sym (place-same old now.declares ∙ place-there)) (sealed-all there w q (Some b) a old new outcome same_names) in
      let statement = now.named.1.1.0.0 in
      let whole = as-statements nothing (places 1) sealed Top (d before old) (d before new) (right-trees nothing (places 1) sealed Top d old new statement (same (plain nothing) (places 1) Top d statement) list) in
      let rest = left-fields nothing (λ i. places (suc i)) sealed (λ i. roles (suc i)) (statements (d before old)) (statements (d before new)) done tt whole (same-in (plain nothing) (λ i. places (suc (suc i))) (λ i. roles (suc (suc i))) done tt) in
      let fields = right-fields nothing places sealed roles ds (statements (d before old) then done) (statements (d before new) then done) now.named.1.0 (same-by (plain nothing) (places 0) (roles 0) ds now.named.1.0) rest in
      let step = kept-node nothing n.names sealed n.role FunctionBody l (body_list ds d old) (body_list ds d new) now.named.0 now.named.1 fields in
      record {
        named = step.named;
        called = moved-called w.called (body old) (body new) (in-body-moved l ds d moved) now.called;
        declares = λ v. same_names v ∙ now.declares v;
        kept = kept-both w n.names n.role (body ts) (body old) (body new) now.kept step;
      }

  all-kept : IsSymbol w.called b → {s s' : Ledger} {xs ys : OpenTrees} → Steps (TreesStep SuperRow there) s xs s' ys → s ≡ beside → AreProperTrees xs → Now (finished_trees xs) → Now (finished_trees ys)
  all-kept symbol stays e proper now = now
  all-kept symbol (goes {s' = m} {t = xs} {u = ys} h rest) e proper now =
      let here = subst (λ (z : Ledger). TreesStep SuperRow there z xs m ys) e h in
      let r = trees-left (IsSymbol w.called) here (one-known (IsSymbol w.called) b symbol) proper false (λ f g. refl) in
      all-kept symbol rest r.same_ledger r.proper (step-kept symbol xs ys proper (subst (λ (z : Ledger). TreesStep SuperRow there beside xs z ys) r.same_ledger here) now)

  pub settled-kept : (us : Trees) → IsSymbol w.called b → Settles there beside ts us → Named w.in_use w.free_symbol n.role (body ts) → Called w.called (body ts) → Kept (nothing_new w) n.names sealed n.role (body ts) (body us)
  settled-kept us symbol h used called =
      let start : Now ts = record { named = used; called = called; declares = λ v. refl; kept = same (nothing_new w) n.names n.role (body ts) used } in
      let ends = all-kept symbol (settling h) refl (opened-trees-proper ts) (subst (λ (xs : Trees). Now xs) (sym (finished-trees ts)) start) in
      (subst (λ (xs : Trees). Now xs) (finished-trees us) ends).kept
