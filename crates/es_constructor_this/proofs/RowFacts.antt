-- The rows act on nodes, and leave what is known beside. The row of a body asks of the site what stands above, and its statements, as they are settled, ask
-- there for the name, which is in use. In the body of an arrow that is an expression a body stands inside functions alone, so that the expression stays
-- one; and a call that is followed stays one, too.
use Rattle.std.proofs.Common.{◌≡◌, ◌∙◌, ℕ, suc, zero, refl, sym, ap, subst, [], ◌++◌, inl, inr}
use Rattle.std.specs.Prelude.{Bool, true, false, Some, if◌then◌else◌}
use Rattle.es_tree.specs.Ancestors.{stands_in}
use Rattle.es_tree.specs.Tree.{Tree, Fields, Label, Trees, done, node, statements, ◌before◌, ◌then◌, kind_of}
use Rattle.es_tree.specs.declared.ast_type.AstType.{AstType}
use Rattle.es_tree.specs.declared.ast_type.AstType.TheVariants.{BlockStatement, ChainExpression, FunctionBody, SwitchCase}
use Rattle.es_resolution.specs.Declarations.{Bound, declared, declared_by, declared_in, is_var_scope, own_declared, reaches_out}
use Rattle.es_resolution.specs.Resolved.{place_in}
use Rattle.es_semantic.specs.RolesOf.{role_at}
use Rattle.es_semantic.specs.declared.place.Role.{Role}
use Rattle.es_steps.specs.ObjectRest.{the_whole}
use Rattle.es_steps.specs.Open.{Open, finished_fields, is_body, is_import, opened, opened_fields}
use Rattle.es_steps.specs.Sites.{AreAlike, IsLocal}
use Rattle.es_steps.specs.Steps.{Ledger, Site, Spot, Step, Steps, Whole, ledger}
use Rattle.es_steps.specs.Steps.Spot.{at_node}
use Rattle.es_steps.specs.Steps.Steps.{goes, stays}
use Rattle.es_steps.proofs.FormOpen.{IsProper, opened-proper}
use Rattle.es_steps.proofs.FormRules.{AtNodes}
use Rattle.es_steps.proofs.LocalSteps.{steps-local}
use Rattle.es_steps.proofs.Sites.{alike-in, site-inwards}
use Rattle.es_steps.proofs.Taken.{pending_in}
use Rattle.es_using_rows.proofs.UsedQuiet.{IsQuiet}
use Rattle.es_using_rows.proofs.UsedRows.{Kept}
use Rattle.es_set_this.specs.ConstructorThis.{without_value}
use Rattle.es_constructor_this.specs.SetRows.{Finds, Settles, SetRow, SuperRow, inside_body, is_constructor_body}
use Rattle.es_constructor_this.specs.SetRows.Settles.{ended, settled}
use Rattle.es_constructor_this.specs.SetRows.SetRow.{sets, settles}
use Rattle.es_constructor_this.specs.SetRows.SuperRow.{after_call, in_block, in_case}
use Rattle.es_constructor_this.proofs.Moved.{step-left}
use Rattle.es_constructor_this.proofs.MovedTexts.{then-declared}
use Rattle.es_constructor_this.proofs.SetShapes.{body_list, set-only}
pub use Rattle.es_constructor_this.proofs.SetShapes.{super-only}

-- INSIDE A STATEMENT

pub super-same : (n : Site) (s s' : Ledger) (x y : Spot) → SuperRow n s x s' y → pending_in s' ≡ pending_in s
super-same n s s' x y (after_call b l fs role calls chain finds) = refl
super-same n s s' x y (in_block b l ts us p finds) = refl
super-same n s s' x y (in_case b l f ts us p finds) = refl

-- the name is found in a field as well where the site is alike
found-in : (n m : Site) (w : Whole) (b : Bound) (k : AstType) (l : Label) (fs : Fields) (i : ℕ) → AreAlike w.in_use n m → Finds w b (place_in n.names k l (role_at n.role k l fs) fs i) → Finds w b (place_in m.names k l (role_at m.role k l fs) fs i)
found-in n m w b k l fs i alike finds =
    let same = (site-inwards w.in_use n m alike k l fs i).scope b.name finds.used in
    record { symbol = finds.symbol; has = finds.has; found = same ∙ finds.found; called = finds.called; below = finds.below; used = finds.used }

pub super-local : IsLocal (λ s. (the_whole s).in_use) SuperRow
super-local n m s s' x y alike (after_call b l fs role calls chain finds) =
    after_call b l fs (alike.role ∙ role) calls (ap (λ up. stands_in ChainExpression 0 up) alike.above ∙ chain) (record { symbol = finds.symbol; has = finds.has; found = alike.scope b.name finds.used ∙ finds.found; called = finds.called; below = finds.below; used = finds.used })
super-local n m s s' x y alike (in_block {w = w} b l ts us p finds) = in_block b l ts us p (found-in n m w b BlockStatement l (statements ts then done) 0 alike finds)
super-local n m s s' x y alike (in_case {w = w} b l f ts us p finds) = in_case b l f ts us p (found-in n m w b SwitchCase l (f then statements ts then done) 1 alike finds)

-- what stays of an expression in which a row acts
pub record StaysOne (t u : Tree) : Type 0 where
  pub quiet : IsQuiet (opened u)
  pub scope : is_var_scope (kind_of u) ≡ is_var_scope (kind_of t)
  pub imports : is_import u ≡ is_import t
  pub declares : (v : Bool) (r : Role) → declared v r u ≡ declared v r t

pub super-kept : (n : Site) (s s' : Ledger) (t u : Tree) → SuperRow n s (at_node t) s' (at_node u) → IsQuiet (opened t) → StaysOne t u
super-kept n s s' t u (after_call b l fs role calls chain finds) quiet = record {
  quiet = inr (refl, ((quiet, (inr (refl, (inr (refl, tt), (inr (refl, tt), tt))), tt)), tt));
  scope = refl;
  imports = refl;
  declares = λ v r. then-declared v r b l fs;
}
super-kept n s s' t u (in_block b l ts us p finds) (inl e) = absurd (cc e)
super-kept n s s' t u (in_block b l ts us p finds) (inr quiet) = absurd (cc quiet.0)
super-kept n s s' t u (in_case b l f ts us p finds) (inl e) = absurd (cc e)
super-kept n s s' t u (in_case b l f ts us p finds) (inr quiet) = absurd quiet.1.1.0

-- THE BODY

pub row-only : (n : Site) (s s' : Ledger) (x y : Spot) → SetRow n s x s' y → AtNodes x y
row-only = set-only

pub row-same : (n : Site) (s s' : Ledger) (x y : Spot) → SetRow n s x s' y → pending_in s' ≡ pending_in s
row-same n s s' x y (settles b l ds d ts us here first h) = refl
row-same n s s' x y (sets b l ds d ts us here apart first p) = refl

module _ (n m : Site) (s : Ledger) (alike : AreAlike (the_whole s).in_use n m) where
  steps-alike : {r r' : Ledger} {t u : Open} → Steps (Step SuperRow n) r t r' u → r ≡ s → IsProper t → Steps (Step SuperRow m) r t r' u
  steps-alike stays e proper = stays
  steps-alike (goes {s = r} {s' = r'} {t = t} {u = u} h rest) e proper =
      let left = step-left (λ b. Unit {0}) h (λ b e. tt) proper false (λ e d. refl) in
      let there = subst (λ (z : Ledger). AreAlike (the_whole z).in_use n m) (sym e) alike in
      goes ((steps-local (λ w. w.in_use) SuperRow super-local).step n m r r' t u there h) (steps-alike rest (left.same_ledger ∙ e) left.proper)

  settles-alike : {ts us : Trees} → Settles n s ts us → Settles m s ts us
  settles-alike ended = ended
  settles-alike (settled {t = t} h rest) = settled (steps-alike h refl (opened-proper t)) (settles-alike rest)

pub row-local : IsLocal (λ s. (the_whole s).in_use) SetRow
row-local n m s s' x y alike (settles {w = w} {q = q} {a = a} b l ds d ts us here first h) =
    let inside = alike-in w.in_use n m alike FunctionBody l (opened_fields (is_body FunctionBody) (body_list ds d ts)) 1 in
    settles b l ds d ts us (ap is_constructor_body alike.above ∙ here) first (settles-alike (inside_body n l ds (d before ts)) (inside_body m l ds (d before ts)) (ledger w q (Some b) a) inside h)
row-local n m s s' x y alike (sets b l ds d ts us here apart first p) = sets b l ds d ts us (ap is_constructor_body alike.above ∙ here) apart first p

-- WHAT IS DECLARED around a body is none of the matter inside it

none-counts : (v : Bool) (counts : ℕ → Bool) (roles : ℕ → Role) (fs : Fields) → ((i : ℕ) → counts i ≡ false) → declared_in v counts roles fs ≡ []
none-counts v counts roles done e = refl
none-counts v counts roles (f then fs) e = λ i. (if e zero i then declared_by v (roles zero) f else []) ++ none-counts v (λ j. counts (suc j)) (λ j. roles (suc j)) fs (λ j. e (suc j)) i

body-counts : (v : Bool) (i : ℕ) → reaches_out v FunctionBody i ≡ false
body-counts true i = refl
body-counts false i = refl

body-declares : (v : Bool) (r : Role) (l : Label) (fs gs : Fields) → declared v r (node FunctionBody l gs) ≡ declared v r (node FunctionBody l fs)
body-declares v r l fs gs =
    ap (λ ds. own_declared v r FunctionBody l ++ ds)
    (none-counts v (reaches_out v FunctionBody) (role_at r FunctionBody l gs) gs (body-counts v) ∙ sym (none-counts v (reaches_out v FunctionBody) (role_at r FunctionBody l fs) fs (body-counts v)))

body-kept : (l : Label) (fs gs : Fields) → Kept (opened (node FunctionBody l fs)) (opened (node FunctionBody l gs))
body-kept l fs gs = record {
  quiet = inl refl;
  kind = refl;
  declares = λ v r. body-declares v r l (finished_fields (opened_fields (is_body FunctionBody) fs)) (finished_fields (opened_fields (is_body FunctionBody) gs));
}

pub row-kept : (n : Site) (s s' : Ledger) (t u : Tree) → SetRow n s (at_node t) s' (at_node u) → IsQuiet (opened t) → Kept (opened t) (opened u)
row-kept n s s' t u (settles b l ds d ts us here first h) quiet = body-kept l (body_list ds d ts) (body_list ds d us)
row-kept n s s' t u (sets b l ds d ts us here apart first p) quiet = body-kept l (body_list ds d ts) (body_list ds (without_value d) us)
