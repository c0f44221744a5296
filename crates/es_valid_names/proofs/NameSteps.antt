-- Steps of rules break no rule of declared names.
use Rattle.std.proofs.Common.{◌≡◌, ◌≤◌, ◌<◌, ◌+◌, ℕ, inl, inr, refl, sym, ap, subst, ◌∙◌, List, [], ◌∷◌, ◌++◌, filter, map, cond, arith}
use Rattle.std.specs.Prelude.{◌⊎◌, Bool, true, false, not, ◌&&◌, ◌||◌}
use Rattle.std.specs.List.{list_all, list_any}
use Rattle.es_tree.specs.Ancestors.{Visit, visits, visits_in_fields}
use Rattle.std.proofs.lemmas.Bool.{cases_lt}
use Rattle.es_tree.specs.CoreStaticRules.{Break}
use Rattle.es_tree.specs.DeclaredNames.{Name, clashes, declared, is_declared, is_same_name}
use Rattle.es_tree.specs.HasForm.{has_form, same_type}
use Rattle.es_tree.specs.StaticRules.{all_names, breaks_after, breaks_at, declared_by, has_clash, is_bad_class, is_bad_export, is_binding_space, is_broken, is_class_space, is_export_space}
use Rattle.es_tree.specs.Tree.{Tree, node, Label, Fields, kind_of, label_of, tree_size}
use Rattle.es_tree.specs.Words.{Text}
use Rattle.es_tree.specs.declared.ast_type.AstType.{AstType}
use Rattle.es_tree.specs.declared.ast_type.AstType.TheVariants.{Program}
use Rattle.es_tree.specs.declared.error.Rule.{Rule}
use Rattle.es_tree.specs.declared.error.Rule.TheVariants.{BadClass, DuplicateName}
use Rattle.es_tree.specs.declared.place.Namespace.{Namespace}
use Rattle.es_tree.specs.declared.place.Namespace.TheVariants.{Exports, Scope}
use Rattle.es_tree.specs.declared.table.Sort.TheVariants.{Program as s-Program}
use Rattle.es_tree.proofs.NodeForm.{node_form}
use Rattle.es_steps.specs.Open.{Open, finished, finished_fields, is_body}
use Rattle.es_steps.specs.Steps.{Ledger, Site, Spot, the_program, Step}
use Rattle.es_steps.specs.Steps.Step.{acts, inside}
use Rattle.es_steps.proofs.FormOpen.{IsProper}
use Rattle.es_steps.proofs.FormRules.{FormLawful}
use Rattle.es_steps.proofs.FormSteps.{formed-after}
use Rattle.es_steps.proofs.Opened.{finished-opened}
use Rattle.es_valid_steps.proofs.FieldForms.{arrow-first, node-have}
use Rattle.es_valid_names.specs.Laws.{declared_breaks, keeps_exports, declared_rules, name_breaks, name_rules}
use Rattle.es_valid_names.proofs.Breaks.{Locals, tree-from, tree-to, own-groups, declared-none, fields-none}
use Rattle.es_valid_names.proofs.Claims.{Around, Clear, Distinct, elsewhere, joined, outside, owned, push}
use Rattle.es_valid_names.proofs.ClearRules.{NameLawful, use_in}
use Rattle.es_valid_names.proofs.ClearSteps.{fields-after, in-node, inside-grown}
use Rattle.es_valid_names.proofs.Grown.{left-none, or-none, right-none}
use Rattle.es_valid_names.proofs.MoreAround.{Allows, grown-any}
use Rattle.es_valid_names.proofs.Mute.{class-edges}
use Rattle.es_valid_names.proofs.Owners.{Apart, ApartInside, EachUsed, found-groups, from-distinct, hits_inside, only}
use Rattle.es_valid_names.proofs.StandsFit.{fits-root}
use Rattle.es_valid_names.proofs.Visited.{groups, inner-edges}

-- LISTS OF BROKEN RULES

none-first : {X : Type 0} (xs ys : List X) → xs ++ ys ≡ [] → xs ≡ []
none-first [] ys e = refl
none-first (x ∷ xs) ys e = absurd (cc e)

none-second : {X : Type 0} (xs ys : List X) → xs ++ ys ≡ [] → ys ≡ []
none-second [] ys e = e
none-second (x ∷ xs) ys e = absurd (cc e)

none-mapped : {X Y : Type 0} (f : X → Y) (xs : List X) → map f xs ≡ [] → xs ≡ []
none-mapped f [] e = refl
none-mapped f (x ∷ xs) e = absurd (cc e)

abbrev NoneOf : (Rule → Bool) → List Rule → Type 0
NoneOf P [] = Unit {0}
NoneOf P (r ∷ rs) = (P r ≡ false) × NoneOf P rs

to-none : (P : Rule → Bool) (rs : List Rule) → filter P rs ≡ [] → NoneOf P rs
to-none P [] e = tt
to-none P (r ∷ rs) e = let q = at (P r) e in (q.0, to-none P rs q.1)
  where
    at : (b : Bool) → cond b (r ∷ filter P rs) (filter P rs) ≡ [] → (b ≡ false) × (filter P rs ≡ [])
    at true e = absurd (cc e)
    at false e = (refl, e)

-- each of the three sorts of namespaces
any-space : (es : List Name) (ns : List Name) → has_clash is_binding_space es ns ≡ false → has_clash is_export_space es ns ≡ false → has_clash is_class_space es ns ≡ false → list_any (λ n. clashes es n) ns ≡ false
any-space es [] a b c = refl
any-space es (n ∷ ns) a b c = or-none (clashes es n) _ (at (is_binding_space n.namespace) (is_export_space n.namespace) (clashes es n) (left-none _ (has_clash is_binding_space es ns) a) (left-none _ (has_clash is_export_space es ns) b) (left-none _ (has_clash is_class_space es ns) c)) (any-space es ns (right-none (is_binding_space n.namespace && clashes es n) _ a) (right-none (is_export_space n.namespace && clashes es n) _ b) (right-none (is_class_space n.namespace && clashes es n) _ c))
  where
    at : (x y z : Bool) → (x && z) ≡ false → (y && z) ≡ false → (not (x || y) && z) ≡ false → z ≡ false
    at true y z a b c = a
    at false true z a b c = b
    at false false z a b c = c

inside-binding : (es ns : List Name) → list_any (λ n. hits_inside es n) ns ≡ false → has_clash is_binding_space es ns ≡ false
inside-binding es [] h = refl
inside-binding es (n ∷ ns) h = or-none (is_binding_space n.namespace && clashes es n) _ (at n.namespace (clashes es n) (left-none (hits_inside es n) _ h)) (inside-binding es ns (right-none (hits_inside es n) _ h))
  where
    at : (k : Namespace) (z : Bool) → (not (is_export_space k) && z) ≡ false → (is_binding_space k && z) ≡ false
    at Exports z e = refl
    at Scope z e = e
    at k true e = absurd (cc e)
    at k false e = refl

inside-class : (es ns : List Name) → list_any (λ n. hits_inside es n) ns ≡ false → has_clash is_class_space es ns ≡ false
inside-class es [] h = refl
inside-class es (n ∷ ns) h = or-none (is_class_space n.namespace && clashes es n) _ (at (is_binding_space n.namespace) (is_export_space n.namespace) (clashes es n) (left-none (hits_inside es n) _ h)) (inside-class es ns (right-none (hits_inside es n) _ h))
  where
    at : (x y z : Bool) → (not y && z) ≡ false → (not (x || y) && z) ≡ false
    at x true z e = none x z
      where
        none : (x z : Bool) → (not (x || true) && z) ≡ false
        none true z = refl
        none false z = refl
    at true false z e = refl
    at false false z e = e

abbrev broken : Visit → Rule → Break
broken v r = (r, (label_of v.tree).id)

record Starts (V vs : List Visit) (es : List Name) : Type 0 where
  apart : Apart 0 es vs
  local : Locals V vs

to-starts : (V vs : List Visit) (es : List Name) → breaks_after declared_rules (declared_by V []) es vs ≡ [] → Starts V vs es
to-starts V [] es e = record { apart = tt; local = tt }
to-starts V (v ∷ vs) es e =
    let all = declared_by V [] in
    let d = declared v.ancestors v.tree in
    let kept = to-none (is_broken all es v.ancestors v.tree) declared_rules (none-mapped (broken v) (filter (is_broken all es v.ancestors v.tree) declared_rules) (none-first (breaks_at declared_rules all es v) (breaks_after declared_rules all (d ++ es) vs) e)) in
    let rest = to-starts V vs (d ++ es) (none-second (breaks_at declared_rules all es v) (breaks_after declared_rules all (d ++ es) vs) e) in
    let exports = kept.1.0 in
    let classes = kept.1.1.0 in
    record {
      apart = (any-space es d kept.0 (left-none (has_clash is_export_space es d) (is_bad_export all v.ancestors v.tree) exports) (left-none (has_clash is_class_space es d) (is_bad_class all v.ancestors v.tree) classes), rest.apart);
      local = (or-none (is_bad_export all v.ancestors v.tree) (is_bad_class all v.ancestors v.tree) (right-none (has_clash is_export_space es d) (is_bad_export all v.ancestors v.tree) exports) (right-none (has_clash is_class_space es d) (is_bad_class all v.ancestors v.tree) classes), rest.local);
    }

no-break : (all es : List Name) (v : Visit) → is_broken all es v.ancestors v.tree DuplicateName ≡ false → is_broken all es v.ancestors v.tree BadClass ≡ false → breaks_at name_rules all es v ≡ []
no-break all es v e d = at (is_broken all es v.ancestors v.tree DuplicateName) (is_broken all es v.ancestors v.tree BadClass) e d
  where
    at : (a b : Bool) → a ≡ false → b ≡ false → map (broken v) (cond a (DuplicateName ∷ cond b (BadClass ∷ []) []) (cond b (BadClass ∷ []) [])) ≡ []
    at true b e d = absurd (cc e)
    at false true e d = absurd (cc d)
    at false false e d = refl

from-starts : (V vs : List Visit) (es : List Name) → ApartInside es vs → Locals V vs → breaks_after name_rules (declared_by V []) es vs ≡ []
from-starts V [] es h k = refl
from-starts V (v ∷ vs) es h k =
    let all = declared_by V [] in
    let d = declared v.ancestors v.tree in
    let here = no-break all es v (inside-binding es d h.0) (or-none (has_clash is_class_space es d) (is_bad_class all v.ancestors v.tree) (inside-class es d h.0) (right-none (is_bad_export all v.ancestors v.tree) (is_bad_class all v.ancestors v.tree) k.0)) in
    (λ i. here i ++ breaks_after name_rules all (d ++ es) vs) ∙ from-starts V vs (d ++ es) h.1 k.1

-- A PROGRAM

abbrev visited : Tree → List Visit
visited t = visits [] 0 t

-- around a program these names are in use, and its top declares what it does
abbrev pub around : (Text → Bool) → Tree → Around
around used t = record { used = used; privates = λ x. false; top = λ x. is_declared (all_names t) Scope 0 x }

pub start-clear : (used : Text → Bool) (t : Tree) → has_form s-Program t ≡ true → declared_breaks t ≡ [] → EachUsed 0 used (visited t) → Clear (around used t) elsewhere t
start-clear used (node k l fs) f e u =
    let s = to-starts (visited (node k l fs)) (visited (node k l fs)) [] e in
    tree-to (visited (node k l fs)) (around used (node k l fs)) elsewhere [] 0 (node k l fs) fits-root tt (λ x. refl) (λ x. refl) (λ d. refl) (inner-edges s-Program k l fs f) (λ j a b. refl) s.apart s.local u

exports-kept : (V vs : List Visit) → Locals V vs → list_all (λ v. not (is_bad_export (declared_by V []) v.ancestors v.tree)) vs ≡ true
exports-kept V [] h = refl
exports-kept V (v ∷ vs) h = λ i. not (left-none (is_bad_export (declared_by V []) v.ancestors v.tree) (is_bad_class (declared_by V []) v.ancestors v.tree) h.0 i) && exports-kept V vs h.1 i

pub clear-exports : (used : Text → Bool) (t : Tree) → has_form s-Program t ≡ true → Clear (around used t) elsewhere t → keeps_exports t ≡ true
clear-exports used (node k l fs) f c =
    let V = visited (node k l fs) in
    exports-kept V V (tree-from V (around used (node k l fs)) elsewhere [] 0 (node k l fs) fits-root tt (λ x. refl) (λ x. refl) (λ d. refl) (inner-edges s-Program k l fs f) (class-edges s-Program k l fs f) (λ j a b. refl) c).local

pub clear-breaks : (used : Text → Bool) (t : Tree) → has_form s-Program t ≡ true → Clear (around used t) elsewhere t → name_breaks t ≡ []
clear-breaks used (node k l fs) f c =
    let V = visited (node k l fs) in
    let kept = tree-from V (around used (node k l fs)) elsewhere [] 0 (node k l fs) fits-root tt (λ x. refl) (λ x. refl) (λ d. refl) (inner-edges s-Program k l fs f) (class-edges s-Program k l fs f) (λ j a b. refl) c in
    from-starts V V [] (from-distinct used [] V (λ m. inside-range m (cases_lt m (tree_size (node k l fs))) kept.distinct)) kept.local
  where
    inside-range : (m : ℕ) → (m < tree_size (node k l fs)) ⊎ (tree_size (node k l fs) ≤ m) → ((m : ℕ) → 0 ≤ m → m < 0 + tree_size (node k l fs) → Distinct used [] (groups (only m) (visited (node k l fs)))) → Distinct used [] (groups (only m) (visited (node k l fs)))
    inside-range m (inl a) h = h m (omega arith) (omega arith)
    inside-range m (inr a) h = subst (λ (gs : List (List Name)). Distinct used [] gs) (sym (program-none m a)) tt
      where
        program-none : (m : ℕ) → tree_size (node k l fs) ≤ m → groups (only m) (visited (node k l fs)) ≡ []
        program-none m a = (λ i. push (declared-none m [] tt (node k l fs) i) (groups (only m) (visits_in_fields [] k l fs 0 0 1 fs))) ∙ fields-none m k l fs 0 0 1 [] fs tt (λ e. absurd (omega arith)) (inner-edges s-Program k l fs f) (λ j b d e. absurd (omega arith))

-- ONE STEP

-- what the top of a program declares is in its own namespaces
pub top-says : (k : AstType) (l : Label) (fs : Fields) → has_form s-Program (node k l fs) ≡ true → (x : Text) → is_declared (all_names (node k l fs)) Scope 0 x ≡ list_any (is_same_name Scope 1 x) (joined (owned elsewhere k l fs) [])
top-says k l fs f x = found-groups 0 Scope x refl (visited (node k l fs)) [] [] refl ∙ ap (λ gs. list_any (is_same_name Scope 1 x) (joined gs [])) (own-groups elsewhere [] 0 k l fs fits-root tt (λ d. refl) (inner-edges s-Program k l fs f))

pub record Good (s : Ledger) (x : Open) : Type 0 where
  pub proper : IsProper x
  pub formed : has_form s-Program (finished x) ≡ true
  pub clear : Clear (around (use_in s) (finished x)) elsewhere (finished x)

no-program-sort : (t : Tree) → has_form s-Program t ≡ true → same_type (kind_of t) Program ≡ true
no-program-sort (node k l fs) f = at (same_type k Program) (node_form s-Program k l fs f).sort
  where
    at : (b : Bool) → (b || false) ≡ true → b ≡ true
    at true e = refl
    at false e = e

module _ (R : Site → Ledger → Spot → Ledger → Spot → Type 0) (form : FormLawful R) (law : NameLawful R) where
  pub one-step : {s s' : Ledger} {t u : Open} → Step R the_program s t s' u → Good s t → Good s' u
  one-step (acts {s = s} {s' = s'} t u h) g =
      let formed = subst (λ (x : Tree). has_form s-Program x ≡ true) (finished-opened t) g.formed in
      let r = law.at_nodes the_program s s' t u s-Program (λ e. absurd (cc e)) h formed (form.at_nodes the_program s s' t u s-Program (λ e. absurd (cc e)) h formed).formed in
      absurd (cc (r.inside, no-program-sort t formed))
  one-step (inside {s = s} {s' = s'} {k = k} {l = l} {fs = fs} {gs = gs} h) g =
      let next = formed-after R form (inside {n = the_program} h) s-Program (λ e. absurd (cc e)) g.proper g.formed in
      let r = fields-after R form law h k (is_body k) 0 (arrow-first k) g.proper (node-have the_program s-Program k l fs g.formed) in
      let old = finished_fields fs in
      let new = finished_fields gs in
      let kept = in-node s s' k l old new r in
      let grown = inside-grown s s' k l old new r (outside elsewhere k) 1 in
      let allows : Allows (around (use_in s) (node k l old)) (around (use_in s') (node k l new)) = record { used = r.names.more; privates = λ x e. e; top = λ x e. top-says k l new next.formed x ∙ grown-any (is_same_name Scope 1 x) grown [] [] (λ d. d) (sym (top-says k l old g.formed x) ∙ e) } in
      record { proper = next.proper; formed = next.formed; clear = kept.clear (around (use_in s) (node k l old)) (around (use_in s') (node k l new)) refl refl allows elsewhere g.clear }
