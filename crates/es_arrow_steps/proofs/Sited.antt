-- Where the name that is pending for `this` is found: at each site of its target.
use Rattle.std.proofs.Common.{◌≡◌, ℕ, inl, inr, refl, sym, subst, ◌∙◌, List, [], ◌∷◌}
use Rattle.std.proofs.lemmas.Bool.{and_parts, or_cases}
use Rattle.std.specs.Prelude.{◌⊎◌, Bool, true, false, ◌&&◌, ◌==◌, not, Option, Some, None, if◌then◌else◌, codes}
use Rattle.es_tree.specs.Ancestors.{Ancestor, ancestor, stands_in}
use Rattle.es_tree.specs.HasForm.{same_type}
use Rattle.es_tree.specs.Tree.{Tree, Fields, Label, Trees, empty, ◌before◌, node, trees}
use Rattle.es_tree.specs.declared.ast_type.AstType.{AstType}
use Rattle.es_tree.specs.declared.ast_type.AstType.TheVariants.{ArrowFunctionExpression, FunctionBody, Program, StaticBlock}
use Rattle.es_tree.proofs.CoreBreaks.{same_kind}
use Rattle.es_semantic.specs.Places.{is_inside}
use Rattle.es_semantic.specs.RolesOf.{reads, role_at}
use Rattle.es_semantic.specs.declared.place.Role.{Role}
use Rattle.es_resolution.specs.Declarations.{Bound, has_scope, is_var_scope}
use Rattle.es_resolution.specs.Resolved.{Place, Resolved, ResolvedAll, place_in}
use Rattle.es_steps.specs.Identifiers.{is_called}
use Rattle.es_steps.specs.Nodes.{joined_trees, made}
use Rattle.es_steps.specs.Open.{Additions, OpenFields, Pending, after_imports, body_with, declaration, finished_fields, flanks_with, is_import, pending_statements, whole_list}
use Rattle.es_steps.specs.Steps.{IsExpression, Site, Whole, body_fields, is_program_list, is_target, names_in_body, outline, site_in}
use Rattle.es_steps.proofs.Bodies.{body-named, moved}
use Rattle.es_steps.proofs.Lists.{whole-named}
use Rattle.es_steps.proofs.Passing.{body-passes, flanks-pass, whole-passes}
use Rattle.es_steps.proofs.Taken.{nothing_new}
use Rattle.es_steps.proofs.Written.{named-joined, resolved-parts}
use Rattle.es_arrow_steps.proofs.Declared.{Good, GoodAll, frames-call, hoist-own, scope-own}
use Rattle.es_arrow_steps.proofs.OwnNames.{IsOwn, IsOwnThis}

-- the name that is pending is one symbol's alone, and is found from here
abbrev pub Finds : Whole → Option Bound → Place → Type 0
Finds w None p = Unit {0}
Finds w (Some b) p = IsOwn w b × (p.scope b.name ≡ b.symbol)

-- whether the list of a target stands here
abbrev pub IsTargetList : List Ancestor → Type 0
IsTargetList up = (is_target up ≡ true) ⊎ (is_program_list up ≡ true)

-- the name that is declared by `var` at the list of a target is found there
abbrev pub Meets : Whole → Site → Type 0
Meets w n = (b : Bound) → IsOwn w b → IsTargetList n.above → n.names.hoist b.name ≡ b.symbol → n.names.scope b.name ≡ b.symbol

pub record Fits (w : Whole) (x : Option Bound) (n : Site) : Type 0 where
  pub this : Finds w x n.names
  pub meets : Meets w n

-- INWARDS

record IsBody (k : AstType) (i : ℕ) : Type 0 where
  var : is_var_scope k ≡ true
  inside : (has_scope k && is_inside k i) ≡ true

body-kind : (j k : AstType) (i : ℕ) → IsBody k i → same_type j k ≡ true → IsBody j i
body-kind j k i h e = subst (λ (z : AstType). IsBody z i) (sym (same_kind j k e)) h

list-body : (k : AstType) (l : Label) (fs : Fields) (i : ℕ) (up : List Ancestor) → IsTargetList (ancestor k l fs i 0 ∷ up) → IsBody k i
list-body k l fs i up (inl e) = at (or_cases (same_type k StaticBlock && i == 0) ((same_type k FunctionBody && i == 1) && not (stands_in ArrowFunctionExpression 1 up)) e)
  where
    at : ((same_type k StaticBlock && i == 0) ≡ true) ⊎ (((same_type k FunctionBody && i == 1) && not (stands_in ArrowFunctionExpression 1 up)) ≡ true) → IsBody k i
    at (inl d) = body-kind k StaticBlock i (record { var = refl; inside = refl }) (and_parts (same_type k StaticBlock) (i == 0) d).0
    at (inr d) = body-kind k FunctionBody i (record { var = refl; inside = refl }) (and_parts (same_type k FunctionBody) (i == 1) (and_parts (same_type k FunctionBody && i == 1) (not (stands_in ArrowFunctionExpression 1 up)) d).0).0
list-body k l fs i up (inr e) = body-kind k Program i (record { var = refl; inside = refl }) (and_parts (same_type k Program) (i == 1) e).0

module _ (w : Whole) where
  -- in each field of a node
  found-inside : (x : Option Bound) (r : Role) (p : Place) (k : AstType) (l : Label) (fs : Fields) → Good w r p (node k l fs) → Finds w x p → (i : ℕ) → Finds w x (place_in p k l (role_at r k l fs) fs i)
  found-inside None r p k l fs good h i = tt
  found-inside (Some b) r p k l fs good h i = (h.0, scope-own w b h.0 p k l (role_at r k l fs) fs (frames-call w r p k l fs good) (h.1 ∙ h.0.has) i ∙ sym h.0.has)

  pub fits-inside : (x : Option Bound) (n : Site) (k : AstType) (l : Label) (fs : OpenFields) → Good w n.role n.names (node k l (finished_fields fs)) → Finds w x n.names → (i : ℕ) → Fits w x (site_in n k l fs i)
  fits-inside x n k l fs good h i = record {
    this = found-inside x n.role n.names k l (finished_fields fs) good h i;
    meets = λ b o listed e. let body = list-body k l (outline fs) i n.above listed in hoist-own w b o n.names k l (role_at n.role k l (finished_fields fs)) (finished_fields fs) (frames-call w n.role n.names k l (finished_fields fs) good) body.var i body.inside (e ∙ o.has) ∙ sym o.has;
  }

  -- LISTS

  resolved-after : (r : Role) (p : Place) (bs ts : Trees) → ResolvedAll r p (after_imports bs ts) → ResolvedAll r p bs × ResolvedAll r p ts
  resolved-after r p bs empty h = (h, tt)
  resolved-after r p bs (t before ts) h = at (is_import t) (λ k. resolved-after r p bs ts k) h
    where
      at : (v : Bool) → (ResolvedAll r p (after_imports bs ts) → ResolvedAll r p bs × ResolvedAll r p ts) → ResolvedAll r p (if v then t before after_imports bs ts else joined_trees bs (t before ts)) → ResolvedAll r p bs × ResolvedAll r p (t before ts)
      at true rest k = let m = rest k.1 in (m.0, (k.0, m.1))
      at false rest k = resolved-parts r p bs (t before ts) k

  resolved-rest : (r : Role) (p : Place) (kind : List ℕ) (ds : List Tree) (ts : Trees) → ResolvedAll r p (declaration kind ds ts) → ResolvedAll r p ts
  resolved-rest r p kind [] ts h = h
  resolved-rest r p kind (d ∷ ds) ts h = h.1

  pub list-good : (r : Role) (p : Place) (q : Pending) (x : Option Bound) (a : Additions) (ts : Trees) → GoodAll w r p (whole_list q x a ts) → GoodAll w r p ts
  list-good r p q x a ts h = ((resolved-after r p (pending_statements q x a) ts h.0).1, whole-named w.in_use w.free_symbol r q x a ts h.1, (whole-passes (is_called w.called) q x a ts h.2).1)

  -- what is pending for `this` stands in the finished list
  this-hoisted : (r : Role) (p : Place) (q : Pending) (b : Bound) (a : Additions) (ts : Trees) → ResolvedAll r p (whole_list q (Some b) a ts) → p.hoist b.name ≡ b.symbol
  this-hoisted r p q b a ts h = sym (resolved-rest r p (codes "const") a.excluded _ (resolved-after r p (pending_statements q (Some b) a) ts h).0).0.2.0.0.2.0.0.0

  pub found-list : (n : Site) (q : Pending) (x : Option Bound) (a : Additions) (ts : Trees) → Meets w n → IsTargetList n.above → ResolvedAll n.role n.names (whole_list q x a ts) → IsOwnThis w x → Finds w x n.names
  found-list n q None a ts meets listed h own = tt
  found-list n q (Some b) a ts meets listed h own = (own, meets b own listed (this-hoisted n.role n.names q b a ts h))

  pub flanked-good : (r : Role) (p : Place) (bs cs : List Tree) (t : Tree) (ts : Trees) → GoodAll w r p (flanks_with bs t cs ts) → Good w r p t × GoodAll w r p ts
  flanked-good r p bs cs t ts h =
      let resolved = (resolved-parts r p (trees bs) (t before joined_trees (trees cs) ts) h.0).1 in
      let named = (named-joined w.in_use w.free_symbol r (trees bs) (t before joined_trees (trees cs) ts) h.1).1 in
      let passes = (flanks-pass (is_called w.called) bs cs t ts h.2).1 in
      ((resolved.0, named.0, passes.0), ((resolved-parts r p (trees cs) ts resolved.1).1, (named-joined w.in_use w.free_symbol r (trees cs) ts named.1).1, passes.1))

  -- BODIES OF ARROWS

  body-resolved : (p : Place) (vs ls : List Tree) (e : Tree) → IsExpression e → Good w reads p (body_with vs ls e) → Resolved reads (names_in_body p vs ls e) e
  body-resolved p [] [] e x h = moved (nothing_new w) p p.hoist (names_in_body p [] [] e).parameters p.scope e (λ y. refl) h.1 x h.0
  body-resolved p [] (d ∷ ls) e x h = h.0.2.1.0.1.0.2.0
  body-resolved p (v ∷ vs) ls e x h = (resolved-rest _ _ (codes "let") ls _ h.0.2.1.0.1).0.2.0

  pub body-good : (p : Place) (vs ls : List Tree) (e : Tree) → IsExpression e → Good w reads p (body_with vs ls e) → Good w reads (names_in_body p vs ls e) e
  body-good p vs ls e x h = (body-resolved p vs ls e x h, body-named w.in_use w.free_symbol vs ls e h.1, (body-passes (is_called w.called) vs ls e h.2).1)

  pub found-body : (x : Option Bound) (p : Place) (vs ls : List Tree) (e : Tree) → Good w reads p (body_with vs ls e) → Finds w x p → Finds w x (names_in_body p vs ls e)
  found-body None p vs ls e good h = tt
  found-body (Some b) p [] [] e good h = h
  found-body (Some b) p [] (d ∷ ls) e good h = found-inside (Some b) reads p FunctionBody (made [] []) (body_fields [] (d ∷ ls) e) good h 1
  found-body (Some b) p (v ∷ vs) ls e good h = found-inside (Some b) reads p FunctionBody (made [] []) (body_fields (v ∷ vs) ls e) good h 1
