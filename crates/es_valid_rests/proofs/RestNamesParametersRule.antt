-- Patterns with an object rest that move out of parameters: what stands in the function keeps the rules of declared names, and so do the
-- programs that steps of the rule leave.
use Rattle.std.proofs.Common.{◌≡◌, ℕ, refl, sym, subst, ◌∙◌, List, [], ◌∷◌, ◌++◌}
use Rattle.std.specs.Prelude.{Bool, true, false, ◌&&◌, Option, codes}
use Rattle.std.proofs.lemmas.Bool.{and_parts}
use Rattle.es_tree.specs.Ancestors.{Ancestor, scopes}
use Rattle.es_tree.specs.DeclaredNames.{Name}
use Rattle.es_tree.specs.Fresh.{IsFreshName}
use Rattle.es_tree.specs.HasForm.{has_form, trees_form}
use Rattle.es_tree.specs.Tree.{Tree, node, Label, Fields, done, ◌then◌, Field, one, many, Trees, ◌before◌}
use Rattle.es_tree.specs.Words.{Text}
use Rattle.es_tree.specs.declared.ast_type.AstType.{AstType}
use Rattle.es_tree.specs.declared.ast_type.AstType.TheVariants.{ArrowFunctionExpression, FunctionBody, FunctionDeclaration, FunctionExpression, ObjectPattern}
use Rattle.es_tree.specs.declared.table.Sort.{Sort}
use Rattle.es_tree.specs.declared.table.Sort.TheVariants.{ArrowFunctionBody as s-ArrowFunctionBody, Directive as s-Directive, Expression as s-Expression, FunctionBody as s-FunctionBody, Pattern as s-Pattern, PatternRest as s-PatternRest, Statement as s-Statement}
use Rattle.es_tree.proofs.NodeForm.{node_form}
use Rattle.es_semantic.proofs.FormEdges.{EdgesAll, edges-inside}
use Rattle.es_resolution.specs.Declarations.{Bound}
use Rattle.es_steps.specs.Open.{Additions, Pending}
use Rattle.es_steps.specs.ParameterPatterns.{HoldsPattern, IsFunctionName, MovesParameter, ParameterRest, body_fields}
use Rattle.es_steps.specs.ParameterPatterns.HoldsPattern.{alone, with_default}
use Rattle.es_steps.specs.ParameterPatterns.IsFunctionName.{nameless, named}
use Rattle.es_steps.specs.ParameterPatterns.MovesParameter.{moves_one}
use Rattle.es_steps.specs.ParameterPatterns.ParameterRest.{in_declaration, in_expression, in_arrow}
use Rattle.es_steps.specs.Patterns.{let_statement}
use Rattle.es_steps.specs.Rules.{next_name, with_made}
use Rattle.es_steps.specs.Slots.{is_slot}
use Rattle.es_steps.specs.Steps.{Ledger, Site, Whole, ledger}
use Rattle.es_steps.specs.Steps.Spot.{at_node}
use Rattle.es_steps.proofs.FormRules.{no-names}
use Rattle.es_steps.proofs.RuleLaws.{used-after}
use Rattle.es_steps.proofs.Temporaries.{AreTaken}
use Rattle.es_valid_names.proofs.Claims.{Around, Clear, ClearAll, Distinct, above, claims, claims_all, claims_by, elsewhere, is_owned}
use Rattle.es_valid_names.proofs.ClearRules.{NameLawful, NewNames, NodeKept, taken-new, use_in}
use Rattle.es_valid_names.proofs.Grown.{Grown, grown-self}
use Rattle.es_valid_names.proofs.MoreAround.{Allows, clear-more, clear-more-all, clear-more-by}
use Rattle.es_valid_names.proofs.Mute.{Sealed, edges, sealed-boundary, sealed-field, stands}
use Rattle.es_valid_using.proofs.UsingVars.{sealed-function}
use Rattle.es_valid_rests.proofs.RestFormsMoved.{parameter-form}
use Rattle.es_valid_rests.proofs.RestNamesBinding.{Declares, bound-table, bound_inside, has_part, pair, part-binds}
use Rattle.es_valid_rests.proofs.RestNamesParameters.{function-distinct}
use Rattle.es_valid_rests.proofs.RestNamesRules.{GoodLawful, named-good}
use Rattle.es_valid_rests.proofs.RestNamesTaken.{clear-joined, clear-parts}

-- WHAT IS AROUND sees no name of the parameters and of the body

sealed-lists : (us vs : List Ancestor) → Sealed us → Sealed vs → (ps : Trees) (b : Tree) → claims_all is_owned us ps ++ (claims is_owned vs b ++ []) ≡ []
sealed-lists us vs h k ps b = λ i. sealed-field us (many ps) h i ++ (sealed-field vs (one b) k i ++ [])

same-grown : (used used' : Text → Bool) (fs gs hs : List (List Name)) → gs ≡ [] → hs ≡ [] → Grown used used' (fs ++ gs) (fs ++ hs)
same-grown used used' fs gs hs e d = subst (λ (ks : List (List Name)). Grown used used' (fs ++ ks) (fs ++ hs)) (sym e) (subst (λ (ks : List (List Name)). Grown used used' (fs ++ []) (fs ++ ks)) (sym d) (grown-self (fs ++ [])))

-- after what declares nothing
without-first : (used used' : Text → Bool) (fs gs hs : List (List Name)) → fs ≡ [] → (Distinct used [] gs → Distinct used' [] hs) → Distinct used [] (fs ++ gs) → Distinct used' [] (fs ++ hs)
without-first used used' fs gs hs e h d = subst (λ (ks : List (List Name)). Distinct used' [] (ks ++ hs)) (sym e) (h (subst (λ (ks : List (List Name)). Distinct used [] (ks ++ gs)) e d))

-- WHAT STANDS IN IT

record HeldClear (d : Around) (p u : Tree) : Type 0 where
  pattern : Clear d elsewhere p
  left : Clear d elsewhere u

held-clear : (d : Around) (b : Bound) (l : Label) (ps : Fields) (t u : Tree) → HoldsPattern b (node ObjectPattern l ps) t u → Clear d elsewhere t → HeldClear d (node ObjectPattern l ps) u
held-clear d b l ps t u alone h = record { pattern = h; left = (tt, refl, tt) }
held-clear d b l ps t u (with_default silent) h = record { pattern = h.2.0; left = (tt, refl, ((tt, refl, tt), (h.2.1.0, tt))) }

record FunctionClear (d : Around) (qs : Trees) (b : Tree) : Type 0 where
  parameters : ClearAll d elsewhere qs
  body : Clear d elsewhere b

function-clear : (d : Around) (w : Whole) (x : Text) (l : Label) (ps qs ds ts us : Trees) → MovesParameter w x ps qs ds ts us → ClearAll d elsewhere ps → Clear d elsewhere (node FunctionBody l (body_fields ds ts)) → FunctionClear d qs (node FunctionBody l (body_fields ds us))
function-clear d w x l ps qs ds' ts us (moves_one a c ds es rest lp pf t u holds moved held may) h k =
    let b = next_name w x in
    let p : Tree = node ObjectPattern lp pf in
    let parts = clear-parts d a (t before c) h in
    let it = held-clear d b lp pf t u held parts.1.0 in
    let inside = clear-parts d es rest k.2.1.0 in
    let declares : Clear d elsewhere (let_statement p b) = (tt, refl, (((tt, refl, (it.pattern, ((tt, refl, tt), tt))), tt), tt)) in
    record {
      parameters = clear-joined d a (u before c) parts.0 (it.left, parts.1.1);
      body = (tt, refl, (k.2.0, (clear-joined d es (let_statement p b before rest) inside.0 (declares, inside.1), tt)));
    }

-- FORM

record BodyForm (ds ts : Trees) : Type 0 where
  directives : trees_form s-Directive s-Directive ds ≡ true
  listed : trees_form s-Statement s-Statement ts ≡ true

body-form : (s : Sort) (l : Label) (ds ts : Trees) → has_form s (node FunctionBody l (body_fields ds ts)) ≡ true → BodyForm ds ts
body-form s l ds ts h =
    let parts = and_parts (trees_form s-Directive s-Directive ds) (trees_form s-Statement s-Statement ts && true) (node_form s FunctionBody l (body_fields ds ts) h).children in
    record { directives = parts.0; listed = (and_parts (trees_form s-Statement s-Statement ts) true parts.1).0 }

last-form : (s : Sort) (ps : Trees) (l : Label) (ds ts : Trees) → (trees_form s-Pattern s-PatternRest ps && (has_form s (node FunctionBody l (body_fields ds ts)) && true)) ≡ true → BodyForm ds ts
last-form s ps l ds ts h = body-form s l ds ts (and_parts (has_form s (node FunctionBody l (body_fields ds ts))) true (and_parts (trees_form s-Pattern s-PatternRest ps) _ h).1).0

-- FUNCTIONS AND ARROWS

module _ (w : Whole) (x : Text) (fresh : IsFreshName w.in_use (codes "ref") x) (o : Option Bound) (q : Pending) (y : Additions) (m l : Label) (ps qs ds ts us' : Trees) (moved : MovesParameter w x ps qs ds ts us') where
  abbrev before_it : Ledger
  before_it = ledger w q o y

  abbrev after_it : Ledger
  after_it = ledger (with_made (next_name w x ∷ []) w) q o y

  abbrev old_body : Tree
  old_body = node FunctionBody l (body_fields ds ts)

  abbrev new_body : Tree
  new_body = node FunctionBody l (body_fields ds us')

  taken : AreTaken w.in_use w.free_symbol (next_name w x ∷ [])
  taken = ((fresh.free, refl), tt)

  unused : (used : Text → Bool) → used ≡ w.in_use → used x ≡ false
  unused used e = (λ i. e i x) ∙ (taken-new w (next_name w x ∷ []) taken).0.0

  in-use : (used : Text → Bool) → used ≡ use_in after_it → used x ≡ true
  in-use used e = (λ i. e i x) ∙ (taken-new w (next_name w x ∷ []) taken).0.1

  new-names : NewNames before_it after_it
  new-names = record { names = []; pending = no-names q; this = refl; top = refl; fresh = tt; more = λ z g. used-after (next_name w x ∷ []) w.in_use z g }

  abbrev old_lists : List Ancestor → List Ancestor → List (List Name)
  old_lists us vs = claims_all is_owned us ps ++ (claims is_owned vs old_body ++ [])

  abbrev new_lists : List Ancestor → List Ancestor → List (List Name)
  new_lists us vs = claims_all is_owned us qs ++ (claims is_owned vs new_body ++ [])

  -- a function that isn't looked at, where others declare its name
  same-outside : (us vs : List Ancestor) → Sealed us → Sealed vs → (fs : List (List Name)) → Grown (use_in before_it) (use_in after_it) (fs ++ old_lists us vs) (fs ++ new_lists us vs)
  same-outside us vs h k fs = same-grown (use_in before_it) (use_in after_it) fs (old_lists us vs) (new_lists us vs) (sealed-lists us vs h k ps old_body) (sealed-lists us vs h k qs new_body)

  -- one that is
  record Looked (us vs : List Ancestor) (c d : Around) : Type 0 where
    apart : Distinct c.used [] (old_lists us vs) → Distinct d.used [] (new_lists us vs)
    parameters : ClearAll d elsewhere qs
    body : Clear d elsewhere new_body

  looked : (us vs : List Ancestor) → Declares us pair → scopes vs ≡ 1 ∷ [] → (k : AstType) (i : ℕ) → has_part k i ≡ true → EdgesAll stands k i ps → EdgesAll bound_inside k i ps → BodyForm ds ts → (c d : Around) → c.used ≡ w.in_use → d.used ≡ use_in after_it → Allows c d → ClearAll c elsewhere ps → Clear c elsewhere old_body → Looked us vs c d
  looked us vs declares scoped k i part stand bind inside c d e g more params last =
      let kept = function-clear d w x l ps qs ds ts us' moved (clear-more-all c d more elsewhere ps params) (clear-more c d more elsewhere old_body last) in
      record {
        apart = function-distinct w x us vs declares scoped k i (λ j h. part-binds k i part false j h) l c.used d.used more.used (unused c.used e) (in-use d.used g) ps qs ds ts us' moved stand bind inside.directives inside.listed;
        parameters = kept.parameters;
        body = kept.body;
      }

  -- with a name or none
  abbrev with_name : Field → Trees → Tree → Fields
  with_name f rs b = f then many rs then one b then done

  declaration-unnamed : (f : Field) → IsFunctionName f → claims_by is_owned (above FunctionDeclaration m (with_name f ps old_body) 0 1 ∷ []) f ≡ []
  declaration-unnamed f nameless = refl
  declaration-unnamed f named = refl

  declaration-kept : (a : Sort) (f : Field) → IsFunctionName f → has_form a (node FunctionDeclaration m (with_name f ps old_body)) ≡ true → NodeKept before_it after_it (node FunctionDeclaration m (with_name f ps old_body)) (node FunctionDeclaration m (with_name f qs new_body))
  declaration-kept a f called formed =
      let old = with_name f ps old_body in
      let inside = last-form s-FunctionBody ps l ds ts (and_parts _ _ (node_form a FunctionDeclaration m old formed).children).1 in
      record {
        grown = λ up. same-outside (above FunctionDeclaration m old 1 0 ∷ up) (above FunctionDeclaration m old 2 0 ∷ up) (sealed-function m old 0 up) (sealed-function m old 1 up) (claims_by is_owned (above FunctionDeclaration m old 0 0 ∷ up) f);
        clear = λ c d e g more st k.
            let r = looked (above FunctionDeclaration m old 1 1 ∷ []) (above FunctionDeclaration m old 2 1 ∷ []) (record { bound = λ z. refl }) refl FunctionDeclaration 1 refl (edges a FunctionDeclaration m old formed).1.0 (edges-inside bound_inside bound-table a FunctionDeclaration m old formed).1.0 inside c d e g more k.2.1.0 k.2.1.1.0 in
            (without-first c.used d.used _ _ _ (declaration-unnamed f called) r.apart k.0, k.1, (clear-more-by c d more elsewhere f k.2.0, (r.parameters, (r.body, tt))));
        name = refl;
        key = λ z. z;
        imports = refl;
        inside = refl;
        names = new-names;
      }

  expression-unnamed : (f : Field) → IsFunctionName f → claims_by is_owned (above FunctionExpression m (with_name f ps old_body) 0 1 ∷ []) f ≡ []
  expression-unnamed f nameless = refl
  expression-unnamed f named = refl

  expression-kept : (a : Sort) (f : Field) → IsFunctionName f → has_form a (node FunctionExpression m (with_name f ps old_body)) ≡ true → NodeKept before_it after_it (node FunctionExpression m (with_name f ps old_body)) (node FunctionExpression m (with_name f qs new_body))
  expression-kept a f called formed =
      let old = with_name f ps old_body in
      let inside = last-form s-FunctionBody ps l ds ts (and_parts _ _ (node_form a FunctionExpression m old formed).children).1 in
      record {
        grown = λ up. same-outside (above FunctionExpression m old 1 0 ∷ up) (above FunctionExpression m old 2 0 ∷ up) (sealed-boundary FunctionExpression m old 1 up refl refl) (sealed-boundary FunctionExpression m old 2 up refl refl) (claims_by is_owned (above FunctionExpression m old 0 0 ∷ up) f);
        clear = λ c d e g more st k.
            let r = looked (above FunctionExpression m old 1 1 ∷ []) (above FunctionExpression m old 2 1 ∷ []) (record { bound = λ z. refl }) refl FunctionExpression 1 refl (edges a FunctionExpression m old formed).1.0 (edges-inside bound_inside bound-table a FunctionExpression m old formed).1.0 inside c d e g more k.2.1.0 k.2.1.1.0 in
            (without-first c.used d.used _ _ _ (expression-unnamed f called) r.apart k.0, k.1, (clear-more-by c d more elsewhere f k.2.0, (r.parameters, (r.body, tt))));
        name = refl;
        key = λ z. z;
        imports = refl;
        inside = refl;
        names = new-names;
      }

  abbrev bare : Trees → Tree → Fields
  bare rs b = many rs then one b then done

  arrow-kept : (a : Sort) → has_form a (node ArrowFunctionExpression m (bare ps old_body)) ≡ true → NodeKept before_it after_it (node ArrowFunctionExpression m (bare ps old_body)) (node ArrowFunctionExpression m (bare qs new_body))
  arrow-kept a formed =
      let old = bare ps old_body in
      let inside = last-form s-ArrowFunctionBody ps l ds ts (node_form a ArrowFunctionExpression m old formed).children in
      record {
        grown = λ up. same-outside (above ArrowFunctionExpression m old 0 0 ∷ up) (above ArrowFunctionExpression m old 1 0 ∷ up) (sealed-boundary ArrowFunctionExpression m old 0 up refl refl) (sealed-boundary ArrowFunctionExpression m old 1 up refl refl) [];
        clear = λ c d e g more st k.
            let r = looked (above ArrowFunctionExpression m old 0 1 ∷ []) (above ArrowFunctionExpression m old 1 1 ∷ []) (record { bound = λ z. refl }) refl ArrowFunctionExpression 0 refl (edges a ArrowFunctionExpression m old formed).0 (edges-inside bound_inside bound-table a ArrowFunctionExpression m old formed).0 inside c d e g more k.2.0 k.2.1.0 in
            (r.apart k.0, k.1, (r.parameters, (r.body, tt)));
        name = refl;
        key = λ z. z;
        imports = refl;
        inside = refl;
        names = new-names;
      }

-- THE RULE

parameter-names : NameLawful ParameterRest
parameter-names = record { at_nodes = nodes }
  where
    nodes : (n : Site) (s s' : Ledger) (t u : Tree) (a : Sort) → (is_slot n.above ≡ true → a ≡ s-Expression) → ParameterRest n s (at_node t) s' (at_node u) → has_form a t ≡ true → has_form a u ≡ true → NodeKept s s' t u
    nodes n s s' t u a slot (in_declaration {w = w} {s = o} {q = q} {a = y} {m = m} {l = l} {f = g} {ps = ps} {qs = qs} {ds = ds} {ts = ts} {us = us} {x = x} fresh called moved) f formed = declaration-kept w x fresh o q y m l ps qs ds ts us moved a g called f
    nodes n s s' t u a slot (in_expression {w = w} {s = o} {q = q} {a = y} {m = m} {l = l} {f = g} {ps = ps} {qs = qs} {ds = ds} {ts = ts} {us = us} {x = x} fresh called moved) f formed = expression-kept w x fresh o q y m l ps qs ds ts us moved a g called f
    nodes n s s' t u a slot (in_arrow {w = w} {s = o} {q = q} {a = y} {m = m} {l = l} {ps = ps} {qs = qs} {ds = ds} {ts = ts} {us = us} {x = x} fresh moved) f formed = arrow-kept w x fresh o q y m l ps qs ds ts us moved a f

pub parameter-good : GoodLawful ParameterRest
parameter-good = named-good ParameterRest parameter-form parameter-names
