-- Patterns with an object rest that move out of parameters: the rules of declared names are kept.
use Rattle.std.proofs.Common.{◌≡◌, ℕ, refl, sym, subst, ◌∙◌, List, [], ◌∷◌, ◌++◌, append-nil}
use Rattle.std.specs.Prelude.{Bool, true, false, ◌&&◌, Some, codes}
use Rattle.std.proofs.lemmas.Bool.{and_parts}
use Rattle.std.proofs.lemmas.List.{append_assoc}
use Rattle.es_tree.specs.Ancestors.{Ancestor, scopes}
use Rattle.es_tree.specs.DeclaredNames.{Name, names_in_scope}
use Rattle.es_tree.specs.HasForm.{trees_form}
use Rattle.es_tree.specs.Tree.{Tree, node, Label, Fields, done, ◌then◌, one, many, Trees, empty, ◌before◌}
use Rattle.es_tree.specs.Words.{Text}
use Rattle.es_tree.specs.declared.ast_type.AstType.{AstType}
use Rattle.es_tree.specs.declared.ast_type.AstType.TheVariants.{AssignmentPattern, FunctionBody, ObjectPattern, VariableDeclaration, VariableDeclarator}
use Rattle.es_tree.specs.declared.table.Sort.TheVariants.{Directive as s-Directive, Statement as s-Statement}
use Rattle.es_semantic.specs.declared.place.Binding.TheVariants.{Parameter}
use Rattle.es_semantic.specs.declared.place.Role.TheVariants.{Binds}
use Rattle.es_semantic.proofs.FormEdges.{EdgeTest, Edges, EdgesAll}
use Rattle.es_resolution.specs.Declarations.{Bound, declared_among}
use Rattle.es_resolution.specs.Resolved.{bound_by}
use Rattle.es_steps.specs.Nodes.{declarator_with, identifier, joined_trees, made}
use Rattle.es_steps.specs.ParameterPatterns.{HoldsPattern, MovesParameter, body_fields, parameter_names}
use Rattle.es_steps.specs.ParameterPatterns.HoldsPattern.{alone, with_default}
use Rattle.es_steps.specs.ParameterPatterns.MovesParameter.{moves_one}
use Rattle.es_steps.specs.Patterns.{let_statement}
use Rattle.es_steps.specs.Rules.{next_name}
use Rattle.es_steps.specs.Steps.{Whole}
use Rattle.es_steps.proofs.Apartness.{declared-avoids, declared-avoids-all}
use Rattle.es_valid_names.proofs.Claims.{Distinct, above, claims, claims_all, is_owned}
use Rattle.es_valid_names.proofs.Mute.{stands}
use Rattle.es_valid_using.proofs.UsingBolder.{is_other}
use Rattle.es_valid_using.proofs.UsingNamesBodies.{all-ok}
use Rattle.es_valid_using.proofs.UsingVars.{AllOk, EachFine}
use Rattle.es_valid_rests.proofs.RestNamesBinding.{Declares, Turned, binding-tree, binding-trees, binds_names, bound_inside, let_name, pair, pair-names, silent-tree}
use Rattle.es_valid_rests.proofs.RestNamesBodies.{body-fine, body-ordinary, body_names, both-ok, differ, differ-back, found-ok}
use Rattle.es_valid_rests.proofs.RestNamesLate.{moved-late}
use Rattle.es_valid_rests.proofs.RestNamesOrdinary.{EachOrdinary}
use Rattle.es_valid_rests.proofs.RestNamesTaken.{joined-lists}

edges-joined : (fits : EdgeTest) (k : AstType) (i : ℕ) (bs ts : Trees) → EdgesAll fits k i (joined_trees bs ts) → EdgesAll fits k i bs × EdgesAll fits k i ts
edges-joined fits k i empty ts h = (tt, h)
edges-joined fits k i (b before bs) ts h = let r = edges-joined fits k i bs ts h.1 in ((h.0, r.0), r.1)

-- A PARAMETER that holds the pattern, and what stays of it

record Held (ok : Text → Bool) (us vs : List Ancestor) (b : Bound) (p t u : Tree) : Type 0 where
  lists : List (List Name)
  old : claims is_owned us t ≡ lists
  moves : Turned ok lists (claims is_owned vs p)
  new : claims is_owned us u ≡ pair b.name ∷ []

held-names : (ok : Text → Bool) (us vs : List Ancestor) → Declares us pair → Declares vs let_name → (b : Bound) (l : Label) (ps : Fields) (t u : Tree) → HoldsPattern b (node ObjectPattern l ps) t u → (k : AstType) (i : ℕ) → Edges stands k i false t → Edges bound_inside k i false t → AllOk ok (parameter_names (node ObjectPattern l ps)) → Held ok us vs b (node ObjectPattern l ps) t u
held-names ok us vs h g b l ps t u alone k i s e o = record {
  lists = claims is_owned us (node ObjectPattern l ps);
  old = refl;
  moves = binding-tree ok us vs (node ObjectPattern l ps) h g refl s.1 e.1 o;
  new = pair-names us h (made (Some b.name ∷ []) []) done tt;
}
held-names ok us vs h g b l ps t u (with_default {l = m} {d = d} silent) k i s e o =
    let p : Tree = node ObjectPattern l ps in
    let whole : Fields = one p then one d then done in
    let left : Fields = one (identifier b) then one d then done in
    record {
      lists = claims is_owned (above AssignmentPattern m whole 0 0 ∷ us) p;
      old = (λ j. claims is_owned (above AssignmentPattern m whole 0 0 ∷ us) p ++ (silent-tree us AssignmentPattern m whole 1 refl refl true d s.1.1.0 e.1.1.0 j ++ [])) ∙ append-nil (claims is_owned (above AssignmentPattern m whole 0 0 ∷ us) p);
      moves = binding-tree ok (above AssignmentPattern m whole 0 0 ∷ us) vs p (record { bound = λ x. h.bound x }) g refl s.1.0.1 e.1.0.1 o;
      new = λ j. pair-names (above AssignmentPattern m left 0 0 ∷ us) (record { bound = λ x. h.bound x }) (made (Some b.name ∷ []) []) done tt j ++ (silent-tree us AssignmentPattern m left 1 refl refl true d s.1.1.0 e.1.1.0 j ++ []);
    }

-- LISTS of the parameters and the body

old-shape : (es gs cs ds bs ts : List (List Name)) → (es ++ (gs ++ cs)) ++ ((ds ++ ((bs ++ ts) ++ [])) ++ []) ≡ es ++ (gs ++ (cs ++ ((ds ++ bs) ++ ts)))
old-shape es gs cs ds bs ts = simp (append-nil, append_assoc) refl

new-shape : (es : List (List Name)) (g : List Name) (cs ds bs hs ts : List (List Name)) → (es ++ (g ∷ cs)) ++ ((ds ++ ((bs ++ ((((hs ++ []) ++ []) ++ []) ++ ts)) ++ [])) ++ []) ≡ es ++ (g ∷ (cs ++ ((ds ++ bs) ++ (hs ++ ts))))
new-shape es g cs ds bs hs ts = simp (append-nil, append_assoc) refl

body-shape : (ds bs ts : List (List Name)) → (ds ++ bs) ++ ts ≡ ds ++ (bs ++ ts)
body-shape ds bs ts = simp append_assoc refl

-- THE FUNCTION that is looked at

module _ (w : Whole) (x : Text) (us vs : List Ancestor) (declares : Declares us pair) (scoped : scopes vs ≡ 1 ∷ []) (k : AstType) (i : ℕ) (takes : (j : AstType) → bound_inside k i false j ≡ true → binds_names j ≡ true) (l : Label) (used used' : Text → Bool) (more : (y : Text) → used y ≡ true → used' y ≡ true) (free : used x ≡ false) (known : used' x ≡ true) where
  pub function-distinct : (ps qs ds ts ts' : Trees) → MovesParameter w x ps qs ds ts ts' → EdgesAll stands k i ps → EdgesAll bound_inside k i ps → trees_form s-Directive s-Directive ds ≡ true → trees_form s-Statement s-Statement ts ≡ true →
      Distinct used [] (claims_all is_owned us ps ++ (claims is_owned vs (node FunctionBody l (body_fields ds ts)) ++ [])) → Distinct used' [] (claims_all is_owned us qs ++ (claims is_owned vs (node FunctionBody l (body_fields ds ts')) ++ []))
  function-distinct ps qs ds' ts ts' (moves_one a c ds es rest lp pf t u holds moved held may) s e directives formed d =
      let b = next_name w x in
      let p : Tree = node ObjectPattern lp pf in
      let all = joined_trees es rest in
      let fs = body_fields ds all in
      let fs' = body_fields ds (joined_trees es (let_statement p b before rest)) in
      let at = above FunctionBody l fs 1 0 ∷ vs in
      let lets = above VariableDeclarator (made [] []) (one p then one (identifier b) then done) 0 0 ∷ (above VariableDeclaration (made (Some (codes "let") ∷ []) []) (many (declarator_with p (identifier b) before empty) then done) 0 0 ∷ at) in
      let lexical : Declares lets let_name = record { bound = λ y j. names_in_scope (scoped j) y true ++ [] } in
      let own = parameter_names p in
      let body = body_names vs scoped l fs ds all directives formed in
      let ok : Text → Bool = λ y. bound_by own y && is_other body y in
      let pattern_ok = both-ok (λ y. bound_by own y) (is_other body) own (found-ok (λ y. bound_by own y) own (λ y q. q)) (all-ok body own (declared-avoids body w.in_use w.free_symbol false (Binds Parameter) p may.body)) in
      let s_parts = edges-joined stands k i a (t before c) s in
      let e_parts = edges-joined bound_inside k i a (t before c) e in
      let earlier = binding-trees (is_other own) us lets k i takes a declares lexical s_parts.0 e_parts.0 (all-ok own (declared_among false (Binds Parameter) a) (declared-avoids-all own w.in_use w.free_symbol false (Binds Parameter) a may.earlier)) in
      let later = binding-trees (is_other own) us lets k i takes c declares lexical s_parts.1.1 e_parts.1.1 (all-ok own (declared_among false (Binds Parameter) c) (declared-avoids-all own w.in_use w.free_symbol false (Binds Parameter) c may.later)) in
      let it = held-names ok us lets declares lexical b lp pf t u held k i s_parts.1.0 e_parts.1.0 pattern_ok in
      let ds_lists = claims_all is_owned (above FunctionBody l fs 0 0 ∷ vs) ds in
      let es_lists = claims_all is_owned at es in
      let rest_lists = claims_all is_owned at rest in
      let grouped : (ds_lists ++ es_lists) ++ rest_lists ≡ ds_lists ++ claims_all is_owned at all = body-shape ds_lists es_lists rest_lists ∙ (λ j. ds_lists ++ sym (joined-lists at es rest) j) in
      let fine = subst (λ (gs : List (List Name)). EachFine (λ y. bound_by body y) gs) (sym grouped) (body-fine vs scoped l fs ds all directives formed) in
      let ordinary = subst (λ (gs : List (List Name)). EachOrdinary gs) (sym grouped) (body-ordinary vs scoped l fs ds all directives formed) in
      let before_lists = claims_all is_owned us a in
      let after_lists = claims_all is_owned us c in
      let old : claims_all is_owned us (joined_trees a (t before c)) ++ (claims is_owned vs (node FunctionBody l fs) ++ []) ≡ before_lists ++ (it.lists ++ (after_lists ++ ((ds_lists ++ es_lists) ++ rest_lists))) =
      (λ j. (joined-lists us a (t before c) ∙ (λ n. before_lists ++ (it.old n ++ after_lists))) j ++ ((ds_lists ++ (joined-lists at es rest j ++ [])) ++ [])) ∙ old-shape before_lists it.lists after_lists ds_lists es_lists rest_lists in
      let lets_lists = claims is_owned lets p in
      let new : claims_all is_owned us (joined_trees a (u before c)) ++ (claims is_owned vs (node FunctionBody l fs') ++ []) ≡ before_lists ++ (pair x ∷ (after_lists ++ ((ds_lists ++ es_lists) ++ (lets_lists ++ rest_lists)))) =
      (λ j. (joined-lists us a (u before c) ∙ (λ n. before_lists ++ (it.new n ++ after_lists))) j ++ ((ds_lists ++ (joined-lists at es (let_statement p b before rest) j ++ [])) ++ [])) ∙ new-shape before_lists (pair x) after_lists ds_lists es_lists lets_lists rest_lists in
      subst (λ (gs : List (List Name)). Distinct used' [] gs) (sym new)
      (moved-late used used' more (is_other own) ok (is_other own) (λ y. bound_by body y) (λ y z q r. differ own y z (and_parts (bound_by own y) (is_other body y) q).0 r) (λ y z q r. differ own y z (and_parts (bound_by own y) (is_other body y) q).0 r) (λ y z q r. differ-back body y z (and_parts (bound_by own y) (is_other body y) q).1 r) earlier later (ds_lists ++ es_lists) rest_lists fine ordinary it.moves x free known
      (subst (λ (gs : List (List Name)). Distinct used [] gs) old d))
