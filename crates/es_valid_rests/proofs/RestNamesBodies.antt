-- What a function's body declares, by `var` above all, and names that stand in no other parameter and not in the body.
use Rattle.std.proofs.Common.{◌≡◌, ℕ, refl, sym, ap, subst, ◌∙◌, List, [], ◌∷◌, ◌++◌}
use Rattle.std.specs.Prelude.{Bool, true, false, ◌&&◌, bytes_eq}
use Rattle.std.proofs.lemmas.Bool.{and_from}
use Rattle.es_tree.specs.Ancestors.{Ancestor, scopes}
use Rattle.es_tree.specs.DeclaredNames.{names_in_scope}
use Rattle.es_tree.specs.HasForm.{trees_form}
use Rattle.es_tree.specs.Tree.{Tree, node, Label, Fields, Trees, empty, ◌before◌}
use Rattle.es_tree.specs.Words.{Text}
use Rattle.es_tree.specs.declared.ast_type.AstType.TheVariants.{BlockStatement, FunctionBody}
use Rattle.es_tree.specs.declared.table.Sort.{Sort}
use Rattle.es_tree.specs.declared.table.Sort.TheVariants.{Directive as s-Directive, Statement as s-Statement}
use Rattle.es_semantic.specs.RolesOf.{reads}
use Rattle.es_semantic.specs.declared.place.Role.{Role}
use Rattle.es_semantic.specs.declared.place.Role.TheVariants.{Top}
use Rattle.es_semantic.proofs.FormEdges.{Edges, edges-tree, sort_fits}
use Rattle.es_resolution.specs.Declarations.{Bound, declared, declared_among}
use Rattle.es_resolution.specs.Resolved.{bound_by}
use Rattle.es_resolution.proofs.Basics.{bytes_eq-equal}
use Rattle.es_steps.specs.ParameterPatterns.{lexical_names, var_names}
use Rattle.es_steps.proofs.FormLists.{first-formed}
use Rattle.es_steps.proofs.TopFunctions.{bound-first, bound-later}
use Rattle.es_valid_names.proofs.Claims.{above, claims, claims_all, is_owned}
use Rattle.es_valid_names.proofs.Mute.{free-private}
use Rattle.es_valid_using.proofs.UsingBolder.{is_other}
use Rattle.es_valid_using.proofs.UsingVars.{AllFine, AllOk, EachFine, Roled, inside-table, not-true, ok-left, ok-right, tree-fine, each-append as fine-append, inside as inside_test}
use Rattle.es_valid_rests.proofs.RestNamesOrdinary.{EachOrdinary, each-append, ordinary-trees}

-- TESTS that names pass

pub found-ok : (ok : Text → Bool) (bs : List Bound) → ((y : Text) → bound_by bs y ≡ true → ok y ≡ true) → AllOk ok bs
found-ok ok [] h = tt
found-ok ok (b ∷ bs) h = (h b.name (bound-first b bs), found-ok ok bs (λ y e. h y (bound-later b bs y e)))

pub both-ok : (f g : Text → Bool) (bs : List Bound) → AllOk f bs → AllOk g bs → AllOk (λ y. f y && g y) bs
both-ok f g [] h k = tt
both-ok f g (b ∷ bs) h k = (and_from (f b.name) (g b.name) h.0 k.0, both-ok f g bs h.1 k.1)

-- one that passes isn't one that doesn't
pub differ : (bs : List Bound) (x z : Text) → bound_by bs x ≡ true → is_other bs z ≡ true → bytes_eq z x ≡ false
differ bs x z e d = at (bytes_eq z x) refl
  where
    at : (b : Bool) → bytes_eq z x ≡ b → b ≡ false
    at true h = absurd (cc (sym (not-true (bound_by bs z) d) ∙ ap (λ y. bound_by bs y) (bytes_eq-equal z x h) ∙ e))
    at false h = refl

pub differ-back : (bs : List Bound) (x z : Text) → is_other bs x ≡ true → bound_by bs z ≡ true → bytes_eq z x ≡ false
differ-back bs x z e d = at (bytes_eq z x) refl
  where
    at : (b : Bool) → bytes_eq z x ≡ b → b ≡ false
    at true h = absurd (cc (sym (not-true (bound_by bs x) e) ∙ sym (ap (λ y. bound_by bs y) (bytes_eq-equal z x h)) ∙ d))
    at false h = refl

-- BODIES

module _ (ok : Text → Bool) where
  one-fine : (up : List Ancestor) (r : Role) (t : Tree) → Roled ok up r → Edges inside_test BlockStatement 0 false t → AllOk ok (declared true r t) → EachFine ok (claims is_owned up t)
  one-fine up r (node k l fs) h edges d = tree-fine ok up r (node k l fs) h (not-true _ edges.0) edges.1 d

  list-fine : (up : List Ancestor) (r : Role) (s : Sort) (ts : Trees) → Roled ok up r → sort_fits inside_test BlockStatement 0 false s ≡ true → trees_form s s ts ≡ true → AllOk ok (declared_among true r ts) → EachFine ok (claims_all is_owned up ts)
  list-fine up r s empty h fits f d = tt
  list-fine up r s (t before ts) h fits f d =
      let parts = first-formed s t ts f in
      let edges = edges-tree inside_test inside-table BlockStatement 0 false s t fits parts.0 in
      fine-append ok (claims is_owned up t) (claims_all is_owned up ts) (one-fine up r t h edges (ok-left ok (declared true r t) (declared_among true r ts) d)) (list-fine up r s ts h fits parts.1 (ok-right ok (declared true r t) (declared_among true r ts) d))

module _ (vs : List Ancestor) (scoped : scopes vs ≡ 1 ∷ []) (l : Label) (fs : Fields) (ds ts : Trees) (directives : trees_form s-Directive s-Directive ds ≡ true) (formed : trees_form s-Statement s-Statement ts ≡ true) where
  abbrev pub at_directives : List Ancestor
  at_directives = above FunctionBody l fs 0 0 ∷ vs

  abbrev pub at_statements : List Ancestor
  at_statements = above FunctionBody l fs 1 0 ∷ vs

  abbrev pub body_names : List Bound
  body_names = lexical_names ds ts ++ var_names ds ts

  abbrev pub in_body : Text → Bool
  in_body y = bound_by body_names y

  directive-role : Roled in_body at_directives reads
  directive-role = record { bound = λ x m. tt; declaration = λ x m. tt; functions = λ x m. subst (λ (ns : List ℕ). AllFine in_body (names_in_scope ns x true)) (sym scoped) (λ s e o. absurd (cc e), tt) }

  statement-role : Roled in_body at_statements Top
  statement-role = record { bound = λ x m. tt; declaration = λ x m. tt; functions = λ x m. subst (λ (ns : List ℕ). AllFine in_body (names_in_scope ns x false)) (sym scoped) (λ s e o. m refl, tt) }

  vars-ok : AllOk in_body (var_names ds ts)
  vars-ok = ok-right in_body (lexical_names ds ts) (var_names ds ts) (found-ok in_body body_names (λ y e. e))

  pub body-fine : EachFine in_body (claims_all is_owned at_directives ds ++ claims_all is_owned at_statements ts)
  body-fine =
      fine-append in_body (claims_all is_owned at_directives ds) (claims_all is_owned at_statements ts)
      (list-fine in_body at_directives reads s-Directive ds directive-role refl directives (ok-left in_body (declared_among true reads ds) (declared_among true Top ts ++ []) vars-ok))
      (list-fine in_body at_statements Top s-Statement ts statement-role refl formed (ok-left in_body (declared_among true Top ts) [] (ok-right in_body (declared_among true reads ds) (declared_among true Top ts ++ []) vars-ok)))

  pub body-ordinary : EachOrdinary (claims_all is_owned at_directives ds ++ claims_all is_owned at_statements ts)
  body-ordinary =
      each-append (claims_all is_owned at_directives ds) (claims_all is_owned at_statements ts)
      (ordinary-trees at_directives ds (λ x. tt) refl (λ x. free-private (above FunctionBody l fs 0 0) vs x (λ c. absurd (cc c))))
      (ordinary-trees at_statements ts (λ x. tt) refl (λ x. free-private (above FunctionBody l fs 1 0) vs x (λ c. absurd (cc c))))
