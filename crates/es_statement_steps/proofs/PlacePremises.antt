-- What is known of the names at a place where a rule acts: look-up finds what the scopes around declare, and none of these names is a cell of the machine's
-- own.
use Rattle.std.proofs.Common.{◌≡◌, ℕ, zero, suc, refl, sym, subst, ◌∙◌, List, [], ◌++◌}
use Rattle.std.specs.Prelude.{Bool, true, false, not, ◌||◌}
use Rattle.es_tree.specs.Scopes.{Declared, declares}
use Rattle.es_tree.specs.Tree.{Tree, node, Label, Fields, done, ◌then◌, Field, missing, one, many, statements, Trees, empty, ◌before◌, kind_of}
use Rattle.es_tree.specs.Words.{Text}
use Rattle.es_tree.specs.declared.ast_type.AstType.{AstType}
use Rattle.es_tree.specs.declared.ast_type.AstType.TheVariants.{BlockStatement, CatchClause, ForInStatement, ForOfStatement, ForStatement, Program, SwitchStatement}
use Rattle.es_semantic.specs.RolesOf.{reads, role_at}
use Rattle.es_semantic.specs.declared.place.Role.{Role}
use Rattle.es_resolution.specs.Named.{Named}
use Rattle.es_resolution.specs.Resolved.{Place, Resolved, ResolvedAll, ResolvedBy, ResolvedIn, nowhere, place_in}
use Rattle.es_steps.specs.Open.{finished_fields}
use Rattle.es_steps.specs.Steps.{Site, Whole, site_in, the_program}
use Rattle.es_statement_runs.specs.BareVars.{names_around}
use Rattle.es_statement_runs.specs.Names.{own_names, tops}
use Rattle.es_statement_runs.specs.Scopes.{is_own_cell}
use Rattle.es_statement_steps.proofs.Below.{Below, BelowField, BelowTrees, both_below}
use Rattle.es_statement_steps.proofs.DeclaredNames.{declares_append, from_children}
use Rattle.es_statement_steps.proofs.FoundNames.{Finds, finds_inside, finds_top}
use Rattle.es_statement_steps.proofs.FreshNames.{named_below, own_names_used, top_used}
use Rattle.es_statement_steps.proofs.Premises.{Inwards}
use Rattle.es_statement_steps.proofs.Stands.{is_program, standing}
use Rattle.es_statement_steps.proofs.StepMoves.{Fine}

-- BELOW A NODE

resolved-trees : (r : Role) (p : Place) (ts : Trees) → ResolvedAll r p ts → BelowTrees (λ t. Resolved r p t) ts
resolved-trees r p empty h = tt
resolved-trees r p (t before ts) h = (h.0, resolved-trees r p ts h.1)

resolved-field : (r : Role) (p : Place) (f : Field) → ResolvedBy r p f → BelowField (λ t. Resolved r p t) f
resolved-field r p missing h = tt
resolved-field r p (one t) h = h
resolved-field r p (many ts) h = resolved-trees r p ts h
resolved-field r p (statements ts) h = resolved-trees r p ts h

resolved-below : (roles : ℕ → Role) (places : ℕ → Place) (fs : Fields) → ResolvedIn roles places fs → Below (λ i t. Resolved (roles i) (places i) t) fs
resolved-below roles places done h = tt
resolved-below roles places (f then fs) h = (resolved-field (roles zero) (places zero) f h.0, resolved-below (λ i. roles (suc i)) (λ i. places (suc i)) fs h.1)

-- NAMES AROUND

abbrev pub is_no_cell : Text → Bool
is_no_cell x = not (is_own_cell x)

abbrev Clean : List Declared → Type 0
Clean ds = (y : Text) → declares ds y ≡ true → is_no_cell y ≡ true

pub either-true : (a b c : Bool) → (a ≡ true → c ≡ true) → (b ≡ true → c ≡ true) → (a || b) ≡ true → c ≡ true
either-true true b c f g e = f refl
either-true false b c f g e = g e

both-clean : (es ds : List Declared) → Clean es → Clean ds → Clean (es ++ ds)
both-clean es ds h g y e = either-true (declares es y) (declares ds y) (is_no_cell y) (h y) (g y) (sym (declares_append y es ds) ∙ e)

around-clean : (k : AstType) (es ds : List Declared) (i : ℕ) → Clean es → Clean ds → Clean (names_around k es ds i)
around-clean BlockStatement es ds i h g = both-clean es ds h g
around-clean ForStatement es ds i h g = both-clean es ds h g
around-clean ForInStatement es ds i h g = both-clean es ds h g
around-clean ForOfStatement es ds i h g = both-clean es ds h g
around-clean CatchClause es ds i h g = both-clean es ds h g
around-clean SwitchStatement es ds (suc i) h g = both-clean es ds h g
around-clean SwitchStatement es ds zero h g = g
around-clean _ es ds i h g = g

-- THE PREMISE

pub record NamesKnown (p : Place) : Type 0 where
  pub around : List Declared
  pub found : Finds around p
  pub clean : (y : Text) → declares around y ≡ true → not (is_own_cell y) ≡ true

pub record Here (n : Site) (w : Whole) (a : Tree) : Type 0 where
  pub names : NamesKnown n.names
  pub fine : Fine a
  pub resolved : Resolved n.role n.names a
  pub named : Named w.in_use w.free_symbol n.role a
  pub cells : Named is_no_cell w.free_symbol n.role a
  pub top : is_program (kind_of a) ≡ true → (n.role ≡ reads) × (n.names ≡ nowhere)

names-in : (n : Site) (w : Whole) (k : AstType) (l : Label) (fs : Fields) → Here n w (node k l fs) → (i : ℕ) → NamesKnown (place_in n.names k l (role_at n.role k l fs) fs i)
names-in n w k l fs h i = at k h (is_program k) refl
  where
    top-names : (fs : Fields) (r : Role) (p : Place) → r ≡ reads → p ≡ nowhere → Fine (node Program l fs) → Resolved r p (node Program l fs) → Named is_no_cell w.free_symbol r (node Program l fs) → NamesKnown (place_in p Program l (role_at r Program l fs) fs i)
    top-names fs r p e d fine resolved cells =
        let names : NamesKnown (place_in nowhere Program l (role_at reads Program l fs) fs i) = record {
          around = tops fs;
          found = finds_top l fs i fine (subst (λ (q : Place). Resolved reads q (node Program l fs)) d (subst (λ (s : Role). Resolved s p (node Program l fs)) e resolved));
          clean = λ y g. top_used is_no_cell w.free_symbol l fs fine (subst (λ (s : Role). Named is_no_cell w.free_symbol s (node Program l fs)) e cells) y g;
        } in
        subst (λ (s : Role). NamesKnown (place_in p Program l (role_at s Program l fs) fs i)) (sym e) (subst (λ (q : Place). NamesKnown (place_in q Program l (role_at reads Program l fs) fs i)) (sym d) names)

    other-names : (k : AstType) → is_program k ≡ false → Here n w (node k l fs) → NamesKnown (place_in n.names k l (role_at n.role k l fs) fs i)
    other-names k e h = record {
      around = names_around k (own_names k fs) h.names.around i;
      found = finds_inside h.names.around n.names n.role k l fs i h.names.found e h.fine h.resolved.2;
      clean = around-clean k (own_names k fs) h.names.around i (λ y g. own_names_used is_no_cell w.free_symbol n.role k l fs h.fine h.cells.1 y g) h.names.clean;
    }

    at : (k : AstType) → Here n w (node k l fs) → (b : Bool) → is_program k ≡ b → NamesKnown (place_in n.names k l (role_at n.role k l fs) fs i)
    at Program h true e = let t = h.top refl in top-names fs n.role n.names t.0 t.1 h.fine h.resolved h.cells
    at k h false e = other-names k e h
    at k h true e = absurd (cc e)

pub here-inwards : Inwards Here
here-inwards n w k l fs h =
    let gs = finished_fields fs in
    let s = standing k l gs h.fine in
    from_children k l gs (λ i t. Resolved (role_at n.role k l gs i) (place_in n.names k l (role_at n.role k l gs) gs i) t × (Named w.in_use w.free_symbol (role_at n.role k l gs i) t × Named is_no_cell w.free_symbol (role_at n.role k l gs i) t)) (λ i t. Here (site_in n k l fs i) w t) s
    (both_below (λ i t. Resolved (role_at n.role k l gs i) (place_in n.names k l (role_at n.role k l gs) gs i) t) (λ i t. Named w.in_use w.free_symbol (role_at n.role k l gs i) t × Named is_no_cell w.free_symbol (role_at n.role k l gs i) t) gs (resolved-below (role_at n.role k l gs) (place_in n.names k l (role_at n.role k l gs) gs) gs h.resolved.2)
    (both_below (λ i t. Named w.in_use w.free_symbol (role_at n.role k l gs i) t) (λ i t. Named is_no_cell w.free_symbol (role_at n.role k l gs i) t) gs (named_below w.in_use w.free_symbol (role_at n.role k l gs) gs h.named.1) (named_below is_no_cell w.free_symbol (role_at n.role k l gs) gs h.cells.1)))
    (λ i t p c. record { names = names-in n w k l gs h i; fine = c.nodes; resolved = p.0; named = p.1.0; cells = p.1.1; top = λ e. absurd (let no = c.stands_there.program in cc (e, no)) })

-- at the top nothing is declared around
pub here-program : (w : Whole) (p : Tree) → Fine p → Resolved reads nowhere p → Named w.in_use w.free_symbol reads p → Named (λ x. not (is_own_cell x)) w.free_symbol reads p → Here the_program w p
here-program w p fine resolved named cells = record {
  names = record { around = []; found = λ x. refl; clean = λ y e. absurd (cc e) };
  fine = fine;
  resolved = resolved;
  named = named;
  cells = cells;
  top = λ e. (refl, refl);
}
