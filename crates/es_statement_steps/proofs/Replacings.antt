-- Rows at expressions, whose temporaries are declared in the list around: what they ask of their sides to be rules of nodes.
use Rattle.std.proofs.Common.{◌≡◌, refl, List, [], ◌++◌}
use Rattle.std.specs.Prelude.{true, false, codes}
use Rattle.es_tree.specs.Tree.{Tree, node, Label, Fields, done, ◌then◌, Field, missing, one, many, statements, Trees, empty, ◌before◌, kind_of}
use Rattle.es_tree.specs.declared.ast_type.AstType.{AstType}
use Rattle.es_tree.specs.declared.ast_type.AstType.TheVariants.{VariableDeclaration}
use Rattle.es_resolution.specs.Declarations.{Bound}
use Rattle.es_steps.specs.CoreBridge.{names_among}
use Rattle.es_steps.specs.Rules.{Replacing}
use Rattle.es_steps.specs.Rules.Replacing.{replaces}
use Rattle.es_steps.specs.Steps.{Ledger, Site, Spot, Whole}
use Rattle.es_steps.specs.Steps.Spot.{at_node}
use Rattle.es_steps.proofs.FormRules.{AtNodes}
use Rattle.es_statement_runs.specs.Names.{var_names, var_names_all, var_names_at, var_names_in}
use Rattle.es_statement_runs.proofs.BareVars.{MoreDeclared}
use Rattle.es_statement_runs.proofs.BareVars.MoreDeclared.{none_declared}
use Rattle.es_statement_runs.proofs.Moved.{BothMute, is_mute}
use Rattle.es_statement_steps.proofs.Below.{Below, BelowField, BelowTrees, by_parts}
use Rattle.es_statement_steps.proofs.DeclaredNames.{from_children}
use Rattle.es_statement_steps.proofs.Rooms.{stays_put}
use Rattle.es_statement_steps.proofs.Stands.{is_inner, standing}
use Rattle.es_statement_steps.proofs.StepMoves.{Acting, AreNew, Fine, NodeRule}

-- NO `var` IN AN EXPRESSION

abbrev NoVars : Tree → Type 0
NoVars t = is_inner (kind_of t) ≡ true → Fine t → var_names t ≡ []

none-all : (ts : Trees) → BelowTrees (λ t. var_names t ≡ []) ts → var_names_all ts ≡ []
none-all empty h = refl
none-all (t before ts) h = (λ i. h.0 i ++ none-all ts h.1 i)

none-at : (f : Field) → BelowField (λ t. var_names t ≡ []) f → var_names_at f ≡ []
none-at missing h = refl
none-at (one t) h = h
none-at (many ts) h = none-all ts h
none-at (statements ts) h = none-all ts h

none-in : (fs : Fields) → Below (λ i t. var_names t ≡ []) fs → var_names_in fs ≡ []
none-in done h = refl
none-in (f then fs) h = (λ i. none-at f h.0 i ++ none-in fs h.1 i)

inner-names : (k : AstType) (l : Label) (fs : Fields) → is_inner k ≡ true → var_names_in fs ≡ [] → var_names (node k l fs) ≡ []
inner-names VariableDeclaration l fs h e = absurd (cc h)
inner-names _ l fs h e = e

no-vars-at : (k : AstType) (l : Label) (fs : Fields) → Below (λ i. NoVars) fs → NoVars (node k l fs)
no-vars-at k l fs below h fine = inner-names k l fs h (none-in fs (from_children k l fs (λ i. NoVars) (λ i t. var_names t ≡ []) (standing k l fs fine) below (λ i t p c. p (c.stands_there.inner h) c.nodes)))

pub no-vars : (t : Tree) → is_inner (kind_of t) ≡ true → Fine t → var_names t ≡ []
no-vars t = by_parts NoVars no-vars-at t

-- ROWS

pub record RowShape (R : Site → Whole → List Bound → Tree → Tree → Type 0) : Type 0 where
  pub acts_on : (n : Site) (w : Whole) (bs : List Bound) (t u : Tree) → R n w bs t u → stays_put (kind_of t) ≡ false
  pub new_names : (n : Site) (w : Whole) (bs : List Bound) (t u : Tree) → R n w bs t u → AreNew w bs
  pub first : (n : Site) (w : Whole) (bs : List Bound) (t u : Tree) → R n w bs t u → (is_mute (kind_of t) ≡ true) × (is_inner (kind_of t) ≡ true)
  pub second : (n : Site) (w : Whole) (bs : List Bound) (t u : Tree) → R n w bs t u → (is_mute (kind_of u) ≡ true) × (is_inner (kind_of u) ≡ true)

module _ (R : Site → Whole → List Bound → Tree → Tree → Type 0) (shape : RowShape R) where
  -- what it does, by the names that it makes
  abbrev pub Row : List Bound → Site → Whole → Tree → Tree → Type 0
  Row new n w t u = R n w new t u

  replaces-acting : (n : Site) (s s' : Ledger) (t u : Tree) → Replacing R n s (at_node t) s' (at_node u) → Acting true Row n s s' t u
  replaces-acting n s s' t u (replaces bs h) = record { new = bs; pending = refl; this = refl; top = refl; rule = h }

  replaces-nodes : (n : Site) (s s' : Ledger) (x y : Spot) → Replacing R n s x s' y → AtNodes x y
  replaces-nodes n s s' x y (replaces bs h) = tt

  mute-both : (new : List Bound) (n : Site) (w : Whole) (t u : Tree) → Row new n w t u → Fine t → Fine u → BothMute (names_among new) t u
  mute-both new n w t u h fine after =
      let a = shape.first n w new t u h in
      let b = shape.second n w new t u h in
      let vars : MoreDeclared (codes "var") (names_among new) (var_names t) (var_names u) = rw (no-vars t a.1 fine, no-vars u b.1 after) none_declared in
      record { first = a.0; second = b.0; vars = vars }

  pub replacing-rule : NodeRule (Replacing R) Row
  replacing-rule = record {
    hoisted = true;
    nodes = replaces-nodes;
    acting = replaces-acting;
    new_names = λ new n w t u h. shape.new_names n w new t u h;
    acts_on = λ new n w t u h. shape.acts_on n w new t u h;
    mute = mute-both;
  }

  pub replacing-hoists : replacing-rule.hoisted ≡ true
  unfolding replacing-rule
  replacing-hoists = refl
