-- The name that is declared first in a body is found from each of the body's statements, with its symbol, where no name that the body declares by `var`
-- is declared otherwise.
use Rattle.std.proofs.Common.{◌≡◌, ◌∙◌, ℕ, refl, sym, ap, subst, List, [], ◌∷◌, ◌++◌, append-nil}
use Rattle.std.specs.Prelude.{Bool, true, false, not, Option, Some, None, bytes_eq, codes, is_some, if◌then◌else◌}
use Rattle.std.specs.List.{list_all}
use Rattle.std.proofs.lemmas.Bool.{and_parts}
use Rattle.es_tree.specs.Names.{first_text}
use Rattle.es_tree.specs.Tree.{Tree, node, Label, Fields, done, ◌then◌, Field, one, statements, Trees, empty, ◌before◌}
use Rattle.es_tree.specs.Words.{Text}
use Rattle.es_tree.specs.declared.ast_type.AstType.TheVariants.{FunctionBody, Identifier, ThisExpression, VariableDeclarator}
use Rattle.es_semantic.specs.RolesOf.{binding_of, reads, role_at}
use Rattle.es_semantic.specs.SymbolsOf.{hoists}
use Rattle.es_semantic.specs.declared.place.Binding.{Binding}
use Rattle.es_semantic.specs.declared.place.Binding.TheVariants.{Constant, Let, Variable}
use Rattle.es_semantic.specs.declared.place.Role.{Role}
use Rattle.es_semantic.specs.declared.place.Role.TheVariants.{Binds, Top}
use Rattle.es_resolution.specs.Called.{Called, HasName}
use Rattle.es_resolution.specs.Declarations.{Bound, declared_among, declared_by, symbol_of}
use Rattle.es_resolution.specs.Named.{IsBelow, Named}
use Rattle.es_resolution.specs.Resolved.{Place, Resolved, around, bound_by, frame, inner, place_in, var_frame, vars_in, within}
use Rattle.es_steps.specs.Patterns.{no_name_of}
use Rattle.es_steps.specs.Steps.{Site, Whole}
use Rattle.es_pattern_moves.proofs.MovedInward.{sites}
use Rattle.es_set_this.specs.ConstructorThis.{is_var}
use Rattle.es_constructor_this.specs.SetRows.{Finds, names_apart}
use Rattle.es_constructor_this.proofs.SameSites.{SameField, SameTrees, sites-are}
use Rattle.es_constructor_this.proofs.ThisNames.{this_declared}
use Rattle.es_constructor_this.proofs.UnnamedParts.{found-around}

-- `var` declares so

var-first : (ts : List (Option Text)) → is_var ts ≡ true → bytes_eq (first_text ts) (codes "var") ≡ true
var-first (Some x ∷ []) e = e
var-first (Some x ∷ (y ∷ ys)) e = absurd (cc e)
var-first (None ∷ xs) e = absurd (cc e)
var-first [] e = absurd (cc e)

var-binding : (ts : List (Option Text)) → is_var ts ≡ true → binding_of (first_text ts) ≡ Variable
var-binding ts e = λ j. if var-first ts e j then Variable else if bytes_eq (first_text ts) (codes "let") then Let else Constant

hoisted-so : (h s : Option ℕ) (b : Binding) → b ≡ Variable → (if hoists b then h else s) ≡ h
hoisted-so h s b e = λ j. if hoists (e j) then h else s

-- a symbol that is there
record Symbol (o : Option ℕ) : Type 0 where
  number : ℕ
  is : o ≡ Some number

the-symbol : (o : Option ℕ) → is_some o ≡ true → Symbol o
the-symbol (Some s) e = record { number = s; is = refl }
the-symbol None e = absurd (cc e)

not-true : (b : Bool) → not b ≡ true → b ≡ false
not-true true e = absurd (cc e)
not-true false e = refl

-- what a body asks of its names stays where they do
pub names-apart-same : (ds es : Field) (ts us : Trees) → SameField ds es → SameTrees ts us → names_apart (es then (statements us then done)) ≡ names_apart (ds then (statements ts then done))
names-apart-same ds es ts us h g = λ j. list_all (no_name_of (h.declares false reads j ++ g.declares false Top j)) (g.declares true Top j)

module _ (w : Whole) (n : Site) (l : Label) (ds : Field) (m k i e : Label) (ts : Trees) where
  abbrev y : Text
  y = first_text i.texts

  abbrev d : Tree
  d = this_declared m k i e

  abbrev fs : Fields
  fs = ds then (statements (d before ts) then done)

  abbrev roles : ℕ → Role
  roles = role_at n.role FunctionBody l fs

  abbrev here : Place
  here = place_in n.names FunctionBody l roles fs 1

  abbrev the_declarator : Tree
  the_declarator = node VariableDeclarator k (one (node Identifier i done) then (one (node ThisExpression e done) then done))

  -- the body declares it by `var` alone
  frame-out : names_apart fs ≡ true → is_var m.texts ≡ true → bound_by (frame FunctionBody l roles fs) y ≡ false
  frame-out apart var =
      let lexical : List Bound = declared_by false reads ds ++ declared_among false Top (d before ts) in
      let vars : Binding → List Bound = λ b. (declared_among true (Binds b) (the_declarator before empty) ++ []) ++ declared_among true Top ts in
      let it : list_all (no_name_of lexical) (vars Variable) ≡ true = sym (λ j. list_all (no_name_of lexical) (vars (var-binding m.texts var j))) ∙ apart in
      let first = and_parts (no_name_of lexical (record { name = y; symbol = symbol_of i })) _ it in
      ap (λ bs. bound_by (declared_by false reads ds ++ bs) y) (append-nil (declared_among false Top (d before ts))) ∙ not-true (bound_by lexical y) first.0

  agree : bound_by (frame FunctionBody l roles fs) y ≡ false → here.scope y ≡ here.hoist y
  agree out = at (n.names.parameters y) refl
    where
      outer : Option ℕ
      outer = around n.names FunctionBody roles fs y

      within_it : Option ℕ
      within_it = inner n.names FunctionBody l roles fs y

      declared_so : Option ℕ
      declared_so = within (var_frame roles fs) (around n.names FunctionBody roles fs) y

      at : (p : Bool) → n.names.parameters y ≡ p → here.scope y ≡ here.hoist y
      at true q = found-around y (frame FunctionBody l roles fs) (vars_in n.names FunctionBody roles fs) out ∙ (λ j. if q j then outer else declared_so) ∙ (λ j. if sym q j then outer else within_it)
      at false q = λ j. if sym q j then outer else within_it

  pub finds-declared : is_var m.texts ≡ true → names_apart fs ≡ true → Resolved n.role n.names (node FunctionBody l fs) → Named w.in_use w.free_symbol n.role (node FunctionBody l fs) → Called w.called (node FunctionBody l fs) →
      Finds w (record { name = y; symbol = symbol_of i }) (sites n FunctionBody l fs 1).names
  finds-declared var apart resolved named called =
      let right = (resolved.2.1.0.0).2.0.0.2.0.0 in
      let used = (named.1.1.0.0).1.0.0.1.0.0 in
      let name = (called.1.1.0.0).1.0.0.1.0.0 in
      let s = the-symbol (symbol_of i) right.1 in
      let hoisted : symbol_of i ≡ here.hoist y = right.0 ∙ hoisted-so _ _ (binding_of (first_text m.texts)) (var-binding m.texts var) in
      let there : here.scope y ≡ Some s.number = agree (frame-out apart var) ∙ sym hoisted ∙ s.is in
      record {
        symbol = s.number;
        has = s.is;
        found = ap (λ (q : Site). q.names.scope y) (sites-are n FunctionBody l fs 1) ∙ there;
        called = sym (subst (λ (o : Option ℕ). HasName w.called o y) s.is name);
        below = subst (λ (o : Option ℕ). IsBelow w.free_symbol o) s.is used.1;
        used = used.0;
      }
