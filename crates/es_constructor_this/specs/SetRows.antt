-- The rows by which names for `this` are set: in the body of a constructor of a class that extends another, where `var b = this;` stands first.
use Rattle.std.specs.Prelude.{◌≡◌, ◌<◌, ◌&&◌, Bool, true, false, List, [], ◌∷◌, ◌++◌, Option, Some, ℕ}
use Rattle.std.specs.List.{list_all}
use Rattle.es_tree.specs.Ancestors.{Ancestor, is_derived_constructor, leads_by, stands_in}
use Rattle.es_tree.specs.Names.{first_text}
use Rattle.es_tree.specs.Tree.{Tree, node, Label, Fields, done, ◌then◌, Field, one, many, statements, Trees, empty, ◌before◌}
use Rattle.es_tree.specs.declared.ast_type.AstType.TheVariants.{BlockStatement, CallExpression, ChainExpression, FunctionBody, FunctionExpression, Identifier, SwitchCase, ThisExpression, VariableDeclaration, VariableDeclarator}
use Rattle.es_semantic.specs.RolesOf.{reads, role_at}
use Rattle.es_semantic.specs.declared.place.Role.TheVariants.{Top}
use Rattle.es_resolution.specs.Declarations.{Bound, declared_among, declared_by, symbol_of}
use Rattle.es_resolution.specs.Resolved.{Place, place_in}
use Rattle.es_steps.specs.Nodes.{identifier}
use Rattle.es_steps.specs.Open.{Additions, Pending, opened, opened_fields, is_body}
use Rattle.es_steps.specs.Patterns.{no_name_of}
use Rattle.es_steps.specs.Steps.{Ledger, ledger, Site, Spot, Step, Steps, Whole, at_node, site_in}
use Rattle.es_super_calls.specs.SuperCalls.{calls_it}
use Rattle.es_set_this.specs.ConstructorThis.{is_var, set_statement, then_set, without_value}

-- WHAT THE NAME FINDS at a place: its binding, which is in use

pub record Finds (w : Whole) (b : Bound) (p : Place) : Type 0 where
  pub symbol : ℕ
  pub has : b.symbol ≡ Some symbol
  pub found : p.scope b.name ≡ Some symbol
  pub called : w.called symbol ≡ b.name
  pub below : symbol < w.free_symbol
  pub used : w.in_use b.name ≡ true

-- THE STATEMENT that sets it stands behind one of these, or nowhere
pub data Puts (x : Tree) : Trees → Trees → Type 0 where
  nowhere : {ts : Trees} → Puts x ts ts
  behind : {t : Tree} {ts : Trees} → Puts x (t before ts) (t before (set_statement x before ts))
  further : {t : Tree} {ts us : Trees} → Puts x ts us → Puts x (t before ts) (t before us)

-- INSIDE A STATEMENT of the body: after a call of `super`, and behind a statement of a list. The name is that which is looked for beside, as that of
-- arrows is.
pub data SuperRow : Site → Ledger → Spot → Ledger → Spot → Type 0 where
  after_call : {n : Site} {w : Whole} {p : Pending} {a : Additions} (b : Bound) (l : Label) (fs : Fields) → n.role ≡ reads → calls_it fs ≡ true → stands_in ChainExpression 0 n.above ≡ false → Finds w b n.names →
      SuperRow n (ledger w p (Some b) a) (at_node (node CallExpression l fs)) (ledger w p (Some b) a) (at_node (then_set (identifier b) l fs))
  in_block : {n : Site} {w : Whole} {p : Pending} {a : Additions} (b : Bound) (l : Label) (ts us : Trees) → Puts (identifier b) ts us → Finds w b (place_in n.names BlockStatement l (role_at n.role BlockStatement l (statements ts then done)) (statements ts then done) 0) →
      SuperRow n (ledger w p (Some b) a) (at_node (node BlockStatement l (statements ts then done))) (ledger w p (Some b) a) (at_node (node BlockStatement l (statements us then done)))
  in_case : {n : Site} {w : Whole} {p : Pending} {a : Additions} (b : Bound) (l : Label) (f : Field) (ts us : Trees) → Puts (identifier b) ts us → Finds w b (place_in n.names SwitchCase l (role_at n.role SwitchCase l (f then statements ts then done)) (f then statements ts then done) 1) →
      SuperRow n (ledger w p (Some b) a) (at_node (node SwitchCase l (f then statements ts then done))) (ledger w p (Some b) a) (at_node (node SwitchCase l (f then statements us then done)))

-- each of these statements becomes another by steps of such rows
pub data Settles (n : Site) (s : Ledger) : Trees → Trees → Type 0 where
  ended : Settles n s empty empty
  settled : {t u : Tree} {ts us : Trees} → Steps (Step SuperRow n) s (opened t) s (opened u) → Settles n s ts us → Settles n s (t before ts) (u before us)

-- THE BODY of such a constructor

abbrev pub is_constructor_body : List Ancestor → Bool
is_constructor_body (f ∷ up) = leads_by FunctionExpression 2 f && is_derived_constructor up
is_constructor_body [] = false

-- No name that the body declares by `var`, or as a function, does it declare otherwise (15.2.1): so the name that is declared first is found from each
-- of the statements, even where it is a parameter's too.
abbrev pub names_apart : Fields → Bool
names_apart (ds then (statements ts then done)) = list_all (no_name_of (declared_by false reads ds ++ declared_among false Top ts)) (declared_among true Top ts)
names_apart fs = true

-- `var b = this;`
pub data DeclaresThis (b : Bound) : Tree → Type 0 where
  declares_this : (m k i h : Label) → is_var m.texts ≡ true → b ≡ record { name = first_text i.texts; symbol = symbol_of i } →
      DeclaresThis b (node VariableDeclaration m (many (node VariableDeclarator k (one (node Identifier i done) then one (node ThisExpression h done) then done) before empty) then done))

abbrev pub body_with : Label → Field → Trees → Tree
body_with l ds ts = node FunctionBody l (ds then statements ts then done)

abbrev pub inside_body : Site → Label → Field → Trees → Site
inside_body n l ds ts = site_in n FunctionBody l (opened_fields (is_body FunctionBody) (ds then statements ts then done)) 1

pub data SetRow : Site → Ledger → Spot → Ledger → Spot → Type 0 where
  -- its statements
  settles : {n : Site} {w : Whole} {p q : Pending} {x : Option Bound} {y a : Additions} (b : Bound) (l : Label) (ds : Field) (d : Tree) (ts us : Trees) → is_constructor_body n.above ≡ true → DeclaresThis b d → Settles (inside_body n l ds (d before ts)) (ledger w q (Some b) a) ts us →
      SetRow n (ledger w p x y) (at_node (body_with l ds (d before ts))) (ledger w p x y) (at_node (body_with l ds (d before us)))
  -- and its list
  sets : {n : Site} {s : Ledger} (b : Bound) (l : Label) (ds : Field) (d : Tree) (ts us : Trees) → is_constructor_body n.above ≡ true → names_apart (ds then statements (d before ts) then done) ≡ true → DeclaresThis b d → Puts (identifier b) ts us →
      SetRow n s (at_node (body_with l ds (d before ts))) s (at_node (body_with l ds (without_value d before us)))
