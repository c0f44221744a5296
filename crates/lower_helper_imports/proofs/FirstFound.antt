-- The first node that is looked for, and whether a program imports helpers and where it can't.
use Rattle.std.proofs.Common.{◌≡◌, ◌∙◌, ◌&&◌, ◌||◌, Bool, List, None, Option, Some, [], ◌∷◌, ap, codes, false, is_some, refl, sym, true, ℕ}
use Rattle.std.specs.Option.{option_or}
use Rattle.std.specs.Prelude.{if◌then◌else◌, not, option_map}
use Rattle.es_tree.specs.Heads.{symbol}
use Rattle.es_tree.specs.Options.{is_external}
use Rattle.es_tree.specs.Tree.{Tree, node, Label, Fields, done, ◌then◌, Field, missing, one, many, statements, Trees, empty, ◌before◌, fields_of, kind_of, label_of}
use Rattle.es_tree.specs.Walks.{any_in_field, any_in_fields, any_in_trees, any_node, first_in_field, first_in_fields, first_in_trees, first_node, or_later}
use Rattle.es_tree.specs.Words.{Text}
use Rattle.es_tree.specs.declared.ast_type.AstType.{AstType}
use Rattle.es_tree.specs.declared.ids.NodeId.{NodeId}
use Rattle.es_tree.specs.declared.ids.SymbolId.{SymbolId}
use Rattle.es_tree.specs.declared.options.EnvOptions.{EnvOptions}
use Rattle.es_scope.specs.Tables.{binding_in}
use Rattle.es_scope.specs.declared.scoping.Scoping.{Scoping}
use Rattle.es_semantic.specs.SymbolsOf.{Declared, find, symbol_in, symbols_of}
use Rattle.es_semantic.specs.TableOf.{IsTableOf}
use Rattle.es_semantic.proofs.Chains.{bound_some}
use Rattle.es_helper_calls.specs.Importing.{asks_helper, binds_require, imports_helpers, is_module, unimported, unimported_where}
use Rattle.lower_helper_imports.specs.HelperImports.{Tells, first_asking, number_of}
use Rattle.lower_helper_imports.specs.declared.finding.HelperImports.{HelperImports}

abbrev Test : Type 0
Test = AstType → Label → Fields → Bool

-- the first of a node that isn't looked for is that of its fields
pub below-node : (p : Test) (t : Tree) → p (kind_of t) (label_of t) (fields_of t) ≡ false → first_node p t ≡ first_in_fields p (fields_of t)
below-node p (node k l fs) h = rw h refl

-- A FIRST NODE is there where any is

or-some : (a b : Option ℕ) → is_some (or_later a b) ≡ (is_some a || is_some b)
or-some None b = refl
or-some (Some n) b = refl

here-some : (b : Bool) (n : ℕ) (o : Option ℕ) → is_some (if b then Some n else o) ≡ (b || is_some o)
here-some true n o = refl
here-some false n o = refl

mutual
  some-node : (p : Test) (t : Tree) → is_some (first_node p t) ≡ any_node p t
  some-node p (node k l fs) = here-some (p k l fs) l.id (first_in_fields p fs) ∙ ap (λ b. p k l fs || b) (some-fields p fs)

  some-fields : (p : Test) (fs : Fields) → is_some (first_in_fields p fs) ≡ any_in_fields p fs
  some-fields p done = refl
  some-fields p (f then fs) = or-some (first_in_field p f) (first_in_fields p fs) ∙ (λ i. some-field p f i || some-fields p fs i)

  some-field : (p : Test) (f : Field) → is_some (first_in_field p f) ≡ any_in_field p f
  some-field p missing = refl
  some-field p (one t) = some-node p t
  some-field p (many ts) = some-trees p ts
  some-field p (statements ts) = some-trees p ts

  some-trees : (p : Test) (ts : Trees) → is_some (first_in_trees p ts) ≡ any_in_trees p ts
  some-trees p empty = refl
  some-trees p (t before ts) = or-some (first_node p t) (first_in_trees p ts) ∙ (λ i. some-node p t i || some-trees p ts i)

some-number : (o : Option NodeId) → is_some o ≡ is_some (option_map number_of o)
some-number None = refl
some-number (Some id) = refl

-- A NAME OF THE OUTERMOST SCOPE, as its table has it

own-or-none : (o : Option ℕ) → (if is_some o then o else None) ≡ o
own-or-none None = refl
own-or-none (Some n) = refl

found-outside : (ds : List Declared) (x : Text) → find ds (0 ∷ []) x ≡ symbol_in ds 0 x
found-outside ds x = ap (λ b. if b then symbol_in ds 0 x else None) (bound_some ds 0 x) ∙ own-or-none (symbol_in ds 0 x)

some-symbol : (r : Option SymbolId) → is_some r ≡ is_some (symbol r)
some-symbol None = refl
some-symbol (Some s) = refl

pub require-bound : (p : Tree) (s : Scoping) (m : Bool) (n : ℕ) (r : Option SymbolId) → IsTableOf p s → m ≡ is_module p → n ≡ 0 → symbol r ≡ binding_in s n (codes "require") → (not m && is_some r) ≡ binds_require p
require-bound p s m n r table sort first is =
    let there : is_some r ≡ is_some (find (symbols_of p) (0 ∷ []) (codes "require")) =
    some-symbol r ∙ ap is_some (is ∙ ap (λ k. binding_in s k (codes "require")) first ∙ table.bindings 0 (codes "require") ∙ sym (found-outside (symbols_of p) (codes "require"))) in
    (λ i. not (sort i) && there i)

-- A TEST THAT NO NODE PASSES finds none

module _ (p : Test) (none : (k : AstType) (l : Label) (fs : Fields) → p k l fs ≡ false) where
  mutual
    pub no-node : (t : Tree) → first_node p t ≡ None
    no-node (node k l fs) = rw (none k l fs) (no-fields fs)

    no-fields : (fs : Fields) → first_in_fields p fs ≡ None
    no-fields done = refl
    no-fields (f then fs) = λ i. or_later (no-field f i) (no-fields fs i)

    no-field : (f : Field) → first_in_field p f ≡ None
    no-field missing = refl
    no-field (one t) = no-node t
    no-field (many ts) = no-trees ts
    no-field (statements ts) = no-trees ts

    no-trees : (ts : Trees) → first_in_trees p ts ≡ None
    no-trees empty = refl
    no-trees (t before ts) = λ i. or_later (no-node t i) (no-trees ts i)

-- WHETHER HELPERS ARE IMPORTED

pub asked-where : (o : EnvOptions) (made : Bool) (p : Tree) (a : Option NodeId) → option_map number_of a ≡ first_asking o made p → is_some a ≡ imports_helpers o made p
asked-where o made p a e = at (is_external o.helper_loader.mode) (some-number a ∙ ap is_some e)
  where
    at : (external : Bool) → is_some a ≡ is_some (if external then None else first_node (asks_helper o made) p) → is_some a ≡ (not external && any_node (asks_helper o made) p)
    at true d = d
    at false d = d ∙ some-node (asks_helper o made) p

-- WHERE THEY CAN'T BE, by what was found

numbers-or : (a b : Option NodeId) → option_map number_of (option_or a b) ≡ option_or (option_map number_of a) (option_map number_of b)
numbers-or None b = refl
numbers-or (Some n) b = refl

-- the first of two, where helpers are imported
where-first : (external any : Bool) (a b : Option ℕ) → (not external && any) ≡ true → option_or (if external then None else a) b ≡ (if not external && any then option_or a b else None)
where-first true any a b on = absurd (cc on)
where-first false true a b on = refl
where-first false false a b on = absurd (cc on)

module _ (o : EnvOptions) (made : Bool) (own : Option ℕ) (p : Tree) (u : HelperImports) (tells : Tells o made own p u) where
  abbrev unimported_if : Bool → Option ℕ
  unimported_if bound = if imports_helpers o made p then unimported_where o made own bound p else None

  on : is_some u.asking ≡ true → imports_helpers o made p ≡ true
  on some = sym (asked-where o made p u.asking tells.asking) ∙ some

  pub found-none : is_some u.asking ≡ false → None ≡ unimported o made own p
  found-none none = λ i. if sym (sym (asked-where o made p u.asking tells.asking) ∙ none) i then unimported_where o made own (binds_require p) p else None

  pub found-bound : is_some u.asking ≡ true → true ≡ binds_require p → option_map number_of (option_or u.asking u.calling) ≡ unimported o made own p
  found-bound some bound =
      numbers-or u.asking u.calling
      ∙ (λ i. option_or (tells.asking i) (tells.calling i))
      ∙ where-first (is_external o.helper_loader.mode) (any_node (asks_helper o made) p) (first_node (asks_helper o made) p) own (on some)
      ∙ ap unimported_if bound

  pub found-unbound : is_some u.asking ≡ true → false ≡ binds_require p → option_map number_of u.calling ≡ unimported o made own p
  found-unbound some unbound = tells.calling ∙ (λ i. if sym (on some) i then own else None) ∙ ap unimported_if unbound

-- a module requires nothing
pub module-free : (p : Tree) → not (is_module p) ≡ false → false ≡ binds_require p
module-free p e = ap (λ b. b && is_some (find (symbols_of p) (0 ∷ []) (codes "require"))) (sym e)
