-- An export of a declaration becomes the declaration and an export of its names: what the list declares and what its names find stays.
use Rattle.std.proofs.Common.{arith, ◌≡◌, ℕ, refl, sym, ◌∙◌, List, [], ◌∷◌, ◌++◌}
use Rattle.std.specs.Prelude.{Bool, true, false}
use Rattle.es_tree.specs.Names.{first_text}
use Rattle.es_tree.specs.Tree.{Tree, node, Label, Fields, ◌then◌, many, Trees, ◌before◌, label_of}
use Rattle.es_tree.specs.Words.{Text}
use Rattle.es_tree.specs.declared.ast_type.AstType.TheVariants.{VariableDeclaration}
use Rattle.es_semantic.specs.RolesOf.{binding_of, reads}
use Rattle.es_semantic.specs.declared.place.Role.{Role}
use Rattle.es_semantic.specs.declared.place.Role.TheVariants.{Binds}
use Rattle.es_resolution.specs.Declarations.{declared, declared_among, symbol_of}
use Rattle.es_resolution.specs.Named.{IsBelow, Named, NamedAll, NamedBy, NamedIn}
use Rattle.es_resolution.specs.Resolved.{Place, ResolvedAll}
use Rattle.es_resolution.specs.Single.{scopes_among}
use Rattle.es_semantic.specs.declared.place.Binding.{Binding}
use Rattle.es_steps.specs.Steps.{Site, Whole}
use Rattle.es_steps.specs.Nodes.{joined_trees}
use Rattle.es_steps.proofs.Kept.{KeptAll}
use Rattle.es_steps.proofs.Kept.Change.{sealed}
use Rattle.es_steps.proofs.Same.{same-all}
use Rattle.es_steps.proofs.Scopes.{no-scopes, no-scopes-all}
use Rattle.es_steps.proofs.Stays.{stand}
use Rattle.es_steps.proofs.Taken.{nothing_new}
use Rattle.es_steps.proofs.Written.{body_place, kept-joined, named-joined, nil-right}
use Rattle.es_export_splits.specs.SplitRule.{EachTree, FindsItself, names_of_export}
use Rattle.es_export_splits.specs.Splits.{export_of, names_of_declaration, specifiers, split_before, text_of, with_symbols}
use Rattle.es_export_splits.proofs.ExportNames.{HandedOn, IsExport, declaration-names, export_with}
use Rattle.es_export_splits.proofs.ExportNames.IsExport.{is_export}

-- NAMES OF A DECLARATION are in use

module _ (u : Text → Bool) (f : ℕ) where
  abbrev InUse : Tree → Type 0
  InUse x = (u (text_of x) ≡ true) × IsBelow f (symbol_of (label_of x))

  names-handed : (b : Binding) → HandedOn InUse (Named u f (Binds b)) (NamedBy u f (Binds b)) (NamedAll u f (Binds b)) (NamedIn u f (λ i. Binds b))
  names-handed b = record {
    names = λ l fs h. h.0;
    objects = λ l g fs h. h.1.0;
    properties = λ l g k fs h. h.1.1.0;
    defaults = λ l g fs h. h.1.0;
    rests = λ l g fs h. h.1.0;
    arrays = λ l fs h. h.1;
    elements = λ g fs h. h;
    child = λ t h. h;
    children = λ ts h. h;
    list = λ ts h. h;
    more = λ t ts h. h;
  }

  names-used : (r : Role) (k : Label) (ds : Trees) (fs : Fields) → Named u f r (node VariableDeclaration k (many ds then fs)) → EachTree InUse (names_of_declaration (node VariableDeclaration k (many ds then fs)))
  names-used r k ds fs h =
      let b = binding_of (first_text k.texts) in
      declaration-names (names-handed b) {D = Named u f (Binds b)} {Ds = NamedAll u f (Binds b)} (λ l p gs d. d.1.0) (λ t ts d. d) k ds fs h.1.0

-- THE SPECIFIERS declare nothing, and read these names

specifiers-declare : (v : Bool) (xs : List Tree) → declared_among v reads (specifiers with_symbols xs) ≡ []
specifiers-declare v [] = refl
specifiers-declare true (x ∷ xs) = specifiers-declare true xs
specifiers-declare false (x ∷ xs) = specifiers-declare false xs

specifiers-scopes : (s : ℕ) (ps : Text → Bool) (xs : List Tree) → scopes_among s ps reads (specifiers with_symbols xs) ≡ 0
specifiers-scopes s ps [] = refl
specifiers-scopes s ps (x ∷ xs) = let h = specifiers-scopes s ps xs in omega arith

specifiers-named : (u : Text → Bool) (f : ℕ) (xs : List Tree) → EachTree (InUse u f) xs → NamedAll u f reads (specifiers with_symbols xs)
specifiers-named u f [] h = tt
specifiers-named u f (x ∷ xs) h = (((tt, tt), ((h.0, tt), (((tt, tt), tt), tt))), specifiers-named u f xs h.1)

abbrev Finds : Place → Tree → Type 0
Finds p x = p.scope (text_of x) ≡ symbol_of (label_of x)

specifiers-resolved : (q : Place) (xs : List Tree) → EachTree (Finds q) xs → ResolvedAll reads (body_place q) (specifiers with_symbols xs)
specifiers-resolved q [] h = tt
specifiers-resolved q (x ∷ xs) h = ((tt, refl, ((sym h.0, refl, tt), ((tt, refl, tt), tt))), specifiers-resolved q xs h.1)

-- where they find the same from another place
found-again : (u : Text → Bool) (f : ℕ) (p q : Place) → ((y : Text) → u y ≡ true → q.scope y ≡ p.scope y) → (xs : List Tree) → EachTree (InUse u f) xs → EachTree (Finds p) xs → EachTree (Finds q) xs
found-again u f p q a [] h k = tt
found-again u f p q a (x ∷ xs) h k = (a (text_of x) h.0.0 ∙ k.0, found-again u f p q a xs h.1 k.1)

module _ (n : Site) (w : Whole) (l k : Label) (ds : Trees) (fs : Fields) where
  abbrev it : Tree
  it = node VariableDeclaration k (many ds then fs)

  abbrev exports : Tree
  exports = export_of with_symbols (export_with l it) (names_of_declaration it)

  module _ (ts : Trees) (used : NamedAll w.in_use w.free_symbol n.role (export_with l it before ts)) (found : EachTree (FindsItself n) (names_of_declaration it)) where
    in-use : EachTree (InUse w.in_use w.free_symbol) (names_of_declaration it)
    in-use = names-used w.in_use w.free_symbol n.role k ds fs used.0.1.0

    same-declared : (v : Bool) → declared_among v n.role (it before exports before ts) ≡ declared_among v n.role (export_with l it before ts)
    same-declared true = (λ i. declared true n.role it ++ ((specifiers-declare true (names_of_declaration it) i ++ []) ++ declared_among true n.role ts)) ∙ (λ i. sym (nil-right (declared true n.role it)) i ++ declared_among true n.role ts)
    same-declared false = (λ i. declared false n.role it ++ ((specifiers-declare false (names_of_declaration it) i ++ []) ++ declared_among false n.role ts)) ∙ (λ i. sym (nil-right (declared false n.role it)) i ++ declared_among false n.role ts)

    first : KeptAll (nothing_new w) n.names sealed n.role (export_with l it before ts) (it before exports before ts)
    first = record {
      lexical = same-declared false;
      hoisted = same-declared true;
      named = (used.0.1.0, (((tt, tt), (tt, (specifiers-named w.in_use w.free_symbol (names_of_declaration it) in-use, (tt, (tt, tt))))), used.1));
      scopes = λ s ps f. let g = specifiers-scopes s (λ y. false) (names_of_declaration it) in omega arith;
      new_scopes = λ s ps f.
          let g = specifiers-scopes s (λ y. false) (names_of_declaration it) in
          let a = no-scopes w.in_use w.free_symbol s f ps n.role it used.0.1.0 in
          let c = no-scopes-all w.in_use w.free_symbol s f ps n.role ts used.1 in
          omega arith;
      resolved = λ p q a ps v g d.
          let rt = stand w.in_use w.free_symbol n.role (body_place p) (body_place q) a.scope a.hoist (λ y e. refl) it used.0.1.0 d.0.2.0 in
          let rest = (same-all (nothing_new w) n.names n.role ts used.1).resolved p q a ps tt g d.1 in
          let seen = found-again w.in_use w.free_symbol n.names q (λ y e. a.scope y e ∙ (λ i. g.scope i y)) (names_of_declaration it) in-use found in
          (rt, ((tt, refl, (tt, (specifiers-resolved q (names_of_declaration it) seen, (tt, (tt, tt))))), rest));
    }

  -- behind others
  behind : (before_it after_it : Trees) → NamedAll w.in_use w.free_symbol n.role (joined_trees before_it (export_with l it before after_it)) → EachTree (FindsItself n) (names_of_declaration it) →
      KeptAll (nothing_new w) n.names sealed n.role (joined_trees before_it (export_with l it before after_it)) (joined_trees before_it (it before exports before after_it))
  behind before_it after_it used found =
      let parts = named-joined w.in_use w.free_symbol n.role before_it (export_with l it before after_it) used in
      kept-joined (nothing_new w) n.names sealed n.role before_it (export_with l it before after_it) (it before exports before after_it) parts.0 (first after_it parts.1 found)

pub split-kept : (n : Site) (w : Whole) (t : Tree) → IsExport t → (before_it after_it : Trees) → NamedAll w.in_use w.free_symbol n.role (joined_trees before_it (t before after_it)) → EachTree (FindsItself n) (names_of_export t) →
    KeptAll (nothing_new w) n.names sealed n.role (joined_trees before_it (t before after_it)) (joined_trees before_it (split_before with_symbols t after_it))
split-kept n w t (is_export l k ds fs) before_it after_it used found = behind n w l k ds fs before_it after_it used found
