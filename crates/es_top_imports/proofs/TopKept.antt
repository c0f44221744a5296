-- A statement that imports, in the middle of a list: it declares its name, and what stood there stays.
use Rattle.std.proofs.Common.{arith, ◌<◌, ◌+◌, ◌≡◌, refl, sym, ap, ◌∙◌, List, [], ◌∷◌}
use Rattle.std.specs.Prelude.{Bool, true, false, ◌||◌, Some, None, codes}
use Rattle.std.specs.List.{list_any}
use Rattle.es_tree.specs.Words.{Text}
use Rattle.es_tree.specs.Tree.{Tree, Trees, ◌before◌}
use Rattle.es_resolution.specs.Declarations.{Bound, sought, declared_among}
use Rattle.es_resolution.specs.Named.{NamedAll}
use Rattle.es_resolution.proofs.Basics.{either_of, sought-append}
use Rattle.es_resolution.proofs.MoreNames.{named-more-all}
use Rattle.es_steps.specs.Nodes.{joined_trees}
use Rattle.es_steps.specs.Rules.{next_name}
use Rattle.es_steps.specs.Steps.{Site, Whole}
use Rattle.es_steps.proofs.Kept.{Adds, Change, KeptAll, Known, plain}
use Rattle.es_steps.proofs.Kept.Change.{below, lexed}
use Rattle.es_steps.proofs.OneName.{it-found, it-used, knowing, lower, not-sought}
use Rattle.es_steps.proofs.Same.{any-parameters, plain-agree, same-all}
use Rattle.es_steps.proofs.Scopes.{no-scopes-all}
use Rattle.es_steps.proofs.Written.{kept-joined, named-joined}
use Rattle.es_top_imports.specs.TopImports.{top_of}

-- how the name is declared: an import's in the scope of the module, that of a `var` around
abbrev pub change_of : Bool → Change
change_of true = lexed
change_of false = below

-- where `require` is unbound and in use, for a script
abbrev pub KnowsRequire : Bool → Site → Whole → Type 0
KnowsRequire in_module n w = in_module ≡ false → (n.names.scope (codes "require") ≡ None) × (w.in_use (codes "require") ≡ true)

module _ (n : Site) (w : Whole) (source x : Text) (free : w.in_use x ≡ false) where
  abbrev it : Bound
  it = next_name w x

  abbrev known : Known
  known = knowing w x free

  -- the statement
  abbrev pub the_statement : Bool → Tree
  the_statement in_module = top_of in_module (record { source = source; local = next_name w x })

  adds-it : (ds : List Bound) → Adds known ds (it ∷ ds)
  adds-it ds = record {
    used = λ y u. sought-append (it ∷ []) ds y ∙ ap (λ z. either_of z (sought ds y)) (not-sought w x free y u);
    new = λ y o g. sought-append (it ∷ []) ds y ∙ ap (λ z. either_of z (sought ds y)) g;
    others = λ q g i. g.0 i || list_any q ds;
  }

  module _ (ts : Trees) (used : NamedAll w.in_use w.free_symbol n.role ts) where
    still-named : NamedAll known.in_use_after (w.free_symbol + 1) n.role ts
    still-named = named-more-all w.in_use known.in_use_after known.more w.free_symbol (w.free_symbol + 1) known.freer n.role ts used

    name-used : (known.in_use_after x ≡ true) × (w.free_symbol < w.free_symbol + 1)
    name-used = (it-used w x free, lower w.free_symbol)

    import-first : KeptAll known n.names lexed n.role ts (the_statement true before ts)
    import-first = record {
      lexical = adds-it (declared_among false n.role ts);
      hoisted = refl;
      named = (((tt, tt), ((((tt, tt), ((name-used, tt), tt)), tt), (((tt, tt), tt), (tt, tt)))), still-named);
      scopes = λ z ps d. omega arith;
      new_scopes = λ z ps d. let f = no-scopes-all w.in_use w.free_symbol z d ps n.role ts used in omega arith;
      resolved = λ p q a ps v k d.
          let rest = (same-all (plain known) n.names n.role ts used).resolved p q (plain-agree known p q a) (any-parameters known lexed p q ps) tt k d in
          let seen = sym (v x (Some w.free_symbol) (it-found w x free)) in
          ((tt, refl, (((tt, refl, (((seen, refl), refl, tt), tt)), tt), ((tt, refl, tt), (tt, tt)))), rest);
    }

    require-first : KnowsRequire false n w → KeptAll known n.names below n.role ts (the_statement false before ts)
    require-first knows = record {
      lexical = refl;
      hoisted = adds-it (declared_among true n.role ts);
      named = (((tt, tt), ((((tt, tt), ((name-used, tt), (((tt, tt), (((known.more (codes "require") (knows refl).1, tt), tt), ((((tt, tt), tt), tt), tt))), tt))), tt), tt)), still-named);
      scopes = λ z ps d. omega arith;
      new_scopes = λ z ps d. let f = no-scopes-all w.in_use w.free_symbol z d ps n.role ts used in omega arith;
      resolved = λ p q a ps v k d.
          let rest = (same-all (plain known) n.names n.role ts used).resolved p q (plain-agree known p q a) (any-parameters known below p q ps) tt k d in
          let seen = sym (v.hoist x (Some w.free_symbol) (it-found w x free)) in
          let unbound = sym (a.scope (codes "require") (knows refl).1 ∙ (λ i. k.scope i (codes "require")) ∙ (knows refl).0) in
          ((tt, refl, (((tt, refl, (((seen, refl), refl, tt), ((tt, refl, ((unbound, refl, tt), (((tt, refl, tt), tt), tt))), tt))), tt), tt)), rest);
    }

    first : (in_module : Bool) → KnowsRequire in_module n w → KeptAll known n.names (change_of in_module) n.role ts (the_statement in_module before ts)
    first true knows = import-first
    first false knows = require-first knows

  -- behind others
  pub behind : (in_module : Bool) → KnowsRequire in_module n w → (before_it after_it : Trees) → NamedAll w.in_use w.free_symbol n.role (joined_trees before_it after_it) → KeptAll known n.names (change_of in_module) n.role (joined_trees before_it after_it) (joined_trees before_it (the_statement in_module before after_it))
  behind in_module knows before_it after_it used =
      let parts = named-joined w.in_use w.free_symbol n.role before_it after_it used in
      kept-joined known n.names (change_of in_module) n.role before_it after_it (the_statement in_module before after_it) parts.0 (first after_it parts.1 in_module knows)
