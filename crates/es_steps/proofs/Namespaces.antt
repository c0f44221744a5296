-- A namespace export becomes an import, whose name the program binds, and an export of it.
use Rattle.std.proofs.Common.{arith, ◌<◌, ◌+◌, ◌≡◌, refl, sym, ap, subst, ◌∙◌, List, [], ◌∷◌, ◌++◌}
use Rattle.std.specs.Prelude.{Bool, true, false, ◌||◌, Some, if◌then◌else◌}
use Rattle.std.specs.List.{list_any}
use Rattle.es_tree.specs.Words.{Text}
use Rattle.es_tree.specs.Tree.{Tree, node, Label, done, ◌then◌, one, many, Trees, empty, ◌before◌}
use Rattle.es_tree.specs.declared.ast_type.AstType.TheVariants.{ExportAllDeclaration}
use Rattle.es_semantic.specs.RolesOf.{reads}
use Rattle.es_semantic.specs.declared.place.Role.{Role}
use Rattle.es_semantic.specs.declared.place.Role.TheVariants.{Nothing}
use Rattle.es_resolution.specs.Declarations.{Bound, sought, declared, declared_among}
use Rattle.es_resolution.specs.Resolved.{Place, Resolved, ResolvedAll}
use Rattle.es_resolution.specs.Named.{Named, NamedAll}
use Rattle.es_steps.specs.Nodes.{placed, identifier, export_node, specifier_node, joined_trees}
use Rattle.es_steps.specs.Open.{flanks_with}
use Rattle.es_steps.specs.Steps.{Whole, Ledger, Site, Spot}
use Rattle.es_steps.specs.Steps.Spot.{at_node, at_beside}
use Rattle.es_steps.specs.NamespaceExports.{namespace_import, NamespaceRule}
use Rattle.es_steps.specs.Rules.{next_name}
use Rattle.es_steps.specs.Patterns.{IsSilent}
use Rattle.es_steps.specs.NamespaceExports.NamespaceRule.{exports}
use Rattle.es_steps.proofs.Kept.{Known, plain, Adds, Agree, KeptAll}
use Rattle.es_steps.proofs.Kept.Change.{lexed}
use Rattle.es_resolution.proofs.MoreNames.{named-more, named-more-all}
use Rattle.es_steps.proofs.Scopes.{no-scopes, no-scopes-all}
use Rattle.es_steps.proofs.Same.{same, same-all, plain-agree, any-parameters}
use Rattle.es_resolution.proofs.Basics.{either_of, sought-append}
use Rattle.es_steps.proofs.Written.{body_place, nil-right, join-named, declared-joined, scopes-joined, resolved-joined, resolved-parts}
use Rattle.es_steps.proofs.Taken.{whole_in, ListsKept, Outcome, Lawful}
use Rattle.es_steps.proofs.OneName.{one-taken, knowing, lower, it-found, it-used, not-sought}

-- what stands in a field of a node that makes no scope, and in one of another
pub in-plain-place : (n : Known) (r : Role) (p q : Place) → Agree n p q → (t : Tree) → Named n.in_use n.free r t → Resolved r (body_place p) t → Resolved r (body_place q) t
in-plain-place n r p q a t used d = (same (plain n) (body_place p) r t used).resolved (body_place p) (body_place q) (record { scope = a.scope; hoist = a.hoist }) (λ e. record { used = λ y u. refl; new = λ f y o g. refl }) tt (record { scope = refl; parameters = λ e. refl }) d

pub in-plain-places : (n : Known) (r : Role) (p q : Place) → Agree n p q → (ts : Trees) → NamedAll n.in_use n.free r ts → ResolvedAll r (body_place p) ts → ResolvedAll r (body_place q) ts
in-plain-places n r p q a ts used d = (same-all (plain n) (body_place p) r ts used).resolved (body_place p) (body_place q) (record { scope = a.scope; hoist = a.hoist }) (record { used = λ y u. refl; new = λ f y o g. refl }) tt (record { scope = refl; parameters = λ e. refl }) d

module _ (n : Site) (w : Whole) (m : Label) (e s : Tree) (attributes : Trees) (x : Text) (free : w.in_use x ≡ false) (quiet : IsSilent Nothing e) (quiet-source : IsSilent reads s) (quiet-attributes : (v : Bool) → declared_among v reads attributes ≡ []) (used : Named w.in_use w.free_symbol n.role (node ExportAllDeclaration m (one e then one s then many attributes then done))) where
  abbrev it : Bound
  it = next_name w x

  abbrev before_it : Trees
  before_it = node ExportAllDeclaration m (one e then one s then many attributes then done) before empty

  abbrev the_import : Tree
  the_import = placed m (namespace_import it s attributes)

  abbrev the_export : Trees
  the_export = export_node (specifier_node (identifier it) e ∷ []) before empty

  nothing-before : (v : Bool) → declared_among v n.role before_it ≡ []
  nothing-before true = rw (quiet true, quiet-source true, quiet-attributes true)
  nothing-before false = rw (quiet false, quiet-source false, quiet-attributes false)

  import-declares : declared false n.role the_import ≡ it ∷ []
  import-declares = rw (quiet-source false, quiet-attributes false)

  import-vars : declared true n.role the_import ≡ []
  import-vars = rw (quiet-source true, quiet-attributes true)

  export-declares : (v : Bool) → declared_among v n.role the_export ≡ []
  export-declares true = rw (quiet true)
  export-declares false = rw (quiet false)

  -- where the statements bs stand before it
  module _ (bs : Trees) (others : NamedAll w.in_use w.free_symbol n.role bs) where
    before-is : (v : Bool) → declared_among v n.role (joined_trees bs before_it) ≡ declared_among v n.role bs
    before-is v = declared-joined v n.role bs before_it ∙ (λ i. declared_among v n.role bs ++ nothing-before v i) ∙ nil-right (declared_among v n.role bs)

    rest-is : (v : Bool) → declared_among v n.role (joined_trees bs the_export) ≡ declared_among v n.role bs
    rest-is v = declared-joined v n.role bs the_export ∙ (λ i. declared_among v n.role bs ++ export-declares v i) ∙ nil-right (declared_among v n.role bs)

    adds-it : (ds : List Bound) → Adds (knowing w x free) ds (it ∷ ds)
    adds-it ds = record {
      used = λ y u. sought-append (it ∷ []) ds y ∙ ap (λ z. either_of z (sought ds y)) (not-sought w x free y u);
      new = λ y o g. sought-append (it ∷ []) ds y ∙ ap (λ z. either_of z (sought ds y)) g;
      others = λ q g i. g.0 i || list_any q ds;
    }

    pub exported : KeptAll (knowing w x free) n.names lexed n.role (joined_trees bs before_it) (the_import before joined_trees bs the_export)
    exported = record {
      lexical =
          subst (λ (z : List Bound). Adds (knowing w x free) z (declared_among false n.role (the_import before joined_trees bs the_export))) (sym (before-is false))
          (subst (λ (z : List Bound). Adds (knowing w x free) (declared_among false n.role bs) z) (sym (λ i. import-declares i ++ rest-is false i)) (adds-it (declared_among false n.role bs)));
      hoisted = (λ i. import-vars i ++ rest-is true i) ∙ sym (before-is true);
      named =
          let k = knowing w x free in
          let ne = named-more w.in_use k.in_use_after k.more w.free_symbol (w.free_symbol + 1) k.freer Nothing e used.1.0 in
          let ns = named-more w.in_use k.in_use_after k.more w.free_symbol (w.free_symbol + 1) k.freer reads s used.1.1.0 in
          let na = named-more-all w.in_use k.in_use_after k.more w.free_symbol (w.free_symbol + 1) k.freer reads attributes used.1.1.1.0 in
          let nb = named-more-all w.in_use k.in_use_after k.more w.free_symbol (w.free_symbol + 1) k.freer n.role bs others in
          let ni : ((k.in_use_after x ≡ true) × (w.free_symbol < w.free_symbol + 1)) × Unit {0} = ((it-used w x free, lower w.free_symbol), tt) in
          (((tt, tt), ((((tt, tt), (ni, tt)), tt), (ns, (na, tt)))), join-named k.in_use_after (w.free_symbol + 1) n.role bs the_export nb ((((tt, tt), (tt, ((((tt, tt), (ni, (ne, tt))), tt), (tt, (tt, tt)))))), tt));
      scopes = λ z ps d. let a = scopes-joined z ps n.role bs before_it in let b = scopes-joined z ps n.role bs the_export in omega arith;
      new_scopes = λ z ps d.
          let a = no-scopes w.in_use w.free_symbol z d (λ y. false) Nothing e used.1.0 in
          let b = no-scopes w.in_use w.free_symbol z d (λ y. false) reads s used.1.1.0 in
          let c = no-scopes-all w.in_use w.free_symbol z d (λ y. false) reads attributes used.1.1.1.0 in
          let f = no-scopes-all w.in_use w.free_symbol z d ps n.role bs others in
          let g = scopes-joined z ps n.role bs the_export in
          omega arith;
      resolved = λ p q a ps v k d.
          let kn = knowing w x free in
          let parts = resolved-parts n.role p bs before_it d in
          let re = in-plain-place kn Nothing p q a e used.1.0 parts.1.0.2.0 in
          let rs = in-plain-place kn reads p q a s used.1.1.0 parts.1.0.2.1.0 in
          let ra = in-plain-places kn reads p q a attributes used.1.1.1.0 parts.1.0.2.1.1.0 in
          let rb = (same-all (plain kn) n.names n.role bs others).resolved p q (plain-agree kn p q a) (any-parameters kn lexed p q ps) tt k parts.0 in
          let seen = sym (v x (Some w.free_symbol) (it-found w x free)) in
          ((tt, refl, (((tt, refl, (((seen, refl), refl, tt), tt)), tt), (rs, (ra, tt)))), resolved-joined n.role q bs the_export rb ((tt, refl, (tt, (((tt, refl, ((seen, refl, tt), (re, tt))), tt), (tt, (tt, tt))))), tt));
    }

abbrev pub IsFlanking : Spot → Spot → Type 0
IsFlanking (at_node t) (at_beside bs u cs) = Unit {0}
IsFlanking x y = ⊥

pub exports-nodes : {n : Site} {s s' : Ledger} {x y : Spot} → NamespaceRule n s x s' y → IsFlanking x y
exports-nodes (exports top fresh q r t) = tt

pub namespace-lawful : Lawful NamespaceRule
namespace-lawful = record { at_nodes = λ n s s' t u h used called. absurd (exports-nodes h); flanking = nodes; at_lists = λ n s s' p q x y a b ts us h used. absurd (exports-nodes h); at_bodies = λ n s s' p t u h. absurd (exports-nodes h); unflanking = λ n s s' t bs cs us h. absurd (exports-nodes h) }
  where
    nodes : (n : Site) (s s' : Ledger) (t u : Tree) (bs cs : List Tree) → NamespaceRule n s (at_node t) s' (at_beside bs u cs) → Named (whole_in s).in_use (whole_in s).free_symbol n.role t → Outcome (ListsKept n (t before empty) (flanks_with bs u cs empty)) s s'
    nodes n s s' t u bs cs (exports {w = w} {p = p} {y = y} {a = a} {m = m} {e = e} {s = src} {attributes = attributes} {x = x} top fresh q r o) used =
        one-taken p y a w x fresh.free lexed refl (record { bare = exported n w m e src attributes x fresh.free q r o used empty tt; with_others = λ others g. exported n w m e src attributes x fresh.free q r o used others g; growing = λ g. absurd (cc g) })
