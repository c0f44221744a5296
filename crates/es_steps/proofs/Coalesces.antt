-- Nullish coalescing is lawful.
use Rattle.std.proofs.Common.{arith, ◌≡◌, ℕ, refl, List, [], ◌∷◌}
use Rattle.std.specs.Prelude.{Bool, true, false}
use Rattle.es_tree.specs.Tree.{Tree, node, Label, done, ◌then◌, one}
use Rattle.es_tree.specs.declared.ast_type.AstType.TheVariants.{Identifier, LogicalExpression, ThisExpression}
use Rattle.es_semantic.specs.RolesOf.{reads}
use Rattle.es_semantic.specs.declared.place.Role.{Role}
use Rattle.es_runs.specs.Rules.{assign_node, tested}
use Rattle.es_resolution.specs.Declarations.{Bound, symbol_of, declared}
use Rattle.es_steps.specs.Duplication.{is_among_symbols}
use Rattle.es_steps.specs.Nodes.{identifier}
use Rattle.es_steps.specs.NullishCoalescing.{NullishCoalescingRule, reads_again}
use Rattle.es_steps.specs.NullishCoalescing.NullishCoalescingRule.{with_temporary, reading_again}
use Rattle.es_steps.specs.Steps.{Whole, Site}
use Rattle.es_steps.proofs.Duplicates.{never-and}
use Rattle.es_steps.proofs.Made.{standing, Makes, part, temporary, fits-stored, fits-tested, Counts, counts-self, counts-stored, Silent, silent-name, silent-temporary, plain-conditional, plain-logical}
use Rattle.es_steps.proofs.Temporaries.{knowing, all-seen, one-taken}
use Rattle.es_steps.proofs.Written.{nil-right}

again-silent : (steady : ℕ → Bool) (e : Tree) → reads_again steady e ≡ true → Silent reads e
again-silent steady (node ThisExpression l done) e = record { declares = λ v. refl; scopes = λ s. refl }
again-silent steady (node Identifier l done) e = silent-name _ l done refl
again-silent steady (node Identifier l (f then fs)) e = absurd (never-and (is_among_symbols steady (symbol_of l)) e)
again-silent steady _ e = absurd (cc e)

counts-tested : (r : Role) (m : Label) (l begin again e : Tree) → Counts reads reads l begin → Silent reads again → Counts r r (node LogicalExpression m (one l then one e then done)) (tested m begin again e)
counts-tested r m l begin again e c z = record { declares = λ v. at v; scopes = λ s. let x = c.scopes s in let y = z.scopes s in omega arith }
  where
    at : (v : Bool) → declared v r (tested m begin again e) ≡ declared v r (node LogicalExpression m (one l then one e then done))
    at true = simp (c.declares true, z.declares true, nil-right)
    at false = simp (c.declares false, z.declares false, nil-right)

pub coalescing-makes : (n : Site) (w : Whole) (bs : List Bound) (t u : Tree) → NullishCoalescingRule n w bs t u → Makes n w bs t u
coalescing-makes n w bs t u (with_temporary {m = m} {l = l} {r = e} {x = x} texts again next) =
    let taken = one-taken w _ x next in
    let k = knowing w (x ∷ []) taken in
    let seen = (all-seen k).0 in
    let fl = part k n.names (standing n t) reads l (λ h. h.1.0) (λ p d. d.2.0) (λ q d. d.1.0) in
    let fe = part k n.names (standing n t) reads e (λ h. h.1.1.0) (λ p d. d.2.1.0) (λ q d. d.1.1.0) in
    record {
      taken = taken;
      old = plain-logical m _;
      made = plain-conditional _ _;
      counts = counts-tested n.role m l (assign_node (identifier x) l) (identifier x) e (counts-stored x l) (silent-temporary _ x);
      fits = fits-tested k n.names (standing n t) n.role m (assign_node (identifier x) l) (identifier x) e (fits-stored k n.names _ x l seen fl) (temporary k n.names _ _ x seen) fe;
    }
coalescing-makes n w bs t u (reading_again {m = m} {l = l} {r = e} texts again) =
    let k = knowing w [] tt in
    let fl = part k n.names (standing n t) reads l (λ h. h.1.0) (λ p d. d.2.0) (λ q d. d.1.0) in
    let fe = part k n.names (standing n t) reads e (λ h. h.1.1.0) (λ p d. d.2.1.0) (λ q d. d.1.1.0) in
    record {
      taken = tt;
      old = plain-logical m _;
      made = plain-conditional _ _;
      counts = counts-tested n.role m l l l e (counts-self reads l) (again-silent w.steady l again);
      fits = fits-tested k n.names (standing n t) n.role m l l e fl fl fe;
    }
