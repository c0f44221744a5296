-- Exponentiation is lawful.
use Rattle.std.proofs.Common.{arith, ◌+◌, ◌≡◌, ℕ, refl, sym, ap, subst, ◌∙◌, List, [], ◌∷◌, ◌++◌, append_assoc}
use Rattle.std.specs.Prelude.{Bool, true, false, Option, Some, None, codes, is_some}
use Rattle.es_tree.specs.Names.{first_text}
use Rattle.es_tree.specs.Parens.{without_parens}
use Rattle.es_tree.specs.Tree.{Tree, node, Label, done, ◌then◌, one, empty, ◌before◌, trees}
use Rattle.es_tree.specs.declared.ast_type.AstType.TheVariants.{AssignmentExpression, BigIntLiteral, BinaryExpression, BooleanLiteral, Identifier, MemberExpression, NullLiteral, NumericLiteral, PrivateIdentifier, StringLiteral, Super}
use Rattle.es_scope.specs.declared.flags.ReferenceFlags.{ReferenceFlags}
use Rattle.es_semantic.specs.RolesOf.{reads}
use Rattle.es_semantic.specs.declared.place.Role.{Role}
use Rattle.es_semantic.specs.declared.place.Role.TheVariants.{Refers}
use Rattle.es_runs.specs.Exponentiation.{is_literal_key, string_node}
use Rattle.es_runs.specs.Rules.{assign_node, member_node}
use Rattle.es_resolution.specs.Declarations.{Bound, symbol_of, declared, declared_among}
use Rattle.es_resolution.specs.Resolved.{Place, no_name}
use Rattle.es_resolution.specs.Single.{scopes_with, scopes_among}
use Rattle.es_steps.specs.Exponentiation.{power_at, power_node, assigned_power, stays, Holds, TargetTwice, ExponentiationRule}
use Rattle.es_steps.specs.Exponentiation.Holds.{where_it_is, in_temporary}
use Rattle.es_steps.specs.Exponentiation.TargetTwice.{bound_name, other_name, static_member, private_member, literal_key, other_key}
use Rattle.es_steps.specs.Exponentiation.ExponentiationRule.{power, power_assignment}
use Rattle.es_steps.specs.Nodes.{made, identifier, word}
use Rattle.es_steps.specs.Rules.{with_made}
use Rattle.es_steps.specs.Steps.{Whole, Site}
use Rattle.es_steps.proofs.Assigns.{old_target, new_target}
use Rattle.es_steps.proofs.Duplicates.{never-and, key-role, silent-member}
use Rattle.es_steps.proofs.Kept.{Known, Each}
use Rattle.es_steps.proofs.Made.{Source, standing, Makes, none-among, more-among, fits-string, Fits, AllFit, both-fit, listed, key_role, part, temporary, name-again, fits-bare, fits-word, fits-global, fits-stored, fits-assignment, fits-member, fits-call, fits-sequence, object-fits, key-fits, Counts, counts-bare, counts-stored, Silent, silent-name, silent-temporary, IsPlain, plain-assignment, plain-binary, plain-call, plain-sequence}
use Rattle.es_steps.proofs.Temporaries.{AreTaken, IsSeen, knowing, all-seen, each-left, each-right, one-taken, taken-append}
use Rattle.es_steps.proofs.Written.{nil-right}

-- LISTS

pub among-append : (v : Bool) (r : Role) (xs ys : List Tree) → declared_among v r (trees (xs ++ ys)) ≡ declared_among v r (trees xs) ++ declared_among v r (trees ys)
among-append v r [] ys = refl
among-append v r (x ∷ xs) ys = ap (λ bs. declared v r x ++ bs) (among-append v r xs ys) ∙ sym (append_assoc (declared v r x) (declared_among v r (trees xs)) (declared_among v r (trees ys)))

pub scopes-append : (s : ℕ) (r : Role) (xs ys : List Tree) → scopes_among s no_name r (trees (xs ++ ys)) ≡ scopes_among s no_name r (trees xs) + scopes_among s no_name r (trees ys)
scopes-append s r [] ys = omega arith
scopes-append s r (x ∷ xs) ys = let h = scopes-append s r xs ys in omega arith

-- what goes in front declares and binds what the tree does
pub record CountsAll (r : Role) (t : Tree) (fs : List Tree) : Type 0 where
  pub declares : (v : Bool) → declared_among v reads (trees fs) ≡ declared v r t
  pub scopes : (s : ℕ) → scopes_among s no_name reads (trees fs) ≡ scopes_with s no_name r t

none-of : (r : Role) (t : Tree) → Silent r t → CountsAll r t []
none-of r t z = record { declares = λ v. sym (z.declares v); scopes = λ s. sym (z.scopes s) }

one-of : (r : Role) (t f : Tree) → Counts r reads t f → CountsAll r t (f ∷ [])
one-of r t f c = record { declares = λ v. nil-right (declared v reads f) ∙ c.declares v; scopes = λ s. let h = c.scopes s in omega arith }

-- OBJECTS

stays-silent : (names : Option ℕ → Bool) (o : Tree) → stays names o ≡ true → Silent reads o
stays-silent names (node Super l done) e = record { declares = λ v. refl; scopes = λ s. refl }
stays-silent names (node Identifier l done) e = silent-name _ l done refl
stays-silent names (node Identifier l (f then fs)) e = absurd (never-and (names (symbol_of l)) e)
stays-silent names _ e = absurd (cc e)

record Held (n : Known) (b : Place) (source : Source) (fs : List Tree) (o o' : Tree) : Type 0 where
  front : AllFit n b source fs
  object : Fits n b source reads o'
  silent : Silent reads o'
  counts : CountsAll reads o fs

held : (n : Known) (b : Place) (source : Source) (names : Option ℕ → Bool) (w : Whole) (xs : List Bound) (fs : List Tree) (o o' : Tree) → Holds names w xs fs o o' → Each (IsSeen n) xs → Fits n b source reads o → Held n b source fs o o'
held n b source names w xs fs o o' (where_it_is h) seen k = record { front = tt; object = k; silent = stays-silent names o h; counts = none-of reads o (stays-silent names o h) }
held n b source names w xs fs o o' (in_temporary {x = x} h i) seen k = record { front = (fits-stored n b source x o seen.0 k, tt); object = temporary n b source _ x seen.0; silent = silent-temporary _ x; counts = one-of reads o _ (counts-stored x o) }

held-taken : (names : Option ℕ → Bool) (w : Whole) (xs : List Bound) (fs : List Tree) (o o' : Tree) → Holds names w xs fs o o' → AreTaken w.in_use w.free_symbol xs
held-taken names w xs fs o o' (where_it_is h) = tt
held-taken names w xs fs o o' (in_temporary {x = x} h k) = one-taken w _ x k

-- TARGETS

literal-silent : (k : Tree) → is_literal_key k ≡ true → Silent reads k
literal-silent (node NullLiteral l done) e = record { declares = λ v. refl; scopes = λ s. refl }
literal-silent (node BooleanLiteral l done) e = record { declares = λ v. refl; scopes = λ s. refl }
literal-silent (node NumericLiteral l done) e = record { declares = λ v. refl; scopes = λ s. refl }
literal-silent (node BigIntLiteral l done) e = record { declares = λ v. refl; scopes = λ s. refl }
literal-silent (node StringLiteral l done) e = record { declares = λ v. refl; scopes = λ s. refl }
literal-silent _ e = absurd (cc e)

-- a member's object and key go in front, or nothing of the key does
member-front : (r : Role) (l : Label) (o p : Tree) (fs gs : List Tree) → CountsAll reads o fs → CountsAll (key_role l) p gs → CountsAll r (node MemberExpression l (one o then one p then done)) (fs ++ gs)
member-front r l o p fs gs c d = record { declares = λ v. among-append v reads fs gs ∙ at v; scopes = λ s. let x = c.scopes s in let y = d.scopes s in let z = scopes-append s reads fs gs in omega arith }
  where
    at : (v : Bool) → declared_among v reads (trees fs) ++ declared_among v reads (trees gs) ≡ declared v r (node MemberExpression l (one o then one p then done))
    at true = (λ i. c.declares true i ++ d.declares true i) ∙ (λ i. declared true reads o ++ sym (nil-right (declared true (key_role l) p)) i)
    at false = (λ i. c.declares false i ++ d.declares false i) ∙ (λ i. declared false reads o ++ sym (nil-right (declared false (key_role l) p)) i)

object-front : (r : Role) (l : Label) (o p : Tree) (fs : List Tree) → CountsAll reads o fs → Silent (key_role l) p → CountsAll r (node MemberExpression l (one o then one p then done)) fs
object-front r l o p fs c z = record { declares = λ v. c.declares v ∙ at v; scopes = λ s. let x = c.scopes s in let y = z.scopes s in omega arith }
  where
    at : (v : Bool) → declared v reads o ≡ declared v r (node MemberExpression l (one o then one p then done))
    at true = sym (nil-right (declared true reads o)) ∙ (λ i. declared true reads o ++ (sym (z.declares true) i ++ []))
    at false = sym (nil-right (declared false reads o)) ∙ (λ i. declared false reads o ++ (sym (z.declares false) i ++ []))

record Twice (n : Known) (b : Place) (source : Source) (r : Role) (fs : List Tree) (t target read : Tree) : Type 0 where
  front : AllFit n b source fs
  target_fits : Fits n b source new_target target
  read_fits : Fits n b source reads read
  target_silent : Silent new_target target
  read_silent : Silent reads read
  counts : CountsAll r t fs

-- a member that is written and read
as-member : (n : Known) (b : Place) (source : Source) (r : Role) (fs : List Tree) (t o p : Tree) (computed : Bool) → AllFit n b source fs → Fits n b source reads o → Fits n b source (key_role (made [] (computed ∷ false ∷ []))) p → Silent reads o → Silent (key_role (made [] (computed ∷ false ∷ []))) p → CountsAll r t fs → Twice n b source r fs t (member_node computed o p) (member_node computed o p)
as-member n b source r fs t o p computed front f g y z c = record {
  front = front;
  target_fits = fits-member n b source new_target (made [] (computed ∷ false ∷ [])) o p (λ h. tt) f g;
  read_fits = fits-member n b source reads (made [] (computed ∷ false ∷ [])) o p (λ h. tt) f g;
  target_silent = silent-member new_target (made [] (computed ∷ false ∷ [])) o p y z;
  read_silent = silent-member reads (made [] (computed ∷ false ∷ [])) o p y z;
  counts = c;
}

module _ (n : Known) (b : Place) (source : Source) (f : ReferenceFlags) (w : Whole) where
  twice : (xs : List Bound) (fs : List Tree) (t target read : Tree) → TargetTwice w xs fs t target read → Each (IsSeen n) xs → Fits n b source (Refers f) t → Twice n b source (Refers f) fs t target read
  twice xs fs t target read (bound_name {l = l} h) seen k = record { front = tt; target_fits = name-again n b source f _ l done refl k; read_fits = name-again n b source f _ l done refl k; target_silent = silent-name _ l done refl; read_silent = silent-name _ l done refl; counts = none-of (Refers f) (node Identifier l done) (silent-name f l done refl) }
  twice xs fs t target read (other_name {l = l} {x = x} h i) seen k = record { front = (fits-stored n b source x (node Identifier l done) seen.0 (name-again n b source f _ l done refl k), tt); target_fits = name-again n b source f _ l done refl k; read_fits = temporary n b source _ x seen.0; target_silent = silent-name _ l done refl; read_silent = silent-temporary _ x; counts = one-of (Refers f) (node Identifier l done) _ (record { declares = λ v. (counts-stored x (node Identifier l done)).declares v; scopes = λ s. (counts-stored x (node Identifier l done)).scopes s }) }
  twice xs fs t target read (static_member {l = l} {k = p} {o = o} {o' = o'} flags h) seen k =
      let H = held n b source is_some w xs fs o o' h seen (object-fits n b source (Refers f) l o (node Identifier p done) k) in
      as-member n b source (Refers f) fs t o' (string_node (first_text p.texts)) true H.front H.object (fits-string n b source (first_text p.texts)) H.silent (record { declares = λ v. refl; scopes = λ s. refl }) (object-front (Refers f) l o (node Identifier p done) fs H.counts (subst (λ (r : Role). Silent r (node Identifier p done)) (sym (key-role l false false flags)) (record { declares = λ v. refl; scopes = λ s. refl })))
  twice xs fs t target read (private_member {l = l} {k = p} {o = o} {o' = o'} flags h) seen k =
      let H = held n b source is_some w xs fs o o' h seen (object-fits n b source (Refers f) l o (node PrivateIdentifier p done) k) in
      as-member n b source (Refers f) fs t o' (node PrivateIdentifier p done) false H.front H.object (subst (λ (r : Role). Fits n b source r (node PrivateIdentifier p done)) (key-role l false false flags) (key-fits n b source (Refers f) l o (node PrivateIdentifier p done) k)) H.silent (record { declares = λ v. refl; scopes = λ s. refl }) (object-front (Refers f) l o (node PrivateIdentifier p done) fs H.counts (record { declares = λ v. refl; scopes = λ s. refl }))
  twice xs fs t target read (literal_key {l = l} {o = o} {o' = o'} {k = p} flags literal h) seen k =
      let H = held n b source is_some w xs fs o o' h seen (object-fits n b source (Refers f) l o p k) in
      as-member n b source (Refers f) fs t o' p true H.front H.object (subst (λ (r : Role). Fits n b source r p) (key-role l true false flags) (key-fits n b source (Refers f) l o p k)) H.silent (literal-silent p literal) (object-front (Refers f) l o p fs H.counts (subst (λ (r : Role). Silent r p) (sym (key-role l true false flags)) (literal-silent p literal)))
  twice zs gs t target read (other_key {l = l} {o = o} {o' = o'} {k = p} {xs = xs} {fs = fs} {y = y} flags literal h next) seen k =
      let H = held n b source _ w xs fs o o' h (each-left (IsSeen n) xs (y ∷ []) seen) (object-fits n b source (Refers f) l o p k) in
      let sees = (each-right (IsSeen n) xs (y ∷ []) seen).0 in
      let key = subst (λ (r : Role). Fits n b source r p) (key-role l true false flags) (key-fits n b source (Refers f) l o p k) in
      as-member n b source (Refers f) gs t o' (identifier y) true (both-fit n b source fs (assign_node (identifier y) p ∷ []) H.front (fits-stored n b source y p sees key, tt)) H.object (temporary n b source _ y sees) H.silent (silent-temporary _ y)
      (member-front (Refers f) l o p fs (assign_node (identifier y) p ∷ []) H.counts (subst (λ (r : Role). CountsAll r p (assign_node (identifier y) p ∷ [])) (sym (key-role l true false flags)) (one-of reads p _ (counts-stored y p))))

twice-taken : (w : Whole) (xs : List Bound) (fs : List Tree) (t target read : Tree) → TargetTwice w xs fs t target read → AreTaken w.in_use w.free_symbol xs
twice-taken w xs fs t target read (bound_name h) = tt
twice-taken w xs fs t target read (other_name {x = x} h k) = one-taken w _ x k
twice-taken w xs fs t target read (static_member {o = o} {o' = o'} flags h) = held-taken _ w xs fs o o' h
twice-taken w xs fs t target read (private_member {o = o} {o' = o'} flags h) = held-taken _ w xs fs o o' h
twice-taken w xs fs t target read (literal_key {o = o} {o' = o'} flags literal h) = held-taken _ w xs fs o o' h
twice-taken w zs gs t target read (other_key {o = o} {o' = o'} {xs = xs} {fs = fs} {y = y} flags literal h next) = taken-append w.in_use w.free_symbol xs (y ∷ []) (held-taken _ w xs fs o o' h) (one-taken (with_made xs w) _ y next)

-- THE ROWS

fits-power : (n : Known) (b : Place) (source : Source) (r : Role) (m : Label) (e f : Tree) → b.scope (codes "Math") ≡ None → n.in_use (codes "Math") ≡ true → Fits n b source reads e → Fits n b source reads f → Fits n b source r (power_at m e f)
fits-power n b source r m e f unbound used h i = fits-call n b source r _ _ (e before f before empty) (λ g. tt) (fits-member n b source reads (made [] (false ∷ false ∷ [])) (word (codes "Math")) (word (codes "pow")) (λ g. tt) (fits-global n b source _ (codes "Math") unbound used) (fits-word n b source (codes "pow"))) (more-among n b source e (f before empty) h (more-among n b source f empty i (none-among n b source)))

counts-power : (r : Role) (m : Label) (e f : Tree) → Counts r r (node BinaryExpression m (one e then one f then done)) (power_at m e f)
counts-power r m e f = record { declares = λ v. at v; scopes = λ s. omega arith }
  where
    at : (v : Bool) → declared v r (power_at m e f) ≡ declared v r (node BinaryExpression m (one e then one f then done))
    at true = simp nil-right
    at false = simp nil-right

-- what is assigned declares what stands at its right
right-declares : (v : Bool) (target read e : Tree) → Silent new_target target → Silent reads read → declared_among v reads (trees (assign_node target (power_node read e) ∷ [])) ≡ declared v reads e ++ []
right-declares true target read e y z = simp (y.declares true, z.declares true, nil-right)
right-declares false target read e y z = simp (y.declares false, z.declares false, nil-right)

counts-raised : (r : Role) (m : Label) (fs : List Tree) (t target read e : Tree) → CountsAll (old_target m) t fs → Silent new_target target → Silent reads read → Counts r r (node AssignmentExpression m (one t then one e then done)) (assigned_power m fs target read e)
counts-raised r m [] t target read e c y z = record { declares = λ v. at v; scopes = λ s. let h = c.scopes s in let i = y.scopes s in let j = z.scopes s in omega arith }
  where
    at : (v : Bool) → declared v r (assigned_power m [] target read e) ≡ declared v r (node AssignmentExpression m (one t then one e then done))
    at true = simp (sym (c.declares true), y.declares true, z.declares true, nil-right)
    at false = simp (sym (c.declares false), y.declares false, z.declares false, nil-right)
counts-raised r m (f ∷ fs) t target read e c y z = record { declares = λ v. at v; scopes = λ s. let h = c.scopes s in let i = y.scopes s in let j = z.scopes s in let k = scopes-append s reads (f ∷ fs) (assign_node target (power_node read e) ∷ []) in omega arith }
  where
    at : (v : Bool) → declared v r (assigned_power m (f ∷ fs) target read e) ≡ declared v r (node AssignmentExpression m (one t then one e then done))
    at true = nil-right (declared_among true reads (trees ((f ∷ fs) ++ assign_node target (power_node read e) ∷ []))) ∙ among-append true reads (f ∷ fs) (assign_node target (power_node read e) ∷ []) ∙ (λ i. c.declares true i ++ right-declares true target read e y z i)
    at false = nil-right (declared_among false reads (trees ((f ∷ fs) ++ assign_node target (power_node read e) ∷ []))) ∙ among-append false reads (f ∷ fs) (assign_node target (power_node read e) ∷ []) ∙ (λ i. c.declares false i ++ right-declares false target read e y z i)

plain-raised : (m : Label) (fs : List Tree) (target read e : Tree) → IsPlain (assigned_power m fs target read e)
plain-raised m [] target read e = plain-assignment _ _
plain-raised m (f ∷ fs) target read e = plain-sequence _ _

fits-raised : (n : Known) (b : Place) (source : Source) (r : Role) (m : Label) (fs : List Tree) (target read e : Tree) → b.scope (codes "Math") ≡ None → n.in_use (codes "Math") ≡ true → AllFit n b source fs → Fits n b source new_target target → Fits n b source reads read → Fits n b source reads e → Fits n b source r (assigned_power m fs target read e)
fits-raised n b source r m [] target read e unbound used front f g h = fits-assignment n b source r _ target (power_node read e) (λ x. tt) f (fits-power n b source reads (made [] []) read e unbound used g h)
fits-raised n b source r m (x ∷ xs) target read e unbound used front f g h = fits-sequence n b source r _ _ (λ g. tt) (listed n b source ((x ∷ xs) ++ assign_node target (power_node read e) ∷ []) (both-fit n b source (x ∷ xs) (assign_node target (power_node read e) ∷ []) front (fits-assignment n b source reads (made (Some (codes "=") ∷ []) []) target (power_node read e) (λ y. tt) f (fits-power n b source reads (made [] []) read e unbound used g h), tt)))

pub raising-makes : (n : Site) (w : Whole) (bs : List Bound) (t u : Tree) → ExponentiationRule n w bs t u → Makes n w bs t u
raising-makes n w bs t u (power {m = m} {l = l} {r = e} math texts left right) =
    let k = knowing w [] tt in
    record {
      taken = tt;
      old = plain-binary m _;
      made = plain-call _ _;
      counts = counts-power n.role m l e;
      fits = fits-power k n.names (standing n t) n.role m l e math.unbound math.in_use (part k n.names _ reads l (λ h. h.1.0) (λ p d. d.2.0) (λ q d. d.1.0)) (part k n.names _ reads e (λ h. h.1.1.0) (λ p d. d.2.1.0) (λ q d. d.1.1.0));
    }
raising-makes n w bs t u (power_assignment {m = m} {t = t0} {r = e} {target = target} {read = read} {xs = xs} {fs = fs} math texts right alone h) =
    let taken = twice-taken w xs fs (without_parens t0) target read h in
    let k = knowing w xs taken in
    let T = twice k n.names (standing n t) _ w xs fs (without_parens t0) target read h (all-seen k) (fits-bare k n.names _ (old_target m) t0 (part k n.names _ (old_target m) t0 (λ h. h.1.0) (λ p d. d.2.0) (λ q d. d.1.0))) in
    record {
      taken = taken;
      old = plain-assignment m _;
      made = plain-raised m fs target read e;
      counts = counts-raised n.role m fs t0 target read e (record { declares = λ v. T.counts.declares v ∙ (counts-bare (old_target m) t0 alone).declares v; scopes = λ s. T.counts.scopes s ∙ (counts-bare (old_target m) t0 alone).scopes s }) T.target_silent T.read_silent;
      fits = fits-raised k n.names (standing n t) n.role m fs target read e math.unbound math.in_use T.front T.target_fits T.read_fits (part k n.names _ reads e (λ h. h.1.1.0) (λ p d. d.2.1.0) (λ q d. d.1.1.0));
    }
