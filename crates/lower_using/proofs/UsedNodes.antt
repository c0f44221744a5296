-- A node, once its parts were walked: it stays, or `using` is lowered at it.
use Rattle.std.proofs.Common.{◌≡◌, ◌∙◌, ◌++◌, ◌+◌, ◌∷◌, List, [], ap, append-nil, arith, length, refl, subst, suc, sym, ℕ}
use Rattle.std.specs.Prelude.{Bool, false, if◌then◌else◌, true}
use Rattle.es_tree.specs.Tree.{Tree, Trees, node, Label, Fields, fields_of, kind_of, label_of, missing, one, many, statements}
use Rattle.es_tree.specs.declared.ast_type.AstType.{AstType}
use Rattle.es_tree.specs.Words.{Text}
use Rattle.es_scope.specs.Uids.{made, uses}
use Rattle.es_scope.specs.declared.uids.UidGenerator.{UidGenerator}
use Rattle.es_using_rows.specs.UsingPlaces.{uses_here}
use Rattle.es_using_rows.specs.Used.{AreFresh, Makes, UsesTo, plainly, used, used_node}
use Rattle.es_using_rows.specs.declared.standing.Standing.{Standing}
use Rattle.es_using_rows.specs.declared.standing.Standing.TheVariants.{Anywhere}
use Rattle.lower_using.specs.Parts.{BecomesBy, used_at, used_with, walked, walked_among, walked_by, walked_in}
use Rattle.lower_using.specs.Uses.{MakesNames, UsesAs}
use Rattle.lower_using.proofs.Names.{fresh-same}
use Rattle.lower_using.proofs.Using.{uses-none, uses-one, uses-part, uses-through}

-- ONE NODE

node-stays : (s : Standing) (t : Tree) → uses_here s (kind_of t) (label_of t) (fields_of t) ≡ false → (m : Makes) (n : ℕ) → used_at s m n t ≡ (n, t)
node-stays s (node k l fs) h m n = ap (λ b. if b then (suc n, used_node m s n k l fs) else (n, node k l fs)) h

pub stays : (s : Standing) (a : UidGenerator) (t : Tree) → uses_here s (kind_of t) (label_of t) (fields_of t) ≡ false → UsesAs (used_at s) a a t t
stays s a t h = uses-none (used_at s) a t t (node-stays s t h)

pub becomes : (s : Standing) (a b : UidGenerator) (c : Text) (t u : Tree) → uses_here s (kind_of t) (label_of t) (fields_of t) ≡ true → MakesNames a b (c ∷ []) → BecomesBy c (used_with s) t u → UsesAs (used_at s) a b t u
becomes s a b c (node k l fs) u h names p =
    let more : (n : ℕ) → suc n ≡ n + 1 = λ n. omega arith in
    uses-one (used_at s) a b c (node k l fs) u names
    (λ all n e. ap (λ b. if b then (suc n, used_node (plainly all) s n k l fs) else (n, node k l fs)) h ∙ (ap (λ v. (suc n, v)) (p all n e) ∙ ap (λ j. (j, u)) (more n)))

pub whole : (s : Standing) (a b c : UidGenerator) (k : AstType) (l : Label) (fs gs : Fields) (u : Tree) → UsesAs (walked_in k) a b fs gs → UsesAs (used_at s) b c (node k l gs) u → UsesAs (walked s) a c (node k l fs) u
whole s a b c k l fs gs u h h' = uses-through (walked_in k) (used_at s) (walked s) (λ hs. node k l hs) (node k l fs) (λ m n. refl) h h'

-- WHAT STANDS IN A FIELD

pub one-used : (s : Standing) (a b : UidGenerator) (t u : Tree) → UsesAs (walked s) a b t u → UsesAs (walked_by s) a b (one t) (one u)
one-used s a b t u h = uses-part (walked s) (walked_by s) (λ v. one v) (one t) (λ m n. refl) h

pub many-used : (s : Standing) (a b : UidGenerator) (ts us : Trees) → UsesAs (walked_among s) a b ts us → UsesAs (walked_by s) a b (many ts) (many us)
many-used s a b ts us h = uses-part (walked_among s) (walked_by s) (λ vs. many vs) (many ts) (λ m n. refl) h

pub statements-used : (s : Standing) (a b : UidGenerator) (ts us : Trees) → UsesAs (walked_among s) a b ts us → UsesAs (walked_by s) a b (statements ts) (statements us)
statements-used s a b ts us h = uses-part (walked_among s) (walked_by s) (λ vs. statements vs) (statements ts) (λ m n. refl) h

pub missing-used : (s : Standing) (a : UidGenerator) → UsesAs (walked_by s) a a missing missing
missing-used s a = uses-none (walked_by s) a missing missing (λ m n. refl)

-- THE PROGRAM

pub uses-to : (a b : UidGenerator) (in_use : Text → Bool) (p q : Tree) (names : List Text) → ((x : Text) → uses a x ≡ in_use x) → made a ≡ [] → UsesAs (walked Anywhere) a b p q → names ≡ made b → UsesTo in_use p q names
uses-to a b in_use p q names e none s is =
    let start : used (plainly (made b)) Anywhere 0 p ≡ (length (made b), q) = ap (λ ns. used (plainly (made b)) Anywhere (length ns) p) (sym none) ∙ s.becomes (made b) ([], sym (append-nil (made b))) in
    let same : made b ≡ s.names = s.makes.made_is ∙ ap (λ ns. ns ++ s.names) none in
    let there : UsesTo in_use p q (made b) = record {
      fresh = subst (AreFresh in_use) (sym same) (fresh-same (uses a) in_use s.names e s.makes.fresh);
      count = ap (λ r. r.0) start;
      tree = sym (ap (λ r. r.1) start);
    } in
    subst (UsesTo in_use p q) (sym is) there
