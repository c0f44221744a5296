-- A node, once its parts were walked: it stays, or its fields become others.
use Rattle.std.proofs.Common.{◌≡◌, ◌∙◌, ◌++◌, ◌+◌, List, [], ap, append-nil, length, refl, subst, sym, ℕ}
use Rattle.std.specs.Prelude.{Bool, false, if◌then◌else◌, true}
use Rattle.es_tree.specs.Tree.{Tree, Trees, node, Label, Fields, fields_of, kind_of, label_of, missing, one, many, statements}
use Rattle.es_tree.specs.declared.ast_type.AstType.{AstType}
use Rattle.es_tree.specs.Words.{Text}
use Rattle.es_scope.specs.Uids.{made, uses}
use Rattle.es_scope.specs.declared.uids.UidGenerator.{UidGenerator}
use Rattle.es_pattern_moves.specs.Moved.{AreFresh, Makes, MovesTo, count_here, moved, moved_among, moved_by, moved_fields, moved_in, plainly}
use Rattle.es_pattern_moves.specs.PatternMoves.{moves_pattern}
use Rattle.lower_pattern_moves.specs.Moves.{MovesAs}
use Rattle.lower_pattern_moves.specs.Parts.{moved_fields_of, moved_node}
use Rattle.lower_pattern_moves.proofs.Names.{fresh-same}
use Rattle.lower_pattern_moves.proofs.Moving.{moves-none, moves-part, moves-through}

-- ONE NODE

node-stays : (t : Tree) → moves_pattern (kind_of t) (label_of t) (fields_of t) ≡ false → (m : Makes) (n : ℕ) → moved_node m n t ≡ (n, t)
node-stays (node k l fs) h m n = ap (λ b. if b then (n + count_here k fs, node k l (moved_fields m n k fs)) else (n, node k l fs)) h

pub stays : (a : UidGenerator) (t : Tree) → moves_pattern (kind_of t) (label_of t) (fields_of t) ≡ false → MovesAs moved_node a a t t
stays a t h = moves-none moved_node a t t (node-stays t h)

pub becomes : (a b : UidGenerator) (k : AstType) (l : Label) (fs gs : Fields) → moves_pattern k l fs ≡ true → MovesAs (moved_fields_of k) a b fs gs → MovesAs moved_node a b (node k l fs) (node k l gs)
becomes a b k l fs gs h s =
    moves-part (moved_fields_of k) moved_node (λ hs. node k l hs) (node k l fs) (λ m n. ap (λ b. if b then (n + count_here k fs, node k l (moved_fields m n k fs)) else (n, node k l fs)) h) s

pub whole : (a b c : UidGenerator) (k : AstType) (l : Label) (fs gs : Fields) (u : Tree) → MovesAs moved_in a b fs gs → MovesAs moved_node b c (node k l gs) u → MovesAs moved a c (node k l fs) u
whole a b c k l fs gs u s s' = moves-through moved_in moved_node moved (λ hs. node k l hs) (node k l fs) (λ m n. refl) s s'

-- WHAT STANDS IN A FIELD

pub one-moved : (a b : UidGenerator) (t u : Tree) → MovesAs moved a b t u → MovesAs moved_by a b (one t) (one u)
one-moved a b t u s = moves-part moved moved_by (λ v. one v) (one t) (λ m n. refl) s

pub many-moved : (a b : UidGenerator) (ts us : Trees) → MovesAs moved_among a b ts us → MovesAs moved_by a b (many ts) (many us)
many-moved a b ts us s = moves-part moved_among moved_by (λ vs. many vs) (many ts) (λ m n. refl) s

pub statements-moved : (a b : UidGenerator) (ts us : Trees) → MovesAs moved_among a b ts us → MovesAs moved_by a b (statements ts) (statements us)
statements-moved a b ts us s = moves-part moved_among moved_by (λ vs. statements vs) (statements ts) (λ m n. refl) s

pub missing-moved : (a : UidGenerator) → MovesAs moved_by a a missing missing
missing-moved a = moves-none moved_by a missing missing (λ m n. refl)

-- THE PROGRAM

pub moves-to : (a b : UidGenerator) (in_use : Text → Bool) (p q : Tree) (names : List Text) → ((x : Text) → uses a x ≡ in_use x) → made a ≡ [] → MovesAs moved a b p q → names ≡ made b → MovesTo in_use p q names
moves-to a b in_use p q names e none s is =
    let start : moved (plainly (made b)) 0 p ≡ (length (made b), q) = ap (λ ns. moved (plainly (made b)) (length ns) p) (sym none) ∙ s.becomes (made b) ([], sym (append-nil (made b))) in
    let same : made b ≡ s.names = s.makes.made_is ∙ ap (λ ns. ns ++ s.names) none in
    let there : MovesTo in_use p q (made b) = record {
      fresh = subst (AreFresh in_use) (sym same) (fresh-same (uses a) in_use s.names e s.makes.fresh);
      count = ap (λ r. r.0) start;
      tree = sym (ap (λ r. r.1) start);
    } in
    subst (MovesTo in_use p q) (sym is) there
