-- The walk: lists and fields, what stands in a field, a node once its parts were walked, and the program.
use Rattle.std.proofs.Common.{◌≡◌, ◌∙◌, ◌++◌, ◌∷◌, List, [], ap, append-nil, length, refl, subst, suc, sym, ℕ}
use Rattle.std.specs.Prelude.{Bool, false, if◌then◌else◌, true}
use Rattle.es_tree.specs.Tree.{Tree, Trees, node, Label, Fields, ◌then◌, Field, empty, ◌before◌, fields_of, kind_of, label_of, missing, one, many, statements, trees}
use Rattle.es_tree.specs.Views.{plain_field, plain_fields}
use Rattle.es_tree.specs.Words.{Text}
use Rattle.es_tree.specs.declared.ast_type.AstType.{AstType}
use Rattle.es_tree.specs.declared.node.Field.{Field as NodeField}
use Rattle.es_scope.specs.Uids.{made, uses}
use Rattle.es_scope.specs.declared.uids.UidGenerator.{UidGenerator}
use Rattle.es_steps.specs.Nodes.{joined_trees}
use Rattle.es_pattern_moves.specs.Moved.{Makes, plainly}
use Rattle.es_using_heads.specs.Heads.{HeadsTo, headed, headed_among, headed_by, headed_fields, headed_in, moves_using}
use Rattle.lower_using_heads.specs.FreshHeads.{Fresh, FreshAmong, FreshBy, FreshIn}
use Rattle.lower_fresh_names.specs.Walks.{Along, IsAlong, with_names}
use Rattle.lower_fresh_names.proofs.Along.{field_added, fields-added, trees-added}
use Rattle.lower_fresh_names.proofs.Walks.{walks-none, walks-part, walks-through}
use Rattle.lower_using_heads.specs.Parts.{FreshFields, FreshNode, HeadsAs, headed_node, loop_fields}

-- LISTS OF NODES

abbrev pub lists : Along Tree Trees Tree
lists = record {
  whole = trees;
  part = λ t. t;
  with_part = λ ts t. joined_trees ts (t before empty);
  move_whole = λ names n ts. headed_among (plainly names) n ts;
  move_part = λ i names n t. headed (plainly names) n t;
  whole_fresh = FreshAmong;
  part_fresh = λ i. Fresh;
}

among-more : (m : Makes) (n : ℕ) (xs : List Tree) (t : Tree) → headed_among m n (trees (xs ++ t ∷ [])) ≡ ((headed m (headed_among m n (trees xs)).0 t).0, joined_trees (headed_among m n (trees xs)).1 ((headed m (headed_among m n (trees xs)).0 t).1 before empty))
among-more m n [] t = refl
among-more m n (x ∷ xs) t = ap (λ r. (r.0, (headed m n x).1 before r.1)) (among-more m (headed m n x).0 xs t)

among-fresh : (in_use : Text → Bool) (names : List Text) (n : ℕ) (xs : List Tree) (t : Tree) → FreshAmong in_use names n (trees xs) → Fresh in_use names (headed_among (plainly names) n (trees xs)).0 t → FreshAmong in_use names n (trees (xs ++ t ∷ []))
among-fresh in_use names n [] t h k = (k, tt)
among-fresh in_use names n (x ∷ xs) t h k = (h.0, among-fresh in_use names (headed (plainly names) n x).0 xs t h.1 k)

pub lists-along : IsAlong lists
lists-along = record {
  added = trees-added;
  none = λ names n. refl;
  more = λ names n xs t. among-more (plainly names) n xs t;
  none_fresh = λ in_use names n. tt;
  more_fresh = among-fresh;
}

-- FIELDS

abbrev pub fields : Along NodeField Fields Field
fields = record {
  whole = plain_fields;
  part = plain_field;
  with_part = field_added;
  move_whole = λ names n fs. headed_in (plainly names) n fs;
  move_part = λ i names n f. headed_by (plainly names) n f;
  whole_fresh = FreshIn;
  part_fresh = λ i. FreshBy;
}

in-more : (m : Makes) (n : ℕ) (xs : List NodeField) (x : NodeField) → headed_in m n (plain_fields (xs ++ x ∷ [])) ≡ ((headed_by m (headed_in m n (plain_fields xs)).0 (plain_field x)).0, field_added (headed_in m n (plain_fields xs)).1 (headed_by m (headed_in m n (plain_fields xs)).0 (plain_field x)).1)
in-more m n [] x = refl
in-more m n (y ∷ xs) x = ap (λ r. (r.0, (headed_by m n (plain_field y)).1 then r.1)) (in-more m (headed_by m n (plain_field y)).0 xs x)

in-fresh : (in_use : Text → Bool) (names : List Text) (n : ℕ) (xs : List NodeField) (x : NodeField) → FreshIn in_use names n (plain_fields xs) → FreshBy in_use names (headed_in (plainly names) n (plain_fields xs)).0 (plain_field x) → FreshIn in_use names n (plain_fields (xs ++ x ∷ []))
in-fresh in_use names n [] x h k = (k, tt)
in-fresh in_use names n (y ∷ xs) x h k = (h.0, in-fresh in_use names (headed_by (plainly names) n (plain_field y)).0 xs x h.1 k)

pub fields-along : IsAlong fields
fields-along = record {
  added = fields-added;
  none = λ names n. refl;
  more = λ names n xs x. in-more (plainly names) n xs x;
  none_fresh = λ in_use names n. tt;
  more_fresh = in-fresh;
}

-- WHAT STANDS IN A FIELD

pub missing-walks : (a : UidGenerator) → HeadsAs headed_by FreshBy a a missing missing
missing-walks a = walks-none (λ names n f. headed_by (plainly names) n f) FreshBy a missing missing (λ names n. refl) (λ in_use names n. tt)

pub one-walks : (a b : UidGenerator) (t u : Tree) → HeadsAs headed Fresh a b t u → HeadsAs headed_by FreshBy a b (one t) (one u)
one-walks a b t u s = walks-part (λ names n v. headed (plainly names) n v) Fresh (λ names n f. headed_by (plainly names) n f) FreshBy (λ v. one v) (one t) (λ names n. refl) (λ in_use names n h. h) s

pub many-walks : (a b : UidGenerator) (ts us : Trees) → HeadsAs headed_among FreshAmong a b ts us → HeadsAs headed_by FreshBy a b (many ts) (many us)
many-walks a b ts us s = walks-part (λ names n vs. headed_among (plainly names) n vs) FreshAmong (λ names n f. headed_by (plainly names) n f) FreshBy (λ vs. many vs) (many ts) (λ names n. refl) (λ in_use names n h. h) s

pub statements-walk : (a b : UidGenerator) (ts us : Trees) → HeadsAs headed_among FreshAmong a b ts us → HeadsAs headed_by FreshBy a b (statements ts) (statements us)
statements-walk a b ts us s = walks-part (λ names n vs. headed_among (plainly names) n vs) FreshAmong (λ names n f. headed_by (plainly names) n f) FreshBy (λ vs. statements vs) (statements ts) (λ names n. refl) (λ in_use names n h. h) s

-- A NODE, once its parts were walked: it stays, or its fields become others

node-stays : (t : Tree) → moves_using (kind_of t) (label_of t) (fields_of t) ≡ false → (m : Makes) (n : ℕ) → headed_node m n t ≡ (n, t)
node-stays (node k l fs) h m n = ap (λ b. if b then (suc n, node k l (headed_fields m n fs)) else (n, node k l fs)) h

node-fresh : (t : Tree) → moves_using (kind_of t) (label_of t) (fields_of t) ≡ false → (in_use : Text → Bool) (names : List Text) (n : ℕ) → FreshNode in_use names n t
node-fresh (node k l fs) h in_use names n = λ e. absurd (cc (e, h))

pub stays : (a : UidGenerator) (t : Tree) → moves_using (kind_of t) (label_of t) (fields_of t) ≡ false → HeadsAs headed_node FreshNode a a t t
stays a t h = walks-none (λ names n v. headed_node (plainly names) n v) FreshNode a t t (λ names n. node-stays t h (plainly names) n) (node-fresh t h)

pub becomes : (a b : UidGenerator) (k : AstType) (l : Label) (fs gs : Fields) → moves_using k l fs ≡ true → HeadsAs loop_fields FreshFields a b fs gs → HeadsAs headed_node FreshNode a b (node k l fs) (node k l gs)
becomes a b k l fs gs h s =
    walks-part (λ names n hs. loop_fields (plainly names) n hs) FreshFields (λ names n v. headed_node (plainly names) n v) FreshNode (λ hs. node k l hs) (node k l fs)
    (λ names n. ap (λ b. if b then (suc n, node k l (headed_fields (plainly names) n fs)) else (n, node k l fs)) h) (λ in_use names n p e. p) s

pub whole : (a b c : UidGenerator) (k : AstType) (l : Label) (fs gs : Fields) (u : Tree) → HeadsAs headed_in FreshIn a b fs gs → HeadsAs headed_node FreshNode b c (node k l gs) u → HeadsAs headed Fresh a c (node k l fs) u
whole a b c k l fs gs u s s' =
    walks-through (λ names n hs. headed_in (plainly names) n hs) FreshIn (λ names n v. headed_node (plainly names) n v) FreshNode (λ names n v. headed (plainly names) n v) Fresh (λ hs. node k l hs) (node k l fs) (λ names n. refl) (λ in_use names n p q. (p, q)) s s'

-- THE PROGRAM

pub heads-to : (a b : UidGenerator) (in_use : Text → Bool) (p q : Tree) (names : List Text) → ((x : Text) → uses a x ≡ in_use x) → made a ≡ [] → HeadsAs headed Fresh a b p q → names ≡ made b → HeadsTo in_use p q names
heads-to a b in_use p q names e none s is =
    let start : headed (plainly (made b)) 0 p ≡ (length (made b), q) = ap (λ ns. headed (plainly (made b)) (length ns) p) (sym none) ∙ s.becomes (made b) ([], sym (append-nil (made b))) in
    let there : HeadsTo in_use p q (made b) = record {
      fresh = subst (λ ns. Fresh in_use (made b) (length ns) p) none (s.are_fresh in_use (made b) ([], sym (append-nil (made b))) (λ x. e x ∙ ap (λ ns. with_names (made b) (length ns) in_use x) (sym none)));
      count = ap (λ r. r.0) start;
      tree = sym (ap (λ r. r.1) start);
    } in
    subst (HeadsTo in_use p q) (sym is) there
