-- Answers to visits, one part of them after the other.
use Rattle.std.proofs.Common.{◌≡◌, ℕ, zero, suc, ◌+◌, ◌<◌, ◌≤◌, List, [], ◌∷◌, ◌++◌, map, length, get_or, drop, append_assoc, add-one, arith, refl, ap, sym, ◌∙◌, Result, Ok, Err}
use Rattle.std.proofs.lemmas.List.{drop_more}
use Rattle.std.specs.Result.{IsErrAnd}
use Rattle.es_tree.specs.Ancestors.{Ancestor, Visit, ancestor, visit, visits, visits_in_field, visits_in_fields, visits_in_trees}
use Rattle.es_tree.specs.CoreStaticRules.{Break}
use Rattle.es_tree.specs.DeclaredNames.{Name, declared}
use Rattle.es_tree.specs.StaticRules.{IsFirstBreak, breaks_at, breaks_after, declared_by}
use Rattle.es_tree.specs.Tree.{Tree, node, Label, Fields, fields, trees, kind_of, label_of, fields_of, tree_size, field_size, fields_size, trees_size}
use Rattle.es_tree.specs.Views.{plain_field}
use Rattle.es_tree.specs.declared.ast_type.AstType.{AstType}
use Rattle.es_tree.specs.declared.error.LowerError.{LowerError}
use Rattle.es_tree.specs.declared.error.LowerError.TheVariants.{Invalid, OutOfMemory}
use Rattle.es_tree.specs.declared.error.Rule.{Rule}
use Rattle.es_tree.specs.declared.node.Field.{Field as NodeField}
use Rattle.es_static_rules.specs.Checks.{Names, Checks}

breaks_after-append : (rules : List Rule) (all earlier : List Name) (xs ys : List Visit) → breaks_after rules all earlier (xs ++ ys) ≡ breaks_after rules all earlier xs ++ breaks_after rules all (declared_by xs earlier) ys
breaks_after-append rules all earlier [] ys = refl
breaks_after-append rules all earlier (x ∷ xs) ys =
    ap (λ bs. breaks_at rules all earlier x ++ bs) (breaks_after-append rules all (declared x.ancestors x.tree ++ earlier) xs ys)
    ∙ sym (append_assoc (breaks_at rules all earlier x) _ _)

declared_by-append : (earlier : List Name) (xs ys : List Visit) → declared_by (xs ++ ys) earlier ≡ declared_by ys (declared_by xs earlier)
declared_by-append earlier [] ys = refl
declared_by-append earlier (x ∷ xs) ys = declared_by-append (declared x.ancestors x.tree ++ earlier) xs ys

pub IsFirstBreak-more : (bs more : List Break) (e : LowerError) → IsFirstBreak bs e → IsFirstBreak (bs ++ more) e
IsFirstBreak-more (b ∷ bs) more e h = h
IsFirstBreak-more [] more (Invalid rule id) h = absurd h
IsFirstBreak-more [] [] OutOfMemory h = tt
IsFirstBreak-more [] (b ∷ bs) OutOfMemory h = tt
IsFirstBreak-more [] more e h = absurd h

IsFirstBreak-memory : (bs : List Break) → IsFirstBreak bs OutOfMemory
IsFirstBreak-memory [] = tt
IsFirstBreak-memory (b ∷ bs) = tt

-- What a walk answers.
abbrev pub Answer : Type 0
Answer = Result (Unit {0}) LowerError

-- the error that is passed on
pub error_of : (r : Answer) (e : LowerError) → IsErrAnd r (λ x. x ≡ e) → r ≡ Err e
error_of (Ok u) e h = absurd h
error_of (Err x) e h = ap (λ y. Err y) h

-- VISITS

pub visits_in_trees-rest : (up : List Ancestor) (m : ℕ) (ts : List Tree) (i : ℕ) (t : Tree) → i < length ts → t ≡ get_or ts i t → visits_in_trees up m (trees (drop i ts)) ≡ visits up m t ++ visits_in_trees up (m + tree_size t) (trees (drop (i + 1) ts))
visits_in_trees-rest up m ts i t h e = ap (λ us. visits_in_trees up m (trees us)) (drop_more ts i t h ∙ ap (λ u. u ∷ drop (i + 1) ts) (sym e))

pub trees_size-rest : (ts : List Tree) (i : ℕ) (t : Tree) → i < length ts → t ≡ get_or ts i t → trees_size (trees (drop i ts)) ≡ tree_size t + trees_size (trees (drop (i + 1) ts))
trees_size-rest ts i t h e = ap (λ us. trees_size (trees us)) (drop_more ts i t h ∙ ap (λ u. u ∷ drop (i + 1) ts) (sym e))

pub visits_in_fields-rest : (up : List Ancestor) (k : AstType) (l : Label) (all : Fields) (n m : ℕ) (fs : List NodeField) (i : ℕ) (f : NodeField) → i < length fs → f ≡ get_or fs i f → visits_in_fields up k l all n i m (fields (map plain_field (drop i fs))) ≡ visits_in_field (ancestor k l all i n ∷ up) m (plain_field f) ++ visits_in_fields up k l all n (i + 1) (m + field_size (plain_field f)) (fields (map plain_field (drop (i + 1) fs)))
visits_in_fields-rest up k l all n m fs i f h e =
    ap (λ gs. visits_in_fields up k l all n i m (fields (map plain_field gs))) (drop_more fs i f h ∙ ap (λ g. g ∷ drop (i + 1) fs) (sym e))
    ∙ ap (λ j. visits_in_field (ancestor k l all i n ∷ up) m (plain_field f) ++ visits_in_fields up k l all n j (m + field_size (plain_field f)) (fields (map plain_field (drop (i + 1) fs)))) (sym (add-one i))

pub fields_size-rest : (fs : List NodeField) (i : ℕ) (f : NodeField) → i < length fs → f ≡ get_or fs i f → fields_size (fields (map plain_field (drop i fs))) ≡ field_size (plain_field f) + fields_size (fields (map plain_field (drop (i + 1) fs)))
fields_size-rest fs i f h e = ap (λ gs. fields_size (fields (map plain_field gs))) (drop_more fs i f h ∙ ap (λ g. g ∷ drop (i + 1) fs) (sym e))

pub tree_within : (ts : List Tree) (i : ℕ) (t : Tree) → i < length ts → t ≡ get_or ts i t → tree_size t ≤ trees_size (trees ts)
tree_within [] i t h e = absurd (omega (arith, h))
tree_within (u ∷ ts) zero t h e = omega (arith, ap tree_size e)
tree_within (u ∷ ts) (suc i) t h e = omega (arith, tree_within ts i t (omega (arith, h)) e)

pub field_within : (fs : List NodeField) (i : ℕ) (f : NodeField) → i < length fs → f ≡ get_or fs i f → field_size (plain_field f) ≤ fields_size (fields (map plain_field fs))
field_within [] i f h e = absurd (omega (arith, h))
field_within (g ∷ fs) zero f h e = omega (arith, ap (λ x. field_size (plain_field x)) e)
field_within (g ∷ fs) (suc i) f h e = omega (arith, field_within fs i f (omega (arith, h)) e)

pub tree_size-fields : (t : Tree) → tree_size t ≡ suc (fields_size (fields_of t))
tree_size-fields (node k l fs) = refl

-- a node is visited, and then its fields are
visits-split : (up : List Ancestor) (n m : ℕ) (t : Tree) (fs : Fields) → fields_of t ≡ fs → m ≡ n + 1 → visits up n t ≡ (visit up n t ∷ []) ++ visits_in_fields up (kind_of t) (label_of t) (fields_of t) n 0 m fs
visits-split up n m (node k l gs) fs e next =
    ap (λ j. visit up n (node k l gs) ∷ visits_in_fields up k l gs n 0 j gs) (sym (next ∙ add-one n))
    ∙ ap (λ hs. visit up n (node k l gs) ∷ visits_in_fields up k l gs n 0 m hs) e

module _ {S T : Type 0} (rules : List Rule) (known : Names S) where
  pub Checks-none : (names : Names T) (a : Unit {0}) → Checks rules known names names (Ok a) []
  Checks-none names a = λ all earlier knows_all knows. (refl, knows)

  -- the first part holds, and the answer to the second is that to both
  pub Checks-then : (old mid new : Names T) (a : Unit {0}) (r : Answer) (xs ys : List Visit) → Checks rules known old mid (Ok a) xs → Checks rules known mid new r ys → Checks rules known old new r (xs ++ ys)
  Checks-then old mid new a r xs ys first second = λ all earlier knows_all knows.
      let before = first all earlier knows_all knows in
      rw (breaks_after-append rules all earlier xs ys, declared_by-append earlier xs ys, before.0) (second all (declared_by xs earlier) knows_all before.1)

  -- the first part breaks a rule
  pub Checks-stops : (old new : Names T) (e : LowerError) (r : Answer) (xs ys : List Visit) → r ≡ Err e → Checks {A = Unit {0}} rules known old new (Err e) xs → Checks rules known old new r (xs ++ ys)
  Checks-stops old new e r xs ys is_error first = λ all earlier knows_all knows.
      rw (is_error, breaks_after-append rules all earlier xs ys) (IsFirstBreak-more (breaks_after rules all earlier xs) (breaks_after rules all (declared_by xs earlier) ys) e (first all earlier knows_all knows).0, tt)

  -- want of memory answers anything
  pub Checks-memory : (old new : Names T) (r : Answer) (vs : List Visit) → IsErrAnd r (λ e. e ≡ OutOfMemory) → Checks rules known old new r vs
  Checks-memory old new (Ok u) vs h = absurd h
  Checks-memory old new (Err e) vs h = λ all earlier knows_all knows. (rw h (IsFirstBreak-memory (breaks_after rules all earlier vs)), tt)

  pub Checks-same : (old new : Names T) (r : Answer) (vs ws : List Visit) → vs ≡ ws → Checks rules known old new r ws → Checks rules known old new r vs
  Checks-same old new r vs ws e h = rw e h

  -- WHAT IS LEFT

  -- Whatever is answered to the rest from here on is the answer to the whole.
  abbrev pub Leads : Names T → Names T → List Visit → List Visit → Type 0
  Leads old now rest whole = (r : Answer) (new : Names T) → Checks rules known now new r rest → Checks rules known old new r whole

  pub Leads-on : (old now next : Names T) (u : Unit {0}) (rest xs more whole : List Visit) → Leads old now rest whole → rest ≡ xs ++ more → Checks rules known now next (Ok u) xs → Leads old next more whole
  Leads-on old now next u rest xs more whole leads e step = λ r new h. leads r new (rw e (Checks-then now next new u r xs more step h))

  pub Leads-stops : (old now new : Names T) (e : LowerError) (r : Answer) (rest xs more whole : List Visit) → Leads old now rest whole → rest ≡ xs ++ more → r ≡ Err e → Checks {A = Unit {0}} rules known now new (Err e) xs → Checks rules known old new r whole
  Leads-stops old now new e r rest xs more whole leads is_rest is_error step = leads r new (rw is_rest (Checks-stops now new e r xs more is_error step))

  pub Leads-ends : (old now : Names T) (u : Unit {0}) (rest whole : List Visit) → Leads old now rest whole → rest ≡ [] → Checks rules known old now (Ok u) whole
  Leads-ends old now u rest whole leads e = leads (Ok u) now (rw e (Checks-none now u))

  -- NODES

  pub Checks-node : (old mid new : Names T) (u : Unit {0}) (r : Answer) (up : List Ancestor) (n m : ℕ) (t : Tree) (fs : Fields) → fields_of t ≡ fs → m ≡ n + 1 → Checks rules known old mid (Ok u) (visit up 0 t ∷ []) → Checks rules known mid new r (visits_in_fields up (kind_of t) (label_of t) (fields_of t) n 0 m fs) → Checks rules known old new r (visits up n t)
  Checks-node old mid new u r up n m t fs e next first rest =
      rw (visits-split up n m t fs e next) (Checks-then old mid new u r (visit up n t ∷ []) (visits_in_fields up (kind_of t) (label_of t) (fields_of t) n 0 m fs) first rest)

  pub Checks-visit_stops : (old new : Names T) (e : LowerError) (r : Answer) (up : List Ancestor) (n : ℕ) (t : Tree) → r ≡ Err e → Checks {A = Unit {0}} rules known old new (Err e) (visit up 0 t ∷ []) → Checks rules known old new r (visits up n t)
  Checks-visit_stops old new e r up n t is_error first =
      rw (visits-split up n (n + 1) t (fields_of t) refl refl)
      (Checks-stops old new e r (visit up n t ∷ []) (visits_in_fields up (kind_of t) (label_of t) (fields_of t) n 0 (n + 1) (fields_of t)) is_error first)
