-- The marks of a program agree with the references of its table: each identifier has the number of its own reference.
use Rattle.std.proofs.Common.{arith, ◌≡◌, ℕ, zero, suc, ◌+◌, refl, sym, ap, subst, ◌∙◌, List, [], ◌∷◌, ◌++◌, length}
use Rattle.std.specs.Prelude.{true, false, Option, Some, option_map, slice_get}
use Rattle.es_tree.specs.Marks.{with_scope}
use Rattle.es_tree.specs.Names.{first_text}
use Rattle.es_tree.specs.References.{Reference}
use Rattle.es_tree.specs.Tree.{Tree, node, Label, Fields, done, ◌then◌, Field, missing, one, many, statements, Trees, empty, ◌before◌}
use Rattle.es_tree.specs.Words.{Text}
use Rattle.es_tree.specs.declared.ast_type.AstType.{AstType}
use Rattle.es_tree.specs.declared.ast_type.AstType.TheVariants.{Program, Identifier}
use Rattle.es_scope.specs.declared.flags.ReferenceFlags.{ReferenceFlags}
use Rattle.es_semantic.specs.NodeMarks.{first_mark, second_mark}
use Rattle.es_semantic.specs.Places.{Place, Visit, outermost, own_scope_count, place_in, scope_count_in, scope_count_in_field, visits, visits_in_field, visits_in_fields, visits_in_trees}
use Rattle.es_semantic.specs.ReferencesOf.{identifier_marks, marked_in_field, marked_in_fields, marked_in_trees, marked_tree, own_marks_of, own_reference, reference, references_among, references_of, referred, referring}
use Rattle.es_semantic.specs.SymbolsOf.{Declared, find, symbols_of}
use Rattle.es_semantic.specs.declared.place.Role.{Role}
use Rattle.es_semantic.specs.declared.place.Role.TheVariants.{Nothing, Binds, Refers}
use Rattle.es_semantic.proofs.MoreReferences.{get_later}
use Rattle.es_semantic.proofs.Visits.{references_joined}
use Rattle.es_resolution.specs.Laws.{LawReferences}
use Rattle.es_resolution.specs.ReferenceMarks.{Agrees, AgreesAmong, AgreesBy, AgreesIn, OwnAgrees}

-- these references stand among the others, from m on
abbrev StandFrom : List Reference → ℕ → List Reference → Type 0
StandFrom rs m xs = (i : ℕ) (r : Reference) → slice_get xs i ≡ Some r → slice_get rs (m + i) ≡ Some r

get-first : (xs ys : List Reference) (i : ℕ) (r : Reference) → slice_get xs i ≡ Some r → slice_get (xs ++ ys) i ≡ Some r
get-first [] ys i r e = absurd (cc e)
get-first (x ∷ xs) ys zero r e = e
get-first (x ∷ xs) ys (suc i) r e = get-first xs ys i r e

stand-first : (rs : List Reference) (m : ℕ) (xs ys : List Reference) → StandFrom rs m (xs ++ ys) → StandFrom rs m xs
stand-first rs m xs ys h i r e = h i r (get-first xs ys i r e)

stand-later : (rs : List Reference) (m : ℕ) (xs ys : List Reference) → StandFrom rs m (xs ++ ys) → StandFrom rs (m + length xs) ys
stand-later rs m xs ys h i r e =
    let same : m + (length xs + i) ≡ (m + length xs) + i = omega arith in
    subst (λ n. slice_get rs n ≡ Some r) same (h (length xs + i) r (get_later xs ys (length xs + i) i refl ∙ e))

number-same : (m n : ℕ) → ◌≡◌ {A = Option ℕ} (Some m) (Some n) → m ≡ n
number-same m n e = cc e

module _ (ds : List Declared) (rs : List Reference) where
  refers-so : (p : Place) (m : ℕ) (id : ℕ) (x : Text) (f : ReferenceFlags) → StandFrom rs m (reference id (find ds p.around x) f.read f.write ∷ []) → (n : ℕ) → ◌≡◌ {A = Option ℕ} (Some m) (Some n) → option_map (λ r. r.symbol) (slice_get rs n) ≡ Some (find ds p.around x)
  refers-so p m id x f h n e =
      let here : m + 0 ≡ n = omega (arith, number-same m n e) in
      let at : slice_get rs (m + 0) ≡ Some (reference id (find ds p.around x) f.read f.write) = h 0 _ refl in
      ap (λ j. option_map (λ r. r.symbol) (slice_get rs j)) (sym here) ∙ ap (option_map (λ r. r.symbol)) at

  role-agrees : (p : Place) (m : ℕ) (r : Role) (id : ℕ) (x : Text) → StandFrom rs m (referred (referring r) id (find ds p.around x)) →
      (n : ℕ) → first_mark (identifier_marks ds p m r x) ≡ Some n → option_map (λ r. r.symbol) (slice_get rs n) ≡ Some (second_mark (identifier_marks ds p m r x))
  role-agrees p m Nothing id x h n e = absurd (cc e)
  role-agrees p m (Binds b) id x h n e = absurd (cc e)
  role-agrees p m (Refers f) id x h n e = refers-so p m id x f h n e
  role-agrees p m _ id x h n e = refers-so p m id x (record { read = true; write = false }) h n e

  own-agrees : (p : Place) (n m : ℕ) (k : AstType) (l : Label) (fs : Fields) → StandFrom rs m (own_reference ds p k l) → OwnAgrees rs k (record l { marks = own_marks_of ds p n m k l fs })
  own-agrees p n m Identifier l fs h = role-agrees p m p.role l.id (first_text l.texts) h
  own-agrees p n m _ l fs h = tt

  joined : (m : ℕ) (xs ys : List Visit) → StandFrom rs m (references_among ds (xs ++ ys)) → StandFrom rs m (references_among ds xs ++ references_among ds ys)
  joined m xs ys h = subst (StandFrom rs m) (references_joined ds xs ys) h

  mutual
    agrees-tree : (p : Place) (n m : ℕ) (t : Tree) → StandFrom rs m (references_among ds (visits p n t)) → Agrees rs (marked_tree ds p n m t)
    agrees-tree p n m (node k l fs) h =
        let ps = place_in p n k l fs in
        let s = n + own_scope_count k fs in
        let own = own_reference ds p k l in
        let more = references_among ds (visits_in_fields ps s fs) in
        (own-agrees p n m k l fs (stand-first rs m own more h), agrees-in ps s (m + length own) fs (stand-later rs m own more h))

    agrees-in : (ps : ℕ → Place) (n m : ℕ) (fs : Fields) → StandFrom rs m (references_among ds (visits_in_fields ps n fs)) → AgreesIn rs (marked_in_fields ds ps n m fs)
    agrees-in ps n m done h = tt
    agrees-in ps n m (f then fs) h =
        let qs : ℕ → Place = λ i. ps (suc i) in
        let vs = visits_in_field (ps zero) n f in
        let s = n + scope_count_in_field f in
        let ws = visits_in_fields qs s fs in
        let both = joined m vs ws h in (
          agrees-by (ps zero) n m f (stand-first rs m (references_among ds vs) (references_among ds ws) both),
          agrees-in qs s (m + length (references_among ds vs)) fs (stand-later rs m (references_among ds vs) (references_among ds ws) both),
        )

    agrees-by : (p : Place) (n m : ℕ) (f : Field) → StandFrom rs m (references_among ds (visits_in_field p n f)) → AgreesBy rs (marked_in_field ds p n m f)
    agrees-by p n m missing h = tt
    agrees-by p n m (one t) h = agrees-tree p n m t h
    agrees-by p n m (many ts) h = agrees-among p n m ts h
    agrees-by p n m (statements ts) h = agrees-among p n m ts h

    agrees-among : (p : Place) (n m : ℕ) (ts : Trees) → StandFrom rs m (references_among ds (visits_in_trees p n ts)) → AgreesAmong rs (marked_in_trees ds p n m ts)
    agrees-among p n m empty h = tt
    agrees-among p n m (t before ts) h =
        let vs = visits p n t in
        let s = n + scope_count_in t in
        let ws = visits_in_trees p s ts in
        let both = joined m vs ws h in (
          agrees-tree p n m t (stand-first rs m (references_among ds vs) (references_among ds ws) both),
          agrees-among p s (m + length (references_among ds vs)) ts (stand-later rs m (references_among ds vs) (references_among ds ws) both),
        )

scope-agrees : (rs : List Reference) (t : Tree) → Agrees rs t → Agrees rs (with_scope t)
scope-agrees rs (node Program l fs) h = h
scope-agrees rs (node k l fs) h = h

all-stand : (rs : List Reference) → StandFrom rs 0 rs
all-stand rs i r e = let same : i ≡ 0 + i = omega arith in subst (λ n. slice_get rs n ≡ Some r) same e

pub law_references_proof : LawReferences
law_references_proof p = scope-agrees (references_of p) (marked_tree (symbols_of p) (outermost p) 1 0 p) (agrees-tree (symbols_of p) (references_of p) (outermost p) 1 0 p (all-stand (references_of p)))
