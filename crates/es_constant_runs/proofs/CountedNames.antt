-- How often a name stands where names stand for lists of excluded keys: as the keys of a call each of these names once, and no other; and each of them once
-- more than before.
use Rattle.std.proofs.Common.{◌+◌, ◌≡◌, ◌∙◌, ℕ, zero, suc, refl, sym, ap, List, [], ◌∷◌, ◌++◌, arith}
use Rattle.std.proofs.lemmas.Bool.{and_parts}
use Rattle.std.proofs.lemmas.List.{map-append}
use Rattle.std.specs.Prelude.{◌&&◌, Bool, true, false, not, bytes_eq, codes, if◌then◌else◌}
use Rattle.es_tree.specs.Names.{first_text, is_name_place, is_reexport, names_if, names_in_field, names_in_fields, names_in_trees, own_name, third_stands}
use Rattle.es_tree.specs.Scopes.{own_text}
use Rattle.es_tree.specs.StaticRules.{any_has_node, is_crowded_export}
use Rattle.es_tree.specs.Tree.{Tree, Label, Fields, done, ◌then◌, Field, missing, one, many, statements, Trees, empty, ◌before◌, kind_of}
use Rattle.es_tree.specs.Walks.{all_nodes, all_in_field, all_in_fields, all_in_trees}
use Rattle.es_tree.specs.Words.{Text}
use Rattle.es_tree.specs.declared.ast_type.AstType.{AstType}
use Rattle.es_tree.specs.declared.ast_type.AstType.TheVariants.{ArrayExpression, BlockStatement, CallExpression, ExportNamedDeclaration, ForInStatement, ForOfStatement, ForStatement, Identifier, ImportDeclaration, MemberExpression, Program, StringLiteral, SwitchCase, SwitchStatement}
use Rattle.es_tree.specs.declared.helper.Helper.TheVariants.{ObjectWithoutProperties}
use Rattle.es_semantic.specs.Places.{makes_scope}
use Rattle.es_resolution.specs.Declarations.{Bound}
use Rattle.es_resolution.proofs.WholeExports.{is_whole_export}
use Rattle.es_steps.specs.CoreBridge.{names_among}
use Rattle.es_statement_runs.specs.Helpers.{excludes_by, is_helper, is_this_name, key_places, key_places_all, key_places_at, key_places_in, occurrences, one_where}
use Rattle.es_statement_runs.specs.Helpers.Supply.{by_global}
use Rattle.es_statement_runs.specs.Names.{is_word}
use Rattle.es_helper_calls.proofs.TextLists.{TextList, Texts, list-is}
use Rattle.es_helper_calls.proofs.TextLists.TextList.{text_list}
use Rattle.es_helper_calls.proofs.TextLists.Texts.{no_text, one_text}
use Rattle.es_statement_steps.proofs.Below.{field_passes, fields_pass, trees_pass}
use Rattle.es_statement_steps.proofs.Stands.{ChildStands, Standing, child_parts, child_stands, is_inner, is_program, standing, stands, takes, word_of}
use Rattle.es_rest_runs.specs.Laws.{excludes_no_name, is_a_name}
use Rattle.es_rest_runs.proofs.NoSilence.{no_places, none_by}
use Rattle.es_rest_runs.proofs.SparedNames.{no_scope}
use Rattle.es_excluded_keys.specs.ExcludedKeys.{Shares, SharesAll, SharesBy, SharesIn, is_below}
use Rattle.es_excluded_keys.specs.ExcludedKeys.Shares.{keeps, shares}
use Rattle.es_excluded_keys.specs.ExcludedKeys.SharesAll.{next, none}
use Rattle.es_excluded_keys.specs.ExcludedKeys.SharesBy.{at_many, at_none, at_one, at_statements}
use Rattle.es_excluded_keys.specs.ExcludedKeys.SharesIn.{ends, goes}
use Rattle.es_excluded_keys.proofs.TakenCalls.{taken-parts}
use Rattle.es_import_runs.proofs.Callings.{HelperCall, text_named}
use Rattle.es_import_runs.proofs.Callings.HelperCall.{helper_called}
use Rattle.es_constant_runs.proofs.SharedTrees.{shape_of}

-- NAMES IN ROWS

pub occurs_both : (y : Text) (xs ys : List Text) → occurrences y (xs ++ ys) ≡ occurrences y xs + occurrences y ys
occurs_both y [] ys = let e : occurrences y ys ≡ 0 + occurrences y ys = omega arith in e
occurs_both y (x ∷ xs) ys = let e = occurs_both y xs ys in omega arith

pub occurs_among : (y : Text) (xs ys : List Bound) → occurrences y (names_among (xs ++ ys)) ≡ occurrences y (names_among xs) + occurrences y (names_among ys)
occurs_among y xs ys = ap (occurrences y) (map-append (λ (b : Bound). b.name) xs ys) ∙ occurs_both y (names_among xs) (names_among ys)

-- KEYS OF CALLS

own_kept : {deep : Bool} {t u : Tree} {xs : List Bound} {ls : List Tree} → Shares deep t xs ls u → own_text u ≡ own_text t
own_kept (keeps out h) = refl
own_kept (shares x out h) = refl

this_kept : (y : Text) {deep : Bool} {t u : Tree} {xs : List Bound} {ls : List Tree} → Shares deep t xs ls u → is_this_name y u ≡ is_this_name y t
this_kept y (keeps {k = Identifier} out h) = refl
this_kept y (keeps out h) = refl
this_kept y (shares x out h) = refl

name_kept : {deep : Bool} {t u : Tree} {xs : List Bound} {ls : List Tree} → Shares deep t xs ls u → is_a_name u ≡ is_a_name t
name_kept (keeps {k = Identifier} out h) = refl
name_kept (keeps out h) = refl
name_kept (shares x out h) = refl

helper_kept : (h : Text) {deep : Bool} {t u : Tree} {xs : List Bound} {ls : List Tree} → Shares deep t xs ls u → is_helper by_global [] h u ≡ is_helper by_global [] h t
helper_kept h (keeps {k = MemberExpression} out (goes (at_one o) (goes (at_one x) hs))) = λ i. this_kept (codes "babelHelpers") o i && is_word h (own_kept x i)
helper_kept h (keeps {k = MemberExpression} out (goes (at_one o) (goes at_none hs))) = refl
helper_kept h (keeps {k = MemberExpression} out (goes (at_one o) (goes (at_many g) hs))) = refl
helper_kept h (keeps {k = MemberExpression} out (goes (at_one o) (goes (at_statements g) hs))) = refl
helper_kept h (keeps {k = MemberExpression} out (goes (at_one o) ends)) = refl
helper_kept h (keeps {k = MemberExpression} out (goes at_none hs)) = refl
helper_kept h (keeps {k = MemberExpression} out (goes (at_many g) hs)) = refl
helper_kept h (keeps {k = MemberExpression} out (goes (at_statements g) hs)) = refl
helper_kept h (keeps {k = MemberExpression} out ends) = refl
helper_kept h (keeps {k = Identifier} out g) = refl
helper_kept h (keeps out g) = refl
helper_kept h (shares x out g) = refl

excludes_kept : (k : AstType) (l : Label) {deep : ℕ → Bool} {fs gs : Fields} {xs : List Bound} {ls : List Tree} → SharesIn deep fs xs ls gs → excludes_no_name k l fs ≡ true → excludes_no_name k l gs ≡ true
excludes_kept CallExpression l (goes (at_one f) (goes (at_many (next e (next ks none))) hs)) q = (λ i. not (helper_kept (codes "objectWithoutProperties") f i && name_kept ks i)) ∙ q
excludes_kept CallExpression l (goes (at_one f) (goes (at_many (next e (next ks (next a more)))) hs)) q = refl
excludes_kept CallExpression l (goes (at_one f) (goes (at_many (next e none)) hs)) q = refl
excludes_kept CallExpression l (goes (at_one f) (goes (at_many none) hs)) q = refl
excludes_kept CallExpression l (goes (at_one f) (goes (at_one g) hs)) q = refl
excludes_kept CallExpression l (goes (at_one f) (goes at_none hs)) q = refl
excludes_kept CallExpression l (goes (at_one f) (goes (at_statements g) hs)) q = refl
excludes_kept CallExpression l (goes (at_one f) ends) q = refl
excludes_kept CallExpression l (goes at_none hs) q = refl
excludes_kept CallExpression l (goes (at_many g) hs) q = refl
excludes_kept CallExpression l (goes (at_statements g) hs) q = refl
excludes_kept CallExpression l ends q = refl
excludes_kept _ l h q = refl

-- such a call is one of the helper
helper_is : (l : Label) (f s ks : Tree) → HelperCall ObjectWithoutProperties CallExpression l (one f then (many (s before (ks before empty)) then done)) → is_helper by_global [] (codes "objectWithoutProperties") f ≡ true
helper_is l f s ks (helper_called {j = j} {i = i} {m = m} {gs = gs} {hs = hs} mark a b object name) = let told = text_named (first_text m.texts) ObjectWithoutProperties name in rw (object, sym told.0) refl

module _ (y : Text) where
  mutual
    pub places_shared : {deep : Bool} {t u : Tree} {xs : List Bound} {ls : List Tree} → Shares deep t xs ls u → all_nodes excludes_no_name t ≡ true → key_places by_global [] y u ≡ occurrences y (names_among xs)
    places_shared (keeps {k = k} {l = l} {fs = fs} {gs = gs} {xs = xs} out h) q =
        let d = and_parts (excludes_no_name k l fs) (all_in_fields excludes_no_name fs) q in
        let own : one_where (excludes_by by_global [] y k gs) ≡ 0 = ap one_where (none_by y k l gs (excludes_kept k l h d.0)) in
        let rest : key_places_in by_global [] y gs ≡ occurrences y (names_among xs) = places_in h d.1 in
        omega arith
    places_shared (shares {l = l} {f = f} {s = s} {ks = ks} {t = t} {xs = xs} x out h) q =
        let c = (many (s before (ks before empty)) then done) in
        let d = and_parts (excludes_no_name CallExpression l (one f then c)) (all_in_fields excludes_no_name (one f then c)) q in
        let g = and_parts (all_nodes excludes_no_name f) (all_in_fields excludes_no_name c) d.1 in
        let e = and_parts (all_in_trees excludes_no_name (s before (ks before empty))) true g.1 in
        let m = and_parts (all_nodes excludes_no_name s) (all_in_trees excludes_no_name (ks before empty)) e.0 in
        let own : one_where (is_helper by_global [] (codes "objectWithoutProperties") f && bytes_eq x.name y) ≡ one_where (bytes_eq x.name y) = ap (λ (b : Bool). one_where (b && bytes_eq x.name y)) (helper_is l f s ks (shape_of l f s ks out)) in
        let callee : key_places by_global [] y f ≡ 0 = no_places y f g.0 in
        let rest : key_places by_global [] y t ≡ occurrences y (names_among xs) = places_shared h m.0 in
        let more : occurrences y (names_among (xs ++ x ∷ [])) ≡ occurrences y (names_among xs) + (one_where (bytes_eq x.name y) + 0) = occurs_among y xs (x ∷ []) in
        omega arith

    places_in : {deep : ℕ → Bool} {fs gs : Fields} {xs : List Bound} {ls : List Tree} → SharesIn deep fs xs ls gs → all_in_fields excludes_no_name fs ≡ true → key_places_in by_global [] y gs ≡ occurrences y (names_among xs)
    places_in ends q = refl
    places_in (goes {f = f} {g = g} {fs = fs} {gs = gs} {xs = xs} {ys = ys} h hs) q =
        let d = and_parts (all_in_field excludes_no_name f) (all_in_fields excludes_no_name fs) q in
        let a : key_places_at by_global [] y g ≡ occurrences y (names_among xs) = places_by h d.0 in
        let b : key_places_in by_global [] y gs ≡ occurrences y (names_among ys) = places_in hs d.1 in
        let c = occurs_among y xs ys in
        omega arith

    places_by : {deep : Bool} {f g : Field} {xs : List Bound} {ls : List Tree} → SharesBy deep f xs ls g → all_in_field excludes_no_name f ≡ true → key_places_at by_global [] y g ≡ occurrences y (names_among xs)
    places_by at_none q = refl
    places_by (at_one h) q = places_shared h q
    places_by (at_many h) q = places_all h q
    places_by (at_statements h) q = places_all h q

    pub places_all : {deep : Bool} {ts us : Trees} {xs : List Bound} {ls : List Tree} → SharesAll deep ts xs ls us → all_in_trees excludes_no_name ts ≡ true → key_places_all by_global [] y us ≡ occurrences y (names_among xs)
    places_all none q = refl
    places_all (next {t = t} {u = u} {ts = ts} {us = us} {xs = xs} {ys = ys} h hs) q =
        let d = and_parts (all_nodes excludes_no_name t) (all_in_trees excludes_no_name ts) q in
        let a : key_places by_global [] y u ≡ occurrences y (names_among xs) = places_shared h d.0 in
        let b : key_places_all by_global [] y us ≡ occurrences y (names_among ys) = places_all hs d.1 in
        let c = occurs_among y xs ys in
        omega arith

-- EXPORTS FROM OTHER MODULES, of which no name counts, have no such call: they stand in a program's list alone, and no scope stands in them

-- what stands in no scope
abbrev is_top : AstType → Bool
is_top Program = true
is_top ExportNamedDeclaration = true
is_top k = false

no_export : (k : AstType) (i : ℕ) → is_program k ≡ false → takes k i ExportNamedDeclaration ≡ false
no_export Program i e = absurd (cc e)
no_export BlockStatement zero e = refl
no_export BlockStatement (suc i) e = refl
no_export ForStatement zero e = refl
no_export ForStatement (suc i) e = refl
no_export ForInStatement zero e = refl
no_export ForInStatement (suc i) e = refl
no_export ForOfStatement zero e = refl
no_export ForOfStatement (suc i) e = refl
no_export SwitchStatement zero e = refl
no_export SwitchStatement (suc zero) e = refl
no_export SwitchStatement (suc (suc i)) e = refl
no_export SwitchCase zero e = refl
no_export SwitchCase (suc zero) e = refl
no_export SwitchCase (suc (suc i)) e = refl
no_export ImportDeclaration zero e = refl
no_export ImportDeclaration (suc i) e = refl
no_export ExportNamedDeclaration zero e = refl
no_export ExportNamedDeclaration (suc i) e = refl
no_export k i e = refl

-- an export stands in a program
exports_above : (k : AstType) (i : ℕ) (word : Text) → ChildStands k i ExportNamedDeclaration word → is_program k ≡ true
exports_above k i word s = at (is_program k) refl
  where
    at : (b : Bool) → is_program k ≡ b → b ≡ true
    at true e = refl
    at false e = absurd (let no : false ≡ true = s.plain (no_export k i e) in cc no)

program_only : (k : AstType) → is_program k ≡ true → k ≡ Program
program_only Program e = refl
program_only _ e = absurd (cc e)

-- so in no scope
below_program : (deep : Bool) (k : AstType) (i : ℕ) → k ≡ Program → (deep ≡ true → is_top k ≡ false) → is_below deep k i ≡ false
below_program deep k i e h = at deep (λ d. ap is_top (sym e) ∙ h d) ∙ refl
  where
    at : (d : Bool) → (d ≡ true → true ≡ false) → is_below d k i ≡ false
    at true g = absurd (let no : true ≡ false = g refl in cc no)
    at false g = ap (λ (j : AstType). is_below false j i) e

pub top_below : (deep : Bool) (k : AstType) (i : ℕ) (t : Tree) → (deep ≡ true → is_top k ≡ false) → child_stands k i t ≡ true → is_below deep k i ≡ true → is_top (kind_of t) ≡ false
top_below deep k i t h c d = at (kind_of t) (child_parts k i t c)
  where
    at : (j : AstType) → ChildStands k i j (word_of t) → is_top j ≡ false
    at Program s = absurd (let no : true ≡ false = s.program in cc no)
    at ExportNamedDeclaration s = absurd (let no : true ≡ false = sym d ∙ below_program deep k i (program_only k (exports_above k i (word_of t) s)) h in cc no)
    at _ s = refl

flat_below : (deep : Bool) (k : AstType) (i : ℕ) → deep ≡ false → makes_scope k ≡ false → is_below deep k i ≡ false
flat_below deep k i d e = rw (d, e) refl

-- what stands in expressions and the like, in no scope, has none
abbrev EachInner : (ℕ → Tree → Bool) → Type 0
EachInner c = (i : ℕ) (t : Tree) → c i t ≡ true → is_inner (kind_of t) ≡ true

mutual
  flat_none : {deep : Bool} {t u : Tree} {xs : List Bound} {ls : List Tree} → Shares deep t xs ls u → deep ≡ false → is_inner (kind_of t) ≡ true → all_nodes stands t ≡ true → xs ≡ []
  flat_none (keeps {deep = deep} {k = k} {l = l} {fs = fs} out h) d e fine =
      let s = standing k l fs fine in
      flat_none_in h (λ i. flat_below deep k i d (no_scope k s.class e)) (child_stands k) (λ i t c. (child_parts k i t c).inner e) s.children s.below
  flat_none (shares x out h) d e fine = absurd (let no : true ≡ false = d in cc no)

  flat_none_in : {deep : ℕ → Bool} {fs gs : Fields} {xs : List Bound} {ls : List Tree} → SharesIn deep fs xs ls gs → ((i : ℕ) → deep i ≡ false) → (c : ℕ → Tree → Bool) → EachInner c → fields_pass c fs ≡ true → all_in_fields stands fs ≡ true → xs ≡ []
  flat_none_in ends d c inner pass fine = refl
  flat_none_in (goes {f = f} {fs = fs} h hs) d c inner pass fine =
      let p = and_parts (field_passes (c zero) f) (fields_pass (λ i. c (suc i)) fs) pass in
      let q = and_parts (all_in_field stands f) (all_in_fields stands fs) fine in
      λ i. flat_none_by h (d zero) (c zero) (inner zero) p.0 q.0 i ++ flat_none_in hs (λ j. d (suc j)) (λ j. c (suc j)) (λ j. inner (suc j)) p.1 q.1 i

  flat_none_by : {deep : Bool} {f g : Field} {xs : List Bound} {ls : List Tree} → SharesBy deep f xs ls g → deep ≡ false → (c : Tree → Bool) → ((t : Tree) → c t ≡ true → is_inner (kind_of t) ≡ true) → field_passes c f ≡ true → all_in_field stands f ≡ true → xs ≡ []
  flat_none_by at_none d c inner pass fine = refl
  flat_none_by (at_one {t = t} h) d c inner pass fine = flat_none h d (inner t pass) fine
  flat_none_by (at_many h) d c inner pass fine = flat_none_all h d c inner pass fine
  flat_none_by (at_statements h) d c inner pass fine = flat_none_all h d c inner pass fine

  flat_none_all : {deep : Bool} {ts us : Trees} {xs : List Bound} {ls : List Tree} → SharesAll deep ts xs ls us → deep ≡ false → (c : Tree → Bool) → ((t : Tree) → c t ≡ true → is_inner (kind_of t) ≡ true) → trees_pass c ts ≡ true → all_in_trees stands ts ≡ true → xs ≡ []
  flat_none_all none d c inner pass fine = refl
  flat_none_all (next {t = t} {ts = ts} h hs) d c inner pass fine =
      let p = and_parts (c t) (trees_pass c ts) pass in
      let q = and_parts (all_nodes stands t) (all_in_trees stands ts) fine in
      λ i. flat_none h d (inner t p.0) q.0 i ++ flat_none_all hs d c inner p.1 q.1 i

crowded : (b : Field) (t : Tree) (fs : Fields) → any_has_node (b then (one t then fs)) ≡ true
crowded missing t fs = refl
crowded (one a) t fs = refl
crowded (many empty) t fs = refl
crowded (many (a before more)) t fs = refl
crowded (statements ts) t fs = refl

sourced : (fs : Fields) (f : Field) → third_stands (f then fs) ≡ true → any_has_node fs ≡ true
sourced (b then (one t then fs)) f e = crowded b t fs
sourced (b then (missing then fs)) f e = absurd (cc e)
sourced (b then (many ts then fs)) f e = absurd (cc e)
sourced (b then (statements ts then fs)) f e = absurd (cc e)
sourced (b then done) f e = absurd (cc e)
sourced done f e = absurd (cc e)

reexport_none : {deep : Bool} {fs gs : Fields} {xs : List Bound} {ls : List Tree} (l : Label) → SharesIn (is_below deep ExportNamedDeclaration) fs xs ls gs → deep ≡ false → third_stands fs ≡ true → not (is_crowded_export fs) ≡ true → Standing ExportNamedDeclaration l fs → xs ≡ []
reexport_none l ends d third whole s = refl
reexport_none {deep = deep} l (goes {fs = fs} at_none hs) d third whole s = flat_none_in hs (λ i. flat_below deep ExportNamedDeclaration (suc i) d refl) (λ i. child_stands ExportNamedDeclaration (suc i)) (λ i t c. (child_parts ExportNamedDeclaration (suc i) t c).part) s.children s.below
reexport_none l (goes {fs = fs} (at_one {t = t} h) hs) d third whole s = absurd (let no : not true ≡ true = ap not (sym (sourced fs (one t) third)) ∙ whole in cc no)
reexport_none l (goes (at_many h) hs) d third whole s = absurd (let no : false ≡ true = s.shape in cc no)
reexport_none l (goes (at_statements h) hs) d third whole s = absurd (let no : false ≡ true = s.shape in cc no)

-- NAMES

third_kept : {deep : ℕ → Bool} {fs gs : Fields} {xs : List Bound} {ls : List Tree} → SharesIn deep fs xs ls gs → third_stands gs ≡ third_stands fs
third_kept (goes a (goes b (goes (at_one h) hs))) = refl
third_kept (goes a (goes b (goes at_none hs))) = refl
third_kept (goes a (goes b (goes (at_many h) hs))) = refl
third_kept (goes a (goes b (goes (at_statements h) hs))) = refl
third_kept (goes a (goes b ends)) = refl
third_kept (goes a ends) = refl
third_kept ends = refl

reexport_kept : (k : AstType) {deep : ℕ → Bool} {fs gs : Fields} {xs : List Bound} {ls : List Tree} → SharesIn deep fs xs ls gs → is_reexport k gs ≡ is_reexport k fs
reexport_kept ExportNamedDeclaration h = third_kept h
reexport_kept _ h = refl

texts_unnamed : (counts : ℕ → Bool) (fs : Fields) → Texts fs → names_in_fields counts fs ≡ []
texts_unnamed counts ts no_text = refl
texts_unnamed counts ts (one_text {fs = fs} k h) = at (counts zero) ∙ texts_unnamed (λ i. counts (suc i)) fs h
  where
    at : (b : Bool) → (own_name b StringLiteral k ++ []) ++ names_in_fields (λ i. counts (suc i)) fs ≡ names_in_fields (λ i. counts (suc i)) fs
    at true = refl
    at false = refl

pub list_unnamed : (t : Tree) → TextList t → names_if true t ≡ []
list_unnamed t (text_list l fs h) = texts_unnamed (is_name_place ArrayExpression l) fs h

module _ (y : Text) where
  abbrev O : List Text → ℕ
  O ns = occurrences y ns

  reexported : (l : Label) (fs gs : Fields) {deep : Bool} {xs : List Bound} {ls : List Tree} (k : AstType) → SharesIn (is_below deep k) fs xs ls gs → is_reexport k fs ≡ true → (deep ≡ true → is_top k ≡ false) → is_whole_export k l fs ≡ true → Standing k l fs → xs ≡ []
  reexported l fs gs {deep = deep} ExportNamedDeclaration h e top whole s = reexport_none l h (at deep top) e whole s
    where
      at : (d : Bool) → (d ≡ true → true ≡ false) → d ≡ false
      at true g = absurd (let no : true ≡ false = g refl in cc no)
      at false g = refl
  reexported l fs gs _ h e top whole s = absurd (cc e)

  own_occurs : (own a b c : List Text) → O b ≡ O a + O c → O (own ++ b) ≡ O (own ++ a) + O c
  own_occurs own a b c e = let p = occurs_both y own b in let q = occurs_both y own a in omega arith

  none_more : (own : List Text) (n : ℕ) → n ≡ 0 → O (own ++ []) ≡ O (own ++ []) + n
  none_more own n e = omega arith

  mutual
    pub names_shared : (counts : Bool) {deep : Bool} {t u : Tree} {xs : List Bound} {ls : List Tree} → Shares deep t xs ls u → all_nodes stands t ≡ true → all_nodes is_whole_export t ≡ true → (deep ≡ true → is_top (kind_of t) ≡ false) → O (names_if counts u) ≡ O (names_if counts t) + O (names_among xs)
    names_shared counts (keeps {deep = deep} {k = k} {l = l} {fs = fs} {gs = gs} {xs = xs} out h) fine whole top =
        let s = standing k l fs fine in
        let w = and_parts (is_whole_export k l fs) (all_in_fields is_whole_export fs) whole in
        at (is_reexport k fs) refl (names_shared_in (is_name_place k l) h s.children s.below w.1 (λ i t c d. top_below deep k i t top c d)) (λ e. ap (λ (zs : List Bound). O (names_among zs)) (reexported l fs gs k h e top w.0 s))
      where
        at : (b : Bool) → is_reexport k fs ≡ b → O (names_in_fields (is_name_place k l) gs) ≡ O (names_in_fields (is_name_place k l) fs) + O (names_among xs) → (is_reexport k fs ≡ true → O (names_among xs) ≡ 0) →
            O (own_name counts k l ++ (if is_reexport k gs then [] else names_in_fields (is_name_place k l) gs)) ≡ O (own_name counts k l ++ (if is_reexport k fs then [] else names_in_fields (is_name_place k l) fs)) + O (names_among xs)
        at true e rest gone = rw (reexport_kept k h, e) (none_more (own_name counts k l) (O (names_among xs)) (gone e))
        at false e rest gone = rw (reexport_kept k h, e) (own_occurs (own_name counts k l) (names_in_fields (is_name_place k l) fs) (names_in_fields (is_name_place k l) gs) (names_among xs) rest)
    names_shared counts (shares {l = l} {f = f} {s = s} {ks = ks} {t = t} {xs = xs} x out h) fine whole top =
        let c = (many (s before (ks before empty)) then done) in
        let stand = standing CallExpression l (one f then c) fine in
        let sources : all_nodes stands s ≡ true = (and_parts (all_nodes stands s) (all_in_trees stands (ks before empty)) (and_parts (all_in_trees stands (s before (ks before empty))) true (and_parts (all_nodes stands f) (all_in_fields stands c) stand.below).1).0).0 in
        let wholes : all_nodes is_whole_export s ≡ true = (and_parts (all_nodes is_whole_export s) (all_in_trees is_whole_export (ks before empty)) (and_parts (all_in_trees is_whole_export (s before (ks before empty))) true (and_parts (all_nodes is_whole_export f) (all_in_fields is_whole_export c) whole).1).0).0 in
        let tops : true ≡ true → is_top (kind_of s) ≡ false = λ e. top_below true CallExpression 1 s (λ d. refl) (and_parts (child_stands CallExpression 1 s) (trees_pass (child_stands CallExpression 1) (ks before empty)) (and_parts (trees_pass (child_stands CallExpression 1) (s before (ks before empty))) true (and_parts (child_stands CallExpression 0 f) (field_passes (child_stands CallExpression 1) (many (s before (ks before empty))) && true) stand.children).1).0).0 refl in
        let rest : O (names_if true t) ≡ O (names_if true s) + O (names_among xs) = names_shared true h sources wholes tops in
        let F = names_if true f in
        let own = own_name counts CallExpression l in
        let list : O (names_if true ks) ≡ 0 = ap (occurrences y) (list_unnamed ks (list-is ks (taken-parts l f s ks out).1)) in
        let more : O (names_among (xs ++ x ∷ [])) ≡ O (names_among xs) + (one_where (bytes_eq x.name y) + 0) = occurs_among y xs (x ∷ []) in
        let a1 = occurs_both y own (F ++ ((names_if true t ++ (x.name ∷ [])) ++ [])) in
        let a2 = occurs_both y F ((names_if true t ++ (x.name ∷ [])) ++ []) in
        let a3 = occurs_both y (names_if true t ++ (x.name ∷ [])) [] in
        let a4 = occurs_both y (names_if true t) (x.name ∷ []) in
        let b1 = occurs_both y own (F ++ ((names_if true s ++ (names_if true ks ++ [])) ++ [])) in
        let b2 = occurs_both y F ((names_if true s ++ (names_if true ks ++ [])) ++ []) in
        let b3 = occurs_both y (names_if true s ++ (names_if true ks ++ [])) [] in
        let b4 = occurs_both y (names_if true s) (names_if true ks ++ []) in
        let b5 = occurs_both y (names_if true ks) [] in
        omega arith

    names_shared_in : (counts : ℕ → Bool) {deep : ℕ → Bool} {fs gs : Fields} {xs : List Bound} {ls : List Tree} {c : ℕ → Tree → Bool} → SharesIn deep fs xs ls gs → fields_pass c fs ≡ true → all_in_fields stands fs ≡ true → all_in_fields is_whole_export fs ≡ true →
        ((i : ℕ) (t : Tree) → c i t ≡ true → deep i ≡ true → is_top (kind_of t) ≡ false) → O (names_in_fields counts gs) ≡ O (names_in_fields counts fs) + O (names_among xs)
    names_shared_in counts ends pass fine whole top = refl
    names_shared_in counts {c = c} (goes {f = f} {g = g} {fs = fs} {gs = gs} {xs = xs} {ys = ys} h hs) pass fine whole top =
        let p = and_parts (field_passes (c zero) f) (fields_pass (λ i. c (suc i)) fs) pass in
        let q = and_parts (all_in_field stands f) (all_in_fields stands fs) fine in
        let w = and_parts (all_in_field is_whole_export f) (all_in_fields is_whole_export fs) whole in
        let a : O (names_in_field (counts zero) g) ≡ O (names_in_field (counts zero) f) + O (names_among xs) = names_shared_by (counts zero) h p.0 q.0 w.0 (top zero) in
        let b : O (names_in_fields (λ i. counts (suc i)) gs) ≡ O (names_in_fields (λ i. counts (suc i)) fs) + O (names_among ys) = names_shared_in (λ i. counts (suc i)) {c = λ i. c (suc i)} hs p.1 q.1 w.1 (λ i. top (suc i)) in
        let d = occurs_both y (names_in_field (counts zero) g) (names_in_fields (λ i. counts (suc i)) gs) in
        let e = occurs_both y (names_in_field (counts zero) f) (names_in_fields (λ i. counts (suc i)) fs) in
        let m = occurs_among y xs ys in
        omega arith

    names_shared_by : (counts : Bool) {deep : Bool} {f g : Field} {xs : List Bound} {ls : List Tree} {c : Tree → Bool} → SharesBy deep f xs ls g → field_passes c f ≡ true → all_in_field stands f ≡ true → all_in_field is_whole_export f ≡ true →
        ((t : Tree) → c t ≡ true → deep ≡ true → is_top (kind_of t) ≡ false) → O (names_in_field counts g) ≡ O (names_in_field counts f) + O (names_among xs)
    names_shared_by counts at_none pass fine whole top = refl
    names_shared_by counts (at_one {t = t} h) pass fine whole top = names_shared counts h fine whole (top t pass)
    names_shared_by counts {c = c} (at_many h) pass fine whole top = names_shared_all {c = c} h pass fine whole top
    names_shared_by counts {c = c} (at_statements h) pass fine whole top = names_shared_all {c = c} h pass fine whole top

    pub names_shared_all : {deep : Bool} {ts us : Trees} {xs : List Bound} {ls : List Tree} {c : Tree → Bool} → SharesAll deep ts xs ls us → trees_pass c ts ≡ true → all_in_trees stands ts ≡ true → all_in_trees is_whole_export ts ≡ true →
        ((t : Tree) → c t ≡ true → deep ≡ true → is_top (kind_of t) ≡ false) → O (names_in_trees us) ≡ O (names_in_trees ts) + O (names_among xs)
    names_shared_all none pass fine whole top = refl
    names_shared_all {c = c} (next {t = t} {u = u} {ts = ts} {us = us} {xs = xs} {ys = ys} h hs) pass fine whole top =
        let p = and_parts (c t) (trees_pass c ts) pass in
        let q = and_parts (all_nodes stands t) (all_in_trees stands ts) fine in
        let w = and_parts (all_nodes is_whole_export t) (all_in_trees is_whole_export ts) whole in
        let a : O (names_if true u) ≡ O (names_if true t) + O (names_among xs) = names_shared true h q.0 w.0 (top t p.0) in
        let b : O (names_in_trees us) ≡ O (names_in_trees ts) + O (names_among ys) = names_shared_all {c = c} hs p.1 q.1 w.1 top in
        let d = occurs_both y (names_if true u) (names_in_trees us) in
        let e = occurs_both y (names_if true t) (names_in_trees ts) in
        let m = occurs_among y xs ys in
        omega arith
