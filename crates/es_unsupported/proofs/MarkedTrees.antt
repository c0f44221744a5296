-- What a walk over a tree with its marks finds is what is found among the visits of the tree.
use Rattle.std.proofs.Common.{◌≡◌, ℕ, zero, suc, ◌+◌, ◌-◌, ◌<◌, ◌≤◌, List, [], ◌∷◌, ◌++◌, Bool, true, false, ◌&&◌, ◌||◌, not, ltb, Option, Some, is_some, codes, if◌then◌else◌, length, refl, sym, ap, subst, ◌∙◌, arith}
use Rattle.std.specs.List.{All}
use Rattle.std.specs.Option.{option_or}
use Rattle.std.proofs.lemmas.Bool.{and_parts, lt-ltb}
use Rattle.std.proofs.lemmas.List.Elements.{All-head, All-nil, All-tail, All-cons}
use Rattle.es_tree.specs.Bare.{bare, bare_field, bare_fields, bare_label, bare_trees}
use Rattle.es_tree.specs.Constructs.{field_at, is_using}
use Rattle.es_tree.specs.HasForm.{same_type}
use Rattle.es_tree.specs.Names.{first_text}
use Rattle.es_tree.specs.Tree.{Tree, node, Label, Fields, done, ◌then◌, Field, missing, one, many, statements, Trees, empty, ◌before◌}
use Rattle.es_tree.specs.Words.{Text}
use Rattle.es_tree.specs.Walks.{all_in_field, all_in_fields, all_in_trees, all_nodes}
use Rattle.es_tree.specs.declared.ast_type.AstType.{AstType}
use Rattle.es_tree.specs.declared.ast_type.AstType.TheVariants.{FunctionBody, FunctionExpression, Identifier, TaggedTemplateExpression, VariableDeclaration}
use Rattle.es_tree.specs.declared.error.UnsupportedKind.{UnsupportedKind}
use Rattle.es_tree.specs.declared.error.UnsupportedKind.TheVariants.{HeadName, HelperName, MathBound, SpreadLiteral, TagChain, UsingFunction}
use Rattle.es_tree.specs.declared.options.EnvOptions.{EnvOptions}
use Rattle.es_scope.specs.declared.scoping.Scoping.{Scoping}
use Rattle.es_semantic.specs.Places.{Place, Visit, around_in, has_name_scope, is_inside, makes_scope, own_scope, own_scope_count, place_in, scope_count_in, scope_count_in_field, scope_count_in_fields, scope_count_in_trees, visits, visits_in_field, visits_in_fields, visits_in_trees}
use Rattle.es_semantic.specs.ReferencesOf.{identifier_marks, marked_in_field, marked_in_fields, marked_in_trees, marked_tree, own_marks_of, own_reference, references_among}
use Rattle.es_semantic.specs.SymbolsOf.{Declared, find, is_bound}
use Rattle.es_semantic.specs.declared.place.Role.{Role}
use Rattle.es_semantic.specs.declared.place.Role.TheVariants.{Nothing, Binds}
use Rattle.es_semantic.proofs.VisitCounts.{named_makes}
use Rattle.es_conditions.specs.CoreConditions.{is_copied}
use Rattle.es_rest_shapes.specs.HelperNames.{binds_helpers}
use Rattle.es_rest_shapes.proofs.BareRests.{declaration-bare}
use Rattle.es_using_heads.proofs.HeadAlike.{asks-bare}
use Rattle.es_unsupported.specs.ArrowShapes.{binds_arguments, may_bind_arguments, refers_by}
use Rattle.es_unsupported.specs.FirstUnsupported.{first_of, first_of_field, first_of_fields, first_of_trees, found_at}
use Rattle.es_unsupported.specs.MarkedWalk.{FindsFrom, LooksUp, LooksUpInField, LooksUpInFields, LooksUpInTrees, around_marked, first_at, first_in_field, first_in_fields, first_in_trees, has_known_scope, refers_by_mark, scope_mark}
use Rattle.es_unsupported.specs.NodePlaces.{node_place_in, place_shape}
use Rattle.es_runs.specs.OptionalChaining.{is_chain_kind}
use Rattle.es_chain_tags.specs.ChainTags.{has_chain_tag, is_chain_below}
use Rattle.es_unsupported.specs.Shapes.{Row, always, first_row, is_head_name, is_helper_bound, is_math_bound, is_spread_literal, is_tag_chain, is_unbuilt, is_using_function, rows, shape_at, stray_shape}
use Rattle.es_unsupported.specs.declared.node_places.NodePlace.{NodePlace}
use Rattle.es_unsupported.proofs.BareNodes.{exponentiation-bare, kind_within-bare, object-spread-bare, rest-target-bare}
use Rattle.es_unsupported.proofs.BarePlaces.{node_place-marked, place_shape-marked}
use Rattle.es_unsupported.proofs.BareSpreads.{literal-bare}
use Rattle.es_unsupported.proofs.BareStrays.{holds_stray-bare, stray_shape-bare}
use Rattle.es_unsupported.proofs.BareUsing.{clashes-bare}

-- MARKS CHANGE NOTHING BUT MARKS

module _ (ds : List Declared) where
  mutual
    bare-tree : (p : Place) (n m : ℕ) (t : Tree) → bare (marked_tree ds p n m t) ≡ bare t
    bare-tree p n m (node k l fs) = ap (node k (bare_label l)) (bare-fields (place_in p n k l fs) (n + own_scope_count k fs) (m + length (own_reference ds p k l)) fs)

    bare-fields : (ps : ℕ → Place) (n m : ℕ) (fs : Fields) → bare_fields (marked_in_fields ds ps n m fs) ≡ bare_fields fs
    bare-fields ps n m done = refl
    bare-fields ps n m (f then fs) = λ i. bare-field (ps zero) n m f i then bare-fields (λ j. ps (suc j)) (n + scope_count_in_field f) (m + length (references_among ds (visits_in_field (ps zero) n f))) fs i

    bare-field : (p : Place) (n m : ℕ) (f : Field) → bare_field (marked_in_field ds p n m f) ≡ bare_field f
    bare-field p n m missing = refl
    bare-field p n m (one t) = ap one (bare-tree p n m t)
    bare-field p n m (many ts) = ap many (bare-trees p n m ts)
    bare-field p n m (statements ts) = ap statements (bare-trees p n m ts)

    bare-trees : (p : Place) (n m : ℕ) (ts : Trees) → bare_trees (marked_in_trees ds p n m ts) ≡ bare_trees ts
    bare-trees p n m empty = refl
    bare-trees p n m (t before ts) = λ i. bare-tree p n m t i before bare-trees p (n + scope_count_in t) (m + length (references_among ds (visits p n t))) ts i

-- THE SHAPES LOOK AT NO MARK

chain_below-bare : (fs : Fields) → is_chain_below (field_at 0 (bare_fields fs)) ≡ is_chain_below (field_at 0 fs)
chain_below-bare done = refl
chain_below-bare (missing then fs) = refl
chain_below-bare (one t then fs) = ap is_chain_kind (kind_within-bare t)
chain_below-bare (many ts then fs) = refl
chain_below-bare (statements ts then fs) = refl

chain_tag-bare : (k : AstType) (l : Label) (fs : Fields) → has_chain_tag k (bare_label l) (bare_fields fs) ≡ has_chain_tag k l fs
chain_tag-bare TaggedTemplateExpression l fs = chain_below-bare fs
chain_tag-bare _ l fs = refl

using-bare : (k : AstType) (l : Label) (fs : Fields) → is_using k (bare_label l) (bare_fields fs) ≡ is_using k l fs
using-bare VariableDeclaration l fs = refl
using-bare _ l fs = refl

-- A row that looks at no mark: it holds of a node where it does of the bare one, and by the same name.
record LooksAtNoMark (r : Row) : Type 0 where
  holds : (o : EnvOptions) (ds : List Declared) (up : List ℕ) (k : AstType) (l : Label) (fs : Fields) → r.holds o ds up k (bare_label l) (bare_fields fs) ≡ r.holds o ds up k l fs
  shape : (k : AstType) (fs : Fields) → r.shape k (bare_fields fs) ≡ r.shape k fs

unbuilt-bare : LooksAtNoMark (record { shape = stray_shape; holds = is_unbuilt })
unbuilt-bare = record {
  holds = λ o ds up k l fs i. (is_some o.es2018.object_rest_spread && holds_stray-bare k l fs i) || (o.es2026.explicit_resource_management && using-bare k l fs i);
  shape = stray_shape-bare;
}

-- a row of one name
named-row : (x : UnsupportedKind) (test : EnvOptions → List Declared → List ℕ → AstType → Label → Fields → Bool) →
    ((o : EnvOptions) (ds : List Declared) (up : List ℕ) (k : AstType) (l : Label) (fs : Fields) → test o ds up k (bare_label l) (bare_fields fs) ≡ test o ds up k l fs) →
    LooksAtNoMark (record { shape = always x; holds = test })
named-row x test same = record { holds = same; shape = λ k fs. refl }

math_bound-bare : LooksAtNoMark (record { shape = always MathBound; holds = is_math_bound })
math_bound-bare = named-row MathBound is_math_bound (λ o ds up k l fs. ap (λ b. o.es2016.exponentiation_operator && b && is_some (find ds up (codes "Math"))) (exponentiation-bare k l fs))

copied-bare : (k : AstType) (l : Label) (fs : Fields) → is_copied k (bare_label l) (bare_fields fs) ≡ is_copied k l fs
copied-bare k l fs = λ i. object-spread-bare k l fs i || rest-target-bare (one (node k l fs)) i

helper_bound-bare : LooksAtNoMark (record { shape = always HelperName; holds = is_helper_bound })
helper_bound-bare =
    named-row HelperName is_helper_bound (λ o ds up k l fs i. is_some o.es2018.object_rest_spread && ((copied-bare k l fs i && is_some (find ds up (codes "babelHelpers"))) || (declaration-bare k l fs i && binds_helpers ds)))

spread_literal-bare : LooksAtNoMark (record { shape = always SpreadLiteral; holds = is_spread_literal })
spread_literal-bare = named-row SpreadLiteral is_spread_literal (λ o ds up k l fs. ap (λ b. is_some o.es2018.object_rest_spread && b) (literal-bare k l fs))

tag_chain-bare : LooksAtNoMark (record { shape = always TagChain; holds = is_tag_chain })
tag_chain-bare = named-row TagChain is_tag_chain (λ o ds up k l fs. ap (λ b. o.es2020.optional_chaining && b) (chain_tag-bare k l fs))

head_name-bare : LooksAtNoMark (record { shape = always HeadName; holds = is_head_name })
head_name-bare = named-row HeadName is_head_name (λ o ds up k l fs. ap (λ b. o.es2026.explicit_resource_management && b) (asks-bare k l fs))

using_function-bare : LooksAtNoMark (record { shape = always UsingFunction; holds = is_using_function })
using_function-bare = named-row UsingFunction is_using_function (λ o ds up k l fs. ap (λ b. o.es2026.explicit_resource_management && b) (clashes-bare k fs))

abbrev LookAtNoMark : List Row → Type 0
LookAtNoMark [] = Unit {0}
LookAtNoMark (r ∷ rs) = LooksAtNoMark r × LookAtNoMark rs

-- so it is for each row of the table
rows-bare : LookAtNoMark rows
rows-bare = (unbuilt-bare, (math_bound-bare, (helper_bound-bare, (spread_literal-bare, (tag_chain-bare, (head_name-bare, (using_function-bare, tt)))))))

first_row-bare : (rs : List Row) → LookAtNoMark rs → (o : EnvOptions) (ds : List Declared) (up : List ℕ) (k : AstType) (l : Label) (fs : Fields) → first_row rs o ds up k (bare_label l) (bare_fields fs) ≡ first_row rs o ds up k l fs
first_row-bare [] all o ds up k l fs = refl
first_row-bare (r ∷ rs) all o ds up k l fs = λ i. if all.0.holds o ds up k l fs i then Some (all.0.shape k fs i) else first_row-bare rs all.1 o ds up k l fs i

shape-bare : (o : EnvOptions) (ds : List Declared) (up : List ℕ) (k : AstType) (l : Label) (fs : Fields) → shape_at o ds up k (bare_label l) (bare_fields fs) ≡ shape_at o ds up k l fs
shape-bare = first_row-bare rows rows-bare

shape-marked : (o : EnvOptions) (ds : List Declared) (up : List ℕ) (k : AstType) (l : Label) (ms : List (Option ℕ)) (fs gs : Fields) → bare_fields gs ≡ bare_fields fs → shape_at o ds up k (record l { marks = ms }) gs ≡ shape_at o ds up k l fs
shape-marked o ds up k l ms fs gs e = sym (shape-bare o ds up k (record l { marks = ms }) gs) ∙ (ap (shape_at o ds up k (bare_label l)) e ∙ shape-bare o ds up k l fs)

-- THE SCOPES THAT THE MARKS TELL

named-marked : (ds : List Declared) (ps : ℕ → Place) (n m : ℕ) (k : AstType) (fs : Fields) → has_name_scope k (marked_in_fields ds ps n m fs) ≡ has_name_scope k fs
named-marked ds ps n m FunctionExpression done = refl
named-marked ds ps n m FunctionExpression (missing then fs) = refl
named-marked ds ps n m FunctionExpression (one t then fs) = refl
named-marked ds ps n m FunctionExpression (many ts then fs) = refl
named-marked ds ps n m FunctionExpression (statements ts then fs) = refl
named-marked ds ps n m _ fs = refl

own_if : (b : Bool) (n : ℕ) (ms : List (Option ℕ)) → b ≡ true → scope_mark (if b then Some n ∷ [] else ms) ≡ n
own_if true n ms h = refl
own_if false n ms h = absurd (cc)

own-marked : (ds : List Declared) (p : Place) (n m : ℕ) (k : AstType) (l : Label) (fs : Fields) → makes_scope k ≡ true → scope_mark (own_marks_of ds p n m k l fs) ≡ own_scope n k fs
own-marked ds p n m Identifier l fs h = absurd (cc)
own-marked ds p n m k l fs h = own_if (makes_scope k) (own_scope n k fs) l.marks h

same_around : (makes named inside : Bool) (mark n : ℕ) (up : List ℕ) → (named ≡ true → makes ≡ true) → (makes ≡ true → mark ≡ (if named then suc n else n)) →
    let outer = if named then (mark - 1) ∷ up else up in let around = if named then n ∷ up else up in
    (if makes && inside then mark ∷ outer else outer) ≡ (if makes && inside then (if named then suc n else n) ∷ around else around)
same_around false true inside mark n up h e = absurd (let no : false ≡ true = h refl in cc)
same_around false false inside mark n up h e = refl
same_around true false true mark n up h e = ap (λ m. m ∷ up) (e refl)
same_around true false false mark n up h e = refl
same_around true true inside mark n up h e =
    let own : mark ≡ suc n = e refl in
    let name : mark - 1 ≡ n = omega (arith, own) in
    at inside own name
  where
    at : (b : Bool) → mark ≡ suc n → mark - 1 ≡ n → (if b then mark ∷ ((mark - 1) ∷ up) else (mark - 1) ∷ up) ≡ (if b then suc n ∷ (n ∷ up) else n ∷ up)
    at true own name = λ i. own i ∷ (name i ∷ up)
    at false own name = ap (λ m. m ∷ up) name

around-marked : (ds : List Declared) (p : Place) (ps : ℕ → Place) (n m n' m' : ℕ) (k : AstType) (l : Label) (fs : Fields) (i : ℕ) →
    around_marked p.around k (record l { marks = own_marks_of ds p n m k l fs }) (marked_in_fields ds ps n' m' fs) i ≡ around_in p.around n k fs i
around-marked ds p ps n m n' m' k l fs i =
    let mark = scope_mark (own_marks_of ds p n m k l fs) in
    ap (λ b. let outer = if b then (mark - 1) ∷ p.around else p.around in if makes_scope k && is_inside k i then mark ∷ outer else outer) (named-marked ds ps n' m' k fs)
    ∙ same_around (makes_scope k) (has_name_scope k fs) (is_inside k i) mark n p.around (named_makes k fs) (own-marked ds p n m k l fs)

-- WHAT IS FOUND

-- an identifier refers by its mark where it does by its role

refers-marked : (ds : List Declared) (p : Place) (m : ℕ) (r : Role) (x : Text) → refers_by_mark (identifier_marks ds p m r x) ≡ refers_by r
refers-marked ds p m Nothing x = refl
refers-marked ds p m (Binds b) x = refl
refers-marked ds p m _ x = refl

-- no other node asks for that
reference-marked : (o : EnvOptions) (ds : List Declared) (p : Place) (n m : ℕ) (q : NodePlace) (k : AstType) (l : Label) (fs : Fields) →
    place_shape o q (refers_by_mark (own_marks_of ds p n m k l fs)) k l fs ≡ place_shape o q (refers_by p.role) k l fs
reference-marked o ds p n m q Identifier l fs = ap (λ r. place_shape o q r Identifier l fs) (refers-marked ds p m p.role (first_text l.texts))
reference-marked o ds p n m q _ l fs = refl

-- the scope of a node is that of its mark, where it makes one
where-so : (b : Bool) (f : ℕ → Bool) (x y : ℕ) → (b ≡ true → x ≡ y) → (b && f x) ≡ (b && f y)
where-so true f x y e = ap f (e refl)
where-so false f x y e = refl

binds-marked : (ds : List Declared) (p : Place) (n m : ℕ) (k : AstType) (l : Label) (fs : Fields) → binds_arguments ds (scope_mark (own_marks_of ds p n m k l fs)) k ≡ binds_arguments ds (own_scope n k fs) k
binds-marked ds p n m k l fs = where-so (may_bind_arguments k) (λ s. is_bound ds s (codes "arguments")) (scope_mark (own_marks_of ds p n m k l fs)) (own_scope n k fs) (λ e. own-marked ds p n m k l fs (and_parts (makes_scope k) (not (same_type k FunctionBody)) e).0)

-- what is known of places is the same of fields that differ in marks alone
abbrev Alike : (qs rs : ℕ → Field → NodePlace) → Type 0
Alike qs rs = (i : ℕ) (f g : Field) → bare_field g ≡ bare_field f → qs i g ≡ rs i f

module _ (o : EnvOptions) (ds : List Declared) where
  mutual
    pub first-marked : (p : Place) (q : NodePlace) (n m : ℕ) (t : Tree) → first_at o ds p.around q (marked_tree ds p n m t) ≡ first_of o ds p q n t
    first-marked p q n m (node k l fs) =
        let ps = place_in p n k l fs in
        let s = n + own_scope_count k fs in
        let r = m + length (own_reference ds p k l) in
        let gs = marked_in_fields ds ps s r fs in
        let own = own_marks_of ds p n m k l fs in
        let marks : Label = record l { marks = own } in
        let same : bare_fields gs ≡ bare_fields fs = bare-fields ds ps s r fs in
        let here : shape_at o ds p.around k marks gs ≡ shape_at o ds p.around k l fs = shape-marked o ds p.around k l own fs gs same in
        let there : place_shape o q (refers_by_mark own) k marks gs ≡ place_shape o q (refers_by p.role) k l fs = place_shape-marked o q k l own fs gs same (refers_by_mark own) ∙ reference-marked o ds p n m q k l fs in
        let ups : around_marked p.around k marks gs ≡ (λ i. (ps i).around) = λ j i. around-marked ds p ps n m s r k l fs i j in
        let qs : ℕ → Field → NodePlace = node_place_in o (binds_arguments ds (scope_mark own) k) q k marks gs in
        let rs : ℕ → Field → NodePlace = node_place_in o (binds_arguments ds (own_scope n k fs) k) q k l fs in
        let alike : Alike qs rs = λ i f g e. node_place-marked o q k l own fs gs same (binds_arguments ds (scope_mark own) k) i f g e ∙ ap (λ b. node_place_in o b q k l fs i f) (binds-marked ds p n m k l fs) in
        let inner : first_in_fields o ds (around_marked p.around k marks gs) qs gs ≡ first_of_fields o ds ps rs s fs = ap (λ us. first_in_fields o ds us qs gs) ups ∙ first-marked-fields ps qs rs alike s r fs in
        λ j. option_or (found_at l.id (option_or (here j) (there j))) (inner j)

    first-marked-fields : (ps : ℕ → Place) (qs rs : ℕ → Field → NodePlace) → Alike qs rs → (n m : ℕ) (fs : Fields) → first_in_fields o ds (λ i. (ps i).around) qs (marked_in_fields ds ps n m fs) ≡ first_of_fields o ds ps rs n fs
    first-marked-fields ps qs rs alike n m done = refl
    first-marked-fields ps qs rs alike n m (f then fs) =
        let g = marked_in_field ds (ps zero) n m f in
        let s = n + scope_count_in_field f in
        let t = m + length (references_among ds (visits_in_field (ps zero) n f)) in
        let field : first_in_field o ds (ps zero).around (qs zero g) g ≡ first_of_field o ds (ps zero) (rs zero f) n f = ap (λ q. first_in_field o ds (ps zero).around q g) (alike zero f g (bare-field ds (ps zero) n m f)) ∙ first-marked-field (ps zero) (rs zero f) n m f in
        λ j. option_or (field j) (first-marked-fields (λ i. ps (suc i)) (λ i. qs (suc i)) (λ i. rs (suc i)) (λ i. alike (suc i)) s t fs j)

    first-marked-field : (p : Place) (q : NodePlace) (n m : ℕ) (f : Field) → first_in_field o ds p.around q (marked_in_field ds p n m f) ≡ first_of_field o ds p q n f
    first-marked-field p q n m missing = refl
    first-marked-field p q n m (one t) = first-marked p q n m t
    first-marked-field p q n m (many ts) = first-marked-trees p q n m ts
    first-marked-field p q n m (statements ts) = first-marked-trees p q n m ts

    first-marked-trees : (p : Place) (q : NodePlace) (n m : ℕ) (ts : Trees) → first_in_trees o ds p.around q (marked_in_trees ds p n m ts) ≡ first_of_trees o ds p q n ts
    first-marked-trees p q n m empty = refl
    first-marked-trees p q n m (t before ts) =
        λ j. option_or (first-marked p q n m t j) (first-marked-trees p q (n + scope_count_in t) (m + length (references_among ds (visits p n t))) ts j)

-- LOOK-UP

all_first : {X : Type 0} (P : X → Type 0) (xs ys : List X) → All P (xs ++ ys) → All P xs
all_first P [] ys h = All-nil P
all_first P (x ∷ xs) ys h = All-cons P x xs (All-head P x (xs ++ ys) h) (all_first P xs ys (All-tail P x (xs ++ ys) h))

all_later : {X : Type 0} (P : X → Type 0) (xs ys : List X) → All P (xs ++ ys) → All P ys
all_later P [] ys h = h
all_later P (x ∷ xs) ys h = all_later P xs ys (All-tail P x (xs ++ ys) h)

module _ (s : Scoping) (ds : List Declared) where
  -- look-up is right at a visit
  abbrev pub FindsAt : Visit → Type 0
  FindsAt v = FindsFrom s ds v.place.around

  mutual
    pub looks-up-marked : (p : Place) (n m : ℕ) (t : Tree) → All FindsAt (visits p n t) → LooksUp s ds p.around (marked_tree ds p n m t)
    looks-up-marked p n m (node k l fs) h =
        let ps = place_in p n k l fs in
        let q = n + own_scope_count k fs in
        let r = m + length (own_reference ds p k l) in
        let gs = marked_in_fields ds ps q r fs in
        let marks : Label = record l { marks = own_marks_of ds p n m k l fs } in
        let vs = visits_in_fields ps q fs in
        let ups : (λ i. (ps i).around) ≡ around_marked p.around k marks gs = sym (λ j i. around-marked ds p ps n m q r k l fs i j) in
        let v : Visit = record { place = p; next = n; kind = k; label = l; fields = fs } in
        (All-head FindsAt v vs h, subst (λ us. LooksUpInFields s ds us gs) ups (looks-up-fields ps q r fs (All-tail FindsAt v vs h)))

    looks-up-fields : (ps : ℕ → Place) (n m : ℕ) (fs : Fields) → All FindsAt (visits_in_fields ps n fs) → LooksUpInFields s ds (λ i. (ps i).around) (marked_in_fields ds ps n m fs)
    looks-up-fields ps n m done h = tt
    looks-up-fields ps n m (f then fs) h =
        let qs : ℕ → Place = λ i. ps (suc i) in
        let q = n + scope_count_in_field f in
        let vs = visits_in_field (ps zero) n f in
        let ws = visits_in_fields qs q fs in
        (looks-up-field (ps zero) n m f (all_first FindsAt vs ws h), looks-up-fields qs q (m + length (references_among ds vs)) fs (all_later FindsAt vs ws h))

    looks-up-field : (p : Place) (n m : ℕ) (f : Field) → All FindsAt (visits_in_field p n f) → LooksUpInField s ds p.around (marked_in_field ds p n m f)
    looks-up-field p n m missing h = tt
    looks-up-field p n m (one t) h = looks-up-marked p n m t h
    looks-up-field p n m (many ts) h = looks-up-trees p n m ts h
    looks-up-field p n m (statements ts) h = looks-up-trees p n m ts h

    looks-up-trees : (p : Place) (n m : ℕ) (ts : Trees) → All FindsAt (visits_in_trees p n ts) → LooksUpInTrees s ds p.around (marked_in_trees ds p n m ts)
    looks-up-trees p n m empty h = tt
    looks-up-trees p n m (t before ts) h =
        let q = n + scope_count_in t in
        let vs = visits p n t in
        let ws = visits_in_trees p q ts in
        (looks-up-marked p n m t (all_first FindsAt vs ws h), looks-up-trees p q (m + length (references_among ds vs)) ts (all_later FindsAt vs ws h))

-- THE SCOPES ARE OF THE TABLE

both : (a b : Bool) → a ≡ true → b ≡ true → (a && b) ≡ true
both true b h g = g
both false b h g = absurd (cc)

known_if : (makes named : Bool) (mark n count : ℕ) → (named ≡ true → makes ≡ true) → (makes ≡ true → mark ≡ (if named then suc n else n)) → n + (if named then 2 else if makes then 1 else 0) ≤ count → (not makes || ltb mark count) ≡ true
known_if false named mark n count h e l = refl
known_if true true mark n count h e l = let own : mark ≡ suc n = e refl in let lt : mark < count = omega (arith, own, l) in lt-ltb mark count lt
known_if true false mark n count h e l = let own : mark ≡ n = e refl in let lt : mark < count = omega (arith, own, l) in lt-ltb mark count lt

module _ (ds : List Declared) (count : ℕ) where
  abbrev known : AstType → Label → Fields → Bool
  known = has_known_scope count

  mutual
    pub known-marked : (p : Place) (n m : ℕ) (t : Tree) → n + scope_count_in t ≤ count → all_nodes (has_known_scope count) (marked_tree ds p n m t) ≡ true
    known-marked p n m (node k l fs) h =
        let ps = place_in p n k l fs in
        let s = n + own_scope_count k fs in
        let r = m + length (own_reference ds p k l) in
        let own = own_marks_of ds p n m k l fs in
        both (known k (record l { marks = own }) (marked_in_fields ds ps s r fs)) (all_in_fields known (marked_in_fields ds ps s r fs))
        (known_if (makes_scope k) (has_name_scope k fs) (scope_mark own) n count (named_makes k fs) (own-marked ds p n m k l fs) (omega (arith, h)))
        (known-fields ps s r fs (omega (arith, h)))

    known-fields : (ps : ℕ → Place) (n m : ℕ) (fs : Fields) → n + scope_count_in_fields fs ≤ count → all_in_fields (has_known_scope count) (marked_in_fields ds ps n m fs) ≡ true
    known-fields ps n m done h = refl
    known-fields ps n m (f then fs) h =
        let qs : ℕ → Place = λ i. ps (suc i) in
        let s = n + scope_count_in_field f in
        let r = m + length (references_among ds (visits_in_field (ps zero) n f)) in
        both (all_in_field known (marked_in_field ds (ps zero) n m f)) (all_in_fields known (marked_in_fields ds qs s r fs))
        (known-field (ps zero) n m f (omega (arith, h))) (known-fields qs s r fs (omega (arith, h)))

    known-field : (p : Place) (n m : ℕ) (f : Field) → n + scope_count_in_field f ≤ count → all_in_field (has_known_scope count) (marked_in_field ds p n m f) ≡ true
    known-field p n m missing h = refl
    known-field p n m (one t) h = known-marked p n m t h
    known-field p n m (many ts) h = known-trees p n m ts h
    known-field p n m (statements ts) h = known-trees p n m ts h

    known-trees : (p : Place) (n m : ℕ) (ts : Trees) → n + scope_count_in_trees ts ≤ count → all_in_trees (has_known_scope count) (marked_in_trees ds p n m ts) ≡ true
    known-trees p n m empty h = refl
    known-trees p n m (t before ts) h =
        let s = n + scope_count_in t in
        let r = m + length (references_among ds (visits p n t)) in
        both (all_nodes known (marked_tree ds p n m t)) (all_in_trees known (marked_in_trees ds p s r ts))
        (known-marked p n m t (omega (arith, h))) (known-trees p s r ts (omega (arith, h)))
