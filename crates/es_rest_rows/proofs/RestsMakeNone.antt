-- Steps of a walk that takes rests leave a program without any other construct that was absent.
use Rattle.std.proofs.Common.{◌≡◌, ◌∙◌, ℕ, zero, suc, refl, sym, ap, subst, List, [], ◌∷◌, true≢false}
use Rattle.std.specs.Prelude.{Bool, true, false, ◌&&◌, ◌||◌, not, bytes_eq, codes, is_some, map}
use Rattle.es_tree.specs.Ancestors.{Ancestor}
use Rattle.es_tree.specs.Constructs.{any_kind, field_at, is_enabled_statement}
use Rattle.es_tree.specs.Names.{first_text}
use Rattle.es_tree.specs.Tree.{Tree, node, Label, Fields, done, ◌then◌, Field, missing, one, many, statements, Trees, empty, ◌before◌, fields, kind_of}
use Rattle.es_tree.specs.Words.{Text}
use Rattle.es_tree.specs.declared.ast_type.AstType.{AstType}
use Rattle.es_tree.specs.declared.ast_type.AstType.TheVariants.{ArrayExpression, ArrowFunctionExpression, AssignmentExpression, AssignmentPattern, BinaryExpression, CallExpression, CatchClause, ChainExpression, ExportAllDeclaration, Identifier, LogicalExpression, MemberExpression, ObjectExpression, ObjectPattern, ObjectTarget, PatternProperty, RestElement, SequenceExpression, StringLiteral, VariableDeclaration, VariableDeclarator}
use Rattle.es_tree.specs.declared.options.EnvOptions.{EnvOptions}
use Rattle.es_resolution.specs.Declarations.{Bound}
use Rattle.es_steps.specs.Nodes.{array_node, call_node, declarator_with, identifier, joined_trees, made as made_label, member_node}
use Rattle.es_steps.specs.ObjectRest.{declares_as, declares_some, helper_node, left_of, pattern_node, whole_value}
use Rattle.es_steps.specs.Open.{Pending, body_with, opened, with_vars, written_body}
use Rattle.es_steps.specs.Rules.{next_name}
use Rattle.es_steps.specs.Steps.{Ledger, Site, Spot, Step, Steps, Whole, the_program}
use Rattle.es_steps.specs.Steps.Spot.{at_node}
use Rattle.es_steps.proofs.FormRules.{AtNodes, no-names}
use Rattle.es_steps.proofs.Opened.{finished-opened}
use Rattle.es_steps.proofs.Written.{joined-twice}
use Rattle.es_reached.specs.Walks.{is_other_expression}
use Rattle.es_reached.proofs.FreeTrees.{Free, FreeAll, FreeBy, FreeIn, PassesNoMade, body-free, free, free-body, free-joined, free-whole, joined-free, joined-kinds, none, vars-free, whole-free}
use Rattle.es_reached.proofs.WalkTests.{Alike, AlikeBy, AlikeIn, IsBlind, alike-node, by-one, by-same, others-steady}
use Rattle.es_rest_rows.specs.Laws.{LawRestsMakeNone, is_other_construct}
use Rattle.es_rest_rows.specs.RestRows.{NamesKeys, PutsName, RestWalkRow, declaring, group, groups, groups_by, keyed_by, keys_by, keys_of, names_key, parted, property_of, taken, text_of_key, with_rest}
use Rattle.es_rest_rows.specs.RestRows.NamesKeys.{knows, no_properties, reads_one}
use Rattle.es_rest_rows.specs.RestRows.PutsName.{for_pattern, with_default}
use Rattle.es_rest_rows.specs.RestRows.RowsWhere.{nested, stores, takes}
use Rattle.es_rest_shapes.specs.RestShapes.{any_tree, reads_key}
use Rattle.es_rest_rows.proofs.Changes.{Changed, ChangedAll, ChangedBy, ChangedIn, Grown, in-a-row, nodes-change, opened-proper}
use Rattle.es_rest_rows.proofs.Changes.Changed.{here, within}
use Rattle.es_rest_rows.proofs.Changes.ChangedIn.{first, later}
use Rattle.es_rest_rows.proofs.Changes.ChangedBy.{of_body, of_list, of_many, of_one, same_field}
use Rattle.es_rest_rows.proofs.Changes.ChangedAll.{beside, head, same_trees, tail}

-- THE TESTS ask nothing of what the rows change

-- kinds of nodes that a row makes, besides those of what is pending
abbrev is_row_kind : AstType → Bool
is_row_kind ArrayExpression = true
is_row_kind AssignmentPattern = true
is_row_kind CallExpression = true
is_row_kind MemberExpression = true
is_row_kind ObjectPattern = true
is_row_kind PatternProperty = true
is_row_kind SequenceExpression = true
is_row_kind _ = false

record IsOther (T : AstType → Label → Fields → Bool) : Type 0 where
  made : PassesNoMade T
  rows : (k : AstType) (l : Label) (fs : Fields) → is_row_kind k ≡ true → T k l fs ≡ false
  objects : (l : Label) → T ObjectExpression l (many empty then done) ≡ false
  same : (k : AstType) (l : Label) (fs gs : Fields) → AlikeIn fs gs → T k l fs ≡ T k l gs

module _ (o : EnvOptions) where
  abbrev T : AstType → Label → Fields → Bool
  T = is_other_construct o

  off : (b : Bool) → (b && false) ≡ false
  off true = refl
  off false = refl

  all-off : (a b c d e f g h v : Bool) → v ≡ false → ((a && false) || (b && false) || (c && false) || (d && false) || (e && false) || (e && false) || (f && false) || ((g && false) || (h && false) || v)) ≡ false
  all-off a b c d e f g h v z = λ i. off a i || off b i || off c i || off d i || off e i || off e i || off f i || (off g i || off h i || z i)

  nothing-on : (v : Bool) → v ≡ false → ((o.es2016.exponentiation_operator && false) || (o.es2020.nullish_coalescing_operator && false) || (o.es2020.optional_chaining && false) || (o.es2021.logical_assignment_operators && false) || (is_some o.es2018.object_rest_spread && false) || (is_some o.es2018.object_rest_spread && false) || (is_some o.es2015.arrow_function && false) || ((o.es2019.optional_catch_binding && false) || (o.es2020.export_namespace_from && false) || v)) ≡ false
  nothing-on v z = all-off o.es2016.exponentiation_operator o.es2020.nullish_coalescing_operator o.es2020.optional_chaining o.es2021.logical_assignment_operators (is_some o.es2018.object_rest_spread) (is_some o.es2015.arrow_function) o.es2019.optional_catch_binding o.es2020.export_namespace_from v z

  no-using : (b : Bool) → not b ≡ true → (o.es2026.explicit_resource_management && b) ≡ false
  no-using true e = absurd (true≢false (sym e))
  no-using false e = off o.es2026.explicit_resource_management

  made-other : PassesNoMade T
  made-other ArrowFunctionExpression l fs h = absurd (cc h)
  made-other AssignmentExpression l fs h = absurd (cc h)
  made-other BinaryExpression l fs h = absurd (cc h)
  made-other CatchClause l fs h = absurd (cc h)
  made-other ChainExpression l fs h = absurd (cc h)
  made-other ExportAllDeclaration l fs h = absurd (cc h)
  made-other LogicalExpression l fs h = absurd (cc h)
  made-other ObjectExpression l fs h = absurd (cc h)
  made-other VariableDeclaration l fs h = nothing-on (o.es2026.explicit_resource_management && bytes_eq (first_text l.texts) (codes "using")) (no-using (bytes_eq (first_text l.texts) (codes "using")) h)
  made-other _ l fs h = nothing-on (o.es2026.explicit_resource_management && false) (off o.es2026.explicit_resource_management)

  rows-other : (k : AstType) (l : Label) (fs : Fields) → is_row_kind k ≡ true → T k l fs ≡ false
  rows-other ArrayExpression l fs h = nothing-on (o.es2026.explicit_resource_management && false) (off o.es2026.explicit_resource_management)
  rows-other AssignmentPattern l fs h = nothing-on (o.es2026.explicit_resource_management && false) (off o.es2026.explicit_resource_management)
  rows-other CallExpression l fs h = nothing-on (o.es2026.explicit_resource_management && false) (off o.es2026.explicit_resource_management)
  rows-other MemberExpression l fs h = nothing-on (o.es2026.explicit_resource_management && false) (off o.es2026.explicit_resource_management)
  rows-other ObjectPattern l fs h = nothing-on (o.es2026.explicit_resource_management && false) (off o.es2026.explicit_resource_management)
  rows-other PatternProperty l fs h = nothing-on (o.es2026.explicit_resource_management && false) (off o.es2026.explicit_resource_management)
  rows-other SequenceExpression l fs h = nothing-on (o.es2026.explicit_resource_management && false) (off o.es2026.explicit_resource_management)
  rows-other _ l fs h = absurd (cc h)

  objects-other : (l : Label) → T ObjectExpression l (many empty then done) ≡ false
  objects-other l = nothing-on (o.es2026.explicit_resource_management && false) (off o.es2026.explicit_resource_management)

  -- but for arrows they are the tests of a walk that lowers arrows
  as-there : (a f v : Bool) → (a || (f && false) || v) ≡ (a || v)
  as-there true f v = refl
  as-there false true v = refl
  as-there false false v = refl

  there : (k : AstType) (l : Label) (fs : Fields) → (is_other_expression o k l fs || (is_some o.es2015.arrow_function && false) || is_enabled_statement o k l fs) ≡ (is_other_expression o k l fs || is_enabled_statement o k l fs)
  there k l fs = as-there (is_other_expression o k l fs) (is_some o.es2015.arrow_function) (is_enabled_statement o k l fs)

  same-other : (k : AstType) (l : Label) (fs gs : Fields) → AlikeIn fs gs → T k l fs ≡ T k l gs
  same-other ArrowFunctionExpression l fs gs a = refl
  same-other ObjectPattern l fs gs a = refl
  same-other ObjectTarget l fs gs a = refl
  same-other k l fs gs a = there k l fs ∙ (others-steady o).same k l fs gs a ∙ sym (there k l gs)

  others : IsOther T
  others = record { made = made-other; rows = rows-other; objects = objects-other; same = same-other }

-- THE ROWS

or-twice : (a b : Bool) → (a || b) ≡ (a || (a || b))
or-twice true b = refl
or-twice false b = refl

-- a declarator becomes others
other-kinds : (q : AstType → Bool) (a c : Trees) (d : Tree) (us : Trees) → any_kind q (d before c) ≡ any_kind q (joined_trees us c) → any_kind q (joined_trees a (d before c)) ≡ any_kind q (joined_trees a (joined_trees us c))
other-kinds q a c d us e = joined-kinds q a (d before c) ∙ ap (λ v. any_kind q a || v) e ∙ sym (joined-kinds q a (joined_trees us c))

names-kind : (q : AstType → Bool) (x : Bound) (p : Tree) → q (kind_of (names_key x p)) ≡ q VariableDeclarator
names-kind q x (node k l done) = refl
names-kind q x (node k l (missing then fs)) = refl
names-kind q x (node k l (one e then fs)) = refl
names-kind q x (node k l (many ts then fs)) = refl
names-kind q x (node k l (statements ts then fs)) = refl

or-thrice : (a b c d : Bool) → c ≡ a → d ≡ (a || b) → (a || (c || d)) ≡ (a || b)
or-thrice true b c d e f = refl
or-thrice false b c d e f = (λ i. e i || f i)

-- groups are declarators
groups-kinds : (q : AstType → Bool) (lp : Label) (s : Tree) (xs : List Bound) (b ps us : Trees) → any_kind q (joined_trees (groups lp s xs b ps) us) ≡ (q VariableDeclarator || any_kind q us)
groups-kinds q lp s xs b empty us = refl
groups-kinds q lp s xs b (p before ps) us = at (reads_key p) xs (λ ys these. groups-kinds q lp s ys these ps us)
  where
    at : (v : Bool) (xs : List Bound) → ((ys : List Bound) (these : Trees) → any_kind q (joined_trees (groups lp s ys these ps) us) ≡ (q VariableDeclarator || any_kind q us)) →
        any_kind q (joined_trees (groups_by v lp s xs b p (λ ys these. groups lp s ys these ps)) us) ≡ (q VariableDeclarator || any_kind q us)
    at true (x ∷ xs) behind = or-thrice (q VariableDeclarator) (any_kind q us) (q (kind_of (names_key x p))) (any_kind q (joined_trees (groups lp s xs (keyed_by x p before empty) ps) us)) (names-kind q x p) (behind xs (keyed_by x p before empty))
    at true [] behind = behind [] (joined_trees b (p before empty))
    at false xs behind = behind xs (joined_trees b (p before empty))

taken-kinds : (q : AstType → Bool) (l : Label) (fs : Fields) (lp : Label) (s : Tree) (xs : List Bound) (ps : Trees) (t : Tree) (c : Trees) → any_kind q (node VariableDeclarator l fs before c) ≡ any_kind q (joined_trees (taken lp s xs ps t) c)
taken-kinds q l fs lp s xs empty t c = refl
taken-kinds q l fs lp s xs (p before ps) t c =
    let last = declarator_with t (left_of (any_tree reads_key (p before ps)) s (keys_of xs (p before ps))) in
    or-twice (q VariableDeclarator) (any_kind q c) ∙ (sym (groups-kinds q lp s xs empty (p before ps) (last before c)) ∙ ap (λ (ds : Trees). any_kind q ds) (sym (joined-twice (groups lp s xs empty (p before ps)) (last before empty) c)))

parted-kinds : (q : AstType → Bool) (lp : Label) (s : Tree) (ps : Trees) (u p : Tree) (x : Bound) (rs c : Trees) → (q VariableDeclarator || any_kind q c) ≡ any_kind q (joined_trees (parted lp s ps u p x rs) c)
parted-kinds q lp s ps u p x empty c = or-twice (q VariableDeclarator) (any_kind q c)
parted-kinds q lp s ps u p x (r before rs) c = or-twice (q VariableDeclarator) (any_kind q c) ∙ or-twice (q VariableDeclarator) (q VariableDeclarator || any_kind q c)

list-alike : (ts us : Trees) → ((q : AstType → Bool) → IsBlind q → any_kind q ts ≡ any_kind q us) → AlikeBy (many ts) (many us)
list-alike ts us h = record { child = λ q b. refl; target = refl; rest = refl; members = h; there = refl }

first-alike : (f g : Field) (fs : Fields) → AlikeBy f g → AlikeIn (f then fs) (g then fs)
first-alike f g fs h zero = h
first-alike f g fs h (suc n) = by-same (field_at n fs)

later-alike : (f : Field) (fs gs : Fields) → AlikeIn fs gs → AlikeIn (f then fs) (f then gs)
later-alike f fs gs h zero = by-same f
later-alike f fs gs h (suc n) = h n

module _ (T : AstType → Label → Fields → Bool) (other : IsOther T) where
  -- WHAT A ROW LEAVES

  record Walked (t u : Tree) : Type 0 where
    free : Free T t → Free T u
    alike : Alike t u

  -- a declaration of which a declarator became others
  declared : (m : Label) (a c : Trees) (d : Tree) (us : Trees) → ((q : AstType → Bool) → any_kind q (d before c) ≡ any_kind q (joined_trees us c)) → (Free T d → FreeAll T us) → Walked (declaring m (joined_trees a (d before c))) (declaring m (joined_trees a (joined_trees us c)))
  declared m a c d us e split = record { free = left; alike = record { kind = λ q b. refl; member = refl; rest = refl } }
    where
      old : Trees
      old = joined_trees a (d before c)

      new : Trees
      new = joined_trees a (joined_trees us c)

      left : Free T (declaring m old) → Free T (declaring m new)
      left h =
          let parts = free-joined T a (d before c) h.1.0 in
          let left_free = joined-free T us c (split parts.1.0) parts.1.1 in
          (sym (other.same VariableDeclaration m (many old then done) (many new then done) (first-alike (many old) (many new) done (list-alike old new (λ q b. other-kinds q a c d us (e q))))) ∙ h.0, (joined-free T a (joined_trees us c) parts.0 left_free, tt))

  helper-free : (h : Text) → Free T (helper_node h)
  helper-free h = (other.rows MemberExpression _ _ refl, ((other.made Identifier _ _ refl, tt), ((other.made Identifier _ _ refl, tt), tt)))

  array-free : (ks : List Tree) → FreeIn T (fields (map one ks)) → Free T (array_node ks)
  array-free ks h = (other.rows ArrayExpression _ _ refl, h)

  left-free : (v : Bool) (s : Tree) (ks : List Tree) → Free T s → FreeIn T (fields (map one ks)) → Free T (left_of v s ks)
  left-free false s ks h k = (other.rows CallExpression _ _ refl, (helper-free (codes "objectWithoutProperties"), ((h, (array-free ks k, tt)), tt)))
  left-free true s ks h k =
      let mapping : Free T (member_node (array_node ks) (codes "map")) = (other.rows MemberExpression _ _ refl, (array-free ks k, ((other.made Identifier _ _ refl, tt), tt))) in
      let mapped : Free T (call_node (member_node (array_node ks) (codes "map")) (helper_node (codes "toPropertyKey") ∷ [])) = (other.rows CallExpression _ _ refl, (mapping, ((helper-free (codes "toPropertyKey"), tt), tt))) in
      (other.rows CallExpression _ _ refl, (helper-free (codes "objectWithoutProperties"), ((h, (mapped, tt)), tt)))

  alone-free : (s : Tree) → Free T s → Free T (whole_value s)
  alone-free s h =
      let emptied : Free T (call_node (helper_node (codes "objectDestructuringEmpty")) (s ∷ [])) = (other.rows CallExpression _ _ refl, (helper-free (codes "objectDestructuringEmpty"), ((h, tt), tt))) in
      (other.rows CallExpression _ _ refl, (helper-free (codes "extends"), (((other.objects _, (tt, tt)), ((other.rows SequenceExpression _ _ refl, ((emptied, (h, tt)), tt)), tt)), tt)))

  text-free : (p : Tree) → Free T (text_of_key p)
  text-free (node k l done) = (other.made StringLiteral _ _ refl, tt)
  text-free (node k l (missing then fs)) = (other.made StringLiteral _ _ refl, tt)
  text-free (node k l (one e then fs)) = (other.made StringLiteral _ _ refl, tt)
  text-free (node k l (many ts then fs)) = (other.made StringLiteral _ _ refl, tt)
  text-free (node k l (statements ts then fs)) = (other.made StringLiteral _ _ refl, tt)

  keys-free : (xs : List Bound) (ps : Trees) → FreeIn T (fields (map one (keys_of xs ps)))
  keys-free xs empty = tt
  keys-free xs (p before ps) = at (reads_key p) xs (λ ys. keys-free ys ps)
    where
      at : (v : Bool) (xs : List Bound) → ((ys : List Bound) → FreeIn T (fields (map one (keys_of ys ps)))) → FreeIn T (fields (map one (keys_by v xs p (λ ys. keys_of ys ps))))
      at true (x ∷ xs) behind = ((other.made Identifier _ _ refl, tt), behind xs)
      at true [] behind = (text-free p, behind [])
      at false xs behind = (text-free p, behind xs)

  group-free : (lp : Label) (s : Tree) (ps : Trees) → Free T s → FreeAll T ps → Free T (group lp s ps)
  group-free lp s ps g h = (other.made VariableDeclarator _ _ refl, ((other.rows ObjectPattern _ _ refl, (h, tt)), (g, tt)))

  groups-free : {w w' : Whole} {ps : Trees} {xs : List Bound} (lp : Label) (s : Tree) (b : Trees) → NamesKeys w ps xs w' → Free T s → FreeAll T b → FreeAll T ps → FreeAll T (groups lp s xs b ps)
  groups-free lp s b no_properties g h k = (group-free lp s b g h, tt)
  groups-free lp s b (knows {p = p} {ps = ps} {xs = xs} known names) g h k =
      let rest = groups-free lp s (joined_trees b (p before empty)) names g (joined-free T b (p before empty) h (k.0, tt)) k.1 in
      subst (λ (v : Bool). FreeAll T (groups_by v lp s xs b p (λ ys these. groups lp s ys these ps))) (sym known) rest
  groups-free lp s b (reads_one {w = w} {l = l} {k = e} {v = v} {ps = ps} {xs = xs} x read silent fresh names) g h k =
      let p = node PatternProperty l (one e then one v then done) in
      let y = next_name w x in
      let named : Free T (names_key y p) = (other.made VariableDeclarator _ _ refl, ((other.made Identifier _ _ refl, tt), (k.0.1.0, tt))) in
      let keyed : Free T (keyed_by y p) = (other.rows PatternProperty _ _ refl, ((other.made Identifier _ _ refl, tt), k.0.1.1)) in
      let rest = groups-free lp s (keyed_by y p before empty) names g (keyed, tt) k.1 in
      subst (λ (u : Bool). FreeAll T (groups_by u lp s (y ∷ xs) b p (λ ys these. groups lp s ys these ps))) (sym read) (group-free (made_label [] []) s b g h, (named, rest))

  taken-free : {w w' : Whole} {ps : Trees} {xs : List Bound} (lp : Label) (s : Tree) (t : Tree) → NamesKeys w ps xs w' → Free T s → FreeAll T ps → Free T t → FreeAll T (taken lp s xs ps t)
  taken-free {ps = empty} lp s t names g h k = ((other.made VariableDeclarator _ _ refl, (k, (alone-free s g, tt))), tt)
  taken-free {ps = p before ps} {xs = xs} lp s t names g h k =
      let keys = keys_of xs (p before ps) in
      let value = left_of (any_tree reads_key (p before ps)) s keys in
      let last : Free T (declarator_with t value) = (other.made VariableDeclarator _ _ refl, (k, (left-free (any_tree reads_key (p before ps)) s keys g (keys-free xs (p before ps)), tt))) in
      joined-free T (groups lp s xs empty (p before ps)) (declarator_with t value before empty) (groups-free lp s empty names g tt h) (last, tt)

  puts-free : {x p v u : Tree} → PutsName x p v u → Free T x → Free T v → Free T p × Free T u
  puts-free for_pattern g h = (h, g)
  puts-free (with_default l e silent) g h = (h.1.0, (other.rows AssignmentPattern _ _ refl, (g, h.1.1)))

  some-free : (lp : Label) (s : Tree) (rs : Trees) → Free T s → FreeAll T rs → FreeAll T (declares_some lp s rs)
  some-free lp s empty g h = tt
  some-free lp s (r before rs) g h = (group-free lp s (r before rs) g h, tt)

  parted-free : {v u p : Tree} (lp lq : Label) (s : Tree) (ps rs : Trees) (k : Tree) (x : Bound) → PutsName (identifier x) p v u → Free T s → FreeAll T (joined_trees ps (property_of lq k v before rs)) → FreeAll T (parted lp s ps (property_of lq k u) p x rs)
  parted-free {v = v} {u = u} {p = p} lp lq s ps rs k x puts g h =
      let name : Free T (identifier x) = (other.made Identifier _ _ refl, tt) in
      let parts = free-joined T ps (property_of lq k v before rs) h in
      let put = puts-free puts name parts.1.0.1.1.0 in
      let property : Free T (property_of lq k u) = (other.rows PatternProperty _ _ refl, (parts.1.0.1.0, (put.1, tt))) in
      let front = group-free (made_label [] []) s (joined_trees ps (property_of lq k u before empty)) g (joined-free T ps (property_of lq k u before empty) parts.0 (property, tt)) in
      (front, ((other.made VariableDeclarator _ _ refl, (put.0, (name, tt))), some-free lp s rs g parts.1.1))

  row-walked : (n : Site) (s s' : Ledger) (t u : Tree) → RestWalkRow n s (at_node t) s' (at_node u) → Walked t u × Grown (λ bs. bs ≡ []) s s'
  row-walked n s s' t u (stores {w = w} {q = q} m l a c p e x out declares plain bind kept silent fresh) = (
    declared m a c (declares_as l p e) (declarator_with (identifier (next_name w x)) e before declares_as l p (identifier (next_name w x)) before empty) (λ q. or-twice (q VariableDeclarator) (any_kind q c)) (λ h.
        ((other.made VariableDeclarator _ _ refl, ((other.made Identifier _ _ refl, tt), (h.1.1.0, tt))), ((other.made VariableDeclarator _ _ refl, (h.1.0, ((other.made Identifier _ _ refl, tt), tt))), tt))),
    record { names = []; such = refl; pending = no-names q; top = refl },
  )
  row-walked n s s' t u (takes {q = q} m l lp lr ls a ps c r xs out declares plain name bind kept names asked used) =
      let it : Tree = node Identifier ls done in
      let d = declares_as l (with_rest lp ps lr r) it in (
        declared m a c d (taken lp it xs ps r) (λ q. taken-kinds q l (one (with_rest lp ps lr r) then one it then done) lp it xs ps r c) (λ h.
            let parts = free-joined T ps (node RestElement lr (one r then done) before empty) h.1.0.1.0 in
            taken-free lp it r names (other.made Identifier _ _ refl, tt) parts.0 parts.1.0.1.0),
        record { names = []; such = refl; pending = no-names q; top = refl },
      )
  row-walked n s s' t u (nested {w = w} {q = q} m l lp lq ls a ps rs c k p v e x out declares members bears plain puts binds kept fresh) =
      let it : Tree = node Identifier ls done in
      let d = declares_as l (pattern_node lp (joined_trees ps (property_of lq k v before rs))) it in (
        declared m a c d (parted lp it ps (property_of lq k e) p (next_name w x) rs) (λ q. parted-kinds q lp it ps (property_of lq k e) p (next_name w x) rs c) (λ h. parted-free lp lq it ps rs k (next_name w x) puts (other.made Identifier _ _ refl, tt) h.1.0.1.0),
        record { names = []; such = refl; pending = no-names q; top = refl },
      )

  -- WHAT A CHANGE KEEPS

  abbrev Rows : List Ancestor → Tree → Tree → Type 0
  Rows up t u = Walked t u

  abbrev None : Tree → Trees → Type 0
  None t us = ⊥

  abbrev NoNames : List Bound → Type 0
  NoNames bs = bs ≡ []

  record WalkedIn (fs gs : Fields) : Type 0 where
    free : FreeIn T fs → FreeIn T gs
    alike : AlikeIn fs gs

  record WalkedBy (f g : Field) : Type 0 where
    free : FreeBy T f → FreeBy T g
    alike : AlikeBy f g

  record WalkedAll (ts us : Trees) : Type 0 where
    free : FreeAll T ts → FreeAll T us
    kinds : (q : AstType → Bool) → IsBlind q → any_kind q ts ≡ any_kind q us

  body-alike : (vs ls : List Tree) (t u : Tree) → Alike t u → Alike (body_with vs ls t) (body_with vs ls u)
  body-alike [] [] t u h = h
  body-alike [] (d ∷ ls) t u h = record { kind = λ q b. refl; member = refl; rest = refl }
  body-alike (v ∷ vs) ls t u h = record { kind = λ q b. refl; member = refl; rest = refl }

  mutual
    walked : {up : List Ancestor} {t u : Tree} → Changed Rows None NoNames up t u → Walked t u
    walked (here h) = h
    walked (within {k = k} {l = l} {fs = fs} {gs = gs} h) =
        let m = walked-in h in
        record { free = λ d. (sym (other.same k l fs gs m.alike) ∙ d.0, m.free d.1); alike = alike-node k l fs gs m.alike }

    walked-in : {c : ℕ → List Ancestor} {fs gs : Fields} → ChangedIn Rows None NoNames c fs gs → WalkedIn fs gs
    walked-in (first {f = f} {g = g} {fs = fs} h) = let m = walked-by h in record { free = λ d. (m.free d.0, d.1); alike = first-alike f g fs m.alike }
    walked-in (later {f = f} {fs = fs} {gs = gs} h) = let m = walked-in h in record { free = λ d. (d.0, m.free d.1); alike = later-alike f fs gs m.alike }

    walked-by : {up : List Ancestor} {f g : Field} → ChangedBy Rows None NoNames up f g → WalkedBy f g
    walked-by (of_one h) = let m = walked h in record { free = m.free; alike = by-one m.alike }
    walked-by (of_many {ts = ts} {us = us} h) = let m = walked-all h in record { free = m.free; alike = list-alike ts us m.kinds }
    walked-by (of_body {t = t} {u = u} p bs such place h) =
        let m = walked h in
        subst (λ (r : Pending). WalkedBy (one (written_body p t)) (one (written_body r u))) (no-names p ∙ ap (λ b. with_vars b p) (sym such))
        (record {
          free = λ d. let parts = free-body T p.vars p.lets t d in body-free T other.made p.vars p.lets u parts.0.0 parts.0.1 (m.free parts.1);
          alike = by-one (body-alike p.vars p.lets t u m.alike);
        })
    walked-by (of_list {ts = ts} {us = us} p x y a bs such h) =
        let m = walked-all h in
        record {
          free = λ d. let parts = free-whole T p x a ts d in whole-free T other.made (with_vars bs p) y a us (record { pending = vars-free T other.made bs p parts.pending; excluded = parts.excluded; all = m.free parts.all });
          alike = record { child = λ q b. refl; target = refl; rest = refl; members = λ q b. refl; there = refl };
        }
    walked-by (same_field {f = f}) = record { free = λ d. d; alike = by-same f }

    walked-all : {up : List Ancestor} {ts us : Trees} → ChangedAll Rows None NoNames up ts us → WalkedAll ts us
    walked-all (head {ts = ts} h) = let m = walked h in record { free = λ d. (m.free d.0, d.1); kinds = λ q b. ap (λ v. v || any_kind q ts) (m.alike.kind q b) }
    walked-all (tail {t = t} h) = let m = walked-all h in record { free = λ d. (d.0, m.free d.1); kinds = λ q b. ap (λ v. q (kind_of t) || v) (m.kinds q b) }
    walked-all (beside h) = absurd h
    walked-all same_trees = record { free = λ d. d; kinds = λ q b. refl }

  walk-nodes : (n : Site) (s s' : Ledger) (x y : Spot) → RestWalkRow n s x s' y → AtNodes x y
  walk-nodes n s s' x y (stores m l a c p e z out declares plain bind kept silent fresh) = tt
  walk-nodes n s s' x y (takes m l lp lr ls a ps c r xs out declares plain name bind kept names asked used) = tt
  walk-nodes n s s' x y (nested m l lp lq ls a ps rs c k p v u z out declares members bears plain puts binds kept fresh) = tt

  all-walked : (s s' : Ledger) (p q : Tree) → Steps (Step RestWalkRow the_program) s (opened p) s' (opened q) → Free T p → Free T q
  all-walked s s' p q steps d =
      let end = in-a-row Rows None NoNames refl RestWalkRow (nodes-change Rows None NoNames RestWalkRow walk-nodes row-walked) (λ t. Free T t) (λ t u h e. (walked h).free e) steps (opened-proper Rows None NoNames p) (subst (λ (t : Tree). Free T t) (sym (finished-opened p)) d) in
      subst (λ (t : Tree). Free T t) (finished-opened q) end

-- THE LAW

pub law_rests_make_none_proof : LawRestsMakeNone
law_rests_make_none_proof o p q w w' steps e = none (is_other_construct o) q (all-walked (is_other_construct o) (others o) _ _ p q steps (free (is_other_construct o) p e))
