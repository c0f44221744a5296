-- A part of a target that is used twice, by what its code makes of it.
use Rattle.std.proofs.Common.{◌≡◌, ℕ, ◌+◌, ◌<◌, ◌≤◌, List, [], ◌∷◌, ◌++◌, length, append-nil, length-append, refl, sym, ap, subst, ◌∙◌, arith, Option, Some, None, is_some}
use Rattle.std.specs.Prelude.{Bool, true, false, ◌&&◌, ◌||◌, not}
use Rattle.es_tree.specs.Constructs.{is_private_name}
use Rattle.es_tree.specs.Fresh.{node_base}
use Rattle.es_tree.specs.Heads.{symbol as symbol_number}
use Rattle.es_tree.specs.Names.{first_text}
use Rattle.es_tree.specs.Tree.{Tree, node, Label, done, ◌then◌, one, trees, tree_size, trees_size, kind_of, label_of, fields_of}
use Rattle.es_tree.specs.Words.{Text}
use Rattle.es_tree.specs.declared.ast_type.AstType.TheVariants.{BigIntLiteral, BooleanLiteral, Identifier, MemberExpression, NullLiteral, NumericLiteral, PrivateIdentifier, StringLiteral, Super}
use Rattle.es_tree.specs.declared.ids.SymbolId.{SymbolId}
use Rattle.es_scope.specs.declared.context.TraverseCtx.{TraverseCtx}
use Rattle.es_runs.proofs.Named.{and_left, and_right}
use Rattle.es_runs.proofs.OptionalChainingWeights.{tests_size-append}
use Rattle.es_runs.specs.Duplication.{has_no_fields}
use Rattle.es_runs.specs.Exponentiation.{is_literal_key, string_node}
use Rattle.es_runs.specs.Rules.{assign_node, member_node}
use Rattle.es_resolution.specs.Declarations.{Bound, symbol_of}
use Rattle.es_resolution.specs.Seen.{seen, seen_in}
use Rattle.es_steps.specs.Duplication.{IsNext}
use Rattle.es_steps.specs.Exponentiation.{Holds, TargetTwice, stays}
use Rattle.es_steps.specs.Exponentiation.TargetTwice.{bound_name, other_name, static_member, private_member, literal_key, other_key}
use Rattle.es_steps.specs.Nodes.{identifier}
use Rattle.es_steps.specs.Rules.{with_made}
use Rattle.es_steps.specs.Steps.{Whole}
use Rattle.es_changes.specs.Moments.{Moment, whole_at}
use Rattle.es_traverse.specs.Loads.{load, trees_load}
use Rattle.lower_temporaries.specs.Takings.{ReadsMore, Takes, moment_of}
use Rattle.lower_temporaries.specs.declared.state.TransformState.{TransformState}
use Rattle.lower_temporaries.proofs.Takings.{reads-takes, takes-none, takes-reads, takes-then}
use Rattle.lower_temporaries.specs.Shapes.{is_name}
use Rattle.lower_temporaries.proofs.Loads.{trees_load-append}
use Rattle.lower_temporaries.proofs.ReadAgain.{no_fields-seen}
use Rattle.lower_exponentiation.specs.Exponentiations.{has_exponentiation_key, is_evaluated_key, is_expression_key}
use Rattle.lower_exponentiation.specs.Targets.{InTemporary, IsWrittenAndRead, KeyTwice, UsedTwice, names_that_stay}
use Rattle.lower_exponentiation.specs.Targets.KeyTwice.{named_key, private_key, written_again, by_temporary}

-- COUNTS

-- a node without fields, but for the constructs, is one node whose load is one
pub record IsOneNode (t : Tree) : Type 0 where
  pub heavy : load t ≡ 1
  pub alone : tree_size t ≡ 1

pub name_alone : (t : Tree) → is_name t ≡ true → IsOneNode t
name_alone (node Identifier l done) h = record { heavy = refl; alone = refl }
name_alone (node Identifier l (f then fs)) h = absurd (cc h)
name_alone (node _ l fs) h = absurd (cc h)

stays_alone : (names : Option ℕ → Bool) (t : Tree) → stays names t ≡ true → IsOneNode t
stays_alone names (node Super l done) h = record { heavy = refl; alone = refl }
stays_alone names (node Super l (f then fs)) h = absurd (cc h)
stays_alone names (node Identifier l done) h = record { heavy = refl; alone = refl }
stays_alone names (node Identifier l (f then fs)) h = absurd (let no = and_right (names (symbol_of l)) false h in cc no)
stays_alone names (node _ l fs) h = absurd (cc h)

literal_alone : (t : Tree) → is_literal_key t ≡ true → IsOneNode t
literal_alone (node NullLiteral l done) h = record { heavy = refl; alone = refl }
literal_alone (node BooleanLiteral l done) h = record { heavy = refl; alone = refl }
literal_alone (node NumericLiteral l done) h = record { heavy = refl; alone = refl }
literal_alone (node BigIntLiteral l done) h = record { heavy = refl; alone = refl }
literal_alone (node StringLiteral l done) h = record { heavy = refl; alone = refl }
literal_alone (node NullLiteral l (f then fs)) h = absurd (cc h)
literal_alone (node BooleanLiteral l (f then fs)) h = absurd (cc h)
literal_alone (node NumericLiteral l (f then fs)) h = absurd (cc h)
literal_alone (node BigIntLiteral l (f then fs)) h = absurd (cc h)
literal_alone (node StringLiteral l (f then fs)) h = absurd (cc h)
literal_alone (node _ l fs) h = absurd (cc h)

-- WAYS TO USE A PART TWICE

moved : (R : List Bound → List Tree → Tree → Tree → Type 0) {xs : List Bound} {fs gs : List Tree} {t u v w : Tree} → gs ≡ fs → v ≡ t → w ≡ u → R xs fs t u → R xs gs v w
moved R {xs} {fs} {gs} {t} {u} {v} {w} f e d r = subst (λ (hs : List Tree). R xs hs v w) (sym f) (subst (λ (s : Tree). R xs fs s w) (sym e) (subst (λ (s : Tree). R xs fs t s) (sym d) r))

-- by one node, which is written and read
used_alone : (R : List Bound → List Tree → Tree → Tree → Type 0) (most heaviest ids : ℕ) (old new : TraverseCtx TransformState) (t s : Tree) (first : List Tree) (written read : Tree) → IsWrittenAndRead s first written read → ReadsMore ids old new → R [] [] s s → IsOneNode s → ids ≤ most →
    2 ≤ tree_size t + ids → ids + 2 ≤ load t + heaviest → UsedTwice R most heaviest old new t first written read
used_alone R most heaviest ids old new t s first written read used reads rule leaf few small light =
    let fw = ap (λ (hs : List Tree). trees_load (trees hs)) used.first_is in
    let fz = ap (λ (hs : List Tree). trees_size (trees hs)) used.first_is in
    let ew = ap load used.written_is ∙ leaf.heavy in
    let ez = ap tree_size used.written_is ∙ leaf.alone in
    let dw = ap load used.read_is ∙ leaf.heavy in
    let dz = ap tree_size used.read_is ∙ leaf.alone in
    record {
      made = [];
      ids = ids;
      takes = takes-none reads;
      rule = moved R used.first_is used.written_is used.read_is rule;
      few = few;
      nodes = omega (arith, fz, ez, dz);
      lighter = omega (arith, fw, ew, dw);
    }

-- as it is
used_copies : (R : List Bound → List Tree → Tree → Tree → Type 0) (old new : TraverseCtx TransformState) (t : Tree) (first : List Tree) (written read : Tree) → IsWrittenAndRead t first written read → ReadsMore 1 old new → R [] [] t t → IsOneNode t → UsedTwice R 6 15 old new t first written read
used_copies R old new t first written read used reads rule leaf = used_alone R 6 15 1 old new t t first written read used reads rule leaf (omega arith) (omega (arith, leaf.alone)) (omega (arith, leaf.heavy))

-- by a temporary
used_temporary : (R : List Bound → List Tree → Tree → Tree → Type 0) (old new : TraverseCtx TransformState) (t : Tree) (first : List Tree) (written read : Tree) → InTemporary old new t first written read →
    ((x : Bound) → IsNext (whole_at (moment_of old)) (node_base t) x → R (x ∷ []) (assign_node (identifier x) t ∷ []) (identifier x) (identifier x)) → UsedTwice R 6 15 old new t first written read
used_temporary R old new t first written read made rule =
    let x = made.temporary in
    let fw = ap (λ (hs : List Tree). trees_load (trees hs)) made.first_is in
    let fz = ap (λ (hs : List Tree). trees_size (trees hs)) made.first_is in
    let ew = ap load made.written_is in
    let ez = ap tree_size made.written_is in
    let dw = ap load made.read_is in
    let dz = ap tree_size made.read_is in
    record {
      made = x ∷ [];
      ids = 6;
      takes = made.takes;
      rule = moved R made.first_is made.written_is made.read_is (rule x made.next);
      few = omega arith;
      nodes = omega (arith, fz, ez, dz);
      lighter = omega (arith, fw, ew, dw);
    }

-- MOMENTS

-- references that read change nothing that rules ask for
pub whole-read : {ids : ℕ} {old new : TraverseCtx TransformState} → ReadsMore ids old new → whole_at (moment_of new) ≡ whole_at (moment_of old)
whole-read r = ap whole_at r.moment_is

-- NAMES

abbrev pub TargetRule : TraverseCtx TransformState → Tree → List Bound → List Tree → Tree → Tree → Type 0
TargetRule old t xs fs w again = TargetTwice (whole_at (moment_of old)) xs fs t w again

bound_target : (w : Whole) (t : Tree) → is_name t ≡ true → stays is_some t ≡ true → TargetTwice w [] [] t t t
bound_target w (node Identifier l done) h s = bound_name (and_left (is_some (symbol_of l)) true s)
bound_target w (node Identifier l (f then fs)) h s = absurd (cc h)
bound_target w (node _ l fs) h s = absurd (cc h)

no_more : (b : Bool) → (b && true) ≡ false → b ≡ false
no_more true h = absurd (cc h)
no_more false h = refl

other_target : (w : Whole) (t : Tree) (x : Bound) → is_name t ≡ true → stays is_some t ≡ false → IsNext w (node_base t) x → TargetTwice w (x ∷ []) (assign_node (identifier x) t ∷ []) t t (identifier x)
other_target w (node Identifier l done) x h goes next = other_name (no_more (is_some (symbol_of l)) goes) next
other_target w (node Identifier l (f then fs)) x h goes next = absurd (cc h)
other_target w (node _ l fs) x h goes next = absurd (cc h)

-- a name that is bound
pub used_bound : (old new : TraverseCtx TransformState) (t : Tree) (first : List Tree) (written read : Tree) → is_name t ≡ true → stays is_some t ≡ true → IsWrittenAndRead t first written read → ReadsMore 1 old new → UsedTwice (TargetRule old t) 14 33 old new t first written read
used_bound old new t first written read h s used reads =
    let leaf = name_alone t h in
    used_alone (TargetRule old t) 14 33 1 old new t t first written read used reads (bound_target (whole_at (moment_of old)) t h s) leaf (omega arith) (omega (arith, leaf.alone)) (omega (arith, leaf.heavy))

-- a name that is read in front
pub used_in_front : (old mid last new : TraverseCtx TransformState) (t copy : Tree) (x : Bound) (first : List Tree) (written read : Tree) → is_name t ≡ true → stays is_some t ≡ false → copy ≡ t → ReadsMore 1 old mid → IsNext (whole_at (moment_of mid)) (node_base copy) x →
    Takes (x ∷ []) 4 (moment_of mid) (moment_of last) → ReadsMore 1 last new → first ≡ assign_node (identifier x) copy ∷ [] → written ≡ t → read ≡ identifier x → UsedTwice (TargetRule old t) 14 33 old new t first written read
used_in_front old mid last new t copy x first written read h goes same before next taken after f e d =
    let leaf = name_alone t h in
    let g : first ≡ assign_node (identifier x) t ∷ [] = f ∙ ap (λ (s : Tree). assign_node (identifier x) s ∷ []) same in
    let fw = ap (λ (hs : List Tree). trees_load (trees hs)) g in
    let fz = ap (λ (hs : List Tree). trees_size (trees hs)) g in
    let ew = ap load e in
    let ez = ap tree_size e in
    let dw = ap load d in
    let dz = ap tree_size d in
    let free : IsNext (whole_at (moment_of old)) (node_base t) x = subst (λ (w : Whole). IsNext w (node_base t) x) (whole-read before) (subst (λ (s : Tree). IsNext (whole_at (moment_of mid)) (node_base s) x) same next) in
    record {
      made = x ∷ [];
      ids = 6;
      takes = takes-reads {m = 5} {n = 1} last new (reads-takes {m = 1} {n = 4} old mid before taken) after;
      rule = moved (TargetRule old t) g e d (other_target (whole_at (moment_of old)) t x h goes free);
      few = omega arith;
      nodes = omega (arith, fz, ez, dz, leaf.alone);
      lighter = omega (arith, fw, ew, dw, leaf.heavy);
    }

-- after flags of a reference were set
pub used_after : (old mid new : TraverseCtx TransformState) (t : Tree) (first : List Tree) (written read : Tree) → ReadsMore 0 old mid → UsedTwice (TargetRule mid t) 14 33 mid new t first written read → UsedTwice (TargetRule old t) 14 33 old new t first written read
used_after old mid new t first written read before used = record {
  made = used.made;
  ids = used.ids;
  takes = subst (λ n. Takes used.made n (moment_of old) (moment_of new)) (omega arith) (reads-takes {m = 0} {n = used.ids} old mid before used.takes);
  rule = subst (λ (w : Whole). TargetTwice w used.made first t written read) (whole-read before) used.rule;
  few = used.few;
  nodes = used.nodes;
  lighter = used.lighter;
}

-- OBJECTS

abbrev ObjectRule : Bool → TraverseCtx TransformState → Tree → List Bound → List Tree → Tree → Tree → Type 0
ObjectRule by_name old t xs fs w again = Holds (names_that_stay by_name) (whole_at (moment_of old)) xs fs t w × (again ≡ w)

module _ (by_name : Bool) (old new : TraverseCtx TransformState) (t : Tree) (first : List Tree) (written read : Tree) where
  -- where it is
  pub used_held : stays (names_that_stay by_name) t ≡ true → IsWrittenAndRead t first written read → ReadsMore 1 old new → UsedTwice (ObjectRule by_name old t) 6 15 old new t first written read
  used_held h used reads = used_copies (ObjectRule by_name old t) old new t first written read used reads (Holds.where_it_is h, refl) (stays_alone (names_that_stay by_name) t h)

  -- by a temporary
  pub used_object : stays (names_that_stay by_name) t ≡ false → InTemporary old new t first written read → UsedTwice (ObjectRule by_name old t) 6 15 old new t first written read
  used_object goes made = used_temporary (ObjectRule by_name old t) old new t first written read made (λ x next. (Holds.in_temporary goes next, refl))

-- KEYS

not_true : (b : Bool) → not b ≡ false → b ≡ true
not_true true h = refl
not_true false h = absurd (cc h)

pub not_false : (b : Bool) → not b ≡ true → b ≡ false
not_false true h = absurd (cc h)
not_false false h = refl

abbrev KeyOf : Whole → Bool → Tree → List Bound → List Tree → Tree → Type 0
KeyOf w computed k xs fs v = KeyTwice w (is_evaluated_key computed k) computed (is_expression_key computed k) xs fs k v

literal_copied : (w : Whole) (k : Tree) → is_literal_key k ≡ true → KeyOf w true k [] [] k
literal_copied w k h = subst (λ (ev : Bool). KeyTwice w ev true true [] [] k k) (sym (ap not h)) (written_again h)

private_copied : (w : Whole) (k : Tree) → has_exponentiation_key (false ∷ false ∷ []) k ≡ true → is_private_name (kind_of k) ≡ true → KeyOf w false k [] [] k × IsOneNode k
private_copied w (node PrivateIdentifier l done) h p = (private_key, record { heavy = refl; alone = refl })
private_copied w (node PrivateIdentifier l (f then fs)) h p = absurd (cc h)
private_copied w (node _ l fs) h p = absurd (cc p)

key_copied : (w : Whole) (computed : Bool) (k : Tree) → has_exponentiation_key (computed ∷ false ∷ []) k ≡ true → is_evaluated_key computed k ≡ false → (computed || is_private_name (kind_of k)) ≡ true → KeyOf w computed k [] [] k × IsOneNode k
key_copied w true k h e p = let literal = not_true (is_literal_key k) e in (literal_copied w k literal, literal_alone k literal)
key_copied w false k h e p = private_copied w k h p

key_evaluated : (w : Whole) (computed : Bool) (k : Tree) (y : Bound) → is_evaluated_key computed k ≡ true → IsNext w (node_base k) y → KeyOf w computed k (y ∷ []) (assign_node (identifier y) k ∷ []) (identifier y)
key_evaluated w false k y e next = absurd (cc e)
key_evaluated w true k y e next =
    let b = not_false (is_literal_key k) e in
    subst (λ (ev : Bool). KeyTwice w ev true true (y ∷ []) (assign_node (identifier y) k ∷ []) k (identifier y)) (sym (ap not b)) (by_temporary b next)

key_texts : (w : Whole) (computed : Bool) (k : Tree) → has_exponentiation_key (computed ∷ false ∷ []) k ≡ true → (computed || is_private_name (kind_of k)) ≡ false → KeyOf w computed k [] [] (string_node (first_text (label_of k).texts))
key_texts w true k h p = absurd (cc p)
key_texts w false (node Identifier l done) h p = named_key
key_texts w false (node Identifier l (f then fs)) h p = absurd (cc h)
key_texts w false (node PrivateIdentifier l fs) h p = absurd (cc p)
key_texts w false (node _ l fs) h p = absurd (cc h)

abbrev KeyRule : Bool → TraverseCtx TransformState → Tree → List Bound → List Tree → Tree → Tree → Type 0
KeyRule computed old k xs fs v again = KeyOf (whole_at (moment_of old)) computed k xs fs v × (again ≡ v)

module _ (computed : Bool) (old new : TraverseCtx TransformState) (k : Tree) (first : List Tree) (written read : Tree) where
  pub used_key_temporary : is_evaluated_key computed k ≡ true → InTemporary old new k first written read → UsedTwice (KeyRule computed old k) 6 15 old new k first written read
  used_key_temporary e made = used_temporary (KeyRule computed old k) old new k first written read made (λ y next. (key_evaluated (whole_at (moment_of old)) computed k y e next, refl))

  pub used_key_copies : has_exponentiation_key (computed ∷ false ∷ []) k ≡ true → is_evaluated_key computed k ≡ false → (computed || is_private_name (kind_of k)) ≡ true → IsWrittenAndRead k first written read → ReadsMore 1 old new → UsedTwice (KeyRule computed old k) 6 15 old new k first written read
  used_key_copies h e p used reads = let both = key_copied (whole_at (moment_of old)) computed k h e p in used_copies (KeyRule computed old k) old new k first written read used reads (both.0, refl) both.1

  pub used_key_texts : has_exponentiation_key (computed ∷ false ∷ []) k ≡ true → (computed || is_private_name (kind_of k)) ≡ false → IsWrittenAndRead (string_node (first_text (label_of k).texts)) first written read → ReadsMore 2 old new → UsedTwice (KeyRule computed old k) 6 15 old new k first written read
  used_key_texts h p used reads =
      used_alone (KeyRule computed old k) 6 15 2 old new k (string_node (first_text (label_of k).texts)) first written read used reads (key_texts (whole_at (moment_of old)) computed k h p, refl) (record { heavy = refl; alone = refl }) (omega arith) (omega arith) (omega arith)

-- MEMBERS

-- nothing more is taken, and nothing more goes in front
nothing_more : (R : List Bound → List Tree → Type 0) {xs : List Bound} {fs : List Tree} → R xs fs → R (xs ++ []) (fs ++ [])
nothing_more R {xs} {fs} r = subst (λ ys. R ys (fs ++ [])) (sym (append-nil xs)) (subst (λ gs. R xs gs) (sym (append-nil fs)) r)

member_twice : (w : Whole) {ev c d : Bool} (l : Label) {xs ys : List Bound} {fs gs : List Tree} {o o' k k' : Tree} → l.flags ≡ c ∷ false ∷ [] → Holds (names_that_stay (not ev)) w xs fs o o' → KeyTwice (with_made xs w) ev c d ys gs k k' →
    TargetTwice w (xs ++ ys) (fs ++ gs) (node MemberExpression l (one o then (one k then done))) (member_node d o' k') (member_node d o' k')
member_twice w l {o = o} {o' = o'} flags h (named_key {k = k}) =
    nothing_more (λ xs fs. TargetTwice w xs fs (node MemberExpression l (one o then (one (node Identifier k done) then done))) (member_node true o' (string_node (first_text k.texts))) (member_node true o' (string_node (first_text k.texts)))) (static_member flags h)
member_twice w l {o = o} {o' = o'} flags h (private_key {k = k}) =
    nothing_more (λ xs fs. TargetTwice w xs fs (node MemberExpression l (one o then (one (node PrivateIdentifier k done) then done))) (member_node false o' (node PrivateIdentifier k done)) (member_node false o' (node PrivateIdentifier k done))) (private_member flags h)
member_twice w l {o = o} {o' = o'} flags h (written_again {k = k} literal) =
    nothing_more (λ xs fs. TargetTwice w xs fs (node MemberExpression l (one o then (one k then done))) (member_node true o' k) (member_node true o' k)) (literal_key flags literal h)
member_twice w l flags h (by_temporary literal next) = other_key flags literal h next

-- such a member has no optional mark
pub plain_flags : (computed optional : Bool) (k : Tree) → has_exponentiation_key (computed ∷ optional ∷ []) k ≡ true → (computed ∷ (optional ∷ [])) ≡ (computed ∷ (false ∷ []))
plain_flags computed false k h = refl
plain_flags true true k h = absurd (cc h)
plain_flags false true k h = absurd (cc h)

-- the member of an object and a key that are used twice
pub used_member : (old mid last new : TraverseCtx TransformState) (ev c d : Bool) (l : Label) (o k : Tree) (objects keys first : List Tree) (object object_again key key_again written read : Tree) → l.flags ≡ c ∷ false ∷ [] →
    UsedTwice (ObjectRule (not ev) old o) 6 15 old mid o objects object object_again → UsedTwice (λ xs fs v again. KeyTwice (whole_at (moment_of mid)) ev c d xs fs k v × (again ≡ v)) 6 15 mid last k keys key key_again →
    ReadsMore 2 last new → first ≡ objects ++ keys → written ≡ member_node d object key → read ≡ member_node d object_again key_again →
    UsedTwice (TargetRule old (node MemberExpression l (one o then (one k then done)))) 14 33 old new (node MemberExpression l (one o then (one k then done))) first written read
used_member old mid last new ev c d l o k objects keys first object object_again key key_again written read flags a b more f e g =
    let fw = ap (λ (hs : List Tree). trees_load (trees hs)) f ∙ trees_load-append objects keys in
    let fz = ap (λ (hs : List Tree). trees_size (trees hs)) f ∙ tests_size-append objects keys in
    let ew = ap load e in
    let ez = ap tree_size e in
    let gw = ap load g in
    let gz = ap tree_size g in
    let count = length-append a.made b.made in
    let kept = subst (λ (w : Whole). KeyTwice w ev c d b.made keys k key) a.takes.whole_is b.rule.0 in
    let same : read ≡ member_node d object key = g ∙ ap (λ (s : Tree). member_node d s key_again) a.rule.1 ∙ ap (λ (s : Tree). member_node d object s) b.rule.1 in
    record {
      made = a.made ++ b.made;
      ids = a.ids + b.ids + 2;
      takes = takes-reads {m = a.ids + b.ids} {n = 2} last new (takes-then a.takes b.takes) more;
      rule = moved (TargetRule old (node MemberExpression l (one o then (one k then done)))) f e same (member_twice (whole_at (moment_of old)) l flags a.rule.0 kept);
      few = omega (arith, a.few, b.few);
      nodes = omega (arith, fz, ez, gz, count, a.nodes, b.nodes);
      lighter = omega (arith, fw, ew, gw, count, a.lighter, b.lighter);
    }

-- a name is one node
pub name_reads : (t : Tree) (old new : TraverseCtx TransformState) → is_name t ≡ true → ReadsMore (tree_size t) old new → ReadsMore 1 old new
name_reads t old new h reads = subst (λ (n : ℕ). ReadsMore n old new) (name_alone t h).alone reads

-- and so is a node without fields
pub alone_size : (t : Tree) → has_no_fields (fields_of t) ≡ true → tree_size t ≡ 1
alone_size (node k l done) h = refl
alone_size (node k l (f then fs)) h = absurd (cc h)

-- IDS AND PAIRS, call after call

pub next-read : {ids : ℕ} {old new : TraverseCtx TransformState} → ReadsMore ids old new → new.ast.next ≡ old.ast.next + ids
next-read r = ap (λ (m : Moment). m.next) r.moment_is

pub there-read : {ids : ℕ} {old new : TraverseCtx TransformState} → ReadsMore ids old new → 0 < length old.state.var_declarations → 0 < length new.state.var_declarations
there-read r there = let same = ap (λ (m : Moment). length m.lists) r.moment_is in omega (arith, same, there)

-- symbols of names, as the code has them
pub some-symbol : (s : Option SymbolId) → is_some (symbol_number s) ≡ is_some s
some-symbol None = refl
some-symbol (Some s) = refl

pub name_no_fields : (t : Tree) → is_name t ≡ true → has_no_fields (fields_of t) ≡ true
name_no_fields (node Identifier l fs) h = h
name_no_fields (node _ l fs) h = absurd (cc h)

pub stays_no_fields : (holds : Option ℕ → Bool) (names : ℕ → Text → Option ℕ) (t : Tree) → stays holds (seen names t) ≡ true → has_no_fields (fields_of t) ≡ true
stays_no_fields holds names (node Super l fs) h = sym (no_fields-seen names fs) ∙ h
stays_no_fields holds names (node Identifier l fs) h = sym (no_fields-seen names fs) ∙ and_right (holds (symbol_of (label_of (seen names (node Identifier l fs))))) (has_no_fields (seen_in names fs)) h
stays_no_fields holds names (node _ l fs) h = absurd (cc h)
