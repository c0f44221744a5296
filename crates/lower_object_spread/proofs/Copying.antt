-- What was copied so far, property by property: what it is seen as, and how much it may still become.
use Rattle.std.proofs.Common.{◌≡◌, ◌∙◌, ◌<◌, ℕ, ◌+◌, ◌-◌, ◌^◌, ◌≤◌, List, [], ◌∷◌, ◌++◌, ◌==◌, length, map, refl, sym, ap, subst, arith, Option, Some, None, codes}
use Rattle.std.proofs.lemmas.List.{map-append}
use Rattle.std.specs.Prelude.{Bool, true, false, ◌||◌, is_some}
use Rattle.es_tree.specs.Constructs.{any_kind, is_spread}
use Rattle.es_tree.specs.Tree.{Tree, node, Label, done, ◌then◌, one, many, Trees, ◌before◌, kind_of, tree_size, trees, trees_size}
use Rattle.es_tree.specs.Words.{Text}
use Rattle.es_tree.specs.declared.ast_type.AstType.TheVariants.{CallExpression, MemberExpression, ObjectExpression, SpreadElement}
use Rattle.es_scope.specs.declared.context.TraverseCtx.{TraverseCtx}
use Rattle.es_resolution.specs.Seen.{seen, seen_among}
use Rattle.es_runs.proofs.OptionalChainingWeights.{tests_size-append}
use Rattle.es_steps.specs.Nodes.{call_node, made, object_node, word}
use Rattle.es_steps.specs.ObjectSpread.{Copies, copied, last_copied}
use Rattle.es_steps.specs.ObjectSpread.Copies.{copies, keeps, no_more}
use Rattle.es_changes.specs.Changes.{HasRoom}
use Rattle.es_changes.specs.Moments.{Moment}
use Rattle.es_conditions.proofs.Marks.{first-of, second-of}
use Rattle.es_traverse.specs.Loads.{load, trees_load}
use Rattle.lower_temporaries.specs.SeenTrees.{no_bindings}
use Rattle.lower_temporaries.specs.Takings.{ReadsMore, moment_of}
use Rattle.lower_temporaries.specs.declared.state.TransformState.{TransformState}
use Rattle.lower_temporaries.proofs.Loads.{trees_load-append}
use Rattle.lower_temporaries.proofs.SeenLaws.{load-seen, seen-trees, size-seen}
use Rattle.lower_temporaries.proofs.Takings.{reads-none, reads-then}
use Rattle.lower_object_spread.specs.Copying.{AddsProperty, CopiesAll, CopiesLast, arguments_before, copy_load, copy_size, helper, literals_before, seen_copy}
use Rattle.lower_object_spread.specs.Literals.{any_lacks_argument, lacks_argument}
use Rattle.lower_object_spread.proofs.Literals.{spread-seen}

-- THE CALL

copied-call : (c : Option Tree) (ps : List Tree) (e : Tree) → call_node helper (arguments_before c ps ++ e ∷ []) ≡ copied helper c ps e
copied-call None ps e = refl
copied-call (Some c) [] e = refl
copied-call (Some c) (p ∷ ps) e = refl

abbrev object_of : (ℕ → Text → Option ℕ) → List Tree → Tree
object_of names ps = node ObjectExpression (made [] []) (many (seen_among names (trees ps)) then done)

object-made : (names : ℕ → Text → Option ℕ) (ps : List Tree) → object_of names ps ≡ object_node (map (seen names) ps)
object-made names ps = ap (λ (ts : Trees). node ObjectExpression (made [] []) (many ts then done)) (seen-trees names ps)

pub call-made : (names : ℕ → Text → Option ℕ) (t callee object property : Tree) (arguments : List Tree) → seen names t ≡ node CallExpression (made [] (false ∷ [])) (one (seen names callee) then many (seen_among names (trees arguments)) then done) →
    seen names callee ≡ node MemberExpression (made [] (false ∷ false ∷ [])) (one (seen names object) then one (seen names property) then done) → seen names object ≡ word (codes "babelHelpers") → seen names property ≡ word (codes "objectSpread2") → seen names t ≡ call_node helper (map (seen names) arguments)
call-made names t callee object property arguments call member o p =
    let called : seen names callee ≡ helper = member ∙ (λ i. node MemberExpression (made [] (false ∷ false ∷ [])) (one (o i) then one (p i) then done)) in
    call ∙ (λ i. node CallExpression (made [] (false ∷ [])) (one (called i) then many (seen-trees names arguments i) then done))

-- what it begins with

pub first-argument : (names : ℕ → Text → Option ℕ) (c : Option Tree) (ps items : List Tree) (first : Tree) → c ≡ None → items ≡ first ∷ [] → seen names first ≡ object_of names ps → map (seen names) items ≡ arguments_before (seen_copy names c) (map (seen names) ps)
first-argument names c ps items first none all object =
    ap (map (seen names)) all ∙ (ap (λ (t : Tree). t ∷ []) (object ∙ object-made names ps) ∙ ap (λ (o : Option Tree). arguments_before (seen_copy names o) (map (seen names) ps)) (sym none))

pub all-arguments : (names : ℕ → Text → Option ℕ) (c : Option Tree) (ps items : List Tree) (nothing : List Tree) (copy none last : Tree) → c ≡ Some copy → 0 < length ps → items ≡ copy ∷ none ∷ last ∷ [] → nothing ≡ [] → seen names none ≡ object_of names nothing → seen names last ≡ object_of names ps → map (seen names) items ≡ arguments_before (seen_copy names c) (map (seen names) ps)
all-arguments names c [] items nothing copy none last some pending all no_items empty object = absurd (omega (arith, pending))
all-arguments names c (p ∷ ps) items nothing copy none last some pending all no_items empty object =
    ap (map (seen names)) all ∙
    ((λ i. seen names copy ∷ (empty ∙ ap (object_of names) no_items) i ∷ (object ∙ object-made names (p ∷ ps)) i ∷ []) ∙ ap (λ (o : Option Tree). arguments_before (seen_copy names o) (map (seen names) (p ∷ ps))) (sym some))

pub some-pending : (n : ℕ) (ps : List Tree) → (n == 0) ≡ false → n ≡ length ps → 0 < length ps
some-pending n [] e count = absurd (let no : true ≡ false = ap (λ (m : ℕ). m == 0) (sym count) ∙ e in cc no)
some-pending n (p ∷ ps) e count = omega arith

pub copy-made : (names : ℕ → Text → Option ℕ) (c : Option Tree) (ps first whole : List Tree) (e u : Tree) → map (seen names) first ≡ arguments_before (seen_copy names c) (map (seen names) ps) → whole ≡ first ++ e ∷ [] → seen names u ≡ call_node helper (map (seen names) whole) → seen names u ≡ copied helper (seen_copy names c) (map (seen names) ps) (seen names e)
copy-made names c ps first whole e u begins all call =
    call ∙ (ap (λ (ts : List Tree). call_node helper ts) (ap (map (seen names)) all ∙ (map-append (seen names) first (e ∷ []) ∙ ap (λ (ts : List Tree). ts ++ seen names e ∷ []) begins)) ∙ copied-call (seen_copy names c) (map (seen names) ps) (seen names e))

-- LOADS AND SIZES

-- the load of a copy itself
abbrev own_load : Option Tree → ℕ
own_load None = 0
own_load (Some t) = load t

copied-load : (c : Option Tree) (ps : List Tree) (e : Tree) → load (copied helper c ps e) ≡ literals_before c ps + 4 + own_load c + trees_load (trees ps) + load e
copied-load None ps e = omega arith
copied-load (Some c) [] e = omega arith
copied-load (Some c) (p ∷ ps) e = omega arith

copied-size : (c : Option Tree) (ps : List Tree) (e : Tree) → tree_size (copied helper c ps e) ≡ literals_before c ps + 4 + copy_size c + trees_size (trees ps) + tree_size e
copied-size None ps e = omega arith
copied-size (Some c) [] e = omega arith
copied-size (Some c) (p ∷ ps) e = omega arith

last-load : (c p : Tree) (ps : List Tree) → load (last_copied helper (Some c) (p ∷ ps)) ≡ 6 + load c + trees_load (trees (p ∷ ps))
last-load c p ps = omega arith

last-size : (c p : Tree) (ps : List Tree) → tree_size (last_copied helper (Some c) (p ∷ ps)) ≡ 6 + tree_size c + trees_size (trees (p ∷ ps))
last-size c p ps = omega arith

-- what is seen of it is as much
module _ (names : ℕ → Text → Option ℕ) where
  loads-seen : (ts : List Tree) → trees_load (trees (map (seen names) ts)) ≡ trees_load (trees ts)
  loads-seen [] = refl
  loads-seen (t ∷ ts) = λ i. load-seen names t i + loads-seen ts i

  sizes-seen : (ts : List Tree) → trees_size (trees (map (seen names) ts)) ≡ trees_size (trees ts)
  sizes-seen [] = refl
  sizes-seen (t ∷ ts) = λ i. size-seen names t i + sizes-seen ts i

  own_load-seen : (c : Option Tree) → own_load (seen_copy names c) ≡ own_load c
  own_load-seen None = refl
  own_load-seen (Some t) = load-seen names t

  copy_size-seen : (c : Option Tree) → copy_size (seen_copy names c) ≡ copy_size c
  copy_size-seen None = refl
  copy_size-seen (Some t) = size-seen names t

  pub literals-seen : (c : Option Tree) (ps : List Tree) → literals_before (seen_copy names c) (map (seen names) ps) ≡ literals_before c ps
  literals-seen None ps = refl
  literals-seen (Some t) [] = refl
  literals-seen (Some t) (p ∷ ps) = refl

-- a node that is seen as such a copy
module _ (c : Option Tree) (ps : List Tree) (e u : Tree) (made : (names : ℕ → Text → Option ℕ) → seen names u ≡ copied helper (seen_copy names c) (map (seen names) ps) (seen names e)) where
  made-load : load u ≡ literals_before c ps + 4 + own_load c + trees_load (trees ps) + load e
  made-load =
      let as_seen : load u ≡ load (copied helper (seen_copy no_bindings c) (map (seen no_bindings) ps) (seen no_bindings e)) = sym (load-seen no_bindings u) ∙ ap load (made no_bindings) in
      omega (arith, as_seen, copied-load (seen_copy no_bindings c) (map (seen no_bindings) ps) (seen no_bindings e), literals-seen no_bindings c ps, own_load-seen no_bindings c, loads-seen no_bindings ps, load-seen no_bindings e)

  made-size : tree_size u ≡ literals_before c ps + 4 + copy_size c + trees_size (trees ps) + tree_size e
  made-size =
      let as_seen : tree_size u ≡ tree_size (copied helper (seen_copy no_bindings c) (map (seen no_bindings) ps) (seen no_bindings e)) = sym (size-seen no_bindings u) ∙ ap tree_size (made no_bindings) in
      omega (arith, as_seen, copied-size (seen_copy no_bindings c) (map (seen no_bindings) ps) (seen no_bindings e), literals-seen no_bindings c ps, copy_size-seen no_bindings c, sizes-seen no_bindings ps, size-seen no_bindings e)

-- A PROPERTY MORE

or-false : (b : Bool) → b ≡ (b || false)
or-false true = refl
or-false false = refl

or-true : (b : Bool) → true ≡ (b || true)
or-true true = refl
or-true false = refl

-- that is no spread
pub adds-pending : (ctx : TraverseCtx TransformState) (t : Tree) (c : Option Tree) (ps qs : List Tree) → is_spread (kind_of t) ≡ false → qs ≡ ps ++ t ∷ [] → AddsProperty ctx ctx t c ps c qs
adds-pending ctx t c ps qs other put =
    let loads = ap (λ (xs : List Tree). trees_load (trees xs)) put ∙ trees_load-append ps (t ∷ []) in
    let sizes = ap (λ (xs : List Tree). trees_size (trees xs)) put ∙ tests_size-append ps (t ∷ []) in
    record {
      ids = 0;
      reads = reads-none ctx;
      copies = λ names ts u r. keeps (spread-seen names t ∙ other) (subst (λ xs. Copies helper (seen_copy names c) xs ts u) (ap (map (seen names)) put ∙ map-append (seen names) ps (t ∷ [])) r);
      copied = or-false (is_some c) ∙ ap (λ b. is_some c || b) (sym other);
      nodes = omega (arith, sizes);
      lighter = omega (arith, loads);
    }

-- how much a copy may take
spread-lighter : (c : Option Tree) (ps : List Tree) (made below : ℕ) → made ≡ literals_before c ps + 4 + own_load c + trees_load (trees ps) + below → literals_before c ps + 4 + (made + 12) ≤ copy_load c + trees_load (trees ps) + (25 + below)
spread-lighter None ps made below h = omega (arith, h)
spread-lighter (Some c) [] made below h = omega (arith, h)
spread-lighter (Some c) (p ∷ ps) made below h = omega (arith, h)

-- a spread
module _ (old new : TraverseCtx TransformState) (l : Label) (e t u : Tree) (c : Option Tree) (ps : List Tree) (opened : node SpreadElement l (one e then done) ≡ t) where
  pub adds-spread : ((names : ℕ → Text → Option ℕ) → seen names u ≡ copied helper (seen_copy names c) (map (seen names) ps) (seen names e)) → ReadsMore (literals_before c ps + 4) old new → AddsProperty old new t c ps (Some u) []
  adds-spread made reads =
      let weighs = made-load c ps e u made in
      let counts = made-size c ps e u made in
      let heavy : load t ≡ 25 + load e = sym (ap load opened) ∙ omega arith in
      let large : tree_size t ≡ 1 + tree_size e = sym (ap tree_size opened) ∙ omega arith in
      let lighter = spread-lighter c ps (load u) (load e) weighs in
      record {
        ids = literals_before c ps + 4;
        reads = reads;
        copies = λ names ts v r. subst (λ (s : Tree). Copies helper (seen_copy names c) (map (seen names) ps) (seen names s before ts) v) opened (copies (subst (λ (s : Tree). Copies helper (Some s) [] ts v) (made names) r));
        copied = or-true (is_some c) ∙ ap (λ (s : Tree). is_some c || is_spread (kind_of s)) opened;
        nodes = omega (arith, counts, large);
        lighter = omega (arith, lighter, heavy);
      }

-- THE LAST PROPERTIES

pub last-more : (old new : TraverseCtx TransformState) (c u : Tree) (ps : List Tree) → 0 < length ps → ((names : ℕ → Text → Option ℕ) → seen names u ≡ call_node helper (arguments_before (Some (seen names c)) (map (seen names) ps))) → ReadsMore (literals_before (Some c) ps + 4) old new → CopiesLast old new (Some c) ps u
last-more old new c u [] some made reads = absurd (omega (arith, some))
last-more old new c u (p ∷ ps) some made reads =
    let loaded : load u ≡ load (last_copied helper (Some (seen no_bindings c)) (map (seen no_bindings) (p ∷ ps))) = sym (load-seen no_bindings u) ∙ ap load (made no_bindings) in
    let sized : tree_size u ≡ tree_size (last_copied helper (Some (seen no_bindings c)) (map (seen no_bindings) (p ∷ ps))) = sym (size-seen no_bindings u) ∙ ap tree_size (made no_bindings) in
    let weighs = last-load (seen no_bindings c) (seen no_bindings p) (map (seen no_bindings) ps) in
    let counts = last-size (seen no_bindings c) (seen no_bindings p) (map (seen no_bindings) ps) in
    record {
      ids = 6;
      reads = reads;
      last = made;
      nodes = omega (arith, sized, counts, sizes-seen no_bindings (p ∷ ps), size-seen no_bindings c);
      lighter = omega (arith, loaded, weighs, loads-seen no_bindings (p ∷ ps), load-seen no_bindings c);
    }

-- ALL PROPERTIES

-- what was copied of all, with whatever comes of the rest
pub record CopiedSoFar (old new : TraverseCtx TransformState) (all : List Tree) (c : Option Tree) (ps rest : List Tree) : Type 0 where
  pub ids : ℕ
  pub reads : ReadsMore ids old new
  pub copies : (names : ℕ → Text → Option ℕ) (u : Tree) → Copies helper (seen_copy names c) (map (seen names) ps) (seen_among names (trees rest)) u → Copies helper None [] (seen_among names (trees all)) u
  pub spread : (is_some c || any_kind is_spread (trees rest)) ≡ true
  pub whole : any_lacks_argument (trees rest) ≡ false
  pub nodes : copy_size c + trees_size (trees ps) + trees_size (trees rest) ≤ trees_size (trees all) + ids
  pub lighter : ids + copy_load c + trees_load (trees ps) + trees_load (trees rest) ≤ trees_load (trees all)

pub copied-first : (ctx : TraverseCtx TransformState) (all : List Tree) → any_kind is_spread (trees all) ≡ true → any_lacks_argument (trees all) ≡ false → CopiedSoFar ctx ctx all None [] all
copied-first ctx all spread whole = record { ids = 0; reads = reads-none ctx; copies = λ names u r. r; spread = spread; whole = whole; nodes = omega arith; lighter = omega arith }

or-joined : (a b c d : Bool) → d ≡ (a || b) → (a || (b || c)) ≡ true → (d || c) ≡ true
or-joined true b c d e h = rw e refl
or-joined false true c d e h = rw e refl
or-joined false false c d e h = rw e h

module _ (old mid new : TraverseCtx TransformState) (all : List Tree) (c : Option Tree) (ps : List Tree) where
  pub next-whole : (t : Tree) (rest : List Tree) → CopiedSoFar old mid all c ps (t ∷ rest) → lacks_argument t ≡ false
  next-whole t rest h = first-of (lacks_argument t) (any_lacks_argument (trees rest)) h.whole

  pub next-room : (t : Tree) (rest : List Tree) → CopiedSoFar old mid all c ps (t ∷ rest) → HasRoom (moment_of old) (trees_load (trees all)) → mid.ast.next + load t < 2 ^ 32 - 1
  next-room t rest h room = let next : mid.ast.next ≡ old.ast.next + h.ids = ap (λ (m : Moment). m.next) h.reads.moment_is in omega (arith, next, h.lighter, room)

  pub copied-next : (t : Tree) (rest : List Tree) (d : Option Tree) (qs : List Tree) → CopiedSoFar old mid all c ps (t ∷ rest) → AddsProperty mid new t c ps d qs → CopiedSoFar old new all d qs rest
  copied-next t rest d qs h a = record {
    ids = h.ids + a.ids;
    reads = reads-then h.reads a.reads;
    copies = λ names u r. h.copies names u (a.copies names (seen_among names (trees rest)) u r);
    spread = or-joined (is_some c) (is_spread (kind_of t)) (any_kind is_spread (trees rest)) (is_some d) a.copied h.spread;
    whole = second-of (lacks_argument t) (any_lacks_argument (trees rest)) h.whole;
    nodes = omega (arith, h.nodes, a.nodes);
    lighter = omega (arith, h.lighter, a.lighter);
  }

  pub is-copied : (rest : List Tree) → length rest ≡ 0 → CopiedSoFar old mid all c ps rest → is_some c ≡ true
  is-copied [] none h = or-false (is_some c) ∙ h.spread
  is-copied (t ∷ rest) none h = absurd (omega (arith, none))

  pub last-room : (rest : List Tree) → length rest ≡ 0 → CopiedSoFar old mid all c ps rest → HasRoom (moment_of old) (trees_load (trees all)) → mid.ast.next + 6 < 2 ^ 32 - 1
  last-room rest none h room =
      let next : mid.ast.next ≡ old.ast.next + h.ids = ap (λ (m : Moment). m.next) h.reads.moment_is in
      let owed = some-load c (is-copied rest none h) in
      omega (arith, next, h.lighter, room, owed)
    where
      some-load : (d : Option Tree) → is_some d ≡ true → 12 ≤ copy_load d
      some-load (Some t) e = omega arith
      some-load None e = absurd (cc e)

  pub copied-all : (rest : List Tree) (u : Tree) → length rest ≡ 0 → CopiedSoFar old mid all c ps rest → CopiesLast mid new c ps u → CopiesAll old new all u
  copied-all [] u none h l = record {
    ids = h.ids + l.ids;
    reads = reads-then h.reads l.reads;
    copies = λ names. h.copies names (seen names u) (subst (λ v. Copies helper (seen_copy names c) (map (seen names) ps) (seen_among names (trees [])) v) (sym (l.last names)) no_more);
    nodes = omega (arith, h.nodes, l.nodes);
    lighter = omega (arith, h.lighter, l.lighter);
  }
  copied-all (t ∷ rest) u none h l = absurd (omega (arith, none))
