-- What a block with `using` becomes keeps the static rules of places, and so it is with the lists of functions and static blocks.
use Rattle.std.proofs.Common.{◌≡◌, ℕ, inl, inr, refl, List, [], ◌∷◌}
use Rattle.std.specs.Prelude.{◌⊎◌, true, false}
use Rattle.es_tree.specs.Ancestors.{Ancestor, ancestor, is_labeled_loop}
use Rattle.es_tree.specs.HasForm.{has_form}
use Rattle.es_tree.specs.Tree.{Tree, Label, Fields, done, ◌then◌, statements, Trees, empty, ◌before◌, kind_of}
use Rattle.es_tree.specs.declared.ast_type.AstType.{AstType}
use Rattle.es_tree.specs.declared.ast_type.AstType.TheVariants.{BlockStatement, FunctionBody, Identifier, StaticBlock, TryStatement}
use Rattle.es_tree.specs.declared.table.Sort.{Sort}
use Rattle.es_resolution.specs.Declarations.{Bound}
use Rattle.es_steps.specs.Nodes.{made}
use Rattle.es_steps.specs.Open.{is_import}
use Rattle.es_steps.specs.Rules.{next_name}
use Rattle.es_steps.specs.Steps.{Ledger, Site, Spot}
use Rattle.es_steps.specs.Steps.Spot.{at_node}
use Rattle.es_steps.specs.UsingBlocks.{BlockUsing, Constants, error_of, protected}
use Rattle.es_steps.specs.UsingBlocks.BlockUsing.{of_block, of_part}
use Rattle.es_steps.specs.UsingLoops.{is_labelled}
use Rattle.es_steps.proofs.FormRules.{AtNodes}
use Rattle.es_valid_steps.specs.PlaceRules.{Keeps, KeepsAll, KeepsHere}
use Rattle.es_valid_steps.proofs.Changed.{Changed}
use Rattle.es_valid_steps.proofs.Changed.Changed.{inside}
use Rattle.es_valid_steps.proofs.Changed.ChangedField.{list_changed}
use Rattle.es_valid_steps.proofs.Changed.ChangedFields.{ends, more}
use Rattle.es_valid_steps.proofs.Loose.{loose}
use Rattle.es_valid_steps.proofs.Offers.{Offers}
use Rattle.es_valid_using.proofs.Frames.{frame-here, frame-made, no-constructor}
use Rattle.es_valid_using.proofs.UsingForms.{block-using-form}
use Rattle.es_valid_using.proofs.UsingMoves.{SameBeside}
use Rattle.es_valid_using.proofs.UsingPlaces.{Sinks, constants-keep, in_block, in_try, inside_try, protected-keeps}
use Rattle.es_valid_using.proofs.UsingTrees.{Framed, UsingLawful}

-- LISTS of statements, and the same statements in a `try`

pub data ListPlace : AstType → ℕ → Type 0 where
  in_a_block : ListPlace BlockStatement 0
  in_a_body : ListPlace FunctionBody 1
  in_a_static_block : ListPlace StaticBlock 0

module _ (c u : Bound) (us : Trees) (up : List Ancestor) (l : Label) (old : Fields) where
  -- in the place of the block
  block-offers : Offers true (ancestor BlockStatement l old 0 0 ∷ up) (inside_try c u us up)
  block-offers = record { labels = refl; loop = λ j h. h; breakable = λ j h. h; function = λ h. h; members = λ h. h; calls = λ h. h; targets = λ h. h; in_module = refl; method = λ h. h; constructor = λ h. absurd (cc (h, no-constructor (ancestor BlockStatement l old 0 0) refl up)); class = λ h. h }

  pub block-sinks : Sinks (ancestor BlockStatement l old 0 0 ∷ up) (inside_try c u us up)
  block-sinks = record { loose_from = loose l old 0 0 up BlockStatement refl; loose_to = loose (made [] []) (in_block c us) 0 0 (ancestor TryStatement (made [] []) (in_try c u us) 0 0 ∷ up) BlockStatement refl; offers = block-offers; place_from = refl; place_to = refl; callee = refl; object = refl }

  -- in the list itself
  module _ (new : Fields) where
    list-offers : (k : AstType) (i : ℕ) → ListPlace k i → Offers true (ancestor k l old i 0 ∷ up) (inside_try c u us (ancestor k l new i 0 ∷ up))
    list-offers k i in_a_block = record { labels = refl; loop = λ j h. h; breakable = λ j h. h; function = λ h. h; members = λ h. h; calls = λ h. h; targets = λ h. h; in_module = refl; method = λ h. h; constructor = λ h. absurd (cc (h, no-constructor (ancestor BlockStatement l old 0 0) refl up)); class = λ h. h }
    list-offers k i in_a_body = record { labels = refl; loop = λ j h. h; breakable = λ j h. h; function = λ h. h; members = λ h. h; calls = λ h. h; targets = λ h. h; in_module = refl; method = λ h. h; constructor = λ h. absurd (cc (h, no-constructor (ancestor FunctionBody l old 1 0) refl up)); class = λ h. h }
    list-offers k i in_a_static_block = record { labels = refl; loop = λ j h. h; breakable = λ j h. h; function = λ h. h; members = λ h. h; calls = λ h. h; targets = λ h. h; in_module = refl; method = λ h. h; constructor = λ h. absurd (cc (h, no-constructor (ancestor StaticBlock l old 0 0) refl up)); class = λ h. h }

    list-sinks : (k : AstType) (i : ℕ) → ListPlace k i → Sinks (ancestor k l old i 0 ∷ up) (inside_try c u us (ancestor k l new i 0 ∷ up))
    list-sinks k i in_a_block = record { loose_from = loose l old 0 0 up BlockStatement refl; loose_to = loose (made [] []) (in_block c us) 0 0 _ BlockStatement refl; offers = list-offers BlockStatement 0 in_a_block; place_from = refl; place_to = refl; callee = refl; object = refl }
    list-sinks k i in_a_body = record { loose_from = loose l old 1 0 up FunctionBody refl; loose_to = loose (made [] []) (in_block c us) 0 0 _ BlockStatement refl; offers = list-offers FunctionBody 1 in_a_body; place_from = refl; place_to = refl; callee = refl; object = refl }
    list-sinks k i in_a_static_block = record { loose_from = loose l old 0 0 up StaticBlock refl; loose_to = loose (made [] []) (in_block c us) 0 0 _ BlockStatement refl; offers = list-offers StaticBlock 0 in_a_static_block; place_from = refl; place_to = refl; callee = refl; object = refl }

-- the `try` with all of it, in the list
pub list-keeps : (c u : Bound) (ts us : Trees) (up : List Ancestor) (l : Label) (old new : Fields) (k : AstType) (i : ℕ) → ListPlace k i → Constants c ts us → KeepsAll (ancestor k l old i 0 ∷ up) ts → KeepsAll (ancestor k l new i 0 ∷ up) (protected c u us before empty)
list-keeps c u ts us up l old new k i p r h =
    let there = ancestor k l new i 0 ∷ up in
    let kept = constants-keep (ancestor k l old i 0 ∷ up) (inside_try c u us there) (list-sinks c u us up l old new k i p) c ts us r h in
    (protected-keeps c u us there (try-here p) kept, tt)
  where
    try-here : {k : AstType} {i : ℕ} → ListPlace k i → KeepsHere (ancestor k l new i 0 ∷ up) (protected c u us)
    try-here in_a_block = frame-made _ TryStatement (made [] []) (in_try c u us) refl refl ((loose l new 0 0 up BlockStatement refl).rest (protected c u us))
    try-here in_a_body = frame-made _ TryStatement (made [] []) (in_try c u us) refl refl ((loose l new 1 0 up FunctionBody refl).rest (protected c u us))
    try-here in_a_static_block = frame-made _ TryStatement (made [] []) (in_try c u us) refl refl ((loose l new 0 0 up StaticBlock refl).rest (protected c u us))

-- BLOCKS

block-using-keeps : (n : Site) (s s' : Ledger) (t u : Tree) (a : Sort) (up : List Ancestor) → BlockUsing n s (at_node t) s' (at_node u) → has_form a t ≡ true → Keeps up t → Keeps up u
block-using-keeps n s s' t u a up (of_block {w = w} {m = m} {ts = ts} {us = us} {c = c} place has takes r) f h =
    let b = next_name w c in
    let e = error_of w in
    protected-keeps b e us up (frame-here up BlockStatement m (statements ts then done) TryStatement (made [] []) (in_try b e us) refl refl h.0)
    (constants-keep _ (inside_try b e us up) (block-sinks b e us up m (statements ts then done)) b ts us r h.1.0)
block-using-keeps n s s' t u a up (of_part {w = w} {m = m} {ts = ts} {us = us} {c = c} place has takes r) f h =
    let b = next_name w c in
    let e = error_of w in
    let new : Fields = statements (protected b e us before empty) then done in
    (frame-here up BlockStatement m (statements ts then done) BlockStatement m new refl refl h.0, (list-keeps b e ts us up m (statements ts then done) new BlockStatement 0 in_a_block r h.1.0, tt))

block-nodes : (n : Site) (s s' : Ledger) (x y : Spot) → BlockUsing n s x s' y → AtNodes x y
block-nodes n s s' x y (of_block place has takes r) = tt
block-nodes n s s' x y (of_part place has takes r) = tt

block-beside : (n : Site) (s s' : Ledger) (x y : Spot) → BlockUsing n s x s' y → SameBeside s s'
block-beside n s s' x y (of_block place has takes r) = record { pending = refl; this = refl; top = refl }
block-beside n s s' x y (of_part place has takes r) = record { pending = refl; this = refl; top = refl }

block-imports : (n : Site) (s s' : Ledger) (t u : Tree) → BlockUsing n s (at_node t) s' (at_node u) → is_import u ≡ is_import t
block-imports n s s' t u (of_block place has takes r) = refl
block-imports n s s' t u (of_part place has takes r) = refl

block-seen : (n : Site) (s s' : Ledger) (t u : Tree) → BlockUsing n s (at_node t) s' (at_node u) → Changed false t u ⊎ Framed t u
block-seen n s s' t u (of_block place has takes r) = inr (record { was = refl; is = refl })
block-seen n s s' t u (of_part place has takes r) = inl (inside (more list_changed ends))

block-loops : (n : Site) (s s' : Ledger) (t u : Tree) → is_labelled n.above ≡ true → BlockUsing n s (at_node t) s' (at_node u) → is_labeled_loop u ≡ is_labeled_loop t
block-loops n s s' t u e (of_block place has takes r) = refl
block-loops n s s' t u e (of_part place has takes r) = refl

block-names : (n : Site) (s s' : Ledger) (t u : Tree) → kind_of t ≡ Identifier → BlockUsing n s (at_node t) s' (at_node u) → ⊥
block-names n s s' t u e (of_block place has takes r) = absurd (cc e)
block-names n s s' t u e (of_part place has takes r) = absurd (cc e)

pub block-using : UsingLawful BlockUsing
block-using = record { alone = record { nodes = block-nodes; beside = block-beside; imports = block-imports }; formed = block-using-form; keeps = block-using-keeps; seen = block-seen; loops = block-loops; names = block-names }
