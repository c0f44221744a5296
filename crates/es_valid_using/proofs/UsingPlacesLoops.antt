-- What a `for` with `using` in its head becomes, with its labels, keeps the static rules of places.
use Rattle.std.proofs.Common.{◌≡◌, ℕ, inr, refl, sym, ap, List, [], ◌∷◌}
use Rattle.std.specs.Prelude.{◌⊎◌, true, false, not, Some, codes}
use Rattle.es_tree.specs.Ancestors.{Ancestor, ancestor, is_labeled_loop, leads_by, place_of}
use Rattle.es_tree.specs.CoreStaticRules.{is_bad_target, is_simple_target}
use Rattle.es_tree.specs.HasForm.{has_form, same_type}
use Rattle.es_tree.specs.Parens.{without_parens}
use Rattle.es_tree.specs.StaticRules.{is_bad_rest}
use Rattle.es_tree.specs.Tree.{Tree, node, Label, Field, Fields, done, ◌then◌, one, Trees, empty, ◌before◌, kind_of}
use Rattle.es_tree.specs.declared.ast_type.AstType.{AstType}
use Rattle.es_tree.specs.declared.ast_type.AstType.TheVariants.{ForStatement, Identifier, LabeledStatement, RestElement, TargetRest, TryStatement}
use Rattle.es_tree.specs.declared.place.Place.TheVariants.{Other}
use Rattle.es_tree.specs.declared.table.Sort.{Sort}
use Rattle.es_resolution.specs.Declarations.{Bound}
use Rattle.es_steps.specs.Nodes.{made}
use Rattle.es_steps.specs.Open.{is_import}
use Rattle.es_steps.specs.Rules.{next_name}
use Rattle.es_steps.specs.Steps.{Ledger, Site, Spot}
use Rattle.es_steps.specs.Steps.Spot.{at_node}
use Rattle.es_steps.specs.UsingBlocks.{UsedAll, error_of}
use Rattle.es_steps.specs.UsingLoops.{LoopUsing, UsesInHead, for_fields, is_labelled, labelled}
use Rattle.es_steps.specs.UsingLoops.LoopUsing.{of_loop}
use Rattle.es_steps.specs.UsingLoops.UsesInHead.{in_head, with_label}
use Rattle.es_steps.proofs.FormRules.{AtNodes}
use Rattle.es_valid_steps.specs.PlaceRules.{Keeps, KeepsHere}
use Rattle.es_valid_steps.proofs.Changed.{Changed}
use Rattle.es_valid_steps.proofs.Loose.{Loose}
use Rattle.es_valid_steps.proofs.Moves.{in-moved}
use Rattle.es_valid_steps.proofs.Offers.{Alike, Near, Offers}
use Rattle.es_valid_using.proofs.Frames.{SameLabel, frame-alike, frame-here, frame-made, is_frame}
use Rattle.es_valid_using.proofs.UsingFormsStatements.{loop-using-form}
use Rattle.es_valid_using.proofs.UsingMoves.{SameBeside}
use Rattle.es_valid_using.proofs.UsingPlaces.{Sinks, declaration-keeps, in_try, inside_try, below-rest, protected-keeps}
use Rattle.es_valid_using.proofs.UsingSinks.{Around, around-offered, around-try, sunken-near, sunken-offers, sunken-rest}
use Rattle.es_valid_using.proofs.UsingSinks.Sunken.{a_label, a_loop}
use Rattle.es_valid_using.proofs.UsingTrees.{Framed, UsingLawful}

-- where a statement may stand
record Stand (up : List Ancestor) : Type 0 where
  place : place_of up ≡ Other
  rest : (t : Tree) → is_bad_rest up t ≡ false

stand-here : (up : List Ancestor) → Stand up → (k : AstType) (l : Label) (fs : Fields) → is_frame k ≡ true → KeepsHere up (node k l fs)
stand-here up s k l fs e = frame-made up k l fs e (ap (λ p. is_bad_target p (node k l fs)) s.place) (s.rest (node k l fs))

-- the head of a `for`
for-loose : (m : Label) (fs : Fields) (up : List Ancestor) → Loose (ancestor ForStatement m fs 0 0 ∷ up)
for-loose m fs up = record { label = refl; top = refl; for_in = refl; for_of = refl; exported = refl; lone = refl; rest = sunken-rest m fs fs fs ForStatement 0 a_loop up; inner_rest = λ b t. below-rest (leads_by RestElement 0 b) (not (same_type (kind_of t) Identifier)) (leads_by TargetRest 0 b) (not (is_simple_target (kind_of (without_parens t)))) }

-- a loop stays one below its labels
head-loops : (c : Bound) (t u : Tree) → UsesInHead c t u → is_labeled_loop u ≡ is_labeled_loop t
head-loops c t u (in_head e r) = refl
head-loops c t u (with_label {t = t'} {u = u'} r) = head-loops c t' u' r

module _ (c : Bound) where
  loop-keeps : (up vp : List Ancestor) → Around up vp → Stand vp → (m l : Label) (ds es : Trees) (f g h : Field) → UsedAll c ds es → Keeps up (node ForStatement m (for_fields l ds f g h)) → Keeps vp (node ForStatement m (for_fields (record l { texts = Some (codes "const") ∷ [] }) es f g h))
  loop-keeps up vp o s m l ds es f g h r k =
      let old = for_fields l ds f g h in
      let new = for_fields (record l { texts = Some (codes "const") ∷ [] }) es f g h in
      let alike : (i : ℕ) → Alike (ancestor ForStatement m old i 0) (ancestor ForStatement m new i 0) = λ i. frame-alike ForStatement m old new i refl (λ e. absurd (cc e)) in
      let offers : (i : ℕ) → Offers true (ancestor ForStatement m old i 0 ∷ up) (ancestor ForStatement m new i 0 ∷ vp) = λ i. sunken-offers m old new up vp o ForStatement i a_loop (alike i) in
      let near : (i : ℕ) → Near (ancestor ForStatement m old i 0 ∷ up) (ancestor ForStatement m new i 0 ∷ vp) = λ i. sunken-near m old new up vp o ForStatement i a_loop (alike i) in
      let sinks : Sinks (ancestor ForStatement m old 0 0 ∷ up) (ancestor ForStatement m new 0 0 ∷ vp) = record { loose_from = for-loose m old up; loose_to = for-loose m new vp; offers = offers 0; place_from = refl; place_to = refl; callee = refl; object = refl } in
      (stand-here vp s ForStatement m new refl, (declaration-keeps (ancestor ForStatement m old 0 0 ∷ up) (ancestor ForStatement m new 0 0 ∷ vp) sinks c l ds es r k.1.0, in-moved true up vp ForStatement m old new 1 (f then g then h then done) offers near (λ e. absurd (cc e)) k.1.1))

  head-keeps : (t u : Tree) → UsesInHead c t u → (up vp : List Ancestor) → Around up vp → Stand vp → Keeps up t → Keeps vp u
  head-keeps t u (in_head {m = m} {l = l} {ds = ds} {es = es} {f = f} {g = g} {h = h} e r) up vp o s k = loop-keeps up vp o s m l ds es f g h r k
  head-keeps t u (with_label {m = m} {k = n} {t = t'} {u = u'} r) up vp o s k =
      let old = labelled n t' in
      let new = labelled n u' in
      let same : SameLabel old new = record { name = refl; loop = head-loops c t' u' r } in
      let alike : (i : ℕ) → Alike (ancestor LabeledStatement m old i 0) (ancestor LabeledStatement m new i 0) = λ i. frame-alike LabeledStatement m old new i refl (λ e. same) in
      let offers : (i : ℕ) → Offers true (ancestor LabeledStatement m old i 0 ∷ up) (ancestor LabeledStatement m new i 0 ∷ vp) = λ i. sunken-offers m old new up vp o LabeledStatement i a_label (alike i) in
      let near : (i : ℕ) → Near (ancestor LabeledStatement m old i 0 ∷ up) (ancestor LabeledStatement m new i 0 ∷ vp) = λ i. sunken-near m old new up vp o LabeledStatement i a_label (alike i) in
      let name = in-moved true up vp LabeledStatement m old new 0 (one (node Identifier n done) then done) offers near (λ e. absurd (cc e)) (k.1.0, tt) in
      let body = head-keeps t' u' r (ancestor LabeledStatement m old 1 0 ∷ up) (ancestor LabeledStatement m new 1 0 ∷ vp) (around-offered (offers 1)) (record { place = refl; rest = sunken-rest m old new new LabeledStatement 1 a_label vp }) k.1.1.0 in
      (stand-here vp s LabeledStatement m new refl, (name.0, (body, tt)))

-- THE RULE

head-try : (c : Bound) (t u : Tree) → UsesInHead c t u → (up : List Ancestor) (m : Label) (fs : Fields) → KeepsHere up t → KeepsHere up (node TryStatement m fs)
head-try c t u (in_head {m = l} {l = d} {ds = ds} {f = f} {g = g} {h = h} e r) up m fs k = frame-here up ForStatement l (for_fields d ds f g h) TryStatement m fs refl refl k
head-try c t u (with_label {m = l} {k = n} {t = t'} r) up m fs k = frame-here up LabeledStatement l (labelled n t') TryStatement m fs refl refl k

keeps-first : (up : List Ancestor) (t : Tree) → Keeps up t → KeepsHere up t
keeps-first up (node k l fs) h = h.0

loop-using-keeps : (n : Site) (s s' : Ledger) (t u : Tree) (a : Sort) (up : List Ancestor) → LoopUsing n s (at_node t) s' (at_node u) → has_form a t ≡ true → Keeps up t → Keeps up u
loop-using-keeps n s s' t v a up (of_loop {w = w} {u = u} {c = c} place takes r) f h =
    let b = next_name w c in
    let e = error_of w in
    protected-keeps b e (u before empty) up (head-try b t u r up (made [] []) (in_try b e (u before empty)) (keeps-first up t h))
    (head-keeps b t u r up (inside_try b e (u before empty) up) (around-try b e (u before empty) up) (record { place = refl; rest = λ x. refl }) h, tt)

loop-nodes : (n : Site) (s s' : Ledger) (x y : Spot) → LoopUsing n s x s' y → AtNodes x y
loop-nodes n s s' x y (of_loop place takes r) = tt

loop-beside : (n : Site) (s s' : Ledger) (x y : Spot) → LoopUsing n s x s' y → SameBeside s s'
loop-beside n s s' x y (of_loop place takes r) = record { pending = refl; this = refl; top = refl }

record HeadKind (t : Tree) : Type 0 where
  import : is_import t ≡ false
  frame : is_frame (kind_of t) ≡ true
  name : kind_of t ≡ Identifier → ⊥

head-kind : (c : Bound) (t u : Tree) → UsesInHead c t u → HeadKind t
head-kind c t u (in_head e r) = record { import = refl; frame = refl; name = λ e. absurd (cc e) }
head-kind c t u (with_label r) = record { import = refl; frame = refl; name = λ e. absurd (cc e) }

loop-imports : (n : Site) (s s' : Ledger) (t u : Tree) → LoopUsing n s (at_node t) s' (at_node u) → is_import u ≡ is_import t
loop-imports n s s' t v (of_loop {w = w} {u = u} {c = c} place takes r) = sym (head-kind (next_name w c) t u r).import

loop-seen : (n : Site) (s s' : Ledger) (t u : Tree) → LoopUsing n s (at_node t) s' (at_node u) → Changed false t u ⊎ Framed t u
loop-seen n s s' t v (of_loop {w = w} {u = u} {c = c} place takes r) = inr (record { was = (head-kind (next_name w c) t u r).frame; is = refl })

loop-loops : (n : Site) (s s' : Ledger) (t u : Tree) → is_labelled n.above ≡ true → LoopUsing n s (at_node t) s' (at_node u) → is_labeled_loop u ≡ is_labeled_loop t
loop-loops n s s' t u e (of_loop place takes r) = absurd (cc (e, place))

loop-names : (n : Site) (s s' : Ledger) (t u : Tree) → kind_of t ≡ Identifier → LoopUsing n s (at_node t) s' (at_node u) → ⊥
loop-names n s s' t v e (of_loop {w = w} {u = u} {c = c} place takes r) = (head-kind (next_name w c) t u r).name e

pub loop-using : UsingLawful LoopUsing
loop-using = record { alone = record { nodes = loop-nodes; beside = loop-beside; imports = loop-imports }; formed = λ n s s' t u a lets h f. loop-using-form n s s' t u a h f; keeps = loop-using-keeps; seen = loop-seen; loops = loop-loops; names = loop-names }
