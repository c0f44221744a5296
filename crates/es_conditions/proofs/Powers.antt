-- The rows of exponentiation keep the conditions.
use Rattle.std.proofs.Common.{◌≡◌, ◌&&◌, ◌||◌, Bool, true, false, List, [], ◌∷◌, ◌++◌, refl, sym, ◌∙◌, true≢false}
use Rattle.std.specs.Prelude.{ℕ, Option, Some, codes}
use Rattle.std.proofs.lemmas.Bool.{and_right}
use Rattle.es_tree.specs.Constructs.{is_big_int}
use Rattle.es_tree.specs.Names.{first_text}
use Rattle.es_tree.specs.Parens.{without_parens}
use Rattle.es_tree.specs.Tree.{Tree, node, Label, done, ◌then◌, one, many, empty, ◌before◌, kind_of, trees}
use Rattle.es_tree.specs.Words.{Text}
use Rattle.es_tree.specs.declared.ast_type.AstType.TheVariants.{AssignmentExpression, BinaryExpression, CallExpression, Identifier, PrivateIdentifier, StringLiteral}
use Rattle.es_tree.specs.declared.options.EnvOptions.{EnvOptions}
use Rattle.es_runs.specs.Exponentiation.{string_node}
use Rattle.es_runs.specs.Rules.{assign_node, in_place_of, member_node}
use Rattle.es_resolution.specs.Declarations.{Bound}
use Rattle.es_steps.specs.Exponentiation.{ExponentiationRule, Holds, TargetTwice, assigned_power, power_at, power_node}
use Rattle.es_steps.specs.Exponentiation.ExponentiationRule.{power, power_assignment}
use Rattle.es_steps.specs.Exponentiation.Holds.{where_it_is, in_temporary}
use Rattle.es_steps.specs.Exponentiation.TargetTwice.{bound_name, literal_key, other_key, other_name, private_member, static_member}
use Rattle.es_steps.specs.Nodes.{made, identifier, word}
use Rattle.es_steps.specs.Slots.{holds, in_open_slot}
use Rattle.es_steps.specs.Steps.{Site, Whole}
use Rattle.es_steps.specs.WrapRule.{is_wrapped_for, takes_one}
use Rattle.es_conditions.specs.CoreConditions.{is_chain_inside, is_free, is_settled, is_wrapped}
use Rattle.es_conditions.specs.Laws.{Keeps}
use Rattle.es_conditions.proofs.Inward.{Known}
use Rattle.es_conditions.proofs.Marks.{first-of, none-where, second-of}
use Rattle.es_conditions.proofs.Parts.{AreParts, Made, Part, among-first, among-list, among-none, both-parts, made-assignment, made-call, made-identifier, made-leaf, made-member, made-name, made-sequence, made-static, made-stored, part-bare, part-member, part-of}
use Rattle.es_conditions.proofs.Rows.{free-of, is-wrapped, known-made, scope_at, outside-slots, parts-of-assignment, parts-of-binary, past-free, wrapped-free, wrapped-of}
use Rattle.es_conditions.proofs.Unwrapped.{no-nullish, power-holds, static-holds, unwrapped}

call-holds-none : (x a b c : Bool) → x ≡ false → a ≡ false → b ≡ false → c ≡ false → (x || (a || ((b || (c || false)) || false))) ≡ false
call-holds-none x a b c h ha hb hc = rw (h, ha, hb, hc) refl

module _ (o : EnvOptions) where
  module _ (s : Text → Option ℕ) where
    -- `Math.pow(l, r)`
    made-power : (m : Label) (l r : Tree) → Part o s l → Part o s r → Made o s (power_at m l r)
    made-power m l r hl hr =
        made-call o s (in_place_of m) (member_node false (word (codes "Math")) (word (codes "pow"))) (l before r before empty) (made-static o s (codes "Math") (codes "pow")) (among-first o s l (r before empty) hl (among-first o s r empty hr (among-none o s)))

    record HeldParts (fs : List Tree) (o' : Tree) : Type 0 where
      object : Part o s o'
      front : AreParts o s fs

    held-parts : (names : Option ℕ → Bool) (w : Whole) (xs : List Bound) (fs : List Tree) (e e' : Tree) → Holds names w xs fs e e' → Part o s e → HeldParts fs e'
    held-parts names w xs fs e e' (where_it_is h) k = record { object = k; front = tt }
    held-parts names w xs fs e e' (in_temporary {x = x} h i) k = record { object = part-of o s (identifier x) (made-identifier o s x); front = (part-of o s (assign_node (identifier x) e) (made-stored o s x e k), tt) }

    record TargetParts (fs : List Tree) (target read : Tree) : Type 0 where
      written : Made o s target
      again : Part o s read
      front : AreParts o s fs

    -- a member that is written and read
    member-target : (fs : List Tree) (computed : Bool) (e k : Tree) → Part o s e → Part o s k → AreParts o s fs → TargetParts fs (member_node computed e k) (member_node computed e k)
    member-target fs computed e k he hk front =
        let it = made-member o s (made [] []) computed e k he hk in
        record { written = it; again = part-of o s (member_node computed e k) it; front = front }

    string-part : (x : Text) → Part o s (string_node x)
    string-part x = part-of o s (string_node x) (made-leaf o s StringLiteral (made (Some x ∷ []) []) refl refl refl refl)

    private-part : (k : Label) → Part o s (node PrivateIdentifier k done)
    private-part k = part-of o s (node PrivateIdentifier k done) (made-leaf o s PrivateIdentifier k refl refl refl refl)

    target-parts : (w : Whole) (xs : List Bound) (fs : List Tree) (t target read : Tree) → TargetTwice w xs fs t target read → Part o s t → TargetParts fs target read
    target-parts w xs fs t target read (bound_name {l = l} bound) h =
        let name = made-name o s l in record { written = name; again = part-of o s (node Identifier l done) name; front = tt }
    target-parts w xs fs t target read (other_name {l = l} {x = x} bound next) h =
        let name = made-name o s l in
        record { written = name; again = part-of o s (identifier x) (made-identifier o s x); front = (part-of o s (assign_node (identifier x) (node Identifier l done)) (made-stored o s x (node Identifier l done) (part-of o s (node Identifier l done) name)), tt) }
    target-parts w xs fs t target read (static_member {l = l} {k = k} {o = e} {o' = e'} flags holds) h =
        let held = held-parts _ w xs fs e e' holds (part-member o s l e (node Identifier k done) h).0 in
        member-target fs true e' (string_node (first_text k.texts)) held.object (string-part (first_text k.texts)) held.front
    target-parts w xs fs t target read (private_member {l = l} {k = k} {o = e} {o' = e'} flags holds) h =
        let held = held-parts _ w xs fs e e' holds (part-member o s l e (node PrivateIdentifier k done) h).0 in
        member-target fs false e' (node PrivateIdentifier k done) held.object (private-part k) held.front
    target-parts w xs fs t target read (literal_key {l = l} {o = e} {o' = e'} {k = k} flags literal holds) h =
        let member = part-member o s l e k h in
        let held = held-parts _ w xs fs e e' holds member.0 in
        member-target fs true e' k held.object member.1 held.front
    target-parts w xs fs t target read (other_key {l = l} {o = e} {o' = e'} {k = k} {xs = os} {fs = gs} {y = y} flags literal holds next) h =
        let member = part-member o s l e k h in
        let held = held-parts _ w os gs e e' holds member.0 in
        member-target (gs ++ assign_node (identifier y) k ∷ []) true e' (identifier y) held.object (part-of o s (identifier y) (made-identifier o s y)) (both-parts o s gs (assign_node (identifier y) k ∷ []) held.front (part-of o s (assign_node (identifier y) k) (made-stored o s y k member.1), tt))

    made-assigned : (m : Label) (fs : List Tree) (target read r : Tree) → TargetParts fs target read → Part o s r → Made o s (assigned_power m fs target read r)
    made-assigned m [] target read r h k = made-assignment o s (record (in_place_of m) { texts = Some (codes "=") ∷ [] }) target (power_node read r) refl h.written (part-of o s (power_node read r) (made-power (made [] []) read r h.again k))
    made-assigned m (f ∷ fs) target read r h k =
        let last = assign_node target (power_node read r) in
        let it = made-assignment o s (made (Some (codes "=") ∷ []) []) target (power_node read r) refl h.written (part-of o s (power_node read r) (made-power (made [] []) read r h.again k)) in
        made-sequence o s (in_place_of m) (trees ((f ∷ fs) ++ last ∷ [])) (among-list o s ((f ∷ fs) ++ last ∷ []) (both-parts o s (f ∷ fs) (last ∷ []) h.front (part-of o s last it, tt)))

  -- WHAT THE ROWS LEAVE

  record RowMade (n : Site) (u : Tree) : Type 0 where
    made : Made o (scope_at n) u
    no_chain : is_chain_inside u ≡ false
    settled : is_settled o u ≡ true

  no-chain : (m : Label) (fs : List Tree) (target read r : Tree) → is_chain_inside (assigned_power m fs target read r) ≡ false
  no-chain m [] target read r = refl
  no-chain m (f ∷ fs) target read r = refl

  settled : (m : Label) (fs : List Tree) (target read r : Tree) → is_settled o (assigned_power m fs target read r) ≡ true
  settled m [] target read r = none-where o.es2020.optional_chaining false (λ on. refl)
  settled m (f ∷ fs) target read r = none-where o.es2020.optional_chaining false (λ on. refl)

  row-made : (n : Site) (w : Whole) (bs : List Bound) (t u : Tree) → ExponentiationRule n w bs t u → Known o n t → RowMade n u
  row-made n w bs t u (power {m = m} {l = l} {r = r} free texts a b) h =
      let parts = parts-of-binary o n m l r h in
      record { made = made-power (scope_at n) m l r parts.0 parts.1; no_chain = refl; settled = none-where o.es2020.optional_chaining false (λ on. refl) }
  row-made n w bs t u (power_assignment {m = m} {t = left} {r = r} {target = target} {read = read} {xs = xs} {fs = fs} free texts b alone twice) h =
      let parts = parts-of-assignment o n m left r h in
      record { made = made-assigned (scope_at n) m fs target read r (target-parts (scope_at n) w xs fs (without_parens left) target read twice (part-bare o (scope_at n) left parts.0)) parts.1; no_chain = no-chain m fs target read r; settled = settled m fs target read r }

  -- SLOTS

  -- `Math.pow(l, r)` holds what l and r do
  pub call-holds : (m : Label) (l r : Tree) → holds (is_wrapped_for o) l ≡ false → holds (is_wrapped_for o) r ≡ false → holds (is_wrapped_for o) (power_at m l r) ≡ false
  call-holds m l r hl hr =
      let pow = member_node false (word (codes "Math")) (word (codes "pow")) in
      let at = record (in_place_of m) { flags = false ∷ [] } in
      let fs = one pow then many (l before r before empty) then done in
      call-holds-none (is_wrapped_for o CallExpression at fs) (holds (is_wrapped_for o) pow) (holds (is_wrapped_for o) l) (holds (is_wrapped_for o) r) (unwrapped o CallExpression at fs (no-nullish o) refl refl refl refl) (static-holds o (codes "Math") (codes "pow")) hl hr

  module _ (on : o.es2016.exponentiation_operator ≡ true) where
    pub assignment-holds : (m : Label) (t r : Tree) → m.texts ≡ Some (codes "**=") ∷ [] → is_big_int (kind_of r) ≡ false → holds (is_wrapped_for o) (node AssignmentExpression m (one t then one r then done)) ≡ true
    assignment-holds m t r texts big =
        power-holds o AssignmentExpression m (one t then one r then done) (rw (on, texts, big) refl)

    record RowSlot (n : Site) (bs : List Bound) (u : Tree) : Type 0 where
      outside : (takes_one bs && in_open_slot n.above) ≡ false
      none : in_open_slot n.above ≡ true → holds (is_wrapped_for o) u ≡ false

    row-slot : (n : Site) (w : Whole) (bs : List Bound) (t u : Tree) → ExponentiationRule n w bs t u → is_wrapped o n t ≡ true → RowSlot n bs u
    row-slot n w bs t u (power {m = m} {l = l} {r = r} free texts a b) e =
        record {
          outside = refl;
          none = λ d.
              let none = second-of (is_wrapped_for o BinaryExpression m (one l then one r then done)) _ ((wrapped-of o n (node BinaryExpression m (one l then one r then done)) e).slot d) in
              call-holds m l r (first-of (holds (is_wrapped_for o) l) _ none) (first-of (holds (is_wrapped_for o) r) false (second-of (holds (is_wrapped_for o) l) _ none));
        }
    row-slot n w bs t u (power_assignment {m = m} {t = left} {r = r} {target = target} {read = read} {xs = xs} {fs = fs} free texts b alone twice) e =
        let closed = outside-slots o n (node AssignmentExpression m (one left then one r then done)) e (assignment-holds m left r texts b) in
        record { outside = and_right (takes_one xs) (in_open_slot n.above) closed; none = λ d. absurd (true≢false (sym d ∙ closed)) }

    pub power-keeps : Keeps (is_free o) (is_free o) ExponentiationRule
    power-keeps = record {
      outside = λ n w bs s t u form e r. (row-slot n w bs t u r (wrapped-free o n t e)).outside;
      known = λ n w bs s t u form e r.
          let it = row-made n w bs t u r (wrapped-of o n t (wrapped-free o n t e)).known in
          free-of o n u (is-wrapped o n u (record { slot = (row-slot n w bs t u r (wrapped-free o n t e)).none; known = known-made o n u (past-free o n t e) it.made it.no_chain })) it.settled;
    }
