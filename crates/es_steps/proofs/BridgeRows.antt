-- The rows of operators by symbols are those by names, where each name has its symbol.
use Rattle.std.proofs.Common.{◌≡◌, ℕ, refl, sym, ap, subst, ◌∙◌, List, [], ◌∷◌, ◌++◌}
use Rattle.std.specs.Prelude.{Bool, true, false, ◌&&◌, Option}
use Rattle.es_tree.specs.Bare.{bare}
use Rattle.es_tree.specs.Fresh.{node_base}
use Rattle.es_tree.specs.Names.{first_text, flag_at}
use Rattle.es_tree.specs.Parens.{without_parens}
use Rattle.es_tree.specs.Tree.{Tree, node, Label, done, ◌then◌, missing, one, many, statements}
use Rattle.es_tree.specs.Words.{Text}
use Rattle.es_tree.specs.declared.ast_type.AstType.TheVariants.{AssignmentExpression, BigIntLiteral, BooleanLiteral, Identifier, LogicalExpression, MemberExpression, NullLiteral, NumericLiteral, ParenthesizedExpression, StringLiteral, Super, TemplateLiteral, ThisExpression}
use Rattle.es_runs.specs.Alike.{Need}
use Rattle.es_runs.specs.Duplication.{duplicate_base, has_no_fields, is_read_again as is_read_again_by_name, IsDuplicated as IsDuplicatedByName}
use Rattle.es_runs.specs.Duplication.IsDuplicated.{read_again as plain_read_again, by_temporary as plain_by_temporary}
use Rattle.es_runs.specs.Rules.{assign_node, member_node, tested}
use Rattle.es_runs.specs.NullishCoalescing.{also_all, reads_again as reads_again_by_name, NullishCoalescingRule as NullishCoalescingByName}
use Rattle.es_runs.specs.NullishCoalescing.NullishCoalescingRule.{with_temporary as plain_with_temporary, reading_again as plain_reading_again}
use Rattle.es_runs.specs.LogicalAssignment.{assigned_where, LogicalAssignmentRule as LogicalAssignmentByName}
use Rattle.es_runs.specs.LogicalAssignment.LogicalAssignmentRule.{to_name as plain_to_name, to_static_member as plain_to_static_member, to_computed_member as plain_to_computed_member}
use Rattle.es_resolution.specs.Declarations.{Bound, symbol_of}
use Rattle.es_steps.specs.CoreBridge.{names_among}
use Rattle.es_steps.specs.Duplication.{IsNext, IsDuplicated, is_among_symbols, is_read_again}
use Rattle.es_steps.specs.Duplication.IsDuplicated.{read_again, by_temporary}
use Rattle.es_steps.specs.LogicalAssignment.{LogicalAssignmentRule}
use Rattle.es_steps.specs.LogicalAssignment.LogicalAssignmentRule.{to_name, to_static_member, to_computed_member}
use Rattle.es_steps.specs.Nodes.{identifier, made}
use Rattle.es_steps.specs.NullishCoalescing.{NullishCoalescingRule, reads_again}
use Rattle.es_steps.specs.NullishCoalescing.NullishCoalescingRule.{with_temporary, reading_again}
use Rattle.es_steps.specs.Rules.{with_made}
use Rattle.es_steps.specs.Steps.{Site, Whole}
use Rattle.es_steps.proofs.BridgeLinks.{Linked, Takes, Tied, fresh-same, grow-all, grow-one, link-all, look_also, look_with, also_made-both, at-next, name-one, takes-both, tied-grows}
use Rattle.es_steps.proofs.BridgeTrees.{duplicate_base-bare, no_fields-bare, node_base-bare, without_parens-bare}

-- TIED TREES ARE MADE OF TIED PARTS

module _ (used : Text → Bool) (look : Text → Option ℕ) where
  -- the label of a node matters for members alone
  pub logical-tied : (a : Bool) (l r : Tree) → Tied used look true l → Tied used look true r → Tied used look a (node LogicalExpression (made [] []) (one l then (one r then done)))
  logical-tied a l r h g = (refl, tt, (h, (g, tt)))

  pub assign-tied : (a : Bool) (l r : Tree) → Tied used look true l → Tied used look true r → Tied used look a (node AssignmentExpression (made [] []) (one l then (one r then done)))
  assign-tied a l r h g = (refl, tt, (h, (g, tt)))

  pub static-tied : (a : Bool) (k : Label) (o : Tree) → Tied used look true o → Tied used look a (member_node false o (node Identifier k done))
  static-tied a k o h = (refl, tt, (h, ((refl, (refl, tt), tt), tt)))

  pub computed-tied : (a : Bool) (o k : Tree) → Tied used look true o → Tied used look true k → Tied used look a (member_node true o k)
  computed-tied a o k h g = (refl, tt, (h, (g, tt)))

  pub tested-tied : (a : Bool) (m : Label) (begin again r : Tree) → Tied used look true begin → Tied used look true again → Tied used look true r → Tied used look a (tested m begin again r)
  tested-tied a m begin again r h g k = (refl, tt, ((refl, tt, ((refl, tt, (h, ((refl, tt, tt), tt))), ((refl, tt, (g, ((refl, tt, ((refl, tt, tt), tt)), tt))), tt))), (g, (k, tt))))

  pub identifier-tied : (b : Bound) → used b.name ≡ true → b.symbol ≡ look b.name → Tied used look true (identifier b)
  identifier-tied b e d = (refl, (refl, (e, d)), tt)

  pub parens-tied : (a : Bool) (t : Tree) → Tied used look a t → Tied used look a (without_parens t)
  parens-tied a (node ParenthesizedExpression l (one t then fs)) h = parens-tied a t h.2.0
  parens-tied a (node ParenthesizedExpression l done) h = h
  parens-tied a (node ParenthesizedExpression l (missing then fs)) h = h
  parens-tied a (node ParenthesizedExpression l (many ts then fs)) h = h
  parens-tied a (node ParenthesizedExpression l (statements ts then fs)) h = h
  parens-tied a (node _ l fs) h = h

  pub stripped-tied : (t s : Tree) → without_parens t ≡ s → Tied used look true t → Tied used look true s
  stripped-tied t s e h = subst (Tied used look true) e (parens-tied true t h)

  pub key-tied : (a : Bool) (m : Label) (o k : Tree) (b : Bool) → m.flags ≡ true ∷ b ∷ [] → Tied used look a (node MemberExpression m (one o then (one k then done))) → Tied used look true k
  key-tied a m o k b e h = subst (λ c. Tied used look (flag_at 0 c) k) e h.2.1.0

-- ROWS

-- A row by names, with the names that it takes and what it leaves.
pub record Crossed (w : Whole) (look : Text → Option ℕ) (a : Bool) (Plain : List Text → Tree → Tree → Type 0) (bs : List Bound) (t u : Tree) : Type 0 where
  pub rule : Plain (names_among bs) (bare t) (bare u)
  pub takes : Takes w bs
  pub tied : Tied (with_made bs w).in_use (look_with bs look) a u

pub without-parens : (t s : Tree) → without_parens t ≡ s → without_parens (bare t) ≡ bare s
without-parens t s e = without_parens-bare t ∙ ap bare e

pub names-both : (xs ys : List Bound) → names_among (xs ++ ys) ≡ names_among xs ++ names_among ys
names-both [] ys = refl
names-both (x ∷ xs) ys = ap (λ zs. x.name ∷ zs) (names-both xs ys)

pub look-both : (xs ys : List Bound) (look : Text → Option ℕ) (y : Text) → look_with ys (look_with xs look) y ≡ look_with (xs ++ ys) look y
look-both [] ys look y = refl
look-both (x ∷ xs) ys look y = look-both xs ys (look_also x look) y

pub both-tied : (xs ys : List Bound) (w : Whole) (look : Text → Option ℕ) (a : Bool) (t : Tree) → Tied (with_made ys (with_made xs w)).in_use (look_with ys (look_with xs look)) a t → Tied (with_made (xs ++ ys) w).in_use (look_with (xs ++ ys) look) a t
both-tied xs ys w look a t h = subst (λ (f : Text → Option ℕ). Tied (with_made (xs ++ ys) w).in_use f a t) (λ i y. look-both xs ys look y i) (subst (λ (g : Text → Bool). Tied g (look_with ys (look_with xs look)) a t) (λ i y. also_made-both xs ys w.in_use y i) h)

and-true : (c d : Bool) → d ≡ true → c ≡ (c && d)
and-true true d e = sym e
and-true false d e = refl

module _ (w : Whole) (look : Text → Option ℕ) (u st : Text → Bool) (link : Linked w look u st) where
  abbrev T : Tree → Type 0
  T t = Tied w.in_use look true t

  -- trees with a temporary more
  pub taken-tied : (b : Bound) (base : Text) → IsNext w base b → (a : Bool) (t : Tree) → Tied w.in_use look a t → Tied (with_made (b ∷ []) w).in_use (look_also b look) a t
  taken-tied b base next a t h = tied-grows w.in_use look (with_made (b ∷ []) w).in_use (look_also b look) (grow-one w look u st b base (at-next next)) a t h

  pub taken-name : (b : Bound) (base : Text) → IsNext w base b → Tied (with_made (b ∷ []) w).in_use (look_also b look) true (identifier b)
  taken-name b base next = let n = name-one w look u st b base (at-next next) in identifier-tied (with_made (b ∷ []) w).in_use (look_also b look) b n.0 n.1

  pub taken-store : (b : Bound) (base : Text) → IsNext w base b → (e : Tree) → T e → Tied (with_made (b ∷ []) w).in_use (look_also b look) true (assign_node (identifier b) e)
  taken-store b base next e h = assign-tied (with_made (b ∷ []) w).in_use (look_also b look) true (identifier b) e (taken-name b base next) (taken-tied b base next true e h)

  -- NULLISH COALESCING

  reads-same : (t : Tree) → T t → reads_again_by_name st (bare t) ≡ reads_again w.steady t
  reads-same (node ThisExpression l fs) h = sym h.1
  reads-same (node Identifier l fs) h = (link.steady (first_text l.texts) ∙ ap (is_among_symbols w.steady) (sym h.1.1.1)) ∙ and-true (is_among_symbols w.steady (symbol_of l)) (has_no_fields fs) h.1.0
  reads-same (node _ l fs) h = refl

  pub nullish : (a : Bool) (s : Site) (n : Need) {bs : List Bound} {t v : Tree} → NullishCoalescingRule s w bs t v → Tied w.in_use look a t → Crossed w look a (λ xs. NullishCoalescingByName st u xs n) bs t v
  nullish a s n (with_temporary {m = m} {l = l} {r = r} {x = x} texts again next) h = record {
    rule = plain_with_temporary texts (reads-same l h.2.0 ∙ again) (fresh-same w look u st link x (node_base l) (node_base (bare l)) (node_base-bare l) next);
    takes = (record { base = node_base l; next = at-next next }, tt);
    tied = tested-tied (with_made (x ∷ []) w).in_use (look_also x look) a m (assign_node (identifier x) l) (identifier x) r (taken-store x (node_base l) next l h.2.0) (taken-name x (node_base l) next) (taken-tied x (node_base l) next true r h.2.1.0);
  }
  nullish a s n (reading_again {m = m} {l = l} {r = r} texts again) h = record {
    rule = plain_reading_again texts (reads-same l h.2.0 ∙ again);
    takes = tt;
    tied = tested-tied w.in_use look a m l l r h.2.0 h.2.0 h.2.1.0;
  }

  -- DUPLICATION

  again-same : (t : Tree) → T t → is_read_again_by_name st (bare t) ≡ is_read_again (is_among_symbols w.steady) t
  again-same (node Identifier l fs) h = λ i. (link.steady (first_text l.texts) ∙ ap (is_among_symbols w.steady) (sym h.1.1.1)) i && no_fields-bare fs i
  again-same (node ThisExpression l fs) h = no_fields-bare fs
  again-same (node NullLiteral l fs) h = no_fields-bare fs
  again-same (node BooleanLiteral l fs) h = no_fields-bare fs
  again-same (node NumericLiteral l fs) h = no_fields-bare fs
  again-same (node BigIntLiteral l fs) h = no_fields-bare fs
  again-same (node StringLiteral l fs) h = no_fields-bare fs
  again-same (node Super l fs) h = absurd (cc (h.0))
  again-same (node TemplateLiteral l fs) h = absurd (cc (h.0))
  again-same (node _ l fs) h = refl

  pub record Doubled (xs : List Bound) (e e1 e2 : Tree) : Type 0 where
    pub rule : IsDuplicatedByName st u (names_among xs) (bare e) (bare e1) (bare e2)
    pub takes : Takes w xs
    pub first : Tied (with_made xs w).in_use (look_with xs look) true e1
    pub again : Tied (with_made xs w).in_use (look_with xs look) true e2

  pub duplicated : {xs : List Bound} {e e1 e2 : Tree} → IsDuplicated w xs e e1 e2 → T e → Doubled xs e e1 e2
  duplicated (read_again {e = e} again) h = record { rule = plain_read_again (again-same e h ∙ again); takes = tt; first = h; again = h }
  duplicated (by_temporary {e = e} {x = x} again next) h = record {
    rule = plain_by_temporary (again-same e h ∙ again) (fresh-same w look u st link x (duplicate_base e) (duplicate_base (bare e)) (duplicate_base-bare e) next);
    takes = (record { base = duplicate_base e; next = at-next next }, tt);
    first = taken-store x (duplicate_base e) next e h;
    again = taken-name x (duplicate_base e) next;
  }

-- LOGICAL ASSIGNMENT

module _ (w : Whole) (look : Text → Option ℕ) (u st : Text → Bool) (link : Linked w look u st) where
  pub logical : (a : Bool) (s : Site) (n : Need) {bs : List Bound} {t v : Tree} → LogicalAssignmentRule s w bs t v → Tied w.in_use look a t → Crossed w look a (λ xs. LogicalAssignmentByName st u xs n) bs t v
  logical a s n (to_name {m = m} {l = l} {t = t} {r = r} {op = op} texts operator alone target) h =
      let name = stripped-tied w.in_use look t (node Identifier l done) target h.2.0 in
      record {
        rule = plain_to_name texts operator (without-parens t (node Identifier l done) target);
        takes = tt;
        tied = logical-tied w.in_use look a (node Identifier l done) (assign_node (node Identifier l done) r) name (assign-tied w.in_use look true (node Identifier l done) r name h.2.1.0);
      }
  logical a s n (to_static_member {m = m} {l = l} {k = k} {t = t} {r = r} {o = o} {o1 = o1} {o2 = o2} {op = op} {xs = xs} texts operator alone target flags object) h =
      let member = stripped-tied w.in_use look t (node MemberExpression l (one o then (one (node Identifier k done) then done))) target h.2.0 in
      let twice = duplicated w look u st link object member.2.0 in
      let more = (with_made xs w).in_use in
      let wider = look_with xs look in
      let rest = tied-grows w.in_use look more wider (grow-all xs w look twice.takes) true r h.2.1.0 in
      record {
        rule = plain_to_static_member texts operator (without-parens t (node MemberExpression l (one o then (one (node Identifier k done) then done))) target) flags twice.rule;
        takes = twice.takes;
        tied = logical-tied more wider a (member_node false o1 (node Identifier k done)) (assign_node (member_node false o2 (node Identifier k done)) r) (static-tied more wider true k o1 twice.first) (assign-tied more wider true (member_node false o2 (node Identifier k done)) r (static-tied more wider true k o2 twice.again) rest);
      }
  logical a s n (to_computed_member {m = m} {l = l} {t = t} {r = r} {o = o} {o1 = o1} {o2 = o2} {k = k} {k1 = k1} {k2 = k2} {op = op} {xs = xs} {ys = ys} texts operator alone target flags object key) h =
      let member = stripped-tied w.in_use look t (node MemberExpression l (one o then (one k then done))) target h.2.0 in
      let twice = duplicated w look u st link object member.2.0 in
      let v = with_made xs w in
      let wide = look_with xs look in
      let first-grow = grow-all xs w look twice.takes in
      let keys = duplicated v wide (also_all (names_among xs) u) st (link-all xs w look u st twice.takes link) key (tied-grows w.in_use look v.in_use wide first-grow true k (key-tied w.in_use look true l o k false flags member)) in
      let last = with_made ys v in
      let wider = look_with ys wide in
      let grown : (e : Tree) → Tied v.in_use wide true e → Tied last.in_use wider true e = λ e g. tied-grows v.in_use wide last.in_use wider (grow-all ys v wide keys.takes) true e g in
      let rest = grown r (tied-grows w.in_use look v.in_use wide first-grow true r h.2.1.0) in
      record {
        rule = subst (λ zs. LogicalAssignmentByName st u zs n (bare (node AssignmentExpression m (one t then (one r then done)))) (bare (assigned_where m op (member_node true o1 k1) (member_node true o2 k2) r))) (sym (names-both xs ys))
            (plain_to_computed_member texts operator (without-parens t (node MemberExpression l (one o then (one k then done))) target) flags twice.rule keys.rule);
        takes = takes-both xs ys w twice.takes keys.takes;
        tied = both-tied xs ys w look a (assigned_where m op (member_node true o1 k1) (member_node true o2 k2) r)
            (logical-tied last.in_use wider a (member_node true o1 k1) (assign_node (member_node true o2 k2) r) (computed-tied last.in_use wider true o1 k1 (grown o1 twice.first) keys.first)
            (assign-tied last.in_use wider true (member_node true o2 k2) r (computed-tied last.in_use wider true o2 k2 (grown o2 twice.again) keys.again) rest));
      }
