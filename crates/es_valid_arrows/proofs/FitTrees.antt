-- Trees whose arrows can become functions: elsewhere, in lists, and with what is pending written.
use Rattle.std.proofs.Common.{◌≡◌, ℕ, zero, suc, inl, inr, refl, sym, ap, subst, ◌∙◌, List, [], ◌∷◌, ◌++◌}
use Rattle.std.specs.Prelude.{◌⊎◌, Bool, true, false, not, ◌&&◌, ◌||◌, Option, Some, None, codes, map, if◌then◌else◌}
use Rattle.std.proofs.lemmas.Bool.{and_right, or_from}
use Rattle.es_tree.specs.Ancestors.{Ancestor, ancestor}
use Rattle.es_tree.specs.HasForm.{same_type}
use Rattle.es_tree.specs.Parens.{without_parens}
use Rattle.es_tree.specs.Tree.{Tree, node, Label, Fields, done, ◌then◌, Field, missing, one, many, statements, Trees, empty, ◌before◌, trees, kind_of}
use Rattle.es_tree.specs.declared.ast_type.AstType.{AstType}
use Rattle.es_tree.specs.declared.ast_type.AstType.TheVariants.{ArrayPattern, ArrowFunctionExpression, AssignmentPattern, BigIntLiteral, FunctionBody, FunctionDeclaration, FunctionExpression, MemberExpression, ObjectPattern, ObjectTarget, ParenthesizedExpression, PatternProperty, PrivateIdentifier, Program, PropertyDefinition, RestElement, StaticBlock, Super, TargetRest, ThisExpression, UnaryExpression}
use Rattle.es_tree.specs.declared.options.EnvOptions.{EnvOptions}
use Rattle.es_semantic.proofs.FormEdges.{Edges, EdgesAll, EdgesBy, EdgesIn, is_last}
use Rattle.es_resolution.specs.Declarations.{Bound}
use Rattle.es_steps.specs.Nodes.{declarator, joined_trees, return_node}
use Rattle.es_steps.specs.Open.{Additions, Pending, after_imports, declaration, is_import, nothing_pending, pending_statements, whole_list, with_this, with_vars, written_body}
use Rattle.es_steps.specs.ThisPlaces.{has_this, keeps_this, this_in_field, this_in_fields, this_in_trees}
use Rattle.es_steps.proofs.FormLists.{IsPlain}
use Rattle.es_arrow_steps.specs.ThisFits.{reaches_in}
use Rattle.es_valid_steps.specs.ArrowNodes.{is_arrow_accessor, is_kind_within, is_this_within}
use Rattle.es_conditions.proofs.Marks.{first-of, second-of}
use Rattle.es_valid_arrows.specs.ArrowPlaces.{arrow_in, is_outer, is_wrapped_slot, parameter_in}
use Rattle.es_valid_arrows.proofs.Fits.{ArrowsFit, ArrowsFitAll, ArrowsFitBy, ArrowsFitIn}
use Rattle.es_valid_arrows.proofs.Nested.{nested}
use Rattle.es_valid_arrows.proofs.Wide.{IsListed}
use Rattle.es_valid_arrows.proofs.WrappedParts.{is_seen}

-- OUT OF AN ARROW

lower-own : (outer accessor b c : Bool) → (c ≡ true → b ≡ true) → ((outer && b) || accessor) ≡ false → ((outer && c) || accessor) ≡ false
lower-own false accessor b c h e = e
lower-own true accessor b false h e = second b accessor e
  where
    second : (b a : Bool) → (b || a) ≡ false → a ≡ false
    second true a e = absurd (cc e)
    second false a e = e
lower-own true accessor b true h e = absurd (let d = h refl in cc (e, d))

lower-state : (slot keeps own b c : Bool) → (c ≡ true → b ≡ true) → (slot || (not keeps && (own || c))) ≡ true → (slot || (not keeps && (own || b))) ≡ true
lower-state true keeps own b c h e = refl
lower-state false true own b c h e = absurd (cc e)
lower-state false false true b c h e = refl
lower-state false false false b c h e = h e

module _ (o : EnvOptions) where
  lower-at : (b c parameter : Bool) → (c ≡ true → b ≡ true) → (a : Ancestor) (f : Field) → arrow_in o c parameter a f ≡ true → arrow_in o b parameter a f ≡ true
  lower-at b c parameter h a f e = lower-state (is_wrapped_slot o parameter a f) (keeps_this a) (same_type a.kind ArrowFunctionExpression) b c h e

  mutual
    -- where less belongs to an arrow
    pub lower : (b c parameter reaches : Bool) → (c ≡ true → b ≡ true) → (t : Tree) → ArrowsFit o b parameter reaches t → ArrowsFit o c parameter reaches t
    lower b c parameter reaches h (node k l fs) f =
        (lower-own (is_outer reaches k l fs) (is_arrow_accessor k l fs) b c h f.0, lower-in (λ i f. arrow_in o b parameter (ancestor k l done i 0) f) (λ i f. arrow_in o c parameter (ancestor k l done i 0) f) (λ i. parameter_in parameter (ancestor k l done i 0)) (λ i. reaches_in reaches (ancestor k l done i 0)) (λ i f. lower-at b c parameter h (ancestor k l done i 0) f) fs f.1)

    lower-in : (bs cs : ℕ → Field → Bool) (parameters reaches : ℕ → Bool) → ((i : ℕ) (f : Field) → cs i f ≡ true → bs i f ≡ true) → (fs : Fields) → ArrowsFitIn o bs parameters reaches fs → ArrowsFitIn o cs parameters reaches fs
    lower-in bs cs parameters reaches h done f = tt
    lower-in bs cs parameters reaches h (x then fs) f =
        (lower-by (bs zero x) (cs zero x) (parameters zero) (reaches zero) (h zero x) x f.0, lower-in (λ i. bs (suc i)) (λ i. cs (suc i)) (λ i. parameters (suc i)) (λ i. reaches (suc i)) (λ i. h (suc i)) fs f.1)

    pub lower-by : (b c parameter reaches : Bool) → (c ≡ true → b ≡ true) → (x : Field) → ArrowsFitBy o b parameter reaches x → ArrowsFitBy o c parameter reaches x
    lower-by b c parameter reaches h missing f = tt
    lower-by b c parameter reaches h (one t) f = lower b c parameter reaches h t f
    lower-by b c parameter reaches h (many ts) f = lower-all b c parameter reaches h ts f
    lower-by b c parameter reaches h (statements ts) f = lower-all b c parameter reaches h ts f

    pub lower-all : (b c parameter reaches : Bool) → (c ≡ true → b ≡ true) → (ts : Trees) → ArrowsFitAll o b parameter reaches ts → ArrowsFitAll o c parameter reaches ts
    lower-all b c parameter reaches h empty f = tt
    lower-all b c parameter reaches h (t before ts) f = (lower b c parameter reaches h t f.0, lower-all b c parameter reaches h ts f.1)

-- WHERE NO `this` STANDS it doesn't matter whether one would reach its target

own-anywhere : (r q : Bool) (k : AstType) (l : Label) (fs : Fields) → same_type k ThisExpression ≡ false → is_outer r k l fs ≡ is_outer q k l fs
own-anywhere r q ThisExpression l fs e = absurd (cc e)
own-anywhere r q Super l fs e = refl
own-anywhere r q UnaryExpression l fs e = refl
own-anywhere r q _ l fs e = refl

-- nothing stands beyond the value of a class field
not-nested : (j : AstType) → ((not (same_type j FunctionBody) || false) && not (same_type j Program) && false) ≡ true → ⊥
not-nested j h = at (not (same_type j FunctionBody) || false) (not (same_type j Program)) h
  where
    at : (a b : Bool) → (a && b && false) ≡ true → ⊥
    at true true h = absurd (cc h)
    at true false h = absurd (cc h)
    at false b h = absurd (cc h)

-- of each field: it's the same of it, or no `this` stands in it
abbrev Free : (ℕ → Bool) → (ℕ → Bool) → Fields → Type 0
Free rs qs done = Unit {0}
Free rs qs (f then fs) = ((rs zero ≡ qs zero) ⊎ (this_in_field f ≡ false)) × Free (λ i. rs (suc i)) (λ i. qs (suc i)) fs

same-free : (rs qs : ℕ → Bool) → ((i : ℕ) → rs i ≡ qs i) → (fs : Fields) → Free rs qs fs
same-free rs qs same done = tt
same-free rs qs same (f then fs) = (inl (same zero), same-free (λ i. rs (suc i)) (λ i. qs (suc i)) (λ i. same (suc i)) fs)

none-free : (rs qs : ℕ → Bool) (fs : Fields) → this_in_fields false fs ≡ false → Free rs qs fs
none-free rs qs done e = tt
none-free rs qs (f then fs) e = (inr (first-of (this_in_field f) _ e), none-free (λ i. rs (suc i)) (λ i. qs (suc i)) fs (second-of (this_in_field f) _ e))

gone-by : (i : ℕ) (last : Bool) (f : Field) → EdgesBy nested PropertyDefinition (suc (suc i)) last f → this_in_field f ≡ false
gone-by i last missing h = refl
gone-by i last (one (node k l fs)) h = absurd (not-nested k h.0)
gone-by i last (many empty) h = refl
gone-by i last (many (node k l fs before ts)) h = absurd (not-nested k h.0.0)
gone-by i last (statements empty) h = refl
gone-by i last (statements (node k l fs before ts)) h = absurd (not-nested k h.0.0)

gone-free : (rs qs : ℕ → Bool) (i : ℕ) (fs : Fields) → EdgesIn nested PropertyDefinition (suc (suc i)) fs → Free rs qs fs
gone-free rs qs i done h = tt
gone-free rs qs i (f then fs) h = (inr (gone-by i (is_last fs) f h.0), gone-free (λ j. rs (suc j)) (λ j. qs (suc j)) (suc i) fs h.1)

-- of a class field only the key counts
key-free : (r q : Bool) (l : Label) (fs : Fields) → this_in_fields true fs ≡ false → EdgesIn nested PropertyDefinition 0 fs → Free (λ i. reaches_in r (ancestor PropertyDefinition l done i 0)) (λ i. reaches_in q (ancestor PropertyDefinition l done i 0)) fs
key-free r q l done e h = tt
key-free r q l (f then done) e h = (inr (first-of (this_in_field f) _ e), tt)
key-free r q l (f then (g then fs)) e h = (inr (first-of (this_in_field f) _ e), (inl refl, gone-free _ _ 0 fs h.1.1))

fields-free : (r q : Bool) (k : AstType) (l : Label) (fs : Fields) → has_this (node k l fs) ≡ false → EdgesIn nested k 0 fs → Free (λ i. reaches_in r (ancestor k l done i 0)) (λ i. reaches_in q (ancestor k l done i 0)) fs
fields-free r q FunctionDeclaration l fs e h = same-free _ _ (λ i. refl) fs
fields-free r q FunctionExpression l fs e h = same-free _ _ (λ i. refl) fs
fields-free r q StaticBlock l fs e h = same-free _ _ (λ i. refl) fs
fields-free r q PropertyDefinition l fs e h = key-free r q l fs e h
fields-free r q ThisExpression l fs e h = absurd (cc e)
fields-free r q _ l fs e h = none-free _ _ fs e

module _ (o : EnvOptions) where
  mutual
    pub anywhere : (b parameter r q : Bool) (k : AstType) (i : ℕ) (last : Bool) (t : Tree) → Edges nested k i last t → has_this t ≡ false → ArrowsFit o b parameter r t → ArrowsFit o b parameter q t
    anywhere b parameter r q above i last (node k l fs) edges none f =
        (ap (λ outer. (outer && b) || is_arrow_accessor k l fs) (own-anywhere q r k l fs (first-of (same_type k ThisExpression) _ none)) ∙ f.0, anywhere-in (λ i f. arrow_in o b parameter (ancestor k l done i 0) f) (λ i. parameter_in parameter (ancestor k l done i 0)) (λ i. reaches_in r (ancestor k l done i 0)) (λ i. reaches_in q (ancestor k l done i 0)) k 0 fs edges.1 (fields-free r q k l fs none edges.1) f.1)

    anywhere-in : (arrows : ℕ → Field → Bool) (parameters rs qs : ℕ → Bool) (k : AstType) (i : ℕ) (fs : Fields) → EdgesIn nested k i fs → Free rs qs fs → ArrowsFitIn o arrows parameters rs fs → ArrowsFitIn o arrows parameters qs fs
    anywhere-in arrows parameters rs qs k i done edges free f = tt
    anywhere-in arrows parameters rs qs k i (x then fs) edges free f =
        (anywhere-by (arrows zero x) (parameters zero) (rs zero) (qs zero) k i (is_last fs) x edges.0 free.0 f.0, anywhere-in (λ i. arrows (suc i)) (λ i. parameters (suc i)) (λ i. rs (suc i)) (λ i. qs (suc i)) k (suc i) fs edges.1 free.1 f.1)

    anywhere-by : (b parameter r q : Bool) (k : AstType) (i : ℕ) (last : Bool) (x : Field) → EdgesBy nested k i last x → (r ≡ q) ⊎ (this_in_field x ≡ false) → ArrowsFitBy o b parameter r x → ArrowsFitBy o b parameter q x
    anywhere-by b parameter r q k i last x edges (inl e) f = subst (λ (z : Bool). ArrowsFitBy o b parameter z x) e f
    anywhere-by b parameter r q k i last missing edges (inr e) f = tt
    anywhere-by b parameter r q k i last (one t) edges (inr e) f = anywhere b parameter r q k i last t edges e f
    anywhere-by b parameter r q k i last (many ts) edges (inr e) f = anywhere-all b parameter r q k i ts edges e f
    anywhere-by b parameter r q k i last (statements ts) edges (inr e) f = anywhere-all b parameter r q k i ts edges e f

    pub anywhere-all : (b parameter r q : Bool) (k : AstType) (i : ℕ) (ts : Trees) → EdgesAll nested k i ts → this_in_trees ts ≡ false → ArrowsFitAll o b parameter r ts → ArrowsFitAll o b parameter q ts
    anywhere-all b parameter r q k i empty edges none f = tt
    anywhere-all b parameter r q k i (t before ts) edges none f = (anywhere b parameter r q k i false t edges.0 (first-of (has_this t) _ none) f.0, anywhere-all b parameter r q k i ts edges.1 (second-of (has_this t) _ none) f.1)

-- WHAT IS NO PATTERN is the same among parameters

abbrev pub is_pattern : AstType → Bool
is_pattern ArrayPattern = true
is_pattern AssignmentPattern = true
is_pattern ObjectPattern = true
is_pattern PatternProperty = true
is_pattern RestElement = true
is_pattern _ = false

module _ (o : EnvOptions) (arrow p q reaches : Bool) (l : Label) where
  apart-states : (k : AstType) → is_pattern k ≡ false → (i : ℕ) (f : Field) → arrow_in o arrow p (ancestor k l done i 0) f ≡ arrow_in o arrow q (ancestor k l done i 0) f
  apart-states ArrayPattern e i f = absurd (cc e)
  apart-states AssignmentPattern e i f = absurd (cc e)
  apart-states ObjectPattern e i f = absurd (cc e)
  apart-states PatternProperty e i f = absurd (cc e)
  apart-states RestElement e i f = absurd (cc e)
  apart-states _ e i f = refl

  apart-parameters : (k : AstType) → is_pattern k ≡ false → (i : ℕ) → parameter_in p (ancestor k l done i 0) ≡ parameter_in q (ancestor k l done i 0)
  apart-parameters ArrayPattern e i = absurd (cc e)
  apart-parameters AssignmentPattern e i = absurd (cc e)
  apart-parameters ObjectPattern e i = absurd (cc e)
  apart-parameters PatternProperty e i = absurd (cc e)
  apart-parameters RestElement e i = absurd (cc e)
  apart-parameters _ e i = refl

  pub apart-fits : (k : AstType) (fs : Fields) → is_pattern k ≡ false → ArrowsFit o arrow p reaches (node k l fs) → ArrowsFit o arrow q reaches (node k l fs)
  apart-fits k fs e f =
      let reached : ℕ → Bool = λ i. reaches_in reaches (ancestor k l done i 0) in
      (f.0, subst (λ (bs : ℕ → Field → Bool). ArrowsFitIn o bs (λ i. parameter_in q (ancestor k l done i 0)) reached fs) (λ j i f. apart-states k e i f j) (subst (λ (ps : ℕ → Bool). ArrowsFitIn o (λ i f. arrow_in o arrow p (ancestor k l done i 0) f) ps reached fs) (λ j i. apart-parameters k e i j) f.1))

-- LISTS

module _ (o : EnvOptions) (arrow parameter reaches : Bool) where
  abbrev All : Trees → Type 0
  All ts = ArrowsFitAll o arrow parameter reaches ts

  pub joined-fit : (xs ts : Trees) → All xs → All ts → All (joined_trees xs ts)
  joined-fit empty ts h k = k
  joined-fit (x before xs) ts h k = (h.0, joined-fit xs ts h.1 k)

  pub fit-joined : (xs ts : Trees) → All (joined_trees xs ts) → All xs × All ts
  fit-joined empty ts h = (tt, h)
  fit-joined (x before xs) ts h = let k = fit-joined xs ts h.1 in ((h.0, k.0), k.1)

  pub appended-fit : (xs ys : List Tree) → All (trees xs) → All (trees ys) → All (trees (xs ++ ys))
  appended-fit [] ys h k = k
  appended-fit (x ∷ xs) ys h k = (h.0, appended-fit xs ys h.1 k)

  after-fit : (bs ts : Trees) → All bs → All ts → All (after_imports bs ts)
  after-fit bs empty h k = h
  after-fit bs (t before ts) h k = at (is_import t) (after-fit bs ts h k.1)
    where
      at : (v : Bool) → All (after_imports bs ts) → All (if v then t before after_imports bs ts else joined_trees bs (t before ts))
      at true rest = (k.0, rest)
      at false rest = joined-fit bs (t before ts) h k

  before-fit : (bs ts : Trees) → All (after_imports bs ts) → All bs
  before-fit bs empty h = h
  before-fit bs (t before ts) h = at (is_import t) (λ k. before-fit bs ts k) h
    where
      at : (v : Bool) → (All (after_imports bs ts) → All bs) → All (if v then t before after_imports bs ts else joined_trees bs (t before ts)) → All bs
      at true rest h = rest h.1
      at false rest h = (fit-joined bs (t before ts) h).0

  pub fit-after : (bs ts : Trees) → All (after_imports bs ts) → All ts
  fit-after bs empty h = tt
  fit-after bs (t before ts) h = at (is_import t) (λ k. fit-after bs ts k) h
    where
      at : (v : Bool) → (All (after_imports bs ts) → All ts) → All (if v then t before after_imports bs ts else joined_trees bs (t before ts)) → All (t before ts)
      at true rest h = (h.0, rest h.1)
      at false rest h = (fit-joined bs (t before ts) h).1

-- WHAT IS PENDING

-- where the name of a target is declared its `this` may stand
abbrev pub MayName : Bool → Bool → Option Bound → Type 0
MayName arrow reaches None = Unit {0}
MayName arrow reaches (Some b) = (not reaches && arrow) ≡ false

pub outside-names : (arrow reaches : Bool) (x : Option Bound) → arrow ≡ false → MayName arrow reaches x
outside-names arrow reaches None e = tt
outside-names arrow reaches (Some b) e = and_right (not reaches) arrow e

module _ (o : EnvOptions) (arrow reaches : Bool) where
  declarators-fit : (bs : List Bound) → ArrowsFitAll o arrow false reaches (trees (map declarator bs))
  declarators-fit [] = tt
  declarators-fit (b ∷ bs) = ((refl, ((refl, tt), (tt, tt))), declarators-fit bs)

  declaration-fit : (parameter : Bool) (bs : List Bound) (ts : Trees) → ArrowsFitAll o arrow parameter reaches ts → ArrowsFitAll o arrow parameter reaches (declaration (codes "var") (map declarator bs) ts)
  declaration-fit parameter [] ts h = h
  declaration-fit parameter (b ∷ bs) ts h = ((refl, (declarators-fit (b ∷ bs), tt)), h)

  this-fit : (parameter : Bool) (x : Option Bound) (ts : Trees) → MayName arrow reaches x → ArrowsFitAll o arrow parameter reaches ts → ArrowsFitAll o arrow parameter reaches (with_this x ts)
  this-fit parameter None ts m h = h
  this-fit parameter (Some b) ts m h = ((refl, (((refl, ((refl, tt), ((or_from (not reaches && arrow) false m refl, tt), tt))), tt), tt)), h)

  -- a list with what is pending for it
  pub whole-fit : (parameter : Bool) (p : Pending) (x : Option Bound) (a : Additions) (ts : Trees) → IsListed p x a → MayName arrow reaches x → ArrowsFitAll o arrow parameter reaches ts → ArrowsFitAll o arrow parameter reaches (whole_list p x a ts)
  whole-fit parameter p x a ts h m g =
      subst (λ (p : Pending). ArrowsFitAll o arrow parameter reaches (whole_list p x a ts)) (sym h.vars.are)
      (subst (λ (a : Additions). ArrowsFitAll o arrow parameter reaches (whole_list (with_vars h.vars.names nothing_pending) x a ts)) (sym h.top)
      (after-fit o arrow parameter reaches (with_this x (declaration (codes "var") (map declarator h.vars.names) empty)) ts (this-fit parameter x (declaration (codes "var") (map declarator h.vars.names) empty) m (declaration-fit parameter h.vars.names empty tt)) g))

  -- a name that is pending may be
  pub whole-named : (parameter : Bool) (p : Pending) (x : Option Bound) (a : Additions) (ts : Trees) → IsListed p x a → ArrowsFitAll o arrow parameter reaches (whole_list p x a ts) → MayName arrow reaches x
  whole-named parameter p None a ts h f = tt
  whole-named parameter p (Some b) a ts h f =
      let all_pending = before-fit o arrow parameter reaches (pending_statements p (Some b) a) ts f in
      let named = subst (λ (a : Additions). ArrowsFitAll o arrow parameter reaches (pending_statements p (Some b) a)) h.top all_pending in
      first-of (not reaches && arrow) false named.0.1.0.0.1.1.0.0

  -- the body of an arrow
  with-names : (bs : List Bound) (e : Tree) → ArrowsFit o arrow false reaches e → ArrowsFit o arrow false reaches (written_body (with_vars bs nothing_pending) e)
  with-names [] e h = h
  with-names (b ∷ bs) e h = (refl, (tt, (declaration-fit false (b ∷ bs) (return_node e before empty) ((refl, (h, tt)), tt), tt)))

  without-names : (bs : List Bound) (e : Tree) → ArrowsFit o arrow false reaches (written_body (with_vars bs nothing_pending) e) → ArrowsFit o arrow false reaches e
  without-names [] e h = h
  without-names (b ∷ bs) e h = h.1.1.0.1.0.1.0

  pub body-fit : (p : Pending) (e : Tree) → IsPlain p → ArrowsFit o arrow false reaches e → ArrowsFit o arrow false reaches (written_body p e)
  body-fit p e h k = subst (λ (p : Pending). ArrowsFit o arrow false reaches (written_body p e)) (sym h.are) (with-names h.names e k)

  pub fit-body : (p : Pending) (e : Tree) → IsPlain p → ArrowsFit o arrow false reaches (written_body p e) → ArrowsFit o arrow false reaches e
  fit-body p e h k = without-names h.names e (subst (λ (p : Pending). ArrowsFit o arrow false reaches (written_body p e)) h.are k)

-- PARTS

pub inner-fit : (o : EnvOptions) (arrow reaches : Bool) (t : Tree) → ArrowsFit o arrow false reaches t → ArrowsFit o arrow false reaches (without_parens t)
inner-fit o arrow reaches (node ParenthesizedExpression l (one t then fs)) h = inner-fit o arrow reaches t h.1.0
inner-fit o arrow reaches t h = h

-- WHAT IS SEEN of what a step leaves: it is no `this` in parentheses, and no arrow, where none was

pub record FitSeen (t u : Tree) : Type 0 where
  pub this : is_this_within (Some t) ≡ false → is_this_within (Some u) ≡ false
  pub arrow : is_kind_within ArrowFunctionExpression (Some t) ≡ false → is_kind_within ArrowFunctionExpression (Some u) ≡ false

-- kinds of what rules leave
abbrev pub is_settled : AstType → Bool
is_settled ArrowFunctionExpression = false
is_settled ThisExpression = false
is_settled k = not (is_pattern k || is_seen k)

pub settled-this : (t : Tree) → is_settled (kind_of t) ≡ true → is_this_within (Some t) ≡ false
settled-this (node ParenthesizedExpression l fs) e = absurd (cc e)
settled-this (node ThisExpression l fs) e = absurd (cc e)
settled-this (node _ l fs) e = refl

settled-arrow : (t : Tree) → is_settled (kind_of t) ≡ true → is_kind_within ArrowFunctionExpression (Some t) ≡ false
settled-arrow (node ArrowFunctionExpression l fs) e = absurd (cc e)
settled-arrow (node _ l fs) e = refl

pub settled-seen : (t u : Tree) → is_settled (kind_of u) ≡ true → FitSeen t u
settled-seen t u e = record { this = λ h. settled-this u e; arrow = λ h. settled-arrow u e }

pub settled-pattern : (k : AstType) → is_settled k ≡ true → is_pattern k ≡ false
settled-pattern ArrayPattern e = absurd (cc e)
settled-pattern AssignmentPattern e = absurd (cc e)
settled-pattern ObjectPattern e = absurd (cc e)
settled-pattern PatternProperty e = absurd (cc e)
settled-pattern RestElement e = absurd (cc e)
settled-pattern _ e = refl

pub settled-unseen : (k : AstType) → is_settled k ≡ true → is_seen k ≡ false
settled-unseen BigIntLiteral e = absurd (cc e)
settled-unseen MemberExpression e = absurd (cc e)
settled-unseen ObjectTarget e = absurd (cc e)
settled-unseen ParenthesizedExpression e = absurd (cc e)
settled-unseen PrivateIdentifier e = absurd (cc e)
settled-unseen RestElement e = absurd (cc e)
settled-unseen TargetRest e = absurd (cc e)
settled-unseen _ e = refl
