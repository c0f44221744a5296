-- Names and symbols of core programs are one question: each name has its symbol wherever it stands, and made names have theirs.
use Rattle.std.proofs.Common.{arith, ◌≡◌, ◌<◌, ◌≤◌, ◌+◌, ℕ, zero, suc, refl, sym, ap, subst, ◌∙◌, List, [], ◌∷◌, ◌++◌, length}
use Rattle.std.proofs.lemmas.Slice.Eq.{bytes_eq-Decides}
use Rattle.std.specs.Prelude.{Bool, true, false, ◌||◌, Option, Some, None, bytes_eq, if◌then◌else◌}
use Rattle.es_tree.specs.Core.{is_core_kind}
use Rattle.es_tree.specs.Fresh.{IsFreshName, also, candidate}
use Rattle.es_tree.specs.Names.{first_text, is_name_place}
use Rattle.es_tree.specs.Tree.{Tree, node, Label, Fields, done, ◌then◌, Field, missing, one, many, statements, Trees, empty, ◌before◌}
use Rattle.es_tree.specs.Words.{Text}
use Rattle.es_tree.specs.declared.ast_type.AstType.{AstType}
use Rattle.es_tree.specs.declared.ast_type.AstType.TheVariants.{Identifier, ParenthesizedExpression, Program, ThisExpression, VariableDeclarator}
use Rattle.es_runs.specs.Duplication.{has_no_fields}
use Rattle.es_runs.specs.NullishCoalescing.{also_all}
use Rattle.es_resolution.specs.Declarations.{Bound, symbol_of}
use Rattle.es_steps.specs.CoreBridge.{names_among}
use Rattle.es_steps.specs.Duplication.{IsNext, is_among_symbols}
use Rattle.es_steps.specs.Rules.{with_made, also_all as also_made}
use Rattle.es_steps.specs.Steps.{Whole}
use Rattle.es_steps.proofs.Nodes.{or_first}

pub bytes_eq-self : (x : Text) → bytes_eq x x ≡ true
bytes_eq-self x = (bytes_eq-Decides x x).1 refl

pub bytes_eq-equal : (a b : Text) → bytes_eq a b ≡ true → a ≡ b
bytes_eq-equal a b h = (bytes_eq-Decides a b).0 h

-- TREES WHOSE NAMES HAVE THEIR SYMBOLS

-- the kinds of nodes inside a core program
abbrev pub is_part_kind : AstType → Bool
is_part_kind Program = false
is_part_kind k = is_core_kind k

-- whether an identifier in this field is a name, where the node stands as one or not
abbrev pub asks : Bool → AstType → Label → ℕ → Bool
asks a ParenthesizedExpression l zero = a
asks a VariableDeclarator l zero = a
asks a k l i = is_name_place k l i

module _ (used : Text → Bool) (look : Text → Option ℕ) where
  abbrev pub NameTied : Bool → Label → Type 0
  NameTied true l = (used (first_text l.texts) ≡ true) × (symbol_of l ≡ look (first_text l.texts))
  NameTied false l = Unit {0}

  abbrev pub OwnTied : Bool → AstType → Label → Fields → Type 0
  OwnTied a Identifier l fs = (has_no_fields fs ≡ true) × NameTied a l
  OwnTied a ThisExpression l fs = has_no_fields fs ≡ true
  OwnTied a k l fs = Unit {0}

  abbrev mutual
    -- a tree of the core grammar in which each name has the symbol that this gives it
    pub Tied : Bool → Tree → Type 0
    Tied a (node k l fs) = (is_part_kind k ≡ true) × OwnTied a k l fs × TiedIn (asks a k l) fs

    pub TiedIn : (ℕ → Bool) → Fields → Type 0
    TiedIn c done = Unit {0}
    TiedIn c (f then fs) = TiedBy (c zero) f × TiedIn (λ i. c (suc i)) fs

    pub TiedBy : Bool → Field → Type 0
    TiedBy a missing = Unit {0}
    TiedBy a (one t) = Tied a t
    TiedBy a (many ts) = TiedAll ts
    TiedBy a (statements ts) = TiedAll ts

    pub TiedAll : Trees → Type 0
    TiedAll empty = Unit {0}
    TiedAll (t before ts) = Tied true t × TiedAll ts

-- more names
abbrev pub Grows : (Text → Bool) → (Text → Option ℕ) → (Text → Bool) → (Text → Option ℕ) → Type 0
Grows used look more wider = (x : Text) → used x ≡ true → (more x ≡ true) × (wider x ≡ look x)

module _ (used : Text → Bool) (look : Text → Option ℕ) (more : Text → Bool) (wider : Text → Option ℕ) (grow : Grows used look more wider) where
  name-grows : (a : Bool) (l : Label) → NameTied used look a l → NameTied more wider a l
  name-grows true l h = let g = grow (first_text l.texts) h.0 in (g.0, h.1 ∙ sym g.1)
  name-grows false l h = tt

  own-grows : (a : Bool) (k : AstType) (l : Label) (fs : Fields) → OwnTied used look a k l fs → OwnTied more wider a k l fs
  own-grows a Identifier l fs h = (h.0, name-grows a l h.1)
  own-grows a ThisExpression l fs h = h
  own-grows a _ l fs h = tt

  mutual
    pub tied-grows : (a : Bool) (t : Tree) → Tied used look a t → Tied more wider a t
    tied-grows a (node k l fs) h = (h.0, own-grows a k l fs h.1, in-grows (asks a k l) fs h.2)

    pub in-grows : (c : ℕ → Bool) (fs : Fields) → TiedIn used look c fs → TiedIn more wider c fs
    in-grows c done h = tt
    in-grows c (f then fs) h = (by-grows (c zero) f h.0, in-grows (λ i. c (suc i)) fs h.1)

    pub by-grows : (a : Bool) (f : Field) → TiedBy used look a f → TiedBy more wider a f
    by-grows a missing h = tt
    by-grows a (one t) h = tied-grows a t h
    by-grows a (many ts) h = all-grows ts h
    by-grows a (statements ts) h = all-grows ts h

    pub all-grows : (ts : Trees) → TiedAll used look ts → TiedAll more wider ts
    all-grows empty h = tt
    all-grows (t before ts) h = (tied-grows true t h.0, all-grows ts h.1)

-- MADE NAMES

abbrev pub look_also : Bound → (Text → Option ℕ) → Text → Option ℕ
look_also b look y = if bytes_eq b.name y then b.symbol else look y

-- with the symbols of these names
abbrev pub look_with : List Bound → (Text → Option ℕ) → Text → Option ℕ
look_with [] look y = look y
look_with (b ∷ bs) look y = look_with bs (look_also b look) y

-- the next temporary, where these names are in use and this is the next free symbol
pub record NextAt (used : Text → Bool) (free : ℕ) (base : Text) (b : Bound) : Type 0 where
  pub fresh : IsFreshName used base b.name
  pub symbol : b.symbol ≡ Some free

pub at-next : {w : Whole} {base : Text} {b : Bound} → IsNext w base b → NextAt w.in_use w.free_symbol base b
at-next h = record { fresh = h.fresh; symbol = h.symbol }

pub record Next (used : Text → Bool) (free : ℕ) (b : Bound) : Type 0 where
  pub base : Text
  pub next : NextAt used free base b

abbrev pub TakesAt : (Text → Bool) → ℕ → List Bound → Type 0
TakesAt used free [] = Unit {0}
TakesAt used free (b ∷ bs) = Next used free b × TakesAt (also b.name used) (free + 1) bs

-- each of the names is the next one when it is taken
abbrev pub Takes : Whole → List Bound → Type 0
Takes w bs = TakesAt w.in_use w.free_symbol bs

pub also_made-both : (xs ys : List Bound) (f : Text → Bool) (y : Text) → also_made ys (also_made xs f) y ≡ also_made (xs ++ ys) f y
also_made-both [] ys f y = refl
also_made-both (x ∷ xs) ys f y = also_made-both xs ys (also x.name f) y

pub takes-both : (xs ys : List Bound) (w : Whole) → Takes w xs → Takes (with_made xs w) ys → Takes w (xs ++ ys)
takes-both xs ys w h g = all xs w.in_use w.free_symbol h g
  where
    all : (xs : List Bound) (used : Text → Bool) (free : ℕ) → TakesAt used free xs → TakesAt (also_made xs used) (free + length xs) ys → TakesAt used free (xs ++ ys)
    all [] used free h g = subst (λ n. TakesAt used n ys) (omega arith) g
    all (b ∷ xs) used free h g = (h.0, all xs (also b.name used) (free + 1) h.1 (subst (λ n. TakesAt (also_made xs (also b.name used)) n ys) (omega arith) g))

-- What is known of the names: the symbol of each in the program's one scope, and which are in use and steady by the tests of
-- es_runs.
pub record LinkedAt (used : Text → Bool) (steady_symbol : ℕ → Bool) (free : ℕ) (look : Text → Option ℕ) (use_by_name steady_by_name : Text → Bool) : Type 0 where
  pub candidates : (b : Text) (n : ℕ) → use_by_name (candidate b n) ≡ used (candidate b n)
  pub steady : (x : Text) → steady_by_name x ≡ is_among_symbols steady_symbol (look x)
  pub named : (x y : Text) (s : ℕ) → look x ≡ Some s → look y ≡ Some s → x ≡ y
  pub below : (x : Text) (s : ℕ) → look x ≡ Some s → s < free
  pub unused : (x : Text) → used x ≡ false → look x ≡ None
  pub later : (s : ℕ) → free ≤ s → steady_symbol s ≡ false

abbrev pub Linked : Whole → (Text → Option ℕ) → (Text → Bool) → (Text → Bool) → Type 0
Linked w look use_by_name steady_by_name = LinkedAt w.in_use w.steady w.free_symbol look use_by_name steady_by_name

some-same : (m n : ℕ) → ◌≡◌ {A = Option ℕ} (Some m) (Some n) → m ≡ n
some-same m n e = cc e

none-some : (n : ℕ) → ◌≡◌ {A = Option ℕ} None (Some n) → ⊥
none-some n e = cc e

module _ (w : Whole) (look : Text → Option ℕ) (u st : Text → Bool) (b : Bound) (base : Text) (next : NextAt w.in_use w.free_symbol base b) where
  unused-before : Linked w look u st → (y : Text) → bytes_eq b.name y ≡ true → look y ≡ None
  unused-before h y e = h.unused y (ap w.in_use (sym (bytes_eq-equal b.name y e)) ∙ next.fresh.free)

  steady-one : Linked w look u st → (y : Text) (c : Bool) → bytes_eq b.name y ≡ c → st y ≡ is_among_symbols w.steady (if c then b.symbol else look y)
  steady-one h y true e =
      h.steady y ∙ (ap (is_among_symbols w.steady) (unused-before h y e) ∙ sym (ap (is_among_symbols w.steady) next.symbol ∙ h.later w.free_symbol (omega arith)))
  steady-one h y false e = h.steady y

  symbol-here : (s : ℕ) → b.symbol ≡ Some s → s ≡ w.free_symbol
  symbol-here s e = some-same s w.free_symbol (sym e ∙ next.symbol)

  below-one : Linked w look u st → (y : Text) (s : ℕ) (c : Bool) → bytes_eq b.name y ≡ c → (if c then b.symbol else look y) ≡ Some s → s < w.free_symbol + 1
  below-one h y s true e d = omega (arith, symbol-here s d)
  below-one h y s false e d = let low : s < w.free_symbol = h.below y s d in omega arith

  apart : Linked w look u st → (y : Text) (s : ℕ) → b.symbol ≡ Some s → look y ≡ Some s → ⊥
  apart h y s e d = let low : s < w.free_symbol = h.below y s d in let same : s ≡ w.free_symbol = symbol-here s e in omega arith

  named-one : Linked w look u st → (y z : Text) (s : ℕ) (c d : Bool) → bytes_eq b.name y ≡ c → bytes_eq b.name z ≡ d → (if c then b.symbol else look y) ≡ Some s → (if d then b.symbol else look z) ≡ Some s → y ≡ z
  named-one h y z s true true e f i j = sym (bytes_eq-equal b.name y e) ∙ bytes_eq-equal b.name z f
  named-one h y z s true false e f i j = absurd (apart h z s i j)
  named-one h y z s false true e f i j = absurd (apart h y s j i)
  named-one h y z s false false e f i j = h.named y z s i j

  unused-one : Linked w look u st → (y : Text) (c : Bool) → bytes_eq b.name y ≡ c → (w.in_use y || c) ≡ false → (if c then b.symbol else look y) ≡ None
  unused-one h y true e d = absurd (at (w.in_use y) d)
    where
      at : (a : Bool) → (a || true) ≡ false → ⊥
      at true k = cc k
      at false k = cc k
  unused-one h y false e d = h.unused y (or_first (w.in_use y) false d)

  pub link-one : Linked w look u st → Linked (with_made (b ∷ []) w) (look_also b look) (also b.name u) st
  link-one h = record {
    candidates = λ c n. ap (λ a. a || bytes_eq b.name (candidate c n)) (h.candidates c n);
    steady = λ y. steady-one h y (bytes_eq b.name y) refl;
    named = λ y z s. named-one h y z s (bytes_eq b.name y) (bytes_eq b.name z) refl refl;
    below = λ y s. below-one h y s (bytes_eq b.name y) refl;
    unused = λ y e. unused-one h y (bytes_eq b.name y) refl e;
    later = λ s e. h.later s (let more : w.free_symbol + 1 ≤ s = e in omega arith);
  }

  used-one : (y : Text) (c : Bool) → bytes_eq b.name y ≡ c → w.in_use y ≡ true → ((w.in_use y || c) ≡ true) × ((if c then b.symbol else look y) ≡ look y)
  used-one y true e d = absurd (let no : true ≡ false = sym d ∙ (ap w.in_use (sym (bytes_eq-equal b.name y e)) ∙ next.fresh.free) in cc no)
  used-one y false e d = (rw d refl, refl)

  pub grow-one : Grows w.in_use look (with_made (b ∷ []) w).in_use (look_also b look)
  grow-one y d = used-one y (bytes_eq b.name y) refl d

  -- the name itself
  own-one : (c : Bool) → c ≡ true → ((w.in_use b.name || c) ≡ true) × (b.symbol ≡ (if c then b.symbol else look b.name))
  own-one true e = (at (w.in_use b.name), refl)
    where
      at : (a : Bool) → (a || true) ≡ true
      at true = refl
      at false = refl
  own-one false e = absurd (cc e)

  pub name-one : ((with_made (b ∷ []) w).in_use b.name ≡ true) × (b.symbol ≡ look_also b look b.name)
  name-one = own-one (bytes_eq b.name b.name) (bytes_eq-self b.name)

pub link-all : (bs : List Bound) (w : Whole) (look : Text → Option ℕ) (u st : Text → Bool) → Takes w bs → Linked w look u st → Linked (with_made bs w) (look_with bs look) (also_all (names_among bs) u) st
link-all [] w look u st h k = subst (λ n. LinkedAt w.in_use w.steady n look u st) (omega arith) k
link-all (b ∷ bs) w look u st h k =
    subst (λ n. LinkedAt (also_made bs (also b.name w.in_use)) w.steady n (look_with (b ∷ bs) look) (also_all (names_among (b ∷ bs)) u) st) (omega arith)
    (link-all bs (with_made (b ∷ []) w) (look_also b look) (also b.name u) st h.1 (link-one w look u st b h.0.base h.0.next k))

pub grow-all : (bs : List Bound) (w : Whole) (look : Text → Option ℕ) → Takes w bs → Grows w.in_use look (with_made bs w).in_use (look_with bs look)
grow-all [] w look h y d = (d, refl)
grow-all (b ∷ bs) w look h y d =
    let here = grow-one w look (λ x. true) (λ x. true) b h.0.base h.0.next y d in
    let rest = grow-all bs (with_made (b ∷ []) w) (look_also b look) h.1 y here.0 in
    (rest.0, rest.1 ∙ here.1)

-- FRESH NAMES

pub fresh-same : (w : Whole) (look : Text → Option ℕ) (u st : Text → Bool) → Linked w look u st → (b : Bound) (base other : Text) → other ≡ base → IsNext w base b → IsFreshName u other b.name
fresh-same w look u st h b base other e next =
    let f = next.fresh in
    record {
      number = f.number;
      name = f.name ∙ ap (λ c. candidate c f.number) (sym e);
      free = ap u f.name ∙ (h.candidates base f.number ∙ (ap w.in_use (sym f.name) ∙ f.free));
      first = λ m l. ap (λ c. u (candidate c m)) e ∙ (h.candidates base m ∙ f.first m l);
    }
