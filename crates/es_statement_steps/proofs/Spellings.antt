-- Spines of chains by symbols and by names: the same but for the names that rows make, of which the last that was stored may stand on the spine.
use Rattle.std.proofs.Common.{◌≡◌, ◌<◌, ◌≤◌, arith, ℕ, refl, sym, ap, subst, ◌∙◌}
use Rattle.std.proofs.lemmas.Bool.{ne_eqb}
use Rattle.std.proofs.lemmas.Slice.Eq.{bytes_eq-Decides}
use Rattle.std.specs.Prelude.{Bool, true, false, ◌&&◌, ◌||◌, not, Option, Some, None, bytes_eq, is_some, option_map}
use Rattle.es_tree.specs.Bare.{bare, bare_label, bare_trees}
use Rattle.es_tree.specs.Names.{first_text}
use Rattle.es_tree.specs.Parens.{without_parens}
use Rattle.es_tree.specs.References.{is_symbol}
use Rattle.es_tree.specs.Tree.{Tree, node, Label, done, ◌then◌, missing, one, many, statements, Trees}
use Rattle.es_tree.specs.Words.{Text}
use Rattle.es_tree.specs.declared.ast_type.AstType.TheVariants.{CallExpression, ChainExpression, Identifier, MemberExpression, ParenthesizedExpression}
use Rattle.es_runs.specs.Duplication.{has_no_fields}
use Rattle.es_runs.specs.OptionalChaining.{is_eval, is_member, is_super, is_this_or_super, is_name_among as is_name_among_by_name, or_held as or_held_by_name}
use Rattle.es_runs.specs.Runs.{identifier as identifier_called}
use Rattle.es_semantic.specs.RolesOf.{reads, role_at}
use Rattle.es_resolution.specs.Declarations.{Bound, symbol_of}
use Rattle.es_resolution.specs.Named.{IsBelow, Named}
use Rattle.es_resolution.specs.Resolved.{Place, Resolved, place_in}
use Rattle.es_steps.specs.Duplication.{is_among_symbols}
use Rattle.es_steps.specs.Nodes.{identifier}
use Rattle.es_steps.specs.OptionalChaining.{is_held, is_name_among, or_held}
use Rattle.es_statement_steps.proofs.SameSenses.{AllSame, SameSense, call-same, node-same, two-same}

module _ (look : Text → Option ℕ) (used : Text → Bool) (free : ℕ) where
  -- a name of the source: it has the symbol that it finds, below those of made names, and is in use
  pub record OfSource (l : Label) : Type 0 where
    pub found : symbol_of l ≡ look (first_text l.texts)
    pub in_use : used (first_text l.texts) ≡ true
    pub below : IsBelow free (symbol_of l)

  abbrev pub Hung : Tree → Type 0
  Hung (node Identifier l fs) = OfSource l
  Hung (node MemberExpression l (one o then (one k then done))) = Hung o
  Hung (node CallExpression l (one f then (many ts then done))) = Hung f
  Hung (node ParenthesizedExpression l (one t then fs)) = Hung t
  Hung (node ChainExpression l (one t then done)) = Hung t
  Hung t = Unit {0}

  pub hung-parens : (t : Tree) → Hung t → Hung (without_parens t)
  hung-parens (node ParenthesizedExpression l (one t then fs)) h = hung-parens t h
  hung-parens (node ParenthesizedExpression l done) h = h
  hung-parens (node ParenthesizedExpression l (missing then fs)) h = h
  hung-parens (node ParenthesizedExpression l (many ts then fs)) h = h
  hung-parens (node ParenthesizedExpression l (statements ts then fs)) h = h
  hung-parens (node _ l fs) h = h

  -- whatever stands at a place, where names have the symbols that they find there
  pub hung : (p : Place) (t : Tree) → ((x : Text) → p.scope x ≡ look x) → Resolved reads p t → Named used free reads t → Hung t
  hung p (node Identifier l fs) e h g = record { found = h.0 ∙ e (first_text l.texts); in_use = g.0.0; below = g.0.1 }
  hung p (node MemberExpression l (one o then (one k then done))) e h g = hung (place_in p MemberExpression l (role_at reads MemberExpression l (one o then (one k then done))) (one o then (one k then done)) 0) o e h.2.0 g.1.0
  hung p (node CallExpression l (one f then (many ts then done))) e h g = hung (place_in p CallExpression l (role_at reads CallExpression l (one f then (many ts then done))) (one f then (many ts then done)) 0) f e h.2.0 g.1.0
  hung p (node ParenthesizedExpression l (one t then fs)) e h g = hung (place_in p ParenthesizedExpression l (role_at reads ParenthesizedExpression l (one t then fs)) (one t then fs) 0) t e h.2.0 g.1.0
  hung p (node ChainExpression l (one t then done)) e h g = hung (place_in p ChainExpression l (role_at reads ChainExpression l (one t then done)) (one t then done) 0) t e h.2.0 g.1.0
  hung p (node MemberExpression l done) e h g = tt
  hung p (node MemberExpression l (missing then fs)) e h g = tt
  hung p (node MemberExpression l (many ts then fs)) e h g = tt
  hung p (node MemberExpression l (statements ts then fs)) e h g = tt
  hung p (node MemberExpression l (one o then done)) e h g = tt
  hung p (node MemberExpression l (one o then (missing then fs))) e h g = tt
  hung p (node MemberExpression l (one o then (many ts then fs))) e h g = tt
  hung p (node MemberExpression l (one o then (statements ts then fs))) e h g = tt
  hung p (node MemberExpression l (one o then (one k then (f then fs)))) e h g = tt
  hung p (node CallExpression l done) e h g = tt
  hung p (node CallExpression l (missing then fs)) e h g = tt
  hung p (node CallExpression l (many ts then fs)) e h g = tt
  hung p (node CallExpression l (statements ts then fs)) e h g = tt
  hung p (node CallExpression l (one o then done)) e h g = tt
  hung p (node CallExpression l (one o then (missing then fs))) e h g = tt
  hung p (node CallExpression l (one o then (one t then fs))) e h g = tt
  hung p (node CallExpression l (one o then (statements ts then fs))) e h g = tt
  hung p (node CallExpression l (one o then (many ts then (f then fs)))) e h g = tt
  hung p (node ParenthesizedExpression l done) e h g = tt
  hung p (node ParenthesizedExpression l (missing then fs)) e h g = tt
  hung p (node ParenthesizedExpression l (many ts then fs)) e h g = tt
  hung p (node ParenthesizedExpression l (statements ts then fs)) e h g = tt
  hung p (node ChainExpression l done) e h g = tt
  hung p (node ChainExpression l (missing then fs)) e h g = tt
  hung p (node ChainExpression l (many ts then fs)) e h g = tt
  hung p (node ChainExpression l (statements ts then fs)) e h g = tt
  hung p (node ChainExpression l (one t then (f then fs))) e h g = tt
  hung p (node _ l fs) e h g = tt

  -- a spine by symbols, and what it is by names
  pub data Spelled (holder : Option Bound) : Tree → Tree → Type 0 where
    as_source : {t : Tree} → Hung t → Spelled holder t t
    as_holder : {b : Bound} → holder ≡ Some b → Spelled holder (identifier b) (identifier_called b.name)
    at_member : {l : Label} {o u k j : Tree} → Spelled holder o u → SameSense j k → bare j ≡ bare k → Spelled holder (node MemberExpression l (one o then (one k then done))) (node MemberExpression l (one u then (one j then done)))
    at_call : {l : Label} {f g : Tree} {ts us : Trees} → Spelled holder f g → AllSame us ts → bare_trees us ≡ bare_trees ts → Spelled holder (node CallExpression l (one f then (many ts then done))) (node CallExpression l (one g then (many us then done)))

  -- the object and the property of a member
  pub record MemberSpelled (holder : Option Bound) (l : Label) (o k d : Tree) : Type 0 where
    pub object : Tree
    pub property : Tree
    pub is : d ≡ node MemberExpression l (one object then (one property then done))
    pub spelled : Spelled holder o object
    pub same : SameSense property k
    pub same_bare : bare property ≡ bare k

  abbrev MemberParts : Option Bound → Tree → Tree → Type 0
  MemberParts holder (node MemberExpression l (one o then (one k then done))) d = MemberSpelled holder l o k d
  MemberParts holder t d = Unit {0}

  source-parts : (holder : Option Bound) (t : Tree) → Hung t → MemberParts holder t t
  source-parts holder (node MemberExpression l (one o then (one k then done))) h = record { object = o; property = k; is = refl; spelled = as_source h; same = λ p. refl; same_bare = refl }
  source-parts holder (node MemberExpression l done) h = tt
  source-parts holder (node MemberExpression l (missing then fs)) h = tt
  source-parts holder (node MemberExpression l (many ts then fs)) h = tt
  source-parts holder (node MemberExpression l (statements ts then fs)) h = tt
  source-parts holder (node MemberExpression l (one o then done)) h = tt
  source-parts holder (node MemberExpression l (one o then (missing then fs))) h = tt
  source-parts holder (node MemberExpression l (one o then (many ts then fs))) h = tt
  source-parts holder (node MemberExpression l (one o then (statements ts then fs))) h = tt
  source-parts holder (node MemberExpression l (one o then (one k then (f then fs)))) h = tt
  source-parts holder (node _ l fs) h = tt

  module _ {holder : Option Bound} where
    pub spelled-same : {c d : Tree} → Spelled holder c d → SameSense d c
    spelled-same (as_source h) p = refl
    spelled-same (as_holder e) p = refl
    spelled-same (at_member {l = l} {o = o} {u = u} {k = k} {j = j} h g e) p = node-same MemberExpression l (one u then (one j then done)) (one o then (one k then done)) refl refl refl (two-same u o j k (spelled-same h) g) p
    spelled-same (at_call {l = l} {f = f} {g = g} {ts = ts} {us = us} h a e) p = call-same l g f us ts (spelled-same h) a p

    pub spelled-bare : {c d : Tree} → Spelled holder c d → bare d ≡ bare c
    spelled-bare (as_source h) = refl
    spelled-bare (as_holder e) = refl
    spelled-bare (at_member {l = l} h g e) = λ i. node MemberExpression (bare_label l) (one (spelled-bare h i) then (one (e i) then done))
    spelled-bare (at_call {l = l} h a e) = λ i. node CallExpression (bare_label l) (one (spelled-bare h i) then (many (e i) then done))

    pub spelled-parens : {c d : Tree} → Spelled holder c d → Spelled holder (without_parens c) (without_parens d)
    spelled-parens (as_source {t = t} h) = as_source (hung-parens t h)
    spelled-parens (as_holder e) = as_holder e
    spelled-parens (at_member h g e) = at_member h g e
    spelled-parens (at_call h a e) = at_call h a e

    pub spelled-this : {c d : Tree} → Spelled holder c d → is_this_or_super d ≡ is_this_or_super c
    spelled-this (as_source h) = refl
    spelled-this (as_holder e) = refl
    spelled-this (at_member h g e) = refl
    spelled-this (at_call h a e) = refl

    pub spelled-super : {c d : Tree} → Spelled holder c d → is_super d ≡ is_super c
    spelled-super (as_source h) = refl
    spelled-super (as_holder e) = refl
    spelled-super (at_member h g e) = refl
    spelled-super (at_call h a e) = refl

    pub spelled-member : {c d : Tree} → Spelled holder c d → is_member d ≡ is_member c
    spelled-member (as_source h) = refl
    spelled-member (as_holder e) = refl
    spelled-member (at_member h g e) = refl
    spelled-member (at_call h a e) = refl

    parts-of : {c d : Tree} → Spelled holder c d → MemberParts holder c d
    parts-of (as_source {t = t} h) = source-parts holder t h
    parts-of (as_holder e) = tt
    parts-of (at_member {u = u} {j = j} h g e) = record { object = u; property = j; is = refl; spelled = h; same = g; same_bare = e }
    parts-of (at_call h a e) = tt

    pub member-spelled : {c d : Tree} → Spelled holder c d → (l : Label) (o k : Tree) → c ≡ node MemberExpression l (one o then (one k then done)) → MemberSpelled holder l o k d
    member-spelled {d = d} h l o k e = subst (λ (c : Tree). MemberParts holder c d) e (parts-of h)

  -- NAMES

  -- the name that was stored last is none of the source
  pub record IsNewHolder (b : Bound) : Type 0 where
    pub number : ℕ
    pub symbol : b.symbol ≡ Some number
    pub later : free ≤ number
    pub unused : used b.name ≡ false

  abbrev pub HolderNew : Option Bound → Type 0
  HolderNew None = Unit {0}
  HolderNew (Some b) = IsNewHolder b

  abbrev pub called : Option Bound → Option Text
  called h = option_map (λ (b : Bound). b.name) h

  -- where none is stored
  pub alone-bound : {c d : Tree} → Spelled None c d → is_name_among_by_name (λ x. is_some (look x)) d ≡ is_name_among is_some c
  alone-bound (as_source {t = t} h) = at t h
    where
      at : (t : Tree) → Hung t → is_name_among_by_name (λ x. is_some (look x)) t ≡ is_name_among is_some t
      at (node Identifier l fs) h = λ i. (has_no_fields fs && is_some (sym h.found i)) && not (is_eval (first_text l.texts))
      at (node _ l fs) h = refl
  alone-bound (as_holder e) = absurd (cc e)
  alone-bound (at_member h g e) = refl
  alone-bound (at_call h a e) = refl

  module _ (steady : ℕ → Bool) where
    abbrev pub steady_here : Text → Bool
    steady_here x = is_among_symbols steady (look x)

    below-not : (s n : ℕ) (o : Option ℕ) → o ≡ Some n → free ≤ n → IsBelow free (Some s) → is_held o (Some s) ≡ false
    below-not s n None e h g = absurd (cc e)
    below-not s n (Some m) e h g = ne_eqb s m (λ k. let low : s < free = g in let same : ◌≡◌ {A = Option ℕ} (Some m) (Some n) = e in let eq : m ≡ n = cc same in absurd (omega (arith, low, h, eq, k)))

    not-held : (o s : Option ℕ) (n : ℕ) → o ≡ Some n → free ≤ n → IsBelow free s → is_held o s ≡ false
    not-held (Some m) None n e h g = refl
    not-held None None n e h g = refl
    not-held o (Some s) n e h g = below-not s n o e h g

    name-not : (x y : Text) → used x ≡ true → used y ≡ false → bytes_eq x y ≡ false
    name-not x y h g = at (bytes_eq x y) refl
      where
        at : (b : Bool) → bytes_eq x y ≡ b → b ≡ false
        at true e = absurd (let same : x ≡ y = (bytes_eq-Decides x y).0 e in let no : true ≡ false = sym h ∙ (ap used same ∙ g) in cc no)
        at false e = refl

    source-held : (h : Option Bound) → HolderNew h → (l : Label) → OfSource l → or_held_by_name (called h) steady_here (first_text l.texts) ≡ or_held h (is_among_symbols steady) (symbol_of l)
    source-held None new l s = ap (is_among_symbols steady) (sym s.found)
    source-held (Some y) new l s = λ i. ((name-not (first_text l.texts) y.name s.in_use new.unused) ∙ sym (not-held y.symbol (symbol_of l) new.number new.symbol new.later s.below)) i || is_among_symbols steady (sym s.found i)

    own-held : (b : Bound) (n : ℕ) → b.symbol ≡ Some n → is_held b.symbol b.symbol ≡ true
    own-held b n e = rw e (self n)
      where
        self : (n : ℕ) → is_symbol n (Some n) ≡ true
        self n = Rattle.std.proofs.lemmas.Bool.eq-eqb n n refl

    both : (a b c d e : Bool) → a ≡ true → b ≡ true → ((a || c) && e) ≡ ((b || d) && e)
    both true true c d e h g = refl
    both true false c d e h g = absurd (cc g)
    both false b c d e h g = absurd (cc h)

    pub alone-held : {holder : Option Bound} → HolderNew holder → {c d : Tree} → Spelled holder c d → is_name_among_by_name (or_held_by_name (called holder) steady_here) d ≡ is_name_among (or_held holder (is_among_symbols steady)) c
    alone-held {holder} new (as_source {t = t} h) = at t h
      where
        at : (t : Tree) → Hung t → is_name_among_by_name (or_held_by_name (called holder) steady_here) t ≡ is_name_among (or_held holder (is_among_symbols steady)) t
        at (node Identifier l fs) h = λ i. (has_no_fields fs && source-held holder new l h i) && not (is_eval (first_text l.texts))
        at (node _ l fs) h = refl
    alone-held {holder} new (as_holder {b = b} e) = at holder e new
      where
        at : (h : Option Bound) → h ≡ Some b → HolderNew h → is_name_among_by_name (or_held_by_name (called h) steady_here) (identifier_called b.name) ≡ is_name_among (or_held h (is_among_symbols steady)) (identifier b)
        at None e new = absurd (cc e)
        at (Some y) e new =
            let same : y ≡ b = cc e in
            let names : bytes_eq b.name y.name ≡ true = (bytes_eq-Decides b.name y.name).1 (ap (λ (z : Bound). z.name) (sym same)) in
            let symbols : is_held y.symbol b.symbol ≡ true = ap (λ (z : Bound). is_held y.symbol z.symbol) (sym same) ∙ own-held y new.number new.symbol in
            both (bytes_eq b.name y.name) (is_held y.symbol b.symbol) (steady_here b.name) (is_among_symbols steady b.symbol) (not (is_eval b.name)) names symbols
    alone-held new (at_member h g e) = refl
    alone-held new (at_call h a e) = refl
