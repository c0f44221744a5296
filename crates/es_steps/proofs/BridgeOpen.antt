-- Open programs of the core grammar in which each name has its symbol, and what is written into their lists.
use Rattle.std.proofs.Common.{◌≡◌, ℕ, zero, suc, refl, sym, ap, subst, ◌∙◌, List, [], ◌∷◌, map}
use Rattle.std.specs.Prelude.{Bool, true, false, Option, Some, None, codes, if◌then◌else◌}
use Rattle.es_tree.specs.Bare.{bare, bare_trees}
use Rattle.es_tree.specs.Tree.{Tree, node, Label, Fields, done, ◌then◌, Field, missing, one, many, statements, Trees, empty, ◌before◌}
use Rattle.es_tree.specs.Words.{Text}
use Rattle.es_tree.specs.HasForm.{same_type}
use Rattle.es_tree.specs.declared.ast_type.AstType.{AstType}
use Rattle.es_tree.specs.declared.ast_type.AstType.TheVariants.{ArrowFunctionExpression, Identifier, ImportDeclaration, Program, ThisExpression, VariableDeclaration}
use Rattle.es_runs.specs.Duplication.{has_no_fields}
use Rattle.es_runs.specs.Open as plain
use Rattle.es_steps.specs.CoreBridge.{forgotten_pending}
use Rattle.es_steps.specs.Nodes.{joined_trees}
use Rattle.es_steps.specs.Open.{Pending, no_additions, declaration, written, whole_list, after_imports, is_import, Open, open_node, OpenFields, ends, ◌and◌, OpenField, gap, child, body, children, list, OpenTrees, nil, ◌next◌, flanked, is_body, opened, opened_field, opened_fields, opened_trees}
use Rattle.es_steps.proofs.BridgeLinks.{Grows, NameTied, OwnTied, Tied, TiedAll, TiedBy, TiedIn, asks, is_part_kind}
use Rattle.es_steps.proofs.BridgePowers.{EachTied, each-all, each-grows}
use Rattle.es_steps.proofs.BridgeTrees.{trees-bare}

abbrev pub no_open_fields : OpenFields → Bool
no_open_fields ends = true
no_open_fields _ = false

module _ (used : Text → Bool) (look : Text → Option ℕ) where
  abbrev pub PendingTied : Pending → Type 0
  PendingTied p = EachTied used look p.vars × EachTied used look p.lets

  abbrev pub OwnOpen : Bool → AstType → Label → OpenFields → Type 0
  OwnOpen a Identifier l fs = (no_open_fields fs ≡ true) × NameTied used look a l
  OwnOpen a ThisExpression l fs = no_open_fields fs ≡ true
  OwnOpen a k l fs = Unit {0}

  abbrev mutual
    -- nothing is pending but declarators, and no body of an arrow stands anywhere
    pub OpenTied : Bool → Open → Type 0
    OpenTied a (open_node k l fs) = (is_part_kind k ≡ true) × OwnOpen a k l fs × OpenTiedIn (asks a k l) fs

    pub OpenTiedIn : (ℕ → Bool) → OpenFields → Type 0
    OpenTiedIn c ends = Unit {0}
    OpenTiedIn c (f and fs) = OpenTiedBy (c zero) f × OpenTiedIn (λ i. c (suc i)) fs

    pub OpenTiedBy : Bool → OpenField → Type 0
    OpenTiedBy a gap = Unit {0}
    OpenTiedBy a (child t) = OpenTied a t
    OpenTiedBy a (body p t) = ⊥
    OpenTiedBy a (children ts) = OpenTiedAll ts
    OpenTiedBy a (list p x b ts) = PendingTied p × (x ≡ None) × (b ≡ no_additions) × OpenTiedAll ts

    pub OpenTiedAll : OpenTrees → Type 0
    OpenTiedAll nil = Unit {0}
    OpenTiedAll (t next ts) = OpenTied true t × OpenTiedAll ts
    OpenTiedAll (flanked bs t cs ts) = ⊥

module _ (used : Text → Bool) (look : Text → Option ℕ) (more : Text → Bool) (wider : Text → Option ℕ) (grow : Grows used look more wider) where
  name-opens : (a : Bool) (l : Label) → NameTied used look a l → NameTied more wider a l
  name-opens a l h = at a h
    where
      at : (b : Bool) → NameTied used look b l → NameTied more wider b l
      at true k = let g = grow _ k.0 in (g.0, k.1 ∙ sym g.1)
      at false k = tt

  own-opens : (a : Bool) (k : AstType) (l : Label) (fs : OpenFields) → OwnOpen used look a k l fs → OwnOpen more wider a k l fs
  own-opens a Identifier l fs h = (h.0, name-opens a l h.1)
  own-opens a ThisExpression l fs h = h
  own-opens a _ l fs h = tt

  pub pending-grows : (p : Pending) → PendingTied used look p → PendingTied more wider p
  pending-grows p h = (each-grows used look more wider grow p.vars h.0, each-grows used look more wider grow p.lets h.1)

  mutual
    pub open-grows : (a : Bool) (o : Open) → OpenTied used look a o → OpenTied more wider a o
    open-grows a (open_node k l fs) h = (h.0, own-opens a k l fs h.1, open-in-grows (asks a k l) fs h.2)

    pub open-in-grows : (c : ℕ → Bool) (fs : OpenFields) → OpenTiedIn used look c fs → OpenTiedIn more wider c fs
    open-in-grows c ends h = tt
    open-in-grows c (f and fs) h = (open-by-grows (c zero) f h.0, open-in-grows (λ i. c (suc i)) fs h.1)

    pub open-by-grows : (a : Bool) (f : OpenField) → OpenTiedBy used look a f → OpenTiedBy more wider a f
    open-by-grows a gap h = tt
    open-by-grows a (child t) h = open-grows a t h
    open-by-grows a (body p t) h = absurd h
    open-by-grows a (children ts) h = open-all-grows ts h
    open-by-grows a (list p x b ts) h = (pending-grows p h.0, h.1, h.2, open-all-grows ts h.3)

    pub open-all-grows : (ts : OpenTrees) → OpenTiedAll used look ts → OpenTiedAll more wider ts
    open-all-grows nil h = tt
    open-all-grows (t next ts) h = (open-grows true t h.0, open-all-grows ts h.1)
    open-all-grows (flanked bs t cs ts) h = absurd h

-- TREES WITH NOTHING PENDING

no-body : (k : AstType) → is_part_kind k ≡ true → (i : ℕ) → is_body k i ≡ false
no-body ArrowFunctionExpression h i = absurd (cc h)
no-body _ h i = refl

fields-kept : (bodies : ℕ → Bool) (fs : Fields) → no_open_fields (opened_fields bodies fs) ≡ has_no_fields fs
fields-kept bodies done = refl
fields-kept bodies (f then fs) = refl

module _ (used : Text → Bool) (look : Text → Option ℕ) where
  own-opened : (a : Bool) (k : AstType) (l : Label) (fs : Fields) (bodies : ℕ → Bool) → OwnTied used look a k l fs → OwnOpen used look a k l (opened_fields bodies fs)
  own-opened a Identifier l fs bodies h = (fields-kept bodies fs ∙ h.0, h.1)
  own-opened a ThisExpression l fs bodies h = fields-kept bodies fs ∙ h
  own-opened a _ l fs bodies h = tt

  own-back : (a : Bool) (k : AstType) (l : Label) (fs : Fields) (bodies : ℕ → Bool) → OwnOpen used look a k l (opened_fields bodies fs) → OwnTied used look a k l fs
  own-back a Identifier l fs bodies h = (sym (fields-kept bodies fs) ∙ h.0, h.1)
  own-back a ThisExpression l fs bodies h = sym (fields-kept bodies fs) ∙ h
  own-back a _ l fs bodies h = tt

  mutual
    pub opened-tied : (a : Bool) (t : Tree) → Tied used look a t → OpenTied used look a (opened t)
    opened-tied a (node k l fs) h = (h.0, own-opened a k l fs (is_body k) h.1, in-opened (is_body k) (no-body k h.0) (asks a k l) fs h.2)

    pub in-opened : (bodies : ℕ → Bool) → ((i : ℕ) → bodies i ≡ false) → (c : ℕ → Bool) (fs : Fields) → TiedIn used look c fs → OpenTiedIn used look c (opened_fields bodies fs)
    in-opened bodies e c done h = tt
    in-opened bodies e c (f then fs) h = (by-opened (bodies zero) (e zero) (c zero) f h.0, in-opened (λ i. bodies (suc i)) (λ i. e (suc i)) (λ i. c (suc i)) fs h.1)

    by-opened : (b : Bool) → b ≡ false → (a : Bool) (f : Field) → TiedBy used look a f → OpenTiedBy used look a (opened_field b f)
    by-opened true e a f h = absurd (cc e)
    by-opened false e a missing h = tt
    by-opened false e a (one t) h = opened-tied a t h
    by-opened false e a (many ts) h = all-opened ts h
    by-opened false e a (statements ts) h = ((tt, tt), refl, refl, all-opened ts h)

    pub all-opened : (ts : Trees) → TiedAll used look ts → OpenTiedAll used look (opened_trees ts)
    all-opened empty h = tt
    all-opened (t before ts) h = (opened-tied true t h.0, all-opened ts h.1)

  mutual
    pub opened-back : (a : Bool) (t : Tree) → OpenTied used look a (opened t) → Tied used look a t
    opened-back a (node k l fs) h = (h.0, own-back a k l fs (is_body k) h.1, in-back (is_body k) (no-body k h.0) (asks a k l) fs h.2)

    in-back : (bodies : ℕ → Bool) → ((i : ℕ) → bodies i ≡ false) → (c : ℕ → Bool) (fs : Fields) → OpenTiedIn used look c (opened_fields bodies fs) → TiedIn used look c fs
    in-back bodies e c done h = tt
    in-back bodies e c (f then fs) h = (by-back (bodies zero) (e zero) (c zero) f h.0, in-back (λ i. bodies (suc i)) (λ i. e (suc i)) (λ i. c (suc i)) fs h.1)

    by-back : (b : Bool) → b ≡ false → (a : Bool) (f : Field) → OpenTiedBy used look a (opened_field b f) → TiedBy used look a f
    by-back true e a f h = absurd (cc e)
    by-back false e a missing h = tt
    by-back false e a (one t) h = opened-back a t h
    by-back false e a (many ts) h = all-back ts h
    by-back false e a (statements ts) h = all-back ts h.3

    pub all-back : (ts : Trees) → OpenTiedAll used look (opened_trees ts) → TiedAll used look ts
    all-back empty h = tt
    all-back (t before ts) h = (opened-back true t h.0, all-back ts h.1)

  -- WRITING

  import-kind : (k : AstType) → is_part_kind k ≡ true → same_type k ImportDeclaration ≡ false
  import-kind ImportDeclaration h = absurd (cc h)
  import-kind Program h = absurd (cc h)
  import-kind _ h = refl

  no-import : (t : Tree) → Tied used look true t → is_import t ≡ false
  no-import (node k l fs) h = import-kind k h.0

  joined-none : (bs : Trees) → joined_trees bs empty ≡ bs
  joined-none empty = refl
  joined-none (b before bs) = ap (λ cs. b before cs) (joined-none bs)

  after-none : (bs ts : Trees) → TiedAll used look ts → after_imports bs ts ≡ joined_trees bs ts
  after-none bs empty h = sym (joined-none bs)
  after-none bs (t before ts) h = ap (λ c. if c then t before after_imports bs ts else joined_trees bs (t before ts)) (no-import t h.0)

  joined-declaration : (kind : Text) (ds : List Tree) (us ts : Trees) → joined_trees (declaration kind ds us) ts ≡ declaration kind ds (joined_trees us ts)
  joined-declaration kind [] us ts = refl
  joined-declaration kind (d ∷ ds) us ts = refl

  pub list-written : (p : Pending) (ts : Trees) → TiedAll used look ts → whole_list p None no_additions ts ≡ written p ts
  list-written p ts h = after-none (written p empty) ts h ∙ (joined-declaration (codes "var") p.vars (declaration (codes "let") p.lets empty) ts ∙ ap (declaration (codes "var") p.vars) (joined-declaration (codes "let") p.lets empty ts))

  declaration-tied : (kind : Text) (ds : List Tree) (ts : Trees) → EachTied used look ds → TiedAll used look ts → TiedAll used look (declaration kind ds ts)
  declaration-tied kind [] ts h g = g
  declaration-tied kind (d ∷ ds) ts h g = ((refl, tt, (each-all used look (d ∷ ds) h, tt)), g)

  pub list-tied : (p : Pending) (ts : Trees) → PendingTied used look p → TiedAll used look ts → TiedAll used look (whole_list p None no_additions ts)
  list-tied p ts h g = subst (TiedAll used look) (sym (list-written p ts g)) (declaration-tied (codes "var") p.vars (declaration (codes "let") p.lets ts) h.0 (declaration-tied (codes "let") p.lets ts h.1 g))

  declaration-bare : (kind : Text) (ds : List Tree) (ts : Trees) → bare_trees (declaration kind ds ts) ≡ plain.declared kind (map bare ds) (bare_trees ts)
  declaration-bare kind [] ts = refl
  declaration-bare kind (d ∷ ds) ts = ap (λ us. plain_declaration kind us before bare_trees ts) (trees-bare (d ∷ ds))
    where
      plain_declaration : Text → Trees → Tree
      plain_declaration kind us = node VariableDeclaration (record { id = 0; start = 0; stop = 0; texts = Some kind ∷ []; flags = []; marks = [] }) (many us then done)

  pub list-bare : (p : Pending) (ts : Trees) → TiedAll used look ts → bare_trees (whole_list p None no_additions ts) ≡ plain.written (forgotten_pending p) (bare_trees ts)
  list-bare p ts h = ap bare_trees (list-written p ts h) ∙ (declaration-bare (codes "var") p.vars (declaration (codes "let") p.lets ts) ∙ ap (plain.declared (codes "var") (map bare p.vars)) (declaration-bare (codes "let") p.lets ts))
