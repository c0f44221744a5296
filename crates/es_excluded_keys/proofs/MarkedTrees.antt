-- Names stand for the same lists of a tree that is equal but for ids and marks, whatever symbols they have: what it becomes is equal but for ids and
-- marks, too.
use Rattle.std.proofs.Common.{◌≡◌, ◌∙◌, ℕ, zero, suc, ap, subst, List, [], ◌∷◌, ◌++◌}
use Rattle.std.specs.Prelude.{Bool, true, ◌&&◌, None}
use Rattle.es_tree.specs.Bare.{bare, bare_field, bare_fields, bare_label, bare_trees}
use Rattle.es_tree.specs.Tree.{Tree, node, Label, Fields, done, ◌then◌, Field, missing, one, many, statements, Trees, empty, ◌before◌}
use Rattle.es_tree.specs.declared.ast_type.AstType.{AstType}
use Rattle.es_tree.specs.declared.ast_type.AstType.TheVariants.{CallExpression}
use Rattle.es_resolution.specs.Declarations.{Bound}
use Rattle.es_steps.specs.Nodes.{identifier}
use Rattle.es_excluded_keys.specs.ExcludedKeys.{Shares, SharesAll, SharesBy, SharesIn, leaves_out}
use Rattle.es_excluded_keys.specs.ExcludedKeys.Shares.{keeps, shares}
use Rattle.es_excluded_keys.specs.ExcludedKeys.SharesAll.{next, none}
use Rattle.es_excluded_keys.specs.ExcludedKeys.SharesBy.{at_many, at_none, at_one, at_statements}
use Rattle.es_excluded_keys.specs.ExcludedKeys.SharesIn.{ends, goes}
use Rattle.es_excluded_keys.proofs.TakenCalls.{IsTaken, leaves-alike, taken}
use Rattle.es_excluded_keys.proofs.TakenCalls.IsTaken.{is_taken}

-- THE SAME NAMES, with their symbols or others

abbrev pub SameNames : List Bound → List Bound → Type 0
SameNames [] [] = Unit {0}
SameNames (x ∷ xs) (y ∷ ys) = (x.name ≡ y.name) × SameNames xs ys
SameNames xs ys = ⊥

data Split (xs ys : List Bound) : List Bound → Type 0 where
  splits : (vs ws : List Bound) → SameNames vs xs → SameNames ws ys → Split xs ys (vs ++ ws)

split : (xs ys zs : List Bound) → SameNames zs (xs ++ ys) → Split xs ys zs
split [] ys zs h = splits [] zs tt h
split (x ∷ xs) ys (z ∷ zs) h = at zs (split xs ys zs h.1)
  where
    at : (us : List Bound) → Split xs ys us → Split (x ∷ xs) ys (z ∷ us)
    at _ (splits vs ws a b) = splits (z ∷ vs) ws (h.0, a) b
split (x ∷ xs) ys [] h = absurd h

-- WHAT A TREE BECOMES, and its parts

pub record MarkedTree (deep : Bool) (s : Tree) (ys : List Bound) (u : Tree) : Type 0 where
  pub lists : List Tree
  pub tree : Tree
  pub shared : Shares deep s ys lists tree
  pub same : bare tree ≡ bare u

record MarkedIn (deep : ℕ → Bool) (fs : Fields) (ys : List Bound) (gs : Fields) : Type 0 where
  lists : List Tree
  fields : Fields
  shared : SharesIn deep fs ys lists fields
  same : bare_fields fields ≡ bare_fields gs

record MarkedBy (deep : Bool) (f : Field) (ys : List Bound) (g : Field) : Type 0 where
  lists : List Tree
  field : Field
  shared : SharesBy deep f ys lists field
  same : bare_field field ≡ bare_field g

record MarkedAll (deep : Bool) (ts : Trees) (ys : List Bound) (us : Trees) : Type 0 where
  lists : List Tree
  trees : Trees
  shared : SharesAll deep ts ys lists trees
  same : bare_trees trees ≡ bare_trees us

both-fields : (deep : ℕ → Bool) (f g : Field) (fs gs : Fields) (xs zs ys : List Bound) → Split xs zs ys → ((vs : List Bound) → SameNames vs xs → MarkedBy (deep zero) f vs g) → ((ws : List Bound) → SameNames ws zs → MarkedIn (λ i. deep (suc i)) fs ws gs) → MarkedIn deep (f then fs) ys (g then gs)
both-fields deep f g fs gs xs zs _ (splits vs ws a b) first rest =
    let x = first vs a in
    let y = rest ws b in
    record { lists = x.lists ++ y.lists; fields = x.field then y.fields; shared = goes x.shared y.shared; same = λ i. x.same i then y.same i }

both-trees : (deep : Bool) (t u : Tree) (ts us : Trees) (xs zs ys : List Bound) → Split xs zs ys → ((vs : List Bound) → SameNames vs xs → MarkedTree deep t vs u) → ((ws : List Bound) → SameNames ws zs → MarkedAll deep ts ws us) → MarkedAll deep (t before ts) ys (u before us)
both-trees deep t u ts us xs zs _ (splits vs ws a b) first rest =
    let x = first vs a in
    let y = rest ws b in
    record { lists = x.lists ++ y.lists; trees = x.tree before y.trees; shared = next x.shared y.shared; same = λ i. x.same i before y.same i }

-- a call of which a list is taken
with-name : (l m : Label) (f s ks t : Tree) (x : Bound) (xs : List Bound) (gs : Fields) (ys : List Bound) → IsTaken gs → leaves_out CallExpression m gs ≡ true → bare_label m ≡ bare_label l → bare_fields gs ≡ bare_fields (one f then (many (s before (ks before empty)) then done)) →
    Split xs (x ∷ []) ys → ((r : Tree) (vs : List Bound) → bare r ≡ bare s → SameNames vs xs → MarkedTree true r vs t) → MarkedTree true (node CallExpression m gs) ys (node CallExpression l (one f then (many (t before (identifier x before empty)) then done)))
with-name l m f s ks t x xs _ _ (is_taken g r js a texts) out labels e (splits vs (y ∷ []) c d) source =
    let first : bare g ≡ bare f = cc e in
    let inner = source r vs (cc e) c in
    record {
      lists = inner.lists ++ js ∷ [];
      tree = node CallExpression m (one g then (many (inner.tree before (identifier y before empty)) then done));
      shared = shares y out inner.shared;
      same = λ i. node CallExpression (labels i) (one (first i) then (many (inner.same i before (bare (identifier (record { name = d.0 i; symbol = None })) before empty)) then done));
    }
with-name l m f s ks t x xs _ _ (is_taken g r js a texts) out labels e (splits vs [] c d) source = absurd d
with-name l m f s ks t x xs _ _ (is_taken g r js a texts) out labels e (splits vs (y ∷ (z ∷ zs)) c d) source = absurd d.1

mutual
  pub marked-tree : {deep : Bool} {t u : Tree} {xs : List Bound} {ls : List Tree} → Shares deep t xs ls u → (s : Tree) (ys : List Bound) → bare s ≡ bare t → SameNames ys xs → MarkedTree deep s ys u
  marked-tree (keeps {deep = deep} {k = k} {l = l} {fs = fs} {gs = us} out h) (node j m gs) ys e names =
      let kinds : k ≡ j = cc e in
      let labels : bare_label m ≡ bare_label l = cc e in
      let fields : bare_fields gs ≡ bare_fields fs = cc e in
      let inner = marked-in h gs ys fields names in
      subst (λ (i : AstType). MarkedTree deep (node i m gs) ys (node k l us)) kinds
      (record { lists = inner.lists; tree = node k m inner.fields; shared = keeps (ap (λ b. deep && b) (leaves-alike k l m fs gs labels fields) ∙ out) inner.shared; same = λ i. node k (labels i) (inner.same i) })
  marked-tree (shares {l = l} {f = f} {s = s} {ks = ks} {t = t} {xs = xs} x out h) (node j m gs) ys e names =
      let kinds : CallExpression ≡ j = cc e in
      let labels : bare_label m ≡ bare_label l = cc e in
      let old : Fields = one f then (many (s before (ks before empty)) then done) in
      let fields : bare_fields gs ≡ bare_fields old = cc e in
      let now : leaves_out CallExpression m gs ≡ true = leaves-alike CallExpression l m old gs labels fields ∙ out in
      subst (λ (i : AstType). MarkedTree true (node i m gs) ys (node CallExpression l (one f then (many (t before (identifier x before empty)) then done)))) kinds
      (with-name l m f s ks t x xs gs ys (taken m gs now) now labels fields (split xs (x ∷ []) ys names) (λ r vs d b. marked-tree h r vs d b))

  marked-in : {deep : ℕ → Bool} {fs gs : Fields} {xs : List Bound} {ls : List Tree} → SharesIn deep fs xs ls gs → (hs : Fields) (ys : List Bound) → bare_fields hs ≡ bare_fields fs → SameNames ys xs → MarkedIn deep hs ys gs
  marked-in ends done [] e names = record { lists = []; fields = done; shared = ends; same = λ i. done }
  marked-in ends done (y ∷ ys) e names = absurd names
  marked-in ends (h then hs) ys e names = absurd (cc e)
  marked-in (goes {deep = deep} {f = f} {g = g} {fs = fs} {gs = gs} {xs = xs} {ys = zs} a b) (h then hs) ys e names =
      both-fields deep h g hs gs xs zs ys (split xs zs ys names) (λ vs d. marked-by a h vs (cc e) d) (λ ws d. marked-in b hs ws (cc e) d)
  marked-in (goes a b) done ys e names = absurd (cc e)

  marked-by : {deep : Bool} {f g : Field} {xs : List Bound} {ls : List Tree} → SharesBy deep f xs ls g → (h : Field) (ys : List Bound) → bare_field h ≡ bare_field f → SameNames ys xs → MarkedBy deep h ys g
  marked-by at_none missing [] e names = record { lists = []; field = missing; shared = at_none; same = λ i. missing }
  marked-by at_none missing (y ∷ ys) e names = absurd names
  marked-by at_none h ys e names = absurd (cc e)
  marked-by (at_one a) (one s) ys e names = let r = marked-tree a s ys (cc e) names in record { lists = r.lists; field = one r.tree; shared = at_one r.shared; same = ap (λ z. one z) r.same }
  marked-by (at_one a) h ys e names = absurd (cc e)
  marked-by (at_many a) (many ss) ys e names = let r = marked-all a ss ys (cc e) names in record { lists = r.lists; field = many r.trees; shared = at_many r.shared; same = ap (λ z. many z) r.same }
  marked-by (at_many a) h ys e names = absurd (cc e)
  marked-by (at_statements a) (statements ss) ys e names = let r = marked-all a ss ys (cc e) names in record { lists = r.lists; field = statements r.trees; shared = at_statements r.shared; same = ap (λ z. statements z) r.same }
  marked-by (at_statements a) h ys e names = absurd (cc e)

  marked-all : {deep : Bool} {ts us : Trees} {xs : List Bound} {ls : List Tree} → SharesAll deep ts xs ls us → (ss : Trees) (ys : List Bound) → bare_trees ss ≡ bare_trees ts → SameNames ys xs → MarkedAll deep ss ys us
  marked-all none empty [] e names = record { lists = []; trees = empty; shared = none; same = λ i. empty }
  marked-all none empty (y ∷ ys) e names = absurd names
  marked-all none (s before ss) ys e names = absurd (cc e)
  marked-all (next {deep = deep} {t = t} {u = u} {ts = ts} {us = us} {xs = xs} {ys = zs} a b) (s before ss) ys e names =
      both-trees deep s u ss us xs zs ys (split xs zs ys names) (λ vs d. marked-tree a s vs (cc e) d) (λ ws d. marked-all b ss ws (cc e) d)
  marked-all (next a b) empty ys e names = absurd (cc e)
