-- Identifiers that pass a test, in trees and in what is pending.
use Rattle.std.proofs.Common.{◌<◌, ◌≡◌, ℕ, zero, suc, refl, sym, ◌∙◌, List, [], ◌∷◌, ◌++◌}
use Rattle.std.specs.Prelude.{Bool, true, false, ◌&&◌, Option, Some, None, map, codes, if◌then◌else◌}
use Rattle.std.specs.List.{list_all}
use Rattle.std.proofs.lemmas.Slice.Eq.{bytes_eq-Decides}
use Rattle.es_tree.specs.Words.{Text}
use Rattle.es_tree.specs.Names.{first_text}
use Rattle.es_tree.specs.Scopes.{name_in}
use Rattle.es_tree.specs.Tree.{Tree, node, Fields, done, ◌then◌, Field, missing, one, many, statements, Trees, empty, ◌before◌, trees}
use Rattle.es_tree.specs.declared.ast_type.AstType.TheVariants.{Identifier, ClassDeclaration, ClassExpression}
use Rattle.es_semantic.specs.RolesOf.{role_at}
use Rattle.es_semantic.specs.declared.place.Role.{Role}
use Rattle.es_resolution.specs.Called.{HasName, Called, CalledIn, CalledBy, CalledAll}
use Rattle.es_resolution.specs.Declarations.{Bound, symbol_of}
use Rattle.es_resolution.specs.Named.{IsBelow, Named, NamedIn, NamedBy, NamedAll}
use Rattle.es_steps.specs.Identifiers.{Passes, PassesIn, PassesBy, PassesAll, any_name, is_called}
use Rattle.es_steps.specs.Nodes.{declarator, joined_trees}
use Rattle.es_steps.specs.Open.{Pending, Additions, declaration, with_this, import_statement, written, body_with, is_import, after_imports, pending_statements, whole_list, flanks_with, with_vars}
use Rattle.es_resolution.proofs.Basics.{bytes_eq-equal}

-- FROM NAMES OF SYMBOLS AND BACK

module _ (called called' : ℕ → Text) (free : ℕ) (agree : (m : ℕ) → m < free → called' m ≡ called m) (u : Text → Bool) where
  has-passes : (o : Option ℕ) (x : Text) → IsBelow free o → HasName called o x → is_called called' x o ≡ true
  has-passes None x b h = refl
  has-passes (Some m) x b h = (bytes_eq-Decides x (called' m)).1 (h ∙ sym (agree m b))

  passes-has : (o : Option ℕ) (x : Text) → IsBelow free o → is_called called' x o ≡ true → HasName called o x
  passes-has None x b h = tt
  passes-has (Some m) x b h = bytes_eq-equal x (called' m) h ∙ agree m b

  mutual
    pub called-passes : (r : Role) (t : Tree) → Named u free r t → Called called t → Passes any_name t → Passes (is_called called') t
    called-passes r (node Identifier l fs) used h k = (has-passes (symbol_of l) (first_text l.texts) used.0.1 h.0, called-passes-in (role_at r Identifier l fs) fs used.1 h.1 k.1)
    called-passes r (node ClassDeclaration l fs) used h k = ((k.0.0, has-passes (symbol_of l) (name_in fs) used.0.1 h.0), called-passes-in (role_at r ClassDeclaration l fs) fs used.1 h.1 k.1)
    called-passes r (node ClassExpression l fs) used h k = ((k.0.0, has-passes (symbol_of l) (name_in fs) used.0.1 h.0), called-passes-in (role_at r ClassExpression l fs) fs used.1 h.1 k.1)
    called-passes r (node k l fs) used h d = (d.0, called-passes-in (role_at r k l fs) fs used.1 h.1 d.1)

    called-passes-in : (roles : ℕ → Role) (fs : Fields) → NamedIn u free roles fs → CalledIn called fs → PassesIn any_name fs → PassesIn (is_called called') fs
    called-passes-in roles done used h k = tt
    called-passes-in roles (f then fs) used h k = (called-passes-by (roles zero) f used.0 h.0 k.0, called-passes-in (λ i. roles (suc i)) fs used.1 h.1 k.1)

    called-passes-by : (r : Role) (f : Field) → NamedBy u free r f → CalledBy called f → PassesBy any_name f → PassesBy (is_called called') f
    called-passes-by r missing used h k = tt
    called-passes-by r (one t) used h k = called-passes r t used h k
    called-passes-by r (many ts) used h k = called-passes-all r ts used h k
    called-passes-by r (statements ts) used h k = called-passes-all r ts used h k

    called-passes-all : (r : Role) (ts : Trees) → NamedAll u free r ts → CalledAll called ts → PassesAll any_name ts → PassesAll (is_called called') ts
    called-passes-all r empty used h k = tt
    called-passes-all r (t before ts) used h k = (called-passes r t used.0 h.0 k.0, called-passes-all r ts used.1 h.1 k.1)

  mutual
    pub passes-called : (r : Role) (t : Tree) → Named u free r t → Passes (is_called called') t → Called called t
    passes-called r (node Identifier l fs) used h = (passes-has (symbol_of l) (first_text l.texts) used.0.1 h.0, passes-called-in (role_at r Identifier l fs) fs used.1 h.1)
    passes-called r (node ClassDeclaration l fs) used h = (passes-has (symbol_of l) (name_in fs) used.0.1 h.0.1, passes-called-in (role_at r ClassDeclaration l fs) fs used.1 h.1)
    passes-called r (node ClassExpression l fs) used h = (passes-has (symbol_of l) (name_in fs) used.0.1 h.0.1, passes-called-in (role_at r ClassExpression l fs) fs used.1 h.1)
    passes-called r (node k l fs) used h = (h.0, passes-called-in (role_at r k l fs) fs used.1 h.1)

    passes-called-in : (roles : ℕ → Role) (fs : Fields) → NamedIn u free roles fs → PassesIn (is_called called') fs → CalledIn called fs
    passes-called-in roles done used h = tt
    passes-called-in roles (f then fs) used h = (passes-called-by (roles zero) f used.0 h.0, passes-called-in (λ i. roles (suc i)) fs used.1 h.1)

    pub passes-called-by : (r : Role) (f : Field) → NamedBy u free r f → PassesBy (is_called called') f → CalledBy called f
    passes-called-by r missing used h = tt
    passes-called-by r (one t) used h = passes-called r t used h
    passes-called-by r (many ts) used h = passes-called-all r ts used h
    passes-called-by r (statements ts) used h = passes-called-all r ts used h

    pub passes-called-all : (r : Role) (ts : Trees) → NamedAll u free r ts → PassesAll (is_called called') ts → CalledAll called ts
    passes-called-all r empty used h = tt
    passes-called-all r (t before ts) used h = (passes-called r t used.0 h.0, passes-called-all r ts used.1 h.1)

-- a test that asks less
module _ (q p : Text → Option ℕ → Bool) (less : (x : Text) (s : Option ℕ) → q x s ≡ true → p x s ≡ true) where
  mutual
    pub passes-less : (t : Tree) → Passes q t → Passes p t
    passes-less (node Identifier l fs) h = (less (first_text l.texts) (symbol_of l) h.0, passes-less-in fs h.1)
    passes-less (node ClassDeclaration l fs) h = ((h.0.0, less (name_in fs) (symbol_of l) h.0.1), passes-less-in fs h.1)
    passes-less (node ClassExpression l fs) h = ((h.0.0, less (name_in fs) (symbol_of l) h.0.1), passes-less-in fs h.1)
    passes-less (node k l fs) h = (h.0, passes-less-in fs h.1)

    passes-less-in : (fs : Fields) → PassesIn q fs → PassesIn p fs
    passes-less-in done h = tt
    passes-less-in (f then fs) h = (passes-less-by f h.0, passes-less-in fs h.1)

    passes-less-by : (f : Field) → PassesBy q f → PassesBy p f
    passes-less-by missing h = tt
    passes-less-by (one t) h = passes-less t h
    passes-less-by (many ts) h = passes-less-all ts h
    passes-less-by (statements ts) h = passes-less-all ts h

    pub passes-less-all : (ts : Trees) → PassesAll q ts → PassesAll p ts
    passes-less-all empty h = tt
    passes-less-all (t before ts) h = (passes-less t h.0, passes-less-all ts h.1)

-- LISTS

module _ (q : Text → Option ℕ → Bool) where
  pub passes-joined : (xs ts : Trees) → PassesAll q xs → PassesAll q ts → PassesAll q (joined_trees xs ts)
  passes-joined empty ts h k = k
  passes-joined (x before xs) ts h k = (h.0, passes-joined xs ts h.1 k)

  pub joined-passes : (xs ts : Trees) → PassesAll q (joined_trees xs ts) → PassesAll q xs × PassesAll q ts
  joined-passes empty ts h = (tt, h)
  joined-passes (x before xs) ts h = let k = joined-passes xs ts h.1 in ((h.0, k.0), k.1)

  pub passes-after : (bs ts : Trees) → PassesAll q bs → PassesAll q ts → PassesAll q (after_imports bs ts)
  passes-after bs empty h k = h
  passes-after bs (t before ts) h k = at (is_import t) (passes-after bs ts h k.1)
    where
      at : (v : Bool) → PassesAll q (after_imports bs ts) → PassesAll q (if v then t before after_imports bs ts else joined_trees bs (t before ts))
      at true rest = (k.0, rest)
      at false rest = passes-joined bs (t before ts) h k

  pub after-passes : (bs ts : Trees) → PassesAll q (after_imports bs ts) → PassesAll q bs × PassesAll q ts
  after-passes bs empty h = (h, tt)
  after-passes bs (t before ts) h = at (is_import t) (λ k. after-passes bs ts k) h
    where
      at : (v : Bool) → (PassesAll q (after_imports bs ts) → PassesAll q bs × PassesAll q ts) → PassesAll q (if v then t before after_imports bs ts else joined_trees bs (t before ts)) → PassesAll q bs × PassesAll q (t before ts)
      at true rest h = let k = rest h.1 in (k.0, (h.0, k.1))
      at false rest h = joined-passes bs (t before ts) h

  pub passes-flanks : (bs cs : List Tree) (t : Tree) (ts : Trees) → PassesAll q (trees bs) → Passes q t → PassesAll q (trees cs) → PassesAll q ts → PassesAll q (flanks_with bs t cs ts)
  passes-flanks bs cs t ts a b c d = passes-joined (trees bs) (t before joined_trees (trees cs) ts) a (b, passes-joined (trees cs) ts c d)

  pub flanks-pass : (bs cs : List Tree) (t : Tree) (ts : Trees) → PassesAll q (flanks_with bs t cs ts) → (PassesAll q (trees bs) × PassesAll q (trees cs)) × (Passes q t × PassesAll q ts)
  flanks-pass bs cs t ts h =
      let k = joined-passes (trees bs) (t before joined_trees (trees cs) ts) h in
      let m = joined-passes (trees cs) ts k.1.1 in
      ((k.0, m.0), (k.1.0, m.1))

  -- WHAT IS PENDING

  abbrev pub PassesName : Option Bound → Type 0
  PassesName None = Unit {0}
  PassesName (Some b) = q b.name b.symbol ≡ true

  pub record PassesPending (p : Pending) : Type 0 where
    pub vars : PassesAll q (trees p.vars)
    pub lets : PassesAll q (trees p.lets)

  pub record PassesTop (a : Additions) : Type 0 where
    pub imports : PassesAll q (trees (map import_statement a.imports))
    pub excluded : PassesAll q (trees a.excluded)

  passes-declaration : (kind : Text) (ds : List Tree) (ts : Trees) → PassesAll q (trees ds) → PassesAll q ts → PassesAll q (declaration kind ds ts)
  passes-declaration kind [] ts h k = k
  passes-declaration kind (d ∷ ds) ts h k = ((tt, (h, tt)), k)

  declaration-passes : (kind : Text) (ds : List Tree) (ts : Trees) → PassesAll q (declaration kind ds ts) → PassesAll q (trees ds) × PassesAll q ts
  declaration-passes kind [] ts h = (tt, h)
  declaration-passes kind (d ∷ ds) ts h = (h.0.1.0, h.1)

  passes-this : (x : Option Bound) (ts : Trees) → PassesName x → PassesAll q ts → PassesAll q (with_this x ts)
  passes-this None ts h k = k
  passes-this (Some b) ts h k = ((tt, (((tt, ((h, tt), ((tt, tt), tt))), tt), tt)), k)

  this-passes : (x : Option Bound) (ts : Trees) → PassesAll q (with_this x ts) → PassesName x × PassesAll q ts
  this-passes None ts h = (tt, h)
  this-passes (Some b) ts h = (h.0.1.0.0.1.0.0, h.1)

  pub passes-written : (p : Pending) (ts : Trees) → PassesPending p → PassesAll q ts → PassesAll q (written p ts)
  passes-written p ts h k = passes-declaration (codes "var") p.vars (declaration (codes "let") p.lets ts) h.vars (passes-declaration (codes "let") p.lets ts h.lets k)

  pub written-passes : (p : Pending) (ts : Trees) → PassesAll q (written p ts) → PassesPending p × PassesAll q ts
  written-passes p ts h =
      let a = declaration-passes (codes "var") p.vars (declaration (codes "let") p.lets ts) h in
      let b = declaration-passes (codes "let") p.lets ts a.1 in
      (record { vars = a.0; lets = b.0 }, b.1)

  pub passes-whole : (p : Pending) (x : Option Bound) (a : Additions) (ts : Trees) → PassesPending p → PassesName x → PassesTop a → PassesAll q ts → PassesAll q (whole_list p x a ts)
  passes-whole p x a ts h k m d =
      let imports = trees (map import_statement a.imports) in
      passes-after (pending_statements p x a) ts
      (passes-declaration (codes "const") a.excluded (with_this x (joined_trees imports (written p empty))) m.excluded
      (passes-this x (joined_trees imports (written p empty)) k (passes-joined imports (written p empty) m.imports (passes-written p empty h tt)))) d

  pub whole-passes : (p : Pending) (x : Option Bound) (a : Additions) (ts : Trees) → PassesAll q (whole_list p x a ts) → (PassesPending p × PassesName x × PassesTop a) × PassesAll q ts
  whole-passes p x a ts h =
      let imports = trees (map import_statement a.imports) in
      let k = after-passes (pending_statements p x a) ts h in
      let e = declaration-passes (codes "const") a.excluded (with_this x (joined_trees imports (written p empty))) k.0 in
      let t = this-passes x (joined_trees imports (written p empty)) e.1 in
      let i = joined-passes imports (written p empty) t.1 in
      (((written-passes p empty i.1).0, t.0, record { imports = i.0; excluded = e.0 }), k.1)

  pub passes-body : (vs ls : List Tree) (e : Tree) → PassesAll q (trees vs) → PassesAll q (trees ls) → Passes q e → Passes q (body_with vs ls e)
  passes-body [] [] e a b h = h
  passes-body [] (d ∷ ls) e a b h = (tt, (tt, ((((tt, (b, tt)), ((tt, (h, tt)), tt)), tt))))
  passes-body (v ∷ vs) ls e a b h = (tt, (tt, (((tt, (a, tt)), passes-declaration (codes "let") ls _ b ((tt, (h, tt)), tt)), tt)))

  pub body-passes : (vs ls : List Tree) (e : Tree) → Passes q (body_with vs ls e) → (PassesAll q (trees vs) × PassesAll q (trees ls)) × Passes q e
  body-passes [] [] e h = ((tt, tt), h)
  body-passes [] (d ∷ ls) e h = ((tt, h.1.1.0.0.1.0), h.1.1.0.1.0.1.0)
  body-passes (v ∷ vs) ls e h = let k = declaration-passes (codes "let") ls _ h.1.1.0.1 in ((h.1.1.0.0.1.0, k.0), k.1.0.1.0)

  -- new names among the declarators

  pub passes-declarators : (bs : List Bound) → list_all (λ b. q b.name b.symbol) bs ≡ true → PassesAll q (trees (map declarator bs))
  passes-declarators [] h = tt
  passes-declarators (b ∷ bs) h = ((tt, ((first (q b.name b.symbol) (list_all (λ b. q b.name b.symbol) bs) h, tt), (tt, tt))), passes-declarators bs (second (q b.name b.symbol) (list_all (λ b. q b.name b.symbol) bs) h))
    where
      first : (a c : Bool) → (a && c) ≡ true → a ≡ true
      first true c e = refl
      first false c e = e

      second : (a c : Bool) → (a && c) ≡ true → c ≡ true
      second true c e = e
      second false c e = absurd (cc e)

  trees-join : (xs ys : List Tree) → PassesAll q (trees xs) → PassesAll q (trees ys) → PassesAll q (trees (xs ++ ys))
  trees-join [] ys h k = k
  trees-join (x ∷ xs) ys h k = (h.0, trees-join xs ys h.1 k)

  pub passes-vars : (bs : List Bound) (p : Pending) → list_all (λ b. q b.name b.symbol) bs ≡ true → PassesPending p → PassesPending (with_vars bs p)
  passes-vars bs p e h = record { vars = trees-join p.vars (map declarator bs) h.vars (passes-declarators bs e); lets = h.lets }
