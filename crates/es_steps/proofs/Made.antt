-- What a row makes consists of the parts of what stood there, of temporaries, and of words that refer to nothing. Where each
-- part fits, so does what is made of them; and a row whose node fits, declares the same and binds the same is lawful.
use Rattle.std.proofs.Common.{arith, ◌≡◌, ℕ, refl, sym, ◌∙◌, List, [], ◌∷◌, ◌++◌}
use Rattle.std.specs.Prelude.{Bool, true, false, Option, Some, None, codes, if◌then◌else◌}
use Rattle.std.specs.List.{list_all}
use Rattle.es_tree.specs.Words.{Text}
use Rattle.es_tree.specs.Names.{first_text, has_computed}
use Rattle.es_tree.specs.Parens.{without_parens}
use Rattle.es_tree.specs.Tree.{Tree, node, Label, Fields, done, ◌then◌, one, many, Trees, empty, ◌before◌, trees, kind_of}
use Rattle.es_tree.specs.declared.ast_type.AstType.TheVariants.{AssignmentExpression, BinaryExpression, CallExpression, ChainExpression, ConditionalExpression, Identifier, LogicalExpression, MemberExpression, ParenthesizedExpression, SequenceExpression, UnaryExpression}
use Rattle.es_semantic.specs.RolesOf.{reads, target_of}
use Rattle.es_scope.specs.declared.flags.ReferenceFlags.{ReferenceFlags}
use Rattle.es_semantic.specs.declared.place.Role.{Role}
use Rattle.es_semantic.specs.declared.place.Role.TheVariants.{Nothing, Refers}
use Rattle.es_runs.specs.Duplication.{has_no_fields}
use Rattle.es_runs.specs.Exponentiation.{string_node}
use Rattle.es_runs.specs.OptionalChaining.{this_node, true_node}
use Rattle.es_runs.specs.Rules.{assign_node, null_node, tested, void_zero_node}
use Rattle.es_resolution.specs.Declarations.{Bound, symbol_of, is_var_scope, declared}
use Rattle.es_resolution.specs.Resolved.{Place, no_name, own_of, Resolved, ResolvedAll}
use Rattle.es_resolution.specs.Named.{IsBelow, Named, NamedAll}
use Rattle.es_resolution.specs.Single.{scopes_with}
use Rattle.es_steps.specs.Duplication.{is_alone}
use Rattle.es_steps.specs.Identifiers.{Passes, PassesAll}
use Rattle.es_steps.specs.Nodes.{made, identifier, word}
use Rattle.es_steps.specs.Open.{is_import}
use Rattle.es_steps.specs.Steps.{Whole, Site}
use Rattle.es_steps.proofs.Kept.{Known, plain, Agree, Sees}
use Rattle.es_resolution.proofs.MoreNames.{named-more}
use Rattle.es_steps.proofs.RuleLaws.{NodeLaw}
use Rattle.es_steps.proofs.Same.{same}
use Rattle.es_steps.proofs.Scopes.{no-scopes}
use Rattle.es_steps.proofs.Temporaries.{AreTaken, IsSeen, knowing, taken-found, taken-fresh, taken-range}
use Rattle.es_steps.proofs.Written.{body_place, nil-right}

-- where a row stands before and after, as the rule was told of it
pub record Stands (n : Known) (b p q : Place) : Type 0 where
  pub agree : Agree n p q
  pub sees : Sees n q
  pub looks : p.scope ≡ b.scope

-- what stood there, in its role
pub record Source : Type 0 where
  pub role : Role
  pub tree : Tree

abbrev pub standing : Site → Tree → Source
standing n t = record { role = n.role; tree = t }

-- A tree fits afterwards, in this role, wherever what stood there did: its names are in use, it is resolved, and its identifiers
-- stood there, are words, or are new.
pub record Fits (n : Known) (b : Place) (source : Source) (r : Role) (u : Tree) : Type 0 where
  pub named : Named n.in_use n.free source.role source.tree → Named n.in_use_after n.free_after r u
  pub resolved : (p q : Place) → Stands n b p q → Named n.in_use n.free source.role source.tree → Resolved source.role p source.tree → Resolved r (body_place q) u
  pub passes : (q : Text → Option ℕ → Bool) → ((x : Text) → q x None ≡ true) → list_all (λ c. q c.name c.symbol) n.given ≡ true → Passes q source.tree → Passes q u

-- a key is read where it is computed, and else is a word
abbrev pub key_role : Label → Role
key_role l = if has_computed MemberExpression l.flags then reads else Nothing

module _ (n : Known) (b : Place) (source : Source) where
  abbrev pub AllFit : List Tree → Type 0
  AllFit [] = Unit {0}
  AllFit (t ∷ ts) = Fits n b source reads t × AllFit ts

  pub both-fit : (ts us : List Tree) → AllFit ts → AllFit us → AllFit (ts ++ us)
  both-fit [] us h k = k
  both-fit (t ∷ ts) us h k = (h.0, both-fit ts us h.1 k)

  -- the symbol of a label of what stood there is below
  abbrev pub LabelFits : Label → Type 0
  LabelFits m = Named n.in_use n.free source.role source.tree → IsBelow n.free_after (symbol_of m)

  -- PARTS

  pub part : (r : Role) (t : Tree) → (Named n.in_use n.free source.role source.tree → Named n.in_use n.free r t) → ((p : Place) → Resolved source.role p source.tree → Resolved r (body_place p) t) → ((q : Text → Option ℕ → Bool) → Passes q source.tree → Passes q t) → Fits n b source r t
  part r t used d pass = record {
    named = λ h. named-more n.in_use n.in_use_after n.more n.free n.free_after n.freer r t (used h);
    resolved = λ p q a h s. (same (plain n) (body_place p) r t (used h)).resolved (body_place p) (body_place q) (record { scope = a.agree.scope; hoist = a.agree.hoist }) (λ e. record { used = λ y u. refl; new = λ f y o g. refl }) tt (record { scope = refl; parameters = λ e. refl }) (d p s);
    passes = λ q words new h. pass q h;
  }

  pub temporary : (f : ReferenceFlags) (c : Bound) → IsSeen n c → Fits n b source (Refers f) (identifier c)
  temporary f c h = record { named = λ g. ((h.used, h.below), tt); resolved = λ p q a g s. (sym (a.sees.scope c.name c.symbol h.found), refl, tt); passes = λ q words new g. (h.passing q new, tt) }

  pub fits-word : (x : Text) → Fits n b source Nothing (word x)
  fits-word x = record { named = λ g. ((tt, tt), tt); resolved = λ p q a g s. (tt, refl, tt); passes = λ q words new g. (words x, tt) }

  -- a made name that is in use and found nowhere
  pub fits-global : (f : ReferenceFlags) (x : Text) → b.scope x ≡ None → n.in_use x ≡ true → Fits n b source (Refers f) (word x)
  fits-global f x unbound used = record { named = λ g. ((n.more x used, tt), tt); resolved = λ p q a g s. (sym (a.agree.scope x used ∙ (λ i. a.looks i x) ∙ unbound), refl, tt); passes = λ q words new g. (words x, tt) }

  -- a name is the same wherever it refers to something
  pub name-again : (f g : ReferenceFlags) (l : Label) (fs : Fields) → has_no_fields fs ≡ true → Fits n b source (Refers f) (node Identifier l fs) → Fits n b source (Refers g) (node Identifier l fs)
  name-again f g l done e h = record { named = h.named; resolved = h.resolved; passes = h.passes }
  name-again f g l (h then hs) e k = absurd (cc e)

  -- NODES

  pub fits-unary : (r : Role) (m : Label) (e : Tree) → LabelFits m → Fits n b source reads e → Fits n b source r (node UnaryExpression m (one e then done))
  fits-unary r m e k h = record { named = λ g. ((tt, k g), (h.named g, tt)); resolved = λ p q a g s. (tt, refl, (h.resolved p q a g s, tt)); passes = λ q words new g. (tt, (h.passes q words new g, tt)) }

  pub fits-binary : (r : Role) (m : Label) (e f : Tree) → LabelFits m → Fits n b source reads e → Fits n b source reads f → Fits n b source r (node BinaryExpression m (one e then one f then done))
  fits-binary r m e f k h i = record { named = λ g. ((tt, k g), (h.named g, (i.named g, tt))); resolved = λ p q a g s. (tt, refl, (h.resolved p q a g s, (i.resolved p q a g s, tt))); passes = λ q words new g. (tt, (h.passes q words new g, (i.passes q words new g, tt))) }

  pub fits-logical : (r : Role) (m : Label) (e f : Tree) → LabelFits m → Fits n b source reads e → Fits n b source reads f → Fits n b source r (node LogicalExpression m (one e then one f then done))
  fits-logical r m e f k h i = record { named = λ g. ((tt, k g), (h.named g, (i.named g, tt))); resolved = λ p q a g s. (tt, refl, (h.resolved p q a g s, (i.resolved p q a g s, tt))); passes = λ q words new g. (tt, (h.passes q words new g, (i.passes q words new g, tt))) }

  pub fits-conditional : (r : Role) (m : Label) (e f c : Tree) → LabelFits m → Fits n b source reads e → Fits n b source reads f → Fits n b source reads c → Fits n b source r (node ConditionalExpression m (one e then one f then one c then done))
  fits-conditional r m e f c k h i j = record { named = λ g. ((tt, k g), (h.named g, (i.named g, (j.named g, tt)))); resolved = λ p q a g s. (tt, refl, (h.resolved p q a g s, (i.resolved p q a g s, (j.resolved p q a g s, tt)))); passes = λ q words new g. (tt, (h.passes q words new g, (i.passes q words new g, (j.passes q words new g, tt)))) }

  pub fits-assignment : (r : Role) (m : Label) (e f : Tree) → LabelFits m → Fits n b source (target_of (first_text m.texts)) e → Fits n b source reads f → Fits n b source r (node AssignmentExpression m (one e then one f then done))
  fits-assignment r m e f k h i = record { named = λ g. ((tt, k g), (h.named g, (i.named g, tt))); resolved = λ p q a g s. (tt, refl, (h.resolved p q a g s, (i.resolved p q a g s, tt))); passes = λ q words new g. (tt, (h.passes q words new g, (i.passes q words new g, tt))) }

  -- `x = e`
  pub fits-stored : (c : Bound) (e : Tree) → IsSeen n c → Fits n b source reads e → Fits n b source reads (assign_node (identifier c) e)
  fits-stored c e h k = fits-assignment reads (made (Some (codes "=") ∷ []) []) (identifier c) e (λ g. tt) (temporary _ c h) k

  pub fits-member : (r : Role) (m : Label) (e f : Tree) → LabelFits m → Fits n b source reads e → Fits n b source (key_role m) f → Fits n b source r (node MemberExpression m (one e then one f then done))
  fits-member r m e f k h i = record { named = λ g. ((tt, k g), (h.named g, (i.named g, tt))); resolved = λ p q a g s. (tt, refl, (h.resolved p q a g s, (i.resolved p q a g s, tt))); passes = λ q words new g. (tt, (h.passes q words new g, (i.passes q words new g, tt))) }

  pub object-fits : (r : Role) (m : Label) (e f : Tree) → Fits n b source r (node MemberExpression m (one e then one f then done)) → Fits n b source reads e
  object-fits r m e f h = record { named = λ g. (h.named g).1.0; resolved = λ p q a g s. (h.resolved p q a g s).2.0; passes = λ q words new g. (h.passes q words new g).1.0 }

  pub key-fits : (r : Role) (m : Label) (e f : Tree) → Fits n b source r (node MemberExpression m (one e then one f then done)) → Fits n b source (key_role m) f
  key-fits r m e f h = record { named = λ g. (h.named g).1.1.0; resolved = λ p q a g s. (h.resolved p q a g s).2.1.0; passes = λ q words new g. (h.passes q words new g).1.1.0 }

  pub label-fits : (r : Role) (m : Label) (e f : Tree) → Fits n b source r (node MemberExpression m (one e then one f then done)) → LabelFits m
  label-fits r m e f h g = (h.named g).0.1

  -- trees in a row
  pub record FitAmong (ts : Trees) : Type 0 where
    pub named : Named n.in_use n.free source.role source.tree → NamedAll n.in_use_after n.free_after reads ts
    pub resolved : (p q : Place) → Stands n b p q → Named n.in_use n.free source.role source.tree → Resolved source.role p source.tree → ResolvedAll reads (body_place q) ts
    pub passes : (q : Text → Option ℕ → Bool) → ((x : Text) → q x None ≡ true) → list_all (λ c. q c.name c.symbol) n.given ≡ true → Passes q source.tree → PassesAll q ts

  pub none-among : FitAmong empty
  none-among = record { named = λ g. tt; resolved = λ p q a g s. tt; passes = λ q words new g. tt }

  pub more-among : (t : Tree) (ts : Trees) → Fits n b source reads t → FitAmong ts → FitAmong (t before ts)
  more-among t ts h k = record { named = λ g. (h.named g, k.named g); resolved = λ p q a g s. (h.resolved p q a g s, k.resolved p q a g s); passes = λ q words new g. (h.passes q words new g, k.passes q words new g) }

  pub listed : (ts : List Tree) → AllFit ts → FitAmong (trees ts)
  listed [] h = none-among
  listed (t ∷ ts) h = more-among t (trees ts) h.0 (listed ts h.1)

  pub fits-call : (r : Role) (m : Label) (f : Tree) (ts : Trees) → LabelFits m → Fits n b source reads f → FitAmong ts → Fits n b source r (node CallExpression m (one f then many ts then done))
  fits-call r m f ts k h i = record { named = λ g. ((tt, k g), (h.named g, (i.named g, tt))); resolved = λ p q a g s. (tt, refl, (h.resolved p q a g s, (i.resolved p q a g s, tt))); passes = λ q words new g. (tt, (h.passes q words new g, (i.passes q words new g, tt))) }

  pub callee-fits : (r : Role) (m : Label) (f : Tree) (ts : Trees) → Fits n b source r (node CallExpression m (one f then many ts then done)) → Fits n b source reads f
  callee-fits r m f ts h = record { named = λ g. (h.named g).1.0; resolved = λ p q a g s. (h.resolved p q a g s).2.0; passes = λ q words new g. (h.passes q words new g).1.0 }

  pub arguments-fit : (r : Role) (m : Label) (f : Tree) (ts : Trees) → Fits n b source r (node CallExpression m (one f then many ts then done)) → FitAmong ts
  arguments-fit r m f ts h = record { named = λ g. (h.named g).1.1.0; resolved = λ p q a g s. (h.resolved p q a g s).2.1.0; passes = λ q words new g. (h.passes q words new g).1.1.0 }

  pub call-label-fits : (r : Role) (m : Label) (f : Tree) (ts : Trees) → Fits n b source r (node CallExpression m (one f then many ts then done)) → LabelFits m
  call-label-fits r m f ts h g = (h.named g).0.1

  pub fits-sequence : (r : Role) (m : Label) (ts : Trees) → LabelFits m → FitAmong ts → Fits n b source r (node SequenceExpression m (many ts then done))
  fits-sequence r m ts k h = record { named = λ g. ((tt, k g), (h.named g, tt)); resolved = λ p q a g s. (tt, refl, (h.resolved p q a g s, tt)); passes = λ q words new g. (tt, (h.passes q words new g, tt)) }

  -- the one field of a node with a single one
  pub content-fits : (r : Role) (m : Label) (e : Tree) → Fits n b source r (node ChainExpression m (one e then done)) → Fits n b source reads e
  content-fits r m e h = record { named = λ g. (h.named g).1.0; resolved = λ p q a g s. (h.resolved p q a g s).2.0; passes = λ q words new g. (h.passes q words new g).1.0 }

  -- through parentheses
  pub fits-bare : (r : Role) (t : Tree) → Fits n b source r t → Fits n b source r (without_parens t)
  fits-bare r (node ParenthesizedExpression l (one t then fs)) h = fits-bare r t (record { named = λ g. (h.named g).1.0; resolved = λ p q a g s. (h.resolved p q a g s).2.0; passes = λ q words new g. (h.passes q words new g).1.0 })
  fits-bare r t h = h

  -- WRITTEN VALUES

  pub fits-null : Fits n b source reads null_node
  fits-null = record { named = λ g. ((tt, tt), tt); resolved = λ p q a g s. (tt, refl, tt); passes = λ q words new g. (tt, tt) }

  pub fits-void : Fits n b source reads void_zero_node
  fits-void = record { named = λ g. ((tt, tt), (((tt, tt), tt), tt)); resolved = λ p q a g s. (tt, refl, ((tt, refl, tt), tt)); passes = λ q words new g. (tt, ((tt, tt), tt)) }

  pub fits-true : Fits n b source reads true_node
  fits-true = record { named = λ g. ((tt, tt), tt); resolved = λ p q a g s. (tt, refl, tt); passes = λ q words new g. (tt, tt) }

  pub fits-string : (x : Text) → Fits n b source reads (string_node x)
  fits-string x = record { named = λ g. ((tt, tt), tt); resolved = λ p q a g s. (tt, refl, tt); passes = λ q words new g. (tt, tt) }

  pub fits-this : Fits n b source reads this_node
  fits-this = record { named = λ g. ((tt, tt), tt); resolved = λ p q a g s. (tt, refl, tt); passes = λ q words new g. (tt, tt) }

  -- `begin !== null && again !== void 0 ? again : r`
  pub fits-tested : (r : Role) (m : Label) (begin again e : Tree) → Fits n b source reads begin → Fits n b source reads again → Fits n b source reads e → Fits n b source r (tested m begin again e)
  fits-tested r m begin again e h i j = fits-conditional r _ _ again e (λ g. tt) (fits-logical reads _ _ _ (λ g. tt) (fits-binary reads _ begin _ (λ g. tt) h fits-null) (fits-binary reads _ again _ (λ g. tt) i fits-void)) i j

-- WHAT TREES DECLARE, AND HOW MANY SCOPES OF THEM BIND A SYMBOL

-- the same in these roles
pub record Counts (r r' : Role) (t u : Tree) : Type 0 where
  pub declares : (v : Bool) → declared v r' u ≡ declared v r t
  pub scopes : (s : ℕ) → scopes_with s no_name r' u ≡ scopes_with s no_name r t

pub counts-self : (r : Role) (t : Tree) → Counts r r t t
counts-self r t = record { declares = λ v. refl; scopes = λ s. refl }

-- nothing, and none
pub record Silent (r : Role) (t : Tree) : Type 0 where
  pub declares : (v : Bool) → declared v r t ≡ []
  pub scopes : (s : ℕ) → scopes_with s no_name r t ≡ 0

pub silent-name : (f : ReferenceFlags) (l : Label) (fs : Fields) → has_no_fields fs ≡ true → Silent (Refers f) (node Identifier l fs)
silent-name f l done e = record { declares = λ v. refl; scopes = λ s. refl }
silent-name f l (g then fs) e = absurd (cc e)

pub silent-temporary : (f : ReferenceFlags) (c : Bound) → Silent (Refers f) (identifier c)
silent-temporary f c = record { declares = λ v. refl; scopes = λ s. refl }

-- `x = e` declares what e does
pub counts-stored : (c : Bound) (e : Tree) → Counts reads reads e (assign_node (identifier c) e)
counts-stored c e = record { declares = λ v. at v; scopes = λ s. omega arith }
  where
    at : (v : Bool) → declared v reads (assign_node (identifier c) e) ≡ declared v reads e
    at true = nil-right (declared true reads e)
    at false = nil-right (declared false reads e)

pub counts-bare : (r : Role) (t : Tree) → is_alone t ≡ true → Counts r r t (without_parens t)
counts-bare r (node ParenthesizedExpression l (one t then done)) e = record { declares = λ v. (counts-bare r t e).declares v ∙ at v; scopes = λ s. let h = (counts-bare r t e).scopes s in omega arith }
  where
    at : (v : Bool) → declared v r t ≡ declared v r (node ParenthesizedExpression l (one t then done))
    at true = sym (nil-right (declared true r t))
    at false = sym (nil-right (declared false r t))
counts-bare r (node ParenthesizedExpression l (one t then (f then fs))) e = absurd (cc e)
counts-bare r t e = record { declares = λ v. refl; scopes = λ s. refl }

-- ROWS

-- an expression that makes no scope and is no name
pub record IsPlain (t : Tree) : Type 0 where
  pub kind : is_var_scope (kind_of t) ≡ false
  pub no_import : is_import t ≡ false
  pub own : (r : Role) → own_of r t ≡ []
  pub place : (r : Role) (p : Place) → Resolved r (body_place p) t → Resolved r p t
  pub parameters : (s : ℕ) (ps : Text → Bool) (r : Role) → scopes_with s ps r t ≡ scopes_with s no_name r t

pub plain-unary : (m : Label) (fs : Fields) → IsPlain (node UnaryExpression m fs)
plain-unary m fs = record { kind = refl; no_import = refl; own = λ r. refl; place = λ r p d. d; parameters = λ s ps r. refl }

pub plain-binary : (m : Label) (fs : Fields) → IsPlain (node BinaryExpression m fs)
plain-binary m fs = record { kind = refl; no_import = refl; own = λ r. refl; place = λ r p d. d; parameters = λ s ps r. refl }

pub plain-logical : (m : Label) (fs : Fields) → IsPlain (node LogicalExpression m fs)
plain-logical m fs = record { kind = refl; no_import = refl; own = λ r. refl; place = λ r p d. d; parameters = λ s ps r. refl }

pub plain-conditional : (m : Label) (fs : Fields) → IsPlain (node ConditionalExpression m fs)
plain-conditional m fs = record { kind = refl; no_import = refl; own = λ r. refl; place = λ r p d. d; parameters = λ s ps r. refl }

pub plain-assignment : (m : Label) (fs : Fields) → IsPlain (node AssignmentExpression m fs)
plain-assignment m fs = record { kind = refl; no_import = refl; own = λ r. refl; place = λ r p d. d; parameters = λ s ps r. refl }

pub plain-sequence : (m : Label) (fs : Fields) → IsPlain (node SequenceExpression m fs)
plain-sequence m fs = record { kind = refl; no_import = refl; own = λ r. refl; place = λ r p d. d; parameters = λ s ps r. refl }

pub plain-call : (m : Label) (fs : Fields) → IsPlain (node CallExpression m fs)
plain-call m fs = record { kind = refl; no_import = refl; own = λ r. refl; place = λ r p d. d; parameters = λ s ps r. refl }

pub plain-chain : (m : Label) (fs : Fields) → IsPlain (node ChainExpression m fs)
plain-chain m fs = record { kind = refl; no_import = refl; own = λ r. refl; place = λ r p d. d; parameters = λ s ps r. refl }

no-change : (v : Bool) → v ≡ false → v ≡ true → ⊥
no-change v e d = absurd (cc (e, d))

-- what a row makes of t
pub record Makes (n : Site) (w : Whole) (bs : List Bound) (t u : Tree) : Type 0 where
  pub taken : AreTaken w.in_use w.free_symbol bs
  pub old : IsPlain t
  pub made : IsPlain u
  pub counts : Counts n.role n.role t u
  pub fits : Fits (knowing w bs taken) n.names (standing n t) n.role u

pub made-law : (n : Site) (w : Whole) (bs : List Bound) (t u : Tree) → Makes n w bs t u → Named w.in_use w.free_symbol n.role t → NodeLaw n w bs t u
made-law n w bs t u h used = record {
  fresh = taken-fresh w.in_use w.free_symbol bs h.taken;
  sound = taken-found w.in_use w.free_symbol bs h.taken;
  range = taken-range w.in_use w.free_symbol bs h.taken;
  kept = record {
    kind = h.made.kind ∙ sym h.old.kind;
    top = λ e. absurd (no-change (is_var_scope (kind_of t)) h.old.kind e);
    own = h.made.own n.role ∙ sym (h.old.own n.role);
    lexical = h.counts.declares false;
    hoisted = h.counts.declares true;
    named = h.fits.named used;
    scopes = λ s ps e. h.made.parameters s ps n.role ∙ h.counts.scopes s ∙ sym (h.old.parameters s ps n.role);
    new_scopes = λ s ps e. let none = no-scopes w.in_use w.free_symbol s e no_name n.role t used in let alike = h.made.parameters s ps n.role ∙ h.counts.scopes s in omega arith;
    resolved = λ p q g s v f d. h.made.place n.role q (h.fits.resolved p q (record { agree = g; sees = v; looks = f.scope }) used d);
  };
}
