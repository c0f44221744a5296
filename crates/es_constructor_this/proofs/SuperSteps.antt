-- Steps of rows inside the statements of a constructor's body lead from each of them to what it becomes where calls of `super` are followed: node after its
-- parts, beside the name that is set.
use Rattle.std.proofs.Common.{◌≡◌, ◌∙◌, ◌==◌, ℕ, zero, suc, refl, sym, ap, subst, List, [], ◌∷◌, ◌++◌, append-nil, arith, drop, true≢false}
use Rattle.std.specs.Prelude.{Bool, true, false, ◌&&◌, not, Option, Some, bytes_eq, if◌then◌else◌}
use Rattle.std.proofs.lemmas.Bool.{and_parts, ne_eqb, or_parts}
use Rattle.es_tree.specs.Ancestors.{Ancestor, ancestor, stands_in}
use Rattle.es_tree.specs.Attributes.{child_entries}
use Rattle.es_tree.specs.HasForm.{field_form, fields_form, has_form, same_type}
use Rattle.es_tree.specs.Names.{first_text, is_name_place}
use Rattle.es_tree.specs.StaticRules.{is_module_item}
use Rattle.es_tree.specs.Tree.{Tree, node, Label, Fields, done, ◌then◌, Field, missing, one, many, statements, Trees, empty, ◌before◌, kind_of}
use Rattle.es_tree.specs.Words.{Text}
use Rattle.es_tree.specs.declared.ast_type.AstType.{AstType}
use Rattle.es_tree.specs.declared.ast_type.AstType.TheVariants.{ArrowFunctionExpression, BlockStatement, CallExpression, ChainExpression, ExportDefaultDeclaration, ExpressionStatement, FunctionBody, FunctionDeclaration, FunctionExpression, Identifier, Program, StaticBlock, Super, SwitchCase}
use Rattle.es_tree.specs.declared.table.Content.TheVariants.{Child as c-Child}
use Rattle.es_tree.specs.declared.table.Often.TheVariants.{Optional, Statements}
use Rattle.es_tree.specs.declared.table.Sort.{Sort}
use Rattle.es_tree.specs.declared.table.Sort.TheVariants.{Expression as s-Expression, Statement as s-Statement}
use Rattle.es_tree.proofs.NodeForm.{node_form}
use Rattle.es_changes.specs.Changes.{Each, EachBy, EachIn}
use Rattle.es_semantic.specs.RolesOf.{reads, role_at}
use Rattle.es_semantic.specs.declared.place.Role.{Role}
use Rattle.es_resolution.specs.Declarations.{Bound, declared, declared_among}
use Rattle.es_resolution.specs.Resolved.{Place, place_in}
use Rattle.es_resolution.proofs.AllForms.{All, AllAmong, AllBy, AllIn}
use Rattle.es_steps.specs.Nodes.{identifier}
use Rattle.es_steps.specs.Open.{Additions, Pending, is_body}
use Rattle.es_steps.specs.Steps.{Ledger, Site, Spot, Whole, ledger}
use Rattle.es_steps.specs.Steps.Spot.{at_node}
use Rattle.es_steps.specs.Steps.Steps.{stays}
use Rattle.es_pattern_moves.proofs.MovedInward.{FitsAt, inward, sites}
use Rattle.es_pattern_moves.proofs.Settled.{SettledAll, SettledBy, SettledIn, Sound}
use Rattle.es_valid_steps.specs.PlaceRules.{Keeps, KeepsAll, KeepsBy, KeepsIn}
use Rattle.es_super_calls.specs.Constructors.{standing_in}
use Rattle.es_super_calls.specs.declared.standing.ClassStanding.{ClassStanding}
use Rattle.es_super_calls.specs.SuperCalls.{calls_it, is_super_call, is_super_statement}
use Rattle.es_set_this.specs.ConstructorThis.{after_super, after_super_among, after_super_by, after_super_in, in_arguments, is_closed, is_left, names_among, names_by, names_first, names_in, names_it, set_statement, settled as settled_node, then_set, up_to_super, with_this_set}
use Rattle.es_constructor_this.proofs.Written.{Writes, write_here, write_this, write_this_among, write_this_by, write_this_in}
use Rattle.es_constructor_this.specs.SetRows.{Finds, Puts, Settles, SuperRow}
use Rattle.es_constructor_this.specs.SetRows.Puts.{behind, further, nowhere}
use Rattle.es_constructor_this.specs.SetRows.Settles.{ended as none_settled, settled}
use Rattle.es_constructor_this.specs.SetRows.SuperRow.{after_call, in_block, in_case}
use Rattle.es_constructor_this.proofs.LinkedSteps.{FieldLinks, FieldsLinks, TreeLinks, TreesLinks, acts-there, all-links, both-links, child-links, first-links, head-links, linked-trans, from-links, many-links, statements-links, steps-of}
use Rattle.es_constructor_this.proofs.LinkedSteps.Linked.{ended, linked}
use Rattle.es_constructor_this.proofs.SameSites.{SameFields, SameTree, SameTrees, fields-same, fields-then, first-same, later-same, node-same, sites-are, sites-same, statements-same}
use Rattle.es_constructor_this.proofs.SetKept.{call-kept, calls-kept, here-other, set-same-in, statement-kept}
use Rattle.es_constructor_this.proofs.SuperRoles.{Said, SaidAll, SaidBy, SaidIn, fields-said}
use Rattle.es_constructor_this.proofs.UnnamedParts.{site-out}

-- WHERE THE NAME IS SET

pub puts-set : (x : Tree) (ts : Trees) → Puts x ts (with_this_set x ts)
puts-set x empty = nowhere
puts-set x (t before ts) = at (is_super_statement t) (puts-set x ts)
  where
    at : (b : Bool) → Puts x ts (with_this_set x ts) → Puts x (t before ts) (if b then t before (set_statement x before ts) else t before with_this_set x ts)
    at true h = behind
    at false h = further h

-- nothing is declared there
set-silent : (b : Bound) (v : Bool) (r : Role) → declared v r (set_statement (identifier b)) ≡ []
set-silent b true r = refl
set-silent b false r = refl

puts-declares : (b : Bound) (v : Bool) (r : Role) {ts us : Trees} → Puts (identifier b) ts us → declared_among v r us ≡ declared_among v r ts
puts-declares b v r nowhere = refl
puts-declares b v r (behind {t = t} {ts = ts}) = λ j. declared v r t ++ (set-silent b v r j ++ declared_among v r ts)
puts-declares b v r (further {t = t} h) = ap (λ bs. declared v r t ++ bs) (puts-declares b v r h)

puts-same : (b : Bound) {ts us : Trees} → Puts (identifier b) ts us → SameTrees ts us
puts-same b h = record { declares = λ v r. puts-declares b v r h }

call-declares : (b : Bound) (l : Label) (fs : Fields) (v : Bool) (r : Role) → declared v r (then_set (identifier b) l fs) ≡ declared v r (node CallExpression l fs)
call-declares b l fs true r = append-nil (declared true reads (node CallExpression l fs) ++ []) ∙ append-nil (declared true reads (node CallExpression l fs))
call-declares b l fs false r = append-nil (declared false reads (node CallExpression l fs) ++ []) ∙ append-nil (declared false reads (node CallExpression l fs))

call-same : (b : Bound) (l : Label) (fs : Fields) → SameTree (node CallExpression l fs) (then_set (identifier b) l fs)
call-same b l fs = record { declares = call-declares b l fs; named = λ r. refl; scope = refl; imports = refl; bodied = refl }

-- WHAT A CALL CALLS stays

module _ (x : Tree) where
  pub called-super : (t : Tree) → same_type (kind_of (after_super x t)) Super ≡ same_type (kind_of t) Super
  called-super (node CallExpression l fs) = at (calls_it (after_super_in x false fs))
    where
      gs : Fields
      gs = after_super_in x false fs

      at : (c : Bool) → same_type (kind_of (if c then then_set x l gs else node CallExpression l gs)) Super ≡ false
      at true = refl
      at false = refl
  called-super (node ChainExpression l fs) = at (is_left ChainExpression fs)
    where
      at : (c : Bool) → same_type (kind_of (if c then node ChainExpression l fs else node ChainExpression l (after_super_in x false fs))) Super ≡ false
      at true = refl
      at false = refl
  called-super (node k l fs) = refl

  pub calls-same : (fs : Fields) → calls_it (after_super_in x false fs) ≡ calls_it fs
  calls-same done = refl
  calls-same (missing then fs) = refl
  calls-same (one t then fs) = called-super t
  calls-same (many ts then fs) = refl
  calls-same (statements ts then fs) = refl

-- FORM: the fields of a block, a case and a chain

abbrev is_block : Fields → Bool
is_block (statements ts then done) = true
is_block _ = false

abbrev is_case : Fields → Bool
is_case (f then (statements ts then done)) = true
is_case _ = false

abbrev is_one : Fields → Bool
is_one (one t then fs) = true
is_one _ = false

block-form : (l : Label) (fs : Fields) (s : Sort) → has_form s (node BlockStatement l fs) ≡ true → is_block fs ≡ true
block-form l (statements ts then done) s h = refl
block-form l done s h = (node_form s BlockStatement l done h).children
block-form l (missing then fs) s h = (node_form s BlockStatement l (missing then fs) h).children
block-form l (one t then fs) s h = (node_form s BlockStatement l (one t then fs) h).children
block-form l (many ts then fs) s h = (node_form s BlockStatement l (many ts then fs) h).children
block-form l (statements ts then (f then fs)) s h = (and_parts (field_form BlockStatement l (c-Child s-Statement Statements) (statements ts)) false (node_form s BlockStatement l (statements ts then (f then fs)) h).children).1

case-form : (l : Label) (fs : Fields) (s : Sort) → has_form s (node SwitchCase l fs) ≡ true → is_case fs ≡ true
case-form l done s h = (node_form s SwitchCase l done h).children
case-form l (f then gs) s h = at gs (and_parts (field_form SwitchCase l (c-Child s-Expression Optional) f) _ (node_form s SwitchCase l (f then gs) h).children).1
  where
    at : (gs : Fields) → fields_form SwitchCase l (drop 1 (child_entries SwitchCase)) gs ≡ true → is_case (f then gs) ≡ true
    at (statements ts then done) e = refl
    at done e = e
    at (missing then fs) e = e
    at (one t then fs) e = e
    at (many ts then fs) e = e
    at (statements ts then (g then fs)) e = (and_parts (field_form SwitchCase l (c-Child s-Statement Statements) (statements ts)) false e).1

chain-form : (l : Label) (fs : Fields) (s : Sort) → has_form s (node ChainExpression l fs) ≡ true → is_one fs ≡ true
chain-form l (one t then fs) s h = refl
chain-form l done s h = (node_form s ChainExpression l done h).children
chain-form l (missing then fs) s h = (node_form s ChainExpression l (missing then fs) h).children
chain-form l (many ts then fs) s h = (node_form s ChainExpression l (many ts then fs) h).children
chain-form l (statements ts then fs) s h = (node_form s ChainExpression l (statements ts then fs) h).children

-- KINDS that are gone through

no-bodies : (k : AstType) → is_closed k ≡ false → (i : ℕ) → is_body k i ≡ false
no-bodies ArrowFunctionExpression e i = absurd (cc e)
no-bodies _ e i = refl

no-export : (k : AstType) → is_module_item k ≡ false → same_type k ExportDefaultDeclaration ≡ false
no-export ExportDefaultDeclaration e = absurd (cc e)
no-export _ e = refl

no-program : (k : AstType) → is_closed k ≡ false → same_type k Program ≡ false
no-program Program e = absurd (cc e)
no-program _ e = refl

no-item : (a p : Bool) → p ≡ false → (a && not p) ≡ false → a ≡ false
no-item a true d e = absurd (cc d)
no-item true false d e = absurd (cc e)
no-item false false d e = refl

unchained : (k : AstType) → same_type k ChainExpression ≡ false → (i : ℕ) → (same_type k ChainExpression && i == 0) ≡ false
unchained k e i = λ j. e j && i == 0

-- what is alike of all fields of one node in a row
fields-of : {R : Site → Ledger → Spot → Ledger → Spot → Type 0} {w : Whole} {Good : Option Bound → Type 0} {c : ℕ → Site} {bodies : ℕ → Bool} {fs gs : Fields} → FieldsLinks R w Good c bodies fs gs → SameFields fs gs
fields-of {fs = fs} ended = fields-same fs
fields-of {fs = fs} {gs = gs} (linked {y = hs} h r) = fields-then fs hs gs h.same (fields-of r)

module _ (write : Writes) (made : Text → Bool) (w : Whole) (b : Bound) where
  abbrev x : Tree
  x = identifier b

  -- beside this name for `this`
  abbrev Named : Option Bound → Type 0
  Named o = o ≡ Some b

  -- A NODE that is gone through, at its site
  pub record Gone (n : Site) (t : Tree) : Type 0 where
    pub counts : Bool
    pub above : List Ancestor
    pub fits : FitsAt n t
    pub sound : All Sound t
    pub said : Said n.role t
    pub keeps : Keeps above t
    pub item : is_module_item (kind_of t) ≡ false
    pub chain : is_super_call t ≡ true → stands_in ChainExpression 0 n.above ≡ false
    pub finds : Finds w b n.names
    pub unnamed : names_it b.name counts t ≡ false

  abbrev pub GoneAll : Site → Trees → Type 0
  GoneAll n empty = Unit {0}
  GoneAll n (t before ts) = Gone n t × GoneAll n ts

  abbrev GoneBy : Site → Field → Type 0
  GoneBy n missing = Unit {0}
  GoneBy n (one t) = Gone n t
  GoneBy n (many ts) = GoneAll n ts
  GoneBy n (statements ts) = GoneAll n ts

  abbrev GoneIn : (ℕ → Site) → Fields → Type 0
  GoneIn c done = Unit {0}
  GoneIn c (f then fs) = GoneBy (c zero) f × GoneIn (λ i. c (suc i)) fs

  -- what stands in a list, which is no chain
  pub gone-all : (n : Site) (up : List Ancestor) (k : AstType) (i : ℕ) (ts : Trees) → same_type k Program ≡ false → stands_in ChainExpression 0 n.above ≡ false → Finds w b n.names → Each FitsAt n ts → AllAmong Sound ts → SaidAll n.role ts → KeepsAll up ts → SettledAll k i ts → names_among b.name ts ≡ false → GoneAll n ts
  gone-all n up k i empty p c f fits sound said keeps items e = tt
  gone-all n up k i (t before ts) p c f fits sound said keeps items e =
      let d = or_parts (names_it b.name true t) (names_among b.name ts) e in (
        record { counts = true; above = up; fits = fits.0; sound = sound.0; said = said.0; keeps = keeps.0; item = no-item (is_module_item (kind_of t)) (same_type k Program) p items.0.item; chain = λ a. c; finds = f; unnamed = d.0 },
        gone-all n up k i ts p c f fits.1 sound.1 said.1 keeps.1 items.1 d.1,
      )

  -- in a field
  abbrev Unchained : Site → Field → Type 0
  Unchained n (one t) = is_super_call t ≡ true → stands_in ChainExpression 0 n.above ≡ false
  Unchained n f = stands_in ChainExpression 0 n.above ≡ false

  is-unchained : (n : Site) (f : Field) → stands_in ChainExpression 0 n.above ≡ false → Unchained n f
  is-unchained n missing e = e
  is-unchained n (one t) e = λ a. e
  is-unchained n (many ts) e = e
  is-unchained n (statements ts) e = e

  gone-by : (n : Site) (up : List Ancestor) (k : AstType) (i : ℕ) (counts : Bool) (f : Field) → same_type k Program ≡ false → Unchained n f → Finds w b n.names → EachBy FitsAt n false f → AllBy Sound f → SaidBy n.role f → KeepsBy up f → SettledBy k i f → names_by b.name counts f ≡ false → GoneBy n f
  gone-by n up k i counts missing p c f fits sound said keeps items e = tt
  gone-by n up k i counts (one t) p c f fits sound said keeps items e = record { counts = counts; above = up; fits = fits; sound = sound; said = said; keeps = keeps; item = no-item (is_module_item (kind_of t)) (same_type k Program) p items.item; chain = c; finds = f; unnamed = e }
  gone-by n up k i counts (many ts) p c f fits sound said keeps items e = gone-all n up k i ts p c f fits sound said keeps items e
  gone-by n up k i counts (statements ts) p c f fits sound said keeps items e = gone-all n up k i ts p c f fits sound said keeps items e

  abbrev UnchainedIn : (ℕ → Site) → Fields → Type 0
  UnchainedIn c done = Unit {0}
  UnchainedIn c (f then fs) = Unchained (c zero) f × UnchainedIn (λ i. c (suc i)) fs

  are-unchained : (c : ℕ → Site) (fs : Fields) → ((i : ℕ) → stands_in ChainExpression 0 (c i).above ≡ false) → UnchainedIn c fs
  are-unchained c done e = tt
  are-unchained c (f then fs) e = (is-unchained (c zero) f (e zero), are-unchained (λ i. c (suc i)) fs (λ i. e (suc i)))

  gone-in : (c : ℕ → Site) (up : List Ancestor) (k : AstType) (l : Label) (all : Fields) (i : ℕ) (counts : ℕ → Bool) (fs : Fields) → same_type k Program ≡ false → UnchainedIn c fs → ((j : ℕ) → Finds w b (c j).names) → EachIn FitsAt c (λ j. false) fs → AllIn Sound fs → SaidIn (λ j. (c j).role) fs → KeepsIn up k l all i fs → SettledIn k i fs → names_in b.name counts fs ≡ false → GoneIn c fs
  gone-in c up k l all i counts done p ch f fits sound said keeps items e = tt
  gone-in c up k l all i counts (g then fs) p ch f fits sound said keeps items e =
      let d = or_parts (names_by b.name (counts zero) g) (names_in b.name (λ j. counts (suc j)) fs) e in (
        gone-by (c zero) (ancestor k l all i 0 ∷ up) k i (counts zero) g p ch.0 (f zero) fits.0 sound.0 said.0 keeps.0 items.0 d.0,
        gone-in (λ j. c (suc j)) up k l all (suc i) (λ j. counts (suc j)) fs p ch.1 (λ j. f (suc j)) fits.1 sound.1 said.1 keeps.1 items.1 d.1,
      )

  -- INWARDS

  finds-there : (p q : Place) → q.scope b.name ≡ p.scope b.name → Finds w b p → Finds w b q
  finds-there p q e f = record { symbol = f.symbol; has = f.has; found = e ∙ f.found; called = f.called; below = f.below; used = f.used }

  module _ (n : Site) (k : AstType) (l : Label) (fs : Fields) (h : Gone n (node k l fs)) (closed : is_closed k ≡ false) where
    parts-unnamed : names_in b.name (is_name_place k l) fs ≡ false
    parts-unnamed =
        (λ j. if sym closed j then names_first_of fs else names_in b.name (is_name_place k l) fs)
        ∙ (or_parts (h.counts && same_type k Identifier && named) (if is_closed k then names_first_of fs else names_in b.name (is_name_place k l) fs) h.unnamed).1
      where
        named : Bool
        named = bytes_eq (first_text l.texts) b.name

        names_first_of : Fields → Bool
        names_first_of fs = names_first b.name fs

    gone-fields : UnchainedIn (sites n k l fs) fs → GoneIn (sites n k l fs) fs
    gone-fields chain =
        let no : is_body k ≡ (λ i. false) = λ j i. no-bodies k closed i j in
        let roles : role_at n.role k l fs ≡ (λ i. (sites n k l fs i).role) = λ j i. (sym (sites-are n k l fs i) j).role in
        gone-in (sites n k l fs) h.above k l fs 0 (is_name_place k l) fs (no-program k closed) chain
        (λ i. finds-there n.names (sites n k l fs i).names (site-out b.name n k l fs i closed h.sound.1 parts-unnamed) h.finds)
        (subst (λ (bodies : ℕ → Bool). EachIn FitsAt (sites n k l fs) bodies fs) no (inward n k l fs h.fits.sort h.fits.formed)) h.sound.1
        (subst (λ (r : ℕ → Role). SaidIn r fs) roles (fields-said h.fits.sort n.role k l h.above fs h.fits.formed h.said (no-export k h.item) h.keeps.1))
        h.keeps.1 h.sound.0.settled parts-unnamed

    gone-parts : same_type k ChainExpression ≡ false → GoneIn (sites n k l fs) fs
    gone-parts e = gone-fields (are-unchained (sites n k l fs) fs (λ i. unchained k e i))

    -- steps from what is alike
    part-links : {gs hs : Fields} → SameFields fs gs → FieldsLinks SuperRow w Named (sites n k l fs) (λ i. false) gs hs → TreeLinks SuperRow w Named n (node k l gs) (node k l hs)
    part-links {gs = gs} {hs = hs} same r = from-links SuperRow w Named n k l fs same (subst (λ (bodies : ℕ → Bool). FieldsLinks SuperRow w Named (sites n k l fs) bodies gs hs) (λ j i. sym (no-bodies k closed i) j) r)

    -- the name is found in a field that became another
    finds-after : (i : ℕ) (gs : Fields) → SameFields fs gs → Finds w b (sites n k l fs i).names → Finds w b (place_in n.names k l (role_at n.role k l gs) gs i)
    finds-after i gs same f = finds-there (sites n k l fs i).names (place_in n.names k l (role_at n.role k l gs) gs i) (ap (λ (s : Site). s.names.scope b.name) (sym (sites-are n k l gs i) ∙ sites-same n k l fs gs same i)) f

  abbrev TreeGoes : Site → Tree → Tree → Type 0
  TreeGoes = TreeLinks SuperRow w Named

  -- beside the name alone
  beside-name : (n : Site) (t u : Tree) → ((q : Pending) (a : Additions) → SuperRow n (ledger w q (Some b) a) (at_node t) (ledger w q (Some b) a) (at_node u)) → SameTree t u → TreeGoes n t u
  beside-name n t u h same = acts-there SuperRow w Named n t u (λ q o a e. subst (λ (z : Option Bound). SuperRow n (ledger w q z a) (at_node t) (ledger w q z a) (at_node u)) (sym e) (h q a)) same

  -- A CALL with its parts as they became
  call-there : (n : Site) (l : Label) (fs gs : Fields) → Gone n (node CallExpression l fs) → calls_it gs ≡ calls_it fs → TreeGoes n (node CallExpression l gs) (settled_node x CallExpression l gs)
  call-there n l fs gs h same = at (calls_it gs) refl
    where
      at : (c : Bool) → calls_it gs ≡ c → TreeGoes n (node CallExpression l gs) (if c then then_set x l gs else node CallExpression l gs)
      at true e = beside-name n (node CallExpression l gs) (then_set x l gs) (λ q a. after_call b l gs (h.said refl) e (h.chain (sym same ∙ e)) h.finds) (call-same b l gs)
      at false e = ended

  -- LISTS of blocks and cases
  put-block : (n : Site) (l : Label) (ts us : Trees) → Puts x ts us → Finds w b (place_in n.names BlockStatement l (role_at n.role BlockStatement l (statements ts then done)) (statements ts then done) 0) → TreeGoes n (node BlockStatement l (statements ts then done)) (node BlockStatement l (statements us then done))
  put-block n l ts us h f = beside-name n (node BlockStatement l (statements ts then done)) (node BlockStatement l (statements us then done)) (λ q a. in_block b l ts us h f) (node-same BlockStatement l (statements ts then done) (statements us then done) (first-same (statements ts) (statements us) done (statements-same ts us (puts-same b h))))

  put-case : (n : Site) (l : Label) (f : Field) (ts us : Trees) → Puts x ts us → Finds w b (place_in n.names SwitchCase l (role_at n.role SwitchCase l (f then statements ts then done)) (f then statements ts then done) 1) → TreeGoes n (node SwitchCase l (f then statements ts then done)) (node SwitchCase l (f then statements us then done))
  put-case n l f ts us h g = beside-name n (node SwitchCase l (f then statements ts then done)) (node SwitchCase l (f then statements us then done)) (λ q a. in_case b l f ts us h g) (node-same SwitchCase l (f then statements ts then done) (f then statements us then done) (later-same f (statements ts then done) (statements us then done) (first-same (statements ts) (statements us) done (statements-same ts us (puts-same b h)))))

  -- A NODE as it is with the bodies in it set, and what becomes of it

  abbrev Through : Site → Tree → Type 0
  Through n t = TreeGoes n t (after_super x t)

  abbrev set_in : ClassStanding → AstType → Label → Fields → Fields
  set_in s k l fs = write_this_in write made (standing_in s k l fs) fs

  through-node : (n : Site) (s : ClassStanding) (k : AstType) (l : Label) (fs : Fields) → same_type k FunctionBody ≡ false → Through n (node k l (set_in s k l fs)) → Through n (write_this write made s (node k l fs))
  through-node n s k l fs e h = subst (λ (gs : Fields). Through n (node k l gs)) (sym (here-other write made s k (set_in s k l fs) e)) h

  abbrev FieldsGo : (ℕ → Site) → Fields → Fields → Type 0
  FieldsGo c fs gs = FieldsLinks SuperRow w Named c (λ i. false) fs gs

  -- a chain that isn't such a call
  chain-links : (n : Site) (s : ClassStanding) (l : Label) (t : Tree) (fs : Fields) → Gone n (node ChainExpression l (one t then fs)) → (c : Bool) → is_super_call (write_this write made (standing_in s ChainExpression l (one t then fs) 0) t) ≡ c →
      ((m : Site) → Gone m t → Through m (write_this write made (standing_in s ChainExpression l (one t then fs) 0) t)) →
      ((d : ℕ → Site) → GoneIn d fs → FieldsGo d (write_this_in write made (λ i. standing_in s ChainExpression l (one t then fs) (suc i)) fs) (after_super_in x false (write_this_in write made (λ i. standing_in s ChainExpression l (one t then fs) (suc i)) fs))) →
      TreeGoes n (node ChainExpression l (set_in s ChainExpression l (one t then fs))) (if c then node ChainExpression l (set_in s ChainExpression l (one t then fs)) else node ChainExpression l (after_super_in x false (set_in s ChainExpression l (one t then fs))))
  chain-links n s l t fs h true e first rest = ended
  chain-links n s l t fs h false e first rest =
      let all : Fields = one t then fs in
      let a : ClassStanding = standing_in s ChainExpression l all 0 in
      let c : ℕ → Site = sites n ChainExpression l all in
      let later : (i : ℕ) → stands_in ChainExpression 0 (c (suc i)).above ≡ false = λ i. ne_eqb (suc i) 0 (λ d. omega (arith, d)) in
      let parts = gone-fields n ChainExpression l all h refl ((λ d. absurd (true≢false (sym d ∙ sym (call-kept write made a t) ∙ e))), are-unchained (λ i. c (suc i)) fs later) in
      part-links n ChainExpression l all h refl (set-same-in write made (standing_in s ChainExpression l all) all) (all-links SuperRow w Named c (λ i. false) (child-links SuperRow w Named (c 0) (first (c 0) parts.0)) (rest (λ i. c (suc i)) parts.1))

  -- EACH NODE
  mutual
    pub tree-links : (n : Site) (s : ClassStanding) (t : Tree) → Gone n t → Through n (write_this write made s t)
    tree-links n s (node FunctionDeclaration l fs) h = ended
    tree-links n s (node FunctionExpression l fs) h = ended
    tree-links n s (node ArrowFunctionExpression l fs) h = ended
    tree-links n s (node FunctionBody l fs) h = ended
    tree-links n s (node StaticBlock l fs) h = ended
    tree-links n s (node Program l fs) h = ended
    tree-links n s (node BlockStatement l (statements ts then done)) h =
        let fs : Fields = statements ts then done in
        let c : ℕ → ClassStanding = standing_in s BlockStatement l fs in
        let us : Trees = up_to_super x (write_this_among write made (c 0) ts) in
        let parts = gone-parts n BlockStatement l fs h refl refl in
        let m : Site = sites n BlockStatement l fs 0 in
        let inner : FieldsGo (sites n BlockStatement l fs) (write_this_in write made c fs) (statements us then done) = first-links SuperRow w Named (sites n BlockStatement l fs) (λ i. false) done (statements-links SuperRow w Named m (λ e. absurd (cc e)) (λ e. absurd (cc e)) false (list-links m (c 0) ts parts.0)) in
        let same = set-same-in write made c fs in
        let found = finds-there n.names m.names (site-out b.name n BlockStatement l fs 0 refl h.sound.1 (parts-unnamed n BlockStatement l fs h refl)) h.finds in
        through-node n s BlockStatement l fs refl (linked-trans (part-links n BlockStatement l fs h refl same inner) (put-block n l us (with_this_set x us) (puts-set x us) (finds-after n BlockStatement l fs h refl 0 (statements us then done) (fields-then fs (write_this_in write made c fs) (statements us then done) same (fields-of inner)) found)))
    tree-links n s (node BlockStatement l fs) h = absurd (let no : false ≡ true = block-form l fs h.fits.sort h.fits.formed in cc no)
    tree-links n s (node SwitchCase l (f then (statements ts then done))) h =
        let fs : Fields = f then statements ts then done in
        let c : ℕ → ClassStanding = standing_in s SwitchCase l fs in
        let us : Trees = up_to_super x (write_this_among write made (c 1) ts) in
        let parts = gone-parts n SwitchCase l fs h refl refl in
        let m : Site = sites n SwitchCase l fs 1 in
        let g : Field = after_super_by x true (write_this_by write made (c 0) f) in
        let inner : FieldsGo (sites n SwitchCase l fs) (write_this_in write made c fs) (g then statements us then done) =
        all-links SuperRow w Named (sites n SwitchCase l fs) (λ i. false) (case-links (sites n SwitchCase l fs 0) (c 0) l f (and_parts (field_form SwitchCase l (c-Child s-Expression Optional) f) _ (node_form h.fits.sort SwitchCase l fs h.fits.formed).children).0 parts.0)
        (first-links SuperRow w Named (λ i. sites n SwitchCase l fs (suc i)) (λ i. false) done (statements-links SuperRow w Named m (λ e. absurd (cc e)) (λ e. absurd (cc e)) false (list-links m (c 1) ts parts.1.0)))
        in
        let same = set-same-in write made c fs in
        let found = finds-there n.names m.names (site-out b.name n SwitchCase l fs 1 refl h.sound.1 (parts-unnamed n SwitchCase l fs h refl)) h.finds in
        through-node n s SwitchCase l fs refl (linked-trans (part-links n SwitchCase l fs h refl same inner) (put-case n l g us (with_this_set x us) (puts-set x us) (finds-after n SwitchCase l fs h refl 1 (g then statements us then done) (fields-then fs (write_this_in write made c fs) (g then statements us then done) same (fields-of inner)) found)))
    tree-links n s (node SwitchCase l fs) h = absurd (let no : false ≡ true = case-form l fs h.fits.sort h.fits.formed in cc no)
    tree-links n s (node CallExpression l fs) h =
        let c : ℕ → ClassStanding = standing_in s CallExpression l fs in
        let gs : Fields = write_this_in write made c fs in
        through-node n s CallExpression l fs refl
        (linked-trans (part-links n CallExpression l fs h refl (set-same-in write made c fs) (fields-links (sites n CallExpression l fs) c fs (gone-parts n CallExpression l fs h refl refl))) (call-there n l fs (after_super_in x false gs) h (calls-same x gs ∙ calls-kept write made c fs)))
    tree-links n s (node ChainExpression l (one t then fs)) h =
        let c : ℕ → ClassStanding = standing_in s ChainExpression l (one t then fs) in
        through-node n s ChainExpression l (one t then fs) refl (chain-links n s l t fs h (is_super_call (write_this write made (c 0) t)) refl (λ m g. tree-links m (c 0) t g) (λ d g. fields-links d (λ i. c (suc i)) fs g))
    tree-links n s (node ChainExpression l fs) h = absurd (let no : false ≡ true = chain-form l fs h.fits.sort h.fits.formed in cc no)
    tree-links n s (node k l fs) h =
        let c : ℕ → ClassStanding = standing_in s k l fs in
        through-node n s k l fs refl (part-links n k l fs h refl (set-same-in write made c fs) (fields-links (sites n k l fs) c fs (gone-parts n k l fs h refl refl)))

    fields-links : (d : ℕ → Site) (c : ℕ → ClassStanding) (fs : Fields) → GoneIn d fs → FieldsGo d (write_this_in write made c fs) (after_super_in x false (write_this_in write made c fs))
    fields-links d c done h = ended
    fields-links d c (f then fs) h = all-links SuperRow w Named d (λ i. false) (field-links (d zero) (c zero) f h.0) (fields-links (λ i. d (suc i)) (λ i. c (suc i)) fs h.1)

    field-links : (n : Site) (s : ClassStanding) (f : Field) → GoneBy n f → FieldLinks SuperRow w Named n false (write_this_by write made s f) (after_super_by x false (write_this_by write made s f))
    field-links n s missing h = ended
    field-links n s (one t) h = child-links SuperRow w Named n (tree-links n s t h)
    field-links n s (many ts) h = many-links SuperRow w Named n false (among-links n s ts h)
    field-links n s (statements ts) h = ended

    -- what a case is for
    case-links : (n : Site) (s : ClassStanding) (l : Label) (f : Field) → field_form SwitchCase l (c-Child s-Expression Optional) f ≡ true → GoneBy n f → FieldLinks SuperRow w Named n false (write_this_by write made s f) (after_super_by x true (write_this_by write made s f))
    case-links n s l missing e h = ended
    case-links n s l (one t) e h = child-links SuperRow w Named n (tree-links n s t h)
    case-links n s l (many ts) e h = absurd (cc e)
    case-links n s l (statements ts) e h = absurd (cc e)

    among-links : (n : Site) (s : ClassStanding) (ts : Trees) → GoneAll n ts → TreesLinks SuperRow w Named n (write_this_among write made s ts) (after_super_among x (write_this_among write made s ts))
    among-links n s empty h = ended
    among-links n s (t before ts) h = both-links SuperRow w Named n (tree-links n s t h.0) (among-links n s ts h.1)

    list-links : (n : Site) (s : ClassStanding) (ts : Trees) → GoneAll n ts → TreesLinks SuperRow w Named n (write_this_among write made s ts) (up_to_super x (write_this_among write made s ts))
    list-links n s empty h = ended
    list-links n s (t before ts) h = at (is_super_statement u) refl (λ e. arguments-links n s t (sym (statement-kept write made s t) ∙ e) h.0) (tree-links n s t h.0) (list-links n s ts h.1)
      where
        u : Tree
        u = write_this write made s t

        us : Trees
        us = write_this_among write made s ts

        at : (c : Bool) → is_super_statement u ≡ c → (is_super_statement u ≡ true → TreeGoes n u (in_arguments x u)) → Through n u → TreesLinks SuperRow w Named n us (up_to_super x us) → TreesLinks SuperRow w Named n (u before us) (if c then in_arguments x u before us else after_super x u before up_to_super x us)
        at true e first all rest = head-links SuperRow w Named n us (first e)
        at false e first all rest = both-links SuperRow w Named n all rest

    arguments-links : (n : Site) (s : ClassStanding) (t : Tree) → is_super_statement t ≡ true → Gone n t → TreeGoes n (write_this write made s t) (in_arguments x (write_this write made s t))
    arguments-links n s (node ExpressionStatement l (one (node CallExpression m fs) then done)) e h =
        let all : Fields = one (node CallExpression m fs) then done in
        let c : ℕ → ClassStanding = standing_in s ExpressionStatement l all in
        let d : ℕ → ClassStanding = standing_in (c 0) CallExpression m fs in
        let p : Site = sites n ExpressionStatement l all 0 in
        let there = (gone-parts n ExpressionStatement l all h refl refl).0 in
        let inner : TreeGoes p (node CallExpression m (write_this_in write made d fs)) (node CallExpression m (after_super_in x false (write_this_in write made d fs))) = part-links p CallExpression m fs there refl (set-same-in write made d fs) (fields-links (sites p CallExpression m fs) d fs (gone-parts p CallExpression m fs there refl refl)) in
        let call : write_here write made (c 0) CallExpression (write_this_in write made d fs) ≡ write_this_in write made d fs = here-other write made (c 0) CallExpression (write_this_in write made d fs) refl in
        let child : TreeGoes p (write_this write made (c 0) (node CallExpression m fs)) (node CallExpression m (after_super_in x false (write_here write made (c 0) CallExpression (write_this_in write made d fs)))) = subst (λ (gs : Fields). TreeGoes p (node CallExpression m gs) (node CallExpression m (after_super_in x false gs))) (sym call) inner in
        let whole = part-links n ExpressionStatement l all h refl (set-same-in write made c all) (first-links SuperRow w Named (sites n ExpressionStatement l all) (λ i. false) done (child-links SuperRow w Named p child)) in
        subst (λ (gs : Fields). TreeGoes n (node ExpressionStatement l gs) (in_arguments x (node ExpressionStatement l gs))) (sym (here-other write made s ExpressionStatement (write_this_in write made c all) refl)) whole
    arguments-links n s (node ExpressionStatement l (one (node k m fs) then done)) e h = absurd (cc e)
    arguments-links n s (node k l fs) e h = absurd (cc e)

  -- THE STATEMENTS of the body

  all-stay : (n : Site) (q : Pending) (a : Additions) (ts : Trees) → Settles n (ledger w q (Some b) a) ts ts
  all-stay n q a empty = none_settled
  all-stay n q a (t before ts) = settled stays (all-stay n q a ts)

  pub list-settles : (n : Site) (q : Pending) (a : Additions) (s : ClassStanding) (ts : Trees) → GoneAll n ts → Settles n (ledger w q (Some b) a) (write_this_among write made s ts) (up_to_super x (write_this_among write made s ts))
  list-settles n q a s empty h = none_settled
  list-settles n q a s (t before ts) h = at (is_super_statement u) refl (list-settles n q a s ts h.1)
    where
      u : Tree
      u = write_this write made s t

      us : Trees
      us = write_this_among write made s ts

      at : (c : Bool) → is_super_statement u ≡ c → Settles n (ledger w q (Some b) a) us (up_to_super x us) → Settles n (ledger w q (Some b) a) (u before us) (if c then in_arguments x u before us else after_super x u before up_to_super x us)
      at true e rest = settled (steps-of SuperRow w Named (arguments-links n s t (sym (statement-kept write made s t) ∙ e) h.0) q (Some b) a refl) (all-stay n q a us)
      at false e rest = settled (steps-of SuperRow w Named (tree-links n s t h.0) q (Some b) a refl) rest

  pub list-same : (n : Site) (s : ClassStanding) (ts : Trees) → GoneAll n ts → SameTrees (write_this_among write made s ts) (up_to_super x (write_this_among write made s ts))
  list-same n s ts h = trees-of (list-links n s ts h)
    where
      trees-of : {ts us : Trees} → TreesLinks SuperRow w Named n ts us → SameTrees ts us
      trees-of ended = record { declares = λ v r. refl }
      trees-of (linked g r) = let rest = trees-of r in record { declares = λ v r. rest.declares v r ∙ g.same.declares v r }
