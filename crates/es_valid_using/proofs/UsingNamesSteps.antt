-- Where one node of a program became another that keeps the rules of declared names, the program keeps them.
use Rattle.std.proofs.Common.{◌≡◌, ◌==◌, ℕ, zero, suc, inl, inr, refl, sym, subst, ◌∙◌, List, [], ◌∷◌, filter}
use Rattle.std.specs.Prelude.{Bool, true, false, not, ◌&&◌, ◌||◌, Some}
use Rattle.es_tree.specs.Ancestors.{Ancestor, stands_in}
use Rattle.es_tree.specs.Children.{child_at, only_child}
use Rattle.es_tree.specs.CoreStaticRules.{is_name}
use Rattle.es_tree.specs.DeclaredNames.{Name, declared, is_same_name}
use Rattle.es_tree.specs.HasForm.{has_form, same_type}
use Rattle.es_tree.specs.Names.{third_stands}
use Rattle.es_tree.specs.StaticRules.{has_node, is_constructor_key}
use Rattle.es_tree.specs.Tree.{Tree, node, Label, Fields, done, ◌then◌, Field, many, Trees, kind_of}
use Rattle.es_tree.specs.Words.{Text}
use Rattle.es_tree.specs.declared.ast_type.AstType.{AstType}
use Rattle.es_tree.specs.declared.ast_type.AstType.TheVariants.{CatchClause, ExportDefaultDeclaration, ExportNamedDeclaration, ExportSpecifier, Identifier, MethodDefinition, ObjectProperty, PatternProperty, Program, PropertyDefinition, StringLiteral, TargetProperty}
use Rattle.es_tree.specs.declared.place.Namespace.TheVariants.{Scope}
use Rattle.es_tree.specs.declared.table.Sort.{Sort}
use Rattle.es_tree.specs.declared.table.Sort.TheVariants.{Program as s-Program}
use Rattle.es_tree.proofs.NodeForm.{node_form}
use Rattle.es_semantic.proofs.FormEdges.{same-kind}
use Rattle.es_steps.specs.Open.{Open, open_node, finished, finished_fields}
use Rattle.es_steps.specs.Rules.{either_rule}
use Rattle.es_steps.specs.Steps.{Ledger, Site, Spot, Whole, the_program, Step}
use Rattle.es_steps.specs.Steps.Spot.{at_node}
use Rattle.es_steps.specs.Steps.Step.{acts, inside}
use Rattle.es_steps.proofs.FormOpen.{IsProper}
use Rattle.es_steps.proofs.FormRules.{AtNodes}
use Rattle.es_steps.proofs.Opened.{finished-opened}
use Rattle.es_valid_steps.proofs.Changed.{is-name}
use Rattle.es_valid_names.proofs.Claims.{Around, Clear, ClearAll, ClearBy, ClearIn, Distinct, OwnClear, Stand, above, around_in, claims, claims_all, claims_by, claims_in, elsewhere, has_private, in_body as in_class, is_owned, is_owner, local_in, outside, owned, push, specified, specifier, stand_in}
use Rattle.es_valid_names.proofs.ClearNodes.{SameShape, SameShapes, declared-fields, face-claims, face-kept, same-shape, same-shapes, stand-kept, wrong-kept}
use Rattle.es_valid_names.proofs.ClearRules.{use_in}
use Rattle.es_valid_names.proofs.ClearSteps.{in-used, moved-stands}
use Rattle.es_valid_names.proofs.MoreAround.{Allows, allows-in, clear-more, clear-more-all, clear-more-by, clear-more-in, wrong-less}
use Rattle.es_valid_names.proofs.NameSteps.{Good, around, top-says}
use Rattle.es_valid_names.proofs.StandsFit.{is_catch, two-one}
use Rattle.es_valid_using.proofs.UsingNamesLists.{Moved, same_list, first-apart, last-apart, moved-any, moved-apart, moved-both, moved-private, moved-self}
use Rattle.es_valid_using.proofs.UsingNamesReplaced.{Replaced, ReplacedAll, ReplacedBy, ReplacedIn, NodeWent, is_clause_body, went-fields}
use Rattle.es_valid_using.proofs.UsingNamesReplaced.Replaced.{here, below}
use Rattle.es_valid_using.proofs.UsingNamesReplaced.ReplacedIn.{first, later}
use Rattle.es_valid_using.proofs.UsingNamesReplaced.ReplacedBy.{one_node, in_many, in_statements}
use Rattle.es_valid_using.proofs.UsingNamesReplaced.ReplacedAll.{head, tail}

-- NAMES MAY GO where the node that is looked at is no program: to a scope inside it
abbrev pub may_go : List Ancestor → Bool
may_go [] = false
may_go (a ∷ up) = (a.number == 1 && not (same_type a.kind Program)) || may_go up

-- above the body of a catch clause that is looked at
abbrev pub clause_above : Label → List Ancestor
clause_above l = above CatchClause l done 1 1 ∷ []

-- where a node that stands so becomes another
pub record NodeMoved (used used' : Text → Bool) (b : Bool) (t u : Tree) : Type 0 where
  pub moved : (up : List Ancestor) → stands_in CatchClause 1 up ≡ b → Moved used used' (may_go up) (claims is_owned up t) (claims is_owned up u)
  pub clear : (c d : Around) → c.used ≡ used → d.used ≡ used' → Allows c d → (st : Stand) → is_catch st ≡ b → (l : Label) → (b ≡ true → Distinct used [] (claims is_owned (clause_above l) t)) → Clear c st t → Clear d st u
  pub name : same_type (kind_of u) Identifier ≡ same_type (kind_of t) Identifier
  pub key : is_constructor_key (Some u) ≡ true → is_constructor_key (Some t) ≡ true
  pub inside : same_type (kind_of t) Program ≡ false

-- WHERE A FIELD STANDS

specified-stand : (b : Bool) → is_catch (specified b) ≡ false
specified-stand true = refl
specified-stand false = refl

local-stand : (st : Stand) → is_catch (local_in st) ≡ false
local-stand specifier = refl
local-stand _ = refl

clause-stand : (st : Stand) (k : AstType) (all : Fields) (i : ℕ) → is_catch (stand_in st k all i) ≡ is_clause_body k i
clause-stand st CatchClause all zero = refl
clause-stand st CatchClause all (suc zero) = refl
clause-stand st CatchClause all (suc (suc i)) = sym (two-one i)
clause-stand st MethodDefinition all zero = refl
clause-stand st MethodDefinition all (suc i) = refl
clause-stand st PropertyDefinition all zero = refl
clause-stand st PropertyDefinition all (suc i) = refl
clause-stand st ObjectProperty all zero = refl
clause-stand st ObjectProperty all (suc i) = refl
clause-stand st PatternProperty all zero = refl
clause-stand st PatternProperty all (suc i) = refl
clause-stand st TargetProperty all zero = refl
clause-stand st TargetProperty all (suc i) = refl
clause-stand st ExportDefaultDeclaration all zero = refl
clause-stand st ExportDefaultDeclaration all (suc i) = refl
clause-stand st ExportNamedDeclaration all zero = refl
clause-stand st ExportNamedDeclaration all (suc zero) = specified-stand (third_stands all)
clause-stand st ExportNamedDeclaration all (suc (suc i)) = refl
clause-stand st ExportSpecifier all zero = local-stand st
clause-stand st ExportSpecifier all (suc i) = refl
clause-stand st _ all i = refl

-- IN A TREE

module _ (used used' : Text → Bool) (more : (x : Text) → used x ≡ true → used' x ≡ true) where
  abbrev pub Moves : Bool → Tree → Tree → Type 0
  Moves = NodeMoved used used'

  moved-push : {go : Bool} (g : List Name) {gs hs : List (List Name)} → Moved used used' go gs hs → Moved used used' go (push g gs) (push g hs)
  moved-push [] h = h
  moved-push (n ∷ g) h = same_list (n ∷ g) h

  tree-name : {b : Bool} {t u : Tree} → Replaced Moves b t u → same_type (kind_of u) Identifier ≡ same_type (kind_of t) Identifier
  tree-name (here h) = h.name
  tree-name (below r) = refl

  tree-key : {b : Bool} {t u : Tree} → Replaced Moves b t u → is_constructor_key (Some u) ≡ true → is_constructor_key (Some t) ≡ true
  tree-key (here h) e = h.key e
  tree-key (below {k = k} {l = l} {fs = fs} {gs = gs} r) e = same k e
    where
      same : (k : AstType) → is_constructor_key (Some (node k l gs)) ≡ true → is_constructor_key (Some (node k l fs)) ≡ true
      same Identifier e = e
      same StringLiteral e = e
      same _ e = absurd (cc e)

  field-name : {b : Bool} {f g : Field} → ReplacedBy Moves b f g → is_name (only_child g) ≡ is_name (only_child f)
  field-name (one_node {t = t} {u = u} r) = is-name u ∙ tree-name r ∙ sym (is-name t)
  field-name (in_many r) = refl
  field-name (in_statements r) = refl

  field-key : {b : Bool} {f g : Field} → ReplacedBy Moves b f g → is_constructor_key (only_child g) ≡ true → is_constructor_key (only_child f) ≡ true
  field-key (one_node r) e = tree-key r e
  field-key (in_many r) e = e
  field-key (in_statements r) e = e

  first-name : {k : AstType} {i : ℕ} {fs gs : Fields} → ReplacedIn Moves k i fs gs → is_name (child_at 0 gs) ≡ is_name (child_at 0 fs)
  first-name (first listed r) = field-name r
  first-name (later r) = refl

  first-key : {k : AstType} {i : ℕ} {fs gs : Fields} → ReplacedIn Moves k i fs gs → is_constructor_key (child_at 0 gs) ≡ true → is_constructor_key (child_at 0 fs) ≡ true
  first-key (first listed r) e = field-key r e
  first-key (later r) e = e

  some-node : {b : Bool} {ts us : Trees} → ReplacedAll Moves b ts us → has_node (many us) ≡ has_node (many ts)
  some-node (head r) = refl
  some-node (tail r) = refl

  field-shape : {b : Bool} {f g : Field} → ReplacedBy Moves b f g → SameShape f g
  field-shape (one_node r) = record { single = refl; some = refl }
  field-shape (in_many r) = record { single = refl; some = some-node r }
  field-shape (in_statements r) = record { single = refl; some = refl }

  shapes : {k : AstType} {i : ℕ} {fs gs : Fields} → ReplacedIn Moves k i fs gs → SameShapes fs gs
  shapes (first {fs = fs} listed r) = (field-shape r, same-shapes fs)
  shapes (later {f = f} r) = (same-shape f, shapes r)

  -- WHAT IS DECLARED

  -- of the fields around only this is asked, whether the first is a name
  faced : {go : Bool} (k : AstType) (l : Label) {fs gs : Fields} → ReplacedIn Moves k 0 fs gs → (up : List Ancestor) (m : ℕ) → Moved used used' go (claims_in is_owned up k l fs m 0 fs) (claims_in is_owned up k l fs m 0 gs) → Moved used used' go (claims_in is_owned up k l fs m 0 fs) (claims_in is_owned up k l gs m 0 gs)
  faced {go} k l {fs} {gs} r up m h = subst (λ (hs : List (List Name)). Moved used used' go (claims_in is_owned up k l fs m 0 fs) hs) (face-claims up k l fs gs m 0 gs (face-kept fs gs (first-name r))) h

  mutual
    tree-moved : {b : Bool} {t u : Tree} → Replaced Moves b t u → (up : List Ancestor) → stands_in CatchClause 1 up ≡ b → Moved used used' (may_go up) (claims is_owned up t) (claims is_owned up u)
    tree-moved (here h) up e = h.moved up e
    tree-moved (below {k = k} {l = l} {fs = fs} {gs = gs} r) up e =
        subst (λ (g : List Name). Moved used used' (may_go up) (push (filter is_owned (declared up (node k l fs))) (claims_in is_owned up k l fs 0 0 fs)) (push (filter is_owned g) (claims_in is_owned up k l gs 0 0 gs))) (declared-fields up k l fs gs) (moved-push (filter is_owned (declared up (node k l fs))) (faced k l r up 0 (fields-moved k l fs up 0 r)))

    -- of the fields of a node, with this number
    fields-moved : (k : AstType) (l : Label) (all : Fields) (up : List Ancestor) (m : ℕ) {i : ℕ} {fs gs : Fields} → ReplacedIn Moves k i fs gs → Moved used used' ((m == 1 && not (same_type k Program)) || may_go up) (claims_in is_owned up k l all m i fs) (claims_in is_owned up k l all m i gs)
    fields-moved k l all up m {i} (first {fs = fs} listed r) = moved-both (field-moved r (above k l all i m ∷ up) refl) (moved-self (claims_in is_owned up k l all m (suc i) fs))
    fields-moved k l all up m {i} (later {f = f} r) = moved-both (moved-self (claims_by is_owned (above k l all i m ∷ up) f)) (fields-moved k l all up m r)

    field-moved : {b : Bool} {f g : Field} → ReplacedBy Moves b f g → (up : List Ancestor) → stands_in CatchClause 1 up ≡ b → Moved used used' (may_go up) (claims_by is_owned up f) (claims_by is_owned up g)
    field-moved (one_node r) up e = tree-moved r up e
    field-moved (in_many r) up e = trees-moved r up e
    field-moved (in_statements r) up e = trees-moved r up e

    trees-moved : {b : Bool} {ts us : Trees} → ReplacedAll Moves b ts us → (up : List Ancestor) → stands_in CatchClause 1 up ≡ b → Moved used used' (may_go up) (claims_all is_owned up ts) (claims_all is_owned up us)
    trees-moved (head {ts = ts} r) up e = moved-both (tree-moved r up e) (moved-self (claims_all is_owned up ts))
    trees-moved (tail {t = t} r) up e = moved-both (moved-self (claims is_owned up t)) (trees-moved r up e)

  node-moved : (k : AstType) (l : Label) {fs gs : Fields} → ReplacedIn Moves k 0 fs gs → (up : List Ancestor) (m : ℕ) → Moved used used' ((m == 1 && not (same_type k Program)) || may_go up) (claims_in is_owned up k l fs m 0 fs) (claims_in is_owned up k l gs m 0 gs)
  node-moved k l {fs} r up m = faced k l r up m (fields-moved k l fs up m r)

  -- THE RULES

  own-moved : (c d : Around) → c.used ≡ used → d.used ≡ used' → (b go : Bool) {gs hs : List (List Name)} → Moved used used' go gs hs → OwnClear c.used b gs → OwnClear d.used b hs
  own-moved c d e g true go {gs} {hs} r h = subst (λ (v : Text → Bool). Distinct v [] hs) (sym g) (moved-apart more r (subst (λ (v : Text → Bool). Distinct v [] gs) e h))
  own-moved c d e g false go r h = tt

  -- what is known of the fields of a catch clause from this one on
  abbrev Clause : AstType → Label → Fields → ℕ → Fields → Type 0
  Clause k l all i fs = same_type k CatchClause ≡ true → Distinct used [] (claims_in is_owned [] k l all 1 i fs)

  -- the body of one
  clause-body : (k : AstType) (l : Label) (all : Fields) (i : ℕ) (f : Field) (fs : Fields) → Clause k l all i (f then fs) → is_clause_body k i ≡ true → Distinct used [] (claims_by is_owned (clause_above l) f)
  clause-body CatchClause l all zero f fs h e = absurd (cc e)
  clause-body CatchClause l all (suc zero) f fs h e = first-apart used (claims_by is_owned (clause_above l) f) (claims_in is_owned [] CatchClause l all 1 2 fs) (h refl)
  clause-body CatchClause l all (suc (suc i)) f fs h e = absurd (cc (two-one i, e))
  clause-body _ l all i f fs h e = absurd (cc e)

  mutual
    tree-clear : {b : Bool} {t u : Tree} → Replaced Moves b t u → (c d : Around) → c.used ≡ used → d.used ≡ used' → Allows c d → (st : Stand) → is_catch st ≡ b → (l : Label) → (b ≡ true → Distinct used [] (claims is_owned (clause_above l) t)) → Clear c st t → Clear d st u
    tree-clear (here h) c d e g m st x l y k = h.clear c d e g m st x l y k
    tree-clear (below {k = k} {l = l} {fs = fs} {gs = gs} r) c d e g m st x other y h = (
      own-moved c d e g (is_owner k) _ (node-moved k l r (outside st k) 1) h.0,
      wrong-less c d m st k l gs (wrong-kept c st k l fs gs (shapes r) (first-key r) h.1),
      fields-clear k l fs (clause k l fs st e h.0) r c d e g m (owned st k l fs) (owned st k l gs) (moved-private (node-moved k l r (outside st k) 1)) st gs (λ j. stand-kept st k fs gs j (shapes r)) h.2,
    )
      where
        clause : (k : AstType) (l : Label) (fs : Fields) (st : Stand) → c.used ≡ used → OwnClear c.used (is_owner k) (owned st k l fs) → Clause k l fs 0 fs
        clause CatchClause l fs st e h x = subst (λ (v : Text → Bool). Distinct v [] (claims_in is_owned [] CatchClause l fs 1 0 fs)) e h
        clause k l fs st e h x = absurd (cc x)

    fields-clear : (k : AstType) (l : Label) (all : Fields) {i : ℕ} {fs gs : Fields} → Clause k l all i fs → ReplacedIn Moves k i fs gs → (c d : Around) → c.used ≡ used → d.used ≡ used' → Allows c d → (ga gb : List (List Name)) → ((x : Text) → has_private ga x ≡ true → has_private gb x ≡ true) → (st : Stand) (all' : Fields) → ((j : ℕ) → stand_in st k all j ≡ stand_in st k all' j) → ClearIn c ga st k all i fs → ClearIn d gb st k all' i gs
    fields-clear k l all {i} clause (first {f = f} {g = g} {fs = fs} listed r) c d e h m ga gb p st all' stands q = (
      subst (λ (z : Stand). ClearBy (around_in d (in_class k i) gb) z g) (stands i)
          (field-clear r (around_in c (in_class k i) ga) (around_in d (in_class k i) gb) (in-used c (in_class k i) ga ∙ e) (in-used d (in_class k i) gb ∙ h) (allows-in c d (in_class k i) ga gb m p) (stand_in st k all i) (clause-stand st k all i) l (clause-body k l all i f fs clause) q.0),
      moved-stands d gb st k all all' (suc i) fs stands (clear-more-in c d m ga gb p st k all (suc i) fs q.1),
    )
    fields-clear k l all {i} clause (later {f = f} {fs = fs} r) c d e h m ga gb p st all' stands q = (
      subst (λ (z : Stand). ClearBy (around_in d (in_class k i) gb) z f) (stands i) (clear-more-by (around_in c (in_class k i) ga) (around_in d (in_class k i) gb) (allows-in c d (in_class k i) ga gb m p) (stand_in st k all i) f q.0),
      fields-clear k l all (λ x. last-apart used (claims_by is_owned (above k l all i 1 ∷ []) f) (claims_in is_owned [] k l all 1 (suc i) fs) (clause x)) r c d e h m ga gb p st all' stands q.1,
    )

    field-clear : {b : Bool} {f g : Field} → ReplacedBy Moves b f g → (c d : Around) → c.used ≡ used → d.used ≡ used' → Allows c d → (st : Stand) → is_catch st ≡ b → (l : Label) → (b ≡ true → Distinct used [] (claims_by is_owned (clause_above l) f)) → ClearBy c st f → ClearBy d st g
    field-clear (one_node r) c d e g m st x l y k = tree-clear r c d e g m st x l y k
    field-clear (in_many r) c d e g m st x l y k = trees-clear r c d e g m st x l y k
    field-clear (in_statements r) c d e g m st x l y k = trees-clear r c d e g m st x l y k

    trees-clear : {b : Bool} {ts us : Trees} → ReplacedAll Moves b ts us → (c d : Around) → c.used ≡ used → d.used ≡ used' → Allows c d → (st : Stand) → is_catch st ≡ b → (l : Label) → (b ≡ true → Distinct used [] (claims_all is_owned (clause_above l) ts)) → ClearAll c st ts → ClearAll d st us
    trees-clear (head {t = t} {ts = ts} r) c d e g m st x l y k = (tree-clear r c d e g m st x l (λ v. first-apart used (claims is_owned (clause_above l) t) (claims_all is_owned (clause_above l) ts) (y v)) k.0, clear-more-all c d m st ts k.1)
    trees-clear (tail {t = t} {ts = ts} r) c d e g m st x l y k = (clear-more c d m st t k.0, trees-clear r c d e g m st x l (λ v. last-apart used (claims is_owned (clause_above l) t) (claims_all is_owned (clause_above l) ts) (y v)) k.1)

  -- a node in which one became another so
  pub replaced-moved : {b : Bool} {t u : Tree} → Replaced Moves b t u → same_type (kind_of t) Program ≡ false → Moves b t u
  replaced-moved r other = record { moved = λ up e. tree-moved r up e; clear = λ c d e g m st x l y k. tree-clear r c d e g m st x l y k; name = tree-name r; key = λ e. tree-key r e; inside = other }

-- ONE STEP in a program

-- what such a rule leaves of a node
abbrev pub MovesNames : Whole → Whole → Bool → Tree → Tree → Type 0
MovesNames w w' b t u = NodeMoved w.in_use w'.in_use b t u

pub record MovesLawful (R : Site → Ledger → Spot → Ledger → Spot → Type 0) : Type 0 where
  pub only : (n : Site) (s s' : Ledger) (x y : Spot) → R n s x s' y → AtNodes x y
  pub at_nodes : (n : Site) (s s' : Ledger) (t u : Tree) (a : Sort) → R n s (at_node t) s' (at_node u) → has_form a t ≡ true → NodeWent MovesNames n s s' t u

pub both-moves : {Q R : Site → Ledger → Spot → Ledger → Spot → Type 0} → MovesLawful Q → MovesLawful R → MovesLawful (either_rule Q R)
both-moves {Q} {R} q r = record { only = only; at_nodes = nodes }
  where
    only : (n : Site) (s s' : Ledger) (x y : Spot) → either_rule Q R n s x s' y → AtNodes x y
    only n s s' x y (inl h) = q.only n s s' x y h
    only n s s' x y (inr h) = r.only n s s' x y h

    nodes : (n : Site) (s s' : Ledger) (t u : Tree) (a : Sort) → either_rule Q R n s (at_node t) s' (at_node u) → has_form a t ≡ true → NodeWent MovesNames n s s' t u
    nodes n s s' t u a (inl h) f = q.at_nodes n s s' t u a h f
    nodes n s s' t u a (inr h) f = r.at_nodes n s s' t u a h f

program-kind : (k : AstType) (l : Label) (fs : Fields) → has_form s-Program (node k l fs) ≡ true → same_type k Program ≡ true
program-kind k l fs f = at (same_type k Program) (node_form s-Program k l fs f).sort
  where
    at : (b : Bool) → (b || false) ≡ true → b ≡ true
    at true e = refl
    at false e = e

pub kind-program : (t : Tree) → has_form s-Program t ≡ true → same_type (kind_of t) Program ≡ true
kind-program (node k l fs) f = program-kind k l fs f

-- what is open afterwards, and has form when it is written
pub record FormedAfter (u : Open) : Type 0 where
  pub proper : IsProper u
  pub formed : has_form s-Program (finished u) ≡ true

-- steps of the rule keep form
abbrev pub KeepsForm : (Site → Ledger → Spot → Ledger → Spot → Type 0) → Type 0
KeepsForm R = (s s' : Ledger) (t u : Open) → Step R the_program s t s' u → IsProper t → has_form s-Program (finished t) ≡ true → FormedAfter u

module _ (R : Site → Ledger → Spot → Ledger → Spot → Type 0) (form : KeepsForm R) (law : MovesLawful R) where
  pub one-step : {s s' : Ledger} {t u : Open} → Step R the_program s t s' u → Good s t → Good s' u
  one-step (acts {s = s} {s' = s'} t u h) g =
      let formed = subst (λ (x : Tree). has_form s-Program x ≡ true) (finished-opened t) g.formed in
      absurd (cc ((law.at_nodes the_program s s' t u s-Program h formed).node_went.inside, kind-program t formed))
  one-step (inside {s = s} {s' = s'} {k = k} {l = l} {fs = fs} {gs = gs} h) g =
      let next = form s s' (open_node k l fs) (open_node k l gs) (inside {n = the_program} h) g.proper g.formed in
      let r = went-fields R law.only MovesNames law.at_nodes the_program s-Program k l fs gs h g.proper g.formed in
      let old = finished_fields fs in
      let new = finished_fields gs in
      let program = same-kind k Program (program-kind k l old g.formed) in
      let goes : Bool = not (same_type k Program) || may_go (outside elsewhere k) in
      let stays : goes ≡ false = λ i. not (same_type (program i) Program) || may_go (outside elsewhere (program i)) in
      let moved = node-moved (use_in s) (use_in s') r.beside.more k l r.replaced (outside elsewhere k) 1 in
      let allows : Allows (around (use_in s) (node k l old)) (around (use_in s') (node k l new)) = record {
        used = r.beside.more;
        privates = λ x e. e;
        top = λ x e. top-says k l new next.formed x ∙ moved-any (is_same_name Scope 1 x) goes (λ d n q. absurd (cc (d, stays))) moved [] [] (λ d. d) (sym (top-says k l old g.formed x) ∙ e);
      } in
      record { proper = next.proper; formed = next.formed; clear = tree-clear (use_in s) (use_in s') r.beside.more (below r.replaced) (around (use_in s) (node k l old)) (around (use_in s') (node k l new)) refl refl allows elsewhere refl l (λ e. absurd (cc e)) g.clear }
