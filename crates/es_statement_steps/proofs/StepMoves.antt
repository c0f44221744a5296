-- A step of rules that act at nodes: the finished trees are the same but at that place, and but for the temporaries that it puts into a list.
use Rattle.std.proofs.Common.{inl, inr, ◌≡◌, ℕ, zero, suc, refl, sym, ap, subst, ◌∙◌, List, [], ◌∷◌, ◌++◌}
use Rattle.std.specs.Prelude.{◌⊎◌, ◌||◌, Bool, true, false, not, Option, None, bytes_eq, codes, map, if◌then◌else◌}
use Rattle.std.proofs.lemmas.List.{append_assoc}
use Rattle.es_tree.specs.Ancestors.{Ancestor}
use Rattle.es_tree.specs.HasForm.{has_form, same_type}
use Rattle.es_tree.specs.Scopes.{Declared, declares}
use Rattle.es_tree.specs.Tree.{Tree, node, Label, Fields, done, ◌then◌, Field, missing, one, many, statements, Trees, empty, ◌before◌, kind_of, trees}
use Rattle.es_tree.specs.Walks.{all_nodes}
use Rattle.es_tree.specs.Words.{Text}
use Rattle.es_tree.specs.declared.ast_type.AstType.{AstType}
use Rattle.es_tree.specs.declared.ast_type.AstType.TheVariants.{BlockStatement, Program, SwitchCase, VariableDeclaration}
use Rattle.es_runs.specs.Alike.{the_value}
use Rattle.es_runs.proofs.Temporary.{bytes_eq-flip, bytes_eq-self}
use Rattle.es_statement_steps.proofs.DeclaredNames.{declares_append}
use Rattle.es_semantic.specs.RolesOf.{role_at}
use Rattle.es_semantic.specs.declared.place.Role.{Role}
use Rattle.es_resolution.specs.Declarations.{Bound}
use Rattle.es_resolution.specs.Resolved.{Place, Resolved, ResolvedAll, ResolvedBy, ResolvedIn, place_in}
use Rattle.es_steps.specs.CoreBridge.{names_among}
use Rattle.es_steps.specs.Nodes.{declarator, joined_trees}
use Rattle.es_steps.specs.Open.{Additions, Pending, after_imports, declaration, finished, finished_field, finished_fields, finished_trees, is_body, is_import, no_additions, opened, pending_statements, whole_list, with_vars, Open, OpenFields, OpenField, OpenTrees}
use Rattle.es_steps.specs.Open.OpenFields.{ends, ◌and◌}
use Rattle.es_steps.specs.Steps.{FieldStep, FieldsStep, Ledger, Site, Spot, Step, TreesStep, Whole, ledger, is_program_list, is_target, site_in}
use Rattle.es_steps.specs.Steps.Spot.{at_beside, at_body, at_list, at_node}
use Rattle.es_steps.specs.Steps.Step.{acts, inside}
use Rattle.es_steps.specs.Steps.FieldsStep.{in_first, in_later}
use Rattle.es_steps.specs.Steps.FieldStep.{acts_on_body, acts_on_list, in_body, in_child, in_children, in_list, in_program, in_target}
use Rattle.es_steps.specs.Steps.TreesStep.{acts_on_flanked, after_flanked, flanks, in_flanked, in_head, in_tail}
use Rattle.es_steps.proofs.FormLists.{IsPlainList}
use Rattle.es_steps.proofs.FormOpen.{AreProperFields, AreProperTrees, IsProper, IsProperField}
use Rattle.es_steps.proofs.FormRules.{AtNodes, no-names}
use Rattle.es_steps.proofs.Opened.{finished-opened}
use Rattle.es_steps.proofs.Taken.{pending_in, this_in, top_in, whole_in}
use Rattle.es_statement_runs.specs.BareVars.{names_around}
use Rattle.es_statement_runs.specs.Laws.{among_names}
use Rattle.es_statement_runs.specs.Names.{declarators_names, lexical_in, own_names, var_names, var_names_all, var_names_at, var_names_in}
use Rattle.es_statement_runs.specs.Places.{Take, take, takes_of, value_taken}
use Rattle.es_statement_runs.proofs.Moved.{BothMute, Moved, MovedField, MovedFields, MovedList, MovedTrees, Room, field_self, fields_self, list_self, moved_self, opened_room, room_in, trees_self}
use Rattle.es_statement_runs.proofs.Moved.Moved.{moved_block, moved_case, moved_node, moved_place}
use Rattle.es_statement_runs.proofs.Moved.MovedField.{moved_many, moved_one}
use Rattle.es_statement_runs.proofs.Moved.MovedFields.{moved_then}
use Rattle.es_statement_runs.proofs.Moved.MovedTrees.{moved_before}
use Rattle.es_statement_steps.proofs.ListMoves.{AllFresh, whole-moved}
use Rattle.es_statement_steps.proofs.MadeNames.{all_made}
use Rattle.es_statement_steps.proofs.Below.{Below, BelowField, BelowTrees, nodes_below}
use Rattle.es_statement_steps.proofs.FoundNames.{Finds, finds_inside}
use Rattle.es_statement_steps.proofs.Stands.{is_program, standing, stands}
use Rattle.es_statement_steps.proofs.Rooms.{IsBlock, IsCase, NoList, NoLists, Stood, StoodIn, block-fields, case-fields, block-longer, by-list, case-longer, is_holder, list-kind, no-body, opened-here, stays_put, stood-inside, unlisted}

-- A RULE OF NODES: the names that it makes, which it puts into the list around or not, and what it does at a node

abbrev pub AllAmong : List Text → List Bound → Type 0
AllAmong xs [] = Unit {0}
AllAmong xs (b ∷ bs) = (among_names xs b.name ≡ true) × AllAmong xs bs

abbrev pub sent : Bool → List Bound → List Bound
sent true new = new
sent false new = []

pub record Acting (hoisted : Bool) (A : List Bound → Site → Whole → Tree → Tree → Type 0) (n : Site) (s s' : Ledger) (t u : Tree) : Type 0 where
  pub new : List Bound
  pub pending : pending_in s' ≡ with_vars (sent hoisted new) (pending_in s)
  pub this : this_in s' ≡ this_in s
  pub top : top_in s' ≡ top_in s
  pub rule : A new n (whole_in s) t u

-- made names that aren't in use
pub record AreNew (w : Whole) (new : List Bound) : Type 0 where
  pub free : (x : Text) → among_names (names_among new) x ≡ true → w.in_use x ≡ false
  pub names : all_made (names_among new) ≡ true

-- What is asked of it: it acts at nodes alone, and at none of the kinds that stay put; neither side declares anything around it, and what they hoist is
-- the same but for the names that it makes
pub record NodeRule (Q : Site → Ledger → Spot → Ledger → Spot → Type 0) (A : List Bound → Site → Whole → Tree → Tree → Type 0) : Type 0 where
  pub hoisted : Bool
  pub nodes : (n : Site) (s s' : Ledger) (x y : Spot) → Q n s x s' y → AtNodes x y
  pub acting : (n : Site) (s s' : Ledger) (t u : Tree) → Q n s (at_node t) s' (at_node u) → Acting hoisted A n s s' t u
  pub new_names : (new : List Bound) (n : Site) (w : Whole) (t u : Tree) → A new n w t u → AreNew w new
  pub acts_on : (new : List Bound) (n : Site) (w : Whole) (t u : Tree) → A new n w t u → stays_put (kind_of t) ≡ false
  pub mute : (new : List Bound) (n : Site) (w : Whole) (t u : Tree) → A new n w t u → all_nodes stands t ≡ true → all_nodes stands u ≡ true → BothMute (names_among new) t u

-- LISTS

-- a list with others written before it
pub below-joined : (P : Tree → Type 0) (bs ts : Trees) → BelowTrees P (joined_trees bs ts) → BelowTrees P ts
below-joined P empty ts h = h
below-joined P (b before bs) ts h = below-joined P bs ts h.1

pub below-after : (P : Tree → Type 0) (bs ts : Trees) → BelowTrees P (after_imports bs ts) → BelowTrees P ts
below-after P bs empty h = tt
below-after P bs (t before ts) h = at (is_import t) (λ g. below-after P bs ts g) h
  where
    at : (v : Bool) → (BelowTrees P (after_imports bs ts) → BelowTrees P ts) → BelowTrees P (if v then t before after_imports bs ts else joined_trees bs (t before ts)) → BelowTrees P (t before ts)
    at true r g = (g.0, r g.1)
    at false r g = below-joined P bs (t before ts) g

pub resolved-after : (r : Role) (p : Place) (bs ts : Trees) → ResolvedAll r p (after_imports bs ts) → ResolvedAll r p ts
resolved-after r p bs empty h = tt
resolved-after r p bs (t before ts) h = at (is_import t) (λ g. resolved-after r p bs ts g) h
  where
    rest : (bs : Trees) → ResolvedAll r p (joined_trees bs (t before ts)) → ResolvedAll r p (t before ts)
    rest empty h = h
    rest (b before bs) h = rest bs h.1

    at : (v : Bool) → (ResolvedAll r p (after_imports bs ts) → ResolvedAll r p ts) → ResolvedAll r p (if v then t before after_imports bs ts else joined_trees bs (t before ts)) → ResolvedAll r p (t before ts)
    at true s g = (g.0, s g.1)
    at false s g = rest bs g

-- what a place takes, by what stands around it
abbrev pub taken_at : List Ancestor → Take
taken_at [] = value_taken
taken_at (a ∷ up) = takes_of (taken_at up) a.kind a.label.texts a.label.flags a.index

-- WHERE A RULE ACTED: at a site whose names are those that the scopes around declare, in a tree whose names are resolved there

pub record Acted (A : List Bound → Site → Whole → Tree → Tree → Type 0) (new : List Bound) (ds : List Declared) (t : Take) (a b : Tree) : Type 0 where
  pub site : Site
  pub whole : Whole
  pub rule : A new site whole a b
  pub resolved : Resolved site.role site.names a
  pub found : Finds ds site.names
  pub stood : all_nodes stands a ≡ true
  pub stood_after : all_nodes stands b ≡ true
  pub taken : t ≡ taken_at site.above

-- what a step leaves, where M is what is known of what it makes with new names, and D that they are declared in it
pub record Went (hoisted : Bool) (s s' : Ledger) (M D : List Bound → Type 0) : Type 0 where
  pub new : List Bound
  pub put : List Bound
  -- the names that are to be declared are pending, or are so
  pub lies : (put ≡ sent hoisted new) ⊎ D (sent hoisted new)
  pub among : AllAmong (names_among new) put
  pub pending : pending_in s' ≡ with_vars put (pending_in s)
  pub this : this_in s' ≡ this_in s
  pub top : top_in s' ≡ top_in s
  pub are_new : AreNew (whole_in s) new
  pub moved : M new

either : {A B C : Type 0} → (B → C) → A ⊎ B → A ⊎ C
either f (inl a) = inl a
either f (inr b) = inr (f b)

pub go-on : {h : Bool} {s s' : Ledger} {M N D E : List Bound → Type 0} → ((new : List Bound) → M new → N new) → ((bs : List Bound) → D bs → E bs) → Went h s s' M D → Went h s s' N E
go-on {h = b} f g h = record { new = h.new; put = h.put; lies = either (g (sent b h.new)) h.lies; among = h.among; pending = h.pending; this = h.this; top = h.top; are_new = h.are_new; moved = f h.new h.moved }

abbrev pub AllDeclared : List Bound → List Declared → Type 0
AllDeclared bs ds = (x : Text) → among_names (names_among bs) x ≡ true → declares ds x ≡ true

or-so : (b : Bool) → (b || true) ≡ true
or-so true = refl
or-so false = refl

declared-left : (bs : List Bound) (ds es : List Declared) → AllDeclared bs ds → AllDeclared bs (ds ++ es)
declared-left bs ds es h x e = declares_append x ds es ∙ ap (λ b. b || declares es x) (h x e)

declared-right : (bs : List Bound) (ds es : List Declared) → AllDeclared bs es → AllDeclared bs (ds ++ es)
declared-right bs ds es h x e = declares_append x ds es ∙ ap (λ b. declares ds x || b) (h x e) ∙ or-so (declares ds x)

-- of a tree, of fields, of a list: in a node that may have lists
abbrev pub InTree : Tree → Tree → List Bound → Type 0
InTree t u bs = (is_holder (kind_of t) ≡ true) × AllDeclared bs (var_names u)

abbrev InFields : AstType → Fields → List Bound → Type 0
InFields k gs bs = (is_holder k ≡ true) × AllDeclared bs (var_names_in gs)

abbrev InField : AstType → Field → List Bound → Type 0
InField k g bs = (is_holder k ≡ true) × AllDeclared bs (var_names_at g)

abbrev pub InTrees : AstType → Trees → List Bound → Type 0
InTrees k us bs = (is_holder k ≡ true) × AllDeclared bs (var_names_all us)

holder-vars : (k : AstType) (l : Label) (gs : Fields) → is_holder k ≡ true → var_names (node k l gs) ≡ var_names_in gs
holder-vars VariableDeclaration l gs h = absurd (cc h)
holder-vars _ l gs h = refl

in-node : (k : AstType) (l : Label) (fs gs : Fields) (bs : List Bound) → InFields k gs bs → InTree (node k l fs) (node k l gs) bs
in-node k l fs gs bs h = (h.0, λ x e. ap (λ ds. declares ds x) (holder-vars k l gs h.0) ∙ h.1 x e)

-- a list, with what is written before it
joined-vars : (cs ts : Trees) → var_names_all (joined_trees cs ts) ≡ var_names_all cs ++ var_names_all ts
joined-vars empty ts = refl
joined-vars (c before cs) ts = ap (λ ds. var_names c ++ ds) (joined-vars cs ts) ∙ sym (append_assoc (var_names c) (var_names_all cs) (var_names_all ts))

-- in either part
or-declares : (x : Text) (ds es : List Declared) → declares (ds ++ es) x ≡ true → (declares ds x ≡ true) ⊎ (declares es x ≡ true)
or-declares x ds es h = parts (declares ds x) (declares es x) (sym (declares_append x ds es) ∙ h)
  where
    parts : (b c : Bool) → (b || c) ≡ true → (b ≡ true) ⊎ (c ≡ true)
    parts true c g = inl refl
    parts false c g = inr g

left-declares : (x : Text) (ds es : List Declared) → declares ds x ≡ true → declares (ds ++ es) x ≡ true
left-declares x ds es h = declares_append x ds es ∙ ap (λ b. b || declares es x) h

right-declares : (x : Text) (ds es : List Declared) → declares es x ≡ true → declares (ds ++ es) x ≡ true
right-declares x ds es h = declares_append x ds es ∙ ap (λ b. declares ds x || b) h ∙ or-so (declares ds x)

joined-declares : (x : Text) (cs ts : Trees) → (declares (var_names_all cs) x ≡ true) ⊎ (declares (var_names_all ts) x ≡ true) → declares (var_names_all (joined_trees cs ts)) x ≡ true
joined-declares x cs ts (inl h) = ap (λ ds. declares ds x) (joined-vars cs ts) ∙ left-declares x (var_names_all cs) (var_names_all ts) h
joined-declares x cs ts (inr h) = ap (λ ds. declares ds x) (joined-vars cs ts) ∙ right-declares x (var_names_all cs) (var_names_all ts) h

after-declares : (x : Text) (cs ts : Trees) → (declares (var_names_all cs) x ≡ true) ⊎ (declares (var_names_all ts) x ≡ true) → declares (var_names_all (after_imports cs ts)) x ≡ true
after-declares x cs empty (inl h) = h
after-declares x cs empty (inr h) = absurd (cc h)
after-declares x cs (t before ts) h = at (is_import t) (split h) (after-declares x cs ts)
  where
    split : (declares (var_names_all cs) x ≡ true) ⊎ (declares (var_names_all (t before ts)) x ≡ true) → (declares (var_names t) x ≡ true) ⊎ ((declares (var_names_all cs) x ≡ true) ⊎ (declares (var_names_all ts) x ≡ true))
    split (inl g) = inr (inl g)
    split (inr g) = again (or-declares x (var_names t) (var_names_all ts) g)
      where
        again : (declares (var_names t) x ≡ true) ⊎ (declares (var_names_all ts) x ≡ true) → (declares (var_names t) x ≡ true) ⊎ ((declares (var_names_all cs) x ≡ true) ⊎ (declares (var_names_all ts) x ≡ true))
        again (inl d) = inl d
        again (inr d) = inr (inr d)

    at : (v : Bool) → (declares (var_names t) x ≡ true) ⊎ ((declares (var_names_all cs) x ≡ true) ⊎ (declares (var_names_all ts) x ≡ true)) → ((declares (var_names_all cs) x ≡ true) ⊎ (declares (var_names_all ts) x ≡ true) → declares (var_names_all (after_imports cs ts)) x ≡ true) →
        declares (var_names_all (if v then t before after_imports cs ts else joined_trees cs (t before ts))) x ≡ true
    at true (inl d) f = left-declares x (var_names t) (var_names_all (after_imports cs ts)) d
    at true (inr d) f = right-declares x (var_names t) (var_names_all (after_imports cs ts)) (f d)
    at false d f = joined-declares x cs (t before ts) h

-- the names of declarators
declarators-declare : (x : Text) (bs : List Bound) → among_names (names_among bs) x ≡ true → declares (declarators_names (codes "var") (trees (map declarator bs))) x ≡ true
declarators-declare x [] h = h
declarators-declare x (b ∷ bs) h = at (bytes_eq x b.name) (bytes_eq b.name x) (bytes_eq-flip x b.name) h (declarators-declare x bs)
  where
    at : (v w : Bool) → v ≡ w → (v || among_names (names_among bs) x) ≡ true → (among_names (names_among bs) x ≡ true → declares (declarators_names (codes "var") (trees (map declarator bs))) x ≡ true) → (w || declares (declarators_names (codes "var") (trees (map declarator bs))) x) ≡ true
    at true true e g f = refl
    at false false e g f = f g
    at true false e g f = absurd (cc e)
    at false true e g f = refl

more-declare : (x : Text) (bs cs : List Bound) → among_names (names_among cs) x ≡ true → declares (declarators_names (codes "var") (trees (map declarator bs ++ map declarator cs))) x ≡ true
more-declare x [] cs h = declarators-declare x cs h
more-declare x (b ∷ bs) cs h = at (bytes_eq b.name x) (more-declare x bs cs h)
  where
    at : (w : Bool) → declares (declarators_names (codes "var") (trees (map declarator bs ++ map declarator cs))) x ≡ true → (w || declares (declarators_names (codes "var") (trees (map declarator bs ++ map declarator cs))) x) ≡ true
    at true g = refl
    at false g = g

written-declare : (x : Text) (ds : List Tree) → declares (declarators_names (codes "var") (trees ds)) x ≡ true → declares (var_names_all (declaration (codes "var") ds empty)) x ≡ true
written-declare x [] h = absurd (cc h)
written-declare x (d ∷ ds) h = left-declares x (declarators_names (codes "var") (trees (d ∷ ds))) [] h

-- so a list with names pending declares them
list-declares : (p q : Pending) (y : Option Bound) (a : Additions) (put : List Bound) (us : Trees) → IsPlainList p y a → q ≡ with_vars put p → AllDeclared put (var_names_all (whole_list q y a us))
list-declares p q y a put us plain e x h =
    let goal = λ (q : Pending) (y : Option Bound) (a : Additions). declares (var_names_all (whole_list q y a us)) x ≡ true in
    subst (λ (q : Pending). goal q y a) (sym e) (subst (λ (y : Option Bound). goal (with_vars put p) y a) (sym plain.this) (subst (λ (a : Additions). goal (with_vars put p) None a) (sym plain.top)
    (subst (λ (p : Pending). goal (with_vars put p) None no_additions) (sym plain.vars.are)
    (after-declares x (declaration (codes "var") (map declarator plain.vars.names ++ map declarator put) empty) us (inl (written-declare x (map declarator plain.vars.names ++ map declarator put) (more-declare x plain.vars.names put h)))))))

-- names are among themselves
among-more : (b : Bound) (bs cs : List Bound) → AllAmong (names_among bs) cs → AllAmong (names_among (b ∷ bs)) cs
among-more b bs [] h = tt
among-more b bs (c ∷ cs) h = (ap (λ v. bytes_eq c.name b.name || v) h.0 ∙ or-so (bytes_eq c.name b.name), among-more b bs cs h.1)

among-self : (bs : List Bound) → AllAmong (names_among bs) bs
among-self [] = tt
among-self (b ∷ bs) = (ap (λ v. v || among_names (names_among bs) b.name) (bytes_eq-self b.name), among-more b bs bs (among-self bs))

sent-among : (h : Bool) (new : List Bound) → AllAmong (names_among new) (sent h new)
sent-among true new = among-self new
sent-among false new = tt

all-fresh : (xs : List Text) (bs : List Bound) → AllAmong xs bs → AllFresh (among_names xs) bs
all-fresh xs [] h = tt
all-fresh xs (b ∷ bs) h = (h.0, all-fresh xs bs h.1)

below-program : (k : AstType) → not (same_type k Program) ≡ true → is_program k ≡ false
below-program Program h = absurd (cc h)
below-program _ h = refl

abbrev pub Fresh : List Bound → Text → Bool
Fresh new = among_names (names_among new)

-- what is known of two trees in the same place
abbrev pub Fine : Tree → Type 0
Fine t = all_nodes stands t ≡ true

pub fine-inside : (k : AstType) (l : Label) (fs : Fields) → Fine (node k l fs) → Below (λ i t. Fine t) fs
fine-inside k l fs h = nodes_below stands fs (standing k l fs h).below

-- names around what stands in a field are found
ties : (n : Site) (ds : List Declared) (k : AstType) (l : Label) (fs : Fields) → is_program k ≡ false → Fine (node k l fs) → ResolvedIn (role_at n.role k l fs) (place_in n.names k l (role_at n.role k l fs) fs) fs → Finds ds n.names → (i : ℕ) → Finds (names_around k (own_names k fs) ds i) (place_in n.names k l (role_at n.role k l fs) fs i)
ties n ds k l fs p h resolved found i = finds_inside ds n.names n.role k l fs i found p h resolved

module _ (Q : Site → Ledger → Spot → Ledger → Spot → Type 0) (A : List Bound → Site → Whole → Tree → Tree → Type 0) (law : NodeRule Q A) where
  pub both-mute : (new : List Bound) (ds : List Declared) (t : Take) (a b : Tree) → Acted A new ds t a b → BothMute (names_among new) a b
  both-mute new ds t a b h = law.mute new h.site h.whole a b h.rule h.stood h.stood_after

  acts-here : (n : Site) (s s' : Ledger) (t u : Tree) → Q n s (at_node t) s' (at_node u) → (o : AstType) (r : Room) (ds : List Declared) (k : Take) → k ≡ taken_at n.above → Stood o r t → Fine t → Fine u → Resolved n.role n.names t → Finds ds n.names →
      Went law.hoisted s s' (λ new. Moved (Fresh new) (Acted A new) r ds k t u) (λ bs. InTree t u bs)
  acts-here n s s' t u h o r ds k taken stood fine after resolved found =
      let a = law.acting n s s' t u h in
      record {
        new = a.new;
        put = sent law.hoisted a.new;
        lies = inl refl;
        among = sent-among law.hoisted a.new;
        pending = a.pending;
        this = a.this;
        top = a.top;
        are_new = law.new_names a.new n (whole_in s) t u a.rule;
        moved = moved_place (opened-here r (kind_of t) stood.room (law.acts_on a.new n (whole_in s) t u a.rule)) (record { site = n; whole = whole_in s; rule = a.rule; resolved = resolved; found = found; stood = fine; stood_after = after; taken = taken });
      }

  -- what was changed in a list of statements, with what is pending for it
  pub record Listed (s s' : Ledger) (r : Room) (ds : List Declared) (more : Bool) (ts us : Trees) : Type 0 where
    pub new : List Bound
    pub this : this_in s' ≡ this_in s
    pub top : top_in s' ≡ top_in s
    pub are_new : AreNew (whole_in s) new
    pub moved : MovedList (Fresh new) (Acted A new) r ds more ts us
    pub declared : AllDeclared (sent law.hoisted new) (var_names_all us)

  pub listed : {w w' : Whole} {p q : Pending} {x x' : Option Bound} {a a' : Additions} {r : Room} {ds : List Declared} {more : Bool} {ts us : Trees} (k : AstType) (y : Option Bound) (b : Additions) → IsPlainList p y b →
      Went law.hoisted (ledger w p x a) (ledger w' q x' a') (λ new. MovedTrees (Fresh new) (Acted A new) r ds (take the_value more) ts us) (λ bs. InTrees k us bs) → Listed (ledger w p x a) (ledger w' q x' a') r ds more (whole_list p y b ts) (whole_list q y b us)
  listed {p = p} {q = q} {us = us} k y b plain h = record {
    new = h.new;
    this = h.this;
    top = h.top;
    are_new = h.are_new;
    moved = whole-moved (names_among h.new) (Acted A h.new) (both-mute h.new) p q y b h.put plain h.pending (all-fresh (names_among h.new) h.put h.among) h.moved;
    declared = written h.lies;
  }
    where
      written : (h.put ≡ sent law.hoisted h.new) ⊎ InTrees k us (sent law.hoisted h.new) → AllDeclared (sent law.hoisted h.new) (var_names_all (whole_list q y b us))
      written (inl e) = subst (λ (bs : List Bound). AllDeclared bs (var_names_all (whole_list q y b us))) e (list-declares p q y b h.put us plain h.pending)
      written (inr d) = λ x e. after-declares x (pending_statements q y b) us (inr (d.1 x e))

  -- nothing is left in the ledger around a list
  kept-outside : {w w' : Whole} {o p q : Pending} {x x' : Option Bound} {a a' : Additions} {r : Room} {ds : List Declared} {more : Bool} {ts us : Trees} {N E : List Bound → Type 0} → Listed (ledger w p x a) (ledger w' q x' a') r ds more ts us →
      ((new : List Bound) → MovedList (Fresh new) (Acted A new) r ds more ts us → N new) → ((bs : List Bound) → AllDeclared bs (var_names_all us) → E bs) → Went law.hoisted (ledger w o x a) (ledger w' o x' a') N E
  kept-outside {o = o} h f g = record { new = h.new; put = []; lies = inr (g (sent law.hoisted h.new) h.declared); among = tt; pending = no-names o; this = h.this; top = h.top; are_new = h.are_new; moved = f h.new h.moved }

  -- a step in the test of a case
  case-test : {r : Room} {ds : List Declared} {k : Take} {l : Label} {s s' : Ledger} {f g : Field} (fs : Fields) → IsCase (f then fs) → (NoList f → Went law.hoisted s s' (λ new. MovedField (Fresh new) (Acted A new) (opened_room r) ds value_taken f g) (λ bs. InField SwitchCase g bs)) →
      Went law.hoisted s s' (λ new. Moved (Fresh new) (Acted A new) r ds k (node SwitchCase l (f then fs)) (node SwitchCase l (g then fs))) (λ bs. InTree (node SwitchCase l (f then fs)) (node SwitchCase l (g then fs)) bs)
  case-test {g = g} (statements ts then done) shape h = go-on (λ new m. moved_case refl m (list_self (Fresh new) (Acted A new) ts)) (λ bs d. (refl, declared-left bs (var_names_at g) (var_names_all ts ++ []) d.1)) (h shape)
  case-test done shape h = absurd shape
  case-test (missing then fs) shape h = absurd shape
  case-test (one t then fs) shape h = absurd shape
  case-test (many ts then fs) shape h = absurd shape
  case-test {f = f} (statements ts then (g then fs)) shape h = absurd (case-longer f (statements ts) g fs shape)

  mutual
    pub step-moved : {n : Site} {s s' : Ledger} {t u : Open} → Step Q n s t s' u → (o : AstType) (r : Room) (ds : List Declared) (k : Take) → k ≡ taken_at n.above → IsProper t → Stood o r (finished t) → Fine (finished t) → Fine (finished u) → Resolved n.role n.names (finished t) → Finds ds n.names →
        Went law.hoisted s s' (λ new. Moved (Fresh new) (Acted A new) r ds k (finished t) (finished u)) (λ bs. InTree (finished t) (finished u) bs)
    step-moved (acts {n = n} {s = s} {s' = s'} t u h) o r ds k taken proper stood fine after resolved found =
        subst (λ (x : Tree). Went law.hoisted s s' (λ new. Moved (Fresh new) (Acted A new) r ds k x (finished (opened u))) (λ bs. InTree x (finished (opened u)) bs)) (sym (finished-opened t))
        (subst (λ (y : Tree). Went law.hoisted s s' (λ new. Moved (Fresh new) (Acted A new) r ds k t y) (λ bs. InTree t y bs)) (sym (finished-opened u))
        (acts-here n s s' t u h o r ds k taken (subst (λ (x : Tree). Stood o r x) (finished-opened t) stood) (subst (λ (x : Tree). Fine x) (finished-opened t) fine) (subst (λ (x : Tree). Fine x) (finished-opened u) after) (subst (λ (x : Tree). Resolved n.role n.names x) (finished-opened t) resolved) found))
    step-moved (inside {n = n} {s = s} {s' = s'} {k = j} {l = l} {fs = fs} {gs = gs} h) o r ds k taken proper stood fine after resolved found =
        let stoods = stood-inside o r j l (finished_fields fs) stood in
        let fines = fine-inside j l (finished_fields fs) fine in
        let afters = fine-inside j l (finished_fields gs) after in
        let finds = ties n ds j l (finished_fields fs) (below-program j stood.nested) fine resolved.2 found in
        let back = λ (i : AstType) (e : j ≡ i) (w : Went law.hoisted s s' (λ new. Moved (Fresh new) (Acted A new) r ds k (node i l (finished_fields fs)) (node i l (finished_fields gs))) (λ bs. InTree (node i l (finished_fields fs)) (node i l (finished_fields gs)) bs)).
        subst (λ (i : AstType). Went law.hoisted s s' (λ new. Moved (Fresh new) (Acted A new) r ds k (node i l (finished_fields fs)) (node i l (finished_fields gs))) (λ bs. InTree (node i l (finished_fields fs)) (node i l (finished_fields gs)) bs)) (sym e) w in
        by-list j (list-kind j (standing j l (finished_fields fs) fine).class stood.nested)
        (λ e. back BlockStatement e (block-moved h r ds k l (subst (λ (i : AstType). AreProperFields (is_body i) fs) e proper) (block-fields stood.sort l (finished_fields fs) (subst (λ (i : AstType). has_form stood.sort (node i l (finished_fields fs)) ≡ true) e stood.form))
        (subst (λ (i : AstType). is_target (site_in n i l fs zero).above ≡ false) (sym e) refl) (subst (λ (i : AstType). is_program_list (site_in n i l fs zero).above ≡ false) (sym e) refl) (subst (λ (i : AstType). value_taken ≡ taken_at (site_in n i l fs zero).above) (sym e) refl)
        (subst (λ (i : AstType). StoodIn r i (finished_fields fs)) e stoods) fines afters resolved.2 (λ m. subst (λ (i : AstType). Finds (names_around i (own_names i (finished_fields fs)) ds m) (site_in n j l fs m).names) e (finds m))))
        (λ e. back SwitchCase e (case-moved h r ds k l (subst (λ (i : AstType). AreProperFields (is_body i) fs) e proper) (case-fields stood.sort l (finished_fields fs) (subst (λ (i : AstType). has_form stood.sort (node i l (finished_fields fs)) ≡ true) e stood.form))
        (subst (λ (i : AstType). is_target (site_in n i l fs 1).above ≡ false) (sym e) refl) (subst (λ (i : AstType). is_program_list (site_in n i l fs 1).above ≡ false) (sym e) refl) (subst (λ (i : AstType). (m : ℕ) → value_taken ≡ taken_at (site_in n i l fs m).above) (sym e) (λ m. refl))
        (subst (λ (i : AstType). StoodIn r i (finished_fields fs)) e stoods) fines afters resolved.2 (λ m. subst (λ (i : AstType). Finds (names_around i (own_names i (finished_fields fs)) ds m) (site_in n j l fs m).names) e (finds m))))
        (λ e. go-on (λ new m. moved_node refl refl m) (λ bs d. in-node j l (finished_fields fs) (finished_fields gs) bs d)
        (fields-moved h j (room_in r j) (names_around j (own_names j (finished_fields fs)) ds) (takes_of k j l.texts l.flags) (λ i. ap (λ t. takes_of t j l.texts l.flags i) taken) (is_body j) proper (no-body o r j l (finished_fields fs) stood) (unlisted o r j l (finished_fields fs) stood e) stoods fines afters resolved.2 finds))

    fields-moved : {c : ℕ → Site} {s s' : Ledger} {fs gs : OpenFields} → FieldsStep Q c s fs s' gs → (j : AstType) (rooms : ℕ → Room) (d : ℕ → List Declared) (takes : ℕ → Take) → ((i : ℕ) → takes i ≡ taken_at (c i).above) → (bodies : ℕ → Bool) → AreProperFields bodies fs → ((i : ℕ) → bodies i ≡ false) → NoLists (finished_fields fs) →
        Below (λ i t. Stood j (rooms i) t) (finished_fields fs) → Below (λ i t. Fine t) (finished_fields fs) → Below (λ i t. Fine t) (finished_fields gs) → ResolvedIn (λ i. (c i).role) (λ i. (c i).names) (finished_fields fs) → ((i : ℕ) → Finds (d i) (c i).names) →
        Went law.hoisted s s' (λ new. MovedFields (Fresh new) (Acted A new) rooms d takes (finished_fields fs) (finished_fields gs)) (λ bs. InFields j (finished_fields gs) bs)
    fields-moved (in_first {g = g} {fs = fs} h) j rooms d takes taken bodies proper none lists stood fine after resolved found =
        go-on (λ new m. moved_then m (fields_self (Fresh new) (Acted A new) (finished_fields fs))) (λ bs e. (e.0, declared-left bs (var_names_at (finished_field g)) (var_names_in (finished_fields fs)) e.1)) (field-moved h j (rooms zero) (d zero) (takes zero) (taken zero) (bodies zero) proper.0 (none zero) lists.0 stood.0 fine.0 after.0 resolved.0 (found zero))
    fields-moved (in_later {f = f} {gs = gs} h) j rooms d takes taken bodies proper none lists stood fine after resolved found =
        go-on (λ new m. moved_then (field_self (Fresh new) (Acted A new) (finished_field f)) m) (λ bs e. (e.0, declared-right bs (var_names_at (finished_field f)) (var_names_in (finished_fields gs)) e.1)) (fields-moved h j (λ i. rooms (suc i)) (λ i. d (suc i)) (λ i. takes (suc i)) (λ i. taken (suc i)) (λ i. bodies (suc i)) proper.1 (λ i. none (suc i)) lists.1 stood.1 fine.1 after.1 resolved.1 (λ i. found (suc i)))

    field-moved : {n : Site} {s s' : Ledger} {f g : OpenField} → FieldStep Q n s f s' g → (j : AstType) (r : Room) (ds : List Declared) (k : Take) → k ≡ taken_at n.above → (b : Bool) → IsProperField b f → b ≡ false → NoList (finished_field f) →
        BelowField (Stood j r) (finished_field f) → BelowField Fine (finished_field f) → BelowField Fine (finished_field g) → ResolvedBy n.role n.names (finished_field f) → Finds ds n.names → Went law.hoisted s s' (λ new. MovedField (Fresh new) (Acted A new) r ds k (finished_field f) (finished_field g)) (λ bs. InField j (finished_field g) bs)
    field-moved (in_child h) j r ds k taken b proper none lists stood fine after resolved found = go-on (λ new m. moved_one m) (λ bs d. (stood.held d.0, d.1)) (step-moved h j r ds k taken proper stood fine after resolved found)
    field-moved (in_children h) j r ds k taken b proper none lists stood fine after resolved found = go-on (λ new m. moved_many m) (λ bs d. d) (trees-moved h j r ds k taken proper stood fine after resolved found)
    field-moved (in_body e y y' h) j r ds k taken b proper none lists stood fine after resolved found = absurd (let e : b ≡ true = proper.0 in cc (e, none))
    field-moved (in_list e e' h) j r ds k taken b proper none lists stood fine after resolved found = absurd lists
    field-moved (in_target e h) j r ds k taken b proper none lists stood fine after resolved found = absurd lists
    field-moved (in_program e h) j r ds k taken b proper none lists stood fine after resolved found = absurd lists
    field-moved (acts_on_list ts us h) j r ds k taken b proper none lists stood fine after resolved found = absurd lists
    field-moved (acts_on_body {n = n} {s = s} {s' = s'} {p = p} t u h) j r ds k taken b proper none lists stood fine after resolved found = absurd (law.nodes n s s' (at_body p t) (at_node u) h)

    pub trees-moved : {n : Site} {s s' : Ledger} {ts us : OpenTrees} → TreesStep Q n s ts s' us → (j : AstType) (r : Room) (ds : List Declared) (k : Take) → k ≡ taken_at n.above → AreProperTrees ts → BelowTrees (Stood j r) (finished_trees ts) → BelowTrees Fine (finished_trees ts) → BelowTrees Fine (finished_trees us) → ResolvedAll n.role n.names (finished_trees ts) → Finds ds n.names →
        Went law.hoisted s s' (λ new. MovedTrees (Fresh new) (Acted A new) r ds k (finished_trees ts) (finished_trees us)) (λ bs. InTrees j (finished_trees us) bs)
    trees-moved (in_head {u = u} {ts = ts} h) j r ds k taken proper stood fine after resolved found = go-on (λ new m. moved_before m (trees_self (Fresh new) (Acted A new) (finished_trees ts))) (λ bs d. (stood.0.held d.0, declared-left bs (var_names (finished u)) (var_names_all (finished_trees ts)) d.1)) (step-moved h j r ds k taken proper.0 stood.0 fine.0 after.0 resolved.0 found)
    trees-moved (in_tail {t = t} {us = us} h) j r ds k taken proper stood fine after resolved found = go-on (λ new m. moved_before (moved_self (Fresh new) (Acted A new) (finished t)) m) (λ bs d. (d.0, declared-right bs (var_names (finished t)) (var_names_all (finished_trees us)) d.1)) (trees-moved h j r ds k taken proper.1 stood.1 fine.1 after.1 resolved.1 found)
    trees-moved (in_flanked h) j r ds k taken proper stood fine after resolved found = absurd proper
    trees-moved (after_flanked h) j r ds k taken proper stood fine after resolved found = absurd proper
    trees-moved (flanks {n = n} {s = s} {s' = s'} {bs = bs} {cs = cs} t u h) j r ds k taken proper stood fine after resolved found = absurd (law.nodes n s s' (at_node t) (at_beside bs u cs) h)
    trees-moved (acts_on_flanked t us h) j r ds k taken proper stood fine after resolved found = absurd proper

    block-moved : {c : ℕ → Site} {s s' : Ledger} {fs gs : OpenFields} → FieldsStep Q c s fs s' gs → (r : Room) (ds : List Declared) (k : Take) (l : Label) → AreProperFields (is_body BlockStatement) fs → IsBlock (finished_fields fs) → is_target (c zero).above ≡ false → is_program_list (c zero).above ≡ false → value_taken ≡ taken_at (c zero).above →
        StoodIn r BlockStatement (finished_fields fs) → Below (λ i t. Fine t) (finished_fields fs) → Below (λ i t. Fine t) (finished_fields gs) → ResolvedIn (λ i. (c i).role) (λ i. (c i).names) (finished_fields fs) → ((i : ℕ) → Finds (names_around BlockStatement (own_names BlockStatement (finished_fields fs)) ds i) (c i).names) →
        Went law.hoisted s s' (λ new. Moved (Fresh new) (Acted A new) r ds k (node BlockStatement l (finished_fields fs)) (node BlockStatement l (finished_fields gs))) (λ bs. InTree (node BlockStatement l (finished_fields fs)) (node BlockStatement l (finished_fields gs)) bs)
    block-moved (in_first {c = c} {fs = ends} (in_list {p = p} {q = q} {y = y} {b = b} {ts = ts} {us = us} e e' h)) r ds k l proper shape target top taken stood fine after resolved found =
        kept-outside (listed BlockStatement y b proper.0.0 (trees-moved h BlockStatement (opened_room r) (lexical_in (whole_list p y b (finished_trees ts)) ++ ds) (take the_value false) taken proper.0.1 (below-after (Stood BlockStatement (opened_room r)) (pending_statements p y b) (finished_trees ts) stood.0) (below-after Fine (pending_statements p y b) (finished_trees ts) fine.0) (below-after Fine (pending_statements q y b) (finished_trees us) after.0) (resolved-after (c zero).role (c zero).names (pending_statements p y b) (finished_trees ts) resolved.0) (found zero))) (λ new m. moved_block refl m) (λ bs d. (refl, declared-left bs (var_names_all (whole_list q y b (finished_trees us))) [] d))
    block-moved (in_first {fs = ends} (in_target e h)) r ds k l proper shape target top taken stood fine after resolved found = absurd (cc (e, target))
    block-moved (in_first {fs = ends} (in_program e h)) r ds k l proper shape target top taken stood fine after resolved found = absurd (cc (e, top))
    block-moved (in_first {fs = ends} (acts_on_list {n = n} {s = s} {s' = s'} {p = p} {q = q} {x = x} {y = y} {a = a} {b = b} ts us h)) r ds k l proper shape target top taken stood fine after resolved found = absurd (law.nodes n s s' (at_list p x a ts) (at_list q y b us) h)
    block-moved (in_first {fs = ends} (in_child h)) r ds k l proper shape target top taken stood fine after resolved found = absurd shape
    block-moved (in_first {fs = ends} (in_children h)) r ds k l proper shape target top taken stood fine after resolved found = absurd shape
    block-moved (in_first {fs = ends} (in_body e y y' h)) r ds k l proper shape target top taken stood fine after resolved found = absurd shape
    block-moved (in_first {fs = ends} (acts_on_body t u h)) r ds k l proper shape target top taken stood fine after resolved found = absurd shape
    block-moved (in_first {f = f} {fs = g and gs} h) r ds k l proper shape target top taken stood fine after resolved found = absurd (block-longer (finished_field f) (finished_field g) (finished_fields gs) shape)
    block-moved (in_later {f = f} (in_first {f = g} {fs = gs} h)) r ds k l proper shape target top taken stood fine after resolved found = absurd (block-longer (finished_field f) (finished_field g) (finished_fields gs) shape)
    block-moved (in_later {f = f} (in_later {f = g} {fs = gs} h)) r ds k l proper shape target top taken stood fine after resolved found = absurd (block-longer (finished_field f) (finished_field g) (finished_fields gs) shape)

    case-moved : {c : ℕ → Site} {s s' : Ledger} {fs gs : OpenFields} → FieldsStep Q c s fs s' gs → (r : Room) (ds : List Declared) (k : Take) (l : Label) → AreProperFields (is_body SwitchCase) fs → IsCase (finished_fields fs) → is_target (c 1).above ≡ false → is_program_list (c 1).above ≡ false → ((i : ℕ) → value_taken ≡ taken_at (c i).above) →
        StoodIn r SwitchCase (finished_fields fs) → Below (λ i t. Fine t) (finished_fields fs) → Below (λ i t. Fine t) (finished_fields gs) → ResolvedIn (λ i. (c i).role) (λ i. (c i).names) (finished_fields fs) → ((i : ℕ) → Finds (names_around SwitchCase (own_names SwitchCase (finished_fields fs)) ds i) (c i).names) →
        Went law.hoisted s s' (λ new. Moved (Fresh new) (Acted A new) r ds k (node SwitchCase l (finished_fields fs)) (node SwitchCase l (finished_fields gs))) (λ bs. InTree (node SwitchCase l (finished_fields fs)) (node SwitchCase l (finished_fields gs)) bs)
    case-moved (in_first {f = f} {fs = fs} h) r ds k l proper shape target top taken stood fine after resolved found = case-test (finished_fields fs) shape (λ lists. field-moved h SwitchCase (opened_room r) ds value_taken (taken zero) false proper.0 refl lists stood.0 fine.0 after.0 resolved.0 (found zero))
    case-moved (in_later {c = c} {f = f} (in_first {fs = ends} (in_list {p = p} {q = q} {y = y} {b = b} {ts = ts} {us = us} e e' h))) r ds k l proper shape target top taken stood fine after resolved found =
        kept-outside (listed SwitchCase y b proper.1.0.0 (trees-moved h SwitchCase (opened_room r) ds (take the_value false) (taken 1) proper.1.0.1 (below-after (Stood SwitchCase (opened_room r)) (pending_statements p y b) (finished_trees ts) stood.1.0) (below-after Fine (pending_statements p y b) (finished_trees ts) fine.1.0) (below-after Fine (pending_statements q y b) (finished_trees us) after.1.0) (resolved-after (c 1).role (c 1).names (pending_statements p y b) (finished_trees ts) resolved.1.0) (found 1))) (λ new m. moved_case refl (field_self (Fresh new) (Acted A new) (finished_field f)) m) (λ bs d. (refl, declared-right bs (var_names_at (finished_field f)) (var_names_all (whole_list q y b (finished_trees us)) ++ []) (declared-left bs (var_names_all (whole_list q y b (finished_trees us))) [] d)))
    case-moved (in_later (in_first {fs = ends} (in_target e h))) r ds k l proper shape target top taken stood fine after resolved found = absurd (cc (e, target))
    case-moved (in_later (in_first {fs = ends} (in_program e h))) r ds k l proper shape target top taken stood fine after resolved found = absurd (cc (e, top))
    case-moved (in_later (in_first {fs = ends} (acts_on_list {n = n} {s = s} {s' = s'} {p = p} {q = q} {x = x} {y = y} {a = a} {b = b} ts us h))) r ds k l proper shape target top taken stood fine after resolved found = absurd (law.nodes n s s' (at_list p x a ts) (at_list q y b us) h)
    case-moved (in_later (in_first {fs = ends} (in_child h))) r ds k l proper shape target top taken stood fine after resolved found = absurd shape
    case-moved (in_later (in_first {fs = ends} (in_children h))) r ds k l proper shape target top taken stood fine after resolved found = absurd shape
    case-moved (in_later (in_first {fs = ends} (in_body e y y' h))) r ds k l proper shape target top taken stood fine after resolved found = absurd shape
    case-moved (in_later (in_first {fs = ends} (acts_on_body t u h))) r ds k l proper shape target top taken stood fine after resolved found = absurd shape
    case-moved (in_later {f = f} (in_first {f = g} {fs = i and gs} h)) r ds k l proper shape target top taken stood fine after resolved found = absurd (case-longer (finished_field f) (finished_field g) (finished_field i) (finished_fields gs) shape)
    case-moved (in_later {f = f} (in_later {f = g} (in_first {f = i} {fs = gs} h))) r ds k l proper shape target top taken stood fine after resolved found = absurd (case-longer (finished_field f) (finished_field g) (finished_field i) (finished_fields gs) shape)
    case-moved (in_later {f = f} (in_later {f = g} (in_later {f = i} {fs = gs} h))) r ds k l proper shape target top taken stood fine after resolved found = absurd (case-longer (finished_field f) (finished_field g) (finished_field i) (finished_fields gs) shape)
