-- What a program keeps while its object rests are taken, node by node: it stays without functions, arrows and classes, none of its names is one of the
-- machine's own, no call leaves out the keys that a name holds, and neither a steady symbol nor `babelHelpers` is written.
use Rattle.std.proofs.Common.{◌≡◌, ℕ, zero, suc, refl, sym, subst}
use Rattle.std.proofs.lemmas.Bool.{and_from, and_parts}
use Rattle.std.specs.Prelude.{Bool, true, false, codes, is_some}
use Rattle.es_tree.specs.Children.{child_at, only_child}
use Rattle.es_tree.specs.Names.{first_text}
use Rattle.es_tree.specs.Tree.{Tree, node, Label, Fields, done, ◌then◌, Field, missing, one, many, statements, Trees, empty, ◌before◌}
use Rattle.es_tree.specs.Walks.{all_nodes, all_in_field, all_in_fields, all_in_trees}
use Rattle.es_tree.specs.declared.ast_type.AstType.{AstType}
use Rattle.es_tree.specs.declared.ast_type.AstType.TheVariants.{Identifier, MetaProperty, ObjectProperty}
use Rattle.es_runs.specs.Runs.{only}
use Rattle.es_semantic.specs.RolesOf.{role_at}
use Rattle.es_semantic.specs.declared.place.Role.{Role}
use Rattle.es_resolution.proofs.Roles.{role-same}
use Rattle.es_statement_runs.specs.Programs.{is_statement_node, names_no_cell}
use Rattle.es_statement_steps.proofs.AvoidedNames.{AtNames, AtNamesAll, AtNamesBy, AtNamesIn, OwnAt, is_aimed}
use Rattle.es_statement_steps.proofs.Unwritten.{IsSparing}
use Rattle.es_rest_runs.specs.Changing.{Changed, ChangedAmong, ChangedBy, ChangedIn}
use Rattle.es_rest_runs.specs.Changing.Changed.{below, here}
use Rattle.es_rest_runs.specs.Changing.ChangedAmong.{head_of, tail_of}
use Rattle.es_rest_runs.specs.Changing.ChangedBy.{many_of, one_of, statements_of}
use Rattle.es_rest_runs.specs.Changing.ChangedIn.{first_of, later_of}
use Rattle.es_rest_runs.specs.Laws.{excludes_no_name}
use Rattle.es_rest_runs.proofs.Kept.{Redeclared, call_still}

-- what is asked of a name: it writes no steady symbol, and if it binds or writes it isn't `babelHelpers`
abbrev pub Spared : (ℕ → Bool) → Role → Label → Type 0
Spared steady r l = ((m : ℕ) → steady m ≡ true → IsSparing m r l) × (is_aimed r ≡ true → only (codes "babelHelpers") (first_text l.texts) ≡ false)

-- and of a node
abbrev pub IsSound : (ℕ → Bool) → Role → AstType → Label → Fields → Type 0
IsSound steady r k l fs = (is_statement_node k l fs ≡ true) × (names_no_cell k l fs ≡ true) × (excludes_no_name k l fs ≡ true) × OwnAt (Spared steady) r k l

module _ (steady : ℕ → Bool) where
  abbrev mutual
    pub Sound : Role → Tree → Type 0
    Sound r (node k l fs) = IsSound steady r k l fs × SoundIn (role_at r k l fs) fs

    pub SoundIn : (ℕ → Role) → Fields → Type 0
    SoundIn roles done = Unit {0}
    SoundIn roles (f then fs) = SoundBy (roles zero) f × SoundIn (λ i. roles (suc i)) fs

    pub SoundBy : Role → Field → Type 0
    SoundBy r missing = Unit {0}
    SoundBy r (one t) = Sound r t
    SoundBy r (many ts) = SoundAll r ts
    SoundBy r (statements ts) = SoundAll r ts

    pub SoundAll : Role → Trees → Type 0
    SoundAll r empty = Unit {0}
    SoundAll r (t before ts) = Sound r t × SoundAll r ts

  -- its tests of nodes
  module _ (test : AstType → Label → Fields → Bool) (so : (r : Role) (k : AstType) (l : Label) (fs : Fields) → IsSound steady r k l fs → test k l fs ≡ true) where
    mutual
      pub sound_nodes : (r : Role) (t : Tree) → Sound r t → all_nodes test t ≡ true
      sound_nodes r (node k l fs) h = and_from (test k l fs) (all_in_fields test fs) (so r k l fs h.0) (sound_fields (role_at r k l fs) fs h.1)

      sound_fields : (roles : ℕ → Role) (fs : Fields) → SoundIn roles fs → all_in_fields test fs ≡ true
      sound_fields roles done h = refl
      sound_fields roles (f then fs) h = and_from (all_in_field test f) (all_in_fields test fs) (sound_field (roles zero) f h.0) (sound_fields (λ i. roles (suc i)) fs h.1)

      sound_field : (r : Role) (f : Field) → SoundBy r f → all_in_field test f ≡ true
      sound_field r missing h = refl
      sound_field r (one t) h = sound_nodes r t h
      sound_field r (many ts) h = sound_trees r ts h
      sound_field r (statements ts) h = sound_trees r ts h

      sound_trees : (r : Role) (ts : Trees) → SoundAll r ts → all_in_trees test ts ≡ true
      sound_trees r empty h = refl
      sound_trees r (t before ts) h = and_from (all_nodes test t) (all_in_trees test ts) (sound_nodes r t h.0) (sound_trees r ts h.1)

  -- its tests of names
  module _ (Q : Role → Label → Type 0) (so : (r : Role) (l : Label) → Spared steady r l → Q r l) where
    own_name : (r : Role) (k : AstType) (l : Label) → OwnAt (Spared steady) r k l → OwnAt Q r k l
    own_name r Identifier l h = so r l h
    own_name r _ l h = tt

    mutual
      pub sound_names : (r : Role) (t : Tree) → Sound r t → AtNames Q r t
      sound_names r (node k l fs) h = (own_name r k l h.0.3, names_in (role_at r k l fs) fs h.1)

      names_in : (roles : ℕ → Role) (fs : Fields) → SoundIn roles fs → AtNamesIn Q roles fs
      names_in roles done h = tt
      names_in roles (f then fs) h = (names_by (roles zero) f h.0, names_in (λ i. roles (suc i)) fs h.1)

      names_by : (r : Role) (f : Field) → SoundBy r f → AtNamesBy Q r f
      names_by r missing h = tt
      names_by r (one t) h = sound_names r t h
      names_by r (many ts) h = names_all r ts h
      names_by r (statements ts) h = names_all r ts h

      names_all : (r : Role) (ts : Trees) → SoundAll r ts → AtNamesAll Q r ts
      names_all r empty h = tt
      names_all r (t before ts) h = (sound_names r t h.0, names_all r ts h.1)

  -- a tree that passes them is sound
  mutual
    pub sound_from : (r : Role) (t : Tree) → all_nodes is_statement_node t ≡ true → all_nodes names_no_cell t ≡ true → all_nodes excludes_no_name t ≡ true → AtNames (Spared steady) r t → Sound r t
    sound_from r (node k l fs) a b c n =
        let d = and_parts (is_statement_node k l fs) (all_in_fields is_statement_node fs) a in
        let e = and_parts (names_no_cell k l fs) (all_in_fields names_no_cell fs) b in
        let g = and_parts (excludes_no_name k l fs) (all_in_fields excludes_no_name fs) c in
        ((d.0, e.0, g.0, n.0), sound_from_in (role_at r k l fs) fs d.1 e.1 g.1 n.1)

    sound_from_in : (roles : ℕ → Role) (fs : Fields) → all_in_fields is_statement_node fs ≡ true → all_in_fields names_no_cell fs ≡ true → all_in_fields excludes_no_name fs ≡ true → AtNamesIn (Spared steady) roles fs → SoundIn roles fs
    sound_from_in roles done a b c n = tt
    sound_from_in roles (f then fs) a b c n =
        let d = and_parts (all_in_field is_statement_node f) (all_in_fields is_statement_node fs) a in
        let e = and_parts (all_in_field names_no_cell f) (all_in_fields names_no_cell fs) b in
        let g = and_parts (all_in_field excludes_no_name f) (all_in_fields excludes_no_name fs) c in
        (sound_from_by (roles zero) f d.0 e.0 g.0 n.0, sound_from_in (λ i. roles (suc i)) fs d.1 e.1 g.1 n.1)

    sound_from_by : (r : Role) (f : Field) → all_in_field is_statement_node f ≡ true → all_in_field names_no_cell f ≡ true → all_in_field excludes_no_name f ≡ true → AtNamesBy (Spared steady) r f → SoundBy r f
    sound_from_by r missing a b c n = tt
    sound_from_by r (one t) a b c n = sound_from r t a b c n
    sound_from_by r (many ts) a b c n = sound_from_all r ts a b c n
    sound_from_by r (statements ts) a b c n = sound_from_all r ts a b c n

    sound_from_all : (r : Role) (ts : Trees) → all_in_trees is_statement_node ts ≡ true → all_in_trees names_no_cell ts ≡ true → all_in_trees excludes_no_name ts ≡ true → AtNamesAll (Spared steady) r ts → SoundAll r ts
    sound_from_all r empty a b c n = tt
    sound_from_all r (t before ts) a b c n =
        let d = and_parts (all_nodes is_statement_node t) (all_in_trees is_statement_node ts) a in
        let e = and_parts (all_nodes names_no_cell t) (all_in_trees names_no_cell ts) b in
        let g = and_parts (all_nodes excludes_no_name t) (all_in_trees excludes_no_name ts) c in
        (sound_from r t d.0 e.0 g.0 n.0, sound_from_all r ts d.1 e.1 g.1 n.1)

-- ALL BUT ONE PLACE stays, where a declaration becomes one of the same word

statement_still : (k : AstType) (l : Label) (fs gs : Fields) → is_statement_node k l fs ≡ true → is_statement_node k l gs ≡ true
statement_still ObjectProperty l fs gs t = t
statement_still MetaProperty l fs gs t = t
statement_still _ l fs gs t = t

cell_still : (k : AstType) (l : Label) (fs gs : Fields) → names_no_cell k l fs ≡ true → names_no_cell k l gs ≡ true
cell_still Identifier l fs gs t = t
cell_still _ l fs gs t = refl

module _ (A : Tree → Tree → Type 0) where
  same_child : {f g : Field} → ChangedBy A f g → is_some (only_child g) ≡ is_some (only_child f)
  same_child (one_of h) = refl
  same_child (many_of h) = refl
  same_child (statements_of h) = refl

  same_children : {fs gs : Fields} → ChangedIn A fs gs → (i : ℕ) → is_some (child_at i gs) ≡ is_some (child_at i fs)
  same_children (first_of h) zero = same_child h
  same_children (first_of h) (suc i) = refl
  same_children (later_of h) zero = refl
  same_children (later_of h) (suc i) = same_children h i

  module _ (steady : ℕ → Bool) (same : (a b : Tree) → A a b → Redeclared a b) (kept : (a b : Tree) → A a b → (r : Role) → Sound steady r a → Sound steady r b) where
    mutual
      pub sound_changed : {a b : Tree} → Changed A a b → (r : Role) → Sound steady r a → Sound steady r b
      sound_changed (here {a = a} {b = b} h) r s = kept a b h r s
      sound_changed (below {k = k} {l = l} {fs = fs} {gs = gs} h) r s = (
        (statement_still k l fs gs s.0.0, cell_still k l fs gs s.0.1, call_still A same k l fs gs h s.0.2, s.0.3),
        subst (λ (roles : ℕ → Role). SoundIn steady roles gs) (sym (role-same r k l fs gs (same_children h))) (changed_in h (role_at r k l fs) s.1),
      )

      changed_in : {fs gs : Fields} → ChangedIn A fs gs → (roles : ℕ → Role) → SoundIn steady roles fs → SoundIn steady roles gs
      changed_in (first_of h) roles s = (changed_by h (roles zero) s.0, s.1)
      changed_in (later_of h) roles s = (s.0, changed_in h (λ i. roles (suc i)) s.1)

      changed_by : {f g : Field} → ChangedBy A f g → (r : Role) → SoundBy steady r f → SoundBy steady r g
      changed_by (one_of h) r s = sound_changed h r s
      changed_by (many_of h) r s = changed_among h r s
      changed_by (statements_of h) r s = changed_among h r s

      changed_among : {ts us : Trees} → ChangedAmong A ts us → (r : Role) → SoundAll steady r ts → SoundAll steady r us
      changed_among (head_of h) r s = (sound_changed h r s.0, s.1)
      changed_among (tail_of h) r s = (s.0, changed_among h r s.1)
