-- The value of a pattern that is read again, where it is a made name: while object rests are taken no pattern that it is the value of binds or writes it.
use Rattle.std.proofs.Common.{◌≡◌, ◌∙◌, ℕ, zero, suc, refl, sym, ap, subst, List, [], ◌∷◌}
use Rattle.std.proofs.lemmas.Bool.{and_from, and_parts}
use Rattle.std.proofs.lemmas.Slice.Eq.{bytes_eq-Decides}
use Rattle.std.specs.Prelude.{Bool, true, false, ◌&&◌, ◌||◌, not, Option, Some, bytes_eq, if◌then◌else◌, is_some, map}
use Rattle.es_tree.specs.Names.{first_text, flag_at}
use Rattle.es_tree.specs.Tree.{Tree, node, Label, Fields, done, ◌then◌, Field, missing, one, many, statements, Trees, empty, ◌before◌, fields, label_of}
use Rattle.es_tree.specs.Walks.{all_nodes, all_in_field, all_in_fields, all_in_trees}
use Rattle.es_tree.specs.Words.{Text}
use Rattle.es_tree.specs.declared.ast_type.AstType.{AstType}
use Rattle.es_tree.specs.declared.ast_type.AstType.TheVariants.{AssignmentPattern, Identifier, ObjectPattern, PatternProperty, RestElement, VariableDeclaration, VariableDeclarator}
use Rattle.es_runs.specs.Alike.{Level, bad_names}
use Rattle.es_runs.specs.Runs.{none_hidden, only}
use Rattle.es_semantic.specs.RolesOf.{binding_of, reads, role_at}
use Rattle.es_semantic.specs.declared.place.Binding.{Binding}
use Rattle.es_semantic.specs.declared.place.Role.{Role}
use Rattle.es_semantic.specs.declared.place.Role.TheVariants.{Binds}
use Rattle.es_resolution.specs.Declarations.{Bound, symbol_of}
use Rattle.es_resolution.specs.Named.{Named, NamedAll, NamedBy, NamedIn}
use Rattle.es_resolution.specs.Resolved.{bound_by}
use Rattle.es_resolution.proofs.Declares.{bound-both}
use Rattle.es_steps.specs.Nodes.{declarator_with, identifier, joined_trees, made}
use Rattle.es_steps.specs.ObjectRest.{declares_as, declares_some, left_of, pattern_node, whole_value}
use Rattle.es_steps.specs.Rules.{next_name, with_made}
use Rattle.es_steps.specs.Steps.{Ledger, Site, Whole}
use Rattle.es_steps.specs.Steps.Spot.{at_node}
use Rattle.es_steps.proofs.Taken.{whole_in}
use Rattle.es_rest_shapes.specs.RestShapes.{any_tree, is_name, is_plain_pattern, reads_key}
use Rattle.es_rest_rows.specs.RestRows.{NamesKeys, PutsName, RestRow, declaring, group, groups, groups_by, keyed_by, keys_by, keys_of, names_key, parted, property_of, taken, text_of_key, with_rest}
use Rattle.es_rest_rows.specs.RestRows.NamesKeys.{knows, no_properties, reads_one}
use Rattle.es_rest_rows.specs.RestRows.PutsName.{for_pattern, with_default}
use Rattle.es_rest_rows.specs.RestRows.RowsWhere.{nested, stores, takes}
use Rattle.es_statement_runs.specs.Places.{avoids, avoids_trees, key_taken, more_taken, target_taken, value_taken}
use Rattle.es_statement_steps.proofs.FreshNames.{fresh_avoids, names_told}
use Rattle.es_statement_steps.proofs.Stands.{standing, stands}
use Rattle.es_rest_runs.specs.Laws.{keeps_made}
use Rattle.es_rest_runs.proofs.Stores.{joined_avoids, plain_shape}

-- NAMES IN USE are made exactly where they were

also_used : (in_use : Text → Bool) (x y : Text) → in_use y ≡ true → (in_use y || bytes_eq x y) ≡ true
also_used in_use x y h = ap (λ b. b || bytes_eq x y) h

other_text : (w : Whole) (x y : Text) → w.in_use x ≡ false → w.in_use y ≡ true → bytes_eq x y ≡ false
other_text w x y new used = at (bytes_eq x y) refl
  where
    at : (b : Bool) → bytes_eq x y ≡ b → b ≡ false
    at true e = absurd (let no : false ≡ true = sym new ∙ ap w.in_use ((bytes_eq-Decides x y).0 e) ∙ used in cc no)
    at false e = refl

-- what making names changes of the whole
pub record Makes (w w' : Whole) : Type 0 where
  pub steady : (m : ℕ) → w'.steady m ≡ w.steady m
  pub made : (y : Text) → w.in_use y ≡ true → bound_by w'.made y ≡ bound_by w.made y
  pub used : (y : Text) → w.in_use y ≡ true → w'.in_use y ≡ true

same_makes : (w : Whole) → Makes w w
same_makes w = record { steady = λ m. refl; made = λ y u. refl; used = λ y u. u }

one_makes : (w : Whole) (x : Text) → w.in_use x ≡ false → Makes w (with_made (next_name w x ∷ []) w)
one_makes w x new = record {
  steady = λ m. refl;
  made = λ y u. bound-both w.made (next_name w x ∷ []) y (bound_by w.made y) false refl (alone (bytes_eq x y) (other_text w x y new u)) ∙ or_none (bound_by w.made y);
  used = λ y u. also_used w.in_use x y u;
}
  where
    alone : (b : Bool) → b ≡ false → is_some (if b then Some (Some w.free_symbol) else Option.None) ≡ false
    alone true e = absurd (cc e)
    alone false e = refl

    or_none : (b : Bool) → (b || false) ≡ b
    or_none true = refl
    or_none false = refl

then_makes : {w w' w'' : Whole} → Makes w w' → Makes w' w'' → Makes w w''
then_makes h g = record { steady = λ m. g.steady m ∙ h.steady m; made = λ y u. g.made y (h.used y u) ∙ h.made y u; used = λ y u. g.used y (h.used y u) }

keys_make : {w w' : Whole} {ps : Trees} {ns : List Bound} → NamesKeys w ps ns w' → Makes w w'
keys_make {w = w} no_properties = same_makes w
keys_make (knows r h) = keys_make h
keys_make {w = w} (reads_one x r silent fresh h) = then_makes (one_makes w x fresh.free) (keys_make h)

pub row_makes : {n : Site} {s s' : Ledger} {t u : Tree} → RestRow n s (at_node t) s' (at_node u) → Makes (whole_in s) (whole_in s')
row_makes (stores {w = w} m l a c p e x b1 b2 b3 b4 b5 b6 fresh) = one_makes w x fresh.free
row_makes (takes m l lp lr ls a ps c t xs b1 b2 b3 b4 b5 b6 keys b8 b9) = keys_make keys
row_makes (nested {w = w} m l lp lq ls a ps rs c k p v u x b1 b2 b3 b4 b5 b6 b7 b8 fresh) = one_makes w x fresh.free

-- SO WHAT STAYS keeps its sources

module _ (w w' : Whole) (makes : Makes w w') (free : ℕ) where
  abbrev N : Role → Tree → Type 0
  N = Named w.in_use free

  own_still : (r : Role) (k : AstType) (l : Label) (fs : Fields) → NamedIn w.in_use free (role_at r k l fs) fs → keeps_made w.made k l fs ≡ true → keeps_made w'.made k l fs ≡ true
  own_still r VariableDeclarator l (one (node ObjectPattern lp ps) then (one (node Identifier ls done) then done)) n h =
      ap (λ b. not b || (is_some (symbol_of ls) && avoids (bad_names none_hidden (only (first_text ls.texts))) target_taken (node ObjectPattern lp ps))) (makes.made (first_text ls.texts) n.1.0.0.0) ∙ h
  own_still r k l fs n h = h

  mutual
    pub still_sources : (r : Role) (t : Tree) → N r t → all_nodes (keeps_made w.made) t ≡ true → all_nodes (keeps_made w'.made) t ≡ true
    still_sources r (node k l fs) n h =
        let d = and_parts (keeps_made w.made k l fs) (all_in_fields (keeps_made w.made) fs) h in
        and_from (keeps_made w'.made k l fs) (all_in_fields (keeps_made w'.made) fs) (own_still r k l fs n.1 d.0) (still_in (role_at r k l fs) fs n.1 d.1)

    pub still_in : (roles : ℕ → Role) (fs : Fields) → NamedIn w.in_use free roles fs → all_in_fields (keeps_made w.made) fs ≡ true → all_in_fields (keeps_made w'.made) fs ≡ true
    still_in roles done n h = refl
    still_in roles (f then fs) n h =
        let d = and_parts (all_in_field (keeps_made w.made) f) (all_in_fields (keeps_made w.made) fs) h in
        and_from (all_in_field (keeps_made w'.made) f) (all_in_fields (keeps_made w'.made) fs) (still_by (roles zero) f n.0 d.0) (still_in (λ i. roles (suc i)) fs n.1 d.1)

    pub still_by : (r : Role) (f : Field) → NamedBy w.in_use free r f → all_in_field (keeps_made w.made) f ≡ true → all_in_field (keeps_made w'.made) f ≡ true
    still_by r missing n h = refl
    still_by r (one t) n h = still_sources r t n h
    still_by r (many ts) n h = still_all r ts n h
    still_by r (statements ts) n h = still_all r ts n h

    pub still_all : (r : Role) (ts : Trees) → NamedAll w.in_use free r ts → all_in_trees (keeps_made w.made) ts ≡ true → all_in_trees (keeps_made w'.made) ts ≡ true
    still_all r empty n h = refl
    still_all r (t before ts) n h =
        let d = and_parts (all_nodes (keeps_made w.made) t) (all_in_trees (keeps_made w.made) ts) h in
        and_from (all_nodes (keeps_made w'.made) t) (all_in_trees (keeps_made w'.made) ts) (still_sources r t n.0 d.0) (still_all r ts n.1 d.1)

-- A PATTERN THAT SPARES its value: where that is a made name it has a symbol, and the pattern doesn't bind or write it

abbrev bad_source : Label → Level → Text → Bool
bad_source ls = bad_names none_hidden (only (first_text ls.texts))

abbrev SparesIt : List Bound → Label → Trees → Type 0
SparesIt bs ls ps = bound_by bs (first_text ls.texts) ≡ true → (is_some (symbol_of ls) ≡ true) × (avoids_trees (bad_source ls) more_taken ps ≡ true)

abbrev name_at : Label → Tree
name_at ls = node Identifier ls done

module _ (bs : List Bound) (ls : Label) where
  -- from what is known of a declarator, and back
  spares_of : (l lp : Label) (ps : Trees) → keeps_made bs VariableDeclarator l (one (pattern_node lp ps) then (one (name_at ls) then done)) ≡ true → SparesIt bs ls ps
  spares_of l lp ps h = at (bound_by bs (first_text ls.texts)) h
    where
      at : (b : Bool) → (not b || (is_some (symbol_of ls) && avoids (bad_source ls) target_taken (pattern_node lp ps))) ≡ true → b ≡ true → (is_some (symbol_of ls) ≡ true) × (avoids_trees (bad_source ls) more_taken ps ≡ true)
      at true h e =
          let d = and_parts (is_some (symbol_of ls)) (avoids (bad_source ls) target_taken (pattern_node lp ps)) h in
          (d.0, (and_parts (avoids_trees (bad_source ls) more_taken ps) true d.1).0)
      at false h e = absurd (cc e)

  keeps_of : (l lp : Label) (ps : Trees) → SparesIt bs ls ps → keeps_made bs VariableDeclarator l (one (pattern_node lp ps) then (one (name_at ls) then done)) ≡ true
  keeps_of l lp ps h = at (bound_by bs (first_text ls.texts)) h
    where
      at : (b : Bool) → (b ≡ true → (is_some (symbol_of ls) ≡ true) × (avoids_trees (bad_source ls) more_taken ps ≡ true)) → (not b || (is_some (symbol_of ls) && avoids (bad_source ls) target_taken (pattern_node lp ps))) ≡ true
      at true h = let d = h refl in and_from (is_some (symbol_of ls)) (avoids (bad_source ls) target_taken (pattern_node lp ps)) d.0 (and_from (avoids_trees (bad_source ls) more_taken ps) true d.1 refl)
      at false h = refl

  -- of parts of a list, and of a list of parts
  spares_parts : (ts us : Trees) → SparesIt bs ls (joined_trees ts us) → SparesIt bs ls ts × SparesIt bs ls us
  spares_parts ts us h = (λ e. (let d = h e in (d.0, (joined_avoids (bad_source ls) more_taken ts us d.1).0)), λ e. (let d = h e in (d.0, (joined_avoids (bad_source ls) more_taken ts us d.1).1)))

  avoids_joined : (ts us : Trees) → avoids_trees (bad_source ls) more_taken ts ≡ true → avoids_trees (bad_source ls) more_taken us ≡ true → avoids_trees (bad_source ls) more_taken (joined_trees ts us) ≡ true
  avoids_joined empty us h g = g
  avoids_joined (t before ts) us h g =
      let d = and_parts (avoids (bad_source ls) more_taken t) (avoids_trees (bad_source ls) more_taken ts) h in
      and_from (avoids (bad_source ls) more_taken t) (avoids_trees (bad_source ls) more_taken (joined_trees ts us)) d.0 (avoids_joined ts us d.1 g)

  spares_joined : (ts us : Trees) → SparesIt bs ls ts → SparesIt bs ls us → SparesIt bs ls (joined_trees ts us)
  spares_joined ts us h g = λ e. (let d = h e in (d.0, avoids_joined ts us d.1 (g e).1))

  spares_one : (t : Tree) (ts : Trees) → SparesIt bs ls (t before ts) → SparesIt bs ls (t before empty) × SparesIt bs ls ts
  spares_one t ts h = spares_parts (t before empty) ts h

  -- a key is no target
  key_good : (c : Bool) (X : Bound) → avoids (bad_source ls) (key_taken c) (identifier X) ≡ true
  key_good true X = refl
  key_good false X = refl

  spares_keyed : (X : Bound) (l : Label) (k v : Tree) → SparesIt bs ls (property_of l k v before empty) → SparesIt bs ls (keyed_by X (property_of l k v) before empty)
  spares_keyed X l k v h = λ e. (let d = h e in (d.0, one_property d.1))
    where
      one_property : avoids_trees (bad_source ls) more_taken (property_of l k v before empty) ≡ true → avoids_trees (bad_source ls) more_taken (keyed_by X (property_of l k v) before empty) ≡ true
      one_property g =
          let a = (and_parts (avoids (bad_source ls) more_taken (property_of l k v)) true g).0 in
          let b = and_parts (avoids (bad_source ls) (key_taken (flag_at 1 l.flags)) k) (avoids (bad_source ls) target_taken v && true) a in
          and_from (avoids (bad_source ls) more_taken (keyed_by X (property_of l k v))) true
          (and_from (avoids (bad_source ls) (key_taken (flag_at 1 l.flags)) (identifier X)) (avoids (bad_source ls) target_taken v && true) (key_good (flag_at 1 l.flags) X) b.1) refl

  -- a name that isn't the value, in the place of a pattern
  name_good : (x : Bound) → bytes_eq x.name (first_text ls.texts) ≡ false → avoids (bad_source ls) target_taken (identifier x) ≡ true
  name_good x h = ap (λ b. not b && true) h

  spares_put : (lq : Label) (k p v u : Tree) (x : Bound) → bytes_eq x.name (first_text ls.texts) ≡ false → PutsName (identifier x) p v u → SparesIt bs ls (property_of lq k v before empty) → SparesIt bs ls (property_of lq k u before empty)
  spares_put lq k p v u x other puts h = λ e. (let d = h e in (d.0, one_property puts d.1))
    where
      default_put : (q : Tree) (l : Label) (e : Tree) → avoids (bad_source ls) target_taken (node AssignmentPattern l (one q then one e then done)) ≡ true → avoids (bad_source ls) target_taken (node AssignmentPattern l (one (identifier x) then one e then done)) ≡ true
      default_put q l e g =
          let b = and_parts (avoids (bad_source ls) target_taken q) (avoids (bad_source ls) value_taken e && true) g in
          and_from (avoids (bad_source ls) target_taken (identifier x)) (avoids (bad_source ls) value_taken e && true) (name_good x other) b.1

      value_put : {p v u : Tree} → PutsName (identifier x) p v u → avoids (bad_source ls) target_taken v ≡ true → avoids (bad_source ls) target_taken u ≡ true
      value_put for_pattern g = name_good x other
      value_put {p = p} (with_default l e silent) g = default_put p l e g

      one_property : {p v u : Tree} → PutsName (identifier x) p v u → avoids_trees (bad_source ls) more_taken (property_of lq k v before empty) ≡ true → avoids_trees (bad_source ls) more_taken (property_of lq k u before empty) ≡ true
      one_property {v = v} {u = u} puts g =
          let a = (and_parts (avoids (bad_source ls) more_taken (property_of lq k v)) true g).0 in
          let b = and_parts (avoids (bad_source ls) (key_taken (flag_at 1 lq.flags)) k) (avoids (bad_source ls) target_taken v && true) a in
          let c = (and_parts (avoids (bad_source ls) target_taken v) true b.1).0 in
          and_from (avoids (bad_source ls) more_taken (property_of lq k u)) true
          (and_from (avoids (bad_source ls) (key_taken (flag_at 1 lq.flags)) k) (avoids (bad_source ls) target_taken u && true) b.0 (and_from (avoids (bad_source ls) target_taken u) true (value_put puts c) refl)) refl

-- WHAT IS MADE keeps its sources

module _ (bs : List Bound) where
  abbrev T : AstType → Label → Fields → Bool
  T = keeps_made bs

  abbrev pub K : Tree → Type 0
  K t = all_nodes T t ≡ true

  abbrev pub KA : Trees → Type 0
  KA ts = all_in_trees T ts ≡ true

  joined_keep : (ts us : Trees) → KA ts → KA us → KA (joined_trees ts us)
  joined_keep empty us h g = g
  joined_keep (t before ts) us h g = let d = and_parts (all_nodes T t) (all_in_trees T ts) h in and_from (all_nodes T t) (all_in_trees T (joined_trees ts us)) d.0 (joined_keep ts us d.1 g)

  keep_joined : (ts us : Trees) → KA (joined_trees ts us) → KA ts × KA us
  keep_joined empty us h = (refl, h)
  keep_joined (t before ts) us h =
      let d = and_parts (all_nodes T t) (all_in_trees T (joined_trees ts us)) h in
      let e = keep_joined ts us d.1 in
      (and_from (all_nodes T t) (all_in_trees T ts) d.0 e.0, e.1)

  one_keep : (t : Tree) → K t → KA (t before empty)
  one_keep t h = and_from (all_nodes T t) true h refl

  -- a declarator of a name, or of a pattern whose value is no name
  two_keep : (l : Label) (p e : Tree) → T VariableDeclarator l (one p then (one e then done)) ≡ true → K p → K e → K (declares_as l p e)
  two_keep l p e so h g = and_from (T VariableDeclarator l (one p then (one e then done))) (all_nodes T p && (all_nodes T e && true)) so (and_from (all_nodes T p) (all_nodes T e && true) h (and_from (all_nodes T e) true g refl))

  keys_keep : {w w' : Whole} {ps : Trees} {ns : List Bound} → NamesKeys w ps ns w' → all_in_fields T (fields (map one (keys_of ns ps))) ≡ true
  keys_keep no_properties = refl
  keys_keep (knows {p = p} {ps = ps} {xs = ns} r h) =
      subst (λ (c : Bool). all_in_fields T (fields (map one (keys_by c ns p (λ ys. keys_of ys ps)))) ≡ true) (sym r) (and_from (all_nodes T (text_of_key p)) (all_in_fields T (fields (map one (keys_of ns ps)))) (text_keep p) (keys_keep h))
    where
      text_keep : (p : Tree) → K (text_of_key p)
      text_keep (node k l (one e then fs)) = refl
      text_keep (node k l done) = refl
      text_keep (node k l (missing then fs)) = refl
      text_keep (node k l (many ts then fs)) = refl
      text_keep (node k l (statements ts then fs)) = refl
  keys_keep (reads_one {w = w} {l = l} {k = k} {v = v} {ps = ps} {xs = ns} x r silent fresh h) =
      subst (λ (c : Bool). all_in_fields T (fields (map one (keys_by c (next_name w x ∷ ns) (property_of l k v) (λ ys. keys_of ys ps)))) ≡ true) (sym r) (keys_keep h)

  left_keep : (v : Bool) (ls : Label) (ks : List Tree) → all_in_fields T (fields (map one ks)) ≡ true → K (left_of v (name_at ls) ks)
  left_keep true ls ks h = rw h refl
  left_keep false ls ks h = rw h refl

  module _ (lp ls : Label) where
    group_keep : (l : Label) (ps : Trees) → SparesIt bs ls ps → KA ps → K (group l (name_at ls) ps)
    group_keep l ps spare h = two_keep (made [] []) (pattern_node l ps) (name_at ls) (keeps_of bs ls (made [] []) l ps spare) (and_from (all_in_trees T ps) true h refl) refl

    groups_keep : {w w' : Whole} {ps : Trees} {ns : List Bound} → NamesKeys w ps ns w' → (ts : Trees) → SparesIt bs ls ts → SparesIt bs ls ps → KA ts → KA ps → KA (groups lp (name_at ls) ns ts ps)
    groups_keep no_properties ts a b h g = one_keep (group lp (name_at ls) ts) (group_keep lp ts a h)
    groups_keep (knows {p = p} {ps = ps} {xs = ns} r keys) ts a b h g =
        let d = and_parts (all_nodes T p) (all_in_trees T ps) g in
        let e = spares_one bs ls p ps b in
        subst (λ (c : Bool). KA (groups_by c lp (name_at ls) ns ts p (λ ys these. groups lp (name_at ls) ys these ps))) (sym r)
        (groups_keep keys (joined_trees ts (p before empty)) (spares_joined bs ls ts (p before empty) a e.0) e.1 (joined_keep ts (p before empty) h (one_keep p d.0)) d.1)
    groups_keep (reads_one {w = w} {l = l} {k = k} {v = v} {ps = ps} {xs = ns} x r silent fresh keys) ts a b h g =
        let X = next_name w x in
        let p = property_of l k v in
        let d = and_parts (all_nodes T p) (all_in_trees T ps) g in
        let e = spares_one bs ls p ps b in
        let parts = and_parts (all_nodes T k) (all_nodes T v && true) d.0 in
        let keyed : KA (keyed_by X p before empty) = one_keep (keyed_by X p) parts.1 in
        let rest = groups lp (name_at ls) ns (keyed_by X p before empty) ps in
        subst (λ (c : Bool). KA (groups_by c lp (name_at ls) (X ∷ ns) ts p (λ ys these. groups lp (name_at ls) ys these ps))) (sym r)
        (and_from (all_nodes T (group (made [] []) (name_at ls) ts)) (all_nodes T (names_key X p) && all_in_trees T rest) (group_keep (made [] []) ts a h)
        (and_from (all_nodes T (names_key X p)) (all_in_trees T rest) (two_keep (made [] []) (identifier X) k refl refl parts.0) (groups_keep keys (keyed_by X p before empty) (spares_keyed bs ls X l k v e.0) e.1 keyed d.1)))

    name_keep : (l : Label) (t e : Tree) → is_name t ≡ true → K e → K (declares_as l t e)
    name_keep l (node Identifier j done) e name h = two_keep l (node Identifier j done) e refl refl h
    name_keep l (node Identifier j (f then fs)) e name h = absurd (cc name)
    name_keep l (node k j fs) e name h = absurd (cc name)

    taken_keep : {w w' : Whole} {ns : List Bound} (ps : Trees) (t : Tree) → is_name t ≡ true → NamesKeys w ps ns w' → SparesIt bs ls ps → KA ps → KA (taken lp (name_at ls) ns ps t)
    taken_keep empty t name keys b g = one_keep (declarator_with t (whole_value (name_at ls))) (name_keep (made [] []) t (whole_value (name_at ls)) name refl)
    taken_keep {ns = ns} (p before ps) t name keys b g =
        let value = left_of (any_tree reads_key (p before ps)) (name_at ls) (keys_of ns (p before ps)) in
        joined_keep (groups lp (name_at ls) ns empty (p before ps)) (declarator_with t value before empty) (groups_keep keys empty (λ e. ((b e).0, refl)) b refl g)
        (one_keep (declarator_with t value) (name_keep (made [] []) t value name (left_keep (any_tree reads_key (p before ps)) ls (keys_of ns (p before ps)) (keys_keep keys))))

    some_keep : (rs : Trees) → SparesIt bs ls rs → KA rs → KA (declares_some lp (name_at ls) rs)
    some_keep empty b g = refl
    some_keep (r before rs) b g = one_keep (group lp (name_at ls) (r before rs)) (group_keep lp (r before rs) b g)

    puts_keep : {x : Bound} {p v u : Tree} → PutsName (identifier x) p v u → K v → K p × K u
    puts_keep for_pattern h = (h, refl)
    puts_keep {p = p} (with_default l e silent) h = let d = and_parts (all_nodes T p) (all_nodes T e && true) h in (d.0, d.1)

    parted_keep : (lq : Label) (ps rs : Trees) (k p v u : Tree) (X : Bound) → bytes_eq X.name (first_text ls.texts) ≡ false → K (declarator_with p (identifier X)) → PutsName (identifier X) p v u → SparesIt bs ls (joined_trees ps (property_of lq k v before rs)) →
        KA (joined_trees ps (property_of lq k v before rs)) → KA (parted lp (name_at ls) ps (property_of lq k u) p X rs)
    parted_keep lq ps rs k p v u X other pattern puts b g =
        let a = spares_parts bs ls ps (property_of lq k v before rs) b in
        let c = spares_one bs ls (property_of lq k v) rs a.1 in
        let d = keep_joined ps (property_of lq k v before rs) g in
        let e = and_parts (all_nodes T (property_of lq k v)) (all_in_trees T rs) d.1 in
        let parts = and_parts (all_nodes T k) (all_nodes T v && true) e.0 in
        let value = (puts_keep puts (and_parts (all_nodes T v) true parts.1).0).1 in
        let property : K (property_of lq k u) = and_from (all_nodes T k) (all_nodes T u && true) parts.0 (and_from (all_nodes T u) true value refl) in
        let front = group_keep (made [] []) (joined_trees ps (property_of lq k u before empty)) (spares_joined bs ls ps (property_of lq k u before empty) a.0 (spares_put bs ls lq k p v u X other puts c.0)) (joined_keep ps (property_of lq k u before empty) d.0 (one_keep (property_of lq k u) property)) in
        let rest = declares_some lp (name_at ls) rs in
        and_from (all_nodes T (group (made [] []) (name_at ls) (joined_trees ps (property_of lq k u before empty)))) (all_nodes T (declarator_with p (identifier X)) && all_in_trees T rest) front
        (and_from (all_nodes T (declarator_with p (identifier X))) (all_in_trees T rest) pattern (some_keep rs c.1 e.1))

-- THE ROWS

-- a new name isn't written where names are in use
new_avoids : (w : Whole) (x : Text) (b : Binding) (t : Tree) → w.in_use x ≡ false → Named w.in_use w.free_symbol (Binds b) t → all_nodes stands t ≡ true → avoids (bad_names none_hidden (only x)) target_taken t ≡ true
new_avoids w x b t new named h = fresh_avoids (bad_names none_hidden (only x)) w.in_use w.free_symbol good (Binds b) target_taken t named (λ e. absurd (cc e)) h (names_told none_hidden (only x) t)
  where
    good : (n : Level) (y : Text) → w.in_use y ≡ true → bad_names none_hidden (only x) n y ≡ false
    good Level.no_evaluation y u = refl
    good Level.value_alone y u = refl
    good Level.an_operand_of_typeof y u = refl
    good Level.whole_reference y u = refl
    good Level.a_callee y u = refl
    good Level.a_target y u = at (bytes_eq y x) refl
      where
        at : (b : Bool) → bytes_eq y x ≡ b → b ≡ false
        at true e = absurd (let no : true ≡ false = sym u ∙ ap w.in_use ((bytes_eq-Decides y x).0 e) ∙ new in cc no)
        at false e = refl

named_joined : (in_use : Text → Bool) (free : ℕ) (r : Role) (ts us : Trees) → NamedAll in_use free r (joined_trees ts us) → NamedAll in_use free r ts × NamedAll in_use free r us
named_joined in_use free r empty us h = (tt, h)
named_joined in_use free r (t before ts) us h = let d = named_joined in_use free r ts us h.1 in ((h.0, d.0), d.1)

stand_joined : (ts us : Trees) → all_in_trees stands (joined_trees ts us) ≡ true → all_in_trees stands us ≡ true
stand_joined empty us h = h
stand_joined (t before ts) us h = stand_joined ts us (and_parts (all_nodes stands t) (all_in_trees stands (joined_trees ts us)) h).1

-- what a node that stands so has in its fields
fields_stand : (k : AstType) (l : Label) (fs : Fields) → all_nodes stands (node k l fs) ≡ true → all_in_fields stands fs ≡ true
fields_stand k l fs h = (standing k l fs h).below

-- the pattern of a new name
pattern_keeps : (w : Whole) (bs : List Bound) (x : Text) (b : Binding) (l : Label) (p : Tree) → w.in_use x ≡ false → is_plain_pattern p ≡ true → Named w.in_use w.free_symbol (Binds b) p → all_nodes stands p ≡ true → K bs p → K bs (declares_as l p (identifier (next_name w x)))
pattern_keeps w bs x b l p new plain named h keep =
    let shape = plain_shape p plain in
    at shape.label shape.parts p shape.same named h keep
  where
    at : (lp : Label) (ps : Trees) (p : Tree) → p ≡ pattern_node lp ps → Named w.in_use w.free_symbol (Binds b) p → all_nodes stands p ≡ true → K bs p → K bs (declares_as l p (identifier (next_name w x)))
    at lp ps p same =
        subst (λ (p : Tree). Named w.in_use w.free_symbol (Binds b) p → all_nodes stands p ≡ true → K bs p → K bs (declares_as l p (identifier (next_name w x)))) {x = pattern_node lp ps} (sym same)
        (λ named h keep. two_keep bs l (pattern_node lp ps) (identifier (next_name w x))
        (keeps_of bs (label_of (identifier (next_name w x))) l lp ps (λ e. (refl, (and_parts (avoids_trees (bad_names none_hidden (only x)) more_taken ps) true (new_avoids w x b (pattern_node lp ps) new named h)).0))) keep refl)

-- a declaration of which one declarator becomes others
declaration_keeps : (w w' : Whole) → Makes w w' → (r : Role) (m : Label) (a c us : Trees) (d : Tree) → (K w'.made d → KA w'.made us) → Named w.in_use w.free_symbol r (declaring m (joined_trees a (d before c))) → K w.made (declaring m (joined_trees a (d before c))) →
    K w'.made (declaring m (joined_trees a (joined_trees us c)))
declaration_keeps w w' makes r m a c us d to named h =
    let T = keeps_made w'.made in
    let all = still_sources w w' makes w.free_symbol r (declaring m (joined_trees a (d before c))) named h in
    let list = (and_parts (all_in_trees T (joined_trees a (d before c))) true all).0 in
    let parts = keep_joined w'.made a (d before c) list in
    let e = and_parts (all_nodes T d) (all_in_trees T c) parts.1 in
    and_from (all_in_trees T (joined_trees a (joined_trees us c))) true (joined_keep w'.made a (joined_trees us c) parts.0 (joined_keep w'.made us c (to e.0) e.1)) refl

-- what is known of the declarator
record Declarator (w : Whole) (m l : Label) (p e : Tree) : Type 0 where
  pattern : Named w.in_use w.free_symbol (Binds (binding_of (first_text m.texts))) p
  value : Named w.in_use w.free_symbol reads e
  stands_so : all_nodes stands p ≡ true

declarator_of : (w : Whole) (r : Role) (m l : Label) (a c : Trees) (p e : Tree) → Named w.in_use w.free_symbol r (declaring m (joined_trees a (declares_as l p e before c))) → all_nodes stands (declaring m (joined_trees a (declares_as l p e before c))) ≡ true → Declarator w m l p e
declarator_of w r m l a c p e named h =
    let d = (named_joined w.in_use w.free_symbol (Binds (binding_of (first_text m.texts))) a (declares_as l p e before c) named.1.0).1.0 in
    let list = (and_parts (all_in_trees stands (joined_trees a (declares_as l p e before c))) true (fields_stand VariableDeclaration m (many (joined_trees a (declares_as l p e before c)) then done) h)).0 in
    let it = (and_parts (all_nodes stands (declares_as l p e)) (all_in_trees stands c) (stand_joined a (declares_as l p e before c) list)).0 in
    record { pattern = d.1.0; value = d.1.1.0; stands_so = (and_parts (all_nodes stands p) (all_nodes stands e && true) (fields_stand VariableDeclarator l (one p then one e then done) it)).0 }

-- and of a pattern in the value of a property
named_put : (in_use : Text → Bool) (free : ℕ) (r : Role) {x p v u : Tree} → PutsName x p v u → Named in_use free r v → Named in_use free r p
named_put in_use free r for_pattern h = h
named_put in_use free r (with_default l e silent) h = h.1.0

stands_put : {x p v u : Tree} → PutsName x p v u → all_nodes stands v ≡ true → all_nodes stands p ≡ true
stands_put for_pattern h = h
stands_put {p = p} (with_default l e silent) h = (and_parts (all_nodes stands p) (all_nodes stands e && true) (fields_stand AssignmentPattern l (one p then one e then done) h)).0

pub row_keeps : {n : Site} {s s' : Ledger} {t u : Tree} → RestRow n s (at_node t) s' (at_node u) → (r : Role) → Named (whole_in s).in_use (whole_in s).free_symbol r t → all_nodes stands t ≡ true → K (whole_in s).made t → K (whole_in s').made u
row_keeps (stores {w = w} m l a c p e x b1 b2 plain b4 b5 b6 fresh) r named h =
    let w' = with_made (next_name w x ∷ []) w in
    let T = keeps_made w'.made in
    let d = declarator_of w r m l a c p e named h in
    let X = identifier (next_name w x) in
    declaration_keeps w w' (one_makes w x fresh.free) r m a c (declarator_with X e before declares_as l p X before empty) (declares_as l p e)
    (λ k.
    let parts = and_parts (all_nodes T p) (all_nodes T e && true) (and_parts (T VariableDeclarator l (one p then (one e then done))) (all_nodes T p && (all_nodes T e && true)) k).1 in
    let value = (and_parts (all_nodes T e) true parts.1).0 in
    and_from (all_nodes T (declarator_with X e)) (all_nodes T (declares_as l p X) && true) (two_keep w'.made (made [] []) X e refl refl value)
    (and_from (all_nodes T (declares_as l p X)) true (pattern_keeps w w'.made x (binding_of (first_text m.texts)) l p fresh.free plain d.pattern d.stands_so parts.0) refl)) named
row_keeps (takes {w = w} {w' = w'} m l lp lr ls a ps c t xs b1 b2 plain name b5 b6 keys b8 b9) r named h =
    let T = keeps_made w'.made in
    let rest : Tree = node RestElement lr (one t then done) in
    let members = joined_trees ps (rest before empty) in
    declaration_keeps w w' (keys_make keys) r m a c (taken lp (name_at ls) xs ps t) (declares_as l (with_rest lp ps lr t) (name_at ls))
    (λ k.
    let own = and_parts (T VariableDeclarator l (one (pattern_node lp members) then (one (name_at ls) then done))) (all_nodes T (pattern_node lp members) && (all_nodes T (name_at ls) && true)) k in
    let inside = (and_parts (all_in_trees T members) true (and_parts (all_nodes T (pattern_node lp members)) (all_nodes T (name_at ls) && true) own.1).0).0 in
    taken_keep w'.made lp ls ps t name keys (spares_parts w'.made ls ps (rest before empty) (spares_of w'.made ls l lp members own.0)).0 (keep_joined w'.made ps (rest before empty) inside).0) named
row_keeps (nested {w = w} m l lp lq ls a ps rs c k p v u x b1 b2 b3 b4 plain puts b7 b8 fresh) r named h =
    let w' = with_made (next_name w x ∷ []) w in
    let T = keeps_made w'.made in
    let b = binding_of (first_text m.texts) in
    let members = joined_trees ps (property_of lq k v before rs) in
    let d = declarator_of w r m l a c (pattern_node lp members) (name_at ls) named h in
    let property = (named_joined w.in_use w.free_symbol (Binds b) ps (property_of lq k v before rs) d.pattern.1.0).1.0 in
    let list = (and_parts (all_in_trees stands members) true (fields_stand ObjectPattern lp (many members then done) d.stands_so)).0 in
    let one_there = (and_parts (all_nodes stands (property_of lq k v)) (all_in_trees stands rs) (stand_joined ps (property_of lq k v before rs) list)).0 in
    let value_there = (and_parts (all_nodes stands v) true (and_parts (all_nodes stands k) (all_nodes stands v && true) (fields_stand PatternProperty lq (one k then one v then done) one_there)).1).0 in
    declaration_keeps w w' (one_makes w x fresh.free) r m a c (parted lp (name_at ls) ps (property_of lq k u) p (next_name w x) rs) (declares_as l (pattern_node lp members) (name_at ls))
    (λ z.
    let own = and_parts (T VariableDeclarator l (one (pattern_node lp members) then (one (name_at ls) then done))) (all_nodes T (pattern_node lp members) && (all_nodes T (name_at ls) && true)) z in
    let inside = (and_parts (all_in_trees T members) true (and_parts (all_nodes T (pattern_node lp members)) (all_nodes T (name_at ls) && true) own.1).0).0 in
    let at_property = (and_parts (all_nodes T (property_of lq k v)) (all_in_trees T rs) (keep_joined w'.made ps (property_of lq k v before rs) inside).1).0 in
    let at_value = (and_parts (all_nodes T v) true (and_parts (all_nodes T k) (all_nodes T v && true) at_property).1).0 in
    let pattern = pattern_keeps w w'.made x b (made [] []) p fresh.free plain (named_put w.in_use w.free_symbol (Binds b) puts property.1.1.0) (stands_put puts value_there) (puts_keep w'.made lp ls puts at_value).0 in
    parted_keep w'.made lp ls lq ps rs k p v u (next_name w x) (other_text w x (first_text ls.texts) fresh.free d.value.0.0) pattern puts (spares_of w'.made ls l lp members own.0) inside) named
