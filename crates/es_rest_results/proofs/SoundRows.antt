-- What a row of object rests makes of a declaration is sound where that was.
use Rattle.std.proofs.Common.{◌≡◌, ◌∙◌, ℕ, refl, sym, ap, subst, List, [], ◌∷◌}
use Rattle.std.proofs.lemmas.Slice.Eq.{bytes_eq-Decides}
use Rattle.std.specs.Prelude.{Bool, true, false, ◌&&◌, not, bytes_eq, codes, map, if◌then◌else◌}
use Rattle.es_tree.specs.Names.{first_text, has_computed}
use Rattle.es_tree.specs.PropertyKeys.{is_read_key, key_text}
use Rattle.es_tree.specs.References.{is_symbol}
use Rattle.es_tree.specs.Tree.{Tree, node, Label, done, ◌then◌, missing, one, many, statements, Trees, empty, ◌before◌, fields}
use Rattle.es_tree.specs.Words.{Text}
use Rattle.es_tree.specs.declared.ast_type.AstType.TheVariants.{Identifier, PatternProperty, RestElement}
use Rattle.es_runs.specs.Runs.{only}
use Rattle.es_semantic.specs.RolesOf.{binding_of, reads}
use Rattle.es_semantic.specs.declared.place.Binding.{Binding}
use Rattle.es_semantic.specs.declared.place.Role.{Role}
use Rattle.es_semantic.specs.declared.place.Role.TheVariants.{Binds, Nothing}
use Rattle.es_resolution.specs.Declarations.{Bound}
use Rattle.es_resolution.specs.Written.{writes}
use Rattle.es_steps.specs.Nodes.{array_node, call_node, declarator_with, identifier, joined_trees, made, member_node, sequence_node, string_node, word}
use Rattle.es_steps.specs.ObjectRest.{declares_as, declares_some, helper_node, left_of, pattern_node, whole_value}
use Rattle.es_steps.specs.Rules.{next_name}
use Rattle.es_steps.specs.Steps.{Ledger, Site, Whole}
use Rattle.es_steps.specs.Steps.Spot.{at_node}
use Rattle.es_rest_shapes.specs.RestShapes.{any_tree, reads_key}
use Rattle.es_rest_rows.specs.RestRows.{NamesKeys, PutsName, RestRow, declaring, group, groups, groups_by, keyed_by, keys_by, keys_of, parted, property_of, taken, text_of_key, with_rest}
use Rattle.es_rest_rows.specs.RestRows.NamesKeys.{knows, no_properties, reads_one}
use Rattle.es_rest_rows.specs.RestRows.PutsName.{for_pattern, with_default}
use Rattle.es_rest_rows.specs.RestRows.RowsWhere.{nested, stores, takes}
use Rattle.es_statement_runs.specs.Scopes.{is_own_cell}
use Rattle.es_statement_steps.proofs.MadeNames.{fresh_made, is_made_text, made_no_cell}
use Rattle.es_rest_results.proofs.SoundTrees.{Sound, SoundAll, SoundIn}

-- a made name isn't `babelHelpers`
made_other : (x : Text) → is_made_text x ≡ true → only (codes "babelHelpers") x ≡ false
made_other x h = at (bytes_eq x (codes "babelHelpers")) refl
  where
    at : (b : Bool) → bytes_eq x (codes "babelHelpers") ≡ b → b ≡ false
    at true e = absurd (let no : false ≡ true = ap is_made_text (sym ((bytes_eq-Decides x (codes "babelHelpers")).0 e)) ∙ h in cc no)
    at false e = refl

-- the role of a key
key_writes : (c : Bool) → writes (if c then reads else Nothing) ≡ false
key_writes true = refl
key_writes false = refl

read_computed : (c : Bool) (k : Tree) → is_read_key c k ≡ true → c ≡ true
read_computed true k h = refl
read_computed false k h = absurd (cc h)

module _ (steady : ℕ → Bool) where
  abbrev S : Role → Tree → Type 0
  S = Sound steady

  abbrev SA : Role → Trees → Type 0
  SA = SoundAll steady

  -- a made name, bound or read
  name_sound : (r : Role) → writes r ≡ false → (b : Bound) → is_made_text b.name ≡ true → S r (identifier b)
  name_sound r w b h = ((refl, ap not (made_no_cell b.name h), refl, (λ m e. ap (λ v. v && is_symbol m b.symbol) w, λ a. made_other b.name h)), tt)

  -- a word, which is only told or read
  told_sound : (x : Text) → is_own_cell x ≡ false → S Nothing (word x)
  told_sound x h = ((refl, ap not h, refl, (λ m e. refl, λ a. absurd (cc a))), tt)

  read_sound : (x : Text) → is_own_cell x ≡ false → S reads (word x)
  read_sound x h = ((refl, ap not h, refl, (λ m e. refl, λ a. absurd (cc a))), tt)

  joined_sound : (r : Role) (ts us : Trees) → SA r ts → SA r us → SA r (joined_trees ts us)
  joined_sound r empty us h g = g
  joined_sound r (t before ts) us h g = (h.0, joined_sound r ts us h.1 g)

  sound_joined : (r : Role) (ts us : Trees) → SA r (joined_trees ts us) → SA r ts × SA r us
  sound_joined r empty us h = (tt, h)
  sound_joined r (t before ts) us h = let d = sound_joined r ts us h.1 in ((h.0, d.0), d.1)

  helper_sound : (r : Role) (h : Text) → is_own_cell h ≡ false → S r (helper_node h)
  helper_sound r h e = ((refl, refl, refl, tt), (read_sound (codes "babelHelpers") refl, (told_sound h e, tt)))

  -- VALUES of a rest

  left_sound : (v : Bool) (s : Tree) (ks : List Tree) → S reads s → SoundIn steady (λ i. reads) (fields (map one ks)) → S reads (left_of v s ks)
  left_sound false s ks h k = ((refl, refl, refl, tt), (helper_sound reads (codes "objectWithoutProperties") refl, ((h, (((refl, refl, refl, tt), k), tt)), tt)))
  left_sound true s ks h k =
      let mapping : S reads (member_node (array_node ks) (codes "map")) = ((refl, refl, refl, tt), (((refl, refl, refl, tt), k), (told_sound (codes "map") refl, tt))) in
      let mapped : S reads (call_node (member_node (array_node ks) (codes "map")) (helper_node (codes "toPropertyKey") ∷ [])) = ((refl, refl, refl, tt), (mapping, ((helper_sound reads (codes "toPropertyKey") refl, tt), tt))) in
      ((refl, refl, refl, tt), (helper_sound reads (codes "objectWithoutProperties") refl, ((h, (mapped, tt)), tt)))

  whole_sound : (s : Tree) → S reads s → S reads (whole_value s)
  whole_sound s h =
      let inner : S reads (call_node (helper_node (codes "objectDestructuringEmpty")) (s ∷ [])) = ((refl, refl, refl, tt), (helper_sound reads (codes "objectDestructuringEmpty") refl, ((h, tt), tt))) in
      let both : S reads (sequence_node (call_node (helper_node (codes "objectDestructuringEmpty")) (s ∷ []) ∷ s ∷ [])) = ((refl, refl, refl, tt), ((inner, (h, tt)), tt)) in
      ((refl, refl, refl, tt), (helper_sound reads (codes "extends") refl, ((((refl, refl, refl, tt), (tt, tt)), (both, tt)), tt)))

  module _ (b : Binding) where
    abbrev B : Role
    B = Binds b

    -- DECLARATORS

    declarator_sound : (l : Label) (p e : Tree) → S B p → S reads e → S B (declares_as l p e)
    declarator_sound l p e h g = ((refl, refl, refl, tt), (h, (g, tt)))

    pattern_sound : (l : Label) (ps : Trees) → SA B ps → S B (pattern_node l ps)
    pattern_sound l ps h = ((refl, refl, refl, tt), (h, tt))

    text_sound : (r : Role) (t : Text) → S r (string_node t)
    text_sound r t = ((refl, refl, refl, tt), tt)

    key_sound : (p : Tree) → S reads (text_of_key p)
    key_sound (node k l (one e then fs)) = text_sound reads (key_text e)
    key_sound (node k l done) = text_sound reads []
    key_sound (node k l (missing then fs)) = text_sound reads []
    key_sound (node k l (many ts then fs)) = text_sound reads []
    key_sound (node k l (statements ts then fs)) = text_sound reads []

    keys_sound : {w w' : Whole} {ps : Trees} {ns : List Bound} → NamesKeys w ps ns w' → SoundIn steady (λ i. reads) (fields (map one (keys_of ns ps)))
    keys_sound no_properties = tt
    keys_sound (knows {p = p} {ps = ps} {xs = ns} r h) = subst (λ (c : Bool). SoundIn steady (λ i. reads) (fields (map one (keys_by c ns p (λ ys. keys_of ys ps))))) (sym r) (key_sound p, keys_sound h)
    keys_sound (reads_one {w = w} {l = l} {k = k} {v = v} {ps = ps} {xs = ns} x r silent fresh h) =
        let X = next_name w x in
        subst (λ (c : Bool). SoundIn steady (λ i. reads) (fields (map one (keys_by c (X ∷ ns) (property_of l k v) (λ ys. keys_of ys ps))))) (sym r) (name_sound reads refl X (fresh_made w.in_use _ x fresh), keys_sound h)

    module _ (lp : Label) (s : Tree) (source : S reads s) where
      group_sound : (l : Label) (ps : Trees) → SA B ps → S B (group l s ps)
      group_sound l ps h = declarator_sound (made [] []) (pattern_node l ps) s (pattern_sound l ps h) source

      groups_sound : {w w' : Whole} {ps : Trees} {ns : List Bound} → NamesKeys w ps ns w' → (ts : Trees) → SA B ts → SA B ps → SA B (groups lp s ns ts ps)
      groups_sound no_properties ts h g = (group_sound lp ts h, tt)
      groups_sound (knows {p = p} {ps = ps} {xs = ns} r keys) ts h g =
          subst (λ (c : Bool). SA B (groups_by c lp s ns ts p (λ ys these. groups lp s ys these ps))) (sym r) (groups_sound keys (joined_trees ts (p before empty)) (joined_sound B ts (p before empty) h (g.0, tt)) g.1)
      groups_sound (reads_one {w = w} {l = l} {k = k} {v = v} {ps = ps} {xs = ns} x r silent fresh keys) ts h g =
          let X = next_name w x in
          let new = fresh_made w.in_use _ x fresh in
          let p = property_of l k v in
          let computed : has_computed PatternProperty l.flags ≡ true = read_computed (has_computed PatternProperty l.flags) k r in
          let key : S reads k = subst (λ (c : Bool). S (if c then reads else Nothing) k) computed g.0.1.0 in
          let named : S B (keyed_by X p) = ((refl, refl, refl, tt), (name_sound (if has_computed PatternProperty l.flags then reads else Nothing) (key_writes (has_computed PatternProperty l.flags)) X new, g.0.1.1)) in
          subst (λ (c : Bool). SA B (groups_by c lp s (X ∷ ns) ts p (λ ys these. groups lp s ys these ps))) (sym r)
          (group_sound (made [] []) ts h, (declarator_sound (made [] []) (identifier X) k (name_sound B refl X new) key, groups_sound keys (keyed_by X p before empty) (named, tt) g.1))

      taken_sound : {w w' : Whole} {ns : List Bound} (ps : Trees) (t : Tree) → NamesKeys w ps ns w' → SA B ps → S B t → SA B (taken lp s ns ps t)
      taken_sound empty t keys h g = (declarator_sound (made [] []) t (whole_value s) g (whole_sound s source), tt)
      taken_sound {ns = ns} (p before ps) t keys h g =
          let value = left_of (any_tree reads_key (p before ps)) s (keys_of ns (p before ps)) in
          joined_sound B (groups lp s ns empty (p before ps)) (declarator_with t value before empty) (groups_sound keys empty tt h)
          (declarator_sound (made [] []) t value g (left_sound (any_tree reads_key (p before ps)) s (keys_of ns (p before ps)) source (keys_sound keys)), tt)

      some_sound : (rs : Trees) → SA B rs → SA B (declares_some lp s rs)
      some_sound empty h = tt
      some_sound (r before rs) h = (group_sound lp (r before rs) h, tt)

      puts_sound : {x p v u : Tree} → PutsName x p v u → S B x → S B v → S B p × S B u
      puts_sound for_pattern g h = (h, g)
      puts_sound (with_default l e silent) g h = (h.1.0, (h.0, (g, h.1.1)))

      parted_sound : (lq : Label) (ps rs : Trees) (k p v u : Tree) (X : Bound) → is_made_text X.name ≡ true → PutsName (identifier X) p v u → SA B (joined_trees ps (property_of lq k v before rs)) → SA B (parted lp s ps (property_of lq k u) p X rs)
      parted_sound lq ps rs k p v u X new puts h =
          let parts = sound_joined B ps (property_of lq k v before rs) h in
          let put = puts_sound puts (name_sound B refl X new) parts.1.0.1.1.0 in
          let property : S B (property_of lq k u) = (parts.1.0.0, (parts.1.0.1.0, (put.1, tt))) in (
            group_sound (made [] []) (joined_trees ps (property_of lq k u before empty)) (joined_sound B ps (property_of lq k u before empty) parts.0 (property, tt)),
            (declarator_sound (made [] []) p (identifier X) put.0 (name_sound reads refl X new), some_sound rs parts.1.1),
          )

  -- THE ROWS

  -- a declaration of which one declarator becomes others
  declaration_sound : (r : Role) (m : Label) (a c us : Trees) (d : Tree) → ((b : Binding) → S (Binds b) d → SA (Binds b) us) → S r (declaring m (joined_trees a (d before c))) → S r (declaring m (joined_trees a (joined_trees us c)))
  declaration_sound r m a c us d to h =
      let b = binding_of (first_text m.texts) in
      let parts = sound_joined (Binds b) a (d before c) h.1.0 in
      (h.0, (joined_sound (Binds b) a (joined_trees us c) parts.0 (joined_sound (Binds b) us c (to b parts.1.0) parts.1.1), tt))

  pub row_sound : {n : Site} {s s' : Ledger} {t u : Tree} → RestRow n s (at_node t) s' (at_node u) → (r : Role) → S r t → S r u
  row_sound (stores {w = w} m l a c p e x b1 b2 b3 b4 b5 b6 fresh) r =
      let X = next_name w x in
      let new = fresh_made w.in_use _ x fresh in
      declaration_sound r m a c (declarator_with (identifier X) e before declares_as l p (identifier X) before empty) (declares_as l p e)
      (λ b h. (declarator_sound b (made [] []) (identifier X) e (name_sound (Binds b) refl X new) h.1.1.0, (declarator_sound b l p (identifier X) h.1.0 (name_sound reads refl X new), tt)))
  row_sound (takes m l lp lr ls a ps c t xs b1 b2 b3 b4 b5 b6 keys b8 b9) r =
      let it : Tree = node Identifier ls done in
      declaration_sound r m a c (taken lp it xs ps t) (declares_as l (with_rest lp ps lr t) it)
      (λ b h. (let parts = sound_joined (Binds b) ps (node RestElement lr (one t then done) before empty) h.1.0.1.0 in taken_sound b lp it h.1.1.0 ps t keys parts.0 parts.1.0.1.0))
  row_sound (nested {w = w} m l lp lq ls a ps rs c k p v u x b1 b2 b3 b4 b5 puts b7 b8 fresh) r =
      let it : Tree = node Identifier ls done in
      declaration_sound r m a c (parted lp it ps (property_of lq k u) p (next_name w x) rs) (declares_as l (pattern_node lp (joined_trees ps (property_of lq k v before rs))) it)
      (λ b h. parted_sound b lp it h.1.1.0 lq ps rs k p v u (next_name w x) (fresh_made w.in_use _ x fresh) puts h.1.0.1.0)
