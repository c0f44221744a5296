-- The declarators that are made of a pattern and its source.
use Rattle.std.proofs.Common.{ap, append_assoc, arith, length, subst, sym, ◌+◌, ◌++◌, ◌==◌, ◌∙◌, ◌∷◌, ◌≡◌, [], List, Option, suc, ℕ}
use Rattle.std.proofs.lemmas.Bool.{eqb-true}
use Rattle.std.specs.Prelude.{Bool, false, true}
use Rattle.es_tree.specs.Bare.{bare_label}
use Rattle.es_tree.specs.Tree.{Label, Tree, Trees, empty, trees, ◌before◌}
use Rattle.es_tree.specs.Views.{plain_fields}
use Rattle.es_tree.specs.Words.{Text}
use Rattle.es_scope.specs.declared.context.TraverseCtx.{TraverseCtx}
use Rattle.es_resolution.specs.Declarations.{Bound}
use Rattle.es_resolution.specs.Seen.{seen, seen_among, seen_in}
use Rattle.es_steps.specs.Nodes.{call_node, declarator_with, joined_trees}
use Rattle.es_steps.specs.ObjectRest.{left_of, pattern_node}
use Rattle.es_steps.specs.Steps.{Whole}
use Rattle.es_steps.proofs.Written.{joined-twice}
use Rattle.es_changes.specs.Moments.{Moment, whole_at}
use Rattle.es_rest_rows.specs.RestRows.{group, groups, keys_of}
use Rattle.es_rest_shapes.specs.RestShapes.{any_tree, reads_key}
use Rattle.lower_temporaries.specs.Takings.{ReadsMore, moment_of}
use Rattle.lower_temporaries.specs.declared.state.TransformState.{TransformState}
use Rattle.lower_temporaries.specs.Helpers.{keys_value, mapped_ids, rest_helper}
use Rattle.lower_object_rest.specs.Groups.{Gives, MakesGroups, NamesRead}
use Rattle.lower_object_rest.specs.Groups.NamesRead.{no_properties}
use Rattle.lower_object_rest.specs.Parts.{Parts, Takes, TakesAlone, TakesApart, TakesBeside, pattern_label}
use Rattle.lower_object_rest.specs.Profile.{key_ids}
use Rattle.lower_object_rest.specs.declared.groups.Groups.{Groups as RestGroups}
use Rattle.lower_object_rest.specs.declared.rests.RestPattern.{RestPattern}
use Rattle.lower_object_rest.proofs.Composition.{append-seen}
use Rattle.lower_object_rest.proofs.GroupsMade.{all-groups, left-made}
use Rattle.lower_object_rest.proofs.SeenShapes.{any-read-seen}

-- what is given by calls that make no name
pub reads-give : (ids : ℕ) (old new : TraverseCtx TransformState) → ReadsMore ids old new → Gives ids (moment_of old) (moment_of new)
reads-give ids old new h = record { next_is = ap (λ (a : Moment). a.next) h.moment_is; lists_are = ap (λ (a : Moment). a.lists) h.moment_is; around_is = ap (λ (a : Moment). a.around) h.moment_is; options_are = ap (λ (a : Moment). a.options) h.moment_is }

module _ (old mid valued new : TraverseCtx TransformState) (r : RestPattern) (s : Tree) (g : RestGroups) (pattern value last rest : Tree) (us : List Tree) (m : MakesGroups old mid r.properties.items s g) where
  abbrev rest_of : (ℕ → Text → Option ℕ) → Tree
  rest_of names = declarator_with (seen names r.target) (left_of (any_tree reads_key (trees r.properties.items)) (seen names s) (keys_of m.bound (seen_among names (trees r.properties.items))))

  abbrev last_of : (ℕ → Text → Option ℕ) → Tree
  last_of names = group (bare_label (pattern_label r)) (seen names s) (seen_among names (trees g.properties.items))

  left-is : (names : ℕ → Text → Option ℕ) → seen names value ≡ call_node rest_helper (seen names s ∷ keys_value g.is_read (seen_in names (plain_fields g.keys.items)) ∷ []) → seen names rest ≡ declarator_with (seen names r.target) (seen names value) → seen names rest ≡ rest_of names
  left-is names call one_rest =
      let keys = (all-groups old mid r.properties.items s g m names (bare_label (pattern_label r))).keys in
      let left = left-made (any_tree reads_key (trees r.properties.items)) (seen names s) (keys_of m.bound (seen_among names (trees r.properties.items))) in
      one_rest ∙ ap (declarator_with (seen names r.target)) (call ∙ ((λ i. call_node rest_helper (seen names s ∷ keys_value (m.read i) (keys i) ∷ [])) ∙ left))

  pub beside-made : pattern ≡ pattern_node (pattern_label r) (trees g.properties.items) →
      ((names : ℕ → Text → Option ℕ) → seen names value ≡ call_node rest_helper (seen names s ∷ keys_value g.is_read (seen_in names (plain_fields g.keys.items)) ∷ [])) →
      ((names : ℕ → Text → Option ℕ) → seen names last ≡ declarator_with (seen names pattern) (seen names s)) →
      ((names : ℕ → Text → Option ℕ) → seen names rest ≡ declarator_with (seen names r.target) (seen names value)) →
      us ≡ (g.declarators.items ++ last ∷ []) ++ rest ∷ [] → ReadsMore (6 + mapped_ids g.is_read) mid valued → ReadsMore 2 valued new → TakesBeside old new r s us
  beside-made closed call one_last one_rest put helped declared =
      let same : whole_at (moment_of mid) ≡ whole_at (moment_of new) = sym (ap whole_at declared.moment_is ∙ ap whole_at helped.moment_is) in
      let split = m.gives in
      let valued_more = reads-give (6 + mapped_ids g.is_read) mid valued helped in
      let declared_more = reads-give 2 valued new declared in
      let first = λ (names : ℕ → Text → Option ℕ). seen_among names (trees g.declarators.items) in
      let last_is = λ (names : ℕ → Text → Option ℕ). one_last names ∙ ap (λ (q : Tree). declarator_with (seen names q) (seen names s)) closed in
      record {
        bound = m.bound;
        named = subst (λ (w : Whole). NamesRead (whole_at (moment_of old)) (trees r.properties.items) m.bound w) same m.named;
        are = λ names.
            ap (λ (ts : List Tree). seen_among names (trees ts)) (put ∙ append_assoc g.declarators.items (last ∷ []) (rest ∷ []))
            ∙ (append-seen names g.declarators.items (last ∷ rest ∷ [])
            ∙ ((λ i. joined_trees (first names) (last_is names i before left-is names (call names) (one_rest names) i before empty))
            ∙ (sym (joined-twice (first names) (last_of names before empty) (rest_of names before empty))
            ∙ ap (λ (ts : Trees). joined_trees ts (rest_of names before empty)) (sym (all-groups old mid r.properties.items s g m names (bare_label (pattern_label r))).declare))));
        gives = record {
          next_is = omega (arith, ap mapped_ids m.read, split.next_is, valued_more.next_is, declared_more.next_is);
          lists_are = declared_more.lists_are ∙ (valued_more.lists_are ∙ split.lists_are);
          around_is = declared_more.around_is ∙ (valued_more.around_is ∙ split.around_is);
          options_are = declared_more.options_are ∙ (valued_more.options_are ∙ split.options_are);
        };
      }

-- AS ONE LIST, with and without properties

beside-list : (old new : TraverseCtx TransformState) (p s : Tree) (lp : Label) (t : Tree) (ps : List Tree) (bound : List Bound) (us : List Tree) → (length ps == 0) ≡ false → Parts p lp ps t → NamesRead (whole_at (moment_of old)) (trees ps) bound (whole_at (moment_of new)) →
    ((names : ℕ → Text → Option ℕ) → seen_among names (trees us) ≡ joined_trees (groups (bare_label lp) (seen names s) bound empty (seen_among names (trees ps))) (declarator_with (seen names t) (left_of (any_tree reads_key (trees ps)) (seen names s) (keys_of bound (seen_among names (trees ps)))) before empty)) →
    Gives (8 + key_ids (trees ps) + mapped_ids (any_tree reads_key (trees ps))) (moment_of old) (moment_of new) → Takes old new p s us
beside-list old new p s lp t [] bound us some parts named are gives = absurd (cc some)
beside-list old new p s lp t (q ∷ qs) bound us some parts named are gives = record {
  lp = lp;
  ps = q ∷ qs;
  t = t;
  parts = parts;
  bound = bound;
  named = named;
  are = λ names.
      let all = seen_among names (trees (q ∷ qs)) in
      are names ∙ ap (λ (b : Bool). joined_trees (groups (bare_label lp) (seen names s) bound empty all) (declarator_with (seen names t) (left_of b (seen names s) (keys_of bound all)) before empty)) (sym (any-read-seen names (trees (q ∷ qs))));
  gives = gives;
}

pub taken-beside : (old new : TraverseCtx TransformState) (p s : Tree) (r : RestPattern) (us : List Tree) (n : ℕ) → n ≡ length r.properties.items → (n == 0) ≡ false → TakesApart p r → TakesBeside old new r s us → Takes old new p s us
taken-beside old new p s r us n count some parts h = beside-list old new p s (pattern_label r) r.target r.properties.items h.bound us (ap (λ m. m == 0) (sym count) ∙ some) parts h.named h.are h.gives

alone-list : (old new : TraverseCtx TransformState) (p s : Tree) (lp : Label) (t : Tree) (ps : List Tree) (last : Tree) → (length ps == 0) ≡ true → Parts p lp ps t → TakesAlone old new t s last → Takes old new p s (last ∷ [])
alone-list old new p s lp t [] last none parts h = record {
  lp = lp;
  ps = [];
  t = t;
  parts = parts;
  bound = [];
  named = subst (λ (w : Whole). NamesRead (whole_at (moment_of old)) empty [] w) (sym (ap whole_at h.reads.moment_is)) no_properties;
  are = λ names i. h.last_is names i before empty;
  gives = reads-give 12 old new h.reads;
}
alone-list old new p s lp t (q ∷ qs) last none parts h = absurd (omega (arith, eqb-true (suc (length qs)) 0 none))

pub taken-alone : (old new : TraverseCtx TransformState) (p s : Tree) (r : RestPattern) (last : Tree) (n : ℕ) → n ≡ length r.properties.items → (n == 0) ≡ true → TakesApart p r → TakesAlone old new r.target s last → Takes old new p s (last ∷ [])
taken-alone old new p s r last n count none parts h = alone-list old new p s (pattern_label r) r.target r.properties.items last (ap (λ m. m == 0) (sym count) ∙ none) parts h
