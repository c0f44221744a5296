-- Rests in assignments keep the rules of declared names: what comes for a pattern consists of its parts, of names and of words.
use Rattle.std.proofs.Common.{◌≡◌, ℕ, zero, suc, refl, List, [], ◌∷◌, ◌++◌, map}
use Rattle.std.specs.Prelude.{Bool, true, false}
use Rattle.es_tree.specs.DeclaredNames.{Name}
use Rattle.es_tree.specs.Tree.{Tree, node, Label, Fields, one, Trees, empty, ◌before◌, fields, trees}
use Rattle.es_tree.specs.declared.ast_type.AstType.{AstType}
use Rattle.es_tree.specs.declared.ast_type.AstType.TheVariants.{ArrayExpression, ExportSpecifier, PrivateIdentifier}
use Rattle.es_resolution.specs.Declarations.{Bound}
use Rattle.es_steps.specs.Nodes.{array_node, assign_node, identifier}
use Rattle.es_steps.specs.ObjectRest.{left_of, whole_value}
use Rattle.es_steps.specs.RestAssignments.{RestAssignmentRule, is_unused, value_after}
use Rattle.es_steps.specs.RestAssignments.RestAssignmentRule.{assigns}
use Rattle.es_steps.specs.Rules.{with_made}
use Rattle.es_steps.specs.Steps.{Site, Whole}
use Rattle.es_steps.proofs.RestParts.{EachAmong, EachTree, IsLeft, PartsRight, each-append, each-name, each-part, parts-right}
use Rattle.es_steps.proofs.RestParts.IsLeft.{name_left, text_left}
use Rattle.es_valid_names.proofs.Claims.{Around, Clear, ClearAll, ClearIn, Stand, elsewhere, plain_key, stand_in}
use Rattle.es_valid_names.proofs.ClearRows.{Fine}
use Rattle.es_valid_names.proofs.MoreAround.{moved-where}

module _ (c : Around) where
  -- LISTS

  each-fine : (ts : List Tree) → EachTree (Fine c) ts → ClearAll c elsewhere (trees ts)
  each-fine [] h = tt
  each-fine (t ∷ ts) h = (h.0, each-fine ts h.1)

  among-fine : (ts : Trees) → ClearAll c elsewhere ts → EachAmong (Fine c) ts
  among-fine empty h = tt
  among-fine (t before ts) h = (h.0, among-fine ts h.1)

  elements-fine : (gs : List (List Name)) (all : Fields) (i : ℕ) (ts : List Tree) → EachTree (Fine c) ts → ClearIn c gs elsewhere ArrayExpression all i (fields (map one ts))
  elements-fine gs all i [] h = tt
  elements-fine gs all i (t ∷ ts) h = (h.0, elements-fine gs all (suc i) ts h.1)

  array-fine : (ts : List Tree) → EachTree (Fine c) ts → Fine c (array_node ts)
  array-fine ts h = (tt, refl, elements-fine _ (fields (map one ts)) 0 ts h)

  -- KEYS: no private name is one

  key-same : (k : AstType) (all : Fields) (i : ℕ) → stand_in plain_key k all i ≡ stand_in elsewhere k all i
  key-same ExportSpecifier all zero = refl
  key-same ExportSpecifier all (suc i) = refl
  key-same _ all i = refl

  key-moved : (gs : List (List Name)) (k : AstType) (fs : Fields) → ClearIn c gs plain_key k fs 0 fs → ClearIn c gs elsewhere k fs 0 fs
  key-moved gs k fs h = moved-where c gs plain_key elsewhere k fs 0 fs (key-same k fs) h

  key-fine : (t : Tree) → Clear c plain_key t → Fine c t
  key-fine (node PrivateIdentifier l fs) h = absurd (let d = h.1 in cc d)
  key-fine (node _ l fs) h = (h.0, h.1, key-moved _ _ fs h.2)

  left-fine : (ks : List Tree) → EachTree (IsLeft (λ x. Unit {0})) ks → EachTree (Fine c) ks
  left-fine [] h = tt
  left-fine (k ∷ ks) h = (at k h.0, left-fine ks h.1)
    where
      at : (k : Tree) → IsLeft (λ x. Unit {0}) k → Fine c k
      at k (text_left x) = (tt, refl, tt)
      at k (name_left x e) = (tt, refl, tt)

  -- VALUES OF A REST

  left-of-fine : (read : Bool) (s : Tree) (ks : List Tree) → Fine c s → EachTree (Fine c) ks → Fine c (left_of read s ks)
  left-of-fine true s ks h k = (tt, refl, ((tt, refl, ((tt, refl, tt), ((tt, refl, tt), tt))), ((h, ((tt, refl, ((tt, refl, (array-fine ks k, ((tt, refl, tt), tt))), (((tt, refl, ((tt, refl, tt), ((tt, refl, tt), tt))), tt), tt))), tt)), tt)))
  left-of-fine false s ks h k = (tt, refl, ((tt, refl, ((tt, refl, tt), ((tt, refl, tt), tt))), ((h, (array-fine ks k, tt)), tt)))

  whole-fine : (s : Tree) → Fine c s → Fine c (whole_value s)
  whole-fine s h = (tt, refl, ((tt, refl, ((tt, refl, tt), ((tt, refl, tt), tt))), (((tt, refl, (tt, tt)), ((tt, refl, (((tt, refl, ((tt, refl, ((tt, refl, tt), ((tt, refl, tt), tt))), ((h, tt), tt))), (h, tt)), tt)), tt)), tt)))

  names-right : (s : Tree) (lp : Label) → Fine c s → PartsRight s lp (λ x. Unit {0}) (Fine c) (Fine c) (Fine c)
  names-right s lp source = record {
    last = λ ps e h. (tt, refl, ((tt, refl, (each-fine ps h, tt)), (source, tt)));
    group = λ ps e h. (tt, refl, ((tt, refl, (each-fine ps h, tt)), (source, tt)));
    key = λ x l k v e taken h. (tt, refl, ((tt, refl, tt), (key-fine k h.2.0, tt)));
    keyed = λ x l k v e taken h. (tt, refl, ((tt, refl, tt), (h.2.1.0, tt)));
    rest = λ read ks l t e names h. (tt, refl, (h.2.0, (left-of-fine read s ks source (left-fine ks names), tt)));
    whole = λ l t e h. (tt, refl, (h.2.0, (whole-fine s source, tt)));
  }

  -- THE ROW

  pub assigning-rest-clear : (s : Stand) (n : Site) (w : Whole) (bs : List Bound) (t u : Tree) → RestAssignmentRule n w bs t u → Clear c s t → Clear c s u
  assigning-rest-clear s n w bs t u (assigns {lp = lp} {ps = ps} {e = e} {x = x} {xs = xs} {us = us} unbound used texts silent next r) h =
      let parts = parts-right (identifier x) lp (λ y. Unit {0}) (Fine c) (Fine c) (Fine c) (names-right (identifier x) lp (tt, refl, tt)) (with_made (x ∷ []) w) ps xs us r (each-name xs) (each-part (Fine c) ps (among-fine ps h.2.0.2.0)) in
      let after = value_after (is_unused n.above) x in
      let list = assign_node (identifier x) e ∷ us ++ after in
      (tt, refl, (each-fine list ((tt, refl, ((tt, refl, tt), (h.2.1.0, tt))), each-append (Fine c) us after parts (value-fine (is_unused n.above))), tt))
    where
      value-fine : (unused : Bool) → EachTree (Fine c) (value_after unused x)
      value-fine true = tt
      value-fine false = ((tt, refl, tt), tt)
