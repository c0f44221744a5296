-- Steps of the built rules bring no pattern with a rest where it isn't lowered.
use Rattle.std.proofs.Common.{◌≡◌, ◌∙◌, ℕ, zero, suc, refl, sym, ap, subst, true≢false, List, [], ◌∷◌, ◌++◌}
use Rattle.std.specs.Prelude.{true, false, ◌&&◌, ◌||◌, not, map, codes}
use Rattle.std.proofs.lemmas.Bool.{and_left, or_from, or_parts, or_right}
use Rattle.es_tree.specs.Ancestors.{Ancestor}
use Rattle.es_tree.specs.Tree.{Tree, node, Label, Fields, Field, Trees, empty, ◌before◌, trees}
use Rattle.es_tree.specs.declared.ast_type.AstType.TheVariants.{FunctionBody}
use Rattle.es_resolution.specs.Declarations.{Bound}
use Rattle.es_resolution.specs.Laws.{source}
use Rattle.es_steps.specs.Nodes.{body_node, declarator, return_node, this_statement}
use Rattle.es_steps.specs.Open.{body_with, declaration, whole_list, with_vars}
use Rattle.es_steps.specs.Slots.{is_slot}
use Rattle.es_steps.proofs.Opened.{finished-opened}
use Rattle.es_reached.specs.Reached.{built_rules}
use Rattle.es_reached.proofs.FreeTrees.{Free, FreeAll, FreeBy, FreeIn, append-free, free, joined-free, none}
use Rattle.es_reached.proofs.Sources.{law_bare_source_proof}
use Rattle.es_rest_shapes.specs.RestShapes.{any_child_by, any_tree, bears_rest, is_misplaced, is_name, is_plain_pattern, is_plain_target, is_plain_value, is_rest_declarator, is_stray_rest}
use Rattle.es_rest_shapes.proofs.BareRests.{law_bare_rests_proof}
use Rattle.es_rest_rows.specs.Laws.{LawStraysNotMade}
use Rattle.es_rest_rows.proofs.Changes.{Changed, ChangedAll, ChangedBy, ChangedIn, in-a-row, is_body_place, opened-proper}
use Rattle.es_rest_rows.proofs.Changes.Changed.{here, within}
use Rattle.es_rest_rows.proofs.Changes.ChangedIn.{first, later}
use Rattle.es_rest_rows.proofs.Changes.ChangedBy.{of_body, of_list, of_many, of_one, same_field}
use Rattle.es_rest_rows.proofs.Changes.ChangedAll.{beside, head, same_trees, tail}
use Rattle.es_rest_rows.proofs.StrayLikes.{Besides, Like, LikeAll, LikeBy, LikeIn, LikeOne, all-marks, inside-placed, is_inside, node-like, placed_at, stray-like}
use Rattle.es_rest_rows.proofs.StrayLikes.LikeAll.{beside_like, equal_trees, head_like, tail_like}
use Rattle.es_rest_rows.proofs.StrayLikes.LikeBy.{equal_field, many_like, one_like, statements_like}
use Rattle.es_rest_rows.proofs.StrayLikes.LikeIn.{first_like, later_like}
use Rattle.es_rest_rows.proofs.StrayNodes.{Clean, Mark, Replaced, Sound, SoundAll, above, acting-element, acting-key, acting-name, acting-named, acting-property, below, ordinary-marks, ordinary-plain, passes}
use Rattle.es_rest_rows.proofs.StrayNodes.Mark.{a_declaration, a_declarator, a_pattern, a_rest, a_stray, a_target, an_export}
use Rattle.es_rest_rows.proofs.StrayRules.{Acted, built-changes}
use Rattle.es_rest_rows.proofs.WholeLists.{Each, Grows, body-each, declaring, each-free, each-list, each-none, free-each, list-each, more-none, none-each}

-- DECLARATIONS of temporaries more

rest-declarators : (m : Mark) (l : Label) (ds : List Tree) (bs : List Bound) → passes m (declaring l ds) ≡ false → passes m (declaring l (ds ++ map declarator bs)) ≡ false
rest-declarators a_pattern l ds bs e = refl
rest-declarators a_declarator l ds bs e = refl
rest-declarators a_declaration l ds bs e = more-none is_rest_declarator (λ b. refl) ds bs e
rest-declarators a_rest l ds bs e = refl
rest-declarators a_stray l ds bs e = refl
rest-declarators a_target l ds bs e = refl
rest-declarators an_export l ds bs e = more-none is_rest_declarator (λ b. refl) ds bs e

no-declarators : (m : Mark) (l : Label) → passes m (declaring l []) ≡ false
no-declarators a_pattern l = refl
no-declarators a_declarator l = refl
no-declarators a_declaration l = refl
no-declarators a_rest l = refl
no-declarators a_stray l = refl
no-declarators an_export l = refl
no-declarators a_target l = refl

this-marks : (m : Mark) (b : Bound) → passes m (this_statement b) ≡ false
this-marks a_pattern b = refl
this-marks a_declarator b = refl
this-marks a_declaration b = refl
this-marks a_rest b = refl
this-marks a_stray b = refl
this-marks an_export b = refl
this-marks a_target b = refl

marks-grow : (m : Mark) → Grows (λ t. passes m t ≡ false)
marks-grow m = record { more = rest-declarators m; new = λ l bs. rest-declarators m l [] bs (no-declarators m l); this = this-marks m }

declarators-free : (bs : List Bound) → FreeAll is_stray_rest (trees (map declarator bs))
declarators-free [] = tt
declarators-free (b ∷ bs) = ((refl, ((refl, tt), (tt, tt))), declarators-free bs)

more-free : (l : Label) (ds : List Tree) (bs : List Bound) → Free is_stray_rest (declaring l ds) → Free is_stray_rest (declaring l (ds ++ map declarator bs))
more-free l ds bs h = (more-none bears_rest (λ b. refl) ds bs h.0, (append-free is_stray_rest ds (map declarator bs) h.1.0 (declarators-free bs), tt))

this-free : (b : Bound) → Free is_stray_rest (this_statement b)
this-free b = (refl, (((refl, ((refl, tt), ((refl, tt), tt))), tt), tt))

free-grows : Grows (λ t. Free is_stray_rest t)
free-grows = record { more = more-free; new = λ l bs. more-free l [] bs (refl, (tt, tt)); this = this-free }

sound-grows : Grows Sound
sound-grows = record {
  more = λ l ds bs h. record { free = record { nodes = more-free l ds bs h.free.nodes }; placed = refl };
  new = λ l bs. record { free = record { nodes = more-free l [] bs (refl, (tt, tt)) }; placed = refl };
  this = λ b. record { free = record { nodes = this-free b }; placed = refl };
}

-- BODIES

abbrev body_statements : List Tree → List Tree → Tree → Trees
body_statements vs ls e = declaration (codes "var") vs (declaration (codes "let") ls (return_node e before empty))

returned : (e : Tree) → Sound e → Each Sound (return_node e before empty)
returned e h = (above refl (h, tt), tt)

returns : (e : Tree) → Each Sound (return_node e before empty) → Sound e
returns e h = (below refl refl h.0.free).0

sound-each : (ts : Trees) → Each Sound ts → SoundAll ts
sound-each empty h = tt
sound-each (t before ts) h = (h.0, sound-each ts h.1)

each-sound : (ts : Trees) → SoundAll ts → Each Sound ts
each-sound empty h = tt
each-sound (t before ts) h = (h.0, each-sound ts h.1)

sound-body : (ts : Trees) → Each Sound ts → Free is_stray_rest (body_node ts)
sound-body ts h = let k : Sound (body_node ts) = above refl (tt, (sound-each ts h, tt)) in k.free.nodes

body-sound : (ts : Trees) → Free is_stray_rest (body_node ts) → Each Sound ts
body-sound ts h = let k : Clean (body_node ts) = record { nodes = h } in each-sound ts (below refl refl k).1.0

-- what a body holds
held : (vs ls : List Tree) (t : Tree) → Free is_stray_rest (body_with vs ls t) → is_misplaced (body_with vs ls t) ≡ false → Sound t
held [] [] t d e = record { free = record { nodes = d }; placed = e }
held [] (x ∷ ls) t d e = returns t (body-sound (body_statements [] (x ∷ ls) t) d).1
held (v ∷ vs) [] t d e = returns t (body-sound (body_statements (v ∷ vs) [] t) d).1
held (v ∷ vs) (x ∷ ls) t d e = returns t (body-sound (body_statements (v ∷ vs) (x ∷ ls) t) d).1.1

body-free : (vs ls : List Tree) (bs : List Bound) (t u : Tree) → Sound t → Sound u → Free is_stray_rest (body_with vs ls t) → Free is_stray_rest (body_with (vs ++ map declarator bs) ls u)
body-free [] [] [] t u k h d = h.free.nodes
body-free [] [] (b ∷ bs) t u k h d = sound-body (body_statements (map declarator (b ∷ bs)) [] u) (body-each Sound sound-grows [] [] (b ∷ bs) (return_node t before empty) (return_node u before empty) (λ e. returned u h) (returned t k))
body-free [] (x ∷ ls) [] t u k h d = sound-body (body_statements [] (x ∷ ls) u) (body-each Sound sound-grows [] (x ∷ ls) [] (return_node t before empty) (return_node u before empty) (λ e. returned u h) (body-sound (body_statements [] (x ∷ ls) t) d))
body-free [] (x ∷ ls) (b ∷ bs) t u k h d = sound-body (body_statements (map declarator (b ∷ bs)) (x ∷ ls) u) (body-each Sound sound-grows [] (x ∷ ls) (b ∷ bs) (return_node t before empty) (return_node u before empty) (λ e. returned u h) (body-sound (body_statements [] (x ∷ ls) t) d))
body-free (v ∷ vs) ls bs t u k h d = sound-body (body_statements ((v ∷ vs) ++ map declarator bs) ls u) (body-each Sound sound-grows (v ∷ vs) ls bs (return_node t before empty) (return_node u before empty) (λ e. returned u h) (body-sound (body_statements (v ∷ vs) ls t) d))

module _ {up : List Ancestor} where
  whole-body : (t : Tree) (l : Label) (fs : Fields) → is_body_place up ≡ true → (is_slot up ≡ false → is_name t ≡ false) → LikeOne up t (node FunctionBody l fs)
  whole-body t l fs place f = record { marks = λ m e. ordinary-marks m FunctionBody l fs refl; odd = λ e. refl; value = λ e. refl; target = λ e. refl; fixed = f; known = λ out elsewhere e. absurd (true≢false (sym place ∙ elsewhere)) }

  body-like : (vs ls : List Tree) (bs : List Bound) (t u : Tree) → is_body_place up ≡ true → LikeOne up t u → LikeOne up (body_with vs ls t) (body_with (vs ++ map declarator bs) ls u)
  body-like [] [] [] t u place h = h
  body-like [] [] (x ∷ bs) t u place h = whole-body t _ _ place h.fixed
  body-like [] (d ∷ ls) [] t u place h = whole-body _ _ _ place (λ e. refl)
  body-like [] (d ∷ ls) (x ∷ bs) t u place h = whole-body _ _ _ place (λ e. refl)
  body-like (v ∷ vs) ls bs t u place h = whole-body _ _ _ place (λ e. refl)

-- WHAT A CHANGE KEEPS

record Kept (up : List Ancestor) (t u : Tree) : Type 0 where
  free : Free is_stray_rest u
  like : Like up t u

record KeptIn (c : ℕ → List Ancestor) (fs gs : Fields) : Type 0 where
  free : FreeIn is_stray_rest gs
  like : LikeIn c fs gs

record KeptBy (up : List Ancestor) (f g : Field) : Type 0 where
  free : FreeBy is_stray_rest g
  like : LikeBy up f g

record KeptAll (up : List Ancestor) (ts us : Trees) : Type 0 where
  free : FreeAll is_stray_rest us
  like : LikeAll up ts us

-- a row leaves a node of an ordinary kind
replaced-marks : (u : Tree) → Replaced u → (m : Mark) → passes m u ≡ false
replaced-marks (node k l fs) h m = ordinary-marks m k l fs h.ordinary

replaced-plain : (u : Tree) → Replaced u → (is_plain_value u ≡ true) × (is_plain_target u ≡ true)
replaced-plain (node k l fs) h = ordinary-plain k l fs h.ordinary

acted : (up : List Ancestor) (t u : Tree) → Acted up t u → Replaced u → Kept up t u
acted up t u a r = record {
  free = r.sound.free.nodes;
  like = record {
    alone = record {
      marks = λ m e. replaced-marks u r m;
      odd = λ e. or_from (bears_rest u && not (is_plain_pattern u)) (is_rest_declarator u) (and_left (bears_rest u) (not (is_plain_pattern u)) (replaced-marks u r a_pattern)) (replaced-marks u r a_declarator);
      value = λ e. (replaced-plain u r).0;
      target = λ e. (replaced-plain u r).1;
      fixed = λ out. acting-name t (a.source out);
      known = λ out place e. absurd (true≢false (sym e ∙ acting-key t (a.source out)));
    };
    property = λ out e. absurd (true≢false (sym e ∙ acting-property t (a.source out)));
    named = λ out e. absurd (true≢false (sym e ∙ acting-named t (a.source out)));
    element = λ out e. absurd (true≢false (sym e ∙ acting-element t (a.source out)));
  };
}

abbrev Changes : List Ancestor → Tree → Tree → Type 0
Changes = Changed Acted Besides (λ bs. Unit {0})

mutual
  kept : {up : List Ancestor} {t u : Tree} → Changes up t u → Free is_stray_rest t → (is_inside up ≡ true → is_misplaced t ≡ false) → Kept up t u
  kept (here {up = up} {t = t} {u = u} a) d p = acted up t u a (a.leaves (record { nodes = d }) (λ slot. p (ap (λ v. v || is_body_place up) slot)))
  kept (within {up = up} {k = k} {l = l} {all = all} {fs = fs} {gs = gs} h) d p =
      let m = kept-in h d.1 (λ i e. inside-placed all up k l fs i e d.0) in
      record { free = (stray-like all up k l m.like d.0, m.free); like = node-like all up k l fs gs m.like }

  kept-in : {c : ℕ → List Ancestor} {fs gs : Fields} → ChangedIn Acted Besides (λ bs. Unit {0}) c fs gs → FreeIn is_stray_rest fs → ((i : ℕ) → is_inside (c i) ≡ true → placed_at i fs ≡ false) → KeptIn c fs gs
  kept-in (first h) d p = let m = kept-by h d.0 (λ e. p zero e) in record { free = (m.free, d.1); like = first_like m.like }
  kept-in (later h) d p = let m = kept-in h d.1 (λ i e. p (suc i) e) in record { free = (d.0, m.free); like = later_like m.like }

  kept-by : {up : List Ancestor} {f g : Field} → ChangedBy Acted Besides (λ bs. Unit {0}) up f g → FreeBy is_stray_rest f → (is_inside up ≡ true → any_child_by is_misplaced f ≡ false) → KeptBy up f g
  kept-by (of_one h) d p = let m = kept h d p in record { free = m.free; like = one_like m.like.alone }
  kept-by (of_many h) d p = let m = kept-all h d p in record { free = m.free; like = many_like m.like }
  kept-by (of_body {up = up} {t = t} {u = u} q bs such place h) d p =
      let k = held q.vars q.lets t d (p (or_right (is_slot up) (is_body_place up) place)) in
      let m = kept h k.free.nodes (λ e. k.placed) in
      record { free = body-free q.vars q.lets bs t u k (record { free = record { nodes = m.free }; placed = m.like.alone.marks a_stray k.placed }) d; like = one_like (body-like q.vars q.lets bs t u place m.like.alone) }
  kept-by (of_list {ts = ts} {us = us} q x y a bs such h) d p =
      let all = each-free is_stray_rest (whole_list q x a ts) d in
      let m = kept-all h (free-each is_stray_rest ts (each-list (λ t. Free is_stray_rest t) q x a ts all)) (λ e. none-each is_misplaced ts (each-list (λ t. is_misplaced t ≡ false) q x a ts (each-none is_misplaced (whole_list q x a ts) (p e)))) in
      record {
        free = free-each is_stray_rest (whole_list (with_vars bs q) y a us) (list-each (λ t. Free is_stray_rest t) free-grows q x y a bs ts us (λ e. each-free is_stray_rest us m.free) all);
        like = statements_like (λ mark e. none-each (passes mark) (whole_list (with_vars bs q) y a us)
            (list-each (λ t. passes mark t ≡ false) (marks-grow mark) q x y a bs ts us (λ f. each-none (passes mark) us (all-marks mark m.like (none-each (passes mark) ts f))) (each-none (passes mark) (whole_list q x a ts) e)));
      }
  kept-by same_field d p = record { free = d; like = equal_field }

  kept-all : {up : List Ancestor} {ts us : Trees} → ChangedAll Acted Besides (λ bs. Unit {0}) up ts us → FreeAll is_stray_rest ts → (is_inside up ≡ true → any_tree is_misplaced ts ≡ false) → KeptAll up ts us
  kept-all (head {t = t} {ts = ts} h) d p = let m = kept h d.0 (λ e. (or_parts (is_misplaced t) (any_tree is_misplaced ts) (p e)).0) in record { free = (m.free, d.1); like = head_like m.like }
  kept-all (tail {t = t} {ts = ts} h) d p = let m = kept-all h d.1 (λ e. (or_parts (is_misplaced t) (any_tree is_misplaced ts) (p e)).1) in record { free = (d.0, m.free); like = tail_like m.like }
  kept-all (beside {us = us} {ts = ts} k) d p = record { free = joined-free is_stray_rest us ts (k.free d.0) d.1; like = beside_like k }
  kept-all same_trees d p = record { free = d; like = equal_trees }

-- THE LAW

pub law_strays_not_made_proof : LawStraysNotMade
law_strays_not_made_proof o p r names h e =
    let begin = free is_stray_rest (source p) ((law_bare_rests_proof p (source p) (sym (law_bare_source_proof p))).strays ∙ e) in
    let keeps = λ (t u : Tree) (c : Changes [] t u) (d : Free is_stray_rest t). (kept c d (λ f. absurd (true≢false (sym f)))).free in
    let end = in-a-row Acted Besides (λ bs. Unit {0}) tt (built_rules o) (built-changes o) (λ t. Free is_stray_rest t) keeps h.steps (opened-proper Acted Besides (λ bs. Unit {0}) (source p)) (subst (λ (t : Tree). Free is_stray_rest t) (sym (finished-opened (source p))) begin) in
    none is_stray_rest r (subst (λ (t : Tree). Free is_stray_rest t) (finished-opened r) end)
