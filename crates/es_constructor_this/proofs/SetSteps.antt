-- Steps of the rows lead from a tree that has form and breaks no static rule, at its place, to what it becomes with the symbols of its names: node after its
-- parts.
use Rattle.std.proofs.Common.{◌≡◌, ◌∙◌, ℕ, zero, suc, refl, sym, subst, List, ◌∷◌}
use Rattle.std.specs.Prelude.{Bool, true, false, ◌&&◌, Option, Some, None, if◌then◌else◌}
use Rattle.std.proofs.lemmas.Bool.{and_parts}
use Rattle.es_tree.specs.Ancestors.{Ancestor, ancestor}
use Rattle.es_tree.specs.HasForm.{has_form, same_type}
use Rattle.es_tree.specs.Names.{first_text}
use Rattle.es_tree.specs.Tree.{Tree, node, Label, Fields, done, ◌then◌, Field, missing, one, many, statements, Trees, empty, ◌before◌, kind_of}
use Rattle.es_tree.specs.Words.{Text}
use Rattle.es_tree.specs.declared.ast_type.AstType.{AstType}
use Rattle.es_tree.specs.declared.ast_type.AstType.TheVariants.{FunctionBody, Identifier}
use Rattle.es_tree.specs.declared.table.Sort.{Sort}
use Rattle.es_changes.specs.Changes.{AsBody, Each, EachBy, EachIn}
use Rattle.es_changes.proofs.Expressions.{body-expression}
use Rattle.es_resolution.specs.Called.{Called, CalledAll, CalledBy, CalledIn}
use Rattle.es_resolution.specs.Declarations.{Bound, has_scope, is_var_scope, symbol_of}
use Rattle.es_resolution.specs.Named.{Named, NamedAll, NamedBy, NamedIn}
use Rattle.es_resolution.specs.Resolved.{IsRight, OwnRight, Place, Resolved, ResolvedAll, ResolvedBy, ResolvedIn, frame, name_frame, no_name, parameters_in, place_in, var_frame, within, within_vars}
use Rattle.es_resolution.proofs.AllForms.{All, AllAmong, AllBy, AllIn}
use Rattle.es_semantic.specs.Places.{is_inside}
use Rattle.es_semantic.specs.RolesOf.{reads, role_at}
use Rattle.es_semantic.specs.declared.place.Role.{Role}
use Rattle.es_semantic.specs.declared.place.Role.TheVariants.{Binds, Nothing, Top}
use Rattle.es_steps.specs.Nodes.{identifier}
use Rattle.es_steps.specs.Open.{is_body, is_statement_body, no_additions, nothing_pending}
use Rattle.es_steps.specs.Steps.{Site, Whole, ledger, site_in_body}
use Rattle.es_pattern_moves.proofs.MovedInward.{FitsAt, IsField, are-fields, each-in, each-of, inward, sites}
use Rattle.es_pattern_moves.proofs.Settled.{Sound}
use Rattle.es_valid_steps.specs.PlaceRules.{Keeps, KeepsAll, KeepsBy, KeepsIn}
use Rattle.es_super_calls.specs.Constructors.{is_body as is_standing_body, standing_in}
use Rattle.es_super_calls.specs.declared.standing.ClassStanding.{ClassStanding}
use Rattle.es_set_this.specs.ConstructorThis.{is_var, names_among, this_name, up_to_super, with_this_set, without_value}
use Rattle.es_constructor_this.specs.SetRows.{SetRow, Settles, inside_body, is_constructor_body, names_apart}
use Rattle.es_constructor_this.specs.SetRows.DeclaresThis.{declares_this}
use Rattle.es_constructor_this.specs.SetRows.SetRow.{sets, settles}
use Rattle.es_constructor_this.proofs.BodyNames.{FieldApart, NodeApart, OwnApart, PartApart, parts-apart}
use Rattle.es_constructor_this.proofs.DeclaredFirst.{finds-declared, names-apart-same}
use Rattle.es_constructor_this.proofs.LinkedSteps.{FieldLinks, FieldsLinks, TreeLinks, TreesLinks, acts-there, all-links, body-links, both-links, child-links, linked-trans, many-links, node-links, statements-links, value-links}
use Rattle.es_constructor_this.proofs.LinkedSteps.Linked.{ended}
use Rattle.es_constructor_this.proofs.SameSites.{SameFields, SameTrees, sites-are, sites-same, tail-same}
use Rattle.es_constructor_this.proofs.SetKept.{among-kept, body-same, here-other, set-same-among, set-same-by, set-same-in}
use Rattle.es_constructor_this.proofs.SetSources.{FunctionApart}
use Rattle.es_constructor_this.proofs.Standings.{as-body, inwards, stands_so}
use Rattle.es_constructor_this.proofs.SuperRoles.{edges-called, statements-said}
use Rattle.es_constructor_this.proofs.SuperSteps.{GoneAll, gone-all, list-same, list-settles, puts-set}
use Rattle.es_constructor_this.proofs.ThisNames.{DeclaresMade, declared-kept, declares-made, this-name-kept, this_declared}
use Rattle.es_constructor_this.proofs.ThisNames.DeclaresMade.{declares_made}
use Rattle.es_constructor_this.proofs.Written.{as_declared, write_behind, write_in_body, write_this, write_this_among, write_this_by, write_this_in}

abbrev pub StandsSo : ClassStanding → Site → Type 0
StandsSo s n = stands_so s n.above ≡ true

-- beside any name for `this`
abbrev pub Any : Option Bound → Type 0
Any o = Unit {0}

-- THE BODY OF AN ARROW that is an expression: there the parameters of the function around are of no matter

-- the place, by these parameters
abbrev place_without : Place → Bool → (Text → Bool) → AstType → Label → (ℕ → Role) → Fields → ℕ → Place
place_without p v q k l roles fs i =
    let names : Text → Option ℕ = within (name_frame k roles fs) p.scope in
    let inner : Text → Option ℕ = within (frame k l roles fs) (if v then within_vars q (var_frame roles fs) names else names) in
    record {
      scope = if has_scope k && is_inside k i then inner else names;
      hoist = if v then (λ x. if q x then names x else inner x) else p.hoist;
      parameters = parameters_in k l roles fs;
    }

place-without : (p : Place) (k : AstType) (l : Label) (roles : ℕ → Role) (fs : Fields) → is_var_scope k ≡ false → place_in p k l roles fs ≡ place_in (record p { parameters = no_name }) k l roles fs
place-without p k l roles fs e = (λ j i. place_without p (e j) p.parameters k l roles fs i) ∙ sym (λ j i. place_without (record p { parameters = no_name }) (e j) no_name k l roles fs i)

value-resolved : (r : Role) (p : Place) (t : Tree) → is_var_scope (kind_of t) ≡ false → Resolved r p t → Resolved r (record p { parameters = no_name }) t
value-resolved r p (node k l fs) e h = (own k h.0, h.1, subst (λ (places : ℕ → Place). ResolvedIn (role_at r k l fs) places fs) (place-without p k l (role_at r k l fs) fs e) h.2)
  where
    by-role : (r : Role) (x : Text) (s : Option ℕ) → IsRight p r x s → IsRight (record p { parameters = no_name }) r x s
    by-role Nothing x s h = h
    by-role (Binds b) x s h = h
    by-role _ x s h = h

    own : (k : AstType) → OwnRight p r k l → OwnRight (record p { parameters = no_name }) r k l
    own Identifier h = by-role r (first_text l.texts) (symbol_of l) h
    own _ h = h

module _ (made : Text → Bool) (w : Whole) where
  abbrev Links : Site → Tree → Tree → Type 0
  Links = TreeLinks SetRow w Any

  abbrev pub written : ClassStanding → Tree → Tree
  written = write_this as_declared made

  -- WHAT IS KNOWN of a part of the source, at its site

  pub record Known (n : Site) (t : Tree) : Type 0 where
    pub above : List Ancestor
    pub fits : FitsAt n t
    pub sound : All Sound t
    pub keeps : Keeps above t
    pub resolved : Resolved n.role n.names t
    pub named : Named w.in_use w.free_symbol n.role t
    pub called : Called w.called t
    pub functions : All FunctionApart t

  record KnownField (n : Site) (v : Bool) (f : Field) : Type 0 where
    above : List Ancestor
    fits : EachBy FitsAt n v f
    sound : AllBy Sound f
    keeps : KeepsBy above f
    resolved : ResolvedBy n.role n.names f
    named : NamedBy w.in_use w.free_symbol n.role f
    called : CalledBy w.called f
    functions : AllBy FunctionApart f

  record KnownTrees (n : Site) (ts : Trees) : Type 0 where
    above : List Ancestor
    fits : Each FitsAt n ts
    sound : AllAmong Sound ts
    keeps : KeepsAll above ts
    resolved : ResolvedAll n.role n.names ts
    named : NamedAll w.in_use w.free_symbol n.role ts
    called : CalledAll w.called ts
    functions : AllAmong FunctionApart ts

  record KnownFields (c : ℕ → Site) (bodies : ℕ → Bool) (fs : Fields) : Type 0 where
    above : List Ancestor
    kind : AstType
    label : Label
    all : Fields
    from : ℕ
    fits : EachIn FitsAt c bodies fs
    sound : AllIn Sound fs
    keeps : KeepsIn above kind label all from fs
    resolved : ResolvedIn (λ i. (c i).role) (λ i. (c i).names) fs
    named : NamedIn w.in_use w.free_symbol (λ i. (c i).role) fs
    called : CalledIn w.called fs
    functions : AllIn FunctionApart fs

  known-fields : (n : Site) (k : AstType) (l : Label) (fs : Fields) → Known n (node k l fs) → KnownFields (sites n k l fs) (is_body k) fs
  known-fields n k l fs h =
      let roles : role_at n.role k l fs ≡ (λ i. (sites n k l fs i).role) = λ j i. (sym (sites-are n k l fs i) j).role in
      let places : place_in n.names k l (role_at n.role k l fs) fs ≡ (λ i. (sites n k l fs i).names) = λ j i. (sym (sites-are n k l fs i) j).names in
      record {
        above = h.above;
        kind = k;
        label = l;
        all = fs;
        from = 0;
        fits = inward n k l fs h.fits.sort h.fits.formed;
        sound = h.sound.1;
        keeps = h.keeps.1;
        resolved = subst (λ (q : ℕ → Place). ResolvedIn (λ i. (sites n k l fs i).role) q fs) places (subst (λ (r : ℕ → Role). ResolvedIn r (place_in n.names k l (role_at n.role k l fs) fs) fs) roles h.resolved.2);
        named = subst (λ (r : ℕ → Role). NamedIn w.in_use w.free_symbol r fs) roles h.named.1;
        called = h.called.1;
        functions = h.functions.1;
      }

  first-known : (c : ℕ → Site) (bodies : ℕ → Bool) (f : Field) (fs : Fields) → KnownFields c bodies (f then fs) → KnownField (c zero) (bodies zero) f
  first-known c bodies f fs h = record {
    above = ancestor h.kind h.label h.all h.from 0 ∷ h.above;
    fits = h.fits.0;
    sound = h.sound.0;
    keeps = h.keeps.0;
    resolved = h.resolved.0;
    named = h.named.0;
    called = h.called.0;
    functions = h.functions.0;
  }

  later-known : (c : ℕ → Site) (bodies : ℕ → Bool) (f : Field) (fs : Fields) → KnownFields c bodies (f then fs) → KnownFields (λ i. c (suc i)) (λ i. bodies (suc i)) fs
  later-known c bodies f fs h = record {
    above = h.above;
    kind = h.kind;
    label = h.label;
    all = h.all;
    from = suc h.from;
    fits = h.fits.1;
    sound = h.sound.1;
    keeps = h.keeps.1;
    resolved = h.resolved.1;
    named = h.named.1;
    called = h.called.1;
    functions = h.functions.1;
  }

  -- A BODY whose parts are set

  module _ (n : Site) (s : ClassStanding) (l : Label) (ds : Field) (m k i e : Label) (ts : Trees) where
    abbrev d : Tree
    d = this_declared m k i e

    abbrev fs : Fields
    fs = ds then (statements (d before ts) then done)

    abbrev b : Bound
    b = record { name = first_text i.texts; symbol = symbol_of i }

    abbrev x : Tree
    x = identifier b

    abbrev c : ℕ → ClassStanding
    c = standing_in s FunctionBody l fs

    -- with their parts as they became
    abbrev es : Field
    es = write_this_by as_declared made (c 0) ds

    abbrev us : Trees
    us = write_this_among as_declared made (c 1) ts

    abbrev vs : Trees
    vs = up_to_super x us

    abbrev body_of : Tree → Trees → Tree
    body_of t ws = node FunctionBody l (es then (statements (t before ws) then done))

    -- the statements behind the first are gone through
    statements-gone : Known n (node FunctionBody l fs) → is_var m.texts ≡ true → names_apart fs ≡ true → names_among b.name ts ≡ false → GoneAll as_declared made w b (sites n FunctionBody l fs 1) ts
    statements-gone h var apart none =
        let fit = inward n FunctionBody l fs h.fits.sort h.fits.formed in
        gone-all as_declared made w b (sites n FunctionBody l fs 1) (ancestor FunctionBody l fs 1 0 ∷ h.above) FunctionBody 1 ts refl refl (finds-declared w n l ds m k i e ts var apart h.resolved h.named h.called) fit.1.0.1 h.sound.1.1.0.1
        (statements-said Top FunctionBody ts (edges-called h.fits.sort FunctionBody l fs h.fits.formed).1.0.1 refl) h.keeps.1.1.0.1 h.sound.0.settled.1.0.1 none

    both-rows : is_constructor_body n.above ≡ true → Known n (node FunctionBody l fs) → is_var m.texts ≡ true → names_apart fs ≡ true → names_among b.name ts ≡ false → Links n (body_of d us) (body_of (without_value d) (with_this_set x vs))
    both-rows con h var apart none =
        let there : Site = sites n FunctionBody l fs 1 in
        let gone = statements-gone h var apart none in
        let same : SameFields fs (es then (statements (d before us) then done)) = subst (λ (t : Tree). SameFields fs (es then (statements (t before us) then done))) (declared-kept as_declared made (c 1) m k i e) (set-same-in as_declared made c fs) in
        let site : sites n FunctionBody l (es then (statements (d before us) then done)) 1 ≡ there = sites-same n FunctionBody l fs (es then (statements (d before us) then done)) same 1 in
        let inner : Settles (inside_body n l es (d before us)) (ledger w nothing_pending (Some b) no_additions) us vs = subst (λ (q : Site). Settles q (ledger w nothing_pending (Some b) no_additions) us vs) (sym site) (list-settles as_declared made w b there nothing_pending no_additions (c 1) ts gone) in
        let first = set-same-among as_declared made (c 1) ts in
        let second = list-same as_declared made w b there (c 1) ts gone in
        let after : SameTrees ts vs = record { declares = λ v r. second.declares v r ∙ first.declares v r } in
        let apart_after : names_apart (es then (statements (d before vs) then done)) ≡ true = names-apart-same ds es (d before ts) (d before vs) (set-same-by as_declared made (c 0) ds) (tail-same d ts vs after) ∙ apart in
        linked-trans (acts-there SetRow w Any n (body_of d us) (body_of d vs) (λ q o a good. settles b l es d us vs con (declares_this m k i e var refl) inner) (body-same as_declared made l _ _))
        (acts-there SetRow w Any n (body_of d vs) (body_of (without_value d) (with_this_set x vs)) (λ q o a good. sets b l es d vs (with_this_set x vs) con apart_after (declares_this m k i e var refl) (puts-set x vs)) (body-same as_declared made l _ _))

    declared-links : is_constructor_body n.above ≡ true → Known n (node FunctionBody l fs) → is_var m.texts ≡ true → names_apart fs ≡ true → this_name made d ≡ Some b.name →
        Links n (node FunctionBody l (write_this_in as_declared made c fs)) (node FunctionBody l (write_in_body as_declared made (write_this_in as_declared made c fs)))
    declared-links con h var apart name =
        subst (λ (t : Tree). Links n (body_of t us) (node FunctionBody l (es then (statements (write_behind as_declared (this_name made t) t us) then done)))) (sym (declared-kept as_declared made (c 1) m k i e))
        (subst (λ (o : Option Text). Links n (body_of d us) (node FunctionBody l (es then (statements (write_behind as_declared o d us) then done)))) (sym name) (at (names_among b.name us) refl))
      where
        at : (v : Bool) → names_among b.name us ≡ v → Links n (body_of d us) (node FunctionBody l (es then (statements (if v then d before us else without_value d before with_this_set x vs) then done)))
        at true q = ended
        at false q = both-rows con h var apart (sym (among-kept as_declared made b.name (c 1) ts) ∙ q)

  -- whatever it declares first
  first-links : (n : Site) (s : ClassStanding) (l : Label) (ds : Field) (d : Tree) (ts : Trees) (o : Option Text) → this_name made d ≡ o → is_constructor_body n.above ≡ true → Known n (node FunctionBody l (ds then (statements (d before ts) then done))) → names_apart (ds then (statements (d before ts) then done)) ≡ true →
      Links n (node FunctionBody l (write_this_in as_declared made (standing_in s FunctionBody l (ds then (statements (d before ts) then done))) (ds then (statements (d before ts) then done))))
      (node FunctionBody l (write_in_body as_declared made (write_this_in as_declared made (standing_in s FunctionBody l (ds then (statements (d before ts) then done))) (ds then (statements (d before ts) then done)))))
  first-links n s l ds d ts None name con h apart =
      let c : ℕ → ClassStanding = standing_in s FunctionBody l (ds then (statements (d before ts) then done)) in
      let t : Tree = written (c 1) d in
      let us : Trees = write_this_among as_declared made (c 1) ts in
      let es : Field = write_this_by as_declared made (c 0) ds in
      subst (λ (p : Option Text). Links n (node FunctionBody l (es then (statements (t before us) then done))) (node FunctionBody l (es then (statements (write_behind as_declared p t us) then done)))) (sym (this-name-kept as_declared made (c 1) d ∙ name)) ended
  first-links n s l ds d ts (Some y) name con h apart = shaped d y (declares-made made d y name) name h apart
    where
      shaped : (d : Tree) (y : Text) → DeclaresMade made d y → this_name made d ≡ Some y → Known n (node FunctionBody l (ds then (statements (d before ts) then done))) → names_apart (ds then (statements (d before ts) then done)) ≡ true →
          Links n (node FunctionBody l (write_this_in as_declared made (standing_in s FunctionBody l (ds then (statements (d before ts) then done))) (ds then (statements (d before ts) then done))))
          (node FunctionBody l (write_in_body as_declared made (write_this_in as_declared made (standing_in s FunctionBody l (ds then (statements (d before ts) then done))) (ds then (statements (d before ts) then done)))))
      shaped d y (declares_made m k i e var in_made) name h apart = declared-links n s l ds m k i e ts con h var apart name

  body-there : (n : Site) (s : ClassStanding) (l : Label) (fs : Fields) → is_constructor_body n.above ≡ true → Known n (node FunctionBody l fs) → names_apart fs ≡ true →
      Links n (node FunctionBody l (write_this_in as_declared made (standing_in s FunctionBody l fs) fs)) (node FunctionBody l (write_in_body as_declared made (write_this_in as_declared made (standing_in s FunctionBody l fs) fs)))
  body-there n s l (ds then (statements (d before ts) then done)) con h apart = first-links n s l ds d ts (this_name made d) refl con h apart
  body-there n s l (ds then (statements empty then done)) con h apart = ended
  body-there n s l (ds then (statements ts then (f then gs))) con h apart = ended
  body-there n s l (ds then (missing then gs)) con h apart = ended
  body-there n s l (ds then (one t then gs)) con h apart = ended
  body-there n s l (ds then (many ts then gs)) con h apart = ended
  body-there n s l (ds then done) con h apart = ended
  body-there n s l done con h apart = ended

  -- A NODE whose parts are set
  here-links : (n : Site) (s : ClassStanding) (k : AstType) (l : Label) (fs : Fields) → StandsSo s n → Known n (node k l fs) → (is_standing_body s ≡ true → NodeApart k fs) →
      Links n (node k l (write_this_in as_declared made (standing_in s k l fs) fs)) (written s (node k l fs))
  here-links n s FunctionBody l fs so h apart = at (is_standing_body s && same_type FunctionBody FunctionBody) refl
    where
      gs : Fields
      gs = write_this_in as_declared made (standing_in s FunctionBody l fs) fs

      at : (v : Bool) → (is_standing_body s && same_type FunctionBody FunctionBody) ≡ v → Links n (node FunctionBody l gs) (node FunctionBody l (if v then write_in_body as_declared made gs else gs))
      at true e = let stands = (and_parts (is_standing_body s) true e).0 in body-there n s l fs (as-body s n.above stands so) h (apart stands)
      at false e = ended
  here-links n s k l fs so h apart =
      let gs : Fields = write_this_in as_declared made (standing_in s k l fs) fs in
      subst (λ (hs : Fields). Links n (node k l gs) (node k l hs)) (sym (here-other as_declared made s k gs refl)) ended

  -- in a field that may be the body of an arrow
  arrow-links : (n : Site) (s : ClassStanding) (t : Tree) → IsField true n → (v : Bool) → is_statement_body t ≡ v → KnownField n true (one t) → ((p : Site) → StandsSo s p × Known p t → Links p t (written s t)) → StandsSo s n → FieldLinks SetRow w Any n true (one t) (one (written s t))
  arrow-links n s t place true e h walk so =
      let fit : FitsAt n t = subst (λ (v : Bool). AsBody FitsAt n v t) e h.fits in
      body-links SetRow w Any n e (walk n (so, record { above = h.above; fits = fit; sound = h.sound; keeps = h.keeps; resolved = h.resolved; named = h.named; called = h.called; functions = h.functions }))
  arrow-links n s t place false e h walk so =
      let role : n.role ≡ reads = place.role refl in
      let fit : FitsAt (site_in_body n nothing_pending t) t = subst (λ (v : Bool). AsBody FitsAt n v t) e h.fits in
      let value = body-expression t (subst (λ (a : Sort). has_form a t ≡ true) (fit.arrow place.place) fit.formed) e in
      value-links SetRow w Any n t role value (walk (site_in_body n nothing_pending t) (
        so,
        record {
          above = h.above;
          fits = fit;
          sound = h.sound;
          keeps = h.keeps;
          resolved = value-resolved reads n.names t value.no_body (subst (λ (r : Role). Resolved r n.names t) role h.resolved);
          named = subst (λ (r : Role). Named w.in_use w.free_symbol r t) role h.named;
          called = h.called;
          functions = h.functions;
        },
      ))

  -- EACH NODE
  mutual
    pub tree-links : (n : Site) (s : ClassStanding) (t : Tree) → StandsSo s n → Known n t → OwnApart s t → Links n t (written s t)
    tree-links n s (node k l fs) so h own =
        let c : ℕ → ClassStanding = standing_in s k l fs in
        let apart = parts-apart h.fits.sort s k l fs h.fits.formed h.functions.0 in
        linked-trans (node-links SetRow w Any n k l (fields-links (sites n k l fs) (is_body k) c fs (inwards s n.above so k l fs) (are-fields n k l fs) (known-fields n k l fs h) apart)) (here-links n s k l fs so h own)

    fields-links : (d : ℕ → Site) (bodies : ℕ → Bool) (c : ℕ → ClassStanding) (fs : Fields) → ((j : ℕ) → StandsSo (c j) (d j)) → ((j : ℕ) → IsField (bodies j) (d j)) → KnownFields d bodies fs → ((j : ℕ) → is_standing_body (c j) ≡ true → PartApart j fs) →
        FieldsLinks SetRow w Any d bodies fs (write_this_in as_declared made c fs)
    fields-links d bodies c done so places h own = ended
    fields-links d bodies c (f then fs) so places h own =
        all-links SetRow w Any d bodies (field-links (d zero) (bodies zero) (c zero) f (so zero) (places zero) (first-known d bodies f fs h) (own zero))
        (fields-links (λ j. d (suc j)) (λ j. bodies (suc j)) (λ j. c (suc j)) fs (λ j. so (suc j)) (λ j. places (suc j)) (later-known d bodies f fs h) (λ j. own (suc j)))

    field-links : (n : Site) (v : Bool) (s : ClassStanding) (f : Field) → StandsSo s n → IsField v n → KnownField n v f → (is_standing_body s ≡ true → FieldApart f) → FieldLinks SetRow w Any n v f (write_this_by as_declared made s f)
    field-links n v s missing so place h own = ended
    field-links n true s (one t) so place h own = arrow-links n s t place (is_statement_body t) refl h (λ p g. tree-links p s t g.0 g.1 own) so
    field-links n false s (one t) so place h own = child-links SetRow w Any n (tree-links n s t so (record { above = h.above; fits = h.fits; sound = h.sound; keeps = h.keeps; resolved = h.resolved; named = h.named; called = h.called; functions = h.functions }) own)
    field-links n v s (many ts) so place h own = many-links SetRow w Any n v (trees-links n s ts so (record { above = h.above; fits = each-of n v ts h.fits; sound = h.sound; keeps = h.keeps; resolved = h.resolved; named = h.named; called = h.called; functions = h.functions }) own)
    field-links n v s (statements ts) so place h own = statements-links SetRow w Any n (λ e. tt) (λ e. tt) v (trees-links n s ts so (record { above = h.above; fits = each-in n v ts h.fits; sound = h.sound; keeps = h.keeps; resolved = h.resolved; named = h.named; called = h.called; functions = h.functions }) own)

    trees-links : (n : Site) (s : ClassStanding) (ts : Trees) → StandsSo s n → KnownTrees n ts → (is_standing_body s ≡ true → ⊥) → TreesLinks SetRow w Any n ts (write_this_among as_declared made s ts)
    trees-links n s empty so h own = ended
    trees-links n s (t before ts) so h own =
        both-links SetRow w Any n (tree-links n s t so (record { above = h.above; fits = h.fits.0; sound = h.sound.0; keeps = h.keeps.0; resolved = h.resolved.0; named = h.named.0; called = h.called.0; functions = h.functions.0 }) (λ e. absurd (own e)))
        (trees-links n s ts so (record { above = h.above; fits = h.fits.1; sound = h.sound.1; keeps = h.keeps.1; resolved = h.resolved.1; named = h.named.1; called = h.called.1; functions = h.functions.1 }) own)
