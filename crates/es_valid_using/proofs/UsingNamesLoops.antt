-- `using` in the head of a `for`, maybe with labels, keeps the rules of declared names.
use Rattle.std.proofs.Common.{◌≡◌, ℕ, refl, sym, subst, List, [], ◌∷◌, append-nil, filter}
use Rattle.std.specs.Prelude.{Bool, true, false, ◌&&◌, Some, codes}
use Rattle.std.proofs.lemmas.Bool.{and_parts}
use Rattle.es_tree.specs.Ancestors.{Ancestor, ancestor, is_module, stands_in}
use Rattle.es_tree.specs.DeclaredNames.{Name, name, var_names}
use Rattle.es_tree.specs.HasForm.{field_form, has_form, same_type}
use Rattle.es_tree.specs.Tree.{Tree, node, Label, done, ◌then◌, Field, missing, one, many, statements, Trees, kind_of}
use Rattle.es_tree.specs.Words.{Text}
use Rattle.es_tree.specs.declared.ast_type.AstType.{AstType}
use Rattle.es_tree.specs.declared.ast_type.AstType.TheVariants.{CatchClause, ForStatement, Identifier, LabeledStatement, Program, VariableDeclaration}
use Rattle.es_tree.specs.declared.place.Namespace.TheVariants.{Scope}
use Rattle.es_tree.specs.declared.table.Content.TheVariants.{Child as c-Child}
use Rattle.es_tree.specs.declared.table.Often.TheVariants.{Optional, Required}
use Rattle.es_tree.specs.declared.table.Sort.{Sort}
use Rattle.es_tree.specs.declared.table.Sort.TheVariants.{Expression as s-Expression, ForInit as s-ForInit, Identifier as s-Identifier, Statement as s-Statement}
use Rattle.es_tree.proofs.NodeForm.{node_form}
use Rattle.es_resolution.specs.Declarations.{Bound}
use Rattle.es_steps.specs.Open.{is_import}
use Rattle.es_steps.specs.Rules.{next_name}
use Rattle.es_steps.specs.Steps.{Ledger, Site, Whole}
use Rattle.es_steps.specs.Steps.Spot.{at_node}
use Rattle.es_steps.specs.UsingBlocks.{UsedAll, with_context}
use Rattle.es_steps.specs.UsingLoops.{LoopUsing, UsesInHead, for_fields, labelled}
use Rattle.es_steps.specs.UsingLoops.LoopUsing.{of_loop}
use Rattle.es_steps.specs.UsingLoops.UsesInHead.{in_head, with_label}
use Rattle.es_steps.proofs.StatementWraps.{loop-only}
use Rattle.es_valid_names.proofs.Claims.{Around, Clear, Distinct, Stand, claims, claims_by, claims_in, elsewhere, is_owned, owned}
use Rattle.es_valid_names.proofs.MoreAround.{Allows, clear-more, clear-more-by}
use Rattle.es_valid_using.proofs.UsingNamesBlocks.{context-names, made_here, using-clear}
use Rattle.es_valid_using.proofs.UsingNamesLists.{Moved, moved-apart, moved-both, no_list}
use Rattle.es_valid_using.proofs.UsingNamesMade.{declarators-form, in_made, statement-member, using-moved}
use Rattle.es_valid_using.proofs.UsingNamesPlaces.{Near, claims-near, gone, less-self}
use Rattle.es_valid_using.proofs.UsingNamesReplaced.{NodeWent}
use Rattle.es_valid_using.proofs.UsingNamesSteps.{MovesLawful, MovesNames, may_go}
use Rattle.es_valid_using.proofs.UsingNamesSwitches.{none-moved, optional-mute}
use Rattle.es_valid_using.proofs.UsingNamesWraps.{Wrapped, near-plain, plain-for, wrapped-moved}
use Rattle.es_valid_using.proofs.UsingOutsideRules.{context-beside}

-- A STATEMENT in a field
pub statement-moved : {used used' : Text → Bool} {go : Bool} (k : AstType) (l : Label) (up vp : List Ancestor) → Near go up vp → (f : Field) → field_form k l (c-Child s-Statement Required) f ≡ true → Moved used used' go (claims_by is_owned up f) (claims_by is_owned vp f)
statement-moved k l up vp near (one t) h = claims-near up vp near t (λ e. absurd (statement-member t h e))
statement-moved k l up vp near missing h = absurd (cc h)
statement-moved k l up vp near (many ts) h = absurd (cc h)
statement-moved k l up vp near (statements ts) h = absurd (cc h)

-- THE FIELDS of a `for`

record ForForm (m l : Label) (ds : Trees) (f g h : Field) : Type 0 where
  head : has_form s-ForInit (node VariableDeclaration l (many ds then done)) ≡ true
  test : field_form ForStatement m (c-Child s-Expression Optional) f ≡ true
  update : field_form ForStatement m (c-Child s-Expression Optional) g ≡ true
  body : field_form ForStatement m (c-Child s-Statement Required) h ≡ true

for-form : (a : Sort) (m l : Label) (ds : Trees) (f g h : Field) → has_form a (node ForStatement m (for_fields l ds f g h)) ≡ true → ForForm m l ds f g h
for-form a m l ds f g h e =
    let test = field_form ForStatement m (c-Child s-Expression Optional) f in
    let update = field_form ForStatement m (c-Child s-Expression Optional) g in
    let body = field_form ForStatement m (c-Child s-Statement Required) h in
    let first = and_parts (has_form s-ForInit (node VariableDeclaration l (many ds then done))) (test && (update && (body && true))) (node_form a ForStatement m (for_fields l ds f g h) e).children in
    let second = and_parts test (update && (body && true)) first.1 in
    let third = and_parts update (body && true) second.1 in
    record { head = first.0; test = second.0; update = third.0; body = (and_parts body true third.1).0 }

module _ (c : Bound) where
  abbrev constant : Label → Label
  constant l = record l { texts = Some (codes "const") ∷ [] }

  module _ (m l : Label) (ds es : Trees) (f g h : Field) (texts : l.texts ≡ Some (codes "using") ∷ []) (all : UsedAll c ds es) (form : ForForm m l ds f g h) where
    abbrev for_above : ℕ → ℕ → Ancestor
    for_above i n = ancestor ForStatement m done i n

    for-moved : {used used' : Text → Bool} (go : Bool) (n j : ℕ) (us vs : List Ancestor) → ((i : ℕ) → Near go (for_above i n ∷ us) (for_above i j ∷ vs)) → Moved used used' go (claims_in is_owned us ForStatement m (for_fields l ds f g h) n 0 (for_fields l ds f g h)) (claims_in is_owned vs ForStatement m (for_fields (constant l) es f g h) j 0 (for_fields (constant l) es f g h))
    for-moved go n j us vs near =
        moved-both (using-moved c (for_above 0 n ∷ us) (for_above 0 j ∷ vs) (near 0) l ds es texts all (declarators-form c s-ForInit l ds es all form.head))
        (moved-both (none-moved (claims_by is_owned (for_above 1 n ∷ us) f) (claims_by is_owned (for_above 1 j ∷ vs) f) (optional-mute ForStatement m (for_above 1 n ∷ us) (λ y. tt) f form.test) (optional-mute ForStatement m (for_above 1 j ∷ vs) (λ y. tt) f form.test))
        (moved-both (none-moved (claims_by is_owned (for_above 2 n ∷ us) g) (claims_by is_owned (for_above 2 j ∷ vs) g) (optional-mute ForStatement m (for_above 2 n ∷ us) (λ y. tt) g form.update) (optional-mute ForStatement m (for_above 2 j ∷ vs) (λ y. tt) g form.update))
        (moved-both (statement-moved ForStatement m (for_above 3 n ∷ us) (for_above 3 j ∷ vs) (near 3) h form.body) no_list)))

  -- WITH LABELS

  -- as far as `var` hoists
  record Far (us vs : List Ancestor) : Type 0 where
    vars : (x : Text) → filter is_owned (var_names vs x) ≡ filter is_owned (var_names us x)
    in_module : is_module vs ≡ is_module us

  body-form : (a : Sort) (m k : Label) (t : Tree) → has_form a (node LabeledStatement m (labelled k t)) ≡ true → has_form s-Statement t ≡ true
  body-form a m k t e = (and_parts (has_form s-Statement t) true (and_parts (has_form s-Identifier (node Identifier k done)) _ (node_form a LabeledStatement m (labelled k t) e).children).1).0

  loop-moved : {used used' : Text → Bool} (go : Bool) (a : Sort) (t u : Tree) → UsesInHead c t u → has_form a t ≡ true → (us vs : List Ancestor) → Far us vs → Moved used used' go (claims is_owned us t) (claims is_owned vs u)
  loop-moved go a t u (in_head {m = m} {l = l} {ds = ds} {es = es} {f = f} {g = g} {h = h} texts all) e us vs far =
      for-moved m l ds es f g h texts all (for-form a m l ds f g h e) go 0 0 us vs (λ i. near-plain go (plain-for i) (plain-for i) m m done done 0 0 us vs far.vars (λ y b. less-self (name Scope 0 y b ∷ [])) far.in_module)
  loop-moved go a t u (with_label {m = m} {k = k} {t = t'} {u = u'} r) e us vs far =
      moved-both (loop-moved go s-Statement t' u' r (body-form a m k t' e) (ancestor LabeledStatement m done 1 0 ∷ us) (ancestor LabeledStatement m done 1 0 ∷ vs) (record { vars = far.vars; in_module = far.in_module })) no_list

  -- the names of the loop, of which those in the made block come
  record LoopApart (used used' : Text → Bool) (u : Tree) : Type 0 where
    lists : List (List Name)
    apart : Distinct used [] lists
    moved : (vs : List Ancestor) → ((x : Text) → filter is_owned (var_names vs x) ≡ name Scope 1 x false ∷ []) → is_module vs ≡ false → Moved used used' true lists (claims is_owned vs u)

  loop-apart : (used used' : Text → Bool) (a : Sort) (t u : Tree) → UsesInHead c t u → has_form a t ≡ true → (b : Around) → b.used ≡ used → (st : Stand) → Clear b st t → LoopApart used used' u
  loop-apart used used' a t u (in_head {m = m} {l = l} {ds = ds} {es = es} {f = f} {g = g} {h = h} texts all) e b same st k = record {
    lists = owned st ForStatement m (for_fields l ds f g h);
    apart = subst (λ (v : Text → Bool). Distinct v [] (owned st ForStatement m (for_fields l ds f g h))) same k.0;
    moved = λ vs vars out. for-moved m l ds es f g h texts all (for-form a m l ds f g h e) true 1 0 [] vs (λ i. near-plain true (plain-for i) (plain-for i) m m done done 1 0 [] vs vars (λ y v. gone refl refl (refl, tt)) out);
  }
  loop-apart used used' a t u (with_label {m = m} {k = k} {t = t'} {u = u'} r) e b same st q =
      let below = loop-apart used used' s-Statement t' u' r (body-form a m k t' e) b same elsewhere q.2.1.0 in
      record {
        lists = below.lists;
        apart = below.apart;
        moved = λ vs vars out. subst (λ (gs : List (List Name)). Moved used used' true below.lists gs) (sym (append-nil (claims is_owned (ancestor LabeledStatement m done 1 0 ∷ vs) u'))) (below.moved (ancestor LabeledStatement m done 1 0 ∷ vs) vars out);
      }

  loop-clear : (used used' : Text → Bool) → ((x : Text) → used x ≡ true → used' x ≡ true) → (a : Sort) (t u : Tree) → UsesInHead c t u → has_form a t ≡ true → (b d : Around) → b.used ≡ used → d.used ≡ used' → Allows b d → (st : Stand) → Clear b st t → Clear d elsewhere u
  loop-clear used used' more a t u (in_head {m = m} {l = l} {ds = ds} {es = es} {f = f} {g = g} {h = h} texts all) e b d same after allows st k =
      let here = for-moved m l ds es f g h texts all (for-form a m l ds f g h e) false 1 1 [] [] (λ i. near-plain false (plain-for i) (plain-for i) m m done done 1 1 [] [] (λ y. refl) (λ y v. less-self (name Scope 1 y v ∷ [])) refl) in
      let own = moved-apart more here (subst (λ (v : Text → Bool). Distinct v [] (owned st ForStatement m (for_fields l ds f g h))) same k.0) in (
        subst (λ (v : Text → Bool). Distinct v [] (owned elsewhere ForStatement m (for_fields (constant l) es f g h))) (sym after) own,
        refl,
        (using-clear d c ds es l (constant l) all (clear-more b d allows elsewhere (node VariableDeclaration l (many ds then done)) k.2.0), (clear-more-by b d allows elsewhere f k.2.1.0, (clear-more-by b d allows elsewhere g k.2.1.1.0, (clear-more-by b d allows elsewhere h k.2.1.1.1.0, tt)))),
      )
  loop-clear used used' more a t u (with_label {m = m} {k = k} {t = t'} {u = u'} r) e b d same after allows st q =
      (tt, refl, (clear-more b d allows elsewhere (node Identifier k done) q.2.0, (loop-clear used used' more s-Statement t' u' r (body-form a m k t' e) b d same after allows elsewhere q.2.1.0, tt)))

  record LoopKind (t : Tree) : Type 0 where
    name : same_type (kind_of t) Identifier ≡ false
    inside : same_type (kind_of t) Program ≡ false
    imports : is_import t ≡ false

  loop-kind : (t u : Tree) → UsesInHead c t u → LoopKind t
  loop-kind t u (in_head texts all) = record { name = refl; inside = refl; imports = refl }
  loop-kind t u (with_label r) = record { name = refl; inside = refl; imports = refl }

-- THE RULE

loop-wrapped : (w : Whole) (x : Text) → w.in_use x ≡ false → (a : Sort) (t u : Tree) → UsesInHead (next_name w x) t u → has_form a t ≡ true → Wrapped w.in_use (with_context x w).in_use t u
loop-wrapped w x free a t u r f =
    let c = next_name w x in
    let used = (with_context x w).in_use in
    let kind = loop-kind c t u r in
    record {
      moved = λ up. loop-moved c (may_go up) a t u r f up (in_made up) (record { vars = λ y. refl; in_module = refl });
      own = λ b e st k. let it = loop-apart c w.in_use used a t u r f b e st k in record { lists = it.lists; apart = it.apart; moved = it.moved made_here (λ y. refl) refl };
      clear = λ b d e g allows st k. loop-clear c w.in_use used (context-names w x free).more a t u r f b d e g allows st k;
      name = kind.name;
      inside = kind.inside;
    }

pub loop-moves : MovesLawful LoopUsing
loop-moves = record { only = loop-only; at_nodes = nodes }
  where
    nodes : (n : Site) (s s' : Ledger) (t u : Tree) (a : Sort) → LoopUsing n s (at_node t) s' (at_node u) → has_form a t ≡ true → NodeWent MovesNames n s s' t u
    nodes n s s' t u a (of_loop {w = w} {u = v} {c = x} label takes r) f = record {
      node_went = wrapped-moved w x takes.fresh.free (stands_in CatchClause 1 n.above) t v (loop-wrapped w x takes.fresh.free a t v r f);
      beside = context-beside w x s s' refl refl refl refl refl;
      imports = sym (loop-kind (next_name w x) t v r).imports;
    }
