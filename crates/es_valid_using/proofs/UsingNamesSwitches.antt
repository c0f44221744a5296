-- `using` in the cases of a `switch` keeps the rules of declared names.
use Rattle.std.proofs.Common.{◌≡◌, ℕ, refl, sym, subst, List, [], ◌∷◌}
use Rattle.std.specs.Prelude.{Bool, true, false}
use Rattle.std.proofs.lemmas.Bool.{and_parts}
use Rattle.es_tree.specs.Ancestors.{Ancestor, ancestor, stands_in}
use Rattle.es_tree.specs.DeclaredNames.{Name, bound_names, name}
use Rattle.es_tree.specs.HasForm.{field_form, has_form, trees_form}
use Rattle.es_tree.specs.Tree.{Tree, node, Label, Fields, done, ◌then◌, Field, missing, one, many, statements, Trees, empty, ◌before◌}
use Rattle.es_tree.specs.Words.{Text}
use Rattle.es_tree.specs.declared.ast_type.AstType.{AstType}
use Rattle.es_tree.specs.declared.ast_type.AstType.TheVariants.{CatchClause, SwitchCase, SwitchStatement}
use Rattle.es_tree.specs.declared.place.Namespace.TheVariants.{Scope}
use Rattle.es_tree.specs.declared.table.Content.TheVariants.{Child as c-Child}
use Rattle.es_tree.specs.declared.table.Often.TheVariants.{Optional, Required}
use Rattle.es_tree.specs.declared.table.Sort.{Sort}
use Rattle.es_tree.specs.declared.table.Sort.TheVariants.{Expression as s-Expression, Statement as s-Statement, SwitchCase as s-SwitchCase}
use Rattle.es_tree.proofs.NodeForm.{node_form}
use Rattle.es_resolution.specs.Declarations.{Bound}
use Rattle.es_steps.specs.Rules.{next_name}
use Rattle.es_steps.specs.Steps.{Ledger, Site, Whole}
use Rattle.es_steps.specs.Steps.Spot.{at_node}
use Rattle.es_steps.specs.UsingBlocks.{Constants, error_of, protected, with_context}
use Rattle.es_steps.specs.UsingSwitches.{ConstantsInCases, SwitchUsing, switch_fields}
use Rattle.es_steps.specs.UsingSwitches.ConstantsInCases.{no_case, in_case}
use Rattle.es_steps.specs.UsingSwitches.SwitchUsing.{of_switch}
use Rattle.es_steps.proofs.FormLists.{first-formed}
use Rattle.es_steps.proofs.StatementWraps.{switch-only}
use Rattle.es_valid_names.proofs.Claims.{Around, ClearAll, Distinct, above, claims, claims_all, claims_by, claims_in, elsewhere, is_owned, owned}
use Rattle.es_valid_names.proofs.ClearPending.{expression-mute}
use Rattle.es_valid_names.proofs.MoreAround.{clear-more-all, clear-more-by}
use Rattle.es_valid_names.proofs.Mute.{Free}
use Rattle.es_valid_using.proofs.UsingNamesBlocks.{constants-clear, context-names, made_here}
use Rattle.es_valid_using.proofs.UsingNamesLists.{Moved, moved-apart, moved-both, no_list}
use Rattle.es_valid_using.proofs.UsingNamesMade.{constants-moved, in_made}
use Rattle.es_valid_using.proofs.UsingNamesPlaces.{Near, gone, less-self, near-in}
use Rattle.es_valid_using.proofs.UsingNamesReplaced.{NodeWent}
use Rattle.es_valid_using.proofs.UsingNamesSteps.{MovesLawful, MovesNames, NodeMoved, may_go}
use Rattle.es_valid_using.proofs.UsingNamesWraps.{Wrapped, near-plain, plain-switch, wrapped-moved}
use Rattle.es_valid_using.proofs.UsingOutsideRules.{context-beside}

-- AN EXPRESSION in a field declares nothing where nothing is bound by its place

module _ (k : AstType) (l : Label) (up : List Ancestor) (bound : (x : Text) → Free (bound_names up x)) where
  pub required-mute : (f : Field) → field_form k l (c-Child s-Expression Required) f ≡ true → claims_by is_owned up f ≡ []
  required-mute (one t) h = expression-mute up t h bound
  required-mute missing h = absurd (cc h)
  required-mute (many ts) h = absurd (cc h)
  required-mute (statements ts) h = absurd (cc h)

  pub optional-mute : (f : Field) → field_form k l (c-Child s-Expression Optional) f ≡ true → claims_by is_owned up f ≡ []
  optional-mute (one t) h = expression-mute up t h bound
  optional-mute missing h = refl
  optional-mute (many ts) h = absurd (cc h)
  optional-mute (statements ts) h = absurd (cc h)

pub none-moved : {used used' : Text → Bool} {go : Bool} (gs hs : List (List Name)) → gs ≡ [] → hs ≡ [] → Moved used used' go gs hs
none-moved {used} {used'} {go} gs hs e d = subst (λ (xs : List (List Name)). Moved used used' go xs hs) (sym e) (subst (λ (ys : List (List Name)). Moved used used' go [] ys) (sym d) no_list)

-- THE CASES

abbrev AreCases : Trees → Type 0
AreCases cs = trees_form s-SwitchCase s-SwitchCase cs ≡ true

module _ {used used' : Text → Bool} {go : Bool} (c : Bound) where
  case-moved : (up vp : List Ancestor) → Near go up vp → (l : Label) (f : Field) (ts us : Trees) → Constants c ts us → has_form s-SwitchCase (node SwitchCase l (f then statements ts then done)) ≡ true → Moved used used' go (claims is_owned up (node SwitchCase l (f then statements ts then done))) (claims is_owned vp (node SwitchCase l (f then statements us then done)))
  case-moved up vp h l f ts us r g =
      let parts = and_parts (field_form SwitchCase l (c-Child s-Expression Optional) f) _ (node_form s-SwitchCase SwitchCase l (f then statements ts then done) g).children in
      let list = (and_parts (trees_form s-Statement s-Statement ts) true parts.1).0 in
      let old : Fields = f then statements ts then done in
      let new : Fields = f then statements us then done in
      moved-both (none-moved (claims_by is_owned (above SwitchCase l old 0 0 ∷ up) f) (claims_by is_owned (above SwitchCase l new 0 0 ∷ vp) f) (optional-mute SwitchCase l (above SwitchCase l old 0 0 ∷ up) (λ x. tt) f parts.0) (optional-mute SwitchCase l (above SwitchCase l new 0 0 ∷ vp) (λ x. tt) f parts.0))
      (moved-both (constants-moved c (ancestor SwitchCase l done 1 0 ∷ up) (ancestor SwitchCase l done 1 0 ∷ vp) (near-in up vp h (ancestor SwitchCase l done 1 0) (λ e. absurd (cc e))) ts us r list) no_list)

  cases-moved : (up vp : List Ancestor) → Near go up vp → (cs ds : Trees) → ConstantsInCases c cs ds → AreCases cs → Moved used used' go (claims_all is_owned up cs) (claims_all is_owned vp ds)
  cases-moved up vp h cs ds no_case g = no_list
  cases-moved up vp h cs ds (in_case {l = l} {f = f} {ts = ts} {us = us} {cs = cs'} {ds = ds'} r rs) g =
      let parts = first-formed s-SwitchCase (node SwitchCase l (f then statements ts then done)) cs' g in
      moved-both (case-moved up vp h l f ts us r parts.0) (cases-moved up vp h cs' ds' rs parts.1)

cases-clear : (a : Around) (c : Bound) (cs ds : Trees) → ConstantsInCases c cs ds → ClearAll a elsewhere cs → ClearAll a elsewhere ds
cases-clear a c cs ds no_case h = tt
cases-clear a c cs ds (in_case {ts = ts} {us = us} {cs = cs'} {ds = ds'} r rs) h = ((tt, refl, (h.0.2.0, (constants-clear a c ts us r h.0.2.1.0, tt))), cases-clear a c cs' ds' rs h.1)

-- THE SWITCH

module _ (w : Whole) (x : Text) (free : w.in_use x ≡ false) (m : Label) (d : Field) (cs ds : Trees) (r : ConstantsInCases (next_name w x) cs ds) (test : field_form SwitchStatement m (c-Child s-Expression Required) d ≡ true) (f : AreCases cs) where
  abbrev after : Whole
  after = with_context x w

  abbrev old : Tree
  old = node SwitchStatement m (switch_fields d cs)

  abbrev new : Tree
  new = node SwitchStatement m (switch_fields d ds)

  abbrev switch_above : ℕ → ℕ → Ancestor
  switch_above i n = above SwitchStatement m (switch_fields d cs) i n

  -- in two places
  fields-moved : (go : Bool) (n j : ℕ) (us vs : List Ancestor) → Near go (switch_above 1 n ∷ us) (switch_above 1 j ∷ vs) → Moved w.in_use after.in_use go (claims_in is_owned us SwitchStatement m (switch_fields d cs) n 0 (switch_fields d cs)) (claims_in is_owned vs SwitchStatement m (switch_fields d ds) j 0 (switch_fields d ds))
  fields-moved go n j us vs near =
      moved-both (none-moved (claims_by is_owned (switch_above 0 n ∷ us) d) (claims_by is_owned (switch_above 0 j ∷ vs) d) (required-mute SwitchStatement m (switch_above 0 n ∷ us) (λ y. tt) d test) (required-mute SwitchStatement m (switch_above 0 j ∷ vs) (λ y. tt) d test))
      (moved-both (cases-moved (next_name w x) (switch_above 1 n ∷ us) (switch_above 1 j ∷ vs) near cs ds r f) no_list)

  switch-wrapped : Wrapped w.in_use after.in_use old new
  switch-wrapped = record {
    moved = λ up. fields-moved (may_go up) 0 0 up (in_made up) (near-plain (may_go up) (plain-switch 1) (plain-switch 1) m m done done 0 0 up (in_made up) (λ y. refl) (λ y b. less-self (name Scope 0 y b ∷ [])) refl);
    own = λ c e st k. record {
      lists = owned st SwitchStatement m (switch_fields d cs);
      apart = subst (λ (v : Text → Bool). Distinct v [] (owned st SwitchStatement m (switch_fields d cs))) e k.0;
      moved = fields-moved true 1 0 [] made_here (near-plain true (plain-switch 1) (plain-switch 1) m m done done 1 0 [] made_here (λ y. refl) (λ y b. gone refl refl (refl, tt)) refl);
    };
    clear = λ c e g h allows st k.
        let names = context-names w x free in
        let here = fields-moved false 1 1 [] [] (near-plain false (plain-switch 1) (plain-switch 1) m m done done 1 1 [] [] (λ y. refl) (λ y b. less-self (name Scope 1 y b ∷ [])) refl) in
        let own = moved-apart names.more here (subst (λ (v : Text → Bool). Distinct v [] (owned st SwitchStatement m (switch_fields d cs))) g k.0) in
        (subst (λ (v : Text → Bool). Distinct v [] (owned elsewhere SwitchStatement m (switch_fields d ds))) (sym h) own, refl, (clear-more-by c e allows elsewhere d k.2.0, (clear-more-all c e allows elsewhere ds (cases-clear c (next_name w x) cs ds r k.2.1.0), tt)));
    name = refl;
    inside = refl;
  }

  pub switch-moved : (b : Bool) → NodeMoved w.in_use after.in_use b old (protected (next_name w x) (error_of w) (new before empty))
  switch-moved b = wrapped-moved w x free b old new switch-wrapped

pub switch-moves : MovesLawful SwitchUsing
switch-moves = record { only = switch-only; at_nodes = nodes }
  where
    nodes : (n : Site) (s s' : Ledger) (t u : Tree) (a : Sort) → SwitchUsing n s (at_node t) s' (at_node u) → has_form a t ≡ true → NodeWent MovesNames n s s' t u
    nodes n s s' t u a (of_switch {w = w} {m = m} {d = d} {cs = cs} {ds = ds} {c = x} any silent takes r) f =
        let parts = and_parts (field_form SwitchStatement m (c-Child s-Expression Required) d) _ (node_form a SwitchStatement m (switch_fields d cs) f).children in
        record { node_went = switch-moved w x takes.fresh.free m d cs ds r parts.0 (and_parts (trees_form s-SwitchCase s-SwitchCase cs) true parts.1).0 (stands_in CatchClause 1 n.above); beside = context-beside w x s s' refl refl refl refl refl; imports = refl }
