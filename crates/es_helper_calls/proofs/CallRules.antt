-- The rules by which a helper is called by a name, or handed on by one, and a name stands for a list of texts: they keep form and the rules of
-- declared names, and other modules see nothing of them.
use Rattle.std.proofs.Common.{◌≡◌, inl, refl, sym, subst, List, []}
use Rattle.std.specs.Prelude.{◌⊎◌, Bool, true}
use Rattle.std.proofs.lemmas.Bool.{and_from}
use Rattle.es_tree.specs.DeclaredNames.{Name}
use Rattle.es_tree.specs.HasForm.{has_form, trees_form}
use Rattle.es_tree.specs.Tree.{Tree, done, ◌then◌, one, many, empty, ◌before◌}
use Rattle.es_tree.specs.Words.{Text}
use Rattle.es_tree.specs.declared.ast_type.AstType.TheVariants.{CallExpression}
use Rattle.es_tree.specs.declared.table.Sort.{Sort}
use Rattle.es_tree.specs.declared.table.Sort.TheVariants.{Argument as s-Argument, Expression as s-Expression}
use Rattle.es_tree.proofs.NodeForm.{node_form, has_form-node}
use Rattle.es_steps.specs.Nodes.{identifier}
use Rattle.es_steps.specs.Slots.{is_slot}
use Rattle.es_steps.specs.Steps.{Ledger, Site, Spot}
use Rattle.es_steps.specs.Steps.Spot.{at_node}
use Rattle.es_steps.proofs.FormLists.{first-formed}
use Rattle.es_steps.proofs.FormMembers.{formed-first}
use Rattle.es_steps.proofs.FormParts.{formed-name}
use Rattle.es_steps.proofs.FormRows.{two-parts}
use Rattle.es_steps.proofs.FormSorts.{form-wider}
use Rattle.es_steps.proofs.FormRules.{AtNodes, FormLawful, NodeFormed, nodes-only, nothing-new}
use Rattle.es_module_names.proofs.RuleKinds.{BothQuiet, NamesLawful}
use Rattle.es_valid_names.proofs.Claims.{claims, elsewhere, is_owned}
use Rattle.es_valid_names.proofs.ClearRules.{NameLawful, NodeKept, nothing-new as no-names}
use Rattle.es_valid_names.proofs.Grown.{Grown, grown-self}
use Rattle.es_valid_names.proofs.MoreAround.{clear-more, clear-more-all}
use Rattle.es_valid_names.proofs.Mute.{mute-expression}
use Rattle.es_helper_calls.specs.CallRows.{CallRow}
use Rattle.es_helper_calls.specs.CallRows.CallRow.{calls, lists, passes}

call-only : (n : Site) (s s' : Ledger) (x y : Spot) → CallRow n s x s' y → AtNodes x y
call-only n s s' x y (calls b mark e named) = tt
call-only n s s' x y (passes b mark none e named) = tt
call-only n s s' x y (lists b texts named) = tt

-- FORM

pub call-form : FormLawful CallRow
call-form = nodes-only CallRow call-only nodes
  where
    nodes : (n : Site) (s s' : Ledger) (t u : Tree) (a : Sort) → (is_slot n.above ≡ true → a ≡ s-Expression) → CallRow n s (at_node t) s' (at_node u) → has_form a t ≡ true → NodeFormed a s s' u
    nodes n s s' t u a slot (calls {l = l} {f = f} {ts = ts} x mark e named) h =
        let m = node_form a CallExpression l (one f then many ts then done) h in
        let parts = two-parts (has_form s-Expression f) (trees_form s-Argument s-Argument ts) m.children in
        record {
          formed = has_form-node a CallExpression l (one (identifier x) then many ts then done) (record { sort = m.sort; texts = m.texts; flags = m.flags; start = m.start; stop = m.stop; agree = refl; children = and_from (has_form s-Expression (identifier x)) _ (formed-name x named) (and_from (trees_form s-Argument s-Argument ts) true parts.1 refl) });
          names = nothing-new s s' refl;
        }
    nodes n s s' t u a slot (passes {l = l} {f = f} {t = g} x mark none e named) h =
        let m = node_form a CallExpression l (one f then many (g before empty) then done) h in
        let parts = two-parts (has_form s-Expression f) (trees_form s-Argument s-Argument (g before empty)) m.children in
        let argument = form-wider s-Argument (identifier x) refl (formed-name x named) in
        record {
          formed = has_form-node a CallExpression l (one f then many (identifier x before empty) then done) (record { sort = m.sort; texts = m.texts; flags = m.flags; start = m.start; stop = m.stop; agree = refl; children = rw (parts.0, argument) refl });
          names = nothing-new s s' refl;
        }
    nodes n s s' t u a slot (lists {l = l} {f = f} {t = g} {ks = ks} x texts named) h =
        let m = node_form a CallExpression l (one f then many (g before (ks before empty)) then done) h in
        let parts = two-parts (has_form s-Expression f) (trees_form s-Argument s-Argument (g before (ks before empty))) m.children in
        let first = (first-formed s-Argument g (ks before empty) parts.1).0 in
        let argument = formed-first s-Argument (identifier x) empty (form-wider s-Argument (identifier x) refl (formed-name x named)) refl in
        record {
          formed = has_form-node a CallExpression l (one f then many (g before (identifier x before empty)) then done) (record { sort = m.sort; texts = m.texts; flags = m.flags; start = m.start; stop = m.stop; agree = refl; children = rw (parts.0, formed-first s-Argument g (identifier x before empty) first argument) refl });
          names = nothing-new s s' refl;
        }

-- DECLARED NAMES

mute-grown : {used used' : Text → Bool} (gs hs : List (List Name)) → gs ≡ [] → hs ≡ [] → Grown used used' gs hs
mute-grown {used} {used'} gs hs e d = subst (λ (xs : List (List Name)). Grown used used' xs hs) (sym e) (subst (λ (ys : List (List Name)). Grown used used' [] ys) (sym d) (grown-self []))

pub call-names : NameLawful CallRow
call-names = record { at_nodes = nodes }
  where
    nodes : (n : Site) (s s' : Ledger) (t u : Tree) (a : Sort) → (is_slot n.above ≡ true → a ≡ s-Expression) → CallRow n s (at_node t) s' (at_node u) → has_form a t ≡ true → has_form a u ≡ true → NodeKept s s' t u
    nodes n s s' t u a slot (calls {ts = ts} x mark e named) f g = record {
      grown = λ up. mute-grown (claims is_owned up t) (claims is_owned up u) (mute-expression a up t refl refl f tt) (mute-expression a up u refl refl g tt);
      clear = λ c d v j m st k. (tt, refl, ((tt, refl, tt), (clear-more-all c d m elsewhere ts k.2.1.0, tt)));
      name = refl;
      key = λ h. absurd (cc h);
      imports = refl;
      inside = refl;
      names = no-names s s' refl;
    }
    nodes n s s' t u a slot (passes {f = h} x mark none e named) f g = record {
      grown = λ up. mute-grown (claims is_owned up t) (claims is_owned up u) (mute-expression a up t refl refl f tt) (mute-expression a up u refl refl g tt);
      clear = λ c d v j m st k. (tt, refl, (clear-more c d m elsewhere h k.2.0, (((tt, refl, tt), tt), tt)));
      name = refl;
      key = λ h. absurd (cc h);
      imports = refl;
      inside = refl;
      names = no-names s s' refl;
    }
    nodes n s s' t u a slot (lists {f = h} {t = i} x texts named) f g = record {
      grown = λ up. mute-grown (claims is_owned up t) (claims is_owned up u) (mute-expression a up t refl refl f tt) (mute-expression a up u refl refl g tt);
      clear = λ c d v j m st k. (tt, refl, (clear-more c d m elsewhere h k.2.0, ((clear-more c d m elsewhere i k.2.1.0.0, ((tt, refl, tt), tt)), tt)));
      name = refl;
      key = λ h. absurd (cc h);
      imports = refl;
      inside = refl;
      names = no-names s s' refl;
    }

-- OTHER MODULES

pub call-quiet : NamesLawful CallRow
call-quiet = record { at_nodes = nodes }
  where
    nodes : (n : Site) (s s' : Ledger) (t u : Tree) → CallRow n s (at_node t) s' (at_node u) → BothQuiet t u ⊎ (is_slot n.above ≡ true)
    nodes n s s' t u (calls x mark e named) = inl (record { acted = refl; left = refl })
    nodes n s s' t u (passes x mark none e named) = inl (record { acted = refl; left = refl })
    nodes n s s' t u (lists x texts named) = inl (record { acted = refl; left = refl })
