-- The statement of constants: what it declares, and what is asked of it in the list of a program.
use Rattle.std.proofs.Common.{arith, ◌≤◌, ◌≡◌, ℕ, suc, refl, sym, ◌∙◌, List, [], ◌∷◌, ◌++◌}
use Rattle.std.specs.Prelude.{Bool, true, false, Option, Some, codes, map}
use Rattle.std.proofs.lemmas.Bool.{and_from}
use Rattle.std.proofs.lemmas.List.{append-nil}
use Rattle.es_tree.specs.Ancestors.{Ancestor, ancestor}
use Rattle.es_tree.specs.Fresh.{also}
use Rattle.es_tree.specs.HasForm.{has_form, trees_form}
use Rattle.es_tree.specs.Tree.{Tree, Label, Fields, done, ◌then◌, one, many, empty, trees}
use Rattle.es_tree.specs.Words.{Text}
use Rattle.es_tree.specs.declared.ast_type.AstType.TheVariants.{VariableDeclaration, VariableDeclarator}
use Rattle.es_tree.specs.declared.table.Sort.TheVariants.{Statement as s-Statement, VariableDeclarator as s-VariableDeclarator}
use Rattle.es_tree.proofs.NodeForm.{has_form-node}
use Rattle.es_semantic.specs.RolesOf.{reads}
use Rattle.es_resolution.specs.Declarations.{Bound, declared_among}
use Rattle.es_resolution.specs.Named.{IsBelow, NamedAll}
use Rattle.es_resolution.specs.Resolved.{Place, ResolvedAll, no_name}
use Rattle.es_resolution.specs.Single.{scopes_among}
use Rattle.es_resolution.proofs.MoreNames.{named-more}
use Rattle.es_steps.specs.Identifiers.{PassesAll}
use Rattle.es_steps.specs.Nodes.{declaration_node, declarator_with, identifier, made}
use Rattle.es_steps.specs.Steps.{Whole}
use Rattle.es_steps.proofs.FormMembers.{formed-first}
use Rattle.es_steps.proofs.FormParts.{IsFormed, IsText, no-span}
use Rattle.es_steps.proofs.Kept.{Each, IsNew, Known, SeesOn}
use Rattle.es_steps.proofs.Written.{body_place, the_role}
use Rattle.es_valid_steps.specs.PlaceRules.{Keeps, KeepsAll}
use Rattle.es_valid_names.proofs.Claims.{Around, ClearAll, above, claims, claims_all, elsewhere, is_owned}
use Rattle.es_valid_names.proofs.ProgramNames.{program_list}
use Rattle.es_top_imports.specs.Laws.{AreNew}
use Rattle.es_top_imports.proofs.TopNames.{each_named, the_name}
use Rattle.es_top_imports.proofs.TopPlaces.{up}
use Rattle.es_top_imports.proofs.TopStatic.{IsTop}
use Rattle.es_top_constants.specs.Laws.{AreLists, names_of}
use Rattle.es_top_constants.specs.TopConstants.{Constant, declarator_of}
use Rattle.es_top_constants.proofs.EachNew.{IsSound}
use Rattle.es_helper_calls.proofs.TextLists.{TextList, list-declares, list-is, list-scopes}
use Rattle.es_helper_calls.proofs.TextLists.TextList.{text_list}
use Rattle.es_top_constants.proofs.TextLists.{list-claims, list-clear, list-passes, list-resolved, texts-keep}

abbrev pub the_constants : List Constant → Tree
the_constants cs = declaration_node (codes "const") (map declarator_of cs)

abbrev pub texts_of : List Constant → List Text
texts_of cs = map (λ b. b.name) (names_of cs)

-- WHAT ITS DECLARATORS DECLARE

new-below : (e f : ℕ) (o : Option ℕ) → IsNew e f o → IsBelow f o
new-below e f (Some s) h = h.1
new-below e f o h = tt

module _ (w : Whole) where
  pub constants-declare : (cs : List Constant) → AreLists w cs → declared_among false (the_role (codes "const")) (trees (map declarator_of cs)) ≡ names_of cs
  constants-declare [] h = refl
  constants-declare (c ∷ cs) h = λ j. c.local ∷ ((list-declares false c.list (list-is c.list h.0) j ++ []) ++ constants-declare cs h.3 j)

  pub constants-hoist : (cs : List Constant) → AreLists w cs → declared_among true (the_role (codes "const")) (trees (map declarator_of cs)) ≡ []
  constants-hoist [] h = refl
  constants-hoist (c ∷ cs) h = λ j. (list-declares true c.list (list-is c.list h.0) j ++ []) ++ constants-hoist cs h.3 j

  pub constants-scopes : (s : ℕ) (cs : List Constant) → AreLists w cs → scopes_among s no_name (the_role (codes "const")) (trees (map declarator_of cs)) ≡ 0
  constants-scopes s [] h = refl
  constants-scopes s (c ∷ cs) h = let e = list-scopes s no_name c.list (list-is c.list h.0) in let es = constants-scopes s cs h.3 in omega arith

  pub constants-named : (u : Text → Bool) (e f : ℕ) (given : List Bound) → ((y : Text) → w.in_use y ≡ true → u y ≡ true) → w.free_symbol ≤ f → (cs : List Constant) → AreLists w cs → Each (λ b. IsNew e f b.symbol) (names_of cs) → Each (IsSound u given) (names_of cs) → NamedAll u f (the_role (codes "const")) (trees (map declarator_of cs))
  constants-named u e f given more freer [] h new sound = tt
  constants-named u e f given more freer (c ∷ cs) h new sound = (((tt, tt), (((sound.0.2, new-below e f c.local.symbol new.0), tt), (named-more w.in_use u more w.free_symbol f freer reads c.list h.2, tt))), constants-named u e f given more freer cs h.3 new.1 sound.1)

  pub constants-resolved : (n : Known) (q : Place) → SeesOn n q.scope → (cs : List Constant) → AreLists w cs → Each (IsSound n.in_use_after n.given) (names_of cs) → ResolvedAll (the_role (codes "const")) (body_place q) (trees (map declarator_of cs))
  constants-resolved n q sees [] h sound = tt
  constants-resolved n q sees (c ∷ cs) h sound = ((tt, refl, (((sym (sees c.local.name c.local.symbol sound.0.0), sound.0.1), refl, tt), (list-resolved (body_place q) c.list (list-is c.list h.0), tt))), constants-resolved n q sees cs h.3 sound.1)

  pub constants-pass : (q : Text → Option ℕ → Bool) (cs : List Constant) → AreLists w cs → Each (λ b. q b.name b.symbol ≡ true) (names_of cs) → PassesAll q (trees (map declarator_of cs))
  constants-pass q [] h pass = tt
  constants-pass q (c ∷ cs) h pass = ((tt, ((pass.0, tt), (list-passes q c.list (list-is c.list h.0), tt))), constants-pass q cs h.3 pass.1)

  -- FORM

  declarator-formed : (b : Bound) (e : Tree) → IsText b → IsFormed e → has_form s-VariableDeclarator (declarator_with (identifier b) e) ≡ true
  declarator-formed b e named formed = rw (named, formed) refl

  declarators-formed : (in_use : Text → Bool) (free : ℕ) (cs : List Constant) → AreNew in_use free (names_of cs) → AreLists w cs → trees_form s-VariableDeclarator s-VariableDeclarator (trees (map declarator_of cs)) ≡ true
  declarators-formed in_use free [] new h = refl
  declarators-formed in_use free (c ∷ cs) new h = formed-first s-VariableDeclarator (declarator_of c) (trees (map declarator_of cs)) (declarator-formed c.local c.list new.1 h.1) (declarators-formed (also c.local.name in_use) (suc free) cs new.3 h.3)

  -- RULES OF PLACES

  abbrev label : Label
  label = made (Some (codes "const") ∷ []) []

  module _ (l : Label) (all : Fields) where
    abbrev there : Fields → List Ancestor
    there fs = ancestor VariableDeclaration label fs 0 0 ∷ up l all

    declarator-keeps : (fs : Fields) (b : Bound) (t : Tree) → TextList t → Keeps (there fs) (declarator_with (identifier b) t)
    declarator-keeps fs b t (text_list k ts h) =
        let parts : Fields = one (identifier b) then one t then done in (
          record { jump = refl; label = refl; returned = refl; super_word = refl; target = refl; chain = refl; mark = refl; deleted = refl; value = refl; using_word = refl; head = refl; item = refl; accessor = refl; rest = refl; declaration = refl; meta = refl },
          (
            (record { jump = refl; label = refl; returned = refl; super_word = refl; target = refl; chain = refl; mark = refl; deleted = refl; value = refl; using_word = refl; head = refl; item = refl; accessor = refl; rest = refl; declaration = refl; meta = refl }, tt),
            (
              (
                record { jump = refl; label = refl; returned = refl; super_word = refl; target = refl; chain = refl; mark = refl; deleted = refl; value = refl; using_word = refl; head = refl; item = refl; accessor = refl; rest = refl; declaration = refl; meta = refl },
                texts-keep k ts (ancestor VariableDeclarator (made [] []) parts 1 0) (there fs) 0 ts h,
              ),
              tt,
            ),
          ),
        )

    declarators-keep : (fs : Fields) (cs : List Constant) → AreLists w cs → KeepsAll (there fs) (trees (map declarator_of cs))
    declarators-keep fs [] h = tt
    declarators-keep fs (c ∷ cs) h = (declarator-keeps fs c.local c.list (list-is c.list h.0), declarators-keep fs cs h.3)

    constants-keep : (cs : List Constant) → AreLists w cs → Keeps (up l all) (the_constants cs)
    constants-keep cs h = (
      record { jump = refl; label = refl; returned = refl; super_word = refl; target = refl; chain = refl; mark = refl; deleted = refl; value = refl; using_word = refl; head = refl; item = refl; accessor = refl; rest = refl; declaration = refl; meta = refl },
      (declarators-keep (many (trees (map declarator_of cs)) then done) cs h, tt),
    )

  -- RULES OF DECLARED NAMES

  abbrev in_constants : Label → List Ancestor
  in_constants l = above VariableDeclaration label (many empty then done) 0 0 ∷ program_list l

  declarators-claim : (l : Label) (cs : List Constant) → AreLists w cs → claims_all is_owned (in_constants l) (trees (map declarator_of cs)) ≡ each_named true (texts_of cs)
  declarators-claim l [] h = refl
  declarators-claim l (c ∷ cs) h = λ j. (the_name true c.local.name ∷ []) ∷ ((list-claims (above VariableDeclarator (made [] []) done 1 0 ∷ in_constants l) c.list (list-is c.list h.0) j ++ []) ++ declarators-claim l cs h.3 j)

  constants-claim : (l : Label) (cs : List Constant) → AreLists w cs → claims is_owned (program_list l) (the_constants cs) ≡ each_named true (texts_of cs)
  constants-claim l cs h = (λ j. declarators-claim l cs h j ++ []) ∙ append-nil (each_named true (texts_of cs))

  declarators-clear : (c : Around) (cs : List Constant) → AreLists w cs → ClearAll c elsewhere (trees (map declarator_of cs))
  declarators-clear c [] h = tt
  declarators-clear c (d ∷ cs) h = ((tt, refl, ((tt, refl, tt), (list-clear c d.list (list-is d.list h.0), tt))), declarators-clear c cs h.3)

  -- IN THE LIST OF A PROGRAM

  pub constants-top : (l : Label) (c : Constant) (cs : List Constant) → AreNew w.in_use w.free_symbol (names_of (c ∷ cs)) → AreLists w (c ∷ cs) → IsTop true (texts_of (c ∷ cs)) l (the_constants (c ∷ cs))
  constants-top l c cs new h = let span = no-span (Some (codes "const") ∷ []) [] in record {
    form = has_form-node s-Statement VariableDeclaration label (many (trees (map declarator_of (c ∷ cs))) then done) (record { sort = refl; texts = refl; flags = refl; start = span.start; stop = span.stop; agree = refl; children = and_from _ true (declarators-formed w.in_use w.free_symbol (c ∷ cs) new h) refl });
    keeps = λ all. constants-keep l all (c ∷ cs) h;
    declares = constants-claim l (c ∷ cs) h;
    clear = λ a. (tt, refl, (declarators-clear a (c ∷ cs) h, tt));
    exports = refl;
  }
