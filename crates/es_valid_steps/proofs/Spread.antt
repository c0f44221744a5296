-- Open programs in which no statement has others beside it: those that one carries before and after it stand in its list. What is
-- finished is the same.
use Rattle.std.proofs.Common.{◌≡◌, ℕ, zero, suc, refl, sym, ap, ◌∙◌, List, [], ◌∷◌}
use Rattle.std.specs.Prelude.{Bool, true, false, None, if◌then◌else◌}
use Rattle.es_tree.specs.Ancestors.{ancestor}
use Rattle.es_tree.specs.Tree.{Tree, node, Label, Fields, done, ◌then◌, Field, missing, one, many, statements, Trees, empty, ◌before◌, trees}
use Rattle.es_tree.specs.declared.ast_type.AstType.{AstType}
use Rattle.es_runs.specs.Alike.{needs}
use Rattle.es_semantic.specs.RolesOf.{role_at}
use Rattle.es_resolution.specs.Resolved.{place_in}
use Rattle.es_steps.specs.Nodes.{joined_trees, word}
use Rattle.es_steps.specs.Open.{Open, open_node, OpenFields, ends, ◌and◌, OpenField, gap, child, body, children, list, OpenTrees, nil, ◌next◌, flanked, flanks_with, followed_by, finished, finished_field, finished_fields, finished_trees, is_body, is_statement_body, no_additions, nothing_pending, opened, opened_field, opened_fields, opened_trees, whole_list, written_body}
use Rattle.es_steps.specs.Steps.{Site, outline, site_in}
use Rattle.es_steps.proofs.Opened.{finished-opened}

-- these trees, opened, before others
abbrev pub opened_before : List Tree → OpenTrees → OpenTrees
opened_before [] us = us
opened_before (t ∷ ts) us = opened t next opened_before ts us

abbrev mutual
  pub spread : Open → Open
  spread (open_node k l fs) = open_node k l (spread_fields fs)

  pub spread_fields : OpenFields → OpenFields
  spread_fields ends = ends
  spread_fields (f and fs) = spread_field f and spread_fields fs

  pub spread_field : OpenField → OpenField
  spread_field gap = gap
  spread_field (child t) = child (spread t)
  spread_field (body p t) = body p (spread t)
  spread_field (children ts) = children (spread_trees ts)
  spread_field (list p x a ts) = list p x a (spread_trees ts)

  pub spread_trees : OpenTrees → OpenTrees
  spread_trees nil = nil
  spread_trees (t next ts) = spread t next spread_trees ts
  spread_trees (flanked bs t cs ts) = opened_before bs (spread t next opened_before cs (spread_trees ts))

-- WHAT IS FINISHED

finished-before : (bs : List Tree) (ts : OpenTrees) → finished_trees (opened_before bs ts) ≡ joined_trees (trees bs) (finished_trees ts)
finished-before [] ts = refl
finished-before (b ∷ bs) ts = λ i. finished-opened b i before finished-before bs ts i

mutual
  pub finished-spread : (t : Open) → finished (spread t) ≡ finished t
  finished-spread (open_node k l fs) = λ i. node k l (finished-spread-fields fs i)

  pub finished-spread-fields : (fs : OpenFields) → finished_fields (spread_fields fs) ≡ finished_fields fs
  finished-spread-fields ends = refl
  finished-spread-fields (f and fs) = λ i. finished-spread-field f i then finished-spread-fields fs i

  finished-spread-field : (f : OpenField) → finished_field (spread_field f) ≡ finished_field f
  finished-spread-field gap = refl
  finished-spread-field (child t) = λ i. one (finished-spread t i)
  finished-spread-field (body p t) = λ i. one (written_body p (finished-spread t i))
  finished-spread-field (children ts) = λ i. many (finished-spread-trees ts i)
  finished-spread-field (list p x a ts) = λ i. statements (whole_list p x a (finished-spread-trees ts i))

  finished-spread-trees : (ts : OpenTrees) → finished_trees (spread_trees ts) ≡ finished_trees ts
  finished-spread-trees nil = refl
  finished-spread-trees (t next ts) = λ i. finished-spread t i before finished-spread-trees ts i
  finished-spread-trees (flanked bs t cs ts) =
      let after = finished-before cs (spread_trees ts) ∙ ap (joined_trees (trees cs)) (finished-spread-trees ts) in
      finished-before bs (spread t next opened_before cs (spread_trees ts)) ∙ (λ i. joined_trees (trees bs) (finished-spread t i before after i))

-- WHAT IS OPENED

either-spread : (v : Bool) (t : Open) → spread t ≡ t → spread_field (if v then child t else body nothing_pending t) ≡ (if v then child t else body nothing_pending t)
either-spread true t e = λ i. child (e i)
either-spread false t e = λ i. body nothing_pending (e i)

mutual
  pub spread-opened : (t : Tree) → spread (opened t) ≡ opened t
  spread-opened (node k l fs) = λ i. open_node k l (spread-opened-fields (is_body k) fs i)

  spread-opened-fields : (bodies : ℕ → Bool) (fs : Fields) → spread_fields (opened_fields bodies fs) ≡ opened_fields bodies fs
  spread-opened-fields bodies done = refl
  spread-opened-fields bodies (f then fs) = λ i. spread-opened-field (bodies zero) f i and spread-opened-fields (λ j. bodies (suc j)) fs i

  spread-opened-field : (b : Bool) (f : Field) → spread_field (opened_field b f) ≡ opened_field b f
  spread-opened-field true missing = refl
  spread-opened-field false missing = refl
  spread-opened-field true (one t) = either-spread (is_statement_body t) (opened t) (spread-opened t)
  spread-opened-field false (one t) = λ i. child (spread-opened t i)
  spread-opened-field true (many ts) = λ i. children (spread-opened-trees ts i)
  spread-opened-field false (many ts) = λ i. children (spread-opened-trees ts i)
  spread-opened-field true (statements ts) = λ i. list nothing_pending None no_additions (spread-opened-trees ts i)
  spread-opened-field false (statements ts) = λ i. list nothing_pending None no_additions (spread-opened-trees ts i)

  pub spread-opened-trees : (ts : Trees) → spread_trees (opened_trees ts) ≡ opened_trees ts
  spread-opened-trees empty = refl
  spread-opened-trees (t before ts) = λ i. spread-opened t i next spread-opened-trees ts i

-- what a statement has beside it, written into its list
spread-joined : (bs : List Tree) (us : Trees) (ts : OpenTrees) → spread_trees (followed_by (opened_trees (joined_trees (trees bs) us)) ts) ≡ opened_before bs (spread_trees (followed_by (opened_trees us) ts))
spread-joined [] us ts = refl
spread-joined (b ∷ bs) us ts = λ i. spread-opened b i next spread-joined bs us ts i

pub spread-flanks : (bs cs : List Tree) (t : Tree) (ts : OpenTrees) → spread_trees (flanked bs (opened t) cs ts) ≡ spread_trees (followed_by (opened_trees (flanks_with bs t cs empty)) ts)
spread-flanks bs cs t ts = sym (spread-joined bs (t before joined_trees (trees cs) empty) ts ∙ (λ i. opened_before bs (spread (opened t) next spread-joined cs empty ts i)))

-- SITES are the same

outline-spread : (fs : OpenFields) → outline fs ≡ outline (spread_fields fs)
outline-spread ends = refl
outline-spread (gap and fs) = λ i. missing then outline-spread fs i
outline-spread (child t and fs) = λ i. one (word []) then outline-spread fs i
outline-spread (body p t and fs) = λ i. one (word []) then outline-spread fs i
outline-spread (children ts and fs) = λ i. one (word []) then outline-spread fs i
outline-spread (list p x a ts and fs) = λ i. one (word []) then outline-spread fs i

pub site-spread : (n : Site) (k : AstType) (l : Label) (fs : OpenFields) → site_in n k l fs ≡ site_in n k l (spread_fields fs)
site-spread n k l fs =
    let known = sym (finished-spread-fields fs) in
    λ i. λ j. record {
      need = needs n.need k l.texts l.flags j;
      above = ancestor k l (outline-spread fs i) j 0 ∷ n.above;
      role = role_at n.role k l (known i) j;
      names = place_in n.names k l (role_at n.role k l (known i)) (known i) j;
    }
