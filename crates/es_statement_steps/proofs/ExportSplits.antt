-- What an export of a namespace does to the list of a program, and that it keeps each test of nodes that the nodes made for it pass.
use Rattle.std.proofs.Common.{◌≡◌, refl, sym, subst, [], ◌∷◌}
use Rattle.std.proofs.lemmas.Bool.{and_from, and_parts}
use Rattle.std.specs.Prelude.{Bool, true, false, ◌&&◌, Option, if◌then◌else◌}
use Rattle.es_tree.specs.Fresh.{node_base}
use Rattle.es_tree.specs.Tree.{Fields, Tree, node, Label, done, ◌then◌, missing, one, many, statements, Trees, empty, ◌before◌}
use Rattle.es_tree.specs.Walks.{all_in_field, all_in_trees, all_nodes}
use Rattle.es_tree.specs.declared.ast_type.AstType.{AstType}
use Rattle.es_tree.specs.declared.ast_type.AstType.TheVariants.{ExportAllDeclaration, ExportNamedDeclaration, ExportSpecifier, ImportDeclaration, ImportNamespaceSpecifier, Program}
use Rattle.es_resolution.specs.Declarations.{Bound}
use Rattle.es_steps.specs.NamespaceExports.{NamespaceRule, namespace_import}
use Rattle.es_steps.specs.NamespaceExports.NamespaceRule.{exports}
use Rattle.es_steps.specs.Nodes.{export_node, identifier, joined_trees, made, placed, specifier_node}
use Rattle.es_steps.specs.Open.{Additions, Open, OpenTrees, Pending, after_imports, finished, finished_field, finished_trees, is_import, opened, pending_statements, whole_list}
use Rattle.es_steps.specs.Rules.{next_name}
use Rattle.es_steps.specs.Steps.{Ledger, Site, Whole, ledger}
use Rattle.es_steps.specs.Steps.Spot.{at_beside, at_node}
use Rattle.es_steps.proofs.Opened.{finished-opened}
use Rattle.es_valid_steps.proofs.ProgramLists.{Exported, ProgramExported}
use Rattle.es_valid_steps.proofs.ProgramLists.Exported.{here, there}
use Rattle.es_valid_steps.proofs.ProgramLists.ProgramExported.{at_list as in_the_list}
use Rattle.es_statement_steps.proofs.MadeNames.{is_made_text}
use Rattle.es_statement_steps.proofs.NewNames.{new-fresh}
use Rattle.es_statement_steps.proofs.StepMoves.{AreNew}

-- WHAT A STEP DOES TO THE LIST

abbrev pub all_from : Label → Tree → Tree → Trees → Tree
all_from m e s attributes = node ExportAllDeclaration m (one e then one s then many attributes then done)

abbrev pub made_import : Label → Bound → Tree → Trees → Tree
made_import m x s attributes = placed m (namespace_import x s attributes)

abbrev pub made_export : Bound → Tree → Tree
made_export x e = export_node (specifier_node (identifier x) e ∷ [])

pub data SplitHere (x : Bound) : Trees → Trees → Type 0 where
  split_here : (m : Label) (e s : Tree) (attributes ts : Trees) → SplitHere x (all_from m e s attributes before ts) (made_import m x s attributes before (made_export x e before ts))
  split_later : (t : Tree) {ts us : Trees} → SplitHere x ts us → SplitHere x (t before ts) (t before us)

pub record SplitBy (w : Whole) (p q : Pending) (x y : Option Bound) (a b : Additions) (ts us : Trees) : Type 0 where
  pub pending : q ≡ p
  pub this : y ≡ x
  pub top : b ≡ a
  pub name : Bound
  pub are_new : AreNew w (name ∷ [])
  pub split : SplitHere name ts us

split-first : {n : Site} {w w' : Whole} {p q : Pending} {x y : Option Bound} {a b : Additions} {t i e : Tree} (ts : Trees) → NamespaceRule n (ledger w p x a) (at_node t) (ledger w' q y b) (at_beside (i ∷ []) e []) →
    SplitBy w p q x y a b (t before ts) (i before (e before ts))
split-first ts (exports {w = w} {m = m} {e = e} {s = s} {attributes = attributes} {x = x} d fresh q r o) =
    record { pending = refl; this = refl; top = refl; name = next_name w x; are_new = new-fresh w (node_base e) (next_name w x) fresh; split = split_here m e s attributes ts }

pub split-by : {n : Site} {w w' : Whole} {p q : Pending} {x y : Option Bound} {a b : Additions} {ts us : OpenTrees} → Exported n (ledger w p x a) (ledger w' q y b) ts us → SplitBy w p q x y a b (finished_trees ts) (finished_trees us)
split-by {w = w} {p = p} {q = q} {x = x} {y = y} {a = a} {b = b} (here t i e {ts = ts} h) =
    subst (λ (f : Tree). SplitBy w p q x y a b (f before finished_trees ts) (finished (opened i) before (finished (opened e) before finished_trees ts))) (sym (finished-opened t))
    (subst (λ (f : Tree). SplitBy w p q x y a b (t before finished_trees ts) (f before (finished (opened e) before finished_trees ts))) (sym (finished-opened i))
    (subst (λ (f : Tree). SplitBy w p q x y a b (t before finished_trees ts) (i before (f before finished_trees ts))) (sym (finished-opened e)) (split-first (finished_trees ts) h)))
split-by (there t h) = let r = split-by h in record { pending = r.pending; this = r.this; top = r.top; name = r.name; are_new = r.are_new; split = split_later (finished t) r.split }

-- TESTS OF NODES

-- the kinds of nodes that are made but names, and that of a program
abbrev pub is_export_kind : AstType → Bool
is_export_kind ImportNamespaceSpecifier = true
is_export_kind ImportDeclaration = true
is_export_kind ExportSpecifier = true
is_export_kind ExportNamedDeclaration = true
is_export_kind Program = true
is_export_kind _ = false

module _ (P : AstType → Label → Fields → Bool) (passes : (k : AstType) (l : Label) (fs : Fields) → is_export_kind k ≡ true → P k l fs ≡ true) (names : (x : Bound) → is_made_text x.name ≡ true → all_nodes P (identifier x) ≡ true) where
  joined-left : (vs ts : Trees) → all_in_trees P (joined_trees vs ts) ≡ true → all_in_trees P vs ≡ true
  joined-left empty ts h = refl
  joined-left (v before vs) ts h = let p = and_parts (all_nodes P v) (all_in_trees P (joined_trees vs ts)) h in and_from (all_nodes P v) (all_in_trees P vs) p.0 (joined-left vs ts p.1)

  joined-right : (vs ts : Trees) → all_in_trees P (joined_trees vs ts) ≡ true → all_in_trees P ts ≡ true
  joined-right empty ts h = h
  joined-right (v before vs) ts h = joined-right vs ts (and_parts (all_nodes P v) (all_in_trees P (joined_trees vs ts)) h).1

  joined-both : (vs ts : Trees) → all_in_trees P vs ≡ true → all_in_trees P ts ≡ true → all_in_trees P (joined_trees vs ts) ≡ true
  joined-both empty ts h k = k
  joined-both (v before vs) ts h k = let p = and_parts (all_nodes P v) (all_in_trees P vs) h in and_from (all_nodes P v) (all_in_trees P (joined_trees vs ts)) p.0 (joined-both vs ts p.1 k)

  record ExportParts (m : Label) (e s : Tree) (attributes ts : Trees) : Type 0 where
    exported : all_nodes P e ≡ true
    from : all_nodes P s ≡ true
    given : all_in_trees P attributes ≡ true
    rest : all_in_trees P ts ≡ true

  export-parts : (m : Label) (e s : Tree) (attributes ts : Trees) → all_in_trees P (all_from m e s attributes before ts) ≡ true → ExportParts m e s attributes ts
  export-parts m e s attributes ts h =
      let p = and_parts (all_nodes P (all_from m e s attributes)) (all_in_trees P ts) h in
      let o = and_parts (P ExportAllDeclaration m (one e then one s then many attributes then done)) (all_nodes P e && (all_nodes P s && (all_in_trees P attributes && true))) p.0 in
      let q = and_parts (all_nodes P e) (all_nodes P s && (all_in_trees P attributes && true)) o.1 in
      let r = and_parts (all_nodes P s) (all_in_trees P attributes && true) q.1 in
      record { exported = q.0; from = r.0; given = (and_parts (all_in_trees P attributes) true r.1).0; rest = p.1 }

  import-so : (x : Bound) → is_made_text x.name ≡ true → (m : Label) (e s : Tree) (attributes ts : Trees) → ExportParts m e s attributes ts → all_nodes P (made_import m x s attributes) ≡ true
  import-so x new m e s attributes ts c =
      let specifier = node ImportNamespaceSpecifier (made [] []) (one (identifier x) then done) in
      let specifier_so : all_nodes P specifier ≡ true = and_from (P ImportNamespaceSpecifier (made [] []) (one (identifier x) then done)) (all_nodes P (identifier x) && true) (passes ImportNamespaceSpecifier (made [] []) (one (identifier x) then done) refl) (and_from (all_nodes P (identifier x)) true (names x new) refl) in
      rw (passes ImportDeclaration _ (many (specifier before empty) then one s then many attributes then done) refl, specifier_so, c.from, c.given) refl

  export-so : (x : Bound) → is_made_text x.name ≡ true → (m : Label) (e s : Tree) (attributes ts : Trees) → ExportParts m e s attributes ts → all_nodes P (made_export x e) ≡ true
  export-so x new m e s attributes ts c =
      let specifier = specifier_node (identifier x) e in
      let specifier_so : all_nodes P specifier ≡ true = and_from (P ExportSpecifier (made [] []) (one (identifier x) then one e then done)) (all_nodes P (identifier x) && (all_nodes P e && true)) (passes ExportSpecifier (made [] []) (one (identifier x) then one e then done) refl)
      (and_from (all_nodes P (identifier x)) (all_nodes P e && true) (names x new) (and_from (all_nodes P e) true c.exported refl)) in
      rw (passes ExportNamedDeclaration (made [] []) (missing then many (specifier before empty) then missing then many empty then done) refl, specifier_so) refl

  split-so : (x : Bound) → is_made_text x.name ≡ true → {ts us : Trees} → SplitHere x ts us → all_in_trees P ts ≡ true → all_in_trees P us ≡ true
  split-so x new (split_here m e s attributes ts) h =
      let c = export-parts m e s attributes ts h in
      and_from (all_nodes P (made_import m x s attributes)) (all_in_trees P (made_export x e before ts)) (import-so x new m e s attributes ts c)
      (and_from (all_nodes P (made_export x e)) (all_in_trees P ts) (export-so x new m e s attributes ts c) c.rest)
  split-so x new (split_later t {ts = ts} {us = us} g) h = let p = and_parts (all_nodes P t) (all_in_trees P ts) h in and_from (all_nodes P t) (all_in_trees P us) p.0 (split-so x new g p.1)

  after-so : (x : Bound) → is_made_text x.name ≡ true → (vs : Trees) {ts us : Trees} → SplitHere x ts us → all_in_trees P (after_imports vs ts) ≡ true → all_in_trees P (after_imports vs us) ≡ true
  after-so x new vs (split_here m e s attributes ts) h =
      let c = export-parts m e s attributes ts (joined-right vs (all_from m e s attributes before ts) h) in
      and_from (all_nodes P (made_import m x s attributes)) (all_in_trees P (joined_trees vs (made_export x e before ts))) (import-so x new m e s attributes ts c)
      (joined-both vs (made_export x e before ts) (joined-left vs (all_from m e s attributes before ts) h) (and_from (all_nodes P (made_export x e)) (all_in_trees P ts) (export-so x new m e s attributes ts c) c.rest))
  after-so x new vs (split_later t {ts = ts} {us = us} g) h = at (is_import t) h (after-so x new vs g)
    where
      at : (b : Bool) → all_in_trees P (if b then t before after_imports vs ts else joined_trees vs (t before ts)) ≡ true → (all_in_trees P (after_imports vs ts) ≡ true → all_in_trees P (after_imports vs us) ≡ true) →
          all_in_trees P (if b then t before after_imports vs us else joined_trees vs (t before us)) ≡ true
      at true h r = let p = and_parts (all_nodes P t) (all_in_trees P (after_imports vs ts)) h in and_from (all_nodes P t) (all_in_trees P (after_imports vs us)) p.0 (r p.1)
      at false h r = joined-both vs (t before us) (joined-left vs (t before ts) h) (split-so x new (split_later t g) (joined-right vs (t before ts) h))

  -- the program
  pub program-so : {s s' : Ledger} {x y : Open} → ProgramExported s s' x y → all_nodes P (finished x) ≡ true → all_nodes P (finished y) ≡ true
  program-so (in_the_list {l = l} {d = d} {p = p} {q = q} {x = x} {y = y} {a = a} {b = b} {ts = ts} {us = us} h) c =
      let r = split-by h in
      let head = all_in_field P (finished_field d) in
      let old = whole_list p x a (finished_trees ts) in
      let fields = and_parts (P Program l (finished_field d then (statements old then done))) (head && (all_in_trees P old && true)) c in
      let parts = and_parts head (all_in_trees P old && true) fields.1 in
      let there = λ (p : Pending) (x : Option Bound) (a : Additions). all_nodes P (node Program l (finished_field d then (statements (whole_list p x a (finished_trees us)) then done))) ≡ true in
      let list_so = after-so r.name (and_parts (is_made_text r.name.name) true r.are_new.names).0 (pending_statements p x a) r.split (and_parts (all_in_trees P old) true parts.1).0 in
      let new = whole_list p x a (finished_trees us) in
      subst (λ (p : Pending). there p y b) (sym r.pending) (subst (λ (x : Option Bound). there p x b) (sym r.this) (subst (λ (a : Additions). there p x a) (sym r.top)
      (and_from (P Program l (finished_field d then (statements new then done))) (head && (all_in_trees P new && true)) (passes Program l (finished_field d then (statements new then done)) refl)
      (and_from head (all_in_trees P new && true) parts.0 (and_from (all_in_trees P new) true list_so refl)))))
