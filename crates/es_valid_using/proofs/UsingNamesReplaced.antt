-- A step of a rule that acts on nodes and leaves what is pending: with all that is pending written one node of the tree became another.
use Rattle.std.proofs.Common.{◌≡◌, ◌==◌, ◌+◌, ℕ, zero, suc, refl, sym, ap, subst, ◌∙◌, List, [], ◌∷◌, arith}
use Rattle.std.specs.Prelude.{Bool, true, false, ◌&&◌, Option, codes, if◌then◌else◌}
use Rattle.es_tree.specs.Ancestors.{stands_in}
use Rattle.es_tree.specs.HasForm.{has_form, same_type}
use Rattle.es_tree.specs.Tree.{Tree, node, Label, Fields, ◌then◌, Field, one, many, statements, Trees, empty, ◌before◌}
use Rattle.es_tree.specs.Words.{Text}
use Rattle.es_tree.specs.declared.ast_type.AstType.{AstType}
use Rattle.es_tree.specs.declared.ast_type.AstType.TheVariants.{ArrowFunctionExpression, CatchClause}
use Rattle.es_tree.specs.declared.table.Sort.{Sort}
use Rattle.es_tree.specs.declared.table.Sort.TheVariants.{ArrowFunctionBody as s-ArrowFunctionBody}
use Rattle.es_resolution.specs.Declarations.{Bound}
use Rattle.es_steps.specs.Nodes.{joined_trees, return_node}
use Rattle.es_steps.specs.Open.{Additions, Pending, Open, OpenFields, OpenField, OpenTrees, after_imports, body_with, declaration, finished, finished_field, finished_fields, finished_trees, is_body, is_import, opened, pending_statements, whole_list, written_body}
use Rattle.es_steps.specs.Steps.{Whole, Ledger, Site, Spot, site_in, Step, FieldsStep, FieldStep, TreesStep}
use Rattle.es_steps.specs.Steps.Spot.{at_beside, at_body, at_list, at_node}
use Rattle.es_steps.specs.Steps.Step.{acts, inside}
use Rattle.es_steps.specs.Steps.FieldsStep.{in_first, in_later}
use Rattle.es_steps.specs.Steps.FieldStep.{in_child, in_body, in_children, in_list, in_target, in_program, acts_on_body, acts_on_list}
use Rattle.es_steps.specs.Steps.TreesStep.{in_head, in_tail, in_flanked, after_flanked, flanks, acts_on_flanked}
use Rattle.es_steps.proofs.FormLists.{body-inside}
use Rattle.es_steps.proofs.FormOpen.{IsProper, AreProperFields, IsProperField, AreProperTrees}
use Rattle.es_steps.proofs.FormRules.{AtNodes}
use Rattle.es_steps.proofs.Opened.{finished-opened}
use Rattle.es_steps.proofs.Taken.{pending_in, this_in, top_in, whole_in}
use Rattle.es_valid_steps.proofs.FieldForms.{FieldHas, FieldsHave, TreesHave, node-have, rest-have}
use Rattle.es_valid_steps.proofs.Pending.{is_list_kind}

-- whether the body of a catch clause stands in this field
abbrev pub is_clause_body : AstType → ℕ → Bool
is_clause_body k i = same_type k CatchClause && i == 1

-- a list of statements stands in a node that has one
abbrev pub IsList : Field → Type 0
IsList (statements ts) = Unit {0}
IsList f = ⊥

abbrev pub Listed : AstType → Field → Type 0
Listed k f = IsList f → is_list_kind k ≡ true

-- ONE NODE BECAME ANOTHER, where it is known of each whether it is the body of a catch clause.
mutual
  pub data Replaced (N : Bool → Tree → Tree → Type 0) : Bool → Tree → Tree → Type 0 where
    here : {b : Bool} {t u : Tree} → N b t u → Replaced N b t u
    below : {b : Bool} {k : AstType} {l : Label} {fs gs : Fields} → ReplacedIn N k 0 fs gs → Replaced N b (node k l fs) (node k l gs)

  -- in the fields of a node, from this one on
  pub data ReplacedIn (N : Bool → Tree → Tree → Type 0) : AstType → ℕ → Fields → Fields → Type 0 where
    first : {k : AstType} {i : ℕ} {f g : Field} {fs : Fields} → Listed k f → ReplacedBy N (is_clause_body k i) f g → ReplacedIn N k i (f then fs) (g then fs)
    later : {k : AstType} {i : ℕ} {f : Field} {fs gs : Fields} → ReplacedIn N k (suc i) fs gs → ReplacedIn N k i (f then fs) (f then gs)

  pub data ReplacedBy (N : Bool → Tree → Tree → Type 0) : Bool → Field → Field → Type 0 where
    one_node : {b : Bool} {t u : Tree} → Replaced N b t u → ReplacedBy N b (one t) (one u)
    in_many : {b : Bool} {ts us : Trees} → ReplacedAll N b ts us → ReplacedBy N b (many ts) (many us)
    in_statements : {b : Bool} {ts us : Trees} → ReplacedAll N b ts us → ReplacedBy N b (statements ts) (statements us)

  pub data ReplacedAll (N : Bool → Tree → Tree → Type 0) : Bool → Trees → Trees → Type 0 where
    head : {b : Bool} {t u : Tree} {ts : Trees} → Replaced N b t u → ReplacedAll N b (t before ts) (u before ts)
    tail : {b : Bool} {t : Tree} {ts us : Trees} → ReplacedAll N b ts us → ReplacedAll N b (t before ts) (t before us)

-- WITH WHAT IS PENDING: declarations before a list's statements, and the body of an arrow

-- an import stays one
record ListWent (N : Bool → Tree → Tree → Type 0) (b : Bool) (ts us : Trees) : Type 0 where
  replaced : ReplacedAll N b ts us
  around : (bs : Trees) → ReplacedAll N b (after_imports bs ts) (after_imports bs us)

module _ (N : Bool → Tree → Tree → Type 0) where
  pub joined-went : (b : Bool) (bs ts us : Trees) → ReplacedAll N b ts us → ReplacedAll N b (joined_trees bs ts) (joined_trees bs us)
  joined-went b empty ts us h = h
  joined-went b (c before bs) ts us h = tail (joined-went b bs ts us h)

  head-went : (b : Bool) (t u : Tree) (ts : Trees) → is_import u ≡ is_import t → Replaced N b t u → ListWent N b (t before ts) (u before ts)
  head-went b t u ts e h = record { replaced = head h; around = λ bs. at bs (is_import t) (is_import u) e }
    where
      at : (bs : Trees) (v w : Bool) → w ≡ v → ReplacedAll N b (if v then t before after_imports bs ts else joined_trees bs (t before ts)) (if w then u before after_imports bs ts else joined_trees bs (u before ts))
      at bs true true d = head h
      at bs false false d = joined-went b bs (t before ts) (u before ts) (head h)
      at bs true false d = absurd (cc d)
      at bs false true d = absurd (cc d)

  tail-went : (b : Bool) (t : Tree) (ts us : Trees) → ListWent N b ts us → ListWent N b (t before ts) (t before us)
  tail-went b t ts us h = record { replaced = tail h.replaced; around = λ bs. at bs (is_import t) }
    where
      at : (bs : Trees) (v : Bool) → ReplacedAll N b (if v then t before after_imports bs ts else joined_trees bs (t before ts)) (if v then t before after_imports bs us else joined_trees bs (t before us))
      at bs true = tail (h.around bs)
      at bs false = joined-went b bs (t before ts) (t before us) (tail h.replaced)

  declared-went : (kind : Text) (ds : List Tree) (ts us : Trees) → ReplacedAll N false ts us → ReplacedAll N false (declaration kind ds ts) (declaration kind ds us)
  declared-went kind [] ts us h = h
  declared-went kind (d ∷ ds) ts us h = tail h

  body-went : (vs ls : List Tree) (t u : Tree) → Replaced N false t u → Replaced N false (body_with vs ls t) (body_with vs ls u)
  body-went vs ls t u h = at vs ls
    where
      returned : ReplacedAll N false (return_node t before empty) (return_node u before empty)
      returned = head (below (first (λ d. absurd d) (one_node h)))

      list : (vs ls : List Tree) → ReplacedAll N false (declaration (codes "var") vs (declaration (codes "let") ls (return_node t before empty))) (declaration (codes "var") vs (declaration (codes "let") ls (return_node u before empty)))
      list vs ls = declared-went (codes "var") vs (declaration (codes "let") ls (return_node t before empty)) (declaration (codes "let") ls (return_node u before empty)) (declared-went (codes "let") ls (return_node t before empty) (return_node u before empty) returned)

      at : (vs ls : List Tree) → Replaced N false (body_with vs ls t) (body_with vs ls u)
      at [] [] = h
      at [] (l ∷ ls) = below (later (first (λ d. refl) (in_statements (list [] (l ∷ ls)))))
      at (v ∷ vs) ls = below (later (first (λ d. refl) (in_statements (list (v ∷ vs) ls))))

-- STEPS: nothing else changes, but for names that are in use afterwards

pub record SameBeside (s s' : Ledger) : Type 0 where
  pub pending : pending_in s' ≡ pending_in s
  pub this : this_in s' ≡ this_in s
  pub top : top_in s' ≡ top_in s
  pub more : (x : Text) → (whole_in s).in_use x ≡ true → (whole_in s').in_use x ≡ true

-- what a rule leaves of a node
pub record NodeWent (N : Whole → Whole → Bool → Tree → Tree → Type 0) (n : Site) (s s' : Ledger) (t u : Tree) : Type 0 where
  pub node_went : N (whole_in s) (whole_in s') (stands_in CatchClause 1 n.above) t u
  pub beside : SameBeside s s'
  pub imports : is_import u ≡ is_import t

record TreeWent (N : Whole → Whole → Bool → Tree → Tree → Type 0) (b : Bool) (s s' : Ledger) (t u : Tree) : Type 0 where
  replaced : Replaced (N (whole_in s) (whole_in s')) b t u
  beside : SameBeside s s'
  imports : is_import u ≡ is_import t

record TreesWent (N : Whole → Whole → Bool → Tree → Tree → Type 0) (b : Bool) (s s' : Ledger) (ts us : Trees) : Type 0 where
  list : ListWent (N (whole_in s) (whole_in s')) b ts us
  beside : SameBeside s s'

record FieldWent (N : Whole → Whole → Bool → Tree → Tree → Type 0) (k : AstType) (b : Bool) (s s' : Ledger) (f g : Field) : Type 0 where
  replaced : ReplacedBy (N (whole_in s) (whole_in s')) b f g
  beside : SameBeside s s'
  listed : IsList f → is_list_kind k ≡ true

pub record FieldsWent (N : Whole → Whole → Bool → Tree → Tree → Type 0) (k : AstType) (i : ℕ) (s s' : Ledger) (fs gs : Fields) : Type 0 where
  pub replaced : ReplacedIn (N (whole_in s) (whole_in s')) k i fs gs
  pub beside : SameBeside s s'

-- the body of an arrow is that of no catch clause
arrow-clause : (k : AstType) (i : ℕ) → is_body k i ≡ true → (j : ℕ) → is_clause_body k j ≡ false
arrow-clause ArrowFunctionExpression i e j = refl
arrow-clause _ i e j = absurd (cc e)

-- counted from the first field
clause-index : (k : AstType) (j m : ℕ) → m ≡ 0 + j → is_clause_body k j ≡ is_clause_body k m
clause-index k j m e = ap (λ v. is_clause_body k v) (let d : j ≡ m = omega (arith, e) in d)

module _ (R : Site → Ledger → Spot → Ledger → Spot → Type 0) (only : (n : Site) (s s' : Ledger) (x y : Spot) → R n s x s' y → AtNodes x y) (N : Whole → Whole → Bool → Tree → Tree → Type 0) (law : (n : Site) (s s' : Ledger) (t u : Tree) (a : Sort) → R n s (at_node t) s' (at_node u) → has_form a t ≡ true → NodeWent N n s s' t u) where
  mutual
    went-after : {n : Site} {s s' : Ledger} {t u : Open} → Step R n s t s' u → (a : Sort) → IsProper t → has_form a (finished t) ≡ true → TreeWent N (stands_in CatchClause 1 n.above) s s' (finished t) (finished u)
    went-after (acts {n = n} {s = s} {s' = s'} t u h) a proper f =
        let r = law n s s' t u a h (subst (λ (x : Tree). has_form a x ≡ true) (finished-opened t) f) in
        subst (λ (x : Tree). TreeWent N (stands_in CatchClause 1 n.above) s s' x (finished (opened u))) (sym (finished-opened t)) (subst (λ (y : Tree). TreeWent N (stands_in CatchClause 1 n.above) s s' t y) (sym (finished-opened u)) (record { replaced = here r.node_went; beside = r.beside; imports = r.imports }))
    went-after (inside {n = n} {k = k} {l = l} {fs = fs} {gs = gs} h) a proper f =
        let r = went-in h k (is_body k) 0 (clause-index k) (λ j e. arrow-clause k j e) proper (node-have n a k l fs f) in
        record { replaced = below r.replaced; beside = r.beside; imports = refl }

    went-in : {c : ℕ → Site} {s s' : Ledger} {fs gs : OpenFields} → FieldsStep R c s fs s' gs → (k : AstType) (bodies : ℕ → Bool) (i : ℕ) → ((j m : ℕ) → m ≡ i + j → stands_in CatchClause 1 (c j).above ≡ is_clause_body k m) → ((j : ℕ) → bodies j ≡ true → (m : ℕ) → is_clause_body k m ≡ false) → AreProperFields bodies fs → FieldsHave k c bodies (finished_fields fs) → FieldsWent N k i s s' (finished_fields fs) (finished_fields gs)
    went-in (in_first {c = c} {s = s} {s' = s'} {f = f} {g = g} h) k bodies i places arrows proper has =
        let e = places 0 i (omega arith) in
        let r = went-by h k (bodies zero) (λ d. e ∙ arrows zero d i) proper.0 has.0 in
        record { replaced = first r.listed (subst (λ (b : Bool). ReplacedBy (N (whole_in s) (whole_in s')) b (finished_field f) (finished_field g)) e r.replaced); beside = r.beside }
    went-in (in_later h) k bodies i places arrows proper has =
        let r = went-in h k (λ j. bodies (suc j)) (suc i) (λ j m e. places (suc j) m (omega (arith, e))) (λ j. arrows (suc j)) proper.1 has.1 in
        record { replaced = later r.replaced; beside = r.beside }

    went-by : {n : Site} {s s' : Ledger} {f g : OpenField} → FieldStep R n s f s' g → (k : AstType) (b : Bool) → (b ≡ true → stands_in CatchClause 1 n.above ≡ false) → IsProperField b f → FieldHas k n b (finished_field f) → FieldWent N k (stands_in CatchClause 1 n.above) s s' (finished_field f) (finished_field g)
    went-by (in_child h) k b arrow proper has = let r = went-after h has.sort proper has.formed in record { replaced = one_node r.replaced; beside = r.beside; listed = λ d. absurd d }
    went-by (in_children h) k b arrow proper has = let r = went-all h proper has.trees in record { replaced = in_many r.list.replaced; beside = r.beside; listed = λ d. absurd d }
    went-by (in_body {n = n} {w = w} {w' = w'} {p = p} {q = q} {t = t} {u = u} e y y' h) k b arrow proper has =
        let sort = has.arrow proper.0 in
        let bare = body-inside p (finished t) proper.1 (subst (λ (z : Sort). has_form z (written_body p (finished t)) ≡ true) sort has.formed) in
        let r = went-after h s-ArrowFunctionBody proper.2 bare in
        let no = arrow proper.0 in
        let body = body-went (N w w') p.vars p.lets (finished t) (finished u) (subst (λ (v : Bool). Replaced (N w w') v (finished t) (finished u)) no r.replaced) in
        record {
          replaced = subst (λ (v : Bool). ReplacedBy (N w w') v (one (written_body p (finished t))) (one (written_body q (finished u)))) (sym no) (subst (λ (z : Pending). ReplacedBy (N w w') false (one (written_body p (finished t))) (one (written_body z (finished u)))) (sym r.beside.pending) (one_node body));
          beside = record { pending = refl; this = r.beside.this; top = r.beside.top; more = r.beside.more };
          listed = λ d. absurd d;
        }
    went-by (in_list {n = n} {w = w} {w' = w'} {p = p} {q = q} {y = y} {b = d} {ts = ts} {us = us} e e' h) k b arrow proper has =
        let r = went-all h proper.1 (rest-have (pending_statements p y d) (finished_trees ts) has.trees) in
        record {
          replaced = subst (λ (z : Pending). ReplacedBy (N w w') (stands_in CatchClause 1 n.above) (statements (whole_list p y d (finished_trees ts))) (statements (whole_list z y d (finished_trees us)))) (sym r.beside.pending) (in_statements (r.list.around (pending_statements p y d)));
          beside = record { pending = refl; this = r.beside.this; top = r.beside.top; more = r.beside.more };
          listed = λ d. has.listed;
        }
    went-by (in_target {n = n} {w = w} {w' = w'} {p = p} {q = q} {y = y} {y' = y'} {b = d} {ts = ts} {us = us} e h) k b arrow proper has =
        let r = went-all h proper.1 (rest-have (pending_statements p y d) (finished_trees ts) has.trees) in
        record {
          replaced = subst (λ (z : Pending). ReplacedBy (N w w') (stands_in CatchClause 1 n.above) (statements (whole_list p y d (finished_trees ts))) (statements (whole_list z y' d (finished_trees us)))) (sym r.beside.pending)
              (subst (λ (z : Option Bound). ReplacedBy (N w w') (stands_in CatchClause 1 n.above) (statements (whole_list p y d (finished_trees ts))) (statements (whole_list p z d (finished_trees us)))) (sym r.beside.this) (in_statements (r.list.around (pending_statements p y d))));
          beside = record { pending = refl; this = refl; top = r.beside.top; more = r.beside.more };
          listed = λ d. has.listed;
        }
    went-by (in_program {n = n} {w = w} {w' = w'} {p = p} {q = q} {y = y} {y' = y'} {b = d} {b' = d'} {ts = ts} {us = us} e h) k b arrow proper has =
        let r = went-all h proper.1 (rest-have (pending_statements p y d) (finished_trees ts) has.trees) in
        record {
          replaced = subst (λ (z : Pending). ReplacedBy (N w w') (stands_in CatchClause 1 n.above) (statements (whole_list p y d (finished_trees ts))) (statements (whole_list z y' d' (finished_trees us)))) (sym r.beside.pending)
              (subst (λ (z : Option Bound). ReplacedBy (N w w') (stands_in CatchClause 1 n.above) (statements (whole_list p y d (finished_trees ts))) (statements (whole_list p z d' (finished_trees us)))) (sym r.beside.this)
              (subst (λ (z : Additions). ReplacedBy (N w w') (stands_in CatchClause 1 n.above) (statements (whole_list p y d (finished_trees ts))) (statements (whole_list p y z (finished_trees us)))) (sym r.beside.top) (in_statements (r.list.around (pending_statements p y d)))));
          beside = record { pending = refl; this = refl; top = refl; more = r.beside.more };
          listed = λ d. has.listed;
        }
    went-by (acts_on_list {n = n} {s = s} {s' = s'} {p = p} {q = q} {x = x} {y = y} {a = a} {b = d} ts us h) k b arrow proper has = absurd (only n s s' (at_list p x a ts) (at_list q y d us) h)
    went-by (acts_on_body {n = n} {s = s} {s' = s'} {p = p} t u h) k b arrow proper has = absurd (only n s s' (at_body p t) (at_node u) h)

    went-all : {n : Site} {s s' : Ledger} {ts us : OpenTrees} → TreesStep R n s ts s' us → AreProperTrees ts → TreesHave (finished_trees ts) → TreesWent N (stands_in CatchClause 1 n.above) s s' (finished_trees ts) (finished_trees us)
    went-all (in_head {n = n} {s = s} {s' = s'} {t = t} {u = u} {ts = ts} h) proper has =
        let r = went-after h has.0.sort proper.0 has.0.formed in
        record { list = head-went (N (whole_in s) (whole_in s')) (stands_in CatchClause 1 n.above) (finished t) (finished u) (finished_trees ts) r.imports r.replaced; beside = r.beside }
    went-all (in_tail {n = n} {s = s} {s' = s'} {t = t} {ts = ts} {us = us} h) proper has =
        let r = went-all h proper.1 has.1 in
        record { list = tail-went (N (whole_in s) (whole_in s')) (stands_in CatchClause 1 n.above) (finished t) (finished_trees ts) (finished_trees us) r.list; beside = r.beside }
    went-all (in_flanked h) proper has = absurd proper
    went-all (after_flanked h) proper has = absurd proper
    went-all (flanks {n = n} {s = s} {s' = s'} {bs = bs} {cs = cs} t u h) proper has = absurd (only n s s' (at_node t) (at_beside bs u cs) h)
    went-all (acts_on_flanked t us h) proper has = absurd proper

  -- in the fields of a node
  pub went-fields : (n : Site) {s s' : Ledger} (a : Sort) (k : AstType) (l : Label) (fs gs : OpenFields) → FieldsStep R (site_in n k l fs) s fs s' gs → AreProperFields (is_body k) fs → has_form a (node k l (finished_fields fs)) ≡ true → FieldsWent N k 0 s s' (finished_fields fs) (finished_fields gs)
  went-fields n a k l fs gs h proper f = went-in h k (is_body k) 0 (clause-index k) (λ j e. arrow-clause k j e) proper (node-have n a k l fs f)
