-- Where calls of `super` are followed is told by kinds, texts and shapes, and the nodes made have no ids: so trees that are bare the same become so, whatever
-- marks the name has that is written.
use Rattle.std.proofs.Common.{◌≡◌, ◌∙◌, ℕ, zero, suc, refl, ap, sym, [], ◌∷◌}
use Rattle.std.specs.Prelude.{Bool, true, false, ◌&&◌, ◌||◌, Some, bytes_eq, codes, if◌then◌else◌}
use Rattle.es_tree.specs.Bare.{bare, bare_field, bare_fields, bare_label, bare_trees}
use Rattle.es_tree.specs.HasForm.{same_type}
use Rattle.es_tree.specs.Names.{first_text, is_name_place}
use Rattle.es_tree.specs.Tree.{Tree, node, Label, Fields, done, ◌then◌, Field, missing, one, many, statements, Trees, empty, ◌before◌}
use Rattle.es_tree.specs.Words.{Text}
use Rattle.es_tree.specs.declared.ast_type.AstType.{AstType}
use Rattle.es_tree.specs.declared.ast_type.AstType.TheVariants.{AssignmentExpression, CallExpression, ChainExpression, ExpressionStatement, Identifier, SequenceExpression}
use Rattle.es_steps.specs.Nodes.{made, this_expression}
use Rattle.es_pattern_moves.proofs.BareMoves.{place-bare}
use Rattle.es_super_calls.specs.SuperCalls.{calls_it, is_super_statement}
use Rattle.es_super_calls.proofs.BareCalls.{call-bare, calls_it-bare, statement-bare}
use Rattle.es_set_this.specs.ConstructorThis.{after_super, after_super_among, after_super_by, after_super_in, in_arguments, is_closed, is_left, is_list, names_among, names_by, names_first, names_in, names_it, set_statement, settled, then_set, up_to_super, with_this_set}

-- TWICE

mutual
  pub bare-twice : (t : Tree) → bare (bare t) ≡ bare t
  bare-twice (node k l fs) = ap (λ (gs : Fields). node k (bare_label l) gs) (fields-twice fs)

  pub fields-twice : (fs : Fields) → bare_fields (bare_fields fs) ≡ bare_fields fs
  fields-twice done = refl
  fields-twice (f then fs) = λ i. field-twice f i then fields-twice fs i

  pub field-twice : (f : Field) → bare_field (bare_field f) ≡ bare_field f
  field-twice missing = refl
  field-twice (one t) = ap one (bare-twice t)
  field-twice (many ts) = ap many (trees-twice ts)
  field-twice (statements ts) = ap statements (trees-twice ts)

  pub trees-twice : (ts : Trees) → bare_trees (bare_trees ts) ≡ bare_trees ts
  trees-twice empty = refl
  trees-twice (t before ts) = λ i. bare-twice t i before trees-twice ts i

-- NAMES

module _ (y : Text) where
  mutual
    names-bare : (counts : Bool) (t : Tree) → names_it y counts (bare t) ≡ names_it y counts t
    names-bare counts (node k l fs) =
        let inner : names_in y (is_name_place k (bare_label l)) (bare_fields fs) ≡ names_in y (is_name_place k l) fs = ap (λ (c : ℕ → Bool). names_in y c (bare_fields fs)) (λ j i. place-bare k l i j) ∙ in-bare (is_name_place k l) fs in
        λ j. (counts && same_type k Identifier && bytes_eq (first_text l.texts) y) || (if is_closed k then first-bare fs j else inner j)

    first-bare : (fs : Fields) → names_first y (bare_fields fs) ≡ names_first y fs
    first-bare done = refl
    first-bare (f then fs) = by-bare true f

    in-bare : (counts : ℕ → Bool) (fs : Fields) → names_in y counts (bare_fields fs) ≡ names_in y counts fs
    in-bare counts done = refl
    in-bare counts (f then fs) = λ j. by-bare (counts zero) f j || in-bare (λ i. counts (suc i)) fs j

    by-bare : (counts : Bool) (f : Field) → names_by y counts (bare_field f) ≡ names_by y counts f
    by-bare counts missing = refl
    by-bare counts (one t) = names-bare counts t
    by-bare counts (many ts) = among-bare ts
    by-bare counts (statements ts) = among-bare ts

    pub among-bare : (ts : Trees) → names_among y (bare_trees ts) ≡ names_among y ts
    among-bare empty = refl
    among-bare (t before ts) = λ j. names-bare true t j || among-bare ts j

-- CALLS

left-bare : (k : AstType) (fs : Fields) → is_left k (bare_fields fs) ≡ is_left k fs
left-bare ChainExpression done = refl
left-bare ChainExpression (missing then fs) = refl
left-bare ChainExpression (one t then fs) = call-bare t
left-bare ChainExpression (many ts then fs) = refl
left-bare ChainExpression (statements ts then fs) = refl
left-bare k fs = refl

module _ (x z : Tree) (e : bare x ≡ bare z) where
  abbrev assigned : Tree → Tree
  assigned t = node AssignmentExpression (bare_label (made (Some (codes "=") ∷ []) [])) (one t then (one (bare this_expression) then done))

  set-bare : bare (set_statement x) ≡ bare (set_statement z)
  set-bare = ap (λ (t : Tree). node ExpressionStatement (bare_label (made [] [])) (one (assigned t) then done)) e

  then-bare : (l : Label) (fs gs : Fields) → bare_fields fs ≡ bare_fields gs → bare (then_set x l fs) ≡ bare (then_set z (bare_label l) gs)
  then-bare l fs gs h = λ j. node SequenceExpression (bare_label (record (made [] []) { start = l.start; stop = l.stop })) (many (node CallExpression (bare_label l) (h j) before (assigned (e j) before empty)) then done)

  calls-alike : (fs gs : Fields) → bare_fields fs ≡ bare_fields gs → calls_it fs ≡ calls_it gs
  calls-alike fs gs h = sym (calls_it-bare fs) ∙ ap calls_it h ∙ calls_it-bare gs

  settled-bare : (k : AstType) (l : Label) (fs gs : Fields) → bare_fields fs ≡ bare_fields gs → bare (settled x k l fs) ≡ bare (settled z k (bare_label l) gs)
  settled-bare k l fs gs h = (λ j. bare (if same_type k CallExpression && calls-alike fs gs h j then then_set x l fs else node k l fs)) ∙ at (same_type k CallExpression && calls_it gs)
    where
      at : (c : Bool) → bare (if c then then_set x l fs else node k l fs) ≡ bare (if c then then_set z (bare_label l) gs else node k (bare_label l) gs)
      at true = then-bare l fs gs h
      at false = ap (λ (hs : Fields). node k (bare_label l) hs) h

  -- the statement that sets it
  pub with-bare : (ts : Trees) → bare_trees (with_this_set x ts) ≡ bare_trees (with_this_set z (bare_trees ts))
  with-bare empty = refl
  with-bare (t before ts) = at (is_super_statement t) (with-bare ts) ∙ (λ j. bare_trees (if sym (statement-bare t) j then bare t before (set_statement z before bare_trees ts) else bare t before with_this_set z (bare_trees ts)))
    where
      at : (c : Bool) → bare_trees (with_this_set x ts) ≡ bare_trees (with_this_set z (bare_trees ts)) →
          bare_trees (if c then t before (set_statement x before ts) else t before with_this_set x ts) ≡ bare_trees (if c then bare t before (set_statement z before bare_trees ts) else bare t before with_this_set z (bare_trees ts))
      at true h = λ j. sym (bare-twice t) j before (set-bare j before sym (trees-twice ts) j)
      at false h = λ j. sym (bare-twice t) j before h j

module _ (x z : Tree) (e : bare x ≡ bare z) where
  -- of lists that are bare the same
  pub with-alike : (ts us : Trees) → bare_trees ts ≡ bare_trees us → bare_trees (with_this_set x ts) ≡ bare_trees (with_this_set z us)
  with-alike ts us h = with-bare x z e ts ∙ ap (λ (vs : Trees). bare_trees (with_this_set z vs)) h ∙ sym (with-bare z z refl us)

  at-left : (k : AstType) (l : Label) (fs gs hs : Fields) (c : Bool) → bare_fields gs ≡ bare_fields hs → bare (if c then node k l fs else settled x k l gs) ≡ bare (if c then node k (bare_label l) (bare_fields fs) else settled z k (bare_label l) hs)
  at-left k l fs gs hs true h = sym (bare-twice (node k l fs))
  at-left k l fs gs hs false h = settled-bare x z e k l gs hs h

  at-list : (c : Bool) (ts : Trees) → bare_trees (up_to_super x ts) ≡ bare_trees (up_to_super z (bare_trees ts)) → bare_trees (if c then with_this_set x (up_to_super x ts) else ts) ≡ bare_trees (if c then with_this_set z (up_to_super z (bare_trees ts)) else bare_trees ts)
  at-list true ts h = with-alike (up_to_super x ts) (up_to_super z (bare_trees ts)) h
  at-list false ts h = sym (trees-twice ts)

  at-statement : (t : Tree) (ts : Trees) (c : Bool) → bare (in_arguments x t) ≡ bare (in_arguments z (bare t)) → bare (after_super x t) ≡ bare (after_super z (bare t)) → bare_trees (up_to_super x ts) ≡ bare_trees (up_to_super z (bare_trees ts)) →
      bare_trees (if c then in_arguments x t before ts else after_super x t before up_to_super x ts) ≡ bare_trees (if c then in_arguments z (bare t) before bare_trees ts else after_super z (bare t) before up_to_super z (bare_trees ts))
  at-statement t ts true a h r = λ j. a j before sym (trees-twice ts) j
  at-statement t ts false a h r = λ j. h j before r j

  mutual
    pub after-bare : (t : Tree) → bare (after_super x t) ≡ bare (after_super z (bare t))
    after-bare (node k l fs) =
        let fields : Fields = after_super_in x (is_list k) fs in
        let others : Fields = after_super_in z (is_list k) (bare_fields fs) in
        at-left k l fs fields others (is_left k fs) (after-in (is_list k) fs) ∙ (λ j. bare (if sym (left-bare k fs) j then node k (bare_label l) (bare_fields fs) else settled z k (bare_label l) others))

    after-in : (lists : Bool) (fs : Fields) → bare_fields (after_super_in x lists fs) ≡ bare_fields (after_super_in z lists (bare_fields fs))
    after-in lists done = refl
    after-in lists (f then fs) = λ j. after-by lists f j then after-in lists fs j

    after-by : (lists : Bool) (f : Field) → bare_field (after_super_by x lists f) ≡ bare_field (after_super_by z lists (bare_field f))
    after-by lists missing = refl
    after-by lists (one t) = ap one (after-bare t)
    after-by lists (many ts) = ap many (after-among ts)
    after-by lists (statements ts) = ap statements (at-list lists ts (up-bare ts))

    after-among : (ts : Trees) → bare_trees (after_super_among x ts) ≡ bare_trees (after_super_among z (bare_trees ts))
    after-among empty = refl
    after-among (t before ts) = λ j. after-bare t j before after-among ts j

    pub up-bare : (ts : Trees) → bare_trees (up_to_super x ts) ≡ bare_trees (up_to_super z (bare_trees ts))
    up-bare empty = refl
    up-bare (t before ts) =
        at-statement t ts (is_super_statement t) (arguments-bare t) (after-bare t) (up-bare ts)
        ∙ (λ j. bare_trees (if sym (statement-bare t) j then in_arguments z (bare t) before bare_trees ts else after_super z (bare t) before up_to_super z (bare_trees ts)))

    arguments-bare : (t : Tree) → bare (in_arguments x t) ≡ bare (in_arguments z (bare t))
    arguments-bare (node k l (one (node j m fs) then gs)) = λ i. node k (bare_label l) (one (node j (bare_label m) (after-in false fs i)) then sym (fields-twice gs) i)
    arguments-bare (node k l done) = refl
    arguments-bare (node k l (missing then gs)) = sym (bare-twice (node k l (missing then gs)))
    arguments-bare (node k l (many ts then gs)) = sym (bare-twice (node k l (many ts then gs)))
    arguments-bare (node k l (statements ts then gs)) = sym (bare-twice (node k l (statements ts then gs)))
