-- Where declarations, programs and links of chains stand in core programs, and that rows keep it.
use Rattle.std.proofs.Common.{◌≡◌, ℕ, refl, ap, ◌∙◌, List, [], ◌∷◌}
use Rattle.std.proofs.lemmas.Bool.{and_from}
use Rattle.std.specs.Prelude.{Bool, true, false, ◌&&◌, if◌then◌else◌}
use Rattle.es_tree.specs.Words.{Text}
use Rattle.es_tree.specs.Tree.{Tree, Label, Fields, done, ◌then◌, Field, missing, one, many, statements, Trees, ◌before◌, trees, kind_of}
use Rattle.es_tree.specs.Walks.{all_nodes}
use Rattle.es_tree.specs.declared.ast_type.AstType.{AstType}
use Rattle.es_tree.specs.declared.ast_type.AstType.TheVariants.{Program, VariableDeclaration, VariableDeclarator, UpdateExpression, AssignmentExpression, SequenceExpression, MemberExpression, CallExpression, ChainExpression, ParenthesizedExpression}
use Rattle.es_runs.specs.Alike.{Need}
use Rattle.es_runs.specs.OpenSteps.{Whole}
use Rattle.es_runs.specs.Rules.{OnePlace, OneField, InField, OneNode}
use Rattle.es_runs.specs.Rules.OnePlace.{this_place, below}
use Rattle.es_runs.specs.Rules.OneField.{first_field, later_field}
use Rattle.es_runs.specs.Rules.InField.{in_one, in_many, in_statements}
use Rattle.es_runs.specs.Rules.OneNode.{first_node, later_node}
use Rattle.es_runs.specs.Standing.{begins_with_one, field_stands, fields_stand, is_chain, is_end, is_formed, is_link, is_linked, is_lone, is_one, is_placed, is_single, may_stand, trees_stand, undeclaring}
use Rattle.es_runs.proofs.CoreRows.{core_rule}
use Rattle.es_runs.proofs.Kept.{step_all}
use Rattle.es_runs.proofs.Named.{and_left, and_right}
use Rattle.es_runs.proofs.RowFacts.{is_row_kind}
use Rattle.es_runs.proofs.RowKinds.{is_left_kind, row_kind}
use Rattle.es_runs.proofs.RowKeeps.{is_made_kind, is_opened_kind, one_each, all_parts, one_parts, Allows, row_passes}

-- ROWS

-- neither a program nor a declaration nor a declarator
abbrev pub is_part : AstType → Bool
is_part Program = false
is_part VariableDeclaration = false
is_part VariableDeclarator = false
is_part _ = true

-- a kind that isn't a program or a declaration has parts
abbrev pub is_expression : AstType → Bool
is_expression Program = false
is_expression VariableDeclaration = false
is_expression _ = true

pub part_stands : (k j : AstType) → is_chain k ≡ false → is_part j ≡ true → may_stand k j ≡ true
part_stands k Program e h = absurd (cc h)
part_stands k VariableDeclaration e h = absurd (cc h)
part_stands k VariableDeclarator e h = absurd (cc h)
part_stands k _ e h = rw e

pub stands_part : (k j : AstType) → is_expression k ≡ true → may_stand k j ≡ true → is_part j ≡ true
stands_part k Program e h = h
stands_part Program VariableDeclaration e h = absurd (cc e)
stands_part _ VariableDeclaration e h = absurd (cc h)
stands_part VariableDeclaration VariableDeclarator e h = absurd (cc e)
stands_part _ VariableDeclarator e h = absurd (cc h)
stands_part k _ e h = refl

parts_below : (k : AstType) (fs : Fields) → is_expression k ≡ true → fields_stand k fs ≡ true → one_parts is_part fs ≡ true
parts_below k done e h = refl
parts_below k (one t then fs) e h =
    and_from (is_part (kind_of t)) (one_parts is_part fs) (stands_part k (kind_of t) e (and_left (may_stand k (kind_of t)) (fields_stand k fs) h)) (parts_below k fs e (and_right (may_stand k (kind_of t)) (fields_stand k fs) h))
parts_below k (missing then fs) e h = parts_below k fs e h
parts_below k (many ts then fs) e h = parts_below k fs e (and_right (trees_stand k ts) (fields_stand k fs) h)
parts_below k (statements ts then fs) e h = parts_below k fs e (and_right (trees_stand k ts) (fields_stand k fs) h)

each_stands : (k : AstType) (ts : List Tree) → is_chain k ≡ false → all_parts is_part ts ≡ true → fields_stand k (one_each ts) ≡ true
each_stands k [] e h = refl
each_stands k (t ∷ ts) e h = and_from (may_stand k (kind_of t)) (fields_stand k (one_each ts)) (part_stands k (kind_of t) e (and_left (is_part (kind_of t)) (all_parts is_part ts) h)) (each_stands k ts e (and_right (is_part (kind_of t)) (all_parts is_part ts) h))

listed_stand : (k : AstType) (ts : List Tree) → is_chain k ≡ false → all_parts is_part ts ≡ true → trees_stand k (trees ts) ≡ true
listed_stand k [] e h = refl
listed_stand k (t ∷ ts) e h = and_from (may_stand k (kind_of t)) (trees_stand k (trees ts)) (part_stands k (kind_of t) e (and_left (is_part (kind_of t)) (all_parts is_part ts) h)) (listed_stand k ts e (and_right (is_part (kind_of t)) (all_parts is_part ts) h))

-- what is known of the kinds that rows open, make and leave
opened_expression : (k : AstType) → is_opened_kind k ≡ true → is_expression k ≡ true
opened_expression Program e = absurd (cc e)
opened_expression VariableDeclaration e = absurd (cc e)
opened_expression _ e = refl

made_part : (k : AstType) → is_made_kind k ≡ true → is_part k ≡ true
made_part Program e = absurd (cc e)
made_part VariableDeclaration e = absurd (cc e)
made_part VariableDeclarator e = absurd (cc e)
made_part _ e = refl

pub row_part : (k : AstType) → is_row_kind k ≡ true → is_part k ≡ true
row_part Program e = absurd (cc e)
row_part VariableDeclaration e = absurd (cc e)
row_part VariableDeclarator e = absurd (cc e)
row_part _ e = refl

left_part : (k : AstType) → is_left_kind k ≡ true → is_part k ≡ true
left_part Program e = absurd (cc e)
left_part VariableDeclaration e = absurd (cc e)
left_part VariableDeclarator e = absurd (cc e)
left_part _ e = refl

made_no_chain : (k : AstType) → is_made_kind k ≡ true → is_chain k ≡ false
made_no_chain ChainExpression e = absurd (cc e)
made_no_chain _ e = refl

made_formed : (k : AstType) (fs : Fields) → is_made_kind k ≡ true → is_formed k fs ≡ true
made_formed VariableDeclaration fs e = absurd (cc e)
made_formed UpdateExpression fs e = absurd (cc e)
made_formed ParenthesizedExpression fs e = absurd (cc e)
made_formed ChainExpression fs e = absurd (cc e)
made_formed AssignmentExpression fs e = absurd (cc e)
made_formed _ fs e = refl

-- a call by its callee and its arguments
call_stands : (l : Label) (f : Tree) (ts : Trees) → is_part (kind_of f) ≡ true → trees_stand CallExpression ts ≡ true → undeclaring CallExpression l (one f then (many ts then done)) ≡ true
call_stands l f ts h g =
    and_from (may_stand CallExpression (kind_of f) && (trees_stand CallExpression ts && true)) true
    (and_from (may_stand CallExpression (kind_of f)) (trees_stand CallExpression ts && true) (part_stands CallExpression (kind_of f) refl h) (and_from (trees_stand CallExpression ts) true g refl)) refl

arguments_stand : (l : Label) (f : Tree) (ts : Trees) → undeclaring CallExpression l (one f then (many ts then done)) ≡ true → trees_stand CallExpression ts ≡ true
arguments_stand l f ts h =
    and_left (trees_stand CallExpression ts) true (and_right (may_stand CallExpression (kind_of f)) (trees_stand CallExpression ts && true) (and_left (fields_stand CallExpression (one f then (many ts then done))) true h))

pub undeclaring_allows : Allows undeclaring is_part
undeclaring_allows = record {
  parts = λ k l fs e h. parts_below k fs (opened_expression k e) (and_left (fields_stand k fs) (is_formed k fs) h);
  kinds = made_part;
  row_kinds = row_part;
  call_kind = refl;
  sequence_kind = refl;
  makes = λ k l ts e h. and_from (fields_stand k (one_each ts)) (is_formed k (one_each ts)) (each_stands k ts (made_no_chain k e) h) (made_formed k (one_each ts) e);
  assignment = λ l t q h g. and_from (fields_stand AssignmentExpression (one_each (t ∷ q ∷ []))) true (each_stands AssignmentExpression (t ∷ q ∷ []) refl (and_from (is_part (kind_of t)) (is_part (kind_of q) && true) h (and_from (is_part (kind_of q)) true g refl))) refl;
  call = λ l c ts h g. call_stands l c (trees ts) h (listed_stand CallExpression ts refl g);
  sequence = λ l ts h. and_from (trees_stand SequenceExpression (trees ts) && true) true (and_from (trees_stand SequenceExpression (trees ts)) true (listed_stand SequenceExpression ts refl h) refl) refl;
  recalled = λ l m f q ts h g. call_stands m q ts g (arguments_stand l f ts h);
  received = λ l m f q r ts h g k. call_stands m q (r before ts) g (and_from (may_stand CallExpression (kind_of r)) (trees_stand CallExpression ts) (part_stands CallExpression (kind_of r) refl k) (arguments_stand l f ts h));
}

pub row_undeclaring : (no_all : Bool) (w : Whole) {xs : List Text} {n : Need} {a b : Tree} → core_rule no_all w xs n a b → all_nodes undeclaring a ≡ true → all_nodes undeclaring b ≡ true
row_undeclaring = row_passes undeclaring is_part undeclaring_allows

-- STEPS OF ROWS

module _ (no_all : Bool) (w : Whole) (xs : List Text) where
  abbrev Row : Need → Tree → Tree → Type 0
  Row n a b = core_rule no_all w xs n a b

  -- where a node stands, what a row leaves in its place may stand
  row_stands : (k j i : AstType) → is_row_kind j ≡ true → is_left_kind i ≡ true → may_stand k j ≡ true → may_stand k i ≡ true
  row_stands k j i acted left h = at (is_chain k) refl
    where
      no_link : (j : AstType) → is_row_kind j ≡ true → is_link j ≡ true → ⊥
      no_link MemberExpression e d = absurd (cc e)
      no_link CallExpression e d = absurd (cc e)
      no_link _ e d = absurd (cc d)

      at : (b : Bool) → is_chain k ≡ b → may_stand k i ≡ true
      at false e = part_stands k i e (left_part i left)
      at true e = let linked : is_linked k j ≡ true = and_right (is_placed k j) (is_linked k j) h in absurd (no_link j acted (rw e at linked))

  place_stands : (k : AstType) {n : Need} {t u : Tree} → OnePlace Row n t u → may_stand k (kind_of t) ≡ true → may_stand k (kind_of u) ≡ true
  place_stands k (this_place {a = a} {b = b} r) h = let kinds = row_kind no_all w r in row_stands k (kind_of a) (kind_of b) kinds.acted kinds.left h
  place_stands k (below r) h = h

  trees_still : (k : AstType) {n : Need} {ts us : Trees} → OneNode Row n ts us → trees_stand k ts ≡ true → trees_stand k us ≡ true
  trees_still k (first_node {a = a} {b = b} {xs = ts} r) h = and_from (may_stand k (kind_of b)) (trees_stand k ts) (place_stands k r (and_left (may_stand k (kind_of a)) (trees_stand k ts) h)) (and_right (may_stand k (kind_of a)) (trees_stand k ts) h)
  trees_still k (later_node {a = a} {xs = ts} {ys = us} r) h = and_from (may_stand k (kind_of a)) (trees_stand k us) (and_left (may_stand k (kind_of a)) (trees_stand k ts) h) (trees_still k r (and_right (may_stand k (kind_of a)) (trees_stand k ts) h))

  field_still : (k : AstType) {n : Need} {f g : Field} → InField Row n f g → field_stands k f ≡ true → field_stands k g ≡ true
  field_still k (in_one r) h = place_stands k r h
  field_still k (in_many r) h = trees_still k r h
  field_still k (in_statements r) h = trees_still k r h

  fields_still : (k : AstType) {c : ℕ → Need} {fs gs : Fields} → OneField Row c fs gs → fields_stand k fs ≡ true → fields_stand k gs ≡ true
  fields_still k (first_field {f = f} {g = g} {fs = fs} r) h = and_from (field_stands k g) (fields_stand k fs) (field_still k r (and_left (field_stands k f) (fields_stand k fs) h)) (and_right (field_stands k f) (fields_stand k fs) h)
  fields_still k (later_field {f = f} {fs = fs} {gs = gs} r) h = and_from (field_stands k f) (fields_stand k gs) (and_left (field_stands k f) (fields_stand k fs) h) (fields_still k r (and_right (field_stands k f) (fields_stand k fs) h))

  is_one-same : {n : Need} {f g : Field} → InField Row n f g → is_one g ≡ is_one f
  is_one-same (in_one r) = refl
  is_one-same (in_many r) = refl
  is_one-same (in_statements r) = refl

  is_end-same : {c : ℕ → Need} {fs gs : Fields} → OneField Row c fs gs → is_end gs ≡ is_end fs
  is_end-same (first_field r) = refl
  is_end-same (later_field r) = refl

  begins-same : {c : ℕ → Need} {fs gs : Fields} → OneField Row c fs gs → begins_with_one gs ≡ begins_with_one fs
  begins-same (first_field r) = is_one-same r
  begins-same (later_field r) = refl

  lone-same : {c : ℕ → Need} {fs gs : Fields} → OneField Row c fs gs → is_lone gs ≡ is_lone fs
  lone-same (first_field r) = refl
  lone-same (later_field r) = is_end-same r

  single-same : {c : ℕ → Need} {fs gs : Fields} → OneField Row c fs gs → is_single gs ≡ is_single fs
  single-same (first_field {fs = fs} r) = ap (λ b. b && is_end fs) (is_one-same r)
  single-same (later_field {f = f} r) = ap (λ b. is_one f && b) (is_end-same r)

  formed-same : (k : AstType) {c : ℕ → Need} {fs gs : Fields} → OneField Row c fs gs → is_formed k gs ≡ is_formed k fs
  formed-same VariableDeclaration r = lone-same r
  formed-same UpdateExpression r = single-same r
  formed-same ParenthesizedExpression r = single-same r
  formed-same ChainExpression r = single-same r
  formed-same AssignmentExpression r = begins-same r
  formed-same _ r = refl

  -- a node above the place passes as before
  pub undeclaring_above : (k : AstType) (l : Label) (c : ℕ → Need) (fs gs : Fields) → OneField (core_rule no_all w xs) c fs gs → undeclaring k l fs ≡ true → undeclaring k l gs ≡ true
  undeclaring_above k l c fs gs r h =
      and_from (fields_stand k gs) (is_formed k gs) (fields_still k r (and_left (fields_stand k fs) (is_formed k fs) h)) (formed-same k r ∙ and_right (fields_stand k fs) (is_formed k fs) h)

  pub step_undeclaring : {n : Need} {t u : Tree} → OnePlace (core_rule no_all w xs) n t u → all_nodes undeclaring t ≡ true → all_nodes undeclaring u ≡ true
  step_undeclaring r h = step_all undeclaring (core_rule no_all w xs) undeclaring_above (λ n a b. row_undeclaring no_all w) r h
