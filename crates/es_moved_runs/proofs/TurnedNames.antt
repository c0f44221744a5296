-- What scopes declare where one statement or catch clause is changed whose head is a scope of its own: the same as before.
use Rattle.std.proofs.Common.{◌≡◌, ℕ, zero, suc, refl, ap, ◌++◌}
use Rattle.std.specs.Prelude.{true, ◌||◌}
use Rattle.es_tree.specs.Tree.{Tree, node, Label, Fields, done, ◌then◌, Field, missing, one, many, statements, Trees, ◌before◌, kind_of}
use Rattle.es_tree.specs.declared.ast_type.AstType.{AstType}
use Rattle.es_tree.specs.declared.ast_type.AstType.TheVariants.{
  ArrayPattern,
  AssignmentPattern,
  BlockStatement,
  CatchClause,
  ExportNamedDeclaration,
  ForInStatement,
  ForOfStatement,
  ForStatement,
  Identifier,
  ImportDeclaration,
  ImportDefaultSpecifier,
  ImportNamespaceSpecifier,
  ImportSpecifier,
  LabeledStatement,
  ObjectPattern,
  PatternProperty,
  Program,
  RestElement,
  SwitchCase,
  SwitchStatement,
  VariableDeclaration,
  VariableDeclarator,
}
use Rattle.es_statement_runs.specs.Kinds.{label_in}
use Rattle.es_statement_runs.specs.Names.{cases_names, cases_use, import_names, last_name, lexical_in, lexical_names, own_names, own_use, top_in, top_names, using_here, using_in, var_names, var_names_all, var_names_at, var_names_in}
use Rattle.es_statement_steps.proofs.Below.{Below, BelowField, BelowTrees, map_below, map_trees}
use Rattle.es_statement_steps.proofs.Stands.{child_parts, is_case, is_import_item, is_inner, is_pattern, is_program, parts_fit, shaped, standing}
use Rattle.es_rest_runs.specs.Changing.{Changed, ChangedAmong, ChangedBy, ChangedIn}
use Rattle.es_rest_runs.specs.Changing.Changed.{below, here}
use Rattle.es_rest_runs.specs.Changing.ChangedAmong.{head_of, tail_of}
use Rattle.es_rest_runs.specs.Changing.ChangedBy.{many_of, one_of, statements_of}
use Rattle.es_rest_runs.specs.Changing.ChangedIn.{first_of, later_of}
use Rattle.es_rest_runs.proofs.GrownNames.{Apt, Cased, Part, none_in, none_inside, parts_of}

-- a catch clause, or a loop by for-in or for-of
pub data Turned : Tree → Tree → Type 0 where
  turned_catch : (m : Label) (p x b c : Tree) → Turned (node CatchClause m (one p then (one b then done))) (node CatchClause m (one x then (one c then done)))
  turned_in : (m : Label) (h g e b c : Tree) → Turned (node ForInStatement m (one h then (one e then (one b then done)))) (node ForInStatement m (one g then (one e then (one c then done))))
  turned_of : (m : Label) (h g e b c : Tree) → Turned (node ForOfStatement m (one h then (one e then (one b then done)))) (node ForOfStatement m (one g then (one e then (one c then done))))

pub turned_inner : {a b : Tree} → Turned a b → is_inner (kind_of a) ≡ true → ⊥
turned_inner (turned_catch m p x b c) h = absurd (cc h)
turned_inner (turned_in m h g e b c) i = absurd (cc i)
turned_inner (turned_of m h g e b c) i = absurd (cc i)

turned_case : {a b : Tree} → Turned a b → is_case (kind_of a) ≡ true → ⊥
turned_case (turned_catch m p x b c) h = absurd (cc h)
turned_case (turned_in m h g e b c) i = absurd (cc i)
turned_case (turned_of m h g e b c) i = absurd (cc i)

pub turned_program : {a b : Tree} → Turned a b → is_program (kind_of a) ≡ true → ⊥
turned_program (turned_catch m p x b c) h = absurd (cc h)
turned_program (turned_in m h g e b c) i = absurd (cc i)
turned_program (turned_of m h g e b c) i = absurd (cc i)

turned_item : {a b : Tree} → Turned a b → is_import_item (kind_of a) ≡ true → ⊥
turned_item (turned_catch m p x b c) h = absurd (cc h)
turned_item (turned_in m h g e b c) i = absurd (cc i)
turned_item (turned_of m h g e b c) i = absurd (cc i)

turned_lexical : {a b : Tree} → Turned a b → lexical_names b ≡ lexical_names a
turned_lexical (turned_catch m p x b c) = refl
turned_lexical (turned_in m h g e b c) = refl
turned_lexical (turned_of m h g e b c) = refl

turned_using : {a b : Tree} → Turned a b → using_here b ≡ using_here a
turned_using (turned_catch m p x b c) = refl
turned_using (turned_in m h g e b c) = refl
turned_using (turned_of m h g e b c) = refl

turned_top : {a b : Tree} → Turned a b → var_names b ≡ var_names a → top_names b ≡ top_names a
turned_top (turned_catch m p x b c) same = same
turned_top (turned_in m h g e b c) same = same
turned_top (turned_of m h g e b c) same = same

turned_label : {a b : Tree} → Turned a b → (fs : Fields) → label_in LabeledStatement (one b then fs) ≡ label_in LabeledStatement (one a then fs)
turned_label (turned_catch m p x b c) fs = refl
turned_label (turned_in m h g e b c) fs = refl
turned_label (turned_of m h g e b c) fs = refl

turned_last : {a b : Tree} → Turned a b → last_name (one b then done) ≡ last_name (one a then done)
turned_last (turned_catch m p x b c) = refl
turned_last (turned_in m h g e b c) = refl
turned_last (turned_of m h g e b c) = refl

turned_export : {a b : Tree} → Turned a b → var_names b ≡ var_names a → (l : Label) (fs : Fields) → top_names (node ExportNamedDeclaration l (one b then fs)) ≡ top_names (node ExportNamedDeclaration l (one a then fs))
turned_export (turned_catch m p x b c) same l fs = ap (λ ds. ds ++ var_names_in fs) same
turned_export (turned_in m h g e b c) same l fs = ap (λ ds. ds ++ var_names_in fs) same
turned_export (turned_of m h g e b c) same l fs = ap (λ ds. ds ++ var_names_in fs) same

-- what is known of a node is known of its parts
pub apt_parts : (k : AstType) (l : Label) (fs : Fields) → Apt (node k l fs) → Below (λ i. Apt) fs
apt_parts k l fs apt = map_below (λ i t. Part k i t) (λ i. Apt) (λ i t p. p.0) fs (parts_of k l fs apt)

-- such a place, which declares as many names by `var`
module _ (A : Tree → Tree → Type 0) (turn : (a b : Tree) → A a b → Turned a b) (vars : (a b : Tree) → A a b → Apt a → var_names b ≡ var_names a) where
  outer : (a b : Tree) → A a b → is_inner (kind_of a) ≡ true → ⊥
  outer a b g = turned_inner (turn a b g)

  -- no declaration is changed
  declarator_inner : (i : ℕ) (j : AstType) → parts_fit VariableDeclaration i j ≡ true → is_inner j ≡ true
  declarator_inner zero VariableDeclarator e = refl
  declarator_inner zero _ e = absurd (cc e)
  declarator_inner (suc i) j e = absurd (cc e)

  pub declaration_still : {fs gs : Fields} (l : Label) → ChangedIn A fs gs → Apt (node VariableDeclaration l fs) → ⊥
  declaration_still {fs = fs} l h apt = none_in A outer h (map_below (λ i t. Part VariableDeclaration i t) (λ i t. Apt t × (is_inner (kind_of t) ≡ true)) (λ i t p. (p.0, declarator_inner i (kind_of t) (child_parts VariableDeclaration i t p.1.0).part)) fs (parts_of VariableDeclaration l fs apt))

  -- WHAT A STATEMENT DECLARES in its list
  lexical_same : {a b : Tree} → Changed A a b → Apt a → lexical_names b ≡ lexical_names a
  lexical_same (here {a = a} {b = b} h) apt = turned_lexical (turn a b h)
  lexical_same (below {k = k} {l = l} {fs = fs} {gs = gs} h) apt = at k apt
    where
      at : (k : AstType) → Apt (node k l fs) → lexical_names (node k l gs) ≡ lexical_names (node k l fs)
      at VariableDeclaration apt = absurd (declaration_still l h apt)
      at _ apt = refl

  lexical_all : {ts us : Trees} → ChangedAmong A ts us → BelowTrees Apt ts → lexical_in us ≡ lexical_in ts
  lexical_all (head_of {ts = ts} h) p = ap (λ ds. ds ++ lexical_in ts) (lexical_same h p.0)
  lexical_all (tail_of {a = a} h) p = ap (λ ds. lexical_names a ++ ds) (lexical_all h p.1)

  using_same : {a b : Tree} → Changed A a b → using_here b ≡ using_here a
  using_same (here {a = a} {b = b} h) = turned_using (turn a b h)
  using_same (below {k = k} {l = l} {fs = fs} {gs = gs} h) = at k
    where
      at : (k : AstType) → using_here (node k l gs) ≡ using_here (node k l fs)
      at VariableDeclaration = refl
      at _ = refl

  pub using_all : {ts us : Trees} → ChangedAmong A ts us → using_in us ≡ using_in ts
  using_all (head_of {ts = ts} h) = ap (λ b. b || using_in ts) (using_same h)
  using_all (tail_of {a = a} h) = ap (λ b. using_here a || b) (using_all h)

  -- WHAT HOISTS
  var_node : {fs gs : Fields} (k : AstType) (l : Label) → ChangedIn A fs gs → Apt (node k l fs) → var_names_in gs ≡ var_names_in fs → var_names (node k l gs) ≡ var_names (node k l fs)
  var_node VariableDeclaration l h apt m = absurd (declaration_still l h apt)
  var_node _ l h apt m = m

  mutual
    var_same : {a b : Tree} → Changed A a b → Apt a → var_names b ≡ var_names a
    var_same (here {a = a} {b = b} h) apt = vars a b h apt
    var_same (below {k = k} {l = l} {fs = fs} {gs = gs} h) apt = var_node k l h apt (var_fields h (apt_parts k l fs apt))

    var_fields : {fs gs : Fields} → ChangedIn A fs gs → Below (λ i. Apt) fs → var_names_in gs ≡ var_names_in fs
    var_fields (first_of {fs = fs} h) p = ap (λ ds. ds ++ var_names_in fs) (var_field h p.0)
    var_fields (later_of {f = f} h) p = ap (λ ds. var_names_at f ++ ds) (var_fields h p.1)

    var_field : {f g : Field} → ChangedBy A f g → BelowField Apt f → var_names_at g ≡ var_names_at f
    var_field (one_of h) p = var_same h p
    var_field (many_of h) p = var_all h p
    var_field (statements_of h) p = var_all h p

    var_all : {ts us : Trees} → ChangedAmong A ts us → BelowTrees Apt ts → var_names_all us ≡ var_names_all ts
    var_all (head_of {ts = ts} h) p = ap (λ ds. ds ++ var_names_all ts) (var_same h p.0)
    var_all (tail_of {a = a} h) p = ap (λ ds. var_names a ++ ds) (var_all h p.1)

  -- THE CASES of a `switch`
  case_names : {fs gs : Fields} (l : Label) (cs : Trees) → ChangedIn A fs gs → Below (λ i. Apt) fs → shaped SwitchCase fs ≡ true → cases_names (node SwitchCase l gs before cs) ≡ cases_names (node SwitchCase l fs before cs)
  case_names l cs (first_of {fs = done} h) p e = absurd (cc e)
  case_names l cs (first_of {fs = missing then fs} h) p e = absurd (cc e)
  case_names l cs (first_of {fs = one t then fs} h) p e = absurd (cc e)
  case_names l cs (first_of {fs = many ts then fs} h) p e = absurd (cc e)
  case_names l cs (first_of {fs = statements ts then fs} h) p e = refl
  case_names l cs (later_of (first_of (one_of h))) p e = absurd (cc e)
  case_names l cs (later_of (first_of (many_of h))) p e = absurd (cc e)
  case_names l cs (later_of (first_of (statements_of h))) p e = ap (λ ds. ds ++ cases_names cs) (lexical_all h p.1.0)
  case_names l cs (later_of (later_of {f = missing} h)) p e = absurd (cc e)
  case_names l cs (later_of (later_of {f = one t} h)) p e = absurd (cc e)
  case_names l cs (later_of (later_of {f = many ts} h)) p e = absurd (cc e)
  case_names l cs (later_of (later_of {f = statements ts} h)) p e = refl

  case_use : {fs gs : Fields} (l : Label) (cs : Trees) → ChangedIn A fs gs → shaped SwitchCase fs ≡ true → cases_use (node SwitchCase l gs before cs) ≡ cases_use (node SwitchCase l fs before cs)
  case_use l cs (first_of {fs = done} h) e = absurd (cc e)
  case_use l cs (first_of {fs = missing then fs} h) e = absurd (cc e)
  case_use l cs (first_of {fs = one t then fs} h) e = absurd (cc e)
  case_use l cs (first_of {fs = many ts then fs} h) e = absurd (cc e)
  case_use l cs (first_of {fs = statements ts then fs} h) e = refl
  case_use l cs (later_of (first_of (one_of h))) e = absurd (cc e)
  case_use l cs (later_of (first_of (many_of h))) e = absurd (cc e)
  case_use l cs (later_of (first_of (statements_of h))) e = ap (λ b. b || cases_use cs) (using_all h)
  case_use l cs (later_of (later_of {f = missing} h)) e = absurd (cc e)
  case_use l cs (later_of (later_of {f = one t} h)) e = absurd (cc e)
  case_use l cs (later_of (later_of {f = many ts} h)) e = absurd (cc e)
  case_use l cs (later_of (later_of {f = statements ts} h)) e = refl

  cases_same : {cs es : Trees} → ChangedAmong A cs es → BelowTrees Cased cs → (cases_names es ≡ cases_names cs) × (cases_use es ≡ cases_use cs)
  cases_same (head_of (here {a = a} {b = b} h)) p = absurd (turned_case (turn a b h) p.0.1)
  cases_same (head_of {ts = cs} (below {k = k} {l = l} {fs = fs} {gs = gs} h)) p = at k p.0.0 p.0.1
    where
      at : (k : AstType) → Apt (node k l fs) → is_case k ≡ true → (cases_names (node k l gs before cs) ≡ cases_names (node k l fs before cs)) × (cases_use (node k l gs before cs) ≡ cases_use (node k l fs before cs))
      at SwitchCase apt e = (case_names l cs h (apt_parts SwitchCase l fs apt) (standing SwitchCase l fs apt.0).shape, case_use l cs h (standing SwitchCase l fs apt.0).shape)
      at _ apt e = absurd (cc e)
  cases_same (tail_of {a = a} {ts = cs} {us = es} h) p = after a cs es (cases_same h p.1)
    where
      after : (a : Tree) (cs es : Trees) → (cases_names es ≡ cases_names cs) × (cases_use es ≡ cases_use cs) → (cases_names (a before es) ≡ cases_names (a before cs)) × (cases_use (a before es) ≡ cases_use (a before cs))
      after (node k l done) cs es g = g
      after (node k l (f then done)) cs es g = g
      after (node k l (f then (missing then fs))) cs es g = g
      after (node k l (f then (one t then fs))) cs es g = g
      after (node k l (f then (many ts then fs))) cs es g = g
      after (node k l (f then (statements ts then fs))) cs es g = (ap (λ ds. lexical_in ts ++ ds) g.0, ap (λ b. using_in ts || b) g.1)

  -- WHAT A NODE'S OWN SCOPE DECLARES

  -- the name of an import's item
  last_more : {fs gs : Fields} (f : Field) → ChangedIn A fs gs → last_name gs ≡ last_name fs → last_name (f then gs) ≡ last_name (f then fs)
  last_more missing h e = e
  last_more (one (node k l xs)) (first_of h) e = e
  last_more (one (node k l xs)) (later_of h) e = e
  last_more (many ts) h e = e
  last_more (statements ts) h e = e

  last_same : {fs gs : Fields} → ChangedIn A fs gs → last_name gs ≡ last_name fs
  last_same (first_of {fs = done} (one_of (here {a = a} {b = b} h))) = turned_last (turn a b h)
  last_same (first_of {fs = done} (one_of (below h))) = refl
  last_same (first_of {fs = done} (many_of h)) = refl
  last_same (first_of {fs = done} (statements_of h)) = refl
  last_same (first_of {fs = g then fs} (one_of {a = node k l xs} {b = node j m ys} h)) = refl
  last_same (first_of {fs = g then fs} (many_of h)) = refl
  last_same (first_of {fs = g then fs} (statements_of h)) = refl
  last_same (later_of {f = f} h) = last_more f h (last_same h)

  block_names : {fs gs : Fields} → ChangedIn A fs gs → Below (λ i. Apt) fs → own_names BlockStatement gs ≡ own_names BlockStatement fs
  block_names (first_of (one_of h)) p = refl
  block_names (first_of (many_of h)) p = refl
  block_names (first_of (statements_of h)) p = lexical_all h p.0
  block_names (later_of {f = missing} h) p = refl
  block_names (later_of {f = one t} h) p = refl
  block_names (later_of {f = many ts} h) p = refl
  block_names (later_of {f = statements ts} h) p = refl

  block_use : {fs gs : Fields} → ChangedIn A fs gs → own_use BlockStatement gs ≡ own_use BlockStatement fs
  block_use (first_of (one_of h)) = refl
  block_use (first_of (many_of h)) = refl
  block_use (first_of (statements_of h)) = using_all h
  block_use (later_of {f = missing} h) = refl
  block_use (later_of {f = one t} h) = refl
  block_use (later_of {f = many ts} h) = refl
  block_use (later_of {f = statements ts} h) = refl

  for_names : {fs gs : Fields} → ChangedIn A fs gs → Below (λ i. Apt) fs → own_names ForStatement gs ≡ own_names ForStatement fs
  for_names (first_of (one_of h)) p = lexical_same h p.0
  for_names (first_of (many_of h)) p = refl
  for_names (first_of (statements_of h)) p = refl
  for_names (later_of {f = missing} h) p = refl
  for_names (later_of {f = one t} h) p = refl
  for_names (later_of {f = many ts} h) p = refl
  for_names (later_of {f = statements ts} h) p = refl

  for_use : {fs gs : Fields} → ChangedIn A fs gs → own_use ForStatement gs ≡ own_use ForStatement fs
  for_use (first_of (one_of h)) = using_same h
  for_use (first_of (many_of h)) = refl
  for_use (first_of (statements_of h)) = refl
  for_use (later_of {f = missing} h) = refl
  for_use (later_of {f = one t} h) = refl
  for_use (later_of {f = many ts} h) = refl
  for_use (later_of {f = statements ts} h) = refl

  in_names : {fs gs : Fields} → ChangedIn A fs gs → Below (λ i. Apt) fs → own_names ForInStatement gs ≡ own_names ForInStatement fs
  in_names (first_of (one_of h)) p = lexical_same h p.0
  in_names (first_of (many_of h)) p = refl
  in_names (first_of (statements_of h)) p = refl
  in_names (later_of {f = missing} h) p = refl
  in_names (later_of {f = one t} h) p = refl
  in_names (later_of {f = many ts} h) p = refl
  in_names (later_of {f = statements ts} h) p = refl

  of_names : {fs gs : Fields} → ChangedIn A fs gs → Below (λ i. Apt) fs → own_names ForOfStatement gs ≡ own_names ForOfStatement fs
  of_names (first_of (one_of h)) p = lexical_same h p.0
  of_names (first_of (many_of h)) p = refl
  of_names (first_of (statements_of h)) p = refl
  of_names (later_of {f = missing} h) p = refl
  of_names (later_of {f = one t} h) p = refl
  of_names (later_of {f = many ts} h) p = refl
  of_names (later_of {f = statements ts} h) p = refl

  of_use : {fs gs : Fields} → ChangedIn A fs gs → own_use ForOfStatement gs ≡ own_use ForOfStatement fs
  of_use (first_of (one_of h)) = using_same h
  of_use (first_of (many_of h)) = refl
  of_use (first_of (statements_of h)) = refl
  of_use (later_of {f = missing} h) = refl
  of_use (later_of {f = one t} h) = refl
  of_use (later_of {f = many ts} h) = refl
  of_use (later_of {f = statements ts} h) = refl

  switch_same : {fs gs : Fields} → ChangedIn A fs gs → Below (λ i. Part SwitchStatement i) fs → (own_names SwitchStatement gs ≡ own_names SwitchStatement fs) × (own_use SwitchStatement gs ≡ own_use SwitchStatement fs)
  switch_same (first_of {fs = done} h) p = (refl, refl)
  switch_same (first_of {fs = missing then fs} h) p = (refl, refl)
  switch_same (first_of {fs = one t then fs} h) p = (refl, refl)
  switch_same (first_of {fs = many ts then fs} h) p = (refl, refl)
  switch_same (first_of {fs = statements ts then fs} h) p = (refl, refl)
  switch_same (later_of (first_of (one_of h))) p = (refl, refl)
  switch_same (later_of (first_of (many_of {ts = cs} h))) p = cases_same h (map_trees (Part SwitchStatement 1) Cased (λ c q. (q.0, (child_parts SwitchStatement 1 c q.1.0).part)) cs p.1.0)
  switch_same (later_of (first_of (statements_of h))) p = (refl, refl)
  switch_same (later_of (later_of {f = missing} h)) p = (refl, refl)
  switch_same (later_of (later_of {f = one t} h)) p = (refl, refl)
  switch_same (later_of (later_of {f = many ts} h)) p = (refl, refl)
  switch_same (later_of (later_of {f = statements ts} h)) p = (refl, refl)

  pattern_inner : (j : AstType) → is_pattern j ≡ true → is_inner j ≡ true
  pattern_inner Identifier e = refl
  pattern_inner ObjectPattern e = refl
  pattern_inner PatternProperty e = refl
  pattern_inner ArrayPattern e = refl
  pattern_inner AssignmentPattern e = refl
  pattern_inner RestElement e = refl
  pattern_inner _ e = absurd (cc e)

  catch_names : {fs gs : Fields} → ChangedIn A fs gs → Below (λ i. Part CatchClause i) fs → own_names CatchClause gs ≡ own_names CatchClause fs
  catch_names (first_of (one_of {a = a} h)) p = absurd (none_inside A outer h p.0.0 (pattern_inner (kind_of a) ((child_parts CatchClause 0 a p.0.1.0).pattern refl)))
  catch_names (first_of (many_of h)) p = refl
  catch_names (first_of (statements_of h)) p = refl
  catch_names (later_of {f = missing} h) p = refl
  catch_names (later_of {f = one t} h) p = refl
  catch_names (later_of {f = many ts} h) p = refl
  catch_names (later_of {f = statements ts} h) p = refl

  program_use : {fs gs : Fields} → ChangedIn A fs gs → own_use Program gs ≡ own_use Program fs
  program_use (first_of {fs = done} h) = refl
  program_use (first_of {fs = missing then fs} h) = refl
  program_use (first_of {fs = one t then fs} h) = refl
  program_use (first_of {fs = many ts then fs} h) = refl
  program_use (first_of {fs = statements ts then fs} h) = refl
  program_use (later_of (first_of (one_of h))) = refl
  program_use (later_of (first_of (many_of h))) = refl
  program_use (later_of (first_of (statements_of h))) = using_all h
  program_use (later_of (later_of {f = missing} h)) = refl
  program_use (later_of (later_of {f = one t} h)) = refl
  program_use (later_of (later_of {f = many ts} h)) = refl
  program_use (later_of (later_of {f = statements ts} h)) = refl

  pub own_names_same : {fs gs : Fields} (k : AstType) (l : Label) → ChangedIn A fs gs → Apt (node k l fs) → own_names k gs ≡ own_names k fs
  own_names_same {fs = fs} BlockStatement l h apt = block_names h (apt_parts BlockStatement l fs apt)
  own_names_same {fs = fs} ForStatement l h apt = for_names h (apt_parts ForStatement l fs apt)
  own_names_same {fs = fs} ForInStatement l h apt = in_names h (apt_parts ForInStatement l fs apt)
  own_names_same {fs = fs} ForOfStatement l h apt = of_names h (apt_parts ForOfStatement l fs apt)
  own_names_same {fs = fs} SwitchStatement l h apt = (switch_same h (parts_of SwitchStatement l fs apt)).0
  own_names_same {fs = fs} CatchClause l h apt = catch_names h (parts_of CatchClause l fs apt)
  own_names_same ImportSpecifier l h apt = last_same h
  own_names_same ImportDefaultSpecifier l h apt = last_same h
  own_names_same ImportNamespaceSpecifier l h apt = last_same h
  own_names_same _ l h apt = refl

  pub own_use_same : {fs gs : Fields} (k : AstType) (l : Label) → ChangedIn A fs gs → Apt (node k l fs) → own_use k gs ≡ own_use k fs
  own_use_same Program l h apt = program_use h
  own_use_same BlockStatement l h apt = block_use h
  own_use_same ForStatement l h apt = for_use h
  own_use_same ForOfStatement l h apt = of_use h
  own_use_same {fs = fs} SwitchStatement l h apt = (switch_same h (parts_of SwitchStatement l fs apt)).1
  own_use_same _ l h apt = refl

  label_kept : {a b : Tree} → Changed A a b → (fs : Fields) → label_in LabeledStatement (one b then fs) ≡ label_in LabeledStatement (one a then fs)
  label_kept (here {a = a} {b = b} h) fs = turned_label (turn a b h) fs
  label_kept (below h) fs = refl

  pub label_same : {fs gs : Fields} (k : AstType) → ChangedIn A fs gs → label_in k gs ≡ label_in k fs
  label_same LabeledStatement (first_of {fs = fs} (one_of h)) = label_kept h fs
  label_same LabeledStatement (first_of (many_of h)) = refl
  label_same LabeledStatement (first_of (statements_of h)) = refl
  label_same LabeledStatement (later_of {f = missing} h) = refl
  label_same LabeledStatement (later_of {f = one (node k l fs)} h) = refl
  label_same LabeledStatement (later_of {f = many ts} h) = refl
  label_same LabeledStatement (later_of {f = statements ts} h) = refl
  label_same _ h = refl

  -- THE TOP OF A PROGRAM
  imports_same : {ts us : Trees} → ChangedAmong A ts us → BelowTrees (Part ImportDeclaration 0) ts → import_names us ≡ import_names ts
  imports_same (head_of (here {a = a} {b = b} h)) p = absurd (turned_item (turn a b h) (child_parts ImportDeclaration 0 a p.0.1.0).part)
  imports_same (head_of {ts = is} (below h)) p = ap (λ ds. ds ++ import_names is) (last_same h)
  imports_same (tail_of {a = node k l fs} h) p = ap (λ ds. last_name fs ++ ds) (imports_same h p.1)

  import_top : {fs gs : Fields} (l : Label) → ChangedIn A fs gs → shaped ImportDeclaration fs ≡ true → Below (λ i. Part ImportDeclaration i) fs → top_names (node ImportDeclaration l gs) ≡ top_names (node ImportDeclaration l fs)
  import_top l (first_of (one_of h)) s p = absurd (cc s)
  import_top l (first_of (many_of h)) s p = imports_same h p.0
  import_top l (first_of (statements_of h)) s p = absurd (cc s)
  import_top l (later_of {f = missing} h) s p = absurd (cc s)
  import_top l (later_of {f = one t} h) s p = absurd (cc s)
  import_top l (later_of {f = many ts} h) s p = refl
  import_top l (later_of {f = statements ts} h) s p = absurd (cc s)

  export_first : {fs gs : Fields} (k : AstType) (l m : Label) (rest : Fields) → ChangedIn A fs gs → Apt (node k m fs) → top_names (node ExportNamedDeclaration l (one (node k m gs) then rest)) ≡ top_names (node ExportNamedDeclaration l (one (node k m fs) then rest))
  export_first VariableDeclaration l m rest h apt = absurd (declaration_still m h apt)
  export_first {fs = fs} k l m rest h apt = ap (λ ds. ds ++ var_names_in rest) (var_node k m h apt (var_fields h (apt_parts k m fs apt)))

  export_later : (fs gs : Fields) (k : AstType) (l m : Label) (xs : Fields) → var_names_in gs ≡ var_names_in fs → top_names (node ExportNamedDeclaration l (one (node k m xs) then gs)) ≡ top_names (node ExportNamedDeclaration l (one (node k m xs) then fs))
  export_later fs gs VariableDeclaration l m xs e = refl
  export_later fs gs k l m xs e = ap (λ ds. var_names (node k m xs) ++ ds) e

  export_top : {fs gs : Fields} (l : Label) → ChangedIn A fs gs → shaped ExportNamedDeclaration fs ≡ true → Below (λ i. Apt) fs → top_names (node ExportNamedDeclaration l gs) ≡ top_names (node ExportNamedDeclaration l fs)
  export_top l (first_of {fs = fs} (one_of (here {a = a} {b = b} h))) s p = turned_export (turn a b h) (vars a b h p.0) l fs
  export_top l (first_of {fs = rest} (one_of (below {k = k} {l = m} h))) s p = export_first k l m rest h p.0
  export_top l (first_of (many_of h)) s p = absurd (cc s)
  export_top l (first_of (statements_of h)) s p = absurd (cc s)
  export_top l (later_of {f = missing} h) s p = var_fields h p.1
  export_top l (later_of {f = one (node k m xs)} {fs = fs} {gs = gs} h) s p = export_later fs gs k l m xs (var_fields h p.1)
  export_top l (later_of {f = many ts} h) s p = absurd (cc s)
  export_top l (later_of {f = statements ts} h) s p = absurd (cc s)

  top_node : {fs gs : Fields} (k : AstType) (l : Label) → ChangedIn A fs gs → Apt (node k l fs) → top_names (node k l gs) ≡ top_names (node k l fs)
  top_node VariableDeclaration l h apt = absurd (declaration_still l h apt)
  top_node {fs = fs} ImportDeclaration l h apt = import_top l h (standing ImportDeclaration l fs apt.0).shape (parts_of ImportDeclaration l fs apt)
  top_node {fs = fs} ExportNamedDeclaration l h apt = export_top l h (standing ExportNamedDeclaration l fs apt.0).shape (apt_parts ExportNamedDeclaration l fs apt)
  top_node {fs = fs} k l h apt = var_fields h (apt_parts k l fs apt)

  top_same : {a b : Tree} → Changed A a b → Apt a → top_names b ≡ top_names a
  top_same (here {a = a} {b = b} h) apt = turned_top (turn a b h) (vars a b h apt)
  top_same (below {k = k} {l = l} h) apt = top_node k l h apt

  pub tops_same : {ts us : Trees} → ChangedAmong A ts us → BelowTrees Apt ts → top_in us ≡ top_in ts
  tops_same (head_of {ts = ts} h) p = ap (λ ds. ds ++ top_in ts) (top_same h p.0)
  tops_same (tail_of {a = a} h) p = ap (λ ds. top_names a ++ ds) (tops_same h p.1)
