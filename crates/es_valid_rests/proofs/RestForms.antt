-- Patterns with an object rest that move out of a catch clause and of the head of a loop: form is kept.
use Rattle.std.proofs.Common.{◌≡◌, refl, List, [], ◌∷◌}
use Rattle.std.specs.Prelude.{true, false, ◌&&◌, Option, Some, None, codes}
use Rattle.std.proofs.lemmas.Bool.{and_from, and_parts}
use Rattle.es_tree.specs.Attributes.{text_entries, texts_fit}
use Rattle.es_tree.specs.HasForm.{has_form, is_of_sort}
use Rattle.es_tree.specs.Names.{first_text}
use Rattle.es_tree.specs.RestTargets.{is_rest_target}
use Rattle.es_tree.specs.Tree.{Tree, node, Label, Fields, done, ◌then◌, missing, one, many, statements, empty, ◌before◌}
use Rattle.es_tree.specs.Words.{Text}
use Rattle.es_tree.specs.declared.ast_type.AstType.{AstType}
use Rattle.es_tree.specs.declared.ast_type.AstType.TheVariants.{AssignmentExpression, BlockStatement, CatchClause, ExpressionStatement, ForInStatement, ForOfStatement, ObjectTarget, VariableDeclaration, VariableDeclarator}
use Rattle.es_tree.specs.declared.table.Sort.{Sort}
use Rattle.es_tree.specs.declared.table.Sort.TheVariants.{AssignmentTarget as s-AssignmentTarget, Binding as s-Binding, BlockStatement as s-BlockStatement, Expression as s-Expression, ForLeft as s-ForLeft, Statement as s-Statement, VariableDeclarator as s-VariableDeclarator}
use Rattle.es_tree.proofs.NodeForm.{node_form, has_form-node}
use Rattle.es_resolution.specs.Declarations.{Bound}
use Rattle.es_steps.specs.CatchPatterns.{CatchRest}
use Rattle.es_steps.specs.CatchPatterns.CatchRest.{moves}
use Rattle.es_steps.specs.LoopHeads.{HeadRest, IsForEach, TargetHead, assigning_head, head_fields, new_head}
use Rattle.es_steps.specs.LoopHeads.HeadRest.{lexical_head, var_head}
use Rattle.es_steps.specs.LoopHeads.IsForEach.{for_in, for_of}
use Rattle.es_steps.specs.LoopHeads.TargetHead.{target_head}
use Rattle.es_steps.specs.Nodes.{assign_node, block_node, declaration_node, declarator, declarator_with, identifier, made, statement_node}
use Rattle.es_steps.specs.Patterns.{let_statement}
use Rattle.es_steps.specs.Rules.{next_name}
use Rattle.es_steps.specs.Slots.{is_slot}
use Rattle.es_steps.specs.Steps.{Ledger, Site}
use Rattle.es_steps.specs.Steps.Spot.{at_node}
use Rattle.es_steps.proofs.CatchRests.{catch-rest-only}
use Rattle.es_steps.proofs.FormParts.{IsFormed, IsText, formed-name, no-span}
use Rattle.es_steps.proofs.FormRows.{next-text}
use Rattle.es_steps.proofs.FormRules.{FormLawful, NodeFormed, no-names, nodes-only}
use Rattle.es_steps.proofs.Heads.{head-only, target-only}

-- SORTS

-- the same node at a place of another sort that takes its kind
pub at-sort : (a b : Sort) (k : AstType) (l : Label) (fs : Fields) → is_of_sort b k ≡ true → has_form a (node k l fs) ≡ true → has_form b (node k l fs) ≡ true
at-sort a b k l fs e h = let f = node_form a k l fs h in has_form-node b k l fs (record { sort = e; texts = f.texts; flags = f.flags; start = f.start; stop = f.stop; agree = f.agree; children = f.children })

-- MADE NODES

pub bound-name : (b : Bound) → IsText b → has_form s-Binding (identifier b) ≡ true
bound-name b e = rw e refl

pub formed-declarator : (p e : Tree) → has_form s-Binding p ≡ true → IsFormed e → has_form s-VariableDeclarator (declarator_with p e) ≡ true
formed-declarator p e h k = rw (h, k) refl

pub bare-declarator : (b : Bound) → IsText b → has_form s-VariableDeclarator (declarator b) ≡ true
bare-declarator b e = rw e refl

-- a word that a declaration may have
abbrev pub IsWord : Text → Type 0
IsWord kind = texts_fit (text_entries VariableDeclaration) (Some kind ∷ []) ≡ true

-- a declaration of one declarator
pub formed-declaration : (a : Sort) (kind : Text) (d : Tree) → is_of_sort a VariableDeclaration ≡ true → IsWord kind → has_form s-VariableDeclarator d ≡ true → has_form a (declaration_node kind (d ∷ [])) ≡ true
formed-declaration a kind d e w h =
    let span = no-span (Some kind ∷ []) [] in
    has_form-node a VariableDeclaration (made (Some kind ∷ []) []) (many (d before empty) then done) (record { sort = e; texts = w; flags = refl; start = span.start; stop = span.stop; agree = refl; children = rw h refl })

pub formed-block : (a : Sort) (t u : Tree) → is_of_sort a BlockStatement ≡ true → has_form s-Statement t ≡ true → has_form s-Statement u ≡ true → has_form a (block_node (t before u before empty)) ≡ true
formed-block a t u e h k =
    let span = no-span [] [] in
    has_form-node a BlockStatement (made [] []) (statements (t before u before empty) then done) (record { sort = e; texts = refl; flags = refl; start = span.start; stop = span.stop; agree = refl; children = rw (h, k) refl })

-- the word of a declaration that has form
pub its-word : (ts : List (Option Text)) → texts_fit (text_entries VariableDeclaration) ts ≡ true → IsWord (first_text ts)
its-word [] e = absurd (cc e)
its-word (None ∷ ts) e = absurd (cc e)
its-word (Some x ∷ []) e = e
its-word (Some x ∷ (t ∷ ts)) e = absurd (cc (and_parts _ false e).1)

-- CATCH CLAUSES

pub catch-rest-form : FormLawful CatchRest
catch-rest-form = nodes-only CatchRest catch-rest-only nodes
  where
    nodes : (n : Site) (s s' : Ledger) (t u : Tree) (a : Sort) → (is_slot n.above ≡ true → a ≡ s-Expression) → CatchRest n s (at_node t) s' (at_node u) → has_form a t ≡ true → NodeFormed a s s' u
    nodes n s s' t u a slot (moves {w = w} {q = q} {m = m} {l = l} {p = p} {bs = bs} {x = x} holds fresh) h =
        let b : Bound = next_name w x in
        let body : Tree = node BlockStatement l (statements bs then done) in
        let f = node_form a CatchClause m (one p then one body then done) h in
        let named = next-text w (codes "ref") b (record { fresh = fresh; symbol = refl }) in
        let first = and_parts (has_form s-Binding p) (has_form s-BlockStatement body && true) f.children in
        let second = and_parts (has_form s-BlockStatement body) true first.1 in
        let moved = formed-declaration s-Statement (codes "let") (declarator_with p (identifier b)) refl refl (formed-declarator p (identifier b) first.0 (formed-name b named)) in
        let inner = at-sort s-BlockStatement s-Statement BlockStatement l (statements bs then done) refl second.0 in
        let block = formed-block s-BlockStatement (let_statement p b) body refl moved inner in
        record {
          formed = has_form-node a CatchClause m (one (identifier b) then one (block_node (let_statement p b before body before empty)) then done) (record { sort = f.sort; texts = f.texts; flags = f.flags; start = f.start; stop = f.stop; agree = refl; children = and_from (has_form s-Binding (identifier b)) _ (bound-name b named) (and_from _ true block refl) });
          names = record { names = []; texts = tt; pending = no-names q; this = refl; top = refl };
        }

-- HEADS OF LOOPS

-- a loop that leaves a declaration of the name in its head, and a block with another statement before its body
each-form : {k : AstType} → IsForEach k → (a : Sort) (m : Label) (kind : Text) (t u e b : Tree) (it : Bound) → IsText it → (has_form s-ForLeft t ≡ true → IsWord kind × (has_form s-Statement u ≡ true)) → has_form a (node k m (one t then one e then one b then done)) ≡ true →
    has_form a (node k m (one (declaration_node kind (declarator it ∷ [])) then one e then one (block_node (u before b before empty)) then done)) ≡ true
each-form each a m kind t u e b it named formed h = at each h
  where
    parts : (has_form s-ForLeft t && (has_form s-Expression e && (has_form s-Statement b && true))) ≡ true → (has_form s-ForLeft (declaration_node kind (declarator it ∷ [])) && (has_form s-Expression e && (has_form s-Statement (block_node (u before b before empty)) && true))) ≡ true
    parts d =
        let first = and_parts (has_form s-ForLeft t) (has_form s-Expression e && (has_form s-Statement b && true)) d in
        let second = and_parts (has_form s-Expression e) (has_form s-Statement b && true) first.1 in
        let third = and_parts (has_form s-Statement b) true second.1 in
        let moved = formed first.0 in
        let left = formed-declaration s-ForLeft kind (declarator it) refl moved.0 (bare-declarator it named) in
        and_from _ _ left (and_from (has_form s-Expression e) _ second.0 (and_from _ true (formed-block s-Statement u b refl moved.1 third.0) refl))

    at : {k : AstType} → IsForEach k → has_form a (node k m (one t then one e then one b then done)) ≡ true → has_form a (node k m (one (declaration_node kind (declarator it ∷ [])) then one e then one (block_node (u before b before empty)) then done)) ≡ true
    at for_in h = let f = node_form a ForInStatement m (one t then one e then one b then done) h in has_form-node a ForInStatement m (one (declaration_node kind (declarator it ∷ [])) then one e then one (block_node (u before b before empty)) then done) (record { sort = f.sort; texts = f.texts; flags = f.flags; start = f.start; stop = f.stop; agree = refl; children = parts f.children })
    at for_of h = let f = node_form a ForOfStatement m (one t then one e then one b then done) h in has_form-node a ForOfStatement m (one (declaration_node kind (declarator it ∷ [])) then one e then one (block_node (u before b before empty)) then done) (record { sort = f.sort; texts = f.texts; flags = f.flags; start = f.start; stop = f.stop; agree = refl; children = parts f.children })

-- the declaration of a pattern in its head moves
declared-form : (l l' : Label) (p : Tree) (it : Bound) → IsText it → has_form s-ForLeft (node VariableDeclaration l (many (node VariableDeclarator l' (one p then missing then done) before empty) then done)) ≡ true → IsWord (first_text l.texts) × (has_form s-Statement (declaration_node (first_text l.texts) (declarator_with p (identifier it) ∷ [])) ≡ true)
declared-form l l' p it named f =
    let declaration = node_form s-ForLeft VariableDeclaration l (many (node VariableDeclarator l' (one p then missing then done) before empty) then done) f in
    let word = its-word l.texts declaration.texts in
    let one_declarator = (and_parts (has_form s-VariableDeclarator (node VariableDeclarator l' (one p then missing then done)) && true) true declaration.children).0 in
    let target = (and_parts (has_form s-Binding p) true (node_form s-VariableDeclarator VariableDeclarator l' (one p then missing then done) (and_parts (has_form s-VariableDeclarator (node VariableDeclarator l' (one p then missing then done))) true one_declarator).0).children).0 in
    (word, formed-declaration s-Statement (first_text l.texts) (declarator_with p (identifier it)) refl word (formed-declarator p (identifier it) target (formed-name it named)))

pub for-each-form : (k : AstType) (a : Sort) (m l l' : Label) (p e b : Tree) (it : Bound) → IsForEach k → IsText it → has_form a (node k m (head_fields l l' p e b)) ≡ true → has_form a (node k m (new_head (first_text l.texts) it p e b)) ≡ true
for-each-form k a m l l' p e b it each named h = each-form each a m (first_text l.texts) _ (declaration_node (first_text l.texts) (declarator_with p (identifier it) ∷ [])) e b it named (declared-form l l' p it named) h

pub head-rest-form : FormLawful HeadRest
head-rest-form = nodes-only HeadRest head-only nodes
  where
    nodes : (n : Site) (s s' : Ledger) (t u : Tree) (a : Sort) → (is_slot n.above ≡ true → a ≡ s-Expression) → HeadRest n s (at_node t) s' (at_node u) → has_form a t ≡ true → NodeFormed a s s' u
    nodes n s s' t u a slot (lexical_head {w = w} {q = q} {k = k} {m = m} {l = l} {l' = l'} {p = p} {e = e} {b = b} {x = x} each holds fresh lexical apart silent body) h =
        record { formed = for-each-form k a m l l' p e b (next_name w x) each (next-text w (codes "ref") (next_name w x) (record { fresh = fresh; symbol = refl })) h; names = record { names = []; texts = tt; pending = no-names q; this = refl; top = refl } }
    nodes n s s' t u a slot (var_head {w = w} {q = q} {k = k} {m = m} {l = l} {l' = l'} {p = p} {e = e} {b = b} {x = x} each holds fresh variable none silent body) h =
        record { formed = for-each-form k a m l l' p e b (next_name w x) each (next-text w (codes "ref") (next_name w x) (record { fresh = fresh; symbol = refl })) h; names = record { names = []; texts = tt; pending = no-names q; this = refl; top = refl } }

-- TARGETS

pub data IsObjectTarget : Tree → Type 0 where
  object_target : {l : Label} {fs : Fields} → IsObjectTarget (node ObjectTarget l fs)

pub rest-target : (t : Tree) → is_rest_target (one t) ≡ true → IsObjectTarget t
rest-target (node ObjectTarget l fs) h = object_target
rest-target (node _ l fs) h = absurd (cc h)

-- `t = x;`
formed-assigned : (t : Tree) (it : Bound) → IsObjectTarget t → IsText it → has_form s-ForLeft t ≡ true → has_form s-Statement (statement_node (assign_node t (identifier it))) ≡ true
formed-assigned t it (object_target {l = l} {fs = fs}) named h =
    let span = no-span [] [] in
    let equals = no-span (Some (codes "=") ∷ []) [] in
    let target = at-sort s-ForLeft s-AssignmentTarget ObjectTarget l fs refl h in
    let assigned = has_form-node s-Expression AssignmentExpression (made (Some (codes "=") ∷ []) []) (one t then one (identifier it) then done) (record { sort = refl; texts = refl; flags = refl; start = equals.start; stop = equals.stop; agree = refl; children = and_from _ _ target (and_from _ true (formed-name it named) refl) }) in
    has_form-node s-Statement ExpressionStatement (made [] []) (one (assign_node t (identifier it)) then done) (record { sort = refl; texts = refl; flags = refl; start = span.start; stop = span.stop; agree = refl; children = and_from _ true assigned refl })

pub target-form : {k : AstType} (a : Sort) (m : Label) (t e b : Tree) (it : Bound) → IsForEach k → IsObjectTarget t → IsText it → has_form a (node k m (one t then one e then one b then done)) ≡ true → has_form a (node k m (assigning_head it t e b)) ≡ true
target-form a m t e b it each is named h = each-form each a m (codes "var") t (statement_node (assign_node t (identifier it))) e b it named (λ f. (refl, formed-assigned t it is named f)) h

pub target-head-form : FormLawful TargetHead
target-head-form = nodes-only TargetHead target-only nodes
  where
    nodes : (n : Site) (s s' : Ledger) (t u : Tree) (a : Sort) → (is_slot n.above ≡ true → a ≡ s-Expression) → TargetHead n s (at_node t) s' (at_node u) → has_form a t ≡ true → NodeFormed a s s' u
    nodes n s s' t u a slot (target_head {w = w} {q = q} {m = m} {t = p} {e = e} {b = b} {x = x} each rest fresh silent quiet body) h =
        record { formed = target-form a m p e b (next_name w x) each (rest-target p rest) (next-text w (codes "ref") (next_name w x) (record { fresh = fresh; symbol = refl })) h; names = record { names = []; texts = tt; pending = no-names q; this = refl; top = refl } }
