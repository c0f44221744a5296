-- A pattern that moves into a block around the body of a catch clause or a loop, to a declaration or an assignment.
use Rattle.std.proofs.Common.{◌≡◌, ◌∙◌, ◌+◌, ◌∷◌, List, [], ap, refl, subst, sym, ℕ}
use Rattle.es_tree.specs.Names.{first_text}
use Rattle.es_tree.specs.Tree.{Tree, Fields, Field, done, ◌then◌, missing, node, one, kind_of, label_of}
use Rattle.es_tree.specs.Words.{Text}
use Rattle.std.specs.Prelude.{codes, true}
use Rattle.es_tree.specs.Views.{plain_field, plain_fields}
use Rattle.es_tree.specs.declared.node.Field.{Field as NodeField}
use Rattle.es_tree.specs.declared.node.Field.TheVariants.{One}
use Rattle.es_tree.specs.declared.ast_type.AstType.TheVariants.{ObjectTarget}
use Rattle.es_scope.specs.declared.uids.UidGenerator.{UidGenerator}
use Rattle.es_pattern_moves.specs.Moved.{Makes, assigns, block_of, names_alone, plainly}
use Rattle.es_pattern_moves.specs.PatternMoves.{moves_from_head}
use Rattle.lower_pattern_moves.specs.Moves.{MakesNames, MovesAs}
use Rattle.lower_fresh_names.specs.Names.{name_with}
use Rattle.lower_pattern_moves.specs.Parts.{DeclaresBy, assigned_in_block, assignment_with, block_with, declaration_with, declared_alone, moved_head_fields, moved_into_block}
use Rattle.lower_pattern_moves.proofs.Shapes.{head-shape}
use Rattle.lower_pattern_moves.proofs.Moving.{moves-one, moves-plain-part}

pub block-moved : (a b : UidGenerator) (kind x : Text) (id : ℕ) (p body name block : Tree) → MakesNames a b (x ∷ []) → id ≡ (label_of p).id → name ≡ name_with id x → block ≡ block_with id (declaration_with id kind p (one (name_with id x))) body → MovesAs (moved_into_block kind body) a b p (name, block)
block-moved a b kind x id p body name block made same is says =
    let named : name ≡ name_with (label_of p).id x = is ∙ ap (λ i. name_with i x) same in
    let there : block ≡ block_with (label_of p).id (declaration_with (label_of p).id kind p (one (name_with (label_of p).id x))) body = says ∙ ap (λ i. block_with i (declaration_with i kind p (one (name_with i x))) body) same in
    moves-one (moved_into_block kind body) a b x p (name, block) made
    (λ all n e i. (n + 1, ((ap (λ y. name_with (label_of p).id y) e ∙ sym named) i, (ap (λ y. block_with (label_of p).id (declaration_with (label_of p).id kind p (one (name_with (label_of p).id y))) body) e ∙ sym there) i)))

pub assigned-moved : (a b : UidGenerator) (x : Text) (id : ℕ) (t body name block : Tree) → MakesNames a b (x ∷ []) → id ≡ (label_of t).id → name ≡ name_with id x → block ≡ block_with id (assignment_with id t (name_with id x)) body → MovesAs (assigned_in_block body) a b t (name, block)
assigned-moved a b x id t body name block made same is says =
    let named : name ≡ name_with (label_of t).id x = is ∙ ap (λ i. name_with i x) same in
    let there : block ≡ block_with (label_of t).id (assignment_with (label_of t).id t (name_with (label_of t).id x)) body = says ∙ ap (λ i. block_with i (assignment_with i t (name_with i x)) body) same in
    moves-one (assigned_in_block body) a b x t (name, block) made
    (λ all n e i. (n + 1, ((ap (λ y. name_with (label_of t).id y) e ∙ sym named) i, (ap (λ y. block_with (label_of t).id (assignment_with (label_of t).id t (name_with (label_of t).id y)) body) e ∙ sym there) i)))

abbrev second : Fields → Field
second (f then g then fs) = g
second _ = missing

one-source : (head body : Tree) (f : Field) (moves : moves_from_head (one head then f then one body then done) ≡ true) → f ≡ one (head-shape (one head then f then one body then done) moves).source
one-source head body f moves = ap second (head-shape (one head then f then one body then done) moves).fields

-- what the fields of a loop become, where its head becomes this declaration and its body this block
in-loop : {a b : UidGenerator} {head e body block declaration d : Tree} {moved : List NodeField} {g : NodeField} → plain_field g ≡ one e → moved ≡ One declaration ∷ g ∷ One block ∷ [] → declaration ≡ d → MovesAs moved_head_fields a b (one head then one e then one body then done) (one d then one e then one block then done) →
    MovesAs moved_head_fields a b (one head then plain_field g then one body then done) (plain_fields moved)
in-loop {a} {b} {head} {e} {body} {block} {declaration} {d} {moved} {g} source becomes is s =
    let last : plain_fields moved ≡ (one d then one e then one block then done) = ap plain_fields becomes ∙ (ap (λ x. one declaration then x then one block then done) source ∙ ap (λ t. one t then one e then one block then done) is) in
    subst (λ hs. MovesAs moved_head_fields a b (one head then plain_field g then one body then done) hs) (sym last) (subst (λ f. MovesAs moved_head_fields a b (one head then f then one body then done) (one d then one e then one block then done)) (sym source) s)

pub declaration-moved : {a b : UidGenerator} (kind : Text) {id : ℕ} {head p body name block declaration : Tree} {moved : List NodeField} {g : NodeField} → moves_from_head (one head then plain_field g then one body then done) ≡ true → DeclaresBy head kind p → id ≡ (label_of p).id →
    declaration ≡ declaration_with id kind name missing → moved ≡ One declaration ∷ g ∷ One block ∷ [] → MovesAs (moved_into_block kind body) a b p (name, block) → MovesAs moved_head_fields a b (one head then plain_field g then one body then done) (plain_fields moved)
declaration-moved {a} {b} kind {id} {head} {p} {body} {name} {block} {declaration} {moved} {g} moves by same says becomes s =
    let word = first_text by.label.texts in
    let e = (head-shape (one head then plain_field g then one body then done) moves).source in
    let there : declaration ≡ declaration_with (label_of p).id word name missing = says ∙ (ap (λ i. declaration_with i kind name missing) same ∙ ap (λ k. declaration_with (label_of p).id k name missing) (sym by.word)) in
    let part =
    moves-plain-part (moved_into_block word body) moved_head_fields (λ r. one (declaration_with (label_of p).id word r.0 missing) then one e then one r.1 then done) (one (declared_alone by.label by.inner p) then one e then one body then done) (λ m n. refl)
    (subst (λ k. MovesAs (moved_into_block k body) a b p (name, block)) (sym by.word) s) in
    in-loop (one-source head body (plain_field g) moves) becomes there (subst (λ h. MovesAs moved_head_fields a b (one h then one e then one body then done) (one (declaration_with (label_of p).id word name missing) then one e then one block then done)) (sym by.tree) part)

-- a target and what it becomes
at-target : (t : Tree) → kind_of t ≡ ObjectTarget → (m : Makes) (n : ℕ) (e body : Tree) → moved_head_fields m n (one t then one e then one body then done) ≡ (n + 1, one (names_alone m (codes "var") n t) then one e then one (block_of m t (assigns m n t) body) then done)
at-target (node ObjectTarget l gs) e m n = λ z body. refl
at-target (node _ l gs) e m n = absurd (cc e)

pub target-moved : {a b : UidGenerator} {id : ℕ} {t body name block declaration : Tree} {moved : List NodeField} {g : NodeField} → moves_from_head (one t then plain_field g then one body then done) ≡ true → kind_of t ≡ ObjectTarget → id ≡ (label_of t).id →
    declaration ≡ declaration_with id (codes "var") name missing → moved ≡ One declaration ∷ g ∷ One block ∷ [] → MovesAs (assigned_in_block body) a b t (name, block) → MovesAs moved_head_fields a b (one t then plain_field g then one body then done) (plain_fields moved)
target-moved {a} {b} {id} {t} {body} {name} {block} {declaration} {moved} {g} moves is same says becomes s =
    let e = (head-shape (one t then plain_field g then one body then done) moves).source in
    in-loop (one-source t body (plain_field g) moves) becomes (says ∙ ap (λ i. declaration_with i (codes "var") name missing) same)
    (moves-plain-part (assigned_in_block body) moved_head_fields (λ r. one (declaration_with (label_of t).id (codes "var") r.0 missing) then one e then one r.1 then done) (one t then one e then one body then done) (λ all n. at-target t is (plainly all) n e body) s)
