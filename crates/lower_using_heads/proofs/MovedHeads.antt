-- A name that moves from the head of a loop into a block around its body.
use Rattle.std.proofs.Common.{◌≡◌, ◌∙◌, ◌++◌, ◌∷◌, List, [], ap, get_or, refl, subst, suc, sym}
use Rattle.std.specs.Prelude.{true}
use Rattle.es_tree.specs.Fresh.{IsFreshName, also, node_base}
use Rattle.es_tree.specs.Tree.{Tree, node, Label, Fields, done, ◌then◌, Field, missing, one, many, Trees, empty, label_of, trees}
use Rattle.es_tree.specs.Views.{plain_field, plain_fields}
use Rattle.es_tree.specs.Words.{Text}
use Rattle.es_tree.specs.declared.ast_type.AstType.TheVariants.{VariableDeclaration, VariableDeclarator}
use Rattle.es_tree.specs.declared.node.Field.{Field as NodeField}
use Rattle.es_tree.specs.declared.node.Field.TheVariants.{One}
use Rattle.es_scope.specs.Uids.{made, uses}
use Rattle.es_scope.specs.declared.uids.UidGenerator.{UidGenerator}
use Rattle.es_pattern_moves.specs.Moved.{plainly}
use Rattle.es_using_heads.specs.Heads.{moves_from_head}
use Rattle.es_using_rows.specs.Used.{const_label}
use Rattle.lower_fresh_names.specs.Names.{name_with}
use Rattle.lower_fresh_names.proofs.Walks.{walks-one, walks-part}
use Rattle.lower_using_heads.specs.Parts.{DeclaresName, FreshDeclarator, FreshFields, FreshName, HeadsAs, block_with, loop_fields, moved_into_block, named_declarator}
use Rattle.lower_using_heads.proofs.HeadShapes.{LoopShape, declarator, declaring, loop, loop-shape, only-one}
use Rattle.lower_using_heads.proofs.Names.{fresh-at, name-same}

-- THE BLOCK

pub block-moved : (a b : UidGenerator) (x : Text) (id : _) (p body name block : Tree) → IsFreshName (uses a) (node_base p) x → ((y : Text) → uses b y ≡ also x (uses a) y) → made b ≡ made a ++ x ∷ [] → id ≡ (label_of p).id → name ≡ name_with id x → block ≡ block_with id x p body → HeadsAs (moved_into_block body) FreshName a b p (name, block)
block-moved a b x id p body name block fresh taken more same is says =
    let named : name ≡ name_with (label_of p).id x = is ∙ ap (λ i. name_with i x) same in
    let there : block ≡ block_with (label_of p).id x p body = says ∙ ap (λ i. block_with i x p body) same in
    walks-one (λ names n t. moved_into_block body (plainly names) n t) FreshName a b (node_base p) x p (name, block) fresh taken more
    (λ names n e. λ i. (suc n, ((ap (λ y. name_with (label_of p).id y) (name-same names n ∙ e) ∙ sym named) i, (ap (λ y. block_with (label_of p).id y p body) (name-same names n ∙ e) ∙ sym there) i)))
    (λ in_use names n e h. fresh-at in_use names n (node_base p) x e h)

-- THE DECLARATOR

abbrev second_part : Field → Tree → Field
second_part h (node k l (f then g then fs)) = g
second_part h _ = h

opened : (t : Tree) (k : Label) (x : Tree) (f : Field) → DeclaresName t → node VariableDeclarator k (one x then f then done) ≡ t → t ≡ declarator k x
opened t k x f h e = sym e ∙ ap (λ g. node VariableDeclarator k (one x then g then done)) (ap (second_part missing) (e ∙ h.tree))

pub declarator-moved : (a b : UidGenerator) (k : Label) (x d body name block named : Tree) (f : Field) → DeclaresName d → node VariableDeclarator k (one x then f then done) ≡ d → named ≡ declarator k name → HeadsAs (moved_into_block body) FreshName a b x (name, block) → HeadsAs (named_declarator body) FreshDeclarator a b d (named, block)
declarator-moved a b k x d body name block named f declares is says s =
    let part = walks-part (λ names n t. moved_into_block body (plainly names) n t) FreshName (λ names n t. named_declarator body (plainly names) n t) FreshDeclarator (λ r. (declarator k r.0, r.1)) (declarator k x) (λ names n. refl) (λ in_use names n h. h) s in
    subst (λ t. HeadsAs (named_declarator body) FreshDeclarator a b d (t, block)) (sym says)
    (subst (λ t. HeadsAs (named_declarator body) FreshDeclarator a b t (declarator k name, block)) (sym (opened d k x f declares is)) part)

-- THE HEAD

abbrev first_node : Tree → Fields → Tree
first_node t (one u then fs) = u
first_node t _ = t

abbrev second_field : Fields → Field
second_field (f then g then fs) = g
second_field _ = missing

abbrev first_list : Tree → Trees
first_list (node k l (many ts then fs)) = ts
first_list _ = empty

module _ {items ys : List NodeField} {f : NodeField} {head : Tree} (moves : moves_from_head (plain_fields items) ≡ true) (same : ys ≡ items) (at : f ≡ get_or ys 0 f) (held : plain_field f ≡ one head) where
  abbrev shape : LoopShape (plain_fields items)
  shape = loop-shape (plain_fields items) moves

  abbrev its-declarator : Tree
  its-declarator = declarator shape.inner shape.name

  head-is : head ≡ declaring shape.label its-declarator
  head-is = by-first ys at (ap plain_fields same ∙ shape.tree)
    where
      by-first : (zs : List NodeField) → f ≡ get_or zs 0 f → plain_fields zs ≡ loop (declaring shape.label its-declarator) shape.source shape.body → head ≡ declaring shape.label its-declarator
      by-first [] first is = absurd (cc is)
      by-first (z ∷ zs) first is = ap (first_node head) (ap (λ g. g then plain_fields zs) (sym held ∙ ap plain_field first) ∙ is)

  module _ {l : Label} {all : List Tree} (rest : List Tree) {d : Tree} (opens : node VariableDeclaration l (many (trees all) then done) ≡ head) (put : all ≡ rest ++ d ∷ []) where
    declarator-is : d ≡ its-declarator
    declarator-is = only-one rest d its-declarator (sym (ap trees put) ∙ ap first_list (opens ∙ head-is))

    pub declares-name : DeclaresName d
    declares-name = record { label = shape.inner; name = shape.name; tree = declarator-is }

    pub head-moved : {a b : UidGenerator} {g h : NodeField} {body named block declaration : Tree} {moved : List NodeField} → items ≡ f ∷ g ∷ h ∷ [] → plain_field h ≡ one body → HeadsAs (named_declarator body) FreshDeclarator a b d (named, block) → declaration ≡ declaring (const_label l) named → moved ≡ One declaration ∷ g ∷ One block ∷ [] → HeadsAs loop_fields FreshFields a b (plain_fields items) (plain_fields moved)
    head-moved {a} {b} {g} {h} {body} {named} {block} {declaration} {moved} is holds s says becomes =
        let e = shape.source in
        let x = its-declarator in
        let labelled : l ≡ shape.label = ap label_of (opens ∙ head-is) in
        let source : plain_field g ≡ one e = ap second_field (sym (ap plain_fields is) ∙ shape.tree) in
        let was : plain_fields items ≡ loop (declaring l x) e body =
        ap plain_fields is ∙ λ i. (held ∙ ap one (head-is ∙ ap (λ m. declaring m x) (sym labelled))) i then source i then holds i then done in
        let there : plain_fields moved ≡ loop (declaring (const_label l) named) e block =
        ap plain_fields becomes ∙ λ i. one (says i) then source i then one block then done in
        let part = walks-part (λ names n t. named_declarator body (plainly names) n t) FreshDeclarator (λ names n fs. loop_fields (plainly names) n fs) FreshFields (λ r. loop (declaring (const_label l) r.0) e r.1) (loop (declaring l x) e body) (λ names n. refl) (λ in_use names n p. p)
        (subst (λ t. HeadsAs (named_declarator body) FreshDeclarator a b t (named, block)) declarator-is s) in
        subst (λ fs. HeadsAs loop_fields FreshFields a b (plain_fields items) fs) (sym there) (subst (λ fs. HeadsAs loop_fields FreshFields a b fs (loop (declaring (const_label l) named) e block)) (sym was) part)
