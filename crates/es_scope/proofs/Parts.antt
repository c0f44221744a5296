-- The parts that the children of a node give.
use Rattle.std.proofs.Common.{◌≡◌, Bool, ◌⊎◌, inl, inr, Option, List, ◌++◌, append_assoc, refl}
use Rattle.es_tree.specs.Words.{Text}
use Rattle.es_tree.specs.Fresh.{parts, first_parts, second_parts}
use Rattle.es_tree.specs.Heads.{head_of}
use Rattle.es_tree.specs.Tree.{Tree, node, Label, missing, one, many, statements, Fields, done, ◌then◌}
use Rattle.es_tree.specs.declared.kind.Kind.{Kind}
use Rattle.es_tree.specs.declared.kind.Kind.TheVariants.{MemberExpression, CallExpression, NewExpression, AssignmentExpression, ParenthesizedExpression, ChainExpression}
use Rattle.es_tree.specs.declared.operators.AssignmentOperator.{AssignmentOperator}
use Rattle.es_tree.specs.Children.{child_at}
use Rattle.es_scope.specs.Children.{optional_parts}

first_parts-child : (fs : Fields) → first_parts fs ≡ optional_parts (child_at 0 fs)
first_parts-child done = refl
first_parts-child (missing then fs) = refl
first_parts-child (one t then fs) = refl
first_parts-child (many ts then fs) = refl
first_parts-child (statements ts then fs) = refl

second_parts-child : (fs : Fields) → second_parts fs ≡ optional_parts (child_at 1 fs)
second_parts-child done = refl
second_parts-child (f then fs) = first_parts-child fs

pub member_parts : (k : Kind) (computed optional : Bool) (l : Label) (fs : Fields) → k ≡ MemberExpression computed optional → parts (node (head_of k).kind l fs) ≡ optional_parts (child_at 0 fs) ++ optional_parts (child_at 1 fs)
member_parts k computed optional l fs e = rw e (rw (first_parts-child fs, second_parts-child fs) refl)

-- the kinds whose parts are those of the first child
abbrev pub GivesFirst : Kind → Type 0
GivesFirst k = ((x : Bool) × (k ≡ CallExpression x)) ⊎ ((k ≡ NewExpression) ⊎ (((x : AssignmentOperator) × (k ≡ AssignmentExpression x)) ⊎ ((k ≡ ParenthesizedExpression) ⊎ (k ≡ ChainExpression))))

pub first_child_parts : (k : Kind) (l : Label) (fs : Fields) → GivesFirst k → parts (node (head_of k).kind l fs) ≡ optional_parts (child_at 0 fs)
first_child_parts k l fs (inl h) = rw h.1 (first_parts-child fs)
first_child_parts k l fs (inr (inl h)) = rw h (first_parts-child fs)
first_child_parts k l fs (inr (inr (inl h))) = rw h.1 (first_parts-child fs)
first_child_parts k l fs (inr (inr (inr (inl h)))) = rw h (first_parts-child fs)
first_child_parts k l fs (inr (inr (inr (inr h)))) = rw h (first_parts-child fs)

-- names with those of one child more, if there is one
pub with_child : (old new : List Text) (o : Option Tree) (ps : List Text) → new ≡ old ++ optional_parts o → ps ≡ optional_parts o → new ≡ old ++ ps
with_child old new o ps e h = rw h e

pub with_children : (old mid new ps : List Text) (o u : Option Tree) → mid ≡ old ++ optional_parts o → new ≡ mid ++ optional_parts u → ps ≡ optional_parts o ++ optional_parts u → new ≡ old ++ ps
with_children old mid new ps o u e f h = rw (f, e, h) (append_assoc old (optional_parts o) (optional_parts u))
