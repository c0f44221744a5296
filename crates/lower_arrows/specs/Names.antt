-- The name that stands for `this` in the list of a target, as the code keeps it.
use Rattle.std.specs.Prelude.{◌≡◌, ℕ, [], ◌∷◌, Bool, true, Option, Some, None, is_some, codes, if◌then◌else◌}
use Rattle.es_tree.specs.Fresh.{text_base}
use Rattle.es_tree.specs.Names.{first_text}
use Rattle.es_tree.specs.Tree.{Tree, label_of}
use Rattle.es_semantic.specs.NodeMarks.{symbol_mark}
use Rattle.es_resolution.specs.Declarations.{Bound}
use Rattle.es_changes.specs.Moments.{Moment, whole_at}
use Rattle.es_steps.specs.Duplication.{IsNext}
use Rattle.es_steps.specs.Nodes.{declaration_node, declarator_with, identifier, this_expression}
use Rattle.lower_temporaries.specs.SeenTrees.{IsSeenAs}
use Rattle.lower_temporaries.specs.Takings.{TakesBound}

-- the name of a binding identifier, with its symbol
abbrev pub bound_of : Tree → Bound
bound_of t = record { name = first_text (label_of t).texts; symbol = symbol_mark (label_of t) }

-- that of a target, if one was made
abbrev pub name_in : Option Tree → Option Bound
name_in None = None
name_in (Some t) = Some (bound_of t)

-- the node of a target is its name and no more
abbrev pub IsName : Option Tree → Type 0
IsName None = Unit {0}
IsName (Some t) = IsSeenAs t (identifier (bound_of t))

-- What is still to be paid for a target's list, in ids and weight: `var _this = this;` has four nodes with four ids. Where something
-- belongs to an arrow the arrow pays for it when the name is made; once it is made, one id was given.
abbrev pub due : Bool → Option Tree → ℕ
due belongs (Some t) = 7
due belongs None = if belongs then 8 else 0

-- the node that is kept for the list
abbrev pub kept_apart : Option Tree → ℕ
kept_apart None = 0
kept_apart (Some t) = 1

-- a name that was made stays
abbrev pub Stays : Option Tree → Option Tree → Type 0
Stays x y = is_some x ≡ true → is_some y ≡ true

-- a name was there already, or one was made, the next of the base `this`
abbrev pub NameMade : Option Tree → Moment → Option Tree → Moment → Type 0
NameMade (Some t) a y b = (y ≡ Some t) × (b ≡ a)
NameMade None a (Some u) b = IsNext (whole_at a) (text_base (codes "this")) (bound_of u) × IsSeenAs u (identifier (bound_of u)) × TakesBound (bound_of u) 1 a b
NameMade None a None b = ⊥

-- the ids of `var _this = this;` that are given when it is written
abbrev pub ids_to_declare : Option Tree → ℕ
ids_to_declare None = 0
ids_to_declare (Some t) = 3

-- `var p = this;`
abbrev pub this_declaration : Tree → Tree
this_declaration p = declaration_node (codes "var") (declarator_with p this_expression ∷ [])
