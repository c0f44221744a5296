-- The static rules that a node keeps or breaks by itself and by what stands around it, whatever names the program declares: sixteen
-- of the nineteen. Each is a test of the node and its ancestors.
use Rattle.std.specs.Prelude.{◌≡◌, ℕ, suc, List, [], ◌∷◌, false}
use Rattle.es_tree.specs.Ancestors.{Ancestor, ancestor, place_of, visits}
use Rattle.es_tree.specs.CoreStaticRules.{Break, is_bad_delete, is_bad_target, is_empty_chain, is_missing_init, is_stray_optional}
use Rattle.es_tree.specs.StaticRules.{all_names, breaks_after, is_bad_accessor, is_bad_for, is_bad_rest, is_bad_using, is_duplicate_label, is_misplaced_declaration, is_misplaced_meta, is_misplaced_module_item, is_misplaced_return, is_misplaced_super, is_missing_label}
use Rattle.es_tree.specs.Tree.{Tree, node, Label, Fields, done, ◌then◌, Field, missing, one, many, statements, Trees, empty, ◌before◌}
use Rattle.es_tree.specs.declared.ast_type.AstType.{AstType}
use Rattle.es_tree.specs.declared.error.Rule.{Rule}
use Rattle.es_tree.specs.declared.error.Rule.TheVariants.{MissingLabel, DuplicateLabel, MisplacedReturn, MisplacedSuper, BadTarget, EmptyChain, StrayOptional, DeleteName, MissingInit, BadUsing, BadFor, MisplacedModuleItem, BadAccessor, BadRest, MisplacedDeclaration, MisplacedMeta}

-- All but those of declared names: DuplicateName, BadExport and BadClass.
abbrev pub place_rules : List Rule
place_rules =
    MissingLabel ∷ DuplicateLabel ∷ MisplacedReturn ∷ MisplacedSuper ∷ BadTarget ∷ EmptyChain ∷ StrayOptional ∷ DeleteName ∷
    MissingInit ∷ BadUsing ∷ BadFor ∷ MisplacedModuleItem ∷ BadAccessor ∷ BadRest ∷ MisplacedDeclaration ∷ MisplacedMeta ∷ []

-- which of them a program breaks
abbrev pub place_breaks : Tree → List Break
place_breaks t = breaks_after place_rules (all_names t) [] (visits [] 0 t)

-- BY ANCESTORS

-- a node with these ancestors keeps each of them
pub record KeepsHere (up : List Ancestor) (t : Tree) : Type 0 where
  pub jump : is_missing_label up t ≡ false
  pub label : is_duplicate_label up t ≡ false
  pub returned : is_misplaced_return up t ≡ false
  pub super_word : is_misplaced_super up t ≡ false
  pub target : is_bad_target (place_of up) t ≡ false
  pub chain : is_empty_chain t ≡ false
  pub mark : is_stray_optional (place_of up) t ≡ false
  pub deleted : is_bad_delete t ≡ false
  pub value : is_missing_init (place_of up) t ≡ false
  pub using_word : is_bad_using up t ≡ false
  pub head : is_bad_for up t ≡ false
  pub item : is_misplaced_module_item up t ≡ false
  pub accessor : is_bad_accessor t ≡ false
  pub rest : is_bad_rest up t ≡ false
  pub declaration : is_misplaced_declaration up t ≡ false
  pub meta : is_misplaced_meta up t ≡ false

-- Each node of a tree with these ancestors does. No rule asks which number an ancestor has.
abbrev mutual
  pub Keeps : List Ancestor → Tree → Type 0
  Keeps up (node k l fs) = KeepsHere up (node k l fs) × KeepsIn up k l fs 0 fs

  -- those in the fields of a node with this kind, label and fields, from the i-th on
  pub KeepsIn : List Ancestor → AstType → Label → Fields → ℕ → Fields → Type 0
  KeepsIn up k l all i done = Unit {0}
  KeepsIn up k l all i (f then fs) = KeepsBy (ancestor k l all i 0 ∷ up) f × KeepsIn up k l all (suc i) fs

  pub KeepsBy : List Ancestor → Field → Type 0
  KeepsBy up missing = Unit {0}
  KeepsBy up (one t) = Keeps up t
  KeepsBy up (many ts) = KeepsAll up ts
  KeepsBy up (statements ts) = KeepsAll up ts

  pub KeepsAll : List Ancestor → Trees → Type 0
  KeepsAll up empty = Unit {0}
  KeepsAll up (t before ts) = Keeps up t × KeepsAll up ts
