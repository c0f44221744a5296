-- The declaration of the name for `this`, and the statement that sets it behind one of some others.
use Rattle.std.specs.Prelude.{Bool, true, false, Some, [], ◌∷◌, if◌then◌else◌}
use Rattle.es_tree.specs.Tree.{Tree, node, Label, Fields, done, ◌then◌, Field, missing, one, many, statements, Trees, empty, ◌before◌}
use Rattle.es_tree.specs.declared.ast_type.AstType.TheVariants.{Identifier, ThisExpression, VariableDeclarator}
use Rattle.es_resolution.specs.Declarations.{Bound}
use Rattle.es_steps.specs.Nodes.{made}
use Rattle.es_steps.specs.Steps.{Ledger, Site, Spot}
use Rattle.es_steps.proofs.RuleLaws.{AtNodes}
use Rattle.es_super_calls.specs.SuperCalls.{is_super_statement}
use Rattle.es_set_this.specs.ConstructorThis.{set_statement, with_this_set}
use Rattle.es_constructor_this.specs.SetRows.{Puts, SetRow, SuperRow}
use Rattle.es_constructor_this.specs.SetRows.Puts.{behind, further, nowhere}
use Rattle.es_constructor_this.specs.SetRows.SetRow.{sets, settles}
use Rattle.es_constructor_this.specs.SetRows.SuperRow.{after_call, in_block, in_case}

-- the name, and its declaration with `this` and without
abbrev pub the_name : Label → Tree
the_name i = node Identifier i done

abbrev pub valued : Label → Label → Label → Fields
valued k i h = many (node VariableDeclarator k (one (the_name i) then (one (node ThisExpression h done) then done)) before empty) then done

abbrev pub bare : Label → Label → Fields
bare k i = many (node VariableDeclarator k (one (the_name i) then (missing then done)) before empty) then done

abbrev pub body_list : Field → Tree → Trees → Fields
body_list ds d ts = ds then (statements (d before ts) then done)

-- the label of a written name
abbrev pub name_label : Bound → Label
name_label b = record (made (Some b.name ∷ []) []) { marks = b.symbol ∷ [] }

-- THE STATEMENTS behind

pub puts : (x : Tree) (ts : Trees) → Puts x ts (with_this_set x ts)
puts x empty = nowhere
puts x (t before ts) = at (is_super_statement t) (puts x ts)
  where
    at : (b : Bool) → Puts x ts (with_this_set x ts) → Puts x (t before ts) (if b then t before (set_statement x before ts) else t before with_this_set x ts)
    at true h = behind
    at false h = further h

-- the rows act on nodes
pub set-only : (n : Site) (s s' : Ledger) (x y : Spot) → SetRow n s x s' y → AtNodes x y
set-only n s s' x y (settles b l ds d ts us here first h) = tt
set-only n s s' x y (sets b l ds d ts us here apart first h) = tt

pub super-only : (n : Site) (s s' : Ledger) (x y : Spot) → SuperRow n s x s' y → AtNodes x y
super-only n s s' x y (after_call b l fs role calls chain finds) = tt
super-only n s s' x y (in_block b l ts us h finds) = tt
super-only n s s' x y (in_case b l f ts us h finds) = tt
