-- Tests of patterns with a rest, as the code has them: each of what stands in a node's fields.
use Rattle.std.specs.Prelude.{◌&&◌, ◌||◌, Bool, false, not, true, Option, None}
use Rattle.es_tree.specs.Tree.{Tree, node, Label, Trees, empty, ◌before◌, Fields, done, ◌then◌, Field, one, many}
use Rattle.es_tree.specs.Words.{Text}
use Rattle.es_tree.specs.RestTargets.{is_rest_assignment}
use Rattle.es_tree.specs.declared.ast_type.AstType.{AstType}
use Rattle.es_tree.specs.declared.ast_type.AstType.TheVariants.{TemplateElement}
use Rattle.es_tree.specs.PropertyKeys.{is_read_key, second_text}
use Rattle.es_rest_shapes.specs.RestShapes.{any_beside, any_child, any_child_by, any_tree, bears_rest, declares_rest, is_misplaced, is_name, is_odd_pattern, is_plain_key, is_plain_value, is_rest_declarator}

-- one child, of which this holds
abbrev pub on_one : (Tree → Bool) → Fields → Bool
on_one P (one t then done) = P t
on_one P _ = false

-- two children
abbrev pub on_two : (Tree → Tree → Bool) → Fields → Bool
on_two P (one t then one u then done) = P t u
on_two P _ = false

-- one list
abbrev pub on_list : (Trees → Bool) → Fields → Bool
on_list P (many ts then done) = P ts
on_list P _ = false

abbrev pub holds_rest_declarator : Fields → Bool
holds_rest_declarator (many ds then fs) = any_tree is_rest_declarator ds
holds_rest_declarator _ = false

-- what is declared and its value, one of which isn't taken
abbrev pub holds_odd_pair : Fields → Bool
holds_odd_pair fs = on_two (λ p e. is_odd_pattern p || is_misplaced e) fs

abbrev pub is_pair : Fields → Bool
is_pair fs = on_two (λ p e. true) fs

abbrev pub is_stray_declarator : Fields → Bool
is_stray_declarator fs = holds_odd_pair fs || (not (is_pair fs) && any_child is_misplaced fs)

abbrev pub holds_pattern_list : Fields → Bool
holds_pattern_list fs = on_list (any_tree bears_rest) fs

abbrev pub is_list : Fields → Bool
is_list fs = on_list (λ ts. true) fs

abbrev pub is_stray_declaration : Fields → Bool
is_stray_declaration fs = holds_pattern_list fs || (not (is_list fs) && any_child is_misplaced fs)

-- a key that holds a pattern with a rest, or what a property may not hold beside it
abbrev pub is_stray_property : Fields → Bool
is_stray_property done = false
is_stray_property (k then fs) = any_child_by is_misplaced k || any_beside fs

-- what an assignment may not hold: a pattern with a rest beside what it assigns to, and there one that isn't lowered
abbrev pub is_stray_assignment : AstType → Label → Fields → Bool
is_stray_assignment k l done = false
is_stray_assignment k l (f then fs) = (any_child_by is_misplaced f && not (is_rest_assignment k l (f then fs))) || any_child is_misplaced fs

-- what an export may not hold
abbrev pub is_exported_rest : Tree → Bool
is_exported_rest t = is_misplaced t || declares_rest t

abbrev pub declares_pattern : Fields → Bool
declares_pattern (one p then fs) = bears_rest p
declares_pattern _ = false

-- a key and a value, which are plain
abbrev pub is_plain_pair : Bool → Fields → Bool
is_plain_pair computed fs = on_two (λ k v. is_plain_key computed k && is_plain_value v) fs

abbrev pub has_read_key : Bool → Fields → Bool
has_read_key computed fs = on_two (λ k v. is_read_key computed k) fs

abbrev pub is_one_name : Fields → Bool
is_one_name fs = on_one is_name fs

-- the text of a template's element, if it gives one
abbrev pub element_text : Tree → Option Text
element_text (node TemplateElement l fs) = second_text l.texts
element_text _ = None

-- of a template of these elements and expressions: of one element, and no expressions
abbrev pub sole_text : Trees → Trees → Option Text
sole_text (t before empty) empty = element_text t
sole_text ts us = None

-- of a template of these fields
abbrev pub lists_text : Field → Field → Option Text
lists_text (many ts) (many us) = sole_text ts us
lists_text f g = None
