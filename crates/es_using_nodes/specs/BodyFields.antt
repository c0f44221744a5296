-- Tests of bodies of functions, as the code has them: each of what stands in a node's fields.
use Rattle.std.specs.Prelude.{◌&&◌, Bool, false, not}
use Rattle.es_tree.specs.Names.{first_text}
use Rattle.es_tree.specs.Tree.{Fields, done, ◌then◌, many, one, statements, Trees, label_of}
use Rattle.es_steps.specs.UsingBlocks.{has_using}
use Rattle.es_using_rows.specs.UsingPlaces.{is_alone, may_enter}

-- those of a function, which begin with its name
abbrev pub function_enters : Trees → Trees → Fields → Trees → Bool
function_enters ps ts (one t then fs) us = is_alone (first_text (label_of t).texts) ps ts us
function_enters ps ts fs us = false

-- those of a body, which are its directives and its statements
abbrev pub clashes_in_statements : Trees → Fields → Bool
clashes_in_statements ps (many ds then statements ts then done) = has_using ts && not (may_enter ps ts)
clashes_in_statements ps _ = false
