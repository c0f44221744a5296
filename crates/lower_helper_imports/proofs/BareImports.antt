-- What is made is the program of the rule, but for ids and marks.
use Rattle.std.proofs.Common.{◌≡◌, ◌∙◌, ◌∷◌, Bool, List, [], ap, false, map, refl, subst, sym, true}
use Rattle.std.specs.Prelude.{String, None, string_bytes}
use Rattle.std.specs.declared.alloc.Global.{Global}
use Rattle.es_tree.specs.Bare.{bare, bare_trees}
use Rattle.es_tree.specs.Tree.{Tree, node, ◌before◌, trees}
use Rattle.es_tree.specs.Words.{Text}
use Rattle.es_tree.specs.declared.helper.Helper.{Helper}
use Rattle.es_steps.specs.Nodes.{identifier}
use Rattle.es_helper_calls.specs.HelperCalls.{bound_of, calling, helpers_called}
use Rattle.es_helper_calls.specs.Importing.{is_module}
use Rattle.es_helper_imports.specs.Imported.{AreFresh, ImportsTo, helper_source, imported_as, imports_of, unmarked}
use Rattle.es_helper_imports.proofs.BareCalls.{bare-calling}
use Rattle.es_helper_imports.proofs.BareTops.{bare-top}
use Rattle.es_top_imports.specs.TopImports.{top_of, with_top}
use Rattle.lower_helper_imports.specs.Parts.{all_statements, callee_of, source_type, top_statement}
use Rattle.lower_helper_imports.proofs.PutStatements.{statements_of}

called-module : (c : Helper → Tree) (p : Tree) → is_module (calling c p) ≡ is_module p
called-module c (node k l fs) = refl

-- STATEMENTS at the top: each is that of the rule
statement-bare : (b : Bool) (source x : Text) → bare (top_statement (source_type b) source x) ≡ bare (top_of b (record { source = source; local = record { name = x; symbol = None } }))
statement-bare true source x = refl
statement-bare false source x = refl

statements-bare : (b : Bool) (m : Text) (hs : List Helper) (xs : List Text) → bare_trees (trees (all_statements (source_type b) m hs xs)) ≡ bare_trees (trees (map (top_of b) (imports_of m hs (unmarked xs))))
statements-bare b m [] xs = refl
statements-bare b m (h ∷ hs) [] = refl
statements-bare b m (h ∷ hs) (x ∷ xs) = (λ i. statement-bare b (helper_source m h) x i before statements-bare b m hs xs i)

-- THE PROGRAM whose calls are n, with these statements at its top, is that of the rule
program-bare : (m : Text) (hs : List Helper) (xs : List (String Global)) (p n q : Tree) → n ≡ calling (callee_of hs xs) p → q ≡ with_top (trees (statements_of (source_type (is_module n)) m hs xs)) n → bare q ≡ bare (imported_as m hs (unmarked (map string_bytes xs)) p)
program-bare m hs xs p n q calls is =
    let names = unmarked (map string_bytes xs) in
    let called : Tree = calling (λ h. identifier (bound_of hs names h)) p in
    let tops = trees (map (top_of (is_module p)) (imports_of m hs names)) in
    let sort : is_module n ≡ is_module p = ap is_module calls ∙ called-module (callee_of hs xs) p in
    let statements_same : bare_trees (trees (statements_of (source_type (is_module n)) m hs xs)) ≡ bare_trees tops = ap (λ b. bare_trees (trees (statements_of (source_type b) m hs xs))) sort ∙ statements-bare (is_module p) m hs (map string_bytes xs) in
    let calls_same : bare n ≡ bare called = ap bare calls ∙ bare-calling (callee_of hs xs) p ∙ sym (bare-calling (λ h. identifier (bound_of hs names h)) p) in
    ap bare is ∙ bare-top (trees (statements_of (source_type (is_module n)) m hs xs)) n ∙ (λ i. with_top (statements_same i) (calls_same i)) ∙ sym (bare-top tops called)

pub imports-to : (in_use : Text → Bool) (m : Text) (hs : List Helper) (xs : List (String Global)) (p n q : Tree) → hs ≡ helpers_called p → AreFresh in_use hs (map string_bytes xs) → n ≡ calling (callee_of hs xs) p → q ≡ with_top (trees (statements_of (source_type (is_module n)) m hs xs)) n → ImportsTo in_use m p q (map string_bytes xs)
imports-to in_use m hs xs p n q helpers fresh calls is = record {
  fresh = subst (λ gs. AreFresh in_use gs (map string_bytes xs)) helpers fresh;
  written = program-bare m hs xs p n q calls is ∙ ap (λ gs. bare (imported_as m gs (unmarked (map string_bytes xs)) p)) helpers;
}
