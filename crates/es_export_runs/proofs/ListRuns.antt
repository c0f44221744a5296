-- What the list of a program does whose exports are split: the declaration does what the export of it did, and the export that is left does nothing. What the
-- list declares is the same, by `using` nothing more, and before the first statement the same is asked.
use Rattle.std.proofs.Common.{◌≡◌, ◌∙◌, refl, sym, ap, List, [], ◌∷◌, ◌++◌}
use Rattle.std.specs.Prelude.{Bool, true, false, ◌||◌, Option, codes, if◌then◌else◌}
use Rattle.es_tree.specs.Names.{first_text}
use Rattle.es_tree.specs.Scopes.{Declared}
use Rattle.es_tree.specs.Tree.{Tree, node, Label, Fields, done, ◌then◌, many, statements, Trees, empty, ◌before◌}
use Rattle.es_tree.specs.Words.{Text}
use Rattle.es_tree.specs.declared.ast_type.AstType.TheVariants.{Program, VariableDeclaration, VariableDeclarator}
use Rattle.es_runs.specs.Core.{World, Meaning, as_plain, get_value, in_order, meaning_of, value}
use Rattle.es_runs.specs.Machine.{M, Result, Value, onward, ◌>>=◌}
use Rattle.es_runs.specs.Machine.Result.{gives, stops}
use Rattle.es_statement_runs.specs.Helpers.{Supply}
use Rattle.es_statement_runs.specs.Kinds.{below, portions, scope_by, sense, sense_of, senses}
use Rattle.es_statement_runs.specs.Names.{is_word, top_in, top_names, using_here, using_in, var_names_all}
use Rattle.es_statement_runs.specs.Places.{placed_at}
use Rattle.es_statement_runs.specs.Senses.{More, Place, Portion, Sense, core_parts, cores, ends, plain_sense}
use Rattle.es_statement_runs.specs.Senses.More.{aims, keys_of}
use Rattle.es_statement_runs.specs.Senses.Portion.{alone, gap, rows}
use Rattle.es_statement_runs.specs.Stacks.{Scope, with_stack_where}
use Rattle.es_statement_runs.specs.StatementParts.{begun, declarator_by, first_asked}
use Rattle.es_export_splits.specs.Splits.{is_split, names_of_declaration, plainly, specifiers, split_before, split_list}
use Rattle.es_export_runs.proofs.PlainExports.{PlainAmong, PlainExport}
use Rattle.es_export_runs.proofs.PlainExports.PlainExport.{plain_export}

-- LISTS whose statements are read one by one: what is read of an export is read of its declaration and the export that is left
module _ {A : Type 0} (read : Trees → A) (same : (t : Tree) → PlainExport t → (ts : Trees) → read (split_before plainly t ts) ≡ read (t before ts)) (first : (t : Tree) (ts us : Trees) → read us ≡ read ts → read (t before us) ≡ read (t before ts)) where
  pub list-read : (ts : Trees) → PlainAmong ts → read (split_list plainly ts) ≡ read ts
  list-read empty h = refl
  list-read (t before ts) h = at (is_split t) refl ∙ first t ts (split_list plainly ts) (list-read ts h.1)
    where
      at : (b : Bool) → is_split t ≡ b → read (if b then split_before plainly t (split_list plainly ts) else t before split_list plainly ts) ≡ read (t before split_list plainly ts)
      at true e = same t (h.0 e) (split_list plainly ts)
      at false e = refl

-- WHAT THE LIST DECLARES

specifiers-declare : (xs : List Tree) → var_names_all (specifiers plainly xs) ≡ []
specifiers-declare [] = refl
specifiers-declare (x ∷ xs) = specifiers-declare xs

nothing-left : (es : List Declared) → es ≡ [] → (ds : List Declared) → (es ++ []) ++ ds ≡ ds
nothing-left es h ds = ap (λ (cs : List Declared). (cs ++ []) ++ ds) h

declared-same : (t : Tree) → PlainExport t → (ts : Trees) → top_in (split_before plainly t ts) ≡ top_in (t before ts)
declared-same t (plain_export l k m fs ds e) ts =
    let d = node VariableDeclaration k (many (node VariableDeclarator m fs before ds) then done) in
    ap (λ (es : List Declared). top_names d ++ es) (nothing-left (var_names_all (specifiers plainly (names_of_declaration d))) (specifiers-declare (names_of_declaration d)) (top_in ts))

pub top-same : (ts : Trees) → PlainAmong ts → top_in (split_list plainly ts) ≡ top_in ts
top-same = list-read top_in declared-same (λ t ts us e. ap (λ (ds : List Declared). top_names t ++ ds) e)

pub using-same : (ts : Trees) → PlainAmong ts → using_in (split_list plainly ts) ≡ using_in ts
using-same = list-read using_in (λ t h ts. used t h ts) (λ t ts us e. ap (λ (b : Bool). using_here t || b) e)
  where
    used : (t : Tree) → PlainExport t → (ts : Trees) → using_in (split_before plainly t ts) ≡ using_in (t before ts)
    used t (plain_export l k m fs ds e) ts = ap (λ (b : Bool). b || using_in ts) e

-- WHAT THE LIST DOES

-- a declarator begins nothing
either-begins : (b : Bool) (n : M Value) (m : Meaning) (k : M Value) → first_asked (if b then ends n else plain_sense m).more k ≡ k
either-begins true n m k = refl
either-begins false n m k = refl

declarator-begins : (p : Place) (target : More) (id e : Sense) (m : Meaning) (k : M Value) → first_asked (declarator_by p target id e m).more k ≡ k
declarator-begins p (aims target) id e m k = refl
declarator-begins p (keys_of ks) id e m k = refl
declarator-begins p _ id e m k = either-begins (is_word (codes "using") p.word) _ m k

unbegun : (p : Place) (ts : List (Option Text)) (fs : List Bool) (block : Scope) (w : World) (m : Meaning) (ps : List Portion) (k : M Value) → first_asked (sense_of p VariableDeclarator ts fs block w m ps).more k ≡ k
unbegun p ts fs block w m [] k = refl
unbegun p ts fs block w m (gap ∷ ps) k = refl
unbegun p ts fs block w m (rows es ∷ ps) k = refl
unbegun p ts fs block w m (alone id ∷ []) k = refl
unbegun p ts fs block w m (alone id ∷ gap ∷ []) k = refl
unbegun p ts fs block w m (alone id ∷ gap ∷ (x ∷ ps)) k = refl
unbegun p ts fs block w m (alone id ∷ alone e ∷ []) k = declarator-begins p id.more id e m k
unbegun p ts fs block w m (alone id ∷ alone e ∷ (x ∷ ps)) k = refl
unbegun p ts fs block w m (alone id ∷ rows es ∷ ps) k = refl

declarator-unbegun : (p : Place) (l : Label) (fs : Fields) (k : M Value) → first_asked (sense p (node VariableDeclarator l fs)).more k ≡ k
declarator-unbegun p l fs k =
    let ps = portions (λ i. below [] [] p) fs in
    unbegun p l.texts l.flags (scope_by [] false) p.world (meaning_of p.world VariableDeclarator l.texts l.flags (core_parts ps)) ps k

-- the value of what gives one
given : (w : World) (r : Result Value) → onward (onward r as_plain) (get_value w) ≡ r
given w (gives v s) = refl
given w (stops q s) = refl

module _ (u : Supply) (w : World) where
  abbrev here : Place
  here = placed_at u w [] []

  abbrev done_by : Trees → M Value
  done_by ts = in_order w (cores (senses here ts))

  exports-same : (t : Tree) → PlainExport t → (ts : Trees) → done_by (split_before plainly t ts) ≡ done_by (t before ts)
  exports-same t (plain_export l k m fs ds e) ts =
      let d = node VariableDeclaration k (many (node VariableDeclarator m fs before ds) then done) in
      λ i. λ s. onward (sym (given w (value w (sense here d).core s)) i) (λ v. done_by ts)

  pub list-same : (ts : Trees) → PlainAmong ts → done_by (split_list plainly ts) ≡ done_by ts
  list-same = list-read done_by exports-same (λ t ts us e. ap (λ (m : M Value). value w (sense here t).core >>= λ v. m) e)

  -- what is asked before the first statement
  module _ (m : M Value) where
    abbrev begun_by : Trees → M Value
    begun_by ts = begun (senses here ts) m

    begins-same : (t : Tree) → PlainExport t → (ts : Trees) → begun_by (split_before plainly t ts) ≡ begun_by (t before ts)
    begins-same t (plain_export l k n fs ds e) ts = declarator-unbegun (placed_at u w [] (first_text k.texts)) n fs (begun_by ts)

    pub begun-same : (ts : Trees) → PlainAmong ts → begun_by (split_list plainly ts) ≡ begun_by ts
    begun-same = list-read begun_by begins-same (λ t ts us e. ap (λ (k : M Value). first_asked (sense here t).more k) e)

-- THE PROGRAM

pub program-same : (u : Supply) (w : World) (l : Label) (ds ts : Trees) → PlainAmong ts → value w (sense (placed_at u w [] []) (node Program l (many ds then statements (split_list plainly ts) then done))).core ≡ value w (sense (placed_at u w [] []) (node Program l (many ds then statements ts then done))).core
program-same u w l ds ts h =
    ap (λ (b : Bool). value w (ends (begun_by u w (with_stack_where b (done_by u w (split_list plainly ts))) (split_list plainly ts))).core) (using-same ts h)
    ∙ ap (λ (m : M Value). value w (ends (begun_by u w (with_stack_where (using_in ts) m) (split_list plainly ts))).core) (list-same u w ts h)
    ∙ ap (λ (m : M Value). value w (ends m).core) (begun-same u w (with_stack_where (using_in ts) (done_by u w ts)) ts h)
