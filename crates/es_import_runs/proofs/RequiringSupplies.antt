-- Where no literal of a tree has the text of a helper's module, it means the same whether helpers are imported or required.
use Rattle.std.proofs.Common.{◌≡◌, ℕ, zero, suc, refl, sym, ap, subst, ◌∙◌, Option, Some, None, List, [], ◌∷◌}
use Rattle.std.proofs.lemmas.Bool.{and_parts}
use Rattle.std.specs.Prelude.{◌&&◌, Bool, true, false, codes, if◌then◌else◌}
use Rattle.es_tree.specs.Names.{first_text}
use Rattle.es_tree.specs.Scopes.{Declared}
use Rattle.es_tree.specs.Tree.{Tree, node, Label, Fields, done, ◌then◌, Field, missing, one, many, statements, Trees, empty, ◌before◌}
use Rattle.es_tree.specs.Walks.{all_nodes, all_in_field, all_in_fields, all_in_trees}
use Rattle.es_tree.specs.Words.{Text}
use Rattle.es_tree.specs.declared.ast_type.AstType.{AstType}
use Rattle.es_tree.specs.declared.ast_type.AstType.TheVariants.{ArrayExpression, AssignmentExpression, AssignmentPattern, BigIntLiteral, BlockStatement, BooleanLiteral, BreakStatement, CallExpression, CatchClause, ContinueStatement, DoWhileStatement, ExportAllDeclaration, ExportDefaultDeclaration, ExportNamedDeclaration, ForInStatement, ForOfStatement, ForStatement, Identifier, IfStatement, ImportDeclaration, ImportDefaultSpecifier, ImportNamespaceSpecifier, ImportSpecifier, LabeledStatement, MemberExpression, NullLiteral, NumericLiteral, ObjectExpression, ObjectPattern, ObjectProperty, ObjectTarget, PatternProperty, Program, RestElement, SpreadElement, StringLiteral, SwitchCase, SwitchStatement, TaggedTemplateExpression, TargetProperty, TargetRest, TargetWithDefault, TemplateLiteral, ThrowStatement, TryStatement, VariableDeclaration, VariableDeclarator, WhileStatement}
use Rattle.es_runs.specs.Core.{Binding, Form, Meaning, World, flag, flag_after, meaning_of, second}
use Rattle.es_runs.specs.Core.Binding.{silent}
use Rattle.es_runs.specs.Core.Form.{word}
use Rattle.es_runs.specs.Core.Silent.{helper_name, keys_name}
use Rattle.es_runs.specs.Machine.{M, Values}
use Rattle.es_statement_runs.specs.Calls.{assignment_by, call_by, call_sense, core_call, destructuring_sense, extends_sense, helper_member, helper_sense, is_bare, is_global, is_require, is_stack_key, mapped, maps_keys, member_by, member_sense, module_text, own_literal, required_or, spread2_sense, static_member, using_sense, without_sense}
use Rattle.es_statement_runs.specs.Helpers.{helper_in, is_helper_text}
use Rattle.es_statement_runs.specs.Helpers.Supply.{by_import, by_require}
use Rattle.es_statement_runs.specs.Kinds.{boolean_text, inside, label_in, portion, portions, scope_by, sense, sense_of, senses}
use Rattle.es_statement_runs.specs.Names.{is_word, own_names, own_use}
use Rattle.es_statement_runs.specs.Places.{placed_at}
use Rattle.es_statement_runs.specs.Senses.{More, Place, Portion, Sense, core_parts, key_items, keys_where, plain_sense, said_in}
use Rattle.es_statement_runs.specs.Senses.More.{aims, helper_call, keys_of, maps, stack_member}
use Rattle.es_statement_runs.specs.Senses.Portion.{alone, gap, rows}
use Rattle.es_statement_runs.specs.Stacks.{Scope}
use Rattle.es_statement_runs.specs.StatementParts.{declarator_by, first_more, imported_as, namespace_begins}
use Rattle.es_statement_runs.proofs.AkinSupplies.{supplied}
use Rattle.es_import_runs.specs.Laws.{no_helper_text}
use Rattle.es_import_runs.proofs.NoTexts.{no_path, none_so}

module _ (m : Text) where
  -- what is said is no text of a helper's module
  abbrev Apart : More → Type 0
  Apart e = helper_in m (own_literal e) ≡ None

  abbrev AllApart : List Sense → Type 0
  AllApart [] = Unit {0}
  AllApart (e ∷ es) = Apart e.more × AllApart es

  abbrev PartApart : Portion → Type 0
  PartApart gap = Unit {0}
  PartApart (alone e) = Apart e.more
  PartApart (rows es) = AllApart es

  abbrev PartsApart : List Portion → Type 0
  PartsApart [] = Unit {0}
  PartsApart (x ∷ xs) = PartApart x × PartsApart xs

  no_text : helper_in m [] ≡ None
  no_text = no_path m [] refl

  abbrev importing : Place → Place
  importing p = supplied (by_import m) p

  abbrev requiring : Place → Place
  requiring p = supplied (by_require m) p

  module _ (p : Place) where
    -- THE SAME, of each kind

    text_apart : (es : List Sense) → AllApart es → helper_in m (module_text es) ≡ None
    text_apart [] h = no_text
    text_apart (e ∷ []) h = h.0
    text_apart (e ∷ (d ∷ ds)) h = no_text

    plainly_same : (f : Sense) (es : List Sense) → AllApart es → (b : Bool) → required_or (if b then None else None) (plain_sense (core_call p.world false f es)) ≡ required_or (if b then helper_in m (module_text es) else None) (plain_sense (core_call p.world false f es))
    plainly_same f es h true = ap (λ (o : Option Text). required_or o (plain_sense (core_call p.world false f es))) (sym (text_apart es h))
    plainly_same f es h false = refl

    called_same : (f : Sense) (es : List Sense) → AllApart es → (e : More) → call_by (importing p) f es e ≡ call_by (requiring p) f es e
    called_same f es h (helper_call x) = refl
    called_same f es h (maps ks) = refl
    called_same f es h (stack_member y c) = refl
    called_same f es h _ = plainly_same f es h (is_require p.world f.core.form)

    call_same : (b : Bool) (f : Sense) (es : List Sense) → AllApart es → call_sense (importing p) b f es ≡ call_sense (requiring p) b f es
    call_same true f es h = refl
    call_same false f es h = called_same f es h f.more

    member_by_same : (e : More) (f g : Form) (c : Meaning) → member_by (importing p) e f g c ≡ member_by (requiring p) e f g c
    member_by_same (keys_of ks) f (word y) c = refl
    member_by_same _ (word o) (word y) c = refl
    member_by_same _ _ (word y) c = refl
    member_by_same _ _ _ c = refl

    member_same : (a b : Bool) (o k : Sense) (c : Meaning) → member_sense (importing p) a b o k c ≡ member_sense (requiring p) a b o k c
    member_same false false o k c = member_by_same o.more o.core.form k.core.form c
    member_same false true o k c = refl
    member_same true b o k c = refl

    kind_same : (k : AstType) (ts : List (Option Text)) (fs : List Bool) (block : Scope) (i : World) (c : Meaning) (ps : List Portion) → PartsApart ps → sense_of (importing p) k ts fs block i c ps ≡ sense_of (requiring p) k ts fs block i c ps
    kind_same MemberExpression ts fs block i c (alone o ∷ alone k ∷ []) h = member_same (flag fs) (flag_after fs) o k c
    kind_same MemberExpression ts fs block i c _ h = refl
    kind_same CallExpression ts fs block i c (alone f ∷ rows es ∷ []) h = call_same (flag fs) f es h.1.0
    kind_same CallExpression ts fs block i c _ h = refl
    kind_same k ts fs block i c ps h = refl

    inside_supplied : (k : AstType) (ts : List (Option Text)) (ds : List Declared) (ls : List Text) (i : ℕ) → (inside (importing p) k ts ds ls i ≡ importing (inside p k ts ds ls i)) × (inside (requiring p) k ts ds ls i ≡ requiring (inside p k ts ds ls i))
    inside_supplied BlockStatement ts ds ls i = (refl, refl)
    inside_supplied ForStatement ts ds ls i = (refl, refl)
    inside_supplied ForInStatement ts ds ls i = (refl, refl)
    inside_supplied ForOfStatement ts ds ls i = (refl, refl)
    inside_supplied CatchClause ts ds ls i = (refl, refl)
    inside_supplied SwitchStatement ts ds ls zero = (refl, refl)
    inside_supplied SwitchStatement ts ds ls (suc i) = (refl, refl)
    inside_supplied LabeledStatement ts ds ls i = (refl, refl)
    inside_supplied _ ts ds ls i = (refl, refl)

    -- WHAT EACH KIND SAYS

    one_apart : (b : Bool) (e d : Sense) → Apart e.more → Apart d.more → Apart (if b then e else d).more
    one_apart true e d h g = h
    one_apart false e d h g = g

    said_apart : (b : Bool) (e d : More) → Apart e → Apart d → Apart (if b then e else d)
    said_apart true e d h g = h
    said_apart false e d h g = g

    name_apart : (b : Binding) → Apart (said_in (by_require m) b)
    name_apart (silent (helper_name h)) = no_text
    name_apart (silent (keys_name vs)) = no_text
    name_apart _ = no_text

    keys_apart : (o : Option (M Values)) → Apart (keys_where o)
    keys_apart (Some ks) = no_text
    keys_apart None = no_text

    import_apart : (x : Text) (ys : List Text) → Apart (imported_as x ys)
    import_apart x [] = no_text
    import_apart x (y ∷ ys) = no_text

    space_apart : (e : Portion) (t : Text) → Apart (namespace_begins e t)
    space_apart (alone e) t = no_text
    space_apart gap t = no_text
    space_apart (rows es) t = no_text

    first_apart : (es : List Sense) → AllApart es → Apart (first_more es)
    first_apart [] h = no_text
    first_apart (e ∷ es) h = h.0

    boolean_apart : (b : Bool) → helper_in m (boolean_text b) ≡ None
    boolean_apart true = no_path m (codes "true") refl
    boolean_apart false = no_path m (codes "false") refl

    assignment_apart : (op : Text) (l : More) (e : Sense) (c : Meaning) → Apart (assignment_by p.world op l e c).more
    assignment_apart op (aims t) e c = one_apart (is_word (codes "=") op) _ _ no_text no_text
    assignment_apart op (stack_member y t) e c = one_apart (is_word (codes "=") op) _ _ no_text no_text
    assignment_apart op _ e c = no_text

    spread2_apart : (w : World) (es : List Sense) → Apart (spread2_sense w es).more
    spread2_apart w [] = no_text
    spread2_apart w (a ∷ es) = no_text

    extends_apart : (w : World) (es : List Sense) → Apart (extends_sense w es).more
    extends_apart w (a ∷ e ∷ []) = one_apart (is_bare a.more) _ _ no_text no_text
    extends_apart w _ = no_text

    destructuring_apart : (w : World) (es : List Sense) → Apart (destructuring_sense w es).more
    destructuring_apart w (e ∷ []) = no_text
    destructuring_apart w _ = no_text

    without_apart : (w : World) (es : List Sense) → Apart (without_sense w es).more
    without_apart w (e ∷ k ∷ []) = no_text
    without_apart w _ = no_text

    using_apart : (es : List Sense) → Apart (using_sense es).more
    using_apart [] = no_text
    using_apart _ = no_text

    helper_apart : (w : World) (h : Text) (es : List Sense) → Apart (helper_sense w h es).more
    helper_apart w h es = one_apart (is_word (codes "objectSpread2") h) _ _ (spread2_apart w es) (one_apart (is_word (codes "extends") h) _ _ (extends_apart w es) (one_apart (is_word (codes "objectDestructuringEmpty") h) _ _ (destructuring_apart w es)
        (one_apart (is_word (codes "objectWithoutProperties") h) _ _ (without_apart w es) (one_apart (is_word (codes "usingCtx") h) _ _ (using_apart es) no_text))))

    required_apart : (o : Option Text) (c : Meaning) → Apart (required_or o (plain_sense c)).more
    required_apart (Some h) c = no_text
    required_apart None c = no_text

    mapped_apart : (e : More) (ks : M Values) → Apart (mapped e ks)
    mapped_apart (helper_call h) ks = said_apart (is_word (codes "toPropertyKey") h) _ _ no_text no_text
    mapped_apart _ ks = no_text

    maps_apart : (es : List Sense) (ks : M Values) → Apart (maps_keys es ks)
    maps_apart (e ∷ []) ks = mapped_apart e.more ks
    maps_apart _ ks = no_text

    called_apart : (f : Sense) (es : List Sense) (e : More) → Apart (call_by (requiring p) f es e).more
    called_apart f es (helper_call h) = helper_apart p.world h es
    called_apart f es (maps ks) = maps_apart es ks
    called_apart f es (stack_member y c) = no_text
    called_apart f es _ = required_apart _ (core_call p.world false f es)

    call_apart : (b : Bool) (f : Sense) (es : List Sense) → Apart (call_sense (requiring p) b f es).more
    call_apart true f es = no_text
    call_apart false f es = called_apart f es f.more

    static_apart : (y : Text) (c : Meaning) → Apart (static_member (requiring p) y c).more
    static_apart y c = said_apart (is_stack_key y) _ _ no_text no_text

    member_by_apart : (e : More) (f g : Form) (c : Meaning) → Apart (member_by (requiring p) e f g c).more
    member_by_apart (keys_of ks) f (word y) c = said_apart (is_word (codes "map") y) _ _ no_text no_text
    member_by_apart _ (word o) (word y) c = one_apart (is_helper_text y && is_global p.world (by_require m) o) (helper_member (by_require m) y c) (static_member (requiring p) y c) no_text (static_apart y c)
    member_by_apart _ _ (word y) c = static_apart y c
    member_by_apart _ _ _ c = no_text

    member_apart : (a b : Bool) (o k : Sense) (c : Meaning) → Apart (member_sense (requiring p) a b o k c).more
    member_apart false false o k c = member_by_apart o.more o.core.form k.core.form c
    member_apart false true o k c = no_text
    member_apart true b o k c = no_text

    declarator_apart : (b : More) (x y : Sense) (c : Meaning) → Apart (declarator_by (requiring p) b x y c).more
    declarator_apart (aims t) x y c = no_text
    declarator_apart (keys_of ks) x y c = no_text
    declarator_apart _ x y c = one_apart (is_word (codes "using") p.word) _ _ no_text no_text

    kind_apart : (k : AstType) (l : Label) (gs : Fields) (block : Scope) (i : World) (c : Meaning) (ps : List Portion) → no_helper_text m k l gs ≡ true → PartsApart ps → Apart (sense_of (requiring p) k l.texts l.flags block i c ps).more
    kind_apart Identifier l gs block i c ps n h = name_apart (p.world.scope (first_text l.texts))
    kind_apart NullLiteral l gs block i c ps n h = no_path m (codes "null") refl
    kind_apart BooleanLiteral l gs block i c ps n h = boolean_apart (flag l.flags)
    kind_apart NumericLiteral l gs block i c ps n h = none_so (helper_in m (second l.texts)) n
    kind_apart BigIntLiteral l gs block i c ps n h = none_so (helper_in m (second l.texts)) n
    kind_apart StringLiteral l gs block i c ps n h = none_so (helper_in m (first_text l.texts)) n
    kind_apart TemplateLiteral l gs block i c (rows qs ∷ rows es ∷ []) n h = no_text
    kind_apart TemplateLiteral l gs block i c _ n h = no_text
    kind_apart TaggedTemplateExpression l gs block i c (alone tag ∷ alone q ∷ []) n h = no_text
    kind_apart TaggedTemplateExpression l gs block i c _ n h = no_text
    kind_apart ArrayExpression l gs block i c ps n h = keys_apart (key_items p.world ps)
    kind_apart SpreadElement l gs block i c (alone e ∷ []) n h = no_text
    kind_apart SpreadElement l gs block i c _ n h = no_text
    kind_apart ObjectExpression l gs block i c (rows es ∷ []) n h = no_text
    kind_apart ObjectExpression l gs block i c _ n h = no_text
    kind_apart ObjectProperty l gs block i c (alone k ∷ alone e ∷ []) n h = no_text
    kind_apart ObjectProperty l gs block i c _ n h = no_text
    kind_apart AssignmentExpression l gs block i c (alone a ∷ alone e ∷ []) n h = assignment_apart (first_text l.texts) a.more e c
    kind_apart AssignmentExpression l gs block i c _ n h = no_text
    kind_apart MemberExpression l gs block i c (alone o ∷ alone k ∷ []) n h = member_apart (flag l.flags) (flag_after l.flags) o k c
    kind_apart MemberExpression l gs block i c _ n h = no_text
    kind_apart CallExpression l gs block i c (alone f ∷ rows es ∷ []) n h = call_apart (flag l.flags) f es
    kind_apart CallExpression l gs block i c _ n h = no_text
    kind_apart ObjectPattern l gs block i c (rows es ∷ []) n h = no_text
    kind_apart ObjectPattern l gs block i c _ n h = no_text
    kind_apart ObjectTarget l gs block i c (rows es ∷ []) n h = no_text
    kind_apart ObjectTarget l gs block i c _ n h = no_text
    kind_apart PatternProperty l gs block i c (alone k ∷ alone e ∷ []) n h = no_text
    kind_apart PatternProperty l gs block i c _ n h = no_text
    kind_apart TargetProperty l gs block i c (alone k ∷ alone e ∷ []) n h = no_text
    kind_apart TargetProperty l gs block i c _ n h = no_text
    kind_apart AssignmentPattern l gs block i c (alone k ∷ alone e ∷ []) n h = no_text
    kind_apart AssignmentPattern l gs block i c _ n h = no_text
    kind_apart TargetWithDefault l gs block i c (alone k ∷ alone e ∷ []) n h = no_text
    kind_apart TargetWithDefault l gs block i c _ n h = no_text
    kind_apart RestElement l gs block i c (alone e ∷ []) n h = no_text
    kind_apart RestElement l gs block i c _ n h = no_text
    kind_apart TargetRest l gs block i c (alone e ∷ []) n h = no_text
    kind_apart TargetRest l gs block i c _ n h = no_text
    kind_apart VariableDeclarator l gs block i c (alone x ∷ gap ∷ []) n h = no_text
    kind_apart VariableDeclarator l gs block i c (alone x ∷ alone e ∷ []) n h = declarator_apart x.more x e c
    kind_apart VariableDeclarator l gs block i c _ n h = no_text
    kind_apart VariableDeclaration l gs block i c (rows es ∷ []) n h = first_apart es h.0
    kind_apart VariableDeclaration l gs block i c _ n h = no_text
    kind_apart BlockStatement l gs block i c (rows es ∷ []) n h = no_text
    kind_apart BlockStatement l gs block i c _ n h = no_text
    kind_apart ThrowStatement l gs block i c (alone e ∷ []) n h = no_text
    kind_apart ThrowStatement l gs block i c _ n h = no_text
    kind_apart IfStatement l gs block i c (alone a ∷ alone b ∷ d ∷ []) n h = no_text
    kind_apart IfStatement l gs block i c _ n h = no_text
    kind_apart ForStatement l gs block i c (a ∷ b ∷ d ∷ alone e ∷ []) n h = no_text
    kind_apart ForStatement l gs block i c _ n h = no_text
    kind_apart ForInStatement l gs block i c (alone a ∷ alone b ∷ alone d ∷ []) n h = no_text
    kind_apart ForInStatement l gs block i c _ n h = no_text
    kind_apart ForOfStatement l gs block i c (alone a ∷ alone b ∷ alone d ∷ []) n h = no_text
    kind_apart ForOfStatement l gs block i c _ n h = no_text
    kind_apart WhileStatement l gs block i c (alone a ∷ alone b ∷ []) n h = no_text
    kind_apart WhileStatement l gs block i c _ n h = no_text
    kind_apart DoWhileStatement l gs block i c (alone a ∷ alone b ∷ []) n h = no_text
    kind_apart DoWhileStatement l gs block i c _ n h = no_text
    kind_apart BreakStatement l gs block i c (a ∷ []) n h = no_text
    kind_apart BreakStatement l gs block i c _ n h = no_text
    kind_apart ContinueStatement l gs block i c (a ∷ []) n h = no_text
    kind_apart ContinueStatement l gs block i c _ n h = no_text
    kind_apart LabeledStatement l gs block i c (alone a ∷ alone b ∷ []) n h = no_text
    kind_apart LabeledStatement l gs block i c _ n h = no_text
    kind_apart SwitchStatement l gs block i c (alone a ∷ rows es ∷ []) n h = no_text
    kind_apart SwitchStatement l gs block i c _ n h = no_text
    kind_apart SwitchCase l gs block i c (a ∷ rows es ∷ []) n h = no_text
    kind_apart SwitchCase l gs block i c _ n h = no_text
    kind_apart TryStatement l gs block i c (alone a ∷ b ∷ d ∷ []) n h = no_text
    kind_apart TryStatement l gs block i c _ n h = no_text
    kind_apart CatchClause l gs block i c (a ∷ alone b ∷ []) n h = no_text
    kind_apart CatchClause l gs block i c _ n h = no_text
    kind_apart ImportDeclaration l gs block i c (rows es ∷ alone a ∷ ps) n h = no_text
    kind_apart ImportDeclaration l gs block i c _ n h = no_text
    kind_apart ImportSpecifier l gs block i c (alone a ∷ alone b ∷ []) n h = import_apart _ block.names
    kind_apart ImportSpecifier l gs block i c _ n h = no_text
    kind_apart ImportDefaultSpecifier l gs block i c ps n h = import_apart (codes "default") block.names
    kind_apart ImportNamespaceSpecifier l gs block i c ps n h = import_apart (codes "*") block.names
    kind_apart ExportNamedDeclaration l gs block i c (a ∷ ps) n h = no_text
    kind_apart ExportNamedDeclaration l gs block i c _ n h = no_text
    kind_apart ExportDefaultDeclaration l gs block i c (alone a ∷ []) n h = no_text
    kind_apart ExportDefaultDeclaration l gs block i c _ n h = no_text
    kind_apart ExportAllDeclaration l gs block i c (a ∷ alone b ∷ ps) n h = space_apart a _
    kind_apart ExportAllDeclaration l gs block i c _ n h = no_text
    kind_apart Program l gs block i c (rows ds ∷ rows es ∷ []) n h = no_text
    kind_apart Program l gs block i c _ n h = no_text
    kind_apart k l gs block i c ps n h = no_text

  -- THE TREE: it means the same, and says no text of a helper's module

  record SameTree (t : Tree) (p : Place) : Type 0 where
    same : sense (importing p) t ≡ sense (requiring p) t
    apart : Apart (sense (requiring p) t).more

  record SameAll (ts : Trees) (p : Place) : Type 0 where
    same : senses (importing p) ts ≡ senses (requiring p) ts
    apart : AllApart (senses (requiring p) ts)

  record SameParts (ps qs : List Portion) : Type 0 where
    same : ps ≡ qs
    apart : PartsApart qs

  record SamePart (x y : Portion) : Type 0 where
    same : x ≡ y
    apart : PartApart y

  abbrev NoText : AstType → Label → Fields → Bool
  NoText = no_helper_text m

  mutual
    tree_same : (t : Tree) → all_nodes NoText t ≡ true → (p : Place) → SameTree t p
    tree_same (node k l fs) h p =
        let d = and_parts (NoText k l fs) (all_in_fields NoText fs) h in
        let ds = own_names k fs in
        let vs = label_in k fs in
        let q = fields_same fs d.1 (inside p k l.texts ds vs) in
        let places = inside_supplied p k l.texts ds vs in
        let ps : List Portion = portions (inside (requiring p) k l.texts ds vs) fs in
        let here : portions (λ i. requiring (inside p k l.texts ds vs i)) fs ≡ ps = sym (λ j. portions (λ i. (places i).1 j) fs) in
        let parts : portions (inside (importing p) k l.texts ds vs) fs ≡ ps = (λ j. portions (λ i. (places i).0 j) fs) ∙ q.same ∙ here in
        let w : World = (inside (requiring p) k l.texts ds vs 1).world in
        let worlds : (inside (importing p) k l.texts ds vs 1).world ≡ w = (λ j. ((places 1).0 j).world) ∙ sym (λ j. ((places 1).1 j).world) in
        let block : Scope = scope_by ds (own_use k fs) in
        let apart : PartsApart ps = subst (λ (zs : List Portion). PartsApart zs) here q.apart in
        record {
          same = (λ j. sense_of (importing p) k l.texts l.flags block (worlds j) (meaning_of p.world k l.texts l.flags (core_parts (parts j))) (parts j)) ∙ kind_same p k l.texts l.flags block w (meaning_of p.world k l.texts l.flags (core_parts ps)) ps apart;
          apart = kind_apart p k l fs block w (meaning_of p.world k l.texts l.flags (core_parts ps)) ps d.0 apart;
        }

    fields_same : (fs : Fields) → all_in_fields NoText fs ≡ true → (at : ℕ → Place) → SameParts (portions (λ i. importing (at i)) fs) (portions (λ i. requiring (at i)) fs)
    fields_same done h at = record { same = refl; apart = tt }
    fields_same (f then fs) h at =
        let d = and_parts (all_in_field NoText f) (all_in_fields NoText fs) h in
        let q = field_same f d.0 (at zero) in
        let r = fields_same fs d.1 (λ i. at (suc i)) in
        record { same = λ j. q.same j ∷ r.same j; apart = (q.apart, r.apart) }

    field_same : (f : Field) → all_in_field NoText f ≡ true → (p : Place) → SamePart (portion (importing p) f) (portion (requiring p) f)
    field_same missing h p = record { same = refl; apart = tt }
    field_same (one t) h p = let d = tree_same t h p in record { same = λ j. alone (d.same j); apart = d.apart }
    field_same (many ts) h p = let d = all_same ts h p in record { same = λ j. rows (d.same j); apart = d.apart }
    field_same (statements ts) h p = let d = all_same ts h p in record { same = λ j. rows (d.same j); apart = d.apart }

    all_same : (ts : Trees) → all_in_trees NoText ts ≡ true → (p : Place) → SameAll ts p
    all_same empty h p = record { same = refl; apart = tt }
    all_same (t before ts) h p =
        let d = and_parts (all_nodes NoText t) (all_in_trees NoText ts) h in
        let q = tree_same t d.0 p in
        let r = all_same ts d.1 p in
        record { same = λ j. q.same j ∷ r.same j; apart = (q.apart, r.apart) }

  pub required_sense : (t : Tree) → all_nodes NoText t ≡ true → (w : World) (ls : List Text) (x : Text) → sense (placed_at (by_import m) w ls x) t ≡ sense (placed_at (by_require m) w ls x) t
  required_sense t h w ls x = (tree_same t h (placed_at (by_import m) w ls x)).same

  pub required_senses : (ts : Trees) → all_in_trees NoText ts ≡ true → (w : World) (ls : List Text) (x : Text) → senses (placed_at (by_import m) w ls x) ts ≡ senses (placed_at (by_require m) w ls x) ts
  required_senses ts h w ls x = (all_same ts h (placed_at (by_import m) w ls x)).same
