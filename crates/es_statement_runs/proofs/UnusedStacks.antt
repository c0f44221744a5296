-- Whether a tree without declarations means something doesn't depend on whether a scope around it has a stack.
use Rattle.std.proofs.Common.{◌≡◌, ℕ, zero, suc, refl, Option, List, [], ◌∷◌, ap, ◌∙◌}
use Rattle.std.specs.Prelude.{Bool, true, false, not, ◌&&◌}
use Rattle.es_tree.specs.Words.{Text}
use Rattle.es_tree.specs.Tree.{Tree, node, Label, Fields, done, ◌then◌, Field, missing, one, many, statements, Trees, empty, ◌before◌}
use Rattle.es_tree.specs.Walks.{all_nodes, all_in_fields, all_in_field, all_in_trees}
use Rattle.es_tree.specs.declared.ast_type.AstType.{AstType}
use Rattle.es_tree.specs.declared.ast_type.AstType.TheVariants.{AssignmentExpression, AssignmentPattern, CallExpression, CatchClause, DoWhileStatement, ForInStatement, ForOfStatement, ForStatement, IfStatement, MemberExpression, PatternProperty, Program, SwitchCase, SwitchStatement, TaggedTemplateExpression, TargetProperty, TargetWithDefault, TemplateLiteral, TryStatement, VariableDeclarator, WhileStatement}
use Rattle.es_statement_runs.specs.Helpers.{Supply}
use Rattle.es_statement_runs.specs.Meant.{Slot, Slots, Spot, all_meant, are_meant, first_at, has_value, is_meant_at, is_meant_field, is_said, labels_in, last_at, named_label, nature, second_at, serves, slots, spots, word_in}
use Rattle.es_statement_runs.specs.Meant.Slot.{required, optional, listed, nonempty, labelled_by}
use Rattle.es_statement_runs.specs.Meant.Slots.{no_slot, slot, repeated}
use Rattle.es_statement_runs.specs.Names.{own_names, own_use, names_of_all}
use Rattle.es_statement_runs.proofs.Everywhere.{both_left, both_right, not_so}

-- no declarator, and no scope that has a stack
abbrev pub declares_nothing : AstType → Label → Fields → Bool
declares_nothing VariableDeclarator l fs = false
declares_nothing k l fs = not (own_use k fs)

-- where no scope has a stack
abbrev pub unused : Spot → Spot
unused c = record { role = c.role; exits = c.exits; uses = false }

own_unused : (k : AstType) (l : Label) (fs : Fields) → declares_nothing k l fs ≡ true → own_use k fs ≡ false
own_unused VariableDeclarator l fs h = refl
own_unused k l fs h = not_so (own_use k fs) h

said_unused : (S : Supply) (c : Spot) (k : AstType) (l : Label) (fs : Fields) (b : Bool) (xs ns : List Text) (x : Text) → declares_nothing k l fs ≡ true → is_said S (unused c) k l.texts l.flags b xs ns x ≡ is_said S c k l.texts l.flags b xs ns x
said_unused S c VariableDeclarator l fs b xs ns x h = absurd (cc h)
said_unused S c _ l fs b xs ns x h = refl

first_unused : (a b : Spot) (i : ℕ) → first_at (unused a) (unused b) i ≡ unused (first_at a b i)
first_unused a b zero = refl
first_unused a b (suc i) = refl

second_unused : (a b c : Spot) (i : ℕ) → second_at (unused a) (unused b) (unused c) i ≡ unused (second_at a b c i)
second_unused a b c zero = refl
second_unused a b c (suc i) = first_unused b c i

last_unused : (a b : Spot) (i : ℕ) → last_at (unused a) (unused b) i ≡ unused (last_at a b i)
last_unused a b zero = refl
last_unused a b (suc zero) = refl
last_unused a b (suc (suc zero)) = refl
last_unused a b (suc (suc (suc i))) = refl

spots_unused : (c : Spot) (k : AstType) (ts : List (Option Text)) (b : Bool) (ns ls : List Text) (i : ℕ) → spots (unused c) k ts false b ns ls i ≡ unused (spots c k ts false b ns ls i)
spots_unused c Program ts b ns ls i = first_unused _ _ i
spots_unused c VariableDeclarator ts b ns ls i = first_unused _ _ i
spots_unused c IfStatement ts b ns ls i = first_unused _ _ i
spots_unused c ForStatement ts b ns ls i = last_unused _ _ i
spots_unused c ForInStatement ts b ns ls i = second_unused _ _ _ i
spots_unused c ForOfStatement ts b ns ls i = second_unused _ _ _ i
spots_unused c WhileStatement ts b ns ls i = first_unused _ _ i
spots_unused c DoWhileStatement ts b ns ls i = first_unused _ _ i
spots_unused c SwitchStatement ts b ns ls i = first_unused _ _ i
spots_unused c SwitchCase ts b ns ls i = first_unused _ _ i
spots_unused c TryStatement ts b ns ls i = second_unused _ _ _ i
spots_unused c CatchClause ts b ns ls i = first_unused _ _ i
spots_unused c TemplateLiteral ts b ns ls i = first_unused _ _ i
spots_unused c TaggedTemplateExpression ts b ns ls i = first_unused _ _ i
spots_unused c AssignmentExpression ts b ns ls i = first_unused _ _ i
spots_unused c MemberExpression ts b ns ls i = first_unused _ _ i
spots_unused c CallExpression ts b ns ls i = first_unused _ _ i
spots_unused c PatternProperty ts b ns ls i = first_unused _ _ i
spots_unused c TargetProperty ts b ns ls i = first_unused _ _ i
spots_unused c AssignmentPattern ts b ns ls i = first_unused _ _ i
spots_unused c TargetWithDefault ts b ns ls i = first_unused _ _ i
spots_unused c _ ts b ns ls i = refl

same_spots : (c : Spot) (k : AstType) (ts : List (Option Text)) (n b : Bool) (ns ls : List Text) → n ≡ false → spots (unused c) k ts n b ns ls ≡ (λ i. unused (spots c k ts n b ns ls i))
same_spots c k ts n b ns ls e = rw e (λ j i. spots_unused c k ts b ns ls i j)

module _ (S : Supply) where
  mutual
    pub unused_meant : (t : Tree) (c : Spot) (ls : List Text) (x : Text) → all_nodes declares_nothing t ≡ true → is_meant_at S (unused c) ls x t ≡ is_meant_at S c ls x t
    unused_meant (node k l fs) c ls x h =
        let own = both_left (declares_nothing k l fs) (all_in_fields declares_nothing fs) h in
        let below = both_right (declares_nothing k l fs) (all_in_fields declares_nothing fs) h in
        let b : Bool = has_value k fs in
        let ns : List Text = named_label k fs in
        λ j. serves (nature k) c.role && (said_unused S c k l fs b (names_of_all (own_names k fs)) ns x own j
        && ((ap (λ (at : ℕ → Spot). are_meant S (slots k l.flags b ns) at (labels_in k ns ls) (word_in k l.texts) fs) (same_spots c k l.texts (own_use k fs) b ns ls (own_unused k l fs own)))
        ∙ fields_meant fs (slots k l.flags b ns) (spots c k l.texts (own_use k fs) b ns ls) (labels_in k ns ls) (word_in k l.texts) below) j)

    fields_meant : (fs : Fields) (ss : Slots) (at : ℕ → Spot) (ls : List Text) (x : Text) → all_in_fields declares_nothing fs ≡ true → are_meant S ss (λ i. unused (at i)) ls x fs ≡ are_meant S ss at ls x fs
    fields_meant done no_slot at ls x h = refl
    fields_meant done (slot s ss) at ls x h = refl
    fields_meant done (repeated s) at ls x h = refl
    fields_meant (f then fs) no_slot at ls x h = refl
    fields_meant (f then fs) (slot s ss) at ls x h =
        λ j. field_meant f s (at zero) ls x (both_left (all_in_field declares_nothing f) (all_in_fields declares_nothing fs) h) j && fields_meant fs ss (λ i. at (suc i)) ls x (both_right (all_in_field declares_nothing f) (all_in_fields declares_nothing fs) h) j
    fields_meant (f then fs) (repeated s) at ls x h =
        λ j. field_meant f s (at zero) ls x (both_left (all_in_field declares_nothing f) (all_in_fields declares_nothing fs) h) j && fields_meant fs (repeated s) (λ i. at (suc i)) ls x (both_right (all_in_field declares_nothing f) (all_in_fields declares_nothing fs) h) j

    field_meant : (f : Field) (s : Slot) (c : Spot) (ls : List Text) (x : Text) → all_in_field declares_nothing f ≡ true → is_meant_field S s (unused c) ls x f ≡ is_meant_field S s c ls x f
    field_meant (one t) required c ls x h = unused_meant t c ls x h
    field_meant (one t) optional c ls x h = unused_meant t c ls x h
    field_meant (many ts) listed c ls x h = trees_meant ts c ls x h
    field_meant (statements ts) listed c ls x h = trees_meant ts c ls x h
    field_meant (many (t before ts)) nonempty c ls x h =
        λ j. unused_meant t c ls x (both_left (all_nodes declares_nothing t) (all_in_trees declares_nothing ts) h) j && trees_meant ts c ls x (both_right (all_nodes declares_nothing t) (all_in_trees declares_nothing ts) h) j
    field_meant (many empty) nonempty c ls x h = refl
    field_meant missing (labelled_by []) c ls x h = refl
    field_meant (one t) (labelled_by []) c ls x h = refl
    field_meant (many ts) (labelled_by []) c ls x h = refl
    field_meant (statements ts) (labelled_by []) c ls x h = refl
    field_meant missing (labelled_by (n ∷ [])) c ls x h = refl
    field_meant (one t) (labelled_by (n ∷ [])) c ls x h = refl
    field_meant (many ts) (labelled_by (n ∷ [])) c ls x h = refl
    field_meant (statements ts) (labelled_by (n ∷ [])) c ls x h = refl
    field_meant missing (labelled_by (n ∷ (m ∷ ns))) c ls x h = refl
    field_meant (one t) (labelled_by (n ∷ (m ∷ ns))) c ls x h = refl
    field_meant (many ts) (labelled_by (n ∷ (m ∷ ns))) c ls x h = refl
    field_meant (statements ts) (labelled_by (n ∷ (m ∷ ns))) c ls x h = refl
    field_meant _ _ c ls x h = refl

    trees_meant : (ts : Trees) (c : Spot) (ls : List Text) (x : Text) → all_in_trees declares_nothing ts ≡ true → all_meant S (unused c) ls x ts ≡ all_meant S c ls x ts
    trees_meant empty c ls x h = refl
    trees_meant (t before ts) c ls x h =
        λ j. unused_meant t c ls x (both_left (all_nodes declares_nothing t) (all_in_trees declares_nothing ts) h) j && trees_meant ts c ls x (both_right (all_nodes declares_nothing t) (all_in_trees declares_nothing ts) h) j
