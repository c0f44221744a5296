-- Where helpers are called by a name that stands nowhere else where it would be evaluated or written, nothing writes it; and no literal changes.
use Rattle.std.proofs.Common.{◌≡◌, ◌∙◌, ℕ, zero, suc, refl, ap, sym, List, [], ◌∷◌, ◌++◌}
use Rattle.std.proofs.lemmas.Bool.{and_from, and_parts}
use Rattle.std.specs.Prelude.{◌&&◌, ◌||◌, Bool, true, false, not, Option, Some, None, bytes_eq, codes, if◌then◌else◌}
use Rattle.es_tree.specs.Fresh.{is_among}
use Rattle.es_tree.specs.HasForm.{has_form, trees_form}
use Rattle.es_tree.specs.Names.{first_text}
use Rattle.es_tree.specs.Scopes.{target_names}
use Rattle.es_tree.specs.Tree.{Tree, node, Label, Fields, done, ◌then◌, Field, missing, one, many, statements, Trees, empty, ◌before◌}
use Rattle.es_tree.specs.Walks.{all_in_field, all_in_fields, all_in_trees, all_nodes}
use Rattle.es_tree.specs.Words.{Text}
use Rattle.es_tree.specs.declared.ast_type.AstType.{AstType}
use Rattle.es_tree.specs.declared.ast_type.AstType.TheVariants.{ArrayTarget, AssignmentExpression, BigIntLiteral, Directive, ForInStatement, ForOfStatement, Identifier, NumericLiteral, ParenthesizedExpression, Program, StringLiteral, TargetProperty, TargetRest, TargetWithDefault, UpdateExpression}
use Rattle.es_tree.specs.declared.helper.Helper.{Helper}
use Rattle.es_tree.specs.declared.table.Sort.TheVariants.{Directive as s-Directive, Program as s-Program}
use Rattle.es_tree.proofs.NodeForm.{node_form}
use Rattle.es_resolution.specs.Declarations.{Bound}
use Rattle.es_runs.specs.Alike.{Level, bad_names}
use Rattle.es_runs.specs.Runs.{only, program}
use Rattle.es_steps.specs.Nodes.{identifier}
use Rattle.es_steps.proofs.FormLists.{first-formed}
use Rattle.es_statement_runs.specs.Helpers.{targets_in, writes_of}
use Rattle.es_statement_runs.specs.Names.{names_of_all, own_names}
use Rattle.es_statement_runs.specs.Places.{Take, all_good, avoids, avoids_field, avoids_fields, avoids_trees, takes_of}
use Rattle.es_helper_calls.specs.HelperCalls.{calling, calling_among, calling_by, calling_here, calling_in, calls_one, used_helper, with_argument, with_callee}
use Rattle.es_import_runs.specs.Laws.{no_helper_text}

-- a node that doesn't write the name x
abbrev pub Unwritten : Text → AstType → Label → Fields → Bool
Unwritten x k l fs = not (is_among (writes_of k fs) x)

module _ (c : Helper → Bound) where
  abbrev named : Helper → Tree
  named h = identifier (c h)

  -- A TEST OF NODES that names pass
  module _ (P : AstType → Label → Fields → Bool) (names : (h : Helper) → all_nodes P (named h) ≡ true) where
    callee_so : (h : Helper) (gs : Fields) → all_in_fields P gs ≡ true → all_in_fields P (with_callee (named h) gs) ≡ true
    callee_so h (one f then fs) g = and_from (all_nodes P (named h)) (all_in_fields P fs) (names h) (and_parts (all_nodes P f) (all_in_fields P fs) g).1
    callee_so h _ g = g

    argument_so : (h : Helper) (gs : Fields) → all_in_fields P gs ≡ true → all_in_fields P (with_argument (named h) gs) ≡ true
    argument_so h (f then (many us then fs)) g =
        let d = and_parts (all_in_field P f) (all_in_trees P us && all_in_fields P fs) g in
        and_from (all_in_field P f) ((all_nodes P (named h) && true) && all_in_fields P fs) d.0 (and_from (all_nodes P (named h) && true) (all_in_fields P fs) (and_from (all_nodes P (named h)) true (names h) refl) (and_parts (all_in_trees P us) (all_in_fields P fs) d.1).1)
    argument_so h _ g = g

    here_so : (o : Option Helper) (gs : Fields) → all_in_fields P gs ≡ true → all_in_fields P (calling_here named o gs) ≡ true
    here_so None gs g = g
    here_so (Some h) gs g = at (calls_one gs)
      where
        at : (b : Bool) → all_in_fields P (if b then with_callee (named h) gs else with_argument (named h) gs) ≡ true
        at true = callee_so h gs g
        at false = argument_so h gs g

  -- LITERALS stay

  module _ (m : Text) where
    abbrev NoText : AstType → Label → Fields → Bool
    NoText = no_helper_text m

    text_stays : (k : AstType) (l : Label) (fs gs : Fields) → NoText k l fs ≡ true → NoText k l gs ≡ true
    text_stays StringLiteral l fs gs h = h
    text_stays NumericLiteral l fs gs h = h
    text_stays BigIntLiteral l fs gs h = h
    text_stays _ l fs gs h = refl

    mutual
      called_texts : (t : Tree) → all_nodes NoText t ≡ true → all_nodes NoText (calling named t) ≡ true
      called_texts (node k l fs) h =
          let d = and_parts (NoText k l fs) (all_in_fields NoText fs) h in
          let gs = calling_here named (used_helper k l fs) (calling_in named fs) in
          and_from (NoText k l gs) (all_in_fields NoText gs) (text_stays k l fs gs d.0) (here_so NoText (λ g. refl) (used_helper k l fs) (calling_in named fs) (called_texts_in fs d.1))

      called_texts_in : (fs : Fields) → all_in_fields NoText fs ≡ true → all_in_fields NoText (calling_in named fs) ≡ true
      called_texts_in done h = refl
      called_texts_in (f then fs) h = let d = and_parts (all_in_field NoText f) (all_in_fields NoText fs) h in and_from (all_in_field NoText (calling_by named f)) (all_in_fields NoText (calling_in named fs)) (called_texts_by f d.0) (called_texts_in fs d.1)

      called_texts_by : (f : Field) → all_in_field NoText f ≡ true → all_in_field NoText (calling_by named f) ≡ true
      called_texts_by missing h = refl
      called_texts_by (one t) h = called_texts t h
      called_texts_by (many ts) h = called_texts_among ts h
      called_texts_by (statements ts) h = called_texts_among ts h

      pub called_texts_among : (ts : Trees) → all_in_trees NoText ts ≡ true → all_in_trees NoText (calling_among named ts) ≡ true
      called_texts_among empty h = refl
      called_texts_among (t before ts) h = let d = and_parts (all_nodes NoText t) (all_in_trees NoText ts) h in and_from (all_nodes NoText (calling named t)) (all_in_trees NoText (calling_among named ts)) (called_texts t d.0) (called_texts_among ts d.1)

  -- NOTHING WRITES the name x

  module _ (x : Text) where
    abbrev bad : Level → Text → Bool
    bad = bad_names (only x) (only (codes "babelHelpers"))

    abbrev Away : List Text → Type 0
    Away ys = is_among ys x ≡ false

    left_or : (a b : Bool) → (a || b) ≡ false → a ≡ false
    left_or true b h = absurd (cc h)
    left_or false b h = refl

    other : (b : Bool) → not b ≡ true → b ≡ false
    other true h = absurd (cc h)
    other false h = refl

    not_false : (b : Bool) → b ≡ false → not b ≡ true
    not_false true h = absurd (cc h)
    not_false false h = refl

    both_away : (ys zs : List Text) → Away ys → Away zs → Away (ys ++ zs)
    both_away [] zs h g = g
    both_away (y ∷ ys) zs h g = at (bytes_eq y x) h (λ e. both_away ys zs e g)
      where
        at : (b : Bool) → (b || is_among ys x) ≡ false → (is_among ys x ≡ false → is_among (ys ++ zs) x ≡ false) → (b || is_among (ys ++ zs) x) ≡ false
        at true e f = absurd (cc e)
        at false e f = f e

    abbrev AtTarget : Take → Type 0
    AtTarget n = n.need.level ≡ Level.a_target

    target_name : (y : Text) (n : Take) → AtTarget n → not (bad n.need.level y) ≡ true → Away (y ∷ [])
    target_name y n e h =
        let no : (only x y || only (codes "babelHelpers") y) ≡ false = ap (λ (v : Level). bad v y) (sym e) ∙ other (bad n.need.level y) h in
        ap (λ (b : Bool). b || false) (left_or (only x y) (only (codes "babelHelpers") y) no)

    target_away : (t : Tree) (n : Take) → AtTarget n → avoids bad n t ≡ true → Away (target_names (calling named t))
    target_away (node Identifier l fs) n e h = target_name (first_text l.texts) n e (and_parts (not (bad n.need.level (first_text l.texts))) _ h).0
    target_away (node ParenthesizedExpression l (one t then fs)) n e h =
        let good = all_good bad (names_of_all (own_names ParenthesizedExpression (one t then fs))) in
        target_away t (takes_of n ParenthesizedExpression l.texts l.flags zero) e (and_parts (avoids bad (takes_of n ParenthesizedExpression l.texts l.flags zero) t) _ h).0
    target_away _ n e h = refl

    targets_away : (fs : Fields) (g : ℕ → Take) → ((i : ℕ) → AtTarget (g i)) → avoids_fields bad g fs ≡ true → Away (targets_in (calling_in named fs))
    targets_away done g e h = refl
    targets_away (missing then fs) g e h = targets_away fs (λ i. g (suc i)) (λ i. e (suc i)) h
    targets_away (one t then fs) g e h =
        let d = and_parts (avoids bad (g zero) t) (avoids_fields bad (λ i. g (suc i)) fs) h in
        both_away (target_names (calling named t)) (targets_in (calling_in named fs)) (target_away t (g zero) (e zero) d.0) (targets_away fs (λ i. g (suc i)) (λ i. e (suc i)) d.1)
    targets_away (many ts then fs) g e h = targets_away fs (λ i. g (suc i)) (λ i. e (suc i)) (and_parts (avoids_trees bad (g zero) ts) (avoids_fields bad (λ i. g (suc i)) fs) h).1
    targets_away (statements ts then fs) g e h = targets_away fs (λ i. g (suc i)) (λ i. e (suc i)) (and_parts (avoids_trees bad (g zero) ts) (avoids_fields bad (λ i. g (suc i)) fs) h).1

    writes_away : (k : AstType) (l : Label) (fs : Fields) (n : Take) → avoids_fields bad (takes_of n k l.texts l.flags) fs ≡ true → Away (writes_of k (calling_here named (used_helper k l fs) (calling_in named fs)))
    writes_away AssignmentExpression l (one t then fs) n h = target_away t _ refl (and_parts (avoids bad (takes_of n AssignmentExpression l.texts l.flags zero) t) _ h).0
    writes_away UpdateExpression l (one t then fs) n h = target_away t _ refl (and_parts (avoids bad (takes_of n UpdateExpression l.texts l.flags zero) t) _ h).0
    writes_away ForInStatement l (one t then fs) n h = target_away t _ refl (and_parts (avoids bad (takes_of n ForInStatement l.texts l.flags zero) t) _ h).0
    writes_away ForOfStatement l (one t then fs) n h = target_away t _ refl (and_parts (avoids bad (takes_of n ForOfStatement l.texts l.flags zero) t) _ h).0
    writes_away TargetProperty l (f then (one t then fs)) n h =
        let g = takes_of n TargetProperty l.texts l.flags in
        target_away t (g 1) refl (and_parts (avoids bad (g 1) t) _ (and_parts (avoids_field bad (g zero) f) (avoids_fields bad (λ i. g (suc i)) (one t then fs)) h).1).0
    writes_away ArrayTarget l fs n h = targets_away fs (takes_of n ArrayTarget l.texts l.flags) (λ i. refl) h
    writes_away TargetWithDefault l (one t then fs) n h = target_away t _ refl (and_parts (avoids bad (takes_of n TargetWithDefault l.texts l.flags zero) t) _ h).0
    writes_away TargetRest l (one t then fs) n h = target_away t _ refl (and_parts (avoids bad (takes_of n TargetRest l.texts l.flags zero) t) _ h).0
    writes_away _ l fs n h = refl

    mutual
      unwritten : (t : Tree) (n : Take) → avoids bad n t ≡ true → all_nodes (Unwritten x) (calling named t) ≡ true
      unwritten (node k l fs) n h =
          let good = all_good bad (names_of_all (own_names k fs)) in
          let later = avoids_fields bad (takes_of n k l.texts l.flags) fs in
          let below = (and_parts good later (and_parts _ (good && later) h).1).1 in
          let gs = calling_here named (used_helper k l fs) (calling_in named fs) in
          and_from (Unwritten x k l gs) (all_in_fields (Unwritten x) gs) (not_false (is_among (writes_of k gs) x) (writes_away k l fs n below))
          (here_so (Unwritten x) (λ g. refl) (used_helper k l fs) (calling_in named fs) (unwritten_in fs (takes_of n k l.texts l.flags) below))

      unwritten_in : (fs : Fields) (g : ℕ → Take) → avoids_fields bad g fs ≡ true → all_in_fields (Unwritten x) (calling_in named fs) ≡ true
      unwritten_in done g h = refl
      unwritten_in (f then fs) g h =
          let d = and_parts (avoids_field bad (g zero) f) (avoids_fields bad (λ i. g (suc i)) fs) h in
          and_from (all_in_field (Unwritten x) (calling_by named f)) (all_in_fields (Unwritten x) (calling_in named fs)) (unwritten_by f (g zero) d.0) (unwritten_in fs (λ i. g (suc i)) d.1)

      unwritten_by : (f : Field) (n : Take) → avoids_field bad n f ≡ true → all_in_field (Unwritten x) (calling_by named f) ≡ true
      unwritten_by missing n h = refl
      unwritten_by (one t) n h = unwritten t n h
      unwritten_by (many ts) n h = unwritten_among ts n h
      unwritten_by (statements ts) n h = unwritten_among ts n h

      pub unwritten_among : (ts : Trees) (n : Take) → avoids_trees bad n ts ≡ true → all_in_trees (Unwritten x) (calling_among named ts) ≡ true
      unwritten_among empty n h = refl
      unwritten_among (t before ts) n h =
          let d = and_parts (avoids bad n t) (avoids_trees bad n ts) h in
          and_from (all_nodes (Unwritten x) (calling named t)) (all_in_trees (Unwritten x) (calling_among named ts)) (unwritten t n d.0) (unwritten_among ts n d.1)

    -- nor do directives

    directive_still : (t : Tree) → has_form s-Directive t ≡ true → all_nodes (Unwritten x) (calling named t) ≡ true
    directive_still (node Directive l done) h = refl
    directive_still (node Directive l (f then fs)) h = absurd (let no : false ≡ true = (node_form s-Directive Directive l (f then fs) h).children in cc no)
    directive_still (node k l fs) h = absurd (let no : false ≡ true = (node_form s-Directive k l fs h).sort in cc no)

    directives_still : (ds : Trees) → trees_form s-Directive s-Directive ds ≡ true → all_in_trees (Unwritten x) (calling_among named ds) ≡ true
    directives_still empty h = refl
    directives_still (d before ds) h = let e = first-formed s-Directive d ds h in and_from (all_nodes (Unwritten x) (calling named d)) (all_in_trees (Unwritten x) (calling_among named ds)) (directive_still d e.0) (directives_still ds e.1)

    pub program_directives : (l : Label) (ds body : Trees) → has_form s-Program (program l ds body) ≡ true → all_in_trees (Unwritten x) (calling_among named ds) ≡ true
    program_directives l ds body h = directives_still ds (and_parts (trees_form s-Directive s-Directive ds) _ (node_form s-Program Program l (many ds then (statements body then done)) h).children).0
