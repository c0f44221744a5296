-- Declarators that split for an object rest: the names of the declaration are the same, and that of the temporary comes to them.
use Rattle.std.proofs.Common.{◌≡◌, ℕ, suc, zero, refl, sym, subst, ◌∙◌, List, [], ◌∷◌, ◌++◌}
use Rattle.std.specs.Prelude.{Bool, true, false}
use Rattle.es_tree.specs.Ancestors.{Ancestor, scopes}
use Rattle.es_tree.specs.CoreStaticRules.{is_lexical}
use Rattle.es_tree.specs.DeclaredNames.{Name}
use Rattle.es_tree.specs.HasForm.{has_form, sort_before_trees}
use Rattle.es_tree.specs.Names.{first_text}
use Rattle.es_tree.specs.Tree.{Tree, node, Label, Fields, done, ◌then◌, Field, one, many, Trees, empty, ◌before◌}
use Rattle.es_tree.specs.Words.{Text}
use Rattle.es_tree.specs.declared.ast_type.AstType.{AstType}
use Rattle.es_tree.specs.declared.ast_type.AstType.TheVariants.{AssignmentPattern, ExportSpecifier, Identifier, ObjectPattern, PatternProperty, PrivateIdentifier, VariableDeclaration}
use Rattle.es_tree.specs.declared.table.Sort.{Sort}
use Rattle.es_tree.specs.declared.table.Sort.TheVariants.{Expression as s-Expression, PatternMember as s-PatternMember, PatternMemberRest as s-PatternMemberRest, VariableDeclarator as s-VariableDeclarator}
use Rattle.es_resolution.specs.Declarations.{Bound}
use Rattle.es_steps.specs.Nodes.{declarator_with, identifier, joined_trees, made}
use Rattle.es_steps.specs.ObjectRest.{SplitRule, SplitsOff, declares_as, declares_some, pattern_node}
use Rattle.es_steps.specs.ObjectRest.SplitRule.{splits}
use Rattle.es_steps.specs.ObjectRest.SplitsOff.{source, nested, nested_default, key}
use Rattle.es_steps.specs.Rules.{next_name}
use Rattle.es_steps.specs.Steps.{Whole}
use Rattle.es_valid_names.proofs.Claims.{Around, Clear, ClearAll, ClearBy, ClearIn, Stand, above, claims, claims_all, claims_by, elsewhere, is_owned, owned, plain_key, push, stand_in}
use Rattle.es_valid_names.proofs.Claims.{around_in, in_body as in_class}
use Rattle.es_valid_names.proofs.ClearPending.{expression-mute}
use Rattle.es_semantic.specs.declared.place.Role.{Role}
use Rattle.es_steps.specs.Steps.{Ledger, Site}
use Rattle.es_steps.specs.Steps.Spot.{at_node}
use Rattle.es_steps.proofs.FormLists.{first-formed}
use Rattle.es_steps.proofs.Fronts.{front-some}
use Rattle.es_steps.proofs.RuleLaws.{used-after}
use Rattle.es_steps.proofs.Temporaries.{AreTaken}
use Rattle.es_valid_names.proofs.ClearRules.{taken-new}
use Rattle.es_valid_names.proofs.MoreAround.{clear-more}
use Rattle.es_valid_rests.proofs.RestFormsDeclared.{declaration-parts, declarator-parts, default-parts, list-parts, pattern-members, property-value, rest-parts}
use Rattle.es_valid_rests.proofs.RestNamesSteps.{WideLawful, WideNode}
use Rattle.es_valid_rests.proofs.RestNamesWide.{Wide, wide-before, wide-behind, wide-fresh}
use Rattle.es_valid_rests.proofs.RestNamesFresh.{fresh-claims, fresh_names}
use Rattle.es_valid_rests.proofs.RestNamesLists.{Chain, in-key, in-pattern, in-target, in-value, key-new, key-old, nested-new, nested-old, same-field, same-tree, same-trees, source-new, source-old}
use Rattle.es_valid_rests.proofs.RestNamesTaken.{clear-joined, clear-parts, front-claims, front-clear, in-declared, in-initial, in_declaration, in_declared, in_initial, joined-lists, replaced-clear, the_names}

-- these names come in between
pub record Inserted (ns gs hs : List (List Name)) : Type 0 where
  pub front : List (List Name)
  pub behind : List (List Name)
  pub old : gs ≡ front ++ behind
  pub new : hs ≡ front ++ (ns ++ behind)

module _ (m : Label) (up : List Ancestor) (x : Bound) where
  abbrev pub temporary_names : List (List Name)
  temporary_names = push (fresh_names (is_lexical (first_text m.texts)) (scopes up) x.name) []

  abbrev Old : Tree → List (List Name)
  Old d = claims is_owned (in_declaration m up) d

  abbrev New : Trees → List (List Name)
  New es = claims_all is_owned (in_declaration m up) es

  -- the temporary, wherever the declaration's names stand
  temporary : (us : List Ancestor) → Chain up (the_names m up) us → claims is_owned us (identifier x) ≡ temporary_names
  temporary us h = same-tree up (in_declared m up (made [] []) (one (identifier x) then done)) us (in-declared m up (made [] []) (one (identifier x) then done)) h (identifier x) ∙ fresh-claims (made [] []) m (one (identifier x) then done) (many empty then done) up x

  source-inserted : (l : Label) (p e : Tree) → has_form s-Expression e ≡ true → Inserted temporary_names (Old (declares_as l p e)) (New (declarator_with (identifier x) e before declares_as l p (identifier x) before empty))
  source-inserted l p e f =
      let in_old = in_declared m up l (one p then one e then done) in
      let in_new = in_declared m up (made [] []) (one (identifier x) then one e then done) in
      let moved = in_initial m up (made [] []) (one (identifier x) then one e then done) in
      record {
        front = [];
        behind = claims is_owned in_old p;
        old = source-old (claims is_owned in_old p) _ (expression-mute (in_initial m up l (one p then one e then done)) e f (λ y. tt));
        new = source-new (claims is_owned in_new (identifier x)) (claims is_owned in_old p) (claims is_owned moved e) (expression-mute moved e f (λ y. tt)) ∙ (λ i. temporary in_new (in-declared m up (made [] []) (one (identifier x) then one e then done)) i ++ claims is_owned in_old p);
      }

  module _ (lp lq : Label) (k : Field) where
    -- the pattern as it was, the pattern before the temporary, and that after it
    abbrev in_whole : Label → List Ancestor
    in_whole l = above ObjectPattern lp done 0 0 ∷ in_declared m up l done

    abbrev in_first : List Ancestor
    in_first = above ObjectPattern (made [] []) done 0 0 ∷ in_declared m up (made [] []) done

    whole-chain : (l : Label) → Chain up (the_names m up) (in_whole l)
    whole-chain l = in-pattern up (the_names m up) (in_declared m up l done) lp done (in-declared m up l done)

    first-chain : Chain up (the_names m up) in_first
    first-chain = in-pattern up (the_names m up) (in_declared m up (made [] []) done) (made [] []) done (in-declared m up (made [] []) done)

    abbrev at_key : List Ancestor → List Ancestor
    at_key us = above PatternProperty lq (k then done) 0 0 ∷ us

    abbrev at_value : List Ancestor → List Ancestor
    at_value us = above PatternProperty lq done 1 0 ∷ us

    value-chain : (us : List Ancestor) → Chain up (the_names m up) us → Chain up (the_names m up) (at_value us)
    value-chain us h = in-value up (the_names m up) us lq done h

    same-key : (l : Label) → claims_by is_owned (at_key in_first) k ≡ claims_by is_owned (at_key (in_whole l)) k
    same-key l = same-field up (at_key (in_whole l)) (at_key in_first) (in-key up (the_names m up) (in_whole l) lq (k then done) (whole-chain l)) (in-key up (the_names m up) in_first lq (k then done) first-chain) k

    module _ (l ls : Label) (a c : Trees) (q : Tree) where
      abbrev from : Tree
      from = node Identifier ls done

      abbrev in_moved : List Ancestor
      in_moved = in_declared m up (made [] []) (one q then done)

      same-earlier : claims_all is_owned in_first a ≡ claims_all is_owned (in_whole l) a
      same-earlier = same-trees up (in_whole l) in_first (whole-chain l) first-chain a

      same-later : New (declares_some lp from c) ≡ claims_all is_owned (in_whole l) c
      same-later = front-claims m lp ls up (in_whole l) (whole-chain l) c (declares_some lp from c) (front-some lp from c)

      nested-inserted : Inserted temporary_names (Old (declares_as l (pattern_node lp (joined_trees a (node PatternProperty lq (k then one q then done) before c))) from))
          (New (declarator_with (pattern_node (made [] []) (joined_trees a (node PatternProperty lq (k then one (identifier x) then done) before empty))) from before declarator_with q (identifier x) before declares_some lp from c))
      nested-inserted =
          let moved = same-tree up (at_value (in_whole l)) in_moved (value-chain (in_whole l) (whole-chain l)) (in-declared m up (made [] []) (one q then done)) q in
          let names = temporary (at_value in_first) (value-chain in_first first-chain) in
          record {
            front = claims_all is_owned (in_whole l) a ++ claims_by is_owned (at_key (in_whole l)) k;
            behind = claims is_owned (at_value (in_whole l)) q ++ claims_all is_owned (in_whole l) c;
            old = (λ i. (joined-lists (in_whole l) a (node PatternProperty lq (k then one q then done) before c) i ++ []) ++ []) ∙ nested-old (claims_all is_owned (in_whole l) a) (claims_by is_owned (at_key (in_whole l)) k) (claims is_owned (at_value (in_whole l)) q) (claims_all is_owned (in_whole l) c);
            new = (λ i. ((joined-lists in_first a (node PatternProperty lq (k then one (identifier x) then done) before empty) i ++ []) ++ []) ++ ((claims is_owned in_moved q ++ []) ++ New (declares_some lp from c))) ∙
                nested-new (claims_all is_owned in_first a) (claims_by is_owned (at_key in_first) k) (claims is_owned (at_value in_first) (identifier x)) (claims is_owned in_moved q) (New (declares_some lp from c)) ∙
                (λ i. (same-earlier i ++ same-key l i) ++ (names i ++ (moved i ++ same-later i)));
          }

      default-inserted : (la : Label) (e : Tree) → has_form s-Expression e ≡ true → Inserted temporary_names (Old (declares_as l (pattern_node lp (joined_trees a (node PatternProperty lq (k then one (node AssignmentPattern la (one q then one e then done)) then done) before c))) from))
          (New (declarator_with (pattern_node (made [] []) (joined_trees a (node PatternProperty lq (k then one (node AssignmentPattern la (one (identifier x) then one e then done)) then done) before empty))) from before declarator_with q (identifier x) before declares_some lp from c))
      default-inserted la e f =
          let old_target = above AssignmentPattern la (one q then done) 0 0 ∷ at_value (in_whole l) in
          let new_target = above AssignmentPattern la (one (identifier x) then done) 0 0 ∷ at_value in_first in
          let old_value = above AssignmentPattern la done 1 0 ∷ at_value (in_whole l) in
          let new_value = above AssignmentPattern la done 1 0 ∷ at_value in_first in
          let old_names = source-old (claims is_owned old_target q) (claims is_owned old_value e) (expression-mute old_value e f (λ y. tt)) in
          let new_names = source-old (claims is_owned new_target (identifier x)) (claims is_owned new_value e) (expression-mute new_value e f (λ y. tt)) in
          let moved = same-tree up old_target in_moved (in-target up (the_names m up) (at_value (in_whole l)) la (one q then done) (value-chain (in_whole l) (whole-chain l))) (in-declared m up (made [] []) (one q then done)) q in
          let names = temporary new_target (in-target up (the_names m up) (at_value in_first) la (one (identifier x) then done) (value-chain in_first first-chain)) in
          record {
            front = claims_all is_owned (in_whole l) a ++ claims_by is_owned (at_key (in_whole l)) k;
            behind = claims is_owned old_target q ++ claims_all is_owned (in_whole l) c;
            old = (λ i. (joined-lists (in_whole l) a (node PatternProperty lq (k then one (node AssignmentPattern la (one q then one e then done)) then done) before c) i ++ []) ++ []) ∙ nested-old (claims_all is_owned (in_whole l) a) (claims_by is_owned (at_key (in_whole l)) k) (claims is_owned old_target q ++ (claims is_owned old_value e ++ [])) (claims_all is_owned (in_whole l) c) ∙
                (λ i. (claims_all is_owned (in_whole l) a ++ claims_by is_owned (at_key (in_whole l)) k) ++ (old_names i ++ claims_all is_owned (in_whole l) c));
            new = (λ i. ((joined-lists in_first a (node PatternProperty lq (k then one (node AssignmentPattern la (one (identifier x) then one e then done)) then done) before empty) i ++ []) ++ []) ++ ((claims is_owned in_moved q ++ []) ++ New (declares_some lp from c))) ∙
                nested-new (claims_all is_owned in_first a) (claims_by is_owned (at_key in_first) k) (claims is_owned new_target (identifier x) ++ (claims is_owned new_value e ++ [])) (claims is_owned in_moved q) (New (declares_some lp from c)) ∙
                (λ i. (same-earlier i ++ same-key l i) ++ ((new_names ∙ names) i ++ (moved i ++ same-later i)));
          }

  key-inserted : (l lp lq ls : Label) (a c : Trees) (k v : Tree) → Inserted temporary_names (Old (declares_as l (pattern_node lp (joined_trees a (node PatternProperty lq (one k then one v then done) before c))) (node Identifier ls done)))
      (New (declarator_with (pattern_node (made [] []) a) (node Identifier ls done) before declarator_with (identifier x) k before declarator_with (pattern_node lp (node PatternProperty lq (one (identifier x) then one v then done) before c)) (node Identifier ls done) before empty))
  key-inserted l lp lq ls a c k v =
      let whole = in_whole lp lq (one k) l in
      let rest = in_whole lp lq (one k) (made [] []) in
      let first = in_first lp lq (one k) in
      let old_key = above PatternProperty lq (one k then done) 0 0 ∷ whole in
      let old_value = above PatternProperty lq done 1 0 ∷ whole in
      let new_value = above PatternProperty lq done 1 0 ∷ rest in
      let in_new = in_declared m up (made [] []) (one (identifier x) then one k then done) in
      let initial = in_initial m up (made [] []) (one (identifier x) then one k then done) in
      let whole_chain = whole-chain lp lq (one k) l in
      let rest_chain = whole-chain lp lq (one k) (made [] []) in
      let same_key = same-tree up old_key initial (in-key up (the_names m up) whole lq (one k then done) whole_chain) (in-initial m up (made [] []) (one (identifier x) then one k then done)) k in
      let same_value = same-tree up old_value new_value (in-value up (the_names m up) whole lq done whole_chain) (in-value up (the_names m up) rest lq done rest_chain) v in
      let names = temporary in_new (in-declared m up (made [] []) (one (identifier x) then one k then done)) in
      let earlier = same-trees up whole first whole_chain (first-chain lp lq (one k)) a in
      let later = same-trees up whole rest whole_chain rest_chain c in
      record {
        front = claims_all is_owned whole a;
        behind = claims is_owned old_key k ++ (claims is_owned old_value v ++ claims_all is_owned whole c);
        old = (λ i. (joined-lists whole a (node PatternProperty lq (one k then one v then done) before c) i ++ []) ++ []) ∙ key-old (claims_all is_owned whole a) (claims is_owned old_key k) (claims is_owned old_value v) (claims_all is_owned whole c);
        new = key-new (claims_all is_owned first a) (claims is_owned in_new (identifier x)) (claims is_owned initial k) (claims is_owned new_value v) (claims_all is_owned rest c) ∙ (λ i. earlier i ++ (names i ++ (same_key i ++ (same_value i ++ later i))));
      }

-- WHAT SPLITS OFF

splits-inserted : (m : Label) (up : List Ancestor) (w : Whole) (r : Role) (x : Text) (d : Tree) (es : Trees) → SplitsOff w r x d es → has_form s-VariableDeclarator d ≡ true → Inserted (temporary_names m up (next_name w x)) (claims is_owned (in_declaration m up) d) (claims_all is_owned (in_declaration m up) es)
splits-inserted m up w r x d es (source l p e holds fresh silent) f = source-inserted m up (next_name w x) l p e (declarator-parts l p e f).value
splits-inserted m up w r x d es (nested l lp lq ls a c k q holds fresh) f = nested-inserted m up (next_name w x) lp lq k l ls a c q
splits-inserted m up w r x d es (nested_default l lp lq la ls a c k q e holds fresh silent) f =
    let value : Tree = node AssignmentPattern la (one q then one e then done) in
    let property : Tree = node PatternProperty lq (k then one value then done) in
    let members = pattern-members lp (joined_trees a (property before c)) (declarator-parts l (pattern_node lp (joined_trees a (property before c))) (node Identifier ls done) f).target in
    let here = (rest-parts s-PatternMember s-PatternMemberRest a property c members).it in
    let default = default-parts la q e (property-value (sort_before_trees s-PatternMember s-PatternMemberRest c) lq k value here) in
    default-inserted m up (next_name w x) lp lq k l ls a c q la e default.value
splits-inserted m up w r x d es (key l lp lq ls a c k v fresh computed silent) f = key-inserted m up (next_name w x) l lp lq ls a c k v

inserted-wide : {used used' : Text → Bool} {ns gs hs : List (List Name)} → Wide used used' [] ns → Inserted ns gs hs → Wide used used' gs hs
inserted-wide {used} {used'} {ns} {gs} {hs} h i = subst (λ (xs : List (List Name)). Wide used used' xs hs) (sym i.old) (subst (λ (xs : List (List Name)). Wide used used' (i.front ++ i.behind) xs) (sym i.new) (wide-behind i.front (wide-before i.behind h)))

-- the declaration around
split-wide : {used used' : Text → Bool} (m : Label) (up : List Ancestor) (a c : Trees) (d : Tree) (es : Trees) → Wide used used' (claims is_owned (in_declaration m up) d) (claims_all is_owned (in_declaration m up) es) → Wide used used' (claims is_owned up (node VariableDeclaration m (many (joined_trees a (d before c)) then done))) (claims is_owned up (node VariableDeclaration m (many (joined_trees a (joined_trees es c)) then done)))
split-wide {used} {used'} m up a c d es h =
    let inside = in_declaration m up in
    let before_claims : claims_all is_owned inside (joined_trees a (d before c)) ≡ claims_all is_owned inside a ++ (claims is_owned inside d ++ claims_all is_owned inside c) = joined-lists inside a (d before c) in
    let after_claims : claims_all is_owned inside (joined_trees a (joined_trees es c)) ≡ claims_all is_owned inside a ++ (claims_all is_owned inside es ++ claims_all is_owned inside c) = joined-lists inside a (joined_trees es c) ∙ (λ i. claims_all is_owned inside a ++ joined-lists inside es c i) in
    wide-before []
    (subst (λ (xs : List (List Name)). Wide used used' xs (claims_all is_owned inside (joined_trees a (joined_trees es c)))) (sym before_claims)
    (subst (λ (xs : List (List Name)). Wide used used' (claims_all is_owned inside a ++ (claims is_owned inside d ++ claims_all is_owned inside c)) xs) (sym after_claims)
    (wide-behind (claims_all is_owned inside a) (wide-before (claims_all is_owned inside c) h))))

-- CLEAR

module _ (c : Around) where
  -- a key of a pattern, where an expression stands
  plain-stand : (k : AstType) (all : Fields) (i : ℕ) → stand_in plain_key k all i ≡ stand_in elsewhere k all i
  plain-stand ExportSpecifier all zero = refl
  plain-stand ExportSpecifier all (suc i) = refl
  plain-stand _ all i = refl

  plain-in : (gs : List (List Name)) (k : AstType) (all : Fields) (i : ℕ) (fs : Fields) → ClearIn c gs plain_key k all i fs → ClearIn c gs elsewhere k all i fs
  plain-in gs k all i done h = tt
  plain-in gs k all i (f then fs) h = (subst (λ (s : Stand). ClearBy (around_in c (in_class k i) gs) s f) (plain-stand k all i) h.0, plain-in gs k all (suc i) fs h.1)

  plain-clear : (t : Tree) → Clear c plain_key t → Clear c elsewhere t
  plain-clear (node PrivateIdentifier l fs) h = absurd (let no : true ≡ false = h.1 in cc no)
  plain-clear (node k l fs) h = (h.0, h.1, plain-in (owned elsewhere k l fs) k fs 0 fs h.2)

  splits-clear : (w : Whole) (r : Role) (x : Text) (d : Tree) (es : Trees) → SplitsOff w r x d es → Clear c elsewhere d → ClearAll c elsewhere es
  splits-clear w r x d es (source l p e holds fresh silent) h = ((tt, refl, ((tt, refl, tt), (h.2.1.0, tt))), ((tt, refl, (h.2.0, ((tt, refl, tt), tt))), tt))
  splits-clear w r x d es (nested l lp lq ls a b k q holds fresh) h =
      let it = identifier (next_name w x) in
      let parts = clear-parts c a (node PatternProperty lq (k then one q then done) before b) h.2.0.2.0 in
      let kept : Clear c elsewhere (node PatternProperty lq (k then one it then done)) = (tt, refl, (parts.1.0.2.0, ((tt, refl, tt), tt))) in
      ((tt, refl, ((tt, refl, (clear-joined c a (node PatternProperty lq (k then one it then done) before empty) parts.0 (kept, tt), tt)), ((tt, refl, tt), tt))), ((tt, refl, (parts.1.0.2.1.0, ((tt, refl, tt), tt))), front-clear c lp ls b (declares_some lp (node Identifier ls done) b) (front-some lp (node Identifier ls done) b) parts.1.1))
  splits-clear w r x d es (nested_default l lp lq la ls a b k q e holds fresh silent) h =
      let it = identifier (next_name w x) in
      let value : Tree = node AssignmentPattern la (one it then one e then done) in
      let parts = clear-parts c a (node PatternProperty lq (k then one (node AssignmentPattern la (one q then one e then done)) then done) before b) h.2.0.2.0 in
      let inside = parts.1.0.2.1.0.2 in
      let kept : Clear c elsewhere (node PatternProperty lq (k then one value then done)) = (tt, refl, (parts.1.0.2.0, ((tt, refl, ((tt, refl, tt), (inside.1.0, tt))), tt))) in
      ((tt, refl, ((tt, refl, (clear-joined c a (node PatternProperty lq (k then one value then done) before empty) parts.0 (kept, tt), tt)), ((tt, refl, tt), tt))), ((tt, refl, (inside.0, ((tt, refl, tt), tt))), front-clear c lp ls b (declares_some lp (node Identifier ls done) b) (front-some lp (node Identifier ls done) b) parts.1.1))
  splits-clear w r x d es (key l lp lq ls a b k v fresh computed silent) h =
      let it = identifier (next_name w x) in
      let parts = clear-parts c a (node PatternProperty lq (one k then one v then done) before b) h.2.0.2.0 in
      let kept : Clear c elsewhere (node PatternProperty lq (one it then one v then done)) = (tt, refl, ((tt, refl, tt), (parts.1.0.2.1.0, tt))) in
      ((tt, refl, ((tt, refl, (parts.0, tt)), ((tt, refl, tt), tt))), ((tt, refl, ((tt, refl, tt), (plain-clear k parts.1.0.2.0, tt))), ((tt, refl, ((tt, refl, ((kept, parts.1.1), tt)), ((tt, refl, tt), tt))), tt)))

pub split-names : WideLawful SplitRule
split-names = record { at_nodes = nodes }
  where
    nodes : (n : Site) (s s' : Ledger) (t u : Tree) (a : Sort) → SplitRule n s (at_node t) s' (at_node u) → has_form a t ≡ true → WideNode s s' t u
    nodes n s s' t u g (splits {w = w} m a c d es x free declares off) f =
        let b : Bound = next_name w x in
        let taken : AreTaken w.in_use w.free_symbol (b ∷ []) = ((free, refl), tt) in
        let new = taken-new w (b ∷ []) taken in
        let here = (first-formed s-VariableDeclarator d c (list-parts s-VariableDeclarator a (d before c) (declaration-parts g m (joined_trees a (d before c)) f)).1).0 in
        record {
          wide = λ up. split-wide m up a c d es (inserted-wide (wide-fresh (is_lexical (first_text m.texts)) (scopes up) x new.0.0 new.0.1) (splits-inserted m up w _ x d es off here));
          clear = λ k h y z more st q. clear-more k h more st u (replaced-clear k st m a c d es (splits-clear k w _ x d es off) q);
          name = refl;
          key = λ z. z;
          imports = refl;
          beside = record { pending = refl; this = refl; top = refl; more = λ y z. used-after (b ∷ []) w.in_use y z };
        }
