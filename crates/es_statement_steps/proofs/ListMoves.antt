-- Lists of statements, with what is pending for them: the same but at a place, and but for temporaries that are declared before them.
use Rattle.std.proofs.Common.{◌≡◌, refl, sym, subst, List, [], ◌∷◌, ◌++◌}
use Rattle.std.specs.Prelude.{Bool, true, false, Option, None, codes, map, if◌then◌else◌}
use Rattle.es_tree.specs.Scopes.{Declared}
use Rattle.es_tree.specs.Tree.{Tree, node, ◌then◌, Trees, empty, ◌before◌, kind_of, trees}
use Rattle.es_tree.specs.Words.{Text}
use Rattle.es_tree.specs.declared.ast_type.AstType.{AstType}
use Rattle.es_tree.specs.declared.ast_type.AstType.TheVariants.{ImportDeclaration}
use Rattle.es_runs.specs.Alike.{the_value}
use Rattle.es_resolution.specs.Declarations.{Bound}
use Rattle.es_steps.specs.Nodes.{declarator, joined_trees}
use Rattle.es_steps.specs.Open.{Additions, Pending, after_imports, declaration, is_import, no_additions, whole_list, with_vars}
use Rattle.es_steps.proofs.FormLists.{IsPlainList}
use Rattle.es_statement_runs.specs.BareVars.{GrownDeclarators}
use Rattle.es_statement_runs.specs.BareVars.GrownDeclarators.{as_named, none_grown, one_grown}
use Rattle.es_statement_runs.specs.Laws.{among_names}
use Rattle.es_statement_runs.specs.Places.{Take, take}
use Rattle.es_statement_runs.proofs.Moved.{BothMute, Moved, MovedList, MovedTrees, Room, is_mute}
use Rattle.es_statement_runs.proofs.Moved.Moved.{moved_block, moved_case, moved_node, moved_place}
use Rattle.es_statement_runs.proofs.Moved.MovedList.{moved_end, moved_grown, moved_new, moved_statement}
use Rattle.es_statement_runs.proofs.Moved.MovedTrees.{moved_before, moved_empty}

-- what is pending for a list, where temporaries alone are
abbrev vars : List Bound → Trees
vars bs = declaration (codes "var") (map declarator bs) empty

abbrev pub AllFresh : (Text → Bool) → List Bound → Type 0
AllFresh fresh [] = Unit {0}
AllFresh fresh (b ∷ bs) = (fresh b.name ≡ true) × AllFresh fresh bs

new-declarators : (fresh : Text → Bool) (cs : List Bound) → AllFresh fresh cs → GrownDeclarators fresh empty (trees (map declarator cs))
new-declarators fresh [] h = none_grown
new-declarators fresh (c ∷ cs) h = one_grown h.0 (new-declarators fresh cs h.1)

more-declarators : (fresh : Text → Bool) (bs cs : List Bound) → AllFresh fresh cs → GrownDeclarators fresh (trees (map declarator bs)) (trees (map declarator bs ++ map declarator cs))
more-declarators fresh [] cs h = new-declarators fresh cs h
more-declarators fresh (b ∷ bs) cs h = as_named refl (more-declarators fresh bs cs h)

module _ (xs : List Text) (R : List Declared → Take → Tree → Tree → Type 0) (mute : (ds : List Declared) (t : Take) (a b : Tree) → R ds t a b → BothMute xs a b) where
  mute-import : (t : Tree) → is_mute (kind_of t) ≡ true → is_import t ≡ false
  mute-import (node ImportDeclaration l fs) h = absurd (cc h)
  mute-import (node k l fs) h = at k h
    where
      at : (k : AstType) → is_mute k ≡ true → is_import (node k l fs) ≡ false
      at ImportDeclaration h = absurd (cc h)
      at _ h = refl

  import-kept : {r : Room} {ds : List Declared} {t : Take} {a b : Tree} → Moved (among_names xs) R r ds t a b → is_import b ≡ is_import a
  import-kept (moved_place {ds = ds} {t = t} {a = a} {b = b} e h) = let m = mute ds t a b h in rw (mute-import a m.first, mute-import b m.second) refl
  import-kept (moved_node e i h) = refl
  import-kept (moved_block e h) = refl
  import-kept (moved_case e g h) = refl

  list-of : {r : Room} {ds : List Declared} {more : Bool} {ts us : Trees} → MovedTrees (among_names xs) R r ds (take the_value more) ts us → MovedList (among_names xs) R r ds more ts us
  list-of moved_empty = moved_end
  list-of (moved_before h hs) = moved_statement h (list-of hs)

  -- the temporaries before a list
  vars-before : (bs cs : List Bound) → AllFresh (among_names xs) cs → {r : Room} {ds : List Declared} {more : Bool} {ts us : Trees} → MovedList (among_names xs) R r ds more ts us →
      MovedList (among_names xs) R r ds more (joined_trees (vars bs) ts) (joined_trees (declaration (codes "var") (map declarator bs ++ map declarator cs) empty) us)
  vars-before [] [] f h = h
  vars-before [] (c ∷ cs) f h = moved_new refl (new-declarators (among_names xs) (c ∷ cs) f) h
  vars-before (b ∷ bs) cs f h = moved_grown refl refl (more-declarators (among_names xs) (b ∷ bs) cs f) h

  -- a list with what is pending for it
  pub list-moved : (bs cs : List Bound) → AllFresh (among_names xs) cs → {r : Room} {ds : List Declared} {more : Bool} {ts us : Trees} → MovedTrees (among_names xs) R r ds (take the_value more) ts us →
      MovedList (among_names xs) R r ds more (after_imports (vars bs) ts) (after_imports (declaration (codes "var") (map declarator bs ++ map declarator cs) empty) us)
  list-moved bs cs f moved_empty = joined-end bs cs f
    where
      joined-end : (bs cs : List Bound) → AllFresh (among_names xs) cs → {r : Room} {ds : List Declared} {more : Bool} → MovedList (among_names xs) R r ds more (vars bs) (declaration (codes "var") (map declarator bs ++ map declarator cs) empty)
      joined-end [] [] f = moved_end
      joined-end [] (c ∷ cs) f = moved_new refl (new-declarators (among_names xs) (c ∷ cs) f) moved_end
      joined-end (b ∷ bs) cs f = moved_grown refl refl (more-declarators (among_names xs) (b ∷ bs) cs f) moved_end
  list-moved bs cs f {r = r} {ds = ds} {more = more} (moved_before {a = a} {b = b} {ts = ts} {us = us} h hs) = at (is_import a) (is_import b) (import-kept h) (list-moved bs cs f hs)
    where
      at : (v w : Bool) → w ≡ v → MovedList (among_names xs) R r ds more (after_imports (vars bs) ts) (after_imports (declaration (codes "var") (map declarator bs ++ map declarator cs) empty) us) →
          MovedList (among_names xs) R r ds more (if v then a before after_imports (vars bs) ts else joined_trees (vars bs) (a before ts)) (if w then b before after_imports (declaration (codes "var") (map declarator bs ++ map declarator cs) empty) us else joined_trees (declaration (codes "var") (map declarator bs ++ map declarator cs) empty) (b before us))
      at true true e g = moved_statement h g
      at true false e g = absurd (cc e)
      at false true e g = absurd (cc e)
      at false false e g = vars-before bs cs f (moved_statement h (list-of hs))

  -- as it is written with the names that are put in
  pub whole-moved : (p q : Pending) (y : Option Bound) (a : Additions) (put : List Bound) → IsPlainList p y a → q ≡ with_vars put p → AllFresh (among_names xs) put → {r : Room} {ds : List Declared} {more : Bool} {ts us : Trees} → MovedTrees (among_names xs) R r ds (take the_value more) ts us →
      MovedList (among_names xs) R r ds more (whole_list p y a ts) (whole_list q y a us)
  whole-moved p q y a put plain e f {r = r} {ds = ds} {more = more} {ts = ts} {us = us} h =
      subst (λ (q : Pending). MovedList (among_names xs) R r ds more (whole_list p y a ts) (whole_list q y a us)) (sym e)
      (subst (λ (y : Option Bound). MovedList (among_names xs) R r ds more (whole_list p y a ts) (whole_list (with_vars put p) y a us)) (sym plain.this)
      (subst (λ (a : Additions). MovedList (among_names xs) R r ds more (whole_list p None a ts) (whole_list (with_vars put p) None a us)) (sym plain.top)
      (subst (λ (p : Pending). MovedList (among_names xs) R r ds more (whole_list p None no_additions ts) (whole_list (with_vars put p) None no_additions us)) (sym plain.vars.are)
      (list-moved plain.vars.names put f h))))
