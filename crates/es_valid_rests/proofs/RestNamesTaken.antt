-- Object rests that are taken in a declaration: the rules of declared names are kept, and the same names are declared.
use Rattle.std.proofs.Common.{◌≡◌, ℕ, suc, refl, sym, subst, ◌∙◌, List, [], ◌∷◌, ◌++◌, map}
use Rattle.std.specs.Prelude.{true, false, codes}
use Rattle.es_tree.specs.Ancestors.{Ancestor}
use Rattle.es_tree.specs.DeclaredNames.{Name, declaration_names}
use Rattle.es_tree.specs.HasForm.{has_form}
use Rattle.es_tree.specs.Tree.{Tree, node, Label, Fields, done, ◌then◌, one, many, Trees, empty, ◌before◌, fields}
use Rattle.es_tree.specs.Words.{Text}
use Rattle.es_tree.specs.declared.ast_type.AstType.TheVariants.{ArrayExpression, CallExpression, Identifier, MemberExpression, ObjectPattern, RestElement, VariableDeclaration, VariableDeclarator}
use Rattle.es_tree.specs.declared.table.Sort.{Sort}
use Rattle.es_tree.specs.declared.table.Sort.TheVariants.{Expression as s-Expression}
use Rattle.es_steps.specs.Nodes.{array_node, call_node, declarator_with, joined_trees, made, member_node, string_node}
use Rattle.es_steps.specs.ObjectRest.{AreKeys, IsKey, RestOf, TakesRest, and_declarator, declares_as, helper_node, pattern_node}
use Rattle.es_steps.specs.ObjectRest.IsKey.{name_key, text_key}
use Rattle.es_steps.specs.ObjectRest.RestOf.{alone, beside, mapped}
use Rattle.es_steps.specs.ObjectRest.TakesRest.{takes_rest}
use Rattle.es_steps.specs.Slots.{is_slot}
use Rattle.es_steps.specs.Steps.{Ledger, Site}
use Rattle.es_steps.specs.Steps.Spot.{at_node}
use Rattle.es_steps.proofs.FormRules.{no-names}
use Rattle.es_steps.proofs.Fronts.{Front, front-of}
use Rattle.es_steps.proofs.Fronts.Front.{of_none, of_some}
use Rattle.es_steps.proofs.Taken.{pending_in}
use Rattle.es_steps.proofs.TakesRest.{texts-are-keys}
use Rattle.es_valid_names.proofs.Claims.{Around, Clear, ClearAll, ClearIn, Stand, above, around_in, claims, claims_all, claims_in, elsewhere, in_body, is_owned, owned, stand_in}
use Rattle.es_valid_names.proofs.ClearPending.{joined-claims}
use Rattle.es_valid_names.proofs.ClearRules.{NameLawful, NodeKept, use_in}
use Rattle.es_valid_names.proofs.Grown.{Grown, grown-self}
use Rattle.es_valid_names.proofs.MoreAround.{clear-more}
use Rattle.es_valid_rests.proofs.RestNamesLists.{Chain, in-pattern, in-rest, no_names, front-new, last-new, same-tree, same-trees, taken-old}

-- A LIST with others before it

pub joined-lists : (up : List Ancestor) (bs ts : Trees) → claims_all is_owned up (joined_trees bs ts) ≡ claims_all is_owned up bs ++ claims_all is_owned up ts
joined-lists up bs ts = joined-claims (λ x. true) (λ x. true) up bs ts

module _ (c : Around) where
  pub clear-parts : (bs ts : Trees) → ClearAll c elsewhere (joined_trees bs ts) → ClearAll c elsewhere bs × ClearAll c elsewhere ts
  clear-parts empty ts h = (tt, h)
  clear-parts (b before bs) ts h = let rest = clear-parts bs ts h.1 in ((h.0, rest.0), rest.1)

  pub clear-joined : (bs ts : Trees) → ClearAll c elsewhere bs → ClearAll c elsewhere ts → ClearAll c elsewhere (joined_trees bs ts)
  clear-joined empty ts h k = k
  clear-joined (b before bs) ts h k = (h.0, clear-joined bs ts h.1 k)

-- THE DECLARATION around

module _ (m : Label) (up : List Ancestor) where
  abbrev pub in_declaration : List Ancestor
  in_declaration = above VariableDeclaration m (many empty then done) 0 0 ∷ up

  abbrev pub the_names : Text → List Name
  the_names x = declaration_names in_declaration x

  abbrev pub in_declared : Label → Fields → List Ancestor
  in_declared l fs = above VariableDeclarator l fs 0 0 ∷ in_declaration

  abbrev pub in_initial : Label → Fields → List Ancestor
  in_initial l fs = above VariableDeclarator l fs 1 0 ∷ in_declaration

  pub in-declared : (l : Label) (fs : Fields) → Chain up the_names (in_declared l fs)
  in-declared l fs = record { module_around = refl; top = refl; clause = refl; scoped = refl; key = refl; parent = refl; declares = λ x. refl; bound = λ x. refl }

  pub in-initial : (l : Label) (fs : Fields) → Chain up no_names (in_initial l fs)
  in-initial l fs = record { module_around = refl; top = refl; clause = refl; scoped = refl; key = refl; parent = refl; declares = λ x. refl; bound = λ x. refl }

-- THE CALL of the helper declares nothing

abbrev keys : List Tree → Fields
keys ks = fields (map one ks)

module _ (ds : Trees) where
  key-silent : (up : List Ancestor) (l : Label) (all : Fields) (i : ℕ) (k : Tree) → IsKey ds k → claims is_owned (above ArrayExpression l all i 0 ∷ up) k ≡ []
  key-silent up l all i k (text_key x) = refl
  key-silent up l all i k (name_key m lp lq lk xs ys a c v e d computed) = refl

  keys-silent : (up : List Ancestor) (l : Label) (all : Fields) (i : ℕ) (ks : List Tree) → AreKeys ds ks → claims_in is_owned up ArrayExpression l all 0 i (keys ks) ≡ []
  keys-silent up l all i [] h = refl
  keys-silent up l all i (k ∷ ks) h = λ j. key-silent up l all i k h.0 j ++ keys-silent up l all (suc i) ks h.1 j

  value-silent : (us : List Ancestor) (lp ls : Label) (ps fs : Trees) (e : Tree) → RestOf ds lp (node Identifier ls done) ps fs e → claims is_owned us e ≡ []
  value-silent us lp ls ps fs e (beside ks) =
      let texts = map string_node ks in
      λ i. (keys-silent (above CallExpression (made [] (false ∷ [])) done 1 0 ∷ us) (made [] []) (keys texts) 0 texts (texts-are-keys ds ks) i ++ []) ++ []
  value-silent us lp ls ps fs e (mapped ks h) =
      let in_call = above CallExpression (made [] (false ∷ [])) done 0 0 ∷ above CallExpression (made [] (false ∷ [])) done 1 0 ∷ us in
      λ i. (((keys-silent (above MemberExpression (made [] (false ∷ false ∷ [])) done 0 0 ∷ in_call) (made [] []) (keys ks) 0 ks h i ++ []) ++ []) ++ []) ++ []
  value-silent us lp ls ps fs e alone = refl

  key-clear : (c : Around) (gs : List (List Name)) (all : Fields) (i : ℕ) (k : Tree) → IsKey ds k → Clear (around_in c (in_body ArrayExpression i) gs) (stand_in elsewhere ArrayExpression all i) k
  key-clear c gs all i k (text_key x) = (tt, refl, tt)
  key-clear c gs all i k (name_key l lp lq lk xs ys a b v e d computed) = (tt, refl, tt)

  keys-clear : (c : Around) (gs : List (List Name)) (all : Fields) (i : ℕ) (ks : List Tree) → AreKeys ds ks → ClearIn c gs elsewhere ArrayExpression all i (keys ks)
  keys-clear c gs all i [] h = tt
  keys-clear c gs all i (k ∷ ks) h = (key-clear c gs all i k h.0, keys-clear c gs all (suc i) ks h.1)

  value-clear : (c : Around) (lp ls : Label) (ps fs : Trees) (e : Tree) → RestOf ds lp (node Identifier ls done) ps fs e → Clear c elsewhere e
  value-clear c lp ls ps fs e (beside ks) =
      let texts = map string_node ks in
      (tt, refl, ((tt, refl, ((tt, refl, tt), ((tt, refl, tt), tt))), (((tt, refl, tt), ((tt, refl, keys-clear c (owned elsewhere ArrayExpression (made [] []) (keys texts)) (keys texts) 0 texts (texts-are-keys ds ks)), tt)), tt)))
  value-clear c lp ls ps fs e (mapped ks h) =
      let helper : Clear c elsewhere (helper_node (codes "toPropertyKey")) = (tt, refl, ((tt, refl, tt), ((tt, refl, tt), tt))) in
      let member : Clear c elsewhere (member_node (array_node ks) (codes "map")) = (tt, refl, ((tt, refl, keys-clear c (owned elsewhere ArrayExpression (made [] []) (keys ks)) (keys ks) 0 ks h), ((tt, refl, tt), tt))) in
      let called : Clear c elsewhere (call_node (member_node (array_node ks) (codes "map")) (helper_node (codes "toPropertyKey") ∷ [])) = (tt, refl, (member, ((helper, tt), tt))) in
      (tt, refl, ((tt, refl, ((tt, refl, tt), ((tt, refl, tt), tt))), (((tt, refl, tt), (called, tt)), tt)))
  value-clear c lp ls ps fs e alone =
      let empties : Clear c elsewhere (call_node (helper_node (codes "objectDestructuringEmpty")) (node Identifier ls done ∷ [])) = (tt, refl, ((tt, refl, ((tt, refl, tt), ((tt, refl, tt), tt))), (((tt, refl, tt), tt), tt))) in
      (tt, refl, ((tt, refl, ((tt, refl, tt), ((tt, refl, tt), tt))), (((tt, refl, (tt, tt)), ((tt, refl, ((empties, ((tt, refl, tt), tt)), tt)), tt)), tt)))

pub front-clear : (c : Around) (lp ls : Label) (ps fs : Trees) → Front lp (node Identifier ls done) ps fs → ClearAll c elsewhere ps → ClearAll c elsewhere fs
front-clear c lp ls ps fs of_some h = ((tt, refl, ((tt, refl, (h, tt)), ((tt, refl, tt), tt))), tt)
front-clear c lp ls ps fs of_none h = tt

-- RESTS

-- what stands in front declares what the other properties do, wherever they were
pub front-claims : (m lp ls : Label) (up us : List Ancestor) → Chain up (the_names m up) us → (ps fs : Trees) → Front lp (node Identifier ls done) ps fs → claims_all is_owned (in_declaration m up) fs ≡ claims_all is_owned us ps
front-claims m lp ls up us h ps fs of_some =
    let there : Fields = one (pattern_node lp ps) then one (node Identifier ls done) then done in
    let in_new : List Ancestor = above ObjectPattern lp (many ps then done) 0 0 ∷ in_declared m up (made [] []) there in
    front-new (claims_all is_owned in_new ps) ∙ same-trees up us in_new h (in-pattern up (the_names m up) _ lp (many ps then done) (in-declared m up (made [] []) there)) ps
front-claims m lp ls up us h ps fs of_none = refl

module _ (ds : Trees) (m l lp lr ls : Label) (ps : Trees) (t : Tree) (up : List Ancestor) where
  abbrev source : Tree
  source = node Identifier ls done

  abbrev rest : Tree
  rest = node RestElement lr (one t then done)

  abbrev pattern : Fields
  pattern = many (joined_trees ps (rest before empty)) then done

  -- the pattern as it was
  abbrev in_old : List Ancestor
  in_old = above ObjectPattern lp pattern 0 0 ∷ in_declared m up l (one (node ObjectPattern lp pattern) then one source then done)

  abbrev in_old_rest : List Ancestor
  in_old_rest = above RestElement lr (one t then done) 0 0 ∷ in_old

  old-chain : Chain up (the_names m up) in_old
  old-chain = in-pattern up (the_names m up) _ lp pattern (in-declared m up l (one (node ObjectPattern lp pattern) then one source then done))

  last-claims : (fs : Trees) (e : Tree) → RestOf ds lp source ps fs e → claims_all is_owned (in_declaration m up) (declarator_with t e before empty) ≡ claims is_owned in_old_rest t
  last-claims fs e r =
      let there : Fields = one t then one e then done in
      last-new (claims is_owned (in_declared m up (made [] []) there) t) (claims is_owned (in_initial m up (made [] []) there) e) (value-silent ds (in_initial m up (made [] []) there) lp ls ps fs e r) ∙
      same-tree up in_old_rest (in_declared m up (made [] []) there) (in-rest up (the_names m up) in_old lr (one t then done) old-chain) (in-declared m up (made [] []) there) t

  taken-claims : (fs : Trees) (e : Tree) → RestOf ds lp source ps fs e → claims is_owned (in_declaration m up) (declares_as l (node ObjectPattern lp pattern) source) ≡ claims_all is_owned (in_declaration m up) (and_declarator fs t e)
  taken-claims fs e r =
      (λ i. (joined-lists in_old ps (rest before empty) i ++ []) ++ []) ∙ taken-old (claims_all is_owned in_old ps) (claims is_owned in_old_rest t) ∙
      sym (joined-lists (in_declaration m up) fs (declarator_with t e before empty) ∙ (λ i. front-claims m lp ls up in_old old-chain ps fs (front-of ds lp source ps fs e r) i ++ last-claims fs e r i))

-- A declarator in the place of which others come

module _ (m : Label) (up : List Ancestor) (a c : Trees) where
  pub replaced-claims : (d : Tree) (es : Trees) → claims is_owned (in_declaration m up) d ≡ claims_all is_owned (in_declaration m up) es → claims is_owned up (node VariableDeclaration m (many (joined_trees a (d before c)) then done)) ≡ claims is_owned up (node VariableDeclaration m (many (joined_trees a (joined_trees es c)) then done))
  replaced-claims d es e =
      let inside = in_declaration m up in
      let list : claims_all is_owned inside (joined_trees a (d before c)) ≡ claims_all is_owned inside (joined_trees a (joined_trees es c)) = joined-lists inside a (d before c) ∙ (λ i. claims_all is_owned inside a ++ ((λ j. e j ++ claims_all is_owned inside c) ∙ sym (joined-lists inside es c)) i) ∙ sym (joined-lists inside a (joined_trees es c)) in
      λ i. list i ++ []

pub replaced-clear : (c : Around) (st : Stand) (m : Label) (a b : Trees) (d : Tree) (es : Trees) → (Clear c elsewhere d → ClearAll c elsewhere es) → Clear c st (node VariableDeclaration m (many (joined_trees a (d before b)) then done)) → Clear c st (node VariableDeclaration m (many (joined_trees a (joined_trees es b)) then done))
replaced-clear c st m a b d es f h =
    let parts = clear-parts c a (d before b) h.2.0 in
    (tt, refl, (clear-joined c a (joined_trees es b) parts.0 (clear-joined c es b (f parts.1.0) parts.1.1), tt))

pub takes-names : NameLawful TakesRest
takes-names = record { at_nodes = nodes }
  where
    clears : (c : Around) (l lp lr ls : Label) (ds ps fs : Trees) (t e : Tree) → RestOf ds lp (node Identifier ls done) ps fs e → Clear c elsewhere (declares_as l (pattern_node lp (joined_trees ps (node RestElement lr (one t then done) before empty))) (node Identifier ls done)) → ClearAll c elsewhere (and_declarator fs t e)
    clears c l lp lr ls ds ps fs t e r h =
        let parts = clear-parts c ps (node RestElement lr (one t then done) before empty) h.2.0.2.0 in
        clear-joined c fs (declarator_with t e before empty) (front-clear c lp ls ps fs (front-of ds lp (node Identifier ls done) ps fs e r) parts.0) ((tt, refl, (parts.1.0.2.0, (value-clear ds c lp ls ps fs e r, tt))), tt)

    nodes : (n : Site) (s s' : Ledger) (t u : Tree) (a : Sort) → (is_slot n.above ≡ true → a ≡ s-Expression) → TakesRest n s (at_node t) s' (at_node u) → has_form a t ≡ true → has_form a u ≡ true → NodeKept s s' t u
    nodes n s s' t u a slot (takes_rest {fs = fs} {e = e} m l lp lr ls xs ps cs v r unbound used) f formed =
        let d = declares_as l (pattern_node lp (joined_trees ps (node RestElement lr (one v then done) before empty))) (node Identifier ls done) in
        let es = and_declarator fs v e in
        let same = λ (up : List Ancestor). replaced-claims m up xs cs d es (taken-claims (joined_trees xs (d before empty)) m l lp lr ls ps v up fs e r) in
        record {
          grown = λ up. subst (λ (gs : List (List Name)). Grown (use_in s) (use_in s') (claims is_owned up t) gs) (same up) (grown-self (claims is_owned up t));
          clear = λ c g h k more st z. clear-more c g more st u (replaced-clear c st m xs cs d es (clears c l lp lr ls (joined_trees xs (d before empty)) ps fs v e r) z);
          name = refl;
          key = λ z. z;
          imports = refl;
          inside = refl;
          names = record { names = []; pending = no-names (pending_in s); this = refl; top = refl; fresh = tt; more = λ y z. z };
        }
