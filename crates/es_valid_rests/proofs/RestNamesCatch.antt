-- Patterns with an object rest that move out of a catch clause: the rules of declared names are kept.
use Rattle.std.proofs.Common.{◌≡◌, ℕ, refl, sym, subst, ◌∙◌, List, [], ◌∷◌, ◌++◌, filter}
use Rattle.std.specs.Prelude.{Bool, true, false, not, Some, codes}
use Rattle.std.proofs.lemmas.List.{append-nil}
use Rattle.es_tree.specs.Ancestors.{Ancestor}
use Rattle.es_tree.specs.Children.{child_at}
use Rattle.es_tree.specs.CoreStaticRules.{is_name}
use Rattle.es_tree.specs.DeclaredNames.{Name, declaration_names, bound_names, name}
use Rattle.es_tree.specs.HasForm.{has_form}
use Rattle.es_tree.specs.Tree.{Tree, node, Label, Fields, done, ◌then◌, one, many, statements, Trees, empty, ◌before◌, kind_of}
use Rattle.es_tree.specs.Words.{Text}
use Rattle.es_tree.specs.declared.ast_type.AstType.TheVariants.{BlockStatement, CatchClause, Identifier, MethodDefinition, PropertyDefinition, VariableDeclaration, VariableDeclarator}
use Rattle.es_tree.specs.declared.place.Namespace.TheVariants.{Scope}
use Rattle.es_tree.specs.declared.table.Sort.{Sort}
use Rattle.es_tree.specs.declared.table.Sort.TheVariants.{Expression as s-Expression}
use Rattle.es_resolution.specs.Declarations.{Bound}
use Rattle.es_semantic.proofs.FormEdges.{EdgesAll}
use Rattle.es_steps.specs.CatchPatterns.{CatchRest}
use Rattle.es_steps.specs.CatchPatterns.CatchRest.{moves}
use Rattle.es_steps.specs.Nodes.{block_node, declarator_with, identifier, made}
use Rattle.es_steps.specs.Patterns.{holds_rest, let_statement}
use Rattle.es_steps.specs.Rules.{next_name}
use Rattle.es_steps.specs.Slots.{is_slot}
use Rattle.es_steps.specs.Steps.{Ledger, Site}
use Rattle.es_steps.specs.Steps.Spot.{at_node}
use Rattle.es_steps.proofs.FormRules.{no-names}
use Rattle.es_steps.proofs.RuleLaws.{used-after}
use Rattle.es_steps.proofs.Temporaries.{AreTaken}
use Rattle.es_valid_names.proofs.Claims.{Clear, Distinct, above, catch_body, claims, claims_all, elsewhere, is_owned, name_or_none}
use Rattle.es_valid_names.proofs.ClearRules.{NameLawful, NodeKept, taken-new, use_in}
use Rattle.es_valid_names.proofs.Grown.{Grown, IsNew, grown-self, still-distinct}
use Rattle.es_valid_names.proofs.MoreAround.{clear-more, clear-more-all}
use Rattle.es_valid_names.proofs.Mute.{class-edges, in_classes, is_member}
use Rattle.es_valid_names.proofs.OneMore.{one-apart}
use Rattle.es_valid_names.proofs.OneMore.OneMore.{now}
use Rattle.es_valid_rests.proofs.RestNamesParts.{Part, Parts, part-self, parts-both, parts-distinct, parts-none, same-parts}
use Rattle.es_valid_rests.proofs.RestNamesParts.Part.{none, drop}
use Rattle.es_valid_rests.proofs.RestNamesParts.Parts.{no_list}
use Rattle.es_valid_rests.proofs.RestNamesAround.{Fit, NoMembers, claims-all-fit, owned-self, plain-all-fit, plain-fit, plain-private}
use Rattle.es_valid_rests.proofs.RestNamesAround.Parent.{same_parent}

-- PATTERNS with a rest

pub record IsPattern (p : Tree) : Type 0 where
  pub name : is_name (Some p) ≡ false
  pub member : is_member (kind_of p) ≡ false

pub rest-pattern : (p : Tree) → holds_rest p ≡ true → IsPattern p
rest-pattern (node Identifier l fs) h = absurd (cc h)
rest-pattern (node MethodDefinition l fs) h = absurd (cc h)
rest-pattern (node PropertyDefinition l fs) h = absurd (cc h)
rest-pattern (node _ l fs) h = record { name = refl; member = refl }

-- STATEMENTS of a block are no members of a class

not-true : (b : Bool) → not b ≡ true → b ≡ false
not-true true e = absurd (cc e)
not-true false e = refl

pub block-members : (ts : Trees) → EdgesAll in_classes BlockStatement 0 ts → NoMembers ts
block-members empty h = tt
block-members (node k l fs before ts) h = (not-true (is_member k) h.0.0, block-members ts h.1)

-- LISTS of a made block with a declaration of one declarator

pub joined-block : (gs hs : List (List Name)) → ((((gs ++ []) ++ []) ++ []) ++ (hs ++ [])) ++ [] ≡ gs ++ hs
joined-block gs hs = append-nil _ ∙ (λ i. (append-nil (append-nil (append-nil gs i) i) i) ++ append-nil hs i)

-- CATCH CLAUSES

module _ (m l : Label) (p : Tree) (bs : Trees) (b : Bound) (plain : is_name (Some p) ≡ false) where
  abbrev inner : Tree
  inner = node BlockStatement l (statements bs then done)

  abbrev old : Fields
  old = one p then one inner then done

  abbrev block_fields : Fields
  block_fields = statements (let_statement p b before inner before empty) then done

  abbrev new : Fields
  new = one (identifier b) then one (block_node (let_statement p b before inner before empty)) then done

  abbrev in_param : ℕ → List Ancestor → List Ancestor
  in_param i up = above CatchClause m old 0 i ∷ up

  abbrev in_list : ℕ → List Ancestor → List Ancestor
  in_list i up = above BlockStatement l (statements bs then done) 0 0 ∷ (above CatchClause m old 1 i ∷ up)

  -- the made block, in a clause or in what stands for one
  abbrev in_made : ℕ → Ancestor → List Ancestor → List Ancestor
  in_made j c up = above BlockStatement (made [] []) block_fields 0 j ∷ (c ∷ up)

  abbrev moved_param : List Ancestor → List Ancestor
  moved_param up = above VariableDeclarator (made [] []) (one p then one (identifier b) then done) 0 0 ∷ (above VariableDeclaration (made (Some (codes "let") ∷ []) []) (many (declarator_with p (identifier b) before empty) then done) 0 0 ∷ up)

  abbrev moved_list : List Ancestor → List Ancestor
  moved_list up = above BlockStatement l (statements bs then done) 0 0 ∷ up

  -- the names of the pattern are declared by the same scope
  named : (i : ℕ) (up : List Ancestor) (x : Text) → bound_names (in_param i up) x ≡ declaration_names (above VariableDeclaration (made (Some (codes "let") ∷ []) []) (many (declarator_with p (identifier b) before empty) then done) 0 0 ∷ in_made 0 (above CatchClause m old 1 i) up) x
  named i up x = at (is_name (Some p)) plain
    where
      at : (v : Bool) → v ≡ false → name Scope i x (not (is_name (child_at 0 (name_or_none v)))) ∷ [] ≡ name Scope i x true ∷ []
      at true e = absurd (cc e)
      at false e = refl

  param-fit : {loose : Bool} (i : ℕ) (up : List Ancestor) → Fit loose (in_param i up) (moved_param (in_made 0 (above CatchClause m old 1 i) up))
  param-fit {loose} i up = record {
    module_around = refl;
    top = refl;
    clause = refl;
    hoisted = part-self _;
    first = part-self _;
    bound = λ x. subst (λ (ns : List Name). Part loose (filter is_owned (bound_names (in_param i up) x)) (filter is_owned ns)) (named i up x) (owned-self (bound_names (in_param i up) x));
    declares = λ x. none;
    private = λ x. plain-private (in_param i up) (moved_param (in_made 0 (above CatchClause m old 1 i) up)) refl refl x;
  }

  list-fit : (up : List Ancestor) → Fit false (in_list 0 up) (moved_list (in_made 0 (above CatchClause m old 1 0) up))
  list-fit up = record {
    module_around = refl;
    top = refl;
    clause = refl;
    hoisted = part-self _;
    first = part-self _;
    bound = λ x. none;
    declares = λ x. none;
    private = λ x. plain-private (in_list 0 up) (moved_list (in_made 0 (above CatchClause m old 1 0) up)) refl refl x;
  }

  -- what the block declares lexically is its own
  own-list-fit : Fit true (in_list 1 []) (moved_list (in_made 0 (above CatchClause m old 1 1) []))
  own-list-fit = record {
    module_around = refl;
    top = refl;
    clause = refl;
    hoisted = part-self _;
    first = drop 1 refl none;
    bound = λ x. none;
    declares = λ x. none;
    private = λ x. plain-private (in_list 1 []) (moved_list (in_made 0 (above CatchClause m old 1 1) [])) refl refl x;
  }

  inner-fit : Fit true (in_list 1 []) (above BlockStatement l (statements bs then done) 0 1 ∷ [])
  inner-fit = record {
    module_around = refl;
    top = refl;
    clause = refl;
    hoisted = part-self _;
    first = part-self _;
    bound = λ x. none;
    declares = λ x. none;
    private = λ x. plain-private (in_list 1 []) (above BlockStatement l (statements bs then done) 0 1 ∷ []) refl refl x;
  }

  -- the made block, which is no scope, has nothing of its own
  made-param-fit : Fit true (in_param 1 []) (moved_param (in_made 1 catch_body []))
  made-param-fit = record {
    module_around = refl;
    top = refl;
    clause = refl;
    hoisted = drop 1 refl none;
    first = drop 1 refl none;
    bound = λ x. drop _ refl none;
    declares = λ x. none;
    private = λ x. plain-private (in_param 1 []) (moved_param (in_made 1 catch_body [])) refl refl x;
  }

  made-list-fit : Fit true (in_list 1 []) (moved_list (in_made 1 catch_body []))
  made-list-fit = record {
    module_around = refl;
    top = refl;
    clause = refl;
    hoisted = drop 1 refl none;
    first = drop 1 refl none;
    bound = λ x. none;
    declares = λ x. none;
    private = λ x. plain-private (in_list 1 []) (moved_list (in_made 1 catch_body [])) refl refl x;
  }

  -- what is declared around is the same

  abbrev ParamClaims : List (List Name)
  ParamClaims = claims is_owned (in_param 1 []) p

  abbrev ListClaims : List (List Name)
  ListClaims = claims_all is_owned (in_list 1 []) bs

  module _ (member : is_member (kind_of p) ≡ false) where
    same-claims : (up : List Ancestor) → claims is_owned up (node CatchClause m new) ≡ claims is_owned up (node CatchClause m old)
    same-claims up =
        let c = above CatchClause m old 1 0 in
        let params = same-parts (plain-fit (in_param 0 up) (moved_param (in_made 0 c up)) (param-fit 0 up) p member) in
        let lists = same-parts (claims-all-fit (in_list 0 up) (moved_list (in_made 0 c up)) (list-fit up) (same_parent refl) bs) in
        append-nil _ ∙ joined-block (claims is_owned (moved_param (in_made 0 c up)) p) (claims_all is_owned (moved_list (in_made 0 c up)) bs ++ []) ∙ (λ i. params i ++ (lists i ++ [])) ∙ sym (λ i. claims is_owned (in_param 0 up) p ++ append-nil (claims_all is_owned (in_list 0 up) bs ++ []) i)

    -- of what the clause declared a part
    own-parts : (gs hs : List (List Name)) → Parts true ParamClaims gs → Parts true ListClaims hs → Parts true (ParamClaims ++ ((ListClaims ++ []) ++ [])) (gs ++ (hs ++ []))
    own-parts gs hs r q = parts-both r (subst (λ (ks : List (List Name)). Parts true ks (hs ++ [])) (sym (append-nil (ListClaims ++ []))) (parts-both q no_list))

    module _ (used used' : Text → Bool) (more : (x : Text) → used x ≡ true → used' x ≡ true) (start : Distinct used [] (ParamClaims ++ ((ListClaims ++ []) ++ []))) where
      clause-distinct : (n : Name) → IsNew used used' n → Distinct used' [] ((n ∷ []) ∷ ((((((claims is_owned (moved_param (in_made 0 (above CatchClause m old 1 1) [])) p ++ []) ++ []) ++ []) ++ ((claims_all is_owned (moved_list (in_made 0 (above CatchClause m old 1 1) [])) bs ++ []) ++ [])) ++ []) ++ []))
      clause-distinct n new =
          let c = above CatchClause m old 1 1 in
          let gs = claims is_owned (moved_param (in_made 0 c [])) p in
          let hs = claims_all is_owned (moved_list (in_made 0 c [])) bs in
          let parts = own-parts gs hs (plain-fit (in_param 1 []) (moved_param (in_made 0 c [])) (param-fit 1 []) p member) (claims-all-fit (in_list 1 []) (moved_list (in_made 0 c [])) own-list-fit (same_parent refl) bs) in
          let d = parts-distinct used parts start in
          one-apart used used' n new more (now _) (subst (λ (ks : List (List Name)). Distinct used [] ks) (sym (append-nil _ ∙ joined-block gs (hs ++ []))) d)

      made-distinct : Distinct used' [] (((((claims is_owned (moved_param (in_made 1 catch_body [])) p ++ []) ++ []) ++ []) ++ ((claims_all is_owned (moved_list (in_made 1 catch_body [])) bs ++ []) ++ [])) ++ [])
      made-distinct =
          let gs = claims is_owned (moved_param (in_made 1 catch_body [])) p in
          let hs = claims_all is_owned (moved_list (in_made 1 catch_body [])) bs in
          let parts = own-parts gs hs (plain-fit (in_param 1 []) (moved_param (in_made 1 catch_body [])) made-param-fit p member) (claims-all-fit (in_list 1 []) (moved_list (in_made 1 catch_body [])) made-list-fit (same_parent refl) bs) in
          still-distinct used used' more [] _ (subst (λ (ks : List (List Name)). Distinct used [] ks) (sym (joined-block gs (hs ++ []))) (parts-distinct used parts start))

      inner-distinct : NoMembers bs → Distinct used' [] (claims_all is_owned (above BlockStatement l (statements bs then done) 0 1 ∷ []) bs ++ [])
      inner-distinct members =
          let parts : Parts true (ParamClaims ++ ((ListClaims ++ []) ++ [])) (claims_all is_owned (above BlockStatement l (statements bs then done) 0 1 ∷ []) bs ++ []) = own-parts [] _ (parts-none refl ParamClaims) (plain-all-fit (in_list 1 []) (above BlockStatement l (statements bs then done) 0 1 ∷ []) inner-fit bs members) in
          still-distinct used used' more [] _ (parts-distinct used parts start)

pub catch-rest-names : NameLawful CatchRest
catch-rest-names = record { at_nodes = nodes }
  where
    nodes : (n : Site) (s s' : Ledger) (t u : Tree) (a : Sort) → (is_slot n.above ≡ true → a ≡ s-Expression) → CatchRest n s (at_node t) s' (at_node u) → has_form a t ≡ true → has_form a u ≡ true → NodeKept s s' t u
    nodes n s s' t u a slot (moves {w = w} {q = q} {m = m} {l = l} {p = p} {bs = bs} {x = x} holds fresh) f formed =
        let b : Bound = next_name w x in
        let taken : AreTaken w.in_use w.free_symbol (b ∷ []) = ((fresh.free, refl), tt) in
        let new = taken-new w (b ∷ []) taken in
        let pattern = rest-pattern p holds in
        let members = block-members bs (class-edges a CatchClause m (old m l p bs b pattern.name) f).1.0.1.0 in
        let more : (y : Text) → w.in_use y ≡ true → use_in s' y ≡ true = λ y z. used-after (b ∷ []) w.in_use y z in
        record {
          grown = λ up. subst (λ (gs : List (List Name)). Grown (use_in s) (use_in s') (claims is_owned up t) gs) (sym (same-claims m l p bs b pattern.name pattern.member up)) (grown-self (claims is_owned up t));
          clear = λ c d e later h st k.
              let fresh_name : IsNew c.used d.used (name Scope 1 b.name false) = record { space = refl; fresh = (λ i. e i b.name) ∙ new.0.0; known = (λ i. later i b.name) ∙ new.0.1 } in
              let own = clause-distinct m l p bs b pattern.name pattern.member c.used d.used h.used k.0 (name Scope 1 b.name false) fresh_name in
              let made_own = made-distinct m l p bs b pattern.name pattern.member c.used d.used h.used k.0 in
              let inner_own = inner-distinct m l p bs b pattern.name pattern.member c.used d.used h.used k.0 members in
              let moved = clear-more c d h elsewhere p k.2.0 in
              let listed = clear-more-all c d h elsewhere bs k.2.1.0.2.0 in
              let declares : Clear d elsewhere (let_statement p b) = (tt, refl, (((tt, refl, (moved, ((tt, refl, tt), tt))), tt), tt)) in
              (own, refl, ((tt, refl, tt), ((made_own, refl, ((declares, ((inner_own, refl, (listed, tt)), tt)), tt)), tt)));
          name = refl;
          key = λ z. z;
          imports = refl;
          inside = refl;
          names = record { names = []; pending = no-names q; this = refl; top = refl; fresh = tt; more = more };
        }
