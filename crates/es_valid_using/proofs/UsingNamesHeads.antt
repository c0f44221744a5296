-- `using` in the head of a `for`-`of`, which goes to the block that is made, keeps the rules of declared names.
use Rattle.std.proofs.Common.{◌≡◌, ℕ, refl, sym, subst, ◌∙◌, List, [], ◌∷◌, ◌++◌, append-nil, filter}
use Rattle.std.specs.Prelude.{Bool, true, false, Some, codes, bytes_eq}
use Rattle.std.proofs.lemmas.Bool.{and_parts}
use Rattle.es_tree.specs.Ancestors.{Ancestor, ancestor, stands_in}
use Rattle.es_tree.specs.CoreStaticRules.{is_lexical}
use Rattle.es_tree.specs.DeclaredNames.{Name, name}
use Rattle.es_tree.specs.HasForm.{has_form}
use Rattle.es_tree.specs.Names.{first_text}
use Rattle.es_tree.specs.Tree.{Tree, node, Label, Fields, done, ◌then◌, missing, one, many, statements, empty, ◌before◌}
use Rattle.es_tree.specs.Words.{Text}
use Rattle.es_tree.specs.declared.ast_type.AstType.TheVariants.{BlockStatement, CatchClause, ForOfStatement, VariableDeclaration, VariableDeclarator}
use Rattle.es_tree.specs.declared.place.Namespace.TheVariants.{Scope}
use Rattle.es_tree.specs.declared.table.Sort.{Sort}
use Rattle.es_tree.specs.declared.table.Sort.TheVariants.{Expression as s-Expression, ForLeft as s-ForLeft, Statement as s-Statement}
use Rattle.es_tree.proofs.NodeForm.{node_form}
use Rattle.es_resolution.specs.Declarations.{Bound}
use Rattle.es_resolution.proofs.Basics.{bytes_eq-self}
use Rattle.es_steps.specs.LoopHeads.{head_fields}
use Rattle.es_steps.specs.Nodes.{declaration_node, declarator_with, identifier, made}
use Rattle.es_steps.specs.Rules.{next_name, with_made}
use Rattle.es_steps.specs.Steps.{Ledger, Site}
use Rattle.es_steps.specs.Steps.Spot.{at_node}
use Rattle.es_steps.specs.UsingLoops.{HeadUsing, block_head}
use Rattle.es_steps.specs.UsingLoops.HeadUsing.{of_head}
use Rattle.es_steps.proofs.HeadUsings.{head-using-only}
use Rattle.es_steps.proofs.RuleLaws.{used-after}
use Rattle.es_valid_names.proofs.Claims.{Around, Clear, Distinct, Stand, above, claims, claims_in, elsewhere, is_owned, owned}
use Rattle.es_valid_names.proofs.ClearPending.{expression-mute}
use Rattle.es_valid_names.proofs.Grown.{IsNew}
use Rattle.es_valid_names.proofs.MoreAround.{Allows, clear-more, or-last}
use Rattle.es_valid_names.proofs.OneMore.{now, one-apart}
use Rattle.es_valid_using.proofs.UsingNamesLists.{Moved, moved-apart, moved-both}
use Rattle.es_valid_using.proofs.UsingNamesMade.{near-declaration, statement-member, unkeyed}
use Rattle.es_valid_using.proofs.UsingNamesPlaces.{Near, claims-near, gone, less-self}
use Rattle.es_valid_using.proofs.UsingNamesReplaced.{NodeWent}
use Rattle.es_valid_using.proofs.UsingNamesSteps.{MovesLawful, MovesNames, NodeMoved, may_go}
use Rattle.es_valid_using.proofs.UsingNamesWraps.{near-plain, plain-block, plain-for-of}

-- below a declarator a name is bound by the declaration
near-declarator : {go : Bool} (up vp : List Ancestor) → Near go up vp → (l m : Label) (fs gs : Fields) → Near go (ancestor VariableDeclarator l fs 0 0 ∷ up) (ancestor VariableDeclarator m gs 0 0 ∷ vp)
near-declarator up vp h l m fs gs = record {
  functions = λ x. h.others.heads x true;
  others = record {
    vars = h.others.vars;
    heads = h.others.heads;
    in_module = h.others.in_module;
    catch = refl;
    bound = h.others.declaration;
    declaration = λ x. less-self [];
    private = λ x. (λ i. filter is_owned (unkeyed (ancestor VariableDeclarator m gs 0 0) vp x refl i)) ∙ sym (λ i. filter is_owned (unkeyed (ancestor VariableDeclarator l fs 0 0) up x refl i));
  };
}

three-nils : (gs : List (List Name)) → ((gs ++ []) ++ []) ++ [] ≡ gs
three-nils gs = append-nil ((gs ++ []) ++ []) ∙ append-nil (gs ++ []) ∙ append-nil gs

module _ (m l k : Label) (x e b : Tree) (y : Bound) (texts : l.texts ≡ Some (codes "using") ∷ []) (right : has_form s-Expression e ≡ true) (body : has_form s-Statement b ≡ true) where
  abbrev constant : Label
  constant = record l { texts = Some (codes "const") ∷ [] }

  abbrev by_using : Label
  by_using = made (Some (codes "using") ∷ []) []

  abbrev loop : ℕ → ℕ → Ancestor
  loop i n = ancestor ForOfStatement m done i n

  abbrev block : ℕ → Ancestor
  block n = ancestor BlockStatement (made [] []) done 0 n

  -- what the pattern declares, in the head and in the block
  abbrev HeadNames : List Ancestor → List (List Name)
  HeadNames up = claims is_owned (above VariableDeclarator k (one x then missing then done) 0 0 ∷ (ancestor VariableDeclaration l done 0 0 ∷ up)) x

  abbrev BlockNames : List Ancestor → List (List Name)
  BlockNames up = claims is_owned (above VariableDeclarator (made [] []) (one x then one (identifier y) then done) 0 0 ∷ (ancestor VariableDeclaration by_using done 0 0 ∷ up)) x

  abbrev NewName : List Ancestor → List (List Name)
  NewName up = claims is_owned (above VariableDeclarator k (one (identifier y) then missing then done) 0 0 ∷ (ancestor VariableDeclaration constant done 0 0 ∷ up)) (identifier y)

  abbrev InBlock : List Ancestor → List (List Name)
  InBlock up = BlockNames up ++ claims is_owned up b

  mute : (up : List Ancestor) (n : ℕ) → claims is_owned (loop 1 n ∷ up) e ≡ []
  mute up n = expression-mute (loop 1 n ∷ up) e right (λ z. tt)

  old-lists : (up : List Ancestor) (n : ℕ) → claims_in is_owned up ForOfStatement m (head_fields l k x e b) n 0 (head_fields l k x e b) ≡ HeadNames (loop 0 n ∷ up) ++ claims is_owned (loop 2 n ∷ up) b
  old-lists up n = λ i. three-nils (HeadNames (loop 0 n ∷ up)) i ++ (mute up n i ++ append-nil (claims is_owned (loop 2 n ∷ up) b) i)

  block-lists : (up : List Ancestor) (n : ℕ) → claims_in is_owned up BlockStatement (made [] []) done n 0 (statements (declaration_node (codes "using") (declarator_with x (identifier y) ∷ []) before (b before empty)) then done) ≡ InBlock (block n ∷ up)
  block-lists up n = append-nil _ ∙ (λ i. three-nils (BlockNames (block n ∷ up)) i ++ append-nil (claims is_owned (block n ∷ up) b) i)

  new-lists : (up : List Ancestor) (n : ℕ) → claims_in is_owned up ForOfStatement m (block_head l k y x e b) n 0 (block_head l k y x e b) ≡ NewName (loop 0 n ∷ up) ++ InBlock (block 0 ∷ (loop 2 n ∷ up))
  new-lists up n = λ i. three-nils (NewName (loop 0 n ∷ up)) i ++ (mute up n i ++ (append-nil (claims_in is_owned (loop 2 n ∷ up) BlockStatement (made [] []) done 0 0 (statements (declaration_node (codes "using") (declarator_with x (identifier y) ∷ []) before (b before empty)) then done)) ∙ block-lists (loop 2 n ∷ up) 0) i)

  -- from the head to a block
  inwards : {used used' : Text → Bool} (go : Bool) (us vs : List Ancestor) (n : ℕ) → Near go (loop 0 n ∷ us) vs → Near go (loop 2 n ∷ us) vs → Moved used used' go (HeadNames (loop 0 n ∷ us) ++ claims is_owned (loop 2 n ∷ us) b) (InBlock vs)
  inwards go us vs n head rest =
      let declaration = near-declaration (loop 0 n ∷ us) vs head l by_using (λ i. is_lexical (first_text (texts i))) refl in
      let declarator = near-declarator (ancestor VariableDeclaration l done 0 0 ∷ (loop 0 n ∷ us)) (ancestor VariableDeclaration by_using done 0 0 ∷ vs) declaration in
      moved-both (claims-near _ _ (declarator k (made [] []) _ _) x (λ d. refl)) (claims-near (loop 2 n ∷ us) vs rest b (λ d. absurd (statement-member b body d)))

  -- THE NODES

  abbrev old : Tree
  old = node ForOfStatement m (head_fields l k x e b)

  abbrev new : Tree
  new = node ForOfStatement m (block_head l k y x e b)

  module _ (used used' : Text → Bool) (fresh : used y.name ≡ false) (known : used' y.name ≡ true) (more : (z : Text) → used z ≡ true → used' z ≡ true) where
    new-name : IsNew used used' (name Scope 1 y.name true)
    new-name = record { space = refl; fresh = fresh; known = known }

    -- the names of the loop, where it is looked at
    old-apart : (c : Around) → c.used ≡ used → (st : Stand) → Clear c st old → Distinct used [] (HeadNames (loop 0 1 ∷ []) ++ claims is_owned (loop 2 1 ∷ []) b)
    old-apart c same st h = subst (λ (gs : List (List Name)). Distinct used [] gs) (old-lists [] 1) (subst (λ (v : Text → Bool). Distinct v [] (owned st ForOfStatement m (head_fields l k x e b))) same h.0)

    -- those that are left to it
    loop-apart : Distinct used [] (HeadNames (loop 0 1 ∷ []) ++ claims is_owned (loop 2 1 ∷ []) b) → Distinct used' [] (owned elsewhere ForOfStatement m (block_head l k y x e b))
    loop-apart d =
        let there : List Ancestor = block 0 ∷ (loop 2 1 ∷ []) in
        let near : (i : ℕ) → Near true (loop i 1 ∷ []) there = λ i. near-plain true (plain-for-of i) plain-block m (made [] []) done done 1 0 [] (loop 2 1 ∷ []) (λ z. refl) (λ z v. gone refl refl (refl, tt)) refl in
        let inner : Distinct used [] (InBlock there) = moved-apart (λ z v. v) (inwards {used = used} {used' = used} true [] there 1 (near 0) (near 2)) d in
        subst (λ (gs : List (List Name)). Distinct used' [] gs) (sym (new-lists [] 1)) (one-apart used used' (name Scope 1 y.name true) new-name more (now (InBlock there)) inner)

    -- those of the block
    block-apart : Distinct used [] (HeadNames (loop 0 1 ∷ []) ++ claims is_owned (loop 2 1 ∷ []) b) → Distinct used' [] (claims_in is_owned [] BlockStatement (made [] []) done 1 0 (statements (declaration_node (codes "using") (declarator_with x (identifier y) ∷ []) before (b before empty)) then done))
    block-apart d =
        let near : (i : ℕ) → Near false (loop i 1 ∷ []) (block 1 ∷ []) = λ i. near-plain false (plain-for-of i) plain-block m (made [] []) done done 1 1 [] [] (λ z. refl) (λ z v. less-self (name Scope 1 z v ∷ [])) refl in
        subst (λ (gs : List (List Name)). Distinct used' [] gs) (sym (block-lists [] 1)) (moved-apart more (inwards false [] (block 1 ∷ []) 1 (near 0) (near 2)) d)

    name-clear : (d : Around) → Clear d elsewhere (identifier y)
    name-clear d = (tt, refl, tt)

    head-clear : (c d : Around) → c.used ≡ used → d.used ≡ used' → Allows c d → (st : Stand) → Clear c st old → Clear d st new
    head-clear c d same after allows st h =
        let apart = old-apart c same st h in
        let pattern : Clear d elsewhere x = clear-more c d allows elsewhere x h.2.0.2.0.0.2.0 in
        let own : Distinct d.used [] (owned st ForOfStatement m (block_head l k y x e b)) = subst (λ (v : Text → Bool). Distinct v [] (owned st ForOfStatement m (block_head l k y x e b))) (sym after) (loop-apart apart) in
        let inner = subst (λ (v : Text → Bool). Distinct v [] (claims_in is_owned [] BlockStatement (made [] []) done 1 0 (statements (declaration_node (codes "using") (declarator_with x (identifier y) ∷ []) before (b before empty)) then done))) (sym after) (block-apart apart) in (
          own,
          refl,
          (
            (tt, refl, (((tt, refl, (name-clear d, (tt, tt))), tt), tt)),
            (
              clear-more c d allows elsewhere e h.2.1.0,
              ((inner, refl, (((tt, refl, (((tt, refl, (pattern, (name-clear d, tt))), tt), tt)), (clear-more c d allows elsewhere b h.2.1.1.0, tt)), tt)), tt),
            ),
          ),
        )

    pub head-moved : (v : Bool) → NodeMoved used used' v old new
    head-moved v = record {
      moved = λ up z.
          let near : (i : ℕ) → Near (may_go up) (loop i 0 ∷ up) (block 0 ∷ (loop 2 0 ∷ up)) = λ i. near-plain (may_go up) (plain-for-of i) plain-block m (made [] []) done done 0 0 up (loop 2 0 ∷ up) (λ q. refl) (λ q r. less-self (name Scope 0 q r ∷ [])) refl in
          subst (λ (gs : List (List Name)). Moved used used' (may_go up) gs (claims is_owned up new)) (sym (old-lists up 0)) (subst (λ (gs : List (List Name)). Moved used used' (may_go up) (HeadNames (loop 0 0 ∷ up) ++ claims is_owned (loop 2 0 ∷ up) b) gs) (sym (new-lists up 0)) (inwards (may_go up) up (block 0 ∷ (loop 2 0 ∷ up)) 0 (near 0) (near 2)));
      clear = λ c d same after allows st stand other apart h. head-clear c d same after allows st h;
      name = refl;
      key = λ z. absurd (cc z);
      inside = refl;
    }

pub head-moves : MovesLawful HeadUsing
head-moves = record { only = head-using-only; at_nodes = nodes }
  where
    nodes : (n : Site) (s s' : Ledger) (t u : Tree) (a : Sort) → HeadUsing n s (at_node t) s' (at_node u) → has_form a t ≡ true → NodeWent MovesNames n s s' t u
    nodes n s s' t u a (of_head {w = w} {m = m} {l = l} {k = k} {x = x} {e = e} {b = b} {c = c} texts fresh apart silent body) f =
        let first = and_parts (has_form s-ForLeft (node VariableDeclaration l (many (node VariableDeclarator k (one x then missing then done) before empty) then done))) _ (node_form a ForOfStatement m (head_fields l k x e b) f).children in
        let second = and_parts (has_form s-Expression e) _ first.1 in
        let y : Bound = next_name w c in
        let more : (z : Text) → w.in_use z ≡ true → (with_made (y ∷ []) w).in_use z ≡ true = λ z v. used-after (y ∷ []) w.in_use z v in
        record {
          node_went = head-moved m l k x e b y texts second.0 (and_parts (has_form s-Statement b) true second.1).0 w.in_use (with_made (y ∷ []) w).in_use fresh.free (or-last (w.in_use c) (bytes_eq c c) (bytes_eq-self c)) more (stands_in CatchClause 1 n.above);
          beside = record { pending = refl; this = refl; top = refl; more = more };
          imports = refl;
        }
