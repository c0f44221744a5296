-- Declarators that come for one whose pattern falls apart.
use Rattle.std.proofs.Common.{arith, ◌≤◌, ◌<◌, ◌+◌, ◌≡◌, ℕ, suc, refl, sym, ap, subst, ◌∙◌, List, [], ◌∷◌, ◌++◌, append_assoc}
use Rattle.std.specs.Prelude.{Bool, true, false, Some, None, if◌then◌else◌}
use Rattle.es_tree.specs.Words.{Text}
use Rattle.es_tree.specs.Tree.{Tree, node, Label, done, ◌then◌, Field, one, many, Trees, empty, ◌before◌}
use Rattle.es_tree.specs.declared.ast_type.AstType.TheVariants.{AssignmentPattern, Identifier, ObjectPattern, PatternProperty, VariableDeclaration, VariableDeclarator}
use Rattle.es_semantic.specs.RolesOf.{reads, role_at}
use Rattle.es_semantic.specs.SymbolsOf.{hoists}
use Rattle.es_semantic.specs.declared.place.Binding.{Binding}
use Rattle.es_semantic.specs.declared.place.Role.{Role}
use Rattle.es_semantic.specs.declared.place.Role.TheVariants.{Binds}
use Rattle.es_resolution.specs.Declarations.{Bound, sought, is_lexical, is_asked, declared, declared_by, declared_among}
use Rattle.es_resolution.specs.Resolved.{Place, no_name, place_in, IsRight, Resolved, ResolvedBy}
use Rattle.es_resolution.specs.Named.{Named, NamedBy, NamedAll}
use Rattle.es_resolution.specs.Single.{scopes_with, scopes_among}
use Rattle.es_steps.specs.Nodes.{made, identifier, declarator_with, joined_trees}
use Rattle.es_steps.specs.Steps.{Whole, Ledger, Site, Spot}
use Rattle.es_steps.specs.Steps.Spot.{at_node}
use Rattle.es_steps.specs.Rules.{next_name}
use Rattle.es_steps.specs.Patterns.{IsSilent}
use Rattle.es_steps.specs.ObjectRest.{Declares, kind_of_declaration, pattern_node, declares_as, declares_some, SplitsOff, SplitRule}
use Rattle.es_steps.specs.ObjectRest.Declares.{by_var, lexically}
use Rattle.es_steps.specs.ObjectRest.SplitsOff.{source, nested, nested_default, key}
use Rattle.es_steps.specs.ObjectRest.SplitRule.{splits}
use Rattle.es_resolution.proofs.Basics.{none-append}
use Rattle.es_steps.proofs.Fronts.{front-lists, front-named, front-resolved, front-scopes, front-some}
use Rattle.es_steps.proofs.Heads.{adds-front, lexical-hoists}
use Rattle.es_steps.proofs.Kept.{Change, Known, plain, Each, Adds, SeesIf, Lexical, Hoisted, limit, Kept, KeptAll}
use Rattle.es_steps.proofs.Kept.Change.{below, lexed}
use Rattle.es_resolution.proofs.MoreNames.{named-more, named-more-by, named-more-all, own-more}
use Rattle.es_steps.proofs.Names.{declared-free-by, declared-free-all}
use Rattle.es_steps.proofs.Nodes.{Lacks, adds-right, closing, kept-node}
use Rattle.es_steps.proofs.OneName.{one-taken, is_above, knowing, lower, it-found, it-used, not-sought}
use Rattle.es_steps.proofs.RuleLaws.{AtNodes, nodes-only}
use Rattle.es_steps.proofs.Same.{as-many, left-fields, same-in, same-by}
use Rattle.es_steps.proofs.Scopes.{no-scopes, no-scopes-by, no-scopes-all}
use Rattle.es_steps.proofs.Stays.{stand, stand-all, standing}
use Rattle.es_steps.proofs.Taken.{none-some, whole_in, NodesKept, Outcome, Lawful}
use Rattle.es_steps.proofs.Written.{nil-right, body_place, joined-twice, kept-joined, several, named-joined, join-named, resolved-joined, declared-joined, scopes-joined, resolved-parts}

abbrev change_of : {b : Binding} → Declares b → Change
change_of (by_var e) = below
change_of (lexically e) = lexed

-- the new name, where it is declared
own-of : (b : Binding) → Bound → Bool → List Bound
own-of b it v = if is_asked v (Binds b) then it ∷ [] else []

-- what is declared before and after, around the place of the new name
module _ (n : Known) (it : Bound) (alone : n.given ≡ it ∷ []) (old : (y : Text) → n.in_use y ≡ true → sought (it ∷ []) y ≡ None) (xs ys : List Bound) (none : Lacks n xs) where
  with-it : Adds n (xs ++ ys) (xs ++ (it ∷ ys))
  with-it = adds-right n xs ys (it ∷ ys) none (adds-front n it ys old (λ y o e. subst (λ (bs : List Bound). sought bs y ≡ Some o) alone e) (λ q g. (subst (λ (bs : List Bound). Each (λ b. q b ≡ false) bs) alone g).0))

  lexical-it : (b : Binding) (d : Declares b) → Lexical (change_of d) n (xs ++ ys) (xs ++ (own-of b it false ++ ys))
  unfolding own-of
  lexical-it b (by_var e) = λ i. xs ++ ((if is_lexical (e i) then it ∷ [] else []) ++ ys)
  lexical-it b (lexically e) = subst (λ (c : Bool). Adds n (xs ++ ys) (xs ++ ((if c then it ∷ [] else []) ++ ys))) (sym e) with-it

  hoisted-it : (b : Binding) (d : Declares b) → Hoisted (change_of d) n (xs ++ ys) (xs ++ (own-of b it true ++ ys))
  unfolding own-of
  hoisted-it b (by_var e) = subst (λ (c : Bool). Adds n (xs ++ ys) (xs ++ ((if c then it ∷ [] else []) ++ ys))) (sym (ap (λ z. hoists z) e)) with-it
  hoisted-it b (lexically e) = λ i. xs ++ ((if lexical-hoists b e i then it ∷ [] else []) ++ ys)

-- the name is right where it is seen
right-it : (b : Binding) (d : Declares b) (n : Known) (q : Place) (x : Text) (s : ℕ) → sought n.given x ≡ Some (Some s) → SeesIf (change_of d) n q → IsRight q (Binds b) x (Some s)
right-it b (by_var e) n q x s found v = (sym ((λ i. if hoists (e i) then q.hoist x else q.scope x) ∙ v.hoist x (Some s) found), refl)
right-it b (lexically e) n q x s found v = (sym ((λ i. if lexical-hoists b e i then q.hoist x else q.scope x) ∙ v x (Some s) found), refl)

seen-it : (b : Binding) (d : Declares b) (n : Known) (q : Place) (x : Text) (s : ℕ) → sought n.given x ≡ Some (Some s) → SeesIf (change_of d) n q → q.scope x ≡ Some s
seen-it b (by_var e) n q x s found v = v.scope x (Some s) found
seen-it b (lexically e) n q x s found v = v x (Some s) found

-- a field that stays
stand-by : (u : Text → Bool) (f : ℕ) (r : Role) (o q : Place) → ((y : Text) → u y ≡ true → q.scope y ≡ o.scope y) → ((y : Text) → u y ≡ true → q.hoist y ≡ o.hoist y) → (w : Field) → NamedBy u f r w → ResolvedBy r (body_place o) w → ResolvedBy r (body_place q) w
stand-by u f r o q a b w used d = (same-by (standing u f) (body_place o) r w used).resolved (body_place o) (body_place q) (record { scope = a; hoist = b }) (record { used = λ y k. refl; new = λ g y o e. absurd (none-some o e) }) tt (record { scope = refl; parameters = λ e. refl }) d

lacks-both : (n : Known) (xs ys : List Bound) → Lacks n xs → Lacks n ys → Lacks n (xs ++ ys)
lacks-both n xs ys g h y o e = none-append xs ys y (g y o e) (h y o e)

no-more : (a b : ℕ) → a ≡ 0 → a ≤ b
no-more a b e = omega arith

arrange : (xs ks ts cs : List Bound) → xs ++ ((ks ++ (ts ++ [])) ++ cs) ≡ (xs ++ ks) ++ (ts ++ cs)
arrange xs ks ts cs = simp (nil-right, append_assoc)

arranged : (xs ks js : List Bound) → xs ++ ((ks ++ ((js ++ []) ++ [])) ++ []) ≡ (xs ++ ks) ++ js
arranged xs ks js = simp (nil-right, append_assoc)

trio : (bs : List Bound) → ((bs ++ []) ++ []) ++ [] ≡ bs
trio bs = simp nil-right

flatten : (bs ms ts cs : List Bound) → (((bs ++ ms) ++ []) ++ []) ++ ((ts ++ []) ++ cs) ≡ bs ++ (ms ++ (ts ++ cs))
flatten bs ms ts cs = simp (nil-right, append_assoc)

key-flat : (xs ts cs : List Bound) → (((xs ++ (([] ++ (ts ++ [])) ++ cs)) ++ []) ++ []) ++ [] ≡ xs ++ (ts ++ cs)
key-flat xs ts cs = simp (nil-right, append_assoc)

key-flatten : (xs ms ts cs : List Bound) → ((xs ++ []) ++ []) ++ (((ms ++ []) ++ ([] ++ [])) ++ ((((([] ++ (ts ++ [])) ++ cs) ++ []) ++ []) ++ [])) ≡ xs ++ (ms ++ (ts ++ cs))
key-flatten xs ms ts cs = simp (nil-right, append_assoc)

arrange-d : (xs ks ts cs : List Bound) → xs ++ ((ks ++ ((ts ++ []) ++ [])) ++ cs) ≡ (xs ++ ks) ++ (ts ++ cs)
arrange-d xs ks ts cs = simp (nil-right, append_assoc)

arranged-d : (xs ks js : List Bound) → xs ++ ((ks ++ (((js ++ []) ++ []) ++ [])) ++ []) ≡ (xs ++ ks) ++ js
arranged-d xs ks js = simp (nil-right, append_assoc)

-- THE SOURCE

module _ (p : Place) (w : Whole) (x : Text) (free : w.in_use x ≡ false) (b : Binding) (d : Declares b) where
  abbrev it : Bound
  it = next_name w x

  abbrev k : Known
  k = knowing w x free

  ni : ((k.in_use_after x ≡ true) × (w.free_symbol < w.free_symbol + 1)) × Unit {0}
  ni = ((it-used w x free, lower w.free_symbol), tt)

  more : (r : Role) (t : Tree) → Named w.in_use w.free_symbol r t → Named k.in_use_after (w.free_symbol + 1) r t
  more r t h = named-more w.in_use k.in_use_after k.more w.free_symbol (w.free_symbol + 1) k.freer r t h

  module _ (l : Label) (t e : Tree) (quiet : IsSilent reads e) (used : NamedAll w.in_use w.free_symbol (Binds b) (declares_as l t e before empty)) where
    abbrev after_source : Trees
    after_source = declarator_with (identifier it) e before declares_as l t (identifier it) before empty

    lists-before : (v : Bool) → declared_among v (Binds b) (declares_as l t e before empty) ≡ [] ++ ((declared v (Binds b) t ++ []) ++ [])
    lists-before true = λ i. (declared true (Binds b) t ++ (quiet true i ++ [])) ++ []
    lists-before false = λ i. (declared false (Binds b) t ++ (quiet false i ++ [])) ++ []

    lists-after : (v : Bool) → declared_among v (Binds b) after_source ≡ [] ++ (own-of b it v ++ ((declared v (Binds b) t ++ []) ++ []))
    unfolding own-of
    lists-after true = (λ i. (((if is_asked true (Binds b) then it ∷ [] else []) ++ []) ++ (quiet true i ++ [])) ++ ((declared true (Binds b) t ++ []) ++ [])) ∙ (λ i. (nil-right (nil-right (if is_asked true (Binds b) then it ∷ [] else []) i) i) ++ ((declared true (Binds b) t ++ []) ++ []))
    lists-after false = (λ i. (((if is_asked false (Binds b) then it ∷ [] else []) ++ []) ++ (quiet false i ++ [])) ++ ((declared false (Binds b) t ++ []) ++ [])) ∙ (λ i. (nil-right (nil-right (if is_asked false (Binds b) then it ∷ [] else []) i) i) ++ ((declared false (Binds b) t ++ []) ++ []))

    pub split-source : KeptAll k p (change_of d) (Binds b) (declares_as l t e before empty) after_source
    split-source = record {
      lexical = subst (λ (z : List Bound). Lexical (change_of d) k z (declared_among false (Binds b) after_source)) (sym (lists-before false)) (subst (λ (z : List Bound). Lexical (change_of d) k ([] ++ ((declared false (Binds b) t ++ []) ++ [])) z) (sym (lists-after false)) (lexical-it k it refl (not-sought w x free) [] ((declared false (Binds b) t ++ []) ++ []) (λ y o g. refl) b d));
      hoisted = subst (λ (z : List Bound). Hoisted (change_of d) k z (declared_among true (Binds b) after_source)) (sym (lists-before true)) (subst (λ (z : List Bound). Hoisted (change_of d) k ([] ++ ((declared true (Binds b) t ++ []) ++ [])) z) (sym (lists-after true)) (hoisted-it k it refl (not-sought w x free) [] ((declared true (Binds b) t ++ []) ++ []) (λ y o g. refl) b d));
      named = (((tt, tt), (ni, (more reads e used.0.1.1.0, tt))), ((own-more w.in_use k.in_use_after k.more w.free_symbol (w.free_symbol + 1) k.freer (Binds b) VariableDeclarator l used.0.0, (more (Binds b) t used.0.1.0, (ni, tt))), tt));
      scopes = λ s ps f. omega arith;
      new_scopes = λ s ps f. let a = no-scopes w.in_use w.free_symbol s f no_name (Binds b) t used.0.1.0 in let c = no-scopes w.in_use w.free_symbol s f no_name reads e used.0.1.1.0 in no-more (scopes_among s ps (Binds b) after_source) (limit (change_of d) k s) (omega arith);
      resolved = λ o q g ps v h z.
          let rt = stand w.in_use w.free_symbol (Binds b) (body_place o) (body_place q) g.scope g.hoist (λ y f. refl) t used.0.1.0 z.0.2.0 in
          let re = stand w.in_use w.free_symbol reads (body_place o) (body_place q) g.scope g.hoist (λ y f. refl) e used.0.1.1.0 z.0.2.1.0 in
          let here = right-it b d k q x w.free_symbol (it-found w x free) v in
          let seen = sym (seen-it b d k q x w.free_symbol (it-found w x free) v) in
          ((tt, refl, ((here, refl, tt), (re, tt))), ((tt, refl, (rt, ((seen, refl, tt), tt))), tt));
    }

  -- A PATTERN INSIDE

  module _ (l lp lq ls : Label) (a c : Trees) (kf : Field) (t : Tree) where
    abbrev r : Role
    r = Binds b

    abbrev src : Tree
    src = node Identifier ls done

    abbrev inside : Tree → Trees → Trees
    inside z zs = joined_trees a (node PatternProperty lq (kf then one z then done) before zs)

    abbrev key_role : Role
    key_role = role_at r PatternProperty lq (kf then one t then done) 0

    abbrev before_nested : Trees
    before_nested = declares_as l (pattern_node lp (inside t c)) src before empty

    abbrev after_nested : Trees
    after_nested = declarator_with (pattern_node (made [] []) (inside (identifier it) empty)) src before declarator_with t (identifier it) before declares_some lp src c

    abbrev xs : Bool → List Bound
    xs v = declared_among v r a ++ declared_by v key_role kf

    abbrev ys : Bool → List Bound
    ys v = declared v r t ++ declared_among v r c

    list-before : (v : Bool) → declared_among v r (inside t c) ≡ xs v ++ ys v
    list-before true = declared-joined true r a (node PatternProperty lq (kf then one t then done) before c) ∙ arrange (declared_among true r a) (declared_by true key_role kf) (declared true r t) (declared_among true r c)
    list-before false = declared-joined false r a (node PatternProperty lq (kf then one t then done) before c) ∙ arrange (declared_among false r a) (declared_by false key_role kf) (declared false r t) (declared_among false r c)

    list-after : (v : Bool) → declared_among v r (inside (identifier it) empty) ≡ xs v ++ own-of b it v
    unfolding own-of
    list-after true = declared-joined true r a (node PatternProperty lq (kf then one (identifier it) then done) before empty) ∙ arranged (declared_among true r a) (declared_by true key_role kf) (if is_asked true r then it ∷ [] else [])
    list-after false = declared-joined false r a (node PatternProperty lq (kf then one (identifier it) then done) before empty) ∙ arranged (declared_among false r a) (declared_by false key_role kf) (if is_asked false r then it ∷ [] else [])

    nested-before : (v : Bool) → declared_among v r before_nested ≡ xs v ++ ys v
    nested-before true = (λ i. ((list-before true i ++ []) ++ []) ++ []) ∙ trio (xs true ++ ys true)
    nested-before false = (λ i. ((list-before false i ++ []) ++ []) ++ []) ∙ trio (xs false ++ ys false)

    nested-after : (v : Bool) → declared_among v r after_nested ≡ xs v ++ (own-of b it v ++ ys v)
    nested-after true = (λ i. ((list-after true i ++ []) ++ []) ++ ((declared true r t ++ []) ++ front-lists lp ls r true c (declares_some lp src c) (front-some lp src c) i)) ∙ flatten (xs true) (own-of b it true) (declared true r t) (declared_among true r c)
    nested-after false = (λ i. ((list-after false i ++ []) ++ []) ++ ((declared false r t ++ []) ++ front-lists lp ls r false c (declares_some lp src c) (front-some lp src c) i)) ∙ flatten (xs false) (own-of b it false) (declared false r t) (declared_among false r c)

    module _ (used : NamedAll w.in_use w.free_symbol r before_nested) where
      used-props : NamedAll w.in_use w.free_symbol r a × NamedAll w.in_use w.free_symbol r (node PatternProperty lq (kf then one t then done) before c)
      used-props = named-joined w.in_use w.free_symbol r a (node PatternProperty lq (kf then one t then done) before c) used.0.1.0.1.0

      xs-lack : (v : Bool) → Lacks k (xs v)
      xs-lack v = lacks-both k (declared_among v r a) (declared_by v key_role kf) (λ y o e. declared-free-all w.in_use w.free_symbol y (k.fresh y o e) v r a used-props.0) (λ y o e. declared-free-by w.in_use w.free_symbol y (k.fresh y o e) v key_role kf used-props.1.0.1.0)

      pub split-nested : KeptAll k p (change_of d) r before_nested after_nested
      split-nested = record {
        lexical = subst (λ (z : List Bound). Lexical (change_of d) k z (declared_among false r after_nested)) (sym (nested-before false)) (subst (λ (z : List Bound). Lexical (change_of d) k (xs false ++ ys false) z) (sym (nested-after false)) (lexical-it k it refl (not-sought w x free) (xs false) (ys false) (xs-lack false) b d));
        hoisted = subst (λ (z : List Bound). Hoisted (change_of d) k z (declared_among true r after_nested)) (sym (nested-before true)) (subst (λ (z : List Bound). Hoisted (change_of d) k (xs true ++ ys true) z) (sym (nested-after true)) (hoisted-it k it refl (not-sought w x free) (xs true) (ys true) (xs-lack true) b d));
        named =
            let ns = more reads src used.0.1.1.0 in
            let nt = more r t used-props.1.0.1.1.0 in
            let nk = named-more-by w.in_use k.in_use_after k.more w.free_symbol (w.free_symbol + 1) k.freer key_role kf used-props.1.0.1.0 in
            let na = named-more-all w.in_use k.in_use_after k.more w.free_symbol (w.free_symbol + 1) k.freer r a used-props.0 in
            let nc = named-more-all w.in_use k.in_use_after k.more w.free_symbol (w.free_symbol + 1) k.freer r c used-props.1.1 in
            let nq = own-more w.in_use k.in_use_after k.more w.free_symbol (w.free_symbol + 1) k.freer r PatternProperty lq used-props.1.0.0 in
            let np = own-more w.in_use k.in_use_after k.more w.free_symbol (w.free_symbol + 1) k.freer r ObjectPattern lp used.0.1.0.0 in
            (((tt, tt), (((tt, tt), (join-named k.in_use_after (w.free_symbol + 1) r a (node PatternProperty lq (kf then one (identifier it) then done) before empty) na ((nq, (nk, (ni, tt))), tt), tt)), (ns, tt))), (((tt, tt), (nt, (ni, tt))), front-named lp ls r k.in_use_after (w.free_symbol + 1) c (declares_some lp src c) (front-some lp src c) (np, (nc, tt)) ns));
        scopes = λ s ps f. let z = front-scopes lp ls r s ps c (declares_some lp src c) (front-some lp src c) in let g = scopes-joined s no_name r a (node PatternProperty lq (kf then one t then done) before c) in let h = scopes-joined s no_name r a (node PatternProperty lq (kf then one (identifier it) then done) before empty) in omega arith;
        new_scopes = λ s ps f.
            let h = scopes-joined s no_name r a (node PatternProperty lq (kf then one (identifier it) then done) before empty) in
            let za = no-scopes-all w.in_use w.free_symbol s f no_name r a used-props.0 in
            let zc = no-scopes-all w.in_use w.free_symbol s f no_name r c used-props.1.1 in
            let zt = no-scopes w.in_use w.free_symbol s f no_name r t used-props.1.0.1.1.0 in
            let zk = no-scopes-by w.in_use w.free_symbol s f no_name key_role kf used-props.1.0.1.0 in
            let z = front-scopes lp ls r s ps c (declares_some lp src c) (front-some lp src c) in
            no-more (scopes_among s ps r after_nested) (limit (change_of d) k s) (omega arith);
        resolved = λ o q g ps v h z.
            let parts = resolved-parts r (body_place o) a (node PatternProperty lq (kf then one t then done) before c) z.0.2.0.2.0 in
            let here = right-it b d k q x w.free_symbol (it-found w x free) v in
            let seen = sym (seen-it b d k q x w.free_symbol (it-found w x free) v) in
            let rs = stand w.in_use w.free_symbol reads (body_place o) (body_place q) g.scope g.hoist (λ y f. refl) src used.0.1.1.0 z.0.2.1.0 in
            let ra = stand-all w.in_use w.free_symbol r (body_place o) (body_place q) g.scope g.hoist (λ y f. refl) a used-props.0 parts.0 in
            let rc = stand-all w.in_use w.free_symbol r (body_place o) (body_place q) g.scope g.hoist (λ y f. refl) c used-props.1.1 parts.1.1 in
            let rt = stand w.in_use w.free_symbol r (body_place o) (body_place q) g.scope g.hoist (λ y f. refl) t used-props.1.0.1.1.0 parts.1.0.2.1.0 in
            let rk = stand-by w.in_use w.free_symbol key_role o q g.scope g.hoist kf used-props.1.0.1.0 parts.1.0.2.0 in
            ((tt, refl, ((tt, refl, (resolved-joined r (body_place q) a (node PatternProperty lq (kf then one (identifier it) then done) before empty) ra ((tt, refl, (rk, ((here, refl, tt), tt))), tt), tt)), (rs, tt))), ((tt, refl, (rt, ((seen, refl, tt), tt))), front-resolved lp ls r q c (declares_some lp src c) (front-some lp src c) rc rs));
      }

  -- A PATTERN INSIDE, with a default

  module _ (l lp lq la ls : Label) (a c : Trees) (kf : Field) (t e : Tree) (quiet-e : IsSilent reads e) where
    abbrev rd : Role
    rd = Binds b

    abbrev src-d : Tree
    src-d = node Identifier ls done

    abbrev inside-d : Tree → Trees → Trees
    inside-d z zs = joined_trees a (node PatternProperty lq (kf then one (node AssignmentPattern la (one z then one e then done)) then done) before zs)

    abbrev key_role-d : Role
    key_role-d = role_at rd PatternProperty lq (kf then one (node AssignmentPattern la (one t then one e then done)) then done) 0

    abbrev before_nested-d : Trees
    before_nested-d = declares_as l (pattern_node lp (inside-d t c)) src-d before empty

    abbrev after_nested-d : Trees
    after_nested-d = declarator_with (pattern_node (made [] []) (inside-d (identifier it) empty)) src-d before declarator_with t (identifier it) before declares_some lp src-d c

    abbrev xd : Bool → List Bound
    xd v = declared_among v rd a ++ declared_by v key_role-d kf

    abbrev yd : Bool → List Bound
    yd v = declared v rd t ++ declared_among v rd c

    list-before-d : (v : Bool) → declared_among v rd (inside-d t c) ≡ xd v ++ yd v
    list-before-d true = declared-joined true rd a (node PatternProperty lq (kf then one (node AssignmentPattern la (one t then one e then done)) then done) before c) ∙ (λ i. declared_among true rd a ++ ((declared_by true key_role-d kf ++ ((declared true rd t ++ (quiet-e true i ++ [])) ++ [])) ++ declared_among true rd c)) ∙ arrange-d (declared_among true rd a) (declared_by true key_role-d kf) (declared true rd t) (declared_among true rd c)
    list-before-d false = declared-joined false rd a (node PatternProperty lq (kf then one (node AssignmentPattern la (one t then one e then done)) then done) before c) ∙ (λ i. declared_among false rd a ++ ((declared_by false key_role-d kf ++ ((declared false rd t ++ (quiet-e false i ++ [])) ++ [])) ++ declared_among false rd c)) ∙ arrange-d (declared_among false rd a) (declared_by false key_role-d kf) (declared false rd t) (declared_among false rd c)

    list-after-d : (v : Bool) → declared_among v rd (inside-d (identifier it) empty) ≡ xd v ++ own-of b it v
    unfolding own-of
    list-after-d true = declared-joined true rd a (node PatternProperty lq (kf then one (node AssignmentPattern la (one (identifier it) then one e then done)) then done) before empty) ∙ (λ i. declared_among true rd a ++ ((declared_by true key_role-d kf ++ ((((if is_asked true rd then it ∷ [] else []) ++ []) ++ (quiet-e true i ++ [])) ++ [])) ++ [])) ∙ arranged-d (declared_among true rd a) (declared_by true key_role-d kf) (if is_asked true rd then it ∷ [] else [])
    list-after-d false = declared-joined false rd a (node PatternProperty lq (kf then one (node AssignmentPattern la (one (identifier it) then one e then done)) then done) before empty) ∙ (λ i. declared_among false rd a ++ ((declared_by false key_role-d kf ++ ((((if is_asked false rd then it ∷ [] else []) ++ []) ++ (quiet-e false i ++ [])) ++ [])) ++ [])) ∙ arranged-d (declared_among false rd a) (declared_by false key_role-d kf) (if is_asked false rd then it ∷ [] else [])

    nested-before-d : (v : Bool) → declared_among v rd before_nested-d ≡ xd v ++ yd v
    nested-before-d true = (λ i. ((list-before-d true i ++ []) ++ []) ++ []) ∙ trio (xd true ++ yd true)
    nested-before-d false = (λ i. ((list-before-d false i ++ []) ++ []) ++ []) ∙ trio (xd false ++ yd false)

    nested-after-d : (v : Bool) → declared_among v rd after_nested-d ≡ xd v ++ (own-of b it v ++ yd v)
    nested-after-d true = (λ i. ((list-after-d true i ++ []) ++ []) ++ ((declared true rd t ++ []) ++ front-lists lp ls rd true c (declares_some lp src-d c) (front-some lp src-d c) i)) ∙ flatten (xd true) (own-of b it true) (declared true rd t) (declared_among true rd c)
    nested-after-d false = (λ i. ((list-after-d false i ++ []) ++ []) ++ ((declared false rd t ++ []) ++ front-lists lp ls rd false c (declares_some lp src-d c) (front-some lp src-d c) i)) ∙ flatten (xd false) (own-of b it false) (declared false rd t) (declared_among false rd c)

    module _ (used : NamedAll w.in_use w.free_symbol rd before_nested-d) where
      used-props-d : NamedAll w.in_use w.free_symbol rd a × NamedAll w.in_use w.free_symbol rd (node PatternProperty lq (kf then one (node AssignmentPattern la (one t then one e then done)) then done) before c)
      used-props-d = named-joined w.in_use w.free_symbol rd a (node PatternProperty lq (kf then one (node AssignmentPattern la (one t then one e then done)) then done) before c) used.0.1.0.1.0

      xs-lack-d : (v : Bool) → Lacks k (xd v)
      xs-lack-d v = lacks-both k (declared_among v rd a) (declared_by v key_role-d kf) (λ y o h. declared-free-all w.in_use w.free_symbol y (k.fresh y o h) v rd a used-props-d.0) (λ y o h. declared-free-by w.in_use w.free_symbol y (k.fresh y o h) v key_role-d kf used-props-d.1.0.1.0)

      pub split-nested-d : KeptAll k p (change_of d) rd before_nested-d after_nested-d
      split-nested-d = record {
        lexical = subst (λ (z : List Bound). Lexical (change_of d) k z (declared_among false rd after_nested-d)) (sym (nested-before-d false)) (subst (λ (z : List Bound). Lexical (change_of d) k (xd false ++ yd false) z) (sym (nested-after-d false)) (lexical-it k it refl (not-sought w x free) (xd false) (yd false) (xs-lack-d false) b d));
        hoisted = subst (λ (z : List Bound). Hoisted (change_of d) k z (declared_among true rd after_nested-d)) (sym (nested-before-d true)) (subst (λ (z : List Bound). Hoisted (change_of d) k (xd true ++ yd true) z) (sym (nested-after-d true)) (hoisted-it k it refl (not-sought w x free) (xd true) (yd true) (xs-lack-d true) b d));
        named =
            let ns = more reads src-d used.0.1.1.0 in
            let nt = more rd t used-props-d.1.0.1.1.0.1.0 in
            let ne = more reads e used-props-d.1.0.1.1.0.1.1.0 in
            let nn = own-more w.in_use k.in_use_after k.more w.free_symbol (w.free_symbol + 1) k.freer rd AssignmentPattern la used-props-d.1.0.1.1.0.0 in
            let nk = named-more-by w.in_use k.in_use_after k.more w.free_symbol (w.free_symbol + 1) k.freer key_role-d kf used-props-d.1.0.1.0 in
            let na = named-more-all w.in_use k.in_use_after k.more w.free_symbol (w.free_symbol + 1) k.freer rd a used-props-d.0 in
            let nc = named-more-all w.in_use k.in_use_after k.more w.free_symbol (w.free_symbol + 1) k.freer rd c used-props-d.1.1 in
            let nq = own-more w.in_use k.in_use_after k.more w.free_symbol (w.free_symbol + 1) k.freer rd PatternProperty lq used-props-d.1.0.0 in
            let np = own-more w.in_use k.in_use_after k.more w.free_symbol (w.free_symbol + 1) k.freer rd ObjectPattern lp used.0.1.0.0 in
            (((tt, tt), (((tt, tt), (join-named k.in_use_after (w.free_symbol + 1) rd a (node PatternProperty lq (kf then one (node AssignmentPattern la (one (identifier it) then one e then done)) then done) before empty) na ((nq, (nk, ((nn, (ni, (ne, tt))), tt))), tt), tt)), (ns, tt))), (((tt, tt), (nt, (ni, tt))), front-named lp ls rd k.in_use_after (w.free_symbol + 1) c (declares_some lp src-d c) (front-some lp src-d c) (np, (nc, tt)) ns));
        scopes = λ s ps f. let z = front-scopes lp ls rd s ps c (declares_some lp src-d c) (front-some lp src-d c) in let g = scopes-joined s no_name rd a (node PatternProperty lq (kf then one (node AssignmentPattern la (one t then one e then done)) then done) before c) in let h = scopes-joined s no_name rd a (node PatternProperty lq (kf then one (node AssignmentPattern la (one (identifier it) then one e then done)) then done) before empty) in omega arith;
        new_scopes = λ s ps f.
            let h = scopes-joined s no_name rd a (node PatternProperty lq (kf then one (node AssignmentPattern la (one (identifier it) then one e then done)) then done) before empty) in
            let za = no-scopes-all w.in_use w.free_symbol s f no_name rd a used-props-d.0 in
            let zc = no-scopes-all w.in_use w.free_symbol s f no_name rd c used-props-d.1.1 in
            let zt = no-scopes w.in_use w.free_symbol s f no_name rd t used-props-d.1.0.1.1.0.1.0 in
            let ze = no-scopes w.in_use w.free_symbol s f no_name reads e used-props-d.1.0.1.1.0.1.1.0 in
            let zk = no-scopes-by w.in_use w.free_symbol s f no_name key_role-d kf used-props-d.1.0.1.0 in
            let z = front-scopes lp ls rd s ps c (declares_some lp src-d c) (front-some lp src-d c) in
            no-more (scopes_among s ps rd after_nested-d) (limit (change_of d) k s) (omega arith);
        resolved = λ o q g ps v h z.
            let parts = resolved-parts rd (body_place o) a (node PatternProperty lq (kf then one (node AssignmentPattern la (one t then one e then done)) then done) before c) z.0.2.0.2.0 in
            let here = right-it b d k q x w.free_symbol (it-found w x free) v in
            let seen = sym (seen-it b d k q x w.free_symbol (it-found w x free) v) in
            let rs = stand w.in_use w.free_symbol reads (body_place o) (body_place q) g.scope g.hoist (λ y f. refl) src-d used.0.1.1.0 z.0.2.1.0 in
            let ra = stand-all w.in_use w.free_symbol rd (body_place o) (body_place q) g.scope g.hoist (λ y f. refl) a used-props-d.0 parts.0 in
            let rc = stand-all w.in_use w.free_symbol rd (body_place o) (body_place q) g.scope g.hoist (λ y f. refl) c used-props-d.1.1 parts.1.1 in
            let rt = stand w.in_use w.free_symbol rd (body_place o) (body_place q) g.scope g.hoist (λ y f. refl) t used-props-d.1.0.1.1.0.1.0 parts.1.0.2.1.0.2.0 in
            let re = stand w.in_use w.free_symbol reads (body_place o) (body_place q) g.scope g.hoist (λ y f. refl) e used-props-d.1.0.1.1.0.1.1.0 parts.1.0.2.1.0.2.1.0 in
            let rk = stand-by w.in_use w.free_symbol key_role-d o q g.scope g.hoist kf used-props-d.1.0.1.0 parts.1.0.2.0 in
            ((tt, refl, ((tt, refl, (resolved-joined rd (body_place q) a (node PatternProperty lq (kf then one (node AssignmentPattern la (one (identifier it) then one e then done)) then done) before empty) ra ((tt, refl, (rk, ((tt, refl, ((here, refl, tt), (re, tt))), tt))), tt), tt)), (rs, tt))), ((tt, refl, (rt, ((seen, refl, tt), tt))), front-resolved lp ls rd q c (declares_some lp src-d c) (front-some lp src-d c) rc rs));
      }

  -- A COMPUTED KEY

  module _ (l lp lq ls : Label) (a c : Trees) (kt t : Tree) (key_reads : role_at (Binds b) PatternProperty lq (one kt then one t then done) 0 ≡ reads) (quiet : IsSilent reads kt) where
    abbrev rk-role : Role
    rk-role = Binds b

    abbrev src-k : Tree
    src-k = node Identifier ls done

    abbrev kr : Role
    kr = role_at rk-role PatternProperty lq (one kt then one t then done) 0

    abbrev before_key : Trees
    before_key = declares_as l (pattern_node lp (joined_trees a (node PatternProperty lq (one kt then one t then done) before c))) src-k before empty

    abbrev after_key : Trees
    after_key = declarator_with (pattern_node (made [] []) a) src-k before declarator_with (identifier it) kt before declarator_with (pattern_node lp (node PatternProperty lq (one (identifier it) then one t then done) before c)) src-k before empty

    abbrev yk : Bool → List Bound
    yk v = declared v rk-role t ++ declared_among v rk-role c

    quiet-key : (v : Bool) → declared v kr kt ≡ []
    quiet-key v = ap (λ z. declared v z kt) key_reads ∙ quiet v

    quiet-it : (v : Bool) → declared v kr (identifier it) ≡ []
    quiet-it true = ap (λ z. declared true z (identifier it)) key_reads
    quiet-it false = ap (λ z. declared false z (identifier it)) key_reads

    key-before : (v : Bool) → declared_among v rk-role before_key ≡ declared_among v rk-role a ++ yk v
    key-before true = (λ i. (((declared-joined true rk-role a (node PatternProperty lq (one kt then one t then done) before c) ∙ (λ j. declared_among true rk-role a ++ ((quiet-key true j ++ (declared true rk-role t ++ [])) ++ declared_among true rk-role c))) i ++ []) ++ []) ++ []) ∙ key-flat (declared_among true rk-role a) (declared true rk-role t) (declared_among true rk-role c)
    key-before false = (λ i. (((declared-joined false rk-role a (node PatternProperty lq (one kt then one t then done) before c) ∙ (λ j. declared_among false rk-role a ++ ((quiet-key false j ++ (declared false rk-role t ++ [])) ++ declared_among false rk-role c))) i ++ []) ++ []) ++ []) ∙ key-flat (declared_among false rk-role a) (declared false rk-role t) (declared_among false rk-role c)

    key-after : (v : Bool) → declared_among v rk-role after_key ≡ declared_among v rk-role a ++ (own-of b it v ++ yk v)
    unfolding own-of
    key-after true = (λ i. ((declared_among true rk-role a ++ []) ++ []) ++ ((((if is_asked true rk-role then it ∷ [] else []) ++ []) ++ (quiet true i ++ [])) ++ (((((quiet-it true i ++ (declared true rk-role t ++ [])) ++ declared_among true rk-role c) ++ []) ++ []) ++ []))) ∙ key-flatten (declared_among true rk-role a) (if is_asked true rk-role then it ∷ [] else []) (declared true rk-role t) (declared_among true rk-role c)
    key-after false = (λ i. ((declared_among false rk-role a ++ []) ++ []) ++ ((((if is_asked false rk-role then it ∷ [] else []) ++ []) ++ (quiet false i ++ [])) ++ (((((quiet-it false i ++ (declared false rk-role t ++ [])) ++ declared_among false rk-role c) ++ []) ++ []) ++ []))) ∙ key-flatten (declared_among false rk-role a) (if is_asked false rk-role then it ∷ [] else []) (declared false rk-role t) (declared_among false rk-role c)

    module _ (used : NamedAll w.in_use w.free_symbol rk-role before_key) where
      used-k : NamedAll w.in_use w.free_symbol rk-role a × NamedAll w.in_use w.free_symbol rk-role (node PatternProperty lq (one kt then one t then done) before c)
      used-k = named-joined w.in_use w.free_symbol rk-role a (node PatternProperty lq (one kt then one t then done) before c) used.0.1.0.1.0

      a-lack : (v : Bool) → Lacks k (declared_among v rk-role a)
      a-lack v y o e = declared-free-all w.in_use w.free_symbol y (k.fresh y o e) v rk-role a used-k.0

      key-used : Named w.in_use w.free_symbol reads kt
      key-used = subst (λ (z : Role). Named w.in_use w.free_symbol z kt) key_reads used-k.1.0.1.0

      scopes-key : (s : ℕ) → scopes_with s no_name kr kt ≡ scopes_with s no_name reads kt
      scopes-key s = ap (λ z. scopes_with s no_name z kt) key_reads

      scopes-it : (s : ℕ) → scopes_with s no_name kr (identifier it) ≡ 0
      scopes-it s = ap (λ z. scopes_with s no_name z (identifier it)) key_reads

      pub split-key : KeptAll k p (change_of d) rk-role before_key after_key
      split-key = record {
        lexical = subst (λ (z : List Bound). Lexical (change_of d) k z (declared_among false rk-role after_key)) (sym (key-before false)) (subst (λ (z : List Bound). Lexical (change_of d) k (declared_among false rk-role a ++ yk false) z) (sym (key-after false)) (lexical-it k it refl (not-sought w x free) (declared_among false rk-role a) (yk false) (a-lack false) b d));
        hoisted = subst (λ (z : List Bound). Hoisted (change_of d) k z (declared_among true rk-role after_key)) (sym (key-before true)) (subst (λ (z : List Bound). Hoisted (change_of d) k (declared_among true rk-role a ++ yk true) z) (sym (key-after true)) (hoisted-it k it refl (not-sought w x free) (declared_among true rk-role a) (yk true) (a-lack true) b d));
        named =
            let ns = more reads src-k used.0.1.1.0 in
            let nt = more rk-role t used-k.1.0.1.1.0 in
            let nk = more reads kt key-used in
            let na = named-more-all w.in_use k.in_use_after k.more w.free_symbol (w.free_symbol + 1) k.freer rk-role a used-k.0 in
            let nc = named-more-all w.in_use k.in_use_after k.more w.free_symbol (w.free_symbol + 1) k.freer rk-role c used-k.1.1 in
            let nq = own-more w.in_use k.in_use_after k.more w.free_symbol (w.free_symbol + 1) k.freer rk-role PatternProperty lq used-k.1.0.0 in
            let np = own-more w.in_use k.in_use_after k.more w.free_symbol (w.free_symbol + 1) k.freer rk-role ObjectPattern lp used.0.1.0.0 in
            let nx = subst (λ (z : Role). Named k.in_use_after (w.free_symbol + 1) z (identifier it)) (sym key_reads) ni in
            (((tt, tt), (((tt, tt), (na, tt)), (ns, tt))), (((tt, tt), (ni, (nk, tt))), (((tt, tt), ((np, (((nq, (nx, (nt, tt))), nc), tt)), (ns, tt))), tt)));
        scopes = λ s ps f. let g = scopes-joined s no_name rk-role a (node PatternProperty lq (one kt then one t then done) before c) in let h = scopes-key s in let e = scopes-it s in omega arith;
        new_scopes = λ s ps f.
            let e = scopes-it s in
            let za = no-scopes-all w.in_use w.free_symbol s f no_name rk-role a used-k.0 in
            let zc = no-scopes-all w.in_use w.free_symbol s f no_name rk-role c used-k.1.1 in
            let zt = no-scopes w.in_use w.free_symbol s f no_name rk-role t used-k.1.0.1.1.0 in
            let zk = no-scopes w.in_use w.free_symbol s f no_name reads kt key-used in
            no-more (scopes_among s ps rk-role after_key) (limit (change_of d) k s) (omega arith);
        resolved = λ o q g ps v h z.
            let parts = resolved-parts rk-role (body_place o) a (node PatternProperty lq (one kt then one t then done) before c) z.0.2.0.2.0 in
            let here = right-it b d k q x w.free_symbol (it-found w x free) v in
            let seen = sym (seen-it b d k q x w.free_symbol (it-found w x free) v) in
            let rs = stand w.in_use w.free_symbol reads (body_place o) (body_place q) g.scope g.hoist (λ y f. refl) src-k used.0.1.1.0 z.0.2.1.0 in
            let ra = stand-all w.in_use w.free_symbol rk-role (body_place o) (body_place q) g.scope g.hoist (λ y f. refl) a used-k.0 parts.0 in
            let rc = stand-all w.in_use w.free_symbol rk-role (body_place o) (body_place q) g.scope g.hoist (λ y f. refl) c used-k.1.1 parts.1.1 in
            let rt = stand w.in_use w.free_symbol rk-role (body_place o) (body_place q) g.scope g.hoist (λ y f. refl) t used-k.1.0.1.1.0 parts.1.0.2.1.0 in
            let rk = stand w.in_use w.free_symbol reads (body_place o) (body_place q) g.scope g.hoist (λ y f. refl) kt key-used (subst (λ (z : Role). Resolved z (body_place o) kt) key_reads parts.1.0.2.0) in
            let rx = subst (λ (z : Role). Resolved z (body_place q) (identifier it)) (sym key_reads) (seen, refl, tt) in
            ((tt, refl, ((tt, refl, (ra, tt)), (rs, tt))), ((tt, refl, ((here, refl, tt), (rk, tt))), ((tt, refl, ((tt, refl, (((tt, refl, (rx, (rt, tt))), rc), tt)), (rs, tt))), tt)));
      }

-- THE DECLARATION

closing-kind : {b : Binding} (d : Declares b) → closing (change_of d) false true ≡ change_of d
closing-kind (by_var e) = refl
closing-kind (lexically e) = refl

-- a declaration keeps what the list of its declarators keeps
pub declarators-kept : (n : Known) (b : Place) (c : Change) (r : Role) (m : Label) (ds es : Trees) → Named n.in_use n.free r (node VariableDeclaration m (many ds then done)) → KeptAll n (body_place b) c (Binds (kind_of_declaration m)) ds es → Kept n b (closing c false true) r (node VariableDeclaration m (many ds then done)) (node VariableDeclaration m (many es then done))
declarators-kept n b c r m ds es used h =
    let old = many ds then done in
    kept-node n b c r VariableDeclaration m old (many es then done) used.0 used.1
    (left-fields n (place_in b VariableDeclaration m (role_at r VariableDeclaration m old) old) c (role_at r VariableDeclaration m old) (many ds) (many es) done tt
    (as-many n (body_place b) c (Binds (kind_of_declaration m)) ds es h)
    (same-in (plain n) (λ i. place_in b VariableDeclaration m (role_at r VariableDeclaration m old) old (suc i)) (λ i. role_at r VariableDeclaration m old (suc i)) done tt))

-- and what the list that comes for one of them keeps
pub declaration-kept : (n : Known) (b : Place) (c : Change) (r : Role) (m : Label) (xs ys : Trees) (z : Tree) (es : Trees) → Named n.in_use n.free r (node VariableDeclaration m (many (joined_trees xs (z before ys)) then done)) → KeptAll n (body_place b) c (Binds (kind_of_declaration m)) (z before empty) es → Kept n b (closing c false true) r (node VariableDeclaration m (many (joined_trees xs (z before ys)) then done)) (node VariableDeclaration m (many (joined_trees xs (joined_trees es ys)) then done))
declaration-kept n b c r m xs ys z es used h =
    let role = Binds (kind_of_declaration m) in
    let parts = named-joined n.in_use n.free role xs (z before ys) used.1.0 in
    declarators-kept n b c r m (joined_trees xs (z before ys)) (joined_trees xs (joined_trees es ys)) used (kept-joined n (body_place b) c role xs (z before ys) (joined_trees es ys) parts.0 (several n (body_place b) c role (z before empty) es ys parts.1.1 h))

-- and what the list that comes for the first of them keeps
pub first-kept : (n : Known) (b : Place) (c : Change) (r : Role) (m : Label) (xs ys : Trees) (z : Tree) (es : Trees) → Named n.in_use n.free r (node VariableDeclaration m (many (joined_trees xs (z before ys)) then done)) → KeptAll n (body_place b) c (Binds (kind_of_declaration m)) (joined_trees xs (z before empty)) (joined_trees xs es) → Kept n b (closing c false true) r (node VariableDeclaration m (many (joined_trees xs (z before ys)) then done)) (node VariableDeclaration m (many (joined_trees xs (joined_trees es ys)) then done))
first-kept n b c r m xs ys z es used h =
    let role = Binds (kind_of_declaration m) in
    let parts = named-joined n.in_use n.free role xs (z before ys) used.1.0 in
    let list = several n (body_place b) c role (joined_trees xs (z before empty)) (joined_trees xs es) ys parts.1.1 h in
    declarators-kept n b c r m (joined_trees xs (z before ys)) (joined_trees xs (joined_trees es ys)) used
    (subst (λ (us : Trees). KeptAll n (body_place b) c role (joined_trees xs (z before ys)) us) (joined-twice xs es ys)
    (subst (λ (ts : Trees). KeptAll n (body_place b) c role ts (joined_trees (joined_trees xs es) ys)) (joined-twice xs (z before empty) ys) list))

split-parts : (p : Place) (w : Whole) (x : Text) (free : w.in_use x ≡ false) (b : Binding) (d : Declares b) (z : Tree) (es : Trees) → SplitsOff w (Binds b) x z es → NamedAll w.in_use w.free_symbol (Binds b) (z before empty) → KeptAll (knowing w x free) p (change_of d) (Binds b) (z before empty) es
split-parts p w x free b d z es (source l t e rest fresh quiet) used = split-source p w x free b d l t e quiet used
split-parts p w x free b d z es (nested l lp lq ls a c k t rest fresh) used = split-nested p w x free b d l lp lq ls a c k t used
split-parts p w x free b d z es (nested_default l lp lq la ls a c k t e rest fresh quiet) used = split-nested-d p w x free b d l lp lq la ls a c k t e quiet used
split-parts p w x free b d z es (key l lp lq ls a c k t fresh reads quiet) used = split-key p w x free b d l lp lq ls a c k t reads quiet used

not-above : {b : Binding} (d : Declares b) → is_above (change_of d) ≡ false
not-above (by_var e) = refl
not-above (lexically e) = refl

pub split-nodes : (n : Site) (s s' : Ledger) (t u : Tree) → SplitRule n s (at_node t) s' (at_node u) → Named (whole_in s).in_use (whole_in s).free_symbol n.role t → Outcome (NodesKept n t u) s s'
split-nodes n s s' t u (splits {w = w} {s = y} {q = q} {y = top} m a c z es x free d h) used =
    let parts = named-joined w.in_use w.free_symbol (Binds (kind_of_declaration m)) a (z before c) used.1.0 in
    one-taken q y top w x free (change_of d) (not-above d) (subst (λ (e : Change). Kept (knowing w x free) n.names e n.role t u) (closing-kind d) (declaration-kept (knowing w x free) n.names (change_of d) n.role m a c z es used (split-parts (body_place n.names) w x free (kind_of_declaration m) d z es h (parts.1.0, tt))))

pub split-only : (n : Site) (s s' : Ledger) (x y : Spot) → SplitRule n s x s' y → AtNodes x y
split-only n s s' x y (splits m a c z es v free d h) = tt

pub split-lawful : Lawful SplitRule
split-lawful = nodes-only {R = SplitRule} split-only split-nodes
