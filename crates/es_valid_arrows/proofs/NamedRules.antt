-- What each rule owes for the rules of declared names where arrows become functions, and that those which owed it before owe no more.
use Rattle.std.proofs.Common.{◌≡◌, inl, inr, refl, sym, subst, ◌∙◌, List, [], ◌∷◌, ◌++◌}
use Rattle.std.specs.Prelude.{◌&&◌, not, Bool, true, false, Option, Some, None, is_some}
use Rattle.es_tree.specs.Ancestors.{Ancestor}
use Rattle.es_tree.specs.DeclaredNames.{Name, bound_names, exported_names}
use Rattle.es_tree.specs.HasForm.{has_form, same_type}
use Rattle.es_tree.specs.StaticRules.{is_constructor_key}
use Rattle.es_tree.specs.Tree.{Tree, node, Label, Fields, done, ◌then◌, missing, one, many, statements, Trees, empty, ◌before◌, kind_of}
use Rattle.es_tree.specs.Words.{Text}
use Rattle.es_tree.specs.declared.ast_type.AstType.TheVariants.{ArrowFunctionExpression, FunctionBody, FunctionExpression, Identifier, Program, ReturnStatement, ThisExpression}
use Rattle.es_tree.specs.declared.options.EnvOptions.{EnvOptions}
use Rattle.es_tree.specs.declared.table.Sort.{Sort}
use Rattle.es_tree.specs.declared.table.Sort.TheVariants.{Expression as s-Expression}
use Rattle.es_resolution.specs.Declarations.{Bound}
use Rattle.es_steps.specs.Arrows.{ArrowRule}
use Rattle.es_steps.specs.Arrows.ArrowRule.{by_name, by_new_name, with_body, with_expression}
use Rattle.es_steps.specs.CoreRules.{where_on}
use Rattle.es_steps.specs.Nodes.{body_node, identifier, made, placed, return_node}
use Rattle.es_steps.specs.Open.{is_import}
use Rattle.es_steps.specs.Rules.{next_name}
use Rattle.es_steps.specs.Slots.{is_slot}
use Rattle.es_steps.specs.Steps.{Ledger, Site, Spot}
use Rattle.es_steps.specs.Steps.Spot.{at_node}
use Rattle.es_steps.proofs.FormLists.{narrower}
use Rattle.es_steps.proofs.FormRules.{no-names}
use Rattle.es_steps.proofs.RuleLaws.{used-after}
use Rattle.es_steps.proofs.Taken.{this_in}
use Rattle.es_steps.proofs.Temporaries.{AreTaken}
use Rattle.es_valid_steps.proofs.FurtherSteps.{alone}
use Rattle.es_valid_names.proofs.Claims.{Around, Clear, Distinct, Stand, above, claims, claims_all, elsewhere, face, is_local, is_owned, push}
use Rattle.es_valid_names.proofs.ClearPending.{IsFresh, ThisGrown, expression-mute, new-this, same-this}
use Rattle.es_valid_names.proofs.ClearRules.{MoreNames, NewNames, alone-names, nothing-new as no-news, taken-new, use_in}
use Rattle.es_valid_names.proofs.Grown.{Grown, grown-self, still-distinct}
use Rattle.es_valid_names.proofs.MoreAround.{Allows, clear-more, clear-more-all}
use Rattle.es_valid_names.proofs.Mute.{Free, free-append, free-exported, free-filter, mute-expression}
use Rattle.es_valid_arrows.proofs.ArrowForms.{arrow-parts}
use Rattle.es_valid_arrows.proofs.ArrowSteps.{arrows_alone}
use Rattle.es_valid_arrows.proofs.NameLike.{claims-all-like, claims-like}
use Rattle.es_valid_arrows.proofs.NameLike.AllLike.{none, some}
use Rattle.es_valid_arrows.proofs.NameLike.Like.{parameters, in_body}

-- WHAT A RULE LEAVES

-- the name that is pending for `this`: the same, or a fresh one where none was
pub data ThisNames (used used' : Text → Bool) : Option Bound → Option Bound → Type 0 where
  same_name : {x : Option Bound} → ThisNames used used' x x
  new_name : {b : Bound} → IsFresh used used' b → ThisNames used used' None (Some b)

pub this-names-grown : (used used' : Text → Bool) {x y : Option Bound} → ThisNames used used' x y → ThisGrown used used' x y
this-names-grown used used' (same_name {x = x}) = same-this used used' x x refl
this-names-grown used used' (new_name {b = b} h) = new-this used used' b h

-- fresh temporaries more are pending, and maybe a fresh name of `this`, all in use afterwards
abbrev pub FreshNames : Ledger → Ledger → Type 0
FreshNames s s' = MoreNames (ThisNames (use_in s) (use_in s')) s s'

fresh-names : (s s' : Ledger) → NewNames s s' → FreshNames s s'
fresh-names s s' h = record { names = h.names; pending = h.pending; this = subst (λ (x : Option Bound). ThisNames (use_in s) (use_in s') (this_in s) x) (sym h.this) same_name; top = h.top; fresh = h.fresh; more = h.more }

pub nothing-new : (s s' : Ledger) → s ≡ s' → FreshNames s s'
nothing-new s s' e = fresh-names s s' (no-news s s' e)

-- where `this` stands nothing is bound, and no local name of an export
abbrev pub Unbound : List Ancestor → Tree → Type 0
Unbound up t = same_type (kind_of t) ThisExpression ≡ true → (x : Text) → Free (bound_names up x)

abbrev pub Unlocal : Stand → Tree → Type 0
Unlocal st t = same_type (kind_of t) ThisExpression ≡ true → is_local st ≡ false

pub record NamedLeft (s s' : Ledger) (t u : Tree) : Type 0 where
  pub grown : (up : List Ancestor) → Unbound up t → Grown (use_in s) (use_in s') (claims is_owned up t) (claims is_owned up u)
  pub clear : (c d : Around) → c.used ≡ use_in s → d.used ≡ use_in s' → Allows c d → (st : Stand) → Unlocal st t → Clear c st t → Clear d st u
  pub name : same_type (kind_of t) ThisExpression ≡ false → same_type (kind_of u) Identifier ≡ same_type (kind_of t) Identifier
  pub key : same_type (kind_of t) ThisExpression ≡ false → is_constructor_key (Some u) ≡ true → is_constructor_key (Some t) ≡ true
  pub imports : is_import u ≡ is_import t
  pub inside : same_type (kind_of t) Program ≡ false
  pub names : FreshNames s s'

pub record NamedLawful (R : Site → Ledger → Spot → Ledger → Spot → Type 0) : Type 0 where
  pub at_nodes : (n : Site) (s s' : Ledger) (t u : Tree) (a : Sort) → (is_slot n.above ≡ true → a ≡ s-Expression) → R n s (at_node t) s' (at_node u) → has_form a t ≡ true → has_form a u ≡ true → NamedLeft s s' t u

-- RULES

mute-grown : {used used' : Text → Bool} (gs hs : List (List Name)) → gs ≡ [] → hs ≡ [] → Grown used used' gs hs
mute-grown {used} {used'} gs hs e d = subst (λ (xs : List (List Name)). Grown used used' xs hs) (sym e) (subst (λ (ys : List (List Name)). Grown used used' [] ys) (sym d) (grown-self []))

alone-named : (o : EnvOptions) → NamedLawful (alone o)
alone-named o = record { at_nodes = nodes }
  where
    nodes : (n : Site) (s s' : Ledger) (t u : Tree) (a : Sort) → (is_slot n.above ≡ true → a ≡ s-Expression) → alone o n s (at_node t) s' (at_node u) → has_form a t ≡ true → has_form a u ≡ true → NamedLeft s s' t u
    nodes n s s' t u a slot h f g =
        let k = (alone-names o).at_nodes n s s' t u a slot h f g in
        record { grown = λ up e. k.grown up; clear = λ c d e j m st x. k.clear c d e j m st; name = λ e. k.name; key = λ e. k.key; imports = k.imports; inside = k.inside; names = fresh-names s s' k.names }

-- `this`, and a name in its place
this-grown : {used used' : Text → Bool} (l : Label) (b : Bound) (up : List Ancestor) → Unbound up (node ThisExpression l done) → Grown used used' (claims is_owned up (node ThisExpression l done)) (claims is_owned up (placed l (identifier b)))
this-grown l b up f = mute-grown (claims is_owned up (node ThisExpression l done)) (claims is_owned up (placed l (identifier b))) refl (λ j. push (free-filter (bound_names up b.name ++ exported_names up b.name) (free-append (bound_names up b.name) (exported_names up b.name) (f refl b.name) (free-exported up b.name)) j) [])

-- a function in the place of an arrow: what is owned is the same
function-clear : (c d : Around) (st : Stand) (l : Label) (ps : Trees) (b e : Tree) → Allows c d → claims is_owned (above FunctionExpression l (missing then many ps then one e then done) 2 1 ∷ []) e ≡ claims is_owned (above ArrowFunctionExpression l (many ps then one b then done) 1 1 ∷ []) b → (Clear c elsewhere b → Clear d elsewhere e) →
    Clear c st (node ArrowFunctionExpression l (many ps then one b then done)) → Clear d st (node FunctionExpression l (missing then many ps then one e then done))
function-clear c d st l ps b e m same inner k =
    let old : Fields = many ps then one b then done in
    let new : Fields = missing then many ps then one e then done in
    let owned : claims_all is_owned (above FunctionExpression l new 1 1 ∷ []) ps ++ (claims is_owned (above FunctionExpression l new 2 1 ∷ []) e ++ []) ≡ claims_all is_owned (above ArrowFunctionExpression l old 0 1 ∷ []) ps ++ (claims is_owned (above ArrowFunctionExpression l old 1 1 ∷ []) b ++ []) =
    λ j. claims-all-like (some (parameters {l = l} {m = l} {fs = face 0 old} {gs = face 1 new} {n = 1}) none) ps j ++ (same j ++ []) in
    (subst (λ (gs : List (List Name)). Distinct d.used [] gs) (sym owned) (still-distinct c.used d.used m.used [] _ k.0), refl, (tt, (clear-more-all c d m elsewhere ps k.2.0, (inner k.2.1.0, tt))))

arrow-named : NamedLawful ArrowRule
arrow-named = record { at_nodes = nodes }
  where
    functions : (s : Ledger) (a : Sort) (t u : Tree) → kind_of t ≡ ArrowFunctionExpression → kind_of u ≡ FunctionExpression → has_form a t ≡ true → has_form a u ≡ true → (up : List Ancestor) → Grown (use_in s) (use_in s) (claims is_owned up t) (claims is_owned up u)
    functions s a (node ArrowFunctionExpression l fs) (node FunctionExpression m gs) e d f g up = mute-grown (claims is_owned up (node ArrowFunctionExpression l fs)) (claims is_owned up (node FunctionExpression m gs)) (mute-expression a up (node ArrowFunctionExpression l fs) refl refl f tt) (mute-expression a up (node FunctionExpression m gs) refl refl g tt)
    functions s a (node ArrowFunctionExpression l fs) (node k m gs) e d f g up = absurd (cc d)
    functions s a (node k l fs) u e d f g up = absurd (cc e)

    nodes : (n : Site) (s s' : Ledger) (t u : Tree) (a : Sort) → (is_slot n.above ≡ true → a ≡ s-Expression) → ArrowRule n s (at_node t) s' (at_node u) → has_form a t ≡ true → has_form a u ≡ true → NamedLeft s s' t u
    nodes n s s' t u a slot (by_name {l = l} {x = x} {s = symbol} reads belongs reaches found used below) f g = record {
      grown = this-grown l (record { name = x; symbol = Some symbol });
      clear = λ c d e j m st h k. (tt, (λ i. h refl i && not (d.top x)), tt);
      name = λ e. absurd (cc e);
      key = λ e. absurd (cc e);
      imports = refl;
      inside = refl;
      names = nothing-new s s' refl;
    }
    nodes n s s' t u a slot (by_new_name {w = w} {p = p} {l = l} {x = x} reads belongs reaches fresh) f g =
        let b = next_name w x in
        let taken : AreTaken w.in_use w.free_symbol (b ∷ []) = ((fresh.free, refl), tt) in
        record {
          grown = this-grown l b;
          clear = λ c d e j m st h k. (tt, (λ i. h refl i && not (d.top x)), tt);
          name = λ e. absurd (cc e);
          key = λ e. absurd (cc e);
          imports = refl;
          inside = refl;
          names = record { names = []; pending = no-names p; this = new_name (taken-new w (b ∷ []) taken).0; top = refl; fresh = tt; more = λ y z. used-after (b ∷ []) w.in_use y z };
        }
    nodes n s s' t u a slot (with_body {l = l} {m = bl} {ps = ps} {fs = fs} no_this) f g = record {
      grown = λ up e. functions s a t u refl refl f g up;
      clear = λ c d e j m st h k. function-clear c d st l ps (node FunctionBody bl fs) (node FunctionBody bl fs) m (claims-like (some in_body none) (node FunctionBody bl fs)) (λ q. clear-more c d m _ (node FunctionBody bl fs) q) k;
      name = λ e. refl;
      key = λ e d. absurd (cc d);
      imports = refl;
      inside = refl;
      names = nothing-new s s' refl;
    }
    nodes n s s' t u a slot (with_expression {l = l} {ps = ps} {e = e} expression no_this) f g =
        let formed = narrower e expression.no_body (arrow-parts a l ps e f).inner in
        let body = body_node (return_node e before empty) in
        let old : Fields = many ps then one e then done in
        let new : Fields = missing then many ps then one body then done in
        let inside = above FunctionBody (made [] []) (many empty then statements (return_node e before empty) then done) 1 0 ∷ (above FunctionExpression l new 2 1 ∷ []) in
        let returned : claims is_owned (above FunctionExpression l new 2 1 ∷ []) body ≡ [] = λ i. ((expression-mute (above ReturnStatement (made [] []) (one e then done) 0 0 ∷ inside) e formed (λ x. tt) i ++ []) ++ []) ++ [] in
        let bare : claims is_owned (above ArrowFunctionExpression l old 1 1 ∷ []) e ≡ [] = expression-mute (above ArrowFunctionExpression l old 1 1 ∷ []) e formed (λ x. tt) in
        record {
          grown = λ up d. functions s a t u refl refl f g up;
          clear = λ c d v j m st h k. function-clear c d st l ps e body m (returned ∙ sym bare) (λ q. (tt, refl, (tt, (((tt, refl, (clear-more c d m _ e q, tt)), tt), tt)))) k;
          name = λ d. refl;
          key = λ d h. absurd (cc h);
          imports = refl;
          inside = refl;
          names = nothing-new s s' refl;
        }

pub arrows-named : (o : EnvOptions) → NamedLawful (arrows_alone o)
arrows-named o = record { at_nodes = nodes }
  where
    on-named : (b : Bool) → NamedLawful (where_on b ArrowRule)
    on-named true = arrow-named
    on-named false = record { at_nodes = λ n s s' t u a slot d f g. absurd d }

    nodes : (n : Site) (s s' : Ledger) (t u : Tree) (a : Sort) → (is_slot n.above ≡ true → a ≡ s-Expression) → arrows_alone o n s (at_node t) s' (at_node u) → has_form a t ≡ true → has_form a u ≡ true → NamedLeft s s' t u
    nodes n s s' t u a slot (inl h) f g = (alone-named o).at_nodes n s s' t u a slot h f g
    nodes n s s' t u a slot (inr h) f g = (on-named (is_some o.es2015.arrow_function)).at_nodes n s s' t u a slot h f g
