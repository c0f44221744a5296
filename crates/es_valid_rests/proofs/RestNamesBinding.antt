-- The names of a pattern, as a parameter declares them, and as a `let` declaration in the function's body does.
use Rattle.std.proofs.Common.{◌≡◌, ◌==◌, ◌+◌, ℕ, zero, suc, refl, sym, subst, ◌∙◌, List, [], ◌∷◌, ◌++◌, filter, arith}
use Rattle.std.specs.Prelude.{Bool, true, false, not, ◌&&◌, ◌||◌, Some, if◌then◌else◌}
use Rattle.es_tree.specs.Ancestors.{Ancestor}
use Rattle.es_tree.specs.Attributes.{child_entries}
use Rattle.es_tree.specs.DeclaredNames.{Name, bound_names, exported_names, name, parameter_names, is_class_key}
use Rattle.es_tree.specs.HasForm.{ElementsPlace, elements_of, same_type}
use Rattle.es_tree.specs.Names.{first_text}
use Rattle.es_tree.specs.Tree.{Tree, node, Label, Fields, done, ◌then◌, Field, missing, one, many, statements, Trees, empty, ◌before◌, kind_of, fields_of}
use Rattle.es_tree.specs.Words.{Text}
use Rattle.es_tree.specs.declared.ast_type.AstType.{AstType}
use Rattle.es_tree.specs.declared.ast_type.AstType.TheVariants.{ArrayExpression, ArrayPattern, ArrayTarget, ArrowFunctionExpression, AssignmentPattern, FunctionDeclaration, FunctionExpression, Identifier, ObjectPattern, PatternProperty, Program, RestElement}
use Rattle.es_tree.specs.declared.place.Namespace.TheVariants.{Parameters, Scope}
use Rattle.es_semantic.specs.RolesOf.{role_at}
use Rattle.es_semantic.specs.declared.place.Binding.TheVariants.{Parameter}
use Rattle.es_semantic.specs.declared.place.Role.{Role}
use Rattle.es_semantic.specs.declared.place.Role.TheVariants.{Binds}
use Rattle.es_semantic.proofs.FormEdges.{Edges, EdgesAll, EdgesBy, EdgesIn, ElementsFit, TableFits, elements-are, entries_fit, is_last}
use Rattle.es_resolution.specs.Declarations.{declared, declared_among, declared_by, declared_in, reaches_out}
use Rattle.es_valid_names.proofs.Claims.{above, claims, claims_all, claims_by, claims_in, is_owned, push}
use Rattle.es_valid_names.proofs.Mute.{Free, by-cases, free-declared, free-exported, free-filter, free-private, is_outer, mute, stands}
use Rattle.es_valid_names.proofs.StandsFit.{one-zero, two-one}
use Rattle.es_valid_using.proofs.UsingVars.{AllOk, from-none, later, not-true, ok-left, ok-right}

-- NAMES

abbrev pub pair : Text → List Name
pair x = parameter_names 1 x

abbrev pub let_name : Text → List Name
let_name x = name Scope 1 x true ∷ []

-- those of the same identifiers, each of which passes
pub data Turned (ok : Text → Bool) : List (List Name) → List (List Name) → Type 0 where
  no_list : Turned ok [] []
  turned : {gs hs : List (List Name)} (x : Text) → ok x ≡ true → Turned ok gs hs → Turned ok (pair x ∷ gs) (let_name x ∷ hs)

turned-both : {ok : Text → Bool} {gs hs ks ls : List (List Name)} → Turned ok gs hs → Turned ok ks ls → Turned ok (gs ++ ks) (hs ++ ls)
turned-both no_list k = k
turned-both (turned x e h) k = turned x e (turned-both h k)

-- WHAT STANDS IN A PATTERN

abbrev is_binding : AstType → Bool
is_binding ObjectPattern = true
is_binding ArrayPattern = true
is_binding PatternProperty = true
is_binding AssignmentPattern = true
is_binding RestElement = true
is_binding _ = false

abbrev pub binds_names : AstType → Bool
binds_names Identifier = true
binds_names k = is_binding k

-- a part of it, that binds names; so do parameters
abbrev pub has_part : AstType → ℕ → Bool
has_part ObjectPattern i = i == 0
has_part ArrayPattern i = true
has_part PatternProperty i = i == 1
has_part AssignmentPattern i = i == 0
has_part RestElement i = i == 0
has_part FunctionDeclaration i = i == 1
has_part FunctionExpression i = i == 1
has_part ArrowFunctionExpression i = i == 0
has_part k i = false

-- else an expression stands in a pattern
abbrev pub bound_inside : AstType → ℕ → Bool → AstType → Bool
bound_inside k i last j = not (same_type k Identifier) && (if has_part k i then binds_names j else not (is_binding k) || not (is_outer j))

entries-fit : (k : AstType) → entries_fit bound_inside k 0 (child_entries k) ≡ true
entries-fit Program = refl
entries-fit _ = refl

elements-fit : (k : AstType) (p : ElementsPlace) → elements_of (child_entries k) ≡ Some p → ElementsFit bound_inside k p
elements-fit ArrayExpression p e = elements-are bound_inside ArrayExpression _ p e (record { sort = λ i b. refl; last = λ i b. refl })
elements-fit ArrayPattern p e = elements-are bound_inside ArrayPattern _ p e (record { sort = λ i b. refl; last = λ i b. refl })
elements-fit ArrayTarget p e = elements-are bound_inside ArrayTarget _ p e (record { sort = λ i b. refl; last = λ i b. refl })
elements-fit _ p e = absurd (cc e)

pub bound-table : TableFits bound_inside
bound-table = record { entries = entries-fit; elements = elements-fit }

-- ITS ANCESTORS

-- identifiers there declare these names
pub record Declares (up : List Ancestor) (names : Text → List Name) : Type 0 where
  pub bound : (x : Text) → bound_names up x ≡ names x

part-bound : (k : AstType) (l : Label) (all : Fields) (i : ℕ) (up : List Ancestor) (x : Text) → is_binding k ≡ true → has_part k i ≡ true → bound_names (above k l all i 0 ∷ up) x ≡ bound_names up x
part-bound ObjectPattern l all i up x e d = rw d refl
part-bound ArrayPattern l all i up x e d = refl
part-bound PatternProperty l all i up x e d = rw d refl
part-bound AssignmentPattern l all i up x e d = rw d refl
part-bound RestElement l all i up x e d = rw d refl
part-bound _ l all i up x e d = absurd (cc e)

other-bound : (k : AstType) (l : Label) (all : Fields) (i : ℕ) (up : List Ancestor) (x : Text) → is_binding k ≡ true → has_part k i ≡ false → bound_names (above k l all i 0 ∷ up) x ≡ []
other-bound ObjectPattern l all i up x e d = rw d refl
other-bound ArrayPattern l all i up x e d = absurd (cc d)
other-bound PatternProperty l all i up x e d = rw d refl
other-bound AssignmentPattern l all i up x e d = rw d refl
other-bound RestElement l all i up x e d = rw d refl
other-bound _ l all i up x e d = absurd (cc e)

no-class-key : (k : AstType) (l : Label) (all : Fields) (i : ℕ) → is_binding k ≡ true → is_class_key (above k l all i 0 ∷ []) ≡ true → ⊥
no-class-key ObjectPattern l all i e d = absurd (cc d)
no-class-key ArrayPattern l all i e d = absurd (cc d)
no-class-key PatternProperty l all i e d = absurd (cc d)
no-class-key AssignmentPattern l all i e d = absurd (cc d)
no-class-key RestElement l all i e d = absurd (cc d)
no-class-key _ l all i e d = absurd (cc e)

-- what a test of a field says
part-says : (a p x y : Bool) → p ≡ true → (not a && (if p then x else y)) ≡ true → x ≡ true
part-says true p x y e h = absurd (cc h)
part-says false true x y e h = h
part-says false false x y e h = absurd (cc e)

other-says : (a p x b y : Bool) → b ≡ true → p ≡ false → (not a && (if p then x else not b || y)) ≡ true → y ≡ true
other-says true p x b y e d h = absurd (cc h)
other-says false true x b y e d h = absurd (cc d)
other-says false false x true y e d h = h
other-says false false x false y e d h = absurd (cc e)

pub part-binds : (k : AstType) (i : ℕ) → has_part k i ≡ true → (last : Bool) (j : AstType) → bound_inside k i last j ≡ true → binds_names j ≡ true
part-binds k i d last j h = part-says (same_type k Identifier) (has_part k i) (binds_names j) (not (is_binding k) || not (is_outer j)) d h

-- EXPRESSIONS in it declare nothing

module _ (up : List Ancestor) (k : AstType) (l : Label) (all : Fields) (i : ℕ) (e : is_binding k ≡ true) (d : has_part k i ≡ false) where
  abbrev beside : List Ancestor
  beside = above k l all i 0 ∷ up

  pub silent-tree : (last : Bool) (t : Tree) → Edges stands k i last t → Edges bound_inside k i last t → claims is_owned beside t ≡ []
  silent-tree last (node j m gs) s b =
      let inner = not-true (is_outer j) (other-says (same_type k Identifier) (has_part k i) (binds_names j) (is_binding k) (not (is_outer j)) e d b.0) in
      mute beside (node j m gs) inner (λ c. refl) s.1 (free-declared beside (node j m gs) (λ x. subst (λ (ns : List Name). Free ns) (sym (other-bound k l all i up x e d)) tt) (λ x. free-private (above k l all i 0) up x (λ c. absurd (no-class-key k l all i e c))) refl)

  silent-trees : (ts : Trees) → EdgesAll stands k i ts → EdgesAll bound_inside k i ts → claims_all is_owned beside ts ≡ []
  silent-trees empty s b = refl
  silent-trees (t before ts) s b = λ j. silent-tree false t s.0 b.0 j ++ silent-trees ts s.1 b.1 j

  silent-field : (last : Bool) (f : Field) → EdgesBy stands k i last f → EdgesBy bound_inside k i last f → claims_by is_owned beside f ≡ []
  silent-field last missing s b = refl
  silent-field last (one t) s b = silent-tree last t s b
  silent-field last (many ts) s b = silent-trees ts s b
  silent-field last (statements ts) s b = silent-trees ts s b

-- an identifier has no parts
bare-fields : (up : List Ancestor) (l : Label) (all : Fields) (i : ℕ) (fs : Fields) → EdgesIn bound_inside Identifier i fs → claims_in is_owned up Identifier l all 0 i fs ≡ []
bare-fields up l all i done b = refl
bare-fields up l all i (missing then fs) b = bare-fields up l all (suc i) fs b.1
bare-fields up l all i (one (node j m gs) then fs) b = absurd (cc b.0.0)
bare-fields up l all i (many empty then fs) b = bare-fields up l all (suc i) fs b.1
bare-fields up l all i (many (node j m gs before ts) then fs) b = absurd (cc b.0.0.0)
bare-fields up l all i (statements empty then fs) b = bare-fields up l all (suc i) fs b.1
bare-fields up l all i (statements (node j m gs before ts) then fs) b = absurd (cc b.0.0.0)

own-names : (up : List Ancestor) (l : Label) (fs : Fields) (g : List Name) → bound_names up (first_text l.texts) ≡ g → filter is_owned (g ++ exported_names up (first_text l.texts)) ≡ g → EdgesIn bound_inside Identifier 0 fs → claims is_owned up (node Identifier l fs) ≡ push g []
own-names up l fs g e d b =
    let x = first_text l.texts in
    let owned : filter is_owned (bound_names up x ++ exported_names up x) ≡ g = (λ j. filter is_owned (e j ++ exported_names up x)) ∙ d in
    λ i. push (owned i) (bare-fields up l fs 0 fs b i)

-- a parameter's name
pub pair-names : (up : List Ancestor) → Declares up pair → (l : Label) (fs : Fields) → EdgesIn bound_inside Identifier 0 fs → claims is_owned up (node Identifier l fs) ≡ pair (first_text l.texts) ∷ []
pair-names up h l fs b =
    let x = first_text l.texts in
    own-names up l fs (pair x) (h.bound x) (λ i. name Parameters 1 x true ∷ name Scope 1 x false ∷ free-filter (exported_names up x) (free-exported up x) i) b

-- PATTERNS

module _ (ok : Text → Bool) where
  counted : (k : AstType) (l : Label) (fs : Fields) → is_binding k ≡ true → (j : ℕ) → (reaches_out false k j ≡ true) × (has_part k j ≡ true → role_at (Binds Parameter) k l fs j ≡ Binds Parameter)
  counted ObjectPattern l fs e zero = (refl, λ d. refl)
  counted ObjectPattern l fs e (suc j) = (refl, λ d. absurd (cc (d, one-zero j)))
  counted ArrayPattern l fs e j = (refl, λ d. refl)
  counted PatternProperty l fs e zero = (refl, λ d. absurd (cc d))
  counted PatternProperty l fs e (suc zero) = (refl, λ d. refl)
  counted PatternProperty l fs e (suc (suc j)) = (refl, λ d. absurd (cc (d, two-one j)))
  counted AssignmentPattern l fs e zero = (refl, λ d. refl)
  counted AssignmentPattern l fs e (suc j) = (refl, λ d. absurd (cc (d, one-zero j)))
  counted RestElement l fs e zero = (refl, λ d. refl)
  counted RestElement l fs e (suc j) = (refl, λ d. absurd (cc (d, one-zero j)))
  counted _ l fs e j = absurd (cc e)

  counted-at : (k : AstType) (l : Label) (fs : Fields) → is_binding k ≡ true → (j n : ℕ) → n ≡ 0 + j → (reaches_out false k j ≡ true) × (has_part k n ≡ true → role_at (Binds Parameter) k l fs j ≡ Binds Parameter)
  counted-at k l fs e j n d = subst (λ (m : ℕ). (reaches_out false k j ≡ true) × (has_part k m ≡ true → role_at (Binds Parameter) k l fs j ≡ Binds Parameter)) (sym (d ∙ from-none j)) (counted k l fs e j)

  -- where identifiers declare as parameters, and where by `let`
  module _ (k : AstType) (e : is_binding k ≡ true) (l : Label) (all : Fields) where
    inner-names : (i : ℕ) → has_part k i ≡ true → (up : List Ancestor) (names : Text → List Name) → Declares up names → Declares (above k l all i 0 ∷ up) names
    inner-names i d up names h = record { bound = λ x. part-bound k l all i up x e d ∙ h.bound x }

  mutual
    pub binding-tree : (us vs : List Ancestor) (t : Tree) → Declares us pair → Declares vs let_name → binds_names (kind_of t) ≡ true → EdgesIn stands (kind_of t) 0 (fields_of t) → EdgesIn bound_inside (kind_of t) 0 (fields_of t) → AllOk ok (declared false (Binds Parameter) t) → Turned ok (claims is_owned us t) (claims is_owned vs t)
    binding-tree us vs (node Identifier l fs) h k b s p o =
        let x = first_text l.texts in
        let old = pair-names us h l fs p in
        let new = own-names vs l fs (let_name x) (k.bound x) (λ i. name Scope 1 x true ∷ free-filter (exported_names vs x) (free-exported vs x) i) p in
        subst (λ (gs : List (List Name)). Turned ok gs (claims is_owned vs (node Identifier l fs))) (sym old) (subst (λ (gs : List (List Name)). Turned ok (pair x ∷ []) gs) (sym new) (turned x o.0 no_list))
    binding-tree us vs (node ObjectPattern l fs) h k b s p o = binding-fields us vs ObjectPattern refl l fs 0 fs (reaches_out false ObjectPattern) (role_at (Binds Parameter) ObjectPattern l fs) (counted-at ObjectPattern l fs refl) h k s p o
    binding-tree us vs (node ArrayPattern l fs) h k b s p o = binding-fields us vs ArrayPattern refl l fs 0 fs (reaches_out false ArrayPattern) (role_at (Binds Parameter) ArrayPattern l fs) (counted-at ArrayPattern l fs refl) h k s p o
    binding-tree us vs (node PatternProperty l fs) h k b s p o = binding-fields us vs PatternProperty refl l fs 0 fs (reaches_out false PatternProperty) (role_at (Binds Parameter) PatternProperty l fs) (counted-at PatternProperty l fs refl) h k s p o
    binding-tree us vs (node AssignmentPattern l fs) h k b s p o = binding-fields us vs AssignmentPattern refl l fs 0 fs (reaches_out false AssignmentPattern) (role_at (Binds Parameter) AssignmentPattern l fs) (counted-at AssignmentPattern l fs refl) h k s p o
    binding-tree us vs (node RestElement l fs) h k b s p o = binding-fields us vs RestElement refl l fs 0 fs (reaches_out false RestElement) (role_at (Binds Parameter) RestElement l fs) (counted-at RestElement l fs refl) h k s p o
    binding-tree us vs (node _ l fs) h k b s p o = absurd (cc b)

    binding-fields : (us vs : List Ancestor) (k : AstType) → is_binding k ≡ true → (l : Label) (all : Fields) (i : ℕ) (fs : Fields) (counts : ℕ → Bool) (roles : ℕ → Role) → ((j n : ℕ) → n ≡ i + j → (counts j ≡ true) × (has_part k n ≡ true → roles j ≡ Binds Parameter)) →
        Declares us pair → Declares vs let_name → EdgesIn stands k i fs → EdgesIn bound_inside k i fs → AllOk ok (declared_in false counts roles fs) → Turned ok (claims_in is_owned us k l all 0 i fs) (claims_in is_owned vs k l all 0 i fs)
    binding-fields us vs k e l all i done counts roles c h g s p o = no_list
    binding-fields us vs k e l all i (f then fs) counts roles c h g s p o =
        let here = c zero i (omega arith) in
        let own = ok-left ok (if counts zero then declared_by false (roles zero) f else []) (declared_in false (λ j. counts (suc j)) (λ j. roles (suc j)) fs) o in
        let rest = ok-right ok (if counts zero then declared_by false (roles zero) f else []) (declared_in false (λ j. counts (suc j)) (λ j. roles (suc j)) fs) o in
        turned-both
        (by-cases (Turned ok (claims_by is_owned (above k l all i 0 ∷ us) f) (claims_by is_owned (above k l all i 0 ∷ vs) f)) (has_part k i)
        (λ d. binding-part (above k l all i 0 ∷ us) (above k l all i 0 ∷ vs) k e i d (is_last fs) f (inner-names k e l all i d us pair h) (inner-names k e l all i d vs let_name g) s.0 p.0 (subst (λ (q : Role). AllOk ok (declared_by false q f)) (here.1 d) (subst (λ (b : Bool). AllOk ok (if b then declared_by false (roles zero) f else [])) here.0 own)))
        (λ d. subst (λ (gs : List (List Name)). Turned ok gs (claims_by is_owned (above k l all i 0 ∷ vs) f)) (sym (silent-field us k l all i e d (is_last fs) f s.0 p.0)) (subst (λ (gs : List (List Name)). Turned ok [] gs) (sym (silent-field vs k l all i e d (is_last fs) f s.0 p.0)) no_list)))
        (binding-fields us vs k e l all (suc i) fs (λ j. counts (suc j)) (λ j. roles (suc j)) (λ j n d. c (suc j) n (d ∙ later i j)) h g s.1 p.1 rest)

    binding-part : (us vs : List Ancestor) (k : AstType) → is_binding k ≡ true → (i : ℕ) → has_part k i ≡ true → (last : Bool) (f : Field) → Declares us pair → Declares vs let_name → EdgesBy stands k i last f → EdgesBy bound_inside k i last f → AllOk ok (declared_by false (Binds Parameter) f) → Turned ok (claims_by is_owned us f) (claims_by is_owned vs f)
    binding-part us vs k e i d last missing h g s p o = no_list
    binding-part us vs k e i d last (one (node j m gs)) h g s p o = binding-tree us vs (node j m gs) h g (part-binds k i d last j p.0) s.1 p.1 o
    binding-part us vs k e i d last (many ts) h g s p o = binding-trees us vs k i (part-binds k i d false) ts h g s p o
    binding-part us vs k e i d last (statements ts) h g s p o = binding-trees us vs k i (part-binds k i d false) ts h g s p o

    pub binding-trees : (us vs : List Ancestor) (k : AstType) (i : ℕ) → ((j : AstType) → bound_inside k i false j ≡ true → binds_names j ≡ true) → (ts : Trees) → Declares us pair → Declares vs let_name → EdgesAll stands k i ts → EdgesAll bound_inside k i ts → AllOk ok (declared_among false (Binds Parameter) ts) → Turned ok (claims_all is_owned us ts) (claims_all is_owned vs ts)
    binding-trees us vs k i c empty h g s p o = no_list
    binding-trees us vs k i c (node j m gs before ts) h g s p o =
        turned-both
        (binding-tree us vs (node j m gs) h g (c j p.0.0) s.0.1 p.0.1 (ok-left ok (declared false (Binds Parameter) (node j m gs)) (declared_among false (Binds Parameter) ts) o))
        (binding-trees us vs k i c ts h g s.1 p.1 (ok-right ok (declared false (Binds Parameter) (node j m gs)) (declared_among false (Binds Parameter) ts) o))
