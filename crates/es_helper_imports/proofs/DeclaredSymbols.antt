-- In a resolved tree each declared name has a symbol: a name finds one from the list of a program where the program declares it, by `var` or otherwise.
use Rattle.std.proofs.Common.{◌≡◌, ℕ, suc, refl, ap, ◌∙◌, List, [], ◌∷◌, ◌++◌}
use Rattle.std.specs.List.{list_all}
use Rattle.std.specs.Prelude.{Bool, true, false, ◌||◌, Option, Some, is_some, bytes_eq, if◌then◌else◌}
use Rattle.std.proofs.lemmas.Bool.{and_from, and_parts}
use Rattle.es_tree.specs.Names.{first_text}
use Rattle.es_tree.specs.Tree.{Tree, node, Label, Fields, done, ◌then◌, Field, missing, one, many, statements, Trees, empty, ◌before◌, fields_of, kind_of, label_of}
use Rattle.es_tree.specs.Words.{Text}
use Rattle.es_tree.specs.declared.ast_type.AstType.{AstType}
use Rattle.es_tree.specs.declared.ast_type.AstType.TheVariants.{Identifier, Program}
use Rattle.es_semantic.specs.Places.{is_inside}
use Rattle.es_semantic.specs.RolesOf.{reads, role_at}
use Rattle.es_semantic.specs.declared.place.Role.{Role}
use Rattle.es_semantic.specs.declared.place.Role.TheVariants.{Binds}
use Rattle.es_resolution.specs.Declarations.{Bound, declared, declared_among, declared_by, declared_in, is_asked, own_declared, reaches_out, sought, symbol_of}
use Rattle.es_resolution.specs.Resolved.{IsMarked, IsResolved, OwnRight, Place, Resolved, ResolvedAll, ResolvedBy, ResolvedIn, bound_by, has_symbol, nowhere, or_around, place_in, within}
use Rattle.es_resolution.proofs.Basics.{every}
use Rattle.es_top_imports.specs.Laws.{list_place}

both-marked : (bs cs : List Bound) → IsMarked bs → IsMarked cs → IsMarked (bs ++ cs)
both-marked [] cs e d = d
both-marked (b ∷ bs) cs e d = let k = and_parts (has_symbol b) (list_all has_symbol bs) e in and_from (has_symbol b) (list_all has_symbol (bs ++ cs)) k.0 (both-marked bs cs k.1 d)

marked-where : (c : Bool) (bs : List Bound) → IsMarked bs → IsMarked (if c then bs else [])
marked-where true bs e = e
marked-where false bs e = refl

own-marked : (v : Bool) (r : Role) (p : Place) (k : AstType) (l : Label) → OwnRight p r k l → IsMarked (own_declared v r k l)
own-marked v (Binds b) p Identifier l h = marked-where (is_asked v (Binds b)) (record { name = first_text l.texts; symbol = symbol_of l } ∷ []) (and_from (is_some (symbol_of l)) true h.1 refl)
own-marked v _ p Identifier l h = refl
own-marked v r p _ l h = refl

module _ (v : Bool) where
  mutual
    tree-marked : (r : Role) (p : Place) (t : Tree) → Resolved r p t → IsMarked (declared v r t)
    tree-marked r p (node k l fs) h = both-marked (own_declared v r k l) (declared_in v (reaches_out v k) (role_at r k l fs) fs) (own-marked v r p k l h.0) (fields-marked (reaches_out v k) (role_at r k l fs) (place_in p k l (role_at r k l fs) fs) fs h.2)

    pub fields-marked : (counts : ℕ → Bool) (roles : ℕ → Role) (places : ℕ → Place) (fs : Fields) → ResolvedIn roles places fs → IsMarked (declared_in v counts roles fs)
    fields-marked counts roles places done h = refl
    fields-marked counts roles places (f then fs) h =
        both-marked (if counts 0 then declared_by v (roles 0) f else []) (declared_in v (λ i. counts (suc i)) (λ i. roles (suc i)) fs) (marked-where (counts 0) (declared_by v (roles 0) f) (field-marked (roles 0) (places 0) f h.0))
        (fields-marked (λ i. counts (suc i)) (λ i. roles (suc i)) (λ i. places (suc i)) fs h.1)

    field-marked : (r : Role) (p : Place) (f : Field) → ResolvedBy r p f → IsMarked (declared_by v r f)
    field-marked r p missing h = refl
    field-marked r p (one t) h = tree-marked r p t h
    field-marked r p (many ts) h = trees-marked r p ts h
    field-marked r p (statements ts) h = trees-marked r p ts h

    trees-marked : (r : Role) (p : Place) (ts : Trees) → ResolvedAll r p ts → IsMarked (declared_among v r ts)
    trees-marked r p empty h = refl
    trees-marked r p (t before ts) h = both-marked (declared v r t) (declared_among v r ts) (tree-marked r p t h.0) (trees-marked r p ts h.1)

-- LOOK-UP

-- one scope more around, whose names have symbols
within-found : (bs : List Bound) (f : Text → Option ℕ) (x : Text) → IsMarked bs → is_some (within bs f x) ≡ (bound_by bs x || is_some (f x))
within-found [] f x h = refl
within-found (b ∷ bs) f x h =
    let k = and_parts (has_symbol b) (list_all has_symbol bs) h in
    at (bytes_eq b.name x) b.symbol (sought bs x) k.0 (within-found bs f x k.1)
  where
    at : (c : Bool) (s : Option ℕ) (o : Option (Option ℕ)) → is_some s ≡ true → is_some (or_around o (f x)) ≡ (is_some o || is_some (f x)) → is_some (or_around (if c then Some s else o) (f x)) ≡ (is_some (if c then Some s else o) || is_some (f x))
    at true s o e g = e
    at false s o e g = g

-- which fields of a program are in its scope: of what is declared by `var` each
abbrev pub at_top : Bool → ℕ → Bool
at_top true = every
at_top false = is_inside Program

-- whether a program declares this name: by `var`, or otherwise
abbrev pub top_declares : Bool → Text → Tree → Bool
top_declares v x t = bound_by (declared_in v (at_top v) (role_at reads Program (label_of t) (fields_of t)) (fields_of t)) x

nothing-more : (b : Bool) → (b || false) ≡ b
nothing-more true = refl
nothing-more false = refl

pub list-finds : (t : Tree) → kind_of t ≡ Program → IsResolved t → (x : Text) → is_some ((list_place t).scope x) ≡ (top_declares false x t || top_declares true x t)
list-finds (node Program l fs) e h x =
    let roles = role_at reads Program l fs in
    let places = place_in nowhere Program l roles fs in
    let vars = declared_in true every roles fs in
    within-found (declared_in false (is_inside Program) roles fs) (within vars nowhere.scope) x (fields-marked false (is_inside Program) roles places fs h.2)
    ∙ ap (λ b. top_declares false x (node Program l fs) || b) (within-found vars nowhere.scope x (fields-marked true every roles places fs h.2) ∙ nothing-more (bound_by vars x))
list-finds (node k l fs) e h x = absurd (cc e)
