-- The symbols of a core program: those of the definition over every program are the declared names of the one over core programs,
-- all in the program's scope.
use Rattle.std.proofs.Common.{◌≡◌, ℕ, zero, suc, ◌+◌, ◌==◌, arith, refl, sym, ap, ◌∙◌, List, [], ◌∷◌, ◌++◌, map, filter, cond}
use Rattle.std.proofs.lemmas.Bool.Decides.{nat_tests}
use Rattle.std.proofs.lemmas.List.{append-nil, append_assoc}
use Rattle.std.proofs.lemmas.List.Elements.{All-nil, All-cons, All-append, All-head, All-tail, All-filter}
use Rattle.std.proofs.lemmas.List.Folds.{list_any-append}
use Rattle.std.specs.Cmp.Lexicographic.{bytes_decides}
use Rattle.std.specs.List.{All}
use Rattle.std.specs.Prelude.{Bool, true, false, not, ◌&&◌, ◌||◌, Some, None, option_map, bytes_eq, if◌then◌else◌}
use Rattle.es_tree.specs.Core.{IsCoreProgram}
use Rattle.es_tree.specs.Names.{first_text}
use Rattle.es_tree.specs.References.{Role as CoreRole, binding, reads as core_reads, role_at as core_role_at}
use Rattle.es_tree.specs.Scopes.{Declared as CoreDeclared, declarator_name, declared_names, declared_by, declared_in_body, declared_of}
use Rattle.es_tree.specs.Symbols.{has_other_name, place_of, symbols, symbol_of}
use Rattle.es_tree.specs.Tree.{Tree, node, Label, Fields, done, ◌then◌, Field, missing, one, many, statements, Trees, empty, ◌before◌}
use Rattle.es_tree.specs.Words.{Text}
use Rattle.es_tree.specs.declared.ast_type.AstType.{AstType}
use Rattle.es_tree.specs.declared.ast_type.AstType.TheVariants.{Program, ExpressionStatement, VariableDeclaration, VariableDeclarator, Identifier, ClassDeclaration, ClassExpression}
use Rattle.es_semantic.specs.Places.{Place, Visit, outermost, own_scope_count, place_in, scope_count_in, scope_count_in_field, visits, visits_in_fields, visits_in_field, visits_in_trees}
use Rattle.es_semantic.specs.RolesOf.{binding_of}
use Rattle.es_semantic.specs.SymbolFlags.{flags_of}
use Rattle.es_semantic.specs.SymbolsOf.{Declared, declared, is_bound, is_symbol, symbol_flags, symbol_in, symbols_of, with_identifier, with_node, with_symbol, with_visits}
use Rattle.es_semantic.specs.declared.place.Binding.{Binding}
use Rattle.es_semantic.specs.declared.place.Role.{Role}
use Rattle.es_semantic.specs.declared.place.Role.TheVariants.{Nothing, Binds, Refers, Top, Member, Constructor}
use Rattle.es_semantic.proofs.CoreParts.{HasFlags, IsDeclarator, AreDeclarators, IsItem, AreItems, HasParts, core-parts}
use Rattle.es_semantic.proofs.CoreRoles.{is_inner_kind, is_quiet, quiet_below, quiet_kind, InTree, InFields, InField, InTrees}
use Rattle.es_semantic.proofs.CoreWalks.{InProgram, in_program_below, scope_zero}

-- QUIET PARTS declare nothing

visits-append : (ds : List Declared) (us vs : List Visit) → with_visits ds (us ++ vs) ≡ with_visits (with_visits ds us) vs
visits-append ds [] vs = refl
visits-append ds (u ∷ us) vs = visits-append (with_node ds u.place u.next u.kind u.label u.fields) us vs

still_identifier : (ds : List Declared) (p : Place) (r : Role) (x : Text) → is_quiet r ≡ true → with_identifier ds p r x ≡ ds
still_identifier ds p Nothing x q = refl
still_identifier ds p (Refers f) x q = refl
still_identifier ds p (Binds b) x q = absurd (cc q)
still_identifier ds p Top x q = absurd (cc q)
still_identifier ds p (Member d) x q = absurd (cc q)
still_identifier ds p (Constructor d) x q = absurd (cc q)

still_node : (ds : List Declared) (p : Place) (n : ℕ) (k : AstType) (l : Label) (fs : Fields) → is_inner_kind k ≡ true → is_quiet p.role ≡ true → with_node ds p n k l fs ≡ ds
still_node ds p n Identifier l fs c q = still_identifier ds p p.role (first_text l.texts) q
still_node ds p n ClassDeclaration l fs c q = absurd (cc c)
still_node ds p n ClassExpression l fs c q = absurd (cc c)
still_node ds p n _ l fs c q = refl

mutual
  still-tree : (p : Place) (n : ℕ) (o : CoreRole) (t : Tree) → InTree p.role o t → is_quiet p.role ≡ true → (ds : List Declared) → with_visits ds (visits p n t) ≡ ds
  still-tree p n o (node k l fs) (c, own, below) q ds =
      let inner = quiet_kind k p.role o c own q in
      let ps = place_in p n k l fs in
      let s = n + own_scope_count k fs in
      ap (λ es. with_visits es (visits_in_fields ps s fs)) (still_node ds p n k l fs inner q) ∙ still-fields ps s (core_role_at o k l) fs below (quiet_below k l fs p.role inner q) ds

  still-fields : (ps : ℕ → Place) (n : ℕ) (os : ℕ → CoreRole) (fs : Fields) → InFields (λ i. (ps i).role) os fs → ((i : ℕ) → is_quiet (ps i).role ≡ true) → (ds : List Declared) → with_visits ds (visits_in_fields ps n fs) ≡ ds
  still-fields ps n os done b q ds = refl
  still-fields ps n os (f then fs) b q ds =
      let rest = visits_in_fields (λ i. ps (suc i)) (n + scope_count_in_field f) fs in
      visits-append ds (visits_in_field (ps zero) n f) rest
      ∙ (ap (λ es. with_visits es rest) (still-field (ps zero) n (os zero) f b.0 (q zero) ds) ∙ still-fields (λ i. ps (suc i)) (n + scope_count_in_field f) (λ i. os (suc i)) fs b.1 (λ i. q (suc i)) ds)

  still-field : (p : Place) (n : ℕ) (o : CoreRole) (f : Field) → InField p.role o f → is_quiet p.role ≡ true → (ds : List Declared) → with_visits ds (visits_in_field p n f) ≡ ds
  still-field p n o missing b q ds = refl
  still-field p n o (one t) b q ds = still-tree p n o t b q ds
  still-field p n o (many ts) b q ds = still-trees p n ts b q ds
  still-field p n o (statements ts) b q ds = still-trees p n ts b q ds

  still-trees : (p : Place) (n : ℕ) (ts : Trees) → InTrees p.role ts → is_quiet p.role ≡ true → (ds : List Declared) → with_visits ds (visits_in_trees p n ts) ≡ ds
  still-trees p n empty b q ds = refl
  still-trees p n (t before ts) b q ds =
      let rest = visits_in_trees p (n + scope_count_in t) ts in
      visits-append ds (visits p n t) rest ∙ (ap (λ es. with_visits es rest) (still-tree p n core_reads t b.0 q ds) ∙ still-trees p (n + scope_count_in t) ts b.1 q ds)

-- DECLARATIONS add what they declare

-- these symbols with those of the declared names, one after the other
abbrev pub with_names : List Declared → List CoreDeclared → List Declared
with_names ds [] = ds
with_names ds (e ∷ es) = with_names (with_symbol ds 0 e.name (binding_of e.kind)) es

names-append : (ds : List Declared) (es ns : List CoreDeclared) → with_names ds (es ++ ns) ≡ with_names (with_names ds es) ns
names-append ds [] ns = refl
names-append ds (e ∷ es) ns = names-append (with_symbol ds 0 e.name (binding_of e.kind)) es ns

bound_here : (ds : List Declared) (p : Place) (b : Binding) (x : Text) → InProgram p → with_identifier ds p (Binds b) x ≡ with_symbol ds 0 x b
bound_here ds p b x h = ap (λ s. with_symbol ds s x b) (scope_zero ds p b x h)

adds-declarator : (p : Place) (n : ℕ) (b : Binding) (t : Tree) → p.role ≡ Binds b → InProgram p → IsDeclarator t → InTree p.role core_reads t → (ds : List Declared) → with_visits ds (visits p n t) ≡ with_symbol ds 0 (declarator_name t) b
adds-declarator p n b (node VariableDeclarator l (one (node Identifier m gs) then fs)) e h d (c, own, (first, later)) ds =
    let all : Fields = one (node Identifier m gs) then fs in
    let x = first_text m.texts in
    let ps = place_in p n VariableDeclarator l all in
    let qs = place_in (ps zero) (n + 0) Identifier m gs in
    let rest = visits_in_fields (λ i. ps (suc i)) (n + 0 + scope_count_in_field (one (node Identifier m gs))) fs in
    let added : with_visits ds (visits (ps zero) (n + 0) (node Identifier m gs)) ≡ with_symbol ds 0 x b =
    still-fields qs (n + 0 + 0) (core_role_at binding Identifier m) gs first.2 (λ i. refl) (with_identifier ds (ps zero) p.role x)
    ∙ (ap (λ r. with_identifier ds (ps zero) r x) e ∙ bound_here ds (ps zero) b x (in_program_below p n VariableDeclarator l all refl h 0)) in
    visits-append ds (visits (ps zero) (n + 0) (node Identifier m gs)) rest
    ∙ (ap (λ es. with_visits es rest) added ∙ still-fields (λ i. ps (suc i)) (n + 0 + scope_count_in_field (one (node Identifier m gs))) (λ i. core_role_at core_reads VariableDeclarator l (suc i)) fs later (λ i. refl) (with_symbol ds 0 x b))
adds-declarator p n b (node VariableDeclarator l (one (node k m gs) then fs)) e h d i ds = absurd d
adds-declarator p n b (node VariableDeclarator l done) e h d i ds = absurd d
adds-declarator p n b (node VariableDeclarator l (missing then fs)) e h d i ds = absurd d
adds-declarator p n b (node VariableDeclarator l (many ts then fs)) e h d i ds = absurd d
adds-declarator p n b (node VariableDeclarator l (statements ts then fs)) e h d i ds = absurd d
adds-declarator p n b (node k l fs) e h d i ds = absurd d

adds-declarators : (p : Place) (n : ℕ) (w : Text) (ts : Trees) → p.role ≡ Binds (binding_of w) → InProgram p → AreDeclarators ts → InTrees p.role ts → (ds : List Declared) → with_visits ds (visits_in_trees p n ts) ≡ with_names ds (declared_names w ts)
adds-declarators p n w empty e h d i ds = refl
adds-declarators p n w (t before ts) e h d i ds =
    let rest = visits_in_trees p (n + scope_count_in t) ts in
    visits-append ds (visits p n t) rest
    ∙ (ap (λ es. with_visits es rest) (adds-declarator p n (binding_of w) t e h d.0 i.0 ds) ∙ adds-declarators p (n + scope_count_in t) w ts e h d.1 i.1 (with_symbol ds 0 (declarator_name t) (binding_of w)))

adds-item : (p : Place) (n : ℕ) (t : Tree) → InProgram p → IsItem t → InTree p.role core_reads t → (ds : List Declared) → with_visits ds (visits p n t) ≡ with_names ds (declared_by t)
adds-item p n (node ExpressionStatement l fs) h d (c, own, below) ds = still-fields (place_in p n ExpressionStatement l fs) (n + 0) (core_role_at core_reads ExpressionStatement l) fs below (λ i. refl) ds
adds-item p n (node VariableDeclaration l (many ts then fs)) h d (c, own, (first, later)) ds =
    let all : Fields = many ts then fs in
    let w = first_text l.texts in
    let ps = place_in p n VariableDeclaration l all in
    let rest = visits_in_fields (λ i. ps (suc i)) (n + 0 + scope_count_in_field (many ts)) fs in
    visits-append ds (visits_in_trees (ps zero) (n + 0) ts) rest
    ∙ (ap (λ es. with_visits es rest) (adds-declarators (ps zero) (n + 0) w ts refl (in_program_below p n VariableDeclaration l all refl h 0) d.0 first ds)
    ∙ still-fields (λ i. ps (suc i)) (n + 0 + scope_count_in_field (many ts)) (λ i. core_role_at core_reads VariableDeclaration l (suc i)) fs later (λ i. refl) (with_names ds (declared_names w ts)))
adds-item p n (node VariableDeclaration l done) h d i ds = absurd d
adds-item p n (node VariableDeclaration l (missing then fs)) h d i ds = absurd d
adds-item p n (node VariableDeclaration l (one t then fs)) h d i ds = absurd d
adds-item p n (node VariableDeclaration l (statements ts then fs)) h d i ds = absurd d
adds-item p n (node k l fs) h d i ds = absurd d

adds-items : (p : Place) (n : ℕ) (ts : Trees) → InProgram p → AreItems ts → InTrees p.role ts → (ds : List Declared) → with_visits ds (visits_in_trees p n ts) ≡ with_names ds (declared_in_body ts)
adds-items p n empty h d i ds = refl
adds-items p n (t before ts) h d i ds =
    let rest = visits_in_trees p (n + scope_count_in t) ts in
    visits-append ds (visits p n t) rest
    ∙ (ap (λ es. with_visits es rest) (adds-item p n t h d.0 i.0 ds)
    ∙ (adds-items p (n + scope_count_in t) ts h d.1 i.1 (with_names ds (declared_by t)) ∙ sym (names-append ds (declared_by t) (declared_in_body ts))))

pub outermost_in : (p : Tree) → InProgram (outermost p)
outermost_in p = record { around = refl; hoist = refl; parameters = refl }

symbols_named : (p : Tree) → HasParts p → symbols_of p ≡ with_names [] (declared_of p)
symbols_named (node Program l (f then (statements ts then fs))) (d, (first, (body, later))) =
    let p : Tree = node Program l (f then (statements ts then fs)) in
    let all : Fields = f then (statements ts then fs) in
    let ps = place_in (outermost p) 1 Program l all in
    let n = 1 + 0 + scope_count_in_field f in
    let m = n + scope_count_in_field (statements ts) in
    let tail = visits_in_fields (λ i. ps (suc (suc i))) m fs in
    let rest = visits_in_trees (ps 1) n ts ++ tail in
    visits-append [] (visits_in_field (ps 0) (1 + 0) f) rest
    ∙ (ap (λ es. with_visits es rest) (still-field (ps 0) (1 + 0) (core_role_at core_reads Program l 0) f first refl [])
    ∙ (visits-append [] (visits_in_trees (ps 1) n ts) tail
    ∙ (ap (λ es. with_visits es tail) (adds-items (ps 1) n ts (in_program_below (outermost p) 1 Program l all refl (outermost_in p) 1) d body [])
    ∙ still-fields (λ i. ps (suc (suc i))) m (λ i. core_role_at core_reads Program l (suc (suc i))) fs later (λ i. refl) (with_names [] (declared_in_body ts)))))
symbols_named (node Program l done) h = absurd h.0
symbols_named (node Program l (f then done)) h = absurd h.0
symbols_named (node Program l (f then (missing then fs))) h = absurd h.0
symbols_named (node Program l (f then (one t then fs))) h = absurd h.0
symbols_named (node Program l (f then (many ts then fs))) h = absurd h.0
symbols_named (node k l fs) h = absurd h

-- THE LIST OF FIRST DECLARATIONS

-- the symbol of a declared name
abbrev pub of_name : CoreDeclared → Declared
of_name e = declared 0 e.name (binding_of e.kind)

abbrev is_new : List Declared → CoreDeclared → Bool
is_new ds e = not (is_bound ds 0 e.name)

flip : (x y : Text) → bytes_eq x y ≡ bytes_eq y x
flip x y = at (bytes_eq x y) (bytes_eq y x) refl refl
  where
    at : (b c : Bool) → bytes_eq x y ≡ b → bytes_eq y x ≡ c → b ≡ c
    at true true e d = refl
    at false false e d = refl
    at true false e d = absurd (let same : bytes_eq y x ≡ true = (bytes_decides y x).1 (sym ((bytes_decides x y).0 e)) in cc (same, d))
    at false true e d = absurd (let same : bytes_eq x y ≡ true = (bytes_decides x y).1 (sym ((bytes_decides y x).0 d)) in cc (same, e))

-- a test after another
filter-both : {X : Type 0} (p q r : X → Bool) → ((x : X) → (q x && p x) ≡ r x) → (xs : List X) → filter p (filter q xs) ≡ filter r xs
filter-both p q r h [] = refl
filter-both p q r h (x ∷ xs) = at (q x) (h x) (filter-both p q r h xs)
  where
    at : (a : Bool) → (a && p x) ≡ r x → filter p (filter q xs) ≡ filter r xs → filter p (cond a (x ∷ filter q xs) (filter q xs)) ≡ cond (r x) (x ∷ filter r xs) (filter r xs)
    at true e later = λ i. cond (e i) (x ∷ later i) (later i)
    at false e later = later ∙ ap (λ c. cond c (x ∷ filter r xs) (filter r xs)) e

all_new : (es : List CoreDeclared) → filter (is_new []) es ≡ es
all_new [] = refl
all_new (e ∷ es) = ap (λ ns. e ∷ ns) (all_new es)

-- a name that is bound is that of no new symbol
old_other : (ds : List Declared) (x : Text) → is_bound ds 0 x ≡ true → (e : CoreDeclared) → (has_other_name x e && is_new ds e) ≡ is_new ds e
old_other ds x h e = at (bytes_eq e.name x) refl
  where
    at : (b : Bool) → bytes_eq e.name x ≡ b → (not b && is_new ds e) ≡ is_new ds e
    at true g = sym (ap (λ y. not (is_bound ds 0 y)) ((bytes_decides e.name x).0 g) ∙ ap not h)
    at false g = refl

neither : (b c : Bool) → (not c && not b) ≡ not (b || (c || false))
neither true true = refl
neither true false = refl
neither false true = refl
neither false false = refl

-- what is new after one more symbol
new_after : (ds : List Declared) (d e : CoreDeclared) → (has_other_name d.name e && is_new ds e) ≡ is_new (ds ++ of_name d ∷ []) e
new_after ds d e =
    ap (λ b. not b && is_new ds e) (flip e.name d.name)
    ∙ (neither (is_bound ds 0 e.name) (bytes_eq d.name e.name) ∙ sym (ap not (list_any-append (is_symbol 0 e.name) ds (of_name d ∷ []))))

names-list : (ds : List Declared) (es : List CoreDeclared) → with_names ds es ≡ ds ++ map of_name (filter (is_new ds) (symbols es))
names-list ds [] = sym (append-nil ds)
names-list ds (e ∷ es) = at (is_bound ds 0 e.name) refl (names-list ds es) (names-list (ds ++ of_name e ∷ []) es)
  where
    others : List CoreDeclared
    others = filter (has_other_name e.name) (symbols es)

    more : List Declared
    more = ds ++ of_name e ∷ []

    at : (b : Bool) → is_bound ds 0 e.name ≡ b → with_names ds es ≡ ds ++ map of_name (filter (is_new ds) (symbols es)) → with_names more es ≡ more ++ map of_name (filter (is_new more) (symbols es))
        → with_names (if b then ds else more) es ≡ ds ++ map of_name (cond (not b) (e ∷ filter (is_new ds) others) (filter (is_new ds) others))
    at true h same grown = same ∙ ap (λ ns. ds ++ map of_name ns) (sym (filter-both (is_new ds) (has_other_name e.name) (is_new ds) (old_other ds e.name h) (symbols es)))
    at false h same grown =
        grown ∙ (append_assoc ds (of_name e ∷ []) (map of_name (filter (is_new more) (symbols es)))
        ∙ ap (λ ns. ds ++ of_name e ∷ map of_name ns) (sym (filter-both (is_new ds) (has_other_name e.name) (is_new more) (new_after ds e) (symbols es))))

-- THE SYMBOLS OF A CORE PROGRAM

pub core-symbols : (p : Tree) → IsCoreProgram p → symbols_of p ≡ map of_name (symbols (declared_of p))
core-symbols p is = symbols_named p (core-parts p is) ∙ (names-list [] (declared_of p) ∙ ap (map of_name) (all_new (symbols (declared_of p))))

symbol_place : (ss : List CoreDeclared) (x : Text) → symbol_in (map of_name ss) 0 x ≡ place_of ss x
symbol_place [] x = refl
symbol_place (s ∷ ss) x = ap (λ o. if bytes_eq s.name x then Some 0 else option_map suc o) (symbol_place ss x)

pub core-symbol : (p : Tree) → IsCoreProgram p → (x : Text) → symbol_in (symbols_of p) 0 x ≡ symbol_of (declared_of p) x
core-symbol p is x = ap (λ ds. symbol_in ds 0 x) (core-symbols p is) ∙ symbol_place (symbols (declared_of p)) x

symbol_elsewhere : (ss : List CoreDeclared) (n : ℕ) (x : Text) → symbol_in (map of_name ss) (suc n) x ≡ None
symbol_elsewhere [] n x = refl
symbol_elsewhere (s ∷ ss) n x =
    let differs : (0 == suc n) ≡ false = grind (arith, nat_tests) in
    rw differs (ap (option_map suc) (symbol_elsewhere ss n x))

-- no other scope binds a name
pub core-elsewhere : (p : Tree) → IsCoreProgram p → (n : ℕ) (x : Text) → symbol_in (symbols_of p) (suc n) x ≡ None
core-elsewhere p is n x = ap (λ ds. symbol_in ds (suc n) x) (core-symbols p is) ∙ symbol_elsewhere (symbols (declared_of p)) n x

-- FLAGS

abbrev FlagsOf : CoreDeclared → Type 0
FlagsOf e = HasFlags e.kind

names_flags : (w : Text) (ts : Trees) → HasFlags w → All FlagsOf (declared_names w ts)
names_flags w empty h = All-nil FlagsOf
names_flags w (t before ts) h = All-cons FlagsOf (record { name = declarator_name t; kind = w }) (declared_names w ts) h (names_flags w ts h)

item_flags : (t : Tree) → IsItem t → All FlagsOf (declared_by t)
item_flags (node ExpressionStatement l fs) h = All-nil FlagsOf
item_flags (node VariableDeclaration l (many ts then fs)) h = names_flags (first_text l.texts) ts h.1
item_flags (node VariableDeclaration l done) h = absurd h
item_flags (node VariableDeclaration l (missing then fs)) h = absurd h
item_flags (node VariableDeclaration l (one t then fs)) h = absurd h
item_flags (node VariableDeclaration l (statements ts then fs)) h = absurd h
item_flags (node k l fs) h = absurd h

items_flags : (ts : Trees) → AreItems ts → All FlagsOf (declared_in_body ts)
items_flags empty h = All-nil FlagsOf
items_flags (t before ts) h = All-append FlagsOf (declared_by t) (declared_in_body ts) (item_flags t h.0) (items_flags ts h.1)

program_flags_all : (p : Tree) → HasParts p → All FlagsOf (declared_of p)
program_flags_all (node Program l (f then (statements ts then fs))) h = items_flags ts h.0
program_flags_all (node Program l done) h = absurd h.0
program_flags_all (node Program l (f then done)) h = absurd h.0
program_flags_all (node Program l (f then (missing then fs))) h = absurd h.0
program_flags_all (node Program l (f then (one t then fs))) h = absurd h.0
program_flags_all (node Program l (f then (many ts then fs))) h = absurd h.0
program_flags_all (node k l fs) h = absurd h

symbols_all : (ds : List CoreDeclared) → All FlagsOf ds → All FlagsOf (symbols ds)
symbols_all [] h = h
symbols_all (d ∷ ds) h =
    All-cons FlagsOf d (filter (has_other_name d.name) (symbols ds)) (All-head FlagsOf d ds h) (All-filter (has_other_name d.name) FlagsOf (symbols ds) (symbols_all ds (All-tail FlagsOf d ds h)))

same_flags : (ss : List CoreDeclared) → All FlagsOf ss → map (λ d. symbol_flags d.binding) (map of_name ss) ≡ map flags_of ss
same_flags [] h = refl
same_flags (s ∷ ss) h = λ i. All-head FlagsOf s ss h i ∷ same_flags ss (All-tail FlagsOf s ss h) i

pub core-flags : (p : Tree) → IsCoreProgram p → map (λ d. symbol_flags d.binding) (symbols_of p) ≡ map flags_of (symbols (declared_of p))
core-flags p is = ap (map (λ d. symbol_flags d.binding)) (core-symbols p is) ∙ same_flags (symbols (declared_of p)) (symbols_all (declared_of p) (program_flags_all p (core-parts p is)))
