-- A program of which names stand for its lists of excluded keys, with their constants, is that of the rule, but for ids and marks.
use Rattle.std.proofs.Common.{◌≡◌, ◌∙◌, ◌++◌, ◌∷◌, Bool, Global, List, [], Vec, ap, append-nil, arith, length, map, refl, subst, sym}
use Rattle.std.specs.Prelude.{◌==◌, None, codes, false, true}
use Rattle.std.proofs.lemmas.Bool.Decides.{nat_tests}
use Rattle.es_tree.specs.Bare.{bare, bare_label, bare_trees}
use Rattle.es_tree.specs.Heads.{head_of, label}
use Rattle.es_tree.specs.Tree.{Tree, node, done, ◌then◌, label_of, many, statements, Trees, empty, ◌before◌, trees}
use Rattle.es_tree.specs.Views.{plain}
use Rattle.es_tree.specs.Words.{Text}
use Rattle.es_tree.specs.declared.ast_type.AstType.TheVariants.{Program as t-Program, VariableDeclaration}
use Rattle.es_tree.specs.declared.kind.Kind.TheVariants.{Program as k-Program}
use Rattle.es_scope.specs.Uids.{made, uses}
use Rattle.es_statements.specs.ProgramPlain.{plain_program}
use Rattle.es_statements.specs.declared.program.Program.{Program}
use Rattle.es_resolution.specs.Declarations.{Bound}
use Rattle.es_steps.specs.Nodes.{declaration_node}
use Rattle.es_helper_imports.proofs.BareTops.{bare-top}
use Rattle.es_helper_imports.specs.Imported.{unmarked}
use Rattle.es_top_constants.specs.TopConstants.{Constant, constants_of, declarator_of, with_constants}
use Rattle.es_top_imports.specs.TopImports.{with_top}
use Rattle.es_excluded_keys.specs.ExcludedKeys.{AreFresh, Shares, SharesAll, SharesTo, at_many, at_statements, ends, goes, keeps}
use Rattle.lower_excluded_keys.specs.Parts.{with_declarators}
use Rattle.lower_excluded_keys.specs.Sharing.{Becomes, Named, bounds_in, declarators_of, lists_in, names_in}
use Rattle.lower_excluded_keys.specs.declared.constants.MadeConstants.{MadeConstants}
use Rattle.lower_excluded_keys.proofs.Making.{all-fresh, becomes-then}

-- THE PROGRAM, opened: its directives and its statements stand in its own scope

in-both : (e : Program) (us vs : Trees) (xs ys : List Bound) (ls ms : List Tree) → SharesAll false (trees e.directives.items) xs ls us → SharesAll false (trees e.body.items) ys ms vs → Shares false (plain_program e) (xs ++ ys) (ls ++ ms) (plain e.id e.span (k-Program e.source_type e.scope) (many us then (statements vs then done)))
in-both e us vs xs ys ls ms r s =
    let q = plain e.id e.span (k-Program e.source_type e.scope) (many us then (statements vs then done)) in
    subst (λ ns. Shares false (plain_program e) (xs ++ ys) (ls ++ ns) q) (append-nil ms) (subst (λ zs. Shares false (plain_program e) (xs ++ zs) (ls ++ (ms ++ [])) q) (append-nil ys) (keeps refl (goes (at_many r) (goes (at_statements s) ends))))

pub program-shared : (e : Program) (ds bs : Vec Tree Global) (a b c : MadeConstants) → Becomes (SharesAll false (trees e.directives.items)) bare_trees a b (trees ds.items) → Becomes (SharesAll false (trees e.body.items)) bare_trees b c (trees bs.items) → Becomes (Shares false (plain_program e)) bare a c (plain_program (record e { directives = ds; body = bs }))
program-shared e ds bs a b c r s =
    becomes-then (SharesAll false (trees e.directives.items)) (SharesAll false (trees e.body.items)) (Shares false (plain_program e)) bare_trees bare_trees bare (λ us vs. plain e.id e.span (k-Program e.source_type e.scope) (many us then (statements vs then done))) (λ xs ys ls ms us vs h k. in-both e us vs xs ys ls ms h k)
    (λ us us' vs vs' h k i. bare_program (h i) (k i)) r s
  where
    bare_program : Trees → Trees → Tree
    bare_program us vs = node t-Program (bare_label (label e.id e.span (head_of (k-Program e.source_type e.scope)))) (many us then (statements vs then done))

-- ITS CONSTANTS

bounds-unmarked : (cs : List Named) → bounds_in cs ≡ unmarked (names_in cs)
bounds-unmarked [] = refl
bounds-unmarked (c ∷ cs) = ap (λ bs. record { name = c.name; symbol = None } ∷ bs) (bounds-unmarked cs)

abbrev constants_in : List Named → List Constant
constants_in cs = constants_of (unmarked (names_in cs)) (lists_in cs)

declarators-bare : (cs : List Named) → bare_trees (trees (declarators_of cs)) ≡ bare_trees (trees (map declarator_of (constants_in cs)))
declarators-bare [] = refl
declarators-bare (c ∷ cs) = ap (λ ts. bare (declarator_of (record { local = record { name = c.name; symbol = None }; list = c.keys })) before ts) (declarators-bare cs)

constants-bare : (cs : List Named) (p q : Tree) → bare p ≡ bare q → bare (with_declarators (declarators_of cs) p) ≡ bare (with_constants (constants_in cs) q)
constants-bare [] p q e = e
constants-bare (c ∷ cs) p q e =
    let mine = declaration_node (codes "const") (declarators_of (c ∷ cs)) before empty in
    let theirs = declaration_node (codes "const") (map declarator_of (constants_in (c ∷ cs))) before empty in
    let same : bare_trees mine ≡ bare_trees theirs = ap (λ ts. statement_of ts before empty) (declarators-bare (c ∷ cs)) in
    bare-top mine p ∙ (λ i. with_top (same i) (e i)) ∙ sym (bare-top theirs q)
  where
    statement_of : Trees → Tree
    statement_of ts = node VariableDeclaration (bare_label (label_of (declaration_node (codes "const") []))) (many ts then done)

pub shares-to : (in_use : Text → Bool) (a b : MadeConstants) (p u q : Tree) (names : List Text) → ((x : Text) → uses a.uids x ≡ in_use x) → made a.uids ≡ [] → a.declarators.items ≡ [] → Becomes (Shares false p) bare a b u → q ≡ with_declarators b.declarators.items u → names ≡ made b.uids → SharesTo in_use p q names
shares-to in_use a b p u q names used none_made none_declared r is named =
    let cs = r.constants in
    let names_are : names_in cs ≡ names = sym (named ∙ r.makes.made_is ∙ ap (λ ns. ns ++ names_in cs) none_made) in
    let declarators : b.declarators.items ≡ declarators_of cs = r.makes.declared ∙ ap (λ ds. ds ++ declarators_of cs) none_declared in
    record {
      fresh = subst (AreFresh in_use) names_are (all-fresh (uses a.uids) in_use (names_in cs) used r.makes.fresh);
      lists = lists_in cs;
      shared = r.shared;
      shares = subst (λ xs. Shares false p xs (lists_in cs) r.shared) (bounds-unmarked cs ∙ ap unmarked names_are) r.shares_to;
      written = ap bare is ∙ ap (λ ds. bare (with_declarators ds u)) declarators ∙ constants-bare cs u r.shared r.written ∙ ap (λ ns. bare (with_constants (constants_of (unmarked ns) (lists_in cs)) r.shared)) names_are;
    }

-- DECLARATORS, none or some

pub declared-none : (ds : List Tree) (p : Tree) → (length ds == 0) ≡ true → p ≡ with_declarators ds p
declared-none [] p e = refl
declared-none (d ∷ ds) p e = absurd (grind (arith, nat_tests, e))

pub declared-some : (ds : List Tree) (p q : Tree) → (length ds == 0) ≡ false → q ≡ with_top (declaration_node (codes "const") ds before empty) p → q ≡ with_declarators ds p
declared-some [] p q e h = absurd (cc e)
declared-some (d ∷ ds) p q e h = h
