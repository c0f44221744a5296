-- Steps of the core rules keep the static rules of an open core program.
use Rattle.std.proofs.Common.{◌≡◌, refl, sym, subst, ap, ◌∙◌, List, [], ◌∷◌, ◌++◌, map}
use Rattle.std.proofs.lemmas.List.{map-append}
use Rattle.std.proofs.lemmas.List.Folds.{list_any-append}
use Rattle.std.specs.Prelude.{Bool, true, false, ◌&&◌, ◌||◌, bytes_eq}
use Rattle.es_tree.specs.CoreStaticRules.{Name, clashes}
use Rattle.es_tree.specs.Scopes.{Declared as Declaration, declared_of, declarator_name, declares}
use Rattle.es_tree.specs.Tree.{Tree, node, Label, done, ◌then◌, many, statements, Trees}
use Rattle.es_tree.specs.Words.{Text}
use Rattle.es_tree.specs.declared.ast_type.AstType.TheVariants.{Program}
use Rattle.es_tree.specs.declared.place.Place.TheVariants.{Other, Declarator}
use Rattle.es_runs.specs.Alike.{all_of_it}
use Rattle.es_runs.specs.Open.{Pending, nothing_pending, Open, closed, declarator_node, with_vars}
use Rattle.es_runs.specs.OpenRules.{with_names, CoreRule}
use Rattle.es_runs.specs.OpenSteps.{Whole, Ledger, whole_in, Step, Steps}
use Rattle.es_runs.specs.OpenSteps.Ledger.{ledger}
use Rattle.es_runs.specs.OpenSteps.Steps.{stays, goes}
use Rattle.es_runs.specs.Rules.{OnePlace}
use Rattle.es_runs.specs.Runs.{is_declared}
use Rattle.es_runs.proofs.CoreRows.{FreshInTurn}
use Rattle.es_runs.proofs.Declarations.{is_shaped, program_parts}
use Rattle.es_runs.proofs.DeclaredNames.{is_declared-declares}
use Rattle.es_runs.proofs.FreshNames.{fresh_free}
use Rattle.es_runs.proofs.Kept.{somewhere}
use Rattle.es_runs.proofs.KnownPrograms.{declared-all_pending, shaped_step}
use Rattle.es_runs.proofs.Named.{or_both, or_first, or_second}
use Rattle.es_runs.proofs.OpenPlaces.{RuleOf, own_pending, written_in, ProgramStep, program_step}
use Rattle.es_runs.proofs.OpenPlaces.ProgramStep.{replaced, wrote}
use Rattle.es_runs.proofs.OpenRuns.{IsOpenProgram, one_goes, has_written}
use Rattle.es_runs.proofs.RowFacts.{Each, each_both}
use Rattle.es_runs.proofs.RowKeeps.{row_fresh}
use Rattle.es_runs.proofs.RowKinds.{row_kind}
use Rattle.es_runs.proofs.StaticKeeps.{Keeps, KeepsTrees, Agree}
use Rattle.es_runs.proofs.StaticNames.{to_name}
use Rattle.es_runs.proofs.StaticRows.{row_keeps}
use Rattle.es_runs.proofs.StaticSteps.{step_keeps}
use Rattle.es_runs.proofs.Temporary.{bytes_eq-self, bytes_eq-flip}
use Rattle.es_runs.proofs.Written.{declarator_nodes, one_of, plain, vars}

-- NAMES OF MADE DECLARATORS

abbrev var_name : Text → Name
var_name x = record { text = x; lexical = false }

vars_named : (xs : List Text) → map to_name (vars xs) ≡ map var_name xs
vars_named [] = refl
vars_named (x ∷ xs) = ap (λ ns. var_name x ∷ ns) (vars_named xs)

clashes-append : (es fs : List Name) (n : Name) → clashes (es ++ fs) n ≡ (clashes es n || clashes fs n)
clashes-append es fs n = list_any-append (λ e. bytes_eq e.text n.text && (e.lexical || n.lexical)) es fs

-- with earlier names that clash with none of them the names still agree
agree_after : (earlier more ns : List Name) → Each (λ n. clashes more n ≡ false) ns → Agree earlier ns → Agree (earlier ++ more) ns
agree_after earlier more [] e h = tt
agree_after earlier more (n ∷ ns) e h = (clashes-append earlier more n ∙ or_both (clashes earlier n) (clashes more n) h.0 e.0, agree_after (n ∷ earlier) more ns e.1 h.1)

-- names of `var` declarators clash with none of these
no_clash : (earlier : List Name) (x : Text) → Each (λ e. e.lexical ≡ false) earlier → clashes earlier (var_name x) ≡ false
no_clash [] x h = refl
no_clash (e ∷ earlier) x h = or_both (bytes_eq e.text x && (e.lexical || false)) (clashes earlier (var_name x)) (neither (bytes_eq e.text x) e.lexical h.0) (no_clash earlier x h.1)
  where
    neither : (a b : Bool) → b ≡ false → (a && (b || false)) ≡ false
    neither true b e = rw e refl
    neither false b e = refl

one_more : (x : Text) (earlier ns : List Name) → Each (λ n. bytes_eq x n.text ≡ false) ns → Each (λ n. clashes earlier n ≡ false) ns → Each (λ n. clashes (var_name x ∷ earlier) n ≡ false) ns
one_more x earlier [] h g = tt
one_more x earlier (n ∷ ns) h g = (or_both (bytes_eq x n.text && n.lexical) (clashes earlier n) (rw h.0 refl) g.0, one_more x earlier ns h.1 g.1)

vars_first : (xs : List Text) (earlier ns : List Name) → Each (λ e. e.lexical ≡ false) earlier → Each (λ n. clashes earlier n ≡ false) ns → Each (λ x. Each (λ n. bytes_eq x n.text ≡ false) ns) xs → Agree [] ns → Agree earlier (map var_name xs ++ ns)
vars_first [] earlier ns vars apart fresh h = agree_after [] earlier ns apart h
vars_first (x ∷ xs) earlier ns vars apart fresh h = (no_clash earlier x vars, vars_first xs (var_name x ∷ earlier) ns (refl, vars) (one_more x earlier ns fresh.0 apart) fresh.1 h)

none_earlier : (ns : List Name) → Each (λ n. clashes [] n ≡ false) ns
none_earlier [] = tt
none_earlier (n ∷ ns) = (refl, none_earlier ns)

apart_each : (x : Text) (ds : List Declaration) → declares ds x ≡ false → Each (λ n. bytes_eq x n.text ≡ false) (map to_name ds)
apart_each x [] h = tt
apart_each x (d ∷ ds) h = (bytes_eq-flip x d.name ∙ or_first (bytes_eq d.name x) (declares ds x) h, apart_each x ds (or_second (bytes_eq d.name x) (declares ds x) h))

all_apart : (xs : List Text) (ds : List Declaration) → Each (λ x. declares ds x ≡ false) xs → Each (λ x. Each (λ n. bytes_eq x n.text ≡ false) (map to_name ds)) xs
all_apart [] ds h = tt
all_apart (x ∷ xs) ds h = (apart_each x ds h.0, all_apart xs ds h.1)

-- names that aren't declared may be declared in front
pub written_agree : (xs : List Text) (ds : List Declaration) → Each (λ x. declares ds x ≡ false) xs → Agree [] (map to_name ds) → Agree [] (map to_name (vars xs ++ ds))
written_agree xs ds apart h =
    let names : map to_name (vars xs ++ ds) ≡ map var_name xs ++ map to_name ds = map-append to_name (vars xs) ds ∙ ap (λ ns. ns ++ map to_name ds) (vars_named xs) in
    subst (λ ns. Agree [] ns) (sym names) (vars_first xs [] (map to_name ds) tt (none_earlier (map to_name ds)) (all_apart xs ds apart) h)

-- MADE DECLARATORS

declarators_keep : (xs : List Text) → KeepsTrees (Declarator true false false) (declarator_nodes xs)
declarators_keep [] = tt
declarators_keep (x ∷ xs) = (
  (
    record { target = refl; chain = refl; mark = refl; deleted = refl; value = refl },
    ((record { target = refl; chain = refl; mark = refl; deleted = refl; value = refl }, tt), (tt, tt)),
  ),
  declarators_keep xs,
)

whole_keeps : (xs : List Text) (l : Label) (ds body : Trees) → Keeps Other (node Program l (many ds then (statements body then done))) → Keeps Other (written_in (plain xs) (node Program l (many ds then (statements body then done))))
whole_keeps [] l ds body h = h
whole_keeps (x ∷ xs) l ds body h = (
  record { target = refl; chain = refl; mark = refl; deleted = refl; value = refl },
  (
    h.1.0,
    (((record { target = refl; chain = refl; mark = refl; deleted = refl; value = refl }, (declarators_keep (x ∷ xs), tt)), h.1.1.0), tt),
  ),
)

pub written_keeps : (xs : List Text) (t : Tree) → is_shaped t ≡ true → Keeps Other t → Keeps Other (written_in (plain xs) t)
written_keeps xs t s h =
    let parts = program_parts t s in
    let P : Tree → Type 0 = λ v. Keeps Other v → Keeps Other (written_in (plain xs) v) in
    subst P (sym parts.whole) (whole_keeps xs parts.label parts.directives parts.body) h

-- OPEN PROGRAMS

all_names : (xs : List Text) → map declarator_name (map declarator_node xs) ≡ xs
all_names [] = refl
all_names (x ∷ xs) = ap (λ ys. x ∷ ys) (all_names xs)

-- what is pending tells its names
pub plain_names : (xs ys : List Text) → plain xs ≡ plain ys → xs ≡ ys
plain_names xs ys e = sym (all_names xs) ∙ ap (λ (p : Pending). map declarator_name p.vars) e ∙ all_names ys

-- An open core program that keeps the static rules; the names that are pending aren't declared.
pub record IsStatic (w : Whole) (o : Open) : Type 0 where
  pub program : IsOpenProgram w o
  pub keeps : Keeps Other (closed o)
  pub agree : Agree [] (map to_name (declared_of (closed o)))
  pub apart : (xs : List Text) → own_pending o ≡ plain xs → Each (λ x. declares (declared_of (closed o)) x ≡ false) xs

each_of : (P : Text → Type 0) (xs : List Text) → ((y : Text) → one_of xs y ≡ true → P y) → Each P xs
each_of P [] h = tt
each_of P (x ∷ xs) h = (h x (rw (bytes_eq-self x) refl), each_of P xs (λ y e. h y (later (bytes_eq y x) (one_of xs y) e)))
  where
    later : (a b : Bool) → b ≡ true → (a || b) ≡ true
    later true b e = refl
    later false b e = e

module _ (no_all : Bool) (w : Whole) (o u : Open) (h : IsStatic w o) where
  -- names that aren't in use aren't declared
  fresh_apart : (y : Text) → w.in_use y ≡ false → declares (declared_of (closed o)) y ≡ false
  fresh_apart y e =
      let none : (one_of h.program.names y || is_declared (declared_of (closed o)) y) ≡ false = sym (declared-all_pending h.program.names (declared_of (closed o)) y) ∙ h.program.known.declared y e in
      sym (is_declared-declares (declared_of (closed o)) y) ∙ or_second (one_of h.program.names y) (is_declared (declared_of (closed o)) y) none

  static_row : (ys : List Text) → OnePlace (RuleOf no_all w ys) all_of_it (closed o) (closed u) → own_pending u ≡ with_vars ys (own_pending o) → IsOpenProgram (with_names ys w) u → IsStatic (with_names ys w) u
  static_row ys r pending after =
      let same : declared_of (closed u) ≡ declared_of (closed o) = (shaped_step no_all w ys r h.program.known.shaped).1 in
      let P : Text → Type 0 = λ x. declares (declared_of (closed u)) x ≡ false in
      let fresh : FreshInTurn w.in_use ys = somewhere (RuleOf no_all w ys) (FreshInTurn w.in_use ys) (λ n a b k. row_fresh no_all w k) r in
      let earlier : Each P h.program.names = subst (λ ds. Each (λ x. declares ds x ≡ false) h.program.names) (sym same) (h.apart h.program.names h.program.pending) in
      let now : own_pending u ≡ plain (h.program.names ++ ys) = pending ∙ ap (λ p. with_vars ys p) h.program.pending ∙ ap (λ ds. record { vars = ds; lets = [] }) (sym (map-append declarator_node h.program.names ys)) in
      record {
        program = after;
        keeps = step_keeps (RuleOf no_all w ys) (λ n a b k. row_kind no_all w k) (λ n a b k p. row_keeps no_all w k p) Other r h.keeps;
        agree = subst (λ ds. Agree [] (map to_name ds)) (sym same) h.agree;
        apart = λ xs e. subst (λ zs. Each P zs) (plain_names (h.program.names ++ ys) xs (sym now ∙ e)) (each_both P h.program.names ys earlier (each_of P ys (λ y d. ap (λ ds. declares ds y) same ∙ fresh_apart y (fresh_free fresh y d))));
      }

  static_writing : closed u ≡ written_in (own_pending o) (closed o) → own_pending u ≡ nothing_pending → IsOpenProgram w u → IsStatic w u
  static_writing e pending after =
      let tree : closed u ≡ written_in (plain h.program.names) (closed o) = e ∙ ap (λ p. written_in p (closed o)) h.program.pending in
      let found = has_written w h.program.names (closed o) h.program.known h.program.one_list in
      let names : declared_of (closed u) ≡ vars h.program.names ++ declared_of (closed o) = ap declared_of tree ∙ found.declares in
      record {
        program = after;
        keeps = subst (λ t. Keeps Other t) (sym tree) (written_keeps h.program.names (closed o) h.program.known.shaped h.keeps);
        agree = subst (λ ds. Agree [] (map to_name ds)) (sym names) (written_agree h.program.names (declared_of (closed o)) (h.apart h.program.names h.program.pending) h.agree);
        apart = λ xs d. subst (λ zs. Each (λ x. declares (declared_of (closed u)) x ≡ false) zs) (plain_names [] xs (sym pending ∙ d)) tt;
      }

one_static : (no_all : Bool) (s s' : Ledger) (o u : Open) → Step (CoreRule no_all) all_of_it s o s' u → IsStatic (whole_in s) o → IsStatic (whole_in s') u
one_static no_all (ledger w p) s' o u r h = at (program_step no_all w p r h.program.one_list) (one_goes no_all (ledger w p) s' o u r h.program).after
  where
    at : ProgramStep no_all w o s' u → IsOpenProgram (whole_in s') u → IsStatic (whole_in s') u
    at (replaced ys k lists e pending) after = subst (λ v. IsStatic v u) (sym e) (static_row no_all w o u h ys k pending (subst (λ v. IsOpenProgram v u) e after))
    at (wrote tree e pending) after = subst (λ v. IsStatic v u) (sym e) (static_writing no_all w o u h tree pending (subst (λ v. IsOpenProgram v u) e after))

pub all_static : (no_all : Bool) {s s' : Ledger} {o u : Open} → Steps (Step (CoreRule no_all) all_of_it) s o s' u → IsStatic (whole_in s) o → IsStatic (whole_in s') u
all_static no_all stays h = h
all_static no_all (goes {s = s} {s' = s'} {t = t} {u = u} r rest) h = all_static no_all rest (one_static no_all s s' t u r h)
