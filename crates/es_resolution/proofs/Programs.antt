-- Programs with the symbols of the scope table are resolved: the program's own scope.
use Rattle.std.proofs.Common.{arith, ◌≡◌, ℕ, zero, suc, ◌==◌, refl, sym, ap, subst, ◌∙◌, List, [], ◌∷◌}
use Rattle.std.specs.Prelude.{Bool, true, false, ◌||◌, None, if◌then◌else◌}
use Rattle.std.proofs.lemmas.Bool.{ne_eqb}
use Rattle.es_tree.specs.Words.{Text}
use Rattle.es_tree.specs.Tree.{Tree, node, Label, Fields, ◌then◌}
use Rattle.es_tree.specs.declared.ast_type.AstType.TheVariants.{Program}
use Rattle.es_semantic.specs.RolesOf.{reads, role_at}
use Rattle.es_semantic.specs.Places.{first, is_inside, is_strict_in}
use Rattle.es_semantic.specs.SymbolsOf.{Declared, find, is_bound, symbol_in}
use Rattle.es_semantic.specs.declared.place.Role.{Role}
use Rattle.es_resolution.proofs.SymbolTrees.{resolved_in}
use Rattle.es_resolution.specs.Resolved.{frame, bound_by, no_name, inner, place_in as place_at, ResolvedIn}
use Rattle.es_resolution.proofs.Basics.{every}
use Rattle.es_resolution.proofs.Placed.{IsWellPlaced, PlacedIn}
use Rattle.es_resolution.proofs.Declares.{counts-none, declares_in, bound-in}
use Rattle.es_resolution.proofs.Marks.{marked, role-kept}
use Rattle.es_resolution.proofs.Tests.{or-true}
use Rattle.es_resolution.proofs.Outside.{Fits}
use Rattle.es_resolution.proofs.OutsideTrees.{places, out-in}
use Rattle.es_resolution.proofs.Bodies.{BodiesIn, SeesIn}
use Rattle.es_semantic.specs.Places.{outermost}
use Rattle.es_semantic.specs.SymbolsOf.{symbols_of}
use Rattle.es_resolution.proofs.SymbolTrees.{resolved}
use Rattle.es_resolution.specs.Resolved.{var_frame, nowhere, IsResolved}
use Rattle.es_resolution.proofs.Marks.{names-in, symbols-in}
use Rattle.es_resolution.proofs.Frames.{inner-by}
use Rattle.es_resolution.proofs.Resolving.{in-fields}
use Rattle.es_resolution.proofs.OtherRoles.{role-other}
use Rattle.es_resolution.proofs.Marks.{placed-in}

module _ (l : Label) (fs : Fields) (placed : PlacedIn Program fs) where
  abbrev pub the_program : Tree
  the_program = node Program l fs

  abbrev pub F : List Declared
  F = symbols_of the_program

  abbrev pub R : ℕ → Role
  R = role_at reads Program l fs

  abbrev pub A : ℕ → List ℕ
  A i = 0 ∷ []

  abbrev pub st : Bool
  st = is_strict_in (outermost the_program) Program l fs

  abbrev pub gs : Fields
  gs = resolved_in F (places R A 0 None st) 1 fs

  abbrev pub label : Label
  label = marked l []

  pub root-fits : (i : ℕ) → Fits 1 0 None (first (A i))
  root-fits i = record { around = omega arith; hoist = omega arith; parameters = tt }

  pub root-bound : (x : Text) → is_bound F 0 x ≡ (declares_in x false every R fs || declares_in x true every R fs)
  root-bound x = out-in 0 x Program [] 0 None st R A 1 fs root-fits placed (λ i. omega arith)

  root-names : (x : Text) → bound_by (frame Program label R gs) x ≡ declares_in x false every R fs
  root-names x = bound-in x false Program (is_inside Program) R gs (placed-in F Program (places R A 0 None st) 1 fs placed) (λ i e. role-other false reads Program l fs i tt refl) ∙ names-in F x false (is_inside Program) R (places R A 0 None st) 1 fs

  root-vars : (x : Text) → bound_by (var_frame R gs) x ≡ declares_in x true every R fs
  root-vars x = bound-in x true Program every R gs (placed-in F Program (places R A 0 None st) 1 fs placed) (λ i e. tt) ∙ names-in F x true every R (places R A 0 None st) 1 fs

  root-inner : (x : Text) → inner nowhere Program label R gs x ≡ find F (0 ∷ []) x
  root-inner x =
      inner-by F 0 (frame Program label R gs) (var_frame R gs) (λ y. 0) no_name (λ y. None) [] x true false
      (symbols-in false F (λ y. 0) Program (is_inside Program) (places R A 0 None st) 1 fs placed (λ i e y. refl)) (symbols-in true F (λ y. 0) Program (λ i. true) (places R A 0 None st) 1 fs placed (λ i e y. refl))
      (λ c. refl) (λ c e. refl) (root-bound x ∙ (λ i. sym (root-names x) i || sym (root-vars x) i)) refl

  root-lexical : (s : ℕ) (x : Text) → declares_in x false (λ i. first (A i) == s) R fs ≡ true → is_bound F s x ≡ true
  root-lexical zero x h = root-bound x ∙ rw h refl
  root-lexical (suc s) x h = absurd (let no : declares_in x false (λ i. first (A i) == suc s) R fs ≡ false = counts-none x false (λ i. first (A i) == suc s) R fs (λ i. ne_eqb 0 (suc s) (λ e. omega arith)) in let bad : true ≡ false = sym h ∙ no in cc)

  root-hoisted : (x : Text) → declares_in x true every R fs ≡ true → (inner nowhere Program label R gs x ≡ symbol_in F 0 x) × (is_bound F 0 x ≡ true)
  root-hoisted x h =
      let bound : is_bound F 0 x ≡ true = root-bound x ∙ rw (h, or-true (declares_in x false every R fs)) refl in
      (root-inner x ∙ ap (λ c. if c then symbol_in F 0 x else None) bound, bound)

  pub root-bodies : BodiesIn F 1 Program 0 A no_name no_name fs
  root-bodies = record { others = λ c x. refl; bodies = λ c. absurd (cc c) }

  pub root-sees : SeesIn F 1 Program 0 None R A (λ i. inner nowhere Program label R gs) (inner nowhere Program label R gs) no_name no_name fs
  root-sees = record {
    some = λ i. tt;
    scope = λ i x. root-inner x;
    lexical = root-lexical;
    hoisted = root-hoisted;
    below = root-bodies;
  }

  pub root-resolved : IsResolved (resolved the_program)
  root-resolved =
      let fields : ResolvedIn R (place_at nowhere Program label R gs) gs =
      in-fields F 1 Program [] 0 None st R A (λ i. inner nowhere Program label R gs) (inner nowhere Program label R gs) no_name no_name 1 fs (omega arith) root-fits (λ s x e. refl) (λ x. refl) placed (λ s x e d. refl) root-sees in
      (tt, refl, subst (λ (r : ℕ → Role). ResolvedIn r (place_at nowhere Program label r gs) gs) (sym (role-kept F (places R A 0 None st) 1 reads Program l [] fs)) fields)

-- a program with the symbols of its scope table is resolved, where its bodies and names stand where they should
pub placed-resolved : (p : Tree) → IsWellPlaced p → IsResolved (resolved p)
placed-resolved (node Program l fs) h = root-resolved l fs h.1
placed-resolved (node k l fs) h = absurd (cc (h.0))
