-- The law of helpers that are called by names which a program declares at its top, and of whatever gives way to such names.
use Rattle.std.proofs.Common.{◌≡◌, ◌≤◌, ◌∙◌, ℕ, refl, sym, subst}
use Rattle.std.specs.Prelude.{Bool, true, false, ◌||◌, bytes_eq, leb, if◌then◌else◌}
use Rattle.std.proofs.lemmas.Bool.{and_from, le-leb}
use Rattle.es_tree.specs.HasForm.{same_type}
use Rattle.es_tree.specs.Tree.{Tree, node, Label, Fields, done, ◌then◌, Field, statements, Trees, empty, ◌before◌}
use Rattle.es_tree.specs.Words.{Text}
use Rattle.es_tree.specs.declared.ast_type.AstType.TheVariants.{ImportDeclaration, Program}
use Rattle.es_tree.specs.declared.table.Sort.TheVariants.{Program as s-Program}
use Rattle.es_semantic.specs.RolesOf.{reads, role_at}
use Rattle.es_semantic.specs.declared.place.Role.{Role}
use Rattle.es_resolution.specs.Called.{HasName}
use Rattle.es_resolution.specs.Declarations.{Bound}
use Rattle.es_resolution.specs.Named.{NamedAll}
use Rattle.es_resolution.specs.Resolved.{IsResolved, Place, ResolvedAll, ResolvedIn, no_name, nowhere, place_in}
use Rattle.es_resolution.proofs.AllForms.{all-tree}
use Rattle.es_resolution.proofs.Basics.{bytes_eq-self}
use Rattle.es_steps.specs.Bindings.{Bindings, comes_from, is_made, stands}
use Rattle.es_steps.specs.Laws.{IsWellBound}
use Rattle.es_steps.specs.Nodes.{joined_trees}
use Rattle.es_steps.specs.Open.{after_imports}
use Rattle.es_steps.specs.Steps.{Whole}
use Rattle.es_steps.proofs.BoundOnce.{bound-once}
use Rattle.es_steps.proofs.Written.{resolved-parts}
use Rattle.es_helper_calls.proofs.CalledTrees.{Calls, CallsAll, CallsBy, CallsHere, same-all, same-tree}
use Rattle.es_helper_calls.proofs.CalledTrees.Calls.{becomes}
use Rattle.es_helper_calls.proofs.CalledTrees.CallsAll.{next, none}
use Rattle.es_helper_calls.proofs.CalledTrees.CallsBy.{at_statements}
use Rattle.es_helper_calls.proofs.CalledTrees.CallsHere.{stays}
use Rattle.es_helper_calls.proofs.CalledTrees.CallsIn.{ends, goes}
use Rattle.es_helper_calls.proofs.CallingTrees.{calls-tree}
use Rattle.es_top_imports.specs.TopImports.{with_top}
use Rattle.es_top_imports.proofs.TopForms.{IsProgram, is_program, program-is, program_with}
use Rattle.es_helper_names.specs.CallNames.{IsTopName, KeepsNames, LawCallNames}
use Rattle.es_helper_names.proofs.CalledFrames.{places-alike, scopes-same}
use Rattle.es_helper_names.proofs.CalledNames.{FindEach, called-same, passes-same, resolved-same, resolved-same-all, resolved-same-by}
use Rattle.es_helper_names.proofs.PlainTrees.{HasNoFields, Way, bare-identifiers, helper-plain}

-- STATEMENTS AT THE TOP, which stay

module _ (P : Tree → Bound → Type 0) (news : Trees) where
  join-calls : (xs : Trees) {ts us : Trees} → CallsAll P ts us → CallsAll P (joined_trees xs ts) (joined_trees xs us)
  join-calls empty h = h
  join-calls (x before xs) h = next (same-tree P x) (join-calls xs h)

  after-calls : {ts us : Trees} → CallsAll P ts us → CallsAll P (after_imports news ts) (after_imports news us)
  after-calls none = same-all P news
  after-calls (next {ts = ts} {us = us} (becomes {k = k} {l = l} {fs = fs} {gs = gs} c) h) = at (same_type k ImportDeclaration) (after-calls h)
    where
      at : (v : Bool) → CallsAll P (after_imports news ts) (after_imports news us) → CallsAll P (if v then node k l fs before after_imports news ts else joined_trees news (node k l fs before ts)) (if v then node k l gs before after_imports news us else joined_trees news (node k l gs before us))
      at true rest = next (becomes c) rest
      at false rest = join-calls news (next (becomes c) h)

  pub calls-top : {p q : Tree} → IsProgram p → Calls P p q → Calls P (with_top news p) (with_top news q)
  calls-top (is_program l d ts) (becomes (stays (goes k (goes (at_statements h) ends)))) = becomes (stays (goes k (goes (at_statements (after-calls h)) ends)))

module _ (T : Bound → Type 0) (news : Trees) (r : Role) (p : Place) where
  join-resolved : (xs ts : Trees) → ResolvedAll r p xs → ResolvedAll r p ts → ResolvedAll r p (joined_trees xs ts)
  join-resolved empty ts h k = k
  join-resolved (x before xs) ts h k = (h.0, join-resolved xs ts h.1 k)

  -- as is what was there before, where the names that it gave way to are found
  module _ (u : Text → Bool) (n : ℕ) (free : (b : Bound) → T b → u b.name ≡ false) (found : FindEach T p) where
    after-resolved : {ts us : Trees} → NamedAll u n r ts → CallsAll (Way T) ts us → ResolvedAll r p (after_imports news ts) → ResolvedAll r p (after_imports news us)
    after-resolved used none d = d
    after-resolved used (next {ts = ts} {us = us} (becomes {k = k} {l = l} {fs = fs} {gs = gs} c) h) d = at (same_type k ImportDeclaration) (after-resolved used.1 h) d
      where
        at : (v : Bool) → (ResolvedAll r p (after_imports news ts) → ResolvedAll r p (after_imports news us)) → ResolvedAll r p (if v then node k l fs before after_imports news ts else joined_trees news (node k l fs before ts)) →
            ResolvedAll r p (if v then node k l gs before after_imports news us else joined_trees news (node k l gs before us))
        at true rest d = (resolved-same T u n free r p used.0 found (becomes c) d.0, rest d.1)
        at false rest d = let parts = resolved-parts r p news (node k l fs before ts) d in join-resolved news (node k l gs before us) parts.0 (resolved-same-all T u n free r p used found (next (becomes c) h) parts.1)

-- THE NAMES, which are new

module _ (p : Tree) (w w' : Whole) (t : Tree) where
  abbrev Top : Bound → Type 0
  Top b = IsTopName w w' t b

  top-comes : (b : Bound) → Top b → comes_from p w w' b.name b.symbol ≡ true
  top-comes b h = (λ i. comes_from p w w' b.name (h.symbol i)) ∙ or-made (stands b.name h.number p) (is_made w w' b.name h.number) (and_from (leb w.free_symbol h.number) (bytes_eq (w'.called h.number) b.name) (le-leb w.free_symbol h.number h.new) ((λ i. bytes_eq (h.called i) b.name) ∙ bytes_eq-self b.name))
    where
      or-made : (a b : Bool) → b ≡ true → (a || b) ≡ true
      or-made true b e = refl
      or-made false b e = e

  top-called : (b : Bound) → Top b → HasName w'.called b.symbol b.name
  top-called b h = subst (λ o. HasName w'.called o b.name) (sym h.symbol) (sym h.called)

  -- what is known once the program has its names where they were
  call-bindings : (q : Tree) → Calls (Way Top) t q → IsResolved q → IsWellBound w' t → Bindings p t w w' → Bindings p q w w'
  call-bindings q h resolved bound known = record {
    names = passes-same Top (comes_from p w w') top-comes h known.names;
    called = called-same Top w'.called top-called h known.called;
    same_names = known.same_names;
    resolved = resolved;
    bound_once = bound-once q resolved (λ s. subst (λ k. k ≤ 1) (sym (scopes-same Top s no_name reads h)) (bound.single s));
  }

-- A PROGRAM whose list gets these statements

module _ (l : Label) (d e : Field) (ts us : Trees) (w w' : Whole) (news : Trees) where
  abbrev old : Tree
  old = program_with l d ts

  abbrev with_news : Tree
  with_news = program_with l d (after_imports news ts)

  abbrev top_fields : Fields
  top_fields = d then (statements (after_imports news ts) then done)

  abbrev new_fields : Fields
  new_fields = e then (statements (after_imports news us) then done)

  abbrev Named_so : Bound → Type 0
  Named_so = Top old w w' with_news

  abbrev roles : ℕ → Role
  roles = role_at reads Program l top_fields

  abbrev places : ℕ → Place
  places = place_in nowhere Program l roles top_fields

  found-there : (i : ℕ) → FindEach Named_so (places i)
  found-there i b h = sym h.found

  free-there : (b : Bound) → Named_so b → w.in_use b.name ≡ false
  free-there b h = h.free

  -- what stands in the source is resolved as its names are known there, and what is new as it was
  program-names : CallsBy (Way Named_so) d e → CallsAll (Way Named_so) ts us → IsWellBound w old → IsWellBound w' with_news → Bindings old with_news w w' → KeepsNames old with_news (node Program l new_fields) w w'
  program-names first list bound there known = record {
    bindings = call-bindings old w w' with_news (node Program l new_fields) (becomes all) (tt, refl, resolved) there known;
    place = λ i. places-alike Named_so reads Program l top_fields new_fields all nowhere i 1;
  }
    where
      all : CallsHere (Way Named_so) Program l top_fields new_fields
      all = stays (goes first (goes (at_statements (after-calls (Way Named_so) news list)) ends))

      by-fields : ResolvedIn roles places new_fields
      by-fields = (resolved-same-by Named_so w.in_use w.free_symbol free-there (roles 0) (places 0) bound.named.1.0 (found-there 0) first there.resolved.2.0, (after-resolved Named_so news (roles 1) (places 1) w.in_use w.free_symbol free-there (found-there 1) bound.named.1.1.0 list there.resolved.2.1.0, tt))

      resolved : ResolvedIn roles (place_in nowhere Program l roles new_fields) new_fields
      resolved = subst (λ (x : ℕ → Place). ResolvedIn roles x new_fields) (sym (places-alike Named_so reads Program l top_fields new_fields all nowhere)) by-fields

pub names-kept : {p q : Tree} (w w' : Whole) (news : Trees) → IsProgram p → Calls (Way (IsTopName w w' (with_top news p))) p q → IsWellBound w p → IsWellBound w' (with_top news p) → Bindings p (with_top news p) w w' → KeepsNames p (with_top news p) (with_top news q) w w'
names-kept w w' news (is_program l d ts) (becomes (stays (goes {g = e} first (goes (at_statements {us = us} list) ends)))) bound there known = program-names l d e ts us w w' news first list bound there known

pub law_call_names_proof : LawCallNames
law_call_names_proof p w w' news c form bound there known tops =
    let T : Bound → Type 0 = IsTopName w w' (with_top news p) in
    names-kept w w' news (program-is p form) (calls-tree HasNoFields T (Way T) (λ f b h it q a. (helper-plain f h it q, a)) c p (all-tree HasNoFields bare-identifiers s-Program p form) tops) bound there known
