-- A module whose `using` at the top is lowered: to other modules it is what it was.
use Rattle.std.proofs.Common.{◌≡◌, refl, sym, ap, ◌∙◌, List, [], ◌∷◌, ◌++◌, append-nil}
use Rattle.std.specs.Prelude.{true, false, codes}
use Rattle.es_tree.specs.HasForm.{has_form, trees_form}
use Rattle.es_tree.specs.Tree.{Tree, node, Label, done, Field, Trees, empty, ◌before◌, kind_of}
use Rattle.es_tree.specs.Words.{Text}
use Rattle.es_tree.specs.declared.ast_type.AstType.TheVariants.{ExportAllDeclaration, ExportDefaultDeclaration, ExportNamedDeclaration, Identifier, ImportDeclaration}
use Rattle.es_tree.specs.declared.table.Sort.TheVariants.{Declaration as s-Declaration, Identifier as s-Identifier, Program as s-Program, Statement as s-Statement}
use Rattle.es_tree.proofs.NodeForm.{node_form}
use Rattle.es_resolution.specs.Declarations.{Bound}
use Rattle.es_steps.specs.UsingBlocks.{protected}
use Rattle.es_steps.proofs.FormLists.{first-formed}
use Rattle.es_module_names.specs.Laws.{SameOutside}
use Rattle.es_module_names.specs.Modules.{declared_texts, exported, name_text, request, star_request, texts_among}
use Rattle.es_top_imports.proofs.TopForms.{program_with}
use Rattle.es_top_imports.proofs.TopStatic.{texts-joined}
use Rattle.es_export_splits.specs.Splits.{export_of, text_of}
use Rattle.es_export_splits.proofs.ExportNames.{export_with}
use Rattle.es_export_splits.proofs.ExportStatic.{declaration-same, specifier-texts, texts}
use Rattle.es_using_modules.specs.ModuleTops.{Makes, by_bounds}
use Rattle.es_using_modules.proofs.TopForms.{class-name, exported-part, program-list}
use Rattle.es_using_modules.proofs.TopMoves.{Declares, Moves, default_with, is_plain, lowered}
use Rattle.es_using_modules.proofs.TopMoves.Declares.{by_class, by_variables}
use Rattle.es_using_modules.proofs.TopMoves.Moves.{declares, default_export_of, exports, no_more, plain, stays}

-- what is read off a statement that neither imports nor exports
record ReadsNone (t : Tree) : Type 0 where
  exports : exported t ≡ []
  requests : request t ≡ []
  stars : star_request t ≡ []

plain-none : (t : Tree) → is_plain (kind_of t) ≡ true → ReadsNone t
plain-none (node ImportDeclaration l fs) e = absurd (let no : false ≡ true = e in cc no)
plain-none (node ExportAllDeclaration l fs) e = absurd (let no : false ≡ true = e in cc no)
plain-none (node ExportNamedDeclaration l fs) e = absurd (let no : false ≡ true = e in cc no)
plain-none (node ExportDefaultDeclaration l fs) e = absurd (let no : false ≡ true = e in cc no)
plain-none (node _ l fs) e = record { exports = refl; requests = refl; stars = refl }

name-same : (c : Tree) → has_form s-Identifier c ≡ true → text_of c ∷ [] ≡ name_text c
name-same (node Identifier l fs) f = refl
name-same (node k l fs) f = absurd (let no : false ≡ true = (node_form s-Identifier k l fs f).sort in cc no)

module _ (default context error : Bound) where
  abbrev m : Makes
  m = by_bounds default context error

  declares-none : (d u : Tree) (xs : List Tree) → Declares default context error d xs u → ReadsNone d
  declares-none d u xs (by_variables l ds es r) = record { exports = refl; requests = refl; stars = refl }
  declares-none d u xs (by_class l c fs) = record { exports = refl; requests = refl; stars = refl }

  -- the names that a declaration declares
  pub declared-same : (d u : Tree) (xs : List Tree) → Declares default context error d xs u → has_form s-Declaration d ≡ true → texts xs ≡ declared_texts d
  declared-same d u xs (by_variables l ds es r) f = declaration-same l ds done f
  declared-same d u xs (by_class l c fs) f = name-same c (class-name s-Declaration l c fs f)

  -- THE STATEMENTS outside

  record ReadsSame (os ts : Trees) : Type 0 where
    exports : texts_among exported os ≡ texts_among exported ts
    requests : texts_among request os ≡ texts_among request ts
    stars : texts_among star_request os ≡ texts_among star_request ts

  behind-none : (t : Tree) (os ts : Trees) → ReadsNone t → ReadsSame os ts → ReadsSame os (t before ts)
  behind-none t os ts n r = record {
    exports = r.exports ∙ (λ i. sym n.exports i ++ texts_among exported ts);
    requests = r.requests ∙ (λ i. sym n.requests i ++ texts_among request ts);
    stars = r.stars ∙ (λ i. sym n.stars i ++ texts_among star_request ts);
  }

  lists-same : (ts os us : Trees) → Moves default context error ts os us → trees_form s-Statement s-Statement ts ≡ true → ReadsSame os ts
  lists-same ts os us no_more f = record { exports = refl; requests = refl; stars = refl }
  lists-same ts os us (stays {t = t} {ts = ts'} {os = os'} {us = us'} e r) f =
      let rest = lists-same ts' os' us' r (first-formed s-Statement t ts' f).1 in
      record { exports = ap (λ xs. exported t ++ xs) rest.exports; requests = ap (λ xs. request t ++ xs) rest.requests; stars = ap (λ xs. star_request t ++ xs) rest.stars }
  lists-same ts os us (plain {t = t} {ts = ts'} {os = os'} {us = us'} e r) f = behind-none t os' ts' (plain-none t e) (lists-same ts' os' us' r (first-formed s-Statement t ts' f).1)
  lists-same ts os us (declares {d = d} {u = u} {xs = xs} {ts = ts'} {os = os'} {us = us'} g r) f = behind-none d os' ts' (declares-none d u xs g) (lists-same ts' os' us' r (first-formed s-Statement d ts' f).1)
  lists-same ts os us (exports {l = l} {d = d} {u = u} {xs = xs} {ts = ts'} {os = os'} {us = us'} g r) f =
      let parts = first-formed s-Statement (export_with l d) ts' f in
      let rest = lists-same ts' os' us' r parts.1 in
      let own : exported (export_of m.split (export_with l d) xs) ≡ exported (export_with l d) = specifier-texts xs ∙ declared-same d u xs g (exported-part l d parts.0) ∙ sym (append-nil (declared_texts d)) in
      record { exports = λ i. own i ++ rest.exports i; requests = rest.requests; stars = rest.stars }
  lists-same ts os us (default_export_of {l = l} {d = d} {x = x} {u = u} {ts = ts'} {os = os'} {us = us'} g r) f =
      let rest = lists-same ts' os' us' r (first-formed s-Statement (default_with l d) ts' f).1 in
      record { exports = ap (λ xs. codes "default" ∷ xs) rest.exports; requests = rest.requests; stars = rest.stars }

  -- THE PROGRAM

  -- the `try` behind them
  behind : (read : Tree → List Text) (os us : Trees) → read (protected context error us) ≡ [] → texts_among read (lowered context error os us) ≡ texts_among read os
  behind read os us e = texts-joined read os (protected context error us before empty) ∙ (λ i. texts_among read os ++ (e i ++ [])) ∙ append-nil (texts_among read os)

  pub outside-same : (l : Label) (d : Field) (ts os us : Trees) → Moves default context error ts os us → has_form s-Program (program_with l d ts) ≡ true → SameOutside (program_with l d ts) (program_with l d (lowered context error os us))
  outside-same l d ts os us r f =
      let same = lists-same ts os us r (program-list l d ts f) in
      record { requests = behind request os us refl ∙ same.requests; stars = behind star_request os us refl ∙ same.stars; exports = behind exported os us refl ∙ same.exports }
