-- The laws of source programs. A source is what is seen of a program with the marks of its scope table.
use Rattle.std.specs.Prelude.{◌≡◌, ℕ, ◌≤◌, [], Bool, true, length}
use Rattle.es_tree.specs.Fresh.{is_among}
use Rattle.es_tree.specs.HasForm.{has_form}
use Rattle.es_tree.specs.Names.{names_of}
use Rattle.es_tree.specs.StaticRules.{breaks}
use Rattle.es_tree.specs.Tree.{Tree}
use Rattle.es_tree.specs.Words.{Text}
use Rattle.es_tree.specs.declared.table.Sort.TheVariants.{Program as s-Program}
use Rattle.es_scope.specs.Tables.{binding_in}
use Rattle.es_scope.specs.declared.scoping.Scoping.{Scoping}
use Rattle.es_semantic.specs.ReferencesOf.{is_mutated_of, marked_program, references_of}
use Rattle.es_semantic.specs.RolesOf.{reads}
use Rattle.es_semantic.specs.SymbolsOf.{symbol_in, symbols_of}
use Rattle.es_semantic.specs.TableOf.{IsTableOf}
use Rattle.es_resolution.specs.Called.{Called, name_at}
use Rattle.es_resolution.specs.Named.{Named}
use Rattle.es_resolution.specs.ReferenceMarks.{Agrees}
use Rattle.es_resolution.specs.Resolved.{IsResolved}
use Rattle.es_resolution.specs.Seen.{seen}
use Rattle.es_resolution.specs.Single.{IsSingle}
use Rattle.es_resolution.specs.Written.{is_written}

-- the program as a clause sees it, with the marks that `build_scoping` gives it
abbrev pub source : Tree → Tree
source p = seen (symbol_in (symbols_of p)) (marked_program p)

-- So it is seen by whoever has the table of the program: only the name of a class inside itself is asked of the table.
abbrev pub LawTable : Type 0
LawTable = (p : Tree) (s : Scoping) → IsTableOf p s → seen (binding_in s) (marked_program p) ≡ source p

-- each name has the symbol that looking it up outwards finds
abbrev pub LawResolved : Type 0
LawResolved = (p : Tree) → has_form s-Program p ≡ true → IsResolved (source p)

-- each symbol is bound by one scope at most
abbrev pub LawSingle : Type 0
LawSingle = (p : Tree) → has_form s-Program p ≡ true → IsSingle (source p)

-- Where the names of the program are in use, and its symbols are numbered below this, those that stand by their roles are.
abbrev pub LawNamed : Type 0
LawNamed = (p : Tree) (in_use : Text → Bool) (free : ℕ) → has_form s-Program p ≡ true → breaks p ≡ [] →
    ((x : Text) → is_among (names_of p) x ≡ true → in_use x ≡ true) → length (symbols_of p) ≤ free → Named in_use free reads (source p)

-- The table holds a symbol to be written exactly where an identifier writes it: a symbol that isn't is steady.
abbrev pub LawWritten : Type 0
LawWritten = (p : Tree) (s : ℕ) → is_mutated_of p s ≡ is_written s reads (source p)

-- an identifier that refers has its reference's symbol
abbrev pub LawReferences : Type 0
LawReferences = (p : Tree) → Agrees (references_of p) (marked_program p)

-- A symbol has one name, that of the scope table.
abbrev pub LawCalled : Type 0
LawCalled = (p : Tree) → Called (name_at (symbols_of p)) (source p)
