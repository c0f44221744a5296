-- The statements that import helpers, put in one after the other, and the program with all of them.
use Rattle.std.proofs.Common.{◌≡◌, ◌∙◌, ◌+◌, ◌∷◌, List, [], Vec, ap, codes, inl, inr, length, map, refl, subst, sym, ℕ}
use Rattle.std.specs.Prelude.{◌⊎◌, String, bytes_eq, insert, string_bytes}
use Rattle.std.specs.declared.alloc.Global.{Global}
use Rattle.es_tree.specs.Tree.{Tree, done, ◌then◌, many, statements, empty, ◌before◌, trees}
use Rattle.es_tree.specs.Views.{plain}
use Rattle.es_tree.specs.Words.{Text, source_type_text}
use Rattle.es_tree.specs.declared.helper.Helper.{Helper}
use Rattle.es_tree.specs.declared.kind.Kind.TheVariants.{Program as k-Program}
use Rattle.es_tree.specs.declared.operators.SourceType.{SourceType}
use Rattle.es_tree.specs.declared.operators.SourceType.TheVariants.{Module, Script}
use Rattle.es_statements.specs.ProgramPlain.{plain_program}
use Rattle.es_statements.specs.declared.program.Program.{Program}
use Rattle.es_steps.specs.Open.{after_imports}
use Rattle.es_helper_calls.specs.Importing.{is_module}
use Rattle.es_helper_imports.specs.Imported.{helper_source}
use Rattle.es_top_imports.specs.TopImports.{with_top}
use Rattle.lower_helper_imports.specs.Parts.{all_statements, imports_before, source_type, top_statement}
use Rattle.lower_helper_imports.proofs.ImportPlaces.{Inserted, inserted-all, inserted-next, inserted-none}

abbrev Names : Type 0
Names = List (String Global)

-- the statements for these helpers, under these names
abbrev pub statements_of : SourceType → Text → List Helper → List (String Global) → List Tree
statements_of t m hs xs = all_statements t m hs (map string_bytes xs)

pub put-none : (k : ℕ) (ts : List Tree) (t : SourceType) (m : Text) (hs ks : List Helper) (xs ys : Names) → k ≡ imports_before ts → ks ≡ hs → ys ≡ xs → Inserted k ts (statements_of t m hs xs) k ts (statements_of t m ks ys)
put-none k ts t m hs ks xs ys first e d = rw (e, d) (inserted-none k ts (statements_of t m hs xs) first)

pub put-next : (k : ℕ) (ts all : List Tree) (i : ℕ) (now next : List Tree) (t : SourceType) (m x : Text) (h : Helper) (hs ks : List Helper) (name : String Global) (xs ys : Names) (s : Tree) → ks ≡ h ∷ hs → ys ≡ name ∷ xs → s ≡ top_statement t (helper_source m h) x → x ≡ string_bytes name → next ≡ insert now i s → Inserted k ts all i now (statements_of t m ks ys) → Inserted k ts all (i + 1) next (statements_of t m hs xs)
put-next k ts all i now next t m x h hs ks name xs ys s e d is called put before_it =
    let left : statements_of t m ks ys ≡ s ∷ statements_of t m hs xs = rw (e, d, is, called) refl in
    inserted-next k ts all i now next (statements_of t m hs xs) s put (subst (Inserted k ts all i now) left before_it)

none-left : (t : SourceType) (m : Text) (hs : List Helper) (xs : Names) → (length hs ≡ 0) ⊎ (length xs ≡ 0) → statements_of t m hs xs ≡ []
none-left t m [] xs h = refl
none-left t m (g ∷ hs) [] h = refl
none-left t m (g ∷ hs) (x ∷ xs) (inl e) = absurd (cc e)
none-left t m (g ∷ hs) (x ∷ xs) (inr e) = absurd (cc e)

pub put-all : (k : ℕ) (ts all : List Tree) (i : ℕ) (now : List Tree) (t : SourceType) (m : Text) (hs : List Helper) (xs : Names) → k ≡ imports_before ts → (length hs ≡ 0) ⊎ (length xs ≡ 0) → Inserted k ts all i now (statements_of t m hs xs) → trees now ≡ after_imports (trees all) (trees ts)
put-all k ts all i now t m hs xs first none h = inserted-all k ts all i now first (subst (Inserted k ts all i now) (none-left t m hs xs none) h)

-- THE PROGRAM

sort-named : (t : SourceType) → source_type (bytes_eq (source_type_text t) (codes "module")) ≡ t
sort-named Module = refl
sort-named Script = refl

sort-is : (e : Program) (p : Tree) → plain_program e ≡ p → source_type (is_module p) ≡ e.source_type
sort-is e p is = ap (λ q. source_type (is_module q)) (sym is) ∙ sort-named e.source_type

-- an opened program that has these statements more is closed as that with them at its top
pub closed-program : (e q : Program) (p : Tree) (m : Text) (hs : List Helper) (xs : Names) → q ≡ record e { body = q.body } → plain_program e ≡ p → trees q.body.items ≡ after_imports (trees (statements_of q.source_type m hs xs)) (trees e.body.items) → plain_program q ≡ with_top (trees (statements_of (source_type (is_module p)) m hs xs)) p
closed-program e q p m hs xs same is put =
    let sort : q.source_type ≡ source_type (is_module p) = ap (λ (r : Program). r.source_type) same ∙ sym (sort-is e p is) in
    ap plain_program same ∙ ap (λ ts. plain e.id e.span (k-Program e.source_type e.scope) (many (trees e.directives.items) then statements ts then done)) put
    ∙ ap (λ v. with_top (trees (statements_of q.source_type m hs xs)) v) is ∙ ap (λ t. with_top (trees (statements_of t m hs xs)) p) sort

-- with one statement more behind its imports it is that with the statement at its top
pub put-behind : (e : Program) (body : Vec Tree Global) (s : Tree) (k : ℕ) → k ≡ imports_before e.body.items → body.items ≡ insert e.body.items k s → plain_program (record e { body = body }) ≡ with_top (s before empty) (plain_program e)
put-behind e body s k first put =
    let ts = e.body.items in
    let all = inserted-all k ts (s ∷ []) (k + 1) body.items first (inserted-next k ts (s ∷ []) k ts body.items [] s put (inserted-none k ts (s ∷ []) first)) in
    ap (λ us. plain e.id e.span (k-Program e.source_type e.scope) (many (trees e.directives.items) then statements us then done)) all
