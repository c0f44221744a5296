-- What the walk over the static rules answers of the visits that it made, and the names that it keeps.
use Rattle.std.specs.Prelude.{◌≡◌, ℕ, ◌==◌, nat_eq, List, [], ◌∷◌, ◌++◌, Bool, false, ◌&&◌, ◌||◌, Option, Some, None, unwrap_or, find, Result, MatchResult, OnOk, if◌then◌else◌}
use Rattle.std.specs.Cmp.Lexicographic.{pointwise}
use Rattle.std.specs.HashMap.{HashMap, get}
use denote.Enum.Bare.{sameb}
use Rattle.es_tree.specs.Ancestors.{Ancestor, Visit, visits}
use Rattle.es_tree.specs.DeclaredNames.{Name, is_same_name}
use Rattle.es_tree.specs.StaticRules.{IsFirstBreak, all_names, breaks_after, declared_by, has_clash, is_binding_space, is_broken, is_class_space, is_export_space}
use Rattle.es_tree.specs.Tree.{Tree}
use Rattle.es_tree.specs.Words.{Text}
use Rattle.es_tree.specs.contracts.place.Namespace.{the_type}
use Rattle.es_tree.specs.declared.error.LowerError.{LowerError}
use Rattle.es_tree.specs.declared.error.Rule.{Rule}
use Rattle.es_tree.specs.declared.error.Rule.TheVariants.{DuplicateName, BadExport, BadClass}
use Rattle.es_tree.specs.declared.place.Namespace.{Namespace}
use Rattle.es_static_rules.specs.declared.known_names.Key.{Key}
use Rattle.es_static_rules.specs.declared.names.Name.{Name as HeldName}

-- KNOWN NAMES

-- whether a name is among the declared ones, and if so whether a lexical one is
abbrev pub lexical_among : List Name → Namespace → ℕ → Text → Option Bool
lexical_among [] s n x = None
lexical_among (e ∷ es) s n x = if is_same_name s n x e then Some (e.lexical || unwrap_or (lexical_among es s n x) false) else lexical_among es s n x

abbrev pub same_key : Key → Key → Bool
same_key j k = sameb the_type j.namespace k.namespace && (j.owner == k.owner && pointwise nat_eq j.text.now k.text.now)

-- a map from names to truth values
abbrev pub Names : Type 0 → Type 0
Names S = HashMap Key Bool S

-- The map says so of each name.
abbrev pub Knows : {S : Type 0} → Names S → List Name → Type 0
Knows names earlier = (k : Key) → get same_key names k ≡ lexical_among earlier k.namespace k.owner k.text.now

-- These names are known too.
abbrev pub Declares : {S : Type 0} → Names S → Names S → List Name → Type 0
Declares old new ns = (earlier : List Name) → Knows old earlier → Knows new (ns ++ earlier)

abbrev pub clashes_with : Option Bool → Bool → Bool
clashes_with None lexical = false
clashes_with (Some earlier) lexical = earlier || lexical

-- which names belong to a rule: no two of them clash
abbrev pub belongs_to : Rule → Namespace → Bool
belongs_to DuplicateName s = is_binding_space s
belongs_to BadExport s = is_export_space s
belongs_to BadClass s = is_class_space s
belongs_to _ s = false

-- ANSWERS FROM KNOWN NAMES

-- The answer is that of the test, whatever names the map knows.
abbrev pub IsAnswer : {S : Type 0} → Names S → (List Name → Bool) → Bool → Type 0
IsAnswer names test answer = (earlier : List Name) → Knows names earlier → answer ≡ test earlier

abbrev pub IsClashAnswer : {S : Type 0} → Names S → Rule → List Name → Bool → Type 0
IsClashAnswer names rule ns = IsAnswer names (λ earlier. has_clash (belongs_to rule) earlier ns)

-- The rule is broken or not at a node with these ancestors, where the one map knows all names, and the other those declared
-- before it.
abbrev pub IsBrokenAnswer : {S T : Type 0} → Names S → Names T → List Ancestor → Tree → Rule → Bool → Type 0
IsBrokenAnswer names_all names up t rule answer = (all earlier : List Name) → Knows names_all all → Knows names earlier → answer ≡ is_broken all earlier up t rule

-- It is the first broken one of these rules.
abbrev pub IsFirstBroken : {S T : Type 0} → Names S → Names T → List Ancestor → Tree → List Rule → Option Rule → Type 0
IsFirstBroken names_all names up t rules answer =
    (all earlier : List Name) → Knows names_all all → Knows names earlier → answer ≡ find (is_broken all earlier up t) rules

-- THE WALK

-- The answer to these visits, by these rules: the first broken one, and without one the names that they declare are known
-- too.
abbrev pub Checks : {S T A : Type 0} → List Rule → Names S → Names T → Names T → Result A LowerError → List Visit → Type 0
Checks rules names_all old new result vs =
    (all earlier : List Name) → Knows names_all all → Knows old earlier →
    MatchResult result (λ _. breaks_after rules all earlier vs ≡ []) (IsFirstBreak (breaks_after rules all earlier vs)) × OnOk result (Knows new (declared_by vs earlier))

abbrev pub key_of : HeldName → Key
key_of n = record { namespace = n.namespace; owner = n.owner; text = n.text }

-- The answer to a whole program: the first broken one of these rules, or a map that knows all its names.
abbrev pub ChecksProgram : {S T : Type 0} → List Rule → Names S → Result (Names T) LowerError → Tree → Type 0
ChecksProgram rules names_all result t =
    (all : List Name) → Knows names_all all →
    MatchResult result (λ names. (breaks_after rules all [] (visits [] 0 t) ≡ []) × Knows names (all_names t)) (IsFirstBreak (breaks_after rules all [] (visits [] 0 t)))
