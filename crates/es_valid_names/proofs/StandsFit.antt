-- What the rules of one node ask of its ancestors is what they ask of the place.
use Rattle.std.proofs.Common.{◌≡◌, ◌==◌, ℕ, zero, suc, refl, sym, ◌∙◌, List, [], ◌∷◌, arith}
use Rattle.std.specs.Prelude.{Bool, true, false, not, ◌&&◌, ◌||◌}
use Rattle.std.specs.List.{list_any}
use Rattle.std.proofs.lemmas.Bool.{ne_eqb}
use Rattle.es_tree.specs.Ancestors.{Ancestor, ancestor, classes, leads_by, stands_in}
use Rattle.es_tree.specs.DeclaredNames.{Name, is_class_key, is_declared}
use Rattle.es_tree.specs.Names.{first_text, third_stands}
use Rattle.es_tree.specs.StaticRules.{has_no_name, is_bad_class, is_bad_export, is_crowded_export, is_local_export, is_plain_key}
use Rattle.es_tree.specs.Tree.{node, Label, Fields}
use Rattle.es_tree.specs.Words.{Text}
use Rattle.es_tree.specs.declared.ast_type.AstType.{AstType}
use Rattle.es_tree.specs.declared.ast_type.AstType.TheVariants.{CatchClause, ClassDeclaration, ExportDefaultDeclaration, ExportNamedDeclaration, ExportSpecifier, FunctionDeclaration, Identifier, MethodDefinition, ObjectProperty, PatternProperty, PrivateIdentifier, PropertyDefinition, StringLiteral, TargetProperty}
use Rattle.es_tree.specs.declared.place.Namespace.TheVariants.{PrivateNames, Scope}
use Rattle.es_valid_names.proofs.Claims.{Around, Stand, in_catch, specifier, elsewhere, is_default, is_key, is_local, is_plain, is_wrong, local_in, specified, stand_in}

abbrev pub is_catch : Stand → Bool
is_catch in_catch = true
is_catch _ = false

abbrev is_specifier : Stand → Bool
is_specifier specifier = true
is_specifier _ = false

abbrev takes_specifiers : List Ancestor → Bool
takes_specifiers [] = false
takes_specifiers (b ∷ up) = leads_by ExportNamedDeclaration 1 b && not (third_stands b.fields)

pub record Fits (st : Stand) (up : List Ancestor) : Type 0 where
  pub catches : stands_in CatchClause 1 up ≡ is_catch st
  pub key : is_class_key up ≡ is_key st
  pub plain : is_plain_key up ≡ is_plain st
  pub default : stands_in ExportDefaultDeclaration 0 up ≡ is_default st
  pub local : is_local_export up ≡ is_local st
  specifiers : takes_specifiers up ≡ is_specifier st

pub fits-root : Fits elsewhere []
fits-root = record { catches = refl; key = refl; plain = refl; default = refl; local = refl; specifiers = refl }

local-in : (a : Ancestor) (up : List Ancestor) → is_local_export (a ∷ up) ≡ (leads_by ExportSpecifier 0 a && takes_specifiers up)
local-in a [] = at (leads_by ExportSpecifier 0 a)
  where
    at : (b : Bool) → false ≡ (b && false)
    at true = refl
    at false = refl
local-in a (c ∷ up) = at (leads_by ExportSpecifier 0 a) (leads_by ExportNamedDeclaration 1 c) (not (third_stands c.fields))
  where
    at : (x y z : Bool) → (x && y && z) ≡ (x && (y && z))
    at true y z = refl
    at false y z = refl

pub one-zero : (i : ℕ) → (suc i == 0) ≡ false
one-zero i = ne_eqb (suc i) 0 (λ e. omega arith)

pub two-one : (i : ℕ) → (suc (suc i) == 1) ≡ false
two-one i = ne_eqb (suc (suc i)) 1 (λ e. omega arith)

specified-is : (b : Bool) → not b ≡ is_specifier (specified b)
specified-is true = refl
specified-is false = refl

local-is : (st : Stand) → is_specifier st ≡ is_local (local_in st)
local-is specifier = refl
local-is _ = refl

plain-specified : (b : Bool) → (false ≡ is_catch (specified b)) × (false ≡ is_key (specified b)) × (false ≡ is_plain (specified b)) × (false ≡ is_default (specified b)) × (false ≡ is_local (specified b))
plain-specified true = (refl, refl, refl, refl, refl)
plain-specified false = (refl, refl, refl, refl, refl)

plain-local : (st : Stand) → (false ≡ is_catch (local_in st)) × (false ≡ is_key (local_in st)) × (false ≡ is_plain (local_in st)) × (false ≡ is_default (local_in st)) × (false ≡ is_specifier (local_in st))
plain-local specifier = (refl, refl, refl, refl, refl)
plain-local _ = (refl, refl, refl, refl, refl)

pub fits-in : (st : Stand) (up : List Ancestor) (k : AstType) (l : Label) (all : Fields) (i n : ℕ) → Fits st up → Fits (stand_in st k all i) (ancestor k l all i n ∷ up)
fits-in st up CatchClause l all zero n h = record { catches = refl; key = refl; plain = refl; default = refl; local = local-in (ancestor CatchClause l all zero n) up; specifiers = refl }
fits-in st up CatchClause l all (suc zero) n h = record { catches = refl; key = refl; plain = refl; default = refl; local = local-in (ancestor CatchClause l all 1 n) up; specifiers = refl }
fits-in st up CatchClause l all (suc (suc i)) n h = record { catches = two-one i; key = refl; plain = refl; default = refl; local = local-in (ancestor CatchClause l all (suc (suc i)) n) up; specifiers = refl }
fits-in st up MethodDefinition l all zero n h = record { catches = refl; key = refl; plain = refl; default = refl; local = local-in (ancestor MethodDefinition l all zero n) up; specifiers = refl }
fits-in st up MethodDefinition l all (suc i) n h = record { catches = refl; key = rw (one-zero i) refl; plain = refl; default = refl; local = local-in (ancestor MethodDefinition l all (suc i) n) up; specifiers = refl }
fits-in st up PropertyDefinition l all zero n h = record { catches = refl; key = refl; plain = refl; default = refl; local = local-in (ancestor PropertyDefinition l all zero n) up; specifiers = refl }
fits-in st up PropertyDefinition l all (suc i) n h = record { catches = refl; key = rw (one-zero i) refl; plain = refl; default = refl; local = local-in (ancestor PropertyDefinition l all (suc i) n) up; specifiers = refl }
fits-in st up ObjectProperty l all zero n h = record { catches = refl; key = refl; plain = refl; default = refl; local = local-in (ancestor ObjectProperty l all zero n) up; specifiers = refl }
fits-in st up ObjectProperty l all (suc i) n h = record { catches = refl; key = refl; plain = rw (one-zero i) refl; default = refl; local = local-in (ancestor ObjectProperty l all (suc i) n) up; specifiers = refl }
fits-in st up PatternProperty l all zero n h = record { catches = refl; key = refl; plain = refl; default = refl; local = local-in (ancestor PatternProperty l all zero n) up; specifiers = refl }
fits-in st up PatternProperty l all (suc i) n h = record { catches = refl; key = refl; plain = rw (one-zero i) refl; default = refl; local = local-in (ancestor PatternProperty l all (suc i) n) up; specifiers = refl }
fits-in st up TargetProperty l all zero n h = record { catches = refl; key = refl; plain = refl; default = refl; local = local-in (ancestor TargetProperty l all zero n) up; specifiers = refl }
fits-in st up TargetProperty l all (suc i) n h = record { catches = refl; key = refl; plain = rw (one-zero i) refl; default = refl; local = local-in (ancestor TargetProperty l all (suc i) n) up; specifiers = refl }
fits-in st up ExportDefaultDeclaration l all zero n h = record { catches = refl; key = refl; plain = refl; default = refl; local = local-in (ancestor ExportDefaultDeclaration l all zero n) up; specifiers = refl }
fits-in st up ExportDefaultDeclaration l all (suc i) n h = record { catches = refl; key = refl; plain = refl; default = one-zero i; local = local-in (ancestor ExportDefaultDeclaration l all (suc i) n) up; specifiers = refl }
fits-in st up ExportNamedDeclaration l all zero n h = record { catches = refl; key = refl; plain = refl; default = refl; local = local-in (ancestor ExportNamedDeclaration l all zero n) up; specifiers = refl }
fits-in st up ExportNamedDeclaration l all (suc zero) n h = let p = plain-specified (third_stands all) in record { catches = p.0; key = p.1; plain = p.2; default = p.3; local = local-in (ancestor ExportNamedDeclaration l all 1 n) up ∙ p.4; specifiers = specified-is (third_stands all) }
fits-in st up ExportNamedDeclaration l all (suc (suc i)) n h = record { catches = refl; key = refl; plain = refl; default = refl; local = local-in (ancestor ExportNamedDeclaration l all (suc (suc i)) n) up; specifiers = λ j. two-one i j && not (third_stands all) }
fits-in st up ExportSpecifier l all zero n h = let p = plain-local st in record { catches = p.0; key = p.1; plain = p.2; default = p.3; local = local-in (ancestor ExportSpecifier l all zero n) up ∙ h.specifiers ∙ local-is st; specifiers = p.4 }
fits-in st up ExportSpecifier l all (suc i) n h = record { catches = refl; key = refl; plain = refl; default = refl; local = local-in (ancestor ExportSpecifier l all (suc i) n) up ∙ (λ j. one-zero i j && takes_specifiers up); specifiers = refl }
fits-in st up k l all i n h = record { catches = refl; key = refl; plain = refl; default = refl; local = local-in (ancestor k l all i n) up; specifiers = refl }

or-nothing : (b : Bool) → b ≡ (b || false)
or-nothing true = refl
or-nothing false = refl

-- the two rules of one node, where these names are declared
pub wrong-says : (all : List Name) (up : List Ancestor) (c : Around) (st : Stand) (k : AstType) (l : Label) (fs : Fields) → Fits st up → ((x : Text) → c.top x ≡ is_declared all Scope 0 x) → ((x : Text) → c.privates x ≡ list_any (λ n. is_declared all PrivateNames n x) (classes up)) →
    is_wrong c st k l fs ≡ (is_bad_export all up (node k l fs) || is_bad_class all up (node k l fs))
wrong-says all up c st MethodDefinition l fs h t p = refl
wrong-says all up c st PrivateIdentifier l fs h t p = λ i. not (sym h.key i) && (sym h.plain i || not (p (first_text l.texts) i))
wrong-says all up c st ExportNamedDeclaration l fs h t p = or-nothing (is_crowded_export fs)
wrong-says all up c st FunctionDeclaration l fs h t p = (λ i. has_no_name fs && not (sym h.default i)) ∙ or-nothing (has_no_name fs && not (stands_in ExportDefaultDeclaration 0 up))
wrong-says all up c st ClassDeclaration l fs h t p = (λ i. has_no_name fs && not (sym h.default i)) ∙ or-nothing (has_no_name fs && not (stands_in ExportDefaultDeclaration 0 up))
wrong-says all up c st StringLiteral l fs h t p = sym h.local ∙ or-nothing (is_local_export up)
wrong-says all up c st Identifier l fs h t p = (λ i. sym h.local i && not (t (first_text l.texts) i)) ∙ or-nothing (is_local_export up && not (is_declared all Scope 0 (first_text l.texts)))
wrong-says all up c st _ l fs h t p = refl
