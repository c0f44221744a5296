-- The command line of the tool, and what its words ask for.
use Rattle.std.proofs.Common.{◌≡◌, List, [], true, false, refl, sym, ap, ◌∙◌, subst, String, string_bytes, codes, map, ◌∷◌}
use Rattle.std.specs.Prelude.{None}
use Rattle.clap.specs.Matches.{found_of}
use Rattle.clap.specs.Simple.{App, HasMatchesOf, is_simple, matches_of}
use Rattle.clap.specs.Faults.{fault_of}
use Rattle.clap.specs.declared.error.kind.ErrorKind.TheVariants.{ArgumentConflict, UnknownArgument}
use Rattle.clap.proofs.OnLiterals.{clap_on_literals}
use Rattle.std.specs.declared.alloc.Global.{Global}
use Rattle.clap.specs.Walk.{Row, Text, first_of, rows_of}
use Rattle.clap.specs.declared.parser.matches.ArgMatches.{ArgMatches}
use Rattle.lower_command.specs.Words.{AreProper, AreValues, IsCountGiven, IsModeGiven, IsModuleGiven, given, has_flag, is_set, tool_app}

-- the rows of a parse are those of the command line of the tool
pub rows_are : (a : App) (words : List Text) (m : ArgMatches) → a ≡ tool_app → HasMatchesOf a words m → rows_of (found_of m) ≡ matches_of tool_app words
rows_are a words m same has = (has (ap is_simple same)).0 ∙ ap (λ (b : App). matches_of b words) same

-- words that the command line takes, with values in their tables, are proper
pub proper : (words : List (String Global)) (rows : List Row) → rows ≡ given words → fault_of tool_app (map string_bytes words) ≡ [] → AreValues rows → AreProper words
proper words rows same taken values = record {
  taken = taken;
  helpers = subst (λ (r : List Row). IsModeGiven (first_of (codes "helpers") r)) same values.helpers;
  helper_module = subst (λ (r : List Row). IsModuleGiven (first_of (codes "helper-module") r)) same values.helper_module;
  count = subst (λ (r : List Row). IsCountGiven (first_of (codes "generate") r)) same values.count;
}

-- and proper words have values in their tables
pub proper_values : (words : List (String Global)) (rows : List Row) → rows ≡ given words → AreProper words → AreValues rows
proper_values words rows same p = subst AreValues (sym same) (record { helpers = p.helpers; helper_module = p.helper_module; count = p.count })

-- no option has a value in these rows
record IsWithoutValues (rows : List Row) : Type 0 where
  helpers : first_of (codes "helpers") rows ≡ None
  helper_module : first_of (codes "helper-module") rows ≡ None
  count : first_of (codes "generate") rows ≡ None

-- words of which the command line takes these texts, without values
proper_texts : (words : List (String Global)) (texts : List Text) → map string_bytes words ≡ texts → fault_of tool_app texts ≡ []
    → IsWithoutValues (matches_of tool_app texts) → AreProper words
proper_texts words texts are taken none =
    proper words (matches_of tool_app texts) (ap (matches_of tool_app) (sym are)) (ap (fault_of tool_app) are ∙ taken) (record {
      helpers = subst IsModeGiven (sym none.helpers) tt;
      helper_module = subst IsModuleGiven (sym none.helper_module) tt;
      count = subst IsCountGiven (sym none.count) tt;
    })

no_words-texts : fault_of tool_app [] ≡ []
unfolding clap_on_literals
no_words-texts = refl

no_words-values : IsWithoutValues (matches_of tool_app [])
unfolding clap_on_literals
no_words-values = record { helpers = refl; helper_module = refl; count = refl }

-- no word is needed
pub no_words : AreProper []
no_words = proper_texts [] [] refl no_words-texts no_words-values

twice-texts : fault_of tool_app (codes "--nullish" ∷ codes "--nullish" ∷ []) ≡ ArgumentConflict ∷ []
unfolding clap_on_literals
twice-texts = refl

help-texts : fault_of tool_app (codes "--help" ∷ []) ≡ UnknownArgument ∷ []
unfolding clap_on_literals
help-texts = refl

-- a flag that stands twice is refused, and so is a call for help
pub twice_refused : (words : List (String Global)) → map string_bytes words ≡ codes "--nullish" ∷ codes "--nullish" ∷ [] → AreProper words → ⊥
twice_refused words are proper = let both : ArgumentConflict ∷ [] ≡ [] = sym twice-texts ∙ sym (ap (fault_of tool_app) are) ∙ proper.taken in absurd (cc)

pub help_refused : (words : List (String Global)) → map string_bytes words ≡ codes "--help" ∷ [] → AreProper words → ⊥
help_refused words are proper = let both : UnknownArgument ∷ [] ≡ [] = sym help-texts ∙ sym (ap (fault_of tool_app) are) ∙ proper.taken in absurd (cc)

nullish-texts : fault_of tool_app (codes "--nullish" ∷ []) ≡ []
unfolding clap_on_literals
nullish-texts = refl

nullish-values : IsWithoutValues (matches_of tool_app (codes "--nullish" ∷ []))
unfolding clap_on_literals
nullish-values = record { helpers = refl; helper_module = refl; count = refl }

nullish-set : is_set (codes "nullish") (matches_of tool_app (codes "--nullish" ∷ [])) ≡ true
unfolding clap_on_literals
nullish-set = refl

nullish-all : is_set (codes "all") (matches_of tool_app (codes "--nullish" ∷ [])) ≡ false
unfolding clap_on_literals
nullish-all = refl

-- the one word `--nullish` sets its flag, and not that of all lowerings
pub nullish_alone : (words : List (String Global)) → map string_bytes words ≡ codes "--nullish" ∷ []
    → AreProper words × (has_flag words (codes "nullish") ≡ true) × (has_flag words (codes "all") ≡ false)
nullish_alone words are = (
  proper_texts words _ are nullish-texts nullish-values,
  ap (λ t. is_set (codes "nullish") (matches_of tool_app t)) are ∙ nullish-set,
  ap (λ t. is_set (codes "all") (matches_of tool_app t)) are ∙ nullish-all,
)

empty-texts : fault_of tool_app ([] ∷ []) ≡ UnknownArgument ∷ []
unfolding clap_on_literals
empty-texts = refl

pub empty_refused : (words : List (String Global)) → map string_bytes words ≡ [] ∷ [] → AreProper words → ⊥
empty_refused words are proper = let both : UnknownArgument ∷ [] ≡ [] = sym empty-texts ∙ sym (ap (fault_of tool_app) are) ∙ proper.taken in absurd (cc)
