-- The number of statements that proper words ask for.
use Rattle.std.proofs.Common.{◌≡◌, ◌≤◌, ℕ, Option, Some, None, List, String, codes, arith}
use Rattle.std.specs.declared.alloc.Global.{Global}
use Rattle.clap.specs.Walk.{Text}
use Rattle.lower_command.specs.Words.{AreProper, IsCountGiven, count_of, generate_of, number_of, value_given}

given_most : (value : Option Text) (n : ℕ) → IsCountGiven value → count_of value ≡ Some n → n ≤ 20000
given_most None n given counted = absurd (cc)
given_most (Some text) n given counted = let same : number_of text ≡ n = cc in omega (arith, given.most)

-- it is at most 20000
pub count_most : (words : List (String Global)) (n : ℕ) → AreProper words → generate_of words ≡ Some n → n ≤ 20000
count_most words n proper counted = given_most (value_given words (codes "generate")) n proper.count counted
