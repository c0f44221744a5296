-- Texts behind references, as plain texts.
use Rattle.std.specs.Prelude.{ℕ, List, Option, Some, None, map}
use Rattle.std.specs.Borrow.{Bor}
use Rattle.es_tree.specs.Words.{Text}

abbrev pub plain_text : Option (Bor (List ℕ)) → Option Text
plain_text None = None
plain_text (Some s) = Some s.now

abbrev pub plain_texts : List (Option (Bor (List ℕ))) → List (Option Text)
plain_texts ts = map plain_text ts
