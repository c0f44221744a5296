use Rattle.std.proofs.Common.{◌≡◌, [], ◌∷◌, map, string_bytes, refl}
use Rattle.lower_command.proofs.Flags.{empty_refused}
use Rattle.lower_command.proofs.words.refused_words.Goals as goal

pub returns : goal.returns
returns c =
    let texts : map string_bytes c.push.new.self.items ≡ [] ∷ [] = rw (c.in_ok-push.ensures.items, c.new-words.ensures.items, c.new.ensures.bytes) refl in
    empty_refused _ texts
