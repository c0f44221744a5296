-- Ends in memory, whose calls are numbered from 0, and some of which fail.
use Rattle.std.specs.Prelude.{◌≡◌, ◌⊎◌, ◌-◌, ℕ, List, ◌++◌, length, drop, Contains}
use Rattle.lower_command.specs.Ends.{count_on}

-- the bytes left, the most that a call gives, the calls that fail, the number of the next call, and the faults so far
pub record SourceState : Type 0 where
  pub left : List ℕ
  pub piece : ℕ
  pub fails : List ℕ
  pub call : ℕ
  pub faults : ℕ

-- after a call that gave this many bytes
abbrev pub after_read : SourceState → ℕ → SourceState
after_read s count = record s { left = drop count s.left; call = count_on s.call }

-- after a call that failed
abbrev pub after_failed_read : SourceState → SourceState
after_failed_read s = record s { call = count_on s.call; faults = count_on s.faults }

-- the bytes taken, for how many there is room, the most that a call takes, the calls that fail, the number of the next
-- call, and the faults so far
pub record SinkState : Type 0 where
  pub bytes : List ℕ
  pub room : ℕ
  pub piece : ℕ
  pub fails : List ℕ
  pub call : ℕ
  pub faults : ℕ

-- a write fails now: by its number, or for want of room
abbrev pub FailsNow : SinkState → Type 0
FailsNow s = Contains s.fails s.call ⊎ (s.room ≡ 0)

-- after a call that took these bytes
abbrev pub after_write : SinkState → List ℕ → SinkState
after_write s bytes = record s { bytes = s.bytes ++ bytes; room = s.room - length bytes; call = count_on s.call }

-- after a call that failed
abbrev pub after_failed_write : SinkState → SinkState
after_failed_write s = record s { call = count_on s.call; faults = count_on s.faults }
