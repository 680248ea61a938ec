-- The memory of a core: the frames of the functions that have begun and not yet ended, the last one first. A variable holds a
-- value, or nothing before it is written.
use Rattle.std.specs.Prelude.{ℕ, ℤ, List, [], ◌∷◌, Option, None, Some, drop, slice_get, slice_set}
use Rattle.std.specs.Option.{option_and_then}

-- a value: a number, or a text as its bytes. Values have no addresses
pub data Value : Type 0 where
  Number : (number : ℤ) → Value
  Bytes : (bytes : List ℕ) → Value

-- the frame of a function: its number, and what its variables hold
pub record Frame : Type 0 where
  pub function : ℕ
  pub vars : List (Option Value)

pub record Memory : Type 0 where
  pub frames : List Frame

-- which function the last frame is of. With no frame nothing runs, and the number says nothing
abbrev pub running : List Frame → ℕ
running [] = 0
running (frame ∷ frames) = frame.function

-- what a variable of the last frame holds
abbrev pub held : List Frame → ℕ → Option Value
held [] variable = None
held (frame ∷ frames) variable = option_and_then (λ value. value) (slice_get frame.vars variable)

-- the frames with a value in a variable of the last one
abbrev pub with_value : List Frame → ℕ → Value → List Frame
with_value [] variable value = []
with_value (frame ∷ frames) variable value = record frame { vars = slice_set frame.vars variable (Some value) } ∷ frames

-- a frame begins
abbrev pub with_frame : Frame → Memory → Memory
with_frame frame memory = record memory { frames = frame ∷ memory.frames }

-- the last frame ends
abbrev pub without_frame : Memory → Memory
without_frame memory = record memory { frames = drop 1 memory.frames }
